-- The definition on worked texts, by computing.
use Rattle.std.specs.Prelude.{ℕ, List, [], ◌∷◌, ◌++◌, ◌≡◌, Ok, Err, codes}
use Rattle.std.specs.List.{join_with_byte, flat_map}
use Rattle.std.proofs.Common.{refl}
use Rattle.mrcpsp.specs.Project.{ProjectData}
use Rattle.psplib_mm.specs.declared.fault.MmFault.TheVariants as fault
use Rattle.psplib_mm.specs.declared.fault.SectionName.TheVariants.{PrecedenceRelations, RequestsDurations, ResourceAvailabilities}
use Rattle.psplib_mm.specs.declared.fault.LimitName.TheVariants as limit
use Rattle.psplib_mm.specs.Reading.{reading}

abbrev pub text_of : List (List ℕ) → List ℕ
text_of lines = join_with_byte 10 lines

abbrev pub project_A : ProjectData
project_A = record { activities = record { modes = record { duration = 0; renewable = 0 ∷ []; nonrenewable = 0 ∷ [] } ∷ []; successors = 2 ∷ 3 ∷ [] } ∷ record { modes = record { duration = 3; renewable = 2 ∷ []; nonrenewable = 0 ∷ [] } ∷ []; successors = 4 ∷ [] } ∷ record { modes = record { duration = 2; renewable = 2 ∷ []; nonrenewable = 1 ∷ [] } ∷ record { duration = 4; renewable = 1 ∷ []; nonrenewable = 0 ∷ [] } ∷ []; successors = 4 ∷ [] } ∷ record { modes = record { duration = 0; renewable = 0 ∷ []; nonrenewable = 0 ∷ [] } ∷ []; successors = [] } ∷ []; renewable = 3 ∷ []; nonrenewable = 1 ∷ [] }

pub short_A : reading (text_of (codes "jobs (incl. supersource/sink ): 4" ∷ codes "- renewable : 1 R" ∷ codes "- nonrenewable : 1 N" ∷ codes "PRECEDENCE RELATIONS:" ∷ codes "h" ∷ codes "1 1 2 2 3" ∷ codes "2 1 1 4" ∷ codes "3 2 1 4" ∷ codes "4 1 0" ∷ codes "REQUESTS/DURATIONS:" ∷ codes "h" ∷ codes "1 1 0 0 0" ∷ codes "2 1 3 2 0" ∷ codes "3 1 2 2 1" ∷ codes "2 4 1 0" ∷ codes "4 1 0 0 0" ∷ codes "RESOURCEAVAILABILITIES:" ∷ codes "h" ∷ codes "3 1" ∷ [])) ≡ Ok project_A
short_A = refl

pub long_A : reading (text_of (codes "************************************************************************" ∷ codes "file with basedata            : a.bas" ∷ codes "initial value random generator: 1" ∷ codes "************************************************************************" ∷ codes "projects                      :  1" ∷ codes "jobs (incl. supersource/sink ):  4" ∷ codes "horizon                       :  7" ∷ codes "RESOURCES" ∷ codes "  - renewable                 :  1   R" ∷ codes "  - nonrenewable              :  1   N" ∷ codes "  - doubly constrained        :  0   D" ∷ codes "************************************************************************" ∷ codes "PROJECT INFORMATION:" ∷ codes "pronr.  #jobs rel.date duedate tardcost  MPM-Time" ∷ codes "    1      2      0        3        0        3" ∷ codes "************************************************************************" ∷ codes "PRECEDENCE RELATIONS:" ∷ codes "jobnr.    #modes  #successors   successors" ∷ codes "   1        1          2           2   3" ∷ codes "   2        1          1           4" ∷ codes "   3        2          1           4" ∷ codes "   4        1          0" ∷ codes "************************************************************************" ∷ codes "REQUESTS/DURATIONS:" ∷ codes "jobnr. mode duration  R 1  N 1" ∷ codes "------------------------------------------------------------------------" ∷ codes "  1      1     0       0    0" ∷ codes "  2      1     3       2    0" ∷ codes "  3      1     2       2    1" ∷ codes "         2     4       1    0" ∷ codes "  4      1     0       0    0" ∷ codes "************************************************************************" ∷ codes "RESOURCEAVAILABILITIES:" ∷ codes "  R 1  N 1" ∷ codes "    3    1" ∷ codes "************************************************************************" ∷ [])) ≡ Ok project_A
long_A = refl

pub no_text : reading (text_of (codes "" ∷ [])) ≡ Err fault.Header
no_text = refl

pub no_section : reading (text_of (codes "jobs (incl. supersource/sink ): 4" ∷ codes "- renewable : 1 R" ∷ codes "- nonrenewable : 1 N" ∷ codes "h" ∷ codes "1 1 2 2 3" ∷ codes "2 1 1 4" ∷ codes "3 2 1 4" ∷ codes "4 1 0" ∷ codes "REQUESTS/DURATIONS:" ∷ codes "h" ∷ codes "1 1 0 0 0" ∷ codes "2 1 3 2 0" ∷ codes "3 1 2 2 1" ∷ codes "2 4 1 0" ∷ codes "4 1 0 0 0" ∷ codes "RESOURCEAVAILABILITIES:" ∷ codes "h" ∷ codes "3 1" ∷ [])) ≡ Err (fault.Section PrecedenceRelations)
no_section = refl

pub no_number : reading (text_of (codes "jobs (incl. supersource/sink ): 4" ∷ codes "- renewable : 1 R" ∷ codes "- nonrenewable : 1 N" ∷ codes "PRECEDENCE RELATIONS:" ∷ codes "h" ∷ codes "1 1 2 2 3" ∷ codes "2 1 1 4" ∷ codes "3 2 1 4" ∷ codes "4 1 0" ∷ codes "REQUESTS/DURATIONS:" ∷ codes "h" ∷ codes "1 1 0 0 0" ∷ codes "2 1 3 2 0" ∷ codes "3 1 x 2 1" ∷ codes "2 4 1 0" ∷ codes "4 1 0 0 0" ∷ codes "RESOURCEAVAILABILITIES:" ∷ codes "h" ∷ codes "3 1" ∷ [])) ≡ Err (fault.Number 14)
no_number = refl

pub too_many : reading (text_of (codes "jobs (incl. supersource/sink ): 4" ∷ codes "- renewable : 1 R" ∷ codes "- nonrenewable : 1 N" ∷ codes "PRECEDENCE RELATIONS:" ∷ codes "h" ∷ codes "1 1 2 2 3" ∷ codes "2 1 1 4" ∷ codes "3 2 1 4" ∷ codes "4 1 0 0" ∷ codes "REQUESTS/DURATIONS:" ∷ codes "h" ∷ codes "1 1 0 0 0" ∷ codes "2 1 3 2 0" ∷ codes "3 1 2 2 1" ∷ codes "2 4 1 0" ∷ codes "4 1 0 0 0" ∷ codes "RESOURCEAVAILABILITIES:" ∷ codes "h" ∷ codes "3 1" ∷ [])) ≡ Err (fault.Count PrecedenceRelations)
too_many = refl

pub too_few_records : reading (text_of (codes "jobs (incl. supersource/sink ): 5" ∷ codes "- renewable : 1 R" ∷ codes "- nonrenewable : 1 N" ∷ codes "PRECEDENCE RELATIONS:" ∷ codes "h" ∷ codes "1 1 2 2 3" ∷ codes "2 1 1 4" ∷ codes "3 2 1 4" ∷ codes "4 1 0" ∷ codes "REQUESTS/DURATIONS:" ∷ codes "h" ∷ codes "1 1 0 0 0" ∷ codes "2 1 3 2 0" ∷ codes "3 1 2 2 1" ∷ codes "2 4 1 0" ∷ codes "4 1 0 0 0" ∷ codes "RESOURCEAVAILABILITIES:" ∷ codes "h" ∷ codes "3 1" ∷ [])) ≡ Err (fault.Count PrecedenceRelations)
too_few_records = refl

pub mode_count : reading (text_of (codes "jobs (incl. supersource/sink ): 4" ∷ codes "- renewable : 1 R" ∷ codes "- nonrenewable : 1 N" ∷ codes "PRECEDENCE RELATIONS:" ∷ codes "h" ∷ codes "1 1 2 2 3" ∷ codes "2 1 1 4" ∷ codes "3 3 1 4" ∷ codes "4 1 0" ∷ codes "REQUESTS/DURATIONS:" ∷ codes "h" ∷ codes "1 1 0 0 0" ∷ codes "2 1 3 2 0" ∷ codes "3 1 2 2 1" ∷ codes "2 4 1 0" ∷ codes "4 1 0 0 0" ∷ codes "RESOURCEAVAILABILITIES:" ∷ codes "h" ∷ codes "3 1" ∷ [])) ≡ Err (fault.Count RequestsDurations)
mode_count = refl

pub mode_number : reading (text_of (codes "jobs (incl. supersource/sink ): 4" ∷ codes "- renewable : 1 R" ∷ codes "- nonrenewable : 1 N" ∷ codes "PRECEDENCE RELATIONS:" ∷ codes "h" ∷ codes "1 1 2 2 3" ∷ codes "2 1 1 4" ∷ codes "3 2 1 4" ∷ codes "4 1 0" ∷ codes "REQUESTS/DURATIONS:" ∷ codes "h" ∷ codes "1 1 0 0 0" ∷ codes "2 1 3 2 0" ∷ codes "3 1 2 2 1" ∷ codes "3 4 1 0" ∷ codes "4 1 0 0 0" ∷ codes "RESOURCEAVAILABILITIES:" ∷ codes "h" ∷ codes "3 1" ∷ [])) ≡ Err (fault.Numbering 15)
mode_number = refl

pub own_successor : reading (text_of (codes "jobs (incl. supersource/sink ): 4" ∷ codes "- renewable : 1 R" ∷ codes "- nonrenewable : 1 N" ∷ codes "PRECEDENCE RELATIONS:" ∷ codes "h" ∷ codes "1 1 2 2 3" ∷ codes "2 1 1 2" ∷ codes "3 2 1 4" ∷ codes "4 1 0" ∷ codes "REQUESTS/DURATIONS:" ∷ codes "h" ∷ codes "1 1 0 0 0" ∷ codes "2 1 3 2 0" ∷ codes "3 1 2 2 1" ∷ codes "2 4 1 0" ∷ codes "4 1 0 0 0" ∷ codes "RESOURCEAVAILABILITIES:" ∷ codes "h" ∷ codes "3 1" ∷ [])) ≡ Err (fault.Successor 7)
own_successor = refl

pub twice : reading (text_of (codes "jobs (incl. supersource/sink ): 4" ∷ codes "- renewable : 1 R" ∷ codes "- nonrenewable : 1 N" ∷ codes "PRECEDENCE RELATIONS:" ∷ codes "h" ∷ codes "1 1 2 3 3" ∷ codes "2 1 1 4" ∷ codes "3 2 1 4" ∷ codes "4 1 0" ∷ codes "REQUESTS/DURATIONS:" ∷ codes "h" ∷ codes "1 1 0 0 0" ∷ codes "2 1 3 2 0" ∷ codes "3 1 2 2 1" ∷ codes "2 4 1 0" ∷ codes "4 1 0 0 0" ∷ codes "RESOURCEAVAILABILITIES:" ∷ codes "h" ∷ codes "3 1" ∷ [])) ≡ Err (fault.Successor 6)
twice = refl

pub long_duration : reading (text_of (codes "jobs (incl. supersource/sink ): 4" ∷ codes "- renewable : 1 R" ∷ codes "- nonrenewable : 1 N" ∷ codes "PRECEDENCE RELATIONS:" ∷ codes "h" ∷ codes "1 1 2 2 3" ∷ codes "2 1 1 4" ∷ codes "3 2 1 4" ∷ codes "4 1 0" ∷ codes "REQUESTS/DURATIONS:" ∷ codes "h" ∷ codes "1 1 0 0 0" ∷ codes "2 1 1001 2 0" ∷ codes "3 1 2 2 1" ∷ codes "2 4 1 0" ∷ codes "4 1 0 0 0" ∷ codes "RESOURCEAVAILABILITIES:" ∷ codes "h" ∷ codes "3 1" ∷ [])) ≡ Err (fault.Limit limit.Duration)
long_duration = refl

pub longer_duration : reading (text_of (codes "jobs (incl. supersource/sink ): 4" ∷ codes "- renewable : 1 R" ∷ codes "- nonrenewable : 1 N" ∷ codes "PRECEDENCE RELATIONS:" ∷ codes "h" ∷ codes "1 1 2 2 3" ∷ codes "2 1 1 4" ∷ codes "3 2 1 4" ∷ codes "4 1 0" ∷ codes "REQUESTS/DURATIONS:" ∷ codes "h" ∷ codes "1 1 0 0 0" ∷ codes "2 1 9999999999999999999999999999999999999999999999999999999999999999999999999999999999999999999999999999999999999999999999999999999999999999999999999999999999999999999999999999999999999999999999999999999999999999999999999999999999999999999999999999999999999999999999999999999999999999999999999999999999999999999999999999999999999999999999999999999999999999999999999999999999999999999999999999999999999999999999999999999999999999999999999999999999999999999999999999999999999999999999999999999999999999999999999999999999999999999999999999999999999999999999999999999999999999999999999999999999999999999999999999999999999999999999999999999999999999999999999999999999999999999999999999999999999999999999999999999999999999999999999999999999999999999999999999999999999999999999999999999999999999999999999999999999999999999999999999999999999999999999999999999999999999999999999999999999999999999999999999999999999999999999999999999999999999999999999999999999999999999999999999999999999999999999999999999999999999 2 0" ∷ codes "3 1 2 2 1" ∷ codes "2 4 1 0" ∷ codes "4 1 0 0 0" ∷ codes "RESOURCEAVAILABILITIES:" ∷ codes "h" ∷ codes "3 1" ∷ [])) ≡ Err (fault.Limit limit.Duration)
longer_duration = refl

pub few_capacities : reading (text_of (codes "************************************************************************" ∷ codes "file with basedata            : a.bas" ∷ codes "initial value random generator: 1" ∷ codes "************************************************************************" ∷ codes "projects                      :  1" ∷ codes "jobs (incl. supersource/sink ):  4" ∷ codes "horizon                       :  7" ∷ codes "RESOURCES" ∷ codes "  - renewable                 :  1   R" ∷ codes "  - nonrenewable              :  1   N" ∷ codes "  - doubly constrained        :  0   D" ∷ codes "************************************************************************" ∷ codes "PROJECT INFORMATION:" ∷ codes "pronr.  #jobs rel.date duedate tardcost  MPM-Time" ∷ codes "    1      2      0        3        0        3" ∷ codes "************************************************************************" ∷ codes "PRECEDENCE RELATIONS:" ∷ codes "jobnr.    #modes  #successors   successors" ∷ codes "   1        1          2           2   3" ∷ codes "   2        1          1           4" ∷ codes "   3        2          1           4" ∷ codes "   4        1          0" ∷ codes "************************************************************************" ∷ codes "REQUESTS/DURATIONS:" ∷ codes "jobnr. mode duration  R 1  N 1" ∷ codes "------------------------------------------------------------------------" ∷ codes "  1      1     0       0    0" ∷ codes "  2      1     3       2    0" ∷ codes "  3      1     2       2    1" ∷ codes "         2     4       1    0" ∷ codes "  4      1     0       0    0" ∷ codes "************************************************************************" ∷ codes "RESOURCEAVAILABILITIES:" ∷ codes "  R 1  N 1" ∷ codes "    3" ∷ codes "************************************************************************" ∷ [])) ≡ Err (fault.Count ResourceAvailabilities)
few_capacities = refl

pub doubly_constrained : reading (text_of (codes "************************************************************************" ∷ codes "file with basedata            : a.bas" ∷ codes "initial value random generator: 1" ∷ codes "************************************************************************" ∷ codes "projects                      :  1" ∷ codes "jobs (incl. supersource/sink ):  4" ∷ codes "horizon                       :  7" ∷ codes "RESOURCES" ∷ codes "  - renewable                 :  1   R" ∷ codes "  - nonrenewable              :  1   N" ∷ codes "  - doubly constrained        :  1   D" ∷ codes "************************************************************************" ∷ codes "PROJECT INFORMATION:" ∷ codes "pronr.  #jobs rel.date duedate tardcost  MPM-Time" ∷ codes "    1      2      0        3        0        3" ∷ codes "************************************************************************" ∷ codes "PRECEDENCE RELATIONS:" ∷ codes "jobnr.    #modes  #successors   successors" ∷ codes "   1        1          2           2   3" ∷ codes "   2        1          1           4" ∷ codes "   3        2          1           4" ∷ codes "   4        1          0" ∷ codes "************************************************************************" ∷ codes "REQUESTS/DURATIONS:" ∷ codes "jobnr. mode duration  R 1  N 1" ∷ codes "------------------------------------------------------------------------" ∷ codes "  1      1     0       0    0" ∷ codes "  2      1     3       2    0" ∷ codes "  3      1     2       2    1" ∷ codes "         2     4       1    0" ∷ codes "  4      1     0       0    0" ∷ codes "************************************************************************" ∷ codes "RESOURCEAVAILABILITIES:" ∷ codes "  R 1  N 1" ∷ codes "    3" ∷ codes "************************************************************************" ∷ [])) ≡ Err fault.Doubly
doubly_constrained = refl

pub carriage_returns : reading (flat_map (λ l. l ++ 13 ∷ 10 ∷ []) (codes "************************************************************************" ∷ codes "file with basedata            : a.bas" ∷ codes "initial value random generator: 1" ∷ codes "************************************************************************" ∷ codes "projects                      :  1" ∷ codes "jobs (incl. supersource/sink ):  4" ∷ codes "horizon                       :  7" ∷ codes "RESOURCES" ∷ codes "  - renewable                 :  1   R" ∷ codes "  - nonrenewable              :  1   N" ∷ codes "  - doubly constrained        :  0   D" ∷ codes "************************************************************************" ∷ codes "PROJECT INFORMATION:" ∷ codes "pronr.  #jobs rel.date duedate tardcost  MPM-Time" ∷ codes "    1      2      0        3        0        3" ∷ codes "************************************************************************" ∷ codes "PRECEDENCE RELATIONS:" ∷ codes "jobnr.    #modes  #successors   successors" ∷ codes "   1        1          2           2" ∷ codes "   3" ∷ codes "   2        1          1           4" ∷ codes "   3        2          1           4" ∷ codes "   4        1          0" ∷ codes "************************************************************************" ∷ codes "REQUESTS/DURATIONS:" ∷ codes "jobnr. mode duration  R 1  N 1" ∷ codes "------------------------------------------------------------------------" ∷ codes "  1      1     0       0    0" ∷ codes "  2      1     3       2    0" ∷ codes "  3      1     2       2    1" ∷ codes "         2     4       1    0" ∷ codes "  4      1     0       0    0" ∷ codes "************************************************************************" ∷ codes "RESOURCEAVAILABILITIES:" ∷ codes "  R 1  N 1" ∷ codes "    3    1" ∷ codes "************************************************************************" ∷ []) ++ 26 ∷ []) ≡ Ok project_A
carriage_returns = refl
