-- What is written for small scripts, computed.
use Rattle.std.proofs.Common.{◌≡◌, ℕ, true, false, List, [], ◌∷◌, ◌++◌, None, refl, map}
use Rattle.std.specs.Prelude.{codes}
use Rattle.std.specs.Fmt.{digits}
use Rattle.farm_core.specs.Purses.{first_member, purse_of, place_of, members_of}
use Rattle.farm_core.specs.Config.{ConfigData}
use Rattle.farm_core.specs.Name.{is_name}
use Rattle.farm_core.specs.Tenant.{newcomers, kept, held, free, book}
use Rattle.session_lines.specs.Script.{Item, requests_of}
use Rattle.farm_replay.specs.Output.{Marked, output_of}
use Rattle.farm_replay.specs.Isolation.{own_requests}

two : ConfigData
two = record {
  tenants = record { name = codes "a"; quanta = 100; jobs = 2; entries = 3; purse = None } ∷ record { name = codes "b"; quanta = 10; jobs = 2; entries = 100; purse = None } ∷ [];
  workers = 2;
  slice = 1000;
}

line : List ℕ → List ℕ
line words = words ++ 10 ∷ []

-- the requests of a script, none of which was refused memory
unrefused : List ℕ → List Marked
unrefused script = map (λ (item : Item). let m : Marked = record { item = item; refused = false } in m) (requests_of script)

script : List ℕ
script = line (codes "@a ledger") ++ line (codes "hello") ++ line (codes "@b status 1") ++ line (codes "take b 1 2") ++ line (codes "give b 1") ++ line (codes "@x ledger") ++ line (codes "@a ledger")
    ++ line (codes "@a fund 1 5") ++ line (codes "@a ledger")

its_output : output_of two (unrefused script)
    ≡ line (codes "@a ledger granted 100 free 100 held 0 spent 0") ++ line (codes "@? no syntax") ++ line (codes "@b no unknown") ++ line (codes "@b no turn") ++ line (codes "@b no turn")
    ++ line (codes "@x no tenant") ++ line (codes "@a ledger granted 100 free 100 held 0 spent 0") ++ line (codes "@a no unknown") ++ line (codes "@a no room")
unfolding two line unrefused script is_name newcomers kept held free book digits purse_of place_of first_member members_of
its_output = refl

-- b's requests alone
b_alone : output_of two (own_requests two 1 (unrefused script)) ≡ line (codes "@b no unknown") ++ line (codes "@b no turn") ++ line (codes "@b no turn")
unfolding two line unrefused script is_name newcomers kept purse_of place_of first_member members_of
b_alone = refl

-- memory that is refused changes nothing, and a request that needs none is answered all the same
refused : List ℕ → List Marked
refused s = map (λ (item : Item). let m : Marked = record { item = item; refused = true } in m) (requests_of s)

ledger_refused : output_of two (refused (line (codes "@a ledger") ++ line (codes "give a 1"))) ≡ line (codes "@a no memory") ++ line (codes "@a no turn")
unfolding two line refused is_name newcomers kept purse_of place_of first_member members_of
ledger_refused = refl

-- a submit for which it is refused is answered before its text is judged, and before it is asked whose it is
submit_refused : output_of two (refused (line (codes "@x submit rule:spt 5 1") ++ line (codes "no project"))) ≡ line (codes "@x no memory")
unfolding two line refused is_name
submit_refused = refl
