-- What a line asks for: its words, and which request they are.
use Rattle.std.specs.Prelude.{ℕ, ◌&&◌, nat_le, ◌==◌, List, [], ◌∷◌, length, Option, Some, None, option_map, if◌then◌else◌, codes}
use Rattle.psplib_mm.specs.Text.{words_of, is_same}
use Rattle.strategy.specs.declared.kind.Kind.{Kind}
use Rattle.farm_core.specs.Name.{is_name}
use Rattle.session_lines.specs.declared.request.What.{What}
use Rattle.session_lines.specs.declared.request.What.TheVariants.{Fund, Status, Fetch, Cancel, Forget, Ledger, Take, Give, Turn}
use Rattle.session_lines.specs.declared.line.TheConstants.{MOST_LINES}
use Rattle.session_lines.specs.declared.line.LineMeaning.{LineMeaning}
use Rattle.session_lines.specs.declared.line.LineMeaning.TheVariants.{Blank, Whole, Opens, Bad}
-- the number that a word of 1 to 18 digits writes, and the kind of search that a word names
pub use Rattle.strategy.specs.KindWord.{number_in, kind_in}

-- the tenant's name that a word is
abbrev pub name_in : List ℕ → Option (List ℕ)
name_in word = if is_name word then Some word else None

-- the tenant of a line that begins with `@` and a name
abbrev pub tenant_in : List ℕ → Option (List ℕ)
tenant_in [] = None
tenant_in (b ∷ name) = if b == 64 then name_in name else None

-- the number of exactly one word
abbrev pub one_number : List (List ℕ) → Option ℕ
one_number [] = None
one_number (a ∷ []) = number_in a
one_number (a ∷ b ∷ more) = None

-- two numbers, if both are there
abbrev pub pair_of : Option ℕ → Option ℕ → Option (ℕ × ℕ)
pair_of None b = None
pair_of (Some a) None = None
pair_of (Some a) (Some b) = Some (a, b)

-- the numbers of exactly two words
abbrev pub two_numbers : List (List ℕ) → Option (ℕ × ℕ)
two_numbers [] = None
two_numbers (a ∷ []) = None
two_numbers (a ∷ b ∷ []) = pair_of (number_in a) (number_in b)
two_numbers (a ∷ b ∷ c ∷ more) = None

-- a tenant's request other than a submit
abbrev pub what_in : List ℕ → List (List ℕ) → Option What
what_in verb words =
    if is_same verb (codes "fund") then option_map (λ (p : ℕ × ℕ). Fund p.0 p.1) (two_numbers words)
    else if is_same verb (codes "status") then option_map Status (one_number words)
    else if is_same verb (codes "result") then option_map Fetch (one_number words)
    else if is_same verb (codes "cancel") then option_map Cancel (one_number words)
    else if is_same verb (codes "forget") then option_map Forget (one_number words)
    else if is_same verb (codes "ledger") && (length words == 0) then Some Ledger
    else None

-- a request for a turn
abbrev pub turn_in : List ℕ → List (List ℕ) → Option What
turn_in verb words =
    if is_same verb (codes "take") then option_map (λ (p : ℕ × ℕ). Take p.0 p.1) (two_numbers words)
    else if is_same verb (codes "give") then option_map Give (one_number words)
    else if is_same verb (codes "turn") then option_map (λ (p : ℕ × ℕ). Turn p.0 p.1) (two_numbers words)
    else None

-- a submit: its kind, its quanta, and the lines of its text, 1 to 20,000
abbrev pub submit_of : Option Kind → Option ℕ → Option ℕ → Option (Kind × ℕ × ℕ)
submit_of None quanta lines = None
submit_of (Some kind) None lines = None
submit_of (Some kind) (Some quanta) None = None
submit_of (Some kind) (Some quanta) (Some lines) = if nat_le 1 lines && nat_le lines MOST_LINES then Some (kind, quanta, lines) else None

-- a submit, from exactly three words
abbrev pub submit_in : List (List ℕ) → Option (Kind × ℕ × ℕ)
submit_in [] = None
submit_in (kind ∷ []) = None
submit_in (kind ∷ quanta ∷ []) = None
submit_in (kind ∷ quanta ∷ lines ∷ []) = submit_of (kind_in kind) (number_in quanta) (number_in lines)
submit_in (kind ∷ quanta ∷ lines ∷ other ∷ more) = None

-- the meaning of tenant `who`'s submit line, if its words are a submit
abbrev pub opens : List ℕ → Option (Kind × ℕ × ℕ) → LineMeaning
opens who None = Bad (Some who)
opens who (Some submit) = Opens (record { who = who; kind = submit.0; quanta = submit.1; lines = submit.2 })

-- the meaning of tenant `who`'s other line, if its words are a request
abbrev pub asks : List ℕ → Option What → LineMeaning
asks who None = Bad (Some who)
asks who (Some what) = Whole (record { who = who; what = what })

-- the meaning of a tenant's line, after its name
abbrev pub own_line : List ℕ → List (List ℕ) → LineMeaning
own_line who [] = Bad (Some who)
own_line who (verb ∷ words) = if is_same verb (codes "submit") then opens who (submit_in words) else asks who (what_in verb words)

-- the meaning of a turn's line, if its words are a name and a request
abbrev pub turn_for : Option (List ℕ) → Option What → LineMeaning
turn_for None what = Bad None
turn_for (Some who) None = Bad None
turn_for (Some who) (Some what) = Whole (record { who = who; what = what })

-- the meaning of a turn's line, which begins with its verb
abbrev pub turn_line : List ℕ → List (List ℕ) → LineMeaning
turn_line verb [] = Bad None
turn_line verb (name ∷ words) = turn_for (name_in name) (turn_in verb words)

-- the meaning of a line: a tenant's if it begins with `@` and a name, else a turn's
abbrev pub line_for : Option (List ℕ) → List ℕ → List (List ℕ) → LineMeaning
line_for None first words = turn_line first words
line_for (Some who) first words = own_line who words

-- the meaning of a line of these words
abbrev pub meaning_in : List (List ℕ) → LineMeaning
meaning_in [] = Blank
meaning_in (first ∷ words) = line_for (tenant_in first) first words

-- the meaning of a line without its end
abbrev pub meaning_of : List ℕ → LineMeaning
meaning_of line = meaning_in (words_of line)
