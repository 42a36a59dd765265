-- The names of tenants.
use Rattle.std.specs.Prelude.{ℕ, ◌+◌, ◌*◌, ◌-◌, get_or, Bool, true, false, ◌&&◌, ◌||◌, nat_le, ◌==◌, List, [], ◌∷◌, length}
use Rattle.std.specs.List.{list_all}
use Rattle.farm_core.specs.declared.name.TheConstants.{MOST_NAME}

-- a lowercase letter, and a byte that may follow one: a lowercase letter, a digit, _ or -
abbrev pub is_letter : ℕ → Bool
is_letter b = nat_le 97 b && nat_le b 122

abbrev pub is_mark : ℕ → Bool
is_mark b = is_letter b || ((nat_le 48 b && nat_le b 57) || ((b == 95) || (b == 45)))

abbrev pub begins_well : List ℕ → Bool
begins_well [] = false
begins_well (b ∷ bytes) = is_letter b

-- 1 to 32 bytes, the first a letter
unfoldable pub is_name : List ℕ → Bool
is_name bytes = nat_le (length bytes) MOST_NAME && (begins_well bytes && list_all is_mark bytes)

abbrev pub same_bytes : List ℕ → List ℕ → Bool
same_bytes [] [] = true
same_bytes [] (c ∷ cs) = false
same_bytes (b ∷ bs) [] = false
same_bytes (b ∷ bs) (c ∷ cs) = (b == c) && same_bytes bs cs

-- the tag of a name, which differs for most names: the length, and the last two bytes
abbrev pub tag_of : List ℕ → ℕ
tag_of name = (get_or name (length name - 2) 0 * 256 + get_or name (length name - 1) 0) * 256 + length name
