-- Names are texts.
use Rattle.std.proofs.Common.{◌≡◌, ℕ, zero, suc, ◌<◌, List, [], ◌∷◌, length, true, arith}
use Rattle.std.specs.Prelude.{IsTrue, IsUtf8, All, ◌&&◌, nat_le}
use Rattle.std.specs.List.{list_all}
use Rattle.std.proofs.lemmas.Bool.{and_parts}
use Rattle.std.proofs.lemmas.Bool.Decides.{nat_tests}
use Rattle.std.proofs.lemmas.Str.{IsUtf8-from_ascii}
use Rattle.std.proofs.lemmas.Str.Ascii.{IsAscii-from_all}
use Rattle.farm_core.specs.Name.{is_name, is_mark, begins_well}
use Rattle.farm_core.specs.declared.name.TheConstants.{MOST_NAME}

mark_is_ascii : (b : ℕ) → is_mark b ≡ true → b < 128
mark_is_ascii b h = grind (arith, nat_tests, h)

marks_are_ascii : (bytes : List ℕ) → list_all is_mark bytes ≡ true → All (λ b. b < 128) bytes
marks_are_ascii [] h i d few = absurd (omega (arith, few))
marks_are_ascii (b ∷ bytes) h zero d few = mark_is_ascii b (and_parts (is_mark b) (list_all is_mark bytes) h).0
marks_are_ascii (b ∷ bytes) h (suc i) d few = marks_are_ascii bytes (and_parts (is_mark b) (list_all is_mark bytes) h).1 i d (omega (arith, few))

pub name_is_utf8 : (bytes : List ℕ) → IsTrue (is_name bytes) → IsUtf8 bytes
unfolding is_name
name_is_utf8 bytes h =
    let parts = and_parts (nat_le (length bytes) MOST_NAME) (begins_well bytes && list_all is_mark bytes) h in
    IsUtf8-from_ascii bytes (IsAscii-from_all bytes (marks_are_ascii bytes (and_parts (begins_well bytes) (list_all is_mark bytes) parts.1).1))
