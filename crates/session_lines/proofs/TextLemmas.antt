-- The text of a submit, of which the first bytes are kept.
use Rattle.std.proofs.Common.{◌≡◌, ℕ, ◌+◌, ◌-◌, true, false, nat_lt, List, ◌++◌, length, take, min, refl, sym, ap, ◌∙◌, arith, inl, inr, Result, Err, Some, take_all, length-take}
use Rattle.std.proofs.lemmas.Bool.{cases_lt, lt-ltb}
use Rattle.std.proofs.lemmas.List.{append-nil, take_min, take-append-le}
use Rattle.std.proofs.Math.Seq.{take-append-add}
use Rattle.mrcpsp.specs.Project.{ProjectData}
use Rattle.psplib_mm.specs.Gives.{Fails}
use Rattle.psplib_mm.specs.Reading.{reading}
use Rattle.psplib_mm.specs.declared.fault.MmFault.{MmFault}
use Rattle.psplib_mm.specs.declared.fault.MmFault.TheVariants as fault
use Rattle.session_lines.specs.declared.request.LineFault.TheVariants.{File}
use Rattle.session_lines.specs.declared.text.Text.{Text}
use Rattle.session_lines.specs.Script.{TextData, Item, whole_text, submitted, IsAnswerFor}
use Rattle.session_lines.specs.Taken.{IsText, unread}

-- more bytes, as far as there is room
pub take_room : (n : ℕ) (whole more bytes : List ℕ) → bytes ≡ take n whole → bytes ++ take (min (n - length bytes) (length more)) more ≡ take n (whole ++ more)
take_room n whole more bytes e = elim (cases_lt n (length whole)) [
  | inl far ↦
      let kept : length bytes ≡ n = ap length e ∙ (simp length-take (omega arith)) in
      let none : min (n - length bytes) (length more) ≡ 0 = omega arith in
      rw none (append-nil bytes ∙ e ∙ sym (take-append-le n whole more (omega arith)))
  | inr near ↦
      let same : bytes ≡ whole = e ∙ take_all n whole near in
      let up : n ≡ length whole + (n - length whole) = omega arith in
      ap (λ l. bytes ++ l) (take_min (n - length bytes) more)
      ∙ ap (λ (b : List ℕ). b ++ take (n - length b) more) same
      ∙ sym (ap (λ k. take k (whole ++ more)) up ∙ take-append-add whole more (n - length whole))
]

-- bytes past the first 1,048,577 change nothing
reading_kept : (bytes : List ℕ) → reading (take 1048577 bytes) ≡ reading bytes
reading_kept bytes = elim (cases_lt 1048577 (length bytes)) [
  | inl far ↦
      let kept : nat_lt 1048576 (length (take 1048577 bytes)) ≡ true = lt-ltb _ _ (simp length-take (omega arith)) in
      let all : nat_lt 1048576 (length bytes) ≡ true = lt-ltb _ _ (omega arith) in
      rw (kept, all) refl
  | inr near ↦ ap reading (take_all 1048577 bytes near)
]

-- what a text that is whole is answered
pub whole_answer : (text : Text) (said : TextData) → IsText text said → text.is_refused ≡ false → text.is_long ≡ false → (whole_text said).answer ≡ submitted text.head (reading text.bytes.items)
whole_answer text said t refused short =
    let long : said.is_long ≡ false = sym t.long ∙ short in
    let read : reading text.bytes.items ≡ reading said.bytes = ap reading (t.bytes refused short) ∙ reading_kept said.bytes in
    rw (long, read, t.head) refl

pub answers_unread : (item : Item) (who : List ℕ) (read : Result ProjectData MmFault) (f : MmFault) → item.submits ≡ Some who → Fails f read → (read ≡ Err f → item.answer ≡ Err (File who f)) → IsAnswerFor item (Err (unread who f))
answers_unread item who read fault.NoMemory submits fails file = submits
answers_unread item who read f submits fails file = file fails
