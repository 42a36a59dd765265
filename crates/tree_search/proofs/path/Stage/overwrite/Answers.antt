use Rattle.std.proofs.Common.{◌≡◌, ℕ, ◌*◌, ◌<◌, ◌≤◌, arith, refl, sym, ◌∙◌}
use Rattle.tree_search.specs.declared.width.Width.{Width}
use Rattle.tree_search.specs.declared.width.Width.TheVariants.{Small, Large}
use Rattle.mrcpsp.specs.Project.{size}
use Rattle.tree_search.specs.Width.{words_of}
use Rattle.tree_search.proofs.path.Stage.overwrite.Goals as goal

pub copy_lanes-requires : goal.copy_lanes-requires
copy_lanes-requires c =
    let (p, wide, was, new) = c.requires in
    record {
      lanes = c.lanes-lanes.ensures.few;
      none = λ r past among. new.slack r (omega (arith, past, c.lanes-lanes.ensures.exact, wide.nonrenewable)) among;
      beyond = λ r past among. was.slack r (omega (arith, past, c.lanes-lanes.ensures.exact, wide.nonrenewable)) among;
    }

pub copy_lanes-requires-2 : goal.copy_lanes-requires-2
copy_lanes-requires-2 c =
    let (p, wide, was, new) = c.requires in
    record {
      lanes = c.lanes-lanes.ensures.few;
      none = λ r past among. new.free r (omega (arith, past, c.lanes-lanes.ensures.exact, wide.renewable)) among;
      beyond = λ r past among. was.free r (omega (arith, past, c.lanes-lanes.ensures.exact, wide.renewable)) among;
    }

-- with one word all activities are in it
past_words : (w : Width) (n j : ℕ) → (w ≡ Small → n < 64) → 64 * words_of w ≤ j → j < 256 → n ≤ j
past_words Small n j small past below = omega (arith, small refl, past)
past_words Large n j small past below = absurd (omega (arith, past, below))

pub copy_words-requires : goal.copy_words-requires
copy_words-requires c =
    let (p, wide, was, new) = c.requires in
    record {
      count = c.words.ensures.few;
      rest = λ j past below.
          let over : size p ≤ j = past_words c.args.width (size p) j wide.words (omega (arith, past, c.words.ensures.exact)) below in
          was.words j over below ∙ sym (new.words j over below);
    }
