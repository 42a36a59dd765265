-- The program's command is one whose words the kit's `clap` defines, and a value that is missing is told as another word.
use Rattle.std.proofs.Common.{◌≡◌, true, Option, Some, None, refl, ap, option_map, unwrap_or, Bor}
use Rattle.clap.specs.Words.{Text, is_simple_and_free}
use Rattle.clap.proofs.OnLiterals.{clap_on_literals}
use Rattle.farm_cli.specs.CommandLine.{farm_app}

pub farm_free : is_simple_and_free farm_app ≡ true
unfolding clap_on_literals
farm_free = refl

-- the text of a borrowed word, or of the one that stands for it where there is none
pub text_or : (found : Option (Bor Text)) (text : Option Text) (missing : Bor Text) → option_map (λ s. s.now) found ≡ text → (unwrap_or found missing).now ≡ unwrap_or text missing.now
text_or None text missing is = ap (λ o. unwrap_or o missing.now) is
text_or (Some s) text missing is = ap (λ o. unwrap_or o missing.now) is
