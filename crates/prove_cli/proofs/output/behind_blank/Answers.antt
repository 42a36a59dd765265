use Rattle.std.proofs.Common.{None, lit<}
use Rattle.std.proofs.lemmas.Str.Pattern.{strip_prefix_char}
use Rattle.prove_cli.proofs.LineLemmas.{behind-none}
use Rattle.prove_cli.proofs.output.behind_blank.Goals as goal

pub returns-in-None : goal.returns-in-None
returns-in-None c = behind-none c.args.words.now c.requires (strip_prefix_char 32 c.args.words.now None c.in-None.ensures.cases (lit< tt))
