use Rattle.std.proofs.Common.{arith}
use Rattle.serial_pass.proofs.amounts.fits.Goals as goal

pub returns : goal.returns
returns c = (
  λ yes r l. omega (arith, c.is_covered.ensures.0 yes r l, c.requires.small r l, c.requires.few r l),
  λ all. c.is_covered.ensures.1 (λ r l. omega (arith, all r l, c.requires.few r l)),
)
