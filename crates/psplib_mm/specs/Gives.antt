-- How a function that may run out of memory answers what a definition gives.
use Rattle.std.specs.Prelude.{◌≡◌, Result, Ok, Err}
use Rattle.psplib_mm.specs.declared.fault.MmFault.{MmFault}
use Rattle.psplib_mm.specs.declared.fault.MmFault.TheVariants as fault

-- a fault is the one that reading gives; only want of memory may come in place of it
abbrev pub Fails : {Y : Type 0} → MmFault → Result Y MmFault → Type 0
Fails fault.NoMemory reading = Unit {0}
Fails e reading = reading ≡ Err e

-- the answer of a function, seen by `view`, is what reading gives, unless memory ran out
abbrev pub Gives : {X Y : Type 0} → (X → Y) → Result X MmFault → Result Y MmFault → Type 0
Gives view (Ok x) reading = reading ≡ Ok (view x)
Gives view (Err e) reading = Fails e reading
