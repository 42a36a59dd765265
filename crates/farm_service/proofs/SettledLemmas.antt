-- What holds if a service ends well.
use Rattle.std.specs.Prelude.{Result, Ok, Err, OnOk}

pub on_ok : {A E : Type 0} (result : Result A E) (P Q : Type 0) → (P → Q) → OnOk result P → OnOk result Q
on_ok (Ok value) P Q follows h = follows h
on_ok (Err why) P Q follows h = tt
