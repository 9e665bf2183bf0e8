-- Two things that a call says where it went well, and what follows from both: cited where a function answers as the call did.
use Rattle.std.proofs.Common.{Result, Ok, Err}
use Rattle.std.specs.Result.{IfOk}

pub both_well : {X E : Type 0} {P Q R : X → Type 0} (call : Result X E) → ((x : X) → P x → Q x → R x) → IfOk call P → IfOk call Q → IfOk call R
both_well (Ok x) follows first second = follows x first second
both_well (Err e) follows first second = tt
