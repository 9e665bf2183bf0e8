-- How many loops an item has.
use Rattle.std.specs.Prelude.{◌≡◌, ℕ, suc, ◌+◌, ◌∷◌, ◌++◌, length, refl}
use Rattle.std.proofs.Common.{arith, ap, length-append}
use Rattle.ix_core.specs.Code.{Code}
use Rattle.ix_core.specs.Formed.{loop_numbers}
use Rattle.ix_cert.specs.Adding.{AddsLoops}

pub two_blocks : (item : Code → Code) (first second : Code) (old between new : ℕ) → ((rest : Code) → loop_numbers (item rest) ≡ loop_numbers first ++ (loop_numbers second ++ loop_numbers rest))
    → between ≡ old + length (loop_numbers first) → new ≡ between + length (loop_numbers second) → AddsLoops item old new
two_blocks item first second old between new of one two rest =
    let whole = ap length (of rest) in
    omega (arith, whole, one, two, length-append (loop_numbers first) (loop_numbers second ++ loop_numbers rest), length-append (loop_numbers second) (loop_numbers rest))

pub one_loop : (item : Code → Code) (body : Code) (number old between new : ℕ) → ((rest : Code) → loop_numbers (item rest) ≡ number ∷ (loop_numbers body ++ loop_numbers rest))
    → between ≡ old + 1 → new ≡ between + length (loop_numbers body) → AddsLoops item old new
one_loop item body number old between new of one two rest =
    let whole = ap length (of rest) in
    let head : length (number ∷ (loop_numbers body ++ loop_numbers rest)) ≡ suc (length (loop_numbers body ++ loop_numbers rest)) = refl in
    omega (arith, whole, head, one, two, length-append (loop_numbers body) (loop_numbers rest))
