use Rattle.std.proofs.Common.{◌≡◌, arith}
use Rattle.ix_machine_inputs.proofs.values.arrays_input.Goals as goal

pub returns-then-depth-eq1 : goal.returns-then-depth-eq1
returns-then-depth-eq1 c = let one : c.args.depth ≡ 1 = omega (arith, c.if-depth-eq1.true) in rw (c.in-Int.is, one) c.array_input.ensures
