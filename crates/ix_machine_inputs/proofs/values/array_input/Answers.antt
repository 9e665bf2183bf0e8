use Rattle.std.proofs.Common.{arith}
use Rattle.ix_machine_inputs.proofs.Typed.{long_is}
use Rattle.ix_machine_inputs.proofs.values.array_input.Goals as goal

pub returns-else-len-le2147483647 : goal.returns-else-len-le2147483647
returns-else-len-le2147483647 c = λ element. let told = c.in_ok-ns.ensures in let some = rw c.in-Some.is at told in
    long_is c.args.word.now element c.in-Some.ns some (omega (arith, c.if-len-le2147483647.false, c.len.ensures))
