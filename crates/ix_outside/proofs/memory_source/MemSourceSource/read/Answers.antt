use Rattle.std.proofs.Common.{arith}
use Rattle.ix_outside.proofs.memory_source.MemSourceSource.read.Goals as goal

pub returns-clause-keeps_sure : goal.returns-clause-keeps_sure
returns-clause-keeps_sure c = λ other sure. (sure.0, λ k later. sure.1 k (omega (arith, c.after_call-self.ensures.grows)))

pub returns-clause-opened_sure : goal.returns-clause-opened_sure
returns-clause-opened_sure c = λ sure. (sure.0, λ k later. sure.1 k (omega (arith, c.after_call-self.ensures.grows)))
