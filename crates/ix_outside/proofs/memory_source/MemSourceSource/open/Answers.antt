use Rattle.std.proofs.Common.{arith, refl}
use Rattle.ix_outside.proofs.memory_source.MemSourceSource.open.Goals as goal

pub returns-in-None-clause-keeps_sure : goal.returns-in-None-clause-keeps_sure
returns-in-None-clause-keeps_sure c = λ other sure. (sure.0, λ k later. sure.1 k (omega (arith, c.after_call-self.ensures.grows)))

pub returns-in-Some-clause-keeps_sure : goal.returns-in-Some-clause-keeps_sure
returns-in-Some-clause-keeps_sure c = λ other sure. (sure.0, λ k later. sure.1 k (omega (arith, c.after_call-self.ensures.grows)))

pub returns-in-Some-clause-opened_sure : goal.returns-in-Some-clause-opened_sure
returns-in-Some-clause-opened_sure c = λ sure. (refl, λ k later. sure.1 k (omega (arith, c.after_call-self.ensures.grows)))
