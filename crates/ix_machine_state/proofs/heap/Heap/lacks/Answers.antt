use Rattle.std.proofs.Common.{ap, ◌+◌}
use Rattle.std.specs.Prelude.{nat_lt}
use Rattle.ix_machine_state.proofs.Objects.{used_sum}
use Rattle.ix_machine_state.proofs.heap.Heap.lacks.Goals as goal

pub returns : goal.returns
returns c = ap (λ used. nat_lt c.args.self.now.most (used + (c.args.len + 1))) (used_sum c.args.self.now _ _ c.len.ensures c.len-2.ensures)
