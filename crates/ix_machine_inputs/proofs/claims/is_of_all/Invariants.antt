use Rattle.std.proofs.Common.{◌≡◌, drop}
use Rattle.std.specs.List.{list_all}
use Rattle.ix_core.specs.Heap.{int_reading, no_reading}
use Rattle.ix_core.specs.Inputs as model
use Rattle.ix_machine_inputs.proofs.claims.is_of_all.Given as goal

abbrev pub invariant-loop-n : goal.invariant-loop-n
invariant-loop-n l = list_all (λ n. model.is_true_of l.claim (int_reading n) (λ name. no_reading)) (drop l.n-index l.ns) ≡ list_all (λ n. model.is_true_of l.claim (int_reading n) (λ name. no_reading)) l.ns
