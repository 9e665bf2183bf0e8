use Rattle.std.proofs.Common.{◌≡◌, take, map, length}
use Rattle.ix_machine_inputs.specs.Shown as shown
use Rattle.ix_machine_inputs.specs.Words.{AreValues}
use Rattle.ix_machine_inputs.proofs.values.inputs_of.Given as goal

abbrev pub invariant-loop-number : goal.invariant-loop-number
invariant-loop-number l = record {
  values : AreValues (take l.number l.types) (take l.number (map (λ word. word.now) l.words)) (map shown.input_of l.inputs);
  count : length l.inputs ≡ l.number;
}
