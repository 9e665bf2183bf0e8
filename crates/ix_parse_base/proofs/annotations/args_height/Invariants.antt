use Rattle.std.proofs.Common.{◌≡◌, ◌≤◌, max, drop}
use Rattle.ix_grammar.specs.AnnotGrammar.{args_height}
use Rattle.ix_parse_base.proofs.annotations.args_height.Given as goal

abbrev pub invariant-loop-arg : goal.invariant-loop-arg
invariant-loop-arg l = record {
  is : max l.greatest (args_height (drop l.arg-index l.args)) ≡ args_height l.args;
  low : l.greatest ≤ 2;
}
