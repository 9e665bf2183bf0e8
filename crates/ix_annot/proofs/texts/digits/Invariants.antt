use Rattle.std.proofs.Common.{◌≡◌, ◌≤◌, length}
use Rattle.std.specs.List.{list_all}
use Rattle.ix_annot.specs.Texts.{value_behind, is_digit}
use Rattle.ix_annot.proofs.texts.digits.Given as goal

abbrev pub invariant-loop-text : goal.invariant-loop-text
invariant-loop-text l = record {
  value : value_behind l.value l.text ≡ value_behind 0 l.initial.text;
  digits : list_all is_digit l.text ≡ list_all is_digit l.initial.text;
  within : l.value ≤ l.most;
}

abbrev pub decreases-loop-text : goal.decreases-loop-text
decreases-loop-text l = length l.text
