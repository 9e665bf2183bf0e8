use Rattle.std.proofs.Common.{◌≡◌, drop, ◌++◌}
use Rattle.std.specs.HashMap.{get}
use Rattle.ix_meaning.specs.Listed as spec
use Rattle.ix_symbols.specs.Ranks as tested
use Rattle.ix_symbols.proofs.errors.push_firsts.Given as goal

abbrev pub invariant-loop-note : goal.invariant-loop-note
invariant-loop-note l = l.errors.items ++ tested.not_above (λ p. get spec.same_span l.least p) (spec.wrong_annots (drop l.note-index l.notes)) ≡ l.fn.errors.items ++ tested.not_above (λ p. get spec.same_span l.least p) (spec.wrong_annots l.notes)
