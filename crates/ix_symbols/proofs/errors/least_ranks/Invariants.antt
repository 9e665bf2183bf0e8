use Rattle.std.proofs.Common.{◌≡◌, drop, None}
use Rattle.std.specs.HashMap.{get}
use Rattle.ix_text.specs.declared.span.Span.{Span}
use Rattle.ix_meaning.specs.Listed as spec
use Rattle.ix_symbols.specs.Ranks as tested
use Rattle.ix_symbols.proofs.errors.least_ranks.Given as goal

abbrev pub invariant-loop-note : goal.invariant-loop-note
invariant-loop-note l = (p : Span) → tested.least_rank p (get spec.same_span l.least p) (spec.wrong_annots (drop l.note-index l.notes)) ≡ tested.least_rank p None (spec.wrong_annots l.notes)
