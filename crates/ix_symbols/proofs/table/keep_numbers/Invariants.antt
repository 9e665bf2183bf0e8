use Rattle.std.proofs.Common.{◌≡◌, drop}
use Rattle.std.specs.HashMap.{get}
use Rattle.ix_text.specs.declared.span.Span.{Span}
use Rattle.ix_meaning.specs.Listed.{same_span}
use Rattle.ix_symbols.specs.Numbered as spec
use Rattle.ix_symbols.proofs.table.keep_numbers.Given as goal

abbrev pub invariant-loop-number : goal.invariant-loop-number
invariant-loop-number l = record {
  meanings : (p : Span) → spec.first_use p (get same_span l.meanings p) l.number (drop l.number l.notes) ≡ spec.first_use p (get same_span l.fn.meanings p) 0 l.notes;
  types : (p : Span) → spec.first_typed p (get same_span l.types p) l.number (drop l.number l.notes) ≡ spec.first_typed p (get same_span l.fn.types p) 0 l.notes;
  declarations : (p : Span) → spec.first_declared p (get same_span l.declarations p) l.number (drop l.number l.notes) ≡ spec.first_declared p (get same_span l.fn.declarations p) 0 l.notes;
}
