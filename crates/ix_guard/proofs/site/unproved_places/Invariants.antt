use Rattle.std.proofs.Common.{◌≡◌, ◌||◌, drop}
use Rattle.std.specs.List.{list_any}
use Rattle.std.specs.HashSet.{contains}
use Rattle.ix_meaning.specs.Listed.{same_span}
use Rattle.ix_text.specs.declared.span.Span.{Span}
use Rattle.ix_guard.specs.Tests as spec
use Rattle.ix_guard.proofs.site.unproved_places.Given as goal

abbrev pub invariant-loop-error : goal.invariant-loop-error
invariant-loop-error l =
    (place : Span) → (contains same_span l.places place || list_any (spec.is_bound_error place) (drop l.error-index l.errors)) ≡ list_any (spec.is_bound_error place) l.errors
