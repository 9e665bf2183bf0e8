-- The errors of places where `this` of a constructor is used.
use Rattle.std.specs.Prelude.{Bool, if◌then◌else◌, List, [], ◌∷◌}
use Rattle.ix_text.specs.declared.span.Span.{Span}
use Rattle.ix_errors.specs.declared.ranked.Ranked.{Ranked}
use Rattle.ix_signatures.specs.SignErrors.{plain}

abbrev pub place_if : Bool → Span → List Span
place_if so place = if so then place ∷ [] else []

-- one for each place, `this.escapes`
abbrev pub errors_at : List Span → List Ranked
errors_at [] = []
errors_at (place ∷ places) = record { error = plain 14 place; rank = 0 } ∷ errors_at places
