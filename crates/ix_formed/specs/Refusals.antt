-- Where in its text a source is refused for its names.
use Rattle.std.specs.Prelude.{ℕ, ◌≤◌}
use Rattle.std.specs.List.{All}
use Rattle.ix_meaning.specs.declared.note.NameError.{NameError}
use Rattle.ix_meaning.specs.declared.note.NameErrors.{NameErrors}
use Rattle.ix_meaning.specs.declared.note.NameErrors.TheVariants.{Errors, Limit, Memory}

-- Each of these errors, or the place that passes a limit, is not behind the end of a text of so many bytes.
abbrev pub IsWithin : ℕ → NameErrors → Type 0
IsWithin end (Errors errors) = All (λ (error : NameError). error.span.from ≤ end) errors
IsWithin end (Limit which place) = place ≤ end
IsWithin end Memory = Unit {0}
