-- Of each annotation the least rank of its errors: the test that comes first.
use Rattle.std.specs.Prelude.{ℕ, Bool, false, if◌then◌else◌, nat_lt, Option, Some, None, List, [], ◌∷◌}
use Rattle.ix_text.specs.declared.span.Span.{Span}
use Rattle.ix_meaning.specs.declared.note.NameError.{NameError}
use Rattle.ix_meaning.specs.Listed.{rank, same_span}

abbrev pub lesser : Option ℕ → ℕ → Option ℕ
lesser None new = Some new
lesser (Some least) new = if nat_lt new least then Some new else Some least

-- the least rank at a place, and one more error
abbrev pub lesser_at : Span → Option ℕ → NameError → Option ℕ
lesser_at p least e = if same_span e.span p then lesser least (rank e.rule) else least

abbrev pub least_rank : Span → Option ℕ → List NameError → Option ℕ
least_rank p least [] = least
least_rank p least (e ∷ es) = least_rank p (lesser_at p least e) es

abbrev pub is_below : Option ℕ → ℕ → Bool
is_below None rank = false
is_below (Some least) rank = nat_lt least rank

-- the errors that are no later than the least at their place
abbrev pub not_above : (Span → Option ℕ) → List NameError → List NameError
not_above least [] = []
not_above least (e ∷ es) = if is_below (least e.span) (rank e.rule) then not_above least es else e ∷ not_above least es
