-- Whether facts say a fact, as a test: so that a value can keep that all that follows from its facts is said.
use Rattle.std.specs.Prelude.{◌≡◌, Bool, true, false, ◌||◌, ◌&&◌, List, [], ◌∷◌}
use Rattle.std.specs.Ordering.{is_eq}
use Rattle.ix_core.specs.declared.fact.Fact.{Fact}
use Rattle.ix_facts.specs.Facts.{is_default, in_orders}
use Rattle.ix_facts.specs.Closure.{Follows}
use Rattle.ix_fact_table.specs.FactOrder.{fact_cmp}
use Rattle.ix_fact_table.specs.Walks.{is_as_strong}

-- at one key, and at least as strong
abbrev pub covers : Fact → Fact → Bool
covers g f = is_eq (fact_cmp g f) && is_as_strong g f

abbrev pub some_covers : List Fact → Fact → Bool
some_covers [] f = false
some_covers (g ∷ facts) f = covers g f || some_covers facts f

abbrev pub is_said : List Fact → Fact → Bool
is_said facts f = is_default f || some_covers (in_orders facts) f

-- all that follows is said
abbrev pub AreClosed : List Fact → Type 0
AreClosed facts = (f : Fact) → Follows facts f → is_said facts f ≡ true
