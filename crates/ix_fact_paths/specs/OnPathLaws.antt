-- The facts that name a path are all that name it, in order, and no others than facts.
use Rattle.std.specs.Prelude.{◌≡◌, Bool, List, [], ◌∷◌, filter, refl}
use Rattle.std.proofs.Common.{inl, inr, ap, ⊎_elim}
use Rattle.ix_core.specs.declared.fact.Path.{Path}
use Rattle.ix_core.specs.declared.fact.Fact.{Fact}
use Rattle.ix_facts.specs.Bounds.{is_path}
use Rattle.ix_facts.specs.Facts.{IsIn}
use Rattle.ix_facts.specs.Forget.{names}
use Rattle.ix_core.proofs.Cases.{by_test}
use Rattle.ix_fact_paths.specs.ByPath.{on_it}

filtered_twice : (is : Fact → Bool) (facts : List Fact) → filter is (filter is facts) ≡ filter is facts
filtered_twice is [] = refl
filtered_twice is (fact ∷ facts) = by_test (is fact) (λ t. rw t (rw t (ap (λ l. fact ∷ l) (filtered_twice is facts)))) (λ t. rw t (filtered_twice is facts))

pub on_it_named : (p : Path) (facts : List Fact) → filter (names (is_path p)) (on_it p facts) ≡ filter (names (is_path p)) facts
on_it_named p facts = filtered_twice (names (is_path p)) facts

from_filter : (is : Fact → Bool) (f : Fact) (facts : List Fact) → IsIn f (filter is facts) → IsIn f facts
from_filter is f [] i = i
from_filter is f (g ∷ facts) i =
    by_test (is g) (λ t. ⊎_elim (λ e. inl e) (λ j. inr (from_filter is f facts j)) (rw t at i)) (λ t. inr (from_filter is f facts (rw t at i)))

pub on_it_only : (p : Path) (facts : List Fact) (f : Fact) → IsIn f (on_it p facts) → IsIn f facts
on_it_only p facts f i = from_filter (names (is_path p)) f facts i
