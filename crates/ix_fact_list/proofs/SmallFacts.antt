-- The numbers of a fact are small in each of its orders; so are those of a part of facts whose numbers are small.
use Rattle.std.specs.Prelude.{All, nat_le, List, [], ◌∷◌, length}
use Rattle.std.proofs.lemmas.List.Elements.{All-nil, All-cons, All-head, All-tail}
use Rattle.ix_core.specs.declared.fact.Path.{Path}
use Rattle.ix_core.specs.declared.fact.Fact.{Fact}
use Rattle.ix_facts.specs.Small.{HasSmallNumbers}
use Rattle.ix_facts.specs.Bounds.{is_path}
use Rattle.ix_facts.specs.Forget.{names}
use Rattle.ix_bounds.specs.Ends.{is_end, ends_in}
use Rattle.ix_fact_paths.specs.ByPath.{on_it}
use Rattle.ix_fact_paths.specs.Grouped.{few, on_list}
use Rattle.ix_core.proofs.Cases.{by_test}

on_it_small : (p : Path) (facts : List Fact) → All HasSmallNumbers facts → All HasSmallNumbers (on_it p facts)
on_it_small p [] s = All-nil HasSmallNumbers
on_it_small p (f ∷ facts) s =
    let rest = on_it_small p facts (All-tail HasSmallNumbers f facts s) in
    by_test (names (is_path p) f) (λ t. rw t (All-cons HasSmallNumbers f (on_it p facts) (All-head HasSmallNumbers f facts s) rest)) (λ t. rw t rest)

pub on_list_small : (p : Path) (facts : List Fact) → All HasSmallNumbers facts → All HasSmallNumbers (on_list facts p)
on_list_small p facts s = by_test (nat_le (length facts) few) (λ t. rw t s) (λ t. rw t (on_it_small p facts s))

pub ends_small : (facts : List Fact) → All HasSmallNumbers facts → All HasSmallNumbers (ends_in facts)
ends_small [] s = All-nil HasSmallNumbers
ends_small (f ∷ facts) s =
    let rest = ends_small facts (All-tail HasSmallNumbers f facts s) in
    by_test (is_end f) (λ t. rw t (All-cons HasSmallNumbers f (ends_in facts) (All-head HasSmallNumbers f facts s) rest)) (λ t. rw t rest)
