-- Those on a path are all facts that name it, in order, and no others than facts.
use Rattle.std.specs.Prelude.{◌≡◌, nat_le, List, length, filter, refl}
use Rattle.ix_core.specs.declared.fact.Path.{Path}
use Rattle.ix_core.specs.declared.fact.Fact.{Fact}
use Rattle.ix_facts.specs.Bounds.{is_path}
use Rattle.ix_facts.specs.Facts.{IsIn}
use Rattle.ix_facts.specs.Forget.{names}
use Rattle.ix_core.proofs.Cases.{by_test}
use Rattle.ix_fact_paths.specs.Grouped.{few, on_list}
use Rattle.ix_fact_paths.specs.OnPathLaws.{on_it_named, on_it_only}

pub on_list_named : (p : Path) (facts : List Fact) → filter (names (is_path p)) (on_list facts p) ≡ filter (names (is_path p)) facts
on_list_named p facts = by_test (nat_le (length facts) few) (λ t. rw t refl) (λ t. rw t (on_it_named p facts))

pub on_list_only : (p : Path) (facts : List Fact) (f : Fact) → IsIn f (on_list facts p) → IsIn f facts
on_list_only p facts f i = by_test (nat_le (length facts) few) (λ t. rw t at i) (λ t. on_it_only p facts f (rw t at i))
