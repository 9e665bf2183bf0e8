-- Of the ranges, classes and lengths that name a path, and of the differences and lengths, those on it are all.
use Rattle.std.specs.Prelude.{◌≡◌, Bool, nat_le, List, [], ◌∷◌, length, filter, refl}
use Rattle.std.proofs.Common.{ap, ◌∙◌}
use Rattle.ix_core.specs.declared.fact.Path.{Path}
use Rattle.ix_core.specs.declared.fact.Fact.{Fact}
use Rattle.ix_core.proofs.Cases.{by_test}
use Rattle.ix_facts.specs.Bounds.{is_path}
use Rattle.ix_facts.specs.Forget.{names}
use Rattle.ix_bounds.specs.Ends.{is_end, ends_in}
use Rattle.ix_bounds.specs.Links.{is_link, links_in}
use Rattle.ix_bounds.specs.Lengths.{is_len, lengths_in, lengths_of_ends}
use Rattle.ix_fact_paths.specs.Grouped.{few, on_list}
use Rattle.ix_fact_paths.specs.OnListLaws.{on_list_named}

-- what two tests let through, one after the other, the first lets through
filtered_twice : (is other : Fact → Bool) (facts : List Fact) → filter is (filter other (filter is facts)) ≡ filter other (filter is facts)
filtered_twice is other [] = refl
filtered_twice is other (fact ∷ facts) =
    by_test (is fact)
    (λ t. rw t (by_test (other fact) (λ u. rw u (rw t (ap (λ l. fact ∷ l) (filtered_twice is other facts)))) (λ u. rw u (filtered_twice is other facts))))
    (λ t. rw t (filtered_twice is other facts))

pub filtered_once : (is : Fact → Bool) (facts : List Fact) → filter is (filter is facts) ≡ filter is facts
filtered_once is [] = refl
filtered_once is (fact ∷ facts) = by_test (is fact) (λ t. rw t (rw t (ap (λ l. fact ∷ l) (filtered_once is facts)))) (λ t. rw t (filtered_once is facts))

such_on : (is : Fact → Bool) (p : Path) (facts : List Fact) → filter is (on_list (filter is facts) p) ≡ on_list (filter is facts) p
such_on is p facts = by_test (nat_le (length (filter is facts)) few) (λ t. rw t (filtered_once is facts)) (λ t. rw t (filtered_twice is (names (is_path p)) facts))

pub ends_named : (p : Path) (facts : List Fact) → filter (names (is_path p)) (ends_in (on_list (ends_in facts) p)) ≡ filter (names (is_path p)) (ends_in facts)
ends_named p facts = ap (filter (names (is_path p))) (such_on is_end p facts) ∙ on_list_named p (ends_in facts)

both_through : (is other : Fact → Bool) (facts : List Fact) → filter is (filter other (filter is facts)) ≡ filter is (filter other facts)
both_through is other [] = refl
both_through is other (fact ∷ facts) =
    by_test (is fact)
    (λ t. rw t (by_test (other fact) (λ u. rw u (rw t (ap (λ l. fact ∷ l) (both_through is other facts)))) (λ u. rw u (both_through is other facts))))
    (λ t. rw t (by_test (other fact) (λ u. rw u (rw t (both_through is other facts))) (λ u. rw u (both_through is other facts))))

-- The facts on a path have all differences and lengths that name it.
pub links_among : (p : Path) (facts : List Fact) → filter (names (is_path p)) (links_in (on_list facts p)) ≡ filter (names (is_path p)) (links_in facts)
links_among p facts = by_test (nat_le (length facts) few) (λ t. rw t refl) (λ t. rw t (both_through (names (is_path p)) is_link facts))

-- The ends on a path have all lengths that name it.
pub lengths_among : (p : Path) (facts : List Fact) → filter (names (is_path p)) (lengths_in (on_list (ends_in facts) p)) ≡ filter (names (is_path p)) (lengths_in facts)
lengths_among p facts =
    by_test (nat_le (length (ends_in facts)) few) (λ t. rw t refl) (λ t. rw t (both_through (names (is_path p)) is_len (ends_in facts)))
    ∙ ap (filter (names (is_path p))) (lengths_of_ends facts)
