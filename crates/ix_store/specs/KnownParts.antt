-- Of the ranges, classes and lengths of closed facts, and of their differences and lengths, the parts that are kept apart have all.
use Rattle.std.specs.Prelude.{◌≡◌, ◌<◌, ◌≤◌, Bool, ℕ, zero, suc, List, [], ◌∷◌, length, filter, take, drop, refl}
use Rattle.std.proofs.Common.{ap, sym, ◌∙◌, arith}
use Rattle.ix_core.specs.declared.fact.Path.{Path}
use Rattle.ix_core.specs.declared.fact.Fact.{Fact}
use Rattle.ix_core.proofs.Cases.{by_test}
use Rattle.ix_facts.specs.Bounds.{is_path}
use Rattle.ix_facts.specs.Facts.{in_orders}
use Rattle.ix_facts.specs.Forget.{names}
use Rattle.ix_bounds.specs.Ends.{ends_in}
use Rattle.ix_bounds.specs.Links.{links_in}
use Rattle.ix_bounds.specs.Lengths.{is_len, lengths_in, lengths_of_ends, lengths_of_links}
use Rattle.ix_store.specs.declared.known.Known.{Known}
use Rattle.ix_store.specs.StoredFacts.{facts_in}

pub ends_named : (known : Known) (p : Path) → filter (names (is_path p)) (ends_in (take known.ends (in_orders (facts_in known)))) ≡ filter (names (is_path p)) (ends_in (in_orders (facts_in known)))
ends_named known p = ap (filter (names (is_path p))) known.holds.all_ends

pub links_named : (known : Known) (p : Path) → filter (names (is_path p)) (links_in (drop known.from_links (in_orders (facts_in known)))) ≡ filter (names (is_path p)) (links_in (in_orders (facts_in known)))
links_named known p = ap (filter (names (is_path p))) known.holds.all_links

fewer_behind : (is : Fact → Bool) (k : ℕ) (facts : List Fact) → length (filter is (drop k facts)) ≤ length (filter is facts)
fewer_behind is zero facts = omega arith
fewer_behind is (suc k) [] = omega arith
fewer_behind is (suc k) (f ∷ facts) =
    let fewer = fewer_behind is k facts in
    by_test (is f) (λ t. rw t (omega (arith, fewer))) (λ t. rw t fewer)

not_longer : (is : Fact → Bool) (k : ℕ) (f : Fact) (facts : List Fact) → filter is (drop k facts) ≡ f ∷ filter is facts → ⊥
not_longer is k f facts e = let fewer = fewer_behind is k facts in let longer = ap length e in omega (arith, fewer, longer)

-- where a front has all such facts, and an end, what stands in both has all
in_both : (is : Fact → Bool) (k n : ℕ) (facts : List Fact) → filter is (take n facts) ≡ filter is facts → filter is (drop k facts) ≡ filter is facts → filter is (drop k (take n facts)) ≡ filter is facts
in_both is zero n facts front end = front
in_both is (suc k) zero facts front end = front
in_both is (suc k) (suc n) [] front end = refl
in_both is (suc k) (suc n) (f ∷ facts) front end =
    by_test (is f)
    (λ t. absurd (not_longer is k f facts (rw t at end)))
    (λ t. rw t (in_both is k n facts (rw t at front) (rw t at end)))

pub lengths_named : (known : Known) (p : Path) → filter (names (is_path p)) (lengths_in (drop known.from_links (take known.ends (in_orders (facts_in known))))) ≡ filter (names (is_path p)) (lengths_in (in_orders (facts_in known)))
lengths_named known p =
    let all = in_orders (facts_in known) in
    ap (filter (names (is_path p))) (in_both is_len known.from_links known.ends all
    (sym (lengths_of_ends (take known.ends all)) ∙ (ap lengths_in known.holds.all_ends ∙ lengths_of_ends all))
    (sym (lengths_of_links (drop known.from_links all)) ∙ (ap lengths_in known.holds.all_links ∙ lengths_of_links all)))

pub drop_past : (n : ℕ) (facts : List Fact) → length facts < n → drop n facts ≡ []
drop_past zero facts h = absurd (omega (arith, h))
drop_past (suc n) [] h = refl
drop_past (suc n) (f ∷ facts) h = drop_past n facts (omega (arith, h))
