-- What a test lets through of the first facts and of the rest is what it lets through of all.
use Rattle.std.specs.Prelude.{◌≡◌, ℕ, zero, suc, ◌<◌, ◌≤◌, ◌+◌, Bool, true, false, List, [], ◌∷◌, ◌++◌, filter, length, take, drop, slice_index_or, refl}
use Rattle.std.proofs.Common.{arith, add-one, ap, sym, ◌∙◌}
use Rattle.std.proofs.Math.Seq.{drop-cons}
use Rattle.ix_core.specs.declared.fact.Fact.{Fact}
use Rattle.ix_core.proofs.Cases.{by_test}

pub parts_taken : (is : Fact → Bool) (n : ℕ) (facts : List Fact) → filter is (take n facts) ++ filter is (drop n facts) ≡ filter is facts
parts_taken is zero facts = refl
parts_taken is (suc n) [] = refl
parts_taken is (suc n) (f ∷ facts) = by_test (is f) (λ t. rw t (ap (λ l. f ∷ l) (parts_taken is n facts))) (λ t. rw t (parts_taken is n facts))

one_less : (is : Fact → Bool) (f : Fact) (facts : List Fact) → is f ≡ false → filter is (f ∷ facts) ≡ filter is facts
one_less is f facts t = rw t refl

-- One fact further: up to it, if the test lets it through, and else up to where the last one before it ends.
pub parts_further : (is : Fact → Bool) (facts : List Fact) (k last next : ℕ) (d : Fact) → k < length facts → (is (slice_index_or facts k d) ≡ true → next ≡ k + 1) → (is (slice_index_or facts k d) ≡ false → next ≡ last) → filter is (take last facts) ++ filter is (drop k facts) ≡ filter is facts → filter is (take next facts) ++ filter is (drop (k + 1) facts) ≡ filter is facts
parts_further is facts k last next d h here before whole =
    let at : drop k facts ≡ slice_index_or facts k d ∷ drop (k + 1) facts = rw add-one (drop-cons facts k d h) in
    by_test (is (slice_index_or facts k d))
    (λ t. ap (λ n. filter is (take n facts) ++ filter is (drop (k + 1) facts)) (here t) ∙ parts_taken is (k + 1) facts)
    (λ t.
    let rest = ap (filter is) at ∙ one_less is (slice_index_or facts k d) (drop (k + 1) facts) t in
    ap (λ n. filter is (take n facts) ++ filter is (drop (k + 1) facts)) (before t) ∙ (ap (λ l. filter is (take last facts) ++ l) (sym rest) ∙ whole))

pub further_within : (is : Bool) (k last next : ℕ) → (is ≡ true → next ≡ k + 1) → (is ≡ false → next ≡ last) → last ≤ k → next ≤ k + 1
further_within is k last next here before within = by_test is (λ t. omega (arith, here t)) (λ t. omega (arith, before t, within))
