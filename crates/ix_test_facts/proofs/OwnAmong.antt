-- Ranges and differences of each path below p in turn are those of p and then of the others, in another order.
use Rattle.std.specs.Prelude.{Bool, ◌≡◌, ℤ, pos, Option, Some, None, List, [], ◌∷◌, ◌++◌, refl}
use Rattle.std.specs.Int.{int_min, int_max}
use Rattle.std.proofs.Common.{inl, inr, ap, sym, ◌∙◌, arith, ⊎_elim}
use Rattle.std.proofs.lemmas.Int.{ints, clamps}
use Rattle.ix_core.specs.declared.fact.Path.{Path}
use Rattle.ix_core.specs.declared.fact.Fact.{Fact}
use Rattle.ix_core.specs.declared.fact.Fact.TheVariants.{Rng, LenRng, Low, Same, IsLen, Less, Sum, Search, Neg, Upper}
use Rattle.ix_core.proofs.Cases.{by_test}
use Rattle.ix_num.specs.Ints.{least_int, greatest_int}
use Rattle.ix_facts.specs.Bounds
use Rattle.ix_facts.specs.Bounds.{is_path, best, best_of, greatest, least, at_least, at_most, own_low_by, range_high_by}
use Rattle.ix_facts.specs.Closure.{kept}
use Rattle.ix_facts.specs.Exact.{if_so, each}
use Rattle.ix_facts.specs.PathOrder.{path_itself}
use Rattle.ix_facts.specs.AfterTest.{below_by, above_by, at_below, at_above}
use Rattle.ix_facts.specs.SameFacts.{HasAll, AreSame}
use Rattle.ix_facts.proofs.Members.{same_itself, same_equal, same_trans, same_app, same_if, same_each, same_kept}
use Rattle.ix_test_facts.specs.OverGroups as over
use Rattle.ix_test_facts.proofs.NewLengths.{Associates, max_apart, min_apart, best_apart, best_joined, kept_low, kept_high}

-- ---- a fact among others

module _ (test : Fact → Bool) (own : Fact) where
  put_there : (facts : List Fact) → HasAll (own ∷ facts) (over.put_before test own facts)
  put_there [] f i = i
  put_there (g ∷ facts) f i =
      by_test (test g)
      (λ t. rw t i)
      (λ t. rw t (⊎_elim (λ e. inr (put_there facts f (inl e))) (λ j. ⊎_elim (λ e. inl e) (λ k. inr (put_there facts f (inr k))) j) i))

  put_back : (facts : List Fact) → HasAll (over.put_before test own facts) (own ∷ facts)
  put_back [] f i = i
  put_back (g ∷ facts) f i =
      by_test (test g)
      (λ t. rw t at i)
      (λ t. ⊎_elim (λ e. inr (inl e)) (λ j. ⊎_elim (λ e. inl e) (λ k. inr (inr k)) (put_back facts f j)) (rw t at i))

  put_same : (facts : List Fact) → AreSame (over.put_before test own facts) (own ∷ facts)
  put_same facts = record { there = put_back facts; back = put_there facts }

own_below : (rule : Path → ℤ → List Fact) (p : Path) (facts : List Fact) → each (below_by rule p) (Less p p (pos 1) ∷ facts) ≡ at_below rule facts p
own_below rule p facts = ap (λ t. if_so t (rule p (pos 1)) ++ each (below_by rule p) facts) (path_itself p)

own_above : (rule : Path → ℤ → List Fact) (q : Path) (facts : List Fact) → each (above_by rule q) (Less q q (pos 1) ∷ facts) ≡ at_above rule facts q
own_above rule q facts = ap (λ t. if_so t (rule q (pos 1)) ++ each (above_by rule q) facts) (path_itself q)

-- ---- rules that give the same facts

each_same : (rule other : Fact → List Fact) → ((f : Fact) → AreSame (rule f) (other f)) → (facts : List Fact) → AreSame (each rule facts) (each other facts)
each_same rule other h [] = same_itself []
each_same rule other h (f ∷ facts) = same_app _ _ _ _ (h f) (each_same rule other h facts)

below_same : (rule other : Path → ℤ → List Fact) (p : Path) → ((r : Path) (c : ℤ) → AreSame (rule r c) (other r c)) → (f : Fact) → AreSame (below_by rule p f) (below_by other p f)
below_same rule other p h (Less r x c) = same_if (is_path x p) _ _ (h r c)
below_same rule other p h (Rng q l k) = same_itself []
below_same rule other p h (LenRng a l k) = same_itself []
below_same rule other p h (Low q c) = same_itself []
below_same rule other p h (Same a b) = same_itself []
below_same rule other p h (IsLen q a) = same_itself []
below_same rule other p h (Sum t y z) = same_itself []
below_same rule other p h (Search q a) = same_itself []
below_same rule other p h (Neg q a) = same_itself []
below_same rule other p h (Upper q a o c) = same_itself []

-- ---- the differences of `p < q + k`

module _ (on_p on_q : List Fact) (p q : Path) (k : ℤ) where
  abbrev below : List Fact
  below = over.with_own_below p on_p

  abbrev above : List Fact
  above = over.with_own_above q on_q

  abbrev in_turn : Path → ℤ → List Fact
  in_turn r c = each (above_by (over.between k r c) q) above

  abbrev own_first : Path → ℤ → List Fact
  own_first r c = at_above (over.between k r c) on_q q

  above_same : (r : Path) (c : ℤ) → AreSame (in_turn r c) (own_first r c)
  above_same r c =
      same_trans _ _ _
      (same_each (above_by (over.between k r c) q) above (Less q q (pos 1) ∷ on_q) (put_same (over.is_to_greater q) (Less q q (pos 1)) on_q))
      (same_equal _ _ (own_above (over.between k r c) q on_q))

  differences_same : AreSame (over.differences_in_turn below above p q k) (over.difference_part on_p on_q p q k)
  differences_same =
      same_trans _ _ _
      (same_each (below_by in_turn p) below (Less p p (pos 1) ∷ on_p) (put_same (over.is_of_greater p) (Less p p (pos 1)) on_p))
      (same_trans _ _ _
      (same_equal _ _ (own_below in_turn p on_p))
      (same_app _ _ _ _ (above_same p (pos 1)) (each_same (below_by in_turn p) (below_by own_first p) (below_same in_turn own_first p above_same) on_p)))

-- ---- the ranges of `p < q + k`

max_turns : (x y : ℤ) → int_max x y ≡ int_max y x
max_turns x y = omega (arith, ints, clamps)

min_turns : (x y : ℤ) → int_min x y ≡ int_min y x
min_turns x y = omega (arith, ints, clamps)

module _ (better : ℤ → ℤ → ℤ) (apart : Associates better) (turns : (x y : ℤ) → better x y ≡ better y x) (by : Fact → Option ℤ) where
  best_turned : (x y : Option ℤ) → best better x y ≡ best better y x
  best_turned None None = refl
  best_turned None (Some y) = refl
  best_turned (Some x) None = refl
  best_turned (Some x) (Some y) = ap Some (turns x y)

  -- the best of what a rule gives of facts is that of them in another order
  best_put : (rule : Fact → List Fact) (test : Fact → Bool) (own : Fact) (facts : List Fact) → best_of better by (each rule (over.put_before test own facts)) ≡ best_of better by (rule own ++ each rule facts)
  best_put rule test own [] = refl
  best_put rule test own (f ∷ facts) =
      let rest = best_of better by (each rule facts) in
      let here = best_of better by (rule f) in
      let mine = best_of better by (rule own) in
      by_test (test f)
      (λ t. rw t refl)
      (λ t. rw t (best_joined better apart by (rule f) (each rule (over.put_before test own facts))
      ∙ (ap (best better here) (best_put rule test own facts ∙ best_joined better apart by (rule own) (each rule facts))
      ∙ (sym (best_apart better apart here mine rest)
      ∙ (ap (λ n. best better n rest) (best_turned here mine)
      ∙ (best_apart better apart mine here rest
      ∙ (ap (best better mine) (sym (best_joined better apart by (rule f) (each rule facts)))
      ∙ sym (best_joined better apart by (rule own) (rule f ++ each rule facts)))))))))

module _ (facts on_p on_q : List Fact) (p q : Path) (k : ℤ) where
  abbrev to : Path → ℤ → List Fact
  to = over.range_to (Bounds.upper_limit facts q) k

  abbrev from : Path → ℤ → List Fact
  from = over.range_from (Bounds.lower_bound facts p) k

  abbrev turned : List Fact
  turned = over.ranges_in_turn (over.with_own_below p on_p) (over.with_own_above q on_q) p q k facts

  ranges_same : AreSame turned (over.range_part facts on_p on_q p q k)
  ranges_same =
      same_app _ _ _ _
      (same_trans _ _ _ (same_each (below_by to p) (over.with_own_below p on_p) (Less p p (pos 1) ∷ on_p) (put_same (over.is_of_greater p) (Less p p (pos 1)) on_p)) (same_equal _ _ (own_below to p on_p)))
      (same_trans _ _ _ (same_each (above_by from q) (over.with_own_above q on_q) (Less q q (pos 1) ∷ on_q) (put_same (over.is_to_greater q) (Less q q (pos 1)) on_q)) (same_equal _ _ (own_above from q on_q)))

  best_ranges : (better : ℤ → ℤ → ℤ) → Associates better → ((x y : ℤ) → better x y ≡ better y x) → (by : Fact → Option ℤ) → best_of better by turned ≡ best_of better by (over.range_part facts on_p on_q p q k)
  best_ranges better apart turns by =
      let upper = each (above_by from q) (over.with_own_above q on_q) in
      best_joined better apart by (each (below_by to p) (over.with_own_below p on_p)) upper
      ∙ (ap (λ n. best better n (best_of better by upper)) (best_put better apart turns by (below_by to p) (over.is_of_greater p) (Less p p (pos 1)) on_p ∙ ap (best_of better by) (own_below to p on_p))
      ∙ (ap (best better (best_of better by (at_below to on_p p))) (best_put better apart turns by (above_by from q) (over.is_to_greater q) (Less q q (pos 1)) on_q ∙ ap (best_of better by) (own_above from q on_q))
      ∙ sym (best_joined better apart by (at_below to on_p p) (at_above from on_q q))))

  lengths_same : (on_x : List Fact) (x : Path) → over.length_by on_x (kept turned) x ≡ over.length_by on_x (kept (over.range_part facts on_p on_q p q k)) x
  lengths_same on_x x =
      let first = over.range_part facts on_p on_q p q k in
      ap (λ n. each (over.length_at x (at_least (at_least least_int n) (greatest (own_low_by x) on_x)) (at_most (Bounds.range_high (kept turned) x) (least (range_high_by x) on_x))) on_x)
      (kept_low x turned ∙ (best_ranges int_max max_apart max_turns (own_low_by x) ∙ sym (kept_low x first)))
      ∙ ap (λ n. each (over.length_at x (at_least (Bounds.own_low (kept first) x) (greatest (own_low_by x) on_x)) (at_most (at_most greatest_int n) (least (range_high_by x) on_x))) on_x)
      (kept_high x turned ∙ (best_ranges int_min min_apart min_turns (range_high_by x) ∙ sym (kept_high x first)))

-- ---- all of `p < q + k`

pub ordered_same : (facts on_p on_q : List Fact) (p q : Path) (k : ℤ) → AreSame (over.ordered_facts facts on_p on_q p q k) (over.read_facts facts on_p on_q p q k)
ordered_same facts on_p on_q p q k =
    let ranges = kept (over.range_part facts on_p on_q p q k) in
    let bounds = kept (over.bound_part on_p on_q p q k) in
    let parts = kept (each (over.parts_by p on_p) bounds) in
    let in_turn = kept (over.differences_in_turn (over.with_own_below p on_p) (over.with_own_above q on_q) p q k) in
    let own_first = kept (over.difference_part on_p on_q p q k) in
    let ordered = over.ordered_ranges facts on_p on_q p q k in
    let lengths_p = ap kept (lengths_same facts on_p on_q p q k on_p p) in
    let lengths_q = ap kept (lengths_same facts on_p on_q p q k on_q q) in
    same_app ordered (in_turn ++ (bounds ++ (kept (over.length_by on_p ordered p) ++ (kept (over.length_by on_q ordered q) ++ parts)))) ranges (own_first ++ (bounds ++ (kept (over.length_by on_p ranges p) ++ (kept (over.length_by on_q ranges q) ++ parts))))
    (same_kept _ _ (ranges_same facts on_p on_q p q k))
    (same_app in_turn (bounds ++ (kept (over.length_by on_p ordered p) ++ (kept (over.length_by on_q ordered q) ++ parts))) own_first (bounds ++ (kept (over.length_by on_p ranges p) ++ (kept (over.length_by on_q ranges q) ++ parts)))
    (same_kept _ _ (differences_same on_p on_q p q k))
    (same_equal _ _ (ap (λ l. bounds ++ (l ++ (kept (over.length_by on_q ordered q) ++ parts))) lengths_p ∙ ap (λ l. bounds ++ (kept (over.length_by on_p ranges p) ++ (l ++ parts))) lengths_q)))

-- ---- of lists that are made

pub ranges_by : (facts : List Fact) (p q : Path) (k : ℤ) (l m low high : List Fact) → l ≡ low → m ≡ high → kept (over.ranges_in_turn l m p q k facts) ≡ kept (over.ranges_in_turn low high p q k facts)
ranges_by facts p q k l m low high h i = ap (λ n. kept (over.ranges_in_turn n m p q k facts)) h ∙ ap (λ n. kept (over.ranges_in_turn low n p q k facts)) i

pub differences_by : (p q : Path) (k : ℤ) (l m low high : List Fact) → l ≡ low → m ≡ high → kept (over.differences_in_turn l m p q k) ≡ kept (over.differences_in_turn low high p q k)
differences_by p q k l m low high h i = ap (λ n. kept (over.differences_in_turn n m p q k)) h ∙ ap (λ n. kept (over.differences_in_turn low n p q k)) i

pub ordered_read : (facts l m low high : List Fact) (p q : Path) (k : ℤ) → l ≡ low → m ≡ high → over.ordered_facts facts l m p q k ≡ over.ordered_facts facts low high p q k
ordered_read facts l m low high p q k h i = ap (λ n. over.ordered_facts facts n m p q k) h ∙ ap (λ n. over.ordered_facts facts low n p q k) i
