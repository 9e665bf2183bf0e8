-- Bounds, claims, rounding and forgets, computed by the definitions. What is expected comes from an independent checker.
use Rattle.std.specs.Prelude.{◌≡◌, true, false, ◌==◌, pos, negsuc, List, [], ◌∷◌, Some, refl}
use Rattle.ix_core.specs.declared.fact.PathClaim.TheVariants as claim
use Rattle.ix_facts.specs.Facts.{in_orders}
use Rattle.ix_facts.specs.Bounds
use Rattle.ix_facts.specs.Forget.{of_path, of_field, of_call, of_this, without}
use Rattle.ix_facts.specs.Assume.{claim_facts, proves}
use Rattle.ix_facts.specs.Round.{rounded}
use Rattle.ix_facts.proofs.SameFacts.{same_facts}
use Rattle.ix_core.specs.declared.fact.Path.TheVariants.{Slot, FieldOf}
use Rattle.ix_core.specs.declared.fact.PathOff.TheVariants.{Nothing, Plus, Minus}
use Rattle.ix_core.specs.declared.fact.Fact.{Fact}
use Rattle.ix_core.specs.declared.fact.Fact.TheVariants.{Rng, LenRng, Low, Same, IsLen, Less, Sum, Search, Neg, Upper}

-- s9.f0 + s9.f0 - 11 < s6.length
-- field 0 forgotten
stored_1 : List Fact
stored_1 = Upper (FieldOf 9 0) (Slot 6) (Plus (FieldOf 9 0)) (negsuc 10) ∷ []

row_1 : same_facts (without (of_field 0 (λ s. false)) stored_1) ([]) ≡ true
unfolding stored_1
row_1 = refl

-- s0 in 1073741821..2147483647; s0 >= 1
-- rounded to [-2147483648, -2, -1, 0, 1, 4, 8, 2147483647], slots below 10
stored_2 : List Fact
stored_2 = Rng (Slot 0) (pos 1073741821) (pos 2147483647) ∷ Low (Slot 0) (pos 1) ∷ []

row_2 : same_facts (rounded (negsuc 2147483647 ∷ negsuc 1 ∷ negsuc 0 ∷ pos 0 ∷ pos 1 ∷ pos 4 ∷ pos 8 ∷ pos 2147483647 ∷ []) 10 stored_2) (Rng (Slot 0) (pos 8) (pos 2147483647) ∷ Low (Slot 0) (pos 1) ∷ []) ≡ true
unfolding stored_2
row_2 = refl

-- nothing
-- assumed: s9.f0 neg s5
row_3 : same_facts (claim_facts (claim.Negative (Slot 5)) (FieldOf 9 0)) (Neg (FieldOf 9 0) (Slot 5) ∷ Rng (FieldOf 9 0) (negsuc 2147483647) (negsuc 0) ∷ []) ≡ true
row_3 = refl

-- s9.f0 + s2 + 11 < s5.length
-- rounded to [-2147483648, -2, -1, 0, 1, 5, 7, 2147483647], slots below 10
stored_4 : List Fact
stored_4 = Upper (FieldOf 9 0) (Slot 5) (Plus (Slot 2)) (pos 11) ∷ []

row_4 : same_facts (rounded (negsuc 2147483647 ∷ negsuc 1 ∷ negsuc 0 ∷ pos 0 ∷ pos 1 ∷ pos 5 ∷ pos 7 ∷ pos 2147483647 ∷ []) 10 stored_4) (Upper (FieldOf 9 0) (Slot 5) (Plus (Slot 2)) (pos 7) ∷ []) ≡ true
unfolding stored_4
row_4 = refl

-- nothing
-- assumed: s2 search s5
row_5 : same_facts (claim_facts (claim.Search (Slot 5)) (Slot 2)) (Search (Slot 2) (Slot 5) ∷ Upper (Slot 2) (Slot 5) Nothing (pos 0) ∷ []) ≡ true
row_5 = refl

-- s2 search s6; s2 < s9.f0 - 2; s9.f0 in -2147483648..0
-- proved: s2 neg s6
stored_6 : List Fact
stored_6 = Search (Slot 2) (Slot 6) ∷ Less (Slot 2) (FieldOf 9 0) (negsuc 1) ∷ Rng (FieldOf 9 0) (negsuc 2147483647) (pos 0) ∷ []

row_6 : proves (in_orders stored_6) (claim.Negative (Slot 6)) (Slot 2) ≡ true
unfolding stored_6
row_6 = refl

-- nothing
-- assumed: s5, s9.f1 same
row_7 : same_facts (claim_facts (claim.Same (FieldOf 9 1)) (Slot 5)) (Same (FieldOf 9 1) (Slot 5) ∷ []) ≡ true
row_7 = refl

-- s9.f0 neg s9.f1; s9.f0 search s9.f1
-- a call; field 1 is final, s0 spared
stored_8 : List Fact
stored_8 = Neg (FieldOf 9 0) (FieldOf 9 1) ∷ Search (FieldOf 9 0) (FieldOf 9 1) ∷ []

row_8 : same_facts (without (of_call (λ f. f == 1) (λ s. s == 0)) stored_8) ([]) ≡ true
unfolding stored_8
row_8 = refl

-- s1 < s2 + 7
-- rounded to [-2147483648, -2, -1, 0, 1, 2, 9, 2147483647], slots below 7
stored_9 : List Fact
stored_9 = Less (Slot 1) (Slot 2) (pos 7) ∷ []

row_9 : same_facts (rounded (negsuc 2147483647 ∷ negsuc 1 ∷ negsuc 0 ∷ pos 0 ∷ pos 1 ∷ pos 2 ∷ pos 9 ∷ pos 2147483647 ∷ []) 7 stored_9) (Less (Slot 1) (Slot 2) (pos 9) ∷ []) ≡ true
unfolding stored_9
row_9 = refl

-- s1 < s2 - 2147483644
-- rounded to [-2147483648, -2, -1, 0, 1, 4, 9, 2147483647], slots below 2
stored_10 : List Fact
stored_10 = Less (Slot 1) (Slot 2) (negsuc 2147483643) ∷ []

row_10 : same_facts (rounded (negsuc 2147483647 ∷ negsuc 1 ∷ negsuc 0 ∷ pos 0 ∷ pos 1 ∷ pos 4 ∷ pos 9 ∷ pos 2147483647 ∷ []) 2 stored_10) ([]) ≡ true
unfolding stored_10
row_10 = refl

-- nothing
-- assumed: s6.length >= 5
row_11 : same_facts (claim_facts (claim.Length (pos 5)) (Slot 6)) (LenRng (Slot 6) (pos 5) (pos 2147483647) ∷ []) ≡ true
row_11 = refl

-- nothing
-- assumed: s2 < s1 - 1
row_12 : same_facts (claim_facts (claim.Less (Slot 1) (negsuc 0)) (Slot 2)) (Less (Slot 2) (Slot 1) (negsuc 0) ∷ []) ≡ true
row_12 = refl

-- s2 search s9.f1
-- s9 forgotten
stored_13 : List Fact
stored_13 = Search (Slot 2) (FieldOf 9 1) ∷ []

row_13 : same_facts (without (of_path (Slot 9)) stored_13) ([]) ≡ true
unfolding stored_13
row_13 = refl

-- s9.f0 search s5
-- field 0 forgotten, s9 spared
stored_14 : List Fact
stored_14 = Search (FieldOf 9 0) (Slot 5) ∷ []

row_14 : same_facts (without (of_field 0 (λ s. s == 9)) stored_14) (Search (FieldOf 9 0) (Slot 5) ∷ []) ≡ true
unfolding stored_14
row_14 = refl

-- nothing
-- proved: s9.f1.length >= 0
stored_15 : List Fact
stored_15 = []

row_15 : proves (in_orders stored_15) (claim.Length (pos 0)) (FieldOf 9 1) ≡ true
unfolding stored_15
row_15 = refl

-- s1 in -2147483648..3
-- not proved: s1 in 1..3
stored_16 : List Fact
stored_16 = Rng (Slot 1) (negsuc 2147483647) (pos 3) ∷ []

row_16 : proves (in_orders stored_16) (claim.Range (pos 1) (pos 3)) (Slot 1) ≡ false
unfolding stored_16
row_16 = refl

-- nothing
-- assumed: s1 + 1 < s6.length
row_17 : same_facts (claim_facts (claim.Upper (Slot 6) Nothing (pos 1)) (Slot 1)) (Upper (Slot 1) (Slot 6) Nothing (pos 1) ∷ []) ≡ true
row_17 = refl

-- s0 in -2147483648..-1
-- proved: s0 - 3 < s6.length
stored_18 : List Fact
stored_18 = Rng (Slot 0) (negsuc 2147483647) (negsuc 0) ∷ []

row_18 : proves (in_orders stored_18) (claim.Upper (Slot 6) Nothing (negsuc 2)) (Slot 0) ≡ true
unfolding stored_18
row_18 = refl

-- s9.f1, s5 same; s9.f1, s9.f1 same; s5, s5 same
-- a call; field 1 is final
stored_19 : List Fact
stored_19 = Same (FieldOf 9 1) (Slot 5) ∷ Same (FieldOf 9 1) (FieldOf 9 1) ∷ Same (Slot 5) (Slot 5) ∷ []

row_19 : same_facts (without (of_call (λ f. f == 1) (λ s. false)) stored_19) (Same (FieldOf 9 1) (Slot 5) ∷ Same (FieldOf 9 1) (FieldOf 9 1) ∷ Same (Slot 5) (Slot 5) ∷ []) ≡ true
unfolding stored_19
row_19 = refl

-- s9.f0 >= 1
-- a call; field 1 is final, s9 spared
stored_20 : List Fact
stored_20 = Low (FieldOf 9 0) (pos 1) ∷ []

row_20 : same_facts (without (of_call (λ f. f == 1) (λ s. s == 9)) stored_20) (Low (FieldOf 9 0) (pos 1) ∷ []) ≡ true
unfolding stored_20
row_20 = refl

-- nothing
-- assumed: s0 < s0 + 2
row_21 : same_facts (claim_facts (claim.Less (Slot 0) (pos 2)) (Slot 0)) ([]) ≡ true
row_21 = refl

-- s1 >= 0
-- proved: s1 >= 0
stored_22 : List Fact
stored_22 = Low (Slot 1) (pos 0) ∷ []

row_22 : proves (in_orders stored_22) (claim.Low (pos 0)) (Slot 1) ≡ true
unfolding stored_22
row_22 = refl

-- s0 in -2..-2; s6.length in 4..2147483647
-- proved: s0 search s6
stored_23 : List Fact
stored_23 = Rng (Slot 0) (negsuc 1) (negsuc 1) ∷ LenRng (Slot 6) (pos 4) (pos 2147483647) ∷ []

row_23 : proves (in_orders stored_23) (claim.Search (Slot 6)) (Slot 0) ≡ true
unfolding stored_23
row_23 = refl

-- s2 < s1 + 8; s1 + 7 < s5.length
-- not proved: s2 search s5
stored_24 : List Fact
stored_24 = Less (Slot 2) (Slot 1) (pos 8) ∷ Upper (Slot 1) (Slot 5) Nothing (pos 7) ∷ []

row_24 : proves (in_orders stored_24) (claim.Search (Slot 5)) (Slot 2) ≡ false
unfolding stored_24
row_24 = refl

-- s2 neg s9.f1; s2 search s9.f1
-- proved: s2 neg s9.f1
stored_25 : List Fact
stored_25 = Neg (Slot 2) (FieldOf 9 1) ∷ Search (Slot 2) (FieldOf 9 1) ∷ []

row_25 : proves (in_orders stored_25) (claim.Negative (FieldOf 9 1)) (Slot 2) ≡ true
unfolding stored_25
row_25 = refl

-- s0 < s1 - 12
-- proved: s0 < s1 + 3
stored_26 : List Fact
stored_26 = Less (Slot 0) (Slot 1) (negsuc 11) ∷ []

row_26 : proves (in_orders stored_26) (claim.Less (Slot 1) (pos 3)) (Slot 0) ≡ true
unfolding stored_26
row_26 = refl

-- s0 neg s6; s0 search s6
-- proved: s0 search s6
stored_27 : List Fact
stored_27 = Neg (Slot 0) (Slot 6) ∷ Search (Slot 0) (Slot 6) ∷ []

row_27 : proves (in_orders stored_27) (claim.Search (Slot 6)) (Slot 0) ≡ true
unfolding stored_27
row_27 = refl

-- s0 + 2147483645 < s9.f1.length; s2 = s9.f1.length; s9.f1, s9.f1 same
-- s0 < s2 - 2147483645
stored_28 : List Fact
stored_28 = Upper (Slot 0) (FieldOf 9 1) Nothing (pos 2147483645) ∷ IsLen (Slot 2) (FieldOf 9 1) ∷ Same (FieldOf 9 1) (FieldOf 9 1) ∷ []

row_28 : Bounds.less_bound (in_orders stored_28) (Slot 0) (Slot 2) ≡ negsuc 2147483644
unfolding stored_28
row_28 = refl

-- s2 = s9.f1.length; s9.f1, s9.f1 same
-- proved: s9.f1, s9.f1 same
stored_29 : List Fact
stored_29 = IsLen (Slot 2) (FieldOf 9 1) ∷ Same (FieldOf 9 1) (FieldOf 9 1) ∷ []

row_29 : proves (in_orders stored_29) (claim.Same (FieldOf 9 1)) (FieldOf 9 1) ≡ true
unfolding stored_29
row_29 = refl

-- s2 = s9.f1.length; s9.f1, s9.f1 same
-- not proved: s2 in -2..1
stored_30 : List Fact
stored_30 = IsLen (Slot 2) (FieldOf 9 1) ∷ Same (FieldOf 9 1) (FieldOf 9 1) ∷ []

row_30 : proves (in_orders stored_30) (claim.Range (negsuc 1) (pos 1)) (Slot 2) ≡ false
unfolding stored_30
row_30 = refl

-- s1 = s9.f0 + s2; s2 + 3 < s5.length
-- s1 - s9.f0 + 3 < s5.length
stored_31 : List Fact
stored_31 = Sum (Slot 1) (FieldOf 9 0) (Slot 2) ∷ Upper (Slot 2) (Slot 5) Nothing (pos 3) ∷ []

row_31 : Bounds.upper_bound (in_orders stored_31) (Slot 1) (Slot 5) (Minus (FieldOf 9 0)) ≡ Some (pos 3)
unfolding stored_31
row_31 = refl

-- s5.length in 6..6; s0 in -4..-2
-- proved: s0 neg s5
stored_32 : List Fact
stored_32 = LenRng (Slot 5) (pos 6) (pos 6) ∷ Rng (Slot 0) (negsuc 3) (negsuc 1) ∷ []

row_32 : proves (in_orders stored_32) (claim.Negative (Slot 5)) (Slot 0) ≡ true
unfolding stored_32
row_32 = refl

-- s0.f3 in 1..2; s0 in 1..2; s1.f3 in 1..2; s0.f3 >= 1; s0 >= 1; s1.f3 >= 1
-- a call of the parent's constructor
stored_33 : List Fact
stored_33 = Rng (FieldOf 0 3) (pos 1) (pos 2) ∷ Rng (Slot 0) (pos 1) (pos 2) ∷ Rng (FieldOf 1 3) (pos 1) (pos 2) ∷ Low (FieldOf 0 3) (pos 1) ∷ Low (Slot 0) (pos 1) ∷ Low (FieldOf 1 3) (pos 1) ∷ []

row_33 : same_facts (without of_this stored_33) (Rng (Slot 0) (pos 1) (pos 2) ∷ Rng (FieldOf 1 3) (pos 1) (pos 2) ∷ Low (Slot 0) (pos 1) ∷ Low (FieldOf 1 3) (pos 1) ∷ []) ≡ true
unfolding stored_33
row_33 = refl
