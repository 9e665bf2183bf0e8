-- What tests tell, computed by the definitions. The expected facts come from an independent checker.
use Rattle.std.specs.Prelude.{◌≡◌, true, pos, negsuc, List, [], ◌∷◌, refl}
use Rattle.ix_num.specs.declared.rel.Rel.TheVariants as rel
use Rattle.ix_facts.specs.AfterTest.{when_true, when_false}
use Rattle.ix_facts.proofs.SameFacts.{int, ints, same_facts, told}
use Rattle.ix_core.specs.declared.fact.Path.TheVariants.{Slot, FieldOf}
use Rattle.ix_core.specs.declared.fact.PathOff.TheVariants.{Nothing, Plus}
use Rattle.ix_core.specs.declared.fact.Fact.{Fact}
use Rattle.ix_core.specs.declared.fact.Fact.TheVariants.{Rng, LenRng, Low, Same, IsLen, Less, Sum, Search, Neg, Upper}

-- nothing
-- s5 == s6 is true, arrays
stored_1 : List Fact
stored_1 = []

row_1 : same_facts (told (when_true ints rel.Eq (Slot 5) (Slot 6)) stored_1) (Same (Slot 5) (Slot 6) ∷ stored_1) ≡ true
unfolding stored_1
row_1 = refl

-- s1 + s2 - 3 < s9.f1.length
-- s1 >= s2 is true
stored_2 : List Fact
stored_2 = Upper (Slot 1) (FieldOf 9 1) (Plus (Slot 2)) (negsuc 2) ∷ []

row_2 : same_facts (told (when_true int rel.Ge (Slot 1) (Slot 2)) stored_2) (Less (Slot 2) (Slot 1) (pos 1) ∷ Upper (Slot 2) (FieldOf 9 1) (Plus (Slot 2)) (negsuc 2) ∷ stored_2) ≡ true
unfolding stored_2
row_2 = refl

-- nothing
-- s0 < s2 is true
stored_3 : List Fact
stored_3 = []

row_3 : same_facts (told (when_true int rel.Lt (Slot 0) (Slot 2)) stored_3) (Rng (Slot 0) (negsuc 2147483647) (pos 2147483646) ∷ Rng (Slot 2) (negsuc 2147483646) (pos 2147483647) ∷ Less (Slot 0) (Slot 2) (pos 0) ∷ stored_3) ≡ true
unfolding stored_3
row_3 = refl

-- nothing
-- s0 <= s2 is true
stored_4 : List Fact
stored_4 = []

row_4 : same_facts (told (when_true int rel.Le (Slot 0) (Slot 2)) stored_4) (Less (Slot 0) (Slot 2) (pos 1) ∷ stored_4) ≡ true
unfolding stored_4
row_4 = refl

-- s2 = s5.length; s5, s5 same
-- s1 > s2 is true
stored_5 : List Fact
stored_5 = IsLen (Slot 2) (Slot 5) ∷ Same (Slot 5) (Slot 5) ∷ []

row_5 : same_facts (told (when_true int rel.Gt (Slot 1) (Slot 2)) stored_5) (Rng (Slot 2) (negsuc 2147483647) (pos 2147483646) ∷ Rng (Slot 1) (pos 1) (pos 2147483647) ∷ Less (Slot 2) (Slot 1) (pos 0) ∷ LenRng (Slot 5) (pos 0) (pos 2147483646) ∷ stored_5) ≡ true
unfolding stored_5
row_5 = refl

-- s0 neg s6; s0 search s6
-- s2 == s0 is true
stored_6 : List Fact
stored_6 = Neg (Slot 0) (Slot 6) ∷ Search (Slot 0) (Slot 6) ∷ []

row_6 : same_facts (told (when_true int rel.Eq (Slot 2) (Slot 0)) stored_6) (Less (Slot 2) (Slot 0) (pos 1) ∷ Less (Slot 0) (Slot 2) (pos 1) ∷ Neg (Slot 2) (Slot 6) ∷ Search (Slot 2) (Slot 6) ∷ stored_6) ≡ true
unfolding stored_6
row_6 = refl

-- s2 = s1 + s2; s0 - 5 < s5.length
-- s0 == s2 is true
stored_7 : List Fact
stored_7 = Sum (Slot 2) (Slot 1) (Slot 2) ∷ Upper (Slot 0) (Slot 5) Nothing (negsuc 4) ∷ []

row_7 : same_facts (told (when_true int rel.Eq (Slot 0) (Slot 2)) stored_7) (Less (Slot 0) (Slot 2) (pos 1) ∷ Less (Slot 2) (Slot 0) (pos 1) ∷ Upper (Slot 2) (Slot 5) Nothing (negsuc 4) ∷ Upper (Slot 1) (Slot 5) (Plus (Slot 2)) (negsuc 4) ∷ stored_7) ≡ true
unfolding stored_7
row_7 = refl

-- s0 = s5.length; s5, s5 same
-- s0 < s1 is false
stored_8 : List Fact
stored_8 = IsLen (Slot 0) (Slot 5) ∷ Same (Slot 5) (Slot 5) ∷ []

row_8 : same_facts (told (when_false int rel.Lt (Slot 0) (Slot 1)) stored_8) (Less (Slot 1) (Slot 0) (pos 1) ∷ Upper (Slot 1) (Slot 5) Nothing (negsuc 0) ∷ stored_8) ≡ true
unfolding stored_8
row_8 = refl

-- s1 search s9.f1
-- s1 == s0 is true
stored_9 : List Fact
stored_9 = Search (Slot 1) (FieldOf 9 1) ∷ []

row_9 : same_facts (told (when_true int rel.Eq (Slot 1) (Slot 0)) stored_9) (Less (Slot 1) (Slot 0) (pos 1) ∷ Less (Slot 0) (Slot 1) (pos 1) ∷ Search (Slot 0) (FieldOf 9 1) ∷ stored_9) ≡ true
unfolding stored_9
row_9 = refl

-- nothing
-- s2 <= s1 is false
stored_10 : List Fact
stored_10 = []

row_10 : same_facts (told (when_false int rel.Le (Slot 2) (Slot 1)) stored_10) (Rng (Slot 1) (negsuc 2147483647) (pos 2147483646) ∷ Rng (Slot 2) (negsuc 2147483646) (pos 2147483647) ∷ Less (Slot 1) (Slot 2) (pos 0) ∷ stored_10) ≡ true
unfolding stored_10
row_10 = refl

-- s1 in 2..3; s1 >= 1
-- s1 == s1 is false
stored_11 : List Fact
stored_11 = Rng (Slot 1) (pos 2) (pos 3) ∷ Low (Slot 1) (pos 1) ∷ []

row_11 : same_facts (told (when_false int rel.Eq (Slot 1) (Slot 1)) stored_11) (stored_11) ≡ true
unfolding stored_11
row_11 = refl

-- nothing
-- s1 > s2 is false
stored_12 : List Fact
stored_12 = []

row_12 : same_facts (told (when_false int rel.Gt (Slot 1) (Slot 2)) stored_12) (Less (Slot 1) (Slot 2) (pos 1) ∷ stored_12) ≡ true
unfolding stored_12
row_12 = refl

-- s2 in 1..1; s1 >= 1; s2 >= 1
-- s1 != s2 is true
stored_13 : List Fact
stored_13 = Rng (Slot 2) (pos 1) (pos 1) ∷ Low (Slot 1) (pos 1) ∷ Low (Slot 2) (pos 1) ∷ []

row_13 : same_facts (told (when_true int rel.Ne (Slot 1) (Slot 2)) stored_13) (Rng (Slot 1) (pos 2) (pos 2147483647) ∷ Less (Slot 2) (Slot 1) (pos 0) ∷ stored_13) ≡ true
unfolding stored_13
row_13 = refl

-- s2 = s9.f0 + s1; s0 = s5.length; s5, s5 same
-- s2 >= s0 is false
stored_14 : List Fact
stored_14 = Sum (Slot 2) (FieldOf 9 0) (Slot 1) ∷ IsLen (Slot 0) (Slot 5) ∷ Same (Slot 5) (Slot 5) ∷ []

row_14 : same_facts (told (when_false int rel.Ge (Slot 2) (Slot 0)) stored_14) (Rng (Slot 2) (negsuc 2147483647) (pos 2147483646) ∷ Rng (Slot 0) (negsuc 2147483646) (pos 2147483647) ∷ Less (Slot 2) (Slot 0) (pos 0) ∷ Upper (Slot 2) (Slot 5) Nothing (pos 0) ∷ Upper (FieldOf 9 0) (Slot 5) (Plus (Slot 1)) (pos 0) ∷ stored_14) ≡ true
unfolding stored_14
row_14 = refl

-- s1 in 2147483647..2147483647; s1 >= 1
-- s0 == s1 is false
stored_15 : List Fact
stored_15 = Rng (Slot 1) (pos 2147483647) (pos 2147483647) ∷ Low (Slot 1) (pos 1) ∷ []

row_15 : same_facts (told (when_false int rel.Eq (Slot 0) (Slot 1)) stored_15) (Rng (Slot 0) (negsuc 2147483647) (pos 2147483646) ∷ Less (Slot 0) (Slot 1) (pos 0) ∷ stored_15) ≡ true
unfolding stored_15
row_15 = refl
