-- What operations give, computed by the definitions. Each rule decides a row: without it, or weaker, the row is another. The expected facts come
-- from an independent checker.
use Rattle.std.specs.Prelude.{◌≡◌, true, pos, negsuc, List, [], ◌∷◌, refl}
use Rattle.ix_num.specs.declared.arith.Arith.TheVariants as arith
use Rattle.ix_core.specs.declared.claim.Base.TheVariants as base
use Rattle.ix_core.specs.declared.claim.Claim.TheVariants as element
use Rattle.ix_core.specs.declared.claim.Type_.TheVariants as type
use Rattle.ix_core.specs.declared.fact.Profile.TheVariants.{Ideal, Int32}
use Rattle.ix_core.specs.declared.op.Literal.TheVariants as literal
use Rattle.ix_core.specs.declared.op.OpKind.TheVariants as op
use Rattle.ix_core.specs.declared.op.UnaryNum.TheVariants as unary
use Rattle.ix_facts.specs.After.{after_facts}
use Rattle.ix_facts.proofs.SameFacts.{int, ints, same_facts}
use Rattle.ix_core.specs.declared.fact.Path.TheVariants.{Slot, FieldOf}
use Rattle.ix_core.specs.declared.fact.PathOff.TheVariants.{Nothing, Plus, Minus}
use Rattle.ix_core.specs.declared.fact.Fact.{Fact}
use Rattle.ix_core.specs.declared.fact.Fact.TheVariants.{Rng, LenRng, Low, Same, IsLen, Less, Sum, Search, Neg, Upper}

-- nothing
-- s3 = s0 + s0 (int32)
stored_1 : List Fact
stored_1 = []

row_1 : same_facts (after_facts stored_1 Int32 (op.Num 3 arith.Add 0 0)) (stored_1) ≡ true
unfolding stored_1
row_1 = refl

-- s9.f0 + s0 + 5 < s6.length
-- s3 = 0 (ideal)
stored_2 : List Fact
stored_2 = Upper (FieldOf 9 0) (Slot 6) (Plus (Slot 0)) (pos 5) ∷ []

row_2 : same_facts (after_facts stored_2 Ideal (op.Const 3 (literal.Int (pos 0)))) (Rng (Slot 3) (pos 0) (pos 0) ∷ Upper (Slot 3) (Slot 6) Nothing (negsuc 0) ∷ stored_2) ≡ true
unfolding stored_2
row_2 = refl

-- nothing
-- s7 = null (int32)
stored_3 : List Fact
stored_3 = []

row_3 : same_facts (after_facts stored_3 Int32 (op.Const 7 (literal.NullOf ints))) (LenRng (Slot 7) (pos 0) (pos 0) ∷ Same (Slot 7) (Slot 7) ∷ stored_3) ≡ true
unfolding stored_3
row_3 = refl

-- nothing
-- s3 = s5[s0], elements Low 1 (int32)
stored_4 : List Fact
stored_4 = []

row_4 : same_facts (after_facts stored_4 Int32 (op.Load 3 5 0 (type.Array base.Int 1 (element.Low (pos 1) ∷ [])))) (Rng (Slot 3) (pos 1) (pos 2147483647) ∷ Low (Slot 3) (pos 1) ∷ stored_4) ≡ true
unfolding stored_4
row_4 = refl

-- s9.f0 + 12 < s5.length
-- s7 = s5, an array (int32)
stored_5 : List Fact
stored_5 = Upper (FieldOf 9 0) (Slot 5) Nothing (pos 12) ∷ []

row_5 : same_facts (after_facts stored_5 Int32 (op.Copy 7 5 ints)) (Same (Slot 5) (Slot 7) ∷ Upper (FieldOf 9 0) (Slot 7) Nothing (pos 12) ∷ stored_5) ≡ true
unfolding stored_5
row_5 = refl

-- nothing
-- s7 = s5[s0], an array (ideal)
stored_6 : List Fact
stored_6 = []

row_6 : same_facts (after_facts stored_6 Ideal (op.Load 7 5 0 (type.Array base.Int 2 []))) (Same (Slot 7) (Slot 7) ∷ stored_6) ≡ true
unfolding stored_6
row_6 = refl

-- s2 - 2147483641 < s5.length
-- s1 = s5.length (int32)
stored_7 : List Fact
stored_7 = Upper (Slot 2) (Slot 5) Nothing (negsuc 2147483640) ∷ []

row_7 : same_facts (after_facts stored_7 Int32 (op.Length 1 5)) (IsLen (Slot 1) (Slot 5) ∷ Rng (Slot 1) (pos 0) (pos 2147483647) ∷ Less (Slot 2) (Slot 1) (pos 2147483641) ∷ stored_7) ≡ true
unfolding stored_7
row_7 = refl

-- nothing
-- s3 = s5[s0], elements Range 2 7 (ideal)
stored_8 : List Fact
stored_8 = []

row_8 : same_facts (after_facts stored_8 Ideal (op.Load 3 5 0 (type.Array base.Int 1 (element.Range (pos 2) (pos 7) ∷ [])))) (Rng (Slot 3) (pos 2) (pos 7) ∷ stored_8) ≡ true
unfolding stored_8
row_8 = refl

-- s1 in -1..-1; s1 >= -1
-- s3 = s2 - s1 (ideal)
stored_9 : List Fact
stored_9 = Rng (Slot 1) (negsuc 0) (negsuc 0) ∷ Low (Slot 1) (negsuc 0) ∷ []

row_9 : same_facts (after_facts stored_9 Ideal (op.Num 3 arith.Sub 2 1)) (Sum (Slot 2) (Slot 1) (Slot 3) ∷ Less (Slot 3) (Slot 2) (pos 2) ∷ Less (Slot 2) (Slot 3) (pos 0) ∷ stored_9) ≡ true
unfolding stored_9
row_9 = refl

-- s2 in 1..1; s0 = s9.f0 + s1; s0 >= 0; s1 < s9.f0 + 1; s2 >= 1
-- s3 = s0 >>> s2 (ideal)
stored_10 : List Fact
stored_10 = Rng (Slot 2) (pos 1) (pos 1) ∷ Sum (Slot 0) (FieldOf 9 0) (Slot 1) ∷ Low (Slot 0) (pos 0) ∷ Less (Slot 1) (FieldOf 9 0) (pos 1) ∷ Low (Slot 2) (pos 1) ∷ []

row_10 : same_facts (after_facts stored_10 Ideal (op.Num 3 arith.Ushr 0 2)) (Rng (Slot 3) (pos 0) (pos 1073741823) ∷ Low (Slot 3) (pos 0) ∷ Less (Slot 3) (Slot 0) (pos 1) ∷ Less (Slot 1) (Slot 3) (pos 1) ∷ Less (Slot 3) (FieldOf 9 0) (pos 1) ∷ stored_10) ≡ true
unfolding stored_10
row_10 = refl

-- s2 neg s5; s2 search s5
-- s3 = s2, an int (int32)
stored_11 : List Fact
stored_11 = Neg (Slot 2) (Slot 5) ∷ Search (Slot 2) (Slot 5) ∷ []

row_11 : same_facts (after_facts stored_11 Int32 (op.Copy 3 2 int)) (Less (Slot 3) (Slot 2) (pos 1) ∷ Less (Slot 2) (Slot 3) (pos 1) ∷ Neg (Slot 3) (Slot 5) ∷ Search (Slot 3) (Slot 5) ∷ stored_11) ≡ true
unfolding stored_11
row_11 = refl

-- s2 - 5 < s5.length
-- s3 = s2 - s0 (ideal)
stored_12 : List Fact
stored_12 = Upper (Slot 2) (Slot 5) Nothing (negsuc 4) ∷ []

row_12 : same_facts (after_facts stored_12 Ideal (op.Num 3 arith.Sub 2 0)) (Sum (Slot 2) (Slot 0) (Slot 3) ∷ Upper (Slot 0) (Slot 5) (Plus (Slot 3)) (negsuc 4) ∷ stored_12) ≡ true
unfolding stored_12
row_12 = refl

-- s2 in 2..2; s0 = s9.f0 + s1; s0 >= 0; s1 < s9.f0; s9.f0 < s1 + 3; s2 >= 1
-- s3 = s0 / s2 (ideal)
stored_13 : List Fact
stored_13 = Rng (Slot 2) (pos 2) (pos 2) ∷ Sum (Slot 0) (FieldOf 9 0) (Slot 1) ∷ Low (Slot 0) (pos 0) ∷ Less (Slot 1) (FieldOf 9 0) (pos 0) ∷ Less (FieldOf 9 0) (Slot 1) (pos 3) ∷ Low (Slot 2) (pos 1) ∷ []

row_13 : same_facts (after_facts stored_13 Ideal (op.Num 3 arith.Div 0 2)) (Rng (Slot 3) (pos 0) (pos 1073741823) ∷ Low (Slot 3) (pos 0) ∷ Less (Slot 3) (Slot 0) (pos 1) ∷ Less (Slot 1) (Slot 3) (pos 1) ∷ Less (Slot 3) (FieldOf 9 0) (pos 0) ∷ Less (FieldOf 9 0) (Slot 3) (pos 3) ∷ Less (Slot 3) (Slot 1) (pos 2) ∷ stored_13) ≡ true
unfolding stored_13
row_13 = refl

-- s0 neg s5; s0 search s5
-- s1 = ~s0 (int32)
stored_14 : List Fact
stored_14 = Neg (Slot 0) (Slot 5) ∷ Search (Slot 0) (Slot 5) ∷ []

row_14 : same_facts (after_facts stored_14 Int32 (op.Unary 1 unary.Flip 0)) (Upper (Slot 1) (Slot 5) Nothing (negsuc 0) ∷ stored_14) ≡ true
unfolding stored_14
row_14 = refl

-- s0 < s1 - 4
-- s7 = new int[s1] (int32)
stored_15 : List Fact
stored_15 = Less (Slot 0) (Slot 1) (negsuc 3) ∷ []

row_15 : same_facts (after_facts stored_15 Int32 (op.NewArray 7 ints 1)) (Same (Slot 7) (Slot 7) ∷ IsLen (Slot 1) (Slot 7) ∷ Upper (Slot 0) (Slot 7) Nothing (pos 4) ∷ stored_15) ≡ true
unfolding stored_15
row_15 = refl

-- s5.length in 0..8; s2 = s5.length; s5, s5 same
-- s7 = new int[s2] (int32)
stored_16 : List Fact
stored_16 = LenRng (Slot 5) (pos 0) (pos 8) ∷ IsLen (Slot 2) (Slot 5) ∷ Same (Slot 5) (Slot 5) ∷ []

row_16 : same_facts (after_facts stored_16 Int32 (op.NewArray 7 ints 2)) (Same (Slot 7) (Slot 7) ∷ IsLen (Slot 2) (Slot 7) ∷ LenRng (Slot 7) (pos 0) (pos 8) ∷ stored_16) ≡ true
unfolding stored_16
row_16 = refl

-- s0 in -2147483648..-2147483648
-- s3 = ~s0 (int32)
stored_17 : List Fact
stored_17 = Rng (Slot 0) (negsuc 2147483647) (negsuc 2147483647) ∷ []

row_17 : same_facts (after_facts stored_17 Int32 (op.Unary 3 unary.Flip 0)) (Rng (Slot 3) (pos 2147483647) (pos 2147483647) ∷ Low (Slot 3) (pos 1) ∷ Less (Slot 0) (Slot 3) (negsuc 2147483647) ∷ stored_17) ≡ true
unfolding stored_17
row_17 = refl

-- s0 + 1073741821 < s9.f1.length
-- s3 = s0 - s1 (ideal)
stored_18 : List Fact
stored_18 = Upper (Slot 0) (FieldOf 9 1) Nothing (pos 1073741821) ∷ []

row_18 : same_facts (after_facts stored_18 Ideal (op.Num 3 arith.Sub 0 1)) (Sum (Slot 0) (Slot 1) (Slot 3) ∷ Upper (Slot 1) (FieldOf 9 1) (Plus (Slot 3)) (pos 1073741821) ∷ Upper (Slot 3) (FieldOf 9 1) Nothing (negsuc 1073741826) ∷ stored_18) ≡ true
unfolding stored_18
row_18 = refl

-- s0 - s0 + 6 < s9.f1.length
-- s1 = s0, an int (int32)
stored_19 : List Fact
stored_19 = Upper (Slot 0) (FieldOf 9 1) (Minus (Slot 0)) (pos 6) ∷ []

row_19 : same_facts (after_facts stored_19 Int32 (op.Copy 1 0 int)) (Less (Slot 1) (Slot 0) (pos 1) ∷ Less (Slot 0) (Slot 1) (pos 1) ∷ Upper (Slot 1) (FieldOf 9 1) (Minus (Slot 0)) (pos 6) ∷ Upper (Slot 0) (FieldOf 9 1) (Minus (Slot 1)) (pos 6) ∷ stored_19) ≡ true
unfolding stored_19
row_19 = refl

-- s2 = s9.f1.length; s9.f1, s9.f1 same
-- s3 = s2 % s0 (int32)
stored_20 : List Fact
stored_20 = IsLen (Slot 2) (FieldOf 9 1) ∷ Same (FieldOf 9 1) (FieldOf 9 1) ∷ []

row_20 : same_facts (after_facts stored_20 Int32 (op.Num 3 arith.Rem 2 0)) (Rng (Slot 3) (pos 0) (pos 2147483647) ∷ Low (Slot 3) (pos 0) ∷ Less (Slot 3) (Slot 2) (pos 1) ∷ Upper (Slot 3) (FieldOf 9 1) Nothing (negsuc 0) ∷ stored_20) ≡ true
unfolding stored_20
row_20 = refl

-- s2 = s9.f1.length; s9.f1, s9.f1 same
-- s3 = s0 % s2 (int32)
stored_21 : List Fact
stored_21 = IsLen (Slot 2) (FieldOf 9 1) ∷ Same (FieldOf 9 1) (FieldOf 9 1) ∷ []

row_21 : same_facts (after_facts stored_21 Int32 (op.Num 3 arith.Rem 0 2)) (Rng (Slot 3) (negsuc 2147483645) (pos 2147483646) ∷ Less (Slot 3) (Slot 2) (pos 0) ∷ Upper (Slot 3) (FieldOf 9 1) Nothing (pos 0) ∷ stored_21) ≡ true
unfolding stored_21
row_21 = refl

-- s1 in -2147483648..-2147483646
-- s7 = {s0, s1, s2} (ideal)
stored_22 : List Fact
stored_22 = Rng (Slot 1) (negsuc 2147483647) (negsuc 2147483645) ∷ []

row_22 : same_facts (after_facts stored_22 Ideal (op.Fill 7 ints (0 ∷ 1 ∷ 2 ∷ []))) (Same (Slot 7) (Slot 7) ∷ LenRng (Slot 7) (pos 3) (pos 3) ∷ Upper (Slot 1) (Slot 7) Nothing (pos 2147483647) ∷ stored_22) ≡ true
unfolding stored_22
row_22 = refl

-- s0 in -1..1; s0 >= -1
-- s3 = s0 & s0 (int32)
stored_23 : List Fact
stored_23 = Rng (Slot 0) (negsuc 0) (pos 1) ∷ Low (Slot 0) (negsuc 0) ∷ []

row_23 : same_facts (after_facts stored_23 Int32 (op.Num 3 arith.And 0 0)) (Low (Slot 3) (negsuc 0) ∷ stored_23) ≡ true
unfolding stored_23
row_23 = refl

-- s2 + 8 < s6.length
-- s3 = s0 + s2 (ideal)
stored_24 : List Fact
stored_24 = Upper (Slot 2) (Slot 6) Nothing (pos 8) ∷ []

row_24 : same_facts (after_facts stored_24 Ideal (op.Num 3 arith.Add 0 2)) (Sum (Slot 3) (Slot 0) (Slot 2) ∷ Less (Slot 3) (Slot 0) (pos 2147483639) ∷ Upper (Slot 3) (Slot 6) Nothing (negsuc 2147483638) ∷ Upper (Slot 3) (Slot 6) (Minus (Slot 2)) (negsuc 2147483647) ∷ Upper (Slot 3) (Slot 6) (Minus (Slot 0)) (pos 8) ∷ stored_24) ≡ true
unfolding stored_24
row_24 = refl

-- s9.f0 + 4 < s9.f1.length; s1 in 0..0; s1 >= 0
-- s3 = ~s1 (int32)
stored_25 : List Fact
stored_25 = Upper (FieldOf 9 0) (FieldOf 9 1) Nothing (pos 4) ∷ Rng (Slot 1) (pos 0) (pos 0) ∷ Low (Slot 1) (pos 0) ∷ []

row_25 : same_facts (after_facts stored_25 Int32 (op.Unary 3 unary.Flip 1)) (Rng (Slot 3) (negsuc 0) (negsuc 0) ∷ Low (Slot 3) (negsuc 0) ∷ Neg (Slot 3) (FieldOf 9 1) ∷ Less (Slot 3) (Slot 1) (pos 0) ∷ Upper (Slot 3) (FieldOf 9 1) Nothing (pos 0) ∷ stored_25) ≡ true
unfolding stored_25
row_25 = refl

-- s1 in 1..1; s0 = s5.length; s5, s5 same; s1 >= 1
-- s3 = s0 * s1 (ideal)
stored_26 : List Fact
stored_26 = Rng (Slot 1) (pos 1) (pos 1) ∷ IsLen (Slot 0) (Slot 5) ∷ Same (Slot 5) (Slot 5) ∷ Low (Slot 1) (pos 1) ∷ []

row_26 : same_facts (after_facts stored_26 Ideal (op.Num 3 arith.Mul 0 1)) (Rng (Slot 3) (pos 0) (pos 2147483647) ∷ Low (Slot 3) (pos 0) ∷ Less (Slot 0) (Slot 3) (pos 1) ∷ stored_26) ≡ true
unfolding stored_26
row_26 = refl

-- s0 = s6.length; s6, s6 same
-- s3 = s6.length (int32)
stored_27 : List Fact
stored_27 = IsLen (Slot 0) (Slot 6) ∷ Same (Slot 6) (Slot 6) ∷ []

row_27 : same_facts (after_facts stored_27 Int32 (op.Length 3 6)) (IsLen (Slot 3) (Slot 6) ∷ Rng (Slot 3) (pos 0) (pos 2147483647) ∷ Less (Slot 0) (Slot 3) (pos 1) ∷ Less (Slot 3) (Slot 0) (pos 1) ∷ Upper (Slot 3) (Slot 6) Nothing (negsuc 0) ∷ stored_27) ≡ true
unfolding stored_27
row_27 = refl

-- s1 = s0 + s2
-- s7 = new int[s1] (int32)
stored_28 : List Fact
stored_28 = Sum (Slot 1) (Slot 0) (Slot 2) ∷ []

row_28 : same_facts (after_facts stored_28 Int32 (op.NewArray 7 ints 1)) (Same (Slot 7) (Slot 7) ∷ IsLen (Slot 1) (Slot 7) ∷ Upper (Slot 0) (Slot 7) (Plus (Slot 2)) (negsuc 0) ∷ stored_28) ≡ true
unfolding stored_28
row_28 = refl

-- s0 = s9.f1.length; s9.f1, s9.f1 same
-- s3 = s2 & s0 (ideal)
stored_29 : List Fact
stored_29 = IsLen (Slot 0) (FieldOf 9 1) ∷ Same (FieldOf 9 1) (FieldOf 9 1) ∷ []

row_29 : same_facts (after_facts stored_29 Ideal (op.Num 3 arith.And 2 0)) (Rng (Slot 3) (pos 0) (pos 2147483647) ∷ Low (Slot 3) (pos 0) ∷ Less (Slot 3) (Slot 0) (pos 1) ∷ Upper (Slot 3) (FieldOf 9 1) Nothing (negsuc 0) ∷ stored_29) ≡ true
unfolding stored_29
row_29 = refl

-- s0 < s1 + 5; s1 - s0 + 8 < s6.length
-- s3 = s1 - s0 (ideal)
stored_30 : List Fact
stored_30 = Less (Slot 0) (Slot 1) (pos 5) ∷ Upper (Slot 1) (Slot 6) (Minus (Slot 0)) (pos 8) ∷ []

row_30 : same_facts (after_facts stored_30 Ideal (op.Num 3 arith.Sub 1 0)) (Rng (Slot 3) (negsuc 3) (pos 2147483638) ∷ Sum (Slot 1) (Slot 0) (Slot 3) ∷ Upper (Slot 0) (Slot 6) (Plus (Slot 3)) (negsuc 2147483638) ∷ Upper (Slot 3) (Slot 6) Nothing (pos 8) ∷ stored_30) ≡ true
unfolding stored_30
row_30 = refl

-- s1 < s2 + 13; s1 >= 0
-- s3 = s1 - s2 (ideal)
stored_31 : List Fact
stored_31 = Less (Slot 1) (Slot 2) (pos 13) ∷ Low (Slot 1) (pos 0) ∷ []

row_31 : same_facts (after_facts stored_31 Ideal (op.Num 3 arith.Sub 1 2)) (Rng (Slot 3) (negsuc 2147483646) (pos 12) ∷ Sum (Slot 1) (Slot 2) (Slot 3) ∷ Less (Slot 3) (Slot 1) (pos 13) ∷ Less (Slot 3) (Slot 2) (pos 25) ∷ stored_31) ≡ true
unfolding stored_31
row_31 = refl

-- s2 - s1 - 4 < s6.length; s1 < s0 + 9
-- s3 = s2 - s0 (ideal)
stored_32 : List Fact
stored_32 = Upper (Slot 2) (Slot 6) (Minus (Slot 1)) (negsuc 3) ∷ Less (Slot 1) (Slot 0) (pos 9) ∷ []

row_32 : same_facts (after_facts stored_32 Ideal (op.Num 3 arith.Sub 2 0)) (Sum (Slot 2) (Slot 0) (Slot 3) ∷ Upper (Slot 0) (Slot 6) (Plus (Slot 3)) (negsuc 2147483647) ∷ Upper (Slot 3) (Slot 6) Nothing (negsuc 11) ∷ stored_32) ≡ true
unfolding stored_32
row_32 = refl

-- s0 = s0 + s1; s1 < s2 - 2
-- s3 = s0 + s2 (ideal)
stored_33 : List Fact
stored_33 = Sum (Slot 0) (Slot 0) (Slot 1) ∷ Less (Slot 1) (Slot 2) (negsuc 1) ∷ []

row_33 : same_facts (after_facts stored_33 Ideal (op.Num 3 arith.Add 0 2)) (Sum (Slot 3) (Slot 0) (Slot 2) ∷ Less (Slot 0) (Slot 3) (negsuc 1) ∷ stored_33) ≡ true
unfolding stored_33
row_33 = refl

-- s0 + s2 - 7 < s9.f1.length; s2 in 6..8; s2 >= 1
-- s3 = s2 / s2 (int32)
stored_34 : List Fact
stored_34 = Upper (Slot 0) (FieldOf 9 1) (Plus (Slot 2)) (negsuc 6) ∷ Rng (Slot 2) (pos 6) (pos 8) ∷ Low (Slot 2) (pos 1) ∷ []

row_34 : same_facts (after_facts stored_34 Int32 (op.Num 3 arith.Div 2 2)) (Rng (Slot 3) (pos 0) (pos 1) ∷ Low (Slot 3) (pos 0) ∷ Less (Slot 3) (Slot 2) (negsuc 3) ∷ Upper (Slot 0) (FieldOf 9 1) (Plus (Slot 3)) (negsuc 5) ∷ stored_34) ≡ true
unfolding stored_34
row_34 = refl

-- s0 = s0 + s1; s0 - 8 < s9.f1.length
-- s3 = s0 - s1 (ideal)
stored_35 : List Fact
stored_35 = Sum (Slot 0) (Slot 0) (Slot 1) ∷ Upper (Slot 0) (FieldOf 9 1) Nothing (negsuc 7) ∷ []

row_35 : same_facts (after_facts stored_35 Ideal (op.Num 3 arith.Sub 0 1)) (Sum (Slot 0) (Slot 1) (Slot 3) ∷ Upper (Slot 1) (FieldOf 9 1) (Plus (Slot 3)) (negsuc 7) ∷ Upper (Slot 3) (FieldOf 9 1) Nothing (negsuc 7) ∷ stored_35) ≡ true
unfolding stored_35
row_35 = refl

-- s0 = s6.length; s2 < s1 - 2147483645; s0 + s1 - 1 < s6.length; s6, s6 same
-- s3 = s2 + s0 (int32)
stored_36 : List Fact
stored_36 = IsLen (Slot 0) (Slot 6) ∷ Less (Slot 2) (Slot 1) (negsuc 2147483644) ∷ Upper (Slot 0) (Slot 6) (Plus (Slot 1)) (negsuc 0) ∷ Same (Slot 6) (Slot 6) ∷ []

row_36 : same_facts (after_facts stored_36 Int32 (op.Num 3 arith.Add 2 0)) (Rng (Slot 3) (negsuc 2147483647) (pos 1) ∷ Sum (Slot 3) (Slot 0) (Slot 2) ∷ Less (Slot 2) (Slot 3) (pos 1) ∷ Less (Slot 3) (Slot 0) (pos 2) ∷ Upper (Slot 3) (Slot 6) Nothing (pos 2147483645) ∷ Upper (Slot 3) (Slot 6) (Minus (Slot 0)) (negsuc 1) ∷ Upper (Slot 3) (Slot 6) (Minus (Slot 2)) (negsuc 0) ∷ Upper (Slot 1) (Slot 6) (Plus (Slot 3)) (negsuc 1) ∷ stored_36) ≡ true
unfolding stored_36
row_36 = refl

-- s0 >= 0; s0 < s1 + 2; s1 in 1..2; s1 >= 1
-- s3 = s1 * s0 (int32)
stored_37 : List Fact
stored_37 = Low (Slot 0) (pos 0) ∷ Less (Slot 0) (Slot 1) (pos 2) ∷ Rng (Slot 1) (pos 1) (pos 2) ∷ Low (Slot 1) (pos 1) ∷ []

row_37 : same_facts (after_facts stored_37 Int32 (op.Num 3 arith.Mul 1 0)) (Rng (Slot 3) (pos 0) (pos 6) ∷ Low (Slot 3) (pos 0) ∷ Less (Slot 0) (Slot 3) (pos 1) ∷ stored_37) ≡ true
unfolding stored_37
row_37 = refl

-- s1 - 1073741825 < s9.f1.length; s1 = s0 + s1
-- s3 = s1 + s0 (ideal)
stored_38 : List Fact
stored_38 = Upper (Slot 1) (FieldOf 9 1) Nothing (negsuc 1073741824) ∷ Sum (Slot 1) (Slot 0) (Slot 1) ∷ []

row_38 : same_facts (after_facts stored_38 Ideal (op.Num 3 arith.Add 1 0)) (Sum (Slot 3) (Slot 0) (Slot 1) ∷ Upper (Slot 3) (FieldOf 9 1) Nothing (negsuc 1073741824) ∷ Upper (Slot 3) (FieldOf 9 1) (Minus (Slot 0)) (negsuc 1073741824) ∷ Upper (Slot 3) (FieldOf 9 1) (Minus (Slot 1)) (negsuc 2147483647) ∷ stored_38) ≡ true
unfolding stored_38
row_38 = refl

-- s0 = s0 + s2; s1 < s2 - 4
-- s3 = s1 + s0 (ideal)
stored_39 : List Fact
stored_39 = Sum (Slot 0) (Slot 0) (Slot 2) ∷ Less (Slot 1) (Slot 2) (negsuc 3) ∷ []

row_39 : same_facts (after_facts stored_39 Ideal (op.Num 3 arith.Add 1 0)) (Sum (Slot 3) (Slot 0) (Slot 1) ∷ Less (Slot 3) (Slot 0) (negsuc 3) ∷ stored_39) ≡ true
unfolding stored_39
row_39 = refl

-- s1 + s2 + 1073741822 < s9.f1.length; s0 < s1
-- s3 = s2 + s0 (ideal)
stored_40 : List Fact
stored_40 = Upper (Slot 1) (FieldOf 9 1) (Plus (Slot 2)) (pos 1073741822) ∷ Less (Slot 0) (Slot 1) (pos 0) ∷ []

row_40 : same_facts (after_facts stored_40 Ideal (op.Num 3 arith.Add 2 0)) (Sum (Slot 3) (Slot 0) (Slot 2) ∷ Less (Slot 3) (Slot 2) (pos 2147483647) ∷ Upper (Slot 3) (FieldOf 9 1) Nothing (pos 1073741823) ∷ Upper (Slot 3) (FieldOf 9 1) (Minus (Slot 0)) (negsuc 1073741824) ∷ Upper (Slot 3) (FieldOf 9 1) (Minus (Slot 2)) (negsuc 2147483646) ∷ Upper (Slot 1) (FieldOf 9 1) (Plus (Slot 3)) (negsuc 1073741823) ∷ stored_40) ≡ true
unfolding stored_40
row_40 = refl

-- s2 in 1..1; s0 = s9.f0 + s1; s0 >= 0; s1 < s9.f0 + 1; s2 >= 1
-- s3 = s0 >> s2 (int32)
stored_41 : List Fact
stored_41 = Rng (Slot 2) (pos 1) (pos 1) ∷ Sum (Slot 0) (FieldOf 9 0) (Slot 1) ∷ Low (Slot 0) (pos 0) ∷ Less (Slot 1) (FieldOf 9 0) (pos 1) ∷ Low (Slot 2) (pos 1) ∷ []

row_41 : same_facts (after_facts stored_41 Int32 (op.Num 3 arith.Shr 0 2)) (Rng (Slot 3) (pos 0) (pos 1073741823) ∷ Low (Slot 3) (pos 0) ∷ Less (Slot 3) (Slot 0) (pos 1) ∷ Less (Slot 1) (Slot 3) (pos 1) ∷ Less (Slot 3) (FieldOf 9 0) (pos 1) ∷ stored_41) ≡ true
unfolding stored_41
row_41 = refl

-- s0 >= 0; s0 < s2 - 2147483646
-- s3 = s5.length (int32)
stored_42 : List Fact
stored_42 = Low (Slot 0) (pos 0) ∷ Less (Slot 0) (Slot 2) (negsuc 2147483645) ∷ []

row_42 : same_facts (after_facts stored_42 Int32 (op.Length 3 5)) (IsLen (Slot 3) (Slot 5) ∷ Rng (Slot 3) (pos 0) (pos 2147483647) ∷ Less (Slot 0) (Slot 3) (pos 1) ∷ Less (Slot 3) (Slot 2) (pos 1) ∷ stored_42) ≡ true
unfolding stored_42
row_42 = refl

-- s9.f0 - 1 < s5.length; s5.length in 0..0
-- s7 = s6, an array (ideal)
stored_43 : List Fact
stored_43 = Upper (FieldOf 9 0) (Slot 5) Nothing (negsuc 0) ∷ LenRng (Slot 5) (pos 0) (pos 0) ∷ []

row_43 : same_facts (after_facts stored_43 Ideal (op.Copy 7 6 ints)) (Same (Slot 6) (Slot 7) ∷ Upper (FieldOf 9 0) (Slot 7) Nothing (negsuc 0) ∷ stored_43) ≡ true
unfolding stored_43
row_43 = refl

-- s2 in 1..1; s0 = s9.f0 + s1; s0 >= 0; s9.f0 < s1 + 2; s2 >= 1
-- s3 = s0 >>> s2 (ideal)
stored_44 : List Fact
stored_44 = Rng (Slot 2) (pos 1) (pos 1) ∷ Sum (Slot 0) (FieldOf 9 0) (Slot 1) ∷ Low (Slot 0) (pos 0) ∷ Less (FieldOf 9 0) (Slot 1) (pos 2) ∷ Low (Slot 2) (pos 1) ∷ []

row_44 : same_facts (after_facts stored_44 Ideal (op.Num 3 arith.Ushr 0 2)) (Rng (Slot 3) (pos 0) (pos 1073741823) ∷ Low (Slot 3) (pos 0) ∷ Less (Slot 3) (Slot 0) (pos 1) ∷ stored_44) ≡ true
unfolding stored_44
row_44 = refl

-- s1 = s9.f1.length; s9.f1, s9.f1 same
-- s3 = s1 & s0 (int32)
stored_45 : List Fact
stored_45 = IsLen (Slot 1) (FieldOf 9 1) ∷ Same (FieldOf 9 1) (FieldOf 9 1) ∷ []

row_45 : same_facts (after_facts stored_45 Int32 (op.Num 3 arith.And 1 0)) (Rng (Slot 3) (pos 0) (pos 2147483647) ∷ Low (Slot 3) (pos 0) ∷ Less (Slot 3) (Slot 1) (pos 1) ∷ Upper (Slot 3) (FieldOf 9 1) Nothing (negsuc 0) ∷ stored_45) ≡ true
unfolding stored_45
row_45 = refl

-- s0 >= 0; s2 = s5.length; s5, s5 same
-- s3 = s2 / s0 (ideal)
stored_46 : List Fact
stored_46 = Low (Slot 0) (pos 0) ∷ IsLen (Slot 2) (Slot 5) ∷ Same (Slot 5) (Slot 5) ∷ []

row_46 : same_facts (after_facts stored_46 Ideal (op.Num 3 arith.Div 2 0)) (Rng (Slot 3) (pos 0) (pos 2147483647) ∷ Low (Slot 3) (pos 0) ∷ Less (Slot 3) (Slot 2) (pos 1) ∷ Upper (Slot 3) (Slot 5) Nothing (negsuc 0) ∷ stored_46) ≡ true
unfolding stored_46
row_46 = refl

-- s0 >= -1
-- s3 = s1 % s0 (ideal)
stored_47 : List Fact
stored_47 = Low (Slot 0) (negsuc 0) ∷ []

row_47 : same_facts (after_facts stored_47 Ideal (op.Num 3 arith.Rem 1 0)) (Rng (Slot 3) (negsuc 2147483645) (pos 2147483646) ∷ stored_47) ≡ true
unfolding stored_47
row_47 = refl

-- s1 >= -1
-- s3 = s1 % s2 (ideal)
stored_48 : List Fact
stored_48 = Low (Slot 1) (negsuc 0) ∷ []

row_48 : same_facts (after_facts stored_48 Ideal (op.Num 3 arith.Rem 1 2)) (Rng (Slot 3) (negsuc 0) (pos 2147483647) ∷ Low (Slot 3) (negsuc 0) ∷ stored_48) ≡ true
unfolding stored_48
row_48 = refl

-- s0 >= -1
-- s1 = s0 >> s2 (ideal)
stored_49 : List Fact
stored_49 = Low (Slot 0) (negsuc 0) ∷ []

row_49 : same_facts (after_facts stored_49 Ideal (op.Num 1 arith.Shr 0 2)) (Rng (Slot 1) (negsuc 0) (pos 2147483647) ∷ Low (Slot 1) (negsuc 0) ∷ stored_49) ≡ true
unfolding stored_49
row_49 = refl

-- s9.f0 < s2 - 2147483645
-- s7 = new int[s0] (ideal)
stored_50 : List Fact
stored_50 = Less (FieldOf 9 0) (Slot 2) (negsuc 2147483644) ∷ []

row_50 : same_facts (after_facts stored_50 Ideal (op.NewArray 7 ints 0)) (Same (Slot 7) (Slot 7) ∷ IsLen (Slot 0) (Slot 7) ∷ stored_50) ≡ true
unfolding stored_50
row_50 = refl

-- s1 < s2 - 2147483647; s1 in -1..-1; s1 >= -1
-- s3 = s1 / s2 (ideal)
stored_51 : List Fact
stored_51 = Less (Slot 1) (Slot 2) (negsuc 2147483646) ∷ Rng (Slot 1) (negsuc 0) (negsuc 0) ∷ Low (Slot 1) (negsuc 0) ∷ []

row_51 : same_facts (after_facts stored_51 Ideal (op.Num 3 arith.Div 1 2)) (Rng (Slot 3) (pos 0) (pos 0) ∷ Low (Slot 3) (pos 0) ∷ Less (Slot 1) (Slot 3) (pos 0) ∷ Less (Slot 3) (Slot 2) (negsuc 2147483645) ∷ stored_51) ≡ true
unfolding stored_51
row_51 = refl

-- s0 in -1..-1; s0 search s5; s0 >= -1; s0 neg s5
-- s1 = ~s0 (int32)
stored_52 : List Fact
stored_52 = Rng (Slot 0) (negsuc 0) (negsuc 0) ∷ Search (Slot 0) (Slot 5) ∷ Low (Slot 0) (negsuc 0) ∷ Neg (Slot 0) (Slot 5) ∷ []

row_52 : same_facts (after_facts stored_52 Int32 (op.Unary 1 unary.Flip 0)) (Rng (Slot 1) (pos 0) (pos 0) ∷ Low (Slot 1) (pos 0) ∷ Upper (Slot 1) (Slot 5) Nothing (negsuc 0) ∷ Less (Slot 0) (Slot 1) (pos 0) ∷ stored_52) ≡ true
unfolding stored_52
row_52 = refl

-- s0 = s9.f1.length; s0 - 2 < s9.f1.length; s9.f1, s9.f1 same
-- s3 = s0 + s1 (ideal)
stored_53 : List Fact
stored_53 = IsLen (Slot 0) (FieldOf 9 1) ∷ Upper (Slot 0) (FieldOf 9 1) Nothing (negsuc 1) ∷ Same (FieldOf 9 1) (FieldOf 9 1) ∷ []

row_53 : same_facts (after_facts stored_53 Ideal (op.Num 3 arith.Add 0 1)) (Sum (Slot 3) (Slot 0) (Slot 1) ∷ Less (Slot 1) (Slot 3) (pos 1) ∷ Upper (Slot 3) (FieldOf 9 1) Nothing (negsuc 2147483647) ∷ Upper (Slot 3) (FieldOf 9 1) (Minus (Slot 1)) (negsuc 0) ∷ Upper (Slot 3) (FieldOf 9 1) (Minus (Slot 0)) (negsuc 2147483647) ∷ stored_53) ≡ true
unfolding stored_53
row_53 = refl

-- s2 in 7..7; s6.length in 6..6; s2 >= 1
-- s3 = ~s2 (int32)
stored_54 : List Fact
stored_54 = Rng (Slot 2) (pos 7) (pos 7) ∷ LenRng (Slot 6) (pos 6) (pos 6) ∷ Low (Slot 2) (pos 1) ∷ []

row_54 : same_facts (after_facts stored_54 Int32 (op.Unary 3 unary.Flip 2)) (Rng (Slot 3) (negsuc 7) (negsuc 7) ∷ Less (Slot 3) (Slot 2) (negsuc 13) ∷ Upper (Slot 3) (Slot 6) Nothing (pos 13) ∷ stored_54) ≡ true
unfolding stored_54
row_54 = refl

-- s2 >= 1
-- s3 = s2 / s2 (int32)
stored_55 : List Fact
stored_55 = Low (Slot 2) (pos 1) ∷ []

row_55 : same_facts (after_facts stored_55 Int32 (op.Num 3 arith.Div 2 2)) (Rng (Slot 3) (pos 0) (pos 2147483647) ∷ Low (Slot 3) (pos 0) ∷ Less (Slot 3) (Slot 2) (pos 1) ∷ stored_55) ≡ true
unfolding stored_55
row_55 = refl

-- s0 >= -1; s2 = s9.f1.length; s9.f1, s9.f1 same
-- s3 = s2 / s0 (ideal)
stored_56 : List Fact
stored_56 = Low (Slot 0) (negsuc 0) ∷ IsLen (Slot 2) (FieldOf 9 1) ∷ Same (FieldOf 9 1) (FieldOf 9 1) ∷ []

row_56 : same_facts (after_facts stored_56 Ideal (op.Num 3 arith.Div 2 0)) (Rng (Slot 3) (negsuc 2147483646) (pos 2147483647) ∷ stored_56) ≡ true
unfolding stored_56
row_56 = refl

-- s0 in 1..5; s1 in 2..3; s0 >= 1; s1 >= 1
-- s3 = s0 / s1 (ideal)
stored_57 : List Fact
stored_57 = Rng (Slot 0) (pos 1) (pos 5) ∷ Rng (Slot 1) (pos 2) (pos 3) ∷ Low (Slot 0) (pos 1) ∷ Low (Slot 1) (pos 1) ∷ []

row_57 : same_facts (after_facts stored_57 Ideal (op.Num 3 arith.Div 0 1)) (Rng (Slot 3) (pos 0) (pos 2) ∷ Low (Slot 3) (pos 0) ∷ Less (Slot 3) (Slot 0) (pos 0) ∷ Less (Slot 3) (Slot 1) (pos 1) ∷ stored_57) ≡ true
unfolding stored_57
row_57 = refl

-- s0 in -1..5; s1 in 1..3; s0 >= -1; s1 >= 1
-- s3 = s0 * s1 (ideal)
stored_58 : List Fact
stored_58 = Rng (Slot 0) (negsuc 0) (pos 5) ∷ Rng (Slot 1) (pos 1) (pos 3) ∷ Low (Slot 0) (negsuc 0) ∷ Low (Slot 1) (pos 1) ∷ []

row_58 : same_facts (after_facts stored_58 Ideal (op.Num 3 arith.Mul 0 1)) (Rng (Slot 3) (negsuc 2) (pos 15) ∷ stored_58) ≡ true
unfolding stored_58
row_58 = refl

-- s0 in -1..5; s1 in 1..3; s0 >= -1; s1 >= 1
-- s3 = s1 * s0 (int32)
stored_59 : List Fact
stored_59 = Rng (Slot 0) (negsuc 0) (pos 5) ∷ Rng (Slot 1) (pos 1) (pos 3) ∷ Low (Slot 0) (negsuc 0) ∷ Low (Slot 1) (pos 1) ∷ []

row_59 : same_facts (after_facts stored_59 Int32 (op.Num 3 arith.Mul 1 0)) (Rng (Slot 3) (negsuc 2) (pos 15) ∷ stored_59) ≡ true
unfolding stored_59
row_59 = refl

-- s2 in 2..2; s0 = s9.f0 + s1; s0 in -1..9; s1 < s9.f0; s2 >= 1; s0 >= -1
-- s3 = s0 / s2 (ideal)
stored_60 : List Fact
stored_60 = Rng (Slot 2) (pos 2) (pos 2) ∷ Sum (Slot 0) (FieldOf 9 0) (Slot 1) ∷ Rng (Slot 0) (negsuc 0) (pos 9) ∷ Less (Slot 1) (FieldOf 9 0) (pos 0) ∷ Low (Slot 2) (pos 1) ∷ Low (Slot 0) (negsuc 0) ∷ []

row_60 : same_facts (after_facts stored_60 Ideal (op.Num 3 arith.Div 0 2)) (Rng (Slot 3) (pos 0) (pos 4) ∷ Low (Slot 3) (pos 0) ∷ stored_60) ≡ true
unfolding stored_60
row_60 = refl
