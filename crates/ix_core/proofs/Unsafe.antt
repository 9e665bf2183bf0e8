-- Programs that are not safe: `Safe` is no empty promise.
use Rattle.std.proofs.Common.{arith, pos, negsuc, [], ◌∷◌, Some, None, refl}
use Rattle.std.proofs.lemmas.Int.{ints}
use Rattle.ix_num.specs.Ints.{IsInt}
use Rattle.ix_core.specs.declared.fact.Profile.{Profile}
use Rattle.ix_core.specs.declared.fact.Profile.TheVariants.{Ideal, Int32}
use Rattle.std.specs.Int.{int_wrap}
use Rattle.ix_num.specs.declared.arith.Arith.TheVariants.{Add}
use Rattle.ix_num.specs.declared.rel.Rel.TheVariants as rel
use Rattle.ix_core.specs.declared.claim.Claim.TheVariants as claim
use Rattle.ix_core.specs.declared.code.Cond.TheBlock.{hidden-the_row-Item-0, hidden-the_row-Cond-1}
use Rattle.ix_core.specs.declared.code.Cond.TheVariants as cond
use Rattle.ix_core.specs.declared.code.Item.TheVariants as item
use Rattle.ix_core.specs.declared.op.Literal.TheVariants as literal
use Rattle.ix_core.specs.declared.op.OpKind.TheVariants as op
use Rattle.ix_core.specs.declared.program.Program.{Program}
use Rattle.ix_core.specs.Machine.{no_limits}
use Rattle.ix_core.specs.Safe.{Whole, Ints, Begins, Safe}
use Rattle.ix_core.proofs.Programs.{span, int, int_array, block, does, does_with, test, param, local, static_method, constructor_of, class_of, program}

-- class A { static int first(int[] a) { return a[0]; } }
abbrev pub first : Program
first = program (class_of None [] (0 ∷ 1 ∷ []) ∷ []) [] 1
    (static_method 0 (param 0 [] ∷ []) (int_array ∷ []) int [] 3
    (block (does (op.Const 1 (literal.Int (pos 0))) 47 48
    ∷ does (op.Load 2 0 1 int_array) 47 48
    ∷ item.Return (Some 2) (span 45 49)
    ∷ []))
    ∷ constructor_of 0 [] [] [] 1
    (block [])
    ∷ [])

first_begins : Begins first 0 (Ints [] ∷ [])
unfolding hidden-the_row-Item-0 hidden-the_row-Cond-1 denote.Hole.Carrier.hidden int_wrap
first_begins = record { entry = record { found = _; at = refl; static = refl; typed = ((refl, tt, omega (arith)), tt) }; meets = (tt, tt, tt) }

-- an index outside, in both profiles: nothing wrapped
first_unsafe : (profile : Profile) → Safe first profile → ⊥
unfolding hidden-the_row-Item-0 hidden-the_row-Cond-1 denote.Hole.Carrier.hidden int_wrap
first_unsafe Ideal safe = safe 0 (Ints [] ∷ []) first_begins no_limits 2 refl tt
first_unsafe Int32 safe = safe 0 (Ints [] ∷ []) first_begins no_limits 2 tt tt

-- class A { static int next(int[] a, @NonNegative int i) { int j = i + 1; if (j < a.length) return a[j]; return 0; } }
abbrev pub next : Program
next = program (class_of None [] (0 ∷ 1 ∷ []) ∷ []) [] 1
    (static_method 0 (param 0 [] ∷ param 1 (claim.Low (pos 0) ∷ []) ∷ []) (int_array ∷ int ∷ []) int (local 2 [] (span 61 114) ∷ []) 5
    (block (does (op.Const 3 (literal.Int (pos 1))) 69 70
    ∷ does (op.Num 4 Add 1 3) 65 70
    ∷ does_with (op.Copy 2 4 int) 65 70 ((span 61 62) ∷ (span 65 70) ∷ [])
    ∷ item.If (cond.Compare (block (does (op.Length 3 0) 80 88
    ∷ [])) (test rel.Lt 2 3 int (span 76 77) (span 80 88))) (block (does (op.Load 3 0 2 int_array) 99 100
    ∷ item.Return (Some 3) (span 97 101)
    ∷ [])) (block [])
    ∷ does (op.Const 3 (literal.Int (pos 0))) 110 111
    ∷ item.Return (Some 3) (span 110 111)
    ∷ []))
    ∷ constructor_of 0 [] [] [] 1
    (block [])
    ∷ [])

greatest_is_int : IsInt (pos 2147483647)
greatest_is_int = record { from = omega (arith, ints); to = omega (arith, ints) }

five_is_int : IsInt (pos 5)
five_is_int = record { from = omega (arith, ints); to = omega (arith, ints) }

next_begins : Begins next 0 (Ints (pos 5 ∷ []) ∷ Whole (pos 2147483647) ∷ [])
unfolding hidden-the_row-Item-0 hidden-the_row-Cond-1 denote.Hole.Carrier.hidden int_wrap
next_begins = record { entry = record { found = _; at = refl; static = refl; typed = ((refl, (five_is_int, tt), omega (arith)), (greatest_is_int, tt)) }; meets = (tt, (tt, tt), ((omega (arith, ints), tt), tt, tt)) }

-- an index outside behind a sum that wrapped
next_unsafe : Safe next Int32 → ⊥
unfolding hidden-the_row-Item-0 hidden-the_row-Cond-1 denote.Hole.Carrier.hidden int_wrap
next_unsafe safe = safe 0 (Ints (pos 5 ∷ []) ∷ Whole (pos 2147483647) ∷ []) next_begins no_limits 8 tt tt

-- class A { static int[] make(int n) { return new int[n]; } }
abbrev pub make : Program
make = program (class_of None [] (0 ∷ 1 ∷ []) ∷ []) [] 0
    (static_method 0 (param 0 [] ∷ []) (int ∷ []) int_array [] 2
    (block (does (op.NewArray 1 int_array 0) 52 53
    ∷ item.Return (Some 1) (span 44 54)
    ∷ []))
    ∷ constructor_of 0 [] [] [] 1
    (block [])
    ∷ [])

make_begins : Begins make 0 (Whole (negsuc 0) ∷ [])
unfolding hidden-the_row-Item-0 hidden-the_row-Cond-1 denote.Hole.Carrier.hidden int_wrap
make_begins = record { entry = record { found = _; at = refl; static = refl; typed = (record { from = omega (arith, ints); to = omega (arith, ints) }, tt) }; meets = (tt, tt, tt) }

-- a negative length
make_unsafe : Safe make Ideal → ⊥
unfolding hidden-the_row-Item-0 hidden-the_row-Cond-1 denote.Hole.Carrier.hidden int_wrap
make_unsafe safe = safe 0 (Whole (negsuc 0) ∷ []) make_begins no_limits 1 refl tt
