-- Why the promise asks that locals stand apart: a formed program that is not safe, in which a claim on a local names another local of its slot. A copy into the slot
-- changes what its claim was shown of. The rules say no error of it: that was run, and isn't proved here.
use Rattle.std.proofs.Common.{arith, ◌≡◌, sym, pos, true, [], ◌∷◌, Some, None, refl}
use Rattle.std.proofs.lemmas.Bool.{false≢true}
use Rattle.std.specs.Int.{int_wrap}
use Rattle.ix_num.specs.declared.arith.Arith.TheVariants.{Add}
use Rattle.ix_num.specs.Ints.{IsInt}
use Rattle.std.proofs.lemmas.Int.{ints}
use Rattle.ix_core.specs.declared.claim.Claim.TheVariants as claim
use Rattle.ix_core.specs.declared.claim.Name.TheVariants.{Param, Local as LocalNamed}
use Rattle.ix_core.specs.declared.claim.Off.TheVariants.{Plus}
use Rattle.ix_core.specs.declared.code.Cond.TheBlock.{hidden-the_row-Item-0, hidden-the_row-Cond-1}
use Rattle.ix_core.specs.declared.code.Item.TheVariants as item
use Rattle.ix_core.specs.declared.fact.Profile.{Profile}
use Rattle.ix_core.specs.declared.fact.Profile.TheVariants.{Ideal, Int32}
use Rattle.ix_core.specs.declared.op.Literal.TheVariants as literal
use Rattle.ix_core.specs.declared.op.OpKind.TheVariants as op
use Rattle.ix_core.specs.declared.program.Program.{Program}
use Rattle.ix_core.specs.Formed.{is_formed}
use Rattle.ix_core.specs.Machine.{no_limits}
use Rattle.ix_core.specs.Safe.{Ints, Begins, Safe}
use Rattle.ix_core.specs.Ready.{LocalsApart}
use Rattle.ix_core.proofs.Programs.{span, int, int_array, block, does, does_with, param, local, static_method, constructor_of, class_of, program}

-- static int f(int @MinLen(2) [] a) { int x = 0; @LTLengthOf(value = "a", offset = "x") int y = 1; return a[y + y]; }, with x and y in one slot
abbrev pub shared : Program
shared = program (class_of None [] (0 ∷ 1 ∷ []) ∷ []) [] 1
    (static_method 0 (param 0 (claim.Length (pos 2) ∷ []) ∷ []) (int_array ∷ []) int
    (local 1 (claim.Upper (Param 0) (Plus (LocalNamed 1)) (pos 0) ∷ []) (span 20 100) ∷ local 1 [] (span 10 100) ∷ []) 4
    (block (does (op.Const 2 (literal.Int (pos 0))) 14 15
    ∷ does_with (op.Copy 1 2 int) 12 15 ((span 12 13) ∷ (span 14 15) ∷ [])
    ∷ does (op.Const 2 (literal.Int (pos 1))) 27 28
    ∷ does_with (op.Copy 1 2 int) 25 28 ((span 25 26) ∷ (span 27 28) ∷ [])
    ∷ does (op.Num 2 Add 1 1) 40 41
    ∷ does (op.Load 3 0 2 int_array) 38 42
    ∷ item.Return (Some 3) (span 38 42)
    ∷ []))
    ∷ constructor_of 0 [] [] [] 1
    (block [])
    ∷ [])

seven_is_int : IsInt (pos 7)
seven_is_int = record { from = omega (arith, ints); to = omega (arith, ints) }

shared_begins : Begins shared 0 (Ints (pos 7 ∷ pos 7 ∷ []) ∷ [])
unfolding hidden-the_row-Item-0 hidden-the_row-Cond-1 denote.Hole.Carrier.hidden int_wrap
shared_begins = record { entry = record { found = _; at = refl; static = refl; typed = ((refl, (seven_is_int, (seven_is_int, tt)), omega (arith)), tt) }; meets = ((omega (arith), tt), (tt, (tt, tt)), tt) }

shared_unsafe : (profile : Profile) → Safe shared profile → ⊥
unfolding hidden-the_row-Item-0 hidden-the_row-Cond-1 denote.Hole.Carrier.hidden int_wrap
shared_unsafe Ideal safe = safe 0 (Ints (pos 7 ∷ pos 7 ∷ []) ∷ []) shared_begins no_limits 6 refl tt
shared_unsafe Int32 safe = safe 0 (Ints (pos 7 ∷ pos 7 ∷ []) ∷ []) shared_begins no_limits 6 tt tt

shared_formed : is_formed shared ((int ∷ int ∷ []) ∷ [] ∷ []) ≡ true
unfolding hidden-the_row-Item-0 hidden-the_row-Cond-1 denote.Hole.Carrier.hidden int_wrap
shared_formed = refl

-- The locals aren't apart: the claim of the second one names the first.
shared_not_apart : LocalsApart shared → ⊥
shared_not_apart apart = false≢true (sym (apart 0 0 1 _ refl (0, 1, _, refl, refl)))
