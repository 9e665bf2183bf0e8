-- A run in which a call has returned.
use Rattle.std.specs.Prelude.{◌≡◌, ℕ, zero, suc, ◌<◌, pos, [], ◌∷◌, length, None, Some, refl}
use Rattle.std.proofs.Common.{arith}
use Rattle.std.specs.Int.{int_wrap}
use Rattle.ix_core.specs.declared.code.Cond.TheBlock.{hidden-the_row-Item-0, hidden-the_row-Cond-1}
use Rattle.ix_core.specs.declared.code.Item.TheVariants as item
use Rattle.ix_core.specs.declared.op.Literal.TheVariants as literal
use Rattle.ix_core.specs.declared.op.OpKind.TheVariants as op
use Rattle.ix_core.specs.declared.program.Program.{Program}
use Rattle.ix_core.specs.Machine.{no_limits, run}
use Rattle.ix_core.specs.Safe.{start}
use Rattle.ix_core.specs.Tables.{tables_of}
use Rattle.ix_core.proofs.Programs.{span, int, block, does, calls, static_method, class_of, program}
use Rattle.ix_rules_hold.specs.CallEffects.{HasReturned}

-- class A { static int one() { return 1; } static int main() { return one(); } }
abbrev one : Program
one = program (class_of None [] (0 ∷ 1 ∷ []) ∷ []) [] 0
    (static_method 0 [] [] int [] 1
    (block (does (op.Const 0 (literal.Int (pos 1))) 36 37
    ∷ item.Return (Some 0) (span 36 37)
    ∷ []))
    ∷ static_method 0 [] [] int [] 1
    (block (does (op.StaticCall (calls 0 0 None [] 0 (span 68 71))) 68 73
    ∷ item.Return (Some 0) (span 68 73)
    ∷ []))
    ∷ [])

abbrev depth : ℕ → ℕ
depth count = length (run no_limits (tables_of one) count (start one 1 [])).below

waits_row : (count : ℕ) → 0 < count → count < 3 → depth count ≡ 1
unfolding hidden-the_row-Item-0 hidden-the_row-Cond-1 denote.Hole.Carrier.hidden int_wrap
waits_row zero begun before = absurd (omega (arith, begun))
waits_row (suc zero) begun before = refl
waits_row (suc (suc zero)) begun before = refl
waits_row (suc (suc (suc count))) begun before = absurd (omega (arith, before))

-- The call enters `one` in a step, whose two steps end with the return.
returned_row : HasReturned no_limits (tables_of one) (start one 1 []) 3
unfolding hidden-the_row-Item-0 hidden-the_row-Cond-1 denote.Hole.Carrier.hidden int_wrap
returned_row = record {
  begun = omega (arith);
  deeper = λ count begun before. let waits = waits_row count begun before in omega (arith, waits);
  back = refl;
  goes_on = refl;
}
