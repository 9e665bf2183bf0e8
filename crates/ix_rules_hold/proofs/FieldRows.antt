-- Reads and writes of the field of one object that two slots hold.
use Rattle.std.specs.Prelude.{◌≡◌, ℕ, pos, true, List, [], ◌∷◌, None, refl}
use Rattle.std.proofs.Common.{arith}
use Rattle.std.proofs.lemmas.Int.{ints}
use Rattle.ix_core.specs.declared.fact.Path.TheVariants.{FieldOf}
use Rattle.ix_core.specs.declared.op.OpKind.TheVariants as op
use Rattle.ix_core.specs.declared.program.Method.{Method}
use Rattle.ix_core.specs.declared.program.Program.{Program}
use Rattle.ix_core.specs.Heap.{Held, Num, At, Heap, ObjectOf}
use Rattle.ix_core.specs.Machine.{Done, operate, no_limits}
use Rattle.ix_core.specs.Numbers.{HasInts, held_at, numbers_of}
use Rattle.ix_core.specs.Tables.{tables_of}
use Rattle.ix_core.proofs.Programs.{int, class_of, field, program}
use Rattle.ix_facts.specs.FieldSteps.{IsWritten}
use Rattle.ix_rules_hold.specs.FieldAccess.{spared_by}

-- class A { int f; }: one object, whose field is 7, in the slots 0 and 1; the slot 2 has 5
abbrev shared : Program
shared = program (class_of None (0 ∷ []) [] ∷ []) (field 0 int [] ∷ []) 0 []

abbrev slots : List Held
slots = At 0 ∷ At 0 ∷ Num (pos 5) ∷ []

abbrev object : ℕ → Heap
object n = record { kind = ObjectOf 0; cells = Num (pos n) ∷ [] } ∷ []

-- int y = a.f;
read_row : operate no_limits (tables_of shared) 0 slots (object 7) (op.ReadField 2 0 0) ≡ Done (At 0 ∷ At 0 ∷ Num (pos 7) ∷ []) (object 7)
read_row = refl

-- b.f = 5; a.f is 5 too
write_row : operate no_limits (tables_of shared) 0 slots (object 7) (op.WriteField 1 0 2) ≡ Done slots (object 5)
write_row = refl

alias_row : held_at (tables_of shared).place slots (object 5) (FieldOf 0 0) ≡ Num (pos 5)
alias_row = refl

-- So a constructor may spare `this` only where no other slot holds it.
shared_this_changes : (method : Method) (before : HasInts (tables_of shared).place slots (object 7)) (behind : HasInts (tables_of shared).place slots (object 5)) → method.constructor ≡ true
    → IsWritten 1 0 2 (spared_by method 1) (numbers_of (tables_of shared).place slots (object 7) before) (numbers_of (tables_of shared).place slots (object 5) behind) → ⊥
shared_this_changes method before behind made written = let same = (written.others (FieldOf 0 0) (rw made refl)).0 in absurd (omega (arith, ints, same))
