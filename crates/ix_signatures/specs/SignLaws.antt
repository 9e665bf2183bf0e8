-- What the rules of signatures and objects owe: each is true where it says, and stronger stores give stronger ones.
use Rattle.std.specs.Prelude.{◌≡◌, ℕ, Bool, true, false, ◌||◌, Option}
use Rattle.ix_core.specs.declared.fact.Path.{Path}
use Rattle.ix_core.specs.declared.fact.Path.TheVariants.{Slot}
use Rattle.ix_core.specs.declared.fact.PathClaim.{PathClaim}
use Rattle.ix_core.specs.declared.op.CallOp.{CallOp}
use Rattle.ix_core.specs.declared.op.Op.{Op}
use Rattle.ix_core.specs.declared.program.Method.{Method}
use Rattle.ix_core.specs.declared.program.Program.{Program}
use Rattle.ix_core.specs.Numbers.{Numbers}
use Rattle.ix_facts.specs.Assume.{ClaimHolds}
use Rattle.ix_facts.specs.Facts.{AllHold}
use Rattle.ix_facts.specs.FieldSteps.{IsRead, IsWritten}
use Rattle.ix_facts.specs.Forget.{SameBut, of_slot, of_this}
use Rattle.ix_facts.specs.Stores.{Stored, Meets, IsProved, IsStep}
use Rattle.ix_rules_hold.specs.FieldAccess.{spared_by}
use Rattle.ix_signatures.specs.Names.{is_built}
use Rattle.ix_signatures.specs.Signs.{Adds, EntryGives, entry_facts, ReadGives, read_facts, WriteGives, write_facts, CallGives, SuperGives, of_callee, result_facts, told_facts, zero_fields, own_fields, fields_facts, inherited_fields}

-- True: v are the numbers before, w those after.
pub record SignsHold (program : Program) (method : Method) : Type 0 where
  pub entry : (t : Stored) (v : Numbers) → AllHold (entry_facts program method) v → EntryGives program method t → Meets t v
  -- into another slot than the object's
  pub read : (target object field : ℕ) (s t : Stored) (v w : Numbers) → of_slot target (Slot object) ≡ false → (is_built method object ≡ true → AllHold (read_facts program object field) v)
      → IsRead target object field v w → Meets s v → ReadGives program method target object field s t → Meets t w
  pub write : (object field value : ℕ) (s t : Stored) (v w : Numbers) → (is_built method object ≡ true → AllHold (write_facts program object field) v)
      → IsWritten object field value (spared_by method object) v w → Meets s v → WriteGives program method object field value s t → Meets t w
  pub call : (call : CallOp) (s t : Stored) (v w : Numbers) → SameBut (of_callee program method call) v w → AllHold (result_facts program call) w
      → Meets s v → CallGives program method call s t → Meets t w
  pub told : (last : Option Op) (slot : ℕ) (answer : Bool) (s t : Stored) (v : Numbers) → AllHold (told_facts program last slot answer) v → Meets s v → Adds (told_facts program last slot answer) s t → Meets t v
  pub super : (call : CallOp) (s t : Stored) (v w : Numbers) → SameBut (λ p. of_callee program method call p || of_this p) v w
      → AllHold (zero_fields program (own_fields program method)) w → AllHold (fields_facts program (inherited_fields program method)) w
      → Meets s v → SuperGives program method call s t → Meets t w
  pub proved : (s : Stored) (v : Numbers) (claim : PathClaim) (p : Path) → Meets s v → IsProved claim p s → ClaimHolds claim p v

-- Stronger stores give stronger ones.
pub record SignsMonotone (program : Program) (method : Method) : Type 0 where
  pub read : (target object field : ℕ) → IsStep (ReadGives program method target object field)
  pub write : (object field value : ℕ) → IsStep (WriteGives program method object field value)
  pub call : (call : CallOp) → IsStep (CallGives program method call)
  pub told : (last : Option Op) (slot : ℕ) (answer : Bool) → IsStep (Adds (told_facts program last slot answer))
  pub super : (call : CallOp) → IsStep (SuperGives program method call)
