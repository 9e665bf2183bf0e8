-- Stronger stores give stronger ones.
use Rattle.std.specs.Prelude.{Bool, ◌||◌, List, ◌++◌}
use Rattle.std.proofs.Common.{inr}
use Rattle.ix_core.specs.declared.claim.Type_.{Type_}
use Rattle.ix_core.specs.declared.fact.Path.{Path}
use Rattle.ix_core.specs.declared.fact.Path.TheVariants.{Slot, FieldOf}
use Rattle.ix_core.specs.declared.fact.Fact.{Fact}
use Rattle.ix_core.specs.declared.program.Method.{Method}
use Rattle.ix_core.specs.declared.program.Program.{Program}
use Rattle.ix_core.specs.Tables.{field_at}
use Rattle.ix_facts.specs.Closure.{kept}
use Rattle.ix_facts.specs.Exact.{if_so}
use Rattle.ix_facts.specs.Forget.{without, of_field, of_this}
use Rattle.ix_facts.specs.Stores.{Stored, Then, IsStep, IsMonotone, with_facts, with_copy}
use Rattle.ix_facts.proofs.SaidLaws.{says_app}
use Rattle.ix_facts.proofs.SaidRules.{without_mono, with_copy_mono}
use Rattle.ix_facts.proofs.StepLaws.{gives_step, then_step}
use Rattle.ix_rules_hold.specs.FieldAccess.{spared_by}
use Rattle.ix_signatures.specs.Names.{is_built}
use Rattle.ix_signatures.specs.Signs.{Adds, Forgets, Copies, read_facts, write_facts, of_callee, result_facts, told_facts, zero_fields, own_fields, fields_facts, inherited_fields}
use Rattle.ix_signatures.specs.SignLaws.{SignsMonotone}

adds_monotone : (new : List Fact) → IsMonotone (with_facts new)
adds_monotone new strong weak more = inr (says_app strong (kept new) weak (kept new) more (λ f said. said))

pub adds_step : (new : List Fact) → IsStep (Adds new)
adds_step new = gives_step (with_facts new) (adds_monotone new)

pub forgets_step : (is : Path → Bool) → IsStep (Forgets is)
forgets_step is = gives_step (without is) (without_mono is)

pub copies_step : (ty : Type_) (target source : Path) → IsStep (Copies ty target source)
copies_step ty target source = gives_step (with_copy ty target source) (with_copy_mono ty target source)

pub signs_monotone : (program : Program) (method : Method) → SignsMonotone program method
signs_monotone program method = record {
  read = λ target object field.
      let assumed : List Fact = if_so (is_built method object) (read_facts program object field) in
      let Copy : Stored → Stored → Type 0 = Copies (field_at program field).ty (Slot target) (FieldOf object field) in
      then_step (Adds assumed) Copy (adds_step assumed) (copies_step (field_at program field).ty (Slot target) (FieldOf object field));
  write = λ object field value.
      let assumed : List Fact = if_so (is_built method object) (write_facts program object field) in
      let changed : Path → Bool = of_field field (spared_by method object) in
      let Copy : Stored → Stored → Type 0 = Copies (field_at program field).ty (FieldOf object field) (Slot value) in
      then_step (Adds assumed) (Then (Forgets changed) Copy) (adds_step assumed)
      (then_step (Forgets changed) Copy (forgets_step changed) (copies_step (field_at program field).ty (FieldOf object field) (Slot value)));
  call = λ call.
      let changed : Path → Bool = of_callee program method call in
      then_step (Forgets changed) (Adds (result_facts program call)) (forgets_step changed) (adds_step (result_facts program call));
  told = λ last slot answer. adds_step (told_facts program last slot answer);
  super = λ call.
      let changed : Path → Bool = λ p. of_callee program method call p || of_this p in
      let new : List Fact = zero_fields program (own_fields program method) ++ fields_facts program (inherited_fields program method) in
      then_step (Forgets changed) (Adds new) (forgets_step changed) (adds_step new);
}
