-- Each rule's store is the least that the rule gives.
use Rattle.std.specs.Prelude.{◌≡◌, ℕ, Bool, not, ◌&&◌, ◌||◌, ◌==◌, ◌++◌}
use Rattle.std.proofs.Common.{ap}
use Rattle.ix_core.specs.declared.fact.Path.{Path}
use Rattle.ix_core.specs.declared.fact.Path.TheVariants.{Slot, FieldOf}
use Rattle.ix_core.specs.declared.op.CallOp.{CallOp}
use Rattle.ix_core.specs.declared.program.Method.{Method}
use Rattle.ix_core.specs.declared.program.Program.{Program}
use Rattle.ix_core.specs.Tables.{field_at, method_at}
use Rattle.ix_facts.specs.Exact.{if_so}
use Rattle.ix_facts.specs.Forget.{without, of_slot, of_field, of_this}
use Rattle.ix_facts.specs.Stores.{Stored, IsAdded, IsCopied, IsForgotten, Then, with_facts, with_copy}
use Rattle.ix_rules_hold.specs.FieldAccess.{spared_by}
use Rattle.ix_store.specs.ChangedPaths.{is_spared, is_final, of_called, of_parent}
use Rattle.ix_signatures.specs.Spared.{this_if}
use Rattle.ix_signatures.specs.Names.{is_built}
use Rattle.ix_signatures.specs.Signs.{Adds, Forgets, Copies, IsLeastOf, read_facts, write_facts, of_callee, result_facts, zero_fields, own_fields, fields_facts, inherited_fields, ReadGives, WriteGives, CallGives, SuperGives}
use Rattle.ix_signatures.proofs.SignSteps.{adds_step, forgets_step, copies_step}
use Rattle.ix_facts.proofs.StepLaws.{then_step}
use Rattle.ix_signatures.proofs.LeastSteps.{least_given, least_then}
use Rattle.ix_signatures.proofs.ForgottenAlike.{forgotten_alike}
use Rattle.ix_sign.proofs.Alike.{field_alike, call_alike}

module _ (program : Program) (method : Method) where
  pub read_least : (target object field : ℕ) (s between t : Stored) → IsAdded (if_so (is_built method object) (read_facts program object field)) s between
      → IsCopied (field_at program field).ty (Slot target) (FieldOf object field) between t → IsLeastOf (ReadGives program method target object field) s t
  read_least target object field s between t added copied =
      let new = if_so (is_built method object) (read_facts program object field) in
      let ty = (field_at program field).ty in
      least_then (Adds new) (Copies ty (Slot target) (FieldOf object field)) (copies_step ty (Slot target) (FieldOf object field)) s between t
      (least_given (with_facts new) s between added) (least_given (with_copy ty (Slot target) (FieldOf object field)) between t copied)

  pub write_least : (object field value : ℕ) (s first second t : Stored) → IsAdded (if_so (is_built method object) (write_facts program object field)) s first
      → IsForgotten (of_field field (is_spared (this_if (method.constructor && not (object == 0))))) first second → IsCopied (field_at program field).ty (FieldOf object field) (Slot value) second t
      → IsLeastOf (WriteGives program method object field value) s t
  write_least object field value s first second t added forgotten copied =
      let new = if_so (is_built method object) (write_facts program object field) in
      let ty = (field_at program field).ty in
      let changed = of_field field (spared_by method object) in
      let Copy : Stored → Stored → Type 0 = Copies ty (FieldOf object field) (Slot value) in
      let dropped : IsForgotten changed first second = forgotten_alike (of_field field (is_spared (this_if (method.constructor && not (object == 0))))) changed (field_alike method object field) first second forgotten in
      least_then (Adds new) (Then (Forgets changed) Copy) (then_step (Forgets changed) Copy (forgets_step changed) (copies_step ty (FieldOf object field) (Slot value))) s first t
      (least_given (with_facts new) s first added)
      (least_then (Forgets changed) Copy (copies_step ty (FieldOf object field) (Slot value)) first second t (least_given (without changed) first second dropped) (least_given (with_copy ty (FieldOf object field) (Slot value)) second t copied))

  callee_alike : (call : CallOp) (p : Path) → of_called program call.target (method_at program call.method).effect_free (this_if method.constructor) p ≡ of_callee program method call p
  callee_alike call p = ap (λ b. of_slot call.target p || (not (method_at program call.method).effect_free && b)) (call_alike method (is_final program) p)

  pub call_least : (call : CallOp) (s between t : Stored) → IsForgotten (of_called program call.target (method_at program call.method).effect_free (this_if method.constructor)) s between
      → IsAdded (result_facts program call) between t → IsLeastOf (CallGives program method call) s t
  call_least call s between t forgotten added =
      let changed = of_callee program method call in
      let new = result_facts program call in
      least_then (Forgets changed) (Adds new) (adds_step new) s between t
      (least_given (without changed) s between (forgotten_alike (of_called program call.target (method_at program call.method).effect_free (this_if method.constructor)) changed (callee_alike call) s between forgotten))
      (least_given (with_facts new) between t added)

  pub super_least : (call : CallOp) (s between t : Stored) → IsForgotten (of_parent program call.target (method_at program call.method).effect_free (this_if method.constructor)) s between
      → IsAdded (zero_fields program (own_fields program method) ++ fields_facts program (inherited_fields program method)) between t → IsLeastOf (SuperGives program method call) s t
  super_least call s between t forgotten added =
      let changed : Path → Bool = λ p. of_callee program method call p || of_this p in
      let new = zero_fields program (own_fields program method) ++ fields_facts program (inherited_fields program method) in
      least_then (Forgets changed) (Adds new) (adds_step new) s between t
      (least_given (without changed) s between (forgotten_alike (of_parent program call.target (method_at program call.method).effect_free (this_if method.constructor)) changed (λ p. ap (λ b. b || of_this p) (callee_alike call p)) s between forgotten))
      (least_given (with_facts new) between t added)
