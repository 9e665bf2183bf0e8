-- The store behind an operation is the least that its rule gives.
use Rattle.std.specs.Prelude.{◌≡◌, ℕ, zero, suc, ◌+◌, ◌<◌, ◌==◌, false, if◌then◌else◌, Some, Result, Ok, Err, IfOk, List, [], ◌∷◌, drop, length, refl}
use Rattle.std.proofs.Common.{arith, ap, sym, ◌∙◌, subst}
use Rattle.std.specs.declared.alloc.AllocError.{AllocError}
use Rattle.ix_core.specs.declared.claim.Name.TheVariants as name
use Rattle.ix_core.specs.declared.claim.Type_.{Type_}
use Rattle.ix_core.specs.declared.fact.Profile.{Profile}
use Rattle.ix_core.specs.declared.op.CallOp.{CallOp}
use Rattle.ix_core.specs.declared.op.OpKind.{OpKind}
use Rattle.ix_core.specs.declared.op.OpKind.TheVariants as op
use Rattle.ix_core.specs.declared.program.Local.{Local as Variable}
use Rattle.ix_core.specs.declared.program.Method.{Method}
use Rattle.ix_core.specs.declared.program.Program.{Program}
use Rattle.ix_core.specs.Tables.{param_slot}
use Rattle.ix_facts.specs.Stores.{Stored, IsAfter, IsAdded, Gives, operated, with_facts}
use Rattle.ix_facts.specs.Systems.{HaveClasses}
use Rattle.ix_rules_hold.specs.MachineSteps.{own_path}
use Rattle.ix_store.specs.declared.store.Store.{Store}
use Rattle.ix_store.specs.StoredFacts.{stored}
use Rattle.ix_signatures.specs.Names.{param_in, variable_at}
use Rattle.ix_signatures.specs.Signs.{Adds, IsLeastOf}
use Rattle.ix_signatures.proofs.LeastSteps.{least_given, least_then}
use Rattle.ix_signatures.proofs.SignSteps.{adds_step}
use Rattle.ix_signatures.proofs.SignClasses.{claims_have}
use Rattle.ix_core.specs.declared.fact.Path.TheVariants.{Slot}
use Rattle.ix_sign.specs.MethodRules.{variable_claims, copied_claims, KindGives}

-- ---- parameters

pub param_next : (method : Method) (slot number k : ℕ) (params : List Variable) → k < length params → (slot == param_slot method number) ≡ false → param_in method slot number (drop k params) ≡ param_in method slot (number + 1) (drop (k + 1) params)
param_next method slot number k [] within apart = absurd (omega (arith, within))
param_next method slot number zero (p ∷ params) within apart =
    let e : suc number ≡ number + 1 = omega arith in
    ap (λ b. if b then Some (name.Param number, p.claims) else param_in method slot (suc number) params) apart ∙ ap (λ n. param_in method slot n params) e
param_next method slot number (suc k) (p ∷ params) within apart =
    let e : suc (k + 1) ≡ suc k + 1 = omega arith in
    param_next method slot number k params (omega (arith, within)) apart ∙ ap (λ j. param_in method slot (number + 1) (drop j (p ∷ params))) e

-- ---- operations

module _ (program : Program) (method : Method) (profile : Profile) where
  pub copy_least : (kind : OpKind) (target source : ℕ) (ty : Type_) (place : ℕ) (s between t : Stored) → kind ≡ op.Copy target source ty → IsAfter profile kind s between → IsAdded (copied_claims method target place) between t
      → IsLeastOf (KindGives program method profile kind place) s t
  copy_least kind target source ty place s between t is done added =
      subst (λ k. IsLeastOf (KindGives program method profile k place) s t) (sym is)
      (least_then (Gives (operated profile (op.Copy target source ty))) (Adds (copied_claims method target place)) (adds_step (copied_claims method target place)) s between t
      (least_given (operated profile (op.Copy target source ty)) s between (subst (λ k. IsAfter profile k s between) is done)) (least_given (with_facts (copied_claims method target place)) between t added))

  -- an operation that is no copy, no call and touches no field
  pub plain_gives : (kind : OpKind) (place : ℕ) → ((t s : ℕ) (ty : Type_) → kind ≡ op.Copy t s ty → ⊥) → ((t o f : ℕ) → kind ≡ op.ReadField t o f → ⊥) → ((o f v : ℕ) → kind ≡ op.WriteField o f v → ⊥)
      → ((call : CallOp) → kind ≡ op.NewObject call → ⊥) → ((call : CallOp) → kind ≡ op.StaticCall call → ⊥) → ((call : CallOp) → kind ≡ op.InstanceCall call → ⊥) → ((call : CallOp) → kind ≡ op.SuperCall call → ⊥)
      → KindGives program method profile kind place ≡ Gives (operated profile kind)
  plain_gives (op.Const t value) place a b c d e f g = refl
  plain_gives (op.Copy t s ty) place a b c d e f g = absurd (a t s ty refl)
  plain_gives (op.Num t arith_ left right) place a b c d e f g = refl
  plain_gives (op.Unary t unary operand) place a b c d e f g = refl
  plain_gives (op.Length t array) place a b c d e f g = refl
  plain_gives (op.NewArray t ty size) place a b c d e f g = refl
  plain_gives (op.Fill t ty entries) place a b c d e f g = refl
  plain_gives (op.Load t array index ty) place a b c d e f g = refl
  plain_gives (op.Store array index value ty) place a b c d e f g = refl
  plain_gives (op.ReadField t o field) place a b c d e f g = absurd (b t o field refl)
  plain_gives (op.WriteField o field v) place a b c d e f g = absurd (c o field v refl)
  plain_gives (op.NewObject call) place a b c d e f g = absurd (d call refl)
  plain_gives (op.StaticCall call) place a b c d e f g = absurd (e call refl)
  plain_gives (op.InstanceCall call) place a b c d e f g = absurd (f call refl)
  plain_gives (op.SuperCall call) place a b c d e f g = absurd (g call refl)
  plain_gives (op.Print value) place a b c d e f g = refl

  pub plain_least : (kind : OpKind) (place : ℕ) (s : Stored) (made : Result Store AllocError) → KindGives program method profile kind place ≡ Gives (operated profile kind)
      → IfOk made (λ after. IsAfter profile kind s (stored after)) → IfOk made (λ after. IsLeastOf (KindGives program method profile kind place) s (stored after))
  plain_least kind place s (Ok after) is done = subst (λ G. IsLeastOf G s (stored after)) (sym is) (least_given (operated profile kind) s (stored after) done)
  plain_least kind place s (Err e) is done = tt

pub copied_have : (method : Method) (slot place : ℕ) → HaveClasses (copied_claims method slot place)
copied_have method slot place = claims_have (own_path method) (Slot slot) (variable_claims (variable_at method slot place))
