-- No error of bounds is given at its place by a guarded operation, nor anywhere by another point.
use Rattle.std.proofs.Common.{◌≡◌, ℕ, ◌<◌, Bool, List, Option, None, Some, inl, inr, arith, refl, sym, ap, subst, ⊎_elim}
use Rattle.std.specs.Prelude.{pos}
use Rattle.ix_text.specs.declared.span.Span.{Span}
use Rattle.ix_core.specs.declared.claim.Claim.{Claim}
use Rattle.ix_core.specs.declared.claim.Name.{Name}
use Rattle.ix_core.specs.declared.error.Error.{Error}
use Rattle.ix_core.specs.declared.error.Subject.{Subject}
use Rattle.ix_core.specs.declared.fact.Path.TheVariants.{Slot}
use Rattle.ix_core.specs.declared.fact.PathClaim.TheVariants as path_claim
use Rattle.ix_core.specs.declared.fact.PathOff.TheVariants.{Nothing}
use Rattle.ix_core.specs.declared.op.CallOp.{CallOp}
use Rattle.ix_core.specs.declared.op.Op.{Op}
use Rattle.ix_core.specs.declared.op.OpKind.{OpKind}
use Rattle.ix_core.specs.declared.op.OpKind.TheVariants as op
use Rattle.ix_core.specs.declared.program.Method.{Method}
use Rattle.ix_core.specs.declared.program.Program.{Program}
use Rattle.ix_facts.specs.Stores.{Stored}
use Rattle.ix_flow.specs.Flow.{Doing, Returning, Ending}
use Rattle.ix_signatures.specs.Names.{variable_at}
use Rattle.ix_signatures.specs.SignErrors.{Refuses, Unproved, ArgumentClaim, plain, part}
use Rattle.ix_sign.specs.RuleErrors.{AccessLow, AccessHigh, AssignClaim, KindErrors}
use Rattle.ix_guard_promise.specs.Known.{Known, Nowhere, Unknown, Inside, accessed, IsInside}
use Rattle.ix_guard_promise.specs.KnownFacts.{store_of}
use Rattle.ix_guard_promise.specs.Guards.{IsGuarded}
use Rattle.ix_guard_promise.specs.BoundErrors.{IsOfBounds, GivesNo}
use Rattle.ix_guard_promise.proofs.InsideProved.{low_proved, high_proved}

-- an error of another rule
pub other_rule : (error : Error) (rule : ℕ) → IsOfBounds error → error.rule ≡ rule → 2 < rule → ⊥
other_rule error rule bounds is above = ⊎_elim (λ low. omega (arith, low, is, above)) (λ high. omega (arith, high, is, above)) bounds

module _ (error : Error) (rank : ℕ) (bounds : IsOfBounds error) where
  pub plain_other : (rule : ℕ) (span : Span) → 2 < rule → error ≡ plain rule span → ⊥
  plain_other rule span above is = other_rule error rule bounds (ap (λ (e : Error). e.rule) is) above

  pub claim_other : (Fails : Claim → Type 0) (claims : List Claim) (rule : ℕ) (span : Span) (subject : Subject) → 2 < rule → Unproved Fails claims rule span subject error rank → ⊥
  claim_other Fails claims rule span subject above claim = other_rule error rule bounds (ap (λ (e : Error). e.rule) claim.is) above

  low_proved_there : (known : Known) (array index : ℕ) → IsInside known (array, index) → Refuses (store_of known) (path_claim.Low (pos 0)) (Slot index) → ⊥
  low_proved_there Nowhere array index inside refused = refused tt
  low_proved_there Unknown array index inside refused = absurd inside
  low_proved_there (Inside first second) array index inside refused =
      subst (λ i. Refuses (store_of (Inside first second)) (path_claim.Low (pos 0)) (Slot i) → ⊥) inside.1 (λ r. r (low_proved first second)) refused

  high_proved_there : (known : Known) (array index : ℕ) → IsInside known (array, index) → Refuses (store_of known) (path_claim.Upper (Slot array) Nothing (pos 0)) (Slot index) → ⊥
  high_proved_there Nowhere array index inside refused = refused tt
  high_proved_there Unknown array index inside refused = absurd inside
  high_proved_there (Inside first second) array index inside refused =
      subst (λ i. Refuses (store_of (Inside first second)) (path_claim.Upper (Slot array) Nothing (pos 0)) (Slot i) → ⊥) inside.1
      (subst (λ a. Refuses (store_of (Inside first second)) (path_claim.Upper (Slot a) Nothing (pos 0)) (Slot second) → ⊥) inside.0 (λ r. r (high_proved first second))) refused

  -- neither claim of the access is refused
  abbrev Proves : Stored → ℕ × ℕ → Type 0
  Proves store access = (Refuses store (path_claim.Low (pos 0)) (Slot access.1) → ⊥) × (Refuses store (path_claim.Upper (Slot access.0) Nothing (pos 0)) (Slot access.1) → ⊥)

  module _ (store : Stored) (place : Span) (array index : ℕ) (proved : place ≡ error.span → Proves store (array, index)) where
    low_fine : AccessLow index place store error rank → ⊥
    low_fine low = (proved (sym (ap (λ (e : Error). e.span) low.is))).0 low.refused

    high_fine : AccessHigh array index place store error rank → ⊥
    high_fine high = (proved (sym (ap (λ (e : Error). e.span) high.is))).1 high.refused

  module _ (program : Program) (method : Method) (number : ℕ) where
    assign_fine : (source : ℕ) (place : Span) (variable : Option (Name × List Claim)) (store : Stored) → AssignClaim method number source place variable store error rank → ⊥
    assign_fine source place None store claim = claim
    assign_fine source place (Some variable) store claim = claim_other _ variable.1 4 place _ (omega arith) claim

    argument_fine : (call : CallOp) (store : Stored) → ArgumentClaim program call store error rank → ⊥
    argument_fine call store claim = claim_other _ claim.param.claims 5 claim.arg.span _ (omega arith) claim.of

    kind_fine : (done : Op) (kind : OpKind) (store : Stored) → ((access : ℕ × ℕ) → accessed kind ≡ Some access → done.span ≡ error.span → Proves store access)
        → KindErrors program method number done kind store error rank → ⊥
    kind_fine done (op.Load target array index ty) store guarded either = elim either [
      | inl low ↦ low_fine store done.span array index (guarded (array, index) refl) low
      | inr high ↦ high_fine store done.span array index (guarded (array, index) refl) high
    ]
    kind_fine done (op.Store array index value ty) store guarded either = elim either [
      | inl low ↦ low_fine store done.span array index (guarded (array, index) refl) low
      | inr (inl high) ↦ high_fine store done.span array index (guarded (array, index) refl) high
      | inr (inr claim) ↦ claim_other _ _ 16 (part done 0) _ (omega arith) claim
    ]
    kind_fine done (op.NewArray target ty size) store guarded either = elim either [
      | inl negative ↦ plain_other 3 done.span (omega arith) negative.is
      | inr fresh ↦ claim_other _ _ 16 done.span _ (omega arith) fresh
    ]
    kind_fine done (op.Fill target ty entries) store guarded entry = claim_other _ _ 16 (part done entry.at) _ (omega arith) entry.of
    kind_fine done (op.Copy target source ty) store guarded claim = assign_fine source (part done 1) (variable_at method target done.span.from) store claim
    kind_fine done (op.WriteField object field value) store guarded either = elim either [
      | inl claim ↦ claim_other _ _ 7 (part done 1) _ (omega arith) claim.of
      | inr dependent ↦ claim_other _ _ 8 (part done 1) _ (omega arith) dependent.of
    ]
    kind_fine done (op.NewObject call) store guarded claim = argument_fine call store claim
    kind_fine done (op.StaticCall call) store guarded claim = argument_fine call store claim
    kind_fine done (op.InstanceCall call) store guarded claim = argument_fine call store claim
    kind_fine done (op.SuperCall call) store guarded claim = argument_fine call store claim
    kind_fine done (op.Const target value) store guarded none = none
    kind_fine done (op.Num target arith_ left right) store guarded none = none
    kind_fine done (op.Unary target unary operand) store guarded none = none
    kind_fine done (op.Length target array) store guarded none = none
    kind_fine done (op.ReadField target object field) store guarded none = none
    kind_fine done (op.Print value) store guarded none = none

    pub guarded_fine : (done : Op) (known : Known) → IsGuarded error.span known done → GivesNo program method number error rank (Doing done) (store_of known)
    guarded_fine done known guarded given =
        kind_fine done done.kind (store_of known)
        (λ access is at. (low_proved_there known access.0 access.1 (guarded access is at), high_proved_there known access.0 access.1 (guarded access is at))) given

    pub no_access_fine : (done : Op) (store : Stored) → accessed done.kind ≡ None → GivesNo program method number error rank (Doing done) store
    no_access_fine done store none given = kind_fine done done.kind store (λ access is at. let no_such : ⊥ = cc in absurd no_such) given

    pub returning_fine : (value : Option ℕ) (answer : Option Bool) (span : Span) (store : Stored) → GivesNo program method number error rank (Returning value answer span) store
    returning_fine value answer span store either = elim either [
      | inl returned ↦ claim_other _ _ 6 span _ (omega arith) returned.of
      | inr (inl constructor) ↦ claim_other _ _ 9 method.span _ (omega arith) constructor.of
      | inr (inr post) ↦ other_rule error 18 bounds (ap (λ (e : Error). e.rule) post.is) (omega arith)
    ]

    pub ending_fine : (store : Stored) → GivesNo program method number error rank Ending store
    ending_fine store either = elim either [
      | inl constructor ↦ claim_other _ _ 9 method.span _ (omega arith) constructor.of
      | inr (inl missing) ↦ plain_other 17 method.span (omega arith) missing.is
      | inr (inr post) ↦ other_rule error 18 bounds (ap (λ (e : Error). e.rule) post.is) (omega arith)
    ]
