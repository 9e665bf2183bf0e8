-- What stays known behind an operation, by the rules of a method.
use Rattle.std.proofs.Common.{◌≡◌, ℕ, Bool, true, false, [], ◌++◌, refl, sym}
use Rattle.std.proofs.lemmas.Bool.{false≢true}
use Rattle.std.specs.Prelude.{◌&&◌, ◌||◌, not, ◌==◌, if◌then◌else◌}
use Rattle.ix_core.specs.declared.fact.Path.TheVariants.{Slot, FieldOf}
use Rattle.ix_core.specs.declared.fact.Profile.{Profile}
use Rattle.ix_core.specs.declared.op.CallOp.{CallOp}
use Rattle.ix_core.specs.declared.op.Op.{Op}
use Rattle.ix_core.specs.declared.op.OpKind.{OpKind}
use Rattle.ix_core.specs.declared.op.OpKind.TheVariants as op
use Rattle.ix_core.specs.declared.program.Method.{Method}
use Rattle.ix_core.specs.declared.program.Program.{Program}
use Rattle.ix_core.specs.Tables.{field_at, method_at}
use Rattle.ix_facts.specs.Exact.{if_so}
use Rattle.ix_facts.specs.Forget.{of_slot, of_path, of_field, of_this}
use Rattle.ix_facts.specs.After.{of_target}
use Rattle.ix_facts.specs.Stores.{Stored, Reached, Gives, operated}
use Rattle.ix_facts.proofs.StoreLaws.{below_itself}
use Rattle.ix_rules_hold.specs.FieldAccess.{spared_by}
use Rattle.ix_signatures.specs.Names.{is_built}
use Rattle.ix_signatures.specs.Signs.{of_callee, result_facts, read_facts, write_facts, zero_fields, own_fields, fields_facts, inherited_fields}
use Rattle.ix_sign.specs.MethodRules.{copied_claims, KindGives, AfterGives}
use Rattle.ix_sign.proofs.MethodLaws.{kind_step}
use Rattle.ix_guard_promise.specs.Known.{Known, Nowhere, Unknown, Inside, writes, behind}
use Rattle.ix_guard_promise.specs.KnownFacts.{store_of}
use Rattle.ix_guard_promise.proofs.KeptFacts.{Apart, unknown_above, adds_stays, forgets_stays, operated_stays, copies_stays}

-- the operation writes none of the slots of which something is known
abbrev pub Spares : OpKind → Known → Type 0
Spares kind (Inside array index) = (writes kind array ≡ false) × (writes kind index ≡ false)
Spares kind known = Unit {0}

no_field : (target effects : Bool) → target ≡ false → (target || (effects && false)) ≡ false
no_field true effects apart = absurd (false≢true (sym apart))
no_field false true apart = refl
no_field false false apart = refl

no_this : (target effects : Bool) → target ≡ false → ((target || (effects && false)) || false) ≡ false
no_this true effects apart = absurd (false≢true (sym apart))
no_this false true apart = refl
no_this false false apart = refl

module _ (program : Program) (method : Method) where
  call_apart : (call : CallOp) (known : Known) → Spares (op.NewObject call) known → Apart (of_callee program method call) known
  call_apart call Nowhere spares = tt
  call_apart call Unknown spares = tt
  call_apart call (Inside array index) spares =
      (no_field (array == call.target) (not (method_at program call.method).effect_free) spares.0, no_field (index == call.target) (not (method_at program call.method).effect_free) spares.1)

  super_apart : (call : CallOp) (known : Known) → Spares (op.SuperCall call) known → Apart (λ p. of_callee program method call p || of_this p) known
  super_apart call Nowhere spares = tt
  super_apart call Unknown spares = tt
  super_apart call (Inside array index) spares =
      (no_this (array == call.target) (not (method_at program call.method).effect_free) spares.0, no_this (index == call.target) (not (method_at program call.method).effect_free) spares.1)

  field_apart : (field : ℕ) (spared : ℕ → Bool) (known : Known) → Apart (of_field field spared) known
  field_apart field spared Nowhere = tt
  field_apart field spared Unknown = tt
  field_apart field spared (Inside array index) = (refl, refl)

  written_apart : (object field : ℕ) (known : Known) → Apart (of_path (FieldOf object field)) known
  written_apart object field Nowhere = tt
  written_apart object field Unknown = tt
  written_apart object field (Inside array index) = (refl, refl)

  no_target : (known : Known) → Apart (λ p. false) known
  no_target Nowhere = tt
  no_target Unknown = tt
  no_target (Inside array index) = (refl, refl)

  slot_apart : (target : ℕ) (known : Known) → Spares (op.Length target 0) known → Apart (of_slot target) known
  slot_apart target Nowhere spares = tt
  slot_apart target Unknown spares = tt
  slot_apart target (Inside array index) spares = spares

  module _ (profile : Profile) where
    plain_stays : (kind : OpKind) (known : Known) → Apart (of_target kind) known → Gives (operated profile kind) (store_of known) (store_of known)
    plain_stays kind known apart = operated_stays profile kind known apart

    pub kind_stays : (kind : OpKind) (place : ℕ) (known : Known) → Spares kind known → KindGives program method profile kind place (store_of known) (store_of known)
    kind_stays (op.Const target value) place known spares = plain_stays (op.Const target value) known (slot_apart target known spares)
    kind_stays (op.Copy target source ty) place known spares =
        (store_of known, plain_stays (op.Copy target source ty) known (slot_apart target known spares), adds_stays (copied_claims method target place) (store_of known))
    kind_stays (op.Num target arith left right) place known spares = plain_stays (op.Num target arith left right) known (slot_apart target known spares)
    kind_stays (op.Unary target unary operand) place known spares = plain_stays (op.Unary target unary operand) known (slot_apart target known spares)
    kind_stays (op.Length target array) place known spares = plain_stays (op.Length target array) known (slot_apart target known spares)
    kind_stays (op.NewArray target ty size) place known spares = plain_stays (op.NewArray target ty size) known (slot_apart target known spares)
    kind_stays (op.Fill target ty entries) place known spares = plain_stays (op.Fill target ty entries) known (slot_apart target known spares)
    kind_stays (op.Load target array index ty) place known spares = plain_stays (op.Load target array index ty) known (slot_apart target known spares)
    kind_stays (op.Store array index value ty) place known spares = plain_stays (op.Store array index value ty) known (no_target known)
    kind_stays (op.ReadField target object field) place known spares = (
      store_of known,
      adds_stays (if_so (is_built method object) (read_facts program object field)) (store_of known),
      copies_stays (field_at program field).ty (Slot target) (FieldOf object field) known (slot_apart target known spares),
    )
    kind_stays (op.WriteField object field value) place known spares = (
      store_of known,
      adds_stays (if_so (is_built method object) (write_facts program object field)) (store_of known),
      (
        store_of known,
        forgets_stays (of_field field (spared_by method object)) known (field_apart field (spared_by method object) known),
        copies_stays (field_at program field).ty (FieldOf object field) (Slot value) known (written_apart object field known),
      ),
    )
    kind_stays (op.NewObject call) place known spares =
        (store_of known, forgets_stays (of_callee program method call) known (call_apart call known spares), adds_stays (result_facts program call) (store_of known))
    kind_stays (op.StaticCall call) place known spares =
        (store_of known, forgets_stays (of_callee program method call) known (call_apart call known spares), adds_stays (result_facts program call) (store_of known))
    kind_stays (op.InstanceCall call) place known spares =
        (store_of known, forgets_stays (of_callee program method call) known (call_apart call known spares), adds_stays (result_facts program call) (store_of known))
    kind_stays (op.SuperCall call) place known spares = (
      store_of known,
      forgets_stays (λ p. of_callee program method call p || of_this p) known (super_apart call known spares),
      adds_stays (zero_fields program (own_fields program method) ++ fields_facts program (inherited_fields program method)) (store_of known),
    )
    kind_stays (op.Print value) place known spares = plain_stays (op.Print value) known (no_target known)

    -- nothing is known behind an operation that writes a slot of which something is known
    pub kind_unknown : (kind : OpKind) (place : ℕ) (s : Stored) → KindGives program method profile kind place s (Reached [])
    kind_unknown kind place s = kind_step program method profile kind place s (Reached []) (Reached []) (Reached []) (unknown_above s) (kind_stays kind place Unknown tt) (below_itself (Reached []))

    behind_either : (kind : OpKind) (place array index : ℕ) (first second : Bool) → writes kind array ≡ first → writes kind index ≡ second
        → KindGives program method profile kind place (store_of (Inside array index)) (store_of (if first || second then Unknown else Inside array index))
    behind_either kind place array index true second one two = kind_unknown kind place (store_of (Inside array index))
    behind_either kind place array index false true one two = kind_unknown kind place (store_of (Inside array index))
    behind_either kind place array index false false one two = kind_stays kind place (Inside array index) (one, two)

    pub after_stays : (done : Op) (known : Known) → AfterGives program method profile done (store_of known) (store_of (behind done.kind known))
    after_stays done Nowhere = kind_stays done.kind done.span.from Nowhere tt
    after_stays done Unknown = kind_stays done.kind done.span.from Unknown tt
    after_stays done (Inside array index) = behind_either done.kind done.span.from array index (writes done.kind array) (writes done.kind index) refl refl
