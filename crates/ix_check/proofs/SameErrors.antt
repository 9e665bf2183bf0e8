-- Programs that differ in what isn't declared have the same errors of a method that is given.
use Rattle.std.specs.Prelude.{◌≡◌, ◌⊎◌, ℕ, Bool, false, not, ◌&&◌, ◌||◌, ◌==◌, List, [], ◌++◌, slice_get, Option, None, Some, refl}
use Rattle.std.proofs.Common.{sym, ap, subst, inl, inr, ⊎_elim}
use Rattle.ix_core.specs.declared.error.Error.{Error}
use Rattle.ix_core.specs.declared.fact.Fact.{Fact}
use Rattle.ix_core.specs.declared.fact.Path.TheVariants.{Slot}
use Rattle.ix_core.specs.declared.fact.Profile.{Profile}
use Rattle.ix_core.specs.declared.op.CallOp.{CallOp}
use Rattle.ix_core.specs.declared.op.Literal.{Literal}
use Rattle.ix_core.specs.declared.op.Literal.TheVariants as literal
use Rattle.ix_core.specs.declared.op.Op.{Op}
use Rattle.ix_core.specs.declared.op.OpKind.{OpKind}
use Rattle.ix_core.specs.declared.op.OpKind.TheVariants as op
use Rattle.ix_core.specs.declared.op.Test.{Test}
use Rattle.ix_core.specs.declared.program.Method.{Method}
use Rattle.ix_core.specs.declared.program.Program.{Program}
use Rattle.ix_core.specs.Code.{Code, End, Do, If, Break, Continue, Return, Throw, Loop, Condition, Known, Compare, Truth, Both, Either, Opposite}
use Rattle.ix_core.specs.Tables.{method_at, field_at, all_fields, body_of}
use Rattle.ix_core.specs.Types.{is_void}
use Rattle.ix_facts.specs.Exact.{if_so}
use Rattle.ix_facts.specs.Forget.{of_slot, of_call, of_this}
use Rattle.ix_facts.specs.MethodLandmarks.{declared_numbers, operation_numbers, code_numbers, condition_numbers, method_numbers, variables_numbers, locals_of, fields_numbers}
use Rattle.ix_facts.specs.Round.{AreLandmarks}
use Rattle.ix_facts.specs.Stores.{Stored, Then}
use Rattle.ix_flow.specs.Flow.{Point, Doing, Returning, Ending, Avoids, IsDerived}
use Rattle.ix_rules_hold.specs.MachineSteps.{own_slot}
use Rattle.ix_signatures.specs.Names.{call_path}
use Rattle.ix_signatures.specs.Signs.{Adds, Forgets, CallGives, SuperGives, received, claims_facts, posts_facts, zero_fields, own_fields, fields_facts, inherited_fields, told_by, told_by_call, told_facts}
use Rattle.ix_signatures.specs.SignErrors.{ArgumentClaim, ConstructorClaim, HasEffect}
use Rattle.ix_sign.specs.MethodRules.{method_rules, KindGives, AfterGives, RoundedGives}
use Rattle.ix_sign.specs.RuleErrors.{KindErrors, PointErrors, OpText, Somewhere, SomewhereAsked, OverridesBy, TestEscapes, TextErrors}
use Rattle.ix_errors.specs.declared.ranked.Ranked.{Ranked}
use Rattle.ix_check.specs.MethodErrors.{Derives}
use Rattle.ix_check.specs.Signatures.{signature_of, ErrorsOf}
use Rattle.ix_check.proofs.DeclaredNames.{MethodDeclared}
use Rattle.ix_check.proofs.SameFlows.{is_flow_with}
use Rattle.ix_check.proofs.SameSignature.{Overrides, overrides_of, to_overrides}

module _ (program : Program) (methods : List Method) (accesses : ℕ) where
  -- the program with other methods
  abbrev pub other : Program
  other = record program { methods = methods; accesses = accesses }

  module _ (agree : (k : ℕ) → signature_of (method_at other k) ≡ signature_of (method_at program k)) (declared : (k : ℕ) → MethodDeclared (method_at program k)) (method : Method) where
    turned : (k : ℕ) → signature_of (method_at program k) ≡ signature_of (method_at other k)
    turned k = sym (agree k)

    -- ---- calls

    abbrev GivesBy : CallOp → Method → Stored → Stored → Type 0
    GivesBy call named =
        Then (Forgets (λ p. of_slot call.target p || (not named.effect_free && of_call (λ field. (field_at program field).is_final) (own_slot method) p)))
        (Adds (received named.result (Slot call.target) ++ (claims_facts (call_path call) (Slot call.target) named.result_claims ++ posts_facts (call_path call) None named.posts)))

    call_gives : (call : CallOp) (s t : Stored) → CallGives program method call s t → CallGives other method call s t
    call_gives call s t gives = subst (λ named. GivesBy call named s t) (turned call.method) gives

    abbrev SuperBy : CallOp → Method → Stored → Stored → Type 0
    SuperBy call named =
        Then (Forgets (λ p. (of_slot call.target p || (not named.effect_free && of_call (λ field. (field_at program field).is_final) (own_slot method) p)) || of_this p))
        (Adds (zero_fields program (own_fields program method) ++ fields_facts program (inherited_fields program method)))

    super_gives : (call : CallOp) (s t : Stored) → SuperGives program method call s t → SuperGives other method call s t
    super_gives call s t gives = subst (λ named. SuperBy call named s t) (turned call.method) gives

    kind_gives : (profile : Profile) (kind : OpKind) (place : ℕ) (s t : Stored) → KindGives program method profile kind place s t → KindGives other method profile kind place s t
    kind_gives profile (op.Const target value) place s t gives = gives
    kind_gives profile (op.Copy target source ty) place s t gives = gives
    kind_gives profile (op.Num target arith_op left right) place s t gives = gives
    kind_gives profile (op.Unary target unary operand) place s t gives = gives
    kind_gives profile (op.Length target array) place s t gives = gives
    kind_gives profile (op.NewArray target ty size) place s t gives = gives
    kind_gives profile (op.Fill target ty entries) place s t gives = gives
    kind_gives profile (op.Load target array index ty) place s t gives = gives
    kind_gives profile (op.Store array index value ty) place s t gives = gives
    kind_gives profile (op.Print value) place s t gives = gives
    kind_gives profile (op.ReadField target object field) place s t gives = gives
    kind_gives profile (op.WriteField object field value) place s t gives = gives
    kind_gives profile (op.NewObject call) place s t gives = call_gives call s t gives
    kind_gives profile (op.StaticCall call) place s t gives = call_gives call s t gives
    kind_gives profile (op.InstanceCall call) place s t gives = call_gives call s t gives
    kind_gives profile (op.SuperCall call) place s t gives = super_gives call s t gives

    -- ---- what an answer tells

    abbrev told_of : CallOp → ℕ → Bool → Method → List Fact
    told_of call slot answer named = if_so (call.target == slot && not (is_void named.result)) (posts_facts (call_path call) (Some answer) named.posts)

    call_told : (call : CallOp) (slot : ℕ) (answer : Bool) → told_by_call program call slot answer ≡ told_by_call other call slot answer
    call_told call slot answer = ap (told_of call slot answer) (turned call.method)

    kind_told : (kind : OpKind) (slot : ℕ) (answer : Bool) → told_by program kind slot answer ≡ told_by other kind slot answer
    kind_told (op.StaticCall call) slot answer = call_told call slot answer
    kind_told (op.InstanceCall call) slot answer = call_told call slot answer
    kind_told (op.Const target value) slot answer = refl
    kind_told (op.Copy target source ty) slot answer = refl
    kind_told (op.Num target arith_op left right) slot answer = refl
    kind_told (op.Unary target unary operand) slot answer = refl
    kind_told (op.Length target array) slot answer = refl
    kind_told (op.NewArray target ty size) slot answer = refl
    kind_told (op.Fill target ty entries) slot answer = refl
    kind_told (op.Load target array index ty) slot answer = refl
    kind_told (op.Store array index value ty) slot answer = refl
    kind_told (op.Print value) slot answer = refl
    kind_told (op.ReadField target object field) slot answer = refl
    kind_told (op.WriteField object field value) slot answer = refl
    kind_told (op.NewObject call) slot answer = refl
    kind_told (op.SuperCall call) slot answer = refl

    last_told : (last : Option Op) (slot : ℕ) (answer : Bool) → told_facts program last slot answer ≡ told_facts other last slot answer
    last_told None slot answer = refl
    last_told (Some done) slot answer = kind_told done.kind slot answer

    -- ---- landmarks

    call_numbers : (call : CallOp) → declared_numbers (method_at program call.method) ≡ declared_numbers (method_at other call.method)
    call_numbers call = ap declared_numbers (turned call.method)

    const_numbers : (target : ℕ) (value : Literal) → operation_numbers program (op.Const target value) ≡ operation_numbers other (op.Const target value)
    const_numbers target (literal.Int n) = refl
    const_numbers target (literal.Bool answer) = refl
    const_numbers target (literal.NullOf ty) = refl

    kind_numbers : (kind : OpKind) → operation_numbers program kind ≡ operation_numbers other kind
    kind_numbers (op.NewObject call) = call_numbers call
    kind_numbers (op.StaticCall call) = call_numbers call
    kind_numbers (op.InstanceCall call) = call_numbers call
    kind_numbers (op.SuperCall call) = call_numbers call
    kind_numbers (op.Const target value) = const_numbers target value
    kind_numbers (op.Copy target source ty) = refl
    kind_numbers (op.Num target arith_op left right) = refl
    kind_numbers (op.Unary target unary operand) = refl
    kind_numbers (op.Length target array) = refl
    kind_numbers (op.NewArray target ty size) = refl
    kind_numbers (op.Fill target ty entries) = refl
    kind_numbers (op.Load target array index ty) = refl
    kind_numbers (op.Store array index value ty) = refl
    kind_numbers (op.Print value) = refl
    kind_numbers (op.ReadField target object field) = refl
    kind_numbers (op.WriteField object field value) = refl

    mutual
      numbers_same : (code : Code) → code_numbers program code ≡ code_numbers other code
      numbers_same End = refl
      numbers_same (Do done code) = let a = kind_numbers done.kind in let b = numbers_same code in cc
      numbers_same (If asked first second code) = let a = asked_same asked in let b = numbers_same first in let c = numbers_same second in let d = numbers_same code in cc
      numbers_same (Break code) = numbers_same code
      numbers_same (Continue code) = numbers_same code
      numbers_same (Return value span code) = numbers_same code
      numbers_same (Throw name span code) = numbers_same code
      numbers_same (Loop test_first asked body next number scope code) = let a = asked_same asked in let b = numbers_same body in let c = numbers_same next in let d = numbers_same code in cc

      asked_same : (asked : Condition) → condition_numbers program asked ≡ condition_numbers other asked
      asked_same (Known answer) = refl
      asked_same (Compare code test) = numbers_same code
      asked_same (Truth code slot) = numbers_same code
      asked_same (Both asked later) = let a = asked_same asked in let b = asked_same later in cc
      asked_same (Either asked later) = let a = asked_same asked in let b = asked_same later in cc
      asked_same (Opposite asked) = asked_same asked

    method_same : method_numbers program method ≡ method_numbers other method
    method_same = ap (λ numbers. declared_numbers method ++ (variables_numbers (locals_of method.locals) ++ (numbers ++ (Rattle.std.specs.Prelude.if◌then◌else◌ method.constructor (fields_numbers program (all_fields program method.class)) [])))) (numbers_same (body_of method))

    rounded_gives : (scope : ℕ) (s t : Stored) → RoundedGives program method scope s t → RoundedGives other method scope s t
    rounded_gives scope s t (marks, are, gives) = (marks, subst (λ numbers. AreLandmarks numbers marks) method_same are, gives)

    -- ---- errors

    argument_claim : (call : CallOp) (store : Stored) (error : Error) (rank : ℕ) → ArgumentClaim other call store error rank → ArgumentClaim program call store error rank
    argument_claim call store error rank claim = record {
      number = claim.number;
      param = claim.param;
      declared = subst (λ (named : Method). slice_get named.params claim.number ≡ Some claim.param) (agree call.method) claim.declared;
      arg = claim.arg;
      given = claim.given;
      of = claim.of;
    }

    kind_errors : (number : ℕ) (done : Op) (kind : OpKind) (store : Stored) (error : Error) (rank : ℕ) → KindErrors other method number done kind store error rank → KindErrors program method number done kind store error rank
    kind_errors number done (op.Const target value) store error rank e = e
    kind_errors number done (op.Copy target source ty) store error rank e = e
    kind_errors number done (op.Num target arith_op left right) store error rank e = e
    kind_errors number done (op.Unary target unary operand) store error rank e = e
    kind_errors number done (op.Length target array) store error rank e = e
    kind_errors number done (op.NewArray target ty size) store error rank e = e
    kind_errors number done (op.Fill target ty entries) store error rank e = e
    kind_errors number done (op.Load target array index ty) store error rank e = e
    kind_errors number done (op.Store array index value ty) store error rank e = e
    kind_errors number done (op.Print value) store error rank e = e
    kind_errors number done (op.ReadField target object field) store error rank e = e
    kind_errors number done (op.WriteField object field value) store error rank e =
        ⊎_elim (λ a. inl (record { built = a.built; of = a.of })) (λ b. inr (record { built = b.built; other = b.other; apart = b.apart; of = b.of })) e
    kind_errors number done (op.NewObject call) store error rank e = argument_claim call store error rank e
    kind_errors number done (op.StaticCall call) store error rank e = argument_claim call store error rank e
    kind_errors number done (op.InstanceCall call) store error rank e = argument_claim call store error rank e
    kind_errors number done (op.SuperCall call) store error rank e = argument_claim call store error rank e

    constructor_claim : (store : Stored) (error : Error) (rank : ℕ) → ConstructorClaim other method store error rank → ConstructorClaim program method store error rank
    constructor_claim store error rank e = record { constructor = e.constructor; at = e.at; field = e.field; has = e.has; of = e.of }

    point_errors : (number : ℕ) (point : Point) (store : Stored) (error : Error) (rank : ℕ) → PointErrors other method number point store error rank → PointErrors program method number point store error rank
    point_errors number (Doing done) store error rank e = kind_errors number done done.kind store error rank e
    point_errors number (Returning value known span) store error rank e = ⊎_elim (λ a. inl a) (λ b. ⊎_elim (λ c. inr (inl (constructor_claim store error rank c))) (λ d. inr (inr d)) b) e
    point_errors number Ending store error rank e = ⊎_elim (λ a. inl (constructor_claim store error rank a)) (λ b. inr b) e

    -- no flow avoids the error
    derived : (number : ℕ) (profile : Profile) (body : Code) (found : Ranked) → IsDerived (method_rules other method profile) (Derives other method number) body found
        → IsDerived (method_rules program method profile) (Derives program method number) body found
    derived number profile body found all labels flow =
        all labels
        (is_flow_with (method_rules program method profile) (AfterGives other method profile) (λ answer last slot. Adds (told_facts other last slot answer)) (RoundedGives other method)
        (λ done s t gives. kind_gives profile done.kind done.span.from s t gives)
        (λ answer last slot s t gives. subst (λ facts. Adds facts s t) (last_told last slot answer) gives)
        rounded_gives
        (Avoids (method_rules program method profile) (Derives program method number) found)
        (Avoids (method_rules program method profile) (Derives other method number) found)
        (λ point s avoids e. avoids (point_errors number point s found.error found.rank e))
        labels body flow)

    -- ---- errors of the text

    has_effect : (kind : OpKind) → HasEffect other method kind → HasEffect program method kind
    has_effect (op.NewObject call) e = subst (λ (named : Method). named.effect_free ≡ false) (agree call.method) e
    has_effect (op.StaticCall call) e = subst (λ (named : Method). named.effect_free ≡ false) (agree call.method) e
    has_effect (op.InstanceCall call) e = subst (λ (named : Method). named.effect_free ≡ false) (agree call.method) e
    has_effect (op.SuperCall call) e = subst (λ (named : Method). named.effect_free ≡ false) (agree call.method) e
    has_effect (op.WriteField object field value) e = e
    has_effect (op.Const target value) e = e
    has_effect (op.Copy target source ty) e = e
    has_effect (op.Num target arith_op left right) e = e
    has_effect (op.Unary target unary operand) e = e
    has_effect (op.Length target array) e = e
    has_effect (op.NewArray target ty size) e = e
    has_effect (op.Fill target ty entries) e = e
    has_effect (op.Load target array index ty) e = e
    has_effect (op.Store array index value ty) e = e
    has_effect (op.Print value) e = e
    has_effect (op.ReadField target object field) e = e

    module _ (error : Error) (rank : ℕ) where
      op_text : (done : Op) → OpText other method done error rank → OpText program method done error rank
      op_text done e = ⊎_elim (λ a. inl (record { marked = a.marked; does = has_effect done.kind a.does; is = a.is; first = a.first })) (λ b. inr b) e

      abbrev Theirs : Op → Type 0
      Theirs done = OpText other method done error rank

      abbrev Ours : Op → Type 0
      Ours done = OpText program method done error rank

      abbrev Asks : Test → Type 0
      Asks test = TestEscapes method test error rank

      mutual
        somewhere : (code : Code) → Somewhere Theirs Asks code → Somewhere Ours Asks code
        somewhere End e = e
        somewhere (Do done code) e = ⊎_elim (λ a. inl (op_text done a)) (λ b. inr (somewhere code b)) e
        somewhere (If asked first second code) e =
            ⊎_elim (λ a. inl (somewhere_asked asked a)) (λ b. inr (⊎_elim (λ c. inl (somewhere first c)) (λ d. inr (⊎_elim (λ f. inl (somewhere second f)) (λ g. inr (somewhere code g)) d)) b)) e
        somewhere (Break code) e = somewhere code e
        somewhere (Continue code) e = somewhere code e
        somewhere (Return value span code) e = somewhere code e
        somewhere (Throw name span code) e = somewhere code e
        somewhere (Loop test_first asked body next number scope code) e =
            ⊎_elim (λ a. inl (somewhere_asked asked a)) (λ b. inr (⊎_elim (λ c. inl (somewhere body c)) (λ d. inr (⊎_elim (λ f. inl (somewhere next f)) (λ g. inr (somewhere code g)) d)) b)) e

        somewhere_asked : (asked : Condition) → SomewhereAsked Theirs Asks asked → SomewhereAsked Ours Asks asked
        somewhere_asked (Known answer) e = e
        somewhere_asked (Compare code test) e = ⊎_elim (λ a. inl (somewhere code a)) (λ b. inr b) e
        somewhere_asked (Truth code slot) e = somewhere code e
        somewhere_asked (Both asked later) e = ⊎_elim (λ a. inl (somewhere_asked asked a)) (λ b. inr (somewhere_asked later b)) e
        somewhere_asked (Either asked later) e = ⊎_elim (λ a. inl (somewhere_asked asked a)) (λ b. inr (somewhere_asked later b)) e
        somewhere_asked (Opposite asked) e = somewhere_asked asked e

      abbrev ByOther : ℕ → ℕ → Method → Type 0
      ByOther number over named = Overrides program method number over error rank named

      overrides : (number : ℕ) (o : Option ℕ) → OverridesBy other method number o error rank → OverridesBy program method number o error rank
      overrides number None e = e
      overrides number (Some over) e =
          overrides_of program method number over error rank (method_at program over) (declared over)
          (subst (ByOther number over) (agree over) (to_overrides program method number over error rank (method_at other over) (subst MethodDeclared (turned over) (declared over)) e))

      text_errors : (number : ℕ) → TextErrors other method number error rank → TextErrors program method number error rank
      text_errors number e = ⊎_elim (λ a. inl (overrides number method.overrides a)) (λ b. inr (somewhere (body_of method) b)) e

    pub errors_of : (number : ℕ) (profile : Profile) (error : Error) (rank : ℕ) → ErrorsOf other method number profile error rank → ErrorsOf program method number profile error rank
    errors_of number profile error rank e = ⊎_elim (λ a. inl (derived number profile (body_of method) _ a)) (λ b. inr (text_errors error rank number b)) e
