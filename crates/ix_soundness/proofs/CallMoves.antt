-- A call without errors shows what the laws ask of it.
use Rattle.std.specs.Prelude.{◌≡◌, ℕ, ◌<◌, ◌==◌, nat_lt, Bool, true, false, List, [], length, Option, None, Some, refl}
use Rattle.std.proofs.Common.{sym, ap, ◌∙◌, subst}
use Rattle.std.proofs.lemmas.Bool.{and_parts, false≢true}
use Rattle.ix_core.specs.declared.claim.Type_.{Type_}
use Rattle.ix_core.specs.declared.error.Error.{Error}
use Rattle.ix_core.specs.declared.fact.Profile.{Profile}
use Rattle.ix_core.specs.declared.op.CallOp.{CallOp}
use Rattle.ix_core.specs.declared.op.Op.{Op}
use Rattle.ix_core.specs.declared.op.OpKind.TheVariants as op
use Rattle.ix_core.specs.declared.program.Method.{Method}
use Rattle.ix_core.specs.declared.program.Program.{Program}
use Rattle.ix_core.specs.Analysis.{Calls}
use Rattle.ix_core.specs.Code.{Code, Do}
use Rattle.ix_core.specs.Formed.{is_formed, call_fits, new_fits, static_fits, instance_fits, super_fits, op_fits, is_super_call}
use Rattle.ix_core.specs.Heap.{Held, At, Heap, ObjectOf, value_at}
use Rattle.ix_core.specs.Machine.{CallKind, Static, Instance, New, Super, frame}
use Rattle.ix_core.specs.Numbers.{Numbers, HasInts, numbers_of}
use Rattle.ix_core.specs.Objects.{HasField, HeapKeeps, FrameKeeps, KeepsInts, AllOn}
use Rattle.ix_core.specs.Tables.{method_at}
use Rattle.ix_core.specs.Tasks.{Tasks, Run, code_then}
use Rattle.ix_core.specs.Types.{Types}
use Rattle.ix_core.specs.Waits.{Knowledge, FitsCall, AreFresh, is_super}
use Rattle.ix_core.specs.World.{World}
use Rattle.ix_core.proofs.Cases.{by_test, equal}
use Rattle.ix_core.proofs.FormedParts.{locals_of}
use Rattle.ix_core.proofs.Kept.{all_on, has_ints}
use Rattle.ix_core.proofs.LawsAreSafe.{types_in}
use Rattle.ix_core.proofs.TypedCalls.{not_static}
use Rattle.ix_core.proofs.TypedStarts.{OperationFits}
use Rattle.ix_rules_hold.proofs.MachineTests.{field_is}
use Rattle.ix_facts.specs.Stores.{Stored}
use Rattle.ix_sign.specs.MethodRules.{method_rules, KindGives}
use Rattle.ix_soundness.specs.Chain.{Flowing}
use Rattle.ix_soundness.specs.Clean.{IsClean}
use Rattle.ix_soundness.specs.Direct.{direct}
use Rattle.ix_soundness.specs.Errors.{NoErrors, NoKindErrors}
use Rattle.ix_soundness.specs.Known.{Here, KindFits, CallsWell, call_op, BehindGives, stage_behind, MeetsHere, Itself, knowledge}
use Rattle.ix_soundness.specs.Making.{Stage, Plain, Making, with_types, MakingFits, StageFits, StageHolds}
use Rattle.ix_soundness.proofs.ArgumentsMet.{params_met}
use Rattle.ix_soundness.proofs.FormedCalls.{CallHas, call_has, static_fits_call, instance_fits_call, new_fits_call, super_fits_call, receiver_has, instance_named}
use Rattle.ix_soundness.proofs.StageMoves.{operation_stays, super_made}
use Rattle.ix_signatures.specs.SignErrors.{ArgumentClaim}

module _ (program : Program) (locals : List (List Type_)) (formed : is_formed program locals ≡ true) (profile : Profile) (entries : (number : ℕ) → nat_lt number (length program.methods) ≡ true → Stored)
    (building : ℕ → Type 0) (number : ℕ) (lt : number < length program.methods) (slots : List Held) (heap : Heap) (keeps : HeapKeeps (direct program) building heap)
    (frame_keeps : FrameKeeps building (method_at program number) slots heap) (kept_ints : KeepsInts slots heap) where
  abbrev world : World
  world = direct program

  abbrev method : Method
  method = method_at program number

  abbrev know : Knowledge
  know = knowledge program profile (types_in program locals formed) entries

  before : HasInts world.place slots heap
  before = has_ints world.place slots heap kept_ints

  abbrev v : Numbers
  v = numbers_of world.place slots heap before

  on : AllOn slots heap
  on = all_on world building method slots heap keeps frame_keeps

  module _ (done : Op) (rest : Code) (below : Tasks) (fits : OperationFits program locals formed (record { now = frame number (Run (Do done rest) below) slots; below = []; heap = heap; wrapped = false; ended = None }) done)
      (stage : Stage) (stage_fits : StageFits program (types_in program locals formed) number (Run (Do done rest) below) stage) (last : Option Op) (s t : Stored) (here : MeetsHere program profile (types_in program locals formed) stage last s slots heap)
      (none : NoKindErrors program method number done done.kind s) (clean : IsClean program method done.kind) (gives : KindGives program method profile done.kind done.span.from s t)
      (labels : ℕ → Stored) (flowing : Flowing (method_rules program method profile) (NoErrors program method number) labels (λ (d : Op). IsClean program method d.kind) (Some done) (code_then rest below) t) where
    -- what formedness and the text say of the call
    pub record CallParts (kind : CallKind) (call : CallOp) : Type 0 where
      pub has : CallHas program locals formed number lt slots heap fits.types fits.size fits.typed call
      pub call_fits : FitsCall world method (method_at program call.method) kind call
      pub kinds : KindFits kind call (method_at program call.method)
      pub receiver : (slot : ℕ) → kind ≡ Instance → call.receiver ≡ Some slot → (slot == call.target) ≡ false

    static_parts : (call : CallOp) → op_fits program method (locals_of program locals formed number) (Some fits.types) done (op.StaticCall call) ≡ true → IsClean program method (op.StaticCall call) → CallParts Static call
    static_parts call e clean =
        let one = and_parts (static_fits program method (Some fits.types) call) _ e in
        let two = and_parts (call_fits program method (Some fits.types) call) _ one.0 in
        let three = and_parts (method_at program call.method).is_static _ two.1 in record {
          has = call_has program locals formed number lt slots heap fits.types fits.size fits.typed call two.0;
          call_fits = static_fits_call program locals formed number lt slots heap fits.types fits.size fits.typed call one.0 clean;
          kinds = three.0;
          receiver = λ slot is r. absurd cc;
        }

    instance_parts : (call : CallOp) → op_fits program method (locals_of program locals formed number) (Some fits.types) done (op.InstanceCall call) ≡ true → IsClean program method (op.InstanceCall call) → CallParts Instance call
    instance_parts call e clean =
        let one = and_parts (instance_fits program method (Some fits.types) call) _ e in
        let two = and_parts (call_fits program method (Some fits.types) call) _ one.0 in
        let is = instance_named program locals formed number lt slots heap fits.types fits.size fits.typed call one.0 in
        let r = receiver_has program locals formed number lt slots heap fits.types fits.size fits.typed call one.0 in record {
          has = call_has program locals formed number lt slots heap fits.types fits.size fits.typed call two.0;
          call_fits = instance_fits_call program locals formed number lt slots heap fits.types fits.size fits.typed call one.0 clean;
          kinds = (is.0, is.1, r.0, r.1);
          receiver = λ slot is other. subst (λ m. (m == call.target) ≡ false) (same_slot r.0 slot (sym r.1 ∙ other)) r.2;
        }
      where
        same_slot : (a b : ℕ) → ◌≡◌ {A = Option ℕ} (Some a) (Some b) → a ≡ b
        same_slot a b e = cc

    new_parts : (call : CallOp) → op_fits program method (locals_of program locals formed number) (Some fits.types) done (op.NewObject call) ≡ true → IsClean program method (op.NewObject call) → CallParts (New call.class) call
    new_parts call e clean =
        let one = and_parts (new_fits program method (Some fits.types) call) _ e in
        let two = and_parts (call_fits program method (Some fits.types) call) _ one.0 in
        let three = and_parts (method_at program call.method).constructor _ two.1 in
        let has = call_has program locals formed number lt slots heap fits.types fits.size fits.typed call two.0 in record {
          has = has;
          call_fits = new_fits_call program locals formed number lt slots heap fits.types fits.size fits.typed call one.0 clean;
          kinds = (not_static program locals formed call.method has.there three.0, three.0);
          receiver = λ slot is r. absurd cc;
        }

    super_parts : (call : CallOp) → op_fits program method (locals_of program locals formed number) (Some fits.types) done (op.SuperCall call) ≡ true → IsClean program method (op.SuperCall call) → CallParts Super call
    super_parts call e clean =
        let one = and_parts (super_fits program method (Some fits.types) call) _ e in
        let two = and_parts (call_fits program method (Some fits.types) call) _ one.0 in
        let has = call_has program locals formed number lt slots heap fits.types fits.size fits.typed call two.0 in
        let fits_call = super_fits_call program locals formed number lt slots heap fits.types fits.size fits.typed call one.0 clean in record {
          has = has;
          call_fits = fits_call;
          kinds = (not_static program locals formed call.method has.there fits_call.kinds.1, fits_call.kinds.1);
          receiver = λ slot is r. absurd cc;
        }

    -- ---- what the laws ask

    module _ (kind : CallKind) (call : CallOp) (is : done.kind ≡ call_op kind call) (parts : CallParts kind call) (no_claim : (error : Error) (rank : ℕ) → ArgumentClaim program call s error rank → ⊥) (behind : BehindGives program method kind call s t) where
      makes : (class : ℕ) (new : Bool) (types : Types) → stage ≡ Making class new types → (method.constructor ≡ true) × (class ≡ method.class)
      makes class new types is = let making = subst (StageFits program (types_in program locals formed) number (Run (Do done rest) below)) is stage_fits in (making.constructor, making.of)

      pub well : CallsWell program method (method_at program call.method) kind call stage s
      well = record {
        number = number;
        there = lt;
        caller_is = refl;
        callee_is = refl;
        named = call.method;
        overrides = Itself call.method;
        known = parts.has.there;
        kinds = parts.kinds;
        args = parts.has.args;
        makes = makes;
        target = λ made. by_test (0 == call.target) (λ e. absurd (parts.has.target.own (made, sym (equal 0 call.target e)))) (λ e. e);
        apart = parts.has.apart;
        receiver = parts.receiver;
        met = no_claim;
      }

      calls_well : (types : Types) → StageFits program (types_in program locals formed) number (code_then rest below) (stage_behind kind stage types) → (is_super kind ≡ true → (object : ℕ) → value_at slots 0 ≡ At object → AreFresh world heap object method.class)
          → Calls profile world know number kind call (code_then rest below) slots heap
      unfolding well
      calls_well types fine fresh = record {
        store = Here stage last s;
        holds = here;
        fits = parts.call_fits;
        met = params_met program locals formed slots heap on before s (here before).0 kind call call.method parts.has.there parts.kinds parts.has.args no_claim;
        fresh = fresh;
        fine = λ there. record { well = well; after = t; gives = behind; types = types; done = done; is = is; fine = record { labels = labels; flowing = flowing; stage_fits = fine } };
      }

    -- before the parent's constructor runs the object is as new
    fresh_here : (class : ℕ) (types : Types) → class ≡ method.class → StageHolds world (Making class true types) v → (object : ℕ) → value_at slots 0 ≡ At object → AreFresh world heap object method.class
    fresh_here class types of holds object at field has =
        let zero = holds field (subst (λ c. HasField world (ObjectOf c) field) (sym of) has) in
        field_is world slots heap before 0 object field at ∙ (λ i. record { int = zero.0 i; size = zero.1 i })

    plain_calls : (kind : CallKind) (call : CallOp) → done.kind ≡ call_op kind call → is_super kind ≡ false → is_super_call done.kind ≡ false → CallParts kind call → ((error : Error) (rank : ℕ) → ArgumentClaim program call s error rank → ⊥)
        → BehindGives program method kind call s t → ((types : Types) → StageFits program (types_in program locals formed) number (code_then rest below) (with_types stage types) → StageFits program (types_in program locals formed) number (code_then rest below) (stage_behind kind stage types))
        → Calls profile world know number kind call (code_then rest below) slots heap
    plain_calls kind call is plain no_super parts no_claim behind same =
        let after = operation_stays program locals formed number lt done rest below stage no_super stage_fits in
        calls_well kind call is parts no_claim behind after.0 (same after.0 after.1) (λ super. absurd (false≢true (sym plain ∙ super)))

    pub static_shown : (call : CallOp) → done.kind ≡ op.StaticCall call → Calls profile world know number Static call (code_then rest below) slots heap
    static_shown call is =
        plain_calls Static call is refl (ap is_super_call is) (static_parts call (subst (λ k. op_fits program method (locals_of program locals formed number) (Some fits.types) done k ≡ true) is fits.fits) (subst (IsClean program method) is clean)) (subst (λ k. NoKindErrors program method number done k s) is none)
        (subst (λ k. KindGives program method profile k done.span.from s t) is gives) (λ types f. f)

    pub instance_shown : (call : CallOp) → done.kind ≡ op.InstanceCall call → Calls profile world know number Instance call (code_then rest below) slots heap
    instance_shown call is =
        plain_calls Instance call is refl (ap is_super_call is) (instance_parts call (subst (λ k. op_fits program method (locals_of program locals formed number) (Some fits.types) done k ≡ true) is fits.fits) (subst (IsClean program method) is clean))
        (subst (λ k. NoKindErrors program method number done k s) is none) (subst (λ k. KindGives program method profile k done.span.from s t) is gives) (λ types f. f)

    pub new_shown : (call : CallOp) → done.kind ≡ op.NewObject call → Calls profile world know number (New call.class) call (code_then rest below) slots heap
    new_shown call is =
        plain_calls (New call.class) call is refl (ap is_super_call is) (new_parts call (subst (λ k. op_fits program method (locals_of program locals formed number) (Some fits.types) done k ≡ true) is fits.fits) (subst (IsClean program method) is clean))
        (subst (λ k. NoKindErrors program method number done k s) is none) (subst (λ k. KindGives program method profile k done.span.from s t) is gives) (λ types f. f)

    pub super_shown : (call : CallOp) → done.kind ≡ op.SuperCall call → Calls profile world know number Super call (code_then rest below) slots heap
    super_shown call is = by_stage stage refl
      where
        parts : CallParts Super call
        parts = super_parts call (subst (λ k. op_fits program method (locals_of program locals formed number) (Some fits.types) done k ≡ true) is fits.fits) (subst (IsClean program method) is clean)

        no_claim : (error : Error) (rank : ℕ) → ArgumentClaim program call s error rank → ⊥
        no_claim = subst (λ k. NoKindErrors program method number done k s) is none

        behind : BehindGives program method Super call s t
        behind = subst (λ k. KindGives program method profile k done.span.from s t) is gives

        by_stage : (at : Stage) → stage ≡ at → Calls profile world know number Super call (code_then rest below) slots heap
        by_stage Plain e = absurd (false≢true (sym (subst (StageFits program (types_in program locals formed) number (Run (Do done rest) below)) e stage_fits) ∙ parts.call_fits.kinds.0))
        by_stage (Making class new types) e =
            let making : MakingFits program (locals_of program locals formed number) method (Run (Do done rest) below) class new types = subst (StageFits program (types_in program locals formed) number (Run (Do done rest) below)) e stage_fits in
            let made = super_made program locals formed number lt done call rest below class new types is making in
            let holds = subst (λ x. StageHolds world x v) e (here before).1 in
            calls_well Super call is parts no_claim behind made.1 (subst (λ x. StageFits program (types_in program locals formed) number (code_then rest below) (stage_behind Super x made.1)) (sym e) made.2)
            (λ super object at. fresh_here class types making.of (subst (λ b. StageHolds world (Making class b types) v) made.0 holds) object at)
