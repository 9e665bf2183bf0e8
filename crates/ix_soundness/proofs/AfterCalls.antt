-- Behind a call what is known holds, whatever it was that was known before: the law of an analysis on calls.
use Rattle.std.specs.Prelude.{◌≡◌, ◌⊎◌, ℕ, ◌==◌, Bool, true, false, not, ◌&&◌, List, length, Option, None, Some, refl}
use Rattle.std.proofs.Common.{sym, ap, ◌∙◌, subst, inl, inr}
use Rattle.std.proofs.lemmas.Bool.{and_parts, false≢true}
use Rattle.ix_core.specs.declared.claim.Type_.{Type_}
use Rattle.ix_core.specs.declared.fact.Profile.{Profile}
use Rattle.ix_core.specs.declared.op.CallOp.{CallOp}
use Rattle.ix_core.specs.declared.op.Op.{Op}
use Rattle.ix_core.specs.declared.program.Method.{Method}
use Rattle.ix_core.specs.declared.program.Program.{Program}
use Rattle.ix_core.specs.Analysis.{IsIntIf, FillsTarget, Results}
use Rattle.ix_core.specs.Formed.{is_formed}
use Rattle.ix_core.specs.Heap.{Held, Boolean, At, Heap, ObjectOf, value_at}
use Rattle.ix_core.specs.Machine.{CallKind, Static, Instance, New, Super, call_values, set_target, target_of}
use Rattle.ix_core.specs.Numbers.{Numbers, HasInts, numbers_of}
use Rattle.ix_core.specs.Posts.{answer_of}
use Rattle.ix_core.specs.Objects.{AllOn, KeepsInts, HasField, MeetsField}
use Rattle.ix_core.specs.Tables.{method_at}
use Rattle.ix_core.specs.Types.{Types, is_void}
use Rattle.ix_core.specs.Waits.{FitsKind, FitsCall, Since, AreFresh, is_super}
use Rattle.ix_core.specs.World.{World, tables_in}
use Rattle.ix_core.proofs.Cases.{equal}
use Rattle.ix_core.proofs.Kept.{has_ints}
use Rattle.ix_core.proofs.LawsAreSafe.{types_in}
use Rattle.ix_facts.specs.Exact.{if_so}
use Rattle.ix_facts.specs.Facts.{AllHold}
use Rattle.ix_facts.specs.Stores.{Stored, Meets}
use Rattle.ix_signatures.specs.Signs.{CallGives, answer_facts, told_by}
use Rattle.ix_soundness.specs.Direct.{direct}
use Rattle.ix_soundness.specs.Known.{Known, Anything, Here, Behind, CallsWell, call_op, LastHolds, BehindGives, stage_behind, call_of, MeetsHere, HoldsFor}
use Rattle.ix_soundness.specs.Making.{Stage, Plain, Making, with_types, StageHolds}
use Rattle.ix_soundness.specs.Stands.{StandsFor}
use Rattle.ix_soundness.proofs.ArgumentsMet.{params_met}
use Rattle.ix_soundness.proofs.CallReturns.{call_meets, call_tells, call_keeps}
use Rattle.ix_soundness.proofs.OperationsMeet.{KeepsThis, stage_kept}
use Rattle.ix_soundness.proofs.Overridden.{NoTexts, overrides_stands, constructor_itself}
use Rattle.ix_soundness.proofs.Promises.{if_so_hold}
use Rattle.ix_soundness.proofs.SuperReturns.{super_meets}

no_answer : {A : Type 0} (answer : Bool) → ◌≡◌ {A = Option Bool} None (Some answer) → A
no_answer answer e = absurd cc

-- a call writes no answer out
none_written : {A : Type 0} (kind : CallKind) (call : CallOp) (slot : ℕ) (answer : Bool) → answer_of (call_op kind call) slot ≡ Some answer → A
none_written Static call slot answer e = no_answer answer e
none_written Instance call slot answer e = no_answer answer e
none_written (New class) call slot answer e = no_answer answer e
none_written Super call slot answer e = no_answer answer e

-- a method with a result
some_result : (t : Bool) → not t ≡ true → t ≡ false
some_result true e = absurd (false≢true e)
some_result false e = refl

module _ (program : Program) (locals : List (List Type_)) (formed : is_formed program locals ≡ true) (profile : Profile) (texts : NoTexts program locals formed) (caller callee : Method) (kind : CallKind) (call : CallOp) (slots : List Held) (began heap : Heap)
    (value : Option Held) (fits : FitsCall (direct program) caller callee kind call) (size : length slots ≡ caller.slots) (on : AllOn slots began) (kept : KeepsInts slots began) (since : Since (direct program) caller callee kind slots began heap)
    (kept_after : KeepsInts slots heap) (int : IsIntIf value) (given : FillsTarget value (target_of (tables_in (direct program)) kind call)) (results : Results (direct program) callee (call_values kind call (length began) slots) heap value)
    (built : is_super kind ≡ true → (object : ℕ) × (value_at slots 0 ≡ At object) × AreFresh (direct program) began object caller.class × ((field : ℕ) → HasField (direct program) (ObjectOf callee.class) field → MeetsField (direct program) heap object field)) where
  abbrev world : World
  world = direct program

  abbrev later : List Held
  later = set_target (target_of (tables_in world) kind call) value slots

  module _ (stage : Stage) (last : Option Op) (s : Stored) (here : MeetsHere program profile (types_in program locals formed) stage last s slots began) (well : CallsWell program caller callee kind call stage s) (t : Stored) (types : Types) (done : Op)
      (is_done : done.kind ≡ call_op kind (call_of call well.named)) where
    before : HasInts world.place slots began
    before = has_ints world.place slots began kept

    meets_before : Meets s (numbers_of world.place slots began before)
    meets_before = (here before).0

    stands : StandsFor world (method_at program well.named) callee
    stands = subst (StandsFor world (method_at program well.named)) (sym well.callee_is) (overrides_stands program locals formed texts call.method well.named well.overrides)

    -- what was done last is the call, whose answer tells what is true
    done_last : (slots_ : List Held) (v : Numbers) → ((slot : ℕ) (answer : Bool) → value_at slots_ slot ≡ Boolean answer → AllHold (told_by program (call_op kind (call_of call well.named)) slot answer) v) → LastHolds program (Some done) slots_ v
    done_last slots_ v told = record {
      written = λ slot answer e. none_written kind (call_of call well.named) slot answer (sym (ap (λ k. answer_of k slot) is_done) ∙ e);
      told = λ slot answer is. subst (λ k. AllHold (told_by program k slot answer) v) (sym is_done) (told slot answer is);
    }

    -- a call of a method, or of the constructor of a new object
    plain_holds : is_super kind ≡ false → CallGives program caller (call_of call well.named) s t → MeetsHere program profile (types_in program locals formed) (with_types stage types) (Some done) t later heap
    plain_holds plain gives behind =
        let met = params_met program locals formed slots began on before s meets_before kind call well.named well.known well.kinds well.args well.met in (
          call_meets program locals formed caller callee kind call slots began heap value plain fits size on kept since kept_after int given results well.named well.known stands well.kinds well.args well.apart well.receiver met
              (ap (λ (m : Method). m.result) well.callee_is) before behind s t gives meets_before,
          stage_on stage refl (here before).1,
          done_last later (numbers_of world.place later heap behind) (tells kind refl),
        )
      where
        -- the slot that has the answer of a method with a result
        answers : (kind ≡ Static) ⊎ (kind ≡ Instance) → (slot : ℕ) (answer : Bool) → value_at later slot ≡ Boolean answer
            → AllHold (if_so (call.target == slot && not (is_void (method_at program well.named).result)) (answer_facts program (call_of call well.named) answer)) (numbers_of world.place later heap behind)
        answers which slot answer is =
            let met = params_met program locals formed slots began on before s meets_before kind call well.named well.known well.kinds well.args well.met in
            if_so_hold (numbers_of world.place later heap behind) (call.target == slot && not (is_void (method_at program well.named).result)) (answer_facts program (call_of call well.named) answer)
            (λ e.
            let both = and_parts (call.target == slot) (not (is_void (method_at program well.named).result)) e in
            call_tells program locals formed caller callee kind call slots began heap value plain fits size on kept since kept_after int given results well.named well.known stands well.kinds well.args well.apart well.receiver met (ap (λ (m : Method). m.result) well.callee_is) before behind which (some_result (is_void (method_at program well.named).result) both.1) answer (ap (value_at later) (equal call.target slot both.0) ∙ is))

        -- by the kind of the call
        tells : (k : CallKind) → kind ≡ k → (slot : ℕ) (answer : Bool) → value_at later slot ≡ Boolean answer → AllHold (told_by program (call_op k (call_of call well.named)) slot answer) (numbers_of world.place later heap behind)
        tells Static e slot answer is = answers (inl e) slot answer is
        tells Instance e slot answer is = answers (inr e) slot answer is
        tells (New class) e slot answer is = tt
        tells Super e slot answer is = tt

        stage_on : (at : Stage) → stage ≡ at → StageHolds world stage (numbers_of world.place slots began before) → StageHolds world (with_types stage types) (numbers_of world.place later heap behind)
        stage_on Plain e holds = subst (λ x. StageHolds world (with_types x types) (numbers_of world.place later heap behind)) (sym e) tt
        stage_on (Making class false old) e holds = subst (λ x. StageHolds world (with_types x types) (numbers_of world.place later heap behind)) (sym e) tt
        stage_on (Making class true old) e holds =
            let made = (well.makes class true old e).0 in
            let met = params_met program locals formed slots began on before s meets_before kind call well.named well.known well.kinds well.args well.met in
            let same : KeepsThis (numbers_of world.place slots began before) (numbers_of world.place later heap behind)
            = call_keeps program locals formed caller callee kind call slots began heap value plain fits size on kept since kept_after int given results well.named well.known stands well.kinds well.args well.apart well.receiver met
            (ap (λ (m : Method). m.result) well.callee_is) before behind made (well.target made) in
            subst (λ x. StageHolds world (with_types x types) (numbers_of world.place later heap behind)) (sym e)
            (stage_kept world (Making class true old) types (numbers_of world.place slots began before) (numbers_of world.place later heap behind) same (subst (λ x. StageHolds world x (numbers_of world.place slots began before)) e holds))

    -- a call of the parent's constructor, which gives no value
    super_holds : kind ≡ Super → BehindGives program caller Super (call_of call well.named) s t → MeetsHere program profile (types_in program locals formed) (stage_behind Super stage types) (Some done) t slots heap
    super_holds is gives behind =
        let kinds : FitsKind world Super caller callee call = subst (λ k. FitsKind world k caller callee call) is fits.kinds in
        let this = built (ap is_super is) in
        let same : callee ≡ method_at program well.named
        = well.callee_is ∙ ap (method_at program) (sym (constructor_itself program locals formed call.method well.named well.overrides (sym (ap (λ (m : Method). m.constructor) well.callee_is) ∙ kinds.1))) in (
          super_meets program locals formed caller well.named call slots began heap kinds.0 (kinds.3 ∙ ap (λ (m : Method). Some m.class) same) on
              (subst (λ m. Since world caller m Super slots began heap) same (subst (λ k. Since world caller callee k slots began heap) is since)) this.0 this.1 this.2
              (λ field has. this.3 field (subst (λ (m : Method). HasField world (ObjectOf m.class) field) (sym same) has)) before behind s t gives meets_before,
          made_stage stage,
          done_last slots (numbers_of world.place slots heap behind) (λ slot answer at. subst (λ k. AllHold (told_by program (call_op k (call_of call well.named)) slot answer) (numbers_of world.place slots heap behind)) (sym is) tt),
        )
      where
        made_stage : (at : Stage) → StageHolds world (stage_behind Super at types) (numbers_of world.place slots heap behind)
        made_stage Plain = tt
        made_stage (Making class new old) = tt

    by_kind : (k : CallKind) → kind ≡ k → BehindGives program caller k (call_of call well.named) s t → MeetsHere program profile (types_in program locals formed) (stage_behind k stage types) (Some done) t (set_target (target_of (tables_in world) k call) value slots) heap
    by_kind Static e gives = subst (λ k. MeetsHere program profile (types_in program locals formed) (with_types stage types) (Some done) t (set_target (target_of (tables_in world) k call) value slots) heap) e (plain_holds (ap is_super e) gives)
    by_kind Instance e gives = subst (λ k. MeetsHere program profile (types_in program locals formed) (with_types stage types) (Some done) t (set_target (target_of (tables_in world) k call) value slots) heap) e (plain_holds (ap is_super e) gives)
    by_kind (New class) e gives = subst (λ k. MeetsHere program profile (types_in program locals formed) (with_types stage types) (Some done) t (set_target (target_of (tables_in world) k call) value slots) heap) e (plain_holds (ap is_super e) gives)
    by_kind Super e gives = super_holds e gives

  pub behind_holds : (known : Known) → HoldsFor program profile (types_in program locals formed) known slots began → HoldsFor program profile (types_in program locals formed) (Behind caller callee kind call known) later heap
  behind_holds Anything holds = tt
  behind_holds (Behind other named kind_ call_ known) holds = tt
  behind_holds (Here stage last s) holds = λ well t gives types done is. by_kind stage last s holds well t types done is kind refl gives
