-- An operation without errors that is no call shows what the laws ask of a frame's move.
use Rattle.std.specs.Prelude.{◌≡◌, ℕ, ◌<◌, ◌==◌, nat_lt, Bool, true, false, List, [], length, Option, None, Some, refl}
use Rattle.std.proofs.Common.{sym, ap, ◌∙◌, subst, inl}
use Rattle.std.proofs.lemmas.Bool.{and_parts, false≢true}
use Rattle.ix_core.specs.declared.claim.Type_.{Type_}
use Rattle.ix_core.specs.declared.fact.Profile.{Profile}
use Rattle.ix_core.specs.declared.op.Literal.TheVariants as literal
use Rattle.ix_core.specs.declared.op.Op.{Op}
use Rattle.ix_core.specs.declared.op.OpKind.{OpKind}
use Rattle.ix_core.specs.declared.op.OpKind.TheVariants as op
use Rattle.ix_core.specs.declared.program.Method.{Method}
use Rattle.ix_core.specs.declared.program.Program.{Program}
use Rattle.ix_core.specs.Analysis.{IsWorld, Shows}
use Rattle.ix_core.specs.Code.{Code, Do}
use Rattle.ix_core.specs.Formed.{is_formed, field_fits, op_fits, is_super_call}
use Rattle.ix_core.specs.Heap.{Held, Boolean, Heap, ObjectOf, value_at}
use Rattle.ix_core.specs.Machine.{Limits, Effect, Done, Wrapped, Printed, Called, Stopped, effect_then, operate, frame}
use Rattle.ix_core.specs.Numbers.{Numbers, HasInts, numbers_of}
use Rattle.ix_core.specs.Objects.{HasField, HeapKeeps, FrameKeeps, KeepsInts, IsOwn, StepKeeps}
use Rattle.ix_core.specs.Tables.{method_at}
use Rattle.ix_core.specs.Tasks.{Tasks, Run, code_then}
use Rattle.ix_core.specs.Types.{Types}
use Rattle.ix_core.specs.Waits.{Knowledge}
use Rattle.ix_core.specs.World.{World, tables_in}
use Rattle.ix_core.proofs.Cases.{by_test, equal}
use Rattle.ix_core.proofs.FormedParts.{locals_of}
use Rattle.ix_core.proofs.Heaps.{value_set}
use Rattle.ix_core.proofs.Kept.{has_ints, done_keeps, wrapped_keeps}
use Rattle.ix_core.proofs.LawsAreSafe.{types_in}
use Rattle.ix_core.proofs.TypedStarts.{OperationFits}
use Rattle.ix_core.proofs.Waiting.{later_refl}
use Rattle.ix_facts.specs.Stores.{Stored}
use Rattle.ix_sign.specs.MethodRules.{method_rules, KindGives}
use Rattle.ix_soundness.specs.Chain.{Flowing}
use Rattle.ix_soundness.specs.Clean.{IsClean, Hides}
use Rattle.ix_soundness.specs.Direct.{direct}
use Rattle.ix_soundness.specs.Errors.{NoErrors, NoKindErrors}
use Rattle.ix_soundness.specs.Known.{Here, LastHolds, MeetsHere, FineHere, knowledge}
use Rattle.ix_soundness.specs.Making.{Stage, Plain, Making, with_types, MakingFits, StageFits, StageHolds}
use Rattle.ix_soundness.specs.Shown.{Takes}
use Rattle.ix_core.specs.Ready.{LocalsApart}
use Rattle.ix_soundness.proofs.FormedOperations.{takes, ints_only}
use Rattle.ix_soundness.proofs.LastDone.{no_call_tells, written_by}
use Rattle.ix_soundness.proofs.OperationShown.{shown_of}
use Rattle.ix_soundness.proofs.OperationSteps.{done_meets, wrapped_meets, this_kept, wrapped_this}
use Rattle.ix_soundness.proofs.OperationsKeep.{IsNoCall, MayWrap, Keeps, operation_keeps}
use Rattle.ix_soundness.proofs.OperationsMeet.{KeepsThis, stage_kept}
use Rattle.ix_soundness.proofs.StageMoves as stages
use Rattle.ix_soundness.proofs.StageMoves.{operation_stays}
use Rattle.ix_soundness.proofs.Tracked.{own_field, none_written}

-- an operation that is no call calls no parent's constructor
pub not_super : (kind : OpKind) → IsNoCall kind → is_super_call kind ≡ false
not_super (op.Const t value) plain = refl
not_super (op.Copy t s ty) plain = refl
not_super (op.Num t arith y z) plain = refl
not_super (op.Unary t unary y) plain = refl
not_super (op.Length t a) plain = refl
not_super (op.NewArray t ty n) plain = refl
not_super (op.Fill t ty entries) plain = refl
not_super (op.Load t a i ty) plain = refl
not_super (op.Store a i v ty) plain = refl
not_super (op.ReadField t o f) plain = refl
not_super (op.WriteField o f v) plain = refl
not_super (op.NewObject call) plain = absurd plain
not_super (op.StaticCall call) plain = absurd plain
not_super (op.InstanceCall call) plain = absurd plain
not_super (op.SuperCall call) plain = absurd plain
not_super (op.Print value) plain = refl

module _ (program : Program) (locals : List (List Type_)) (formed : is_formed program locals ≡ true) (tables : IsWorld (direct program)) (apart : LocalsApart program) (profile : Profile) (entries : (number : ℕ) → nat_lt number (length program.methods) ≡ true → Stored)
    (limits : Limits) (building : ℕ → Type 0) (number : ℕ) (lt : number < length program.methods) (slots : List Held) (heap : Heap) (keeps : HeapKeeps (direct program) building heap)
    (frame_keeps : FrameKeeps building (method_at program number) slots heap) (kept_ints : KeepsInts slots heap) where
  abbrev world : World
  world = direct program

  abbrev method : Method
  method = method_at program number

  abbrev know : Knowledge
  know = knowledge program profile (types_in program locals formed) entries

  abbrev before : HasInts world.place slots heap
  before = has_ints world.place slots heap kept_ints

  abbrev v : Numbers
  v = numbers_of world.place slots heap before

  -- nothing but the tasks changes
  pub idle : StepKeeps world building method slots heap slots heap
  idle = record { later = later_refl heap; heap_keeps = keeps; frame_keeps = frame_keeps; inputs = λ slot is. refl; fields = λ object field. inl refl }

  module _ (done : Op) (rest : Code) (below : Tasks) (plain : IsNoCall done.kind) (fits : OperationFits program locals formed (record { now = frame number (Run (Do done rest) below) slots; below = []; heap = heap; wrapped = false; ended = None }) done)
      (stage : Stage) (stage_fits : StageFits program (types_in program locals formed) number (Run (Do done rest) below) stage) (last : Option Op) (s t : Stored) (here : MeetsHere program profile (types_in program locals formed) stage last s slots heap)
      (none : NoKindErrors program method number done done.kind s) (clean : IsClean program method done.kind) (gives : KindGives program method profile done.kind done.span.from s t)
      (labels : ℕ → Stored) (flowing : Flowing (method_rules program method profile) (NoErrors program method number) labels (λ (d : Op). IsClean program method d.kind) (Some done) (code_then rest below) t) where
    may : Takes world method slots heap done.kind
    may = takes program locals formed number lt slots heap fits.types fits.size fits.typed done done.kind fits.fits clean

    -- a field that a constructor writes of its object is one of its class
    own : (o f x : ℕ) → done.kind ≡ op.WriteField o f x → IsOwn method o → HasField world (ObjectOf method.class) f
    own o f x is own_o = by_stage stage stage_fits
      where
        by_stage : (stage : Stage) → StageFits program (types_in program locals formed) number (Run (Do done rest) below) stage → HasField world (ObjectOf method.class) f
        by_stage Plain plain_fits = absurd (false≢true (sym plain_fits ∙ own_o.0))
        by_stage (Making class new types) making =
            let next = stages.next_fits program locals formed number lt done rest below class new types making in
            own_field program locals formed number lt making.constructor next.needed next.tracks f
            (subst (λ n. field_fits program method (Some next.needed) n f ≡ true) own_o.1
            (and_parts (field_fits program method (Some next.needed) o f) _ (subst (λ kind. op_fits program method (locals_of program locals formed number) (Some next.needed) done kind ≡ true) is next.fits)).0)

    -- before the parent's constructor has run it writes none
    none_own : (class : ℕ) (types : Types) → MakingFits program (locals_of program locals formed number) method (Run (Do done rest) below) class true types → (o f x : ℕ) → done.kind ≡ op.WriteField o f x → (o == 0) ≡ false
    none_own class types making o f x is =
        let next = stages.next_fits program locals formed number lt done rest below class true types making in
        by_test (o == 0)
        (λ e. absurd (none_written program locals formed number lt making.constructor next.needed (next.hidden refl) f
        (subst (λ n. field_fits program method (Some next.needed) n f ≡ true) (equal o 0 e)
        (and_parts (field_fits program method (Some next.needed) o f) _ (subst (λ kind. op_fits program method (locals_of program locals formed number) (Some next.needed) done kind ≡ true) is next.fits)).0)))
        (λ e. e)

    kept : Keeps world tables limits done.span.from building method slots heap keeps frame_keeps (MayWrap done.kind) (operate limits (tables_in world) done.span.from slots heap done.kind)
    kept = operation_keeps world tables limits done.span.from building method slots heap keeps frame_keeps done.kind plain may (hides done.kind plain clean)
        (shown_of program locals formed tables number lt slots heap fits.types fits.size fits.typed fits.heap_typed building keeps frame_keeps before s (here before).0 done done.kind fits.fits clean none own)
      where
        hides : (kind : OpKind) → IsNoCall kind → IsClean program method kind → Hides method kind
        hides kind plain clean = clean.hides

    after_stage : (types : Types) × StageFits program (types_in program locals formed) number (code_then rest below) (with_types stage types)
    after_stage = operation_stays program locals formed number lt done rest below stage (not_super done.kind plain) stage_fits

    fine : FineHere program profile (types_in program locals formed) number (code_then rest below) (with_types stage after_stage.0) (Some done) t
    fine = record { labels = labels; flowing = flowing; stage_fits = after_stage.1 }

    -- an answer that it writes out stands in its slot
    abbrev StandsIn : ℕ → Bool → Effect → Type 0
    StandsIn slot answer (Done later after) = value_at later slot ≡ Boolean answer
    StandsIn slot answer (Wrapped later after) = value_at later slot ≡ Boolean answer
    StandsIn slot answer _ = Unit {0}

    answer_there : (slot : ℕ) (answer : Bool) → done.kind ≡ op.Const slot (literal.Bool answer) → (effect : Effect) → operate limits (tables_in world) done.span.from slots heap done.kind ≡ effect → StandsIn slot answer effect
    answer_there slot answer is effect e =
        subst (StandsIn slot answer) (sym (ap (operate limits (tables_in world) done.span.from slots heap) is) ∙ e) (value_set slots slot (Boolean answer) (subst (Takes world method slots heap) is may).within)

    last_done : (later : List Held) (w : Numbers) → ((slot : ℕ) (answer : Bool) → done.kind ≡ op.Const slot (literal.Bool answer) → value_at later slot ≡ Boolean answer) → LastHolds program (Some done) later w
    last_done later w there = record { written = λ slot answer e. there slot answer (written_by done.kind slot answer e); told = λ slot answer is. no_call_tells program done.kind plain slot answer w }

    -- the stage holds on, where the object's fields are kept
    stage_on : (w : Numbers) → ((made : method.constructor ≡ true) → ((o f x : ℕ) → done.kind ≡ op.WriteField o f x → (o == 0) ≡ false) → KeepsThis v w) → StageHolds world (with_types stage after_stage.0) w
    stage_on w each = by_stage stage stage_fits (here before).1
      where
        by_stage : (stage : Stage) → StageFits program (types_in program locals formed) number (Run (Do done rest) below) stage → StageHolds world stage v → StageHolds world (with_types stage after_stage.0) w
        by_stage Plain stage_fits holds = tt
        by_stage (Making class true types) making holds = stage_kept world (Making class true types) after_stage.0 v w (each making.constructor (none_own class types making)) holds
        by_stage (Making class false types) making holds = tt

    effect_shown : (effect : Effect) → operate limits (tables_in world) done.span.from slots heap done.kind ≡ effect → Keeps world tables limits done.span.from building method slots heap keeps frame_keeps (MayWrap done.kind) effect
        → Shows profile world know building number slots heap (effect_then effect done.span.from (code_then rest below))
    effect_shown (Done later after) is keep = (
      keep,
      done_keeps limits (tables_in world) done.span.from slots heap kept_ints done.kind later after (ints_only program locals formed number lt slots heap fits.types fits.size fits.typed done done.kind fits.fits) is,
      record {
        store = Here (with_types stage after_stage.0) (Some done) t;
        holds = λ behind. (
          done_meets program locals formed tables apart profile number lt slots heap fits.types fits.size fits.typed fits.heap_typed building keeps frame_keeps before s (here before).0 limits done.span.from later after behind done done.kind plain fits.fits may none is t gives,
          stage_on (numbers_of world.place later after behind)
              (λ made other. this_kept program locals formed tables apart profile number lt slots heap fits.types fits.size fits.typed fits.heap_typed building keeps frame_keeps before s (here before).0 limits done.span.from later after behind made done done.kind plain fits.fits may other is),
          last_done later (numbers_of world.place later after behind) (λ slot answer const. answer_there slot answer const (Done later after) is),
        );
        fine = λ there. fine;
      },
    )
    effect_shown (Wrapped later after) is keep = λ int32. (
      keep.1,
      wrapped_keeps limits (tables_in world) done.span.from slots heap kept_ints done.kind later after (ints_only program locals formed number lt slots heap fits.types fits.size fits.typed done done.kind fits.fits) is,
      record {
        store = Here (with_types stage after_stage.0) (Some done) t;
        holds = λ behind. (
          wrapped_meets program locals formed tables apart profile number lt slots heap fits.types fits.size fits.typed fits.heap_typed building keeps frame_keeps before s (here before).0 limits done.span.from later after behind done done.kind keep.0 fits.fits may int32 is t gives,
          stage_on (numbers_of world.place later after behind)
              (λ made other. wrapped_this program locals formed tables apart profile number lt slots heap fits.types fits.size fits.typed fits.heap_typed building keeps frame_keeps before s (here before).0 limits done.span.from later after behind made done.kind keep.0 may int32 is),
          last_done later (numbers_of world.place later after behind) (λ slot answer const. answer_there slot answer const (Wrapped later after) is),
        );
        fine = λ there. fine;
      },
    )
    effect_shown (Printed value) is keep = absurd keep
    effect_shown (Called kind call) is keep = absurd keep
    effect_shown (Stopped ending) is keep = keep

    pub operation_shown : Shows profile world know building number slots heap (effect_then (operate limits (tables_in world) done.span.from slots heap done.kind) done.span.from (code_then rest below))
    operation_shown = effect_shown (operate limits (tables_in world) done.span.from slots heap done.kind) refl kept
