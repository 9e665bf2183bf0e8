-- A frame's move from tasks without errors shows what the laws ask of it.
use Rattle.std.specs.Prelude.{◌≡◌, ℕ, ◌<◌, nat_lt, Bool, true, false, if◌then◌else◌, List, [], length, Option, None, Some, refl}
use Rattle.std.proofs.Common.{sym, ap, ◌∙◌, subst, inl, inr}
use Rattle.std.proofs.lemmas.Bool.{and_parts}
use Rattle.ix_text.specs.declared.span.Span.{Span}
use Rattle.ix_core.specs.declared.claim.Type_.{Type_}
use Rattle.ix_core.specs.declared.fact.Profile.{Profile}
use Rattle.ix_core.specs.declared.op.Op.{Op}
use Rattle.ix_core.specs.declared.op.OpKind.{OpKind}
use Rattle.ix_core.specs.declared.op.OpKind.TheVariants as op
use Rattle.ix_core.specs.declared.op.Test.{Test}
use Rattle.ix_core.specs.declared.program.Method.{Method}
use Rattle.ix_core.specs.declared.program.Program.{Program}
use Rattle.ix_core.specs.Analysis.{IsWorld, Shows}
use Rattle.ix_core.specs.Code.{Code, End, Do, If, Break, Continue, Return, Throw, Loop}
use Rattle.ix_core.specs.Formed.{is_formed, code_ways, return_fits, is_super_call}
use Rattle.ix_core.specs.Heap.{Held, Num, Boolean, Null, At, Heap, value_at}
use Rattle.ix_core.specs.Machine.{Limits, Move, Go, effect_then, operate, step_code, step_tasks, test_of, is_true, frame}
use Rattle.ix_core.specs.Numbers.{Numbers, HasInts, numbers_of}
use Rattle.ix_core.specs.Objects.{HeapKeeps, FrameKeeps, KeepsInts}
use Rattle.ix_core.specs.Tables.{method_at}
use Rattle.ix_core.specs.Tasks.{Tasks, Empty, Run, Ask, Decide, DecideTruth, Head, Again, Out, code_then, followed_by, behind_loop, next_turn}
use Rattle.ix_core.specs.TypedStates.{NowTyped, Fit, Lead, Giving}
use Rattle.ix_core.specs.TypedStates as fit
use Rattle.ix_core.specs.Typed.{IsOfType, SlotsTyped}
use Rattle.ix_core.specs.Types.{Types, bool_type}
use Rattle.ix_core.specs.Waits.{Knowledge}
use Rattle.ix_core.specs.World.{World, tables_in}
use Rattle.ix_core.proofs.FormedParts.{locals_of, ways_end}
use Rattle.ix_core.proofs.Kept.{has_ints}
use Rattle.ix_core.proofs.LawsAreSafe.{types_in}
use Rattle.ix_core.proofs.TypedStarts.{OperationFits, next_fits}
use Rattle.ix_core.proofs.TypedValues.{read_typed}
use Rattle.ix_facts.specs.Facts.{AllHold}
use Rattle.ix_facts.specs.Round.{rounded}
use Rattle.ix_facts.specs.Stores.{Stored, Meets, operated, outcomes_of, OutcomesGive}
use Rattle.ix_facts.proofs.AfterLaws.{after_hold}
use Rattle.ix_facts.proofs.FactLists.{stronger_hold}
use Rattle.ix_facts.proofs.RoundLaws.{rounded_weaker}
use Rattle.ix_facts.proofs.StepLaws.{gives_meets, outcomes_meet}
use Rattle.ix_facts.proofs.StoreLaws.{below_meets}
use Rattle.ix_core.specs.Posts.{last_done, written_answer}
use Rattle.ix_flow.specs.Flow.{Rules, Doing, Flows}
use Rattle.ix_rules_hold.proofs.MachineSteps.{printed_stays}
use Rattle.ix_rules_hold.proofs.MachineTests.{told_true, told_false}
use Rattle.ix_signatures.proofs.SignTruth.{signs_hold}
use Rattle.ix_sign.specs.MethodRules.{method_rules, KindGives}
use Rattle.ix_signatures.specs.Signs.{Adds, told_by, told_facts}
use Rattle.ix_soundness.specs.Chain.{Passes, Same, Weaker, Rounding, Flowing, Finishing, Running, Asking, Comparing, Telling, Turning, Returning, Leaving, Passing, Forgetting, Each}
use Rattle.ix_soundness.specs.Clean.{IsClean}
use Rattle.ix_soundness.specs.Direct.{direct}
use Rattle.ix_soundness.specs.Errors.{NoErrors}
use Rattle.ix_soundness.specs.Known.{Here, LastHolds, MeetsHere, knowledge}
use Rattle.ix_soundness.specs.Making.{Stage, with_types, StageFits, StageStays}
use Rattle.ix_core.specs.Ready.{LocalsApart}
use Rattle.ix_soundness.proofs.CallMoves.{static_shown, instance_shown, new_shown, super_shown}
use Rattle.ix_soundness.proofs.ChainMoves.{code_flowing, if_flowing, condition_flowing, head_flowing, again_flowing, loop_flowing}
use Rattle.ix_soundness.proofs.LastDone.{nothing_done, written_by}
use Rattle.ix_soundness.proofs.LeaveMoves.{ends_shown, returns_shown}
use Rattle.ix_soundness.proofs.OperationMoves.{idle, operation_shown}
use Rattle.ix_soundness.proofs.OperationsMeet.{stage_kept}
use Rattle.ix_soundness.proofs.StageMoves.{stage_stays, operation_stays}
use Rattle.ix_soundness.proofs.OperationsKeep.{IsNoCall}

module _ (program : Program) (locals : List (List Type_)) (formed : is_formed program locals ≡ true) (tables : IsWorld (direct program)) (apart : LocalsApart program) (profile : Profile) (entries : (number : ℕ) → nat_lt number (length program.methods) ≡ true → Stored)
    (limits : Limits) (building : ℕ → Type 0) (number : ℕ) (lt : number < length program.methods) (slots : List Held) (heap : Heap) (keeps : HeapKeeps (direct program) building heap)
    (frame_keeps : FrameKeeps building (method_at program number) slots heap) (kept_ints : KeepsInts slots heap) (labels : ℕ → Stored) where
  abbrev world : World
  world = direct program

  abbrev method : Method
  method = method_at program number

  abbrev know : Knowledge
  know = knowledge program profile (types_in program locals formed) entries

  abbrev rules : Rules
  rules = method_rules program method profile

  abbrev Okay : Op → Type 0
  Okay done = IsClean program method done.kind

  abbrev Chain : Option Op → Tasks → Stored → Type 0
  Chain last tasks s = Flowing rules (NoErrors program method number) labels Okay last tasks s

  abbrev Met : Stage → Option Op → Stored → Type 0
  Met stage last s = MeetsHere program profile (types_in program locals formed) stage last s slots heap

  abbrev Show : Move → Type 0
  Show move = Shows profile world know building number slots heap move

  abbrev Fits : Tasks → Stage → Type 0
  Fits tasks stage = StageFits program (types_in program locals formed) number tasks stage

  before : HasInts world.place slots heap
  before = has_ints world.place slots heap kept_ints

  -- ---- moves that change nothing but the tasks

  goes : {last : Option Op} (stage : Stage) (s : Stored) (tasks : Tasks) → Met stage last s → StageStays program (types_in program locals formed) number stage (Go tasks slots heap) → Chain last tasks s → Show (Go tasks slots heap)
  goes {last} stage s tasks here stays flowing = (
    idle program locals formed tables apart profile entries limits building number lt slots heap keeps frame_keeps kept_ints,
    kept_ints,
    record {
      store = Here (with_types stage stays.0) last s;
      holds = λ ints. ((here ints).0, stage_kept world stage stays.0 (numbers_of world.place slots heap ints) (numbers_of world.place slots heap ints) (λ field. (refl, refl)) (here ints).1, (here ints).2);
      fine = λ there. record { labels = labels; flowing = flowing; stage_fits = stays.1 };
    },
  )

  -- another store that is met
  met_by : (last : Option Op) (stage : Stage) (s t : Stored) → ((v : Numbers) → Meets s v → Meets t v) → Met stage last s → Met stage last t
  met_by last stage s t each here ints = (each (numbers_of world.place slots heap ints) (here ints).0, (here ints).1, (here ints).2)

  -- where nothing is known to have been done last
  forget_met : (last : Option Op) (stage : Stage) (s : Stored) → Met stage last s → Met stage None s
  forget_met last stage s here ints = ((here ints).0, (here ints).1, nothing_done program slots (numbers_of world.place slots heap ints))

  passes_met : (last : Option Op) (stage : Stage) (s t : Stored) → Passes rules (NoErrors program method number) labels Okay s t → Met stage last s → Met stage last t
  passes_met last stage s _ (Same _) here = here
  passes_met last stage s t (Weaker _ _ below) here = met_by last stage s t (λ v. below_meets s t v below) here
  passes_met last stage s t (Rounding scope _ joined _ below given) here =
      met_by last stage s t
      (λ v meets. gives_meets (rounded given.0 scope) v v (λ facts h. stronger_hold v facts (rounded given.0 scope facts) (rounded_weaker given.0 scope facts) h) joined t given.2
      (below_meets s joined v below meets)) here

  -- ---- operations

  module _ (done : Op) (rest : Code) (below : Tasks) (stage : Stage) (last : Option Op) (s t : Stored) (typed : NowTyped program (types_in program locals formed) number (Run (Do done rest) below) slots heap) (stage_fits : Fits (Run (Do done rest) below) stage) (here : Met stage last s)
      (none : NoErrors program method number (Doing done) s) (clean : IsClean program method done.kind) (gives : KindGives program method profile done.kind done.span.from s t) (flowing : Chain (Some done) (code_then rest below) t) where
    fits : OperationFits program locals formed (record { now = frame number (Run (Do done rest) below) slots; below = []; heap = heap; wrapped = false; ended = None }) done
    fits = next_fits program locals formed (record { now = frame number (Run (Do done rest) below) slots; below = []; heap = heap; wrapped = false; ended = None }) done rest below (record { heap = typed.heap_typed; now = typed.frame_typed; below = tt }) refl

    abbrev Shown : OpKind → Type 0
    Shown kind = Show (effect_then (operate limits (tables_in world) done.span.from slots heap kind) done.span.from (code_then rest below))

    plain_shown : (kind : OpKind) → done.kind ≡ kind → IsNoCall kind → Shown done.kind
    plain_shown kind is plain =
        operation_shown program locals formed tables apart profile entries limits building number lt slots heap keeps frame_keeps kept_ints done rest below (subst IsNoCall (sym is) plain) fits stage stage_fits last s t here none clean gives labels flowing

    -- a value that is printed is no answer
    printed_last : (v : Numbers) (value : ℕ) → done.kind ≡ op.Print value → LastHolds program (Some done) slots v
    printed_last v value is = record {
      written = λ slot answer e. not_print (sym is ∙ written_by done.kind slot answer e);
      told = λ slot answer at. subst (λ k. AllHold (told_by program k slot answer) v) (sym is) tt;
    }
      where
        not_print : {A : Type 0} {x : ℕ} {l : _} → op.Print value ≡ op.Const x l → A
        not_print e = absurd cc

    print_shown : (value : ℕ) → done.kind ≡ op.Print value → Shown (op.Print value)
    print_shown value is =
        let after = operation_stays program locals formed number lt done rest below stage (ap is_super_call is) stage_fits in
        let told = subst (λ k. KindGives program method profile k done.span.from s t) is gives in record {
          store = Here (with_types stage after.0) (Some done) t;
          holds = λ ints. (
            gives_meets (operated profile (op.Print value)) (numbers_of world.place slots heap ints) (numbers_of world.place slots heap ints)
                (λ facts. after_hold profile (op.Print value) facts (numbers_of world.place slots heap ints) (numbers_of world.place slots heap ints) tt (printed_stays profile value (numbers_of world.place slots heap ints))) s t told (here ints).0,
            stage_kept world stage after.0 (numbers_of world.place slots heap ints) (numbers_of world.place slots heap ints) (λ field. (refl, refl)) (here ints).1,
            printed_last (numbers_of world.place slots heap ints) value is,
          );
          fine = λ there. record { labels = labels; flowing = flowing; stage_fits = after.1 };
        }

    do_shown : (kind : OpKind) → done.kind ≡ kind → Shown done.kind
    do_shown (op.Const x value) is = plain_shown (op.Const x value) is tt
    do_shown (op.Copy x y ty) is = plain_shown (op.Copy x y ty) is tt
    do_shown (op.Num x arith y z) is = plain_shown (op.Num x arith y z) is tt
    do_shown (op.Unary x unary y) is = plain_shown (op.Unary x unary y) is tt
    do_shown (op.Length x a) is = plain_shown (op.Length x a) is tt
    do_shown (op.NewArray x ty n) is = plain_shown (op.NewArray x ty n) is tt
    do_shown (op.Fill x ty fills) is = plain_shown (op.Fill x ty fills) is tt
    do_shown (op.Load x a i ty) is = plain_shown (op.Load x a i ty) is tt
    do_shown (op.Store a i x ty) is = plain_shown (op.Store a i x ty) is tt
    do_shown (op.ReadField x o f) is = plain_shown (op.ReadField x o f) is tt
    do_shown (op.WriteField o f x) is = plain_shown (op.WriteField o f x) is tt
    do_shown (op.Print value) is = subst Shown (sym is) (print_shown value is)
    do_shown (op.NewObject call) is = subst Shown (sym is) (new_shown program locals formed profile entries building number lt slots heap keeps frame_keeps kept_ints done rest below fits stage stage_fits last s t here none clean gives labels flowing call is)
    do_shown (op.StaticCall call) is = subst Shown (sym is) (static_shown program locals formed profile entries building number lt slots heap keeps frame_keeps kept_ints done rest below fits stage stage_fits last s t here none clean gives labels flowing call is)
    do_shown (op.InstanceCall call) is = subst Shown (sym is) (instance_shown program locals formed profile entries building number lt slots heap keeps frame_keeps kept_ints done rest below fits stage stage_fits last s t here none clean gives labels flowing call is)
    do_shown (op.SuperCall call) is = subst Shown (sym is) (super_shown program locals formed profile entries building number lt slots heap keeps frame_keeps kept_ints done rest below fits stage stage_fits last s t here none clean gives labels flowing call is)

  -- ---- a value that is returned is of the result's type

  return_typed : (value : Option ℕ) (span : Span) (rest : Code) (below : Tasks) (types : Types) → Lead program method (locals_of program locals formed number) (Run (Return value span rest) below) types → (needed : Types) × (return_fits program method (Some needed) value ≡ true)
  return_typed value span rest below types (Giving _ _ needed gives (fit.Running in_loop _ _ _ fits ends breaks turns)) =
      (needed, (and_parts (return_fits program method (Some needed) value) (code_ways program method (locals_of program locals formed number) in_loop rest None).fits fits).0)

  -- ---- statements

  code_shown : (last : Option Op) (code : Code) (tasks : Tasks) (s end breaks continues : Stored) → Flows rules (NoErrors program method number) labels last code s end breaks continues → Each Okay code
      → Chain (last_done last code) tasks end → Chain None (behind_loop tasks) breaks → Chain None (next_turn tasks) continues → (stage : Stage) → Fits (Run code tasks) stage → Met stage last s → NowTyped program (types_in program locals formed) number (Run code tasks) slots heap
      → Show (step_code limits (tables_in world) slots heap code tasks)
  code_shown last End tasks s end breaks continues flows okay ends jumps turns stage stage_fits here typed =
      goes stage end tasks (met_by last stage s end (λ v. below_meets s end v flows) here) (stage_stays program locals formed number lt stage (Run End tasks) limits (tables_in world) slots heap tt stage_fits) ends
  code_shown last (Do done rest) tasks s end breaks continues (fine, t, gives, flows) okay ends jumps turns stage stage_fits here typed =
      do_shown done rest tasks stage last s t typed stage_fits here fine okay.0 gives (code_flowing rules (NoErrors program method number) labels Okay (Some done) rest tasks t end breaks continues flows okay.1 (record { ends = ends; jumps = jumps; turns = turns })) done.kind refl
  code_shown last (If asked first second rest) tasks s end breaks continues flows okay ends jumps turns stage stage_fits here typed =
      goes stage s (Ask asked (code_then first Empty) (code_then second Empty) (code_then rest tasks)) here (stage_stays program locals formed number lt stage (Run (If asked first second rest) tasks) limits (tables_in world) slots heap tt stage_fits)
      (if_flowing rules (NoErrors program method number) labels Okay last asked first second rest tasks s end breaks continues flows okay (record { ends = ends; jumps = jumps; turns = turns }))
  code_shown last (Break rest) tasks s end breaks continues (jump, flows) okay ends jumps turns stage stage_fits here typed =
      goes stage breaks (behind_loop tasks) (forget_met last stage breaks (met_by last stage s breaks (λ v. below_meets s breaks v jump) here)) (stage_stays program locals formed number lt stage (Run (Break rest) tasks) limits (tables_in world) slots heap tt stage_fits) jumps
  code_shown last (Continue rest) tasks s end breaks continues (jump, flows) okay ends jumps turns stage stage_fits here typed =
      goes stage continues (next_turn tasks) (forget_met last stage continues (met_by last stage s continues (λ v. below_meets s continues v jump) here)) (stage_stays program locals formed number lt stage (Run (Continue rest) tasks) limits (tables_in world) slots heap tt stage_fits) turns
  code_shown last (Return value span rest) tasks s end breaks continues (fine, flows) okay ends jumps turns stage stage_fits here typed =
      let fits = return_typed value span rest tasks typed.frame_typed.types typed.frame_typed.fits in
      returns_shown program locals formed profile know number lt slots heap building frame_keeps before s (here before).0 fits.0 value (written_answer last value) span fits.1 (λ slot is answer e. (here before).2.written slot answer (ap (written_answer last) (sym is) ∙ e))
      (λ error rank x. fine error rank (inl x)) (λ error rank x. fine error rank (inr (inl x))) (λ error rank x. fine error rank (inr (inr x)))
  code_shown last (Throw thrown span rest) tasks s end breaks continues flows okay ends jumps turns stage stage_fits here typed = λ bad. bad
  code_shown last (Loop true asked body next label scope rest) tasks s end breaks continues flows okay ends jumps turns stage stage_fits here typed =
      goes stage s (Head asked body next (Out (code_then rest tasks))) (forget_met last stage s here) (stage_stays program locals formed number lt stage (Run (Loop true asked body next label scope rest) tasks) limits (tables_in world) slots heap tt stage_fits)
      (loop_flowing rules (NoErrors program method number) labels Okay last true asked body next label scope rest tasks s end breaks continues flows okay (record { ends = ends; jumps = jumps; turns = turns }))
  code_shown last (Loop false asked body next label scope rest) tasks s end breaks continues flows okay ends jumps turns stage stage_fits here typed =
      goes stage s (code_then body (Again asked body next (Out (code_then rest tasks)))) (forget_met last stage s here) (stage_stays program locals formed number lt stage (Run (Loop false asked body next label scope rest) tasks) limits (tables_in world) slots heap tt stage_fits)
      (loop_flowing rules (NoErrors program method number) labels Okay last false asked body next label scope rest tasks s end breaks continues flows okay (record { ends = ends; jumps = jumps; turns = turns }))

  -- ---- tests

  decided : (answer : Bool) (first second tasks : Tasks) (stage : Stage) (holds fails : Stored) → (answer ≡ true → Met stage None holds) → (answer ≡ false → Met stage None fails) → Chain None (followed_by first tasks) holds → Chain None (followed_by second tasks) fails
      → StageStays program (types_in program locals formed) number stage (Go (followed_by (if answer then first else second) tasks) slots heap) → Show (Go (followed_by (if answer then first else second) tasks) slots heap)
  decided true first second tasks stage holds fails one two yes_chain no_chain stays = goes stage holds (followed_by first tasks) (one refl) stays yes_chain
  decided false first second tasks stage holds fails one two yes_chain no_chain stays = goes stage fails (followed_by second tasks) (two refl) stays no_chain

  tested : (answer : Bool) (test : Test) (last : Option Op) (stage : Stage) (s t : Stored) → OutcomesGive (outcomes_of answer test) s t → test_of test.ty test.rel (value_at slots test.left) (value_at slots test.right) ≡ answer → Met stage last s → Met stage None t
  tested true test last stage s t gives is here = λ ints. (
    outcomes_meet (outcomes_of true test) s t (numbers_of world.place slots heap ints) gives (told_true world.place slots heap ints test.left test.right test.ty test.rel is) (here ints).0,
    (here ints).1,
    nothing_done program slots (numbers_of world.place slots heap ints),
  )
  tested false test last stage s t gives is here = λ ints. (
    outcomes_meet (outcomes_of false test) s t (numbers_of world.place slots heap ints) gives (told_false world.place slots heap ints test.left test.right test.ty test.rel is) (here ints).0,
    (here ints).1,
    nothing_done program slots (numbers_of world.place slots heap ints),
  )

  -- a boolean slot holds its answer
  is_boolean : (held : Held) (answer : Bool) → IsOfType program heap bool_type held → is_true held ≡ answer → held ≡ Boolean answer
  is_boolean (Num n) answer typed e = absurd typed
  is_boolean (Boolean said) answer typed e = ap Boolean e
  is_boolean Null answer typed e = absurd typed
  is_boolean (At object) answer typed e = absurd typed

  truth_typed : (slot : ℕ) (first second tasks : Tasks) (types : Types) → SlotsTyped program types slots heap → length slots ≡ method.slots → Lead program method (locals_of program locals formed number) (DecideTruth slot first second tasks) types → IsOfType program heap bool_type (value_at slots slot)
  truth_typed slot first second tasks types typed size (Giving _ _ needed gives (fit.Reading _ _ _ _ _ reads _ _)) =
      (read_typed program (ways_end program locals formed) method needed slots heap size (gives slots heap typed) slot bool_type reads).1

  -- what it tells by the call that has just answered it
  told : (answer : Bool) (slot : ℕ) (last : Option Op) (stage : Stage) (s t : Stored) → Adds (told_facts program last slot answer) s t → value_at slots slot ≡ Boolean answer → Met stage last s → Met stage None t
  told answer slot last stage s t adds is here = λ ints. (
    (signs_hold program method).told last slot answer s t (numbers_of world.place slots heap ints) ((here ints).2.told slot answer is) (here ints).0 adds,
    (here ints).1,
    nothing_done program slots (numbers_of world.place slots heap ints),
  )

  -- ---- every move

  pub shown : (last : Option Op) (tasks : Tasks) (s : Stored) → Chain last tasks s → (stage : Stage) → Fits tasks stage → Met stage last s → NowTyped program (types_in program locals formed) number tasks slots heap → Show (step_tasks limits (tables_in world) slots heap tasks)
  shown last Empty s (Finishing _ _ fine) stage stage_fits here typed =
      ends_shown program locals formed profile know number lt slots heap building frame_keeps before s (here before).0 (λ error rank x. fine error rank (inl x)) (λ error rank x. fine error rank (inr (inl x))) (λ error rank x. fine error rank (inr (inr x)))
  shown last (Run code tasks) s (Running _ _ _ _ end breaks continues flows okay ends jumps turns) stage stage_fits here typed = code_shown last code tasks s end breaks continues flows okay ends jumps turns stage stage_fits here typed
  shown last (Ask asked first second tasks) s (Asking _ _ _ _ _ _ holds fails breaks continues asks okay one two jumps turns) stage stage_fits here typed =
      goes stage s _ here (stage_stays program locals formed number lt stage (Ask asked first second tasks) limits (tables_in world) slots heap tt stage_fits)
      (condition_flowing rules (NoErrors program method number) labels Okay last asked first second tasks s holds fails breaks continues asks okay one two jumps turns)
  shown last (Decide test first second tasks) s (Comparing _ _ _ _ _ _ holds fails when_true when_false one two) stage stage_fits here typed =
      decided (test_of test.ty test.rel (value_at slots test.left) (value_at slots test.right)) first second tasks stage holds fails
      (λ is. tested true test last stage s holds when_true is here) (λ is. tested false test last stage s fails when_false is here) one two
      (stage_stays program locals formed number lt stage (Decide test first second tasks) limits (tables_in world) slots heap tt stage_fits)
  shown last (DecideTruth slot first second tasks) s (Telling _ _ _ _ _ _ holds fails when_true when_false one two) stage stage_fits here typed =
      let boolean = truth_typed slot first second tasks typed.frame_typed.types typed.frame_typed.slots.typed typed.frame_typed.slots.size typed.frame_typed.fits in
      decided (is_true (value_at slots slot)) first second tasks stage holds fails
      (λ is. told true slot last stage s holds when_true (is_boolean (value_at slots slot) true boolean is) here) (λ is. told false slot last stage s fails when_false (is_boolean (value_at slots slot) false boolean is) here) one two
      (stage_stays program locals formed number lt stage (DecideTruth slot first second tasks) limits (tables_in world) slots heap tt stage_fits)
  shown last (Head asked body next tasks) s (Turning _ _ _ _ _ _ start again out continues turns rest behind turn) stage stage_fits here typed =
      goes stage s _ (forget_met last stage s here) (stage_stays program locals formed number lt stage (Head asked body next tasks) limits (tables_in world) slots heap tt stage_fits)
      (head_flowing rules (NoErrors program method number) labels Okay asked body next tasks s start again out continues turns rest behind turn)
  shown last (Again asked body next tasks) s (Returning _ _ _ _ _ head start _ out continues turns rest behind turn) stage stage_fits here typed =
      goes stage s _ (forget_met last stage s here) (stage_stays program locals formed number lt stage (Again asked body next tasks) limits (tables_in world) slots heap tt stage_fits)
      (again_flowing rules (NoErrors program method number) labels Okay asked body next tasks head start s out continues turns rest behind turn)
  shown last (Out tasks) s (Leaving _ _ _ flowing) stage stage_fits here typed = goes stage s tasks (forget_met last stage s here) (stage_stays program locals formed number lt stage (Out tasks) limits (tables_in world) slots heap tt stage_fits) flowing
  shown last tasks s (Passing _ _ _ t passes flowing) stage stage_fits here typed = shown last tasks t flowing stage stage_fits (passes_met last stage s t passes here) typed
  shown last tasks s (Forgetting _ _ _ flowing) stage stage_fits here typed = shown None tasks s flowing stage stage_fits (forget_met last stage s here) typed
