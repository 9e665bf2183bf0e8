-- A frame's move shows what the laws ask of it.
use Rattle.std.specs.Prelude.{◌≡◌, ℕ, ◌≤ℤ◌, ◌<ℤ◌, ℤ, pos, int_lt, Bool, true, false, if◌then◌else◌, List, [], ◌∷◌, length, slice_get, option_map, Option, Some, None, refl}
use Rattle.std.proofs.Common.{arith, sym, ap, ◌∙◌, subst, inl}
use Rattle.std.proofs.lemmas.Bool.{false≢true}
use Rattle.std.proofs.lemmas.Bool.Decides.{nat_tests}
use Rattle.std.proofs.lemmas.Int.{ints}
use Rattle.ix_num.specs.declared.rel.Rel.TheVariants as rel
use Rattle.ix_core.specs.declared.claim.Base.TheVariants as base
use Rattle.ix_core.specs.declared.claim.Type_.TheVariants as type
use Rattle.ix_core.specs.declared.fact.Path.TheVariants.{Slot, FieldOf}
use Rattle.ix_core.specs.declared.fact.Profile.{Profile}
use Rattle.ix_core.specs.declared.op.CallOp.{CallOp}
use Rattle.ix_core.specs.declared.op.Op.{Op}
use Rattle.ix_core.specs.declared.op.OpKind.{OpKind}
use Rattle.ix_core.specs.declared.op.Test.{Test}
use Rattle.ix_core.specs.declared.program.Local.{Local as Variable}
use Rattle.ix_core.specs.declared.program.Method.{Method}
use Rattle.ix_core.specs.Analysis.{IsWorld, Shows, Leaves, IsFreeIf, ResultTrue, Results}
use Rattle.ix_core.specs.Code.{Code, Do}
use Rattle.ix_core.specs.Heap.{Held, Heap, ObjectOf, Reading, no_reading, value_at, int_of, size_of, reading_of}
use Rattle.ix_core.specs.Machine.{CallKind, Limits, Effect, Done, Stopped, Wrapped, Printed, Called, Go, effect_then, operate, step_tasks, result_of, test_of, int_test, call_values, call_heap}
use Rattle.ix_core.specs.Posts.{PostsHold}
use Rattle.ix_core.specs.Objects.{KeepsInts, IntsOnly, HasField, field_readings, HeapKeeps, FrameKeeps, StepKeeps}
use Rattle.ix_core.specs.Tables.{routine_of, default_result}
use Rattle.ix_core.specs.Tasks.{Tasks, Run, code_then, followed_by}
use Rattle.ix_core.specs.Waits.{Knowledge, MeetParams, param_readings}
use Rattle.ix_core.specs.World.{World, tables_in}
use Rattle.ix_core.proofs.Kept.{done_keeps}
use Rattle.ix_core.proofs.Waiting.{later_refl}
use Rattle.ix_core_example.specs.Facts.{IsFresh, Fact, Below, IsLength, Holds, held_through, IsTrue, AllTrue, IsIn, AreLow, Proves}
use Rattle.ix_core_example.specs.Rules.{IsGiven, facts_from, Follows, of_fresh, of_path, of_slot, Step, constant, copy, load, read, store, write, Fine, ends, returns, does, prints, enters, chooses, asks, decides, knows}
use Rattle.ix_core_example.specs.Rules as rules
use Rattle.ix_core_example.proofs.Truths.{in_true, proves_true}
use Rattle.ix_core_example.proofs.StepsKeep.{IsGood, operation_good}
use Rattle.ix_core_example.proofs.TypedArrays.{HoldsArray}

-- the numbers in an operation of the rules are ints
ints_only : (world : World) (method : Method) (facts after : List Fact) (kind : OpKind) → Step world method kind facts after → IntsOnly kind
ints_only world method facts after kind (rules.new_array _ target size ty may plain low) = tt
ints_only world method facts after kind (store _ array index value ty hidden low high proves) = tt
ints_only world method facts after kind (constant _ target n int may) = int
ints_only world method facts after kind (copy _ target source ty may other) = tt
ints_only world method facts after kind (rules.length _ target array may apart) = tt
ints_only world method facts after kind (load _ target array index ty may low high) = tt
ints_only world method facts after kind (read _ target object field may apart other) = tt
ints_only world method facts after kind (write _ object field value may hidden proves) = tt

lt_is : (a b : ℤ) → int_lt a b ≡ true → a <ℤ b
lt_is a b e = grind (arith, ints, nat_tests)

module _ (profile : Profile) (world : World) (fields : ℕ → List ℕ) (entry : ℕ → List Fact) (tables : IsWorld world) (lows : (field : ℕ) → AreLow (world.field_claims field)) (limits : Limits) (building : ℕ → Type 0) (number : ℕ) (slots : List Held)
    (heap : Heap) (keeps : HeapKeeps world building heap) (frame : FrameKeeps building (world.methods number) slots heap) (kept_ints : KeepsInts slots heap) (silent : (world.methods number).posts ≡ []) where
  abbrev method : Method
  method = world.methods number

  abbrev know : Knowledge
  know = facts_from world fields entry

  -- nothing changes but the tasks
  idle : StepKeeps world building method slots heap slots heap
  idle = record { later = later_refl heap; heap_keeps = keeps; frame_keeps = frame; inputs = λ slot is. refl; fields = λ object field. inl refl }

  goes : (tasks : Tasks) (facts : List Fact) → AllTrue world facts slots heap → Fine world fields number tasks facts → Shows profile world know building number slots heap (Go tasks slots heap)
  goes tasks facts all fine = (idle, kept_ints, record { store = facts; holds = all; fine = fine })

  effect_shown : (kind : OpKind) (place : ℕ) (tasks : Tasks) (after : List Fact) (effect : Effect) → operate limits (tables_in world) place slots heap kind ≡ effect → IntsOnly kind
      → IsGood world tables lows limits place building method slots heap keeps frame after effect → Fine world fields number tasks after → Shows profile world know building number slots heap (effect_then effect place tasks)
  effect_shown kind place tasks after (Done later now) is int good fine =
      (good.0, done_keeps limits (tables_in world) place slots heap kept_ints kind later now int is, record { store = after; holds = good.1; fine = fine })
  effect_shown kind place tasks after (Stopped ending) is int good fine = good
  effect_shown kind place tasks after (Wrapped later now) is int good fine = absurd good
  effect_shown kind place tasks after (Printed value) is int good fine = absurd good
  effect_shown kind place tasks after (Called how call) is int good fine = absurd good

  follows_true : (facts : List Fact) (fact : Fact) → Follows facts fact → AllTrue world facts slots heap → IsTrue world slots heap fact
  follows_true facts fact (of_path slot array path holds below) all =
      subst (λ held. int_of held <ℤ size_of heap (value_at slots array)) (in_true world facts (Holds slot path) slots heap holds all) (in_true world facts (Below (Slot slot) array) slots heap below all)
  follows_true facts fact (of_fresh path fresh) all = subst (λ n. pos 0 ≤ℤ n) (sym (ap (λ (r : Reading). r.int) (in_true world facts (IsFresh path) slots heap fresh all))) (omega (arith, ints))
  follows_true facts fact (of_slot slot array path holds below) all =
      subst (λ held. int_of held <ℤ size_of heap (value_at slots array)) (sym (in_true world facts (Holds slot path) slots heap holds all)) (in_true world facts (Below path array) slots heap below all)

  -- a test that is true: the left int is below the right one, which is the length
  test_true : (test : Test) (array : ℕ) (facts : List Fact) → test.ty ≡ type.Plain base.Int → test.rel ≡ rel.Lt → IsIn (IsLength test.right array) facts → AllTrue world facts slots heap
      → test_of test.ty test.rel (value_at slots test.left) (value_at slots test.right) ≡ true → IsTrue world slots heap (Below (Slot test.left) array)
  test_true test array facts int less length_is all e =
      subst (λ n. int_of (value_at slots test.left) <ℤ n) (in_true world facts (IsLength test.right array) slots heap length_is all)
      (lt_is (int_of (value_at slots test.left)) (int_of (value_at slots test.right))
      (sym (ap (λ ty. test_of ty test.rel (value_at slots test.left) (value_at slots test.right)) int ∙ ap (λ r. int_test r (int_of (value_at slots test.left)) (int_of (value_at slots test.right))) less) ∙ e))

  decided : (test : Test) (array : ℕ) (facts : List Fact) (first second tasks : Tasks) → test.ty ≡ type.Plain base.Int → test.rel ≡ rel.Lt → IsIn (IsLength test.right array) facts → AllTrue world facts slots heap
      → Fine world fields number (followed_by first tasks) (Below (Slot test.left) array ∷ facts) → Fine world fields number (followed_by second tasks) facts
      → (b : Bool) → test_of test.ty test.rel (value_at slots test.left) (value_at slots test.right) ≡ b → Shows profile world know building number slots heap (Go (followed_by (if b then first else second) tasks) slots heap)
  decided test array facts first second tasks int less length_is all yes_fine no_fine true e =
      goes (followed_by first tasks) (Below (Slot test.left) array ∷ facts) (test_true test array facts int less length_is all e, all) yes_fine
  decided test array facts first second tasks int less length_is all yes_fine no_fine false e = goes (followed_by second tasks) facts all no_fine

  -- the claims of the parameters are met
  params_met : (facts : List Fact) (kind : CallKind) (call : CallOp) → AllTrue world facts slots heap
      → ((param : ℕ) (variable : Variable) → slice_get (world.methods call.method).params param ≡ Some variable → (slot : ℕ) × IsGiven kind call (world.methods call.method) param slot × Proves facts (Slot slot) variable.claims)
      → MeetParams world (world.methods call.method) (call_values kind call (length heap) slots) (call_heap (tables_in world) kind heap)
  params_met facts kind call all given param variable at =
      let one = given param variable at in
      proves_true world (Slot one.0) slots heap facts variable.claims _ _ one.2 (ap int_of (one.1 (length heap) slots)) all

  -- the end of a body without a result
  no_result : method.constructor ≡ false → method.result ≡ type.Void → result_of (routine_of method) slots None ≡ None
  no_result plain void = rw plain (rw void refl)

  -- no post is promised
  with_no_posts : (value : Option Held) → ResultTrue world method slots heap value → Results world method slots heap value
  with_no_posts value claims = record { claims = claims; posts = subst (λ posts. PostsHold posts (param_readings world method slots heap) value) (sym silent) tt }

  ended : (facts : List Fact) → method.result ≡ type.Void → (method.constructor ≡ true → (field : ℕ) → HasField world (ObjectOf method.class) field → Proves facts (FieldOf 0 field) (world.field_claims field))
      → AllTrue world facts slots heap → Leaves profile world know building method slots heap (result_of (routine_of method) slots None)
  ended facts void built all = record {
    free = λ plain. subst (IsFreeIf building heap) (sym (no_result plain void)) tt;
    results = λ plain. subst (Results world method slots heap) (sym (no_result plain void)) (with_no_posts None tt);
    built = λ c object field at has.
        proves_true world (FieldOf 0 field) slots heap facts (world.field_claims field) _ (field_readings world heap object) (built c field has) (ap (λ held. int_of (held_through world heap held field)) (sym at)) all;
  }

  -- a `return` of a slot
  abbrev given : ℕ → Option Held → Option Held
  given slot default = option_map (λ of. value_at slots slot) default

  the_result : (slot : ℕ) → method.constructor ≡ false → result_of (routine_of method) slots (Some slot) ≡ given slot (default_result method.result)
  the_result slot plain = rw plain refl

  given_free : (slot : ℕ) (default : Option Held) → method.constructor ≡ false → IsFreeIf building heap (given slot default)
  given_free slot None plain = tt
  given_free slot (Some of) plain = frame.free slot (λ own. false≢true (sym plain ∙ own.0))

  given_met : (facts : List Fact) (slot : ℕ) (default : Option Held) → Proves facts (Slot slot) method.result_claims → AllTrue world facts slots heap → ResultTrue world method slots heap (given slot default)
  given_met facts slot None proves all = tt
  given_met facts slot (Some of) proves all = proves_true world (Slot slot) slots heap facts method.result_claims _ _ proves refl all

  returned : (facts : List Fact) (slot : ℕ) → method.constructor ≡ false → Proves facts (Slot slot) method.result_claims → AllTrue world facts slots heap
      → Leaves profile world know building method slots heap (result_of (routine_of method) slots (Some slot))
  returned facts slot plain proves all = record {
    free = λ e. subst (IsFreeIf building heap) (sym (the_result slot plain)) (given_free slot (default_result method.result) plain);
    results = λ e. subst (Results world method slots heap) (sym (the_result slot plain)) (with_no_posts (given slot (default_result method.result)) (given_met facts slot (default_result method.result) proves all));
    built = λ c object field at has. absurd (false≢true (sym plain ∙ c));
  }

  -- what types say of the next operation
  abbrev pub NextHolds : Tasks → Type 0
  NextHolds tasks = (done : Op) (rest : Code) (below : Tasks) → tasks ≡ Run (Do done rest) below → HoldsArray slots heap done.kind

  pub shown : (tasks : Tasks) (facts : List Fact) → Fine world fields number tasks facts → AllTrue world facts slots heap → NextHolds tasks → Shows profile world know building number slots heap (step_tasks limits (tables_in world) slots heap tasks)
  shown tasks facts (ends _ void built) all holds = ended facts void built all
  shown tasks facts (returns _ slot span rest below plain proves) all holds = returned facts slot plain proves all
  shown tasks facts (does _ after done rest below step fine) all holds =
      effect_shown done.kind done.span.from (code_then rest below) after (operate limits (tables_in world) done.span.from slots heap done.kind) refl (ints_only world method facts after done.kind step)
      (operation_good world tables lows limits done.span.from building method slots heap keeps frame facts after done.kind step all (holds done rest below refl)) fine
  shown tasks facts (prints _ done value rest below is fine) all holds =
      subst (λ kind. Shows profile world know building number slots heap (effect_then (operate limits (tables_in world) done.span.from slots heap kind) done.span.from (code_then rest below))) (sym is)
      (record { store = facts; holds = all; fine = fine })
  shown tasks facts (enters _ done kind call rest below is plain fits given fine) all holds =
      subst (λ effect. Shows profile world know building number slots heap (effect_then effect done.span.from (code_then rest below))) (sym (is limits (tables_in world) done.span.from slots heap))
      (record {
        store = facts;
        holds = all;
        fits = fits;
        met = params_met facts kind call all given;
        fresh = λ super object at field has. subst (λ held. reading_of heap (held_through world heap held field) ≡ no_reading) at (in_true world facts (IsFresh (FieldOf 0 field)) slots heap (plain super field has) all);
        fine = fine;
      })
  shown tasks facts (chooses _ asked first second rest below fine) all holds = goes _ facts all fine
  shown tasks facts (asks _ asked first second below fine) all holds = goes _ facts all fine
  shown tasks facts (decides _ test array first second below int less length_is yes_fine no_fine) all holds =
      decided test array facts first second below int less length_is all yes_fine no_fine (test_of test.ty test.rel (value_at slots test.left) (value_at slots test.right)) refl
  shown tasks facts (knows _ fact _ follows fine) all holds = shown tasks (fact ∷ facts) fine (follows_true facts fact follows all, all) holds
