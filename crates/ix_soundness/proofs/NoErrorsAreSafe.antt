-- A formed program in which the rules derive no error is safe.
use Rattle.std.specs.Prelude.{◌≡◌, ℕ, ◌<◌, ◌≤◌, nat_lt, Bool, true, false, List, length, Option, None, Some, unwrap_or, refl}
use Rattle.std.proofs.Common.{arith, sym, ap, subst, inr}
use Rattle.std.proofs.lemmas.Bool.Decides.{nat_tests}
use Rattle.std.proofs.lemmas.Option.{slice_get_past}
use Rattle.ix_core.specs.declared.claim.Type_.{Type_}
use Rattle.ix_core.specs.declared.fact.Profile.{Profile}
use Rattle.ix_core.specs.declared.op.Op.{Op}
use Rattle.ix_core.specs.declared.program.Method.{Method}
use Rattle.ix_core.specs.declared.program.Program.{Program}
use Rattle.ix_core.specs.Analysis.{IsWorld, Stands, Laws, Shows}
use Rattle.ix_core.specs.Formed.{is_formed}
use Rattle.ix_core.specs.Heap.{Held, Heap}
use Rattle.ix_core.specs.Machine.{Limits, step_tasks}
use Rattle.ix_core.specs.Objects.{HeapKeeps, FrameKeeps, KeepsInts}
use Rattle.ix_core.specs.Safe.{Safe}
use Rattle.ix_core.specs.Tables.{no_method, method_at, param_slots, body_of}
use Rattle.ix_core.specs.Tasks.{Tasks, Empty, code_then}
use Rattle.ix_core.specs.TypedStates.{NowTyped, StateTyped}
use Rattle.ix_core.specs.Waits.{Knowledge}
use Rattle.ix_core.specs.World.{World, tables_in}
use Rattle.ix_core.proofs.Cases.{by_test}
use Rattle.ix_core.proofs.FormedWorld.{formed_world}
use Rattle.ix_core.proofs.LawsAreSafe.{types_in}
use Rattle.ix_core.proofs.TypedCalls.{method_has}
use Rattle.ix_core.proofs.TypedRuns.{step_typed}
use Rattle.ix_core.proofs.TypedStarts.{start_typed}
use Rattle.ix_facts.specs.Stores.{Stored}
use Rattle.ix_core.specs.Posts.{last_done}
use Rattle.ix_sign.specs.MethodRules.{method_rules}
use Rattle.ix_soundness.specs.Chain.{Finishing}
use Rattle.ix_soundness.specs.Clean.{IsClean}
use Rattle.ix_soundness.specs.Direct.{direct}
use Rattle.ix_soundness.specs.Errors.{NoErrors}
use Rattle.ix_soundness.specs.Known.{Known, Anything, Here, Behind, FineFrom, HoldsFor, known_at, knowledge, stage_behind}
use Rattle.ix_soundness.specs.Sound.{HasNoErrors}
use Rattle.ix_core.specs.Ready.{LocalsApart}
use Rattle.ix_soundness.proofs.AfterCalls.{behind_holds}
use Rattle.ix_soundness.proofs.ChainMoves.{code_flowing}
use Rattle.ix_soundness.proofs.CleanTexts.{each_clean}
use Rattle.ix_soundness.proofs.Dispatch.{dispatched_safe}
use Rattle.ix_soundness.proofs.Dispatched.{dispatches}
use Rattle.ix_soundness.proofs.Entries.{entry_met, entry_fits}
use Rattle.ix_soundness.proofs.Moves.{shown}
use Rattle.ix_soundness.proofs.Overridden.{NoTexts}
use Rattle.ix_soundness.proofs.Starts.{starts_good}

module _ (program : Program) (locals : List (List Type_)) (formed : is_formed program locals ≡ true) (apart : LocalsApart program) (profile : Profile) (none : (number : ℕ) → number < length program.methods → HasNoErrors program profile number) where
  abbrev world : World
  world = direct program

  pub lt_of : (number : ℕ) → nat_lt number (length program.methods) ≡ true → number < length program.methods
  lt_of number there = grind (arith, nat_tests)

  abbrev errors : (number : ℕ) → nat_lt number (length program.methods) ≡ true → HasNoErrors program profile number
  errors number there = none number (lt_of number there)

  abbrev entries : (number : ℕ) → nat_lt number (length program.methods) ≡ true → Stored
  entries number there = (errors number there).flow.0

  abbrev know : Knowledge
  know = knowledge program profile (types_in program locals formed) entries

  texts : NoTexts program locals formed
  texts number lt = (none number lt).text

  tables : IsWorld world
  tables =
      let of = formed_world program locals formed in
      record { room = of.room; apart = of.apart; inherits = of.inherits; fresh = of.fresh; constructors = of.constructors; no_result = of.no_result; named = of.named; no_locals = of.no_locals; no_posts = of.no_posts; posts_named = of.posts_named; posts_no_locals = of.posts_no_locals }

  room : (number : ℕ) → param_slots (method_at program number) ≤ (method_at program number).slots
  room number =
      by_test (nat_lt number (length program.methods))
      (λ t. let h = (method_has program locals formed number (lt_of number t)).room in grind (arith, nat_tests))
      (λ t.
      let le : length program.methods ≤ number = grind (arith, nat_tests) in
      let past : method_at program number ≡ no_method = ap (λ (o : Option Method). unwrap_or o no_method) (slice_get_past program.methods number le) in
      subst (λ (m : Method). param_slots m ≤ m.slots) (sym past) (omega (arith)))

  stands : (class named : ℕ) → Stands world (world.methods named) (world.methods (world.found class named))
  stands class named = record {
    params = refl;
    static = refl;
    slots = room named;
    plain = λ e. e;
    result = refl;
    effect = λ e. e;
    demands = λ values heap met. met;
    promises = λ values began heap value on later quiet met is. is;
    posts = λ values heap value is. is;
  }

  -- ---- bodies

  body_from : (number : ℕ) (t : Bool) (e : nat_lt number (length program.methods) ≡ t) → number < length program.methods
      → FineFrom program profile (types_in program locals formed) number (code_then (body_of (method_at program number)) Empty) (known_at program profile (types_in program locals formed) entries number t e)
  body_from number false e lt = absurd (not_there e)
    where
      not_there : nat_lt number (length program.methods) ≡ false → ⊥
      not_there f = grind (arith, nat_tests)
  body_from number true e lt =
      let flow = (errors number e).flow in record {
        labels = (errors number e).labels;
        flowing = code_flowing (method_rules program (method_at program number) profile) (NoErrors program (method_at program number) number) (errors number e).labels (λ (done : Op). IsClean program (method_at program number) done.kind)
            None (body_of (method_at program number)) Empty flow.0 flow.1 flow.1 flow.1 flow.3
            (each_clean program (method_at program number) (body_of (method_at program number)) (λ error rank x. (errors number e).text error rank (inr x)))
            (record { ends = Finishing (last_done None (body_of (method_at program number))) flow.1 flow.4; jumps = Finishing None flow.1 flow.4; turns = Finishing None flow.1 flow.4 });
        stage_fits = entry_fits program locals formed profile number lt;
      }

  -- ---- steps

  step_from : (limits : Limits) (building : ℕ → Type 0) (number : ℕ) (tasks : Tasks) (known : Known) (slots : List Held) (heap : Heap) → NowTyped program (types_in program locals formed) number tasks slots heap → HeapKeeps world building heap
      → FrameKeeps building (method_at program number) slots heap → KeepsInts slots heap → HoldsFor program profile (types_in program locals formed) known slots heap → FineFrom program profile (types_in program locals formed) number tasks known
      → Shows profile world know building number slots heap (step_tasks limits (tables_in world) slots heap tasks)
  step_from limits building number tasks Anything slots heap typed keeps frame kept holds fine = absurd fine
  step_from limits building number tasks (Here stage last s) slots heap typed keeps frame kept holds fine =
      shown program locals formed tables apart profile entries limits building number typed.frame_typed.slots.there slots heap keeps frame kept fine.labels last tasks s fine.flowing stage fine.stage_fits holds typed
  step_from limits building number tasks (Behind caller callee kind call Anything) slots heap typed keeps frame kept holds fine = absurd fine
  step_from limits building number tasks (Behind caller callee kind call (Behind other named kind_ call_ known)) slots heap typed keeps frame kept holds fine = absurd fine
  step_from limits building number tasks (Behind caller callee kind call (Here stage last s)) slots heap typed keeps frame kept holds fine =
      shown program locals formed tables apart profile entries limits building number typed.frame_typed.slots.there slots heap keeps frame kept fine.fine.labels (Some fine.done) tasks fine.after fine.fine.flowing (stage_behind kind stage fine.types) fine.fine.stage_fits
      (holds fine.well fine.after fine.gives fine.types fine.done fine.is) typed

  pub no_errors_keep_laws : Laws profile world (NowTyped program (types_in program locals formed)) know
  no_errors_keep_laws = record {
    tables = tables;
    stands = stands;
    body = λ number. body_from number (nat_lt number (length program.methods)) refl;
    entry = λ number slots heap met on kept new. entry_met program locals formed profile entries (λ n there. (errors n there).flow.2) number slots heap met new (nat_lt number (length program.methods)) refl;
    step = λ limits building number tasks known slots heap typed keeps frame kept holds fine. step_from limits building number tasks known slots heap typed keeps frame kept holds (fine typed.frame_typed.slots.there);
    after_call = λ caller named kind call known slots began heap value fits size on kept holds since kept_after int given results built.
        behind_holds program locals formed profile texts caller named kind call slots began heap value fits size on kept since kept_after int given results built known holds;
  }

  pub safe_where_apart : Safe program profile
  safe_where_apart =
      dispatched_safe program profile (NowTyped program (types_in program locals formed)) know no_errors_keep_laws (dispatches program locals formed profile texts entries) (StateTyped program (types_in program locals formed))
      (λ limits state typed. step_typed program locals formed limits state typed) (λ state typed. record { heap_typed = typed.heap; frame_typed = typed.now })
      (λ method inputs begins. (start_typed program locals formed method inputs begins.entry, starts_good program locals formed profile know no_errors_keep_laws method inputs begins))
