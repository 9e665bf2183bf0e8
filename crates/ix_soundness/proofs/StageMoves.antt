-- A constructor's moves that do no operation leave it at its stage.
use Rattle.std.specs.Prelude.{◌≡◌, ℕ, ◌<◌, Bool, true, false, if◌then◌else◌, List, length, None, Some, refl}
use Rattle.std.proofs.Common.{ap}
use Rattle.std.proofs.lemmas.Bool.{and_parts, false≢true}
use Rattle.ix_core.specs.declared.claim.Type_.{Type_}
use Rattle.ix_core.specs.declared.op.CallOp.{CallOp}
use Rattle.ix_core.specs.declared.op.Op.{Op}
use Rattle.ix_core.specs.declared.op.OpKind.TheVariants as op
use Rattle.ix_core.specs.declared.program.Program.{Program}
use Rattle.ix_core.specs.Code.{Code, End, Do, If, Break, Continue, Return, Throw, Loop, Condition}
use Rattle.ix_core.specs.Formed.{is_formed, code_ways, op_fits, op_types, is_super_call}
use Rattle.ix_core.specs.Heap.{Held, Heap, value_at}
use Rattle.ix_core.specs.Machine.{Move, Go, Limits, step_tasks, step_code, Enter, Leave, Stop, Tell, Wrap, is_true, test_of}
use Rattle.ix_core.specs.Tables.{Tables, method_at}
use Rattle.ix_core.specs.Tasks.{Tasks, Empty, Run, Ask, Decide, DecideTruth, Head, Again, Out, code_then, followed_by, behind_loop, next_turn}
use Rattle.ix_core.specs.TypedStates.{Fit, Running, Asking, Comparing, Reading, Turning, Returning, Leaving, Nothing, Lead, Giving, Leads}
use Rattle.ix_core.specs.Types.{Types, class_type, with_type}
use Rattle.ix_core.proofs.FormedParts.{locals_of}
use Rattle.ix_core.proofs.TypedTasks.{code_leads, condition_step, head_step, again_step, if_step, loop_step, itself, leads_first}
use Rattle.ix_soundness.specs.Making.{Stage, Plain, Making, with_types, Tracks, MakingFits, StageFits, StageStays}
use Rattle.ix_soundness.specs.Supers.{Supers}
use Rattle.ix_soundness.proofs.SuperMoves.{do_ends, super_ends, super_last, code_supers, followed_supers, behind_supers, turn_supers, if_supers, loop_supers, condition_supers, head_supers, again_supers}
use Rattle.ix_soundness.proofs.Tracked.{gives_tracks, gives_none, operation_tracks, made_tracks}

-- the next task does no operation
abbrev pub DoesNone : Tasks → Type 0
DoesNone (Run (Do done rest) tasks) = ⊥
DoesNone tasks = Unit {0}

module _ (program : Program) (locals : List (List Type_)) (formed : is_formed program locals ≡ true) (number : ℕ) (lt : number < length program.methods) where
  abbrev types_in : ℕ → List Type_
  types_in n = locals_of program locals formed n

  abbrev local_types : List Type_
  local_types = locals_of program locals formed number

  module _ (class : ℕ) (new : Bool) (made : (method_at program number).constructor ≡ true) (of : class ≡ (method_at program number).class) (types : Types) (tracks : Tracks program (method_at program number) types) (hidden : new ≡ true → types 0 ≡ None)
      (limits : Limits) (tables : Tables) (slots : List Held) (heap : Heap) where
    abbrev Stays : Move → Type 0
    Stays move = StageStays program types_in number (Making class new types) move

    goes : (tasks : Tasks) → Lead program (method_at program number) local_types tasks types → Supers new tasks → Stays (Go tasks slots heap)
    goes tasks lead supers = (types, record { constructor = made; of = of; tracks = tracks; lead = lead; hidden = hidden; supers = supers })

    code_stays : (in_loop : Bool) (code : Code) (tasks : Tasks) → DoesNone (Run code tasks) → (code_ways program (method_at program number) local_types in_loop code (Some types)).fits ≡ true
        → Leads program (method_at program number) local_types (code_ways program (method_at program number) local_types in_loop code (Some types)).ends tasks
        → Leads program (method_at program number) local_types (code_ways program (method_at program number) local_types in_loop code (Some types)).breaks (behind_loop tasks)
        → Leads program (method_at program number) local_types (code_ways program (method_at program number) local_types in_loop code (Some types)).turns (next_turn tasks)
        → Supers new (Run code tasks) → Stays (step_code limits tables slots heap code tasks)
    code_stays in_loop End tasks none fits ends breaks turns supers = goes tasks (ends types refl) supers.1
    code_stays in_loop (Do done rest) tasks none fits ends breaks turns supers = absurd none
    code_stays in_loop (If asked first second rest) tasks none fits ends breaks turns supers =
        goes (Ask asked (code_then first Empty) (code_then second Empty) (code_then rest tasks)) (if_step program (method_at program number) local_types in_loop asked first second rest tasks types fits ends breaks turns)
        (if_supers new asked first second rest tasks supers)
    code_stays in_loop (Break rest) tasks none fits ends breaks turns supers =
        goes (behind_loop tasks) (leads_first program (method_at program number) local_types (Some types) (code_ways program (method_at program number) local_types in_loop rest None).breaks _ breaks types refl) (behind_supers new tasks supers.1)
    code_stays in_loop (Continue rest) tasks none fits ends breaks turns supers =
        goes (next_turn tasks) (leads_first program (method_at program number) local_types (Some types) (code_ways program (method_at program number) local_types in_loop rest None).turns _ turns types refl) (turn_supers new tasks supers.1)
    code_stays in_loop (Return value span rest) tasks none fits ends breaks turns supers = tt
    code_stays in_loop (Throw name span rest) tasks none fits ends breaks turns supers = tt
    code_stays in_loop (Loop test_first asked body next label scope rest) tasks none fits ends breaks turns supers =
        loop_stays test_first asked body next (code_then rest tasks) (loop_step program (method_at program number) local_types in_loop test_first asked body next label scope rest tasks types fits ends breaks turns)
        (loop_supers new test_first asked body next label scope rest tasks supers)
      where
        loop_stays : (test_first : Bool) (asked : Condition) (body next : Code) (behind : Tasks)
            → Lead program (method_at program number) local_types (if test_first then Head asked body next (Out behind) else code_then body (Again asked body next (Out behind))) types
            → Supers new (if test_first then Head asked body next (Out behind) else code_then body (Again asked body next (Out behind)))
            → Stays (if test_first then Go (Head asked body next (Out behind)) slots heap else Go (code_then body (Again asked body next (Out behind))) slots heap)
        loop_stays true asked body next behind lead supers = goes (Head asked body next (Out behind)) lead supers
        loop_stays false asked body next behind lead supers = goes (code_then body (Again asked body next (Out behind))) lead supers

    chosen : (answer : Bool) (first second tasks : Tasks) → Lead program (method_at program number) local_types (followed_by first tasks) types → Lead program (method_at program number) local_types (followed_by second tasks) types
        → Supers false first → Supers false second → Supers new tasks → Stays (Go (followed_by (if answer then first else second) tasks) slots heap)
    chosen true first second tasks one two a b rest = goes (followed_by first tasks) one (followed_supers new first tasks a rest)
    chosen false first second tasks one two a b rest = goes (followed_by second tasks) two (followed_supers new second tasks b rest)

    fit_stays : (tasks : Tasks) → DoesNone tasks → Fit program (method_at program number) local_types tasks types → Supers new tasks → Stays (step_tasks limits tables slots heap tasks)
    fit_stays Empty none (Nothing _) supers = tt
    fit_stays (Run code tasks) none (Running in_loop _ _ _ fits ends breaks turns) supers = code_stays in_loop code tasks none fits ends breaks turns supers
    fit_stays (Ask asked first second tasks) none (Asking _ _ _ _ _ fits holds fails) supers =
        goes _ (condition_step program (method_at program number) local_types asked first second tasks (Some types) fits holds fails types refl) (condition_supers new asked first second tasks supers)
    fit_stays (Decide test first second tasks) none (Comparing _ _ _ _ _ left right holds fails) supers =
        chosen (test_of test.ty test.rel (value_at slots test.left) (value_at slots test.right)) first second tasks holds fails supers.0 supers.1 supers.2
    fit_stays (DecideTruth slot first second tasks) none (Reading _ _ _ _ _ read holds fails) supers =
        chosen (is_true (value_at slots slot)) first second tasks holds fails supers.0 supers.1 supers.2
    fit_stays (Head asked body next tasks) none (Turning _ _ _ _ _ turn fails breaks) supers = goes _ (head_step program (method_at program number) local_types asked body next tasks types turn fails breaks) (head_supers new asked body next tasks supers)
    fit_stays (Again asked body next tasks) none (Returning _ _ _ _ _ turn fails breaks) supers = goes _ (again_step program (method_at program number) local_types asked body next tasks types turn fails breaks) (again_supers new asked body next tasks supers)
    fit_stays (Out tasks) none (Leaving _ _ fit) supers = goes tasks (itself program (method_at program number) local_types tasks types fit) supers

  -- ---- any stage

  stays_of : (move : Move) (class : ℕ) (new : Bool) (types needed : Types) → StageStays program types_in number (Making class new needed) move → StageStays program types_in number (Making class new types) move
  stays_of (Go tasks later after) class new types needed stays = stays
  stays_of (Wrap tasks later after) class new types needed stays = tt
  stays_of (Tell value tasks) class new types needed stays = tt
  stays_of (Enter kind call place tasks) class new types needed stays = tt
  stays_of (Leave returned) class new types needed stays = tt
  stays_of (Stop ending) class new types needed stays = tt

  plain_stays : (move : Move) → (method_at program number).constructor ≡ false → StageStays program types_in number Plain move
  plain_stays (Go tasks later after) plain = ((λ slot. None), plain)
  plain_stays (Wrap tasks later after) plain = tt
  plain_stays (Tell value tasks) plain = tt
  plain_stays (Enter kind call place tasks) plain = tt
  plain_stays (Leave returned) plain = tt
  plain_stays (Stop ending) plain = tt

  pub stage_stays : (stage : Stage) (tasks : Tasks) (limits : Limits) (tables : Tables) (slots : List Held) (heap : Heap) → DoesNone tasks → StageFits program types_in number tasks stage
      → StageStays program types_in number stage (step_tasks limits tables slots heap tasks)
  stage_stays Plain tasks limits tables slots heap none fits = plain_stays (step_tasks limits tables slots heap tasks) fits
  stage_stays (Making class new types) tasks limits tables slots heap none fits = by_lead fits.lead
    where
      by_lead : Lead program (method_at program number) local_types tasks types → StageStays program types_in number (Making class new types) (step_tasks limits tables slots heap tasks)
      by_lead (Giving _ _ needed gives fit) =
          stays_of (step_tasks limits tables slots heap tasks) class new types needed
          (fit_stays class new fits.constructor fits.of needed (gives_tracks program locals formed number lt fits.constructor types needed gives fits.tracks)
          (λ is. gives_none program locals formed number lt fits.constructor types needed gives fits.tracks (fits.hidden is)) limits tables slots heap tasks none fit fits.supers)

  -- ---- an operation

  -- what a constructor's next operation is, and what is left behind it
  pub record NextFits (done : Op) (rest : Code) (tasks : Tasks) (class : ℕ) (new : Bool) : Type 0 where
    pub needed : Types
    pub tracks : Tracks program (method_at program number) needed
    pub hidden : new ≡ true → needed 0 ≡ None
    pub fits : op_fits program (method_at program number) local_types (Some needed) done done.kind ≡ true
    pub leads : Leads program (method_at program number) local_types (op_types program (method_at program number) local_types (Some needed) done done.kind) (code_then rest tasks)

  pub next_fits : (done : Op) (rest : Code) (tasks : Tasks) (class : ℕ) (new : Bool) (types : Types) → MakingFits program local_types (method_at program number) (Run (Do done rest) tasks) class new types → NextFits done rest tasks class new
  next_fits done rest tasks class new types fits = by_lead fits.lead
    where
      by_lead : Lead program (method_at program number) local_types (Run (Do done rest) tasks) types → NextFits done rest tasks class new
      by_lead (Giving _ _ needed gives (Running in_loop _ _ _ all ends breaks turns)) =
          let point = op_types program (method_at program number) local_types (Some needed) done done.kind in
          let parts = and_parts (op_fits program (method_at program number) local_types (Some needed) done done.kind) (code_ways program (method_at program number) local_types in_loop rest point).fits all in record {
            needed = needed;
            tracks = gives_tracks program locals formed number lt fits.constructor types needed gives fits.tracks;
            hidden = λ is. gives_none program locals formed number lt fits.constructor types needed gives fits.tracks (fits.hidden is);
            fits = parts.0;
            leads = code_leads program (method_at program number) local_types in_loop rest tasks point parts.1 ends breaks turns;
          }

  -- behind an operation that doesn't call the parent's constructor
  pub operation_stays : (done : Op) (rest : Code) (tasks : Tasks) (stage : Stage) → is_super_call done.kind ≡ false → StageFits program types_in number (Run (Do done rest) tasks) stage
      → (types : Types) × StageFits program types_in number (code_then rest tasks) (with_types stage types)
  operation_stays done rest tasks Plain plain fits = ((λ slot. None), fits)
  operation_stays done rest tasks (Making class new types) plain fits =
      let next = next_fits done rest tasks class new types fits in
      let after = operation_tracks program locals formed number lt fits.constructor done done.kind next.needed plain next.fits next.tracks in (
        after.0,
        record {
          constructor = fits.constructor;
          of = fits.of;
          tracks = after.2.tracks;
          lead = next.leads after.0 after.1;
          hidden = λ is. after.2.hidden (next.hidden is);
          supers = code_supers new rest tasks (do_ends new done rest tasks plain fits.supers.0) fits.supers.1;
        },
      )

  -- and behind one that does: it was still to come, and there is no other
  pub super_made : (done : Op) (call : CallOp) (rest : Code) (tasks : Tasks) (class : ℕ) (new : Bool) (types : Types) → done.kind ≡ op.SuperCall call
      → MakingFits program local_types (method_at program number) (Run (Do done rest) tasks) class new types
      → (new ≡ true) × (after : Types) × MakingFits program local_types (method_at program number) (code_then rest tasks) class false after
  super_made done call rest tasks class new types is fits =
      let next = next_fits done rest tasks class new types fits in
      let ends = super_ends new done rest tasks (ap is_super_call is) fits.supers.0 in
      let after : Types = with_type 0 (class_type (method_at program number).class) next.needed in
      let leads = next.leads after (ap (λ kind. op_types program (method_at program number) local_types (Some next.needed) done kind) is) in (
        ends.0,
        after,
        record {
          constructor = fits.constructor;
          of = fits.of;
          tracks = made_tracks program locals formed number lt fits.constructor next.needed next.tracks;
          lead = leads;
          hidden = λ e. absurd (false≢true e);
          supers = code_supers false rest tasks ends.1 (super_last new done rest tasks (ap is_super_call is) fits.supers.0);
        },
      )
