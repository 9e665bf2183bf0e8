-- Calls keep their meaning, with one call less that may nest.
use Rattle.std.proofs.Common.{◌≡◌, ◌≤◌, ◌<◌, ℕ, ◌+◌, pos, Bool, true, false, List, ◌∷◌, [], ◌++◌, length, Option, Some, None, refl, sym, ap, subst, ◌∙◌, arith}
use Rattle.std.specs.Prelude.{if◌then◌else◌, option_map, is_some, unwrap_or, replicate, ◌-◌}
use Rattle.std.proofs.lemmas.Bool.{false≢true}
use Rattle.std.proofs.lemmas.List.{append-nil, length-append, length-replicate}
use Rattle.ix_text.specs.declared.span.Span.{Span}
use Rattle.ix_core.specs.Code.{Code, End}
use Rattle.ix_core.specs.Code as code
use Rattle.ix_core.specs.Heap.{Held, Num, value_at}
use Rattle.ix_core.specs.Machine.{State, no_limits, step, slots_with, set_target, result_of, returned_or}
use Rattle.ix_core.specs.Tables.{Routine}
use Rattle.ix_core.specs.Tasks.{Tasks, Empty, Run, code_then}
use Rattle.ix_core.proofs.Heaps.{value_set}
use Rattle.ix_plain.specs.declared.body.Body.{Body}
use Rattle.ix_source.specs.Runs.{Now, Result as Ended, Gives, Stops, Cuts, Action, ◌>>=◌, go_on, gives, with_variables}
use Rattle.ix_source.specs.Statements.{Completion, Normal, Breaks, Continues, Returns}
use Rattle.ix_source.specs.Bodies.{variables, with_own, back, given_back}
use Rattle.ix_core.specs.Traces.{step_seen}
use Rattle.ix_source.specs.Seen.{Leads, Frame, at, Decides}
use Rattle.ix_source.specs.Along.{Setting, IsSet, Agrees, Keeps, Along}
use Rattle.ix_source.specs.Kept.{code_before, IsIn}
use Rattle.ix_source.specs.Running.{Ground, Stands, Follows, IsReturned, AlongWith, Runs}
use Rattle.ix_source.specs.Called.{GoesBack, called_frame, first_slots, RunsMethod}
use Rattle.ix_source.proofs.Paths.{both, both_adds, one_step, decides_from}
use Rattle.ix_source.proofs.Going.{keeps_all}
use Rattle.ix_source.proofs.Slots.{agrees_temporary, keeps_temporary}

-- ---- what a frame ends with

pub not_constructor : (routine : Routine) (slots : List Held) (returned : Option ℕ) → routine.constructor ≡ false → result_of routine slots returned ≡ option_map (λ default. returned_or default slots returned) routine.default
not_constructor routine slots returned e = ap (λ b. if b then Some (value_at slots 0) else option_map (λ default. returned_or default slots returned) routine.default) e

pub map_none : (default : Option Held) (slots : List Held) → option_map (λ default. returned_or default slots None) default ≡ default
map_none None slots = refl
map_none (Some held) slots = refl

pub map_some : (default : Option Held) (slots : List Held) (slot : ℕ) (value : Held) → value_at slots slot ≡ value → option_map (λ default. returned_or default slots (Some slot)) default ≡ option_map (λ unused. value) default
map_some None slots slot value e = refl
map_some (Some held) slots slot value e = ap Some e

module _ (g : Ground) (number : ℕ) (constructor : (g.tables.routines number).constructor ≡ false) where
  abbrev routine : Routine
  routine = g.tables.routines number

  -- the step that ends the frame
  leaves : (caller : Frame) (tasks to : Tasks) (waits : List Held) (target : Option ℕ) (slots : List Held) (later : Now) (returned : Option ℕ) (result : Option Held)
      → step no_limits g.tables (at (called_frame g.tables g.depth number caller tasks waits target) to slots later.heap later.wrapped) ≡ at caller tasks (set_target target (result_of routine slots returned) waits) later.heap later.wrapped
      → result_of routine slots returned ≡ result → step no_limits g.tables (at (called_frame g.tables g.depth number caller tasks waits target) to slots later.heap later.wrapped) ≡ at caller tasks (set_target target result waits) later.heap later.wrapped
  leaves caller tasks to waits target slots later returned result e is = e ∙ ap (λ r. at caller tasks (set_target target r waits) later.heap later.wrapped) is

  abbrev Ended_at : Frame → Tasks → Tasks → List Held → Option ℕ → List Held → Now → Option Held → Type 0
  Ended_at caller tasks to waits target slots later result =
      Leads g.tables (at (called_frame g.tables g.depth number caller tasks waits target) to slots later.heap later.wrapped) [] (at caller tasks (set_target target result waits) later.heap later.wrapped)

  empty_ends : (caller : Frame) (tasks to : Tasks) (waits : List Held) (target : Option ℕ) (slots : List Held) (later : Now) → to ≡ Empty → Ended_at caller tasks to waits target slots later routine.default
  empty_ends caller tasks to waits target slots later e =
      subst (λ to. Ended_at caller tasks to waits target slots later routine.default) (sym e)
      (one_step g.tables _ _ (leaves caller tasks Empty waits target slots later None routine.default refl (not_constructor routine slots None constructor ∙ map_none routine.default slots)))

  return_ends : (caller : Frame) (tasks to : Tasks) (waits : List Held) (target : Option ℕ) (slots : List Held) (later : Now) (slot : Option ℕ) (span : Span) (rest : Code) (more : Tasks) (value : Option Held) → IsReturned g slot value slots → to ≡ Run (code.Return slot span rest) more
      → Ended_at caller tasks to waits target slots later (given_back routine.default (Returns value))
  return_ends caller tasks to waits target slots later None span rest more None is e =
      subst (λ to. Ended_at caller tasks to waits target slots later routine.default) (sym e)
      (one_step g.tables _ _ (leaves caller tasks (Run (code.Return None span rest) more) waits target slots later None routine.default refl (not_constructor routine slots None constructor ∙ map_none routine.default slots)))
  return_ends caller tasks to waits target slots later (Some slot) span rest more (Some value) is e =
      subst (λ to. Ended_at caller tasks to waits target slots later (option_map (λ unused. value) routine.default)) (sym e)
      (one_step g.tables _ _ (leaves caller tasks (Run (code.Return (Some slot) span rest) more) waits target slots later (Some slot) (option_map (λ unused. value) routine.default) refl (not_constructor routine slots (Some slot) constructor ∙ map_some routine.default slots slot value is)))
  return_ends caller tasks to waits target slots later None span rest more (Some value) is e = absurd is
  return_ends caller tasks to waits target slots later (Some slot) span rest more None is e = absurd is

  -- where the body has completed, the frame ends
  frame_ends : (caller : Frame) (tasks to : Tasks) (waits : List Held) (target : Option ℕ) (slots : List Held) (later : Now) (completion : Completion) → Follows g completion Empty Empty slots to → Ended_at caller tasks to waits target slots later (given_back routine.default completion)
  frame_ends caller tasks to waits target slots later Normal e = empty_ends caller tasks to waits target slots later e
  frame_ends caller tasks to waits target slots later Breaks e = empty_ends caller tasks to waits target slots later e
  frame_ends caller tasks to waits target slots later Continues e = empty_ends caller tasks to waits target slots later e
  frame_ends caller tasks to waits target slots later (Returns value) r = return_ends caller tasks to waits target slots later r.slot r.span r.rest r.tasks value r.returned r.there

  -- a body that is kept, in a frame of its own
  body_comes_back : (caller : Frame) (tasks : Tasks) (waits : List Held) (target : Option ℕ) (begin end : Body) (start : State) (slots : List Held) (now inner : Now) → inner.events ≡ now.events → (r : Ended Completion)
      → AlongWith g (called_frame g.tables g.depth number caller tasks waits target) start Empty Empty g.depth begin end slots inner r
      → GoesBack g.tables g.depth start caller tasks waits target now (back now.variables (go_on (λ end. gives (given_back routine.default end)) r))
  body_comes_back caller tasks waits target begin end start slots now inner same (Gives completion later) a =
      record {
        shows = a.shows ++ [];
        leads = both g.tables start _ _ a.shows [] a.leads (frame_ends caller tasks a.to waits target a.behind later completion a.follows);
        events = a.events ∙ ap (λ es. es ++ a.shows) same ∙ ap (λ es. now.events ++ es) (sym (append-nil a.shows));
        variables = refl;
      }
  body_comes_back caller tasks waits target begin end start slots now inner same (Stops ending later) a =
      record { final = a.final; shows = a.shows; leads = a.leads; ended = a.ended; wrapped = a.wrapped; events = a.events ∙ ap (λ es. es ++ a.shows) same }
  body_comes_back caller tasks waits target begin end start slots now inner same (Cuts later) a =
      record { state = a.state; shows = a.shows; leads = a.leads; far = a.far; ended = a.ended; wrapped = a.wrapped; events = a.events ∙ ap (λ es. es ++ a.shows) same }

  enough_slots : (count : ℕ) (values : List Held) → count ≤ length (slots_with count values)
  enough_slots count values =
      let e = length-append values (replicate (count - length values) (Num (pos 0))) in
      let f = length-replicate (count - length values) (Num (pos 0)) in
      omega (arith, e, f)

  -- A method whose body is kept runs as the source says.
  pub method_runs : (is_static : Bool) (begin end : Body) (n : ℕ) (action : Action Completion) (x : Runs g begin end n action) → routine.body ≡ code_before x.items End → end.most ≤ routine.slots
      → ((given : List Held) (now : Now) → Stands g begin (slots_with routine.slots (first_slots g.tables g.depth is_static g.this given)) (with_variables (variables g.this given) now))
      → RunsMethod g.tables g.depth number is_static (λ this given. with_own (variables this given) (action >>= (λ end. gives (given_back routine.default end)))) g.this
  method_runs is_static begin end n action x body most stands caller tasks waits target given now decides =
      let slots = slots_with routine.slots (first_slots g.tables g.depth is_static g.this given) in
      let inner = with_variables (variables g.this given) now in
      let f = called_frame g.tables g.depth number caller tasks waits target in
      let enough = enough_slots routine.slots (first_slots g.tables g.depth is_static g.this given) in
      subst (λ c. GoesBack g.tables g.depth (at f (code_then c Empty) slots now.heap now.wrapped) caller tasks waits target now (back now.variables (go_on (λ end. gives (given_back routine.default end)) (action inner)))) (sym body)
      (body_comes_back caller tasks waits target begin end (at f (code_then (code_before x.items End) Empty) slots now.heap now.wrapped) slots now inner refl (action inner)
      (x.does f End Empty slots inner (omega (arith, most, enough)) (stands given now) (subst (λ c. Decides g.tables (at f (code_then c Empty) slots now.heap now.wrapped)) body decides)))

-- ---- constructors: the frame comes back with the object

module _ (g : Ground) (number : ℕ) (constructor : (g.tables.routines number).constructor ≡ true) (has : g.has_this ≡ true) where
  object_of : (slots : List Held) (returned : Option ℕ) → value_at slots 0 ≡ g.this → result_of (g.tables.routines number) slots returned ≡ Some g.this
  object_of slots returned is =
      ap (λ b. if b then Some (value_at slots 0) else option_map (λ default. returned_or default slots returned) (g.tables.routines number).default) constructor ∙ ap Some is

  abbrev Object_at : Frame → Tasks → Tasks → List Held → Option ℕ → List Held → Now → Type 0
  Object_at caller tasks to waits target slots later =
      Leads g.tables (at (called_frame g.tables g.depth number caller tasks waits target) to slots later.heap later.wrapped) [] (at caller tasks (set_target target (Some g.this) waits) later.heap later.wrapped)

  object_back : (caller : Frame) (tasks to : Tasks) (waits : List Held) (target : Option ℕ) (slots : List Held) (later : Now) → value_at slots 0 ≡ g.this → to ≡ Empty → Object_at caller tasks to waits target slots later
  object_back caller tasks to waits target slots later is e = subst (λ to. Object_at caller tasks to waits target slots later) (sym e) (one_step g.tables _ _ (ap (λ r. at caller tasks (set_target target r waits) later.heap later.wrapped) (object_of slots None is)))

  object_ends : (caller : Frame) (tasks to : Tasks) (waits : List Held) (target : Option ℕ) (slots : List Held) (later : Now) → value_at slots 0 ≡ g.this → (completion : Completion) → Follows g completion Empty Empty slots to → Object_at caller tasks to waits target slots later
  object_ends caller tasks to waits target slots later is Normal e = object_back caller tasks to waits target slots later is e
  object_ends caller tasks to waits target slots later is Breaks e = object_back caller tasks to waits target slots later is e
  object_ends caller tasks to waits target slots later is Continues e = object_back caller tasks to waits target slots later is e
  object_ends caller tasks to waits target slots later is (Returns value) r =
      subst (λ to. Object_at caller tasks to waits target slots later) (sym r.there) (one_step g.tables _ _ (ap (λ r. at caller tasks (set_target target r waits) later.heap later.wrapped) (object_of slots r.slot is)))

  constructor_comes_back : (caller : Frame) (tasks : Tasks) (waits : List Held) (target : Option ℕ) (begin end : Body) (start : State) (slots : List Held) (now inner : Now) → inner.events ≡ now.events → (r : Ended Completion)
      → AlongWith g (called_frame g.tables g.depth number caller tasks waits target) start Empty Empty g.depth begin end slots inner r
      → GoesBack g.tables g.depth start caller tasks waits target now (back now.variables (go_on (λ end. gives (Some g.this)) r))
  constructor_comes_back caller tasks waits target begin end start slots now inner same (Gives completion later) a =
      record {
        shows = a.shows ++ [];
        leads = both g.tables start _ _ a.shows [] a.leads (object_ends caller tasks a.to waits target a.behind later (a.stands.this has).0 completion a.follows);
        events = a.events ∙ ap (λ es. es ++ a.shows) same ∙ ap (λ es. now.events ++ es) (sym (append-nil a.shows));
        variables = refl;
      }
  constructor_comes_back caller tasks waits target begin end start slots now inner same (Stops ending later) a =
      record { final = a.final; shows = a.shows; leads = a.leads; ended = a.ended; wrapped = a.wrapped; events = a.events ∙ ap (λ es. es ++ a.shows) same }
  constructor_comes_back caller tasks waits target begin end start slots now inner same (Cuts later) a =
      record { state = a.state; shows = a.shows; leads = a.leads; far = a.far; ended = a.ended; wrapped = a.wrapped; events = a.events ∙ ap (λ es. es ++ a.shows) same }

  -- A constructor whose body is kept, its start included, comes back with the object.
  pub constructor_runs : (begin end : Body) (n : ℕ) (action : Action Completion) (x : Runs g begin end n action) → (g.tables.routines number).body ≡ code_before x.items End → end.most ≤ (g.tables.routines number).slots
      → ((given : List Held) (now : Now) → Stands g begin (slots_with (g.tables.routines number).slots (g.this ∷ given)) (with_variables (variables g.this given) now))
      → RunsMethod g.tables g.depth number false (λ this given. with_own (variables this given) (action >>= (λ end. gives (Some g.this)))) g.this
  constructor_runs begin end n action x body most stands caller tasks waits target given now decides =
      let slots = slots_with (g.tables.routines number).slots (g.this ∷ given) in
      let inner = with_variables (variables g.this given) now in
      let f = called_frame g.tables g.depth number caller tasks waits target in
      let e = length-append (g.this ∷ given) (replicate ((g.tables.routines number).slots - length (g.this ∷ given)) (Num (pos 0))) in
      let l = length-replicate ((g.tables.routines number).slots - length (g.this ∷ given)) (Num (pos 0)) in
      subst (λ c. GoesBack g.tables g.depth (at f (code_then c Empty) slots now.heap now.wrapped) caller tasks waits target now (back now.variables (go_on (λ end. gives (Some g.this)) (action inner)))) (sym body)
      (constructor_comes_back caller tasks waits target begin end (at f (code_then (code_before x.items End) Empty) slots now.heap now.wrapped) slots now inner refl (action inner)
      (x.does f End Empty slots inner (omega (arith, most, e, l)) (stands given now) (subst (λ c. Decides g.tables (at f (code_then c Empty) slots now.heap now.wrapped)) body decides)))

-- ---- the caller

module _ (z : Setting) (depth : ℕ) (deep : z.depth ≤ depth + 1) where
  -- what the caller has behind the call, where it comes back
  abbrev pub Lands : {A : Type 0} → (A → List Held → Type 0) → ℕ → List Held → Now → A → List Held → Type 0
  Lands holds free slots now value behind = Agrees z behind now.variables × Keeps z free slots behind × holds value behind

  pub came_back : {A : Type 0} (finish : Option Held → A) (holds : A → List Held → Type 0) (f : Frame) (from : Tasks) (rest : Code) (tasks : Tasks) (free : ℕ) (slots : List Held) (now : Now) (start : State) (target : Option ℕ)
      → step no_limits z.tables (at f from slots now.heap now.wrapped) ≡ start → step_seen (at f from slots now.heap now.wrapped) ≡ [] → Decides z.tables (at f from slots now.heap now.wrapped)
      → (r : Ended (Option Held)) → ((later : Now) (result : Option Held) → r ≡ Gives result later → Lands holds free slots now (finish result) (set_target target result slots))
      → (Decides z.tables start → GoesBack z.tables depth start f (code_then rest tasks) slots target now r)
      → Along z f (at f from slots now.heap now.wrapped) (λ value. code_then rest tasks) holds free slots now (go_on (λ result. gives (finish result)) r)
  came_back finish holds f from rest tasks free slots now start target steps none decides r lands runs = back_again r lands (runs (decides_from z.tables (at f from slots now.heap now.wrapped) start [] one decides))
    where
      one : Leads z.tables (at f from slots now.heap now.wrapped) [] start
      one = record { steps = 1; there = steps; shown = append-nil (step_seen (at f from slots now.heap now.wrapped)) ∙ none }

      back_again : (r : Ended (Option Held)) → ((later : Now) (result : Option Held) → r ≡ Gives result later → Lands holds free slots now (finish result) (set_target target result slots)) → GoesBack z.tables depth start f (code_then rest tasks) slots target now r
          → Along z f (at f from slots now.heap now.wrapped) (λ value. code_then rest tasks) holds free slots now (go_on (λ result. gives (finish result)) r)
      back_again (Gives result later) lands a =
          let (agrees, keeps, held) = lands later result refl in
          record {
            behind = set_target target result slots;
            shows = [] ++ a.shows;
            leads = both z.tables (at f from slots now.heap now.wrapped) start _ [] a.shows one a.leads;
            events = a.events;
            agrees = subst (Agrees z (set_target target result slots)) (sym a.variables) agrees;
            keeps = keeps;
            held = held;
          }
      back_again (Stops ending later) lands a =
          record { final = a.final; shows = [] ++ a.shows; leads = both z.tables (at f from slots now.heap now.wrapped) start a.final [] a.shows one a.leads; ended = a.ended; wrapped = a.wrapped; events = a.events }
      back_again (Cuts later) lands a =
          record {
            state = a.state;
            shows = [] ++ a.shows;
            leads = both z.tables (at f from slots now.heap now.wrapped) start a.state [] a.shows one a.leads;
            far = let sum = both_adds z.tables (at f from slots now.heap now.wrapped) start a.state [] a.shows one a.leads in let far = a.far in one_more sum far;
            ended = a.ended;
            wrapped = a.wrapped;
            events = a.events;
          }
        where
          one_more : {all few : ℕ} → all ≡ 1 + few → depth ≤ few → z.depth ≤ all
          one_more sum far = omega (arith, sum, far, deep)

  -- ---- where the call puts what comes back

  -- into its target
  pub lands_in : (set : IsSet z) (slots : List Held) (now : Now) (slot : ℕ) (held value : Held) → z.base ≤ slot → slot < length slots → Agrees z slots now.variables → value ≡ held → Lands (IsIn slot) slot slots now value (set_target (Some slot) (Some held) slots)
  lands_in set slots now slot held value le room agrees is = (agrees_temporary z set slots now.variables slot held le agrees, keeps_temporary z set slots slot slot held (omega arith), value_set slots slot held room ∙ sym is)

  -- nowhere
  pub lands_nowhere : {A : Type 0} (holds : A → List Held → Type 0) (free : ℕ) (slots : List Held) (now : Now) (value : A) (result : Option Held) → Agrees z slots now.variables → holds value slots → Lands holds free slots now value (set_target None result slots)
  lands_nowhere holds free slots now value result agrees held = (agrees, keeps_all z free slots, held)

  -- what a method gives back, if it has a result
  pub lands_result : (set : IsSet z) (slots : List Held) (now : Now) (slot : ℕ) (default result : Option Held) → z.base ≤ slot → slot < length slots → Agrees z slots now.variables → is_some result ≡ is_some default
      → Lands (λ value slots. is_some default ≡ true → value_at slots slot ≡ value) slot slots now (unwrap_or result (Num (pos 0))) (set_target (option_map (λ (default : Held). slot) default) result slots)
  lands_result set slots now slot None result le room agrees same = lands_nowhere (λ value slots. false ≡ true → value_at slots slot ≡ value) slot slots now (unwrap_or result (Num (pos 0))) result agrees (λ none. absurd (false≢true none))
  lands_result set slots now slot (Some default) (Some held) le room agrees same = let (a, k, h) = lands_in set slots now slot held held le room agrees refl in (a, k, (λ some. h))
  lands_result set slots now slot (Some default) None le room agrees same = absurd (false≢true same)
