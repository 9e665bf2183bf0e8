-- A run of the program that begins with a method goes along with the source's run of it.
use Rattle.std.proofs.Common.{◌≡◌, ◌≤◌, ◌<◌, ℕ, pos, true, false, List, [], ◌∷◌, ◌++◌, length, map, Option, Some, None, refl, sym, ap, subst, ◌∙◌, arith}
use Rattle.std.specs.Prelude.{unwrap_or, replicate, ◌-◌}
use Rattle.std.proofs.lemmas.List.{append-nil, length-append, length-replicate}
use Rattle.ix_text.specs.declared.span.Span.{Span}
use Rattle.ix_core.specs.declared.program.Method.{Method}
use Rattle.ix_core.specs.declared.program.Program.{Program}
use Rattle.ix_core.specs.Code.{Code, End}
use Rattle.ix_core.specs.Code as code
use Rattle.ix_core.specs.Formed.{Formed}
use Rattle.ix_core.specs.Heap.{Held, Num, Null}
use Rattle.ix_core.specs.Machine.{Ended, State, no_limits, step, slots_with, result_of, result_shown}
use Rattle.ix_core.specs.Safe as safe
use Rattle.ix_core.specs.Safe.{Input, input_values, input_heap}
use Rattle.ix_core.specs.Tables as core
use Rattle.ix_core.specs.Tables.{method_at, no_method, tables_of}
use Rattle.ix_core.specs.Tasks.{Tasks, Empty, Run, code_then}
use Rattle.ix_tree.specs.declared.decl.LocalDecl.{LocalDecl}
use Rattle.ix_tree.specs.declared.decl.Unit.{Unit as Source}
use Rattle.ix_meaning.specs.Resolved.{Names, names}
use Rattle.ix_plain.specs.declared.body.Body.{Body}
use Rattle.ix_plain.specs.Members.{first_numbers}
use Rattle.ix_plain.specs.Program.{tables}
use Rattle.ix_formed.specs.Shape.{types_of}
use Rattle.ix_formed.proofs.FieldsFit.{IsAccepted}
use Rattle.ix_formed.proofs.ProgramsHaveShape.{types_behind}
use Rattle.ix_source.specs.Runs.{Now, Result, Gives, Stops, Cuts, go_on, gives, with_variables}
use Rattle.ix_source.specs.Context.{type_declared}
use Rattle.ix_source.specs.Statements.{Completion, Normal, Breaks, Continues, Returns, each}
use Rattle.ix_source.specs.Bodies.{Whole, Written, name_of, whole, written, members, static_of, variables, back, given_back, method_run, context_of, calls_within}
use Rattle.ix_source.specs.Source as source
use Rattle.ix_source.specs.Source.{shown_by, begun}
use Rattle.ix_source.specs.Seen.{Leads, Frame, at, Decides}
use Rattle.ix_source.specs.Kept.{code_before}
use Rattle.ix_source.specs.Called.{first_slots}
use Rattle.ix_source.specs.SoundStatements.{AssignsOwn}
use Rattle.ix_source.specs.Running.{Ground, Stands, AlongWith, Follows, IsReturned}
use Rattle.ix_source.proofs.Paths.{both, one_step}
use Rattle.ix_source.specs.Whole.{Meets}
use Rattle.ix_source.specs.ByNumber.{AllClasses}
use Rattle.ix_source.specs.SoundBodies.{IsSoundMethod, IsSoundDefault}
use Rattle.ix_source.proofs.Calls.{not_constructor, map_none, map_some}
use Rattle.ix_source.proofs.Depths.{declared, body_kept, below_of, one_below, callees_run}
use Rattle.ix_source.proofs.FieldStarts.{type_same}

-- ---- the first frame ends

module _ (g : Ground) (number : ℕ) (constructor : (g.tables.routines number).constructor ≡ false) where
  abbrev routine : core.Routine
  routine = g.tables.routines number

  abbrev first : Frame
  first = record { method = number; below = [] }

  abbrev Final : Tasks → List Held → Now → Option Held → Type 0
  Final to slots later result = Leads g.tables (at first to slots later.heap later.wrapped) [] (record (at first to slots later.heap later.wrapped) { ended = Some (Ended (result_shown later.heap result)) })

  stops_with : (to : Tasks) (slots : List Held) (later : Now) (returned : Option ℕ) (result : Option Held)
      → step no_limits g.tables (at first to slots later.heap later.wrapped) ≡ record (at first to slots later.heap later.wrapped) { ended = Some (Ended (result_shown later.heap (result_of routine slots returned))) } → result_of routine slots returned ≡ result
      → step no_limits g.tables (at first to slots later.heap later.wrapped) ≡ record (at first to slots later.heap later.wrapped) { ended = Some (Ended (result_shown later.heap result)) }
  stops_with to slots later returned result e is = e ∙ ap (λ r. record (at first to slots later.heap later.wrapped) { ended = Some (Ended (result_shown later.heap r)) }) is

  empty_final : (to : Tasks) (slots : List Held) (later : Now) → to ≡ Empty → Final to slots later routine.default
  empty_final to slots later e =
      subst (λ to. Final to slots later routine.default) (sym e)
      (one_step g.tables _ _ (stops_with Empty slots later None routine.default refl (not_constructor routine slots None constructor ∙ map_none routine.default slots)))

  return_final : (to : Tasks) (slots : List Held) (later : Now) (slot : Option ℕ) (span : Span) (rest : Code) (more : Tasks) (value : Option Held) → IsReturned g slot value slots → to ≡ Run (code.Return slot span rest) more → Final to slots later (given_back routine.default (Returns value))
  return_final to slots later None span rest more None is e =
      subst (λ to. Final to slots later routine.default) (sym e)
      (one_step g.tables _ _ (stops_with (Run (code.Return None span rest) more) slots later None routine.default refl (not_constructor routine slots None constructor ∙ map_none routine.default slots)))
  return_final to slots later (Some slot) span rest more (Some value) is e =
      subst (λ to. Final to slots later (given_back routine.default (Returns (Some value)))) (sym e)
      (one_step g.tables _ _ (stops_with (Run (code.Return (Some slot) span rest) more) slots later (Some slot) (given_back routine.default (Returns (Some value))) refl (not_constructor routine slots (Some slot) constructor ∙ map_some routine.default slots slot value is)))
  return_final to slots later None span rest more (Some value) is e = absurd is
  return_final to slots later (Some slot) span rest more None is e = absurd is

  first_final : (to : Tasks) (slots : List Held) (later : Now) (completion : Completion) → Follows g completion Empty Empty slots to → Final to slots later (given_back routine.default completion)
  first_final to slots later Normal e = empty_final to slots later e
  first_final to slots later Breaks e = empty_final to slots later e
  first_final to slots later Continues e = empty_final to slots later e
  first_final to slots later (Returns value) r = return_final to slots later r.slot r.span r.rest r.tasks value r.returned r.there

  -- A kept body in the first frame meets what the source shows.
  pub body_meets : (begin last : Body) (start : State) (slots : List Held) (inner now : Now) (shows : ℕ → source.Shown) (n : ℕ) → inner.events ≡ [] → g.depth ≡ n → (r : Result Completion)
      → AlongWith g first start Empty Empty g.depth begin last slots inner r → shows n ≡ shown_by (back now.variables (go_on (λ end. gives (given_back routine.default end)) r)) → Meets g.tables start shows n (shows n).ending
  body_meets begin last start slots inner now shows n none deep (Gives completion later) a is =
      let ends = first_final a.to a.behind later completion a.follows in
      let l = both g.tables start (at first a.to a.behind later.heap later.wrapped) _ a.shows [] a.leads ends in
      subst (λ s. Meets g.tables start shows n s) (sym (ap (λ (s : source.Shown). s.ending) is))
      (record {
        steps = l.steps;
        shown = l.shown ∙ append-nil a.shows ∙ sym (a.events ∙ ap (λ es. es ++ a.shows) none) ∙ sym (ap (λ (s : source.Shown). s.events) is);
        wrapped = ap (λ (s : State). s.wrapped) l.there ∙ sym (ap (λ (s : source.Shown). s.wrapped) is);
        ended = ap (λ (s : State). s.ended) l.there;
        far = λ e. absurd (cc e);
      })
  body_meets begin last start slots inner now shows n none deep (Stops ending later) a is =
      subst (λ s. Meets g.tables start shows n s) (sym (ap (λ (s : source.Shown). s.ending) is))
      (record {
        steps = a.leads.steps;
        shown = a.leads.shown ∙ sym (a.events ∙ ap (λ es. es ++ a.shows) none) ∙ sym (ap (λ (s : source.Shown). s.events) is);
        wrapped = ap (λ (s : State). s.wrapped) a.leads.there ∙ a.wrapped ∙ sym (ap (λ (s : source.Shown). s.wrapped) is);
        ended = ap (λ (s : State). s.ended) a.leads.there ∙ a.ended;
        far = λ e. absurd (cc e);
      })
  body_meets begin last start slots inner now shows n none deep (Cuts later) a is =
      subst (λ s. Meets g.tables start shows n s) (sym (ap (λ (s : source.Shown). s.ending) is))
      (record {
        steps = a.leads.steps;
        shown = a.leads.shown ∙ sym (a.events ∙ ap (λ es. es ++ a.shows) none) ∙ sym (ap (λ (s : source.Shown). s.events) is);
        wrapped = ap (λ (s : State). s.wrapped) a.leads.there ∙ a.wrapped ∙ sym (ap (λ (s : source.Shown). s.wrapped) is);
        ended = ap (λ (s : State). s.ended) a.leads.there ∙ a.ended;
        far = λ e. let far = a.far in omega (arith, far, deep);
      })

-- the types of parameters, as lowering and the source have them
same_types : (names : Names) (ds : List LocalDecl) → types_of names ds ≡ map (λ (param : Span). type_declared (names.declared param)) (map name_of ds)
same_types names [] = refl
same_types names (d ∷ ds) = ap (λ ty. ty ∷ types_of names ds) (type_same (names.declared d.name.span)) ∙ ap (λ types. type_declared (names.declared d.name.span) ∷ types) (same_types names ds)

module _ (unit : Source) (p : Program) (is : IsAccepted unit p) (formed : Formed p) (assigns : AssignsOwn)
    (fine : AllClasses (tables (names unit) unit.classes) (IsSoundMethod p (tables (names unit) unit.classes)) (IsSoundDefault p (tables (names unit) unit.classes)) (first_numbers unit.classes) unit.classes) where
  abbrev w : Whole
  w = whole (names unit) unit.classes

  -- The machine's run of a static method meets the source's, with n turns and n nested calls, for each n.
  pub entry_meets : (number : ℕ) → number < length w.methods → (method_at p number).constructor ≡ false → (members w).is_static number ≡ true → (inputs : List Input) → Decides (tables_of p) (safe.start p number inputs)
      → (n : ℕ) → Meets (tables_of p) (safe.start p number inputs) (λ n. source.source unit number inputs n) n (source.source unit number inputs n).ending
  entry_meets number lt plain static inputs decides n =
      let run = callees_run unit p is formed assigns fine n n (omega arith) in
      let calls = calls_within w n n in
      let ctx = context_of w n calls in
      let d = declared unit p is formed assigns fine number lt in
      let m = written d.next.class d.decl in
      let b = body_kept unit p is formed assigns fine n n (below_of unit p is formed assigns fine n) (omega arith) (one_below unit p is formed assigns fine n) calls run number lt plain Null in
      let g : Ground = record { tables = tables_of p; site = b.own; has_this = b.has_this; this = Null; depth = n } in
      let given = input_values 0 inputs in
      let now = begun (names unit) (Some m) inputs in
      let inner = with_variables (variables Null given) now in
      let slots = slots_with ((tables_of p).routines number).slots given in
      let f : Frame = record { method = number; below = [] } in
      let heap : (method_at p number).param_types ≡ source.types_of (names unit) (Some m) =
      ap (λ (o : Option Method). (unwrap_or o no_method).param_types) d.there ∙ ap (λ (x : Method). x.param_types) d.is.same ∙ types_behind (names unit) [] d.decl.params ∙ same_types (names unit) d.decl.params in
      let begins : safe.start p number inputs ≡ at f (code_then (code_before b.runs.items End) Empty) slots now.heap now.wrapped =
      ap (λ (c : Code). at f (code_then c Empty) slots (input_heap inputs (method_at p number).param_types) false) b.code ∙ ap (λ types. at f (code_then (code_before b.runs.items End) Empty) slots (input_heap inputs types) false) heap in
      let is_static : m.is_static ≡ true = sym (ap static_of d.means) ∙ static in
      let stands = subst (λ static. Stands g b.begin (slots_with ((tables_of p).routines number).slots (first_slots (tables_of p) n static Null given)) inner) is_static (b.stands given now) in
      let enough : b.last.most ≤ length slots = (let a = length-append given (replicate (((tables_of p).routines number).slots - length given) (Num (pos 0))) in
      let c = length-replicate (((tables_of p).routines number).slots - length given) (Num (pos 0)) in let most = b.most in omega (arith, a, c, most)) in
      subst (λ start. Meets (tables_of p) start (λ n. source.source unit number inputs n) n (source.source unit number inputs n).ending) (sym begins)
      (body_meets g number plain b.begin b.last (at f (code_then (code_before b.runs.items End) Empty) slots now.heap now.wrapped) slots inner now (λ n. source.source unit number inputs n) n refl refl (each m.body ctx 0 inner)
      (b.runs.does f End Empty slots inner enough stands (subst (Decides (tables_of p)) begins decides))
      (ap (λ (o : Option Written). shown_by (method_run ctx o Null given (begun (names unit) o inputs))) d.means
      ∙ ap (λ default. shown_by (back now.variables (go_on (λ end. gives (given_back default end)) (each m.body ctx 0 inner)))) (sym b.default)))
