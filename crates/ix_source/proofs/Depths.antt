-- Every method and constructor of an accepted source's program runs as the source says, however deep calls nest: by recursion on the depth.
use Rattle.std.proofs.Common.{◌≡◌, ◌≤◌, ◌<◌, ⊎_elim, ℕ, zero, suc, ◌+◌, Bool, true, false, List, [], length, map, Option, Some, None, Ok, Err, Result, refl, sym, ap, subst, ◌∙◌, arith}
use Rattle.std.specs.Prelude.{◌&&◌, not, if◌then◌else◌, nat_lt, is_some, slice_get, unwrap_or}
use Rattle.std.proofs.lemmas.Bool.{false≢true}
use Rattle.std.proofs.lemmas.Bool.Decides.{nat_tests}
use Rattle.std.proofs.lemmas.List.{append-nil}
use Rattle.ix_text.specs.declared.span.Span.{Span}
use Rattle.ix_core.specs.declared.program.Method.{Method}
use Rattle.ix_core.specs.declared.program.Program.{Program}
use Rattle.ix_core.specs.Code.{End}
use Rattle.ix_core.specs.Formed.{Formed}
use Rattle.ix_core.specs.Heap.{Held}
use Rattle.ix_core.specs.Tables as core
use Rattle.ix_core.specs.Tables.{method_at, no_method, default_result, routine_of, tables_of, found_method}
use Rattle.ix_tree.specs.declared.decl.ClassDecl.{ClassDecl}
use Rattle.ix_tree.specs.declared.decl.MethodDecl.{MethodDecl}
use Rattle.ix_tree.specs.declared.decl.Unit.{Unit as Source}
use Rattle.ix_tree.specs.declared.expr.Expr.{Expr}
use Rattle.ix_meaning.specs.Resolved.{names}
use Rattle.ix_plain.specs.declared.body.Body.{Body}
use Rattle.ix_plain.specs.Members.{first_numbers, constructors, heads, is_static, slot_behind, constructor_in}
use Rattle.ix_plain.specs.Parts.{Within, ◌>>=◌ as ◌then◌}
use Rattle.ix_plain.specs.Program as program
use Rattle.ix_plain.specs.Program.{Tables, Home, tables, home, site, start, written_head, default_head, first_param}
use Rattle.ix_plain.specs.Scope.{Site, constructor_at}
use Rattle.ix_plain.specs.Statements as plain
use Rattle.ix_plain.specs.Statements.{statement}
use Rattle.ix_formed.specs.Shape.{field_count}
use Rattle.ix_plain.specs.Counts.{most_counted}
use Rattle.ix_formed.proofs.FieldsFit.{IsAccepted}
use Rattle.ix_formed.proofs.NumberLists.{both_true}
use Rattle.ix_source.specs.Runs.{Variables, Now, Result as Ended, Gives, Stops, Cuts, Action, ◌>>=◌, go_on, gives, with_variables}
use Rattle.ix_source.specs.Context.{Context, Calls, declared_at}
use Rattle.ix_source.specs.Values.{evaluation}
use Rattle.ix_source.specs.Statements as source
use Rattle.ix_source.specs.Statements.{Completion, Returns, execution, each, normally}
use Rattle.ix_source.specs.Bodies as bodies
use Rattle.ix_source.specs.Bodies.{Whole, Written, Class, fields_in, parent_constructed, fields_initialised, whole, written, members, variables, back, with_own, given_back, method_run, construct_run, context_of, no_calls, calls_within}
use Rattle.ix_source.specs.Seen.{at}
use Rattle.ix_source.specs.Kept.{Makes, code_before}
use Rattle.ix_source.specs.Called.{GoesBack, RunsMethod, entered, first_slots}
use Rattle.ix_source.specs.Running.{Ground, Stands, Runs}
use Rattle.ix_core.specs.Machine.{slots_with}
use Rattle.ix_source.specs.SoundStatements.{AssignsOwn, where_made, statement_soundness, each_sound}
use Rattle.ix_source.proofs.Made.{block_is}
use Rattle.ix_source.proofs.Paths.{here}
use Rattle.ix_source.proofs.Expressions.{and_first, and_second}
use Rattle.ix_source.specs.Grounds.{IsGround, placed}
use Rattle.ix_source.proofs.FullExpressions.{rooted_behind}
use Rattle.ix_source.proofs.Statements.{runs_both}
use Rattle.ix_source.proofs.StatementsKept.{statements_kept}
use Rattle.ix_source.specs.ByNumber.{AllClasses, IsDeclared, IsWrittenConstructor, IsDefaultConstructor}
use Rattle.ix_source.proofs.AcceptedTables.{method_declared, class_declared, method_routine, default_routine, is_static_same, heads_count, static_of_declared, constructors_count, parent_there}
use Rattle.ix_source.proofs.MethodsFound.{found_same, found_written, found_kind, found_gives}
use Rattle.ix_source.proofs.PlacesOfFields.{place_same, fresh_same}
use Rattle.ix_source.specs.Callees.{AreMembers, CalleesRun, with_object}
use Rattle.ix_source.specs.Sound.{is_method, is_class}
use Rattle.ix_source.specs.SoundBodies.{IsSoundMethod, IsSoundDefault, start_sound, begins_sound}
use Rattle.ix_source.proofs.Calls.{method_runs, constructor_runs}
use Rattle.ix_source.proofs.CallsKept.{calls_kept}
use Rattle.ix_source.proofs.Entries.{entry_stands, entry_rooted}
use Rattle.ix_source.proofs.FieldStarts.{started, start_runs, type_same}

-- ---- what is said of results

made_is : {A E : Type 0} (P : A → Type 0) (r : Result A E) (made : A) → Makes P r → r ≡ Ok made → P made
made_is P r made p e = subst (Makes P) e p

-- A method that runs in the same way runs.
runs_as_method : (t : core.Tables) (depth number : ℕ) (static : Bool) (invoke other : Held → List Held → Action (Option Held)) (this : Held) → ((given : List Held) (now : Now) → invoke this given now ≡ other this given now)
    → RunsMethod t depth number static invoke this → RunsMethod t depth number static other this
runs_as_method t depth number static invoke other this same runs caller tasks slots target given now decides =
    subst (λ r. GoesBack t depth (entered t depth number caller tasks slots target (first_slots t depth static this given) now) caller tasks slots target now r) (same given now) (runs caller tasks slots target given now decides)

-- what is cut at once
cut_runs : (t : core.Tables) (number : ℕ) (static : Bool) (invoke : Held → List Held → Action (Option Held)) (this : Held) → ((given : List Held) (now : Now) → Cuts now ≡ invoke this given now) → RunsMethod t 0 number static invoke this
cut_runs t number static invoke this same = runs_as_method t 0 number static (λ this given now. Cuts now) invoke this same
    (λ caller tasks slots target given now decides. record { state = entered t 0 number caller tasks slots target (first_slots t 0 static this given) now; shows = []; leads = here t _; far = omega arith; ended = refl; wrapped = refl; events = sym (append-nil now.events) })

-- A method gives something back where its result has a default.
back_gives : (default : Option Held) (end : Completion) → is_some (given_back default end) ≡ is_some default
back_gives None source.Normal = refl
back_gives None source.Breaks = refl
back_gives None source.Continues = refl
back_gives None (Returns None) = refl
back_gives None (Returns (Some value)) = refl
back_gives (Some default) source.Normal = refl
back_gives (Some default) source.Breaks = refl
back_gives (Some default) source.Continues = refl
back_gives (Some default) (Returns None) = refl
back_gives (Some default) (Returns (Some value)) = refl

run_gives : (context : Context) (m : Written) (default : Option Held) → default ≡ default_result (declared_at context m.name) → (this : Held) (given : List Held) (now later : Now) (result : Option Held) → method_run context (Some m) this given now ≡ Gives result later → is_some result ≡ is_some default
run_gives context m default is this given now later result = by_body (each m.body context 0 (with_variables (variables this given) now))
  where
    given_is : (gave : Option Held) (last : Now) → Gives gave last ≡ Gives result later → gave ≡ result
    given_is gave last e = cc e

    by_body : (r : Ended Completion) → back now.variables (go_on (λ end. gives (given_back (default_result (declared_at context m.name)) end)) r) ≡ Gives result later → is_some result ≡ is_some default
    by_body (Gives end last) e = ap is_some (sym (given_is (given_back (default_result (declared_at context m.name)) end) (with_variables now.variables last) e)) ∙ back_gives (default_result (declared_at context m.name)) end ∙ ap is_some (sym is)
    by_body (Stops ending last) e = absurd (cc e)
    by_body (Cuts last) e = absurd (cc e)

back_object : (o : Held) (v : Variables) (r : Ended (Unit {0})) → go_on (with_object o) (back v r) ≡ back v (go_on (with_object o) r)
back_object o v (Gives done now) = refl
back_object o v (Stops ending now) = refl
back_object o v (Cuts now) = refl

-- A constructor is its three parts, one behind the other.
constructed_same : (o : Held) (first second : Action (Unit {0})) (third : Action Completion) (now : Now)
    → go_on (λ end. gives (Some o)) ((((first >>= (λ done. second)) >>= normally) >>= (λ end. source.behind end third)) now) ≡ go_on (with_object o) ((first >>= (λ a. second >>= (λ b. third >>= (λ end. gives tt)))) now)
constructed_same o first second third now = at_first (first now)
  where
    at_third : (r : Ended Completion) → go_on (λ end. gives (Some o)) r ≡ go_on (with_object o) (go_on (λ end. gives tt) r)
    at_third (Gives end now) = refl
    at_third (Stops ending now) = refl
    at_third (Cuts now) = refl

    at_second : (r : Ended (Unit {0})) → go_on (λ end. gives (Some o)) (go_on (λ end. source.behind end third) (go_on normally r)) ≡ go_on (with_object o) (go_on (λ b. third >>= (λ end. gives tt)) r)
    at_second (Gives done now) = at_third (third now)
    at_second (Stops ending now) = refl
    at_second (Cuts now) = refl

    at_first : (r : Ended (Unit {0})) → go_on (λ end. gives (Some o)) (go_on (λ end. source.behind end third) (go_on normally (go_on (λ done. second) r))) ≡ go_on (with_object o) (go_on (λ a. second >>= (λ b. third >>= (λ end. gives tt))) r)
    at_first (Gives done now) = at_second (second now)
    at_first (Stops ending now) = refl
    at_first (Cuts now) = refl

-- without a written body
default_same : (o : Held) (first second : Action (Unit {0})) (now : Now) → go_on (λ end. gives (Some o)) (((first >>= (λ done. second)) >>= normally) now) ≡ go_on (with_object o) ((first >>= (λ a. second >>= (λ b. gives source.Normal >>= (λ end. gives tt)))) now)
default_same o first second now = at_first (first now)
  where
    at_second : (r : Ended (Unit {0})) → go_on (λ end. gives (Some o)) (go_on normally r) ≡ go_on (with_object o) (go_on (λ b. gives source.Normal >>= (λ end. gives tt)) r)
    at_second (Gives done now) = refl
    at_second (Stops ending now) = refl
    at_second (Cuts now) = refl

    at_first : (r : Ended (Unit {0})) → go_on (λ end. gives (Some o)) (go_on normally (go_on (λ done. second) r)) ≡ go_on (with_object o) (go_on (λ a. second >>= (λ b. gives source.Normal >>= (λ end. gives tt))) r)
    at_first (Gives done now) = at_second (second now)
    at_first (Stops ending now) = refl
    at_first (Cuts now) = refl

same_args : (args : Option (List Expr)) → program.args_or_none args ≡ bodies.or_none args
same_args None = refl
same_args (Some args) = refl

-- a method that is no constructor begins with its body
plain_start : (b : Bool) → b ≡ false → (site : Site) (home : Home) (args : List Expr) (span : Span) (body : Body) (next : Body → Within Body) (last : Body) → ((if b then program.constructor_start site home args span body else Ok body) then next) ≡ Ok last → next body ≡ Ok last
plain_start false e site home args span body next last made = made
plain_start true e site home args span body next last made = absurd (false≢true (sym e))

plain_sound : (b : Bool) → b ≡ false → (site : Site) (home : Home) (args : List Expr) (span : Span) (body : Body) (begins : Bool) (so : Body → Bool) → (begins && where_made (if b then program.constructor_start site home args span body else Ok body) so) ≡ true → so body ≡ true
plain_sound false e site home args span body begins so sound = and_second begins (so body) sound
plain_sound true e site home args span body begins so sound = absurd (false≢true (sym e))

constructor_made : (b : Bool) → b ≡ true → (site : Site) (home : Home) (args : List Expr) (span : Span) (body : Body) (next : Body → Within Body) (last : Body) → ((if b then program.constructor_start site home args span body else Ok body) then next) ≡ Ok last
    → (program.constructor_start site home args span body then next) ≡ Ok last
constructor_made true e site home args span body next last made = made
constructor_made false e site home args span body next last made = absurd (false≢true e)

constructor_sound : (b : Bool) → b ≡ true → (site : Site) (home : Home) (args : List Expr) (span : Span) (body : Body) (begins : Bool) (so : Body → Bool) → ((if b then begins else true) && where_made (if b then program.constructor_start site home args span body else Ok body) so) ≡ true
    → (begins && where_made (program.constructor_start site home args span body) so) ≡ true
constructor_sound true e site home args span body begins so sound = sound
constructor_sound false e site home args span body begins so sound = absurd (false≢true e)

-- what was made before the last
parts_made : {A B : Type 0} (r : Within A) (next : A → Within B) (last : B) → (r then next) ≡ Ok last → (middle : A) × (r ≡ Ok middle) × (next middle ≡ Ok last)
parts_made (Ok middle) next last e = (middle, refl, e)
parts_made (Err limit) next last e = absurd (cc e)

static_false : (static constructor : Bool) → constructor ≡ true → (static && not constructor) ≡ false
static_false true true e = refl
static_false false true e = refl
static_false static false e = absurd (false≢true e)

-- ---- of an accepted source

module _ (unit : Source) (p : Program) (is : IsAccepted unit p) (formed : Formed p) (assigns : AssignsOwn)
    (fine : AllClasses (tables (names unit) unit.classes) (IsSoundMethod p (tables (names unit) unit.classes)) (IsSoundDefault p (tables (names unit) unit.classes)) (first_numbers unit.classes) unit.classes) where
  abbrev pub t : Tables
  t = tables (names unit) unit.classes

  abbrev pub w : Whole
  w = whole (names unit) unit.classes

  abbrev pub Q : Home → MethodDecl → Type 0
  Q at decl = IsSoundMethod p (tables (names unit) unit.classes) at decl

  abbrev pub R : Home → Span → Type 0
  R at span = IsSoundDefault p (tables (names unit) unit.classes) at span

  -- what all bodies of the source stand in
  abbrev pub shared : Site
  shared = record { names = names unit; heads = heads unit.classes; constructors = constructors unit.classes; class = 0; params = []; answers = false }

  pub declared : (number : ℕ) → number < length w.methods → IsDeclared t Q R p.methods w.signatures w.methods number
  declared number lt = method_declared unit p is Q R fine number lt

  low : (number : ℕ) → is_method (tables_of p) shared number ≡ true → number < length w.methods
  low number e =
      let a = and_first (nat_lt number (length (heads unit.classes))) (not (method_at p number).constructor) e in
      let lt : number < length (heads unit.classes) = grind (arith, nat_tests) in
      let c = heads_count unit p is in omega (arith, lt, c)

  plain_method : (number : ℕ) → is_method (tables_of p) shared number ≡ true → (method_at p number).constructor ≡ false
  plain_method number e = not_true (method_at p number).constructor (and_second (nat_lt number (length (heads unit.classes))) (not (method_at p number).constructor) e)
    where
      not_true : (b : Bool) → not b ≡ true → b ≡ false
      not_true true e = absurd (false≢true e)
      not_true false e = refl

  are_methods : (number : ℕ) → number < length w.methods → (method_at p number).constructor ≡ false → is_method (tables_of p) shared number ≡ true
  are_methods number lt plain =
      let c = heads_count unit p is in
      let less : number < length (heads unit.classes) = omega (arith, lt, c) in
      both_true (nat_lt number (length (heads unit.classes))) (not (method_at p number).constructor) (grind (arith, nat_tests)) (ap not plain)

  -- Lowering and the machine see what the source says.
  pub are_members : AreMembers (tables_of p) shared (members w)
  are_members = record {
    is_static = λ number e. is_static_same unit p is shared refl number;
    found = λ class named e. found_same unit p is class named (low named e);
    found_method = λ class named e. are_methods (found_method p class named) (found_written unit p is class named (low named e)) ((found_kind unit p is formed class named).constructor ∙ plain_method named e);
    found_static = λ class named e.
        static_of_declared unit p is Q R fine (found_method p class named) (found_written unit p is class named (low named e)) ∙ (found_kind unit p is formed class named).static ∙ sym (static_of_declared unit p is Q R fine named (low named e));
    found_gives = λ class named e. found_gives unit p is formed class named;
    fresh = fresh_same unit p is;
    place = sym (place_same unit p is);
  }

  -- ---- bodies, where calls of less depth run

  module _ (turns depth below : ℕ) (le : depth ≤ turns) (deep : depth ≤ below + 1) (calls : Calls) (run : CalleesRun (tables_of p) shared (members w) below calls) where
    abbrev pub ctx : Context
    ctx = context_of w turns calls

    abbrev pub ground : Site → Bool → Held → Ground
    ground own has_this this = record { tables = tables_of p; site = own; has_this = has_this; this = this; depth = depth }

    runs_again : (at : Home) (head : Method) → CalleesRun (tables_of p) (site t at head) (members w) below calls
    runs_again at head = record { method = run.method; gives_back = run.gives_back; construct = run.construct }

    members_again : (at : Home) (head : Method) → AreMembers (tables_of p) (site t at head) (members w)
    members_again at head = record {
      is_static = are_members.is_static;
      found = are_members.found;
      found_method = are_members.found_method;
      found_static = are_members.found_static;
      found_gives = are_members.found_gives;
      fresh = are_members.fresh;
      place = are_members.place;
    }

    is_ground : (at : Home) (head : Method) (has_this : Bool) (this : Held) → IsGround (ground (site t at head) has_this this) (members w) calls turns
    is_ground at head has_this this = record {
      places = are_members.place;
      calls_kept = λ body assigned owner set. calls_kept (placed (ground (site t at head) has_this this) (members w) calls turns body assigned owner) set (members w) calls turns below deep (members_again at head) (runs_again at head);
      deep = le;
      assigns = assigns;
    }

    -- The body of a written method is kept, from its entry on.
    pub record BodyRuns (number : ℕ) (m : Written) (this : Held) : Type 0 where
      pub own : Site
      pub has_this : Bool
      pub begin : Body
      pub last : Body
      pub count : ℕ
      pub runs : Runs (ground own has_this this) begin last count (each m.body ctx 0)
      pub code : ((tables_of p).routines number).body ≡ code_before runs.items End
      pub most : last.most ≤ ((tables_of p).routines number).slots
      pub default : ((tables_of p).routines number).default ≡ default_result (declared_at ctx m.name)
      pub stands : (given : List Held) (now : Now) → Stands (ground own has_this this) begin (slots_with ((tables_of p).routines number).slots (first_slots (tables_of p) depth m.is_static this given)) (with_variables (variables this given) now)

    pub body_kept : (number : ℕ) (lt : number < length w.methods) → (method_at p number).constructor ≡ false → (this : Held) → BodyRuns number (written (declared number lt).next.class (declared number lt).decl) this
    body_kept number lt plain_is this =
        let d = declared number lt in
        let at = home t d.next d.class in
        let decl = d.decl in
        let head = written_head t at decl in
        let own = site t at head in
        let g = ground own (not (is_static decl)) this in
        let args = program.args_or_none decl.parent_args in
        let free = slot_behind (first_param (is_static decl)) decl.params in
        let routine = ap (λ (o : Option Method). routine_of (unwrap_or o no_method)) d.there ∙ method_routine t at decl d.method d.is in
        let not_constructor : decl.constructor ≡ false = sym (ap (λ (r : core.Routine). r.constructor) routine) ∙ plain_is in
        let made = plain_start decl.constructor not_constructor own at args decl.name.span (start free) (plain.each (map statement decl.body) own decl.span.to) d.is.body d.is.made in
        let sound = plain_sound decl.constructor not_constructor own at args decl.name.span (start free) (begins_sound at decl g (start free)) (each_sound (map statement_soundness decl.body) g decl.span.to) (d.fine.sound g (record { site = refl; results = λ number. (refl, refl); this = λ has. has })) in
        let rooted = entry_rooted (tables_of p) own this depth (is_static decl) (length decl.params) free d.fine.entry in
        let x : Runs g (start free) d.is.body (source.all_declare (map execution decl.body)) (each (map execution decl.body) ctx 0) =
        made_is (λ after. Runs g (start free) after (source.all_declare (map execution decl.body)) (each (map execution decl.body) ctx 0)) (plain.each (map statement decl.body) own decl.span.to (start free)) d.is.body
        (statements_kept g (members w) calls turns (is_ground at head (not (is_static decl)) this) decl.body decl.span.to (start free) (omega arith) rooted sound) made in
        let slots = ap (λ (r : core.Routine). r.slots) routine in
        record {
          own = own;
          has_this = not (is_static decl);
          begin = start free;
          last = d.is.body;
          count = source.all_declare (map execution decl.body);
          runs = x;
          code = ap (λ (r : core.Routine). r.body) routine ∙ block_is (start free).made d.is.body.made x.items refl x.appended;
          most = omega (arith, slots);
          default = ap (λ (r : core.Routine). r.default) routine ∙ ap default_result (type_same ((names unit).declared decl.name.span));
          stands = λ given now. entry_stands (tables_of p) own this depth (is_static decl) (length decl.params) free d.fine.entry ((tables_of p).routines number).slots given now;
        }

    -- A method runs as the source says.
    pub method_kept : (number : ℕ) → number < length w.methods → (method_at p number).constructor ≡ false → (this : Held) → RunsMethod (tables_of p) depth number ((members w).is_static number) (λ this given. method_run ctx (slice_get w.methods number) this given) this
    method_kept number lt plain_is this =
        let d = declared number lt in
        let m = written d.next.class d.decl in
        let b = body_kept number lt plain_is this in
        let runs = method_runs (ground b.own b.has_this this) number plain_is m.is_static b.begin b.last b.count (each m.body ctx 0) b.runs b.code b.most b.stands in
        subst (λ static. RunsMethod (tables_of p) depth number static (λ this given. method_run ctx (slice_get w.methods number) this given) this) (sym (ap bodies.static_of d.means))
        (runs_as_method (tables_of p) depth number m.is_static (λ this given. with_own (variables this given) (each m.body ctx 0 >>= (λ end. gives (given_back ((tables_of p).routines number).default end))))
        (λ this given. method_run ctx (slice_get w.methods number) this given) this
        (λ given now. ap (λ default. with_own (variables this given) (each m.body ctx 0 >>= (λ end. gives (given_back default end))) now) b.default ∙ sym (ap (λ (o : Option Written). method_run ctx o this given now) d.means)) runs)

    -- and gives something back where its routine does
    pub method_gives : (number : ℕ) → number < length w.methods → (this : Held) (given : List Held) (now later : Now) (result : Option Held) → method_run ctx (slice_get w.methods number) this given now ≡ Gives result later → is_some result ≡ is_some ((tables_of p).routines number).default
    method_gives number lt this given now later result e =
        let d = declared number lt in
        let at = home t d.next d.class in
        let routine = ap (λ (o : Option Method). routine_of (unwrap_or o no_method)) d.there ∙ method_routine t at d.decl d.method d.is in
        run_gives ctx (written d.next.class d.decl) ((tables_of p).routines number).default (ap (λ (r : core.Routine). r.default) routine ∙ ap default_result (type_same ((names unit).declared d.decl.name.span))) this given now later result
        (sym (ap (λ (o : Option Written). method_run ctx o this given now) d.means) ∙ e)

    -- ---- constructors

    abbrev Constructs : ℕ → Option ℕ → Class → Held → Type 0
    Constructs number parent class o = RunsMethod (tables_of p) depth number false (λ o given. construct_run ctx parent (Some class) o given >>= with_object o) o

    -- the class has a written constructor
    written_kept : (at : Home) (decl : ClassDecl) (number : ℕ) → ((parent : ℕ) → at.parent ≡ Some parent → is_class shared parent ≡ true) → at.field + field_count at.members ≤ most_counted → IsWrittenConstructor t Q R p at decl number
        → (o : Held) → Constructs number at.parent (record { fields = fields_in at.field at.members; constructor = bodies.constructor_in at.class decl.members }) o
    written_kept at class number there few c o =
        let decl = c.decl in
        let head = written_head t at decl in
        let own = site t at head in
        let args = program.args_or_none decl.parent_args in
        let free = slot_behind (first_param (is_static decl)) decl.params in
        let g = ground own (not (is_static decl)) o in
        let static : is_static decl ≡ false = static_false decl.mods.is_static decl.constructor c.constructor in
        let has : not (is_static decl) ≡ true = ap not static in
        let routine = method_routine t at decl (method_at p number) c.is in
        let fields = fields_in at.field at.members in
        let made = constructor_made decl.constructor c.constructor own at args decl.name.span (start free) (plain.each (map statement decl.body) own decl.span.to) c.is.body c.is.made in
        let parts = parts_made (program.constructor_start own at args decl.name.span (start free)) (plain.each (map statement decl.body) own decl.span.to) c.is.body made in
        let middle = parts.0 in
        let first_sound = start_sound at args decl.name.span g (start free) in
        let later_sound = where_made (program.constructor_start own at args decl.name.span (start free)) (each_sound (map statement_soundness decl.body) g decl.span.to) in
        let sound = constructor_sound decl.constructor c.constructor own at args decl.name.span (start free) first_sound (each_sound (map statement_soundness decl.body) g decl.span.to) (c.fine.sound g (record { site = refl; results = λ number. (refl, refl); this = λ has. has })) in
        let rooted = entry_rooted (tables_of p) own o depth (is_static decl) (length decl.params) free c.fine.entry in
        let on = is_ground at head (not (is_static decl)) o in
        let begins : Action (Unit {0}) = started g (members w) calls turns below deep (runs_again at head) on has at.parent args fields in
        let x : Runs g (start free) middle 0 (begins >>= normally) =
        made_is (λ after. Runs g (start free) after 0 (begins >>= normally)) (program.constructor_start own at args decl.name.span (start free)) middle
        (start_runs g (members w) calls turns below deep (runs_again at head) on has at args decl.name.span (start free) there few (omega arith) rooted (and_first first_sound later_sound sound)) parts.1 in
        let run_body = each (map execution decl.body) ctx (length middle.locals) in
        let count = source.all_declare (map execution decl.body) in
        let y : Runs g middle c.is.body count run_body =
        made_is (λ after. Runs g middle after count run_body) (plain.each (map statement decl.body) own decl.span.to middle) c.is.body
        (statements_kept g (members w) calls turns on decl.body decl.span.to middle x.free (rooted_behind g (members w) calls turns on (start free) middle 0 (begins >>= normally) rooted x)
        (subst (λ (r : Within Body). where_made r (each_sound (map statement_soundness decl.body) g decl.span.to) ≡ true) parts.1 (and_second first_sound later_sound sound))) parts.2 in
        let action : Action Completion = (begins >>= normally) >>= (λ end. source.behind end run_body) in
        let z : Runs g (start free) c.is.body (0 + count) action = runs_both g (start free) middle c.is.body 0 count (begins >>= normally) run_body x y in
        let slots = ap (λ (r : core.Routine). r.slots) routine in
        let none : length middle.locals ≡ 0 = (let e = x.counted in omega (arith, e)) in
        let runs = constructor_runs g number (ap (λ (r : core.Routine). r.constructor) routine ∙ c.constructor) has (start free) c.is.body (0 + count) action z
        (ap (λ (r : core.Routine). r.body) routine ∙ block_is (start free).made c.is.body.made z.items refl z.appended) (omega (arith, slots))
        (λ given now. subst (λ b. Stands g (start free) (slots_with ((tables_of p).routines number).slots (first_slots (tables_of p) depth b o given)) (with_variables (variables o given) now)) static
        (entry_stands (tables_of p) own o depth (is_static decl) (length decl.params) free c.fine.entry ((tables_of p).routines number).slots given now)) in
        subst (λ m. Constructs number at.parent (record { fields = fields; constructor = m }) o) (sym c.means)
        (runs_as_method (tables_of p) depth number false (λ o given. with_own (variables o given) (action >>= (λ end. gives (Some o)))) (λ o given. construct_run ctx at.parent (Some (record { fields = fields; constructor = Some (written at.class decl) })) o given >>= with_object o) o
        (λ given now.
        let inner = with_variables (variables o given) now in
        ap (back now.variables)
        (constructed_same o (parent_constructed ctx at.parent (map evaluation args)) (fields_initialised ctx fields) run_body inner
        ∙ ap (λ n. go_on (with_object o) ((parent_constructed ctx at.parent (map evaluation args) >>= (λ a. fields_initialised ctx fields >>= (λ b. each (map execution decl.body) ctx n >>= (λ end. gives tt)))) inner)) none
        ∙ ap (λ (args : List Expr). go_on (with_object o) ((parent_constructed ctx at.parent (map evaluation args) >>= (λ a. fields_initialised ctx fields >>= (λ b. each (map execution decl.body) ctx 0 >>= (λ end. gives tt)))) inner)) (same_args decl.parent_args))
        ∙ sym (back_object o now.variables (bodies.constructed ctx at.parent (record { fields = fields; constructor = Some (written at.class decl) }) inner)))
        runs)

    -- the class has none
    default_kept : (at : Home) (decl : ClassDecl) (number : ℕ) → ((parent : ℕ) → at.parent ≡ Some parent → is_class shared parent ≡ true) → at.field + field_count at.members ≤ most_counted → IsDefaultConstructor t Q R p at decl number
        → (o : Held) → Constructs number at.parent (record { fields = fields_in at.field at.members; constructor = bodies.constructor_in at.class decl.members }) o
    default_kept at class number there few c o =
        let span = class.name.span in
        let head = default_head at span in
        let own = site t at head in
        let g = ground own true o in
        let routine = default_routine t at span (method_at p number) c.is in
        let fields = fields_in at.field at.members in
        let rooted = entry_rooted (tables_of p) own o depth false 0 1 c.fine.entry in
        let on = is_ground at head true o in
        let begins : Action (Unit {0}) = started g (members w) calls turns below deep (runs_again at head) on refl at.parent [] fields in
        let x : Runs g (start 1) c.is.body 0 (begins >>= normally) =
        made_is (λ after. Runs g (start 1) after 0 (begins >>= normally)) (program.constructor_start own at [] span (start 1)) c.is.body
        (start_runs g (members w) calls turns below deep (runs_again at head) on refl at [] span (start 1) there few (omega arith) rooted (c.fine.sound g (record { site = refl; results = λ number. (refl, refl); this = λ has. has }))) c.is.made in
        let slots = ap (λ (r : core.Routine). r.slots) routine in
        let runs = constructor_runs g number (ap (λ (r : core.Routine). r.constructor) routine) refl (start 1) c.is.body 0 (begins >>= normally) x
        (ap (λ (r : core.Routine). r.body) routine ∙ block_is (start 1).made c.is.body.made x.items refl x.appended) (omega (arith, slots))
        (λ given now. entry_stands (tables_of p) own o depth false 0 1 c.fine.entry ((tables_of p).routines number).slots given now) in
        subst (λ m. Constructs number at.parent (record { fields = fields; constructor = m }) o) (sym c.means)
        (runs_as_method (tables_of p) depth number false (λ o given. with_own (variables o given) ((begins >>= normally) >>= (λ end. gives (Some o)))) (λ o given. construct_run ctx at.parent (Some (record { fields = fields; constructor = None })) o given >>= with_object o) o
        (λ given now.
        let inner = with_variables (variables o given) now in
        ap (back now.variables) (default_same o (parent_constructed ctx at.parent []) (fields_initialised ctx fields) inner)
        ∙ sym (back_object o now.variables (bodies.constructed ctx at.parent (record { fields = fields; constructor = None }) inner)))
        runs)

    -- A constructor runs as the source says.
    pub constructor_kept : (class : ℕ) → class < length unit.classes → (o : Held) → RunsMethod (tables_of p) depth (constructor_at shared class) false (λ o given. construct_run ctx (w.world.parent class) (slice_get w.classes class) o given >>= with_object o) o
    constructor_kept class lt o =
        let c = class_declared unit p is Q R fine class lt in
        let at = home t c.next c.decl in
        let number = constructor_in c.next.default c.next.method c.decl.members in
        let there : (parent : ℕ) → at.parent ≡ Some parent → is_class shared parent ≡ true =
        (λ parent e. let lt = parent_there unit p is Q R fine c.next.class parent e in grind (arith, nat_tests)) in
        let kept : Constructs number at.parent (record { fields = fields_in c.next.field c.decl.members; constructor = bodies.constructor_in c.next.class c.decl.members }) o =
        ⊎_elim (λ x. written_kept at c.decl number there c.few x o) (λ x. default_kept at c.decl number there c.few x o) c.constructor in
        subst (λ n. RunsMethod (tables_of p) depth n false (λ o given. construct_run ctx (w.world.parent class) (slice_get w.classes class) o given >>= with_object o) o) (sym (ap (λ (n : Option ℕ). unwrap_or n 0) c.made_by))
        (subst (λ (m : Option Class). RunsMethod (tables_of p) depth number false (λ o given. construct_run ctx (w.world.parent class) m o given >>= with_object o) o) (sym c.means)
        (subst (λ k. Constructs number (w.world.parent k) (record { fields = fields_in c.next.field c.decl.members; constructor = bodies.constructor_in k c.decl.members }) o) c.numbered kept))

  -- ---- by the depth

  abbrev pub below_of : ℕ → ℕ
  below_of zero = 0
  below_of (suc depth) = depth

  pub one_below : (depth : ℕ) → depth ≤ below_of depth + 1
  one_below zero = omega arith
  one_below (suc depth) = omega arith

  -- All methods and constructors run as the source says, with calls that nest so deep.
  pub callees_run : (turns depth : ℕ) → depth ≤ turns + 1 → CalleesRun (tables_of p) shared (members w) (below_of depth) (calls_within w turns depth)
  callees_run turns zero le = record {
    method = λ number e this. cut_runs (tables_of p) number ((members w).is_static number) (λ this given. no_calls.method number this given) this (λ given now. refl);
    gives_back = λ number e this given now later result cut. absurd (cc cut);
    construct = λ class e o. cut_runs (tables_of p) (constructor_at shared class) false (λ o given. no_calls.construct class o given >>= with_object o) o (λ given now. refl);
  }
  callees_run turns (suc depth) le =
      let run = callees_run turns depth (omega (arith, le)) in
      record {
        method = λ number e this. method_kept turns depth (below_of depth) (omega (arith, le)) (one_below depth) (calls_within w turns depth) run number (low number e) (plain_method number e) this;
        gives_back = λ number e this given now later result gave. method_gives turns depth (below_of depth) (omega (arith, le)) (one_below depth) (calls_within w turns depth) run number (low number e) this given now later result gave;
        construct = λ class e o. constructor_kept turns depth (below_of depth) (omega (arith, le)) (one_below depth) (calls_within w turns depth) run class
            (let c = constructors_count unit p is Q R fine in let lt : class < length (constructors unit.classes) = grind (arith, nat_tests) in omega (arith, lt, c)) o;
      }
