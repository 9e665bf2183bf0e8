-- A body has no more locals than its statements declare.
use Rattle.std.proofs.Common.{◌≡◌, ◌≤◌, ℕ, ◌+◌, max, Bool, true, false, List, [], ◌∷◌, ◌++◌, map, length, Option, Some, None, Ok, Err, Result, refl, sym, ap, subst, ◌∙◌, arith, length-append}
use Rattle.std.specs.Prelude.{if◌then◌else◌, nat_lt}
use Rattle.ix_text.specs.declared.span.Span.{Span}
use Rattle.ix_core.specs.declared.claim.Type_.{Type_}
use Rattle.ix_core.specs.declared.code.Item.{Item}
use Rattle.ix_core.specs.declared.code.Item.TheVariants as item
use Rattle.ix_core.specs.declared.op.OpKind.TheVariants as op
use Rattle.ix_core.specs.declared.program.Local.{Local}
use Rattle.ix_tree.specs.declared.annot.Ident.{Ident}
use Rattle.ix_tree.specs.declared.decl.LocalDecl.{LocalDecl}
use Rattle.ix_tree.specs.declared.decl.Member.{Member}
use Rattle.ix_tree.specs.declared.decl.Member.TheVariants as member
use Rattle.ix_tree.specs.declared.decl.MethodDecl.{MethodDecl}
use Rattle.ix_tree.specs.declared.expr.Expr.{Expr}
use Rattle.ix_tree.specs.declared.expr.Init.{Init}
use Rattle.ix_tree.specs.declared.stmt.Stmt.{Stmt, Stmt-F, ind-Stmt, map-Stmt, roll-Stmt, fold-roll-Stmt}
use Rattle.ix_tree.specs.declared.stmt.StmtKind.{StmtKind, StmtKind-F, map-StmtKind, roll-StmtKind, fold-StmtKind, fold-roll-StmtKind}
use Rattle.ix_meaning.specs.declared.note.Which.TheVariants as which
use Rattle.ix_meaning.specs.Bodies as bodies
use Rattle.ix_meaning.specs.Bodies.{Telling, telling, kind_telling, all_told, all_declared}
use Rattle.ix_plain.specs.declared.body.Body.{Body}
use Rattle.ix_plain.specs.declared.made.Spot.TheVariants as spot
use Rattle.ix_plain.specs.Assigned.{assigns, all_assign}
use Rattle.ix_plain.specs.Members.{next_field}
use Rattle.ix_plain.specs.Parts.{Within, ◌>>=◌, Value, Asked, empty, done, taking, computed, write, default, most_slots}
use Rattle.ix_plain.specs.Program as program
use Rattle.ix_plain.specs.Program.{Home, start, args_or_none}
use Rattle.ix_plain.specs.Scope.{Site, declared_type, declared_claims, constructor_at}
use Rattle.ix_meaning.proofs.DeclaratorNumbers.{declarators_number}
use Rattle.ix_plain.specs.Statements as statements
use Rattle.ix_plain.specs.Statements.{Running, Run, Inside, Evaluated, Tested, behind, with_last, behind_value, evaluated, init_evaluated, ran, all_ran, tested, tested_if, inside, in_loop, most_loops, scope_for, with_local}
use Rattle.ix_plain.specs.Values.{lowering, filling, arguments_from, calling}
use Rattle.ix_formed.specs.Additions.{Makes}
use Rattle.ix_formed.proofs.PlainItems.{makes_more, makes_then}

-- so many more locals at most, or the same ones
abbrev pub Grows : Body → ℕ → Body → Type 0
Grows body n after = length after.locals ≤ length body.locals + n

abbrev pub Keeps : Body → Body → Type 0
Keeps body after = after.locals ≡ body.locals

makes_any : {A E : Type 0} (r : Result A E) → Makes (λ made. Unit {0}) r
makes_any (Ok made) = tt
makes_any (Err limit) = tt

same_length : (body after : Body) → Keeps body after → length after.locals ≡ length body.locals
same_length body after kept = ap (λ (ls : List (Local × Span)). length ls) kept

keeps_grows : (body : Body) (r : Within Body) → Makes (Keeps body) r → Makes (Grows body 0) r
keeps_grows body r kept = makes_more (Keeps body) (Grows body 0) (λ after k. let e = same_length body after k in omega (arith, e)) r kept

grows_as : (body : Body) (n m : ℕ) (r : Within Body) → n ≤ m → Makes (Grows body n) r → Makes (Grows body m) r
grows_as body n m r le g = makes_more (Grows body n) (Grows body m) (λ after a. omega (arith, a, le)) r g

then_grows : (body : Body) (n m : ℕ) (r : Within Body) (next : Body → Within Body) → Makes (Grows body n) r → ((second : Body) → Makes (Grows second m) (next second)) → Makes (Grows body (n + m)) (r >>= next)
then_grows body n m r next first second =
    makes_then (Grows body n) (Grows body (n + m)) r next first
    (λ middle a. makes_more (Grows middle m) (Grows body (n + m)) (λ third b. omega (arith, a, b)) (next middle) (second middle))

then_keeps : (body : Body) (r : Within Body) (next : Body → Within Body) → Makes (Keeps body) r → ((second : Body) → Makes (Keeps second) (next second)) → Makes (Keeps body) (r >>= next)
then_keeps body r next first second =
    makes_then (Keeps body) (Keeps body) r next first (λ middle a. makes_more (Keeps middle) (Keeps body) (λ third b. b ∙ a) (next middle) (second middle))

-- ---- full expressions declare nothing

abbrev EvaluatedKeeps : Body → Within Evaluated → Type 0
EvaluatedKeeps body r = Makes (λ (e : Evaluated). Keeps body e.body) r

behind_keeps : (body : Body) (r : Within Value) → EvaluatedKeeps body (r >>= behind_value body)
behind_keeps body r = makes_then (λ v. Unit {0}) (λ (e : Evaluated). Keeps body e.body) r (behind_value body) (makes_any r) (λ v any. refl)

used_keeps : (body : Body) (r : Within Evaluated) (last : Evaluated → Item) → EvaluatedKeeps body r → Makes (Keeps body) (r >>= (λ v. Ok (with_last v.body (last v))))
used_keeps body r last kept = makes_then (λ (e : Evaluated). Keeps body e.body) (Keeps body) r (λ v. Ok (with_last v.body (last v))) kept (λ v k. k)

ran_keeps : (site : Site) (e : Expr) (body : Body) → Makes (Keeps body) (ran site e body)
ran_keeps site e body = makes_then (λ (v : Evaluated). Keeps body v.body) (Keeps body) (evaluated site e body) _ (behind_keeps body _) (λ v k. k)

all_ran_keeps : (es : List Expr) (site : Site) (body : Body) → Makes (Keeps body) (all_ran es site body)
all_ran_keeps [] site body = refl
all_ran_keeps (e ∷ es) site body = then_keeps body (ran site e body) (all_ran es site) (ran_keeps site e body) (λ second. all_ran_keeps es site second)

abbrev TestedKeeps : Body → Tested → Type 0
TestedKeeps body t = Keeps body t.body

tested_keeps : (site : Site) (e : Expr) (body : Body) → Makes (TestedKeeps body) (tested site e body)
tested_keeps site e body =
    makes_then (λ (a : Asked). Unit {0}) (TestedKeeps body) ((lowering e).condition (scope_for site body (assigns e).inside) body.made.free) _ (makes_any ((lowering e).condition (scope_for site body (assigns e).inside) body.made.free))
    (λ asked any. refl)

tested_if_keeps : (e : Option Expr) (site : Site) (body : Body) → Makes (TestedKeeps body) (tested_if e site body)
tested_if_keeps (Some e) site body = tested_keeps site e body
tested_if_keeps None site body = refl

-- ---- blocks of their own

abbrev InsideGrows : Body → ℕ → Inside → Type 0
InsideGrows body n made = Grows body n made.body

abbrev begun_block : Body → Body
begun_block body = record body { made = empty body.made.free }

inside_grows : (run : Body → Within Body) (body : Body) (n : ℕ) → Makes (Grows (begun_block body) n) (run (begun_block body)) → Makes (InsideGrows body n) (inside run body)
inside_grows run body n grows = makes_then (Grows (begun_block body) n) (InsideGrows body n) (run (begun_block body)) _ grows (λ inner g. g)

abbrev Runs : Running → ℕ → Type 0
Runs part n = (site : Site) (end : ℕ) (body : Body) → Makes (Grows body n) (part.run site end body)

branch_grows : (part : Running) (n : ℕ) → Runs part n → (site : Site) (body : Body) → Makes (InsideGrows body n) (statements.branch part site body)
branch_grows part n runs site body = inside_grows (part.run site part.span.to) body n (runs site part.span.to (begun_block body))

-- ---- choices and loops

abbrev OptionRuns : Option Running → ℕ → Type 0
OptionRuns None n = Unit {0}
OptionRuns (Some part) n = Runs part n

branch_if_grows : (part : Option Running) (n : ℕ) → OptionRuns part n → (site : Site) (body : Body) → Makes (InsideGrows body n) (statements.branch_if part site body)
branch_if_grows None n runs site body = omega arith
branch_if_grows (Some part) n runs site body = branch_grows part n runs site body

chosen_grows : (condition : Expr) (first : Running) (second : Option Running) (n m : ℕ) → Runs first n → OptionRuns second m → (site : Site) (body : Body) → Makes (Grows body (n + m)) (statements.chosen condition first second site body)
chosen_grows condition first second n m one two site body =
    makes_then (TestedKeeps body) (Grows body (n + m)) (tested site condition body) _ (tested_keeps site condition body)
    (λ asked t. makes_then (InsideGrows asked.body n) (Grows body (n + m)) (statements.branch first site asked.body) _ (branch_grows first n one site asked.body)
    (λ holds h. makes_then (InsideGrows holds.body m) (Grows body (n + m)) (statements.branch_if second site holds.body) _ (branch_if_grows second m two site holds.body)
    (λ fails f. let e = same_length body asked.body t in omega (arith, e, h, f))))

loop_taken : (body : Body) (b : Bool) → Makes (Keeps body) (if b then Ok (record body { loops = body.loops + 1 }) else Err which.Loops)
loop_taken body true = refl
loop_taken body false = tt

loop_begins : (body : Body) → Makes (Keeps body) (in_loop body)
loop_begins body = loop_taken body (nat_lt body.loops most_loops)

while_grows : (condition : Expr) (turn : Running) (n : ℕ) → Runs turn n → (site : Site) (body : Body) → Makes (Grows body n) (statements.while condition turn site body)
while_grows condition turn n runs site body =
    makes_then (Keeps body) (Grows body n) (in_loop body) _ (loop_begins body)
    (λ begun b. makes_then (TestedKeeps begun) (Grows body n) (tested site condition begun) _ (tested_keeps site condition begun)
    (λ asked t. makes_then (InsideGrows asked.body n) (Grows body n) (statements.branch turn site asked.body) _ (branch_grows turn n runs site asked.body)
    (λ inner i. let e = same_length body asked.body (t ∙ b) in omega (arith, e, i))))

do_grows : (turn : Running) (condition : Expr) (n : ℕ) → Runs turn n → (site : Site) (body : Body) → Makes (Grows body n) (statements.do_while turn condition site body)
do_grows turn condition n runs site body =
    makes_then (Keeps body) (Grows body n) (in_loop body) _ (loop_begins body)
    (λ begun b. makes_then (InsideGrows begun n) (Grows body n) (statements.branch turn site begun) _ (branch_grows turn n runs site begun)
    (λ inner i. makes_then (TestedKeeps inner.body) (Grows body n) (tested site condition inner.body) _ (tested_keeps site condition inner.body)
    (λ asked t. let e = same_length body begun b in let f = same_length inner.body asked.body t in omega (arith, e, f, i))))

-- a part that declares nothing
update_keeps : (update : List Expr) (site : Site) (body : Body) → Makes (InsideGrows body 0) (inside (all_ran update site) body)
update_keeps update site body = inside_grows (all_ran update site) body 0 (keeps_grows (begun_block body) (all_ran update site (begun_block body)) (all_ran_keeps update site (begun_block body)))

for_grows : (first : List Running) (k : ℕ) (condition : Option Expr) (update : List Expr) (turn : Running) (n : ℕ) → Runs turn n → (end : ℕ) (site : Site) (body : Body) → Makes (Grows body k) (statements.each first site end body)
    → Makes (Grows body (k + n)) (statements.counted first condition update turn end site body)
for_grows first k condition update turn n runs end site body all =
    makes_then (Grows body k) (Grows body (k + n)) (statements.each first site end body) _ all
    (λ begin x. makes_then (Keeps begin) (Grows body (k + n)) (in_loop begin) _ (loop_begins begin)
    (λ begun b. makes_then (TestedKeeps begun) (Grows body (k + n)) (tested_if condition site begun) _ (tested_if_keeps condition site begun)
    (λ asked t. makes_then (InsideGrows asked.body n) (Grows body (k + n)) (statements.branch turn site asked.body) _ (branch_grows turn n runs site asked.body)
    (λ inner i. makes_then (InsideGrows inner.body 0) (Grows body (k + n)) (inside (all_ran update site) inner.body) _ (update_keeps update site inner.body)
    (λ next u. let e = same_length begin asked.body (t ∙ b) in omega (arith, x, e, i, u))))))

-- ---- declarations of locals

local_grows : (name : Ident) (end : ℕ) (site : Site) (body : Body) → Makes (Grows body 1) (with_local name end site body)
local_grows name end site body = within (nat_lt body.made.free most_slots)
  where
    within : (b : Bool) → Makes (Grows body 1) (if b then Ok (record {
      made = record { items = body.made.items; free = body.made.free + 1 };
      locals = body.locals ++ (record { slot = body.made.free; name = name.text; claims = declared_claims (site.names.declared name.span) }, record { from = name.span.from; to = end }) ∷ [];
      most = max body.most (body.made.free + 1);
      loops = body.loops;
    }) else Err which.Slots)
    within true =
        let one : Local × Span = (record { slot = body.made.free; name = name.text; claims = declared_claims (site.names.declared name.span) }, record { from = name.span.from; to = end }) in
        let e = length-append body.locals (one ∷ []) in omega (arith, e)
    within false = tt

initialised_keeps : (slot : ℕ) (ty : Type_) (name : Span) (init : Option Init) (site : Site) (body : Body) → Makes (Keeps body) (statements.initialised slot ty name init site body)
initialised_keeps slot ty name None site body = used_keeps body _ (λ v. write (spot.Variable slot) v.slot ty name name name) (behind_keeps body (computed body.made (op.Const body.made.free (default ty)) name))
initialised_keeps slot ty name (Some init) site body =
    used_keeps body (init_evaluated site init ty body) (λ v. write (spot.Variable slot) v.slot ((filling init).ty site ty) (filling init).span name (filling init).span) (behind_keeps body _)

declaration_grows : (d : LocalDecl) (site : Site) (end : ℕ) (body : Body) → Makes (Grows body (1 + 0)) (statements.declaration d site end body)
declaration_grows d site end body =
    let next = statements.initialised body.made.free (declared_type (site.names.declared d.name.span)) d.name.span d.init site in
    then_grows body 1 0 (with_local d.name end site body) next (local_grows d.name end site body)
    (λ second. keeps_grows second (next second) (initialised_keeps body.made.free (declared_type (site.names.declared d.name.span)) d.name.span d.init site second))

declarations_grow : (ds : List LocalDecl) (site : Site) (end : ℕ) (body : Body) → Makes (Grows body (all_declared ds).declares) (statements.declarations ds site end body)
declarations_grow [] site end body = omega arith
declarations_grow (d ∷ ds) site end body =
    grows_as body ((1 + 0) + (all_declared ds).declares) _ _ (omega arith)
    (then_grows body (1 + 0) (all_declared ds).declares (statements.declaration d site end body) (statements.declarations ds site end) (declaration_grows d site end body) (λ second. declarations_grow ds site end second))

-- ---- all forms

returned_keeps : (value : Option Expr) (span : Span) (site : Site) (body : Body) → Makes (Keeps body) (statements.returned value span site body)
returned_keeps None span site body = refl
returned_keeps (Some e) span site body = answers_or_not site.answers
  where
    answers_or_not : (answers : Bool) → Makes (Keeps body) (if answers then statements.answered site e body else statements.used site e (λ slot. item.Return (Some slot) e.span) body)
    answers_or_not true =
        let asked = (lowering e).condition (scope_for site body (assigns e).inside) body.made.free in
        makes_then (λ (a : Asked). Unit {0}) (Keeps body) asked _ (makes_any asked)
        (λ a any.
        let taken = taking (record { items = body.made.items; free = a.free }) (statements.answer_item a.cond a.free e.span) in
        makes_then (λ (v : Value). Unit {0}) (Keeps body) taken _ (makes_any taken) (λ v any. refl))
    answers_or_not false = used_keeps body (evaluated site e body) (λ v. item.Return (Some v.slot) e.span) (behind_keeps body _)

abbrev kind_run : StmtKind → Span → Run
kind_run = fold-StmtKind (Span → Run) Running statements.kind_step statements.stmt_step

abbrev KindRuns : StmtKind → Type 0
KindRuns k = (span : Span) (site : Site) (end : ℕ) (body : Body) → Makes (Grows body (kind_telling k span).declares) (kind_run k span site end body)

abbrev StmtRuns : Stmt → Type 0
StmtRuns s = Runs (statements.statement s) (telling s).declares

module _ {K S : Type 0} (kind : K → StmtKind) (stmt : S → Stmt) (stmt_runs : (s : S) → StmtRuns (stmt s)) where
  all_run : (ss : List S) (site : Site) (end : ℕ) (body : Body) → Makes (Grows body (all_told (map telling (map stmt ss))).declares) (statements.each (map statements.statement (map stmt ss)) site end body)
  all_run [] site end body = omega arith
  all_run (s ∷ ss) site end body =
      then_grows body (telling (stmt s)).declares (all_told (map telling (map stmt ss))).declares ((statements.statement (stmt s)).run site end body) (statements.each (map statements.statement (map stmt ss)) site end)
      (stmt_runs s site end body) (λ second. all_run ss site end second)

  run_layer : (y : StmtKind-F K S) (span : Span) (site : Site) (end : ℕ) (body : Body)
      → Makes (Grows body (bodies.stmt_kind_step (map-StmtKind StmtKind Stmt (Span → Telling) Telling kind_telling telling (map-StmtKind K S StmtKind Stmt kind stmt y)) span).declares)
      (statements.kind_step (map-StmtKind StmtKind Stmt (Span → Run) Running kind_run statements.statement (map-StmtKind K S StmtKind Stmt kind stmt y)) span site end body)
  run_layer (StmtKind-F.Block ss) span site end body =
      let n = (all_told (map telling (map stmt ss))).declares in
      makes_then (Grows body n) (Grows body n) (statements.each (map statements.statement (map stmt ss)) site span.to body) _ (all_run ss site span.to body) (λ inner g. g)
  run_layer StmtKind-F.Empty span site end body = omega arith
  run_layer (StmtKind-F.Local ds) span site end body =
      let e = declarators_number ds in
      grows_as body (all_declared ds).declares _ _ (omega (arith, e)) (declarations_grow ds site end body)
  run_layer (StmtKind-F.If condition first None) span site end body =
      grows_as body ((telling (stmt first)).declares + 0) _ _ (omega arith) (chosen_grows condition (statements.statement (stmt first)) None (telling (stmt first)).declares 0 (stmt_runs first) tt site body)
  run_layer (StmtKind-F.If condition first (Some second)) span site end body =
      chosen_grows condition (statements.statement (stmt first)) (Some (statements.statement (stmt second))) (telling (stmt first)).declares (telling (stmt second)).declares (stmt_runs first) (stmt_runs second) site body
  run_layer (StmtKind-F.While condition turn) span site end body = while_grows condition (statements.statement (stmt turn)) (telling (stmt turn)).declares (stmt_runs turn) site body
  run_layer (StmtKind-F.Do turn condition) span site end body = do_grows (statements.statement (stmt turn)) condition (telling (stmt turn)).declares (stmt_runs turn) site body
  run_layer (StmtKind-F.For first condition update turn) span site end body =
      for_grows (map statements.statement (map stmt first)) (all_told (map telling (map stmt first))).declares condition update (statements.statement (stmt turn)) (telling (stmt turn)).declares (stmt_runs turn) span.to site body
      (all_run first site span.to body)
  run_layer StmtKind-F.Break span site end body = omega arith
  run_layer StmtKind-F.Continue span site end body = omega arith
  run_layer (StmtKind-F.Return value) span site end body = keeps_grows body (statements.returned value span site body) (returned_keeps value span site body)
  run_layer (StmtKind-F.Throw name) span site end body = omega arith
  run_layer (StmtKind-F.Print value) span site end body =
      keeps_grows body (statements.printed value site body) (used_keeps body (evaluated site value body) (λ v. done (op.Print v.slot) value.span []) (behind_keeps body _))
  run_layer (StmtKind-F.Run e) span site end body = keeps_grows body (ran site e body) (ran_keeps site e body)

  run_rolled : (y : StmtKind-F K S) → KindRuns (roll-StmtKind (map-StmtKind K S StmtKind Stmt kind stmt y))
  run_rolled y span site end body =
      let layer = map-StmtKind K S StmtKind Stmt kind stmt y in
      let a = fold-roll-StmtKind (Span → Run) Running statements.kind_step statements.stmt_step layer in
      let b = fold-roll-StmtKind (Span → Telling) Telling bodies.stmt_kind_step bodies.stmt_step layer in
      subst (λ (f : Span → Telling). Makes (Grows body (f span).declares) (kind_run (roll-StmtKind layer) span site end body)) (sym b)
      (subst (λ (f : Span → Run). Makes (Grows body (bodies.stmt_kind_step (map-StmtKind StmtKind Stmt (Span → Telling) Telling kind_telling telling layer) span).declares) (f span site end body)) (sym a) (run_layer y span site end body))

  stmt_rolled : ((k : K) → KindRuns (kind k)) → (y : Stmt-F K S) → StmtRuns (roll-Stmt (map-Stmt K S StmtKind Stmt kind stmt y))
  stmt_rolled kind_runs y =
      let layer = map-Stmt K S StmtKind Stmt kind stmt y in
      let a = fold-roll-Stmt (Span → Run) Running statements.kind_step statements.stmt_step layer in
      let b = fold-roll-Stmt (Span → Telling) Telling bodies.stmt_kind_step bodies.stmt_step layer in
      subst (λ (t : Telling). Runs (statements.statement (roll-Stmt layer)) t.declares) (sym b)
      (subst (λ (r : Running). Runs r (kind_telling (kind y.kind) y.span).declares) (sym a) (λ site end body. kind_runs y.kind y.span site end body))

statement_grows : (s : Stmt) → StmtRuns s
statement_grows = ind-Stmt KindRuns StmtRuns
    (λ x y e. subst (λ layer. KindRuns (roll-StmtKind layer)) e (run_rolled (λ k. k.0) (λ s. s.0) (λ s. s.1) y))
    (λ x y e. subst (λ layer. StmtRuns (roll-Stmt layer)) e (stmt_rolled (λ k. k.0) (λ s. s.0) (λ s. s.1) (λ k. k.1) y))

statements_grow : (ss : List Stmt) (site : Site) (end : ℕ) (body : Body) → Makes (Grows body (all_told (map telling ss)).declares) (statements.each (map statements.statement ss) site end body)
statements_grow [] site end body = omega arith
statements_grow (s ∷ ss) site end body =
    then_grows body (telling s).declares (all_told (map telling ss)).declares ((statements.statement s).run site end body) (statements.each (map statements.statement ss) site end) (statement_grows s site end body)
    (λ second. statements_grow ss site end second)

-- ---- what a constructor begins with declares nothing

super_keeps : (site : Site) (parent : Option ℕ) (args : List Expr) (span : Span) (body : Body) → Makes (Keeps body) (program.super_call site parent args span body)
super_keeps site None args span body = refl
super_keeps site (Some parent) args span body =
    makes_then (λ given. Unit {0}) (Keeps body) (arguments_from [] (map lowering args) (scope_for site body (all_assign args)) body.made) _ (makes_any (arguments_from [] (map lowering args) (scope_for site body (all_assign args)) body.made))
    (λ given any. makes_then (λ (v : Value). Unit {0}) (Keeps body) (calling op.SuperCall (constructor_at site parent) (Some 0) parent span given) _ (makes_any (calling op.SuperCall (constructor_at site parent) (Some 0) parent span given))
    (λ v none. refl))

field_keeps : (site : Site) (field : ℕ) (d : LocalDecl) (init : Option Init) (body : Body) → Makes (Keeps body) (program.field_initialised site field d init body)
field_keeps site field d None body = refl
field_keeps site field d (Some init) body =
    used_keeps body (init_evaluated site init (declared_type (site.names.declared d.name.span)) body) (λ v. done (op.WriteField 0 field v.slot) (filling init).span (d.name.span ∷ (filling init).span ∷ [])) (behind_keeps body _)

member_keeps : (b : Bool) (site : Site) (field : ℕ) (d : LocalDecl) (body : Body) → Makes (Keeps body) (if b then Ok body else program.field_initialised site field d d.init body)
member_keeps true site field d body = refl
member_keeps false site field d body = field_keeps site field d d.init body

fields_keep : (site : Site) (field : ℕ) (ms : List Member) (body : Body) → Makes (Keeps body) (program.fields_initialised site field ms body)
fields_keep site field [] body = refl
fields_keep site field (member.Field d ∷ ms) body =
    then_keeps body (program.member_initialised site field d body) (program.fields_initialised site (next_field field d) ms) (member_keeps d.mods.is_static site field d body) (λ second. fields_keep site (next_field field d) ms second)
fields_keep site field (member.Method m ∷ ms) body = fields_keep site field ms body

pub constructor_keeps : (site : Site) (home : Home) (args : List Expr) (span : Span) (body : Body) → Makes (Keeps body) (program.constructor_start site home args span body)
constructor_keeps site home args span body =
    then_keeps body (program.super_call site home.parent args span body) (program.fields_initialised site home.field home.members) (super_keeps site home.parent args span body) (λ second. fields_keep site home.field home.members second)

-- ---- whole bodies

written_or_not : (b : Bool) (site : Site) (home : Home) (d : MethodDecl) (body : Body) → Makes (Keeps body) (if b then program.constructor_start site home (args_or_none d.parent_args) d.name.span body else Ok body)
written_or_not true site home d body = constructor_keeps site home (args_or_none d.parent_args) d.name.span body
written_or_not false site home d body = refl

pub written_body_counted : (site : Site) (home : Home) (d : MethodDecl) (free : ℕ) → Makes (λ (body : Body). length body.locals ≤ (all_told (map telling d.body)).declares) (program.written_body site home d free)
written_body_counted site home d free =
    let n = (all_told (map telling d.body)).declares in
    let begins = keeps_grows (start free) (program.written_start site home d (start free)) (written_or_not d.constructor site home d (start free)) in
    makes_more (Grows (start free) (0 + n)) (λ (body : Body). length body.locals ≤ n) (λ body g. omega (arith, g)) (program.written_body site home d free)
    (then_grows (start free) 0 n (program.written_start site home d (start free)) _ begins (λ begun. statements_grow d.body site d.span.to begun))
