-- What holds of each node of a statement holds of each place that what it becomes names.
use Rattle.std.proofs.Common.{ℕ, ◌+◌, max, Bool, true, false, List, [], ◌∷◌, ◌++◌, map, Option, Some, None, Ok, Err, sym, subst}
use Rattle.std.specs.Prelude.{if◌then◌else◌, nat_lt}
use Rattle.std.specs.List.{AllByRecursion}
use Rattle.ix_text.specs.declared.span.Span.{Span}
use Rattle.ix_core.specs.declared.claim.Type_.{Type_}
use Rattle.ix_core.specs.declared.code.Item.{Item}
use Rattle.ix_core.specs.declared.code.Item.TheVariants as item
use Rattle.ix_core.specs.declared.op.Literal.TheVariants as literal
use Rattle.ix_core.specs.declared.op.OpKind.TheVariants as op
use Rattle.ix_tree.specs.declared.annot.Ident.{Ident}
use Rattle.ix_tree.specs.declared.decl.LocalDecl.{LocalDecl}
use Rattle.ix_tree.specs.declared.expr.Expr.{Expr}
use Rattle.ix_tree.specs.declared.expr.Init.{Init}
use Rattle.ix_tree.specs.declared.stmt.Stmt.{Stmt, Stmt-F, ind-Stmt, map-Stmt, roll-Stmt, fold-roll-Stmt}
use Rattle.ix_tree.specs.declared.stmt.StmtKind.{StmtKind, StmtKind-F, map-StmtKind, roll-StmtKind, fold-StmtKind, fold-roll-StmtKind}
use Rattle.ix_tree.specs.Placed as placed
use Rattle.ix_tree.specs.Placed.{Layout, row, piece, maybe, expr_piece, stmt_piece}
use Rattle.ix_tree.proofs.LayoutParts.{expr_is, kind_row}
use Rattle.ix_meaning.specs.declared.note.Which.TheVariants as which
use Rattle.ix_plain.specs.declared.body.Body.{Body}
use Rattle.ix_plain.specs.declared.made.Spot.TheVariants as spot
use Rattle.ix_plain.specs.Scope.{Site, declared_type, declared_claims}
use Rattle.ix_plain.specs.Parts.{Within, ◌>>=◌, Value, Asked, empty, done, write, default, most_slots}
use Rattle.ix_plain.specs.Assigned.{assigns, init_assigns}
use Rattle.ix_plain.specs.Values.{lowering, filling}
use Rattle.ix_plain.specs.Statements as statements
use Rattle.ix_plain.specs.Statements.{Running, Run, Inside, Evaluated, Tested, with_last, behind_value, evaluated, init_evaluated, ran, all_ran, tested, tested_if, inside, in_loop, most_loops, scope_for, with_local, no_block}
use Rattle.ix_formed.specs.Additions.{Makes}
use Rattle.ix_formed.proofs.PlainItems.{makes_then}
use Rattle.ix_formed.specs.EachNode.{EachNode, IfSome, ExprNodes, InitNodes, StmtNodes, DeclNodes}
use Rattle.ix_formed.proofs.LaidNodes.{nodes_first, nodes_rows, nodes_piece, nodes_alone, nodes_maybe, nodes_each}
use Rattle.ix_formed.proofs.PlacedNodes.{locals_nodes}
use Rattle.ix_formed.proofs.ItemPlaces.{ItemPlaces, ItemsPlaces, CondPlaces, done_places, if_places, loop_places}
use Rattle.ix_formed.proofs.ExpressionPlaces.{MadePlaces, ValuePlaces, item_made, taking_made, computed_made, write_place, expression_places, initialiser_places}

module _ (P : Span → Type 0) where
  abbrev pub BodyPlaces : Body → Type 0
  BodyPlaces body = MadePlaces P body.made

  pub expr_own : (e : Expr) → ExprNodes P e → P e.span
  expr_own e all = (nodes_piece P e.span (kind_row e.kind) (subst (EachNode P) (expr_is e.kind e.span) all)).0

  pub last_made : (body : Body) (last : Item) → BodyPlaces body → ItemPlaces P last → BodyPlaces (with_last body last)
  last_made body last b i = item_made P body.made last b i

  -- ---- full expressions

  abbrev pub EvaluatedPlaces : Evaluated → Type 0
  EvaluatedPlaces value = BodyPlaces value.body

  pub behind_made : (body : Body) (r : Within Value) → Makes (ValuePlaces P) r → Makes EvaluatedPlaces (r >>= behind_value body)
  behind_made body r v = makes_then (ValuePlaces P) EvaluatedPlaces r (behind_value body) v (λ value m. m)

  evaluated_made : (site : Site) (e : Expr) (body : Body) → ExprNodes P e → BodyPlaces body → Makes EvaluatedPlaces (evaluated site e body)
  evaluated_made site e body n b = behind_made body _ ((expression_places P e n).value (scope_for site body (assigns e).inside) body.made b)

  pub init_made : (site : Site) (i : Init) (ty : Type_) (body : Body) → InitNodes P i → BodyPlaces body → Makes EvaluatedPlaces (init_evaluated site i ty body)
  init_made site i ty body n b = behind_made body _ ((initialiser_places P i n).value (scope_for site body (init_assigns i)) ty body.made b)

  pub used_made : (r : Within Evaluated) (last : Evaluated → Item) → Makes EvaluatedPlaces r → ((v : Evaluated) → ItemPlaces P (last v)) → Makes BodyPlaces (r >>= (λ v. Ok (with_last v.body (last v))))
  used_made r last e i = makes_then EvaluatedPlaces BodyPlaces r _ e (λ v m. last_made v.body (last v) m (i v))

  ran_made : (site : Site) (e : Expr) (body : Body) → ExprNodes P e → BodyPlaces body → Makes BodyPlaces (ran site e body)
  ran_made site e body n b = makes_then EvaluatedPlaces BodyPlaces (evaluated site e body) _ (evaluated_made site e body n b) (λ v m. m)

  all_ran_made : (es : List Expr) (site : Site) (body : Body) → AllByRecursion (ExprNodes P) es → BodyPlaces body → Makes BodyPlaces (all_ran es site body)
  all_ran_made [] site body n b = b
  all_ran_made (e ∷ es) site body n b = makes_then BodyPlaces BodyPlaces (ran site e body) (all_ran es site) (ran_made site e body n.0 b) (λ second m. all_ran_made es site second n.1 m)

  abbrev TestedPlaces : Tested → Type 0
  TestedPlaces asked = CondPlaces P asked.cond × BodyPlaces asked.body

  tested_made : (site : Site) (e : Expr) (body : Body) → ExprNodes P e → BodyPlaces body → Makes TestedPlaces (tested site e body)
  tested_made site e body n b = makes_then (λ (a : Asked). CondPlaces P a.cond) TestedPlaces
      ((lowering e).condition (scope_for site body (assigns e).inside) body.made.free) _ ((expression_places P e n).condition (scope_for site body (assigns e).inside) body.made.free)
      (λ asked c. (c, b))

  tested_if_made : (e : Option Expr) (site : Site) (body : Body) → IfSome (ExprNodes P) e → BodyPlaces body → Makes TestedPlaces (tested_if e site body)
  tested_if_made (Some e) site body n b = tested_made site e body n b
  tested_if_made None site body n b = (tt, b)

  -- ---- blocks of their own

  abbrev InsidePlaces : Inside → Type 0
  InsidePlaces made = ItemsPlaces P made.block.items × BodyPlaces made.body

  abbrev begun_block : Body → Body
  begun_block body = record body { made = empty body.made.free }

  inside_made : (run : Body → Within Body) (body : Body) → BodyPlaces body → Makes BodyPlaces (run (begun_block body)) → Makes InsidePlaces (inside run body)
  inside_made run body b r = makes_then BodyPlaces InsidePlaces (run (begun_block body)) _ r (λ inner m. (m, b))

  abbrev pub Runs : Running → Type 0
  Runs part = (site : Site) (end : ℕ) (body : Body) → BodyPlaces body → Makes BodyPlaces (part.run site end body)

  branch_made : (part : Running) → Runs part → (site : Site) (body : Body) → BodyPlaces body → Makes InsidePlaces (statements.branch part site body)
  branch_made part runs site body b = inside_made (part.run site part.span.to) body b (runs site part.span.to (begun_block body) tt)

  abbrev OptionRuns : Option Running → Type 0
  OptionRuns None = Unit {0}
  OptionRuns (Some part) = Runs part

  branch_if_made : (part : Option Running) → OptionRuns part → (site : Site) (body : Body) → BodyPlaces body → Makes InsidePlaces (statements.branch_if part site body)
  branch_if_made None runs site body b = (tt, b)
  branch_if_made (Some part) runs site body b = branch_made part runs site body b

  pub each_made : (rs : List Running) → AllByRecursion Runs rs → (site : Site) (end : ℕ) (body : Body) → BodyPlaces body → Makes BodyPlaces (statements.each rs site end body)
  each_made [] all site end body b = b
  each_made (r ∷ rs) all site end body b = makes_then BodyPlaces BodyPlaces (r.run site end body) _ (all.0 site end body b) (λ second m. each_made rs all.1 site end second m)

  -- ---- choices and loops

  chosen_made : (condition : Expr) (first : Running) (second : Option Running) → ExprNodes P condition → Runs first → OptionRuns second → (site : Site) (body : Body) → BodyPlaces body
      → Makes BodyPlaces (statements.chosen condition first second site body)
  chosen_made condition first second n one two site body b =
      makes_then TestedPlaces BodyPlaces (tested site condition body) _ (tested_made site condition body n b)
      (λ asked t. makes_then InsidePlaces BodyPlaces (statements.branch first site asked.body) _ (branch_made first one site asked.body t.1)
      (λ holds h. makes_then InsidePlaces BodyPlaces (statements.branch_if second site holds.body) _ (branch_if_made second two site holds.body h.1)
      (λ fails f. last_made fails.body (item.If asked.cond holds.block fails.block) f.1 (if_places P asked.cond holds.block fails.block t.0 h.0 f.0))))

  loop_taken : (body : Body) (fits : Bool) → BodyPlaces body → Makes BodyPlaces (if fits then Ok (record body { loops = body.loops + 1 }) else Err which.Loops)
  loop_taken body true b = b
  loop_taken body false b = tt

  loop_begins : (body : Body) → BodyPlaces body → Makes BodyPlaces (in_loop body)
  loop_begins body b = loop_taken body (nat_lt body.loops most_loops) b

  while_made : (condition : Expr) (turn : Running) → ExprNodes P condition → Runs turn → (site : Site) (body : Body) → BodyPlaces body → Makes BodyPlaces (statements.while condition turn site body)
  while_made condition turn n runs site body b =
      makes_then BodyPlaces BodyPlaces (in_loop body) _ (loop_begins body b)
      (λ begun m. makes_then TestedPlaces BodyPlaces (tested site condition begun) _ (tested_made site condition begun n m)
      (λ asked t. makes_then InsidePlaces BodyPlaces (statements.branch turn site asked.body) _ (branch_made turn runs site asked.body t.1)
      (λ inner i. last_made inner.body (item.Loop true asked.cond inner.block no_block body.loops body.made.free) i.1
      (loop_places P true asked.cond inner.block no_block body.loops body.made.free t.0 i.0 tt))))

  do_made : (turn : Running) (condition : Expr) → ExprNodes P condition → Runs turn → (site : Site) (body : Body) → BodyPlaces body → Makes BodyPlaces (statements.do_while turn condition site body)
  do_made turn condition n runs site body b =
      makes_then BodyPlaces BodyPlaces (in_loop body) _ (loop_begins body b)
      (λ begun m. makes_then InsidePlaces BodyPlaces (statements.branch turn site begun) _ (branch_made turn runs site begun m)
      (λ inner i. makes_then TestedPlaces BodyPlaces (tested site condition inner.body) _ (tested_made site condition inner.body n i.1)
      (λ asked t. last_made asked.body (item.Loop false asked.cond inner.block no_block body.loops body.made.free) t.1
      (loop_places P false asked.cond inner.block no_block body.loops body.made.free t.0 i.0 tt))))

  for_made : (first : List Running) (condition : Option Expr) (update : List Expr) (turn : Running) → AllByRecursion Runs first → IfSome (ExprNodes P) condition → AllByRecursion (ExprNodes P) update → Runs turn
      → (end : ℕ) (site : Site) (body : Body) → BodyPlaces body → Makes BodyPlaces (statements.counted first condition update turn end site body)
  for_made first condition update turn all c u runs end site body b =
      makes_then BodyPlaces BodyPlaces (statements.each first site end body) _ (each_made first all site end body b)
      (λ begin x. makes_then BodyPlaces BodyPlaces (in_loop begin) _ (loop_begins begin x)
      (λ begun m. makes_then TestedPlaces BodyPlaces (tested_if condition site begun) _ (tested_if_made condition site begun c m)
      (λ asked t. makes_then InsidePlaces BodyPlaces (statements.branch turn site asked.body) _ (branch_made turn runs site asked.body t.1)
      (λ inner i. makes_then InsidePlaces BodyPlaces (inside (all_ran update site) inner.body) _
      (inside_made (all_ran update site) inner.body i.1 (all_ran_made update site (begun_block inner.body) u tt))
      (λ next l. last_made (statements.with_free body.made.free next.body) (item.Loop true asked.cond inner.block next.block begin.loops begin.made.free) l.1
      (loop_places P true asked.cond inner.block next.block begin.loops begin.made.free t.0 i.0 l.0))))))

  -- ---- declarations of locals

  local_made : (name : Ident) (end : ℕ) (site : Site) (body : Body) → BodyPlaces body → Makes BodyPlaces (with_local name end site body)
  local_made name end site body b = within (nat_lt body.made.free most_slots)
    where
      within : (fits : Bool) → Makes BodyPlaces (if fits then Ok (record {
        made = record { items = body.made.items; free = body.made.free + 1 };
        locals = body.locals ++ (record { slot = body.made.free; name = name.text; claims = declared_claims (site.names.declared name.span) }, record { from = name.span.from; to = end }) ∷ [];
        most = max body.most (body.made.free + 1);
        loops = body.loops;
      }) else Err which.Slots)
      within true = b
      within false = tt

  initialised_made : (slot : ℕ) (ty : Type_) (name : Span) (init : Option Init) (site : Site) (body : Body) → P name → IfSome (InitNodes P) init → BodyPlaces body
      → Makes BodyPlaces (statements.initialised slot ty name init site body)
  initialised_made slot ty name None site body p n b =
      used_made _ (λ v. write (spot.Variable slot) v.slot ty name name name) (behind_made body _ (computed_made P body.made (op.Const body.made.free (default ty)) name b p tt))
      (λ v. write_place P (spot.Variable slot) v.slot ty name name name tt p p p)
  initialised_made slot ty name (Some init) site body p n b =
      let own = (initialiser_places P init n).own in
      used_made _ (λ v. write (spot.Variable slot) v.slot ((filling init).ty site ty) (filling init).span name (filling init).span) (init_made site init ty body n b)
      (λ v. write_place P (spot.Variable slot) v.slot ((filling init).ty site ty) (filling init).span name (filling init).span tt own p own)

  declaration_made : (d : LocalDecl) (site : Site) (end : ℕ) (body : Body) → DeclNodes P d → BodyPlaces body → Makes BodyPlaces (statements.declaration d site end body)
  declaration_made d site end body n b =
      makes_then BodyPlaces BodyPlaces (with_local d.name end site body) _ (local_made d.name end site body b)
      (λ second m. initialised_made body.made.free (declared_type (site.names.declared d.name.span)) d.name.span d.init site second n.name n.init m)

  declarations_made : (ds : List LocalDecl) (site : Site) (end : ℕ) (body : Body) → AllByRecursion (DeclNodes P) ds → BodyPlaces body → Makes BodyPlaces (statements.declarations ds site end body)
  declarations_made [] site end body n b = b
  declarations_made (d ∷ ds) site end body n b =
      makes_then BodyPlaces BodyPlaces (statements.declaration d site end body) _ (declaration_made d site end body n.0 b) (λ second m. declarations_made ds site end second n.1 m)

  -- ---- all forms

  answer_places : (holds : Bool) (slot : ℕ) (span : Span) → P span → ItemsPlaces P (statements.answer holds slot span).items
  answer_places holds slot span p = (done_places P (op.Const slot (literal.Bool holds)) span [] p tt tt, ((p, tt), tt))

  answered_made : (site : Site) (e : Expr) (body : Body) → ExprNodes P e → BodyPlaces body → Makes BodyPlaces (statements.answered site e body)
  answered_made site e body n b =
      makes_then (λ (a : Asked). CondPlaces P a.cond) BodyPlaces
      ((lowering e).condition (scope_for site body (assigns e).inside) body.made.free) _ ((expression_places P e n).condition (scope_for site body (assigns e).inside) body.made.free)
      (λ asked c. makes_then (ValuePlaces P) BodyPlaces _ _
      (taking_made P (record { items = body.made.items; free = asked.free }) (statements.answer_item asked.cond asked.free e.span) b
      (if_places P asked.cond (statements.answer true asked.free e.span) (statements.answer false asked.free e.span) c (answer_places true asked.free e.span (expr_own e n)) (answer_places false asked.free e.span (expr_own e n))))
      (λ v m. m))

  returned_made : (value : Option Expr) (span : Span) (site : Site) (body : Body) → P span → IfSome (ExprNodes P) value → BodyPlaces body → Makes BodyPlaces (statements.returned value span site body)
  returned_made None span site body p n b = last_made body (item.Return None span) b (p, tt)
  returned_made (Some e) span site body p n b = answers_or_not site.answers
    where
      answers_or_not : (answers : Bool) → Makes BodyPlaces (if answers then statements.answered site e body else statements.used site e (λ slot. item.Return (Some slot) e.span) body)
      answers_or_not true = answered_made site e body n b
      answers_or_not false = used_made (evaluated site e body) (λ v. item.Return (Some v.slot) e.span) (evaluated_made site e body n b) (λ v. (expr_own e n, tt))

  abbrev kind_run : StmtKind → Span → Run
  kind_run = fold-StmtKind (Span → Run) Running statements.kind_step statements.stmt_step

  abbrev kind_pieces : StmtKind → List Layout
  kind_pieces = fold-StmtKind (List Layout) Layout placed.stmt_kind_pieces placed.stmt_of

  abbrev KindIs : StmtKind → Type 0
  KindIs k = (span : Span) → P span → EachNode P (row (kind_pieces k)) → (site : Site) (end : ℕ) (body : Body) → BodyPlaces body → Makes BodyPlaces (kind_run k span site end body)

  abbrev StmtIs : Stmt → Type 0
  StmtIs s = EachNode P (stmt_piece s) → Runs (statements.statement s)

  module _ {K S : Type 0} (kind : K → StmtKind) (stmt : S → Stmt) (stmt_is : (s : S) → StmtIs (stmt s)) where
    all_run : (ss : List S) → EachNode P (row (map stmt_piece (map stmt ss))) → AllByRecursion Runs (map statements.statement (map stmt ss))
    all_run [] all = tt
    all_run (s ∷ ss) all = let q = nodes_first P (stmt_piece (stmt s)) (map stmt_piece (map stmt ss)) all in (stmt_is s q.0, all_run ss q.1)

    one : (s : S) → EachNode P (row (stmt_piece (stmt s) ∷ [])) → Runs (statements.statement (stmt s))
    one s all = stmt_is s (nodes_alone P (stmt_piece (stmt s)) all)

    run_layer : (y : StmtKind-F K S) (span : Span) → P span → let layer = map-StmtKind K S StmtKind Stmt kind stmt y in
        EachNode P (row (placed.stmt_kind_pieces (map-StmtKind StmtKind Stmt (List Layout) Layout kind_pieces stmt_piece layer)))
        → (site : Site) (end : ℕ) (body : Body) → BodyPlaces body
        → Makes BodyPlaces (statements.kind_step (map-StmtKind StmtKind Stmt (Span → Run) Running kind_run statements.statement layer) span site end body)
    run_layer (StmtKind-F.Block ss) span p all site end body b =
        makes_then BodyPlaces BodyPlaces (statements.each (map statements.statement (map stmt ss)) site span.to body) _ (each_made (map statements.statement (map stmt ss)) (all_run ss all) site span.to body b) (λ inner m. m)
    run_layer StmtKind-F.Empty span p all site end body b = b
    run_layer (StmtKind-F.Local decls) span p all site end body b = declarations_made decls site end body (locals_nodes P decls all) b
    run_layer (StmtKind-F.If condition first None) span p all site end body b =
        let q = nodes_first P (expr_piece condition) (stmt_piece (stmt first) ∷ []) all in
        chosen_made condition (statements.statement (stmt first)) None q.0 (one first q.1) tt site body b
    run_layer (StmtKind-F.If condition first (Some second)) span p all site end body b =
        let q = nodes_first P (expr_piece condition) (stmt_piece (stmt first) ∷ stmt_piece (stmt second) ∷ []) all in
        let r = nodes_first P (stmt_piece (stmt first)) (stmt_piece (stmt second) ∷ []) q.1 in
        chosen_made condition (statements.statement (stmt first)) (Some (statements.statement (stmt second))) q.0 (stmt_is first r.0) (one second r.1) site body b
    run_layer (StmtKind-F.While condition turn) span p all site end body b =
        let q = nodes_first P (expr_piece condition) (stmt_piece (stmt turn) ∷ []) all in while_made condition (statements.statement (stmt turn)) q.0 (one turn q.1) site body b
    run_layer (StmtKind-F.Do turn condition) span p all site end body b =
        let q = nodes_first P (stmt_piece (stmt turn)) (expr_piece condition ∷ []) all in
        do_made (statements.statement (stmt turn)) condition (nodes_alone P (expr_piece condition) q.1) (stmt_is turn q.0) site body b
    run_layer (StmtKind-F.For first condition update turn) span p all site end body b =
        let turned = stmt_piece (stmt turn) ∷ [] in
        let updates = map expr_piece update ++ turned in
        let q = nodes_rows P (map stmt_piece (map stmt first)) (maybe expr_piece condition ++ updates) all in
        let r = nodes_rows P (maybe expr_piece condition) updates q.1 in
        let s = nodes_rows P (map expr_piece update) turned r.1 in
        for_made (map statements.statement (map stmt first)) condition update (statements.statement (stmt turn)) (all_run first q.0) (nodes_maybe P expr_piece condition r.0) (nodes_each P expr_piece update s.0) (one turn s.1) span.to site body b
    run_layer StmtKind-F.Break span p all site end body b = last_made body item.Break b tt
    run_layer StmtKind-F.Continue span p all site end body b = last_made body item.Continue b tt
    run_layer (StmtKind-F.Return value) span p all site end body b = returned_made value span site body p (nodes_maybe P expr_piece value all) b
    run_layer (StmtKind-F.Throw name) span p all site end body b = last_made body (item.Throw name.text span) b (p, tt)
    run_layer (StmtKind-F.Print value) span p all site end body b =
        let n = nodes_alone P (expr_piece value) all in
        used_made (evaluated site value body) (λ v. done (op.Print v.slot) value.span []) (evaluated_made site value body n b) (λ v. done_places P (op.Print v.slot) value.span [] (expr_own value n) tt tt)
    run_layer (StmtKind-F.Run e) span p all site end body b = ran_made site e body (nodes_alone P (expr_piece e) all) b

    run_rolled : (y : StmtKind-F K S) → KindIs (roll-StmtKind (map-StmtKind K S StmtKind Stmt kind stmt y))
    run_rolled y span p all site end body b =
        let layer = map-StmtKind K S StmtKind Stmt kind stmt y in
        let a = fold-roll-StmtKind (Span → Run) Running statements.kind_step statements.stmt_step layer in
        let c = fold-roll-StmtKind (List Layout) Layout placed.stmt_kind_pieces placed.stmt_of layer in
        subst (λ (f : Span → Run). Makes BodyPlaces (f span site end body)) (sym a) (run_layer y span p (subst (λ (l : List Layout). EachNode P (row l)) c all) site end body b)

    stmt_rolled : ((k : K) → KindIs (kind k)) → (y : Stmt-F K S) → StmtIs (roll-Stmt (map-Stmt K S StmtKind Stmt kind stmt y))
    stmt_rolled kind_is y all =
        let layer = map-Stmt K S StmtKind Stmt kind stmt y in
        let a = fold-roll-Stmt (Span → Run) Running statements.kind_step statements.stmt_step layer in
        let c = fold-roll-Stmt (List Layout) Layout placed.stmt_kind_pieces placed.stmt_of layer in
        let q = nodes_piece P y.span (kind_pieces (kind y.kind)) (subst (EachNode P) c all) in
        subst Runs (sym a) (λ site end body b. kind_is y.kind y.span q.0 q.1 site end body b)

  pub statement_places : (s : Stmt) → StmtNodes P s → Runs (statements.statement s)
  statement_places = ind-Stmt KindIs StmtIs
      (λ x y e. subst (λ layer. KindIs (roll-StmtKind layer)) e (run_rolled (λ k. k.0) (λ s. s.0) (λ s. s.1) y))
      (λ x y e. subst (λ layer. StmtIs (roll-Stmt layer)) e (stmt_rolled (λ k. k.0) (λ s. s.0) (λ s. s.1) (λ k. k.1) y))

  pub statements_places : (ss : List Stmt) → AllByRecursion (StmtNodes P) ss → AllByRecursion Runs (map statements.statement ss)
  statements_places [] all = tt
  statements_places (s ∷ ss) all = (statement_places s all.0, statements_places ss all.1)
