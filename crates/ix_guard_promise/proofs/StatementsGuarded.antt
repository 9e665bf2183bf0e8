-- In the plain code of each statement of a guarded text each access at a place moved is guarded, where the source has its tests there: the induction over the two trees.
use Rattle.std.proofs.Common.{◌≡◌, ℕ, true, List, [], ◌∷◌, ◌++◌, map, Option, None, Some, refl, sym, ap, subst, ◌∙◌}
use Rattle.std.specs.Prelude.{◌&&◌, not}
use Rattle.std.proofs.lemmas.Bool.{and_parts}
use Rattle.ix_text.specs.declared.span.Span.{Span}
use Rattle.ix_core.specs.declared.code.Item.TheVariants as item
use Rattle.ix_core.specs.declared.program.Local.{Local}
use Rattle.ix_core.specs.Code.{End}
use Rattle.ix_core.specs.Types.{is_void}
use Rattle.ix_tree.specs.declared.decl.LocalDecl.{LocalDecl}
use Rattle.ix_tree.specs.declared.expr.Expr.{Expr}
use Rattle.ix_tree.specs.declared.stmt.Stmt.{Stmt}
use Rattle.ix_tree.specs.declared.stmt.StmtKind.{StmtKind-F}
use Rattle.ix_tree.specs.declared.stmt.StmtKind.TheVariants as s
use Rattle.ix_tree.proofs.FoldsOfForms as fold
use Rattle.ix_guard_text.specs.Bare.{bare_maybe}
use Rattle.ix_plain.specs.declared.body.Body.{Body}
use Rattle.ix_plain.specs.Assigned.{assigns}
use Rattle.ix_plain.specs.Scope.{type_at}
use Rattle.ix_plain.specs.Statements as plain
use Rattle.ix_plain.specs.Statements.{Running, scope_for, assigned_by}
use Rattle.ix_formed.specs.Additions.{Makes, AllOf}
use Rattle.ix_formed.specs.Readable.{Statement, stmt_shape, is_part, or_part, each_fine, is_readable_expr, is_readable_stmt}
use Rattle.ix_formed.specs.Written.{maybe_true, each_true}
use Rattle.ix_formed.proofs.NumberLists.{all_so, all_joined}
use Rattle.ix_formed.proofs.PlainItems.{makes_more, makes_then}
use Rattle.ix_source.specs.Running.{Ground, standing}
use Rattle.ix_source.specs.Sound.{soundness}
use Rattle.ix_source.specs.SoundStatements as sound
use Rattle.ix_source.specs.SoundStatements.{StatementSoundness, statement_soundness, where_made, used_at, ran_at, used_if}
use Rattle.ix_source.proofs.SoundRuns.{running_is}
use Rattle.ix_guard.specs.Accesses.{Access, parts_of, all_decl_parts, Parts as Read}
use Rattle.ix_guard.specs.Tests.{Site, is_variable}
use Rattle.ix_guard.specs.Trees.{statement, expression_tested, declaration_tested, returning, tested as tested_by}
use Rattle.ix_guard_promise.specs.Known.{Known, Nowhere, Unknown, Inside}
use Rattle.ix_guard_promise.specs.Guards.{ends, breaks, continues, throws}
use Rattle.ix_guard_promise.specs.Pieces.{IsElsewhere, Keeps}
use Rattle.ix_guard_promise.proofs.Saying.{says_unknown}
use Rattle.ix_guard_text.specs.Moved as moved
use Rattle.ix_guard_text.specs.Moved.{Move, moved_span, moved_expr, moved_decl, moved_stmt}
use Rattle.ix_guard_text.specs.TestParts.{Parts}
use Rattle.ix_guard_text.specs.GuardedPlaces as placed
use Rattle.ix_guard_text.specs.GuardedPlaces.{AreTests, Inner, Alone, InList}
use Rattle.ix_guard_promise.specs.AllAccesses.{AnyAccess, all_accesses, decl_accesses, maybe, each_of}
use Rattle.ix_guard_promise.specs.AtPlace.{IsOff, HasNone}
use Rattle.ix_guard_promise.specs.KeptSlots.{Leaves, Appends}
use Rattle.ix_guard_promise.specs.Outlines.{Outline, outline, outlines, everything}
use Rattle.ix_guard_promise.specs.SourceGuards as source
use Rattle.ix_guard_promise.specs.SourceGuards.{IsAmong, HasOnly, IsBehind, Guards, AreKept}
use Rattle.ix_guard_promise.specs.Laws.{AreInSlots, changes_of, Laws}
use Rattle.ix_guard_promise.proofs.Growing.{with_sound, Grows, grows_none, grows_both, grows_more, grows_less, elsewhere_grows, keeps_grows, KeepsKnown, elsewhere_known, keeps_known}
use Rattle.ix_guard_promise.proofs.Compounds.{IsFine, chosen_grows, while_grows, do_grows, for_grows, IsElse, ElseIf, KeepsIf, printed_grows, returned_grows, runs_grow, jump_grows}
use Rattle.ix_guard_promise.proofs.TestsGrow.{IsTest, HasVariables, are_sound, run, Rest, tests_keep, tests_tell}
use Rattle.ix_guard_promise.proofs.Forms as form
use Rattle.ix_guard_promise.proofs.Outlined.{tests_of, own_of, is_behind, guards_split, none_split, none_followed, among_so, tested_kept}

-- ---- what is known behind the tests of a statement

-- Nothing, where it has no access at the place itself; or that the index of a test is inside its array, where its accesses at the place are of the variables of that test.
pub data IsState (site : Site) (place : Span) (g : Ground) (tests : List Access) (own : List AnyAccess) (locals : List (Local × Span)) (free : ℕ) : Known → Type 0 where
  no_access : HasNone place own → IsState site place g tests own locals free Unknown
  in_range : (test : Access) (array index : ℕ) → IsAmong test tests → HasOnly site place test own → AreInSlots site g locals free test array index → IsState site place g tests own locals free (Inside array index)

kept_variables : (site : Site) (declared : List LocalDecl) (parts : Read) (access : Access) → AreKept site (changes_of site declared parts) access
    → (is_variable (site.names.meaning access.array.span) ≡ true) × (is_variable (site.names.meaning access.index.span) ≡ true)
kept_variables site declared parts access kept = ((and_parts (is_variable (site.names.meaning access.array.span)) _ kept.array).0, (and_parts (is_variable (site.names.meaning access.index.span)) _ kept.index).0)

used_ran : (expr : Expr) (g : Ground) (body : Body) → used_at expr g body ≡ true → ran_at expr g body ≡ true
used_ran expr g body is =
    let z = standing g body (assigned_by g.site body (assigns expr).inside) in
    (and_parts ((soundness expr).value z) (not (is_void (type_at z.scope (soundness expr).span))) is).0

-- the statements behind tests are read so where all are
fine_behind : (tests rest : List Stmt) → each_fine (map stmt_shape (tests ++ rest)) ≡ true → each_fine (map stmt_shape rest) ≡ true
fine_behind [] rest fine = fine
fine_behind (first ∷ tests) rest fine = fine_behind tests rest (and_parts (is_readable_stmt first) (each_fine (map stmt_shape (tests ++ rest))) fine).1

module _ (site : Site) (move : Move) (place : Span) (g : Ground) (laws : Laws site move place g) where
  abbrev at : Span
  at = moved_span move place

  abbrev IsOne : Access → Parts → Type 0
  IsOne = IsTest site move at g

  abbrev State : List Access → List AnyAccess → Body → Known → Type 0
  State tests own body known = IsState site place g tests own body.locals body.made.free known

  -- What it adds is guarded, where it is sound there and this is known before it.
  abbrev Does : Known → ℕ → Body → StatementSoundness → Type 0
  Does known end body x = x.sound g end body ≡ true → Makes (λ (after : Body). Grows at known Unknown body.made after.made) (x.running.run g.site end body)

  does_more : (known : Known) (end : ℕ) (body : Body) (x : StatementSoundness) → Does Unknown end body x → Does known end body x
  does_more known end body x does is =
      makes_more (λ (after : Body). Grows at Unknown Unknown body.made after.made) (λ (after : Body). Grows at known Unknown body.made after.made)
      (λ after a. grows_more at known Unknown Unknown body.made after.made (says_unknown known) a) (x.running.run g.site end body) (does is)

  -- a statement, and those behind it
  one_then : (start between last : Known) (x : Stmt) (stmts : List Stmt) (end : ℕ) (body : Body)
      → ((statement_soundness x).sound g end body ≡ true → Makes (λ (after : Body). Grows at start between body.made after.made) ((statement_soundness x).running.run g.site end body))
      → ((after : Body) → are_sound site move at g stmts end after ≡ true → Rest site move at g between last after (run site move at g stmts end after))
      → are_sound site move at g (x ∷ stmts) end body ≡ true → Rest site move at g start last body (run site move at g (x ∷ stmts) end body)
  one_then start between last x stmts end body does next is =
      let q = statement_soundness x in
      let p = and_parts (q.sound g end body) (where_made (q.running.run g.site end body) (are_sound site move at g stmts end)) is in
      makes_then (λ (after : Body). Grows at start between body.made after.made × (are_sound site move at g stmts end after ≡ true)) (λ (z : Body). Grows at start last body.made z.made) (q.running.run g.site end body) _
      (with_sound (λ (after : Body). Grows at start between body.made after.made) (q.running.run g.site end body) (are_sound site move at g stmts end) (does p.0) p.1)
      (λ after a. makes_more (λ (z : Body). Grows at between last after.made z.made) (λ (z : Body). Grows at start last body.made z.made)
      (λ z b. grows_both at start between last body.made after.made z.made a.0 b) (run site move at g stmts end after) (next after a.1))

  -- ---- expressions

  expression_kept : (expr : Expr) (test : Access) → IsAmong test (expression_tested site expr) → AreKept site (changes_of site [] (parts_of expr)) test
  expression_kept expr test among =
      among_so (AreKept site (changes_of site [] (parts_of expr))) test (expression_tested site expr) (tested_kept site (changes_of site [] (parts_of expr)) [] (parts_of expr).accesses) among

  expression_keeps : (expr : Expr) (known : Known) (body : Body) → State (expression_tested site expr) (all_accesses expr) body known → is_readable_expr (moved_expr move expr) ≡ true
      → ran_at (moved_expr move expr) g body ≡ true → KeepsKnown at known (scope_for g.site body (assigns (moved_expr move expr)).inside) body.made (moved_expr move expr)
  expression_keeps expr _ body (no_access none) fine is =
      let scope = scope_for g.site body (assigns (moved_expr move expr)).inside in
      elsewhere_known at scope body.made (moved_expr move expr) (laws.elsewhere expr scope body.made none fine)
  expression_keeps expr _ body (in_range test array index among only slots) fine is =
      let scope = scope_for g.site body (assigns (moved_expr move expr)).inside in
      keeps_known at array index scope body.made (moved_expr move expr) (laws.kept expr test array index body (expression_kept expr test among) only slots fine is)

  -- one without an access at the place
  is_else : (expr : Expr) → HasNone place (all_accesses expr) → is_readable_expr (moved_expr move expr) ≡ true → IsElse at g (moved_expr move expr)
  is_else expr none fine scope made = elsewhere_known at scope made (moved_expr move expr) (laws.elsewhere expr scope made none fine)

  else_if : (expr : Option Expr) → HasNone place (maybe all_accesses expr) → maybe_true is_readable_expr (bare_maybe (moved_expr move) expr) ≡ true → ElseIf at g (bare_maybe (moved_expr move) expr)
  else_if None none fine = tt
  else_if (Some expr) none fine = is_else expr none fine

  all_else : (exprs : List Expr) → HasNone place (each_of all_accesses exprs) → each_true is_readable_expr (map (moved_expr move) exprs) ≡ true → AllOf (IsElse at g) (map (moved_expr move) exprs)
  all_else [] none fine = tt
  all_else (expr ∷ exprs) none fine =
      let n = none_split place (all_accesses expr) (each_of all_accesses exprs) none in
      let f = and_parts (is_readable_expr (moved_expr move expr)) (each_true is_readable_expr (map (moved_expr move) exprs)) fine in
      (is_else expr n.0 f.0, all_else exprs n.1 f.1)

  value_keeps : (value : Option Expr) (known : Known) (body : Body) → State (returning site value) (maybe all_accesses value) body known → maybe_true is_readable_expr (bare_maybe (moved_expr move) value) ≡ true
      → used_if (bare_maybe (moved_expr move) value) g body ≡ true → KeepsIf at g known (bare_maybe (moved_expr move) value) body
  value_keeps None known body state fine is = tt
  value_keeps (Some expr) known body state fine is = expression_keeps expr known body state fine (used_ran (moved_expr move expr) g body is)

  -- ---- declarations in a list, and statements without an access at the place

  statement_else : (x : Stmt) → HasNone place (everything (outline site x)) → is_readable_stmt (moved_stmt move x) ≡ true → (end : ℕ) (body : Body)
      → Makes (λ (after : Body). Grows at Unknown Unknown body.made after.made) ((statement_soundness (moved_stmt move x)).running.run g.site end body)
  statement_else x none fine end body =
      subst (λ (r : Running). Makes (λ (after : Body). Grows at Unknown Unknown body.made after.made) (r.run g.site end body)) (sym (running_is (moved_stmt move x)))
      (makes_more (λ (after : Body). Appends (IsElsewhere at) body.made after.made) (λ (after : Body). Grows at Unknown Unknown body.made after.made)
      (λ after a. elsewhere_grows at body.made after.made a) ((plain.statement (moved_stmt move x)).run g.site end body) (laws.statement_elsewhere x end body none fine))

  all_statements_else : (xs : List Stmt) → HasNone place (everything (outlines site xs)) → each_fine (map stmt_shape (map (moved_stmt move) xs)) ≡ true → (end : ℕ) (body : Body)
      → Makes (λ (after : Body). Grows at Unknown Unknown body.made after.made) (run site move at g (map (moved_stmt move) xs) end body)
  all_statements_else [] none fine end body = grows_none at Unknown body.made body.made refl
  all_statements_else (x ∷ xs) none fine end body =
      let n = none_followed place (outline site x) (outlines site xs) none in
      let f = and_parts (is_readable_stmt (moved_stmt move x)) (each_fine (map stmt_shape (map (moved_stmt move) xs))) fine in
      makes_then (λ (next : Body). Grows at Unknown Unknown body.made next.made) (λ (after : Body). Grows at Unknown Unknown body.made after.made) ((statement_soundness (moved_stmt move x)).running.run g.site end body) _
      (statement_else x n.0 f.0 end body)
      (λ next a. makes_more (λ (after : Body). Grows at Unknown Unknown next.made after.made) (λ (after : Body). Grows at Unknown Unknown body.made after.made)
      (λ after b. grows_both at Unknown Unknown Unknown body.made next.made after.made a b) (run site move at g (map (moved_stmt move) xs) end next) (all_statements_else xs n.1 f.1 end next))

  abbrev new_local : List LocalDecl → Span → Stmt
  new_local decls span = statement (s.Local (map (moved_decl move) decls)) (moved_span move span)

  moved_local : (decls : List LocalDecl) (span : Span) → moved_stmt move (statement (s.Local decls) span) ≡ new_local decls span
  moved_local decls span =
      fold.stmt_is (moved.stmt_kind_step move) (moved.stmt_step move) (s.Local decls) span
      ∙ ap (λ kind. statement kind (moved_span move span)) (fold.local_kind (moved.stmt_kind_step move) (moved.stmt_step move) decls)

  local_does : (decls : List LocalDecl) (span : Span) (known : Known) (end : ℕ) (body : Body) → State (declaration_tested site decls) (each_of decl_accesses decls) body known → is_readable_stmt (new_local decls span) ≡ true
      → Does known end body (statement_soundness (new_local decls span))
  local_does decls span _ end body (no_access none) fine is =
      subst (λ (x : Stmt). Makes (λ (after : Body). Grows at Unknown Unknown body.made after.made) ((statement_soundness x).running.run g.site end body)) (moved_local decls span)
      (statement_else (statement (s.Local decls) span)
      (subst (λ (o : Outline). HasNone place (everything o)) (sym (form.local_outline site decls span)) (all_joined (IsOff place) (each_of decl_accesses decls) [] none tt))
      (subst (λ (x : Stmt). is_readable_stmt x ≡ true) (sym (moved_local decls span)) fine) end body)
  local_does decls span _ end body (in_range test array index among only slots) fine is =
      let changes = changes_of site decls (all_decl_parts decls) in
      let kept = among_so (AreKept site changes) test (declaration_tested site decls) (tested_kept site changes [] (all_decl_parts decls).accesses) among in
      let readable = ap (λ (x : Statement). x.fine) (sym (form.local_shape (map (moved_decl move) decls) (moved_span move span))) ∙ fine in
      subst (λ (x : StatementSoundness). Does (Inside array index) end body x) (sym (form.local_sound (map (moved_decl move) decls) (moved_span move span)))
      (λ sound.
      makes_more (λ (after : Body). Leaves (Keeps at array index) body.made after.made) (λ (after : Body). Grows at (Inside array index) Unknown body.made after.made)
      (λ after a. grows_less at (Inside array index) (Inside array index) body.made after.made (keeps_grows at array index body.made after.made a)) (plain.declarations (map (moved_decl move) decls) g.site end body)
      (laws.kept_locals decls test array index end body kept only slots readable sound)) is

  -- ---- the tests of a statement

  variables_of : (declared : List LocalDecl) (parts : Read) → AllOf (HasVariables site move at g) (tested_by site declared parts)
  variables_of declared parts =
      all_so (AreKept site (changes_of site declared parts)) (HasVariables site move at g)
      (λ access kept. let v = kept_variables site declared parts access kept in record { array = v.0; index = v.1 })
      (tested_by site declared parts) (tested_kept site (changes_of site declared parts) [] parts.accesses)

  returning_variables : (value : Option Expr) → AllOf (HasVariables site move at g) (returning site value)
  returning_variables None = tt
  returning_variables (Some expr) = variables_of [] (parts_of expr)

  -- They are those of its outline, and their names mean variables.
  record HasTests (old : Stmt) (accesses : List Access) : Type 0 where
    same : tests_of (outline site old) ≡ accesses
    variables : AllOf (HasVariables site move at g) accesses

  inner_tests : (old new : Stmt) (accesses : List Access) → Inner site move IsOne old new accesses → HasTests old accesses
  inner_tests _ _ _ (placed.block statements others span other begins list) = record { same = ap tests_of (form.block_outline site statements span); variables = tt }
  inner_tests _ _ _ (placed.empty span) = record { same = ap tests_of (form.empty_outline site span); variables = tt }
  inner_tests _ _ _ (placed.if_then condition first second span other begins alone) = record { same = ap tests_of (form.if_outline site condition first span); variables = variables_of [] (parts_of condition) }
  inner_tests _ _ _ (placed.if_else condition first second third fourth span other begins one two) = record { same = ap tests_of (form.if_else_outline site condition first third span); variables = variables_of [] (parts_of condition) }
  inner_tests _ _ _ (placed.while_do condition first second span other begins alone) = record { same = ap tests_of (form.while_outline site condition first span); variables = tt }
  inner_tests _ _ _ (placed.do_while condition first second span other begins alone) = record { same = ap tests_of (form.do_outline site first condition span); variables = tt }
  inner_tests _ _ _ (placed.for_do start condition update first second span other begins alone) = record { same = ap tests_of (form.for_outline site start condition update first span); variables = tt }
  inner_tests _ _ _ (placed.breaks span) = record { same = ap tests_of (form.break_outline site span); variables = tt }
  inner_tests _ _ _ (placed.continues span) = record { same = ap tests_of (form.continue_outline site span); variables = tt }
  inner_tests _ _ _ (placed.returns value span) = record { same = ap tests_of (form.return_outline site value span); variables = returning_variables value }
  inner_tests _ _ _ (placed.throws name span) = record { same = ap tests_of (form.throw_outline site name span); variables = tt }
  inner_tests _ _ _ (placed.prints value span) = record { same = ap tests_of (form.print_outline site value span); variables = variables_of [] (parts_of value) }
  inner_tests _ _ _ (placed.runs expr span) = record { same = ap tests_of (form.run_outline site expr span); variables = variables_of [] (parts_of expr) }

  -- ---- statements behind tests

  -- Tests, then statements that go on from what is known behind them.
  behind_tests : (accesses : List Access) (tests : List Stmt) → AreTests IsOne accesses tests → AllOf (HasVariables site move at g) accesses → (own : List AnyAccess) → IsBehind site place accesses own
      → (last : Known) (rest : List Stmt) (end : ℕ) (body : Body) → are_sound site move at g (tests ++ rest) end body ≡ true
      → ((known : Known) (after : Body) → State accesses own after known → are_sound site move at g rest end after ≡ true → Rest site move at g known last after (run site move at g rest end after))
      → Rest site move at g Unknown last body (run site move at g (tests ++ rest) end body)
  behind_tests accesses tests are have own (source.free none) last rest end body is next =
      tests_keep site move at g accesses tests are have Unknown last rest end body tt is (λ after quiet sound. next Unknown after (no_access none) sound)
  behind_tests accesses tests are have own (source.tested test among only) last rest end body is next =
      tests_tell site move at g test accesses tests are among have last rest end body is (λ array index after slots sound. next (Inside array index) after (in_range test array index among only slots) sound)

  first_state : (accesses : List Access) (own : List AnyAccess) → accesses ≡ [] → IsBehind site place accesses own → (body : Body) → State [] own body Unknown
  first_state accesses own none (source.free free) body = no_access free
  first_state accesses own none (source.tested test among only) body = absurd (subst (λ (list : List Access). IsAmong test list) none among)

  none_last : (body : Body) → Rest site move at g Unknown Unknown body (run site move at g [] 0 body)
  none_last body = grows_none at Unknown body.made body.made refl

  -- in an outline, by what it is
  state_as : (one other : Outline) → one ≡ other → (tests : List Access) (body : Body) (known : Known) → State tests (own_of one) body known → State tests (own_of other) body known
  state_as one other same tests body known state = subst (λ (o : Outline). State tests (own_of o) body known) same state

  fine_as : (one other : Statement) → one ≡ other → one.fine ≡ true → other.fine ≡ true
  fine_as one other same fine = ap (λ (x : Statement). x.fine) (sym same) ∙ fine

  part_fine : (x : Stmt) → is_part (stmt_shape x) ≡ true → is_readable_stmt x ≡ true
  part_fine x part = (and_parts (not (stmt_shape x).declares) (stmt_shape x).fine part).1

  -- ---- the induction

  mutual
    -- a statement behind its tests
    pub inner_does : (old new : Stmt) (accesses : List Access) → Inner site move IsOne old new accesses → Guards site place (outline site old) → is_readable_stmt new ≡ true → (known : Known) (end : ℕ) (body : Body)
        → State accesses (own_of (outline site old)) body known → Does known end body (statement_soundness new)
    inner_does _ _ _ (placed.block statements others span other begins list) guards fine known end body state =
        let h = subst (Guards site place) (form.block_outline site statements span) guards in
        let f = fine_as _ _ (form.block_shape others other) fine in
        subst (Does known end body) (sym (form.block_sound others other)) (does_more known end body (sound.kind_step (StmtKind-F.Block (map statement_soundness others)) other)
        (λ is. makes_then (λ (inner : Body). Grows at Unknown Unknown body.made inner.made) (λ (after : Body). Grows at Unknown Unknown body.made after.made) (run site move at g others other.to body) _
        (list_does statements others list h.1.1.0 f other.to body is) (λ inner a. record { items = a.items; appended = a.appended; guarded = a.guarded })))
    inner_does _ _ _ (placed.empty span) guards fine known end body state =
        subst (Does known end body) (sym (form.empty_sound (moved_span move span))) (λ is. grows_less at known known body.made body.made (grows_none at known body.made body.made refl))
    inner_does _ _ _ (placed.if_then condition first second span other begins alone) guards fine known end body state =
        let o = form.if_outline site condition first span in
        let h = subst (Guards site place) o guards in
        let c = moved_expr move condition in
        let f = and_parts (is_readable_expr c) (is_part (stmt_shape second) && or_part None) (fine_as _ _ (form.if_shape c second other) fine) in
        let part = part_fine second (and_parts (is_part (stmt_shape second)) (or_part None) f.1).0 in
        subst (Does known end body) (sym (form.if_sound c second other))
        (λ is. chosen_grows at g known c (statement_soundness second) None body
        (expression_keeps condition known body (state_as _ _ o (expression_tested site condition) body known state) f.0 (used_ran c g body (and_parts (used_at c g body) _ is).0))
        (alone_does first second alone h.1.1.0 part) tt is)
    inner_does _ _ _ (placed.if_else condition first second third fourth span other begins one two) guards fine known end body state =
        let o = form.if_else_outline site condition first third span in
        let h = subst (Guards site place) o guards in
        let both = guards_split site place (outline site first) (outline site third) h.1.1.0 in
        let c = moved_expr move condition in
        let f = and_parts (is_readable_expr c) (is_part (stmt_shape second) && or_part (Some (stmt_shape fourth))) (fine_as _ _ (form.if_else_shape c second fourth other) fine) in
        let parts = and_parts (is_part (stmt_shape second)) (is_part (stmt_shape fourth)) f.1 in
        subst (Does known end body) (sym (form.if_else_sound c second fourth other))
        (λ is. chosen_grows at g known c (statement_soundness second) (Some (statement_soundness fourth)) body
        (expression_keeps condition known body (state_as _ _ o (expression_tested site condition) body known state) f.0 (used_ran c g body (and_parts (used_at c g body) _ is).0))
        (alone_does first second one both.0 (part_fine second parts.0)) (alone_does third fourth two both.1 (part_fine fourth parts.1)) is)
    inner_does _ _ _ (placed.while_do condition first second span other begins alone) guards fine known end body state =
        let h = subst (Guards site place) (form.while_outline site condition first span) guards in
        let c = moved_expr move condition in
        let f = and_parts (is_readable_expr c) (is_part (stmt_shape second)) (fine_as _ _ (form.while_shape c second other) fine) in
        subst (Does known end body) (sym (form.while_sound c second other)) (does_more known end body (sound.kind_step (StmtKind-F.While c (statement_soundness second)) other)
        (λ is. while_grows at g c (statement_soundness second) body (is_else condition h.1.0 f.0) (alone_does first second alone h.1.1.0 (part_fine second f.1)) is))
    inner_does _ _ _ (placed.do_while condition first second span other begins alone) guards fine known end body state =
        let h = subst (Guards site place) (form.do_outline site first condition span) guards in
        let c = moved_expr move condition in
        let f = and_parts (is_part (stmt_shape second)) (is_readable_expr c) (fine_as _ _ (form.do_shape second c other) fine) in
        subst (Does known end body) (sym (form.do_sound second c other)) (does_more known end body (sound.kind_step (StmtKind-F.Do (statement_soundness second) c) other)
        (λ is. do_grows at g (statement_soundness second) c body (is_else condition h.1.0 f.1) (alone_does first second alone h.1.1.0 (part_fine second f.0)) is))
    inner_does _ _ _ (placed.for_do start condition update first second span other begins alone) guards fine known end body state =
        let h = subst (Guards site place) (form.for_outline site start condition update first span) guards in
        let none = none_split place (everything (outlines site start)) (maybe all_accesses condition ++ each_of all_accesses update) h.1.0 in
        let more = none_split place (maybe all_accesses condition) (each_of all_accesses update) none.1 in
        let starts = map (moved_stmt move) start in
        let c = bare_maybe (moved_expr move) condition in
        let u = map (moved_expr move) update in
        let f = and_parts (each_fine (map stmt_shape starts)) (maybe_true is_readable_expr c && (each_true is_readable_expr u && is_part (stmt_shape second))) (fine_as _ _ (form.for_shape starts c u second other) fine) in
        let f1 = and_parts (maybe_true is_readable_expr c) (each_true is_readable_expr u && is_part (stmt_shape second)) f.1 in
        let f2 = and_parts (each_true is_readable_expr u) (is_part (stmt_shape second)) f1.1 in
        subst (Does known end body) (sym (form.for_sound starts c u second other)) (does_more known end body (sound.kind_step (StmtKind-F.For (map statement_soundness starts) c u (statement_soundness second)) other)
        (λ is. for_grows at g (map statement_soundness starts) c u (statement_soundness second) other.to body (all_statements_else start none.0 f.0 other.to body)
        (else_if condition more.0 f1.0) (all_else update more.1 f2.0) (alone_does first second alone h.1.1.0 (part_fine second f2.1)) is))
    inner_does _ _ _ (placed.breaks span) guards fine known end body state =
        subst (Does known end body) (sym (form.break_sound (moved_span move span))) (λ is. jump_grows at g known body item.Break (breaks End known Unknown (ends Nowhere Unknown tt)))
    inner_does _ _ _ (placed.continues span) guards fine known end body state =
        subst (Does known end body) (sym (form.continue_sound (moved_span move span))) (λ is. jump_grows at g known body item.Continue (continues End known Unknown (ends Nowhere Unknown tt)))
    inner_does _ _ _ (placed.returns value span) guards fine known end body state =
        let v = bare_maybe (moved_expr move) value in
        let f = fine_as _ _ (form.return_shape v (moved_span move span)) fine in
        subst (Does known end body) (sym (form.return_sound v (moved_span move span)))
        (λ is. returned_grows at g known v (moved_span move span) body (value_keeps value known body (state_as _ _ (form.return_outline site value span) (returning site value) body known state) f is))
    inner_does _ _ _ (placed.throws name span) guards fine known end body state =
        let n = moved.moved_name move name in
        subst (Does known end body) (sym (form.throw_sound n (moved_span move span))) (λ is. jump_grows at g known body (item.Throw n.text (moved_span move span)) (throws n.text (moved_span move span) End known Unknown (ends Nowhere Unknown tt)))
    inner_does _ _ _ (placed.prints value span) guards fine known end body state =
        let v = moved_expr move value in
        let f = fine_as _ _ (form.print_shape v (moved_span move span)) fine in
        subst (Does known end body) (sym (form.print_sound v (moved_span move span)))
        (λ is. printed_grows at g known v body (expression_keeps value known body (state_as _ _ (form.print_outline site value span) (expression_tested site value) body known state) f (used_ran v g body is)))
    inner_does _ _ _ (placed.runs expr span) guards fine known end body state =
        let v = moved_expr move expr in
        let f = fine_as _ _ (form.run_shape v (moved_span move span)) fine in
        subst (Does known end body) (sym (form.run_sound v (moved_span move span)))
        (λ is. runs_grow at g known v body (expression_keeps expr known body (state_as _ _ (form.run_outline site expr span) (expression_tested site expr) body known state) f is))

    -- a statement with its tests, where there are some in a block
    pub alone_does : (old new : Stmt) → Alone site move IsOne old new → Guards site place (outline site old) → is_readable_stmt new ≡ true → IsFine at g (statement_soundness new)
    alone_does _ _ (placed.untested old new inner) guards fine end body is =
        let have = inner_tests old new [] inner in
        inner_does old new [] inner guards fine Unknown end body (first_state (tests_of (outline site old)) (own_of (outline site old)) have.same (is_behind site place (outline site old) guards) body) is
    alone_does _ _ (placed.tested old new access rest tests span inner are) guards fine end body is =
        let have = inner_tests old new (access ∷ rest) inner in
        let all = tests ++ new ∷ [] in
        let f = (and_parts (is_readable_stmt new) true (fine_behind tests (new ∷ []) (fine_as _ _ (form.block_shape all span) fine))).0 in
        let behind = subst (λ (list : List Access). IsBehind site place list (own_of (outline site old))) have.same (is_behind site place (outline site old) guards) in
        subst (Does Unknown end body) (sym (form.block_sound all span))
        (λ is. makes_then (λ (inner : Body). Grows at Unknown Unknown body.made inner.made) (λ (after : Body). Grows at Unknown Unknown body.made after.made) (run site move at g all span.to body) _
        (behind_tests (access ∷ rest) tests are have.variables (own_of (outline site old)) behind Unknown (new ∷ []) span.to body is
        (λ known after state sound. one_then known Unknown Unknown new [] span.to after (inner_does old new (access ∷ rest) inner guards f known span.to after state) (λ last is. none_last last) sound))
        (λ inner a. record { items = a.items; appended = a.appended; guarded = a.guarded })) is

    -- a list of statements
    pub list_does : (olds news : List Stmt) → InList site move IsOne olds news → Guards site place (outlines site olds) → each_fine (map stmt_shape news) ≡ true → (end : ℕ) (body : Body)
        → are_sound site move at g news end body ≡ true → Rest site move at g Unknown Unknown body (run site move at g news end body)
    list_does _ _ placed.none guards fine end body is = none_last body
    list_does _ _ (placed.declared decls span tests statements others are list) guards fine end body is =
        let both = guards_split site place (outline site (statement (s.Local decls) span)) (outlines site statements) guards in
        let h = subst (Guards site place) (form.local_outline site decls span) both.0 in
        let f = and_parts (is_readable_stmt (new_local decls span)) (each_fine (map stmt_shape others)) (fine_behind tests (new_local decls span ∷ others) fine) in
        behind_tests (declaration_tested site decls) tests are (variables_of decls (all_decl_parts decls)) (each_of decl_accesses decls) h.0 Unknown (new_local decls span ∷ others) end body is
        (λ known after state sound.
        one_then known Unknown Unknown (new_local decls span) others end after (local_does decls span known end after state f.0) (λ next is. list_does statements others list both.1 f.1 end next is) sound)
    list_does _ _ (placed.other old new statements others alone list) guards fine end body is =
        let both = guards_split site place (outline site old) (outlines site statements) guards in
        let f = and_parts (is_readable_stmt new) (each_fine (map stmt_shape others)) fine in
        one_then Unknown Unknown Unknown new others end body (λ sound. alone_does old new alone both.0 f.0 end body sound) (λ next is. list_does statements others list both.1 f.1 end next is) is
