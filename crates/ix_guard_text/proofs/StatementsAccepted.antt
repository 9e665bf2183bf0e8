-- Guarded statements leave a scope as the statements do, and say nothing wrong where these don't.
use Rattle.std.proofs.Common.{◌≡◌, Bool, true, false, List, [], ◌∷◌, ◌++◌, map, Option, Some, None, refl, sym, ap, subst, ◌∙◌}
use Rattle.std.specs.Prelude.{not, ◌&&◌}
use Rattle.std.proofs.lemmas.Bool.{false≢true, and_parts}
use Rattle.ix_text.specs.declared.span.Span.{Span}
use Rattle.ix_tree.specs.declared.expr.Expr.{Expr}
use Rattle.ix_tree.specs.declared.stmt.Stmt.{Stmt, Stmt-F, ind-Stmt, map-Stmt, roll-Stmt, fold-roll-Stmt}
use Rattle.ix_tree.specs.declared.stmt.StmtKind.{StmtKind, StmtKind-F, map-StmtKind, roll-StmtKind, fold-StmtKind, fold-roll-StmtKind}
use Rattle.ix_tree.specs.declared.stmt.StmtKind.TheVariants as s
use Rattle.ix_meaning.specs.Bodies as bodies
use Rattle.ix_meaning.specs.Bodies.{Telling, telling, kind_telling, all_told, all_declared, after, inside, nothing, noting, then_told, closed, looped, noted_then, then_noted}
use Rattle.ix_meaning.specs.Declarators.{declarators}
use Rattle.ix_meaning.specs.Scope.{Scope}
use Rattle.ix_meaning.specs.Types.{boolean, of, printed}
use Rattle.ix_meaning.proofs.Equations as equations
use Rattle.ix_formed.specs.Readable as readable
use Rattle.ix_formed.specs.Readable.{Statement, each_fine, is_part, stmt_shape, is_readable_stmt, is_readable_expr}
use Rattle.ix_formed.specs.Written.{each_true, maybe_true}
use Rattle.ix_formed.proofs.CleanNotes.{clean_parts}
use Rattle.ix_guard.specs.Accesses.{Access}
use Rattle.ix_guard.specs.Tests.{Site}
use Rattle.ix_guard.specs.Trees as tree
use Rattle.ix_guard.specs.Trees.{Guarded, guarding, guarded_body, alone, in_list, in_block, each_in_list, statement, untested, with_tests, test_trees, expression_tested, declaration_tested, returning}
use Rattle.std.proofs.lemmas.List.{map-append}
use Rattle.ix_guard_text.proofs.AccessesFit.{Clean, AllFit, expression_finds, needed_fit}
use Rattle.ix_guard_text.proofs.KeptScopes.{IsOpen, Keeps, kept, kept_as, chained, kept_then, kept_closed, kept_in_block, kept_looped, kept_noted_then, kept_then_noted, one_told, told_both, tests_before}
use Rattle.ix_guard_text.proofs.DeclaredAccesses.{expression_fit, declaration_fit}

-- what declares nothing leaves the names in scope
abbrev Stays : Telling → Type 0
Stays t = (s : Scope) → t.names s ≡ s.names

-- A statement that does this with a scope is kept by what is made of it, wherever that stands.
pub record Guards (t : Telling) (made : Guarded) (declares : Bool) : Type 0 where
  pub itself : Keeps t (telling made.itself)
  pub alone : Keeps t (telling (alone made))
  pub listed : Keeps t (all_told (map telling (in_list made)))
  pub stays : declares ≡ false → Stays t

told_is : (k : StmtKind) (p : Span) (t : Telling) → kind_telling k p ≡ t → telling (statement k p) ≡ t
told_is k p t e = equations.stmt_is k p ∙ e

-- this kind of statement does that
keeps_of : (k : StmtKind) (p : Span) (t u : Telling) → kind_telling k p ≡ u → Keeps t u → Keeps t (telling (statement k p))
keeps_of k p t u e h = kept_as t u (telling (statement k p)) (told_is k p u e) h

untested_guards : (k : StmtKind) (p : Span) (t : Telling) (declares : Bool) → Keeps t (telling (statement k p)) → (declares ≡ false → Stays t) → Guards t (untested k p) declares
untested_guards k p t declares h stays = record { itself = h; alone = h; listed = one_told t (telling (statement k p)) h; stays = stays }

-- the tests and the statement
tests_with : (itself : Stmt) (p : Span) (list : List Access) (t : Telling) → Keeps t (telling itself) → ((s : Scope) → IsOpen s → Clean (t.notes s) → AllFit s list)
    → Keeps t (all_told (map telling (test_trees p list ++ itself ∷ [])))
tests_with itself p list t h fit =
    kept_as t (all_told (map telling (test_trees p list) ++ telling itself ∷ [])) (all_told (map telling (test_trees p list ++ itself ∷ []))) (ap all_told (map-append telling (test_trees p list) (itself ∷ [])))
    (tests_before p list t (telling itself ∷ []) (one_told t (telling itself) h) fit)

wrapped : (k : StmtKind) (p : Span) (list : List Access) (t : Telling) → Keeps t (telling (statement k p)) → Stays t → ((s : Scope) → IsOpen s → Clean (t.notes s) → AllFit s list)
    → Keeps t (telling (in_block (test_trees p list) (statement k p)))
wrapped k p [] t h stays fit = h
wrapped k p (access ∷ rest) t h stays fit =
    let body = test_trees p (access ∷ rest) ++ statement k p ∷ [] in
    keeps_of (s.Block body) p t (closed (all_told (map telling body))) (equations.block_stmt body p)
    (kept_in_block t (all_told (map telling body)) stays (tests_with (statement k p) p (access ∷ rest) t h fit))

tested_guards : (k : StmtKind) (p : Span) (list : List Access) (t : Telling) (declares : Bool) → Keeps t (telling (statement k p)) → Stays t → ((s : Scope) → IsOpen s → Clean (t.notes s) → AllFit s list)
    → Guards t (with_tests k p list) declares
tested_guards k p list t declares h stays fit =
    let around = wrapped k p list t h stays fit in record { itself = h; alone = around; listed = one_told t (telling (in_block (test_trees p list) (statement k p))) around; stays = λ e. stays }

part_of : (part : Statement) → is_part part ≡ true → (part.fine ≡ true) × (part.declares ≡ false)
part_of part e = let both = and_parts (not part.declares) part.fine e in (both.1, not_so part.declares both.0)
  where
    not_so : (b : Bool) → not b ≡ true → b ≡ false
    not_so true e = absurd (false≢true e)
    not_so false e = refl

module _ (site : Site) where
  abbrev kind_guarding : StmtKind → Span → Guarded
  kind_guarding = fold-StmtKind (Span → Guarded) Guarded (tree.kind_step site) tree.stmt_step

  abbrev kind_shape : StmtKind → Statement
  kind_shape = fold-StmtKind Statement Statement readable.stmt_kind_step (λ stmt. stmt.kind)

  abbrev KindIs : StmtKind → Type 0
  KindIs k = (p : Span) → (kind_shape k).fine ≡ true → Guards (kind_telling k p) (kind_guarding k p) (kind_shape k).declares

  abbrev StmtIs : Stmt → Type 0
  StmtIs x = (stmt_shape x).fine ≡ true → Guards (telling x) (guarding site x) (stmt_shape x).declares

  tested_condition : (c : Expr) (t : Telling) (s : Scope) → Clean (bodies.condition c s ++ t.notes s) → AllFit s (expression_tested site c)
  tested_condition c t s said = expression_fit site c s (needed_fit c (of boolean) s (clean_parts (bodies.condition c s) (t.notes s) said).0)

  tested_return : (value : Option Expr) (p : Span) (s : Scope) → Clean (bodies.returned value p s) → AllFit s (returning site value)
  tested_return None p s said = tt
  tested_return (Some e) p s said = expression_fit site e s (needed_fit e (bodies.result_need s.result) s said)

  tested_run : (e : Expr) (s : Scope) → Clean (bodies.run e s) → AllFit s (expression_tested site e)
  tested_run e s said = expression_fit site e s ((expression_finds e).judge s said)

  module _ {K S : Type 0} (kind : K → StmtKind) (stmt : S → Stmt) (stmt_is : (x : S) → StmtIs (stmt x)) where
    abbrev told : S → Telling
    told x = telling (stmt x)

    abbrev made : S → Guarded
    made x = guarding site (stmt x)

    abbrev shape : S → Statement
    shape x = stmt_shape (stmt x)

    all_listed : (xs : List S) → each_fine (map stmt_shape (map stmt xs)) ≡ true
        → Keeps (all_told (map telling (map stmt xs))) (all_told (map telling (each_in_list (map (guarding site) (map stmt xs)))))
    all_listed [] e = kept nothing
    all_listed (x ∷ xs) e =
        let both = and_parts (shape x).fine (each_fine (map stmt_shape (map stmt xs))) e in
        let later = all_told (map telling (map stmt xs)) in
        let first = in_list (made x) in
        let rest = each_in_list (map (guarding site) (map stmt xs)) in
        kept_as (then_told (told x) later) (all_told (map telling first ++ map telling rest)) (all_told (map telling (first ++ rest))) (ap all_told (map-append telling first rest))
        (chained (then_told (told x) later) (then_told (all_told (map telling first)) (all_told (map telling rest))) (all_told (map telling first ++ map telling rest))
        (kept_then (told x) (all_told (map telling first)) later (all_told (map telling rest)) (stmt_is x both.0).listed (all_listed xs both.1))
        (told_both (map telling first) (map telling rest)))

    all_itself : (xs : List S) → each_fine (map stmt_shape (map stmt xs)) ≡ true
        → Keeps (all_told (map telling (map stmt xs))) (all_told (map telling (map (λ (part : Guarded). part.itself) (map (guarding site) (map stmt xs)))))
    all_itself [] e = kept nothing
    all_itself (x ∷ xs) e =
        let both = and_parts (shape x).fine (each_fine (map stmt_shape (map stmt xs))) e in
        kept_then (told x) (telling (made x).itself) (all_told (map telling (map stmt xs))) (all_told (map telling (map (λ (part : Guarded). part.itself) (map (guarding site) (map stmt xs)))))
        (stmt_is x both.0).itself (all_itself xs both.1)

    -- a part of another statement
    part_is : (x : S) → is_part (shape x) ≡ true → Keeps (told x) (telling (alone (made x))) × Stays (told x)
    part_is x e = let part = part_of (shape x) e in let g = stmt_is x part.0 in (g.alone, g.stays part.1)

    kind_layer : (y : StmtKind-F K S) (p : Span) → let layer = map-StmtKind K S StmtKind Stmt kind stmt y in
        (readable.stmt_kind_step (map-StmtKind StmtKind Stmt Statement Statement kind_shape stmt_shape layer)).fine ≡ true
        → Guards (bodies.stmt_kind_step (map-StmtKind StmtKind Stmt (Span → Telling) Telling kind_telling telling layer) p)
        (tree.kind_step site (map-StmtKind StmtKind Stmt (Span → Guarded) Guarded kind_guarding (guarding site) layer) p)
        (readable.stmt_kind_step (map-StmtKind StmtKind Stmt Statement Statement kind_shape stmt_shape layer)).declares
    kind_layer (StmtKind-F.Block xs) p e =
        let inner = each_in_list (map (guarding site) (map stmt xs)) in
        untested_guards (s.Block inner) p (closed (all_told (map telling (map stmt xs)))) false
        (keeps_of (s.Block inner) p _ _ (equations.block_stmt inner p) (kept_closed (all_told (map telling (map stmt xs))) (all_told (map telling inner)) (all_listed xs e))) (λ f s. refl)
    kind_layer StmtKind-F.Empty p e = untested_guards s.Empty p nothing false (keeps_of s.Empty p _ _ (equations.empty_stmt p) (kept nothing)) (λ f s. refl)
    kind_layer (StmtKind-F.Local ds) p e =
        let t = all_declared (declarators ds) in
        let h = keeps_of (s.Local ds) p t t (equations.local_stmt ds p) (kept t) in
        record {
          itself = h;
          alone = h;
          listed = tests_with (statement (s.Local ds) p) p (declaration_tested site ds) t h (λ s o said. declaration_fit site ds s o said);
          stays = λ f. absurd (false≢true (sym f));
        }
    kind_layer (StmtKind-F.If c x None) p e =
        let parts = and_parts (is_readable_expr c) (is_part (shape x) && true) e in
        let one = part_is x (and_parts (is_part (shape x)) true parts.1).0 in
        let k = s.If c (alone (made x)) None in
        let t = noted_then (bodies.condition c) (told x) in
        tested_guards k p (expression_tested site c) t false (keeps_of k p _ _ (equations.if_stmt c (alone (made x)) p) (kept_noted_then (bodies.condition c) (told x) (telling (alone (made x))) one.0)) one.1
        (λ s o said. tested_condition c (told x) s said)
    kind_layer (StmtKind-F.If c x (Some y)) p e =
        let parts = and_parts (is_readable_expr c) (is_part (shape x) && is_part (shape y)) e in
        let branches = and_parts (is_part (shape x)) (is_part (shape y)) parts.1 in
        let one = part_is x branches.0 in
        let two = part_is y branches.1 in
        let k = s.If c (alone (made x)) (Some (alone (made y))) in
        let both = then_told (told x) (told y) in
        tested_guards k p (expression_tested site c) (noted_then (bodies.condition c) both) false
        (keeps_of k p _ _ (equations.if_else_stmt c (alone (made x)) (alone (made y)) p)
        (kept_noted_then (bodies.condition c) both (then_told (telling (alone (made x))) (telling (alone (made y))))
        (kept_then (told x) (telling (alone (made x))) (told y) (telling (alone (made y))) one.0 two.0)))
        (λ s. two.1 (after (told x) s) ∙ one.1 s) (λ s o said. tested_condition c both s said)
    kind_layer (StmtKind-F.While c x) p e =
        let one = part_is x (and_parts (is_readable_expr c) (is_part (shape x)) e).1 in
        let k = s.While c (alone (made x)) in
        untested_guards k p (noted_then (bodies.condition c) (looped (told x))) false
        (keeps_of k p _ _ (equations.while_stmt c (alone (made x)) p)
        (kept_noted_then (bodies.condition c) (looped (told x)) (looped (telling (alone (made x)))) (kept_looped (told x) (telling (alone (made x))) one.0)))
        (λ f s. one.1 (inside s))
    kind_layer (StmtKind-F.Do x c) p e =
        let one = part_is x (and_parts (is_part (shape x)) (is_readable_expr c) e).0 in
        let k = s.Do (alone (made x)) c in
        untested_guards k p (then_noted (looped (told x)) (bodies.condition c)) false
        (keeps_of k p _ _ (equations.do_stmt (alone (made x)) c p)
        (kept_then_noted (looped (told x)) (looped (telling (alone (made x)))) (bodies.condition c) (kept_looped (told x) (telling (alone (made x))) one.0)))
        (λ f s. one.1 (inside s))
    kind_layer (StmtKind-F.For first c update x) p e =
        let heads = each_fine (map stmt_shape (map stmt first)) in
        let later = maybe_true is_readable_expr c && (each_true is_readable_expr update && is_part (shape x)) in
        let both = and_parts heads later e in
        let runs = and_parts (maybe_true is_readable_expr c) (each_true is_readable_expr update && is_part (shape x)) both.1 in
        let one = part_is x (and_parts (each_true is_readable_expr update) (is_part (shape x)) runs.1).1 in
        let itself = map (λ (part : Guarded). part.itself) (map (guarding site) (map stmt first)) in
        let k = s.For itself c update (alone (made x)) in
        let head = λ (s : Scope). bodies.condition_or_none c s ++ bodies.all_run update s in
        let t = then_told (all_told (map telling (map stmt first))) (noted_then head (looped (told x))) in
        let u = then_told (all_told (map telling itself)) (noted_then head (looped (telling (alone (made x))))) in
        untested_guards k p (closed t) false
        (keeps_of k p (closed t) (closed u) (equations.for_stmt itself c update (alone (made x)) p)
        (kept_closed t u (kept_then (all_told (map telling (map stmt first))) (all_told (map telling itself)) (noted_then head (looped (told x))) (noted_then head (looped (telling (alone (made x)))))
        (all_itself first both.0) (kept_noted_then head (looped (told x)) (looped (telling (alone (made x)))) (kept_looped (told x) (telling (alone (made x))) one.0)))))
        (λ f s. refl)
    kind_layer StmtKind-F.Break p e = untested_guards s.Break p _ false (keeps_of s.Break p _ _ (equations.break_stmt p) (kept _)) (λ f s. refl)
    kind_layer StmtKind-F.Continue p e = untested_guards s.Continue p _ false (keeps_of s.Continue p _ _ (equations.continue_stmt p) (kept _)) (λ f s. refl)
    kind_layer (StmtKind-F.Return value) p e =
        let t = noting (λ s. bodies.returned value p s) in
        tested_guards (s.Return value) p (returning site value) t false (keeps_of (s.Return value) p t t (equations.return_stmt value p) (kept t)) (λ s. refl) (λ s o said. tested_return value p s said)
    kind_layer (StmtKind-F.Throw thrown) p e = untested_guards (s.Throw thrown) p nothing false (keeps_of (s.Throw thrown) p _ _ (equations.throw_stmt thrown p) (kept nothing)) (λ f s. refl)
    kind_layer (StmtKind-F.Print value) p e =
        let t = noting (bodies.needed value printed) in
        tested_guards (s.Print value) p (expression_tested site value) t false (keeps_of (s.Print value) p t t (equations.print_stmt value p) (kept t)) (λ s. refl)
        (λ s o said. expression_fit site value s (needed_fit value printed s said))
    kind_layer (StmtKind-F.Run value) p e =
        let t = noting (bodies.run value) in
        tested_guards (s.Run value) p (expression_tested site value) t false (keeps_of (s.Run value) p t t (equations.run_stmt value p) (kept t)) (λ s. refl) (λ s o said. tested_run value s said)

    kind_rolled : (y : StmtKind-F K S) → KindIs (roll-StmtKind (map-StmtKind K S StmtKind Stmt kind stmt y))
    kind_rolled y p =
        let layer = map-StmtKind K S StmtKind Stmt kind stmt y in
        let a = fold-roll-StmtKind (Span → Telling) Telling bodies.stmt_kind_step bodies.stmt_step layer in
        let b = fold-roll-StmtKind (Span → Guarded) Guarded (tree.kind_step site) tree.stmt_step layer in
        let c = fold-roll-StmtKind Statement Statement readable.stmt_kind_step (λ stmt. stmt.kind) layer in
        subst (λ (z : Statement). z.fine ≡ true → Guards (kind_telling (roll-StmtKind layer) p) (kind_guarding (roll-StmtKind layer) p) z.declares) (sym c)
        (subst (λ (f : Span → Guarded). let z = readable.stmt_kind_step (map-StmtKind StmtKind Stmt Statement Statement kind_shape stmt_shape layer) in z.fine ≡ true → Guards (kind_telling (roll-StmtKind layer) p) (f p) z.declares) (sym b)
        (subst (λ (f : Span → Telling). let z = readable.stmt_kind_step (map-StmtKind StmtKind Stmt Statement Statement kind_shape stmt_shape layer) in
        z.fine ≡ true → Guards (f p) (tree.kind_step site (map-StmtKind StmtKind Stmt (Span → Guarded) Guarded kind_guarding (guarding site) layer) p) z.declares) (sym a) (kind_layer y p)))

    stmt_rolled : ((k : K) → KindIs (kind k)) → (y : Stmt-F K S) → StmtIs (roll-Stmt (map-Stmt K S StmtKind Stmt kind stmt y))
    stmt_rolled kind_is y =
        let layer = map-Stmt K S StmtKind Stmt kind stmt y in
        let a = fold-roll-Stmt (Span → Telling) Telling bodies.stmt_kind_step bodies.stmt_step layer in
        let b = fold-roll-Stmt (Span → Guarded) Guarded (tree.kind_step site) tree.stmt_step layer in
        let c = fold-roll-Stmt Statement Statement readable.stmt_kind_step (λ stmt. stmt.kind) layer in
        let z = kind_shape (kind y.kind) in
        subst (λ (z : Statement). z.fine ≡ true → Guards (telling (roll-Stmt layer)) (guarding site (roll-Stmt layer)) z.declares) (sym c)
        (subst (λ (g : Guarded). z.fine ≡ true → Guards (telling (roll-Stmt layer)) g z.declares) (sym b)
        (subst (λ (t : Telling). z.fine ≡ true → Guards t (kind_guarding (kind y.kind) y.span) z.declares) (sym a) (kind_is y.kind y.span)))

  pub statement_guards : (x : Stmt) → StmtIs x
  statement_guards = ind-Stmt KindIs StmtIs
      (λ x y e. subst (λ layer. KindIs (roll-StmtKind layer)) e (kind_rolled (λ k. k.0) (λ s. s.0) (λ s. s.1) y))
      (λ x y e. subst (λ layer. StmtIs (roll-Stmt layer)) e (stmt_rolled (λ k. k.0) (λ s. s.0) (λ s. s.1) (λ k. k.1) y))

  -- The guarded body leaves a scope as the body does, and says nothing wrong where this doesn't.
  pub body_guards : (xs : List Stmt) → each_true is_readable_stmt xs ≡ true → Keeps (all_told (map telling xs)) (all_told (map telling (guarded_body site xs)))
  body_guards [] e = kept nothing
  body_guards (x ∷ xs) e =
      let both = and_parts (is_readable_stmt x) (each_true is_readable_stmt xs) e in
      let later = all_told (map telling xs) in
      let first = in_list (guarding site x) in
      let rest = guarded_body site xs in
      kept_as (then_told (telling x) later) (all_told (map telling first ++ map telling rest)) (all_told (map telling (first ++ rest))) (ap all_told (map-append telling first rest))
      (chained (then_told (telling x) later) (then_told (all_told (map telling first)) (all_told (map telling rest))) (all_told (map telling first ++ map telling rest))
      (kept_then (telling x) (all_told (map telling first)) later (all_told (map telling rest)) (statement_guards x both.0).listed (body_guards xs both.1))
      (told_both (map telling first) (map telling rest)))
