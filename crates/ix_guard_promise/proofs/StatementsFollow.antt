-- A statement of a guarded source, with the tests before it, follows the statement.
use Rattle.std.proofs.Common.{◌≡◌, ℕ, ◌+◌, Bool, true, false, List, [], ◌∷◌, ◌++◌, map, Option, Some, None, refl, sym, subst, ◌∙◌, arith}
use Rattle.std.specs.Prelude.{◌&&◌, not, if◌then◌else◌}
use Rattle.std.specs.List.{list_any}
use Rattle.std.proofs.lemmas.Bool.{and_parts}
use Rattle.ix_text.specs.declared.span.Span.{Span}
use Rattle.ix_tree.specs.declared.decl.LocalDecl.{LocalDecl}
use Rattle.ix_tree.specs.declared.annot.Ident.{Ident}
use Rattle.ix_tree.specs.declared.expr.Expr.{Expr}
use Rattle.ix_tree.specs.declared.stmt.Stmt.{Stmt}
use Rattle.ix_tree.specs.declared.stmt.StmtKind.{StmtKind}
use Rattle.ix_tree.specs.declared.stmt.StmtKind.TheVariants as s
use Rattle.ix_core.specs.Machine.{Thrown}
use Rattle.ix_source.specs.Runs.{Now, Result, Gives, Stops, Cuts, Action, ◌>>=◌, go_on, gives, stops}
use Rattle.ix_source.specs.Context.{Context}
use Rattle.ix_source.specs.Values.{evaluation}
use Rattle.ix_source.specs.Statements.{Completion, Normal, Breaks, Continues, Returns, Execution, behind, each, all_declare, normally, ran, returned, plain, printed, or_nothing, execution}
use Rattle.ix_source.proofs.Equations as equations
use Rattle.ix_source.proofs.Equations.{kind_execution}
use Rattle.ix_formed.specs.Additions.{AllOf}
use Rattle.ix_guard.specs.Accesses.{Access, parts_of, all_decl_parts}
use Rattle.ix_guard.specs.Tests.{Site, Changes, Pair, pair_of, same_pair, is_variable, is_called, is_kept, is_guarded, is_tested, is_bound_error, same_variable}
use Rattle.ix_guard.specs.Trees.{statement, tested_behind, expression_tested, declaration_tested, returning}
use Rattle.ix_guard_text.specs.Bare.{bare_maybe as maybe}
use Rattle.ix_guard_text.specs.Moved.{Move, moved_span, moved_name, moved_expr, moved_decl, moved_stmt}
use Rattle.ix_guard_text.specs.TestParts.{Parts, guard_of}
use Rattle.ix_guard_text.specs.GuardedNames.{IsMeant}
use Rattle.ix_guard_text.specs.GuardedPlaces as placed
use Rattle.ix_guard_text.specs.GuardedPlaces.{AreTests, Inner, Alone, InList}
use Rattle.ix_guard_promise.specs.Behind.{now_of, PrintedFirst, Behind, thrown, ContextFollows}
use Rattle.ix_guard_promise.proofs.Following.{first_beside}
use Rattle.ix_guard_promise.proofs.TestsStop.{Tests, passes, throws, test_declares, test_stops}
use Rattle.ix_guard_promise.proofs.StatementForms.{choice, while_form, do_form, for_form, block, declaring_all, Keeps, AllKeep, none_keep, more_keep, one_keeps, keeps_as, completes_keeps, throw_keeps, print_keeps, run_keeps, return_keeps, local_keeps, block_keeps, choice_keeps, while_keeps, do_keeps, for_keeps}
use Rattle.ix_guard_promise.proofs.MovedStatements.{all_moved_follow}

-- ---- what is tested

module _ (site : Site) where
  -- Both of its names are those of variables.
  abbrev pub OnVariables : Access → Type 0
  OnVariables access = (is_variable (site.names.meaning access.array.span) ≡ true) × (is_variable (site.names.meaning access.index.span) ≡ true)

  kept_variable : (changes : Changes) (name : Ident) → is_kept site changes name ≡ true → is_variable (site.names.meaning name.span) ≡ true
  kept_variable changes name is =
      let others = not (list_any (same_variable (site.names.meaning name.span)) changes.assigned) && not (list_any (is_called name) changes.declared) in
      (and_parts (is_variable (site.names.meaning name.span)) others is).0

  on_variables : (changes : Changes) (before : List Pair) (access : Access) → is_tested site changes before access ≡ true → OnVariables access
  on_variables changes before access is =
      let guarded = (and_parts (is_guarded site changes access) (not (list_any (same_pair (pair_of site access)) before)) is).0 in
      let both = (and_parts (list_any (is_bound_error access.index.span) site.errors) (is_kept site changes access.array && is_kept site changes access.index) guarded).1 in
      let kept = and_parts (is_kept site changes access.array) (is_kept site changes access.index) both in
      (kept_variable changes access.array kept.0, kept_variable changes access.index kept.1)

  behind_variables : (changes : Changes) (before : List Pair) (accesses : List Access) → AllOf OnVariables (tested_behind site changes before accesses)
  behind_variables changes before [] = tt
  behind_variables changes before (access ∷ rest) =
      by (is_tested site changes before access) (on_variables changes before access) (behind_variables changes (before ++ pair_of site access ∷ []) rest) (behind_variables changes before rest)
    where
      by : (b : Bool) → (b ≡ true → OnVariables access) → AllOf OnVariables (tested_behind site changes (before ++ pair_of site access ∷ []) rest) → AllOf OnVariables (tested_behind site changes before rest)
          → AllOf OnVariables (if b then access ∷ tested_behind site changes (before ++ pair_of site access ∷ []) rest else tested_behind site changes before rest)
      by true one with others = (one refl, with)
      by false one with others = others

  expression_variables : (expr : Expr) → AllOf OnVariables (expression_tested site expr)
  expression_variables expr = behind_variables record { assigned = map site.names.meaning (parts_of expr).assigned; declared = [] } [] (parts_of expr).accesses

  declaration_variables : (decls : List LocalDecl) → AllOf OnVariables (declaration_tested site decls)
  declaration_variables decls = behind_variables record { assigned = map site.names.meaning (all_decl_parts decls).assigned; declared = decls } [] (all_decl_parts decls).accesses

  returning_variables : (value : Option Expr) → AllOf OnVariables (returning site value)
  returning_variables None = tt
  returning_variables (Some expr) = expression_variables expr

  inner_variables : (move : Move) (IsTest : Access → Parts → Type 0) (old new : Stmt) (accesses : List Access) → Inner site move IsTest old new accesses → AllOf OnVariables accesses
  inner_variables move IsTest _ _ _ (placed.block statements others span other at list) = tt
  inner_variables move IsTest _ _ _ (placed.empty span) = tt
  inner_variables move IsTest _ _ _ (placed.if_then condition first second span other at one) = expression_variables condition
  inner_variables move IsTest _ _ _ (placed.if_else condition first second third fourth span other at one two) = expression_variables condition
  inner_variables move IsTest _ _ _ (placed.while_do condition first second span other at one) = tt
  inner_variables move IsTest _ _ _ (placed.do_while condition first second span other at one) = tt
  inner_variables move IsTest _ _ _ (placed.for_do start condition update first second span other at one) = tt
  inner_variables move IsTest _ _ _ (placed.breaks span) = tt
  inner_variables move IsTest _ _ _ (placed.continues span) = tt
  inner_variables move IsTest _ _ _ (placed.returns value span) = returning_variables value
  inner_variables move IsTest _ _ _ (placed.throws name span) = tt
  inner_variables move IsTest _ _ _ (placed.prints value span) = expression_variables value
  inner_variables move IsTest _ _ _ (placed.runs expr span) = expression_variables expr

-- ---- a statement alone in a list

alone_result : (r : Result Completion) → go_on (λ end. behind end (gives Normal)) r ≡ r
alone_result (Gives Normal now) = refl
alone_result (Gives Breaks now) = refl
alone_result (Gives Continues now) = refl
alone_result (Gives (Returns value) now) = refl
alone_result (Stops ending now) = refl
alone_result (Cuts now) = refl

module _ (site : Site) (move : Move) (new old : Context) (follows : ContextFollows move new old) where
  abbrev Kept : Execution → Execution → Type 0
  Kept = Keeps move new old

  abbrev AllKept : List Execution → List Execution → Type 0
  AllKept = AllKeep move new old

  abbrev pub IsTest : Access → Parts → Type 0
  IsTest = IsMeant site.names new.names move

  no_more : (n : ℕ) → n + 0 ≡ n
  no_more n = omega arith

  alone_keeps : (made : List Execution) (kept : Execution) → AllKept made (kept ∷ []) → Kept (block made) kept
  alone_keeps made kept all = record {
    declares = all.declares ∙ no_more kept.declares;
    run = λ number n o like. subst (λ r. Behind move (λ value other. value ≡ other) (each made new number n) r) (alone_result (kept.run old number o)) (all.run number n o like);
    shows = λ number now. subst (λ r. PrintedFirst now (now_of r)) (alone_result (kept.run old number now)) (all.shows number now);
  }

  -- ---- tests before statements

  passed : (now : Now) (test : Result Completion) (next : Action Completion) (old_result : Result Completion) → Tests move now test → Behind move (λ value other. value ≡ other) (next now) old_result
      → PrintedFirst now (now_of old_result)
      → Behind move (λ value other. value ≡ other) (go_on (λ end. behind end next) test) old_result
  passed now _ next old_result passes later first = later
  passed now _ next old_result (throws ending is) later first = thrown ending now old_result is first

  none_declared : (d n m : ℕ) → d ≡ 0 → n ≡ m → d + n ≡ m
  none_declared d n m e f = omega (arith, e, f)

  no_further : (number d : ℕ) → d ≡ 0 → number + d ≡ number
  no_further number d e = omega (arith, e)

  test_before : (access : Access) (parts : Parts) (rest kept : List Execution) → IsTest access parts → OnVariables site access → AllKept rest kept → AllKept (execution (guard_of parts) ∷ rest) kept
  test_before access parts rest kept meant on all = record {
    declares = none_declared (execution (guard_of parts)).declares (all_declare rest) (all_declare kept) declares all.declares;
    run = λ number n o like. passed n ((execution (guard_of parts)).run new number n) (each rest new (number + (execution (guard_of parts)).declares)) (each kept old number o)
        (test_stops move new site.names access parts meant on.0 on.1 n number)
        (subst (λ k. Behind move (λ value other. value ≡ other) (each rest new k n) (each kept old number o)) (sym (no_further number (execution (guard_of parts)).declares declares)) (all.run number n o like))
        (first_beside n o (now_of (each kept old number o)) like (all.shows number o));
    shows = all.shows;
  }
    where
      declares : (execution (guard_of parts)).declares ≡ 0
      declares = test_declares parts

  tests_before : (accesses : List Access) (tests statements : List Stmt) (kept : List Execution) → AllOf (OnVariables site) accesses → AreTests IsTest accesses tests → AllKept (map execution statements) kept
      → AllKept (map execution (tests ++ statements)) kept
  tests_before _ _ statements kept on placed.none all = all
  tests_before _ _ statements kept on (placed.one_more {accesses} {tests} access parts is rest) all =
      test_before access parts (map execution (tests ++ statements)) kept is on.0 (tests_before accesses tests statements kept on.1 rest all)

  -- ---- statements

  form : (kind other : StmtKind) (span place : Span) (made kept : Execution) → kind_execution kind span ≡ made → kind_execution other place ≡ kept → Kept made kept
      → Kept (execution (statement kind span)) (execution (statement other place))
  form kind other span place made kept e f keeps =
      keeps_as move new old follows (execution (statement kind span)) (execution (statement other place)) made kept (equations.stmt_is kind span ∙ e) (equations.stmt_is other place ∙ f) keeps

  mutual
    pub inner_follows : (before after : Stmt) (accesses : List Access) → Inner site move IsTest before after accesses → Kept (execution after) (execution before)
    inner_follows _ _ _ (placed.block statements others span other at list) = form (s.Block others) (s.Block statements) other span (block (map execution others)) (block (map execution statements))
        (equations.block_kind others other) (equations.block_kind statements span)
        (block_keeps move new old follows (map execution others) (map execution statements) (list_follows statements others list))
    inner_follows _ _ _ (placed.empty span) = form s.Empty s.Empty (moved_span move span) span (plain (λ context. gives Normal)) (plain (λ context. gives Normal))
        (equations.empty_kind (moved_span move span)) (equations.empty_kind span)
        (completes_keeps move new old follows Normal)
    inner_follows _ _ _ (placed.if_then condition first second span other at one) =
        form (s.If (moved_expr move condition) second None) (s.If condition first None) other span (choice (moved_expr move condition) (execution second) (or_nothing None))
        (choice condition (execution first) (or_nothing None))
        (equations.if_kind (moved_expr move condition) second other) (equations.if_kind condition first span)
        (choice_keeps move new old follows condition (execution second) (or_nothing None) (execution first) (or_nothing None) (alone_follows first second one)
        (completes_keeps move new old follows Normal))
    inner_follows _ _ _ (placed.if_else condition first second third fourth span other at one two) =
        form (s.If (moved_expr move condition) second (Some fourth)) (s.If condition first (Some third)) other span (choice (moved_expr move condition) (execution second) (execution fourth))
        (choice condition (execution first) (execution third))
        (equations.if_else_kind (moved_expr move condition) second fourth other) (equations.if_else_kind condition first third span)
        (choice_keeps move new old follows condition (execution second) (execution fourth) (execution first) (execution third) (alone_follows first second one) (alone_follows third fourth two))
    inner_follows _ _ _ (placed.while_do condition first second span other at one) =
        form (s.While (moved_expr move condition) second) (s.While condition first) other span (while_form (moved_expr move condition) (execution second)) (while_form condition (execution first))
        (equations.while_kind (moved_expr move condition) second other) (equations.while_kind condition first span)
        (while_keeps move new old follows condition (execution second) (execution first) (alone_follows first second one))
    inner_follows _ _ _ (placed.do_while condition first second span other at one) =
        form (s.Do second (moved_expr move condition)) (s.Do first condition) other span (do_form (moved_expr move condition) (execution second)) (do_form condition (execution first))
        (equations.do_kind second (moved_expr move condition) other) (equations.do_kind first condition span)
        (do_keeps move new old follows condition (execution second) (execution first) (alone_follows first second one))
    inner_follows _ _ _ (placed.for_do start condition update first second span other at one) =
        form (s.For (map (moved_stmt move) start) (maybe (moved_expr move) condition) (map (moved_expr move) update) second) (s.For start condition update first) other span
        (for_form (map execution (map (moved_stmt move) start)) (maybe (moved_expr move) condition) (map (moved_expr move) update) (execution second))
        (for_form (map execution start) condition update (execution first))
        (equations.for_kind (map (moved_stmt move) start) (maybe (moved_expr move) condition) (map (moved_expr move) update) second other) (equations.for_kind start condition update first span)
        (for_keeps move new old follows (map execution (map (moved_stmt move) start)) (map execution start) condition update (execution second) (execution first)
        (all_moved_follow move new old follows start) (alone_follows first second one))
    inner_follows _ _ _ (placed.breaks span) = form s.Break s.Break (moved_span move span) span (plain (λ context. gives Breaks)) (plain (λ context. gives Breaks))
        (equations.break_kind (moved_span move span)) (equations.break_kind span)
        (completes_keeps move new old follows Breaks)
    inner_follows _ _ _ (placed.continues span) = form s.Continue s.Continue (moved_span move span) span (plain (λ context. gives Continues)) (plain (λ context. gives Continues))
        (equations.continue_kind (moved_span move span)) (equations.continue_kind span)
        (completes_keeps move new old follows Continues)
    inner_follows _ _ _ (placed.returns value span) = form (s.Return (maybe (moved_expr move) value)) (s.Return value) (moved_span move span) span (plain (returned (maybe (moved_expr move) value)))
        (plain (returned value))
        (equations.return_kind (maybe (moved_expr move) value) (moved_span move span)) (equations.return_kind value span) (return_keeps move new old follows value)
    inner_follows _ _ _ (placed.throws name span) = form (s.Throw (moved_name move name)) (s.Throw name) (moved_span move span) span (plain (λ context. stops (Thrown name.text (move.from span.from))))
        (plain (λ context. stops (Thrown name.text span.from)))
        (equations.throw_kind (moved_name move name) (moved_span move span)) (equations.throw_kind name span) (throw_keeps move new old follows name.text (move.from span.from) span.from)
    inner_follows _ _ _ (placed.prints value span) = form (s.Print (moved_expr move value)) (s.Print value) (moved_span move span) span
        (plain (λ context. (evaluation (moved_expr move value)).value context >>= printed)) (plain (λ context. (evaluation value).value context >>= printed))
        (equations.print_kind (moved_expr move value) (moved_span move span)) (equations.print_kind value span) (print_keeps move new old follows value)
    inner_follows _ _ _ (placed.runs expr span) = form (s.Run (moved_expr move expr)) (s.Run expr) (moved_span move span) span (plain (λ context. ran (moved_expr move expr) context >>= normally))
        (plain (λ context. ran expr context >>= normally))
        (equations.run_kind (moved_expr move expr) (moved_span move span)) (equations.run_kind expr span) (run_keeps move new old follows expr)

    pub alone_follows : (before after : Stmt) → Alone site move IsTest before after → Kept (execution after) (execution before)
    alone_follows _ _ (placed.untested before after inner) = inner_follows before after [] inner
    alone_follows _ _ (placed.tested before after access rest tests span inner are) =
        keeps_as move new old follows (execution (statement (s.Block (tests ++ after ∷ [])) span)) (execution before) (block (map execution (tests ++ after ∷ []))) (execution before)
        (equations.stmt_is (s.Block (tests ++ after ∷ [])) span ∙ equations.block_kind (tests ++ after ∷ []) span) refl
        (alone_keeps (map execution (tests ++ after ∷ [])) (execution before)
        (tests_before (access ∷ rest) tests (after ∷ []) (execution before ∷ []) (inner_variables site move IsTest before after (access ∷ rest) inner) are
        (one_keeps move new old follows (execution after) (execution before) (inner_follows before after (access ∷ rest) inner))))

    pub list_follows : (before after : List Stmt) → InList site move IsTest before after → AllKept (map execution after) (map execution before)
    list_follows _ _ placed.none = none_keep move new old follows
    list_follows _ _ (placed.declared decls span tests statements others are list) =
        tests_before (declaration_tested site decls) tests (statement (s.Local (map (moved_decl move) decls)) (moved_span move span) ∷ others)
        (execution (statement (s.Local decls) span) ∷ map execution statements) (declaration_variables site decls) are
        (more_keep move new old follows (execution (statement (s.Local (map (moved_decl move) decls)) (moved_span move span))) (execution (statement (s.Local decls) span)) (map execution others)
        (map execution statements)
        (form (s.Local (map (moved_decl move) decls)) (s.Local decls) (moved_span move span) span (declaring_all (map (moved_decl move) decls)) (declaring_all decls)
        (equations.local_kind (map (moved_decl move) decls) (moved_span move span)) (equations.local_kind decls span) (local_keeps move new old follows decls))
        (list_follows statements others list))
    list_follows _ _ (placed.other before after statements others alone list) =
        more_keep move new old follows (execution after) (execution before) (map execution others) (map execution statements) (alone_follows before after alone) (list_follows statements others list)
