-- Statements with tests before them leave a scope as the statements do, and say what these do and new notes.
use Rattle.std.proofs.Common.{◌≡◌, ℕ, ◌+◌, List, [], ◌∷◌, ◌++◌, map, Option, Some, None, refl, sym, ap, ap₂, subst, ◌∙◌, arith}
use Rattle.std.proofs.lemmas.List.{append-nil}
use Rattle.ix_text.specs.declared.span.Span.{Span}
use Rattle.ix_tree.specs.declared.expr.Expr.{Expr}
use Rattle.ix_tree.specs.declared.stmt.Stmt.{Stmt}
use Rattle.ix_tree.specs.declared.stmt.StmtKind.{StmtKind}
use Rattle.ix_tree.specs.declared.stmt.StmtKind.TheVariants as s
use Rattle.ix_tree.proofs.FoldsOfForms as fold
use Rattle.ix_meaning.specs.declared.note.Note.{Note}
use Rattle.ix_meaning.specs.Bodies as bodies
use Rattle.ix_meaning.specs.Bodies.{Telling, telling, kind_telling, all_told, after, inside, nothing, then_told, closed, looped, noted_then, then_noted}
use Rattle.ix_meaning.specs.Scope.{Scope, Known}
use Rattle.ix_meaning.specs.Types.{boolean, of}
use Rattle.ix_meaning.specs.Values.{check}
use Rattle.ix_meaning.proofs.Equations as equations
use Rattle.ix_guard_text.specs.Bare.{bare_maybe as maybe}
use Rattle.ix_guard.specs.Accesses.{Access}
use Rattle.ix_guard.specs.Tests.{Site}
use Rattle.ix_guard.specs.Trees.{statement}
use Rattle.ix_guard_text.specs.Moved.{Move, moved_span, moved_expr, moved_decl, moved_stmt, stmt_kind_step, stmt_step}
use Rattle.ix_guard_text.specs.TestParts.{guard_of, IsWritten}
use Rattle.ix_guard_text.specs.GuardedPlaces as q
use Rattle.ix_guard_text.specs.GuardedPlaces.{AreTests, Inner, Alone, InList}
use Rattle.ix_guard_text.specs.WithNew.{WithNew}
use Rattle.ix_guard_text.proofs.NotesWithNew.{AllNew, all_kept, kept_both, new_before}
use Rattle.ix_guard_text.proofs.TestsNew.{condition_new}
use Rattle.ix_guard_text.proofs.TestsRead.{condition_reading, test_telling, test_is}

-- what statements tell, one behind the other
abbrev pub all_of : List Stmt → Telling
all_of xs = all_told (map telling xs)

pub nothing_after : (s : Scope) → after nothing s ≡ s
nothing_after s = let e : s.next + 0 ≡ s.next = omega arith in ap (λ (n : ℕ). record s { next = n }) e

module _ (move : Move) where
  -- The second does with a scope what the first does, and says what this does and new notes.
  pub record Grows (t u : Telling) : Type 0 where
    pub declares : u.declares ≡ t.declares
    pub names : (s : Scope) → u.names s ≡ t.names s
    pub notes : (s : Scope) → WithNew move (t.notes s) (u.notes s)

  pub grown : (t : Telling) → Grows t t
  grown t = record { declares = refl; names = λ s. refl; notes = λ s. all_kept move (t.notes s) }

  grown_as : (t u v : Telling) → v ≡ u → Grows t u → Grows t v
  grown_as t u v e g = subst (Grows t) (sym e) g

  grown_from : (t u v : Telling) → t ≡ u → Grows u v → Grows t v
  grown_from t u v e g = subst (λ (x : Telling). Grows x v) (sym e) g

  after_same : (t u : Telling) → Grows t u → (s : Scope) → after u s ≡ after t s
  after_same t u g s = ap₂ (λ (names : List Known) (n : ℕ). record s { names = names; next = s.next + n }) (g.names s) g.declares

  behind : (f g : Scope → List Note) → ((s : Scope) → WithNew move (f s) (g s)) → (t u : Telling) → Grows t u → (s : Scope) → WithNew move (f (after t s)) (g (after u s))
  behind f g h t u k s = subst (λ (z : Scope). WithNew move (f (after t s)) (g z)) (sym (after_same t u k s)) (h (after t s))

  pub grown_then : (t u v w : Telling) → Grows t u → Grows v w → Grows (then_told t v) (then_told u w)
  grown_then t u v w a b = record {
    declares = ap₂ (λ (m : ℕ) (n : ℕ). m + n) a.declares b.declares;
    names = λ s. ap w.names (after_same t u a s) ∙ b.names (after t s);
    notes = λ s. kept_both move (a.notes s) (behind v.notes w.notes b.notes t u a s);
  }

  grown_closed : (t u : Telling) → Grows t u → Grows (closed t) (closed u)
  grown_closed t u g = record { declares = g.declares; names = λ s. refl; notes = g.notes }

  -- in a block of its own, what declares nothing in its own
  grown_in_block : (t u : Telling) → ((s : Scope) → t.names s ≡ s.names) → Grows t u → Grows t (closed u)
  grown_in_block t u stays g = record { declares = g.declares; names = λ s. sym (stays s); notes = g.notes }

  grown_looped : (t u : Telling) → Grows t u → Grows (looped t) (looped u)
  grown_looped t u g = record { declares = g.declares; names = λ s. g.names (inside s); notes = λ s. g.notes (inside s) }

  grown_noted_then : (f : Scope → List Note) (t u : Telling) → Grows t u → Grows (noted_then f t) (noted_then f u)
  grown_noted_then f t u g = record { declares = g.declares; names = g.names; notes = λ s. kept_both move (all_kept move (f s)) (g.notes s) }

  grown_then_noted : (t u : Telling) (f : Scope → List Note) → Grows t u → Grows (then_noted t f) (then_noted u f)
  grown_then_noted t u f g = record { declares = g.declares; names = g.names; notes = λ s. kept_both move (g.notes s) (behind f f (λ z. all_kept move (f z)) t u g s) }

  -- ---- lists

  -- one statement in a list
  one_told : (t u : Telling) → Grows t u → Grows t (then_told u nothing)
  one_told t u g = record {
    declares = (let e = g.declares in omega (arith, e));
    names = g.names;
    notes = λ s. subst (λ (ns : List Note). WithNew move (t.notes s) ns) (sym (append-nil (u.notes s))) (g.notes s);
  }

  test_then : (f : Scope → List Note) (t w : Telling) → ((s : Scope) → AllNew move (f s)) → Grows t w → Grows t (then_told (noted_then f nothing) w)
  test_then f t w new g = record {
    declares = (let e = g.declares in omega (arith, e));
    names = λ s. ap w.names (nothing_after s) ∙ g.names s;
    notes = λ s. subst (λ (ns : List Note). WithNew move (t.notes s) (ns ++ w.notes (after nothing s))) (sym (append-nil (f s)))
        (subst (λ (z : Scope). WithNew move (t.notes s) (f s ++ w.notes z)) (sym (nothing_after s)) (new_before move (f s) (new s) (g.notes s)));
  }

  -- Tests in front of statements that do what a statement does, which are new.
  tests_before : {accesses : List Access} {tests : List Stmt} → AreTests (IsWritten move) accesses tests → (t : Telling) (us : List Stmt) → Grows t (all_of us) → Grows t (all_of (tests ++ us))
  tests_before q.none t us g = g
  tests_before (q.one_more {accesses} {tests} access parts is rest) t us g =
      let later = all_of (tests ++ us) in
      grown_as t (then_told (test_telling parts) later) (then_told (telling (guard_of parts)) later) (ap (λ (first : Telling). then_told first later) (test_is parts))
      (test_then (λ (s : Scope). (check (condition_reading parts) s (of boolean)).notes) t later (λ s. condition_new move s parts access is) (tests_before rest t us g))

  -- ---- statements

  abbrev told : Stmt → Telling
  told x = telling (moved_stmt move x)

  abbrev moved_kind : StmtKind → StmtKind
  moved_kind = fold.of_stmt_kind (stmt_kind_step move) (stmt_step move)

  moved_is : (k l : StmtKind) (span : Span) → moved_kind k ≡ l → moved_stmt move (statement k span) ≡ statement l (moved_span move span)
  moved_is k l span e = fold.stmt_is (stmt_kind_step move) (stmt_step move) k span ∙ ap (λ (x : StmtKind). statement x (moved_span move span)) e

  -- what a moved statement tells
  moved_tells : (k l : StmtKind) (span : Span) (t : Telling) → moved_kind k ≡ l → kind_telling l (moved_span move span) ≡ t → told (statement k span) ≡ t
  moved_tells k l span t e f = ap telling (moved_is k l span e) ∙ equations.stmt_is l (moved_span move span) ∙ f

  tells : (k : StmtKind) (span : Span) (t : Telling) → kind_telling k span ≡ t → telling (statement k span) ≡ t
  tells k span t e = equations.stmt_is k span ∙ e

  moved_grows : (k l : StmtKind) (span : Span) → moved_kind k ≡ l → Grows (told (statement k span)) (telling (statement l (moved_span move span)))
  moved_grows k l span e = subst (λ (x : Stmt). Grows (told (statement k span)) (telling x)) (moved_is k l span e) (grown (told (statement k span)))

  -- what declares nothing leaves the names in scope
  abbrev Stays : Telling → Type 0
  Stays t = (s : Scope) → t.names s ≡ s.names

  stays_as : (t u : Telling) → t ≡ u → Stays u → Stays t
  stays_as t u e h = subst Stays (sym e) h

  module _ (site : Site) where
    abbrev In : Stmt → Stmt → List Access → Type 0
    In old new accesses = Inner site move (IsWritten move) old new accesses

    abbrev Of : Stmt → Stmt → Type 0
    Of old new = Alone site move (IsWritten move) old new

    -- how each form tells, moved
    block_tells : (xs : List Stmt) (span : Span) → told (statement (s.Block xs) span) ≡ closed (all_of (map (moved_stmt move) xs))
    block_tells xs span = moved_tells (s.Block xs) (s.Block (map (moved_stmt move) xs)) span _ (fold.block_kind (stmt_kind_step move) (stmt_step move) xs) (equations.block_stmt (map (moved_stmt move) xs) (moved_span move span))

    if_tells : (c : Expr) (x : Stmt) (span : Span) → told (statement (s.If c x None) span) ≡ noted_then (bodies.condition (moved_expr move c)) (told x)
    if_tells c x span = moved_tells (s.If c x None) (s.If (moved_expr move c) (moved_stmt move x) None) span _ (fold.if_kind (stmt_kind_step move) (stmt_step move) c x)
        (equations.if_stmt (moved_expr move c) (moved_stmt move x) (moved_span move span))

    if_else_tells : (c : Expr) (x y : Stmt) (span : Span) → told (statement (s.If c x (Some y)) span) ≡ noted_then (bodies.condition (moved_expr move c)) (then_told (told x) (told y))
    if_else_tells c x y span = moved_tells (s.If c x (Some y)) (s.If (moved_expr move c) (moved_stmt move x) (Some (moved_stmt move y))) span _ (fold.if_else_kind (stmt_kind_step move) (stmt_step move) c x y)
        (equations.if_else_stmt (moved_expr move c) (moved_stmt move x) (moved_stmt move y) (moved_span move span))

    while_tells : (c : Expr) (x : Stmt) (span : Span) → told (statement (s.While c x) span) ≡ noted_then (bodies.condition (moved_expr move c)) (looped (told x))
    while_tells c x span = moved_tells (s.While c x) (s.While (moved_expr move c) (moved_stmt move x)) span _ (fold.while_kind (stmt_kind_step move) (stmt_step move) c x)
        (equations.while_stmt (moved_expr move c) (moved_stmt move x) (moved_span move span))

    do_tells : (x : Stmt) (c : Expr) (span : Span) → told (statement (s.Do x c) span) ≡ then_noted (looped (told x)) (bodies.condition (moved_expr move c))
    do_tells x c span = moved_tells (s.Do x c) (s.Do (moved_stmt move x) (moved_expr move c)) span _ (fold.do_kind (stmt_kind_step move) (stmt_step move) x c)
        (equations.do_stmt (moved_stmt move x) (moved_expr move c) (moved_span move span))

    abbrev head : Option Expr → List Expr → Scope → List Note
    head c update s = bodies.condition_or_none (maybe (moved_expr move) c) s ++ bodies.all_run (map (moved_expr move) update) s

    for_tells : (start : List Stmt) (c : Option Expr) (update : List Expr) (x : Stmt) (span : Span)
        → told (statement (s.For start c update x) span) ≡ closed (then_told (all_of (map (moved_stmt move) start)) (noted_then (head c update) (looped (told x))))
    for_tells start c update x span =
        moved_tells (s.For start c update x) (s.For (map (moved_stmt move) start) (maybe (moved_expr move) c) (map (moved_expr move) update) (moved_stmt move x)) span _
        (fold.for_kind (stmt_kind_step move) (stmt_step move) start c update x)
        (equations.for_stmt (map (moved_stmt move) start) (maybe (moved_expr move) c) (map (moved_expr move) update) (moved_stmt move x) (moved_span move span))

    mutual
      inner_stays : {old new : Stmt} {accesses : List Access} → In old new accesses → Stays (told old)
      inner_stays (q.block xs ys span other from list) = stays_as _ _ (block_tells xs span) (λ s. refl)
      inner_stays (q.empty span) = stays_as _ nothing (moved_tells s.Empty s.Empty span nothing (fold.empty_kind (stmt_kind_step move) (stmt_step move)) (equations.empty_stmt (moved_span move span))) (λ s. refl)
      inner_stays (q.if_then c x y span other from inner) = stays_as _ _ (if_tells c x span) (λ s. alone_stays inner s)
      inner_stays (q.if_else c x y z w span other from first second) = stays_as _ _ (if_else_tells c x z span) (λ s. alone_stays second (after (told x) s) ∙ alone_stays first s)
      inner_stays (q.while_do c x y span other from inner) = stays_as _ _ (while_tells c x span) (λ s. alone_stays inner (inside s))
      inner_stays (q.do_while c x y span other from inner) = stays_as _ _ (do_tells x c span) (λ s. alone_stays inner (inside s))
      inner_stays (q.for_do start c update x y span other from inner) = stays_as _ _ (for_tells start c update x span) (λ s. refl)
      inner_stays (q.breaks span) = stays_as _ _ (moved_tells s.Break s.Break span _ (fold.break_kind (stmt_kind_step move) (stmt_step move)) (equations.break_stmt (moved_span move span))) (λ s. refl)
      inner_stays (q.continues span) = stays_as _ _ (moved_tells s.Continue s.Continue span _ (fold.continue_kind (stmt_kind_step move) (stmt_step move)) (equations.continue_stmt (moved_span move span))) (λ s. refl)
      inner_stays (q.returns value span) = stays_as _ _ (moved_tells (s.Return value) _ span _ (fold.return_kind (stmt_kind_step move) (stmt_step move) value) (equations.return_stmt (maybe (moved_expr move) value) (moved_span move span))) (λ s. refl)
      inner_stays (q.throws name span) = stays_as _ nothing (moved_tells (s.Throw name) _ span nothing (fold.throw_kind (stmt_kind_step move) (stmt_step move) name) (equations.throw_stmt _ (moved_span move span))) (λ s. refl)
      inner_stays (q.prints value span) = stays_as _ _ (moved_tells (s.Print value) _ span _ (fold.print_kind (stmt_kind_step move) (stmt_step move) value) (equations.print_stmt (moved_expr move value) (moved_span move span))) (λ s. refl)
      inner_stays (q.runs value span) = stays_as _ _ (moved_tells (s.Run value) _ span _ (fold.run_kind (stmt_kind_step move) (stmt_step move) value) (equations.run_stmt (moved_expr move value) (moved_span move span))) (λ s. refl)

      alone_stays : {old new : Stmt} → Of old new → Stays (told old)
      alone_stays (q.untested old new inner) = inner_stays inner
      alone_stays (q.tested old new access rest tests span inner are) = inner_stays inner

    mutual
      inner_grows : {old new : Stmt} {accesses : List Access} → In old new accesses → Grows (told old) (telling new)
      inner_grows (q.block xs ys span other from list) =
          grown_from _ _ _ (block_tells xs span) (grown_as _ (closed (all_of ys)) _ (tells (s.Block ys) other _ (equations.block_stmt ys other)) (grown_closed (all_of (map (moved_stmt move) xs)) (all_of ys) (list_grows list)))
      inner_grows (q.empty span) = moved_grows s.Empty s.Empty span (fold.empty_kind (stmt_kind_step move) (stmt_step move))
      inner_grows (q.if_then c x y span other from inner) =
          grown_from _ _ _ (if_tells c x span) (grown_as _ _ _ (tells (s.If (moved_expr move c) y None) other _ (equations.if_stmt (moved_expr move c) y other))
          (grown_noted_then (bodies.condition (moved_expr move c)) (told x) (telling y) (alone_grows inner)))
      inner_grows (q.if_else c x y z w span other from first second) =
          grown_from _ _ _ (if_else_tells c x z span) (grown_as _ _ _ (tells (s.If (moved_expr move c) y (Some w)) other _ (equations.if_else_stmt (moved_expr move c) y w other))
          (grown_noted_then (bodies.condition (moved_expr move c)) (then_told (told x) (told z)) (then_told (telling y) (telling w))
          (grown_then (told x) (telling y) (told z) (telling w) (alone_grows first) (alone_grows second))))
      inner_grows (q.while_do c x y span other from inner) =
          grown_from _ _ _ (while_tells c x span) (grown_as _ _ _ (tells (s.While (moved_expr move c) y) other _ (equations.while_stmt (moved_expr move c) y other))
          (grown_noted_then (bodies.condition (moved_expr move c)) (looped (told x)) (looped (telling y)) (grown_looped (told x) (telling y) (alone_grows inner))))
      inner_grows (q.do_while c x y span other from inner) =
          grown_from _ _ _ (do_tells x c span) (grown_as _ _ _ (tells (s.Do y (moved_expr move c)) other _ (equations.do_stmt y (moved_expr move c) other))
          (grown_then_noted (looped (told x)) (looped (telling y)) (bodies.condition (moved_expr move c)) (grown_looped (told x) (telling y) (alone_grows inner))))
      inner_grows (q.for_do start c update x y span other from inner) =
          let first = all_of (map (moved_stmt move) start) in
          let t = then_told first (noted_then (head c update) (looped (told x))) in
          let u = then_told first (noted_then (head c update) (looped (telling y))) in
          grown_from _ (closed t) _ (for_tells start c update x span)
          (grown_as _ (closed u) _ (tells (s.For (map (moved_stmt move) start) (maybe (moved_expr move) c) (map (moved_expr move) update) y) other _
          (equations.for_stmt (map (moved_stmt move) start) (maybe (moved_expr move) c) (map (moved_expr move) update) y other))
          (grown_closed t u (grown_then first first (noted_then (head c update) (looped (told x))) (noted_then (head c update) (looped (telling y))) (grown first)
          (grown_noted_then (head c update) (looped (told x)) (looped (telling y)) (grown_looped (told x) (telling y) (alone_grows inner))))))
      inner_grows (q.breaks span) = moved_grows s.Break s.Break span (fold.break_kind (stmt_kind_step move) (stmt_step move))
      inner_grows (q.continues span) = moved_grows s.Continue s.Continue span (fold.continue_kind (stmt_kind_step move) (stmt_step move))
      inner_grows (q.returns value span) = moved_grows (s.Return value) _ span (fold.return_kind (stmt_kind_step move) (stmt_step move) value)
      inner_grows (q.throws name span) = moved_grows (s.Throw name) _ span (fold.throw_kind (stmt_kind_step move) (stmt_step move) name)
      inner_grows (q.prints value span) = moved_grows (s.Print value) _ span (fold.print_kind (stmt_kind_step move) (stmt_step move) value)
      inner_grows (q.runs value span) = moved_grows (s.Run value) _ span (fold.run_kind (stmt_kind_step move) (stmt_step move) value)

      alone_grows : {old new : Stmt} → Of old new → Grows (told old) (telling new)
      alone_grows (q.untested old new inner) = inner_grows inner
      alone_grows (q.tested old new access rest tests span inner are) =
          let t = told old in
          let body = tests ++ new ∷ [] in
          grown_as t (closed (all_of body)) _ (tells (s.Block body) span _ (equations.block_stmt body span))
          (grown_in_block t (all_of body) (inner_stays inner) (tests_before are t (new ∷ []) (one_told t (telling new) (inner_grows inner))))

      -- A list of statements with tests says what the statements do and new notes.
      pub list_grows : {olds news : List Stmt} → InList site move (IsWritten move) olds news → Grows (all_of (map (moved_stmt move) olds)) (all_of news)
      list_grows q.none = grown nothing
      list_grows (q.declared decls span tests xs ys are list) =
          let itself = statement (s.Local (map (moved_decl move) decls)) (moved_span move span) in
          let t = told (statement (s.Local decls) span) in
          let later = all_of (map (moved_stmt move) xs) in
          tests_before are (then_told t later) (itself ∷ ys)
          (grown_then t (telling itself) later (all_of ys) (moved_grows (s.Local decls) _ span (fold.local_kind (stmt_kind_step move) (stmt_step move) decls)) (list_grows list))
      list_grows (q.other x y xs ys alone list) = grown_then (told x) (telling y) (all_of (map (moved_stmt move) xs)) (all_of ys) (alone_grows alone) (list_grows list)
