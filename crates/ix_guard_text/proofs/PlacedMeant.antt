-- In the tree of a guarded text each test's names mean what those of its access mean in the source.
use Rattle.std.proofs.Common.{◌≡◌, ℕ, ◌+◌, true, List, [], ◌∷◌, ◌++◌, map, Option, Some, None, refl, sym, ap, subst, ◌∙◌, arith, append_assoc}
use Rattle.std.specs.Prelude.{◌==◌}
use Rattle.ix_text.specs.declared.span.Span.{Span}
use Rattle.ix_core.specs.Formed.{one_if}
use Rattle.ix_tree.specs.declared.decl.ClassDecl.{ClassDecl}
use Rattle.ix_tree.specs.declared.decl.Member.{Member}
use Rattle.ix_tree.specs.declared.decl.MethodDecl.{MethodDecl}
use Rattle.ix_tree.specs.declared.decl.Unit.{Unit as Source}
use Rattle.ix_tree.specs.declared.expr.Expr.{Expr}
use Rattle.ix_tree.specs.declared.stmt.Stmt.{Stmt}
use Rattle.ix_tree.specs.declared.stmt.StmtKind.{StmtKind}
use Rattle.ix_tree.specs.declared.stmt.StmtKind.TheVariants as s
use Rattle.ix_tree.specs.Parts as parts
use Rattle.ix_tree.specs.Parts.{Part, expression, statement as standing, declaration, in_type, elsewhere, entries, together, listed, each, mods_parts, type_parts, expr_parts, stmt_parts, args_parts, decl_parts, method_parts, member_parts, class_parts, unit_parts, CanResolve}
use Rattle.ix_tree.proofs.FoldsOfForms as fold
use Rattle.ix_meaning.specs.declared.members.Signature.{Signature}
use Rattle.ix_meaning.specs.declared.note.Note.{Note}
use Rattle.ix_meaning.specs.Annotated.{marked}
use Rattle.ix_meaning.specs.Bodies as bodies
use Rattle.ix_meaning.specs.Bodies.{Telling, telling, kind_telling, after, inside, then_told, looped, declares_note}
use Rattle.ix_meaning.specs.Classes.{parents}
use Rattle.ix_meaning.specs.Listed.{same_span}
use Rattle.ix_meaning.specs.Members as members
use Rattle.ix_meaning.specs.Members.{World, world, signature, next_member, next_fields}
use Rattle.ix_meaning.specs.Resolved.{Names, names, Accepts}
use Rattle.ix_meaning.specs.Scope.{Scope}
use Rattle.ix_meaning.specs.Source as source
use Rattle.ix_meaning.specs.Source.{Place, place, member_named, method_notes, notes}
use Rattle.ix_meaning.specs.Types.{Need, boolean, of, printed}
use Rattle.ix_meaning.specs.Values.{check, reading}
use Rattle.ix_meaning.proofs.Equations as equations
use Rattle.ix_guard_text.specs.Bare.{bare_maybe as maybe}
use Rattle.ix_formed.specs.Additions.{AllOf}
use Rattle.ix_formed.specs.NoErrors.{IsClean, Agrees, named_at, MembersSay, ClassesSay}
use Rattle.ix_formed.specs.Weights.{total}
use Rattle.ix_formed.proofs.CleanNotes.{all_clean}
use Rattle.ix_formed.proofs.EachMember.{said_parts, classes_say}
use Rattle.ix_formed.proofs.ExpressionNotes.{total_append}
use Rattle.ix_formed.proofs.NamesAgree.{notes_agree}
use Rattle.ix_formed.proofs.NumberLists.{is_itself, both_true}
use Rattle.ix_guard.specs.Accesses.{Access}
use Rattle.ix_guard.specs.Tests.{Site}
use Rattle.ix_guard.specs.Trees.{statement, expression_tested, returning}
use Rattle.ix_guard_text.specs.Moved.{Move, moved_span, moved_expr, moved_decl, moved_stmt}
use Rattle.ix_guard_text.specs.TestParts.{Parts, guard_of, IsWritten}
use Rattle.ix_guard_text.specs.GuardedNames.{SaysMoved, IsMeant}
use Rattle.ix_guard_text.specs.GuardedPlaces as q
use Rattle.ix_guard_text.specs.GuardedPlaces.{AreTests, Each, Inner, Alone, InList, PlacedMethod, PlacedMember, PlacedClass, PlacedSource}
use Rattle.ix_guard_text.proofs.AccessesKnown.{so_parts}
use Rattle.ix_guard_text.proofs.AccessesRead.{Beside, Agreed, no_error, Said, IsThere, AllThere, Stands, IsRead, expression_read, declaration_read}
use Rattle.ix_guard_text.proofs.AccessesSaid.{expression_finds, needed_fit}
use Rattle.ix_guard_text.proofs.StatementsWithNew.{all_of, nothing_after}
use Rattle.ix_guard_text.proofs.TestsMeant.{test_meant}
use Rattle.ix_guard_text.proofs.TestsRead.{condition_reading, test_telling, test_is}
use Rattle.ix_guard_text.proofs.TypedScopes.{AllTyped, statement_leaves, statements_leave, params_typed, fields_mean}

abbrev parts_in : List Stmt → List Part
parts_in xs = together (map stmt_parts xs)

each_is : {A : Type 0} (f : A → List Part) (xs : List A) → each f xs ≡ map f xs
each_is f [] = refl
each_is f (x ∷ xs) = ap (λ (ps : List (List Part)). f x ∷ ps) (each_is f xs)

abbrev kind_parts : StmtKind → List Part
kind_parts = fold.of_stmt_kind parts.stmt_kind_step parts.stmt_step

module _ (b : Beside) where
  abbrev IsMeantHere : Access → Parts → Type 0
  IsMeantHere access p = IsMeant b.site.names b.others b.move access p

  abbrev AllRead : Scope → List Access → Type 0
  AllRead z list = AllOf (IsRead b z.names) list

  abbrev In : Stmt → Stmt → List Access → Type 0
  In old new accesses = Inner b.site b.move (IsWritten b.move) old new accesses

  abbrev To : Stmt → Stmt → List Access → Type 0
  To old new accesses = Inner b.site b.move IsMeantHere old new accesses

  -- ---- a statement where it stands

  -- what a statement of this kind says
  says_of : (k : StmtKind) (span : Span) (t : Telling) (z : Scope) → kind_telling k span ≡ t → Said b ((telling (statement k span)).notes z) → Said b (t.notes z)
  says_of k span t z e said = subst (λ (x : Telling). Said b (x.notes z)) (equations.stmt_is k span ∙ e) said

  -- and its parts
  there_of : (k : StmtKind) (span : Span) (ps : List Part) → kind_parts k ≡ ps → AllThere b (stmt_parts (statement k span)) → AllThere b ps
  there_of k span ps e there = (subst (AllThere b) (fold.stmt_is parts.stmt_kind_step parts.stmt_step k span ∙ ap (λ (qs : List Part). standing span ∷ qs) e) there).1

  stands_after : (t : Telling) (z : Scope) → Stands b z → AllTyped (t.names z) → Stands b (after t z)
  stands_after t z stands typed = record { world = stands.world; not_pending = stands.not_pending; typed = typed }

  behind_statement : (x : Stmt) (z : Scope) → Stands b z → Said b ((telling x).notes z) → Stands b (after (telling x) z)
  behind_statement x z stands said = stands_after (telling x) z stands (statement_leaves (Agreed b) (no_error b) x z stands.typed said)

  in_loop : (z : Scope) → Stands b z → Stands b (inside z)
  in_loop z stands = record { world = stands.world; not_pending = stands.not_pending; typed = stands.typed }

  two : (xs ys : List Note) → Said b (xs ++ ys) → Said b xs × Said b ys
  two xs ys said = said_parts (Agreed b) xs ys said

  both_there : (ps qs : List Part) → AllThere b (ps ++ qs) → AllThere b ps × AllThere b qs
  both_there ps qs there = so_parts (IsThere b) ps qs there

  condition_read : (c : Expr) (need : Need) (z : Scope) → Stands b z → AllThere b (expr_parts (moved_expr b.move c)) → Said b (check (reading (moved_expr b.move c)) z need).notes
      → AllRead z (expression_tested b.site c)
  condition_read c need z stands there said = expression_read b z stands c there (needed_fit (Agreed b) (no_error b) (moved_expr b.move c) need z said)

  returned_read : (value : Option Expr) (span : Span) (z : Scope) → Stands b z → AllThere b (parts.maybe expr_parts (maybe (moved_expr b.move) value)) → Said b (bodies.returned (maybe (moved_expr b.move) value) span z)
      → AllRead z (returning b.site value)
  returned_read None span z stands there said = tt
  returned_read (Some c) span z stands there said = condition_read c (bodies.result_need z.result) z stands there said

  -- ---- tests

  record Behind (accesses : List Access) (tests us : List Stmt) (z : Scope) : Type 0 where
    pub are : AllRead z accesses → AreTests IsMeantHere accesses tests
    pub said : Said b ((all_of us).notes z)
    pub there : AllThere b (parts_in us)

  tests_split : {accesses : List Access} {tests : List Stmt} → AreTests (IsWritten b.move) accesses tests → (z : Scope) → Stands b z → (us : List Stmt) → Said b ((all_of (tests ++ us)).notes z)
      → AllThere b (parts_in (tests ++ us)) → Behind accesses tests us z
  tests_split q.none z stands us said there = record { are = λ r. q.none; said = said; there = there }
  tests_split (q.one_more {accesses} {tests} access p is rest) z stands us said there =
      let later = all_of (tests ++ us) in
      let own = (check (condition_reading p) z (of boolean)).notes in
      let read = subst (λ (t : Telling). Said b ((then_told t later).notes z)) (test_is p) said in
      let both = two (own ++ []) (later.notes (after (test_telling p) z)) read in
      let behind = subst (λ (x : Scope). Said b (later.notes x)) (nothing_after z) both.1 in
      let split = both_there (stmt_parts (guard_of p)) (parts_in (tests ++ us)) there in
      let more = tests_split rest z stands us behind split.1 in
      record {
        are = λ r. q.one_more access p (test_meant b z stands access p is r.0 split.0 (two own [] both.0).0) (more.are r.1);
        said = more.said;
        there = more.there;
      }

  -- ---- statements

  mutual
    inner_meant : {old new : Stmt} {accesses : List Access} → In old new accesses → (z : Scope) → Stands b z → Said b ((telling new).notes z) → AllThere b (stmt_parts new) → To old new accesses × AllRead z accesses
    inner_meant (q.block xs ys span other from list) z stands said there =
        let t = says_of (s.Block ys) other _ z (equations.block_stmt ys other) said in
        let ps = there_of (s.Block ys) other _ (fold.block_kind parts.stmt_kind_step parts.stmt_step ys) there in (q.block xs ys span other from (list_meant list z stands t ps.1), tt)
    inner_meant (q.empty span) z stands said there = (q.empty span, tt)
    inner_meant (q.if_then c x y span other from inner) z stands said there =
        let test = moved_expr b.move c in
        let t = two (bodies.condition test z) ((telling y).notes z) (says_of (s.If test y None) other _ z (equations.if_stmt test y other) said) in
        let ps = both_there (expr_parts test) (stmt_parts y) (there_of (s.If test y None) other _ (fold.if_kind parts.stmt_kind_step parts.stmt_step test y) there) in
        (q.if_then c x y span other from (alone_meant inner z stands t.1 ps.1), condition_read c (of boolean) z stands ps.0 t.0)
    inner_meant (q.if_else c x y v w span other from first second) z stands said there =
        let test = moved_expr b.move c in
        let t = two (bodies.condition test z) ((telling y).notes z ++ (telling w).notes (after (telling y) z)) (says_of (s.If test y (Some w)) other _ z (equations.if_else_stmt test y w other) said) in
        let u = two ((telling y).notes z) ((telling w).notes (after (telling y) z)) t.1 in
        let ps = both_there (expr_parts test) (stmt_parts y ++ stmt_parts w) (there_of (s.If test y (Some w)) other _ (fold.if_else_kind parts.stmt_kind_step parts.stmt_step test y w) there) in
        let rs = both_there (stmt_parts y) (stmt_parts w) ps.1 in (
          q.if_else c x y v w span other from (alone_meant first z stands u.0 rs.0) (alone_meant second (after (telling y) z) (behind_statement y z stands u.0) u.1 rs.1),
          condition_read c (of boolean) z stands ps.0 t.0,
        )
    inner_meant (q.while_do c x y span other from inner) z stands said there =
        let test = moved_expr b.move c in
        let t = two (bodies.condition test z) ((telling y).notes (inside z)) (says_of (s.While test y) other _ z (equations.while_stmt test y other) said) in
        let ps = both_there (expr_parts test) (stmt_parts y) (there_of (s.While test y) other _ (fold.while_kind parts.stmt_kind_step parts.stmt_step test y) there) in
        (q.while_do c x y span other from (alone_meant inner (inside z) (in_loop z stands) t.1 ps.1), tt)
    inner_meant (q.do_while c x y span other from inner) z stands said there =
        let test = moved_expr b.move c in
        let t = two ((telling y).notes (inside z)) (bodies.condition test (after (looped (telling y)) z)) (says_of (s.Do y test) other _ z (equations.do_stmt y test other) said) in
        let ps = both_there (stmt_parts y) (expr_parts test) (there_of (s.Do y test) other _ (fold.do_kind parts.stmt_kind_step parts.stmt_step y test) there) in
        (q.do_while c x y span other from (alone_meant inner (inside z) (in_loop z stands) t.0 ps.0), tt)
    inner_meant (q.for_do start c update x y span other from inner) z stands said there =
        let first = map (moved_stmt b.move) start in
        let test = maybe (moved_expr b.move) c in
        let steps = map (moved_expr b.move) update in
        let behind = after (all_of first) z in
        let head = bodies.condition_or_none test behind ++ bodies.all_run steps behind in
        let t = two ((all_of first).notes z) (head ++ (telling y).notes (inside behind)) (says_of (s.For first test steps y) other _ z (equations.for_stmt first test steps y other) said) in
        let u = two head ((telling y).notes (inside behind)) t.1 in
        let ps = both_there (listed (map stmt_parts first)) (parts.maybe expr_parts test ++ (listed (each expr_parts steps) ++ stmt_parts y))
        (there_of (s.For first test steps y) other _ (fold.for_kind parts.stmt_kind_step parts.stmt_step first test steps y) there) in
        let rs = both_there (parts.maybe expr_parts test) (listed (each expr_parts steps) ++ stmt_parts y) ps.1 in
        let vs = both_there (listed (each expr_parts steps)) (stmt_parts y) rs.1 in
        let there_stands = stands_after (all_of first) z stands (statements_leave (Agreed b) (no_error b) first z stands.typed t.0) in
        (q.for_do start c update x y span other from (alone_meant inner (inside behind) (in_loop behind there_stands) u.1 vs.1), tt)
    inner_meant (q.breaks span) z stands said there = (q.breaks span, tt)
    inner_meant (q.continues span) z stands said there = (q.continues span, tt)
    inner_meant (q.returns value span) z stands said there =
        let given = maybe (moved_expr b.move) value in
        let at = moved_span b.move span in
        let t = says_of (s.Return given) at _ z (equations.return_stmt given at) said in
        let ps = there_of (s.Return given) at _ (fold.return_kind parts.stmt_kind_step parts.stmt_step given) there in (q.returns value span, returned_read value at z stands ps t)
    inner_meant (q.throws name span) z stands said there = (q.throws name span, tt)
    inner_meant (q.prints value span) z stands said there =
        let given = moved_expr b.move value in
        let at = moved_span b.move span in
        let t = says_of (s.Print given) at _ z (equations.print_stmt given at) said in
        let ps = there_of (s.Print given) at _ (fold.print_kind parts.stmt_kind_step parts.stmt_step given) there in (q.prints value span, condition_read value printed z stands ps t)
    inner_meant (q.runs value span) z stands said there =
        let given = moved_expr b.move value in
        let at = moved_span b.move span in
        let t = says_of (s.Run given) at _ z (equations.run_stmt given at) said in
        let ps = there_of (s.Run given) at _ (fold.run_kind parts.stmt_kind_step parts.stmt_step given) there in
        (q.runs value span, expression_read b z stands value ps ((expression_finds (Agreed b) (no_error b) given).judge z t))

    alone_meant : {old new : Stmt} → Alone b.site b.move (IsWritten b.move) old new → (z : Scope) → Stands b z → Said b ((telling new).notes z) → AllThere b (stmt_parts new) → Alone b.site b.move IsMeantHere old new
    alone_meant (q.untested old new inner) z stands said there = q.untested old new (inner_meant inner z stands said there).0
    alone_meant (q.tested old new access rest tests span inner are) z stands said there =
        let body = tests ++ new ∷ [] in
        let t = says_of (s.Block body) span _ z (equations.block_stmt body span) said in
        let ps = there_of (s.Block body) span _ (fold.block_kind parts.stmt_kind_step parts.stmt_step body) there in
        let behind = tests_split are z stands (new ∷ []) t ps.1 in
        let own = inner_meant inner z stands (two ((telling new).notes z) [] behind.said).0 (both_there (stmt_parts new) [] behind.there).0 in
        q.tested old new access rest tests span own.0 (behind.are own.1)

    list_meant : {olds news : List Stmt} → InList b.site b.move (IsWritten b.move) olds news → (z : Scope) → Stands b z → Said b ((all_of news).notes z) → AllThere b (parts_in news) → InList b.site b.move IsMeantHere olds news
    list_meant q.none z stands said there = q.none
    list_meant (q.declared decls span tests xs ys are list) z stands said there =
        let made = map (moved_decl b.move) decls in
        let at = moved_span b.move span in
        let itself = statement (s.Local made) at in
        let behind = tests_split are z stands (itself ∷ ys) said there in
        let t = two ((telling itself).notes z) ((all_of ys).notes (after (telling itself) z)) behind.said in
        let ps = both_there (stmt_parts itself) (parts_in ys) behind.there in
        let own = says_of (s.Local made) at _ z (equations.local_stmt made at) t.0 in
        let own_parts = there_of (s.Local made) at _ (fold.local_kind parts.stmt_kind_step parts.stmt_step made) ps.0 in
        q.declared decls span tests xs ys (behind.are (declaration_read b z stands decls own_parts.1 own)) (list_meant list (after (telling itself) z) (behind_statement itself z stands t.0) t.1 ps.1)
    list_meant (q.other x y xs ys alone list) z stands said there =
        let t = two ((telling y).notes z) ((all_of ys).notes (after (telling y) z)) said in
        let ps = both_there (stmt_parts y) (parts_in ys) there in
        q.other x y xs ys (alone_meant alone z stands t.0 ps.0) (list_meant list (after (telling y) z) (behind_statement y z stands t.0) t.1 ps.1)

  -- ---- methods, classes, sources

  method_meant : (l : Place) (m : Signature) (old new : MethodDecl) → l.world ≡ b.world → PlacedMethod b.site b.move (IsWritten b.move) old new → Said b (method_notes l m new) → AllThere b (method_parts new)
      → PlacedMethod b.site b.move IsMeantHere old new
  method_meant l m old new same is said there =
      let head = source.head_scope l m new in
      let body = source.body_scope l m new in
      let result = source.result_given l head m new in
      let given = source.method_given l head m new.mods.annots in
      let c = (two (source.constructor_notes l new) _ said).1 in
      let i = (two (source.inherited_notes l m) _ c).1 in
      let r = (two result.notes _ i).1 in
      let g = (two given.notes _ r).1 in
      let d = (two (declares_note new.name.span m.result (marked result.claims given)) _ g).1 in
      let p = two (source.param_notes l head [] 0 new.params) _ d in
      let own = (two (source.super_notes l body new) _ p.1).1 in
      let mods = both_there (mods_parts new.mods) _ there.1 in
      let type = both_there (parts.maybe type_parts new.result) _ mods.1 in
      let params = both_there (listed (each decl_parts new.params)) _ type.1.1 in
      let args = both_there (parts.maybe args_parts new.parent_args) _ params.1 in
      let stands : Stands b body = record { world = same; not_pending = refl; typed = params_typed (Agreed b) (no_error b) l head [] 0 new.params p.0 } in
      record {
        mods = is.mods;
        result = is.result;
        constructor = is.constructor;
        name = is.name;
        params = is.params;
        parent_args = is.parent_args;
        body = list_meant is.body body stands own (subst (λ (ps : List (List Part)). AllThere b (together ps)) (each_is stmt_parts new.body) args.1.1);
        from = is.from;
      }

  members_meant : (l : Place) → l.world ≡ b.world → (named : List ℕ → Option ℕ) (i next : ℕ) {olds news : List Member} → Each (PlacedMember b.site b.move (IsWritten b.move)) olds news
      → MembersSay (Agreed b) l named i next news → AllThere b (together (each member_parts news)) → Each (PlacedMember b.site b.move IsMeantHere) olds news
  members_meant l same named i next q.none said there = q.none
  members_meant l same named i next (q.one_more {x} {y} {xs} {ys} (q.field d) rest) said there =
      q.one_more (q.field d) (members_meant l same named (i + 1) (next_member next y) rest said.2 (both_there (member_parts y) (together (each member_parts ys)) there).1)
  members_meant l same named i next (q.one_more {x} {y} {xs} {ys} (q.method {old} {new} is) rest) said there =
      let ps = both_there (member_parts y) (together (each member_parts ys)) there in
      q.one_more (q.method (method_meant l (signature l.world.class l.class new) old new same is said.1 ps.0)) (members_meant l same named (i + 1) next rest said.2 ps.1)

  classes_meant : (w : World) (ps : List (Option ℕ)) (ms : List Signature) (c next : ℕ) → w ≡ b.world → {olds news : List ClassDecl} → Each (PlacedClass b.site b.move (IsWritten b.move)) olds news
      → ClassesSay (Agreed b) w ps ms c next news → AllThere b (together (each class_parts news)) → Each (PlacedClass b.site b.move IsMeantHere) olds news
  classes_meant w ps ms c next same q.none said there = q.none
  classes_meant w ps ms c next same (q.one_more {x} {y} {xs} {ys} is rest) said there =
      let split = both_there (class_parts y) (together (each class_parts ys)) there in
      let own = both_there (parts.maybe parts.other_name y.parent) (listed (each member_parts y.members)) split.0.1.1 in
      q.one_more
      (record { name = is.name; parent = is.parent; members = members_meant (place w ms c y) same (member_named y.members) 0 next is.members said.0.members own.1.1; from = is.from })
      (classes_meant w ps ms (c + 1) (next_fields next y.members) same rest said.1 split.1)

  -- ---- the parts of the tree

  same_itself : (span : Span) → same_span span span ≡ true
  same_itself span = both_true (span.from == span.from) (span.to == span.to) (is_itself span.from) (is_itself span.to)

  there_from : (before ps : List Part) → b.tree ≡ before ++ ps → AllThere b ps
  there_from before [] e = tt
  there_from before (elsewhere name ∷ ps) e =
      let all = ap (total (named_at name.span)) e in
      let both = total_append (named_at name.span) before (elsewhere name ∷ ps) in
      let one = ap one_if (same_itself name.span) in (omega (arith, all, both, one), there_from (before ++ elsewhere name ∷ []) ps (e ∙ sym (append_assoc before (elsewhere name ∷ []) ps)))
  there_from before (expression span ∷ ps) e = (tt, there_from (before ++ expression span ∷ []) ps (e ∙ sym (append_assoc before (expression span ∷ []) ps)))
  there_from before (standing span ∷ ps) e = (tt, there_from (before ++ standing span ∷ []) ps (e ∙ sym (append_assoc before (standing span ∷ []) ps)))
  there_from before (declaration ∷ ps) e = (tt, there_from (before ++ declaration ∷ []) ps (e ∙ sym (append_assoc before (declaration ∷ []) ps)))
  there_from before (in_type name ∷ ps) e = (tt, there_from (before ++ in_type name ∷ []) ps (e ∙ sym (append_assoc before (in_type name ∷ []) ps)))
  there_from before (entries n ∷ ps) e = (tt, there_from (before ++ entries n ∷ []) ps (e ∙ sym (append_assoc before (entries n ∷ []) ps)))

-- The names of each test mean what those of its access mean in the source, where the guarded text is accepted and at places moved its names say what the source's do.
pub placed_meant : (site : Site) (move : Move) (unit other : Source) → site.names ≡ names unit → PlacedSource site move (IsWritten move) unit other → SaysMoved (names unit) (names other) move → CanResolve other → Accepts other
    → PlacedSource site move (IsMeant (names unit) (names other) move) unit other
placed_meant site move unit other e placed says can accepts =
    let ks = other.classes in
    let b : Beside = record {
      site = site;
      move = move;
      others = names other;
      says = subst (λ (n : Names). SaysMoved n (names other) move) (sym e) says;
      tree = unit_parts other;
      world = world ks;
      no_variable = fields_mean IsClean (λ error wrong. wrong) ks (all_clean (notes ks) accepts.no_errors);
    } in
    let said = classes_say (Agrees (names other) (unit_parts other)) (world ks) (parents ks) (members.methods ks) 0 0 ks (notes_agree other can accepts) in
    let there = there_from b [] (unit_parts other) refl in
    subst (λ (n : Names). PlacedSource site move (IsMeant n (names other) move) unit other) e (classes_meant b (world ks) (parents ks) (members.methods ks) 0 0 refl placed said there.1)
