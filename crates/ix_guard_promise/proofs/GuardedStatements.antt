-- Where one access of a statement at a place is guarded, and no other is there, each access at the place stands behind its test.
use Rattle.std.proofs.Common.{◌≡◌, ◌≤◌, ℕ, ◌+◌, List, [], ◌∷◌, ◌++◌, map, Option, Some, None, refl, sym, subst, inl, inr, arith}
use Rattle.std.specs.Prelude.{◌⊎◌}
use Rattle.std.proofs.lemmas.List.{append-nil}
use Rattle.ix_tree.specs.declared.decl.LocalDecl.{LocalDecl}
use Rattle.ix_tree.specs.declared.expr.Expr.{Expr}
use Rattle.ix_tree.specs.declared.stmt.Stmt.{Stmt, Stmt-F, ind-Stmt, map-Stmt, roll-Stmt, fold-roll-Stmt}
use Rattle.ix_tree.specs.declared.stmt.StmtKind.{StmtKind, StmtKind-F, map-StmtKind, roll-StmtKind, fold-StmtKind, fold-roll-StmtKind}
use Rattle.ix_guard.specs.Accesses.{Access, Parts, parts_of, all_decl_parts}
use Rattle.ix_guard.specs.Tests.{Site}
use Rattle.ix_guard.specs.Trees.{tested, returning}
use Rattle.ix_guard.specs.GuardedAccesses as guarded
use Rattle.ix_guard.specs.GuardedAccesses.{guarded_of, in_value, in_each, in_statement, in_body}
use Rattle.ix_guard_promise.specs.AllAccesses.{AnyAccess, all_accesses, maybe, each_of, decl_accesses}
use Rattle.ix_guard_promise.specs.Outlines as outlining
use Rattle.ix_guard_promise.specs.Outlines.{Outline, nothing, node, followed, joined, everything, behind, untested, outline, outlines}
use Rattle.ix_guard_promise.specs.SourceGuards.{IsAmong, free, Guards}
use Rattle.ix_guard_promise.specs.SourceAccesses.{any_of}
use Rattle.ix_guard_promise.specs.StandingIndices.{IndicesStand}
use Rattle.ix_guard_promise.proofs.StandingOutlines.{everything_followed, node_stands, followed_stands}
use Rattle.ix_guard_promise.proofs.AccessesCounted.{accesses_at, made_at, node_made, followed_made}
use Rattle.ix_guard_promise.proofs.OneAccess.{among_left, among_right, among_split, among_counts, none_there}
use Rattle.ix_guard_promise.proofs.AccessesListed.{Listed, expression_listed, decls_listed}
use Rattle.ix_guard_promise.proofs.TestedPairs.{is_there, guarded_behind}

module _ (site : Site) (access : Access) where
  abbrev made : Outline → ℕ
  made o = made_at access.index.span o

  abbrev So : Outline → Type 0
  So o = Guards site access.index.span o

  guards_followed : (x y : Outline) → So x → So y → So (followed x y)
  guards_followed nothing y a b = b
  guards_followed (node tests own others inner later) y a b = (a.0, (a.1.0, (a.1.1.0, guards_followed later y a.1.1.1 b)))

  -- where nothing is at the place
  pub none_guards : (o : Outline) → made o ≡ 0 → So o
  none_guards nothing none = tt
  none_guards (node tests own others inner later) none =
      let e = node_made access.index.span tests own others inner later in (
        free (none_there access.index.span own (omega (arith, e, none))),
        (none_there access.index.span others (omega (arith, e, none)), (none_guards inner (omega (arith, e, none)), none_guards later (omega (arith, e, none)))),
      )

  -- Where the access is one of these that are guarded, it is made in the statements, and where no other is at its place, they have their guards.
  pub record Held (found : List Access) (o : Outline) : Type 0 where
    pub listed : IsAmong access found → IsAmong (any_of access) (everything o)
    pub guards : made o ≤ 1 → IsAmong access found → So o

  pub held_counts : (found : List Access) (o : Outline) → Held found o → IsAmong access found → 1 ≤ made o
  held_counts found o held m = among_counts access.index.span (any_of access) (everything o) refl (held.listed m)

  abbrev Holds : List Access → Outline → Type 0
  Holds found o = IndicesStand (everything o) → Held found o

  nothing_held : (o : Outline) → Holds [] o
  nothing_held o stand = record { listed = λ m. absurd m; guards = λ one m. absurd m }

  -- either way, where no more than one is counted
  one_way : (found others : List Access) (x y : Outline) → Held found x → Held others y → made x + made y ≤ 1 → IsAmong access found ⊎ IsAmong access others → So x × So y
  one_way found others x y a b one (inl m) = let c = held_counts found x a m in (a.guards (omega (arith, one)) m, none_guards y (omega (arith, one, c)))
  one_way found others x y a b one (inr m) = let c = held_counts others y b m in (none_guards x (omega (arith, one, c)), b.guards (omega (arith, one)) m)

  either_listed : (found others : List Access) (x y : Outline) → Held found x → Held others y → IsAmong access found ⊎ IsAmong access others → IsAmong (any_of access) (everything x ++ everything y)
  either_listed found others x y a b (inl m) = among_left (any_of access) (everything x) (everything y) (a.listed m)
  either_listed found others x y a b (inr m) = among_right (any_of access) (everything x) (everything y) (b.listed m)

  held_followed : (found others : List Access) (x y : Outline) → Holds found x → Holds others y → Holds (found ++ others) (followed x y)
  held_followed found others x y a b stand =
      let s = followed_stands x y stand in
      let e = followed_made access.index.span x y in
      let first = a s.0 in let second = b s.1 in
      record {
        listed = λ m. subst (IsAmong (any_of access)) (sym (everything_followed x y)) (either_listed found others x y first second (among_split access found others m));
        guards = λ one m. let g = one_way found others x y first second (omega (arith, one, e)) (among_split access found others m) in guards_followed x y g.0 g.1;
      }

  held_untested : (found : List Access) (others : List AnyAccess) (inner : Outline) → Holds found inner → Holds found (untested others inner)
  held_untested found others inner a stand =
      let e = node_made access.index.span [] [] others inner nothing in
      let i = a (node_stands [] [] others inner nothing stand).2 in
      record {
        listed = λ m. among_right (any_of access) others (everything inner ++ []) (among_left (any_of access) (everything inner) [] (i.listed m));
        guards = λ one m. let c = held_counts found inner i m in (free tt, (none_there access.index.span others (omega (arith, c, e, one)), (i.guards (omega (arith, e, one)) m, tt)));
      }

  -- a statement behind its tests, with those that are a part of it
  module _ (declared : List LocalDecl) (parts : Parts) (own : List AnyAccess) (found : List Access) (inner : Outline) where
    abbrev whole : Outline
    whole = behind (tested site declared parts) own inner

    abbrev Either : Type 0
    Either = IsAmong access (guarded_of site declared parts) ⊎ IsAmong access found

    abbrev IsSum : Type 0
    IsSum = made whole ≡ accesses_at access.index.span own + (0 + (made inner + 0))

    behind_listed : Listed parts.accesses own → Held found inner → Either → IsAmong (any_of access) (everything whole)
    behind_listed l i (inl m) = among_left (any_of access) own (everything inner ++ []) (is_there site declared parts own l access m)
    behind_listed l i (inr m) = among_right (any_of access) own (everything inner ++ []) (among_left (any_of access) (everything inner) [] (i.listed m))

    behind_guards : IsSum → Listed parts.accesses own → Held found inner → made whole ≤ 1 → Either → So whole
    behind_guards e l i one (inl m) =
        let c = among_counts access.index.span (any_of access) own refl (is_there site declared parts own l access m) in (guarded_behind site declared parts own l access m (omega (arith, e, one)), (tt, (none_guards inner (omega (arith, c, e, one)), tt)))
    behind_guards e l i one (inr m) = let c = held_counts found inner i m in (free (none_there access.index.span own (omega (arith, c, e, one))), (tt, (i.guards (omega (arith, e, one)) m, tt)))

    held_behind : (IndicesStand own → Listed parts.accesses own) → Holds found inner → Holds (guarded_of site declared parts ++ found) whole
    held_behind listed a stand =
        let e = node_made access.index.span (tested site declared parts) own [] inner nothing in
        let s = node_stands (tested site declared parts) own [] inner nothing stand in
        let l = listed s.0 in
        let i = a s.2 in
        record {
          listed = λ m. behind_listed l i (among_split access (guarded_of site declared parts) found m);
          guards = λ one m. behind_guards e l i one (among_split access (guarded_of site declared parts) found m);
        }

  -- with no statements that are a part of it
  held_alone : (declared : List LocalDecl) (parts : Parts) (own : List AnyAccess) → (IndicesStand own → Listed parts.accesses own) → Holds (guarded_of site declared parts) (behind (tested site declared parts) own nothing)
  held_alone declared parts own listed =
      subst (λ found. Holds found (behind (tested site declared parts) own nothing)) (append-nil (guarded_of site declared parts)) (held_behind declared parts own [] nothing listed (nothing_held nothing))

  held_value : (value : Option Expr) → Holds (in_value site value) (behind (returning site value) (maybe all_accesses value) nothing)
  held_value None = nothing_held (behind [] [] nothing)
  held_value (Some value) = held_alone [] (parts_of value) (all_accesses value) (expression_listed value)

  -- ---- statements

  abbrev kind_found : StmtKind → List Access
  kind_found = fold-StmtKind (List Access) (List Access) (guarded.kind_step site) (λ statement. statement.kind)

  abbrev kind_outline : StmtKind → Outline
  kind_outline = fold-StmtKind Outline Outline (outlining.kind_step site) outlining.stmt_step

  abbrev KindIs : StmtKind → Type 0
  KindIs k = Holds (kind_found k) (kind_outline k)

  abbrev StmtIs : Stmt → Type 0
  StmtIs x = Holds (in_statement site x) (outline site x)

  module _ {K S : Type 0} (kind : K → StmtKind) (stmt : S → Stmt) (stmt_is : (x : S) → StmtIs (stmt x)) where
    all_held : (xs : List S) → Holds (in_each (map (in_statement site) (map stmt xs))) (joined (map (outline site) (map stmt xs)))
    all_held [] = nothing_held nothing
    all_held (x ∷ xs) =
        held_followed (in_statement site (stmt x)) (in_each (map (in_statement site) (map stmt xs))) (outline site (stmt x)) (joined (map (outline site) (map stmt xs))) (stmt_is x) (all_held xs)

    kind_layer : (y : StmtKind-F K S) → Holds (guarded.kind_step site (map-StmtKind StmtKind Stmt (List Access) (List Access) kind_found (in_statement site) (map-StmtKind K S StmtKind Stmt kind stmt y)))
        (outlining.kind_step site (map-StmtKind StmtKind Stmt Outline Outline kind_outline (outline site) (map-StmtKind K S StmtKind Stmt kind stmt y)))
    kind_layer (StmtKind-F.Block xs) = held_untested (in_each (map (in_statement site) (map stmt xs))) [] (joined (map (outline site) (map stmt xs))) (all_held xs)
    kind_layer StmtKind-F.Empty = nothing_held (untested [] nothing)
    kind_layer (StmtKind-F.Local ds) = held_alone ds (all_decl_parts ds) (each_of decl_accesses ds) (decls_listed ds)
    kind_layer (StmtKind-F.If c t None) =
        held_behind [] (parts_of c) (all_accesses c) (in_statement site (stmt t) ++ []) (outline site (stmt t)) (expression_listed c)
        (subst (λ found. Holds found (outline site (stmt t))) (sym (append-nil (in_statement site (stmt t)))) (stmt_is t))
    kind_layer (StmtKind-F.If c t (Some u)) =
        held_behind [] (parts_of c) (all_accesses c) (in_statement site (stmt t) ++ in_statement site (stmt u)) (followed (outline site (stmt t)) (outline site (stmt u))) (expression_listed c)
        (held_followed (in_statement site (stmt t)) (in_statement site (stmt u)) (outline site (stmt t)) (outline site (stmt u)) (stmt_is t) (stmt_is u))
    kind_layer (StmtKind-F.While c t) = held_untested (in_statement site (stmt t)) (all_accesses c) (outline site (stmt t)) (stmt_is t)
    kind_layer (StmtKind-F.Do t c) = held_untested (in_statement site (stmt t)) (all_accesses c) (outline site (stmt t)) (stmt_is t)
    kind_layer (StmtKind-F.For xs c es t) =
        held_untested (in_statement site (stmt t)) (everything (joined (map (outline site) (map stmt xs))) ++ (maybe all_accesses c ++ each_of all_accesses es)) (outline site (stmt t)) (stmt_is t)
    kind_layer StmtKind-F.Break = nothing_held (untested [] nothing)
    kind_layer StmtKind-F.Continue = nothing_held (untested [] nothing)
    kind_layer (StmtKind-F.Return value) = held_value value
    kind_layer (StmtKind-F.Throw thrown) = nothing_held (untested [] nothing)
    kind_layer (StmtKind-F.Print value) = held_alone [] (parts_of value) (all_accesses value) (expression_listed value)
    kind_layer (StmtKind-F.Run e) = held_alone [] (parts_of e) (all_accesses e) (expression_listed e)

    kind_rolled : (y : StmtKind-F K S) → KindIs (roll-StmtKind (map-StmtKind K S StmtKind Stmt kind stmt y))
    kind_rolled y =
        let layer = map-StmtKind K S StmtKind Stmt kind stmt y in
        let a = fold-roll-StmtKind (List Access) (List Access) (guarded.kind_step site) (λ statement. statement.kind) layer in
        let b = fold-roll-StmtKind Outline Outline (outlining.kind_step site) outlining.stmt_step layer in
        subst (λ (o : Outline). Holds (kind_found (roll-StmtKind layer)) o) (sym b)
        (subst (λ (found : List Access). Holds found (outlining.kind_step site (map-StmtKind StmtKind Stmt Outline Outline kind_outline (outline site) layer))) (sym a) (kind_layer y))

    stmt_rolled : ((k : K) → KindIs (kind k)) → (y : Stmt-F K S) → StmtIs (roll-Stmt (map-Stmt K S StmtKind Stmt kind stmt y))
    stmt_rolled kind_is y =
        let layer = map-Stmt K S StmtKind Stmt kind stmt y in
        let a = fold-roll-Stmt (List Access) (List Access) (guarded.kind_step site) (λ statement. statement.kind) layer in
        let b = fold-roll-Stmt Outline Outline (outlining.kind_step site) outlining.stmt_step layer in
        subst (λ (o : Outline). Holds (in_statement site (roll-Stmt layer)) o) (sym b) (subst (λ (found : List Access). Holds found (kind_outline (kind y.kind))) (sym a) (kind_is y.kind))

  statement_held : (x : Stmt) → StmtIs x
  statement_held = ind-Stmt KindIs StmtIs
      (λ x y e. subst (λ layer. KindIs (roll-StmtKind layer)) e (kind_rolled (λ k. k.0) (λ s. s.0) (λ s. s.1) y))
      (λ x y e. subst (λ layer. StmtIs (roll-Stmt layer)) e (stmt_rolled (λ k. k.0) (λ s. s.0) (λ s. s.1) (λ k. k.1) y))

  -- A body of which the access is one that is guarded, and the only one at its place.
  pub body_held : (xs : List Stmt) → IndicesStand (everything (outlines site xs)) → Held (in_body site xs) (outlines site xs)
  body_held [] = nothing_held nothing
  body_held (x ∷ xs) = held_followed (in_statement site x) (in_body site xs) (outline site x) (outlines site xs) (statement_held x) (body_held xs)
