-- At the place of a guarded access of a parsed source each access of the source stands behind its test.
use Rattle.std.proofs.Common.{◌≡◌, ◌≤◌, ℕ, ◌+◌, List, [], ◌∷◌, ◌++◌, inl, inr, arith}
use Rattle.std.specs.Prelude.{◌⊎◌, flat_map}
use Rattle.ix_tree.specs.declared.decl.ClassDecl.{ClassDecl}
use Rattle.ix_tree.specs.declared.decl.Member.{Member}
use Rattle.ix_tree.specs.declared.decl.Member.TheVariants.{Field, Method}
use Rattle.ix_tree.specs.declared.decl.MethodDecl.{MethodDecl}
use Rattle.ix_tree.specs.declared.decl.Unit.{Unit as Source}
use Rattle.ix_tree.specs.Parts as parts
use Rattle.ix_tree.specs.Parts.{Part, elsewhere, together, listed, type_parts, mods_parts, decl_parts, stmt_parts, args_parts, method_parts, member_parts, class_parts, unit_parts, other_name, CanResolve}
use Rattle.ix_lexer.specs.declared.token.Token.{Token}
use Rattle.ix_grammar.specs.Refusals.{HasTree}
use Rattle.ix_core.specs.declared.error.Error.{Error}
use Rattle.ix_meaning.specs.Resolved.{Names}
use Rattle.ix_formed.specs.Additions.{AllOf}
use Rattle.ix_formed.proofs.ExpressionNotes.{total_append}
use Rattle.ix_guard.specs.Accesses.{Access}
use Rattle.ix_guard.specs.Tests.{Site}
use Rattle.ix_guard.specs.GuardedAccesses.{in_body, in_member, in_class, guarded_accesses}
use Rattle.ix_guard_promise.specs.AllAccesses.{decl_accesses}
use Rattle.ix_guard_promise.specs.Outlines.{outlines}
use Rattle.ix_guard_promise.specs.SourceGuards.{IsAmong, args_accesses, MemberGuards, ClassGuards, SourceGuards}
use Rattle.ix_guard_promise.specs.StandingIndices.{MemberStands, ClassStands, SourceStands}
use Rattle.ix_guard_promise.proofs.AccessesCounted.{expression_at, expressions_at, decl_counts, parent_args_count, body_counts}
use Rattle.ix_guard_promise.proofs.OneAccess.{among_split, all_among, none_there, expressions_once}
use Rattle.ix_guard_promise.proofs.GuardedStatements.{none_guards, held_counts, body_held}
use Rattle.ix_guard_promise.proofs.StandingSources.{source_stands}

module _ (site : Site) (access : Access) where
  abbrev stand_there : List Part → ℕ
  stand_there ps = expressions_at access.index.span ps

  -- Where the access is one of these that are guarded, it is counted in the parts, and where no other expression is, it is so; it is so too where none is.
  record Held (found : List Access) (ps : List Part) (So : Type 0) : Type 0 where
    counts : IsAmong access found → 1 ≤ stand_there ps
    guards : stand_there ps ≤ 1 → IsAmong access found → So
    none : stand_there ps ≡ 0 → So

  held_more : (found : List Access) (ps qs : List Part) (So : Type 0) → stand_there ps ≤ stand_there qs → Held found ps So → Held found qs So
  held_more found ps qs So le held = record {
    counts = λ m. let a = held.counts m in omega (arith, a, le);
    guards = λ one m. held.guards (omega (arith, one, le)) m;
    none = λ none. held.none (omega (arith, none, le));
  }

  -- ---- lists

  module _ (found others : List Access) (ps qs : List Part) (So Later : Type 0) (a : Held found ps So) (b : Held others qs Later) where
    either_counts : IsAmong access found ⊎ IsAmong access others → 1 ≤ stand_there ps + stand_there qs
    either_counts (inl m) = let c = a.counts m in omega (arith, c)
    either_counts (inr m) = let c = b.counts m in omega (arith, c)

    either_guards : stand_there ps + stand_there qs ≤ 1 → IsAmong access found ⊎ IsAmong access others → So × Later
    either_guards one (inl m) = let c = a.counts m in (a.guards (omega (arith, one)) m, b.none (omega (arith, one, c)))
    either_guards one (inr m) = let c = b.counts m in (a.none (omega (arith, one, c)), b.guards (omega (arith, one)) m)

    both_held : Held (found ++ others) (ps ++ qs) (So × Later)
    both_held =
        let e = total_append (expression_at access.index.span) ps qs in
        record {
          counts = λ m. let c = either_counts (among_split access found others m) in omega (arith, c, e);
          guards = λ one m. either_guards (omega (arith, one, e)) (among_split access found others m);
          none = λ none. (a.none (omega (arith, none, e)), b.none (omega (arith, none, e)));
        }

  each_held : {A : Type 0} (found : A → List Access) (parts_of : A → List Part) (Fine So : A → Type 0) → ((x : A) → Fine x → Held (found x) (parts_of x) (So x)) → (xs : List A) → AllOf Fine xs
      → Held (flat_map found xs) (together (parts.each parts_of xs)) (AllOf So xs)
  each_held found parts_of Fine So held [] all = record { counts = λ m. absurd m; guards = λ one m. absurd m; none = λ none. tt }
  each_held found parts_of Fine So held (x ∷ xs) all =
      both_held (found x) (flat_map found xs) (parts_of x) (together (parts.each parts_of xs)) (So x) (AllOf So xs) (held x all.0) (each_held found parts_of Fine So held xs all.1)

  -- ---- members, classes, sources

  -- the parts of a method in which there may be accesses
  method_has : (m : MethodDecl) → stand_there (parts.maybe args_parts m.parent_args) + stand_there (listed (parts.each stmt_parts m.body)) ≤ stand_there (method_parts m)
  method_has m =
      let from_args = parts.maybe args_parts m.parent_args ++ listed (parts.each stmt_parts m.body) in
      let from_name = elsewhere m.name ∷ (listed (parts.each decl_parts m.params) ++ from_args) in
      let p = total_append (expression_at access.index.span) (mods_parts m.mods) (parts.maybe type_parts m.result ++ from_name) in
      let q = total_append (expression_at access.index.span) (parts.maybe type_parts m.result) from_name in
      let r = total_append (expression_at access.index.span) (listed (parts.each decl_parts m.params)) from_args in
      let t = total_append (expression_at access.index.span) (parts.maybe args_parts m.parent_args) (listed (parts.each stmt_parts m.body)) in omega (arith, p, q, r, t)

  member_held : (m : Member) → MemberStands site m → Held (in_member site m) (member_parts m) (MemberGuards site access.index.span m)
  member_held (Field decl) stand = record {
    counts = λ m. absurd m;
    guards = λ one m. absurd m;
    none = λ none. let a = decl_counts access.index.span decl in none_there access.index.span (decl_accesses decl) (omega (arith, a, none));
  }
  member_held (Method method) stand =
      let held = body_held site access method.body stand in
      let a = parent_args_count access.index.span method.parent_args in
      let b = body_counts access.index.span site method.body in
      let c = method_has method in
      record {
        counts = λ m. let d = held_counts site access (in_body site method.body) (outlines site method.body) held m in omega (arith, b, c, d);
        guards = λ one m. let d = held_counts site access (in_body site method.body) (outlines site method.body) held m in (none_there access.index.span (args_accesses method.parent_args) (omega (arith, a, b, c, d, one)), held.guards (omega (arith, b, c, one)) m);
        none = λ none. (none_there access.index.span (args_accesses method.parent_args) (omega (arith, a, c, none)), none_guards site access (outlines site method.body) (omega (arith, b, c, none)));
      }

  class_held : (k : ClassDecl) → ClassStands site k → Held (in_class site k) (class_parts k) (ClassGuards site access.index.span k)
  class_held k stand =
      let members = together (parts.each member_parts k.members) in
      let e = total_append (expression_at access.index.span) (parts.maybe other_name k.parent) (listed (parts.each member_parts k.members)) in
      held_more (in_class site k) members (class_parts k) (ClassGuards site access.index.span k) (omega (arith, e))
      (each_held (in_member site) member_parts (MemberStands site) (MemberGuards site access.index.span) member_held k.members stand)

-- At the index of each guarded access each access of the source stands behind a test of its variables.
pub guarded_source : (unit : Source) (names : Names) (errors : List Error) (access : Access) → CanResolve unit → SourceStands (record { names = names; errors = errors }) unit
    → IsAmong access (guarded_accesses unit names errors) → SourceGuards (record { names = names; errors = errors }) access.index.span unit
guarded_source unit names errors access can stand among =
    let site : Site = record { names = names; errors = errors } in
    let held = each_held site access (in_class site) class_parts (ClassStands site) (ClassGuards site access.index.span) (class_held site access) unit.classes stand in
    let one = expressions_once access.index.span (unit_parts unit) can.apart in
    held.guards (omega (arith, one)) among

-- so of a text's tree
pub parsed_guards : (tokens : List Token) (unit : Source) (names : Names) (errors : List Error) (access : Access) → HasTree tokens unit → CanResolve unit
    → IsAmong access (guarded_accesses unit names errors) → SourceGuards (record { names = names; errors = errors }) access.index.span unit
parsed_guards tokens unit names errors access (height, low) can among =
    guarded_source unit names errors access can (source_stands (record { names = names; errors = errors }) tokens (record { unit = unit; height = height }) low.0) among

-- So at each guarded access of a text's tree.
pub each_guarded : (tokens : List Token) (unit : Source) (names : Names) (errors : List Error) → HasTree tokens unit → CanResolve unit
    → AllOf (λ access. SourceGuards (record { names = names; errors = errors }) access.index.span unit) (guarded_accesses unit names errors)
each_guarded tokens unit names errors tree can = all_among (guarded_accesses unit names errors) (λ access m. parsed_guards tokens unit names errors access tree can m)
