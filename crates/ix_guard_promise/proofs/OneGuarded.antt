-- At the index of a guarded access no other access of a parsed source stands.
use Rattle.std.proofs.Common.{◌≡◌, List, [], ◌∷◌, ◌++◌, refl, inl, inr, arith}
use Rattle.std.specs.Prelude.{◌⊎◌, flat_map}
use Rattle.ix_tree.specs.declared.decl.ClassDecl.{ClassDecl}
use Rattle.ix_tree.specs.declared.decl.Member.{Member}
use Rattle.ix_tree.specs.declared.decl.Member.TheVariants.{Field, Method}
use Rattle.ix_tree.specs.declared.decl.Unit.{Unit as Source}
use Rattle.ix_tree.specs.Parts.{unit_parts, CanResolve}
use Rattle.ix_lexer.specs.declared.token.Token.{Token}
use Rattle.ix_grammar.specs.Refusals.{HasTree}
use Rattle.ix_core.specs.declared.error.Error.{Error}
use Rattle.ix_meaning.specs.Resolved.{Names}
use Rattle.ix_formed.specs.Additions.{AllOf}
use Rattle.ix_guard.specs.Accesses.{Access}
use Rattle.ix_guard.specs.Tests.{Site}
use Rattle.ix_guard.specs.GuardedAccesses.{in_member, in_class, guarded_accesses}
use Rattle.ix_guard_promise.specs.AllAccesses.{AnyAccess, each_of, decl_accesses}
use Rattle.ix_guard_promise.specs.Outlines.{everything, outlines}
use Rattle.ix_guard_promise.specs.SourceGuards.{IsAmong, args_accesses}
use Rattle.ix_guard_promise.specs.SourceAccesses.{any_of, member_accesses, class_accesses, source_accesses}
use Rattle.ix_guard_promise.specs.StandingIndices.{MemberStands, ClassStands, SourceStands}
use Rattle.ix_guard_promise.proofs.AccessesCounted.{source_counts}
use Rattle.ix_guard_promise.proofs.OneAccess.{among_left, among_right, among_split, only_it, expressions_once}
use Rattle.ix_guard_promise.proofs.GuardedStatements.{body_held}
use Rattle.ix_guard_promise.proofs.StandingSources.{source_stands}

-- ---- a guarded access is one of all

each_listed : {A : Type 0} (access : Access) (found : A → List Access) (of : A → List AnyAccess) (Fine : A → Type 0) → ((x : A) → Fine x → IsAmong access (found x) → IsAmong (any_of access) (of x)) → (xs : List A)
    → AllOf Fine xs → IsAmong access (flat_map found xs) → IsAmong (any_of access) (each_of of xs)
each_listed access found of Fine listed [] all m = absurd m
each_listed {A} access found of Fine listed (x ∷ xs) all m = here_or_later (listed x all.0) (each_listed access found of Fine listed xs all.1) (among_split access (found x) (flat_map found xs) m)
  where
    here_or_later : (IsAmong access (found x) → IsAmong (any_of access) (of x)) → (IsAmong access (flat_map found xs) → IsAmong (any_of access) (each_of of xs))
        → IsAmong access (found x) ⊎ IsAmong access (flat_map found xs) → IsAmong (any_of access) (of x ++ each_of of xs)
    here_or_later first later (inl n) = among_left (any_of access) (of x) (each_of of xs) (first n)
    here_or_later first later (inr n) = among_right (any_of access) (of x) (each_of of xs) (later n)

module _ (site : Site) (access : Access) where
  member_listed : (m : Member) → MemberStands site m → IsAmong access (in_member site m) → IsAmong (any_of access) (member_accesses site m)
  member_listed (Field decl) stand m = absurd m
  member_listed (Method method) stand m =
      let body = everything (outlines site method.body) in
      among_right (any_of access) (each_of decl_accesses method.params) (args_accesses method.parent_args ++ body)
      (among_right (any_of access) (args_accesses method.parent_args) body ((body_held site access method.body stand).listed m))

  class_listed : (k : ClassDecl) → ClassStands site k → IsAmong access (in_class site k) → IsAmong (any_of access) (class_accesses site k)
  class_listed k stand m = each_listed access (in_member site) (member_accesses site) (MemberStands site) member_listed k.members stand m

-- A guarded access is one of the source's,
pub guarded_is_one : (unit : Source) (names : Names) (errors : List Error) (access : Access) → SourceStands (record { names = names; errors = errors }) unit
    → IsAmong access (guarded_accesses unit names errors) → IsAmong (any_of access) (source_accesses (record { names = names; errors = errors }) unit)
guarded_is_one unit names errors access stand m =
    let site : Site = record { names = names; errors = errors } in each_listed access (in_class site) (class_accesses site) (ClassStands site) (class_listed site access) unit.classes stand m

-- and each access of the source whose index stands where its index does is this one.
pub guarded_alone : (tokens : List Token) (unit : Source) (names : Names) (errors : List Error) (access : Access) → HasTree tokens unit → CanResolve unit → IsAmong access (guarded_accesses unit names errors)
    → AllOf (λ other. other.place ≡ access.index.span → any_of access ≡ other) (source_accesses (record { names = names; errors = errors }) unit)
guarded_alone tokens unit names errors access (height, low) can m =
    let site : Site = record { names = names; errors = errors } in
    let stand = source_stands site tokens (record { unit = unit; height = height }) low.0 in
    let a = source_counts access.index.span site unit in
    let b = expressions_once access.index.span (unit_parts unit) can.apart in
    only_it access.index.span (any_of access) (source_accesses site unit) refl (guarded_is_one unit names errors access stand m) (omega (arith, a, b))
