-- In the tree of tokens that lie in order, fields whose types stand at one place are those of one declaration.
use Rattle.std.proofs.Common.{◌≡◌, ◌≤◌, ◌<◌, ℕ, Bool, true, false, List, [], ◌∷◌, ◌++◌, Option, Some, None, refl, sym, ap, ◌∙◌, subst, arith}
use Rattle.std.specs.Prelude.{if◌then◌else◌, ◌==◌}
use Rattle.std.proofs.lemmas.Bool.{and_parts}
use Rattle.ix_lexer.specs.declared.token.Token.{Token}
use Rattle.ix_lexer.specs.declared.fixed.TheConstants.{CLASS, SEMICOLON, OPEN_BRACE, CLOSE_BRACE}
use Rattle.ix_lexer.specs.Spans.{InOrder}
use Rattle.ix_lexer.proofs.SplitInOrder.{order_both}
use Rattle.ix_core.proofs.Cases.{by_test, equal}
use Rattle.ix_tree.specs.declared.annot.TypeTree.{TypeTree}
use Rattle.ix_tree.specs.declared.decl.ClassDecl.{ClassDecl}
use Rattle.ix_tree.specs.declared.decl.LocalDecl.{LocalDecl}
use Rattle.ix_tree.specs.declared.decl.Member.{Member}
use Rattle.ix_tree.specs.declared.decl.Member.TheVariants as member
use Rattle.ix_tree.proofs.Layouts.{Lies}
use Rattle.ix_grammar.specs.declared.classes.Classes.{Classes}
use Rattle.ix_grammar.specs.declared.classes.FoundClass.{FoundClass}
use Rattle.ix_grammar.specs.declared.classes.FoundUnit.{FoundUnit}
use Rattle.ix_grammar.specs.declared.classes.Members.{Members}
use Rattle.ix_grammar.specs.declared.declarations.FoundDecl.{FoundDecl}
use Rattle.ix_grammar.specs.declared.declarations.Shared.{Shared}
use Rattle.ix_grammar.specs.declared.found.FoundDecls.{FoundDecls}
use Rattle.ix_grammar.specs.Patterns.{sign, name_token}
use Rattle.ix_grammar.specs.Lists.{IsRepeated, no_item, one_more, first_item, next_item}
use Rattle.ix_grammar.specs.DeclGrammar as d
use Rattle.ix_grammar.specs.DeclGrammar.{IsDecl, IsDecls, shared}
use Rattle.ix_grammar.specs.ExprGrammar.{IsInit}
use Rattle.ix_grammar.specs.ClassGrammar as g
use Rattle.ix_grammar.specs.ClassGrammar.{IsMember, IsClass, fields, no_members, with_members, no_classes, with_class}
use Rattle.ix_grammar.specs.SourceGrammar.{source_parts, IsSource}
use Rattle.ix_meaning.specs.Resolved.{Accepts}
use Rattle.ix_meaning.specs.Declarators.{is_further, first_of, first_behind}
use Rattle.ix_formed.specs.Additions.{AllOf}
use Rattle.ix_formed.specs.Written.{is_written_type}
use Rattle.ix_formed.proofs.ParsedStatements.{type_found}
use Rattle.ix_grammar_rules.proofs.TypePlaces.{type_stands}
use Rattle.ix_grammar_rules.proofs.StmtPlaces.{order_at}
use Rattle.ix_guard_text.specs.Bare.{bare_source}
use Rattle.ix_guard_text.specs.Joint.{AllShare, ClassShares, IsJoint}
use Rattle.ix_guard_text.proofs.AcceptsAnywhere.{accepts_anywhere}

-- The type of the field that began the last declaration stands before that place.
abbrev Before : ℕ → Option LocalDecl → Type 0
Before lo None = Unit {0}
Before lo (Some first) = (first.ty.span.from < first.ty.span.to) × (first.ty.span.to ≤ lo)

before_later : (lo hi : ℕ) → lo ≤ hi → (first : Option LocalDecl) → Before lo first → Before hi first
before_later lo hi le None before = tt
before_later lo hi le (Some first) before = (before.0, let b = before.1 in omega (arith, b, le))

abbrev last_behind : Option LocalDecl → List Member → Option LocalDecl
last_behind first [] = first
last_behind first (m ∷ ms) = last_behind (first_behind first m) ms

-- These members are joined as they should be behind each field whose type stands before them.
abbrev Joins : ℕ → ℕ → List Member → Type 0
Joins lo hi ms = (first : Option LocalDecl) → Before lo first → AllShare first ms × Before hi (last_behind first ms)

-- ---- the fields of one declaration

abbrev Has : Shared → LocalDecl → Type 0
Has all decl = (decl.mods ≡ all.mods) × (decl.ty ≡ all.ty)

decl_has : (all : Shared) (ts : List Token) (found : FoundDecl) → IsDecl IsInit all ts found → Has all found.decl
decl_has all _ _ (d.plain name) = (refl, refl)
decl_has all _ _ (d.with_init name assign r) = (refl, refl)

all_and : (P : LocalDecl → Type 0) (xs : List LocalDecl) (x : LocalDecl) → AllOf P xs → P x → AllOf P (xs ++ x ∷ [])
all_and P [] x all one = (one, tt)
all_and P (y ∷ xs) x all one = (all.0, all_and P xs x all.1 one)

decls_have : (all : Shared) (ts : List Token) (found : FoundDecls) → IsDecls IsInit all ts found → AllOf (Has all) found.decls
decls_have all _ _ (first_item {tokens} {item} x) = (decl_has all tokens item x, tt)
decls_have all _ _ (next_item {before} {tokens} {items} {item} comma r x) = all_and (Has all) items.decls item.decl (decls_have all before items r) (decl_has all tokens item x)

module _ (lo hi : ℕ) (all : Shared) (written : is_written_type all.ty ≡ true) (lies : Lies lo hi all.ty.span) where
  first_has : (x decl : LocalDecl) → Has all x → Has all decl → Has all (first_of (Some x) decl)
  first_has x decl one two = by (is_further (Some x) decl)
    where
      by : (b : Bool) → Has all (if b then x else decl)
      by true = one
      by false = two

  ends : (x : LocalDecl) → Has all x → Before hi (Some x)
  ends x has = subst (λ (ty : TypeTree). (ty.span.from < ty.span.to) × (ty.span.to ≤ hi)) (sym has.1) (lies.1, lies.2)

  further_join : (x : LocalDecl) → Has all x → (ds : List LocalDecl) → AllOf (Has all) ds → AllShare (Some x) (fields ds) × Before hi (last_behind (Some x) (fields ds))
  further_join x has [] every = (tt, ends x has)
  further_join x has (decl ∷ ds) every =
      let rest = further_join (first_of (Some x) decl) (first_has x decl has every.0) ds every.1 in
      let fine : is_written_type decl.ty ≡ true = ap is_written_type every.0.1 ∙ written in
      (((λ e. (has.0 ∙ sym every.0.0, has.1 ∙ sym every.0.1)), fine, rest.0), rest.1)

  -- no field before stands at the type's place
  new_type : (x decl : LocalDecl) → Before lo (Some x) → Has all decl → is_further (Some x) decl ≡ true → ⊥
  new_type x decl before has e =
      let parts = and_parts (x.ty.span.from == decl.ty.span.from) (x.ty.span.to == decl.ty.span.to) e in
      let from : x.ty.span.from ≡ decl.ty.span.from = equal x.ty.span.from decl.ty.span.from parts.0 in
      let there : decl.ty.span.from ≡ all.ty.span.from = ap (λ (ty : TypeTree). ty.span.from) has.1 in
      let a = before.0 in
      let b = before.1 in
      let c = lies.0 in
      omega (arith, from, there, a, b, c)

  is_new : (x decl : LocalDecl) → Before lo (Some x) → Has all decl → first_of (Some x) decl ≡ decl
  is_new x decl before has = by_test (is_further (Some x) decl) (λ t. absurd (new_type x decl before has t)) (λ f. ap (λ b. if b then x else decl) f)

  fields_join : (ds : List LocalDecl) → AllOf (Has all) ds → Joins lo hi (fields ds)
  fields_join [] every first before = (tt, before_later lo hi (let a = lies.0 in let b = lies.1 in let c = lies.2 in omega (arith, a, b, c)) first before)
  fields_join (decl ∷ ds) every None before =
      let rest = further_join decl every.0 ds every.1 in
      let fine : is_written_type decl.ty ≡ true = ap is_written_type every.0.1 ∙ written in
      ((tt, fine, rest.0), rest.1)
  fields_join (decl ∷ ds) every (Some x) before =
      let rest = further_join (first_of (Some x) decl) (subst (Has all) (sym (is_new x decl before every.0)) every.0) ds every.1 in
      let fine : is_written_type decl.ty ≡ true = ap is_written_type every.0.1 ∙ written in
      (((λ e. absurd (new_type x decl before every.0 e)), fine, rest.0), rest.1)

-- ---- the members of a class

joins_wider : (lo hi from to : ℕ) → from ≤ lo → hi ≤ to → (ms : List Member) → Joins lo hi ms → Joins from to ms
joins_wider lo hi from to a b ms joins first before =
    let r = joins first (before_later from lo a first before) in (r.0, before_later hi to b (last_behind first ms) r.1)

member_joins : (lo hi : ℕ) (ts : List Token) (found : Members) → IsMember source_parts ts found → InOrder lo hi ts → Joins lo hi found.members
member_joins lo hi _ _ (g.some_fields {first} {second} {third} {mods} {ty} {decls} end m t r) o =
    let (one, a1, b1, o1, p1) = order_both lo hi first (second ++ (third ++ sign SEMICOLON end ∷ [])) o in
    let (two, a2, b2, o2, p2) = order_both one hi second (third ++ sign SEMICOLON end ∷ []) p1 in
    joins_wider one two lo hi a1 b2 (fields decls.decls)
    (fields_join one two (shared mods ty) (type_found second ty t) (type_stands one two second ty t o2).0 decls.decls (decls_have (shared mods ty) third decls r))
member_joins lo hi _ _ (g.method name m t r) o = λ first before. (tt, tt)
member_joins lo hi _ _ (g.void_method void name m r) o = λ first before. (tt, tt)
member_joins lo hi _ _ (g.constructor_of name m r) o = λ first before. (tt, tt)

shares_both : (first : Option LocalDecl) (ms ns : List Member) → AllShare first ms → AllShare (last_behind first ms) ns → AllShare first (ms ++ ns)
shares_both first [] ns a b = b
shares_both first (member.Field decl ∷ ms) ns a b = (a.0, a.1, shares_both (Some (first_of first decl)) ms ns a.2 b)
shares_both first (member.Method m ∷ ms) ns a b = shares_both None ms ns a b

last_both : (first : Option LocalDecl) (ms ns : List Member) → last_behind first (ms ++ ns) ≡ last_behind (last_behind first ms) ns
last_both first [] ns = refl
last_both first (m ∷ ms) ns = last_both (first_behind first m) ms ns

members_join : (lo hi : ℕ) (ts : List Token) (found : Members) → IsRepeated (IsMember source_parts) no_members with_members ts found → InOrder lo hi ts → Joins lo hi found.members
members_join lo hi _ _ no_item o first before = (tt, before_later lo hi o first before)
members_join lo hi _ _ (one_more {before = earlier} {tokens} {items} {item} r x) o first before =
    let (mid, a, b, p, q) = order_both lo hi earlier tokens o in
    let one = members_join lo mid earlier items r p first before in
    let two = member_joins mid hi tokens item x q (last_behind first items.members) one.1 in
    (shares_both first items.members item.members one.0 two.0, subst (Before hi) (sym (last_both first items.members item.members)) two.1)

-- ---- classes and whole sources

class_shares : (lo hi : ℕ) (ts : List Token) (found : FoundClass) → IsClass source_parts ts found → InOrder lo hi ts → ClassShares found.class
class_shares lo hi _ _ (g.class {first} {second} {third} {start} {parent} {members} span name left right w x r) o =
    let last = third ++ sign CLOSE_BRACE right ∷ [] in
    let (one, a1, b1, o1, p1) = order_both lo hi first (sign CLASS span ∷ name_token name ∷ (second ++ sign OPEN_BRACE left ∷ last)) o in
    let (two, a2, b2, c2, o2, p2) = order_at name.span.to hi second (sign OPEN_BRACE left) last p1.2.2 in
    let (far, a3, b3, c3, o3, p3) = order_at left.to hi third (sign CLOSE_BRACE right) [] p2 in
    (members_join left.to far third members r o3 None tt).0

all_with : (ks : List ClassDecl) (k : ClassDecl) → AllOf ClassShares ks → ClassShares k → AllOf ClassShares (ks ++ k ∷ [])
all_with [] k all one = (one, tt)
all_with (l ∷ ks) k all one = (all.0, all_with ks k all.1 one)

classes_share : (lo hi : ℕ) (ts : List Token) (found : Classes) → IsRepeated (IsClass source_parts) no_classes with_class ts found → InOrder lo hi ts → AllOf ClassShares found.classes
classes_share lo hi _ _ no_item o = tt
classes_share lo hi _ _ (one_more {before} {tokens} {items} {item} r x) o =
    let (mid, a, b, p, q) = order_both lo hi before tokens o in
    all_with items.classes item.class (classes_share lo mid before items r p) (class_shares mid hi tokens item x q)

-- The tree of tokens that lie in order.
pub source_is_joint : (lo hi : ℕ) (tokens : List Token) (found : FoundUnit) → IsSource tokens found → InOrder lo hi tokens → IsJoint found.unit
source_is_joint lo hi _ _ (g.program {first} {second} {third} {name} {imports} {classes} p i r) o =
    let (one, a, b, q, s) = order_both lo hi first (second ++ third) o in
    let (two, c, e, t, u) = order_both one hi second third s in
    classes_share two hi third classes r u

-- Of two texts whose trees are the same up to places both are accepted, or none.
pub source_accepted_again : (lo hi from to : ℕ) (tokens others : List Token) (found other : FoundUnit) → IsSource tokens found → InOrder lo hi tokens → IsSource others other → InOrder from to others
    → bare_source found.unit ≡ bare_source other.unit → Accepts found.unit → Accepts other.unit
source_accepted_again lo hi from to tokens others found other d o e p same =
    accepts_anywhere found.unit other.unit same (source_is_joint lo hi tokens found d o) (source_is_joint from to others other e p)
