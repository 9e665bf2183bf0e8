-- Bodies, members and classes of tokens at other places.
use Rattle.std.proofs.Common.{◌≡◌, Bool, false, true, List, [], ◌∷◌, ◌++◌, map, Option, Some, None, refl, sym, ap, ◌∙◌}
use Rattle.ix_text.specs.declared.span.Span.{Span}
use Rattle.ix_lexer.specs.declared.fixed.TheConstants.{CLASS, VOID, SEMICOLON, OPEN_BRACE, CLOSE_BRACE}
use Rattle.ix_tree.specs.declared.annot.Ident.{Ident}
use Rattle.ix_tree.specs.declared.annot.Mods.{Mods}
use Rattle.ix_tree.specs.declared.annot.TypeTree.{TypeTree}
use Rattle.ix_tree.specs.declared.decl.ClassDecl.{ClassDecl}
use Rattle.ix_tree.specs.declared.decl.LocalDecl.{LocalDecl}
use Rattle.ix_tree.specs.declared.decl.Member.{Member}
use Rattle.ix_tree.specs.declared.decl.Member.TheVariants.{Field, Method}
use Rattle.ix_tree.specs.declared.expr.Expr.{Expr}
use Rattle.ix_tree.specs.declared.stmt.Stmt.{Stmt}
use Rattle.ix_grammar.specs.declared.classes.Behind.{Behind}
use Rattle.ix_grammar.specs.declared.classes.Body.{Body}
use Rattle.ix_grammar.specs.declared.classes.FoundClass.{FoundClass}
use Rattle.ix_grammar.specs.declared.classes.Members.{Members}
use Rattle.ix_grammar.specs.declared.declarations.FoundMods.{FoundMods}
use Rattle.ix_grammar.specs.declared.found.FoundType.{FoundType}
use Rattle.ix_grammar.specs.Patterns.{sign, name_token}
use Rattle.ix_grammar.specs.DeclGrammar.{begins, earlier, member_words, shared}
use Rattle.ix_grammar.specs.StmtGrammar.{IsBlockStmt}
use Rattle.ix_grammar.specs.ClassGrammar as g
use Rattle.ix_grammar.specs.ClassGrammar.{IsBody, IsBehind, IsMember, IsClassWord, IsClassWords, IsParent, IsClass, result_tree, method_of, fields, no_stmts, with_stmt, no_members, with_members}
use Rattle.ix_grammar.specs.SourceGrammar.{source_parts}
use Rattle.ix_guard_text.specs.Bare.{nowhere, bare_maybe, bare_name, bare_type, bare_mods, bare_expr, bare_decl, bare_stmt, bare_member, bare_class}
use Rattle.ix_guard_text.specs.Respanned.{next, behind}
use Rattle.ix_guard_text.proofs.ListsAgain.{both, same_joined, Stays, repeated}
use Rattle.ix_guard_text.proofs.AnnotsAgain.{named_at, type_stays}
use Rattle.ix_guard_text.proofs.ExprsAgain.{args_stay}
use Rattle.ix_guard_text.proofs.DeclsAgain.{SameMods, SameParams, Any, mods_stay, decls_stay, params_stay, throws_stay}
use Rattle.ix_guard_text.proofs.StmtsAgain.{SameStmt, SameStmts, block_stmt_stays}

-- ---- bodies

pub record SameBody (x y : Body) : Type 0 where
  pub parent_args : bare_maybe (map bare_expr) x.parent_args ≡ bare_maybe (map bare_expr) y.parent_args
  pub stmts : map bare_stmt x.stmts ≡ map bare_stmt y.stmts

stmts_stay : Stays (g.IsStmts source_parts) (g.IsStmts source_parts) SameStmts
stmts_stay = repeated IsBlockStmt IsBlockStmt SameStmt block_stmt_stays SameStmts with_stmt (λ s t x y e f. same_joined bare_stmt s.stmts t.stmts x.stmt y.stmt e f.stmt) no_stmts refl

body_stays : (constructor : Bool) → Stays (IsBody source_parts constructor) (IsBody source_parts constructor) SameBody
body_stays constructor _ _ (g.block {tokens} {stmts} left right d) at =
    let inner = stmts_stay tokens stmts d (next at) in
    rw (both tokens (sign CLOSE_BRACE right ∷ []) (next at)) (record { found = _; is = g.block (at 0) (behind tokens (next at) 0) inner.is; same = record { parent_args = refl; stmts = inner.same } })
body_stays _ _ _ (g.with_super {before} {tokens} {args} {stmts} left super end right a d) at =
    let at1 = next (next at) in
    let one = args_stay before args a at1 in
    let at2 = behind before at1 in
    let two = stmts_stay tokens stmts d (next at2) in
    rw (both before (sign SEMICOLON end ∷ (tokens ++ sign CLOSE_BRACE right ∷ [])) at1, both tokens (sign CLOSE_BRACE right ∷ []) (next at2))
    (record { found = _; is = g.with_super (at 0) (next at 0) (at2 0) (behind tokens (next at2) 0) one.is two.is; same = record { parent_args = ap (λ l. Some l) one.same; stmts = two.same } })

-- ---- members

pub record SameBehind (x y : Behind) : Type 0 where
  pub params : SameParams x.params y.params
  pub body : SameBody x.body y.body

behind_stays : (constructor : Bool) → Stays (IsBehind source_parts constructor) (IsBehind source_parts constructor) SameBehind
behind_stays constructor _ _ (g.behind {first} {second} {third} {params} {names} {body} p t b) at =
    let one = params_stay first params p at in
    let at2 = behind first at in
    let two = throws_stay second names t at2 in
    let three = body_stays constructor third body b (behind second at2) in
    rw (both first (second ++ third) at, both second third at2) (record { found = _; is = g.behind one.is two.is three.is; same = record { params = one.same; body = three.same } })

abbrev pub SameMembers : Members → Members → Type 0
SameMembers x y = map bare_member x.members ≡ map bare_member y.members

abbrev made : Bool → Ident → Mods → Option TypeTree → List LocalDecl → Option (List Expr) → List Stmt → List Member
made constructor name mods result params parent_args body = Method (record {
  mods = mods;
  result = result;
  constructor = constructor;
  name = bare_name name;
  params = params;
  parent_args = parent_args;
  body = body;
  span = nowhere;
}) ∷ []

method_same : (p q : Span) (mods other : FoundMods) (result answer : Option FoundType) (constructor : Bool) (name : Ident) (span : Span) (rest more : Behind) → SameMods mods other
    → bare_maybe bare_type (result_tree result) ≡ bare_maybe bare_type (result_tree answer) → SameBehind rest more
    → SameMembers (method_of p mods result constructor name rest) (method_of q other answer constructor (record { text = name.text; span = span }) more)
method_same p q mods other result answer constructor name span rest more d e f =
    let m = bare_mods other.mods in
    let r = bare_maybe bare_type (result_tree answer) in
    let l = map bare_decl more.params.params in
    let a = bare_maybe (map bare_expr) more.body.parent_args in
    let b = map bare_stmt rest.body.stmts in
    ap (λ x. made constructor name x (bare_maybe bare_type (result_tree result)) (map bare_decl rest.params.params) (bare_maybe (map bare_expr) rest.body.parent_args) b) d
    ∙ ap (λ x. made constructor name m x (map bare_decl rest.params.params) (bare_maybe (map bare_expr) rest.body.parent_args) b) e
    ∙ ap (λ x. made constructor name m r x (bare_maybe (map bare_expr) rest.body.parent_args) b) f.params
    ∙ ap (λ x. made constructor name m r l x b) f.body.parent_args
    ∙ ap (made constructor name m r l a) f.body.stmts

fields_bare : (decls : List LocalDecl) → map bare_member (fields decls) ≡ fields (map bare_decl decls)
fields_bare [] = refl
fields_bare (decl ∷ decls) = ap (λ l. Field (bare_decl decl) ∷ l) (fields_bare decls)

member_stays : Stays (IsMember source_parts) (IsMember source_parts) SameMembers
member_stays _ _ (g.some_fields {first} {second} {third} {mods} {ty} {decls} end m t d) at =
    let one = mods_stay member_words first mods m at in
    let at2 = behind first at in
    let two = type_stays second ty t at2 in
    let at3 = behind second at2 in
    let three = decls_stay (shared mods ty) (shared one.found two.found) (record { mods = one.same; ty = two.same }) third decls d at3 in
    rw (both first (second ++ (third ++ sign SEMICOLON end ∷ [])) at, both second (third ++ sign SEMICOLON end ∷ []) at2, both third (sign SEMICOLON end ∷ []) at3)
    (record { found = _; is = g.some_fields (behind third at3 0) one.is two.is three.is; same = fields_bare decls.decls ∙ ap fields three.same ∙ sym (fields_bare three.found.decls) })
member_stays _ _ (g.method {first} {second} {third} {mods} {ty} {rest} name m t b) at =
    let one = mods_stay member_words first mods m at in
    let at2 = behind first at in
    let two = type_stays second ty t at2 in
    let at3 = behind second at2 in
    let three = behind_stays false third rest b (next at3) in
    rw (both first (second ++ name_token name ∷ third) at, both second (name_token name ∷ third) at2)
    (record {
      found = _;
      is = g.method (named_at at3 name) one.is two.is three.is;
      same = method_same (begins mods.first ty.ty.span) (begins one.found.first two.found.ty.span) mods one.found (Some ty) (Some two.found) false name (at3 0) rest three.found one.same (ap (λ x. Some x) two.same) three.same;
    })
member_stays _ _ (g.void_method {first} {second} {mods} {rest} void name m b) at =
    let one = mods_stay member_words first mods m at in
    let at2 = behind first at in
    let two = behind_stays false second rest b (next (next at2)) in
    rw (both first (sign VOID void ∷ name_token name ∷ second) at)
    (record {
      found = _;
      is = g.void_method (at2 0) (named_at (next at2) name) one.is two.is;
      same = method_same (begins mods.first void) (begins one.found.first (at2 0)) mods one.found None None false name (next at2 0) rest two.found one.same refl two.same;
    })
member_stays _ _ (g.constructor_of {first} {second} {mods} {rest} name m b) at =
    let one = mods_stay member_words first mods m at in
    let at2 = behind first at in
    let two = behind_stays true second rest b (next at2) in
    rw (both first (name_token name ∷ second) at)
    (record {
      found = _;
      is = g.constructor_of (named_at at2 name) one.is two.is;
      same = method_same (begins mods.first name.span) (begins one.found.first (at2 0)) mods one.found None None true name (at2 0) rest two.found one.same refl two.same;
    })

pub map_both : {A B : Type 0} (of : A → B) (xs ys : List A) → map of (xs ++ ys) ≡ map of xs ++ map of ys
map_both of [] ys = refl
map_both of (x ∷ xs) ys = ap (λ l. of x ∷ l) (map_both of xs ys)

members_same : (s t x y : Members) → SameMembers s t → SameMembers x y → SameMembers (with_members s x) (with_members t y)
members_same s t x y e f = map_both bare_member s.members x.members ∙ (rw (e, f) refl) ∙ sym (map_both bare_member t.members y.members)

-- ---- classes

word_stays : Stays IsClassWord IsClassWord Any
word_stays _ _ (g.public span) at = record { found = _; is = g.public (at 0); same = tt }
word_stays _ _ (g.final span) at = record { found = _; is = g.final (at 0); same = tt }

words_stay : Stays IsClassWords IsClassWords Any
words_stay = repeated IsClassWord IsClassWord Any word_stays Any earlier (λ s t x y e f. tt) None tt

abbrev SameParent : Option Ident → Option Ident → Type 0
SameParent x y = bare_maybe bare_name x ≡ bare_maybe bare_name y

parent_stays : Stays IsParent IsParent SameParent
parent_stays _ _ g.none at = record { found = _; is = g.none; same = refl }
parent_stays _ _ (g.extends span name) at = record { found = _; is = g.extends (at 0) (named_at (next at) name); same = refl }

abbrev pub SameClass : FoundClass → FoundClass → Type 0
SameClass x y = bare_class x.class ≡ bare_class y.class

abbrev made_class : Ident → Option Ident → List Member → ClassDecl
made_class name parent members = record { name = bare_name name; parent = parent; members = members; span = nowhere }

pub class_stays : Stays (IsClass source_parts) (IsClass source_parts) SameClass
class_stays _ _ (g.class {first} {second} {third} {start} {parent} {members} span name left right w x r) at =
    let one = words_stay first start w at in
    let at2 = behind first at in
    let at3 = next (next at2) in
    let two = parent_stays second parent x at3 in
    let at4 = behind second at3 in
    let three = repeated (IsMember source_parts) (IsMember source_parts) SameMembers member_stays SameMembers with_members members_same no_members refl third members r (next at4) in
    rw (both first (sign CLASS span ∷ name_token name ∷ (second ++ sign OPEN_BRACE left ∷ (third ++ sign CLOSE_BRACE right ∷ []))) at, both second (sign OPEN_BRACE left ∷ (third ++ sign CLOSE_BRACE right ∷ [])) at3, both third (sign CLOSE_BRACE right ∷ []) (next at4))
    (record {
      found = _;
      is = g.class (at2 0) (named_at (next at2) name) (at4 0) (behind third (next at4) 0) one.is two.is three.is;
      same = ap (λ p. made_class name p (map bare_member members.members)) two.same ∙ ap (made_class name (bare_maybe bare_name two.found)) three.same;
    })
