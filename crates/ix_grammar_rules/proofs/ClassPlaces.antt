-- Where the parts of members and classes stand.
use Rattle.std.proofs.Common.{◌≡◌, ◌≤◌, ◌<◌, ◌+◌, ℕ, suc, Bool, true, false, List, [], ◌∷◌, ◌++◌, length, Option, Some, None, refl, sym, ap, subst, ◌∙◌, append_assoc, length-append, arith}
use Rattle.std.proofs.lemmas.List.{append-nil}
use Rattle.ix_text.specs.declared.span.Span.{Span}
use Rattle.ix_lexer.specs.declared.token.Token.{Token}
use Rattle.ix_lexer.specs.declared.fixed.TheConstants.{CLASS, OPEN_BRACE, CLOSE_BRACE, SEMICOLON, VOID}
use Rattle.ix_lexer.specs.Spans.{InOrder}
use Rattle.ix_tree.specs.declared.annot.Ident.{Ident}
use Rattle.ix_tree.specs.declared.decl.LocalDecl.{LocalDecl}
use Rattle.ix_tree.specs.Parts.{Part, declaration, elsewhere, together, listed, each, maybe, mods_parts, type_parts, decl_parts, stmt_parts, args_parts, member_parts, other_name, class_parts}
use Rattle.ix_grammar.specs.declared.classes.Behind.{Behind}
use Rattle.ix_grammar.specs.declared.classes.Body.{Body}
use Rattle.ix_grammar.specs.declared.classes.FoundClass.{FoundClass}
use Rattle.ix_grammar.specs.declared.classes.Members.{Members}
use Rattle.ix_grammar.specs.declared.classes.Stmts.{Stmts}
use Rattle.ix_grammar.specs.declared.declarations.FoundMods.{FoundMods}
use Rattle.ix_grammar.specs.declared.found.FoundType.{FoundType}
use Rattle.ix_grammar.specs.Patterns.{sign, name_token}
use Rattle.ix_grammar.specs.Lists.{IsRepeated, no_item, one_more}
use Rattle.ix_grammar.specs.DeclGrammar.{begins}
use Rattle.ix_grammar.specs.DeclGrammar as decls
use Rattle.ix_grammar.specs.StmtGrammar.{IsBlockStmt}
use Rattle.ix_grammar.specs.ClassGrammar as g
use Rattle.ix_grammar.specs.ClassGrammar.{IsBody, IsBehind, IsMember, IsParent, IsClass, result_tree, method_of, fields, no_stmts, with_stmt, no_members, with_members}
use Rattle.ix_grammar.specs.SourceGrammar.{source_parts}
use Rattle.ix_lexer.proofs.SplitInOrder.{order_within, order_both}
use Rattle.ix_tree.proofs.PartPlaces.{Stand, stand_none, stand_declaration, stand_elsewhere}
use Rattle.ix_grammar_rules.proofs.TypePlaces.{type_stands}
use Rattle.ix_grammar_rules.proofs.ExprPlaces.{args_stand}
use Rattle.ix_grammar_rules.proofs.DeclPlaces.{wider, beside, name_beside, mods_stand, parts_both, decls_stand, listed_stand, repeated_trees, params_stand}
use Rattle.ix_grammar_rules.proofs.StmtPlaces.{order_at, body_stmt_stands}

-- ---- bodies

body_stmts_stand : (lo hi : ℕ) (ts : List Token) (found : Stmts) → g.IsStmts source_parts ts found → InOrder lo hi ts → Stand lo hi (length ts) (listed (each stmt_parts found.stmts))
body_stmts_stand lo hi ts found d o =
    repeated_trees IsBlockStmt (λ x. x.stmt) stmt_parts (λ x. x.stmts) with_stmt (λ s x. refl) no_stmts refl body_stmt_stands lo hi ts found d o

abbrev body_parts : Body → List Part
body_parts body = maybe args_parts body.parent_args ++ listed (each stmt_parts body.stmts)

body_stands : (lo hi : ℕ) (constructor : Bool) (ts : List Token) (body : Body) → IsBody source_parts constructor ts body → InOrder lo hi ts → Stand lo hi (length ts) (body_parts body)
body_stands lo hi constructor _ _ (g.block {tokens} {stmts} left right d) (a, b, o) =
    let (mid, c, e, f, p, q) = order_at left.to hi tokens (sign CLOSE_BRACE right) [] o in
    wider (body_stmts_stand left.to mid tokens stmts d p) lo hi (suc (length (tokens ++ sign CLOSE_BRACE right ∷ []))) (omega (arith, a, b)) (omega (arith, e, f))
    (omega (arith, length-append tokens (sign CLOSE_BRACE right ∷ [])))
body_stands lo hi _ _ _ (g.with_super {before} {tokens} {args} {stmts} left super end right x d) (a, b, (c, e, o)) =
    let last = tokens ++ sign CLOSE_BRACE right ∷ [] in
    let (one, a1, b1, c1, o1, p1) = order_at super.to hi before (sign SEMICOLON end) last o in
    let (two, a2, b2, c2, o2, p2) = order_at end.to hi tokens (sign CLOSE_BRACE right) [] p1 in
    wider (beside (args_stand super.to one before args x o1).1 (body_stmts_stand end.to two tokens stmts d o2) (length before + length tokens) a1 b1 a2 (omega arith))
    lo hi (suc (suc (length (before ++ sign SEMICOLON end ∷ last)))) (omega (arith, a, b, c, e)) (omega (arith, b2, c2))
    (omega (arith, length-append before (sign SEMICOLON end ∷ last), length-append tokens (sign CLOSE_BRACE right ∷ [])))

-- ---- members

abbrev behind_parts : Behind → List Part
behind_parts rest = listed (each decl_parts rest.params.params) ++ body_parts rest.body

behind_stands : (lo hi : ℕ) (constructor : Bool) (ts : List Token) (rest : Behind) → IsBehind source_parts constructor ts rest → InOrder lo hi ts → Stand lo hi (length ts) (behind_parts rest)
behind_stands lo hi constructor _ _ (g.behind {first} {second} {third} {params} {names} {body} d t x) o =
    let (one, a, b, p, q) = order_both lo hi first (second ++ third) o in
    let (two, c, e, r, s) = order_both one hi second third q in
    beside (params_stand lo one first params d p) (body_stands two hi constructor third body x s) (length (first ++ (second ++ third))) a c e
    (omega (arith, length-append first (second ++ third), length-append second third))

-- a method or constructor, whose modifiers and result stand before its name
method_stands : {lo mid next hi n m : ℕ} (rest : Behind) (mods : FoundMods) (result : Option FoundType) → Stand lo mid n (mods_parts mods.mods ++ maybe type_parts (result_tree result)) → Stand next hi m (behind_parts rest)
    → (start : Span) (constructor : Bool) (name : Ident) (k : ℕ) → lo ≤ mid → mid ≤ name.span.from → name.span.from < name.span.to → name.span.to ≤ next → next ≤ hi → n + m + 1 ≤ k
    → Stand lo hi k (together (each member_parts (method_of start mods result constructor name rest).members))
method_stands {lo} {mid} {next} {hi} {n} {m} rest mods result s t start constructor name k a b c d e le =
    let behind = elsewhere name ∷ behind_parts rest in
    let whole = beside s (name_beside name t mid m b c d e (omega arith)) (n + m) a (omega arith) (omega (arith, b, c, d, e)) (omega arith) in
    let same = ap (λ y. declaration ∷ y) (append_assoc (mods_parts mods.mods) (maybe type_parts (result_tree result)) behind) ∙ sym (append-nil (declaration ∷ (mods_parts mods.mods ++ (maybe type_parts (result_tree result) ++ behind)))) in
    subst (λ y. Stand lo hi k y) same (wider (stand_declaration lo hi (n + m) ((mods_parts mods.mods ++ maybe type_parts (result_tree result)) ++ behind) whole) lo hi k (omega arith) (omega arith) (omega (arith, le)))

field_parts : (ds : List LocalDecl) → each member_parts (fields ds) ≡ each decl_parts ds
field_parts [] = refl
field_parts (d ∷ ds) = ap (λ l. decl_parts d ∷ l) (field_parts ds)

field_count : (ds : List LocalDecl) → length (fields ds) ≡ length ds
field_count [] = refl
field_count (d ∷ ds) = ap (λ n. suc n) (field_count ds)

-- the last one further out
pub later_assoc : (first second third last : List Token) → first ++ (second ++ (third ++ last)) ≡ (first ++ (second ++ third)) ++ last
later_assoc first second third last = sym (append_assoc first (second ++ third) last ∙ ap (λ y. first ++ y) (append_assoc second third last))

abbrev MembersStand : ℕ → ℕ → ℕ → Members → Type 0
MembersStand lo hi n found = (length found.members ≤ n) × Stand lo hi n (together (each member_parts found.members))

member_stands : (lo hi : ℕ) (ts : List Token) (found : Members) → IsMember source_parts ts found → InOrder lo hi ts → MembersStand lo hi (length ts) found
member_stands lo hi _ _ (g.some_fields {first} {second} {third} {mods} {ty} {decls = ds} end m t d) o =
    let inner = first ++ (second ++ third) in
    let same = later_assoc first second third (sign SEMICOLON end ∷ []) in
    let (mid, a, b, c, p, q) = order_at lo hi inner (sign SEMICOLON end) [] (subst (λ y. InOrder lo hi y) same o) in
    let (few, s) = decls_stand decls.member_words lo mid first second third mods ty ds m t d p in
    let n = length (first ++ (second ++ (third ++ sign SEMICOLON end ∷ []))) in
    let count : n ≡ length inner + 1 = ap (λ y. length y) same ∙ length-append inner (sign SEMICOLON end ∷ []) in (
      omega (arith, few, count, field_count ds.decls),
      subst (λ y. Stand lo hi n (together y)) (sym (field_parts ds.decls)) (wider s lo hi n (omega arith) (omega (arith, b, c)) (omega (arith, count))),
    )
member_stands lo hi _ _ (g.method {first} {second} {third} {mods} {ty} {rest} name m t d) o =
    let (one, a, b, p, q) = order_both lo hi first (second ++ name_token name ∷ third) o in
    let (two, c, e, r, u) = order_both one hi second (name_token name ∷ third) q in
    let n = length (first ++ (second ++ name_token name ∷ third)) in
    let count = length-append first (second ++ name_token name ∷ third) in
    let later = length-append second (name_token name ∷ third) in (
      omega (arith, count, later),
      method_stands rest mods (Some ty) (beside (mods_stand decls.member_words lo one first mods m p).1 (type_stands one two second ty t r).1 (length first + length second) a (omega arith) c (omega arith))
          (behind_stands name.span.to hi false third rest d u.2) (begins mods.first ty.ty.span) false name n (omega (arith, a, c)) u.0 u.1 (omega arith) (order_within name.span.to hi third u.2) (omega (arith, count, later)),
    )
member_stands lo hi _ _ (g.void_method {first} {second} {mods} {rest} void name m d) o =
    let (one, a, b, p, q) = order_both lo hi first (sign VOID void ∷ name_token name ∷ second) o in
    let n = length (first ++ sign VOID void ∷ name_token name ∷ second) in
    let count = length-append first (sign VOID void ∷ name_token name ∷ second) in (
      omega (arith, count),
      method_stands rest mods None (subst (λ y. Stand lo one (length first) y) (sym (append-nil (mods_parts mods.mods))) (mods_stand decls.member_words lo one first mods m p).1)
          (behind_stands name.span.to hi false second rest d q.2.2) (begins mods.first void) false name n a (omega (arith, q.0, q.1, q.2.0)) q.2.1 (omega arith) (order_within name.span.to hi second q.2.2) (omega (arith, count)),
    )
member_stands lo hi _ _ (g.constructor_of {first} {second} {mods} {rest} name m d) o =
    let (one, a, b, p, q) = order_both lo hi first (name_token name ∷ second) o in
    let n = length (first ++ name_token name ∷ second) in
    let count = length-append first (name_token name ∷ second) in (
      omega (arith, count),
      method_stands rest mods None (subst (λ y. Stand lo one (length first) y) (sym (append-nil (mods_parts mods.mods))) (mods_stand decls.member_words lo one first mods m p).1)
          (behind_stands name.span.to hi true second rest d q.2) (begins mods.first name.span) true name n a q.0 q.1 (omega arith) (order_within name.span.to hi second q.2) (omega (arith, count)),
    )

members_stand : (lo hi : ℕ) (ts : List Token) (found : Members) → IsRepeated (IsMember source_parts) no_members with_members ts found → InOrder lo hi ts → MembersStand lo hi (length ts) found
members_stand lo hi _ _ no_item o = (omega arith, stand_none lo hi 0)
members_stand lo hi _ _ (one_more {before} {tokens} {items} {item} d x) o =
    let (mid, a, b, p, q) = order_both lo hi before tokens o in
    let (few, s) = members_stand lo mid before items d p in
    let (more, t) = member_stands mid hi tokens item x q in
    let n = length (before ++ tokens) in (
      omega (arith, few, more, length-append before tokens, length-append items.members item.members),
      subst (λ y. Stand lo hi n y) (sym (parts_both member_parts items.members item.members)) (beside s t n a (omega arith) b (omega (arith, length-append before tokens))),
    )

-- ---- classes

parent_stands : (lo hi : ℕ) (ts : List Token) (parent : Option Ident) → IsParent ts parent → InOrder lo hi ts → Stand lo hi (length ts) (maybe other_name parent)
parent_stands lo hi _ _ g.none o = stand_none lo hi 0
parent_stands lo hi _ _ (g.extends span name) (a, b, (c, d, e)) = stand_elsewhere lo hi 2 name (omega (arith, a, b, c), d, e)

pub class_stands : (lo hi : ℕ) (ts : List Token) (found : FoundClass) → IsClass source_parts ts found → InOrder lo hi ts → (1 ≤ length ts) × Stand lo hi (length ts + 0) (class_parts found.class)
class_stands lo hi _ _ (g.class {first} {second} {third} {start} {parent} {members} span name left right w x d) o =
    let last = third ++ sign CLOSE_BRACE right ∷ [] in
    let later = second ++ sign OPEN_BRACE left ∷ last in
    let (one, a1, b1, o1, p1) = order_both lo hi first (sign CLASS span ∷ name_token name ∷ later) o in
    let (two, a2, b2, c2, o2, p2) = order_at name.span.to hi second (sign OPEN_BRACE left) last p1.2.2 in
    let (far, a3, b3, c3, o3, p3) = order_at left.to hi third (sign CLOSE_BRACE right) [] p2 in
    let (few, s) = members_stand left.to far third members d o3 in
    let n = length (first ++ sign CLASS span ∷ name_token name ∷ later) in
    let count = length-append first (sign CLASS span ∷ name_token name ∷ later) in
    let counts = length-append second (sign OPEN_BRACE left ∷ last) in
    let ending = length-append third (sign CLOSE_BRACE right ∷ []) in
    let k = length second + length third in
    let inner = beside (parent_stands name.span.to two second parent x o2) (listed_stand member_parts left.to far (length third) members.members few s) k a2 b2 a3 (omega arith) in (
      omega (arith, count),
      wider (stand_declaration name.span.from far k (elsewhere name ∷ (maybe other_name parent ++ listed (each member_parts members.members)))
          (name_beside name inner name.span.from k (omega arith) p1.2.1 (omega arith) (omega (arith, a2, b2, a3)) (omega arith)))
          lo hi (n + 0) (omega (arith, a1, p1.0, p1.1, p1.2.0)) (omega (arith, b3, c3)) (omega (arith, count, counts, ending)),
    )
