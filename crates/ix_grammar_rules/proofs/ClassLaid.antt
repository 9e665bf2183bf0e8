-- Members, classes and sources stand where their tokens are, with their parts in them.
use Rattle.std.proofs.Common.{◌≡◌, ◌≤◌, ◌<◌, ◌==◌, ◌&&◌, cond, ℕ, Bool, true, false, List, [], ◌∷◌, ◌++◌, map, Option, Some, None, refl, sym, ap, subst, ◌∙◌, append_assoc, arith}
use Rattle.std.proofs.lemmas.Bool.{eq-eqb, eqb-true}
use Rattle.ix_text.specs.declared.span.Span.{Span}
use Rattle.ix_lexer.specs.declared.token.Token.{Token}
use Rattle.ix_lexer.specs.declared.fixed.TheConstants.{CLASS, OPEN_BRACE, CLOSE_BRACE, SEMICOLON, VOID}
use Rattle.ix_lexer.specs.Spans.{InOrder}
use Rattle.ix_tree.specs.declared.annot.Ident.{Ident}
use Rattle.ix_tree.specs.declared.decl.LocalDecl.{LocalDecl}
use Rattle.ix_tree.specs.declared.decl.Member.{Member}
use Rattle.ix_tree.specs.declared.decl.Member.TheVariants.{Field, Method}
use Rattle.ix_tree.specs.Placed.{Layout, LaidOut, row, piece, again, maybe, name_piece, annot_piece, type_piece, expr_piece, stmt_piece, shared_pieces, own_pieces, params_pieces, further_pieces, locals_pieces, parent_pieces, method_piece, same_span, field_shared, members_pieces, class_piece, Placed}
use Rattle.ix_tree.proofs.Layouts.{Lies, Laid, laid_more, laid_rows, laid_first, laid_one, laid_node, laid_name}
use Rattle.ix_grammar.specs.declared.classes.Behind.{Behind}
use Rattle.ix_grammar.specs.declared.classes.Body.{Body}
use Rattle.ix_grammar.specs.declared.classes.FoundClass.{FoundClass}
use Rattle.ix_grammar.specs.declared.classes.FoundUnit.{FoundUnit}
use Rattle.ix_grammar.specs.declared.classes.Members.{Members}
use Rattle.ix_grammar.specs.declared.classes.Stmts.{Stmts}
use Rattle.ix_grammar.specs.declared.declarations.FoundMods.{FoundMods}
use Rattle.ix_grammar.specs.declared.declarations.Shared.{Shared}
use Rattle.ix_grammar.specs.declared.found.FoundType.{FoundType}
use Rattle.ix_grammar.specs.Nodes.{across}
use Rattle.ix_grammar.specs.Patterns.{sign, name_token}
use Rattle.ix_grammar.specs.Lists.{IsRepeated, no_item, one_more}
use Rattle.ix_grammar.specs.DeclGrammar.{begins, earlier, shared, member_words}
use Rattle.ix_grammar.specs.StmtGrammar.{IsBlockStmt}
use Rattle.ix_grammar.specs.ClassGrammar as g
use Rattle.ix_grammar.specs.ClassGrammar.{IsBody, IsBehind, IsMember, IsParent, IsClassWord, IsClassWords, IsClass, result_tree, method_of, fields, no_stmts, with_stmt, no_members, with_members, no_classes, with_class}
use Rattle.ix_grammar.specs.SourceGrammar.{source_parts, IsSource}
use Rattle.ix_lexer.proofs.SplitInOrder.{order_within, order_both}
use Rattle.ix_grammar_rules.proofs.DeclPlaces.{FirstLies, mods_stand}
use Rattle.ix_grammar_rules.proofs.ListsLaid.{repeated_laid}
use Rattle.ix_grammar_rules.proofs.ExprLaid.{args_lie, args_laid}
use Rattle.ix_grammar_rules.proofs.DeclLaid.{HaveAll, head_laid, headed, mods_laid, first_behind, group_laid, params_laid}
use Rattle.ix_grammar_rules.proofs.StmtLaid.{block_stmt_laid}
use Rattle.ix_grammar_rules.proofs.ClassPlaces.{later_assoc}

-- ---- bodies

body_stmts_laid : (start lo hi : ℕ) (ts : List Token) (found : Stmts) → g.IsStmts source_parts ts found → InOrder lo hi ts → Laid start lo hi (map stmt_piece found.stmts)
body_stmts_laid start lo hi ts found d o = repeated_laid IsBlockStmt (λ x. x.stmt) stmt_piece block_stmt_laid (λ x. x.stmts) with_stmt (λ s x. refl) no_stmts refl start lo hi ts found d o

abbrev body_pieces : Body → List Layout
body_pieces body = parent_pieces body.parent_args ++ map stmt_piece body.stmts

-- The closing brace is the last token.
record BodyLaid (start lo hi : ℕ) (body : Body) : Type 0 where
  pub end : Lies lo hi body.end
  pub laid : Laid start lo body.end.to (body_pieces body)

body_laid : (start lo hi : ℕ) (constructor : Bool) (ts : List Token) (body : Body) → IsBody source_parts constructor ts body → InOrder lo hi ts → BodyLaid start lo hi body
body_laid start lo hi constructor _ _ (g.block {tokens} {stmts} left right d) (a, b, o) =
    let (mid, c, e, p, q) = order_both left.to hi tokens (sign CLOSE_BRACE right ∷ []) o in record {
      end = (omega (arith, a, b, c, q.0), q.1, q.2);
      laid = laid_more start left.to mid start lo right.to (row (map stmt_piece stmts.stmts)) (omega arith) (omega (arith, a, b)) (omega (arith, q.0, q.1)) (body_stmts_laid start left.to mid tokens stmts d p);
    }
body_laid start lo hi _ _ _ (g.with_super {before} {tokens} {args} {stmts} left super end right x d) (a, b, (c, e, o)) =
    let last = tokens ++ sign CLOSE_BRACE right ∷ [] in
    let (one, a1, b1, o1, p1) = order_both super.to hi before (sign SEMICOLON end ∷ last) o in
    let (two, a2, b2, o2, p2) = order_both end.to hi tokens (sign CLOSE_BRACE right ∷ []) p1.2 in
    let l = args_lie super.to one before args x o1 in record {
      end = (omega (arith, a, b, c, e, a1, p1.0, p1.1, a2, p2.0), p2.1, p2.2);
      laid = laid_rows start lo args.end.to end.to right.to (map expr_piece args.items) (map stmt_piece stmts.stmts)
          (laid_more start super.to args.end.to start lo args.end.to (row (map expr_piece args.items)) (omega arith) (omega (arith, a, b, c, e)) (omega arith) (args_laid start super.to one before args x o1))
          (laid_more start end.to two start end.to right.to (row (map stmt_piece stmts.stmts)) (omega arith) (omega arith) (omega (arith, p2.0, p2.1)) (body_stmts_laid start end.to two tokens stmts d o2)) (omega (arith, l.2, p1.0, p1.1));
    }

abbrev behind_pieces : Behind → List Layout
behind_pieces rest = params_pieces rest.params.params ++ body_pieces rest.body

record BehindLaid (start lo hi : ℕ) (rest : Behind) : Type 0 where
  pub end : Lies lo hi rest.body.end
  pub laid : Laid start lo rest.body.end.to (behind_pieces rest)

behind_laid : (start lo hi : ℕ) (constructor : Bool) (ts : List Token) (rest : Behind) → IsBehind source_parts constructor ts rest → InOrder lo hi ts → BehindLaid start lo hi rest
behind_laid start lo hi constructor _ _ (g.behind {first} {second} {third} {params} {names} {body} d t x) o =
    let (one, a, b, p, q) = order_both lo hi first (second ++ third) o in
    let (two, c, e, r, s) = order_both one hi second third q in
    let y = body_laid start two hi constructor third body x s in record {
      end = (omega (arith, a, c, y.end.0), y.end.1, y.end.2);
      laid = laid_rows start lo one two body.end.to (params_pieces params.params) (body_pieces body) (params_laid start lo one first params d p) y.laid c;
    }

-- ---- methods: the result, where it has a type, stands between the modifiers and the name

method_laid : (start lo hi next : ℕ) (begin : Span) (mods : FoundMods) (result : Option FoundType) (constructor : Bool) (name : Ident) (rest : Behind)
    → lo ≤ begin.from → begin.from < begin.to → begin.from ≤ name.span.from → ((start : ℕ) → Laid start begin.from next (map annot_piece mods.mods.annots ++ maybe type_piece (result_tree result)))
    → next ≤ name.span.from → name.span.from < name.span.to → ((start : ℕ) → BehindLaid start name.span.to hi rest)
    → Laid start lo hi (members_pieces None (method_of begin mods result constructor name rest).members)
method_laid start lo hi next begin mods result constructor name rest a b c head d e behind =
    let r = behind begin.from in
    let span = across begin rest.body.end in
    let tail : Laid begin.from name.span.from span.to (name_piece name ∷ behind_pieces rest) =
    laid_first begin.from name.span.from name.span.to name.span.to span.to (name_piece name) (behind_pieces rest) (laid_name begin.from name.span.from name.span.to name (omega arith, e, omega arith)) r.laid (omega arith) in
    let parts = map annot_piece mods.mods.annots ++ (maybe type_piece (result_tree result) ++ name_piece name ∷ behind_pieces rest) in
    let same : (map annot_piece mods.mods.annots ++ maybe type_piece (result_tree result)) ++ name_piece name ∷ behind_pieces rest ≡ parts =
    append_assoc (map annot_piece mods.mods.annots) (maybe type_piece (result_tree result)) (name_piece name ∷ behind_pieces rest) in
    laid_one start lo hi (piece span parts) (laid_node start lo hi span parts (a, omega (arith, c, e, r.end.0, r.end.1), r.end.2)
    (subst (λ l. Laid begin.from begin.from span.to l) same (laid_rows begin.from begin.from next name.span.from span.to (map annot_piece mods.mods.annots ++ maybe type_piece (result_tree result)) (name_piece name ∷ behind_pieces rest) (head begin.from) tail d)))

-- ---- members: the type of the last field, where the last member is one, ends before what follows

abbrev last_type : Option Span → List Member → Option Span
last_type before [] = before
last_type before (Field decl ∷ members) = last_type (Some decl.ty.span) members
last_type before (Method method ∷ members) = last_type None members

members_both : (before : Option Span) (xs ys : List Member) → members_pieces before (xs ++ ys) ≡ members_pieces before xs ++ members_pieces (last_type before xs) ys
members_both before [] ys = refl
members_both before (Field decl ∷ xs) ys =
    ap (λ l. field_shared before decl ++ (own_pieces decl ++ l)) (members_both (Some decl.ty.span) xs ys)
    ∙ ap (λ l. field_shared before decl ++ l) (sym (append_assoc (own_pieces decl) (members_pieces (Some decl.ty.span) xs) (members_pieces (last_type (Some decl.ty.span) xs) ys)))
    ∙ sym (append_assoc (field_shared before decl) (own_pieces decl ++ members_pieces (Some decl.ty.span) xs) (members_pieces (last_type (Some decl.ty.span) xs) ys))
members_both before (Method method ∷ xs) ys = ap (λ l. method_piece method ∷ l) (members_both None xs ys)

last_both : (before : Option Span) (xs ys : List Member) → last_type before (xs ++ ys) ≡ last_type (last_type before xs) ys
last_both before [] ys = refl
last_both before (Field decl ∷ xs) ys = last_both (Some decl.ty.span) xs ys
last_both before (Method method ∷ xs) ys = last_both None xs ys

abbrev EndsBefore : ℕ → Option Span → Type 0
EndsBefore hi None = Unit {0}
EndsBefore hi (Some span) = (span.from < span.to) × (span.to ≤ hi)

ends_more : (mid hi : ℕ) (last : Option Span) → mid ≤ hi → EndsBefore mid last → EndsBefore hi last
ends_more mid hi None le e = tt
ends_more mid hi (Some span) le e = (e.0, omega (arith, le, e.1))

-- A type further right stands elsewhere.
differs : (b c : Bool) → (b ≡ true → ⊥) → (b && c) ≡ false
differs true c h = absurd (h refl)
differs false c h = refl

elsewhere : (lo : ℕ) (before : Option Span) (span : Span) → EndsBefore lo before → lo ≤ span.from → same_span before span ≡ false
elsewhere lo None span e le = refl
elsewhere lo (Some other) span e le = differs (other.from == span.from) (other.to == span.to) (λ same. absurd (omega (arith, e.0, e.1, le, eqb-true other.from span.from same)))

itself : (span : Span) → same_span (Some span) span ≡ true
itself span = rw (eq-eqb span.from span.from refl, eq-eqb span.to span.to refl) refl

-- Fields of one declaration: the first has its modifiers and type, the others have copies.
fields_behind : (all : Shared) (decls : List LocalDecl) → HaveAll all decls → members_pieces (Some all.ty.span) (fields decls) ≡ further_pieces decls
fields_behind all [] h = refl
fields_behind all (decl ∷ decls) ((m, t), more) =
    let here : same_span (Some all.ty.span) decl.ty.span ≡ true = subst (λ y. same_span (Some all.ty.span) y.span ≡ true) (sym t) (itself all.ty.span) in
    ap (λ b. cond b (again (shared_pieces decl) ∷ []) (shared_pieces decl) ++ (own_pieces decl ++ members_pieces (Some decl.ty.span) (fields decls))) here
    ∙ ap (λ l. again (shared_pieces decl) ∷ (own_pieces decl ++ l)) (ap (λ y. members_pieces (Some y.span) (fields decls)) t ∙ fields_behind all decls more)

fields_are : (all : Shared) (before : Option Span) (decls : List LocalDecl) → HaveAll all decls → same_span before all.ty.span ≡ false → members_pieces before (fields decls) ≡ locals_pieces decls
fields_are all before [] h other = refl
fields_are all before (decl ∷ decls) ((m, t), more) other =
    let here : same_span before decl.ty.span ≡ false = subst (λ y. same_span before y.span ≡ false) (sym t) other in
    ap (λ b. cond b (again (shared_pieces decl) ∷ []) (shared_pieces decl) ++ (own_pieces decl ++ members_pieces (Some decl.ty.span) (fields decls))) here
    ∙ ap (λ l. shared_pieces decl ++ (own_pieces decl ++ l)) (ap (λ y. members_pieces (Some y.span) (fields decls)) t ∙ fields_behind all decls more)
    ∙ sym (append_assoc (shared_pieces decl) (own_pieces decl) (further_pieces decls))

fields_last : (all : Shared) (before : Option Span) (hi : ℕ) (decls : List LocalDecl) → HaveAll all decls → EndsBefore hi before → EndsBefore hi (Some all.ty.span) → EndsBefore hi (last_type before (fields decls))
fields_last all before hi [] h b e = b
fields_last all before hi (decl ∷ decls) ((m, t), more) b e = fields_last all (Some decl.ty.span) hi decls more (subst (λ y. EndsBefore hi (Some y.span)) (sym t) e) e

-- where a member or a class begins that has modifiers, or none
begin_some : (lo mid hi : ℕ) (first : Option Span) (other : Span) → FirstLies lo mid first → other.from < other.to → (begins first other).from < (begins first other).to
begin_some lo mid hi None other f a = a
begin_some lo mid hi (Some first) other f a = f.1

begin_before : (lo mid : ℕ) (first : Option Span) (other : Span) (name : ℕ) → FirstLies lo mid first → mid ≤ name → other.from ≤ name → (begins first other).from ≤ name
begin_before lo mid None other name f a b = b
begin_before lo mid (Some first) other name f a b = omega (arith, f.1, f.2, a)

record MembersLaid (start lo hi : ℕ) (before : Option Span) (found : Members) : Type 0 where
  pub laid : Laid start lo hi (members_pieces before found.members)
  pub last : EndsBefore hi (last_type before found.members)

member_laid : (start lo hi : ℕ) (before : Option Span) (ts : List Token) (found : Members) → IsMember source_parts ts found → InOrder lo hi ts → start ≤ lo → EndsBefore lo before → MembersLaid start lo hi before found
member_laid start lo hi before _ _ (g.some_fields {first} {second} {third} {mods} {ty} {decls = ds} end m t d) o le e =
    let inner = first ++ (second ++ third) in
    let (mid, a, b, p, q) = order_both lo hi inner (sign SEMICOLON end ∷ []) (subst (λ y. InOrder lo hi y) (later_assoc first second third (sign SEMICOLON end ∷ [])) o) in
    let behind = (group_laid member_words lo mid 0 first second third mods ty ds m t d p (omega arith)).behind in
    let s = group_laid member_words lo mid start first second third mods ty ds m t d p (omega (arith, le, behind)) in
    let all = shared mods ty in record {
      laid = subst (λ l. Laid start lo hi l) (sym (fields_are all before ds.decls s.have (elsewhere lo before ty.ty.span e s.within)))
          (laid_more start (begins mods.first ty.ty.span).from ds.end.to start lo hi (row (locals_pieces ds.decls)) (omega arith) s.behind (omega (arith, s.end.2, q.0, q.1, q.2)) s.laid);
      last = fields_last all before hi ds.decls s.have (ends_more lo hi before (order_within lo hi (first ++ (second ++ (third ++ sign SEMICOLON end ∷ []))) o) e) (s.some, omega (arith, s.ends, b));
    }
member_laid start lo hi before _ _ (g.method {first} {second} {third} {mods} {ty} {rest} name m t d) o le e =
    let (one, a, b, p, q) = order_both lo hi first (second ++ name_token name ∷ third) o in
    let (two, c, f, r, u) = order_both one hi second (name_token name ∷ third) q in
    let h = head_laid member_words lo one two first second mods ty m t p r a in
    let begin = begins mods.first ty.ty.span in record {
      laid = method_laid start lo hi two begin mods (Some ty) false name rest h.behind (begin_some lo one two mods.first ty.ty.span (mods_stand member_words lo one first mods m p).0 h.some) (omega (arith, h.before, u.0)) h.laid u.0 u.1
          (λ t. behind_laid t name.span.to hi false third rest d u.2);
      last = tt;
    }
member_laid start lo hi before _ _ (g.void_method {first} {second} {mods} {rest} void name m d) o le e =
    let (one, a, b, p, q) = order_both lo hi first (sign VOID void ∷ name_token name ∷ second) o in
    let lies = (mods_stand member_words lo one first mods m p).0 in
    let begin = begins mods.first void in
    let f = first_behind lo one hi mods.first void lies (omega (arith, a, q.0)) q.1 (omega (arith, q.2.0, q.2.1, order_within name.span.to hi second q.2.2)) b in record {
      laid = method_laid start lo hi void.from begin mods None false name rest f.0 (begin_some lo one one mods.first void lies q.1) (begin_before lo one mods.first void name.span.from lies (omega (arith, q.0, q.1, q.2.0)) (omega (arith, q.1, q.2.0)))
          (λ t. headed t one void.from mods void [] (mods_laid member_words lo one first mods m p) (omega arith) q.0) (omega (arith, q.1, q.2.0)) q.2.1
          (λ t. behind_laid t name.span.to hi false second rest d q.2.2);
      last = tt;
    }
member_laid start lo hi before _ _ (g.constructor_of {first} {second} {mods} {rest} name m d) o le e =
    let (one, a, b, p, q) = order_both lo hi first (name_token name ∷ second) o in
    let lies = (mods_stand member_words lo one first mods m p).0 in
    let begin = begins mods.first name.span in
    let f = first_behind lo one hi mods.first name.span lies (omega (arith, a, q.0)) q.1 (order_within name.span.to hi second q.2) b in record {
      laid = method_laid start lo hi name.span.from begin mods None true name rest f.0 (begin_some lo one one mods.first name.span lies q.1) (begin_before lo one mods.first name.span name.span.from lies q.0 (omega arith))
          (λ t. headed t one name.span.from mods name.span [] (mods_laid member_words lo one first mods m p) (omega arith) q.0) (omega arith) q.1
          (λ t. behind_laid t name.span.to hi true second rest d q.2);
      last = tt;
    }

members_laid : (start lo : ℕ) (before : Option Span) (hi : ℕ) (ts : List Token) (found : Members) → IsRepeated (IsMember source_parts) no_members with_members ts found → InOrder lo hi ts → start ≤ lo → EndsBefore lo before
    → MembersLaid start lo hi before found
members_laid start lo before hi _ _ no_item o le e = record { laid = o; last = ends_more lo hi before o e }
members_laid start lo before hi _ _ (one_more {before = tokens} {tokens = more} {items} {item} d x) o le e =
    let (mid, a, b, p, q) = order_both lo hi tokens more o in
    let s = members_laid start lo before mid tokens items d p le e in
    let t = member_laid start mid hi (last_type before items.members) more item x q (omega (arith, le, a)) s.last in record {
      laid = subst (λ l. Laid start lo hi l) (sym (members_both before items.members item.members))
          (laid_rows start lo mid mid hi (members_pieces before items.members) (members_pieces (last_type before items.members) item.members) s.laid t.laid (omega arith));
      last = subst (λ l. EndsBefore hi l) (sym (last_both before items.members item.members)) t.last;
    }

-- ---- classes and sources

parent_laid : (start lo hi : ℕ) (ts : List Token) (parent : Option Ident) → IsParent ts parent → InOrder lo hi ts → Laid start lo hi (maybe name_piece parent)
parent_laid start lo hi _ _ g.none o = o
parent_laid start lo hi _ _ (g.extends span name) (a, b, (c, d, e)) = laid_one start lo hi (name_piece name) (laid_name start lo hi name (omega (arith, a, b, c), d, e))

words_lie : (lo hi : ℕ) (ts : List Token) (first : Option Span) → IsClassWords ts first → InOrder lo hi ts → FirstLies lo hi first
words_lie lo hi _ _ no_item o = tt
words_lie lo hi _ _ (one_more {before} {tokens} {items} {item} d x) o =
    let (mid, a, b, p, q) = order_both lo hi before tokens o in
    earlier_word lo mid hi items item (words_lie lo mid before items d p) b (word_lies mid hi tokens item x q) a
  where
    word_lies : (lo hi : ℕ) (ts : List Token) (span : Span) → IsClassWord ts span → InOrder lo hi ts → Lies lo hi span
    word_lies lo hi _ _ (g.public span) o = o
    word_lies lo hi _ _ (g.final span) o = o

    earlier_word : (lo mid hi : ℕ) (first : Option Span) (span : Span) → FirstLies lo mid first → mid ≤ hi → Lies mid hi span → lo ≤ mid → FirstLies lo hi (earlier first span)
    earlier_word lo mid hi None span f le l low = (omega (arith, low, l.0), l.1, l.2)
    earlier_word lo mid hi (Some first) span f le l low = (f.0, f.1, omega (arith, le, f.2))

class_laid : (start lo hi : ℕ) (ts : List Token) (found : FoundClass) → IsClass source_parts ts found → InOrder lo hi ts → LaidOut start lo hi (class_piece found.class)
class_laid start lo hi _ _ (g.class {first} {second} {third} {start = word} {parent} {members} span name left right w x d) o =
    let last = third ++ sign CLOSE_BRACE right ∷ [] in
    let later = second ++ sign OPEN_BRACE left ∷ last in
    let (one, a1, b1, o1, p1) = order_both lo hi first (sign CLASS span ∷ name_token name ∷ later) o in
    let (two, a2, b2, o2, p2) = order_both name.span.to hi second (sign OPEN_BRACE left ∷ last) p1.2.2 in
    let (far, a3, b3, o3, p3) = order_both left.to hi third (sign CLOSE_BRACE right ∷ []) p2.2 in
    let lies = words_lie lo one first word w o1 in
    let begin = begins word span in
    let low = (first_behind lo one hi word span lies (omega (arith, a1, p1.0)) p1.1 (omega (arith, p1.2.0, p1.2.1, order_within name.span.to hi later p1.2.2)) b1).0 in
    let before : begin.from ≤ name.span.from = begin_before lo one word span name.span.from lies (omega (arith, p1.0, p1.1, p1.2.0)) (omega (arith, p1.1, p1.2.0)) in
    let s = members_laid begin.from left.to None far third members d o3 (omega (arith, before, p1.2.1, a2, p2.0, p2.1)) tt in
    let whole = across begin right in
    laid_node start lo hi whole (name_piece name ∷ (maybe name_piece parent ++ members_pieces None members.members)) (low, omega (arith, before, p1.2.1, a2, p2.0, p2.1, a3, p3.0, p3.1), p3.2)
    (laid_first begin.from begin.from name.span.to name.span.to right.to (name_piece name) (maybe name_piece parent ++ members_pieces None members.members) (laid_name begin.from begin.from name.span.to name (before, p1.2.1, omega arith))
    (laid_rows begin.from name.span.to two left.to right.to (maybe name_piece parent) (members_pieces None members.members) (parent_laid begin.from name.span.to two second parent x o2)
    (laid_more begin.from left.to far begin.from left.to right.to (row (members_pieces None members.members)) (omega arith) (omega arith) (omega (arith, p3.0, p3.1)) s.laid) (omega (arith, p2.0, p2.1))) (omega arith))

pub source_placed : (tokens : List Token) (found : FoundUnit) (end : ℕ) → IsSource tokens found → InOrder 0 end tokens → Placed end found.unit
source_placed _ _ end (g.program {first} {second} {third} {name} {imports} {classes} p i d) o =
    let (one, a, b, q, r) = order_both 0 end first (second ++ third) o in
    let (two, c, e, s, t) = order_both one end second third r in
    laid_more 0 two end 0 0 end (row (map class_piece classes.classes)) (omega arith) (omega arith) (omega arith)
    (repeated_laid (IsClass source_parts) (λ x. x.class) class_piece class_laid (λ x. x.classes) with_class (λ x y. refl) no_classes refl 0 two end third classes d t)
