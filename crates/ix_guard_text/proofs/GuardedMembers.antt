-- Members and classes with what is inserted in them are members and classes, whose trees are the guarded ones up to places.
use Rattle.std.proofs.Common.{◌≡◌, ℕ, Bool, true, false, List, [], ◌∷◌, ◌++◌, map, Option, Some, None, refl, sym, ap, subst, ◌∙◌, append_assoc, append-nil}
use Rattle.ix_text.specs.declared.span.Span.{Span}
use Rattle.ix_lexer.specs.declared.token.Token.{Token}
use Rattle.ix_lexer.specs.declared.fixed.TheConstants.{CLASS, VOID, SUPER, SEMICOLON, OPEN_BRACE, CLOSE_BRACE}
use Rattle.ix_tree.specs.declared.annot.Ident.{Ident}
use Rattle.ix_tree.specs.declared.decl.LocalDecl.{LocalDecl}
use Rattle.ix_tree.specs.declared.decl.Member.{Member}
use Rattle.ix_tree.specs.declared.decl.Member.TheVariants.{Field, Method}
use Rattle.ix_tree.specs.declared.expr.Expr.{Expr}
use Rattle.ix_tree.specs.declared.stmt.Stmt.{Stmt}
use Rattle.ix_grammar.specs.declared.classes.Behind.{Behind}
use Rattle.ix_grammar.specs.declared.classes.Body.{Body}
use Rattle.ix_grammar.specs.declared.classes.FoundClass.{FoundClass}
use Rattle.ix_grammar.specs.declared.classes.Members.{Members}
use Rattle.ix_grammar.specs.declared.classes.Stmts.{Stmts}
use Rattle.ix_grammar.specs.declared.declarations.FoundMods.{FoundMods}
use Rattle.ix_grammar.specs.declared.found.FoundType.{FoundType}
use Rattle.ix_grammar.specs.Patterns.{sign, name_token}
use Rattle.ix_grammar.specs.Lists.{IsRepeated, no_item, one_more}
use Rattle.ix_grammar.specs.DeclGrammar.{begins}
use Rattle.ix_grammar.specs.StmtGrammar as s
use Rattle.ix_grammar.specs.StmtGrammar.{IsStmts}
use Rattle.ix_grammar.specs.ClassGrammar as g
use Rattle.ix_grammar.specs.ClassGrammar.{IsBody, IsBehind, IsMember, IsClass, result_tree, method_of, fields, no_members, with_members, class_of}
use Rattle.ix_grammar.specs.SourceGrammar.{source_parts}
use Rattle.ix_guard_text.specs.Bare.{nowhere, bare_maybe, bare_name, bare_type, bare_mods, bare_expr, bare_decl, bare_stmt, bare_member, bare_class}
use Rattle.ix_guard_text.proofs.ClassesAgain.{map_both}
use Rattle.ix_guard_text.specs.Names.{HaveNames}
use Rattle.ix_guard_text.specs.Woven.{Added, is_word_like, Woven, done, keep}
use Rattle.ix_guard.specs.declared.insertion.Insertion.{Insertion}
use Rattle.ix_guard.specs.Tests.{Site}
use Rattle.ix_guard.specs.Guards.{together, listed, in_member, in_members, in_class}
use Rattle.ix_guard.specs.Trees.{guarded_body, guarded_member, guarded_class}
use Rattle.ix_guard_text.proofs.NamedAccesses.{names_split}
use Rattle.ix_guard_text.specs.Inserted.{added}
use Rattle.ix_guard_text.proofs.Wrapped.{added_both, chained, chained_kept, keeps}
use Rattle.ix_guard_text.proofs.GuardedStatements.{AllInList, stmts_guarded}

-- ---- woven tokens from anywhere to somewhere

-- With these insertions the old tokens give the new ones, whatever stands before them.
abbrev pub Weaves : List Token → List Added → List Token → Type 0
Weaves olds new news = (word : Bool) (at : ℕ) → (last : Bool) × (end : ℕ) × Woven word at olds new news last end

pub weaves_none : Weaves [] [] []
weaves_none = λ word at. (word, at, done)

pub weaves_keep : (t : Token) {olds news : List Token} {new : List Added} → Weaves olds new news → Weaves (t ∷ olds) new (t ∷ news)
weaves_keep t w = λ word at. let r = w (is_word_like t.kind) t.span.to in (r.0, r.1, keep t r.2)

pub weaves_before : (ts : List Token) {olds news : List Token} {new : List Added} → Weaves olds new news → Weaves (ts ++ olds) new (ts ++ news)
weaves_before [] w = w
weaves_before (t ∷ ts) w = weaves_keep t (weaves_before ts w)

pub weaves_tokens : (ts : List Token) → Weaves ts [] ts
weaves_tokens [] = weaves_none
weaves_tokens (t ∷ ts) = weaves_keep t (weaves_tokens ts)

pub weaves_both : (olds more : List Token) (new other : List Added) (news others : List Token) → Weaves olds new news → Weaves more other others → Weaves (olds ++ more) (new ++ other) (news ++ others)
weaves_both olds more new other news others w v = λ word at. let r = w word at in let p = v r.0 r.1 in (p.0, p.1, chained r.2 p.2)

pub weaves_after : (olds : List Token) (new : List Added) (news ts : List Token) → Weaves olds new news → Weaves (olds ++ ts) new (news ++ ts)
weaves_after olds new news ts w = subst (λ l. Weaves (olds ++ ts) l (news ++ ts)) (append-nil new) (weaves_both olds ts new [] news ts w (weaves_tokens ts))

-- ---- statements in the two forms of the grammar

abbrev IsBodyStmts : List Token → Stmts → Type 0
IsBodyStmts = g.IsStmts source_parts

to_stmts : (ts : List Token) (found : Stmts) → IsBodyStmts ts found → IsStmts ts found
to_stmts _ _ no_item = s.none
to_stmts _ _ (one_more {before} {tokens} {items} {item} d x) = s.one_more (to_stmts before items d) x

from_stmts : (ts : List Token) (found : Stmts) → IsStmts ts found → IsBodyStmts ts found
from_stmts _ _ s.none = no_item
from_stmts _ _ (s.one_more {ts} {us} {found} {last} d x) = one_more (from_stmts ts found d) x

module _ (site : Site) where
  -- ---- bodies

  record BodyGuards (constructor : Bool) (ts : List Token) (body : Body) : Type 0 where
    pub news : List Token
    pub woven : Weaves ts (added (listed site body.stmts)) news
    pub found : Body
    pub is : IsBody source_parts constructor news found
    pub parent_args : bare_maybe (map bare_expr) found.parent_args ≡ bare_maybe (map bare_expr) body.parent_args
    pub stmts : map bare_stmt found.stmts ≡ map bare_stmt (guarded_body site body.stmts)

  abbrev BodyStmts : List Token → Stmts → Type 0
  BodyStmts ts found = AllInList site ts (added (listed site found.stmts)) (guarded_body site found.stmts)

  weaves_stmts : (ts : List Token) (found : Stmts) (inner : BodyStmts ts found) (left : Span) → (end : ℕ) × Woven false left.to ts (added (listed site found.stmts)) inner.news false end
  weaves_stmts ts found inner left = inner.woven left.to

  body_guarded : (constructor : Bool) (ts : List Token) (body : Body) → IsBody source_parts constructor ts body → HaveNames ts → BodyGuards constructor ts body
  body_guarded constructor _ _ (g.block {tokens} {stmts} left right d) h =
      let inner = stmts_guarded site tokens stmts (to_stmts tokens stmts d) (names_split tokens (sign CLOSE_BRACE right ∷ []) h.1).0 in
      record {
        news = sign OPEN_BRACE left ∷ (inner.news ++ sign CLOSE_BRACE right ∷ []);
        woven = λ word at. (false, right.to, keep (sign OPEN_BRACE left) (chained_kept (inner.woven left.to).1 (λ word at. keep (sign CLOSE_BRACE right) done)));
        found = g.body_of inner.listed.found right;
        is = g.block left right (from_stmts inner.news inner.listed.found inner.listed.is);
        parent_args = refl;
        stmts = inner.listed.same;
      }
  body_guarded _ _ _ (g.with_super {before} {tokens} {args} {stmts} left super end right a d) h =
      let n = names_split before (sign SEMICOLON end ∷ (tokens ++ sign CLOSE_BRACE right ∷ [])) h.1.1 in
      let inner = stmts_guarded site tokens stmts (to_stmts tokens stmts d) (names_split tokens (sign CLOSE_BRACE right ∷ []) n.1.1).0 in
      record {
        news = sign OPEN_BRACE left ∷ sign SUPER super ∷ (before ++ sign SEMICOLON end ∷ (inner.news ++ sign CLOSE_BRACE right ∷ []));
        woven = λ word at. (
          false,
          right.to,
          keep (sign OPEN_BRACE left) (keep (sign SUPER super) (keeps before (λ word at. keep (sign SEMICOLON end) (chained_kept (inner.woven end.to).1 (λ word at. keep (sign CLOSE_BRACE right) done))) _ _)),
        );
        found = g.body_with args inner.listed.found right;
        is = g.with_super left super end right a (from_stmts inner.news inner.listed.found inner.listed.is);
        parent_args = refl;
        stmts = inner.listed.same;
      }

  -- ---- members

  record BehindGuards (constructor : Bool) (ts : List Token) (rest : Behind) : Type 0 where
    pub news : List Token
    pub woven : Weaves ts (added (listed site rest.body.stmts)) news
    pub found : Behind
    pub is : IsBehind source_parts constructor news found
    pub params : found.params ≡ rest.params
    pub parent_args : bare_maybe (map bare_expr) found.body.parent_args ≡ bare_maybe (map bare_expr) rest.body.parent_args
    pub stmts : map bare_stmt found.body.stmts ≡ map bare_stmt (guarded_body site rest.body.stmts)

  behind_guarded : (constructor : Bool) (ts : List Token) (rest : Behind) → IsBehind source_parts constructor ts rest → HaveNames ts → BehindGuards constructor ts rest
  behind_guarded constructor _ _ (g.behind {first} {second} {third} {params} {names} {body} p t b) h =
      let inner = body_guarded constructor third body b (names_split second third (names_split first (second ++ third) h).1).1 in
      record {
        news = first ++ (second ++ inner.news);
        woven = weaves_before first (weaves_before second inner.woven);
        found = record { params = params; body = inner.found };
        is = g.behind p t inner.is;
        params = refl;
        parent_args = inner.parent_args;
        stmts = inner.stmts;
      }

  record MembersGuards (ts : List Token) (members : Members) : Type 0 where
    pub news : List Token
    pub woven : Weaves ts (added (in_members site members.members)) news
    pub found : Members
    pub is : IsMember source_parts news found
    pub same : map bare_member found.members ≡ map bare_member (map (guarded_member site) members.members)

  abbrev made : FoundMods → Option FoundType → Bool → Ident → List LocalDecl → Option (List Expr) → List Stmt → List Member
  made mods result constructor name params parent_args body = Method (record {
    mods = bare_mods mods.mods;
    result = bare_maybe bare_type (result_tree result);
    constructor = constructor;
    name = bare_name name;
    params = params;
    parent_args = parent_args;
    body = body;
    span = nowhere;
  }) ∷ []

  method_same : (p q : Span) (mods : FoundMods) (result : Option FoundType) (constructor : Bool) (name : Ident) (more rest : Behind) → more.params ≡ rest.params
      → bare_maybe (map bare_expr) more.body.parent_args ≡ bare_maybe (map bare_expr) rest.body.parent_args → map bare_stmt more.body.stmts ≡ map bare_stmt (guarded_body site rest.body.stmts)
      → map bare_member (method_of p mods result constructor name more).members ≡ map bare_member (map (guarded_member site) (method_of q mods result constructor name rest).members)
  method_same p q mods result constructor name more rest d e f =
      ap (λ x. made mods result constructor name (map bare_decl x.params) (bare_maybe (map bare_expr) more.body.parent_args) (map bare_stmt more.body.stmts)) d
      ∙ ap (λ x. made mods result constructor name (map bare_decl rest.params.params) x (map bare_stmt more.body.stmts)) e
      ∙ ap (made mods result constructor name (map bare_decl rest.params.params) (bare_maybe (map bare_expr) rest.body.parent_args)) f

  -- what is inserted in one method
  one_method : (body : List Stmt) → added (listed site body) ≡ added (listed site body ++ [])
  one_method body = ap added (sym (append-nil (listed site body)))

  no_insertions : (decls : List LocalDecl) → in_members site (fields decls) ≡ []
  no_insertions [] = refl
  no_insertions (decl ∷ decls) = no_insertions decls

  same_fields : (decls : List LocalDecl) → map (guarded_member site) (fields decls) ≡ fields decls
  same_fields [] = refl
  same_fields (decl ∷ decls) = ap (λ l. Field decl ∷ l) (same_fields decls)

  member_guarded : (ts : List Token) (members : Members) → IsMember source_parts ts members → HaveNames ts → MembersGuards ts members
  member_guarded _ _ (g.some_fields {first} {second} {third} {mods} {ty} {decls} end m t d) h =
      let ts = first ++ (second ++ (third ++ sign SEMICOLON end ∷ [])) in
      record {
        news = ts;
        woven = subst (λ l. Weaves ts l ts) (ap added (sym (no_insertions decls.decls))) (weaves_tokens ts);
        found = g.fields_of decls;
        is = g.some_fields end m t d;
        same = ap (map bare_member) (sym (same_fields decls.decls));
      }
  member_guarded _ _ (g.method {first} {second} {third} {mods} {ty} {rest} name m t b) h =
      let inner = behind_guarded false third rest b (names_split second (name_token name ∷ third) (names_split first (second ++ name_token name ∷ third) h).1).1.1 in
      let start = begins mods.first ty.ty.span in
      record {
        news = first ++ (second ++ name_token name ∷ inner.news);
        woven = subst (λ l. Weaves (first ++ (second ++ name_token name ∷ third)) l (first ++ (second ++ name_token name ∷ inner.news))) (one_method rest.body.stmts)
            (weaves_before first (weaves_before second (weaves_keep (name_token name) inner.woven)));
        found = method_of start mods (Some ty) false name inner.found;
        is = g.method name m t inner.is;
        same = method_same start start mods (Some ty) false name inner.found rest inner.params inner.parent_args inner.stmts;
      }
  member_guarded _ _ (g.void_method {first} {second} {mods} {rest} void name m b) h =
      let inner = behind_guarded false second rest b (names_split first (sign VOID void ∷ name_token name ∷ second) h).1.1.1 in
      let start = begins mods.first void in
      record {
        news = first ++ sign VOID void ∷ name_token name ∷ inner.news;
        woven = subst (λ l. Weaves (first ++ sign VOID void ∷ name_token name ∷ second) l (first ++ sign VOID void ∷ name_token name ∷ inner.news)) (one_method rest.body.stmts)
            (weaves_before first (weaves_keep (sign VOID void) (weaves_keep (name_token name) inner.woven)));
        found = method_of start mods None false name inner.found;
        is = g.void_method void name m inner.is;
        same = method_same start start mods None false name inner.found rest inner.params inner.parent_args inner.stmts;
      }
  member_guarded _ _ (g.constructor_of {first} {second} {mods} {rest} name m b) h =
      let inner = behind_guarded true second rest b (names_split first (name_token name ∷ second) h).1.1 in
      let start = begins mods.first name.span in
      record {
        news = first ++ name_token name ∷ inner.news;
        woven = subst (λ l. Weaves (first ++ name_token name ∷ second) l (first ++ name_token name ∷ inner.news)) (one_method rest.body.stmts) (weaves_before first (weaves_keep (name_token name) inner.woven));
        found = method_of start mods None true name inner.found;
        is = g.constructor_of name m inner.is;
        same = method_same start start mods None true name inner.found rest inner.params inner.parent_args inner.stmts;
      }

  together_both : (xs ys : List (List Insertion)) → together (xs ++ ys) ≡ together xs ++ together ys
  together_both [] ys = refl
  together_both (x ∷ xs) ys = ap (λ l. x ++ l) (together_both xs ys) ∙ sym (append_assoc x (together xs) (together ys))

  members_both : (xs ys : List Member) → added (in_members site xs) ++ added (in_members site ys) ≡ added (in_members site (xs ++ ys))
  members_both xs ys =
      sym (added_both (in_members site xs) (in_members site ys)) ∙ ap added (sym (together_both (map (in_member site) xs) (map (in_member site) ys)) ∙ ap together (sym (map_both (in_member site) xs ys)))

  record AllMembersGuards (ts : List Token) (members : Members) : Type 0 where
    pub news : List Token
    pub woven : Weaves ts (added (in_members site members.members)) news
    pub found : Members
    pub is : IsRepeated (IsMember source_parts) no_members with_members news found
    pub same : map bare_member found.members ≡ map bare_member (map (guarded_member site) members.members)

  members_guarded : (ts : List Token) (members : Members) → IsRepeated (IsMember source_parts) no_members with_members ts members → HaveNames ts → AllMembersGuards ts members
  members_guarded _ _ no_item h = record { news = []; woven = weaves_none; found = no_members; is = no_item; same = refl }
  members_guarded _ _ (one_more {before} {tokens} {items} {item} d x) h =
      let n = names_split before tokens h in
      let one = members_guarded before items d n.0 in
      let two = member_guarded tokens item x n.1 in
      record {
        news = one.news ++ two.news;
        woven = subst (λ l. Weaves (before ++ tokens) l (one.news ++ two.news)) (members_both items.members item.members)
            (weaves_both before tokens (added (in_members site items.members)) (added (in_members site item.members)) one.news two.news one.woven two.woven);
        found = with_members one.found two.found;
        is = one_more one.is two.is;
        same = map_both bare_member one.found.members two.found.members ∙ ap (λ l. l ++ map bare_member two.found.members) one.same ∙ ap (λ l. map bare_member (map (guarded_member site) items.members) ++ l) two.same
            ∙ sym (map_both bare_member (map (guarded_member site) items.members) (map (guarded_member site) item.members)) ∙ ap (map bare_member) (sym (map_both (guarded_member site) items.members item.members));
      }

  -- ---- classes

  pub record ClassGuards (ts : List Token) (class : FoundClass) : Type 0 where
    pub news : List Token
    pub woven : Weaves ts (added (in_class site class.class)) news
    pub found : FoundClass
    pub is : IsClass source_parts news found
    pub same : bare_class found.class ≡ bare_class (guarded_class site class.class)

  pub class_guarded : (ts : List Token) (class : FoundClass) → IsClass source_parts ts class → HaveNames ts → ClassGuards ts class
  class_guarded _ _ (g.class {first} {second} {third} {start} {parent} {members} span name left right w x r) h =
      let n = names_split first (sign CLASS span ∷ name_token name ∷ (second ++ sign OPEN_BRACE left ∷ (third ++ sign CLOSE_BRACE right ∷ []))) h in
      let m = names_split second (sign OPEN_BRACE left ∷ (third ++ sign CLOSE_BRACE right ∷ [])) n.1.1.1 in
      let inner = members_guarded third members r (names_split third (sign CLOSE_BRACE right ∷ []) m.1.1).0 in
      record {
        news = first ++ sign CLASS span ∷ name_token name ∷ (second ++ sign OPEN_BRACE left ∷ (inner.news ++ sign CLOSE_BRACE right ∷ []));
        woven = weaves_before first (weaves_keep (sign CLASS span) (weaves_keep (name_token name) (weaves_before second (weaves_keep (sign OPEN_BRACE left)
            (weaves_after third (added (in_members site members.members)) inner.news (sign CLOSE_BRACE right ∷ []) inner.woven)))));
        found = class_of (begins start span) name parent inner.found right;
        is = g.class span name left right w x inner.is;
        same = ap (λ l. record { name = bare_name name; parent = bare_maybe bare_name parent; members = l; span = nowhere }) inner.same;
      }
