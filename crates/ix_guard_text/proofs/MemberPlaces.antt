-- Members and classes with what is inserted in them: the tree of each is the old one with its places moved, and with tests in the bodies.
use Rattle.std.proofs.Common.{◌≡◌, ℕ, Bool, true, false, List, [], ◌∷◌, ◌++◌, map, Option, Some, None, refl, sym, ap, subst, ◌∙◌, append_assoc, append-nil}
use Rattle.ix_text.specs.declared.span.Span.{Span}
use Rattle.ix_lexer.specs.declared.token.Token.{Token}
use Rattle.ix_lexer.specs.declared.fixed.TheConstants.{CLASS, VOID, SUPER, SEMICOLON, OPEN_BRACE, CLOSE_BRACE}
use Rattle.ix_tree.specs.declared.annot.Ident.{Ident}
use Rattle.ix_tree.specs.declared.decl.LocalDecl.{LocalDecl}
use Rattle.ix_tree.specs.declared.decl.Member.{Member}
use Rattle.ix_tree.specs.declared.stmt.Stmt.{Stmt}
use Rattle.ix_grammar.specs.declared.classes.Behind.{Behind}
use Rattle.ix_grammar.specs.declared.classes.Body.{Body}
use Rattle.ix_grammar.specs.declared.classes.FoundClass.{FoundClass}
use Rattle.ix_grammar.specs.declared.classes.Members.{Members}
use Rattle.ix_grammar.specs.declared.classes.Stmts.{Stmts}
use Rattle.ix_grammar.specs.declared.declarations.FoundMods.{FoundMods}
use Rattle.ix_grammar.specs.declared.found.FoundType.{FoundType}
use Rattle.ix_grammar.specs.Patterns.{sign, name_token}
use Rattle.ix_grammar.specs.Lists.{IsRepeated, no_item, one_more}
use Rattle.ix_grammar.specs.DeclGrammar.{begins, member_words}
use Rattle.ix_grammar.specs.StmtGrammar as s
use Rattle.ix_grammar.specs.StmtGrammar.{IsStmts}
use Rattle.ix_grammar.specs.ClassGrammar as g
use Rattle.ix_grammar.specs.ClassGrammar.{IsBody, IsBehind, IsMember, IsClass, result_tree, method_of, fields, fields_of, no_members, with_members, class_of}
use Rattle.ix_grammar.specs.SourceGrammar.{source_parts}
use Rattle.ix_guard_text.specs.Bare.{bare_maybe as maybe}
use Rattle.ix_guard_text.specs.Respanned.{Places, next}
use Rattle.ix_guard_text.proofs.ClassesAgain.{map_both}
use Rattle.ix_guard_text.specs.Names.{HaveNames}
use Rattle.ix_guard_text.specs.Woven.{Added, is_word_like}
use Rattle.ix_guard.specs.declared.insertion.Insertion.{Insertion}
use Rattle.ix_guard.specs.Tests.{Site}
use Rattle.ix_guard.specs.Guards.{together, listed, in_member, in_members, in_class}
use Rattle.ix_guard_text.proofs.NamedAccesses.{names_split}
use Rattle.ix_guard_text.specs.Inserted.{added}
use Rattle.ix_guard_text.proofs.Wrapped.{added_both}
use Rattle.ix_guard_text.specs.Moved.{Move, moved_span, moved_name, moved_type, moved_expr, moved_member}
use Rattle.ix_guard_text.specs.MovedFound.{moved_found_type, moved_args, moved_found_mods, moved_params, moved_members}
use Rattle.ix_guard_text.proofs.AnnotsMoved.{type_moves}
use Rattle.ix_guard_text.proofs.ExprsMoved.{args_move}
use Rattle.ix_guard_text.proofs.DeclsMoved.{begins_moved, mods_move, params_move, throws_move}
use Rattle.ix_guard_text.proofs.ClassesMoved.{member_moves, words_move, parent_moves}
use Rattle.ix_guard_text.specs.Interleaved.{Piece, old, olds, Interleaved, done, keep}
use Rattle.ix_guard_text.specs.GuardedPlaces as q
use Rattle.ix_guard_text.specs.GuardedPlaces.{Each, InList, PlacedMember, PlacedClass}
use Rattle.ix_guard_text.specs.TestParts.{IsWritten}
use Rattle.ix_guard_text.proofs.Realisations.{far, realised, AllNew, new_parts, new_behind, real_both, real_olds, old_both}
use Rattle.ix_guard_text.proofs.WrappedPlaces.{chained}
use Rattle.ix_guard_text.proofs.StatementPlaces.{AllInList, stmts_placed}

-- ---- pieces from anywhere to somewhere

-- With these insertions the tokens give the pieces, whatever stands before them.
abbrev pub Weaves : List Token → List Added → List Piece → Type 0
Weaves tokens added pieces = (word : Bool) (at : ℕ) → (last : Bool) × (end : ℕ) × Interleaved word at tokens added pieces last end

pub weaves_none : Weaves [] [] []
weaves_none = λ word at. (word, at, done)

pub weaves_keep : (t : Token) {tokens : List Token} {pieces : List Piece} {added : List Added} → Weaves tokens added pieces → Weaves (t ∷ tokens) added (old t ∷ pieces)
weaves_keep t w = λ word at. let r = w (is_word_like t.kind) t.span.to in (r.0, r.1, keep t r.2)

pub weaves_before : (ts : List Token) {tokens : List Token} {pieces : List Piece} {added : List Added} → Weaves tokens added pieces → Weaves (ts ++ tokens) added (olds ts ++ pieces)
weaves_before [] w = w
weaves_before (t ∷ ts) w = weaves_keep t (weaves_before ts w)

pub weaves_tokens : (ts : List Token) → Weaves ts [] (olds ts)
weaves_tokens [] = weaves_none
weaves_tokens (t ∷ ts) = weaves_keep t (weaves_tokens ts)

pub weaves_both : (tokens more : List Token) (added other : List Added) (pieces others : List Piece) → Weaves tokens added pieces → Weaves more other others → Weaves (tokens ++ more) (added ++ other) (pieces ++ others)
weaves_both tokens more added other pieces others w v = λ word at. let r = w word at in let p = v r.0 r.1 in (p.0, p.1, chained r.2 p.2)

pub weaves_after : (tokens : List Token) (added : List Added) (pieces : List Piece) (ts : List Token) → Weaves tokens added pieces → Weaves (tokens ++ ts) added (pieces ++ olds ts)
weaves_after tokens added pieces ts w = subst (λ l. Weaves (tokens ++ ts) l (pieces ++ olds ts)) (append-nil added) (weaves_both tokens ts added [] pieces (olds ts) w (weaves_tokens ts))

-- ---- statements in the two forms of the grammar

abbrev IsBodyStmts : List Token → Stmts → Type 0
IsBodyStmts = g.IsStmts source_parts

to_stmts : (ts : List Token) (found : Stmts) → IsBodyStmts ts found → IsStmts ts found
to_stmts _ _ no_item = s.none
to_stmts _ _ (one_more {before} {tokens} {items} {item} d x) = s.one_more (to_stmts before items d) x

from_stmts : (ts : List Token) (found : Stmts) → IsStmts ts found → IsBodyStmts ts found
from_stmts _ _ s.none = no_item
from_stmts _ _ (s.one_more {ts} {us} {found} {last} d x) = one_more (from_stmts ts found d) x

-- ---- lists

pub each_both : {A B : Type 0} {Is : A → B → Type 0} {xs more : List A} {ys others : List B} → Each Is xs ys → Each Is more others → Each Is (xs ++ more) (ys ++ others)
each_both q.none v = v
each_both (q.one_more x w) v = q.one_more x (each_both w v)

module _ (site : Site) (move : Move) where
  -- ---- bodies

  -- These tokens are a body with the arguments of its parent's constructor and the statements of another.
  record BodyMade (constructor : Bool) (ts : List Token) (body : Body) : Type 0 where
    pub found : Body
    pub is : IsBody source_parts constructor ts found
    pub parent_args : found.parent_args ≡ maybe (map (moved_expr move)) body.parent_args
    pub stmts : InList site move (IsWritten move) body.stmts found.stmts

  record BodyPlaced (constructor : Bool) (ts : List Token) (body : Body) : Type 0 where
    pub pieces : List Piece
    pub woven : Weaves ts (added (listed site body.stmts)) pieces
    pub made : (at : Places) → AllNew move at pieces → BodyMade constructor (realised move at pieces) body

  -- statements in braces, behind any token
  inner_weaves : (ts : List Token) (stmts : Stmts) (inner : AllInList site move ts (added (listed site stmts.stmts)) stmts.stmts) (t : Token) → is_word_like t.kind ≡ false → (right : Span)
      → Weaves (t ∷ (ts ++ sign CLOSE_BRACE right ∷ [])) (added (listed site stmts.stmts)) (old t ∷ (inner.pieces ++ old (sign CLOSE_BRACE right) ∷ []))
  inner_weaves ts stmts inner t e right = λ word at.
      let r = inner.woven t.span.to in
      let last : Interleaved false r.0 (sign CLOSE_BRACE right ∷ []) [] (old (sign CLOSE_BRACE right) ∷ []) false right.to = keep (sign CLOSE_BRACE right) done in
      let whole = subst (λ l. Interleaved false t.span.to (ts ++ sign CLOSE_BRACE right ∷ []) l (inner.pieces ++ old (sign CLOSE_BRACE right) ∷ []) false right.to) (append-nil (added (listed site stmts.stmts))) (chained r.1 last) in
      (false, right.to, keep t (subst (λ w. Interleaved w t.span.to (ts ++ sign CLOSE_BRACE right ∷ []) (added (listed site stmts.stmts)) (inner.pieces ++ old (sign CLOSE_BRACE right) ∷ []) false right.to) (sym e) whole))

  body_placed : (constructor : Bool) (ts : List Token) (body : Body) → IsBody source_parts constructor ts body → HaveNames ts → BodyPlaced constructor ts body
  body_placed constructor _ _ (g.block {tokens} {stmts} left right d) h =
      let inner = stmts_placed site move tokens stmts (to_stmts tokens stmts d) (names_split tokens (sign CLOSE_BRACE right ∷ []) h.1).0 in
      record {
        pieces = old (sign OPEN_BRACE left) ∷ (inner.pieces ++ old (sign CLOSE_BRACE right) ∷ []);
        woven = inner_weaves tokens stmts inner (sign OPEN_BRACE left) refl right;
        made = λ at fresh.
            let m = inner.made (next at) (new_parts move inner.pieces (old (sign CLOSE_BRACE right) ∷ []) (next at) fresh).0 in
            rw (real_both move inner.pieces (old (sign CLOSE_BRACE right) ∷ []) (next at))
            (record { found = g.body_of m.found (moved_span move right); is = g.block (moved_span move left) (moved_span move right) (from_stmts (realised move (next at) inner.pieces) m.found m.is); parent_args = refl; stmts = m.list });
      }
  body_placed _ _ _ (g.with_super {before} {tokens} {args} {stmts} left super end right a d) h =
      let n = names_split before (sign SEMICOLON end ∷ (tokens ++ sign CLOSE_BRACE right ∷ [])) h.1.1 in
      let inner = stmts_placed site move tokens stmts (to_stmts tokens stmts d) (names_split tokens (sign CLOSE_BRACE right ∷ []) n.1.1).0 in
      let last = inner.pieces ++ old (sign CLOSE_BRACE right) ∷ [] in
      record {
        pieces = old (sign OPEN_BRACE left) ∷ old (sign SUPER super) ∷ (olds before ++ old (sign SEMICOLON end) ∷ last);
        woven = weaves_keep (sign OPEN_BRACE left) (weaves_keep (sign SUPER super) (weaves_before before (inner_weaves tokens stmts inner (sign SEMICOLON end) refl right)));
        made = λ at fresh.
            let at2 = next (next at) in
            let at3 = next (far (olds before) at2) in
            let m = inner.made at3 (new_parts move inner.pieces (old (sign CLOSE_BRACE right) ∷ []) at3 (new_behind move before (old (sign SEMICOLON end) ∷ last) at2 fresh)).0 in
            rw (old_both move before (old (sign SEMICOLON end) ∷ last) at2, real_both move inner.pieces (old (sign CLOSE_BRACE right) ∷ []) at3)
            (record {
              found = g.body_with (moved_args move args) m.found (moved_span move right);
              is = g.with_super (moved_span move left) (moved_span move super) (moved_span move end) (moved_span move right) (args_move move before args a) (from_stmts (realised move at3 inner.pieces) m.found m.is);
              parent_args = refl;
              stmts = m.list;
            });
      }

  -- ---- members

  record BehindMade (constructor : Bool) (ts : List Token) (rest : Behind) : Type 0 where
    pub found : Behind
    pub is : IsBehind source_parts constructor ts found
    pub params : found.params ≡ moved_params move rest.params
    pub parent_args : found.body.parent_args ≡ maybe (map (moved_expr move)) rest.body.parent_args
    pub stmts : InList site move (IsWritten move) rest.body.stmts found.body.stmts

  record BehindPlaced (constructor : Bool) (ts : List Token) (rest : Behind) : Type 0 where
    pub pieces : List Piece
    pub woven : Weaves ts (added (listed site rest.body.stmts)) pieces
    pub made : (at : Places) → AllNew move at pieces → BehindMade constructor (realised move at pieces) rest

  behind_placed : (constructor : Bool) (ts : List Token) (rest : Behind) → IsBehind source_parts constructor ts rest → HaveNames ts → BehindPlaced constructor ts rest
  behind_placed constructor _ _ (g.behind {first} {second} {third} {params} {names} {body} p t b) h =
      let inner = body_placed constructor third body b (names_split second third (names_split first (second ++ third) h).1).1 in
      record {
        pieces = olds first ++ (olds second ++ inner.pieces);
        woven = weaves_before first (weaves_before second inner.woven);
        made = λ at fresh.
            let at2 = far (olds first) at in
            let m = inner.made (far (olds second) at2) (new_behind move second inner.pieces at2 (new_behind move first (olds second ++ inner.pieces) at fresh)) in
            rw (old_both move first (olds second ++ inner.pieces) at, old_both move second inner.pieces at2)
            (record {
              found = record { params = moved_params move params; body = m.found };
              is = g.behind (params_move move first params p) (throws_move move second names t) m.is;
              params = refl;
              parent_args = m.parent_args;
              stmts = m.stmts;
            });
      }

  record MembersMade (ts : List Token) (members : List Member) : Type 0 where
    pub found : Members
    pub is : IsMember source_parts ts found
    pub each : Each (PlacedMember site move (IsWritten move)) members found.members

  record MembersPlaced (ts : List Token) (members : Members) : Type 0 where
    pub pieces : List Piece
    pub woven : Weaves ts (added (in_members site members.members)) pieces
    pub made : (at : Places) → AllNew move at pieces → MembersMade (realised move at pieces) members.members

  -- what is inserted in one method
  one_method : (body : List Stmt) → added (listed site body) ≡ added (listed site body ++ [])
  one_method body = ap added (sym (append-nil (listed site body)))

  no_insertions : (decls : List LocalDecl) → in_members site (fields decls) ≡ []
  no_insertions [] = refl
  no_insertions (decl ∷ decls) = no_insertions decls

  fields_placed : (decls : List LocalDecl) → Each (PlacedMember site move (IsWritten move)) (fields decls) (map (moved_member move) (fields decls))
  fields_placed [] = q.none
  fields_placed (decl ∷ decls) = q.one_more (q.field decl) (fields_placed decls)

  method_placed : (start other : Span) (mods : FoundMods) (result : Option FoundType) (more : Option FoundType) (constructor : Bool) (name : Ident) (rest found : Behind) → other.from ≡ move.from start.from
      → result_tree more ≡ maybe (moved_type move) (result_tree result) → found.params ≡ moved_params move rest.params → found.body.parent_args ≡ maybe (map (moved_expr move)) rest.body.parent_args
      → InList site move (IsWritten move) rest.body.stmts found.body.stmts
      → Each (PlacedMember site move (IsWritten move)) (method_of start mods result constructor name rest).members (method_of other (moved_found_mods move mods) more constructor (moved_name move name) found).members
  method_placed start other mods result more constructor name rest found from results params args body =
      q.one_more (q.method (record { mods = refl; result = results; constructor = refl; name = refl; params = ap (λ x. x.params) params; parent_args = args; body = body; from = from })) q.none

  begin_from : (first : Option Span) (span : Span) → (begins (maybe (moved_span move) first) (moved_span move span)).from ≡ move.from (begins first span).from
  begin_from first span = ap (λ (x : Span). x.from) (begins_moved move first span)

  member_placed : (ts : List Token) (members : Members) → IsMember source_parts ts members → HaveNames ts → MembersPlaced ts members
  member_placed _ _ (g.some_fields {first} {second} {third} {mods} {ty} {decls} end m t d) h =
      let ts = first ++ (second ++ (third ++ sign SEMICOLON end ∷ [])) in
      record {
        pieces = olds ts;
        woven = subst (λ l. Weaves ts l (olds ts)) (ap added (sym (no_insertions decls.decls))) (weaves_tokens ts);
        made = λ at fresh.
            subst (λ l. MembersMade l (fields decls.decls)) (sym (real_olds move ts at))
            (record { found = moved_members move (fields_of decls); is = member_moves move ts (fields_of decls) (g.some_fields end m t d); each = fields_placed decls.decls });
      }
  member_placed _ _ (g.method {first} {second} {third} {mods} {ty} {rest} name m t b) h =
      let inner = behind_placed false third rest b (names_split second (name_token name ∷ third) (names_split first (second ++ name_token name ∷ third) h).1).1.1 in
      let start = begins mods.first ty.ty.span in
      let last = old (name_token name) ∷ inner.pieces in
      record {
        pieces = olds first ++ (olds second ++ last);
        woven = subst (λ l. Weaves (first ++ (second ++ name_token name ∷ third)) l (olds first ++ (olds second ++ last))) (one_method rest.body.stmts)
            (weaves_before first (weaves_before second (weaves_keep (name_token name) inner.woven)));
        made = λ at fresh.
            let at2 = far (olds first) at in
            let x = inner.made (next (far (olds second) at2)) (new_behind move second last at2 (new_behind move first (olds second ++ last) at fresh)) in
            let other = begins (maybe (moved_span move) mods.first) (moved_span move ty.ty.span) in
            rw (old_both move first (olds second ++ last) at, old_both move second last at2)
            (record {
              found = method_of other (moved_found_mods move mods) (Some (moved_found_type move ty)) false (moved_name move name) x.found;
              is = g.method (moved_name move name) (mods_move move member_words first mods m) (type_moves move second ty t) x.is;
              each = method_placed start other mods (Some ty) (Some (moved_found_type move ty)) false name rest x.found (begin_from mods.first ty.ty.span) refl x.params x.parent_args x.stmts;
            });
      }
  member_placed _ _ (g.void_method {first} {second} {mods} {rest} void name m b) h =
      let inner = behind_placed false second rest b (names_split first (sign VOID void ∷ name_token name ∷ second) h).1.1.1 in
      let start = begins mods.first void in
      let last = old (sign VOID void) ∷ old (name_token name) ∷ inner.pieces in
      record {
        pieces = olds first ++ last;
        woven = subst (λ l. Weaves (first ++ sign VOID void ∷ name_token name ∷ second) l (olds first ++ last)) (one_method rest.body.stmts)
            (weaves_before first (weaves_keep (sign VOID void) (weaves_keep (name_token name) inner.woven)));
        made = λ at fresh.
            let x = inner.made (next (next (far (olds first) at))) (new_behind move first last at fresh) in
            let other = begins (maybe (moved_span move) mods.first) (moved_span move void) in
            rw (old_both move first last at)
            (record {
              found = method_of other (moved_found_mods move mods) None false (moved_name move name) x.found;
              is = g.void_method (moved_span move void) (moved_name move name) (mods_move move member_words first mods m) x.is;
              each = method_placed start other mods None None false name rest x.found (begin_from mods.first void) refl x.params x.parent_args x.stmts;
            });
      }
  member_placed _ _ (g.constructor_of {first} {second} {mods} {rest} name m b) h =
      let inner = behind_placed true second rest b (names_split first (name_token name ∷ second) h).1.1 in
      let start = begins mods.first name.span in
      let last = old (name_token name) ∷ inner.pieces in
      record {
        pieces = olds first ++ last;
        woven = subst (λ l. Weaves (first ++ name_token name ∷ second) l (olds first ++ last)) (one_method rest.body.stmts) (weaves_before first (weaves_keep (name_token name) inner.woven));
        made = λ at fresh.
            let x = inner.made (next (far (olds first) at)) (new_behind move first last at fresh) in
            let other = begins (maybe (moved_span move) mods.first) (moved_span move name.span) in
            rw (old_both move first last at)
            (record {
              found = method_of other (moved_found_mods move mods) None true (moved_name move name) x.found;
              is = g.constructor_of (moved_name move name) (mods_move move member_words first mods m) x.is;
              each = method_placed start other mods None None true name rest x.found (begin_from mods.first name.span) refl x.params x.parent_args x.stmts;
            });
      }

  together_both : (xs ys : List (List Insertion)) → together (xs ++ ys) ≡ together xs ++ together ys
  together_both [] ys = refl
  together_both (x ∷ xs) ys = ap (λ l. x ++ l) (together_both xs ys) ∙ sym (append_assoc x (together xs) (together ys))

  members_both : (xs ys : List Member) → added (in_members site xs) ++ added (in_members site ys) ≡ added (in_members site (xs ++ ys))
  members_both xs ys =
      sym (added_both (in_members site xs) (in_members site ys)) ∙ ap added (sym (together_both (map (in_member site) xs) (map (in_member site) ys)) ∙ ap together (sym (map_both (in_member site) xs ys)))

  record AllMembersMade (ts : List Token) (members : List Member) : Type 0 where
    pub found : Members
    pub is : IsRepeated (IsMember source_parts) no_members with_members ts found
    pub each : Each (PlacedMember site move (IsWritten move)) members found.members

  record AllMembersPlaced (ts : List Token) (members : Members) : Type 0 where
    pub pieces : List Piece
    pub woven : Weaves ts (added (in_members site members.members)) pieces
    pub made : (at : Places) → AllNew move at pieces → AllMembersMade (realised move at pieces) members.members

  members_placed : (ts : List Token) (members : Members) → IsRepeated (IsMember source_parts) no_members with_members ts members → HaveNames ts → AllMembersPlaced ts members
  members_placed _ _ no_item h = record { pieces = []; woven = weaves_none; made = λ at fresh. record { found = no_members; is = no_item; each = q.none } }
  members_placed _ _ (one_more {before} {tokens} {items} {item} d x) h =
      let n = names_split before tokens h in
      let one = members_placed before items d n.0 in
      let two = member_placed tokens item x n.1 in
      record {
        pieces = one.pieces ++ two.pieces;
        woven = subst (λ l. Weaves (before ++ tokens) l (one.pieces ++ two.pieces)) (members_both items.members item.members)
            (weaves_both before tokens (added (in_members site items.members)) (added (in_members site item.members)) one.pieces two.pieces one.woven two.woven);
        made = λ at fresh.
            let new = new_parts move one.pieces two.pieces at fresh in
            let a = one.made at new.0 in
            let b = two.made (far one.pieces at) new.1 in
            rw (real_both move one.pieces two.pieces at) (record { found = with_members a.found b.found; is = one_more a.is b.is; each = each_both a.each b.each });
      }

  -- ---- classes

  pub record ClassMade (ts : List Token) (class : FoundClass) : Type 0 where
    pub found : FoundClass
    pub is : IsClass source_parts ts found
    pub placed : PlacedClass site move (IsWritten move) class.class found.class

  pub record ClassPlaced (ts : List Token) (class : FoundClass) : Type 0 where
    pub pieces : List Piece
    pub woven : Weaves ts (added (in_class site class.class)) pieces
    pub made : (at : Places) → AllNew move at pieces → ClassMade (realised move at pieces) class

  pub class_placed : (ts : List Token) (class : FoundClass) → IsClass source_parts ts class → HaveNames ts → ClassPlaced ts class
  class_placed _ _ (g.class {first} {second} {third} {start} {parent} {members} span name left right w x r) h =
      let n = names_split first (sign CLASS span ∷ name_token name ∷ (second ++ sign OPEN_BRACE left ∷ (third ++ sign CLOSE_BRACE right ∷ []))) h in
      let m = names_split second (sign OPEN_BRACE left ∷ (third ++ sign CLOSE_BRACE right ∷ [])) n.1.1.1 in
      let inner = members_placed third members r (names_split third (sign CLOSE_BRACE right ∷ []) m.1.1).0 in
      let p3 = old (sign CLOSE_BRACE right) ∷ [] in
      let p2 = old (sign OPEN_BRACE left) ∷ (inner.pieces ++ p3) in
      let p1 = old (sign CLASS span) ∷ old (name_token name) ∷ (olds second ++ p2) in
      record {
        pieces = olds first ++ p1;
        woven = weaves_before first (weaves_keep (sign CLASS span) (weaves_keep (name_token name) (weaves_before second (weaves_keep (sign OPEN_BRACE left)
            (weaves_after third (added (in_members site members.members)) inner.pieces (sign CLOSE_BRACE right ∷ []) inner.woven)))));
        made = λ at fresh.
            let at2 = next (next (far (olds first) at)) in
            let at3 = next (far (olds second) at2) in
            let y = inner.made at3 (new_parts move inner.pieces p3 at3 (new_behind move second p2 at2 (new_behind move first p1 at fresh))).0 in
            rw (old_both move first p1 at, old_both move second p2 at2, real_both move inner.pieces p3 at3)
            (record {
              found = class_of (begins (maybe (moved_span move) start) (moved_span move span)) (moved_name move name) (maybe (moved_name move) parent) y.found (moved_span move right);
              is = g.class (moved_span move span) (moved_name move name) (moved_span move left) (moved_span move right) (words_move move first start w) (parent_moves move second parent x) y.is;
              placed = record { name = refl; parent = refl; members = y.each; from = begin_from start span };
            });
      }
