-- The guarded text of a source is a source, in whose tree all that the old one has stands at its place moved.
use Rattle.std.proofs.Common.{◌≡◌, ℕ, ◌-◌, true, List, [], ◌∷◌, ◌++◌, map, take, drop, refl, sym, ap, subst, ◌∙◌, append_assoc, append-nil}
use Rattle.ix_lexer.specs.declared.token.Token.{Token}
use Rattle.ix_lexer.specs.Tokens.{Tokens}
use Rattle.ix_tree.specs.declared.decl.ClassDecl.{ClassDecl}
use Rattle.ix_grammar.specs.declared.classes.Classes.{Classes}
use Rattle.ix_grammar.specs.declared.classes.FoundUnit.{FoundUnit}
use Rattle.ix_grammar.specs.Lists.{IsRepeated, no_item, one_more}
use Rattle.ix_grammar.specs.ClassGrammar as g
use Rattle.ix_grammar.specs.ClassGrammar.{IsClass, no_classes, with_class}
use Rattle.ix_grammar.specs.SourceGrammar.{source_parts, IsSource}
use Rattle.ix_core.specs.declared.error.Error.{Error}
use Rattle.ix_meaning.specs.Resolved.{Names}
use Rattle.ix_guard_text.specs.Respanned.{Places}
use Rattle.ix_guard_text.specs.Names.{HaveNames}
use Rattle.ix_guard_text.specs.Woven.{with_added}
use Rattle.ix_guard_text.proofs.NamedTokens.{token_names}
use Rattle.ix_guard.specs.declared.insertion.Insertion.{Insertion}
use Rattle.ix_guard.specs.Tests.{Site}
use Rattle.ix_guard.specs.Guards.{together, in_class, insertions, with_texts, guarded}
use Rattle.ix_guard_text.proofs.NamedAccesses.{names_split}
use Rattle.ix_guard_text.specs.Inserted.{added}
use Rattle.ix_guard_text.proofs.Wrapped.{added_both}
use Rattle.ix_guard_text.specs.Moved.{Move}
use Rattle.ix_guard_text.proofs.SourcesMoved.{package_moves, imports_move}
use Rattle.ix_guard_text.specs.Interleaved.{Piece, olds, moving}
use Rattle.ix_guard_text.specs.GuardedPlaces as q
use Rattle.ix_guard_text.specs.GuardedPlaces.{Each, PlacedClass, PlacedSource, GuardedAt}
use Rattle.ix_guard_text.specs.TestParts.{IsWritten}
use Rattle.ix_guard_text.proofs.PlacedTexts.{placed_tokens}
use Rattle.ix_guard_text.proofs.Realisations.{far, realised, AllNew, new_parts, new_behind, real_both, old_both, some_places}
use Rattle.ix_guard_text.proofs.MemberPlaces.{Weaves, weaves_none, weaves_before, weaves_both, each_both, class_placed}

module _ (site : Site) (move : Move) where
  record ClassesMade (ts : List Token) (classes : List ClassDecl) : Type 0 where
    pub found : Classes
    pub is : IsRepeated (IsClass source_parts) no_classes with_class ts found
    pub each : Each (PlacedClass site move (IsWritten move)) classes found.classes

  record ClassesPlaced (ts : List Token) (classes : Classes) : Type 0 where
    pub pieces : List Piece
    pub woven : Weaves ts (added (together (map (in_class site) classes.classes))) pieces
    pub made : (at : Places) → AllNew move at pieces → ClassesMade (realised move at pieces) classes.classes

  together_joined : (xs : List ClassDecl) (x : ClassDecl) → together (map (in_class site) xs) ++ in_class site x ≡ together (map (in_class site) (xs ++ x ∷ []))
  together_joined [] x = sym (append-nil (in_class site x))
  together_joined (y ∷ xs) x = append_assoc (in_class site y) (together (map (in_class site) xs)) (in_class site x) ∙ ap (λ l. in_class site y ++ l) (together_joined xs x)

  classes_placed : (ts : List Token) (classes : Classes) → IsRepeated (IsClass source_parts) no_classes with_class ts classes → HaveNames ts → ClassesPlaced ts classes
  classes_placed _ _ no_item h = record { pieces = []; woven = weaves_none; made = λ at fresh. record { found = no_classes; is = no_item; each = q.none } }
  classes_placed _ _ (one_more {before} {tokens} {items} {item} d x) h =
      let n = names_split before tokens h in
      let one = classes_placed before items d n.0 in
      let two = class_placed site move tokens item x n.1 in
      let first = together (map (in_class site) items.classes) in
      let second = in_class site item.class in
      record {
        pieces = one.pieces ++ two.pieces;
        woven = subst (λ l. Weaves (before ++ tokens) l (one.pieces ++ two.pieces)) (sym (added_both first second) ∙ ap added (together_joined items.classes item.class))
            (weaves_both before tokens (added first) (added second) one.pieces two.pieces one.woven two.woven);
        made = λ at fresh.
            let new = new_parts move one.pieces two.pieces at fresh in
            let a = one.made at new.0 in
            let b = two.made (far one.pieces at) new.1 in
            rw (real_both move one.pieces two.pieces at) (record { found = with_class a.found b.found; is = one_more a.is b.is; each = each_both a.each (q.one_more b.placed q.none) });
      }

  record SourceMade (ts : List Token) (found : FoundUnit) : Type 0 where
    pub other : FoundUnit
    pub is : IsSource ts other
    pub placed : PlacedSource site move (IsWritten move) found.unit other.unit

  record SourcePlaced (ts : List Token) (found : FoundUnit) : Type 0 where
    pub pieces : List Piece
    pub woven : Weaves ts (added (insertions site found.unit)) pieces
    pub made : (at : Places) → AllNew move at pieces → SourceMade (realised move at pieces) found

  source_placed : (ts : List Token) (found : FoundUnit) → IsSource ts found → HaveNames ts → SourcePlaced ts found
  source_placed _ _ (g.program {first} {second} {third} {name} {imports} {classes} p i r) h =
      let inner = classes_placed third classes r (names_split second third (names_split first (second ++ third) h).1).1 in
      record {
        pieces = olds first ++ (olds second ++ inner.pieces);
        woven = weaves_before first (weaves_before second inner.woven);
        made = λ at fresh.
            let at2 = far (olds first) at in
            let m = inner.made (far (olds second) at2) (new_behind move second inner.pieces at2 (new_behind move first (olds second ++ inner.pieces) at fresh)) in
            rw (old_both move first (olds second ++ inner.pieces) at, old_both move second inner.pieces at2)
            (record { other = g.unit_of m.found; is = g.program (package_moves move first name p) (imports_move move second imports i) m.is; placed = m.each });
      }

texts_added : (at : ℕ) (bytes : List ℕ) (put : List Insertion) → with_added at bytes (added put) ≡ with_texts at bytes put
texts_added at bytes [] = refl
texts_added at bytes (i ∷ put) = ap (λ l. take (i.place - at) bytes ++ (i.text ++ l)) (texts_added i.place (drop (i.place - at) bytes) put)

-- The guarded bytes are such a source, moved by what is inserted.
pub guarded_places : (bytes : List ℕ) (tokens : List Token) (found : FoundUnit) (meanings : Names) (errors : List Error) → Tokens bytes tokens → IsSource tokens found
    → let site : Site = record { names = meanings; errors = errors } in GuardedAt (guarded bytes found.unit meanings errors) site (moving (added (insertions site found.unit))) found
guarded_places bytes tokens found meanings errors t d =
    let site : Site = record { names = meanings; errors = errors } in
    let put = insertions site found.unit in
    let move = moving (added put) in
    let placed = source_placed site move tokens found d (token_names bytes tokens t) in
    let woven = placed.woven true 0 in
    let read = placed_tokens bytes tokens placed.pieces (added put) woven.0 woven.1 t woven.2 in
    let places = some_places move read.2 in
    let made = placed.made places.0 places.1 in
    record {
      tokens = read.0;
      other = made.other;
      text = subst (λ b. Tokens b read.0) (texts_added 0 bytes put) read.1;
      is = subst (λ l. IsSource l made.other) places.2 made.is;
      placed = made.placed;
    }
