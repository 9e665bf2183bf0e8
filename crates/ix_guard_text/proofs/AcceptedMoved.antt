-- The notes of an accepted source whose places are moved, and what its table of names says.
use Rattle.std.proofs.Common.{◌≡◌, Bool, List, [], ◌∷◌, map, Option, refl, sym, ap₂, ◌∙◌, subst}
use Rattle.ix_text.specs.declared.span.Span.{Span}
use Rattle.ix_tree.specs.declared.decl.Unit.{Unit as Source}
use Rattle.ix_meaning.specs.declared.note.Note.{Note}
use Rattle.ix_meaning.specs.declared.note.Note.TheVariants.{Use, Typed, Declares, Wrong, WrongAnnot}
use Rattle.ix_meaning.specs.Listed.{same_span}
use Rattle.ix_meaning.specs.Resolved.{Accepts, or_found, meaning_at, type_at, declared_at}
use Rattle.ix_meaning.specs.Source.{notes}
use Rattle.ix_formed.specs.Additions.{AllOf}
use Rattle.ix_formed.specs.NoErrors.{IsClean}
use Rattle.ix_formed.proofs.CleanNotes.{all_clean}
use Rattle.ix_guard_text.specs.Moved.{Move, moved_span, moved_source}
use Rattle.ix_guard_text.specs.MovedNotes.{moved_note, unplaced, IsInjective}
use Rattle.ix_guard_text.proofs.SpansMove.{same_span_moved}
use Rattle.ix_guard_text.proofs.SourcesMove.{notes_move}

-- ---- notes without errors

clean_is : (n m : Note) → IsClean n → n ≡ unplaced m → n ≡ m
clean_is n (Use p m) clean e = e
clean_is n (Typed p t) clean e = e
clean_is n (Declares p d) clean e = e
clean_is n (Wrong error) clean e = absurd (subst IsClean e clean)
clean_is n (WrongAnnot error) clean e = absurd (subst IsClean e clean)

clean_stays : (n : Note) → IsClean n → unplaced n ≡ n
clean_stays (Use p m) clean = refl
clean_stays (Typed p t) clean = refl
clean_stays (Declares p d) clean = refl
clean_stays (Wrong error) clean = absurd clean
clean_stays (WrongAnnot error) clean = absurd clean

module _ (move : Move) where
  clean_moved : (n : Note) → IsClean n → IsClean (moved_note move n)
  clean_moved (Use p m) clean = tt
  clean_moved (Typed p t) clean = tt
  clean_moved (Declares p d) clean = tt
  clean_moved (Wrong error) clean = absurd clean
  clean_moved (WrongAnnot error) clean = absurd clean

  all_are : (ns ms : List Note) → AllOf IsClean ns → map unplaced (map (moved_note move) ns) ≡ map unplaced ms → map (moved_note move) ns ≡ ms
  all_are [] [] clean e = refl
  all_are [] (m ∷ ms) clean e = absurd cc
  all_are (n ∷ ns) [] clean e = absurd cc
  all_are (n ∷ ns) (m ∷ ms) clean e =
      let here : unplaced (moved_note move n) ≡ unplaced m = cc in
      let later : map unplaced (map (moved_note move) ns) ≡ map unplaced ms = cc in
      let moved = clean_moved n clean.0 in
      ap₂ (λ (x : Note) (xs : List Note). x ∷ xs) (clean_is (moved_note move n) m moved (sym (clean_stays (moved_note move n) moved) ∙ here)) (all_are ns ms clean.1 later)

  -- Where no two places come to one, the notes of the moved source are those of the source, each at its place moved.
  pub clean_notes_moved : IsInjective move → (unit : Source) → AllOf IsClean (notes unit.classes) → notes (moved_source move unit).classes ≡ map (moved_note move) (notes unit.classes)
  clean_notes_moved apart unit clean = sym (all_are (notes unit.classes) (notes (moved_source move unit).classes) clean (notes_move move apart unit).same)

  pub notes_moved : IsInjective move → (unit : Source) → Accepts unit → notes (moved_source move unit).classes ≡ map (moved_note move) (notes unit.classes)
  notes_moved apart unit accepts = clean_notes_moved apart unit (all_clean (notes unit.classes) accepts.no_errors)

  -- ---- what is said of a place

  module _ (apart : IsInjective move) where
    found_moved : {A : Type 0} (q p : Span) (a : A) (later was : Option A) → later ≡ was
        → or_found (same_span (moved_span move q) (moved_span move p)) a later ≡ or_found (same_span q p) a was
    found_moved {A = A} q p a later was e = ap₂ (λ (b : Bool) (o : Option A). or_found b a o) (same_span_moved move apart q p) e

    pub meaning_moved : (p : Span) (ns : List Note) → meaning_at (moved_span move p) (map (moved_note move) ns) ≡ meaning_at p ns
    meaning_moved p [] = refl
    meaning_moved p (Use q m ∷ ns) = found_moved q p m _ _ (meaning_moved p ns)
    meaning_moved p (Typed q t ∷ ns) = meaning_moved p ns
    meaning_moved p (Declares q d ∷ ns) = meaning_moved p ns
    meaning_moved p (Wrong error ∷ ns) = meaning_moved p ns
    meaning_moved p (WrongAnnot error ∷ ns) = meaning_moved p ns

    pub type_moved : (p : Span) (ns : List Note) → type_at (moved_span move p) (map (moved_note move) ns) ≡ type_at p ns
    type_moved p [] = refl
    type_moved p (Use q m ∷ ns) = type_moved p ns
    type_moved p (Typed q t ∷ ns) = found_moved q p t _ _ (type_moved p ns)
    type_moved p (Declares q d ∷ ns) = type_moved p ns
    type_moved p (Wrong error ∷ ns) = type_moved p ns
    type_moved p (WrongAnnot error ∷ ns) = type_moved p ns

    pub declared_moved : (p : Span) (ns : List Note) → declared_at (moved_span move p) (map (moved_note move) ns) ≡ declared_at p ns
    declared_moved p [] = refl
    declared_moved p (Use q m ∷ ns) = declared_moved p ns
    declared_moved p (Typed q t ∷ ns) = declared_moved p ns
    declared_moved p (Declares q d ∷ ns) = found_moved q p d _ _ (declared_moved p ns)
    declared_moved p (Wrong error ∷ ns) = declared_moved p ns
    declared_moved p (WrongAnnot error ∷ ns) = declared_moved p ns
