-- Parts of lists of notes of which one is the other with its places moved.
use Rattle.std.proofs.Common.{◌≡◌, Bool, true, false, List, [], ◌∷◌, ◌++◌, map, Option, Some, None, refl, sym, ap, ap₂, ◌∙◌}
use Rattle.std.proofs.lemmas.List.{map-append}
use Rattle.ix_text.specs.declared.span.Span.{Span}
use Rattle.ix_core.specs.declared.claim.Type_.{Type_}
use Rattle.ix_meaning.specs.declared.note.Meaning.{Meaning}
use Rattle.ix_meaning.specs.declared.note.Note.{Note}
use Rattle.ix_meaning.specs.declared.note.Note.TheVariants.{Use}
use Rattle.ix_meaning.specs.declared.note.Rule.{Rule}
use Rattle.ix_meaning.specs.Types.{Judged, type_note, wrong, wrong_if}
use Rattle.ix_guard_text.specs.Moved.{Move, moved_span}
use Rattle.ix_guard_text.specs.MovedNotes.{moved_note, unplaced, AreMoved}

abbrev told : Move → List Note → List Note
told move notes = map unplaced (map (moved_note move) notes)

told_both : (move : Move) (a b : List Note) → told move (a ++ b) ≡ told move a ++ told move b
told_both move a b = ap (λ (l : List Note). map unplaced l) (map-append (moved_note move) a b) ∙ map-append unplaced (map (moved_note move) a) (map (moved_note move) b)

module _ {move : Move} where
  pub none : AreMoved move [] []
  none = record { same = refl }

  pub both : {a b c d : List Note} → AreMoved move a b → AreMoved move c d → AreMoved move (a ++ c) (b ++ d)
  both {a} {b} {c} {d} x y = record { same = told_both move a c ∙ ap₂ (λ (l : List Note) (m : List Note). l ++ m) x.same y.same ∙ sym (map-append unplaced b d) }

  pub used : {a b : List Note} (p : Span) (m : Meaning) → AreMoved move a b → AreMoved move (Use p m ∷ a) (Use (moved_span move p) m ∷ b)
  used p m x = record { same = ap (λ (l : List Note). Use (moved_span move p) m ∷ l) x.same }

  pub is_wrong : (r : Rule) (p : Span) → AreMoved move (wrong r p) (wrong r (moved_span move p))
  is_wrong r p = record { same = refl }

  pub if_wrong : (b : Bool) (r : Rule) (p : Span) → AreMoved move (wrong_if b r p) (wrong_if b r (moved_span move p))
  if_wrong true r p = record { same = refl }
  if_wrong false r p = record { same = refl }

  -- at any place
  pub is_wrong_at : (r : Rule) (p q : Span) → AreMoved move (wrong r p) (wrong r q)
  is_wrong_at r p q = record { same = refl }

  pub if_wrong_at : (b : Bool) (r : Rule) (p q : Span) → AreMoved move (wrong_if b r p) (wrong_if b r q)
  if_wrong_at true r p q = record { same = refl }
  if_wrong_at false r p q = record { same = refl }

  pub type_noted : (t : Option Type_) (p : Span) → AreMoved move (type_note t p) (type_note t (moved_span move p))
  type_noted None p = none
  type_noted (Some t) p = record { same = refl }

-- An expression says the same, its notes at their places moved.
pub record MovedJudged (move : Move) (j k : Judged) : Type 0 where
  pub ty : j.ty ≡ k.ty
  pub notes : AreMoved move j.notes k.notes
