-- Notes with new ones between them: what is said at old places stays.
use Rattle.std.proofs.Common.{◌≡◌, false, List, [], ◌∷◌, ◌++◌, refl, sym, ap, subst, ◌∙◌}
use Rattle.std.specs.Prelude.{◌==◌}
use Rattle.std.proofs.lemmas.Bool.{and_parts}
use Rattle.ix_text.specs.declared.span.Span.{Span}
use Rattle.ix_core.proofs.Cases.{by_test, equal}
use Rattle.ix_meaning.specs.declared.note.Note.{Note}
use Rattle.ix_meaning.specs.declared.note.Note.TheVariants.{Use, Typed, Declares, Wrong, WrongAnnot}
use Rattle.ix_meaning.specs.Listed.{same_span}
use Rattle.ix_meaning.specs.Resolved.{or_found, meaning_at, type_at, declared_at}
use Rattle.ix_formed.specs.Additions.{AllOf}
use Rattle.ix_guard_text.specs.Moved.{Move, moved_span}
use Rattle.ix_guard_text.specs.TestParts.{IsNew}
use Rattle.ix_guard_text.specs.WithNew.{IsNewNote, WithNew, none, kept, new}

module _ (move : Move) where
  abbrev pub AllNew : List Note → Type 0
  AllNew notes = AllOf (IsNewNote move) notes

  pub all_kept : (notes : List Note) → WithNew move notes notes
  all_kept [] = none
  all_kept (note ∷ notes) = kept note (all_kept notes)

  pub all_kept_as : (notes others : List Note) → others ≡ notes → WithNew move notes others
  all_kept_as notes others e = subst (λ (ns : List Note). WithNew move notes ns) (sym e) (all_kept notes)

  pub kept_both : {xs ys zs ws : List Note} → WithNew move xs ys → WithNew move zs ws → WithNew move (xs ++ zs) (ys ++ ws)
  kept_both none b = b
  kept_both (kept note a) b = kept note (kept_both a b)
  kept_both (new note is a) b = new note is (kept_both a b)

  -- new ones in front
  pub new_before : (added : List Note) {notes others : List Note} → AllNew added → WithNew move notes others → WithNew move notes (added ++ others)
  new_before [] is a = a
  new_before (note ∷ added) is a = new note is.0 (new_before added is.1 a)

  -- what is so of all is so of those without the new ones
  pub kept_so : (P : Note → Type 0) {notes others : List Note} → WithNew move notes others → AllOf P others → AllOf P notes
  kept_so P none all = tt
  kept_so P (kept note a) all = (all.0, kept_so P a all.1)
  kept_so P (new note is a) all = kept_so P a all.1

  -- ---- look-ups

  elsewhere : (p q : Span) → IsNew move p.from → same_span p (moved_span move q) ≡ false
  elsewhere p q is =
      let there = moved_span move q in
      by_test (same_span p there) (λ t. absurd (is q.from (sym (equal p.from there.from (and_parts (p.from == there.from) (p.to == there.to) t).0)))) (λ f. f)

  pub meaning_kept : (q : Span) {notes others : List Note} → WithNew move notes others → meaning_at (moved_span move q) others ≡ meaning_at (moved_span move q) notes
  meaning_kept q none = refl
  meaning_kept q (kept (Use p m) a) = ap (or_found (same_span p (moved_span move q)) m) (meaning_kept q a)
  meaning_kept q (kept (Typed p t) a) = meaning_kept q a
  meaning_kept q (kept (Declares p d) a) = meaning_kept q a
  meaning_kept q (kept (Wrong e) a) = meaning_kept q a
  meaning_kept q (kept (WrongAnnot e) a) = meaning_kept q a
  meaning_kept q (new {notes} {others} (Use p m) is a) = ap (λ b. or_found b m (meaning_at (moved_span move q) others)) (elsewhere p q is) ∙ meaning_kept q a
  meaning_kept q (new (Typed p t) is a) = meaning_kept q a
  meaning_kept q (new (Declares p d) is a) = meaning_kept q a
  meaning_kept q (new (Wrong e) is a) = meaning_kept q a
  meaning_kept q (new (WrongAnnot e) is a) = meaning_kept q a

  pub type_kept : (q : Span) {notes others : List Note} → WithNew move notes others → type_at (moved_span move q) others ≡ type_at (moved_span move q) notes
  type_kept q none = refl
  type_kept q (kept (Use p m) a) = type_kept q a
  type_kept q (kept (Typed p t) a) = ap (or_found (same_span p (moved_span move q)) t) (type_kept q a)
  type_kept q (kept (Declares p d) a) = type_kept q a
  type_kept q (kept (Wrong e) a) = type_kept q a
  type_kept q (kept (WrongAnnot e) a) = type_kept q a
  type_kept q (new (Use p m) is a) = type_kept q a
  type_kept q (new {notes} {others} (Typed p t) is a) = ap (λ b. or_found b t (type_at (moved_span move q) others)) (elsewhere p q is) ∙ type_kept q a
  type_kept q (new (Declares p d) is a) = type_kept q a
  type_kept q (new (Wrong e) is a) = type_kept q a
  type_kept q (new (WrongAnnot e) is a) = type_kept q a

  pub declared_kept : (q : Span) {notes others : List Note} → WithNew move notes others → declared_at (moved_span move q) others ≡ declared_at (moved_span move q) notes
  declared_kept q none = refl
  declared_kept q (kept (Use p m) a) = declared_kept q a
  declared_kept q (kept (Typed p t) a) = declared_kept q a
  declared_kept q (kept (Declares p d) a) = ap (or_found (same_span p (moved_span move q)) d) (declared_kept q a)
  declared_kept q (kept (Wrong e) a) = declared_kept q a
  declared_kept q (kept (WrongAnnot e) a) = declared_kept q a
  declared_kept q (new (Use p m) is a) = declared_kept q a
  declared_kept q (new (Typed p t) is a) = declared_kept q a
  declared_kept q (new {notes} {others} (Declares p d) is a) = ap (λ b. or_found b d (declared_at (moved_span move q) others)) (elsewhere p q is) ∙ declared_kept q a
  declared_kept q (new (Wrong e) is a) = declared_kept q a
  declared_kept q (new (WrongAnnot e) is a) = declared_kept q a
