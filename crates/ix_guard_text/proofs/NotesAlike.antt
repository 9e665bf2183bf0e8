-- Lists of notes that are the same up to places: one is so with itself at its places moved to one.
use Rattle.std.proofs.Common.{◌≡◌, List, [], ◌∷◌, ◌++◌, map, refl, sym, ap, ap₂, ◌∙◌}
use Rattle.std.proofs.lemmas.List.{map-append}
use Rattle.ix_meaning.specs.declared.note.Note.{Note}
use Rattle.ix_meaning.specs.declared.note.Note.TheVariants.{Use, Typed, Declares, Wrong, WrongAnnot}
use Rattle.ix_meaning.specs.Types.{Judged}
use Rattle.ix_guard_text.specs.MovedNotes.{moved_note, unplaced, AreMoved}
use Rattle.ix_guard_text.specs.Alike.{bare_note, AreAlike}
use Rattle.ix_guard_text.specs.Gathered.{gathered}

pub none : AreAlike [] []
none = record { same = refl }

pub both : {a b c d : List Note} → AreAlike a b → AreAlike c d → AreAlike (a ++ c) (b ++ d)
both {a} {b} {c} {d} x y = record { same = map-append bare_note a c ∙ ap₂ (λ l m. l ++ m) x.same y.same ∙ sym (map-append bare_note b d) }

pub flipped : {a b : List Note} → AreAlike a b → AreAlike b a
flipped x = record { same = sym x.same }

pub chained : {a b c : List Note} → AreAlike a b → AreAlike b c → AreAlike a c
chained x y = record { same = x.same ∙ y.same }

-- ---- with its places moved to one

bare_unplaced : (n : Note) → bare_note (unplaced n) ≡ bare_note n
bare_unplaced (Use span meaning) = refl
bare_unplaced (Typed span ty) = refl
bare_unplaced (Declares span declared) = refl
bare_unplaced (Wrong error) = refl
bare_unplaced (WrongAnnot error) = refl

bare_gathered : (n : Note) → bare_note (moved_note gathered n) ≡ bare_note n
bare_gathered (Use span meaning) = refl
bare_gathered (Typed span ty) = refl
bare_gathered (Declares span declared) = refl
bare_gathered (Wrong error) = refl
bare_gathered (WrongAnnot error) = refl

all_unplaced : (ns : List Note) → map bare_note (map unplaced ns) ≡ map bare_note ns
all_unplaced [] = refl
all_unplaced (n ∷ ns) = ap₂ (λ (m : Note) (ms : List Note). m ∷ ms) (bare_unplaced n) (all_unplaced ns)

all_gathered : (ns : List Note) → map bare_note (map (moved_note gathered) ns) ≡ map bare_note ns
all_gathered [] = refl
all_gathered (n ∷ ns) = ap₂ (λ (m : Note) (ms : List Note). m ∷ ms) (bare_gathered n) (all_gathered ns)

pub alike : (a b : List Note) → AreMoved gathered a b → AreAlike a b
alike a b x = record {
  same = sym (all_gathered a) ∙ sym (all_unplaced (map (moved_note gathered) a)) ∙ ap (λ (ns : List Note). map bare_note ns) x.same ∙ all_unplaced b;
}

-- An expression says the same up to places.
pub record SameJudged (j k : Judged) : Type 0 where
  pub ty : j.ty ≡ k.ty
  pub notes : AreAlike j.notes k.notes
