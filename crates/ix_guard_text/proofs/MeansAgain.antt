-- Names mean the same at other places.
use Rattle.std.proofs.Common.{◌≡◌, List, [], ◌∷◌, map, Some, sym, ap, ◌∙◌}
use Rattle.ix_core.specs.declared.claim.Type_.{Type_}
use Rattle.ix_tree.specs.declared.decl.Unit.{Unit as Source}
use Rattle.ix_tree.specs.Parts.{Part, CanResolve, unit_parts}
use Rattle.ix_meaning.specs.declared.note.Declared.{Declared}
use Rattle.ix_meaning.specs.declared.note.Meaning.{Meaning}
use Rattle.ix_meaning.specs.declared.note.Note.{Note}
use Rattle.ix_meaning.specs.declared.note.Note.TheVariants.{Use, Typed, Declares, Wrong, WrongAnnot}
use Rattle.ix_meaning.specs.Resolved.{Names, names, Accepts}
use Rattle.ix_meaning.specs.Source.{notes}
use Rattle.ix_formed.specs.Additions.{AllOf}
use Rattle.ix_formed.specs.NoErrors.{Agrees}
use Rattle.ix_formed.proofs.NamesAgree.{notes_agree}
use Rattle.ix_guard_text.specs.Alike.{bare_note, AreSame}
use Rattle.ix_guard_text.specs.Same.{AllPairs, SaySame}
use Rattle.ix_guard_text.proofs.SourcesAlike.{notes_again}
use Rattle.ix_guard_text.proofs.LimitsAgain.{accepts_again}

module _ (one : Names) (parts : List Part) (two : Names) (more : List Part) where
  pair_again : (n m : Note) → bare_note n ≡ bare_note m → Agrees one parts n → Agrees two more m → SaySame one parts two more n m
  pair_again (Use p m) (Use q n) e a b = λ there here. let same : m ≡ n = cc in a there ∙ ap (λ (x : Meaning). Some x) same ∙ sym (b here)
  pair_again (Use p m) (Typed q t) e a b = absurd cc
  pair_again (Use p m) (Declares q d) e a b = absurd cc
  pair_again (Use p m) (Wrong error) e a b = absurd b
  pair_again (Use p m) (WrongAnnot error) e a b = absurd b
  pair_again (Typed p t) (Use q m) e a b = absurd cc
  pair_again (Typed p t) (Typed q u) e a b = let same : t ≡ u = cc in a ∙ ap (λ (x : Type_). Some x) same ∙ sym b
  pair_again (Typed p t) (Declares q d) e a b = absurd cc
  pair_again (Typed p t) (Wrong error) e a b = absurd b
  pair_again (Typed p t) (WrongAnnot error) e a b = absurd b
  pair_again (Declares p d) (Use q m) e a b = absurd cc
  pair_again (Declares p d) (Typed q t) e a b = absurd cc
  pair_again (Declares p d) (Declares q c) e a b = let same : d ≡ c = cc in a ∙ ap (λ (x : Declared). Some x) same ∙ sym b
  pair_again (Declares p d) (Wrong error) e a b = absurd b
  pair_again (Declares p d) (WrongAnnot error) e a b = absurd b
  pair_again (Wrong error) m e a b = absurd a
  pair_again (WrongAnnot error) m e a b = absurd a

  -- Of notes that are the same up to places, and that two tables agree with, these say the same at their places.
  pub pairs_again : (ns ms : List Note) → map bare_note ns ≡ map bare_note ms → AllOf (Agrees one parts) ns → AllOf (Agrees two more) ms → AllPairs (SaySame one parts two more) ns ms
  pairs_again [] [] e a b = tt
  pairs_again [] (m ∷ ms) e a b = absurd cc
  pairs_again (n ∷ ns) [] e a b = absurd cc
  pairs_again (n ∷ ns) (m ∷ ms) e a b =
      let here : bare_note n ≡ bare_note m = cc in
      let later : map bare_note ns ≡ map bare_note ms = cc in
      (pair_again n m here a.0 b.0, pairs_again ns ms later a.1 b.1)

-- What an accepted source's table says at the place of each note, the table of the source at other places says at the place of that note there.
pub means_again : (unit other : Source) → AreSame unit other → CanResolve unit → CanResolve other → Accepts unit
    → AllPairs (SaySame (names unit) (unit_parts unit) (names other) (unit_parts other)) (notes unit.classes) (notes other.classes)
means_again unit other h can again accepts =
    pairs_again (names unit) (unit_parts unit) (names other) (unit_parts other) (notes unit.classes) (notes other.classes) (notes_again unit other h).same (notes_agree unit can accepts)
    (notes_agree other again (accepts_again unit other h accepts))
