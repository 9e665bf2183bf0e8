-- A source without errors on names has none at other places.
use Rattle.std.proofs.Common.{◌≡◌, List, [], ◌∷◌, ◌++◌, map, refl, ap₂, subst}
use Rattle.ix_tree.specs.declared.decl.Unit.{Unit as Source}
use Rattle.ix_meaning.specs.declared.note.NameError.{NameError}
use Rattle.ix_meaning.specs.declared.note.Note.{Note}
use Rattle.ix_meaning.specs.declared.note.Note.TheVariants.{Use, Typed, Declares, Wrong, WrongAnnot}
use Rattle.ix_meaning.specs.Listed.{wrongs, wrong_annots, firsts, derived}
use Rattle.ix_meaning.specs.Resolved.{name_errors}
use Rattle.ix_meaning.specs.Source.{notes}
use Rattle.ix_formed.specs.Additions.{AllOf}
use Rattle.ix_formed.specs.NoErrors.{IsClean}
use Rattle.ix_formed.proofs.CleanNotes.{all_clean}
use Rattle.ix_guard_text.specs.Alike.{bare_note, AreSame}
use Rattle.ix_guard_text.proofs.SourcesAlike.{notes_again}

bare_clean : (n : Note) → IsClean n → IsClean (bare_note n)
bare_clean (Use span meaning) h = tt
bare_clean (Typed span ty) h = tt
bare_clean (Declares span declared) h = tt
bare_clean (Wrong error) h = absurd h
bare_clean (WrongAnnot error) h = absurd h

clean_of_bare : (n : Note) → IsClean (bare_note n) → IsClean n
clean_of_bare (Use span meaning) h = tt
clean_of_bare (Typed span ty) h = tt
clean_of_bare (Declares span declared) h = tt
clean_of_bare (Wrong error) h = absurd h
clean_of_bare (WrongAnnot error) h = absurd h

pub clean_again : (ns ms : List Note) → map bare_note ns ≡ map bare_note ms → AllOf IsClean ns → AllOf IsClean ms
clean_again [] [] e clean = tt
clean_again [] (m ∷ ms) e clean = absurd cc
clean_again (n ∷ ns) [] e clean = absurd cc
clean_again (n ∷ ns) (m ∷ ms) e clean =
    let here : bare_note n ≡ bare_note m = cc in
    let later : map bare_note ns ≡ map bare_note ms = cc in
    (clean_of_bare m (subst IsClean here (bare_clean n clean.0)), clean_again ns ms later clean.1)

no_wrongs : (ns : List Note) → AllOf IsClean ns → wrongs ns ≡ []
no_wrongs [] clean = refl
no_wrongs (Use span meaning ∷ ns) clean = no_wrongs ns clean.1
no_wrongs (Typed span ty ∷ ns) clean = no_wrongs ns clean.1
no_wrongs (Declares span declared ∷ ns) clean = no_wrongs ns clean.1
no_wrongs (Wrong error ∷ ns) clean = absurd clean.0
no_wrongs (WrongAnnot error ∷ ns) clean = absurd clean.0

no_wrong_annots : (ns : List Note) → AllOf IsClean ns → wrong_annots ns ≡ []
no_wrong_annots [] clean = refl
no_wrong_annots (Use span meaning ∷ ns) clean = no_wrong_annots ns clean.1
no_wrong_annots (Typed span ty ∷ ns) clean = no_wrong_annots ns clean.1
no_wrong_annots (Declares span declared ∷ ns) clean = no_wrong_annots ns clean.1
no_wrong_annots (Wrong error ∷ ns) clean = absurd clean.0
no_wrong_annots (WrongAnnot error ∷ ns) clean = absurd clean.0

pub none_derived : (ns : List Note) → AllOf IsClean ns → derived ns ≡ []
none_derived ns clean = ap₂ (λ (es : List NameError) (fs : List NameError). es ++ firsts fs fs) (no_wrongs ns clean) (no_wrong_annots ns clean)

pub no_errors_again : (unit other : Source) → AreSame unit other → name_errors unit ≡ [] → name_errors other ≡ []
no_errors_again unit other h none =
    none_derived (notes other.classes) (clean_again (notes unit.classes) (notes other.classes) (notes_again unit other h).same (all_clean (notes unit.classes) none))
