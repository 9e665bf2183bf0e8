-- What is done for the members of a list, one after the other: one more, one that is refused, and none that is left. The loops over declarations and expressions cite these.
use Rattle.std.proofs.Common.{◌≡◌, ℕ, ◌+◌, ◌<◌, ◌≤◌, List, [], ◌∷◌, drop, get_or, length, ap, ◌∙◌}
use Rattle.std.specs.Prelude.{Ok, Err}
use Rattle.std.proofs.lemmas.List.{drop_all}
use Rattle.ix_meaning.specs.declared.note.Which.{Which}
use Rattle.ix_plain.specs.Parts.{Within, ◌>>=◌}
use Rattle.ix_lower_expressions.proofs.InTurn.{first_left}

module _ {A B : Type 0} (one_of : A → B → Within B) (all_of : List A → B → Within B) (none : (made : B) → all_of [] made ≡ Ok made)
    (more : (one : A) (rest : List A) (made : B) → all_of (one ∷ rest) made ≡ one_of one made >>= all_of rest) (all : List A) (place : ℕ) (whole : Within B) where
  pub next : (one : A) (made later : B) → place < length all → one ≡ get_or all place one → one_of one made ≡ Ok later → whole ≡ all_of (drop place all) made
      → whole ≡ all_of (drop (place + 1) all) later
  next one made later within is done so =
      let rest = drop (place + 1) all in
      so ∙ (ap (λ these. all_of these made) (first_left all place one within is) ∙ (more one rest made ∙ ap (λ (r : Within B). r >>= all_of rest) done))

  pub refused : (one : A) (made : B) (which : Which) → place < length all → one ≡ get_or all place one → whole ≡ all_of (drop place all) made → one_of one made ≡ Err which → whole ≡ Err which
  refused one made which within is so stops =
      let rest = drop (place + 1) all in
      so ∙ (ap (λ these. all_of these made) (first_left all place one within is) ∙ (more one rest made ∙ ap (λ (r : Within B). r >>= all_of rest) stops))

  pub none_left : (made : B) → length all ≤ place → whole ≡ all_of (drop place all) made → whole ≡ Ok made
  none_left made past so = so ∙ (ap (λ these. all_of these made) (drop_all place all past) ∙ none made)
