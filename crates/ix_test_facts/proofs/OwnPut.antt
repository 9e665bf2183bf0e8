-- A fact put before the first that passes a test: how far the search has come.
use Rattle.std.specs.Prelude.{◌≡◌, ◌<◌, ◌≤◌, ◌+◌, ℕ, Bool, true, false, List, [], ◌∷◌, ◌++◌, length, take, drop, get_or, refl}
use Rattle.std.proofs.Common.{add-one, append_assoc, ap, sym, ◌∙◌}
use Rattle.std.proofs.Math.Seq.{drop-cons, take-suc}
use Rattle.std.proofs.lemmas.List.{drop_all}
use Rattle.ix_core.specs.declared.fact.Fact.{Fact}
use Rattle.ix_test_facts.specs.OverGroups.{put_before}

-- none of the first k passes
abbrev pub ArePassed : (Fact → Bool) → List Fact → ℕ → Type 0
ArePassed test facts k = (own : Fact) → put_before test own facts ≡ take k facts ++ put_before test own (drop k facts)

module _ (test : Fact → Bool) (facts : List Fact) (k : ℕ) where
  module _ (d : Fact) (more : k < length facts) where
    at : drop k facts ≡ get_or facts k d ∷ drop (k + 1) facts
    at = rw add-one (drop-cons facts k d more)

    pub one_passed : test (get_or facts k d) ≡ false → ArePassed test facts k → ArePassed test facts (k + 1)
    one_passed differs passed own =
        let rest = put_before test own (drop (k + 1) facts) in
        let one : put_before test own (get_or facts k d ∷ drop (k + 1) facts) ≡ get_or facts k d ∷ rest = rw differs refl in
        let front : take (k + 1) facts ≡ take k facts ++ get_or facts k d ∷ [] = rw add-one (take-suc facts k d more) in
        passed own
        ∙ (ap (λ l. take k facts ++ put_before test own l) at
        ∙ (ap (λ l. take k facts ++ l) one ∙ (sym (append_assoc (take k facts) (get_or facts k d ∷ []) rest) ∙ ap (λ l. l ++ rest) (sym front))))

    pub one_found : test (get_or facts k d) ≡ true → ArePassed test facts k → (own : Fact) → put_before test own facts ≡ take k facts ++ own ∷ drop k facts
    one_found passes passed own =
        let one : put_before test own (get_or facts k d ∷ drop (k + 1) facts) ≡ own ∷ get_or facts k d ∷ drop (k + 1) facts = rw passes refl in
        passed own ∙ ap (λ l. take k facts ++ l) (ap (put_before test own) at ∙ (one ∙ ap (λ l. own ∷ l) (sym at)))

  pub none_found : length facts ≤ k → ArePassed test facts k → (own : Fact) → put_before test own facts ≡ take k facts ++ own ∷ drop k facts
  none_found past passed own =
      let none : drop k facts ≡ [] = drop_all k facts past in
      passed own ∙ ap (λ l. take k facts ++ l) (ap (put_before test own) none ∙ ap (λ l. own ∷ l) (sym none))
