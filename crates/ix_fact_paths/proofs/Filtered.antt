-- One step of a walk that keeps the facts that name none of some paths.
use Rattle.std.specs.Prelude.{◌≡◌, ℕ, ◌<◌, ◌+◌, Bool, true, false, List, [], ◌∷◌, ◌++◌, length, drop, cond}
use Rattle.std.proofs.Common.{sym, ap, ◌∙◌, get_or}
use Rattle.std.proofs.lemmas.List.{append_assoc, at_drop_more}
use Rattle.ix_core.specs.declared.fact.Path.{Path}
use Rattle.ix_core.specs.declared.fact.Fact.{Fact}
use Rattle.ix_facts.specs.Forget.{names, without}

module _ (is : Path → Bool) (facts : List Fact) (k : ℕ) (d : Fact) (old whole : List Fact) where
  pub named_next : k < length facts → names is (get_or facts k d) ≡ true → old ++ without is (drop k facts) ≡ whole → old ++ without is (drop (k + 1) facts) ≡ whole
  named_next within named before =
      ap (λ t. old ++ cond t (without is (drop (k + 1) facts)) (get_or facts k d ∷ without is (drop (k + 1) facts))) (sym named)
      ∙ sym (at_drop_more (λ l. old ++ without is l) facts k d within)
      ∙ before

  pub kept_next : k < length facts → names is (get_or facts k d) ≡ false → old ++ without is (drop k facts) ≡ whole → (old ++ get_or facts k d ∷ []) ++ without is (drop (k + 1) facts) ≡ whole
  kept_next within other before =
      append_assoc old (get_or facts k d ∷ []) (without is (drop (k + 1) facts))
      ∙ ap (λ t. old ++ cond t (without is (drop (k + 1) facts)) (get_or facts k d ∷ without is (drop (k + 1) facts))) (sym other)
      ∙ sym (at_drop_more (λ l. old ++ without is l) facts k d within)
      ∙ before
