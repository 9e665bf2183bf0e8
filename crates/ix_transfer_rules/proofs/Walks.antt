-- A walk over items of any type that adds what is listed of each.
use Rattle.std.specs.Prelude.{◌≡◌, ℕ, ◌≤◌, ◌<◌, ◌+◌, List, [], ◌∷◌, ◌++◌, length, drop, slice_index_or}
use Rattle.std.proofs.Common.{sym, ap, ◌∙◌}
use Rattle.std.proofs.lemmas.List.{append_assoc, append-nil, at_drop_more, at_drop_all}
use Rattle.ix_core.specs.declared.fact.Fact.{Fact}
use Rattle.ix_facts.specs.Closure.{kept}
use Rattle.ix_intervals.specs.KeptLaws.{kept_joined}

-- what is listed of each item is a fold of its own
module _ {X : Type 0} (of_one : X → List Fact) (of_all : List X → List Fact) (items : List X) (k : ℕ) where
  pub items_next : ((x : X) (xs : List X) → of_all (x ∷ xs) ≡ of_one x ++ of_all xs) → (d : X) → k < length items → (old new whole : List Fact) → new ≡ old ++ kept (of_one (slice_index_or items k d)) → old ++ kept (of_all (drop k items)) ≡ whole → new ++ kept (of_all (drop (k + 1) items)) ≡ whole
  items_next law d within old new whole n before =
      let x = slice_index_or items k d in
      let rest = drop (k + 1) items in
      ap (λ l. l ++ kept (of_all rest)) n
      ∙ append_assoc old (kept (of_one x)) (kept (of_all rest))
      ∙ ap (λ l. old ++ l) (sym (kept_joined (of_one x) (of_all rest)) ∙ ap kept (sym (law x rest)))
      ∙ sym (at_drop_more (λ l. old ++ kept (of_all l)) items k d within)
      ∙ before

  pub items_end : of_all [] ≡ [] → length items ≤ k → (new whole : List Fact) → new ++ kept (of_all (drop k items)) ≡ whole → new ≡ whole
  items_end none all new whole before =
      sym (append-nil new) ∙ ap (λ l. new ++ kept l) (sym none) ∙ sym (at_drop_all (λ l. new ++ kept (of_all l)) items k all) ∙ before
