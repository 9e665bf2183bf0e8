-- Entries that tie by the order of their paths are at one path, and a stable sort keeps those of a path as they stood.
use Rattle.std.specs.Prelude.{◌≡◌, not, ◌&&◌, filter, refl}
use Rattle.std.specs.declared.cmp.Ordering.{Ordering}
use Rattle.std.specs.declared.cmp.Ordering.TheVariants.{Less, Equal, Greater}
use Rattle.std.specs.Ordering.{is_lt, is_eq, ordering_reverse}
use Rattle.std.specs.Cmp.{IsTotalOrder}
use Rattle.std.specs.List.Sorted.{ties, IsStableByKey}
use Rattle.std.proofs.Common.{sym, ap, ◌∙◌, pos}
use Rattle.ix_core.specs.declared.fact.Path.{Path}
use Rattle.ix_core.specs.declared.fact.Fact.{Fact}
use Rattle.ix_core.specs.declared.fact.Fact.TheVariants.{Low}
use Rattle.ix_facts.specs.PathOrder.{path_cmp}
use Rattle.ix_facts.specs.Bounds.{is_path}
use Rattle.ix_fact_paths.specs.ByPath.{Entries, at_path, about}

neither : (o : Ordering) → (not (is_lt o) && not (is_lt (ordering_reverse o))) ≡ is_eq o
neither Less = refl
neither Equal = refl
neither Greater = refl

module _ (equal : (p q : Path) → is_eq (path_cmp p q) ≡ is_path p q) (total : IsTotalOrder path_cmp) where
  ties_at : (p : Path) (f : Fact) (e : Path × Fact) → ties (λ x y. is_lt (path_cmp x.0 y.0)) (p, f) e ≡ at_path p e
  ties_at p f e =
      ap (λ o. not (is_lt (path_cmp p e.0)) && not (is_lt o)) (total.antisymm e.0 p) ∙ (neither (path_cmp p e.0) ∙ equal p e.0)

  pub stable_about : (sorted entries : Entries) → IsStableByKey (λ e. e.0) path_cmp entries sorted → (p : Path) → about p sorted ≡ about p entries
  stable_about sorted entries stable p =
      let f = Low p (pos 0) in
      ap (λ t. filter t sorted) (λ i e. sym (ties_at p f e) i) ∙ (stable (p, f) ∙ ap (λ t. filter t entries) (λ i e. ties_at p f e i))
