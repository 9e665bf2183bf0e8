use Rattle.std.proofs.Common.{inl, inr, ◌∙◌, ⊎_elim}
use Rattle.ix_fact_paths.specs.ByPath.{near_place}
use Rattle.ix_fact_paths.proofs.NearPlaces.{placed_same, near_placed}
use Rattle.ix_fact_paths.proofs.marks.mark_far.Goals as goal

pub returns-in-Some : goal.returns-in-Some
returns-in-Some c = λ q m. ⊎_elim (λ old. inl (m.0, old)) (λ e. inr (placed_same q c.args.p.now m.0 (near_placed c.args.p.now c.in-Some.ensures.near.0) (e ∙ c.in-Some.ensures.near.1))) (c.mark_place.ensures (near_place q) m.1)
