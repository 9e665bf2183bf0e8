use Rattle.std.proofs.Common.{◌≡◌, length, subst, sym, ap, ◌∙◌}
use Rattle.ix_fact_paths.specs.ByPath.{IsSorted, paths_in, facts_in, facts_at}
use Rattle.ix_fact_paths.proofs.EntriesAre.{as_long, paths_sorted}
use Rattle.ix_fact_paths.proofs.Added.{index_at}
use Rattle.ix_fact_paths.proofs.path_index.PathIndex.of.Goals as goal

pub invariant_of-result : goal.invariant_of-result
invariant_of-result c =
    let entries = c.in_ok-others.others.items in
    let paths : c.in_ok-paths.paths.items ≡ paths_in entries = c.in_ok-paths.ensures.paths ∙ ap paths_in c.deref.ensures.value in
    let others : c.in_ok-paths.facts.items ≡ facts_in entries = c.in_ok-paths.ensures.facts ∙ ap facts_in c.deref.ensures.value in
    (subst IsSorted (sym paths) (paths_sorted entries c.in_ok-others.ensures.sorted), ap length others ∙ (as_long entries ∙ ap length (sym paths)))

pub returns : goal.returns
returns c =
    let entries = c.in_ok-others.others.items in
    let paths : c.in_ok-paths.paths.items ≡ paths_in entries = c.in_ok-paths.ensures.paths ∙ ap paths_in c.deref.ensures.value in
    let others : c.in_ok-paths.facts.items ≡ facts_in entries = c.in_ok-paths.ensures.facts ∙ ap facts_in c.deref.ensures.value in
    index_at c.places.inside.near.items c.places.inside.others.items entries c.in_ok-paths.paths.items c.in_ok-paths.facts.items c.args.facts.now paths others c.in_ok-others.ensures.about
    (λ p. ap (λ places. facts_at places p) c.places.view_is ∙ c.in_ok-places.ensures p)
