use Rattle.std.proofs.Common.{◌≡◌, subst}
use Rattle.std.specs.BTreeSet.{insert_key}
use Rattle.ix_facts.specs.PathOrder.{path_cmp}
use Rattle.ix_fact_paths.proofs.Marked.{marked_again}
use Rattle.ix_fact_paths.proofs.path_set.PathSet.is_marked.Goals as goal

pub returns : goal.returns
returns c = λ t.
    let p = c.args.p.now in
    subst (λ l. insert_key path_cmp l p ≡ l) c.self.view_is (marked_again c.self.inside.paths.items c.self.inside.marks p c.self.invariant (c.has.ensures t))
