use Rattle.std.proofs.Common.{◌≡◌, sym, subst}
use Rattle.std.specs.BTreeSet.{insert_key}
use Rattle.ix_facts.specs.PathOrder.{path_cmp}
use Rattle.ix_fact_paths.proofs.Marked.{marked_again, put_marked}
use Rattle.ix_fact_paths.proofs.path_set.PathSet.put_unmarked.Goals as goal

pub returns-then-has_far : goal.returns-then-has_far
returns-then-has_far c =
    let p = c.args.p.now in
    let same = marked_again c.self.inside.paths.items c.self.inside.marks p c.self.invariant (c.has_far.ensures c.if-has_far.true) in
    subst (λ l. l ≡ insert_key path_cmp l p) c.self.view_is (sym same)

pub invariant_of-self-2 : goal.invariant_of-self-2
invariant_of-self-2 c =
    put_marked c.self.inside.paths.items c.put_path.new.paths.items c.self.inside.marks c.put.new.self c.args.p.now c.self.invariant c.in_ok-put_path.ensures.put c.put.ensures
