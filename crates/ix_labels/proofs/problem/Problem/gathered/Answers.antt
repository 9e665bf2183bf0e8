use Rattle.std.proofs.Common.{sym, subst, ◌∙◌, ◌≤◌, length, map, take_all}
use Rattle.ix_graph.specs.declared.node.Edge.TheVariants.{Next}
use Rattle.ix_solve.specs.Solutions.{IsLeastOf}
use Rattle.ix_labels.specs.Problem.{rules_of, kinds_at}
use Rattle.ix_labels.specs.RunAsks.{EachBrings}
use Rattle.ix_labels.proofs.Visited.{To, edges_are, from_within, join_said, one_more_edge}
use Rattle.ix_facts.specs.Stores.{IsBelow}
use Rattle.ix_store.specs.declared.store.Store.{Store}
use Rattle.ix_store.specs.StoredFacts.{stored}
use Rattle.ix_labels.proofs.problem.Problem.gathered.Goals as goal

pub loop-from-init : goal.loop-from-init
loop-from-init c = (tt, λ other all. subst (λ (s : Store). IsBelow (stored s) other) (sym c.unreachable-joined.ensures.store) tt)

pub run_brought-requires : goal.run_brought-requires
run_brought-requires c =
    let problem = c.args.self.now in
    let are = edges_are problem c.args.at c.index.result.now c.as_slice-from-items.result.now c.requires.node c.index.ensures c.as_slice-from-items.ensures.value in
    record { node = from_within problem c.args.at c.as_slice-from-items.result.now c.loop-from.from-index (0, Next) are c.loop-from-test.true; labels = c.requires.labels }

pub loop-from-preserved : goal.loop-from-preserved
loop-from-preserved c =
    let problem = c.args.self.now in
    let labels = map stored c.args.labels.now in
    one_more_edge problem labels (To problem labels) c.as_slice-from-items.result.now c.loop-from.from-index (0, Next) (stored c.loop-from.joined) (stored c.in_ok-brought.brought) (stored c.in_ok-joined.joined) c.loop-from-test.true
    c.loop-from.invariant c.in_ok-brought.ensures.least (join_said c.loop-from.joined c.in_ok-brought.brought c.in_ok-joined.joined c.in_ok-joined.ensures.least_above c.in_ok-joined.ensures.joined)

pub returns : goal.returns
returns c =
    let problem = c.args.self.now in
    let items = c.as_slice-from-items.result.now in
    let are = edges_are problem c.args.at c.index.result.now items c.requires.node c.index.ensures c.as_slice-from-items.ensures.value in
    let past : length items ≤ c.loop-from.from-index = c.loop-from-test.false in
    record {
      least = subst (λ es. IsLeastOf IsBelow (EachBrings (rules_of problem) (kinds_at problem) (To problem (map stored c.args.labels.now)) es) (stored c.loop-from.joined)) (take_all c.loop-from.from-index items past ∙ are) c.loop-from.invariant;
    }
