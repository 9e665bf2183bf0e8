use Rattle.std.proofs.Common.{map}
use Rattle.std.proofs.lemmas.Result.{IfOk-weaker}
use Rattle.ix_store.specs.StoredFacts.{stored}
use Rattle.ix_labels.proofs.Visited.{To, edge_brings}
use Rattle.ix_labels.proofs.problem.Problem.run_brought.Goals as goal

pub returns : goal.returns
returns c =
    let problem = c.args.self.now in
    let said = map stored c.args.labels.now in
    record {
      least = IfOk-weaker c.brought.result _ _
          (λ store carried. edge_brings problem said (To problem said) c.args.from (stored c.in_ok-before.before) (stored store) c.in_ok-before.ensures.least carried) c.brought.ensures.least;
    }
