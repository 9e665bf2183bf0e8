use Rattle.std.proofs.Common.{◌<◌, length, map, arith, subst}
use Rattle.std.proofs.lemmas.Result.{IfOk-weaker}
use Rattle.ix_facts.specs.Stores.{IsBelow}
use Rattle.ix_store.specs.StoredFacts.{stored}
use Rattle.ix_solve.specs.Solutions.{IsLeastOf}
use Rattle.ix_labels.proofs.Visited.{Kept, kept_least, said_there, edge_brings}
use Rattle.ix_labels.proofs.problem.Problem.kept_brought.Goals as goal

pub returns : goal.returns
returns c =
    let problem = c.args.self.now in
    let labels = c.args.labels.now in
    let said = map stored labels in
    let from = c.args.from in
    let label = c.index-labels-from.result in
    let inside : from.0 < length labels = omega (arith, c.requires.node, c.requires.labels) in
    let least = subst (IsLeastOf IsBelow (Kept problem said from.0)) (said_there problem labels from.0 label inside c.index-labels-from.is) (kept_least problem said from.0) in
    record { least = IfOk-weaker c.brought.result _ _ (λ store carried. edge_brings problem said (Kept problem said) from (stored label) (stored store) least carried) c.brought.ensures.least }
