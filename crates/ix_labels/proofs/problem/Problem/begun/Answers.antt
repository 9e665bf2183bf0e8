use Rattle.std.proofs.Common.{◌<◌, length, map, arith, sym, ap, subst, ◌∙◌}
use Rattle.std.proofs.lemmas.Result.{IfOk-weaker}
use Rattle.ix_facts.specs.Stores.{IsBelow}
use Rattle.ix_store.specs.StoredFacts.{stored}
use Rattle.ix_solve.specs.Solutions.{IsLeastOf}
use Rattle.ix_labels.specs.Problem.{kept_in}
use Rattle.ix_labels.proofs.KeptNodes.{kept_read}
use Rattle.ix_labels.proofs.Visited.{To, run_kept, run_first, said_there}
use Rattle.ix_labels.proofs.problem.Problem.begun.Goals as goal

pub returns-then-index : goal.returns-then-index
returns-then-index c =
    let problem = c.args.self.now in
    let labels = c.args.labels.now in
    let all = problem.through.all in
    let within : c.args.at < length (kept_in problem) = omega (arith, c.requires.node, all) in
    let holds = kept_read (kept_in problem) c.args.at c.index.result.now within c.index.ensures ∙ c.if-index.true in
    let inside : c.args.at < length labels = omega (arith, c.requires.node, c.requires.labels) in
    let there = said_there problem labels c.args.at c.index-labels-at.result inside c.index-labels-at.is in
    record {
      least = IfOk-weaker c.share.result _ _
          (λ store is. subst (IsLeastOf IsBelow (To problem (map stored labels) c.args.at)) (there ∙ ap stored (sym is)) (run_kept problem (map stored labels) c.args.at holds)) c.share.ensures.shared;
    }

pub returns-else-index : goal.returns-else-index
returns-else-index c =
    let problem = c.args.self.now in
    let all = problem.through.all in
    let within : c.args.at < length (kept_in problem) = omega (arith, c.requires.node, all) in
    let fails = kept_read (kept_in problem) c.args.at c.index.result.now within c.index.ensures ∙ c.if-index.false in
    record {
      least = IfOk-weaker c.gathered_first.result _ _
          (λ store least. run_first problem (map stored c.args.labels.now) c.args.at (stored store) c.requires.node fails c.requires.begins least) c.gathered_first.ensures.least;
    }
