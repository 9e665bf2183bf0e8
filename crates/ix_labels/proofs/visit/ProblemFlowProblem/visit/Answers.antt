use Rattle.std.proofs.Common.{◌<◌, length, map, arith, ap, ◌∙◌}
use Rattle.std.proofs.lemmas.Result.{IfOk-weaker}
use Rattle.ix_store.specs.StoredFacts.{stored}
use Rattle.ix_labels.specs.Problem.{kept_in}
use Rattle.ix_labels.proofs.KeptNodes.{kept_read}
use Rattle.ix_labels.proofs.Visited.{label_asked, passed_asked}
use Rattle.ix_labels.proofs.visit.ProblemFlowProblem.visit.Goals as goal

pub returns-clause-value : goal.returns-clause-value
returns-clause-value c e =
    let problem = e.args.self.now in
    let all = problem.through.all in
    let many = problem.through.many in
    let within : e.args.at < length (kept_in problem) = omega (arith, e.requires.at, all, many) in
    let holds = kept_read (kept_in problem) e.args.at e.index.result.now within e.index.ensures ∙ e.if-not-index.false in
    IfOk-weaker e.settled.result _ _
    (λ label is. label_asked problem (map stored e.args.labels.now) e.args.at (stored e.in_ok-joined.joined) (stored label) holds e.in_ok-joined.ensures.least is) e.settled.ensures.settled

pub returns-then-not-index-clause-value : goal.returns-then-not-index-clause-value
returns-then-not-index-clause-value c e =
    let problem = e.args.self.now in
    let all = problem.through.all in
    let many = problem.through.many in
    let within : e.args.at < length (kept_in problem) = omega (arith, e.requires.at, all, many) in
    let passed = kept_read (kept_in problem) e.args.at e.index.result.now within e.index.ensures ∙ e.if-not-index.true in
    passed_asked problem (map stored e.args.labels.now) e.args.at (stored e.unreachable.result) passed (ap stored e.unreachable.ensures.store)
