use Rattle.std.proofs.Common.{◌<◌, length, Some, arith, sym, ap, ◌∙◌}
use Rattle.std.proofs.lemmas.Bool.{false≢true}
use Rattle.std.proofs.lemmas.Option.{slice_get_read}
use Rattle.std.proofs.lemmas.Result.{IfOk-weaker}
use Rattle.ix_labels.specs.Problem.{kept_in}
use Rattle.ix_labels.specs.Filled.{nodes_of}
use Rattle.ix_labels.proofs.KeptNodes.{kept_read}
use Rattle.ix_labels.proofs.kept.RunLabels.label.Goals as goal

pub returns-then-index : goal.returns-then-index
returns-then-index c =
    let labels = c.args.self.now in
    let all = labels.problem.through.all in
    let within : c.args.at < length (kept_in labels.problem) = omega (arith, c.requires, all) in
    let holds = kept_read (kept_in labels.problem) c.args.at c.index.result.now within c.index.ensures ∙ c.if-index.true in
    let many = labels.all in
    let found = slice_get_read labels.stores.items (length (nodes_of labels)) c.args.at c.index-then-index.result.now (sym many) c.requires c.index-then-index.ensures in
    IfOk-weaker c.share.result _ _
    (λ store is. record { kept = λ _. found ∙ ap Some (sym is); passed = λ fails. absurd (false≢true (sym fails ∙ holds)) }) c.share.ensures.shared

pub returns-else-index : goal.returns-else-index
returns-else-index c =
    let labels = c.args.self.now in
    let all = labels.problem.through.all in
    let within : c.args.at < length (kept_in labels.problem) = omega (arith, c.requires, all) in
    let fails = kept_read (kept_in labels.problem) c.args.at c.index.result.now within c.index.ensures ∙ c.if-index.false in
    IfOk-weaker c.made.result _ _ (λ store is. record { kept = λ holds. absurd (false≢true (sym fails ∙ holds)); passed = λ _. is }) c.made.ensures
