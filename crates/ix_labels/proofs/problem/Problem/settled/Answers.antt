use Rattle.std.proofs.Common.{ap, sym, subst, ◌∙◌}
use Rattle.std.proofs.lemmas.Result.{IfOk-weaker}
use Rattle.ix_graph.specs.Brought.{IsSettled}
use Rattle.ix_graph.specs.Built.{kind_of}
use Rattle.ix_store.specs.StoredFacts.{stored}
use Rattle.ix_labels.specs.Problem.{rules_of}
use Rattle.ix_labels.proofs.Visited.{kind_found, entered, headed, as_joined}
use Rattle.ix_labels.proofs.problem.Problem.settled.Goals as goal

pub returns-in-Entry : goal.returns-in-Entry
returns-in-Entry c =
    let problem = c.args.self.now in
    let kind = kind_found problem.graph.nodes.items c.args.at c.index.result.now c.requires.node c.index.ensures ∙ ap kind_of c.in-Entry.is in
    record {
      settled = IfOk-weaker c.enter.result _ _
          (λ label is. subst (λ k. IsSettled (rules_of problem) k (stored c.args.joined.now) (stored label)) (sym kind) (entered problem (stored c.args.joined.now) (stored label) is)) c.enter.ensures.entry;
    }

pub returns-in-Head : goal.returns-in-Head
returns-in-Head c =
    let problem = c.args.self.now in
    let kind = kind_found problem.graph.nodes.items c.args.at c.index.result.now c.requires.node c.index.ensures ∙ ap kind_of c.in-Head.is in
    record {
      settled = IfOk-weaker c.round.result _ _
          (λ label is. subst (λ k. IsSettled (rules_of problem) k (stored c.args.joined.now) (stored label)) (sym kind) (headed problem c.in-Head.field-0 c.in-Head.scope (stored c.args.joined.now) (stored label) is)) c.round.ensures.after;
    }

pub returns-in_default : goal.returns-in_default
returns-in_default c =
    let problem = c.args.self.now in
    let kind = kind_found problem.graph.nodes.items c.args.at c.index.result.now c.requires.node c.index.ensures in
    record {
      settled = IfOk-weaker c.share.result _ _
          (λ label is. subst (λ k. IsSettled (rules_of problem) k (stored c.args.joined.now) (stored label)) (sym kind)
          (as_joined problem c.index.result.now.kind (stored c.args.joined.now) (stored label) c.in_default.not-Entry c.in_default.not-Head (ap stored is))) c.share.ensures.shared;
    }
