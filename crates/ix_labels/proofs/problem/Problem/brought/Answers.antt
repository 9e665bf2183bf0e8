use Rattle.std.proofs.Common.{ap, sym, subst, ◌∙◌, true, false}
use Rattle.std.proofs.lemmas.Result.{IfOk-weaker}
use Rattle.ix_core.specs.Code.{block_code}
use Rattle.ix_graph.specs.Graph.{Compares, Tells}
use Rattle.ix_graph.specs.Brought.{pass_of}
use Rattle.ix_graph.specs.Built.{kind_of}
use Rattle.ix_signatures.specs.Signs.{Adds, IsLeastOf, told_facts}
use Rattle.ix_store.specs.declared.store.Store.{Store}
use Rattle.ix_store.specs.StoredFacts.{stored}
use Rattle.ix_labels.specs.Problem.{kinds_at}
use Rattle.ix_labels.proofs.Visited.{kind_found, IsCarried, tested_least, tells_least, same_least}
use Rattle.ix_labels.proofs.problem.Problem.brought.Goals.{in_default-via-in-Compare+in_default, in_default-via-in-Truth+in_default, in_default-via-in_default}
use Rattle.ix_labels.proofs.problem.Problem.brought.Goals as goal

pub returns-in-Compare-WhenTrue : goal.returns-in-Compare-WhenTrue
returns-in-Compare-WhenTrue c =
    let problem = c.args.self.now in
    let kind = kind_found problem.graph.nodes.items c.args.from.0 c.index.result.now c.requires.node c.index.ensures ∙ ap kind_of c.in-Compare-WhenTrue.is-0 in
    let pass = ap (λ k. pass_of k c.args.from.1) kind ∙ ap (pass_of (Compares c.in-Compare-WhenTrue.test.now)) c.in-Compare-WhenTrue.is-1 in
    record {
      least = IfOk-weaker c.branch-alloc.result _ _
          (λ after tested. subst (λ p. IsCarried problem p (stored c.args.label.now) (stored after)) (sym pass) (tested_least problem true c.in-Compare-WhenTrue.test.now (stored c.args.label.now) (stored after) tested)) c.branch-alloc.ensures.tested;
    }

pub returns-in-Compare-WhenFalse : goal.returns-in-Compare-WhenFalse
returns-in-Compare-WhenFalse c =
    let problem = c.args.self.now in
    let kind = kind_found problem.graph.nodes.items c.args.from.0 c.index.result.now c.requires.node c.index.ensures ∙ ap kind_of c.in-Compare-WhenFalse.is-0 in
    let pass = ap (λ k. pass_of k c.args.from.1) kind ∙ ap (pass_of (Compares c.in-Compare-WhenFalse.test.now)) c.in-Compare-WhenFalse.is-1 in
    record {
      least = IfOk-weaker c.branch-alloc-in-Compare-WhenFalse.result _ _
          (λ after tested. subst (λ p. IsCarried problem p (stored c.args.label.now) (stored after)) (sym pass) (tested_least problem false c.in-Compare-WhenFalse.test.now (stored c.args.label.now) (stored after) tested)) c.branch-alloc-in-Compare-WhenFalse.ensures.tested;
    }

pub returns-in_default : goal.returns-in_default
returns-in_default c =
    let problem = c.args.self.now in
    let kind = kind_found problem.graph.nodes.items c.args.from.0 c.index.result.now c.requires.node c.index.ensures in
    let label = stored c.args.label.now in
    elim c.in_default.branch [
      | in_default-via-in-Compare+in_default w ↦ record {
        least = IfOk-weaker c.share.result _ _
            (λ after is. subst (λ (s : Store). IsCarried problem (pass_of (kinds_at problem c.args.from.0) c.args.from.1) label (stored s)) (sym is) (subst (λ k. IsCarried problem (pass_of k c.args.from.1) label label) (sym kind)
            (same_least problem c.index.result.now.kind c.args.from.1 label w.in_default.not-Do-0 (λ test found. w.in_default.is-1) (λ block slot found. w.in_default.is-1)))) c.share.ensures.shared;
      }
      | in_default-via-in-Truth+in_default w ↦ record {
        least = IfOk-weaker c.share.result _ _
            (λ after is. subst (λ (s : Store). IsCarried problem (pass_of (kinds_at problem c.args.from.0) c.args.from.1) label (stored s)) (sym is) (subst (λ k. IsCarried problem (pass_of k c.args.from.1) label label) (sym kind)
            (same_least problem c.index.result.now.kind c.args.from.1 label w.in_default.not-Do-0 (λ test found. w.in_default.is-1) (λ block slot found. w.in_default.is-1)))) c.share.ensures.shared;
      }
      | in_default-via-in_default w ↦ record {
        least = IfOk-weaker c.share.result _ _
            (λ after is. subst (λ (s : Store). IsCarried problem (pass_of (kinds_at problem c.args.from.0) c.args.from.1) label (stored s)) (sym is) (subst (λ k. IsCarried problem (pass_of k c.args.from.1) label label) (sym kind)
            (same_least problem c.index.result.now.kind c.args.from.1 label w.in_default.not-Do-0 (λ test found. absurd (w.in_default.not-Compare-0 test found)) (λ block slot found. absurd (w.in_default.not-Truth-0 block slot found))))) c.share.ensures.shared;
      }
    ]

pub returns-in-Truth-WhenTrue : goal.returns-in-Truth-WhenTrue
returns-in-Truth-WhenTrue c =
    let problem = c.args.self.now in
    let block = block_code c.in-Truth-WhenTrue.block.now in
    let slot = c.in-Truth-WhenTrue.slot in
    let kind = kind_found problem.graph.nodes.items c.args.from.0 c.index.result.now c.requires.node c.index.ensures ∙ ap kind_of c.in-Truth-WhenTrue.is-0 in
    let pass = ap (λ k. pass_of k c.args.from.1) kind ∙ ap (pass_of (Tells block slot)) c.in-Truth-WhenTrue.is-1 in
    record {
      least = IfOk-weaker c.tell.result _ _
          (λ after least. subst (λ p. IsCarried problem p (stored c.args.label.now) (stored after)) (sym pass)
          (tells_least problem true block slot (stored c.args.label.now) (stored after)
          (subst (λ o. IsLeastOf (Adds (told_facts problem.program.now o slot true)) (stored c.args.label.now) (stored after)) c.last_op.ensures least))) c.tell.ensures.least;
    }

pub returns-in-Truth-WhenFalse : goal.returns-in-Truth-WhenFalse
returns-in-Truth-WhenFalse c =
    let problem = c.args.self.now in
    let block = block_code c.in-Truth-WhenFalse.block.now in
    let slot = c.in-Truth-WhenFalse.slot in
    let kind = kind_found problem.graph.nodes.items c.args.from.0 c.index.result.now c.requires.node c.index.ensures ∙ ap kind_of c.in-Truth-WhenFalse.is-0 in
    let pass = ap (λ k. pass_of k c.args.from.1) kind ∙ ap (pass_of (Tells block slot)) c.in-Truth-WhenFalse.is-1 in
    record {
      least = IfOk-weaker c.tell-in-Truth-WhenFalse.result _ _
          (λ after least. subst (λ p. IsCarried problem p (stored c.args.label.now) (stored after)) (sym pass)
          (tells_least problem false block slot (stored c.args.label.now) (stored after)
          (subst (λ o. IsLeastOf (Adds (told_facts problem.program.now o slot false)) (stored c.args.label.now) (stored after)) c.last_op-in-Truth-WhenFalse.ensures least))) c.tell-in-Truth-WhenFalse.ensures.least;
    }
