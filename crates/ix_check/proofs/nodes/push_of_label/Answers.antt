use Rattle.std.proofs.Common.{sym, subst}
use Rattle.ix_graph.specs.Built.{kind_of}
use Rattle.ix_errors.specs.Exactly.{AddsExactly}
use Rattle.ix_errors.proofs.Refused.{adds_both}
use Rattle.ix_store.specs.StoredFacts.{stored}
use Rattle.ix_check.specs.NodeErrors.{LabelGives}
use Rattle.ix_check.proofs.Added.{three_ok}
use Rattle.ix_check.proofs.nodes.push_of_label.Goals as goal

pub returns-in-Return : goal.returns-in-Return
returns-in-Return c =
    three_ok c.push_return_errors.result c.push_constructor_errors.result c.and.result c.push_post_errors.result c.and-in-Return.result _ _ _ _ c.and.ensures c.and-in-Return.ensures c.push_return_errors.ensures.errors c.push_constructor_errors.ensures.errors c.push_post_errors.ensures.errors
    (λ one two last. subst (λ k. AddsExactly (LabelGives c.args.program.now c.args.within.now c.args.number (kind_of k) (stored c.args.label.now)) c.args.out.now.items c.push_post_errors.new.out.items) (sym c.in-Return.is)
    (adds_both _ _ _ _ _ one (adds_both _ _ _ _ _ two last)))

pub returns-in-End : goal.returns-in-End
returns-in-End c =
    three_ok c.push_constructor_errors-in-End.result c.push_missing_return.result c.and-in-End.result c.push_post_errors-in-End.result c.and-in-End-2.result _ _ _ _ c.and-in-End.ensures c.and-in-End-2.ensures c.push_constructor_errors-in-End.ensures.errors c.push_missing_return.ensures.errors c.push_post_errors-in-End.ensures.errors
    (λ one two last. subst (λ k. AddsExactly (LabelGives c.args.program.now c.args.within.now c.args.number (kind_of k) (stored c.args.label.now)) c.args.out.now.items c.push_post_errors-in-End.new.out.items) (sym c.in-End.is)
    (adds_both _ _ _ _ _ one (adds_both _ _ _ _ _ two last)))
