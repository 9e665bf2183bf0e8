use Rattle.std.proofs.Common.{sym, subst}
use Rattle.ix_graph.specs.Built.{kind_of}
use Rattle.ix_sign.specs.RuleErrors.{AssignsNamed, OpEscapes}
use Rattle.ix_errors.specs.Exactly.{AddsExactly}
use Rattle.ix_signatures.specs.SignErrors.{EffectWrite}
use Rattle.ix_errors.proofs.Refused.{adds_both}
use Rattle.ix_check.specs.NodeErrors.{TextGives}
use Rattle.ix_check.proofs.Added.{three_ok}
use Rattle.ix_check.proofs.nodes.push_of_text.Goals as goal

pub returns-in-Do : goal.returns-in-Do
returns-in-Do c =
    let method = c.args.within.now in
    let done = c.in-Do.done.now in
    three_ok c.push_effect_error.result c.push_assigned_parameter.result c.and.result c.push_escapes_of.result c.and-in-Do.result _ _ _ _ c.and.ensures c.and-in-Do.ensures
    c.push_effect_error.ensures.errors c.push_assigned_parameter.ensures.errors c.push_escapes_of.ensures.errors
    (λ one two last. subst (λ k. AddsExactly (TextGives c.args.program.now method (kind_of k)) c.args.out.now.items c.push_escapes_of.new.out.items) (sym c.in-Do.is)
    (adds_both (EffectWrite c.args.program.now method done) _ _ _ _ one (adds_both (AssignsNamed method done) (OpEscapes method done) _ _ _ two last)))
