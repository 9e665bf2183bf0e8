use Rattle.std.proofs.Common.{ap, sym, subst, ◌∙◌}
use Rattle.std.proofs.lemmas.Result.{IfOk-weaker}
use Rattle.ix_facts.specs.Forget.{without}
use Rattle.ix_facts.specs.Round.{is_beyond}
use Rattle.ix_facts.specs.Systems.{HaveClasses, system_rounded}
use Rattle.ix_store.proofs.RoundedClasses.{rounded_classes}
use Rattle.ix_store.proofs.SmallNumbers.{all_classes}
use Rattle.ix_store.specs.StoredFacts.{facts_in}
use Rattle.ix_store.proofs.known.Known.rounded.Goals as goal

pub returns-clause-facts : goal.returns-clause-facts
returns-clause-facts c =
    let within = c.deref.ensures.value ∙ (c.in_ok-within.ensures ∙ ap (without (is_beyond c.args.scope)) c.as_slice.ensures.facts) in
    IfOk-weaker c.rounded_facts.result _ _ (λ facts is. is ∙ ap (system_rounded c.args.marks.now) within) c.rounded_facts.ensures.facts

pub returns-clause-classes : goal.returns-clause-classes
returns-clause-classes c =
    let marks = c.args.marks.now in
    let known = c.args.self.now in
    let within = c.deref.ensures.value ∙ (c.in_ok-within.ensures ∙ ap (without (is_beyond c.args.scope)) c.as_slice.ensures.facts) in
    IfOk-weaker c.rounded_facts.result _ _
    (λ facts is. subst HaveClasses (sym (is ∙ ap (system_rounded marks) within)) (rounded_classes marks c.args.scope (facts_in known) (all_classes known.table)))
    c.rounded_facts.ensures.facts
