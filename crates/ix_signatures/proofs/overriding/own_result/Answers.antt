use Rattle.std.proofs.Common.{◌++◌, ap, ◌∙◌}
use Rattle.ix_text.proofs.Chained.{both_ok, ok_then}
use Rattle.ix_core.specs.declared.fact.Path.TheVariants.{Slot}
use Rattle.ix_rules_hold.specs.MachineSteps.{own_path}
use Rattle.ix_signatures.specs.Signs.{received, claims_facts}
use Rattle.ix_signatures.proofs.overriding.own_result.Goals as goal

pub returns : goal.returns
returns c =
    let method = c.args.method.now in
    let at = Slot c.result_slot.result in
    let first = received method.result at in
    ok_then c.and.result c.push_claims.new.out c.and-2.result _ _ c.and-2.ensures
    (both_ok c.push_received.result c.push_claims.result c.and.result _ _ _ c.and.ensures c.push_received.ensures c.push_claims.ensures
    (λ one two.
    two
    ∙ (ap (λ l. l ++ claims_facts (own_path method) at c.as_slice.result.now) (one ∙ ap (λ l. l ++ first) c.new-facts.ensures.items)
    ∙ (ap (λ l. first ++ claims_facts (own_path method) at l) c.as_slice.ensures ∙ ap (λ n. received method.result (Slot n) ++ claims_facts (own_path method) (Slot n) method.result_claims) c.result_slot.ensures))))
    (λ all. all)
