use Rattle.std.proofs.Common.{◌++◌, ap, ◌∙◌}
use Rattle.ix_text.proofs.Chained.{ok_then}
use Rattle.ix_facts.specs.Facts.{in_orders}
use Rattle.ix_facts.specs.AfterTest as rule
use Rattle.ix_facts.specs.Closure.{kept}
use Rattle.ix_facts.proofs.Members.{same_equal, same_trans}
use Rattle.ix_test_facts.specs.OverGroups as over
use Rattle.ix_test_facts.proofs.OutcomeIs.{outcome_same}
use Rattle.ix_test_facts.proofs.facts.facts_of_outcome.Goals as goal

pub returns : goal.returns
returns g c =
    let facts = in_orders (g.K.Know.known c.args.know.now) in
    let on = g.K.Indexed.on_path c.args.know.now in
    let told = over.outcome_of c.args.outcome.now in
    record {
      facts = ok_then c.push_outcome.result c.push_outcome.new.out c.and.result _ _ c.and.ensures c.push_outcome.ensures
          (λ is.
          same_trans c.push_outcome.new.out.items (over.outcome_facts facts on told) (kept (rule.outcome_facts facts told)) (same_equal _ _ (is ∙ ap (λ l. l ++ over.outcome_facts facts on told) c.in_ok-new.ensures.items))
          (outcome_same facts on (g.met.K.Indexed.each_named c.args.know.now) told));
    }
