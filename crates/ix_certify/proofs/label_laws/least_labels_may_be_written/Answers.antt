use Rattle.ix_store.proofs.OwnFacts.{own_facts}
use Rattle.ix_certify.proofs.LeastLabels.{one_method, all_methods}
use Rattle.ix_certify.proofs.label_laws.least_labels_may_be_written.Goals as goal

-- src/laws.rt
pub returns : goal.returns
returns c = record { one = one_method own_facts c.labels_are_within.ensures.within; all = all_methods own_facts c.labels_are_within.ensures.within }
