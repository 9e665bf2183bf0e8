use Rattle.std.specs.Prelude.{IfOk}
use Rattle.std.proofs.Common.{subst}
use Rattle.ix_facts.specs.SameFacts.{AreSame}
use Rattle.ix_store.specs.NewFacts.{copy_new}
use Rattle.ix_store.specs.StoredFacts.{facts_in}
use Rattle.ix_store.proofs.known.Known.copy.Goals as goal

pub returns : goal.returns
returns c = record {
  facts = subst (λ k. IfOk c.facts_of_copy-2.result (λ new. AreSame new.items (copy_new (facts_in k) c.args.ty.now c.args.target.now c.args.source.now))) c.in_ok-limited.ensures.facts c.facts_of_copy-2.ensures.facts;
}
