use Rattle.std.proofs.Common.{◌↔◌, IsTrue, subst}
use Rattle.ix_facts.specs.Stores.{Stored}
use Rattle.ix_store.specs.StoredFacts.{stored}
use Rattle.ix_verify.specs.Walking.{rules}
use Rattle.ix_verify.proofs.Labels.{holds_is}
use Rattle.ix_verify.proofs.walk.Walk.holds.Goals as goal

pub returns : goal.returns
returns c =
    let walk = c.args.self.now in
    let joined = stored c.args.joined.now in
    subst (λ (s : Stored). IsTrue c.leq.result ↔ (rules walk).Rounded c.args.scope joined s) c.label.ensures
    (holds_is walk c.requires.walk c.args.scope joined (stored c.in_ok-rounded.rounded) (stored c.label.result.now) c.leq.result c.in_ok-rounded.ensures.after c.leq.ensures.below)
