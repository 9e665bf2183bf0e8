use Rattle.std.specs.Prelude.{take}
use Rattle.std.proofs.Common.{All, sym, subst, ap, ◌∙◌}
use Rattle.ix_facts.specs.Small.{HasSmallNumbers}
use Rattle.ix_store.proofs.KnownStores.{small_ends}
use Rattle.ix_store.proofs.known_bounds.KnownGroups.ends_on.Goals as goal

pub returns-clause-small : goal.returns-clause-small
returns-clause-small c =
    let known = c.args.self.now in
    subst (λ l. All HasSmallNumbers l) (sym (c.split_at.ensures.front ∙ ap (take known.ends) c.ordered.ensures.orders)) (small_ends known)
