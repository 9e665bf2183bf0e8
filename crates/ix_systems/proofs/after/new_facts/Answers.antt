use Rattle.std.proofs.Common.{◌∙◌, subst}
use Rattle.std.specs.Prelude.{◌≡◌, All}
use Rattle.ix_facts.specs.Small.{HasSmallNumbers}
use Rattle.ix_facts.specs.Facts.{in_orders}
use Rattle.ix_facts.specs.SameFacts.{AreSame}
use Rattle.ix_systems.proofs.KnownClasses.{after_new, new_is}
use Rattle.ix_systems.proofs.after.new_facts.Goals as goal

pub returns : goal.returns
returns g c =
    let known = g.K.Know.known c.args.know.now in
    let list_is : c.in_ok-list.list ≡ known = c.in_ok-list.ensures.facts ∙ c.in_ok-facts.ensures.facts in
    let small : All HasSmallNumbers known = subst (λ l. All HasSmallNumbers l) c.in_ok-facts.ensures.facts c.in_ok-facts.ensures.small in
    let same : AreSame c.in_ok-new.new.items (after_new (in_orders known) c.args.profile c.args.kind.now) = subst (λ l. AreSame c.in_ok-new.new.items (after_new (in_orders l) c.args.profile c.args.kind.now)) list_is c.in_ok-new.ensures.facts in
    let is = new_is known c.args.kind.now c.args.profile c.in_ok-new.new.items c.requires.beside small same in
    record { facts = is.0; classes = is.1 }
