use Rattle.std.proofs.Common.{◌∙◌, subst}
use Rattle.std.specs.Prelude.{◌≡◌, All}
use Rattle.ix_facts.specs.Small.{HasSmallNumbers}
use Rattle.ix_facts.specs.Facts.{in_orders}
use Rattle.ix_facts.specs.SameFacts.{AreSame}
use Rattle.ix_systems.proofs.KnownClasses.{copy_new, copy_is}
use Rattle.ix_systems.proofs.after.new_facts_of_copy.Goals as goal

pub returns : goal.returns
returns g c =
    let known = g.K.Know.known c.args.know.now in
    let t = c.args.target.now in
    let s = c.args.source.now in
    let list_is : c.in_ok-list.list ≡ known = c.in_ok-list.ensures.facts ∙ c.in_ok-facts.ensures.facts in
    let small : All HasSmallNumbers known = subst (λ l. All HasSmallNumbers l) c.in_ok-facts.ensures.facts c.in_ok-facts.ensures.small in
    let same : AreSame c.in_ok-new.new.items (copy_new (in_orders known) c.args.ty.now t s) = subst (λ l. AreSame c.in_ok-new.new.items (copy_new (in_orders l) c.args.ty.now t s)) list_is c.in_ok-new.ensures.facts in
    let is = copy_is known c.args.ty.now t s c.in_ok-new.new.items c.requires.beside small same in
    record { facts = is.0; classes = is.1 }
