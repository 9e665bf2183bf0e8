use Rattle.std.proofs.Common.{◌≡◌, ap, sym, subst, ◌∙◌}
use Rattle.std.specs.Result.{OnOk}
use Rattle.ix_fact_paths.specs.ByPath.{at_paths, at_three, Adds}
use Rattle.ix_fact_paths.proofs.by_slot.Places.put_fact.Goals as goal

pub returns-in-Sum : goal.returns-in-Sum
returns-in-Sum c =
    let put = at_three c.in-Sum.t c.in-Sum.y c.in-Sum.z in
    let is : put c.args.fact.now ≡ at_paths c.args.fact.now = ap put c.in-Sum.is ∙ sym (ap at_paths c.in-Sum.is) in
    subst (λ entries. OnOk c.put_three.result (Adds c.args.self.now c.put_three.new.self entries)) is c.put_three.ensures
