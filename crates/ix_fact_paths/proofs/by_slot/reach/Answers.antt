use Rattle.std.proofs.Common.{[], ◌∷◌, ◌++◌, get_or, arith, ap, ◌∙◌}
use Rattle.ix_fact_paths.proofs.Added.{none_behind}
use Rattle.ix_fact_paths.proofs.by_slot.reach.Goals as goal

pub loop-preserved : goal.loop-preserved
loop-preserved c =
    let near = c.loop.near.items in
    record {
      long = omega (arith, c.push_reserved.ensures.len, c.loop.invariant.long);
      room = omega (arith, c.push_reserved.ensures.capacity, c.loop.invariant.room);
      same = λ at. ap (λ l. get_or l at []) (c.push_reserved.ensures.items ∙ ap (λ facts. near ++ facts ∷ []) c.new.ensures) ∙ (none_behind near at ∙ c.loop.invariant.same at);
    }
