use Rattle.std.proofs.Common.{None, refl, ap}
use Rattle.ix_core.specs.Code.{block_code}
use Rattle.ix_store.specs.StoredFacts.{stored}
use Rattle.ix_verify.specs.Walking.{notes}
use Rattle.ix_verify.proofs.Bodies.{from_nothing, three_joined}
use Rattle.ix_verify.proofs.Stores.{entry_least}
use Rattle.ix_verify.proofs.walk.Walk.body.Goals as goal

pub returns : goal.returns
returns c =
    let walk = c.args.self.now in
    record {
      entry = stored c.in_ok-entry.entry;
      behind = stored c.in_ok-behind.behind;
      found = notes c.block.new.found;
      end = stored c.in_ok-end.end;
      begins = entry_least walk.program.now walk.within.now walk.profile (stored c.in_ok-entry.entry) c.in_ok-entry.ensures.entry;
      nothing = λ error has. has;
      walks = from_nothing walk None (block_code walk.within.now.body) (stored c.in_ok-entry.entry) _ _ _ _ (stored c.in_ok-behind.behind) (notes c.block.new.found)
          (ap stored c.unreachable.ensures.store) (ap stored c.unreachable-2.ensures.store) c.new.ensures.items c.new-2.ensures.items c.in_ok-behind.ensures;
      ends = three_joined walk _ _ _ _ _ c.in_ok-left.ensures c.in_ok-end.ensures;
      is = refl;
      last = c.in_ok-ended.ensures;
    }
