use Rattle.std.proofs.Common.{arith, ◌≡◌, true, [], inr, sym, subst}
use Rattle.std.proofs.lemmas.List.{append-nil}
use Rattle.ix_text.proofs.Chained.{ok_then}
use Rattle.ix_fact_table.specs.Rising.{rises}
use Rattle.ix_fact_table.specs.Walks.{HasBoth}
use Rattle.ix_fact_table.proofs.WalksAlongBoth.{none_left, merging_starts, merging_passed, merging_ends}
use Rattle.ix_fact_table.proofs.walks.merged.Goals as goal

pub loop-other-init : goal.loop-other-init
loop-other-init c = record {
  facts = rw c.in_ok-all.ensures.items (merging_starts c.args.first.now c.args.second.now c.requires.first c.requires.second);
  room = omega (arith, c.in_ok-all.ensures.len, c.in_ok-all.ensures.capacity, c.room.ensures);
}

pub passed-requires : goal.passed-requires
passed-requires c = record { rises = c.loop-other.invariant.facts.mine_rise }

pub add_up_to-mine-requires : goal.add_up_to-mine-requires
add_up_to-mine-requires c = record { room = omega (arith, c.loop-other.invariant.room, c.in-Some.ensures.cases.1, c.in_ok-rest.ensures.len, c.in_ok-rest.ensures.capacity) }

pub loop-other-preserved : goal.loop-other-preserved
loop-other-preserved c =
    let first = c.args.first.now in
    let second = c.args.second.now in
    let other = c.in-Some.other.now in
    let more = c.in-Some.more.now in
    let is = c.in-Some.ensures.cases.0 in
    let past = merging_passed first second c.loop-other.mine.now c.loop-other.theirs.now c.in_ok-rest.rest.now other more c.loop-other.all.items _ is c.in_ok-rest.ensures.run c.loop-other.invariant.facts in
    record {
      facts = c.add_up_to-mine.ensures.merging first second more (rw is at past);
      room = omega (arith, c.loop-other.invariant.room, c.in-Some.ensures.cases.1, c.in_ok-rest.ensures.len, c.in_ok-rest.ensures.capacity, c.add_up_to-mine.ensures.len, c.add_up_to-mine.ensures.capacity);
    }

pub returns : goal.returns
returns c =
    let first = c.args.first.now in
    let second = c.args.second.now in
    let none : c.loop-other.theirs.now ≡ [] = none_left c.loop-other.theirs.now c.in_default.ensures.cases in
    let ends = merging_ends first second c.loop-other.mine.now c.loop-other.theirs.now c.loop-other.all.items (inr none) c.loop-other.invariant.facts in
    let whole = rw (none, append-nil) at ends in
    record {
      both = ok_then c.add_all.result c.add_all.new.all c.and.result _ _ c.and.ensures c.add_all.ensures.items (λ is. subst (HasBoth first second) (sym is) whole.0);
      rises = ok_then c.add_all.result c.add_all.new.all c.and.result _ _ c.and.ensures c.add_all.ensures.items (λ is. subst (λ l. rises l ≡ true) (sym is) whole.1);
    }
