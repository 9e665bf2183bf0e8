use Rattle.std.proofs.Common.{pos, refl}
use Rattle.ix_num.specs.Ints.{least_int, greatest_int}
use Rattle.ix_facts.specs.Bounds.{range_low_by, range_high_by, length_low_by, length_high_by, range_low, range_high, length_low, length_high}
use Rattle.ix_fact_list.proofs.NearRaised.{rising_at_first, falling_at_first, rises, falls, risen, fallen}
use Rattle.ix_fact_list.proofs.NearCopied.{ready_none}
use Rattle.ix_fact_list.proofs.limits.NearEnds.of.Goals as goal

pub loop-fact-init : goal.loop-fact-init
loop-fact-init c =
    let facts = c.args.facts.now in
    record {
      lows = rising_at_first range_low_by (range_low facts) _ least_int facts c.in_ok-lows.ensures (λ p. refl);
      highs = falling_at_first range_high_by (range_high facts) _ greatest_int facts c.in_ok-highs.ensures (λ p. refl);
      length_lows = rising_at_first length_low_by (length_low facts) _ (pos 0) facts c.in_ok-length_lows.ensures (λ p. refl);
      length_highs = falling_at_first length_high_by (length_high facts) _ greatest_int facts c.in_ok-length_highs.ensures (λ p. refl);
    }

pub loop-fact-preserved : goal.loop-fact-preserved
loop-fact-preserved c =
    let facts = c.args.facts.now in
    let k = c.loop-fact.fact-index in
    let old = c.loop-fact.ends in
    let new = c.put.new.self in
    let put = c.in_ok-put.ensures in
    let more = c.loop-fact-test.true in
    record {
      lows = rises range_low_by (range_low facts) old.lows.items new.lows.items least_int facts k _ more put.lows c.loop-fact.invariant.lows;
      highs = falls range_high_by (range_high facts) old.highs.items new.highs.items greatest_int facts k _ more put.highs c.loop-fact.invariant.highs;
      length_lows = rises length_low_by (length_low facts) old.length_lows.items new.length_lows.items (pos 0) facts k _ more put.length_lows c.loop-fact.invariant.length_lows;
      length_highs = falls length_high_by (length_high facts) old.length_highs.items new.length_highs.items greatest_int facts k _ more put.length_highs c.loop-fact.invariant.length_highs;
    }

pub no_numbers-requires-clause-ready : goal.no_numbers-requires-clause-ready
no_numbers-requires-clause-ready c = λ at. ready_none 128 least_int at

pub no_numbers-requires-2-clause-ready : goal.no_numbers-requires-2-clause-ready
no_numbers-requires-2-clause-ready c = λ at. ready_none 128 greatest_int at

pub no_numbers-requires-3-clause-ready : goal.no_numbers-requires-3-clause-ready
no_numbers-requires-3-clause-ready c = λ at. ready_none 128 (pos 0) at

pub no_numbers-requires-4-clause-ready : goal.no_numbers-requires-4-clause-ready
no_numbers-requires-4-clause-ready c = λ at. ready_none 128 greatest_int at

pub returns : goal.returns
returns c =
    let facts = c.args.facts.now in
    let k = c.loop-fact.fact-index in
    let ends = c.loop-fact.ends in
    let past = c.loop-fact-test.false in
    let all = c.loop-fact.invariant in
    record {
      lows = risen range_low_by (range_low facts) ends.lows.items least_int facts k past all.lows;
      highs = fallen range_high_by (range_high facts) ends.highs.items greatest_int facts k past all.highs;
      length_lows = risen length_low_by (length_low facts) ends.length_lows.items (pos 0) facts k past all.length_lows;
      length_highs = fallen length_high_by (length_high facts) ends.length_highs.items greatest_int facts k past all.length_highs;
    }
