use Rattle.std.proofs.Common.{slice_index_or, pos, subst}
use Rattle.ix_num.specs.Ints.{least_int, greatest_int}
use Rattle.ix_core.specs.declared.fact.Path.TheVariants.{Slot}
use Rattle.ix_core.specs.declared.fact.Fact.TheVariants.{Rng}
use Rattle.ix_facts.specs.Bounds.{range_low, range_high, lower_by, lower_bound, limit_by, upper_limit}
use Rattle.ix_fact_list.specs.NearNumbers.{Raises, Lowers}
use Rattle.ix_fact_list.proofs.NearRaised.{limit_of_end, least_small, greatest_small, range_low_small, range_high_small, rises, falls, risen, fallen}
use Rattle.ix_fact_list.proofs.NearCopied.{near_small, rising_at_ends, falling_at_ends}
use Rattle.ix_fact_list.proofs.limits.Limits.of.Goals as goal

pub loop-fact-init : goal.loop-fact-init
loop-fact-init g c =
    let facts = c.args.facts.now in
    let ends = c.args.ends.now in
    rw (c.in_ok-lows.ensures, c.in_ok-highs.ensures, c.deref.ensures.value, c.deref-2.ensures.value) (record {
      lows = rising_at_ends facts ends.lows.items c.requires.ends.lows;
      highs = falling_at_ends facts ends.highs.items c.requires.ends.highs;
      small_lows = near_small ends.lows.items least_int (range_low facts) c.requires.ends.lows (λ p. limit_of_end (range_low facts p) (range_low_small facts p c.requires.small)) (limit_of_end least_int least_small);
      small_highs = near_small ends.highs.items greatest_int (range_high facts) c.requires.ends.highs (λ p. limit_of_end (range_high facts p) (range_high_small facts p c.requires.small)) (limit_of_end greatest_int greatest_small);
    })

pub loop-fact-preserved : goal.loop-fact-preserved
loop-fact-preserved g c =
    let facts = c.args.facts.now in
    let k = c.loop-fact.fact-index in
    let all = c.requires.all in
    let none = Rng (Slot 0) (pos 0) (pos 0) in
    let fact = slice_index_or facts k none in
    let more = c.loop-fact-test.true in
    let both = c.in_ok-put.ensures in
    record {
      lows = rises (lower_by facts) (lower_bound facts) c.loop-fact.lows.items c.put.new.lows.items least_int facts k none more (subst (λ a. Raises c.loop-fact.lows.items c.put.new.lows.items least_int (λ p. lower_by a p fact)) all both.raised) c.loop-fact.invariant.lows;
      highs = falls (limit_by facts) (upper_limit facts) c.loop-fact.highs.items c.put.new.highs.items greatest_int facts k none more (subst (λ a. Lowers c.loop-fact.highs.items c.put.new.highs.items greatest_int (λ p. limit_by a p fact)) all both.lowered) c.loop-fact.invariant.highs;
      small_lows = both.small_lows c.loop-fact.invariant.small_lows;
      small_highs = both.small_highs c.loop-fact.invariant.small_highs;
    }

pub returns : goal.returns
returns g c =
    let facts = c.args.facts.now in
    let k = c.loop-fact.fact-index in
    let past = c.loop-fact-test.false in
    let all = c.loop-fact.invariant in
    record {
      limits = record {
        lows = risen (lower_by facts) (lower_bound facts) c.loop-fact.lows.items least_int facts k past all.lows;
        highs = fallen (limit_by facts) (upper_limit facts) c.loop-fact.highs.items greatest_int facts k past all.highs;
        small_lows = all.small_lows;
        small_highs = all.small_highs;
      };
    }
