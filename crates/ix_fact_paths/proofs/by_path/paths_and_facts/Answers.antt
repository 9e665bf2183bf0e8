use Rattle.std.proofs.Common.{refl, arith}
use Rattle.ix_text.proofs.Walked.{next_or, none_left}
use Rattle.ix_fact_paths.specs.ByPath.{paths_in, facts_in}
use Rattle.ix_fact_paths.proofs.by_path.paths_and_facts.Goals as goal

pub loop-entry-preserved : goal.loop-entry-preserved
loop-entry-preserved c =
    let so_far = c.loop-entry.invariant in
    record {
      paths = next_or (λ _. paths_in) c.args.entries.now c.loop-entry.entry-index _ _ _ _ _ c.loop-entry-test.true (λ rest. refl) c.push_reserved.ensures.items so_far.paths;
      facts = next_or (λ _. facts_in) c.args.entries.now c.loop-entry.entry-index _ _ _ _ _ c.loop-entry-test.true (λ rest. refl) c.push_reserved-in-loop-entry.ensures.items so_far.facts;
      paths_short = omega (arith, c.push_reserved.ensures.len, so_far.paths_short);
      facts_short = omega (arith, c.push_reserved-in-loop-entry.ensures.len, so_far.facts_short);
      paths_room = omega (arith, c.push_reserved.ensures.capacity, so_far.paths_room);
      facts_room = omega (arith, c.push_reserved-in-loop-entry.ensures.capacity, so_far.facts_room);
    }

pub returns : goal.returns
returns c = record {
  paths = none_left (λ _. paths_in) c.args.entries.now c.loop-entry.entry-index _ _ c.loop-entry-test.false refl c.loop-entry.invariant.paths;
  facts = none_left (λ _. facts_in) c.args.entries.now c.loop-entry.entry-index _ _ c.loop-entry-test.false refl c.loop-entry.invariant.facts;
}
