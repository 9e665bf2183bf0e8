use Rattle.std.proofs.Common.{pos, ap, sym, ◌∙◌}
use Rattle.std.proofs.lemmas.List.{drop_all}
use Rattle.ix_core.specs.declared.fact.Path.TheVariants.{Slot}
use Rattle.ix_core.specs.declared.fact.Fact.TheVariants.{Rng}
use Rattle.ix_fact_table.specs.Apart.{rise_from}
use Rattle.ix_fact_table.proofs.KeysApart.{next_rises}
use Rattle.ix_fact_table.proofs.apart.all_rise.Goals as goal

pub returns-then-not-is_before : goal.returns-then-not-is_before
returns-then-not-is_before c =
    let next = next_rises c.loop-key.last.now c.in-Some.more.now c.loop-key.key-index (Rng (Slot 0) (pos 0) (pos 0)) c.is_before.result _ c.loop-key-test.true c.is_before.ensures c.loop-key.invariant in
    sym (rw c.if-not-is_before.true at next)

pub loop-key-preserved : goal.loop-key-preserved
loop-key-preserved c =
    let next = next_rises c.loop-key.last.now c.in-Some.more.now c.loop-key.key-index (Rng (Slot 0) (pos 0) (pos 0)) c.is_before.result _ c.loop-key-test.true c.is_before.ensures c.loop-key.invariant in
    sym (rw c.if-not-is_before.false at next)

pub returns : goal.returns
returns c = sym (ap (rise_from c.loop-key.last.now) (drop_all c.loop-key.key-index c.in-Some.more.now c.loop-key-test.false)) ∙ c.loop-key.invariant
