use Rattle.std.proofs.Common.{◌≡◌, drop}
use Rattle.ix_fact_table.specs.Apart.{all_rise, rise_from}
use Rattle.ix_fact_table.proofs.apart.all_rise.Given as goal

abbrev pub invariant-loop-key : goal.invariant-loop-key
invariant-loop-key l = rise_from l.last (drop l.key-index l.more) ≡ all_rise l.keys
