use Rattle.std.proofs.Common.{◌≡◌, drop}
use Rattle.std.specs.List.{list_any}
use Rattle.ix_report.specs.Names as spec
use Rattle.ix_report.proofs.names.once.is_among.Given as goal

abbrev pub invariant-loop-other : goal.invariant-loop-other
invariant-loop-other l = list_any (spec.have_one_line l.error) l.told ≡ list_any (spec.have_one_line l.error) (drop l.other-index l.told)
