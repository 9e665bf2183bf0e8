use Rattle.std.proofs.Common.{◌≡◌, drop, map}
use Rattle.ix_tables.specs.Keys.{key_in}
use Rattle.ix_tables.proofs.keys.key_among.Given as goal

abbrev pub invariant-loop-row : goal.invariant-loop-row
invariant-loop-row l = key_in (map (λ r. (r.0, r.1.now)) (drop l.row-index l.rows)) l.rule ≡ key_in (map (λ r. (r.0, r.1.now)) l.rows) l.rule
