use Rattle.std.proofs.Common.{◌≡◌, ◌+◌, drop}
use Rattle.std.specs.Prelude.{option_map}
use Rattle.ix_core.specs.Tables.{place_among}
use Rattle.ix_machine.proofs.rows.place_in.Given as goal

abbrev pub invariant-loop-place : goal.invariant-loop-place
invariant-loop-place l = option_map (λ place. place + l.place) (place_among (drop l.place l.numbers) l.number) ≡ place_among l.numbers l.number
