use Rattle.std.proofs.Common.{◌≡◌, ◌++◌, drop, map}
use Rattle.ix_guard.specs.Shown.{site_of}
use Rattle.ix_guard.proofs.test.meanings_at.Given as goal

abbrev pub invariant-loop-place : goal.invariant-loop-place
invariant-loop-place l = l.meanings.items ++ map (site_of l.site).names.meaning (drop l.place-index l.places) ≡ map (site_of l.site).names.meaning l.places
