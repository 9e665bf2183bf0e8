use Rattle.std.proofs.Common.{◌≡◌, ◌++◌, [], drop, map}
use Rattle.std.specs.Prelude.{string_bytes}
use Rattle.ix_guard.specs.Shown.{seen, site_of, changes_of}
use Rattle.ix_guard.specs.Tests as spec
use Rattle.ix_guard.proofs.test.tests_of.Given as goal

abbrev pub invariant-loop-access : goal.invariant-loop-access
invariant-loop-access l =
    string_bytes l.text ++ spec.tests_behind (site_of l.site) (changes_of l.changes) l.pairs.items (map seen (drop l.access-index l.accesses))
    ≡ spec.tests_behind (site_of l.site) (changes_of l.changes) [] (map seen l.accesses)
