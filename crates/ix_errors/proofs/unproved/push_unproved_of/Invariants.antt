use Rattle.std.proofs.Common.{◌≡◌, ◌++◌, drop}
use Rattle.ix_store.specs.StoredFacts.{stored}
use Rattle.ix_signatures.specs.Naming.{path_by, AreSmallClaims}
use Rattle.ix_errors.specs.Refusals.{refusals, not_proved_of}
use Rattle.ix_errors.proofs.unproved.push_unproved_of.Given as goal

abbrev pub invariant-loop-rank : goal.invariant-loop-rank
invariant-loop-rank l =
    (l.out.items ++ refusals (not_proved_of l.only (stored l.store) (path_by l.naming) l.at) l.report.rule l.report.span l.report.subject l.rank (drop l.rank l.claims)
    ≡ l.fn.out.items ++ refusals (not_proved_of l.only (stored l.store) (path_by l.naming) l.at) l.report.rule l.report.span l.report.subject 0 l.claims)
    × AreSmallClaims (drop l.rank l.claims)
