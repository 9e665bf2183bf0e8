use Rattle.std.proofs.Common.{refl, subst}
use Rattle.std.proofs.Math.Seq.{drop-cons}
use Rattle.ix_store.specs.StoredFacts.{stored}
use Rattle.ix_signatures.specs.Naming.{path_by, AreSmallClaims}
use Rattle.ix_errors.specs.Refusals.{refusals, not_proved_of}
use Rattle.ix_text.proofs.Walked.{none_left}
use Rattle.ix_errors.proofs.unproved.push_unproved_of.Goals as goal

pub returns : goal.returns
returns c =
    let report = c.args.report.now in
    none_left (refusals (not_proved_of c.args.only (stored c.args.store.now) (path_by c.args.naming.now) c.args.at.now) report.rule report.span report.subject) c.args.claims.now c.loop-rank.rank _ _
    c.loop-rank-test.false refl c.loop-rank.invariant.0

pub claim-requires : goal.claim-requires
claim-requires c = (subst AreSmallClaims (drop-cons c.args.claims.now c.loop-rank.rank _ c.loop-rank-test.true) c.loop-rank.invariant.1).0
