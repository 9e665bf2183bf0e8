use Rattle.std.proofs.Common.{map}
use Rattle.ix_store.specs.StoredFacts.{stored}
use Rattle.ix_verify.proofs.Judged.{clean, loop, rule}
use Rattle.ix_verify.proofs.verifying.judge.Goals as goal

pub returns-in_ok-verified-in-Clean-clause-verified : goal.returns-in_ok-verified-in-Clean-clause-verified
returns-in_ok-verified-in-Clean-clause-verified c =
    let own = c.in_ok-verified-in-Clean in
    clean c.args.program.now c.args.profile (map (map stored) c.args.labels.now) c.in_ok-audit.field-0 c.in_ok-audit.ensures own.verified c.in-Clean.is own.ensures.profile own.ensures.count

pub returns-in-Loop-clause-refused : goal.returns-in-Loop-clause-refused
returns-in-Loop-clause-refused c = loop c.args.program.now c.args.profile (map (map stored) c.args.labels.now) c.in_ok-audit.field-0 c.in_ok-audit.ensures c.in-Loop.method c.in-Loop.at c.in-Loop.is

pub returns-in-Errors-clause-refused : goal.returns-in-Errors-clause-refused
returns-in-Errors-clause-refused c =
    rule c.args.program.now c.args.profile (map (map stored) c.args.labels.now) c.in_ok-audit.field-0 c.in_ok-audit.ensures c.in-Errors.errors c.first_of.result c.in-Errors.is c.first_of.ensures
