use Rattle.std.proofs.Common.{map}
use Rattle.ix_tables.proofs.MissingKeys.{missing_key}
use Rattle.ix_tables.proofs.keys.KeyTable+18.key.Goals as goal

pub returns-clause-none : goal.returns-clause-none
returns-clause-none c = missing_key (λ s. s.now) c.key_among.result (map (λ r. (r.0, r.1.now)) c.args.self.now.rows) c.args.rule c.key_among.ensures
