use Rattle.ix_cert.proofs.SmallPaths.{formed_small}
use Rattle.ix_cert.proofs.laws.formed_paths_are_small.Goals as goal

-- src/laws.rt
pub returns : goal.returns
returns c = record { small = formed_small }
