use Rattle.ix_cert.proofs.OneMeaning.{one_meaning}
use Rattle.ix_cert.proofs.laws.texts_have_one_meaning.Goals as goal

-- src/laws.rt
pub returns : goal.returns
returns c = record { meaning = one_meaning }
