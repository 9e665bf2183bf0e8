use Rattle.ix_cert.proofs.OneText.{one_text}
use Rattle.ix_cert.proofs.laws.labels_have_one_text.Goals as goal

-- src/laws.rt
pub returns : goal.returns
returns c = record { text = one_text }
