use Rattle.ix_certify.proofs.LabelsWithin.{labels_within}
use Rattle.ix_certify.proofs.within.labels_are_within.Goals as goal

-- src/laws.rt
pub returns : goal.returns
returns c = record { within = λ program profile number loops labels formed lt least loop before. labels_within program formed.0 formed.1 profile number lt loops labels least loop before }
