use Rattle.ix_verify.proofs.Alike.{judged_alike}
use Rattle.ix_verify.proofs.laws.labels_are_judged_alike.Goals as goal

-- src/laws.rt
pub returns : goal.returns
returns c = record { alike = λ program profile found others answer other formed same one two. judged_alike program profile formed found others same answer other one two }
