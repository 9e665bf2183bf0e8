use Rattle.std.proofs.Common.{Some, codes}
use Rattle.std.proofs.lemmas.Bool.Decides.{Decides-eqb}
use Rattle.std.proofs.lemmas.Slice.Eq.{strip_prefix_is}
use Rattle.ix_cert.proofs.reading.read_profile.Goals as goal

pub returns-in-Some-strip_prefix-clause-profile : goal.returns-in-Some-strip_prefix-clause-profile
returns-in-Some-strip_prefix-clause-profile c = strip_prefix_is Decides-eqb c.args.text.now (codes "certificate 1 int32\n") (Some c.in-Some-strip_prefix.rest) c.in-Some-strip_prefix.ensures.cases

pub returns-in-Some-clause-profile : goal.returns-in-Some-clause-profile
returns-in-Some-clause-profile c = strip_prefix_is Decides-eqb c.args.text.now (codes "certificate 1 ideal\n") (Some c.in-Some.rest) c.in-Some.ensures.cases
