use Rattle.ix_verify.proofs.Accepted.{flawless_accepted, least_accepted}
use Rattle.ix_verify.proofs.laws.what_is_written_is_accepted.Goals as goal

-- src/laws.rt
pub returns : goal.returns
returns c = record {
  least = λ program profile labels found formed least same. least_accepted program profile formed labels found same least;
  flawless = λ program profile labels found formed flawless same. flawless_accepted program profile formed labels found same flawless;
}
