use Rattle.ix_commands.proofs.NamedProfiles.{named_accepted}
use Rattle.ix_commands.proofs.laws.named_profile_accepts.Goals as goal

pub returns : goal.returns
returns c = record { same = λ bytes cert named accepted. named_accepted bytes cert named accepted }
