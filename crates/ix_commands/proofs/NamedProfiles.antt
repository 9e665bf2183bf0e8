-- A certificate's first line names one profile.
use Rattle.std.proofs.Common.{◌≡◌, ◌∙◌, ℕ, List, Option, Some, sym}
use Rattle.ix_certify.proofs.OneMeaning.{profile_once}
use Rattle.ix_commands.specs.Promises.{SafeAsNamed, AcceptedBy}

some_same : (text other : List ℕ) → Some text ≡ Some other → text ≡ other
some_same text other is = cc

pub named_accepted : (bytes : List ℕ) (cert : Option (List ℕ)) (named : SafeAsNamed bytes cert) (accepted : AcceptedBy bytes cert) → accepted.verified.profile ≡ named.profile
named_accepted bytes cert named accepted =
    let same = some_same accepted.text named.text (sym accepted.opened ∙ named.opened) in
    (profile_once accepted.verified.profile named.profile accepted.accepted.gives.0 named.rest (sym accepted.accepted.gives.1 ∙ same ∙ named.named)).0
