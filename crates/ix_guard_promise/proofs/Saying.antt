-- What is known says itself, and says that nothing is known.
use Rattle.std.proofs.Common.{refl}
use Rattle.ix_guard_promise.specs.Known.{Known, Nowhere, Unknown, Inside, Says}

pub says_itself : (known : Known) → Says known known
says_itself Nowhere = tt
says_itself Unknown = tt
says_itself (Inside array index) = (refl, refl)

pub says_unknown : (known : Known) → Says known Unknown
says_unknown Nowhere = tt
says_unknown Unknown = tt
says_unknown (Inside array index) = tt
