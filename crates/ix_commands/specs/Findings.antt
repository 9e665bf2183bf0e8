-- What may be found of a guarded text: that it passes a limit, or its program. It is never broken, and its names have no errors.
use Rattle.ix_front.specs.Found.{Finding, TooLong, Broken, Past, Misnamed, Whole}

abbrev pub MayBeGuarded : Finding → Type 0
MayBeGuarded TooLong = Unit {0}
MayBeGuarded (Past at name) = Unit {0}
MayBeGuarded (Whole program) = Unit {0}
MayBeGuarded (Broken at key) = ⊥
MayBeGuarded (Misnamed errors) = ⊥
