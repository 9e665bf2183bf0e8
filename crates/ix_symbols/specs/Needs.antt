-- A need of the code as that of the definitions.
use Rattle.ix_meaning.specs.Types as types
use Rattle.ix_symbols.specs.declared.types.Need.{Need}
use Rattle.ix_symbols.specs.declared.types.Need.TheVariants.{Unknown, Never, Printed, Of}

abbrev pub shown : Need → types.Need
shown Unknown = types.unknown
shown Never = types.never
shown Printed = types.printed
shown (Of t) = types.of t.now
