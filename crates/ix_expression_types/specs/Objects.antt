-- What stands before a dot, in the code and in the definitions.
use Rattle.ix_expression_types.specs.declared.names.Object.{Object as Found}
use Rattle.ix_expression_types.specs.declared.names.Object.TheVariants.{Nothing, OfClass, Value}
use Rattle.ix_meaning.specs.Values.{Object, no_object, of_class, value}

abbrev pub shown : Found → Object
shown Nothing = no_object
shown (OfClass c) = of_class c
shown (Value t) = value t
