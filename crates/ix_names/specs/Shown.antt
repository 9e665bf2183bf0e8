-- A passed limit of the code as that of the definitions.
use Rattle.std.specs.Prelude.{◌≡◌, Option, Some, None}
use Rattle.ix_tree.specs.declared.decl.LocalDecl.{LocalDecl}
use Rattle.ix_names.specs.declared.passed.Passed.{Passed}
use Rattle.ix_meaning.specs.Limits as spec

abbrev pub shown : Passed → spec.Passed
shown p = record { which = p.which; place = p.place }

-- The claims of the declaration that this field began are within the limit; so are those of none.
abbrev pub IsFine : Option LocalDecl → Type 0
IsFine None = Unit {0}
IsFine (Some first) = spec.past_claims_in 0 (spec.declared_annots first) ≡ None
