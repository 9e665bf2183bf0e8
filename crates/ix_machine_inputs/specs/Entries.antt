-- The method that a run begins with.
use Rattle.std.specs.Prelude.{ℕ, Bool, true, false, ◌&&◌, ◌==◌, List, ◌∷◌, ◌++◌, Option, position}
use Rattle.std.specs.List.{list_all}
use Rattle.std.specs.Str.{bytes_eq}
use Rattle.ix_core.specs.declared.claim.Base.TheVariants as base
use Rattle.ix_core.specs.declared.claim.Type_.{Type_}
use Rattle.ix_core.specs.declared.claim.Type_.TheVariants as type
use Rattle.ix_core.specs.declared.program.Method.{Method}
use Rattle.ix_core.specs.declared.program.Program.{Program}
use Rattle.ix_core.specs.Tables.{class_at}

-- words can write values of the type: int, boolean or int[]
abbrev pub is_input_type : Type_ → Bool
is_input_type (type.Plain base.Int) = true
is_input_type (type.Plain base.Bool) = true
is_input_type (type.Array base.Int depth element) = depth == 1
is_input_type _ = false

-- `CLASS.METHOD`
abbrev pub full_name : Program → Method → List ℕ
full_name program method = (class_at program method.class).name ++ 46 ∷ method.name

-- a static method of that name whose parameters words can give
abbrev pub is_entry : Program → List ℕ → Method → Bool
is_entry program entry method = method.is_static && (bytes_eq entry (full_name program method) && list_all is_input_type method.param_types)

-- the number of the method that is meant by `CLASS.METHOD`, the first if there are several; none where no run can begin with one
abbrev pub entry_of : Program → List ℕ → Option ℕ
entry_of program entry = position (is_entry program entry) program.methods
