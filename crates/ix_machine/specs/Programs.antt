-- How much room a program's methods need.
use Rattle.std.specs.Prelude.{ℕ, ◌+◌, max, List, [], ◌∷◌, length}
use Rattle.ix_core.specs.declared.program.Method.{Method}
use Rattle.ix_core.specs.Tables.{body_of}
use Rattle.ix_machine_state.specs.Room.{code_above, code_values}

-- the most places that are open in a frame
abbrev pub places_of : List Method → ℕ
places_of [] = 1
places_of (method ∷ methods) = max (1 + code_above (body_of method)) (places_of methods)

-- the most values in a frame's slots: the slots, the parameters, and what a call passes
abbrev pub values_of : List Method → ℕ
values_of [] = 0
values_of (method ∷ methods) = max (max method.slots (length method.param_types)) (max (code_values (body_of method)) (values_of methods))
