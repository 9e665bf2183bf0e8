-- Which slot is spared and which field is final, as a step that may change paths is told; and those paths.
use Rattle.std.specs.Prelude.{ℕ, Bool, false, not, cond, ◌&&◌, ◌||◌, ◌==◌, List, [], ◌∷◌, Option, Some, None}
use Rattle.ix_core.specs.declared.fact.Path.{Path}
use Rattle.ix_core.specs.declared.program.Program.{Program}
use Rattle.ix_core.specs.Tables.{field_at}
use Rattle.ix_facts.specs.Forget.{of_slot, of_path, of_field, of_call, of_this}
use Rattle.ix_facts.specs.After.{of_target}
use Rattle.ix_facts.specs.Round.{is_beyond}
use Rattle.ix_fact_paths.specs.declared.changed.Changed.{Changed}
use Rattle.ix_fact_paths.specs.declared.changed.Changed.TheVariants.{Nothing, Target, At, Field, Call, Called, Parent, From}

-- The spared slot, where there is one.
abbrev pub is_spared : Option ℕ → ℕ → Bool
is_spared None s = false
is_spared (Some t) s = s == t

-- A field that the program doesn't have counts as one that isn't final.
abbrev pub is_final : Program → ℕ → Bool
is_final program f = (field_at program f).is_final

-- The paths that a call may change: those of the slot that gets its result and, unless the callee is side-effect-free, fields that aren't final.
abbrev pub of_called : Program → ℕ → Bool → Option ℕ → Path → Bool
of_called program target free spared p = of_slot target p || (not free && of_call (is_final program) (is_spared spared) p)

-- A call of the parent's constructor may change also each field of `this`.
abbrev pub of_parent : Program → ℕ → Bool → Option ℕ → Path → Bool
of_parent program target free spared p = of_called program target free spared p || of_this p

abbrev pub is_changed : Changed → Path → Bool
is_changed Nothing = λ p. false
is_changed (Target kind) = of_target kind.now
is_changed (At q) = of_path q
is_changed (Field f spared) = of_field f (is_spared spared)
is_changed (Call program spared) = of_call (is_final program.now) (is_spared spared)
is_changed (Called program target free spared) = of_called program.now target free spared
is_changed (Parent program target free spared) = of_parent program.now target free spared
is_changed (From first) = is_beyond first

-- some of the paths may change
abbrev pub some_path : (Path → Bool) → List Path → Bool
some_path is [] = false
some_path is (p ∷ paths) = is p || some_path is paths

-- those that don't
abbrev pub paths_beside : (Path → Bool) → List Path → List Path
paths_beside is [] = []
paths_beside is (p ∷ paths) = cond (is p) (paths_beside is paths) (p ∷ paths_beside is paths)
