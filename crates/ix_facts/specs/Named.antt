-- The paths that facts name, each once.
use Rattle.std.specs.Prelude.{◌≡◌, ◌⊎◌, Bool, false, cond, ◌||◌, List, [], ◌∷◌, ◌++◌}
use Rattle.ix_core.specs.declared.fact.Path.{Path}
use Rattle.ix_facts.specs.Bounds.{is_path}

-- the path is one of the list
abbrev pub IsAmongPaths : Path → List Path → Type 0
IsAmongPaths p [] = ⊥
IsAmongPaths p (q ∷ paths) = (p ≡ q) ⊎ IsAmongPaths p paths

-- no path stands twice
abbrev pub AreDistinct : List Path → Type 0
AreDistinct [] = Unit {0}
AreDistinct (p ∷ paths) = (IsAmongPaths p paths → ⊥) × AreDistinct paths

-- The second are the paths of the first, each once.
pub record IsEachOnce (all once : List Path) : Type 0 where
  pub distinct : AreDistinct once
  pub only : (p : Path) → IsAmongPaths p once → IsAmongPaths p all
  pub every : (p : Path) → IsAmongPaths p all → IsAmongPaths p once

-- ---- in the order in which they are first named

abbrev pub has_path : Path → List Path → Bool
has_path p [] = false
has_path p (q ∷ paths) = is_path p q || has_path p paths

abbrev pub with_path : List Path → Path → List Path
with_path paths p = cond (has_path p paths) paths (paths ++ p ∷ [])

abbrev pub with_paths : List Path → List Path → List Path
with_paths paths [] = paths
with_paths paths (p ∷ more) = with_paths (with_path paths p) more
