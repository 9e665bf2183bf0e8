-- Subclasses: "The subclass relationship is the transitive closure of the direct subclass relationship" (JLS 8.1.4).
use Rattle.std.specs.Prelude.{◌≡◌, ℕ, List, Option, Some}
use Rattle.ix_meaning.specs.Classes.{parent}

-- A class is a subclass of its parent, and of each class that its parent is a subclass of.
pub data IsSubclass (ps : List (Option ℕ)) : ℕ → ℕ → Type 0 where
  direct : (class above : ℕ) → parent ps class ≡ Some above → IsSubclass ps class above
  further : (class next above : ℕ) → parent ps class ≡ Some next → IsSubclass ps next above → IsSubclass ps class above
