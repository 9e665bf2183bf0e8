-- What is kept of a list whose first element is kept or not.
use Rattle.std.specs.Prelude.{◌≡◌, Bool, true, false, cond, List, [], ◌∷◌, ◌++◌, refl}

pub kept_first : {X : Type 0} (gone : Bool) (first : X) (kept : List X) → cond gone kept (first ∷ kept) ≡ cond gone [] (first ∷ []) ++ kept
kept_first true first kept = refl
kept_first false first kept = refl
