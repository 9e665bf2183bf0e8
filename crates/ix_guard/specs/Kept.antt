-- What a source keeps where texts are inserted in it: everything.
use Rattle.std.specs.Prelude.{◌≡◌, ℕ, List, [], ◌∷◌, ◌++◌}

abbrev pub joined : List (List ℕ) → List ℕ
joined [] = []
joined (piece ∷ pieces) = piece ++ joined pieces

-- each piece with a text behind it, and the pieces that are left
abbrev pub woven : List (List ℕ) → List (List ℕ) → List ℕ
woven pieces [] = joined pieces
woven [] (text ∷ texts) = text ++ woven [] texts
woven (piece ∷ pieces) (text ∷ texts) = piece ++ (text ++ woven pieces texts)

-- The bytes are the source, cut in pieces, with these texts between them: without the texts they are the source's.
pub record IsSourceWith (source : List ℕ) (texts : List (List ℕ)) (bytes : List ℕ) : Type 0 where
  pub pieces : List (List ℕ)
  pub whole : joined pieces ≡ source
  pub between : bytes ≡ woven pieces texts
