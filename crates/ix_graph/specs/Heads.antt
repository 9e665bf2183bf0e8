-- The heads of a graph's loops, where loops are numbered in the order of their heads.
use Rattle.std.specs.Prelude.{◌≡◌, ℕ, suc, List, [], ◌∷◌, slice_get, unwrap_or}
use Rattle.ix_graph.specs.Graph.{Part, NodePart, EdgePart, Heads}

-- the numbers of the nodes that are heads, in order
abbrev pub heads_in : List Part → List ℕ
heads_in [] = []
heads_in (NodePart at (Heads number scope) ∷ parts) = at ∷ heads_in parts
heads_in (NodePart at _ ∷ parts) = heads_in parts
heads_in (EdgePart node pass target ∷ parts) = heads_in parts

-- the loops have the numbers from this one on, in the order of their heads
abbrev pub AreInOrder : ℕ → List Part → Type 0
AreInOrder first [] = Unit {0}
AreInOrder first (NodePart at (Heads number scope) ∷ parts) = (number ≡ first) × AreInOrder (suc first) parts
AreInOrder first (NodePart at _ ∷ parts) = AreInOrder first parts
AreInOrder first (EdgePart node pass target ∷ parts) = AreInOrder first parts

-- the head of the loop of that number
abbrev pub head_of : List Part → ℕ → ℕ
head_of parts number = unwrap_or (slice_get (heads_in parts) number) 0
