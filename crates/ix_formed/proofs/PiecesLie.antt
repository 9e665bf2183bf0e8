-- The pieces of what stands in a text stand there, one by one.
use Rattle.std.proofs.Common.{ℕ, List, [], ◌∷◌, ◌++◌}
use Rattle.std.specs.List.{AllByRecursion}
use Rattle.ix_tree.specs.Placed.{Layout, row}
use Rattle.ix_formed.specs.EachNode.{InText, EachNode}
use Rattle.ix_formed.proofs.LaidNodes.{nodes_first}
use Rattle.ix_formed.proofs.ListsJoin.{all_parted}

-- each node of the layout stands in a text of so many bytes
abbrev pub Lies : ℕ → Layout → Type 0
Lies end layout = EachNode (InText end) layout

abbrev pub AllLie : ℕ → List Layout → Type 0
AllLie end layouts = AllByRecursion (Lies end) layouts

pub row_lies : (end : ℕ) (xs : List Layout) → Lies end (row xs) → AllLie end xs
row_lies end [] h = tt
row_lies end (x ∷ xs) h = let q = nodes_first (InText end) x xs h in (q.0, row_lies end xs q.1)

pub pieces_parted : (end : ℕ) (xs ys : List Layout) → AllLie end (xs ++ ys) → AllLie end xs × AllLie end ys
pieces_parted end xs ys h = all_parted (Lies end) xs ys h
