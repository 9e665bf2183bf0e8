-- The flow graph of a method.
pub mod Graph
-- What a solution of it is, and what it asks of each node's label.
pub mod GraphSolutions
-- How its nodes and edges are made.
pub mod Built
pub mod Linked
-- What its edges bring to a node.
pub mod Brought
-- The heads of loops by their numbers.
pub mod Heads
