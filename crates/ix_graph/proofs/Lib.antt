-- A solution of the graph gives a flow of the method, and a flow of the method a solution of the graph.
pub mod FlowOfGraph
pub mod GraphOfFlow
-- The least solution of the graph has the least labels at the heads, and derives the errors that the rules derive.
pub mod LeastAgree
pub mod ErrorsAgree
-- What a solver finds for the graph.
pub mod Solved
-- What is made of a statement or a condition.
pub mod Makes
-- The numbers of nodes, and of the ends of edges.
pub mod Numbers
-- The nodes with their edges.
pub mod Attached
-- Each edge carries what its node gives; what is asked of a label; the graph as a problem with its laws.
pub mod EdgesFit
pub mod NodesAsk
pub mod AsProblem
pub mod HeadTable
-- What a block does last.
mod LastItem
