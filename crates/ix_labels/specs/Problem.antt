-- The graph of a method as a problem of flow, by the rules of the method with given landmarks.
use Rattle.std.specs.Prelude.{ℕ, ℤ, Bool, List, map, slice_get, unwrap_or}
use Rattle.ix_core.specs.declared.fact.Profile.{Profile}
use Rattle.ix_core.specs.declared.program.Method.{Method}
use Rattle.ix_core.specs.declared.program.Program.{Program}
use Rattle.ix_core.specs.Code.{block_code}
use Rattle.ix_facts.specs.Round.{rounded}
use Rattle.ix_facts.specs.Stores.{Stored, Gives}
use Rattle.ix_flow.specs.Flow.{Rules}
use Rattle.ix_graph.specs.declared.node.Edge.{Edge}
use Rattle.ix_graph.specs.declared.node.Node.{Node}
use Rattle.ix_graph.specs.Graph.{Kind, Joins, Part, method_parts}
use Rattle.ix_graph.specs.Built.{edges_of, edges_to}
use Rattle.ix_graph.specs.Linked.{kinds_in}
use Rattle.ix_sign.specs.MethodRules.{method_rules}
use Rattle.ix_labels.specs.declared.problem.Problem.{Problem}
use Rattle.ix_labels.specs.Runs.{readers_through}
use Rattle.ix_labels.specs.RunAsks.{RunAsks}

-- the nodes that each node's edges lead to
abbrev pub readers_in : List Node → List (List ℕ)
readers_in nodes = map (λ (node : Node). node.readers.items) nodes

-- the rules of a method, where a loop's label is rounded to these landmarks
abbrev pub rules_with : Program → Method → Profile → List ℤ → Rules
rules_with program method profile marks = record {
  Store = Stored;
  Below = (method_rules program method profile).Below;
  nowhere = (method_rules program method profile).nowhere;
  Entry = (method_rules program method profile).Entry;
  After = (method_rules program method profile).After;
  Tested = (method_rules program method profile).Tested;
  Told = (method_rules program method profile).Told;
  Rounded = λ scope. Gives (rounded marks scope);
}

abbrev pub rules_of : Problem → Rules
rules_of problem = rules_with problem.program.now problem.within.now problem.profile problem.marks.ints

-- what the node of a number stands for
abbrev pub kind_in : List Node → ℕ → Kind
kind_in nodes at = unwrap_or (slice_get (kinds_in nodes) at) Joins

abbrev pub kinds_at : Problem → ℕ → Kind
kinds_at problem = kind_in problem.graph.nodes.items

abbrev pub parts_of : Problem → List Part
parts_of problem = method_parts (block_code problem.within.now.body)

-- the edges to a node
abbrev pub edges_at : Problem → ℕ → List (ℕ × Edge)
edges_at problem at = edges_to at (edges_of (parts_of problem))

-- the nodes that read each node's label
abbrev pub readers_of : Problem → List (List ℕ)
readers_of problem = readers_through problem.runs.readers.items

abbrev pub kept_in : Problem → List Bool
kept_in problem = problem.runs.kept.items

-- what is asked of a node's label
abbrev pub Asks : Problem → ℕ → List Stored → Stored → Type 0
Asks problem = RunAsks (rules_of problem) (kinds_at problem) (kept_in problem) (edges_at problem)
