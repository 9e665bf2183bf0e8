-- The problem keeps the laws of problems of flow.
use Rattle.std.specs.Prelude.{◌≡◌, ℤ, List, [], length}
use Rattle.std.proofs.Common.{inr, sym, subst, ◌∙◌}
use Rattle.ix_core.specs.declared.fact.Profile.{Profile}
use Rattle.ix_core.specs.declared.program.Method.{Method}
use Rattle.ix_core.specs.declared.program.Program.{Program}
use Rattle.ix_core.specs.Code.{block_code}
use Rattle.ix_facts.specs.Round.{rounded}
use Rattle.ix_facts.specs.Stores.{Stored, Reached, IsBelow}
use Rattle.ix_facts.proofs.SaidRules.{rounded_mono}
use Rattle.ix_facts.proofs.StepLaws.{gives_step}
use Rattle.ix_facts.proofs.StoreLaws.{below_itself}
use Rattle.ix_flow.specs.Flow.{RulesLaws}
use Rattle.ix_graph.specs.Graph.{behind_code, AreBelow}
use Rattle.ix_graph.proofs.Numbers.{method_below}
use Rattle.ix_sign.proofs.MethodLaws.{method_laws}
use Rattle.ix_signatures.specs.Signs.{entry_facts}
use Rattle.ix_solve.specs.Solutions.{IsMonotone, OrdersBy}
use Rattle.ix_solve.specs.Readers.{DependsOnRead}
use Rattle.ix_store.specs.StoredFacts.{stored}
use Rattle.ix_store.specs.StoreOrder.{StoreBelow}
use Rattle.ix_labels.specs.declared.problem.Problem.{Problem}
use Rattle.ix_labels.specs.Problem.{readers_of, rules_with, rules_of, kinds_at, kept_in, edges_at, parts_of, Asks}
use Rattle.ix_labels.specs.RunLaws.{runs_monotone, runs_depend}

pub laws_with : (program : Program) (method : Method) (profile : Profile) (marks : List ℤ) → RulesLaws (rules_with program method profile marks)
laws_with program method profile marks =
    let laws = method_laws program method profile in
    record {
      reflexive = laws.reflexive;
      transitive = laws.transitive;
      nowhere_below = laws.nowhere_below;
      after = laws.after;
      tested = laws.tested;
      told = laws.told;
      rounded = λ scope. gives_step (rounded marks scope) (rounded_mono marks scope);
    }

entry_up : (problem : Problem) (s t : Stored) → (rules_of problem).Entry s → IsBelow s t → (rules_of problem).Entry t
entry_up problem s t entry up =
    gives_step (λ facts. entry_facts problem.program.now problem.within.now) (λ strong weak says. inr (λ f said. said)) (Reached []) (Reached []) s t (λ f said. said) entry up

-- stores are ordered as what they say
pub store_order : OrdersBy StoreBelow IsBelow stored
store_order = record { same = λ low high. (λ below. below, λ below. below); reflexive = below_itself }

pub problem_monotone : (problem : Problem) → IsMonotone IsBelow (Asks problem)
problem_monotone problem =
    runs_monotone (rules_of problem) (laws_with problem.program.now problem.within.now problem.profile problem.marks.ints) (kinds_at problem) (kept_in problem) (edges_at problem) (entry_up problem)

pub readers_count : (problem : Problem) → length (readers_of problem) ≡ behind_code (block_code problem.within.now.body) 2
readers_count problem = problem.through.many ∙ problem.size

pub parts_below : (problem : Problem) → AreBelow (length problem.graph.nodes.items) (parts_of problem)
parts_below problem = subst (λ n. AreBelow n (parts_of problem)) (sym problem.size) (method_below (block_code problem.within.now.body))

pub problem_depends : (problem : Problem) → DependsOnRead (readers_of problem) (Asks problem)
problem_depends problem =
    runs_depend (rules_of problem) (laws_with problem.program.now problem.within.now problem.profile problem.marks.ints) (kinds_at problem) (kept_in problem) problem.graph.nodes.items (readers_of problem) (parts_of problem)
    problem.through problem.edges (parts_below problem)
