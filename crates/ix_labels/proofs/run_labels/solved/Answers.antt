use Rattle.std.proofs.Common.{◌+◌, ◌≤◌, length, map, arith, sym, subst, ◌∙◌}
use Rattle.std.proofs.lemmas.List.{length-map}
use Rattle.ix_facts.specs.Stores.{IsBelow}
use Rattle.ix_store.specs.StoredFacts.{stored}
use Rattle.ix_solve.specs.Solutions.{IsSolution, IsLeast}
use Rattle.ix_store.specs.StoreOrder.{nowhere, store_rank, top_rank}
use Rattle.ix_solve.specs.Readers.{readings}
use Rattle.ix_labels.specs.Problem.{readers_of, Asks}
use Rattle.ix_labels.proofs.run_labels.solved.Goals as goal

pub returns-clause-at_most : goal.returns-clause-at_most
returns-clause-at_most g c =
    let problem = c.in_ok-problem.problem in
    let many = problem.through.many in
    let found : c.solve_graph.new.steps ≤ c.args.steps.now + length (readers_of problem) + readings store_rank top_rank (readers_of problem) c.in_ok-stores.stores.items =
    c.in_ok-stores.ensures.at_most nowhere (λ value. tt) in
    omega (arith, found, many)

pub invariant_of-result : goal.invariant_of-result
invariant_of-result g c = record { all = sym (length-map c.in_ok-stores.stores.items stored) ∙ (c.in_ok-stores.ensures.solution.len ∙ c.in_ok-problem.problem.through.many) }

pub returns-clause-labels : goal.returns-clause-labels
returns-clause-labels g c =
    let problem = c.in_ok-problem.problem in
    let labels = map stored c.in_ok-stores.stores.items in
    record {
      of = c.in_ok-problem.ensures.problem;
      solution = subst (λ size. IsSolution IsBelow size (Asks problem) labels) problem.through.many c.in_ok-stores.ensures.solution;
      least = subst (λ size. IsLeast IsBelow size (Asks problem) labels) problem.through.many c.in_ok-stores.ensures.least;
    }
