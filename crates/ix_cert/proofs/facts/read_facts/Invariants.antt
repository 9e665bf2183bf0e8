use Rattle.std.proofs.Common.{ℕ, List, [], ◌++◌, length}
use Rattle.ix_core.specs.declared.fact.Fact.{Fact}
use Rattle.ix_cert.specs.Reading.{FactsText}
use Rattle.ix_cert.proofs.facts.read_facts.Given as goal

-- what was read, before whatever facts follow
abbrev pub invariant-loop-facts : goal.invariant-loop-facts
invariant-loop-facts l = (facts : List Fact) (rest : List ℕ) → FactsText l.slots l.fields l.last l.rest facts rest → FactsText l.slots l.fields [] l.text (l.facts.items ++ facts) rest

abbrev pub decreases-loop-facts : goal.decreases-loop-facts
decreases-loop-facts l = length l.rest
