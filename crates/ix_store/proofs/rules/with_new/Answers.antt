use Rattle.std.proofs.Common.{◌++◌, sym, subst, ◌∙◌}
use Rattle.ix_facts.specs.Closure.{IsClosedOf}
use Rattle.ix_facts.specs.Stores.{Reached}
use Rattle.ix_facts.proofs.ClosureLaws.{is_closed}
use Rattle.ix_fact_table.specs.FactTables.{facts_of}
use Rattle.ix_store.specs.StoredFacts.{facts_in}
use Rattle.ix_store.proofs.GrownTables.{at_none, at_some}
use Rattle.ix_store.proofs.KnownStores.{known_closed, known_with_none}
use Rattle.ix_store.proofs.MadeStores.{made_as, made_of}
use Rattle.ix_store.proofs.rules.with_new.Goals as goal

pub returns-then-is_none : goal.returns-then-is_none
returns-then-is_none c =
    let known = c.args.known.now in
    let new = c.args.new.items in
    record { store = made_as c.held.result (facts_in known ++ new) (Reached (facts_in known)) c.held.ensures (known_with_none known new (sym c.deref.ensures.value ∙ c.is_none.ensures.0 c.if-is_none.true)) }

pub returns-in-None : goal.returns-in-None
returns-in-None c =
    let known = c.args.known.now in
    let new = c.args.new.items in
    let closed : IsClosedOf (facts_in known ++ new) (facts_in known) = subst (λ k. IsClosedOf (facts_in k ++ new) (facts_in k)) c.get.ensures (at_none _ _ c.in-None.is c.in_ok-grown.ensures.same) in
    record { store = made_as c.held-in-None.result (facts_in known ++ new) (Reached (facts_in known)) c.held-in-None.ensures (known_closed known (facts_in known ++ new) closed) }

pub of_table-requires : goal.of_table-requires
of_table-requires c =
    let known = c.args.known.now in
    let new = c.args.new.items in
    let table = c.in-Some.over in
    let closed : IsClosedOf (facts_in known ++ new) (facts_of table) = subst (λ k. IsClosedOf (facts_in k ++ new) (facts_of table)) c.get.ensures (at_some _ c.in-Some.over (λ more. IsClosedOf (facts_in c.get.result.now ++ new) (facts_of more)) c.in-Some.is c.in_ok-grown.ensures.more) in
    record { closed = is_closed (facts_in known ++ new) (facts_of table) closed }

pub returns-in-Some : goal.returns-in-Some
returns-in-Some c =
    let known = c.args.known.now in
    let new = c.args.new.items in
    let table = c.in-Some.over in
    let closed : IsClosedOf (facts_in known ++ new) (facts_of table) = subst (λ k. IsClosedOf (facts_in k ++ new) (facts_of table)) c.get.ensures (at_some _ c.in-Some.over (λ more. IsClosedOf (facts_in c.get.result.now ++ new) (facts_of more)) c.in-Some.is c.in_ok-grown.ensures.more) in
    record { store = made_of c.of_table.result (facts_in known ++ new) (facts_of table) c.of_table.ensures.store closed }
