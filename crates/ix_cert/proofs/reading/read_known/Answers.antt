use Rattle.std.proofs.Common.{◌<◌, ◌^◌, arith, sym, subst}
use Rattle.ix_facts.specs.Stores.{Reached, SayTheSame}
use Rattle.ix_store.specs.StoredFacts.{stored}
use Rattle.ix_store.specs.WholeStores.{AreAStore}
use Rattle.ix_cert.proofs.WholeRead.{label_read, label_each}
use Rattle.ix_cert.proofs.reading.read_known.Goals as goal

pub returns-in-None-clause-each : goal.returns-in-None-clause-each
returns-in-None-clause-each c = λ store rest none label ends.
    let x : c.args.slots < 2 ^ 32 = omega arith in
    let y : c.args.fields < 2 ^ 32 = omega arith in
    let each = label_each c.args.slots c.args.fields x y c.args.text.now c.in_ok-facts.facts.items c.in_ok-facts.rest.now store rest c.in_ok-facts.ensures none label ends in
    let refused = rw c.in-None.is at c.in_ok-from_facts.ensures.none in
    absurd (refused (subst AreAStore (sym c.as_slice.ensures.value) each.1))

pub returns-clause-label : goal.returns-clause-label
returns-clause-label c =
    let whole = rw c.in-Some.is at c.in_ok-from_facts.ensures.whole in
    let same = rw c.in-Some.is at c.in_ok-from_facts.ensures.same in
    label_read c.args.slots c.args.fields c.args.text.now c.in_ok-facts.facts.items c.in_ok-facts.rest.now (stored c.in-Some.store) c.in_ok-facts.ensures
    (subst AreAStore c.as_slice.ensures.value whole)
    (subst (λ facts. SayTheSame (stored c.in-Some.store) (Reached facts)) c.as_slice.ensures.value same)

pub returns-clause-each : goal.returns-clause-each
returns-clause-each c = λ store rest none label ends.
    let x : c.args.slots < 2 ^ 32 = omega arith in
    let y : c.args.fields < 2 ^ 32 = omega arith in
    (label_each c.args.slots c.args.fields x y c.args.text.now c.in_ok-facts.facts.items c.in_ok-facts.rest.now store rest c.in_ok-facts.ensures none label ends).0
