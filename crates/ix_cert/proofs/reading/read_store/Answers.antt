use Rattle.std.proofs.Common.{sym, subst}
use Rattle.ix_store.specs.StoredFacts.{stored}
use Rattle.ix_cert.specs.Reading.{LabelText}
use Rattle.ix_cert.proofs.WholeRead.{unreachable_read, unreachable_each}
use Rattle.ix_cert.proofs.reading.read_store.Goals as goal

pub returns-in-None-clause-each : goal.returns-in-None-clause-each
returns-in-None-clause-each c = λ store rest label ends. c.read_known.ensures.each store rest c.in-None.ensures.none label ends

pub returns-in-Some-clause-label : goal.returns-in-Some-clause-label
returns-in-Some-clause-label c =
    subst (λ store. LabelText c.args.slots c.args.fields (stored store) c.args.text.now c.in-Some.rest.now) (sym c.unreachable.ensures.store) (unreachable_read c.args.slots c.args.fields c.args.text.now c.in-Some.rest.now c.in-Some.ensures.found)

pub returns-in-Some-clause-each : goal.returns-in-Some-clause-each
returns-in-Some-clause-each c = λ store rest label ends. unreachable_each c.args.slots c.args.fields c.args.text.now c.in-Some.rest.now store rest c.in-Some.ensures.found label ends
