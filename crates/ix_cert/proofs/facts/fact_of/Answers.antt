use Rattle.std.proofs.Common.{◌≡◌, false, sym, subst}
use Rattle.ix_facts.specs.Forget.{names}
use Rattle.ix_cert.specs.Lines.{fact_text}
use Rattle.ix_cert.specs.Labellings.{is_outside}
use Rattle.ix_cert.specs.Reading.{IsReadAs}
use Rattle.ix_cert.proofs.Bytes.{none_some, some_same}
use Rattle.ix_cert.proofs.Found.{found_more, none_more}
use Rattle.ix_cert.proofs.Orders.{read_as, not_read, not_checked}
use Rattle.ix_cert.proofs.facts.fact_of.Goals as goal

pub returns-in-None-clause-none : goal.returns-in-None-clause-none
returns-in-None-clause-none c = not_read c.args.slots c.args.fields c.args.line.now (λ f small e. none_some f (c.in-None.ensures.given f small e))

pub returns-in-Some-clause-read : goal.returns-in-Some-clause-read
returns-in-Some-clause-read c =
    let fact = c.in-Some.fact in
    let line = c.args.line.now in
    found_more c.checked.result (λ f. (f ≡ fact) × (fact_text fact ≡ line) × (names (is_outside c.args.slots c.args.fields) fact ≡ false)) (IsReadAs c.args.slots c.args.fields line)
    (λ f p. subst (IsReadAs c.args.slots c.args.fields line) (sym p.0) (read_as c.args.slots c.args.fields line fact (λ g small e. some_same fact g (c.in-Some.ensures.given g small e)) p.1 p.2))
    c.checked.ensures.found

pub returns-in-Some-clause-none : goal.returns-in-Some-clause-none
returns-in-Some-clause-none c =
    let fact = c.in-Some.fact in
    none_more c.checked.result
    (λ none. not_checked c.args.slots c.args.fields c.args.line.now fact (λ g small e. some_same fact g (c.in-Some.ensures.given g small e)) none)
    c.checked.ensures.none
