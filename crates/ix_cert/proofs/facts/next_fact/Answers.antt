use Rattle.std.proofs.Common.{◌≡◌, false, is_lt, ap, sym, ◌∙◌}
use Rattle.std.proofs.lemmas.Bool.{false≢true}
use Rattle.ix_cert.specs.Lines.{is_before}
use Rattle.ix_cert.proofs.ReadLines.{stops_none, stops_cut}
use Rattle.ix_cert.proofs.facts.next_fact.Goals as goal

pub returns-in_default-clause-none : goal.returns-in_default-clause-none
returns-in_default-clause-none c = stops_none c.args.slots c.args.fields c.args.last.now c.args.text.now c.in_default.ensures.none

pub returns-then-not-is_lt-clause-none : goal.returns-then-not-is_lt-clause-none
returns-then-not-is_lt-clause-none c =
    let not_behind : is_before c.args.last.now c.in-Some.line.now ≡ false = sym (ap is_lt c.cmp.ensures) ∙ (sym c.is_lt.ensures ∙ c.if-not-is_lt.true) in
    stops_cut c.args.slots c.args.fields c.args.last.now c.args.text.now c.in-Some.line.now c.in-Some.rest.now c.in-Some.ensures.found (λ fact may behind e. absurd (false≢true (sym not_behind ∙ behind)))

pub returns-in-None-clause-none : goal.returns-in-None-clause-none
returns-in-None-clause-none c =
    let none = rw c.in-None.is at c.in_ok-fact_of.ensures.none in
    stops_cut c.args.slots c.args.fields c.args.last.now c.args.text.now c.in-Some.line.now c.in-Some.rest.now c.in-Some.ensures.found (λ fact may behind e. none fact may e)
