use Rattle.ix_cert.proofs.Bytes.{none_some}
use Rattle.ix_cert.proofs.Paths.{digits_of, slot_is, field_is, slot_read, field_read}
use Rattle.ix_cert.proofs.words.path.Goals as goal

pub returns-in_err-number-in-None : goal.returns-in_err-number-in-None
returns-in_err-number-in-None c = λ p small e.
    let s = slot_is c.in_ok-digits.digits.now p small c.in-None.ensures.none (digits_of c.args.text.now c.in_ok-digits.digits.now p c.in_ok-digits.ensures.cases.1 e) in
    absurd (none_some _ (c.in_err-number-in-None.ensures s.0 s.2 s.3))

pub returns-in_err-number-in-Some : goal.returns-in_err-number-in-Some
returns-in_err-number-in-Some c = λ p small e.
    let s = field_is c.in_ok-digits.digits.now c.in-Some.slot.now c.in-Some.field.now p small c.in-Some.ensures.found (digits_of c.args.text.now c.in_ok-digits.digits.now p c.in_ok-digits.ensures.cases.1 e) in
    absurd (none_some _ (c.in_err-number-in-Some.ensures s.0 s.3 s.5))

pub returns-in_err-number-in-Some-2 : goal.returns-in_err-number-in-Some-2
returns-in_err-number-in-Some-2 c = λ p small e.
    let s = field_is c.in_ok-digits.digits.now c.in-Some.slot.now c.in-Some.field.now p small c.in-Some.ensures.found (digits_of c.args.text.now c.in_ok-digits.digits.now p c.in_ok-digits.ensures.cases.1 e) in
    absurd (none_some _ (c.in_err-number-in-Some-2.ensures s.1 s.4 s.6))

pub returns-in_ok-number-in-None : goal.returns-in_ok-number-in-None
returns-in_ok-number-in-None c = λ p small e.
    let s = slot_is c.in_ok-digits.digits.now p small c.in-None.ensures.none (digits_of c.args.text.now c.in_ok-digits.digits.now p c.in_ok-digits.ensures.cases.1 e) in
    slot_read _ s.0 p (c.in_ok-number-in-None.ensures s.0 s.2 s.3) s.1

pub returns-in_ok-number-in-Some-2 : goal.returns-in_ok-number-in-Some-2
returns-in_ok-number-in-Some-2 c = λ p small e.
    let s = field_is c.in_ok-digits.digits.now c.in-Some.slot.now c.in-Some.field.now p small c.in-Some.ensures.found (digits_of c.args.text.now c.in_ok-digits.digits.now p c.in_ok-digits.ensures.cases.1 e) in
    field_read _ _ s.0 s.1 p (c.in_ok-number-in-Some.ensures s.0 s.3 s.5) (c.in_ok-number-in-Some-2.ensures s.1 s.4 s.6) s.2
