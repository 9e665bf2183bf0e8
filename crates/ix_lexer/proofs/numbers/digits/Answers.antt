use Rattle.std.proofs.Common.{arith, ◌∙◌, sym, eq-eqb}
use Rattle.std.proofs.lemmas.Bool.{ne_eqb}
use Rattle.ix_lexer.specs.Characters.{first}
use Rattle.ix_lexer.proofs.DigitsFromTheFront.{digits_is, no_digits}
use Rattle.ix_lexer.proofs.numbers.digits.Goals as goal

pub returns-then-first-eq95 : goal.returns-then-first-eq95
returns-then-first-eq95 c = no_digits c.args.base c.args.most c.args.text.now (eq-eqb (first c.args.text.now) 95 (sym c.first.ensures ∙ c.if-first-eq95.true))

pub returns-else-first-eq95 : goal.returns-else-first-eq95
returns-else-first-eq95 c =
    c.digits_from.ensures ∙ digits_is c.args.base c.args.most c.args.text.now (omega arith) (ne_eqb (first c.args.text.now) 95 (λ k. c.if-first-eq95.false (c.first.ensures ∙ k)))
