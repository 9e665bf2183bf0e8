use Rattle.std.proofs.Common.{subst}
use Rattle.ix_lexer.specs.Tokens as spec
use Rattle.ix_lexer.proofs.EscapesFirst.{escape_alone, first_of_both}
use Rattle.ix_lexer.proofs.lexer.escapeless_tokens.Goals as goal

pub returns-in-Some-clause-stopped : goal.returns-in-Some-clause-stopped
returns-in-Some-clause-stopped c = λ _.
    escape_alone c.args.text.now c.in-Ok.tokens.items c.in-Some.place c.first_escape-escape.result c.first_escape-escape.ensures c.in-Some.is c.in-Ok.ensures.tokens

pub returns-in-Err-clause-stopped : goal.returns-in-Err-clause-stopped
returns-in-Err-clause-stopped c = λ m.
    subst (λ escape. spec.StopsFirst escape c.args.text.now c.first_cause.result) c.first_escape-escape.ensures
    (first_of_both c.args.text.now c.in-Err.why c.first_cause.result c.first_escape-escape.result c.in-Err.ensures.stopped c.first_cause.ensures m)
