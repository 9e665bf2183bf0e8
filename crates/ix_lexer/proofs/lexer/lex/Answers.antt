use Rattle.std.proofs.Common.{ap, ◌∙◌, inl}
use Rattle.std.specs.Str.{chars}
use Rattle.ix_lexer.specs.declared.token.LexError.TheVariants.{BadUtf8}
use Rattle.ix_lexer.proofs.WholeText.{answer_tokens, answer_cause, size_of, only_tokens, only_cause, only_bad_utf8}
use Rattle.ix_lexer.proofs.TokensInOrder.{answer_in_order, answer_within}
use Rattle.ix_lexer.proofs.lexer.lex.Goals as goal

pub escapeless_tokens-requires : goal.escapeless_tokens-requires
escapeless_tokens-requires c =
    let is = c.deref.ensures.value ∙ c.in_ok-characters-in-Ok.ensures ∙ ap chars c.in-Ok.ensures.cases.0 in
    size_of c.args.text.now c.deref.result.now _ c.in-Ok.ensures.cases.1 is c.requires

pub returns-in-Err-clause-only_cause : goal.returns-in-Err-clause-only_cause
returns-in-Err-clause-only_cause c = λ why f.
    inl (ap BadUtf8 c.valid_up_to.ensures ∙ only_bad_utf8 c.args.text.now _ c.in-Err.ensures.cases.0 c.in-Err.ensures.cases.1 why f)

pub returns-in_ok-characters-in-Ok-clause-tokens : goal.returns-in_ok-characters-in-Ok-clause-tokens
returns-in_ok-characters-in-Ok-clause-tokens c =
    let is = c.deref.ensures.value ∙ c.in_ok-characters-in-Ok.ensures ∙ ap chars c.in-Ok.ensures.cases.0 in
    answer_tokens c.args.text.now c.in-Ok.ensures.cases.1 c.deref.result.now is c.escapeless_tokens.result c.escapeless_tokens.ensures.tokens

pub returns-in_ok-characters-in-Ok-clause-cause : goal.returns-in_ok-characters-in-Ok-clause-cause
returns-in_ok-characters-in-Ok-clause-cause c =
    let is = c.deref.ensures.value ∙ c.in_ok-characters-in-Ok.ensures ∙ ap chars c.in-Ok.ensures.cases.0 in
    answer_cause c.args.text.now c.in-Ok.ensures.cases.1 c.deref.result.now is c.escapeless_tokens.result c.escapeless_tokens.ensures.stopped

pub returns-in_ok-characters-in-Ok-clause-only_tokens : goal.returns-in_ok-characters-in-Ok-clause-only_tokens
returns-in_ok-characters-in-Ok-clause-only_tokens c =
    let is = c.deref.ensures.value ∙ c.in_ok-characters-in-Ok.ensures ∙ ap chars c.in-Ok.ensures.cases.0 in
    only_tokens c.args.text.now c.in-Ok.ensures.cases.1 c.deref.result.now is c.escapeless_tokens.result c.escapeless_tokens.ensures.tokens c.escapeless_tokens.ensures.stopped

pub returns-in_ok-characters-in-Ok-clause-only_cause : goal.returns-in_ok-characters-in-Ok-clause-only_cause
returns-in_ok-characters-in-Ok-clause-only_cause c =
    let is = c.deref.ensures.value ∙ c.in_ok-characters-in-Ok.ensures ∙ ap chars c.in-Ok.ensures.cases.0 in
    only_cause c.args.text.now c.in-Ok.ensures.cases.1 c.deref.result.now is c.escapeless_tokens.result c.escapeless_tokens.ensures.tokens c.escapeless_tokens.ensures.stopped

pub returns-in_ok-characters-in-Ok-clause-in_order : goal.returns-in_ok-characters-in-Ok-clause-in_order
returns-in_ok-characters-in-Ok-clause-in_order c =
    let is = c.deref.ensures.value ∙ c.in_ok-characters-in-Ok.ensures ∙ ap chars c.in-Ok.ensures.cases.0 in
    answer_in_order c.args.text.now c.escapeless_tokens.result (answer_tokens c.args.text.now c.in-Ok.ensures.cases.1 c.deref.result.now is c.escapeless_tokens.result c.escapeless_tokens.ensures.tokens)

pub returns-in_ok-characters-in-Ok-clause-places : goal.returns-in_ok-characters-in-Ok-clause-places
returns-in_ok-characters-in-Ok-clause-places c =
    let is = c.deref.ensures.value ∙ c.in_ok-characters-in-Ok.ensures ∙ ap chars c.in-Ok.ensures.cases.0 in
    answer_within c.args.text.now c.escapeless_tokens.result (answer_cause c.args.text.now c.in-Ok.ensures.cases.1 c.deref.result.now is c.escapeless_tokens.result c.escapeless_tokens.ensures.stopped)
