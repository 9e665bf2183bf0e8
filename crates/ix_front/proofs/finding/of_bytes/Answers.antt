use Rattle.std.proofs.Common.{rules, sym}
use Rattle.std.proofs.lemmas.Result.{IfOk-weaker}
use Rattle.ix_formed.proofs.LexedInts.{tokens_have_ints}
use Rattle.ix_front.specs.Found as spec
use Rattle.ix_front.proofs.BytesFound.{of_lexed, cause_of, cause_only, lex_formed}
use Rattle.ix_front.proofs.finding.of_bytes.Goals as goal

pub returns-then-bytes-gt-MOST_BYTES-clause-right : goal.returns-then-bytes-gt-MOST_BYTES-clause-right
returns-then-bytes-gt-MOST_BYTES-clause-right c = spec.too_long (search rules)

pub returns-in-Ok-clause-right : goal.returns-in-Ok-clause-right
returns-in-Ok-clause-right c = IfOk-weaker c.of_tokens.result _ _
    (λ finding found. spec.lexed c.in-Ok.tokens.items (search rules) c.in-Ok.ensures.tokens c.in-Ok.ensures.few (rw (sym c.deref.ensures.value) found)) c.of_tokens.ensures.right

pub returns-in-Ok-clause-only : goal.returns-in-Ok-clause-only
returns-in-Ok-clause-only c = λ other found. IfOk-weaker c.of_tokens.result _ _
    (λ finding is. is) (c.of_tokens.ensures.only other (rw c.deref.ensures.value (of_lexed _ _ other (search rules) c.in-Ok.ensures.only_tokens c.in-Ok.ensures.only_cause found)))

pub returns-in-Some-clause-right : goal.returns-in-Some-clause-right
returns-in-Some-clause-right c = cause_of _ _ _ c.in-Some.ensures (search rules) c.in-Err.ensures.cause

pub returns-in-Some-clause-only : goal.returns-in-Some-clause-only
returns-in-Some-clause-only c = λ other found. cause_only _ _ _ other c.in-Some.ensures (search rules) c.in-Err.ensures.only_tokens c.in-Err.ensures.only_cause found

pub returns-in-Some-clause-formed : goal.returns-in-Some-clause-formed
returns-in-Some-clause-formed c = lex_formed _ _ c.in-Some.ensures

pub of_tokens-requires-clause-ints : goal.of_tokens-requires-clause-ints
of_tokens-requires-clause-ints c = rw c.deref.ensures.value (tokens_have_ints c.args.bytes.now c.in-Ok.tokens.items c.in-Ok.ensures.tokens)
