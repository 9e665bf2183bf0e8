-- Of bytes one thing is found, and nothing else.
use Rattle.std.proofs.Common.{◌≡◌, ℕ, List, length, sym, ap, subst, ◌∙◌}
use Rattle.ix_lexer.specs.declared.token.Token.{Token}
use Rattle.ix_tree.specs.declared.decl.Unit.{Unit as Source}
use Rattle.ix_parser.proofs.Laws as parsed
use Rattle.ix_front.specs.Found.{Finding, Found, too_long, no_tokens, lexed, FoundOf, no_tree, tree, FoundIn, passes_limit, misnames, inherits, too_big, named, of_lex_error, of_parse_error}
use Rattle.ix_front.proofs.BytesFound.{some_is, past-only}
use Rattle.ix_front.proofs.NamesFound.{accepted_only, big_only, errors_only, passed_only, inherited_only}
use Rattle.ix_front.proofs.OneReading.{one_failure, one_lexing, never_both}

one_in : (source : Source) (a b : Finding) → FoundIn source a → FoundIn source b → a ≡ b
one_in source _ b (passes_limit p is) found = passed_only source p b is found
one_in source _ b (misnames errors refused) found = errors_only source errors b refused found
one_in source _ b (inherits p none no_errors is) found = inherited_only source p b none no_errors is found
one_in source _ b (too_big p accepts is) found = big_only source p b accepts is found
one_in source _ b (named made accepts is) found = accepted_only source made b accepts is found

one_of : (tokens : List Token) (end : ℕ) (a b : Finding) → FoundOf tokens end a → FoundOf tokens end b → a ≡ b
one_of tokens end a b (no_tree why refused is) (no_tree other also same) = some_is a b (sym is ∙ ap (of_parse_error tokens end) (parsed.one_error tokens why other refused also) ∙ same)
one_of tokens end a b (no_tree why refused is) (tree source has found) = absurd (parsed.not_both tokens source why has refused)
one_of tokens end a b (tree source has found) (no_tree why refused is) = absurd (parsed.not_both tokens source why has refused)
one_of tokens end a b (tree source has found) (tree other also more) = one_in other a b (subst (λ u. FoundIn u a) (parsed.one_tree tokens source other has also) found) more

pub one_finding : (bytes : List ℕ) (a b : Finding) → Found bytes a → Found bytes b → a ≡ b
one_finding bytes _ b (too_long past) found = past-only bytes b past found
one_finding bytes a _ found (too_long past) = sym (past-only bytes a past found)
one_finding bytes a b (no_tokens why short fails is) (no_tokens other few also same) = some_is a b (sym is ∙ ap of_lex_error (one_failure bytes why other fails also) ∙ same)
one_finding bytes a b (no_tokens why short fails is) (lexed tokens few lexing small found) = absurd (never_both bytes tokens why lexing small fails)
one_finding bytes a b (lexed tokens short lexing small found) (no_tokens why few fails is) = absurd (never_both bytes tokens why lexing small fails)
one_finding bytes a b (lexed tokens short lexing small found) (lexed others few also little more) =
    one_of others (length bytes) a b (subst (λ ts. FoundOf ts (length bytes) a) (one_lexing bytes tokens others lexing also small little) found) more
