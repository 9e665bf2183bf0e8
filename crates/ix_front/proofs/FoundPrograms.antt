-- The program that is found of bytes is formed, and one that can be checked.
use Rattle.std.proofs.Common.{◌≡◌, ℕ, ◌≤◌, List, length, Ok, Err, refl, sym, subst}
use Rattle.ix_core.specs.declared.program.Program.{Program}
use Rattle.ix_core.specs.Formed.{Formed}
use Rattle.ix_core.specs.Ready.{CanCheck}
use Rattle.ix_lexer.specs.declared.token.Token.{Token}
use Rattle.ix_lexer.specs.Spans.{InOrder}
use Rattle.ix_lexer.specs.Tokens.{Tokens, most_tokens}
use Rattle.ix_lexer.proofs.TokensInOrder.{in_order}
use Rattle.ix_tree.specs.declared.decl.Unit.{Unit as Source}
use Rattle.ix_tree.specs.Parts.{CanResolve}
use Rattle.ix_tree.specs.Placed.{Placed}
use Rattle.ix_grammar.specs.declared.classes.FoundUnit.{FoundUnit}
use Rattle.ix_grammar.specs.Refusals.{HasTree}
use Rattle.ix_grammar_rules.specs.Rule.{Outcome, run}
use Rattle.ix_grammar_rules.specs.SourceRules.{source as source_rule}
use Rattle.ix_parser.proofs.Refusing.{placed, can_resolve, only_tree, no_tree}
use Rattle.ix_formed.specs.IntTokens.{HaveInts}
use Rattle.ix_formed.proofs.LexedInts.{tokens_have_ints}
use Rattle.ix_formed.proofs.ParsedTrees.{parsed}
use Rattle.ix_meaning.specs.Resolved.{Accepts, names}
use Rattle.ix_formed.specs.Parsed.{IsParsed}
use Rattle.ix_formed.proofs.FormedSources.{formed_source}
use Rattle.ix_meaning.proofs.FewDeclarations.{few_members}
use Rattle.ix_formed.proofs.LoweredPrograms.{lowered_methods_few, lowered_few, lowered_apart}
use Rattle.ix_plain.specs.Program.{program as program_of}
use Rattle.ix_front.specs.Found.{Finding, Found, too_long, no_tokens, lexed, no_tree as untreed, tree, FoundIn, passes_limit, misnames, inherits, too_big, named}
use Rattle.ix_front.specs.Findings.{HasFormed}
use Rattle.ix_front.proofs.BytesFound.{refusal_formed, lex_formed}

-- each tree of the tokens of a text has what the promise rests on
read_parsed : (tokens : List Token) (end : ℕ) (unit : Source) → HasTree tokens unit → InOrder 0 end tokens → length tokens ≤ most_tokens → HaveInts tokens
    → (o : Outcome FoundUnit) → run source_rule tokens ≡ o → IsParsed unit
read_parsed tokens end unit has order few ints (Err (why, left)) is = absurd (no_tree tokens left why unit is has)
read_parsed tokens end unit has order few ints (Ok (found, left)) is =
    let only = only_tree tokens left found unit is has in
    let can = subst CanResolve only.1 (can_resolve tokens left found end only.0 is order few) in
    parsed tokens unit ints has can end (subst (Placed end) only.1 (placed tokens left found end only.0 is order))

source_formed : (source : Source) (made : Program) → IsParsed source → Accepts source → program_of (names source) source.classes ≡ Ok made → Formed made × CanCheck made
source_formed source made fine accepts is = (
  formed_source source made fine accepts (few_members source fine.can) is,
  record { methods = lowered_methods_few source made accepts fine is; few = lowered_few source made accepts fine is; apart = lowered_apart source made accepts fine is },
)

-- the same of the tokens of these bytes
pub tree_parsed : (bytes : List ℕ) (tokens : List Token) (source : Source) → Tokens bytes tokens → length tokens ≤ most_tokens → HasTree tokens source → IsParsed source
tree_parsed bytes tokens source is few has = read_parsed tokens (length bytes) source has (in_order bytes tokens is) few (tokens_have_ints bytes tokens is) (run source_rule tokens) refl

in_formed : (source : Source) (finding : Finding) → IsParsed source → FoundIn source finding → HasFormed finding
in_formed source _ fine (passes_limit p is) = tt
in_formed source _ fine (misnames errors refused) = tt
in_formed source _ fine (inherits p none clean is) = tt
in_formed source _ fine (too_big p accepts is) = tt
in_formed source _ fine (named made accepts is) = source_formed source made fine accepts is

pub found_formed : (bytes : List ℕ) (finding : Finding) → Found bytes finding → HasFormed finding
found_formed bytes _ (too_long past) = tt
found_formed bytes finding (no_tokens why short fails is) = lex_formed why finding (sym is)
found_formed bytes finding (lexed tokens short is few (untreed why refused same)) = refusal_formed tokens (length bytes) why finding (sym same)
found_formed bytes finding (lexed tokens short is few (tree source has found)) =
    in_formed source finding (tree_parsed bytes tokens source is few has) found
