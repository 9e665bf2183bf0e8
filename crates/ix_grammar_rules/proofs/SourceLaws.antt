-- The rules of a source read exactly the sources of the grammar, and stop where none can go on.
use Rattle.std.proofs.Common.{◌≡◌, ℕ, ◌≤◌, List, [], ◌∷◌, ◌++◌, Ok, Err, refl, sym, ap, subst, ◌∙◌}
use Rattle.std.proofs.lemmas.List.{append-nil, append_cancel_right}
use Rattle.ix_lexer.specs.declared.token.Token.{Token}
use Rattle.ix_grammar.specs.declared.classes.FoundUnit.{FoundUnit}
use Rattle.ix_grammar_rules.specs.declared.stop.Stop.{Stop}
use Rattle.ix_grammar_rules.specs.Rule.{Outcome, run}
use Rattle.ix_grammar.specs.SourceGrammar.{IsSource}
use Rattle.ix_grammar_rules.specs.ClassRules.{program}
use Rattle.ix_grammar_rules.specs.SourceRules.{parts, source}
use Rattle.ix_grammar.specs.Begins.{IsLowSource, NoneBegins}
use Rattle.ix_grammar_rules.proofs.Runs.{local, first, left_of, Elsewhere, same_ok}
use Rattle.ix_grammar_rules.proofs.SoundRules.{Sound}
use Rattle.ix_grammar_rules.proofs.SourceSound.{high_sound, source_sound}
use Rattle.ix_grammar_rules.proofs.SourceComplete.{StatementsComplete, high_reads, source_reads}
use Rattle.ix_grammar_rules.proofs.StmtHeights.{block_statement_within}
use Rattle.ix_grammar_rules.proofs.StmtComplete.{complete_block, no_else, no_brace, no_super, takes_block}

statements : StatementsComplete
statements = record {
  statement = λ ts a d room le us n. complete_block d room us le n;
  no_else = λ ts a d us. no_else d us;
  no_brace = λ ts a d us. no_brace d us;
  no_super = λ ts a d us. no_super d us;
  takes = λ ts a d. takes_block d;
}

-- what is read with any height left, and what it is that is read
pub high_is : (left : ℕ) → 1 ≤ left → Sound (λ ts found. IsSource ts found × (found.height ≤ left)) (program parts left)
high_is left one = high_sound block_statement_within left one

pub high_is_read : (left : ℕ) (tokens : List Token) (found : FoundUnit) → IsSource tokens found → found.height ≤ left → run (program parts left) tokens ≡ Ok (found, [])
high_is_read left tokens found d low = high_reads statements left tokens found d low

pub source_is : (tokens : List Token) (found : FoundUnit) → run source tokens ≡ Ok (found, []) → IsLowSource tokens found
source_is tokens found h =
    let s = source_sound block_statement_within in
    let (seen, is, d) = s.at tokens [] found h in
    subst (λ y. IsLowSource y found) (sym (is ∙ append-nil seen)) d

pub source_is_read : (tokens : List Token) (found : FoundUnit) → IsLowSource tokens found → run source tokens ≡ Ok (found, [])
source_is_read tokens found d = source_reads statements tokens found d.0 d.1

abbrev pub Read : List Token → Outcome FoundUnit
Read tokens = run source tokens

-- the same outcome with other tokens behind the one at which it stopped
pub elsewhere : (tokens : List Token) (o : Outcome FoundUnit) (token : Token) (later seen others : List Token) → Read tokens ≡ o → left_of o ≡ token ∷ later → tokens ≡ seen ++ token ∷ later → Read (seen ++ token ∷ others) ≡ Elsewhere o (token ∷ others)
elsewhere tokens o token later seen others h left is =
    let l = local source tokens in
    let rest : left_of (Read tokens) ≡ token ∷ later = ap (λ o. left_of o) h ∙ left in
    let front : l.seen ≡ seen = append_cancel_right l.seen seen (token ∷ later) (ap (λ y. l.seen ++ y) (sym rest) ∙ sym l.is ∙ is) in
    let same : Read (l.seen ++ token ∷ others) ≡ Elsewhere (Read tokens) (token ∷ others) = l.same (token ∷ others) (ap first rest) in
    subst (λ y. Read (y ++ token ∷ others) ≡ Elsewhere o (token ∷ others)) front (same ∙ ap (λ o. Elsewhere o (token ∷ others)) h)

pub no_error : (w : Stop × List Token) (found : FoundUnit) (o : Outcome FoundUnit) → o ≡ Err w → o ≡ Ok (found, []) → ⊥
no_error w found o a b = cc

-- where the rules stop nothing goes on
pub none_begins : (tokens : List Token) (stop : Stop) (us : List Token) → Read tokens ≡ Err (stop, us) → NoneBegins tokens us
none_begins tokens stop [] h = λ found d. no_error (stop, []) found (Read tokens) h (source_is_read tokens found d)
none_begins tokens stop (token ∷ later) h = λ seen is others found d. no_error (stop, token ∷ others) found (Read (seen ++ token ∷ others)) (elsewhere tokens (Err (stop, token ∷ later)) token later seen others h refl is) (source_is_read (seen ++ token ∷ others) found d)

pub no_more : (a b : FoundUnit) (token : Token) (others : List Token) (o : Outcome FoundUnit) → o ≡ Ok (a, token ∷ others) → o ≡ Ok (b, []) → ⊥
no_more a b token others o x y = no_token token others (ap (λ (p : FoundUnit × List Token). p.1) (same_ok (a, token ∷ others) (b, []) (sym x ∙ y)))
  where
    no_token : (token : Token) (others : List Token) → token ∷ others ≡ [] → ⊥
    no_token token others h = cc

-- likewise where tokens are left behind a source
pub none_goes_on : (tokens : List Token) (found : FoundUnit) (token : Token) (later : List Token) → Read tokens ≡ Ok (found, token ∷ later) → NoneBegins tokens (token ∷ later)
none_goes_on tokens found token later h = λ seen is others other d. no_more found other token others (Read (seen ++ token ∷ others)) (elsewhere tokens (Ok (found, token ∷ later)) token later seen others h refl is) (source_is_read (seen ++ token ∷ others) other d)
