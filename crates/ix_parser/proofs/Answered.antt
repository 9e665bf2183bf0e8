-- The answers of `parse`, which wants memory or follows the rules of a source.
use Rattle.std.proofs.Common.{◌≡◌, ◌≢◌, ℕ, List, length, Ok, Err, refl, subst, arith, ◌⊎◌, inl, inr}
use Rattle.ix_lexer.specs.declared.token.Token.{Token}
use Rattle.ix_lexer.specs.Spans.{InOrder}
use Rattle.ix_tree.specs.declared.decl.Unit.{Unit as Source}
use Rattle.ix_grammar.specs.declared.classes.FoundUnit.{FoundUnit}
use Rattle.ix_grammar.specs.declared.error.ParseError.{ParseError}
use Rattle.ix_grammar.specs.declared.error.ParseError.TheVariants as error
use Rattle.ix_grammar_rules.specs.declared.stop.Stop.{Stop}
use Rattle.ix_grammar_rules.specs.declared.stop.Stop.TheVariants as stop
use Rattle.ix_grammar_rules.specs.Rule.{run}
use Rattle.ix_grammar_rules.specs.SourceRules.{source}
use Rattle.ix_grammar_rules.specs.Errors.{place, error_at}
use Rattle.ix_grammar.specs.Refusals.{HasTree, Refused, unfinished, no_further, too_deep, IsWithin}
use Rattle.ix_parser.proofs.ExactPlaces.{refused_exact, refused_behind, refused_one, refused_no_tree}
use Rattle.ix_grammar_rules.proofs.ExprOver.{init_over, args_over}
use Rattle.ix_grammar_rules.proofs.ExprViable.{init_viable, args_viable}
use Rattle.ix_lexer.proofs.SplitInOrder.{drop_starts}
use Rattle.ix_parser.proofs.Refusing.{no_tree}
use Rattle.ix_grammar_rules.proofs.SourceOver.{TermsOver}
use Rattle.ix_grammar_rules.proofs.SourceViable.{TermsViable}
use Rattle.ix_grammar_rules.proofs.StmtOver.{block_statement_over}
use Rattle.ix_grammar_rules.proofs.StmtsViable.{block_statement_viable}

-- ---- expressions and statements

pub viable : TermsViable
viable = record {
  init = init_viable;
  args = λ left opening. args_viable opening left;
  statement = block_statement_viable;
}

pub over : TermsOver
over = record { init = init_over; args = args_over; statement = block_statement_over }

-- ---- what was read from the start

pub from_stop : (start tokens left : List Token) (why : Stop) → start ≡ tokens → (why ≢ stop.Memory → run source start ≡ Err (why, left)) → why ≢ stop.Memory → run source tokens ≡ Err (why, left)
from_stop start tokens left why is h = subst (λ ts. why ≢ stop.Memory → run source ts ≡ Err (why, left)) is h

pub from_whole : (start tokens left : List Token) (found : FoundUnit) → start ≡ tokens → run source start ≡ Ok (found, left) → run source tokens ≡ Ok (found, left)
from_whole start tokens left found is h = subst (λ ts. run source ts ≡ Ok (found, left)) is h

-- ---- a rule stopped

abbrev Stopped : List Token → List Token → Stop → Type 0
Stopped tokens left why = why ≢ stop.Memory → run source tokens ≡ Err (why, left)

pub stop_only : (tokens left : List Token) (why : Stop) (unit : Source) → Stopped tokens left why → HasTree tokens unit → error_at why tokens left ≡ error.Memory
stop_only tokens left stop.Syntax unit h d = absurd (no_tree tokens left stop.Syntax unit (h (λ same. cc)) d)
stop_only tokens left stop.TooDeep unit h d = absurd (no_tree tokens left stop.TooDeep unit (h (λ same. cc)) d)
stop_only tokens left stop.Memory unit h d = refl

not_memory : (tokens left : List Token) (why : Stop) → error_at why tokens left ≢ error.Memory → why ≢ stop.Memory
not_memory tokens left why some same = some (rw same refl)

pub stop_refused : (tokens left : List Token) (why : Stop) → Stopped tokens left why → error_at why tokens left ≢ error.Memory → Refused tokens (error_at why tokens left)
stop_refused tokens left why h some = let other = not_memory tokens left why some in refused_exact viable over tokens left why other (h other)

one_error : (tokens left : List Token) (why : Stop) (e : ParseError) → why ≢ stop.Memory → run source tokens ≡ Err (why, left) → Refused tokens e → error_at why tokens left ≡ e
one_error tokens left why e other h d = refused_one tokens (error_at why tokens left) e (refused_exact viable over tokens left why other h) d

pub stop_only_refused : (tokens left : List Token) (why : Stop) (e : ParseError) → Stopped tokens left why → Refused tokens e → (error_at why tokens left ≡ e) ⊎ (error_at why tokens left ≡ error.Memory)
stop_only_refused tokens left stop.Syntax e h d = inl (one_error tokens left stop.Syntax e (λ same. cc) (h (λ same. cc)) d)
stop_only_refused tokens left stop.TooDeep e h d = inl (one_error tokens left stop.TooDeep e (λ same. cc) (h (λ same. cc)) d)
stop_only_refused tokens left stop.Memory e h d = inr refl

within_by : (tokens : List Token) (end : ℕ) (e : ParseError) → InOrder 0 end tokens → Refused tokens e → IsWithin (length tokens) end e
within_by tokens end _ o (unfinished s) = omega arith
within_by tokens end _ o (no_further s is none) = s.0
within_by tokens end _ o (too_deep {later} {token} {number} s is begins) = drop_starts number 0 end tokens later token o is

pub stop_within : (tokens left : List Token) (why : Stop) (end : ℕ) → Stopped tokens left why → InOrder 0 end tokens → IsWithin (length tokens) end (error_at why tokens left)
stop_within tokens left stop.Syntax end h o = within_by tokens end (error_at stop.Syntax tokens left) o (refused_exact viable over tokens left stop.Syntax (λ same. cc) (h (λ same. cc)))
stop_within tokens left stop.TooDeep end h o = within_by tokens end (error_at stop.TooDeep tokens left) o (refused_exact viable over tokens left stop.TooDeep (λ same. cc) (h (λ same. cc)))
stop_within tokens left stop.Memory end h o = tt

-- ---- tokens are left behind a source

pub over_refused : (tokens left : List Token) (found : FoundUnit) → length left ≢ 0 → run source tokens ≡ Ok (found, left) → Refused tokens (error.Syntax (place tokens left))
over_refused tokens left found some h = refused_behind viable over tokens left found some h

pub over_only_refused : (tokens left : List Token) (found : FoundUnit) (e : ParseError) → length left ≢ 0 → run source tokens ≡ Ok (found, left) → Refused tokens e → error.Syntax (place tokens left) ≡ e
over_only_refused tokens left found e some h d = refused_one tokens (error.Syntax (place tokens left)) e (over_refused tokens left found some h) d

pub over_within : (tokens left : List Token) (found : FoundUnit) (end : ℕ) → length left ≢ 0 → run source tokens ≡ Ok (found, left) → InOrder 0 end tokens → IsWithin (length tokens) end (error.Syntax (place tokens left))
over_within tokens left found end some h o = within_by tokens end (error.Syntax (place tokens left)) o (over_refused tokens left found some h)

-- ---- a tree was found

pub tree_refused : (tokens : List Token) (unit : Source) (e : ParseError) → HasTree tokens unit → Refused tokens e → ⊥
tree_refused tokens unit e (height, low) d = refused_no_tree tokens e (record { unit = unit; height = height }) d low
