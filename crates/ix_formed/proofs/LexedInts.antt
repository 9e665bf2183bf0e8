-- The literals of a text's tokens are ints.
use Rattle.std.proofs.Common.{◌≡◌, ℕ, Bool, true, false, List, Option, Some, None, subst, arith}
use Rattle.std.specs.Prelude.{if◌then◌else◌, ◌&&◌, ◌==◌, not, int_le}
use Rattle.std.specs.Int.{cast_signed, w32}
use Rattle.std.proofs.lemmas.Int.{ints}
use Rattle.ix_num.specs.Ints.{IsInt as Int, least_int, greatest_int}
use Rattle.ix_num.proofs.RowsInclude.{test_true}
use Rattle.ix_core.specs.Machine.{is_int}
use Rattle.ix_lexer.specs.declared.elements.Element.{Element}
use Rattle.ix_lexer.specs.declared.elements.Element.TheVariants as element
use Rattle.ix_lexer.specs.declared.token.Token.{Token}
use Rattle.ix_lexer.specs.declared.token.TokenKind.{TokenKind}
use Rattle.ix_lexer.specs.declared.token.TokenKind.TheVariants as kind
use Rattle.ix_lexer.specs.Characters.{Text}
use Rattle.ix_lexer.specs.Numbers.{number_of, is_hexadecimal}
use Rattle.ix_lexer.specs.Tokens.{Reads, none, gap, one, Tokens, kind_of, number_kind, number_in, fixed_or, words}
use Rattle.ix_lexer.specs.Elements.{signs}
use Rattle.ix_formed.specs.IntTokens.{IsIntOf, HaveInts}
use Rattle.ix_formed.proofs.NumberLists.{both_true}

read_is_int : (n : ℕ) → is_int (cast_signed w32 n) ≡ true
read_is_int n =
    let int : Int (cast_signed w32 n) = record { from = omega (arith, ints); to = omega (arith, ints) } in
    both_true (int_le least_int (cast_signed w32 n)) (int_le (cast_signed w32 n) greatest_int) (test_true least_int (cast_signed w32 n) int.from) (test_true (cast_signed w32 n) greatest_int int.to)

-- so it is where there is a kind
abbrev IsKind : Option TokenKind → Type 0
IsKind None = Unit {0}
IsKind (Some what) = IsIntOf what

number_is : (hexadecimal : Bool) (o : Option ℕ) → IsKind (number_kind hexadecimal o)
number_is hexadecimal None = tt
number_is hexadecimal (Some n) = least_or_not (not hexadecimal && n == 2147483648)
  where
    least_or_not : (b : Bool) → IsKind (if b then Some kind.MinLit else Some (kind.Int (cast_signed w32 n)))
    least_or_not true = tt
    least_or_not false = read_is_int n

fixed_is : (otherwise : Option TokenKind) (o : Option ℕ) → IsKind otherwise → IsKind (fixed_or otherwise o)
fixed_is otherwise None is = is
fixed_is otherwise (Some n) is = tt

kind_is : (which : Element) (w : Text) → IsKind (kind_of which w)
kind_is element.Word w = fixed_is _ (number_in 0 words w) tt
kind_is element.Number w = number_is (is_hexadecimal w) (number_of w)
kind_is element.Quoted w = tt
kind_is element.Sign w = fixed_is None (number_in 53 signs w) tt
kind_is element.Gap w = tt
kind_is element.OpenComment w = tt
kind_is element.OpenString w = tt

read_ints : (at to : ℕ) (text left : Text) (tokens : List Token) → Reads at text tokens to left → HaveInts tokens
read_ints at to text left _ none = tt
read_ints at to text left tokens (gap w rest same longest later) = read_ints _ to rest left tokens later
read_ints at to text left _ (one {tokens} which w rest what same longest is later) = (subst IsKind is (kind_is which w), read_ints _ to rest left tokens later)

-- The tokens of a text have ints.
pub tokens_have_ints : (bytes : List ℕ) (tokens : List Token) → Tokens bytes tokens → HaveInts tokens
tokens_have_ints bytes tokens (text, spells, (end, reads), _) = read_ints 0 end text _ tokens reads
