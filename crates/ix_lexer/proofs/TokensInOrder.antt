-- The tokens of a text stand in order in it, and none is empty. The place of an error lies in the text.
use Rattle.std.proofs.Common.{◌≡◌, ℕ, ◌+◌, ◌≤◌, Bool, true, false, ◌&&◌, not, ◌==◌, if◌then◌else◌, List, [], ◌∷◌, length, Option, Some, None, Ok, Err, refl, sym, ap, subst, arith, inl, inr, ◌≢◌}
use Rattle.std.specs.Prelude.{IfOk, IfErr}
use Rattle.std.specs.Str.{byte}
use Rattle.std.proofs.lemmas.Str.{length-le-encodes}
use Rattle.ix_lexer.specs.declared.elements.Element.{Element}
use Rattle.ix_lexer.specs.declared.token.Token.{Token}
use Rattle.ix_lexer.specs.declared.token.LexError.{LexError}
use Rattle.ix_lexer.specs.declared.token.LexError.TheVariants as error
use Rattle.ix_lexer.specs.Elements.{IsElement, white_space, line_comment, comment, open_comment, word, number, quoted, open_string, sign}
use Rattle.ix_lexer.specs.Characters.{Text, backslash, first}
use Rattle.ix_lexer.specs.Tokens.{Longest, size, Reads, none, gap, one, escape_from, first_escape, StopsFirst, Stopped, Tokens, Fails, Spells}
use Rattle.ix_lexer.specs.Spans.{InOrder, IsWithin}
use Rattle.ix_lexer.proofs.LongestElement.{some_sign}
use Rattle.ix_lexer.proofs.ReadingSteps.{size_append}
use Rattle.ix_lexer.proofs.WholeText.{Answer}

not_empty : {which : Element} {w : Text} → IsElement which w → 1 ≤ length w
not_empty (white_space h) = omega arith
not_empty (line_comment h) = omega arith
not_empty (comment cs h) = omega arith
not_empty open_comment = omega arith
not_empty (word s h) = omega arith
not_empty (number d h) = omega arith
not_empty (quoted cs b) = omega arith
not_empty open_string = omega arith
not_empty (sign {cs} k) = some_sign cs k

some_bytes : (which : Element) (w text : Text) → Longest which w text → 1 ≤ size w
some_bytes which w text l = omega (arith, length-le-encodes w, not_empty l.0)

from_before : (a b end : ℕ) (tokens : List Token) → a ≤ b → InOrder b end tokens → InOrder a end tokens
from_before a b end [] h o = omega (arith, o)
from_before a b end (t ∷ tokens) h o = (omega (arith, o.0), o.1, o.2)

to_behind : (from a b : ℕ) (tokens : List Token) → a ≤ b → InOrder from a tokens → InOrder from b tokens
to_behind from a b [] h o = omega (arith, o)
to_behind from a b (t ∷ tokens) h o = (o.0, o.1, to_behind t.span.to a b tokens h o.2)

read_in_order : {at to : ℕ} {text left : Text} {tokens : List Token} → Reads at text tokens to left → InOrder at to tokens
read_in_order none = omega arith
read_in_order {at} {to} {text} {left} {tokens} (gap w rest e l r) = from_before at (at + size w) to tokens (omega arith) (read_in_order r)
read_in_order {at} {to} {text} (one which w rest what e l k r) = (omega arith, omega (arith, some_bytes which w text l), read_in_order r)

read_size : {at to : ℕ} {text left : Text} {tokens : List Token} → Reads at text tokens to left → to + size left ≡ at + size text
read_size none = refl
read_size {at} {to} {text} {left} (gap w rest e l r) = omega (arith, read_size r, ap size e, size_append w rest)
read_size {at} {to} {text} {left} (one which w rest what e l k r) = omega (arith, read_size r, ap size e, size_append w rest)

pub in_order : (bytes : List ℕ) (tokens : List Token) → Tokens bytes tokens → InOrder 0 (length bytes) tokens
in_order bytes tokens t = to_behind 0 t.2.0 (length bytes) tokens (omega (arith, read_size t.2.1, ap length t.1.1)) (read_in_order t.2.1)

pub answer_in_order : (bytes : List ℕ) (r : Answer) → IfOk r (λ v. Tokens bytes v.items) → IfOk r (λ v. InOrder 0 (length bytes) v.items)
answer_in_order bytes (Ok v) t = in_order bytes v.items t
answer_in_order bytes (Err x) t = tt

-- ---- the place of an error

stopped_within : (bytes : List ℕ) (text : Text) (tokens : List Token) (at place : ℕ) (left : Text) → Spells text bytes → Reads 0 text tokens at left → place ≡ at → place ≤ length bytes
stopped_within bytes text tokens at place left s r e = omega (arith, read_size r, ap length s.1)

-- what stops the reading lies in the text
stop_within : (bytes : List ℕ) (text : Text) (why : LexError) → Spells text bytes → Stopped text why → IsWithin (length bytes) why
stop_within bytes text (error.BadUtf8 k) s f = absurd f.5
stop_within bytes text (error.BadChar k) s f = stopped_within bytes text f.0 f.1 k f.2 s f.3 f.5.0
stop_within bytes text (error.OpenComment k) s f = stopped_within bytes text f.0 f.1 k f.2 s f.3 f.5.0
stop_within bytes text (error.OpenString k) s f = stopped_within bytes text f.0 f.1 k f.2 s f.3 f.5.0
stop_within bytes text (error.BadNumber k) s f = stopped_within bytes text f.0 f.1 k f.2 s f.3 f.5.0
stop_within bytes text (error.TooMany k) s f = stopped_within bytes text f.0 f.1 k f.2 s f.3 f.5.0
stop_within bytes text error.Memory s f = absurd f.5

-- an escape stands in the text
escape_within : (even : Bool) (at : ℕ) (text : Text) (place : ℕ) → escape_from even at text ≡ Some place → place ≤ at + size text
escape_within even at [] place h = cc
escape_within even at (c ∷ cs) place h =
    elim (even && c == backslash && first cs == byte "u") as (λ b. (if b then Some at else escape_from (not (even && c == backslash)) (at + size (c ∷ [])) cs) ≡ Some place → place ≤ at + size (c ∷ cs)) [
      | true ↦ λ g. let e : at ≡ place = cc in omega (arith, e)
      | false ↦ λ g. omega (arith, escape_within (not (even && c == backslash)) (at + size (c ∷ [])) cs place g, size_append (c ∷ []) cs)
    ] h

first_within : (bytes : List ℕ) (text : Text) (why : LexError) (escape : Option ℕ) → escape ≡ first_escape text → Spells text bytes → StopsFirst escape text why → IsWithin (length bytes) why
first_within bytes text why None e s f = stop_within bytes text why s f
first_within bytes text why (Some place) e s (inl f) = stop_within bytes text why s f.0
first_within bytes text why (Some place) e s (inr f) =
    let within : IsWithin (length bytes) (error.BadChar place) = omega (arith, escape_within true 0 text place (sym e), ap length s.1) in
    subst (IsWithin (length bytes)) (sym f.0) within

fails_within : (bytes : List ℕ) (why : LexError) → Fails bytes why → IsWithin (length bytes) why
fails_within bytes (error.BadUtf8 k) f = omega (arith, f.1.short)
fails_within bytes (error.BadChar k) f = first_within bytes f.0 (error.BadChar k) (first_escape f.0) refl f.1 f.2
fails_within bytes (error.OpenComment k) f = first_within bytes f.0 (error.OpenComment k) (first_escape f.0) refl f.1 f.2
fails_within bytes (error.OpenString k) f = first_within bytes f.0 (error.OpenString k) (first_escape f.0) refl f.1 f.2
fails_within bytes (error.BadNumber k) f = first_within bytes f.0 (error.BadNumber k) (first_escape f.0) refl f.1 f.2
fails_within bytes (error.TooMany k) f = first_within bytes f.0 (error.TooMany k) (first_escape f.0) refl f.1 f.2
fails_within bytes error.Memory f = tt

error_within : (bytes : List ℕ) (why : LexError) → (why ≢ error.Memory → Fails bytes why) → IsWithin (length bytes) why
error_within bytes (error.BadUtf8 k) f = fails_within bytes (error.BadUtf8 k) (f (λ h. cc))
error_within bytes (error.BadChar k) f = fails_within bytes (error.BadChar k) (f (λ h. cc))
error_within bytes (error.OpenComment k) f = fails_within bytes (error.OpenComment k) (f (λ h. cc))
error_within bytes (error.OpenString k) f = fails_within bytes (error.OpenString k) (f (λ h. cc))
error_within bytes (error.BadNumber k) f = fails_within bytes (error.BadNumber k) (f (λ h. cc))
error_within bytes (error.TooMany k) f = fails_within bytes (error.TooMany k) (f (λ h. cc))
error_within bytes error.Memory f = tt

pub answer_within : (bytes : List ℕ) (r : Answer) → IfErr r (λ x. x ≢ error.Memory → Fails bytes x) → IfErr r (IsWithin (length bytes))
answer_within bytes (Ok v) f = tt
answer_within bytes (Err x) f = error_within bytes x f
