-- One element off the front of a text: what it is, why there is none, and how a reading goes on behind it.
use Rattle.std.proofs.Common.{◌≡◌, ℕ, ◌+◌, ◌^◌, ◌<◌, ◌≤◌, ◌==◌, ◌&&◌, not, nat_eq, Bool, true, false, List, [], ◌∷◌, ◌++◌, length, get_or, take, drop, Option, Some, None, refl, sym, ap, subst, ◌∙◌, arith, ◌≢◌, if◌then◌else◌, append-nil, zero, suc}
use Rattle.std.specs.Prelude.{IfSome}
use Rattle.std.specs.List.{Contains}
use Rattle.std.specs.Int.{cast_signed, w32}
use Rattle.std.specs.Str.{encode_utf8_all}
use Rattle.std.specs.Cmp.Lexicographic.{pointwise, bytes_decides}
use Rattle.std.proofs.lemmas.Str.{encodes-append, length-le-encodes}
use Rattle.std.proofs.lemmas.List.{take-append-drop, length-append}
use Rattle.ix_lexer.specs.declared.elements.Element.{Element}
use Rattle.ix_lexer.specs.declared.elements.Element.TheVariants as element
use Rattle.ix_lexer.specs.declared.token.Token.{Token}
use Rattle.ix_lexer.specs.declared.token.TokenKind.{TokenKind}
use Rattle.ix_lexer.specs.declared.token.TokenKind.TheVariants as kind
use Rattle.ix_lexer.specs.declared.token.LexError.TheVariants as error
use Rattle.ix_lexer.specs.Characters.{Text}
use Rattle.ix_lexer.specs.Elements.{IsElement, signs}
use Rattle.ix_lexer.specs.Elements.{sign as sign_element}
use Rattle.ix_lexer.specs.Scan.{element_at}
use Rattle.ix_lexer.specs.Steps.{IsStep}
use Rattle.ix_lexer.specs.Tokens.{Longest, kind_of, fixed_or, number_kind, number_in, most_tokens, Stops, size, token, Reads, none, gap, one, Complete}
use Rattle.ix_lexer.proofs.LongestElement.{found}
use Rattle.ix_lexer.proofs.OneReading.{longest_found, none_found, take_front, reads_on}

-- ---- what the element is, by its kind and the number of its characters

pub longest_take : (which : Element) (n : ℕ) (text : Text) → element_at text ≡ found which n → Longest which (take n text) text
longest_take which n text h =
    let l = longest_found which n text h in
    let t : take n text ≡ l.0 = ap (λ m. take m text) (sym l.1) ∙ ap (take (length l.0)) l.2.1.1 ∙ take_front l.0 l.2.1.0 in
    subst (λ w. Longest which w text) (sym t) l.2

pub longest_as : (which other : Element) (n : ℕ) (text : Text) → element_at text ≡ found which n → which ≡ other → Longest other (take n text) text
longest_as which other n text h e = subst (λ z. Longest z (take n text) text) e (longest_take which n text h)

-- ---- what has no kind is a gap, an open comment or string, or a bad number

fixed_is : (fixed w : Text) (table : List Text) (n : ℕ) (b : Bool) → pointwise nat_eq fixed w ≡ b → number_in n (fixed ∷ table) w ≡ None → (b ≡ true → ⊥) × (number_in (n + 1) table w ≡ None)
fixed_is fixed w table n true e h = (λ k. let f : number_in n (fixed ∷ table) w ≡ Some n = rw e refl in cc, let f : number_in n (fixed ∷ table) w ≡ Some n = rw e refl in cc)
fixed_is fixed w table n false e h = (λ k. cc, rw e at h)

in_table : (table : List Text) (w : Text) (k : ℕ) → k < length table → get_or table k w ≡ w → (n : ℕ) → number_in n table w ≡ None → ⊥
in_table [] w k lt e n h = absurd (omega arith)
in_table (t ∷ table) w zero lt e n h = (fixed_is t w table n (pointwise nat_eq t w) refl h).0 ((bytes_decides t w).1 e)
in_table (t ∷ table) w (suc k) lt e n h = in_table table w k (omega arith) e (n + 1) (fixed_is t w table n (pointwise nat_eq t w) refl h).1

in_signs : (w : Text) → IsElement element.Sign w → Contains signs w
in_signs w (sign_element k) = k

no_number : (o : Option ℕ) → fixed_or None o ≡ None → o ≡ None
no_number None h = refl
no_number (Some n) h = cc

no_value : (hexadecimal : Bool) (o : Option ℕ) → number_kind hexadecimal o ≡ None → o ≡ None
no_value hexadecimal None h = refl
no_value hexadecimal (Some n) h =
    elim (not hexadecimal && n == 2147483648) as (λ c. (if c then Some kind.MinLit else Some (kind.Int (cast_signed w32 n))) ≡ None → Some n ≡ None) [ true ↦ λ g. cc | false ↦ λ g. cc ] h

a_kind : (what : TokenKind) (o : Option ℕ) → fixed_or (Some what) o ≡ None → ⊥
a_kind what None h = cc
a_kind what (Some n) h = cc

pub bad_number : (which : Element) (n at count : ℕ) (text : Text) → element_at text ≡ found which n → kind_of which (take n text) ≡ None → which ≢ element.Gap → which ≢ element.OpenComment → which ≢ element.OpenString → Stops (error.BadNumber at) count at text
bad_number element.Gap n at count text h bare a b c = absurd (a refl)
bad_number element.OpenComment n at count text h bare a b c = absurd (b refl)
bad_number element.OpenString n at count text h bare a b c = absurd (c refl)
bad_number element.Word n at count text h bare a b c = absurd (a_kind _ _ bare)
bad_number element.Quoted n at count text h bare a b c = cc
bad_number element.Sign n at count text h bare a b c =
    let k = in_signs (take n text) (longest_take element.Sign n text h).0 in
    absurd (in_table signs (take n text) k.0 k.1 k.2 53 (no_number _ bare))
bad_number element.Number n at count text h bare a b c = (refl, (take n text, longest_take element.Number n text h, no_value _ _ bare))

pub bad_char : (at count : ℕ) (text : Text) → element_at text ≡ None → 1 ≤ length text → Stops (error.BadChar at) count at text
bad_char at count text h l = (refl, l, none_found text h)

pub too_many : (which : Element) (n at count : ℕ) (text : Text) (what : TokenKind) → element_at text ≡ found which n → kind_of which (take n text) ≡ Some what → count ≡ most_tokens → Stops (error.TooMany at) count at text
too_many which n at count text what h k c = (refl, c, (which, take n text, what, longest_take which n text h, k))

-- ---- sizes

pub size_append : (u v : Text) → size (u ++ v) ≡ size u + size v
size_append u v = ap length (encodes-append u v) ∙ length-append (encode_utf8_all u) (encode_utf8_all v)

pub size_split : (n : ℕ) (text : Text) → size text ≡ size (take n text) + size (drop n text)
size_split n text = ap size (sym (take-append-drop n text)) ∙ size_append (take n text) (drop n text)

pub few_characters : (text whole : Text) (at : ℕ) → at + size text ≡ size whole → size whole < 2 ^ 32 → length text < 2 ^ 60
few_characters text whole at e h = omega (arith, length-le-encodes text)

pub left_size : (text new whole : Text) (at n taken : ℕ) → at + size text ≡ size whole → new ≡ drop n text → taken ≡ size (take n text) → at + taken + size new ≡ size whole
left_size text new whole at n taken e d s = omega (arith, size_split n text, ap size d)

-- ---- a reading goes on behind one element

pub begun : (text : Text) (tokens : List Token) → tokens ≡ [] → Reads 0 text tokens 0 text
begun text tokens e = subst (λ us. Reads 0 text us 0 text) (sym e) none

pub at_end : (whole text : Text) (tokens : List Token) (at : ℕ) → Reads 0 whole tokens at text → length text ≡ 0 → Complete whole tokens
at_end whole [] tokens at r h = (at, r)
at_end whole (c ∷ text) tokens at r h = absurd (omega arith)

behind_gap : (whole text : Text) (ts : List Token) (at to n : ℕ) → Reads 0 whole ts at text → Longest element.Gap (take n text) text → to ≡ at + size (take n text) → Reads 0 whole ts to (drop n text)
behind_gap whole text ts at to n r l e =
    let s : Reads at text [] (at + size (take n text)) (drop n text) = gap (take n text) (drop n text) (sym (take-append-drop n text)) l none in
    subst (λ k. Reads 0 whole ts k (drop n text)) (sym e) (subst (λ us. Reads 0 whole us (at + size (take n text)) (drop n text)) (append-nil ts) (reads_on r s))

behind_token : (whole text : Text) (ts : List Token) (at to n : ℕ) (what : TokenKind) → Reads 0 whole ts at text → IsStep (Some what) (take n text) text → to ≡ at + size (take n text) → Reads 0 whole (ts ++ token what at to ∷ []) to (drop n text)
behind_token whole text ts at to n what r l e =
    let s : Reads at text (token what at (at + size (take n text)) ∷ []) (at + size (take n text)) (drop n text) = one l.0 (take n text) (drop n text) what (sym (take-append-drop n text)) l.1 l.2 none in
    subst (λ k. Reads 0 whole (ts ++ token what at k ∷ []) k (drop n text)) (sym e) (reads_on r s)

pub step_gap : (whole text new : Text) (ts us : List Token) (at n taken : ℕ) (what : Option TokenKind) → Reads 0 whole ts at text → IsStep what (take n text) text → what ≡ None → us ≡ ts → new ≡ drop n text → taken ≡ size (take n text) → Reads 0 whole us (at + taken) new
step_gap whole text new ts us at n taken what r t k u e s =
    let l = subst (λ x. IsStep x (take n text) text) k t in
    subst (λ x. Reads 0 whole us (at + taken) x) (sym e) (subst (λ x. Reads 0 whole x (at + taken) (drop n text)) (sym u) (behind_gap whole text ts at (at + taken) n r l (ap (λ x. at + x) s)))

pub step_token : (whole text new : Text) (ts us : List Token) (at n taken : ℕ) (what : Option TokenKind) (k : TokenKind) → Reads 0 whole ts at text → IsStep what (take n text) text → what ≡ Some k → us ≡ ts ++ token k at (at + taken) ∷ [] → new ≡ drop n text → taken ≡ size (take n text) → Reads 0 whole us (at + taken) new
step_token whole text new ts us at n taken what k r t h u e s =
    let l = subst (λ x. IsStep x (take n text) text) h t in
    subst (λ x. Reads 0 whole us (at + taken) x) (sym e) (subst (λ x. Reads 0 whole x (at + taken) (drop n text)) (sym u) (behind_token whole text ts at (at + taken) n k r l (ap (λ x. at + x) s)))

pub room_for : (what : Option TokenKind) (k : TokenKind) (n : ℕ) → IfSome what (λ _. n < most_tokens) → what ≡ Some k → n < most_tokens
room_for what k n h e = let P : Option TokenKind → Type 0 = λ x. IfSome x (λ _. n < most_tokens) in subst P e h
