-- Bytes have a list of tokens or a cause for which they have none: there is one always.
use Rattle.std.proofs.Common.{◌≡◌, ◌≢◌, ℕ, zero, suc, ◌+◌, ◌<◌, ◌≤◌, Bool, true, false, List, [], ◌∷◌, length, take, drop, Option, Some, None, refl, sym, subst, ◌∙◌, arith, ◌⊎◌, inl, inr, take-append-drop, length-drop, take_all}
use Rattle.std.specs.Str.{IsUtf8, IsValidUpTo, is_utf8}
use Rattle.std.proofs.lemmas.Bool.{cases_lt}
use Rattle.std.proofs.lemmas.Str.{IsUtf8-from_is_utf8, is_utf8-from_IsUtf8}
use Rattle.ix_lexer.specs.declared.elements.Element.{Element}
use Rattle.ix_lexer.specs.declared.elements.Element.TheVariants as element
use Rattle.ix_lexer.specs.declared.token.Token.{Token}
use Rattle.ix_lexer.specs.declared.token.TokenKind.{TokenKind}
use Rattle.ix_lexer.specs.declared.token.LexError.{LexError}
use Rattle.ix_lexer.specs.declared.token.LexError.TheVariants as error
use Rattle.ix_lexer.specs.Characters.{Text}
use Rattle.ix_lexer.specs.Elements.{IsElement, white_space, line_comment, comment, open_comment, word, number, quoted, open_string, sign}
use Rattle.ix_lexer.specs.Scan.{Found, element_at}
use Rattle.ix_lexer.specs.Spans.{IsWithin}
use Rattle.ix_lexer.specs.Tokens.{Longest, kind_of, size, token, Reads, none, gap, one, most_tokens, Stops, Complete, Stopped, first_escape, StopsFirst, Spells, Tokens, Fails}
use Rattle.ix_lexer.proofs.LongestElement.{found, some_sign}
use Rattle.ix_lexer.proofs.OneAnswer.{not_both, one_cause}
use Rattle.ix_lexer.proofs.ReadingSteps.{longest_take, bad_number, bad_char, too_many}

-- ---- one element off the front

some_element : {which : Element} {w : Text} → IsElement which w → 1 ≤ length w
some_element (white_space h) = omega arith
some_element (line_comment h) = omega arith
some_element (comment cs h) = omega arith
some_element open_comment = omega arith
some_element (word h g) = omega arith
some_element (number h g) = omega arith
some_element (quoted cs h) = omega arith
some_element open_string = omega arith
some_element {w} (sign k) = some_sign w k

some_taken : (n : ℕ) (text : Text) → 1 ≤ length (take n text) → 1 ≤ n
some_taken zero [] h = absurd (omega (arith, h))
some_taken zero (c ∷ cs) h = absurd (omega (arith, h))
some_taken (suc n) text h = omega arith

-- ---- a text, read as far as it goes

-- From the place `at` on, behind `count` tokens, some tokens come; then the text is at its end, or something stops the reading.
abbrev Ending : ℕ → ℕ → Text → Type 0
Ending count at text =
    (ts : List Token) × (to : ℕ) × (left : Text) × Reads at text ts to left × (count + length ts ≤ most_tokens) × ((left ≡ []) ⊎ ((why : LexError) × Stops why (count + length ts) to left))

stops_here : (count at : ℕ) (text : Text) → count ≤ most_tokens → (why : LexError) → Stops why (count + 0) at text → Ending count at text
stops_here count at text few why s = ([], at, text, none, omega (arith, few), inr (why, s))

module _ (count at n : ℕ) (text : Text) (few : count ≤ most_tokens) (next : (later : ℕ) → later ≤ most_tokens → Ending later (at + size (take n text)) (drop n text)) where
  behind_gap : Longest element.Gap (take n text) text → Ending count at text
  behind_gap l =
      let e = next count few in
      (e.0, e.1, e.2, gap (take n text) (drop n text) (sym (take-append-drop n text)) l e.3, e.4, e.5)

  one_more : (k : ℕ) → suc count + k ≡ count + suc k
  one_more k = omega arith

  behind_token : (which : Element) (what : TokenKind) → Longest which (take n text) text → kind_of which (take n text) ≡ Some what → count < most_tokens → Ending count at text
  behind_token which what l k less =
      let e = next (suc count) (omega (arith, less)) in
      let more : suc count + length e.0 ≡ count + suc (length e.0) = one_more (length e.0) in (
        token what at (at + size (take n text)) ∷ e.0,
        e.1,
        e.2,
        one which (take n text) (drop n text) what (sym (take-append-drop n text)) l k e.3,
        omega (arith, e.4),
        elim e.5 [ inl h ↦ inl h | inr s ↦ inr (s.0, subst (λ c. Stops s.0 c e.1 e.2) more s.1) ],
      )

  room_or_full : (which : Element) (what : TokenKind) → element_at text ≡ found which n → kind_of which (take n text) ≡ Some what → Ending count at text
  room_or_full which what h k =
      elim (cases_lt count most_tokens) [
        | inl less ↦ behind_token which what (longest_take which n text h) k less
        | inr full ↦ stops_here count at text few (error.TooMany at) (too_many which n at (count + 0) text what h k (omega (arith, few, full)))
      ]

  by_kind : (which : Element) → which ≢ element.Gap → which ≢ element.OpenComment → which ≢ element.OpenString → element_at text ≡ found which n → (kind : Option TokenKind)
      → kind_of which (take n text) ≡ kind → Ending count at text
  by_kind which a b c h None k = stops_here count at text few (error.BadNumber at) (bad_number which n at (count + 0) text h k a b c)
  by_kind which a b c h (Some what) k = room_or_full which what h k

  by_element : (which : Element) → element_at text ≡ found which n → Ending count at text
  by_element element.Gap h = behind_gap (longest_take element.Gap n text h)
  by_element element.OpenComment h = stops_here count at text few (error.OpenComment at) (refl, (take n text, longest_take element.OpenComment n text h))
  by_element element.OpenString h = stops_here count at text few (error.OpenString at) (refl, (take n text, longest_take element.OpenString n text h))
  by_element element.Word h = by_kind element.Word (λ e. cc) (λ e. cc) (λ e. cc) h (kind_of element.Word (take n text)) refl
  by_element element.Number h = by_kind element.Number (λ e. cc) (λ e. cc) (λ e. cc) h (kind_of element.Number (take n text)) refl
  by_element element.Quoted h = by_kind element.Quoted (λ e. cc) (λ e. cc) (λ e. cc) h (kind_of element.Quoted (take n text)) refl
  by_element element.Sign h = by_kind element.Sign (λ e. cc) (λ e. cc) (λ e. cc) h (kind_of element.Sign (take n text)) refl

some_behind : (which : Element) (n : ℕ) (text : Text) → element_at text ≡ found which n → 1 ≤ n
some_behind which n text h = some_taken n text (some_element (longest_take which n text h).0)

ending_at : (fuel : ℕ) → ((later from : ℕ) (left : Text) → length left ≤ fuel → later ≤ most_tokens → Ending later from left)
    → (count at : ℕ) (text : Text) → length text ≤ suc fuel → count ≤ most_tokens → 1 ≤ length text → (o : Found) → element_at text ≡ o → Ending count at text
ending_at fuel behind count at text short few some None h = stops_here count at text few (error.BadChar at) (bad_char at (count + 0) text h some)
ending_at fuel behind count at text short few some (Some (which, n)) h =
    by_element count at n text few
    (λ later enough. behind later (at + size (take n text)) (drop n text) (omega (arith, short, length-drop n text, some_behind which n text h)) enough) which h

ending : (fuel count at : ℕ) (text : Text) → length text ≤ fuel → count ≤ most_tokens → Ending count at text
ending fuel count at [] short few = ([], at, [], none, omega (arith, few), inl refl)
ending zero count at (c ∷ cs) short few = absurd (omega (arith, short))
ending (suc fuel) count at (c ∷ cs) short few = ending_at fuel (ending fuel) count at (c ∷ cs) short few (omega arith) (element_at (c ∷ cs)) refl

abbrev pub IsDecided : Text → Type 0
IsDecided text = ((ts : List Token) × Complete text ts × (length ts ≤ most_tokens)) ⊎ ((why : LexError) × Stopped text why)

from_start : (n : ℕ) → 0 + n ≡ n
from_start n = omega arith

each_text : (text : Text) → IsDecided text
each_text text =
    let e = ending (length text) 0 0 text (omega arith) (omega arith) in
    elim e.5 [
      | inl empty ↦ inl (e.0, (e.1, subst (λ left. Reads 0 text e.0 e.1 left) empty e.3), omega (arith, e.4))
      | inr s ↦ inr (s.0, (e.0, e.1, e.2, e.3, omega (arith, e.4), subst (λ c. Stops s.0 c e.1 e.2) (from_start (length e.0)) s.1))
    ]

-- ---- with the first Unicode escape

at_most_or_not : (k n : ℕ) → (k ≤ n) ⊎ (k ≤ n → ⊥)
at_most_or_not k n = elim (cases_lt n k) [ inl less ↦ inr (λ h. omega (arith, less, h)) | inr h ↦ inl h ]

within_or_not : (place : ℕ) (why : LexError) → IsWithin place why ⊎ (IsWithin place why → ⊥)
within_or_not place (error.BadUtf8 k) = at_most_or_not k place
within_or_not place (error.BadChar k) = at_most_or_not k place
within_or_not place (error.OpenComment k) = at_most_or_not k place
within_or_not place (error.OpenString k) = at_most_or_not k place
within_or_not place (error.BadNumber k) = at_most_or_not k place
within_or_not place (error.TooMany k) = at_most_or_not k place
within_or_not place error.Memory = inl tt

abbrev Answered : Option ℕ → Text → Type 0
Answered escape text = ((ts : List Token) × Complete text ts × (length ts ≤ most_tokens) × (escape ≡ None)) ⊎ ((why : LexError) × StopsFirst escape text why)

answered : (escape : Option ℕ) (text : Text) → IsDecided text → Answered escape text
answered None text (inl t) = inl (t.0, t.1, t.2, refl)
answered None text (inr s) = inr s
answered (Some place) text (inl t) = inr (error.BadChar place, inr (refl, λ other o w. not_both text t.0 other t.1 t.2 o))
answered (Some place) text (inr s) =
    elim (within_or_not place s.0) [
      | inl w ↦ inr (s.0, inl (s.1, w))
      | inr past ↦ inr (error.BadChar place, inr (refl, λ other o w. past (subst (IsWithin place) (one_cause text other s.0 o s.1) w)))
    ]

-- ---- bytes

-- the longest front of at most so many bytes that is a text
record LongestText (bytes : List ℕ) (most : ℕ) : Type 0 where
  n : ℕ
  within : n ≤ most
  is : IsUtf8 (take n bytes)
  last : (k : ℕ) → n < k → k ≤ most → IsUtf8 (take k bytes) → ⊥

no_bytes : (bytes : List ℕ) → IsUtf8 (take 0 bytes)
no_bytes [] = ([], (refl, refl))
no_bytes (b ∷ bytes) = ([], (refl, refl))

longest_text : (bytes : List ℕ) (most : ℕ) → LongestText bytes most
longest_text bytes zero = record { n = 0; within = omega arith; is = no_bytes bytes; last = λ k above within u. omega (arith, above, within) }
longest_text bytes (suc most) = longer bytes most (longest_text bytes most) (is_utf8 (take (suc most) bytes)) refl
  where
    longer : (bytes : List ℕ) (most : ℕ) → LongestText bytes most → (b : Bool) → is_utf8 (take (suc most) bytes) ≡ b → LongestText bytes (suc most)
    longer bytes most shorter true h =
        record { n = suc most; within = omega arith; is = IsUtf8-from_is_utf8 (take (suc most) bytes) h; last = λ k above within u. omega (arith, above, within) }
    longer bytes most shorter false h =
        record {
          n = shorter.n;
          within = omega (arith, shorter.within);
          is = shorter.is;
          last = λ k above within u. elim (cases_lt most k) [
            | inl top ↦
                let same : k ≡ suc most = omega (arith, top, within) in
                let yes : is_utf8 (take (suc most) bytes) ≡ true = is_utf8-from_IsUtf8 _ (subst (λ m. IsUtf8 (take m bytes)) same u) in cc
            | inr low ↦ shorter.last k above low u
          ];
        }

text_or_not : (bytes : List ℕ) → IsUtf8 bytes ⊎ ((IsUtf8 bytes → ⊥) × ((place : ℕ) × IsValidUpTo bytes place))
text_or_not bytes =
    let l = longest_text bytes (length bytes) in
    let whole : take (length bytes) bytes ≡ bytes = take_all (length bytes) bytes (omega arith) in
    elim (cases_lt l.n (length bytes)) [
      | inl short ↦
          inr (
            λ u. l.last (length bytes) short (omega arith) (subst IsUtf8 (sym whole) u),
            (
              l.n,
              record {
                short = short;
                front = l.is;
                longest = λ m above u. elim (cases_lt (length bytes) m) [
                  | inl past ↦ l.last (length bytes) short (omega arith) (subst IsUtf8 (take_all m bytes (omega (arith, past)) ∙ sym whole) u)
                  | inr within ↦ l.last m above within u
                ];
              },
            ),
          )
      | inr long ↦ inl (subst IsUtf8 (take_all l.n bytes long) l.is)
    ]

fails : (bytes : List ℕ) (text : Text) → Spells text bytes → (why : LexError) → StopsFirst (first_escape text) text why → (some : LexError) × Fails bytes some
fails bytes text spelled (error.BadUtf8 k) s = absurd (no_utf8 (first_escape text) s)
  where
    no_utf8 : (escape : Option ℕ) → StopsFirst escape text (error.BadUtf8 k) → ⊥
    no_utf8 None s = s.5
    no_utf8 (Some place) (inl s) = s.0.5
    no_utf8 (Some place) (inr s) = let e = s.0 in cc
fails bytes text spelled (error.BadChar k) s = (error.BadChar k, (text, spelled, s))
fails bytes text spelled (error.OpenComment k) s = (error.OpenComment k, (text, spelled, s))
fails bytes text spelled (error.OpenString k) s = (error.OpenString k, (text, spelled, s))
fails bytes text spelled (error.BadNumber k) s = (error.BadNumber k, (text, spelled, s))
fails bytes text spelled (error.TooMany k) s = (error.TooMany k, (text, spelled, s))
fails bytes text spelled error.Memory s = (error.Memory, (text, spelled, s))

-- Bytes have a list of at most 200,000 tokens, or a cause for which they have none.
pub each_bytes : (bytes : List ℕ) → ((ts : List Token) × Tokens bytes ts × (length ts ≤ most_tokens)) ⊎ ((why : LexError) × Fails bytes why)
each_bytes bytes =
    elim (text_or_not bytes) [
      | inr n ↦ inr (error.BadUtf8 n.1.0, (n.0, n.1.1))
      | inl u ↦ elim (answered (first_escape u.0) u.0 (each_text u.0)) [
        | inl t ↦ inl (t.0, (u.0, u.1, t.1, t.3), t.2)
        | inr s ↦ inr (fails bytes u.0 u.1 s.0 s.1)
      ]
    ]
