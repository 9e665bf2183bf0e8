-- Tokens off the front of a text, with the gaps before them.
use Rattle.std.proofs.Common.{◌≡◌, ℕ, ◌+◌, ◌<◌, ◌≤◌, ◌==◌, ◌&&◌, ◌||◌, not, nat_lt, Bool, true, false, List, [], ◌∷◌, ◌++◌, length, Option, Some, None, refl, sym, ap, subst, ◌∙◌, append_assoc, append-nil, length-append, if◌then◌else◌, arith, lit<}
use Rattle.std.specs.List.{list_all, Contains}
use Rattle.std.specs.Char.{is_ascii_digit}
use Rattle.std.specs.Cmp.Lexicographic.{pointwise}
use Rattle.std.specs.Prelude.{nat_eq}
use Rattle.std.specs.Str.{encode_utf8_all}
use borrow.Author.Tests.{eqb-true}
use Rattle.std.specs.Int.{cast_signed, w32}
use Rattle.std.proofs.lemmas.Bool.{and_parts}
use Rattle.ix_lexer.specs.declared.elements.Element.{Element}
use Rattle.ix_lexer.specs.declared.elements.Element.TheVariants as element
use Rattle.ix_lexer.specs.declared.token.Token.{Token}
use Rattle.ix_lexer.specs.declared.token.TokenKind.{TokenKind}
use Rattle.ix_lexer.specs.declared.token.TokenKind.TheVariants as kind
use Rattle.ix_lexer.specs.Characters.{Text, backslash, first, ends_line, is_white_space, starts_identifier, continues_identifier}
use Rattle.ix_lexer.specs.Elements.{IsElement, signs, white_space, line_comment, comment, open_comment, word, number, quoted, open_string, sign}
use Rattle.ix_lexer.specs.Scan.{stays_in_line}
use Rattle.ix_lexer.specs.Tokens.{Longest, kind_of, fixed_or, number_kind, number_in, words, size, token, Reads, none, gap, one}
use Rattle.ix_lexer.specs.Numbers.{number_of, is_hexadecimal}
use Rattle.ix_lexer.proofs.Scans.{not_true}
use Rattle.ix_lexer.proofs.ReadingSteps.{size_append}
use Rattle.ix_guard_text.specs.Woven.{is_word_like}
use Rattle.ix_guard_text.proofs.SignFronts.{holds_in, sign_parts}
use Rattle.ix_guard_text.proofs.LongestAgain.{is_closed, is_wordy, Front, same, longest_again, starts_ascii, continues_ascii, digit_starts_none, not_wordy_white, not_empty}
use Rattle.ix_guard_text.proofs.Escapes.{ends_plain}

-- ---- what a token's element is

-- it is closed and no gap
pub record IsTokenElement (which : Element) : Type 0 where
  pub closed : is_closed which ≡ true
  pub some : which ≡ element.Gap → ⊥

pub token_element : (which : Element) (w : Text) (what : TokenKind) → kind_of which w ≡ Some what → IsTokenElement which
token_element element.Word w what k = record { closed = refl; some = λ e. cc }
token_element element.Number w what k = record { closed = refl; some = λ e. cc }
token_element element.Quoted w what k = record { closed = refl; some = λ e. cc }
token_element element.Sign w what k = record { closed = refl; some = λ e. cc }
token_element element.Gap w what k = cc
token_element element.OpenComment w what k = cc
token_element element.OpenString w what k = cc

-- its first character doesn't end a line
abbrev BeginsInLine : Text → Type 0
BeginsInLine w = (d : ℕ) × (more : Text) × (w ≡ d ∷ more) × (stays_in_line d ≡ true)

no_line_end : (c : ℕ) → (ends_line c ≡ true → ⊥) → stays_in_line c ≡ true
no_line_end c no_end = elim (ends_line c) as (λ b. (b ≡ true → ⊥) → not b ≡ true) [ true ↦ λ h. absurd (h refl) | false ↦ λ h. refl ] no_end

white_end : (c : ℕ) → ends_line c ≡ true → is_white_space c ≡ true
white_end c h = rw h (or_true (c == 32 || c == 9 || c == 12))
  where
    or_true : (b : Bool) → (b || true) ≡ true
    or_true true = refl
    or_true false = refl

pub begins_in_line : {which : Element} {w : Text} → IsElement which w → (which ≡ element.Gap → ⊥) → BeginsInLine w
begins_in_line (white_space h) some = absurd (some refl)
begins_in_line (line_comment h) some = absurd (some refl)
begins_in_line (comment cs h) some = absurd (some refl)
begins_in_line open_comment some = (47, 42 ∷ [], refl, refl)
begins_in_line (word {c} {cs} s h) some = (c, cs, refl, no_line_end c (λ e. not_wordy_white c (white_end c e) (rw s refl)))
begins_in_line (number {c} {cs} d h) some = (c, cs, refl, no_line_end c (λ e. not_wordy_white c (white_end c e) (rw (digit_starts_none c d, d) refl)))
begins_in_line (quoted cs b) some = (34, cs ++ 34 ∷ [], refl, refl)
begins_in_line open_string some = (34, [], refl, refl)
begins_in_line (sign {cs} k) some = of_sign cs k
  where
    of_sign : (cs : Text) → Contains signs cs → BeginsInLine cs
    of_sign [] k = absurd (omega (arith, not_empty (sign k)))
    of_sign (c ∷ cs) k = (c, cs, refl, no_line_end c (λ e. let a : is_white_space c ≡ true = white_end c e in let b : is_white_space c ≡ false = not_true _ (sign_parts c cs k).no_white in cc))

-- ---- its last character is no backslash

not_backslash : (c : ℕ) (test : ℕ → Bool) → test c ≡ true → test 92 ≡ false → not (c == backslash) ≡ true
not_backslash c test h k = elim (c == 92) as (λ b. (c == 92) ≡ b → not b ≡ true) [
  | true ↦ λ e. let f : test 92 ≡ true = subst (λ n. test n ≡ true) (eqb-true c 92 e) h in cc
  | false ↦ λ e. refl
] refl

all_plain : (cs : Text) → list_all continues_identifier cs ≡ true → ends_plain cs ≡ true
all_plain [] h = refl
all_plain (c ∷ []) h = not_backslash c continues_identifier (and_parts _ _ h).0 (continues_ascii 92 (lit< tt))
all_plain (c ∷ d ∷ cs) h = all_plain (d ∷ cs) (and_parts (continues_identifier c) (list_all continues_identifier (d ∷ cs)) h).1

-- a first character of its own, and later ones that end so
one_more : (c : ℕ) (cs : Text) → not (c == backslash) ≡ true → ends_plain cs ≡ true → ends_plain (c ∷ cs) ≡ true
one_more c [] h k = h
one_more c (d ∷ cs) h k = k

all_signs_plain : list_all ends_plain signs ≡ true
unfolding signs
all_signs_plain = refl

sign_ends_plain : (w : Text) → Contains signs w → ends_plain w ≡ true
sign_ends_plain w k = holds_in ends_plain signs w k.0 k.1 k.2 all_signs_plain

pub token_ends_plain : {which : Element} {w : Text} → IsElement which w → (which ≡ element.Gap → ⊥) → ends_plain w ≡ true
token_ends_plain (white_space h) some = absurd (some refl)
token_ends_plain (line_comment h) some = absurd (some refl)
token_ends_plain (comment cs h) some = absurd (some refl)
token_ends_plain open_comment some = refl
token_ends_plain (word {c} {cs} s h) some = one_more c cs (not_backslash c starts_identifier s (starts_ascii 92 (lit< tt))) (all_plain cs h)
token_ends_plain (number {c} {cs} d h) some = one_more c cs (not_backslash c is_ascii_digit d refl) (all_plain cs h)
token_ends_plain (quoted cs b) some = quote_last 34 cs
  where
    quote_last : (c : ℕ) (cs : Text) → ends_plain (c ∷ (cs ++ 34 ∷ [])) ≡ true
    quote_last c [] = refl
    quote_last c (d ∷ cs) = quote_last d cs
token_ends_plain open_string some = refl
token_ends_plain (sign {cs} k) some = sign_ends_plain cs k

-- ---- gaps

ends_later : (u : Text) (c : ℕ) (v : Text) → ends_plain (u ++ c ∷ v) ≡ ends_plain (c ∷ v)
ends_later [] c v = refl
ends_later (b ∷ []) c v = refl
ends_later (b ∷ d ∷ u) c v = ends_later (d ∷ u) c v

gap_plain : {which : Element} {w : Text} → IsElement which w → which ≡ element.Gap → (d : ℕ) (more : Text) → Longest which w (w ++ d ∷ more) → stays_in_line d ≡ true → ends_plain w ≡ true
gap_plain (white_space {c} h) e d more l s = not_backslash c is_white_space h refl
gap_plain (line_comment {cs} h) e d more l s =
    let longer : IsElement element.Gap (47 ∷ 47 ∷ (cs ++ d ∷ [])) = line_comment {cs = cs ++ d ∷ []} (all_and_one cs d h s) in
    let le : length (47 ∷ 47 ∷ (cs ++ d ∷ [])) ≤ length (47 ∷ 47 ∷ cs) = l.2 element.Gap (47 ∷ 47 ∷ (cs ++ d ∷ [])) more (ap (λ t. 47 ∷ 47 ∷ t) (sym (append_assoc cs (d ∷ []) more))) longer in
    absurd (omega (arith, le, length-append cs (d ∷ [])))
  where
    all_and_one : (cs : Text) (n : ℕ) → list_all stays_in_line cs ≡ true → stays_in_line n ≡ true → list_all stays_in_line (cs ++ n ∷ []) ≡ true
    all_and_one [] n h t = rw t refl
    all_and_one (c ∷ cs) n h t = let w = and_parts (stays_in_line c) (list_all stays_in_line cs) h in rw (w.0, all_and_one cs n w.1 t) refl
gap_plain (comment cs h) e d more l s = ends_later (47 ∷ 42 ∷ cs) 42 (47 ∷ [])
gap_plain open_comment e d more l s = refl
gap_plain (word b h) e d more l s = cc
gap_plain (number b h) e d more l s = cc
gap_plain (quoted cs b) e d more l s = cc
gap_plain open_string e d more l s = refl
gap_plain (sign k) e d more l s = cc

-- behind a gap, the text goes on as it did or with what comes behind the gaps
pub front_behind : (skipped left new : Text) → Front element.Gap left new → Front element.Gap (skipped ++ left) (skipped ++ new)
front_behind [] left new f = f
front_behind (c ∷ skipped) left new f = same

-- The gaps at the front of a text, which are read before anything that goes on so.
pub record Gaps (at : ℕ) (text : Text) (mid : ℕ) (left : Text) : Type 0 where
  pub gap : Text
  pub whole : text ≡ gap ++ left
  pub place : mid ≡ at + size gap
  pub again : (bt : ℕ) (new : Text) → Front element.Gap left new → Reads bt (gap ++ new) [] (bt + size gap) new
  pub plain : (d : ℕ) (more : Text) → left ≡ d ∷ more → stays_in_line d ≡ true → ends_plain gap ≡ true

pub no_gaps : (at : ℕ) (text : Text) → Gaps at text at text
no_gaps at text = record {
  gap = [];
  whole = refl;
  place = omega arith;
  again = λ bt new f. subst (λ n. Reads bt new [] n new) (let e : bt ≡ bt + size [] = omega arith in e) none;
  plain = λ d more e s. refl;
}

pub more_gaps : (at mid : ℕ) (text w rest left : Text) → text ≡ w ++ rest → Longest element.Gap w text → Gaps (at + size w) rest mid left → Gaps at text mid left
more_gaps at mid text w rest left e l inner =
    let long : Longest element.Gap w (w ++ (inner.gap ++ left)) = subst (λ t. Longest element.Gap w t) (e ∙ ap (λ t. w ++ t) inner.whole) l in
    record {
      gap = w ++ inner.gap;
      whole = e ∙ ap (λ t. w ++ t) inner.whole ∙ sym (append_assoc w inner.gap left);
      place = omega (arith, inner.place, size_append w inner.gap);
      again = λ bt new f.
          let longest = longest_again element.Gap w (inner.gap ++ left) (inner.gap ++ new) long refl (front_behind inner.gap left new f) in
          let reads : Reads bt (w ++ (inner.gap ++ new)) [] (bt + size w + size inner.gap) new = gap w (inner.gap ++ new) refl longest (inner.again (bt + size w) new f) in
          let place : bt + size w + size inner.gap ≡ bt + size (w ++ inner.gap) = omega (arith, size_append w inner.gap) in
          subst (λ n. Reads bt ((w ++ inner.gap) ++ new) [] n new) place (subst (λ t. Reads bt t [] (bt + size w + size inner.gap) new) (sym (append_assoc w inner.gap new)) reads);
      plain = λ d more is s. ends inner.gap (inner.plain d more is s) long d more is s;
    }
  where
    ends : (g : Text) → ends_plain g ≡ true → Longest element.Gap w (w ++ (g ++ left)) → (d : ℕ) (more : Text) → left ≡ d ∷ more → stays_in_line d ≡ true → ends_plain (w ++ g) ≡ true
    ends [] h long d more is s =
        let k = gap_plain long.0 refl d more (subst (λ t. Longest element.Gap w (w ++ t)) is long) s in subst (λ t. ends_plain t ≡ true) (sym (append-nil w)) k
    ends (c ∷ g) h long d more is s = ends_later w c g ∙ h

-- ---- a token

-- A token with the gaps before it, and what is read behind it.
pub record Step (at : ℕ) (text : Text) (t : Token) (ts : List Token) (end : ℕ) (last : Text) : Type 0 where
  pub mid : ℕ
  pub left : Text
  pub gaps : Gaps at text mid left
  pub which : Element
  pub word : Text
  pub rest : Text
  pub whole : left ≡ word ++ rest
  pub long : Longest which word (word ++ rest)
  pub kind : kind_of which word ≡ Some t.kind
  pub from : t.span.from ≡ mid
  pub to : t.span.to ≡ mid + size word
  pub later : Reads t.span.to rest ts end last

tokens_same : (a t : Token) (us ts : List Token) → a ∷ us ≡ t ∷ ts → (a ≡ t) × (us ≡ ts)
tokens_same a t us ts e = (cc, cc)

pub step : {at end : ℕ} {text last : Text} {tokens : List Token} → Reads at text tokens end last → (t : Token) (ts : List Token) → tokens ≡ t ∷ ts → Step at text t ts end last
step none t ts e = cc
step {at} {end} {text} {last} (gap w rest e l r) t ts is =
    let inner = step r t ts is in
    record {
      mid = inner.mid;
      left = inner.left;
      gaps = more_gaps at inner.mid text w rest inner.left e l inner.gaps;
      which = inner.which;
      word = inner.word;
      rest = inner.rest;
      whole = inner.whole;
      long = inner.long;
      kind = inner.kind;
      from = inner.from;
      to = inner.to;
      later = inner.later;
    }
step {at} {end} {text} {last} (one {tokens} which w rest what e l k r) t ts is =
    let heads = tokens_same (token what at (at + size w)) t tokens ts is in
    record {
      mid = at;
      left = text;
      gaps = no_gaps at text;
      which = which;
      word = w;
      rest = rest;
      whole = e;
      long = subst (λ x. Longest which w x) e l;
      kind = k ∙ ap (λ (x : Token). Some x.kind) heads.0;
      from = sym (ap (λ (x : Token). x.span.from) heads.0);
      to = sym (ap (λ (x : Token). x.span.to) heads.0);
      later = subst (λ n. Reads n rest ts end last) (ap (λ (x : Token). x.span.to) heads.0) (subst (λ l. Reads (at + size w) rest l end last) heads.1 r);
    }

-- where no token is left, there are only gaps
pub only_gaps : {at end : ℕ} {text last : Text} {tokens : List Token} → Reads at text tokens end last → tokens ≡ [] → Gaps at text end last
only_gaps {at} {end} {text} {last} none e = no_gaps at text
only_gaps {at} {end} {text} {last} (gap w rest e l r) is = more_gaps at end text w rest last e l (only_gaps r is)
only_gaps (one which w rest what e l k r) is = cc

-- ---- what kinds words and numbers have

number_least : (table : List Text) (w : Text) (first n : ℕ) → number_in first table w ≡ Some n → n < first + length table
number_least [] w first n h = cc
number_least (t ∷ table) w first n h =
    elim (pointwise nat_eq t w) as (λ b. (if b then Some first else number_in (first + 1) table w) ≡ Some n → n < first + length (t ∷ table)) [
      | true ↦ λ g. let e : first ≡ n = cc in omega (arith, e)
      | false ↦ λ g. let le = number_least table w (first + 1) n g in omega (arith, le)
    ] h

few_words : length words ≡ 53
unfolding words
few_words = refl

word_kind : (w : Text) (o : Option ℕ) (what : TokenKind) → number_in 0 words w ≡ o → fixed_or (Some (kind.Ident (encode_utf8_all w))) o ≡ Some what → is_word_like what ≡ true
word_kind w None what e h = let k : kind.Ident (encode_utf8_all w) ≡ what = cc in subst (λ x. is_word_like x ≡ true) k refl
word_kind w (Some n) what e h =
    let k : kind.Fixed n ≡ what = cc in
    let lt : n < 53 = omega (arith, number_least words w 0 n e, few_words) in
    subst (λ x. is_word_like x ≡ true) k (lt_true n lt)
  where
    lt_true : (n : ℕ) → n < 53 → nat_lt n 53 ≡ true
    lt_true n lt = grind (arith, lt)

number_word : (hexadecimal : Bool) (o : Option ℕ) (what : TokenKind) → number_kind hexadecimal o ≡ Some what → is_word_like what ≡ true
number_word hexadecimal None what h = cc
number_word hexadecimal (Some n) what h =
    elim (not hexadecimal && n == 2147483648) as (λ c. (if c then Some kind.MinLit else Some (kind.Int (cast_signed w32 n))) ≡ Some what → is_word_like what ≡ true) [
      | true ↦ λ g. let k : kind.MinLit ≡ what = cc in subst (λ x. is_word_like x ≡ true) k refl
      | false ↦ λ g. let k : kind.Int (cast_signed w32 n) ≡ what = cc in subst (λ x. is_word_like x ≡ true) k refl
    ] h

-- A token that is a word or a number is of a kind that may be.
pub wordy_kind : (which : Element) (w : Text) (what : TokenKind) → kind_of which w ≡ Some what → is_wordy which ≡ true → is_word_like what ≡ true
wordy_kind element.Word w what k h = word_kind w (number_in 0 words w) what refl k
wordy_kind element.Number w what k h = number_word (is_hexadecimal w) (number_of w) what k
wordy_kind element.Quoted w what k h = cc
wordy_kind element.Sign w what k h = cc
wordy_kind element.Gap w what k h = cc
wordy_kind element.OpenComment w what k h = cc
wordy_kind element.OpenString w what k h = cc
