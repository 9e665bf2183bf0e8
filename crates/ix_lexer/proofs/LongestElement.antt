-- `element_at` finds the longest element at the front of a text.
use Rattle.std.proofs.Common.{◌≡◌, ℕ, zero, suc, ◌+◌, ◌<◌, ◌≤◌, ◌==◌, ◌&&◌, ◌||◌, not, nat_lt, nat_le, Bool, true, false, List, [], ◌∷◌, ◌++◌, length, get_or, Option, Some, None, refl, sym, ap, subst, ◌∙◌, append_assoc, length-append, arith, lit<, inl, inr}
use Rattle.std.specs.List.{list_all, prefix_len, Contains}
use Rattle.std.specs.Char.{is_ascii_digit, is_ascii_alphabetic}
use Rattle.std.proofs.lemmas.Bool.{and_parts, or_cases, ne_eqb, ltb-true, agree_below_at, eqb-false, leb-true}
use borrow.Author.Tests.{eqb-true}
use Rattle.unicode_ident.proofs.IdentLemmas.{is_xid_start-ascii}
use Rattle.ix_lexer.specs.declared.elements.Element.{Element}
use Rattle.ix_lexer.specs.declared.elements.Element.TheVariants as element
use Rattle.ix_lexer.specs.Characters.{Text, first, starts_identifier, continues_identifier, is_white_space}
use Rattle.ix_lexer.specs.Elements.{IsElement, signs, white_space, line_comment, open_comment, word, number, open_string}
use Rattle.ix_lexer.specs.Elements.{comment as comment_element, quoted as quoted_element, sign as sign_element}
use Rattle.ix_lexer.specs.Scan.{Found, stays_in_line, closing_quote, comment_end, longest, sign, comment, quoted, behind_slash, element_at}
use Rattle.ix_lexer.proofs.Scans.{chosen, not_true, run_at_least, run_of, quote_found, quote_closes, comment_found, comment_ends, begins_itself, begins_front, longest_takes, longest_is}

-- ---- the classes of first characters do not meet

abbrev ascii_start : ℕ → Bool
ascii_start c = is_ascii_alphabetic c || c == 95 || c == 36

starts_ascii : (c : ℕ) → c < 128 → starts_identifier c ≡ ascii_start c
starts_ascii c h = ap (λ b. b || c == 95 || c == 36) (is_xid_start-ascii c h)

digit_low : (c : ℕ) → is_ascii_digit c ≡ true → c < 128
digit_low c h = omega (arith, leb-true c 57 (and_parts (nat_le 48 c) (nat_le c 57) h).1)

digit_starts_none : (c : ℕ) → is_ascii_digit c ≡ true → starts_identifier c ≡ false
digit_starts_none c h =
    let e = agree_below_at (λ x. is_ascii_digit x && ascii_start x) (λ x. false) 128 c refl (digit_low c h) in
    starts_ascii c (digit_low c h) ∙ (rw h at e)

low_as : (c k : ℕ) → k < 128 → (c == k) ≡ true → c < 128
low_as c k h e = omega (arith, eqb-true c k e)

white_low : (c : ℕ) → is_white_space c ≡ true → c < 128
white_low c h =
    elim (or_cases _ _ h) [
      | inr d ↦ elim (or_cases _ _ d) [ inl f ↦ low_as c 10 (lit< tt) f | inr f ↦ low_as c 13 (lit< tt) f ]
      | inl a ↦ elim (or_cases _ _ a) [
        | inr b ↦ low_as c 12 (lit< tt) b
        | inl b ↦ elim (or_cases _ _ b) [ inl f ↦ low_as c 32 (lit< tt) f | inr f ↦ low_as c 9 (lit< tt) f ]
      ]
    ]

white_starts_none : (c : ℕ) → is_white_space c ≡ true → starts_identifier c ≡ false
white_starts_none c h =
    let e = agree_below_at (λ x. is_white_space x && ascii_start x) (λ x. false) 128 c refl (white_low c h) in
    starts_ascii c (white_low c h) ∙ (rw h at e)

white_no_digit : (c : ℕ) → is_white_space c ≡ true → is_ascii_digit c ≡ false
white_no_digit c h =
    let e = agree_below_at (λ x. is_white_space x && is_ascii_digit x) (λ x. false) 128 c refl (white_low c h) in
    rw h at e

-- how a sign may begin, as a test on the table: with a character of its own, and with `/` only alone or before `=`
abbrev begins_sign : ℕ → Bool
begins_sign c = not (ascii_start c) && (not (is_ascii_digit c) && (not (is_white_space c) && not (c == 34)))

abbrev is_sign_like : Text → Bool
is_sign_like [] = false
is_sign_like (c ∷ cs) = nat_lt c 128 && (begins_sign c && (not (c == 47) || (length cs == 0 || first cs == 61)))

holds_in : (test : Text → Bool) (table : List Text) (w : Text) (k : ℕ) → k < length table → get_or table k w ≡ w → list_all test table ≡ true → test w ≡ true
holds_in test [] w k lt e h = absurd (omega arith)
holds_in test (t ∷ table) w zero lt e h = subst (λ x. test x ≡ true) e (and_parts _ _ h).0
holds_in test (t ∷ table) w (suc k) lt e h = holds_in test table w k (omega arith) e (and_parts _ _ h).1

all_sign_like : list_all is_sign_like signs ≡ true
unfolding signs
all_sign_like = refl

sign_like : (w : Text) → Contains signs w → is_sign_like w ≡ true
sign_like w k = holds_in is_sign_like signs w k.0 k.1 k.2 all_sign_like

some_sign_like : (w : Text) → is_sign_like w ≡ true → 1 ≤ length w
some_sign_like [] h = cc
some_sign_like (c ∷ cs) h = omega arith

pub some_sign : (w : Text) → Contains signs w → 1 ≤ length w
some_sign w k = some_sign_like w (sign_like w k)

-- ---- `element_at` by its first character

abbrev pub found : Element → ℕ → Found
found which n = Some (which, n)

at_word : (c : ℕ) (cs : Text) → starts_identifier c ≡ true → element_at (c ∷ cs) ≡ found element.Word (1 + prefix_len continues_identifier cs)
unfolding element_at
at_word c cs h = rw h refl

at_digit : (c : ℕ) (cs : Text) → starts_identifier c ≡ false → is_ascii_digit c ≡ true → element_at (c ∷ cs) ≡ found element.Number (1 + prefix_len continues_identifier cs)
unfolding element_at
at_digit c cs s h = rw (s, h) refl

at_white : (c : ℕ) (cs : Text) → starts_identifier c ≡ false → is_ascii_digit c ≡ false → is_white_space c ≡ true → element_at (c ∷ cs) ≡ found element.Gap 1
unfolding element_at
at_white c cs s d h = rw (s, d, h) refl

at_quote : (cs : Text) → element_at (34 ∷ cs) ≡ quoted (closing_quote false 1 cs)
unfolding element_at
at_quote cs = rw (starts_ascii 34 (lit< tt)) refl

at_slash : (cs : Text) → element_at (47 ∷ cs) ≡ behind_slash (47 ∷ cs) cs
unfolding element_at
at_slash cs = rw (starts_ascii 47 (lit< tt)) refl

at_other : (c : ℕ) (cs : Text) → starts_identifier c ≡ false → is_ascii_digit c ≡ false → is_white_space c ≡ false → (c == 34) ≡ false → (c == 47) ≡ false → element_at (c ∷ cs) ≡ sign (c ∷ cs)
unfolding element_at
at_other c cs s d b q l = rw (s, d, b, q, l) refl

-- ---- each element at the front of a text is no longer than what is found, and is it where it is as long

abbrev pub Wins : Element → Text → Text → Type 0
Wins other u v = (which : Element) × (n : ℕ) × (element_at (u ++ v) ≡ Some (which, n)) × (length u ≤ n) × (length u ≡ n → other ≡ which)

sign_found : (text : Text) (n : ℕ) → longest signs 0 text ≡ n → 1 ≤ n → sign text ≡ Some (element.Sign, n)
unfolding sign
sign_found text n e h = let f : (n == 0) ≡ false = ne_eqb n 0 (λ k. omega arith) in rw (e, f) refl

open_comment_wins : (v : Text) (o : Option ℕ) → comment_end 2 v ≡ o → Wins element.OpenComment (47 ∷ 42 ∷ []) v
open_comment_wins v None e = (element.OpenComment, 2, at_slash (42 ∷ v) ∙ ap comment e, omega arith, λ k. refl)
open_comment_wins v (Some n) e =
    let r = comment_ends 2 v n e in
    (element.Gap, n, at_slash (42 ∷ v) ∙ ap comment e, omega (arith, r.3), λ k. absurd (omega (arith, r.3)))

open_string_wins : (v : Text) (o : Option ℕ) → closing_quote false 1 v ≡ o → Wins element.OpenString (34 ∷ []) v
open_string_wins v None e = (element.OpenString, 1, at_quote v ∙ ap quoted e, omega arith, λ k. refl)
open_string_wins v (Some n) e =
    let r = quote_closes false 1 v n e in
    (element.Quoted, n, at_quote v ∙ ap quoted e, omega (arith, r.3), λ k. absurd (omega (arith, r.3)))

sign_at : (w v : Text) → Contains signs w → 1 ≤ length w → element_at (w ++ v) ≡ sign (w ++ v) → Wins element.Sign w v
sign_at w v k h e =
    let n : ℕ = longest signs 0 (w ++ v) in
    let le : length w ≤ n = longest_takes signs w k.0 k.1 k.2 0 (w ++ v) (begins_itself w v) in
    (element.Sign, n, e ∙ sign_found (w ++ v) n refl (omega arith), le, λ k. refl)

slash_star : (v ds : Text) → element_at (47 ∷ v) ≡ comment (comment_end 2 ds) → (o : Option ℕ) → comment_end 2 ds ≡ o → Wins element.Sign (47 ∷ []) v
slash_star v ds at None e = (element.OpenComment, 2, at ∙ ap comment e, omega arith, λ k. absurd (omega arith))
slash_star v ds at (Some n) e = let r = comment_ends 2 ds n e in (element.Gap, n, at ∙ ap comment e, omega (arith, r.3), λ k. absurd (omega (arith, r.3)))

slash_alone : (v : Text) (d : ℕ) (ds : Text) → Contains signs (47 ∷ []) → element_at (47 ∷ v) ≡ behind_slash (47 ∷ v) (d ∷ ds) → (b m : Bool) → (d == 47) ≡ b → (d == 42) ≡ m → Wins element.Sign (47 ∷ []) v
slash_alone v d ds k at true m e f = (element.Gap, 2 + prefix_len stays_in_line ds, at ∙ rw e refl, omega arith, λ k. absurd (omega arith))
slash_alone v d ds k at false true e f = slash_star v ds (at ∙ rw (e, f) refl) (comment_end 2 ds) refl
slash_alone v d ds k at false false e f = sign_at (47 ∷ []) v k (omega arith) (at ∙ rw (e, f) refl)

-- a sign that begins with `/`, by what follows it
slash_wins : (cs v t : Text) → Contains signs (47 ∷ cs) → (length cs == 0 || first cs == 61) ≡ true → cs ++ v ≡ t → Wins element.Sign (47 ∷ cs) v
slash_wins cs v [] k h e = sign_at (47 ∷ cs) v k (omega arith) (at_slash (cs ++ v) ∙ ap (behind_slash (47 ∷ (cs ++ v))) e)
slash_wins [] v (d ∷ ds) k h e =
    let at : element_at (47 ∷ v) ≡ behind_slash (47 ∷ v) (d ∷ ds) = at_slash v ∙ ap (behind_slash (47 ∷ v)) e in
    slash_alone v d ds k at (d == 47) (d == 42) refl refl
slash_wins (c ∷ cs) v (d ∷ ds) k h e =
    let s : c ≡ 61 = elim (or_cases (length (c ∷ cs) == 0) (c == 61) h) [ inl w ↦ absurd (omega (arith, eqb-true (length (c ∷ cs)) 0 w)) | inr w ↦ eqb-true c 61 w ] in
    let f : d ≡ 61 = sym (ap first e) ∙ s in
    let l : (d == 47) ≡ false = ne_eqb d 47 (λ k. omega arith) in
    let m : (d == 42) ≡ false = ne_eqb d 42 (λ k. omega arith) in
    sign_at (47 ∷ c ∷ cs) v k (omega arith) (at_slash ((c ∷ cs) ++ v) ∙ ap (behind_slash (47 ∷ ((c ∷ cs) ++ v))) e ∙ rw (l, m) refl)

sign_by : (c : ℕ) (cs v : Text) → Contains signs (c ∷ cs) → starts_identifier c ≡ false → is_ascii_digit c ≡ false → is_white_space c ≡ false → (c == 34) ≡ false → (not (c == 47) || (length cs == 0 || first cs == 61)) ≡ true → (l : Bool) → (c == 47) ≡ l → Wins element.Sign (c ∷ cs) v
sign_by c cs v k s d b q r false e = sign_at (c ∷ cs) v k (omega arith) (at_other c (cs ++ v) s d b q e)
sign_by c cs v k s d b q r true e =
    let f : c ≡ 47 = eqb-true c 47 e in
    let t : (length cs == 0 || first cs == 61) ≡ true = rw e at r in
    subst (λ x. Wins element.Sign (x ∷ cs) v) (sym f) (slash_wins cs v (cs ++ v) (subst (λ x. Contains signs (x ∷ cs)) f k) t refl)

sign_wins : (w v : Text) → Contains signs w → is_sign_like w ≡ true → Wins element.Sign w v
sign_wins [] v k h = cc
sign_wins (c ∷ cs) v k h =
    let w = and_parts _ _ h in
    let low : c < 128 = ltb-true c 128 w.0 in
    let parts = and_parts _ _ w.1 in
    let s = and_parts _ _ parts.0 in
    let d = and_parts _ _ s.1 in
    let b = and_parts _ _ d.1 in
    sign_by c cs v k (starts_ascii c low ∙ not_true _ s.0) (not_true _ d.0) (not_true _ b.0) (not_true _ b.1) parts.1 (c == 47) refl

pub wins : {which : Element} {u : Text} → IsElement which u → (v : Text) → Wins which u v
wins (white_space {c} h) v = (element.Gap, 1, at_white c v (white_starts_none c h) (white_no_digit c h) h, omega arith, λ k. refl)
wins (line_comment {cs} e) v = (element.Gap, 2 + prefix_len stays_in_line (cs ++ v), at_slash (47 ∷ (cs ++ v)), omega (arith, run_at_least stays_in_line cs v e), λ k. refl)
wins (comment_element cs e) v =
    (element.Gap, 2 + length cs + 2, at_slash (42 ∷ ((cs ++ 42 ∷ 47 ∷ []) ++ v)) ∙ ap (λ x. comment (comment_end 2 x)) (append_assoc cs (42 ∷ 47 ∷ []) v) ∙ ap comment (comment_found cs 2 v e), omega (arith, length-append cs (42 ∷ 47 ∷ [])), λ k. refl)
wins open_comment v = open_comment_wins v (comment_end 2 v) refl
wins (word {c} {cs} s e) v = (element.Word, 1 + prefix_len continues_identifier (cs ++ v), at_word c (cs ++ v) s, omega (arith, run_at_least continues_identifier cs v e), λ k. refl)
wins (number {c} {cs} d e) v = (element.Number, 1 + prefix_len continues_identifier (cs ++ v), at_digit c (cs ++ v) (digit_starts_none c d) d, omega (arith, run_at_least continues_identifier cs v e), λ k. refl)
wins (quoted_element cs b) v =
    (element.Quoted, 1 + length cs + 1, at_quote ((cs ++ 34 ∷ []) ++ v) ∙ ap (λ x. quoted (closing_quote false 1 x)) (append_assoc cs (34 ∷ []) v) ∙ ap quoted (quote_found b 1 v), omega (arith, length-append cs (34 ∷ [])), λ k. refl)
wins open_string v = open_string_wins v (closing_quote false 1 v) refl
wins (sign_element {cs} k) v = sign_wins cs v k (sign_like cs k)

-- ---- what is found is an element at the front

abbrev pub Front : Element → ℕ → Text → Type 0
Front which n text = (w : Text) × (rest : Text) × (text ≡ w ++ rest) × (length w ≡ n) × IsElement which w

abbrev found_or : Found → Element × ℕ → Element × ℕ
found_or None otherwise = otherwise
found_or (Some r) otherwise = r

pub found_same : (x y : Element) (m n : ℕ) → found x m ≡ found y n → (x ≡ y) × (m ≡ n)
found_same x y m n h =
    let get : Found → Element × ℕ = λ o. found_or o (x, m) in
    let one : Element × ℕ = (x, m) in
    let other : Element × ℕ = (y, n) in
    let e : one ≡ other = ap get h in
    (ap (λ r. r.0) e, ap (λ r. r.1) e)

front_as : (x y : Element) (m n : ℕ) (text : Text) → found x m ≡ found y n → Front x m text → Front y n text
front_as x y m n text h f =
    let e = found_same x y m n h in
    subst (λ z. Front z n text) e.0 (subst (λ k. Front x k text) e.1 f)

sign_front : (text : Text) (which : Element) (n : ℕ) → sign text ≡ Some (which, n) → Front which n text
unfolding sign
sign_front text which n h =
    elim (chosen (longest signs 0 text == 0) _ _ _ h) [
      | inl w ↦ cc
      | inr w ↦ elim (longest_is signs 0 text) [
        | inl k ↦ absurd (eqb-false (longest signs 0 text) 0 w.0 k)
        | inr k ↦ let b = begins_front k.0 text k.2 in front_as element.Sign which (longest signs 0 text) n text w.1 (k.0, b.0, b.1, sym k.3, sign_element k.1)
      ]
    ]

quote_front : (cs : Text) (o : Option ℕ) → closing_quote false 1 cs ≡ o → (which : Element) (n : ℕ) → quoted o ≡ Some (which, n) → Front which n (34 ∷ cs)
quote_front cs None e which n h = front_as element.OpenString which 1 n (34 ∷ cs) h (34 ∷ [], cs, refl, refl, open_string)
quote_front cs (Some m) e which n h =
    let r = quote_closes false 1 cs m e in
    front_as element.Quoted which m n (34 ∷ cs) h (34 ∷ (r.0 ++ 34 ∷ []), r.1, ap (λ t. 34 ∷ t) (r.2 ∙ sym (append_assoc r.0 (34 ∷ []) r.1)), omega (arith, length-append r.0 (34 ∷ []), r.3), quoted_element r.0 r.4)

star_front : (ds : Text) (o : Option ℕ) → comment_end 2 ds ≡ o → (which : Element) (n : ℕ) → comment o ≡ Some (which, n) → Front which n (47 ∷ 42 ∷ ds)
star_front ds None e which n h = front_as element.OpenComment which 2 n (47 ∷ 42 ∷ ds) h (47 ∷ 42 ∷ [], ds, refl, refl, open_comment)
star_front ds (Some m) e which n h =
    let r = comment_ends 2 ds m e in
    front_as element.Gap which m n (47 ∷ 42 ∷ ds) h (47 ∷ 42 ∷ (r.0 ++ 42 ∷ 47 ∷ []), r.1, ap (λ t. 47 ∷ 42 ∷ t) (r.2 ∙ sym (append_assoc r.0 (42 ∷ 47 ∷ []) r.1)), omega (arith, length-append r.0 (42 ∷ 47 ∷ []), r.3), comment_element r.0 r.4)

slash_front : (cs : Text) (which : Element) (n : ℕ) → behind_slash (47 ∷ cs) cs ≡ Some (which, n) → Front which n (47 ∷ cs)
slash_front [] which n h = sign_front (47 ∷ []) which n h
slash_front (d ∷ ds) which n h =
    elim (chosen (d == 47) _ _ _ h) [
      | inl w ↦
          let r = run_of stays_in_line ds in
          let e : d ≡ 47 = eqb-true d 47 w.0 in
          front_as element.Gap which (2 + prefix_len stays_in_line ds) n (47 ∷ d ∷ ds) w.1 (47 ∷ 47 ∷ r.0, r.1, (let f : ds ≡ r.0 ++ r.1 = r.2 in cc), omega (arith, r.3), line_comment r.4)
      | inr w ↦ elim (chosen (d == 42) _ _ _ w.1) [
        | inl k ↦ subst (λ t. Front which n (47 ∷ t ∷ ds)) (sym (eqb-true d 42 k.0)) (star_front ds (comment_end 2 ds) refl which n k.1)
        | inr k ↦ sign_front (47 ∷ d ∷ ds) which n k.1
      ]
    ]

run_front : (which : Element) (c : ℕ) (cs : Text) (other : Element) (n : ℕ) → ((u : Text) → list_all continues_identifier u ≡ true → IsElement which (c ∷ u)) → found which (1 + prefix_len continues_identifier cs) ≡ found other n → Front other n (c ∷ cs)
run_front which c cs other n make h =
    let r = run_of continues_identifier cs in
    front_as which other (1 + prefix_len continues_identifier cs) n (c ∷ cs) h (c ∷ r.0, r.1, ap (λ t. c ∷ t) r.2, omega (arith, r.3), make r.0 r.4)

pub front : (text : Text) (which : Element) (n : ℕ) → element_at text ≡ Some (which, n) → Front which n text
unfolding element_at
front [] which n h = cc
front (c ∷ cs) which n h =
    elim (chosen (starts_identifier c) _ _ _ h) [
      | inl a ↦ run_front element.Word c cs which n (λ u e. word a.0 e) a.1
      | inr a ↦ elim (chosen (is_ascii_digit c) _ _ _ a.1) [
        | inl b ↦ run_front element.Number c cs which n (λ u e. number b.0 e) b.1
        | inr b ↦ elim (chosen (is_white_space c) _ _ _ b.1) [
          | inl d ↦ front_as element.Gap which 1 n (c ∷ cs) d.1 (c ∷ [], cs, refl, refl, white_space d.0)
          | inr d ↦ elim (chosen (c == 34) _ _ _ d.1) [
            | inl f ↦ subst (λ t. Front which n (t ∷ cs)) (sym (eqb-true c 34 f.0)) (quote_front cs (closing_quote false 1 cs) refl which n f.1)
            | inr f ↦ elim (chosen (c == 47) _ _ _ f.1) [
              | inl g ↦
                  let e : c ≡ 47 = eqb-true c 47 g.0 in
                  subst (λ t. Front which n (t ∷ cs)) (sym e) (slash_front cs which n (subst (λ t. behind_slash (t ∷ cs) cs ≡ Some (which, n)) e g.1))
              | inr g ↦ sign_front (c ∷ cs) which n g.1
            ]
          ]
        ]
      ]
    ]
