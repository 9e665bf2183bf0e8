-- The longest element at the front of a text is the longest one of another text that goes on behind it with the same character, or with one of those with which an inserted text begins.
use Rattle.std.proofs.Common.{◌≡◌, ℕ, ◌+◌, ◌<◌, ◌≤◌, ◌==◌, ◌&&◌, ◌||◌, not, nat_lt, nat_le, Bool, true, false, [], ◌∷◌, ◌++◌, length, Some, refl, sym, ap, subst, ◌∙◌, append_assoc, length-append, arith, inl, inr, lit<}
use Rattle.std.specs.List.{list_all, Contains}
use Rattle.std.specs.Char.{is_ascii_digit, is_ascii_alphanumeric}
use Rattle.std.proofs.lemmas.Bool.{and_parts, or_cases, ltb-true, ltb-false, leb-true, agree_below_at}
use borrow.Author.Tests.{eqb-true}
use Rattle.unicode_ident.proofs.IdentLemmas.{is_xid_start-ascii, is_xid_continue-ascii}
use Rattle.ix_lexer.specs.declared.elements.Element.{Element}
use Rattle.ix_lexer.specs.declared.elements.Element.TheVariants as element
use Rattle.ix_lexer.specs.Characters.{Text, starts_identifier, continues_identifier, is_white_space}
use Rattle.ix_lexer.specs.Elements.{IsElement, IsStringBody, closes_comment, signs, white_space, line_comment, comment, open_comment, word, number, quoted, open_string, sign}
use Rattle.ix_lexer.specs.Scan.{stays_in_line, closing_quote, comment_end}
use Rattle.ix_lexer.specs.Tokens.{Longest}
use Rattle.ix_lexer.proofs.LongestElement.{some_sign}
use Rattle.ix_lexer.proofs.Scans.{not_true, quote_found, comment_found}
use Rattle.ix_guard_text.proofs.SignFronts.{begins_word, sign_front, sign_parts, last_holds, front_all, not_later}

-- ---- classes of characters

pub starts_ascii : (c : ℕ) → c < 128 → starts_identifier c ≡ begins_word c
starts_ascii c h = ap (λ b. b || c == 95 || c == 36) (is_xid_start-ascii c h)

abbrev pub goes_on : ℕ → Bool
goes_on c = (is_ascii_alphanumeric c || c == 95) && not (c == 8204 || c == 8205) || c == 36

pub continues_ascii : (c : ℕ) → c < 128 → continues_identifier c ≡ goes_on c
continues_ascii c h = ap (λ b. b && not (c == 8204 || c == 8205) || c == 36) (is_xid_continue-ascii c h)

low_as : (c k : ℕ) → k < 128 → (c == k) ≡ true → c < 128
low_as c k h e = omega (arith, eqb-true c k e)

pub digit_low : (c : ℕ) → is_ascii_digit c ≡ true → c < 128
digit_low c h = omega (arith, leb-true c 57 (and_parts (nat_le 48 c) (nat_le c 57) h).1)

pub digit_starts_none : (c : ℕ) → is_ascii_digit c ≡ true → starts_identifier c ≡ false
digit_starts_none c h =
    let e = agree_below_at (λ x. is_ascii_digit x && begins_word x) (λ x. false) 128 c refl (digit_low c h) in
    starts_ascii c (digit_low c h) ∙ (rw h at e)

pub not_empty : {which : Element} {w : Text} → IsElement which w → 1 ≤ length w
not_empty (white_space h) = omega arith
not_empty (line_comment h) = omega arith
not_empty (comment cs h) = omega arith
not_empty open_comment = omega arith
not_empty (word s h) = omega arith
not_empty (number d h) = omega arith
not_empty (quoted cs b) = omega arith
not_empty open_string = omega arith
not_empty (sign {cs} k) = some_sign cs k

-- ---- elements by their first characters

abbrev pub is_closed : Element → Bool
is_closed element.OpenComment = false
is_closed element.OpenString = false
is_closed _ = true

-- two texts with fronts
heads : (a c : ℕ) (u v : Text) → a ∷ u ≡ c ∷ v → (a ≡ c) × (u ≡ v)
heads a c u v e = (cc, cc)

clash : (a c : ℕ) (u v : Text) → (a == c) ≡ false → a ∷ u ≡ c ∷ v → ⊥
clash a c u v h e = let f : a ≡ c = (heads a c u v e).0 in let g : (c == c) ≡ false = subst (λ x. (x == c) ≡ false) f h in no_same c g
  where
    no_same : (n : ℕ) → (n == n) ≡ false → ⊥
    no_same n h = let e : (n == n) ≡ true = grind arith in cc

no_quote_sign : (x : Text) → Contains signs (34 ∷ x) → ⊥
no_quote_sign x k = let h = (sign_parts 34 x k).no_quote in cc

slash_sign : (d : ℕ) (x : Text) → (d == 61) ≡ false → Contains signs (47 ∷ d ∷ x) → ⊥
slash_sign d x other k =
    let h = (sign_parts 47 (d ∷ x) k).slash in
    elim (or_cases (length (d ∷ x) == 0) (d == 61) h) [
      | inl e ↦ let z : length (d ∷ x) ≡ 0 = eqb-true (length (d ∷ x)) 0 e in absurd (omega (arith, z))
      | inr e ↦ cc
    ]

-- a closed element that begins with a quote is a string
abbrev IsString : Element → Text → Type 0
IsString which x = (cs : Text) × IsStringBody cs × (34 ∷ x ≡ 34 ∷ (cs ++ 34 ∷ []))

string_of : {which : Element} {w : Text} → IsElement which w → (x : Text) → w ≡ 34 ∷ x → is_closed which ≡ true → IsString which x
string_of (white_space {c} h) x e closed = let f : c ≡ 34 = (heads c 34 [] x e).0 in let g : is_white_space 34 ≡ true = subst (λ n. is_white_space n ≡ true) f h in cc
string_of (line_comment h) x e closed = absurd (clash 47 34 _ x refl e)
string_of (comment cs h) x e closed = absurd (clash 47 34 _ x refl e)
string_of open_comment x e closed = absurd (clash 47 34 _ x refl e)
string_of (word {c} {cs} s h) x e closed =
    let f : c ≡ 34 = (heads c 34 cs x e).0 in
    let g : starts_identifier 34 ≡ true = subst (λ n. starts_identifier n ≡ true) f s in
    let k : starts_identifier 34 ≡ false = starts_ascii 34 (lit< tt) in cc
string_of (number {c} {cs} d h) x e closed = let f : c ≡ 34 = (heads c 34 cs x e).0 in let g : is_ascii_digit 34 ≡ true = subst (λ n. is_ascii_digit n ≡ true) f d in cc
string_of (quoted cs b) x e closed = (cs, b, sym e)
string_of open_string x e closed = cc
string_of (sign {cs} k) x e closed = absurd (no_quote_sign x (subst (λ y. Contains signs y) e k))

-- a closed element that begins with `/*` is a comment
abbrev IsComment : Text → Type 0
IsComment x = (cs : Text) × (closes_comment (cs ++ 42 ∷ []) ≡ false) × (x ≡ cs ++ 42 ∷ 47 ∷ [])

comment_of : {which : Element} {w : Text} → IsElement which w → (x : Text) → w ≡ 47 ∷ 42 ∷ x → is_closed which ≡ true → IsComment x
comment_of (white_space {c} h) x e closed = let l = ap length e in absurd (omega (arith, l))
comment_of (line_comment {cs} h) x e closed = absurd (clash 47 42 cs x refl (heads 47 47 (47 ∷ cs) (42 ∷ x) e).1)
comment_of (comment cs h) x e closed = (cs, h, sym (heads 42 42 (cs ++ 42 ∷ 47 ∷ []) x (heads 47 47 (42 ∷ (cs ++ 42 ∷ 47 ∷ [])) (42 ∷ x) e).1).1)
comment_of open_comment x e closed = cc
comment_of (word {c} {cs} s h) x e closed =
    let f : c ≡ 47 = (heads c 47 cs (42 ∷ x) e).0 in
    let g : starts_identifier 47 ≡ true = subst (λ n. starts_identifier n ≡ true) f s in
    let k : starts_identifier 47 ≡ false = starts_ascii 47 (lit< tt) in cc
comment_of (number {c} {cs} d h) x e closed = let f : c ≡ 47 = (heads c 47 cs (42 ∷ x) e).0 in let g : is_ascii_digit 47 ≡ true = subst (λ n. is_ascii_digit n ≡ true) f d in cc
comment_of (quoted cs b) x e closed = absurd (clash 34 47 _ (42 ∷ x) refl e)
comment_of open_string x e closed = absurd (clash 34 47 _ (42 ∷ x) refl e)
comment_of (sign {cs} k) x e closed = absurd (slash_sign 42 x refl (subst (λ y. Contains signs y) e k))

-- an element that begins with `//` is a comment to the end of its line
abbrev IsLine : Element → Text → Type 0
IsLine which x = (which ≡ element.Gap) × (list_all stays_in_line x ≡ true)

line_of : {which : Element} {w : Text} → IsElement which w → (x : Text) → w ≡ 47 ∷ 47 ∷ x → IsLine which x
line_of (white_space {c} h) x e = let l = ap length e in absurd (omega (arith, l))
line_of (line_comment {cs} h) x e = (refl, subst (λ t. list_all stays_in_line t ≡ true) (heads 47 47 cs x (heads 47 47 (47 ∷ cs) (47 ∷ x) e).1).1 h)
line_of (comment cs h) x e = absurd (clash 42 47 _ x refl (heads 47 47 _ (47 ∷ x) e).1)
line_of open_comment x e = absurd (clash 42 47 [] x refl (heads 47 47 (42 ∷ []) (47 ∷ x) e).1)
line_of (word {c} {cs} s h) x e =
    let f : c ≡ 47 = (heads c 47 cs (47 ∷ x) e).0 in
    let g : starts_identifier 47 ≡ true = subst (λ n. starts_identifier n ≡ true) f s in
    let k : starts_identifier 47 ≡ false = starts_ascii 47 (lit< tt) in cc
line_of (number {c} {cs} d h) x e = let f : c ≡ 47 = (heads c 47 cs (47 ∷ x) e).0 in let g : is_ascii_digit 47 ≡ true = subst (λ n. is_ascii_digit n ≡ true) f d in cc
line_of (quoted cs b) x e = absurd (clash 34 47 _ (47 ∷ x) refl e)
line_of open_string x e = absurd (clash 34 47 [] (47 ∷ x) refl e)
line_of (sign {cs} k) x e = absurd (slash_sign 47 x refl (subst (λ y. Contains signs y) e k))

-- what an element that begins as a word or a number is
abbrev pub is_wordy : Element → Bool
is_wordy element.Word = true
is_wordy element.Number = true
is_wordy _ = false

no_first : (a c : ℕ) (u x : Text) → is_ascii_digit a ≡ false → starts_identifier a ≡ false → a ∷ u ≡ c ∷ x → (starts_identifier c || is_ascii_digit c) ≡ true → ⊥
no_first a c u x d b e s =
    let f : (starts_identifier a || is_ascii_digit a) ≡ true = subst (λ n. (starts_identifier n || is_ascii_digit n) ≡ true) (sym (heads a c u x e).0) s in
    let g : (starts_identifier a || is_ascii_digit a) ≡ false = rw (b, d) refl in cc

pub white_low : (c : ℕ) → is_white_space c ≡ true → c < 128
white_low c h =
    elim (or_cases _ _ h) [
      | inr d ↦ elim (or_cases _ _ d) [ inl f ↦ low_as c 10 (lit< tt) f | inr f ↦ low_as c 13 (lit< tt) f ]
      | inl a ↦ elim (or_cases _ _ a) [
        | inr b ↦ low_as c 12 (lit< tt) b
        | inl b ↦ elim (or_cases _ _ b) [ inl f ↦ low_as c 32 (lit< tt) f | inr f ↦ low_as c 9 (lit< tt) f ]
      ]
    ]

pub not_wordy_white : (c : ℕ) → is_white_space c ≡ true → (starts_identifier c || is_ascii_digit c) ≡ true → ⊥
not_wordy_white c h s =
    let low = white_low c h in
    let e = agree_below_at (λ x. is_white_space x && (begins_word x || is_ascii_digit x)) (λ x. false) 128 c refl low in
    let f : (begins_word c || is_ascii_digit c) ≡ false = rw h at e in
    let g : (starts_identifier c || is_ascii_digit c) ≡ false = ap (λ b. b || is_ascii_digit c) (starts_ascii c low) ∙ f in cc

wordy_of : {which : Element} {w : Text} → IsElement which w → (c : ℕ) (x : Text) → w ≡ c ∷ x → (starts_identifier c || is_ascii_digit c) ≡ true → is_wordy which ≡ true
wordy_of (white_space {c = b} h) c x e s =
    let f : b ≡ c = (heads b c [] x e).0 in
    let w : is_white_space c ≡ true = subst (λ n. is_white_space n ≡ true) f h in absurd (not_wordy_white c w s)
wordy_of (line_comment {cs} h) c x e s = absurd (no_first 47 c _ x refl (starts_ascii 47 (lit< tt)) e s)
wordy_of (comment cs h) c x e s = absurd (no_first 47 c _ x refl (starts_ascii 47 (lit< tt)) e s)
wordy_of open_comment c x e s = absurd (no_first 47 c _ x refl (starts_ascii 47 (lit< tt)) e s)
wordy_of (word b h) c x e s = refl
wordy_of (number d h) c x e s = refl
wordy_of (quoted cs b) c x e s = absurd (no_first 34 c _ x refl (starts_ascii 34 (lit< tt)) e s)
wordy_of open_string c x e s = absurd (no_first 34 c _ x refl (starts_ascii 34 (lit< tt)) e s)
wordy_of (sign {cs} k) c x e s =
    let p = sign_parts c x (subst (λ y. Contains signs y) e k) in
    let low : c < 128 = ltb-true c 128 p.low in
    let a : starts_identifier c ≡ false = starts_ascii c low ∙ not_true _ p.no_word in
    let b : is_ascii_digit c ≡ false = not_true _ p.no_digit in
    let f : (starts_identifier c || is_ascii_digit c) ≡ false = rw (a, b) refl in cc

-- ---- an element goes on by one character where a longer one does

abbrev One : Text → ℕ → Type 0
One w d = (which : Element) × IsElement which (w ++ d ∷ [])

behind_front : (c : ℕ) (cs : Text) (d : ℕ) (x v : Text) → v ≡ (c ∷ cs) ++ d ∷ x → length v ≡ 1 → ⊥
behind_front c cs d x v e l = absurd (omega (arith, ap length e, length-append cs (d ∷ x), l))

some_number : (m n : ℕ) → Some m ≡ Some n → m ≡ n
some_number m n h = cc

lines_on : (c : ℕ) (cs : Text) (d : ℕ) (x cs0 : Text) → 47 ∷ 47 ∷ cs0 ≡ c ∷ (cs ++ d ∷ x) → list_all stays_in_line cs0 ≡ true → One (c ∷ cs) d
lines_on c [] d x cs0 e h =
    let a = heads 47 c (47 ∷ cs0) (d ∷ x) e in
    let b = heads 47 d cs0 x a.1 in
    (element.Gap, subst (λ t. IsElement element.Gap t) (let f : 47 ≡ c = a.0 in let g : 47 ≡ d = b.0 in let r : 47 ∷ 47 ∷ [] ≡ c ∷ d ∷ [] = cc in r) (line_comment {cs = []} refl))
lines_on c (b ∷ cs) d x cs0 e h =
    let a = heads 47 c (47 ∷ cs0) (b ∷ (cs ++ d ∷ x)) e in
    let k = heads 47 b cs0 (cs ++ d ∷ x) a.1 in
    let all = front_all stays_in_line cs d x (subst (λ t. list_all stays_in_line t ≡ true) k.1 h) in
    (element.Gap, subst (λ t. IsElement element.Gap t) (let f : 47 ≡ c = a.0 in let g : 47 ≡ b = k.0 in let r : 47 ∷ 47 ∷ (cs ++ d ∷ []) ≡ c ∷ b ∷ (cs ++ d ∷ []) = cc in r) (line_comment {cs = cs ++ d ∷ []} all))

two_marks : (c d : ℕ) → 47 ≡ c → 42 ≡ d → One (c ∷ []) d
two_marks c d f g = (element.OpenComment, subst (λ t. IsElement element.OpenComment t) (let r : 47 ∷ 42 ∷ [] ≡ c ∷ d ∷ [] = cc in r) open_comment)

-- a comment is not the front of a longer one
one_comment : (cs cs0 : Text) (d : ℕ) (x : Text) → closes_comment (cs ++ 42 ∷ []) ≡ false → closes_comment (cs0 ++ 42 ∷ []) ≡ false → cs0 ++ 42 ∷ 47 ∷ [] ≡ (cs ++ 42 ∷ 47 ∷ []) ++ d ∷ x → ⊥
one_comment cs cs0 d x h k e =
    let f : comment_end 2 (cs ++ 42 ∷ 47 ∷ d ∷ x) ≡ Some (2 + length cs + 2) = comment_found cs 2 (d ∷ x) h in
    let g : comment_end 2 (cs0 ++ 42 ∷ 47 ∷ []) ≡ Some (2 + length cs0 + 2) = comment_found cs0 2 [] k in
    let s : cs0 ++ 42 ∷ 47 ∷ [] ≡ cs ++ 42 ∷ 47 ∷ d ∷ x = e ∙ append_assoc cs (42 ∷ 47 ∷ []) (d ∷ x) in
    let same : 2 + length cs ≡ 2 + length cs0 = omega (arith, some_number (2 + length cs + 2) (2 + length cs0 + 2) (sym f ∙ ap (comment_end 2) (sym s) ∙ g)) in
    absurd (omega (arith, same, ap length s, length-append cs (42 ∷ 47 ∷ d ∷ x), length-append cs0 (42 ∷ 47 ∷ [])))

-- a string is not the front of a longer one
one_string : (cs cs0 : Text) (d : ℕ) (x : Text) → IsStringBody cs → IsStringBody cs0 → cs0 ++ 34 ∷ [] ≡ (cs ++ 34 ∷ []) ++ d ∷ x → ⊥
one_string cs cs0 d x h k e =
    let f : closing_quote false 1 (cs ++ 34 ∷ d ∷ x) ≡ Some (1 + length cs + 1) = quote_found h 1 (d ∷ x) in
    let g : closing_quote false 1 (cs0 ++ 34 ∷ []) ≡ Some (1 + length cs0 + 1) = quote_found k 1 [] in
    let s : cs0 ++ 34 ∷ [] ≡ cs ++ 34 ∷ d ∷ x = e ∙ append_assoc cs (34 ∷ []) (d ∷ x) in
    let same : 1 + length cs ≡ 1 + length cs0 = omega (arith, some_number (1 + length cs + 1) (1 + length cs0 + 1) (sym f ∙ ap (closing_quote false 1) (sym s) ∙ g)) in
    absurd (omega (arith, same, ap length s, length-append cs (34 ∷ d ∷ x), length-append cs0 (34 ∷ [])))

comments_on : {which : Element} (c : ℕ) (cs : Text) (d : ℕ) (x cs0 : Text) → 47 ∷ 42 ∷ (cs0 ++ 42 ∷ 47 ∷ []) ≡ c ∷ (cs ++ d ∷ x) → closes_comment (cs0 ++ 42 ∷ []) ≡ false → IsElement which (c ∷ cs) → is_closed which ≡ true → One (c ∷ cs) d
comments_on c [] d x cs0 e h w closed = let a = heads 47 c _ (d ∷ x) e in two_marks c d a.0 (heads 42 d _ x a.1).0
comments_on c (b ∷ cs) d x cs0 e h w closed =
    let a = heads 47 c _ (b ∷ (cs ++ d ∷ x)) e in
    let k = heads 42 b _ (cs ++ d ∷ x) a.1 in
    let f : c ∷ b ∷ cs ≡ 47 ∷ 42 ∷ cs = (let p : 47 ≡ c = a.0 in let q : 42 ≡ b = k.0 in cc) in
    let found = comment_of w cs f closed in
    absurd (one_comment found.0 cs0 d x found.1 h (k.1 ∙ ap (λ t. t ++ d ∷ x) found.2))

pub longer_by_one : {other which : Element} {v : Text} → IsElement other v → (w : Text) (d : ℕ) (x : Text) → v ≡ w ++ d ∷ x → IsElement which w → is_closed which ≡ true → One w d
longer_by_one o [] d x e w closed = absurd (omega (arith, not_empty w))
longer_by_one (white_space {c = b} h) (c ∷ cs) d x e w closed = absurd (behind_front c cs d x (b ∷ []) e refl)
longer_by_one (line_comment {cs = cs0} h) (c ∷ cs) d x e w closed = lines_on c cs d x cs0 e h
longer_by_one (comment cs0 h) (c ∷ cs) d x e w closed = comments_on c cs d x cs0 e h w closed
longer_by_one open_comment (c ∷ []) d x e w closed = let a = heads 47 c (42 ∷ []) (d ∷ x) e in two_marks c d a.0 (heads 42 d [] x a.1).0
longer_by_one open_comment (c ∷ b ∷ cs) d x e w closed = absurd (omega (arith, ap length e, length-append cs (d ∷ x)))
longer_by_one (word {c = b} {cs = cs0} s h) (c ∷ cs) d x e w closed =
    let a = heads b c cs0 (cs ++ d ∷ x) e in
    (element.Word, word (subst (λ n. starts_identifier n ≡ true) a.0 s) (front_all continues_identifier cs d x (subst (λ t. list_all continues_identifier t ≡ true) a.1 h)))
longer_by_one (number {c = b} {cs = cs0} s h) (c ∷ cs) d x e w closed =
    let a = heads b c cs0 (cs ++ d ∷ x) e in
    (element.Number, number (subst (λ n. is_ascii_digit n ≡ true) a.0 s) (front_all continues_identifier cs d x (subst (λ t. list_all continues_identifier t ≡ true) a.1 h)))
longer_by_one (quoted cs0 b) (c ∷ cs) d x e w closed =
    let a = heads 34 c (cs0 ++ 34 ∷ []) (cs ++ d ∷ x) e in
    let found = string_of w cs (let p : 34 ≡ c = a.0 in cc) closed in
    absurd (one_string found.0 cs0 d x found.1 b (a.1 ∙ ap (λ t. t ++ d ∷ x) (heads 34 34 cs (found.0 ++ 34 ∷ []) found.2).1))
longer_by_one open_string (c ∷ cs) d x e w closed = absurd (behind_front c cs d x (34 ∷ []) e refl)
longer_by_one (sign {cs = s} k) (c ∷ cs) d x e w closed = (element.Sign, sign (sign_front s (c ∷ cs) d x k e))

-- ---- none does with the characters with which inserted texts begin

-- a blank and an opening brace; and `i` behind what is neither a word nor a number
abbrev pub opens : Element → ℕ → Bool
opens which d = d == 32 || (d == 123 || (d == 105 && not (is_wordy which)))

-- where the element is a gap, the text behind it begins with a character that doesn't end a line
abbrev pub InLine : Element → Text → Type 0
InLine which rest = which ≡ element.Gap → (d : ℕ) × (more : Text) × (rest ≡ d ∷ more) × (stays_in_line d ≡ true)

last_as : (w u : Text) (a d : ℕ) → u ++ a ∷ [] ≡ w ++ d ∷ [] → a ≡ d
last_as [] [] a d e = (heads a d [] [] e).0
last_as [] (b ∷ u) a d e = absurd (omega (arith, ap length e, length-append u (a ∷ [])))
last_as (c ∷ w) [] a d e = absurd (omega (arith, ap length e, length-append w (d ∷ [])))
last_as (c ∷ w) (b ∷ u) a d e = last_as w u a d (heads b c (u ++ a ∷ []) (w ++ d ∷ []) e).1

opens_low : (which : Element) (d : ℕ) → opens which d ≡ true → d < 128
opens_low which d h =
    elim (or_cases _ _ h) [
      | inl f ↦ low_as d 32 (lit< tt) f
      | inr k ↦ elim (or_cases _ _ k) [ inl f ↦ low_as d 123 (lit< tt) f | inr f ↦ low_as d 105 (lit< tt) (and_parts _ _ f).0 ]
    ]

-- it is none of these characters
opens_not : (which : Element) (test : ℕ → Bool) (d : ℕ) → opens which d ≡ true → (test 32 ≡ false) → (test 123 ≡ false) → (test 105 ≡ false) → test d ≡ true → ⊥
opens_not which test d h a b c t =
    elim (or_cases _ _ h) [
      | inl f ↦ let e : test 32 ≡ true = subst (λ n. test n ≡ true) (eqb-true d 32 f) t in cc
      | inr k ↦ elim (or_cases _ _ k) [
        | inl f ↦ let e : test 123 ≡ true = subst (λ n. test n ≡ true) (eqb-true d 123 f) t in cc
        | inr f ↦ let e : test 105 ≡ true = subst (λ n. test n ≡ true) (eqb-true d 105 (and_parts _ _ f).0) t in cc
      ]
    ]

not_this : (which : Element) (d k : ℕ) → opens which d ≡ true → (32 == k) ≡ false → (123 == k) ≡ false → (105 == k) ≡ false → k ≡ d → ⊥
not_this which d k h a b c e = opens_not which (λ n. n == k) d h a b c (let t : (k == k) ≡ true = grind arith in subst (λ n. (n == k) ≡ true) e t)

-- what a word or a number goes on with is `i` alone, and then the element is one of them
not_word : (which : Element) (d : ℕ) → opens which d ≡ true → is_wordy which ≡ true → continues_identifier d ≡ true → ⊥
not_word which d h w t =
    let g : goes_on d ≡ true = sym (continues_ascii d (opens_low which d h)) ∙ t in
    elim (or_cases _ _ h) [
      | inl f ↦ let e : goes_on 32 ≡ true = subst (λ n. goes_on n ≡ true) (eqb-true d 32 f) g in cc
      | inr k ↦ elim (or_cases _ _ k) [
        | inl f ↦ let e : goes_on 123 ≡ true = subst (λ n. goes_on n ≡ true) (eqb-true d 123 f) g in cc
        | inr f ↦ let e : not (is_wordy which) ≡ true = (and_parts (d == 105) (not (is_wordy which)) f).1 in let r : is_wordy which ≡ false = not_true (is_wordy which) e in cc
      ]
    ]

line_ends : {which : Element} (c : ℕ) (cs : Text) (d : ℕ) (cs0 rest : Text) → 47 ∷ 47 ∷ cs0 ≡ c ∷ (cs ++ d ∷ []) → list_all stays_in_line cs0 ≡ true → IsElement which (c ∷ cs) → Longest which (c ∷ cs) ((c ∷ cs) ++ rest) → InLine which rest → opens which d ≡ true → ⊥
line_ends {which} c [] d cs0 rest e h w l line o = let a = heads 47 c (47 ∷ cs0) (d ∷ []) e in not_this which d 47 o refl refl refl (heads 47 d cs0 [] a.1).0
line_ends {which} c (b ∷ cs) d cs0 rest e h w l line o =
    let a = heads 47 c (47 ∷ cs0) (b ∷ (cs ++ d ∷ [])) e in
    let k = heads 47 b cs0 (cs ++ d ∷ []) a.1 in
    let f : c ∷ b ∷ cs ≡ 47 ∷ 47 ∷ cs = (let p : 47 ≡ c = a.0 in let q : 47 ≡ b = k.0 in cc) in
    let found = line_of w cs f in
    let next = line found.0 in
    let all : list_all stays_in_line (cs ++ next.0 ∷ []) ≡ true = all_and_one cs next.0 found.1 next.3 in
    let longer : IsElement element.Gap (47 ∷ 47 ∷ (cs ++ next.0 ∷ [])) = line_comment {cs = cs ++ next.0 ∷ []} all in
    let le : length (47 ∷ 47 ∷ (cs ++ next.0 ∷ [])) ≤ length (c ∷ b ∷ cs) = l.2 element.Gap (47 ∷ 47 ∷ (cs ++ next.0 ∷ [])) next.1 (ap (λ t. t ++ rest) f ∙ ap (λ t. 47 ∷ 47 ∷ (cs ++ t)) next.2 ∙ ap (λ t. 47 ∷ 47 ∷ t) (sym (append_assoc cs (next.0 ∷ []) next.1))) longer in
    absurd (omega (arith, le, length-append cs (next.0 ∷ [])))
  where
    all_and_one : (cs : Text) (n : ℕ) → list_all stays_in_line cs ≡ true → stays_in_line n ≡ true → list_all stays_in_line (cs ++ n ∷ []) ≡ true
    all_and_one [] n h t = rw t refl
    all_and_one (c ∷ cs) n h t = let w = and_parts (stays_in_line c) (list_all stays_in_line cs) h in rw (w.0, all_and_one cs n w.1 t) refl

pub none_opens : {other which : Element} {v : Text} → IsElement other v → (w : Text) (d : ℕ) (rest : Text) → v ≡ w ++ d ∷ [] → Longest which w (w ++ rest) → InLine which rest → is_closed which ≡ true → opens which d ≡ true → ⊥
none_opens i [] d rest e l line closed o = absurd (omega (arith, not_empty l.0))
none_opens (white_space {c = b} h) (c ∷ cs) d rest e l line closed o = absurd (behind_front c cs d [] (b ∷ []) e refl)
none_opens (line_comment {cs = cs0} h) (c ∷ cs) d rest e l line closed o = line_ends c cs d cs0 rest e h l.0 l line o
none_opens {which = which} (comment cs0 h) (c ∷ cs) d rest e l line closed o = not_this which d 47 o refl refl refl (last_as (c ∷ cs) (47 ∷ 42 ∷ (cs0 ++ 42 ∷ [])) 47 d (ap (λ t. 47 ∷ 42 ∷ t) (append_assoc cs0 (42 ∷ []) (47 ∷ [])) ∙ e))
none_opens {which = which} open_comment (c ∷ cs) d rest e l line closed o = not_this which d 42 o refl refl refl (last_as (c ∷ cs) (47 ∷ []) 42 d e)
none_opens {which = which} (word {c = b} {cs = cs0} s h) (c ∷ cs) d rest e l line closed o =
    let a = heads b c cs0 (cs ++ d ∷ []) e in
    let t = (last_holds continues_identifier cs d (subst (λ t. list_all continues_identifier t ≡ true) a.1 h)).1 in
    not_word which d o (wordy_of l.0 c cs refl (let q : starts_identifier c ≡ true = subst (λ n. starts_identifier n ≡ true) a.0 s in rw q refl)) t
none_opens {which = which} (number {c = b} {cs = cs0} s h) (c ∷ cs) d rest e l line closed o =
    let a = heads b c cs0 (cs ++ d ∷ []) e in
    let t = (last_holds continues_identifier cs d (subst (λ t. list_all continues_identifier t ≡ true) a.1 h)).1 in
    let q : is_ascii_digit c ≡ true = subst (λ n. is_ascii_digit n ≡ true) a.0 s in
    not_word which d o (wordy_of l.0 c cs refl (rw (digit_starts_none c q, q) refl)) t
none_opens {which = which} (quoted cs0 b) (c ∷ cs) d rest e l line closed o = not_this which d 34 o refl refl refl (last_as (c ∷ cs) (34 ∷ cs0) 34 d e)
none_opens open_string (c ∷ cs) d rest e l line closed o = absurd (behind_front c cs d [] (34 ∷ []) e refl)
none_opens {which = which} (sign {cs = s} k) (c ∷ cs) d rest e l line closed o =
    opens_not which (λ n. n == 61 || (n == 38 || (n == 124 || (n == 60 || (n == 62 || (n == 43 || n == 45)))))) d o refl refl refl (not_later (c ∷ cs) d (omega arith) (subst (λ t. Contains signs t) e k))

-- ---- the law

-- How a text may go on in place of another behind an element: not at all, as the other; with the same character; or with an inserted text.
pub data Front (which : Element) : Text → Text → Type 0 where
  ends : Front which [] []
  same : {c : ℕ} {rest other : Text} → Front which (c ∷ rest) (c ∷ other)
  inserted : {c : ℕ} {rest other : Text} → opens which c ≡ true → InLine which rest → Front which rest (c ∷ other)

-- a longer element begins with the element and one more character
longer_front : (w v : Text) (rest r : Text) → w ++ rest ≡ v ++ r → length w < length v → (d : ℕ) × (x y : Text) × (v ≡ w ++ d ∷ x) × (rest ≡ d ∷ y)
longer_front [] [] rest r e lt = absurd (omega arith)
longer_front [] (d ∷ x) rest r e lt = (d, x, x ++ r, refl, e)
longer_front (c ∷ w) [] rest r e lt = absurd (omega arith)
longer_front (c ∷ w) (b ∷ v) rest r e lt =
    let a = heads c b (w ++ rest) (v ++ r) e in
    let more = longer_front w v rest r a.1 (omega (arith, lt)) in
    (more.0, more.1, more.2, (let p : c ≡ b = a.0 in let q : v ≡ w ++ more.0 ∷ more.1 = more.3 in cc), more.4)

no_longer : {which : Element} (w rest new : Text) → Longest which w (w ++ rest) → is_closed which ≡ true → Front which rest new → (other : Element) (v r : Text) → w ++ new ≡ v ++ r → IsElement other v → length w < length v → ⊥
no_longer w _ _ l closed ends other v r e i lt = let f = longer_front w v [] r e lt in absurd (omega (arith, ap length f.4))
no_longer w _ _ l closed (same {c} {rest} {other = new}) other v r e i lt =
    let f = longer_front w v (c ∷ new) r e lt in
    let g : c ≡ f.0 = (heads c f.0 new f.2 f.4).0 in
    let one = longer_by_one i w f.0 f.1 f.3 l.0 closed in
    let le : length (w ++ f.0 ∷ []) ≤ length w = l.2 one.0 (w ++ f.0 ∷ []) rest (ap (λ n. w ++ n ∷ rest) g ∙ sym (append_assoc w (f.0 ∷ []) rest)) one.1 in
    absurd (omega (arith, le, length-append w (f.0 ∷ [])))
no_longer {which} w _ _ l closed (inserted {c} {rest} {other = new} o line) other v r e i lt =
    let f = longer_front w v (c ∷ new) r e lt in
    let g : c ≡ f.0 = (heads c f.0 new f.2 f.4).0 in
    let one = longer_by_one i w f.0 f.1 f.3 l.0 closed in
    none_opens one.1 w f.0 rest refl l line closed (subst (λ n. opens which n ≡ true) g o)

pub longest_again : (which : Element) (w rest new : Text) → Longest which w (w ++ rest) → is_closed which ≡ true → Front which rest new → Longest which w (w ++ new)
longest_again which w rest new l closed front =
    (l.0, (new, refl), λ other v r e i. not_less (length w) (length v) (no_longer w rest new l closed front other v r e i))
  where
    not_less : (m n : ℕ) → (m < n → ⊥) → n ≤ m
    not_less m n h = elim (nat_lt m n) as (λ b. nat_lt m n ≡ b → n ≤ m) [ true ↦ λ e. absurd (h (ltb-true m n e)) | false ↦ λ e. ltb-false m n e ] refl
