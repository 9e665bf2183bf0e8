-- What the scans find stands at the front of the text, and what stands there is found: runs of characters, strings, comments and signs.
use Rattle.std.proofs.Common.{◌≡◌, ℕ, zero, suc, ◌+◌, ◌<◌, ◌≤◌, ◌==◌, ◌&&◌, ◌||◌, not, nat_lt, Bool, true, false, cond, if◌then◌else◌, List, [], ◌∷◌, ◌++◌, length, get_or, Some, refl, sym, ap, subst, ◌∙◌, arith, ◌⊎◌, inl, inr, eq-eqb}
use Rattle.std.specs.List.{list_all, prefix_len, Contains}
use Rattle.std.proofs.lemmas.Bool.{and_parts, or_parts, ltb-true, ltb-false}
use borrow.Author.Tests.{eqb-true}
use Rattle.ix_lexer.specs.Characters.{Text, first, ends_line, quote, backslash}
use Rattle.ix_lexer.specs.Elements.{closes_comment, IsStringBody, nothing, plain, escaped}
use Rattle.ix_lexer.specs.Scan.{closing_quote, comment_end, begins, longest}

-- which branch a choice took
pub chosen : {A : Type 0} (b : Bool) (x y z : A) → cond b x y ≡ z → ((b ≡ true) × (x ≡ z)) ⊎ ((b ≡ false) × (y ≡ z))
chosen true x y z h = inl (refl, h)
chosen false x y z h = inr (refl, h)

pub not_true : (x : Bool) → not x ≡ true → x ≡ false
not_true true h = cc
not_true false h = refl

some_same : (m n : ℕ) → Some m ≡ Some n → m ≡ n
some_same m n h = cc

-- ---- runs of characters that pass a test

pub run_at_least : (test : ℕ → Bool) (u v : Text) → list_all test u ≡ true → length u ≤ prefix_len test (u ++ v)
run_at_least test [] v h = omega arith
run_at_least test (c ∷ u) v h = let w = and_parts (test c) (list_all test u) h in rw w.0 (omega (arith, run_at_least test u v w.1))

abbrev pub Run : (ℕ → Bool) → Text → Type 0
Run test cs = (u : Text) × (v : Text) × (cs ≡ u ++ v) × (length u ≡ prefix_len test cs) × (list_all test u ≡ true)

longer_run : (test : ℕ → Bool) (c : ℕ) (cs : Text) (b : Bool) → test c ≡ b → Run test cs → Run test (c ∷ cs)
longer_run test c cs true e r = (c ∷ r.0, r.1, ap (λ x. c ∷ x) r.2, rw e (omega (arith, r.3)), rw e r.4)
longer_run test c cs false e r = ([], c ∷ cs, refl, rw e refl, refl)

pub run_of : (test : ℕ → Bool) (cs : Text) → Run test cs
run_of test [] = ([], [], refl, refl, refl)
run_of test (c ∷ cs) = longer_run test c cs (test c) refl (run_of test cs)

-- ---- strings

plain_parts : (c : ℕ) → (c == quote || c == backslash || ends_line c) ≡ false → ((c == quote) ≡ false) × ((c == backslash) ≡ false) × (ends_line c ≡ false)
plain_parts c h =
    let a = or_parts (c == quote || c == backslash) (ends_line c) h in
    let b = or_parts (c == quote) (c == backslash) a.0 in
    (b.0, b.1, a.1)

pub quote_found : {body : Text} → IsStringBody body → (before : ℕ) (v : Text) → closing_quote false before (body ++ quote ∷ v) ≡ Some (before + length body + 1)
quote_found nothing before v = ap Some (omega arith)
quote_found (plain {c} {cs} h b) before v =
    let w = plain_parts c h in
    rw (w.0, w.2, w.1) (quote_found b (before + 1) v ∙ ap Some (omega arith))
quote_found (escaped {c} {cs} h b) before v = rw h (quote_found b (before + 1 + 1) v ∙ ap Some (omega arith))

-- a string body, which lacks its backslash where one stands before it
abbrev IsBodyBehind : Bool → Text → Type 0
IsBodyBehind true body = IsStringBody (backslash ∷ body)
IsBodyBehind false body = IsStringBody body

abbrev pub Closed : Bool → ℕ → Text → ℕ → Type 0
Closed behind before cs n = (body : Text) × (rest : Text) × (cs ≡ body ++ quote ∷ rest) × (n ≡ before + length body + 1) × IsBodyBehind behind body

closed_plain : (before c n : ℕ) (cs : Text) (b : Bool) → (c == backslash) ≡ b → (c == quote) ≡ false → ends_line c ≡ false → Closed b (before + 1) cs n → Closed false before (c ∷ cs) n
closed_plain before c n cs true e q l r =
    let s : c ≡ backslash = eqb-true c backslash e in
    (c ∷ r.0, r.1, ap (λ x. c ∷ x) r.2, omega (arith, r.3), subst (λ x. IsStringBody (x ∷ r.0)) (sym s) r.4)
closed_plain before c n cs false e q l r = (c ∷ r.0, r.1, ap (λ x. c ∷ x) r.2, omega (arith, r.3), plain (rw (q, e, l) refl) r.4)

pub quote_closes : (behind : Bool) (before : ℕ) (cs : Text) (n : ℕ) → closing_quote behind before cs ≡ Some n → Closed behind before cs n
quote_closes behind before [] n h = cc
quote_closes true before (c ∷ cs) n h =
    elim (chosen (ends_line c) _ _ _ h) [
      | inl w ↦ cc
      | inr w ↦ let r = quote_closes false (before + 1) cs n w.1 in
          (c ∷ r.0, r.1, ap (λ x. c ∷ x) r.2, omega (arith, r.3), escaped w.0 r.4)
    ]
quote_closes false before (c ∷ cs) n h =
    elim (chosen (c == quote) _ _ _ h) [
      | inl w ↦ ([], cs, ap (λ x. x ∷ cs) (eqb-true c quote w.0), omega (arith, some_same _ _ w.1), nothing)
      | inr w ↦ elim (chosen (ends_line c) _ _ _ w.1) [
        | inl v ↦ cc
        | inr v ↦ closed_plain before c n cs (c == backslash) refl w.0 v.0 (quote_closes (c == backslash) (before + 1) cs n v.1)
      ]
    ]

-- ---- comments

first_behind : (body v : Text) → first (body ++ 42 ∷ v) ≡ first (body ++ 42 ∷ [])
first_behind [] v = refl
first_behind (c ∷ body) v = refl

pub comment_found : (body : Text) (before : ℕ) (v : Text) → closes_comment (body ++ 42 ∷ []) ≡ false → comment_end before (body ++ 42 ∷ 47 ∷ v) ≡ Some (before + length body + 2)
comment_found [] before v h = ap Some (omega arith)
comment_found (c ∷ body) before v h =
    let w = or_parts (c == 42 && first (body ++ 42 ∷ []) == 47) (closes_comment (body ++ 42 ∷ [])) h in
    rw (first_behind body (47 ∷ v), w.0) (comment_found body (before + 1) v w.1 ∙ ap Some (omega arith))

abbrev pub Ended : ℕ → Text → ℕ → Type 0
Ended before cs n = (body : Text) × (rest : Text) × (cs ≡ body ++ 42 ∷ 47 ∷ rest) × (n ≡ before + length body + 2) × (closes_comment (body ++ 42 ∷ []) ≡ false)

two_marks : (c : ℕ) (cs : Text) → c ≡ 42 → first cs ≡ 47 → (rest : Text) × (c ∷ cs ≡ 42 ∷ 47 ∷ rest)
two_marks c [] e f = cc
two_marks c (d ∷ ds) e f = (ds, cc)

pub comment_ends : (before : ℕ) (cs : Text) (n : ℕ) → comment_end before cs ≡ Some n → Ended before cs n
comment_ends before [] n h = cc
comment_ends before (c ∷ cs) n h =
    elim (chosen (c == 42 && first cs == 47) _ _ _ h) [
      | inl w ↦
          let t = and_parts (c == 42) (first cs == 47) w.0 in
          let m = two_marks c cs (eqb-true c 42 t.0) (eqb-true (first cs) 47 t.1) in
          ([], m.0, m.1, omega (arith, some_same _ _ w.1), refl)
      | inr w ↦
          let r = comment_ends (before + 1) cs n w.1 in
          let f : first (r.0 ++ 42 ∷ []) ≡ first cs = sym (ap first r.2 ∙ first_behind r.0 (47 ∷ r.1)) in
          (c ∷ r.0, r.1, ap (λ x. c ∷ x) r.2, omega (arith, r.3), rw (f, w.0) r.4)
    ]

-- ---- signs

pub begins_itself : (s v : Text) → begins s (s ++ v) ≡ true
begins_itself [] v = refl
begins_itself (c ∷ s) v = rw (eq-eqb c c refl) (begins_itself s v)

pub begins_front : (s text : Text) → begins s text ≡ true → (rest : Text) × (text ≡ s ++ rest)
begins_front [] text h = (text, refl)
begins_front (s ∷ ss) [] h = cc
begins_front (s ∷ ss) (c ∷ cs) h =
    let w = and_parts (c == s) (begins ss cs) h in
    let r = begins_front ss cs w.1 in
    (r.0, let e : c ≡ s = eqb-true c s w.0 in let f : cs ≡ ss ++ r.0 = r.1 in cc)

pub longest_at_least : (table : List Text) (best : ℕ) (text : Text) → best ≤ longest table best text
longest_at_least [] best text = omega arith
longest_at_least (s ∷ table) best text =
    elim (nat_lt best (length s) && begins s text) as (λ b. (nat_lt best (length s) && begins s text) ≡ b → best ≤ longest table (cond b (length s) best) text) [
      | true ↦ λ e. omega (arith, longest_at_least table (length s) text, ltb-true best (length s) (and_parts (nat_lt best (length s)) (begins s text) e).0)
      | false ↦ λ e. longest_at_least table best text
    ] refl

first_takes : (s : Text) (table : List Text) (best : ℕ) (text : Text) → begins s text ≡ true → length s ≤ longest (s ∷ table) best text
first_takes s table best text h =
    elim (nat_lt best (length s)) as (λ b. nat_lt best (length s) ≡ b → length s ≤ longest table (if b && begins s text then length s else best) text) [
      | true ↦ λ e. rw h (longest_at_least table (length s) text)
      | false ↦ λ e. let le : length s ≤ best = ltb-false best (length s) e in omega (arith, longest_at_least table best text)
    ] refl

-- no sign of the table that the text begins with is longer
pub longest_takes : (table : List Text) (s : Text) (k : ℕ) → k < length table → get_or table k s ≡ s → (best : ℕ) (text : Text) → begins s text ≡ true → length s ≤ longest table best text
longest_takes [] s k lt e best text h = absurd (omega arith)
longest_takes (t ∷ table) s zero lt e best text h = subst (λ x. length x ≤ longest (t ∷ table) best text) e (first_takes t table best text (subst (λ x. begins x text ≡ true) (sym e) h))
longest_takes (t ∷ table) s (suc k) lt e best text h = longest_takes table s k (omega arith) e (if nat_lt best (length t) && begins t text then length t else best) text h

abbrev pub LongestIs : List Text → ℕ → Text → Type 0
LongestIs table best text = (longest table best text ≡ best) ⊎ ((s : Text) × Contains table s × (begins s text ≡ true) × (longest table best text ≡ length s))

also_in : (t : Text) (table : List Text) (s : Text) → Contains table s → Contains (t ∷ table) s
also_in t table s k = (suc k.0, omega (arith, k.1), k.2)

longest_more : (t : Text) (table : List Text) (best : ℕ) (text : Text) (b : Bool) → (nat_lt best (length t) && begins t text) ≡ b → LongestIs table (if b then length t else best) text → LongestIs (t ∷ table) best text
longest_more t table best text true e r =
    let w = and_parts (nat_lt best (length t)) (begins t text) e in
    let here : Contains (t ∷ table) t = (0, omega arith, refl) in
    elim r [ inl k ↦ inr (t, here, w.1, rw e k) | inr k ↦ inr (k.0, also_in t table k.0 k.1, k.2, rw e k.3) ]
longest_more t table best text false e r =
    elim r [ inl k ↦ inl (rw e k) | inr k ↦ inr (k.0, also_in t table k.0 k.1, k.2, rw e k.3) ]

pub longest_is : (table : List Text) (best : ℕ) (text : Text) → LongestIs table best text
longest_is [] best text = inl refl
longest_is (t ∷ table) best text =
    longest_more t table best text (nat_lt best (length t) && begins t text) refl (longest_is table (if nat_lt best (length t) && begins t text then length t else best) text)
