-- Each front of a sign is a sign, and what stands in one behind its first character is one of a few characters.
use Rattle.std.proofs.Common.{◌≡◌, ℕ, zero, suc, ◌<◌, ◌≤◌, ◌==◌, ◌&&◌, ◌||◌, not, nat_eq, nat_lt, Bool, true, false, List, [], ◌∷◌, ◌++◌, length, get_or, refl, subst, append_assoc, arith, inl, inr}
use Rattle.std.specs.List.{list_all, Contains}
use Rattle.std.specs.Cmp.Lexicographic.{pointwise, bytes_decides}
use Rattle.std.specs.Char.{is_ascii_digit, is_ascii_alphabetic}
use Rattle.std.proofs.lemmas.Bool.{and_parts, or_cases}
use Rattle.ix_lexer.specs.Characters.{Text, first, is_white_space}
use Rattle.ix_lexer.specs.Elements.{signs}

pub holds_in : (test : Text → Bool) (table : List Text) (w : Text) (k : ℕ) → k < length table → get_or table k w ≡ w → list_all test table ≡ true → test w ≡ true
holds_in test [] w k lt e h = absurd (omega arith)
holds_in test (t ∷ table) w zero lt e h = subst (λ x. test x ≡ true) e (and_parts _ _ h).0
holds_in test (t ∷ table) w (suc k) lt e h = holds_in test table w k (omega arith) e (and_parts _ _ h).1

-- ---- fronts

abbrev is_in : List Text → Text → Bool
is_in [] w = false
is_in (t ∷ table) w = pointwise nat_eq t w || is_in table w

contained : (table : List Text) (w : Text) → is_in table w ≡ true → Contains table w
contained [] w h = cc
contained (t ∷ table) w h =
    elim (or_cases (pointwise nat_eq t w) (is_in table w) h) [
      | inl e ↦ (0, omega arith, (bytes_decides t w).0 e)
      | inr e ↦ let k = contained table w e in (suc k.0, omega (arith, k.1), k.2)
    ]

-- the fronts of a text that go further than what stands before it
abbrev fronts : Text → Text → List Text
fronts before [] = []
fronts before (c ∷ cs) = (before ++ c ∷ []) ∷ fronts (before ++ c ∷ []) cs

front_holds : (test : Text → Bool) (before w : Text) (d : ℕ) (x : Text) → list_all test (fronts before (w ++ d ∷ x)) ≡ true → test (before ++ (w ++ d ∷ [])) ≡ true
front_holds test before [] d x h = (and_parts _ _ h).0
front_holds test before (c ∷ w) d x h = subst (λ t. test t ≡ true) (append_assoc before (c ∷ []) (w ++ d ∷ [])) (front_holds test (before ++ c ∷ []) w d x (and_parts _ _ h).1)

abbrev has_fronts : Text → Bool
has_fronts s = list_all (is_in signs) (fronts [] s)

all_have_fronts : list_all has_fronts signs ≡ true
unfolding signs
all_have_fronts = refl

pub sign_front : (s w : Text) (d : ℕ) (x : Text) → Contains signs s → s ≡ w ++ d ∷ x → Contains signs (w ++ d ∷ [])
sign_front s w d x k e = contained signs (w ++ d ∷ []) (front_holds (is_in signs) [] w d x (subst (λ t. has_fronts t ≡ true) e (holds_in has_fronts signs s k.0 k.1 k.2 all_have_fronts)))

-- ---- first and later characters

abbrev pub begins_word : ℕ → Bool
begins_word c = is_ascii_alphabetic c || c == 95 || c == 36

-- how a sign may begin: with a character of its own, and with `/` only alone or before `=`
abbrev begins_sign : ℕ → Bool
begins_sign c = not (begins_word c) && (not (is_ascii_digit c) && (not (is_white_space c) && not (c == 34)))

abbrev later : ℕ → Bool
later c = c == 61 || (c == 38 || (c == 124 || (c == 60 || (c == 62 || (c == 43 || c == 45)))))

abbrev pub is_sign_like : Text → Bool
is_sign_like [] = false
is_sign_like (c ∷ cs) = nat_lt c 128 && (begins_sign c && ((not (c == 47) || (length cs == 0 || first cs == 61)) && list_all later cs))

all_sign_like : list_all is_sign_like signs ≡ true
unfolding signs
all_sign_like = refl

pub sign_like : (w : Text) → Contains signs w → is_sign_like w ≡ true
sign_like w k = holds_in is_sign_like signs w k.0 k.1 k.2 all_sign_like

-- what a sign's first and later characters are
pub record SignParts (c : ℕ) (cs : Text) : Type 0 where
  pub low : nat_lt c 128 ≡ true
  pub no_word : not (begins_word c) ≡ true
  pub no_digit : not (is_ascii_digit c) ≡ true
  pub no_white : not (is_white_space c) ≡ true
  pub no_quote : not (c == 34) ≡ true
  pub slash : (not (c == 47) || (length cs == 0 || first cs == 61)) ≡ true
  pub later : list_all later cs ≡ true

pub sign_parts : (c : ℕ) (cs : Text) → Contains signs (c ∷ cs) → SignParts c cs
sign_parts c cs k =
    let a = and_parts _ _ (sign_like (c ∷ cs) k) in
    let b = and_parts _ _ a.1 in
    let d = and_parts _ _ b.0 in
    let e = and_parts _ _ d.1 in
    let f = and_parts _ _ e.1 in
    let g = and_parts _ _ b.1 in
    record { low = a.0; no_word = d.0; no_digit = e.0; no_white = f.0; no_quote = f.1; slash = g.0; later = g.1 }

pub last_holds : (test : ℕ → Bool) (cs : Text) (d : ℕ) → list_all test (cs ++ d ∷ []) ≡ true → (list_all test cs ≡ true) × (test d ≡ true)
last_holds test [] d h = (refl, (and_parts _ _ h).0)
last_holds test (c ∷ cs) d h =
    let w = and_parts (test c) (list_all test (cs ++ d ∷ [])) h in
    let r = last_holds test cs d w.1 in (rw (w.0, r.0) refl, r.1)

pub front_all : (test : ℕ → Bool) (cs : Text) (d : ℕ) (x : Text) → list_all test (cs ++ d ∷ x) ≡ true → list_all test (cs ++ d ∷ []) ≡ true
front_all test [] d x h = rw (and_parts (test d) (list_all test x) h).0 refl
front_all test (c ∷ cs) d x h = let w = and_parts (test c) (list_all test (cs ++ d ∷ x)) h in rw (w.0, front_all test cs d x w.1) refl

-- what a sign has behind its front is none of these
pub not_later : (w : Text) (d : ℕ) → 1 ≤ length w → Contains signs (w ++ d ∷ []) → later d ≡ true
not_later [] d le k = absurd (omega arith)
not_later (c ∷ cs) d le k = (last_holds later cs d (sign_parts c (cs ++ d ∷ []) k).later).1
