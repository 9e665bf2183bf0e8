-- Reading digits from the front gives the number that they write.
use Rattle.std.proofs.Common.{◌≡◌, ℕ, ◌+◌, ◌*◌, ◌≤◌, ◌==◌, ◌&&◌, not, nat_lt, nat_le, Bool, true, false, cond, if◌then◌else◌, [], ◌∷◌, Option, Some, None, refl, sym, ap, arith}
use Rattle.std.proofs.lemmas.Bool.{and_right, leb-true, leb-false, le-leb, lt-leb}
use Rattle.std.proofs.Math.Nat.{mul-le-mul_left}
use Rattle.std.specs.List.{list_all}
use Rattle.std.specs.Char.{digit_value}
use Rattle.ix_lexer.specs.Characters.{Text, first}
use Rattle.ix_lexer.specs.Numbers.{is_digit_or_underscore, value_behind, ends_in_underscore, digits}
use Rattle.ix_lexer.specs.Scan.{digits_from}

value_grows : (base before : ℕ) (cs : Text) → 1 ≤ base → before ≤ value_behind base before cs
value_grows base before [] h = omega arith
value_grows base before (c ∷ cs) h =
    let a : before * 1 ≤ before * base = mul-le-mul_left before h in
    elim (c == 95) as (λ b. before ≤ cond b (value_behind base before cs) (value_behind base (before * base + digit_value c) cs)) [
      | true ↦ value_grows base before cs h
      | false ↦ omega (arith, value_grows base (before * base + digit_value c) cs h)
    ]

-- the number of digits behind the number `before`, where `wanted` says that none may be left out
abbrev written : ℕ → ℕ → Bool → ℕ → Text → Option ℕ
written base most wanted before cs =
    if list_all (is_digit_or_underscore base) cs && (not (ends_in_underscore wanted cs) && nat_le (value_behind base before cs) most) then Some (value_behind base before cs) else None

one_digit : (base most before c : ℕ) (cs : Text) (wanted u d f : Bool) → 1 ≤ base → (c == 95) ≡ u → nat_lt (digit_value c) base ≡ d → nat_le (before * base + digit_value c) most ≡ f
    → digits_from base most true before cs ≡ written base most true before cs
    → (before * base + digit_value c ≤ most → digits_from base most false (before * base + digit_value c) cs ≡ written base most false (before * base + digit_value c) cs)
    → digits_from base most wanted before (c ∷ cs) ≡ written base most wanted before (c ∷ cs)
one_digit base most before c cs wanted true d f p e g k same more = rw e same
one_digit base most before c cs wanted false false f p e g k same more = rw (e, g) refl
one_digit base most before c cs wanted false true true p e g k same more = rw (e, g, k) (more (leb-true _ _ k))
one_digit base most before c cs wanted false true false p e g k same more =
    let next = before * base + digit_value c in
    let big : nat_le (value_behind base next cs) most ≡ false = lt-leb _ _ (omega (arith, leb-false _ _ k, value_grows base next cs p)) in
    rw (e, g, k, big) (sym (ap (λ b. cond b (Some (value_behind base next cs)) None) (and_right (list_all (is_digit_or_underscore base) cs) _ (and_right (not (ends_in_underscore false cs)) false refl))))

digits_from_is : (base most before : ℕ) (wanted : Bool) (cs : Text) → 1 ≤ base → before ≤ most → digits_from base most wanted before cs ≡ written base most wanted before cs
digits_from_is base most before true [] p h = refl
digits_from_is base most before false [] p h = let e : nat_le before most ≡ true = le-leb before most h in rw e refl
digits_from_is base most before wanted (c ∷ cs) p h =
    one_digit base most before c cs wanted (c == 95) (nat_lt (digit_value c) base) (nat_le (before * base + digit_value c) most) p refl refl refl
    (digits_from_is base most before true cs p h) (λ le. digits_from_is base most (before * base + digit_value c) false cs p le)

pub digits_is : (base most : ℕ) (cs : Text) → 1 ≤ base → (first cs == 95) ≡ false → digits_from base most true 0 cs ≡ digits base most cs
unfolding digits
digits_is base most cs p e = rw e (digits_from_is base most 0 true cs p (omega arith))

pub no_digits : (base most : ℕ) (cs : Text) → (first cs == 95) ≡ true → None ≡ digits base most cs
unfolding digits
no_digits base most cs e = rw e refl
