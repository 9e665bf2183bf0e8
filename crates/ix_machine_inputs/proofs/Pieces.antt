-- The pieces between the commas of a list of ints.
use Rattle.std.specs.Prelude.{◌≡◌, ℕ, suc, zero, ◌<◌, ◌≤◌, ◌==◌, ◌^◌, ℤ, pos, negsuc, Bool, true, false, List, [], ◌∷◌, ◌++◌, map, length, Option, None, Some, refl}
use Rattle.std.specs.Fmt.{decimal, signed_decimal}
use Rattle.std.specs.List.{All, slice_split, join_with_byte}
use Rattle.std.specs.Str.Parse.{AllDigits}
use Rattle.std.proofs.Common.{arith, sym, ◌∙◌, ap, ◌≢◌, get_or, Result, Ok, Err, IfOk}
use Rattle.std.proofs.lemmas.Bool.Decides.{Decides-eqb}
use Rattle.std.proofs.lemmas.Fmt.{digits_decimal}
use Rattle.std.proofs.lemmas.Int.{ints}
use Rattle.std.proofs.lemmas.List.Elements.{All-from_get_or}
use Rattle.std.proofs.lemmas.List.Splits.{slice_split_none, slice_split_at, join_with_byte-slice_split}
use Rattle.std.proofs.lemmas.Str.Parse.{numerals_by_value, tells_digits, not_in_digits}
use Rattle.ix_num.specs.Ints.{IsInt}
use Rattle.ix_core.specs.Inputs.{word_of, with_commas}
use Rattle.ix_core.specs.Safe.{Ints, AreInts}
use Rattle.ix_machine_inputs.specs.Words.{WriteInts, WritesInts}

-- ---- an int has no comma

digits_free : (n : ℕ) → n < 2 ^ 64 → (i : ℕ) → i < length (decimal n) → get_or (decimal n) i 0 ≢ 44
digits_free n small = not_in_digits (numerals_by_value (AllDigits 10) tells_digits) (decimal n) 44 (digits_decimal (numerals_by_value (AllDigits 10) tells_digits) n small) (λ within. let low = within.0 in omega (arith, low))

no_sign : ◌≢◌ {A = ℕ} 45 44
no_sign = λ e. omega (arith, e)

behind_sign : (sign : ℕ) (ds : List ℕ) → sign ≢ 44 → ((i : ℕ) → i < length ds → get_or ds i 0 ≢ 44) → (i : ℕ) → i < length (sign ∷ ds) → get_or (sign ∷ ds) i 0 ≢ 44
behind_sign sign ds other free zero l = other
behind_sign sign ds other free (suc i) l = free i (omega (arith, l))

int_free : (n : ℤ) → IsInt n → (i : ℕ) → i < length (signed_decimal n) → get_or (signed_decimal n) i 0 ≢ 44
int_free (pos n) is = let high = is.to in digits_free n (omega (arith, ints, high))
int_free (negsuc n) is = let low = is.from in behind_sign 45 (decimal (suc n)) no_sign (digits_free (suc n) (omega (arith, ints, low)))

denied : (b : Bool) → (b ≡ true → ⊥) → b ≡ false
denied true never = absurd (never refl)
denied false never = refl

no_comma : (n : ℤ) → IsInt n → All (λ b. (b == 44) ≡ false) (signed_decimal n)
no_comma n is = All-from_get_or (λ b. (b == 44) ≡ false) (signed_decimal n) 0 (λ i l. denied (get_or (signed_decimal n) i 0 == 44) (λ e. int_free n is i l ((Decides-eqb (get_or (signed_decimal n) i 0) 44).0 e)))

-- ---- cut at commas, and joined

append_none : (xs : List ℕ) → xs ++ [] ≡ xs
append_none [] = refl
append_none (x ∷ xs) = ap (λ ys. x ∷ ys) (append_none xs)

pub cut : (n : ℤ) (ns : List ℤ) → AreInts (n ∷ ns) → slice_split (λ b. b == 44) (with_commas (n ∷ ns)) ≡ map signed_decimal (n ∷ ns)
cut n [] are = ap (slice_split (λ b. b == 44)) (append_none (signed_decimal n)) ∙ slice_split_none (λ b. b == 44) (signed_decimal n) (no_comma n are.0)
cut n (m ∷ ns) are = slice_split_at (λ b. b == 44) (signed_decimal n) 44 (with_commas (m ∷ ns)) (no_comma n are.0) refl ∙ ap (λ ps. signed_decimal n ∷ ps) (cut m ns are.1)

joined : (ns : List ℤ) → join_with_byte 44 (map signed_decimal ns) ≡ with_commas ns
joined [] = refl
joined (n ∷ []) = sym (append_none (signed_decimal n))
joined (n ∷ m ∷ ns) = ap (λ xs. signed_decimal n ++ 44 ∷ xs) (joined (m ∷ ns))

-- ---- between brackets

pub behind_first : (x y : ℕ) (xs ys : List ℕ) → ◌≡◌ {A = List ℕ} (x ∷ xs) (y ∷ ys) → (x ≡ y) × (xs ≡ ys)
behind_first x y xs ys e = (cc, cc)

before_last : (xs ys : List ℕ) → xs ++ 93 ∷ [] ≡ ys ++ 93 ∷ [] → xs ≡ ys
before_last [] [] e = refl
before_last [] (y ∷ []) e = let parts = behind_first 93 y [] (93 ∷ []) e in let more = parts.1 in absurd cc
before_last [] (y ∷ z ∷ ys) e = let parts = behind_first 93 y [] (z ∷ (ys ++ 93 ∷ [])) e in let more = parts.1 in absurd cc
before_last (x ∷ []) [] e = let parts = behind_first x 93 (93 ∷ []) [] e in let more = parts.1 in absurd cc
before_last (x ∷ z ∷ xs) [] e = let parts = behind_first x 93 (z ∷ (xs ++ 93 ∷ [])) [] e in let more = parts.1 in absurd cc
before_last (x ∷ xs) (y ∷ ys) e = let parts = behind_first x y (xs ++ 93 ∷ []) (ys ++ 93 ∷ []) e in let first = parts.0 in let rest = before_last xs ys parts.1 in rw (first, rest) refl

pub inside : (inner others : List ℕ) → ◌≡◌ {A = List ℕ} (91 ∷ (inner ++ 93 ∷ [])) (91 ∷ (others ++ 93 ∷ [])) → inner ≡ others
inside inner others e = before_last inner others (behind_first 91 91 (inner ++ 93 ∷ []) (others ++ 93 ∷ []) e).1

-- ---- what a word of ints writes

no_ints : (word inner : List ℕ) (pieces : List (List ℕ)) → word ≡ 91 ∷ (inner ++ 93 ∷ []) → inner ≢ [] → pieces ≡ slice_split (λ b. b == 44) inner → WriteInts pieces None → WritesInts word None
no_ints word inner pieces e some cuts none [] are f = some (inside inner [] (sym e ∙ f))
no_ints word inner pieces e some cuts none (n ∷ ns) are f =
    none (n ∷ ns) are (cuts ∙ (ap (slice_split (λ b. b == 44)) (inside inner (with_commas (n ∷ ns)) (sym e ∙ f)) ∙ cut n ns are))

ints_written : (word inner : List ℕ) (pieces : List (List ℕ)) (found : Option (List ℤ)) → word ≡ 91 ∷ (inner ++ 93 ∷ []) → inner ≢ [] → pieces ≡ slice_split (λ b. b == 44) inner → WriteInts pieces found → WritesInts word found
ints_written word inner pieces None e some cuts none = no_ints word inner pieces e some cuts none
ints_written word inner pieces (Some ns) e some cuts is =
    let whole = sym (join_with_byte-slice_split 44 inner) ∙ (ap (join_with_byte 44) (sym cuts ∙ is.0) ∙ joined ns) in (e ∙ ap (λ xs. 91 ∷ (xs ++ 93 ∷ [])) whole, is.1)

pub not_within : (word : List ℕ) → ((inner : List ℕ) → word ≡ 91 ∷ (inner ++ 93 ∷ []) → ⊥) → WritesInts word None
not_within word none ns are e = none (with_commas ns) e

pub all_written : {E : Type 0} (word inner : List ℕ) (pieces : List (List ℕ)) (r : Result (Option (List ℤ)) E) → word ≡ 91 ∷ (inner ++ 93 ∷ []) → inner ≢ [] → pieces ≡ slice_split (λ b. b == 44) inner
    → IfOk r (λ found. WriteInts pieces found) → IfOk r (λ found. WritesInts word found)
all_written word inner pieces (Ok found) e some cuts is = ints_written word inner pieces found e some cuts is
all_written word inner pieces (Err error) e some cuts is = is

pub has_some : (inner : List ℕ) → false ≡ (length inner == 0) → inner ≢ []
has_some [] e = absurd cc
has_some (x ∷ xs) e = λ f. absurd cc

-- ---- how many ints a word writes

length_written : (ns : List ℤ) → length (map signed_decimal ns) ≡ length ns
length_written [] = refl
length_written (n ∷ ns) = ap suc (length_written ns)

too_long : (ms ns : List ℤ) → AreInts ms → AreInts ns → with_commas ms ≡ with_commas ns → 2147483647 < length ns → length ms ≤ 2147483647 → ⊥
too_long ms [] ams ans e long short = omega (arith, long)
too_long [] (n ∷ ns) ams ans e long short =
    let same = ap (length {A = List ℕ}) (ap (slice_split (λ b. b == 44)) e ∙ cut n ns ans) in let count = length_written (n ∷ ns) in omega (arith, same, count, long)
too_long (m ∷ ms) (n ∷ ns) ams ans e long short =
    let same = ap (length {A = List ℕ}) (sym (cut m ms ams) ∙ (ap (slice_split (λ b. b == 44)) e ∙ cut n ns ans)) in let first = length_written (m ∷ ms) in let count = length_written (n ∷ ns) in omega (arith, same, first, count, long, short)

-- a word of more ints than an array has is the word of no shorter list
pub none_shorter : (word : List ℕ) (ns ms : List ℤ) → WritesInts word (Some ns) → 2147483647 < length ns → AreInts ms → word ≡ word_of (Ints ms) → length ms ≤ 2147483647 → ⊥
none_shorter word ns ms is long are e short = too_long ms ns are is.1 (inside (with_commas ms) (with_commas ns) (sym e ∙ is.0)) long short
