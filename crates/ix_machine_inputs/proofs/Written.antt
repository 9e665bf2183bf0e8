-- Words and what they write.
use Rattle.std.specs.Prelude.{◌≡◌, ℕ, suc, zero, ◌+◌, ℤ, List, [], ◌∷◌, ◌++◌, take, map, slice_get, Option, None, Some, refl}
use Rattle.std.specs.Option.{MatchOption}
use Rattle.std.specs.Borrow.{Bor}
use Rattle.std.specs.Fmt.{signed_decimal}
use Rattle.std.specs.Str.Parse.{ParsesSigned}
use Rattle.std.proofs.Common.{rules, arith, sym, ◌∙◌, ap, FitsSigned, w32, ◌≢◌, Result, Ok, Err, false, nat_eq}
use Rattle.std.proofs.lemmas.Fmt.{parse-signed_decimal}
use Rattle.std.proofs.lemmas.Int.{ints}
use Rattle.std.proofs.lemmas.Slice.Eq.{slice_eq-Decides}
use Rattle.std.proofs.lemmas.Bool.Decides.{Decides-eqb}
use Rattle.std.specs.Cmp.Lexicographic.{pointwise}
use native.Mathlib.Numerals.{unary_clauses}
use Rattle.ix_num.specs.Ints.{IsInt}
use Rattle.ix_core.specs.Safe.{AreInts}
use Rattle.ix_machine_inputs.specs.Words.{WritesInt, WriteInts, IsWithin}
use Rattle.ix_machine_inputs.proofs.OneValue.{small}

-- ---- ints

pub fits : (n : ℤ) → IsInt n → FitsSigned w32 n
fits n is = let a = is.from in let b = is.to in omega (arith, ints, a, b)

pub read_back : {E : Type 0} (n : ℤ) (word : List ℕ) (r : Result ℤ E) → IsInt n → word ≡ signed_decimal n → ParsesSigned w32 10 word r → r ≡ Ok n
read_back n word r is e p = parse-signed_decimal w32 n word r (fits n is) (small n is) e p

pub no_error : {E : Type 0} (n : ℤ) (r : Result ℤ E) (error : E) → r ≡ Err error → r ≡ Ok n → ⊥
no_error n r error e f = absurd cc

pub one_value : {E : Type 0} (n m : ℤ) (r : Result ℤ E) → r ≡ Ok m → r ≡ Ok n → m ≡ n
one_value n m r e f = cc

-- a text that differs from what n is written as is not the word of n
pub not_written : (written word : List ℕ) (n m : ℤ) → false ≡ pointwise nat_eq written word → written ≡ signed_decimal m → m ≡ n → word ≡ signed_decimal n → ⊥
not_written written word n m differs is same e = let wrong = (slice_eq-Decides Decides-eqb written word false differs).1 (is ∙ (ap signed_decimal same ∙ sym e)) in absurd cc

-- ---- brackets

tail_of : (x : ℕ) (xs ys : List ℕ) → ◌≡◌ {A = List ℕ} (x ∷ xs) (x ∷ ys) → xs ≡ ys
tail_of x xs ys e = cc

pub bracketed : (word rest : List ℕ) (r : Option (Bor (List ℕ))) → word ≡ 91 ∷ rest → MatchOption r ((front : List ℕ) → rest ≢ front ++ (93 ∷ [])) (λ x. rest ≡ x.now ++ (93 ∷ [])) → IsWithin word r
bracketed word rest None e m = λ inner f. m inner (tail_of 91 rest (inner ++ 93 ∷ []) (sym e ∙ f))
bracketed word rest (Some x) e m = rw (e, m) refl

-- ---- pieces

take_next : {A : Type 0} (xs : List A) (k : ℕ) (x : A) → slice_get xs k ≡ Some x → take (suc k) xs ≡ take k xs ++ x ∷ []
take_next [] k x e = absurd cc
take_next (y ∷ ys) zero x e = search rules
take_next (y ∷ ys) (suc k) x e = ap (λ zs. y ∷ zs) (take_next ys k x e)

pub take_one_more : {A : Type 0} (xs : List A) (k : ℕ) (x : A) → slice_get xs k ≡ Some x → take (k + 1) xs ≡ take k xs ++ x ∷ []
take_one_more xs k x e = simp unary_clauses (take_next xs k x e)

map_end : {A B : Type 0} (f : A → B) (xs : List A) (x : A) → map f (xs ++ x ∷ []) ≡ map f xs ++ f x ∷ []
map_end f [] x = refl
map_end f (y ∷ ys) x = ap (λ zs. f y ∷ zs) (map_end f ys x)

pub ints_end : (ns : List ℤ) (n : ℤ) → AreInts ns → IsInt n → AreInts (ns ++ n ∷ [])
ints_end [] n are is = (is, tt)
ints_end (m ∷ ns) n are is = (are.0, ints_end ns n are.1 is)

-- the pieces so far, and one that writes the next int
pub more_written : (pieces : List (Bor (List ℕ))) (k : ℕ) (piece : Bor (List ℕ)) (ns : List ℤ) (n : ℤ) → slice_get pieces k ≡ Some piece
    → map (λ piece. piece.now) (take k pieces) ≡ map signed_decimal ns → piece.now ≡ signed_decimal n → map (λ piece. piece.now) (take (k + 1) pieces) ≡ map signed_decimal (ns ++ n ∷ [])
more_written pieces k piece ns n at e f = rw (take_one_more pieces k piece at, map_end (λ (piece : Bor (List ℕ)). piece.now) (take k pieces) piece, map_end signed_decimal ns n, e, f) refl

head_is : (x y : List ℕ) (xs ys : List (List ℕ)) → ◌≡◌ {A = List (List ℕ)} (x ∷ xs) (y ∷ ys) → (x ≡ y) × (xs ≡ ys)
head_is x y xs ys e = (cc, cc)

same : (p piece : Bor (List ℕ)) → ◌≡◌ {A = Option (Bor (List ℕ))} (Some p) (Some piece) → piece ≡ p
same p piece e = cc

-- a piece that writes no int is no piece of ints
pub none_written : (pieces : List (Bor (List ℕ))) (k : ℕ) (piece : Bor (List ℕ)) → slice_get pieces k ≡ Some piece → WritesInt piece.now None → WriteInts (map (λ piece. piece.now) pieces) None
none_written [] k piece at none [] are e = absurd cc
none_written [] k piece at none (n ∷ ns) are e = absurd cc
none_written (p ∷ ps) k piece at none [] are e = absurd cc
none_written (p ∷ ps) zero piece at none (n ∷ ns) are e = none n are.0 (ap (λ (x : Bor (List ℕ)). x.now) (same p piece at) ∙ (head_is p.now (signed_decimal n) (map (λ piece. piece.now) ps) (map signed_decimal ns) e).0)
none_written (p ∷ ps) (suc k) piece at none (n ∷ ns) are e = none_written ps k piece at none ns are.1 (head_is p.now (signed_decimal n) (map (λ piece. piece.now) ps) (map signed_decimal ns) e).1
