-- A word is the word of one value of its type alone, and a list of words of one list of values.
use Rattle.std.specs.Prelude.{◌≡◌, ℕ, suc, zero, ◌<◌, ◌==◌, ◌^◌, ◌+◌, ℤ, pos, negsuc, Bool, true, false, List, [], ◌∷◌, ◌++◌, map, length, take, slice_get, Some, refl}
use Rattle.std.specs.Fmt.{decimal, signed_decimal}
use Rattle.std.specs.List.{slice_split}
use Rattle.std.proofs.Common.{arith, sym, subst, ◌∙◌, ap}
use Rattle.std.proofs.lemmas.Fmt.{decimal_nonempty, signed_decimal_injective}
use Rattle.std.proofs.lemmas.Int.{ints}
use lib.Signed.{mag}
use Rattle.ix_num.specs.Ints.{IsInt}
use Rattle.ix_core.specs.declared.claim.Claim.{Claim}
use Rattle.ix_core.specs.declared.claim.Base.TheVariants as base
use Rattle.ix_core.specs.declared.claim.Type_.{Type_}
use Rattle.ix_core.specs.declared.claim.Type_.TheVariants as type
use Rattle.ix_core.specs.Inputs.{IsValueOf, word_of, with_commas}
use Rattle.ix_core.specs.Safe.{Input, Whole, Flag, Ints, AreInts, HasType}
use Rattle.ix_machine_inputs.specs.Words.{AreValues, IsFirstWrong}
use Rattle.ix_machine_inputs.proofs.Pieces.{cut, inside}

-- ---- ints

pub small : (n : ℤ) → IsInt n → mag n < 2 ^ 63
small (pos n) is = let high = is.to in omega (arith, ints, high)
small (negsuc n) is = let low = is.from in omega (arith, ints, low)

same_int : (n m : ℤ) → IsInt n → IsInt m → signed_decimal n ≡ signed_decimal m → n ≡ m
same_int n m is also e = signed_decimal_injective n m (small n is) (small m also) e

-- ---- lists of ints

same_list : (ns ms : List ℤ) → AreInts ns → AreInts ms → map signed_decimal ns ≡ map signed_decimal ms → ns ≡ ms
same_list [] [] are also e = refl
same_list [] (m ∷ ms) are also e = absurd cc
same_list (n ∷ ns) [] are also e = absurd cc
same_list (n ∷ ns) (m ∷ ms) are also e =
    let first : signed_decimal n ≡ signed_decimal m = cc in
    let rest : map signed_decimal ns ≡ map signed_decimal ms = cc in
    rw (same_int n m are.0 also.0 first, same_list ns ms are.1 also.1 rest) refl

some_bytes : (bytes rest : List ℕ) → 0 < length bytes → bytes ++ rest ≡ [] → ⊥
some_bytes [] rest some e = omega (arith, some)
some_bytes (byte ∷ bytes) rest some e = cc

int_some : (n : ℤ) (rest : List ℕ) → IsInt n → signed_decimal n ++ rest ≡ [] → ⊥
int_some (pos n) rest is e = let high = is.to in some_bytes (decimal n) rest (decimal_nonempty n (omega (arith, ints, high))) e
int_some (negsuc n) rest is e = cc

commas_some : (n : ℤ) (ns : List ℤ) → IsInt n → with_commas (n ∷ ns) ≡ [] → ⊥
commas_some n [] is e = int_some n [] is e
commas_some n (m ∷ ns) is e = int_some n (44 ∷ with_commas (m ∷ ns)) is e

same_cut : (ns ms : List ℤ) → AreInts ns → AreInts ms → with_commas ns ≡ with_commas ms → ns ≡ ms
same_cut [] [] are also e = refl
same_cut [] (m ∷ ms) are also e = absurd (commas_some m ms also.0 (sym e))
same_cut (n ∷ ns) [] are also e = absurd (commas_some n ns are.0 e)
same_cut (n ∷ ns) (m ∷ ms) are also e = same_list (n ∷ ns) (m ∷ ms) are also (sym (cut n ns are) ∙ (ap (slice_split (λ b. b == 44)) e ∙ cut m ms also))

same_ints : (ns ms : List ℤ) → AreInts ns → AreInts ms → word_of (Ints ns) ≡ word_of (Ints ms) → ns ≡ ms
same_ints ns ms are also e = same_cut ns ms are also (inside (with_commas ns) (with_commas ms) e)

-- ---- values of a type

same_flag : (one other : Bool) → word_of (Flag one) ≡ word_of (Flag other) → one ≡ other
same_flag true true e = refl
same_flag true false e = absurd cc
same_flag false true e = absurd cc
same_flag false false e = refl

one_int : (a b : Input) → HasType a (type.Plain base.Int) → HasType b (type.Plain base.Int) → word_of a ≡ word_of b → a ≡ b
one_int (Whole n) (Whole m) is also e = ap Whole (same_int n m is also e)
one_int (Whole n) (Flag answer) is also e = absurd also
one_int (Whole n) (Ints ns) is also e = absurd also
one_int (Flag answer) b is also e = absurd is
one_int (Ints ns) b is also e = absurd is

one_flag : (a b : Input) → HasType a (type.Plain base.Bool) → HasType b (type.Plain base.Bool) → word_of a ≡ word_of b → a ≡ b
one_flag (Flag one) (Flag other) is also e = ap Flag (same_flag one other e)
one_flag (Flag answer) (Whole n) is also e = absurd also
one_flag (Flag answer) (Ints ns) is also e = absurd also
one_flag (Whole n) b is also e = absurd is
one_flag (Ints ns) b is also e = absurd is

one_array : (depth : ℕ) (element : List Claim) (a b : Input) → HasType a (type.Array base.Int depth element) → HasType b (type.Array base.Int depth element) → word_of a ≡ word_of b → a ≡ b
one_array depth element (Ints ns) (Ints ms) is also e = ap Ints (same_ints ns ms is.1 also.1 e)
one_array depth element (Ints ns) (Whole n) is also e = absurd also
one_array depth element (Ints ns) (Flag answer) is also e = absurd also
one_array depth element (Whole n) b is also e = absurd is
one_array depth element (Flag answer) b is also e = absurd is

no_void : (a : Input) → HasType a type.Void → ⊥
no_void (Whole n) is = is
no_void (Flag answer) is = is
no_void (Ints ns) is = is

no_object : (class : ℕ) (a : Input) → HasType a (type.Plain (base.Class class)) → ⊥
no_object class (Whole n) is = is
no_object class (Flag answer) is = is
no_object class (Ints ns) is = is

no_flags : (depth : ℕ) (element : List Claim) (a : Input) → HasType a (type.Array base.Bool depth element) → ⊥
no_flags depth element (Whole n) is = is
no_flags depth element (Flag answer) is = is
no_flags depth element (Ints ns) is = is

no_objects : (class depth : ℕ) (element : List Claim) (a : Input) → HasType a (type.Array (base.Class class) depth element) → ⊥
no_objects class depth element (Whole n) is = is
no_objects class depth element (Flag answer) is = is
no_objects class depth element (Ints ns) is = is

one_typed : (ty : Type_) (a b : Input) → HasType a ty → HasType b ty → word_of a ≡ word_of b → a ≡ b
one_typed (type.Plain base.Int) a b is also e = one_int a b is also e
one_typed (type.Plain base.Bool) a b is also e = one_flag a b is also e
one_typed (type.Plain (base.Class class)) a b is also e = absurd (no_object class a is)
one_typed (type.Array base.Int depth element) a b is also e = one_array depth element a b is also e
one_typed (type.Array base.Bool depth element) a b is also e = absurd (no_flags depth element a is)
one_typed (type.Array (base.Class class) depth element) a b is also e = absurd (no_objects class depth element a is)
one_typed type.Void a b is also e = absurd (no_void a is)

one_value : (ty : Type_) (word : List ℕ) (a b : Input) → IsValueOf ty word a → IsValueOf ty word b → a ≡ b
one_value ty word a b is also = one_typed ty a b is.typed also.typed (sym is.written ∙ also.written)

-- ---- lists of values

pub one_list : (types : List Type_) (words : List (List ℕ)) (one other : List Input) → AreValues types words one → AreValues types words other → one ≡ other
one_list [] [] [] [] is also = refl
one_list [] [] [] (b ∷ other) is also = absurd also
one_list [] [] (a ∷ one) other is also = absurd is
one_list [] (word ∷ words) one other is also = absurd is
one_list (ty ∷ types) [] one other is also = absurd is
one_list (ty ∷ types) (word ∷ words) [] other is also = absurd is
one_list (ty ∷ types) (word ∷ words) (a ∷ one) [] is also = absurd also
one_list (ty ∷ types) (word ∷ words) (a ∷ one) (b ∷ other) is also = rw (one_value ty word a b is.0 also.0, one_list types words one other is.1 also.1) refl

-- there are as many words as types
pub as_many_words : (types : List Type_) (words : List (List ℕ)) (inputs : List Input) → AreValues types words inputs → length words ≡ length types
as_many_words [] [] [] are = refl
as_many_words [] [] (input ∷ inputs) are = absurd are
as_many_words [] (word ∷ words) inputs are = absurd are
as_many_words (ty ∷ types) [] inputs are = absurd are
as_many_words (ty ∷ types) (word ∷ words) [] are = absurd are
as_many_words (ty ∷ types) (word ∷ words) (input ∷ inputs) are = ap suc (as_many_words types words inputs are.1)

-- ---- the first wrong word

-- Of values as many as k, and a word at that place that is none: whatever other values there are, they are no more.
value_at : (types : List Type_) (words : List (List ℕ)) (inputs : List Input) (k : ℕ) (ty : Type_) (word : List ℕ) → AreValues types words inputs → slice_get types k ≡ Some ty → slice_get words k ≡ Some word
    → (input : Input) × IsValueOf ty word input
value_at [] words inputs k ty word are at there = absurd cc
value_at (t ∷ types) [] inputs k ty word are at there = absurd cc
value_at (t ∷ types) (w ∷ words) [] k ty word are at there = absurd are
value_at (t ∷ types) (w ∷ words) (i ∷ inputs) zero ty word are at there =
    let same : t ≡ ty = cc in
    let also : w ≡ word = cc in
    (i, subst (λ (x : Type_). IsValueOf x word i) same (subst (λ (x : List ℕ). IsValueOf t x i) also are.0))
value_at (t ∷ types) (w ∷ words) (i ∷ inputs) (suc k) ty word are at there = value_at types words inputs k ty word are.1 at there

-- where all words are values, none is wrong
pub none_wrong : (types : List Type_) (words : List (List ℕ)) (inputs : List Input) (number : ℕ) → AreValues types words inputs → IsFirstWrong types words number → ⊥
none_wrong types words inputs number are wrong = let value = value_at types words inputs (length wrong.before) wrong.ty wrong.word are wrong.ty_at wrong.word_at in wrong.none value.0 value.1

get_in_front : {A : Type 0} (items : List A) (n k : ℕ) (item : A) → k < n → slice_get items k ≡ Some item → slice_get (take n items) k ≡ Some item
get_in_front [] n k item low at = absurd cc
get_in_front (x ∷ items) zero k item low at = absurd (omega (arith, low))
get_in_front (x ∷ items) (suc n) zero item low at = at
get_in_front (x ∷ items) (suc n) (suc k) item low at = get_in_front items n k item (omega (arith, low)) at

earlier : (types : List Type_) (words : List (List ℕ)) (one other : ℕ) (a : IsFirstWrong types words one) (b : IsFirstWrong types words other) → length a.before < length b.before → ⊥
earlier types words one other a b low =
    let value = value_at (take (length b.before) types) (take (length b.before) words) b.before (length a.before) a.ty a.word b.values
    (get_in_front types (length b.before) (length a.before) a.ty low a.ty_at) (get_in_front words (length b.before) (length a.before) a.word low a.word_at) in
    a.none value.0 value.1

same_number : (n m : ℕ) → (n < m → ⊥) → (m < n → ⊥) → n ≡ m
same_number zero zero below above = refl
same_number zero (suc m) below above = absurd (below (omega arith))
same_number (suc n) zero below above = absurd (above (omega arith))
same_number (suc n) (suc m) below above = ap suc (same_number n m (λ low. below (omega (arith, low))) (λ low. above (omega (arith, low))))

-- one word is the first that is wrong
pub one_wrong : (types : List Type_) (words : List (List ℕ)) (one other : ℕ) → IsFirstWrong types words one → IsFirstWrong types words other → one ≡ other
one_wrong types words one other a b =
    let below : length a.before < length b.before → ⊥ = earlier types words one other a b in
    let above : length b.before < length a.before → ⊥ = earlier types words other one b a in
    let counted = a.counted in
    let also = b.counted in
    let same = same_number (length a.before) (length b.before) below above in
    counted ∙ ap (λ (n : ℕ). n + 1) same ∙ sym also
