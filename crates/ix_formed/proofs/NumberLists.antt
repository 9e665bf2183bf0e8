-- Lists of numbers, and the numbers of those items of a list of which something is so.
use Rattle.std.proofs.Common.{◌≡◌, ◌≤◌, ◌<◌, ℕ, zero, suc, ◌+◌, Bool, true, false, List, [], ◌∷◌, ◌++◌, length, refl, sym, ap, subst, ◌∙◌, arith}
use Rattle.std.specs.Prelude.{if◌then◌else◌, ◌==◌, ◌&&◌, not}
use Rattle.std.specs.List.{list_all}
use Rattle.std.proofs.lemmas.Bool.Decides.{nat_tests}
use Rattle.std.proofs.lemmas.List.{append-nil}
use Rattle.ix_core.specs.Tables.{is_among}
use Rattle.ix_core.specs.Formed.{numbers_from, same_numbers, are_distinct, are_same_numbers, numbers_where}
use Rattle.ix_core.proofs.Cases.{by_test}
use Rattle.ix_core.proofs.Ancestors.{first_among, rest_among}
use Rattle.ix_formed.specs.Additions.{AllOf}

-- ---- equal numbers

pub is_itself : (n : ℕ) → (n == n) ≡ true
is_itself n = grind (arith, nat_tests)

pub is_less : (n m : ℕ) → n < m → (n == m) ≡ false
is_less n m lt = grind (arith, nat_tests)

pub is_more : (n m : ℕ) → m < n → (n == m) ≡ false
is_more n m lt = grind (arith, nat_tests)

pub both_true : (a b : Bool) → a ≡ true → b ≡ true → (a && b) ≡ true
both_true a b x y = ap (λ c. c && b) x ∙ y

-- ---- numbers in order

pub from_both : (first count more : ℕ) → numbers_from first (count + more) ≡ numbers_from first count ++ numbers_from (first + count) more
from_both first zero more = let a : 0 + more ≡ more = omega arith in let b : first + 0 ≡ first = omega arith in ap (numbers_from first) a ∙ ap (λ n. numbers_from n more) (sym b)
from_both first (suc count) more =
    let a : suc count + more ≡ suc (count + more) = omega arith in
    let b : (first + 1) + count ≡ first + suc count = omega arith in
    ap (numbers_from first) a ∙ ap (λ numbers. first ∷ numbers) (from_both (first + 1) count more ∙ ap (λ n. numbers_from (first + 1) count ++ numbers_from n more) b)

pub from_length : (first count : ℕ) → length (numbers_from first count) ≡ count
from_length first zero = refl
from_length first (suc count) = let e = from_length (first + 1) count in omega (arith, e)

pub same_itself : (numbers : List ℕ) → same_numbers numbers numbers ≡ true
same_itself [] = refl
same_itself (first ∷ numbers) = both_true (first == first) (same_numbers numbers numbers) (is_itself first) (same_itself numbers)

-- each is greater than those before it
abbrev pub Ascends : ℕ → List ℕ → Type 0
Ascends low [] = Unit {0}
Ascends low (first ∷ numbers) = (low ≤ first) × Ascends (first + 1) numbers

pub from_ascends : (first count : ℕ) (more : List ℕ) → Ascends (first + count) more → Ascends first (numbers_from first count ++ more)
from_ascends first zero more up = let e : first + 0 ≡ first = omega arith in subst (λ n. Ascends n more) e up
from_ascends first (suc count) more up =
    let e : first + suc count ≡ (first + 1) + count = omega arith in
    (omega arith, from_ascends (first + 1) count more (subst (λ n. Ascends n more) e up))

pub ascends_from : (low other : ℕ) (numbers : List ℕ) → low ≤ other → Ascends other numbers → Ascends low numbers
ascends_from low other [] le up = tt
ascends_from low other (first ∷ numbers) le up = (let a = up.0 in omega (arith, a, le), up.1)

not_among : (low number : ℕ) (numbers : List ℕ) → Ascends low numbers → number < low → is_among numbers number ≡ false
not_among low number [] up lt = refl
not_among low number (first ∷ numbers) up lt =
    let more : number < first = (let a = up.0 in omega (arith, a, lt)) in
    ap (λ b. if b then true else is_among numbers number) (is_more first number more) ∙ not_among (first + 1) number numbers up.1 (omega (arith, more))

pub ascends_distinct : (low : ℕ) (numbers : List ℕ) → Ascends low numbers → are_distinct numbers ≡ true
ascends_distinct low [] up = refl
ascends_distinct low (first ∷ numbers) up =
    both_true (not (is_among numbers first)) (are_distinct numbers) (ap not (not_among (first + 1) first numbers up.1 (omega arith))) (ascends_distinct (first + 1) numbers up.1)

all_there : (numbers others : List ℕ) → ((n : ℕ) → is_among numbers n ≡ true → is_among others n ≡ true) → list_all (is_among others) numbers ≡ true
all_there [] others there = refl
all_there (first ∷ numbers) others there =
    both_true (is_among others first) (list_all (is_among others) numbers) (there first (first_among first first numbers (is_itself first)))
    (all_there numbers others (λ n e. there n (rest_among first n numbers e)))

pub ascends_same : (low : ℕ) (numbers : List ℕ) → Ascends low numbers → are_same_numbers numbers numbers ≡ true
ascends_same low numbers up =
    let all = all_there numbers numbers (λ n e. e) in
    both_true (are_distinct numbers) (list_all (is_among numbers) numbers && list_all (is_among numbers) numbers) (ascends_distinct low numbers up)
    (both_true (list_all (is_among numbers) numbers) (list_all (is_among numbers) numbers) all all)

-- ---- the numbers of items

pub where_append : {A : Type 0} (is : A → Bool) (first : ℕ) (items others : List A) → numbers_where is first (items ++ others) ≡ numbers_where is first items ++ numbers_where is (first + length items) others
where_append is first [] others = let e : first + 0 ≡ first = omega arith in ap (λ n. numbers_where is n others) (sym e)
where_append is first (item ∷ items) others =
    let e : (first + 1) + length items ≡ first + length (item ∷ items) = omega arith in
    let rest = where_append is (first + 1) items others ∙ ap (λ n. numbers_where is (first + 1) items ++ numbers_where is n others) e in
    by_test (is item)
    (λ t. ap (λ b. if b then first ∷ numbers_where is (first + 1) (items ++ others) else numbers_where is (first + 1) (items ++ others)) t ∙ ap (λ l. first ∷ l) rest
    ∙ sym (ap (λ b. (if b then first ∷ numbers_where is (first + 1) items else numbers_where is (first + 1) items) ++ numbers_where is (first + length (item ∷ items)) others) t))
    (λ f. ap (λ b. if b then first ∷ numbers_where is (first + 1) (items ++ others) else numbers_where is (first + 1) (items ++ others)) f ∙ rest
    ∙ sym (ap (λ b. (if b then first ∷ numbers_where is (first + 1) items else numbers_where is (first + 1) items) ++ numbers_where is (first + length (item ∷ items)) others) f))

where_none : {A : Type 0} (is : A → Bool) (first : ℕ) (items : List A) → AllOf (λ item. is item ≡ false) items → numbers_where is first items ≡ []
where_none is first [] all = refl
where_none is first (item ∷ items) all = ap (λ b. if b then first ∷ numbers_where is (first + 1) items else numbers_where is (first + 1) items) all.0 ∙ where_none is (first + 1) items all.1

where_all : {A : Type 0} (is : A → Bool) (first : ℕ) (items : List A) → AllOf (λ item. is item ≡ true) items → numbers_where is first items ≡ numbers_from first (length items)
where_all is first [] all = refl
where_all is first (item ∷ items) all = ap (λ b. if b then first ∷ numbers_where is (first + 1) items else numbers_where is (first + 1) items) all.0 ∙ ap (λ l. first ∷ l) (where_all is (first + 1) items all.1)

pub all_so : {A : Type 0} (P Q : A → Type 0) → ((x : A) → P x → Q x) → (xs : List A) → AllOf P xs → AllOf Q xs
all_so P Q more [] a = tt
all_so P Q more (x ∷ xs) a = (more x a.0, all_so P Q more xs a.1)

pub all_split : {A : Type 0} (P : A → Type 0) (xs ys : List A) → AllOf P (xs ++ ys) → AllOf P xs × AllOf P ys
all_split P [] ys all = (tt, all)
all_split P (x ∷ xs) ys all = let rest = all_split P xs ys all.1 in ((all.0, rest.0), rest.1)

pub all_joined : {A : Type 0} (P : A → Type 0) (xs ys : List A) → AllOf P xs → AllOf P ys → AllOf P (xs ++ ys)
all_joined P [] ys a b = b
all_joined P (x ∷ xs) ys a b = (a.0, all_joined P xs ys a.1 b)

abbrev is_of : {A : Type 0} → (A → ℕ) → ℕ → A → Bool
is_of of number item = of item == number

-- Of items that are in order of a number, those with that number stand together.
pub where_here : {A : Type 0} (of : A → ℕ) (number first : ℕ) (before own later : List A)
    → AllOf (λ item. of item < number) before → AllOf (λ item. of item ≡ number) own → AllOf (λ item. number < of item) later
    → numbers_where (λ item. of item == number) first (before ++ (own ++ later)) ≡ numbers_from (first + length before) (length own)
where_here of number first before own later less here more =
    where_append (is_of of number) first before (own ++ later)
    ∙ ap (λ l. l ++ numbers_where (is_of of number) (first + length before) (own ++ later)) (where_none (is_of of number) first before (all_so (λ item. of item < number) (λ item. is_of of number item ≡ false) (λ item lt. is_less (of item) number lt) before less))
    ∙ where_append (is_of of number) (first + length before) own later
    ∙ ap (λ l. l ++ numbers_where (is_of of number) ((first + length before) + length own) later)
    (where_all (is_of of number) (first + length before) own (all_so (λ item. of item ≡ number) (λ item. is_of of number item ≡ true) (λ item e. ap (λ n. n == number) e ∙ is_itself number) own here))
    ∙ ap (λ l. numbers_from (first + length before) (length own) ++ l)
    (where_none (is_of of number) ((first + length before) + length own) later (all_so (λ item. number < of item) (λ item. is_of of number item ≡ false) (λ item lt. is_more (of item) number lt) later more))
    ∙ append-nil (numbers_from (first + length before) (length own))
