-- Where one access of a list stands at a place and no other does.
use Rattle.std.proofs.Common.{◌≡◌, ◌≢◌, ◌≤◌, ℕ, Bool, true, false, List, [], ◌∷◌, ◌++◌, refl, sym, ap, ◌∙◌, inl, inr, arith}
use Rattle.std.specs.Prelude.{◌==◌, ◌⊎◌, filter, cond}
use Rattle.std.proofs.lemmas.Bool.{and_parts}
use Rattle.ix_text.specs.declared.span.Span.{Span}
use Rattle.ix_core.specs.Formed.{one_if}
use Rattle.ix_core.proofs.Cases.{by_test, equal}
use Rattle.ix_tree.specs.Parts.{Part, expression, statement, declaration, in_type, elsewhere, entries, Apart, All, AllApart}
use Rattle.ix_meaning.specs.Listed.{same_span}
use Rattle.ix_formed.specs.Additions.{AllOf}
use Rattle.ix_formed.proofs.NumberLists.{is_itself, both_true, all_so}
use Rattle.ix_guard_promise.specs.AllAccesses.{AnyAccess}
use Rattle.ix_guard_promise.specs.AtPlace.{HasNone}
use Rattle.ix_guard_promise.specs.SourceGuards.{IsAmong}
use Rattle.ix_guard_promise.proofs.AccessesCounted.{accesses_at, expression_at, expressions_at}

-- ---- spans

same_itself : (a : Span) → same_span a a ≡ true
same_itself a = both_true (a.from == a.from) (a.to == a.to) (is_itself a.from) (is_itself a.to)

abbrev span_of : ℕ → ℕ → Span
span_of from to = record { from = from; to = to }

same_is : (a b : Span) → same_span a b ≡ true → a ≡ b
same_is a b e =
    let parts = and_parts (a.from == b.from) (a.to == b.to) e in
    let from = equal a.from b.from parts.0 in
    let to = equal a.to b.to parts.1 in
    ap (λ n. span_of n a.to) from ∙ ap (λ n. span_of b.from n) to

counts_one : (a b : Span) → a ≡ b → one_if (same_span a b) ≡ 1
counts_one a b e = ap (λ x. one_if (same_span x b)) e ∙ ap one_if (same_itself b)

-- ---- one of a list

pub among_left : {A : Type 0} (x : A) (xs ys : List A) → IsAmong x xs → IsAmong x (xs ++ ys)
among_left x [] ys m = absurd m
among_left x (y ∷ xs) ys (inl e) = inl e
among_left x (y ∷ xs) ys (inr m) = inr (among_left x xs ys m)

pub among_right : {A : Type 0} (x : A) (xs ys : List A) → IsAmong x ys → IsAmong x (xs ++ ys)
among_right x [] ys m = m
among_right x (y ∷ xs) ys m = inr (among_right x xs ys m)

pub among_split : {A : Type 0} (x : A) (xs ys : List A) → IsAmong x (xs ++ ys) → IsAmong x xs ⊎ IsAmong x ys
among_split x [] ys m = inr m
among_split x (y ∷ xs) ys (inl e) = inl (inl e)
among_split x (y ∷ xs) ys (inr m) = one_or_other (among_split x xs ys m)
  where
    one_or_other : IsAmong x xs ⊎ IsAmong x ys → IsAmong x (y ∷ xs) ⊎ IsAmong x ys
    one_or_other (inl n) = inl (inr n)
    one_or_other (inr n) = inr n

pub all_among : {A : Type 0} {P : A → Type 0} (xs : List A) → ((x : A) → IsAmong x xs → P x) → AllOf P xs
all_among [] each = tt
all_among (x ∷ xs) each = (each x (inl refl), all_among xs (λ y m. each y (inr m)))

filtered_first : {A : Type 0} {x : A} (test : A → Bool) (y : A) (xs : List A) (b : Bool) → test y ≡ b → (IsAmong x (filter test xs) → IsAmong x xs × (test x ≡ true))
    → IsAmong x (cond b (y ∷ filter test xs) (filter test xs)) → IsAmong x (y ∷ xs) × (test x ≡ true)
filtered_first test y xs false t later m = let r = later m in (inr r.0, r.1)
filtered_first test y xs true t later (inl e) = (inl e, ap test e ∙ t)
filtered_first test y xs true t later (inr m) = let r = later m in (inr r.0, r.1)

-- one of those that pass a test
pub among_filtered : {A : Type 0} {x : A} (test : A → Bool) (xs : List A) → IsAmong x (filter test xs) → IsAmong x xs × (test x ≡ true)
among_filtered test [] m = absurd m
among_filtered test (y ∷ xs) m = filtered_first test y xs (test y) refl (λ n. among_filtered test xs n) m

-- ---- accesses at a place

pub among_counts : (place : Span) (x : AnyAccess) (xs : List AnyAccess) → x.place ≡ place → IsAmong x xs → 1 ≤ accesses_at place xs
among_counts place x [] at m = absurd m
among_counts place x (y ∷ xs) at (inl e) = let a = counts_one y.place place (ap (λ (z : AnyAccess). z.place) (sym e) ∙ at) in omega (arith, a)
among_counts place x (y ∷ xs) at (inr m) = let a = among_counts place x xs at m in omega (arith, a)

-- where none is counted, none is there
pub none_there : (place : Span) (xs : List AnyAccess) → accesses_at place xs ≡ 0 → HasNone place xs
none_there place [] none = tt
none_there place (x ∷ xs) none =
    ((λ at. let a = counts_one x.place place at in absurd (omega (arith, a, none))), none_there place xs (omega (arith, none)))

-- where no more than one is counted, each that is there is this one
pub only_it : (place : Span) (x : AnyAccess) (xs : List AnyAccess) → x.place ≡ place → IsAmong x xs → accesses_at place xs ≤ 1 → AllOf (λ y. y.place ≡ place → x ≡ y) xs
only_it place x [] at m one = tt
only_it place x (y ∷ xs) at (inl e) one =
    let a = counts_one y.place place (ap (λ (z : AnyAccess). z.place) (sym e) ∙ at) in
    ((λ there. e), all_so (λ z. z.place ≡ place → ⊥) (λ z. z.place ≡ place → x ≡ z) (λ z none there. absurd (none there)) xs (none_there place xs (omega (arith, a, one))))
only_it place x (y ∷ xs) at (inr m) one =
    let a = among_counts place x xs at m in
    ((λ there. let b = counts_one y.place place there in absurd (omega (arith, a, b, one))), only_it place x xs at m (omega (arith, one)))

-- ---- expressions at a place

-- where one stands there, no later one does
none_later : (place : Span) (part : Part) (ps : List Part) → ((other : Part) → Apart part other → expression_at place other ≡ 0) → All (Apart part) ps → expressions_at place ps ≡ 0
none_later place part [] none all = refl
none_later place part (p ∷ ps) none all = let a = none p all.0 in let b = none_later place part ps none all.1 in omega (arith, a, b)

differs : (a b place : Span) → a ≢ b → same_span a place ≡ true → one_if (same_span b place) ≡ 0
differs a b place apart e = by_test (same_span b place) (λ t. absurd (apart (same_is a place e ∙ sym (same_is b place t)))) (λ f. ap one_if f)

expression_apart : (place span : Span) → same_span span place ≡ true → (other : Part) → Apart (expression span) other → expression_at place other ≡ 0
expression_apart place span e (expression other) apart = differs span other place apart e
expression_apart place span e (statement other) apart = refl
expression_apart place span e declaration apart = refl
expression_apart place span e (in_type other) apart = refl
expression_apart place span e (elsewhere other) apart = refl
expression_apart place span e (entries n) apart = refl

-- In a tree in which names can be looked up by their places no two expressions stand at one place.
pub expressions_once : (place : Span) (ps : List Part) → AllApart ps → expressions_at place ps ≤ 1
expressions_once place [] apart = omega arith
expressions_once place (expression span ∷ ps) apart =
    by_test (same_span span place)
    (λ t. let a = none_later place (expression span) ps (expression_apart place span t) apart.0 in let b = ap one_if t in omega (arith, a, b))
    (λ f. let a = expressions_once place ps apart.1 in let b = ap one_if f in omega (arith, a, b))
expressions_once place (statement span ∷ ps) apart = let a = expressions_once place ps apart.1 in omega (arith, a)
expressions_once place (declaration ∷ ps) apart = let a = expressions_once place ps apart.1 in omega (arith, a)
expressions_once place (in_type name ∷ ps) apart = let a = expressions_once place ps apart.1 in omega (arith, a)
expressions_once place (elsewhere name ∷ ps) apart = let a = expressions_once place ps apart.1 in omega (arith, a)
expressions_once place (entries n ∷ ps) apart = let a = expressions_once place ps apart.1 in omega (arith, a)
