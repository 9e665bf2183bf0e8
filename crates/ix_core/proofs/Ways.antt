-- Steps on the way up from a class or a method.
use Rattle.std.proofs.Common.{◌≡◌, ◌≢◌, ℕ, zero, suc, ◌-◌, ◌<◌, ◌≤◌, Bool, true, false, List, [], ◌∷◌, ◌++◌, Option, Some, None, refl, ap, sym, ◌∙◌, arith, append_assoc}
use Rattle.std.specs.Prelude.{◌==◌, unwrap_or, flat_map}
use Rattle.std.proofs.lemmas.Bool.Decides.{nat_tests}
use Rattle.ix_core.specs.Tables.{way_up, is_among, first_where}

pub way_some : (next : ℕ → Option ℕ) (left : ℕ) (number : ℕ) → 0 < left → way_up next left (Some number) ≡ number ∷ way_up next (left - 1) (next number)
way_some next zero number h = absurd (omega (arith, h))
way_some next (suc left) number h = let e : suc left - 1 ≡ left = omega arith in rw e refl

pub way_none : (next : ℕ → Option ℕ) (left : ℕ) → way_up next left None ≡ []
way_none next zero = refl
way_none next (suc left) = refl

-- ---- is the named method among them

pub over_none : (next : ℕ → Option ℕ) (left : ℕ) (at : Option ℕ) (named : ℕ) (answer : Bool) → at ≡ None → is_among (way_up next left at) named ≡ answer → false ≡ answer
over_none next left at named answer is inv = sym (ap (λ a. is_among (way_up next left a) named) is ∙ ap (λ xs. is_among xs named) (way_none next left)) ∙ inv

pub over_done : (next : ℕ → Option ℕ) (left : ℕ) (at : Option ℕ) (named : ℕ) (answer : Bool) → left ≤ 0 → is_among (way_up next left at) named ≡ answer → false ≡ answer
over_done next left at named answer h inv = let e : left ≡ 0 = omega (arith, h) in sym (ap (λ n. is_among (way_up next n at) named) e) ∙ inv

among_same : (number named : ℕ) (rest : List ℕ) → number ≡ named → is_among (number ∷ rest) named ≡ true
among_same number named rest same = let e : (number == named) ≡ true = grind (arith, nat_tests) in rw e refl

among_other : (number named : ℕ) (rest : List ℕ) → number ≢ named → is_among (number ∷ rest) named ≡ is_among rest named
among_other number named rest differ = let e : (number == named) ≡ false = grind (arith, nat_tests) in rw e refl

pub over_same : (next : ℕ → Option ℕ) (left : ℕ) (at : Option ℕ) (number named : ℕ) (answer : Bool) → at ≡ Some number → 0 < left → number ≡ named → is_among (way_up next left at) named ≡ answer → true ≡ answer
over_same next left at number named answer is h same inv =
    sym (ap (λ a. is_among (way_up next left a) named) is ∙ (ap (λ xs. is_among xs named) (way_some next left number h) ∙ among_same number named (way_up next (left - 1) (next number)) same)) ∙ inv

pub over_next : (next : ℕ → Option ℕ) (left : ℕ) (at : Option ℕ) (number named : ℕ) (answer : Bool) → at ≡ Some number → 0 < left → number ≢ named → is_among (way_up next left at) named ≡ answer
    → is_among (way_up next (left - 1) (next number)) named ≡ answer
over_next next left at number named answer is h differ inv =
    sym (ap (λ a. is_among (way_up next left a) named) is ∙ (ap (λ xs. is_among xs named) (way_some next left number h) ∙ among_other number named (way_up next (left - 1) (next number)) differ)) ∙ inv

-- ---- the first method of which something is so

here_by : (is : ℕ → Bool) (first number : ℕ) (numbers rest : List ℕ) (answer : Bool) → is first ≡ answer → (first_where is numbers ≡ Some number → first_where is (numbers ++ rest) ≡ Some number)
    → first_where is (first ∷ numbers) ≡ Some number → first_where is (first ∷ (numbers ++ rest)) ≡ Some number
here_by is first number numbers rest true so more e = rw so (rw so at e)
here_by is first number numbers rest false so more e = rw so (more (rw so at e))

first_here : (is : ℕ → Bool) (numbers rest : List ℕ) (number : ℕ) → first_where is numbers ≡ Some number → first_where is (numbers ++ rest) ≡ Some number
first_here is [] rest number e = cc
first_here is (first ∷ numbers) rest number e = here_by is first number numbers rest (is first) refl (first_here is numbers rest number) e

later_by : (is : ℕ → Bool) (first : ℕ) (numbers rest : List ℕ) (answer : Bool) → is first ≡ answer → (first_where is numbers ≡ None → first_where is (numbers ++ rest) ≡ first_where is rest)
    → first_where is (first ∷ numbers) ≡ None → first_where is (first ∷ (numbers ++ rest)) ≡ first_where is rest
later_by is first numbers rest true so more e = let h : Some first ≡ None = rw so at e in cc
later_by is first numbers rest false so more e = rw so (more (rw so at e))

first_later : (is : ℕ → Bool) (numbers rest : List ℕ) → first_where is numbers ≡ None → first_where is (numbers ++ rest) ≡ first_where is rest
first_later is [] rest e = refl
first_later is (first ∷ numbers) rest e = later_by is first numbers rest (is first) refl (first_later is numbers rest) e

pub find_some : (is : ℕ → Bool) (methods : ℕ → List ℕ) (next : ℕ → Option ℕ) (left : ℕ) (above : Option ℕ) (number named answer method : ℕ) → above ≡ Some number → 0 < left → first_where is (methods number) ≡ Some method
    → unwrap_or (first_where is (flat_map methods (way_up next left above))) named ≡ answer → method ≡ answer
find_some is methods next left above number named answer method up h here inv =
    sym (ap (λ a. unwrap_or (first_where is (flat_map methods (way_up next left a))) named) up
    ∙ (ap (λ xs. unwrap_or (first_where is (flat_map methods xs)) named) (way_some next left number h)
    ∙ ap (λ o. unwrap_or o named) (first_here is (methods number) (flat_map methods (way_up next (left - 1) (next number))) method here))) ∙ inv

pub find_next : (is : ℕ → Bool) (methods : ℕ → List ℕ) (next : ℕ → Option ℕ) (left : ℕ) (above : Option ℕ) (number named answer : ℕ) → above ≡ Some number → 0 < left → first_where is (methods number) ≡ None
    → unwrap_or (first_where is (flat_map methods (way_up next left above))) named ≡ answer → unwrap_or (first_where is (flat_map methods (way_up next (left - 1) (next number)))) named ≡ answer
find_next is methods next left above number named answer up h none inv =
    sym (ap (λ a. unwrap_or (first_where is (flat_map methods (way_up next left a))) named) up
    ∙ (ap (λ xs. unwrap_or (first_where is (flat_map methods xs)) named) (way_some next left number h)
    ∙ ap (λ o. unwrap_or o named) (first_later is (methods number) (flat_map methods (way_up next (left - 1) (next number))) none))) ∙ inv

-- ---- the way as a list

pub up_next : (next : ℕ → Option ℕ) (left : ℕ) (above : Option ℕ) (number : ℕ) (classes more all : List ℕ) → above ≡ Some number → 0 < left → more ≡ classes ++ number ∷ [] → classes ++ way_up next left above ≡ all
    → more ++ way_up next (left - 1) (next number) ≡ all
up_next next left above number classes more all up h added inv =
    rw (added, append_assoc classes (number ∷ []) (way_up next (left - 1) (next number)))
    (sym (ap (λ a. classes ++ way_up next left a) up ∙ ap (λ xs. classes ++ xs) (way_some next left number h)) ∙ inv)
