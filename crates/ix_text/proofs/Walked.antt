-- A list is made element by element of another: what each element gives stands behind what those before it give. Loops that add to a list cite these, in crates above.
use Rattle.std.proofs.Common.{◌≡◌, ℕ, suc, ◌+◌, ◌<◌, ◌≤◌, List, [], ◌∷◌, ◌++◌, drop, get_or, length, append_assoc, arith, sym, ap, subst, ◌∙◌}
use Rattle.std.proofs.Math.Seq.{drop-cons}
use Rattle.std.proofs.lemmas.List.{append-nil, drop_all}

-- `gives k elements`: what the elements give, the first of which has the number k
module _ {A B : Type 0} (gives : ℕ → List A → List B) (elements : List A) (place : ℕ) where
  behind : (element : A) (one out new whole : List B) → drop place elements ≡ element ∷ drop (suc place) elements
      → ((rest : List A) → gives place (element ∷ rest) ≡ one ++ gives (suc place) rest) → new ≡ out ++ one
      → out ++ gives place (drop place elements) ≡ whole → new ++ gives (place + 1) (drop (place + 1) elements) ≡ whole
  behind element one out new whole cut unrolled added all =
      let rest = gives (suc place) (drop (suc place) elements) in
      let one_on : suc place ≡ place + 1 = omega arith in
      subst (λ n. new ++ gives n (drop n elements) ≡ whole) one_on
      (ap (λ l. l ++ rest) added ∙ (append_assoc out one rest ∙ (ap (λ l. out ++ l) (sym (ap (gives place) cut ∙ unrolled (drop (suc place) elements))) ∙ all)))

  -- one more element, which gives `one`
  pub next : (element : A) (one out new whole : List B) → place < length elements → element ≡ get_or elements place element
      → ((rest : List A) → gives place (element ∷ rest) ≡ one ++ gives (suc place) rest) → new ≡ out ++ one
      → out ++ gives place (drop place elements) ≡ whole → new ++ gives (place + 1) (drop (place + 1) elements) ≡ whole
  next element one out new whole within is = behind element one out new whole (drop-cons elements place element within ∙ ap (λ first. first ∷ drop (suc place) elements) (sym is))

  -- the same, of an element that is read with a default
  pub next_or : (default : A) (one out new whole : List B) → place < length elements
      → ((rest : List A) → gives place (get_or elements place default ∷ rest) ≡ one ++ gives (suc place) rest) → new ≡ out ++ one
      → out ++ gives place (drop place elements) ≡ whole → new ++ gives (place + 1) (drop (place + 1) elements) ≡ whole
  next_or default one out new whole within = behind (get_or elements place default) one out new whole (drop-cons elements place default within)

  -- no element is left
  pub none_left : (out whole : List B) → length elements ≤ place → gives place [] ≡ [] → out ++ gives place (drop place elements) ≡ whole → out ≡ whole
  none_left out whole past none all = sym (append-nil out) ∙ (ap (λ l. out ++ l) (sym (ap (gives place) (drop_all place elements past) ∙ none)) ∙ all)
