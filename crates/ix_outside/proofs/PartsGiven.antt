-- What was handed out, part by part and file by file.
use Rattle.std.proofs.Common.{◌≡◌, ◌∙◌, ℕ, List, [], ◌∷◌, ◌++◌, refl, ap, sym, append-nil, append_assoc, Some, None, Result, Ok, Err, IfOk}
use Rattle.ix_outside.specs.Outside.{add_last, first_given, second_given}

-- nothing more
pub add_none : (parts : List (List ℕ)) → parts ≡ add_last [] parts
add_none [] = refl
add_none (part ∷ []) = ap (λ p. p ∷ []) (sym (append-nil part))
add_none (part ∷ next ∷ parts) = ap (λ p. part ∷ p) (add_none (next ∷ parts))

-- one part and then another
pub add_more : (one other : List ℕ) (parts : List (List ℕ)) → add_last other (add_last one parts) ≡ add_last (one ++ other) parts
add_more one other [] = refl
add_more one other (part ∷ []) = ap (λ p. p ∷ []) (append_assoc part one other)
add_more one other (part ∷ next ∷ []) = ap (λ p. part ∷ p) (add_more one other (next ∷ []))
add_more one other (part ∷ next ∷ third ∷ parts) = ap (λ p. part ∷ p) (add_more one other (next ∷ third ∷ parts))

-- of a file that was opened last
pub add_opened : (bytes : List ℕ) (parts : List (List ℕ)) → add_last bytes (parts ++ [] ∷ []) ≡ parts ++ bytes ∷ []
add_opened bytes [] = refl
add_opened bytes (part ∷ []) = refl
add_opened bytes (part ∷ next ∷ parts) = ap (λ p. part ∷ p) (add_opened bytes (next ∷ parts))

-- ---- of the files opened since

pub given_none : (before after : List (List ℕ)) → after ≡ before → (first_given before after ≡ []) × (second_given before after ≡ None)
given_none [] after is = (ap (first_given []) is, ap (second_given []) is)
given_none (part ∷ before) [] is = absurd (cc)
given_none (part ∷ before) (other ∷ after) is = given_none before after (let same : other ∷ after ≡ part ∷ before = is in cc)

pub given_one : (before after : List (List ℕ)) (first : List ℕ) → after ≡ before ++ first ∷ [] → (first_given before after ≡ first) × (second_given before after ≡ None)
given_one [] after first is = (ap (first_given []) is, ap (second_given []) is)
given_one (part ∷ before) [] first is = absurd (cc)
given_one (part ∷ before) (other ∷ after) first is = given_one before after first (let same : other ∷ after ≡ part ∷ (before ++ first ∷ []) = is in cc)

pub given_two : (before after : List (List ℕ)) (first second : List ℕ) → after ≡ before ++ first ∷ second ∷ [] → (first_given before after ≡ first) × (second_given before after ≡ Some second)
given_two [] after first second is = (ap (first_given []) is, ap (second_given []) is)
given_two (part ∷ before) [] first second is = absurd (cc)
given_two (part ∷ before) (other ∷ after) first second is = given_two before after first second (let same : other ∷ after ≡ part ∷ (before ++ first ∷ second ∷ []) = is in cc)

-- the first file that was opened since is the only one, and these bytes were handed out of it
pub only_given : (before after : List (List ℕ)) (first : List ℕ) → after ≡ before ++ first ∷ [] → after ≡ before ++ first_given before after ∷ []
only_given before after first is = is ∙ ap (λ b. before ++ b ∷ []) (sym (given_one before after first is).0)

-- two things of one value
pub both_ok : {T E : Type 0} (r : Result T E) (P Q : T → Type 0) → IfOk r P → IfOk r Q → IfOk r (λ t. P t × Q t)
both_ok (Ok t) P Q p q = (p, q)
both_ok (Err e) P Q p q = p
