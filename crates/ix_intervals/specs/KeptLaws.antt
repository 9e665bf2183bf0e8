-- What is kept of lists joined end to end.
use Rattle.std.specs.Prelude.{◌≡◌, ℕ, ◌<◌, ◌≤◌, ◌+◌, List, [], ◌∷◌, ◌++◌, length, drop, slice_index_or, refl}
use Rattle.ix_facts.specs.Path.{Path}
use Rattle.ix_facts.specs.Exact.{each, each_path}
use Rattle.std.proofs.Math.Seq.{drop-cons}
use Rattle.std.proofs.Common.{add-one, sym, ap, ◌∙◌, w64, to_z, of_z, ℤ, FitsSigned}
use Rattle.std.proofs.lemmas.Int.{to_z-of_z}
use Rattle.std.proofs.lemmas.List.{append_assoc, append-nil, drop_all}
use Rattle.ix_facts.specs.Fact.{Fact}
use Rattle.ix_facts.specs.Closure.{kept_fact, kept}

pub kept_joined : (xs ys : List Fact) → kept (xs ++ ys) ≡ kept xs ++ kept ys
kept_joined [] ys = refl
kept_joined (x ∷ xs) ys = ap (λ l. kept_fact x ++ l) (kept_joined xs ys) ∙ sym (append_assoc (kept_fact x) (kept xs) (kept ys))

pub same_int : (x : ℤ) → FitsSigned w64 x → to_z w64 (of_z w64 x) ≡ x
same_int x h = to_z-of_z w64 x h

-- ---- one step of a loop

pub at_drop : {A : Type 0} (xs : List A) (k : ℕ) (d : A) → k < length xs → drop k xs ≡ slice_index_or xs k d ∷ drop (k + 1) xs
at_drop xs k d h = rw add-one (drop-cons xs k d h)

abbrev Joins : List Fact → List Fact → List Fact → Type 0
Joins old part new = new ≡ old ++ kept part

joined_next : (old new whole part rest all : List Fact) → new ≡ old ++ kept part → all ≡ part ++ rest → old ++ kept all ≡ whole → new ++ kept rest ≡ whole
joined_next old new whole part rest all n a w =
    ap (λ l. l ++ kept rest) n ∙ (append_assoc old (kept part) (kept rest) ∙ (ap (λ l. old ++ l) (sym (kept_joined part rest)) ∙ (ap (λ l. old ++ kept l) (sym a) ∙ w)))

pub next_fact : (rule : Fact → List Fact) (facts : List Fact) (k : ℕ) (d : Fact) → k < length facts → (old new whole : List Fact) → new ≡ old ++ kept (rule (slice_index_or facts k d)) → old ++ kept (each rule (drop k facts)) ≡ whole → new ++ kept (each rule (drop (k + 1) facts)) ≡ whole
next_fact rule facts k d h old new whole n w =
    joined_next old new whole (rule (slice_index_or facts k d)) (each rule (drop (k + 1) facts)) (each rule (drop k facts)) n (ap (each rule) (at_drop facts k d h)) w

pub next_path : (rule : Path → List Fact) (paths : List Path) (k : ℕ) (d : Path) → k < length paths → (old new whole : List Fact) → new ≡ old ++ kept (rule (slice_index_or paths k d)) → old ++ kept (each_path rule (drop k paths)) ≡ whole → new ++ kept (each_path rule (drop (k + 1) paths)) ≡ whole
next_path rule paths k d h old new whole n w =
    joined_next old new whole (rule (slice_index_or paths k d)) (each_path rule (drop (k + 1) paths)) (each_path rule (drop k paths)) n (ap (each_path rule) (at_drop paths k d h)) w

-- ---- the end of a loop

pub all_facts : (rule : Fact → List Fact) (facts : List Fact) (k : ℕ) → length facts ≤ k → (out whole : List Fact) → out ++ kept (each rule (drop k facts)) ≡ whole → out ≡ whole
all_facts rule facts k end out whole w = sym (append-nil out) ∙ (ap (λ left. out ++ kept (each rule left)) (sym (drop_all k facts end)) ∙ w)

pub all_paths : (rule : Path → List Fact) (paths : List Path) (k : ℕ) → length paths ≤ k → (out whole : List Fact) → out ++ kept (each_path rule (drop k paths)) ≡ whole → out ≡ whole
all_paths rule paths k end out whole w = sym (append-nil out) ∙ (ap (λ left. out ++ kept (each_path rule left)) (sym (drop_all k paths end)) ∙ w)

-- ---- two rules

pub joined_two : (old mid new x y : List Fact) → mid ≡ old ++ kept x → new ≡ mid ++ kept y → new ≡ old ++ kept (x ++ y)
joined_two old mid new x y m n = n ∙ (ap (λ l. l ++ kept y) m ∙ (append_assoc old (kept x) (kept y) ∙ ap (λ l. old ++ l) (sym (kept_joined x y))))
