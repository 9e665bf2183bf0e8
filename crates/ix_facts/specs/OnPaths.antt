-- Rules that read no fact but those that name a path give the same of the facts on it as of all facts.
use Rattle.std.specs.Prelude.{◌≡◌, Bool, true, false, ℤ, Option, None, List, [], ◌∷◌, ◌++◌, filter, refl}
use Rattle.std.proofs.Common.{ap, sym, ◌∙◌}
use Rattle.ix_core.specs.declared.fact.Path.{Path}
use Rattle.ix_core.specs.declared.fact.Fact.{Fact}
use Rattle.ix_facts.specs.Bounds.{is_path, best, best_of}
use Rattle.ix_facts.specs.Exact.{each}
use Rattle.ix_facts.specs.Forget.{names}

by_test : {G : Type 0} (t : Bool) → (t ≡ true → G) → (t ≡ false → G) → G
by_test true first second = first refl
by_test false first second = second refl

-- The rule gives nothing of a fact that does not name the path.
abbrev pub ReadsOnly : Path → (Fact → List Fact) → Type 0
ReadsOnly p rule = (fact : Fact) → names (is_path p) fact ≡ false → rule fact ≡ []

abbrev pub LooksOnly : Path → (Fact → Option ℤ) → Type 0
LooksOnly p by = (fact : Fact) → names (is_path p) fact ≡ false → by fact ≡ None

-- The first list has the facts of the second that name the path, in order.
abbrev pub HasNamed : Path → List Fact → List Fact → Type 0
HasNamed p part all = filter (names (is_path p)) part ≡ filter (names (is_path p)) all

each_filtered : (p : Path) (rule : Fact → List Fact) → ReadsOnly p rule → (facts : List Fact) → each rule facts ≡ each rule (filter (names (is_path p)) facts)
each_filtered p rule h [] = refl
each_filtered p rule h (fact ∷ facts) =
    by_test (names (is_path p) fact)
    (λ t. rw t (ap (λ l. rule fact ++ l) (each_filtered p rule h facts)))
    (λ t. rw t (ap (λ l. l ++ each rule facts) (h fact t) ∙ each_filtered p rule h facts))

best_filtered : (better : ℤ → ℤ → ℤ) (p : Path) (by : Fact → Option ℤ) → LooksOnly p by → (facts : List Fact) → best_of better by facts ≡ best_of better by (filter (names (is_path p)) facts)
best_filtered better p by h [] = refl
best_filtered better p by h (fact ∷ facts) =
    by_test (names (is_path p) fact)
    (λ t. rw t (ap (best better (by fact)) (best_filtered better p by h facts)))
    (λ t. rw t (ap (λ x. best better x (best_of better by facts)) (h fact t) ∙ best_filtered better p by h facts))

pub each_on : (p : Path) (rule : Fact → List Fact) (part all : List Fact) → ReadsOnly p rule → HasNamed p part all → each rule part ≡ each rule all
each_on p rule part all h n = each_filtered p rule h part ∙ (ap (each rule) n ∙ sym (each_filtered p rule h all))

pub best_on : (better : ℤ → ℤ → ℤ) (p : Path) (by : Fact → Option ℤ) (part all : List Fact) → LooksOnly p by → HasNamed p part all → best_of better by part ≡ best_of better by all
best_on better p by part all h n = best_filtered better p by h part ∙ (ap (best_of better by) n ∙ sym (best_filtered better p by h all))
