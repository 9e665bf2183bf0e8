-- Going over labelled arrays is going over the arrays of a class.
use Rattle.std.specs.Prelude.{◌≡◌, ℕ, ◌<◌, ◌+◌, List, [], ◌∷◌, ◌++◌, length, drop, slice_index_or, refl}
use Rattle.std.proofs.Common.{add-one, ap, sym, ◌∙◌}
use Rattle.std.proofs.Math.Seq.{drop-cons}
use Rattle.std.proofs.lemmas.List.{append_assoc}
use Rattle.ix_core.specs.declared.fact.Path.{Path}
use Rattle.ix_core.specs.declared.fact.Fact.{Fact}
use Rattle.ix_facts.specs.Bounds.{is_path}
use Rattle.ix_facts.specs.Exact.{if_so, each, each_path}
use Rattle.ix_fact_table.specs.Classes.{Roots, root_of}
use Rattle.ix_fact_table.specs.Listed.{labels_of, said_of, over_class}
use Rattle.ix_fact_table.specs.Saturated.{of_class}

pub over_labels : (roots : Roots) (a : Path) (fact : Fact) (arrays : List Path) → over_class (root_of roots a) fact (labels_of roots arrays) ≡ of_class roots arrays (said_of fact) a
over_labels roots a fact [] = refl
over_labels roots a fact (b ∷ arrays) = ap (λ l. if_so (is_path (root_of roots b) (root_of roots a)) (said_of fact b ∷ []) ++ l) (over_labels roots a fact arrays)

-- ---- one step of a loop

pub next_fact : (rule : Fact → List Fact) (facts : List Fact) (k : ℕ) (d : Fact) → k < length facts → (old new whole : List Fact) → new ≡ old ++ rule (slice_index_or facts k d) → old ++ each rule (drop k facts) ≡ whole → new ++ each rule (drop (k + 1) facts) ≡ whole
next_fact rule facts k d h old new whole n w =
    let here : drop k facts ≡ slice_index_or facts k d ∷ drop (k + 1) facts = rw add-one (drop-cons facts k d h) in
    ap (λ l. l ++ each rule (drop (k + 1) facts)) n ∙ (append_assoc old (rule (slice_index_or facts k d)) (each rule (drop (k + 1) facts)) ∙ (ap (λ l. old ++ each rule l) (sym here) ∙ w))

pub next_path : (rule : Path → List Fact) (paths : List Path) (k : ℕ) (d : Path) → k < length paths → (old new whole : List Fact) → new ≡ old ++ rule (slice_index_or paths k d) → old ++ each_path rule (drop k paths) ≡ whole → new ++ each_path rule (drop (k + 1) paths) ≡ whole
next_path rule paths k d h old new whole n w =
    let here : drop k paths ≡ slice_index_or paths k d ∷ drop (k + 1) paths = rw add-one (drop-cons paths k d h) in
    ap (λ l. l ++ each_path rule (drop (k + 1) paths)) n ∙ (append_assoc old (rule (slice_index_or paths k d)) (each_path rule (drop (k + 1) paths)) ∙ (ap (λ l. old ++ each_path rule l) (sym here) ∙ w))

-- ---- lists, one put behind the other

pub two : (n1 n2 a b : List Fact) → n1 ≡ a → n2 ≡ n1 ++ b → n2 ≡ a ++ b
two n1 n2 a b e d = d ∙ ap (λ l. l ++ b) e

pub three : (n1 n2 n3 a b c : List Fact) → n1 ≡ a → n2 ≡ n1 ++ b → n3 ≡ n2 ++ c → n3 ≡ a ++ (b ++ c)
three n1 n2 n3 a b c e d f = f ∙ (ap (λ l. l ++ c) (two n1 n2 a b e d) ∙ append_assoc a b c)
