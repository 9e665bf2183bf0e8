-- A walk that picks facts: one more step, and where it ends.
use Rattle.std.specs.Prelude.{◌≡◌, ℕ, ◌<◌, ◌≤◌, ◌+◌, Bool, true, false, List, [], ◌∷◌, ◌++◌, length, drop, filter, slice_index_or}
use Rattle.std.proofs.Common.{sym, ap, ◌∙◌}
use Rattle.std.proofs.lemmas.List.{append_assoc, append-nil, at_drop_more, at_drop_all}
use Rattle.ix_core.specs.declared.fact.Fact.{Fact}
use Rattle.ix_facts.specs.Exact.{if_so}

filter_first : (test : Fact → Bool) (fact : Fact) (rest : List Fact) (answer : Bool) → test fact ≡ answer → if_so answer (fact ∷ []) ++ filter test rest ≡ filter test (fact ∷ rest)
filter_first test fact rest true is = rw is
filter_first test fact rest false is = rw is

pub pick_next : (test : Fact → Bool) (facts : List Fact) (k : ℕ) (d : Fact) → k < length facts → (old new whole : List Fact) (answer : Bool) → answer ≡ test (slice_index_or facts k d) → new ≡ old ++ if_so answer (slice_index_or facts k d ∷ []) → old ++ filter test (drop k facts) ≡ whole → new ++ filter test (drop (k + 1) facts) ≡ whole
pick_next test facts k d within old new whole answer is n before =
    let fact = slice_index_or facts k d in
    let rest = drop (k + 1) facts in
    ap (λ l. l ++ filter test rest) n
    ∙ append_assoc old (if_so answer (fact ∷ [])) (filter test rest)
    ∙ ap (λ l. old ++ l) (filter_first test fact rest answer (sym is))
    ∙ sym (at_drop_more (λ l. old ++ filter test l) facts k d within)
    ∙ before

pub pick_ends : (test : Fact → Bool) (facts : List Fact) (k : ℕ) → length facts ≤ k → (new whole : List Fact) → new ++ filter test (drop k facts) ≡ whole → new ≡ whole
pick_ends test facts k all new whole before = sym (append-nil new) ∙ sym (at_drop_all (λ l. new ++ filter test l) facts k all) ∙ before
