-- A table has no key for a rule exactly where none of its rows has the rule's number.
use Rattle.std.proofs.Common.{◌≡◌, ◌≢◌, ◌↔◌, ◌==◌, ℕ, true, refl, sym, ◌∙◌, inl, inr, List, [], ◌∷◌, All, Option, Some, None}
use Rattle.std.specs.Prelude.{IsNone}
use Rattle.std.specs.Option.{option_map}
use Rattle.std.proofs.lemmas.Bool.{cases_Bool, eqb-true, eqb-false, both_ways}
use Rattle.std.proofs.lemmas.List.Elements.{All-nil, All-cons, All-head, All-tail}
use Rattle.ix_tables.specs.Keys.{key_in}

abbrev pub IsAbsent : ℕ → List (ℕ × List ℕ) → Type 0
IsAbsent rule rows = All (λ (r : ℕ × List ℕ). r.0 ≢ rule) rows

absent_from_none : (rows : List (ℕ × List ℕ)) (rule : ℕ) → key_in rows rule ≡ None → IsAbsent rule rows
absent_from_none [] rule h = All-nil (λ (r : ℕ × List ℕ). r.0 ≢ rule)
absent_from_none (r ∷ rs) rule h =
    elim (cases_Bool (r.0 == rule)) [
      | inl e ↦ let found : Some r.1 ≡ None = rw e at h in absurd cc
      | inr e ↦
          let rest : key_in rs rule ≡ None = rw e at h in
          All-cons (λ (s : ℕ × List ℕ). s.0 ≢ rule) r rs (eqb-false r.0 rule e) (absent_from_none rs rule rest)
    ]

none_from_absent : (rows : List (ℕ × List ℕ)) (rule : ℕ) → IsAbsent rule rows → key_in rows rule ≡ None
none_from_absent [] rule h = refl
none_from_absent (r ∷ rs) rule h =
    elim (cases_Bool (r.0 == rule)) [
      | inl e ↦ absurd (All-head (λ (s : ℕ × List ℕ). s.0 ≢ rule) r rs h (eqb-true r.0 rule e))
      | inr e ↦ rw e (none_from_absent rs rule (All-tail (λ (s : ℕ × List ℕ). s.0 ≢ rule) r rs h))
    ]

-- the same of a key that was looked up
pub missing_key : {S : Type 0} (text : S → List ℕ) (o : Option S) (rows : List (ℕ × List ℕ)) (rule : ℕ) → option_map text o ≡ key_in rows rule → IsNone o ↔ IsAbsent rule rows
missing_key text None rows rule h = (λ none. absent_from_none rows rule (sym h), λ absent. refl)
missing_key text (Some s) rows rule h = (
  λ none. absurd (both_ways true none refl),
  λ absent. let found : Some (text s) ≡ None = h ∙ none_from_absent rows rule absent in absurd cc,
)
