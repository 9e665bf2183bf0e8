-- Errors that are added to a list.
use Rattle.std.proofs.Common.{◌⊎◌, inl, inr, ⊎_elim, ◌↔◌, ℕ, List, ◌++◌, sym, subst}
use Rattle.ix_core.specs.declared.error.Error.{Error}
use Rattle.ix_errors.specs.declared.ranked.Ranked.{Ranked}
use Rattle.ix_errors.specs.Exactly.{IsListed, AddsExactly}
use Rattle.ix_errors.proofs.Refused.{listed_left, listed_right, listed_either}
use Rattle.ix_verify.specs.Walking.{AddsTo}

pub listed_behind : (old more : List Ranked) (found : Ranked) → IsListed found (old ++ more) ↔ (IsListed found old ⊎ IsListed found more)
listed_behind old more found = (λ has. listed_either found old more has, λ either. ⊎_elim (λ a. listed_left found old more a) (λ b. listed_right found old more b) either)

pub exactly_to : (Derived : Error → ℕ → Type 0) (old new : List Ranked) → AddsExactly Derived old new → AddsTo Derived old new
exactly_to Derived old new (more, is, exact) found = (
  λ has. ⊎_elim (λ a. inl a) (λ b. inr (exact.only found b)) (listed_either found old more (subst (IsListed found) is has)),
  λ either. subst (IsListed found) (sym is) (⊎_elim (λ a. listed_left found old more a) (λ d. listed_right found old more (exact.all found.error found.rank d)) either),
)

pub to_both : (First Second : Error → ℕ → Type 0) (old middle new : List Ranked) → AddsTo First old middle → AddsTo Second middle new → AddsTo (λ error rank. First error rank ⊎ Second error rank) old new
to_both First Second old middle new one two found = (
  λ has. ⊎_elim (λ before. ⊎_elim (λ a. inl a) (λ f. inr (inl f)) ((one found).0 before)) (λ s. inr (inr s)) ((two found).0 has),
  λ either. (two found).1 (⊎_elim (λ a. inl ((one found).1 (inl a))) (λ derived. ⊎_elim (λ f. inl ((one found).1 (inr f))) (λ s. inr s) derived) either),
)

pub to_same : (First Second : Error → ℕ → Type 0) (old new : List Ranked) → ((error : Error) (rank : ℕ) → First error rank ↔ Second error rank) → AddsTo First old new → AddsTo Second old new
to_same First Second old new same one found = (
  λ has. ⊎_elim (λ a. inl a) (λ f. inr ((same found.error found.rank).0 f)) ((one found).0 has),
  λ either. (one found).1 (⊎_elim (λ a. inl a) (λ s. inr ((same found.error found.rank).1 s)) either),
)

pub to_none : (Derived : Error → ℕ → Type 0) (old : List Ranked) → ((error : Error) (rank : ℕ) → Derived error rank → ⊥) → AddsTo Derived old old
to_none Derived old none found = (λ has. inl has, λ either. ⊎_elim (λ a. a) (λ d. absurd (none found.error found.rank d)) either)
