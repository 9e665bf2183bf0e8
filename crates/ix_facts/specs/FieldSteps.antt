-- What reads and writes of fields and calls do to the numbers of paths (JLS 15.11.1, 15.26.1, 15.12.4).
use Rattle.std.specs.Prelude.{◌≡◌, ℕ, Bool, ◌||◌}
use Rattle.ix_core.specs.declared.fact.Path.{Path}
use Rattle.ix_core.specs.declared.fact.Path.TheVariants.{Slot, FieldOf}
use Rattle.ix_core.specs.Numbers.{Numbers}
use Rattle.ix_facts.specs.Forget.{of_slot, of_field, of_call, SameBut}

-- `t = o.f`: the target has what the field had, and nothing else changes.
pub record IsRead (t o f : ℕ) (v w : Numbers) : Type 0 where
  pub others : SameBut (of_slot t) v w
  pub int : w.int (Slot t) ≡ v.int (FieldOf o f)
  pub size : w.size (Slot t) ≡ v.size (FieldOf o f)

-- `o.f = x`: the field has what the slot had, and nothing else changes but that field through slots that may hold the same object.
pub record IsWritten (o f x : ℕ) (spared : ℕ → Bool) (v w : Numbers) : Type 0 where
  pub others : SameBut (of_field f spared) v w
  pub int : w.int (FieldOf o f) ≡ v.int (Slot x)
  pub size : w.size (FieldOf o f) ≡ v.size (Slot x)

-- A call changes its target and fields that are not final, but not those of objects that are spared.
abbrev pub of_called : ℕ → (ℕ → Bool) → (ℕ → Bool) → Path → Bool
of_called t is_final spared p = of_slot t p || of_call is_final spared p

abbrev pub IsCalled : ℕ → (ℕ → Bool) → (ℕ → Bool) → Numbers → Numbers → Type 0
IsCalled t is_final spared v w = SameBut (of_called t is_final spared) v w
