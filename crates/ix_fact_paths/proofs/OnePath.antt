-- No path stands for every path, and none for no path.
use Rattle.std.specs.Prelude.{◌≡◌, ◌==◌, ℕ, suc, Bool, true, false}
use Rattle.std.proofs.Common.{arith, sym, ◌∙◌}
use Rattle.std.proofs.lemmas.Bool.{false≢true, eqb-true}
use Rattle.ix_core.specs.declared.fact.Path.{Path}
use Rattle.ix_core.specs.declared.fact.Path.TheVariants.{Slot, FieldOf}
use Rattle.ix_facts.specs.Forget.{of_path}
use Rattle.ix_facts.specs.PathOrder.{path_itself}

no_next : (t : ℕ) → (suc t == t) ≡ true → ⊥
no_next t h = let e = eqb-true (suc t) t h in omega (arith, e)

pub not_all : (is : Path → Bool) → ((p : Path) → is p ≡ true) → (target : Path) → ((p : Path) → is p ≡ of_path target p) → ⊥
not_all is all (Slot t) same = no_next t (sym (same (Slot (suc t))) ∙ all (Slot (suc t)))
not_all is all (FieldOf t g) same = false≢true (sym (same (Slot 0)) ∙ all (Slot 0))

pub not_none : (is : Path → Bool) → ((p : Path) → is p ≡ false) → (target : Path) → ((p : Path) → is p ≡ of_path target p) → ⊥
not_none is none (Slot t) same = false≢true (sym (none (Slot t)) ∙ (same (Slot t) ∙ path_itself (Slot t)))
not_none is none (FieldOf t g) same = false≢true (sym (none (FieldOf t g)) ∙ (same (FieldOf t g) ∙ path_itself (FieldOf t g)))
