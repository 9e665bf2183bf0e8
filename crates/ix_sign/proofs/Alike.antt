-- Two tests of paths that answer alike drop the same facts; and the spared slot as code tells it.
use Rattle.std.specs.Prelude.{◌≡◌, ℕ, Bool, true, false, not, ◌&&◌, ◌==◌, refl}
use Rattle.std.proofs.Common.{ap, ◌∙◌}
use Rattle.ix_core.specs.declared.fact.Path.{Path}
use Rattle.ix_core.specs.declared.fact.Path.TheVariants.{Slot, FieldOf}
use Rattle.ix_core.specs.declared.program.Method.{Method}
use Rattle.ix_facts.specs.Forget.{of_field, of_call}
use Rattle.ix_rules_hold.specs.MachineSteps.{own_slot}
use Rattle.ix_rules_hold.specs.FieldAccess.{spared_by}
use Rattle.ix_store.specs.ChangedPaths.{is_spared}
use Rattle.ix_signatures.specs.Spared.{this_if}

pub spared_if : (test : Bool) (slot : ℕ) → is_spared (this_if test) slot ≡ (test && (slot == 0))
spared_if true slot = refl
spared_if false slot = refl

turned : (a b c : Bool) → ((a && c) && b) ≡ ((a && b) && c)
turned true true true = refl
turned true true false = refl
turned true false true = refl
turned true false false = refl
turned false b c = refl

pub field_alike : (method : Method) (object field : ℕ) (p : Path) → of_field field (is_spared (this_if (method.constructor && not (object == 0)))) p ≡ of_field field (spared_by method object) p
field_alike method object field (Slot s) = refl
field_alike method object field (FieldOf s f) =
    ap (λ b. not b && (f == field)) (spared_if (method.constructor && not (object == 0)) s ∙ turned method.constructor (s == 0) (not (object == 0)))

pub call_alike : (method : Method) (is_final : ℕ → Bool) (p : Path) → of_call is_final (is_spared (this_if method.constructor)) p ≡ of_call is_final (own_slot method) p
call_alike method is_final (Slot s) = refl
call_alike method is_final (FieldOf s f) = ap (λ b. not b && not (is_final f)) (spared_if method.constructor s)
