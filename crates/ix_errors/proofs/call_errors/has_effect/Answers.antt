use Rattle.std.proofs.Common.{Bool, true, false, not, ◌≡◌, ◌∙◌, sym, subst, refl}
use Rattle.std.specs.Prelude.{IsTrue, ◌↔◌}
use Rattle.std.proofs.lemmas.Bool.{false≢true}
use Rattle.ix_core.specs.declared.op.OpKind.{OpKind}
use Rattle.ix_core.specs.declared.program.Method.{Method}
use Rattle.ix_core.specs.declared.program.Program.{Program}
use Rattle.ix_signatures.specs.SignErrors.{HasEffect}
use Rattle.ix_errors.proofs.call_errors.has_effect.Goals as goal

-- a call has an effect where its method isn't free of them
of_call : (program : Program) (within : Method) (kind call : OpKind) (told free : Bool) → kind ≡ call → ((free ≡ false) ≡ HasEffect program within call) → told ≡ free → IsTrue (not told) ↔ HasEffect program within kind
of_call program within kind call told free is means e =
    subst (λ k. IsTrue (not told) ↔ HasEffect program within k) (sym is) (subst (λ P. IsTrue (not told) ↔ P) means (not_free told e))
  where
    not_free : (told : Bool) → told ≡ free → IsTrue (not told) ↔ (free ≡ false)
    not_free true e = (λ t. absurd (false≢true t), λ f. absurd (false≢true (sym f ∙ sym e)))
    not_free false e = (λ _. sym e, λ _. refl)

pub returns-in-NewObject : goal.returns-in-NewObject
returns-in-NewObject c = of_call c.args.program.now c.args.within.now _ _ _ _ c.in-NewObject.is refl c.is_effect_free.ensures

pub returns-in-StaticCall : goal.returns-in-StaticCall
returns-in-StaticCall c = of_call c.args.program.now c.args.within.now _ _ _ _ c.in-StaticCall.is refl c.is_effect_free-in-StaticCall.ensures

pub returns-in-InstanceCall : goal.returns-in-InstanceCall
returns-in-InstanceCall c = of_call c.args.program.now c.args.within.now _ _ _ _ c.in-InstanceCall.is refl c.is_effect_free-in-InstanceCall.ensures

pub returns-in-SuperCall : goal.returns-in-SuperCall
returns-in-SuperCall c = of_call c.args.program.now c.args.within.now _ _ _ _ c.in-SuperCall.is refl c.is_effect_free-in-SuperCall.ensures
