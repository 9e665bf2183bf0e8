-- Stronger stores give stronger ones by the rules of a method.
use Rattle.std.specs.Prelude.{ℕ}
use Rattle.ix_core.specs.declared.fact.Profile.{Profile}
use Rattle.ix_core.specs.declared.op.OpKind.{OpKind}
use Rattle.ix_core.specs.declared.op.OpKind.TheVariants as op
use Rattle.ix_core.specs.declared.program.Method.{Method}
use Rattle.ix_core.specs.declared.program.Program.{Program}
use Rattle.ix_facts.specs.Round.{rounded}
use Rattle.ix_facts.specs.Stores.{IsStep, Gives, operated, outcomes_of}
use Rattle.ix_facts.proofs.SaidRules.{operated_mono, rounded_mono}
use Rattle.ix_facts.proofs.StepLaws.{gives_step, then_step, outcomes_step}
use Rattle.ix_facts.proofs.StoreLaws.{below_itself, below_below}
use Rattle.ix_flow.specs.Flow.{RulesLaws}
use Rattle.ix_signatures.specs.Signs.{Adds}
use Rattle.ix_signatures.proofs.SignSteps.{adds_step, signs_monotone}
use Rattle.ix_sign.specs.MethodRules.{copied_claims, KindGives, method_rules}

module _ (program : Program) (method : Method) (profile : Profile) where
  pub operated_step : (kind : OpKind) → IsStep (Gives (operated profile kind))
  operated_step kind = gives_step (operated profile kind) (operated_mono profile kind)

  pub kind_step : (kind : OpKind) (place : ℕ) → IsStep (KindGives program method profile kind place)
  kind_step (op.Const t value) place = operated_step (op.Const t value)
  kind_step (op.Copy t source ty) place =
      then_step (Gives (operated profile (op.Copy t source ty))) (Adds (copied_claims method t place)) (operated_step (op.Copy t source ty)) (adds_step (copied_claims method t place))
  kind_step (op.Num t arith left right) place = operated_step (op.Num t arith left right)
  kind_step (op.Unary t unary operand) place = operated_step (op.Unary t unary operand)
  kind_step (op.Length t array) place = operated_step (op.Length t array)
  kind_step (op.NewArray t ty size) place = operated_step (op.NewArray t ty size)
  kind_step (op.Fill t ty entries) place = operated_step (op.Fill t ty entries)
  kind_step (op.Load t array index ty) place = operated_step (op.Load t array index ty)
  kind_step (op.Store array index value ty) place = operated_step (op.Store array index value ty)
  kind_step (op.ReadField t object field) place = (signs_monotone program method).read t object field
  kind_step (op.WriteField object field value) place = (signs_monotone program method).write object field value
  kind_step (op.NewObject call) place = (signs_monotone program method).call call
  kind_step (op.StaticCall call) place = (signs_monotone program method).call call
  kind_step (op.InstanceCall call) place = (signs_monotone program method).call call
  kind_step (op.SuperCall call) place = (signs_monotone program method).super call
  kind_step (op.Print value) place = operated_step (op.Print value)

  pub method_laws : RulesLaws (method_rules program method profile)
  method_laws = record {
    reflexive = below_itself;
    transitive = below_below;
    nowhere_below = λ s. tt;
    after = λ done. kind_step done.kind done.span.from;
    tested = λ answer test. outcomes_step (outcomes_of answer test);
    told = λ answer last slot. (signs_monotone program method).told last slot answer;
    rounded = λ scope s t u w a b c. (b.0, b.1, gives_step (rounded b.0 scope) (rounded_mono b.0 scope) s t u w a b.2 c);
  }
