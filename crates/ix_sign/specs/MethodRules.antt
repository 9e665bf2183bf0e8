-- The rules of a method of a program in a profile, as rules of flow over stores: over all that can be known at a place, and not over what a table can hold.
use Rattle.std.specs.Prelude.{ℕ, ℤ, List, [], Option, None, Some}
use Rattle.ix_core.specs.declared.claim.Claim.{Claim}
use Rattle.ix_core.specs.declared.claim.Name.{Name}
use Rattle.ix_core.specs.declared.fact.Fact.{Fact}
use Rattle.ix_core.specs.declared.fact.Path.TheVariants.{Slot}
use Rattle.ix_core.specs.declared.fact.Profile.{Profile}
use Rattle.ix_core.specs.declared.op.Op.{Op}
use Rattle.ix_core.specs.declared.op.OpKind.{OpKind}
use Rattle.ix_core.specs.declared.op.OpKind.TheVariants as op
use Rattle.ix_core.specs.declared.program.Method.{Method}
use Rattle.ix_core.specs.declared.program.Program.{Program}
use Rattle.ix_facts.specs.MethodLandmarks.{AreLandmarksOf}
use Rattle.ix_facts.specs.Round.{rounded}
use Rattle.ix_facts.specs.Stores.{Stored, Unreachable, IsBelow, Gives, Then, OutcomesGive, operated, outcomes_of}
use Rattle.ix_flow.specs.Flow.{Rules}
use Rattle.ix_rules_hold.specs.MachineSteps.{own_path}
use Rattle.ix_signatures.specs.Names.{variable_at}
use Rattle.ix_signatures.specs.Signs.{Adds, claims_facts, EntryGives, ReadGives, WriteGives, CallGives, SuperGives, told_facts}

-- the claims of the variable that a copy goes into
abbrev pub variable_claims : Option (Name × List Claim) → List Claim
variable_claims None = []
variable_claims (Some variable) = variable.1

-- A copy into a variable with claims: its claims, which were proved of the value, hold of it.
abbrev pub copied_claims : Method → ℕ → ℕ → List Fact
copied_claims method slot place = claims_facts (own_path method) (Slot slot) (variable_claims (variable_at method slot place))

module _ (program : Program) (method : Method) (profile : Profile) where
  -- what an operation at this place gives
  abbrev pub KindGives : OpKind → ℕ → Stored → Stored → Type 0
  KindGives (op.Copy target source ty) place = Then (Gives (operated profile (op.Copy target source ty))) (Adds (copied_claims method target place))
  KindGives (op.ReadField target object field) place = ReadGives program method target object field
  KindGives (op.WriteField object field value) place = WriteGives program method object field value
  KindGives (op.NewObject call) place = CallGives program method call
  KindGives (op.StaticCall call) place = CallGives program method call
  KindGives (op.InstanceCall call) place = CallGives program method call
  KindGives (op.SuperCall call) place = SuperGives program method call
  KindGives kind place = Gives (operated profile kind)

  abbrev pub AfterGives : Op → Stored → Stored → Type 0
  AfterGives done = KindGives done.kind done.span.from

-- The label of a loop: rounded to the method's landmarks, without what isn't in scope.
abbrev pub RoundedGives : Program → Method → ℕ → Stored → Stored → Type 0
RoundedGives program method scope s t = (marks : List ℤ) × AreLandmarksOf program method marks × Gives (rounded marks scope) s t

-- The rules of a method. Of a boolean slot no fact speaks, so it tells nothing by itself; a call that has just answered it may.
abbrev pub method_rules : Program → Method → Profile → Rules
method_rules program method profile = record {
  Store = Stored;
  Below = IsBelow;
  nowhere = Unreachable;
  Entry = EntryGives program method;
  After = AfterGives program method profile;
  Tested = λ answer test. OutcomesGive (outcomes_of answer test);
  Told = λ answer last slot. Adds (told_facts program last slot answer);
  Rounded = RoundedGives program method;
}
