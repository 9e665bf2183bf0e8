-- What the text of an operation owes where no error is derived from it: `this` of a constructor isn't handed on, no parameter that a claim of the result or a post
-- names is assigned, and a method without effects writes no field but its own object's and calls only such methods.
use Rattle.std.specs.Prelude.{◌≡◌, ◌⊎◌, ℕ, true, slice_get, Some}
use Rattle.ix_core.specs.declared.claim.Name.TheVariants.{Param}
use Rattle.ix_core.specs.declared.claim.Type_.{Type_}
use Rattle.ix_core.specs.declared.op.OpKind.{OpKind}
use Rattle.ix_core.specs.declared.op.OpKind.TheVariants as op
use Rattle.ix_core.specs.declared.program.Method.{Method}
use Rattle.ix_core.specs.declared.program.Program.{Program}
use Rattle.ix_core.specs.Objects.{IsOwn, Names, PostsName}
use Rattle.ix_core.specs.Tables.{method_at, param_slot}
use Rattle.ix_core.specs.Waits.{AreNotOwn}

abbrev pub Hides : Method → OpKind → Type 0
Hides method (op.Copy t s ty) = IsOwn method s → ⊥
Hides method (op.Fill t ty entries) = (at entry : ℕ) → slice_get entries at ≡ Some entry → IsOwn method entry → ⊥
Hides method (op.Store a i v ty) = IsOwn method v → ⊥
Hides method (op.WriteField o f v) = IsOwn method v → ⊥
Hides method (op.NewObject call) = AreNotOwn method call.args
Hides method (op.StaticCall call) = AreNotOwn method call.args
Hides method (op.InstanceCall call) = AreNotOwn method call.args × ((slot : ℕ) → call.receiver ≡ Some slot → IsOwn method slot → ⊥)
Hides method (op.SuperCall call) = AreNotOwn method call.args
Hides method _ = Unit {0}

abbrev pub IsQuiet : Program → Method → OpKind → Type 0
IsQuiet program method (op.WriteField o f v) = IsOwn method o
IsQuiet program method (op.NewObject call) = (method_at program call.method).effect_free ≡ true
IsQuiet program method (op.StaticCall call) = (method_at program call.method).effect_free ≡ true
IsQuiet program method (op.InstanceCall call) = (method_at program call.method).effect_free ≡ true
IsQuiet program method (op.SuperCall call) = (method_at program call.method).effect_free ≡ true
IsQuiet program method _ = Unit {0}

pub record IsClean (program : Program) (method : Method) (kind : OpKind) : Type 0 where
  pub hides : Hides method kind
  pub named : (number source : ℕ) (ty : Type_) → Names method.result_claims (Param number) ⊎ PostsName method.posts (Param number) → kind ≡ op.Copy (param_slot method number) source ty → ⊥
  pub quiet : method.effect_free ≡ true → IsQuiet program method kind
