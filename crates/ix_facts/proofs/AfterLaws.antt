-- The facts after an operation hold after its step, and stronger facts have stronger ones after it.
use Rattle.std.specs.Prelude.{Bool, List, [], ◌++◌}
use Rattle.std.proofs.Common.{arith, sym, ◌∙◌}
use Rattle.std.proofs.lemmas.Int.{ints}
use Rattle.ix_core.specs.declared.claim.Type_.{Type_}
use Rattle.ix_core.specs.declared.fact.Path.{Path}
use Rattle.ix_core.specs.declared.fact.Path.TheVariants.{Slot}
use Rattle.ix_core.specs.declared.fact.Fact.{Fact}
use Rattle.ix_core.specs.declared.fact.Profile.{Profile}
use Rattle.ix_core.specs.declared.op.Literal.TheVariants as literal
use Rattle.ix_core.specs.declared.op.OpKind.{OpKind}
use Rattle.ix_core.specs.declared.op.OpKind.TheVariants as op
use Rattle.ix_core.specs.Numbers.{Numbers}
use Rattle.ix_facts.specs.Facts.{AllHold, Stronger, in_orders}
use Rattle.ix_facts.specs.Closure.{kept}
use Rattle.ix_facts.specs.Forget.{without, SameBut}
use Rattle.ix_facts.specs.Exact.{if_so}
use Rattle.ix_facts.specs.AfterOperation.{Results, HasExact, is_int, is_array, holds_arrays, copied, new_facts}
use Rattle.ix_facts.specs.Finish.{finish_int, finish_array}
use Rattle.ix_facts.specs.After.{of_target, Step, TargetApart, holds_ints, finished_by, finished, beside_target, kept_new, after_facts, copy_facts}
use Rattle.ix_facts.proofs.BoundsHold.{in_orders_hold}
use Rattle.ix_facts.proofs.ClosureLaws.{kept_hold}
use Rattle.ix_facts.proofs.ExactLaws.{exact_includes, unary_includes}
use Rattle.ix_facts.proofs.FactLists.{all_hold_app, stronger_app, stronger_none}
use Rattle.ix_facts.proofs.FinishLaws.{finish_int_holds, finish_array_holds, finish_int_mono, finish_array_mono}
use Rattle.ix_facts.proofs.Frame.{without_holds, without_stays}
use Rattle.ix_facts.proofs.OperationsHold.{new_facts_hold}
use Rattle.ix_facts.proofs.RuleForms.{if_so_holds, stronger_if}
use Rattle.ix_facts.specs.Laws.{Alike}
use Rattle.ix_facts.proofs.RulesHold.{copied_hold}

-- what an operation gives its target it gives of the operands as they are after the step, since it changes none
pub results_now : (profile : Profile) (kind : OpKind) (v w : Numbers) → TargetApart kind → SameBut (of_target kind) v w → Results profile kind v w → Results profile kind w w
results_now profile (op.Const t (literal.Int n)) v w apart s r = r
results_now profile (op.Const t (literal.Bool answer)) v w apart s r = tt
results_now profile (op.Const t (literal.NullOf ty)) v w apart s r = r
results_now profile (op.Copy t p ty) v w apart s r = let e = s (Slot p) apart in (r.0 ∙ sym e.0, r.1 ∙ sym e.1)
results_now profile (op.Num t arith_op y z) v w apart s r =
    let a = (s (Slot y) apart.0).0 in
    let b = (s (Slot z) apart.1).0 in
    record { result = r.result; is = rw (a, b) r.is; kept = r.kept; unwrapped = r.unwrapped }
results_now profile (op.Unary t unary y) v w apart s r = let a = (s (Slot y) apart).0 in record { result = r.result; is = rw a r.is; kept = r.kept; unwrapped = r.unwrapped }
results_now profile (op.Length t a) v w apart s r = r ∙ sym (s (Slot a) apart).1
results_now profile (op.NewArray t ty n) v w apart s r = r ∙ sym (s (Slot n) apart).0
results_now profile (op.Fill t ty entries) v w apart s r = r
results_now profile (op.Load t a i ty) v w apart s r = r
results_now profile (op.Store a i x ty) v w apart s r = tt
results_now profile (op.ReadField t o f) v w apart s r = tt
results_now profile (op.WriteField o f x) v w apart s r = tt
results_now profile (op.NewObject call) v w apart s r = tt
results_now profile (op.StaticCall call) v w apart s r = tt
results_now profile (op.InstanceCall call) v w apart s r = tt
results_now profile (op.SuperCall call) v w apart s r = tt
results_now profile (op.Print x) v w apart s r = tt

-- where the facts hold and the step goes on, the exact interval is not empty
pub goes_on_exact : (profile : Profile) (kind : OpKind) (facts : List Fact) (w : Numbers) → AllHold facts w → Results profile kind w w → HasExact facts kind
goes_on_exact profile (op.Num t arith_op y z) facts w h r = let p = exact_includes w facts h arith_op (Slot y) (Slot z) r.result r.is in omega (arith, ints, p.from, p.to)
goes_on_exact profile (op.Unary t unary y) facts w h r = let p = unary_includes w facts h unary (Slot y) in omega (arith, ints, p.from, p.to)
goes_on_exact profile (op.Const t value) facts w h r = tt
goes_on_exact profile (op.Copy t p ty) facts w h r = tt
goes_on_exact profile (op.Length t a) facts w h r = tt
goes_on_exact profile (op.NewArray t ty n) facts w h r = tt
goes_on_exact profile (op.Fill t ty entries) facts w h r = tt
goes_on_exact profile (op.Load t a i ty) facts w h r = tt
goes_on_exact profile (op.Store a i x ty) facts w h r = tt
goes_on_exact profile (op.ReadField t o f) facts w h r = tt
goes_on_exact profile (op.WriteField o f x) facts w h r = tt
goes_on_exact profile (op.NewObject call) facts w h r = tt
goes_on_exact profile (op.StaticCall call) facts w h r = tt
goes_on_exact profile (op.InstanceCall call) facts w h r = tt
goes_on_exact profile (op.SuperCall call) facts w h r = tt
goes_on_exact profile (op.Print x) facts w h r = tt

module _ (w : Numbers) (facts new : List Fact) (h : AllHold facts w) (k : AllHold new w) where
  int_holds : (t : Path) → AllHold (finish_int facts new t) w
  int_holds t = finish_int_holds w facts new h k t

  array_holds : (t : Path) → AllHold (finish_array facts new t) w
  array_holds t = finish_array_holds w facts new h k t

  pub finished_by_holds : (ty : Type_) (t : Path) → AllHold (finished_by ty facts new t) w
  finished_by_holds ty t =
      all_hold_app w (if_so (is_int ty) (finish_int facts new t)) (if_so (is_array ty) (finish_array facts new t))
      (if_so_holds w (is_int ty) (finish_int facts new t) (λ x. int_holds t)) (if_so_holds w (is_array ty) (finish_array facts new t) (λ x. array_holds t))

  pub finished_holds : (kind : OpKind) → AllHold (finished facts new kind) w
  finished_holds (op.Const t (literal.Int n)) = int_holds (Slot t)
  finished_holds (op.Const t (literal.Bool answer)) = tt
  finished_holds (op.Const t (literal.NullOf ty)) = if_so_holds w (is_array ty) (finish_array facts new (Slot t)) (λ x. array_holds (Slot t))
  finished_holds (op.Copy t p ty) = finished_by_holds ty (Slot t)
  finished_holds (op.Num t arith_op y z) = int_holds (Slot t)
  finished_holds (op.Unary t unary y) = int_holds (Slot t)
  finished_holds (op.Length t a) = int_holds (Slot t)
  finished_holds (op.NewArray t ty n) = array_holds (Slot t)
  finished_holds (op.Fill t ty entries) = array_holds (Slot t)
  finished_holds (op.Load t a i ty) =
      all_hold_app w (if_so (holds_ints ty) (finish_int facts new (Slot t))) (if_so (holds_arrays ty) (finish_array facts new (Slot t)))
      (if_so_holds w (holds_ints ty) (finish_int facts new (Slot t)) (λ x. int_holds (Slot t))) (if_so_holds w (holds_arrays ty) (finish_array facts new (Slot t)) (λ x. array_holds (Slot t)))
  finished_holds (op.Store a i x ty) = tt
  finished_holds (op.ReadField t o f) = tt
  finished_holds (op.WriteField o f x) = tt
  finished_holds (op.NewObject call) = tt
  finished_holds (op.StaticCall call) = tt
  finished_holds (op.InstanceCall call) = tt
  finished_holds (op.SuperCall call) = tt
  finished_holds (op.Print x) = tt

-- after a step the facts after the operation hold
pub after_hold : (profile : Profile) (kind : OpKind) (facts : List Fact) (v w : Numbers) → TargetApart kind → Step profile kind v w → AllHold facts v → AllHold (after_facts facts profile kind) w
after_hold profile kind facts v w apart step h =
    let beside = beside_target kind facts in
    let old = without_stays (of_target kind) v w step.others facts (without_holds (of_target kind) v facts h) in
    let k = in_orders_hold w (without (of_target kind) facts) old in
    let new = kept_hold w (new_facts beside profile kind) (new_facts_hold w beside k profile kind (results_now profile kind v w apart step.others step.results)) in
    all_hold_app w (without (of_target kind) facts) (kept_new beside profile kind ++ kept (finished beside (kept_new beside profile kind) kind)) old
    (all_hold_app w (kept_new beside profile kind) (kept (finished beside (kept_new beside profile kind) kind)) new (kept_hold w (finished beside (kept_new beside profile kind) kind) (finished_holds w beside (kept_new beside profile kind) k new kind)))

-- after a copy from path to path
pub copy_hold : (facts : List Fact) (w : Numbers) (ty : Type_) (t s : Path) → Alike w t s → AllHold facts w → AllHold (copy_facts facts ty t s) w
copy_hold facts w ty t s a h =
    let k = in_orders_hold w facts h in
    let new = kept_hold w (copied (in_orders facts) ty t s) (copied_hold w t s a (in_orders facts) k ty) in
    all_hold_app w facts (kept (copied (in_orders facts) ty t s) ++ kept (finished_by ty (in_orders facts) (kept (copied (in_orders facts) ty t s)) t)) h
    (all_hold_app w (kept (copied (in_orders facts) ty t s)) (kept (finished_by ty (in_orders facts) (kept (copied (in_orders facts) ty t s)) t)) new
    (kept_hold w (finished_by ty (in_orders facts) (kept (copied (in_orders facts) ty t s)) t) (finished_by_holds w (in_orders facts) (kept (copied (in_orders facts) ty t s)) k new ty t)))

-- ---- monotone

module _ (strong weak new weak_new : List Fact) (s : Stronger strong weak) (n : Stronger new weak_new) where
  int_mono : (t : Path) → Stronger (finish_int strong new t) (finish_int weak weak_new t)
  int_mono t = finish_int_mono strong weak new weak_new s n t

  array_mono : (t : Path) → Stronger (finish_array strong new t) (finish_array weak weak_new t)
  array_mono t = finish_array_mono strong weak new weak_new s n t

  if_int : (test : Bool) (t : Path) → Stronger (if_so test (finish_int strong new t)) (if_so test (finish_int weak weak_new t))
  if_int test t = stronger_if test test (finish_int strong new t) (finish_int weak weak_new t) (λ x. x) (λ x. int_mono t)

  if_array : (test : Bool) (t : Path) → Stronger (if_so test (finish_array strong new t)) (if_so test (finish_array weak weak_new t))
  if_array test t = stronger_if test test (finish_array strong new t) (finish_array weak weak_new t) (λ x. x) (λ x. array_mono t)

  pub finished_by_mono : (ty : Type_) (t : Path) → Stronger (finished_by ty strong new t) (finished_by ty weak weak_new t)
  finished_by_mono ty t = stronger_app _ _ _ _ (if_int (is_int ty) t) (if_array (is_array ty) t)

  pub finished_mono : (kind : OpKind) → Stronger (finished strong new kind) (finished weak weak_new kind)
  finished_mono (op.Const t (literal.Int n)) = int_mono (Slot t)
  finished_mono (op.Const t (literal.Bool answer)) = stronger_none []
  finished_mono (op.Const t (literal.NullOf ty)) = if_array (is_array ty) (Slot t)
  finished_mono (op.Copy t p ty) = finished_by_mono ty (Slot t)
  finished_mono (op.Num t arith_op y z) = int_mono (Slot t)
  finished_mono (op.Unary t unary y) = int_mono (Slot t)
  finished_mono (op.Length t a) = int_mono (Slot t)
  finished_mono (op.NewArray t ty n) = array_mono (Slot t)
  finished_mono (op.Fill t ty entries) = array_mono (Slot t)
  finished_mono (op.Load t a i ty) = stronger_app _ _ _ _ (if_int (holds_ints ty) (Slot t)) (if_array (holds_arrays ty) (Slot t))
  finished_mono (op.Store a i x ty) = stronger_none []
  finished_mono (op.ReadField t o f) = stronger_none []
  finished_mono (op.WriteField o f x) = stronger_none []
  finished_mono (op.NewObject call) = stronger_none []
  finished_mono (op.StaticCall call) = stronger_none []
  finished_mono (op.InstanceCall call) = stronger_none []
  finished_mono (op.SuperCall call) = stronger_none []
  finished_mono (op.Print x) = stronger_none []
