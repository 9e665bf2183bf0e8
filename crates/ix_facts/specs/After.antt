-- The facts after an operation, before they are closed: those that do not name its target, its new facts, and what these give with the others.
use Rattle.std.specs.Prelude.{◌≡◌, zero, suc, Bool, true, false, List, [], ◌++◌}
use Rattle.ix_core.specs.declared.claim.Base.TheVariants as base
use Rattle.ix_core.specs.declared.claim.Type_.{Type_}
use Rattle.ix_core.specs.declared.claim.Type_.TheVariants as type
use Rattle.ix_core.specs.declared.fact.Path.{Path}
use Rattle.ix_core.specs.declared.fact.Path.TheVariants.{Slot}
use Rattle.ix_core.specs.declared.fact.Fact.{Fact}
use Rattle.ix_core.specs.declared.fact.Profile.{Profile}
use Rattle.ix_core.specs.declared.op.Literal.TheVariants as literal
use Rattle.ix_core.specs.declared.op.OpKind.{OpKind}
use Rattle.ix_core.specs.declared.op.OpKind.TheVariants as op
use Rattle.ix_core.specs.Numbers.{Numbers}
use Rattle.ix_facts.specs.Facts.{in_orders}
use Rattle.ix_facts.specs.Closure.{kept}
use Rattle.ix_facts.specs.Forget.{of_slot, without, SameBut}
use Rattle.ix_facts.specs.Exact.{if_so}
use Rattle.ix_facts.specs.AfterOperation.{Results, is_int, is_array, holds_arrays, copied, new_facts}
use Rattle.ix_facts.specs.Finish.{finish_int, finish_array}

-- The paths that an operation may change: its target. Calls and accesses to fields, whose rules are others, may change every path.
abbrev pub of_target : OpKind → Path → Bool
of_target (op.Const t value) = of_slot t
of_target (op.Copy t s ty) = of_slot t
of_target (op.Num t arith y z) = of_slot t
of_target (op.Unary t unary y) = of_slot t
of_target (op.Length t a) = of_slot t
of_target (op.NewArray t ty n) = of_slot t
of_target (op.Fill t ty entries) = of_slot t
of_target (op.Load t a i ty) = of_slot t
of_target (op.Store a i v ty) = λ p. false
of_target (op.Print value) = λ p. false
of_target _ = λ p. true

-- One step of an operation that goes on.
pub record Step (profile : Profile) (kind : OpKind) (v w : Numbers) : Type 0 where
  pub others : SameBut (of_target kind) v w
  pub results : Results profile kind v w

-- No target is an operand.
abbrev pub TargetApart : OpKind → Type 0
TargetApart (op.Copy t s ty) = of_slot t (Slot s) ≡ false
TargetApart (op.Num t arith y z) = (of_slot t (Slot y) ≡ false) × (of_slot t (Slot z) ≡ false)
TargetApart (op.Unary t unary y) = of_slot t (Slot y) ≡ false
TargetApart (op.Length t a) = of_slot t (Slot a) ≡ false
TargetApart (op.NewArray t ty n) = of_slot t (Slot n) ≡ false
TargetApart _ = Unit {0}

abbrev pub holds_ints : Type_ → Bool
holds_ints (type.Array base.Int (suc zero) element) = true
holds_ints _ = false

-- by the type of the target: an int, an array or neither
abbrev pub finished_by : Type_ → List Fact → List Fact → Path → List Fact
finished_by ty facts new t = if_so (is_int ty) (finish_int facts new t) ++ if_so (is_array ty) (finish_array facts new t)

abbrev pub finished : List Fact → List Fact → OpKind → List Fact
finished facts new (op.Const t (literal.Int n)) = finish_int facts new (Slot t)
finished facts new (op.Const t (literal.NullOf ty)) = if_so (is_array ty) (finish_array facts new (Slot t))
finished facts new (op.Copy t s ty) = finished_by ty facts new (Slot t)
finished facts new (op.Num t arith y z) = finish_int facts new (Slot t)
finished facts new (op.Unary t unary y) = finish_int facts new (Slot t)
finished facts new (op.Length t a) = finish_int facts new (Slot t)
finished facts new (op.NewArray t ty n) = finish_array facts new (Slot t)
finished facts new (op.Fill t ty entries) = finish_array facts new (Slot t)
finished facts new (op.Load t a i ty) = if_so (holds_ints ty) (finish_int facts new (Slot t)) ++ if_so (holds_arrays ty) (finish_array facts new (Slot t))
finished facts new _ = []

-- the stored facts that do not name the target, in all their orders
abbrev pub beside_target : OpKind → List Fact → List Fact
beside_target kind facts = in_orders (without (of_target kind) facts)

-- The new facts whose constants are kept, of these stored facts.
abbrev pub kept_new : List Fact → Profile → OpKind → List Fact
kept_new beside profile kind = kept (new_facts beside profile kind)

-- The facts after an operation.
abbrev pub after_facts : List Fact → Profile → OpKind → List Fact
after_facts facts profile kind =
    without (of_target kind) facts
    ++ (kept_new (beside_target kind facts) profile kind ++ kept (finished (beside_target kind facts) (kept_new (beside_target kind facts) profile kind) kind))

-- The facts after a copy from one path to another, where no fact names the target: what a field access and a `Copy` give.
abbrev pub copy_facts : List Fact → Type_ → Path → Path → List Fact
copy_facts facts ty t s =
    facts ++ (kept (copied (in_orders facts) ty t s) ++ kept (finished_by ty (in_orders facts) (kept (copied (in_orders facts) ty t s)) t))
