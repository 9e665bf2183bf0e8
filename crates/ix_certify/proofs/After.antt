-- After an operation that is no call and touches no field, and after a copy, all facts are within.
use Rattle.std.specs.Prelude.{◌≡◌, ℕ, false, refl, List}
use Rattle.ix_core.specs.declared.claim.Type_.{Type_}
use Rattle.ix_core.specs.declared.fact.Path.{Path}
use Rattle.ix_core.specs.declared.fact.Path.TheVariants.{Slot, FieldOf}
use Rattle.ix_core.specs.declared.fact.Fact.{Fact}
use Rattle.ix_core.specs.declared.fact.Profile.{Profile}
use Rattle.ix_core.specs.declared.op.Literal.TheVariants as literal
use Rattle.ix_core.specs.declared.op.OpKind.{OpKind}
use Rattle.ix_core.specs.declared.op.OpKind.TheVariants as op
use Rattle.ix_facts.specs.Bounds.{is_path}
use Rattle.ix_facts.specs.Closure.{kept}
use Rattle.ix_facts.specs.AfterOperation as after
use Rattle.ix_facts.specs.AfterOperation.{is_int, is_array, holds_arrays}
use Rattle.ix_facts.specs.After.{of_target, TargetApart, holds_ints, finished_by, finished, beside_target, kept_new, after_facts, copy_facts}
use Rattle.ix_facts.specs.Facts.{in_orders}
use Rattle.ix_facts.specs.Finish as finish
use Rattle.ix_facts.specs.Forget.{of_slot, of_path, without}
use Rattle.ix_facts.proofs.Tests.{off}
use Rattle.ix_certify.proofs.Paths.{AreWithin, OperationWithin}
use Rattle.ix_certify.proofs.ListsWithin.{Each, none, one, two, both, if_within, kept_within}
use Rattle.ix_certify.proofs.Operations as rules
use Rattle.ix_certify.proofs.Stored.{Beside, beside_within, without_within, app_within, each_are}

slot_apart : (t : ℕ) (p : Path) → of_slot t p ≡ false → is_path (Slot t) p ≡ false
slot_apart t (Slot s) n = off (Slot s) (Slot t) n
slot_apart t (FieldOf s f) n = refl

pub path_apart : (t p : Path) → of_path t p ≡ false → is_path t p ≡ false
path_apart (Slot t) p n = slot_apart t p n
path_apart (FieldOf t g) (Slot s) n = n
path_apart (FieldOf t g) (FieldOf s f) n = off (FieldOf s f) (FieldOf t g) n

module _ (In : Path → Type 0) where
  own : (is : Path → Rattle.std.specs.Prelude.Bool) (p : Path) → Beside In is p → In p
  own is p i = i.0

  -- the new facts, of stored ones beside the target
  new_within : (facts : List Fact) (profile : Profile) (kind : OpKind) → OperationWithin In kind → TargetApart kind → Each (Beside In (of_target kind)) facts → Each In (after.new_facts facts profile kind)
  new_within facts profile (op.Const t (literal.Int n)) i a stored = one In _ i
  new_within facts profile (op.Const t (literal.Bool answer)) i a stored = none
  new_within facts profile (op.Const t (literal.NullOf ty)) i a stored = if_within In (is_array ty) _ (two In _ _ i (i, i))
  new_within facts profile (op.Copy t s ty) i a stored =
      rules.copied_facts_within In (Beside In (of_slot t)) (Slot t) i.0 (own (of_slot t)) (λ p x. slot_apart t p x.1) facts stored (Slot s) (i.1, a) ty
  new_within facts profile (op.Num t arith_op y z) i a stored =
      rules.num_within In (Beside In (of_slot t)) (Slot t) i.0 (own (of_slot t)) (λ p x. slot_apart t p x.1) facts stored profile (Slot y) (Slot z) (i.1, a.0) (i.2, a.1) arith_op
  new_within facts profile (op.Unary t unary y) i a stored =
      rules.unary_facts_within In (Beside In (of_slot t)) (Slot t) i.0 (own (of_slot t)) (λ p x. slot_apart t p x.1) facts stored (Slot y) (i.1, a) profile unary
  new_within facts profile (op.Length t y) i a stored =
      rules.length_within In (Beside In (of_slot t)) (Slot t) i.0 (own (of_slot t)) (λ p x. slot_apart t p x.1) facts stored (Slot y) (i.1, a)
  new_within facts profile (op.NewArray t ty n) i a stored =
      rules.new_array_within In (Beside In (of_slot t)) (Slot t) i.0 (own (of_slot t)) (λ p x. slot_apart t p x.1) facts stored (Slot n) (i.1, a)
  new_within facts profile (op.Fill t ty entries) i a stored = two In _ _ i (i, i)
  new_within facts profile (op.Load t x y ty) i a stored =
      both In _ _ (if_within In (holds_arrays ty) _ (one In _ (i, i))) (rules.loaded_within In (Beside In (of_slot t)) (Slot t) i (own (of_slot t)) (λ p x. slot_apart t p x.1) (after.loaded_claims ty))
  new_within facts profile (op.Store x y v ty) i a stored = none
  new_within facts profile (op.ReadField t o f) i a stored = none
  new_within facts profile (op.WriteField o f v) i a stored = none
  new_within facts profile (op.NewObject call) i a stored = none
  new_within facts profile (op.StaticCall call) i a stored = none
  new_within facts profile (op.InstanceCall call) i a stored = none
  new_within facts profile (op.SuperCall call) i a stored = none
  new_within facts profile (op.Print value) i a stored = none

  module _ (t : ℕ) (in_t : In (Slot t)) (facts new : List Fact) (stored : Each (Beside In (of_slot t)) facts) where
    ints : Each In (finish.finish_int facts new (Slot t))
    ints = rules.int_within In (Beside In (of_slot t)) (Slot t) in_t (own (of_slot t)) (λ p x. slot_apart t p x.1) facts new stored

    arrays : Each In (finish.finish_array facts new (Slot t))
    arrays = rules.array_within In (Beside In (of_slot t)) (Slot t) in_t (own (of_slot t)) (λ p x. slot_apart t p x.1) facts new stored

  finished_within : (facts new : List Fact) (kind : OpKind) → OperationWithin In kind → Each (Beside In (of_target kind)) facts → Each In (finished facts new kind)
  finished_within facts new (op.Const t (literal.Int n)) i stored = ints t i facts new stored
  finished_within facts new (op.Const t (literal.Bool answer)) i stored = none
  finished_within facts new (op.Const t (literal.NullOf ty)) i stored = if_within In (is_array ty) _ (arrays t i facts new stored)
  finished_within facts new (op.Copy t s ty) i stored = both In _ _ (if_within In (is_int ty) _ (ints t i.0 facts new stored)) (if_within In (is_array ty) _ (arrays t i.0 facts new stored))
  finished_within facts new (op.Num t arith_op y z) i stored = ints t i.0 facts new stored
  finished_within facts new (op.Unary t unary y) i stored = ints t i.0 facts new stored
  finished_within facts new (op.Length t y) i stored = ints t i.0 facts new stored
  finished_within facts new (op.NewArray t ty n) i stored = arrays t i.0 facts new stored
  finished_within facts new (op.Fill t ty entries) i stored = arrays t i facts new stored
  finished_within facts new (op.Load t x y ty) i stored =
      both In _ _ (if_within In (holds_ints ty) _ (ints t i facts new stored)) (if_within In (holds_arrays ty) _ (arrays t i facts new stored))
  finished_within facts new (op.Store x y v ty) i stored = none
  finished_within facts new (op.ReadField t o f) i stored = none
  finished_within facts new (op.WriteField o f v) i stored = none
  finished_within facts new (op.NewObject call) i stored = none
  finished_within facts new (op.StaticCall call) i stored = none
  finished_within facts new (op.InstanceCall call) i stored = none
  finished_within facts new (op.SuperCall call) i stored = none
  finished_within facts new (op.Print value) i stored = none

  pub after_within : (profile : Profile) (kind : OpKind) → OperationWithin In kind → TargetApart kind → (facts : List Fact) → AreWithin In facts → AreWithin In (after_facts facts profile kind)
  after_within profile kind i a facts within =
      let beside = beside_target kind facts in
      let stored = beside_within In (of_target kind) facts within in
      app_within In (without (of_target kind) facts) _ (without_within In (of_target kind) facts within)
      (each_are In _ (both In (kept_new beside profile kind) (kept (finished beside (kept_new beside profile kind) kind))
      (kept_within In (after.new_facts beside profile kind) (new_within beside profile kind i a stored))
      (kept_within In (finished beside (kept_new beside profile kind) kind) (finished_within beside (kept_new beside profile kind) kind i stored))))

  -- a copy of the value of a path that isn't the target
  pub copy_within : (ty : Type_) (t s : Path) → In t → In s → of_path t s ≡ false → (facts : List Fact) → AreWithin In facts → AreWithin In (copy_facts (without (of_path t) facts) ty t s)
  copy_within ty t s in_t in_s a facts within =
      let beside = in_orders (without (of_path t) facts) in
      let stored = beside_within In (of_path t) facts within in
      let new = kept (after.copied beside ty t s) in
      app_within In (without (of_path t) facts) _ (without_within In (of_path t) facts within)
      (each_are In _ (both In new (kept (finished_by ty beside new t))
      (kept_within In (after.copied beside ty t s) (rules.copied_facts_within In (Beside In (of_path t)) t in_t (own (of_path t)) (λ p x. path_apart t p x.1) beside stored s (in_s, a) ty))
      (kept_within In (finished_by ty beside new t) (rules.by_within In (Beside In (of_path t)) t in_t (own (of_path t)) (λ p x. path_apart t p x.1) beside new stored ty))))
