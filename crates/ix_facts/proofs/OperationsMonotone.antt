-- Stronger facts derive stronger facts of each operation, unless its exact interval is empty: then no step of it goes on.
use Rattle.std.specs.Prelude.{◌≡◌, true, pos, ◌≤ℤ◌, List, []}
use Rattle.ix_num.specs.declared.arith.Arith.{Arith}
use Rattle.ix_num.specs.declared.arith.Arith.TheVariants.{Add, Sub, Mul, Div, Rem, And, Or, Xor, Shl, Shr, Ushr}
use Rattle.ix_tables.specs.declared.low.Low.TheVariants as class
use Rattle.ix_tables.specs.LowClasses.{class_of}
use Rattle.ix_core.specs.declared.fact.Path.{Path}
use Rattle.ix_core.specs.declared.fact.Path.TheVariants.{Slot}
use Rattle.ix_core.specs.declared.fact.Fact.{Fact}
use Rattle.ix_core.specs.declared.fact.Profile.{Profile}
use Rattle.ix_core.specs.declared.op.Literal.TheVariants as literal
use Rattle.ix_core.specs.declared.op.OpKind.{OpKind}
use Rattle.ix_core.specs.declared.op.OpKind.TheVariants as op
use Rattle.ix_core.specs.declared.op.UnaryNum.{UnaryNum}
use Rattle.ix_core.specs.declared.op.UnaryNum.TheVariants.{Neg as Negated, Flip}
use Rattle.ix_facts.specs.Facts.{Stronger}
use Rattle.ix_facts.specs.Bounds
use Rattle.ix_facts.specs.Exact
use Rattle.ix_facts.specs.Exact.{fits, table_class}
use Rattle.ix_facts.specs.AfterOperation as after
use Rattle.ix_facts.specs.AfterOperation.{HasExact}
use Rattle.ix_facts.proofs.BoundsMonotone.{lower_mono}
use Rattle.ix_facts.proofs.FactLists.{stronger_app, stronger_none, stronger_itself}
use Rattle.ix_facts.proofs.RuleForms.{stronger_if}
use Rattle.ix_facts.proofs.ExactLaws.{fits_mono, exact_mono, unary_mono}
use Rattle.ix_facts.proofs.ClassLaws.{class_up, below_if_up, table_up}
use Rattle.ix_facts.proofs.RulesMonotone.{range_facts_mono, low_facts_mono, copied_mono, sum_facts_mono, difference_facts_mono, product_facts_mono, quotient_facts_mono, remainder_facts_mono, and_facts_mono, shift_facts_mono, half_facts_mono, flip_facts_mono, length_facts_mono, new_array_facts_mono}

module _ (strong weak : List Fact) (s : Stronger strong weak) where
  module _ (profile : Profile) (t y z : Path) where
    fitting : (arith_op : Arith) → (Exact.exact_range strong arith_op y z).lo ≤ℤ (Exact.exact_range strong arith_op y z).hi → fits profile (Exact.exact_range weak arith_op y z) ≡ true → fits profile (Exact.exact_range strong arith_op y z) ≡ true
    fitting arith_op some = fits_mono profile (Exact.exact_range strong arith_op y z) (Exact.exact_range weak arith_op y z) some (exact_mono strong weak s arith_op y z)

    arith_mono : (arith_op : Arith) → (Exact.exact_range strong arith_op y z).lo ≤ℤ (Exact.exact_range strong arith_op y z).hi → Stronger (after.arith_facts strong profile arith_op t y z) (after.arith_facts weak profile arith_op t y z)
    arith_mono Add some = stronger_if (fits profile (Exact.exact_range weak Add y z)) (fits profile (Exact.exact_range strong Add y z)) (after.sum_facts strong t y z) (after.sum_facts weak t y z) (fitting Add some) (λ x. sum_facts_mono strong weak s t y z)
    arith_mono Sub some = stronger_if (fits profile (Exact.exact_range weak Sub y z)) (fits profile (Exact.exact_range strong Sub y z)) (after.difference_facts strong t y z) (after.difference_facts weak t y z) (fitting Sub some) (λ x. difference_facts_mono strong weak s t y z)
    arith_mono Mul some = stronger_if (fits profile (Exact.exact_range weak Mul y z)) (fits profile (Exact.exact_range strong Mul y z)) (after.product_facts strong t y z) (after.product_facts weak t y z) (fitting Mul some) (λ x. product_facts_mono strong weak s t y z)
    arith_mono Div some = stronger_app _ _ _ _ (quotient_facts_mono strong weak s t y z) (half_facts_mono strong weak s (pos 2) t y z)
    arith_mono Rem some = remainder_facts_mono strong weak s t y z
    arith_mono And some = and_facts_mono strong weak s t y z
    arith_mono Or some = stronger_none []
    arith_mono Xor some = stronger_none []
    arith_mono Shl some = stronger_none []
    arith_mono Shr some = stronger_app _ _ _ _ (shift_facts_mono strong weak s t y) (half_facts_mono strong weak s (pos 1) t y z)
    arith_mono Ushr some = stronger_app _ _ _ _ (shift_facts_mono strong weak s t y) (half_facts_mono strong weak s (pos 1) t y z)

    pub num_mono : (arith_op : Arith) → (Exact.exact_range strong arith_op y z).lo ≤ℤ (Exact.exact_range strong arith_op y z).hi → Stronger (after.num_facts strong profile arith_op t y z) (after.num_facts weak profile arith_op t y z)
    num_mono arith_op some =
        let i = Exact.exact_range strong arith_op y z in
        let j = Exact.exact_range weak arith_op y z in
        let within = exact_mono strong weak s arith_op y z in
        let a = class_up (Bounds.lower_bound weak y) (Bounds.lower_bound strong y) (lower_mono strong weak s y) in
        let b = class_up (Bounds.lower_bound weak z) (Bounds.lower_bound strong z) (lower_mono strong weak s z) in
        let table = table_up arith_op (class_of (Bounds.lower_bound strong y)) (class_of (Bounds.lower_bound strong z)) (class_of (Bounds.lower_bound weak y)) (class_of (Bounds.lower_bound weak z)) (below_if_up _ _ a) (below_if_up _ _ b) in
        stronger_app _ _ _ _ (range_facts_mono profile t i j some within)
        (stronger_app _ _ _ _ (low_facts_mono profile t i j some within (table_class strong arith_op y z) (table_class weak arith_op y z) table) (arith_mono arith_op some))

  module _ (profile : Profile) (t y : Path) where
    unary_rule_mono : (unary : UnaryNum) → Stronger (after.unary_rule strong unary t y) (after.unary_rule weak unary t y)
    unary_rule_mono Negated = stronger_none []
    unary_rule_mono Flip = flip_facts_mono strong weak s t y

    pub unary_facts_mono : (unary : UnaryNum) → (Exact.exact_unary strong unary y).lo ≤ℤ (Exact.exact_unary strong unary y).hi → Stronger (after.unary_facts strong profile unary t y) (after.unary_facts weak profile unary t y)
    unary_facts_mono unary some =
        let i = Exact.exact_unary strong unary y in
        let j = Exact.exact_unary weak unary y in
        let within = unary_mono strong weak s unary y in
        stronger_app _ _ _ _ (range_facts_mono profile t i j some within)
        (stronger_app _ _ _ _ (low_facts_mono profile t i j some within class.Unknown class.Unknown tt) (unary_rule_mono unary))

  pub new_facts_mono : (profile : Profile) (kind : OpKind) → HasExact strong kind → Stronger (after.new_facts strong profile kind) (after.new_facts weak profile kind)
  new_facts_mono profile (op.Const t (literal.Int n)) some = stronger_itself (after.new_facts strong profile (op.Const t (literal.Int n)))
  new_facts_mono profile (op.Const t (literal.Bool answer)) some = stronger_none []
  new_facts_mono profile (op.Const t (literal.NullOf ty)) some = stronger_itself (after.new_facts strong profile (op.Const t (literal.NullOf ty)))
  new_facts_mono profile (op.Copy t p ty) some = copied_mono strong weak s ty (Slot t) (Slot p)
  new_facts_mono profile (op.Num t arith_op y z) some = num_mono profile (Slot t) (Slot y) (Slot z) arith_op some
  new_facts_mono profile (op.Unary t unary y) some = unary_facts_mono profile (Slot t) (Slot y) unary some
  new_facts_mono profile (op.Length t a) some = length_facts_mono strong weak s (Slot t) (Slot a)
  new_facts_mono profile (op.NewArray t ty n) some = new_array_facts_mono strong weak s (Slot t) (Slot n)
  new_facts_mono profile (op.Fill t ty entries) some = stronger_itself (after.new_facts strong profile (op.Fill t ty entries))
  new_facts_mono profile (op.Load t a i ty) some = stronger_itself (after.new_facts strong profile (op.Load t a i ty))
  new_facts_mono profile (op.Store a i v ty) some = stronger_none []
  new_facts_mono profile (op.ReadField t o f) some = stronger_none []
  new_facts_mono profile (op.WriteField o f v) some = stronger_none []
  new_facts_mono profile (op.NewObject call) some = stronger_none []
  new_facts_mono profile (op.StaticCall call) some = stronger_none []
  new_facts_mono profile (op.InstanceCall call) some = stronger_none []
  new_facts_mono profile (op.SuperCall call) some = stronger_none []
  new_facts_mono profile (op.Print value) some = stronger_none []
