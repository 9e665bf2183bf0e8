-- Operators give values of their types, and tests and what they are put together from lead where they are said to.
use Rattle.std.proofs.Common.{◌≡◌, ◌≤◌, ◌<◌, ℕ, Bool, true, false, List, [], ◌++◌, Some, None, refl, sym, ap, subst, ◌∙◌, arith}
use Rattle.std.specs.Prelude.{if◌then◌else◌, ◌&&◌, ◌||◌, not, ◌==◌}
use Rattle.std.proofs.lemmas.Bool.{false≢true, and_parts}
use Rattle.ix_text.specs.declared.span.Span.{Span}
use Rattle.ix_num.specs.declared.arith.Arith.{Arith}
use Rattle.ix_num.specs.declared.rel.Rel.{Rel}
use Rattle.ix_core.specs.declared.claim.Base.{Base}
use Rattle.ix_core.specs.declared.claim.Base.TheVariants as base
use Rattle.ix_core.specs.declared.claim.Claim.{Claim}
use Rattle.ix_core.specs.declared.claim.Type_.{Type_}
use Rattle.ix_core.specs.declared.claim.Type_.TheVariants as type
use Rattle.ix_core.specs.declared.op.OpKind.TheVariants as op
use Rattle.ix_core.specs.declared.op.Test.{Test}
use Rattle.ix_core.specs.declared.op.UnaryNum.{UnaryNum}
use Rattle.ix_core.specs.declared.op.UnaryNum.TheVariants as unary
use Rattle.ix_core.specs.Code.{block_code, cond_code}
use Rattle.ix_core.specs.Formed.{Ways, condition_ways, is_straight, is_straight_condition, is_slot, is_target, is_class_in, is_class_at, operand_fits, reads, super_calls_in}
use Rattle.ix_core.specs.Types.{Point, int_type, bool_type, meeting, is_type, is_of, is_reference_type}
use Rattle.ix_core.proofs.Translated.{cond_code-Compare, cond_code-Both, cond_code-Either, cond_code-Opposite}
use Rattle.ix_tree.specs.declared.expr.BinaryOp.{BinaryOp}
use Rattle.ix_tree.specs.declared.expr.BinaryOp.TheVariants as binary
use Rattle.ix_tree.specs.declared.expr.UnaryOp.{UnaryOp}
use Rattle.ix_tree.specs.declared.expr.UnaryOp.TheVariants as operator
use Rattle.ix_meaning.specs.declared.note.Rule.TheVariants as rule
use Rattle.ix_meaning.specs.Rules as rules
use Rattle.ix_meaning.specs.Types as types
use Rattle.ix_meaning.specs.Types.{need_like, of, judged}
use Rattle.ix_meaning.specs.Values as reading
use Rattle.ix_meaning.specs.Values.{Reading, check, null_at, valued}
use Rattle.ix_plain.specs.declared.made.Made.{Made}
use Rattle.ix_plain.specs.Scope.{type_at, or_void}
use Rattle.ix_plain.specs.Parts.{empty, block, computed}
use Rattle.ix_plain.specs.Values as values
use Rattle.ix_plain.specs.Values.{Lowering}
use Rattle.ix_formed.specs.Additions.{Makes}
use Rattle.ix_formed.specs.Points.{Known}
use Rattle.ix_formed.specs.Typed.{Gives, Holds, Tests, Setting, Told, IsSet, IsResult, Stands, Ready, Yields, Fits}
use Rattle.ix_formed.proofs.NumberLists.{both_true}
use Rattle.ix_formed.proofs.PlainItems.{makes_then, plain_block, plain_supers}
use Rattle.ix_formed.proofs.SameTypes.{of_int, reference_real, primitive_real, same_is, primitive_same}
use Rattle.ix_formed.proofs.TypedChecks.{parted, kept, noted, check_fits, condition_fits, block_leads, block_straight, computes_fits, asks_fits, lowering_at, reading_at}
use Rattle.ix_formed.proofs.TypedNames.{new_target, there_is}
use Rattle.ix_formed.proofs.TypedPoints.{keeps_both, meeting_keeps, reads_known}
use Rattle.ix_formed.proofs.TypedSteps.{differs, steps_both, then_value, op_given, reads_held, holds_on, holds_up, stands_on, ready_on}

module _ (z : Setting) (set : IsSet z) where
  -- an int where an int is needed
  pub int_checked : (l : Lowering) (r : Reading) → Fits z l r → Told z (check r z.names (of int_type)).notes → Yields z int_type l.value
  int_checked l r f said = let c = check_fits z set l r f int_type refl said in subst (λ t. Yields z t l.value) (of_int z.program c.ty c.fits) c.yields

  -- ---- arithmetic

  pub num_yields : (arith_op : Arith) (span : Span) (made : Made) (point : Point) (left right : ℕ) → Ready z made point → left < made.free → right < made.free → Holds z.program point left int_type → Holds z.program point right int_type
      → Makes (Gives z.program z.method z.locals z.fixed z.avoided made point int_type) (computed made (op.Num made.free arith_op left right) span)
  num_yields arith_op span made point left right ready low_left low_right known_left known_right =
      op_given z set made point ready (record { kind = op.Num made.free arith_op left right; span = span; parts = [] }) int_type refl refl
      (λ lt.
      let first = reads_held z.program z.method z.locals z.fixed point left made.free int_type low_left (omega (arith, lt)) known_left in
      let second = reads_held z.program z.method z.locals z.fixed point right made.free int_type low_right (omega (arith, lt)) known_right in
      both_true (reads z.program z.method point left int_type) _ first (both_true (reads z.program z.method point right int_type) _ second
      (both_true (is_target z.program z.method made.free) _ (new_target z set made point ready lt)
      (both_true (not (made.free == left)) _ (differs made.free left low_left) (both_true (not (made.free == right)) true (differs made.free right low_right) refl)))))

  arithmetic_yields : (arith_op : Arith) (left right : Lowering) (span : Span) → Yields z int_type left.value → Yields z int_type right.value → Yields z int_type (values.arithmetic arith_op left right span).value
  arithmetic_yields arith_op left right span a b made point ready =
      then_value z.program z.method z.locals z.fixed z.avoided made point int_type int_type (left.value z.scope made) _ (a made point ready)
      (λ y g. then_value z.program z.method z.locals z.fixed z.avoided y.made g.behind int_type int_type (right.value z.scope y.made) _ (b y.made g.behind (ready_on z set made point y.made g.behind ready g.steps))
      (λ v h. num_yields arith_op span v.made h.behind y.slot v.slot (ready_on z set y.made g.behind v.made h.behind (ready_on z set made point y.made g.behind ready g.steps) h.steps)
      (let low = g.low in let up = h.steps.up in omega (arith, low, up)) h.low (holds_on z.program y.made.free g.behind h.behind y.slot int_type g.low h.steps.keeps (g.holds refl)) (h.holds refl)))

  with_one_yields : (operator : UnaryNum) (operand : Lowering) (span : Span) → Yields z int_type operand.value → Yields z int_type (values.with_one operator operand span).value
  with_one_yields operator operand span a made point ready =
      then_value z.program z.method z.locals z.fixed z.avoided made point int_type int_type (operand.value z.scope made) _ (a made point ready)
      (λ y g. op_given z set y.made g.behind (ready_on z set made point y.made g.behind ready g.steps) (record { kind = op.Unary y.made.free operator y.slot; span = span; parts = [] }) int_type refl refl
      (λ lt.
      let read = reads_held z.program z.method z.locals z.fixed g.behind y.slot y.made.free int_type g.low (omega (arith, lt)) (g.holds refl) in
      both_true (reads z.program z.method g.behind y.slot int_type) _ read
      (both_true (is_target z.program z.method y.made.free) _ (new_target z set y.made g.behind (ready_on z set made point y.made g.behind ready g.steps) lt) (both_true (not (y.made.free == y.slot)) true (differs y.made.free y.slot g.low) refl))))

  -- ---- conditions

  both_tests : (left right : Lowering) (free : ℕ) (point : Point) → z.base ≤ free → Stands z point
      → ((free : ℕ) (point : Point) → z.base ≤ free → Stands z point → Makes (Tests z.program z.method z.locals z.fixed free point) (left.condition z.scope free))
      → ((free : ℕ) (point : Point) → z.base ≤ free → Stands z point → Makes (Tests z.program z.method z.locals z.fixed free point) (right.condition z.scope free))
      → Makes (Tests z.program z.method z.locals z.fixed free point) (values.both left right z.scope free)
  both_tests left right free point le stands a b =
      makes_then (Tests z.program z.method z.locals z.fixed free point) (Tests z.program z.method z.locals z.fixed free point) (left.condition z.scope free) _ (a free point le stands)
      (λ c s. makes_then (Tests z.program z.method z.locals z.fixed c.free s.holds) (Tests z.program z.method z.locals z.fixed free point) (right.condition z.scope c.free) _
      (b c.free s.holds (let up = s.up in omega (arith, le, up)) (stands_on z set free point s.holds le s.keeps_holds stands))
      (λ d t.
      let is = cond_code-Both c.cond d.cond in
      record {
        holds = t.holds;
        fails = meeting s.fails t.fails;
        up = let up = s.up in let more = t.up in omega (arith, up, more);
        plain = record {
          straight = ap is_straight_condition is ∙ both_true (is_straight_condition (cond_code c.cond)) _ s.plain.straight t.plain.straight;
          supers = ap super_calls_in is ∙ (let x = s.plain.supers in let y = t.plain.supers in omega (arith, x, y));
        };
        decides = λ now le.
            let first = s.decides now (let more = t.up in omega (arith, more, le)) in
            let second = t.decides now le in
            let w = condition_ways z.program z.method z.locals in
            record {
              fits = ap (λ k. (w k point).fits) is ∙ both_true (w (cond_code c.cond) point).fits _ first.fits (ap (λ q. (w (cond_code d.cond) q).fits) first.true_at ∙ second.fits);
              true_at = ap (λ k. (w k point).holds) is ∙ ap (λ q. (w (cond_code d.cond) q).holds) first.true_at ∙ second.true_at;
              false_at = ap (λ k. (w k point).fails) is ∙ ap (λ q. meeting (w (cond_code c.cond) point).fails (w (cond_code d.cond) q).fails) first.true_at
                  ∙ ap (λ q. meeting q (w (cond_code d.cond) s.holds).fails) first.false_at ∙ ap (meeting s.fails) second.false_at;
            };
        keeps_holds = keeps_both free c.free point s.holds t.holds s.up s.keeps_holds t.keeps_holds;
        keeps_fails = meeting_keeps free point s.fails t.fails s.keeps_fails (keeps_both free c.free point s.holds t.fails s.up s.keeps_holds t.keeps_fails);
      }))

  either_tests : (left right : Lowering) (free : ℕ) (point : Point) → z.base ≤ free → Stands z point
      → ((free : ℕ) (point : Point) → z.base ≤ free → Stands z point → Makes (Tests z.program z.method z.locals z.fixed free point) (left.condition z.scope free))
      → ((free : ℕ) (point : Point) → z.base ≤ free → Stands z point → Makes (Tests z.program z.method z.locals z.fixed free point) (right.condition z.scope free))
      → Makes (Tests z.program z.method z.locals z.fixed free point) (values.either left right z.scope free)
  either_tests left right free point le stands a b =
      makes_then (Tests z.program z.method z.locals z.fixed free point) (Tests z.program z.method z.locals z.fixed free point) (left.condition z.scope free) _ (a free point le stands)
      (λ c s. makes_then (Tests z.program z.method z.locals z.fixed c.free s.fails) (Tests z.program z.method z.locals z.fixed free point) (right.condition z.scope c.free) _
      (b c.free s.fails (let up = s.up in omega (arith, le, up)) (stands_on z set free point s.fails le s.keeps_fails stands))
      (λ d t.
      let is = cond_code-Either c.cond d.cond in
      record {
        holds = meeting s.holds t.holds;
        fails = t.fails;
        up = let up = s.up in let more = t.up in omega (arith, up, more);
        plain = record {
          straight = ap is_straight_condition is ∙ both_true (is_straight_condition (cond_code c.cond)) _ s.plain.straight t.plain.straight;
          supers = ap super_calls_in is ∙ (let x = s.plain.supers in let y = t.plain.supers in omega (arith, x, y));
        };
        decides = λ now le.
            let first = s.decides now (let more = t.up in omega (arith, more, le)) in
            let second = t.decides now le in
            let w = condition_ways z.program z.method z.locals in
            record {
              fits = ap (λ k. (w k point).fits) is ∙ both_true (w (cond_code c.cond) point).fits _ first.fits (ap (λ q. (w (cond_code d.cond) q).fits) first.false_at ∙ second.fits);
              true_at = ap (λ k. (w k point).holds) is ∙ ap (λ q. meeting (w (cond_code c.cond) point).holds (w (cond_code d.cond) q).holds) first.false_at
                  ∙ ap (λ q. meeting q (w (cond_code d.cond) s.fails).holds) first.true_at ∙ ap (meeting s.holds) second.true_at;
              false_at = ap (λ k. (w k point).fails) is ∙ ap (λ q. (w (cond_code d.cond) q).fails) first.false_at ∙ second.false_at;
            };
        keeps_holds = meeting_keeps free point s.holds t.holds s.keeps_holds (keeps_both free c.free point s.fails t.holds s.up s.keeps_fails t.keeps_holds);
        keeps_fails = keeps_both free c.free point s.fails t.fails s.up s.keeps_fails t.keeps_fails;
      }))

  opposite_tests : (operand : Lowering) (free : ℕ) (point : Point) → z.base ≤ free → Stands z point
      → ((free : ℕ) (point : Point) → z.base ≤ free → Stands z point → Makes (Tests z.program z.method z.locals z.fixed free point) (operand.condition z.scope free))
      → Makes (Tests z.program z.method z.locals z.fixed free point) (values.opposite operand z.scope free)
  opposite_tests operand free point le stands a =
      makes_then (Tests z.program z.method z.locals z.fixed free point) (Tests z.program z.method z.locals z.fixed free point) (operand.condition z.scope free) _ (a free point le stands)
      (λ c s.
      let is = cond_code-Opposite c.cond in
      record {
        holds = s.fails;
        fails = s.holds;
        up = s.up;
        plain = record { straight = ap is_straight_condition is ∙ s.plain.straight; supers = ap super_calls_in is ∙ s.plain.supers };
        decides = λ now le.
            let first = s.decides now le in
            let w = condition_ways z.program z.method z.locals in
            record { fits = ap (λ k. (w k point).fits) is ∙ first.fits; true_at = ap (λ k. (w k point).holds) is ∙ first.false_at; false_at = ap (λ k. (w k point).fails) is ∙ first.true_at };
        keeps_holds = s.keeps_fails;
        keeps_fails = s.keeps_holds;
      })

  -- ---- comparisons

  -- a value that may stand in a test of values of that type
  abbrev pub MayStand : Type_ → Type_ → Type 0
  MayStand ty tested = (slot : ℕ) (point : Point) → slot < z.method.slots → Holds z.program point slot ty → operand_fits z.program z.method point slot tested ≡ true

  compared_tests : (r : Rel) (left right : Lowering) (one other : Type_) → Yields z one left.value → Yields z other right.value → is_type z.program one ≡ true → is_type z.program other ≡ true
      → z.scope.site.names.type_of left.span ≡ Some one → MayStand one one → MayStand other one → (free : ℕ) (point : Point) → z.base ≤ free → Stands z point
      → Makes (Tests z.program z.method z.locals z.fixed free point) (values.compared r left right z.scope free)
  compared_tests r left right one other a b real_one real_other table stand_one stand_other free point le stands =
      makes_then (Gives z.program z.method z.locals z.fixed z.avoided (empty free) point one) (Tests z.program z.method z.locals z.fixed free point) (left.value z.scope (empty free)) _ (a (empty free) point (le, stands))
      (λ y g. makes_then (Gives z.program z.method z.locals z.fixed z.avoided y.made g.behind other) (Tests z.program z.method z.locals z.fixed free point) (right.value z.scope y.made) _
      (b y.made g.behind (ready_on z set (empty free) point y.made g.behind (le, stands) g.steps))
      (λ v h.
      let steps = steps_both z.program z.method z.locals z.fixed (empty free) point y.made g.behind v.made h.behind g.steps h.steps in
      let test : Test = record { rel = r; left = y.slot; right = v.slot; ty = type_at z.scope left.span; left_span = left.span; right_span = right.span } in
      let is = cond_code-Compare (block v.made) test in
      let plain = block_straight z.program z.method z.locals z.fixed free point v.made h.behind steps in
      let same : type_at z.scope left.span ≡ one = ap or_void table in
      record {
        holds = h.behind;
        fails = h.behind;
        up = steps.up;
        plain = record { straight = ap is_straight_condition is ∙ plain_block v.made.items plain; supers = ap super_calls_in is ∙ plain_supers v.made.items plain };
        decides = λ now le.
            let leads = block_leads z.program z.method z.locals z.fixed free point v.made h.behind steps now le in
            let straight = plain_block v.made.items plain in
            let low_left : y.slot < z.method.slots = (let x = g.low in let u = h.steps.up in omega (arith, x, u, le)) in
            let low_right : v.slot < z.method.slots = (let x = h.low in omega (arith, x, le)) in
            let first : operand_fits z.program z.method h.behind y.slot (type_at z.scope left.span) ≡ true =
            ap (operand_fits z.program z.method h.behind y.slot) same ∙ stand_one y.slot h.behind low_left (holds_on z.program y.made.free g.behind h.behind y.slot one g.low h.steps.keeps (g.holds real_one)) in
            let second : operand_fits z.program z.method h.behind v.slot (type_at z.scope left.span) ≡ true =
            ap (operand_fits z.program z.method h.behind v.slot) same ∙ stand_other v.slot h.behind low_right (h.holds real_other) in
            record {
              fits = ap (λ c. (condition_ways z.program z.method z.locals c point).fits) is
                  ∙ ap (λ (w : Ways). is_straight (block_code (block v.made)) && (w.fits && (operand_fits z.program z.method w.ends y.slot (type_at z.scope left.span)
                  && operand_fits z.program z.method w.ends v.slot (type_at z.scope left.span)))) leads
                  ∙ both_true (is_straight (block_code (block v.made))) _ straight (both_true (operand_fits z.program z.method h.behind y.slot (type_at z.scope left.span)) _ first second);
              true_at = ap (λ c. (condition_ways z.program z.method z.locals c point).holds) is ∙ ap (λ (w : Ways). w.ends) leads;
              false_at = ap (λ c. (condition_ways z.program z.method z.locals c point).fails) is ∙ ap (λ (w : Ways). w.ends) leads;
            };
        keeps_holds = steps.keeps;
        keeps_fails = steps.keeps;
      }))

  slot_is : (slot : ℕ) → slot < z.method.slots → is_slot z.program z.method slot ≡ true
  slot_is slot lt = there_is slot z.method.slots lt

  held_stands : (ty : Type_) (slot : ℕ) (point : Point) → slot < z.method.slots → Holds z.program point slot ty → reads z.program z.method point slot ty ≡ true
  held_stands ty slot point lt h = reads_known z.program z.method z.locals point slot h.held ty lt h.known h.fits

  -- an object of any class
  object_stands : (class other : ℕ) → MayStand (type.Plain (base.Class class)) (type.Plain (base.Class other))
  object_stands class other slot point lt h = both_true (is_slot z.program z.method slot) _ (slot_is slot lt) (by_held h.held h.fits h.known)
    where
      by_point : (c : ℕ) (point : Point) → Known point slot (type.Plain (base.Class c)) → is_class_at point slot ≡ true
      by_point c None known = refl
      by_point c (Some types) known = ap is_class_in known

      by_held : (t : Type_) → is_of z.program t (type.Plain (base.Class class)) ≡ true → Known point slot t → is_class_at point slot ≡ true
      by_held type.Void is known = absurd (false≢true is)
      by_held (type.Plain base.Int) is known = absurd (false≢true is)
      by_held (type.Plain base.Bool) is known = absurd (false≢true is)
      by_held (type.Plain (base.Class c)) is known = by_point c point known
      by_held (type.Array b depth claims) is known = absurd (false≢true is)

  -- a value of the tested type
  pub same_stands : (ty : Type_) → is_type z.program ty ≡ true → MayStand ty ty
  same_stands type.Void real = absurd (false≢true real)
  same_stands (type.Plain base.Int) real = held_stands int_type
  same_stands (type.Plain base.Bool) real = held_stands bool_type
  same_stands (type.Plain (base.Class class)) real = object_stands class class
  same_stands (type.Array b depth claims) real = held_stands (type.Array b depth claims)

  -- a value of a type below the tested one, or above it
  pub below_stands : (ty other : Type_) → is_type z.program other ≡ true → is_of z.program ty other ≡ true → MayStand ty other
  below_stands ty other real below slot point lt h = same_stands other real slot point lt (holds_up z set point slot ty other h below)

  array_stands : (ty : Type_) (b : Base) (depth : ℕ) (claims : List Claim) → is_of z.program (type.Array b depth claims) ty ≡ true → MayStand ty (type.Array b depth claims)
  array_stands ty b depth claims above slot point lt h =
      let same : type.Array b depth claims ≡ ty = same_is (type.Array b depth claims) ty above in
      held_stands (type.Array b depth claims) slot point lt (subst (λ t. Holds z.program point slot t) (sym same) h)

  pub above_stands : (ty other : Type_) → is_of z.program other ty ≡ true → is_reference_type other ≡ true → MayStand ty other
  above_stands (type.Plain (base.Class class)) (type.Plain (base.Class other)) above reference = object_stands class other
  above_stands ty (type.Array b depth claims) above reference = array_stands ty b depth claims above
  above_stands _ (type.Plain (base.Class other)) above reference = absurd (false≢true above)
  above_stands ty (type.Plain base.Int) above reference = absurd (false≢true reference)
  above_stands ty (type.Plain base.Bool) above reference = absurd (false≢true reference)
  above_stands ty type.Void above reference = absurd (false≢true reference)

  -- two ints
  ordered_tests : (r : Rel) (l m : Lowering) (a b : Reading) → Fits z l a → Fits z m b → Told z (check a z.names (of int_type)).notes → Told z (check b z.names (of int_type)).notes → (free : ℕ) (point : Point) → z.base ≤ free
      → Stands z point → Makes (Tests z.program z.method z.locals z.fixed free point) (values.compared r l m z.scope free)
  ordered_tests r l m a b f g one other =
      let c = check_fits z set l a f int_type refl one in
      let ints : z.scope.site.names.type_of l.span ≡ Some int_type = ap z.scope.site.names.type_of f.same ∙ c.table ∙ ap (λ t. Some t) (of_int z.program c.ty c.fits) in
      compared_tests r l m int_type int_type (int_checked l a f one) (int_checked m b g other) refl refl ints (same_stands int_type refl) (same_stands int_type refl)

  -- two values of which each may be the other
  module _ (r : Rel) (l m : Lowering) (a b : Reading) (f : Fits z l a) (g : Fits z m b) (span : Span) where
    abbrev Equal : Type 0
    Equal = (free : ℕ) (point : Point) → z.base ≤ free → Stands z point → Makes (Tests z.program z.method z.locals z.fixed free point) (values.compared r l m z.scope free)

    -- a `null` beside a reference
    null_is : (n : Lowering) (c : Reading) → Fits z n c → c.is_null ≡ true → (ty : Type_) → IsResult z.program ty → Told z (null_at (of ty) c.span).notes
        → (is_type z.program ty ≡ true) × (z.scope.site.names.type_of n.span ≡ Some ty) × Yields z ty n.value
    null_is n c h null ty result said =
        let q = parted z (rules.null_mismatch (of ty) c.span) (types.type_note (reading.null_type (of ty)) c.span) said in
        let is = kept z (types.is_reference ty) rule.TypeMismatch c.span q.0 in
        let real = reference_real z.program ty result is in
        let table = noted z (reading.null_type (of ty)) ty c.span (ap (λ b. if b then Some ty else None) is) q.1 in
        (real.0, ap z.scope.site.names.type_of h.same ∙ table, h.null null ty real.1 real.0 table)

    or_case : {G : Type 0} (x y : Bool) → (x || y) ≡ true → (x ≡ true → G) → (y ≡ true → G) → G
    or_case true y e one other = one refl
    or_case false y e one other = other e

    both_values : Told z (a.judge z.names).notes → Told z (b.judge z.names).notes → Told z (rules.cannot_compare z.names.world (a.judge z.names).ty (b.judge z.names).ty span) → Equal
    both_values one other said =
        let x = f.value one in
        let y = g.value other in
        let table : z.scope.site.names.type_of l.span ≡ Some x.ty = ap z.scope.site.names.type_of f.same ∙ x.table in
        let first = subst (λ o. Told z (rules.cannot_compare z.names.world o (b.judge z.names).ty span)) x.typed said in
        let second = subst (λ o. Told z (rules.cannot_compare z.names.world (Some x.ty) o span)) y.typed first in
        let can = kept z (types.can_compare z.names.world.supers x.ty y.ty) rule.TypeMismatch span second in
        or_case (types.is_primitive x.ty && types.same_type x.ty y.ty) ((types.is_reference x.ty && types.is_reference y.ty) && (types.fits z.names.world.supers x.ty y.ty || types.fits z.names.world.supers y.ty x.ty)) can
        (λ e.
        let q = and_parts (types.is_primitive x.ty) (types.same_type x.ty y.ty) e in
        let same : y.ty ≡ x.ty = sym (primitive_same x.ty y.ty q.0 q.1) in
        let real = primitive_real z.program x.ty x.of_type q.0 in
        compared_tests r l m x.ty x.ty x.yields (subst (λ t. Yields z t m.value) same y.yields) real real table (same_stands x.ty real) (same_stands x.ty real))
        (λ e.
        let q = and_parts (types.is_reference x.ty && types.is_reference y.ty) _ e in
        let w = and_parts (types.is_reference x.ty) (types.is_reference y.ty) q.0 in
        let real_x = reference_real z.program x.ty x.of_type w.0 in
        let real_y = reference_real z.program y.ty y.of_type w.1 in
        let stands : MayStand y.ty x.ty = or_case (types.fits z.names.world.supers x.ty y.ty) (types.fits z.names.world.supers y.ty x.ty) q.1
        (λ up. above_stands y.ty x.ty (set.members.fitting x.ty y.ty real_x.0 up) real_x.1)
        (λ down. below_stands y.ty x.ty real_x.0 (set.members.fitting y.ty x.ty real_y.0 down)) in
        compared_tests r l m x.ty y.ty x.yields y.yields real_x.0 real_y.0 table (same_stands x.ty real_x.0) stands)

    equal_tests : Told z (reading.equality a b z.names span).notes → Equal
    equal_tests said = by_null a.is_null b.is_null refl refl said
      where
        by_null : (one other : Bool) → a.is_null ≡ one → b.is_null ≡ other
            → Told z ((if one then judged None [] else a.judge z.names).notes ++ ((if other then judged None [] else b.judge z.names).notes
            ++ (if one then (if other then types.wrong rule.TypeMismatch a.span ++ types.wrong rule.TypeMismatch b.span else (null_at (need_like (if other then judged None [] else b.judge z.names).ty) a.span).notes)
            else (if other then (null_at (need_like (if one then judged None [] else a.judge z.names).ty) b.span).notes
            else rules.cannot_compare z.names.world (if one then judged None [] else a.judge z.names).ty (if other then judged None [] else b.judge z.names).ty span))))
            → Equal
        by_null true true e h said = absurd said.0
        by_null true false e h said =
            let q = parted z (b.judge z.names).notes _ said in
            let y = g.value q.0 in
            let n = null_is l a f e y.ty y.of_type (subst (λ o. Told z (null_at (need_like o) a.span).notes) y.typed q.1) in
            compared_tests r l m y.ty y.ty n.2 y.yields n.0 n.0 n.1 (same_stands y.ty n.0) (same_stands y.ty n.0)
        by_null false true e h said =
            let q = parted z (a.judge z.names).notes _ said in
            let x = f.value q.0 in
            let n = null_is m b g h x.ty x.of_type (subst (λ o. Told z (null_at (need_like o) b.span).notes) x.typed q.1) in
            let table : z.scope.site.names.type_of l.span ≡ Some x.ty = ap z.scope.site.names.type_of f.same ∙ x.table in
            compared_tests r l m x.ty x.ty x.yields n.2 n.0 n.0 table (same_stands x.ty n.0) (same_stands x.ty n.0)
        by_null false false e h said =
            let q = parted z (a.judge z.names).notes _ said in
            let w = parted z (b.judge z.names).notes _ q.1 in
            both_values q.0 w.0 w.1

  -- ---- all operators

  -- an operator with one operand
  pub unary_fits : (o : UnaryOp) (l : Lowering) (a : Reading) (span : Span) → Fits z l a → Fits z (lowering_at z set (values.unary_of o l span) span) (reading_at z set (valued (λ s p. reading.unary o a s)) span)
  unary_fits operator.Plus l a span f = computes_fits z set span (valued (λ s p. reading.unary operator.Plus a s)) (λ scope made. l.value scope made) refl refl (λ s at. refl)
      (λ said table. record { ty = int_type; typed = refl; of_type = refl; yields = int_checked l a f said })
  unary_fits operator.Minus l a span f = computes_fits z set span (valued (λ s p. reading.unary operator.Minus a s)) (values.with_one unary.Neg l span).value refl refl (λ s at. refl)
      (λ said table. record { ty = int_type; typed = refl; of_type = refl; yields = with_one_yields unary.Neg l span (int_checked l a f said) })
  unary_fits operator.Flip l a span f = computes_fits z set span (valued (λ s p. reading.unary operator.Flip a s)) (values.with_one unary.Flip l span).value refl refl (λ s at. refl)
      (λ said table. record { ty = int_type; typed = refl; of_type = refl; yields = with_one_yields unary.Flip l span (int_checked l a f said) })
  unary_fits operator.Not l a span f = asks_fits z set span (valued (λ s p. reading.unary operator.Not a s)) (values.opposite l) refl refl (λ s at. refl) refl
      (λ said free point le stands. opposite_tests l free point le stands (condition_fits z set l a f said))

  -- and with two
  pub binary_fits : (o : BinaryOp) (l m : Lowering) (a b : Reading) (span : Span) → Fits z l a → Fits z m b
      → Fits z (lowering_at z set (values.binary_of o l m span) span) (reading_at z set (valued (λ s p. reading.binary o a b s p)) span)
  binary_fits (binary.Num arith_op) l m a b span f g =
      computes_fits z set span (valued (λ s p. reading.binary (binary.Num arith_op) a b s p)) (values.arithmetic arith_op l m span).value refl refl (λ s at. refl)
      (λ said table. let q = parted z (check a z.names (of int_type)).notes (check b z.names (of int_type)).notes said in
      record { ty = int_type; typed = refl; of_type = refl; yields = arithmetic_yields arith_op l m span (int_checked l a f q.0) (int_checked m b g q.1) })
  binary_fits (binary.Compare r) l m a b span f g =
      asks_fits z set span (valued (λ s p. reading.binary (binary.Compare r) a b s p)) (values.compared r l m) refl refl (λ s at. refl) (typed (reading.is_equality r)) (λ said. tests (reading.is_equality r) said)
    where
      typed : (e : Bool) → (if e then reading.equality a b z.names span else reading.both a b z.names (of int_type) types.boolean).ty ≡ Some bool_type
      typed true = refl
      typed false = refl

      tests : (e : Bool) → Told z (if e then reading.equality a b z.names span else reading.both a b z.names (of int_type) types.boolean).notes → (free : ℕ) (point : Point) → z.base ≤ free → Stands z point
          → Makes (Tests z.program z.method z.locals z.fixed free point) (values.compared r l m z.scope free)
      tests true said = equal_tests r l m a b f g span said
      tests false said = let q = parted z (check a z.names (of int_type)).notes (check b z.names (of int_type)).notes said in ordered_tests r l m a b f g q.0 q.1
  binary_fits binary.AndAlso l m a b span f g = asks_fits z set span (valued (λ s p. reading.binary binary.AndAlso a b s p)) (values.both l m) refl refl (λ s at. refl) refl
      (λ said free point le stands. let q = parted z (check a z.names (of bool_type)).notes (check b z.names (of bool_type)).notes said in
      both_tests l m free point le stands (condition_fits z set l a f q.0) (condition_fits z set m b g q.1))
  binary_fits binary.OrElse l m a b span f g = asks_fits z set span (valued (λ s p. reading.binary binary.OrElse a b s p)) (values.either l m) refl refl (λ s at. refl) refl
      (λ said free point le stands. let q = parted z (check a z.names (of bool_type)).notes (check b z.names (of bool_type)).notes said in
      either_tests l m free point le stands (condition_fits z set l a f q.0) (condition_fits z set m b g q.1))
