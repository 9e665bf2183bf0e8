-- Assignments write values of their target's type, and give them.
use Rattle.std.proofs.Common.{◌≡◌, ◌≤◌, ◌<◌, ℕ, ◌+◌, pos, Bool, true, false, [], ◌∷◌, length, Some, None, refl, sym, ap, subst, ◌∙◌, arith}
use Rattle.std.specs.Prelude.{if◌then◌else◌, not, nat_lt, ◌==◌, unwrap_or}
use Rattle.std.proofs.lemmas.Bool.{false≢true}
use Rattle.std.proofs.lemmas.Bool.Decides.{nat_tests}
use Rattle.ix_text.specs.declared.span.Span.{Span}
use Rattle.ix_num.specs.declared.arith.Arith.{Arith}
use Rattle.ix_num.specs.declared.arith.Arith.TheVariants.{Add, Sub}
use Rattle.ix_core.specs.declared.claim.Type_.{Type_}
use Rattle.ix_core.specs.declared.op.OpKind.TheVariants as op
use Rattle.ix_core.specs.Formed.{assigned, is_there, is_slot, reads, variable_type, copy_fits, field_fits, may_be_written}
use Rattle.ix_core.specs.Tables.{field_at, param_slot}
use Rattle.ix_core.specs.Types.{Point, int_type, class_type, cell_type, is_of, is_array}
use Rattle.ix_core.proofs.Cases.{by_test, equal}
use Rattle.ix_meaning.specs.declared.note.Rule.TheVariants as rule
use Rattle.ix_meaning.specs.Rules as rules
use Rattle.ix_meaning.specs.Types as types
use Rattle.ix_meaning.specs.Types.{need_like, of}
use Rattle.ix_meaning.specs.Values as reading
use Rattle.ix_meaning.specs.Values.{Reading, check, valued}
use Rattle.ix_plain.specs.declared.made.Made.{Made}
use Rattle.ix_plain.specs.declared.made.Spot.{Spot}
use Rattle.ix_plain.specs.declared.made.Spot.TheVariants as spot
use Rattle.ix_plain.specs.Scope.{type_at, or_void, is_among}
use Rattle.ix_plain.specs.Parts.{◌>>=◌, Value, Target, with_item, in_place, computed, read, write}
use Rattle.ix_plain.specs.Values as values
use Rattle.ix_plain.specs.Values.{Lowering, int_value}
use Rattle.ix_formed.specs.Additions.{Makes}
use Rattle.ix_formed.specs.Points.{Known, Keeps}
use Rattle.ix_formed.specs.Typed.{Steps, Gives, Holds, Setting, Told, IsSet, Ready, Yields, SpotIs, Aims, Assigns, Fits, FitsTarget}
use Rattle.ix_formed.proofs.NumberLists.{both_true}
use Rattle.ix_formed.proofs.PlainItems.{makes_then}
use Rattle.ix_formed.proofs.SameTypes.{of_int, real_result}
use Rattle.ix_formed.proofs.TypedChecks.{parted, kept, Checked, check_fits, computes_fits, lowering_at, reading_at}
use Rattle.ix_formed.proofs.TypedNames.{there_is, int_yields, field_yields, copied}
use Rattle.ix_formed.proofs.TypedArrays.{load_yields}
use Rattle.ix_formed.proofs.TypedOperators.{int_checked, num_yields}
use Rattle.ix_formed.proofs.TypedPoints.{keeps_none, assigned_keeps}
use Rattle.ix_formed.proofs.TypedSteps.{steps_both, op_steps, reads_held, holds_on, holds_up, ready_on}

module _ (z : Setting) (set : IsSet z) where
  -- a spot stays one where slots keep their types
  pub spot_on : (before after : Point) (free more : ℕ) (ty : Type_) (s : Spot) → z.base ≤ free → free ≤ more → Keeps free before after → SpotIs z before free ty s → SpotIs z after more ty s
  spot_on before after free more ty (spot.Variable slot) base le keeps is = (is.0, keeps slot (let low = is.0.low in omega (arith, low, base)) ty is.1, is.2)
  spot_on before after free more ty (spot.FieldOf object field) base le keeps is =
      ((let low = is.0 in omega (arith, low, le)), is.1, is.2, is.3, holds_on z.program free before after object (class_type (field_at z.program field).class) is.0 keeps is.4)
  spot_on before after free more ty (spot.Cell array index array_type at) base le keeps is = (
    (let low = is.0 in omega (arith, low, le)),
    (let low = is.1 in omega (arith, low, le)),
    is.2,
    holds_on z.program free before after array array_type is.0 keeps is.3,
    holds_on z.program free before after index int_type is.1 keeps is.4,
    is.5,
  )

  most_is : (count most : ℕ) → count ≤ most → nat_lt count (most + 1) ≡ true
  most_is count most le = grind (arith, nat_tests)

  -- what is behind a write
  abbrev pub behind_write : Spot → Type_ → Point → Point
  behind_write (spot.Variable slot) ty point = assigned slot ty point
  behind_write _ ty point = point

  variable_keeps : (slot : ℕ) (ty : Type_) (point : Point) (free : ℕ) → Known point slot ty → Keeps free point (assigned slot ty point)
  variable_keeps slot ty None free is other lt t known = tt
  variable_keeps slot ty (Some types) free is other lt t known = assigned_keeps slot ty (Some types) other t (λ same. (let e : Some t ≡ Some ty = sym known ∙ ap types same ∙ is in some_is t ty e)) known
    where
      some_is : (x y : Type_) → Some x ≡ Some y → x ≡ y
      some_is x y e = cc

  write_keeps : (s : Spot) (ty : Type_) (point : Point) (free : ℕ) → SpotIs z point free ty s → Keeps free point (behind_write s ty point)
  write_keeps (spot.Variable slot) ty point free is = variable_keeps slot ty point free is.1
  write_keeps (spot.FieldOf object field) ty point free is = keeps_none free point
  write_keeps (spot.Cell array index array_type at) ty point free is = keeps_none free point

  -- a slot that is avoided, and one that isn't
  apart_is : (one other : ℕ) → is_among one z.avoided ≡ true → is_among other z.avoided ≡ false → not (one == other) ≡ true
  apart_is one other there none =
      by_test (one == other) (λ t. absurd (false≢true (sym none ∙ ap (λ n. is_among n z.avoided) (sym (equal one other t)) ∙ there))) (λ f. ap not f)

  -- a value of the type is written, at a place in the full expression
  pub write_steps : (s : Spot) (ty from_ty : Type_) (slot : ℕ) (made : Made) (point : Point) (whole target from : Span) → z.here whole → Ready z made point → SpotIs z point made.free ty s → slot < made.free
      → is_among slot z.avoided ≡ false → Holds z.program point slot from_ty → is_of z.program from_ty ty ≡ true
      → Steps z.program z.method z.locals z.fixed made point (with_item made (write s slot from_ty whole target from)) (behind_write s ty point)
  write_steps (spot.Variable variable) ty from_ty slot made point whole target from here ready is low apart held below =
      let declared : z.fixed → variable_type z.program z.method z.locals variable whole ≡ Some ty = λ now. is.0.declared now whole here in
      op_steps z.program z.method z.locals z.fixed made point (assigned variable ty point) (record { kind = op.Copy variable slot from_ty; span = whole; parts = target ∷ from ∷ [] }) refl
      (λ now. ap (λ o. assigned variable (unwrap_or o from_ty) point) (declared now)) (variable_keeps variable ty point made.free is.1)
      (λ now le.
      let read = reads_held z.program z.method z.locals z.fixed point slot made.free from_ty low le held in
      let there : variable < z.method.slots = (let a = is.0.low in let b = ready.0 in omega (arith, a, b, le)) in
      let copy : copy_fits z.program z.method z.locals (variable_type z.program z.method z.locals variable whole) variable slot from_ty (target ∷ from ∷ []) ≡ true =
      ap (λ o. copy_fits z.program z.method z.locals o variable slot from_ty (target ∷ from ∷ [])) (declared now)
      ∙ both_true (is_of z.program from_ty ty) _ below (both_true (is_slot z.program z.method variable) _ (there_is variable z.method.slots there) (most_is (param_slot z.method 0) variable is.0.first)) in
      both_true (reads z.program z.method point slot from_ty) _ read (both_true (not (variable == slot)) _ (apart_is variable slot is.2 apart) copy))
  write_steps (spot.FieldOf object field) ty from_ty slot made point whole target from here ready is low apart held below =
      op_steps z.program z.method z.locals z.fixed made point point (record { kind = op.WriteField object field slot; span = whole; parts = target ∷ from ∷ [] }) refl (λ now. refl) (keeps_none made.free point)
      (λ now le.
      let own = (field_at z.program field).ty in
      let read : reads z.program z.method point slot own ≡ true = ap (reads z.program z.method point slot) is.2 ∙ reads_held z.program z.method z.locals z.fixed point slot made.free ty low le (holds_up z set point slot from_ty ty held below) in
      let object_read = reads_held z.program z.method z.locals z.fixed point object made.free (class_type (field_at z.program field).class) is.0 le is.4 in
      let fit : field_fits z.program z.method point object field ≡ true = both_true (is_there z.program.fields field) _ (there_is field (length z.program.fields) is.1) object_read in
      both_true (field_fits z.program z.method point object field) _ fit (both_true (reads z.program z.method point slot own) _ read (both_true (may_be_written z.program z.method object field) true is.3 refl)))
  write_steps (spot.Cell array index array_type at) ty from_ty slot made point whole target from here ready is low apart held below =
      op_steps z.program z.method z.locals z.fixed made point point (record { kind = op.Store array index slot array_type; span = at; parts = from ∷ [] }) refl (λ now. refl) (keeps_none made.free point)
      (λ now le.
      let read : reads z.program z.method point slot (cell_type array_type) ≡ true =
      ap (reads z.program z.method point slot) is.5 ∙ reads_held z.program z.method z.locals z.fixed point slot made.free ty low le (holds_up z set point slot from_ty ty held below) in
      both_true (is_array z.program array_type) _ is.2 (both_true (reads z.program z.method point array array_type) _ (reads_held z.program z.method z.locals z.fixed point array made.free array_type is.0 le is.3)
      (both_true (reads z.program z.method point index int_type) _ (reads_held z.program z.method z.locals z.fixed point index made.free int_type is.1 le is.4) (both_true (reads z.program z.method point slot (cell_type array_type)) true read refl))))

  -- what a spot of int holds goes into a new temporary
  pub read_yields : (s : Spot) (span : Span) (made : Made) (point : Point) → z.here span → Ready z made point → SpotIs z point made.free int_type s → Makes (Gives z.program z.method z.locals z.fixed z.avoided made point int_type) (read s span made)
  read_yields (spot.Variable slot) span made point here ready is = copied z set span here slot int_type int_type refl is.0 refl made point ready is.1
  read_yields (spot.FieldOf object field) span made point here ready is =
      subst (λ t. Makes (Gives z.program z.method z.locals z.fixed z.avoided made point t) (computed made (op.ReadField made.free object field) span)) is.2 (field_yields z set span field object made point ready is.1 is.0 is.4)
  read_yields (spot.Cell array index array_type at) span made point here ready is =
      subst (λ t. Makes (Gives z.program z.method z.locals z.fixed z.avoided made point t) (computed made (op.Load made.free array index array_type) at)) is.5
      (load_yields z set array_type array_type refl array index at made point ready is.0 is.1 is.2 is.3 is.4)

  -- ---- assignments

  module _ (l m : Lowering) (a b : Reading) (t : FitsTarget z l a) (span : Span) (here : z.here span) where
    assignment_yields : (x : Assigns z a.span (a.assigned z.names).ty l) → Checked z set x.ty m b → m.span ≡ b.span → Yields z x.ty (values.assignment l m span).value
    assignment_yields x c same_span made point ready =
        let own = type_at z.scope m.span in
        let same : own ≡ c.ty = ap or_void (ap z.scope.site.names.type_of same_span ∙ c.table) in
        makes_then (Aims z made point x.ty) (Gives z.program z.method z.locals z.fixed z.avoided made point x.ty) (l.target z.scope made) _ (x.aims made point ready)
        (λ place q.
        let ready_place = ready_on z set made point place.made q.behind ready q.steps in
        makes_then (Gives z.program z.method z.locals z.fixed z.avoided place.made q.behind c.ty) (Gives z.program z.method z.locals z.fixed z.avoided made point x.ty) (m.value z.scope place.made) _ (c.yields place.made q.behind ready_place)
        (λ v g.
        let ready_v = ready_on z set place.made q.behind v.made g.behind ready_place g.steps in
        let at = spot_on q.behind g.behind place.made.free v.made.free x.ty place.spot ready_place.0 g.steps.up g.steps.keeps q.spot in
        let held = g.holds c.real in
        let written = write_steps place.spot x.ty own v.slot v.made g.behind span l.span m.span here ready_v at g.low g.apart (subst (λ t. Holds z.program g.behind v.slot t) (sym same) held) (ap (λ t. is_of z.program t x.ty) same ∙ c.fits) in
        let after = with_item v.made (write place.spot v.slot own span l.span m.span) in
        let behind = behind_write place.spot x.ty g.behind in
        record {
          behind = behind;
          steps = steps_both z.program z.method z.locals z.fixed made point place.made q.behind after behind q.steps (steps_both z.program z.method z.locals z.fixed place.made q.behind v.made g.behind after behind g.steps written);
          low = g.low;
          apart = g.apart;
          holds = λ real. holds_up z set behind v.slot c.ty x.ty (holds_on z.program v.made.free g.behind behind v.slot c.ty g.low written.keeps held) c.fits;
        }))

    pub assignment_fits : Fits z m b → Fits z (lowering_at z set (values.assignment l m span) span) (reading_at z set (valued (λ s p. reading.assignment a b s)) span)
    assignment_fits g = computes_fits z set span (valued (λ s p. reading.assignment a b s)) (values.assignment l m span).value refl refl (λ s at. refl)
        (λ said table.
        let q = parted z (a.assigned z.names).notes (check b z.names (need_like (a.assigned z.names).ty)).notes said in
        let x = t q.0 in
        let c = check_fits z set m b g x.ty x.real (subst (λ o. Told z (check b z.names (need_like o)).notes) x.typed q.1) in
        record { ty = x.ty; typed = x.typed; of_type = real_result z.program x.ty x.real; yields = assignment_yields x c g.same })

    -- a target of int
    int_target : Told z (reading.counted_target a z.names).notes → Assigns z a.span (a.assigned z.names).ty l × ((a.assigned z.names).ty ≡ Some int_type) × ((made : Made) (point : Point) → Ready z made point → Makes (Aims z made point int_type) (l.target z.scope made))
    int_target said =
        let q = parted z (a.assigned z.names).notes (rules.type_mismatch z.names.world (of int_type) (a.assigned z.names).ty a.span) said in
        let x = t q.0 in
        let w = subst (λ o. Told z (rules.type_mismatch z.names.world (of int_type) o a.span)) x.typed q.1 in
        let fit = kept z (types.fits z.names.world.supers x.ty int_type) rule.TypeMismatch a.span w in
        let is = of_int z.program x.ty (set.members.fitting x.ty int_type x.real fit) in
        (x, x.typed ∙ ap (λ t. Some t) is, subst (λ t. (made : Made) (point : Point) → Ready z made point → Makes (Aims z made point t) (l.target z.scope made)) is x.aims)

    -- the result of a computation is written
    module _ (aims : (made : Made) (point : Point) → Ready z made point → Makes (Aims z made point int_type) (l.target z.scope made)) (target_here : z.here l.span) where
      written : (made : Made) (point : Point) (place : Target) (q : Aims z made point int_type place) (after : Made) (at : Point) → Ready z made point → Steps z.program z.method z.locals z.fixed place.made q.behind after at
          → (arith_op : Arith) (left right result : ℕ) → left < after.free → right < after.free → Holds z.program at left int_type → Holds z.program at right int_type → (with_left : Bool) → is_among left z.avoided ≡ false
          → Makes (Gives z.program z.method z.locals z.fixed z.avoided made point int_type)
          (computed after (op.Num after.free arith_op left right) span >>= (λ v. in_place (with_item v.made (write place.spot v.slot int_type span l.span span)) (if with_left then left else v.slot)))
      written made point place q after at ready more arith_op left right result low_left low_right held_left held_right with_left apart =
          let ready_place = ready_on z set made point place.made q.behind ready q.steps in
          let ready_after = ready_on z set place.made q.behind after at ready_place more in
          makes_then (Gives z.program z.method z.locals z.fixed z.avoided after at int_type) (Gives z.program z.method z.locals z.fixed z.avoided made point int_type) (computed after (op.Num after.free arith_op left right) span) _
          (num_yields z set arith_op span after at left right ready_after low_left low_right held_left held_right)
          (λ v g.
          let ready_v = ready_on z set after at v.made g.behind ready_after g.steps in
          let to_v = steps_both z.program z.method z.locals z.fixed place.made q.behind after at v.made g.behind more g.steps in
          let here_spot = spot_on q.behind g.behind place.made.free v.made.free int_type place.spot ready_place.0 to_v.up to_v.keeps q.spot in
          let end = with_item v.made (write place.spot v.slot int_type span l.span span) in
          let behind = behind_write place.spot int_type g.behind in
          let last = write_steps place.spot int_type int_type v.slot v.made g.behind span l.span span here ready_v here_spot g.low g.apart (g.holds refl) refl in
          let all = steps_both z.program z.method z.locals z.fixed made point place.made q.behind end behind q.steps (steps_both z.program z.method z.locals z.fixed place.made q.behind v.made g.behind end behind to_v last) in
          let low : left < v.made.free = (let up = g.steps.up in omega (arith, low_left, up)) in
          given_back with_left left v end behind all g.low low g.apart apart (holds_on z.program v.made.free g.behind behind v.slot int_type g.low last.keeps (g.holds refl))
          (holds_on z.program v.made.free g.behind behind left int_type low last.keeps (holds_on z.program after.free at g.behind left int_type low_left g.steps.keeps held_left)))
        where
          given_back : (b : Bool) (left : ℕ) (v : Value) (end : Made) (behind : Point) → Steps z.program z.method z.locals z.fixed made point end behind → v.slot < end.free → left < end.free → is_among v.slot z.avoided ≡ false → is_among left z.avoided ≡ false
              → Holds z.program behind v.slot int_type → Holds z.program behind left int_type → Makes (Gives z.program z.method z.locals z.fixed z.avoided made point int_type) (in_place end (if b then left else v.slot))
          given_back true left v end behind steps low_v low apart_v apart held_v held = record { behind = behind; steps = steps; low = low; apart = apart; holds = λ real. held }
          given_back false left v end behind steps low_v low apart_v apart held_v held = record { behind = behind; steps = steps; low = low_v; apart = apart_v; holds = λ real. held_v }

      compound_yields : (arith_op : Arith) → Yields z int_type m.value → Yields z int_type (values.compound arith_op l m span).value
      compound_yields arith_op value made point ready =
          makes_then (Aims z made point int_type) (Gives z.program z.method z.locals z.fixed z.avoided made point int_type) (l.target z.scope made) _ (aims made point ready)
          (λ place q.
          let ready_place = ready_on z set made point place.made q.behind ready q.steps in
          makes_then (Gives z.program z.method z.locals z.fixed z.avoided place.made q.behind int_type) (Gives z.program z.method z.locals z.fixed z.avoided made point int_type) (read place.spot l.span place.made) _
          (read_yields place.spot l.span place.made q.behind target_here ready_place q.spot)
          (λ y g. makes_then (Gives z.program z.method z.locals z.fixed z.avoided y.made g.behind int_type) (Gives z.program z.method z.locals z.fixed z.avoided made point int_type) (m.value z.scope y.made) _
          (value y.made g.behind (ready_on z set place.made q.behind y.made g.behind ready_place g.steps))
          (λ v h. written made point place q v.made h.behind ready (steps_both z.program z.method z.locals z.fixed place.made q.behind y.made g.behind v.made h.behind g.steps h.steps) arith_op y.slot v.slot 0
          (let low = g.low in let up = h.steps.up in omega (arith, low, up)) h.low (holds_on z.program y.made.free g.behind h.behind y.slot int_type g.low h.steps.keeps (g.holds refl)) (h.holds refl) false g.apart)))

      step_yields : (up after : Bool) → Yields z int_type (values.step up after l span).value
      step_yields up after made point ready =
          makes_then (Aims z made point int_type) (Gives z.program z.method z.locals z.fixed z.avoided made point int_type) (l.target z.scope made) _ (aims made point ready)
          (λ place q.
          let ready_place = ready_on z set made point place.made q.behind ready q.steps in
          makes_then (Gives z.program z.method z.locals z.fixed z.avoided place.made q.behind int_type) (Gives z.program z.method z.locals z.fixed z.avoided made point int_type) (read place.spot l.span place.made) _
          (read_yields place.spot l.span place.made q.behind target_here ready_place q.spot)
          (λ y g. makes_then (Gives z.program z.method z.locals z.fixed z.avoided y.made g.behind int_type) (Gives z.program z.method z.locals z.fixed z.avoided made point int_type) (int_value (pos 1) span y.made) _
          (int_yields z set (pos 1) span refl y.made g.behind (ready_on z set place.made q.behind y.made g.behind ready_place g.steps))
          (λ v h. written made point place q v.made h.behind ready (steps_both z.program z.method z.locals z.fixed place.made q.behind y.made g.behind v.made h.behind g.steps h.steps) (if up then Add else Sub) y.slot v.slot 0
          (let low = g.low in let more = h.steps.up in omega (arith, low, more)) h.low (holds_on z.program y.made.free g.behind h.behind y.slot int_type g.low h.steps.keeps (g.holds refl)) (h.holds refl) after g.apart)))

    pub compound_fits : (arith_op : Arith) → Fits z m b → z.here l.span → Fits z (lowering_at z set (values.compound arith_op l m span) span) (reading_at z set (valued (λ s p. reading.computed a b s)) span)
    compound_fits arith_op g target_here = computes_fits z set span (valued (λ s p. reading.computed a b s)) (values.compound arith_op l m span).value refl refl (λ s at. refl)
        (λ said table.
        let q = parted z (reading.counted_target a z.names).notes (check b z.names (of int_type)).notes said in
        let x = int_target q.0 in
        record { ty = int_type; typed = x.1; of_type = refl; yields = compound_yields x.2 target_here arith_op (int_checked z set m b g q.1) })

  -- `++` and `--`
  pub step_fits : (l : Lowering) (a : Reading) (t : FitsTarget z l a) (up after : Bool) (span : Span) → z.here span → z.here l.span
      → Fits z (lowering_at z set (values.step up after l span) span) (reading_at z set (valued (λ s p. reading.counted_target a s)) span)
  step_fits l a t up after span here target_here = computes_fits z set span (valued (λ s p. reading.counted_target a s)) (values.step up after l span).value refl refl (λ s at. refl)
      (λ said table. let x = int_target l l a a t span here said in record { ty = int_type; typed = x.1; of_type = refl; yields = step_yields l l a a t span here x.2 target_here up after })
