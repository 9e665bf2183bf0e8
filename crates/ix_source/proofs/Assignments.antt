-- Assignments keep their meaning.
use Rattle.std.proofs.Common.{◌≡◌, ◌≤◌, ◌<◌, ℕ, pos, Bool, true, false, List, [], ◌∷◌, length, Ok, Some, refl, sym, subst, ◌∙◌, arith}
use Rattle.std.specs.Prelude.{slice_set, if◌then◌else◌}
use Rattle.std.proofs.lemmas.List.{append-nil}
use Rattle.ix_text.specs.declared.span.Span.{Span}
use Rattle.ix_num.specs.declared.arith.Arith.{Arith}
use Rattle.ix_num.specs.declared.arith.Arith.TheVariants.{Add, Sub}
use Rattle.ix_num.specs.Arithmetic.{exact_of}
use Rattle.ix_core.specs.declared.claim.Type_.{Type_}
use Rattle.ix_core.specs.declared.op.Literal.TheVariants as literal
use Rattle.ix_core.specs.declared.op.OpKind.TheVariants as op
use Rattle.ix_core.specs.Code.{Code}
use Rattle.ix_core.specs.Heap.{Held, Num, value_at, int_of}
use Rattle.ix_core.specs.Machine.{int_at}
use Rattle.ix_core.specs.Tasks.{Tasks, code_then}
use Rattle.ix_core.specs.Types.{int_type}
use Rattle.ix_meaning.specs.declared.note.Meaning.{Meaning}
use Rattle.ix_plain.specs.declared.made.Made.{Made}
use Rattle.ix_plain.specs.declared.made.Spot.{Spot}
use Rattle.ix_plain.specs.declared.made.Spot.TheVariants as spot
use Rattle.ix_plain.specs.Scope.{slot_of, type_at, is_among}
use Rattle.ix_plain.specs.Parts.{◌>>=◌ as ◌then◌, Value, Target as Aimed, with_item, in_place, computed, read, write}
use Rattle.ix_plain.specs.Values.{Lowering}
use Rattle.ix_plain.specs.Values as values
use Rattle.ix_source.specs.Runs.{Now, Gives, ◌>>=◌, gives, held_by, assigns}
use Rattle.ix_source.specs.Context.{Context, Members, Calls}
use Rattle.ix_source.specs.Values.{Evaluation, Target, Variable, FieldOf, Cell}
use Rattle.ix_source.specs.Values as source
use Rattle.ix_source.specs.Seen.{Frame, at, Decides}
use Rattle.ix_source.specs.Along.{Setting, IsSet, Agrees, Along}
use Rattle.ix_source.specs.Kept.{Makes, Fact, And, IsIn, IsSpot, nothing_known, Stays, Done, Kept, KeptTarget, context}
use Rattle.ix_source.proofs.Accesses.{load_given, store_given, get_given, put_given, SamePlaces}
use Rattle.ix_source.proofs.Going.{along_then, at_once}
use Rattle.ix_source.proofs.Slots.{agrees_variable, keeps_variable}
use Rattle.ix_source.proofs.Made.{makes_more, stays_more, slot_stays, whatever, then_done, op_done, did, gave, result_given, before}
use Rattle.ix_source.proofs.Operations.{at_hand}
use Rattle.ix_source.proofs.Forms.{literal_done, with_value}

module _ (z : Setting) (set : IsSet z) (members : Members) (calls : Calls) (turns : ℕ) (same : SamePlaces z set (context z members calls turns)) where
  abbrev here : Context
  here = context z members calls turns

  -- the item that writes
  abbrev write_task : Spot → ℕ → Type_ → Span → Span → Span → Code → Tasks → Tasks
  write_task (spot.Variable slot) value ty whole target from rest tasks = before z (op.Copy slot value ty) whole (target ∷ from ∷ []) rest tasks
  write_task (spot.FieldOf object field) value ty whole target from rest tasks = before z (op.WriteField object field value) whole (target ∷ from ∷ []) rest tasks
  write_task (spot.Cell array index array_type place) value ty whole target from rest tasks = before z (op.Store array index value array_type) place (from ∷ []) rest tasks

  -- What a slot holds is written.
  write_does : (place : Spot) (to : Target) (free slot : ℕ) (ty : Type_) (whole target from : Span) (f : Frame) (rest : Code) (tasks : Tasks) (slots : List Held) (now : Now) (value : Held) → z.base ≤ free → free ≤ length slots → Agrees z slots now.variables
      → IsSpot z place to slots → IsIn slot value slots
      → Along z f (at f (write_task place slot ty whole target from rest tasks) slots now.heap now.wrapped) (λ done. code_then rest tasks) nothing_known free slots now (source.write here whole.from to value now)
  write_does (spot.Variable variable) (Variable m) free slot ty whole target from f rest tasks slots now value le room agrees (n, is, own, assigned) held =
      let after = assigns (Some n) value now in
      subst (λ m. Along z f (at f (before z (op.Copy variable slot ty) whole (target ∷ from ∷ []) rest tasks) slots now.heap now.wrapped) (λ v. code_then rest tasks) nothing_known free slots now (Gives tt (assigns m value now))) (sym is)
      (record {
        behind = slice_set slots variable (value_at slots slot);
        shows = [];
        leads = did z f (op.Copy variable slot ty) whole (target ∷ from ∷ []) rest tasks slots (slice_set slots variable (value_at slots slot)) now.heap now.heap now.wrapped refl;
        events = sym (append-nil now.events);
        agrees = subst (λ v. Agrees z (slice_set slots variable v) after.variables) (sym held) (agrees_variable z set slots now.variables variable n value own (let low = set.low variable n own in omega (arith, low, le, room)) agrees);
        keeps = keeps_variable z set slots variable free (value_at slots slot) assigned;
        held = tt;
      })
  write_does (spot.FieldOf object number) (FieldOf o field) free slot ty whole target from f rest tasks slots now value le room agrees (is, at_object) held =
      subst (λ k. Along z f (at f (before z (op.WriteField object number slot) whole (target ∷ from ∷ []) rest tasks) slots now.heap now.wrapped) (λ done. code_then rest tasks) nothing_known free slots now (source.put_field here whole.from o k value now)) is
      (subst (λ v. Along z f (at f (before z (op.WriteField object number slot) whole (target ∷ from ∷ []) rest tasks) slots now.heap now.wrapped) (λ done. code_then rest tasks) nothing_known free slots now (source.put_field here whole.from o number v now)) held
      (put_given z set here same f free object number slot whole (target ∷ from ∷ []) rest tasks slots now agrees o at_object))
  write_does (spot.Cell array index array_type place) (Cell a i from_place) free slot ty whole target from f rest tasks slots now value le room agrees (is, at_array, at_index) held =
      subst (λ k. Along z f (at f (before z (op.Store array index slot array_type) place (from ∷ []) rest tasks) slots now.heap now.wrapped) (λ done. code_then rest tasks) nothing_known free slots now (source.store k a i value now)) is
      (subst (λ v. Along z f (at f (before z (op.Store array index slot array_type) place (from ∷ []) rest tasks) slots now.heap now.wrapped) (λ done. code_then rest tasks) nothing_known free slots now (source.store place.from a v value now)) at_index
      (subst (λ v. Along z f (at f (before z (op.Store array index slot array_type) place (from ∷ []) rest tasks) slots now.heap now.wrapped) (λ done. code_then rest tasks) nothing_known free slots now (source.store place.from a (value_at slots index) v now)) held
      (store_given z set f free array index slot array_type place (from ∷ []) rest tasks slots now agrees a at_array)))
  write_does (spot.Variable variable) (FieldOf o field) free slot ty whole target from f rest tasks slots now value le room agrees none held = absurd none
  write_does (spot.Variable variable) (Cell a i p) free slot ty whole target from f rest tasks slots now value le room agrees none held = absurd none
  write_does (spot.FieldOf object number) (Variable m) free slot ty whole target from f rest tasks slots now value le room agrees none held = absurd none
  write_does (spot.FieldOf object number) (Cell a i p) free slot ty whole target from f rest tasks slots now value le room agrees none held = absurd none
  write_does (spot.Cell array index array_type place) (Variable m) free slot ty whole target from f rest tasks slots now value le room agrees none held = absurd none
  write_does (spot.Cell array index array_type place) (FieldOf o field) free slot ty whole target from f rest tasks slots now value le room agrees none held = absurd none

  write_item : (place : Spot) (slot : ℕ) (ty : Type_) (whole target from : Span) (rest : Code) (tasks : Tasks) → code_then (Rattle.ix_core.specs.Code.item_code (write place slot ty whole target from) rest) tasks ≡ write_task place slot ty whole target from rest tasks
  write_item (spot.Variable variable) slot ty whole target from rest tasks = refl
  write_item (spot.FieldOf object field) slot ty whole target from rest tasks = refl
  write_item (spot.Cell array index array_type place) slot ty whole target from rest tasks = refl

  -- The item that writes what is in a slot, and then the value of the whole, which is in another or the same and stays there.
  write_done : {X : Type 0} (known : Fact X) (made : Made) (place : Spot) (aim : X → Target) (slot : ℕ) (written : X → Held) (ty : Type_) (whole target from : Span) (result : ℕ) (value : X → Held) → z.base ≤ made.free
      → ((x : X) (slots : List Held) → known x slots → IsSpot z place (aim x) slots × IsIn slot (written x) slots × IsIn result (value x) slots) → Stays z made.free (IsIn result)
      → Makes (λ (v : Value). Done z known made v.made (λ x. source.write here whole.from (aim x) (written x) >>= (λ done. gives (value x))) (IsIn v.slot)) (in_place (with_item made (write place slot ty whole target from)) result)
  write_done known made place aim slot written ty whole target from result value le implied stays = record {
    items = write place slot ty whole target from ∷ [];
    appended = refl;
    up = omega arith;
    stays = stays;
    does = λ x f rest tasks slots now room agrees knows decides.
        let is = implied x slots knows in
        subst (λ (start : Tasks). Along z f (at f start slots now.heap now.wrapped) (λ v. code_then rest tasks) (IsIn result) made.free slots now ((source.write here whole.from (aim x) (written x) >>= (λ done. gives (value x))) now)) (sym (write_item place slot ty whole target from rest tasks))
        (along_then z f (at f (write_task place slot ty whole target from rest tasks) slots now.heap now.wrapped) (λ done. code_then rest tasks) (λ v. code_then rest tasks) nothing_known (IsIn result) made.free made.free slots now (omega arith) (source.write here whole.from (aim x) (written x) now) (λ done. gives (value x))
        (subst (λ (start : Tasks). Decides z.tables (at f start slots now.heap now.wrapped)) (write_item place slot ty whole target from rest tasks) decides)
        (write_does place (aim x) made.free slot ty whole target from f rest tasks slots now (written x) le room agrees is.0 is.1)
        (λ done after behind keeps agrees_then nothing decides_then. at_once z f (λ v. code_then rest tasks) (IsIn result) made.free behind after (value x) agrees_then (stays (value x) slots behind keeps is.2)));
  }

  either_in : (after : Bool) (first second : ℕ) (x y : Held) (slots : List Held) → IsIn first x slots → IsIn second y slots → IsIn (if after then first else second) (if after then x else y) slots
  either_in true first second x y slots a b = a
  either_in false first second x y slots a b = b

  either_stays : (after : Bool) (first second free : ℕ) → Stays z free (IsIn first) → Stays z free (IsIn second) → Stays z free (IsIn (if after then first else second))
  either_stays true first second free a b = a
  either_stays false first second free a b = b

  -- the result of an operator on what two slots hold
  result_done : {X : Type 0} (known : Fact X) (o : Arith) (left right : ℕ) (x y : X → Held) (span : Span) (made : Made) → z.base ≤ made.free → ((a : X) (slots : List Held) → known a slots → IsIn left (x a) slots × IsIn right (y a) slots)
      → Makes (λ v. Done z known made v.made (λ a. source.result_at span.from (exact_of o (int_of (x a)) (int_of (y a)))) (IsIn v.slot)) (computed made (op.Num made.free o left right) span)
  result_done known o left right x y span made le implied = op_done z set known made (op.Num made.free o left right) span (λ a. source.result_at span.from (exact_of o (int_of (x a)) (int_of (y a)))) le
      (λ a f rest tasks slots now room agrees knows.
      let is = implied a slots knows in
      subst (λ held. Along z f (at f (before z (op.Num made.free o left right) span [] rest tasks) slots now.heap now.wrapped) (λ value. code_then rest tasks) (IsIn made.free) made.free slots now (source.result_at span.from (exact_of o (int_of held) (int_of (y a))) now)) is.0
      (subst (λ held. Along z f (at f (before z (op.Num made.free o left right) span [] rest tasks) slots now.heap now.wrapped) (λ value. code_then rest tasks) (IsIn made.free) made.free slots now (source.result_at span.from (exact_of o (int_at slots left) (int_of held)) now)) is.1
      (result_given z set f (op.Num made.free o left right) span [] rest tasks slots now made.free (exact_of o (int_at slots left) (int_at slots right)) le room agrees refl refl)))

  -- ---- reading a target

  variable_read : (to : Target) (free variable : ℕ) (target : Span) (f : Frame) (rest : Code) (tasks : Tasks) (slots : List Held) (now : Now) → z.base ≤ free → free < length slots → Agrees z slots now.variables → IsSpot z (spot.Variable variable) to slots
      → Along z f (at f (before z (op.Copy free variable int_type) target [] rest tasks) slots now.heap now.wrapped) (λ value. code_then rest tasks) (IsIn free) free slots now (source.read here target.from to now)
  variable_read (Variable m) free variable target f rest tasks slots now le room agrees (n, is, own, assigned) =
      subst (λ m. Along z f (at f (before z (op.Copy free variable int_type) target [] rest tasks) slots now.heap now.wrapped) (λ value. code_then rest tasks) (IsIn free) free slots now (Gives (held_by now.variables m) now)) (sym is)
      (subst (λ value. Along z f (at f (before z (op.Copy free variable int_type) target [] rest tasks) slots now.heap now.wrapped) (λ value. code_then rest tasks) (IsIn free) free slots now (Gives value now)) (agrees.held variable n own)
      (gave z set f (op.Copy free variable int_type) target [] rest tasks slots now now free (value_at slots variable) le room agrees refl refl refl (sym (append-nil now.events))))
  variable_read (FieldOf o field) free variable target f rest tasks slots now le room agrees none = absurd none
  variable_read (Cell a i place) free variable target f rest tasks slots now le room agrees none = absurd none

  field_read : (to : Target) (free object number : ℕ) (target : Span) (f : Frame) (rest : Code) (tasks : Tasks) (slots : List Held) (now : Now) → z.base ≤ free → free < length slots → Agrees z slots now.variables → IsSpot z (spot.FieldOf object number) to slots
      → Along z f (at f (before z (op.ReadField free object number) target [] rest tasks) slots now.heap now.wrapped) (λ value. code_then rest tasks) (IsIn free) free slots now (source.read here target.from to now)
  field_read (FieldOf o field) free object number target f rest tasks slots now le room agrees (is, at_object) =
      subst (λ k. Along z f (at f (before z (op.ReadField free object number) target [] rest tasks) slots now.heap now.wrapped) (λ value. code_then rest tasks) (IsIn free) free slots now (source.get_field here target.from o k now)) is
      (get_given z set here same f free object number target rest tasks slots now le room agrees o at_object)
  field_read (Variable m) free object number target f rest tasks slots now le room agrees none = absurd none
  field_read (Cell a i place) free object number target f rest tasks slots now le room agrees none = absurd none

  cell_read : (to : Target) (free array index : ℕ) (ty : Type_) (place target : Span) (f : Frame) (rest : Code) (tasks : Tasks) (slots : List Held) (now : Now) → z.base ≤ free → free < length slots → Agrees z slots now.variables → IsSpot z (spot.Cell array index ty place) to slots
      → Along z f (at f (before z (op.Load free array index ty) place [] rest tasks) slots now.heap now.wrapped) (λ value. code_then rest tasks) (IsIn free) free slots now (source.read here target.from to now)
  cell_read (Cell a i from) free array index ty place target f rest tasks slots now le room agrees (is, at_array, at_index) =
      subst (λ k. Along z f (at f (before z (op.Load free array index ty) place [] rest tasks) slots now.heap now.wrapped) (λ value. code_then rest tasks) (IsIn free) free slots now (source.load k a i now)) is
      (subst (λ held. Along z f (at f (before z (op.Load free array index ty) place [] rest tasks) slots now.heap now.wrapped) (λ value. code_then rest tasks) (IsIn free) free slots now (source.load place.from a held now)) at_index
      (load_given z set f free array index ty place rest tasks slots now le room agrees a at_array))
  cell_read (Variable m) free array index ty place target f rest tasks slots now le room agrees none = absurd none
  cell_read (FieldOf o field) free array index ty place target f rest tasks slots now le room agrees none = absurd none

  read_done : {X : Type 0} (known : Fact X) (place : Spot) (aim : X → Target) (target : Span) (made : Made) → z.base ≤ made.free → ((x : X) (slots : List Held) → known x slots → IsSpot z place (aim x) slots)
      → Makes (λ v. Done z known made v.made (λ x. source.read here target.from (aim x)) (IsIn v.slot)) (read place target made)
  read_done known (spot.Variable variable) aim target made le implied = op_done z set known made (op.Copy made.free variable int_type) target (λ x. source.read here target.from (aim x)) le
      (λ x f rest tasks slots now room agrees knows. variable_read (aim x) made.free variable target f rest tasks slots now le room agrees (implied x slots knows))
  read_done known (spot.FieldOf object number) aim target made le implied = op_done z set known made (op.ReadField made.free object number) target (λ x. source.read here target.from (aim x)) le
      (λ x f rest tasks slots now room agrees knows. field_read (aim x) made.free object number target f rest tasks slots now le room agrees (implied x slots knows))
  read_done known (spot.Cell array index ty place) aim target made le implied = op_done z set known made (op.Load made.free array index ty) place (λ x. source.read here target.from (aim x)) le
      (λ x f rest tasks slots now room agrees knows. cell_read (aim x) made.free array index ty place target f rest tasks slots now le room agrees (implied x slots knows))

  -- ---- the forms of assignment

  -- `=`
  pub assignment_value : (target value : Lowering) (t v : Evaluation) (span : Span) → KeptTarget z members calls turns target t → Kept z members calls turns value v → (made : Made) → z.base ≤ made.free
      → Makes (λ w. Done z nothing_known made w.made (λ x. (source.assignment t v span).value here) (IsIn w.slot)) ((values.assignment target value span).value z.scope made)
  assignment_value target value t v span x y made le =
      then_done z (λ (a : Aimed). a.made) (λ a. IsSpot z a.spot) (λ (v : Value). v.made) (λ v. IsIn v.slot) nothing_known made (λ x. t.target here)
      (λ p. v.value here >>= (λ q. source.write here span.from p.1 q >>= (λ done. gives q))) (λ x slots behind keeps known. tt) (target.target z.scope made) _ (x made le)
      (λ a up stays own. then_done z (λ (v : Value). v.made) (λ v. IsIn v.slot) (λ (v : Value). v.made) (λ v. IsIn v.slot) (And nothing_known (IsSpot z a.spot)) a.made (λ p. v.value here)
      (λ q. source.write here span.from q.0.1 q.1 >>= (λ done. gives q.1)) stays (value.value z.scope a.made) _ (makes_more _ _ (λ w d. whatever z (And nothing_known (IsSpot z a.spot)) a.made w.made (v.value here) (IsIn w.slot) d) (value.value z.scope a.made) (y.value a.made (omega (arith, le, up))))
      (λ w up_more both_more own_more. write_done (And (And nothing_known (IsSpot z a.spot)) (IsIn w.slot)) w.made a.spot (λ q. q.0.1) w.slot (λ q. q.1) (type_at z.scope value.span) span target.span value.span w.slot (λ q. q.1) (omega (arith, le, up, up_more))
      (λ q slots knows. (knows.0.1, knows.1, knows.1)) own_more))

  -- an operator and `=`
  pub compound_value : (o : Arith) (target value : Lowering) (t v : Evaluation) (span : Span) → target.span ≡ t.span → KeptTarget z members calls turns target t → Kept z members calls turns value v → (made : Made) → z.base ≤ made.free
      → Makes (λ w. Done z nothing_known made w.made (λ x. (source.compound o t v span).value here) (IsIn w.slot)) ((values.compound o target value span).value z.scope made)
  compound_value o target value t v span at_target x y made le =
      subst (λ (place : Span). Makes (λ w. Done z nothing_known made w.made (λ x. t.target here >>= (λ to. source.read here place.from to >>= (λ x. v.value here >>= (λ y. source.result_at span.from (exact_of o (int_of x) (int_of y)) >>= (λ v. source.write here span.from to v >>= (λ done. gives v)))))) (IsIn w.slot)) ((values.compound o target value span).value z.scope made)) at_target
      (then_done z (λ (a : Aimed). a.made) (λ a. IsSpot z a.spot) (λ (v : Value). v.made) (λ v. IsIn v.slot) nothing_known made (λ x. t.target here)
      (λ p. source.read here target.span.from p.1 >>= (λ x. v.value here >>= (λ y. source.result_at span.from (exact_of o (int_of x) (int_of y)) >>= (λ v. source.write here span.from p.1 v >>= (λ done. gives v))))) (λ x slots behind keeps known. tt) (target.target z.scope made) _ (x made le)
      (λ a up1 stays1 own1. then_done z (λ (v : Value). v.made) (λ v. IsIn v.slot) (λ (v : Value). v.made) (λ v. IsIn v.slot) (And nothing_known (IsSpot z a.spot)) a.made (λ p. source.read here target.span.from p.1)
      (λ q. v.value here >>= (λ y. source.result_at span.from (exact_of o (int_of q.1) (int_of y)) >>= (λ v. source.write here span.from q.0.1 v >>= (λ done. gives v)))) stays1 (read a.spot target.span a.made) _
      (read_done (And nothing_known (IsSpot z a.spot)) a.spot (λ p. p.1) target.span a.made (omega (arith, le, up1)) (λ p slots knows. knows.1))
      (λ y1 up2 stays2 own2. then_done z (λ (v : Value). v.made) (λ v. IsIn v.slot) (λ (v : Value). v.made) (λ v. IsIn v.slot) (And (And nothing_known (IsSpot z a.spot)) (IsIn y1.slot)) y1.made (λ q. v.value here)
      (λ r. source.result_at span.from (exact_of o (int_of r.0.1) (int_of r.1)) >>= (λ v. source.write here span.from r.0.0.1 v >>= (λ done. gives v))) stays2 (value.value z.scope y1.made) _
      (makes_more _ _ (λ w d. whatever z (And (And nothing_known (IsSpot z a.spot)) (IsIn y1.slot)) y1.made w.made (v.value here) (IsIn w.slot) d) (value.value z.scope y1.made) (y.value y1.made (omega (arith, le, up1, up2))))
      (λ z1 up3 stays3 own3. then_done z (λ (v : Value). v.made) (λ v. IsIn v.slot) (λ (v : Value). v.made) (λ v. IsIn v.slot) (And (And (And nothing_known (IsSpot z a.spot)) (IsIn y1.slot)) (IsIn z1.slot)) z1.made
      (λ r. source.result_at span.from (exact_of o (int_of r.0.1) (int_of r.1))) (λ s. source.write here span.from s.0.0.0.1 s.1 >>= (λ done. gives s.1)) stays3 (computed z1.made (op.Num z1.made.free o y1.slot z1.slot) span) _
      (result_done (And (And (And nothing_known (IsSpot z a.spot)) (IsIn y1.slot)) (IsIn z1.slot)) o y1.slot z1.slot (λ r. r.0.1) (λ r. r.1) span z1.made (omega (arith, le, up1, up2, up3)) (λ r slots knows. (knows.0.1, knows.1)))
      (λ t1 up4 stays4 own4. write_done (And (And (And (And nothing_known (IsSpot z a.spot)) (IsIn y1.slot)) (IsIn z1.slot)) (IsIn t1.slot)) t1.made a.spot (λ s. s.0.0.0.1) t1.slot (λ s. s.1) int_type span target.span span t1.slot (λ s. s.1) (omega (arith, le, up1, up2, up3, up4))
      (λ s slots knows. (knows.0.0.0.1, knows.1, knows.1)) own4)))))

  -- `++` and `--`: in front of the target the value is what is written, and behind it what was read
  step_result : (after : Bool) (target : Lowering) (o : Arith) (t : Evaluation) (span : Span) → KeptTarget z members calls turns target t → (made : Made) → z.base ≤ made.free
      → Makes (λ w. Done z nothing_known made w.made (λ x. t.target here >>= (λ to. source.read here target.span.from to >>= (λ x. source.result_at span.from (exact_of o (int_of x) (pos 1)) >>= (λ v. source.write here span.from to v >>= (λ done. gives (if after then x else v)))))) (IsIn w.slot))
      (target.target z.scope made then (λ place. read place.spot target.span place.made then (λ y. values.int_value (pos 1) span y.made then (λ one. computed one.made (op.Num one.made.free o y.slot one.slot) span then (λ t.
      in_place (with_item t.made (write place.spot t.slot int_type span target.span span)) (if after then y.slot else t.slot))))))
  step_result after target o t span x made le =
      then_done z (λ (a : Aimed). a.made) (λ a. IsSpot z a.spot) (λ (v : Value). v.made) (λ v. IsIn v.slot) nothing_known made (λ x. t.target here)
      (λ p. source.read here target.span.from p.1 >>= (λ x. source.result_at span.from (exact_of o (int_of x) (pos 1)) >>= (λ v. source.write here span.from p.1 v >>= (λ done. gives (if after then x else v))))) (λ x slots behind keeps known. tt) (target.target z.scope made) _ (x made le)
      (λ a up1 stays1 own1. then_done z (λ (v : Value). v.made) (λ v. IsIn v.slot) (λ (v : Value). v.made) (λ v. IsIn v.slot) (And nothing_known (IsSpot z a.spot)) a.made (λ p. source.read here target.span.from p.1)
      (λ q. source.result_at span.from (exact_of o (int_of q.1) (pos 1)) >>= (λ v. source.write here span.from q.0.1 v >>= (λ done. gives (if after then q.1 else v)))) stays1 (read a.spot target.span a.made) _
      (read_done (And nothing_known (IsSpot z a.spot)) a.spot (λ p. p.1) target.span a.made (omega (arith, le, up1)) (λ p slots knows. knows.1))
      (λ y1 up2 stays2 own2. then_done z (λ (v : Value). v.made) (λ v. IsIn v.slot) (λ (v : Value). v.made) (λ v. IsIn v.slot) (And (And nothing_known (IsSpot z a.spot)) (IsIn y1.slot)) y1.made (λ q. gives (Num (pos 1)))
      (λ r. source.result_at span.from (exact_of o (int_of r.0.1) (int_of r.1)) >>= (λ v. source.write here span.from r.0.0.1 v >>= (λ done. gives (if after then r.0.1 else v)))) stays2 (values.int_value (pos 1) span y1.made) _
      (literal_done z set (And (And nothing_known (IsSpot z a.spot)) (IsIn y1.slot)) y1.made (literal.Int (pos 1)) span (omega (arith, le, up1, up2)))
      (λ z1 up3 stays3 own3. then_done z (λ (v : Value). v.made) (λ v. IsIn v.slot) (λ (v : Value). v.made) (λ v. IsIn v.slot) (And (And (And nothing_known (IsSpot z a.spot)) (IsIn y1.slot)) (IsIn z1.slot)) z1.made
      (λ r. source.result_at span.from (exact_of o (int_of r.0.1) (int_of r.1))) (λ s. source.write here span.from s.0.0.0.1 s.1 >>= (λ done. gives (if after then s.0.0.1 else s.1))) stays3 (computed z1.made (op.Num z1.made.free o y1.slot z1.slot) span) _
      (result_done (And (And (And nothing_known (IsSpot z a.spot)) (IsIn y1.slot)) (IsIn z1.slot)) o y1.slot z1.slot (λ r. r.0.1) (λ r. r.1) span z1.made (omega (arith, le, up1, up2, up3)) (λ r slots knows. (knows.0.1, knows.1)))
      (λ t1 up4 stays4 own4. write_done (And (And (And (And nothing_known (IsSpot z a.spot)) (IsIn y1.slot)) (IsIn z1.slot)) (IsIn t1.slot)) t1.made a.spot (λ s. s.0.0.0.1) t1.slot (λ s. s.1) int_type span target.span span (if after then y1.slot else t1.slot) (λ s. if after then s.0.0.1 else s.1)
      (omega (arith, le, up1, up2, up3, up4)) (λ s slots knows. (knows.0.0.0.1, knows.1, either_in after y1.slot t1.slot s.0.0.1 s.1 slots knows.0.0.1 knows.1))
      (either_stays after y1.slot t1.slot t1.made.free (stays_more z y1.made.free t1.made.free (IsIn y1.slot) (omega (arith, up3, up4)) own2) own4)))))

  pub step_value : (up after : Bool) (target : Lowering) (t : Evaluation) (span : Span) → target.span ≡ t.span → KeptTarget z members calls turns target t → (made : Made) → z.base ≤ made.free
      → Makes (λ w. Done z nothing_known made w.made (λ x. (source.step up after t span).value here) (IsIn w.slot)) ((values.step up after target span).value z.scope made)
  step_value up after target t span at_target x made le =
      subst (λ (place : Span). Makes (λ w. Done z nothing_known made w.made (λ x. t.target here >>= (λ to. source.read here place.from to >>= (λ x. source.result_at span.from (exact_of (if up then Add else Sub) (int_of x) (pos 1)) >>= (λ v. source.write here span.from to v >>= (λ done. gives (if after then x else v)))))) (IsIn w.slot)) ((values.step up after target span).value z.scope made)) at_target
      (step_result after target (if up then Add else Sub) t span x made le)

  -- ---- the forms of target

  field_stays : (slot number free : ℕ) → Stays z free (IsIn slot) → Stays z free (IsSpot z (spot.FieldOf slot number))
  field_stays slot number free stays (FieldOf o field) slots behind keeps (is, held) = (is, stays o slots behind keeps held)
  field_stays slot number free stays (Variable m) slots behind keeps none = absurd none
  field_stays slot number free stays (Cell a i place) slots behind keeps none = absurd none

  cell_stays : (array index free : ℕ) (ty : Type_) (place : Span) → Stays z free (IsIn array) → Stays z free (IsIn index) → Stays z free (IsSpot z (spot.Cell array index ty place))
  cell_stays array index free ty place a b (Cell x i from) slots behind keeps (is, at_array, at_index) = (is, a x slots behind keeps at_array, b i slots behind keeps at_index)
  cell_stays array index free ty place a b (Variable m) slots behind keeps none = absurd none
  cell_stays array index free ty place a b (FieldOf o field) slots behind keeps none = absurd none

  variable_stays : (slot free : ℕ) → Stays z free (IsSpot z (spot.Variable slot))
  variable_stays slot free (Variable n) slots behind keeps held = held
  variable_stays slot free (FieldOf o field) slots behind keeps none = absurd none
  variable_stays slot free (Cell a i place) slots behind keeps none = absurd none

  -- a local or a parameter
  pub variable_aims : (made : Made) (m : Meaning) → z.owner (slot_of z.scope (Some m)) ≡ Some m → is_among (slot_of z.scope (Some m)) z.scope.assigned ≡ true
      → Done z nothing_known made made (λ (x : Unit {0}). gives (Variable (Some m))) (IsSpot z (spot.Variable (slot_of z.scope (Some m))))
  variable_aims made m own assigned = at_hand z nothing_known made (λ (x : Unit {0}). Variable (Some m)) (IsSpot z (spot.Variable (slot_of z.scope (Some m)))) (variable_stays (slot_of z.scope (Some m)) made.free) (λ x slots knows. (m, refl, own, assigned))

  -- a field of the own object
  pub own_field_aims : (made : Made) (field : ℕ) → z.has_this ≡ true → z.base ≤ made.free → Done z nothing_known made made (λ (x : Unit {0}). source.of_this >>= (λ this. gives (FieldOf this field))) (IsSpot z (spot.FieldOf 0 field))
  own_field_aims made field has le = record {
    items = [];
    appended = sym (append-nil made.items);
    up = omega arith;
    stays = field_stays 0 field made.free (slot_stays z 0 made.free (let low = set.this_low has in omega (arith, low, le)) (set.this_stays has));
    does = λ x f rest tasks slots now room agrees knows decides. at_once z f (λ (v : Target). code_then rest tasks) (IsSpot z (spot.FieldOf 0 field)) made.free slots now (FieldOf now.variables.this field) agrees (refl, (agrees.this has).0 ∙ sym (agrees.this has).1);
  }

  -- a field of another object
  pub field_target : (object : Lowering) (o : Evaluation) (number : ℕ) → Kept z members calls turns object o → (made : Made) → z.base ≤ made.free
      → Makes (λ (t : Aimed). Done z nothing_known made t.made (λ x. o.value here >>= (λ held. gives (FieldOf held number))) (IsSpot z t.spot)) (object.value z.scope made then (λ v. Ok (record { made = v.made; spot = spot.FieldOf v.slot number })))
  field_target object o number k made le = with_value z set members calls turns (λ (t : Aimed). t.made) (λ t. IsSpot z t.spot) object o (λ held. gives (FieldOf held number)) k made le (λ v. Ok (record { made = v.made; spot = spot.FieldOf v.slot number }))
      (λ v up both own. at_hand z (And nothing_known (IsIn v.slot)) v.made (λ p. FieldOf p.1 number) (IsSpot z (spot.FieldOf v.slot number)) (field_stays v.slot number v.made.free own) (λ p slots knows. (refl, knows.1)))

  -- an element
  pub element_target : (array index : Lowering) (a i : Evaluation) (span : Span) → index.span ≡ i.span → Kept z members calls turns array a → Kept z members calls turns index i → KeptTarget z members calls turns (values.element array index span) (source.element a i span)
  element_target array index a i span at_index x y made le =
      subst (λ (place : Span). Makes (λ (t : Aimed). Done z nothing_known made t.made (λ x. a.value here >>= (λ p. i.value here >>= (λ q. gives (Cell p q place.from)))) (IsSpot z t.spot)) ((values.element array index span).target z.scope made)) at_index
      (with_value z set members calls turns (λ (t : Aimed). t.made) (λ t. IsSpot z t.spot) array a (λ p. i.value here >>= (λ q. gives (Cell p q index.span.from))) x made le _
      (λ v up stays own. then_done z (λ (v : Value). v.made) (λ v. IsIn v.slot) (λ (t : Aimed). t.made) (λ t. IsSpot z t.spot) (And nothing_known (IsIn v.slot)) v.made (λ p. i.value here)
      (λ q. gives (Cell q.0.1 q.1 index.span.from)) stays (index.value z.scope v.made) _ (makes_more _ _ (λ w d. whatever z (And nothing_known (IsIn v.slot)) v.made w.made (i.value here) (IsIn w.slot) d) (index.value z.scope v.made) (y.value v.made (omega (arith, le, up))))
      (λ w up_more both_more own_more. at_hand z (And (And nothing_known (IsIn v.slot)) (IsIn w.slot)) w.made (λ q. Cell q.0.1 q.1 index.span.from) (IsSpot z (spot.Cell v.slot w.slot (type_at z.scope array.span) index.span))
      (cell_stays v.slot w.slot w.made.free (type_at z.scope array.span) index.span (stays_more z v.made.free w.made.free (IsIn v.slot) up_more own) own_more) (λ q slots knows. (refl, knows.0.1, knows.1)))))
