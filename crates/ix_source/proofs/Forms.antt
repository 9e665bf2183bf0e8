-- The forms of expressions keep their meaning.
use Rattle.std.proofs.Common.{◌≡◌, ◌≤◌, ◌<◌, ℕ, ℤ, Bool, true, false, List, [], length, Some, refl, sym, ap, subst, ◌∙◌, arith}
use Rattle.std.specs.Prelude.{if◌then◌else◌}
use Rattle.std.proofs.lemmas.List.{append-nil}
use Rattle.ix_text.specs.declared.span.Span.{Span}
use Rattle.ix_num.specs.declared.arith.Arith.{Arith}
use Rattle.ix_num.specs.Arithmetic.{exact_of}
use Rattle.ix_core.specs.declared.op.Literal.{Literal}
use Rattle.ix_core.specs.declared.op.Literal.TheVariants as literal
use Rattle.ix_core.specs.declared.op.OpKind.{OpKind}
use Rattle.ix_core.specs.declared.op.UnaryNum.{UnaryNum}
use Rattle.ix_core.specs.Code.{Code}
use Rattle.ix_core.specs.declared.op.OpKind.TheVariants as op
use Rattle.ix_core.specs.Heap.{Held, Num, value_at, int_of}
use Rattle.ix_core.specs.Machine.{literal_value, int_at, unary_of}
use Rattle.ix_core.specs.Tasks.{Tasks, code_then}
use Rattle.ix_meaning.specs.declared.note.Meaning.{Meaning}
use Rattle.ix_plain.specs.declared.made.Made.{Made}
use Rattle.ix_plain.specs.Scope.{type_at, is_among}
use Rattle.ix_plain.specs.Parts.{Within, ◌>>=◌ as ◌then◌, Value, in_place, computed}
use Rattle.ix_plain.specs.Values.{Lowering}
use Rattle.ix_plain.specs.Values as values
use Rattle.ix_source.specs.Runs.{Now, Gives, Action, ◌>>=◌, gives, held_by}
use Rattle.ix_source.specs.Context.{Context, Members, Calls}
use Rattle.ix_source.specs.Values.{Evaluation, Variable, result_at, of_variable, load, assign}
use Rattle.ix_source.specs.Values as source
use Rattle.ix_source.specs.Seen.{Frame, at}
use Rattle.ix_source.specs.Along.{Setting, IsSet, Agrees, Along}
use Rattle.ix_source.specs.Kept.{Makes, Fact, And, IsIn, nothing_known, Stays, Done, Kept, KeptUnused, context}
use Rattle.ix_source.proofs.Going.{at_once}
use Rattle.ix_source.proofs.Accesses.{load_given, get_given, SamePlaces}
use Rattle.ix_source.proofs.Operations.{length_given, array_given}
use Rattle.ix_source.proofs.Made.{makes_more, slot_stays, whatever, then_done, nothing_made, op_done, gave, result_given, before}

module _ (z : Setting) (set : IsSet z) where
  -- ---- literals

  pub literal_done : {X : Type 0} (known : Fact X) (made : Made) (value : Literal) (span : Span) → z.base ≤ made.free
      → Makes (λ v. Done z known made v.made (λ (x : X). gives (literal_value value)) (IsIn v.slot)) (computed made (op.Const made.free value) span)
  literal_done known made value span le = op_done z set known made (op.Const made.free value) span (λ x. gives (literal_value value)) le
      (λ x f rest tasks slots now room agrees knows. gave z set f (op.Const made.free value) span [] rest tasks slots now now made.free (literal_value value) le room agrees refl refl refl (sym (append-nil now.events)))

  -- ---- names of variables

  -- The slot is that of a variable in scope.
  abbrev pub IsVariable : ℕ → Meaning → Type 0
  IsVariable slot m = z.owner slot ≡ Some m

  variable_in : {X : Type 0} (known : Fact X) (made : Made) (span : Span) (m : Meaning) (slot : ℕ) → z.base ≤ made.free → IsVariable slot m → (b : Bool) → b ≡ is_among slot z.scope.assigned
      → Makes (λ v. Done z known made v.made (λ (x : X). of_variable (Some m)) (IsIn v.slot)) (if b then computed made (op.Copy made.free slot (type_at z.scope span)) span else in_place made slot)
  variable_in known made span m slot le own true e = op_done z set known made (op.Copy made.free slot (type_at z.scope span)) span (λ x. of_variable (Some m)) le
      (λ x f rest tasks slots now room agrees knows.
      subst (λ value. Along z f (at f (before z (op.Copy made.free slot (type_at z.scope span)) span [] rest tasks) slots now.heap now.wrapped) (λ value. code_then rest tasks) (IsIn made.free) made.free slots now (Gives value now)) (agrees.held slot m own)
      (gave z set f (op.Copy made.free slot (type_at z.scope span)) span [] rest tasks slots now now made.free (value_at slots slot) le room agrees refl refl refl (sym (append-nil now.events))))
  variable_in known made span m slot le own false e = nothing_made z known made (λ x. of_variable (Some m)) slot (slot_stays z slot made.free (let low = set.low slot m own in omega (arith, low, le)) (sym e))
      (λ x f next slots now agrees knows. at_once z f (λ value. next) (IsIn slot) made.free slots now (held_by now.variables (Some m)) agrees (agrees.held slot m own))

  pub variable_done : {X : Type 0} (known : Fact X) (made : Made) (span : Span) (m : Meaning) (slot : ℕ) → z.base ≤ made.free → IsVariable slot m
      → Makes (λ v. Done z known made v.made (λ (x : X). of_variable (Some m)) (IsIn v.slot)) (values.variable z.scope span slot made)
  variable_done known made span m slot le own = variable_in known made span m slot le own (is_among slot z.scope.assigned) refl

  -- ---- one operator and its operand, and two

  module _ (members : Members) (calls : Calls) (turns : ℕ) where
    pub arithmetic_value : (o : Arith) (left right : Lowering) (l r : Evaluation) (span : Span) → Kept z members calls turns left l → Kept z members calls turns right r → (made : Made) → z.base ≤ made.free
        → Makes (λ v. Done z nothing_known made v.made (λ x. (source.arithmetic o l r span).value (context z members calls turns)) (IsIn v.slot)) ((values.arithmetic o left right span).value z.scope made)
    arithmetic_value o left right l r span a b made le =
        then_done z (λ (v : Value). v.made) (λ v. IsIn v.slot) (λ (v : Value). v.made) (λ v. IsIn v.slot) nothing_known made (λ x. l.value (context z members calls turns))
        (λ p. r.value (context z members calls turns) >>= (λ y. result_at span.from (exact_of o (int_of p.1) (int_of y)))) (λ x slots behind keeps known. tt) (left.value z.scope made) _ (a.value made le)
        (λ y up stays own. then_done z (λ (v : Value). v.made) (λ v. IsIn v.slot) (λ (v : Value). v.made) (λ v. IsIn v.slot) (And nothing_known (IsIn y.slot)) y.made (λ p. r.value (context z members calls turns))
        (λ q. result_at span.from (exact_of o (int_of q.0.1) (int_of q.1))) stays (right.value z.scope y.made) _ (makes_more _ _ (λ w d. whatever z (And nothing_known (IsIn y.slot)) y.made w.made (r.value (context z members calls turns)) (IsIn w.slot) d) (right.value z.scope y.made) (b.value y.made (omega (arith, le, up))))
        (λ w up_more stays_more own_more. op_done z set (And (And nothing_known (IsIn y.slot)) (IsIn w.slot)) w.made (op.Num w.made.free o y.slot w.slot) span (λ q. result_at span.from (exact_of o (int_of q.0.1) (int_of q.1))) (omega (arith, le, up, up_more))
        (λ q f rest tasks slots now room agrees knows.
        subst (λ x. Along z f (at f (before z (op.Num w.made.free o y.slot w.slot) span [] rest tasks) slots now.heap now.wrapped) (λ value. code_then rest tasks) (IsIn w.made.free) w.made.free slots now (result_at span.from (exact_of o (int_of x) (int_of q.1)) now)) knows.0.1
        (subst (λ x. Along z f (at f (before z (op.Num w.made.free o y.slot w.slot) span [] rest tasks) slots now.heap now.wrapped) (λ value. code_then rest tasks) (IsIn w.made.free) w.made.free slots now (result_at span.from (exact_of o (int_at slots y.slot) (int_of x)) now)) knows.1
        (result_given z set f (op.Num w.made.free o y.slot w.slot) span [] rest tasks slots now w.made.free (exact_of o (int_at slots y.slot) (int_at slots w.slot)) (omega (arith, le, up, up_more)) room agrees refl refl)))))

    -- ---- elements

    pub element_value : (array index : Lowering) (a i : Evaluation) (span : Span) → index.span ≡ i.span → Kept z members calls turns array a → Kept z members calls turns index i → (made : Made) → z.base ≤ made.free
        → Makes (λ v. Done z nothing_known made v.made (λ x. (source.element a i span).value (context z members calls turns)) (IsIn v.slot)) ((values.element array index span).value z.scope made)
    element_value array index a i span same x y made le =
        subst (λ (at_index : Span). Makes (λ v. Done z nothing_known made v.made (λ x. a.value (context z members calls turns) >>= (λ p. i.value (context z members calls turns) >>= (λ q. load at_index.from p q))) (IsIn v.slot)) ((values.element array index span).value z.scope made)) same
        (then_done z (λ (v : Value). v.made) (λ v. IsIn v.slot) (λ (v : Value). v.made) (λ v. IsIn v.slot) nothing_known made (λ x. a.value (context z members calls turns))
        (λ p. i.value (context z members calls turns) >>= (λ q. load index.span.from p.1 q)) (λ x slots behind keeps known. tt) (array.value z.scope made) _ (x.value made le)
        (λ v up stays own. then_done z (λ (v : Value). v.made) (λ v. IsIn v.slot) (λ (v : Value). v.made) (λ v. IsIn v.slot) (And nothing_known (IsIn v.slot)) v.made (λ p. i.value (context z members calls turns))
        (λ q. load index.span.from q.0.1 q.1) stays (index.value z.scope v.made) _ (makes_more _ _ (λ w d. whatever z (And nothing_known (IsIn v.slot)) v.made w.made (i.value (context z members calls turns)) (IsIn w.slot) d) (index.value z.scope v.made) (y.value v.made (omega (arith, le, up))))
        (λ w up_more stays_more own_more. op_done z set (And (And nothing_known (IsIn v.slot)) (IsIn w.slot)) w.made (op.Load w.made.free v.slot w.slot (type_at z.scope array.span)) index.span (λ q. load index.span.from q.0.1 q.1) (omega (arith, le, up, up_more))
        (λ q f rest tasks slots now room agrees knows.
        subst (λ held. Along z f (at f (before z (op.Load w.made.free v.slot w.slot (type_at z.scope array.span)) index.span [] rest tasks) slots now.heap now.wrapped) (λ value. code_then rest tasks) (IsIn w.made.free) w.made.free slots now (load index.span.from q.0.1 held now)) knows.1
        (load_given z set f w.made.free v.slot w.slot (type_at z.scope array.span) index.span rest tasks slots now (omega (arith, le, up, up_more)) room agrees q.0.1 knows.0.1)))))

    -- ---- one operand, and an operation on it

    abbrev here : Context
    here = context z members calls turns

    -- an operand, and what is made behind it
    pub with_value : {S B : Type 0} (to : S → Made) (holds : S → Fact B) (l : Lowering) (e : Evaluation) (on : Held → Action B) → Kept z members calls turns l e → (made : Made) → z.base ≤ made.free → (next : Value → Within S)
        → ((v : Value) → made.free ≤ v.made.free → Stays z v.made.free (And nothing_known (IsIn v.slot)) → Stays z v.made.free (IsIn v.slot) → Makes (λ s. Done z (And nothing_known (IsIn v.slot)) v.made (to s) (λ p. on p.1) (holds s)) (next v))
        → Makes (λ s. Done z nothing_known made (to s) (λ x. e.value here >>= on) (holds s)) (l.value z.scope made then next)
    with_value to holds l e on k made le next after =
        then_done z (λ (v : Value). v.made) (λ v. IsIn v.slot) to holds nothing_known made (λ x. e.value here) (λ p. on p.1) (λ x slots behind keeps known. tt) (l.value z.scope made) next (k.value made le) after

    one_operand : (l : Lowering) (e : Evaluation) (kind : Value → OpKind) (span : Span) (on : Held → Action Held) → Kept z members calls turns l e
        → ((v : Value) → z.base ≤ v.made.free → (held : Held) (f : Frame) (rest : Code) (tasks : Tasks) (slots : List Held) (now : Now) → v.made.free < length slots → Agrees z slots now.variables → value_at slots v.slot ≡ held
        → Along z f (at f (before z (kind v) span [] rest tasks) slots now.heap now.wrapped) (λ value. code_then rest tasks) (IsIn v.made.free) v.made.free slots now (on held now))
        → (made : Made) → z.base ≤ made.free → Makes (λ v. Done z nothing_known made v.made (λ x. e.value here >>= on) (IsIn v.slot)) (l.value z.scope made then (λ v. computed v.made (kind v) span))
    one_operand l e kind span on k does made le = with_value (λ (v : Value). v.made) (λ v. IsIn v.slot) l e on k made le (λ v. computed v.made (kind v) span)
        (λ v up both own. op_done z set (And nothing_known (IsIn v.slot)) v.made (kind v) span (λ p. on p.1) (omega (arith, le, up))
        (λ p f rest tasks slots now room agrees knows. does v (omega (arith, le, up)) p.1 f rest tasks slots now room agrees knows.1))

    pub length_value : (l : Lowering) (e : Evaluation) (span : Span) → Kept z members calls turns l e → (made : Made) → z.base ≤ made.free
        → Makes (λ v. Done z nothing_known made v.made (λ x. e.value here >>= source.length_of span.from) (IsIn v.slot)) (l.value z.scope made then (λ o. computed o.made (op.Length o.made.free o.slot) span))
    length_value l e span k = one_operand l e (λ o. op.Length o.made.free o.slot) span (source.length_of span.from) k
        (λ v le held f rest tasks slots now room agrees is. length_given z set f v.made.free v.slot span rest tasks slots now le room agrees held is)

    pub new_array_value : (l : Lowering) (e : Evaluation) (span : Span) → l.span ≡ e.span → Kept z members calls turns l e → (made : Made) → z.base ≤ made.free
        → Makes (λ v. Done z nothing_known made v.made (λ x. (source.new_array e span).value here) (IsIn v.slot)) ((values.new_array l span).value z.scope made)
    new_array_value l e span same k made le =
        subst (λ (at_size : Span). Makes (λ v. Done z nothing_known made v.made (λ x. e.value here >>= (λ n. source.array_of at_size.from (type_at z.scope span) (int_of n))) (IsIn v.slot)) ((values.new_array l span).value z.scope made)) same
        (one_operand l e (λ n. op.NewArray n.made.free (type_at z.scope span) n.slot) l.span (λ n. source.array_of l.span.from (type_at z.scope span) (int_of n)) k
        (λ v le held f rest tasks slots now room agrees is. array_given z set f v.made.free v.slot (type_at z.scope span) l.span rest tasks slots now le room agrees (int_of held) (ap int_of is)) made le)

    pub with_one_value : (unary : UnaryNum) (l : Lowering) (e : Evaluation) (span : Span) → Kept z members calls turns l e → (made : Made) → z.base ≤ made.free
        → Makes (λ v. Done z nothing_known made v.made (λ x. (source.with_one unary e span).value here) (IsIn v.slot)) ((values.with_one unary l span).value z.scope made)
    with_one_value unary l e span k = one_operand l e (λ y. op.Unary y.made.free unary y.slot) span (λ x. source.int_result (unary_of unary (int_of x))) k
        (λ v le held f rest tasks slots now room agrees is.
        subst (λ held. Along z f (at f (before z (op.Unary v.made.free unary v.slot) span [] rest tasks) slots now.heap now.wrapped) (λ value. code_then rest tasks) (IsIn v.made.free) v.made.free slots now (source.int_result (unary_of unary (int_of held)) now)) is
        (result_given z set f (op.Unary v.made.free unary v.slot) span [] rest tasks slots now v.made.free (Some (unary_of unary (int_at slots v.slot))) le room agrees refl refl))

    -- ---- `this`, and fields

    pub this_value : {X : Type 0} (known : Fact X) → z.has_this ≡ true → (made : Made) → z.base ≤ made.free → Makes (λ v. Done z known made v.made (λ (x : X). source.of_this) (IsIn v.slot)) (in_place made 0)
    this_value known has made le = nothing_made z known made (λ x. source.of_this) 0 (slot_stays z 0 made.free (let low = set.this_low has in omega (arith, low, le)) (set.this_stays has))
        (λ x f next slots now agrees knows. at_once z f (λ value. next) (IsIn 0) made.free slots now now.variables.this agrees ((agrees.this has).0 ∙ sym (agrees.this has).1))

    module _ (same : SamePlaces z set here) where
      -- a field of the own object
      pub own_field_value : {X : Type 0} (known : Fact X) → z.has_this ≡ true → (field : ℕ) (span : Span) (made : Made) → z.base ≤ made.free
          → Makes (λ v. Done z known made v.made (λ (x : X). source.of_this >>= (λ this. source.get_field here span.from this field)) (IsIn v.slot)) (computed made (op.ReadField made.free 0 field) span)
      own_field_value known has field span made le = op_done z set known made (op.ReadField made.free 0 field) span (λ x. source.of_this >>= (λ this. source.get_field here span.from this field)) le
          (λ x f rest tasks slots now room agrees knows. get_given z set here same f made.free 0 field span rest tasks slots now le room agrees now.variables.this ((agrees.this has).0 ∙ sym (agrees.this has).1))

      pub field_value : (l : Lowering) (e : Evaluation) (field : ℕ) (span : Span) → Kept z members calls turns l e → (made : Made) → z.base ≤ made.free
          → Makes (λ v. Done z nothing_known made v.made (λ x. e.value here >>= (λ o. source.get_field here span.from o field)) (IsIn v.slot)) (l.value z.scope made then (λ o. computed o.made (op.ReadField o.made.free o.slot field) span))
      field_value l e field span k = one_operand l e (λ o. op.ReadField o.made.free o.slot field) span (λ o. source.get_field here span.from o field) k
          (λ v le held f rest tasks slots now room agrees is. get_given z set here same f v.made.free v.slot field span rest tasks slots now le room agrees held is)

    -- a constant, behind what stands before its dot
    pub constant_value : (l : Lowering) (e : Evaluation) (n : ℤ) (span : Span) → KeptUnused z members calls turns l e → (made : Made) → z.base ≤ made.free
        → Makes (λ v. Done z nothing_known made v.made (λ x. e.unused here >>= (λ done. gives (Num n))) (IsIn v.slot)) (l.unused z.scope made then values.int_value n span)
    constant_value l e n span k made le =
        then_done z (λ (m : Made). m) (λ m. nothing_known) (λ (v : Value). v.made) (λ v. IsIn v.slot) nothing_known made (λ x. e.unused here) (λ p. gives (Num n)) (λ x slots behind keeps known. tt) (l.unused z.scope made) (values.int_value n span) (k made le)
        (λ m up both own. literal_done (And nothing_known nothing_known) m (literal.Int n) span (omega (arith, le, up)))
