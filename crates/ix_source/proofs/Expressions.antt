-- The plain form of every expression keeps its meaning: the induction over all forms.
use Rattle.std.proofs.Common.{◌≡◌, ◌≤◌, ℕ, Bool, true, false, List, [], ◌∷◌, map, Option, Some, None, true≢false, refl, sym, ap, subst, ◌∙◌, arith}
use Rattle.std.specs.Prelude.{◌&&◌, ◌||◌, not, if◌then◌else◌, is_some}
use Rattle.ix_text.specs.declared.span.Span.{Span}
use Rattle.ix_num.specs.declared.arith.Arith.{Arith}
use Rattle.ix_core.specs.declared.code.Cond.TheVariants as cond
use Rattle.ix_core.specs.declared.op.Literal.TheVariants as literal
use Rattle.ix_core.specs.declared.op.OpKind.TheVariants as op
use Rattle.ix_core.specs.declared.op.UnaryNum.TheVariants as unary
use Rattle.ix_core.specs.Code.{Known}
use Rattle.ix_core.specs.Heap.{Held, Boolean, Num}
use Rattle.ix_core.specs.Machine.{is_true}
use Rattle.ix_core.specs.Tasks.{Ask, code_then, followed_by}
use Rattle.ix_core.specs.Types.{is_void}
use Rattle.ix_core.proofs.Cases.{equal}
use Rattle.ix_core.proofs.Translated.{cond_code-Known}
use Rattle.ix_tree.specs.declared.annot.Ident.{Ident}
use Rattle.ix_tree.specs.declared.expr.BinaryOp.{BinaryOp}
use Rattle.ix_tree.specs.declared.expr.BinaryOp.TheVariants as binary
use Rattle.ix_tree.specs.declared.expr.UnaryOp.{UnaryOp}
use Rattle.ix_tree.specs.declared.expr.UnaryOp.TheVariants as operator
use Rattle.ix_tree.specs.declared.expr.Expr.{Expr, Expr-F, ind-Expr, map-Expr, roll-Expr, fold-roll-Expr}
use Rattle.ix_tree.specs.declared.expr.ExprKind.{ExprKind, ExprKind-F, map-ExprKind, roll-ExprKind, fold-ExprKind, fold-roll-ExprKind}
use Rattle.ix_tree.specs.declared.expr.Init.{Init, Init-F, ind-Init, map-Init, roll-Init, fold-roll-Init}
use Rattle.ix_meaning.specs.declared.note.Meaning.{Meaning}
use Rattle.ix_meaning.specs.declared.note.Meaning.TheVariants as meaning
use Rattle.ix_plain.specs.declared.made.Made.{Made}
use Rattle.ix_plain.specs.Scope.{Scope, slot_of, meaning_at, type_at, head_at, is_among}
use Rattle.ix_plain.specs.Parts.{Within, ◌>>=◌ as ◌then◌, Value, Asked, empty, computed, in_place}
use Rattle.ix_plain.specs.Values as values
use Rattle.ix_plain.specs.Values.{Lowering, Filling, lowering, filling, without_value}
use Rattle.ix_source.specs.Runs.{Gives, Action, ◌>>=◌, gives}
use Rattle.ix_source.specs.Context.{Context, Members, Calls}
use Rattle.ix_source.specs.Values.{Evaluation, Initial, evaluation, initial, is_it_true, as_value}
use Rattle.ix_source.specs.Values as source
use Rattle.ix_source.specs.Seen.{at}
use Rattle.ix_source.specs.Along.{Setting, IsSet, Along}
use Rattle.ix_source.specs.Kept.{Makes, code_before, IsIn, IsSpot, nothing_known, anything, Done, Asks, IsBoolean, Answers, Kept, KeptRun, KeptUnused, KeptTarget, KeptInit, context}
use Rattle.ix_source.specs.Sound as sound
use Rattle.ix_source.specs.Sound.{Soundness, soundness, init_soundness, used, all_used, is_same, is_own, is_method, has_result}
use Rattle.ix_source.specs.Calling.{ResultIn, CallsKept}
use Rattle.ix_source.proofs.Paths.{one_step}
use Rattle.ix_source.proofs.Going.{at_once, along_then}
use Rattle.ix_source.proofs.Made.{makes_then, makes_more}
use Rattle.ix_source.proofs.Operations.{at_hand, done_as}
use Rattle.ix_source.proofs.Accesses.{SamePlaces}
use Rattle.ix_source.proofs.Forms.{literal_done, variable_done, arithmetic_value, element_value, length_value, new_array_value, with_one_value, this_value, own_field_value, field_value, constant_value}
use Rattle.ix_source.proofs.Lists.{AllKept, AllInitKept, filled_done}
use Rattle.ix_source.proofs.Assignments.{assignment_value, compound_value, step_value, variable_aims, own_field_aims, field_target, element_target}
use Rattle.ix_source.proofs.Conditions.{then_on, computes_condition, computes_answer, asks_answers, opposite_condition, both_condition, either_condition, compared_condition, asks_value}
use Rattle.ix_source.proofs.CallForms.{ReceiverKept, called_done, called_runs, called_value, new_done}

-- ---- tests

pub and_first : (a b : Bool) → a && b ≡ true → a ≡ true
and_first true b e = refl
and_first false b e = e

pub and_second : (a b : Bool) → a && b ≡ true → b ≡ true
and_second true b e = e
and_second false b e = absurd (true≢false (sym e))

not_true : (a : Bool) → not a ≡ true → a ≡ false
not_true true e = absurd (true≢false (sym e))
not_true false e = refl

or_first : (a b : Bool) → a || b ≡ true → b ≡ false → a ≡ true
or_first true b e none = refl
or_first false b e none = absurd (true≢false (sym e ∙ none))

is_owner : (m : Meaning) (o : Option Meaning) → is_same m o ≡ true → o ≡ Some m
is_owner (meaning.Local n) (Some (meaning.Local k)) e = ap (λ n. Some (meaning.Local n)) (equal k n e)
is_owner (meaning.Param n) (Some (meaning.Param k)) e = ap (λ n. Some (meaning.Param n)) (equal k n e)
is_owner (meaning.Local n) _ e = absurd (true≢false (sym e))
is_owner (meaning.Param n) _ e = absurd (true≢false (sym e))
is_owner _ _ e = absurd (true≢false (sym e))

module _ (z : Setting) (set : IsSet z) (members : Members) (calls : Calls) (turns : ℕ) (same : SamePlaces z set (context z members calls turns)) (kept : CallsKept z members calls turns) where
  abbrev here : Context
  here = context z members calls turns

  abbrev ValueDone : (Context → Action Held) → Made → Within Value → Type 0
  ValueDone action made r = Makes (λ v. Done z nothing_known made v.made (λ x. action here) (IsIn v.slot)) r

  abbrev RunDone : (Context → Action Held) → Made → Within Value → Type 0
  RunDone action made r = Makes (λ v. Done z nothing_known made v.made (λ x. action here) anything) r

  -- What is kept of an expression at that place that is sound there.
  pub record IsKept (span : Span) (l : Lowering) (e : Evaluation) (s : Soundness) : Type 0 where
    pub span_is : l.span ≡ e.span
    pub value : s.value z ≡ true → is_void (type_at z.scope span) ≡ false → Kept z members calls turns l e
    pub ran : s.value z ≡ true → KeptRun z members calls turns l e
    pub target : s.target z ≡ true → KeptTarget z members calls turns l e
    pub unused : s.unused z ≡ true → KeptUnused z members calls turns l e

  -- ---- the two makers

  run_done : (action : Context → Action Held) (made : Made) (r : Within Value) → ValueDone action made r → RunDone action made r
  run_done action made r d = makes_more _ _ (λ v a. done_as z nothing_known made v.made (λ x. action here) (IsIn v.slot) anything (λ value slots is. tt) (λ value slots behind keeps known. tt) a) r d

  unused_done : (action : Context → Action Held) (made : Made) (r : Within Value) → RunDone action made r → Makes (λ m. Done z nothing_known made m (λ x. action here >>= source.without_value) nothing_known) (r then without_value)
  unused_done action made r d = makes_then (λ v. Done z nothing_known made v.made (λ x. action here) anything) (λ m. Done z nothing_known made m (λ x. action here >>= source.without_value) nothing_known) r without_value d
      (λ v a. record {
        items = a.items;
        appended = a.appended;
        up = a.up;
        stays = λ x slots behind keeps known. tt;
        does = λ x f rest tasks slots now room agrees knows decides.
            along_then z f (at f (code_then (code_before a.items rest) tasks) slots now.heap now.wrapped) (λ value. code_then rest tasks) (λ done. code_then rest tasks) anything nothing_known made.free made.free slots now (omega arith) (action here now) source.without_value decides
            (a.does x f rest tasks slots now room agrees knows decides) (λ value after behind keeps agrees_then held decides_then. at_once z f (λ done. code_then rest tasks) nothing_known made.free behind after tt agrees_then tt);
      })

  computes_kept : (value : Scope → Made → Within Value) (action : Context → Action Held) (span : Span) → ((made : Made) → z.base ≤ made.free → ValueDone action made (value z.scope made)) → Kept z members calls turns (values.computes value span) (source.computes action span)
  computes_kept value action span d = record {
    value = d;
    condition = λ free le. computes_condition z nothing_known free (λ x. action here) (value z.scope (empty free)) (d (empty free) le);
    answer = λ free le. computes_answer z nothing_known free (λ x. action here) (value z.scope (empty free)) (d (empty free) le);
  }

  no_target : {A : Type 0} → false ≡ true → A
  no_target e = absurd (true≢false (sym e))

  computing : (value : Scope → Made → Within Value) (action : Context → Action Held) (test : Setting → Bool) (span : Span) → (test z ≡ true → (made : Made) → z.base ≤ made.free → ValueDone action made (value z.scope made))
      → IsKept span (values.computes value span) (source.computes action span) (sound.computes test span)
  computing value action test span d = record {
    span_is = refl;
    value = λ is some. computes_kept value action span (d is);
    ran = λ is made le. run_done action made (value z.scope made) (d is made le);
    target = λ none. no_target none;
    unused = λ is made le. unused_done action made (value z.scope made) (run_done action made (value z.scope made) (d is made le));
  }

  asks_kept : (condition : Scope → ℕ → Within Asked) (action : Context → Action Bool) (span : Span) → ((free : ℕ) → z.base ≤ free → Makes (Asks z nothing_known free (λ x. action here)) (condition z.scope free)) → Kept z members calls turns (values.asks condition span) (source.asks action span)
  asks_kept condition action span d = record {
    value = λ made le. asks_value z set nothing_known made (λ x. action here) span le (condition z.scope made.free) (d made.free le);
    condition = d;
    answer = λ free le. makes_more (Asks z nothing_known free (λ x. action here)) (Answers z nothing_known free (λ x. action here >>= as_value)) (λ asked a. asks_answers z nothing_known free (λ x. action here) asked a) (condition z.scope free) (d free le);
  }

  asking : (condition : Scope → ℕ → Within Asked) (action : Context → Action Bool) (test : Setting → Bool) (span : Span) → (test z ≡ true → (free : ℕ) → z.base ≤ free → Makes (Asks z nothing_known free (λ x. action here)) (condition z.scope free))
      → IsKept span (values.asks condition span) (source.asks action span) (sound.computes test span)
  asking condition action test span d = record {
    span_is = refl;
    value = λ is some. asks_kept condition action span (d is);
    ran = λ is made le. run_done (λ context. action context >>= as_value) made (values.asked_value condition span z.scope made) ((asks_kept condition action span (d is)).value made le);
    target = λ none. no_target none;
    unused = λ is made le. unused_done (λ context. action context >>= as_value) made (values.asked_value condition span z.scope made)
        (run_done (λ context. action context >>= as_value) made (values.asked_value condition span z.scope made) ((asks_kept condition action span (d is)).value made le));
  }

  -- ---- literals

  known_asks : (free : ℕ) (answer : Bool) → Asks z nothing_known free (λ (x : Unit {0}). gives (Boolean answer) >>= is_it_true) (record { cond = cond.Known answer; free = free })
  known_asks free answer = record {
    up = omega arith;
    does = λ x f first_tasks second_tasks tasks slots now room agrees knows decides.
        subst (λ c. Along z f (at f (Ask c first_tasks second_tasks tasks) slots now.heap now.wrapped) (λ answer. followed_by (if answer then first_tasks else second_tasks) tasks) (λ answer slots. Unit {0}) free slots now (Gives answer now)) (sym (cond_code-Known answer))
        (then_on z f (Ask (Known answer) first_tasks second_tasks tasks) (followed_by (if answer then first_tasks else second_tasks) tasks) (λ answer. followed_by (if answer then first_tasks else second_tasks) tasks) (λ answer slots. Unit {0}) free slots now (one_step z.tables _ _ refl) (Gives answer now)
        (at_once z f (λ answer. followed_by (if answer then first_tasks else second_tasks) tasks) (λ answer slots. Unit {0}) free slots now answer agrees tt));
  }

  known_answers : (free : ℕ) (answer : Bool) → Answers z nothing_known free (λ (x : Unit {0}). gives (Boolean answer)) (record { cond = cond.Known answer; free = free })
  known_answers free answer = record {
    up = omega arith;
    does = λ x f first_tasks second_tasks tasks slots now room agrees knows decides.
        subst (λ c. Along z f (at f (Ask c first_tasks second_tasks tasks) slots now.heap now.wrapped) (λ value. followed_by (if is_true value then first_tasks else second_tasks) tasks) (IsBoolean z) free slots now (Gives (Boolean answer) now)) (sym (cond_code-Known answer))
        (then_on z f (Ask (Known answer) first_tasks second_tasks tasks) (followed_by (if answer then first_tasks else second_tasks) tasks) (λ value. followed_by (if is_true value then first_tasks else second_tasks) tasks) (IsBoolean z) free slots now (one_step z.tables _ _ refl) (Gives (Boolean answer) now)
        (at_once z f (λ value. followed_by (if is_true value then first_tasks else second_tasks) tasks) (IsBoolean z) free slots now (Boolean answer) agrees (answer, refl)));
  }

  bool_kept : (answer : Bool) (span : Span) → IsKept span (values.bool answer span) (source.constant (Boolean answer) span) (sound.computes (λ z. true) span)
  bool_kept answer span =
      let plain = computing (λ scope made. computed made (op.Const made.free (literal.Bool answer)) span) (λ context. gives (Boolean answer)) (λ z. true) span (λ is made le. literal_done z set nothing_known made (literal.Bool answer) span le) in
      record {
        span_is = refl;
        value = λ is some. record { value = (plain.value is some).value; condition = λ free le. known_asks free answer; answer = λ free le. known_answers free answer };
        ran = plain.ran;
        target = plain.target;
        unused = plain.unused;
      }

  -- ---- names

  named_done : (span : Span) (m : Option Meaning) → sound.named z m ≡ true → (made : Made) → z.base ≤ made.free → Makes (λ v. Done z nothing_known made v.made (λ x. source.named here span m) (IsIn v.slot)) (values.named z.scope span m made)
  named_done span (Some (meaning.Local n)) is made le = variable_done z set nothing_known made span (meaning.Local n) (slot_of z.scope (Some (meaning.Local n))) le (is_owner (meaning.Local n) (z.owner (slot_of z.scope (Some (meaning.Local n)))) is)
  named_done span (Some (meaning.Param n)) is made le = variable_done z set nothing_known made span (meaning.Param n) (slot_of z.scope (Some (meaning.Param n))) le (is_owner (meaning.Param n) (z.owner (slot_of z.scope (Some (meaning.Param n)))) is)
  named_done span (Some (meaning.FieldNamed field)) has made le = own_field_value z set members calls turns same nothing_known has field span made le
  named_done span (Some (meaning.Constant n)) is made le = literal_done z set nothing_known made (literal.Int n) span le
  named_done span None none made le = no_target none
  named_done span (Some (meaning.ClassNamed n)) none made le = no_target none
  named_done span (Some (meaning.MethodNamed n)) none made le = no_target none
  named_done span (Some meaning.LengthOf) none made le = no_target none

  -- where its value isn't used
  abbrev NamedUnused : Span → Option Meaning → Made → Type 0
  NamedUnused span m made = Makes (λ a. Done z nothing_known made a (λ x. source.named_unused here span m) nothing_known) (values.named_unused z.scope span m made)

  named_then : (span : Span) (m : Option Meaning) → sound.named z m ≡ true → (made : Made) → z.base ≤ made.free → Makes (λ a. Done z nothing_known made a (λ x. source.named here span m >>= source.without_value) nothing_known) (values.named z.scope span m made then without_value)
  named_then span m is made le = unused_done (λ context. source.named context span m) made (values.named z.scope span m made) (run_done (λ context. source.named context span m) made (values.named z.scope span m made) (named_done span m is made le))

  named_unused_done : (span : Span) (m : Option Meaning) → sound.named_unused z m ≡ true → (made : Made) → z.base ≤ made.free → NamedUnused span m made
  named_unused_done span (Some (meaning.ClassNamed n)) is made le = at_hand z nothing_known made (λ x. tt) nothing_known (λ x slots behind keeps known. tt) (λ x slots known. tt)
  named_unused_done span (Some (meaning.Local n)) is made le = named_then span (Some (meaning.Local n)) is made le
  named_unused_done span (Some (meaning.Param n)) is made le = named_then span (Some (meaning.Param n)) is made le
  named_unused_done span (Some (meaning.FieldNamed n)) is made le = named_then span (Some (meaning.FieldNamed n)) is made le
  named_unused_done span (Some (meaning.Constant n)) is made le = named_then span (Some (meaning.Constant n)) is made le
  named_unused_done span None none made le = no_target none
  named_unused_done span (Some (meaning.MethodNamed n)) none made le = no_target none
  named_unused_done span (Some meaning.LengthOf) none made le = no_target none

  variable_target : (m : Meaning) → sound.is_assigned z m ≡ true → (made : Made) → Done z nothing_known made made (λ (x : Unit {0}). gives (source.Variable (Some m))) (IsSpot z (Rattle.ix_plain.specs.declared.made.Spot.TheVariants.Variable (slot_of z.scope (Some m))))
  variable_target m is made = variable_aims z set members calls turns same made m (is_owner m (z.owner (slot_of z.scope (Some m))) (and_first (is_own z m) (is_among (slot_of z.scope (Some m)) z.scope.assigned) is)) (and_second (is_own z m) (is_among (slot_of z.scope (Some m)) z.scope.assigned) is)

  named_target_done : (m : Option Meaning) → sound.named_target z m ≡ true → (made : Made) → z.base ≤ made.free → Done z nothing_known made made (λ (x : Unit {0}). source.named_target m) (IsSpot z (values.named_spot z.scope m))
  named_target_done (Some (meaning.Local n)) is made le = variable_target (meaning.Local n) is made
  named_target_done (Some (meaning.Param n)) is made le = variable_target (meaning.Param n) is made
  named_target_done (Some (meaning.FieldNamed field)) has made le = own_field_aims z set members calls turns same made field has le
  named_target_done None none made le = no_target none
  named_target_done (Some (meaning.Constant n)) none made le = no_target none
  named_target_done (Some (meaning.ClassNamed n)) none made le = no_target none
  named_target_done (Some (meaning.MethodNamed n)) none made le = no_target none
  named_target_done (Some meaning.LengthOf) none made le = no_target none

  name_kept : (ident : Ident) (span : Span) → IsKept span (values.name ident span) (source.name ident span) (sound.name ident span)
  name_kept ident span =
      let m = meaning_at z.scope ident.span in
      let plain = computing (λ scope made. values.named scope span (meaning_at scope ident.span) made) (λ context. source.named context span (Rattle.ix_source.specs.Context.meaning_at context ident.span)) (λ z. sound.named z (meaning_at z.scope ident.span)) span (λ is made le. named_done span m is made le) in
      record {
        span_is = refl;
        value = λ is some. record { value = (plain.value is some).value; condition = (plain.value is some).condition; answer = (plain.value is some).answer };
        ran = plain.ran;
        target = λ is made le. named_target_done m is made le;
        unused = λ is made le. named_unused_done span m is made le;
      }

  -- ---- what is kept of parts

  used_kept : (span : Span) (l : Lowering) (e : Evaluation) (s : Soundness) → s.span ≡ span → IsKept span l e s → used s z ≡ true → Kept z members calls turns l e
  used_kept span l e s at_span k is = k.value (and_first (s.value z) (not (is_void (type_at z.scope s.span))) is)
      (ap (λ span. is_void (type_at z.scope span)) (sym at_span) ∙ not_true (is_void (type_at z.scope s.span)) (and_second (s.value z) (not (is_void (type_at z.scope s.span))) is))

  abbrev Part : Lowering → Evaluation → Soundness → Type 0
  Part l e s = IsKept s.span l e s

  part : (l : Lowering) (e : Evaluation) (s : Soundness) → Part l e s → used s z ≡ true → Kept z members calls turns l e
  part l e s k is = used_kept s.span l e s refl k is

  -- ---- selections

  selected_done : (object : Lowering) (o : Evaluation) (s : Soundness) (span : Span) → Part object o s → (m : Option Meaning) → sound.selected s z m ≡ true → (made : Made) → z.base ≤ made.free
      → Makes (λ v. Done z nothing_known made v.made (λ x. source.selected o span here m) (IsIn v.slot)) (values.selected object span z.scope m made)
  selected_done object o s span k (Some (meaning.Constant n)) is made le = constant_value z set members calls turns object o n span (k.unused is) made le
  selected_done object o s span k (Some (meaning.FieldNamed field)) is made le = field_value z set members calls turns same object o field span (part object o s k is) made le
  selected_done object o s span k (Some meaning.LengthOf) is made le = length_value z set members calls turns object o span (part object o s k is) made le
  selected_done object o s span k None none made le = no_target none
  selected_done object o s span k (Some (meaning.Local n)) none made le = no_target none
  selected_done object o s span k (Some (meaning.Param n)) none made le = no_target none
  selected_done object o s span k (Some (meaning.ClassNamed n)) none made le = no_target none
  selected_done object o s span k (Some (meaning.MethodNamed n)) none made le = no_target none

  selected_used : (s : Soundness) (m : Option Meaning) → sound.selected_target s z m ≡ true → used s z ≡ true
  selected_used s (Some (meaning.FieldNamed field)) is = is
  selected_used s None none = no_target none
  selected_used s (Some (meaning.Local n)) none = no_target none
  selected_used s (Some (meaning.Param n)) none = no_target none
  selected_used s (Some (meaning.Constant n)) none = no_target none
  selected_used s (Some (meaning.ClassNamed n)) none = no_target none
  selected_used s (Some (meaning.MethodNamed n)) none = no_target none
  selected_used s (Some meaning.LengthOf) none = no_target none

  selection_kept : (object : Lowering) (o : Evaluation) (s : Soundness) (ident : Ident) (span : Span) → Part object o s → IsKept span (values.selection object ident span) (source.selection o ident span) (sound.selection s ident span)
  selection_kept object o s ident span k =
      let m = meaning_at z.scope ident.span in
      let plain = computing (λ scope made. values.selected object span scope (meaning_at scope ident.span) made) (λ context. source.selected o span context (Rattle.ix_source.specs.Context.meaning_at context ident.span)) (λ z. sound.selected s z (meaning_at z.scope ident.span)) span (λ is made le. selected_done object o s span k m is made le) in
      record {
        span_is = refl;
        value = λ is some. record { value = (plain.value is some).value; condition = (plain.value is some).condition; answer = (plain.value is some).answer };
        ran = plain.ran;
        target = λ is made le. field_target z set members calls turns same object o (values.field_number m) (part object o s k (selected_used s m is)) made le;
        unused = plain.unused;
      }

  -- ---- elements

  element_kept : (array index : Lowering) (a i : Evaluation) (s t : Soundness) (span : Span) → Part array a s → Part index i t → IsKept span (values.element array index span) (source.element a i span) (sound.element s t span)
  element_kept array index a i s t span x y =
      let both : used s z && used t z ≡ true → Kept z members calls turns array a × Kept z members calls turns index i = λ is. (part array a s x (and_first (used s z) (used t z) is), part index i t y (and_second (used s z) (used t z) is)) in
      let plain = computing (λ scope made. (values.element array index span).value scope made) (λ context. (source.element a i span).value context) (sound.both_used s t) span
      (λ is made le. element_value z set members calls turns array index a i span y.span_is (both is).0 (both is).1 made le) in
      record {
        span_is = refl;
        value = λ is some. record { value = (plain.value is some).value; condition = (plain.value is some).condition; answer = (plain.value is some).answer };
        ran = plain.ran;
        target = λ is. element_target z set members calls turns same array index a i span y.span_is (both is).0 (both is).1;
        unused = plain.unused;
      }

  -- ---- calls

  abbrev IsCall : Option Soundness → List Soundness → Span → Option Meaning → ℕ → Type 0
  IsCall object args span m method = (m ≡ Some (meaning.MethodNamed method)) × (is_method z.tables z.scope.site method ≡ true) × (has_result z method span ≡ true) × (sound.received object (head_at z.scope.site method).is_static z ≡ true) × (all_used args z ≡ true)

  call_is : (object : Option Soundness) (args : List Soundness) (span : Span) (m : Option Meaning) → sound.called object args span z m ≡ true → (method : ℕ) × IsCall object args span m method
  call_is object args span (Some (meaning.MethodNamed method)) is =
      let rest = and_second (is_method z.tables z.scope.site method) (has_result z method span && (sound.received object (head_at z.scope.site method).is_static z && all_used args z)) is in
      let last = and_second (has_result z method span) (sound.received object (head_at z.scope.site method).is_static z && all_used args z) rest in
      (method, (refl, and_first (is_method z.tables z.scope.site method) _ is, and_first (has_result z method span) _ rest, and_first (sound.received object (head_at z.scope.site method).is_static z) (all_used args z) last, and_second (sound.received object (head_at z.scope.site method).is_static z) (all_used args z) last))
  call_is object args span None none = no_target none
  call_is object args span (Some (meaning.Local n)) none = no_target none
  call_is object args span (Some (meaning.Param n)) none = no_target none
  call_is object args span (Some (meaning.FieldNamed n)) none = no_target none
  call_is object args span (Some (meaning.Constant n)) none = no_target none
  call_is object args span (Some (meaning.ClassNamed n)) none = no_target none
  call_is object args span (Some meaning.LengthOf) none = no_target none

  module _ (object : Option Lowering) (o : Option Evaluation) (so : Option Soundness) (ls : List Lowering) (es : List Evaluation) (ss : List Soundness) (receiver : (b : Bool) → sound.received so b z ≡ true → ReceiverKept z set members calls turns kept b object o) (args : all_used ss z ≡ true → AllKept z set members calls turns ls es) (ident : Ident) (span : Span) where
    abbrev m : Option Meaning
    m = meaning_at z.scope ident.span

    abbrev Called : ℕ → Option Meaning → Made → Type 0
    Called method m made = Makes (λ v. Done z nothing_known made v.made (λ x. source.called o ident (source.method_number m) es here) (ResultIn z method v.slot)) (values.called (head_at z.scope.site (values.method_number m)) object (values.method_number m) ls ident.span z.scope made)

    call_does : (method : ℕ) → IsCall so ss span m method → (made : Made) → z.base ≤ made.free → Called method m made
    call_does method (means, is, result, received, all) made le = subst (λ m. Called method m made) (sym means) (called_done z set members calls turns kept object o method ls es ident (receiver (head_at z.scope.site method).is_static received) (args all) is made le)

    call_runs : sound.called so ss span z m ≡ true → (made : Made) → z.base ≤ made.free → RunDone (λ context. source.called o ident (source.method_number (Rattle.ix_source.specs.Context.meaning_at context ident.span)) es context) made (values.called (head_at z.scope.site (values.method_number m)) object (values.method_number m) ls ident.span z.scope made)
    call_runs is made le = let found = call_is so ss span m is in called_runs z set members calls turns kept found.0 (source.called o ident (source.method_number m) es here) made _ (call_does found.0 found.1 made le)

    call_gives : sound.called so ss span z m ≡ true → is_void (type_at z.scope span) ≡ false → (made : Made) → z.base ≤ made.free → ValueDone (λ context. source.called o ident (source.method_number (Rattle.ix_source.specs.Context.meaning_at context ident.span)) es context) made (values.called (head_at z.scope.site (values.method_number m)) object (values.method_number m) ls ident.span z.scope made)
    call_gives is some made le = let (method, call) = call_is so ss span m is in
        called_value z set members calls turns kept method (or_first (is_some (z.tables.routines method).default) (is_void (type_at z.scope span)) call.2 some) (source.called o ident (source.method_number m) es here) made _ (call_does method call made le)

    call_kept : IsKept span (values.call object ident ls span) (source.call o ident es span) (sound.computes (λ z. sound.called so ss span z (meaning_at z.scope ident.span)) span)
    call_kept = record {
      span_is = refl;
      value = λ is some. computes_kept (λ scope made. values.called (head_at scope.site (values.method_number (meaning_at scope ident.span))) object (values.method_number (meaning_at scope ident.span)) ls ident.span scope made)
          (λ context. source.called o ident (source.method_number (Rattle.ix_source.specs.Context.meaning_at context ident.span)) es context) span (call_gives is some);
      ran = call_runs;
      target = λ none. no_target none;
      unused = λ is made le. unused_done (λ context. source.called o ident (source.method_number (Rattle.ix_source.specs.Context.meaning_at context ident.span)) es context) made _ (call_runs is made le);
    }

    abbrev MadeNew : Option Meaning → Made → Type 0
    MadeNew m made = Makes (λ v. Done z nothing_known made v.made (λ x. source.arguments_from [] es here >>= (λ given. source.object_of here (source.class_number m) given)) (IsIn v.slot))
        (values.arguments_from [] ls z.scope made then values.calling op.NewObject (Rattle.ix_plain.specs.Scope.constructor_at z.scope.site (values.class_number m)) None (values.class_number m) span)

    new_by : (found : Option Meaning) → sound.created ss z found ≡ true → (made : Made) → z.base ≤ made.free → MadeNew found made
    new_by (Some (meaning.ClassNamed class)) is made le = new_done z set members calls turns kept class ls es span (args (and_second (sound.is_class z.scope.site class) (all_used ss z) is)) (and_first (sound.is_class z.scope.site class) (all_used ss z) is) made le
    new_by None none made le = no_target none
    new_by (Some (meaning.Local n)) none made le = no_target none
    new_by (Some (meaning.Param n)) none made le = no_target none
    new_by (Some (meaning.FieldNamed n)) none made le = no_target none
    new_by (Some (meaning.Constant n)) none made le = no_target none
    new_by (Some (meaning.MethodNamed n)) none made le = no_target none
    new_by (Some meaning.LengthOf) none made le = no_target none

    new_kept : IsKept span (values.new_object ident ls span) (source.new_object ident es span) (sound.computes (λ z. sound.created ss z (meaning_at z.scope ident.span)) span)
    new_kept = computing (λ scope made. (values.new_object ident ls span).value scope made) (λ context. (source.new_object ident es span).value context) (λ z. sound.created ss z (meaning_at z.scope ident.span)) span (λ is made le. new_by m is made le)

  -- ---- operators

  unary_kept : (o : UnaryOp) (l : Lowering) (e : Evaluation) (s : Soundness) (span : Span) → Part l e s → IsKept span (values.unary_of o l span) (source.unary_of_operand o e span) (sound.computes (used s) span)
  unary_kept operator.Plus l e s span k = computing (λ scope made. l.value scope made) (λ context. e.value context) (used s) span (λ is made le. (part l e s k is).value made le)
  unary_kept operator.Minus l e s span k = computing (λ scope made. (values.with_one unary.Neg l span).value scope made) (λ context. (source.with_one unary.Neg e span).value context) (used s) span (λ is made le. with_one_value z set members calls turns unary.Neg l e span (part l e s k is) made le)
  unary_kept operator.Flip l e s span k = computing (λ scope made. (values.with_one unary.Flip l span).value scope made) (λ context. (source.with_one unary.Flip e span).value context) (used s) span (λ is made le. with_one_value z set members calls turns unary.Flip l e span (part l e s k is) made le)
  unary_kept operator.Not l e s span k = asking (values.opposite l) (source.opposite e) (used s) span (λ is free le. opposite_condition z nothing_known free (λ x. e.holds here) (l.condition z.scope free) ((part l e s k is).condition free le))

  binary_kept : (o : BinaryOp) (left right : Lowering) (l r : Evaluation) (s t : Soundness) (span : Span) → Part left l s → Part right r t → IsKept span (values.binary_of o left right span) (source.binary_of o l r span) (sound.computes (sound.both_used s t) span)
  binary_kept o left right l r s t span x y = go o
    where
      a : used s z && used t z ≡ true → Kept z members calls turns left l
      a is = part left l s x (and_first (used s z) (used t z) is)

      b : used s z && used t z ≡ true → Kept z members calls turns right r
      b is = part right r t y (and_second (used s z) (used t z) is)

      go : (o : BinaryOp) → IsKept span (values.binary_of o left right span) (source.binary_of o l r span) (sound.computes (sound.both_used s t) span)
      go (binary.Num o) = computing (λ scope made. (values.arithmetic o left right span).value scope made) (λ context. (source.arithmetic o l r span).value context) (sound.both_used s t) span (λ is made le. arithmetic_value z set members calls turns o left right l r span (a is) (b is) made le)
      go (binary.Compare rel) = asking (values.compared rel left right) (source.compared rel l r) (sound.both_used s t) span (λ is free le. compared_condition z members calls turns rel left right l r x.span_is (a is) (b is) free le)
      go binary.AndAlso = asking (values.both left right) (source.both l r) (sound.both_used s t) span
          (λ is free le. both_condition z nothing_known free (λ x. l.holds here) (λ x. r.holds here) (λ x slots behind keeps known. tt) (left.condition z.scope free) (λ n. right.condition z.scope n) ((a is).condition free le) (λ c up. (b is).condition c.free (omega (arith, le, up))))
      go binary.OrElse = asking (values.either left right) (source.either l r) (sound.both_used s t) span
          (λ is free le. either_condition z nothing_known free (λ x. l.holds here) (λ x. r.holds here) (λ x slots behind keeps known. tt) (left.condition z.scope free) (λ n. right.condition z.scope n) ((a is).condition free le) (λ c up. (b is).condition c.free (omega (arith, le, up))))

  assign_kept : (o : Option Arith) (target value : Lowering) (t v : Evaluation) (s w : Soundness) (span : Span) → Part target t s → Part value v w → IsKept span (values.assign_of o target value span) (source.assign_of o t v span) (sound.computes (λ z. s.target z && used w z) span)
  assign_kept None target value t v s w span x y = computing (λ scope made. (values.assignment target value span).value scope made) (λ context. (source.assignment t v span).value context) (λ z. s.target z && used w z) span
      (λ is made le. assignment_value z set members calls turns same target value t v span (x.target (and_first (s.target z) (used w z) is)) (part value v w y (and_second (s.target z) (used w z) is)) made le)
  assign_kept (Some o) target value t v s w span x y = computing (λ scope made. (values.compound o target value span).value scope made) (λ context. (source.compound o t v span).value context) (λ z. s.target z && used w z) span
      (λ is made le. compound_value z set members calls turns same o target value t v span x.span_is (x.target (and_first (s.target z) (used w z) is)) (part value v w y (and_second (s.target z) (used w z) is)) made le)

  -- ---- the induction

  abbrev kind_lowering : ExprKind → Span → Lowering
  kind_lowering = fold-ExprKind (Span → Lowering) Filling Lowering values.kind_step values.init_step values.expr_step

  abbrev kind_evaluation : ExprKind → Span → Evaluation
  kind_evaluation = fold-ExprKind (Span → Evaluation) Initial Evaluation source.kind_step source.init_step source.expr_step

  abbrev kind_soundness : ExprKind → Span → Soundness
  kind_soundness = fold-ExprKind (Span → Soundness) (Setting → Bool) Soundness sound.kind_step sound.init_step sound.expr_step

  abbrev KindKept : ExprKind → Type 0
  KindKept k = (span : Span) → IsKept span (kind_lowering k span) (kind_evaluation k span) (kind_soundness k span)

  -- What is kept of an initialiser that is sound.
  pub record IsInitKept (l : Filling) (e : Initial) (s : Setting → Bool) : Type 0 where
    pub span_is : l.span ≡ e.span
    pub value : s z ≡ true → KeptInit z members calls turns l e

  abbrev InitKept : Init → Type 0
  InitKept i = IsInitKept (filling i) (initial i) (init_soundness i)

  abbrev ExprKept : Expr → Type 0
  ExprKept e = Part (lowering e) (evaluation e) (soundness e)

  module _ {K I E : Type 0} (kind : K → ExprKind) (init : I → Init) (expr : E → Expr) (init_kept : (i : I) → InitKept (init i)) (expr_kept : (e : E) → ExprKept (expr e)) where
    abbrev layer : ExprKind-F K I E → ExprKind-F ExprKind Init Expr
    layer y = map-ExprKind K I E ExprKind Init Expr kind init expr y

    args_kept : (args : List E) → all_used (map soundness (map expr args)) z ≡ true → AllKept z set members calls turns (map lowering (map expr args)) (map evaluation (map expr args))
    args_kept [] is = tt
    args_kept (e ∷ es) is = (part (lowering (expr e)) (evaluation (expr e)) (soundness (expr e)) (expr_kept e) (and_first (used (soundness (expr e)) z) (all_used (map soundness (map expr es)) z) is), args_kept es (and_second (used (soundness (expr e)) z) (all_used (map soundness (map expr es)) z) is))

    items_kept : (items : List I) → sound.all_sound (map init_soundness (map init items)) z ≡ true → AllInitKept z set members calls turns (map filling (map init items)) (map initial (map init items))
    items_kept [] is = tt
    items_kept (i ∷ is) all = ((init_kept i).value (and_first (init_soundness (init i) z) (sound.all_sound (map init_soundness (map init is)) z) all), items_kept is (and_second (init_soundness (init i) z) (sound.all_sound (map init_soundness (map init is)) z) all))

    no_receiver : (b : Bool) → sound.received None b z ≡ true → ReceiverKept z set members calls turns kept b None None
    no_receiver true is = tt
    no_receiver false has = has

    receiver : (object : E) (b : Bool) → sound.received (Some (soundness (expr object))) b z ≡ true → ReceiverKept z set members calls turns kept b (Some (lowering (expr object))) (Some (evaluation (expr object)))
    receiver object true is = (expr_kept object).unused is
    receiver object false is = part (lowering (expr object)) (evaluation (expr object)) (soundness (expr object)) (expr_kept object) is

    abbrev KindLayer : ExprKind-F K I E → Span → Type 0
    KindLayer y span = IsKept span (values.kind_step (map-ExprKind ExprKind Init Expr (Span → Lowering) Filling Lowering kind_lowering filling lowering (layer y)) span)
        (source.kind_step (map-ExprKind ExprKind Init Expr (Span → Evaluation) Initial Evaluation kind_evaluation initial evaluation (layer y)) span)
        (sound.kind_step (map-ExprKind ExprKind Init Expr (Span → Soundness) (Setting → Bool) Soundness kind_soundness init_soundness soundness (layer y)) span)

    kind_layer : (y : ExprKind-F K I E) (span : Span) → KindLayer y span
    kind_layer (ExprKind-F.Int n) span = computing (λ scope made. values.int_value n span made) (λ context. gives (Num n)) (λ z. true) span (λ is made le. literal_done z set nothing_known made (literal.Int n) span le)
    kind_layer (ExprKind-F.Bool answer) span = bool_kept answer span
    kind_layer ExprKind-F.Null span = computing (λ scope made. (values.null span).value scope made) (λ context. gives Rattle.ix_core.specs.Heap.Null) (λ z. true) span (λ is made le. literal_done z set nothing_known made (literal.NullOf (type_at z.scope span)) span le)
    kind_layer ExprKind-F.This span = computing (λ scope made. in_place made 0) (λ context. source.of_this) (λ z. z.has_this) span (λ has made le. this_value z set members calls turns nothing_known has made le)
    kind_layer (ExprKind-F.Name ident) span = name_kept ident span
    kind_layer (ExprKind-F.Select object ident) span = selection_kept (lowering (expr object)) (evaluation (expr object)) (soundness (expr object)) ident span (expr_kept object)
    kind_layer (ExprKind-F.Index array index) span = element_kept (lowering (expr array)) (lowering (expr index)) (evaluation (expr array)) (evaluation (expr index)) (soundness (expr array)) (soundness (expr index)) span (expr_kept array) (expr_kept index)
    kind_layer (ExprKind-F.Call None ident args) span = call_kept None None None (map lowering (map expr args)) (map evaluation (map expr args)) (map soundness (map expr args)) no_receiver (args_kept args) ident span
    kind_layer (ExprKind-F.Call (Some object) ident args) span =
        call_kept (Some (lowering (expr object))) (Some (evaluation (expr object))) (Some (soundness (expr object))) (map lowering (map expr args)) (map evaluation (map expr args)) (map soundness (map expr args)) (receiver object) (args_kept args) ident span
    kind_layer (ExprKind-F.New ident args) span = new_kept None None None (map lowering (map expr args)) (map evaluation (map expr args)) (map soundness (map expr args)) no_receiver (args_kept args) ident span
    kind_layer (ExprKind-F.NewArray ty size) span = computing (λ scope made. (values.new_array (lowering (expr size)) span).value scope made) (λ context. (source.new_array (evaluation (expr size)) span).value context) (used (soundness (expr size))) span
        (λ is made le. new_array_value z set members calls turns (lowering (expr size)) (evaluation (expr size)) span (expr_kept size).span_is (part (lowering (expr size)) (evaluation (expr size)) (soundness (expr size)) (expr_kept size) is) made le)
    kind_layer (ExprKind-F.NewItems ty items) span = computing (λ scope made. values.filled (map filling (map init items)) span scope (type_at scope span) made) (λ context. source.filled (map initial (map init items)) context (Rattle.ix_source.specs.Context.type_at context span)) (sound.all_sound (map init_soundness (map init items))) span
        (λ is made le. filled_done z set members calls turns (map filling (map init items)) (map initial (map init items)) span (type_at z.scope span) made le (items_kept items is))
    kind_layer (ExprKind-F.Unary o operand) span = unary_kept o (lowering (expr operand)) (evaluation (expr operand)) (soundness (expr operand)) span (expr_kept operand)
    kind_layer (ExprKind-F.Binary o left right) span = binary_kept o (lowering (expr left)) (lowering (expr right)) (evaluation (expr left)) (evaluation (expr right)) (soundness (expr left)) (soundness (expr right)) span (expr_kept left) (expr_kept right)
    kind_layer (ExprKind-F.Assign o target value) span = assign_kept o (lowering (expr target)) (lowering (expr value)) (evaluation (expr target)) (evaluation (expr value)) (soundness (expr target)) (soundness (expr value)) span (expr_kept target) (expr_kept value)
    kind_layer (ExprKind-F.Step up after target) span = computing (λ scope made. (values.step up after (lowering (expr target)) span).value scope made) (λ context. (source.step up after (evaluation (expr target)) span).value context) (soundness (expr target)).target span
        (λ is made le. step_value z set members calls turns same up after (lowering (expr target)) (evaluation (expr target)) span (expr_kept target).span_is ((expr_kept target).target is) made le)

    kind_rolled : (y : ExprKind-F K I E) → KindKept (roll-ExprKind (layer y))
    kind_rolled y span =
        let a = fold-roll-ExprKind (Span → Lowering) Filling Lowering values.kind_step values.init_step values.expr_step (layer y) in
        let b = fold-roll-ExprKind (Span → Evaluation) Initial Evaluation source.kind_step source.init_step source.expr_step (layer y) in
        let c = fold-roll-ExprKind (Span → Soundness) (Setting → Bool) Soundness sound.kind_step sound.init_step sound.expr_step (layer y) in
        subst (λ (l : Span → Lowering). IsKept span (l span) (kind_evaluation (roll-ExprKind (layer y)) span) (kind_soundness (roll-ExprKind (layer y)) span)) (sym a)
        (subst (λ (e : Span → Evaluation). IsKept span (values.kind_step (map-ExprKind ExprKind Init Expr (Span → Lowering) Filling Lowering kind_lowering filling lowering (layer y)) span) (e span) (kind_soundness (roll-ExprKind (layer y)) span)) (sym b)
        (subst (λ (s : Span → Soundness). IsKept span (values.kind_step (map-ExprKind ExprKind Init Expr (Span → Lowering) Filling Lowering kind_lowering filling lowering (layer y)) span) (source.kind_step (map-ExprKind ExprKind Init Expr (Span → Evaluation) Initial Evaluation kind_evaluation initial evaluation (layer y)) span) (s span)) (sym c) (kind_layer y span)))

    init_layer : (y : Init-F K I E) → IsInitKept (values.init_step (map-Init ExprKind Init Expr (Span → Lowering) Filling Lowering kind_lowering filling lowering (map-Init K I E ExprKind Init Expr kind init expr y)))
        (source.init_step (map-Init ExprKind Init Expr (Span → Evaluation) Initial Evaluation kind_evaluation initial evaluation (map-Init K I E ExprKind Init Expr kind init expr y)))
        (sound.init_step (map-Init ExprKind Init Expr (Span → Soundness) (Setting → Bool) Soundness kind_soundness init_soundness soundness (map-Init K I E ExprKind Init Expr kind init expr y)))
    init_layer (Init-F.Value e) = record { span_is = (expr_kept e).span_is; value = λ is ty made le. (part (lowering (expr e)) (evaluation (expr e)) (soundness (expr e)) (expr_kept e) is).value made le }
    init_layer (Init-F.Items items span) = record { span_is = refl; value = λ is ty made le. filled_done z set members calls turns (map filling (map init items)) (map initial (map init items)) span ty made le (items_kept items is) }

    init_rolled : (y : Init-F K I E) → InitKept (roll-Init (map-Init K I E ExprKind Init Expr kind init expr y))
    init_rolled y =
        let all = map-Init K I E ExprKind Init Expr kind init expr y in
        let a = fold-roll-Init (Span → Lowering) Filling Lowering values.kind_step values.init_step values.expr_step all in
        let b = fold-roll-Init (Span → Evaluation) Initial Evaluation source.kind_step source.init_step source.expr_step all in
        let c = fold-roll-Init (Span → Soundness) (Setting → Bool) Soundness sound.kind_step sound.init_step sound.expr_step all in
        subst (λ l. IsInitKept l (initial (roll-Init all)) (init_soundness (roll-Init all))) (sym a)
        (subst (λ e. IsInitKept (values.init_step (map-Init ExprKind Init Expr (Span → Lowering) Filling Lowering kind_lowering filling lowering all)) e (init_soundness (roll-Init all))) (sym b)
        (subst (λ (s : Setting → Bool). IsInitKept (values.init_step (map-Init ExprKind Init Expr (Span → Lowering) Filling Lowering kind_lowering filling lowering all)) (source.init_step (map-Init ExprKind Init Expr (Span → Evaluation) Initial Evaluation kind_evaluation initial evaluation all)) s) (sym c) (init_layer y)))

    expr_rolled : ((k : K) → KindKept (kind k)) → (y : Expr-F K I E) → ExprKept (roll-Expr (map-Expr K I E ExprKind Init Expr kind init expr y))
    expr_rolled kind_kept y =
        let all = map-Expr K I E ExprKind Init Expr kind init expr y in
        let a = fold-roll-Expr (Span → Lowering) Filling Lowering values.kind_step values.init_step values.expr_step all in
        let b = fold-roll-Expr (Span → Evaluation) Initial Evaluation source.kind_step source.init_step source.expr_step all in
        let c = fold-roll-Expr (Span → Soundness) (Setting → Bool) Soundness sound.kind_step sound.init_step sound.expr_step all in
        let l = kind_lowering (kind y.kind) y.span in
        let e = kind_evaluation (kind y.kind) y.span in
        let s = kind_soundness (kind y.kind) y.span in
        let k = kind_kept y.kind y.span in
        subst (λ (l : Lowering). Part l (evaluation (roll-Expr all)) (soundness (roll-Expr all))) (sym a)
        (subst (λ (e : Evaluation). Part (record l { span = y.span }) e (soundness (roll-Expr all))) (sym b)
        (subst (λ (s : Soundness). Part (record l { span = y.span }) (record e { span = y.span }) s) (sym c)
        (record {
          span_is = refl;
          value = λ is some. let kept = k.value is some in record { value = kept.value; condition = kept.condition; answer = kept.answer };
          ran = λ is. k.ran is;
          target = λ is. k.target is;
          unused = λ is. k.unused is;
        })))

  -- Every expression is kept, as each place wants it, where it is sound there.
  pub expression_kept : (e : Expr) → ExprKept e
  expression_kept = ind-Expr KindKept InitKept ExprKept
      (λ x y e. subst (λ layer. KindKept (roll-ExprKind layer)) e (kind_rolled (λ k. k.0) (λ i. i.0) (λ x. x.0) (λ i. i.1) (λ x. x.1) y))
      (λ x y e. subst (λ layer. InitKept (roll-Init layer)) e (init_rolled (λ k. k.0) (λ i. i.0) (λ x. x.0) (λ i. i.1) (λ x. x.1) y))
      (λ x y e. subst (λ layer. ExprKept (roll-Expr layer)) e (expr_rolled (λ k. k.0) (λ i. i.0) (λ x. x.0) (λ i. i.1) (λ x. x.1) (λ k. k.1) y))

  -- So is every initialiser.
  pub initialiser_kept : (i : Init) → InitKept i
  initialiser_kept = ind-Init KindKept InitKept ExprKept
      (λ x y e. subst (λ layer. KindKept (roll-ExprKind layer)) e (kind_rolled (λ k. k.0) (λ i. i.0) (λ x. x.0) (λ i. i.1) (λ x. x.1) y))
      (λ x y e. subst (λ layer. InitKept (roll-Init layer)) e (init_rolled (λ k. k.0) (λ i. i.0) (λ x. x.0) (λ i. i.1) (λ x. x.1) y))
      (λ x y e. subst (λ layer. ExprKept (roll-Expr layer)) e (expr_rolled (λ k. k.0) (λ i. i.0) (λ x. x.0) (λ i. i.1) (λ x. x.1) (λ k. k.1) y))

  -- A sound expression whose value is used is kept, and its value isn't that of a call without a result.
  pub used_expression : (e : Expr) → used (soundness e) z ≡ true → Kept z members calls turns (lowering e) (evaluation e)
  used_expression e is = part (lowering e) (evaluation e) (soundness e) (expression_kept e) is
