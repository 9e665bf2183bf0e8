-- Calls and `new` keep their meaning, where what the machine does at a call goes along with the source's call.
use Rattle.std.proofs.Common.{◌≡◌, ◌≤◌, ℕ, ◌+◌, Bool, true, false, List, [], Option, Some, None, refl, sym, subst, arith}
use Rattle.std.specs.Prelude.{if◌then◌else◌, is_some}
use Rattle.ix_text.specs.declared.span.Span.{Span}
use Rattle.ix_core.specs.declared.op.CallOp.{CallOp}
use Rattle.ix_core.specs.declared.op.OpKind.TheVariants as op
use Rattle.ix_core.specs.Heap.{Held, Null}
use Rattle.ix_tree.specs.declared.annot.Ident.{Ident}
use Rattle.ix_plain.specs.declared.made.Made.{Made}
use Rattle.ix_plain.specs.Scope.{head_at, constructor_at}
use Rattle.ix_plain.specs.Parts.{Within, ◌>>=◌ as ◌then◌, Value}
use Rattle.ix_plain.specs.Values as values
use Rattle.ix_plain.specs.Values.{Lowering, Arguments}
use Rattle.ix_source.specs.Runs.{Action, ◌>>=◌}
use Rattle.ix_source.specs.Context.{Context, Members, Calls}
use Rattle.ix_source.specs.Values as source
use Rattle.ix_source.specs.Values.{Evaluation, value_of, through, call_on, object_of}
use Rattle.ix_source.specs.Along.{Setting, IsSet}
use Rattle.ix_source.specs.Kept.{Makes, And, IsIn, nothing_known, anything, Stays, Done, Kept, KeptUnused, context}
use Rattle.ix_source.specs.Sound.{is_method, is_class}
use Rattle.ix_source.specs.Calling.{AreIn, ResultIn, CallsKept}
use Rattle.ix_source.proofs.Made.{makes_more, slot_stays, then_done}
use Rattle.ix_source.proofs.Operations.{at_hand, done_as, takes}
use Rattle.ix_source.proofs.Forms.{this_value}
use Rattle.ix_source.proofs.Lists.{AllKept, arguments_done, no_args_stay}

module _ (z : Setting) (set : IsSet z) (members : Members) (calls : Calls) (turns : ℕ) (kept : CallsKept z members calls turns) where
  abbrev here : Context
  here = context z members calls turns

  temporary_stays : (slot : ℕ) → z.base ≤ slot → Stays z (slot + 1) (IsIn slot)
  temporary_stays slot le = slot_stays z slot (slot + 1) (omega arith) (set.temporaries slot le)

  -- What is in the slot stays there, if anything is.
  result_stays : (method slot : ℕ) → z.base ≤ slot → Stays z (slot + 1) (ResultIn z method slot)
  result_stays method slot le value slots behind keeps is has = temporary_stays slot le value slots behind keeps (is has)

  -- ---- static methods (JLS 15.12)

  -- what stands before the dot
  abbrev pub UnusedKept : Option Lowering → Option Evaluation → Type 0
  UnusedKept None None = Unit {0}
  UnusedKept (Some l) (Some e) = KeptUnused z members calls turns l e
  UnusedKept _ _ = ⊥

  unused_done : (object : Option Lowering) (o : Option Evaluation) → UnusedKept object o → (made : Made) → z.base ≤ made.free
      → Makes (λ m. Done z nothing_known made m (λ x. source.unused_object o here) nothing_known) (values.unused_object object z.scope made)
  unused_done None None k made le = at_hand z nothing_known made (λ x. tt) nothing_known (λ x slots behind keeps known. tt) (λ x slots known. tt)
  unused_done (Some l) (Some e) k made le = k made le
  unused_done None (Some e) none made le = absurd none
  unused_done (Some l) None none made le = absurd none

  static_done : (object : Option Lowering) (o : Option Evaluation) (method : ℕ) (ls : List Lowering) (es : List Evaluation) (class : ℕ) (span : Span) → UnusedKept object o → AllKept z set members calls turns ls es → is_method z.tables z.scope.site method ≡ true → members.is_static method ≡ true → (made : Made) → z.base ≤ made.free
      → Makes (λ v. Done z nothing_known made v.made (λ x. source.static_call o method es here) (ResultIn z method v.slot)) (values.static_call object method ls class span z.scope made)
  static_done object o method ls es class span before args is static made le =
      then_done z (λ (m : Made). m) (λ m. nothing_known) (λ (v : Value). v.made) (λ v. ResultIn z method v.slot) nothing_known made (λ x. source.unused_object o here) (λ p. source.arguments_from [] es here >>= (λ given. calls.method method Null given >>= value_of))
      (λ x slots behind keeps known. tt) (values.unused_object object z.scope made) _ (unused_done object o before made le)
      (λ m up stays own. then_done z (λ (a : Arguments). a.made) (λ a. AreIn a.args) (λ (v : Value). v.made) (λ v. ResultIn z method v.slot) (And nothing_known nothing_known) m (λ p. source.arguments_from [] es here) (λ q. calls.method method Null q.1 >>= value_of) stays
      (values.arguments_from [] ls z.scope m) _ (arguments_done z set members calls turns (And nothing_known nothing_known) (λ p. []) [] ls es m (omega (arith, le, up)) args stays (no_args_stay z set members calls turns m.free) (λ p slots knows. refl))
      (λ a up_more both own_more.
      let call : CallOp = record { target = a.made.free; method = method; receiver = None; args = a.args; class = class; span = span } in
      takes z (And (And nothing_known nothing_known) (AreIn a.args)) a.made (op.StaticCall call) span (λ q. calls.method method Null q.1 >>= value_of) (ResultIn z method) (result_stays method a.made.free (omega (arith, le, up, up_more)))
      (λ q f rest tasks slots now room agrees knows decides. kept.static call q.1 is static f span rest tasks slots now (omega (arith, le, up, up_more)) room agrees knows.1 decides)))

  -- ---- methods of an object

  -- the object, or `this`
  abbrev pub ObjectKept : Option Lowering → Option Evaluation → Type 0
  ObjectKept None None = z.has_this ≡ true
  ObjectKept (Some l) (Some e) = Kept z members calls turns l e
  ObjectKept _ _ = ⊥

  object_done : (object : Option Lowering) (o : Option Evaluation) → ObjectKept object o → (made : Made) → z.base ≤ made.free
      → Makes (λ v. Done z nothing_known made v.made (λ x. source.object_value o here) (IsIn v.slot)) (values.object_value object z.scope made)
  object_done None None has made le = this_value z set members calls turns nothing_known has made le
  object_done (Some l) (Some e) k made le = k.value made le
  object_done None (Some e) none made le = absurd none
  object_done (Some l) None none made le = absurd none

  instance_done : (object : Option Lowering) (o : Option Evaluation) (method : ℕ) (ls : List Lowering) (es : List Evaluation) (span : Span) → ObjectKept object o → AllKept z set members calls turns ls es → is_method z.tables z.scope.site method ≡ true → members.is_static method ≡ false → (made : Made) → z.base ≤ made.free
      → Makes (λ v. Done z nothing_known made v.made (λ x. source.instance_call o span method es here) (ResultIn z method v.slot)) (values.instance_call object method ls span z.scope made)
  instance_done object o method ls es span before args is static made le =
      then_done z (λ (v : Value). v.made) (λ v. IsIn v.slot) (λ (v : Value). v.made) (λ v. ResultIn z method v.slot) nothing_known made (λ x. source.object_value o here)
      (λ p. source.arguments_from [] es here >>= (λ given. through span.from p.1 (call_on here span.from method p.1 given) >>= value_of)) (λ x slots behind keeps known. tt) (values.object_value object z.scope made) _ (object_done object o before made le)
      (λ v up stays own. then_done z (λ (a : Arguments). a.made) (λ a. AreIn a.args) (λ (v : Value). v.made) (λ v. ResultIn z method v.slot) (And nothing_known (IsIn v.slot)) v.made (λ p. source.arguments_from [] es here)
      (λ q. through span.from q.0.1 (call_on here span.from method q.0.1 q.1) >>= value_of) stays (values.arguments_from [] ls z.scope v.made) _
      (arguments_done z set members calls turns (And nothing_known (IsIn v.slot)) (λ p. []) [] ls es v.made (omega (arith, le, up)) args stays (no_args_stay z set members calls turns v.made.free) (λ p slots knows. refl))
      (λ a up_more both own_more.
      let call : CallOp = record { target = a.made.free; method = method; receiver = Some v.slot; args = a.args; class = values.object_class object z.scope; span = span } in
      takes z (And (And nothing_known (IsIn v.slot)) (AreIn a.args)) a.made (op.InstanceCall call) span (λ q. through span.from q.0.1 (call_on here span.from method q.0.1 q.1) >>= value_of) (ResultIn z method) (result_stays method a.made.free (omega (arith, le, up, up_more)))
      (λ q f rest tasks slots now room agrees knows decides. kept.instance call q.0.1 q.1 is static f span rest tasks slots now (omega (arith, le, up, up_more)) room agrees (knows.0.1, knows.1) decides)))

  -- ---- both

  abbrev pub ReceiverKept : Bool → Option Lowering → Option Evaluation → Type 0
  ReceiverKept true object o = UnusedKept object o
  ReceiverKept false object o = ObjectKept object o

  by_kind : (is_static : Bool) → (object : Option Lowering) (o : Option Evaluation) (method : ℕ) (ls : List Lowering) (es : List Evaluation) (class : ℕ) (span : Span) → ReceiverKept is_static object o → AllKept z set members calls turns ls es → is_method z.tables z.scope.site method ≡ true → members.is_static method ≡ is_static
      → (made : Made) → z.base ≤ made.free
      → Makes (λ v. Done z nothing_known made v.made (λ x. if is_static then source.static_call o method es here else source.instance_call o span method es here) (ResultIn z method v.slot)) (if is_static then values.static_call object method ls class span z.scope made else values.instance_call object method ls span z.scope made)
  by_kind true object o method ls es class span before args is static made le = static_done object o method ls es class span before args is static made le
  by_kind false object o method ls es class span before args is static made le = instance_done object o method ls es span before args is static made le

  -- A call of the method: its slot holds what the method gives back, if it has a result.
  pub called_done : (object : Option Lowering) (o : Option Evaluation) (method : ℕ) (ls : List Lowering) (es : List Evaluation) (ident : Ident) → ReceiverKept (head_at z.scope.site method).is_static object o → AllKept z set members calls turns ls es → is_method z.tables z.scope.site method ≡ true → (made : Made) → z.base ≤ made.free
      → Makes (λ v. Done z nothing_known made v.made (λ x. source.called o ident method es here) (ResultIn z method v.slot)) (values.called (head_at z.scope.site method) object method ls ident.span z.scope made)
  called_done object o method ls es ident before args is made le =
      subst (λ (is_static : Bool). Makes (λ v. Done z nothing_known made v.made (λ x. if is_static then source.static_call o method es here else source.instance_call o ident.span method es here) (ResultIn z method v.slot)) (values.called (head_at z.scope.site method) object method ls ident.span z.scope made)) (sym (kept.is_static method is))
      (by_kind (head_at z.scope.site method).is_static object o method ls es (head_at z.scope.site method).class ident.span before args is (kept.is_static method is) made le)

  -- its value isn't used
  pub called_runs : (method : ℕ) (action : Action Held) (made : Made) (r : Within Value) → Makes (λ v. Done z nothing_known made v.made (λ x. action) (ResultIn z method v.slot)) r → Makes (λ v. Done z nothing_known made v.made (λ x. action) anything) r
  called_runs method action made r d = makes_more _ _ (λ v a. done_as z nothing_known made v.made (λ x. action) (ResultIn z method v.slot) anything (λ value slots is. tt) (λ value slots behind keeps known. tt) a) r d

  -- its value is used
  pub called_value : (method : ℕ) → is_some (z.tables.routines method).default ≡ true → (action : Action Held) (made : Made) (r : Within Value) → Makes (λ v. Done z nothing_known made v.made (λ x. action) (ResultIn z method v.slot)) r → Makes (λ v. Done z nothing_known made v.made (λ x. action) (IsIn v.slot)) r
  called_value method has action made r d = makes_more _ _ (λ v a. done_as z nothing_known made v.made (λ x. action) (ResultIn z method v.slot) (IsIn v.slot) (λ value slots is. is has) (λ value slots behind keeps is. a.stays value slots behind keeps (λ has. is) has) a) r d

  -- ---- `new` (JLS 15.9)

  pub new_done : (class : ℕ) (ls : List Lowering) (es : List Evaluation) (span : Span) → AllKept z set members calls turns ls es → is_class z.scope.site class ≡ true → (made : Made) → z.base ≤ made.free
      → Makes (λ v. Done z nothing_known made v.made (λ x. source.arguments_from [] es here >>= (λ given. object_of here class given)) (IsIn v.slot))
      (values.arguments_from [] ls z.scope made then values.calling op.NewObject (constructor_at z.scope.site class) None class span)
  new_done class ls es span args is made le =
      then_done z (λ (a : Arguments). a.made) (λ a. AreIn a.args) (λ (v : Value). v.made) (λ v. IsIn v.slot) nothing_known made (λ p. source.arguments_from [] es here) (λ q. object_of here class q.1) (λ x slots behind keeps known. tt) (values.arguments_from [] ls z.scope made) _
      (arguments_done z set members calls turns nothing_known (λ p. []) [] ls es made le args (λ x slots behind keeps known. tt) (no_args_stay z set members calls turns made.free) (λ p slots knows. refl))
      (λ a up both own.
      let call : CallOp = record { target = a.made.free; method = constructor_at z.scope.site class; receiver = None; args = a.args; class = class; span = span } in
      takes z (And nothing_known (AreIn a.args)) a.made (op.NewObject call) span (λ q. object_of here class q.1) IsIn (temporary_stays a.made.free (omega (arith, le, up)))
      (λ q f rest tasks slots now room agrees knows decides. kept.made call q.1 is refl f span rest tasks slots now (omega (arith, le, up)) room agrees knows.1 decides))
