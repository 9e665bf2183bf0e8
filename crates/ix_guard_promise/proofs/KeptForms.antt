-- What each form of an expression adds has the property, if what its parts add has it.
use Rattle.std.proofs.Common.{◌≡◌, ℕ, ℤ, pos, Bool, true, false, List, [], ◌∷◌, ◌++◌, Option, Some, None, refl, sym, subst, arith}
use Rattle.std.specs.Prelude.{if◌then◌else◌, ◌==◌}
use Rattle.ix_text.specs.declared.span.Span.{Span}
use Rattle.ix_num.specs.declared.arith.Arith.{Arith}
use Rattle.ix_num.specs.declared.arith.Arith.TheVariants.{Add, Sub}
use Rattle.ix_num.specs.declared.rel.Rel.{Rel}
use Rattle.ix_core.specs.declared.claim.Type_.{Type_}
use Rattle.ix_core.specs.declared.code.Cond.TheVariants as cond
use Rattle.ix_core.specs.declared.op.Arg.{Arg}
use Rattle.ix_core.specs.declared.op.CallOp.{CallOp}
use Rattle.ix_core.specs.declared.op.Literal.TheVariants as literal
use Rattle.ix_core.specs.declared.op.Op.{Op}
use Rattle.ix_core.specs.declared.op.OpKind.{OpKind}
use Rattle.ix_core.specs.declared.op.OpKind.TheVariants as op
use Rattle.ix_core.specs.declared.op.Test.{Test}
use Rattle.ix_core.specs.declared.op.UnaryNum.{UnaryNum}
use Rattle.ix_core.specs.declared.op.UnaryNum.TheVariants as unary
use Rattle.ix_core.specs.Types.{int_type, cell_type}
use Rattle.ix_core.proofs.Translated.{cond_code-Compare, cond_code-Both, cond_code-Either, cond_code-Opposite}
use Rattle.ix_tree.specs.declared.annot.Ident.{Ident}
use Rattle.ix_tree.specs.declared.expr.BinaryOp.{BinaryOp}
use Rattle.ix_tree.specs.declared.expr.BinaryOp.TheVariants as binary
use Rattle.ix_tree.specs.declared.expr.UnaryOp.{UnaryOp}
use Rattle.ix_tree.specs.declared.expr.UnaryOp.TheVariants as operator
use Rattle.ix_meaning.specs.declared.note.Meaning.{Meaning}
use Rattle.ix_meaning.specs.declared.note.Meaning.TheVariants as meaning
use Rattle.ix_plain.specs.declared.made.Made.{Made}
use Rattle.ix_plain.specs.declared.made.Spot.{Spot}
use Rattle.ix_plain.specs.declared.made.Spot.TheVariants as spot
use Rattle.ix_plain.specs.Scope.{Scope, slot_of, meaning_at, type_at, head_at, constructor_at, is_among}
use Rattle.ix_plain.specs.Parts.{Within, ◌>>=◌, Value, Target, empty, block, in_place, computed, read}
use Rattle.ix_plain.specs.Values as values
use Rattle.ix_plain.specs.Values.{Lowering, Filling, Arguments, without_value, int_value}
use Rattle.ix_formed.specs.Additions.{Makes, AllOf}
use Rattle.ix_formed.proofs.PlainItems.{makes_then, makes_both}
use Rattle.ix_guard_promise.specs.Known.{writes, accessed}
use Rattle.ix_guard_promise.specs.Pieces.{EachAsked, AsksNoLoop}
use Rattle.ix_guard_promise.specs.KeptSlots.{Leaves, LeavesAsked, Leaving, FillsLeaving}
use Rattle.ix_guard_promise.proofs.KeptItems.{Allows, ValueLeaves, leaves_none, leaves_both, then_known, then_leaves, then_value, done_leaves, computed_leaves, block_each, block_no_loop, computes_leaves, asks_leaves, loaded_leaves, write_leaves, read_leaves}

-- What an assignment writes to is a spot that may be written.
abbrev pub AimsAt : (Aims : Spot → Type 0) → Scope → Lowering → Type 0
AimsAt Aims scope l = (made : Made) → Makes (λ t. Aims t.spot) (l.target scope made)

-- The cell of an access is a spot that may be read.
abbrev pub CellAims : (Aims : Spot → Type 0) → Scope → (of at : Lowering) → Type_ → Span → Type 0
CellAims Aims scope of at ty span = (made : Made) → Makes (λ x. (next : Made) → Makes (λ y. Aims (spot.Cell x.slot y.slot ty span)) (at.value scope next)) (of.value scope made)

abbrev pub OptionLeaves : (P : Op → Type 0) → (Low : ℕ → Type 0) → Scope → Option Lowering → Type 0
OptionLeaves P Low scope None = Unit {0}
OptionLeaves P Low scope (Some object) = Leaving P Low scope object

module _ {P : Op → Type 0} {Low : ℕ → Type 0} {Aims : Spot → Type 0} (allows : Allows P Low Aims) (scope : Scope) where
  -- ---- names

  pub int_leaves : (n : ℤ) (span : Span) (made : Made) → Low made.free → ValueLeaves P made (int_value n span made)
  int_leaves n span made below = computed_leaves allows made (op.Const made.free (literal.Int n)) span below refl (λ slot. refl)

  copied_or_not : (b : Bool) (span : Span) (from : ℕ) (made : Made) → Low made.free
      → ValueLeaves P made (if b then computed made (op.Copy made.free from (type_at scope span)) span else in_place made from)
  copied_or_not true span from made below = computed_leaves allows made (op.Copy made.free from (type_at scope span)) span below refl (λ slot. refl)
  copied_or_not false span from made below = leaves_none made

  variable_leaves : (span : Span) (from : ℕ) (made : Made) → Low made.free → ValueLeaves P made (values.variable scope span from made)
  variable_leaves span from made below = copied_or_not (is_among from scope.assigned) span from made below

  named_leaves : (span : Span) (m : Option Meaning) (made : Made) → Low made.free → ValueLeaves P made (values.named scope span m made)
  named_leaves span (Some (meaning.Constant n)) made below = int_leaves n span made below
  named_leaves span (Some (meaning.FieldNamed field)) made below = computed_leaves allows made (op.ReadField made.free 0 field) span below refl (λ slot. refl)
  named_leaves span other made below = variable_leaves span (slot_of scope other) made below

  unused_leaves : (made : Made) (r : Within Value) → Low made.free → ValueLeaves P made r → Makes (Leaves P made) (r >>= without_value)
  unused_leaves made r below leaves = then_leaves allows (λ v. v.made) (λ m. m) made r without_value below leaves (λ v on. leaves_none v.made)

  named_unused_leaves : (span : Span) (m : Option Meaning) (made : Made) → Low made.free → Makes (Leaves P made) (values.named_unused scope span m made)
  named_unused_leaves span (Some (meaning.ClassNamed class)) made below = leaves_none made
  named_unused_leaves span other made below = unused_leaves made (values.named scope span other made) below (named_leaves span other made below)

  pub name_leaves : (ident : Ident) (span : Span) → Leaving P Low scope (values.name ident span)
  name_leaves ident span =
      let by_value = computes_leaves allows scope (λ at made. values.named at span (meaning_at at ident.span) made) span (λ made below. named_leaves span (meaning_at scope ident.span) made below) in
      record {
        value = by_value.value;
        condition = by_value.condition;
        target = λ made below. leaves_none made;
        unused = λ made below. named_unused_leaves span (meaning_at scope ident.span) made below;
      }

  -- ---- selections and arrays

  selected_leaves : (object : Lowering) → Leaving P Low scope object → (span : Span) (m : Option Meaning) (made : Made) → Low made.free
      → ValueLeaves P made (values.selected object span scope m made)
  selected_leaves object l span (Some (meaning.Constant n)) made below =
      then_leaves allows (λ m. m) (λ v. v.made) made (object.unused scope made) _ below (l.unused made below) (λ before on. int_leaves n span before on)
  selected_leaves object l span (Some (meaning.FieldNamed field)) made below =
      then_value allows made (object.value scope made) _ below (l.value made below) (λ o on. computed_leaves allows o.made (op.ReadField o.made.free o.slot field) span on refl (λ slot. refl))
  selected_leaves object l span other made below =
      then_value allows made (object.value scope made) _ below (l.value made below) (λ o on. computed_leaves allows o.made (op.Length o.made.free o.slot) span on refl (λ slot. refl))

  pub selection_leaves : (object : Lowering) (ident : Ident) (span : Span) → Leaving P Low scope object → Leaving P Low scope (values.selection object ident span)
  selection_leaves object ident span l =
      let by_value = computes_leaves allows scope (λ at made. values.selected object span at (meaning_at at ident.span) made) span
      (λ made below. selected_leaves object l span (meaning_at scope ident.span) made below) in
      record {
        value = by_value.value;
        condition = by_value.condition;
        unused = by_value.unused;
        target = λ made below. then_leaves allows (λ v. v.made) (λ t. t.made) made (object.value scope made) _ below (l.value made below) (λ o on. leaves_none o.made);
      }

  element_loads : (of at : Lowering) → Leaving P Low scope of → Leaving P Low scope at → CellAims Aims scope of at (type_at scope of.span) at.span → (made : Made) → Low made.free
      → ValueLeaves P made (of.value scope made >>= (λ x. at.value scope x.made >>= (λ y. computed y.made (op.Load y.made.free x.slot y.slot (type_at scope of.span)) at.span)))
  element_loads of at a i cell made below =
      then_known allows (λ v. v.made) (λ v. v.made) (λ x. (next : Made) → Makes (λ y. Aims (spot.Cell x.slot y.slot (type_at scope of.span) at.span)) (at.value scope next)) made (of.value scope made) _ below
      (makes_both (λ x. Leaves P made x.made) (λ x. (next : Made) → Makes (λ y. Aims (spot.Cell x.slot y.slot (type_at scope of.span) at.span)) (at.value scope next))
      (of.value scope made) (a.value made below) (cell made))
      (λ x on aims. then_known allows (λ v. v.made) (λ v. v.made) (λ y. Aims (spot.Cell x.slot y.slot (type_at scope of.span) at.span)) x.made (at.value scope x.made) _ on
      (makes_both (λ y. Leaves P x.made y.made) (λ y. Aims (spot.Cell x.slot y.slot (type_at scope of.span) at.span)) (at.value scope x.made) (i.value x.made on) (aims x.made))
      (λ y next aim. loaded_leaves allows y.made x.slot y.slot (type_at scope of.span) at.span next aim))

  pub element_leaves : (of at : Lowering) (span : Span) → Leaving P Low scope of → Leaving P Low scope at → CellAims Aims scope of at (type_at scope of.span) at.span
      → Leaving P Low scope (values.element of at span)
  element_leaves of at span a i cell =
      let by_value = computes_leaves allows scope
      (λ here made. of.value here made >>= (λ x. at.value here x.made >>= (λ y. computed y.made (op.Load y.made.free x.slot y.slot (type_at here of.span)) at.span))) span
      (element_loads of at a i cell) in
      record {
        value = by_value.value;
        condition = by_value.condition;
        unused = by_value.unused;
        target = λ made below. then_leaves allows (λ v. v.made) (λ t. t.made) made (of.value scope made) _ below (a.value made below)
            (λ x on. then_leaves allows (λ v. v.made) (λ t. t.made) x.made (at.value scope x.made) _ on (i.value x.made on) (λ y next. leaves_none y.made));
      }

  pub new_array_leaves : (size : Lowering) (span : Span) → Leaving P Low scope size → Leaving P Low scope (values.new_array size span)
  new_array_leaves size span l = computes_leaves allows scope _ span (λ made below. then_value allows made (size.value scope made) _ below (l.value made below)
      (λ n on. computed_leaves allows n.made (op.NewArray n.made.free (type_at scope span) n.slot) size.span on refl (λ slot. refl)))

  entries_leave : (slots : List ℕ) (entries : List Filling) → AllOf (FillsLeaving P Low scope) entries → (ty : Type_) (made : Made) → Low made.free
      → Makes (λ e. Leaves P made e.made) (values.entries_from slots entries scope ty made)
  entries_leave slots [] all ty made below = leaves_none made
  entries_leave slots (entry ∷ entries) all ty made below =
      then_leaves allows (λ v. v.made) (λ e. e.made) made (entry.value scope ty made) _ below (all.0 ty made below) (λ v on. entries_leave (slots ++ v.slot ∷ []) entries all.1 ty v.made on)

  pub filled_leaves : (entries : List Filling) (span : Span) → AllOf (FillsLeaving P Low scope) entries → (ty : Type_) (made : Made) → Low made.free
      → ValueLeaves P made (values.filled entries span scope ty made)
  filled_leaves entries span all ty made below =
      then_leaves allows (λ e. e.made) (λ v. v.made) made (values.entries_from [] entries scope (cell_type ty) made) _ below (entries_leave [] entries all (cell_type ty) made below)
      (λ given on. done_leaves allows given.made (op.Fill given.made.free ty given.slots) span (values.spans entries) on refl (λ slot. refl))

  -- ---- operators

  with_one_leaves : (operator : UnaryNum) (operand : Lowering) (span : Span) → Leaving P Low scope operand → Leaving P Low scope (values.with_one operator operand span)
  with_one_leaves operator operand span l = computes_leaves allows scope _ span (λ made below. then_value allows made (operand.value scope made) _ below (l.value made below)
      (λ y on. computed_leaves allows y.made (op.Unary y.made.free operator y.slot) span on refl (λ slot. refl)))

  arithmetic_leaves : (arith : Arith) (left right : Lowering) (span : Span) → Leaving P Low scope left → Leaving P Low scope right
      → Leaving P Low scope (values.arithmetic arith left right span)
  arithmetic_leaves arith left right span a b = computes_leaves allows scope _ span (λ made below. then_value allows made (left.value scope made) _ below (a.value made below)
      (λ y on. then_value allows y.made (right.value scope y.made) _ on (b.value y.made on)
      (λ z next. computed_leaves allows z.made (op.Num z.made.free arith y.slot z.slot) span next refl (λ slot. refl))))

  compare_leaves : (free : ℕ) (made : Made) (test : Test) → Leaves P (empty free) made → LeavesAsked P free (record { cond = cond.Compare (block made) test; free = made.free })
  compare_leaves free made test a = record {
    each = subst (EachAsked P) (sym (cond_code-Compare (block made) test)) (block_each free made a);
    no_loop = subst AsksNoLoop (sym (cond_code-Compare (block made) test)) (block_no_loop free made a);
    up = a.up;
  }

  compared_leaves : (rel : Rel) (left right : Lowering) → Leaving P Low scope left → Leaving P Low scope right → (free : ℕ) → Low free
      → Makes (LeavesAsked P free) (values.compared rel left right scope free)
  compared_leaves rel left right a b free below =
      makes_then (λ y. Leaves P (empty free) y.made) (LeavesAsked P free) (left.value scope (empty free)) _ (a.value (empty free) below)
      (λ y first. makes_then (λ z. Leaves P y.made z.made) (LeavesAsked P free) (right.value scope y.made) _ (b.value y.made (allows.on free y.made.free below first.up))
      (λ z second. compare_leaves free z.made _ (leaves_both (empty free) y.made z.made first second)))

  both_leave : (left right : Lowering) → Leaving P Low scope left → Leaving P Low scope right → (free : ℕ) → Low free
      → Makes (LeavesAsked P free) (values.both left right scope free)
  both_leave left right a b free below =
      makes_then (LeavesAsked P free) (LeavesAsked P free) (left.condition scope free) _ (a.condition free below)
      (λ c first. makes_then (LeavesAsked P c.free) (LeavesAsked P free) (right.condition scope c.free) _ (b.condition c.free (allows.on free c.free below first.up))
      (λ d second. record {
        each = subst (EachAsked P) (sym (cond_code-Both c.cond d.cond)) (first.each, second.each);
        no_loop = subst AsksNoLoop (sym (cond_code-Both c.cond d.cond)) (first.no_loop, second.no_loop);
        up = let x = first.up in let y = second.up in omega (arith, x, y);
      }))

  either_leave : (left right : Lowering) → Leaving P Low scope left → Leaving P Low scope right → (free : ℕ) → Low free
      → Makes (LeavesAsked P free) (values.either left right scope free)
  either_leave left right a b free below =
      makes_then (LeavesAsked P free) (LeavesAsked P free) (left.condition scope free) _ (a.condition free below)
      (λ c first. makes_then (LeavesAsked P c.free) (LeavesAsked P free) (right.condition scope c.free) _ (b.condition c.free (allows.on free c.free below first.up))
      (λ d second. record {
        each = subst (EachAsked P) (sym (cond_code-Either c.cond d.cond)) (first.each, second.each);
        no_loop = subst AsksNoLoop (sym (cond_code-Either c.cond d.cond)) (first.no_loop, second.no_loop);
        up = let x = first.up in let y = second.up in omega (arith, x, y);
      }))

  opposite_leaves : (operand : Lowering) → Leaving P Low scope operand → (free : ℕ) → Low free → Makes (LeavesAsked P free) (values.opposite operand scope free)
  opposite_leaves operand l free below =
      makes_then (LeavesAsked P free) (LeavesAsked P free) (operand.condition scope free) _ (l.condition free below)
      (λ c a. record {
        each = subst (EachAsked P) (sym (cond_code-Opposite c.cond)) a.each;
        no_loop = subst AsksNoLoop (sym (cond_code-Opposite c.cond)) a.no_loop;
        up = a.up;
      })

  pub unary_leaves : (operator : UnaryOp) (operand : Lowering) (span : Span) → Leaving P Low scope operand → Leaving P Low scope (values.unary_of operator operand span)
  unary_leaves operator.Plus operand span l = computes_leaves allows scope _ span (λ made below. l.value made below)
  unary_leaves operator.Minus operand span l = with_one_leaves unary.Neg operand span l
  unary_leaves operator.Flip operand span l = with_one_leaves unary.Flip operand span l
  unary_leaves operator.Not operand span l = asks_leaves allows scope (values.opposite operand) span (opposite_leaves operand l)

  pub binary_leaves : (operator : BinaryOp) (left right : Lowering) (span : Span) → Leaving P Low scope left → Leaving P Low scope right
      → Leaving P Low scope (values.binary_of operator left right span)
  binary_leaves (binary.Num arith) left right span a b = arithmetic_leaves arith left right span a b
  binary_leaves (binary.Compare rel) left right span a b = asks_leaves allows scope (values.compared rel left right) span (compared_leaves rel left right a b)
  binary_leaves binary.AndAlso left right span a b = asks_leaves allows scope (values.both left right) span (both_leave left right a b)
  binary_leaves binary.OrElse left right span a b = asks_leaves allows scope (values.either left right) span (either_leave left right a b)

  -- ---- assignments, to what is apart from both slots

  -- the parts of a target, and behind them what adds to them
  then_target : (target : Lowering) (made : Made) (next : Target → Within Value) → Leaving P Low scope target → AimsAt Aims scope target → Low made.free
      → ((t : Target) → Low t.made.free → Aims t.spot → ValueLeaves P t.made (next t)) → ValueLeaves P made (target.target scope made >>= next)
  then_target target made next l aims below second =
      then_known allows (λ t. t.made) (λ v. v.made) (λ t. Aims t.spot) made (target.target scope made) next below
      (makes_both (λ t. Leaves P made t.made) (λ t. Aims t.spot) (target.target scope made) (l.target made below) (aims made)) second

  assignment_leaves : (target value : Lowering) (span : Span) → Leaving P Low scope target → AimsAt Aims scope target → Leaving P Low scope value
      → Leaving P Low scope (values.assignment target value span)
  assignment_leaves target value span t aims v = computes_leaves allows scope _ span (λ made below. then_target target made _ t aims below
      (λ place on apart. then_value allows place.made (value.value scope place.made) _ on (v.value place.made on)
      (λ w next. write_leaves allows w.made place.spot w.slot (type_at scope value.span) span target.span value.span apart)))

  compound_leaves : (arith : Arith) (target value : Lowering) (span : Span) → Leaving P Low scope target → AimsAt Aims scope target → Leaving P Low scope value
      → Leaving P Low scope (values.compound arith target value span)
  compound_leaves arith target value span t aims v = computes_leaves allows scope _ span (λ made below. then_target target made _ t aims below
      (λ place on apart. then_value allows place.made (read place.spot target.span place.made) _ on (read_leaves allows place.spot target.span place.made on apart)
      (λ y read_on. then_value allows y.made (value.value scope y.made) _ read_on (v.value y.made read_on)
      (λ z next. then_value allows z.made (computed z.made (op.Num z.made.free arith y.slot z.slot) span) _ next (computed_leaves allows z.made (op.Num z.made.free arith y.slot z.slot) span next refl (λ slot. refl))
      (λ w last. write_leaves allows w.made place.spot w.slot int_type span target.span span apart)))))

  pub assign_leaves : (operator : Option Arith) (target value : Lowering) (span : Span) → Leaving P Low scope target → AimsAt Aims scope target → Leaving P Low scope value
      → Leaving P Low scope (values.assign_of operator target value span)
  assign_leaves None target value span t aims v = assignment_leaves target value span t aims v
  assign_leaves (Some arith) target value span t aims v = compound_leaves arith target value span t aims v

  pub step_leaves : (up after : Bool) (target : Lowering) (span : Span) → Leaving P Low scope target → AimsAt Aims scope target → Leaving P Low scope (values.step up after target span)
  step_leaves up after target span t aims = computes_leaves allows scope _ span (λ made below. then_target target made _ t aims below
      (λ place on apart. then_value allows place.made (read place.spot target.span place.made) _ on (read_leaves allows place.spot target.span place.made on apart)
      (λ y read_on. then_value allows y.made (int_value (pos 1) span y.made) _ read_on (int_leaves (pos 1) span y.made read_on)
      (λ one next. then_value allows one.made (computed one.made (op.Num one.made.free (if up then Add else Sub) y.slot one.slot) span) _ next
      (computed_leaves allows one.made (op.Num one.made.free (if up then Add else Sub) y.slot one.slot) span next refl (λ slot. refl))
      (λ w last. write_leaves allows w.made place.spot w.slot int_type span target.span span apart)))))

  -- ---- calls

  pub arguments_leave : (given : List Arg) (args : List Lowering) → AllOf (Leaving P Low scope) args → (made : Made) → Low made.free
      → Makes (λ a. Leaves P made a.made) (values.arguments_from given args scope made)
  arguments_leave given [] all made below = leaves_none made
  arguments_leave given (first ∷ rest) all made below =
      then_leaves allows (λ v. v.made) (λ a. a.made) made (first.value scope made) _ below (all.0.value made below)
      (λ v on. arguments_leave (given ++ record { slot = v.slot; span = first.span } ∷ []) rest all.1 v.made on)

  calling_leaves : (kind : CallOp → OpKind) → ((call : CallOp) → accessed (kind call) ≡ None) → ((call : CallOp) (slot : ℕ) → writes (kind call) slot ≡ (slot == call.target))
      → (method : ℕ) (receiver : Option ℕ) (class : ℕ) (span : Span)
      (given : Arguments) → Low given.made.free → ValueLeaves P given.made (values.calling kind method receiver class span given)
  calling_leaves kind none target method receiver class span given below =
      let call : CallOp = record { target = given.made.free; method = method; receiver = receiver; args = given.args; class = class; span = span } in
      computed_leaves allows given.made (kind call) span below (none call) (target call)

  unused_object_leaves : (object : Option Lowering) → OptionLeaves P Low scope object → (made : Made) → Low made.free
      → Makes (Leaves P made) (values.unused_object object scope made)
  unused_object_leaves None l made below = leaves_none made
  unused_object_leaves (Some object) l made below = l.unused made below

  object_leaves : (object : Option Lowering) → OptionLeaves P Low scope object → (made : Made) → Low made.free
      → ValueLeaves P made (values.object_value object scope made)
  object_leaves None l made below = leaves_none made
  object_leaves (Some object) l made below = l.value made below

  static_leaves : (object : Option Lowering) → OptionLeaves P Low scope object → (args : List Lowering) → AllOf (Leaving P Low scope) args
      → (method class : ℕ) (span : Span) (made : Made) → Low made.free → ValueLeaves P made (values.static_call object method args class span scope made)
  static_leaves object l args all method class span made below = then_leaves allows (λ m. m) (λ v. v.made) made (values.unused_object object scope made) _ below (unused_object_leaves object l made below)
      (λ before on. then_leaves allows (λ a. a.made) (λ v. v.made) before (values.arguments_from [] args scope before) _ on (arguments_leave [] args all before on)
      (λ given next. calling_leaves op.StaticCall (λ call. refl) (λ call slot. refl) method None class span given next))

  instance_leaves : (object : Option Lowering) → OptionLeaves P Low scope object → (args : List Lowering) → AllOf (Leaving P Low scope) args
      → (method : ℕ) (span : Span) (made : Made) → Low made.free → ValueLeaves P made (values.instance_call object method args span scope made)
  instance_leaves object l args all method span made below = then_leaves allows (λ v. v.made) (λ v. v.made) made (values.object_value object scope made) _ below (object_leaves object l made below)
      (λ o on. then_leaves allows (λ a. a.made) (λ v. v.made) o.made (values.arguments_from [] args scope o.made) _ on (arguments_leave [] args all o.made on)
      (λ given next. calling_leaves op.InstanceCall (λ call. refl) (λ call slot. refl) method (Some o.slot) (values.object_class object scope) span given next))

  static_or_instance : (b : Bool) (object : Option Lowering) → OptionLeaves P Low scope object → (args : List Lowering) → AllOf (Leaving P Low scope) args
      → (class method : ℕ) (span : Span) (made : Made) → Low made.free
      → ValueLeaves P made (if b then values.static_call object method args class span scope made else values.instance_call object method args span scope made)
  static_or_instance true object l args all class method span made below = static_leaves object l args all method class span made below
  static_or_instance false object l args all class method span made below = instance_leaves object l args all method span made below

  pub call_leaves : (object : Option Lowering) → OptionLeaves P Low scope object → (args : List Lowering) → AllOf (Leaving P Low scope) args
      → (ident : Ident) (span : Span) → Leaving P Low scope (values.call object ident args span)
  call_leaves object l args all ident span = computes_leaves allows scope _ span (λ made below.
      let method = values.method_number (meaning_at scope ident.span) in
      let head = head_at scope.site method in
      static_or_instance head.is_static object l args all head.class method ident.span made below)

  pub new_object_leaves : (ident : Ident) (args : List Lowering) (span : Span) → AllOf (Leaving P Low scope) args → Leaving P Low scope (values.new_object ident args span)
  new_object_leaves ident args span all = computes_leaves allows scope _ span (λ made below.
      then_leaves allows (λ a. a.made) (λ v. v.made) made (values.arguments_from [] args scope made) _ below (arguments_leave [] args all made below)
      (λ given on. calling_leaves op.NewObject (λ call. refl) (λ call slot. refl) (constructor_at scope.site (values.class_number (meaning_at scope ident.span))) None
      (values.class_number (meaning_at scope ident.span)) span given on))
