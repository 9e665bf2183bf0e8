-- Each form of expression keeps to that of the source, where its parts do.
use Rattle.std.proofs.Common.{◌≡◌, pos, ℕ, Bool, true, false, not, List, [], ◌∷◌, ◌++◌, Option, Some, None, refl, sym, ap, subst, ◌∙◌}
use Rattle.std.specs.Prelude.{if◌then◌else◌, unwrap_or}
use Rattle.ix_text.specs.declared.span.Span.{Span}
use Rattle.ix_num.specs.declared.arith.Arith.{Arith}
use Rattle.ix_num.specs.declared.arith.Arith.TheVariants.{Add, Sub}
use Rattle.ix_num.specs.declared.rel.Rel.{Rel}
use Rattle.ix_num.specs.Arithmetic.{exact_of}
use Rattle.ix_core.specs.declared.claim.Type_.{Type_}
use Rattle.ix_core.specs.declared.op.UnaryNum.{UnaryNum}
use Rattle.ix_core.specs.declared.op.UnaryNum.TheVariants.{Neg, Flip}
use Rattle.ix_core.specs.Heap.{Held, Num, Boolean, Null, Kind, ObjectOf, ArrayOf, object_at, int_of}
use Rattle.ix_core.specs.Machine.{NullUsed, unary_of, is_true, test_of}
use Rattle.ix_core.specs.Types.{cell_type}
use Rattle.ix_tree.specs.declared.annot.Ident.{Ident}
use Rattle.ix_tree.specs.declared.expr.BinaryOp.{BinaryOp}
use Rattle.ix_tree.specs.declared.expr.BinaryOp.TheVariants as binary
use Rattle.ix_tree.specs.declared.expr.UnaryOp.{UnaryOp}
use Rattle.ix_tree.specs.declared.expr.UnaryOp.TheVariants as operator
use Rattle.ix_meaning.specs.declared.note.Meaning.{Meaning}
use Rattle.ix_meaning.specs.declared.note.Meaning.TheVariants as meaning
use Rattle.ix_meaning.specs.Resolved.{Names}
use Rattle.ix_source.specs.Runs.{Action, ◌>>=◌, gives}
use Rattle.ix_source.specs.Context.{Members, Calls, Context, or_void, type_at}
use Rattle.ix_source.specs.Values as source
use Rattle.ix_source.specs.Values.{Target, Variable, FieldOf, Cell, Evaluation, Initial, computes, asks}
use Rattle.ix_guard_text.specs.Moved.{Move, moved_span, moved_name}
use Rattle.ix_guard_text.specs.GuardedNames.{SaysMoved}
use Rattle.ix_guard_promise.specs.Behind.{SameTarget, CallsFollow}
use Rattle.ix_guard_promise.proofs.Following.{Equal, KeepsBy, Keeps, keeps_then, keeps_then_by, gives_keep, stops_keep, heap_keeps}
use Rattle.ix_guard_promise.proofs.ActionsKeep.{in_context, if_keeps, gives_same, int_result_keeps, result_keeps, through_keeps, made_keeps, load_keeps, length_keeps, array_keeps, variable_keeps, this_keeps, get_field_keeps, read_keeps, write_keeps, target_itself}

-- An expression keeps to another, as each place wants it, in these contexts.
pub record EvaluationKeeps (move : Move) (new old : Context) (one other : Evaluation) : Type 0 where
  pub span : one.span ≡ moved_span move other.span
  pub value : Keeps move (one.value new) (other.value old)
  pub holds : Keeps move (one.holds new) (other.holds old)
  pub target : KeepsBy move (SameTarget move) (one.target new) (other.target old)
  pub unused : Keeps move (one.unused new) (other.unused old)

-- So does an initialiser, whatever the variable's type.
pub record InitialKeeps (move : Move) (new old : Context) (one other : Initial) : Type 0 where
  pub value : (ty : Type_) → Keeps move (one.value new ty) (other.value old ty)

-- Two contexts with the same members, of which the new one says of each place moved what the old one says of the place, and whose calls follow.
pub record Contexts (move : Move) : Type 0 where
  pub members : Members
  pub names : Names
  pub others : Names
  pub calls : Calls
  pub older : Calls
  pub turns : ℕ
  pub most : ℕ
  pub says : SaysMoved others names move
  pub follow : CallsFollow move calls older

abbrev pub new_context : {move : Move} → Contexts move → Context
new_context c = in_context c.names c.members c.calls c.turns

abbrev pub old_context : {move : Move} → Contexts move → Context
old_context c = in_context c.others c.members c.older c.most

module _ (move : Move) (c : Contexts move) where
  abbrev new : Context
  new = new_context c

  abbrev old : Context
  old = old_context c

  abbrev pub PartKeeps : Evaluation → Evaluation → Type 0
  PartKeeps one other = EvaluationKeeps move new old one other

  abbrev pub PartsKeep : List Evaluation → List Evaluation → Type 0
  PartsKeep [] [] = Unit {0}
  PartsKeep (one ∷ ones) (other ∷ rest) = PartKeeps one other × PartsKeep ones rest
  PartsKeep _ _ = ⊥

  abbrev pub MaybeKeeps : Option Evaluation → Option Evaluation → Type 0
  MaybeKeeps None None = Unit {0}
  MaybeKeeps (Some one) (Some other) = PartKeeps one other
  MaybeKeeps _ _ = ⊥

  abbrev pub ItemsKeep : List Initial → List Initial → Type 0
  ItemsKeep [] [] = Unit {0}
  ItemsKeep (one ∷ ones) (other ∷ rest) = InitialKeeps move new old one other × ItemsKeep ones rest
  ItemsKeep _ _ = ⊥

  -- ---- the two makers

  pub computes_keep : (one other : Context → Action Held) (span : Span) → Keeps move (one new) (other old) → PartKeeps (computes one (moved_span move span)) (computes other span)
  computes_keep one other span keeps = record {
    span = refl;
    value = keeps;
    holds = keeps_then move Equal keeps (λ value. gives_same move (is_true value));
    target = gives_keep move (SameTarget move) (Variable None) (Variable None) refl;
    unused = keeps_then move Equal keeps (λ value. gives_same move tt);
  }

  pub asks_keep : (one other : Context → Action Bool) (span : Span) → Keeps move (one new) (other old) → PartKeeps (asks one (moved_span move span)) (asks other span)
  asks_keep one other span keeps =
      let value = keeps_then move Equal keeps (λ answer. gives_same move (Boolean answer)) in
      record {
        span = refl;
        value = value;
        holds = keeps;
        target = gives_keep move (SameTarget move) (Variable None) (Variable None) refl;
        unused = keeps_then move Equal value (λ value. gives_same move tt);
      }

  pub constant_keeps : (value : Held) (span : Span) → PartKeeps (source.constant value (moved_span move span)) (source.constant value span)
  constant_keeps value span = computes_keep (λ context. gives value) (λ context. gives value) span (gives_same move value)

  -- ---- names

  field_keeps : (span : Span) (object : Held) (field : ℕ) → Keeps move (source.get_field new (moved_span move span).from object field) (source.get_field old span.from object field)
  field_keeps span object field = get_field_keeps move c.members c.names c.others c.calls c.older c.turns c.most (moved_span move span).from span.from object field

  named_keeps : (span : Span) (m : Option Meaning) → Keeps move (source.named new (moved_span move span) m) (source.named old span m)
  named_keeps span (Some (meaning.Constant n)) = gives_same move (Num n)
  named_keeps span (Some (meaning.FieldNamed field)) = keeps_then move Equal (this_keeps move) (λ this. field_keeps span this field)
  named_keeps span None = variable_keeps move None
  named_keeps span (Some (meaning.Local n)) = variable_keeps move (Some (meaning.Local n))
  named_keeps span (Some (meaning.Param n)) = variable_keeps move (Some (meaning.Param n))
  named_keeps span (Some (meaning.ClassNamed n)) = variable_keeps move (Some (meaning.ClassNamed n))
  named_keeps span (Some (meaning.MethodNamed n)) = variable_keeps move (Some (meaning.MethodNamed n))
  named_keeps span (Some meaning.LengthOf) = variable_keeps move (Some meaning.LengthOf)

  named_then : (span : Span) (m : Option Meaning) → Keeps move (source.named_unused new (moved_span move span) m) (source.named_unused old span m)
  named_then span (Some (meaning.ClassNamed n)) = gives_same move tt
  named_then span None = keeps_then move Equal (named_keeps span None) (λ value. gives_same move tt)
  named_then span (Some (meaning.Constant n)) = keeps_then move Equal (named_keeps span (Some (meaning.Constant n))) (λ value. gives_same move tt)
  named_then span (Some (meaning.FieldNamed n)) = keeps_then move Equal (named_keeps span (Some (meaning.FieldNamed n))) (λ value. gives_same move tt)
  named_then span (Some (meaning.Local n)) = keeps_then move Equal (named_keeps span (Some (meaning.Local n))) (λ value. gives_same move tt)
  named_then span (Some (meaning.Param n)) = keeps_then move Equal (named_keeps span (Some (meaning.Param n))) (λ value. gives_same move tt)
  named_then span (Some (meaning.MethodNamed n)) = keeps_then move Equal (named_keeps span (Some (meaning.MethodNamed n))) (λ value. gives_same move tt)
  named_then span (Some meaning.LengthOf) = keeps_then move Equal (named_keeps span (Some meaning.LengthOf)) (λ value. gives_same move tt)

  targets : (target : Target) → KeepsBy move (SameTarget move) (gives target) (gives target)
  targets target = gives_keep move (SameTarget move) target target (target_itself move target)

  named_target_keeps : (m : Option Meaning) → KeepsBy move (SameTarget move) (source.named_target m) (source.named_target m)
  named_target_keeps (Some (meaning.FieldNamed field)) = keeps_then move (SameTarget move) (this_keeps move) (λ this. targets (FieldOf this field))
  named_target_keeps None = targets (Variable None)
  named_target_keeps (Some (meaning.Constant n)) = targets (Variable (Some (meaning.Constant n)))
  named_target_keeps (Some (meaning.Local n)) = targets (Variable (Some (meaning.Local n)))
  named_target_keeps (Some (meaning.Param n)) = targets (Variable (Some (meaning.Param n)))
  named_target_keeps (Some (meaning.ClassNamed n)) = targets (Variable (Some (meaning.ClassNamed n)))
  named_target_keeps (Some (meaning.MethodNamed n)) = targets (Variable (Some (meaning.MethodNamed n)))
  named_target_keeps (Some meaning.LengthOf) = targets (Variable (Some meaning.LengthOf))

  pub name_keeps : (ident : Ident) (span : Span) → PartKeeps (source.name (moved_name move ident) (moved_span move span)) (source.name ident span)
  name_keeps ident span =
      let m = c.others.meaning ident.span in
      let e = sym (c.says.meaning ident.span) in
      let plain = computes_keep (source.name (moved_name move ident) (moved_span move span)).value (source.name ident span).value span
      (subst (λ n. Keeps move (source.named new (moved_span move span) n) (source.named old span m)) e (named_keeps span m)) in
      record {
        span = refl;
        value = plain.value;
        holds = plain.holds;
        target = subst (λ n. KeepsBy move (SameTarget move) (source.named_target n) (source.named_target m)) e (named_target_keeps m);
        unused = subst (λ n. Keeps move (source.named_unused new (moved_span move span) n) (source.named_unused old span m)) e (named_then span m);
      }

  -- ---- selections

  module _ (one other : Evaluation) (object : PartKeeps one other) where
    length_then : (span : Span) → Keeps move (one.value new >>= source.length_of (moved_span move span).from) (other.value old >>= source.length_of span.from)
    length_then span = keeps_then move Equal object.value (λ value. length_keeps move (moved_span move span).from span.from value)

    selected_keeps : (span : Span) (m : Option Meaning) → Keeps move (source.selected one (moved_span move span) new m) (source.selected other span old m)
    selected_keeps span (Some (meaning.Constant n)) = keeps_then move Equal object.unused (λ done. gives_same move (Num n))
    selected_keeps span (Some (meaning.FieldNamed field)) = keeps_then move Equal object.value (λ value. field_keeps span value field)
    selected_keeps span None = length_then span
    selected_keeps span (Some (meaning.Local n)) = length_then span
    selected_keeps span (Some (meaning.Param n)) = length_then span
    selected_keeps span (Some (meaning.ClassNamed n)) = length_then span
    selected_keeps span (Some (meaning.MethodNamed n)) = length_then span
    selected_keeps span (Some meaning.LengthOf) = length_then span

    pub selection_keeps : (ident : Ident) (span : Span) → PartKeeps (source.selection one (moved_name move ident) (moved_span move span)) (source.selection other ident span)
    selection_keeps ident span =
        let m = c.others.meaning ident.span in
        let e = sym (c.says.meaning ident.span) in
        let plain = computes_keep (source.selection one (moved_name move ident) (moved_span move span)).value (source.selection other ident span).value span
        (subst (λ n. Keeps move (source.selected one (moved_span move span) new n) (source.selected other span old m)) e (selected_keeps span m)) in
        record {
          span = refl;
          value = plain.value;
          holds = plain.holds;
          target = keeps_then move (SameTarget move) object.value
              (λ value. subst (λ n. KeepsBy move (SameTarget move) (gives (FieldOf value (source.field_number n)))
              (gives (FieldOf value (source.field_number m)))) e (targets (FieldOf value (source.field_number m))));
          unused = plain.unused;
        }

  -- ---- elements and new arrays

  type_moved : (span : Span) → type_at new (moved_span move span) ≡ type_at old span
  type_moved span = ap or_void (c.says.type_of span)

  pub element_keeps : (one other three four : Evaluation) (span : Span) → PartKeeps one other → PartKeeps three four
      → PartKeeps (source.element one three (moved_span move span)) (source.element other four span)
  element_keeps one other three four span array index =
      let plain = computes_keep (source.element one three (moved_span move span)).value (source.element other four span).value span
      (keeps_then move Equal array.value (λ a. keeps_then move Equal index.value (λ i. load_keeps move three.span.from four.span.from a i))) in
      record {
        span = refl;
        value = plain.value;
        holds = plain.holds;
        target = keeps_then move (SameTarget move) array.value (λ a. keeps_then move (SameTarget move) index.value
            (λ i. gives_keep move (SameTarget move) (Cell a i three.span.from) (Cell a i four.span.from) (refl, refl)));
        unused = plain.unused;
      }

  pub new_array_keeps : (one other : Evaluation) (span : Span) → PartKeeps one other → PartKeeps (source.new_array one (moved_span move span)) (source.new_array other span)
  new_array_keeps one other span size = computes_keep (source.new_array one (moved_span move span)).value (source.new_array other span).value span
      (keeps_then move Equal size.value (λ n.
      subst (λ ty. Keeps move (source.array_of one.span.from ty (int_of n)) (source.array_of other.span.from (type_at old span) (int_of n)))
      (sym (type_moved span)) (array_keeps move one.span.from other.span.from (type_at old span) (int_of n))))

  entries_keep : (given : List Held) (ones rest : List Initial) (ty : Type_) → ItemsKeep ones rest → Keeps move (source.entries_from given ones new ty) (source.entries_from given rest old ty)
  entries_keep given [] [] ty keep = gives_same move given
  entries_keep given (one ∷ ones) (other ∷ rest) ty (first, keep) = keeps_then move Equal (first.value ty) (λ value. entries_keep (given ++ value ∷ []) ones rest ty keep)
  entries_keep given [] (other ∷ rest) ty none = absurd none
  entries_keep given (one ∷ ones) [] ty none = absurd none

  pub filled_keeps : (ones rest : List Initial) (ty : Type_) → ItemsKeep ones rest → Keeps move (source.filled ones new ty) (source.filled rest old ty)
  filled_keeps ones rest ty keep = keeps_then move Equal (entries_keep [] ones rest (cell_type ty) keep) (λ values. made_keeps move (record { kind = ArrayOf ty; cells = values }))

  pub new_items_keep : (ones rest : List Initial) (span : Span) → ItemsKeep ones rest
      → PartKeeps (computes (λ context. source.filled ones context (type_at context (moved_span move span))) (moved_span move span)) (computes (λ context. source.filled rest context (type_at context span)) span)
  new_items_keep ones rest span keep = computes_keep (λ context. source.filled ones context (type_at context (moved_span move span))) (λ context. source.filled rest context (type_at context span)) span
      (subst (λ ty. Keeps move (source.filled ones new ty) (source.filled rest old (type_at old span))) (sym (type_moved span)) (filled_keeps ones rest (type_at old span) keep))

  -- ---- operators

  with_one_keeps : (o : UnaryNum) (one other : Evaluation) (span : Span) → PartKeeps one other → PartKeeps (source.with_one o one (moved_span move span)) (source.with_one o other span)
  with_one_keeps o one other span operand = computes_keep (source.with_one o one (moved_span move span)).value (source.with_one o other span).value span
      (keeps_then move Equal operand.value (λ x. int_result_keeps move (unary_of o (int_of x))))

  pub unary_keeps : (o : UnaryOp) (one other : Evaluation) (span : Span) → PartKeeps one other → PartKeeps (source.unary_of_operand o one (moved_span move span)) (source.unary_of_operand o other span)
  unary_keeps operator.Plus one other span operand = computes_keep (λ context. one.value context) (λ context. other.value context) span operand.value
  unary_keeps operator.Minus one other span operand = with_one_keeps Neg one other span operand
  unary_keeps operator.Flip one other span operand = with_one_keeps Flip one other span operand
  unary_keeps operator.Not one other span operand = asks_keep (source.opposite one) (source.opposite other) span (keeps_then move Equal operand.holds (λ answer. gives_same move (not answer)))

  module _ (one other three four : Evaluation) (left : PartKeeps one other) (right : PartKeeps three four) where
    arithmetic_keeps : (arith : Arith) (span : Span) → PartKeeps (source.arithmetic arith one three (moved_span move span)) (source.arithmetic arith other four span)
    arithmetic_keeps arith span = computes_keep (source.arithmetic arith one three (moved_span move span)).value (source.arithmetic arith other four span).value span
        (keeps_then move Equal left.value (λ x. keeps_then move Equal right.value (λ y. result_keeps move (moved_span move span).from span.from (exact_of arith (int_of x) (int_of y)))))

    compared_keeps : (rel : Rel) → Keeps move (source.compared rel one three new) (source.compared rel other four old)
    compared_keeps rel = keeps_then move Equal left.value (λ x. keeps_then move Equal right.value (λ y.
        subst (λ ty. Keeps move (gives (test_of ty rel x y)) (gives (test_of (type_at old other.span) rel x y)))
        (sym (ap (type_at new) left.span ∙ type_moved other.span)) (gives_same move (test_of (type_at old other.span) rel x y))))

    both_keeps : Keeps move (source.both one three new) (source.both other four old)
    both_keeps = keeps_then move Equal left.holds (λ answer. if_keeps move Equal answer (three.holds new) (four.holds old) (gives false) (gives false) right.holds (gives_same move false))

    either_keeps : Keeps move (source.either one three new) (source.either other four old)
    either_keeps = keeps_then move Equal left.holds (λ answer. if_keeps move Equal answer (gives true) (gives true) (three.holds new) (four.holds old) (gives_same move true) right.holds)

    pub binary_keeps : (o : BinaryOp) (span : Span) → PartKeeps (source.binary_of o one three (moved_span move span)) (source.binary_of o other four span)
    binary_keeps (binary.Num arith) span = arithmetic_keeps arith span
    binary_keeps (binary.Compare rel) span = asks_keep (source.compared rel one three) (source.compared rel other four) span (compared_keeps rel)
    binary_keeps binary.AndAlso span = asks_keep (source.both one three) (source.both other four) span both_keeps
    binary_keeps binary.OrElse span = asks_keep (source.either one three) (source.either other four) span either_keeps

  -- ---- assignments

  reads : (to from : Target) → SameTarget move to from → (place at : ℕ) → Keeps move (source.read new place to) (source.read old at from)
  reads to from same place at = read_keeps move c.members c.names c.others c.calls c.older c.turns c.most place at to from same

  writes : (to from : Target) → SameTarget move to from → (place at : ℕ) (value : Held) → Keeps move (source.write new place to value) (source.write old at from value)
  writes to from same place at value = write_keeps move c.members c.names c.others c.calls c.older c.turns c.most place at to from value same

  -- the write, and what the assignment then gives
  written_then : (to from : Target) → SameTarget move to from → (place at : ℕ) (value result : Held)
      → Keeps move (source.write new place to value >>= (λ done. gives result)) (source.write old at from value >>= (λ done. gives result))
  written_then to from same place at value result = keeps_then move Equal (writes to from same place at value) (λ done. gives_same move result)

  module _ (one other three four : Evaluation) (target : PartKeeps one other) (value : PartKeeps three four) where
    assignment_keeps : (span : Span) → PartKeeps (source.assignment one three (moved_span move span)) (source.assignment other four span)
    assignment_keeps span = computes_keep (source.assignment one three (moved_span move span)).value (source.assignment other four span).value span
        (keeps_then_by move (SameTarget move) Equal (target_itself move) target.target (λ to from same.
        keeps_then move Equal value.value (λ v. written_then to from same (moved_span move span).from span.from v v)))

    compound_keeps : (arith : Arith) (span : Span) → PartKeeps (source.compound arith one three (moved_span move span)) (source.compound arith other four span)
    compound_keeps arith span = computes_keep (source.compound arith one three (moved_span move span)).value (source.compound arith other four span).value span
        (keeps_then_by move (SameTarget move) Equal (target_itself move) target.target (λ to from same.
        keeps_then move Equal (reads to from same one.span.from other.span.from) (λ x.
        keeps_then move Equal value.value (λ y.
        keeps_then move Equal (result_keeps move (moved_span move span).from span.from (exact_of arith (int_of x) (int_of y))) (λ v.
        written_then to from same (moved_span move span).from span.from v v)))))

    pub assign_keeps : (o : Option Arith) (span : Span) → PartKeeps (source.assign_of o one three (moved_span move span)) (source.assign_of o other four span)
    assign_keeps None span = assignment_keeps span
    assign_keeps (Some arith) span = compound_keeps arith span

  pub step_keeps : (up after : Bool) (one other : Evaluation) (span : Span) → PartKeeps one other → PartKeeps (source.step up after one (moved_span move span)) (source.step up after other span)
  step_keeps up after one other span target = computes_keep (source.step up after one (moved_span move span)).value (source.step up after other span).value span
      (keeps_then_by move (SameTarget move) Equal (target_itself move) target.target (λ to from same.
      keeps_then move Equal (reads to from same one.span.from other.span.from) (λ x.
      keeps_then move Equal (result_keeps move (moved_span move span).from span.from (exact_of (if up then Add else Sub) (int_of x) (pos 1))) (λ v.
      written_then to from same (moved_span move span).from span.from v (if after then x else v)))))

  -- ---- calls

  arguments_keep : (given : List Held) (ones rest : List Evaluation) → PartsKeep ones rest → Keeps move (source.arguments_from given ones new) (source.arguments_from given rest old)
  arguments_keep given [] [] keep = gives_same move given
  arguments_keep given (one ∷ ones) (other ∷ rest) (first, keep) = keeps_then move Equal first.value (λ value. arguments_keep (given ++ value ∷ []) ones rest keep)
  arguments_keep given [] (other ∷ rest) none = absurd none
  arguments_keep given (one ∷ ones) [] none = absurd none

  method_keeps : (number : ℕ) (this : Held) (given : List Held) → Keeps move (c.calls.method number this given) (c.older.method number this given)
  method_keeps number this given = record { follows = c.follow.method number this given; shows = c.follow.method_shows number this given }

  construct_keeps : (class : ℕ) (this : Held) (given : List Held) → Keeps move (c.calls.construct class this given) (c.older.construct class this given)
  construct_keeps class this given = record { follows = c.follow.construct class this given; shows = c.follow.construct_shows class this given }

  called_on_keeps : (place at method : ℕ) (this : Held) (given : List Held) (kind : Kind) → Keeps move (source.called_on new place method this given kind) (source.called_on old at method this given kind)
  called_on_keeps place at method this given (ObjectOf class) = method_keeps (c.members.found class method) this given
  called_on_keeps place at method this given (ArrayOf ty) = stops_keep move Equal (NullUsed place) (NullUsed at) tt

  call_on_keeps : (place at method : ℕ) (this : Held) (given : List Held) (number : ℕ) → Keeps move (source.call_on new place method this given number) (source.call_on old at method this given number)
  call_on_keeps place at method this given number = heap_keeps move Equal (λ heap. source.called_on new place method this given (object_at heap number).kind)
      (λ heap. source.called_on old at method this given (object_at heap number).kind)
      (λ heap. called_on_keeps place at method this given (object_at heap number).kind)

  unused_keeps : (one other : Option Evaluation) → MaybeKeeps one other → Keeps move (source.unused_object one new) (source.unused_object other old)
  unused_keeps None None keep = gives_same move tt
  unused_keeps (Some one) (Some other) keep = keep.unused
  unused_keeps None (Some other) none = absurd none
  unused_keeps (Some one) None none = absurd none

  object_keeps : (one other : Option Evaluation) → MaybeKeeps one other → Keeps move (source.object_value one new) (source.object_value other old)
  object_keeps None None keep = this_keeps move
  object_keeps (Some one) (Some other) keep = keep.value
  object_keeps None (Some other) none = absurd none
  object_keeps (Some one) None none = absurd none

  module _ (one other : Option Evaluation) (ones rest : List Evaluation) (object : MaybeKeeps one other) (args : PartsKeep ones rest) where
    value_keeps : (result : Option Held) → Keeps move (source.value_of result) (source.value_of result)
    value_keeps result = gives_same move (unwrap_or result (Num (pos 0)))

    static_keeps : (method : ℕ) → Keeps move (source.static_call one method ones new) (source.static_call other method rest old)
    static_keeps method =
        keeps_then move Equal (unused_keeps one other object) (λ before. keeps_then move Equal (arguments_keep [] ones rest args)
        (λ given. keeps_then move Equal (method_keeps method Null given) (λ result. value_keeps result)))

    instance_keeps : (place at : Span) (method : ℕ) → Keeps move (source.instance_call one place method ones new) (source.instance_call other at method rest old)
    instance_keeps place at method =
        keeps_then move Equal (object_keeps one other object) (λ o. keeps_then move Equal (arguments_keep [] ones rest args) (λ given.
        keeps_then move Equal (through_keeps move Equal place.from at.from o (source.call_on new place.from method o given) (source.call_on old at.from method o given)
        (call_on_keeps place.from at.from method o given)) (λ result. value_keeps result)))

    called_keeps : (ident : Ident) (method : ℕ) → Keeps move (source.called one (moved_name move ident) method ones new) (source.called other ident method rest old)
    called_keeps ident method = if_keeps move Equal (c.members.is_static method) (source.static_call one method ones new) (source.static_call other method rest old)
        (source.instance_call one (moved_span move ident.span) method ones new) (source.instance_call other ident.span method rest old)
        (static_keeps method) (instance_keeps (moved_span move ident.span) ident.span method)

    pub call_keeps : (ident : Ident) (span : Span) → PartKeeps (source.call one (moved_name move ident) ones (moved_span move span)) (source.call other ident rest span)
    call_keeps ident span =
        let m = c.others.meaning ident.span in
        computes_keep (source.call one (moved_name move ident) ones (moved_span move span)).value (source.call other ident rest span).value span
        (subst (λ n. Keeps move (source.called one (moved_name move ident) (source.method_number n) ones new) (source.called other ident (source.method_number m) rest old))
        (sym (c.says.meaning ident.span)) (called_keeps ident (source.method_number m)))

  object_of_keeps : (class : ℕ) (given : List Held) → Keeps move (source.object_of new class given) (source.object_of old class given)
  object_of_keeps class given =
      keeps_then move Equal (made_keeps move (record { kind = ObjectOf class; cells = c.members.fresh class })) (λ o. keeps_then move Equal (construct_keeps class o given) (λ done. gives_same move o))

  pub new_object_keeps : (ones rest : List Evaluation) → PartsKeep ones rest → (ident : Ident) (span : Span)
      → PartKeeps (source.new_object (moved_name move ident) ones (moved_span move span)) (source.new_object ident rest span)
  new_object_keeps ones rest args ident span =
      let m = c.others.meaning ident.span in
      computes_keep (source.new_object (moved_name move ident) ones (moved_span move span)).value (source.new_object ident rest span).value span
      (keeps_then move Equal (arguments_keep [] ones rest args) (λ given.
      subst (λ n. Keeps move (source.object_of new (source.class_number n) given) (source.object_of old (source.class_number m) given))
      (sym (c.says.meaning ident.span)) (object_of_keeps (source.class_number m) given)))
