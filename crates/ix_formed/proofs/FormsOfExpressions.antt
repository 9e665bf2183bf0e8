-- An expression gives few items besides its operations: two for each expression in it.
use Rattle.std.proofs.Common.{◌≡◌, ◌≤◌, ℕ, ◌+◌, pos, Bool, true, false, List, [], ◌∷◌, ◌++◌, map, Option, Some, None, Ok, Err, refl, sym, ap, subst, ◌∙◌, arith}
use Rattle.std.specs.Prelude.{if◌then◌else◌, nat_lt}
use Rattle.ix_text.specs.declared.span.Span.{Span}
use Rattle.ix_num.specs.declared.arith.Arith.{Arith}
use Rattle.ix_num.specs.declared.arith.Arith.TheVariants.{Add, Sub}
use Rattle.ix_num.specs.declared.rel.Rel.{Rel}
use Rattle.ix_core.specs.declared.claim.Type_.{Type_}
use Rattle.ix_core.specs.declared.code.Cond.{Cond}
use Rattle.ix_core.specs.declared.code.Item.{Item}
use Rattle.ix_core.specs.declared.op.Arg.{Arg}
use Rattle.ix_core.specs.declared.op.CallOp.{CallOp}
use Rattle.ix_core.specs.declared.op.Literal.TheVariants as literal
use Rattle.ix_core.specs.declared.op.OpKind.{OpKind}
use Rattle.ix_core.specs.declared.op.OpKind.TheVariants as op
use Rattle.ix_core.specs.Types.{int_type, cell_type}
use Rattle.ix_core.specs.Code.{End, cond_code, item_code}
use Rattle.ix_core.specs.declared.code.Block.{Block}
use Rattle.ix_core.proofs.Translated.{item_code-If, cond_code-Compare, cond_code-Truth, cond_code-Both, cond_code-Either, cond_code-Opposite}
use Rattle.ix_core.specs.declared.op.UnaryNum.TheVariants as unary
use Rattle.ix_tree.specs.declared.annot.Ident.{Ident}
use Rattle.ix_tree.specs.declared.expr.BinaryOp.{BinaryOp}
use Rattle.ix_tree.specs.declared.expr.BinaryOp.TheVariants as binary
use Rattle.ix_tree.specs.declared.expr.UnaryOp.{UnaryOp}
use Rattle.ix_tree.specs.declared.expr.UnaryOp.TheVariants as operator
use Rattle.ix_tree.specs.declared.expr.Expr.{Expr, Expr-F, ind-Expr, map-Expr, roll-Expr, fold-roll-Expr}
use Rattle.ix_tree.specs.declared.expr.ExprKind.{ExprKind, ExprKind-F, map-ExprKind, roll-ExprKind, fold-ExprKind, fold-roll-ExprKind}
use Rattle.ix_tree.specs.declared.expr.Init.{Init, Init-F, ind-Init, map-Init, roll-Init, fold-roll-Init}
use Rattle.ix_meaning.specs.declared.note.Meaning.{Meaning}
use Rattle.ix_meaning.specs.declared.note.Meaning.TheVariants as meaning
use Rattle.ix_meaning.specs.declared.note.Which.TheVariants as which
use Rattle.ix_plain.specs.declared.made.Made.{Made}
use Rattle.ix_plain.specs.declared.made.Spot.{Spot}
use Rattle.ix_plain.specs.declared.made.Spot.TheVariants as spot
use Rattle.ix_plain.specs.Scope.{Scope, slot_of, meaning_at, type_at, head_at, constructor_at, is_among}
use Rattle.ix_plain.specs.Parts.{Within, ◌>>=◌, Value, Asked, empty, block, with_item, in_place, done, taking, computed, truth_item, truth_value, truth_of, read, write, most_slots}
use Rattle.ix_plain.specs.Values as values
use Rattle.ix_plain.specs.Values.{Lowering, Filling, Arguments, lowering, filling, computes, asks, asked_value, without_value, int_value}
use Rattle.ix_formed.specs.Additions.{Makes}
use Rattle.ix_formed.specs.Sizes.{code_forms, condition_forms, item_forms}
use Rattle.ix_formed.proofs.PlainItems.{makes_more, makes_then}
use Rattle.ix_formed.proofs.CodeSizes.{forms_append, forms_of_items}
use Rattle.ix_formed.proofs.ExpressionNotes.{total_append}
use Rattle.ix_formed.specs.Weights.{total}
use Rattle.ix_tree.specs.Parts as parts
use Rattle.ix_tree.specs.Parts.{Part, expression, statement, elsewhere, together, listed, type_parts, expr_parts, init_parts}

-- two for each expression, and three for each statement
abbrev pub part_forms : Part → ℕ
part_forms (expression span) = 2
part_forms (statement span) = 3
part_forms _ = 0

abbrev pub parts_forms : List Part → ℕ
parts_forms ps = total part_forms ps

abbrev pub made_forms : Made → ℕ
made_forms made = item_forms made.items

-- so many more
abbrev pub Adds : Made → ℕ → Made → Type 0
Adds made n after = made_forms after ≤ made_forms made + n

-- An expression gives so many at most, as each place wants it.
pub record Forms (l : Lowering) (n : ℕ) : Type 0 where
  pub value : (scope : Scope) (made : Made) → Makes (λ v. Adds made n v.made) (l.value scope made)
  pub condition : (scope : Scope) (free : ℕ) → Makes (λ asked. condition_forms (cond_code asked.cond) ≤ n) (l.condition scope free)
  pub target : (scope : Scope) (made : Made) → Makes (λ t. Adds made n t.made) (l.target scope made)
  pub unused : (scope : Scope) (made : Made) → Makes (λ m. Adds made n m) (l.unused scope made)

then_adds : {A B : Type 0} (of : A → Made) (to : B → Made) (made : Made) (n m : ℕ) (r : Within A) (next : A → Within B)
    → Makes (λ a. Adds made n (of a)) r → ((a : A) → Makes (λ b. Adds (of a) m (to b)) (next a)) → Makes (λ b. Adds made (n + m) (to b)) (r >>= next)
then_adds of to made n m r next first second =
    makes_then (λ a. Adds made n (of a)) (λ b. Adds made (n + m) (to b)) r next first
    (λ a adds. makes_more (λ b. Adds (of a) m (to b)) (λ b. Adds made (n + m) (to b)) (λ b more. omega (arith, adds, more)) (next a) (second a))

abbrev ValueAdds : Made → ℕ → Within Value → Type 0
ValueAdds made n r = Makes (λ v. Adds made n v.made) r

then_value : (made : Made) (n m : ℕ) (r : Within Value) (next : Value → Within Value) → ValueAdds made n r → ((v : Value) → ValueAdds v.made m (next v)) → ValueAdds made (n + m) (r >>= next)
then_value made n m r next first second = then_adds (λ v. v.made) (λ v. v.made) made n m r next first second

value_as : (made : Made) (n m : ℕ) (r : Within Value) → n ≤ m → ValueAdds made n r → ValueAdds made m r
value_as made n m r le adds = makes_more (λ v. Adds made n v.made) (λ v. Adds made m v.made) (λ v a. omega (arith, a, le)) r adds

-- ---- one item

taken : (made : Made) (first : Item) (n : ℕ) → code_forms (item_code first End) ≤ n → (b : Bool)
    → ValueAdds made n (if b then Ok (record { made = record { items = made.items ++ first ∷ []; free = made.free + 1 }; slot = made.free }) else Err which.Slots)
taken made first n le true = let e = forms_append made.items (first ∷ []) in omega (arith, e, le)
taken made first n le false = tt

pub taking_adds : (made : Made) (first : Item) (n : ℕ) → code_forms (item_code first End) ≤ n → ValueAdds made n (taking made first)
taking_adds made first n le = taken made first n le (nat_lt made.free most_slots)

pub computed_adds : (made : Made) (kind : OpKind) (span : Span) → ValueAdds made 0 (computed made kind span)
computed_adds made kind span = taking_adds made (done kind span []) 0 (omega arith)

item_adds : (made : Made) (first : Item) → code_forms (item_code first End) ≤ 0 → Adds made 0 (with_item made first)
item_adds made first le = let e = forms_append made.items (first ∷ []) in omega (arith, e, le)

truth_forms : (asked : Cond) (slot : ℕ) (span : Span) → code_forms (item_code (truth_item asked slot span) End) ≡ 1 + condition_forms (cond_code asked)
truth_forms asked slot span =
    let one = done (op.Const slot (literal.Bool true)) span [] in
    let two = done (op.Const slot (literal.Bool false)) span [] in
    let first : Block = record { items = one ∷ [] } in
    let second : Block = record { items = two ∷ [] } in
    ap code_forms (item_code-If asked first second End) ∙ omega arith

-- ---- the two makers

truth_of_adds : (free n : ℕ) (v : Value) → Adds (empty free) n v.made → Makes (λ asked. condition_forms (cond_code asked.cond) ≤ 2 + n) (truth_of v)
truth_of_adds free n v a =
    let e = ap condition_forms (cond_code-Truth (block v.made) v.slot) in let f = forms_of_items v.made.items in omega (arith, a, e, f)

computes_forms : (value : Scope → Made → Within Value) (span : Span) (n : ℕ) → ((scope : Scope) (made : Made) → ValueAdds made n (value scope made)) → Forms (computes value span) (2 + n)
computes_forms value span n adds = record {
  value = λ scope made. value_as made n (2 + n) (value scope made) (omega arith) (adds scope made);
  condition = λ scope free. makes_then (λ v. Adds (empty free) n v.made) (λ asked. condition_forms (cond_code asked.cond) ≤ 2 + n) (value scope (empty free)) truth_of (adds scope (empty free)) (λ v a. truth_of_adds free n v a);
  target = λ scope made. omega arith;
  unused = λ scope made. makes_then (λ v. Adds made n v.made) (λ m. Adds made (2 + n) m) (value scope made) without_value (adds scope made) (λ v a. omega (arith, a));
}

asks_forms : (condition : Scope → ℕ → Within Asked) (span : Span) (n : ℕ) → ((scope : Scope) (free : ℕ) → Makes (λ asked. condition_forms (cond_code asked.cond) ≤ 1 + n) (condition scope free)) → Forms (asks condition span) (2 + n)
asks_forms condition span n asked =
    let value : (scope : Scope) (made : Made) → ValueAdds made (2 + n) (asked_value condition span scope made) =
    λ scope made. makes_then (λ a. condition_forms (cond_code a.cond) ≤ 1 + n) (λ v. Adds made (2 + n) v.made) (condition scope made.free) (truth_value made.items span) (asked scope made.free)
    (λ a le. taking_adds (record { items = made.items; free = a.free }) (truth_item a.cond a.free span) (2 + n) (let e = truth_forms a.cond a.free span in omega (arith, e, le))) in
    record {
      value = value;
      condition = λ scope free. makes_more (λ a. condition_forms (cond_code a.cond) ≤ 1 + n) (λ a. condition_forms (cond_code a.cond) ≤ 2 + n) (λ a le. omega (arith, le)) (condition scope free) (asked scope free);
      target = λ scope made. omega arith;
      unused = λ scope made. makes_then (λ v. Adds made (2 + n) v.made) (λ m. Adds made (2 + n) m) (asked_value condition span scope made) without_value (value scope made) (λ v a. a);
    }

-- ---- spots and names

write_adds : (made : Made) (place : Spot) (slot : ℕ) (ty : Type_) (whole target from : Span) → Adds made 0 (with_item made (write place slot ty whole target from))
write_adds made (spot.Variable variable) slot ty whole target from = item_adds made (write (spot.Variable variable) slot ty whole target from) (omega arith)
write_adds made (spot.FieldOf object field) slot ty whole target from = item_adds made (write (spot.FieldOf object field) slot ty whole target from) (omega arith)
write_adds made (spot.Cell array index array_type at) slot ty whole target from = item_adds made (write (spot.Cell array index array_type at) slot ty whole target from) (omega arith)

read_adds : (place : Spot) (target : Span) (made : Made) → ValueAdds made 0 (read place target made)
read_adds (spot.Variable slot) target made = computed_adds made (op.Copy made.free slot int_type) target
read_adds (spot.FieldOf object field) target made = computed_adds made (op.ReadField made.free object field) target
read_adds (spot.Cell array index ty at) target made = computed_adds made (op.Load made.free array index ty) at

copied_or_not : (b : Bool) (scope : Scope) (span : Span) (slot : ℕ) (made : Made)
    → ValueAdds made 0 (if b then computed made (op.Copy made.free slot (type_at scope span)) span else in_place made slot)
copied_or_not true scope span slot made = computed_adds made (op.Copy made.free slot (type_at scope span)) span
copied_or_not false scope span slot made = omega arith

named_adds : (scope : Scope) (span : Span) (m : Option Meaning) (made : Made) → ValueAdds made 0 (values.named scope span m made)
named_adds scope span (Some (meaning.Constant n)) made = computed_adds made (op.Const made.free (literal.Int n)) span
named_adds scope span (Some (meaning.FieldNamed field)) made = computed_adds made (op.ReadField made.free 0 field) span
named_adds scope span other made = copied_or_not (is_among (slot_of scope other) scope.assigned) scope span (slot_of scope other) made

named_unused_adds : (scope : Scope) (span : Span) (m : Option Meaning) (made : Made) → Makes (λ m. Adds made 0 m) (values.named_unused scope span m made)
named_unused_adds scope span (Some (meaning.ClassNamed class)) made = omega arith
named_unused_adds scope span other made = makes_then (λ v. Adds made 0 v.made) (λ m. Adds made 0 m) (values.named scope span other made) without_value (named_adds scope span other made) (λ v a. a)

name_forms : (ident : Ident) (span : Span) → Forms (values.name ident span) (2 + 0)
name_forms ident span =
    let computed = computes_forms (λ scope made. values.named scope span (meaning_at scope ident.span) made) span 0 (λ scope made. named_adds scope span (meaning_at scope ident.span) made) in
    record {
      value = computed.value;
      condition = computed.condition;
      target = λ scope made. omega arith;
      unused = λ scope made. makes_more (λ m. Adds made 0 m) (λ m. Adds made (2 + 0) m) (λ m a. omega (arith, a)) _ (named_unused_adds scope span (meaning_at scope ident.span) made);
    }

-- ---- selections and arrays

selected_adds : (object : Lowering) (n : ℕ) → Forms object n → (span : Span) (scope : Scope) (m : Option Meaning) (made : Made) → ValueAdds made (n + 0) (values.selected object span scope m made)
selected_adds object n f span scope (Some (meaning.Constant k)) made = then_adds (λ m. m) (λ v. v.made) made n 0 (object.unused scope made) _ (f.unused scope made) (λ before. computed_adds before (op.Const before.free (literal.Int k)) span)
selected_adds object n f span scope (Some (meaning.FieldNamed field)) made = then_value made n 0 (object.value scope made) _ (f.value scope made) (λ o. computed_adds o.made (op.ReadField o.made.free o.slot field) span)
selected_adds object n f span scope other made = then_value made n 0 (object.value scope made) _ (f.value scope made) (λ o. computed_adds o.made (op.Length o.made.free o.slot) span)

selection_forms : (object : Lowering) (n : ℕ) (ident : Ident) (span : Span) → Forms object n → Forms (values.selection object ident span) (2 + (n + 0))
selection_forms object n ident span f =
    let computed = computes_forms (λ scope made. values.selected object span scope (meaning_at scope ident.span) made) span (n + 0) (λ scope made. selected_adds object n f span scope (meaning_at scope ident.span) made) in
    record {
      value = computed.value;
      condition = computed.condition;
      unused = computed.unused;
      target = λ scope made. makes_then (λ v. Adds made n v.made) (λ t. Adds made (2 + (n + 0)) t.made) (object.value scope made) _ (f.value scope made) (λ o a. omega (arith, a));
    }

element_forms : (array index : Lowering) (n m : ℕ) (span : Span) → Forms array n → Forms index m → Forms (values.element array index span) (2 + (n + (m + 0)))
element_forms array index n m span a i =
    let computed = computes_forms _ span (n + (m + 0)) (λ scope made. then_value made n (m + 0) (array.value scope made) _ (a.value scope made) (λ x. then_value x.made m 0 (index.value scope x.made) _ (i.value scope x.made)
    (λ y. computed_adds y.made (op.Load y.made.free x.slot y.slot (type_at scope array.span)) index.span))) in
    record {
      value = computed.value;
      condition = computed.condition;
      unused = computed.unused;
      target = λ scope made. makes_more (λ t. Adds made (n + (m + 0)) t.made) (λ t. Adds made (2 + (n + (m + 0))) t.made) (λ t a. omega (arith, a)) _
          (then_adds (λ v. v.made) (λ t. t.made) made n (m + 0) (array.value scope made) _ (a.value scope made)
          (λ x. then_adds (λ v. v.made) (λ t. t.made) x.made m 0 (index.value scope x.made) _ (i.value scope x.made) (λ y. omega arith)));
    }

abbrev Fills : Filling → ℕ → Type 0
Fills f n = (scope : Scope) (ty : Type_) (made : Made) → ValueAdds made n (f.value scope ty made)

abbrev AllFill : List Filling → List ℕ → Type 0
AllFill [] [] = Unit {0}
AllFill (f ∷ fs) (n ∷ ns) = Fills f n × AllFill fs ns
AllFill _ _ = ⊥

abbrev pub sum : List ℕ → ℕ
sum [] = 0
sum (n ∷ ns) = n + sum ns

entries_add : (slots : List ℕ) (fs : List Filling) (ns : List ℕ) → AllFill fs ns → (scope : Scope) (ty : Type_) (made : Made) → Makes (λ e. Adds made (sum ns) e.made) (values.entries_from slots fs scope ty made)
entries_add slots [] [] all scope ty made = omega arith
entries_add slots [] (n ∷ ns) all scope ty made = absurd all
entries_add slots (f ∷ fs) [] all scope ty made = absurd all
entries_add slots (f ∷ fs) (n ∷ ns) all scope ty made =
    then_adds (λ v. v.made) (λ e. e.made) made n (sum ns) (f.value scope ty made) _ (all.0 scope ty made) (λ v. entries_add (slots ++ v.slot ∷ []) fs ns all.1 scope ty v.made)

filled_adds : (fs : List Filling) (ns : List ℕ) (span : Span) → AllFill fs ns → (scope : Scope) (ty : Type_) (made : Made) → ValueAdds made (sum ns + 0) (values.filled fs span scope ty made)
filled_adds fs ns span all scope ty made =
    then_adds (λ e. e.made) (λ v. v.made) made (sum ns) 0 (values.entries_from [] fs scope (cell_type ty) made) _ (entries_add [] fs ns all scope (cell_type ty) made)
    (λ given. taking_adds given.made (done (op.Fill given.made.free ty given.slots) span (values.spans fs)) 0 (omega arith))

-- ---- operators

compared_forms : (rel : Rel) (left right : Lowering) (n m : ℕ) → Forms left n → Forms right m → (scope : Scope) (free : ℕ) → Makes (λ asked. condition_forms (cond_code asked.cond) ≤ 1 + (n + m)) (values.compared rel left right scope free)
compared_forms rel left right n m a b scope free =
    makes_then (λ y. Adds (empty free) n y.made) (λ asked. condition_forms (cond_code asked.cond) ≤ 1 + (n + m)) (left.value scope (empty free)) _ (a.value scope (empty free))
    (λ y first. makes_then (λ z. Adds y.made m z.made) (λ asked. condition_forms (cond_code asked.cond) ≤ 1 + (n + m)) (right.value scope y.made) _ (b.value scope y.made)
    (λ z second. let e = ap condition_forms (cond_code-Compare (block z.made) (record { rel = rel; left = y.slot; right = z.slot; ty = type_at scope left.span; left_span = left.span; right_span = right.span })) in
    let f = forms_of_items z.made.items in omega (arith, first, second, e, f)))

both_forms : (left right : Lowering) (n m : ℕ) → Forms left n → Forms right m → (scope : Scope) (free : ℕ) → Makes (λ asked. condition_forms (cond_code asked.cond) ≤ 1 + (n + m)) (values.both left right scope free)
both_forms left right n m a b scope free =
    makes_then (λ c. condition_forms (cond_code c.cond) ≤ n) (λ asked. condition_forms (cond_code asked.cond) ≤ 1 + (n + m)) (left.condition scope free) _ (a.condition scope free)
    (λ c first. makes_then (λ d. condition_forms (cond_code d.cond) ≤ m) (λ asked. condition_forms (cond_code asked.cond) ≤ 1 + (n + m)) (right.condition scope c.free) _ (b.condition scope c.free)
    (λ d second. let e = ap condition_forms (cond_code-Both c.cond d.cond) in omega (arith, e, first, second)))

either_forms : (left right : Lowering) (n m : ℕ) → Forms left n → Forms right m → (scope : Scope) (free : ℕ) → Makes (λ asked. condition_forms (cond_code asked.cond) ≤ 1 + (n + m)) (values.either left right scope free)
either_forms left right n m a b scope free =
    makes_then (λ c. condition_forms (cond_code c.cond) ≤ n) (λ asked. condition_forms (cond_code asked.cond) ≤ 1 + (n + m)) (left.condition scope free) _ (a.condition scope free)
    (λ c first. makes_then (λ d. condition_forms (cond_code d.cond) ≤ m) (λ asked. condition_forms (cond_code asked.cond) ≤ 1 + (n + m)) (right.condition scope c.free) _ (b.condition scope c.free)
    (λ d second. let e = ap condition_forms (cond_code-Either c.cond d.cond) in omega (arith, e, first, second)))

opposite_forms : (operand : Lowering) (n : ℕ) → Forms operand n → (scope : Scope) (free : ℕ) → Makes (λ asked. condition_forms (cond_code asked.cond) ≤ 1 + n) (values.opposite operand scope free)
opposite_forms operand n g scope free =
    makes_then (λ c. condition_forms (cond_code c.cond) ≤ n) (λ asked. condition_forms (cond_code asked.cond) ≤ 1 + n) (operand.condition scope free) _ (g.condition scope free)
    (λ c a. let e = ap condition_forms (cond_code-Opposite c.cond) in omega (arith, e, a))

simpler : (n m : ℕ) → 2 + (n + (m + 0)) ≤ 2 + (n + m)
simpler n m = omega arith

simplest : (n m : ℕ) → 2 + (n + (0 + (m + (0 + 0)))) ≤ 2 + (n + m)
simplest n m = omega arith

forms_as : (l : Lowering) (n m : ℕ) → n ≤ m → Forms l n → Forms l m
forms_as l n m le f = record {
  value = λ scope made. value_as made n m (l.value scope made) le (f.value scope made);
  condition = λ scope free. makes_more (λ a. condition_forms (cond_code a.cond) ≤ n) (λ a. condition_forms (cond_code a.cond) ≤ m) (λ a x. omega (arith, x, le)) (l.condition scope free) (f.condition scope free);
  target = λ scope made. makes_more (λ t. Adds made n t.made) (λ t. Adds made m t.made) (λ t x. omega (arith, x, le)) (l.target scope made) (f.target scope made);
  unused = λ scope made. makes_more (λ t. Adds made n t) (λ t. Adds made m t) (λ t x. omega (arith, x, le)) (l.unused scope made) (f.unused scope made);
}

unary_forms : (operator : UnaryOp) (operand : Lowering) (n : ℕ) (span : Span) → Forms operand n → Forms (values.unary_of operator operand span) (2 + n)
unary_forms operator.Plus operand n span g = computes_forms _ span n (λ scope made. g.value scope made)
unary_forms operator.Minus operand n span g = forms_as _ (2 + (n + 0)) (2 + n) (omega arith) (computes_forms _ span (n + 0) (λ scope made. then_value made n 0 (operand.value scope made) _ (g.value scope made) (λ y. computed_adds y.made (op.Unary y.made.free unary.Neg y.slot) span)))
unary_forms operator.Flip operand n span g = forms_as _ (2 + (n + 0)) (2 + n) (omega arith) (computes_forms _ span (n + 0) (λ scope made. then_value made n 0 (operand.value scope made) _ (g.value scope made) (λ y. computed_adds y.made (op.Unary y.made.free unary.Flip y.slot) span)))
unary_forms operator.Not operand n span g = asks_forms (values.opposite operand) span n (opposite_forms operand n g)

binary_forms : (operator : BinaryOp) (left right : Lowering) (n m : ℕ) (span : Span) → Forms left n → Forms right m → Forms (values.binary_of operator left right span) (2 + (n + m))
binary_forms (binary.Num arithmetic) left right n m span a b = forms_as _ (2 + (n + (m + 0))) (2 + (n + m)) (simpler n m)
    (computes_forms _ span (n + (m + 0)) (λ scope made. then_value made n (m + 0) (left.value scope made) _ (a.value scope made) (λ y. then_value y.made m 0 (right.value scope y.made) _ (b.value scope y.made)
    (λ z. computed_adds z.made (op.Num z.made.free arithmetic y.slot z.slot) span))))
binary_forms (binary.Compare rel) left right n m span a b = asks_forms (values.compared rel left right) span (n + m) (compared_forms rel left right n m a b)
binary_forms binary.AndAlso left right n m span a b = asks_forms (values.both left right) span (n + m) (both_forms left right n m a b)
binary_forms binary.OrElse left right n m span a b = asks_forms (values.either left right) span (n + m) (either_forms left right n m a b)

-- ---- assignments

assign_forms : (operator : Option Arith) (target value : Lowering) (n m : ℕ) (span : Span) → Forms target n → Forms value m → Forms (values.assign_of operator target value span) (2 + (n + m))
assign_forms None target value n m span t v = forms_as _ (2 + (n + (m + 0))) (2 + (n + m)) (simpler n m)
    (computes_forms _ span (n + (m + 0)) (λ scope made. then_adds (λ p. p.made) (λ v. v.made) made n (m + 0) (target.target scope made) _ (t.target scope made)
    (λ place. then_value place.made m 0 (value.value scope place.made) _ (v.value scope place.made)
    (λ w. write_adds w.made place.spot w.slot (type_at scope value.span) span target.span value.span))))
assign_forms (Some arithmetic) target value n m span t v = forms_as _ (2 + (n + (0 + (m + (0 + 0))))) (2 + (n + m)) (simplest n m)
    (computes_forms _ span (n + (0 + (m + (0 + 0)))) (λ scope made. then_adds (λ p. p.made) (λ v. v.made) made n (0 + (m + (0 + 0))) (target.target scope made) _ (t.target scope made)
    (λ place. then_value place.made 0 (m + (0 + 0)) (read place.spot target.span place.made) _ (read_adds place.spot target.span place.made)
    (λ y. then_value y.made m (0 + 0) (value.value scope y.made) _ (v.value scope y.made)
    (λ z. then_value z.made 0 0 (computed z.made (op.Num z.made.free arithmetic y.slot z.slot) span) _ (computed_adds z.made (op.Num z.made.free arithmetic y.slot z.slot) span)
    (λ w. write_adds w.made place.spot w.slot int_type span target.span span))))))

step_forms : (up after : Bool) (target : Lowering) (n : ℕ) (span : Span) → Forms target n → Forms (values.step up after target span) (2 + n)
step_forms up after target n span t = forms_as _ (2 + (n + (0 + (0 + (0 + 0))))) (2 + n) (omega arith)
    (computes_forms _ span (n + (0 + (0 + (0 + 0)))) (λ scope made. then_adds (λ p. p.made) (λ v. v.made) made n (0 + (0 + (0 + 0))) (target.target scope made) _ (t.target scope made)
    (λ place. then_value place.made 0 (0 + (0 + 0)) (read place.spot target.span place.made) _ (read_adds place.spot target.span place.made)
    (λ y. then_value y.made 0 (0 + 0) (int_value (pos 1) span y.made) _ (computed_adds y.made (op.Const y.made.free (literal.Int (pos 1))) span)
    (λ one. then_value one.made 0 0 (computed one.made (op.Num one.made.free (if up then Add else Sub) y.slot one.slot) span) _ (computed_adds one.made (op.Num one.made.free (if up then Add else Sub) y.slot one.slot) span)
    (λ w. write_adds w.made place.spot w.slot int_type span target.span span))))))

-- ---- calls

abbrev pub AllForms : List Lowering → List ℕ → Type 0
AllForms [] [] = Unit {0}
AllForms (l ∷ ls) (n ∷ ns) = Forms l n × AllForms ls ns
AllForms _ _ = ⊥

pub arguments_add : (given : List Arg) (ls : List Lowering) (ns : List ℕ) → AllForms ls ns → (scope : Scope) (made : Made) → Makes (λ a. Adds made (sum ns) a.made) (values.arguments_from given ls scope made)
arguments_add given [] [] all scope made = omega arith
arguments_add given [] (n ∷ ns) all scope made = absurd all
arguments_add given (l ∷ ls) [] all scope made = absurd all
arguments_add given (l ∷ ls) (n ∷ ns) all scope made =
    then_adds (λ v. v.made) (λ a. a.made) made n (sum ns) (l.value scope made) _ (all.0.value scope made)
    (λ v. arguments_add (given ++ record { slot = v.slot; span = l.span } ∷ []) ls ns all.1 scope v.made)

pub calling_adds : (kind : CallOp → OpKind) (method : ℕ) (receiver : Option ℕ) (class : ℕ) (span : Span) (given : Arguments) → ValueAdds given.made 0 (values.calling kind method receiver class span given)
calling_adds kind method receiver class span given = computed_adds given.made (kind _) span

abbrev ObjectForms : Option Lowering → ℕ → Type 0
ObjectForms None n = Unit {0}
ObjectForms (Some object) n = Forms object n

unused_object_adds : (object : Option Lowering) (n : ℕ) → ObjectForms object n → (scope : Scope) (made : Made) → Makes (λ m. Adds made n m) (values.unused_object object scope made)
unused_object_adds None n f scope made = omega arith
unused_object_adds (Some object) n f scope made = f.unused scope made

object_adds : (object : Option Lowering) (n : ℕ) → ObjectForms object n → (scope : Scope) (made : Made) → ValueAdds made n (values.object_value object scope made)
object_adds None n f scope made = omega arith
object_adds (Some object) n f scope made = f.value scope made

call_forms : (object : Option Lowering) (n : ℕ) → ObjectForms object n → (ls : List Lowering) (ns : List ℕ) → AllForms ls ns → (ident : Ident) (span : Span) → Forms (values.call object ident ls span) (2 + (n + (sum ns + 0)))
call_forms object n f ls ns all ident span = computes_forms _ span (n + (sum ns + 0)) (λ scope made.
    let method = values.method_number (meaning_at scope ident.span) in
    let head = head_at scope.site method in
    static_or_instance head.is_static head.class method ident.span scope made)
  where
    static_or_instance : (b : Bool) (class method : ℕ) (span : Span) (scope : Scope) (made : Made)
        → ValueAdds made (n + (sum ns + 0)) (if b then values.static_call object method ls class span scope made else values.instance_call object method ls span scope made)
    static_or_instance true class method span scope made = then_adds (λ m. m) (λ v. v.made) made n (sum ns + 0) (values.unused_object object scope made) _ (unused_object_adds object n f scope made)
        (λ before. then_adds (λ a. a.made) (λ v. v.made) before (sum ns) 0 (values.arguments_from [] ls scope before) _ (arguments_add [] ls ns all scope before) (λ given. calling_adds op.StaticCall method None class span given))
    static_or_instance false class method span scope made = then_adds (λ v. v.made) (λ v. v.made) made n (sum ns + 0) (values.object_value object scope made) _ (object_adds object n f scope made)
        (λ o. then_adds (λ a. a.made) (λ v. v.made) o.made (sum ns) 0 (values.arguments_from [] ls scope o.made) _ (arguments_add [] ls ns all scope o.made)
        (λ given. calling_adds op.InstanceCall method (Some o.slot) (values.object_class object scope) span given))

new_forms : (ident : Ident) (ls : List Lowering) (ns : List ℕ) (span : Span) → AllForms ls ns → Forms (values.new_object ident ls span) (2 + (sum ns + 0))
new_forms ident ls ns span all = computes_forms _ span (sum ns + 0) (λ scope made.
    then_adds (λ a. a.made) (λ v. v.made) made (sum ns) 0 (values.arguments_from [] ls scope made) _ (arguments_add [] ls ns all scope made)
    (λ given. calling_adds op.NewObject (constructor_at scope.site (values.class_number (meaning_at scope ident.span))) None (values.class_number (meaning_at scope ident.span)) span given))

-- ---- all forms

abbrev kind_lowering : ExprKind → Span → Lowering
kind_lowering = fold-ExprKind (Span → Lowering) Filling Lowering values.kind_step values.init_step values.expr_step

abbrev kind_parts : ExprKind → List Part
kind_parts = fold-ExprKind (List Part) (List Part) (List Part) parts.kind_step parts.init_step parts.expr_step

abbrev KindIs : ExprKind → Type 0
KindIs k = (span : Span) → Forms (kind_lowering k span) (2 + parts_forms (kind_parts k))

abbrev InitIs : Init → Type 0
InitIs i = Fills (filling i) (parts_forms (init_parts i))

abbrev ExprIs : Expr → Type 0
ExprIs e = Forms (lowering e) (parts_forms (expr_parts e))

module _ {K I E : Type 0} (kind : K → ExprKind) (init : I → Init) (expr : E → Expr) (init_is : (i : I) → InitIs (init i)) (expr_is : (e : E) → ExprIs (expr e)) where
  all_forms : (es : List E) → AllForms (map lowering (map expr es)) (map (λ e. parts_forms (expr_parts (expr e))) es)
  all_forms [] = tt
  all_forms (e ∷ es) = (expr_is e, all_forms es)

  all_fill : (is : List I) → AllFill (map filling (map init is)) (map (λ i. parts_forms (init_parts (init i))) is)
  all_fill [] = tt
  all_fill (i ∷ is) = (init_is i, all_fill is)

  args_sum : (es : List E) → sum (map (λ e. parts_forms (expr_parts (expr e))) es) ≤ parts_forms (listed (map expr_parts (map expr es)))
  args_sum es = let e = together_sum es in omega (arith, e)
    where
      together_sum : (es : List E) → sum (map (λ e. parts_forms (expr_parts (expr e))) es) ≡ parts_forms (together (map expr_parts (map expr es)))
      together_sum [] = refl
      together_sum (e ∷ es) = let a = together_sum es in let b = total_append part_forms (expr_parts (expr e)) (together (map expr_parts (map expr es))) in omega (arith, a, b)

  items_sum : (is : List I) → sum (map (λ i. parts_forms (init_parts (init i))) is) ≤ parts_forms (listed (map init_parts (map init is)))
  items_sum is = let e = together_sum is in omega (arith, e)
    where
      together_sum : (is : List I) → sum (map (λ i. parts_forms (init_parts (init i))) is) ≡ parts_forms (together (map init_parts (map init is)))
      together_sum [] = refl
      together_sum (i ∷ is) = let a = together_sum is in let b = total_append part_forms (init_parts (init i)) (together (map init_parts (map init is))) in omega (arith, a, b)

  kind_layer : (y : ExprKind-F K I E) (span : Span)
      → Forms (values.kind_step (map-ExprKind ExprKind Init Expr (Span → Lowering) Filling Lowering kind_lowering filling lowering (map-ExprKind K I E ExprKind Init Expr kind init expr y)) span)
      (2 + parts_forms (parts.kind_step (map-ExprKind ExprKind Init Expr (List Part) (List Part) (List Part) kind_parts init_parts expr_parts (map-ExprKind K I E ExprKind Init Expr kind init expr y))))
  kind_layer (ExprKind-F.Int n) span = computes_forms _ span 0 (λ scope made. computed_adds made (op.Const made.free (literal.Int n)) span)
  kind_layer (ExprKind-F.Bool answer) span =
      let computed = computes_forms _ span 0 (λ scope made. computed_adds made (op.Const made.free (literal.Bool answer)) span) in
      record { value = computed.value; condition = λ scope free. omega arith; target = computed.target; unused = computed.unused }
  kind_layer ExprKind-F.Null span = computes_forms _ span 0 (λ scope made. computed_adds made (op.Const made.free (literal.NullOf (type_at scope span))) span)
  kind_layer ExprKind-F.This span = computes_forms _ span 0 (λ scope made. omega arith)
  kind_layer (ExprKind-F.Name ident) span = forms_as _ (2 + 0) _ (omega arith) (name_forms ident span)
  kind_layer (ExprKind-F.Select object ident) span =
      let n = parts_forms (expr_parts (expr object)) in let a = total_append part_forms (expr_parts (expr object)) (elsewhere ident ∷ []) in
      forms_as _ (2 + (n + 0)) _ (omega (arith, a)) (selection_forms (lowering (expr object)) n ident span (expr_is object))
  kind_layer (ExprKind-F.Index array index) span =
      let n = parts_forms (expr_parts (expr array)) in let m = parts_forms (expr_parts (expr index)) in let a = total_append part_forms (expr_parts (expr array)) (expr_parts (expr index)) in
      forms_as _ (2 + (n + (m + 0))) _ (omega (arith, a)) (element_forms (lowering (expr array)) (lowering (expr index)) n m span (expr_is array) (expr_is index))
  kind_layer (ExprKind-F.Call None ident args) span =
      let ns = map (λ (e : E). parts_forms (expr_parts (expr e))) args in let le = args_sum args in
      forms_as _ (2 + (0 + (sum ns + 0))) _ (omega (arith, le)) (call_forms None 0 tt (map lowering (map expr args)) ns (all_forms args) ident span)
  kind_layer (ExprKind-F.Call (Some object) ident args) span =
      let ns = map (λ (e : E). parts_forms (expr_parts (expr e))) args in let le = args_sum args in
      let n = parts_forms (expr_parts (expr object)) in let a = total_append part_forms (expr_parts (expr object)) (elsewhere ident ∷ listed (map expr_parts (map expr args))) in
      forms_as _ (2 + (n + (sum ns + 0))) _ (omega (arith, le, a)) (call_forms (Some (lowering (expr object))) n (expr_is object) (map lowering (map expr args)) ns (all_forms args) ident span)
  kind_layer (ExprKind-F.New ident args) span =
      let ns = map (λ (e : E). parts_forms (expr_parts (expr e))) args in let le = args_sum args in
      forms_as _ (2 + (sum ns + 0)) _ (omega (arith, le)) (new_forms ident (map lowering (map expr args)) ns span (all_forms args))
  kind_layer (ExprKind-F.NewArray ty size) span =
      let m = parts_forms (expr_parts (expr size)) in let a = total_append part_forms (type_parts ty) (expr_parts (expr size)) in
      forms_as _ (2 + (m + 0)) _ (omega (arith, a)) (computes_forms _ span (m + 0) (λ scope made. then_value made m 0 ((lowering (expr size)).value scope made) _ ((expr_is size).value scope made)
      (λ n. computed_adds n.made (op.NewArray n.made.free (type_at scope span) n.slot) (lowering (expr size)).span)))
  kind_layer (ExprKind-F.NewItems ty items) span =
      let ns = map (λ (i : I). parts_forms (init_parts (init i))) items in let le = items_sum items in let a = total_append part_forms (type_parts ty) (listed (map init_parts (map init items))) in
      forms_as _ (2 + (sum ns + 0)) _ (omega (arith, le, a)) (computes_forms _ span (sum ns + 0) (λ scope made. filled_adds (map filling (map init items)) ns span (all_fill items) scope (type_at scope span) made))
  kind_layer (ExprKind-F.Unary operator operand) span = unary_forms operator (lowering (expr operand)) _ span (expr_is operand)
  kind_layer (ExprKind-F.Binary operator left right) span =
      let n = parts_forms (expr_parts (expr left)) in let m = parts_forms (expr_parts (expr right)) in let a = total_append part_forms (expr_parts (expr left)) (expr_parts (expr right)) in
      forms_as _ (2 + (n + m)) _ (omega (arith, a)) (binary_forms operator (lowering (expr left)) (lowering (expr right)) n m span (expr_is left) (expr_is right))
  kind_layer (ExprKind-F.Assign operator target value) span =
      let n = parts_forms (expr_parts (expr target)) in let m = parts_forms (expr_parts (expr value)) in let a = total_append part_forms (expr_parts (expr target)) (expr_parts (expr value)) in
      forms_as _ (2 + (n + m)) _ (omega (arith, a)) (assign_forms operator (lowering (expr target)) (lowering (expr value)) n m span (expr_is target) (expr_is value))
  kind_layer (ExprKind-F.Step up after target) span = step_forms up after (lowering (expr target)) _ span (expr_is target)

  kind_rolled : (y : ExprKind-F K I E) → KindIs (roll-ExprKind (map-ExprKind K I E ExprKind Init Expr kind init expr y))
  kind_rolled y span =
      let layer = map-ExprKind K I E ExprKind Init Expr kind init expr y in
      let a = fold-roll-ExprKind (Span → Lowering) Filling Lowering values.kind_step values.init_step values.expr_step layer in
      let b = fold-roll-ExprKind (List Part) (List Part) (List Part) parts.kind_step parts.init_step parts.expr_step layer in
      subst (λ (ps : List Part). Forms (kind_lowering (roll-ExprKind layer) span) (2 + parts_forms ps)) (sym b)
      (subst (λ (f : Span → Lowering). Forms (f span) (2 + parts_forms (parts.kind_step (map-ExprKind ExprKind Init Expr (List Part) (List Part) (List Part) kind_parts init_parts expr_parts layer)))) (sym a) (kind_layer y span))

  init_layer : (y : Init-F K I E) → Fills (values.init_step (map-Init ExprKind Init Expr (Span → Lowering) Filling Lowering kind_lowering filling lowering (map-Init K I E ExprKind Init Expr kind init expr y)))
      (parts_forms (parts.init_step (map-Init ExprKind Init Expr (List Part) (List Part) (List Part) kind_parts init_parts expr_parts (map-Init K I E ExprKind Init Expr kind init expr y))))
  init_layer (Init-F.Value e) scope ty made = (expr_is e).value scope made
  init_layer (Init-F.Items items span) scope ty made =
      let ns = map (λ (i : I). parts_forms (init_parts (init i))) items in let le = items_sum items in
      value_as made (sum ns + 0) _ _ (omega (arith, le)) (filled_adds (map filling (map init items)) ns span (all_fill items) scope ty made)

  init_rolled : (y : Init-F K I E) → InitIs (roll-Init (map-Init K I E ExprKind Init Expr kind init expr y))
  init_rolled y =
      let layer = map-Init K I E ExprKind Init Expr kind init expr y in
      let a = fold-roll-Init (Span → Lowering) Filling Lowering values.kind_step values.init_step values.expr_step layer in
      let b = fold-roll-Init (List Part) (List Part) (List Part) parts.kind_step parts.init_step parts.expr_step layer in
      subst (λ (ps : List Part). Fills (filling (roll-Init layer)) (parts_forms ps)) (sym b)
      (subst (λ (f : Filling). Fills f (parts_forms (parts.init_step (map-Init ExprKind Init Expr (List Part) (List Part) (List Part) kind_parts init_parts expr_parts layer)))) (sym a) (init_layer y))

  expr_rolled : ((k : K) → KindIs (kind k)) → (y : Expr-F K I E) → ExprIs (roll-Expr (map-Expr K I E ExprKind Init Expr kind init expr y))
  expr_rolled kind_is y =
      let layer = map-Expr K I E ExprKind Init Expr kind init expr y in
      let a = fold-roll-Expr (Span → Lowering) Filling Lowering values.kind_step values.init_step values.expr_step layer in
      let b = fold-roll-Expr (List Part) (List Part) (List Part) parts.kind_step parts.init_step parts.expr_step layer in
      let g = kind_is y.kind y.span in
      subst (λ (ps : List Part). Forms (lowering (roll-Expr layer)) (parts_forms ps)) (sym b)
      (subst (λ (l : Lowering). Forms l (2 + parts_forms (kind_parts (kind y.kind)))) (sym a) (record { value = g.value; condition = g.condition; target = g.target; unused = g.unused }))

pub expression_forms : (e : Expr) → Forms (lowering e) (parts_forms (expr_parts e))
expression_forms = ind-Expr KindIs InitIs ExprIs
    (λ x y e. subst (λ layer. KindIs (roll-ExprKind layer)) e (kind_rolled (λ k. k.0) (λ i. i.0) (λ x. x.0) (λ i. i.1) (λ x. x.1) y))
    (λ x y e. subst (λ layer. InitIs (roll-Init layer)) e (init_rolled (λ k. k.0) (λ i. i.0) (λ x. x.0) (λ i. i.1) (λ x. x.1) y))
    (λ x y e. subst (λ layer. ExprIs (roll-Expr layer)) e (expr_rolled (λ k. k.0) (λ i. i.0) (λ x. x.0) (λ i. i.1) (λ x. x.1) (λ k. k.1) y))

pub initialiser_forms : (i : Init) → (scope : Scope) (ty : Type_) (made : Made) → Makes (λ v. Adds made (parts_forms (init_parts i)) v.made) ((filling i).value scope ty made)
initialiser_forms = ind-Init KindIs InitIs ExprIs
    (λ x y e. subst (λ layer. KindIs (roll-ExprKind layer)) e (kind_rolled (λ k. k.0) (λ i. i.0) (λ x. x.0) (λ i. i.1) (λ x. x.1) y))
    (λ x y e. subst (λ layer. InitIs (roll-Init layer)) e (init_rolled (λ k. k.0) (λ i. i.0) (λ x. x.0) (λ i. i.1) (λ x. x.1) y))
    (λ x y e. subst (λ layer. ExprIs (roll-Expr layer)) e (expr_rolled (λ k. k.0) (λ i. i.0) (λ x. x.0) (λ i. i.1) (λ x. x.1) (λ k. k.1) y))
