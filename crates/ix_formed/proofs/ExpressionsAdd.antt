-- An expression appends plain items and takes slots upwards.
use Rattle.std.proofs.Common.{◌≡◌, ℕ, ◌+◌, ℤ, pos, Bool, true, false, List, [], ◌∷◌, ◌++◌, map, Option, Some, None, Ok, Err, refl, sym, ap, subst, ◌∙◌, arith, append_assoc}
use Rattle.std.specs.Prelude.{if◌then◌else◌, nat_lt, ◌&&◌}
use Rattle.std.proofs.lemmas.Bool.Decides.{nat_tests}
use Rattle.std.proofs.lemmas.List.{append-nil}
use Rattle.ix_text.specs.declared.span.Span.{Span}
use Rattle.ix_num.specs.declared.arith.Arith.{Arith}
use Rattle.ix_num.specs.declared.arith.Arith.TheVariants.{Add, Sub}
use Rattle.ix_num.specs.declared.rel.Rel.{Rel}
use Rattle.ix_core.specs.declared.claim.Type_.{Type_}
use Rattle.ix_core.specs.declared.code.Cond.{Cond}
use Rattle.ix_core.specs.declared.code.Cond.TheVariants as cond
use Rattle.ix_core.specs.declared.code.Item.{Item}
use Rattle.ix_core.specs.declared.op.Arg.{Arg}
use Rattle.ix_core.specs.declared.op.CallOp.{CallOp}
use Rattle.ix_core.specs.declared.op.Literal.TheVariants as literal
use Rattle.ix_core.specs.declared.op.OpKind.{OpKind}
use Rattle.ix_core.specs.declared.op.OpKind.TheVariants as op
use Rattle.ix_core.specs.declared.op.Test.{Test}
use Rattle.ix_core.specs.declared.op.UnaryNum.{UnaryNum}
use Rattle.ix_core.specs.Types.{int_type, cell_type}
use Rattle.ix_core.specs.Code.{cond_code}
use Rattle.ix_core.specs.Formed.{is_straight_condition, super_calls_in, is_super_call}
use Rattle.ix_core.proofs.Translated.{cond_code-Compare, cond_code-Truth, cond_code-Both, cond_code-Either, cond_code-Opposite}
use Rattle.ix_core.specs.declared.op.UnaryNum.TheVariants as unary
use Rattle.ix_tree.specs.declared.annot.Ident.{Ident}
use Rattle.ix_tree.specs.declared.expr.BinaryOp.{BinaryOp}
use Rattle.ix_tree.specs.declared.expr.BinaryOp.TheVariants as binary
use Rattle.ix_tree.specs.declared.expr.UnaryOp.{UnaryOp}
use Rattle.ix_tree.specs.declared.expr.UnaryOp.TheVariants as operator
use Rattle.ix_tree.specs.declared.expr.Expr.{Expr, Expr-F, ind-Expr, map-Expr, roll-Expr, fold-roll-Expr}
use Rattle.ix_tree.specs.declared.expr.ExprKind.{ExprKind, ExprKind-F, map-ExprKind, roll-ExprKind, fold-ExprKind, fold-roll-ExprKind}
use Rattle.ix_tree.specs.declared.expr.Init.{Init, Init-F, ind-Init, map-Init, roll-Init, fold-roll-Init}
use Rattle.ix_meaning.specs.declared.note.Meaning.{Meaning}
use Rattle.ix_meaning.specs.declared.note.Meaning.TheVariants as meaning
use Rattle.ix_meaning.specs.declared.note.Which.TheVariants as which
use Rattle.ix_plain.specs.declared.made.Made.{Made}
use Rattle.ix_plain.specs.declared.made.Spot.{Spot}
use Rattle.ix_plain.specs.declared.made.Spot.TheVariants as spot
use Rattle.ix_plain.specs.Scope.{Scope, slot_of, meaning_at, type_at, head_at, constructor_at, is_among}
use Rattle.ix_plain.specs.Parts.{Within, ◌>>=◌, Value, Asked, empty, block, with_item, in_place, done, taking, computed, truth_item, truth_value, truth_of, read, write, most_slots}
use Rattle.ix_plain.specs.Values as values
use Rattle.ix_plain.specs.Values.{Lowering, Filling, Arguments, lowering, filling, computes, asks, asked_value, without_value, int_value}
use Rattle.ix_formed.specs.Additions.{Makes, AllOf, IsPlain, Rises, Adds, Asks, Grows, Fills}
use Rattle.ix_formed.proofs.PlainItems.{makes_more, makes_then, plain_none, plain_both, plain_op, plain_block, plain_supers, plain_truth}

-- ---- what is added, one behind the other

pub rises_none : (free : ℕ) → Rises free free
rises_none free = record { up = omega arith; few = λ few. few }

pub rises_both : (first second third : ℕ) → Rises first second → Rises second third → Rises first third
rises_both first second third a b = record { up = omega (arith, a.up, b.up); few = λ few. b.few (a.few few) }

pub adds_none : (made : Made) → Adds made made
adds_none made = record { items = []; appended = sym (append-nil made.items); plain = plain_none; slots = rises_none made.free }

pub adds_both : (first second third : Made) → Adds first second → Adds second third → Adds first third
adds_both first second third a b = record {
  items = a.items ++ b.items;
  appended = b.appended ∙ ap (λ items. items ++ b.items) a.appended ∙ append_assoc first.items a.items b.items;
  plain = plain_both a.items b.items a.plain b.plain;
  slots = rises_both first.free second.free third.free a.slots b.slots;
}

-- a step, and behind it what adds to what the step made
pub then_adds : {A B : Type 0} (of : A → Made) (to : B → Made) (made : Made) (r : Within A) (next : A → Within B)
    → Makes (λ a. Adds made (of a)) r → ((a : A) → Makes (λ b. Adds (of a) (to b)) (next a)) → Makes (λ b. Adds made (to b)) (r >>= next)
then_adds of to made r next first second =
    makes_then (λ a. Adds made (of a)) (λ b. Adds made (to b)) r next first
    (λ a adds. makes_more (λ b. Adds (of a) (to b)) (λ b. Adds made (to b)) (λ b more. adds_both made (of a) (to b) adds more) (next a) (second a))

abbrev pub ValueAdds : Made → Within Value → Type 0
ValueAdds made r = Makes (λ v. Adds made v.made) r

then_value : (made : Made) (r : Within Value) (next : Value → Within Value) → ValueAdds made r → ((v : Value) → ValueAdds v.made (next v)) → ValueAdds made (r >>= next)
then_value made r next first second = then_adds (λ v. v.made) (λ v. v.made) made r next first second

-- ---- one item

taken : (made : Made) (first : Item) (b : Bool) → b ≡ nat_lt made.free most_slots → IsPlain (first ∷ [])
    → ValueAdds made (if b then Ok (record { made = record { items = made.items ++ first ∷ []; free = made.free + 1 }; slot = made.free }) else Err which.Slots)
taken made first true e plain = record {
  items = first ∷ [];
  appended = refl;
  plain = plain;
  slots = record { up = omega arith; few = λ few. grind (arith, nat_tests) };
}
taken made first false e plain = tt

pub taking_adds : (made : Made) (first : Item) → IsPlain (first ∷ []) → ValueAdds made (taking made first)
taking_adds made first plain = taken made first (nat_lt made.free most_slots) refl plain

pub computed_adds : (made : Made) (kind : OpKind) (span : Span) → is_super_call kind ≡ false → ValueAdds made (computed made kind span)
computed_adds made kind span e = taking_adds made (done kind span []) (plain_op (record { kind = kind; span = span; parts = [] }) e)

pub item_adds : (made : Made) (first : Item) → IsPlain (first ∷ []) → Adds made (with_item made first)
item_adds made first plain = record { items = first ∷ []; appended = refl; plain = plain; slots = rises_none made.free }

-- ---- conditions

pub block_straight : (free : ℕ) (made : Made) → Adds (empty free) made → IsPlain made.items
block_straight free made a = subst IsPlain (sym a.appended) a.plain

pub truth_asks : (free : ℕ) (v : Value) → Adds (empty free) v.made → Makes (Asks free) (truth_of v)
truth_asks free v a =
    let plain = block_straight free v.made a in
    record {
      plain = record {
        straight = ap is_straight_condition (cond_code-Truth (block v.made) v.slot) ∙ plain_block v.made.items plain;
        supers = ap super_calls_in (cond_code-Truth (block v.made) v.slot) ∙ plain_supers v.made.items plain;
      };
      slots = a.slots;
    }

-- ---- the two makers

pub computes_grows : (value : Scope → Made → Within Value) (span : Span) → ((scope : Scope) (made : Made) → ValueAdds made (value scope made)) → Grows (computes value span)
computes_grows value span adds = record {
  value = adds;
  condition = λ scope free. makes_then (λ v. Adds (empty free) v.made) (Asks free) (value scope (empty free)) truth_of (adds scope (empty free)) (λ v a. truth_asks free v a);
  target = λ scope made. adds_none made;
  unused = λ scope made. then_adds (λ v. v.made) (λ m. m) made (value scope made) without_value (adds scope made) (λ v. adds_none v.made);
}

truth_adds : (made : Made) (span : Span) (asked : Asked) → Asks made.free asked → ValueAdds made (truth_value made.items span asked)
truth_adds made span asked a =
    let start : Made = record { items = made.items; free = asked.free } in
    makes_more (λ v. Adds start v.made) (λ v. Adds made v.made)
    (λ v b. record { items = b.items; appended = b.appended; plain = b.plain; slots = rises_both made.free asked.free v.made.free a.slots b.slots })
    (truth_value made.items span asked)
    (taking_adds start (truth_item asked.cond asked.free span) (plain_truth asked.cond asked.free span a.plain))

pub asks_grows : (condition : Scope → ℕ → Within Asked) (span : Span) → ((scope : Scope) (free : ℕ) → Makes (Asks free) (condition scope free)) → Grows (asks condition span)
asks_grows condition span asked =
    let computed = computes_grows (asked_value condition span) span
    (λ scope made. makes_then (Asks made.free) (λ v. Adds made v.made) (condition scope made.free) (truth_value made.items span) (asked scope made.free) (λ a holds. truth_adds made span a holds)) in
    record { value = computed.value; condition = asked; target = computed.target; unused = computed.unused }

-- ---- spots

write_plain : (place : Spot) (slot : ℕ) (ty : Type_) (whole target from : Span) → IsPlain (write place slot ty whole target from ∷ [])
write_plain (spot.Variable variable) slot ty whole target from = plain_op (record { kind = op.Copy variable slot ty; span = whole; parts = target ∷ from ∷ [] }) refl
write_plain (spot.FieldOf object field) slot ty whole target from = plain_op (record { kind = op.WriteField object field slot; span = whole; parts = target ∷ from ∷ [] }) refl
write_plain (spot.Cell array index array_type at) slot ty whole target from = plain_op (record { kind = op.Store array index slot array_type; span = at; parts = from ∷ [] }) refl

pub write_adds : (made : Made) (place : Spot) (slot : ℕ) (ty : Type_) (whole target from : Span) → Adds made (with_item made (write place slot ty whole target from))
write_adds made place slot ty whole target from = item_adds made (write place slot ty whole target from) (write_plain place slot ty whole target from)

read_adds : (place : Spot) (target : Span) (made : Made) → ValueAdds made (read place target made)
read_adds (spot.Variable slot) target made = computed_adds made (op.Copy made.free slot int_type) target refl
read_adds (spot.FieldOf object field) target made = computed_adds made (op.ReadField made.free object field) target refl
read_adds (spot.Cell array index ty at) target made = computed_adds made (op.Load made.free array index ty) at refl

-- ---- names

int_adds : (n : ℤ) (span : Span) (made : Made) → ValueAdds made (int_value n span made)
int_adds n span made = computed_adds made (op.Const made.free (literal.Int n)) span refl

copied_or_not : (b : Bool) (scope : Scope) (span : Span) (slot : ℕ) (made : Made)
    → ValueAdds made (if b then computed made (op.Copy made.free slot (type_at scope span)) span else in_place made slot)
copied_or_not true scope span slot made = computed_adds made (op.Copy made.free slot (type_at scope span)) span refl
copied_or_not false scope span slot made = adds_none made

variable_adds : (scope : Scope) (span : Span) (slot : ℕ) (made : Made) → ValueAdds made (values.variable scope span slot made)
variable_adds scope span slot made = copied_or_not (is_among slot scope.assigned) scope span slot made

named_adds : (scope : Scope) (span : Span) (m : Option Meaning) (made : Made) → ValueAdds made (values.named scope span m made)
named_adds scope span (Some (meaning.Constant n)) made = int_adds n span made
named_adds scope span (Some (meaning.FieldNamed field)) made = computed_adds made (op.ReadField made.free 0 field) span refl
named_adds scope span other made = variable_adds scope span (slot_of scope other) made

unused_adds : (made : Made) (r : Within Value) → ValueAdds made r → Makes (Adds made) (r >>= without_value)
unused_adds made r adds = then_adds (λ v. v.made) (λ m. m) made r without_value adds (λ v. adds_none v.made)

named_unused_adds : (scope : Scope) (span : Span) (m : Option Meaning) (made : Made) → Makes (Adds made) (values.named_unused scope span m made)
named_unused_adds scope span (Some (meaning.ClassNamed class)) made = adds_none made
named_unused_adds scope span other made = unused_adds made (values.named scope span other made) (named_adds scope span other made)

pub name_grows : (ident : Ident) (span : Span) → Grows (values.name ident span)
name_grows ident span =
    let computed = computes_grows (λ scope made. values.named scope span (meaning_at scope ident.span) made) span (λ scope made. named_adds scope span (meaning_at scope ident.span) made) in
    record { value = computed.value; condition = computed.condition; target = λ scope made. adds_none made; unused = λ scope made. named_unused_adds scope span (meaning_at scope ident.span) made }

-- ---- selections and arrays

selected_adds : (object : Lowering) → Grows object → (span : Span) (scope : Scope) (m : Option Meaning) (made : Made) → ValueAdds made (values.selected object span scope m made)
selected_adds object grows span scope (Some (meaning.Constant n)) made = then_adds (λ m. m) (λ v. v.made) made (object.unused scope made) _ (grows.unused scope made) (λ before. int_adds n span before)
selected_adds object grows span scope (Some (meaning.FieldNamed field)) made =
    then_value made (object.value scope made) _ (grows.value scope made) (λ o. computed_adds o.made (op.ReadField o.made.free o.slot field) span refl)
selected_adds object grows span scope other made = then_value made (object.value scope made) _ (grows.value scope made) (λ o. computed_adds o.made (op.Length o.made.free o.slot) span refl)

pub selection_grows : (object : Lowering) (ident : Ident) (span : Span) → Grows object → Grows (values.selection object ident span)
selection_grows object ident span grows =
    let computed = computes_grows (λ scope made. values.selected object span scope (meaning_at scope ident.span) made) span (λ scope made. selected_adds object grows span scope (meaning_at scope ident.span) made) in
    record {
      value = computed.value;
      condition = computed.condition;
      unused = computed.unused;
      target = λ scope made. then_adds (λ v. v.made) (λ t. t.made) made (object.value scope made) _ (grows.value scope made) (λ o. adds_none o.made);
    }

pub element_grows : (array index : Lowering) (span : Span) → Grows array → Grows index → Grows (values.element array index span)
element_grows array index span a i =
    let computed = computes_grows _ span (λ scope made. then_value made (array.value scope made) _ (a.value scope made) (λ x. then_value x.made (index.value scope x.made) _ (i.value scope x.made)
    (λ y. computed_adds y.made (op.Load y.made.free x.slot y.slot (type_at scope array.span)) index.span refl))) in
    record {
      value = computed.value;
      condition = computed.condition;
      unused = computed.unused;
      target = λ scope made. then_adds (λ v. v.made) (λ t. t.made) made (array.value scope made) _ (a.value scope made)
          (λ x. then_adds (λ v. v.made) (λ t. t.made) x.made (index.value scope x.made) _ (i.value scope x.made) (λ y. adds_none y.made));
    }

pub new_array_grows : (size : Lowering) (span : Span) → Grows size → Grows (values.new_array size span)
new_array_grows size span s = computes_grows _ span (λ scope made. then_value made (size.value scope made) _ (s.value scope made)
    (λ n. computed_adds n.made (op.NewArray n.made.free (type_at scope span) n.slot) size.span refl))

entries_add : (slots : List ℕ) (entries : List Filling) → AllOf Fills entries → (scope : Scope) (ty : Type_) (made : Made) → Makes (λ e. Adds made e.made) (values.entries_from slots entries scope ty made)
entries_add slots [] all scope ty made = adds_none made
entries_add slots (entry ∷ entries) all scope ty made =
    then_adds (λ v. v.made) (λ e. e.made) made (entry.value scope ty made) _ (all.0 scope ty made) (λ v. entries_add (slots ++ v.slot ∷ []) entries all.1 scope ty v.made)

pub filled_adds : (entries : List Filling) (span : Span) → AllOf Fills entries → (scope : Scope) (ty : Type_) (made : Made) → ValueAdds made (values.filled entries span scope ty made)
filled_adds entries span all scope ty made =
    then_adds (λ e. e.made) (λ v. v.made) made (values.entries_from [] entries scope (cell_type ty) made) _ (entries_add [] entries all scope (cell_type ty) made)
    (λ given. taking_adds given.made (done (op.Fill given.made.free ty given.slots) span (values.spans entries))
    (plain_op (record { kind = op.Fill given.made.free ty given.slots; span = span; parts = values.spans entries }) refl))

-- ---- operators

pub with_one_grows : (operator : UnaryNum) (operand : Lowering) (span : Span) → Grows operand → Grows (values.with_one operator operand span)
with_one_grows operator operand span g = computes_grows _ span (λ scope made. then_value made (operand.value scope made) _ (g.value scope made)
    (λ y. computed_adds y.made (op.Unary y.made.free operator y.slot) span refl))

pub arithmetic_grows : (arith : Arith) (left right : Lowering) (span : Span) → Grows left → Grows right → Grows (values.arithmetic arith left right span)
arithmetic_grows arith left right span a b = computes_grows _ span (λ scope made. then_value made (left.value scope made) _ (a.value scope made) (λ y. then_value y.made (right.value scope y.made) _ (b.value scope y.made)
    (λ z. computed_adds z.made (op.Num z.made.free arith y.slot z.slot) span refl)))

compare_asks : (free : ℕ) (made : Made) (test : Test) → Adds (empty free) made → Asks free (record { cond = cond.Compare (block made) test; free = made.free })
compare_asks free made test a =
    let plain = block_straight free made a in
    record {
      plain = record {
        straight = ap is_straight_condition (cond_code-Compare (block made) test) ∙ plain_block made.items plain;
        supers = ap super_calls_in (cond_code-Compare (block made) test) ∙ plain_supers made.items plain;
      };
      slots = a.slots;
    }

compared_asks : (rel : Rel) (left right : Lowering) → Grows left → Grows right → (scope : Scope) (free : ℕ) → Makes (Asks free) (values.compared rel left right scope free)
compared_asks rel left right a b scope free =
    makes_then (λ y. Adds (empty free) y.made) (Asks free) (left.value scope (empty free)) _ (a.value scope (empty free))
    (λ y first. makes_then (λ z. Adds y.made z.made) (Asks free) (right.value scope y.made) _ (b.value scope y.made)
    (λ z second. compare_asks free z.made _ (adds_both (empty free) y.made z.made first second)))

two_asks : (free : ℕ) (first second : Asked) (both : Cond) → Asks free first → Asks first.free second
    → is_straight_condition (cond_code both) ≡ (is_straight_condition (cond_code first.cond) && is_straight_condition (cond_code second.cond))
    → super_calls_in (cond_code both) ≡ super_calls_in (cond_code first.cond) + super_calls_in (cond_code second.cond)
    → Asks free (record { cond = both; free = second.free })
two_asks free first second both a b straight supers = record {
  plain = record {
    straight = straight ∙ ap (λ s. s && is_straight_condition (cond_code second.cond)) a.plain.straight ∙ b.plain.straight;
    supers = omega (arith, supers, a.plain.supers, b.plain.supers);
  };
  slots = rises_both free first.free second.free a.slots b.slots;
}

both_asks : (left right : Lowering) → Grows left → Grows right → (scope : Scope) (free : ℕ) → Makes (Asks free) (values.both left right scope free)
both_asks left right a b scope free =
    makes_then (Asks free) (Asks free) (left.condition scope free) _ (a.condition scope free)
    (λ c first. makes_then (Asks c.free) (Asks free) (right.condition scope c.free) _ (b.condition scope c.free)
    (λ d second. two_asks free c d (cond.Both c.cond d.cond) first second (ap is_straight_condition (cond_code-Both c.cond d.cond)) (ap super_calls_in (cond_code-Both c.cond d.cond))))

either_asks : (left right : Lowering) → Grows left → Grows right → (scope : Scope) (free : ℕ) → Makes (Asks free) (values.either left right scope free)
either_asks left right a b scope free =
    makes_then (Asks free) (Asks free) (left.condition scope free) _ (a.condition scope free)
    (λ c first. makes_then (Asks c.free) (Asks free) (right.condition scope c.free) _ (b.condition scope c.free)
    (λ d second. two_asks free c d (cond.Either c.cond d.cond) first second (ap is_straight_condition (cond_code-Either c.cond d.cond)) (ap super_calls_in (cond_code-Either c.cond d.cond))))

opposite_asks : (operand : Lowering) → Grows operand → (scope : Scope) (free : ℕ) → Makes (Asks free) (values.opposite operand scope free)
opposite_asks operand g scope free =
    makes_then (Asks free) (Asks free) (operand.condition scope free) _ (g.condition scope free)
    (λ c a. record {
      plain = record {
        straight = ap is_straight_condition (cond_code-Opposite c.cond) ∙ a.plain.straight;
        supers = ap super_calls_in (cond_code-Opposite c.cond) ∙ a.plain.supers;
      };
      slots = a.slots;
    })

-- ---- assignments

pub assignment_grows : (target value : Lowering) (span : Span) → Grows target → Grows value → Grows (values.assignment target value span)
assignment_grows target value span t v = computes_grows _ span (λ scope made. then_adds (λ p. p.made) (λ v. v.made) made (target.target scope made) _ (t.target scope made)
    (λ place. then_value place.made (value.value scope place.made) _ (v.value scope place.made)
    (λ w. write_adds w.made place.spot w.slot (type_at scope value.span) span target.span value.span)))

pub compound_grows : (arith : Arith) (target value : Lowering) (span : Span) → Grows target → Grows value → Grows (values.compound arith target value span)
compound_grows arith target value span t v = computes_grows _ span (λ scope made. then_adds (λ p. p.made) (λ v. v.made) made (target.target scope made) _ (t.target scope made)
    (λ place. then_value place.made (read place.spot target.span place.made) _ (read_adds place.spot target.span place.made)
    (λ y. then_value y.made (value.value scope y.made) _ (v.value scope y.made)
    (λ z. then_value z.made (computed z.made (op.Num z.made.free arith y.slot z.slot) span) _ (computed_adds z.made (op.Num z.made.free arith y.slot z.slot) span refl)
    (λ w. write_adds w.made place.spot w.slot int_type span target.span span)))))

pub step_grows : (up after : Bool) (target : Lowering) (span : Span) → Grows target → Grows (values.step up after target span)
step_grows up after target span t = computes_grows _ span (λ scope made. then_adds (λ p. p.made) (λ v. v.made) made (target.target scope made) _ (t.target scope made)
    (λ place. then_value place.made (read place.spot target.span place.made) _ (read_adds place.spot target.span place.made)
    (λ y. then_value y.made (int_value (pos 1) span y.made) _ (int_adds (pos 1) span y.made)
    (λ one. then_value one.made (computed one.made (op.Num one.made.free (if up then Add else Sub) y.slot one.slot) span) _ (computed_adds one.made (op.Num one.made.free (if up then Add else Sub) y.slot one.slot) span refl)
    (λ w. write_adds w.made place.spot w.slot int_type span target.span span)))))

-- ---- calls

pub arguments_add : (given : List Arg) (args : List Lowering) → AllOf Grows args → (scope : Scope) (made : Made) → Makes (λ a. Adds made a.made) (values.arguments_from given args scope made)
arguments_add given [] all scope made = adds_none made
arguments_add given (first ∷ rest) all scope made =
    then_adds (λ v. v.made) (λ a. a.made) made (first.value scope made) _ (all.0.value scope made)
    (λ v. arguments_add (given ++ record { slot = v.slot; span = first.span } ∷ []) rest all.1 scope v.made)

abbrev pub OptionGrows : Option Lowering → Type 0
OptionGrows None = Unit {0}
OptionGrows (Some object) = Grows object

calling_adds : (kind : CallOp → OpKind) → ((call : CallOp) → is_super_call (kind call) ≡ false) → (method : ℕ) (receiver : Option ℕ) (class : ℕ) (span : Span) (given : Arguments)
    → ValueAdds given.made (values.calling kind method receiver class span given)
calling_adds kind not_super method receiver class span given = computed_adds given.made (kind _) span (not_super _)

unused_object_adds : (object : Option Lowering) → OptionGrows object → (scope : Scope) (made : Made) → Makes (Adds made) (values.unused_object object scope made)
unused_object_adds None grows scope made = adds_none made
unused_object_adds (Some object) grows scope made = grows.unused scope made

object_adds : (object : Option Lowering) → OptionGrows object → (scope : Scope) (made : Made) → ValueAdds made (values.object_value object scope made)
object_adds None grows scope made = adds_none made
object_adds (Some object) grows scope made = grows.value scope made

module _ (object : Option Lowering) (object_grows : OptionGrows object) (args : List Lowering) (args_grow : AllOf Grows args) where
  static_adds : (method class : ℕ) (span : Span) (scope : Scope) (made : Made) → ValueAdds made (values.static_call object method args class span scope made)
  static_adds method class span scope made = then_adds (λ m. m) (λ v. v.made) made (values.unused_object object scope made) _ (unused_object_adds object object_grows scope made)
      (λ before. then_adds (λ a. a.made) (λ v. v.made) before (values.arguments_from [] args scope before) _ (arguments_add [] args args_grow scope before)
      (λ given. calling_adds op.StaticCall (λ call. refl) method None class span given))

  instance_adds : (method : ℕ) (span : Span) (scope : Scope) (made : Made) → ValueAdds made (values.instance_call object method args span scope made)
  instance_adds method span scope made = then_adds (λ v. v.made) (λ v. v.made) made (values.object_value object scope made) _ (object_adds object object_grows scope made)
      (λ o. then_adds (λ a. a.made) (λ v. v.made) o.made (values.arguments_from [] args scope o.made) _ (arguments_add [] args args_grow scope o.made)
      (λ given. calling_adds op.InstanceCall (λ call. refl) method (Some o.slot) (values.object_class object scope) span given))

  static_or_instance : (b : Bool) (class method : ℕ) (span : Span) (scope : Scope) (made : Made)
      → ValueAdds made (if b then values.static_call object method args class span scope made else values.instance_call object method args span scope made)
  static_or_instance true class method span scope made = static_adds method class span scope made
  static_or_instance false class method span scope made = instance_adds method span scope made

  pub call_grows : (ident : Ident) (span : Span) → Grows (values.call object ident args span)
  call_grows ident span = computes_grows _ span (λ scope made.
      let method = values.method_number (meaning_at scope ident.span) in
      let head = head_at scope.site method in
      static_or_instance head.is_static head.class method ident.span scope made)

pub new_object_grows : (ident : Ident) (args : List Lowering) (span : Span) → AllOf Grows args → Grows (values.new_object ident args span)
new_object_grows ident args span grow = computes_grows _ span (λ scope made.
    then_adds (λ a. a.made) (λ v. v.made) made (values.arguments_from [] args scope made) _ (arguments_add [] args grow scope made)
    (λ given. calling_adds op.NewObject (λ call. refl) (constructor_at scope.site (values.class_number (meaning_at scope ident.span))) None (values.class_number (meaning_at scope ident.span)) span given))

-- ---- all forms

unary_grows : (operator : UnaryOp) (operand : Lowering) (span : Span) → Grows operand → Grows (values.unary_of operator operand span)
unary_grows operator.Plus operand span g = computes_grows _ span (λ scope made. g.value scope made)
unary_grows operator.Minus operand span g = with_one_grows unary.Neg operand span g
unary_grows operator.Flip operand span g = with_one_grows unary.Flip operand span g
unary_grows operator.Not operand span g = asks_grows (values.opposite operand) span (opposite_asks operand g)

binary_grows : (operator : BinaryOp) (left right : Lowering) (span : Span) → Grows left → Grows right → Grows (values.binary_of operator left right span)
binary_grows (binary.Num arith) left right span a b = arithmetic_grows arith left right span a b
binary_grows (binary.Compare rel) left right span a b = asks_grows (values.compared rel left right) span (compared_asks rel left right a b)
binary_grows binary.AndAlso left right span a b = asks_grows (values.both left right) span (both_asks left right a b)
binary_grows binary.OrElse left right span a b = asks_grows (values.either left right) span (either_asks left right a b)

assign_grows : (operator : Option Arith) (target value : Lowering) (span : Span) → Grows target → Grows value → Grows (values.assign_of operator target value span)
assign_grows None target value span t v = assignment_grows target value span t v
assign_grows (Some arith) target value span t v = compound_grows arith target value span t v

abbrev kind_lowering : ExprKind → Span → Lowering
kind_lowering = fold-ExprKind (Span → Lowering) Filling Lowering values.kind_step values.init_step values.expr_step

abbrev KindGrows : ExprKind → Type 0
KindGrows k = (span : Span) → Grows (kind_lowering k span)

abbrev InitFills : Init → Type 0
InitFills i = Fills (filling i)

abbrev ExprGrows : Expr → Type 0
ExprGrows e = Grows (lowering e)

module _ {K I E : Type 0} (kind : K → ExprKind) (init : I → Init) (expr : E → Expr) (init_fills : (i : I) → InitFills (init i)) (expr_grows : (e : E) → ExprGrows (expr e)) where
  all_grow : (es : List E) → AllOf Grows (map lowering (map expr es))
  all_grow [] = tt
  all_grow (e ∷ es) = (expr_grows e, all_grow es)

  all_fill : (is : List I) → AllOf Fills (map filling (map init is))
  all_fill [] = tt
  all_fill (i ∷ is) = (init_fills i, all_fill is)

  kind_layer : (y : ExprKind-F K I E) (span : Span)
      → Grows (values.kind_step (map-ExprKind ExprKind Init Expr (Span → Lowering) Filling Lowering kind_lowering filling lowering (map-ExprKind K I E ExprKind Init Expr kind init expr y)) span)
  kind_layer (ExprKind-F.Int n) span = computes_grows _ span (λ scope made. int_adds n span made)
  kind_layer (ExprKind-F.Bool answer) span =
      let computed = computes_grows _ span (λ scope made. computed_adds made (op.Const made.free (literal.Bool answer)) span refl) in
      record { value = computed.value; condition = λ scope free. record { plain = record { straight = refl; supers = refl }; slots = rises_none free }; target = computed.target; unused = computed.unused }
  kind_layer ExprKind-F.Null span = computes_grows _ span (λ scope made. computed_adds made (op.Const made.free (literal.NullOf (type_at scope span))) span refl)
  kind_layer ExprKind-F.This span = computes_grows _ span (λ scope made. adds_none made)
  kind_layer (ExprKind-F.Name ident) span = name_grows ident span
  kind_layer (ExprKind-F.Select object ident) span = selection_grows (lowering (expr object)) ident span (expr_grows object)
  kind_layer (ExprKind-F.Index array index) span = element_grows (lowering (expr array)) (lowering (expr index)) span (expr_grows array) (expr_grows index)
  kind_layer (ExprKind-F.Call None ident args) span = call_grows None tt (map lowering (map expr args)) (all_grow args) ident span
  kind_layer (ExprKind-F.Call (Some object) ident args) span = call_grows (Some (lowering (expr object))) (expr_grows object) (map lowering (map expr args)) (all_grow args) ident span
  kind_layer (ExprKind-F.New ident args) span = new_object_grows ident (map lowering (map expr args)) span (all_grow args)
  kind_layer (ExprKind-F.NewArray ty size) span = new_array_grows (lowering (expr size)) span (expr_grows size)
  kind_layer (ExprKind-F.NewItems ty items) span = computes_grows _ span (λ scope made. filled_adds (map filling (map init items)) span (all_fill items) scope (type_at scope span) made)
  kind_layer (ExprKind-F.Unary operator operand) span = unary_grows operator (lowering (expr operand)) span (expr_grows operand)
  kind_layer (ExprKind-F.Binary operator left right) span = binary_grows operator (lowering (expr left)) (lowering (expr right)) span (expr_grows left) (expr_grows right)
  kind_layer (ExprKind-F.Assign operator target value) span = assign_grows operator (lowering (expr target)) (lowering (expr value)) span (expr_grows target) (expr_grows value)
  kind_layer (ExprKind-F.Step up after target) span = step_grows up after (lowering (expr target)) span (expr_grows target)

  kind_rolled : (y : ExprKind-F K I E) → KindGrows (roll-ExprKind (map-ExprKind K I E ExprKind Init Expr kind init expr y))
  kind_rolled y span =
      let a = fold-roll-ExprKind (Span → Lowering) Filling Lowering values.kind_step values.init_step values.expr_step (map-ExprKind K I E ExprKind Init Expr kind init expr y) in
      subst (λ (f : Span → Lowering). Grows (f span)) (sym a) (kind_layer y span)

  init_layer : (y : Init-F K I E) → Fills (values.init_step (map-Init ExprKind Init Expr (Span → Lowering) Filling Lowering kind_lowering filling lowering (map-Init K I E ExprKind Init Expr kind init expr y)))
  init_layer (Init-F.Value e) scope ty made = (expr_grows e).value scope made
  init_layer (Init-F.Items items span) scope ty made = filled_adds (map filling (map init items)) span (all_fill items) scope ty made

  init_rolled : (y : Init-F K I E) → InitFills (roll-Init (map-Init K I E ExprKind Init Expr kind init expr y))
  init_rolled y =
      let a = fold-roll-Init (Span → Lowering) Filling Lowering values.kind_step values.init_step values.expr_step (map-Init K I E ExprKind Init Expr kind init expr y) in
      subst Fills (sym a) (init_layer y)

  expr_rolled : ((k : K) → KindGrows (kind k)) → (y : Expr-F K I E) → ExprGrows (roll-Expr (map-Expr K I E ExprKind Init Expr kind init expr y))
  expr_rolled kind_grows y =
      let a = fold-roll-Expr (Span → Lowering) Filling Lowering values.kind_step values.init_step values.expr_step (map-Expr K I E ExprKind Init Expr kind init expr y) in
      let g = kind_grows y.kind y.span in
      subst Grows (sym a) (record { value = g.value; condition = g.condition; target = g.target; unused = g.unused })

pub expression_adds : (e : Expr) → Grows (lowering e)
expression_adds = ind-Expr KindGrows InitFills ExprGrows
    (λ x y e. subst (λ layer. KindGrows (roll-ExprKind layer)) e (kind_rolled (λ k. k.0) (λ i. i.0) (λ x. x.0) (λ i. i.1) (λ x. x.1) y))
    (λ x y e. subst (λ layer. InitFills (roll-Init layer)) e (init_rolled (λ k. k.0) (λ i. i.0) (λ x. x.0) (λ i. i.1) (λ x. x.1) y))
    (λ x y e. subst (λ layer. ExprGrows (roll-Expr layer)) e (expr_rolled (λ k. k.0) (λ i. i.0) (λ x. x.0) (λ i. i.1) (λ x. x.1) (λ k. k.1) y))

pub initialiser_adds : (i : Init) → Fills (filling i)
initialiser_adds = ind-Init KindGrows InitFills ExprGrows
    (λ x y e. subst (λ layer. KindGrows (roll-ExprKind layer)) e (kind_rolled (λ k. k.0) (λ i. i.0) (λ x. x.0) (λ i. i.1) (λ x. x.1) y))
    (λ x y e. subst (λ layer. InitFills (roll-Init layer)) e (init_rolled (λ k. k.0) (λ i. i.0) (λ x. x.0) (λ i. i.1) (λ x. x.1) y))
    (λ x y e. subst (λ layer. ExprGrows (roll-Expr layer)) e (expr_rolled (λ k. k.0) (λ i. i.0) (λ x. x.0) (λ i. i.1) (λ x. x.1) (λ k. k.1) y))
