-- What holds of each node of an expression holds of each place that its operations name.
use Rattle.std.proofs.Common.{ℕ, ◌+◌, ℤ, pos, Bool, true, false, List, [], ◌∷◌, ◌++◌, map, Option, Some, None, Ok, Err, sym, subst}
use Rattle.std.specs.Prelude.{if◌then◌else◌, nat_lt}
use Rattle.std.specs.List.{AllByRecursion}
use Rattle.ix_text.specs.declared.span.Span.{Span}
use Rattle.ix_num.specs.declared.arith.Arith.{Arith}
use Rattle.ix_num.specs.declared.arith.Arith.TheVariants.{Add, Sub}
use Rattle.ix_num.specs.declared.rel.Rel.{Rel}
use Rattle.ix_core.specs.declared.claim.Type_.{Type_}
use Rattle.ix_core.specs.declared.code.Item.{Item}
use Rattle.ix_core.specs.declared.op.Arg.{Arg}
use Rattle.ix_core.specs.declared.op.CallOp.{CallOp}
use Rattle.ix_core.specs.declared.op.Literal.TheVariants as literal
use Rattle.ix_core.specs.declared.op.OpKind.{OpKind}
use Rattle.ix_core.specs.declared.op.OpKind.TheVariants as op
use Rattle.ix_core.specs.declared.op.UnaryNum.{UnaryNum}
use Rattle.ix_core.specs.declared.op.UnaryNum.TheVariants as unary
use Rattle.ix_core.specs.Types.{int_type, cell_type}
use Rattle.ix_tree.specs.declared.annot.Ident.{Ident}
use Rattle.ix_tree.specs.declared.expr.BinaryOp.{BinaryOp}
use Rattle.ix_tree.specs.declared.expr.BinaryOp.TheVariants as binary
use Rattle.ix_tree.specs.declared.expr.UnaryOp.{UnaryOp}
use Rattle.ix_tree.specs.declared.expr.UnaryOp.TheVariants as operator
use Rattle.ix_tree.specs.declared.expr.Expr.{Expr, Expr-F, ind-Expr, map-Expr, roll-Expr, fold-roll-Expr}
use Rattle.ix_tree.specs.declared.expr.ExprKind.{ExprKind, ExprKind-F, map-ExprKind, roll-ExprKind, fold-ExprKind, fold-roll-ExprKind}
use Rattle.ix_tree.specs.declared.expr.Init.{Init, Init-F, ind-Init, map-Init, roll-Init, fold-roll-Init}
use Rattle.ix_tree.specs.Placed as placed
use Rattle.ix_tree.specs.Placed.{Layout, row, piece, expr_piece, init_piece}
use Rattle.ix_meaning.specs.declared.note.Meaning.{Meaning}
use Rattle.ix_meaning.specs.declared.note.Meaning.TheVariants as meaning
use Rattle.ix_meaning.specs.declared.note.Which.TheVariants as which
use Rattle.ix_plain.specs.declared.made.Made.{Made}
use Rattle.ix_plain.specs.declared.made.Spot.{Spot}
use Rattle.ix_plain.specs.declared.made.Spot.TheVariants as spot
use Rattle.ix_plain.specs.Scope.{Scope, slot_of, meaning_at, type_at, head_at, constructor_at, is_among}
use Rattle.ix_plain.specs.Parts.{Within, ◌>>=◌, Value, Asked, Target, empty, block, with_item, in_place, done, taking, computed, truth_item, truth_value, truth_of, read, write, most_slots}
use Rattle.ix_plain.specs.Values as values
use Rattle.ix_plain.specs.Values.{Lowering, Filling, Entries, Arguments, lowering, filling, computes, asks, asked_value, without_value, int_value}
use Rattle.ix_formed.specs.Additions.{Makes}
use Rattle.ix_formed.proofs.PlainItems.{makes_then}
use Rattle.ix_formed.specs.EachNode.{EachNode, ExprNodes, InitNodes}
use Rattle.ix_formed.proofs.LaidNodes.{nodes_first, nodes_rows, nodes_piece, nodes_alone}
use Rattle.ix_core.specs.CodePlaces.{KindPlaces, ArgPlaces}
use Rattle.ix_formed.proofs.ItemPlaces.{all_both, ItemPlaces, ItemsPlaces, CondPlaces, done_places, if_places, compare_places, truth_places, both_places, either_places, opposite_places}

module _ (P : Span → Type 0) where
  abbrev pub MadePlaces : Made → Type 0
  MadePlaces made = ItemsPlaces P made.items

  abbrev pub ValuePlaces : Value → Type 0
  ValuePlaces value = MadePlaces value.made

  abbrev AskedValue : Asked → Type 0
  AskedValue asked = CondPlaces P asked.cond

  -- the place of a cell is that of its index
  abbrev SpotPlace : Spot → Type 0
  SpotPlace (spot.Cell array index ty at) = P at
  SpotPlace _ = Unit {0}

  abbrev TargetPlaces : Target → Type 0
  TargetPlaces target = MadePlaces target.made × SpotPlace target.spot

  -- What an expression makes has such places.
  pub record Places (l : Lowering) : Type 0 where
    pub own : P l.span
    pub value : (scope : Scope) (made : Made) → MadePlaces made → Makes ValuePlaces (l.value scope made)
    pub condition : (scope : Scope) (free : ℕ) → Makes AskedValue (l.condition scope free)
    pub target : (scope : Scope) (made : Made) → MadePlaces made → Makes TargetPlaces (l.target scope made)
    pub unused : (scope : Scope) (made : Made) → MadePlaces made → Makes MadePlaces (l.unused scope made)

  -- And so has what an initialiser makes.
  pub record Fills (f : Filling) : Type 0 where
    pub own : P f.span
    pub value : (scope : Scope) (ty : Type_) (made : Made) → MadePlaces made → Makes ValuePlaces (f.value scope ty made)

  -- ---- one item

  pub item_made : (made : Made) (last : Item) → MadePlaces made → ItemPlaces P last → MadePlaces (with_item made last)
  item_made made last m i = all_both (ItemPlaces P) made.items (last ∷ []) m (i, tt)

  taken : (made : Made) (last : Item) (b : Bool) → MadePlaces made → ItemPlaces P last
      → Makes ValuePlaces (if b then Ok (record { made = record { items = made.items ++ last ∷ []; free = made.free + 1 }; slot = made.free }) else Err which.Slots)
  taken made last true m i = item_made made last m i
  taken made last false m i = tt

  pub taking_made : (made : Made) (last : Item) → MadePlaces made → ItemPlaces P last → Makes ValuePlaces (taking made last)
  taking_made made last m i = taken made last (nat_lt made.free most_slots) m i

  pub computed_made : (made : Made) (kind : OpKind) (span : Span) → MadePlaces made → P span → KindPlaces P kind → Makes ValuePlaces (computed made kind span)
  computed_made made kind span m p k = taking_made made (done kind span []) m (done_places P kind span [] p tt k)

  -- ---- the two makers

  without : (r : Within Value) → Makes ValuePlaces r → Makes MadePlaces (r >>= without_value)
  without r v = makes_then ValuePlaces MadePlaces r without_value v (λ value m. m)

  computes_places : (value : Scope → Made → Within Value) (span : Span) → P span → ((scope : Scope) (made : Made) → MadePlaces made → Makes ValuePlaces (value scope made)) → Places (computes value span)
  computes_places value span p made_by = record {
    own = p;
    value = made_by;
    condition = λ scope free. makes_then ValuePlaces AskedValue (value scope (empty free)) truth_of (made_by scope (empty free) tt) (λ v m. truth_places P (block v.made) v.slot m);
    target = λ scope made m. (m, tt);
    unused = λ scope made m. without (value scope made) (made_by scope made m);
  }

  truth_made : (items : List Item) (span : Span) (asked : Asked) → ItemsPlaces P items → P span → AskedValue asked → Makes ValuePlaces (truth_value items span asked)
  truth_made items span asked m p a =
      let one = done_places P (op.Const asked.free (literal.Bool true)) span [] p tt tt in
      let two = done_places P (op.Const asked.free (literal.Bool false)) span [] p tt tt in
      taking_made (record { items = items; free = asked.free }) (truth_item asked.cond asked.free span) m (if_places P asked.cond _ _ a (one, tt) (two, tt))

  asks_places : (condition : Scope → ℕ → Within Asked) (span : Span) → P span → ((scope : Scope) (free : ℕ) → Makes AskedValue (condition scope free)) → Places (asks condition span)
  asks_places condition span p asked =
      let value = computes_places (asked_value condition span) span p
      (λ scope made m. makes_then AskedValue ValuePlaces (condition scope made.free) (truth_value made.items span) (asked scope made.free) (λ a c. truth_made made.items span a m p c)) in
      record { own = p; value = value.value; condition = asked; target = value.target; unused = value.unused }

  -- ---- spots

  pub write_place : (place : Spot) (slot : ℕ) (ty : Type_) (whole target from : Span) → SpotPlace place → P whole → P target → P from → ItemPlaces P (write place slot ty whole target from)
  write_place (spot.Variable variable) slot ty whole target from s w t f = done_places P (op.Copy variable slot ty) whole (target ∷ from ∷ []) w (t, (f, tt)) tt
  write_place (spot.FieldOf object field) slot ty whole target from s w t f = done_places P (op.WriteField object field slot) whole (target ∷ from ∷ []) w (t, (f, tt)) tt
  write_place (spot.Cell array index array_type at) slot ty whole target from s w t f = done_places P (op.Store array index slot array_type) at (from ∷ []) s (f, tt) tt

  read_made : (place : Spot) (target : Span) (made : Made) → SpotPlace place → P target → MadePlaces made → Makes ValuePlaces (read place target made)
  read_made (spot.Variable slot) target made s p m = computed_made made (op.Copy made.free slot int_type) target m p tt
  read_made (spot.FieldOf object field) target made s p m = computed_made made (op.ReadField made.free object field) target m p tt
  read_made (spot.Cell array index ty at) target made s p m = computed_made made (op.Load made.free array index ty) at m s tt

  -- ---- names

  int_made : (n : ℤ) (span : Span) (made : Made) → P span → MadePlaces made → Makes ValuePlaces (int_value n span made)
  int_made n span made p m = computed_made made (op.Const made.free (literal.Int n)) span m p tt

  copied_or_not : (b : Bool) (scope : Scope) (span : Span) (slot : ℕ) (made : Made) → P span → MadePlaces made
      → Makes ValuePlaces (if b then computed made (op.Copy made.free slot (type_at scope span)) span else in_place made slot)
  copied_or_not true scope span slot made p m = computed_made made (op.Copy made.free slot (type_at scope span)) span m p tt
  copied_or_not false scope span slot made p m = m

  named_made : (scope : Scope) (span : Span) (of : Option Meaning) (made : Made) → P span → MadePlaces made → Makes ValuePlaces (values.named scope span of made)
  named_made scope span (Some (meaning.Constant n)) made p m = int_made n span made p m
  named_made scope span (Some (meaning.FieldNamed field)) made p m = computed_made made (op.ReadField made.free 0 field) span m p tt
  named_made scope span other made p m = copied_or_not (is_among (slot_of scope other) scope.assigned) scope span (slot_of scope other) made p m

  named_unused : (scope : Scope) (span : Span) (of : Option Meaning) (made : Made) → P span → MadePlaces made → Makes MadePlaces (values.named_unused scope span of made)
  named_unused scope span (Some (meaning.ClassNamed class)) made p m = m
  named_unused scope span other made p m = without (values.named scope span other made) (named_made scope span other made p m)

  named_spot : (scope : Scope) (of : Option Meaning) → SpotPlace (values.named_spot scope of)
  named_spot scope (Some (meaning.FieldNamed field)) = tt
  named_spot scope other = tt

  name_places : (ident : Ident) (span : Span) → P span → Places (values.name ident span)
  name_places ident span p =
      let value = computes_places (λ scope made. values.named scope span (meaning_at scope ident.span) made) span p (λ scope made m. named_made scope span (meaning_at scope ident.span) made p m) in
      record {
        own = p;
        value = value.value;
        condition = value.condition;
        target = λ scope made m. (m, named_spot scope (meaning_at scope ident.span));
        unused = λ scope made m. named_unused scope span (meaning_at scope ident.span) made p m;
      }

  -- ---- selections and arrays

  selected_made : (object : Lowering) → Places object → (span : Span) (scope : Scope) (of : Option Meaning) (made : Made) → P span → MadePlaces made → Makes ValuePlaces (values.selected object span scope of made)
  selected_made object o span scope (Some (meaning.Constant n)) made p m = makes_then MadePlaces ValuePlaces (object.unused scope made) _ (o.unused scope made m) (λ before b. int_made n span before p b)
  selected_made object o span scope (Some (meaning.FieldNamed field)) made p m =
      makes_then ValuePlaces ValuePlaces (object.value scope made) _ (o.value scope made m) (λ v b. computed_made v.made (op.ReadField v.made.free v.slot field) span b p tt)
  selected_made object o span scope other made p m = makes_then ValuePlaces ValuePlaces (object.value scope made) _ (o.value scope made m) (λ v b. computed_made v.made (op.Length v.made.free v.slot) span b p tt)

  selection_places : (object : Lowering) (ident : Ident) (span : Span) → Places object → P span → Places (values.selection object ident span)
  selection_places object ident span o p =
      let value = computes_places (λ scope made. values.selected object span scope (meaning_at scope ident.span) made) span p (λ scope made m. selected_made object o span scope (meaning_at scope ident.span) made p m) in
      record {
        own = p;
        value = value.value;
        condition = value.condition;
        unused = value.unused;
        target = λ scope made m. makes_then ValuePlaces TargetPlaces (object.value scope made) _ (o.value scope made m) (λ v b. (b, tt));
      }

  element_places : (array index : Lowering) (span : Span) → Places array → Places index → P span → Places (values.element array index span)
  element_places array index span a i p =
      let value = computes_places _ span p (λ scope made m. makes_then ValuePlaces ValuePlaces (array.value scope made) _ (a.value scope made m)
      (λ x b. makes_then ValuePlaces ValuePlaces (index.value scope x.made) _ (i.value scope x.made b)
      (λ y c. computed_made y.made (op.Load y.made.free x.slot y.slot (type_at scope array.span)) index.span c i.own tt))) in
      record {
        own = p;
        value = value.value;
        condition = value.condition;
        unused = value.unused;
        target = λ scope made m. makes_then ValuePlaces TargetPlaces (array.value scope made) _ (a.value scope made m)
            (λ x b. makes_then ValuePlaces TargetPlaces (index.value scope x.made) _ (i.value scope x.made b) (λ y c. (c, i.own)));
      }

  new_array_places : (size : Lowering) (span : Span) → Places size → P span → Places (values.new_array size span)
  new_array_places size span s p = computes_places _ span p (λ scope made m. makes_then ValuePlaces ValuePlaces (size.value scope made) _ (s.value scope made m)
      (λ n b. computed_made n.made (op.NewArray n.made.free (type_at scope span) n.slot) size.span b s.own tt))

  abbrev EntriesPlaces : Entries → Type 0
  EntriesPlaces entries = MadePlaces entries.made

  entries_made : (slots : List ℕ) (entries : List Filling) → AllByRecursion Fills entries → (scope : Scope) (ty : Type_) (made : Made) → MadePlaces made → Makes EntriesPlaces (values.entries_from slots entries scope ty made)
  entries_made slots [] all scope ty made m = m
  entries_made slots (entry ∷ entries) all scope ty made m =
      makes_then ValuePlaces EntriesPlaces (entry.value scope ty made) _ (all.0.value scope ty made m) (λ v b. entries_made (slots ++ v.slot ∷ []) entries all.1 scope ty v.made b)

  entry_spans : (entries : List Filling) → AllByRecursion Fills entries → AllByRecursion P (values.spans entries)
  entry_spans [] all = tt
  entry_spans (entry ∷ entries) all = (all.0.own, entry_spans entries all.1)

  filled_made : (entries : List Filling) (span : Span) → AllByRecursion Fills entries → P span → (scope : Scope) (ty : Type_) (made : Made) → MadePlaces made → Makes ValuePlaces (values.filled entries span scope ty made)
  filled_made entries span all p scope ty made m =
      makes_then EntriesPlaces ValuePlaces (values.entries_from [] entries scope (cell_type ty) made) _ (entries_made [] entries all scope (cell_type ty) made m)
      (λ given b. taking_made given.made (done (op.Fill given.made.free ty given.slots) span (values.spans entries)) b
      (done_places P (op.Fill given.made.free ty given.slots) span (values.spans entries) p (entry_spans entries all) tt))

  -- ---- operators

  with_one_places : (operator : UnaryNum) (operand : Lowering) (span : Span) → Places operand → P span → Places (values.with_one operator operand span)
  with_one_places operator operand span o p = computes_places _ span p (λ scope made m. makes_then ValuePlaces ValuePlaces (operand.value scope made) _ (o.value scope made m)
      (λ y b. computed_made y.made (op.Unary y.made.free operator y.slot) span b p tt))

  arithmetic_places : (arith : Arith) (left right : Lowering) (span : Span) → Places left → Places right → P span → Places (values.arithmetic arith left right span)
  arithmetic_places arith left right span l r p = computes_places _ span p (λ scope made m. makes_then ValuePlaces ValuePlaces (left.value scope made) _ (l.value scope made m)
      (λ y b. makes_then ValuePlaces ValuePlaces (right.value scope y.made) _ (r.value scope y.made b)
      (λ z c. computed_made z.made (op.Num z.made.free arith y.slot z.slot) span c p tt)))

  compared_asked : (rel : Rel) (left right : Lowering) → Places left → Places right → (scope : Scope) (free : ℕ) → Makes AskedValue (values.compared rel left right scope free)
  compared_asked rel left right l r scope free =
      makes_then ValuePlaces AskedValue (left.value scope (empty free)) _ (l.value scope (empty free) tt)
      (λ y b. makes_then ValuePlaces AskedValue (right.value scope y.made) _ (r.value scope y.made b)
      (λ z c. compare_places P (block z.made) (record { rel = rel; left = y.slot; right = z.slot; ty = type_at scope left.span; left_span = left.span; right_span = right.span }) c (l.own, r.own)))

  both_asked : (left right : Lowering) → Places left → Places right → (scope : Scope) (free : ℕ) → Makes AskedValue (values.both left right scope free)
  both_asked left right l r scope free =
      makes_then AskedValue AskedValue (left.condition scope free) _ (l.condition scope free)
      (λ c a. makes_then AskedValue AskedValue (right.condition scope c.free) _ (r.condition scope c.free) (λ d b. both_places P c.cond d.cond a b))

  either_asked : (left right : Lowering) → Places left → Places right → (scope : Scope) (free : ℕ) → Makes AskedValue (values.either left right scope free)
  either_asked left right l r scope free =
      makes_then AskedValue AskedValue (left.condition scope free) _ (l.condition scope free)
      (λ c a. makes_then AskedValue AskedValue (right.condition scope c.free) _ (r.condition scope c.free) (λ d b. either_places P c.cond d.cond a b))

  opposite_asked : (operand : Lowering) → Places operand → (scope : Scope) (free : ℕ) → Makes AskedValue (values.opposite operand scope free)
  opposite_asked operand o scope free = makes_then AskedValue AskedValue (operand.condition scope free) _ (o.condition scope free) (λ c a. opposite_places P c.cond a)

  -- ---- assignments

  assignment_places : (target value : Lowering) (span : Span) → Places target → Places value → P span → Places (values.assignment target value span)
  assignment_places target value span t v p = computes_places _ span p (λ scope made m. makes_then TargetPlaces ValuePlaces (target.target scope made) _ (t.target scope made m)
      (λ place b. makes_then ValuePlaces ValuePlaces (value.value scope place.made) _ (v.value scope place.made b.0)
      (λ w c. item_made w.made (write place.spot w.slot (type_at scope value.span) span target.span value.span) c (write_place place.spot w.slot (type_at scope value.span) span target.span value.span b.1 p t.own v.own))))

  compound_places : (arith : Arith) (target value : Lowering) (span : Span) → Places target → Places value → P span → Places (values.compound arith target value span)
  compound_places arith target value span t v p = computes_places _ span p (λ scope made m. makes_then TargetPlaces ValuePlaces (target.target scope made) _ (t.target scope made m)
      (λ place b. makes_then ValuePlaces ValuePlaces (read place.spot target.span place.made) _ (read_made place.spot target.span place.made b.1 t.own b.0)
      (λ y c. makes_then ValuePlaces ValuePlaces (value.value scope y.made) _ (v.value scope y.made c)
      (λ z d. makes_then ValuePlaces ValuePlaces (computed z.made (op.Num z.made.free arith y.slot z.slot) span) _ (computed_made z.made (op.Num z.made.free arith y.slot z.slot) span d p tt)
      (λ w e. item_made w.made (write place.spot w.slot int_type span target.span span) e (write_place place.spot w.slot int_type span target.span span b.1 p t.own p))))))

  step_places : (up after : Bool) (target : Lowering) (span : Span) → Places target → P span → Places (values.step up after target span)
  step_places up after target span t p = computes_places _ span p (λ scope made m. makes_then TargetPlaces ValuePlaces (target.target scope made) _ (t.target scope made m)
      (λ place b. makes_then ValuePlaces ValuePlaces (read place.spot target.span place.made) _ (read_made place.spot target.span place.made b.1 t.own b.0)
      (λ y c. makes_then ValuePlaces ValuePlaces (int_value (pos 1) span y.made) _ (int_made (pos 1) span y.made p c)
      (λ one d. makes_then ValuePlaces ValuePlaces (computed one.made (op.Num one.made.free (if up then Add else Sub) y.slot one.slot) span) _
      (computed_made one.made (op.Num one.made.free (if up then Add else Sub) y.slot one.slot) span d p tt)
      (λ w e. item_made w.made (write place.spot w.slot int_type span target.span span) e (write_place place.spot w.slot int_type span target.span span b.1 p t.own p))))))

  -- ---- calls

  abbrev pub ArgumentsPlaces : Arguments → Type 0
  ArgumentsPlaces given = MadePlaces given.made × AllByRecursion (ArgPlaces P) given.args

  pub arguments_made : (given : List Arg) (args : List Lowering) → AllByRecursion (ArgPlaces P) given → AllByRecursion Places args → (scope : Scope) (made : Made) → MadePlaces made
      → Makes ArgumentsPlaces (values.arguments_from given args scope made)
  arguments_made given [] g all scope made m = (m, g)
  arguments_made given (first ∷ rest) g all scope made m =
      makes_then ValuePlaces ArgumentsPlaces (first.value scope made) _ (all.0.value scope made m)
      (λ v b. arguments_made (given ++ record { slot = v.slot; span = first.span } ∷ []) rest (all_both (ArgPlaces P) given (_ ∷ []) g (all.0.own, tt)) all.1 scope v.made b)

  abbrev OptionPlaces : Option Lowering → Type 0
  OptionPlaces None = Unit {0}
  OptionPlaces (Some object) = Places object

  -- a kind of call, which holds what is called
  abbrev pub IsCall : (CallOp → OpKind) → Type 0
  IsCall kind = (call : CallOp) → P call.span → AllByRecursion (ArgPlaces P) call.args → KindPlaces P (kind call)

  pub calling_made : (kind : CallOp → OpKind) → IsCall kind → (method : ℕ) (receiver : Option ℕ) (class : ℕ) (span : Span) (given : Arguments) → P span → ArgumentsPlaces given
      → Makes ValuePlaces (values.calling kind method receiver class span given)
  calling_made kind is method receiver class span given p g = computed_made given.made (kind _) span g.0 p (is _ p g.1)

  unused_object : (object : Option Lowering) → OptionPlaces object → (scope : Scope) (made : Made) → MadePlaces made → Makes MadePlaces (values.unused_object object scope made)
  unused_object None o scope made m = m
  unused_object (Some object) o scope made m = o.unused scope made m

  object_made : (object : Option Lowering) → OptionPlaces object → (scope : Scope) (made : Made) → MadePlaces made → Makes ValuePlaces (values.object_value object scope made)
  object_made None o scope made m = m
  object_made (Some object) o scope made m = o.value scope made m

  module _ (object : Option Lowering) (o : OptionPlaces object) (args : List Lowering) (all : AllByRecursion Places args) where
    static_made : (method class : ℕ) (span : Span) (scope : Scope) (made : Made) → P span → MadePlaces made → Makes ValuePlaces (values.static_call object method args class span scope made)
    static_made method class span scope made p m = makes_then MadePlaces ValuePlaces (values.unused_object object scope made) _ (unused_object object o scope made m)
        (λ before b. makes_then ArgumentsPlaces ValuePlaces (values.arguments_from [] args scope before) _ (arguments_made [] args tt all scope before b)
        (λ given g. calling_made op.StaticCall (λ call s a. (s, a)) method None class span given p g))

    instance_made : (method : ℕ) (span : Span) (scope : Scope) (made : Made) → P span → MadePlaces made → Makes ValuePlaces (values.instance_call object method args span scope made)
    instance_made method span scope made p m = makes_then ValuePlaces ValuePlaces (values.object_value object scope made) _ (object_made object o scope made m)
        (λ v b. makes_then ArgumentsPlaces ValuePlaces (values.arguments_from [] args scope v.made) _ (arguments_made [] args tt all scope v.made b)
        (λ given g. calling_made op.InstanceCall (λ call s a. (s, a)) method (Some v.slot) (values.object_class object scope) span given p g))

    static_or_instance : (b : Bool) (class method : ℕ) (span : Span) (scope : Scope) (made : Made) → P span → MadePlaces made
        → Makes ValuePlaces (if b then values.static_call object method args class span scope made else values.instance_call object method args span scope made)
    static_or_instance true class method span scope made p m = static_made method class span scope made p m
    static_or_instance false class method span scope made p m = instance_made method span scope made p m

    call_places : (ident : Ident) (span : Span) → P ident.span → P span → Places (values.call object ident args span)
    call_places ident span i p = computes_places _ span p (λ scope made m.
        let method = values.method_number (meaning_at scope ident.span) in
        let head = head_at scope.site method in
        static_or_instance head.is_static head.class method ident.span scope made i m)

  new_object_places : (ident : Ident) (args : List Lowering) (span : Span) → AllByRecursion Places args → P span → Places (values.new_object ident args span)
  new_object_places ident args span all p = computes_places _ span p (λ scope made m.
      makes_then ArgumentsPlaces ValuePlaces (values.arguments_from [] args scope made) _ (arguments_made [] args tt all scope made m)
      (λ given g. calling_made op.NewObject (λ call s a. (s, a)) (constructor_at scope.site (values.class_number (meaning_at scope ident.span))) None (values.class_number (meaning_at scope ident.span)) span given p g))

  -- ---- all forms

  unary_places : (operator : UnaryOp) (operand : Lowering) (span : Span) → Places operand → P span → Places (values.unary_of operator operand span)
  unary_places operator.Plus operand span o p = computes_places _ span p (λ scope made m. o.value scope made m)
  unary_places operator.Minus operand span o p = with_one_places unary.Neg operand span o p
  unary_places operator.Flip operand span o p = with_one_places unary.Flip operand span o p
  unary_places operator.Not operand span o p = asks_places (values.opposite operand) span p (opposite_asked operand o)

  binary_places : (operator : BinaryOp) (left right : Lowering) (span : Span) → Places left → Places right → P span → Places (values.binary_of operator left right span)
  binary_places (binary.Num arith) left right span l r p = arithmetic_places arith left right span l r p
  binary_places (binary.Compare rel) left right span l r p = asks_places (values.compared rel left right) span p (compared_asked rel left right l r)
  binary_places binary.AndAlso left right span l r p = asks_places (values.both left right) span p (both_asked left right l r)
  binary_places binary.OrElse left right span l r p = asks_places (values.either left right) span p (either_asked left right l r)

  assign_places : (operator : Option Arith) (target value : Lowering) (span : Span) → Places target → Places value → P span → Places (values.assign_of operator target value span)
  assign_places None target value span t v p = assignment_places target value span t v p
  assign_places (Some arith) target value span t v p = compound_places arith target value span t v p

  abbrev kind_lowering : ExprKind → Span → Lowering
  kind_lowering = fold-ExprKind (Span → Lowering) Filling Lowering values.kind_step values.init_step values.expr_step

  abbrev kind_pieces : ExprKind → List Layout
  kind_pieces = fold-ExprKind (List Layout) Layout Layout placed.kind_pieces placed.init_of placed.expr_of

  abbrev KindIs : ExprKind → Type 0
  KindIs k = (span : Span) → P span → EachNode P (row (kind_pieces k)) → Places (kind_lowering k span)

  abbrev InitIs : Init → Type 0
  InitIs i = EachNode P (init_piece i) → Fills (filling i)

  abbrev ExprIs : Expr → Type 0
  ExprIs e = EachNode P (expr_piece e) → Places (lowering e)

  module _ {K I E : Type 0} (kind : K → ExprKind) (init : I → Init) (expr : E → Expr) (init_is : (i : I) → InitIs (init i)) (expr_is : (e : E) → ExprIs (expr e)) where
    args_are : (es : List E) → EachNode P (row (map expr_piece (map expr es))) → AllByRecursion Places (map lowering (map expr es))
    args_are [] all = tt
    args_are (e ∷ es) all = let q = nodes_first P (expr_piece (expr e)) (map expr_piece (map expr es)) all in (expr_is e q.0, args_are es q.1)

    items_are : (is : List I) → EachNode P (row (map init_piece (map init is))) → AllByRecursion Fills (map filling (map init is))
    items_are [] all = tt
    items_are (i ∷ is) all = let q = nodes_first P (init_piece (init i)) (map init_piece (map init is)) all in (init_is i q.0, items_are is q.1)

    one : (a : E) → EachNode P (row (expr_piece (expr a) ∷ [])) → Places (lowering (expr a))
    one a all = expr_is a (nodes_alone P (expr_piece (expr a)) all)

    two : (a b : E) → EachNode P (row (expr_piece (expr a) ∷ expr_piece (expr b) ∷ [])) → Places (lowering (expr a)) × Places (lowering (expr b))
    two a b all = let q = nodes_first P (expr_piece (expr a)) (expr_piece (expr b) ∷ []) all in (expr_is a q.0, one b q.1)

    kind_layer : (y : ExprKind-F K I E) (span : Span) → P span → let layer = map-ExprKind K I E ExprKind Init Expr kind init expr y in
        EachNode P (row (placed.kind_pieces (map-ExprKind ExprKind Init Expr (List Layout) Layout Layout kind_pieces init_piece expr_piece layer)))
        → Places (values.kind_step (map-ExprKind ExprKind Init Expr (Span → Lowering) Filling Lowering kind_lowering filling lowering layer) span)
    kind_layer (ExprKind-F.Int n) span p all = computes_places _ span p (λ scope made m. int_made n span made p m)
    kind_layer (ExprKind-F.Bool answer) span p all =
        let value = computes_places _ span p (λ scope made m. computed_made made (op.Const made.free (literal.Bool answer)) span m p tt) in
        record { own = p; value = value.value; condition = λ scope free. tt; target = value.target; unused = value.unused }
    kind_layer ExprKind-F.Null span p all = computes_places _ span p (λ scope made m. computed_made made (op.Const made.free (literal.NullOf (type_at scope span))) span m p tt)
    kind_layer ExprKind-F.This span p all = computes_places _ span p (λ scope made m. m)
    kind_layer (ExprKind-F.Name ident) span p all = name_places ident span p
    kind_layer (ExprKind-F.Select object ident) span p all =
        let q = nodes_first P (expr_piece (expr object)) (placed.name_piece ident ∷ []) all in selection_places (lowering (expr object)) ident span (expr_is object q.0) p
    kind_layer (ExprKind-F.Index array index) span p all = let q = two array index all in element_places (lowering (expr array)) (lowering (expr index)) span q.0 q.1 p
    kind_layer (ExprKind-F.Call None ident args) span p all =
        let q = nodes_first P (placed.name_piece ident) (map expr_piece (map expr args)) all in call_places None tt (map lowering (map expr args)) (args_are args q.1) ident span q.0.0 p
    kind_layer (ExprKind-F.Call (Some object) ident args) span p all =
        let q = nodes_first P (expr_piece (expr object)) (placed.name_piece ident ∷ map expr_piece (map expr args)) all in
        let r = nodes_first P (placed.name_piece ident) (map expr_piece (map expr args)) q.1 in
        call_places (Some (lowering (expr object))) (expr_is object q.0) (map lowering (map expr args)) (args_are args r.1) ident span r.0.0 p
    kind_layer (ExprKind-F.New ident args) span p all =
        let q = nodes_first P (placed.name_piece ident) (map expr_piece (map expr args)) all in new_object_places ident (map lowering (map expr args)) span (args_are args q.1) p
    kind_layer (ExprKind-F.NewArray ty size) span p all =
        let parts = placed.base_pieces ty.base ++ expr_piece (expr size) ∷ [] in
        let q = nodes_piece P ty.span (map placed.annot_piece ty.annots ++ parts) (nodes_alone P (placed.new_type_piece ty (expr_piece (expr size) ∷ [])) all) in
        let r = nodes_rows P (map placed.annot_piece ty.annots) parts q.1 in
        new_array_places (lowering (expr size)) span (one size (nodes_rows P (placed.base_pieces ty.base) (expr_piece (expr size) ∷ []) r.1).1) p
    kind_layer (ExprKind-F.NewItems ty items) span p all =
        let q = nodes_first P (placed.new_type_piece ty []) (map init_piece (map init items)) all in
        computes_places _ span p (λ scope made m. filled_made (map filling (map init items)) span (items_are items q.1) p scope (type_at scope span) made m)
    kind_layer (ExprKind-F.Unary operator operand) span p all = unary_places operator (lowering (expr operand)) span (one operand all) p
    kind_layer (ExprKind-F.Binary operator left right) span p all = let q = two left right all in binary_places operator (lowering (expr left)) (lowering (expr right)) span q.0 q.1 p
    kind_layer (ExprKind-F.Assign operator target value) span p all = let q = two target value all in assign_places operator (lowering (expr target)) (lowering (expr value)) span q.0 q.1 p
    kind_layer (ExprKind-F.Step up after target) span p all = step_places up after (lowering (expr target)) span (one target all) p

    kind_rolled : (y : ExprKind-F K I E) → KindIs (roll-ExprKind (map-ExprKind K I E ExprKind Init Expr kind init expr y))
    kind_rolled y span p all =
        let layer = map-ExprKind K I E ExprKind Init Expr kind init expr y in
        let a = fold-roll-ExprKind (List Layout) Layout Layout placed.kind_pieces placed.init_of placed.expr_of layer in
        let b = fold-roll-ExprKind (Span → Lowering) Filling Lowering values.kind_step values.init_step values.expr_step layer in
        subst (λ (f : Span → Lowering). Places (f span)) (sym b) (kind_layer y span p (subst (λ (l : List Layout). EachNode P (row l)) a all))

    init_layer : (y : Init-F K I E) → let layer = map-Init K I E ExprKind Init Expr kind init expr y in
        EachNode P (placed.init_of (map-Init ExprKind Init Expr (List Layout) Layout Layout kind_pieces init_piece expr_piece layer))
        → Fills (values.init_step (map-Init ExprKind Init Expr (Span → Lowering) Filling Lowering kind_lowering filling lowering layer))
    init_layer (Init-F.Value e) all = let q = expr_is e all in record { own = q.own; value = λ scope ty made m. q.value scope made m }
    init_layer (Init-F.Items items span) all =
        let q = nodes_piece P span (map init_piece (map init items)) all in
        record { own = q.0; value = λ scope ty made m. filled_made (map filling (map init items)) span (items_are items q.1) q.0 scope ty made m }

    init_rolled : (y : Init-F K I E) → InitIs (roll-Init (map-Init K I E ExprKind Init Expr kind init expr y))
    init_rolled y all =
        let layer = map-Init K I E ExprKind Init Expr kind init expr y in
        let a = fold-roll-Init (List Layout) Layout Layout placed.kind_pieces placed.init_of placed.expr_of layer in
        let b = fold-roll-Init (Span → Lowering) Filling Lowering values.kind_step values.init_step values.expr_step layer in
        subst Fills (sym b) (init_layer y (subst (EachNode P) a all))

    expr_rolled : ((k : K) → KindIs (kind k)) → (y : Expr-F K I E) → ExprIs (roll-Expr (map-Expr K I E ExprKind Init Expr kind init expr y))
    expr_rolled kind_is y all =
        let layer = map-Expr K I E ExprKind Init Expr kind init expr y in
        let a = fold-roll-Expr (List Layout) Layout Layout placed.kind_pieces placed.init_of placed.expr_of layer in
        let b = fold-roll-Expr (Span → Lowering) Filling Lowering values.kind_step values.init_step values.expr_step layer in
        let q = nodes_piece P y.span (kind_pieces (kind y.kind)) (subst (EachNode P) a all) in
        let g = kind_is y.kind y.span q.0 q.1 in
        subst Places (sym b) (record { own = q.0; value = g.value; condition = g.condition; target = g.target; unused = g.unused })

  pub expression_places : (e : Expr) → ExprNodes P e → Places (lowering e)
  expression_places = ind-Expr KindIs InitIs ExprIs
      (λ x y e. subst (λ layer. KindIs (roll-ExprKind layer)) e (kind_rolled (λ k. k.0) (λ i. i.0) (λ x. x.0) (λ i. i.1) (λ x. x.1) y))
      (λ x y e. subst (λ layer. InitIs (roll-Init layer)) e (init_rolled (λ k. k.0) (λ i. i.0) (λ x. x.0) (λ i. i.1) (λ x. x.1) y))
      (λ x y e. subst (λ layer. ExprIs (roll-Expr layer)) e (expr_rolled (λ k. k.0) (λ i. i.0) (λ x. x.0) (λ i. i.1) (λ x. x.1) (λ k. k.1) y))

  pub initialiser_places : (i : Init) → InitNodes P i → Fills (filling i)
  initialiser_places = ind-Init KindIs InitIs ExprIs
      (λ x y e. subst (λ layer. KindIs (roll-ExprKind layer)) e (kind_rolled (λ k. k.0) (λ i. i.0) (λ x. x.0) (λ i. i.1) (λ x. x.1) y))
      (λ x y e. subst (λ layer. InitIs (roll-Init layer)) e (init_rolled (λ k. k.0) (λ i. i.0) (λ x. x.0) (λ i. i.1) (λ x. x.1) y))
      (λ x y e. subst (λ layer. ExprIs (roll-Expr layer)) e (expr_rolled (λ k. k.0) (λ i. i.0) (λ x. x.0) (λ i. i.1) (λ x. x.1) (λ k. k.1) y))
