-- Items whose operations have a property, one behind the other.
use Rattle.std.proofs.Common.{◌≡◌, ◌≤◌, ℕ, ◌+◌, true, false, Bool, List, [], ◌∷◌, ◌++◌, None, Ok, Err, refl, sym, ap, subst, ◌∙◌, arith, append_assoc}
use Rattle.std.specs.Prelude.{if◌then◌else◌, nat_lt, ◌==◌}
use Rattle.std.proofs.lemmas.List.{append-nil}
use Rattle.ix_text.specs.declared.span.Span.{Span}
use Rattle.ix_core.specs.declared.claim.Type_.{Type_}
use Rattle.ix_core.specs.declared.code.Block.{Block}
use Rattle.ix_core.specs.declared.code.Cond.{Cond}
use Rattle.ix_core.specs.declared.code.Item.{Item}
use Rattle.ix_core.specs.declared.op.Literal.TheVariants as literal
use Rattle.ix_core.specs.declared.op.Op.{Op}
use Rattle.ix_core.specs.declared.op.OpKind.{OpKind}
use Rattle.ix_core.specs.declared.op.OpKind.TheVariants as op
use Rattle.ix_core.specs.Code.{Code, End, Do, If, Break, Continue, Return, Throw, Loop, item_code, items_code, cond_code}
use Rattle.ix_core.proofs.Translated.{item_code-If, cond_code-Truth}
use Rattle.ix_meaning.specs.declared.note.Which.TheVariants as which
use Rattle.ix_plain.specs.declared.made.Made.{Made}
use Rattle.ix_plain.specs.declared.made.Spot.{Spot}
use Rattle.ix_plain.specs.declared.made.Spot.TheVariants as spot
use Rattle.ix_plain.specs.Scope.{Scope}
use Rattle.ix_plain.specs.Parts.{Within, ◌>>=◌, Value, Asked, empty, block, with_item, done, taking, computed, truth_item, truth_value, truth_of, read, write, most_slots}
use Rattle.ix_plain.specs.Values.{computes, asks, asked_value, without_value}
use Rattle.ix_formed.specs.Additions.{Makes}
use Rattle.ix_formed.proofs.PlainItems.{makes_more, makes_then}
use Rattle.ix_core.specs.Types.{int_type}
use Rattle.ix_guard_promise.specs.Known.{writes, accessed}
use Rattle.ix_guard_promise.specs.Pieces.{EachOp, EachAsked, HasNoLoop, AsksNoLoop, followed}
use Rattle.ix_guard_promise.proofs.GuardedItems.{items_followed}
use Rattle.ix_guard_promise.specs.KeptSlots.{Leaves, LeavesAsked, Leaving}

-- ---- code behind code

pub each_followed : (P : Op → Type 0) (code rest : Code) → EachOp P code → EachOp P rest → EachOp P (followed code rest)
each_followed P End rest first second = second
each_followed P (Do one code) rest first second = (first.0, each_followed P code rest first.1 second)
each_followed P (If asked one two code) rest first second = (first.0, (first.1.0, (first.1.1.0, each_followed P code rest first.1.1.1 second)))
each_followed P (Break code) rest first second = each_followed P code rest first second
each_followed P (Continue code) rest first second = each_followed P code rest first second
each_followed P (Return value span code) rest first second = each_followed P code rest first second
each_followed P (Throw name span code) rest first second = each_followed P code rest first second
each_followed P (Loop test_first asked body next number scope code) rest first second = (first.0, (first.1.0, (first.1.1.0, each_followed P code rest first.1.1.1 second)))

pub no_loop_followed : (code rest : Code) → HasNoLoop code → HasNoLoop rest → HasNoLoop (followed code rest)
no_loop_followed End rest first second = second
no_loop_followed (Do one code) rest first second = no_loop_followed code rest first second
no_loop_followed (If asked one two code) rest first second = (first.0, (first.1.0, (first.1.1.0, no_loop_followed code rest first.1.1.1 second)))
no_loop_followed (Break code) rest first second = no_loop_followed code rest first second
no_loop_followed (Continue code) rest first second = no_loop_followed code rest first second
no_loop_followed (Return value span code) rest first second = no_loop_followed code rest first second
no_loop_followed (Throw name span code) rest first second = no_loop_followed code rest first second
no_loop_followed (Loop test_first asked body next number scope code) rest first second = absurd first

pub each_items : (P : Op → Type 0) (items more : List Item) → EachOp P (items_code items) → EachOp P (items_code more) → EachOp P (items_code (items ++ more))
each_items P items more first second = subst (EachOp P) (sym (items_followed items more)) (each_followed P (items_code items) (items_code more) first second)

pub no_loop_items : (items more : List Item) → HasNoLoop (items_code items) → HasNoLoop (items_code more) → HasNoLoop (items_code (items ++ more))
no_loop_items items more first second = subst HasNoLoop (sym (items_followed items more)) (no_loop_followed (items_code items) (items_code more) first second)

-- What is asked of a property of operations, of what is known of the first slot that is free, and of the spots that are read and written, so that all that an expression
-- becomes has the property.
pub record Allows (P : Op → Type 0) (Low : ℕ → Type 0) (Aims : Spot → Type 0) : Type 0 where
  -- where more is taken
  pub on : (free more : ℕ) → Low free → free ≤ more → Low more
  -- an operation that is no access, and whose target is the first free slot
  pub fresh : (done : Op) (free : ℕ) → Low free → accessed done.kind ≡ None → ((slot : ℕ) → writes done.kind slot ≡ (slot == free)) → P done
  -- what reads and writes a cell
  pub loads : (free array index : ℕ) (ty : Type_) (span : Span) (parts : List Span) → Low free → Aims (spot.Cell array index ty span)
      → P (record { kind = op.Load free array index ty; span = span; parts = parts })
  pub stores : (array index value : ℕ) (ty : Type_) (span : Span) (parts : List Span) → Aims (spot.Cell array index ty span)
      → P (record { kind = op.Store array index value ty; span = span; parts = parts })
  -- what writes a variable and a field
  pub copies : (slot value : ℕ) (ty : Type_) (span : Span) (parts : List Span) → Aims (spot.Variable slot) → P (record { kind = op.Copy slot value ty; span = span; parts = parts })
  pub fields : (object field value : ℕ) (span : Span) (parts : List Span) → P (record { kind = op.WriteField object field value; span = span; parts = parts })
  pub of_fields : (object field : ℕ) → Aims (spot.FieldOf object field)
  -- what prints
  pub prints : (value : ℕ) (span : Span) (parts : List Span) → P (record { kind = op.Print value; span = span; parts = parts })
  -- a variable that takes a slot of its own
  pub own : (slot : ℕ) → Low slot → Aims (spot.Variable slot)

abbrev pub ValueLeaves : (P : Op → Type 0) → Made → Within Value → Type 0
ValueLeaves P made r = Makes (λ v. Leaves P made v.made) r

taken : (P : Op → Type 0) (made : Made) (first : Item) (b : Bool) → EachOp P (item_code first End) → HasNoLoop (item_code first End)
    → ValueLeaves P made (if b then Ok (record { made = record { items = made.items ++ first ∷ []; free = made.free + 1 }; slot = made.free }) else Err which.Slots)
taken P made first true each no_loop = record { items = first ∷ []; appended = refl; each = each; no_loop = no_loop; up = omega arith }
taken P made first false each no_loop = tt

pub taking_leaves : (P : Op → Type 0) (made : Made) (first : Item) → EachOp P (item_code first End) → HasNoLoop (item_code first End) → ValueLeaves P made (taking made first)
taking_leaves P made first each no_loop = taken P made first (nat_lt made.free most_slots) each no_loop

module _ {P : Op → Type 0} where
  -- ---- what is added, one behind the other

  pub leaves_none : (made : Made) → Leaves P made made
  leaves_none made = record { items = []; appended = sym (append-nil made.items); each = tt; no_loop = tt; up = omega arith }

  pub leaves_both : (first second third : Made) → Leaves P first second → Leaves P second third → Leaves P first third
  leaves_both first second third a b = record {
    items = a.items ++ b.items;
    appended = b.appended ∙ ap (λ items. items ++ b.items) a.appended ∙ append_assoc first.items a.items b.items;
    each = each_items P a.items b.items a.each b.each;
    no_loop = no_loop_items a.items b.items a.no_loop b.no_loop;
    up = let one = a.up in let two = b.up in omega (arith, one, two);
  }

  pub item_leaves : (made : Made) (first : Item) → EachOp P (item_code first End) → HasNoLoop (item_code first End) → Leaves P made (with_item made first)
  item_leaves made first each no_loop = record { items = first ∷ []; appended = refl; each = each; no_loop = no_loop; up = omega arith }

  -- ---- conditions

  -- all of a block that was made from nothing
  pub block_each : (free : ℕ) (made : Made) → Leaves P (empty free) made → EachOp P (items_code made.items)
  block_each free made a = subst (λ items. EachOp P (items_code items)) (sym a.appended) a.each

  pub block_no_loop : (free : ℕ) (made : Made) → Leaves P (empty free) made → HasNoLoop (items_code made.items)
  block_no_loop free made a = subst (λ items. HasNoLoop (items_code items)) (sym a.appended) a.no_loop

  pub truth_leaves : (free : ℕ) (v : Value) → Leaves P (empty free) v.made → Makes (LeavesAsked P free) (truth_of v)
  truth_leaves free v a = record {
    each = subst (EachAsked P) (sym (cond_code-Truth (block v.made) v.slot)) (block_each free v.made a);
    no_loop = subst AsksNoLoop (sym (cond_code-Truth (block v.made) v.slot)) (block_no_loop free v.made a);
    up = a.up;
  }

module _ {P : Op → Type 0} {Low : ℕ → Type 0} {Aims : Spot → Type 0} (allows : Allows P Low Aims) where
  -- A step, and behind it what adds to what the step made. The step may be known to be more.
  pub then_known : {A B : Type 0} (of : A → Made) (to : B → Made) (Q : A → Type 0) (made : Made) (r : Within A) (next : A → Within B) → Low made.free
      → Makes (λ a. Leaves P made (of a) × Q a) r → ((a : A) → Low (of a).free → Q a → Makes (λ b. Leaves P (of a) (to b)) (next a))
      → Makes (λ b. Leaves P made (to b)) (r >>= next)
  then_known of to Q made r next below first second =
      makes_then (λ a. Leaves P made (of a) × Q a) (λ b. Leaves P made (to b)) r next first
      (λ a leaves. makes_more (λ b. Leaves P (of a) (to b)) (λ b. Leaves P made (to b)) (λ b more. leaves_both made (of a) (to b) leaves.0 more) (next a)
      (second a (allows.on made.free (of a).free below leaves.0.up) leaves.1))

  pub then_leaves : {A B : Type 0} (of : A → Made) (to : B → Made) (made : Made) (r : Within A) (next : A → Within B) → Low made.free
      → Makes (λ a. Leaves P made (of a)) r → ((a : A) → Low (of a).free → Makes (λ b. Leaves P (of a) (to b)) (next a))
      → Makes (λ b. Leaves P made (to b)) (r >>= next)
  then_leaves of to made r next below first second =
      makes_then (λ a. Leaves P made (of a)) (λ b. Leaves P made (to b)) r next first
      (λ a leaves. makes_more (λ b. Leaves P (of a) (to b)) (λ b. Leaves P made (to b)) (λ b more. leaves_both made (of a) (to b) leaves more) (next a)
      (second a (allows.on made.free (of a).free below leaves.up)))

  pub then_value : (made : Made) (r : Within Value) (next : Value → Within Value) → Low made.free → ValueLeaves P made r
      → ((v : Value) → Low v.made.free → ValueLeaves P v.made (next v)) → ValueLeaves P made (r >>= next)
  then_value made r next below first second = then_leaves (λ v. v.made) (λ v. v.made) made r next below first second

  -- ---- one item

  -- an operation that takes the first free slot
  pub done_leaves : (made : Made) (kind : OpKind) (span : Span) (parts : List Span) → Low made.free → accessed kind ≡ None → ((slot : ℕ) → writes kind slot ≡ (slot == made.free))
      → ValueLeaves P made (taking made (done kind span parts))
  done_leaves made kind span parts below none target =
      taking_leaves P made (done kind span parts) (allows.fresh (record { kind = kind; span = span; parts = parts }) made.free below none target, tt) tt

  pub computed_leaves : (made : Made) (kind : OpKind) (span : Span) → Low made.free → accessed kind ≡ None → ((slot : ℕ) → writes kind slot ≡ (slot == made.free))
      → ValueLeaves P made (computed made kind span)
  computed_leaves made kind span below none target = done_leaves made kind span [] below none target

  -- a read of a cell
  pub loaded_leaves : (made : Made) (array index : ℕ) (ty : Type_) (span : Span) → Low made.free → Aims (spot.Cell array index ty span)
      → ValueLeaves P made (computed made (op.Load made.free array index ty) span)
  loaded_leaves made array index ty span below aims =
      taking_leaves P made (done (op.Load made.free array index ty) span []) (allows.loads made.free array index ty span [] below aims, tt) tt

  -- ---- conditions

  -- a choice between two answers, each written to that slot
  truth_item_each : (asked : Cond) (slot : ℕ) (span : Span) → Low slot → EachAsked P (cond_code asked) → EachOp P (item_code (truth_item asked slot span) End)
  truth_item_each asked slot span low each =
      let one = done (op.Const slot (literal.Bool true)) span [] in
      let two = done (op.Const slot (literal.Bool false)) span [] in
      let first : Block = record { items = one ∷ [] } in
      let second : Block = record { items = two ∷ [] } in
      let op_one : Op = record { kind = op.Const slot (literal.Bool true); span = span; parts = [] } in
      let op_two : Op = record { kind = op.Const slot (literal.Bool false); span = span; parts = [] } in
      let each_one : P op_one = allows.fresh op_one slot low refl (λ s. refl) in
      let each_two : P op_two = allows.fresh op_two slot low refl (λ s. refl) in
      subst (EachOp P) (sym (item_code-If asked first second End)) (each, ((each_one, tt), ((each_two, tt), tt)))

  truth_item_plain : (asked : Cond) (slot : ℕ) (span : Span) → AsksNoLoop (cond_code asked) → HasNoLoop (item_code (truth_item asked slot span) End)
  truth_item_plain asked slot span plain =
      let first : Block = record { items = done (op.Const slot (literal.Bool true)) span [] ∷ [] } in
      let second : Block = record { items = done (op.Const slot (literal.Bool false)) span [] ∷ [] } in
      subst HasNoLoop (sym (item_code-If asked first second End)) (plain, (tt, (tt, tt)))

  truth_value_leaves : (made : Made) (span : Span) (asked : Asked) → Low made.free → LeavesAsked P made.free asked → ValueLeaves P made (truth_value made.items span asked)
  truth_value_leaves made span asked below a =
      let start : Made = record { items = made.items; free = asked.free } in
      makes_more (λ v. Leaves P start v.made) (λ v. Leaves P made v.made)
      (λ v b. record { items = b.items; appended = b.appended; each = b.each; no_loop = b.no_loop; up = let x = a.up in let y = b.up in omega (arith, x, y) })
      (truth_value made.items span asked)
      (taking_leaves P start (truth_item asked.cond asked.free span) (truth_item_each asked.cond asked.free span (allows.on made.free asked.free below a.up) a.each)
      (truth_item_plain asked.cond asked.free span a.no_loop))

  -- ---- the two makers

  pub computes_leaves : (scope : Scope) (value : Scope → Made → Within Value) (span : Span) → ((made : Made) → Low made.free → ValueLeaves P made (value scope made))
      → Leaving P Low scope (computes value span)
  computes_leaves scope value span leaves = record {
    value = leaves;
    condition = λ free below. makes_then (λ v. Leaves P (empty free) v.made) (LeavesAsked P free) (value scope (empty free)) truth_of (leaves (empty free) below) (λ v a. truth_leaves free v a);
    target = λ made below. leaves_none made;
    unused = λ made below. then_leaves (λ v. v.made) (λ m. m) made (value scope made) without_value below (leaves made below) (λ v on. leaves_none v.made);
  }

  pub asks_leaves : (scope : Scope) (condition : Scope → ℕ → Within Asked) (span : Span) → ((free : ℕ) → Low free → Makes (LeavesAsked P free) (condition scope free))
      → Leaving P Low scope (asks condition span)
  asks_leaves scope condition span asked =
      let computed = computes_leaves scope (asked_value condition span) span
      (λ made below. makes_then (LeavesAsked P made.free) (λ v. Leaves P made v.made) (condition scope made.free) (truth_value made.items span) (asked made.free below)
      (λ a holds. truth_value_leaves made span a below holds)) in
      record { value = computed.value; condition = asked; target = computed.target; unused = computed.unused }

  -- ---- spots

  pub write_each : (place : Spot) (slot : ℕ) (ty : Type_) (whole target from : Span) → Aims place → EachOp P (item_code (write place slot ty whole target from) End)
  write_each (spot.Variable variable) slot ty whole target from aims = (allows.copies variable slot ty whole (target ∷ from ∷ []) aims, tt)
  write_each (spot.FieldOf object field) slot ty whole target from aims = (allows.fields object field slot whole (target ∷ from ∷ []), tt)
  write_each (spot.Cell of at array_type span) slot ty whole target from aims = (allows.stores of at slot array_type span (from ∷ []) aims, tt)

  write_plain : (place : Spot) (slot : ℕ) (ty : Type_) (whole target from : Span) → HasNoLoop (item_code (write place slot ty whole target from) End)
  write_plain (spot.Variable variable) slot ty whole target from = tt
  write_plain (spot.FieldOf object field) slot ty whole target from = tt
  write_plain (spot.Cell of at array_type span) slot ty whole target from = tt

  pub write_leaves : (made : Made) (place : Spot) (slot : ℕ) (ty : Type_) (whole target from : Span) → Aims place → Leaves P made (with_item made (write place slot ty whole target from))
  write_leaves made place slot ty whole target from aims =
      item_leaves made (write place slot ty whole target from) (write_each place slot ty whole target from aims) (write_plain place slot ty whole target from)

  pub read_leaves : (place : Spot) (target : Span) (made : Made) → Low made.free → Aims place → ValueLeaves P made (read place target made)
  read_leaves (spot.Variable slot) target made below aims = computed_leaves made (op.Copy made.free slot int_type) target below refl (λ slot. refl)
  read_leaves (spot.FieldOf object field) target made below aims = computed_leaves made (op.ReadField made.free object field) target below refl (λ slot. refl)
  read_leaves (spot.Cell of at ty span) target made below aims = loaded_leaves made of at ty span below aims
