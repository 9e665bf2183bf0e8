-- Typed steps, one behind the other, and the operations that they are made of.
use Rattle.std.proofs.Common.{◌≡◌, ◌≤◌, ◌<◌, ℕ, ◌+◌, Bool, true, false, List, [], ◌∷◌, ◌++◌, Some, Ok, Err, refl, sym, ap, subst, ◌∙◌, arith, append_assoc}
use Rattle.std.specs.Prelude.{if◌then◌else◌, nat_lt, ◌==◌, not}
use Rattle.std.proofs.lemmas.Bool.Decides.{nat_tests}
use Rattle.std.proofs.lemmas.List.{append-nil}
use Rattle.ix_core.specs.declared.claim.Type_.{Type_}
use Rattle.ix_core.specs.declared.code.Item.TheVariants as item
use Rattle.ix_core.specs.declared.op.Op.{Op}
use Rattle.ix_core.specs.declared.program.Method.{Method}
use Rattle.ix_core.specs.declared.program.Program.{Program}
use Rattle.ix_core.specs.Formed.{at_most, assigned, op_fits, op_types, is_super_call, is_slot, is_target, reads}
use Rattle.ix_core.specs.Tables.{param_slot, param_slots}
use Rattle.ix_core.specs.Types.{Point, is_type, is_of, class_type}
use Rattle.ix_meaning.specs.declared.note.Which.TheVariants as which
use Rattle.ix_meaning.specs.Scope.{Known as Variable}
use Rattle.ix_plain.specs.declared.made.Made.{Made}
use Rattle.ix_plain.specs.Scope.{slot_of, is_among}
use Rattle.ix_plain.specs.Parts.{Within, ◌>>=◌, Value, with_item, taking, most_slots}
use Rattle.ix_formed.specs.Additions.{Makes, AllOf}
use Rattle.ix_formed.specs.Points.{Known, Keeps, Leads}
use Rattle.ix_formed.specs.Typed.{Steps, Gives, Holds, Setting, IsSet, IsVariable, Stands, Ready}
use Rattle.ix_formed.proofs.NumberLists.{both_true, all_so}
use Rattle.ix_formed.proofs.PlainItems.{makes_more, makes_then, plain_none, plain_both, plain_op}
use Rattle.ix_formed.proofs.TypedPoints.{keeps_none, keeps_both, assigned_known, new_keeps, leads_none, leads_both, op_leads, reads_known}

-- ---- slots

module _ (p : Program) (method : Method) where
  pub target_is : (free : ℕ) → param_slots method ≤ free → free < method.slots → is_target p method free ≡ true
  target_is free le lt = both_true (is_slot p method free) (at_most (param_slots method) free) (slot_is free lt) (most_is (param_slots method) free le)
    where
      slot_is : (slot : ℕ) → slot < method.slots → nat_lt slot method.slots ≡ true
      slot_is slot lt = grind (arith, nat_tests)

      most_is : (count most : ℕ) → count ≤ most → nat_lt count (most + 1) ≡ true
      most_is count most le = grind (arith, nat_tests)

pub differs : (free slot : ℕ) → slot < free → (not (free == slot)) ≡ true
differs free slot lt = ap not (is_other free slot lt)
  where
    is_other : (free slot : ℕ) → slot < free → (free == slot) ≡ false
    is_other free slot lt = grind (arith, nat_tests)

module _ (p : Program) (method : Method) (locals : List Type_) (fixed : Type 0) where
  -- ---- steps

  pub steps_none : (made : Made) (point : Point) → Steps p method locals fixed made point made point
  steps_none made point = record {
    items = [];
    appended = sym (append-nil made.items);
    plain = plain_none;
    up = omega arith;
    leads = λ now le. leads_none p method locals point;
    keeps = keeps_none made.free point;
  }

  pub steps_both : (first : Made) (one : Point) (second : Made) (two : Point) (third : Made) (three : Point)
      → Steps p method locals fixed first one second two → Steps p method locals fixed second two third three → Steps p method locals fixed first one third three
  steps_both first one second two third three a b = record {
    items = a.items ++ b.items;
    appended = b.appended ∙ ap (λ items. items ++ b.items) a.appended ∙ append_assoc first.items a.items b.items;
    plain = plain_both a.items b.items a.plain b.plain;
    up = omega (arith, a.up, b.up);
    leads = λ now le. leads_both p method locals a.items b.items one two three (a.leads now (let u = b.up in omega (arith, u, le))) (b.leads now le);
    keeps = keeps_both first.free second.free one two three a.up a.keeps b.keeps;
  }

  -- an operation without a target of its own
  pub op_steps : (made : Made) (point behind : Point) (o : Op) → is_super_call o.kind ≡ false → (fixed → op_types p method locals point o o.kind ≡ behind) → Keeps made.free point behind
      → (fixed → made.free ≤ method.slots → op_fits p method locals point o o.kind ≡ true) → Steps p method locals fixed made point (with_item made (item.Do o)) behind
  op_steps made point behind o not_super types keeps fits = record {
    items = item.Do o ∷ [];
    appended = refl;
    plain = plain_op o not_super;
    up = omega arith;
    leads = λ now le. subst (λ q. Leads p method locals (item.Do o ∷ []) point q) (types now) (op_leads p method locals o point (fits now le));
    keeps = keeps;
  }

  -- a slot below the target
  pub reads_held : (point : Point) (slot free : ℕ) (ty : Type_) → slot < free → free ≤ method.slots → Holds p point slot ty → reads p method point slot ty ≡ true
  reads_held point slot free ty lt le h = reads_known p method locals point slot h.held ty (omega (arith, lt, le)) h.known h.fits

module _ (p : Program) (method : Method) (locals : List Type_) (fixed : Type 0) (avoided : List ℕ) where
  pub gives_after : (first : Made) (one : Point) (second : Made) (two : Point) (ty : Type_) (v : Value) → Steps p method locals fixed first one second two → Gives p method locals fixed avoided second two ty v → Gives p method locals fixed avoided first one ty v
  gives_after first one second two ty v a g = record { behind = g.behind; steps = steps_both p method locals fixed first one second two v.made g.behind a g.steps; low = g.low; apart = g.apart; holds = g.holds }

  pub value_after : (first : Made) (one : Point) (second : Made) (two : Point) (ty : Type_) (r : Within Value) → Steps p method locals fixed first one second two → Makes (Gives p method locals fixed avoided second two ty) r
      → Makes (Gives p method locals fixed avoided first one ty) r
  value_after first one second two ty r a gives =
      makes_more (Gives p method locals fixed avoided second two ty) (Gives p method locals fixed avoided first one ty) (λ v g. gives_after first one second two ty v a g) r gives

  -- a value, and behind it what goes on from there
  pub then_value : (made : Made) (point : Point) (ty result : Type_) (r : Within Value) (next : Value → Within Value) → Makes (Gives p method locals fixed avoided made point ty) r
      → ((v : Value) (g : Gives p method locals fixed avoided made point ty v) → Makes (Gives p method locals fixed avoided v.made g.behind result) (next v)) → Makes (Gives p method locals fixed avoided made point result) (r >>= next)
  then_value made point ty result r next first second =
      makes_then (Gives p method locals fixed avoided made point ty) (Gives p method locals fixed avoided made point result) r next first (λ v g. value_after made point v.made g.behind result (next v) g.steps (second v g))

  -- a value that is of another type as well
  pub value_in_place : (made : Made) (point : Point) (slot : ℕ) (ty : Type_) → slot < made.free → is_among slot avoided ≡ false → (is_type p ty ≡ true → Holds p point slot ty) → Gives p method locals fixed avoided made point ty (record { made = made; slot = slot })
  value_in_place made point slot ty lt apart known = record { behind = point; steps = steps_none p method locals fixed made point; low = lt; apart = apart; holds = known }

  -- ---- one operation

  -- an operation whose target is the next free slot
  pub op_leads_to : (made : Made) (point behind : Point) (o : Op) (ty : Type_) → is_among made.free avoided ≡ false → is_super_call o.kind ≡ false → (fixed → op_types p method locals point o o.kind ≡ behind) → Keeps made.free point behind
      → (is_type p ty ≡ true → Holds p behind made.free ty) → (fixed → made.free < method.slots → op_fits p method locals point o o.kind ≡ true) → Makes (Gives p method locals fixed avoided made point ty) (taking made (item.Do o))
  op_leads_to made point behind o ty apart not_super types keeps holds fits = taken (nat_lt made.free most_slots)
    where
      taken : (b : Bool) → Makes (Gives p method locals fixed avoided made point ty) (if b then Ok (record { made = record { items = made.items ++ item.Do o ∷ []; free = made.free + 1 }; slot = made.free }) else Err which.Slots)
      taken true = record {
        behind = behind;
        steps = record {
          items = item.Do o ∷ [];
          appended = refl;
          plain = plain_op o not_super;
          up = omega arith;
          leads = λ now le. subst (λ q. Leads p method locals (item.Do o ∷ []) point q) (types now) (op_leads p method locals o point (fits now (omega (arith, le))));
          keeps = keeps;
        };
        low = omega arith;
        apart = apart;
        holds = holds;
      }
      taken false = tt

  pub op_gives : (made : Made) (point : Point) (o : Op) (ty : Type_) → is_among made.free avoided ≡ false → (is_type p ty ≡ true → is_of p ty ty ≡ true) → is_super_call o.kind ≡ false → (fixed → op_types p method locals point o o.kind ≡ assigned made.free ty point)
      → (fixed → made.free < method.slots → op_fits p method locals point o o.kind ≡ true) → Makes (Gives p method locals fixed avoided made point ty) (taking made (item.Do o))
  op_gives made point o ty apart same not_super types fits =
      op_leads_to made point (assigned made.free ty point) o ty apart not_super types (new_keeps made.free ty point)
      (λ real. record { held = ty; real = real; known = assigned_known made.free ty point; fits = same real }) fits

-- what stays so where slots keep their types
pub holds_on : (p : Program) (count : ℕ) (before after : Point) (slot : ℕ) (ty : Type_) → slot < count → Keeps count before after → Holds p before slot ty → Holds p after slot ty
holds_on p count before after slot ty lt keeps h = record { held = h.held; real = h.real; known = keeps slot lt h.held h.known; fits = h.fits }

-- ---- in a scope

module _ (z : Setting) (set : IsSet z) where
  pub holds_up : (point : Point) (slot : ℕ) (ty need : Type_) → Holds z.program point slot ty → is_of z.program ty need ≡ true → Holds z.program point slot need
  holds_up point slot ty need h of = record { held = h.held; real = h.real; known = h.known; fits = set.members.further h.held ty need h.real h.fits of }

  pub holds_known : (point : Point) (slot : ℕ) (ty : Type_) → is_type z.program ty ≡ true → Known point slot ty → Holds z.program point slot ty
  holds_known point slot ty real known = record { held = ty; real = real; known = known; fits = set.members.itself ty real }

  variables_keep : (count : ℕ) (before after : Point) (vs : List Variable) → z.base ≤ count → Keeps count before after → AllOf (IsVariable z) vs
      → AllOf (λ (v : Variable). (ty : Type_) → v.ty ≡ Some ty → Known before (slot_of z.scope (Some v.meaning)) ty) vs
      → AllOf (λ (v : Variable). (ty : Type_) → v.ty ≡ Some ty → Known after (slot_of z.scope (Some v.meaning)) ty) vs
  variables_keep count before after [] le keeps are known = tt
  variables_keep count before after (v ∷ vs) le keeps are known = (
    (λ ty typed. keeps (slot_of z.scope (Some v.meaning)) (let low = are.0.slot.low in omega (arith, low, le)) ty (known.0 ty typed)),
    variables_keep count before after vs le keeps are.1 known.1,
  )

  pub stands_on : (count : ℕ) (before after : Point) → z.base ≤ count → Keeps count before after → Stands z before → Stands z after
  stands_on count before after le keeps stands = record {
    variables = variables_keep count before after z.names.names le keeps set.variables stands.variables;
    this = λ has. keeps 0 (let one = set.static has in omega (arith, one, le)) (class_type z.names.class) (stands.this has);
  }

  pub ready_on : (made : Made) (point : Point) (after : Made) (behind : Point) → Ready z made point → Steps z.program z.method z.locals z.fixed made point after behind → Ready z after behind
  ready_on made point after behind ready steps = ((let a = ready.0 in let b = steps.up in omega (arith, a, b)), stands_on made.free point behind ready.0 steps.keeps ready.1)

  -- ---- slots that are avoided

  none_among : (slot : ℕ) (slots : List ℕ) → AllOf (λ other. (other == slot) ≡ false) slots → is_among slot slots ≡ false
  none_among slot [] all = refl
  none_among slot (first ∷ rest) all = ap (λ b. if b then true else is_among slot rest) all.0 ∙ none_among slot rest all.1

  -- a new temporary is none of them
  pub new_apart : (free : ℕ) → z.base ≤ free → is_among free z.avoided ≡ false
  new_apart free le = none_among free z.avoided (all_so (λ slot. (param_slot z.method 0 ≤ slot) × (slot < z.base)) (λ slot. (slot == free) ≡ false) (λ slot low. is_other slot free (let a = low.1 in omega (arith, a, le))) z.avoided set.avoided)
    where
      is_other : (slot free : ℕ) → slot < free → (slot == free) ≡ false
      is_other slot free lt = grind (arith, nat_tests)

  -- nor is `this`
  pub this_apart : z.names.has_object ≡ true → is_among 0 z.avoided ≡ false
  this_apart has = none_among 0 z.avoided (all_so (λ slot. (param_slot z.method 0 ≤ slot) × (slot < z.base)) (λ slot. (slot == 0) ≡ false) (λ slot low. not_zero slot (let a = low.0 in let b = set.object has in omega (arith, a, b))) z.avoided set.avoided)
    where
      not_zero : (slot : ℕ) → 1 ≤ slot → (slot == 0) ≡ false
      not_zero slot le = grind (arith, nat_tests)

  -- an operation whose target is the next free slot
  pub op_given_when : (made : Made) (point : Point) → Ready z made point → (o : Op) (ty : Type_) → is_super_call o.kind ≡ false → (z.fixed → op_types z.program z.method z.locals point o o.kind ≡ assigned made.free ty point)
      → (z.fixed → made.free < z.method.slots → op_fits z.program z.method z.locals point o o.kind ≡ true) → Makes (Gives z.program z.method z.locals z.fixed z.avoided made point ty) (taking made (item.Do o))
  op_given_when made point ready o ty not_super types fits =
      op_gives z.program z.method z.locals z.fixed z.avoided made point o ty (new_apart made.free ready.0) (set.members.itself ty) not_super types fits

  pub op_given : (made : Made) (point : Point) → Ready z made point → (o : Op) (ty : Type_) → is_super_call o.kind ≡ false → op_types z.program z.method z.locals point o o.kind ≡ assigned made.free ty point
      → (made.free < z.method.slots → op_fits z.program z.method z.locals point o o.kind ≡ true) → Makes (Gives z.program z.method z.locals z.fixed z.avoided made point ty) (taking made (item.Do o))
  op_given made point ready o ty not_super types fits = op_given_when made point ready o ty not_super (λ now. types) (λ now. fits)
