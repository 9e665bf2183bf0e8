-- What stands at a place that needs a type gives a value of it; and how the two makers of lowering fit.
use Rattle.std.proofs.Common.{◌≡◌, ◌≤◌, ◌<◌, ℕ, ◌+◌, Bool, true, false, List, [], ◌∷◌, ◌++◌, Option, Some, None, Ok, Err, refl, sym, ap, subst, ◌∙◌, arith}
use Rattle.std.specs.Prelude.{if◌then◌else◌, ◌&&◌, not, nat_lt}
use Rattle.std.proofs.lemmas.Bool.{false≢true}
use Rattle.ix_text.specs.declared.span.Span.{Span}
use Rattle.ix_core.specs.declared.claim.Type_.{Type_}
use Rattle.ix_core.specs.declared.code.Block.{Block}
use Rattle.ix_core.specs.declared.code.Item.TheVariants as item
use Rattle.ix_core.specs.declared.op.Literal.TheVariants as literal
use Rattle.ix_core.specs.declared.op.Op.{Op}
use Rattle.ix_core.specs.declared.op.OpKind.TheVariants as op
use Rattle.ix_core.specs.declared.program.Method.{Method}
use Rattle.ix_core.specs.declared.program.Program.{Program}
use Rattle.ix_core.specs.Code.{End, block_code, items_code, cond_code}
use Rattle.ix_core.specs.Formed.{Ways, also, beside, assigned, code_ways, condition_ways, is_straight, is_straight_condition, reads, super_calls_in}
use Rattle.ix_core.specs.Tables.{param_slots}
use Rattle.ix_core.specs.Types.{Point, bool_type, meeting, is_type, is_of, is_reference_type}
use Rattle.ix_core.proofs.Translated.{item_code-If, cond_code-Truth}
use Rattle.ix_meaning.specs.declared.note.NameError.{NameError}
use Rattle.ix_meaning.specs.declared.note.Note.{Note}
use Rattle.ix_meaning.specs.declared.note.Note.TheVariants.{Wrong}
use Rattle.ix_meaning.specs.declared.note.Rule.{Rule}
use Rattle.ix_meaning.specs.declared.note.Rule.TheVariants as rule
use Rattle.ix_meaning.specs.declared.note.Which.TheVariants as which
use Rattle.ix_meaning.specs.Rules as rules
use Rattle.ix_meaning.specs.Scope.{Scope as Names}
use Rattle.ix_meaning.specs.Types.{Judged, of, typed, type_note, wrong_if, fits, is_reference}
use Rattle.ix_meaning.specs.Values as values
use Rattle.ix_meaning.specs.Values.{Reading, KindReading, no_object, value, Received, check, fitted, null_at, as_object, object_for, object_notes, no_reference}
use Rattle.ix_plain.specs.declared.made.Made.{Made}
use Rattle.ix_plain.specs.Scope.{Scope, is_among}
use Rattle.ix_plain.specs.Parts.{Within, ◌>>=◌, Value, Asked, empty, block, truth_item, truth_value, truth_of, most_slots}
use Rattle.ix_plain.specs.Values.{Lowering, computes, asks, asked_value, without_value}
use Rattle.ix_formed.specs.Additions.{Makes, IsPlain}
use Rattle.ix_formed.specs.NoErrors.{Agrees}
use Rattle.ix_formed.specs.Points.{Keeps, Leads, Decides}
use Rattle.ix_formed.specs.Typed.{Steps, Runs, Gives, Tests, Setting, Told, IsSet, IsResult, Stands, Ready, Yields, Judges, ReceiverIs, Fits}
use Rattle.ix_formed.proofs.EachMember.{said_parts, not_broken}
use Rattle.ix_formed.proofs.NumberLists.{both_true}
use Rattle.ix_formed.proofs.PlainItems.{makes_then, plain_block, plain_supers, plain_truth, items_before}
use Rattle.ix_formed.proofs.SameTypes.{of_bool, fits_real, reference_real, reference_is}
use Rattle.ix_formed.proofs.TypedPoints.{keeps_both, assigned_known, new_keeps, meeting_known, meeting_keeps}
use Rattle.ix_formed.proofs.TypedSteps.{target_is, reads_held, new_apart}

some_is : {A : Type 0} (x y : A) → ◌≡◌ {A = Option A} (Some x) (Some y) → x ≡ y
some_is x y e = cc

-- ---- a block, and what is decided behind it

module _ (p : Program) (method : Method) (locals : List Type_) (fixed : Type 0) where
  -- what was made in a block of its own
  pub block_leads : (free : ℕ) (point : Point) (made : Made) (behind : Point) → Steps p method locals fixed (empty free) point made behind → fixed → made.free ≤ method.slots
      → code_ways p method locals false (block_code (block made)) point ≡ record { fits = true; ends = behind; breaks = None; turns = None }
  block_leads free point made behind steps now le =
      ap (λ items. code_ways p method locals false (items_code items) point) steps.appended
      ∙ ap (λ code. code_ways p method locals false code point) (items_before steps.items)
      ∙ steps.leads now le false End

  pub block_straight : (free : ℕ) (point : Point) (made : Made) (behind : Point) → Steps p method locals fixed (empty free) point made behind → IsPlain made.items
  block_straight free point made behind steps = subst IsPlain (sym steps.appended) steps.plain

module _ (p : Program) (method : Method) (locals : List Type_) (fixed : Type 0) (avoided : List ℕ) where
  -- a boolean that was computed
  pub truth_tests : (free : ℕ) (point : Point) (v : Value) → Gives p method locals fixed avoided (empty free) point bool_type v
      → Makes (Tests p method locals fixed free point) (truth_of v)
  truth_tests free point v g =
      let plain = block_straight p method locals fixed free point v.made g.behind g.steps in
      let is = cond_code-Truth (block v.made) v.slot in
      record {
        holds = g.behind;
        fails = g.behind;
        up = g.steps.up;
        plain = record {
          straight = ap is_straight_condition is ∙ plain_block v.made.items plain;
          supers = ap super_calls_in is ∙ plain_supers v.made.items plain;
        };
        decides = λ now le.
            let leads = block_leads p method locals fixed free point v.made g.behind g.steps now le in
            let straight = plain_block v.made.items plain in
            let read : reads p method g.behind v.slot bool_type ≡ true = reads_held p method locals fixed g.behind v.slot v.made.free bool_type g.low le (g.holds refl) in
            record {
              fits = ap (λ c. (condition_ways p method locals c point).fits) is
                  ∙ ap (λ (w : Ways). is_straight (block_code (block v.made)) && (w.fits && reads p method w.ends v.slot bool_type)) leads
                  ∙ both_true (is_straight (block_code (block v.made))) (reads p method g.behind v.slot bool_type) straight read;
              true_at = ap (λ c. (condition_ways p method locals c point).holds) is ∙ ap (λ (w : Ways). w.ends) leads;
              false_at = ap (λ c. (condition_ways p method locals c point).fails) is ∙ ap (λ (w : Ways). w.ends) leads;
            };
        keeps_holds = g.steps.keeps;
        keeps_fails = g.steps.keeps;
      }

  -- ---- a condition as a value

  module _ (made : Made) (point : Point) (asked : Asked) (span : Span) where
    abbrev constant : Bool → Op
    constant answer = record { kind = op.Const asked.free (literal.Bool answer); span = span; parts = [] }

    abbrev branch : Bool → Block
    branch answer = record { items = item.Do (constant answer) ∷ [] }

    constant_ways : (answer : Bool) (in_loop : Bool) (at : Point) → param_slots method ≤ asked.free → asked.free < method.slots
        → code_ways p method locals in_loop (block_code (branch answer)) at ≡ record { fits = true; ends = assigned asked.free bool_type at; breaks = None; turns = None }
    constant_ways answer in_loop at low lt =
        ap (λ b. also (true && (b && true)) (record { fits = true; ends = assigned asked.free bool_type at; breaks = None; turns = None })) (target_is p method asked.free low lt)

    truth_leads : (holds fails : Point) → Decides p method locals asked.cond point holds fails → param_slots method ≤ asked.free → asked.free < method.slots
        → Leads p method locals (truth_item asked.cond asked.free span ∷ []) point (meeting (assigned asked.free bool_type holds) (assigned asked.free bool_type fails))
    truth_leads holds fails d low lt in_loop rest =
        ap (λ c. code_ways p method locals in_loop c point) (item_code-If asked.cond (branch true) (branch false) rest)
        ∙ ap (λ b. beside b (code_ways p method locals in_loop (block_code (branch true)) (condition_ways p method locals (cond_code asked.cond) point).holds)
        (code_ways p method locals in_loop (block_code (branch false)) (condition_ways p method locals (cond_code asked.cond) point).fails) (λ at. code_ways p method locals in_loop rest at)) d.fits
        ∙ ap (λ h. beside true (code_ways p method locals in_loop (block_code (branch true)) h)
        (code_ways p method locals in_loop (block_code (branch false)) (condition_ways p method locals (cond_code asked.cond) point).fails) (λ at. code_ways p method locals in_loop rest at)) d.true_at
        ∙ ap (λ f. beside true (code_ways p method locals in_loop (block_code (branch true)) holds) (code_ways p method locals in_loop (block_code (branch false)) f) (λ at. code_ways p method locals in_loop rest at)) d.false_at
        ∙ ap (λ w. beside true w (code_ways p method locals in_loop (block_code (branch false)) fails) (λ at. code_ways p method locals in_loop rest at)) (constant_ways true in_loop holds low lt)
        ∙ ap (λ w. beside true (record { fits = true; ends = assigned asked.free bool_type holds; breaks = None; turns = None }) w (λ at. code_ways p method locals in_loop rest at)) (constant_ways false in_loop fails low lt)

    pub truth_gives : Tests p method locals fixed made.free point asked → param_slots method ≤ made.free → is_among asked.free avoided ≡ false → Makes (Gives p method locals fixed avoided made point bool_type) (truth_value made.items span asked)
    truth_gives t low apart = taken (nat_lt asked.free most_slots)
      where
        behind : Point
        behind = meeting (assigned asked.free bool_type t.holds) (assigned asked.free bool_type t.fails)

        keeps : Keeps made.free point (meeting (assigned asked.free bool_type t.holds) (assigned asked.free bool_type t.fails))
        keeps = meeting_keeps made.free point (assigned asked.free bool_type t.holds) (assigned asked.free bool_type t.fails)
            (keeps_both made.free asked.free point t.holds (assigned asked.free bool_type t.holds) t.up t.keeps_holds (new_keeps asked.free bool_type t.holds))
            (keeps_both made.free asked.free point t.fails (assigned asked.free bool_type t.fails) t.up t.keeps_fails (new_keeps asked.free bool_type t.fails))

        taken : (b : Bool) → Makes (Gives p method locals fixed avoided made point bool_type)
            (if b then Ok (record { made = record { items = made.items ++ truth_item asked.cond asked.free span ∷ []; free = asked.free + 1 }; slot = asked.free }) else Err which.Slots)
        taken true = record {
          behind = meeting (assigned asked.free bool_type t.holds) (assigned asked.free bool_type t.fails);
          steps = record {
            items = truth_item asked.cond asked.free span ∷ [];
            appended = refl;
            plain = plain_truth asked.cond asked.free span t.plain;
            up = let u = t.up in omega (arith, u);
            leads = λ now le.
                let u = t.up in
                truth_leads t.holds t.fails (t.decides now (omega (arith, le))) (omega (arith, low, u)) (omega (arith, le));
            keeps = keeps;
          };
          low = omega arith;
          apart = apart;
          holds = λ real. record {
            held = bool_type;
            real = refl;
            known = meeting_known (assigned asked.free bool_type t.holds) (assigned asked.free bool_type t.fails) asked.free bool_type
                (assigned_known asked.free bool_type t.holds) (assigned_known asked.free bool_type t.fails);
            fits = refl;
          };
        }
        taken false = tt

-- ---- what notes say

module _ (z : Setting) where
  abbrev So : Note → Type 0
  So note = Agrees z.scope.site.names z.parts note

  no_error : (error : NameError) → So (Wrong error) → ⊥
  no_error error wrong = wrong

  pub parted : (xs ys : List Note) → Told z (xs ++ ys) → Told z xs × Told z ys
  parted xs ys said = said_parts So xs ys said

  pub unbroken : (b : Bool) (r : Rule) (span : Span) → Told z (wrong_if b r span) → b ≡ false
  unbroken b r span said = not_broken So no_error b r span said

  pub kept : (b : Bool) (r : Rule) (span : Span) → Told z (wrong_if (not b) r span) → b ≡ true
  kept true r span said = refl
  kept false r span said = absurd said.0

  -- the type that is noted
  pub noted : (o : Option Type_) (ty : Type_) (span : Span) → o ≡ Some ty → Told z (type_note o span) → z.scope.site.names.type_of span ≡ Some ty
  noted o ty span e said = (subst (λ o. Told z (type_note o span)) e said).0

  -- where the expression has a type the table has it
  abbrev pub Tabled : Span → Option Type_ → Type 0
  Tabled span o = (ty : Type_) → o ≡ Some ty → z.scope.site.names.type_of span ≡ Some ty

  pub tabled : (span : Span) (o : Option Type_) → Told z (type_note o span) → Tabled span o
  tabled span o said ty e = noted o ty span e said

-- ---- at a place that needs a type

module _ (z : Setting) (set : IsSet z) where
  -- a value of the type, or of one below
  pub record Checked (need : Type_) (l : Lowering) (r : Reading) : Type 0 where
    pub ty : Type_
    pub table : z.scope.site.names.type_of r.span ≡ Some ty
    pub real : is_type z.program ty ≡ true
    pub fits : is_of z.program ty need ≡ true
    pub yields : Yields z ty l.value
    pub judged : r.is_null ≡ false → ((r.judge z.names).ty ≡ Some ty) × Told z (r.judge z.names).notes
    pub reference : r.is_null ≡ true → is_reference_type need ≡ true

  pub check_fits : (l : Lowering) (r : Reading) → Fits z l r → (need : Type_) → is_type z.program need ≡ true → Told z (check r z.names (of need)).notes → Checked need l r
  check_fits l r f need real said = by_null r.is_null refl said
    where
      null_typed : (b : Bool) → is_reference need ≡ b → b ≡ true → Told z (type_note (if b then Some need else None) r.span) → z.scope.site.names.type_of r.span ≡ Some need
      null_typed true same e said = said.0
      null_typed false same e said = absurd (false≢true e)

      by_null : (b : Bool) → r.is_null ≡ b → Told z (if b then null_at (of need) r.span else fitted z.names.world (of need) r.span (r.judge z.names)).notes → Checked need l r
      by_null true e said =
          let a = parted z (rules.null_mismatch (of need) r.span) (type_note (values.null_type (of need)) r.span) said in
          let is = kept z (is_reference need) rule.TypeMismatch r.span a.0 in
          let table = null_typed (is_reference need) refl is a.1 in
          record {
            ty = need;
            table = table;
            real = real;
            fits = set.members.itself need real;
            yields = f.null e need (reference_is need is) real table;
            judged = λ no. absurd (false≢true (sym no ∙ e));
            reference = λ yes. reference_is need is;
          }
      by_null false e said =
          let a = parted z (r.judge z.names).notes (rules.type_mismatch z.names.world (of need) (r.judge z.names).ty r.span) said in
          let j = f.value a.0 in
          let b = subst (λ o. Told z (rules.type_mismatch z.names.world (of need) o r.span)) j.typed a.1 in
          let fit = kept z (fits z.names.world.supers j.ty need) rule.TypeMismatch r.span b in
          let is = fits_real z.program z.names.world.supers j.ty need j.of_type real fit in
          record {
            ty = j.ty;
            table = j.table;
            real = is;
            fits = set.members.fitting j.ty need is fit;
            yields = j.yields;
            judged = λ no. (j.typed, a.0);
            reference = λ yes. absurd (false≢true (sym e ∙ yes));
          }

  -- a condition
  pub condition_fits : (l : Lowering) (r : Reading) → Fits z l r → Told z (check r z.names (of bool_type)).notes → (free : ℕ) (point : Point) → z.base ≤ free → Stands z point
      → Makes (Tests z.program z.method z.locals z.fixed free point) (l.condition z.scope free)
  condition_fits l r f said = let c = check_fits l r f bool_type refl said in by_null r.is_null refl c
    where
      by_null : (b : Bool) → r.is_null ≡ b → Checked bool_type l r → (free : ℕ) (point : Point) → z.base ≤ free → Stands z point
          → Makes (Tests z.program z.method z.locals z.fixed free point) (l.condition z.scope free)
      by_null true e c = absurd (false≢true (c.reference e))
      by_null false e c = let j = c.judged e in f.condition j.1 (j.0 ∙ ap (λ t. Some t) (of_bool z.program c.ty c.fits))

  -- ---- readings of a place

  abbrev pub reading_at : KindReading → Span → Reading
  reading_at k span = record {
    span = span;
    is_null = k.is_null;
    is_this = k.is_this;
    judge = λ s. typed span (k.judge s span);
    assigned = λ s. typed span (k.assigned s span);
    receiver = λ s. k.receiver s span;
  }

  abbrev pub lowering_at : Lowering → Span → Lowering
  lowering_at l span = record l { span = span }

  -- what an expression says and gives at its place
  pub record Speaks (said : Option Type_) (run : Scope → Made → Within Value) : Type 0 where
    pub ty : Type_
    pub typed : said ≡ Some ty
    pub of_type : IsResult z.program ty
    pub yields : Yields z ty run

  pub judges : (span : Span) (j : Judged) (run : Scope → Made → Within Value) → (Told z j.notes → Tabled z span j.ty → Speaks j.ty run) → Told z (typed span j).notes → Judges z span j.ty run
  judges span j run speaks said =
      let a = parted z j.notes (type_note j.ty span) said in
      let s = speaks a.0 (tabled z span j.ty a.1) in
      record { ty = s.ty; typed = s.typed; table = noted z j.ty s.ty span s.typed a.1; of_type = s.of_type; yields = s.yields }

  pub value_tests : (run : Scope → Made → Within Value) (ty : Type_) → Yields z ty run → ty ≡ bool_type → (free : ℕ) (point : Point) → z.base ≤ free → Stands z point
      → Makes (Tests z.program z.method z.locals z.fixed free point) (run z.scope (empty free) >>= truth_of)
  value_tests run ty yields is free point le stands =
      let bools : Yields z bool_type run = subst (λ t. Yields z t run) is yields in
      makes_then (Gives z.program z.method z.locals z.fixed z.avoided (empty free) point bool_type) (Tests z.program z.method z.locals z.fixed free point) (run z.scope (empty free)) truth_of (bools (empty free) point (le, stands))
      (λ v g. truth_tests z.program z.method z.locals z.fixed z.avoided free point v g)

  pub value_runs : (run : Scope → Made → Within Value) (ty : Type_) → Yields z ty run → (made : Made) (point : Point) → Ready z made point → Makes (Runs z.program z.method z.locals z.fixed made point) (run z.scope made >>= without_value)
  value_runs run ty yields made point ready =
      makes_then (Gives z.program z.method z.locals z.fixed z.avoided made point ty) (Runs z.program z.method z.locals z.fixed made point) (run z.scope made) without_value (yields made point ready) (λ v g. record { behind = g.behind; steps = g.steps })

  -- a value before a dot
  pub as_object_is : (l : Lowering) (span : Span) (j : Judged) → (Told z j.notes → Tabled z span j.ty → Speaks j.ty l.value) → Told z (as_object j span).notes → ReceiverIs z span l (as_object j span).object × ((ty : Type_) × Yields z ty l.value)
  as_object_is l span j speaks said =
      let a = parted z j.notes (object_notes j.ty span) said in
      let b = parted z (type_note j.ty span) (no_reference j.ty span) a.1 in
      let s = speaks a.0 (tabled z span j.ty b.0) in
      let table = noted z j.ty s.ty span s.typed b.0 in
      let c = subst (λ o. Told z (no_reference o span)) s.typed b.1 in
      let is = kept z (is_reference s.ty) rule.TypeMismatch span c in
      let real = reference_real z.program s.ty s.of_type is in
      let object : object_for j.ty ≡ value s.ty = ap object_for s.typed ∙ ap (λ b. if b then value s.ty else no_object) is in
      (subst (ReceiverIs z span l) (sym object) (real.0, real.1, table, s.yields), (s.ty, s.yields))

  -- an expression that computes a value, which is no `null` and no `this`
  pub computes_fits : (span : Span) (k : KindReading) (run : Scope → Made → Within Value) → k.is_null ≡ false → k.is_this ≡ false → ((s : Names) (at : Span) → k.receiver s at ≡ as_object (k.judge s at) at)
      → (Told z (k.judge z.names span).notes → Tabled z span (k.judge z.names span).ty → Speaks (k.judge z.names span).ty run) → Fits z (lowering_at (computes run span) span) (reading_at k span)
  computes_fits span k run no_null no_this receives speaks = record {
    same = refl;
    value = judges span (k.judge z.names span) run speaks;
    null = λ e. absurd (false≢true (sym no_null ∙ e));
    condition = λ said is free point le stands.
        let a = parted z (k.judge z.names span).notes (type_note (k.judge z.names span).ty span) said in
        let s = speaks a.0 (tabled z span (k.judge z.names span).ty a.1) in
        value_tests run s.ty s.yields (some_is s.ty bool_type (sym s.typed ∙ is)) free point le stands;
    receiver = λ said. subst (λ (o : Received). ReceiverIs z span (lowering_at (computes run span) span) o.object) (sym (receives z.names span))
        (as_object_is (lowering_at (computes run span) span) span (k.judge z.names span) speaks (subst (λ (o : Received). Told z o.notes) (receives z.names span) said)).0;
    unused = λ said made point ready.
        let y = (as_object_is (lowering_at (computes run span) span) span (k.judge z.names span) speaks (subst (λ (o : Received). Told z o.notes) (receives z.names span) said)).1 in
        value_runs run y.0 y.1 made point ready;
    this = λ e. absurd (false≢true (sym no_this ∙ e));
  }

  -- an expression that asks
  pub asks_fits : (span : Span) (k : KindReading) (condition : Scope → ℕ → Within Asked) → k.is_null ≡ false → k.is_this ≡ false → ((s : Names) (at : Span) → k.receiver s at ≡ as_object (k.judge s at) at)
      → (k.judge z.names span).ty ≡ Some bool_type
      → (Told z (k.judge z.names span).notes → (free : ℕ) (point : Point) → z.base ≤ free → Stands z point → Makes (Tests z.program z.method z.locals z.fixed free point) (condition z.scope free))
      → Fits z (lowering_at (asks condition span) span) (reading_at k span)
  asks_fits span k condition no_null no_this receives is tests =
      let c = computes_fits span k (asked_value condition span) no_null no_this receives
      (λ said table. record {
        ty = bool_type;
        typed = is;
        of_type = refl;
        yields = λ made point ready.
            makes_then (Tests z.program z.method z.locals z.fixed made.free point) (Gives z.program z.method z.locals z.fixed z.avoided made point bool_type) (condition z.scope made.free) (truth_value made.items span)
            (tests said made.free point ready.0 ready.1)
            (λ asked t. truth_gives z.program z.method z.locals z.fixed z.avoided made point asked span t (let a = set.params in let b = ready.0 in omega (arith, a, b)) (new_apart z set asked.free (let a = ready.0 in let b = t.up in omega (arith, a, b))));
      }) in
      record {
        same = refl;
        value = c.value;
        null = c.null;
        condition = λ said same. tests (parted z (k.judge z.names span).notes (type_note (k.judge z.names span).ty span) said).0;
        receiver = c.receiver;
        unused = c.unused;
        this = λ e. absurd (false≢true (sym no_this ∙ e));
      }
