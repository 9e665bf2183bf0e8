-- Cells and new arrays fit, as each place wants them.
use Rattle.std.proofs.Common.{◌≡◌, ◌≤◌, ◌<◌, ℕ, zero, suc, ◌+◌, ◌-◌, Bool, true, false, List, [], ◌∷◌, ◌++◌, length, Option, Some, None, refl, sym, ap, subst, ◌∙◌, arith, length-append}
use Rattle.std.specs.Prelude.{if◌then◌else◌, ◌&&◌, not, nat_lt, ◌==◌, is_some}
use Rattle.std.specs.List.{list_all}
use Rattle.std.proofs.lemmas.Bool.{false≢true, and_parts}
use Rattle.std.proofs.lemmas.Bool.Decides.{nat_tests}
use Rattle.ix_text.specs.declared.span.Span.{Span}
use Rattle.ix_core.specs.declared.claim.Type_.{Type_}
use Rattle.ix_core.specs.declared.claim.Type_.TheVariants as type
use Rattle.ix_core.specs.declared.op.OpKind.TheVariants as op
use Rattle.ix_core.specs.declared.program.Program.{Program}
use Rattle.ix_core.specs.Formed.{assigned, at_most, is_target, reads, are_entries}
use Rattle.ix_core.specs.Types.{Point, int_type, cell_type, is_array_type, is_type, is_array, is_base, is_int_type, is_element_claim, is_empty}
use Rattle.ix_tree.specs.declared.annot.TypeTree.{TypeTree}
use Rattle.ix_tree.specs.Parts.{most_entries}
use Rattle.ix_meaning.specs.declared.note.Rule.TheVariants as rule
use Rattle.ix_meaning.specs.Annotated.{written, given, names_nothing}
use Rattle.ix_core.specs.SameClaims.{distinct}
use Rattle.ix_meaning.specs.Rules as rules
use Rattle.ix_meaning.specs.Types as types
use Rattle.ix_meaning.specs.Types.{judged, type_note, of, element, element_in}
use Rattle.ix_meaning.specs.Values as reading
use Rattle.ix_meaning.specs.Values.{Reading, KindReading, check, valued}
use Rattle.ix_plain.specs.declared.made.Made.{Made}
use Rattle.ix_plain.specs.declared.made.Spot.TheVariants as spot
use Rattle.ix_plain.specs.Scope.{type_at, or_void}
use Rattle.ix_plain.specs.Parts.{computed, taking, done}
use Rattle.ix_plain.specs.Values as values
use Rattle.ix_plain.specs.Values.{Lowering, Filling, Entries}
use Rattle.ix_formed.specs.Additions.{Makes, AllOf}
use Rattle.ix_formed.specs.NoErrors.{Agrees}
use Rattle.ix_formed.specs.Typed.{Steps, Gives, Holds, Setting, Told, IsSet, IsResult, Ready, Yields, SpotIs, Aims, Fits, FitsTarget, FitsFilling}
use Rattle.ix_formed.proofs.EachMember.{type_known}
use Rattle.ix_formed.proofs.NumberLists.{both_true, all_so, all_joined}
use Rattle.ix_formed.proofs.PlainItems.{makes_more, makes_then}
use Rattle.ix_formed.proofs.SameTypes.{real_result}
use Rattle.ix_formed.proofs.TypedChecks.{parted, kept, noted, check_fits, computes_fits, lowering_at, reading_at}
use Rattle.ix_formed.proofs.TypedNames.{new_target}
use Rattle.ix_formed.proofs.TypedOperators.{int_checked}
use Rattle.ix_formed.proofs.TypedSteps.{differs, steps_none, steps_both, then_value, value_after, op_given, reads_held, holds_on, holds_up, ready_on}

-- ---- the type of a cell

module _ (p : Program) where
  one_less : (depth : ℕ) → nat_lt 1 (suc (suc depth)) ≡ true
  one_less depth = grind (arith, nat_tests)

  some_less : (depth : ℕ) → nat_lt 0 (suc depth) ≡ true
  some_less depth = grind (arith, nat_tests)

  pub cell_is : (ty : Type_) → is_array p ty ≡ true → (element ty ≡ Some (cell_type ty)) × (is_type p (cell_type ty) ≡ true)
  cell_is type.Void e = absurd (false≢true e)
  cell_is (type.Plain b) e = absurd (false≢true e)
  cell_is (type.Array b zero cs) e = (refl, (and_parts (is_base p b) _ e).0)
  cell_is (type.Array b (suc zero) cs) e = (refl, (and_parts (is_base p b) _ e).0)
  cell_is (type.Array b (suc (suc depth)) cs) e =
      let q = and_parts (is_base p b) (nat_lt 0 (suc (suc depth)) && (if is_int_type (type.Plain b) then list_all is_element_claim cs else is_empty cs)) e in
      let w = and_parts (nat_lt 0 (suc (suc depth))) (if is_int_type (type.Plain b) then list_all is_element_claim cs else is_empty cs) q.1 in
      let less : suc (suc depth) - 1 ≡ suc depth = omega arith in (
        ap (λ t. if t then Some (type.Array b (suc (suc depth) - 1) cs) else Some (type.Plain b)) (one_less depth) ∙ ap (λ d. Some (type.Array b d cs)) less,
        both_true (is_base p b) _ q.0 (both_true (nat_lt 0 (suc depth)) _ (some_less depth) w.1),
      )

  array_is : (ty : Type_) → IsResult p ty → is_some (element ty) ≡ true → is_array p ty ≡ true
  array_is type.Void result e = absurd (false≢true e)
  array_is (type.Plain b) result e = absurd (false≢true e)
  array_is (type.Array b depth cs) result e = result

  pub array_real : (ty : Type_) → is_array p ty ≡ true → is_type p ty ≡ true
  array_real ty e = (and_parts (is_array_type ty) (is_type p ty) e).1

module _ (z : Setting) (set : IsSet z) where
  -- ---- an array, of which a cell is wanted

  record ArrayIs (l : Lowering) (said : Option Type_) : Type 0 where
    pub ty : Type_
    pub array : is_array z.program ty ≡ true
    pub typed : said ≡ Some (cell_type ty)
    pub table : z.scope.site.names.type_of l.span ≡ Some ty
    pub yields : Yields z ty l.value

  array_part : (l : Lowering) (r : Reading) → Fits z l r → Told z (reading.array_part r z.names).notes → ArrayIs l (reading.array_part r z.names).ty
  array_part l r f = by_null r.is_null
    where
      by_null : (b : Bool) → Told z (if b then judged None (types.wrong rule.TypeMismatch r.span) else judged (element_in (r.judge z.names).ty) ((r.judge z.names).notes ++ reading.no_array (r.judge z.names).ty r.span)).notes
          → ArrayIs l (if b then judged None (types.wrong rule.TypeMismatch r.span) else judged (element_in (r.judge z.names).ty) ((r.judge z.names).notes ++ reading.no_array (r.judge z.names).ty r.span)).ty
      by_null true said = absurd said.0
      by_null false said =
          let a = parted z (r.judge z.names).notes (reading.no_array (r.judge z.names).ty r.span) said in
          let j = f.value a.0 in
          let b = subst (λ o. Told z (reading.no_array o r.span)) j.typed a.1 in
          let array = array_is z.program j.ty j.of_type (kept z (is_some (element j.ty)) rule.TypeMismatch r.span b) in
          record { ty = j.ty; array = array; typed = ap element_in j.typed ∙ (cell_is z.program j.ty array).0; table = ap z.scope.site.names.type_of f.same ∙ j.table; yields = j.yields }

  -- what a cell holds
  pub load_yields : (t ty : Type_) → t ≡ ty → (array index : ℕ) (at : Span) (made : Made) (point : Point) → Ready z made point → array < made.free → index < made.free → is_array z.program ty ≡ true
      → Holds z.program point array ty → Holds z.program point index int_type → Makes (Gives z.program z.method z.locals z.fixed z.avoided made point (cell_type ty)) (computed made (op.Load made.free array index t) at)
  load_yields t ty same array index at made point ready low_array low_index is held_array held_index =
      op_given z set made point ready (record { kind = op.Load made.free array index t; span = at; parts = [] }) (cell_type ty) refl (ap (λ t. assigned made.free (cell_type t) point) same)
      (λ lt.
      let read : reads z.program z.method point array t ≡ true = ap (reads z.program z.method point array) same ∙ reads_held z.program z.method z.locals z.fixed point array made.free ty low_array (omega (arith, lt)) held_array in
      let place = reads_held z.program z.method z.locals z.fixed point index made.free int_type low_index (omega (arith, lt)) held_index in
      both_true (is_array z.program t) _ (ap (is_array z.program) same ∙ is) (both_true (reads z.program z.method point array t) _ read (both_true (reads z.program z.method point index int_type) _ place
      (both_true (is_target z.program z.method made.free) _ (new_target z set made point ready lt)
      (both_true (not (made.free == array)) _ (differs made.free array low_array) (both_true (not (made.free == index)) true (differs made.free index low_index) refl))))))

  module _ (l m : Lowering) (a b : Reading) (f : Fits z l a) (g : Fits z m b) (span : Span) where
    abbrev element_reading : KindReading
    element_reading = valued (λ s p. reading.access a b s)

    element_yields : (said : Option Type_) (is : ArrayIs l said) → Yields z int_type m.value → Yields z (cell_type is.ty) (values.element l m span).value
    element_yields said is index made point ready =
        let cell = cell_type is.ty in
        then_value z.program z.method z.locals z.fixed z.avoided made point is.ty cell (l.value z.scope made) _ (is.yields made point ready)
        (λ y h. then_value z.program z.method z.locals z.fixed z.avoided y.made h.behind int_type cell (m.value z.scope y.made) _ (index y.made h.behind (ready_on z set made point y.made h.behind ready h.steps))
        (λ v k. load_yields (type_at z.scope l.span) is.ty (ap or_void is.table) y.slot v.slot m.span v.made k.behind
        (ready_on z set y.made h.behind v.made k.behind (ready_on z set made point y.made h.behind ready h.steps) k.steps) (let lo = h.low in let up = k.steps.up in omega (arith, lo, up)) k.low is.array
        (holds_on z.program y.made.free h.behind k.behind y.slot is.ty h.low k.steps.keeps (h.holds (array_real z.program is.ty is.array))) (k.holds refl)))

    pub element_computes : Fits z (lowering_at z set (values.computes (values.element l m span).value span) span) (reading_at z set element_reading span)
    element_computes = computes_fits z set span element_reading (values.element l m span).value refl refl (λ s at. refl)
        (λ said table.
        let q = parted z (reading.array_part a z.names).notes (check b z.names (of int_type)).notes said in
        let is = array_part l a f q.0 in
        record {
          ty = cell_type is.ty;
          typed = is.typed;
          of_type = real_result z.program (cell_type is.ty) (cell_is z.program is.ty is.array).1;
          yields = element_yields (reading.array_part a z.names).ty is (int_checked z set m b g q.1);
        })

    pub element_fits : Fits z (lowering_at z set (values.element l m span) span) (reading_at z set element_reading span)
    element_fits = record {
      same = refl;
      value = element_computes.value;
      null = element_computes.null;
      condition = element_computes.condition;
      receiver = element_computes.receiver;
      unused = element_computes.unused;
      this = element_computes.this;
    }

    pub element_target : FitsTarget z (lowering_at z set (values.element l m span) span) (reading_at z set element_reading span)
    element_target said =
        let j = reading.access a b z.names in
        let w = parted z j.notes (type_note j.ty span) said in
        let q = parted z (reading.array_part a z.names).notes (check b z.names (of int_type)).notes w.0 in
        let is = array_part l a f q.0 in
        let index = int_checked z set m b g q.1 in
        let t = type_at z.scope l.span in
        let same : t ≡ is.ty = ap or_void is.table in
        record {
          ty = cell_type is.ty;
          typed = is.typed;
          table = noted z j.ty (cell_type is.ty) span is.typed w.1;
          real = (cell_is z.program is.ty is.array).1;
          aims = λ made point ready.
              makes_then (Gives z.program z.method z.locals z.fixed z.avoided made point is.ty) (Aims z made point (cell_type is.ty)) (l.value z.scope made) _ (is.yields made point ready)
              (λ y h. makes_then (Gives z.program z.method z.locals z.fixed z.avoided y.made h.behind int_type) (Aims z made point (cell_type is.ty)) (m.value z.scope y.made) _
              (index y.made h.behind (ready_on z set made point y.made h.behind ready h.steps))
              (λ v k. record {
                behind = k.behind;
                steps = steps_both z.program z.method z.locals z.fixed made point y.made h.behind v.made k.behind h.steps k.steps;
                spot = subst (λ t. SpotIs z k.behind v.made.free (cell_type is.ty) (spot.Cell y.slot v.slot t m.span)) (sym same) (
                  (let lo = h.low in let up = k.steps.up in omega (arith, lo, up)),
                  k.low,
                  is.array,
                  holds_on z.program y.made.free h.behind k.behind y.slot is.ty h.low k.steps.keeps (h.holds (array_real z.program is.ty is.array)),
                  k.holds refl,
                  refl,
                );
              }));
        }

  -- ---- new arrays

  -- the type of a new array
  created_is : (tree : TypeTree) → nat_lt 0 tree.depth ≡ true → Told z (reading.created z.names tree).notes → (ty : Type_) × ((reading.created z.names tree).ty ≡ Some ty) × (is_array z.program ty ≡ true)
  created_is tree deep said =
      let a = parted z (written z.names.world.class tree []).notes (given (names_nothing (reading.created_target tree)) tree.annots).notes said in
      let known = type_known (λ note. Agrees z.scope.site.names z.parts note) (λ error wrong. wrong) z.names.world.class tree (distinct (given (names_nothing (reading.created_target tree)) tree.annots).claims) a.0 in
      (known.0, known.1, set.members.created tree known.0 deep known.1)

  new_array_yields : (l : Lowering) (span : Span) (ty : Type_) → is_array z.program ty ≡ true → z.scope.site.names.type_of span ≡ Some ty → Yields z int_type l.value → Yields z ty (values.new_array l span).value
  new_array_yields l span ty array table size made point ready =
      let t = type_at z.scope span in
      let same : t ≡ ty = ap or_void table in
      then_value z.program z.method z.locals z.fixed z.avoided made point int_type ty (l.value z.scope made) _ (size made point ready)
      (λ y g. op_given z set y.made g.behind (ready_on z set made point y.made g.behind ready g.steps) (record { kind = op.NewArray y.made.free t y.slot; span = l.span; parts = [] }) ty refl (ap (λ t. assigned y.made.free t g.behind) same)
      (λ lt.
      let read = reads_held z.program z.method z.locals z.fixed g.behind y.slot y.made.free int_type g.low (omega (arith, lt)) (g.holds refl) in
      both_true (reads z.program z.method g.behind y.slot int_type) _ read (both_true (is_array z.program t) _ (ap (is_array z.program) same ∙ array)
      (both_true (is_target z.program z.method y.made.free) _ (new_target z set y.made g.behind (ready_on z set made point y.made g.behind ready g.steps) lt) (both_true (not (y.made.free == y.slot)) true (differs y.made.free y.slot g.low) refl)))))

  pub new_array_fits : (tree : TypeTree) (l : Lowering) (r : Reading) (span : Span) → nat_lt 0 tree.depth ≡ true → Fits z l r
      → Fits z (lowering_at z set (values.new_array l span) span) (reading_at z set (valued (λ s p. reading.sized r s (reading.created s tree))) span)
  new_array_fits tree l r span deep f = computes_fits z set span (valued (λ s p. reading.sized r s (reading.created s tree))) (values.new_array l span).value refl refl (λ s at. refl)
      (λ said table.
      let a = parted z (reading.created z.names tree).notes (check r z.names (of int_type)).notes said in
      let is = created_is tree deep a.0 in
      record { ty = is.0; typed = is.1; of_type = real_result z.program is.0 (array_real z.program is.0 is.2); yields = new_array_yields l span is.0 is.2 (table is.0 is.1) (int_checked z set l r f a.1) })

  -- ---- lists in braces

  abbrev pub AllFit : List Filling → List reading.Filling → Type 0
  AllFit [] [] = Unit {0}
  AllFit (f ∷ fs) (g ∷ gs) = FitsFilling z f g × AllFit fs gs
  AllFit _ _ = ⊥

  abbrev Entry : Type_ → Point → ℕ → ℕ → Type 0
  Entry ty point free slot = (slot < free) × Holds z.program point slot ty

  record EntriesGive (made : Made) (point : Point) (ty : Type_) (many : ℕ) (e : Entries) : Type 0 where
    pub behind : Point
    pub steps : Steps z.program z.method z.locals z.fixed made point e.made behind
    pub all : AllOf (Entry ty behind e.made.free) e.slots
    pub count : length e.slots ≡ many

  entries_give : (slots : List ℕ) (fs : List Filling) (gs : List reading.Filling) → AllFit fs gs → (ty : Type_) → is_type z.program ty ≡ true → Told z (reading.fillings gs z.names (Some ty)) → (made : Made) (point : Point) → Ready z made point
      → AllOf (Entry ty point made.free) slots → Makes (EntriesGive made point ty (length slots + length fs)) (values.entries_from slots fs z.scope ty made)
  entries_give slots [] [] all ty real said made point ready entries = record { behind = point; steps = steps_none z.program z.method z.locals z.fixed made point; all = entries; count = omega arith }
  entries_give slots [] (g ∷ gs) all ty real said made point ready entries = absurd all
  entries_give slots (f ∷ fs) [] all ty real said made point ready entries = absurd all
  entries_give slots (f ∷ fs) (g ∷ gs) all ty real said made point ready entries =
      let q = parted z (g z.names (Some ty)) (reading.fillings gs z.names (Some ty)) said in
      let x = all.0 ty real q.0 in
      makes_then (Gives z.program z.method z.locals z.fixed z.avoided made point x.given) (EntriesGive made point ty (length slots + length (f ∷ fs))) (f.value z.scope ty made) _ (x.yields made point ready)
      (λ v h.
      let long : length (slots ++ v.slot ∷ []) + length fs ≡ length slots + length (f ∷ fs) = (let a = length-append slots (v.slot ∷ []) in omega (arith, a)) in
      let old : AllOf (Entry ty h.behind v.made.free) slots = all_so (Entry ty point made.free) (Entry ty h.behind v.made.free)
      (λ slot e. ((let a = e.0 in let b = h.steps.up in omega (arith, a, b)), holds_on z.program made.free point h.behind slot ty e.0 h.steps.keeps e.1)) slots entries in
      let new : AllOf (Entry ty h.behind v.made.free) (v.slot ∷ []) = ((h.low, holds_up z set h.behind v.slot x.given ty (h.holds x.real) x.fits), tt) in
      makes_more (EntriesGive v.made h.behind ty (length (slots ++ v.slot ∷ []) + length fs)) (EntriesGive made point ty (length slots + length (f ∷ fs)))
      (λ e y. record { behind = y.behind; steps = steps_both z.program z.method z.locals z.fixed made point v.made h.behind e.made y.behind h.steps y.steps; all = y.all; count = y.count ∙ long }) _
      (entries_give (slots ++ v.slot ∷ []) fs gs all.1 ty real q.1 v.made h.behind (ready_on z set made point v.made h.behind ready h.steps) (all_joined (Entry ty h.behind v.made.free) slots (v.slot ∷ []) old new)))

  others : (slot free : ℕ) → slot < free → (not (slot == free)) ≡ true
  others slot free lt = ap not (is_other slot free lt)
    where
      is_other : (slot free : ℕ) → slot < free → (slot == free) ≡ false
      is_other slot free lt = grind (arith, nat_tests)

  entries_are : (ty : Type_) (point : Point) (free : ℕ) (slots : List ℕ) → free ≤ z.method.slots → AllOf (Entry ty point free) slots → are_entries z.program z.method point free slots ty ≡ true
  entries_are ty point free [] le all = refl
  entries_are ty point free (slot ∷ slots) le all =
      both_true (reads z.program z.method point slot ty) _ (reads_held z.program z.method z.locals z.fixed point slot free ty all.0.0 le all.0.1)
      (both_true (not (slot == free)) _ (others slot free all.0.0) (entries_are ty point free slots le all.1))

  spans_length : (fs : List Filling) → length (values.spans fs) ≡ length fs
  spans_length [] = refl
  spans_length (f ∷ fs) = let a = spans_length fs in omega (arith, a)

  same_length : (n m : ℕ) → n ≡ m → (n == m) ≡ true
  same_length n m e = grind (arith, nat_tests)

  few_entries : (n : ℕ) → n ≤ most_entries → at_most n 2147483647 ≡ true
  few_entries n le = grind (arith, nat_tests)

  pub filled_yields : (fs : List Filling) (gs : List reading.Filling) → AllFit fs gs → length fs ≤ most_entries → (span : Span) (ty : Type_) → is_array z.program ty ≡ true → Told z (reading.fillings gs z.names (element_in (Some ty)))
      → Yields z ty (λ scope made. values.filled fs span scope ty made)
  filled_yields fs gs all few span ty array said made point ready =
      let cell = cell_is z.program ty array in
      makes_then (EntriesGive made point (cell_type ty) (0 + length fs)) (Gives z.program z.method z.locals z.fixed z.avoided made point ty) (values.entries_from [] fs z.scope (cell_type ty) made) _
      (entries_give [] fs gs all (cell_type ty) cell.1 (subst (λ o. Told z (reading.fillings gs z.names o)) cell.0 said) made point ready tt)
      (λ e x. value_after z.program z.method z.locals z.fixed z.avoided made point e.made x.behind ty (taking e.made (done (op.Fill e.made.free ty e.slots) span (values.spans fs))) x.steps
      (op_given z set e.made x.behind (ready_on z set made point e.made x.behind ready x.steps) (record { kind = op.Fill e.made.free ty e.slots; span = span; parts = values.spans fs }) ty refl refl
      (λ lt.
      let long : length e.slots ≡ length fs = (let c = x.count in omega (arith, c)) in
      let spans : (length (values.spans fs) == length e.slots) ≡ true = same_length (length (values.spans fs)) (length e.slots) (spans_length fs ∙ sym long) in
      both_true (is_array z.program ty) _ array (both_true (are_entries z.program z.method x.behind e.made.free e.slots (cell_type ty)) _ (entries_are (cell_type ty) x.behind e.made.free e.slots (omega (arith, lt)) x.all)
      (both_true (is_target z.program z.method e.made.free) _ (new_target z set e.made x.behind (ready_on z set made point e.made x.behind ready x.steps) lt)
      (both_true (length (values.spans fs) == length e.slots) _ spans (few_entries (length e.slots) (omega (arith, long, few)))))))))

  pub new_items_fits : (tree : TypeTree) (fs : List Filling) (gs : List reading.Filling) (span : Span) → nat_lt 0 tree.depth ≡ true → AllFit fs gs → length fs ≤ most_entries
      → Fits z (lowering_at z set (values.computes (λ scope made. values.filled fs span scope (type_at scope span) made) span) span) (reading_at z set (valued (λ s p. reading.filled gs s (reading.created s tree))) span)
  new_items_fits tree fs gs span deep all few = computes_fits z set span (valued (λ s p. reading.filled gs s (reading.created s tree))) (λ scope made. values.filled fs span scope (type_at scope span) made) refl refl (λ s at. refl)
      (λ said table.
      let a = parted z (reading.created z.names tree).notes (reading.fillings gs z.names (element_in (reading.created z.names tree).ty)) said in
      let is = created_is tree deep a.0 in
      let t : type_at z.scope span ≡ is.0 = ap or_void (table is.0 is.1) in
      record {
        ty = is.0;
        typed = is.1;
        of_type = real_result z.program is.0 (array_real z.program is.0 is.2);
        yields = λ made point ready. subst (λ t. Makes (Gives z.program z.method z.locals z.fixed z.avoided made point is.0) (values.filled fs span z.scope t made)) (sym t)
            (filled_yields fs gs all few span is.0 is.2 (subst (λ o. Told z (reading.fillings gs z.names (element_in o))) is.1 a.1) made point ready);
      })

  -- ---- initialisers

  pub value_filling : (l : Lowering) (r : Reading) → Fits z l r → FitsFilling z (values.init_step (Rattle.ix_tree.specs.declared.expr.Init.Init-F.Value l)) (reading.init_step (Rattle.ix_tree.specs.declared.expr.Init.Init-F.Value r))
  value_filling l r f ty real said =
      let c = check_fits z set l r f ty real said in
      record { given = c.ty; same = ap or_void (ap z.scope.site.names.type_of f.same ∙ c.table); real = c.real; fits = c.fits; yields = c.yields }

  pub items_filling : (fs : List Filling) (gs : List reading.Filling) (span : Span) → AllFit fs gs → length fs ≤ most_entries
      → FitsFilling z (values.init_step (Rattle.ix_tree.specs.declared.expr.Init.Init-F.Items fs span)) (reading.init_step (Rattle.ix_tree.specs.declared.expr.Init.Init-F.Items gs span))
  items_filling fs gs span all few ty real said =
      let a = parted z (rules.list_mismatch (of ty) span) (reading.fillings gs z.names (element ty)) said in
      let array = array_is z.program ty (real_result z.program ty real) (kept z (is_some (element ty)) rule.TypeMismatch span a.0) in
      record { given = ty; same = refl; real = real; fits = set.members.itself ty real; yields = filled_yields fs gs all few span ty array a.1 }
