-- Blocks of their own, choices and loops.
use Rattle.std.proofs.Common.{◌≡◌, ◌≤◌, ◌<◌, ℕ, zero, suc, ◌+◌, Bool, true, false, List, [], ◌∷◌, ◌++◌, length, Option, Some, None, refl, sym, ap, subst, ◌∙◌, arith}
use Rattle.std.specs.Prelude.{if◌then◌else◌, ◌&&◌, not, nat_lt}
use Rattle.std.proofs.lemmas.Bool.{false≢true, and_parts}
use Rattle.std.proofs.lemmas.Bool.Decides.{nat_tests}
use Rattle.std.proofs.lemmas.List.{append-nil}
use Rattle.ix_text.specs.declared.span.Span.{Span}
use Rattle.ix_core.specs.declared.claim.Type_.{Type_}
use Rattle.ix_core.specs.declared.code.Block.{Block}
use Rattle.ix_core.specs.declared.code.Cond.{Cond}
use Rattle.ix_core.specs.declared.code.Item.{Item}
use Rattle.ix_core.specs.declared.code.Item.TheVariants as item
use Rattle.ix_core.specs.declared.program.Local.{Local}
use Rattle.ix_core.specs.Code.{Code, End, block_code, items_code, cond_code}
use Rattle.ix_core.specs.Formed.{Ways, Answers, if_ways, loop_ways, body_start, is_straight, is_straight_condition, condition_ways}
use Rattle.ix_core.specs.Types.{Point, meeting, keeps_types, point_below, says, says_below}
use Rattle.ix_core.proofs.Translated.{item_code-If, item_code-Loop}
use Rattle.ix_tree.specs.Parts.{Part}
use Rattle.ix_tree.specs.Placed.{Layout, LaidOut}
use Rattle.ix_meaning.specs.Bodies.{Telling, after}
use Rattle.ix_meaning.specs.Scope.{Scope as Names}
use Rattle.ix_plain.specs.declared.body.Body.{Body}
use Rattle.ix_plain.specs.declared.made.Made.{Made}
use Rattle.ix_plain.specs.Parts.{empty, block}
use Rattle.ix_plain.specs.Statements.{Running, Inside, with_last, branch}
use Rattle.ix_formed.specs.Additions.{Makes, AllOf, code_before}
use Rattle.ix_formed.specs.Points.{Keeps, Decides}
use Rattle.ix_formed.specs.Readable.{Statement, is_part}
use Rattle.ix_formed.specs.TypedParts.{until, IsStatement}
use Rattle.ix_formed.specs.TypedStatements.{Ground, Says, IsKnown, Begins, IsDeclared, DoFit, Scoped, Stands, ways, Passes, Leaves, Adds, Tells, WriteAnswers}
use Rattle.ix_formed.proofs.NumberLists.{both_true, all_so}
use Rattle.ix_formed.proofs.PlainItems.{items_before, makes_then}
use Rattle.ix_formed.proofs.SameTypes.{same_itself}
use Rattle.ix_formed.proofs.ScopedLocals.{scoped_more, scoped_within, scoped_for, stands_for, stands_more, has_first, ended_outside}
use Rattle.ix_formed.proofs.TypedPoints.{keeps_none, keeps_both, meeting_keeps}
use Rattle.ix_formed.proofs.WrittenAnswers.{BlockAnswers, answered_none, answered_block}

module _ (g : Ground) where
  -- ---- what was made in a block of its own

  -- The block fits, and leads to these points.
  pub record BlockFits (in_loop : Bool) (code : Code) (point ends breaks turns : Point) : Type 0 where
    pub fits : (ways g in_loop code point).fits ≡ true
    pub ends_at : (ways g in_loop code point).ends ≡ ends
    pub breaks_at : (ways g in_loop code point).breaks ≡ breaks
    pub turns_at : (ways g in_loop code point).turns ≡ turns

  pub block_fits : (in_loop : Bool) (made : Made) (items : List Item) (point ends : Point) (breaks turns : Point → Point) → made.items ≡ items → Leaves g in_loop items point ends breaks turns
      → BlockFits in_loop (block_code (block made)) point ends (breaks None) (turns None)
  block_fits in_loop made items point ends breaks turns e leaves =
      let same : block_code (block made) ≡ code_before items End = ap items_code e ∙ items_before items in
      subst (λ code. BlockFits in_loop code point ends (breaks None) (turns None)) (sym same) (record { fits = leaves.fits End refl; ends_at = leaves.ends End; breaks_at = leaves.breaks End; turns_at = leaves.turns End })

  pub no_block_fits : (in_loop : Bool) (point : Point) → BlockFits in_loop End point point None None
  no_block_fits in_loop point = record { fits = refl; ends_at = refl; breaks_at = refl; turns_at = refl }

  -- nothing is known where no way leads
  pub none_known : (count : ℕ) (kept : Point) → Keeps count kept None
  none_known count kept slot lt ty k = tt

  -- A statement that is a part of another was made, between two places.
  pub record Nests (t : Telling) (own : List Type_) (s : Names) (lo hi : ℕ) (body : Body) (types : List Type_) (point : Point) (made : Inside) : Type 0 where
    pub added : List (Local × Span)
    pub added_types : List Type_
    pub grown : made.body.locals ≡ body.locals ++ added
    pub typed : length added_types ≡ length added
    pub places : AllOf (IsDeclared lo hi) added
    pub do_fit : Begins g made.body.locals (types ++ added_types) hi → DoFit g (length body.locals) added added_types
    pub most : body.most ≤ made.body.most
    pub same : made.body.made ≡ body.made
    pub names : t.names s ≡ s.names
    pub counted : s.next + t.declares ≡ length made.body.locals
    pub typed_own : added_types ≡ own
    pub ends : Point
    pub breaks : Point
    pub turns : Point
    pub block : Begins g made.body.locals (types ++ added_types) hi → made.body.most ≤ g.method.slots → (in_loop : Bool) → (s.in_loop ≡ true → in_loop ≡ true) → BlockFits in_loop (block_code made.block) point ends breaks turns
    pub answered : g.site.answers ≡ true → BlockAnswers made.block
    pub keeps : Keeps body.made.free point ends
    pub keeps_breaks : Keeps body.made.free point breaks
    pub keeps_turns : Keeps body.made.free point turns

  until_at : (b : Bool) (n : ℕ) → (if b then n else n) ≤ n
  until_at true n = omega arith
  until_at false n = omega arith

  pub part_nests : (r : Running) (t : Telling) (l : Layout) (ps : List Part) (written : Bool) (shape : Statement) (own : List Type_) → IsStatement g r t l ps written shape own → (s : Names) (start lo hi end : ℕ) (body : Body) (types : List Type_) (point : Point)
      → Scoped g s body.locals types body.made.free lo end → Stands g s body.locals point → s.next ≡ length body.locals → LaidOut start lo hi l → hi ≤ end → AllOf (IsKnown g) ps → written ≡ true → is_part shape ≡ true → Says g (t.notes s)
      → Makes (Nests t own s lo hi body types point) (branch r g.site body)
  part_nests r t l ps written shape own is s start lo hi end body types point scoped stands counted laid le known wr part said =
      let q = and_parts (not shape.declares) shape.fine part in
      let n = subst (LaidOut start lo hi) is.placed laid in
      let begun : Body = record body { made = empty body.made.free } in
      let a = n.0 in
      let b = n.3 in
      makes_then (Tells g s (after t s) r.span.from r.span.to (until g shape r.span.to r.span) r.span.to begun types own point) (Nests t own s lo hi body types point) (r.run g.site r.span.to begun) _
      (is.tells s r.span.to begun types point (scoped_within g s body.locals types body.made.free lo end r.span.from r.span.to a (omega (arith, b, le)) scoped) stands counted n.1 (omega arith) n.2 known wr q.1 said)
      (λ inner x. record {
        added = x.adds.added;
        added_types = x.adds.added_types;
        grown = x.adds.grown;
        typed = x.adds.typed;
        places = all_so (IsDeclared r.span.from (until g shape r.span.to r.span)) (IsDeclared lo hi)
            (λ local d. ((let p = d.0 in omega (arith, p, a)), (let p = d.1 in let u = until_at shape.declares r.span.to in omega (arith, p, u, b)))) x.adds.added x.adds.places;
        do_fit = λ begins. x.adds.do_fit (earlier inner.locals (types ++ x.adds.added_types) r.span.to hi b begins);
        most = x.adds.most;
        same = refl;
        names = is.names q.1 (no_declares shape.declares q.0) s;
        counted = x.counted;
        typed_own = x.typed;
        ends = x.adds.behind;
        breaks = x.adds.breaks_by None;
        turns = x.adds.turns_by None;
        block = λ begins few in_loop loops.
            block_fits in_loop inner.made x.adds.items point x.adds.behind x.adds.breaks_by x.adds.turns_by x.adds.appended (x.adds.leaves (earlier inner.locals (types ++ x.adds.added_types) r.span.to hi b begins) few in_loop loops);
        answered = λ asked. answered_block inner.made x.adds.items (x.adds.answered asked) x.adds.appended;
        keeps = x.adds.keeps;
        keeps_breaks = x.adds.keeps_breaks body.made.free point None (omega arith) (keeps_none body.made.free point) (none_known body.made.free point);
        keeps_turns = x.adds.keeps_turns body.made.free point None (omega arith) (keeps_none body.made.free point) (none_known body.made.free point);
      })
    where
      no_declares : (b : Bool) → not b ≡ true → b ≡ false
      no_declares true e = absurd (false≢true e)
      no_declares false e = refl

      earlier : (xs : List (Local × Span)) (ts : List Type_) (to more : ℕ) → to ≤ more → Begins g xs ts more → Begins g xs ts to
      earlier xs ts to more up b = record { later = b.later; later_types = b.later_types; locals = b.locals; types = b.types; behind = all_so (λ (l : Local × Span). more ≤ l.1.from) (λ (l : Local × Span). to ≤ l.1.from) (λ l x. omega (arith, x, up)) b.later b.behind }

  -- ---- what is behind a part

  -- locals that have ended leave the scope as it was
  pub closed_scope : (s t : Names) (xs ys : List (Local × Span)) (ts us : List Type_) (after_locals : List (Local × Span)) (free lo hi end : ℕ) → Scoped g s xs ts free lo end → t.world ≡ s.world → t.class ≡ s.class → t.in_constructor ≡ s.in_constructor
      → t.has_object ≡ s.has_object → t.names_fields ≡ s.names_fields → t.result ≡ s.result → t.names ≡ s.names → after_locals ≡ xs ++ ys → length us ≡ length ys → lo ≤ hi → AllOf (IsDeclared lo hi) ys → Scoped g t after_locals (ts ++ us) free hi end
  closed_scope s t xs ys ts us after_locals free lo hi end scoped world class constructor object fields result names grown typed le places =
      subst (λ l. Scoped g t l (ts ++ us) free hi end) (sym grown)
      (scoped_for g s t (xs ++ ys) (ts ++ us) free hi end world class constructor (λ e. sym object ∙ e) (λ e. sym fields ∙ e) result names
      (scoped_more g s xs ys ts us free lo end hi end scoped typed le (omega arith) (all_so (IsDeclared lo hi) (Rattle.ix_formed.specs.TypedStatements.Outside hi end) (λ l d. ended_outside hi end l d.1) ys places)))

  pub closed_stands : (s t : Names) (xs ys : List (Local × Span)) (ts : List Type_) (after_locals : List (Local × Span)) (free lo end : ℕ) (before behind : Point) → Scoped g s xs ts free lo end → t.has_object ≡ s.has_object → t.names ≡ s.names
      → after_locals ≡ xs ++ ys → Keeps free before behind → Stands g s xs before → Stands g t after_locals behind
  closed_stands s t xs ys ts after_locals free lo end before behind scoped object names grown keeps stands =
      subst (λ l. Stands g t l behind) (sym grown)
      (stands_for g s t (xs ++ ys) behind (λ e. sym object ∙ e) names (stands_more g s xs ys ts free lo end before behind scoped keeps (has_first g s xs ts free lo end scoped) stands))

  -- ---- choices

  -- where either of two jumps leads
  abbrev pub either_jump : Point → Point → Point → Point
  either_jump one other later = meeting one (meeting other later)

  pub either_passes : (base : ℕ) (point one other : Point) → Keeps base point one → Keeps base point other → Passes base point (either_jump one other)
  either_passes base point one other a b count kept x le known keeps =
      meeting_keeps count kept one (meeting other x) (keeps_both count base kept point one le known a) (meeting_keeps count kept other x (keeps_both count base kept point other le known b) keeps)

  pub if_leaves : (in_loop : Bool) (asked : Cond) (first second : Block) (point holds fails one other breaks_one breaks_other turns_one turns_other : Point) → Decides g.program g.method g.locals asked point holds fails
      → BlockFits in_loop (block_code first) holds one breaks_one turns_one → BlockFits in_loop (block_code second) fails other breaks_other turns_other
      → Leaves g in_loop (item.If asked first second ∷ []) point (meeting one other) (either_jump breaks_one breaks_other) (either_jump turns_one turns_other)
  if_leaves in_loop asked first second point holds fails one other breaks_one breaks_other turns_one turns_other d a b = record {
    fits = λ rest fit. ap (λ (w : Ways). w.fits) (reads rest)
        ∙ both_true (condition_ways g.program g.method g.locals (cond_code asked) point).fits _ d.fits
        (both_true (ways g in_loop (block_code first) holds).fits _ a.fits (both_true (ways g in_loop (block_code second) fails).fits _ b.fits (ap (λ q. (ways g in_loop rest q).fits) meets ∙ fit)));
    ends = λ rest. ap (λ (w : Ways). w.ends) (reads rest) ∙ ap (λ q. (ways g in_loop rest q).ends) meets;
    breaks = λ rest. ap (λ (w : Ways). w.breaks) (reads rest)
        ∙ ap (λ q. meeting q (meeting (ways g in_loop (block_code second) fails).breaks (ways g in_loop rest (meeting (ways g in_loop (block_code first) holds).ends (ways g in_loop (block_code second) fails).ends)).breaks)) a.breaks_at
        ∙ ap (λ q. meeting breaks_one (meeting q (ways g in_loop rest (meeting (ways g in_loop (block_code first) holds).ends (ways g in_loop (block_code second) fails).ends)).breaks)) b.breaks_at
        ∙ ap (λ q. meeting breaks_one (meeting breaks_other (ways g in_loop rest q).breaks)) meets;
    turns = λ rest. ap (λ (w : Ways). w.turns) (reads rest)
        ∙ ap (λ q. meeting q (meeting (ways g in_loop (block_code second) fails).turns (ways g in_loop rest (meeting (ways g in_loop (block_code first) holds).ends (ways g in_loop (block_code second) fails).ends)).turns)) a.turns_at
        ∙ ap (λ q. meeting turns_one (meeting q (ways g in_loop rest (meeting (ways g in_loop (block_code first) holds).ends (ways g in_loop (block_code second) fails).ends)).turns)) b.turns_at
        ∙ ap (λ q. meeting turns_one (meeting turns_other (ways g in_loop rest q).turns)) meets;
  }
    where
      meets : meeting (ways g in_loop (block_code first) holds).ends (ways g in_loop (block_code second) fails).ends ≡ meeting one other
      meets = ap (λ q. meeting q (ways g in_loop (block_code second) fails).ends) a.ends_at ∙ ap (meeting one) b.ends_at

      reads : (rest : Code) → ways g in_loop (code_before (item.If asked first second ∷ []) rest) point
          ≡ if_ways (record { fits = (condition_ways g.program g.method g.locals (cond_code asked) point).fits; holds = holds; fails = fails }) (λ at. ways g in_loop (block_code first) at) (λ at. ways g in_loop (block_code second) at) (λ at. ways g in_loop rest at)
      reads rest =
          ap (λ code. ways g in_loop code point) (item_code-If asked first second rest)
          ∙ ap (λ h. if_ways (record { fits = (condition_ways g.program g.method g.locals (cond_code asked) point).fits; holds = h; fails = (condition_ways g.program g.method g.locals (cond_code asked) point).fails }) (λ at. ways g in_loop (block_code first) at) (λ at. ways g in_loop (block_code second) at) (λ at. ways g in_loop rest at)) d.true_at
          ∙ ap (λ f. if_ways (record { fits = (condition_ways g.program g.method g.locals (cond_code asked) point).fits; holds = holds; fails = f }) (λ at. ways g in_loop (block_code first) at) (λ at. ways g in_loop (block_code second) at) (λ at. ways g in_loop rest at)) d.false_at

  -- ---- loops

  below_is : (slot count : ℕ) → slot < count → nat_lt slot count ≡ true
  below_is slot count lt = grind (arith, nat_tests)

  -- what is known of the slots in scope is known of them alone
  pub below_keeps : (count : ℕ) (point : Point) → Keeps count point (point_below count point)
  below_keeps count None slot lt ty known = tt
  below_keeps count (Some types) slot lt ty known = ap (λ b. if b then types slot else None) (below_is slot count lt) ∙ known

  -- a turn leaves what it began with
  pub keeps_is : (count : ℕ) (kept after : Point) → Keeps count kept after → keeps_types count after kept ≡ true
  keeps_is count kept None keeps = refl
  keeps_is count None (Some types) keeps = refl
  keeps_is count (Some kept) (Some types) keeps = each count (omega arith)
    where
      said : (o : Option Type_) (ty : Type_) (slot : ℕ) → types slot ≡ Some ty → says (types slot) (Some ty) ≡ true
      said o ty slot e = ap (λ k. says k (Some ty)) e ∙ same_itself ty

      one : (slot : ℕ) → slot < count → (o : Option Type_) → kept slot ≡ o → says (types slot) (kept slot) ≡ true
      one slot lt None e = ap (says (types slot)) e ∙ says_none (types slot)
        where
          says_none : (o : Option Type_) → says o None ≡ true
          says_none None = refl
          says_none (Some t) = refl
      one slot lt (Some ty) e = ap (says (types slot)) e ∙ said (types slot) ty slot (keeps slot lt ty e)

      each : (n : ℕ) → n ≤ count → says_below n types kept ≡ true
      each zero le = refl
      each (suc n) le = both_true (says (types n) (kept n)) (says_below n types kept) (one n (omega (arith, le)) (kept n) refl) (each n (omega (arith, le)))

  module _ (in_loop test_first : Bool) (asked : Cond) (body next : Block) (number scope : ℕ) (point : Point) where
    abbrev pub kept : Point
    kept = point_below scope point

    abbrev answers : Answers
    answers = condition_ways g.program g.method g.locals (cond_code asked) (point_below scope point)

    -- where a turn begins
    abbrev pub begins_at : Point
    begins_at = body_start test_first (condition_ways g.program g.method g.locals (cond_code asked) (point_below scope point)) (point_below scope point)

    abbrev pub inner : Ways
    inner = ways g true (block_code body) (body_start test_first (condition_ways g.program g.method g.locals (cond_code asked) (point_below scope point)) (point_below scope point))

    reads : (rest : Code) → ways g in_loop (code_before (item.Loop test_first asked body next number scope ∷ []) rest) point
        ≡ loop_ways scope kept (is_straight_condition (cond_code asked) && is_straight (block_code next)) answers inner (ways g false (block_code next) kept) (λ at. ways g in_loop rest at)
    reads rest = ap (λ code. ways g in_loop code point) (item_code-Loop test_first asked body next number scope rest)

    pub loop_leaves : (holds fails ends breaks turns update update_breaks update_turns : Point) → is_straight_condition (cond_code asked) ≡ true → is_straight (block_code next) ≡ true → Decides g.program g.method g.locals asked kept holds fails → Keeps scope kept holds
        → BlockFits true (block_code body) begins_at ends breaks turns → Keeps scope kept ends → Keeps scope kept turns → BlockFits false (block_code next) kept update update_breaks update_turns → Keeps scope kept update
        → Leaves g in_loop (item.Loop test_first asked body next number scope ∷ []) point (meeting fails breaks) (λ x. x) (λ x. x)
    loop_leaves holds fails ends breaks turns update update_breaks update_turns straight_asked straight_next d keeps_holds b keeps_ends keeps_turns u keeps_update = record {
      fits = λ rest fit. ap (λ (w : Ways). w.fits) (reads rest)
          ∙ both_true (answers.fits && (inner.fits && ((ways g false (block_code next) kept).fits && ((is_straight_condition (cond_code asked) && is_straight (block_code next))
          && (keeps_types scope answers.holds kept && (keeps_types scope (meeting inner.ends inner.turns) kept && keeps_types scope (ways g false (block_code next) kept).ends kept)))))) (ways g in_loop rest (meeting answers.fails inner.breaks)).fits
          (both_true answers.fits _ d.fits (both_true inner.fits _ b.fits (both_true (ways g false (block_code next) kept).fits _ u.fits
          (both_true (is_straight_condition (cond_code asked) && is_straight (block_code next)) _ (both_true (is_straight_condition (cond_code asked)) (is_straight (block_code next)) straight_asked straight_next)
          (both_true (keeps_types scope answers.holds kept) _ (keeps_is scope kept answers.holds (subst (Keeps scope kept) (sym d.true_at) keeps_holds))
          (both_true (keeps_types scope (meeting inner.ends inner.turns) kept) _
          (keeps_is scope kept (meeting inner.ends inner.turns) (meeting_keeps scope kept inner.ends inner.turns (subst (Keeps scope kept) (sym b.ends_at) keeps_ends) (subst (Keeps scope kept) (sym b.turns_at) keeps_turns)))
          (keeps_is scope kept (ways g false (block_code next) kept).ends (subst (Keeps scope kept) (sym u.ends_at) keeps_update))))))))
          (ap (λ q. (ways g in_loop rest q).fits) (leaves_at d) ∙ fit);
      ends = λ rest. ap (λ (w : Ways). w.ends) (reads rest) ∙ ap (λ q. (ways g in_loop rest q).ends) (leaves_at d);
      breaks = λ rest. ap (λ (w : Ways). w.breaks) (reads rest) ∙ ap (λ q. (ways g in_loop rest q).breaks) (leaves_at d);
      turns = λ rest. ap (λ (w : Ways). w.turns) (reads rest) ∙ ap (λ q. (ways g in_loop rest q).turns) (leaves_at d);
    }
      where
        leaves_at : Decides g.program g.method g.locals asked kept holds fails → meeting answers.fails inner.breaks ≡ meeting fails breaks
        leaves_at d = ap (λ q. meeting q inner.breaks) d.false_at ∙ ap (meeting fails) b.breaks_at

  -- ---- one item behind parts that made none

  abbrev pub closed_adds : (s : Names) (from to until : ℕ) (body : Body) (types : List Type_) (point q behind : Point) (breaks turns : Point → Point) (middle : Body) (last : Item) (a : Adds g s from to until body types q middle) → middle.made ≡ body.made → Keeps body.made.free point behind → Passes body.made.free point breaks
      → Passes body.made.free point turns → (g.site.answers ≡ true → WriteAnswers (last ∷ []))
      → (Begins g middle.locals (types ++ a.added_types) to → middle.most ≤ g.method.slots → (in_loop : Bool) → (s.in_loop ≡ true → in_loop ≡ true) → Leaves g in_loop (last ∷ []) point behind breaks turns)
      → Adds g s from to until body types point (with_last middle last)
  closed_adds s from to until body types point q behind breaks turns middle last a same keeps passes_breaks passes_turns answered leaves = record {
    added = a.added;
    added_types = a.added_types;
    grown = a.grown;
    typed = a.typed;
    places = a.places;
    do_fit = a.do_fit;
    most = a.most;
    up = (let e = ap (λ (m : Made). m.free) same in omega (arith, e));
    items = last ∷ [];
    appended = ap (λ (m : Made). m.items ++ last ∷ []) same;
    behind = behind;
    breaks_by = breaks;
    turns_by = turns;
    leaves = leaves;
    answered = answered;
    keeps = keeps;
    keeps_breaks = passes_breaks;
    keeps_turns = passes_turns;
  }

  -- a part makes no item
  abbrev pub nest_adds : (t : Telling) (own : List Type_) (s other : Names) (lo hi : ℕ) (body : Body) (types : List Type_) (point q : Point) (made : Inside) → Nests t own s lo hi body types point made → Adds g other lo hi hi body types q made.body
  nest_adds t own s other lo hi body types point q made n = record {
    added = n.added;
    added_types = n.added_types;
    grown = n.grown;
    typed = n.typed;
    places = n.places;
    do_fit = n.do_fit;
    most = n.most;
    up = (let e = ap (λ (m : Made). m.free) n.same in omega (arith, e));
    items = [];
    appended = ap (λ (m : Made). m.items) n.same ∙ sym (append-nil body.made.items);
    behind = q;
    breaks_by = λ x. x;
    turns_by = λ x. x;
    leaves = λ begins few in_loop loops. Rattle.ix_formed.proofs.TypedItems.leaves_none g in_loop q;
    answered = λ asked. answered_none;
    keeps = keeps_none body.made.free q;
    keeps_breaks = Rattle.ix_formed.proofs.TypedItems.none_passes g body.made.free q;
    keeps_turns = Rattle.ix_formed.proofs.TypedItems.none_passes g body.made.free q;
  }
