-- Choices and loops tell what they say.
use Rattle.std.proofs.Common.{◌≡◌, ◌≤◌, ◌<◌, ℕ, ◌+◌, Bool, true, false, List, [], ◌∷◌, ◌++◌, length, Option, Some, None, Ok, Err, refl, sym, ap, subst, ◌∙◌, arith, append_assoc}
use Rattle.std.specs.Prelude.{if◌then◌else◌, nat_lt}
use Rattle.std.proofs.lemmas.List.{append-nil}
use Rattle.ix_text.specs.declared.span.Span.{Span}
use Rattle.ix_core.specs.declared.claim.Type_.{Type_}
use Rattle.ix_core.specs.declared.code.Item.TheVariants as item
use Rattle.ix_core.specs.declared.program.Local.{Local}
use Rattle.ix_core.specs.Code.{block_code}
use Rattle.ix_core.specs.Types.{Point, meeting, point_below}
use Rattle.ix_tree.specs.declared.expr.Expr.{Expr}
use Rattle.ix_tree.specs.Parts as parts
use Rattle.ix_tree.specs.Parts.{Part, expr_parts}
use Rattle.ix_tree.specs.Placed as placed
use Rattle.ix_tree.specs.Placed.{Layout, nothing, LaidOut, row, expr_piece}
use Rattle.ix_meaning.specs.Bodies as bodies
use Rattle.ix_meaning.specs.Bodies.{Telling, after, then_told, noted_then, then_noted, looped, closed}
use Rattle.ix_meaning.specs.Scope.{Scope as Names}
use Rattle.ix_meaning.specs.declared.note.Which.TheVariants as which
use Rattle.ix_plain.specs.declared.body.Body.{Body}
use Rattle.ix_plain.specs.declared.made.Made.{Made}
use Rattle.ix_plain.specs.Parts.{◌>>=◌}
use Rattle.ix_plain.specs.Statements as statements
use Rattle.ix_plain.specs.Statements.{Running, Inside, Tested, tested, tested_if, with_last, branch, inside, in_loop, ran, no_block, most_loops}
use Rattle.ix_formed.specs.Additions.{Makes, AllOf, IsPlainCondition}
use Rattle.ix_formed.specs.Points.{Keeps, Decides}
use Rattle.ix_formed.specs.Readable.{shape, Statement, is_part}
use Rattle.ix_formed.specs.TypedParts.{IsStatement}
use Rattle.ix_formed.specs.TypedStatements.{Ground, IsGround, Says, IsKnown, Scoped, Stands, Begins, Passes, Adds, Tells}
use Rattle.ix_formed.specs.Written.{is_written_expr}
use Rattle.ix_formed.proofs.LayoutSpans.{laid_parts, laid_up, expr_spans, expr_single}
use Rattle.ix_formed.proofs.NumberLists.{all_so}
use Rattle.ix_formed.proofs.PlainItems.{makes_more, makes_then}
use Rattle.ix_formed.proofs.ScopedLocals.{scoped_within, scoped_for, stands_for, stands_more, has_first}
use Rattle.ix_formed.proofs.TypedBlocks.{BlockFits, no_block_fits, Nests, part_nests, none_known, closed_scope, closed_stands, either_jump, either_passes, if_leaves, below_keeps, loop_leaves, closed_adds, nest_adds}
use Rattle.ix_formed.proofs.TypedEvaluations.{IsRead, TestGives, condition_tested}
use Rattle.ix_formed.proofs.TypedForms.{parted, closed_tells}
use Rattle.ix_formed.proofs.TypedItems.{adds_both, adds_as, none_passes, begins_as, begins_middle}
use Rattle.ix_formed.proofs.TypedPoints.{keeps_none, keeps_both, meeting_keeps}
use Rattle.ix_formed.proofs.WrittenAnswers.{no_block_answers, answered_if, answered_loop}

module _ (g : Ground) (ground : IsGround g) where
  -- ---- an expression of a statement

  pub read_there : (e : Expr) (start lo hi : ℕ) → start ≤ lo → LaidOut start lo hi (expr_piece e) → AllOf (IsKnown g) (expr_parts e) → is_written_expr e ≡ true → (shape e).fine ≡ true → IsRead g ground start hi e
  read_there e start lo hi le laid known wr fine = record { spans = expr_spans e start lo hi le laid; known = known; written = wr; fine = fine }

  -- ---- a body that is another one so far

  pub scoped_same : (s : Names) (one other : Body) (types : List Type_) (lo hi : ℕ) → other.locals ≡ one.locals → other.made ≡ one.made → Scoped g s one.locals types one.made.free lo hi → Scoped g s other.locals types other.made.free lo hi
  scoped_same s one other types lo hi locals made scoped = subst (λ l. Scoped g s l types other.made.free lo hi) (sym locals) (subst (λ (m : Made). Scoped g s one.locals types m.free lo hi) (sym made) scoped)

  pub stands_same : (s : Names) (one other : Body) (point : Point) → other.locals ≡ one.locals → Stands g s one.locals point → Stands g s other.locals point
  stands_same s one other point locals stands = subst (λ l. Stands g s l point) (sym locals) stands

  abbrev pub adds_from : (s : Names) (from to until : ℕ) (one other : Body) (types : List Type_) (point : Point) (after_body : Body) → other.locals ≡ one.locals → other.made ≡ one.made → one.most ≤ other.most → Adds g s from to until other types point after_body
      → Adds g s from to until one types point after_body
  adds_from s from to until one other types point after_body locals made le a = record {
    added = a.added;
    added_types = a.added_types;
    grown = a.grown ∙ ap (λ l. l ++ a.added) locals;
    typed = a.typed;
    places = a.places;
    do_fit = λ begins. subst (λ (l : List (Local × Span)). Rattle.ix_formed.specs.TypedStatements.DoFit g (length l) a.added a.added_types) locals (a.do_fit begins);
    most = (let m = a.most in omega (arith, m, le));
    up = (let m = a.up in let e = ap (λ (m : Made). m.free) made in omega (arith, m, e));
    items = a.items;
    appended = a.appended ∙ ap (λ (m : Made). m.items ++ a.items) made;
    behind = a.behind;
    breaks_by = a.breaks_by;
    turns_by = a.turns_by;
    leaves = a.leaves;
    answered = a.answered;
    keeps = subst (λ (m : Made). Keeps m.free point a.behind) made a.keeps;
    keeps_breaks = subst (λ (m : Made). Passes m.free point a.breaks_by) made a.keeps_breaks;
    keeps_turns = subst (λ (m : Made). Passes m.free point a.turns_by) made a.keeps_turns;
  }

  -- and behind it a body that is as this one
  abbrev pub adds_to : (s : Names) (from to until : ℕ) (one : Body) (types : List Type_) (point : Point) (middle other : Body) → Adds g s from to until one types point middle → other.locals ≡ middle.locals → other.made ≡ middle.made → middle.most ≤ other.most
      → Adds g s from to until one types point other
  adds_to s from to until one types point middle other a locals made le = record {
    added = a.added;
    added_types = a.added_types;
    grown = locals ∙ a.grown;
    typed = a.typed;
    places = a.places;
    do_fit = λ begins. a.do_fit (begins_as g other.locals middle.locals (types ++ a.added_types) (types ++ a.added_types) to locals refl begins);
    most = (let m = a.most in omega (arith, m, le));
    up = (let m = a.up in let e = ap (λ (m : Made). m.free) made in omega (arith, m, e));
    items = a.items;
    appended = ap (λ (m : Made). m.items) made ∙ a.appended;
    behind = a.behind;
    breaks_by = a.breaks_by;
    turns_by = a.turns_by;
    leaves = λ begins few. a.leaves (begins_as g other.locals middle.locals (types ++ a.added_types) (types ++ a.added_types) to locals refl begins) (omega (arith, few, le));
    answered = a.answered;
    keeps = a.keeps;
    keeps_breaks = a.keeps_breaks;
    keeps_turns = a.keeps_turns;
  }

  -- an expression is laid out from where it begins
  pub restarted : (c : Expr) (start lo hi : ℕ) → LaidOut start lo hi (expr_piece c) → LaidOut lo lo hi (expr_piece c)
  restarted c start lo hi laid =
      let single = expr_single c in
      let n = subst (LaidOut start lo hi) single.1 laid in
      subst (LaidOut lo lo hi) (sym single.1) n

  -- what is known of the slots in scope
  pub below_stands : (s : Names) (locals : List (Local × Span)) (types : List Type_) (free lo hi : ℕ) (point : Point) → Scoped g s locals types free lo hi → Stands g s locals point → Stands g s locals (point_below free point)
  below_stands s locals types free lo hi point scoped stands =
      subst (λ l. Stands g s l (point_below free point)) (append-nil locals)
      (stands_more g s locals [] types free lo hi point (point_below free point) scoped (below_keeps g free point) (has_first g s locals types free lo hi scoped) stands)

  pub keeps_stands : (s : Names) (locals : List (Local × Span)) (types : List Type_) (free lo hi : ℕ) (before behind : Point) → Scoped g s locals types free lo hi → Keeps free before behind → Stands g s locals before → Stands g s locals behind
  keeps_stands s locals types free lo hi before behind scoped keeps stands =
      subst (λ l. Stands g s l behind) (append-nil locals) (stands_more g s locals [] types free lo hi before behind scoped keeps (has_first g s locals types free lo hi scoped) stands)

  pub earlier : (xs : List (Local × Span)) (ts : List Type_) (to more : ℕ) → to ≤ more → Begins g xs ts more → Begins g xs ts to
  earlier xs ts to more up b = record { later = b.later; later_types = b.later_types; locals = b.locals; types = b.types; behind = all_so (λ (l : Local × Span). more ≤ l.1.from) (λ (l : Local × Span). to ≤ l.1.from) (λ l x. omega (arith, x, up)) b.later b.behind }

  -- ---- conditions, wherever they are asked

  -- A condition was asked between two places, and made no item.
  pub record Asks (mid : ℕ) (body : Body) (types : List Type_) (q : Point) (asked : Tested) : Type 0 where
    pub holds : Point
    pub fails : Point
    pub locals : asked.body.locals ≡ body.locals
    pub made : asked.body.made ≡ body.made
    pub most : body.most ≤ asked.body.most
    pub plain : IsPlainCondition asked.cond
    pub decides : Begins g body.locals types mid → asked.body.most ≤ g.method.slots → Decides g.program g.method g.locals asked.cond q holds fails
    pub keeps_holds : Keeps body.made.free q holds
    pub keeps_fails : Keeps body.made.free q fails

  pub asks_is : (s : Names) (c : Expr) (start lo mid end : ℕ) (body : Body) (types : List Type_) (q : Point) → start ≤ lo → mid ≤ end → LaidOut start lo mid (expr_piece c) → Scoped g s body.locals types body.made.free start end → Stands g s body.locals q
      → AllOf (IsKnown g) (expr_parts c) → is_written_expr c ≡ true → (shape c).fine ≡ true → Says g (bodies.condition c s) → Makes (Asks mid body types q) (tested g.site c body)
  asks_is s c start lo mid end body types q le up laid scoped stands known wr fine said =
      let kept = scoped_within g s body.locals types body.made.free start end start mid (omega arith) up scoped in
      let read = read_there c start lo mid le laid known wr fine in
      makes_more (TestGives g ground s body types q start mid kept stands c read) (Asks mid body types q)
      (λ asked a. record { holds = a.holds; fails = a.fails; locals = a.locals; made = a.same; most = a.most; plain = a.plain; decides = a.decides; keeps_holds = a.keeps_holds; keeps_fails = a.keeps_fails })
      (tested g.site c body) (condition_tested g ground s body types q start mid kept stands c read said)

  -- without a condition it holds (JLS 14.14.1.2)
  pub asks_if : (s : Names) (o : Option Expr) (start lo mid end : ℕ) (body : Body) (types : List Type_) (q : Point) → start ≤ lo → mid ≤ end → LaidOut start lo mid (row (placed.maybe expr_piece o)) → Scoped g s body.locals types body.made.free start end
      → Stands g s body.locals q → AllOf (IsKnown g) (parts.maybe expr_parts o) → Rattle.ix_formed.specs.Written.maybe_true is_written_expr o ≡ true → Rattle.ix_formed.specs.Written.maybe_true Rattle.ix_formed.specs.Readable.is_readable_expr o ≡ true
      → Says g (bodies.condition_or_none o s) → Makes (Asks mid body types q) (tested_if o g.site body)
  asks_if s None start lo mid end body types q le up laid scoped stands known wr fine said = record {
    holds = q;
    fails = q;
    locals = refl;
    made = refl;
    most = omega arith;
    plain = record { straight = refl; supers = refl };
    decides = λ begins few. record { fits = refl; true_at = refl; false_at = refl };
    keeps_holds = keeps_none body.made.free q;
    keeps_fails = keeps_none body.made.free q;
  }
  asks_if s (Some c) start lo mid end body types q le up laid scoped stands known wr fine said =
      let w = laid_parts start lo mid (expr_piece c) nothing laid in
      let x = w.2 in
      makes_more (Asks w.0 body types q) (Asks mid body types q)
      (λ asked a. record { holds = a.holds; fails = a.fails; locals = a.locals; made = a.made; most = a.most; plain = a.plain; decides = λ begins. a.decides (earlier body.locals types w.0 mid x begins); keeps_holds = a.keeps_holds; keeps_fails = a.keeps_fails })
      (tested_if (Some c) g.site body) (asks_is s c start lo w.0 end body types q le (omega (arith, x, up)) w.1 scoped stands known wr fine said)

  -- what begins behind what is added begins where the parts began
  pub begins_back : (s : Names) (at from to until : ℕ) (one : Body) (types : List Type_) (point : Point) (other : Body) (a : Adds g s from to until one types point other) → at ≤ from → from ≤ to → Begins g other.locals (types ++ a.added_types) to → Begins g one.locals types at
  begins_back s at from to until one types point other a le up begins =
      earlier one.locals types at from le (begins_middle g s from from to until one types point other a up begins)

  -- a part behind a condition or another part, where a body is as another so far
  pub nest_on : (s : Names) (r : Running) (t : Telling) (l : Layout) (ps : List Part) (written : Bool) (sh : Statement) (own : List Type_) → IsStatement g r t l ps written sh own → (start lo hi end : ℕ) (one other : Body) (types : List Type_) (point : Point) → other.locals ≡ one.locals → other.made ≡ one.made
      → Scoped g s one.locals types one.made.free lo end → Stands g s one.locals point → s.next ≡ length one.locals → LaidOut start lo hi l → hi ≤ end → AllOf (IsKnown g) ps → written ≡ true → is_part sh ≡ true → Says g (t.notes s)
      → Makes (λ (made : Inside). Nests g t own s lo hi other types point made × (made.body.made ≡ one.made)) (branch r g.site other)
  nest_on s r t l ps written sh own is start lo hi end one other types point locals made scoped stands counted laid le known wr part said =
      makes_more (Nests g t own s lo hi other types point) (λ (x : Inside). Nests g t own s lo hi other types point x × (x.body.made ≡ one.made)) (λ x n. (n, n.same ∙ made)) (branch r g.site other)
      (part_nests g r t l ps written sh own is s start lo hi end other types point (scoped_same s one other types lo end locals made scoped) (stands_same s one other point locals stands)
      (counted ∙ sym (ap (λ (x : List (Local × Span)). length x) locals)) laid le known wr part said)

  -- the points that a part leads to, for the slots of the body
  pub same_free : (one other : Body) (before behind : Point) → other.made ≡ one.made → Keeps other.made.free before behind → Keeps one.made.free before behind
  same_free one other before behind made keeps = subst (λ (m : Made). Keeps m.free before behind) made keeps

  -- ---- choices (JLS 14.9)

  module _ (c : Expr) (r : Running) (t : Telling) (l : Layout) (ps : List Part) (written : Bool) (sh : Statement) (own : List Type_) (part : IsStatement g r t l ps written sh own) (part_fine : is_part sh ≡ true) (part_written : written ≡ true) (part_known : AllOf (IsKnown g) ps)
      (known : AllOf (IsKnown g) (expr_parts c)) (wr : is_written_expr c ≡ true) (fine : (shape c).fine ≡ true) (s : Names) (span : Span) (end : ℕ) (body : Body) (types : List Type_) (point : Point)
      (scoped : Scoped g s body.locals types body.made.free span.from end) (stands : Stands g s body.locals point) (counted : s.next ≡ length body.locals) (some : span.from < span.to) (le : span.to ≤ end) where
    -- without an `else`
    pub if_tells : LaidOut span.from span.from span.to (row (expr_piece c ∷ l ∷ [])) → Says g (bodies.condition c s ++ t.notes s)
        → Makes (Tells g s (after (noted_then (bodies.condition c) t) s) span.from span.to span.to end body types own point) (statements.chosen c r None g.site body)
    if_tells laid said =
        let q = laid_parts span.from span.from span.to (expr_piece c) (row (l ∷ [])) laid in
        let w = laid_parts span.from q.0 span.to l nothing q.2 in
        let up = laid_up span.from span.from q.0 (expr_piece c) q.1 in
        let more = laid_up span.from q.0 w.0 l w.1 in
        let last = w.2 in
        let n = parted g ground (bodies.condition c s) (t.notes s) said in
        makes_then (Asks q.0 body types point) (Tells g s (after (noted_then (bodies.condition c) t) s) span.from span.to span.to end body types own point) (tested g.site c body) _
        (asks_is s c span.from span.from q.0 end body types point (omega arith) (omega (arith, more, last, le)) q.1 scoped stands known wr fine n.0)
        (λ asked a. makes_then (λ (x : Inside). Nests g t own s q.0 w.0 asked.body types a.holds x × (x.body.made ≡ body.made)) (Tells g s (after (noted_then (bodies.condition c) t) s) span.from span.to span.to end body types own point) (branch r g.site asked.body) _
        (nest_on s r t l ps written sh own part span.from q.0 w.0 end body asked.body types a.holds a.locals a.made (scoped_within g s body.locals types body.made.free span.from end q.0 end up (omega arith) scoped)
        (keeps_stands s body.locals types body.made.free span.from end point a.holds scoped a.keeps_holds stands) counted w.1 (omega (arith, last, le)) part_known part_written part_fine n.1)
        (λ inner x.
        let first = adds_from s q.0 w.0 w.0 body asked.body types point inner.body a.locals a.made a.most (nest_adds g t own s s q.0 w.0 asked.body types a.holds point inner x.0) in
        let ends = meeting x.0.ends a.fails in
        let keeps_ends = keeps_both body.made.free body.made.free point a.holds x.0.ends (omega arith) a.keeps_holds (same_free body asked.body a.holds x.0.ends a.made x.0.keeps) in
        let keeps_breaks = keeps_both body.made.free body.made.free point a.holds x.0.breaks (omega arith) a.keeps_holds (same_free body asked.body a.holds x.0.breaks a.made x.0.keeps_breaks) in
        let keeps_turns = keeps_both body.made.free body.made.free point a.holds x.0.turns (omega arith) a.keeps_holds (same_free body asked.body a.holds x.0.turns a.made x.0.keeps_turns) in
        let chosen = item.If asked.cond inner.block (record { items = [] }) in
        let nowhere = none_known g body.made.free point in
        closed_tells g ground (noted_then (bodies.condition c) t) s span.from span.to end body types point (with_last inner.body chosen) scoped stands x.0.names (omega (arith, some))
        (adds_as g s q.0 w.0 w.0 span.from span.to span.to body types point (with_last inner.body chosen) up last last
        (closed_adds g s q.0 w.0 w.0 body types point point ends (either_jump g x.0.breaks None) (either_jump g x.0.turns None) inner.body chosen first x.1
        (meeting_keeps body.made.free point x.0.ends a.fails keeps_ends a.keeps_fails) (either_passes g body.made.free point x.0.breaks None keeps_breaks nowhere) (either_passes g body.made.free point x.0.turns None keeps_turns nowhere)
        (λ answers. answered_if asked.cond inner.block (record { items = [] }) (x.0.answered answers) (no_block_answers (record { items = [] }) refl))
        (λ begins few in_loop loops.
        if_leaves g in_loop asked.cond inner.block (record { items = [] }) point a.holds a.fails x.0.ends a.fails x.0.breaks None x.0.turns None
        (a.decides (begins_back s q.0 q.0 w.0 w.0 body types point inner.body first (omega arith) more begins) (let m = x.0.most in omega (arith, few, m)))
        (x.0.block begins few in_loop loops) (no_block_fits g in_loop a.fails))))
        (ap (λ (m : Made). m.free) x.1) x.0.counted own x.0.typed_own))

    -- with one
    module _ (r2 : Running) (t2 : Telling) (l2 : Layout) (ps2 : List Part) (written2 : Bool) (sh2 : Statement) (own2 : List Type_) (part2 : IsStatement g r2 t2 l2 ps2 written2 sh2 own2) (part_fine2 : is_part sh2 ≡ true) (part_written2 : written2 ≡ true) (part_known2 : AllOf (IsKnown g) ps2) where
      pub else_tells : LaidOut span.from span.from span.to (row (expr_piece c ∷ l ∷ l2 ∷ [])) → Says g (bodies.condition c s ++ (then_told t t2).notes s)
          → Makes (Tells g s (after (noted_then (bodies.condition c) (then_told t t2)) s) span.from span.to span.to end body types (own ++ own2) point) (statements.chosen c r (Some r2) g.site body)
      else_tells laid said =
          let told = noted_then (bodies.condition c) (then_told t t2) in
          let q = laid_parts span.from span.from span.to (expr_piece c) (row (l ∷ l2 ∷ [])) laid in
          let w = laid_parts span.from q.0 span.to l (row (l2 ∷ [])) q.2 in
          let v = laid_parts span.from w.0 span.to l2 nothing w.2 in
          let up = laid_up span.from span.from q.0 (expr_piece c) q.1 in
          let more = laid_up span.from q.0 w.0 l w.1 in
          let further = laid_up span.from w.0 v.0 l2 v.1 in
          let last = v.2 in
          let n = parted g ground (bodies.condition c s) ((then_told t t2).notes s) said in
          let m = parted g ground (t.notes s) (t2.notes (after t s)) n.1 in
          makes_then (Asks q.0 body types point) (Tells g s (after told s) span.from span.to span.to end body types (own ++ own2) point) (tested g.site c body) _
          (asks_is s c span.from span.from q.0 end body types point (omega arith) (omega (arith, more, further, last, le)) q.1 scoped stands known wr fine n.0)
          (λ asked a. makes_then (λ (x : Inside). Nests g t own s q.0 w.0 asked.body types a.holds x × (x.body.made ≡ body.made)) (Tells g s (after told s) span.from span.to span.to end body types (own ++ own2) point) (branch r g.site asked.body) _
          (nest_on s r t l ps written sh own part span.from q.0 w.0 end body asked.body types a.holds a.locals a.made (scoped_within g s body.locals types body.made.free span.from end q.0 end up (omega arith) scoped)
          (keeps_stands s body.locals types body.made.free span.from end point a.holds scoped a.keeps_holds stands) counted w.1 (omega (arith, further, last, le)) part_known part_written part_fine m.0)
          (λ inner x.
          let first = adds_from s q.0 w.0 w.0 body asked.body types point inner.body a.locals a.made a.most (nest_adds g t own s s q.0 w.0 asked.body types a.holds point inner x.0) in
          let scoped_two = closed_scope g s (after t s) body.locals first.added types first.added_types inner.body.locals body.made.free q.0 w.0 end (scoped_within g s body.locals types body.made.free span.from end q.0 end up (omega arith) scoped)
          refl refl refl refl refl refl x.0.names first.grown first.typed more first.places in
          let stands_two = closed_stands g s (after t s) body.locals first.added types inner.body.locals body.made.free span.from end point a.fails scoped refl x.0.names first.grown a.keeps_fails stands in
          makes_then (λ (y : Inside). Nests g t2 own2 (after t s) w.0 v.0 inner.body (types ++ first.added_types) a.fails y × (y.body.made ≡ inner.body.made)) (Tells g s (after told s) span.from span.to span.to end body types (own ++ own2) point) (branch r2 g.site inner.body) _
          (nest_on (after t s) r2 t2 l2 ps2 written2 sh2 own2 part2 span.from w.0 v.0 end inner.body inner.body (types ++ first.added_types) a.fails refl refl
          (subst (λ (z : Made). Scoped g (after t s) inner.body.locals (types ++ first.added_types) z.free w.0 end) (sym x.1) scoped_two) stands_two x.0.counted v.1 (omega (arith, last, le)) part_known2 part_written2 part_fine2 m.1)
          (λ other y.
          let second = nest_adds g t2 own2 (after t s) s w.0 v.0 inner.body (types ++ first.added_types) a.fails point other y.0 in
          let first_up = adds_as g s q.0 w.0 w.0 q.0 w.0 v.0 body types point inner.body (omega arith) (omega arith) further first in
          let both = adds_both g s s q.0 w.0 v.0 v.0 body types point inner.body other.body first_up second (λ e. e) more further in
          let same = y.1 ∙ x.1 in
          let on_holds : (p : Point) → Keeps asked.body.made.free a.holds p → Keeps body.made.free point p = λ p k. keeps_both body.made.free body.made.free point a.holds p (omega arith) a.keeps_holds (same_free body asked.body a.holds p a.made k) in
          let on_fails : (p : Point) → Keeps inner.body.made.free a.fails p → Keeps body.made.free point p = λ p k. keeps_both body.made.free body.made.free point a.fails p (omega arith) a.keeps_fails (same_free body inner.body a.fails p x.1 k) in
          let chosen = item.If asked.cond inner.block other.block in
          closed_tells g ground told s span.from span.to end body types point (with_last other.body chosen) scoped stands (y.0.names ∙ x.0.names) (omega (arith, some))
          (adds_as g s q.0 v.0 v.0 span.from span.to span.to body types point (with_last other.body chosen) up last last
          (closed_adds g s q.0 v.0 v.0 body types point point (meeting x.0.ends y.0.ends) (either_jump g x.0.breaks y.0.breaks) (either_jump g x.0.turns y.0.turns) other.body chosen both same
          (meeting_keeps body.made.free point x.0.ends y.0.ends (on_holds x.0.ends x.0.keeps) (on_fails y.0.ends y.0.keeps))
          (either_passes g body.made.free point x.0.breaks y.0.breaks (on_holds x.0.breaks x.0.keeps_breaks) (on_fails y.0.breaks y.0.keeps_breaks))
          (either_passes g body.made.free point x.0.turns y.0.turns (on_holds x.0.turns x.0.keeps_turns) (on_fails y.0.turns y.0.keeps_turns))
          (λ answers. answered_if asked.cond inner.block other.block (x.0.answered answers) (y.0.answered answers))
          (λ begins few in_loop loops.
          let whole = begins_as g other.body.locals other.body.locals (types ++ (first.added_types ++ second.added_types)) ((types ++ first.added_types) ++ second.added_types) v.0 refl (sym (append_assoc types first.added_types second.added_types)) begins in
          let middle = begins_back s w.0 w.0 v.0 v.0 inner.body (types ++ first.added_types) point other.body second (omega arith) further whole in
          let few_inner : inner.body.most ≤ g.method.slots = (let z = y.0.most in omega (arith, few, z)) in
          if_leaves g in_loop asked.cond inner.block other.block point a.holds a.fails x.0.ends y.0.ends x.0.breaks y.0.breaks x.0.turns y.0.turns
          (a.decides (begins_back s q.0 q.0 w.0 w.0 body types point inner.body first (omega arith) more middle) (let z = x.0.most in omega (arith, few_inner, z)))
          (x.0.block middle few_inner in_loop loops) (y.0.block whole few in_loop loops))))
          (ap (λ (z : Made). z.free) same) (let z = y.0.counted in omega (arith, z)) (own ++ own2) (ap (λ l. l ++ y.0.added_types) x.0.typed_own ∙ ap (λ l. own ++ l) y.0.typed_own))))

    -- ---- `while` (JLS 14.12)

    pub while_tells : LaidOut span.from span.from span.to (row (expr_piece c ∷ l ∷ [])) → Says g (bodies.condition c s ++ t.notes (bodies.inside s))
        → Makes (Tells g s (after (noted_then (bodies.condition c) (looped t)) s) span.from span.to span.to end body types own point) (statements.while c r g.site body)
    while_tells laid said = by_room (nat_lt body.loops most_loops)
      where
        by_room : (b : Bool) → Makes (Tells g s (after (noted_then (bodies.condition c) (looped t)) s) span.from span.to span.to end body types own point)
            ((if b then Ok (record body { loops = body.loops + 1 }) else Err which.Loops) >>= (λ begun. tested g.site c begun >>= (λ asked. branch r g.site asked.body >>= (λ turn. Ok (with_last turn.body (item.Loop true asked.cond turn.block no_block body.loops body.made.free))))))
        by_room false = tt
        by_room true =
            let told = noted_then (bodies.condition c) (looped t) in
            let begun : Body = record body { loops = body.loops + 1 } in
            let q = laid_parts span.from span.from span.to (expr_piece c) (row (l ∷ [])) laid in
            let w = laid_parts span.from q.0 span.to l nothing q.2 in
            let up = laid_up span.from span.from q.0 (expr_piece c) q.1 in
            let more = laid_up span.from q.0 w.0 l w.1 in
            let last = w.2 in
            let n = parted g ground (bodies.condition c s) (t.notes (bodies.inside s)) said in
            let free = body.made.free in
            let kept = point_below free point in
            let stands_kept = below_stands s body.locals types free span.from end point scoped stands in
            makes_then (Asks q.0 begun types kept) (Tells g s (after told s) span.from span.to span.to end body types own point) (tested g.site c begun) _
            (asks_is s c span.from span.from q.0 end begun types kept (omega arith) (omega (arith, more, last, le)) q.1 scoped stands_kept known wr fine n.0)
            (λ asked a. makes_then (λ (x : Inside). Nests g t own (bodies.inside s) q.0 w.0 asked.body types a.holds x × (x.body.made ≡ begun.made)) (Tells g s (after told s) span.from span.to span.to end body types own point) (branch r g.site asked.body) _
            (nest_on (bodies.inside s) r t l ps written sh own part span.from q.0 w.0 end begun asked.body types a.holds a.locals a.made
            (scoped_for g s (bodies.inside s) body.locals types free q.0 end refl refl refl (λ e. e) (λ e. e) refl refl (scoped_within g s body.locals types free span.from end q.0 end up (omega arith) scoped))
            (stands_for g s (bodies.inside s) body.locals a.holds (λ e. e) refl (keeps_stands s body.locals types free span.from end kept a.holds scoped a.keeps_holds stands_kept)) counted w.1 (omega (arith, last, le)) part_known part_written part_fine n.1)
            (λ inner x.
            let first = adds_from s q.0 w.0 w.0 body asked.body types point inner.body a.locals a.made a.most (nest_adds g t own (bodies.inside s) s q.0 w.0 asked.body types a.holds point inner x.0) in
            let on_holds : (p : Point) → Keeps asked.body.made.free a.holds p → Keeps free kept p = λ p k. keeps_both free free kept a.holds p (omega arith) a.keeps_holds (same_free begun asked.body a.holds p a.made k) in
            let below = below_keeps g free point in
            let ends = meeting a.fails x.0.breaks in
            let loop = item.Loop true asked.cond inner.block no_block body.loops free in
            closed_tells g ground told s span.from span.to end body types point (with_last inner.body loop) scoped stands x.0.names (omega (arith, some))
            (adds_as g s q.0 w.0 w.0 span.from span.to span.to body types point (with_last inner.body loop) up last last
            (closed_adds g s q.0 w.0 w.0 body types point point ends (λ z. z) (λ z. z) inner.body loop first x.1
            (keeps_both free free point kept ends (omega arith) below (meeting_keeps free kept a.fails x.0.breaks a.keeps_fails (on_holds x.0.breaks x.0.keeps_breaks))) (none_passes g free point) (none_passes g free point)
            (λ answers. answered_loop true asked.cond inner.block no_block body.loops free (x.0.answered answers))
            (λ begins few in_loop loops.
            let decides = a.decides (begins_back s q.0 q.0 w.0 w.0 body types point inner.body first (omega arith) more begins) (let m = x.0.most in omega (arith, few, m)) in
            loop_leaves g in_loop true asked.cond inner.block no_block body.loops free point a.holds a.fails x.0.ends x.0.breaks x.0.turns kept None None a.plain.straight refl decides a.keeps_holds
            (subst (λ at. BlockFits g true (block_code inner.block) at x.0.ends x.0.breaks x.0.turns) (sym decides.true_at) (x.0.block begins few true (λ e. refl)))
            (on_holds x.0.ends x.0.keeps) (on_holds x.0.turns x.0.keeps_turns) (no_block_fits g false kept) (keeps_none free kept))))
            (ap (λ (m : Made). m.free) x.1) x.0.counted own x.0.typed_own))

    -- ---- `do` (JLS 14.13)

    pub do_tells : LaidOut span.from span.from span.to (row (l ∷ expr_piece c ∷ [])) → Says g (t.notes (bodies.inside s) ++ bodies.condition c (after (looped t) s))
        → Makes (Tells g s (after (then_noted (looped t) (bodies.condition c)) s) span.from span.to span.to end body types own point) (statements.do_while r c g.site body)
    do_tells laid said = by_room (nat_lt body.loops most_loops)
      where
        by_room : (b : Bool) → Makes (Tells g s (after (then_noted (looped t) (bodies.condition c)) s) span.from span.to span.to end body types own point)
            ((if b then Ok (record body { loops = body.loops + 1 }) else Err which.Loops) >>= (λ begun. branch r g.site begun >>= (λ turn. tested g.site c turn.body >>= (λ asked. Ok (with_last asked.body (item.Loop false asked.cond turn.block no_block body.loops body.made.free))))))
        by_room false = tt
        by_room true =
            let told = then_noted (looped t) (bodies.condition c) in
            let begun : Body = record body { loops = body.loops + 1 } in
            let w = laid_parts span.from span.from span.to l (row (expr_piece c ∷ [])) laid in
            let q = laid_parts span.from w.0 span.to (expr_piece c) nothing w.2 in
            let more = laid_up span.from span.from w.0 l w.1 in
            let up = laid_up span.from w.0 q.0 (expr_piece c) q.1 in
            let last = q.2 in
            let n = parted g ground (t.notes (bodies.inside s)) (bodies.condition c (after (looped t) s)) said in
            let free = body.made.free in
            let kept = point_below free point in
            let stands_kept = below_stands s body.locals types free span.from end point scoped stands in
            makes_then (λ (x : Inside). Nests g t own (bodies.inside s) span.from w.0 begun types kept x × (x.body.made ≡ begun.made)) (Tells g s (after told s) span.from span.to span.to end body types own point) (branch r g.site begun) _
            (nest_on (bodies.inside s) r t l ps written sh own part span.from span.from w.0 end begun begun types kept refl refl
            (scoped_for g s (bodies.inside s) body.locals types free span.from end refl refl refl (λ e. e) (λ e. e) refl refl scoped)
            (stands_for g s (bodies.inside s) body.locals kept (λ e. e) refl stands_kept) counted w.1 (omega (arith, up, last, le)) part_known part_written part_fine n.0)
            (λ inner x.
            let first = adds_from s span.from w.0 w.0 body begun types point inner.body refl refl (omega arith) (nest_adds g t own (bodies.inside s) s span.from w.0 begun types kept point inner x.0) in
            let scoped_two = closed_scope g s (after (looped t) s) body.locals first.added types first.added_types inner.body.locals free span.from w.0 end scoped refl refl refl refl refl refl x.0.names first.grown first.typed more first.places in
            let stands_two = closed_stands g s (after (looped t) s) body.locals first.added types inner.body.locals free span.from end kept kept scoped refl x.0.names first.grown (keeps_none free kept) stands_kept in
            makes_then (Asks q.0 inner.body (types ++ first.added_types) kept) (Tells g s (after told s) span.from span.to span.to end body types own point) (tested g.site c inner.body) _
            (asks_is (after (looped t) s) c w.0 w.0 q.0 end inner.body (types ++ first.added_types) kept (omega arith) (omega (arith, last, le)) (restarted c span.from w.0 q.0 q.1)
            (subst (λ (z : Made). Scoped g (after (looped t) s) inner.body.locals (types ++ first.added_types) z.free w.0 end) (sym x.1) scoped_two) stands_two known wr fine n.1)
            (λ asked a.
            let same = a.made ∙ x.1 in
            let second = adds_as g s span.from w.0 w.0 span.from w.0 w.0 body types point inner.body (omega arith) (omega arith) (omega arith) first in
            let all = adds_to s span.from w.0 w.0 body types point inner.body asked.body second a.locals a.made a.most in
            let below = below_keeps g free point in
            let ends = meeting a.fails x.0.breaks in
            let loop = item.Loop false asked.cond inner.block no_block body.loops free in
            closed_tells g ground told s span.from span.to end body types point (with_last asked.body loop) scoped stands x.0.names (omega (arith, some))
            (adds_as g s span.from q.0 w.0 span.from span.to span.to body types point (with_last asked.body loop) (omega arith) last (omega (arith, up, last))
            (closed_adds g s span.from q.0 w.0 body types point point ends (λ z. z) (λ z. z) asked.body loop (adds_as g s span.from w.0 w.0 span.from q.0 w.0 body types point asked.body (omega arith) up (omega arith) all) same
            (keeps_both free free point kept ends (omega arith) below (meeting_keeps free kept a.fails x.0.breaks (subst (λ (z : Made). Keeps z.free kept a.fails) x.1 a.keeps_fails) x.0.keeps_breaks)) (none_passes g free point) (none_passes g free point)
            (λ answers. answered_loop false asked.cond inner.block no_block body.loops free (x.0.answered answers))
            (λ begins few in_loop loops.
            let b = begins_as g asked.body.locals inner.body.locals (types ++ first.added_types) (types ++ first.added_types) q.0 a.locals refl begins in
            let decides = a.decides b few in
            loop_leaves g in_loop false asked.cond inner.block no_block body.loops free point a.holds a.fails x.0.ends x.0.breaks x.0.turns kept None None a.plain.straight refl decides (subst (λ (z : Made). Keeps z.free kept a.holds) x.1 a.keeps_holds)
            (x.0.block (earlier inner.body.locals (types ++ first.added_types) w.0 q.0 up b) (let m = a.most in omega (arith, few, m)) true (λ e. refl)) x.0.keeps x.0.keeps_turns (no_block_fits g false kept) (keeps_none free kept))))
            (ap (λ (m : Made). m.free) same) (x.0.counted ∙ sym (ap (λ (z : List (Local × Span)). length z) a.locals)) own x.0.typed_own))
