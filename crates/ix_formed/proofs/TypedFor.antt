-- `for` and sequences of statements tell what they say.
use Rattle.std.proofs.Common.{◌≡◌, ◌≤◌, ◌<◌, ℕ, ◌+◌, max, Bool, true, false, List, [], ◌∷◌, ◌++◌, length, map, Option, Some, None, Ok, Err, refl, sym, ap, subst, ◌∙◌, arith, append_assoc}
use Rattle.std.specs.Prelude.{if◌then◌else◌, nat_lt}
use Rattle.std.proofs.lemmas.Bool.{and_parts}
use Rattle.std.proofs.lemmas.List.{append-nil}
use Rattle.ix_text.specs.declared.span.Span.{Span}
use Rattle.ix_core.specs.declared.claim.Type_.{Type_}
use Rattle.ix_core.specs.declared.code.Item.{Item}
use Rattle.ix_core.specs.declared.code.Item.TheVariants as item
use Rattle.ix_core.specs.declared.program.Local.{Local}
use Rattle.ix_core.specs.Code.{block_code}
use Rattle.ix_core.specs.Formed.{is_straight}
use Rattle.ix_core.specs.Types.{Point, meeting, point_below}
use Rattle.ix_tree.specs.declared.expr.Expr.{Expr}
use Rattle.ix_tree.specs.Parts as parts
use Rattle.ix_tree.specs.Parts.{Part, expr_parts, together}
use Rattle.ix_tree.specs.Placed as placed
use Rattle.ix_tree.specs.Placed.{Layout, nothing, node, LaidOut, row, expr_piece}
use Rattle.ix_meaning.specs.declared.note.Which.TheVariants as which
use Rattle.ix_meaning.specs.Bodies as bodies
use Rattle.ix_meaning.specs.Bodies.{Telling, after, then_told, noted_then, looped, closed, all_told}
use Rattle.ix_meaning.specs.Scope.{Scope as Names}
use Rattle.ix_plain.specs.declared.body.Body.{Body}
use Rattle.ix_plain.specs.declared.made.Made.{Made}
use Rattle.ix_plain.specs.Parts.{◌>>=◌, empty}
use Rattle.ix_plain.specs.Statements as statements
use Rattle.ix_plain.specs.Statements.{Running, Inside, tested_if, with_last, with_free, branch, inside, all_ran, ran, evaluated, most_loops}
use Rattle.ix_formed.specs.Additions.{Makes, AllOf, IsPlain}
use Rattle.ix_formed.specs.LocalTypes.{joined}
use Rattle.ix_formed.specs.Points.{Keeps, Leads}
use Rattle.ix_formed.specs.Readable.{Statement, is_part, each_fine, is_readable_expr}
use Rattle.ix_formed.specs.TypedParts.{IsStatement, until}
use Rattle.ix_formed.specs.TypedStatements.{Ground, IsGround, Says, IsKnown, Scoped, Stands, Begins, IsDeclared, Adds, Tells}
use Rattle.ix_formed.specs.Written.{is_written_expr, maybe_true, each_true, all_true}
use Rattle.ix_formed.proofs.LayoutSpans.{laid_parts, laid_up}
use Rattle.ix_formed.proofs.NumberLists.{all_so}
use Rattle.ix_formed.proofs.PlainItems.{makes_more, makes_then, plain_none, plain_both, plain_block}
use Rattle.ix_formed.proofs.ScopedLocals.{scoped_within, scoped_for, scoped_more, stands_for, stands_more, has_first, later_outside}
use Rattle.ix_formed.proofs.TypedBlocks.{BlockFits, block_fits, Nests, below_keeps, loop_leaves, closed_adds, nest_adds}
use Rattle.ix_formed.proofs.TypedEvaluations.{value_judged}
use Rattle.ix_formed.proofs.TypedExpressions.{all_parted}
use Rattle.ix_formed.proofs.TypedForms.{parted, after_both, tells_both, none_declared, closed_tells}
use Rattle.ix_formed.proofs.TypedItems.{Evaluates, adds_both, adds_as, leads_leave, none_passes, no_jump, begins_as}
use Rattle.ix_formed.proofs.TypedLoops.{Asks, asks_if, read_there, below_stands, keeps_stands, earlier, begins_back, nest_on, same_free, adds_from, adds_to}
use Rattle.ix_formed.proofs.TypedPoints.{keeps_none, keeps_both, meeting_keeps, leads_none, leads_both}
use Rattle.ix_formed.proofs.WrittenAnswers.{answered_loop}

module _ (g : Ground) (ground : IsGround g) where
  -- ---- one statement behind the other

  -- statements that fit, as they are laid out
  abbrev pub AreStatements : List Running → List Telling → List Layout → List (List Part) → List Bool → List Statement → List (List Type_) → Type 0
  AreStatements [] [] [] [] [] [] [] = Unit {0}
  AreStatements (r ∷ rs) (t ∷ ts) (l ∷ ls) (ps ∷ pss) (w ∷ ws) (sh ∷ shs) (own ∷ owns) = IsStatement g r t l ps w sh own × AreStatements rs ts ls pss ws shs owns
  AreStatements _ _ _ _ _ _ _ = ⊥

  until_most : (b : Bool) (end to : ℕ) → to ≤ end → (if b then end else to) ≤ end
  until_most true end to le = omega arith
  until_most false end to le = le

  pub each_tells : (rs : List Running) (ts : List Telling) (ls : List Layout) (pss : List (List Part)) (ws : List Bool) (shs : List Statement) (owns : List (List Type_)) → AreStatements rs ts ls pss ws shs owns → (s : Names) (start lo hi end : ℕ) (body : Body) (types : List Type_) (point : Point)
      → Scoped g s body.locals types body.made.free lo end → Stands g s body.locals point → s.next ≡ length body.locals → LaidOut start lo hi (row ls) → hi ≤ end → AllOf (IsKnown g) (together pss) → all_true ws ≡ true → each_fine shs ≡ true
      → Says g ((all_told ts).notes s) → Makes (Tells g s (after (all_told ts) s) lo hi end end body types (joined owns) point) (statements.each rs g.site end body)
  each_tells [] [] [] [] [] [] [] all s start lo hi end body types point scoped stands counted laid le known wr fine said = none_declared g ground s lo hi end body types point scoped stands counted laid
  each_tells (r ∷ rs) (t ∷ ts) (l ∷ ls) (ps ∷ pss) (w ∷ ws) (sh ∷ shs) (own_types ∷ owns) all s start lo hi end body types point scoped stands counted laid le known wr fine said =
      let q = laid_parts start lo hi l (row ls) laid in
      let own = subst (LaidOut start lo q.0) all.0.placed q.1 in
      let rest = laid_up start q.0 hi (row ls) q.2 in
      let k = all_parted (IsKnown g) ps (together pss) known in
      let v = and_parts w (all_true ws) wr in
      let f = and_parts sh.fine (each_fine shs) fine in
      let n = parted g ground (t.notes s) ((all_told ts).notes (after t s)) said in
      let a = own.0 in
      let b = own.1 in
      let c = own.3 in
      let past = until_most sh.declares end r.span.to (omega (arith, c, rest, le)) in
      subst (λ next. Makes (Tells g s next lo hi end end body types (own_types ++ joined owns) point) (statements.each (r ∷ rs) g.site end body)) (after_both g ground t (all_told ts) s)
      (makes_then (Tells g s (after t s) r.span.from r.span.to (until g sh end r.span) end body types own_types point) (Tells g s (after (all_told ts) (after t s)) lo hi end end body types (own_types ++ joined owns) point) (r.run g.site end body) _
      (all.0.tells s end body types point (scoped_within g s body.locals types body.made.free lo end r.span.from end a (omega arith) scoped) stands counted own.1 (omega (arith, c, rest, le)) own.2 k.0 v.0 f.0 n.0)
      (λ second x.
      let wide : Tells g s (after t s) lo q.0 end end body types own_types point second = record {
        adds = adds_as g s r.span.from r.span.to (until g sh end r.span) lo q.0 end body types point second a c past x.adds;
        scoped = scoped_within g (after t s) second.locals (types ++ x.adds.added_types) second.made.free r.span.to end q.0 end c (omega arith) x.scoped;
        stands = x.stands;
        counted = x.counted;
        typed = x.typed;
      } in
      makes_more (Tells g (after t s) (after (all_told ts) (after t s)) q.0 hi end end second (types ++ x.adds.added_types) (joined owns) x.adds.behind) (Tells g s (after (all_told ts) (after t s)) lo hi end end body types (own_types ++ joined owns) point)
      (λ third y. tells_both g ground s (after t s) (after (all_told ts) (after t s)) lo q.0 hi end body types own_types (joined owns) point second third wide y (λ e. e) (omega (arith, a, b, c)) rest) (statements.each rs g.site end second)
      (each_tells rs ts ls pss ws shs owns all.1 (after t s) start q.0 hi end second (types ++ x.adds.added_types) x.adds.behind (scoped_within g (after t s) second.locals (types ++ x.adds.added_types) second.made.free r.span.to end q.0 end c (omega arith) x.scoped)
      x.stands x.counted q.2 le k.1 v.1 f.1 n.1)))
  each_tells _ _ _ _ _ _ _ all s start lo hi end body types point scoped stands counted laid le known wr fine said = absurd all

  -- ---- expressions that run between the turns of a loop

  -- They lead on, at places up to that one.
  pub record RunsOn (at : ℕ) (body : Body) (types : List Type_) (q : Point) (after_body : Body) : Type 0 where
    pub items : List Item
    pub appended : after_body.made.items ≡ body.made.items ++ items
    pub plain : IsPlain items
    pub free : after_body.made.free ≡ body.made.free
    pub locals : after_body.locals ≡ body.locals
    pub most : body.most ≤ after_body.most
    pub behind : Point
    pub leads : Begins g body.locals types at → after_body.most ≤ g.method.slots → Leads g.program g.method g.locals items q behind
    pub keeps : Keeps body.made.free q behind

  -- `apart` are locals that hold behind those places
  runs_on : (s : Names) (es : List Expr) (start lo hi at end : ℕ) (body : Body) (types : List Type_) (q : Point) → start ≤ lo → LaidOut start lo hi (row (map expr_piece es)) → hi ≤ at → at ≤ end → Scoped g s body.locals types body.made.free start at
      → Stands g s body.locals q → AllOf (IsKnown g) (together (parts.each expr_parts es)) → each_true is_written_expr es ≡ true → each_true is_readable_expr es ≡ true → Says g (bodies.all_run es s) → Makes (RunsOn at body types q) (all_ran es g.site body)
  runs_on s [] start lo hi at end body types q le laid up last scoped stands known wr fine said = record {
    items = [];
    appended = sym (append-nil body.made.items);
    plain = plain_none;
    free = refl;
    locals = refl;
    most = omega arith;
    behind = q;
    leads = λ begins few. leads_none g.program g.method g.locals q;
    keeps = keeps_none body.made.free q;
  }
  runs_on s (e ∷ es) start lo hi at end body types q le laid up last scoped stands known wr fine said =
      let w = laid_parts start lo hi (expr_piece e) (row (map expr_piece es)) laid in
      let more = laid_up start lo w.0 (expr_piece e) w.1 in
      let rest = laid_up start w.0 hi (row (map expr_piece es)) w.2 in
      let k = all_parted (IsKnown g) (expr_parts e) (together (parts.each expr_parts es)) known in
      let v = and_parts (is_written_expr e) (each_true is_written_expr es) wr in
      let f = and_parts (is_readable_expr e) (each_true is_readable_expr es) fine in
      let n = parted g ground (bodies.run e s) (bodies.all_run es s) said in
      let kept = scoped_within g s body.locals types body.made.free start at start w.0 (omega arith) (omega (arith, rest, up)) scoped in
      let j = value_judged g ground s body types q start w.0 kept stands e (read_there g ground e start lo w.0 le w.1 k.0 v.0 f.0) n.0 in
      makes_then (λ (second : Body). RunsOn at body types q second) (RunsOn at body types q) (ran g.site e body) (all_ran es g.site)
      (makes_then (Evaluates g w.0 [] body types q j.0) (RunsOn at body types q) (evaluated g.site e body) _ j.3
      (λ ev x. record {
        items = x.items;
        appended = x.appended;
        plain = x.plain;
        free = x.free;
        locals = x.locals;
        most = x.most;
        behind = x.behind;
        leads = λ begins. x.leads (earlier g ground body.locals types w.0 at (omega (arith, rest, up)) begins);
        keeps = x.keeps;
      }))
      (λ second x.
      makes_more (RunsOn at second types x.behind) (RunsOn at body types q)
      (λ third y. record {
        items = x.items ++ y.items;
        appended = y.appended ∙ ap (λ l. l ++ y.items) x.appended ∙ append_assoc body.made.items x.items y.items;
        plain = plain_both x.items y.items x.plain y.plain;
        free = y.free ∙ x.free;
        locals = y.locals ∙ x.locals;
        most = (let a = x.most in let b = y.most in omega (arith, a, b));
        behind = y.behind;
        leads = λ begins few. leads_both g.program g.method g.locals x.items y.items q x.behind y.behind (x.leads begins (let b = y.most in omega (arith, few, b)))
            (y.leads (begins_as g body.locals second.locals types types at (sym x.locals) refl begins) few);
        keeps = keeps_both body.made.free body.made.free q x.behind y.behind (omega arith) x.keeps (subst (λ n. Keeps n x.behind y.behind) x.free y.keeps);
      }) (all_ran es g.site second)
      (runs_on s es start w.0 hi at end second types x.behind (omega (arith, le, more)) w.2 up last
      (subst (λ l. Scoped g s l types second.made.free start at) (sym x.locals) (subst (λ n. Scoped g s body.locals types n start at) (sym x.free) scoped))
      (subst (λ l. Stands g s l x.behind) (sym x.locals) (keeps_stands g ground s body.locals types body.made.free start at q x.behind scoped x.keeps stands)) k.1 v.1 f.1 n.1))

  -- and as a block of its own
  pub record RunsBetween (at : ℕ) (body : Body) (types : List Type_) (q : Point) (next : Inside) : Type 0 where
    pub items : List Item
    pub same : next.block.items ≡ items
    pub plain : IsPlain items
    pub locals : next.body.locals ≡ body.locals
    pub made : next.body.made ≡ body.made
    pub most : body.most ≤ next.body.most
    pub behind : Point
    pub leads : Begins g body.locals types at → next.body.most ≤ g.method.slots → Leads g.program g.method g.locals items q behind
    pub keeps : Keeps body.made.free q behind

  -- ---- blocks

  -- behind a block the slots of its locals are free again
  abbrev pub adds_freed : (s : Names) (from to last : ℕ) (body : Body) (types : List Type_) (point : Point) (after_body : Body) → Adds g s from to last body types point after_body → Adds g s from to last body types point (with_free body.made.free after_body)
  adds_freed s from to last body types point after_body a = record {
    added = a.added;
    added_types = a.added_types;
    grown = a.grown;
    typed = a.typed;
    places = a.places;
    do_fit = a.do_fit;
    most = a.most;
    up = omega arith;
    items = a.items;
    appended = a.appended;
    behind = a.behind;
    breaks_by = a.breaks_by;
    turns_by = a.turns_by;
    leaves = a.leaves;
    answered = a.answered;
    keeps = a.keeps;
    keeps_breaks = a.keeps_breaks;
    keeps_turns = a.keeps_turns;
  }

  module _ (rs : List Running) (ts : List Telling) (ls : List Layout) (pss : List (List Part)) (ws : List Bool) (shs : List Statement) (owns : List (List Type_)) (all : AreStatements rs ts ls pss ws shs owns) (known : AllOf (IsKnown g) (together pss)) (wr : all_true ws ≡ true) (fine : each_fine shs ≡ true)
      (s : Names) (span : Span) (end : ℕ) (body : Body) (types : List Type_) (point : Point) (scoped : Scoped g s body.locals types body.made.free span.from end) (stands : Stands g s body.locals point) (counted : s.next ≡ length body.locals) (some : span.from < span.to)
      (le : span.to ≤ end) where
    pub block_tells : LaidOut span.from span.from span.to (row ls) → Says g ((all_told ts).notes s)
        → Makes (Tells g s (after (closed (all_told ts)) s) span.from span.to span.to end body types (joined owns) point) (statements.each rs g.site span.to body >>= (λ inner. Ok (with_free body.made.free inner)))
    block_tells laid said =
        makes_then (Tells g s (after (all_told ts) s) span.from span.to span.to span.to body types (joined owns) point) (Tells g s (after (closed (all_told ts)) s) span.from span.to span.to end body types (joined owns) point) (statements.each rs g.site span.to body) _
        (each_tells rs ts ls pss ws shs owns all s span.from span.from span.to span.to body types point (scoped_within g s body.locals types body.made.free span.from end span.from span.to (omega arith) le scoped) stands counted laid (omega arith) known wr fine said)
        (λ inner x. closed_tells g ground (closed (all_told ts)) s span.from span.to end body types point (with_free body.made.free inner) scoped stands refl (omega (arith, some))
        (adds_freed s span.from span.to span.to body types point inner x.adds) refl x.counted (joined owns) x.typed)

    -- ---- `for` (JLS 14.14.1)

    laid_join : (start lo mid hi : ℕ) (a b : Layout) → LaidOut start lo mid a → LaidOut start mid hi b → LaidOut start lo hi (placed.followed a b)
    laid_join start lo mid hi nothing b x y = lower start lo mid hi b x y
      where
        lower : (start lo mid hi : ℕ) (b : Layout) → lo ≤ mid → LaidOut start mid hi b → LaidOut start lo hi b
        lower start lo mid hi nothing le y = omega (arith, le, y)
        lower start lo mid hi (node span inner later) le y = ((let a = y.0 in omega (arith, a, le)), y.1, y.2, y.3)
        lower start lo mid hi (placed.copy inner later) le y = (y.0, y.1, lower start (Rattle.std.specs.Prelude.max lo y.0) (Rattle.std.specs.Prelude.max mid y.0) hi later (omega (arith, le)) y.2)
    laid_join start lo mid hi (node span inner later) b x y = (x.0, x.1, x.2, laid_join start span.to mid hi later b x.3 y)
    laid_join start lo mid hi (placed.copy inner later) b x y = (x.0, x.1, laid_join start (Rattle.std.specs.Prelude.max lo x.0) mid hi later b x.2 y)

    rows_parts : (start lo hi : ℕ) (xs ys : List Layout) → LaidOut start lo hi (row (xs ++ ys)) → (mid : ℕ) × LaidOut start lo mid (row xs) × LaidOut start mid hi (row ys)
    rows_parts start lo hi [] ys laid = (lo, omega arith, laid)
    rows_parts start lo hi (x ∷ xs) ys laid =
        let q = laid_parts start lo hi x (row (xs ++ ys)) laid in
        let r = rows_parts start q.0 hi xs ys q.2 in
        (r.0, laid_join start lo q.0 r.0 x (row xs) q.1 r.1, r.2)

    -- expressions are laid out as they are, wherever their row begins
    any_start : (es : List Expr) (start other lo hi : ℕ) → LaidOut start lo hi (row (map expr_piece es)) → LaidOut other lo hi (row (map expr_piece es))
    any_start [] start other lo hi laid = laid
    any_start (e ∷ es) start other lo hi laid =
        let q = laid_parts start lo hi (expr_piece e) (row (map expr_piece es)) laid in
        let single = Rattle.ix_formed.proofs.LayoutSpans.expr_single e in
        let n = subst (LaidOut start lo q.0) single.1 q.1 in
        laid_join other lo q.0 hi (expr_piece e) (row (map expr_piece es)) (subst (LaidOut other lo q.0) (sym single.1) n) (any_start es start other q.0 hi q.2)

    any_start_if : (o : Option Expr) (start other lo hi : ℕ) → LaidOut start lo hi (row (placed.maybe expr_piece o)) → LaidOut other lo hi (row (placed.maybe expr_piece o))
    any_start_if None start other lo hi laid = laid
    any_start_if (Some e) start other lo hi laid = any_start (e ∷ []) start other lo hi laid

    module _ (condition : Option Expr) (update : List Expr) (r : Running) (t : Telling) (l : Layout) (ps : List Part) (written : Bool) (sh : Statement) (own : List Type_) (part : IsStatement g r t l ps written sh own) (part_fine : is_part sh ≡ true) (part_written : written ≡ true)
        (part_known : AllOf (IsKnown g) ps) (condition_known : AllOf (IsKnown g) (parts.maybe expr_parts condition)) (condition_written : maybe_true is_written_expr condition ≡ true) (condition_fine : maybe_true is_readable_expr condition ≡ true)
        (update_known : AllOf (IsKnown g) (together (parts.each expr_parts update))) (update_written : each_true is_written_expr update ≡ true) (update_fine : each_true is_readable_expr update ≡ true) where
      abbrev head : Telling
      head = noted_then (λ s. bodies.condition_or_none condition s ++ bodies.all_run update s) (looped t)

      abbrev told : Telling
      told = closed (then_told (all_told ts) head)

      pub for_tells : LaidOut span.from span.from span.to (row (ls ++ (placed.maybe expr_piece condition ++ (map expr_piece update ++ l ∷ [])))) → Says g (told.notes s)
          → Makes (Tells g s (after told s) span.from span.to span.to end body types (joined owns ++ own) point) (statements.counted rs condition update r span.to g.site body)
      for_tells laid said =
          let p = rows_parts span.from span.from span.to ls (placed.maybe expr_piece condition ++ (map expr_piece update ++ l ∷ [])) laid in
          let n = parted g ground ((all_told ts).notes s) (head.notes (after (all_told ts) s)) said in
          let up = laid_up span.from p.0 span.to (row (placed.maybe expr_piece condition ++ (map expr_piece update ++ l ∷ []))) p.2 in
          makes_then (Tells g s (after (all_told ts) s) span.from p.0 span.to span.to body types (joined owns) point) (Tells g s (after told s) span.from span.to span.to end body types (joined owns ++ own) point) (statements.each rs g.site span.to body) _
          (each_tells rs ts ls pss ws shs owns all s span.from span.from p.0 span.to body types point (scoped_within g s body.locals types body.made.free span.from end span.from span.to (omega arith) le scoped) stands counted p.1 up known wr fine n.0)
          (λ first x. looped_tells first p.0 (laid_up span.from span.from p.0 (row ls) p.1) x p.2 n.1 (nat_lt first.loops most_loops))
        where
          looped_tells : (first : Body) (m1 : ℕ) → span.from ≤ m1 → (x : Tells g s (after (all_told ts) s) span.from m1 span.to span.to body types (joined owns) point first)
              → LaidOut span.from m1 span.to (row (placed.maybe expr_piece condition ++ (map expr_piece update ++ l ∷ []))) → Says g (head.notes (after (all_told ts) s)) → (b : Bool)
              → Makes (Tells g s (after told s) span.from span.to span.to end body types (joined owns ++ own) point)
              ((if b then Ok (record first { loops = first.loops + 1 }) else Err which.Loops) >>= (λ begun. tested_if condition g.site begun >>= (λ asked. branch r g.site asked.body >>= (λ turn. inside (all_ran update g.site) turn.body
              >>= (λ next. Ok (with_last (with_free body.made.free next.body) (item.Loop true asked.cond turn.block next.block first.loops first.made.free)))))))
          looped_tells first m1 begin x laid said false = tt
          looped_tells first m1 begin x laid said true =
              let s1 = after (all_told ts) s in
              let types1 = types ++ x.adds.added_types in
              let begun : Body = record first { loops = first.loops + 1 } in
              let free = first.made.free in
              let q = rows_parts span.from m1 span.to (placed.maybe expr_piece condition) (map expr_piece update ++ l ∷ []) laid in
              let u = rows_parts span.from q.0 span.to (map expr_piece update) (l ∷ []) q.2 in
              let w = laid_parts span.from u.0 span.to l nothing u.2 in
              let to_q = laid_up span.from m1 q.0 (row (placed.maybe expr_piece condition)) q.1 in
              let to_u = laid_up span.from q.0 u.0 (row (map expr_piece update)) u.1 in
              let to_w = laid_up span.from u.0 w.0 l w.1 in
              let last = w.2 in
              let n = parted g ground (bodies.condition_or_none condition s1 ++ bodies.all_run update s1) (t.notes (bodies.inside s1)) said in
              let m = parted g ground (bodies.condition_or_none condition s1) (bodies.all_run update s1) n.0 in
              let kept = point_below free x.adds.behind in
              let stands_kept = below_stands g ground s1 first.locals types1 free m1 span.to x.adds.behind x.scoped x.stands in
              makes_then (Asks g ground q.0 begun types1 kept) (Tells g s (after told s) span.from span.to span.to end body types (joined owns ++ own) point) (tested_if condition g.site begun) _
              (asks_if g ground s1 condition m1 m1 q.0 span.to begun types1 kept (omega arith) (omega (arith, to_u, to_w, last)) (any_start_if condition span.from m1 m1 q.0 q.1) x.scoped stands_kept condition_known condition_written condition_fine m.0)
              (λ asked a. makes_then (λ (y : Inside). Nests g t own (bodies.inside s1) u.0 w.0 asked.body types1 a.holds y × (y.body.made ≡ begun.made)) (Tells g s (after told s) span.from span.to span.to end body types (joined owns ++ own) point) (branch r g.site asked.body) _
              (nest_on g ground (bodies.inside s1) r t l ps written sh own part span.from u.0 w.0 span.to begun asked.body types1 a.holds a.locals a.made
              (scoped_for g s1 (bodies.inside s1) first.locals types1 free u.0 span.to refl refl refl (λ e. e) (λ e. e) refl refl (scoped_within g s1 first.locals types1 free m1 span.to u.0 span.to (omega (arith, to_q, to_u)) (omega arith) x.scoped))
              (stands_for g s1 (bodies.inside s1) first.locals a.holds (λ e. e) refl (keeps_stands g ground s1 first.locals types1 free m1 span.to kept a.holds x.scoped a.keeps_holds stands_kept)) x.counted w.1 last part_known part_written part_fine n.1)
              (λ inner y.
              let second = adds_from g ground s1 u.0 w.0 w.0 first asked.body types1 x.adds.behind inner.body a.locals a.made a.most (nest_adds g t own (bodies.inside s1) s1 u.0 w.0 asked.body types1 a.holds x.adds.behind inner y.0) in
              let types2 = types1 ++ second.added_types in
              let begun2 : Body = record inner.body { made = empty inner.body.made.free } in
              let free_same : inner.body.made.free ≡ free = ap (λ (z : Made). z.free) y.1 in
              let outside = all_so (IsDeclared u.0 w.0) (Rattle.ix_formed.specs.TypedStatements.Outside q.0 u.0) (λ local d. later_outside q.0 u.0 local d.0) second.added second.places in
              let scoped_u = scoped_more g s1 first.locals second.added types1 second.added_types free m1 span.to q.0 u.0 x.scoped second.typed to_q (omega (arith, to_w, last)) outside in
              let stands_u = stands_more g s1 first.locals second.added types1 free m1 span.to kept kept x.scoped (keeps_none free kept) (has_first g s1 first.locals types1 free m1 span.to x.scoped) stands_kept in
              makes_then (λ (next : Inside). RunsBetween u.0 inner.body types2 kept next) (Tells g s (after told s) span.from span.to span.to end body types (joined owns ++ own) point) (inside (all_ran update g.site) inner.body) _
              (makes_then (λ (z : Body). RunsOn u.0 begun2 types2 kept z) (λ (next : Inside). RunsBetween u.0 inner.body types2 kept next) (all_ran update g.site begun2) _
              (runs_on s1 update q.0 q.0 u.0 u.0 span.to begun2 types2 kept (omega arith) (any_start update span.from q.0 q.0 u.0 u.1) (omega arith) (omega (arith, to_w, last))
              (subst (λ loc. Scoped g s1 loc types2 inner.body.made.free q.0 u.0) (sym second.grown) (subst (λ k. Scoped g s1 (first.locals ++ second.added) types2 k q.0 u.0) (sym free_same) scoped_u))
              (subst (λ loc. Stands g s1 loc kept) (sym second.grown) stands_u) update_known update_written update_fine m.1)
              (λ z v. record { items = v.items; same = v.appended; plain = v.plain; locals = v.locals; made = refl; most = v.most; behind = v.behind; leads = v.leads; keeps = v.keeps }))
              (λ next v.
              let loop = item.Loop true asked.cond inner.block next.block first.loops free in
              let third = adds_to g ground s1 u.0 w.0 w.0 first types1 x.adds.behind inner.body next.body second v.locals v.made v.most in
              let on_holds : (k : Point) → Keeps asked.body.made.free a.holds k → Keeps free kept k = λ k keeps. keeps_both free free kept a.holds k (omega arith) a.keeps_holds (same_free g ground begun asked.body a.holds k a.made keeps) in
              let below = below_keeps g free x.adds.behind in
              let ends = meeting a.fails y.0.breaks in
              let keeps_v : Keeps free kept v.behind = subst (λ k. Keeps k kept v.behind) free_same v.keeps in
              let all_items = closed_adds g s1 u.0 w.0 w.0 first types1 x.adds.behind x.adds.behind ends (λ k. k) (λ k. k) next.body loop third (v.made ∙ y.1)
              (keeps_both free free x.adds.behind kept ends (omega arith) below (meeting_keeps free kept a.fails y.0.breaks a.keeps_fails (on_holds y.0.breaks y.0.keeps_breaks))) (none_passes g free x.adds.behind) (none_passes g free x.adds.behind)
              (λ answers. answered_loop true asked.cond inner.block next.block first.loops free (y.0.answered answers))
              (λ begins few in_loop loops.
              let here = begins_as g next.body.locals inner.body.locals types2 types2 w.0 v.locals refl begins in
              let few_inner : inner.body.most ≤ g.method.slots = (let k = v.most in omega (arith, few, k)) in
              let decides = a.decides (begins_back g ground s1 q.0 u.0 w.0 w.0 first types1 x.adds.behind inner.body second to_u to_w here) (let k = y.0.most in omega (arith, few_inner, k)) in
              let straight : is_straight (block_code next.block) ≡ true = plain_block next.block.items (subst IsPlain (sym v.same) v.plain) in
              let update_fits = block_fits g false (record { items = next.block.items; free = 0 }) v.items kept v.behind (no_jump g) (no_jump g) v.same
              (leads_leave g false v.items kept v.behind (v.leads (earlier g ground inner.body.locals types2 u.0 w.0 to_w here) few)) in
              loop_leaves g in_loop true asked.cond inner.block next.block first.loops free x.adds.behind a.holds a.fails y.0.ends y.0.breaks y.0.turns v.behind None None a.plain.straight straight decides a.keeps_holds
              (subst (λ at. BlockFits g true (block_code inner.block) at y.0.ends y.0.breaks y.0.turns) (sym decides.true_at) (y.0.block here few_inner true (λ e. refl)))
              (on_holds y.0.ends y.0.keeps) (on_holds y.0.turns y.0.keeps_turns) update_fits keeps_v) in
              let loop_adds = adds_as g s1 u.0 w.0 w.0 m1 span.to span.to first types1 x.adds.behind (with_last next.body loop) (omega (arith, to_q, to_u)) last last all_items in
              let whole = adds_both g s s1 span.from m1 span.to span.to body types point first (with_last next.body loop) x.adds loop_adds (λ e. e) begin (omega (arith, to_q, to_u, to_w, last)) in
              closed_tells g ground told s span.from span.to end body types point (with_last (with_free body.made.free next.body) loop) scoped stands refl (omega (arith, some)) (adds_freed s span.from span.to span.to body types point (with_last next.body loop) whole) refl
              (let k = y.0.counted in let e = ap (λ (loc : List (Local × Span)). length loc) v.locals in omega (arith, k, e)) (joined owns ++ own)
              (ap (λ l. l ++ y.0.added_types) x.typed ∙ ap (λ l. joined owns ++ l) y.0.typed_own))))
