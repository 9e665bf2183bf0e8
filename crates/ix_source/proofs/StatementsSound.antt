-- Every statement without errors on names is sound where it stands.
use Rattle.std.proofs.Common.{◌≡◌, ◌≤◌, ℕ, ◌+◌, Bool, true, false, List, [], ◌∷◌, ◌++◌, map, Option, Some, None, Ok, Err, refl, sym, subst, arith}
use Rattle.std.specs.Prelude.{if◌then◌else◌, ◌&&◌, nat_lt, max}
use Rattle.std.proofs.lemmas.Bool.{false≢true, and_parts}
use Rattle.ix_text.specs.declared.span.Span.{Span}
use Rattle.ix_core.specs.declared.claim.Type_.{Type_}
use Rattle.ix_tree.specs.declared.expr.Expr.{Expr}
use Rattle.ix_tree.specs.declared.stmt.Stmt.{Stmt, Stmt-F, ind-Stmt, map-Stmt, roll-Stmt, fold-roll-Stmt}
use Rattle.ix_tree.specs.declared.stmt.StmtKind.{StmtKind, StmtKind-F, map-StmtKind, roll-StmtKind, fold-StmtKind, fold-roll-StmtKind}
use Rattle.ix_tree.specs.Parts as parts
use Rattle.ix_tree.specs.Parts.{Part, stmt_parts, expr_parts, together}
use Rattle.ix_tree.specs.Placed as placed
use Rattle.ix_tree.specs.Placed.{Layout, nothing, node, LaidOut, row, stmt_piece, expr_piece}
use Rattle.ix_meaning.specs.Bodies as bodies
use Rattle.ix_meaning.specs.Bodies.{Telling, telling, after, all_told, looped, inside as in_turn}
use Rattle.ix_meaning.specs.Scope.{Scope as Names}
use Rattle.ix_plain.specs.declared.body.Body.{Body}
use Rattle.ix_plain.specs.Assigned.{assigns}
use Rattle.ix_plain.specs.Scope.{Site}
use Rattle.ix_plain.specs.Statements as statements
use Rattle.ix_plain.specs.Statements.{Run, Running, Inside, Tested, statement, branch, tested, tested_if, in_loop, ran, scope_for, behind_value, most_loops}
use Rattle.ix_plain.specs.Values.{lowering}
use Rattle.ix_formed.specs.Additions.{Makes, AllOf}
use Rattle.ix_formed.specs.Readable as readable
use Rattle.ix_formed.specs.Readable.{Statement, stmt_shape, shape, is_part, is_readable_expr, each_fine}
use Rattle.ix_formed.specs.TypedStatements.{Ground, IsGround, Says, IsKnown, Scoped}
use Rattle.ix_formed.specs.Written as written
use Rattle.ix_formed.specs.Written.{is_written_stmt, is_written_expr, all_true, each_true, maybe_true}
use Rattle.ix_formed.proofs.LayoutSpans.{laid_parts, laid_up, expr_single}
use Rattle.ix_formed.proofs.NumberLists.{both_true}
use Rattle.ix_formed.proofs.PlainItems.{makes_more, makes_then}
use Rattle.ix_formed.proofs.ScopedLocals.{scoped_within, scoped_for}
use Rattle.ix_formed.proofs.SourceMethods.{both_rows}
use Rattle.ix_formed.proofs.TypedExpressions.{all_parted}
use Rattle.ix_formed.proofs.TypedForms.{parted}
use Rattle.ix_formed.proofs.TypedLoops.{read_there, restarted}
use Rattle.ix_source.specs.Running as running
use Rattle.ix_source.specs.SoundStatements as sound
use Rattle.ix_source.specs.SoundStatements.{StatementSoundness, statement_soundness, where_made, used_at, ran_at, all_ran_at, used_if, begun, part_sound, each_sound}
use Rattle.ix_source.proofs.DeclarationsSound.{makes_any, so_always, locals_sound}
use Rattle.ix_source.proofs.SoundEvaluations.{Sight, seen_ground, condition_sound, run_sound, printed_sound, returned_sound}
use Rattle.ix_source.proofs.SoundLists.{made_so, StandsAt, stands_same, stands_within, stands_inside, DoesSound, IsSoundStatement, AllSound, BehindPart, part_sounds, each_sounds}
use Rattle.ix_source.proofs.SoundRuns.{running_is, runs_are}
use Rattle.ix_source.proofs.VariablesOwn.{OwnedIn}

-- ---- what lowering leaves as it was

abbrev Same : Body → Body → Type 0
Same body made = (made.locals ≡ body.locals) × (made.made.free ≡ body.made.free)

tested_same : (site : Site) (c : Expr) (body : Body) → Makes (λ (asked : Tested). Same body asked.body) (tested site c body)
tested_same site c body =
    makes_then (λ asked. Unit {0}) (λ (asked : Tested). Same body asked.body) ((lowering c).condition (scope_for site body (assigns c).inside) body.made.free) _ (makes_any _) (λ asked u. (refl, refl))

tested_if_same : (o : Option Expr) (site : Site) (body : Body) → Makes (λ (asked : Tested). Same body asked.body) (tested_if o site body)
tested_if_same None site body = (refl, refl)
tested_if_same (Some c) site body = tested_same site c body

loop_same : (body : Body) → Makes (Same body) (in_loop body)
loop_same body = by_room (nat_lt body.loops most_loops)
  where
    by_room : (b : Bool) → Makes (Same body) (if b then Ok (record body { loops = body.loops + 1 }) else Err Rattle.ix_meaning.specs.declared.note.Which.TheVariants.Loops)
    by_room true = (refl, refl)
    by_room false = tt

ran_same : (site : Site) (e : Expr) (body : Body) → Makes (Same body) (ran site e body)
ran_same site e body =
    makes_then (λ (value : statements.Evaluated). Same body value.body) (Same body) (statements.evaluated site e body) _
    (makes_then (λ value. Unit {0}) (λ (value : statements.Evaluated). Same body value.body) ((lowering e).value (scope_for site body (assigns e).inside) body.made) (behind_value body) (makes_any _) (λ value u. (refl, refl)))
    (λ value same. same)

-- ---- layouts

laid_join : (start lo mid hi : ℕ) (a b : Layout) → LaidOut start lo mid a → LaidOut start mid hi b → LaidOut start lo hi (placed.followed a b)
laid_join start lo mid hi nothing b x y = lower start lo mid hi b x y
  where
    lower : (start lo mid hi : ℕ) (b : Layout) → lo ≤ mid → LaidOut start mid hi b → LaidOut start lo hi b
    lower start lo mid hi nothing le y = omega (arith, le, y)
    lower start lo mid hi (node span inner later) le y = ((let a = y.0 in omega (arith, a, le)), y.1, y.2, y.3)
    lower start lo mid hi (placed.copy inner later) le y = (y.0, y.1, lower start (max lo y.0) (max mid y.0) hi later (omega (arith, le)) y.2)
laid_join start lo mid hi (node span inner later) b x y = (x.0, x.1, x.2, laid_join start span.to mid hi later b x.3 y)
laid_join start lo mid hi (placed.copy inner later) b x y = (x.0, x.1, laid_join start (max lo x.0) mid hi later b x.2 y)

-- expressions are laid out as they are, wherever their row begins
any_start : (es : List Expr) (start other lo hi : ℕ) → LaidOut start lo hi (row (map expr_piece es)) → LaidOut other lo hi (row (map expr_piece es))
any_start [] start other lo hi laid = laid
any_start (e ∷ es) start other lo hi laid =
    let q = laid_parts start lo hi (expr_piece e) (row (map expr_piece es)) laid in
    let single = expr_single e in
    let n = subst (LaidOut start lo q.0) single.1 q.1 in
    laid_join other lo q.0 hi (expr_piece e) (row (map expr_piece es)) (subst (LaidOut other lo q.0) (sym single.1) n) (any_start es start other q.0 hi q.2)

module _ (g : Ground) (ground : IsGround g) (v : Sight g) where
  abbrev k : running.Ground
  k = seen_ground g ground v

  abbrev At : Names → Body → ℕ → ℕ → Type 0
  At s body from end = StandsAt g ground v s body from end

  -- ---- expressions between two places

  condition_at : (e : Expr) (s : Names) (start lo hi end : ℕ) (body : Body) → At s body start end → start ≤ lo → hi ≤ end → LaidOut start lo hi (expr_piece e) → AllOf (IsKnown g) (expr_parts e) → is_written_expr e ≡ true → (shape e).fine ≡ true → Says g (bodies.condition e s)
      → used_at e k body ≡ true
  condition_at e s start lo hi end body at le up laid known wr fine said =
      condition_sound g ground v s body at.types start hi (scoped_within g s body.locals at.types body.made.free start end start hi (omega arith) up at.scoped) at.owned at.object e (read_there g ground e start lo hi le laid known wr fine) said

  condition_if : (o : Option Expr) (s : Names) (start hi end : ℕ) (body : Body) → At s body start end → hi ≤ end → LaidOut start start hi (row (placed.maybe expr_piece o)) → AllOf (IsKnown g) (parts.maybe expr_parts o) → maybe_true is_written_expr o ≡ true
      → maybe_true is_readable_expr o ≡ true → Says g (bodies.condition_or_none o s) → used_if o k body ≡ true
  condition_if None s start hi end body at up laid known wr fine said = refl
  condition_if (Some e) s start hi end body at up laid known wr fine said =
      let q = laid_parts start start hi (expr_piece e) nothing laid in
      let last = q.2 in
      condition_at e s start start q.0 end body at (omega arith) (omega (arith, last, up)) q.1 known wr fine said

  all_ran_sound : (es : List Expr) (s : Names) (start lo hi end : ℕ) (body : Body) (types : List Type_) → Scoped g s body.locals types body.made.free start end → OwnedIn g s.names body.locals → (s.has_object ≡ true → v.has_this ≡ true) → start ≤ lo → hi ≤ end
      → LaidOut start lo hi (row (map expr_piece es)) → AllOf (IsKnown g) (together (parts.each expr_parts es)) → each_true is_written_expr es ≡ true → each_true is_readable_expr es ≡ true → Says g (bodies.all_run es s) → all_ran_at es k body ≡ true
  all_ran_sound [] s start lo hi end body types scoped owned object le up laid known wr fine said = refl
  all_ran_sound (e ∷ es) s start lo hi end body types scoped owned object le up laid known wr fine said =
      let q = laid_parts start lo hi (expr_piece e) (row (map expr_piece es)) laid in
      let more = laid_up start lo q.0 (expr_piece e) q.1 in
      let rest = laid_up start q.0 hi (row (map expr_piece es)) q.2 in
      let kn = all_parted (IsKnown g) (expr_parts e) (together (parts.each expr_parts es)) known in
      let w = and_parts (is_written_expr e) (each_true is_written_expr es) wr in
      let f = and_parts (is_readable_expr e) (each_true is_readable_expr es) fine in
      let n = parted g ground (bodies.run e s) (bodies.all_run es s) said in
      both_true (ran_at e k body) _
      (run_sound g ground v s body types start q.0 (scoped_within g s body.locals types body.made.free start end start q.0 (omega arith) (omega (arith, rest, up)) scoped) owned object e (read_there g ground e start lo q.0 le q.1 kn.0 w.0 f.0) n.0)
      (made_so (ran g.site e body) (all_ran_at es k)
      (makes_more (Same body) (λ (made : Body). all_ran_at es k made ≡ true)
      (λ made same. all_ran_sound es s start q.0 hi end made types
      (subst (λ l. Scoped g s l types made.made.free start end) (sym same.0) (subst (λ m. Scoped g s body.locals types m start end) (sym same.1) scoped)) (subst (OwnedIn g s.names) (sym same.0) owned) object
      (omega (arith, le, more)) up q.2 kn.1 w.1 f.1 n.1) (ran g.site e body) (ran_same g.site e body)))

  -- ---- one expression as a statement

  module _ (e : Expr) (s : Names) (span : Span) (end : ℕ) (body : Body) (at : At s body span.from end) (le : span.to ≤ end) (laid : LaidOut span.from span.from span.to (row (expr_piece e ∷ []))) (known : AllOf (IsKnown g) (expr_parts e)) (wr : is_written_expr e ≡ true)
      (fine : (shape e).fine ≡ true) where
    single : (hi : ℕ) × (hi ≤ end) × LaidOut span.from span.from hi (expr_piece e)
    single = let q = laid_parts span.from span.from span.to (expr_piece e) nothing laid in (q.0, (let last = q.2 in omega (arith, last, le)), q.1)

    scoped : Scoped g s body.locals at.types body.made.free span.from single.0
    scoped = scoped_within g s body.locals at.types body.made.free span.from end span.from single.0 (omega arith) single.1 at.scoped

    printed_at : Says g (bodies.needed e Rattle.ix_meaning.specs.Types.printed s) → used_at e k body ≡ true
    printed_at said = printed_sound g ground v s body at.types span.from single.0 scoped at.owned at.object e (read_there g ground e span.from span.from single.0 (omega arith) single.2 known wr fine) said

    returned_at : Says g (bodies.needed e (bodies.result_need s.result) s) → used_at e k body ≡ true
    returned_at said = returned_sound g ground v s body at.types span.from single.0 scoped at.owned at.object e (read_there g ground e span.from span.from single.0 (omega arith) single.2 known wr fine) said

    run_at : Says g (bodies.run e s) → ran_at e k body ≡ true
    run_at said = run_sound g ground v s body at.types span.from single.0 scoped at.owned at.object e (read_there g ground e span.from span.from single.0 (omega arith) single.2 known wr fine) said

  -- ---- the folds

  abbrev kind_run : StmtKind → Span → Run
  kind_run = Rattle.ix_source.proofs.SoundRuns.kind_run

  abbrev kind_soundness : StmtKind → Span → StatementSoundness
  kind_soundness = Rattle.ix_source.proofs.SoundRuns.kind_soundness

  abbrev kind_telling : StmtKind → Span → Telling
  kind_telling = bodies.kind_telling

  abbrev kind_pieces : StmtKind → List Layout
  kind_pieces = fold-StmtKind (List Layout) Layout placed.stmt_kind_pieces placed.stmt_of

  abbrev kind_parts : StmtKind → List Part
  kind_parts = fold-StmtKind (List Part) (List Part) parts.stmt_kind_step parts.stmt_step

  abbrev kind_written : StmtKind → Bool
  kind_written = fold-StmtKind Bool Bool written.stmt_kind_step (λ stmt. stmt.kind)

  abbrev kind_shape : StmtKind → Statement
  kind_shape = fold-StmtKind Statement Statement readable.stmt_kind_step (λ stmt. stmt.kind)

  abbrev Does : Span → Run → (running.Ground → ℕ → Body → Bool) → Telling → List Layout → List Part → Bool → Statement → Type 0
  Does span run so t pieces ps w sh = DoesSound g ground v span run so t (row pieces) ps w sh

  abbrev KindIs : StmtKind → Type 0
  KindIs x = (span : Span) → Does span (kind_run x span) (kind_soundness x span).sound (kind_telling x span) (kind_pieces x) (kind_parts x) (kind_written x) (kind_shape x)

  abbrev StmtIs : Stmt → Type 0
  StmtIs x = IsSoundStatement g ground v x

  no_locals : {A : Type 0} → false ≡ true → A
  no_locals e = absurd (false≢true e)

  -- a branch, as soundness makes it
  branch_so : (x : Stmt) (body : Body) (so : Inside → Bool) → Makes (λ made. so made ≡ true) (branch (statement x) g.site body) → where_made (branch (statement_soundness x).running g.site body) so ≡ true
  branch_so x body so holds = subst (λ r. where_made (branch r g.site body) so ≡ true) (sym (running_is x)) (made_so (branch (statement x) g.site body) so holds)

  -- a part is in scope in the scope that is behind it, outside a loop's turn
  stands_outside : (t : Telling) (s : Names) (body : Body) (from end : ℕ) → At (after t (in_turn s)) body from end → At (after (looped t) s) body from end
  stands_outside t s body from end at = record {
    types = at.types;
    scoped = scoped_for g (after t (in_turn s)) (after (looped t) s) body.locals at.types body.made.free from end refl refl refl (λ e. e) (λ e. e) refl refl at.scoped;
    counted = at.counted;
    owned = at.owned;
    object = at.object;
  }

  module _ {K S : Type 0} (kind : K → StmtKind) (stmt : S → Stmt) (stmt_is : (x : S) → StmtIs (stmt x)) where
    abbrev t_of : S → Telling
    t_of x = telling (stmt x)

    abbrev sh : S → Statement
    sh x = stmt_shape (stmt x)

    abbrev s_of : S → StatementSoundness
    s_of x = statement_soundness (stmt x)

    all_are : (xs : List S) → AllSound g ground v (map stmt xs)
    all_are [] = tt
    all_are (x ∷ xs) = (stmt_is x, all_are xs)

    abbrev Layer : StmtKind-F K S → Type 0
    Layer y = let layer = map-StmtKind K S StmtKind Stmt kind stmt y in (span : Span)
        → Does span (statements.kind_step (map-StmtKind StmtKind Stmt (Span → Run) Running kind_run statement layer) span)
        (sound.kind_sound (map-StmtKind StmtKind Stmt (Span → StatementSoundness) StatementSoundness kind_soundness statement_soundness layer) span)
        (bodies.stmt_kind_step (map-StmtKind StmtKind Stmt (Span → Telling) Telling kind_telling telling layer) span)
        (placed.stmt_kind_pieces (map-StmtKind StmtKind Stmt (List Layout) Layout kind_pieces stmt_piece layer))
        (parts.stmt_kind_step (map-StmtKind StmtKind Stmt (List Part) (List Part) kind_parts stmt_parts layer))
        (written.stmt_kind_step (map-StmtKind StmtKind Stmt Bool Bool kind_written is_written_stmt layer))
        (readable.stmt_kind_step (map-StmtKind StmtKind Stmt Statement Statement kind_shape stmt_shape layer))

    -- ---- choices (JLS 14.9)

    if_layer : (c : Expr) (first : S) (second : Option S) → Layer (StmtKind-F.If c first second)
    if_layer c first None span s end body at some le laid known wr fine said =
        let q = laid_parts span.from span.from span.to (expr_piece c) (row (stmt_piece (stmt first) ∷ [])) laid in
        let w = laid_parts span.from q.0 span.to (stmt_piece (stmt first)) nothing q.2 in
        let up = laid_up span.from span.from q.0 (expr_piece c) q.1 in
        let more = laid_up span.from q.0 w.0 (stmt_piece (stmt first)) w.1 in
        let last = w.2 in
        let kn = all_parted (IsKnown g) (expr_parts c) (stmt_parts (stmt first)) known in
        let wr2 = and_parts (is_written_expr c) (is_written_stmt (stmt first) && true) wr in
        let wr3 = and_parts (is_written_stmt (stmt first)) true wr2.1 in
        let f = and_parts (is_readable_expr c) (is_part (sh first) && true) fine in
        let h = and_parts (is_part (sh first)) true f.1 in
        let n = parted g ground (bodies.condition c s) ((t_of first).notes s) said in (
          both_true (used_at c k body) _ (condition_at c s span.from span.from q.0 end body at (omega arith) (omega (arith, more, last, le)) q.1 kn.0 wr2.0 f.0 n.0)
              (made_so (tested g.site c body) _
              (makes_more (λ (asked : Tested). Same body asked.body) _
              (λ asked same.
              let there = stands_same g ground v s body asked.body q.0 end same.0 same.1 (stands_within g ground v s body span.from end q.0 end up (omega arith) at) in
              let p = part_sounds g ground v (stmt first) (stmt_is first) s span.from q.0 w.0 end asked.body there w.1 (omega (arith, last, le)) kn.1 wr3.0 h.0 n.1 in
              both_true (part_sound (s_of first) k asked.body) _ p.0 (so_always (branch (s_of first).running g.site asked.body))) (tested g.site c body) (tested_same g.site c body))),
          (λ e. no_locals e),
        )
    if_layer c first (Some second) span s end body at some le laid known wr fine said =
        let q = laid_parts span.from span.from span.to (expr_piece c) (row (stmt_piece (stmt first) ∷ stmt_piece (stmt second) ∷ [])) laid in
        let w = laid_parts span.from q.0 span.to (stmt_piece (stmt first)) (row (stmt_piece (stmt second) ∷ [])) q.2 in
        let x = laid_parts span.from w.0 span.to (stmt_piece (stmt second)) nothing w.2 in
        let up = laid_up span.from span.from q.0 (expr_piece c) q.1 in
        let more = laid_up span.from q.0 w.0 (stmt_piece (stmt first)) w.1 in
        let further = laid_up span.from w.0 x.0 (stmt_piece (stmt second)) x.1 in
        let last = x.2 in
        let kn = all_parted (IsKnown g) (expr_parts c) (stmt_parts (stmt first) ++ stmt_parts (stmt second)) known in
        let kn2 = all_parted (IsKnown g) (stmt_parts (stmt first)) (stmt_parts (stmt second)) kn.1 in
        let wr2 = and_parts (is_written_expr c) (is_written_stmt (stmt first) && is_written_stmt (stmt second)) wr in
        let wr3 = and_parts (is_written_stmt (stmt first)) (is_written_stmt (stmt second)) wr2.1 in
        let f = and_parts (is_readable_expr c) (is_part (sh first) && is_part (sh second)) fine in
        let h = and_parts (is_part (sh first)) (is_part (sh second)) f.1 in
        let n = parted g ground (bodies.condition c s) ((bodies.then_told (t_of first) (t_of second)).notes s) said in
        let m = parted g ground ((t_of first).notes s) ((t_of second).notes (after (t_of first) s)) n.1 in (
          both_true (used_at c k body) _ (condition_at c s span.from span.from q.0 end body at (omega arith) (omega (arith, more, further, last, le)) q.1 kn.0 wr2.0 f.0 n.0)
              (made_so (tested g.site c body) _
              (makes_more (λ (asked : Tested). Same body asked.body) _
              (λ asked same.
              let there = stands_same g ground v s body asked.body q.0 end same.0 same.1 (stands_within g ground v s body span.from end q.0 end up (omega arith) at) in
              let p = part_sounds g ground v (stmt first) (stmt_is first) s span.from q.0 w.0 end asked.body there w.1 (omega (arith, further, last, le)) kn2.0 wr3.0 h.0 m.0 in
              both_true (part_sound (s_of first) k asked.body) _ p.0
              (branch_so (stmt first) asked.body (λ holds. part_sound (s_of second) k holds.body)
              (makes_more (BehindPart g ground v (stmt first) (stmt_is first) s q.0 w.0 end asked.body) (λ (holds : Inside). part_sound (s_of second) k holds.body ≡ true)
              (λ holds b. (part_sounds g ground v (stmt second) (stmt_is second) (after (t_of first) s) span.from w.0 x.0 end holds.body b.stands x.1 (omega (arith, last, le)) kn2.1 wr3.1 h.1 m.1).0) (branch (statement (stmt first)) g.site asked.body) p.1)))
              (tested g.site c body) (tested_same g.site c body))),
          (λ e. no_locals e),
        )

    -- ---- loops (JLS 14.12, 14.13)

    while_layer : (c : Expr) (turn : S) → Layer (StmtKind-F.While c turn)
    while_layer c turn span s end body at some le laid known wr fine said =
        let q = laid_parts span.from span.from span.to (expr_piece c) (row (stmt_piece (stmt turn) ∷ [])) laid in
        let w = laid_parts span.from q.0 span.to (stmt_piece (stmt turn)) nothing q.2 in
        let up = laid_up span.from span.from q.0 (expr_piece c) q.1 in
        let more = laid_up span.from q.0 w.0 (stmt_piece (stmt turn)) w.1 in
        let last = w.2 in
        let kn = all_parted (IsKnown g) (expr_parts c) (stmt_parts (stmt turn)) known in
        let wr2 = and_parts (is_written_expr c) (is_written_stmt (stmt turn)) wr in
        let f = and_parts (is_readable_expr c) (is_part (sh turn)) fine in
        let n = parted g ground (bodies.condition c s) ((t_of turn).notes (in_turn s)) said in (
          made_so (in_loop body) _
              (makes_more (Same body) _
              (λ looping same.
              let inner = stands_same g ground v s body looping span.from end same.0 same.1 at in
              both_true (used_at c k looping) _ (condition_at c s span.from span.from q.0 end looping inner (omega arith) (omega (arith, more, last, le)) q.1 kn.0 wr2.0 f.0 n.0)
              (made_so (tested g.site c looping) _
              (makes_more (λ (asked : Tested). Same looping asked.body) _
              (λ asked again.
              let there = stands_inside g ground v s asked.body q.0 end (stands_same g ground v s looping asked.body q.0 end again.0 again.1 (stands_within g ground v s looping span.from end q.0 end up (omega arith) inner)) in
              (part_sounds g ground v (stmt turn) (stmt_is turn) (in_turn s) span.from q.0 w.0 end asked.body there w.1 (omega (arith, last, le)) kn.1 wr2.1 f.1 n.1).0) (tested g.site c looping) (tested_same g.site c looping)))) (in_loop body) (loop_same body)),
          (λ e. no_locals e),
        )

    do_layer : (turn : S) (c : Expr) → Layer (StmtKind-F.Do turn c)
    do_layer turn c span s end body at some le laid known wr fine said =
        let w = laid_parts span.from span.from span.to (stmt_piece (stmt turn)) (row (expr_piece c ∷ [])) laid in
        let q = laid_parts span.from w.0 span.to (expr_piece c) nothing w.2 in
        let more = laid_up span.from span.from w.0 (stmt_piece (stmt turn)) w.1 in
        let up = laid_up span.from w.0 q.0 (expr_piece c) q.1 in
        let last = q.2 in
        let kn = all_parted (IsKnown g) (stmt_parts (stmt turn)) (expr_parts c) known in
        let wr2 = and_parts (is_written_stmt (stmt turn)) (is_written_expr c) wr in
        let f = and_parts (is_part (sh turn)) (is_readable_expr c) fine in
        let n = parted g ground ((t_of turn).notes (in_turn s)) (bodies.condition c (after (looped (t_of turn)) s)) said in (
          made_so (in_loop body) _
              (makes_more (Same body) _
              (λ looping same.
              let inner = stands_inside g ground v s looping span.from end (stands_same g ground v s body looping span.from end same.0 same.1 at) in
              let p = part_sounds g ground v (stmt turn) (stmt_is turn) (in_turn s) span.from span.from w.0 end looping inner w.1 (omega (arith, up, last, le)) kn.0 wr2.0 f.0 n.0 in
              both_true (part_sound (s_of turn) k looping) _ p.0
              (branch_so (stmt turn) looping (λ made. used_at c k made.body)
              (makes_more (BehindPart g ground v (stmt turn) (stmt_is turn) (in_turn s) span.from w.0 end looping) (λ (made : Inside). used_at c k made.body ≡ true)
              (λ made b. condition_at c (after (looped (t_of turn)) s) w.0 w.0 q.0 end made.body (stands_outside (t_of turn) s made.body w.0 end b.stands) (omega arith) (omega (arith, last, le)) (restarted g ground c span.from w.0 q.0 q.1) kn.1 wr2.1 f.1 n.1)
              (branch (statement (stmt turn)) g.site looping) p.1))) (in_loop body) (loop_same body)),
          (λ e. no_locals e),
        )

    -- ---- `for` (JLS 14.14.1)

    for_layer : (first : List S) (c : Option Expr) (update : List Expr) (turn : S) → Layer (StmtKind-F.For first c update turn)
    for_layer first c update turn span s end body at some le laid known wr fine said =
        let xs = map stmt first in
        let kn = all_parted (IsKnown g) (together (map stmt_parts xs)) (parts.maybe expr_parts c ++ (parts.listed (parts.each expr_parts update) ++ stmt_parts (stmt turn))) known.1 in
        let kn2 = all_parted (IsKnown g) (parts.maybe expr_parts c) (parts.listed (parts.each expr_parts update) ++ stmt_parts (stmt turn)) kn.1 in
        let kn3 = all_parted (IsKnown g) (together (parts.each expr_parts update)) (stmt_parts (stmt turn)) kn2.1.1 in
        let wr1 = and_parts (all_true (map is_written_stmt xs)) (maybe_true is_written_expr c && (each_true is_written_expr update && is_written_stmt (stmt turn))) wr in
        let wr2 = and_parts (maybe_true is_written_expr c) (each_true is_written_expr update && is_written_stmt (stmt turn)) wr1.1 in
        let wr3 = and_parts (each_true is_written_expr update) (is_written_stmt (stmt turn)) wr2.1 in
        let f1 = and_parts (each_fine (map stmt_shape xs)) (maybe_true is_readable_expr c && (each_true is_readable_expr update && is_part (sh turn))) fine in
        let f2 = and_parts (maybe_true is_readable_expr c) (each_true is_readable_expr update && is_part (sh turn)) f1.1 in
        let f3 = and_parts (each_true is_readable_expr update) (is_part (sh turn)) f2.1 in
        let l = stmt_piece (stmt turn) in
        let p = both_rows span.from span.from span.to (map stmt_piece xs) (placed.maybe expr_piece c ++ (map expr_piece update ++ l ∷ [])) laid in
        let q = both_rows span.from p.0 span.to (placed.maybe expr_piece c) (map expr_piece update ++ l ∷ []) p.2 in
        let u = both_rows span.from q.0 span.to (map expr_piece update) (l ∷ []) q.2 in
        let w = laid_parts span.from u.0 span.to l nothing u.2 in
        let to_q = laid_up span.from p.0 q.0 (row (placed.maybe expr_piece c)) q.1 in
        let to_u = laid_up span.from q.0 u.0 (row (map expr_piece update)) u.1 in
        let to_w = laid_up span.from u.0 w.0 l w.1 in
        let last = w.2 in
        let s1 = after (all_told (map telling xs)) s in
        let n = parted g ground ((all_told (map telling xs)).notes s) ((bodies.condition_or_none c s1 ++ bodies.all_run update s1) ++ (t_of turn).notes (in_turn s1)) said in
        let n2 = parted g ground (bodies.condition_or_none c s1 ++ bodies.all_run update s1) ((t_of turn).notes (in_turn s1)) n.1 in
        let n3 = parted g ground (bodies.condition_or_none c s1) (bodies.all_run update s1) n2.0 in
        let here = stands_within g ground v s body span.from end span.from span.to (omega arith) le at in
        let begin = each_sounds g ground v xs (all_are first) s span.from span.from p.0 span.to body here p.1 (omega (arith, to_q, to_u, to_w, last)) kn.0 wr1.0 f1.0 n.0 in (
          both_true (each_sound (map statement_soundness xs) k span.to body) _ begin.0
              (subst (λ rs. where_made (statements.each rs g.site span.to body) (sound.loop_sound c update (s_of turn) k) ≡ true) (sym (runs_are xs))
              (made_so (statements.each (map statement xs) g.site span.to body) (sound.loop_sound c update (s_of turn) k)
              (makes_more (λ (made : Body). At s1 made p.0 span.to) (λ (made : Body). sound.loop_sound c update (s_of turn) k made ≡ true)
              (λ made there. looped_sound c update turn s1 span p.0 q.0 u.0 w.0 made there to_q to_u to_w last q.1 u.1 w.1 kn2.0 kn3.0 kn3.1 wr2.0 wr3.0 wr3.1 f2.0 f3.0 f3.1 n3.0 n3.1 n2.1)
              (statements.each (map statement xs) g.site span.to body) begin.1))),
          (λ e. no_locals e),
        )
      where
        looped_sound : (c : Option Expr) (update : List Expr) (turn : S) (s1 : Names) (span : Span) (m1 to_q to_u to_w : ℕ) (body : Body) → At s1 body m1 span.to → m1 ≤ to_q → to_q ≤ to_u → to_u ≤ to_w → to_w ≤ span.to
            → LaidOut span.from m1 to_q (row (placed.maybe expr_piece c)) → LaidOut span.from to_q to_u (row (map expr_piece update)) → LaidOut span.from to_u to_w (stmt_piece (stmt turn))
            → AllOf (IsKnown g) (parts.maybe expr_parts c) → AllOf (IsKnown g) (together (parts.each expr_parts update)) → AllOf (IsKnown g) (stmt_parts (stmt turn))
            → maybe_true is_written_expr c ≡ true → each_true is_written_expr update ≡ true → is_written_stmt (stmt turn) ≡ true → maybe_true is_readable_expr c ≡ true → each_true is_readable_expr update ≡ true → is_part (sh turn) ≡ true
            → Says g (bodies.condition_or_none c s1) → Says g (bodies.all_run update s1) → Says g ((t_of turn).notes (in_turn s1)) → sound.loop_sound c update (s_of turn) k body ≡ true
        looped_sound c update turn s1 span m1 q u w body at to_q to_u to_w last laid_c laid_u laid_t known_c known_u known_t wr_c wr_u wr_t fine_c fine_u fine_t said_c said_u said_t =
            made_so (in_loop body) _
            (makes_more (Same body) _
            (λ looping same.
            let inner = stands_same g ground v s1 body looping m1 span.to same.0 same.1 at in
            both_true (used_if c k looping) _ (condition_if c s1 m1 q span.to looping inner (omega (arith, to_u, to_w, last)) (any_start_if c span.from m1 m1 q laid_c) known_c wr_c fine_c said_c)
            (made_so (tested_if c g.site looping) _
            (makes_more (λ (asked : Tested). Same looping asked.body) _
            (λ asked again.
            let there = stands_inside g ground v s1 asked.body u span.to (stands_same g ground v s1 looping asked.body u span.to again.0 again.1 (stands_within g ground v s1 looping m1 span.to u span.to (omega (arith, to_q, to_u)) (omega arith) inner)) in
            let p = part_sounds g ground v (stmt turn) (stmt_is turn) (in_turn s1) span.from u w span.to asked.body there laid_t last known_t wr_t fine_t said_t in
            both_true (part_sound (s_of turn) k asked.body) _ p.0
            (branch_so (stmt turn) asked.body (λ made. all_ran_at update k (begun made.body))
            (makes_more (BehindPart g ground v (stmt turn) (stmt_is turn) (in_turn s1) u w span.to asked.body) (λ (made : Inside). all_ran_at update k (begun made.body) ≡ true)
            (λ made b.
            let early = scoped_for g s1 (in_turn s1) asked.body.locals inner.types asked.body.made.free q u refl refl refl (λ e. e) (λ e. e) refl refl
            (scoped_within g s1 asked.body.locals inner.types asked.body.made.free m1 span.to q u to_q (omega (arith, to_w, last)) (stands_same g ground v s1 looping asked.body m1 span.to again.0 again.1 inner).scoped) in
            let x = b.before q u inner.types (omega arith) early in
            all_ran_sound update s1 q q u u (begun made.body) x.0 (scoped_for g (in_turn s1) s1 made.body.locals x.0 made.body.made.free q u refl refl refl (λ e. e) (λ e. e) refl refl x.1) b.owned inner.object
            (omega arith) (omega arith) (any_start update span.from q q u laid_u) known_u wr_u fine_u said_u)
            (branch (statement (stmt turn)) g.site asked.body) p.1))) (tested_if c g.site looping) (tested_if_same c g.site looping)))) (in_loop body) (loop_same body))
          where
            any_start_if : (o : Option Expr) (start other lo hi : ℕ) → LaidOut start lo hi (row (placed.maybe expr_piece o)) → LaidOut other lo hi (row (placed.maybe expr_piece o))
            any_start_if None start other lo hi laid = laid
            any_start_if (Some e) start other lo hi laid = any_start (e ∷ []) start other lo hi laid

    -- ---- all forms

    return_layer : (value : Option Expr) → Layer (StmtKind-F.Return value)
    return_layer None span s end body at some le laid known wr fine said = (refl, (λ e. no_locals e))
    return_layer (Some e) span s end body at some le laid known wr fine said = (returned_at e s span end body at le laid known wr fine said, (λ e. no_locals e))

    layer_is : (y : StmtKind-F K S) → Layer y
    layer_is (StmtKind-F.Block xs) span s end body at some le laid known wr fine said =
        ((each_sounds g ground v (map stmt xs) (all_are xs) s span.from span.from span.to span.to body (stands_within g ground v s body span.from end span.from span.to (omega arith) le at) laid (omega arith) known.1 wr fine said).0, (λ e. no_locals e))
    layer_is StmtKind-F.Empty span s end body at some le laid known wr fine said = (refl, (λ e. no_locals e))
    layer_is (StmtKind-F.Local ds) span s end body at some le laid known wr fine said =
        let d = locals_sound g ground v ds s span.from span.to end body at le laid known.1 wr fine said in (d.0, (λ e. d.1))
    layer_is (StmtKind-F.If c first second) span s end body at some le laid known wr fine said = if_layer c first second span s end body at some le laid known wr fine said
    layer_is (StmtKind-F.While c turn) span s end body at some le laid known wr fine said = while_layer c turn span s end body at some le laid known wr fine said
    layer_is (StmtKind-F.Do turn c) span s end body at some le laid known wr fine said = do_layer turn c span s end body at some le laid known wr fine said
    layer_is (StmtKind-F.For first c update turn) span s end body at some le laid known wr fine said = for_layer first c update turn span s end body at some le laid known wr fine said
    layer_is StmtKind-F.Break span s end body at some le laid known wr fine said = (refl, (λ e. no_locals e))
    layer_is StmtKind-F.Continue span s end body at some le laid known wr fine said = (refl, (λ e. no_locals e))
    layer_is (StmtKind-F.Return value) span s end body at some le laid known wr fine said = return_layer value span s end body at some le laid known wr fine said
    layer_is (StmtKind-F.Throw ident) span s end body at some le laid known wr fine said = (refl, (λ e. no_locals e))
    layer_is (StmtKind-F.Print e) span s end body at some le laid known wr fine said = (printed_at e s span end body at le laid known wr fine said, (λ e. no_locals e))
    layer_is (StmtKind-F.Run e) span s end body at some le laid known wr fine said = (run_at e s span end body at le laid known wr fine said, (λ e. no_locals e))

    kind_rolled : (y : StmtKind-F K S) → KindIs (roll-StmtKind (map-StmtKind K S StmtKind Stmt kind stmt y))
    kind_rolled y span =
        let layer = map-StmtKind K S StmtKind Stmt kind stmt y in
        let x = roll-StmtKind layer in
        let a = fold-roll-StmtKind (Span → Run) Running statements.kind_step statements.stmt_step layer in
        let b = fold-roll-StmtKind (Span → Telling) Telling bodies.stmt_kind_step bodies.stmt_step layer in
        let c = fold-roll-StmtKind (List Layout) Layout placed.stmt_kind_pieces placed.stmt_of layer in
        let d = fold-roll-StmtKind (List Part) (List Part) parts.stmt_kind_step parts.stmt_step layer in
        let e = fold-roll-StmtKind Bool Bool written.stmt_kind_step (λ stmt. stmt.kind) layer in
        let f = fold-roll-StmtKind Statement Statement readable.stmt_kind_step (λ stmt. stmt.kind) layer in
        let h = fold-roll-StmtKind (Span → StatementSoundness) StatementSoundness sound.kind_step sound.stmt_step layer in
        let so = sound.kind_sound (map-StmtKind StmtKind Stmt (Span → StatementSoundness) StatementSoundness kind_soundness statement_soundness layer) span in
        let pieces = placed.stmt_kind_pieces (map-StmtKind StmtKind Stmt (List Layout) Layout kind_pieces stmt_piece layer) in
        let ps = parts.stmt_kind_step (map-StmtKind StmtKind Stmt (List Part) (List Part) kind_parts stmt_parts layer) in
        let w = written.stmt_kind_step (map-StmtKind StmtKind Stmt Bool Bool kind_written is_written_stmt layer) in
        let shape_is = readable.stmt_kind_step (map-StmtKind StmtKind Stmt Statement Statement kind_shape stmt_shape layer) in
        let t = bodies.stmt_kind_step (map-StmtKind StmtKind Stmt (Span → Telling) Telling kind_telling telling layer) in
        let one = subst (λ (x : Span → Run). Does span (x span) so (t span) pieces ps w shape_is) (sym a) (layer_is y span) in
        let two = subst (λ (x : Span → Telling). Does span (kind_run (roll-StmtKind layer) span) so (x span) pieces ps w shape_is) (sym b) one in
        let three = subst (λ (l : List Layout). Does span (kind_run x span) so (kind_telling x span) l ps w shape_is) (sym c) two in
        let four = subst (λ (l : List Part). Does span (kind_run x span) so (kind_telling x span) (kind_pieces x) l w shape_is) (sym d) three in
        let five = subst (λ (l : Bool). Does span (kind_run x span) so (kind_telling x span) (kind_pieces x) (kind_parts x) l shape_is) (sym e) four in
        let six = subst (λ (l : Statement). Does span (kind_run x span) so (kind_telling x span) (kind_pieces x) (kind_parts x) (kind_written x) l) (sym f) five in
        subst (λ (l : Span → StatementSoundness). Does span (kind_run x span) (l span).sound (kind_telling x span) (kind_pieces x) (kind_parts x) (kind_written x) (kind_shape x)) (sym h) six

    stmt_rolled : ((x : K) → KindIs (kind x)) → (y : Stmt-F K S) → StmtIs (roll-Stmt (map-Stmt K S StmtKind Stmt kind stmt y))
    stmt_rolled kind_is y =
        let layer = map-Stmt K S StmtKind Stmt kind stmt y in
        let x = kind y.kind in
        let a = fold-roll-Stmt (Span → Run) Running statements.kind_step statements.stmt_step layer in
        let b = fold-roll-Stmt (Span → Telling) Telling bodies.stmt_kind_step bodies.stmt_step layer in
        let c = fold-roll-Stmt (List Layout) Layout placed.stmt_kind_pieces placed.stmt_of layer in
        let d = fold-roll-Stmt (List Part) (List Part) parts.stmt_kind_step parts.stmt_step layer in
        let e = fold-roll-Stmt Bool Bool written.stmt_kind_step (λ stmt. stmt.kind) layer in
        let f = fold-roll-Stmt Statement Statement readable.stmt_kind_step (λ stmt. stmt.kind) layer in
        let h = fold-roll-Stmt (Span → StatementSoundness) StatementSoundness sound.kind_step sound.stmt_step layer in
        let Whole : Running → StatementSoundness → Telling → Layout → List Part → Bool → Statement → Type 0 = λ r so t l ps w shape_is.
        (inner : Layout) × (l ≡ node r.span inner nothing) × DoesSound g ground v r.span r.run so.sound t inner ps w shape_is in
        let first : Whole (record { span = y.span; run = kind_run x y.span }) (kind_soundness x y.span) (kind_telling x y.span) (node y.span (row (kind_pieces x)) nothing) (parts.statement y.span ∷ kind_parts x) (kind_written x) (kind_shape x) =
        (row (kind_pieces x), refl, (λ s end body at some le laid known. kind_is y.kind y.span s end body at some le laid known.1)) in
        let one = subst (λ (z : Running). Whole z (kind_soundness x y.span) (kind_telling x y.span) (node y.span (row (kind_pieces x)) nothing) (parts.statement y.span ∷ kind_parts x) (kind_written x) (kind_shape x)) (sym a) first in
        let two = subst (λ (z : Telling). Whole (statement (roll-Stmt layer)) (kind_soundness x y.span) z (node y.span (row (kind_pieces x)) nothing) (parts.statement y.span ∷ kind_parts x) (kind_written x) (kind_shape x)) (sym b) one in
        let three = subst (λ (z : Layout). Whole (statement (roll-Stmt layer)) (kind_soundness x y.span) (telling (roll-Stmt layer)) z (parts.statement y.span ∷ kind_parts x) (kind_written x) (kind_shape x)) (sym c) two in
        let four = subst (λ (z : List Part). Whole (statement (roll-Stmt layer)) (kind_soundness x y.span) (telling (roll-Stmt layer)) (stmt_piece (roll-Stmt layer)) z (kind_written x) (kind_shape x)) (sym d) three in
        let five = subst (λ (z : Bool). Whole (statement (roll-Stmt layer)) (kind_soundness x y.span) (telling (roll-Stmt layer)) (stmt_piece (roll-Stmt layer)) (stmt_parts (roll-Stmt layer)) z (kind_shape x)) (sym e) four in
        let six = subst (λ (z : Statement). Whole (statement (roll-Stmt layer)) (kind_soundness x y.span) (telling (roll-Stmt layer)) (stmt_piece (roll-Stmt layer)) (stmt_parts (roll-Stmt layer)) (is_written_stmt (roll-Stmt layer)) z) (sym f) five in
        let seven = subst (λ (z : StatementSoundness). Whole (statement (roll-Stmt layer)) z (telling (roll-Stmt layer)) (stmt_piece (roll-Stmt layer)) (stmt_parts (roll-Stmt layer)) (is_written_stmt (roll-Stmt layer)) (stmt_shape (roll-Stmt layer))) (sym h) six in
        record { inner = seven.0; placed = seven.1; sounds = seven.2 }

  -- A statement is sound.
  pub statement_sound : (x : Stmt) → StmtIs x
  statement_sound = ind-Stmt KindIs StmtIs
      (λ x y e. subst (λ layer. KindIs (roll-StmtKind layer)) e (kind_rolled (λ k. k.0) (λ s. s.0) (λ s. s.1) y))
      (λ x y e. subst (λ layer. StmtIs (roll-Stmt layer)) e (stmt_rolled (λ k. k.0) (λ s. s.0) (λ s. s.1) (λ k. k.1) y))

  pub statements_sound : (xs : List Stmt) → AllSound g ground v xs
  statements_sound [] = tt
  statements_sound (x ∷ xs) = (statement_sound x, statements_sound xs)
