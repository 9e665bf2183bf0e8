-- Every statement tells what it says.
use Rattle.std.proofs.Common.{◌≡◌, Bool, true, false, List, [], ◌∷◌, ◌++◌, map, Option, Some, None, refl, sym, subst, ◌∙◌}
use Rattle.std.specs.Prelude.{◌&&◌}
use Rattle.std.proofs.lemmas.Bool.{false≢true, and_parts}
use Rattle.ix_text.specs.declared.span.Span.{Span}
use Rattle.ix_core.specs.declared.claim.Type_.{Type_}
use Rattle.ix_tree.specs.declared.expr.Expr.{Expr}
use Rattle.ix_tree.specs.declared.stmt.Stmt.{Stmt, Stmt-F, ind-Stmt, map-Stmt, roll-Stmt, fold-roll-Stmt}
use Rattle.ix_tree.specs.declared.stmt.StmtKind.{StmtKind, StmtKind-F, map-StmtKind, roll-StmtKind, fold-StmtKind, fold-roll-StmtKind}
use Rattle.ix_tree.specs.Parts as parts
use Rattle.ix_tree.specs.Parts.{Part, stmt_parts, expr_parts, together}
use Rattle.ix_tree.specs.Placed as placed
use Rattle.ix_tree.specs.Placed.{Layout, nothing, node, row, stmt_piece}
use Rattle.ix_meaning.specs.Bodies as bodies
use Rattle.ix_meaning.specs.Bodies.{Telling, telling, after}
use Rattle.ix_meaning.specs.Scope.{Scope as Names}
use Rattle.ix_plain.specs.Statements as statements
use Rattle.ix_plain.specs.Statements.{Run, Running}
use Rattle.ix_formed.specs.LocalTypes.{types_step, stmt_types}
use Rattle.ix_formed.specs.Readable as readable
use Rattle.ix_formed.specs.Readable.{Statement, stmt_shape, shape, is_part, is_readable_expr, each_fine}
use Rattle.ix_formed.specs.TypedParts.{DoesTell, KeepsNames, IsStatement}
use Rattle.ix_formed.specs.TypedStatements.{Ground, IsGround, IsKnown}
use Rattle.ix_formed.specs.Written as written
use Rattle.ix_formed.specs.Written.{is_written_stmt, is_written_expr, all_true, each_true, maybe_true}
use Rattle.ix_formed.proofs.TypedExpressions.{all_parted}
use Rattle.ix_formed.proofs.TypedFor.{AreStatements, block_tells, for_tells}
use Rattle.ix_formed.proofs.TypedForms.{empty_tells, break_tells, continue_tells, throw_tells, return_tells, run_tells, print_tells, given_back_tells, locals_tell}
use Rattle.ix_formed.proofs.TypedLoops.{if_tells, else_tells, while_tells, do_tells}

module _ (g : Ground) (ground : IsGround g) where
  abbrev kind_run : StmtKind → Span → Run
  kind_run = fold-StmtKind (Span → Run) Running statements.kind_step statements.stmt_step

  abbrev kind_telling : StmtKind → Span → Telling
  kind_telling = bodies.kind_telling

  abbrev kind_pieces : StmtKind → List Layout
  kind_pieces = fold-StmtKind (List Layout) Layout placed.stmt_kind_pieces placed.stmt_of

  abbrev kind_parts : StmtKind → List Part
  kind_parts = fold-StmtKind (List Part) (List Part) parts.stmt_kind_step parts.stmt_step

  abbrev kind_written : StmtKind → Bool
  kind_written = fold-StmtKind Bool Bool written.stmt_kind_step (λ stmt. stmt.kind)

  abbrev kind_shape : StmtKind → Statement
  kind_shape = fold-StmtKind Statement Statement readable.stmt_kind_step (λ stmt. stmt.kind)

  abbrev kind_types : StmtKind → List Type_
  kind_types = fold-StmtKind (List Type_) (List Type_) (types_step g.site.names) (λ stmt. stmt.kind)

  -- a statement's kind, at its place
  abbrev Both : Span → Run → Telling → List Layout → List Part → Bool → Statement → List Type_ → Type 0
  Both span run t pieces ps w sh own = DoesTell g span run t (row pieces) ps w sh own × KeepsNames g t sh

  abbrev KindIs : StmtKind → Type 0
  KindIs k = (span : Span) → Both span (kind_run k span) (kind_telling k span) (kind_pieces k) (kind_parts k) (kind_written k) (kind_shape k) (kind_types k)

  abbrev StmtIs : Stmt → Type 0
  StmtIs x = IsStatement g (statements.statement x) (telling x) (stmt_piece x) (stmt_parts x) (is_written_stmt x) (stmt_shape x) (stmt_types g.site.names x)

  same_names : (t : Telling) (sh : Statement) → ((s : Names) → t.names s ≡ s.names) → KeepsNames g t sh
  same_names t sh same fine declares s = same s

  -- what parts of a statement keep
  part_shape : (sh : Statement) → is_part sh ≡ true → (sh.fine ≡ true) × (sh.declares ≡ false)
  part_shape sh e = let q = and_parts (Rattle.std.specs.Prelude.not sh.declares) sh.fine e in (q.1, no_declares sh.declares q.0)
    where
      no_declares : (b : Bool) → Rattle.std.specs.Prelude.not b ≡ true → b ≡ false
      no_declares true e = absurd (false≢true e)
      no_declares false e = refl

  module _ {K S : Type 0} (kind : K → StmtKind) (stmt : S → Stmt) (stmt_is : (x : S) → StmtIs (stmt x)) where
    abbrev run_of : S → Running
    run_of x = statements.statement (stmt x)

    abbrev told : S → Telling
    told x = telling (stmt x)

    abbrev all_runs : List S → List Running
    all_runs xs = map statements.statement (map stmt xs)

    are_statements : (xs : List S) → AreStatements g ground (map statements.statement (map stmt xs)) (map telling (map stmt xs)) (map stmt_piece (map stmt xs)) (map stmt_parts (map stmt xs)) (map is_written_stmt (map stmt xs)) (map stmt_shape (map stmt xs)) (map (stmt_types g.site.names) (map stmt xs))
    are_statements [] = tt
    are_statements (x ∷ xs) = (stmt_is x, are_statements xs)

    -- the names behind a part are those before it
    names_of : (x : S) → is_part (stmt_shape (stmt x)) ≡ true → (s : Names) → (told x).names s ≡ s.names
    names_of x e s = let q = part_shape (stmt_shape (stmt x)) e in (stmt_is x).names q.0 q.1 s

    abbrev Layer : StmtKind-F K S → Type 0
    Layer y = let layer = map-StmtKind K S StmtKind Stmt kind stmt y in (span : Span)
        → Both span (statements.kind_step (map-StmtKind StmtKind Stmt (Span → Run) Running kind_run statements.statement layer) span)
        (bodies.stmt_kind_step (map-StmtKind StmtKind Stmt (Span → Telling) Telling kind_telling telling layer) span)
        (placed.stmt_kind_pieces (map-StmtKind StmtKind Stmt (List Layout) Layout kind_pieces stmt_piece layer))
        (parts.stmt_kind_step (map-StmtKind StmtKind Stmt (List Part) (List Part) kind_parts stmt_parts layer))
        (written.stmt_kind_step (map-StmtKind StmtKind Stmt Bool Bool kind_written is_written_stmt layer))
        (readable.stmt_kind_step (map-StmtKind StmtKind Stmt Statement Statement kind_shape stmt_shape layer))
        (types_step g.site.names (map-StmtKind StmtKind Stmt (List Type_) (List Type_) kind_types (stmt_types g.site.names) layer))

    if_layer : (c : Expr) (first : S) (second : Option S) → Layer (StmtKind-F.If c first second)
    if_layer c first None span = (
      (λ s end body types point scoped stands counted some le laid known wr fine said.
          let k = all_parted (IsKnown g) (expr_parts c) (stmt_parts (stmt first)) known in
          let w = and_parts (is_written_expr c) (is_written_stmt (stmt first) && true) wr in
          let v = and_parts (is_written_stmt (stmt first)) true w.1 in
          let f = and_parts (is_readable_expr c) (is_part (stmt_shape (stmt first)) && true) fine in
          let h = and_parts (is_part (stmt_shape (stmt first))) true f.1 in
          if_tells g ground c (run_of first) (told first) (stmt_piece (stmt first)) (stmt_parts (stmt first)) (is_written_stmt (stmt first)) (stmt_shape (stmt first)) (stmt_types g.site.names (stmt first)) (stmt_is first) h.0 v.0 k.1 k.0 w.0 f.0 s span end body types point scoped stands counted some le laid said),
      (λ fine declares s. let f = and_parts (is_readable_expr c) (is_part (stmt_shape (stmt first)) && true) fine in let h = and_parts (is_part (stmt_shape (stmt first))) true f.1 in names_of first h.0 s),
    )
    if_layer c first (Some second) span = (
      (λ s end body types point scoped stands counted some le laid known wr fine said.
          let k = all_parted (IsKnown g) (expr_parts c) (stmt_parts (stmt first) ++ stmt_parts (stmt second)) known in
          let k2 = all_parted (IsKnown g) (stmt_parts (stmt first)) (stmt_parts (stmt second)) k.1 in
          let w = and_parts (is_written_expr c) (is_written_stmt (stmt first) && is_written_stmt (stmt second)) wr in
          let v = and_parts (is_written_stmt (stmt first)) (is_written_stmt (stmt second)) w.1 in
          let f = and_parts (is_readable_expr c) (is_part (stmt_shape (stmt first)) && is_part (stmt_shape (stmt second))) fine in
          let h = and_parts (is_part (stmt_shape (stmt first))) (is_part (stmt_shape (stmt second))) f.1 in
          else_tells g ground c (run_of first) (told first) (stmt_piece (stmt first)) (stmt_parts (stmt first)) (is_written_stmt (stmt first)) (stmt_shape (stmt first)) (stmt_types g.site.names (stmt first)) (stmt_is first) h.0 v.0 k2.0 k.0 w.0 f.0 s span end body types point scoped stands counted some le
          (run_of second) (told second) (stmt_piece (stmt second)) (stmt_parts (stmt second)) (is_written_stmt (stmt second)) (stmt_shape (stmt second)) (stmt_types g.site.names (stmt second)) (stmt_is second) h.1 v.1 k2.1 laid said),
      (λ fine declares s. let f = and_parts (is_readable_expr c) (is_part (stmt_shape (stmt first)) && is_part (stmt_shape (stmt second))) fine in
          let h = and_parts (is_part (stmt_shape (stmt first))) (is_part (stmt_shape (stmt second))) f.1 in names_of second h.1 (after (told first) s) ∙ names_of first h.0 s),
    )

    while_layer : (c : Expr) (turn : S) → Layer (StmtKind-F.While c turn)
    while_layer c turn span = (
      (λ s end body types point scoped stands counted some le laid known wr fine said.
          let k = all_parted (IsKnown g) (expr_parts c) (stmt_parts (stmt turn)) known in
          let w = and_parts (is_written_expr c) (is_written_stmt (stmt turn)) wr in
          let f = and_parts (is_readable_expr c) (is_part (stmt_shape (stmt turn))) fine in
          while_tells g ground c (run_of turn) (told turn) (stmt_piece (stmt turn)) (stmt_parts (stmt turn)) (is_written_stmt (stmt turn)) (stmt_shape (stmt turn)) (stmt_types g.site.names (stmt turn)) (stmt_is turn) f.1 w.1 k.1 k.0 w.0 f.0 s span end body types point scoped stands counted some le laid said),
      (λ fine declares s. let f = and_parts (is_readable_expr c) (is_part (stmt_shape (stmt turn))) fine in names_of turn f.1 (bodies.inside s)),
    )

    do_layer : (turn : S) (c : Expr) → Layer (StmtKind-F.Do turn c)
    do_layer turn c span = (
      (λ s end body types point scoped stands counted some le laid known wr fine said.
          let k = all_parted (IsKnown g) (stmt_parts (stmt turn)) (expr_parts c) known in
          let w = and_parts (is_written_stmt (stmt turn)) (is_written_expr c) wr in
          let f = and_parts (is_part (stmt_shape (stmt turn))) (is_readable_expr c) fine in
          do_tells g ground c (run_of turn) (told turn) (stmt_piece (stmt turn)) (stmt_parts (stmt turn)) (is_written_stmt (stmt turn)) (stmt_shape (stmt turn)) (stmt_types g.site.names (stmt turn)) (stmt_is turn) f.0 w.0 k.0 k.1 w.1 f.1 s span end body types point scoped stands counted some le laid said),
      (λ fine declares s. let f = and_parts (is_part (stmt_shape (stmt turn))) (is_readable_expr c) fine in names_of turn f.0 (bodies.inside s)),
    )

    for_layer : (first : List S) (c : Option Expr) (update : List Expr) (turn : S) → Layer (StmtKind-F.For first c update turn)
    for_layer first c update turn span = (
      (λ s end body types point scoped stands counted some le laid known wr fine said.
          let k = all_parted (IsKnown g) (together (map stmt_parts (map stmt first))) (parts.maybe expr_parts c ++ (parts.listed (parts.each expr_parts update) ++ stmt_parts (stmt turn))) known.1 in
          let k2 = all_parted (IsKnown g) (parts.maybe expr_parts c) (parts.listed (parts.each expr_parts update) ++ stmt_parts (stmt turn)) k.1 in
          let k3 = all_parted (IsKnown g) (together (parts.each expr_parts update)) (stmt_parts (stmt turn)) k2.1.1 in
          let w = and_parts (all_true (map is_written_stmt (map stmt first))) (maybe_true is_written_expr c && (each_true is_written_expr update && is_written_stmt (stmt turn))) wr in
          let w2 = and_parts (maybe_true is_written_expr c) (each_true is_written_expr update && is_written_stmt (stmt turn)) w.1 in
          let w3 = and_parts (each_true is_written_expr update) (is_written_stmt (stmt turn)) w2.1 in
          let f = and_parts (each_fine (map stmt_shape (map stmt first))) (maybe_true is_readable_expr c && (each_true is_readable_expr update && is_part (stmt_shape (stmt turn)))) fine in
          let f2 = and_parts (maybe_true is_readable_expr c) (each_true is_readable_expr update && is_part (stmt_shape (stmt turn))) f.1 in
          let f3 = and_parts (each_true is_readable_expr update) (is_part (stmt_shape (stmt turn))) f2.1 in
          for_tells g ground (map statements.statement (map stmt first)) (map telling (map stmt first)) (map stmt_piece (map stmt first)) (map stmt_parts (map stmt first)) (map is_written_stmt (map stmt first)) (map stmt_shape (map stmt first)) (map (stmt_types g.site.names) (map stmt first)) (are_statements first)
          k.0 w.0 f.0 s span end body types point scoped stands counted some le c update (run_of turn) (told turn) (stmt_piece (stmt turn)) (stmt_parts (stmt turn)) (is_written_stmt (stmt turn)) (stmt_shape (stmt turn)) (stmt_types g.site.names (stmt turn)) (stmt_is turn) f3.1 w3.1 k3.1 k2.0 w2.0 f2.0
          k3.0 w3.0 f3.0 laid said),
      (λ fine declares s. refl),
    )

    return_layer : (value : Option Expr) → Layer (StmtKind-F.Return value)
    return_layer None span = ((λ s end body types point scoped stands counted some le laid known wr fine said. return_tells g ground (bodies.stmt_kind_step (StmtKind-F.Return None) span) s span end body types point scoped stands counted some refl refl (bodies.keyword span 6) said), (λ fine declares s. refl))
    return_layer (Some e) span = (
      (λ s end body types point scoped stands counted some le laid known wr fine said. given_back_tells g ground (bodies.stmt_kind_step (StmtKind-F.Return (Some e)) span) s span end body types point scoped stands counted some refl refl e laid known wr fine le said),
      (λ fine declares s. refl),
    )

    layer_is : (y : StmtKind-F K S) → Layer y
    layer_is (StmtKind-F.Block xs) span = (
      (λ s end body types point scoped stands counted some le laid known wr fine said.
          block_tells g ground (map statements.statement (map stmt xs)) (map telling (map stmt xs)) (map stmt_piece (map stmt xs)) (map stmt_parts (map stmt xs)) (map is_written_stmt (map stmt xs)) (map stmt_shape (map stmt xs)) (map (stmt_types g.site.names) (map stmt xs)) (are_statements xs) known.1 wr fine s span end body
          types point scoped stands counted some le laid said),
      (λ fine declares s. refl),
    )
    layer_is StmtKind-F.Empty span = ((λ s end body types point scoped stands counted some le laid known wr fine said. empty_tells g ground (bodies.stmt_kind_step StmtKind-F.Empty span) s span end body types point scoped stands counted some refl refl), (λ fine declares s. refl))
    layer_is (StmtKind-F.Local ds) span = (
      (λ s end body types point scoped stands counted some le laid known wr fine said. locals_tell g ground ds s span.from span.to end body types point scoped stands counted le laid known.1 wr fine said),
      (λ fine declares s. absurd (false≢true (sym declares))),
    )
    layer_is (StmtKind-F.If c first second) span = if_layer c first second span
    layer_is (StmtKind-F.While c turn) span = while_layer c turn span
    layer_is (StmtKind-F.Do turn c) span = do_layer turn c span
    layer_is (StmtKind-F.For first c update turn) span = for_layer first c update turn span
    layer_is StmtKind-F.Break span = (
      (λ s end body types point scoped stands counted some le laid known wr fine said. break_tells g ground (bodies.stmt_kind_step StmtKind-F.Break span) s span end body types point scoped stands counted some refl refl (bodies.keyword span 5) said),
      (λ fine declares s. refl),
    )
    layer_is StmtKind-F.Continue span = (
      (λ s end body types point scoped stands counted some le laid known wr fine said. continue_tells g ground (bodies.stmt_kind_step StmtKind-F.Continue span) s span end body types point scoped stands counted some refl refl (bodies.keyword span 8) said),
      (λ fine declares s. refl),
    )
    layer_is (StmtKind-F.Return value) span = return_layer value span
    layer_is (StmtKind-F.Throw ident) span = (
      (λ s end body types point scoped stands counted some le laid known wr fine said. throw_tells g ground (bodies.stmt_kind_step (StmtKind-F.Throw ident) span) s span end body types point scoped stands counted some refl refl ident.text),
      (λ fine declares s. refl),
    )
    layer_is (StmtKind-F.Print e) span = (
      (λ s end body types point scoped stands counted some le laid known wr fine said. print_tells g ground (bodies.stmt_kind_step (StmtKind-F.Print e) span) s span end body types point scoped stands counted some refl refl e laid known wr fine le said),
      (λ fine declares s. refl),
    )
    layer_is (StmtKind-F.Run e) span = (
      (λ s end body types point scoped stands counted some le laid known wr fine said. run_tells g ground (bodies.stmt_kind_step (StmtKind-F.Run e) span) s span end body types point scoped stands counted some refl refl e laid known wr fine le said),
      (λ fine declares s. refl),
    )

    kind_rolled : (y : StmtKind-F K S) → KindIs (roll-StmtKind (map-StmtKind K S StmtKind Stmt kind stmt y))
    kind_rolled y span =
        let layer = map-StmtKind K S StmtKind Stmt kind stmt y in
        let k = roll-StmtKind layer in
        let a = fold-roll-StmtKind (Span → Run) Running statements.kind_step statements.stmt_step layer in
        let b = fold-roll-StmtKind (Span → Telling) Telling bodies.stmt_kind_step bodies.stmt_step layer in
        let c = fold-roll-StmtKind (List Layout) Layout placed.stmt_kind_pieces placed.stmt_of layer in
        let d = fold-roll-StmtKind (List Part) (List Part) parts.stmt_kind_step parts.stmt_step layer in
        let e = fold-roll-StmtKind Bool Bool written.stmt_kind_step (λ stmt. stmt.kind) layer in
        let f = fold-roll-StmtKind Statement Statement readable.stmt_kind_step (λ stmt. stmt.kind) layer in
        let h = fold-roll-StmtKind (List Type_) (List Type_) (types_step g.site.names) (λ stmt. stmt.kind) layer in
        let own = types_step g.site.names (map-StmtKind StmtKind Stmt (List Type_) (List Type_) kind_types (stmt_types g.site.names) layer) in
        let pieces = placed.stmt_kind_pieces (map-StmtKind StmtKind Stmt (List Layout) Layout kind_pieces stmt_piece layer) in
        let ps = parts.stmt_kind_step (map-StmtKind StmtKind Stmt (List Part) (List Part) kind_parts stmt_parts layer) in
        let w = written.stmt_kind_step (map-StmtKind StmtKind Stmt Bool Bool kind_written is_written_stmt layer) in
        let sh = readable.stmt_kind_step (map-StmtKind StmtKind Stmt Statement Statement kind_shape stmt_shape layer) in
        let t = bodies.stmt_kind_step (map-StmtKind StmtKind Stmt (Span → Telling) Telling kind_telling telling layer) in
        let one = subst (λ (x : Span → Run). Both span (x span) (t span) pieces ps w sh own) (sym a) (layer_is y span) in
        let two = subst (λ (x : Span → Telling). Both span (kind_run k span) (x span) pieces ps w sh own) (sym b) one in
        let three = subst (λ (x : List Layout). Both span (kind_run k span) (kind_telling k span) x ps w sh own) (sym c) two in
        let four = subst (λ (x : List Part). Both span (kind_run k span) (kind_telling k span) (kind_pieces k) x w sh own) (sym d) three in
        let five = subst (λ (x : Bool). Both span (kind_run k span) (kind_telling k span) (kind_pieces k) (kind_parts k) x sh own) (sym e) four in
        let six = subst (λ (x : Statement). Both span (kind_run k span) (kind_telling k span) (kind_pieces k) (kind_parts k) (kind_written k) x own) (sym f) five in
        subst (λ (x : List Type_). Both span (kind_run k span) (kind_telling k span) (kind_pieces k) (kind_parts k) (kind_written k) (kind_shape k) x) (sym h) six

    stmt_rolled : ((k : K) → KindIs (kind k)) → (y : Stmt-F K S) → StmtIs (roll-Stmt (map-Stmt K S StmtKind Stmt kind stmt y))
    stmt_rolled kind_is y =
        let layer = map-Stmt K S StmtKind Stmt kind stmt y in
        let x = roll-Stmt layer in
        let k = kind y.kind in
        let a = fold-roll-Stmt (Span → Run) Running statements.kind_step statements.stmt_step layer in
        let b = fold-roll-Stmt (Span → Telling) Telling bodies.stmt_kind_step bodies.stmt_step layer in
        let c = fold-roll-Stmt (List Layout) Layout placed.stmt_kind_pieces placed.stmt_of layer in
        let d = fold-roll-Stmt (List Part) (List Part) parts.stmt_kind_step parts.stmt_step layer in
        let e = fold-roll-Stmt Bool Bool written.stmt_kind_step (λ stmt. stmt.kind) layer in
        let f = fold-roll-Stmt Statement Statement readable.stmt_kind_step (λ stmt. stmt.kind) layer in
        let h = fold-roll-Stmt (List Type_) (List Type_) (types_step g.site.names) (λ stmt. stmt.kind) layer in
        let g1 = kind_is y.kind y.span in
        let r : Running = record { span = y.span; run = kind_run k y.span } in
        let l = node y.span (row (kind_pieces k)) nothing in
        let ps = parts.statement y.span ∷ kind_parts k in
        let first : IsStatement g r (kind_telling k y.span) l ps (kind_written k) (kind_shape k) (kind_types k) = record {
          inner = row (kind_pieces k);
          placed = refl;
          tells = λ s end body types point scoped stands counted some le laid known. g1.0 s end body types point scoped stands counted some le laid known.1;
          names = g1.1;
        } in
        let one = subst (λ (v : Running). IsStatement g v (kind_telling k y.span) l ps (kind_written k) (kind_shape k) (kind_types k)) (sym a) first in
        let two = subst (λ (v : Telling). IsStatement g (statements.statement x) v l ps (kind_written k) (kind_shape k) (kind_types k)) (sym b) one in
        let three = subst (λ (v : Layout). IsStatement g (statements.statement x) (telling x) v ps (kind_written k) (kind_shape k) (kind_types k)) (sym c) two in
        let four = subst (λ (v : List Part). IsStatement g (statements.statement x) (telling x) (stmt_piece x) v (kind_written k) (kind_shape k) (kind_types k)) (sym d) three in
        let five = subst (λ (v : Bool). IsStatement g (statements.statement x) (telling x) (stmt_piece x) (stmt_parts x) v (kind_shape k) (kind_types k)) (sym e) four in
        let six = subst (λ (v : Statement). IsStatement g (statements.statement x) (telling x) (stmt_piece x) (stmt_parts x) (is_written_stmt x) v (kind_types k)) (sym f) five in
        subst (λ (v : List Type_). IsStatement g (statements.statement x) (telling x) (stmt_piece x) (stmt_parts x) (is_written_stmt x) (stmt_shape x) v) (sym h) six

  pub statement_is : (x : Stmt) → StmtIs x
  statement_is = ind-Stmt KindIs StmtIs
      (λ x y e. subst (λ layer. KindIs (roll-StmtKind layer)) e (kind_rolled (λ k. k.0) (λ s. s.0) (λ s. s.1) y))
      (λ x y e. subst (λ layer. StmtIs (roll-Stmt layer)) e (stmt_rolled (λ k. k.0) (λ s. s.0) (λ s. s.1) (λ k. k.1) y))

  pub statements_are : (xs : List Stmt) → AreStatements g ground (map statements.statement xs) (map telling xs) (map stmt_piece xs) (map stmt_parts xs) (map is_written_stmt xs) (map stmt_shape xs) (map (stmt_types g.site.names) xs)
  statements_are [] = tt
  statements_are (x ∷ xs) = (statement_is x, statements_are xs)
