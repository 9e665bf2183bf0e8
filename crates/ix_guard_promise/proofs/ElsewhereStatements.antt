-- The code of a statement in which no access stands at a place, in no part of it, has none at that place.
use Rattle.std.proofs.Common.{◌≡◌, ◌≤◌, ℕ, ◌+◌, Bool, true, false, List, [], ◌∷◌, ◌++◌, map, Option, Some, None, Ok, Err, refl, sym, ap, subst, ◌∙◌, arith, append_assoc}
use Rattle.std.specs.Prelude.{if◌then◌else◌, ◌&&◌, not, nat_lt}
use Rattle.std.proofs.lemmas.Bool.{and_parts}
use Rattle.std.proofs.lemmas.List.{append-nil}
use Rattle.ix_text.specs.declared.span.Span.{Span}
use Rattle.ix_core.specs.declared.code.Block.{Block}
use Rattle.ix_core.specs.declared.code.Cond.{Cond}
use Rattle.ix_core.specs.declared.code.Item.{Item}
use Rattle.ix_core.specs.declared.code.Item.TheVariants as item
use Rattle.ix_core.specs.declared.op.Op.{Op}
use Rattle.ix_core.specs.Code.{End, item_code, items_code, cond_code}
use Rattle.ix_core.proofs.Translated.{item_code-If, item_code-Loop}
use Rattle.ix_tree.specs.declared.expr.Expr.{Expr}
use Rattle.ix_tree.specs.declared.stmt.Stmt.{Stmt, Stmt-F, ind-Stmt, map-Stmt, roll-Stmt, fold-roll-Stmt}
use Rattle.ix_tree.specs.declared.stmt.StmtKind.{StmtKind, StmtKind-F, map-StmtKind, roll-StmtKind, fold-StmtKind, fold-roll-StmtKind}
use Rattle.ix_meaning.specs.declared.note.Which.TheVariants as which
use Rattle.ix_plain.specs.declared.body.Body.{Body}
use Rattle.ix_plain.specs.declared.made.Made.{Made}
use Rattle.ix_plain.specs.Scope.{Site}
use Rattle.ix_plain.specs.Parts.{Within, ◌>>=◌, empty, with_item}
use Rattle.ix_plain.specs.Statements as statements
use Rattle.ix_plain.specs.Statements.{Running, Run, Inside, Tested, with_last, ran, all_ran, tested, tested_if, inside, in_loop, most_loops, no_block}
use Rattle.ix_formed.specs.Additions.{Makes, AllOf}
use Rattle.ix_formed.specs.Readable as readable
use Rattle.ix_formed.specs.Readable.{Statement, stmt_shape, is_readable_expr, is_readable_stmt, each_fine, is_part}
use Rattle.ix_formed.specs.Written.{maybe_true, each_true}
use Rattle.ix_formed.proofs.NumberLists.{all_split}
use Rattle.ix_formed.proofs.PlainItems.{makes_more, makes_then}
use Rattle.ix_guard_promise.specs.Pieces.{EachOp, EachAsked, IsElsewhere}
use Rattle.ix_guard_promise.specs.AllAccesses.{AnyAccess, all, maybe, each_of, all_accesses}
use Rattle.ix_guard_promise.specs.AtPlace as at_place
use Rattle.ix_guard_promise.specs.AtPlace.{IsOff, HasNone, stmt_accesses}
use Rattle.ix_guard_promise.specs.KeptSlots.{Leaves, Appends}
use Rattle.ix_guard_promise.proofs.KeptItems.{each_items}
use Rattle.ix_guard_promise.proofs.FullExpressions.{TestLeaves}
use Rattle.ix_guard_promise.proofs.Elsewhere.{ran_elsewhere, printed_elsewhere, returned_elsewhere, tested_elsewhere, declarations_elsewhere}

-- ---- what is added, one behind the other

module _ {P : Op → Type 0} where
  pub appends_none : (made : Made) → Appends P made made
  appends_none made = record { items = []; appended = sym (append-nil made.items); each = tt; up = omega arith }

  pub appends_both : (first second third : Made) → Appends P first second → Appends P second third → Appends P first third
  appends_both first second third a b = record {
    items = a.items ++ b.items;
    appended = b.appended ∙ ap (λ items. items ++ b.items) a.appended ∙ append_assoc first.items a.items b.items;
    each = each_items P a.items b.items a.each b.each;
    up = let one = a.up in let two = b.up in omega (arith, one, two);
  }

  pub leaves_appends : (before after : Made) → Leaves P before after → Appends P before after
  leaves_appends before after l = record { items = l.items; appended = l.appended; each = l.each; up = l.up }

  -- one item more, behind what is as it was
  pub appends_last : (before after : Made) (last : Item) → after ≡ before → EachOp P (item_code last End) → Appends P before (with_item after last)
  appends_last before after last same each = record {
    items = last ∷ [];
    appended = ap (λ (m : Made). m.items ++ last ∷ []) same;
    each = each;
    up = let e = ap (λ (m : Made). m.free) same in omega (arith, e);
  }

  -- all of a block that was made from nothing
  pub appended_each : (free : ℕ) (made : Made) → Appends P (empty free) made → EachOp P (items_code made.items)
  appended_each free made a = subst (λ items. EachOp P (items_code items)) (sym a.appended) a.each

choice_each : (P : Op → Type 0) (asked : Cond) (first second : Block) → EachAsked P (cond_code asked) → EachOp P (items_code first.items) → EachOp P (items_code second.items)
    → EachOp P (item_code (item.If asked first second) End)
choice_each P asked first second a b c = subst (EachOp P) (sym (item_code-If asked first second End)) (a, (b, (c, tt)))

loop_each : (P : Op → Type 0) (test_first : Bool) (asked : Cond) (body next : Block) (number scope : ℕ) → EachAsked P (cond_code asked) → EachOp P (items_code body.items) → EachOp P (items_code next.items)
    → EachOp P (item_code (item.Loop test_first asked body next number scope) End)
loop_each P test_first asked body next number scope a b c = subst (EachOp P) (sym (item_code-Loop test_first asked body next number scope End)) (a, (b, (c, tt)))

module _ (place : Span) where
  abbrev pub Elsewhere : Body → Body → Type 0
  Elsewhere before after = Appends (IsElsewhere place) before.made after.made

  -- it holds of what a statement becomes, wherever it stands
  abbrev pub RunsElsewhere : Running → Type 0
  RunsElsewhere part = (site : Site) (end : ℕ) (body : Body) → Makes (Elsewhere body) (part.run site end body)

  then_elsewhere : (body : Body) (r : Within Body) (next : Body → Within Body) → Makes (Elsewhere body) r → ((after : Body) → Makes (Elsewhere after) (next after)) → Makes (Elsewhere body) (r >>= next)
  then_elsewhere body r next first second =
      makes_then (Elsewhere body) (Elsewhere body) r next first
      (λ after a. makes_more (Elsewhere after) (Elsewhere body) (λ last b. appends_both body.made after.made last.made a b) (next after) (second after))

  from_leaves : (body : Body) (r : Within Body) → Makes (λ after. Leaves (IsElsewhere place) body.made after.made) r → Makes (Elsewhere body) r
  from_leaves body r leaves = makes_more (λ after. Leaves (IsElsewhere place) body.made after.made) (Elsewhere body) (λ after l. leaves_appends body.made after.made l) r leaves

  each_elsewhere : (rs : List Running) → AllOf RunsElsewhere rs → (site : Site) (end : ℕ) (body : Body) → Makes (Elsewhere body) (statements.each rs site end body)
  each_elsewhere [] all site end body = appends_none body.made
  each_elsewhere (r ∷ rs) all site end body = then_elsewhere body (r.run site end body) (statements.each rs site end) (all.0 site end body) (λ after. each_elsewhere rs all.1 site end after)

  all_ran_elsewhere : (es : List Expr) (site : Site) (body : Body) → each_true is_readable_expr es ≡ true → HasNone place (each_of all_accesses es) → Makes (Elsewhere body) (all_ran es site body)
  all_ran_elsewhere [] site body fine none = appends_none body.made
  all_ran_elsewhere (e ∷ es) site body fine none =
      let f = and_parts (is_readable_expr e) (each_true is_readable_expr es) fine in
      let n = all_split (IsOff place) (all_accesses e) (each_of all_accesses es) none in
      then_elsewhere body (ran site e body) (all_ran es site) (from_leaves body (ran site e body) (ran_elsewhere place site body e f.0 n.0)) (λ after. all_ran_elsewhere es site after f.1 n.1)

  -- ---- conditions and blocks of their own, which add nothing before the item that they are in

  record AsksElsewhere (made : Made) (t : Tested) : Type 0 where
    asked : EachAsked (IsElsewhere place) (cond_code t.cond)
    same : t.body.made ≡ made

  asks_elsewhere : (e : Expr) (site : Site) (body : Body) → is_readable_expr e ≡ true → HasNone place (all_accesses e) → Makes (AsksElsewhere body.made) (tested site e body)
  asks_elsewhere e site body fine none =
      makes_more (TestLeaves (IsElsewhere place) body) (AsksElsewhere body.made) (λ t l. record { asked = l.asked.each; same = l.made }) (tested site e body) (tested_elsewhere place site body e fine none)

  asks_if_elsewhere : (e : Option Expr) (site : Site) (body : Body) → maybe_true is_readable_expr e ≡ true → HasNone place (maybe all_accesses e)
      → Makes (AsksElsewhere body.made) (tested_if e site body)
  asks_if_elsewhere (Some e) site body fine none = asks_elsewhere e site body fine none
  asks_if_elsewhere None site body fine none = record { asked = tt; same = refl }

  record InsideElsewhere (made : Made) (i : Inside) : Type 0 where
    each : EachOp (IsElsewhere place) (items_code i.block.items)
    same : i.body.made ≡ made

  abbrev begun_block : Body → Body
  begun_block body = record body { made = empty body.made.free }

  inside_elsewhere : (run : Body → Within Body) (body : Body) → Makes (Elsewhere (begun_block body)) (run (begun_block body)) → Makes (InsideElsewhere body.made) (inside run body)
  inside_elsewhere run body r =
      makes_then (Elsewhere (begun_block body)) (InsideElsewhere body.made) (run (begun_block body)) _ r (λ inner a. record { each = appended_each body.made.free inner.made a; same = refl })

  branch_elsewhere : (part : Running) → RunsElsewhere part → (site : Site) (body : Body) → Makes (InsideElsewhere body.made) (statements.branch part site body)
  branch_elsewhere part runs site body = inside_elsewhere (part.run site part.span.to) body (runs site part.span.to (begun_block body))

  abbrev OptionRuns : Option Running → Type 0
  OptionRuns None = Unit {0}
  OptionRuns (Some part) = RunsElsewhere part

  branch_if_elsewhere : (part : Option Running) → OptionRuns part → (site : Site) (body : Body) → Makes (InsideElsewhere body.made) (statements.branch_if part site body)
  branch_if_elsewhere None runs site body = record { each = tt; same = refl }
  branch_if_elsewhere (Some part) runs site body = branch_elsewhere part runs site body

  -- ---- choices and loops

  chosen_elsewhere : (condition : Expr) (first : Running) (second : Option Running) → is_readable_expr condition ≡ true → HasNone place (all_accesses condition) → RunsElsewhere first → OptionRuns second
      → (site : Site) (body : Body) → Makes (Elsewhere body) (statements.chosen condition first second site body)
  chosen_elsewhere condition first second fine none one two site body =
      makes_then (AsksElsewhere body.made) (Elsewhere body) (tested site condition body) _ (asks_elsewhere condition site body fine none)
      (λ asked t. makes_then (InsideElsewhere asked.body.made) (Elsewhere body) (statements.branch first site asked.body) _ (branch_elsewhere first one site asked.body)
      (λ holds h. makes_then (InsideElsewhere holds.body.made) (Elsewhere body) (statements.branch_if second site holds.body) _ (branch_if_elsewhere second two site holds.body)
      (λ fails f. appends_last body.made fails.body.made (item.If asked.cond holds.block fails.block) (f.same ∙ h.same ∙ t.same)
      (choice_each (IsElsewhere place) asked.cond holds.block fails.block t.asked h.each f.each))))

  loop_taken : (body : Body) (fits : Bool) → Makes (λ begun. begun.made ≡ body.made) (if fits then Ok (record body { loops = body.loops + 1 }) else Err which.Loops)
  loop_taken body true = refl
  loop_taken body false = tt

  loop_begins : (body : Body) → Makes (λ begun. begun.made ≡ body.made) (in_loop body)
  loop_begins body = loop_taken body (nat_lt body.loops most_loops)

  while_elsewhere : (condition : Expr) (turn : Running) → is_readable_expr condition ≡ true → HasNone place (all_accesses condition) → RunsElsewhere turn
      → (site : Site) (body : Body) → Makes (Elsewhere body) (statements.while condition turn site body)
  while_elsewhere condition turn fine none runs site body =
      makes_then (λ begun. begun.made ≡ body.made) (Elsewhere body) (in_loop body) _ (loop_begins body)
      (λ begun b. makes_then (AsksElsewhere begun.made) (Elsewhere body) (tested site condition begun) _ (asks_elsewhere condition site begun fine none)
      (λ asked t. makes_then (InsideElsewhere asked.body.made) (Elsewhere body) (statements.branch turn site asked.body) _ (branch_elsewhere turn runs site asked.body)
      (λ inner i. appends_last body.made inner.body.made (item.Loop true asked.cond inner.block no_block body.loops body.made.free) (i.same ∙ t.same ∙ b)
      (loop_each (IsElsewhere place) true asked.cond inner.block no_block body.loops body.made.free t.asked i.each tt))))

  do_elsewhere : (turn : Running) (condition : Expr) → is_readable_expr condition ≡ true → HasNone place (all_accesses condition) → RunsElsewhere turn
      → (site : Site) (body : Body) → Makes (Elsewhere body) (statements.do_while turn condition site body)
  do_elsewhere turn condition fine none runs site body =
      makes_then (λ begun. begun.made ≡ body.made) (Elsewhere body) (in_loop body) _ (loop_begins body)
      (λ begun b. makes_then (InsideElsewhere begun.made) (Elsewhere body) (statements.branch turn site begun) _ (branch_elsewhere turn runs site begun)
      (λ inner i. makes_then (AsksElsewhere inner.body.made) (Elsewhere body) (tested site condition inner.body) _ (asks_elsewhere condition site inner.body fine none)
      (λ asked t. appends_last body.made asked.body.made (item.Loop false asked.cond inner.block no_block body.loops body.made.free) (t.same ∙ i.same ∙ b)
      (loop_each (IsElsewhere place) false asked.cond inner.block no_block body.loops body.made.free t.asked i.each tt))))

  -- behind a block, where the slots of its locals are free again
  freed_again : (before after : Made) (free : ℕ) → before.free ≤ free → Appends (IsElsewhere place) before after → Appends (IsElsewhere place) before (record { items = after.items; free = free })
  freed_again before after free up a = record { items = a.items; appended = a.appended; each = a.each; up = up }

  for_elsewhere : (first : List Running) (condition : Option Expr) (update : List Expr) (turn : Running) → AllOf RunsElsewhere first → maybe_true is_readable_expr condition ≡ true
      → HasNone place (maybe all_accesses condition) → each_true is_readable_expr update ≡ true → HasNone place (each_of all_accesses update) → RunsElsewhere turn
      → (end : ℕ) (site : Site) (body : Body) → Makes (Elsewhere body) (statements.counted first condition update turn end site body)
  for_elsewhere first condition update turn all fine none fine_update none_update runs end site body =
      makes_then (Elsewhere body) (Elsewhere body) (statements.each first site end body) _ (each_elsewhere first all site end body)
      (λ begin x. makes_then (λ begun. begun.made ≡ begin.made) (Elsewhere body) (in_loop begin) _ (loop_begins begin)
      (λ begun b. makes_then (AsksElsewhere begun.made) (Elsewhere body) (tested_if condition site begun) _ (asks_if_elsewhere condition site begun fine none)
      (λ asked t. makes_then (InsideElsewhere asked.body.made) (Elsewhere body) (statements.branch turn site asked.body) _ (branch_elsewhere turn runs site asked.body)
      (λ inner i. makes_then (InsideElsewhere inner.body.made) (Elsewhere body) (inside (all_ran update site) inner.body) _
      (inside_elsewhere (all_ran update site) inner.body (all_ran_elsewhere update site (begun_block inner.body) fine_update none_update))
      (λ next l.
      let loop = item.Loop true asked.cond inner.block next.block begin.loops begin.made.free in
      freed_again body.made (with_item next.body.made loop) body.made.free (omega arith)
      (appends_both body.made begin.made (with_item next.body.made loop) x
      (appends_last begin.made next.body.made loop (l.same ∙ i.same ∙ t.same ∙ b)
      (loop_each (IsElsewhere place) true asked.cond inner.block next.block begin.loops begin.made.free t.asked i.each l.each))))))))

  -- ---- all forms

  last_elsewhere : (body : Body) (last : Item) → EachOp (IsElsewhere place) (item_code last End) → Elsewhere body (with_last body last)
  last_elsewhere body last each = appends_last body.made body.made last refl each

  return_elsewhere : (value : Option Expr) (span : Span) (site : Site) (body : Body) → maybe_true is_readable_expr value ≡ true → HasNone place (maybe all_accesses value)
      → Makes (Elsewhere body) (statements.returned value span site body)
  return_elsewhere None span site body fine none = last_elsewhere body (item.Return None span) tt
  return_elsewhere (Some e) span site body fine none = from_leaves body (statements.returned (Some e) span site body) (returned_elsewhere place site body e fine none span)

  abbrev kind_run : StmtKind → Span → Run
  kind_run = fold-StmtKind (Span → Run) Running statements.kind_step statements.stmt_step

  abbrev kind_shape : StmtKind → Statement
  kind_shape = fold-StmtKind Statement Statement readable.stmt_kind_step (λ stmt. stmt.kind)

  abbrev kind_accesses : StmtKind → List AnyAccess
  kind_accesses = fold-StmtKind (List AnyAccess) (List AnyAccess) at_place.stmt_kind_step at_place.stmt_step

  abbrev KindHolds : Statement → List AnyAccess → (Span → Run) → Type 0
  KindHolds shape accesses run = (span : Span) → shape.fine ≡ true → HasNone place accesses → (site : Site) (end : ℕ) (body : Body) → Makes (Elsewhere body) (run span site end body)

  abbrev StmtHolds : Statement → List AnyAccess → Running → Type 0
  StmtHolds shape accesses running = shape.fine ≡ true → HasNone place accesses → RunsElsewhere running

  abbrev KindIs : StmtKind → Type 0
  KindIs k = KindHolds (kind_shape k) (kind_accesses k) (kind_run k)

  abbrev StmtIs : Stmt → Type 0
  StmtIs s = StmtHolds (stmt_shape s) (stmt_accesses s) (statements.statement s)

  moved_kind : {s t : Statement} {a b : List AnyAccess} {f g : Span → Run} → s ≡ t → a ≡ b → f ≡ g → KindHolds t b g → KindHolds s a f
  moved_kind {s} {t} {a} {b} {f} {g} one two three holds =
      subst (λ x. KindHolds x a f) (sym one) (subst (λ x. KindHolds t x f) (sym two) (subst (λ (x : Span → Run). KindHolds t b x) (sym three) holds))

  moved_stmt : {s t : Statement} {a b : List AnyAccess} {f g : Running} → s ≡ t → a ≡ b → f ≡ g → StmtHolds t b g → StmtHolds s a f
  moved_stmt {s} {t} {a} {b} {f} {g} one two three holds =
      subst (λ x. StmtHolds x a f) (sym one) (subst (λ x. StmtHolds t x f) (sym two) (subst (λ x. StmtHolds t b x) (sym three) holds))

  module _ {K S : Type 0} (kind : K → StmtKind) (stmt : S → Stmt) (stmt_is : (s : S) → StmtIs (stmt s)) where
    all_run : (ss : List S) → each_fine (map stmt_shape (map stmt ss)) ≡ true → HasNone place (all (map stmt_accesses (map stmt ss)))
        → AllOf RunsElsewhere (map statements.statement (map stmt ss))
    all_run [] fine none = tt
    all_run (s ∷ ss) fine none =
        let f = and_parts (stmt_shape (stmt s)).fine (each_fine (map stmt_shape (map stmt ss))) fine in
        let n = all_split (IsOff place) (stmt_accesses (stmt s)) (all (map stmt_accesses (map stmt ss))) none in
        (stmt_is s f.0 n.0, all_run ss f.1 n.1)

    -- a part of another statement
    one : (s : S) → is_part (stmt_shape (stmt s)) ≡ true → HasNone place (stmt_accesses (stmt s)) → RunsElsewhere (statements.statement (stmt s))
    one s fine none = stmt_is s (and_parts (not (stmt_shape (stmt s)).declares) (stmt_shape (stmt s)).fine fine).1 none

    kind_layer : (y : StmtKind-F K S) → KindHolds
        (readable.stmt_kind_step (map-StmtKind StmtKind Stmt Statement Statement kind_shape stmt_shape (map-StmtKind K S StmtKind Stmt kind stmt y)))
        (at_place.stmt_kind_step (map-StmtKind StmtKind Stmt (List AnyAccess) (List AnyAccess) kind_accesses stmt_accesses (map-StmtKind K S StmtKind Stmt kind stmt y)))
        (statements.kind_step (map-StmtKind StmtKind Stmt (Span → Run) Running kind_run statements.statement (map-StmtKind K S StmtKind Stmt kind stmt y)))
    kind_layer (StmtKind-F.Block ss) span fine none site end body =
        makes_then (Elsewhere body) (Elsewhere body) (statements.each (map statements.statement (map stmt ss)) site span.to body) _
        (each_elsewhere (map statements.statement (map stmt ss)) (all_run ss fine none) site span.to body) (λ inner a. freed_again body.made inner.made body.made.free (omega arith) a)
    kind_layer StmtKind-F.Empty span fine none site end body = appends_none body.made
    kind_layer (StmtKind-F.Local decls) span fine none site end body = from_leaves body (statements.declarations decls site end body) (declarations_elsewhere place site end decls body fine none)
    kind_layer (StmtKind-F.If condition first None) span fine none site end body =
        let f = and_parts (is_readable_expr condition) (is_part (stmt_shape (stmt first)) && true) fine in
        let g = and_parts (is_part (stmt_shape (stmt first))) true f.1 in
        let n = all_split (IsOff place) (all_accesses condition) (stmt_accesses (stmt first) ++ []) none in
        let m = all_split (IsOff place) (stmt_accesses (stmt first)) [] n.1 in
        chosen_elsewhere condition (statements.statement (stmt first)) None f.0 n.0 (one first g.0 m.0) tt site body
    kind_layer (StmtKind-F.If condition first (Some second)) span fine none site end body =
        let f = and_parts (is_readable_expr condition) (is_part (stmt_shape (stmt first)) && is_part (stmt_shape (stmt second))) fine in
        let g = and_parts (is_part (stmt_shape (stmt first))) (is_part (stmt_shape (stmt second))) f.1 in
        let n = all_split (IsOff place) (all_accesses condition) (stmt_accesses (stmt first) ++ stmt_accesses (stmt second)) none in
        let m = all_split (IsOff place) (stmt_accesses (stmt first)) (stmt_accesses (stmt second)) n.1 in
        chosen_elsewhere condition (statements.statement (stmt first)) (Some (statements.statement (stmt second))) f.0 n.0 (one first g.0 m.0) (one second g.1 m.1) site body
    kind_layer (StmtKind-F.While condition turn) span fine none site end body =
        let f = and_parts (is_readable_expr condition) (is_part (stmt_shape (stmt turn))) fine in
        let n = all_split (IsOff place) (all_accesses condition) (stmt_accesses (stmt turn)) none in
        while_elsewhere condition (statements.statement (stmt turn)) f.0 n.0 (one turn f.1 n.1) site body
    kind_layer (StmtKind-F.Do turn condition) span fine none site end body =
        let f = and_parts (is_part (stmt_shape (stmt turn))) (is_readable_expr condition) fine in
        let n = all_split (IsOff place) (stmt_accesses (stmt turn)) (all_accesses condition) none in
        do_elsewhere (statements.statement (stmt turn)) condition f.1 n.1 (one turn f.0 n.0) site body
    kind_layer (StmtKind-F.For first condition update turn) span fine none site end body =
        let f = and_parts (each_fine (map stmt_shape (map stmt first))) (maybe_true is_readable_expr condition && (each_true is_readable_expr update && is_part (stmt_shape (stmt turn)))) fine in
        let g = and_parts (maybe_true is_readable_expr condition) (each_true is_readable_expr update && is_part (stmt_shape (stmt turn))) f.1 in
        let h = and_parts (each_true is_readable_expr update) (is_part (stmt_shape (stmt turn))) g.1 in
        let n = all_split (IsOff place) (all (map stmt_accesses (map stmt first))) (maybe all_accesses condition ++ (each_of all_accesses update ++ stmt_accesses (stmt turn))) none in
        let m = all_split (IsOff place) (maybe all_accesses condition) (each_of all_accesses update ++ stmt_accesses (stmt turn)) n.1 in
        let o = all_split (IsOff place) (each_of all_accesses update) (stmt_accesses (stmt turn)) m.1 in
        for_elsewhere (map statements.statement (map stmt first)) condition update (statements.statement (stmt turn)) (all_run first f.0 n.0) g.0 m.0 h.0 o.0 (one turn h.1 o.1) span.to site body
    kind_layer StmtKind-F.Break span fine none site end body = last_elsewhere body item.Break tt
    kind_layer StmtKind-F.Continue span fine none site end body = last_elsewhere body item.Continue tt
    kind_layer (StmtKind-F.Return value) span fine none site end body = return_elsewhere value span site body fine none
    kind_layer (StmtKind-F.Throw name) span fine none site end body = last_elsewhere body (item.Throw name.text span) tt
    kind_layer (StmtKind-F.Print value) span fine none site end body = from_leaves body (statements.printed value site body) (printed_elsewhere place site body value fine none)
    kind_layer (StmtKind-F.Run e) span fine none site end body = from_leaves body (ran site e body) (ran_elsewhere place site body e fine none)

    kind_rolled : (y : StmtKind-F K S) → KindIs (roll-StmtKind (map-StmtKind K S StmtKind Stmt kind stmt y))
    kind_rolled y =
        let a = fold-roll-StmtKind Statement Statement readable.stmt_kind_step (λ stmt. stmt.kind) (map-StmtKind K S StmtKind Stmt kind stmt y) in
        let b = fold-roll-StmtKind (List AnyAccess) (List AnyAccess) at_place.stmt_kind_step at_place.stmt_step (map-StmtKind K S StmtKind Stmt kind stmt y) in
        let c = fold-roll-StmtKind (Span → Run) Running statements.kind_step statements.stmt_step (map-StmtKind K S StmtKind Stmt kind stmt y) in
        moved_kind a b c (kind_layer y)

    stmt_rolled : ((k : K) → KindIs (kind k)) → (y : Stmt-F K S) → StmtIs (roll-Stmt (map-Stmt K S StmtKind Stmt kind stmt y))
    stmt_rolled kind_is y =
        let a = fold-roll-Stmt Statement Statement readable.stmt_kind_step (λ stmt. stmt.kind) (map-Stmt K S StmtKind Stmt kind stmt y) in
        let b = fold-roll-Stmt (List AnyAccess) (List AnyAccess) at_place.stmt_kind_step at_place.stmt_step (map-Stmt K S StmtKind Stmt kind stmt y) in
        let c = fold-roll-Stmt (Span → Run) Running statements.kind_step statements.stmt_step (map-Stmt K S StmtKind Stmt kind stmt y) in
        moved_stmt a b c (λ fine none site end body. kind_is y.kind y.span fine none site end body)

  -- A statement in which no access stands at the place.
  pub statement_elsewhere : (s : Stmt) → is_readable_stmt s ≡ true → HasNone place (stmt_accesses s) → RunsElsewhere (statements.statement s)
  statement_elsewhere = ind-Stmt KindIs StmtIs
      (λ x y e. subst (λ layer. KindIs (roll-StmtKind layer)) e (kind_rolled (λ k. k.0) (λ s. s.0) (λ s. s.1) y))
      (λ x y e. subst (λ layer. StmtIs (roll-Stmt layer)) e (stmt_rolled (λ k. k.0) (λ s. s.0) (λ s. s.1) (λ k. k.1) y))

  all_elsewhere : (ss : List Stmt) → each_true is_readable_stmt ss ≡ true → HasNone place (each_of stmt_accesses ss) → AllOf RunsElsewhere (map statements.statement ss)
  all_elsewhere [] fine none = tt
  all_elsewhere (s ∷ ss) fine none =
      let f = and_parts (is_readable_stmt s) (each_true is_readable_stmt ss) fine in
      let n = all_split (IsOff place) (stmt_accesses s) (each_of stmt_accesses ss) none in
      (statement_elsewhere s f.0 n.0, all_elsewhere ss f.1 n.1)

  -- so statements one after the other
  pub statements_elsewhere : (ss : List Stmt) → each_true is_readable_stmt ss ≡ true → HasNone place (each_of stmt_accesses ss) → (site : Site) (end : ℕ) (body : Body)
      → Makes (Elsewhere body) (statements.each (map statements.statement ss) site end body)
  statements_elsewhere ss fine none site end body = each_elsewhere (map statements.statement ss) (all_elsewhere ss fine none) site end body
