-- What loops, choices and blocks become, part by part: the loop's number, the condition, the turn and the update. The answers of the functions that make them cite these.
use Rattle.std.proofs.Common.{◌≡◌, ℕ, true, false, List, Option, Some, None, option_map, map, OnOk, MatchResult, Result, Ok, Err, sym, ap, ◌∙◌}
use Rattle.ix_core.specs.declared.code.Block.{Block}
use Rattle.ix_core.specs.declared.code.Cond.{Cond}
use Rattle.ix_core.specs.declared.code.Item.{Item, Loop}
use Rattle.ix_meaning.specs.declared.note.Which.{Which}
use Rattle.ix_text.specs.declared.span.Span.{Span}
use Rattle.ix_tree.specs.declared.expr.Expr.{Expr}
use Rattle.ix_tree.specs.declared.stmt.Stmt.{Stmt, fold-roll-Stmt}
use Rattle.ix_tree.specs.declared.stmt.StmtKind.{StmtKind, StmtKind-F, fold-StmtKind, fold-roll-StmtKind}
use Rattle.ix_tree.specs.declared.stmt.StmtKind.TheVariants as kind
use Rattle.ix_tree.specs.declared.stmt.StmtKind.TheVariants.{rolls-Block, rolls-If, rolls-While, rolls-Do, rolls-For}
use Rattle.ix_plain.specs.declared.body.Body.{Body}
use Rattle.ix_plain.specs.declared.made.Stop.{Stop}
use Rattle.ix_plain.specs.declared.made.Stop.TheVariants as stop
use Rattle.ix_plain.specs.Parts.{Within, ◌>>=◌}
use Rattle.ix_plain.specs.Scope.{Site}
use Rattle.ix_plain.specs.Statements.{Run, Running, Inside, kind_step, stmt_step, statement, while, do_while, counted, chosen, in_loop, tested, tested_if, branch, inside, each, all_ran, no_block, with_last, with_free}

abbrev kind_run : StmtKind → Span → Run
kind_run = fold-StmtKind (Span → Run) Running kind_step stmt_step

-- the last item is pushed
pub pushed : {T : Type 0} (r : Result T Stop) (whole : Within Body) (body after : Body) (item : Item) → whole ≡ Ok (with_last body item)
    → MatchResult r (λ _. after ≡ with_last body item) (λ cause. cause ≡ stop.Memory) → OnOk r (whole ≡ Ok after)
pushed (Ok added) whole body after item so is = so ∙ ap (λ (b : Body). Ok b) (sym is)
pushed (Err cause) whole body after item so is = tt

module _ (stmt : Stmt) (site : Site) (end : ℕ) (body : Body) where
  by_kind : (k : StmtKind) → stmt.kind ≡ k → (statement stmt).run site end body ≡ kind_run k stmt.span site end body
  by_kind k is =
      ap (λ (r : Running). r.run site end body) (fold-roll-Stmt (Span → Run) Running kind_step stmt_step (record { kind = stmt.kind; span = stmt.span }))
      ∙ ap (λ (k : StmtKind). kind_run k stmt.span site end body) is

  module _ (condition : Expr) (turn : Stmt) (begun : Body) where
    while_is : stmt.kind ≡ kind.While condition turn → (statement stmt).run site end body ≡ while condition (statement turn) site body
    while_is is =
        by_kind (kind.While condition turn) is
        ∙ (ap (λ (k : StmtKind). kind_run k stmt.span site end body) (sym (rolls-While condition turn))
        ∙ ap (λ (r : Span → Run). r stmt.span site end body) (fold-roll-StmtKind (Span → Run) Running kind_step stmt_step (StmtKind-F.While condition turn)))

    do_is : stmt.kind ≡ kind.Do turn condition → (statement stmt).run site end body ≡ do_while (statement turn) condition site body
    do_is is =
        by_kind (kind.Do turn condition) is
        ∙ (ap (λ (k : StmtKind). kind_run k stmt.span site end body) (sym (rolls-Do turn condition))
        ∙ ap (λ (r : Span → Run). r stmt.span site end body) (fold-roll-StmtKind (Span → Run) Running kind_step stmt_step (StmtKind-F.Do turn condition)))

    at_turn : (got : Stmt) (before : Body) (answer : Within Inside) → got ≡ turn → branch (statement got) site before ≡ answer → branch (statement turn) site before ≡ answer
    at_turn got before answer same is = ap (λ s. branch (statement s) site before) (sym same) ∙ is

    pub while_not_begun : (which : Which) → stmt.kind ≡ kind.While condition turn → in_loop body ≡ Err which → (statement stmt).run site end body ≡ Err which
    while_not_begun which is refused = while_is is ∙ rw refused

    pub while_not_tested : (which : Which) → stmt.kind ≡ kind.While condition turn → in_loop body ≡ Ok begun → tested site condition begun ≡ Err which → (statement stmt).run site end body ≡ Err which
    while_not_tested which is begins refused = while_is is ∙ rw (begins, refused)

    pub while_not_turned : (which : Which) (cond : Cond) (asked : Body) (got : Stmt) → stmt.kind ≡ kind.While condition turn → in_loop body ≡ Ok begun
        → tested site condition begun ≡ Ok (record { cond = cond; body = asked }) → got ≡ turn → branch (statement got) site asked ≡ Err which → (statement stmt).run site end body ≡ Err which
    while_not_turned which cond asked got is begins tests same refused = while_is is ∙ rw (begins, tests, at_turn got asked (Err which) same refused)

    pub while_made : (cond : Cond) (asked after : Body) (block none : Block) (got : Stmt) → stmt.kind ≡ kind.While condition turn → in_loop body ≡ Ok begun
        → tested site condition begun ≡ Ok (record { cond = cond; body = asked }) → got ≡ turn → branch (statement got) site asked ≡ Ok (record { block = block; body = after }) → none ≡ no_block
        → (statement stmt).run site end body ≡ Ok (with_last after (Loop true cond block none body.loops body.made.free))
    while_made cond asked after block none got is begins tests same turned empty =
        while_is is ∙ rw (begins, tests, at_turn got asked (Ok (record { block = block; body = after })) same turned, empty)

    pub do_not_begun : (which : Which) → stmt.kind ≡ kind.Do turn condition → in_loop body ≡ Err which → (statement stmt).run site end body ≡ Err which
    do_not_begun which is refused = do_is is ∙ rw refused

    pub do_not_turned : (which : Which) (got : Stmt) → stmt.kind ≡ kind.Do turn condition → in_loop body ≡ Ok begun → got ≡ turn → branch (statement got) site begun ≡ Err which
        → (statement stmt).run site end body ≡ Err which
    do_not_turned which got is begins same refused = do_is is ∙ rw (begins, at_turn got begun (Err which) same refused)

    pub do_not_tested : (which : Which) (block : Block) (after : Body) (got : Stmt) → stmt.kind ≡ kind.Do turn condition → in_loop body ≡ Ok begun → got ≡ turn
        → branch (statement got) site begun ≡ Ok (record { block = block; body = after }) → tested site condition after ≡ Err which → (statement stmt).run site end body ≡ Err which
    do_not_tested which block after got is begins same turned refused = do_is is ∙ rw (begins, at_turn got begun (Ok (record { block = block; body = after })) same turned, refused)

    pub do_made : (cond : Cond) (asked after : Body) (block none : Block) (got : Stmt) → stmt.kind ≡ kind.Do turn condition → in_loop body ≡ Ok begun → got ≡ turn
        → branch (statement got) site begun ≡ Ok (record { block = block; body = after }) → tested site condition after ≡ Ok (record { cond = cond; body = asked }) → none ≡ no_block
        → (statement stmt).run site end body ≡ Ok (with_last asked (Loop false cond block none body.loops body.made.free))
    do_made cond asked after block none got is begins same turned tests empty =
        do_is is ∙ rw (begins, at_turn got begun (Ok (record { block = block; body = after })) same turned, tests, empty)

  module _ (first : List Stmt) (condition : Option Expr) (update : List Expr) (turn : Stmt) (slice : List Stmt) (is : stmt.kind ≡ kind.For first condition update turn) (sliced : slice ≡ first) where
    for_is : (statement stmt).run site end body ≡ counted (map statement first) condition update (statement turn) stmt.span.to site body
    for_is =
        by_kind (kind.For first condition update turn) is
        ∙ (ap (λ (k : StmtKind). kind_run k stmt.span site end body) (sym (rolls-For first condition update turn))
        ∙ ap (λ (r : Span → Run). r stmt.span site end body) (fold-roll-StmtKind (Span → Run) Running kind_step stmt_step (StmtKind-F.For first condition update turn)))

    at_first : (answer : Within Body) → each (map statement slice) site stmt.span.to body ≡ answer → each (map statement first) site stmt.span.to body ≡ answer
    at_first answer is = ap (λ all. each (map statement all) site stmt.span.to body) (sym sliced) ∙ is

    pub for_not_opened : (which : Which) → each (map statement slice) site stmt.span.to body ≡ Err which → (statement stmt).run site end body ≡ Err which
    for_not_opened which refused = for_is ∙ rw (at_first (Err which) refused)

    module _ (opened : Body) (opens : each (map statement slice) site stmt.span.to body ≡ Ok opened) where
      pub for_not_begun : (which : Which) → in_loop opened ≡ Err which → (statement stmt).run site end body ≡ Err which
      for_not_begun which refused = for_is ∙ rw (at_first (Ok opened) opens, refused)

      module _ (begun : Body) (begins : in_loop opened ≡ Ok begun) where
        pub for_not_tested : (which : Which) → tested_if condition site begun ≡ Err which → (statement stmt).run site end body ≡ Err which
        for_not_tested which refused = for_is ∙ rw (at_first (Ok opened) opens, begins, refused)

        module _ (cond : Cond) (asked : Body) (got : Stmt) (tests : tested_if condition site begun ≡ Ok (record { cond = cond; body = asked })) (same : got ≡ turn) where
          turn_is : (answer : Within Inside) → branch (statement got) site asked ≡ answer → branch (statement turn) site asked ≡ answer
          turn_is answer is = ap (λ s. branch (statement s) site asked) (sym same) ∙ is

          pub for_not_turned : (which : Which) → branch (statement got) site asked ≡ Err which → (statement stmt).run site end body ≡ Err which
          for_not_turned which refused = for_is ∙ rw (at_first (Ok opened) opens, begins, tests, turn_is (Err which) refused)

          module _ (block : Block) (turned : Body) (updates : List Expr) (turns : branch (statement got) site asked ≡ Ok (record { block = block; body = turned })) (updated : updates ≡ update) where
            update_is : (answer : Within Inside) → inside (all_ran updates site) turned ≡ answer → inside (all_ran update site) turned ≡ answer
            update_is answer is = ap (λ all. inside (all_ran all site) turned) (sym updated) ∙ is

            pub for_not_updated : (which : Which) → inside (all_ran updates site) turned ≡ Err which → (statement stmt).run site end body ≡ Err which
            for_not_updated which refused =
                for_is ∙ rw (at_first (Ok opened) opens, begins, tests, turn_is (Ok (record { block = block; body = turned })) turns, update_is (Err which) refused)

            pub for_made : (next : Block) (after : Body) → inside (all_ran updates site) turned ≡ Ok (record { block = next; body = after })
                → (statement stmt).run site end body ≡ Ok (with_last (with_free body.made.free after) (Loop true cond block next opened.loops opened.made.free))
            for_made next after done =
                for_is ∙ rw (at_first (Ok opened) opens, begins, tests, turn_is (Ok (record { block = block; body = turned })) turns, update_is (Ok (record { block = next; body = after })) done)

  module _ (condition : Expr) (first : Stmt) (second : Option Stmt) (is : stmt.kind ≡ kind.If condition first second) where
    chosen_by : (other : Option Stmt) → stmt.kind ≡ kind.If condition first other → (statement stmt).run site end body ≡ chosen condition (statement first) (option_map statement other) site body
    chosen_by None is =
        by_kind (kind.If condition first None) is
        ∙ (ap (λ (k : StmtKind). kind_run k stmt.span site end body) (sym (rolls-If condition first None))
        ∙ ap (λ (r : Span → Run). r stmt.span site end body) (fold-roll-StmtKind (Span → Run) Running kind_step stmt_step (StmtKind-F.If condition first None)))
    chosen_by (Some other) is =
        by_kind (kind.If condition first (Some other)) is
        ∙ (ap (λ (k : StmtKind). kind_run k stmt.span site end body) (sym (rolls-If condition first (Some other)))
        ∙ ap (λ (r : Span → Run). r stmt.span site end body) (fold-roll-StmtKind (Span → Run) Running kind_step stmt_step (StmtKind-F.If condition first (Some other))))

    pub choice_not_asked : (which : Which) → tested site condition body ≡ Err which → (statement stmt).run site end body ≡ Err which
    choice_not_asked which refused = chosen_by second is ∙ rw refused

    module _ (cond : Cond) (asked : Body) (got : Stmt) (tests : tested site condition body ≡ Ok (record { cond = cond; body = asked })) (same : got ≡ first) where
      first_is : (answer : Within Inside) → branch (statement got) site asked ≡ answer → branch (statement first) site asked ≡ answer
      first_is answer is = ap (λ s. branch (statement s) site asked) (sym same) ∙ is

      pub choice_not_held : (which : Which) → branch (statement got) site asked ≡ Err which → (statement stmt).run site end body ≡ Err which
      choice_not_held which refused = chosen_by second is ∙ rw (tests, first_is (Err which) refused)

      pub choice_not_failed : (which : Which) (block : Block) (held : Body) (other also : Stmt) → branch (statement got) site asked ≡ Ok (record { block = block; body = held })
          → second ≡ Some other → also ≡ other → branch (statement also) site held ≡ Err which → (statement stmt).run site end body ≡ Err which
      choice_not_failed which block held other also holds there alike refused =
          chosen_by (Some other) (is ∙ ap (λ o. kind.If condition first o) there)
          ∙ rw (tests, first_is (Ok (record { block = block; body = held })) holds, ap (λ s. branch (statement s) site held) (sym alike) ∙ refused)

  module _ (inner slice : List Stmt) (is : stmt.kind ≡ kind.Block inner) (sliced : slice ≡ inner) where
    block_is : (statement stmt).run site end body ≡ each (map statement inner) site stmt.span.to body >>= (λ done. Ok (with_free body.made.free done))
    block_is =
        by_kind (kind.Block inner) is
        ∙ (ap (λ (k : StmtKind). kind_run k stmt.span site end body) (sym (rolls-Block inner))
        ∙ ap (λ (r : Span → Run). r stmt.span site end body) (fold-roll-StmtKind (Span → Run) Running kind_step stmt_step (StmtKind-F.Block inner)))

    pub block_done : (answer : Within Body) → each (map statement slice) site stmt.span.to body ≡ answer → (statement stmt).run site end body ≡ answer >>= (λ done. Ok (with_free body.made.free done))
    block_done answer done =
        block_is ∙ ap (λ (r : Within Body). r >>= (λ done. Ok (with_free body.made.free done))) (ap (λ all. each (map statement all) site stmt.span.to body) (sym sliced) ∙ done)
