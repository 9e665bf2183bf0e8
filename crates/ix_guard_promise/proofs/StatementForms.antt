-- Each form of statement follows where its parts do.
use Rattle.std.proofs.Common.{◌≡◌, ℕ, zero, suc, ◌+◌, Bool, true, false, List, [], ◌∷◌, ◌++◌, map, Option, Some, None, refl, sym, ap, ap₂, subst, ◌∙◌}
use Rattle.ix_text.specs.declared.span.Span.{Span}
use Rattle.ix_core.specs.Heap.{Held, default_of}
use Rattle.ix_core.specs.Machine.{Thrown}
use Rattle.ix_core.specs.Traces.{Printed}
use Rattle.ix_tree.specs.declared.decl.LocalDecl.{LocalDecl}
use Rattle.ix_tree.specs.declared.expr.Expr.{Expr}
use Rattle.ix_tree.specs.declared.expr.Init.{Init}
use Rattle.ix_meaning.specs.declared.note.Meaning.{Meaning}
use Rattle.ix_meaning.specs.declared.note.Meaning.TheVariants.{Local}
use Rattle.ix_source.specs.Runs.{Action, ◌>>=◌, gives, stops, sees, assigns, with_held}
use Rattle.ix_source.specs.Context.{Context, declared_at, type_declared}
use Rattle.ix_source.specs.Values.{evaluation, initial, assign, without_value}
use Rattle.ix_source.specs.Statements.{Completion, Normal, Breaks, Continues, Returns, Execution, behind, each, all_declare, normally, initially, declaration, declarations, count, ran, all_ran, chosen, behind_turn, Looping, head, turn, tested_first, tested_last, condition_of, returned, printed, plain}
use Rattle.ix_guard_text.specs.Bare.{bare_maybe as maybe}
use Rattle.ix_guard_text.specs.Moved.{Move, moved_span, moved_expr, moved_init, moved_decl}
use Rattle.ix_guard_promise.specs.Behind.{Shows, both_give, both_stop, both_cut, Follows, ContextFollows}
use Rattle.ix_guard_promise.proofs.Following.{first_itself, shows_then, printed_both, equal_then, equal_gives}
use Rattle.ix_guard_promise.proofs.ExpressionsFollow.{expression_keeps, initialiser_keeps}

-- ---- the forms that have parts

abbrev pub choice : Expr → Execution → Execution → Execution
choice condition first second = record {
  declares = first.declares + second.declares;
  run = λ context number. (evaluation condition).holds context >>= (λ answer. chosen answer (first.run context number) (second.run context (number + first.declares)));
}

abbrev pub while_loop : Expr → Execution → Context → ℕ → Looping
while_loop condition body context number = record { condition = (evaluation condition).holds context; body = body.run context number; update = gives tt }

abbrev pub for_loop : List Execution → Option Expr → List Expr → Execution → Context → ℕ → Looping
for_loop start condition update body context number = record { condition = condition_of condition context; body = body.run context (number + all_declare start); update = all_ran update context }

abbrev pub for_run : List Execution → Option Expr → List Expr → Execution → Context → ℕ → Action Completion
for_run start condition update body context number = each start context number >>= (λ end. behind end (tested_first (for_loop start condition update body context number) context))

abbrev pub while_form : Expr → Execution → Execution
while_form condition body = record { declares = body.declares; run = λ context number. tested_first (while_loop condition body context number) context }

abbrev pub do_form : Expr → Execution → Execution
do_form condition body = record { declares = body.declares; run = λ context number. tested_last (while_loop condition body context number) context }

abbrev pub for_form : List Execution → Option Expr → List Expr → Execution → Execution
for_form start condition update body = record { declares = all_declare start + body.declares; run = for_run start condition update body }

abbrev pub block : List Execution → Execution
block statements = record { declares = all_declare statements; run = each statements }

abbrev pub declaring_all : List LocalDecl → Execution
declaring_all decls = record { declares = count decls; run = λ context number. declarations decls context number >>= normally }

module _ (move : Move) where
  -- ---- one statement behind another

  pub behind_shows : (end : Completion) (next : Action Completion) → Shows next → Shows (behind end next)
  behind_shows Normal next shows = shows
  behind_shows Breaks next shows = first_itself
  behind_shows Continues next shows = first_itself
  behind_shows (Returns value) next shows = first_itself

  behind_follows : (end : Completion) (new old : Action Completion) → Follows move new old → Follows move (behind end new) (behind end old)
  behind_follows Normal new old follows = follows
  behind_follows Breaks new old follows = equal_gives move Breaks Breaks refl
  behind_follows Continues new old follows = equal_gives move Continues Continues refl
  behind_follows (Returns value) new old follows = equal_gives move (Returns value) (Returns value) refl

  chosen_shows : (answer : Bool) (first second : Action Completion) → Shows first → Shows second → Shows (chosen answer first second)
  chosen_shows true first second one two = one
  chosen_shows false first second one two = two

  chosen_follows : (answer : Bool) (first second first_old second_old : Action Completion) → Follows move first first_old → Follows move second second_old
      → Follows move (chosen answer first second) (chosen answer first_old second_old)
  chosen_follows true first second first_old second_old one two = one
  chosen_follows false first second first_old second_old one two = two

  behind_turn_shows : (end : Completion) (next : Action Completion) → Shows next → Shows (behind_turn end next)
  behind_turn_shows Normal next shows = shows
  behind_turn_shows Continues next shows = shows
  behind_turn_shows Breaks next shows = first_itself
  behind_turn_shows (Returns value) next shows = first_itself

  behind_turn_follows : (end : Completion) (new old : Action Completion) → Follows move new old → Follows move (behind_turn end new) (behind_turn end old)
  behind_turn_follows Normal new old follows = follows
  behind_turn_follows Continues new old follows = follows
  behind_turn_follows Breaks new old follows = equal_gives move Normal Normal refl
  behind_turn_follows (Returns value) new old follows = equal_gives move (Returns value) (Returns value) refl

  -- ---- loops

  pub record LoopFollows (new old : Looping) : Type 0 where
    pub condition : Follows move new.condition old.condition
    pub condition_shows : Shows old.condition
    pub body : Follows move new.body old.body
    pub body_shows : Shows old.body
    pub update : Follows move new.update old.update
    pub update_shows : Shows old.update

  module _ (new old : Looping) (loop : LoopFollows new old) where
    head_shows : (next : Action Completion) → Shows next → Shows (head old next)
    head_shows next shows = shows_then old.condition (λ answer. chosen answer next (gives Normal)) loop.condition_shows (λ answer. chosen_shows answer next (gives Normal) shows first_itself)

    head_follows : (next next_old : Action Completion) → Follows move next next_old → Shows next_old → Follows move (head new next) (head old next_old)
    head_follows next next_old follows shows =
        equal_then move new.condition old.condition (λ answer. chosen answer next (gives Normal)) (λ answer. chosen answer next_old (gives Normal)) loop.condition
        (λ answer. chosen_follows answer next (gives Normal) next_old (gives Normal) follows (equal_gives move Normal Normal refl)) (λ answer. chosen_shows answer next_old (gives Normal) shows first_itself)

    abbrev again : Looping → ℕ → Completion → Action Completion
    again loop left end = behind_turn end (loop.update >>= (λ done. head loop (turn loop left)))

    again_shows : (left : ℕ) → Shows (turn old left) → (end : Completion) → Shows (again old left end)
    again_shows left shows end =
        behind_turn_shows end (old.update >>= (λ done. head old (turn old left))) (shows_then old.update (λ done. head old (turn old left)) loop.update_shows (λ done. head_shows (turn old left) shows))

    turn_shows : (turns : ℕ) → Shows (turn old turns)
    turn_shows zero = first_itself
    turn_shows (suc left) = shows_then old.body (again old left) loop.body_shows (again_shows left (turn_shows left))

    turn_follows : (turns : ℕ) → Follows move (turn new turns) (turn old turns)
    turn_follows zero = λ n o like. both_cut n o like
    turn_follows (suc left) = equal_then move new.body old.body (again new left) (again old left) loop.body
        (λ end. behind_turn_follows end (new.update >>= (λ done. head new (turn new left))) (old.update >>= (λ done. head old (turn old left)))
        (equal_then move new.update old.update (λ done. head new (turn new left)) (λ done. head old (turn old left)) loop.update
        (λ done. head_follows (turn new left) (turn old left) (turn_follows left) (turn_shows left)) (λ done. head_shows (turn old left) (turn_shows left))))
        (again_shows left (turn_shows left))

-- ---- statements, in two contexts

module _ (move : Move) (new old : Context) where
  -- A statement of the new source does what one of the old source does, wherever the next local is.
  pub record Keeps (made kept : Execution) : Type 0 where
    pub declares : made.declares ≡ kept.declares
    pub run : (number : ℕ) → Follows move (made.run new number) (kept.run old number)
    pub shows : (number : ℕ) → Shows (kept.run old number)

  -- so does a list of statements
  pub record AllKeep (made kept : List Execution) : Type 0 where
    pub declares : all_declare made ≡ all_declare kept
    pub run : (number : ℕ) → Follows move (each made new number) (each kept old number)
    pub shows : (number : ℕ) → Shows (each kept old number)

module _ (move : Move) (new old : Context) (follows : ContextFollows move new old) where
  abbrev Kept : Execution → Execution → Type 0
  Kept = Keeps move new old

  abbrev AllKept : List Execution → List Execution → Type 0
  AllKept = AllKeep move new old

  pub none_keep : AllKept [] []
  none_keep = record { declares = refl; run = λ number. equal_gives move Normal Normal refl; shows = λ number. first_itself }

  pub more_keep : (made kept : Execution) (rest others : List Execution) → Kept made kept → AllKept rest others → AllKept (made ∷ rest) (kept ∷ others)
  more_keep made kept rest others one more = record {
    declares = ap₂ (λ (a : ℕ) (b : ℕ). a + b) one.declares more.declares;
    run = λ number. equal_then move (made.run new number) (kept.run old number) (λ end. behind end (each rest new (number + made.declares))) (λ end. behind end (each others old (number + kept.declares)))
        (one.run number)
        (λ end. behind_follows move end (each rest new (number + made.declares)) (each others old (number + kept.declares))
        (subst (λ d. Follows move (each rest new (number + made.declares)) (each others old (number + d))) one.declares (more.run (number + made.declares))))
        (λ end. behind_shows move end (each others old (number + kept.declares)) (more.shows (number + kept.declares)));
    shows = λ number. shows_then (kept.run old number) (λ end. behind end (each others old (number + kept.declares))) (one.shows number)
        (λ end. behind_shows move end (each others old (number + kept.declares)) (more.shows (number + kept.declares)));
  }

  -- one statement alone in a list
  pub one_keeps : (made kept : Execution) → Kept made kept → AllKept (made ∷ []) (kept ∷ [])
  one_keeps made kept one = more_keep made kept [] [] one none_keep

  pub keeps_as : (made kept found was : Execution) → made ≡ found → kept ≡ was → Kept found was → Kept made kept
  keeps_as made kept found was e f keeps = rw (e, f) keeps

  plain_keeps : (made kept : Context → Action Completion) → Follows move (made new) (kept old) → Shows (kept old) → Kept (plain made) (plain kept)
  plain_keeps made kept run shows = record { declares = refl; run = λ number. run; shows = λ number. shows }

  pub completes_keeps : (end : Completion) → Kept (plain (λ context. gives end)) (plain (λ context. gives end))
  completes_keeps end = plain_keeps (λ context. gives end) (λ context. gives end) (equal_gives move end end refl) first_itself

  pub throw_keeps : (name : List ℕ) (place other : ℕ) → Kept (plain (λ context. stops (Thrown name place))) (plain (λ context. stops (Thrown name other)))
  throw_keeps name place other =
      plain_keeps (λ context. stops (Thrown name place)) (λ context. stops (Thrown name other)) (λ n o like. both_stop (Thrown name place) (Thrown name other) n o refl like) first_itself

  -- ---- expressions

  printed_follows : (value : Held) → Follows move (printed value) (printed value)
  printed_follows value n o like = both_give Normal Normal (sees (Printed value) n) (sees (Printed value) o) refl
      record {
        variables = like.variables;
        heap = like.heap;
        wrapped = like.wrapped;
        events = printed_both n.events (Printed value ∷ []) ∙ ap (λ (held : List Held). held ++ value ∷ []) like.events ∙ sym (printed_both o.events (Printed value ∷ []));
      }

  printed_shows : (value : Held) → Shows (printed value)
  printed_shows value now = (value ∷ [], printed_both now.events (Printed value ∷ []))

  pub print_keeps : (expr : Expr) → Kept (plain (λ context. (evaluation (moved_expr move expr)).value context >>= printed)) (plain (λ context. (evaluation expr).value context >>= printed))
  print_keeps expr = plain_keeps (λ context. (evaluation (moved_expr move expr)).value context >>= printed) (λ context. (evaluation expr).value context >>= printed)
      (equal_then move ((evaluation (moved_expr move expr)).value new) ((evaluation expr).value old) printed printed (expression_keeps move new old follows expr).value.follows printed_follows printed_shows)
      (shows_then ((evaluation expr).value old) printed (expression_keeps move new old follows expr).value.shows printed_shows)

  ran_shows : (expr : Expr) → Shows (ran expr old)
  ran_shows expr = shows_then ((evaluation expr).value old) without_value (expression_keeps move new old follows expr).value.shows (λ value. first_itself)

  ran_follows : (expr : Expr) → Follows move (ran (moved_expr move expr) new) (ran expr old)
  ran_follows expr =
      equal_then move ((evaluation (moved_expr move expr)).value new) ((evaluation expr).value old) without_value without_value (expression_keeps move new old follows expr).value.follows
      (λ value. equal_gives move tt tt refl) (λ value. first_itself)

  pub run_keeps : (expr : Expr) → Kept (plain (λ context. ran (moved_expr move expr) context >>= normally)) (plain (λ context. ran expr context >>= normally))
  run_keeps expr = plain_keeps (λ context. ran (moved_expr move expr) context >>= normally) (λ context. ran expr context >>= normally)
      (equal_then move (ran (moved_expr move expr) new) (ran expr old) normally normally (ran_follows expr) (λ done. equal_gives move Normal Normal refl) (λ done. first_itself))
      (shows_then (ran expr old) normally (ran_shows expr) (λ done. first_itself))

  all_ran_shows : (exprs : List Expr) → Shows (all_ran exprs old)
  all_ran_shows [] = first_itself
  all_ran_shows (expr ∷ exprs) = shows_then (ran expr old) (λ done. all_ran exprs old) (ran_shows expr) (λ done. all_ran_shows exprs)

  all_ran_follows : (exprs : List Expr) → Follows move (all_ran (map (moved_expr move) exprs) new) (all_ran exprs old)
  all_ran_follows [] = equal_gives move tt tt refl
  all_ran_follows (expr ∷ exprs) = equal_then move (ran (moved_expr move expr) new) (ran expr old) (λ done. all_ran (map (moved_expr move) exprs) new) (λ done. all_ran exprs old) (ran_follows expr)
      (λ done. all_ran_follows exprs) (λ done. all_ran_shows exprs)

  returned_shows : (value : Option Expr) → Shows (returned value old)
  returned_shows None = first_itself
  returned_shows (Some expr) = shows_then ((evaluation expr).value old) (λ value. gives (Returns (Some value))) (expression_keeps move new old follows expr).value.shows (λ value. first_itself)

  returned_follows : (value : Option Expr) → Follows move (returned (maybe (moved_expr move) value) new) (returned value old)
  returned_follows None = equal_gives move (Returns None) (Returns None) refl
  returned_follows (Some expr) = equal_then move ((evaluation (moved_expr move expr)).value new) ((evaluation expr).value old) (λ value. gives (Returns (Some value))) (λ value. gives (Returns (Some value)))
      (expression_keeps move new old follows expr).value.follows (λ value. equal_gives move (Returns (Some value)) (Returns (Some value)) refl) (λ value. first_itself)

  pub return_keeps : (value : Option Expr) → Kept (plain (returned (maybe (moved_expr move) value))) (plain (returned value))
  return_keeps value = plain_keeps (returned (maybe (moved_expr move) value)) (returned value) (returned_follows value) (returned_shows value)

  -- ---- declarations of locals

  assign_follows : (variable : Option Meaning) (value : Held) → Follows move (assign variable value) (assign variable value)
  assign_follows variable value n o like = both_give tt tt (assigns variable value n) (assigns variable value o) refl
      record { variables = ap (with_held variable value) like.variables; heap = like.heap; wrapped = like.wrapped; events = like.events }

  assign_shows : (variable : Option Meaning) (value : Held) → Shows (assign variable value)
  assign_shows variable value now = first_itself now

  pub type_again : (name : Span) → declared_at new (moved_span move name) ≡ declared_at old name
  type_again name = ap type_declared (follows.names.declared name)

  initially_shows : (init : Option Init) (name : Span) → Shows (initially init old name)
  initially_shows None name = first_itself
  initially_shows (Some init) name = ((initialiser_keeps move new old follows init).value (declared_at old name)).shows

  initially_follows : (init : Option Init) (name : Span) → Follows move (initially (maybe (moved_init move) init) new (moved_span move name)) (initially init old name)
  initially_follows None name = equal_gives move (default_of (declared_at new (moved_span move name))) (default_of (declared_at old name)) (ap default_of (type_again name))
  initially_follows (Some init) name =
      subst (λ ty. Follows move ((initial (moved_init move init)).value new ty) ((initial init).value old (declared_at old name))) (sym (type_again name))
      ((initialiser_keeps move new old follows init).value (declared_at old name)).follows

  declaration_shows : (decl : LocalDecl) (number : ℕ) → Shows (declaration decl old number)
  declaration_shows decl number = shows_then (initially decl.init old decl.name.span) (assign (Some (Local number))) (initially_shows decl.init decl.name.span) (assign_shows (Some (Local number)))

  declaration_follows : (decl : LocalDecl) (number : ℕ) → Follows move (declaration (moved_decl move decl) new number) (declaration decl old number)
  declaration_follows decl number =
      equal_then move (initially (maybe (moved_init move) decl.init) new (moved_span move decl.name.span)) (initially decl.init old decl.name.span) (assign (Some (Local number))) (assign (Some (Local number)))
      (initially_follows decl.init decl.name.span) (assign_follows (Some (Local number))) (assign_shows (Some (Local number)))

  declarations_show : (decls : List LocalDecl) (number : ℕ) → Shows (declarations decls old number)
  declarations_show [] number = first_itself
  declarations_show (decl ∷ decls) number = shows_then (declaration decl old number) (λ done. declarations decls old (number + 1)) (declaration_shows decl number) (λ done. declarations_show decls (number + 1))

  declarations_follow : (decls : List LocalDecl) (number : ℕ) → Follows move (declarations (map (moved_decl move) decls) new number) (declarations decls old number)
  declarations_follow [] number = equal_gives move tt tt refl
  declarations_follow (decl ∷ decls) number =
      equal_then move (declaration (moved_decl move decl) new number) (declaration decl old number) (λ done. declarations (map (moved_decl move) decls) new (number + 1))
      (λ done. declarations decls old (number + 1))
      (declaration_follows decl number) (λ done. declarations_follow decls (number + 1)) (λ done. declarations_show decls (number + 1))

  count_again : (decls : List LocalDecl) → count (map (moved_decl move) decls) ≡ count decls
  count_again [] = refl
  count_again (decl ∷ decls) = ap (λ n. 1 + n) (count_again decls)

  pub local_keeps : (decls : List LocalDecl) → Kept (declaring_all (map (moved_decl move) decls)) (declaring_all decls)
  local_keeps decls = record {
    declares = count_again decls;
    run = λ number. equal_then move (declarations (map (moved_decl move) decls) new number) (declarations decls old number) normally normally (declarations_follow decls number)
        (λ done. equal_gives move Normal Normal refl) (λ done. first_itself);
    shows = λ number. shows_then (declarations decls old number) normally (declarations_show decls number) (λ done. first_itself);
  }

  -- ---- blocks, choices and loops

  pub block_keeps : (made kept : List Execution) → AllKept made kept → Kept (block made) (block kept)
  block_keeps made kept all = record { declares = all.declares; run = all.run; shows = all.shows }

  pub choice_keeps : (condition : Expr) (first second kept other : Execution) → Kept first kept → Kept second other → Kept (choice (moved_expr move condition) first second) (choice condition kept other)
  choice_keeps condition first second kept other one two =
      let next = λ (number : ℕ) (answer : Bool). chosen answer (first.run new number) (second.run new (number + first.declares)) in
      let next_old = λ (number : ℕ) (answer : Bool). chosen answer (kept.run old number) (other.run old (number + kept.declares)) in
      let shows : (number : ℕ) (answer : Bool) → Shows (next_old number answer) = λ number answer.
      chosen_shows move answer (kept.run old number) (other.run old (number + kept.declares)) (one.shows number) (two.shows (number + kept.declares)) in
      record {
        declares = ap₂ (λ (a : ℕ) (b : ℕ). a + b) one.declares two.declares;
        run = λ number. equal_then move ((evaluation (moved_expr move condition)).holds new) ((evaluation condition).holds old) (next number) (next_old number) (expression_keeps move new old follows condition).holds.follows
            (λ answer. chosen_follows move answer (first.run new number) (second.run new (number + first.declares)) (kept.run old number) (other.run old (number + kept.declares)) (one.run number)
            (subst (λ d. Follows move (second.run new (number + first.declares)) (other.run old (number + d))) one.declares (two.run (number + first.declares))))
            (shows number);
        shows = λ number. shows_then ((evaluation condition).holds old) (next_old number) (expression_keeps move new old follows condition).holds.shows (shows number);
      }

  while_follows : (condition : Expr) (made kept : Execution) (number : ℕ) → Kept made kept → LoopFollows move (while_loop (moved_expr move condition) made new number) (while_loop condition kept old number)
  while_follows condition made kept number keeps = record {
    condition = (expression_keeps move new old follows condition).holds.follows;
    condition_shows = (expression_keeps move new old follows condition).holds.shows;
    body = keeps.run number;
    body_shows = keeps.shows number;
    update = equal_gives move tt tt refl;
    update_shows = first_itself;
  }

  first_shows : (loop other : Looping) → LoopFollows move loop other → Shows (tested_first other old)
  first_shows loop other runs = head_shows move loop other runs (turn other old.turns) (turn_shows move loop other runs old.turns)

  first_follows : (loop other : Looping) → LoopFollows move loop other → Follows move (tested_first loop new) (tested_first other old)
  first_follows loop other runs =
      rw follows.turns (head_follows move loop other runs (turn loop old.turns) (turn other old.turns) (turn_follows move loop other runs old.turns) (turn_shows move loop other runs old.turns))

  last_follows : (loop other : Looping) → LoopFollows move loop other → Follows move (tested_last loop new) (tested_last other old)
  last_follows loop other runs = rw follows.turns (turn_follows move loop other runs old.turns)

  pub while_keeps : (condition : Expr) (made kept : Execution) → Kept made kept
      → Kept (while_form (moved_expr move condition) made) (while_form condition kept)
  while_keeps condition made kept keeps = record {
    declares = keeps.declares;
    run = λ number. first_follows (while_loop (moved_expr move condition) made new number) (while_loop condition kept old number) (while_follows condition made kept number keeps);
    shows = λ number. first_shows (while_loop (moved_expr move condition) made new number) (while_loop condition kept old number) (while_follows condition made kept number keeps);
  }

  pub do_keeps : (condition : Expr) (made kept : Execution) → Kept made kept
      → Kept (do_form (moved_expr move condition) made) (do_form condition kept)
  do_keeps condition made kept keeps = record {
    declares = keeps.declares;
    run = λ number. last_follows (while_loop (moved_expr move condition) made new number) (while_loop condition kept old number) (while_follows condition made kept number keeps);
    shows = λ number. turn_shows move (while_loop (moved_expr move condition) made new number) (while_loop condition kept old number) (while_follows condition made kept number keeps) old.turns;
  }

  condition_shows : (condition : Option Expr) → Shows (condition_of condition old)
  condition_shows None = first_itself
  condition_shows (Some expr) = (expression_keeps move new old follows expr).holds.shows

  condition_follows : (condition : Option Expr) → Follows move (condition_of (maybe (moved_expr move) condition) new) (condition_of condition old)
  condition_follows None = equal_gives move true true refl
  condition_follows (Some expr) = (expression_keeps move new old follows expr).holds.follows

  pub for_keeps : (start others : List Execution) (condition : Option Expr) (update : List Expr) (made kept : Execution) → AllKept start others → Kept made kept
      → Kept (for_form start (maybe (moved_expr move) condition) (map (moved_expr move) update) made) (for_form others condition update kept)
  for_keeps start others condition update made kept all keeps =
      let loop = for_loop start (maybe (moved_expr move) condition) (map (moved_expr move) update) made new in
      let other = for_loop others condition update kept old in
      let loops : (number : ℕ) → LoopFollows move (loop number) (other number) = λ number. record {
        condition = condition_follows condition;
        condition_shows = condition_shows condition;
        body = subst (λ d. Follows move (made.run new (number + all_declare start)) (kept.run old (number + d))) all.declares (keeps.run (number + all_declare start));
        body_shows = keeps.shows (number + all_declare others);
        update = all_ran_follows update;
        update_shows = all_ran_shows update;
      } in
      let shows : (number : ℕ) (end : Completion) → Shows (behind end (tested_first (other number) old)) = λ number end.
      behind_shows move end (tested_first (other number) old) (first_shows (loop number) (other number) (loops number)) in
      record {
        declares = ap₂ (λ (a : ℕ) (b : ℕ). a + b) all.declares keeps.declares;
        run = λ number. equal_then move (each start new number) (each others old number) (λ end. behind end (tested_first (loop number) new)) (λ end. behind end (tested_first (other number) old)) (all.run number)
            (λ end. behind_follows move end (tested_first (loop number) new) (tested_first (other number) old) (first_follows (loop number) (other number) (loops number))) (shows number);
        shows = λ number. shows_then (each others old number) (λ end. behind end (tested_first (other number) old)) (all.shows number) (shows number);
      }
