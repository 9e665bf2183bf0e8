-- `if`, `while`, `do` and `for`, as lowering makes them, keep their meaning where their parts do.
use Rattle.std.proofs.Common.{◌≡◌, ◌≤◌, ℕ, ◌+◌, Bool, true, false, List, [], length, map, Option, Some, None, Ok, Err, refl, sym, subst, ◌∙◌, arith}
use Rattle.std.specs.Prelude.{◌&&◌, if◌then◌else◌, max, nat_lt}
use Rattle.ix_core.specs.declared.code.Cond.TheVariants as cond
use Rattle.ix_core.specs.declared.code.Item as item
use Rattle.ix_core.specs.Code.{Known}
use Rattle.ix_core.specs.Heap.{Held}
use Rattle.ix_core.specs.Tasks.{Ask, followed_by}
use Rattle.ix_core.proofs.Translated.{cond_code-Known}
use Rattle.ix_tree.specs.declared.expr.Expr.{Expr}
use Rattle.ix_meaning.specs.declared.note.Which.TheVariants as which
use Rattle.ix_plain.specs.declared.body.Body.{Body}
use Rattle.ix_plain.specs.Parts.{Within, ◌>>=◌ as ◌then◌, Asked, empty, block}
use Rattle.ix_plain.specs.Assigned.{assigns}
use Rattle.ix_plain.specs.Values.{lowering}
use Rattle.ix_plain.specs.Statements as plain
use Rattle.ix_plain.specs.Statements.{Tested, Inside, assigned_by, scope_for, with_last, with_free, behind, no_block}
use Rattle.ix_source.specs.Runs.{Now, Gives, Action, ◌>>=◌, gives}
use Rattle.ix_source.specs.Context.{Members, Calls}
use Rattle.ix_source.specs.Values.{evaluation}
use Rattle.ix_source.specs.Statements as source
use Rattle.ix_source.specs.Statements.{Execution, Completion, Normal, chosen, turn, normally, tested_first, tested_last}
use Rattle.ix_source.specs.Seen.{at}
use Rattle.ix_source.specs.Along.{Setting, Along}
use Rattle.ix_source.specs.Kept.{Makes, nothing_known, Asks}
use Rattle.ix_source.specs.Running.{Ground, standing, Stands, SameOwners, Runs}
use Rattle.ix_source.specs.SoundStatements as sound
use Rattle.ix_source.specs.SoundStatements.{StatementSoundness, running_of, where_made, used_at, all_ran_at, used_if, part_sound, each_sound}
use Rattle.ix_source.proofs.Paths.{one_step}
use Rattle.ix_source.proofs.Going.{at_once}
use Rattle.ix_source.proofs.Made.{makes_more}
use Rattle.ix_source.proofs.Conditions.{then_on}
use Rattle.ix_source.proofs.Expressions.{and_first, and_second}
use Rattle.ix_source.specs.Grounds.{Rooted, IsGround}
use Rattle.ix_source.proofs.Statements.{stands_fewer, stands_again, runs_both, runs_nothing}
use Rattle.ix_source.proofs.Loops.{if_runs, loop_runs}
use Rattle.ix_source.proofs.Simple.{most_first, most_second}
use Rattle.ix_source.proofs.FullExpressions.{makes_map, makes_sound, then_sound, kept_used, rooted_behind}
use Rattle.ix_source.proofs.StatementForms.{context, StatementKept, AllKept, each_kept, all_ran_kept, reloop, block_runs}

-- The loop's number is taken.
abbrev looping : Body → Body
looping body = record body { loops = body.loops + 1 }

module _ (g : Ground) (members : Members) (calls : Calls) (turns : ℕ) (ground : IsGround g members calls turns) where
  abbrev here : Rattle.ix_source.specs.Context.Context
  here = context g members calls turns ground

  abbrev Kept : Execution → StatementSoundness → Type 0
  Kept e q = StatementKept g members calls turns ground e q

  abbrev holds : Expr → Action Bool
  holds e = (evaluation e).holds here

  abbrev assigned_in : Expr → Body → List ℕ
  assigned_in e body = assigned_by g.site body (assigns e).inside

  condition_kept : (e : Expr) (body : Body) → Rooted g body → used_at e g body ≡ true → Makes (Asks (standing g body (assigned_in e body)) nothing_known body.made.free (λ x. holds e)) ((lowering e).condition (scope_for g.site body (assigns e).inside) body.made.free)
  condition_kept e body rooted is = (kept_used g members calls turns ground e body rooted is).condition body.made.free (omega arith)

  -- where the slots are free again behind a statement, slot 0 is no variable's either
  rooted_again : (begin after : Body) (n : ℕ) (action : Action Completion) → Rooted g begin → Runs g begin after n action → Rooted g (record after { made = empty begin.made.free })
  rooted_again begin after n action rooted x has = (x.owners 0 (rooted has).1 ∙ (rooted has).0, (rooted has).1)

  -- a choice without a second branch
  no_second : Execution
  no_second = record { declares = 0; run = λ context number. gives Normal }

  -- ---- `if` (JLS 14.9)

  module _ (condition : Expr) (first second : StatementSoundness) (a b : Execution) (x : Kept a first) (y : Kept b second) (body : Body) (low : body.made.free ≤ body.most) (rooted : Rooted g body) where
    abbrev Chosen : Body → Type 0
    Chosen after = Runs g body after (a.declares + b.declares) (holds condition >>= (λ answer. chosen answer (a.run here (length body.locals)) (b.run here (length body.locals + a.declares))))

    pub if_kept : sound.chosen_sound condition first (Some second) g body ≡ true → Makes Chosen (plain.chosen condition first.running (Some second.running) g.site body)
    if_kept is =
        makes_sound (Asks (standing g body (assigned_in condition body)) nothing_known body.made.free (λ x. holds condition)) Chosen ((lowering condition).condition (scope_for g.site body (assigns condition).inside) body.made.free) (λ asked. record { cond = asked.cond; body = behind body body.made.items asked.free })
        (λ (asked : Tested). part_sound first g asked.body && where_made (plain.branch first.running g.site asked.body) (λ (made : Inside). sound.part_if (Some second) g made.body)) _ (condition_kept condition body rooted (and_first (used_at condition g body) _ is)) (and_second (used_at condition g body) _ is)
        (λ asked asks is_first.
        let most = max body.most asked.free in
        let m = most_first body.most asked.free in
        let begin : Body = record body { made = empty body.made.free; most = most } in
        let asked_body : Body = behind body body.made.items asked.free in
        makes_sound (λ one. Runs g begin one a.declares (a.run here (length body.locals))) Chosen (first.running.run g.site first.running.span.to begin) (λ one. record { block = block one.made; body = record one { made = asked_body.made } })
        (λ (made : Inside). sound.part_if (Some second) g made.body) _ (x first.running.span.to begin (omega (arith, low, m)) rooted (and_first (part_sound first g asked_body) _ is_first)) (and_second (part_sound first g asked_body) _ is_first)
        (λ one r1 is_second.
        let second_begin : Body = record one { made = empty body.made.free } in
        let n = r1.most in
        makes_map (λ two. Runs g second_begin two b.declares (b.run here (length one.locals))) Chosen (second.running.run g.site second.running.span.to second_begin) (λ two. record { block = block two.made; body = record two { made = asked_body.made } }) _
        (y second.running.span.to second_begin (omega (arith, low, m, n)) (rooted_again begin one a.declares (a.run here (length body.locals)) rooted r1) is_second)
        (λ two r2. if_runs g body (assigned_in condition body) most (holds condition) asked one two a.declares b.declares (a.run here (length body.locals)) (b.run here (length body.locals + a.declares)) low m (most_second body.most asked.free) asks r1
        (subst (λ n. Runs g second_begin two b.declares (b.run here n)) r1.counted r2))))

    abbrev ChosenOne : Body → Type 0
    ChosenOne after = Runs g body after (a.declares + 0) (holds condition >>= (λ answer. chosen answer (a.run here (length body.locals)) (gives Normal)))

    pub if_only_kept : sound.chosen_sound condition first None g body ≡ true → Makes ChosenOne (plain.chosen condition first.running None g.site body)
    if_only_kept is =
        makes_sound (Asks (standing g body (assigned_in condition body)) nothing_known body.made.free (λ x. holds condition)) ChosenOne ((lowering condition).condition (scope_for g.site body (assigns condition).inside) body.made.free) (λ asked. record { cond = asked.cond; body = behind body body.made.items asked.free })
        (λ (asked : Tested). part_sound first g asked.body && where_made (plain.branch first.running g.site asked.body) (λ (made : Inside). sound.part_if None g made.body)) _ (condition_kept condition body rooted (and_first (used_at condition g body) _ is)) (and_second (used_at condition g body) _ is)
        (λ asked asks is_first.
        let most = max body.most asked.free in
        let m = most_first body.most asked.free in
        let begin : Body = record body { made = empty body.made.free; most = most } in
        let asked_body : Body = behind body body.made.items asked.free in
        makes_map (λ one. Runs g begin one a.declares (a.run here (length body.locals))) ChosenOne (first.running.run g.site first.running.span.to begin) (λ one. record { block = block one.made; body = record one { made = asked_body.made } }) _
        (x first.running.span.to begin (omega (arith, low, m)) rooted (and_first (part_sound first g asked_body) _ is_first))
        (λ one r1.
        let second_begin : Body = record one { made = empty body.made.free } in
        let n = r1.most in
        if_runs g body (assigned_in condition body) most (holds condition) asked one second_begin a.declares 0 (a.run here (length body.locals)) (gives Normal) low m (most_second body.most asked.free) asks r1
        (runs_nothing g second_begin (omega (arith, low, m, n)))))

  -- ---- `while` (JLS 14.12)

  module _ (condition : Expr) (part : StatementSoundness) (e : Execution) (x : Kept e part) (body : Body) (low : body.made.free ≤ body.most) (rooted : Rooted g body) where
    abbrev in_it : Body
    in_it = looping body

    abbrev WhileRuns : Body → Type 0
    WhileRuns after = Runs g body after e.declares (tested_first record { condition = holds condition; body = e.run here (length body.locals); update = gives tt } here)

    while_by : (b : Bool) → where_made {A = Body} (if b then Ok in_it else Err which.Loops) (λ inside. used_at condition g inside && where_made (plain.tested g.site condition inside) (λ asked. part_sound part g asked.body)) ≡ true
        → Makes WhileRuns ((if b then Ok in_it else Err which.Loops) then (λ (begun : Body). plain.tested g.site condition begun then (λ (asked : Tested). plain.branch part.running g.site asked.body then (λ (turned : Inside). Ok (with_last turned.body (item.Loop true asked.cond turned.block no_block body.loops body.made.free))))))
    while_by false is = tt
    while_by true is =
        makes_sound (Asks (standing g in_it (assigned_in condition in_it)) nothing_known body.made.free (λ x. holds condition)) WhileRuns ((lowering condition).condition (scope_for g.site in_it (assigns condition).inside) body.made.free) (λ asked. record { cond = asked.cond; body = behind in_it in_it.made.items asked.free })
        (λ (asked : Tested). part_sound part g asked.body) _ (condition_kept condition in_it rooted (and_first (used_at condition g in_it) _ is)) (and_second (used_at condition g in_it) _ is)
        (λ asked asks is_part.
        let most = max body.most asked.free in
        let m = most_first body.most asked.free in
        let k = most_second body.most asked.free in
        let begin : Body = record in_it { made = empty body.made.free; most = most } in
        makes_map (λ inner. Runs g begin inner e.declares (e.run here (length body.locals))) WhileRuns (part.running.run g.site part.running.span.to begin) (λ inner. record { block = block inner.made; body = record inner { made = in_it.made } }) _
        (x part.running.span.to begin (omega (arith, low, m)) rooted is_part)
        (λ inner r.
        let no_update : Body = record inner { made = empty body.made.free } in
        let n = r.most in
        reloop g members calls turns ground body _ (body.loops + 1) e.declares _
        (loop_runs g in_it (assigned_in condition in_it) most (holds condition) asked in_it inner no_update e.declares (e.run here (length body.locals)) (gives tt) true body.loops body.made.free low m (omega (arith, k, n)) (λ slots now. (λ s. s, λ s. s)) asks r
        (runs_nothing g no_update (omega (arith, low, m, n))) turns ground.deep)))

    pub while_kept : sound.while_sound condition part g body ≡ true → Makes WhileRuns (plain.while condition part.running g.site body)
    while_kept is = while_by (nat_lt body.loops plain.most_loops) is

    -- ---- `do` (JLS 14.13)

    abbrev DoRuns : Body → Type 0
    DoRuns after = Runs g body after e.declares (tested_last record { condition = holds condition; body = e.run here (length body.locals); update = gives tt } here)

    do_by : (b : Bool) → where_made {A = Body} (if b then Ok in_it else Err which.Loops) (λ inside. part_sound part g inside && where_made (plain.branch part.running g.site inside) (λ made. used_at condition g made.body)) ≡ true
        → Makes DoRuns ((if b then Ok in_it else Err which.Loops) then (λ (begun : Body). plain.branch part.running g.site begun then (λ (turned : Inside). plain.tested g.site condition turned.body then (λ (asked : Tested). Ok (with_last asked.body (item.Loop false asked.cond turned.block no_block body.loops body.made.free))))))
    do_by false is = tt
    do_by true is =
        let begin : Body = record in_it { made = empty body.made.free } in
        makes_sound (λ inner. Runs g begin inner e.declares (e.run here (length body.locals))) DoRuns (part.running.run g.site part.running.span.to begin) (λ inner. record { block = block inner.made; body = record inner { made = in_it.made } })
        (λ (made : Inside). used_at condition g made.body) _ (x part.running.span.to begin low rooted (and_first (part_sound part g in_it) _ is)) (and_second (part_sound part g in_it) _ is)
        (λ inner r is_asked.
        let turned : Body = record inner { made = in_it.made } in
        let same : SameOwners g body turned = λ slot under. r.owners slot under in
        makes_map (Asks (standing g turned (assigned_in condition turned)) nothing_known body.made.free (λ x. holds condition)) DoRuns ((lowering condition).condition (scope_for g.site turned (assigns condition).inside) body.made.free) (λ asked. record { cond = asked.cond; body = behind turned turned.made.items asked.free }) _
        (condition_kept condition turned (rooted_again begin inner e.declares (e.run here (length body.locals)) rooted r) is_asked)
        (λ asked asks.
        let most = max inner.most asked.free in
        let m = most_first inner.most asked.free in
        let k = most_second inner.most asked.free in
        let n = r.most in
        let update_begin : Body = record inner { made = empty body.made.free } in
        reloop g members calls turns ground body _ (body.loops + 1) e.declares _
        (loop_runs g in_it (assigned_in condition turned) body.most (holds condition) asked turned inner (record inner { made = empty body.made.free; most = most }) e.declares (e.run here (length body.locals)) (gives tt) false body.loops body.made.free low (omega arith) k
        (λ slots now. (λ s. stands_again g body turned slots now (omega arith) same (record { held = s.held; this = s.this }), λ s. stands_to_loop slots now (stands_fewer g body turned slots now (omega arith) same s))) asks r
        (raised update_begin most (omega (arith, low, n)) m) turns ground.deep)))
      where
        stands_to_loop : (slots : List Held) (now : Now) → Stands g body slots now → Stands g in_it slots now
        stands_to_loop slots now s = record { held = s.held; this = s.this }

        -- nothing happens, and more slots are reserved
        raised : (begin : Body) (most : ℕ) → begin.made.free ≤ begin.most → begin.most ≤ most → Runs g begin (record begin { most = most }) 0 (gives tt >>= normally)
        raised begin most low up =
            let x = runs_nothing g begin low in
            record {
              items = x.items;
              appended = x.appended;
              up = x.up;
              most = up;
              free = omega (arith, low, up);
              counted = x.counted;
              owners = x.owners;
              does = λ f rest tasks slots now room stands decides.
                  let a = x.does f rest tasks slots now (omega (arith, up, room)) stands decides in
                  record { behind = a.behind; shows = a.shows; to = a.to; leads = a.leads; events = a.events; size = a.size; stands = a.stands; stands_then = record { held = a.stands_then.held; this = a.stands_then.this }; follows = a.follows };
            }

    pub do_kept : sound.do_sound part condition g body ≡ true → Makes DoRuns (plain.do_while part.running condition g.site body)
    do_kept is = do_by (nat_lt body.loops plain.most_loops) is

  -- ---- `for` (JLS 14.14.1)

  known_true : (z : Setting) (free : ℕ) → Asks z nothing_known free (λ (x : Unit {0}). gives true) (record { cond = cond.Known true; free = free })
  known_true z free = record {
    up = omega arith;
    does = λ x f first_tasks second_tasks tasks slots now room agrees knows decides.
        subst (λ c. Along z f (at f (Ask c first_tasks second_tasks tasks) slots now.heap now.wrapped) (λ answer. followed_by (if answer then first_tasks else second_tasks) tasks) (λ answer slots. Unit {0}) free slots now (Gives true now)) (sym (cond_code-Known true))
        (then_on z f (Ask (Known true) first_tasks second_tasks tasks) (followed_by first_tasks tasks) (λ answer. followed_by (if answer then first_tasks else second_tasks) tasks) (λ answer slots. Unit {0}) free slots now (one_step z.tables _ _ refl) (Gives true now)
        (at_once z f (λ answer. followed_by (if answer then first_tasks else second_tasks) tasks) (λ answer slots. Unit {0}) free slots now true agrees tt));
  }

  module _ (condition : Option Expr) (update : List Expr) (part : StatementSoundness) (e : Execution) (x : Kept e part) (free : ℕ) (body : Body) (low : body.made.free ≤ body.most) (rooted : Rooted g body) where
    abbrev in_for : Body
    in_for = looping body

    abbrev LoopRuns : Body → Type 0
    LoopRuns after = Runs g body after e.declares (tested_first record { condition = source.condition_of condition here; body = e.run here (length body.locals); update = source.all_ran update here } here)

    -- The slots of the first part's locals are free again behind the loop.
    abbrev Behind : Body → Type 0
    Behind after = (inner : Body) × (after ≡ with_free free inner) × LoopRuns inner

    abbrev rest_sound : Body → Bool
    rest_sound asked = part_sound part g asked && where_made (plain.branch part.running g.site asked) (λ made. all_ran_at update g (sound.begun made.body))

    abbrev rest_made : Rattle.ix_core.specs.declared.code.Cond.Cond → Body → Within Body
    rest_made asked asked_body = plain.branch part.running g.site asked_body then (λ (turned : Inside). plain.inside (plain.all_ran update g.site) turned.body then (λ (next : Inside). Ok (with_last (with_free free next.body) (item.Loop true asked turned.block next.block body.loops body.made.free))))

    -- behind the condition
    rest_kept : (assigned : List ℕ) (asked : Asked) (most : ℕ) → body.most ≤ most → asked.free ≤ most → Asks (standing g in_for assigned) nothing_known body.made.free (λ x. source.condition_of condition here) asked → rest_sound (record in_for { most = most }) ≡ true
        → Makes Behind (rest_made asked.cond (record in_for { most = most }))
    rest_kept assigned asked most up room asks is =
        let begin : Body = record in_for { made = empty body.made.free; most = most } in
        makes_sound (λ inner. Runs g begin inner e.declares (e.run here (length body.locals))) Behind (part.running.run g.site part.running.span.to begin) (λ inner. record { block = block inner.made; body = record inner { made = in_for.made } })
        (λ (made : Inside). all_ran_at update g (sound.begun made.body)) _ (x part.running.span.to begin (omega (arith, low, up)) rooted (and_first (part_sound part g (record in_for { most = most })) _ is)) (and_second (part_sound part g (record in_for { most = most })) _ is)
        (λ inner r is_update.
        let update_begin : Body = record inner { made = empty body.made.free } in
        let n = r.most in
        makes_map (λ next. Runs g update_begin next 0 (source.all_ran update here >>= normally)) Behind (plain.all_ran update g.site update_begin) (λ next. record { block = block next.made; body = record next { made = in_for.made } }) _
        (all_ran_kept g members calls turns ground update update_begin (omega (arith, low, up, n)) (rooted_again begin inner e.declares (e.run here (length body.locals)) rooted r) is_update)
        (λ next u.
        let k = u.most in (
          _,
          refl,
          reloop g members calls turns ground body _ (body.loops + 1) e.declares _
              (loop_runs g in_for assigned most (source.condition_of condition here) asked in_for inner next e.declares (e.run here (length body.locals)) (source.all_ran update here) true body.loops body.made.free low up (omega (arith, room, n, k)) (λ slots now. (λ s. s, λ s. s)) asks r u turns ground.deep),
        )))

  -- the condition, or none
  tested_kept : (condition : Option Expr) (update : List Expr) (part : StatementSoundness) (e : Execution) (x : Kept e part) (free : ℕ) (body : Body) (low : body.made.free ≤ body.most) (rooted : Rooted g body)
      → used_if condition g (looping body) && where_made (plain.tested_if condition g.site (looping body)) (λ asked. part_sound part g asked.body && where_made (plain.branch part.running g.site asked.body) (λ made. all_ran_at update g (sound.begun made.body))) ≡ true
      → Makes (Behind condition update part e x free body low rooted) (plain.tested_if condition g.site (looping body) then (λ (asked : Tested). rest_made condition update part e x free body low rooted asked.cond asked.body))
  tested_kept None update part e x free body low rooted is = rest_kept None update part e x free body low rooted [] (record { cond = cond.Known true; free = body.made.free }) body.most (omega arith) low (known_true (standing g (looping body) []) body.made.free) is
  tested_kept (Some condition) update part e x free body low rooted is =
      let inside : Body = looping body in
      makes_sound (Asks (standing g inside (assigned_in condition inside)) nothing_known body.made.free (λ x. holds condition)) (Behind (Some condition) update part e x free body low rooted) ((lowering condition).condition (scope_for g.site inside (assigns condition).inside) body.made.free) (λ asked. record { cond = asked.cond; body = behind inside inside.made.items asked.free })
      (λ (asked : Tested). rest_sound (Some condition) update part e x free body low rooted asked.body) _ (condition_kept condition inside rooted (and_first (used_at condition g inside) _ is)) (and_second (used_at condition g inside) _ is)
      (λ asked asks is_rest. rest_kept (Some condition) update part e x free body low rooted (assigned_in condition inside) asked (max body.most asked.free) (most_first body.most asked.free) (most_second body.most asked.free) asks is_rest)

  in_loop_kept : (condition : Option Expr) (update : List Expr) (part : StatementSoundness) (e : Execution) (x : Kept e part) (free : ℕ) (body : Body) (low : body.made.free ≤ body.most) (rooted : Rooted g body) (b : Bool)
      → where_made {A = Body} (if b then Ok (looping body) else Err which.Loops) (λ inside. used_if condition g inside && where_made (plain.tested_if condition g.site inside) (λ asked. part_sound part g asked.body && where_made (plain.branch part.running g.site asked.body) (λ made. all_ran_at update g (sound.begun made.body)))) ≡ true
      → Makes (Behind condition update part e x free body low rooted) ((if b then Ok (looping body) else Err which.Loops) then (λ (begun : Body). plain.tested_if condition g.site begun then (λ (asked : Tested). rest_made condition update part e x free body low rooted asked.cond asked.body)))
  in_loop_kept condition update part e x free body low rooted true is = tested_kept condition update part e x free body low rooted is
  in_loop_kept condition update part e x free body low rooted false is = tt

  module _ (es : List Execution) (qs : List StatementSoundness) (kept : AllKept g members calls turns ground es qs) (condition : Option Expr) (update : List Expr) (part : StatementSoundness) (e : Execution) (x : Kept e part) (end : ℕ) (body : Body) (low : body.made.free ≤ body.most) (rooted : Rooted g body) where
    abbrev the_loop : ℕ → Action Completion
    the_loop number = tested_first record { condition = source.condition_of condition here; body = e.run here number; update = source.all_ran update here } here

    abbrev firsts : Action Completion
    firsts = source.each es here (length body.locals)

    abbrev ForRuns : Body → Type 0
    ForRuns after = Runs g body after (source.all_declare es + e.declares) (firsts >>= (λ end. source.behind end (the_loop (length body.locals + source.all_declare es))))

    pub for_kept : sound.for_sound qs condition update part end g body ≡ true → Makes ForRuns (plain.counted (map running_of qs) condition update part.running end g.site body)
    for_kept is =
        then_sound (λ first. Runs g body first (source.all_declare es) firsts) ForRuns (plain.each (map running_of qs) g.site end body) (sound.loop_sound condition update part g) _ (each_kept g members calls turns ground es qs kept end body low rooted (and_first (each_sound qs g end body) _ is)) (and_second (each_sound qs g end body) _ is)
        (λ first r is_loop. makes_more (Behind condition update part e x body.made.free first r.free (rooted_behind g members calls turns ground body first (source.all_declare es) firsts rooted r)) ForRuns
        (λ after (inner, is_after, loop). subst ForRuns (sym is_after)
        (block_runs g members calls turns ground body inner (source.all_declare es + e.declares) (firsts >>= (λ end. source.behind end (the_loop (length body.locals + source.all_declare es)))) low
        (runs_both g body first inner (source.all_declare es) e.declares firsts (the_loop (length body.locals + source.all_declare es)) r
        (subst (λ n. Runs g first inner e.declares (the_loop n)) r.counted loop))))
        _ (in_loop_kept condition update part e x body.made.free first r.free (rooted_behind g members calls turns ground body first (source.all_declare es) firsts rooted r) (nat_lt first.loops plain.most_loops) is_loop))
