-- Choices and loops keep their meaning: the machine makes at least a step for each turn.
use Rattle.std.proofs.Common.{◌≡◌, ◌≤◌, ℕ, zero, suc, ◌+◌, Bool, true, false, List, [], ◌∷◌, length, refl, sym, ap, subst, ◌∙◌, arith}
use Rattle.std.specs.Prelude.{if◌then◌else◌}
use Rattle.std.proofs.lemmas.List.{append-nil}
use Rattle.ix_core.specs.declared.code.Item.{Item}
use Rattle.ix_core.specs.declared.code.Item.TheVariants as item
use Rattle.ix_core.specs.Code.{Code, Condition, End, item_code, cond_code, block_code}
use Rattle.ix_core.specs.Code as code
use Rattle.ix_core.specs.Heap.{Held}
use Rattle.ix_core.specs.Traces.{step_seen}
use Rattle.ix_core.specs.Tasks.{Tasks, Empty, Run, Ask, Head, Again, Out, code_then, followed_by}
use Rattle.ix_core.proofs.Translated.{item_code-If, item_code-Loop}
use Rattle.ix_plain.specs.declared.body.Body.{Body}
use Rattle.ix_plain.specs.Parts.{Asked, empty, block, with_item}
use Rattle.ix_source.specs.Runs.{Now, Result as Ended, Gives, Stops, Cuts, Action, ◌>>=◌, go_on, gives}
use Rattle.ix_source.specs.Statements.{Completion, Normal, Breaks, Continues, Returns, chosen, Looping, head, turn, behind_turn, normally}
use Rattle.ix_source.specs.Seen.{Leads, Frame, at, Decides}
use Rattle.ix_source.specs.Kept.{code_before, nothing_known, Asks}
use Rattle.ix_source.specs.Running.{Ground, standing, Stands, StandsIf, Follows, AlongWith, SameOwners, Runs}
use Rattle.ix_source.proofs.Paths.{one_step, here, decides_from}
use Rattle.ix_source.proofs.Made.{block_is}
use Rattle.ix_source.proofs.Statements.{followed_code, followed_turn, breaks_over, turns_over, stands_fewer, stands_again, from_earlier, value_then}

module _ (g : Ground) where
  -- what is made in a block of its own, behind which the slots are free again
  abbrev pub own_block : Body → ℕ → Body
  own_block body most = record body { made = empty body.made.free; most = most }

  abbrev pub nested : Body → Body → Item → Body
  nested body inner last = record inner { made = with_item body.made last }

  -- a step that shows nothing, and what the machine goes along with behind it
  pub step_before : (f : Frame) (from to next tasks : Tasks) (least few : ℕ) (before after : Body) (slots : List Held) (now : Now) → Leads g.tables (at f from slots now.heap now.wrapped) [] (at f to slots now.heap now.wrapped)
      → least ≤ few → (r : Ended Completion) → AlongWith g f (at f to slots now.heap now.wrapped) next tasks few before after slots now r
      → AlongWith g f (at f from slots now.heap now.wrapped) next tasks least before after slots now r
  step_before f from to next tasks least few before after slots now l le r a =
      from_earlier g f (at f from slots now.heap now.wrapped) (at f to slots now.heap now.wrapped) next tasks next tasks least few before after before after slots slots now now [] l (sym (append-nil now.events)) refl (omega (arith, le))
      (λ completion behind later s t. (s, t)) (λ completion behind to follows. follows) r a

  pub decides_on : (f : Frame) (from to : Tasks) (slots : List Held) (now : Now) → Leads g.tables (at f from slots now.heap now.wrapped) [] (at f to slots now.heap now.wrapped) → Decides g.tables (at f from slots now.heap now.wrapped) → Decides g.tables (at f to slots now.heap now.wrapped)
  decides_on f from to slots now l decides = decides_from g.tables (at f from slots now.heap now.wrapped) (at f to slots now.heap now.wrapped) [] l decides

  -- a jump out of a nested block is a jump out of the block around it
  nested_follows : (rest : Code) (tasks : Tasks) (completion : Completion) (slots : List Held) (to : Tasks) → Follows g completion (code_then rest tasks) (code_then rest tasks) slots to → Follows g completion (code_then rest tasks) tasks slots to
  nested_follows rest tasks Normal slots to e = e
  nested_follows rest tasks Breaks slots to e = e ∙ breaks_over rest tasks
  nested_follows rest tasks Continues slots to e = e ∙ turns_over rest tasks
  nested_follows rest tasks (Returns value) slots to at_return = at_return

  stands_if : (completion : Completion) (inner after : Body) → ((slots : List Held) (now : Now) → Stands g inner slots now → Stands g after slots now) → (slots : List Held) (now : Now) → Stands g inner slots now → StandsIf g completion after slots now
  stands_if Normal inner after carry slots now s = carry slots now s
  stands_if Breaks inner after carry slots now s = tt
  stands_if Continues inner after carry slots now s = tt
  stands_if (Returns value) inner after carry slots now s = tt

  -- a branch of an `if`
  branch_goes : (f : Frame) (rest : Code) (tasks : Tasks) (items : List Item) (body begin end after : Body) (slots : List Held) (now : Now) (r : Ended Completion)
      → ((slots : List Held) (now : Now) → Stands g begin slots now → Stands g body slots now) → ((slots : List Held) (now : Now) → Stands g begin slots now → Stands g after slots now)
      → AlongWith g f (at f (code_then (code_before items End) (code_then rest tasks)) slots now.heap now.wrapped) (code_then rest tasks) (code_then rest tasks) g.depth begin end slots now r
      → AlongWith g f (at f (followed_by (code_then (code_before items End) Empty) (code_then rest tasks)) slots now.heap now.wrapped) (code_then rest tasks) tasks g.depth body after slots now r
  branch_goes f rest tasks items body begin end after slots now r back on a =
      subst (λ from. AlongWith g f (at f from slots now.heap now.wrapped) (code_then rest tasks) tasks g.depth body after slots now r) (sym (followed_code (code_before items End) (code_then rest tasks)))
      (from_earlier g f (at f (code_then (code_before items End) (code_then rest tasks)) slots now.heap now.wrapped) (at f (code_then (code_before items End) (code_then rest tasks)) slots now.heap now.wrapped) (code_then rest tasks) tasks (code_then rest tasks) (code_then rest tasks) g.depth g.depth body after begin end slots slots now now []
      (here g.tables _) (sym (append-nil now.events)) refl (omega arith) (λ completion behind later s t. (back behind later s, stands_if completion begin after on behind later s)) (λ completion behind to follows. nested_follows rest tasks completion behind to follows) r a)

  -- ---- `if`

  module _ (body : Body) (assigned : List ℕ) (most : ℕ) (holds : Action Bool) (asked : Asked) (first_end second_end : Body) (n m : ℕ) (first second : Action Completion) where
    abbrev first_begin : Body
    first_begin = own_block body most

    abbrev second_begin : Body
    second_begin = record first_end { made = empty body.made.free }

    abbrev if_item : Item
    if_item = item.If asked.cond (block first_end.made) (block second_end.made)

    abbrev behind_if : Body
    behind_if = nested body second_end if_item

    pub if_runs : body.made.free ≤ body.most → body.most ≤ most → asked.free ≤ most → Asks (standing g body assigned) nothing_known body.made.free (λ x. holds) asked → Runs g first_begin first_end n first → Runs g second_begin second_end m second
        → Runs g body behind_if (n + m) (holds >>= (λ answer. chosen answer first second))
    if_runs low up room_asked a x y = record {
      items = if_item ∷ [];
      appended = refl;
      up = omega arith;
      most = let u = x.most in let v = y.most in omega (arith, up, u, v);
      free = let u = x.most in let v = y.most in omega (arith, up, low, u, v);
      counted = let u = x.counted in let v = y.counted in omega (arith, u, v);
      owners = same_after;
      does = λ f rest tasks slots now room stands decides.
          let c1 : block_code (block first_end.made) ≡ code_before x.items End = block_is (empty body.made.free) first_end.made x.items refl x.appended in
          let c2 : block_code (block second_end.made) ≡ code_before y.items End = block_is (empty body.made.free) second_end.made y.items refl y.appended in
          let is : item_code if_item rest ≡ code.If (cond_code asked.cond) (code_before x.items End) (code_before y.items End) rest =
          item_code-If asked.cond (block first_end.made) (block second_end.made) rest ∙ ap (λ c. code.If (cond_code asked.cond) c (block_code (block second_end.made)) rest) c1 ∙ ap (λ c. code.If (cond_code asked.cond) (code_before x.items End) c rest) c2 in
          let T : Tasks = code_then rest tasks in
          let begun : Decides g.tables (at f (Ask (cond_code asked.cond) (code_then (code_before x.items End) Empty) (code_then (code_before y.items End) Empty) T) slots now.heap now.wrapped) =
          decides_on f (Run (code.If (cond_code asked.cond) (code_before x.items End) (code_before y.items End) rest) tasks) (Ask (cond_code asked.cond) (code_then (code_before x.items End) Empty) (code_then (code_before y.items End) Empty) T) slots now (one_step g.tables _ _ refl)
          (subst (λ code. Decides g.tables (at f (code_then code tasks) slots now.heap now.wrapped)) is decides) in
          let both = λ (answer : Bool). followed_by (if answer then code_then (code_before x.items End) Empty else code_then (code_before y.items End) Empty) T in
          subst (λ code. AlongWith g f (at f (code_then code tasks) slots now.heap now.wrapped) T tasks g.depth body behind_if slots now ((holds >>= (λ answer. chosen answer first second)) now)) (sym is)
          (step_before f (Run (code.If (cond_code asked.cond) (code_before x.items End) (code_before y.items End) rest) tasks) (Ask (cond_code asked.cond) (code_then (code_before x.items End) Empty) (code_then (code_before y.items End) Empty) T) T tasks g.depth g.depth body behind_if slots now (one_step g.tables _ _ refl) (omega arith) ((holds >>= (λ answer. chosen answer first second)) now)
          (value_then g (standing g body assigned) refl f (at f (Ask (cond_code asked.cond) (code_then (code_before x.items End) Empty) (code_then (code_before y.items End) Empty) T) slots now.heap now.wrapped) both (λ answer slots. Unit {0}) body.made.free T tasks g.depth body behind_if slots now (omega arith) (holds now) (λ answer. chosen answer first second) begun
          (a.does tt f (code_then (code_before x.items End) Empty) (code_then (code_before y.items End) Empty) T slots now (let u = x.most in let v = y.most in omega (arith, room_asked, room, u, v)) (record { held = stands.held; this = stands.this }) tt begun)
          (λ answer later behind keeps agrees held decides_then. go f rest tasks behind later (let same = keeps.size in omega (arith, room, same)) (record { held = agrees.held; this = agrees.this }) answer decides_then)));
    }
      where
        same_first : SameOwners g body first_begin
        same_first slot low = refl

        same_second : SameOwners g body second_begin
        same_second slot low = x.owners slot low

        same_after : SameOwners g body behind_if
        same_after slot low = y.owners slot low ∙ x.owners slot low

        again_after : SameOwners g first_begin behind_if
        again_after slot low = same_after slot low

        second_after : SameOwners g second_begin behind_if
        second_after slot low = y.owners slot low

        go : (f : Frame) (rest : Code) (tasks : Tasks) (behind : List Held) (later : Now) → second_end.most ≤ length behind → Stands g body behind later → (answer : Bool)
            → Decides g.tables (at f (followed_by (if answer then code_then (code_before x.items End) Empty else code_then (code_before y.items End) Empty) (code_then rest tasks)) behind later.heap later.wrapped)
            → AlongWith g f (at f (followed_by (if answer then code_then (code_before x.items End) Empty else code_then (code_before y.items End) Empty) (code_then rest tasks)) behind later.heap later.wrapped) (code_then rest tasks) tasks g.depth body behind_if behind later (chosen answer first second later)
        go f rest tasks behind later room stands true decides = branch_goes f rest tasks x.items body first_begin first_end behind_if behind later (first later)
            (λ slots now s. record { held = s.held; this = s.this }) (λ slots now s. stands_again g first_begin behind_if slots now (omega arith) again_after s)
            (x.does f End (code_then rest tasks) behind later (let u = y.most in omega (arith, room, u)) (record { held = stands.held; this = stands.this })
            (subst (λ to. Decides g.tables (at f to behind later.heap later.wrapped)) (followed_code (code_before x.items End) (code_then rest tasks)) decides))
        go f rest tasks behind later room stands false decides = branch_goes f rest tasks y.items body second_begin second_end behind_if behind later (second later)
            (λ slots now s. stands_fewer g body second_begin slots now (omega arith) same_second s) (λ slots now s. stands_again g second_begin behind_if slots now (omega arith) second_after s)
            (y.does f End (code_then rest tasks) behind later room (stands_again g body second_begin behind later (omega arith) same_second stands)
            (subst (λ to. Decides g.tables (at f to behind later.heap later.wrapped)) (followed_code (code_before y.items End) (code_then rest tasks)) decides))

  -- ---- loops

  -- a step that shows nothing and counts
  step_counted : (f : Frame) (from to next tasks : Tasks) (least few : ℕ) (before after : Body) (slots : List Held) (now : Now) (same : Rattle.ix_core.specs.Machine.step Rattle.ix_core.specs.Machine.no_limits g.tables (at f from slots now.heap now.wrapped) ≡ at f to slots now.heap now.wrapped)
      → step_seen (at f from slots now.heap now.wrapped) ≡ [] → least ≤ few + 1 → (r : Ended Completion) → AlongWith g f (at f to slots now.heap now.wrapped) next tasks few before after slots now r
      → AlongWith g f (at f from slots now.heap now.wrapped) next tasks least before after slots now r
  step_counted f from to next tasks least few before after slots now same none le r a =
      let l : Leads g.tables (at f from slots now.heap now.wrapped) [] (at f to slots now.heap now.wrapped) = record { steps = 1; there = same; shown = append-nil (step_seen (at f from slots now.heap now.wrapped)) ∙ none } in
      from_earlier g f (at f from slots now.heap now.wrapped) (at f to slots now.heap now.wrapped) next tasks next tasks least few before after before after slots slots now now [] l (sym (append-nil now.events)) refl (omega (arith, le))
      (λ completion behind later s t. (s, t)) (λ completion behind to follows. follows) r a

  module _ (body : Body) (assigned : List ℕ) (most : ℕ) (holds : Action Bool) (asked : Asked) (asks_body inner update_end : Body) (n : ℕ) (turn_action : Action Completion) (update : Action (Unit {0})) (first : Bool) (number scope : ℕ) where
    abbrev loop_begin : Body
    loop_begin = own_block body most

    abbrev update_begin : Body
    update_begin = record inner { made = empty body.made.free }

    abbrev loop_item : Item
    loop_item = item.Loop first asked.cond (block inner.made) (block update_end.made) number scope

    abbrev behind_the_loop : Body
    behind_the_loop = nested body update_end loop_item

    abbrev loop : Looping
    loop = record { condition = holds; body = turn_action; update = update }

    -- The condition may stand where more locals have been declared, none of which is in scope.
    abbrev pub SameScope : Type 0
    SameScope = (slots : List Held) (now : Now) → (Stands g body slots now → Stands g asks_body slots now) × (Stands g asks_body slots now → Stands g body slots now)

    module _ (low : body.made.free ≤ body.most) (up : body.most ≤ most) (room_asked : asked.free ≤ update_end.most) (scopes : SameScope) (a : Asks (standing g asks_body assigned) nothing_known asks_body.made.free (λ x. holds) asked) (x : Runs g loop_begin inner n turn_action)
        (u : Runs g update_begin update_end 0 (update >>= normally)) (f : Frame) (rest : Code) (tasks : Tasks) where
      abbrev C : Condition
      C = cond_code asked.cond

      abbrev B : Code
      B = code_before x.items End

      abbrev U : Code
      U = code_before u.items End

      abbrev T : Tasks
      T = code_then rest tasks

      same_inner : SameOwners g body update_begin
      same_inner slot under = x.owners slot under

      same_behind : SameOwners g body behind_the_loop
      same_behind slot under = u.owners slot under ∙ x.owners slot under

      behind_stands : (slots : List Held) (now : Now) → Stands g body slots now → Stands g behind_the_loop slots now
      behind_stands slots now s = stands_again g body behind_the_loop slots now (omega arith) same_behind s

      to_body : (slots : List Held) (now : Now) → Stands g loop_begin slots now → Stands g body slots now
      to_body slots now s = record { held = s.held; this = s.this }

      abbrev Goes : Tasks → ℕ → Ended Completion → List Held → Now → Type 0
      Goes from least r slots now = AlongWith g f (at f from slots now.heap now.wrapped) T tasks least body behind_the_loop slots now r

      abbrev TurnGoes : ℕ → Type 0
      TurnGoes left = (least : ℕ) → least ≤ g.depth → least ≤ left → (slots : List Held) (now : Now) → update_end.most ≤ length slots → Stands g body slots now → Decides g.tables (at f (code_then B (Again C B U (Out T))) slots now.heap now.wrapped) → Goes (code_then B (Again C B U (Out T))) least (turn loop left now) slots now

      loop_ended : (slots : List Held) (now : Now) → Stands g body slots now → (least : ℕ) → Goes (Out T) least (Gives Normal now) slots now
      loop_ended slots now stands least = record { behind = slots; shows = []; to = T; leads = one_step g.tables _ _ refl; events = sym (append-nil now.events); size = refl; stands = stands; stands_then = behind_stands slots now stands; follows = refl }

      answered : (left least : ℕ) → TurnGoes left → least ≤ g.depth → least ≤ left → (slots : List Held) (now : Now) → update_end.most ≤ length slots → Stands g body slots now → (answer : Bool) → Decides g.tables (at f (followed_by (if answer then code_then B (Again C B U Empty) else Empty) (Out T)) slots now.heap now.wrapped)
          → Goes (followed_by (if answer then code_then B (Again C B U Empty) else Empty) (Out T)) least (chosen answer (turn loop left) (gives Normal) now) slots now
      answered left least t le few slots now room stands true decides = subst (λ from. Goes from least (turn loop left now) slots now) (sym (followed_turn B C B U (Out T)))
          (t least le few slots now room stands (subst (λ to. Decides g.tables (at f to slots now.heap now.wrapped)) (followed_turn B C B U (Out T)) decides))
      answered left least t le few slots now room stands false decides = loop_ended slots now stands least

      pub head_goes : (left least : ℕ) → TurnGoes left → least ≤ g.depth → least ≤ left → (slots : List Held) (now : Now) → update_end.most ≤ length slots → Stands g body slots now → Decides g.tables (at f (Head C B U (Out T)) slots now.heap now.wrapped) → Goes (Head C B U (Out T)) least (head loop (turn loop left) now) slots now
      head_goes left least t le few slots now room stands decides =
          let first_tasks : Tasks = code_then B (Again C B U Empty) in
          let begun : Decides g.tables (at f (Ask C first_tasks Empty (Out T)) slots now.heap now.wrapped) = decides_on f (Head C B U (Out T)) (Ask C first_tasks Empty (Out T)) slots now (one_step g.tables _ _ refl) decides in
          let there : Stands g asks_body slots now = (scopes slots now).0 stands in
          step_counted f (Head C B U (Out T)) (Ask C first_tasks Empty (Out T)) T tasks least least body behind_the_loop slots now refl refl (omega arith) (head loop (turn loop left) now)
          (value_then g (standing g asks_body assigned) refl f (at f (Ask C first_tasks Empty (Out T)) slots now.heap now.wrapped) (λ answer. followed_by (if answer then first_tasks else Empty) (Out T)) (λ answer slots. Unit {0}) asks_body.made.free T tasks least body behind_the_loop slots now le (holds now)
          (λ answer. chosen answer (turn loop left) (gives Normal)) begun
          (a.does tt f first_tasks Empty (Out T) slots now (omega (arith, room_asked, room)) (record { held = there.held; this = there.this }) tt begun)
          (λ answer later behind keeps agrees held decides_then. answered left least t le few behind later (let same = keeps.size in omega (arith, room, same)) ((scopes behind later).1 (record { held = agrees.held; this = agrees.this })) answer decides_then))

      updated : (left least few : ℕ) → TurnGoes left → least ≤ g.depth → few ≤ left → few ≤ least → least ≤ few + 1 → (slots : List Held) (now : Now) → update_end.most ≤ length slots → Decides g.tables (at f (code_then U (Head C B U (Out T))) slots now.heap now.wrapped) → (r : Ended (Unit {0}))
          → AlongWith g f (at f (code_then U (Head C B U (Out T))) slots now.heap now.wrapped) (Head C B U (Out T)) (Head C B U (Out T)) g.depth update_begin update_end slots now (go_on normally r)
          → Goes (code_then U (Head C B U (Out T))) few (go_on (λ done. head loop (turn loop left)) r) slots now
      updated left least few t le few_left under over slots now room decides (Gives done later) d =
          let l = subst (λ to. Leads g.tables (at f (code_then U (Head C B U (Out T))) slots now.heap now.wrapped) d.shows (at f to d.behind later.heap later.wrapped)) d.follows d.leads in
          from_earlier g f (at f (code_then U (Head C B U (Out T))) slots now.heap now.wrapped) (at f (Head C B U (Out T)) d.behind later.heap later.wrapped) T tasks T tasks few few body behind_the_loop body behind_the_loop slots d.behind now later d.shows
          l d.events d.size (omega arith) (λ completion behind last s q. (s, q)) (λ completion behind to follows. follows)
          (head loop (turn loop left) later) (head_goes left few t (omega (arith, le, under)) few_left d.behind later (let same = d.size in omega (arith, room, same)) (stands_fewer g body update_begin d.behind later (omega arith) same_inner d.stands)
          (decides_from g.tables (at f (code_then U (Head C B U (Out T))) slots now.heap now.wrapped) (at f (Head C B U (Out T)) d.behind later.heap later.wrapped) d.shows l decides))
      updated left least few t le few_left under over slots now room decides (Stops ending later) d = record { final = d.final; shows = d.shows; leads = d.leads; ended = d.ended; wrapped = d.wrapped; events = d.events }
      updated left least few t le few_left under over slots now room decides (Cuts later) d = record { state = d.state; shows = d.shows; leads = d.leads; far = let far = d.far in omega (arith, far, le, under); ended = d.ended; wrapped = d.wrapped; events = d.events }

      -- the way back: the update, and the head
      again_goes : (left least few : ℕ) → TurnGoes left → least ≤ g.depth → few ≤ left → few ≤ least → least ≤ few + 1 → (slots : List Held) (now : Now) → update_end.most ≤ length slots → Stands g body slots now → Decides g.tables (at f (Again C B U (Out T)) slots now.heap now.wrapped)
          → Goes (Again C B U (Out T)) least ((update >>= (λ done. head loop (turn loop left))) now) slots now
      again_goes left least few t le few_left under over slots now room stands decides =
          let begun : Decides g.tables (at f (code_then U (Head C B U (Out T))) slots now.heap now.wrapped) = decides_on f (Again C B U (Out T)) (code_then U (Head C B U (Out T))) slots now (one_step g.tables _ _ refl) decides in
          step_counted f (Again C B U (Out T)) (code_then U (Head C B U (Out T))) T tasks least few body behind_the_loop slots now refl refl over ((update >>= (λ done. head loop (turn loop left))) now)
          (updated left least few t le few_left under over slots now room begun (update now) (u.does f End (Head C B U (Out T)) slots now room (stands_again g body update_begin slots now (omega arith) same_inner stands) begun))

      -- behind the body of a turn
      turned : (left least few : ℕ) → TurnGoes left → least ≤ g.depth → few ≤ left → few ≤ least → least ≤ few + 1 → (slots : List Held) (now : Now) → update_end.most ≤ length slots → Decides g.tables (at f (code_then B (Again C B U (Out T))) slots now.heap now.wrapped) → (r : Ended Completion)
          → AlongWith g f (at f (code_then B (Again C B U (Out T))) slots now.heap now.wrapped) (Again C B U (Out T)) (Again C B U (Out T)) g.depth loop_begin inner slots now r
          → Goes (code_then B (Again C B U (Out T))) least (go_on (λ end. behind_turn end (update >>= (λ done. head loop (turn loop left)))) r) slots now
      turned left least few t le few_left under over slots now room decides (Gives Normal later) d =
          let l = subst (λ to. Leads g.tables (at f (code_then B (Again C B U (Out T))) slots now.heap now.wrapped) d.shows (at f to d.behind later.heap later.wrapped)) d.follows d.leads in
          from_earlier g f (at f (code_then B (Again C B U (Out T))) slots now.heap now.wrapped) (at f (Again C B U (Out T)) d.behind later.heap later.wrapped) T tasks T tasks least least body behind_the_loop body behind_the_loop slots d.behind now later d.shows
          l d.events d.size (omega arith) (λ completion behind last s q. (s, q)) (λ completion behind to follows. follows)
          ((update >>= (λ done. head loop (turn loop left))) later) (again_goes left least few t le few_left under over d.behind later (let same = d.size in omega (arith, room, same)) (to_body d.behind later d.stands)
          (decides_from g.tables (at f (code_then B (Again C B U (Out T))) slots now.heap now.wrapped) (at f (Again C B U (Out T)) d.behind later.heap later.wrapped) d.shows l decides))
      turned left least few t le few_left under over slots now room decides (Gives Continues later) d =
          let l = subst (λ to. Leads g.tables (at f (code_then B (Again C B U (Out T))) slots now.heap now.wrapped) d.shows (at f to d.behind later.heap later.wrapped)) d.follows d.leads in
          from_earlier g f (at f (code_then B (Again C B U (Out T))) slots now.heap now.wrapped) (at f (Again C B U (Out T)) d.behind later.heap later.wrapped) T tasks T tasks least least body behind_the_loop body behind_the_loop slots d.behind now later d.shows
          l d.events d.size (omega arith) (λ completion behind last s q. (s, q)) (λ completion behind to follows. follows)
          ((update >>= (λ done. head loop (turn loop left))) later) (again_goes left least few t le few_left under over d.behind later (let same = d.size in omega (arith, room, same)) (to_body d.behind later d.stands)
          (decides_from g.tables (at f (code_then B (Again C B U (Out T))) slots now.heap now.wrapped) (at f (Again C B U (Out T)) d.behind later.heap later.wrapped) d.shows l decides))
      turned left least few t le few_left under over slots now room decides (Gives Breaks later) d =
          record { behind = d.behind; shows = d.shows; to = d.to; leads = d.leads; events = d.events; size = d.size; stands = to_body d.behind later d.stands; stands_then = behind_stands d.behind later (to_body d.behind later d.stands); follows = d.follows }
      turned left least few t le few_left under over slots now room decides (Gives (Returns value) later) d =
          record { behind = d.behind; shows = d.shows; to = d.to; leads = d.leads; events = d.events; size = d.size; stands = to_body d.behind later d.stands; stands_then = tt; follows = d.follows }
      turned left least few t le few_left under over slots now room decides (Stops ending later) d = record { final = d.final; shows = d.shows; leads = d.leads; ended = d.ended; wrapped = d.wrapped; events = d.events }
      turned left least few t le few_left under over slots now room decides (Cuts later) d = record { state = d.state; shows = d.shows; leads = d.leads; far = let far = d.far in omega (arith, far, le); ended = d.ended; wrapped = d.wrapped; events = d.events }

      -- A turn: where none is left the machine has made a step for each.
      pub turn_goes : (left : ℕ) → TurnGoes left
      turn_goes zero least le few slots now room stands decides = record { state = at f (code_then B (Again C B U (Out T))) slots now.heap now.wrapped; shows = []; leads = here g.tables _; far = few; ended = refl; wrapped = refl; events = sym (append-nil now.events) }
      turn_goes (suc left) zero le few slots now room stands decides =
          turned left zero zero (turn_goes left) le (omega arith) (omega arith) (omega arith) slots now room decides (turn_action now) (x.does f End (Again C B U (Out T)) slots now (let w = u.most in omega (arith, w, room)) (record { held = stands.held; this = stands.this }) decides)
      turn_goes (suc left) (suc least) le few slots now room stands decides =
          turned left (suc least) least (turn_goes left) le (omega (arith, few)) (omega arith) (omega arith) slots now room decides (turn_action now) (x.does f End (Again C B U (Out T)) slots now (let w = u.most in omega (arith, w, room)) (record { held = stands.held; this = stands.this }) decides)

      -- the code of the loop
      loop_is : item_code loop_item rest ≡ code.Loop first C B U number scope rest
      loop_is =
          let b : block_code (block inner.made) ≡ B = block_is (empty body.made.free) inner.made x.items refl x.appended in
          let n : block_code (block update_end.made) ≡ U = block_is (empty body.made.free) update_end.made u.items refl u.appended in
          item_code-Loop first asked.cond (block inner.made) (block update_end.made) number scope rest ∙ ap (λ c. code.Loop first C c (block_code (block update_end.made)) number scope rest) b ∙ ap (λ c. code.Loop first C B c number scope rest) n

      loop_begins : (turns : ℕ) → g.depth ≤ turns → (slots : List Held) (now : Now) → update_end.most ≤ length slots → Stands g body slots now → (b : Bool) → Decides g.tables (at f (Run (code.Loop b C B U number scope rest) tasks) slots now.heap now.wrapped)
          → Goes (Run (code.Loop b C B U number scope rest) tasks) g.depth ((if b then head loop (turn loop turns) else turn loop turns) now) slots now
      loop_begins turns deep slots now room stands true decides =
          step_before f (Run (code.Loop true C B U number scope rest) tasks) (Head C B U (Out T)) T tasks g.depth g.depth body behind_the_loop slots now (one_step g.tables _ _ refl) (omega arith) (head loop (turn loop turns) now)
          (head_goes turns g.depth (turn_goes turns) (omega arith) deep slots now room stands (decides_on f (Run (code.Loop true C B U number scope rest) tasks) (Head C B U (Out T)) slots now (one_step g.tables _ _ refl) decides))
      loop_begins turns deep slots now room stands false decides =
          step_before f (Run (code.Loop false C B U number scope rest) tasks) (code_then B (Again C B U (Out T))) T tasks g.depth g.depth body behind_the_loop slots now (one_step g.tables _ _ refl) (omega arith) (turn loop turns now)
          (turn_goes turns g.depth (omega arith) deep slots now room stands (decides_on f (Run (code.Loop false C B U number scope rest) tasks) (code_then B (Again C B U (Out T))) slots now (one_step g.tables _ _ refl) decides))

      loop_does : (turns : ℕ) → g.depth ≤ turns → (slots : List Held) (now : Now) → update_end.most ≤ length slots → Stands g body slots now → Decides g.tables (at f (code_then (item_code loop_item rest) tasks) slots now.heap now.wrapped)
          → Goes (code_then (item_code loop_item rest) tasks) g.depth ((if first then head loop (turn loop turns) else turn loop turns) now) slots now
      loop_does turns deep slots now room stands decides =
          subst (λ code. Goes (code_then code tasks) g.depth ((if first then head loop (turn loop turns) else turn loop turns) now) slots now) (sym loop_is)
          (loop_begins turns deep slots now room stands first (subst (λ code. Decides g.tables (at f (code_then code tasks) slots now.heap now.wrapped)) loop_is decides))

    -- `while` and `for` ask before each turn, `do` behind each
    pub loop_runs : body.made.free ≤ body.most → body.most ≤ most → asked.free ≤ update_end.most → SameScope → Asks (standing g asks_body assigned) nothing_known asks_body.made.free (λ x. holds) asked → Runs g loop_begin inner n turn_action → Runs g update_begin update_end 0 (update >>= normally)
        → (turns : ℕ) → g.depth ≤ turns → Runs g body behind_the_loop n (if first then head loop (turn loop turns) else turn loop turns)
    loop_runs low up room_asked scopes a x u turns deep = record {
      items = loop_item ∷ [];
      appended = refl;
      up = omega arith;
      most = let v = x.most in let w = u.most in omega (arith, up, v, w);
      free = let v = x.most in let w = u.most in omega (arith, up, low, v, w);
      counted = let v = x.counted in let w = u.counted in omega (arith, v, w);
      owners = λ slot under. u.owners slot under ∙ x.owners slot under;
      does = λ f rest tasks slots now room stands decides.
          loop_does low up room_asked scopes a x u f rest tasks turns deep slots now room stands decides;
    }
