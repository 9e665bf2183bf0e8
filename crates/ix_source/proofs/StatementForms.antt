-- The forms of statements, as lowering makes them, keep their meaning where their parts do.
use Rattle.std.proofs.Common.{◌≡◌, ◌≤◌, ℕ, ◌+◌, Bool, true, false, List, [], ◌∷◌, ◌++◌, length, map, Option, Some, None, Ok, Err, refl, subst, arith}
use Rattle.std.specs.Prelude.{if◌then◌else◌, nat_lt}
use Rattle.ix_text.specs.declared.span.Span.{Span}
use Rattle.ix_core.specs.declared.code.Item.{Item}
use Rattle.ix_core.specs.declared.code.Item.TheVariants as item
use Rattle.ix_core.specs.declared.op.OpKind.TheVariants as op
use Rattle.ix_core.specs.Heap.{Held}
use Rattle.ix_core.specs.Machine.{State}
use Rattle.ix_core.specs.Tasks.{Tasks, code_then}
use Rattle.ix_tree.specs.declared.expr.Expr.{Expr}
use Rattle.ix_meaning.specs.declared.note.Which.TheVariants as which
use Rattle.ix_plain.specs.declared.body.Body.{Body}
use Rattle.ix_plain.specs.Parts.{◌>>=◌ as ◌then◌, Value, Asked, most_slots}
use Rattle.ix_plain.specs.Assigned.{assigns}
use Rattle.ix_plain.specs.Values.{lowering}
use Rattle.ix_plain.specs.Statements as plain
use Rattle.ix_plain.specs.Statements.{Evaluated, assigned_by, scope_for, behind, with_last, with_free, answer_item}
use Rattle.ix_source.specs.Runs.{Now, Result as Ended, Gives, Stops, Cuts, Action, ◌>>=◌, go_on, gives}
use Rattle.ix_source.specs.Context.{Members, Calls}
use Rattle.ix_source.specs.Values.{evaluation}
use Rattle.ix_source.specs.Statements as source
use Rattle.ix_source.specs.Statements.{Execution, Completion, Normal, Returns, turn, normally}
use Rattle.ix_source.specs.Seen.{Frame, at}
use Rattle.ix_source.specs.Along.{Along}
use Rattle.ix_source.specs.Kept.{Makes, code_before, nothing_known, anything, IsIn, Done, Answers, Kept}
use Rattle.ix_source.specs.Running.{Ground, standing, Stands, StandsIf, AlongWith, SameOwners, Runs}
use Rattle.ix_source.specs.SoundStatements.{StatementSoundness, running_of, used_at, ran_at, all_ran_at, used_if, each_sound}
use Rattle.ix_source.proofs.Made.{makes_then, makes_more}
use Rattle.ix_source.proofs.Expressions.{and_first, and_second}
use Rattle.ix_source.specs.Grounds.{Rooted, IsGround, within}
use Rattle.ix_source.proofs.Statements.{stands_again, runs_both, runs_nothing}
use Rattle.ix_source.proofs.Simple.{runs_as, return_runs, ran_runs, print_runs, return_value_runs, answered_runs}
use Rattle.ix_source.proofs.FullExpressions.{makes_map, then_sound, full_set, kept_used, kept_ran, rooted_behind}

module _ (g : Ground) (members : Members) (calls : Calls) (turns : ℕ) (ground : IsGround g members calls turns) where
  abbrev pub context : Rattle.ix_source.specs.Context.Context
  context = within g members calls turns

  -- A statement that is sound where it stands is kept.
  abbrev pub StatementKept : Execution → StatementSoundness → Type 0
  StatementKept e q = (end : ℕ) (body : Body) → body.made.free ≤ body.most → Rooted g body → q.sound g end body ≡ true → Makes (λ after. Runs g body after e.declares (e.run context (length body.locals))) (q.running.run g.site end body)

  -- ---- with another count of loops it is the same

  along_body : (f : Frame) (start : State) (next tasks : Tasks) (body other after : Body) (slots : List Held) (now : Now) → ((slots : List Held) (now : Now) → Stands g other slots now → Stands g body slots now)
      → (r : Ended Completion) → AlongWith g f start next tasks g.depth other after slots now r → AlongWith g f start next tasks g.depth body after slots now r
  along_body f start next tasks body other after slots now back (Gives completion later) a = record { behind = a.behind; shows = a.shows; to = a.to; leads = a.leads; events = a.events; size = a.size; stands = back a.behind later a.stands; stands_then = a.stands_then; follows = a.follows }
  along_body f start next tasks body other after slots now back (Stops ending later) a = record { final = a.final; shows = a.shows; leads = a.leads; ended = a.ended; wrapped = a.wrapped; events = a.events }
  along_body f start next tasks body other after slots now back (Cuts later) a = record { state = a.state; shows = a.shows; leads = a.leads; far = a.far; ended = a.ended; wrapped = a.wrapped; events = a.events }

  abbrev pub with_loops : ℕ → Body → Body
  with_loops loops body = record body { loops = loops }

  pub reloop : (body after : Body) (loops n : ℕ) (action : Action Completion) → Runs g (with_loops loops body) after n action → Runs g body after n action
  reloop body after loops n action x = record {
    items = x.items;
    appended = x.appended;
    up = x.up;
    most = x.most;
    free = x.free;
    counted = x.counted;
    owners = x.owners;
    does = λ f rest tasks slots now room stands decides.
        along_body f (at f (code_then (code_before x.items rest) tasks) slots now.heap now.wrapped) (code_then rest tasks) tasks body (with_loops loops body) after slots now (λ slots now s. record { held = s.held; this = s.this }) (action now)
        (x.does f rest tasks slots now room (record { held = stands.held; this = stands.this }) decides);
  }

  -- ---- behind a block the slots of its locals are free again (JLS 6.3)

  same_scope : (body after : Body) (n : ℕ) (action : Action Completion) → Runs g body after n action → SameOwners g body (with_free body.made.free after)
  same_scope body after n action x slot low = x.owners slot low

  along_block : (f : Frame) (start : State) (next tasks : Tasks) (body after : Body) (slots : List Held) (now : Now) → SameOwners g body (with_free body.made.free after)
      → (r : Ended Completion) → AlongWith g f start next tasks g.depth body after slots now r → AlongWith g f start next tasks g.depth body (with_free body.made.free after) slots now r
  along_block f start next tasks body after slots now same (Gives completion later) a =
      record { behind = a.behind; shows = a.shows; to = a.to; leads = a.leads; events = a.events; size = a.size; stands = a.stands; stands_then = stands_if completion a.behind later a.stands; follows = a.follows }
    where
      stands_if : (completion : Completion) (slots : List Held) (now : Now) → Stands g body slots now → StandsIf g completion (with_free body.made.free after) slots now
      stands_if Normal slots now s = stands_again g body (with_free body.made.free after) slots now (omega arith) same s
      stands_if source.Breaks slots now s = tt
      stands_if source.Continues slots now s = tt
      stands_if (Returns value) slots now s = tt
  along_block f start next tasks body after slots now same (Stops ending later) a = record { final = a.final; shows = a.shows; leads = a.leads; ended = a.ended; wrapped = a.wrapped; events = a.events }
  along_block f start next tasks body after slots now same (Cuts later) a = record { state = a.state; shows = a.shows; leads = a.leads; far = a.far; ended = a.ended; wrapped = a.wrapped; events = a.events }

  pub block_runs : (body after : Body) (n : ℕ) (action : Action Completion) → body.made.free ≤ body.most → Runs g body after n action → Runs g body (with_free body.made.free after) n action
  block_runs body after n action low x = record {
    items = x.items;
    appended = x.appended;
    up = omega arith;
    most = x.most;
    free = let m = x.most in omega (arith, low, m);
    counted = x.counted;
    owners = x.owners;
    does = λ f rest tasks slots now room stands decides.
        along_block f (at f (code_then (code_before x.items rest) tasks) slots now.heap now.wrapped) (code_then rest tasks) tasks body after slots now (same_scope body after n action x) (action now) (x.does f rest tasks slots now room stands decides);
  }

  -- ---- expressions

  -- a value that isn't used
  pub ran_kept : (e : Expr) (body : Body) → body.made.free ≤ body.most → Rooted g body → ran_at e g body ≡ true → Makes (λ after. Runs g body after 0 (source.ran e context >>= normally)) (plain.ran g.site e body)
  ran_kept e body low rooted is =
      let a = assigned_by g.site body (assigns e).inside in
      makes_map (λ v. Done (standing g body a) nothing_known body.made v.made (λ x. (evaluation e).value context) anything) (λ after. Runs g body after 0 (source.ran e context >>= normally))
      ((lowering e).value (scope_for g.site body (assigns e).inside) body.made) (λ v. record { slot = v.slot; body = behind body v.made.items v.made.free }) (λ (value : Evaluated). Ok value.body) (kept_ran g members calls turns ground e body rooted is body.made (omega arith))
      (λ v d. ran_runs g body a low v ((evaluation e).value context) d)

  -- a value, and an item that uses it
  used_kept : (e : Expr) (body : Body) (last : ℕ → Item) (on : Held → Action Completion) → body.made.free ≤ body.most → Rooted g body → used_at e g body ≡ true
      → ((v : Value) → Done (standing g body (assigned_by g.site body (assigns e).inside)) nothing_known body.made v.made (λ x. (evaluation e).value context) (IsIn v.slot) → Runs g body (with_last (behind body v.made.items v.made.free) (last v.slot)) 0 ((evaluation e).value context >>= on))
      → Makes (λ after. Runs g body after 0 ((evaluation e).value context >>= on)) (plain.used g.site e last body)
  used_kept e body last on low rooted is uses =
      makes_map (λ v. Done (standing g body (assigned_by g.site body (assigns e).inside)) nothing_known body.made v.made (λ x. (evaluation e).value context) (IsIn v.slot)) (λ after. Runs g body after 0 ((evaluation e).value context >>= on))
      ((lowering e).value (scope_for g.site body (assigns e).inside) body.made) (λ v. record { slot = v.slot; body = behind body v.made.items v.made.free }) (λ (value : Evaluated). Ok (with_last value.body (last value.slot))) ((kept_used g members calls turns ground e body rooted is).value body.made (omega arith)) uses

  pub printed_kept : (e : Expr) (body : Body) → body.made.free ≤ body.most → Rooted g body → used_at e g body ≡ true → Makes (λ after. Runs g body after 0 ((evaluation e).value context >>= source.printed)) (plain.printed e g.site body)
  printed_kept e body low rooted is = used_kept e body (λ slot. Rattle.ix_plain.specs.Parts.done (op.Print slot) e.span []) source.printed low rooted is (λ v d. print_runs g body (assigned_by g.site body (assigns e).inside) low v ((evaluation e).value context) e.span d)

  -- `return`
  answered_kept : (e : Expr) (body : Body) → body.made.free ≤ body.most → Rooted g body → used_at e g body ≡ true → Makes (λ after. Runs g body after 0 ((evaluation e).value context >>= (λ value. gives (Returns (Some value))))) (plain.answered g.site e body)
  answered_kept e body low rooted is =
      makes_then (Answers z nothing_known body.made.free (λ x. (evaluation e).value context)) All ((lowering e).condition (scope_for g.site body (assigns e).inside) body.made.free) _ (kept.answer body.made.free (omega arith))
      (λ asked a. by_room asked a (nat_lt asked.free most_slots))
    where
      z : Rattle.ix_source.specs.Along.Setting
      z = standing g body (assigned_by g.site body (assigns e).inside)

      All : Body → Type 0
      All after = Runs g body after 0 ((evaluation e).value context >>= (λ value. gives (Returns (Some value))))

      by_room : (asked : Asked) → Answers (standing g body (assigned_by g.site body (assigns e).inside)) nothing_known body.made.free (λ x. (evaluation e).value context) asked → (b : Bool)
          → Makes All ((if b then Ok (record { made = record { items = body.made.items ++ answer_item asked.cond asked.free e.span ∷ []; free = asked.free + 1 }; slot = asked.free }) else Err which.Slots) then (λ (value : Value). Ok (behind body value.made.items value.made.free)))
      by_room asked a true = answered_runs g body (assigned_by g.site body (assigns e).inside) low (full_set g members calls turns ground e body rooted (and_first _ _ is)) asked ((evaluation e).value context) e.span a
      by_room asked a false = tt

      kept : Kept (standing g body (assigned_by g.site body (assigns e).inside)) members calls turns (lowering e) (evaluation e)
      kept = kept_used g members calls turns ground e body rooted is

  pub returned_kept : (value : Option Expr) (span : Span) (body : Body) → body.made.free ≤ body.most → Rooted g body → used_if value g body ≡ true → Makes (λ after. Runs g body after 0 (source.returned value context)) (plain.returned value span g.site body)
  returned_kept None span body low rooted is = return_runs g body span low
  returned_kept (Some e) span body low rooted is = by_answers g.site.answers
    where
      by_answers : (b : Bool) → Makes (λ after. Runs g body after 0 ((evaluation e).value context >>= (λ value. gives (Returns (Some value))))) (if b then plain.answered g.site e body else plain.used g.site e (λ slot. item.Return (Some slot) e.span) body)
      by_answers true = answered_kept e body low rooted is
      by_answers false = used_kept e body (λ slot. item.Return (Some slot) e.span) (λ value. gives (Returns (Some value))) low rooted is (λ v d. return_value_runs g body (assigned_by g.site body (assigns e).inside) low v ((evaluation e).value context) e.span d)

  -- ---- one behind the other

  abbrev pub AllKept : List Execution → List StatementSoundness → Type 0
  AllKept [] [] = Unit {0}
  AllKept (e ∷ es) (q ∷ qs) = StatementKept e q × AllKept es qs
  AllKept _ _ = ⊥

  pub each_kept : (es : List Execution) (qs : List StatementSoundness) → AllKept es qs → (end : ℕ) (body : Body) → body.made.free ≤ body.most → Rooted g body → each_sound qs g end body ≡ true
      → Makes (λ after. Runs g body after (source.all_declare es) (source.each es context (length body.locals))) (plain.each (map running_of qs) g.site end body)
  each_kept [] [] kept end body low rooted is = runs_nothing g body low
  each_kept (e ∷ es) (q ∷ qs) (k, more) end body low rooted is =
      then_sound (λ middle. Runs g body middle e.declares (e.run context (length body.locals))) (λ after. Runs g body after (source.all_declare (e ∷ es)) (source.each (e ∷ es) context (length body.locals))) (q.running.run g.site end body) (each_sound qs g end) _ (k end body low rooted (and_first _ _ is)) (and_second (q.sound g end body) _ is)
      (λ middle x is_then. makes_more (λ after. Runs g middle after (source.all_declare es) (source.each es context (length middle.locals))) (λ after. Runs g body after (source.all_declare (e ∷ es)) (source.each (e ∷ es) context (length body.locals)))
      (λ after y. runs_both g body middle after e.declares (source.all_declare es) (e.run context (length body.locals)) (source.each es context (length body.locals + e.declares)) x
      (subst (λ n. Runs g middle after (source.all_declare es) (source.each es context n)) x.counted y))
      (plain.each (map running_of qs) g.site end middle) (each_kept es qs more end middle x.free (rooted_behind g members calls turns ground body middle e.declares (e.run context (length body.locals)) rooted x) is_then))
  each_kept [] (q ∷ qs) none end body low rooted is = absurd none
  each_kept (e ∷ es) [] none end body low rooted is = absurd none

  pub block_kept : (es : List Execution) (qs : List StatementSoundness) → AllKept es qs → (end : ℕ) (body : Body) → body.made.free ≤ body.most → Rooted g body → each_sound qs g end body ≡ true
      → Makes (λ after. Runs g body after (source.all_declare es) (source.each es context (length body.locals))) (plain.each (map running_of qs) g.site end body then (λ inner. Ok (with_free body.made.free inner)))
  block_kept es qs kept end body low rooted is = makes_then (λ after. Runs g body after (source.all_declare es) (source.each es context (length body.locals))) (λ after. Runs g body after (source.all_declare es) (source.each es context (length body.locals))) (plain.each (map running_of qs) g.site end body) _ (each_kept es qs kept end body low rooted is)
      (λ inner x. block_runs body inner (source.all_declare es) (source.each es context (length body.locals)) low x)

  -- the first behind which the second runs, as one action
  pub units_then : (first second : Action (Unit {0})) (now : Now) → (first >>= normally >>= (λ end. source.behind end (second >>= normally))) now ≡ (first >>= (λ done. second) >>= normally) now
  units_then first second now = by_result (first now)
    where
      by_result : (r : Ended (Unit {0})) → go_on (λ end. source.behind end (second >>= normally)) (go_on normally r) ≡ go_on normally (go_on (λ done. second) r)
      by_result (Gives done later) = refl
      by_result (Stops ending later) = refl
      by_result (Cuts later) = refl

  -- expressions whose values aren't used, one behind the other
  pub all_ran_kept : (es : List Expr) (body : Body) → body.made.free ≤ body.most → Rooted g body → all_ran_at es g body ≡ true → Makes (λ after. Runs g body after 0 (source.all_ran es context >>= normally)) (plain.all_ran es g.site body)
  all_ran_kept [] body low rooted is = runs_nothing g body low
  all_ran_kept (e ∷ es) body low rooted is =
      then_sound (λ middle. Runs g body middle 0 (source.ran e context >>= normally)) (λ after. Runs g body after 0 (source.all_ran (e ∷ es) context >>= normally)) (plain.ran g.site e body) (all_ran_at es g) _ (ran_kept e body low rooted (and_first _ _ is)) (and_second (ran_at e g body) _ is)
      (λ middle x is_then. makes_more (λ after. Runs g middle after 0 (source.all_ran es context >>= normally)) (λ after. Runs g body after 0 (source.all_ran (e ∷ es) context >>= normally))
      (λ after y. runs_as g body after 0 (source.ran e context >>= normally >>= (λ end. source.behind end (source.all_ran es context >>= normally))) (source.all_ran (e ∷ es) context >>= normally) (units_then (source.ran e context) (source.all_ran es context))
      (runs_both g body middle after 0 0 (source.ran e context >>= normally) (source.all_ran es context >>= normally) x y))
      (plain.all_ran es g.site middle) (all_ran_kept es middle x.free (rooted_behind g members calls turns ground body middle 0 (source.ran e context >>= normally) rooted x) is_then))
