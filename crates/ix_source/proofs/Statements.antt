-- Statements keep their meaning: one behind the other, choices, jumps.
use Rattle.std.proofs.Common.{◌≡◌, ◌≤◌, ◌<◌, ℕ, ◌+◌, List, [], ◌++◌, length, Some, None, refl, sym, ap, subst, ◌∙◌, arith, append_assoc}
use Rattle.std.specs.Prelude.{if◌then◌else◌, nat_lt}
use Rattle.std.proofs.lemmas.Bool.Decides.{nat_tests}
use Rattle.std.proofs.lemmas.List.{append-nil}
use Rattle.ix_core.specs.Code.{Code, End}
use Rattle.ix_core.specs.Code as code
use Rattle.ix_core.specs.Heap.{Held}
use Rattle.ix_core.specs.Machine.{State}
use Rattle.ix_core.specs.Tasks.{Tasks, Empty, Again, code_then, followed_by, behind_loop, next_turn}
use Rattle.ix_core.proofs.Cases.{by_test}
use Rattle.ix_meaning.specs.declared.note.Meaning.{Meaning}
use Rattle.ix_plain.specs.declared.body.Body.{Body}
use Rattle.ix_core.specs.Traces.{Observation}
use Rattle.ix_source.specs.Runs.{Now, Result as Ended, Gives, Stops, Cuts, Action, ◌>>=◌, go_on, gives}
use Rattle.ix_source.specs.Statements.{Completion, Normal, Breaks, Continues, Returns, behind}
use Rattle.ix_source.specs.Seen.{Leads, Frame, at, Decides}
use Rattle.ix_source.specs.Along.{Setting, Agrees, Keeps, Along}
use Rattle.ix_source.specs.Kept.{code_before, Fact}
use Rattle.ix_source.specs.Running.{Ground, owner, in_scope, Stands, StandsIf, Follows, AlongWith, SameOwners, Runs}
use Rattle.ix_source.proofs.Paths.{both, both_adds, here, decides_from}
use Rattle.ix_source.proofs.Made.{code_append}

-- ---- tasks

-- behind an `if` the machine is where it is behind the code
pub followed_code : (c : Code) (tasks : Tasks) → followed_by (code_then c Empty) tasks ≡ code_then c tasks
followed_code End tasks = refl
followed_code (code.Do op rest) tasks = refl
followed_code (code.If asked first second rest) tasks = refl
followed_code (code.Break rest) tasks = refl
followed_code (code.Continue rest) tasks = refl
followed_code (code.Return value span rest) tasks = refl
followed_code (code.Throw name span rest) tasks = refl
followed_code (code.Loop test_first asked body next number scope rest) tasks = refl

pub followed_turn : (c : Code) (asked : code.Condition) (body next : Code) (tasks : Tasks) → followed_by (code_then c (Again asked body next Empty)) tasks ≡ code_then c (Again asked body next tasks)
followed_turn End asked body next tasks = refl
followed_turn (code.Do op rest) asked body next tasks = refl
followed_turn (code.If a first second rest) asked body next tasks = refl
followed_turn (code.Break rest) asked body next tasks = refl
followed_turn (code.Continue rest) asked body next tasks = refl
followed_turn (code.Return value span rest) asked body next tasks = refl
followed_turn (code.Throw name span rest) asked body next tasks = refl
followed_turn (code.Loop test_first a b n number scope rest) asked body next tasks = refl

pub breaks_over : (c : Code) (tasks : Tasks) → behind_loop (code_then c tasks) ≡ behind_loop tasks
breaks_over End tasks = refl
breaks_over (code.Do op rest) tasks = refl
breaks_over (code.If asked first second rest) tasks = refl
breaks_over (code.Break rest) tasks = refl
breaks_over (code.Continue rest) tasks = refl
breaks_over (code.Return value span rest) tasks = refl
breaks_over (code.Throw name span rest) tasks = refl
breaks_over (code.Loop test_first asked body next number scope rest) tasks = refl

pub turns_over : (c : Code) (tasks : Tasks) → next_turn (code_then c tasks) ≡ next_turn tasks
turns_over End tasks = refl
turns_over (code.Do op rest) tasks = refl
turns_over (code.If asked first second rest) tasks = refl
turns_over (code.Break rest) tasks = refl
turns_over (code.Continue rest) tasks = refl
turns_over (code.Return value span rest) tasks = refl
turns_over (code.Throw name span rest) tasks = refl
turns_over (code.Loop test_first asked body next number scope rest) tasks = refl

module _ (g : Ground) where
  -- ---- scopes

  pub in_scope_at : (locals : _) (free slot : ℕ) → slot < free → in_scope g.site locals free slot ≡ owner g.site locals slot
  in_scope_at locals free slot low = by_test (nat_lt slot free) (λ t. rw t refl) (λ e. absurd (let h : free ≤ slot = grind (arith, nat_tests) in omega (arith, low, h)))

  pub in_scope_low : (locals : _) (free slot : ℕ) (m : Meaning) → in_scope g.site locals free slot ≡ Some m → slot < free
  in_scope_low locals free slot m e = by_test (nat_lt slot free) (λ t. grind (arith, nat_tests)) (λ t. absurd (none_some m (sym (ap (λ b. if b then owner g.site locals slot else None) t) ∙ e)))
    where
      none_some : (m : Meaning) → None ≡ Some m → ⊥
      none_some m e = cc e

  -- who stands with more variables in scope stands with fewer
  pub stands_fewer : (before after : Body) (slots : List Held) (now : Now) → before.made.free ≤ after.made.free → SameOwners g before after → Stands g after slots now → Stands g before slots now
  stands_fewer before after slots now up same s = record {
    held = λ slot m own. let low = in_scope_low before.locals before.made.free slot m own in
        s.held slot m (in_scope_at after.locals after.made.free slot (omega (arith, low, up)) ∙ same slot low ∙ sym (in_scope_at before.locals before.made.free slot low) ∙ own);
    this = s.this;
  }

  -- where no more slots are taken than before, the same variables are in scope
  pub stands_again : (before after : Body) (slots : List Held) (now : Now) → after.made.free ≤ before.made.free → SameOwners g before after → Stands g before slots now → Stands g after slots now
  stands_again before after slots now down same s = record {
    held = λ slot m own. let low = in_scope_low after.locals after.made.free slot m own in
        s.held slot m (in_scope_at before.locals before.made.free slot (omega (arith, low, down)) ∙ sym (same slot (omega (arith, low, down))) ∙ sym (in_scope_at after.locals after.made.free slot low) ∙ own);
    this = s.this;
  }

  -- ---- one way behind another

  pub from_earlier : (f : Frame) (start middle : State) (next tasks next_then tasks_then : Tasks) (least few : ℕ) (before after before_then after_then : Body) (slots slots_then : List Held) (now now_then : Now) (shows : List Observation)
      → (l : Leads g.tables start shows middle) → now_then.events ≡ now.events ++ shows → length slots_then ≡ length slots → least ≤ few + l.steps
      → ((completion : Completion) (behind : List Held) (later : Now) → Stands g before_then behind later → StandsIf g completion after_then behind later → Stands g before behind later × StandsIf g completion after behind later)
      → ((completion : Completion) (behind : List Held) (to : Tasks) → Follows g completion next_then tasks_then behind to → Follows g completion next tasks behind to)
      → (r : Ended Completion) → AlongWith g f middle next_then tasks_then few before_then after_then slots_then now_then r → AlongWith g f start next tasks least before after slots now r
  from_earlier f start middle next tasks next_then tasks_then least few before after before_then after_then slots slots_then now now_then shows l e size long scopes follows (Gives completion later) a =
      let s = scopes completion a.behind later a.stands a.stands_then in
      record {
        behind = a.behind;
        shows = shows ++ a.shows;
        to = a.to;
        leads = both g.tables start middle _ shows a.shows l a.leads;
        events = a.events ∙ ap (λ es. es ++ a.shows) e ∙ append_assoc now.events shows a.shows;
        size = a.size ∙ size;
        stands = s.0;
        stands_then = s.1;
        follows = follows completion a.behind a.to a.follows;
      }
  from_earlier f start middle next tasks next_then tasks_then least few before after before_then after_then slots slots_then now now_then shows l e size long scopes follows (Stops ending later) a = record {
    final = a.final;
    shows = shows ++ a.shows;
    leads = both g.tables start middle a.final shows a.shows l a.leads;
    ended = a.ended;
    wrapped = a.wrapped;
    events = a.events ∙ ap (λ es. es ++ a.shows) e ∙ append_assoc now.events shows a.shows;
  }
  from_earlier f start middle next tasks next_then tasks_then least few before after before_then after_then slots slots_then now now_then shows l e size long scopes follows (Cuts later) a = record {
    state = a.state;
    shows = shows ++ a.shows;
    leads = both g.tables start middle a.state shows a.shows l a.leads;
    far = let sum = both_adds g.tables start middle a.state shows a.shows l a.leads in let far = a.far in omega (arith, sum, far, long);
    ended = a.ended;
    wrapped = a.wrapped;
    events = a.events ∙ ap (λ es. es ++ a.shows) e ∙ append_assoc now.events shows a.shows;
  }

  -- ---- an expression, and what runs on its value

  pub value_then : {A : Type 0} (z : Setting) → z.tables ≡ g.tables → (f : Frame) (start : State) (next_value : A → Tasks) (holds : Fact A) (free : ℕ) (next tasks : Tasks) (least : ℕ) (before after : Body) (slots : List Held) (now : Now)
      → least ≤ z.depth → (r : Ended A) (on : A → Action Completion) → Decides g.tables start → Along z f start next_value holds free slots now r
      → ((value : A) (later : Now) (behind : List Held) → Keeps z free slots behind → Agrees z behind later.variables → holds value behind → Decides g.tables (at f (next_value value) behind later.heap later.wrapped)
      → AlongWith g f (at f (next_value value) behind later.heap later.wrapped) next tasks least before after behind later (on value later))
      → AlongWith g f start next tasks least before after slots now (go_on on r)
  value_then z same f start next_value holds free next tasks least before after slots now le (Gives value later) on decides a k =
      let l = subst (λ t. Leads t start a.shows (at f (next_value value) a.behind later.heap later.wrapped)) same a.leads in
      from_earlier f start (at f (next_value value) a.behind later.heap later.wrapped) next tasks next tasks least least before after before after slots a.behind now later a.shows
      l a.events a.keeps.size (omega arith) (λ completion behind last s t. (s, t)) (λ completion behind to follows. follows) (on value later)
      (k value later a.behind a.keeps a.agrees a.held (decides_from g.tables start (at f (next_value value) a.behind later.heap later.wrapped) a.shows l decides))
  value_then z same f start next_value holds free next tasks least before after slots now le (Stops ending later) on decides a k =
      record { final = a.final; shows = a.shows; leads = subst (λ t. Leads t start a.shows a.final) same a.leads; ended = a.ended; wrapped = a.wrapped; events = a.events }
  value_then z same f start next_value holds free next tasks least before after slots now le (Cuts later) on decides a k =
      let l = subst (λ t. (l : Leads t start a.shows a.state) × (l.steps ≡ a.leads.steps)) same (a.leads, refl) in
      record { state = a.state; shows = a.shows; leads = l.0; far = let far = a.far in let steps = l.1 in omega (arith, le, far, steps); ended = a.ended; wrapped = a.wrapped; events = a.events }

  -- ---- one statement behind the other

  pub statement_then : (f : Frame) (start : State) (middle_next next tasks : Tasks) (least : ℕ) (before middle after : Body) (slots : List Held) (now : Now) → before.made.free ≤ middle.made.free → SameOwners g before middle
      → (r : Ended Completion) (on : Action Completion) → Decides g.tables start → AlongWith g f start middle_next tasks least before middle slots now r
      → ((behind : List Held) (later : Now) → length behind ≡ length slots → Stands g middle behind later → Decides g.tables (at f middle_next behind later.heap later.wrapped) → AlongWith g f (at f middle_next behind later.heap later.wrapped) next tasks least middle after behind later (on later))
      → AlongWith g f start next tasks least before after slots now (go_on (λ end. behind end on) r)
  statement_then f start middle_next next tasks least before middle after slots now up same (Gives Normal later) on decides a k =
      let l = subst (λ to. Leads g.tables start a.shows (at f to a.behind later.heap later.wrapped)) a.follows a.leads in
      from_earlier f start (at f middle_next a.behind later.heap later.wrapped) next tasks next tasks least least before after middle after slots a.behind now later a.shows
      l a.events a.size (omega arith)
      (λ completion behind last s t. (stands_fewer before middle behind last up same s, t)) (λ completion behind to follows. follows) (on later) (k a.behind later a.size a.stands_then (decides_from g.tables start (at f middle_next a.behind later.heap later.wrapped) a.shows l decides))
  statement_then f start middle_next next tasks least before middle after slots now up same (Gives Breaks later) on decides a k =
      record { behind = a.behind; shows = a.shows; to = a.to; leads = a.leads; events = a.events; size = a.size; stands = a.stands; stands_then = tt; follows = a.follows }
  statement_then f start middle_next next tasks least before middle after slots now up same (Gives Continues later) on decides a k =
      record { behind = a.behind; shows = a.shows; to = a.to; leads = a.leads; events = a.events; size = a.size; stands = a.stands; stands_then = tt; follows = a.follows }
  statement_then f start middle_next next tasks least before middle after slots now up same (Gives (Returns value) later) on decides a k =
      record { behind = a.behind; shows = a.shows; to = a.to; leads = a.leads; events = a.events; size = a.size; stands = a.stands; stands_then = tt; follows = a.follows }
  statement_then f start middle_next next tasks least before middle after slots now up same (Stops ending later) on decides a k = record { final = a.final; shows = a.shows; leads = a.leads; ended = a.ended; wrapped = a.wrapped; events = a.events }
  statement_then f start middle_next next tasks least before middle after slots now up same (Cuts later) on decides a k = record { state = a.state; shows = a.shows; leads = a.leads; far = a.far; ended = a.ended; wrapped = a.wrapped; events = a.events }

  owners_both : (a b c : Body) → a.made.free ≤ b.made.free → SameOwners g a b → SameOwners g b c → SameOwners g a c
  owners_both a b c up x y slot low = y slot (omega (arith, low, up)) ∙ x slot low

  pub runs_both : (first_body middle last : Body) (first_count second_count : ℕ) (first second : Action Completion) → Runs g first_body middle first_count first → Runs g middle last second_count second
      → Runs g first_body last (first_count + second_count) (first >>= (λ end. behind end second))
  runs_both a b c n m first second x y = record {
    items = x.items ++ y.items;
    appended = y.appended ∙ ap (λ items. items ++ y.items) x.appended ∙ append_assoc a.made.items x.items y.items;
    up = let u = x.up in let v = y.up in omega (arith, u, v);
    most = let u = x.most in let v = y.most in omega (arith, u, v);
    free = y.free;
    counted = let u = x.counted in let v = y.counted in omega (arith, u, v);
    owners = owners_both a b c x.up x.owners y.owners;
    does = λ f rest tasks slots now room stands decides.
        let begun : Decides g.tables (at f (code_then (code_before x.items (code_before y.items rest)) tasks) slots now.heap now.wrapped) = subst (λ code. Decides g.tables (at f (code_then code tasks) slots now.heap now.wrapped)) (code_append x.items y.items rest) decides in
        subst (λ code. AlongWith g f (at f (code_then code tasks) slots now.heap now.wrapped) (code_then rest tasks) tasks g.depth a c slots now ((first >>= (λ end. behind end second)) now)) (sym (code_append x.items y.items rest))
        (statement_then f (at f (code_then (code_before x.items (code_before y.items rest)) tasks) slots now.heap now.wrapped) (code_then (code_before y.items rest) tasks) (code_then rest tasks) tasks g.depth a b c slots now x.up x.owners (first now) second begun
        (x.does f (code_before y.items rest) tasks slots now (let v = y.most in omega (arith, v, room)) stands begun)
        (λ behind later size stands_then decides_then. y.does f rest tasks behind later (omega (arith, room, size)) stands_then decides_then));
  }

  -- ---- nothing at all

  pub runs_nothing : (body : Body) → body.made.free ≤ body.most → Runs g body body 0 (gives Normal)
  runs_nothing body within = record {
    items = [];
    appended = sym (append-nil body.made.items);
    up = omega arith;
    most = omega arith;
    free = within;
    counted = omega arith;
    owners = λ slot low. refl;
    does = λ f rest tasks slots now room stands decides. record {
      behind = slots;
      shows = [];
      to = code_then rest tasks;
      leads = here g.tables _;
      events = sym (append-nil now.events);
      size = refl;
      stands = stands;
      stands_then = stands;
      follows = refl;
    };
  }
