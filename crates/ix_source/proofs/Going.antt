-- One action behind another: the machine goes along with both where it goes along with each.
use Rattle.std.proofs.Common.{◌≡◌, ◌≤◌, ℕ, List, [], ◌++◌, refl, sym, ap, ◌∙◌, arith, append_assoc}
use Rattle.std.proofs.lemmas.List.{append-nil}
use Rattle.ix_core.specs.Heap.{Held}
use Rattle.ix_core.specs.Machine.{State}
use Rattle.ix_core.specs.Tasks.{Tasks}
use Rattle.ix_core.specs.Traces.{Observation}
use Rattle.ix_source.specs.Runs.{Now, Result, Gives, Stops, Cuts, Action, go_on}
use Rattle.ix_source.specs.Seen.{Leads, Frame, at, Decides}
use Rattle.ix_source.specs.Along.{Setting, Agrees, Keeps, Along}
use Rattle.ix_source.proofs.Paths.{both, both_longer, here, decides_from}

module _ (z : Setting) where
  pub keeps_all : (free : ℕ) (slots : List Held) → Keeps z free slots slots
  keeps_all free slots = record { size = refl; same = λ slot low stays. refl }

  pub keeps_both : (free more : ℕ) (a b c : List Held) → free ≤ more → Keeps z free a b → Keeps z more b c → Keeps z free a c
  keeps_both free more a b c le x y = record {
    size = y.size ∙ x.size;
    same = λ slot low stays. y.same slot (omega (arith, low, le)) stays ∙ x.same slot low stays;
  }

  -- What goes along from a later state goes along from an earlier one that leads there.
  pub from_before : {A : Type 0} (f : Frame) (start middle : State) (next : A → Tasks) (holds : A → List Held → Type 0) (free more : ℕ) (slots behind : List Held) (now then_now : Now) (shows : List Observation)
      → Leads z.tables start shows middle → then_now.events ≡ now.events ++ shows → Keeps z free slots behind → free ≤ more
      → (r : Result A) → Along z f middle next holds more behind then_now r → Along z f start next holds free slots now r
  from_before f start middle next holds free more slots behind now then_now shows l e k le (Gives value after) a = record {
    behind = a.behind;
    shows = shows ++ a.shows;
    leads = both z.tables start middle _ shows a.shows l a.leads;
    events = a.events ∙ ap (λ es. es ++ a.shows) e ∙ append_assoc now.events shows a.shows;
    agrees = a.agrees;
    keeps = keeps_both free more slots behind a.behind le k a.keeps;
    held = a.held;
  }
  from_before f start middle next holds free more slots behind now then_now shows l e k le (Stops ending after) a = record {
    final = a.final;
    shows = shows ++ a.shows;
    leads = both z.tables start middle a.final shows a.shows l a.leads;
    ended = a.ended;
    wrapped = a.wrapped;
    events = a.events ∙ ap (λ es. es ++ a.shows) e ∙ append_assoc now.events shows a.shows;
  }
  from_before f start middle next holds free more slots behind now then_now shows l e k le (Cuts after) a = record {
    state = a.state;
    shows = shows ++ a.shows;
    leads = both z.tables start middle a.state shows a.shows l a.leads;
    far = let longer = both_longer z.tables start middle a.state shows a.shows l a.leads in let far = a.far in omega (arith, longer, far);
    ended = a.ended;
    wrapped = a.wrapped;
    events = a.events ∙ ap (λ es. es ++ a.shows) e ∙ append_assoc now.events shows a.shows;
  }

  -- An action, and what depends on its value.
  pub along_then : {A B : Type 0} (f : Frame) (start : State) (next1 : A → Tasks) (next2 : B → Tasks) (holds1 : A → List Held → Type 0) (holds2 : B → List Held → Type 0) (free more : ℕ) (slots : List Held) (now : Now)
      → free ≤ more → (r : Result A) (on : A → Action B) → Decides z.tables start → Along z f start next1 holds1 free slots now r
      → ((value : A) (after : Now) (behind : List Held) → Keeps z free slots behind → Agrees z behind after.variables → holds1 value behind → Decides z.tables (at f (next1 value) behind after.heap after.wrapped)
      → Along z f (at f (next1 value) behind after.heap after.wrapped) next2 holds2 more behind after (on value after))
      → Along z f start next2 holds2 free slots now (go_on on r)
  along_then f start next1 next2 holds1 holds2 free more slots now le (Gives value after) on decides a later =
      from_before f start (at f (next1 value) a.behind after.heap after.wrapped) next2 holds2 free more slots a.behind now after a.shows a.leads a.events a.keeps le (on value after) (later value after a.behind a.keeps a.agrees a.held (decides_from z.tables start (at f (next1 value) a.behind after.heap after.wrapped) a.shows a.leads decides))
  along_then f start next1 next2 holds1 holds2 free more slots now le (Stops ending after) on decides a later =
      record { final = a.final; shows = a.shows; leads = a.leads; ended = a.ended; wrapped = a.wrapped; events = a.events }
  along_then f start next1 next2 holds1 holds2 free more slots now le (Cuts after) on decides a later =
      record { state = a.state; shows = a.shows; leads = a.leads; far = a.far; ended = a.ended; wrapped = a.wrapped; events = a.events }

  -- what shows nothing and leads to where an action goes along
  pub quietly : {A : Type 0} (f : Frame) (start middle : State) (next : A → Tasks) (holds : A → List Held → Type 0) (free : ℕ) (slots : List Held) (now : Now)
      → Leads z.tables start [] middle → (r : Result A) → Along z f middle next holds free slots now r → Along z f start next holds free slots now r
  quietly f start middle next holds free slots now l r a =
      from_before f start middle next holds free free slots slots now now [] l (sym (append-nil now.events)) (keeps_all free slots) (omega arith) r a

  -- the action gives a value at once, where the machine stands
  pub at_once : {A : Type 0} (f : Frame) (next : A → Tasks) (holds : A → List Held → Type 0) (free : ℕ) (slots : List Held) (now : Now) (value : A)
      → Agrees z slots now.variables → holds value slots → Along z f (at f (next value) slots now.heap now.wrapped) next holds free slots now (Gives value now)
  at_once f next holds free slots now value agrees held = record {
    behind = slots;
    shows = [];
    leads = here z.tables _;
    events = sym (append-nil now.events);
    agrees = agrees;
    keeps = keeps_all free slots;
    held = held;
  }
