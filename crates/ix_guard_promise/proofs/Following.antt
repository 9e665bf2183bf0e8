-- Actions that follow others part by part, and actions that only add to what was printed.
use Rattle.std.proofs.Common.{◌≡◌, ℤ, ℕ, List, [], ◌∷◌, ◌++◌, refl, sym, ap, subst, ◌∙◌, append_assoc}
use Rattle.std.proofs.lemmas.List.{append-nil}
use Rattle.ix_core.specs.Heap.{Heap, Held}
use Rattle.ix_core.specs.Machine.{Ending}
use Rattle.ix_core.specs.Traces.{Observation, Printed, Accessed}
use Rattle.ix_source.specs.Runs.{Variables, Now, Result, Gives, Stops, Cuts, Action, ◌>>=◌, go_on, access, sees, gives, stops, cuts}
use Rattle.ix_guard_text.specs.Moved.{Move}
use Rattle.ix_guard_promise.specs.Follows.{printed, SameEnding}
use Rattle.ix_guard_promise.specs.Behind.{Like, now_of, PrintedFirst, Shows, Behind, both_give, both_stop, both_cut, thrown, FollowsBy, Follows}

-- ---- what was printed

pub printed_both : (events others : List Observation) → printed (events ++ others) ≡ printed events ++ printed others
printed_both [] others = refl
printed_both (Printed value ∷ events) others = ap (λ (held : List Held). value ∷ held) (printed_both events others)
printed_both (Accessed access ∷ events) others = printed_both events others

pub first_itself : (now : Now) → PrintedFirst now now
first_itself now = ([], sym (append-nil (printed now.events)))

pub first_then : (one two three : Now) → PrintedFirst one two → PrintedFirst two three → PrintedFirst one three
first_then one two three (rest, e) (more, f) = (rest ++ more, f ∙ ap (λ values. values ++ more) e ∙ append_assoc (printed one.events) rest more)

-- what one run printed first, the run beside it printed first
pub first_beside : (new old whole : Now) → Like new old → PrintedFirst old whole → PrintedFirst new whole
first_beside new old whole like (rest, e) = (rest, e ∙ ap (λ values. values ++ rest) (sym like.events))

pub gives_shows : {A : Type 0} (value : A) → Shows (gives value)
gives_shows value now = first_itself now

pub stops_shows : (A : Type 0) (ending : Ending) → Shows {A = A} (stops ending)
stops_shows A ending now = first_itself now

pub cuts_shows : (A : Type 0) → Shows {A = A} cuts
cuts_shows A now = first_itself now

pub shows_on : {A B : Type 0} (result : Result A) (next : A → Action B) → ((value : A) → Shows (next value)) → PrintedFirst (now_of result) (now_of (go_on next result))
shows_on (Gives value now) next shows = shows value now
shows_on (Stops ending now) next shows = first_itself now
shows_on (Cuts now) next shows = first_itself now

-- One action behind another only adds to what was printed, where each does.
pub shows_then : {A B : Type 0} (first : Action A) (next : A → Action B) → Shows first → ((value : A) → Shows (next value)) → Shows (first >>= next)
shows_then first next shows more now = first_then now (now_of (first now)) (now_of (go_on next (first now))) (shows now) (shows_on (first now) next more)

-- ---- following

abbrev pub Equal : {A : Type 0} → A → A → Type 0
Equal value other = value ≡ other

module _ (move : Move) where
  pub gives_follows : {A : Type 0} (Same : A → A → Type 0) (value other : A) → Same value other → FollowsBy move Same (gives value) (gives other)
  gives_follows Same value other same n o like = both_give value other n o same like

  pub stops_follows : {A : Type 0} (Same : A → A → Type 0) (ending other : Ending) → SameEnding ending other → FollowsBy move Same (stops ending) (stops other)
  stops_follows Same ending other same n o like = both_stop ending other n o same like

  pub cuts_follows : {A : Type 0} (Same : A → A → Type 0) → FollowsBy move Same cuts cuts
  cuts_follows Same n o like = both_cut n o like

  behind_on : {A B : Type 0} (Same : A → A → Type 0) (Then : B → B → Type 0) (new old : Result A) (next_new next_old : A → Action B) → Behind move Same new old
      → ((value other : A) → Same value other → FollowsBy move Then (next_new value) (next_old other)) → ((value : A) → Shows (next_old value)) → Behind move Then (go_on next_new new) (go_on next_old old)
  behind_on Same Then _ _ next_new next_old (both_give value other n o same like) follows shows = follows value other same n o like
  behind_on Same Then _ _ next_new next_old (both_stop ending other n o same like) follows shows = both_stop ending other n o same like
  behind_on Same Then _ _ next_new next_old (both_cut n o like) follows shows = both_cut n o like
  behind_on Same Then _ _ next_new next_old (thrown ending n old is first) follows shows =
      thrown ending n (go_on next_old old) is (first_then n (now_of old) (now_of (go_on next_old old)) first (shows_on old next_old shows))

  -- What follows part by part follows as a whole, with any relation of the values between; what comes behind in the old one only adds to what was printed.
  pub follows_then : {A B : Type 0} (Same : A → A → Type 0) (Then : B → B → Type 0) (new old : Action A) (next_new next_old : A → Action B) → FollowsBy move Same new old
      → ((value other : A) → Same value other → FollowsBy move Then (next_new value) (next_old other)) → ((value : A) → Shows (next_old value)) → FollowsBy move Then (new >>= next_new) (old >>= next_old)
  follows_then Same Then new old next_new next_old first follows shows n o like = behind_on Same Then (new n) (old o) next_new next_old (first n o like) follows shows

  -- with the same values between and behind
  pub equal_then : {A B : Type 0} (new old : Action A) (next next_old : A → Action B) → Follows move new old → ((value : A) → Follows move (next value) (next_old value)) → ((value : A) → Shows (next_old value))
      → Follows move (new >>= next) (old >>= next_old)
  equal_then new old next next_old first follows shows =
      follows_then Equal Equal new old next next_old first (λ value other same. subst (λ v. Follows move (next value) (next_old v)) same (follows value)) shows

  pub equal_gives : {A : Type 0} (value other : A) → value ≡ other → Follows move (gives value) (gives other)
  equal_gives value other same = gives_follows Equal value other same

  -- ---- an action that follows one that only adds to what was printed

  pub record KeepsBy {A : Type 0} (Same : A → A → Type 0) (new old : Action A) : Type 0 where
    pub follows : FollowsBy move Same new old
    pub shows : Shows old

  -- with the same values
  abbrev pub Keeps : {A : Type 0} → Action A → Action A → Type 0
  Keeps new old = KeepsBy Equal new old

  pub keeps_then_by : {A B : Type 0} (Same : A → A → Type 0) (Then : B → B → Type 0) (itself : (value : A) → Same value value) {new old : Action A} {next_new next_old : A → Action B} → KeepsBy Same new old
      → ((value other : A) → Same value other → KeepsBy Then (next_new value) (next_old other)) → KeepsBy Then (new >>= next_new) (old >>= next_old)
  keeps_then_by Same Then itself {new} {old} {next_new} {next_old} first next = record {
    follows = follows_then Same Then new old next_new next_old first.follows (λ value other same. (next value other same).follows) (λ value. (next value value (itself value)).shows);
    shows = shows_then old next_old first.shows (λ value. (next value value (itself value)).shows);
  }

  -- What keeps part by part keeps as a whole.
  pub keeps_then : {A B : Type 0} (Then : B → B → Type 0) {new old : Action A} {next_new next_old : A → Action B} → Keeps new old
      → ((value : A) → KeepsBy Then (next_new value) (next_old value)) → KeepsBy Then (new >>= next_new) (old >>= next_old)
  keeps_then Then {new} {old} {next_new} {next_old} first next =
      keeps_then_by Equal Then (λ value. refl) first (λ value other same. subst (λ other. KeepsBy Then (next_new value) (next_old other)) same (next value))

  pub gives_keep : {A : Type 0} (Same : A → A → Type 0) (value other : A) → Same value other → KeepsBy Same (gives value) (gives other)
  gives_keep Same value other same = record { follows = gives_follows Same value other same; shows = gives_shows other }

  pub stops_keep : {A : Type 0} (Same : A → A → Type 0) (ending other : Ending) → SameEnding ending other → KeepsBy Same (stops ending) (stops other)
  stops_keep {A} Same ending other same = record { follows = stops_follows Same ending other same; shows = stops_shows A other }

  pub cuts_keep : {A : Type 0} (Same : A → A → Type 0) → KeepsBy Same (cuts {A = A}) cuts
  cuts_keep {A} Same = record { follows = cuts_follows Same; shows = cuts_shows A }

  -- ---- actions that look at what there is

  -- Both see the same heap.
  pub heap_keeps : {A : Type 0} (Same : A → A → Type 0) (new old : Heap → Action A) → ((heap : Heap) → KeepsBy Same (new heap) (old heap)) → KeepsBy Same (λ now. new now.heap now) (λ now. old now.heap now)
  heap_keeps Same new old keeps = record {
    follows = λ n o like. subst (λ heap. Behind move Same (new heap n) (old o.heap o)) (sym like.heap) ((keeps o.heap).follows n o like);
    shows = λ now. (keeps now.heap).shows now;
  }

  pub variables_keep : {A : Type 0} (Same : A → A → Type 0) (new old : Variables → Action A) → ((variables : Variables) → KeepsBy Same (new variables) (old variables))
      → KeepsBy Same (λ now. new now.variables now) (λ now. old now.variables now)
  variables_keep Same new old keeps = record {
    follows = λ n o like. subst (λ variables. Behind move Same (new variables n) (old o.variables o)) (sym like.variables) ((keeps o.variables).follows n o like);
    shows = λ now. (keeps now.variables).shows now;
  }

  -- ---- actions that change what there is

  -- A change that both make alike, and that prints nothing.
  pub changed_keeps : {A : Type 0} (Same : A → A → Type 0) (new_change old_change : Now → Now) (new old : Action A) → ((n o : Now) → Like n o → Like (new_change n) (old_change o))
      → ((now : Now) → printed (old_change now).events ≡ printed now.events)
      → KeepsBy Same new old → KeepsBy Same (λ now. new (new_change now)) (λ now. old (old_change now))
  changed_keeps Same new_change old_change new old alike prints keeps = record {
    follows = λ n o like. keeps.follows (new_change n) (old_change o) (alike n o like);
    shows = λ now. first_then now (old_change now) (now_of (old (old_change now))) ([], prints now ∙ sym (append-nil (printed now.events))) (keeps.shows (old_change now));
  }

-- an access prints nothing
pub access_unprinted : (events : List Observation) (index : ℤ) (size place : ℕ) → printed (events ++ access index size place ∷ []) ≡ printed events
access_unprinted events index size place = printed_both events (access index size place ∷ []) ∙ append-nil (printed events)

pub seen_alike : (index : ℤ) (size place at : ℕ) (n o : Now) → Like n o → Like (sees (access index size place) n) (sees (access index size at) o)
seen_alike index size place at n o like = record {
  variables = like.variables;
  heap = like.heap;
  wrapped = like.wrapped;
  events = access_unprinted n.events index size place ∙ like.events ∙ sym (access_unprinted o.events index size at);
}
