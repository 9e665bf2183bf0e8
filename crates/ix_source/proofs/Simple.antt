-- Statements without parts that are statements keep their meaning: jumps, `throw`, `print`, `return`, and expressions whose values aren't used.
use Rattle.std.proofs.Common.{◌≡◌, ◌≤◌, ◌<◌, ℕ, ◌+◌, Bool, true, false, List, [], ◌∷◌, ◌++◌, length, Some, None, refl, sym, ap, subst, ◌∙◌, arith, append_assoc}
use Rattle.std.specs.Prelude.{if◌then◌else◌, max, slice_set}
use Rattle.std.proofs.lemmas.List.{append-nil, length-set}
use Rattle.ix_text.specs.declared.span.Span.{Span}
use Rattle.ix_core.specs.declared.code.Block.{Block}
use Rattle.ix_core.specs.declared.code.Item.{Item}
use Rattle.ix_core.specs.declared.code.Item.TheVariants as item
use Rattle.ix_core.specs.declared.op.Literal.TheVariants as literal
use Rattle.ix_core.specs.declared.op.OpKind.TheVariants as op
use Rattle.ix_core.specs.Code.{Code, End, item_code, cond_code}
use Rattle.ix_core.specs.Code as code
use Rattle.ix_core.specs.Heap.{Held, Boolean, value_at}
use Rattle.ix_core.specs.Machine.{Thrown, is_true}
use Rattle.ix_core.specs.Tasks.{Tasks, Empty, Run, Ask, code_then, followed_by, behind_loop, next_turn}
use Rattle.ix_core.specs.Traces.{Printed}
use Rattle.ix_core.proofs.Heaps.{value_set}
use Rattle.ix_core.proofs.Translated.{item_code-If}
use Rattle.ix_plain.specs.declared.body.Body.{Body}
use Rattle.ix_plain.specs.Parts.{Value, Asked, done}
use Rattle.ix_plain.specs.Statements.{behind, with_last, answer, answer_item}
use Rattle.ix_source.specs.Runs.{Now, Result as Ended, Gives, Stops, Cuts, Action, ◌>>=◌, go_on, gives, stops}
use Rattle.ix_source.specs.Values.{without_value}
use Rattle.ix_source.specs.Statements.{Completion, Normal, Breaks, Continues, Returns, normally, printed}
use Rattle.ix_source.specs.Seen.{Frame, at, Decides}
use Rattle.ix_source.specs.Along.{Setting, IsSet}
use Rattle.ix_source.specs.Kept.{code_before, IsIn, nothing_known, anything, Done, Answers, IsBoolean}
use Rattle.ix_source.specs.Running.{Ground, standing, Stands, AlongWith, Runs}
use Rattle.ix_source.proofs.Paths.{one_step, here}
use Rattle.ix_source.proofs.Made.{code_append, did}
use Rattle.ix_source.proofs.Slots.{agrees_temporary}
use Rattle.ix_source.proofs.Statements.{value_then}
use Rattle.ix_source.proofs.Loops.{step_before, decides_on}

pub most_first : (a b : ℕ) → a ≤ max a b
most_first a b = grind arith

pub most_second : (a b : ℕ) → b ≤ max a b
most_second a b = grind arith

module _ (g : Ground) where
  -- what is the same at each state is kept alike
  pub runs_as : (before after : Body) (n : ℕ) (a b : Action Completion) → ((now : Now) → a now ≡ b now) → Runs g before after n a → Runs g before after n b
  runs_as before after n a b same x = record {
    items = x.items;
    appended = x.appended;
    up = x.up;
    most = x.most;
    free = x.free;
    counted = x.counted;
    owners = x.owners;
    does = λ f rest tasks slots now room stands decides. subst (λ r. AlongWith g f (at f (code_then (code_before x.items rest) tasks) slots now.heap now.wrapped) (code_then rest tasks) tasks g.depth before after slots now r) (same now) (x.does f rest tasks slots now room stands decides);
  }

  -- ---- one item

  abbrev ItemDoes : Body → Body → Item → Action Completion → Type 0
  ItemDoes body after item action = (f : Frame) (rest : Code) (tasks : Tasks) (slots : List Held) (now : Now) → after.most ≤ length slots → Stands g body slots now → Decides g.tables (at f (code_then (item_code item rest) tasks) slots now.heap now.wrapped)
      → AlongWith g f (at f (code_then (item_code item rest) tasks) slots now.heap now.wrapped) (code_then rest tasks) tasks g.depth body after slots now (action now)

  item_runs : (body : Body) (item : Item) (action : Action Completion) → body.made.free ≤ body.most → ItemDoes body (with_last body item) item action → Runs g body (with_last body item) 0 action
  item_runs body item action low does = record {
    items = item ∷ [];
    appended = refl;
    up = omega arith;
    most = omega arith;
    free = low;
    counted = omega arith;
    owners = λ slot under. refl;
    does = λ f rest tasks slots now room stands decides. does f rest tasks slots now room stands decides;
  }

  pub break_runs : (body : Body) → body.made.free ≤ body.most → Runs g body (with_last body item.Break) 0 (gives Breaks)
  break_runs body low = item_runs body item.Break (gives Breaks) low (λ f rest tasks slots now room stands decides. record {
    behind = slots;
    shows = [];
    to = behind_loop tasks;
    leads = one_step g.tables _ _ refl;
    events = sym (append-nil now.events);
    size = refl;
    stands = stands;
    stands_then = tt;
    follows = refl;
  })

  pub continue_runs : (body : Body) → body.made.free ≤ body.most → Runs g body (with_last body item.Continue) 0 (gives Continues)
  continue_runs body low = item_runs body item.Continue (gives Continues) low (λ f rest tasks slots now room stands decides. record {
    behind = slots;
    shows = [];
    to = next_turn tasks;
    leads = one_step g.tables _ _ refl;
    events = sym (append-nil now.events);
    size = refl;
    stands = stands;
    stands_then = tt;
    follows = refl;
  })

  pub throw_runs : (body : Body) (name : _) (span : Span) → body.made.free ≤ body.most → Runs g body (with_last body (item.Throw name span)) 0 (stops (Thrown name span.from))
  throw_runs body name span low = item_runs body (item.Throw name span) (stops (Thrown name span.from)) low (λ f rest tasks slots now room stands decides. record {
    final = record (at f (code_then (item_code (item.Throw name span) rest) tasks) slots now.heap now.wrapped) { ended = Some (Thrown name span.from) };
    shows = [];
    leads = one_step g.tables _ _ refl;
    ended = refl;
    wrapped = refl;
    events = sym (append-nil now.events);
  })

  pub return_runs : (body : Body) (span : Span) → body.made.free ≤ body.most → Runs g body (with_last body (item.Return None span)) 0 (gives (Returns None))
  return_runs body span low = item_runs body (item.Return None span) (gives (Returns None)) low (λ f rest tasks slots now room stands decides. record {
    behind = slots;
    shows = [];
    to = Run (code.Return None span rest) tasks;
    leads = here g.tables _;
    events = sym (append-nil now.events);
    size = refl;
    stands = stands;
    stands_then = tt;
    follows = record { slot = None; span = span; rest = rest; tasks = tasks; there = refl; returned = tt };
  })

  -- ---- a full expression, and an item that uses its value

  module _ (body : Body) (assigned : List ℕ) (low : body.made.free ≤ body.most) where
    abbrev z : Setting
    z = standing g body assigned

    module _ (v : Value) (action : Action Held) where
      abbrev behind_it : Body
      behind_it = behind body v.made.items v.made.free

      used_runs : (last : Item) (on : Held → Action Completion) → Done z nothing_known body.made v.made (λ x. action) (IsIn v.slot)
          → ((f : Frame) (rest : Code) (tasks : Tasks) (slots : List Held) (now : Now) (value : Held) → Stands g body slots now → value_at slots v.slot ≡ value
          → AlongWith g f (at f (code_then (item_code last rest) tasks) slots now.heap now.wrapped) (code_then rest tasks) tasks g.depth body (with_last behind_it last) slots now (on value now))
          → Runs g body (with_last behind_it last) 0 (action >>= on)
      used_runs last on d uses = record {
        items = d.items ++ last ∷ [];
        appended = ap (λ items. items ++ last ∷ []) d.appended ∙ append_assoc body.made.items d.items (last ∷ []);
        up = omega arith;
        most = most_first body.most v.made.free;
        free = let m = most_first body.most v.made.free in omega (arith, low, m);
        counted = omega arith;
        owners = λ slot under. refl;
        does = λ f rest tasks slots now room stands decides.
            let begun : Decides g.tables (at f (code_then (code_before d.items (item_code last rest)) tasks) slots now.heap now.wrapped) = subst (λ code. Decides g.tables (at f (code_then code tasks) slots now.heap now.wrapped)) (code_append d.items (last ∷ []) rest) decides in
            subst (λ code. AlongWith g f (at f (code_then code tasks) slots now.heap now.wrapped) (code_then rest tasks) tasks g.depth body (with_last behind_it last) slots now ((action >>= on) now)) (sym (code_append d.items (last ∷ []) rest))
            (value_then g z refl f (at f (code_then (code_before d.items (item_code last rest)) tasks) slots now.heap now.wrapped) (λ value. code_then (item_code last rest) tasks) (IsIn v.slot) body.made.free (code_then rest tasks) tasks g.depth body (with_last behind_it last) slots now (omega arith) (action now) on begun
            (d.does tt f (item_code last rest) tasks slots now (let m = most_second body.most v.made.free in omega (arith, m, room)) (record { held = stands.held; this = stands.this }) tt begun)
            (λ value later behind keeps agrees held decides_then. uses f rest tasks behind later value (record { held = agrees.held; this = agrees.this }) held));
      }

      -- its value isn't used
      pub ran_runs : Done z nothing_known body.made v.made (λ x. action) anything → Runs g body behind_it 0 (action >>= without_value >>= normally)
      ran_runs d = record {
        items = d.items;
        appended = d.appended;
        up = omega arith;
        most = most_first body.most v.made.free;
        free = let m = most_first body.most v.made.free in omega (arith, low, m);
        counted = omega arith;
        owners = λ slot under. refl;
        does = λ f rest tasks slots now room stands decides.
            subst (λ r. AlongWith g f (at f (code_then (code_before d.items rest) tasks) slots now.heap now.wrapped) (code_then rest tasks) tasks g.depth body behind_it slots now r) (sym (without (action now)))
            (value_then g z refl f (at f (code_then (code_before d.items rest) tasks) slots now.heap now.wrapped) (λ value. code_then rest tasks) anything body.made.free (code_then rest tasks) tasks g.depth body behind_it slots now (omega arith) (action now) (λ value. gives Normal) decides
            (d.does tt f rest tasks slots now (let m = most_second body.most v.made.free in omega (arith, m, room)) (record { held = stands.held; this = stands.this }) tt decides)
            (λ value later behind keeps agrees held decides_then. record {
              behind = behind;
              shows = [];
              to = code_then rest tasks;
              leads = here g.tables _;
              events = sym (append-nil later.events);
              size = refl;
              stands = record { held = agrees.held; this = agrees.this };
              stands_then = record { held = agrees.held; this = agrees.this };
              follows = refl;
            }));
      }
        where
          without : (r : Ended Held) → go_on normally (go_on without_value r) ≡ go_on (λ value. gives Normal) r
          without (Gives value now) = refl
          without (Stops ending now) = refl
          without (Cuts now) = refl

      pub print_runs : (span : Span) → Done z nothing_known body.made v.made (λ x. action) (IsIn v.slot) → Runs g body (with_last behind_it (done (op.Print v.slot) span [])) 0 (action >>= printed)
      print_runs span d = used_runs (done (op.Print v.slot) span []) printed d (λ f rest tasks slots now value stands held. record {
        behind = slots;
        shows = Printed (value_at slots v.slot) ∷ [];
        to = code_then rest tasks;
        leads = one_step g.tables _ _ refl;
        events = ap (λ value. now.events ++ Printed value ∷ []) (sym held);
        size = refl;
        stands = record { held = stands.held; this = stands.this };
        stands_then = record { held = stands.held; this = stands.this };
        follows = refl;
      })

      pub return_value_runs : (span : Span) → Done z nothing_known body.made v.made (λ x. action) (IsIn v.slot) → Runs g body (with_last behind_it (item.Return (Some v.slot) span)) 0 (action >>= (λ value. gives (Returns (Some value))))
      return_value_runs span d = used_runs (item.Return (Some v.slot) span) (λ value. gives (Returns (Some value))) d (λ f rest tasks slots now value stands held. record {
        behind = slots;
        shows = [];
        to = Run (code.Return (Some v.slot) span rest) tasks;
        leads = here g.tables _;
        events = sym (append-nil now.events);
        size = refl;
        stands = stands;
        stands_then = tt;
        follows = record { slot = Some v.slot; span = span; rest = rest; tasks = tasks; there = refl; returned = held };
      })

    -- ---- each answer is returned by itself

    module _ (set : IsSet z) (asked : Asked) (action : Action Held) (span : Span) (a : Answers z nothing_known body.made.free (λ x. action) asked) where
      abbrev behind_answer : Body
      behind_answer = behind body (body.made.items ++ answer_item asked.cond asked.free span ∷ []) (asked.free + 1)

      abbrev answer_code : Bool → Code
      answer_code holds = code.Do (record { kind = op.Const asked.free (literal.Bool holds); span = span; parts = [] }) (code.Return (Some asked.free) span End)

      answer_goes : (f : Frame) (rest : Code) (tasks : Tasks) (slots : List Held) (now : Now) (value : Held) → asked.free < length slots → Stands g body slots now → (holds : Bool) → value ≡ Boolean holds
          → AlongWith g f (at f (Run (answer_code holds) (code_then rest tasks)) slots now.heap now.wrapped) (code_then rest tasks) tasks g.depth body behind_answer slots now (Gives (Returns (Some value)) now)
      answer_goes f rest tasks slots now value room stands holds is =
          let up = a.up in
          let s = agrees_temporary z set slots now.variables asked.free (Boolean holds) (omega (arith, up)) (record { held = stands.held; this = stands.this }) in
          record {
            behind = slice_set slots asked.free (Boolean holds);
            shows = [];
            to = Run (code.Return (Some asked.free) span End) (code_then rest tasks);
            leads = did z f (op.Const asked.free (literal.Bool holds)) span [] (code.Return (Some asked.free) span End) (code_then rest tasks) slots (slice_set slots asked.free (Boolean holds)) now.heap now.heap now.wrapped refl;
            events = sym (append-nil now.events);
            size = length-set slots asked.free (Boolean holds);
            stands = record { held = s.held; this = s.this };
            stands_then = tt;
            follows = record { slot = Some asked.free; span = span; rest = End; tasks = code_then rest tasks; there = refl; returned = value_set slots asked.free (Boolean holds) room ∙ sym is };
          }

      answered_goes : (f : Frame) (rest : Code) (tasks : Tasks) (slots : List Held) (now : Now) (value : Held) → asked.free < length slots → Stands g body slots now → (holds : Bool) → value ≡ Boolean holds
          → AlongWith g f (at f (followed_by (if is_true value then Run (answer_code true) Empty else Run (answer_code false) Empty) (code_then rest tasks)) slots now.heap now.wrapped) (code_then rest tasks) tasks g.depth body behind_answer slots now (Gives (Returns (Some value)) now)
      answered_goes f rest tasks slots now value room stands true is =
          subst (λ (b : Bool). AlongWith g f (at f (followed_by (if b then Run (answer_code true) Empty else Run (answer_code false) Empty) (code_then rest tasks)) slots now.heap now.wrapped) (code_then rest tasks) tasks g.depth body behind_answer slots now (Gives (Returns (Some value)) now)) (sym (ap is_true is))
          (answer_goes f rest tasks slots now value room stands true is)
      answered_goes f rest tasks slots now value room stands false is =
          subst (λ (b : Bool). AlongWith g f (at f (followed_by (if b then Run (answer_code true) Empty else Run (answer_code false) Empty) (code_then rest tasks)) slots now.heap now.wrapped) (code_then rest tasks) tasks g.depth body behind_answer slots now (Gives (Returns (Some value)) now)) (sym (ap is_true is))
          (answer_goes f rest tasks slots now value room stands false is)

      pub answered_runs : Runs g body behind_answer 0 (action >>= (λ value. gives (Returns (Some value))))
      answered_runs = record {
        items = answer_item asked.cond asked.free span ∷ [];
        appended = refl;
        up = omega arith;
        most = most_first body.most (asked.free + 1);
        free = let m = most_first body.most (asked.free + 1) in omega (arith, low, m);
        counted = omega arith;
        owners = λ slot under. refl;
        does = λ f rest tasks slots now room stands decides.
            let first : Block = answer true asked.free span in
            let second : Block = answer false asked.free span in
            let is : item_code (answer_item asked.cond asked.free span) rest ≡ code.If (cond_code asked.cond) (answer_code true) (answer_code false) rest = item_code-If asked.cond first second rest in
            let T : Tasks = code_then rest tasks in
            let roomy : asked.free < length slots = let m = most_second body.most (asked.free + 1) in omega (arith, m, room) in
            let begun : Decides g.tables (at f (Ask (cond_code asked.cond) (Run (answer_code true) Empty) (Run (answer_code false) Empty) T) slots now.heap now.wrapped) =
            decides_on g f (Run (code.If (cond_code asked.cond) (answer_code true) (answer_code false) rest) tasks) (Ask (cond_code asked.cond) (Run (answer_code true) Empty) (Run (answer_code false) Empty) T) slots now (one_step g.tables _ _ refl)
            (subst (λ code. Decides g.tables (at f (code_then code tasks) slots now.heap now.wrapped)) is decides) in
            subst (λ code. AlongWith g f (at f (code_then code tasks) slots now.heap now.wrapped) T tasks g.depth body behind_answer slots now ((action >>= (λ value. gives (Returns (Some value)))) now)) (sym is)
            (step_before g f (Run (code.If (cond_code asked.cond) (answer_code true) (answer_code false) rest) tasks) (Ask (cond_code asked.cond) (Run (answer_code true) Empty) (Run (answer_code false) Empty) T) T tasks g.depth g.depth body behind_answer slots now (one_step g.tables _ _ refl) (omega arith) ((action >>= (λ value. gives (Returns (Some value)))) now)
            (value_then g z refl f (at f (Ask (cond_code asked.cond) (Run (answer_code true) Empty) (Run (answer_code false) Empty) T) slots now.heap now.wrapped) (λ value. followed_by (if is_true value then Run (answer_code true) Empty else Run (answer_code false) Empty) T) (IsBoolean z) body.made.free T tasks g.depth body behind_answer slots now (omega arith) (action now) (λ value. gives (Returns (Some value))) begun
            (a.does tt f (Run (answer_code true) Empty) (Run (answer_code false) Empty) T slots now (omega (arith, roomy)) (record { held = stands.held; this = stands.this }) tt begun)
            (λ value later behind keeps agrees held decides_then. answered_goes f rest tasks behind later value (let same = keeps.size in omega (arith, roomy, same)) (record { held = agrees.held; this = agrees.this }) held.0 held.1)));
      }
