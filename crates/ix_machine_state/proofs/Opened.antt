use Rattle.std.proofs.Common.{◌≡◌, Bool, true, false, not, if◌then◌else◌, Bor, List, [], ◌∷◌, ◌++◌, reverse, refl, ap, sym}
use Rattle.std.proofs.lemmas.List.{reverse-append}
use Rattle.std.proofs.Common.{ℕ, ◌∙◌}
use Rattle.ix_core.specs.declared.code.Item.{Item}
use Rattle.ix_core.specs.declared.code.Block.{Block}
use Rattle.ix_core.specs.declared.code.Cond.{Cond}
use Rattle.ix_core.specs.declared.code.Cond.TheVariants as variant
use Rattle.ix_core.specs.declared.op.Test.{Test}
use Rattle.ix_core.specs.Machine.{step_condition}
use Rattle.ix_core.specs.Code.{cond_code, Code, End, Do, If, Break, Continue, Return, Throw, Loop, Condition, Compare, Truth, Both, Either, Opposite, items_code, block_code}
use Rattle.ix_core.proofs.Translated.{cond_code-Compare, cond_code-Truth, cond_code-Both, cond_code-Either, cond_code-Opposite}
use Rattle.ix_machine_state.specs.declared.places.Turn.{Turn}
use Rattle.ix_machine_state.specs.declared.places.Place.{Place}
use Rattle.ix_machine_state.specs.declared.places.Place.TheVariants as kind
use Rattle.ix_core.specs.Tasks.{Tasks, Empty, behind_loop, next_turn, code_then, followed_by}
use Rattle.ix_machine_state.specs.Places.{again_of, tasks_of, branches_of, tasks_open}

pub reverse-snoc : (places : List Place) (place : Place) → reverse (places ++ place ∷ []) ≡ place ∷ reverse places
reverse-snoc places place = reverse-append places (place ∷ [])

-- behind the loop of what follows a condition
pub behind_loop-rest : (places : List Place) → behind_loop (branches_of places).after ≡ behind_loop (tasks_of places)
behind_loop-rest [] = refl
behind_loop-rest (kind.Rest items ∷ places) = refl
behind_loop-rest (kind.Ask cond ∷ places) = refl
behind_loop-rest (kind.Decide test ∷ places) = refl
behind_loop-rest (kind.DecideTruth slot ∷ places) = refl
behind_loop-rest (kind.Branch ys ns ∷ places) = refl
behind_loop-rest (kind.Enter turn ∷ places) = refl
behind_loop-rest (kind.BothLeft cond ∷ places) = behind_loop-rest places
behind_loop-rest (kind.EitherLeft cond ∷ places) = behind_loop-rest places
behind_loop-rest (kind.Not ∷ places) = behind_loop-rest places
behind_loop-rest (kind.Head turn ∷ places) = refl
behind_loop-rest (kind.Again turn ∷ places) = refl
behind_loop-rest (kind.Out ∷ places) = refl

pub next_turn-rest : (places : List Place) → next_turn (branches_of places).after ≡ next_turn (tasks_of places)
next_turn-rest [] = refl
next_turn-rest (kind.Rest items ∷ places) = refl
next_turn-rest (kind.Ask cond ∷ places) = refl
next_turn-rest (kind.Decide test ∷ places) = refl
next_turn-rest (kind.DecideTruth slot ∷ places) = refl
next_turn-rest (kind.Branch ys ns ∷ places) = refl
next_turn-rest (kind.Enter turn ∷ places) = refl
next_turn-rest (kind.BothLeft cond ∷ places) = next_turn-rest places
next_turn-rest (kind.EitherLeft cond ∷ places) = next_turn-rest places
next_turn-rest (kind.Not ∷ places) = next_turn-rest places
next_turn-rest (kind.Head turn ∷ places) = refl
next_turn-rest (kind.Again turn ∷ places) = refl
next_turn-rest (kind.Out ∷ places) = refl

pub behind_loop-items : (code : Code) (tasks : Tasks) → behind_loop (code_then code tasks) ≡ behind_loop tasks
behind_loop-items End tasks = refl
behind_loop-items (Do op code) tasks = refl
behind_loop-items (If asked first second code) tasks = refl
behind_loop-items (Break code) tasks = refl
behind_loop-items (Continue code) tasks = refl
behind_loop-items (Return value span code) tasks = refl
behind_loop-items (Throw name span code) tasks = refl
behind_loop-items (Loop test_first asked body next number scope code) tasks = refl

pub next_turn-items : (code : Code) (tasks : Tasks) → next_turn (code_then code tasks) ≡ next_turn tasks
next_turn-items End tasks = refl
next_turn-items (Do op code) tasks = refl
next_turn-items (If asked first second code) tasks = refl
next_turn-items (Break code) tasks = refl
next_turn-items (Continue code) tasks = refl
next_turn-items (Return value span code) tasks = refl
next_turn-items (Throw name span code) tasks = refl
next_turn-items (Loop test_first asked body next number scope code) tasks = refl

pub followed_by-items : (code : Code) (tasks rest : Tasks) → followed_by (code_then code tasks) rest ≡ code_then code (followed_by tasks rest)
followed_by-items End tasks rest = refl
followed_by-items (Do op code) tasks rest = refl
followed_by-items (If asked first second code) tasks rest = refl
followed_by-items (Break code) tasks rest = refl
followed_by-items (Continue code) tasks rest = refl
followed_by-items (Return value span code) tasks rest = refl
followed_by-items (Throw name span code) tasks rest = refl
followed_by-items (Loop test_first asked body next number scope code) tasks rest = refl

-- a place that is no loop's end is no matter to what is behind the loop
pub behind_loop-place : (place : Place) (places : List Place) → (place ≡ kind.Out → ⊥) → behind_loop (tasks_of places) ≡ behind_loop (tasks_of (place ∷ places))
behind_loop-place (kind.Rest items) places other = sym (behind_loop-items (items_code items.now) (tasks_of places))
behind_loop-place (kind.Ask cond) places other = sym (behind_loop-rest places)
behind_loop-place (kind.Decide test) places other = sym (behind_loop-rest places)
behind_loop-place (kind.DecideTruth slot) places other = sym (behind_loop-rest places)
behind_loop-place (kind.Branch ys ns) places other = refl
behind_loop-place (kind.Enter turn) places other = refl
behind_loop-place (kind.BothLeft cond) places other = refl
behind_loop-place (kind.EitherLeft cond) places other = refl
behind_loop-place kind.Not places other = refl
behind_loop-place (kind.Head turn) places other = refl
behind_loop-place (kind.Again turn) places other = refl
behind_loop-place kind.Out places other = absurd (other refl)

pub next_turn-place : (place : Place) (places : List Place) → ((turn : Turn) → place ≡ kind.Again turn → ⊥) → next_turn (tasks_of places) ≡ next_turn (tasks_of (place ∷ places))
next_turn-place (kind.Rest items) places other = sym (next_turn-items (items_code items.now) (tasks_of places))
next_turn-place (kind.Ask cond) places other = sym (next_turn-rest places)
next_turn-place (kind.Decide test) places other = sym (next_turn-rest places)
next_turn-place (kind.DecideTruth slot) places other = sym (next_turn-rest places)
next_turn-place (kind.Branch ys ns) places other = refl
next_turn-place (kind.Enter turn) places other = refl
next_turn-place (kind.BothLeft cond) places other = refl
next_turn-place (kind.EitherLeft cond) places other = refl
next_turn-place kind.Not places other = refl
next_turn-place (kind.Head turn) places other = refl
next_turn-place (kind.Again turn) places other = absurd (other turn refl)
next_turn-place kind.Out places other = refl

-- the same of a stack from which a place was popped
pub behind_loop-popped : (places before : List Place) (place : Place) → places ≡ before ++ place ∷ [] → (place ≡ kind.Out → ⊥)
    → behind_loop (tasks_open before) ≡ behind_loop (tasks_open places)
behind_loop-popped places before place popped other = rw (popped, reverse-snoc before place) (behind_loop-place place (reverse before) other)

pub next_turn-popped : (places before : List Place) (place : Place) → places ≡ before ++ place ∷ [] → ((turn : Turn) → place ≡ kind.Again turn → ⊥)
    → next_turn (tasks_open before) ≡ next_turn (tasks_open places)
next_turn-popped places before place popped other = rw (popped, reverse-snoc before place) (next_turn-place place (reverse before) other)

-- the tasks after both answers, one after the other
abbrev pub after_answer : Bool → List Place → Tasks
after_answer answer places = followed_by (if answer then (branches_of places).when_true else (branches_of places).when_false) (branches_of places).after

pub after_answer-branch : (answer : Bool) (places before after : List Place) (ys ns chosen : Bor (List Item))
    → places ≡ before ++ kind.Branch ys ns ∷ [] → after ≡ before ++ kind.Rest chosen ∷ []
    → chosen ≡ (if answer then ys else ns)
    → tasks_open after ≡ after_answer answer (reverse places)
after_answer-branch true places before after ys ns chosen popped pushed is =
    rw (popped, pushed, reverse-snoc before (kind.Branch ys ns), reverse-snoc before (kind.Rest chosen), is) (sym (followed_by-items (items_code ys.now) Empty (tasks_of (reverse before))))
after_answer-branch false places before after ys ns chosen popped pushed is =
    rw (popped, pushed, reverse-snoc before (kind.Branch ys ns), reverse-snoc before (kind.Rest chosen), is) (sym (followed_by-items (items_code ns.now) Empty (tasks_of (reverse before))))

pub after_answer-enter : (answer : Bool) (places before mid after : List Place) (turn : Turn)
    → answer ≡ true → places ≡ before ++ kind.Enter turn ∷ [] → mid ≡ before ++ kind.Again turn ∷ [] → after ≡ mid ++ kind.Rest turn.body ∷ []
    → tasks_open after ≡ after_answer answer (reverse places)
after_answer-enter answer places before mid after turn so popped first second =
    rw (so, popped, second, first, reverse-snoc before (kind.Enter turn), reverse-snoc (before ++ kind.Again turn ∷ []) (kind.Rest turn.body), reverse-snoc before (kind.Again turn))
    (sym (followed_by-items (items_code turn.body.now) (again_of turn Empty) (tasks_of (reverse before))))

pub after_answer-not : (answer : Bool) (places before : List Place) → places ≡ before ++ kind.Not ∷ [] → after_answer (not answer) (reverse before) ≡ after_answer answer (reverse places)
after_answer-not true places before popped = rw (popped, reverse-snoc before kind.Not) refl
after_answer-not false places before popped = rw (popped, reverse-snoc before kind.Not) refl

-- the right side of `&&` and of `||` is not asked
pub after_answer-both : (answer : Bool) (places before : List Place) (cond : Bor Cond) → answer ≡ false → places ≡ before ++ kind.BothLeft cond ∷ [] → after_answer answer (reverse before) ≡ after_answer answer (reverse places)
after_answer-both answer places before cond so popped = rw (so, popped, reverse-snoc before (kind.BothLeft cond)) refl

pub after_answer-either : (answer : Bool) (places before : List Place) (cond : Bor Cond) → answer ≡ true → places ≡ before ++ kind.EitherLeft cond ∷ [] → after_answer answer (reverse before) ≡ after_answer answer (reverse places)
after_answer-either answer places before cond so popped = rw (so, popped, reverse-snoc before (kind.EitherLeft cond)) refl

-- it is asked
pub after_answer-both-asked : (answer : Bool) (places before after : List Place) (cond : Bor Cond) → answer ≡ true → places ≡ before ++ kind.BothLeft cond ∷ [] → after ≡ before ++ kind.Ask cond ∷ []
    → tasks_open after ≡ after_answer answer (reverse places)
after_answer-both-asked answer places before after cond so popped pushed = rw (so, popped, pushed, reverse-snoc before (kind.BothLeft cond), reverse-snoc before (kind.Ask cond)) refl

pub after_answer-either-asked : (answer : Bool) (places before after : List Place) (cond : Bor Cond) → answer ≡ false → places ≡ before ++ kind.EitherLeft cond ∷ [] → after ≡ before ++ kind.Ask cond ∷ []
    → tasks_open after ≡ after_answer answer (reverse places)
after_answer-either-asked answer places before after cond so popped pushed = rw (so, popped, pushed, reverse-snoc before (kind.EitherLeft cond), reverse-snoc before (kind.Ask cond)) refl

pub after_answer-out : (answer : Bool) (places before : List Place) (turn : Turn) → answer ≡ false → places ≡ before ++ kind.Enter turn ∷ [] → tasks_open before ≡ after_answer answer (reverse places)
after_answer-out answer places before turn so popped = rw (so, popped, reverse-snoc before (kind.Enter turn)) refl

-- two places more
pub opened_two : (places mid after : List Place) (outer inner : Place) → mid ≡ places ++ outer ∷ [] → after ≡ mid ++ inner ∷ [] → tasks_open after ≡ tasks_of (inner ∷ outer ∷ reverse places)
opened_two places mid after outer inner one two = rw (two, one, reverse-snoc (places ++ outer ∷ []) inner, reverse-snoc places outer) refl

-- ---- a condition that is asked

abbrev pub after_condition : Cond → List Place → Tasks
after_condition cond places = step_condition (cond_code cond) (branches_of places).when_true (branches_of places).when_false (branches_of places).after

asked : (cond : Cond) (condition : Condition) (places : List Place) → cond_code cond ≡ condition
    → step_condition condition (branches_of places).when_true (branches_of places).when_false (branches_of places).after ≡ after_condition cond places
asked cond condition places is = sym (ap (λ q. step_condition q (branches_of places).when_true (branches_of places).when_false (branches_of places).after) is)

pub asked_compare : (places after : List Place) (cond : Cond) (block : Block) (test : Bor Test) (items : Bor (List Item)) → cond ≡ variant.Compare block test.now → items.now ≡ block.items
    → after ≡ (places ++ kind.Decide test ∷ []) ++ kind.Rest items ∷ [] → tasks_open after ≡ after_condition cond (reverse places)
asked_compare places after cond block test items is same opened =
    opened_two places (places ++ kind.Decide test ∷ []) after (kind.Decide test) (kind.Rest items) refl opened
    ∙ (ap (λ xs. code_then (items_code xs) (tasks_of (kind.Decide test ∷ reverse places))) same
    ∙ asked cond (Compare (block_code block) test.now) (reverse places) (ap cond_code is ∙ cond_code-Compare block test.now))

pub asked_truth : (places after : List Place) (cond : Cond) (block : Block) (slot : ℕ) (items : Bor (List Item)) → cond ≡ variant.Truth block slot → items.now ≡ block.items
    → tasks_open after ≡ tasks_of (kind.Rest items ∷ kind.DecideTruth slot ∷ reverse places) → tasks_open after ≡ after_condition cond (reverse places)
asked_truth places after cond block slot items is same opened =
    opened
    ∙ (ap (λ xs. code_then (items_code xs) (tasks_of (kind.DecideTruth slot ∷ reverse places))) same
    ∙ asked cond (Truth (block_code block) slot) (reverse places) (ap cond_code is ∙ cond_code-Truth block slot))

pub asked_both : (places after : List Place) (cond first second : Cond) (one two : Bor Cond) → cond ≡ variant.Both first second → one.now ≡ first → two.now ≡ second
    → tasks_open after ≡ tasks_of (kind.Ask one ∷ kind.BothLeft two ∷ reverse places) → tasks_open after ≡ after_condition cond (reverse places)
asked_both places after cond first second one two is here there opened =
    let is_both : cond_code cond ≡ Both (cond_code one.now) (cond_code two.now) = ap cond_code is ∙ (cond_code-Both first second ∙ (ap (λ c. Both (cond_code c) (cond_code second)) (sym here) ∙ ap (λ c. Both (cond_code one.now) (cond_code c)) (sym there))) in
    opened ∙ asked cond (Both (cond_code one.now) (cond_code two.now)) (reverse places) is_both

pub asked_either : (places after : List Place) (cond first second : Cond) (one two : Bor Cond) → cond ≡ variant.Either first second → one.now ≡ first → two.now ≡ second
    → tasks_open after ≡ tasks_of (kind.Ask one ∷ kind.EitherLeft two ∷ reverse places) → tasks_open after ≡ after_condition cond (reverse places)
asked_either places after cond first second one two is here there opened =
    let is_either : cond_code cond ≡ Either (cond_code one.now) (cond_code two.now) = ap cond_code is ∙ (cond_code-Either first second ∙ (ap (λ c. Either (cond_code c) (cond_code second)) (sym here) ∙ ap (λ c. Either (cond_code one.now) (cond_code c)) (sym there))) in
    opened ∙ asked cond (Either (cond_code one.now) (cond_code two.now)) (reverse places) is_either

pub asked_opposite : (places after : List Place) (cond inside : Cond) (one : Bor Cond) → cond ≡ variant.Opposite inside → one.now ≡ inside
    → tasks_open after ≡ tasks_of (kind.Ask one ∷ kind.Not ∷ reverse places) → tasks_open after ≡ after_condition cond (reverse places)
asked_opposite places after cond inside one is here opened =
    let is_not : cond_code cond ≡ Opposite (cond_code one.now) = ap cond_code is ∙ (cond_code-Opposite inside ∙ ap (λ c. Opposite (cond_code c)) (sym here)) in
    opened ∙ asked cond (Opposite (cond_code one.now)) (reverse places) is_not
