-- Conditions keep their meaning, and so do the values that they become.
use Rattle.std.proofs.Common.{◌≡◌, ◌≤◌, ◌<◌, ℕ, ◌+◌, Bool, true, false, List, [], ◌∷◌, ◌++◌, length, Ok, Err, refl, sym, ap, subst, ◌∙◌, arith}
use Rattle.std.specs.Prelude.{if◌then◌else◌, nat_lt, not}
use Rattle.std.proofs.lemmas.List.{append-nil}
use Rattle.ix_text.specs.declared.span.Span.{Span}
use Rattle.ix_num.specs.declared.rel.Rel.{Rel}
use Rattle.ix_core.specs.declared.claim.Type_.{Type_}
use Rattle.ix_core.specs.declared.code.Block.{Block}
use Rattle.ix_core.specs.declared.code.Cond.TheVariants as cond
use Rattle.ix_core.specs.declared.op.Literal.TheVariants as literal
use Rattle.ix_core.specs.declared.op.OpKind.TheVariants as op
use Rattle.ix_core.specs.declared.op.Test.{Test}
use Rattle.ix_core.specs.Code.{Code, End, If, Condition, Truth, Compare, item_code, cond_code, block_code}
use Rattle.ix_core.specs.Code as code
use Rattle.ix_core.specs.Heap.{Held, Boolean, value_at}
use Rattle.ix_core.specs.Machine.{is_true, test_of}
use Rattle.ix_core.specs.Tasks.{Tasks, Ask, Decide, DecideTruth, Empty, Run, code_then, followed_by}
use Rattle.ix_core.proofs.Translated.{item_code-If, cond_code-Compare, cond_code-Truth, cond_code-Both, cond_code-Either, cond_code-Opposite}
use Rattle.ix_meaning.specs.declared.note.Which.TheVariants as which
use Rattle.ix_plain.specs.declared.made.Made.{Made}
use Rattle.ix_plain.specs.Scope.{type_at}
use Rattle.ix_plain.specs.Parts.{Within, ◌>>=◌ as ◌then◌, Value, Asked, empty, block, done, truth_item, truth_value, truth_of, most_slots}
use Rattle.ix_plain.specs.Values.{Lowering}
use Rattle.ix_plain.specs.Values as values
use Rattle.ix_source.specs.Runs.{Now, Result as Ended, Gives, Stops, Cuts, Action, go_on, ◌>>=◌, gives}
use Rattle.ix_source.specs.Context.{Members, Calls}
use Rattle.ix_source.specs.Values.{Evaluation, is_it_true, as_value}
use Rattle.ix_source.specs.Values as source
use Rattle.ix_source.specs.Seen.{Leads, Frame, at, Decides}
use Rattle.ix_source.specs.Along.{Setting, IsSet, Agrees, Along}
use Rattle.ix_source.specs.Kept.{Makes, code_before, Fact, And, IsIn, nothing_known, Stays, Done, Asks, IsBoolean, Answers, Kept, context}
use Rattle.ix_source.proofs.Paths.{one_step, decides_from}
use Rattle.ix_source.proofs.Going.{along_then, at_once, quietly}
use Rattle.ix_source.proofs.Made.{code_append, block_is, makes_then, slot_stays, whatever, gave}

module _ (z : Setting) where
  -- where the step from a state shows nothing
  pub then_on : {A : Type 0} (f : Frame) (from to : Tasks) (next : A → Tasks) (holds : Fact A) (free : ℕ) (slots : List Held) (now : Now) → Leads z.tables (at f from slots now.heap now.wrapped) [] (at f to slots now.heap now.wrapped) → (r : Ended A)
      → Along z f (at f to slots now.heap now.wrapped) next holds free slots now r → Along z f (at f from slots now.heap now.wrapped) next holds free slots now r
  then_on f from to next holds free slots now l r a = quietly z f (at f from slots now.heap now.wrapped) (at f to slots now.heap now.wrapped) next holds free slots now l r a

  -- what is so of the machine behind a step
  decides_on : (f : Frame) (from to : Tasks) (slots : List Held) (now : Now) → Leads z.tables (at f from slots now.heap now.wrapped) [] (at f to slots now.heap now.wrapped) → Decides z.tables (at f from slots now.heap now.wrapped) → Decides z.tables (at f to slots now.heap now.wrapped)
  decides_on f from to slots now l decides = decides_from z.tables (at f from slots now.heap now.wrapped) (at f to slots now.heap now.wrapped) [] l decides

  -- and where it asks the same condition
  decides_asked : (f : Frame) (c asked : Condition) (first_tasks second_tasks tasks : Tasks) (slots : List Held) (now : Now) → c ≡ asked → Decides z.tables (at f (Ask c first_tasks second_tasks tasks) slots now.heap now.wrapped) → Decides z.tables (at f (Ask asked first_tasks second_tasks tasks) slots now.heap now.wrapped)
  decides_asked f c asked first_tasks second_tasks tasks slots now is decides = subst (λ c. Decides z.tables (at f (Ask c first_tasks second_tasks tasks) slots now.heap now.wrapped)) is decides

  abbrev side : Bool → Tasks → Tasks → Tasks → Tasks
  side answer first_tasks second_tasks tasks = followed_by (if answer then first_tasks else second_tasks) tasks

  abbrev answered : Bool → List Held → Type 0
  answered answer slots = Unit {0}

  -- ---- an expression that computes a value, as a condition: the value is true

  truth_asks : {X : Type 0} (known : Fact X) (free : ℕ) (action : X → Action Held) (v : Value) → Done z known (empty free) v.made action (IsIn v.slot)
      → Asks z known free (λ x. action x >>= is_it_true) (record { cond = cond.Truth (block v.made) v.slot; free = v.made.free })
  truth_asks known free action v d = record {
    up = d.up;
    does = λ x f first_tasks second_tasks tasks slots now room agrees knows decides.
        let code : block_code (block v.made) ≡ code_before d.items End = block_is (empty free) v.made d.items refl d.appended in
        let begun : Decides z.tables (at f (code_then (code_before d.items End) (DecideTruth v.slot first_tasks second_tasks tasks)) slots now.heap now.wrapped) =
        decides_on f (Ask (Truth (code_before d.items End) v.slot) first_tasks second_tasks tasks) (code_then (code_before d.items End) (DecideTruth v.slot first_tasks second_tasks tasks)) slots now (one_step z.tables _ _ refl)
        (decides_asked f (cond_code (cond.Truth (block v.made) v.slot)) (Truth (code_before d.items End) v.slot) first_tasks second_tasks tasks slots now (cond_code-Truth (block v.made) v.slot ∙ ap (λ c. Truth c v.slot) code) decides) in
        subst (λ asked. Along z f (at f (Ask asked first_tasks second_tasks tasks) slots now.heap now.wrapped) (λ answer. side answer first_tasks second_tasks tasks) answered free slots now ((action x >>= is_it_true) now)) (sym (cond_code-Truth (block v.made) v.slot ∙ ap (λ c. Truth c v.slot) code))
        (then_on f (Ask (Truth (code_before d.items End) v.slot) first_tasks second_tasks tasks) (code_then (code_before d.items End) (DecideTruth v.slot first_tasks second_tasks tasks)) (λ answer. side answer first_tasks second_tasks tasks) answered free slots now (one_step z.tables _ _ refl) ((action x >>= is_it_true) now)
        (along_then z f (at f (code_then (code_before d.items End) (DecideTruth v.slot first_tasks second_tasks tasks)) slots now.heap now.wrapped) (λ value. DecideTruth v.slot first_tasks second_tasks tasks) (λ answer. side answer first_tasks second_tasks tasks) (IsIn v.slot) answered free free slots now (omega arith) (action x now) is_it_true begun
        (d.does x f End (DecideTruth v.slot first_tasks second_tasks tasks) slots now room agrees knows begun)
        (λ value after behind keeps agrees_then held decides_then. then_on f (DecideTruth v.slot first_tasks second_tasks tasks) (side (is_true (value_at behind v.slot)) first_tasks second_tasks tasks) (λ answer. side answer first_tasks second_tasks tasks) answered free behind after (one_step z.tables _ _ refl) (Gives (is_true value) after)
        (subst (λ held. Along z f (at f (side (is_true held) first_tasks second_tasks tasks) behind after.heap after.wrapped) (λ answer. side answer first_tasks second_tasks tasks) answered free behind after (Gives (is_true value) after)) (sym held)
        (at_once z f (λ answer. side answer first_tasks second_tasks tasks) answered free behind after (is_true value) agrees_then tt)))));
  }

  pub computes_condition : {X : Type 0} (known : Fact X) (free : ℕ) (action : X → Action Held) (r : Within Value) → Makes (λ v. Done z known (empty free) v.made action (IsIn v.slot)) r
      → Makes (Asks z known free (λ x. action x >>= is_it_true)) (r then truth_of)
  computes_condition known free action r d = makes_then (λ v. Done z known (empty free) v.made action (IsIn v.slot)) (Asks z known free (λ x. action x >>= is_it_true)) r truth_of d (λ v a. truth_asks known free action v a)

  -- where the value itself is wanted: the machine decides by a boolean, so the value is one
  truth_answers : {X : Type 0} (known : Fact X) (free : ℕ) (action : X → Action Held) (v : Value) → Done z known (empty free) v.made action (IsIn v.slot)
      → Answers z known free action (record { cond = cond.Truth (block v.made) v.slot; free = v.made.free })
  truth_answers known free action v d = record {
    up = d.up;
    does = λ x f first_tasks second_tasks tasks slots now room agrees knows decides.
        let code : block_code (block v.made) ≡ code_before d.items End = block_is (empty free) v.made d.items refl d.appended in
        let begun : Decides z.tables (at f (code_then (code_before d.items End) (DecideTruth v.slot first_tasks second_tasks tasks)) slots now.heap now.wrapped) =
        decides_on f (Ask (Truth (code_before d.items End) v.slot) first_tasks second_tasks tasks) (code_then (code_before d.items End) (DecideTruth v.slot first_tasks second_tasks tasks)) slots now (one_step z.tables _ _ refl)
        (decides_asked f (cond_code (cond.Truth (block v.made) v.slot)) (Truth (code_before d.items End) v.slot) first_tasks second_tasks tasks slots now (cond_code-Truth (block v.made) v.slot ∙ ap (λ c. Truth c v.slot) code) decides) in
        subst (λ asked. Along z f (at f (Ask asked first_tasks second_tasks tasks) slots now.heap now.wrapped) (λ value. side (is_true value) first_tasks second_tasks tasks) (IsBoolean z) free slots now (action x now)) (sym (cond_code-Truth (block v.made) v.slot ∙ ap (λ c. Truth c v.slot) code))
        (then_on f (Ask (Truth (code_before d.items End) v.slot) first_tasks second_tasks tasks) (code_then (code_before d.items End) (DecideTruth v.slot first_tasks second_tasks tasks)) (λ value. side (is_true value) first_tasks second_tasks tasks) (IsBoolean z) free slots now (one_step z.tables _ _ refl) (action x now)
        (subst (λ r. Along z f (at f (code_then (code_before d.items End) (DecideTruth v.slot first_tasks second_tasks tasks)) slots now.heap now.wrapped) (λ value. side (is_true value) first_tasks second_tasks tasks) (IsBoolean z) free slots now r) (gives_same (action x now))
        (along_then z f (at f (code_then (code_before d.items End) (DecideTruth v.slot first_tasks second_tasks tasks)) slots now.heap now.wrapped) (λ value. DecideTruth v.slot first_tasks second_tasks tasks) (λ value. side (is_true value) first_tasks second_tasks tasks) (IsIn v.slot) (IsBoolean z) free free slots now (omega arith) (action x now) (λ value. gives value) begun
        (d.does x f End (DecideTruth v.slot first_tasks second_tasks tasks) slots now room agrees knows begun)
        (λ value after behind keeps agrees_then held decides_then. then_on f (DecideTruth v.slot first_tasks second_tasks tasks) (side (is_true (value_at behind v.slot)) first_tasks second_tasks tasks) (λ value. side (is_true value) first_tasks second_tasks tasks) (IsBoolean z) free behind after (one_step z.tables _ _ refl) (Gives value after)
        (subst (λ held. Along z f (at f (side (is_true held) first_tasks second_tasks tasks) behind after.heap after.wrapped) (λ value. side (is_true value) first_tasks second_tasks tasks) (IsBoolean z) free behind after (Gives value after)) (sym held)
        (at_once z f (λ value. side (is_true value) first_tasks second_tasks tasks) (IsBoolean z) free behind after value agrees_then (let (answer, is) = decides_then 0 in (answer, sym held ∙ is))))))));
  }
    where
      gives_same : (r : Ended Held) → go_on (λ value. gives value) r ≡ r
      gives_same (Gives value now) = refl
      gives_same (Stops ending now) = refl
      gives_same (Cuts now) = refl

  pub computes_answer : {X : Type 0} (known : Fact X) (free : ℕ) (action : X → Action Held) (r : Within Value) → Makes (λ v. Done z known (empty free) v.made action (IsIn v.slot)) r
      → Makes (Answers z known free action) (r then truth_of)
  computes_answer known free action r d = makes_then (λ v. Done z known (empty free) v.made action (IsIn v.slot)) (Answers z known free action) r truth_of d (λ v a. truth_answers known free action v a)

  -- a condition gives its answer as a value
  pub asks_answers : {X : Type 0} (known : Fact X) (free : ℕ) (action : X → Action Bool) (asked : Asked) → Asks z known free action asked → Answers z known free (λ x. action x >>= as_value) asked
  asks_answers known free action asked a = record {
    up = a.up;
    does = λ x f first_tasks second_tasks tasks slots now room agrees knows decides.
        along_then z f (at f (Ask (cond_code asked.cond) first_tasks second_tasks tasks) slots now.heap now.wrapped) (λ answer. side answer first_tasks second_tasks tasks) (λ value. side (is_true value) first_tasks second_tasks tasks) answered (IsBoolean z) free free slots now (omega arith) (action x now) as_value decides
        (a.does x f first_tasks second_tasks tasks slots now room agrees knows decides)
        (λ answer after behind keeps agrees_then held decides_then. at_once z f (λ value. side (is_true value) first_tasks second_tasks tasks) (IsBoolean z) free behind after (Boolean answer) agrees_then (answer, refl));
  }

  -- ---- `!`, `&&`, `||`

  opposite_side : (answer : Bool) (first_tasks second_tasks tasks : Tasks) → side answer second_tasks first_tasks tasks ≡ side (not answer) first_tasks second_tasks tasks
  opposite_side true first_tasks second_tasks tasks = refl
  opposite_side false first_tasks second_tasks tasks = refl

  opposite_asks : {X : Type 0} (known : Fact X) (free : ℕ) (action : X → Action Bool) (asked : Asked) → Asks z known free action asked
      → Asks z known free (λ x. action x >>= (λ answer. gives (not answer))) (record { cond = cond.Opposite asked.cond; free = asked.free })
  opposite_asks known free action asked a = record {
    up = a.up;
    does = λ x f first_tasks second_tasks tasks slots now room agrees knows decides.
        let begun : Decides z.tables (at f (Ask (cond_code asked.cond) second_tasks first_tasks tasks) slots now.heap now.wrapped) =
        decides_on f (Ask (code.Opposite (cond_code asked.cond)) first_tasks second_tasks tasks) (Ask (cond_code asked.cond) second_tasks first_tasks tasks) slots now (one_step z.tables _ _ refl)
        (decides_asked f (cond_code (cond.Opposite asked.cond)) (code.Opposite (cond_code asked.cond)) first_tasks second_tasks tasks slots now (cond_code-Opposite asked.cond) decides) in
        subst (λ c. Along z f (at f (Ask c first_tasks second_tasks tasks) slots now.heap now.wrapped) (λ answer. side answer first_tasks second_tasks tasks) answered free slots now ((action x >>= (λ answer. gives (not answer))) now)) (sym (cond_code-Opposite asked.cond))
        (then_on f (Ask (code.Opposite (cond_code asked.cond)) first_tasks second_tasks tasks) (Ask (cond_code asked.cond) second_tasks first_tasks tasks) (λ answer. side answer first_tasks second_tasks tasks) answered free slots now (one_step z.tables _ _ refl) ((action x >>= (λ answer. gives (not answer))) now)
        (along_then z f (at f (Ask (cond_code asked.cond) second_tasks first_tasks tasks) slots now.heap now.wrapped) (λ answer. side answer second_tasks first_tasks tasks) (λ answer. side answer first_tasks second_tasks tasks) answered answered free free slots now (omega arith) (action x now) (λ answer. gives (not answer)) begun
        (a.does x f second_tasks first_tasks tasks slots now room agrees knows begun)
        (λ answer after behind keeps agrees_then held decides_then.
        subst (λ to. Along z f (at f to behind after.heap after.wrapped) (λ answer. side answer first_tasks second_tasks tasks) answered free behind after (Gives (not answer) after)) (sym (opposite_side answer first_tasks second_tasks tasks))
        (at_once z f (λ answer. side answer first_tasks second_tasks tasks) answered free behind after (not answer) agrees_then tt))));
  }

  pub opposite_condition : {X : Type 0} (known : Fact X) (free : ℕ) (action : X → Action Bool) (r : Within Asked) → Makes (Asks z known free action) r
      → Makes (Asks z known free (λ x. action x >>= (λ answer. gives (not answer)))) (r then (λ c. Ok (record { cond = cond.Opposite c.cond; free = c.free })))
  opposite_condition known free action r d = makes_then (Asks z known free action) (Asks z known free (λ x. action x >>= (λ answer. gives (not answer)))) r (λ c. Ok (record { cond = cond.Opposite c.cond; free = c.free })) d (λ c a. opposite_asks known free action c a)

  -- `&&`: the second one is asked where the first holds
  both_asks : {X : Type 0} (known : Fact X) (free : ℕ) (first second : X → Action Bool) (c d : Asked) → Stays z free known → Asks z known free first c → Asks z known c.free second d
      → Asks z known free (λ x. first x >>= (λ answer. source.if_so answer (second x))) (record { cond = cond.Both c.cond d.cond; free = d.free })
  both_asks known free first second c d stays a b = record {
    up = let u = a.up in let v = b.up in omega (arith, u, v);
    does = λ x f first_tasks second_tasks tasks slots now room agrees knows decides.
        let later : Tasks = Ask (cond_code d.cond) first_tasks second_tasks Empty in
        let begun : Decides z.tables (at f (Ask (cond_code c.cond) later second_tasks tasks) slots now.heap now.wrapped) =
        decides_on f (Ask (code.Both (cond_code c.cond) (cond_code d.cond)) first_tasks second_tasks tasks) (Ask (cond_code c.cond) later second_tasks tasks) slots now (one_step z.tables _ _ refl)
        (decides_asked f (cond_code (cond.Both c.cond d.cond)) (code.Both (cond_code c.cond) (cond_code d.cond)) first_tasks second_tasks tasks slots now (cond_code-Both c.cond d.cond) decides) in
        subst (λ k. Along z f (at f (Ask k first_tasks second_tasks tasks) slots now.heap now.wrapped) (λ answer. side answer first_tasks second_tasks tasks) answered free slots now ((first x >>= (λ answer. source.if_so answer (second x))) now)) (sym (cond_code-Both c.cond d.cond))
        (then_on f (Ask (code.Both (cond_code c.cond) (cond_code d.cond)) first_tasks second_tasks tasks) (Ask (cond_code c.cond) later second_tasks tasks) (λ answer. side answer first_tasks second_tasks tasks) answered free slots now (one_step z.tables _ _ refl) ((first x >>= (λ answer. source.if_so answer (second x))) now)
        (along_then z f (at f (Ask (cond_code c.cond) later second_tasks tasks) slots now.heap now.wrapped) (λ answer. side answer later second_tasks tasks) (λ answer. side answer first_tasks second_tasks tasks) answered answered free c.free slots now a.up (first x now) (λ answer. source.if_so answer (second x)) begun
        (a.does x f later second_tasks tasks slots now (let v = b.up in omega (arith, v, room)) agrees knows begun)
        (λ answer after behind keeps agrees_then held decides_then. go x f first_tasks second_tasks tasks slots behind after room keeps.size agrees_then (stays x slots behind keeps knows) answer decides_then)));
  }
    where
      go : (x : _) (f : Frame) (first_tasks second_tasks tasks : Tasks) (slots behind : List Held) (after : Now) → d.free ≤ length slots → length behind ≡ length slots → Agrees z behind after.variables → known x behind → (answer : Bool)
          → Decides z.tables (at f (side answer (Ask (cond_code d.cond) first_tasks second_tasks Empty) second_tasks tasks) behind after.heap after.wrapped)
          → Along z f (at f (side answer (Ask (cond_code d.cond) first_tasks second_tasks Empty) second_tasks tasks) behind after.heap after.wrapped) (λ answer. side answer first_tasks second_tasks tasks) answered c.free behind after (source.if_so answer (second x) after)
      go x f first_tasks second_tasks tasks slots behind after room same agrees knows true decides = b.does x f first_tasks second_tasks tasks behind after (omega (arith, room, same)) agrees knows decides
      go x f first_tasks second_tasks tasks slots behind after room same agrees knows false decides = at_once z f (λ answer. side answer first_tasks second_tasks tasks) answered c.free behind after false agrees tt

  pub both_condition : {X : Type 0} (known : Fact X) (free : ℕ) (first second : X → Action Bool) → Stays z free known → (r : Within Asked) (next : ℕ → Within Asked) → Makes (Asks z known free first) r → ((c : Asked) → free ≤ c.free → Makes (Asks z known c.free second) (next c.free))
      → Makes (Asks z known free (λ x. first x >>= (λ answer. source.if_so answer (second x)))) (r then (λ c. next c.free then (λ d. Ok (record { cond = cond.Both c.cond d.cond; free = d.free }))))
  both_condition known free first second stays r next a b =
      makes_then (Asks z known free first) (Asks z known free (λ x. first x >>= (λ answer. source.if_so answer (second x)))) r _ a
      (λ c done_first. makes_then (Asks z known c.free second) (Asks z known free (λ x. first x >>= (λ answer. source.if_so answer (second x)))) (next c.free) _ (b c done_first.up)
      (λ d done_second. both_asks known free first second c d stays done_first done_second))

  -- `||`: the second one is asked where the first doesn't hold
  either_asks : {X : Type 0} (known : Fact X) (free : ℕ) (first second : X → Action Bool) (c d : Asked) → Stays z free known → Asks z known free first c → Asks z known c.free second d
      → Asks z known free (λ x. first x >>= (λ answer. source.if_not answer (second x))) (record { cond = cond.Either c.cond d.cond; free = d.free })
  either_asks known free first second c d stays a b = record {
    up = let u = a.up in let v = b.up in omega (arith, u, v);
    does = λ x f first_tasks second_tasks tasks slots now room agrees knows decides.
        let later : Tasks = Ask (cond_code d.cond) first_tasks second_tasks Empty in
        let begun : Decides z.tables (at f (Ask (cond_code c.cond) first_tasks later tasks) slots now.heap now.wrapped) =
        decides_on f (Ask (code.Either (cond_code c.cond) (cond_code d.cond)) first_tasks second_tasks tasks) (Ask (cond_code c.cond) first_tasks later tasks) slots now (one_step z.tables _ _ refl)
        (decides_asked f (cond_code (cond.Either c.cond d.cond)) (code.Either (cond_code c.cond) (cond_code d.cond)) first_tasks second_tasks tasks slots now (cond_code-Either c.cond d.cond) decides) in
        subst (λ k. Along z f (at f (Ask k first_tasks second_tasks tasks) slots now.heap now.wrapped) (λ answer. side answer first_tasks second_tasks tasks) answered free slots now ((first x >>= (λ answer. source.if_not answer (second x))) now)) (sym (cond_code-Either c.cond d.cond))
        (then_on f (Ask (code.Either (cond_code c.cond) (cond_code d.cond)) first_tasks second_tasks tasks) (Ask (cond_code c.cond) first_tasks later tasks) (λ answer. side answer first_tasks second_tasks tasks) answered free slots now (one_step z.tables _ _ refl) ((first x >>= (λ answer. source.if_not answer (second x))) now)
        (along_then z f (at f (Ask (cond_code c.cond) first_tasks later tasks) slots now.heap now.wrapped) (λ answer. side answer first_tasks later tasks) (λ answer. side answer first_tasks second_tasks tasks) answered answered free c.free slots now a.up (first x now) (λ answer. source.if_not answer (second x)) begun
        (a.does x f first_tasks later tasks slots now (let v = b.up in omega (arith, v, room)) agrees knows begun)
        (λ answer after behind keeps agrees_then held decides_then. go x f first_tasks second_tasks tasks slots behind after room keeps.size agrees_then (stays x slots behind keeps knows) answer decides_then)));
  }
    where
      go : (x : _) (f : Frame) (first_tasks second_tasks tasks : Tasks) (slots behind : List Held) (after : Now) → d.free ≤ length slots → length behind ≡ length slots → Agrees z behind after.variables → known x behind → (answer : Bool)
          → Decides z.tables (at f (side answer first_tasks (Ask (cond_code d.cond) first_tasks second_tasks Empty) tasks) behind after.heap after.wrapped)
          → Along z f (at f (side answer first_tasks (Ask (cond_code d.cond) first_tasks second_tasks Empty) tasks) behind after.heap after.wrapped) (λ answer. side answer first_tasks second_tasks tasks) answered c.free behind after (source.if_not answer (second x) after)
      go x f first_tasks second_tasks tasks slots behind after room same agrees knows true decides = at_once z f (λ answer. side answer first_tasks second_tasks tasks) answered c.free behind after true agrees tt
      go x f first_tasks second_tasks tasks slots behind after room same agrees knows false decides = b.does x f first_tasks second_tasks tasks behind after (omega (arith, room, same)) agrees knows decides

  pub either_condition : {X : Type 0} (known : Fact X) (free : ℕ) (first second : X → Action Bool) → Stays z free known → (r : Within Asked) (next : ℕ → Within Asked) → Makes (Asks z known free first) r → ((c : Asked) → free ≤ c.free → Makes (Asks z known c.free second) (next c.free))
      → Makes (Asks z known free (λ x. first x >>= (λ answer. source.if_not answer (second x)))) (r then (λ c. next c.free then (λ d. Ok (record { cond = cond.Either c.cond d.cond; free = d.free }))))
  either_condition known free first second stays r next a b =
      makes_then (Asks z known free first) (Asks z known free (λ x. first x >>= (λ answer. source.if_not answer (second x)))) r _ a
      (λ c done_first. makes_then (Asks z known c.free second) (Asks z known free (λ x. first x >>= (λ answer. source.if_not answer (second x)))) (next c.free) _ (b c done_first.up)
      (λ d done_second. either_asks known free first second c d stays done_first done_second))

  -- ---- comparisons: both sides, and a test of their slots

  compared_asks : (known : Fact (Unit {0})) (free : ℕ) (first : Action Held) (second : Action Held) (y w : Value) (rel : Rel) (ty : Type_) (left_span right_span : Span) → Stays z free known
      → Done z known (empty free) y.made (λ x. first) (IsIn y.slot) → Done z (And known (IsIn y.slot)) y.made w.made (λ p. second) (IsIn w.slot)
      → Asks z known free (λ x. first >>= (λ a. second >>= (λ b. gives (test_of ty rel a b))))
      (record { cond = cond.Compare (block w.made) (record { rel = rel; left = y.slot; right = w.slot; ty = ty; left_span = left_span; right_span = right_span }); free = w.made.free })
  compared_asks known free first second y w rel ty left_span right_span stays a b = record {
    up = let u = a.up in let v = b.up in omega (arith, u, v);
    does = λ x f first_tasks second_tasks tasks slots now room agrees knows decides.
        let test : Test = record { rel = rel; left = y.slot; right = w.slot; ty = ty; left_span = left_span; right_span = right_span } in
        let all : w.made.items ≡ (empty free).items ++ (a.items ++ b.items) = b.appended ∙ ap (λ items. items ++ b.items) a.appended in
        let is : block_code (block w.made) ≡ code_before a.items (code_before b.items End) = block_is (empty free) w.made (a.items ++ b.items) refl all ∙ code_append a.items b.items End in
        let decide : Tasks = Decide test first_tasks second_tasks tasks in
        let begun : Decides z.tables (at f (code_then (code_before a.items (code_before b.items End)) decide) slots now.heap now.wrapped) =
        decides_on f (Ask (Compare (code_before a.items (code_before b.items End)) test) first_tasks second_tasks tasks) (code_then (code_before a.items (code_before b.items End)) decide) slots now (one_step z.tables _ _ refl)
        (decides_asked f (cond_code (cond.Compare (block w.made) test)) (Compare (code_before a.items (code_before b.items End)) test) first_tasks second_tasks tasks slots now (cond_code-Compare (block w.made) test ∙ ap (λ c. Compare c test) is) decides) in
        subst (λ k. Along z f (at f (Ask k first_tasks second_tasks tasks) slots now.heap now.wrapped) (λ answer. side answer first_tasks second_tasks tasks) answered free slots now ((first >>= (λ a. second >>= (λ b. gives (test_of ty rel a b)))) now)) (sym (cond_code-Compare (block w.made) test ∙ ap (λ c. Compare c test) is))
        (then_on f (Ask (Compare (code_before a.items (code_before b.items End)) test) first_tasks second_tasks tasks) (code_then (code_before a.items (code_before b.items End)) decide) (λ answer. side answer first_tasks second_tasks tasks) answered free slots now (one_step z.tables _ _ refl) ((first >>= (λ a. second >>= (λ b. gives (test_of ty rel a b)))) now)
        (along_then z f (at f (code_then (code_before a.items (code_before b.items End)) decide) slots now.heap now.wrapped) (λ value. code_then (code_before b.items End) decide) (λ answer. side answer first_tasks second_tasks tasks) (IsIn y.slot) answered free y.made.free slots now a.up (first now) (λ a. second >>= (λ b. gives (test_of ty rel a b))) begun
        (a.does x f (code_before b.items End) decide slots now (let v = b.up in omega (arith, v, room)) agrees knows begun)
        (λ u after behind keeps agrees_then held decides_then.
        along_then z f (at f (code_then (code_before b.items End) decide) behind after.heap after.wrapped) (λ value. decide) (λ answer. side answer first_tasks second_tasks tasks) (IsIn w.slot) answered y.made.free w.made.free behind after b.up (second after) (λ b. gives (test_of ty rel u b)) decides_then
        (b.does (x, u) f End decide behind after (let same = keeps.size in omega (arith, room, same)) agrees_then (stays x slots behind keeps knows, held) decides_then)
        (λ v last end keeps_more agrees_last held_more decides_last.
        let left_is : value_at end y.slot ≡ u = a.stays u behind end keeps_more held in
        then_on f decide (side (test_of ty rel (value_at end y.slot) (value_at end w.slot)) first_tasks second_tasks tasks) (λ answer. side answer first_tasks second_tasks tasks) answered w.made.free end last (one_step z.tables _ _ refl) (Gives (test_of ty rel u v) last)
        (subst (λ held. Along z f (at f (side (test_of ty rel held (value_at end w.slot)) first_tasks second_tasks tasks) end last.heap last.wrapped) (λ answer. side answer first_tasks second_tasks tasks) answered w.made.free end last (Gives (test_of ty rel u v) last)) (sym left_is)
        (subst (λ held. Along z f (at f (side (test_of ty rel u held) first_tasks second_tasks tasks) end last.heap last.wrapped) (λ answer. side answer first_tasks second_tasks tasks) answered w.made.free end last (Gives (test_of ty rel u v) last)) (sym held_more)
        (at_once z f (λ answer. side answer first_tasks second_tasks tasks) answered w.made.free end last (test_of ty rel u v) agrees_last tt)))))));
  }

  -- ---- in value position a condition writes true or false

  module _ (set : IsSet z) where
    truth_given : (free : ℕ) (f : Frame) (rest : Code) (tasks : Tasks) (span : Span) (slots : List Held) (now : Now) → z.base ≤ free → free < length slots → Agrees z slots now.variables → (answer : Bool)
        → Along z f (at f (side answer (Run (code.Do (record { kind = op.Const free (literal.Bool true); span = span; parts = [] }) End) Empty) (Run (code.Do (record { kind = op.Const free (literal.Bool false); span = span; parts = [] }) End) Empty) (code_then rest tasks)) slots now.heap now.wrapped)
        (λ (value : Held). code_then rest tasks) (IsIn free) free slots now (Gives (Boolean answer) now)
    truth_given free f rest tasks span slots now le room agrees true = gave z set f (op.Const free (literal.Bool true)) span [] End (code_then rest tasks) slots now now free (Boolean true) le room agrees refl refl refl (sym (append-nil now.events))
    truth_given free f rest tasks span slots now le room agrees false = gave z set f (op.Const free (literal.Bool false)) span [] End (code_then rest tasks) slots now now free (Boolean false) le room agrees refl refl refl (sym (append-nil now.events))

    truth_made : {X : Type 0} (known : Fact X) (made : Made) (action : X → Action Bool) (span : Span) (asked : Asked) → z.base ≤ made.free → Asks z known made.free action asked → (b : Bool)
        → Makes (λ (v : Value). Done z known made v.made (λ x. action x >>= as_value) (IsIn v.slot)) (if b then Ok (record { made = record { items = made.items ++ truth_item asked.cond asked.free span ∷ []; free = asked.free + 1 }; slot = asked.free }) else Err which.Slots)
    truth_made known made action span asked le a true = record {
      items = truth_item asked.cond asked.free span ∷ [];
      appended = refl;
      up = let u = a.up in omega (arith, u);
      stays = slot_stays z asked.free (asked.free + 1) (omega arith) (set.temporaries asked.free (let u = a.up in omega (arith, le, u)));
      does = λ x f rest tasks slots now room agrees knows decides.
          let one = done (op.Const asked.free (literal.Bool true)) span [] in
          let two = done (op.Const asked.free (literal.Bool false)) span [] in
          let first : Block = record { items = one ∷ [] } in
          let second : Block = record { items = two ∷ [] } in
          let is : item_code (truth_item asked.cond asked.free span) rest ≡ If (cond_code asked.cond) (block_code first) (block_code second) rest = item_code-If asked.cond first second rest in
          let begun : Decides z.tables (at f (Ask (cond_code asked.cond) (code_then (block_code first) Empty) (code_then (block_code second) Empty) (code_then rest tasks)) slots now.heap now.wrapped) =
          decides_on f (code_then (If (cond_code asked.cond) (block_code first) (block_code second) rest) tasks) (Ask (cond_code asked.cond) (code_then (block_code first) Empty) (code_then (block_code second) Empty) (code_then rest tasks)) slots now (one_step z.tables _ _ refl)
          (subst (λ code. Decides z.tables (at f (code_then code tasks) slots now.heap now.wrapped)) is decides) in
          subst (λ code. Along z f (at f (code_then code tasks) slots now.heap now.wrapped) (λ value. code_then rest tasks) (IsIn asked.free) made.free slots now ((action x >>= as_value) now)) (sym is)
          (then_on f (code_then (If (cond_code asked.cond) (block_code first) (block_code second) rest) tasks) (Ask (cond_code asked.cond) (code_then (block_code first) Empty) (code_then (block_code second) Empty) (code_then rest tasks)) (λ value. code_then rest tasks) (IsIn asked.free) made.free slots now (one_step z.tables _ _ refl) ((action x >>= as_value) now)
          (along_then z f (at f (Ask (cond_code asked.cond) (code_then (block_code first) Empty) (code_then (block_code second) Empty) (code_then rest tasks)) slots now.heap now.wrapped) (λ answer. side answer (code_then (block_code first) Empty) (code_then (block_code second) Empty) (code_then rest tasks)) (λ value. code_then rest tasks) answered (IsIn asked.free) made.free asked.free slots now a.up (action x now) as_value begun
          (a.does x f (code_then (block_code first) Empty) (code_then (block_code second) Empty) (code_then rest tasks) slots now (omega (arith, room)) agrees knows begun)
          (λ answer after behind keeps agrees_then held decides_then. truth_given asked.free f rest tasks span behind after (let u = a.up in omega (arith, le, u)) (let same = keeps.size in omega (arith, room, same)) agrees_then answer)));
    }
    truth_made known made action span asked le a false = tt

    pub asks_value : {X : Type 0} (known : Fact X) (made : Made) (action : X → Action Bool) (span : Span) → z.base ≤ made.free → (r : Within Asked) → Makes (Asks z known made.free action) r
        → Makes (λ (v : Value). Done z known made v.made (λ x. action x >>= as_value) (IsIn v.slot)) (r then truth_value made.items span)
    asks_value known made action span le r d = makes_then (Asks z known made.free action) (λ (v : Value). Done z known made v.made (λ x. action x >>= as_value) (IsIn v.slot)) r (truth_value made.items span) d
        (λ asked a. truth_made known made action span asked le a (nat_lt asked.free most_slots))

  pub compared_condition : (members : Members) (calls : Calls) (turns : ℕ) (rel : Rel) (left right : Lowering) (l r : Evaluation) → left.span ≡ l.span → Kept z members calls turns left l → Kept z members calls turns right r → (free : ℕ) → z.base ≤ free
      → Makes (Asks z nothing_known free (λ x. source.compared rel l r (context z members calls turns))) (values.compared rel left right z.scope free)
  compared_condition members calls turns rel left right l r same a b free le =
      subst (λ (at_left : Span). Makes (Asks z nothing_known free (λ x. l.value (context z members calls turns) >>= (λ p. r.value (context z members calls turns) >>= (λ q. gives (test_of (type_at z.scope at_left) rel p q))))) (values.compared rel left right z.scope free)) same
      (makes_then (λ y. Done z nothing_known (empty free) y.made (λ x. l.value (context z members calls turns)) (IsIn y.slot)) (Asks z nothing_known free (λ x. l.value (context z members calls turns) >>= (λ p. r.value (context z members calls turns) >>= (λ q. gives (test_of (type_at z.scope left.span) rel p q))))) (left.value z.scope (empty free)) _ (a.value (empty free) le)
      (λ y first. makes_then (λ w. Done z nothing_known y.made w.made (λ x. r.value (context z members calls turns)) (IsIn w.slot)) (Asks z nothing_known free (λ x. l.value (context z members calls turns) >>= (λ p. r.value (context z members calls turns) >>= (λ q. gives (test_of (type_at z.scope left.span) rel p q))))) (right.value z.scope y.made) _ (b.value y.made (let u = first.up in omega (arith, le, u)))
      (λ w second. compared_asks nothing_known free (l.value (context z members calls turns)) (r.value (context z members calls turns)) y w rel (type_at z.scope left.span) left.span right.span (λ x slots behind keeps known. tt) first
      (whatever z (And nothing_known (IsIn y.slot)) y.made w.made (r.value (context z members calls turns)) (IsIn w.slot) second))))
