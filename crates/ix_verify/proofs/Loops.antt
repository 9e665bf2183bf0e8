-- What is so of each loop of a formed body, by its number.
use Rattle.std.specs.Prelude.{◌≡◌, ℕ, ◌<◌, true, ◌&&◌, List, [], ◌∷◌, ◌++◌, length}
use Rattle.std.specs.List.{AllByRecursion}
use Rattle.std.proofs.lemmas.Bool.{and_parts, false≢true}
use Rattle.ix_core.specs.Code.{Code, End, Do, If, Break, Continue, Return, Throw, Loop, Condition, Known, Compare, Truth, Both, Either, Opposite}
use Rattle.ix_core.specs.Formed.{loop_numbers, is_straight, is_straight_condition}
use Rattle.ix_cert.proofs.FormedLoops.{LoopsInBlocks, HasFormedLoops}

-- of each loop of the code, in conditions too
abbrev mutual
  pub EachLoop : (ℕ → Type 0) → Code → Type 0
  EachLoop Is End = Unit {0}
  EachLoop Is (Do done rest) = EachLoop Is rest
  EachLoop Is (If asked first second rest) = EachLoopOf Is asked × EachLoop Is first × EachLoop Is second × EachLoop Is rest
  EachLoop Is (Break rest) = EachLoop Is rest
  EachLoop Is (Continue rest) = EachLoop Is rest
  EachLoop Is (Return value span rest) = EachLoop Is rest
  EachLoop Is (Throw name span rest) = EachLoop Is rest
  EachLoop Is (Loop test_first asked body next number scope rest) = Is number × EachLoopOf Is asked × EachLoop Is body × EachLoop Is next × EachLoop Is rest

  pub EachLoopOf : (ℕ → Type 0) → Condition → Type 0
  EachLoopOf Is (Known answer) = Unit {0}
  EachLoopOf Is (Compare code test) = EachLoop Is code
  EachLoopOf Is (Truth code slot) = EachLoop Is code
  EachLoopOf Is (Both first second) = EachLoopOf Is first × EachLoopOf Is second
  EachLoopOf Is (Either first second) = EachLoopOf Is first × EachLoopOf Is second
  EachLoopOf Is (Opposite asked) = EachLoopOf Is asked

module _ (Is : ℕ → Type 0) where
  all_first : (first second : List ℕ) → AllByRecursion Is (first ++ second) → AllByRecursion Is first × AllByRecursion Is second
  all_first [] second all = (tt, all)
  all_first (number ∷ first) second all =
      let rest = all_first first second all.1 in
      ((all.0, rest.0), rest.1)

  mutual
    straight_each : (code : Code) → is_straight code ≡ true → EachLoop Is code
    straight_each End is = tt
    straight_each (Do done code) is = straight_each code is
    straight_each (If asked one two code) is =
        let a = and_parts (is_straight_condition asked) (is_straight one && (is_straight two && is_straight code)) is in
        let b = and_parts (is_straight one) (is_straight two && is_straight code) a.1 in
        let c = and_parts (is_straight two) (is_straight code) b.1 in
        (asked_each asked a.0, straight_each one b.0, straight_each two c.0, straight_each code c.1)
    straight_each (Break code) is = absurd (false≢true is)
    straight_each (Continue code) is = absurd (false≢true is)
    straight_each (Return value span code) is = absurd (false≢true is)
    straight_each (Throw name span code) is = absurd (false≢true is)
    straight_each (Loop test_first asked body next number scope code) is = absurd (false≢true is)

    asked_each : (asked : Condition) → is_straight_condition asked ≡ true → EachLoopOf Is asked
    asked_each (Known answer) is = tt
    asked_each (Compare code test) is = straight_each code is
    asked_each (Truth code slot) is = straight_each code is
    asked_each (Both asked later) is =
        let a = and_parts (is_straight_condition asked) (is_straight_condition later) is in
        (asked_each asked a.0, asked_each later a.1)
    asked_each (Either asked later) is =
        let a = and_parts (is_straight_condition asked) (is_straight_condition later) is in
        (asked_each asked a.0, asked_each later a.1)
    asked_each (Opposite asked) is = asked_each asked is

  blocks_each : (code : Code) → LoopsInBlocks code → AllByRecursion Is (loop_numbers code) → EachLoop Is code
  blocks_each End own all = tt
  blocks_each (Do done code) own all = blocks_each code own all
  blocks_each (If asked one two code) own all =
      let a = all_first (loop_numbers one) (loop_numbers two ++ loop_numbers code) all in
      let b = all_first (loop_numbers two) (loop_numbers code) a.1 in
      (asked_each asked own.0, blocks_each one own.1 a.0, blocks_each two own.2 b.0, blocks_each code own.3 b.1)
  blocks_each (Break code) own all = blocks_each code own all
  blocks_each (Continue code) own all = blocks_each code own all
  blocks_each (Return value span code) own all = blocks_each code own all
  blocks_each (Throw name span code) own all = blocks_each code own all
  blocks_each (Loop test_first asked body next number scope code) own all =
      let a = all_first (loop_numbers body) (loop_numbers code) all.1 in
      (all.0, asked_each asked own.0, blocks_each body own.2 a.0, straight_each next own.1, blocks_each code own.3 a.1)

  all_of : (most : ℕ) (numbers : List ℕ) → AllByRecursion (λ number. number < most) numbers → ((number : ℕ) → number < most → Is number) → AllByRecursion Is numbers
  all_of most [] below each = tt
  all_of most (number ∷ numbers) below each = (each number below.0, all_of most numbers below.1 each)

  -- what is so of all numbers below the count is so of each loop
  pub each_loop : (body : Code) → HasFormedLoops body → ((number : ℕ) → number < length (loop_numbers body) → Is number) → EachLoop Is body
  each_loop body formed each = blocks_each body formed.blocks (all_of (length (loop_numbers body)) (loop_numbers body) formed.below each)
