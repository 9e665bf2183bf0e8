-- A frame's moves that do no operation lead from tasks without errors to tasks without errors.
use Rattle.std.specs.Prelude.{ℕ, Bool, true, false, if◌then◌else◌, Option, None, Some}
use Rattle.std.proofs.Common.{sym, subst}
use Rattle.ix_core.specs.declared.op.Op.{Op}
use Rattle.ix_core.specs.Code.{Code, End, Do, If, Break, Continue, Return, Throw, Loop, Condition, Known, Compare, Truth, Both, Either, Opposite}
use Rattle.ix_core.specs.Machine.{step_condition}
use Rattle.ix_core.specs.Tasks.{Tasks, Empty, Ask, Decide, DecideTruth, Head, Again, Out, code_then, followed_by, behind_loop, next_turn}
use Rattle.ix_core.proofs.TypedTasks.{behind_code, turn_code, followed_code}
use Rattle.ix_core.specs.Posts.{last_done}
use Rattle.ix_flow.specs.Flow.{Point, Rules, Flows, Asks}
use Rattle.ix_soundness.specs.Chain.{Each, EachAsked, Same, Weaker, Rounding, Turns, Flowing, Running, Asking, Comparing, Telling, Turning, Returning, Leaving, Passing, Forgetting}

module _ (R : Rules) (Fine : Point → R.Store → Type 0) (labels : ℕ → R.Store) (Okay : Op → Type 0) where
  -- the tasks at the three ways out of a block
  pub record Ways (last : Option Op) (tasks : Tasks) (end breaks continues : R.Store) : Type 0 where
    pub ends : Flowing R Fine labels Okay last tasks end
    pub jumps : Flowing R Fine labels Okay None (behind_loop tasks) breaks
    pub turns : Flowing R Fine labels Okay None (next_turn tasks) continues

  -- what has no error where no operation is known has none behind any
  forgotten : (last : Option Op) (tasks : Tasks) (end breaks continues : R.Store) → Ways None tasks end breaks continues → Ways last tasks end breaks continues
  forgotten last tasks end breaks continues ways = record { ends = Forgetting last tasks end ways.ends; jumps = ways.jumps; turns = ways.turns }

  -- a block, and then tasks
  pub code_flowing : (last : Option Op) (code : Code) (tasks : Tasks) (s end breaks continues : R.Store) → Flows R Fine labels last code s end breaks continues → Each Okay code → Ways (last_done last code) tasks end breaks continues
      → Flowing R Fine labels Okay last (code_then code tasks) s
  code_flowing last End tasks s end breaks continues flows okay ways = Passing last tasks s end (Weaker s end flows) ways.ends
  code_flowing last (Do done rest) tasks s end breaks continues flows okay ways = Running last (Do done rest) tasks s end breaks continues flows okay ways.ends ways.jumps ways.turns
  code_flowing last (If asked first second rest) tasks s end breaks continues flows okay ways = Running last (If asked first second rest) tasks s end breaks continues flows okay ways.ends ways.jumps ways.turns
  code_flowing last (Break rest) tasks s end breaks continues flows okay ways = Running last (Break rest) tasks s end breaks continues flows okay ways.ends ways.jumps ways.turns
  code_flowing last (Continue rest) tasks s end breaks continues flows okay ways = Running last (Continue rest) tasks s end breaks continues flows okay ways.ends ways.jumps ways.turns
  code_flowing last (Return value span rest) tasks s end breaks continues flows okay ways = Running last (Return value span rest) tasks s end breaks continues flows okay ways.ends ways.jumps ways.turns
  code_flowing last (Throw name span rest) tasks s end breaks continues flows okay ways = Running last (Throw name span rest) tasks s end breaks continues flows okay ways.ends ways.jumps ways.turns
  code_flowing last (Loop test_first asked body next number scope rest) tasks s end breaks continues flows okay ways =
      Running last (Loop test_first asked body next number scope rest) tasks s end breaks continues flows okay ways.ends ways.jumps ways.turns

  rest_ways : (code : Code) (tasks : Tasks) (s end breaks continues : R.Store) → Flows R Fine labels None code s end breaks continues → Each Okay code → Ways (last_done None code) tasks end breaks continues → Ways None (code_then code tasks) s breaks continues
  rest_ways code tasks s end breaks continues flows okay ways = record {
    ends = code_flowing None code tasks s end breaks continues flows okay ways;
    jumps = subst (λ t. Flowing R Fine labels Okay None t breaks) (sym (behind_code code tasks)) ways.jumps;
    turns = subst (λ t. Flowing R Fine labels Okay None t continues) (sym (turn_code code tasks)) ways.turns;
  }

  -- ---- choices

  branch : (code : Code) (tasks : Tasks) (s end breaks continues : R.Store) → Flows R Fine labels None code s end breaks continues → Each Okay code → Ways None tasks end breaks continues
      → Flowing R Fine labels Okay None (followed_by (code_then code Empty) tasks) s
  branch code tasks s end breaks continues flows okay ways =
      subst (λ t. Flowing R Fine labels Okay None t s) (sym (followed_code code Empty tasks)) (code_flowing None code tasks s end breaks continues flows okay (forgotten (last_done None code) tasks end breaks continues ways))

  pub if_flowing : (last : Option Op) (asked : Condition) (first second rest : Code) (tasks : Tasks) (s end breaks continues : R.Store) → Flows R Fine labels last (If asked first second rest) s end breaks continues → Each Okay (If asked first second rest)
      → Ways (last_done None rest) tasks end breaks continues → Flowing R Fine labels Okay last (Ask asked (code_then first Empty) (code_then second Empty) (code_then rest tasks)) s
  if_flowing last asked first second rest tasks s end breaks continues (h, f, j, asks, one, two, three) okay ways =
      let more = rest_ways rest tasks j end breaks continues three okay.3 ways in
      Asking last asked (code_then first Empty) (code_then second Empty) (code_then rest tasks) s h f breaks continues asks okay.0
      (branch first (code_then rest tasks) h j breaks continues one okay.1 more) (branch second (code_then rest tasks) f j breaks continues two okay.2 more) more.jumps more.turns

  -- what a slot tells is told by the condition's own code
  telling : (last : Option Op) (code : Code) (slot : ℕ) (first second tasks : Tasks) (s holds fails : R.Store) → R.Told true (last_done None code) slot s holds → R.Told false (last_done None code) slot s fails
      → Flowing R Fine labels Okay None (followed_by first tasks) holds → Flowing R Fine labels Okay None (followed_by second tasks) fails → Flowing R Fine labels Okay (last_done last code) (DecideTruth slot first second tasks) s
  telling last End slot first second tasks s holds fails so not one other = Forgetting last (DecideTruth slot first second tasks) s (Telling None slot first second tasks s holds fails so not one other)
  telling last (Do done rest) slot first second tasks s holds fails so not one other = Telling (last_done (Some done) rest) slot first second tasks s holds fails so not one other
  telling last (If asked this that rest) slot first second tasks s holds fails so not one other = Telling (last_done None rest) slot first second tasks s holds fails so not one other
  telling last (Break rest) slot first second tasks s holds fails so not one other = Telling (last_done None rest) slot first second tasks s holds fails so not one other
  telling last (Continue rest) slot first second tasks s holds fails so not one other = Telling (last_done None rest) slot first second tasks s holds fails so not one other
  telling last (Return value span rest) slot first second tasks s holds fails so not one other = Telling (last_done None rest) slot first second tasks s holds fails so not one other
  telling last (Throw name span rest) slot first second tasks s holds fails so not one other = Telling (last_done None rest) slot first second tasks s holds fails so not one other
  telling last (Loop test_first asked body next number scope rest) slot first second tasks s holds fails so not one other = Telling (last_done None rest) slot first second tasks s holds fails so not one other

  pub condition_flowing : (last : Option Op) (asked : Condition) (first second tasks : Tasks) (s holds fails breaks continues : R.Store) → Asks R Fine labels last asked s holds fails breaks continues → EachAsked Okay asked
      → Flowing R Fine labels Okay None (followed_by first tasks) holds → Flowing R Fine labels Okay None (followed_by second tasks) fails → Flowing R Fine labels Okay None (behind_loop tasks) breaks
      → Flowing R Fine labels Okay None (next_turn tasks) continues → Flowing R Fine labels Okay last (step_condition asked first second tasks) s
  condition_flowing last (Known true) first second tasks s holds fails breaks continues asks okay one_way other_way out turn = Passing last (followed_by first tasks) s holds (Weaker s holds asks) (Forgetting last (followed_by first tasks) holds one_way)
  condition_flowing last (Known false) first second tasks s holds fails breaks continues asks okay one_way other_way out turn = Passing last (followed_by second tasks) s fails (Weaker s fails asks) (Forgetting last (followed_by second tasks) fails other_way)
  condition_flowing last (Compare code test) first second tasks s holds fails breaks continues (u, flows, one, two) okay one_way other_way out turn =
      code_flowing last code (Decide test first second tasks) s u breaks continues flows okay (record { ends = Comparing (last_done last code) test first second tasks u holds fails one two one_way other_way; jumps = out; turns = turn })
  condition_flowing last (Truth code slot) first second tasks s holds fails breaks continues (u, flows, one, two) okay one_way other_way out turn =
      code_flowing last code (DecideTruth slot first second tasks) s u breaks continues flows okay (record { ends = telling last code slot first second tasks u holds fails one two one_way other_way; jumps = out; turns = turn })
  condition_flowing last (Both asked later) first second tasks s holds fails breaks continues (u, asks, rest) okay one_way other_way out turn =
      Asking last asked (Ask later first second Empty) second tasks s u fails breaks continues asks okay.0 (Asking None later first second tasks u holds fails breaks continues rest okay.1 one_way other_way out turn) other_way out turn
  condition_flowing last (Either asked later) first second tasks s holds fails breaks continues (u, asks, rest) okay one_way other_way out turn =
      Asking last asked first (Ask later first second Empty) tasks s holds u breaks continues asks okay.0 one_way (Asking None later first second tasks u holds fails breaks continues rest okay.1 one_way other_way out turn) out turn
  condition_flowing last (Opposite asked) first second tasks s holds fails breaks continues asks okay one_way other_way out turn =
      Asking last asked second first tasks s fails holds breaks continues asks okay other_way one_way out turn

  -- ---- loops

  module _ (asked : Condition) (body next : Code) (tasks : Tasks) (head start again out continues : R.Store) (turns : Turns R Fine labels Okay asked body next head start again out continues)
      (rest : Flowing R Fine labels Okay None tasks out) (behind : Flowing R Fine labels Okay None (behind_loop tasks) out) (turn : Flowing R Fine labels Okay None (next_turn tasks) continues) where
    body_ways : (last : Option Op) → Ways last (Again asked body next tasks) again out again
    body_ways last = record {
      ends = Returning last asked body next tasks head start again out continues turns rest behind turn;
      jumps = behind;
      turns = Returning None asked body next tasks head start again out continues turns rest behind turn;
    }

    -- at the body's start
    pub body_flowing : Flowing R Fine labels Okay None (code_then body (Again asked body next tasks)) start
    body_flowing = code_flowing None body (Again asked body next tasks) start again out again turns.turn turns.okay_body (body_ways (last_done None body))

    pub head_flowing : Flowing R Fine labels Okay None (Ask asked (code_then body (Again asked body next Empty)) Empty tasks) head
    head_flowing =
        Asking None asked (code_then body (Again asked body next Empty)) Empty tasks head turns.holds out out continues turns.asks turns.okay_asked
        (subst (λ t. Flowing R Fine labels Okay None t turns.holds) (sym (followed_code body (Again asked body next Empty) tasks)) (Passing None (code_then body (Again asked body next tasks)) turns.holds start turns.enters body_flowing))
        rest behind turn

    pub again_flowing : Flowing R Fine labels Okay None (code_then next (Head asked body next tasks)) again
    again_flowing =
        code_flowing None next (Head asked body next tasks) again turns.back out continues turns.part turns.okay_next
        (record { ends = Passing (last_done None next) (Head asked body next tasks) turns.back head turns.returns (Turning (last_done None next) asked body next tasks head start again out continues turns rest behind turn); jumps = behind; turns = turn })

  abbrev loop_tasks : Bool → Condition → Code → Code → Tasks → Tasks
  loop_tasks test_first asked body next behind = if test_first then Head asked body next (Out behind) else code_then body (Again asked body next (Out behind))

  pub loop_flowing : (last : Option Op) (test_first : Bool) (asked : Condition) (body next : Code) (number scope : ℕ) (rest : Code) (tasks : Tasks) (s end breaks continues : R.Store)
      → Flows R Fine labels last (Loop test_first asked body next number scope rest) s end breaks continues → Each Okay (Loop test_first asked body next number scope rest) → Ways (last_done None rest) tasks end breaks continues
      → Flowing R Fine labels Okay None (loop_tasks test_first asked body next (code_then rest tasks)) s
  loop_flowing last true asked body next number scope rest tasks s end breaks continues (turn, again, back, out, (joined, entry, way, mark), asks, one, two, three) okay ways =
      let more = rest_ways rest tasks out end breaks continues three okay.3 ways in
      Passing None (Head asked body next (Out (code_then rest tasks))) s (labels number) (Rounding scope s joined (labels number) entry mark)
      (Turning None asked body next (Out (code_then rest tasks)) (labels number) turn again out continues
      (record { holds = turn; asks = asks; enters = Same turn; turn = one; back = back; part = two; returns = Rounding scope back joined (labels number) way mark; okay_asked = okay.0; okay_body = okay.1; okay_next = okay.2 })
      (Leaving None (code_then rest tasks) out more.ends) more.ends more.turns)
  loop_flowing last false asked body next number scope rest tasks s end breaks continues (again, tested, back, out, (joined, entry, way, mark), one, two, asks, three) okay ways =
      let more = rest_ways rest tasks out end breaks continues three okay.3 ways in
      Passing None (code_then body (Again asked body next (Out (code_then rest tasks)))) s (labels number) (Rounding scope s joined (labels number) entry mark)
      (body_flowing asked body next (Out (code_then rest tasks)) tested (labels number) again out continues
      (record { holds = back; asks = asks; enters = Rounding scope back joined (labels number) way mark; turn = one; back = tested; part = two; returns = Same tested; okay_asked = okay.0; okay_body = okay.1; okay_next = okay.2 })
      (Leaving None (code_then rest tasks) out more.ends) more.ends more.turns)
