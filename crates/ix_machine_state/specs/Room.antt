-- How many open places a frame has at most while it runs code, and how many values a call in the code passes at most.
use Rattle.std.specs.Prelude.{ℕ, ◌+◌, max, min, length}
use Rattle.ix_core.specs.declared.op.OpKind.{OpKind}
use Rattle.ix_core.specs.declared.op.OpKind.TheVariants as op
use Rattle.ix_core.specs.Code.{Code, End, Do, If, Break, Continue, Return, Throw, Loop, Condition, Known, Compare, Truth, Both, Either, Opposite}

-- A block has one place. Above it there may be that of a choice with its condition, or that of a loop's end with the loop's turn; above a turn there is its
-- condition, its body or the part before the next turn.
abbrev mutual
  -- how many places there may be above that of the code
  pub code_above : Code → ℕ
  code_above End = 0
  code_above (Do done rest) = code_above rest
  code_above (If asked first second rest) = max (max (2 + condition_above asked) (1 + max (code_above first) (code_above second))) (code_above rest)
  code_above (Break rest) = code_above rest
  code_above (Continue rest) = code_above rest
  code_above (Return value span rest) = code_above rest
  code_above (Throw name span rest) = code_above rest
  code_above (Loop test_first asked body next number scope rest) = max (3 + max (condition_above asked) (max (code_above body) (code_above next))) (code_above rest)

  -- how many places there may be above that of a condition that is asked
  pub condition_above : Condition → ℕ
  condition_above (Known answer) = 0
  condition_above (Compare code test) = 1 + code_above code
  condition_above (Truth code slot) = 1 + code_above code
  condition_above (Both asked later) = max (1 + condition_above asked) (condition_above later)
  condition_above (Either asked later) = max (1 + condition_above asked) (condition_above later)
  condition_above (Opposite asked) = 1 + condition_above asked

-- the arguments of a call, and the object that it is of
abbrev pub op_values : OpKind → ℕ
op_values (op.NewObject call) = length call.args + 1
op_values (op.StaticCall call) = length call.args + 1
op_values (op.InstanceCall call) = length call.args + 1
op_values (op.SuperCall call) = length call.args + 1
op_values _ = 0

abbrev mutual
  -- how many values a call in the code passes at most
  pub code_values : Code → ℕ
  code_values End = 0
  code_values (Do done rest) = max (op_values done.kind) (code_values rest)
  code_values (If asked first second rest) = max (max (condition_values asked) (max (code_values first) (code_values second))) (code_values rest)
  code_values (Break rest) = code_values rest
  code_values (Continue rest) = code_values rest
  code_values (Return value span rest) = code_values rest
  code_values (Throw name span rest) = code_values rest
  code_values (Loop test_first asked body next number scope rest) = max (max (condition_values asked) (max (code_values body) (code_values next))) (code_values rest)

  pub condition_values : Condition → ℕ
  condition_values (Known answer) = 0
  condition_values (Compare code test) = code_values code
  condition_values (Truth code slot) = code_values code
  condition_values (Both asked later) = max (condition_values asked) (condition_values later)
  condition_values (Either asked later) = max (condition_values asked) (condition_values later)
  condition_values (Opposite asked) = condition_values asked

-- a number as far as it can be counted
abbrev pub counted : ℕ → ℕ
counted number = min number 18446744073709551615
