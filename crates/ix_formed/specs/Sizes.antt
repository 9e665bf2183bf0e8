-- How many operations a body has, and how many other items and conditions.
use Rattle.std.specs.Prelude.{ℕ, ◌+◌, List, [], ◌∷◌}
use Rattle.ix_core.specs.declared.code.Item.{Item}
use Rattle.ix_core.specs.Code.{Code, End, Do, If, Break, Continue, Return, Throw, Loop, Condition, Known, Compare, Truth, Both, Either, Opposite, item_code}

abbrev mutual
  pub code_operations : Code → ℕ
  code_operations End = 0
  code_operations (Do done rest) = 1 + code_operations rest
  code_operations (If asked first second rest) = condition_operations asked + (code_operations first + (code_operations second + code_operations rest))
  code_operations (Break rest) = code_operations rest
  code_operations (Continue rest) = code_operations rest
  code_operations (Return value span rest) = code_operations rest
  code_operations (Throw name span rest) = code_operations rest
  code_operations (Loop test_first asked body next number scope rest) = condition_operations asked + (code_operations body + (code_operations next + code_operations rest))

  pub condition_operations : Condition → ℕ
  condition_operations (Known answer) = 0
  condition_operations (Compare code test) = code_operations code
  condition_operations (Truth code slot) = code_operations code
  condition_operations (Both asked later) = condition_operations asked + condition_operations later
  condition_operations (Either asked later) = condition_operations asked + condition_operations later
  condition_operations (Opposite asked) = condition_operations asked

abbrev mutual
  -- items that are no operations, and conditions
  pub code_forms : Code → ℕ
  code_forms End = 0
  code_forms (Do done rest) = code_forms rest
  code_forms (If asked first second rest) = 1 + (condition_forms asked + (code_forms first + (code_forms second + code_forms rest)))
  code_forms (Break rest) = 1 + code_forms rest
  code_forms (Continue rest) = 1 + code_forms rest
  code_forms (Return value span rest) = 1 + code_forms rest
  code_forms (Throw name span rest) = 1 + code_forms rest
  code_forms (Loop test_first asked body next number scope rest) = 1 + (condition_forms asked + (code_forms body + (code_forms next + code_forms rest)))

  pub condition_forms : Condition → ℕ
  condition_forms (Known answer) = 1
  condition_forms (Compare code test) = 1 + code_forms code
  condition_forms (Truth code slot) = 1 + code_forms code
  condition_forms (Both asked later) = 1 + (condition_forms asked + condition_forms later)
  condition_forms (Either asked later) = 1 + (condition_forms asked + condition_forms later)
  condition_forms (Opposite asked) = 1 + condition_forms asked

-- those of items
abbrev pub item_forms : List Item → ℕ
item_forms [] = 0
item_forms (first ∷ rest) = code_forms (item_code first End) + item_forms rest
