-- More digits make no smaller number.
use Rattle.std.proofs.Common.{ℕ, ◌+◌, ◌*◌, ◌≤◌, [], ◌∷◌, arith}
use Rattle.std.specs.Char.{digit_value}
use Rattle.ix_lexer.specs.Characters.{Text}
use Rattle.ix_annot.specs.Texts.{value_behind}

pub value_grows : (before : ℕ) (text : Text) → before ≤ value_behind before text
value_grows before [] = omega arith
value_grows before (c ∷ cs) = omega (arith, value_grows (before * 10 + digit_value c) cs)
