-- Which operators compare by equality.
use Rattle.std.specs.Prelude.{Bool, false}
use Rattle.ix_tree.specs.declared.expr.BinaryOp.{BinaryOp}
use Rattle.ix_tree.specs.declared.expr.BinaryOp.TheVariants.{Compare}
use Rattle.ix_meaning.specs.Values.{is_equality}

abbrev pub equates : BinaryOp → Bool
equates (Compare rel) = is_equality rel
equates _ = false
