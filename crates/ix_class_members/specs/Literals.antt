-- An expression as a literal.
use Rattle.std.specs.Prelude.{ℤ, Option}
use Rattle.ix_tree.specs.declared.expr.Expr.{Expr, fold-Expr}
use Rattle.ix_meaning.specs.Members.{Literal, literal_step, literal_init_step}

abbrev pub literal_of : Expr → Literal
literal_of = fold-Expr Literal (Option ℤ) Literal literal_step literal_init_step (λ e. e.kind)
