use Rattle.std.proofs.Common.{◌≡◌, ◌∙◌}
use Rattle.std.specs.Int.{w32}
use Rattle.std.proofs.lemmas.Int.{to_z-of_z}
use Rattle.ix_num.specs.Arithmetic.{exact_of}
use Rattle.ix_num.proofs.ExactInts.{exact_is_int}
use Rattle.ix_num.proofs.WideResults.{int_of, exact_none}
use Rattle.ix_num.proofs.arith.exact.Goals as goal

value : (c : goal.After-exact_value) → c.exact_value.result ≡ exact_of c.args.op c.args.x c.args.y
value c = c.exact_value.ensures ∙ (λ i. exact_of c.args.op (to_z-of_z w32 c.args.x c.ranges.x i) (to_z-of_z w32 c.args.y c.ranges.y i))

pub returns-clause-value : goal.returns-clause-value
returns-clause-value c = value c

pub returns-clause-none : goal.returns-clause-none
returns-clause-none c = rw (value c) (exact_none c.args.op c.args.x c.args.y)

pub returns-clause-int : goal.returns-clause-int
returns-clause-int c = λ h. rw (value c) (exact_is_int c.args.op c.args.x c.args.y h (int_of _ c.ranges.x) (int_of _ c.ranges.y))
