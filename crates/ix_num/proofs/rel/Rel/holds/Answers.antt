use Rattle.std.specs.Int.{w32}
use Rattle.std.proofs.lemmas.Int.{to_z-of_z}
use Rattle.ix_num.proofs.IntTests.{less_decides, at_most_decides, same_decides, differ_decides}
use Rattle.ix_num.proofs.rel.Rel.holds.Goals as goal

pub returns-in-Lt : goal.returns-in-Lt
returns-in-Lt c = rw (c.in-Lt.is, to_z-of_z w32 c.args.x c.ranges.x, to_z-of_z w32 c.args.y c.ranges.y) (less_decides c.args.x c.args.y)

pub returns-in-Le : goal.returns-in-Le
returns-in-Le c = rw (c.in-Le.is, to_z-of_z w32 c.args.x c.ranges.x, to_z-of_z w32 c.args.y c.ranges.y) (at_most_decides c.args.x c.args.y)

pub returns-in-Gt : goal.returns-in-Gt
returns-in-Gt c = rw (c.in-Gt.is, to_z-of_z w32 c.args.x c.ranges.x, to_z-of_z w32 c.args.y c.ranges.y) (less_decides c.args.y c.args.x)

pub returns-in-Ge : goal.returns-in-Ge
returns-in-Ge c = rw (c.in-Ge.is, to_z-of_z w32 c.args.x c.ranges.x, to_z-of_z w32 c.args.y c.ranges.y) (at_most_decides c.args.y c.args.x)

pub returns-in-Eq : goal.returns-in-Eq
returns-in-Eq c = rw (c.in-Eq.is) (same_decides c.args.x c.args.y c.ranges.x c.ranges.y)

pub returns-in-Ne : goal.returns-in-Ne
returns-in-Ne c = rw (c.in-Ne.is) (differ_decides c.args.x c.args.y c.ranges.x c.ranges.y)
