use Rattle.std.proofs.Common.{◌≡◌, ◌++◌, drop}
use Rattle.ix_plain.specs.Program as spec
use Rattle.ix_lower.specs.Homes.{shown_tables}
use Rattle.ix_lower.proofs.post.push_upper.Given as goal

abbrev pub invariant-loop-class : goal.invariant-loop-class
invariant-loop-class l = l.posts ++ spec.posts_in (shown_tables l.tables) l.name (drop l.class-index l.classes) ≡ l.fn.posts ++ spec.posts_in (shown_tables l.tables) l.name l.classes
