use Rattle.std.proofs.Common.{◌≡◌, length}
use Rattle.ix_annot.specs.Arguments.{preceded_by}
use Rattle.ix_annot.specs.Expansion as spec
use Rattle.ix_annot.proofs.expansion.posts_of.Given as goal

abbrev pub invariant-loop-on : goal.invariant-loop-on
invariant-loop-on g l =
    preceded_by l.posts (spec.posts_of (g.N.Names.names l.names) l.when l.claims l.on) ≡ spec.posts_of (g.N.Names.names l.names) l.initial.when l.initial.claims l.initial.on

abbrev pub decreases-loop-on : goal.decreases-loop-on
decreases-loop-on g l = length l.on
