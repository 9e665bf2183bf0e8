use Rattle.std.proofs.Common.{◌≡◌, length}
use Rattle.ix_annot.specs.Arguments.{preceded_by}
use Rattle.ix_annot.specs.Expansion as spec
use Rattle.ix_annot.proofs.expansion.claims_behind.Given as goal

abbrev pub invariant-loop-written : goal.invariant-loop-written
invariant-loop-written g l =
    preceded_by l.claims (spec.claims_of (g.N.Names.names l.names) l.written) ≡ preceded_by l.initial.claims (spec.claims_of (g.N.Names.names l.names) l.initial.written)

abbrev pub decreases-loop-written : goal.decreases-loop-written
decreases-loop-written g l = length l.written
