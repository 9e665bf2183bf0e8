use Rattle.std.proofs.Common.{◌≡◌, drop}
use Rattle.ix_meaning.specs.Limits as spec
use Rattle.ix_names.proofs.claims.each_declared.Given as goal

abbrev pub invariant-loop-decl : goal.invariant-loop-decl
invariant-loop-decl l = spec.past_claims (spec.each_annots (drop l.decl-index l.decls)) ≡ spec.past_claims (spec.each_annots l.decls)
