use Rattle.std.proofs.Common.{◌≡◌, ◌++◌, ◌||◌, drop, map}
use Rattle.ix_meaning.specs.Annotated as spec
use Rattle.ix_class_members.proofs.claims.given.Given as goal

abbrev pub invariant-loop-annot : goal.invariant-loop-annot
invariant-loop-annot g l = record {
  claims :
      l.claims ++ (spec.given (g.N.Names.names l.names) (map (λ annot. annot.now) (drop l.annot-index l.annots))).claims
      ≡ l.fn.claims ++ (spec.given (g.N.Names.names l.names) (map (λ annot. annot.now) l.annots)).claims;
  effect_free :
      (l.effect_free || (spec.given (g.N.Names.names l.names) (map (λ annot. annot.now) (drop l.annot-index l.annots))).effect_free)
      ≡ (spec.given (g.N.Names.names l.names) (map (λ annot. annot.now) l.annots)).effect_free;
  posts :
      l.posts ++ (spec.given (g.N.Names.names l.names) (map (λ annot. annot.now) (drop l.annot-index l.annots))).posts
      ≡ (spec.given (g.N.Names.names l.names) (map (λ annot. annot.now) l.annots)).posts;
  notes :
      l.notes ++ (spec.given (g.N.Names.names l.names) (map (λ annot. annot.now) (drop l.annot-index l.annots))).notes
      ≡ l.fn.notes ++ (spec.given (g.N.Names.names l.names) (map (λ annot. annot.now) l.annots)).notes;
}
