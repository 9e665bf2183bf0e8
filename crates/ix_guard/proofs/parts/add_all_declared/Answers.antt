use Rattle.std.proofs.Common.{rules, List, refl}
use Rattle.ix_tree.specs.declared.decl.LocalDecl.{LocalDecl}
use Rattle.ix_guard.specs.Accesses as spec
use Rattle.ix_guard.proofs.Sums.{one_more}
use Rattle.ix_guard.proofs.parts.add_all_declared.Goals as goal

pub loop-decl-preserved : goal.loop-decl-preserved
loop-decl-preserved c = (
  one_more (λ (l : List LocalDecl). (spec.all_decl_parts l).accesses) (λ (x : LocalDecl). (spec.decl_parts x).accesses) (λ _ _. refl) c.args.decls.now c.loop-decl.decl-index c.decl-item.result _ _ _ (search rules) (search rules) c.in_ok-add_declared.ensures.accesses c.loop-decl.invariant.0,
  one_more (λ (l : List LocalDecl). (spec.all_decl_parts l).assigned) (λ (x : LocalDecl). (spec.decl_parts x).assigned) (λ _ _. refl) c.args.decls.now c.loop-decl.decl-index c.decl-item.result _ _ _ (search rules) (search rules) c.in_ok-add_declared.ensures.assigned c.loop-decl.invariant.1,
)
