use Rattle.std.proofs.Common.{rules, refl, List}
use Rattle.ix_tree.specs.declared.decl.ClassDecl.{ClassDecl}
use Rattle.ix_guard.specs.Guards as spec
use Rattle.ix_guard.specs.Shown.{site_of}
use Rattle.ix_guard.proofs.Sums.{one_more, none_left}
use Rattle.ix_guard.proofs.guards.insertions.Goals as goal

pub loop-class-preserved : goal.loop-class-preserved
loop-class-preserved c =
    let site = site_of c.args.site.now in
    one_more (λ (l : List ClassDecl). spec.insertions site (record { classes = l })) (spec.in_class site) (λ _ _. refl) c.args.unit.now.classes c.loop-class.class-index c.class-item.result _ _ _
    (search rules) (search rules) (search rules) c.loop-class.invariant

pub returns : goal.returns
returns c =
    let site = site_of c.args.site.now in
    none_left (λ (l : List ClassDecl). spec.insertions site (record { classes = l })) refl c.args.unit.now.classes c.loop-class.class-index _ _ (search rules) c.loop-class.invariant
