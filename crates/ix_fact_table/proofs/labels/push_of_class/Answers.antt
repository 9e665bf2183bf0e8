use Rattle.std.proofs.Common.{◌≡◌, ◌++◌, ap, ◌∙◌, subst}
use Rattle.std.specs.Prelude.{OnOk}
use Rattle.ix_fact_table.specs.Classes.{root_of}
use Rattle.ix_fact_table.specs.Listed.{over_class}
use Rattle.ix_fact_table.proofs.OverLabels.{over_labels}
use Rattle.ix_fact_table.proofs.labels.push_of_class.Goals as goal

pub returns : goal.returns
returns c =
    let out = c.args.out.now.items in
    let roots = c.args.classes.now in
    let fact = c.args.fact.now in
    let over = ap (λ r. over_class r fact c.args.labels.now) c.root-root.ensures ∙ (ap (over_class (root_of roots c.args.a.now) fact) c.requires.labels ∙ over_labels roots c.args.a.now fact c.args.arrays.now) in
    subst (λ l. OnOk c.push_over_class.result (c.push_over_class.new.out.items ≡ out ++ l)) over c.push_over_class.ensures
