use Rattle.std.proofs.Common.{◌≡◌, ◌∙◌, ap}
use Rattle.std.proofs.lemmas.Result.{IfOk-weaker}
use Rattle.ix_fact_table.specs.Classes.{root_of, relabelled}
use Rattle.ix_fact_table.proofs.JoinedClasses.{root_relabelled, joined_roots}
use Rattle.ix_fact_table.proofs.classes.joined.Goals as goal

pub returns-clause-roots : goal.returns-clause-roots
returns-clause-roots c =
    let roots = c.args.roots.items in
    let a = c.args.a.now in
    let b = c.args.b.now in
    let d = c.deref-3.ensures.value in
    let d2 = c.deref-2.ensures.value in
    let d1 = c.deref.ensures.value in
    let n = c.found-new.ensures in
    let o = c.found-old.ensures in
    let relabelled_by : relabelled c.found-old.result c.found-new.result c.deref-3.result.now ≡ relabelled (root_of roots b) (root_of roots a) roots = cc in
    IfOk-weaker c.relabel.result _ _
    (λ moved is. joined_roots roots moved.items a b c.requires.roots (λ x. ap (λ l. root_of l x) (is ∙ relabelled_by) ∙ root_relabelled (root_of roots b) (root_of roots a) roots x))
    c.relabel.ensures

pub returns-clause-joined : goal.returns-clause-joined
returns-clause-joined c =
    let roots = c.args.roots.items in
    let a = c.args.a.now in
    let b = c.args.b.now in
    let d = c.deref-3.ensures.value in
    let d2 = c.deref-2.ensures.value in
    let d1 = c.deref.ensures.value in
    let n = c.found-new.ensures in
    let o = c.found-old.ensures in
    let relabelled_by : relabelled c.found-old.result c.found-new.result c.deref-3.result.now ≡ relabelled (root_of roots b) (root_of roots a) roots = cc in
    IfOk-weaker c.relabel.result _ _ (λ moved is x. ap (λ l. root_of l x) (is ∙ relabelled_by) ∙ root_relabelled (root_of roots b) (root_of roots a) roots x) c.relabel.ensures
