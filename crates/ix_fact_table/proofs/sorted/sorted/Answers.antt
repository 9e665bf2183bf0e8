use Rattle.std.proofs.Common.{ap, sym, subst, ◌∙◌}
use Rattle.std.specs.Result.{IfOk}
use Rattle.ix_facts.specs.Kinds.{of_kind}
use Rattle.ix_facts.specs.Systems.{HaveClasses, IsTable}
use Rattle.ix_fact_table.proofs.OneKind.{kind_twice, kind_have}
use Rattle.ix_fact_table.proofs.sorted.sorted.Goals as goal

pub inserted-requires : goal.inserted-requires
inserted-requires c = record { classes = λ f i. c.requires.classes f (c.from_first-rest.ensures.part f i) }

pub sorted_many-requires : goal.sorted_many-requires
sorted_many-requires c = record { classes = λ f i. c.requires.classes f (c.from_first-rest.ensures.part f i) }

pub returns-then-is_any : goal.returns-then-is_any
returns-then-is_any c =
    record {
      form = c.sorted_many.ensures.form;
      table = subst (λ l. IfOk c.sorted_many.result (λ all. IsTable l all.items)) c.from_first-rest.ensures.same c.sorted_many.ensures.table;
    }

pub sorted_many-requires-2 : goal.sorted_many-requires-2
sorted_many-requires-2 c =
    let is = c.deref.ensures.value ∙ c.in_ok-own.ensures in
    record { classes = subst HaveClasses (sym is) (kind_have c.args.kind c.from_first-rest.result.now (λ f i. c.requires.classes f (c.from_first-rest.ensures.part f i))) }

pub returns : goal.returns
returns c =
    let own = c.args.kind in
    let is = c.deref.ensures.value ∙ c.in_ok-own.ensures in
    record {
      form = c.sorted_many-2.ensures.form;
      table = subst (λ l. IfOk c.sorted_many-2.result (λ many. IsTable l many.items)) (ap (of_kind own) is ∙ (kind_twice own c.from_first-rest.result.now ∙ c.from_first-rest.ensures.same)) c.sorted_many-2.ensures.table;
    }
