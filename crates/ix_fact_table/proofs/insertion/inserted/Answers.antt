use Rattle.std.proofs.Common.{◌≡◌, [], true, sym, subst, ◌∙◌}
use Rattle.ix_fact_table.specs.Rising.{rises}
use Rattle.ix_fact_table.specs.RisingLaws.{table_rises}
use Rattle.ix_fact_table.proofs.PiledFacts.{piles_form, piles_table, first_alone}
use Rattle.ix_fact_table.proofs.WentWell.{both_well}
use Rattle.ix_fact_table.proofs.insertion.inserted.Goals as goal

pub returns-then-is_none : goal.returns-then-is_none
returns-then-is_none c =
    let now = c.in_ok-first.ensures.piles in
    let none : c.in_ok-first.second.items ≡ [] = sym c.deref.ensures.value ∙ c.is_none.ensures.0 c.if-is_none.true in
    record { form = now.first_form; table = first_alone c.args.kind c.args.facts.now c.in_ok-first.first.items c.in_ok-first.second.items now none }

pub merged-requires : goal.merged-requires
merged-requires c =
    let now = c.in_ok-first.ensures.piles in
    record {
      first = subst (λ l. rises l ≡ true) (sym c.as_slice.ensures.value) (table_rises c.args.kind c.in_ok-first.first.items now.first_form);
      second = subst (λ l. rises l ≡ true) (sym c.as_slice-2.ensures.value) (table_rises c.args.kind c.in_ok-first.second.items now.second_form);
    }

pub returns : goal.returns
returns c =
    let now = c.in_ok-first.ensures.piles in
    let first = c.in_ok-first.first.items in
    let second = c.in_ok-first.second.items in
    let has = rw (c.as_slice.ensures.value, c.as_slice-2.ensures.value) at c.merged.ensures.both in
    record {
      form = both_well c.merged.result (λ all. piles_form c.args.kind c.args.facts.now first second now all.items) has c.merged.ensures.rises;
      table = both_well c.merged.result (λ all. piles_table c.args.kind c.args.facts.now first second now all.items) has c.merged.ensures.rises;
    }
