use Rattle.std.proofs.Common.{rules, arith, ◌≡◌, ◌≤◌, true, length, subst, sym}
use Rattle.std.proofs.lemmas.Bool.Decides.{nat_tests}
use Rattle.std.proofs.lemmas.Result.{IfOk-weaker}
use Rattle.std.proofs.lemmas.List.{take_all}
use Rattle.ix_facts.specs.Kinds.{of_kind}
use Rattle.ix_facts.specs.Systems.{IsTable}
use Rattle.ix_fact_table.specs.Rising.{is_table_of}
use Rattle.ix_fact_table.proofs.RisingSteps.{kept_table}
use Rattle.ix_fact_table.proofs.MergedTables.{front_classes, back_classes, halves_form, halves_table}
use Rattle.ix_fact_table.proofs.WentWell.{both_well}
use Rattle.ix_fact_table.proofs.sorted.+sorted_many.Goals as goal

pub returns-then-kept-facts-clause-table : goal.returns-then-kept-facts-clause-table
returns-then-kept-facts-clause-table t c =
    let facts = c.args.facts.now in
    let kept = c.kept_front-kept.result in
    let all : length facts ≤ kept = grind (arith, nat_tests, c.if-kept-facts.true) in
    let form : is_table_of c.args.kind facts ≡ true = subst (λ l. is_table_of c.args.kind l ≡ true) (take_all kept facts all) c.kept_front-kept.ensures.form in
    IfOk-weaker c.from_slice.result _ _ (λ table is. subst (λ l. IsTable (of_kind c.args.kind facts) l) (sym is) (kept_table c.args.kind facts form)) c.from_slice.ensures.items

pub sorted_many-requires : goal.sorted_many-requires
sorted_many-requires t c = (search rules, back_classes _ c.args.facts.now c.split_at.result.1.now c.split_at.ensures.back c.requires.classes)

pub returns-then-kept-half : goal.returns-then-kept-half
returns-then-kept-half t c =
    let own = c.args.kind in
    let facts = c.args.facts.now in
    let front = c.split_at.result.0.now in
    let second = c.in_ok-second.second.items in
    let has = rw c.as_slice.ensures.value at c.merged.ensures.both in
    let form : is_table_of own front ≡ true = subst (λ l. is_table_of own l ≡ true) (sym c.split_at.ensures.front) c.kept_front-kept.ensures.form in
    record {
      form = both_well c.merged.result (λ all. halves_form own front second form c.in_ok-second.ensures.form all.items) has c.merged.ensures.rises;
      table = both_well c.merged.result
          (λ all. halves_table own facts front c.split_at.result.1.now front second c.split_at.ensures.by_index.0 form c.in_ok-second.ensures.form (kept_table own front form) c.in_ok-second.ensures.table all.items)
          has c.merged.ensures.rises;
    }

pub sorted_many-requires-2 : goal.sorted_many-requires-2
sorted_many-requires-2 t c = (search rules, front_classes _ c.args.facts.now c.split_at-2.result.0.now c.split_at-2.ensures.front c.requires.classes)

pub sorted_many-requires-3 : goal.sorted_many-requires-3
sorted_many-requires-3 t c = (search rules, back_classes _ c.args.facts.now c.split_at-2.result.1.now c.split_at-2.ensures.back c.requires.classes)

pub returns : goal.returns
returns t c =
    let own = c.args.kind in
    let facts = c.args.facts.now in
    let first = c.in_ok-first.first.items in
    let second = c.in_ok-second-2.second.items in
    let has = rw (c.as_slice-2.ensures.value, c.as_slice-3.ensures.value) at c.merged-2.ensures.both in
    record {
      form = both_well c.merged-2.result (λ all. halves_form own first second c.in_ok-first.ensures.form c.in_ok-second-2.ensures.form all.items) has c.merged-2.ensures.rises;
      table = both_well c.merged-2.result
          (λ all. halves_table own facts c.split_at-2.result.0.now c.split_at-2.result.1.now first second c.split_at-2.ensures.by_index.0 c.in_ok-first.ensures.form c.in_ok-second-2.ensures.form c.in_ok-first.ensures.table c.in_ok-second-2.ensures.table all.items)
          has c.merged-2.ensures.rises;
    }
