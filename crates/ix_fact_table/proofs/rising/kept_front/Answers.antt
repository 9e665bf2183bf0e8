use Rattle.std.proofs.Common.{add-one, ap, ◌≡◌, ◌∷◌, ◌+◌, true, drop, take, sym, subst, ◌∙◌, slice_index_or, pos}
use Rattle.std.specs.Ordering.{is_lt}
use Rattle.std.proofs.Math.Seq.{drop-cons}
use Rattle.ix_core.specs.declared.fact.Path.TheVariants.{Slot}
use Rattle.ix_core.specs.declared.fact.Fact.TheVariants.{Rng}
use Rattle.ix_fact_table.specs.FactOrder.{fact_cmp}
use Rattle.ix_fact_table.specs.Rising.{is_table_of}
use Rattle.ix_fact_table.proofs.KeptFronts.{kept_until, next_here, next_fronts}
use Rattle.ix_fact_table.proofs.rising.kept_front.Goals as goal

pub loop-fact-preserved : goal.loop-fact-preserved
loop-fact-preserved c =
    let k = c.loop-fact.fact-index in
    let facts = c.args.facts.now in
    let more = c.in-Some.more.now in
    let last = c.loop-fact.last.now in
    let inv = c.loop-fact.invariant in
    let none = Rng (Slot 0) (pos 0) (pos 0) in
    let fact = slice_index_or more k none in
    let behind : drop k more ≡ fact ∷ drop (k + 1) more = rw add-one (drop-cons more k none c.loop-fact-test.true) in
    let less : is_lt (fact_cmp last fact) ≡ true = sym c.is_before.ensures ∙ c.if-not-is_before.false in
    record {
      count = ap (λ n. n + 1) inv.count;
      here = next_here c.args.kind facts k last (drop k more) inv.here inv.kept inv.front fact (drop (k + 1) more) behind;
      kept = sym c.is_kept-else-not-is_before.ensures ∙ c.if-not-is_kept-2.false;
      front = next_fronts c.args.kind facts k last (drop k more) inv.here inv.kept inv.front fact less;
    }

pub returns-then-not-is_before-clause-form : goal.returns-then-not-is_before-clause-form
returns-then-not-is_before-clause-form c =
    let k = c.loop-fact.fact-index in
    let inv = c.loop-fact.invariant in
    subst (λ n. is_table_of c.args.kind (take n c.args.facts.now) ≡ true) (sym inv.count)
    (kept_until c.args.kind c.args.facts.now k c.loop-fact.last.now (drop k c.in-Some.more.now) inv.here inv.kept inv.front)

pub returns-clause-form : goal.returns-clause-form
returns-clause-form c =
    let k = c.loop-fact.fact-index in
    let inv = c.loop-fact.invariant in
    subst (λ n. is_table_of c.args.kind (take n c.args.facts.now) ≡ true) (sym inv.count)
    (kept_until c.args.kind c.args.facts.now k c.loop-fact.last.now (drop k c.in-Some.more.now) inv.here inv.kept inv.front)
