use Rattle.std.proofs.Common.{rules, ◌≡◌, get_or, w32, to_z, of_z, ap, sym, subst, ◌∙◌}
use Rattle.std.proofs.lemmas.Result.{on_ok_weaker}
use Rattle.ix_num.specs.Ints.{least_int, greatest_int}
use Rattle.ix_facts.specs.Bounds as spec
use Rattle.ix_facts.specs.Small.{IsEnd}
use Rattle.ix_fact_list.proofs.NearRaised.{range_low_small, range_high_small, less_raised, less_lowered}
use Rattle.ix_fact_list.proofs.limits.put_less.Goals as goal

pub put_apart-requires-clause-low : goal.put_apart-requires-clause-low
put_apart-requires-clause-low g c =
    let all = g.G.Groups.all c.args.facts.now in
    let near = c.in-Some-Some.ensures.near in
    let e : get_or c.args.ends.now.lows.items c.in-Some-Some.small least_int ≡ spec.range_low all c.args.q.now = ap (λ k. get_or c.args.ends.now.lows.items k least_int) near.1 ∙ c.requires.ends.lows c.args.q.now near.0 in
    subst IsEnd (sym e) (range_low_small all c.args.q.now c.requires.small)

pub put_apart-requires-clause-high : goal.put_apart-requires-clause-high
put_apart-requires-clause-high g c =
    let all = g.G.Groups.all c.args.facts.now in
    let near = c.in-Some-Some.ensures'.near in
    let e : get_or c.args.ends.now.highs.items c.in-Some-Some.great greatest_int ≡ spec.range_high all c.args.r.now = ap (λ k. get_or c.args.ends.now.highs.items k greatest_int) near.1 ∙ c.requires.ends.highs c.args.r.now near.0 in
    subst IsEnd (sym e) (range_high_small all c.args.r.now c.requires.small)

pub returns-in-Some-Some-clause-raised : goal.returns-in-Some-Some-clause-raised
returns-in-Some-Some-clause-raised g c =
    let all = g.G.Groups.all c.args.facts.now in
    let q = c.in-Some-Some.ensures.near in
    let r = c.in-Some-Some.ensures'.near in
    let ends = c.args.ends.now.lows.items in
    let constant : to_z w32 (of_z w32 c.args.c) ≡ c.args.c = search rules in
    let e : get_or ends c.in-Some-Some.small least_int ≡ spec.range_low all c.args.q.now = ap (λ k. get_or ends k least_int) q.1 ∙ c.requires.ends.lows c.args.q.now q.0 in
    on_ok_weaker c.put_apart.result
    (less_raised all c.args.fact.now c.args.q.now c.args.r.now c.args.c c.requires.less (to_z w32 (of_z w32 c.args.c)) constant c.in-Some-Some.small c.in-Some-Some.great q.0 r.0 q.1 r.1 c.args.lows.now.items c.put_apart.new.lows.items ends least_int e) c.put_apart.ensures.raised

pub returns-in-Some-Some-clause-lowered : goal.returns-in-Some-Some-clause-lowered
returns-in-Some-Some-clause-lowered g c =
    let all = g.G.Groups.all c.args.facts.now in
    let q = c.in-Some-Some.ensures.near in
    let r = c.in-Some-Some.ensures'.near in
    let ends = c.args.ends.now.highs.items in
    let constant : to_z w32 (of_z w32 c.args.c) ≡ c.args.c = search rules in
    let e : get_or ends c.in-Some-Some.great greatest_int ≡ spec.range_high all c.args.r.now = ap (λ k. get_or ends k greatest_int) r.1 ∙ c.requires.ends.highs c.args.r.now r.0 in
    on_ok_weaker c.put_apart.result
    (less_lowered all c.args.fact.now c.args.q.now c.args.r.now c.args.c c.requires.less (to_z w32 (of_z w32 c.args.c)) constant c.in-Some-Some.small c.in-Some-Some.great q.0 r.0 q.1 r.1 c.args.highs.now.items c.put_apart.new.highs.items ends greatest_int e) c.put_apart.ensures.lowered
