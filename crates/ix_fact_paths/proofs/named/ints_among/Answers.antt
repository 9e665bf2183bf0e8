use Rattle.std.specs.Prelude.{[]}
use Rattle.std.proofs.Common.{◌≡◌, ◌∙◌, ap, sym, subst}
use Rattle.std.specs.Result.{OnOk}
use Rattle.std.proofs.lemmas.Result.{IfOk-at_ok}
use Rattle.ix_text.proofs.Chained.{both_ok}
use Rattle.ix_facts.specs.Exact.{named_ints}
use Rattle.ix_fact_paths.specs.ByPath.{put_all}
use Rattle.ix_fact_paths.specs.PutUntil.{IsPutUntil}
use Rattle.ix_fact_paths.proofs.named.ints_among.Goals as goal

pub returns : goal.returns
returns c =
    let first = named_ints c.args.first.now in
    let last = named_ints c.args.last.now in
    let all = put_all (put_all [] first) last in
    let is : OnOk c.and.result (c.put_facts-2.new.ints ≡ all) =
    both_ok c.put_facts.result c.put_facts-2.result c.and.result _ _ _ c.and.ensures c.put_facts.ensures.ints c.put_facts-2.ensures.ints
    (λ one two. two ∙ ap (λ l. put_all l last) (one ∙ ap (λ l. put_all l first) c.in_ok-ints.ensures)) in
    let until = IsPutUntil all c.args.between.now c.args.count c.put_until.new.ints in
    subst (IsPutUntil all c.args.between.now c.args.count) (sym c.into_paths.ensures)
    (IfOk-at_ok (λ _. until) c.in_ok-and.was
    (both_ok c.and.result c.put_until.result c.and-2.result _ _ until c.and-2.ensures is c.put_until.ensures (λ same more. subst (λ l. IsPutUntil l c.args.between.now c.args.count c.put_until.new.ints) same more)))
