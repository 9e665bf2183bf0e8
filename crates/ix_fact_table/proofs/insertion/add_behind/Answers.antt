use Rattle.std.proofs.Common.{◌≡◌, Bool, true, [], ◌∷◌, ◌++◌, if◌then◌else◌, ap, sym, subst, ◌∙◌}
use Rattle.ix_text.proofs.Chained.{on_mapped}
use Rattle.ix_fact_table.specs.Rising.{rises}
use Rattle.ix_fact_table.specs.Walks.{HasBoth}
use Rattle.ix_fact_table.proofs.PutFacts.{put_behind}
use Rattle.ix_fact_table.proofs.insertion.add_behind.Goals as goal

pub returns : goal.returns
returns c =
    let facts = c.args.facts.now.items in
    let fact = c.args.fact.now in
    let all = put_behind facts fact c.requires.rises c.requires.behind in
    record {
      both = on_mapped c.push.result c.map_err.result _ c.map_err.ensures.variant
          (λ well. subst (HasBoth facts (fact ∷ [])) (sym (c.push.ensures.items ∙ ap (λ (b : Bool). if b then facts ++ fact ∷ [] else facts) well)) all.0);
      rises = on_mapped c.push.result c.map_err.result _ c.map_err.ensures.variant
          (λ well. subst (λ l. rises l ≡ true) (sym (c.push.ensures.items ∙ ap (λ (b : Bool). if b then facts ++ fact ∷ [] else facts) well)) all.1);
    }
