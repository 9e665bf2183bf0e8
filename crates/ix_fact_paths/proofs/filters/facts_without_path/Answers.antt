use Rattle.std.proofs.Common.{◌≡◌, ◌++◌, ◌+◌, drop, ap, sym, ◌∙◌, rules}
use Rattle.ix_facts.specs.Forget.{of_path, without}
use Rattle.ix_fact_paths.proofs.Filtered.{named_next, kept_next}
use Rattle.ix_fact_paths.proofs.filters.facts_without_path.Goals as goal
use Rattle.ix_fact_paths.proofs.filters.facts_without_path.Goals.{then-not-names_path, else-not-names_path}

pub loop-fact-preserved : goal.loop-fact-preserved
loop-fact-preserved c =
    let rest = without (of_path c.args.path.now) (drop (c.loop-fact.fact-index + 1) c.args.facts.now) in
    let facts : c.if-not-names_path.kept.items ++ rest ≡ without (of_path c.args.path.now) c.args.facts.now = elim c.if-not-names_path.branch [
      | then-not-names_path w ↦ ap (λ v. v.items ++ rest) w.kept-is ∙ ap (λ l. l ++ rest) w.push_reserved.ensures.items ∙ kept_next (of_path c.args.path.now) c.args.facts.now c.loop-fact.fact-index _ c.loop-fact.kept.items _ c.loop-fact-test.true (sym c.names_path.ensures ∙ w.if-not-names_path.true) c.loop-fact.invariant.facts
      | else-not-names_path w ↦ ap (λ v. v.items ++ rest) w.kept-is ∙ named_next (of_path c.args.path.now) c.args.facts.now c.loop-fact.fact-index _ c.loop-fact.kept.items _ c.loop-fact-test.true (sym c.names_path.ensures ∙ w.if-not-names_path.false) c.loop-fact.invariant.facts
    ] in
    record { facts = facts; short = search rules; room = search rules }
