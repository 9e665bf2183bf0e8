use Rattle.std.proofs.Common.{◌≡◌, ◌≢◌, List, [], ◌∷◌, ◌++◌, Err, rules, refl, sym, ap, ◌∙◌, arith}
use Rattle.ix_tree.specs.declared.annot.AnnotArg.{AnnotArg}
use Rattle.ix_grammar.specs.Lists.{alone, joined}
use Rattle.ix_grammar_rules.specs.ListRules.{next_of, more_of}
use Rattle.ix_grammar_rules.specs.Rule.{run}
use Rattle.ix_grammar_rules.specs.AnnotRules as spec
use Rattle.ix_grammar_rules.specs.declared.stop.Stop.TheVariants.{Memory}
use Rattle.ix_grammar_rules.proofs.Runs.{loop_on, loop_stops}
use Rattle.ix_parse_base.proofs.Takes.{taken_here}
use Rattle.ix_parse_base.proofs.Turns.{one_more}
use Rattle.ix_parse_base.proofs.annotations.more_named.Goals as goal

pub reading-preserved : goal.reading-preserved
unfolding more_of spec.named
reading-preserved c = record {
  leads =
      c.reading.invariant.leads
      ∙ loop_on (next_of spec.named joined) c.reading.args c.push-in-Some.new.self c.reading.cursor c.named_value.new.cursor
      (one_more spec.named joined _ _ _ _ _ c.advance.new.self _ c.in-Some.ensures.found c.advance.ensures.rest
      (taken_here _ _ _ _ _ c.in_ok-name.name c.take_name.new.self (sym c.in_ok-name.ensures.found) refl c.in_ok-name.ensures.behind ∙ c.in_ok-named_value.ensures.reads)
      c.in_ok-push-2.ensures.added)
      (omega (arith, c.in-Some.ensures.there, c.advance.ensures.one_less, c.in_ok-name.ensures.shorter, c.in_ok-named_value.ensures.no_longer));
  no_longer = omega (arith, c.reading.invariant.no_longer, c.advance.ensures.one_less, c.in_ok-name.ensures.shorter, c.in_ok-named_value.ensures.no_longer);
}

pub returns-in_err-named_value : goal.returns-in_err-named_value
unfolding run next_of more_of spec.named
returns-in_err-named_value c =
    let begun : alone c.args.first ≡ c.push.new.self = sym (c.in_ok-push.ensures.added ∙ ap (λ (none : List AnnotArg). none ++ c.args.first ∷ []) c.new-args.ensures) in
    let reads : c.in_err-named_value.field-0.0 ≢ Memory → run (more_of spec.named joined (alone c.args.first)) c.args.cursor.now ≡ Err (c.in_err-named_value.field-0.0, c.named_value.new.cursor)
    = λ other. ap (λ (args : List AnnotArg). run (more_of spec.named joined args) c.args.cursor.now) begun ∙ (c.reading.invariant.leads ∙ loop_stops (next_of spec.named joined) c.reading.args c.reading.cursor c.named_value.new.cursor c.in_err-named_value.field-0.0 (search rules)) in
    search rules
