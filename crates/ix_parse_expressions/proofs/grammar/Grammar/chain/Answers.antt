use Rattle.std.proofs.Common.{rules, ◌≡◌, ◌≢◌, sym, ◌∙◌, Err, arith}
use Rattle.ix_grammar_rules.specs.declared.stop.Stop.TheVariants.{Memory}
use Rattle.ix_grammar_rules.specs.ExprRules as spec
use Rattle.ix_grammar_rules.specs.Rule.{run, loop}
use Rattle.ix_grammar_rules.proofs.Runs.{loop_on, loop_done, loop_stops}
use Rattle.ix_parse_expressions.proofs.ExprTurns.{at_dot, behind_array, at_bracket, at_end}
use Rattle.ix_parse_expressions.proofs.grammar.Grammar.chain.Goals as goal

pub reading-preserved-in-Some : goal.reading-preserved-in-Some
reading-preserved-in-Some g c = record {
  leads =
      c.reading.invariant.leads
      ∙ loop_on (spec.further (spec.below c.args.self.now.left) c.args.aim c.args.self.now.left) c.reading.found c.in_ok-found.found c.reading.cursor c.behind_dot.new.cursor
      (at_dot _ _ _ _ _ _ c.advance.new.self _ c.in-Some.ensures.found (search rules) c.advance.ensures.rest c.in_ok-found.ensures.reads)
      (omega (arith, c.in-Some.ensures.there, c.advance.ensures.one_less, c.in_ok-found.ensures.no_longer));
  no_longer = omega (arith, c.reading.invariant.no_longer, c.advance.ensures.one_less, c.in_ok-found.ensures.no_longer);
  fits = c.in_ok-found.ensures.fits;
  some = c.in_ok-found.ensures.some;
}

pub reading-preserved : goal.reading-preserved
reading-preserved g c = record {
  leads =
      c.reading.invariant.leads
      ∙ loop_on (spec.further (spec.below c.args.self.now.left) c.args.aim c.args.self.now.left) c.reading.found c.in_ok-found-2.found c.reading.cursor c.index.new.cursor
      (at_bracket _ _ _ _ _ _ c.in_default.ensures.found (search rules) c.in_ok-found-2.ensures.reads)
      c.in_ok-found-2.ensures.shorter;
  no_longer = omega (arith, c.reading.invariant.no_longer, c.in_ok-found-2.ensures.shorter);
  fits = c.in_ok-found-2.ensures.fits;
  some = c.in_ok-found-2.ensures.some;
}

pub returns-then-makes_array-clause-reads : goal.returns-then-makes_array-clause-reads
returns-then-makes_array-clause-reads g c =
    c.reading.invariant.leads
    ∙ loop_done (spec.further (spec.below c.args.self.now.left) c.args.aim c.args.self.now.left) c.reading.found c.reading.found c.reading.cursor c.reading.cursor
    (behind_array _ _ _ _ _ c.in_default.ensures.found (search rules))

pub returns-in_default-sign-clause-reads : goal.returns-in_default-sign-clause-reads
returns-in_default-sign-clause-reads g c =
    c.reading.invariant.leads
    ∙ loop_done (spec.further (spec.below c.args.self.now.left) c.args.aim c.args.self.now.left) c.reading.found c.reading.found c.reading.cursor c.reading.cursor
    (at_end _ _ _ _ _ c.in_default.ensures.found (search rules) c.in_default-sign.ensures.found)

pub returns-in_err-found-2-clause-reads : goal.returns-in_err-found-2-clause-reads
returns-in_err-found-2-clause-reads g c =
    let reads : c.in_err-found-2.field-0.0 ≢ Memory → run (loop (spec.further (spec.below c.args.self.now.left) c.args.aim c.args.self.now.left) c.args.first) c.args.cursor.now ≡ Err (c.in_err-found-2.field-0.0, c.index.new.cursor)
    = λ other. c.reading.invariant.leads
    ∙ loop_stops (spec.further (spec.below c.args.self.now.left) c.args.aim c.args.self.now.left) c.reading.found c.reading.cursor c.index.new.cursor c.in_err-found-2.field-0.0
    (at_bracket _ _ _ _ _ _ c.in_default.ensures.found (search rules) (c.in_err-found-2.ensures.reads other)) in
    search rules

pub index-requires : goal.index-requires
index-requires g c = record {
  parts = c.requires.parts;
  few = omega (arith, c.requires.few, c.reading.invariant.no_longer);
  next = sym c.in-Some-sign.ensures.found;
  there = c.in-Some-sign.ensures.there;
  some = c.reading.invariant.some;
  room = c.reading.invariant.fits;
}

pub behind_dot-requires : goal.behind_dot-requires
behind_dot-requires g c = record {
  parts = c.requires.parts;
  few = omega (arith, c.requires.few, c.reading.invariant.no_longer, c.advance.ensures.one_less);
  some = c.reading.invariant.some;
  room = search rules;
}

pub returns-in_err-found-clause-reads : goal.returns-in_err-found-clause-reads
returns-in_err-found-clause-reads g c =
    let reads : c.in_err-found.field-0.0 ≢ Memory → run (loop (spec.further (spec.below c.args.self.now.left) c.args.aim c.args.self.now.left) c.args.first) c.args.cursor.now ≡ Err (c.in_err-found.field-0.0, c.behind_dot.new.cursor)
    = λ other. c.reading.invariant.leads
    ∙ loop_stops (spec.further (spec.below c.args.self.now.left) c.args.aim c.args.self.now.left) c.reading.found c.reading.cursor c.behind_dot.new.cursor c.in_err-found.field-0.0
    (at_dot _ _ _ _ _ _ c.advance.new.self _ c.in-Some.ensures.found (search rules) c.advance.ensures.rest (c.in_err-found.ensures.reads other)) in
    search rules
