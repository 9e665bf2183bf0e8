use Rattle.std.proofs.Common.{length, rules, ap, ◌∙◌, arith}
use Rattle.ix_grammar_rules.specs.ClassRules as spec
use Rattle.ix_grammar_rules.specs.SourceRules.{parts}
use Rattle.ix_grammar_rules.proofs.Runs.{loop_on}
use Rattle.ix_parser.proofs.NextClass.{at_public, at_final, at_class}
use Rattle.ix_parser.proofs.class_rules.classes.Goals as goal
use Rattle.ix_parser.proofs.class_rules.classes.Goals.{in-Some+in_ok-class, in_default+in-Some-sign+in_ok-class-2, in_default+in_default-sign+in-Some-sign-2+in_ok-class-3}

pub reading-preserved : goal.reading-preserved
reading-preserved c = elim c.match-sign.branch [
  | in-Some+in_ok-class w ↦ record {
    leads =
        c.reading.invariant.leads
        ∙ loop_on (spec.next_class parts c.args.left) c.reading.found c.in_ok-found.found c.reading.cursor c.match-sign.cursor
        (rw (c.in_ok-found.ensures) (at_public _ _ _ w.advance.new.self _ c.match-sign.class _ w.in-Some.ensures.found (omega (arith, c.requires.room)) w.advance.ensures.rest (rw (w.class-is, w.cursor-is) w.in_ok-class.ensures.reads)))
        (omega (arith, w.in-Some.ensures.there, w.advance.ensures.one_less, w.in_ok-class.ensures.no_longer, ap length w.cursor-is));
    no_longer = omega (arith, c.reading.invariant.no_longer, w.advance.ensures.one_less, w.in_ok-class.ensures.no_longer, ap length w.cursor-is);
    fits = search rules;
  }
  | in_default+in-Some-sign+in_ok-class-2 w ↦ record {
    leads =
        c.reading.invariant.leads
        ∙ loop_on (spec.next_class parts c.args.left) c.reading.found c.in_ok-found.found c.reading.cursor c.match-sign.cursor
        (rw (c.in_ok-found.ensures) (at_final _ _ _ w.advance-in-Some-sign.new.self _ c.match-sign.class _ w.in_default.ensures.found w.in-Some-sign.ensures.found (omega (arith, c.requires.room)) w.advance-in-Some-sign.ensures.rest (rw (w.class-is, w.cursor-is) w.in_ok-class-2.ensures.reads)))
        (omega (arith, w.in-Some-sign.ensures.there, w.advance-in-Some-sign.ensures.one_less, w.in_ok-class-2.ensures.no_longer, ap length w.cursor-is));
    no_longer = omega (arith, c.reading.invariant.no_longer, w.advance-in-Some-sign.ensures.one_less, w.in_ok-class-2.ensures.no_longer, ap length w.cursor-is);
    fits = search rules;
  }
  | in_default+in_default-sign+in-Some-sign-2+in_ok-class-3 w ↦ record {
    leads =
        c.reading.invariant.leads
        ∙ loop_on (spec.next_class parts c.args.left) c.reading.found c.in_ok-found.found c.reading.cursor c.match-sign.cursor
        (rw (c.in_ok-found.ensures) (at_class _ _ _ w.advance-in-Some-sign-2.new.self _ c.match-sign.class _ w.in_default.ensures.found w.in_default-sign.ensures.found w.in-Some-sign-2.ensures.found (omega (arith, c.requires.room)) w.advance-in-Some-sign-2.ensures.rest (rw (w.class-is, w.cursor-is) w.in_ok-class-3.ensures.reads)))
        (omega (arith, w.in-Some-sign-2.ensures.there, w.advance-in-Some-sign-2.ensures.one_less, w.in_ok-class-3.ensures.no_longer, ap length w.cursor-is));
    no_longer = omega (arith, c.reading.invariant.no_longer, w.advance-in-Some-sign-2.ensures.one_less, w.in_ok-class-3.ensures.no_longer, ap length w.cursor-is);
    fits = search rules;
  }
]
