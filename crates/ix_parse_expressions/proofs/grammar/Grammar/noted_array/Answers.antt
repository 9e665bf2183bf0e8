use Rattle.std.proofs.Common.{rules, arith}
use Rattle.ix_parse_expressions.proofs.grammar.Grammar.noted_array.Goals as goal

pub array-requires : goal.array-requires
array-requires g c = record {
  parts = c.requires.parts;
  few = omega (arith, c.requires.few, c.advance.ensures.one_less);
  low = c.requires.low;
  type_room = search rules;
  room = omega (arith, c.requires.room);
}

pub array-requires-in-Some-sign : goal.array-requires-in-Some-sign
array-requires-in-Some-sign g c = record {
  parts = c.requires.parts;
  few = omega (arith, c.requires.few, c.advance-in-Some-sign.ensures.one_less);
  low = c.requires.low;
  type_room = search rules;
  room = omega (arith, c.requires.room);
}

pub array-requires-2 : goal.array-requires-2
array-requires-2 g c = record {
  parts = c.requires.parts;
  few = omega (arith, c.requires.few, c.in_ok-name.ensures.shorter);
  low = c.requires.low;
  type_room = search rules;
  room = omega (arith, c.requires.room);
}
