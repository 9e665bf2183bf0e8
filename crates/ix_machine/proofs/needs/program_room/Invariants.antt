use Rattle.std.proofs.Common.{◌≡◌, ◌≤◌, max, drop}
use Rattle.ix_machine.specs.Programs.{places_of, values_of}
use Rattle.ix_machine.proofs.needs.program_room.Given as goal

abbrev pub invariant-loop-method : goal.invariant-loop-method
invariant-loop-method l = record {
  places : max l.places (places_of (drop l.method-index l.methods)) ≡ places_of l.methods;
  values : max l.values (values_of (drop l.method-index l.methods)) ≡ values_of l.methods;
  least : 1 ≤ l.places;
}
