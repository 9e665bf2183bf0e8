use Rattle.std.proofs.Common.{◌≡◌, None, drop}
use Rattle.ix_meaning.specs.Members.{is_constructor_named}
use Rattle.ix_class_members.specs.First.{first_where}
use Rattle.ix_class_members.proofs.named.own_constructor.Given as goal

abbrev pub invariant-loop-k : goal.invariant-loop-k
invariant-loop-k l = first_where (is_constructor_named l.class l.name) None l.k (drop l.k l.methods) ≡ first_where (is_constructor_named l.class l.name) None 0 l.methods
