use Rattle.std.proofs.Common.{◌≡◌, ℕ, List, None, drop}
use Rattle.std.specs.HashMap.{get_by_text}
use Rattle.ix_meaning.specs.Members.{is_method_named}
use Rattle.ix_class_members.specs.First.{first_where}
use Rattle.ix_class_members.proofs.named.own_methods.Given as goal

abbrev pub invariant-loop-k : goal.invariant-loop-k
invariant-loop-k l = (name : List ℕ) → first_where (is_method_named l.class name) (get_by_text l.table name) l.k (drop l.k l.methods) ≡ first_where (is_method_named l.class name) None 0 l.methods
