-- Lists of facts that rise by key, each key once: how a table is kept.
use Rattle.std.specs.Prelude.{Bool, true, ◌&&◌, List, [], ◌∷◌}
use Rattle.std.specs.Ordering.{is_lt}
use Rattle.ix_core.specs.declared.fact.Fact.{Fact}
use Rattle.ix_facts.specs.declared.kind.Kind.{Kind}
use Rattle.ix_facts.specs.Kinds.{is_of}
use Rattle.ix_fact_table.specs.FactOrder.{fact_cmp}
use Rattle.ix_fact_table.specs.Entries.{is_entry}

-- the fact's key is less than those of all the facts
abbrev pub is_below : Fact → List Fact → Bool
is_below f [] = true
is_below f (g ∷ facts) = is_lt (fact_cmp f g) && is_below f facts

-- each key is less than those after it
abbrev pub rises : List Fact → Bool
rises [] = true
rises (f ∷ facts) = is_below f facts && rises facts

-- each fact is of the kind, in the form in which a table keeps it
abbrev pub are_entries : Kind → List Fact → Bool
are_entries own [] = true
are_entries own (f ∷ facts) = (is_of own f && is_entry f) && are_entries own facts

-- the facts of a table of this kind
abbrev pub is_table_of : Kind → List Fact → Bool
is_table_of own facts = rises facts && are_entries own facts
