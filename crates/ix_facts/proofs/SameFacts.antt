-- How rows of computed facts are compared: two lists of facts are the same where each says all facts of the other. Ranges of one path are met.
use Rattle.std.specs.Prelude.{Bool, true, false, ◌&&◌, ◌||◌, int_le, List, [], ◌∷◌, ◌++◌}
use Rattle.ix_core.specs.declared.claim.Base.TheVariants as base
use Rattle.ix_core.specs.declared.claim.Type_.{Type_}
use Rattle.ix_core.specs.declared.claim.Type_.TheVariants as type
use Rattle.ix_core.specs.declared.fact.Fact.{Fact}
use Rattle.ix_core.specs.declared.fact.Fact.TheVariants.{Rng, LenRng, Low, Same, IsLen, Less, Sum, Search, Neg, Upper}
use Rattle.ix_facts.specs.Facts.{in_orders}
use Rattle.ix_facts.specs.Bounds
use Rattle.ix_facts.specs.Bounds.{is_path, is_offset}
use Rattle.ix_facts.specs.Closure.{kept}
use Rattle.ix_facts.specs.AfterTest.{Outcome, outcome_facts}

abbrev pub int : Type_
int = type.Plain base.Int

abbrev pub ints : Type_
ints = type.Array base.Int 1 []

-- the first fact is at the second's key and at least as strong
abbrev pub covers : Fact → Fact → Bool
covers (Low p c) (Low q d) = is_path p q && int_le d c
covers (Same a b) (Same c d) = is_path a c && is_path b d
covers (IsLen p a) (IsLen q b) = is_path p q && is_path a b
covers (Less p q c) (Less r s d) = (is_path p r && is_path q s) && int_le c d
covers (Sum t y z) (Sum u p q) = is_path t u && (is_path y p && is_path z q)
covers (Search p a) (Search q b) = is_path p q && is_path a b
covers (Neg p a) (Neg q b) = is_path p q && is_path a b
covers (Upper p a o c) (Upper q b x d) = (is_path p q && is_path a b) && (is_offset o x && int_le d c)
covers _ _ = false

abbrev pub is_covered : List Fact → Fact → Bool
is_covered [] fact = false
is_covered (other ∷ facts) fact = covers other fact || is_covered facts fact

-- the facts, in all their orders, say the fact
abbrev pub is_said : List Fact → Fact → Bool
is_said facts (Rng p l h) = int_le l (Bounds.own_low facts p) && int_le (Bounds.range_high facts p) h
is_said facts (LenRng a l h) = int_le l (Bounds.length_low facts a) && int_le (Bounds.length_high facts a) h
is_said facts fact = is_covered facts fact

abbrev pub all_said : List Fact → List Fact → Bool
all_said facts [] = true
all_said facts (fact ∷ others) = is_said facts fact && all_said facts others

abbrev pub same_facts : List Fact → List Fact → Bool
same_facts facts others = all_said (in_orders facts) others && all_said (in_orders others) facts

-- the facts with what some outcomes of a test give, one after the other
abbrev pub told : List Outcome → List Fact → List Fact
told [] facts = facts
told (outcome ∷ outcomes) facts = told outcomes (facts ++ kept (outcome_facts (in_orders facts) outcome))
