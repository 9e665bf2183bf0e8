-- Which facts may stand in a label of a method of two slots in a program of one field.
use Rattle.std.specs.Prelude.{◌≡◌, Bool, true, false, pos, negsuc, refl}
use Rattle.ix_num.specs.Ints.{least_int, greatest_int}
use Rattle.ix_core.specs.declared.fact.Fact.{Fact}
use Rattle.ix_core.specs.declared.fact.Fact.TheVariants.{Rng, Same, Less, Upper}
use Rattle.ix_core.specs.declared.fact.Path.TheVariants.{Slot, FieldOf}
use Rattle.ix_core.specs.declared.fact.PathOff.TheVariants.{Plus}
use Rattle.ix_certify.specs.Within.{is_inside, is_within}

may_stand : Fact → Bool
may_stand = is_within (is_inside 2 1)

a_slot_that_is_there : may_stand (Rng (Slot 1) (pos 0) (pos 9)) ≡ true
unfolding may_stand
a_slot_that_is_there = refl

a_slot_past_the_last : may_stand (Rng (Slot 2) (pos 0) (pos 9)) ≡ false
unfolding may_stand
a_slot_past_the_last = refl

any_int_of_any_slot : may_stand (Rng (Slot 2) least_int greatest_int) ≡ true
unfolding may_stand
any_int_of_any_slot = refl

a_field_that_is_there : may_stand (Same (FieldOf 1 0) (Slot 0)) ≡ true
unfolding may_stand
a_field_that_is_there = refl

a_field_past_the_last : may_stand (Same (FieldOf 1 1) (Slot 0)) ≡ false
unfolding may_stand
a_field_past_the_last = refl

a_field_in_a_slot_past_the_last : may_stand (Same (FieldOf 2 0) (Slot 0)) ≡ false
unfolding may_stand
a_field_in_a_slot_past_the_last = refl

two_ints : may_stand (Less (Slot 0) (Slot 1) (pos 3)) ≡ true
unfolding may_stand
two_ints = refl

an_int_and_itself : may_stand (Less (Slot 0) (Slot 0) (pos 3)) ≡ false
unfolding may_stand
an_int_and_itself = refl

an_array_and_itself : may_stand (Same (Slot 0) (Slot 0)) ≡ true
unfolding may_stand
an_array_and_itself = refl

an_offset_past_the_last_slot : may_stand (Upper (Slot 0) (Slot 1) (Plus (Slot 2)) (negsuc 0)) ≡ false
unfolding may_stand
an_offset_past_the_last_slot = refl
