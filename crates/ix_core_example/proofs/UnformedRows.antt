-- More programs that are not formed, each for one reason that the invariant of runs does not need, and beside each the same without it; and one that is formed
-- although a loop of it is never reached. But for that of `behind_scope` their methods have no locals, so no types of locals make them formed.
use Rattle.std.proofs.Common.{◌≡◌, Bool, pos, true, false, List, [], ◌∷◌, Some, None, refl, sym, ◌∙◌}
use Rattle.std.proofs.lemmas.Bool.{false≢true}
use Rattle.ix_num.specs.declared.rel.Rel.TheVariants as rel
use Rattle.ix_core.specs.declared.claim.Base.TheVariants as base
use Rattle.ix_core.specs.declared.claim.Claim.TheVariants as claim
use Rattle.ix_core.specs.declared.claim.Name.TheVariants as name
use Rattle.ix_core.specs.declared.claim.Off.TheVariants as off
use Rattle.ix_core.specs.declared.claim.Type_.{Type_}
use Rattle.ix_core.specs.declared.claim.Type_.TheVariants as type
use Rattle.ix_core.specs.declared.code.Cond.TheBlock.{hidden-the_row-Item-0, hidden-the_row-Cond-1}
use Rattle.ix_core.specs.declared.code.Cond.TheVariants as cond
use Rattle.ix_core.specs.declared.code.Item.TheVariants as item
use Rattle.ix_core.specs.declared.op.Literal.TheVariants as literal
use Rattle.ix_core.specs.declared.op.OpKind.TheVariants as op
use Rattle.ix_core.specs.declared.program.Program.{Program}
use Rattle.ix_core.specs.Formed.{Formed, is_formed}
use Rattle.ix_core.specs.Types.{is_type}
use Rattle.ix_core.proofs.Programs.{span, int, int_array, block, does, does_with, calls, test, param, local, static_method, instance_method, constructor_of, field, class_of, program}
use Rattle.ix_core.proofs.BrokenRows.{never}

-- a field that its class lists twice
abbrev twice : Program
twice = program (class_of None (0 ∷ 0 ∷ []) [] ∷ []) (field 0 int [] ∷ []) 0 []

not_twice : Formed twice → ⊥
unfolding hidden-the_row-Item-0 hidden-the_row-Cond-1 denote.Hole.Carrier.hidden
not_twice = never twice refl (λ all. refl) (λ ty types all. refl)

abbrev twice_mended : Program
twice_mended = program (class_of None (0 ∷ []) [] ∷ []) (field 0 int [] ∷ []) 0 []

twice_formed : Formed twice_mended
unfolding hidden-the_row-Item-0 hidden-the_row-Cond-1 denote.Hole.Carrier.hidden
twice_formed = ([], refl)

-- a method that its class lists twice
abbrev method_twice : Program
method_twice = program (class_of None [] (0 ∷ 0 ∷ []) ∷ []) [] 0 (constructor_of 0 [] [] [] 1 (block []) ∷ [])

not_method_twice : Formed method_twice → ⊥
unfolding hidden-the_row-Item-0 hidden-the_row-Cond-1 denote.Hole.Carrier.hidden
not_method_twice = never method_twice refl (λ all. refl) (λ ty types all. refl)

abbrev method_twice_mended : Program
method_twice_mended = program (class_of None [] (0 ∷ []) ∷ []) [] 0 (constructor_of 0 [] [] [] 1 (block []) ∷ [])

method_twice_formed : Formed method_twice_mended
unfolding hidden-the_row-Item-0 hidden-the_row-Cond-1 denote.Hole.Carrier.hidden
method_twice_formed = ([] ∷ [], refl)

-- a loop in the code of a comparison
abbrev loop_asked : Program
loop_asked = program (class_of None [] (0 ∷ []) ∷ []) [] 0 (static_method 0 [] [] int [] 3 (block (does (op.Const 0 (literal.Int (pos 0))) 0 1 ∷ item.If (cond.Compare (block (item.Loop true (cond.Known false) (block []) (block []) 0 1 ∷ [])) (test rel.Lt 0 0 int (span 0 1) (span 0 1))) (block []) (block []) ∷ item.Return (Some 0) (span 0 1) ∷ [])) ∷ [])

not_loop_asked : Formed loop_asked → ⊥
unfolding hidden-the_row-Item-0 hidden-the_row-Cond-1 denote.Hole.Carrier.hidden
not_loop_asked = never loop_asked refl (λ all. refl) (λ ty types all. refl)

abbrev loop_asked_mended : Program
loop_asked_mended = program (class_of None [] (0 ∷ []) ∷ []) [] 0 (static_method 0 [] [] int [] 3 (block (does (op.Const 0 (literal.Int (pos 0))) 0 1 ∷ item.If (cond.Compare (block []) (test rel.Lt 0 0 int (span 0 1) (span 0 1))) (block []) (block []) ∷ item.Return (Some 0) (span 0 1) ∷ [])) ∷ [])

loop_asked_formed : Formed loop_asked_mended
unfolding hidden-the_row-Item-0 hidden-the_row-Cond-1 denote.Hole.Carrier.hidden
loop_asked_formed = ([] ∷ [], refl)

-- a least length of an int
abbrev length_of_int : Program
length_of_int = program (class_of None [] (0 ∷ []) ∷ []) [] 0 (static_method 0 (param 0 (claim.Length (pos 2) ∷ []) ∷ []) (int ∷ []) int [] 2 (block (item.Return (Some 0) (span 0 1) ∷ [])) ∷ [])

not_length_of_int : Formed length_of_int → ⊥
unfolding hidden-the_row-Item-0 hidden-the_row-Cond-1 denote.Hole.Carrier.hidden
not_length_of_int = never length_of_int refl (λ all. refl) (λ ty types all. refl)

abbrev length_of_int_mended : Program
length_of_int_mended = program (class_of None [] (0 ∷ []) ∷ []) [] 0 (static_method 0 (param 0 (claim.Length (pos 2) ∷ []) ∷ []) (int_array ∷ []) int_array [] 2 (block (item.Return (Some 0) (span 0 1) ∷ [])) ∷ [])

length_of_int_formed : Formed length_of_int_mended
unfolding hidden-the_row-Item-0 hidden-the_row-Cond-1 denote.Hole.Carrier.hidden
length_of_int_formed = ([] ∷ [], refl)

-- a literal that is no int
abbrev no_int : Program
no_int = program (class_of None [] (0 ∷ []) ∷ []) [] 0 (static_method 0 [] [] int [] 2 (block (does (op.Const 0 (literal.Int (pos 2147483648))) 0 1 ∷ item.Return (Some 0) (span 0 1) ∷ [])) ∷ [])

not_no_int : Formed no_int → ⊥
unfolding hidden-the_row-Item-0 hidden-the_row-Cond-1 denote.Hole.Carrier.hidden
not_no_int = never no_int refl (λ all. refl) (λ ty types all. refl)

abbrev no_int_mended : Program
no_int_mended = program (class_of None [] (0 ∷ []) ∷ []) [] 0 (static_method 0 [] [] int [] 2 (block (does (op.Const 0 (literal.Int (pos 2147483647))) 0 1 ∷ item.Return (Some 0) (span 0 1) ∷ [])) ∷ [])

no_int_formed : Formed no_int_mended
unfolding hidden-the_row-Item-0 hidden-the_row-Cond-1 denote.Hole.Carrier.hidden
no_int_formed = ([] ∷ [], refl)

-- a claim on elements that names an array
abbrev named_element : Program
named_element = program (class_of None [] (0 ∷ []) ∷ []) [] 0 (static_method 0 (param 0 [] ∷ param 1 [] ∷ []) (type.Array base.Int 1 (claim.Upper (name.Param 1) off.Nothing (pos 0) ∷ []) ∷ int_array ∷ []) int_array [] 2 (block (item.Return (Some 1) (span 0 1) ∷ [])) ∷ [])

not_named_element : Formed named_element → ⊥
unfolding hidden-the_row-Item-0 hidden-the_row-Cond-1 denote.Hole.Carrier.hidden
not_named_element = never named_element refl (λ all. refl) (λ ty types all. refl)

abbrev named_element_mended : Program
named_element_mended = program (class_of None [] (0 ∷ []) ∷ []) [] 0 (static_method 0 (param 0 [] ∷ param 1 [] ∷ []) (type.Array base.Int 1 (claim.Low (pos 0) ∷ []) ∷ int_array ∷ []) int_array [] 2 (block (item.Return (Some 1) (span 0 1) ∷ [])) ∷ [])

named_element_formed : Formed named_element_mended
unfolding hidden-the_row-Item-0 hidden-the_row-Cond-1 denote.Hole.Carrier.hidden
named_element_formed = ([] ∷ [], refl)

-- a claim on the elements of an array of booleans
abbrev boolean_element : Program
boolean_element = program (class_of None [] (0 ∷ []) ∷ []) [] 0 (static_method 0 (param 0 [] ∷ []) (type.Array base.Bool 1 (claim.Low (pos 0) ∷ []) ∷ []) type.Void [] 1 (block []) ∷ [])

not_boolean_element : Formed boolean_element → ⊥
unfolding hidden-the_row-Item-0 hidden-the_row-Cond-1 denote.Hole.Carrier.hidden
not_boolean_element = never boolean_element refl (λ all. refl) (λ ty types all. refl)

abbrev boolean_element_mended : Program
boolean_element_mended = program (class_of None [] (0 ∷ []) ∷ []) [] 0 (static_method 0 (param 0 [] ∷ []) (type.Array base.Bool 1 [] ∷ []) type.Void [] 1 (block []) ∷ [])

boolean_element_formed : Formed boolean_element_mended
unfolding hidden-the_row-Item-0 hidden-the_row-Cond-1 denote.Hole.Carrier.hidden
boolean_element_formed = ([] ∷ [], refl)

-- loops of an `if` that are numbered against the order of the source
abbrev other_order : Program
other_order = program (class_of None [] (0 ∷ []) ∷ []) [] 0 (static_method 0 [] [] type.Void [] 1 (block (item.If (cond.Known true) (block (item.Loop true (cond.Known false) (block []) (block []) 1 0 ∷ [])) (block (item.Loop true (cond.Known false) (block []) (block []) 0 0 ∷ [])) ∷ [])) ∷ [])

not_other_order : Formed other_order → ⊥
unfolding hidden-the_row-Item-0 hidden-the_row-Cond-1 denote.Hole.Carrier.hidden
not_other_order = never other_order refl (λ all. refl) (λ ty types all. refl)

abbrev other_order_mended : Program
other_order_mended = program (class_of None [] (0 ∷ []) ∷ []) [] 0 (static_method 0 [] [] type.Void [] 1 (block (item.If (cond.Known true) (block (item.Loop true (cond.Known false) (block []) (block []) 0 0 ∷ [])) (block (item.Loop true (cond.Known false) (block []) (block []) 1 0 ∷ [])) ∷ [])) ∷ [])

other_order_formed : Formed other_order_mended
unfolding hidden-the_row-Item-0 hidden-the_row-Cond-1 denote.Hole.Carrier.hidden
other_order_formed = ([] ∷ [], refl)

-- a claim that names its own declaration
abbrev own_name : Program
own_name = program (class_of None [] (0 ∷ []) ∷ []) [] 0 (static_method 0 (param 0 (claim.Less (name.Param 0) (pos 1) ∷ []) ∷ param 1 [] ∷ []) (int ∷ int ∷ []) int [] 2 (block (item.Return (Some 0) (span 0 1) ∷ [])) ∷ [])

not_own_name : Formed own_name → ⊥
unfolding hidden-the_row-Item-0 hidden-the_row-Cond-1 denote.Hole.Carrier.hidden
not_own_name = never own_name refl (λ all. refl) (λ ty types all. refl)

abbrev own_name_mended : Program
own_name_mended = program (class_of None [] (0 ∷ []) ∷ []) [] 0 (static_method 0 (param 0 (claim.Less (name.Param 1) (pos 1) ∷ []) ∷ param 1 [] ∷ []) (int ∷ int ∷ []) int [] 2 (block (item.Return (Some 0) (span 0 1) ∷ [])) ∷ [])

own_name_formed : Formed own_name_mended
unfolding hidden-the_row-Item-0 hidden-the_row-Cond-1 denote.Hole.Carrier.hidden
own_name_formed = ([] ∷ [], refl)

-- a final field that a constructor of a class below writes
abbrev parents_final : Program
parents_final = program (class_of (Some 1) [] (0 ∷ []) ∷ class_of None (0 ∷ []) (1 ∷ []) ∷ []) (record (field 1 int []) { is_final = true } ∷ []) 0 (constructor_of 0 [] [] [] 3 (block (does (op.SuperCall (calls 1 1 (Some 0) [] 1 (span 0 1))) 0 1 ∷ does (op.Const 2 (literal.Int (pos 0))) 0 1 ∷ does_with (op.WriteField 0 0 2) 0 1 (span 0 1 ∷ span 0 1 ∷ []) ∷ [])) ∷ constructor_of 1 [] [] [] 1 (block []) ∷ [])

not_parents_final : Formed parents_final → ⊥
unfolding hidden-the_row-Item-0 hidden-the_row-Cond-1 denote.Hole.Carrier.hidden
not_parents_final = never parents_final refl (λ all. refl) (λ ty types all. refl)

abbrev parents_final_mended : Program
parents_final_mended = program (class_of (Some 1) [] (0 ∷ []) ∷ class_of None (0 ∷ []) (1 ∷ []) ∷ []) (field 1 int [] ∷ []) 0 (constructor_of 0 [] [] [] 3 (block (does (op.SuperCall (calls 1 1 (Some 0) [] 1 (span 0 1))) 0 1 ∷ does (op.Const 2 (literal.Int (pos 0))) 0 1 ∷ does_with (op.WriteField 0 0 2) 0 1 (span 0 1 ∷ span 0 1 ∷ []) ∷ [])) ∷ constructor_of 1 [] [] [] 1 (block []) ∷ [])

parents_final_formed : Formed parents_final_mended
unfolding hidden-the_row-Item-0 hidden-the_row-Cond-1 denote.Hole.Carrier.hidden
parents_final_formed = ([] ∷ [] ∷ [], refl)

-- a claim of a constructor's parameter that names a field
abbrev field_of_nothing : Program
field_of_nothing = program (class_of None (0 ∷ []) (0 ∷ []) ∷ []) (field 0 int [] ∷ []) 0 (constructor_of 0 (param 1 (claim.Less (name.FieldNamed 0) (pos 0) ∷ []) ∷ []) (int ∷ []) [] 2 (block []) ∷ [])

not_field_of_nothing : Formed field_of_nothing → ⊥
unfolding hidden-the_row-Item-0 hidden-the_row-Cond-1 denote.Hole.Carrier.hidden
not_field_of_nothing = never field_of_nothing refl (λ all. refl) (λ ty types all. refl)

abbrev field_of_nothing_mended : Program
field_of_nothing_mended = program (class_of None (0 ∷ []) (0 ∷ []) ∷ []) (field 0 int [] ∷ []) 0 (instance_method 0 (param 1 (claim.Less (name.FieldNamed 0) (pos 0) ∷ []) ∷ []) (int ∷ []) type.Void None [] 2 (block []) ∷ [])

field_of_nothing_formed : Formed field_of_nothing_mended
unfolding hidden-the_row-Item-0 hidden-the_row-Cond-1 denote.Hole.Carrier.hidden
field_of_nothing_formed = ([] ∷ [], refl)

-- a constructor that calls its parent's, and in a branch once more
abbrev super_in_branch : Program
super_in_branch = program (class_of (Some 1) [] (0 ∷ []) ∷ class_of None [] (1 ∷ []) ∷ []) [] 0 (constructor_of 0 [] [] [] 2 (block (does (op.SuperCall (calls 1 1 (Some 0) [] 1 (span 0 1))) 0 1 ∷ item.If (cond.Known true) (block (does (op.SuperCall (calls 1 1 (Some 0) [] 1 (span 0 1))) 0 1 ∷ [])) (block []) ∷ [])) ∷ constructor_of 1 [] [] [] 1 (block []) ∷ [])

not_super_in_branch : Formed super_in_branch → ⊥
unfolding hidden-the_row-Item-0 hidden-the_row-Cond-1 denote.Hole.Carrier.hidden
not_super_in_branch = never super_in_branch refl (λ all. refl) (λ ty types all. refl)

abbrev super_in_branch_mended : Program
super_in_branch_mended = program (class_of (Some 1) [] (0 ∷ []) ∷ class_of None [] (1 ∷ []) ∷ []) [] 0 (constructor_of 0 [] [] [] 2 (block (does (op.SuperCall (calls 1 1 (Some 0) [] 1 (span 0 1))) 0 1 ∷ item.If (cond.Known true) (block []) (block []) ∷ [])) ∷ constructor_of 1 [] [] [] 1 (block []) ∷ [])

super_in_branch_formed : Formed super_in_branch_mended
unfolding hidden-the_row-Item-0 hidden-the_row-Cond-1 denote.Hole.Carrier.hidden
super_in_branch_formed = ([] ∷ [] ∷ [], refl)

-- a method that overrides one of its own class
abbrev own_class : Program
own_class = program (class_of None [] (0 ∷ 1 ∷ []) ∷ []) [] 0 (instance_method 0 [] [] type.Void (Some 1) [] 1 (block []) ∷ instance_method 0 [] [] type.Void None [] 1 (block []) ∷ [])

not_own_class : Formed own_class → ⊥
unfolding hidden-the_row-Item-0 hidden-the_row-Cond-1 denote.Hole.Carrier.hidden
not_own_class = never own_class refl (λ all. refl) (λ ty types all. refl)

abbrev own_class_mended : Program
own_class_mended = program (class_of (Some 1) [] (0 ∷ []) ∷ class_of None [] (1 ∷ []) ∷ []) [] 0 (instance_method 0 [] [] type.Void (Some 1) [] 1 (block []) ∷ instance_method 1 [] [] type.Void None [] 1 (block []) ∷ [])

own_class_formed : Formed own_class_mended
unfolding hidden-the_row-Item-0 hidden-the_row-Cond-1 denote.Hole.Carrier.hidden
own_class_formed = ([] ∷ [] ∷ [], refl)

-- a store without the place of its value
abbrev store_without_part : Program
store_without_part = program (class_of None [] (0 ∷ []) ∷ []) [] 0 (static_method 0 (param 0 [] ∷ param 1 [] ∷ param 2 [] ∷ []) (int_array ∷ int ∷ int ∷ []) type.Void [] 3 (block (does_with (op.Store 0 1 2 int_array) 0 1 [] ∷ [])) ∷ [])

not_store_without_part : Formed store_without_part → ⊥
unfolding hidden-the_row-Item-0 hidden-the_row-Cond-1 denote.Hole.Carrier.hidden
not_store_without_part = never store_without_part refl (λ all. refl) (λ ty types all. refl)

abbrev store_without_part_mended : Program
store_without_part_mended = program (class_of None [] (0 ∷ []) ∷ []) [] 0 (static_method 0 (param 0 [] ∷ param 1 [] ∷ param 2 [] ∷ []) (int_array ∷ int ∷ int ∷ []) type.Void [] 3 (block (does_with (op.Store 0 1 2 int_array) 0 1 (span 0 1 ∷ []) ∷ [])) ∷ [])

store_without_part_formed : Formed store_without_part_mended
unfolding hidden-the_row-Item-0 hidden-the_row-Cond-1 denote.Hole.Carrier.hidden
store_without_part_formed = ([] ∷ [], refl)

-- two methods of a class that override one
abbrev two_overriding : Program
two_overriding = program (class_of (Some 1) [] (0 ∷ 1 ∷ []) ∷ class_of None [] (2 ∷ []) ∷ []) [] 0 (instance_method 0 [] [] type.Void (Some 2) [] 1 (block []) ∷ instance_method 0 [] [] type.Void (Some 2) [] 1 (block []) ∷ instance_method 1 [] [] type.Void None [] 1 (block []) ∷ [])

not_two_overriding : Formed two_overriding → ⊥
unfolding hidden-the_row-Item-0 hidden-the_row-Cond-1 denote.Hole.Carrier.hidden
not_two_overriding = never two_overriding refl (λ all. refl) (λ ty types all. refl)

abbrev two_overriding_mended : Program
two_overriding_mended = program (class_of (Some 1) [] (0 ∷ 1 ∷ []) ∷ class_of None [] (2 ∷ []) ∷ []) [] 0 (instance_method 0 [] [] type.Void (Some 2) [] 1 (block []) ∷ instance_method 0 [] [] type.Void None [] 1 (block []) ∷ instance_method 1 [] [] type.Void None [] 1 (block []) ∷ [])

two_overriding_formed : Formed two_overriding_mended
unfolding hidden-the_row-Item-0 hidden-the_row-Cond-1 denote.Hole.Carrier.hidden
two_overriding_formed = ([] ∷ [] ∷ [] ∷ [], refl)

-- a field's claim that names an inherited field which isn't final
abbrev inherited_name : Program
inherited_name = program (class_of (Some 1) (0 ∷ []) [] ∷ class_of None (1 ∷ []) [] ∷ []) (field 0 int (claim.Less (name.FieldNamed 1) (pos 0) ∷ []) ∷ field 1 int [] ∷ []) 0 []

not_inherited_name : Formed inherited_name → ⊥
unfolding hidden-the_row-Item-0 hidden-the_row-Cond-1 denote.Hole.Carrier.hidden
not_inherited_name = never inherited_name refl (λ all. refl) (λ ty types all. refl)

abbrev inherited_name_mended : Program
inherited_name_mended = program (class_of (Some 1) (0 ∷ []) [] ∷ class_of None (1 ∷ []) [] ∷ []) (field 0 int (claim.Less (name.FieldNamed 1) (pos 0) ∷ []) ∷ record (field 1 int []) { is_final = true } ∷ []) 0 []

inherited_name_formed : Formed inherited_name_mended
unfolding hidden-the_row-Item-0 hidden-the_row-Cond-1 denote.Hole.Carrier.hidden
inherited_name_formed = ([], refl)

-- a loop that is never reached may leave any types
abbrev unreached : Program
unreached = program (class_of None [] (0 ∷ []) ∷ []) [] 0 (static_method 0 [] [] int [] 3 (block (does (op.Const 0 (literal.Int (pos 0))) 0 1 ∷ item.Return (Some 0) (span 0 1) ∷ item.Loop true (cond.Known true) (block (does (op.Const 0 (literal.NullOf int_array)) 0 1 ∷ [])) (block []) 0 1 ∷ [])) ∷ [])

unreached_formed : Formed unreached
unfolding hidden-the_row-Item-0 hidden-the_row-Cond-1 denote.Hole.Carrier.hidden
unreached_formed = ([] ∷ [], refl)

-- a copy with the places of a variable and a value, at the end of the variable's scope
abbrev behind_scope : Program
behind_scope = program (class_of None [] (0 ∷ []) ∷ []) [] 0 (static_method 0 [] [] int (local 0 [] (span 0 1) ∷ []) 3 (block (does (op.Const 1 (literal.Int (pos 0))) 0 1 ∷ does_with (op.Copy 0 1 int) 1 2 (span 0 1 ∷ span 0 1 ∷ []) ∷ item.Return (Some 0) (span 0 1) ∷ [])) ∷ [])

behind_by : (ty : Type_) (b : Bool) → is_type behind_scope ty ≡ b → is_formed behind_scope ((ty ∷ []) ∷ []) ≡ false
unfolding hidden-the_row-Item-0 hidden-the_row-Cond-1 denote.Hole.Carrier.hidden
behind_by ty true h = rw h refl
behind_by ty false h = rw h refl

behind_more : (ty : Type_) (types : List Type_) (all : _) (b : Bool) → is_type behind_scope ty ≡ b → is_formed behind_scope ((ty ∷ []) ∷ types ∷ all) ≡ false
unfolding hidden-the_row-Item-0 hidden-the_row-Cond-1 denote.Hole.Carrier.hidden
behind_more ty types all true h = rw h refl
behind_more ty types all false h = rw h refl

behind_two : (ty other : Type_) (types : List Type_) (all : _) (b : Bool) → is_type behind_scope ty ≡ b → is_formed behind_scope ((ty ∷ other ∷ types) ∷ all) ≡ false
unfolding hidden-the_row-Item-0 hidden-the_row-Cond-1 denote.Hole.Carrier.hidden
behind_two ty other types all true h = rw h refl
behind_two ty other types all false h = rw h refl

not_behind_scope : Formed behind_scope → ⊥
unfolding hidden-the_row-Item-0 hidden-the_row-Cond-1 denote.Hole.Carrier.hidden
not_behind_scope ([], formed) = false≢true formed
not_behind_scope ([] ∷ all, formed) = false≢true formed
not_behind_scope ((ty ∷ []) ∷ [], formed) = false≢true (sym (behind_by ty (is_type behind_scope ty) refl) ∙ formed)
not_behind_scope ((ty ∷ []) ∷ types ∷ all, formed) = false≢true (sym (behind_more ty types all (is_type behind_scope ty) refl) ∙ formed)
not_behind_scope ((ty ∷ other ∷ types) ∷ all, formed) = false≢true (sym (behind_two ty other types all (is_type behind_scope ty) refl) ∙ formed)

abbrev behind_scope_mended : Program
behind_scope_mended = program (class_of None [] (0 ∷ []) ∷ []) [] 0 (static_method 0 [] [] int (local 0 [] (span 0 1) ∷ []) 3 (block (does (op.Const 1 (literal.Int (pos 0))) 0 1 ∷ does_with (op.Copy 0 1 int) 0 2 (span 0 1 ∷ span 0 1 ∷ []) ∷ item.Return (Some 0) (span 0 1) ∷ [])) ∷ [])

behind_scope_formed : Formed behind_scope_mended
unfolding hidden-the_row-Item-0 hidden-the_row-Cond-1 denote.Hole.Carrier.hidden
behind_scope_formed = ((int ∷ []) ∷ [], refl)
