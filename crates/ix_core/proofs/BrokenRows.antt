-- Programs that are not formed, each for one reason, and beside each the same without it. Their methods have no locals, so no types of locals make them so.
use Rattle.std.proofs.Common.{◌≡◌, pos, true, false, List, [], ◌∷◌, Some, None, refl, sym, ◌∙◌}
use Rattle.std.proofs.lemmas.Bool.{false≢true}
use Rattle.ix_num.specs.declared.arith.Arith.TheVariants.{Add}
use Rattle.ix_num.specs.declared.rel.Rel.TheVariants as rel
use Rattle.ix_core.specs.declared.claim.Claim.TheVariants as claim
use Rattle.ix_core.specs.declared.claim.Name.TheVariants as name
use Rattle.ix_core.specs.declared.claim.Off.TheVariants as off
use Rattle.ix_core.specs.declared.claim.Type_.{Type_}
use Rattle.ix_core.specs.declared.claim.Type_.TheVariants as type
use Rattle.ix_core.specs.declared.code.Cond.TheBlock.{hidden-the_row-Item-0, hidden-the_row-Cond-1}
use Rattle.ix_core.specs.declared.code.Cond.TheVariants as cond
use Rattle.ix_core.specs.declared.code.Item.TheVariants as item
use Rattle.ix_core.specs.declared.op.Literal.TheVariants as literal
use Rattle.ix_core.specs.declared.op.OpKind.TheVariants as op
use Rattle.ix_core.specs.declared.program.Program.{Program}
use Rattle.ix_core.specs.Formed.{Formed, is_formed}
use Rattle.ix_core.proofs.Programs.{span, int, boolean, int_array, block, does, does_with, arg, calls, test, param, static_method, instance_method, constructor_of, field, class_of, program}

-- no types of locals for two methods without locals
pub never : (broken : Program) → is_formed broken [] ≡ false → ((all : _) → is_formed broken ([] ∷ all) ≡ false) → ((ty : Type_) (types : List Type_) (all : _) → is_formed broken ((ty ∷ types) ∷ all) ≡ false) → Formed broken → ⊥
never broken none some other ([], formed) = false≢true (sym none ∙ formed)
never broken none some other ([] ∷ all, formed) = false≢true (sym (some all) ∙ formed)
never broken none some other ((ty ∷ types) ∷ all, formed) = false≢true (sym (other ty types all) ∙ formed)

-- a slot past the frame
abbrev past_frame : Program
past_frame = program (class_of None [] (0 ∷ []) ∷ []) [] 0 (static_method 0 [] [] int [] 3 (block (does (op.Const 3 (literal.Int (pos 0))) 0 1 ∷ item.Return (Some 3) (span 0 1) ∷ [])) ∷ [])

not_past_frame : Formed past_frame → ⊥
unfolding hidden-the_row-Item-0 hidden-the_row-Cond-1 denote.Hole.Carrier.hidden
not_past_frame = never past_frame refl (λ all. refl) (λ ty types all. refl)

abbrev past_frame_mended : Program
past_frame_mended = program (class_of None [] (0 ∷ []) ∷ []) [] 0 (static_method 0 [] [] int [] 4 (block (does (op.Const 3 (literal.Int (pos 0))) 0 1 ∷ item.Return (Some 3) (span 0 1) ∷ [])) ∷ [])

past_frame_formed : Formed past_frame_mended
unfolding hidden-the_row-Item-0 hidden-the_row-Cond-1 denote.Hole.Carrier.hidden
past_frame_formed = ([] ∷ [], refl)

-- a slot that is read and wasn't written on every way there
abbrev unwritten : Program
unwritten = program (class_of None [] (0 ∷ []) ∷ []) [] 0 (static_method 0 [] [] int [] 3 (block (item.If (cond.Known true) (block (does (op.Const 0 (literal.Int (pos 0))) 0 1 ∷ [])) (block []) ∷ item.Return (Some 0) (span 0 1) ∷ [])) ∷ [])

not_unwritten : Formed unwritten → ⊥
unfolding hidden-the_row-Item-0 hidden-the_row-Cond-1 denote.Hole.Carrier.hidden
not_unwritten = never unwritten refl (λ all. refl) (λ ty types all. refl)

abbrev unwritten_mended : Program
unwritten_mended = program (class_of None [] (0 ∷ []) ∷ []) [] 0 (static_method 0 [] [] int [] 3 (block (item.If (cond.Known true) (block (does (op.Const 0 (literal.Int (pos 0))) 0 1 ∷ [])) (block (does (op.Const 0 (literal.Int (pos 0))) 0 1 ∷ [])) ∷ item.Return (Some 0) (span 0 1) ∷ [])) ∷ [])

unwritten_formed : Formed unwritten_mended
unfolding hidden-the_row-Item-0 hidden-the_row-Cond-1 denote.Hole.Carrier.hidden
unwritten_formed = ([] ∷ [], refl)

-- an int where an array is needed
abbrev wrong_type : Program
wrong_type = program (class_of None [] (0 ∷ []) ∷ []) [] 0 (static_method 0 [] [] int [] 3 (block (does (op.Const 0 (literal.Int (pos 0))) 0 1 ∷ does (op.Length 1 0) 0 1 ∷ item.Return (Some 1) (span 0 1) ∷ [])) ∷ [])

not_wrong_type : Formed wrong_type → ⊥
unfolding hidden-the_row-Item-0 hidden-the_row-Cond-1 denote.Hole.Carrier.hidden
not_wrong_type = never wrong_type refl (λ all. refl) (λ ty types all. refl)

abbrev wrong_type_mended : Program
wrong_type_mended = program (class_of None [] (0 ∷ []) ∷ []) [] 0 (static_method 0 [] [] int [] 3 (block (does (op.Const 0 (literal.NullOf int_array)) 0 1 ∷ does (op.Length 1 0) 0 1 ∷ item.Return (Some 1) (span 0 1) ∷ [])) ∷ [])

wrong_type_formed : Formed wrong_type_mended
unfolding hidden-the_row-Item-0 hidden-the_row-Cond-1 denote.Hole.Carrier.hidden
wrong_type_formed = ([] ∷ [], refl)

-- null as an int
abbrev null_int : Program
null_int = program (class_of None [] (0 ∷ []) ∷ []) [] 0 (static_method 0 [] [] int [] 3 (block (does (op.Const 0 (literal.NullOf int)) 0 1 ∷ item.Return (Some 0) (span 0 1) ∷ [])) ∷ [])

not_null_int : Formed null_int → ⊥
unfolding hidden-the_row-Item-0 hidden-the_row-Cond-1 denote.Hole.Carrier.hidden
not_null_int = never null_int refl (λ all. refl) (λ ty types all. refl)

abbrev null_int_mended : Program
null_int_mended = program (class_of None [] (0 ∷ []) ∷ []) [] 0 (static_method 0 [] [] int [] 3 (block (does (op.Const 0 (literal.Int (pos 0))) 0 1 ∷ item.Return (Some 0) (span 0 1) ∷ [])) ∷ [])

null_int_formed : Formed null_int_mended
unfolding hidden-the_row-Item-0 hidden-the_row-Cond-1 denote.Hole.Carrier.hidden
null_int_formed = ([] ∷ [], refl)

-- a target that is an operand
abbrev own_operand : Program
own_operand = program (class_of None [] (0 ∷ []) ∷ []) [] 0 (static_method 0 [] [] int [] 3 (block (does (op.Const 0 (literal.Int (pos 0))) 0 1 ∷ does (op.Num 0 Add 0 0) 0 1 ∷ item.Return (Some 0) (span 0 1) ∷ [])) ∷ [])

not_own_operand : Formed own_operand → ⊥
unfolding hidden-the_row-Item-0 hidden-the_row-Cond-1 denote.Hole.Carrier.hidden
not_own_operand = never own_operand refl (λ all. refl) (λ ty types all. refl)

abbrev own_operand_mended : Program
own_operand_mended = program (class_of None [] (0 ∷ []) ∷ []) [] 0 (static_method 0 [] [] int [] 3 (block (does (op.Const 0 (literal.Int (pos 0))) 0 1 ∷ does (op.Num 1 Add 0 0) 0 1 ∷ item.Return (Some 1) (span 0 1) ∷ [])) ∷ [])

own_operand_formed : Formed own_operand_mended
unfolding hidden-the_row-Item-0 hidden-the_row-Cond-1 denote.Hole.Carrier.hidden
own_operand_formed = ([] ∷ [], refl)

-- a parameter as the target of an operation that is no copy
abbrev param_target : Program
param_target = program (class_of None [] (0 ∷ []) ∷ []) [] 0 (static_method 0 (param 0 [] ∷ []) (int ∷ []) int [] 3 (block (does (op.Const 0 (literal.Int (pos 0))) 0 1 ∷ item.Return (Some 0) (span 0 1) ∷ [])) ∷ [])

not_param_target : Formed param_target → ⊥
unfolding hidden-the_row-Item-0 hidden-the_row-Cond-1 denote.Hole.Carrier.hidden
not_param_target = never param_target refl (λ all. refl) (λ ty types all. refl)

abbrev param_target_mended : Program
param_target_mended = program (class_of None [] (0 ∷ []) ∷ []) [] 0 (static_method 0 (param 0 [] ∷ []) (int ∷ []) int [] 3 (block (does (op.Const 1 (literal.Int (pos 0))) 0 1 ∷ item.Return (Some 1) (span 0 1) ∷ [])) ∷ [])

param_target_formed : Formed param_target_mended
unfolding hidden-the_row-Item-0 hidden-the_row-Cond-1 denote.Hole.Carrier.hidden
param_target_formed = ([] ∷ [], refl)

-- a copy into a parameter without the places of its parts
abbrev no_parts : Program
no_parts = program (class_of None [] (0 ∷ []) ∷ []) [] 0 (static_method 0 (param 0 [] ∷ []) (int ∷ []) int [] 3 (block (does (op.Const 1 (literal.Int (pos 0))) 0 1 ∷ does (op.Copy 0 1 int) 0 1 ∷ item.Return (Some 0) (span 0 1) ∷ [])) ∷ [])

not_no_parts : Formed no_parts → ⊥
unfolding hidden-the_row-Item-0 hidden-the_row-Cond-1 denote.Hole.Carrier.hidden
not_no_parts = never no_parts refl (λ all. refl) (λ ty types all. refl)

abbrev no_parts_mended : Program
no_parts_mended = program (class_of None [] (0 ∷ []) ∷ []) [] 0 (static_method 0 (param 0 [] ∷ []) (int ∷ []) int [] 3 (block (does (op.Const 1 (literal.Int (pos 0))) 0 1 ∷ does_with (op.Copy 0 1 int) 0 1 (span 0 1 ∷ span 0 1 ∷ []) ∷ item.Return (Some 0) (span 0 1) ∷ [])) ∷ [])

no_parts_formed : Formed no_parts_mended
unfolding hidden-the_row-Item-0 hidden-the_row-Cond-1 denote.Hole.Carrier.hidden
no_parts_formed = ([] ∷ [], refl)

-- a `return` without a value where there is a result
abbrev no_value : Program
no_value = program (class_of None [] (0 ∷ []) ∷ []) [] 0 (static_method 0 [] [] int [] 3 (block (item.Return None (span 0 1) ∷ [])) ∷ [])

not_no_value : Formed no_value → ⊥
unfolding hidden-the_row-Item-0 hidden-the_row-Cond-1 denote.Hole.Carrier.hidden
not_no_value = never no_value refl (λ all. refl) (λ ty types all. refl)

abbrev no_value_mended : Program
no_value_mended = program (class_of None [] (0 ∷ []) ∷ []) [] 0 (static_method 0 [] [] type.Void [] 3 (block (item.Return None (span 0 1) ∷ [])) ∷ [])

no_value_formed : Formed no_value_mended
unfolding hidden-the_row-Item-0 hidden-the_row-Cond-1 denote.Hole.Carrier.hidden
no_value_formed = ([] ∷ [], refl)

-- a `break` in no loop
abbrev stray_break : Program
stray_break = program (class_of None [] (0 ∷ []) ∷ []) [] 0 (static_method 0 [] [] int [] 3 (block (item.Break ∷ does (op.Const 0 (literal.Int (pos 0))) 0 1 ∷ item.Return (Some 0) (span 0 1) ∷ [])) ∷ [])

not_stray_break : Formed stray_break → ⊥
unfolding hidden-the_row-Item-0 hidden-the_row-Cond-1 denote.Hole.Carrier.hidden
not_stray_break = never stray_break refl (λ all. refl) (λ ty types all. refl)

abbrev stray_break_mended : Program
stray_break_mended = program (class_of None [] (0 ∷ []) ∷ []) [] 0 (static_method 0 [] [] int [] 3 (block (item.Loop true (cond.Known true) (block (item.Break ∷ [])) (block []) 0 0 ∷ does (op.Const 0 (literal.Int (pos 0))) 0 1 ∷ item.Return (Some 0) (span 0 1) ∷ [])) ∷ [])

stray_break_formed : Formed stray_break_mended
unfolding hidden-the_row-Item-0 hidden-the_row-Cond-1 denote.Hole.Carrier.hidden
stray_break_formed = ([] ∷ [], refl)

-- a loop that hasn't the first number
abbrev wrong_number : Program
wrong_number = program (class_of None [] (0 ∷ []) ∷ []) [] 0 (static_method 0 [] [] int [] 3 (block (item.Loop true (cond.Known false) (block []) (block []) 1 0 ∷ does (op.Const 0 (literal.Int (pos 0))) 0 1 ∷ item.Return (Some 0) (span 0 1) ∷ [])) ∷ [])

not_wrong_number : Formed wrong_number → ⊥
unfolding hidden-the_row-Item-0 hidden-the_row-Cond-1 denote.Hole.Carrier.hidden
not_wrong_number = never wrong_number refl (λ all. refl) (λ ty types all. refl)

abbrev wrong_number_mended : Program
wrong_number_mended = program (class_of None [] (0 ∷ []) ∷ []) [] 0 (static_method 0 [] [] int [] 3 (block (item.Loop true (cond.Known false) (block []) (block []) 0 0 ∷ does (op.Const 0 (literal.Int (pos 0))) 0 1 ∷ item.Return (Some 0) (span 0 1) ∷ [])) ∷ [])

wrong_number_formed : Formed wrong_number_mended
unfolding hidden-the_row-Item-0 hidden-the_row-Cond-1 denote.Hole.Carrier.hidden
wrong_number_formed = ([] ∷ [], refl)

-- a loop whose turn leaves another type in a slot that was written before it
abbrev other_at_turn : Program
other_at_turn = program (class_of None [] (0 ∷ []) ∷ []) [] 0 (static_method 0 [] [] int [] 3 (block (does (op.Const 0 (literal.Int (pos 0))) 0 1 ∷ item.Loop true (cond.Known false) (block (does (op.Const 0 (literal.NullOf int_array)) 0 1 ∷ [])) (block []) 0 1 ∷ item.Return (Some 0) (span 0 1) ∷ [])) ∷ [])

not_other_at_turn : Formed other_at_turn → ⊥
unfolding hidden-the_row-Item-0 hidden-the_row-Cond-1 denote.Hole.Carrier.hidden
not_other_at_turn = never other_at_turn refl (λ all. refl) (λ ty types all. refl)

abbrev other_at_turn_mended : Program
other_at_turn_mended = program (class_of None [] (0 ∷ []) ∷ []) [] 0 (static_method 0 [] [] int [] 3 (block (does (op.Const 0 (literal.Int (pos 0))) 0 1 ∷ item.Loop true (cond.Known false) (block (does (op.Const 0 (literal.Int (pos 0))) 0 1 ∷ [])) (block []) 0 1 ∷ item.Return (Some 0) (span 0 1) ∷ [])) ∷ [])

other_at_turn_formed : Formed other_at_turn_mended
unfolding hidden-the_row-Item-0 hidden-the_row-Cond-1 denote.Hole.Carrier.hidden
other_at_turn_formed = ([] ∷ [], refl)

-- a `return` in a block of a condition
abbrev asking_return : Program
asking_return = program (class_of None [] (0 ∷ []) ∷ []) [] 0 (static_method 0 [] [] int [] 3 (block (does (op.Const 0 (literal.Int (pos 0))) 0 1 ∷ item.If (cond.Compare (block (item.Return (Some 0) (span 0 1) ∷ [])) (test rel.Lt 0 0 int (span 0 1) (span 0 1))) (block []) (block []) ∷ item.Return (Some 0) (span 0 1) ∷ [])) ∷ [])

not_asking_return : Formed asking_return → ⊥
unfolding hidden-the_row-Item-0 hidden-the_row-Cond-1 denote.Hole.Carrier.hidden
not_asking_return = never asking_return refl (λ all. refl) (λ ty types all. refl)

abbrev asking_return_mended : Program
asking_return_mended = program (class_of None [] (0 ∷ []) ∷ []) [] 0 (static_method 0 [] [] int [] 3 (block (does (op.Const 0 (literal.Int (pos 0))) 0 1 ∷ item.If (cond.Compare (block (does (op.Const 1 (literal.Int (pos 0))) 0 1 ∷ [])) (test rel.Lt 0 1 int (span 0 1) (span 0 1))) (block []) (block []) ∷ item.Return (Some 0) (span 0 1) ∷ [])) ∷ [])

asking_return_formed : Formed asking_return_mended
unfolding hidden-the_row-Item-0 hidden-the_row-Cond-1 denote.Hole.Carrier.hidden
asking_return_formed = ([] ∷ [], refl)

-- a call without an argument for its parameter
abbrev few_args : Program
few_args = program (class_of None [] (0 ∷ []) ∷ []) [] 0 (static_method 0 (param 0 [] ∷ []) (int ∷ []) int [] 3 (block (does (op.StaticCall (calls 1 0 None [] 0 (span 0 1))) 0 1 ∷ item.Return (Some 1) (span 0 1) ∷ [])) ∷ [])

not_few_args : Formed few_args → ⊥
unfolding hidden-the_row-Item-0 hidden-the_row-Cond-1 denote.Hole.Carrier.hidden
not_few_args = never few_args refl (λ all. refl) (λ ty types all. refl)

abbrev few_args_mended : Program
few_args_mended = program (class_of None [] (0 ∷ []) ∷ []) [] 0 (static_method 0 (param 0 [] ∷ []) (int ∷ []) int [] 3 (block (does (op.StaticCall (calls 1 0 None (arg 0 0 1 ∷ []) 0 (span 0 1))) 0 1 ∷ item.Return (Some 1) (span 0 1) ∷ [])) ∷ [])

few_args_formed : Formed few_args_mended
unfolding hidden-the_row-Item-0 hidden-the_row-Cond-1 denote.Hole.Carrier.hidden
few_args_formed = ([] ∷ [], refl)

-- a claim that names an int as an array
abbrev claim_on_int : Program
claim_on_int = program (class_of None [] (0 ∷ []) ∷ []) [] 0 (static_method 0 (param 0 (claim.Upper (name.Param 1) off.Nothing (pos 0) ∷ []) ∷ param 1 [] ∷ []) (int ∷ int ∷ []) int [] 3 (block (item.Return (Some 0) (span 0 1) ∷ [])) ∷ [])

not_claim_on_int : Formed claim_on_int → ⊥
unfolding hidden-the_row-Item-0 hidden-the_row-Cond-1 denote.Hole.Carrier.hidden
not_claim_on_int = never claim_on_int refl (λ all. refl) (λ ty types all. refl)

abbrev claim_on_int_mended : Program
claim_on_int_mended = program (class_of None [] (0 ∷ []) ∷ []) [] 0 (static_method 0 (param 0 (claim.Upper (name.Param 1) off.Nothing (pos 0) ∷ []) ∷ param 1 [] ∷ []) (int ∷ int_array ∷ []) int [] 3 (block (item.Return (Some 0) (span 0 1) ∷ [])) ∷ [])

claim_on_int_formed : Formed claim_on_int_mended
unfolding hidden-the_row-Item-0 hidden-the_row-Cond-1 denote.Hole.Carrier.hidden
claim_on_int_formed = ([] ∷ [], refl)

-- a final field that is written in a method
abbrev final_write : Program
final_write = program (class_of None (0 ∷ []) (0 ∷ []) ∷ []) (record (field 0 int []) { is_final = true } ∷ []) 0 (instance_method 0 [] [] type.Void None [] 3 (block (does (op.Const 1 (literal.Int (pos 0))) 0 1 ∷ does_with (op.WriteField 0 0 1) 0 1 (span 0 1 ∷ span 0 1 ∷ []) ∷ [])) ∷ [])

not_final_write : Formed final_write → ⊥
unfolding hidden-the_row-Item-0 hidden-the_row-Cond-1 denote.Hole.Carrier.hidden
not_final_write = never final_write refl (λ all. refl) (λ ty types all. refl)

abbrev final_write_mended : Program
final_write_mended = program (class_of None (0 ∷ []) (0 ∷ []) ∷ []) (record (field 0 int []) { is_final = true } ∷ []) 0 (constructor_of 0 [] [] [] 3 (block (does (op.Const 1 (literal.Int (pos 0))) 0 1 ∷ does_with (op.WriteField 0 0 1) 0 1 (span 0 1 ∷ span 0 1 ∷ []) ∷ [])) ∷ [])

final_write_formed : Formed final_write_mended
unfolding hidden-the_row-Item-0 hidden-the_row-Cond-1 denote.Hole.Carrier.hidden
final_write_formed = ([] ∷ [], refl)

-- a constructor that doesn't call its parent's
abbrev no_super : Program
no_super = program (class_of (Some 1) [] (0 ∷ []) ∷ class_of None [] (1 ∷ []) ∷ []) [] 0 (constructor_of 0 [] [] [] 2 (block []) ∷ constructor_of 1 [] [] [] 1 (block []) ∷ [])

not_no_super : Formed no_super → ⊥
unfolding hidden-the_row-Item-0 hidden-the_row-Cond-1 denote.Hole.Carrier.hidden
not_no_super = never no_super refl (λ all. refl) (λ ty types all. refl)

abbrev no_super_mended : Program
no_super_mended = program (class_of (Some 1) [] (0 ∷ []) ∷ class_of None [] (1 ∷ []) ∷ []) [] 0 (constructor_of 0 [] [] [] 2 (block (does (op.SuperCall (calls 1 1 (Some 0) [] 1 (span 0 1))) 0 1 ∷ [])) ∷ constructor_of 1 [] [] [] 1 (block []) ∷ [])

no_super_formed : Formed no_super_mended
unfolding hidden-the_row-Item-0 hidden-the_row-Cond-1 denote.Hole.Carrier.hidden
no_super_formed = ([] ∷ [] ∷ [], refl)

-- a constructor that calls its parent's twice
abbrev two_supers : Program
two_supers = program (class_of (Some 1) [] (0 ∷ []) ∷ class_of None [] (1 ∷ []) ∷ []) [] 0 (constructor_of 0 [] [] [] 2 (block (does (op.SuperCall (calls 1 1 (Some 0) [] 1 (span 0 1))) 0 1 ∷ does (op.SuperCall (calls 1 1 (Some 0) [] 1 (span 0 1))) 0 1 ∷ [])) ∷ constructor_of 1 [] [] [] 1 (block []) ∷ [])

not_two_supers : Formed two_supers → ⊥
unfolding hidden-the_row-Item-0 hidden-the_row-Cond-1 denote.Hole.Carrier.hidden
not_two_supers = never two_supers refl (λ all. refl) (λ ty types all. refl)

-- a call of the parent's constructor that is no item of the body itself
abbrev inner_super : Program
inner_super = program (class_of (Some 1) [] (0 ∷ []) ∷ class_of None [] (1 ∷ []) ∷ []) [] 0 (constructor_of 0 [] [] [] 2 (block (item.If (cond.Known true) (block (does (op.SuperCall (calls 1 1 (Some 0) [] 1 (span 0 1))) 0 1 ∷ [])) (block []) ∷ [])) ∷ constructor_of 1 [] [] [] 1 (block []) ∷ [])

not_inner_super : Formed inner_super → ⊥
unfolding hidden-the_row-Item-0 hidden-the_row-Cond-1 denote.Hole.Carrier.hidden
not_inner_super = never inner_super refl (λ all. refl) (λ ty types all. refl)

-- a use of `this` before the parent's constructor has run
abbrev early_this : Program
early_this = program (class_of (Some 1) (0 ∷ []) (0 ∷ []) ∷ class_of None [] (1 ∷ []) ∷ []) (field 0 int [] ∷ []) 0 (constructor_of 0 [] [] [] 3 (block (does (op.ReadField 2 0 0) 0 1 ∷ does (op.SuperCall (calls 1 1 (Some 0) [] 1 (span 0 1))) 0 1 ∷ [])) ∷ constructor_of 1 [] [] [] 1 (block []) ∷ [])

not_early_this : Formed early_this → ⊥
unfolding hidden-the_row-Item-0 hidden-the_row-Cond-1 denote.Hole.Carrier.hidden
not_early_this = never early_this refl (λ all. refl) (λ ty types all. refl)

abbrev early_this_mended : Program
early_this_mended = program (class_of (Some 1) (0 ∷ []) (0 ∷ []) ∷ class_of None [] (1 ∷ []) ∷ []) (field 0 int [] ∷ []) 0 (constructor_of 0 [] [] [] 3 (block (does (op.SuperCall (calls 1 1 (Some 0) [] 1 (span 0 1))) 0 1 ∷ does (op.ReadField 2 0 0) 0 1 ∷ [])) ∷ constructor_of 1 [] [] [] 1 (block []) ∷ [])

early_this_formed : Formed early_this_mended
unfolding hidden-the_row-Item-0 hidden-the_row-Cond-1 denote.Hole.Carrier.hidden
early_this_formed = ([] ∷ [] ∷ [], refl)

-- a class that is its own ancestor
abbrev cycle : Program
cycle = program (class_of (Some 0) [] [] ∷ []) [] 0 []

not_cycle : Formed cycle → ⊥
unfolding hidden-the_row-Item-0 hidden-the_row-Cond-1 denote.Hole.Carrier.hidden
not_cycle = never cycle refl (λ all. refl) (λ ty types all. refl)

abbrev cycle_mended : Program
cycle_mended = program (class_of None [] [] ∷ []) [] 0 []

cycle_formed : Formed cycle_mended
unfolding hidden-the_row-Item-0 hidden-the_row-Cond-1 denote.Hole.Carrier.hidden
cycle_formed = ([], refl)

-- a field that its class doesn't list
abbrev lost_field : Program
lost_field = program (class_of None [] [] ∷ []) (field 0 int [] ∷ []) 0 []

not_lost_field : Formed lost_field → ⊥
unfolding hidden-the_row-Item-0 hidden-the_row-Cond-1 denote.Hole.Carrier.hidden
not_lost_field = never lost_field refl (λ all. refl) (λ ty types all. refl)

abbrev lost_field_mended : Program
lost_field_mended = program (class_of None (0 ∷ []) [] ∷ []) (field 0 int [] ∷ []) 0 []

lost_field_formed : Formed lost_field_mended
unfolding hidden-the_row-Item-0 hidden-the_row-Cond-1 denote.Hole.Carrier.hidden
lost_field_formed = ([], refl)

-- two constructors of one class
abbrev two_constructors : Program
two_constructors = program (class_of None [] (0 ∷ 1 ∷ []) ∷ []) [] 0 (constructor_of 0 [] [] [] 1 (block []) ∷ constructor_of 0 [] [] [] 1 (block []) ∷ [])

not_two_constructors : Formed two_constructors → ⊥
unfolding hidden-the_row-Item-0 hidden-the_row-Cond-1 denote.Hole.Carrier.hidden
not_two_constructors = never two_constructors refl (λ all. refl) (λ ty types all. refl)

abbrev two_constructors_mended : Program
two_constructors_mended = program (class_of None [] (0 ∷ []) ∷ []) [] 0 (constructor_of 0 [] [] [] 1 (block []) ∷ [])

two_constructors_formed : Formed two_constructors_mended
unfolding hidden-the_row-Item-0 hidden-the_row-Cond-1 denote.Hole.Carrier.hidden
two_constructors_formed = ([] ∷ [], refl)

-- an overriding method with another result
abbrev other_types : Program
other_types = program (class_of (Some 1) [] (0 ∷ []) ∷ class_of None [] (1 ∷ []) ∷ []) [] 0 (instance_method 0 [] [] int (Some 1) [] 1 (block []) ∷ instance_method 1 [] [] boolean None [] 1 (block []) ∷ [])

not_other_types : Formed other_types → ⊥
unfolding hidden-the_row-Item-0 hidden-the_row-Cond-1 denote.Hole.Carrier.hidden
not_other_types = never other_types refl (λ all. refl) (λ ty types all. refl)

abbrev other_types_mended : Program
other_types_mended = program (class_of (Some 1) [] (0 ∷ []) ∷ class_of None [] (1 ∷ []) ∷ []) [] 0 (instance_method 0 [] [] int (Some 1) [] 1 (block []) ∷ instance_method 1 [] [] int None [] 1 (block []) ∷ [])

other_types_formed : Formed other_types_mended
unfolding hidden-the_row-Item-0 hidden-the_row-Cond-1 denote.Hole.Carrier.hidden
other_types_formed = ([] ∷ [] ∷ [], refl)
