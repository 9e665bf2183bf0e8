-- What an int is at least is -1, 0 or 1 in all facts that the rules add.
use Rattle.std.specs.Prelude.{ℕ, suc, pos, Bool, true, false, filter, List, [], ◌∷◌, ◌++◌, Option, None, Some}
use Rattle.std.proofs.Common.{⊎_elim, subst, sym}
use Rattle.ix_core.specs.declared.claim.Claim.{Claim}
use Rattle.ix_core.specs.declared.claim.Name.{Name}
use Rattle.ix_core.specs.declared.claim.Post.{Post}
use Rattle.ix_core.specs.declared.claim.Type_.{Type_}
use Rattle.ix_core.specs.declared.fact.Path.{Path}
use Rattle.ix_core.specs.declared.fact.Path.TheVariants.{Slot, FieldOf}
use Rattle.ix_core.specs.declared.fact.Fact.{Fact}
use Rattle.ix_core.specs.declared.fact.Fact.TheVariants.{Rng, LenRng, Same}
use Rattle.ix_core.specs.declared.op.CallOp.{CallOp}
use Rattle.ix_core.specs.declared.op.Op.{Op}
use Rattle.ix_core.specs.declared.op.OpKind.{OpKind}
use Rattle.ix_core.specs.declared.op.OpKind.TheVariants as op
use Rattle.ix_core.specs.declared.program.Field.{Field}
use Rattle.ix_core.specs.declared.program.Local.{Local as Variable}
use Rattle.ix_core.specs.declared.program.Method.{Method}
use Rattle.ix_core.specs.declared.program.Program.{Program}
use Rattle.ix_core.specs.Posts.{same_when}
use Rattle.ix_core.specs.Tables.{field_at, method_at, param_slot}
use Rattle.ix_facts.specs.AfterOperation.{is_int, is_array}
use Rattle.ix_facts.specs.Assume.{claim_facts}
use Rattle.ix_facts.specs.Exact.{if_so}
use Rattle.ix_facts.specs.Systems.{HasClass, HaveClasses}
use Rattle.ix_facts.proofs.ClassesStay.{claim_classes}
use Rattle.ix_facts.proofs.FactLists.{in_either}
use Rattle.ix_rules_hold.specs.MachineSteps.{on_paths, own_path}
use Rattle.ix_signatures.specs.Names.{call_path, object_path, names_field}
use Rattle.ix_signatures.specs.Signs.{claims_facts, params_facts, received, received_params, zero_facts, zero_fields, fields_facts, dependent_facts, read_facts, write_facts, entry_facts, own_fields, posts_facts, result_facts, answer_facts, told_by_call, told_by, told_facts}

none_have : HaveClasses []
none_have f i = absurd i

one_has : (f : Fact) → HasClass f → HaveClasses (f ∷ [])
one_has f has g i = ⊎_elim (λ e. subst HasClass (sym e) has) (λ n. absurd n) i

pub both_have : (a b : List Fact) → HaveClasses a → HaveClasses b → HaveClasses (a ++ b)
both_have a b x y f i = ⊎_elim (λ j. x f j) (λ j. y f j) (in_either f a b i)

pub if_have : (test : Bool) (facts : List Fact) → HaveClasses facts → HaveClasses (if_so test facts)
if_have true facts have = have
if_have false facts have = none_have

pub claims_have : (path : Name → Path) (p : Path) (claims : List Claim) → HaveClasses (claims_facts path p claims)
claims_have path p [] = none_have
claims_have path p (claim ∷ claims) = both_have (claim_facts (on_paths path claim) p) (claims_facts path p claims) (claim_classes (on_paths path claim) p) (claims_have path p claims)

pub posts_have : (path : Name → Path) (wanted : Option Bool) (posts : List Post) → HaveClasses (posts_facts path wanted posts)
posts_have path wanted [] = none_have
posts_have path wanted (post ∷ posts) =
    both_have (if_so (same_when post.when wanted) (claim_facts (on_paths path post.claim) (path post.on))) (posts_facts path wanted posts)
    (if_have (same_when post.when wanted) (claim_facts (on_paths path post.claim) (path post.on)) (claim_classes (on_paths path post.claim) (path post.on))) (posts_have path wanted posts)

pub params_have : (method : Method) (number : ℕ) (params : List Variable) → HaveClasses (params_facts method number params)
params_have method number [] = none_have
params_have method number (param ∷ params) =
    both_have (claims_facts (own_path method) (Slot (param_slot method number)) param.claims) (params_facts method (suc number) params) (claims_have (own_path method) (Slot (param_slot method number)) param.claims) (params_have method (suc number) params)

pub received_has : (ty : Type_) (p : Path) → HaveClasses (received ty p)
received_has ty p = if_have (is_array ty) (Same p p ∷ []) (one_has (Same p p) tt)

pub received_have : (method : Method) (number : ℕ) (types : List Type_) → HaveClasses (received_params method number types)
received_have method number [] = none_have
received_have method number (ty ∷ types) = both_have (received ty (Slot (param_slot method number))) (received_params method (suc number) types) (received_has ty (Slot (param_slot method number))) (received_have method (suc number) types)

zero_has : (ty : Type_) (p : Path) → HaveClasses (zero_facts ty p)
zero_has ty p =
    both_have (if_so (is_int ty) (Rng p (pos 0) (pos 0) ∷ [])) (if_so (is_array ty) (LenRng p (pos 0) (pos 0) ∷ [])) (if_have (is_int ty) (Rng p (pos 0) (pos 0) ∷ []) (one_has (Rng p (pos 0) (pos 0)) tt)) (if_have (is_array ty) (LenRng p (pos 0) (pos 0) ∷ []) (one_has (LenRng p (pos 0) (pos 0)) tt))

pub zeros_have : (program : Program) (fields : List ℕ) → HaveClasses (zero_fields program fields)
zeros_have program [] = none_have
zeros_have program (field ∷ fields) =
    both_have (zero_facts (field_at program field).ty (FieldOf 0 field)) (zero_fields program fields) (zero_has (field_at program field).ty (FieldOf 0 field)) (zeros_have program fields)

pub fields_have : (program : Program) (fields : List ℕ) → HaveClasses (fields_facts program fields)
fields_have program [] = none_have
fields_have program (field ∷ fields) =
    both_have (claims_facts (object_path 0) (FieldOf 0 field) (field_at program field).claims) (fields_facts program fields) (claims_have (object_path 0) (FieldOf 0 field) (field_at program field).claims) (fields_have program fields)

pub dependents_have : (object field number : ℕ) (fields : List Field) → HaveClasses (dependent_facts object field number fields)
dependents_have object field number [] = none_have
dependents_have object field number (other ∷ fields) =
    both_have _ (dependent_facts object field (suc number) fields)
    (if_have _ _ (claims_have (object_path object) (FieldOf object number) (filter (names_field field) other.claims))) (dependents_have object field (suc number) fields)

-- ---- by rule

pub entry_have : (program : Program) (method : Method) → HaveClasses (entry_facts program method)
entry_have program method =
    both_have (received_params method 0 method.param_types) _ (received_have method 0 method.param_types)
    (both_have (params_facts method 0 method.params) _ (params_have method 0 method.params) (if_have _ (zero_fields program (own_fields program method)) (zeros_have program (own_fields program method))))

pub read_have : (program : Program) (object field : ℕ) → HaveClasses (read_facts program object field)
read_have program object field = claims_have (object_path object) (FieldOf object field) (field_at program field).claims

pub write_have : (program : Program) (object field : ℕ) → HaveClasses (write_facts program object field)
write_have program object field = both_have (read_facts program object field) (dependent_facts object field 0 program.fields) (read_have program object field) (dependents_have object field 0 program.fields)

pub result_have : (program : Program) (call : CallOp) → HaveClasses (result_facts program call)
result_have program call =
    both_have (received (method_at program call.method).result (Slot call.target)) _ (received_has (method_at program call.method).result (Slot call.target))
    (both_have (claims_facts (call_path call) (Slot call.target) (method_at program call.method).result_claims) (posts_facts (call_path call) None (method_at program call.method).posts)
    (claims_have (call_path call) (Slot call.target) (method_at program call.method).result_claims) (posts_have (call_path call) None (method_at program call.method).posts))

told_by_call_have : (program : Program) (call : CallOp) (slot : ℕ) (answer : Bool) → HaveClasses (told_by_call program call slot answer)
told_by_call_have program call slot answer = if_have _ (answer_facts program call answer) (posts_have (call_path call) (Some answer) (method_at program call.method).posts)

told_by_have : (program : Program) (kind : OpKind) (slot : ℕ) (answer : Bool) → HaveClasses (told_by program kind slot answer)
told_by_have program (op.StaticCall call) slot answer = told_by_call_have program call slot answer
told_by_have program (op.InstanceCall call) slot answer = told_by_call_have program call slot answer
told_by_have program (op.Const t value) slot answer = none_have
told_by_have program (op.Copy t s ty) slot answer = none_have
told_by_have program (op.Num t arith left right) slot answer = none_have
told_by_have program (op.Unary t unary operand) slot answer = none_have
told_by_have program (op.Length t array) slot answer = none_have
told_by_have program (op.NewArray t ty size) slot answer = none_have
told_by_have program (op.Fill t ty entries) slot answer = none_have
told_by_have program (op.Load t array index ty) slot answer = none_have
told_by_have program (op.Store array index value ty) slot answer = none_have
told_by_have program (op.ReadField t object field) slot answer = none_have
told_by_have program (op.WriteField object field value) slot answer = none_have
told_by_have program (op.NewObject call) slot answer = none_have
told_by_have program (op.SuperCall call) slot answer = none_have
told_by_have program (op.Print value) slot answer = none_have

pub told_have : (program : Program) (last : Option Op) (slot : ℕ) (answer : Bool) → HaveClasses (told_facts program last slot answer)
told_have program None slot answer = none_have
told_have program (Some done) slot answer = told_by_have program done.kind slot answer

pub super_have : (program : Program) (own inherited : List ℕ) → HaveClasses (zero_fields program own ++ fields_facts program inherited)
super_have program own inherited = both_have (zero_fields program own) (fields_facts program inherited) (zeros_have program own) (fields_have program inherited)
