-- What entry, reads and writes of fields, calls and constructors give. Each rule says of a store what it must be above, given the store before (Checker
-- Framework manual, "Type refinement" and "Side effects"; objects under construction after Qi and Myers, "Masked types", POPL 2009, in this project's form).
use Rattle.std.specs.Prelude.{ℕ, suc, pos, Bool, true, false, not, ◌&&◌, ◌||◌, ◌==◌, List, [], ◌∷◌, ◌++◌, filter, Option, None, Some}
use Rattle.ix_core.specs.declared.claim.Claim.{Claim}
use Rattle.ix_core.specs.declared.claim.Name.{Name}
use Rattle.ix_core.specs.declared.claim.Post.{Post}
use Rattle.ix_core.specs.declared.claim.Type_.{Type_}
use Rattle.ix_core.specs.declared.fact.Path.{Path}
use Rattle.ix_core.specs.declared.fact.Path.TheVariants.{Slot, FieldOf}
use Rattle.ix_core.specs.declared.fact.Fact.{Fact}
use Rattle.ix_core.specs.declared.fact.Fact.TheVariants.{Rng, LenRng, Same}
use Rattle.ix_core.specs.declared.op.CallOp.{CallOp}
use Rattle.ix_core.specs.declared.op.Op.{Op}
use Rattle.ix_core.specs.declared.op.OpKind.{OpKind}
use Rattle.ix_core.specs.declared.op.OpKind.TheVariants as op
use Rattle.ix_core.specs.declared.program.Field.{Field}
use Rattle.ix_core.specs.declared.program.Local.{Local as Variable}
use Rattle.ix_core.specs.declared.program.Method.{Method}
use Rattle.ix_core.specs.declared.program.Program.{Program}
use Rattle.ix_core.specs.Posts.{same_when}
use Rattle.ix_core.specs.Tables.{method_at, class_at, field_at, all_fields, param_slot}
use Rattle.ix_core.specs.Types.{is_void}
use Rattle.ix_facts.specs.AfterOperation.{is_int, is_array}
use Rattle.ix_facts.specs.Assume.{claim_facts}
use Rattle.ix_facts.specs.Exact.{if_so}
use Rattle.ix_facts.specs.Forget.{without, of_slot, of_field, of_call, of_this}
use Rattle.ix_facts.specs.Stores.{Stored, IsBelow, IsAbove, Gives, Then, with_facts, with_copy}
use Rattle.ix_rules_hold.specs.MachineSteps.{on_paths, own_path, own_slot}
use Rattle.ix_rules_hold.specs.FieldAccess.{spared_by}
use Rattle.ix_signatures.specs.Names.{call_path, object_path, is_built, names_field}

-- ---- the three steps that all rules are made of

-- Facts are added.
abbrev pub Adds : List Fact → Stored → Stored → Type 0
Adds new = Gives (with_facts new)

-- The facts that name one of these paths are dropped.
abbrev pub Forgets : (Path → Bool) → Stored → Stored → Type 0
Forgets is = Gives (without is)

-- One path gets the value of another, by its type.
abbrev pub Copies : Type_ → Path → Path → Stored → Stored → Type 0
Copies ty target source = Gives (with_copy ty target source)

-- The second store is the least that the step gives of the first.
pub record IsLeastOf (Step : Stored → Stored → Type 0) (s t : Stored) : Type 0 where
  pub above : Step s t
  pub least : (u : Stored) → Step s u → IsBelow t u

-- The store is the least of those that are allowed.
pub record IsLeastAllowed (Allowed : Stored → Type 0) (t : Stored) : Type 0 where
  pub above : Allowed t
  pub least : (u : Stored) → Allowed u → IsBelow t u

-- ---- claims

-- what claims on a path add, where names stand for these paths
abbrev pub claims_facts : (Name → Path) → Path → List Claim → List Fact
claims_facts path p [] = []
claims_facts path p (claim ∷ claims) = claim_facts (on_paths path claim) p ++ claims_facts path p claims

-- what the claims of a method's parameters add, from this parameter on
abbrev pub params_facts : Method → ℕ → List Variable → List Fact
params_facts method number [] = []
params_facts method number (param ∷ params) = claims_facts (own_path method) (Slot (param_slot method number)) param.claims ++ params_facts method (suc number) params

-- An array that a path gets has its own length.
abbrev pub received : Type_ → Path → List Fact
received ty p = if_so (is_array ty) (Same p p ∷ [])

abbrev pub received_params : Method → ℕ → List Type_ → List Fact
received_params method number [] = []
received_params method number (ty ∷ types) = received ty (Slot (param_slot method number)) ++ received_params method (suc number) types

-- ---- fields

-- A field of a new object is 0 or null (JLS 4.12.5), whose length counts as 0.
abbrev pub zero_facts : Type_ → Path → List Fact
zero_facts ty p = if_so (is_int ty) (Rng p (pos 0) (pos 0) ∷ []) ++ if_so (is_array ty) (LenRng p (pos 0) (pos 0) ∷ [])

abbrev pub zero_fields : Program → List ℕ → List Fact
zero_fields program [] = []
zero_fields program (field ∷ fields) = zero_facts (field_at program field).ty (FieldOf 0 field) ++ zero_fields program fields

-- what the claims of these fields add of `this`
abbrev pub fields_facts : Program → List ℕ → List Fact
fields_facts program [] = []
fields_facts program (field ∷ fields) = claims_facts (object_path 0) (FieldOf 0 field) (field_at program field).claims ++ fields_facts program fields

abbrev pub own_fields : Program → Method → List ℕ
own_fields program method = (class_at program method.class).fields

abbrev pub fields_above : Program → Option ℕ → List ℕ
fields_above program None = []
fields_above program (Some parent) = all_fields program parent

-- the fields of the parent, inherited ones included (JLS 8.2)
abbrev pub inherited_fields : Program → Method → List ℕ
inherited_fields program method = fields_above program (class_at program method.class).parent

-- what the claims of other fields that name this one add, from this field on
abbrev pub dependent_facts : ℕ → ℕ → ℕ → List Field → List Fact
dependent_facts object field number [] = []
dependent_facts object field number (other ∷ fields) =
    if_so (not (number == field)) (claims_facts (object_path object) (FieldOf object number) (filter (names_field field) other.claims))
    ++ dependent_facts object field (suc number) fields

-- What is known of a built object before its field is read: the field's claims. Before it is written: also the claims of other fields that name it.
abbrev pub read_facts : Program → ℕ → ℕ → List Fact
read_facts program object field = claims_facts (object_path object) (FieldOf object field) (field_at program field).claims

abbrev pub write_facts : Program → ℕ → ℕ → List Fact
write_facts program object field = read_facts program object field ++ dependent_facts object field 0 program.fields

-- ---- the rules

abbrev pub has_no_parent : Option ℕ → Bool
has_no_parent None = true
has_no_parent (Some parent) = false

-- Entry: array parameters have their own length, and the claims of all parameters hold. In a constructor without parent the own fields are 0 or null.
abbrev pub entry_facts : Program → Method → List Fact
entry_facts program method =
    received_params method 0 method.param_types ++ (params_facts method 0 method.params
    ++ if_so (method.constructor && has_no_parent (class_at program method.class).parent) (zero_fields program (own_fields program method)))

abbrev pub EntryGives : Program → Method → Stored → Type 0
EntryGives program method = IsAbove (entry_facts program method)

-- `t = o.f`: the field's claims hold of a built object; then the value is copied.
abbrev pub ReadGives : Program → Method → ℕ → ℕ → ℕ → Stored → Stored → Type 0
ReadGives program method target object field =
    Then (Adds (if_so (is_built method object) (read_facts program object field)))
    (Copies (field_at program field).ty (Slot target) (FieldOf object field))

-- `o.f = v`: what a built object's claims say is known before; then all facts on that field go, of the object in each slot that isn't spared; then the
-- value is copied.
abbrev pub WriteGives : Program → Method → ℕ → ℕ → ℕ → Stored → Stored → Type 0
WriteGives program method object field value =
    Then (Adds (if_so (is_built method object) (write_facts program object field)))
    (Then (Forgets (of_field field (spared_by method object)))
    (Copies (field_at program field).ty (FieldOf object field) (Slot value)))

-- The paths that a call may change: those of its target and, unless the callee is side-effect-free, all fields that aren't final, but not those of
-- `this` in a constructor.
abbrev pub of_callee : Program → Method → CallOp → Path → Bool
of_callee program method call p =
    of_slot call.target p || (not (method_at program call.method).effect_free && of_call (λ field. (field_at program field).is_final) (own_slot method) p)

-- What the posts of this answer add, or those of every return, where names stand for these paths.
abbrev pub posts_facts : (Name → Path) → Option Bool → List Post → List Fact
posts_facts path wanted [] = []
posts_facts path wanted (post ∷ posts) = if_so (same_when post.when wanted) (claim_facts (on_paths path post.claim) (path post.on)) ++ posts_facts path wanted posts

-- What is known of a call's result: an array has its own length, and the claims of the named method hold, with the arguments for its parameters. So do its
-- posts of every return, of the arguments and of the receiver's fields.
abbrev pub result_facts : Program → CallOp → List Fact
result_facts program call =
    received (method_at program call.method).result (Slot call.target)
    ++ (claims_facts (call_path call) (Slot call.target) (method_at program call.method).result_claims
    ++ posts_facts (call_path call) None (method_at program call.method).posts)

-- A call, `new` included (JLS 15.9.4, 15.12.4).
abbrev pub CallGives : Program → Method → CallOp → Stored → Stored → Type 0
CallGives program method call = Then (Forgets (of_callee program method call)) (Adds (result_facts program call))

-- What the answer of a call tells: the named method's posts of this answer.
abbrev pub answer_facts : Program → CallOp → Bool → List Fact
answer_facts program call answer = posts_facts (call_path call) (Some answer) (method_at program call.method).posts

-- What a boolean slot tells behind an operation: something only where that is a call of a method with a result, which the slot has.
abbrev pub told_by_call : Program → CallOp → ℕ → Bool → List Fact
told_by_call program call slot answer = if_so (call.target == slot && not (is_void (method_at program call.method).result)) (answer_facts program call answer)

abbrev pub told_by : Program → OpKind → ℕ → Bool → List Fact
told_by program (op.StaticCall call) slot answer = told_by_call program call slot answer
told_by program (op.InstanceCall call) slot answer = told_by_call program call slot answer
told_by program _ slot answer = []

-- What it tells behind the operation that was done last.
abbrev pub told_facts : Program → Option Op → ℕ → Bool → List Fact
told_facts program None slot answer = []
told_facts program (Some done) slot answer = told_by program done.kind slot answer

-- `super(..)`: as a call, and nothing stays known of `this`; then the own fields are 0 or null, and the claims of inherited fields hold (JLS 8.8.7.1,
-- 12.5).
abbrev pub SuperGives : Program → Method → CallOp → Stored → Stored → Type 0
SuperGives program method call =
    Then (Forgets (λ p. of_callee program method call p || of_this p))
    (Adds (zero_fields program (own_fields program method) ++ fields_facts program (inherited_fields program method)))
