-- The errors of signatures and objects: each with its place, its subject and its claim. The number beside an error is the claim's place in its
-- declaration, by which errors of one place, rule and subject are ordered. A claim that isn't proved is an error (Checker Framework manual, "How the
-- checker framework works": an assignment, an argument, a result whose annotation isn't met).
use Rattle.std.specs.Prelude.{◌≡◌, ◌⊎◌, ℕ, Bool, true, false, not, ◌&&◌, ◌||◌, ◌==◌, List, slice_get, unwrap_or, Option, None, Some, ◌++◌}
use Rattle.ix_text.specs.declared.span.Span.{Span}
use Rattle.ix_core.specs.declared.claim.Claim.{Claim}
use Rattle.ix_core.specs.declared.claim.Name.{Name}
use Rattle.ix_core.specs.declared.claim.Name.TheVariants as name
use Rattle.ix_core.specs.declared.claim.Post.{Post}
use Rattle.ix_core.specs.declared.error.Error.{Error}
use Rattle.ix_core.specs.declared.error.Subject.{Subject}
use Rattle.ix_core.specs.declared.error.Subject.TheVariants.{Element, Param, FieldNamed, Result, PostField}
use Rattle.ix_core.specs.declared.error.Detail.TheVariants as detail
use Rattle.ix_core.specs.declared.fact.Path.{Path}
use Rattle.ix_core.specs.declared.fact.Path.TheVariants.{Slot, FieldOf}
use Rattle.ix_core.specs.declared.fact.PathClaim.{PathClaim}
use Rattle.ix_core.specs.declared.op.Arg.{Arg}
use Rattle.ix_core.specs.declared.op.CallOp.{CallOp}
use Rattle.ix_core.specs.declared.op.Op.{Op}
use Rattle.ix_core.specs.declared.op.OpKind.{OpKind}
use Rattle.ix_core.specs.declared.op.OpKind.TheVariants as op
use Rattle.ix_core.specs.declared.program.Local.{Local as Variable}
use Rattle.ix_core.specs.declared.program.Method.{Method}
use Rattle.ix_core.specs.declared.program.Program.{Program}
use Rattle.ix_core.specs.Posts.{same_answer}
use Rattle.ix_core.specs.Types.{is_void}
use Rattle.ix_core.specs.Tables.{method_at, field_at, all_fields, param_slot, param_slots}
use Rattle.ix_facts.specs.Forget.{of_slot, of_call}
use Rattle.ix_facts.specs.Stores.{Stored, Unreachable, Reached, IsAbove, IsProved, Then}
use Rattle.ix_rules_hold.specs.MachineSteps.{on_paths, own_path}
use Rattle.ix_signatures.specs.Names.{call_path, object_path, written_path, is_built, names_field}
use Rattle.ix_signatures.specs.Signs.{Adds, Forgets, write_facts, params_facts, received_params, received, claims_facts}

-- ---- what is proved

-- The claim isn't proved; so where nothing is reached no claim is refused.
abbrev pub Refuses : Stored → PathClaim → Path → Type 0
Refuses store claim p = IsProved claim p store → ⊥

-- No store proves the claim of those that a rule allows.
abbrev pub AllRefuse : (Stored → Type 0) → PathClaim → Path → Type 0
AllRefuse Allowed claim p = (store : Stored) → Allowed store → Refuses store claim p

abbrev pub IsReached : Stored → Type 0
IsReached Unreachable = ⊥
IsReached (Reached facts) = Unit {0}

-- ---- errors

abbrev pub plain : ℕ → Span → Error
plain rule span = record { rule = rule; span = span; detail = detail.Plain }

abbrev pub unproved : ℕ → Span → Subject → Claim → Error
unproved rule span subject claim = record { rule = rule; span = span; detail = detail.Claim subject claim }

-- the place of a part of an operation
abbrev pub part : Op → ℕ → Span
part done number = unwrap_or (slice_get done.parts number) done.span

-- A claim of a declaration fails: where `Fails` is so of it. The rank is its place in the declaration.
pub record Unproved (Fails : Claim → Type 0) (claims : List Claim) (rule : ℕ) (span : Span) (subject : Subject) (error : Error) (rank : ℕ) : Type 0 where
  pub claim : Claim
  pub claimed : slice_get claims rank ≡ Some claim
  pub refused : Fails claim
  pub is : error ≡ unproved rule span subject claim

-- argument.claim: a call's argument isn't proved to meet a claim of its parameter. Place: the argument.
pub record ArgumentClaim (program : Program) (call : CallOp) (store : Stored) (error : Error) (rank : ℕ) : Type 0 where
  pub number : ℕ
  pub param : Variable
  pub declared : slice_get (method_at program call.method).params number ≡ Some param
  pub arg : Arg
  pub given : slice_get call.args number ≡ Some arg
  pub of : Unproved (λ claim. Refuses store (on_paths (call_path call) claim) (Slot arg.slot)) param.claims 5 arg.span (Param call.method number) error rank

-- return.claim: a returned value isn't proved to meet a claim of the result. Place: the value.
pub record ReturnClaim (method : Method) (number : ℕ) (value : Option ℕ) (span : Span) (store : Stored) (error : Error) (rank : ℕ) : Type 0 where
  pub slot : ℕ
  pub returned : value ≡ Some slot
  pub of : Unproved (λ claim. Refuses store (on_paths (own_path method) claim) (Slot slot)) method.result_claims 6 span (Result number) error rank

-- A post of every return counts wherever the method leaves; one of one answer at each `return` of a value, but where the other answer is written out.
abbrev pub counts_at : Option Bool → Option ℕ → Option Bool → Bool
counts_at None value known = true
counts_at (Some answer) None known = false
counts_at (Some answer) (Some slot) None = true
counts_at (Some answer) (Some slot) (Some written) = same_answer answer written

-- the value, or the method's name where there is none
abbrev pub value_place : Method → Option ℕ → Span → Span
value_place method None span = method.span
value_place method (Some slot) span = span

-- The parameter or the field that a post is on; a post is on nothing else.
abbrev pub post_subject : ℕ → Name → Subject
post_subject method (name.Param number) = Param method number
post_subject method (name.FieldNamed field) = PostField method field
post_subject method (name.Local number) = Element

-- post.claim: where a method returns or ends, a post isn't proved of its own variables. `known` is the answer that is written out there. Place: the
-- value, or the method's name where there is none.
pub record PostClaim (method : Method) (number : ℕ) (value : Option ℕ) (known : Option Bool) (span : Span) (store : Stored) (error : Error) (rank : ℕ) : Type 0 where
  pub post : Post
  pub promised : slice_get method.posts rank ≡ Some post
  pub counts : counts_at post.when value known ≡ true
  pub refused : Refuses store (on_paths (own_path method) post.claim) (own_path method post.on)
  pub is : error ≡ unproved 18 (value_place method value span) (post_subject number post.on) post.claim

-- field.claim: a value that is written to a built object's field isn't proved to meet a claim of the field. It is tried on the store in which what the
-- object's claims say is known. Place: the value.
pub record FieldClaim (program : Program) (method : Method) (object field value : ℕ) (place : Span) (store : Stored) (error : Error) (rank : ℕ) : Type 0 where
  pub built : is_built method object ≡ true
  pub of : Unproved (λ claim. AllRefuse (Adds (write_facts program object field) store) (on_paths (written_path object field value) claim) (Slot value))
      (field_at program field).claims 7 place (FieldNamed field) error rank

-- field.dependent: a claim of another field that names the written one isn't proved with the written value. Place: the value.
pub record FieldDependent (program : Program) (method : Method) (object field value : ℕ) (place : Span) (store : Stored) (error : Error) (rank : ℕ) : Type 0 where
  pub built : is_built method object ≡ true
  pub other : ℕ
  pub apart : (other == field) ≡ false
  pub of : Unproved (λ claim. (names_field field claim ≡ true) × AllRefuse (Adds (write_facts program object field) store) (on_paths (written_path object field value) claim) (FieldOf object other))
      (field_at program other).claims 8 place (FieldNamed other) error rank

-- constructor.claim: where a constructor returns or ends, a claim of a field of its class, inherited ones included, isn't proved of `this`. Place: the
-- constructor's.
pub record ConstructorClaim (program : Program) (method : Method) (store : Stored) (error : Error) (rank : ℕ) : Type 0 where
  pub constructor : method.constructor ≡ true
  pub at : ℕ
  pub field : ℕ
  pub has : slice_get (all_fields program method.class) at ≡ Some field
  pub of : Unproved (λ claim. Refuses store (on_paths (object_path 0) claim) (FieldOf 0 field)) (field_at program field).claims 9 method.span (FieldNamed field) error rank

-- missing.return: the end of a method with a result is reached (JLS 8.4.7). Place: the method's name.
pub record MissingReturn (method : Method) (store : Stored) (error : Error) (rank : ℕ) : Type 0 where
  pub result : is_void method.result ≡ false
  pub reached : IsReached store
  pub is : error ≡ plain 17 method.span
  pub first : rank ≡ 0

-- ---- overriding (JLS 8.4.8.3): what an overriding method asks and gives, beside what callers of the overridden one rely on

-- override.parameter: a parameter's claim isn't proved where only the claims of the overridden method's parameters are known. Place: the method's name.
pub record OverrideParameter (method upper : Method) (number : ℕ) (error : Error) (rank : ℕ) : Type 0 where
  pub k : ℕ
  pub param : Variable
  pub declared : slice_get method.params k ≡ Some param
  pub of : Unproved (λ claim. AllRefuse (IsAbove (params_facts upper 0 upper.params)) (on_paths (own_path method) claim) (Slot (param_slot method k))) param.claims 10 method.span (Param number k) error rank

-- a slot above those of the parameters, for the result
abbrev pub result_slot : Method → ℕ
result_slot method = param_slots method

-- The paths that an overriding method may have changed, seen from its callers: those of its result and, unless it is side-effect-free, all fields that
-- aren't final.
abbrev pub of_run : Program → Method → Path → Bool
of_run program method p = of_slot (result_slot method) p || (not method.effect_free && of_call (λ field. (field_at program field).is_final) (λ slot. false) p)

-- What is known where the overriding method has run for the overridden one, as behind a call: the claims of the latter's parameters, without what the
-- former may have changed, and the own claims of its result.
abbrev pub HasRun : Program → Method → Method → Stored → Type 0
HasRun program method upper store = (called : Stored)
    × IsAbove (received_params upper 0 upper.param_types ++ params_facts upper 0 upper.params) called
    × Then (Forgets (of_run program method)) (Adds (received method.result (Slot (result_slot method)) ++ claims_facts (own_path method) (Slot (result_slot method)) method.result_claims)) called store

-- override.result: a claim of the overridden method's result isn't proved where the overriding one has run. Place: the method's name.
abbrev pub OverrideResult : Program → (method upper : Method) → (over : ℕ) → Error → ℕ → Type 0
OverrideResult program method upper over =
    Unproved (λ claim. AllRefuse (HasRun program method upper) (on_paths (own_path upper) claim) (Slot (result_slot method))) upper.result_claims 11 method.span (Result over)

-- override.effect: a method that isn't side-effect-free overrides one that is. Place: the method's name.
pub record OverrideEffect (method upper : Method) (error : Error) (rank : ℕ) : Type 0 where
  pub marked : upper.effect_free ≡ true
  pub unmarked : method.effect_free ≡ false
  pub is : error ≡ plain 12 method.span
  pub first : rank ≡ 0

-- all three, of a method with this number that overrides another
abbrev pub OverrideErrors : Program → Method → (number over : ℕ) → Error → ℕ → Type 0
OverrideErrors program method number over error rank =
    OverrideParameter method (method_at program over) number error rank
    ⊎ (OverrideResult program method (method_at program over) over error rank ⊎ OverrideEffect method (method_at program over) error rank)

-- ---- side effects

-- the operation writes a field, other than of `this` in a constructor, or calls what isn't side-effect-free
abbrev pub HasEffect : Program → Method → OpKind → Type 0
HasEffect program method (op.WriteField object field value) = is_built method object ≡ true
HasEffect program method (op.NewObject call) = (method_at program call.method).effect_free ≡ false
HasEffect program method (op.StaticCall call) = (method_at program call.method).effect_free ≡ false
HasEffect program method (op.InstanceCall call) = (method_at program call.method).effect_free ≡ false
HasEffect program method (op.SuperCall call) = (method_at program call.method).effect_free ≡ false
HasEffect program method _ = ⊥

-- effect.write: an operation of a side-effect-free body, reached or not, has an effect. Place: the operation's.
pub record EffectWrite (program : Program) (method : Method) (done : Op) (error : Error) (rank : ℕ) : Type 0 where
  pub marked : method.effect_free ≡ true
  pub does : HasEffect program method done.kind
  pub is : error ≡ plain 13 done.span
  pub first : rank ≡ 0
