-- The errors that the rules derive of one method: those of operations, those at returns and at the end, and those of the text alone.
use Rattle.std.specs.Prelude.{◌≡◌, ◌⊎◌, ℕ, suc, Bool, true, false, ◌&&◌, ◌==◌, if◌then◌else◌, pos, int_le, slice_get, List, [], ◌∷◌, ◌++◌, Option, None, Some}
use Rattle.ix_text.specs.declared.span.Span.{Span}
use Rattle.ix_num.specs.Ints.{least_int}
use Rattle.ix_core.specs.declared.claim.Claim.{Claim}
use Rattle.ix_core.specs.declared.claim.Claim.TheVariants as claim
use Rattle.ix_core.specs.declared.claim.Name.{Name}
use Rattle.ix_core.specs.declared.claim.Name.TheVariants as name
use Rattle.ix_core.specs.declared.claim.Type_.{Type_}
use Rattle.ix_core.specs.declared.error.Error.{Error}
use Rattle.ix_core.specs.declared.error.Subject.{Subject}
use Rattle.ix_core.specs.declared.error.Subject.TheVariants.{Element, Param, Local, FieldNamed}
use Rattle.ix_core.specs.declared.fact.Path.{Path}
use Rattle.ix_core.specs.declared.fact.Path.TheVariants.{Slot}
use Rattle.ix_core.specs.declared.fact.PathOff.TheVariants.{Nothing}
use Rattle.ix_core.specs.declared.fact.PathClaim.TheVariants as path_claim
use Rattle.ix_core.specs.declared.op.Arg.{Arg}
use Rattle.ix_core.specs.declared.op.Op.{Op}
use Rattle.ix_core.specs.declared.op.OpKind.{OpKind}
use Rattle.ix_core.specs.declared.op.OpKind.TheVariants as op
use Rattle.ix_core.specs.declared.op.Test.{Test}
use Rattle.ix_core.specs.declared.program.Method.{Method}
use Rattle.ix_core.specs.declared.program.Program.{Program}
use Rattle.ix_core.specs.Code.{Code, End, Do, If, Break, Continue, Return, Throw, Loop, Condition, Known, Compare, Truth, Both, Either, Opposite}
use Rattle.ix_core.specs.Objects.{Names, PostsName}
use Rattle.ix_core.specs.Tables.{body_of, param_slot}
use Rattle.ix_facts.specs.AfterOperation.{loaded_claims}
use Rattle.ix_facts.specs.Stores.{Stored}
use Rattle.ix_flow.specs.Flow.{Point, Doing, Returning, Ending}
use Rattle.ix_rules_hold.specs.MachineSteps.{on_paths, own_path}
use Rattle.ix_signatures.specs.Names.{variable_at}
use Rattle.ix_signatures.specs.SignErrors.{Refuses, Unproved, plain, part, ArgumentClaim, ReturnClaim, PostClaim, FieldClaim, FieldDependent, ConstructorClaim, MissingReturn, OverrideErrors, EffectWrite}

-- ---- accesses

-- access.low: the index isn't proved to be at least 0 (Index Checker, "Lower bound"). Place: the index.
pub record AccessLow (index : ℕ) (place : Span) (store : Stored) (error : Error) (rank : ℕ) : Type 0 where
  pub refused : Refuses store (path_claim.Low (pos 0)) (Slot index)
  pub is : error ≡ plain 1 place
  pub first : rank ≡ 0

-- access.high: the index isn't proved to be below the length (Index Checker, "Upper bound"). Place: the index.
pub record AccessHigh (array index : ℕ) (place : Span) (store : Stored) (error : Error) (rank : ℕ) : Type 0 where
  pub refused : Refuses store (path_claim.Upper (Slot array) Nothing (pos 0)) (Slot index)
  pub is : error ≡ plain 2 place
  pub first : rank ≡ 0

-- length.negative: the length of a new array isn't proved to be at least 0 (JLS 15.10.2). Place: the length.
pub record LengthNegative (size : ℕ) (place : Span) (store : Stored) (error : Error) (rank : ℕ) : Type 0 where
  pub refused : Refuses store (path_claim.Low (pos 0)) (Slot size)
  pub is : error ≡ plain 3 place
  pub first : rank ≡ 0

-- ---- variables

-- a parameter or a local of the method as the subject of an error
abbrev pub subject_of : ℕ → Name → Subject
subject_of method (name.Param number) = Param method number
subject_of method (name.Local number) = Local method number
subject_of method (name.FieldNamed field) = FieldNamed field

-- assign.claim: a value that is copied into a parameter or local isn't proved to meet a claim of it. Place: the value.
abbrev pub AssignClaim : Method → (number source : ℕ) → Span → Option (Name × List Claim) → Stored → Error → ℕ → Type 0
AssignClaim method number source place None store error rank = ⊥
AssignClaim method number source place (Some variable) store error rank =
    Unproved (λ claim. Refuses store (on_paths (own_path method) claim) (Slot source)) variable.1 4 place (subject_of number variable.0) error rank

-- ---- elements

-- the claim is true of 0, which a new array's cells hold (JLS 4.12.5)
abbrev pub zero_meets : Claim → Bool
zero_meets (claim.Range low high) = int_le low (pos 0) && int_le (pos 0) high
zero_meets (claim.Low low) = int_le low (pos 0)
zero_meets _ = false

-- claims on elements name nothing
abbrev pub no_path : Name → Path
no_path name = Slot 0

-- element.claim: a value that is stored in an array of ints, or an entry of one, isn't proved to meet a claim on the elements. Place: the value, the entry.
abbrev pub ElementClaim : Type_ → ℕ → Span → Stored → Error → ℕ → Type 0
ElementClaim ty value place store = Unproved (λ claim. Refuses store (on_paths no_path claim) (Slot value)) (loaded_claims ty) 16 place Element

pub record EntryClaim (ty : Type_) (entries : List ℕ) (done : Op) (store : Stored) (error : Error) (rank : ℕ) : Type 0 where
  pub at : ℕ
  pub value : ℕ
  pub entry : slice_get entries at ≡ Some value
  pub of : ElementClaim ty value (part done at) store error rank

-- or: 0 doesn't meet it in a new array that isn't known to be empty. Place: the length.
abbrev pub FreshElement : Type_ → ℕ → Span → Stored → Error → ℕ → Type 0
FreshElement ty size place store = Unproved (λ claim. (zero_meets claim ≡ false) × Refuses store (path_claim.Range least_int (pos 0)) (Slot size)) (loaded_claims ty) 16 place Element

-- ---- what looks at the text alone

-- an operation or a test stands somewhere in the code, in a condition too, reached or not
abbrev mutual
  pub Somewhere : (Op → Type 0) → (Test → Type 0) → Code → Type 0
  Somewhere P Q End = ⊥
  Somewhere P Q (Do done rest) = P done ⊎ Somewhere P Q rest
  Somewhere P Q (If asked first second rest) = SomewhereAsked P Q asked ⊎ (Somewhere P Q first ⊎ (Somewhere P Q second ⊎ Somewhere P Q rest))
  Somewhere P Q (Break rest) = Somewhere P Q rest
  Somewhere P Q (Continue rest) = Somewhere P Q rest
  Somewhere P Q (Return value span rest) = Somewhere P Q rest
  Somewhere P Q (Throw thrown span rest) = Somewhere P Q rest
  Somewhere P Q (Loop test_first asked body next number scope rest) = SomewhereAsked P Q asked ⊎ (Somewhere P Q body ⊎ (Somewhere P Q next ⊎ Somewhere P Q rest))

  pub SomewhereAsked : (Op → Type 0) → (Test → Type 0) → Condition → Type 0
  SomewhereAsked P Q (Known answer) = ⊥
  SomewhereAsked P Q (Compare code test) = Somewhere P Q code ⊎ Q test
  SomewhereAsked P Q (Truth code slot) = Somewhere P Q code
  SomewhereAsked P Q (Both first second) = SomewhereAsked P Q first ⊎ SomewhereAsked P Q second
  SomewhereAsked P Q (Either first second) = SomewhereAsked P Q first ⊎ SomewhereAsked P Q second
  SomewhereAsked P Q (Opposite asked) = SomewhereAsked P Q asked

-- the places of arguments, and of entries, that are slot 0
abbrev pub this_args : List Arg → List Span
this_args [] = []
this_args (arg ∷ args) = if arg.slot == 0 then arg.span ∷ this_args args else this_args args

abbrev pub this_entries : Op → ℕ → List ℕ → List Span
this_entries done number [] = []
this_entries done number (entry ∷ entries) = if entry == 0 then part done number ∷ this_entries done (suc number) entries else this_entries done (suc number) entries

abbrev pub is_this : Option ℕ → Bool
is_this None = false
is_this (Some slot) = slot == 0

-- Where an operation uses slot 0 otherwise than as receiver of a read or write of a field or of `super`: as receiver of a call, as argument, value or entry.
abbrev pub escapes_by : Op → OpKind → List Span
escapes_by done (op.Copy target source ty) = if source == 0 then part done 1 ∷ [] else []
escapes_by done (op.Fill target ty entries) = this_entries done 0 entries
escapes_by done (op.Store array index value ty) = if value == 0 then part done 0 ∷ [] else []
escapes_by done (op.WriteField object field value) = if value == 0 then part done 1 ∷ [] else []
escapes_by done (op.NewObject call) = this_args call.args
escapes_by done (op.StaticCall call) = this_args call.args
escapes_by done (op.InstanceCall call) = (if is_this call.receiver then done.span ∷ [] else []) ++ this_args call.args
escapes_by done (op.SuperCall call) = this_args call.args
escapes_by done _ = []

-- and a test
abbrev pub escapes_in : Test → List Span
escapes_in test = (if test.left == 0 then test.left_span ∷ [] else []) ++ (if test.right == 0 then test.right_span ∷ [] else [])

-- this.escapes: `this` of a constructor is used so, before its object is built. Place: the call's where it is a receiver, else its own.
pub record EscapesAt (spans : List Span) (error : Error) (rank : ℕ) : Type 0 where
  pub at : ℕ
  pub span : Span
  pub place : slice_get spans at ≡ Some span
  pub is : error ≡ plain 14 span
  pub first : rank ≡ 0

abbrev pub OpEscapes : Method → Op → Error → ℕ → Type 0
OpEscapes method done error rank = (method.constructor ≡ true) × EscapesAt (escapes_by done done.kind) error rank

abbrev pub TestEscapes : Method → Test → Error → ℕ → Type 0
TestEscapes method test error rank = (method.constructor ≡ true) × EscapesAt (escapes_in test) error rank

-- named.parameter.assigned: a parameter that a claim of the result or a post names is assigned. Place: the target.
pub record AssignsNamed (method : Method) (done : Op) (error : Error) (rank : ℕ) : Type 0 where
  pub number : ℕ
  pub named : Names method.result_claims (name.Param number) ⊎ PostsName method.posts (name.Param number)
  pub source : ℕ
  pub ty : Type_
  pub assigns : done.kind ≡ op.Copy (param_slot method number) source ty
  pub is : error ≡ plain 15 (part done 0)
  pub first : rank ≡ 0

-- ---- all errors of a method

-- of an operation, before it
abbrev pub KindErrors : Program → Method → ℕ → Op → OpKind → Stored → Error → ℕ → Type 0
KindErrors program method number done (op.Load target array index ty) store error rank = AccessLow index done.span store error rank ⊎ AccessHigh array index done.span store error rank
KindErrors program method number done (op.Store array index value ty) store error rank =
    AccessLow index done.span store error rank ⊎ (AccessHigh array index done.span store error rank ⊎ ElementClaim ty value (part done 0) store error rank)
KindErrors program method number done (op.NewArray target ty size) store error rank = LengthNegative size done.span store error rank ⊎ FreshElement ty size done.span store error rank
KindErrors program method number done (op.Fill target ty entries) store error rank = EntryClaim ty entries done store error rank
KindErrors program method number done (op.Copy target source ty) store error rank =
    AssignClaim method number source (part done 1) (variable_at method target done.span.from) store error rank
KindErrors program method number done (op.WriteField object field value) store error rank =
    FieldClaim program method object field value (part done 1) store error rank ⊎ FieldDependent program method object field value (part done 1) store error rank
KindErrors program method number done (op.NewObject call) store error rank = ArgumentClaim program call store error rank
KindErrors program method number done (op.StaticCall call) store error rank = ArgumentClaim program call store error rank
KindErrors program method number done (op.InstanceCall call) store error rank = ArgumentClaim program call store error rank
KindErrors program method number done (op.SuperCall call) store error rank = ArgumentClaim program call store error rank
KindErrors program method number done _ store error rank = ⊥

-- at a `return`, and at the end
abbrev pub PointErrors : Program → Method → ℕ → Point → Stored → Error → ℕ → Type 0
PointErrors program method number (Doing done) store error rank = KindErrors program method number done done.kind store error rank
PointErrors program method number (Returning value known span) store error rank =
    ReturnClaim method number value span store error rank ⊎ (ConstructorClaim program method store error rank ⊎ PostClaim method number value known span store error rank)
PointErrors program method number Ending store error rank =
    ConstructorClaim program method store error rank ⊎ (MissingReturn method store error rank ⊎ PostClaim method number None None method.span store error rank)

-- no error is derived at the point from the store
abbrev pub NoErrors : Program → Method → ℕ → Point → Stored → Type 0
NoErrors program method number point store = (error : Error) (rank : ℕ) → PointErrors program method number point store error rank → ⊥

-- of an operation and of a test by the text alone
abbrev pub OpText : Program → Method → Op → Error → ℕ → Type 0
OpText program method done error rank = EffectWrite program method done error rank ⊎ (AssignsNamed method done error rank ⊎ OpEscapes method done error rank)

-- of a method that overrides another
abbrev pub OverridesBy : Program → Method → ℕ → Option ℕ → Error → ℕ → Type 0
OverridesBy program method number None error rank = ⊥
OverridesBy program method number (Some over) error rank = OverrideErrors program method number over error rank

-- of the text alone
abbrev pub TextErrors : Program → Method → ℕ → Error → ℕ → Type 0
TextErrors program method number error rank =
    OverridesBy program method number method.overrides error rank
    ⊎ Somewhere (λ done. OpText program method done error rank) (λ test. TestEscapes method test error rank) (body_of method)
