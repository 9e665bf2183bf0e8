-- The numbers of a method that its facts are rounded by: the numbers that its text and the declarations that it uses speak of.
use Rattle.std.specs.Prelude.{ℕ, ℤ, if◌then◌else◌, List, [], ◌∷◌, ◌++◌}
use Rattle.ix_core.specs.declared.claim.Claim.{Claim}
use Rattle.ix_core.specs.declared.claim.Claim.TheVariants as claim
use Rattle.ix_core.specs.declared.claim.Post.{Post}
use Rattle.ix_core.specs.declared.claim.Type_.{Type_}
use Rattle.ix_core.specs.declared.op.Literal.TheVariants as literal
use Rattle.ix_core.specs.declared.op.OpKind.{OpKind}
use Rattle.ix_core.specs.declared.op.OpKind.TheVariants as op
use Rattle.ix_core.specs.declared.program.Field.{Field}
use Rattle.ix_core.specs.declared.program.Local.{Local as Variable}
use Rattle.ix_core.specs.declared.program.Method.{Method}
use Rattle.ix_core.specs.declared.program.Program.{Program}
use Rattle.ix_core.specs.Code.{Code, Condition, End, Do, If, Break, Continue, Return, Throw, Loop, Known, Compare, Truth, Both, Either, Opposite}
use Rattle.ix_core.specs.Tables.{method_at, field_at, all_fields, body_of}
use Rattle.ix_core.specs.Safe.{element_claims}
use Rattle.ix_facts.specs.Round.{AreLandmarks}

-- the numbers of a claim
abbrev pub claim_numbers : Claim → List ℤ
claim_numbers (claim.Range low high) = low ∷ high ∷ []
claim_numbers (claim.Low low) = low ∷ []
claim_numbers (claim.Length least) = least ∷ []
claim_numbers (claim.Less name constant) = constant ∷ []
claim_numbers (claim.Upper array offset constant) = constant ∷ []
claim_numbers _ = []

abbrev pub claims_numbers : List Claim → List ℤ
claims_numbers [] = []
claims_numbers (first ∷ claims) = claim_numbers first ++ claims_numbers claims

-- of the claims on an array's elements
abbrev pub type_numbers : Type_ → List ℤ
type_numbers ty = claims_numbers (element_claims ty)

abbrev pub types_numbers : List Type_ → List ℤ
types_numbers [] = []
types_numbers (ty ∷ types) = type_numbers ty ++ types_numbers types

abbrev pub variables_numbers : List Variable → List ℤ
variables_numbers [] = []
variables_numbers (variable ∷ variables) = claims_numbers variable.claims ++ variables_numbers variables

abbrev pub posts_numbers : List Post → List ℤ
posts_numbers [] = []
posts_numbers (post ∷ posts) = claim_numbers post.claim ++ posts_numbers posts

-- of the parameters, the result and the posts of a method
abbrev pub declared_numbers : Method → List ℤ
declared_numbers method =
    variables_numbers method.params
    ++ (types_numbers method.param_types ++ (claims_numbers method.result_claims ++ (type_numbers method.result ++ posts_numbers method.posts)))

abbrev pub field_numbers : Field → List ℤ
field_numbers field = claims_numbers field.claims ++ type_numbers field.ty

abbrev pub fields_numbers : Program → List ℕ → List ℤ
fields_numbers program [] = []
fields_numbers program (number ∷ fields) = field_numbers (field_at program number) ++ fields_numbers program fields

-- Of an operation: its literal, the claims of its type, of the field and of the method that it names.
abbrev pub operation_numbers : Program → OpKind → List ℤ
operation_numbers program (op.Const t (literal.Int n)) = n ∷ []
operation_numbers program (op.Const t (literal.NullOf ty)) = type_numbers ty
operation_numbers program (op.Copy t s ty) = type_numbers ty
operation_numbers program (op.NewArray t ty size) = type_numbers ty
operation_numbers program (op.Fill t ty entries) = type_numbers ty
operation_numbers program (op.Load t array index ty) = type_numbers ty
operation_numbers program (op.Store array index value ty) = type_numbers ty
operation_numbers program (op.ReadField t object field) = field_numbers (field_at program field)
operation_numbers program (op.WriteField object field value) = field_numbers (field_at program field)
operation_numbers program (op.NewObject call) = declared_numbers (method_at program call.method)
operation_numbers program (op.StaticCall call) = declared_numbers (method_at program call.method)
operation_numbers program (op.InstanceCall call) = declared_numbers (method_at program call.method)
operation_numbers program (op.SuperCall call) = declared_numbers (method_at program call.method)
operation_numbers program _ = []

-- of a method's body: of all its operations, those of conditions included
abbrev mutual
  pub code_numbers : Program → Code → List ℤ
  code_numbers program End = []
  code_numbers program (Do done code) = operation_numbers program done.kind ++ code_numbers program code
  code_numbers program (If asked first second code) = condition_numbers program asked ++ (code_numbers program first ++ (code_numbers program second ++ code_numbers program code))
  code_numbers program (Break code) = code_numbers program code
  code_numbers program (Continue code) = code_numbers program code
  code_numbers program (Return value span code) = code_numbers program code
  code_numbers program (Throw name span code) = code_numbers program code
  code_numbers program (Loop first asked body next number scope code) = condition_numbers program asked ++ (code_numbers program body ++ (code_numbers program next ++ code_numbers program code))

  pub condition_numbers : Program → Condition → List ℤ
  condition_numbers program (Known answer) = []
  condition_numbers program (Compare code test) = code_numbers program code
  condition_numbers program (Truth code slot) = code_numbers program code
  condition_numbers program (Both asked other) = condition_numbers program asked ++ condition_numbers program other
  condition_numbers program (Either asked other) = condition_numbers program asked ++ condition_numbers program other
  condition_numbers program (Opposite asked) = condition_numbers program asked

abbrev pub locals_of : List (Variable × Rattle.ix_text.specs.declared.span.Span.Span) → List Variable
locals_of [] = []
locals_of (first ∷ locals) = first.0 ∷ locals_of locals

-- The landmark numbers of a method: those of its own declarations, of its body, and of a constructor also those of all fields of its class.
abbrev pub method_numbers : Program → Method → List ℤ
method_numbers program method =
    declared_numbers method ++ (variables_numbers (locals_of method.locals) ++ (code_numbers program (body_of method)
    ++ (if method.constructor then fields_numbers program (all_fields program method.class) else [])))

-- The landmarks of a method, in ascending order.
abbrev pub AreLandmarksOf : Program → Method → List ℤ → Type 0
AreLandmarksOf program method marks = AreLandmarks (method_numbers program method) marks
