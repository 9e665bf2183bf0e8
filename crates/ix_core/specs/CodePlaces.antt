-- What holds of each place that a program names: of its operations, of their parts and arguments, of tests, of statements that end a method, and of methods.
use Rattle.std.specs.Prelude.{ℕ, ◌≤◌}
use Rattle.std.specs.List.{AllByRecursion}
use Rattle.ix_text.specs.declared.span.Span.{Span}
use Rattle.ix_core.specs.declared.op.Arg.{Arg}
use Rattle.ix_core.specs.declared.op.CallOp.{CallOp}
use Rattle.ix_core.specs.declared.op.Op.{Op}
use Rattle.ix_core.specs.declared.op.OpKind.{OpKind}
use Rattle.ix_core.specs.declared.op.OpKind.TheVariants as op
use Rattle.ix_core.specs.declared.op.Test.{Test}
use Rattle.ix_core.specs.declared.program.Method.{Method}
use Rattle.ix_core.specs.declared.program.Program.{Program}
use Rattle.ix_core.specs.Code.{Code, End, Do, If, Break, Continue, Return, Throw, Loop, Condition, Known, Compare, Truth, Both, Either, Opposite}
use Rattle.ix_core.specs.Tables.{body_of}

module _ (P : Span → Type 0) where
  abbrev pub ArgPlaces : Arg → Type 0
  ArgPlaces arg = P arg.span

  abbrev pub CallPlaces : CallOp → Type 0
  CallPlaces call = P call.span × AllByRecursion ArgPlaces call.args

  abbrev pub KindPlaces : OpKind → Type 0
  KindPlaces (op.NewObject call) = CallPlaces call
  KindPlaces (op.StaticCall call) = CallPlaces call
  KindPlaces (op.InstanceCall call) = CallPlaces call
  KindPlaces (op.SuperCall call) = CallPlaces call
  KindPlaces _ = Unit {0}

  abbrev pub OpPlaces : Op → Type 0
  OpPlaces done = P done.span × AllByRecursion P done.parts × KindPlaces done.kind

  abbrev pub TestPlaces : Test → Type 0
  TestPlaces test = P test.left_span × P test.right_span

abbrev mutual
  pub CodePlaces : (Span → Type 0) → Code → Type 0
  CodePlaces P End = Unit {0}
  CodePlaces P (Do done rest) = OpPlaces P done × CodePlaces P rest
  CodePlaces P (If asked first second rest) = AskedPlaces P asked × CodePlaces P first × CodePlaces P second × CodePlaces P rest
  CodePlaces P (Break rest) = CodePlaces P rest
  CodePlaces P (Continue rest) = CodePlaces P rest
  CodePlaces P (Return value span rest) = P span × CodePlaces P rest
  CodePlaces P (Throw name span rest) = P span × CodePlaces P rest
  CodePlaces P (Loop test_first asked body next number scope rest) = AskedPlaces P asked × CodePlaces P body × CodePlaces P next × CodePlaces P rest

  pub AskedPlaces : (Span → Type 0) → Condition → Type 0
  AskedPlaces P (Known answer) = Unit {0}
  AskedPlaces P (Compare code test) = CodePlaces P code × TestPlaces P test
  AskedPlaces P (Truth code slot) = CodePlaces P code
  AskedPlaces P (Both first second) = AskedPlaces P first × AskedPlaces P second
  AskedPlaces P (Either first second) = AskedPlaces P first × AskedPlaces P second
  AskedPlaces P (Opposite asked) = AskedPlaces P asked

module _ (P : Span → Type 0) where
  abbrev pub MethodPlaces : Method → Type 0
  MethodPlaces method = P method.span × CodePlaces P (body_of method)

  abbrev pub ProgramPlaces : Program → Type 0
  ProgramPlaces program = AllByRecursion MethodPlaces program.methods

-- It stands in a text of so many bytes, or at its end.
abbrev pub IsIn : ℕ → Span → Type 0
IsIn end span = (span.from ≤ end) × (span.to ≤ end)

-- So does each place that the program names.
abbrev pub PlacesWithin : ℕ → Program → Type 0
PlacesWithin end program = ProgramPlaces (IsIn end) program
