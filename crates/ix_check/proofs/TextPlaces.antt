-- An error that the text alone gives has a place that the method names.
use Rattle.std.proofs.Common.{inl, inr, ℕ, suc, Bool, true, false, List, [], ◌∷◌, ◌++◌, Option, Some, None}
use Rattle.std.specs.Prelude.{if◌then◌else◌, ◌==◌}
use Rattle.std.specs.List.{AllByRecursion}
use Rattle.ix_text.specs.declared.span.Span.{Span}
use Rattle.ix_core.specs.declared.error.Error.{Error}
use Rattle.ix_core.specs.declared.op.Arg.{Arg}
use Rattle.ix_core.specs.declared.op.Op.{Op}
use Rattle.ix_core.specs.declared.op.OpKind.{OpKind}
use Rattle.ix_core.specs.declared.op.OpKind.TheVariants as op
use Rattle.ix_core.specs.declared.op.Test.{Test}
use Rattle.ix_core.specs.declared.program.Method.{Method}
use Rattle.ix_core.specs.declared.program.Program.{Program}
use Rattle.ix_core.specs.Code.{Code, End, Do, If, Break, Continue, Return, Throw, Loop, Condition, Known, Compare, Truth, Both, Either, Opposite}
use Rattle.ix_core.specs.Tables.{body_of}
use Rattle.ix_sign.specs.RuleErrors.{Somewhere, SomewhereAsked, OpText, TestEscapes, TextErrors, OverridesBy, EscapesAt, this_args, this_entries, is_this, escapes_by, escapes_in}
use Rattle.ix_core.specs.CodePlaces.{ArgPlaces, OpPlaces, KindPlaces, TestPlaces, CodePlaces, AskedPlaces, MethodPlaces}
use Rattle.ix_check.proofs.PointPlaces.{all_got, plain_place, unproved_place, part_place}

module _ (P : Span → Type 0) where
  joined : (xs ys : List Span) → AllByRecursion P xs → AllByRecursion P ys → AllByRecursion P (xs ++ ys)
  joined [] ys a b = b
  joined (x ∷ xs) ys a b = (a.0, joined xs ys a.1 b)

  one_if : (b : Bool) (span : Span) → P span → AllByRecursion P (if b then span ∷ [] else [])
  one_if true span p = (p, tt)
  one_if false span p = tt

  first_if : (b : Bool) (span : Span) (spans : List Span) → P span → AllByRecursion P spans → AllByRecursion P (if b then span ∷ spans else spans)
  first_if true span spans p all = (p, all)
  first_if false span spans p all = all

  args_places : (args : List Arg) → AllByRecursion (ArgPlaces P) args → AllByRecursion P (this_args args)
  args_places [] all = tt
  args_places (arg ∷ args) all = first_if (arg.slot == 0) arg.span (this_args args) all.0 (args_places args all.1)

  entries_places : (done : Op) (number : ℕ) (entries : List ℕ) → OpPlaces P done → AllByRecursion P (this_entries done number entries)
  entries_places done number [] o = tt
  entries_places done number (entry ∷ entries) o = first_if (entry == 0) _ (this_entries done (suc number) entries) (part_place P done number o) (entries_places done (suc number) entries o)

  escapes_places : (done : Op) (kind : OpKind) → OpPlaces P done → KindPlaces P kind → AllByRecursion P (escapes_by done kind)
  escapes_places done (op.Copy target source ty) o k = one_if (source == 0) _ (part_place P done 1 o)
  escapes_places done (op.Fill target ty entries) o k = entries_places done 0 entries o
  escapes_places done (op.Store array index value ty) o k = one_if (value == 0) _ (part_place P done 0 o)
  escapes_places done (op.WriteField object field value) o k = one_if (value == 0) _ (part_place P done 1 o)
  escapes_places done (op.NewObject call) o k = args_places call.args k.1
  escapes_places done (op.StaticCall call) o k = args_places call.args k.1
  escapes_places done (op.InstanceCall call) o k = joined _ (this_args call.args) (one_if (is_this call.receiver) done.span o.0) (args_places call.args k.1)
  escapes_places done (op.SuperCall call) o k = args_places call.args k.1
  escapes_places done (op.Const target value) o k = tt
  escapes_places done (op.Num target arith left right) o k = tt
  escapes_places done (op.Unary target unary operand) o k = tt
  escapes_places done (op.Length target array) o k = tt
  escapes_places done (op.NewArray target ty size) o k = tt
  escapes_places done (op.Load target array index ty) o k = tt
  escapes_places done (op.ReadField target object field) o k = tt
  escapes_places done (op.Print value) o k = tt

  escapes_at : (spans : List Span) (error : Error) (rank : ℕ) → AllByRecursion P spans → EscapesAt spans error rank → P error.span
  escapes_at spans error rank all e = plain_place P error 14 e.span e.is (all_got P spans e.at e.span all e.place)

  test_place : (method : Method) (test : Test) (error : Error) (rank : ℕ) → TestPlaces P test → TestEscapes method test error rank → P error.span
  test_place method test error rank t e =
      escapes_at (escapes_in test) error rank (joined _ _ (one_if (test.left == 0) test.left_span t.0) (one_if (test.right == 0) test.right_span t.1)) e.1

  op_place : (program : Program) (method : Method) (done : Op) (error : Error) (rank : ℕ) → OpPlaces P done → OpText program method done error rank → P error.span
  op_place program method done error rank o either = elim either [
    | inl effect ↦ plain_place P error 13 done.span effect.is o.0
    | inr (inl assigns) ↦ plain_place P error 15 _ assigns.is (part_place P done 0 o)
    | inr (inr escapes) ↦ escapes_at (escapes_by done done.kind) error rank (escapes_places done done.kind o o.2) escapes.1
  ]

  module _ (Q : Op → Type 0) (T : Test → Type 0) (Goal : Type 0) (of_op : (done : Op) → OpPlaces P done → Q done → Goal) (of_test : (test : Test) → TestPlaces P test → T test → Goal) where
    mutual
      somewhere : (code : Code) → CodePlaces P code → Somewhere Q T code → Goal
      somewhere End c s = absurd s
      somewhere (Do done rest) c s = elim s [ inl here ↦ of_op done c.0 here | inr later ↦ somewhere rest c.1 later ]
      somewhere (If asked first second rest) c s = elim s [
        | inl one ↦ somewhere_asked asked c.0 one
        | inr (inl two) ↦ somewhere first c.1 two
        | inr (inr (inl three)) ↦ somewhere second c.2 three
        | inr (inr (inr four)) ↦ somewhere rest c.3 four
      ]
      somewhere (Break rest) c s = somewhere rest c s
      somewhere (Continue rest) c s = somewhere rest c s
      somewhere (Return value span rest) c s = somewhere rest c.1 s
      somewhere (Throw name span rest) c s = somewhere rest c.1 s
      somewhere (Loop test_first asked body next number scope rest) c s = elim s [
        | inl one ↦ somewhere_asked asked c.0 one
        | inr (inl two) ↦ somewhere body c.1 two
        | inr (inr (inl three)) ↦ somewhere next c.2 three
        | inr (inr (inr four)) ↦ somewhere rest c.3 four
      ]

      somewhere_asked : (asked : Condition) → AskedPlaces P asked → SomewhereAsked Q T asked → Goal
      somewhere_asked (Known answer) c s = absurd s
      somewhere_asked (Compare code test) c s = elim s [ inl one ↦ somewhere code c.0 one | inr two ↦ of_test test c.1 two ]
      somewhere_asked (Truth code slot) c s = somewhere code c s
      somewhere_asked (Both first second) c s = elim s [ inl one ↦ somewhere_asked first c.0 one | inr two ↦ somewhere_asked second c.1 two ]
      somewhere_asked (Either first second) c s = elim s [ inl one ↦ somewhere_asked first c.0 one | inr two ↦ somewhere_asked second c.1 two ]
      somewhere_asked (Opposite asked) c s = somewhere_asked asked c s

  overrides_place : (program : Program) (method : Method) (number : ℕ) (over : Option ℕ) (error : Error) (rank : ℕ) → P method.span → OverridesBy program method number over error rank → P error.span
  overrides_place program method number None error rank m none = absurd none
  overrides_place program method number (Some over) error rank m either = elim either [
    | inl param ↦ unproved_place P _ _ 10 method.span _ error rank param.of m
    | inr (inl result) ↦ unproved_place P _ _ 11 method.span _ error rank result m
    | inr (inr effect) ↦ plain_place P error 12 method.span effect.is m
  ]

  pub text_place : (program : Program) (method : Method) (number : ℕ) (error : Error) (rank : ℕ) → MethodPlaces P method → TextErrors program method number error rank → P error.span
  text_place program method number error rank m either = elim either [
    | inl over ↦ overrides_place program method number method.overrides error rank m.0 over
    | inr text ↦ somewhere (λ done. OpText program method done error rank) (λ test. TestEscapes method test error rank) (P error.span)
        (λ done o t. op_place program method done error rank o t) (λ test c t. test_place method test error rank c t) (body_of method) m.1 text
  ]
