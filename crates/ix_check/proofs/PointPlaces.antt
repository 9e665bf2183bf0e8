-- An error that a store gives at a point has a place that the point names, or that of the method.
use Rattle.std.proofs.Common.{◌≡◌, inl, inr, ℕ, zero, suc, Bool, List, [], ◌∷◌, Option, Some, None, slice_get, unwrap_or, sym, subst}
use Rattle.std.specs.List.{AllByRecursion}
use Rattle.ix_text.specs.declared.span.Span.{Span}
use Rattle.ix_core.specs.declared.claim.Claim.{Claim}
use Rattle.ix_core.specs.declared.claim.Name.{Name}
use Rattle.ix_core.specs.declared.error.Error.{Error}
use Rattle.ix_core.specs.declared.error.Subject.{Subject}
use Rattle.ix_core.specs.declared.op.CallOp.{CallOp}
use Rattle.ix_core.specs.declared.op.Op.{Op}
use Rattle.ix_core.specs.declared.op.OpKind.{OpKind}
use Rattle.ix_core.specs.declared.op.OpKind.TheVariants as op
use Rattle.ix_core.specs.declared.program.Method.{Method}
use Rattle.ix_core.specs.declared.program.Program.{Program}
use Rattle.ix_facts.specs.Stores.{Stored}
use Rattle.ix_flow.specs.Flow.{Point, Doing, Returning, Ending}
use Rattle.ix_sign.specs.RuleErrors.{AssignClaim, KindErrors, PointErrors}
use Rattle.ix_signatures.specs.SignErrors.{Unproved, plain, part, value_place, ArgumentClaim, PostClaim}
use Rattle.ix_core.specs.CodePlaces.{ArgPlaces, CallPlaces, OpPlaces, KindPlaces}
use Rattle.ix_check.proofs.FlowPlaces.{PointPlaces}

pub all_got : {A : Type 0} (P : A → Type 0) (xs : List A) (k : ℕ) (x : A) → AllByRecursion P xs → slice_get xs k ≡ Some x → P x
all_got P [] k x all got = cc
all_got P (y ∷ xs) zero x all got = let e : y ≡ x = cc in subst P e all.0
all_got P (y ∷ xs) (suc k) x all got = all_got P xs k x all.1 got

module _ (P : Span → Type 0) where
  pub plain_place : (error : Error) (rule : ℕ) (span : Span) → error ≡ plain rule span → P span → P error.span
  plain_place error rule span is p = subst (λ (e : Error). P e.span) (sym is) p

  pub unproved_place : (Fails : Claim → Type 0) (claims : List Claim) (rule : ℕ) (span : Span) (subject : Subject) (error : Error) (rank : ℕ) → Unproved Fails claims rule span subject error rank → P span → P error.span
  unproved_place Fails claims rule span subject error rank u p = subst (λ (e : Error). P e.span) (sym u.is) p

  part_or : (parts : List Span) (number : ℕ) (span : Span) → AllByRecursion P parts → P span → P (unwrap_or (slice_get parts number) span)
  part_or [] number span all p = p
  part_or (first ∷ parts) zero span all p = all.0
  part_or (first ∷ parts) (suc number) span all p = part_or parts number span all.1 p

  pub part_place : (done : Op) (number : ℕ) → OpPlaces P done → P (part done number)
  part_place done number o = part_or done.parts number done.span o.1 o.0

  argument_place : (program : Program) (call : CallOp) (store : Stored) (error : Error) (rank : ℕ) → CallPlaces P call → ArgumentClaim program call store error rank → P error.span
  argument_place program call store error rank c a = unproved_place _ _ 5 a.arg.span _ error rank a.of (all_got (ArgPlaces P) call.args a.number a.arg c.1 a.given)

  assign_place : (method : Method) (number source : ℕ) (place : Span) (variable : Option (Name × List Claim)) (store : Stored) (error : Error) (rank : ℕ) → P place → AssignClaim method number source place variable store error rank → P error.span
  assign_place method number source place None store error rank p a = absurd a
  assign_place method number source place (Some variable) store error rank p a = unproved_place _ _ 4 place _ error rank a p

  kind_place : (program : Program) (method : Method) (number : ℕ) (done : Op) (kind : OpKind) (store : Stored) (error : Error) (rank : ℕ) → OpPlaces P done → KindPlaces P kind → KindErrors program method number done kind store error rank → P error.span
  kind_place program method number done (op.Load target array index ty) store error rank o k either = elim either [
    | inl low ↦ plain_place error 1 done.span low.is o.0
    | inr high ↦ plain_place error 2 done.span high.is o.0
  ]
  kind_place program method number done (op.Store array index value ty) store error rank o k either = elim either [
    | inl low ↦ plain_place error 1 done.span low.is o.0
    | inr (inl high) ↦ plain_place error 2 done.span high.is o.0
    | inr (inr claim) ↦ unproved_place _ _ 16 (part done 0) _ error rank claim (part_place done 0 o)
  ]
  kind_place program method number done (op.NewArray target ty size) store error rank o k either = elim either [
    | inl negative ↦ plain_place error 3 done.span negative.is o.0
    | inr fresh ↦ unproved_place _ _ 16 done.span _ error rank fresh o.0
  ]
  kind_place program method number done (op.Fill target ty entries) store error rank o k entry = unproved_place _ _ 16 (part done entry.at) _ error rank entry.of (part_place done entry.at o)
  kind_place program method number done (op.Copy target source ty) store error rank o k claim = assign_place method number source (part done 1) _ store error rank (part_place done 1 o) claim
  kind_place program method number done (op.WriteField object field value) store error rank o k either = elim either [
    | inl claim ↦ unproved_place _ _ 7 (part done 1) _ error rank claim.of (part_place done 1 o)
    | inr dependent ↦ unproved_place _ _ 8 (part done 1) _ error rank dependent.of (part_place done 1 o)
  ]
  kind_place program method number done (op.NewObject call) store error rank o k claim = argument_place program call store error rank k claim
  kind_place program method number done (op.StaticCall call) store error rank o k claim = argument_place program call store error rank k claim
  kind_place program method number done (op.InstanceCall call) store error rank o k claim = argument_place program call store error rank k claim
  kind_place program method number done (op.SuperCall call) store error rank o k claim = argument_place program call store error rank k claim
  kind_place program method number done (op.Const target value) store error rank o k none = absurd none
  kind_place program method number done (op.Num target arith left right) store error rank o k none = absurd none
  kind_place program method number done (op.Unary target unary operand) store error rank o k none = absurd none
  kind_place program method number done (op.Length target array) store error rank o k none = absurd none
  kind_place program method number done (op.ReadField target object field) store error rank o k none = absurd none
  kind_place program method number done (op.Print value) store error rank o k none = absurd none

  value_placed : (method : Method) (value : Option ℕ) (span : Span) → P method.span → P span → P (value_place method value span)
  value_placed method None span m p = m
  value_placed method (Some slot) span m p = p

  post_place : (method : Method) (number : ℕ) (value : Option ℕ) (known : Option Bool) (span : Span) (store : Stored) (error : Error) (rank : ℕ) → P method.span → P span → PostClaim method number value known span store error rank → P error.span
  post_place method number value known span store error rank m p post = subst (λ (e : Error). P e.span) (sym post.is) (value_placed method value span m p)

  pub point_place : (program : Program) (method : Method) (number : ℕ) (point : Point) (store : Stored) (error : Error) (rank : ℕ) → P method.span → PointPlaces P point → PointErrors program method number point store error rank → P error.span
  point_place program method number (Doing done) store error rank m o error_is = kind_place program method number done done.kind store error rank o o.2 error_is
  point_place program method number (Returning value known span) store error rank m p either = elim either [
    | inl returned ↦ unproved_place _ _ 6 span _ error rank returned.of p
    | inr (inl constructor) ↦ unproved_place _ _ 9 method.span _ error rank constructor.of m
    | inr (inr post) ↦ post_place method number value known span store error rank m p post
  ]
  point_place program method number Ending store error rank m p either = elim either [
    | inl constructor ↦ unproved_place _ _ 9 method.span _ error rank constructor.of m
    | inr (inl missing) ↦ plain_place error 17 method.span missing.is m
    | inr (inr post) ↦ post_place method number None None method.span store error rank m m post
  ]
