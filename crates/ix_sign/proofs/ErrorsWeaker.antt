-- A weaker store has all errors of a stronger one.
use Rattle.std.specs.Prelude.{ℕ, Bool, pos, List, Option, None, Some}
use Rattle.std.proofs.Common.{inl, inr, ⊎_elim}
use Rattle.ix_text.specs.declared.span.Span.{Span}
use Rattle.ix_core.specs.declared.claim.Claim.{Claim}
use Rattle.ix_core.specs.declared.claim.Name.{Name}
use Rattle.ix_core.specs.declared.error.Error.{Error}
use Rattle.ix_core.specs.declared.error.Subject.{Subject}
use Rattle.ix_core.specs.declared.error.Subject.TheVariants.{Element, Param, FieldNamed, Result}
use Rattle.ix_core.specs.declared.claim.Type_.{Type_}
use Rattle.ix_core.specs.declared.fact.Path.TheVariants.{Slot, FieldOf}
use Rattle.ix_core.specs.declared.fact.PathOff.TheVariants.{Nothing}
use Rattle.ix_core.specs.declared.fact.PathClaim.TheVariants as path_claim
use Rattle.ix_core.specs.declared.op.CallOp.{CallOp}
use Rattle.ix_core.specs.Tables.{field_at}
use Rattle.ix_num.specs.Ints.{least_int}
use Rattle.ix_facts.specs.AfterOperation.{loaded_claims}
use Rattle.ix_rules_hold.specs.MachineSteps.{on_paths, own_path}
use Rattle.ix_core.specs.declared.fact.Fact.{Fact}
use Rattle.ix_core.specs.declared.fact.Path.{Path}
use Rattle.ix_core.specs.declared.fact.PathClaim.{PathClaim}
use Rattle.ix_core.specs.declared.op.Op.{Op}
use Rattle.ix_core.specs.declared.op.OpKind.{OpKind}
use Rattle.ix_core.specs.declared.op.OpKind.TheVariants as op
use Rattle.ix_core.specs.declared.program.Method.{Method}
use Rattle.ix_core.specs.declared.program.Program.{Program}
use Rattle.ix_facts.specs.Stores.{Stored, Unreachable, Reached, IsBelow}
use Rattle.ix_facts.proofs.SplitLaws.{proved_mono}
use Rattle.ix_facts.proofs.StoreLaws.{below_itself}
use Rattle.ix_flow.specs.Flow.{Point, Doing, Returning, Ending}
use Rattle.ix_signatures.specs.Names.{variable_at, call_path, object_path, written_path}
use Rattle.ix_signatures.specs.Signs.{Adds, write_facts}
use Rattle.ix_signatures.specs.SignErrors.{Refuses, AllRefuse, IsReached, Unproved, part, ArgumentClaim, ConstructorClaim, PostClaim}
use Rattle.ix_signatures.proofs.SignSteps.{adds_step}
use Rattle.ix_sign.specs.RuleErrors.{AccessLow, AccessHigh, AssignClaim, ElementClaim, KindErrors, PointErrors, subject_of, no_path}

module _ (s t : Stored) (below : IsBelow s t) where
  refuses_more : (claim : PathClaim) (p : Path) → Refuses s claim p → Refuses t claim p
  refuses_more claim p refused proved = refused (proved_mono claim p s t below proved)

  all_refuse_more : (new : List Fact) (claim : PathClaim) (p : Path) → AllRefuse (Adds new s) claim p → AllRefuse (Adds new t) claim p
  all_refuse_more new claim p refused u gives = refused u (adds_step new s t u u below gives (below_itself u))

  unproved_more : (First Second : Claim → Type 0) (claims : List Claim) (rule : ℕ) (span : Span) (subject : Subject) (error : Error) (rank : ℕ) → ((claim : Claim) → First claim → Second claim)
      → Unproved First claims rule span subject error rank → Unproved Second claims rule span subject error rank
  unproved_more First Second claims rule span subject error rank more u = record { claim = u.claim; claimed = u.claimed; refused = more u.claim u.refused; is = u.is }

  assign_more : (method : Method) (number source : ℕ) (place : Span) (variable : Option (Name × List Claim)) (error : Error) (rank : ℕ) → AssignClaim method number source place variable s error rank → AssignClaim method number source place variable t error rank
  assign_more method number source place None error rank d = absurd d
  assign_more method number source place (Some variable) error rank d =
      unproved_more _ _ variable.1 4 place (subject_of number variable.0) error rank (λ claim. refuses_more (on_paths (own_path method) claim) (Slot source)) d

  low_more : (index : ℕ) (place : Span) (error : Error) (rank : ℕ) → AccessLow index place s error rank → AccessLow index place t error rank
  low_more index place error rank x = record { refused = refuses_more (path_claim.Low (pos 0)) (Slot index) x.refused; is = x.is; first = x.first }

  high_more : (array index : ℕ) (place : Span) (error : Error) (rank : ℕ) → AccessHigh array index place s error rank → AccessHigh array index place t error rank
  high_more array index place error rank x = record { refused = refuses_more (path_claim.Upper (Slot array) Nothing (pos 0)) (Slot index) x.refused; is = x.is; first = x.first }

  element_more : (ty : Type_) (value : ℕ) (place : Span) (error : Error) (rank : ℕ) → ElementClaim ty value place s error rank → ElementClaim ty value place t error rank
  element_more ty value place error rank x = unproved_more _ _ (loaded_claims ty) 16 place Element error rank (λ claim. refuses_more (on_paths no_path claim) (Slot value)) x

  argument_more : (program : Program) (call : CallOp) (error : Error) (rank : ℕ) → ArgumentClaim program call s error rank → ArgumentClaim program call t error rank
  argument_more program call error rank d = record {
    number = d.number;
    param = d.param;
    declared = d.declared;
    arg = d.arg;
    given = d.given;
    of = unproved_more _ _ d.param.claims 5 d.arg.span (Param call.method d.number) error rank (λ claim. refuses_more (on_paths (call_path call) claim) (Slot d.arg.slot)) d.of;
  }

  constructor_more : (program : Program) (method : Method) (error : Error) (rank : ℕ) → ConstructorClaim program method s error rank → ConstructorClaim program method t error rank
  constructor_more program method error rank x = record {
    constructor = x.constructor;
    at = x.at;
    field = x.field;
    has = x.has;
    of = unproved_more _ _ (field_at program x.field).claims 9 method.span (FieldNamed x.field) error rank (λ claim. refuses_more (on_paths (object_path 0) claim) (FieldOf 0 x.field)) x.of;
  }

  post_more : (method : Method) (number : ℕ) (value : Option ℕ) (known : Option Bool) (span : Span) (error : Error) (rank : ℕ) → PostClaim method number value known span s error rank → PostClaim method number value known span t error rank
  post_more method number value known span error rank x =
      record { post = x.post; promised = x.promised; counts = x.counts; refused = refuses_more (on_paths (own_path method) x.post.claim) (own_path method x.post.on) x.refused; is = x.is }

  reached_more : (a b : Stored) → IsBelow a b → IsReached a → IsReached b
  reached_more Unreachable b down reached = absurd reached
  reached_more (Reached facts) Unreachable down reached = absurd down
  reached_more (Reached facts) (Reached others) down reached = tt

  module _ (program : Program) (method : Method) (number : ℕ) (error : Error) (rank : ℕ) where
    kind_more : (done : Op) (kind : OpKind) → KindErrors program method number done kind s error rank → KindErrors program method number done kind t error rank
    kind_more done (op.Const target value) d = absurd d
    kind_more done (op.Copy target source ty) d = assign_more method number source _ (variable_at method target done.span.from) error rank d
    kind_more done (op.Num target arith left right) d = absurd d
    kind_more done (op.Unary target unary operand) d = absurd d
    kind_more done (op.Length target array) d = absurd d
    kind_more done (op.NewArray target ty size) d =
        ⊎_elim
        (λ x. inl (record { refused = refuses_more (path_claim.Low (pos 0)) (Slot size) x.refused; is = x.is; first = x.first }))
        (λ x. inr (unproved_more _ _ (loaded_claims ty) 16 done.span Element error rank (λ claim f. (f.0, refuses_more (path_claim.Range least_int (pos 0)) (Slot size) f.1)) x))
        d
    kind_more done (op.Fill target ty entries) d = record { at = d.at; value = d.value; entry = d.entry; of = element_more ty d.value (part done d.at) error rank d.of }
    kind_more done (op.Load target array index ty) d =
        ⊎_elim (λ x. inl (low_more index done.span error rank x)) (λ x. inr (high_more array index done.span error rank x)) d
    kind_more done (op.Store array index value ty) d =
        ⊎_elim
        (λ x. inl (low_more index done.span error rank x))
        (λ y. ⊎_elim (λ x. inr (inl (high_more array index done.span error rank x))) (λ x. inr (inr (element_more ty value (part done 0) error rank x))) y)
        d
    kind_more done (op.ReadField target object field) d = absurd d
    kind_more done (op.WriteField object field value) d =
        ⊎_elim
        (λ x. inl (record { built = x.built; of = unproved_more _ _ _ _ _ _ error rank (λ claim. all_refuse_more (write_facts program object field) (on_paths (written_path object field value) claim) (Slot value)) x.of }))
        (λ x. inr (record { built = x.built; other = x.other; apart = x.apart; of = unproved_more _ _ _ _ _ _ error rank (λ claim f. (f.0, all_refuse_more (write_facts program object field) (on_paths (written_path object field value) claim) (FieldOf object x.other) f.1)) x.of }))
        d
    kind_more done (op.NewObject call) d = argument_more program call error rank d
    kind_more done (op.StaticCall call) d = argument_more program call error rank d
    kind_more done (op.InstanceCall call) d = argument_more program call error rank d
    kind_more done (op.SuperCall call) d = argument_more program call error rank d
    kind_more done (op.Print value) d = absurd d

    pub errors_weaker : (point : Point) → PointErrors program method number point s error rank → PointErrors program method number point t error rank
    errors_weaker (Doing done) d = kind_more done done.kind d
    errors_weaker (Returning value known span) d =
        ⊎_elim
        (λ x. inl (record { slot = x.slot; returned = x.returned; of = unproved_more _ _ method.result_claims 6 span (Result number) error rank (λ claim. refuses_more (on_paths (own_path method) claim) (Slot x.slot)) x.of }))
        (λ y. inr (⊎_elim (λ x. inl (constructor_more program method error rank x)) (λ x. inr (post_more method number value known span error rank x)) y))
        d
    errors_weaker Ending d =
        ⊎_elim
        (λ x. inl (constructor_more program method error rank x))
        (λ y. inr (⊎_elim
        (λ x. inl (record { result = x.result; reached = reached_more s t below x.reached; is = x.is; first = x.first }))
        (λ x. inr (post_more method number None None method.span error rank x))
        y))
        d
