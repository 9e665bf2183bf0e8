-- An error of a method starts in a text where the places of the program do. Where no flow avoids any error, there being none, each is one of the method.
use Rattle.std.proofs.Common.{◌⊎◌, inl, inr, ◌≤◌, ◌<◌, ℕ, zero, suc, List, [], ◌∷◌, length, slice_get, unwrap_or, arith}
use Rattle.std.proofs.lemmas.Bool.{cases_lt}
use Rattle.std.specs.List.{AllByRecursion}
use Rattle.ix_text.specs.declared.span.Span.{Span}
use Rattle.ix_core.specs.declared.error.Error.{Error}
use Rattle.ix_core.specs.declared.fact.Profile.{Profile}
use Rattle.ix_core.specs.declared.program.Method.{Method}
use Rattle.ix_core.specs.declared.program.Program.{Program}
use Rattle.ix_core.specs.Tables.{method_at, no_method, body_of}
use Rattle.ix_flow.specs.Flow.{Rules, Avoids, IsDerived}
use Rattle.ix_sign.specs.MethodRules.{method_rules}
use Rattle.ix_errors.specs.declared.ranked.Ranked.{Ranked}
use Rattle.ix_check.specs.MethodErrors.{Derives, IsErrorOf}
use Rattle.ix_core.specs.CodePlaces.{MethodPlaces, IsIn, PlacesWithin}
use Rattle.ix_check.proofs.FlowPlaces.{is_flow_more}
use Rattle.ix_check.proofs.PointPlaces.{point_place}
use Rattle.ix_check.proofs.TextPlaces.{text_place}

method_places : (P : Span → Type 0) (methods : List Method) (number : ℕ) → AllByRecursion (MethodPlaces P) methods → number < length methods → MethodPlaces P (unwrap_or (slice_get methods number) no_method)
method_places P [] number all within = absurd (omega (arith, within))
method_places P (method ∷ methods) zero all within = all.0
method_places P (method ∷ methods) (suc number) all within = method_places P methods number all.1 (omega (arith, within))

module _ (end : ℕ) (program : Program) (profile : Profile) (places : PlacesWithin end program) (number : ℕ) (within : number < length program.methods) (rank : ℕ) where
  abbrev method : Method
  method = method_at program number

  abbrev R : Rules
  R = method_rules program method profile

  abbrev found : Error → Ranked
  found error = record { error = error; rank = rank }

  -- No point gives an error behind the text. So a flow that avoids another avoids it too, and where none avoids it none avoids the other.
  any_derived : (error other : Error) → end < error.span.from → IsDerived R (Derives program method number) (body_of method) (found error) → IsDerived R (Derives program method number) (body_of method) (found other)
  any_derived error other past derived = λ labels flow.
      let m = method_places (IsIn end) program.methods number places within in
      derived labels (is_flow_more (IsIn end) R (Avoids R (Derives program method number) (found other)) (Avoids R (Derives program method number) (found error))
      (λ point store at avoided gives. let p = point_place (IsIn end) program method number point store error rank m.0 at gives in let le = p.0 in omega (arith, le, past)) labels (body_of method) m.1 flow)

  pub error_starts : (error : Error) → IsErrorOf program profile number error rank → (error.span.from ≤ end) ⊎ ((other : Error) → IsErrorOf program profile number other rank)
  error_starts error either = elim either [
    | inr text ↦ inl (text_place (IsIn end) program method number error rank (method_places (IsIn end) program.methods number places within) text).0
    | inl derived ↦ elim (cases_lt end error.span.from) [
      | inl past ↦ inr (λ other. inl (any_derived error other past derived))
      | inr le ↦ inl (omega (arith, le))
    ]
  ]
