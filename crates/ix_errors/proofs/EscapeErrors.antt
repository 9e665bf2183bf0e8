-- The errors of places are exactly those of `this` that escapes there.
use Rattle.std.specs.Prelude.{◌≡◌, ◌⊎◌, ℕ, zero, suc, true, slice_get, Some, None, List, [], ◌∷◌, refl}
use Rattle.std.proofs.Common.{inl, inr, ap, ◌∙◌, ⊎_elim}
use Rattle.ix_text.specs.declared.span.Span.{Span}
use Rattle.ix_core.specs.declared.error.Error.{Error}
use Rattle.ix_core.specs.declared.op.Op.{Op}
use Rattle.ix_core.specs.declared.op.Test.{Test}
use Rattle.ix_core.specs.declared.program.Method.{Method}
use Rattle.ix_errors.specs.declared.ranked.Ranked.{Ranked}
use Rattle.ix_errors.specs.Exactly.{AreExactly}
use Rattle.ix_signatures.specs.SignErrors.{plain}
use Rattle.ix_errors.proofs.Refused.{exactly_none, exactly_both, exactly_same}
use Rattle.ix_sign.specs.RuleErrors.{EscapesAt, OpEscapes, TestEscapes, escapes_by, escapes_in}
use Rattle.ix_errors.specs.Escapes.{errors_at}

abbrev OneAt : Span → Error → ℕ → Type 0
OneAt place error rank = (error ≡ plain 14 place) × (rank ≡ 0)

one_exact : (place : Span) → AreExactly (OneAt place) (record { error = plain 14 place; rank = 0 } ∷ [])
one_exact place = record {
  all = λ error rank d. let e = d.0 in let f = d.1 in inl cc;
  only = λ found i. ⊎_elim (λ same. (ap (λ (r : Ranked). r.error) same, ap (λ (r : Ranked). r.rank) same)) (λ none. absurd none) i;
}

place_parts : (place : Span) (places : List Span) (error : Error) (rank : ℕ) (at : ℕ) (span : Span) → slice_get (place ∷ places) at ≡ Some span → error ≡ plain 14 span → rank ≡ 0
    → OneAt place error rank ⊎ EscapesAt places error rank
place_parts place places error rank zero span here is first = let same : span ≡ place = cc in inl (is ∙ ap (plain 14) same, first)
place_parts place places error rank (suc at) span here is first = inr (record { at = at; span = span; place = here; is = is; first = first })

places_exact : (places : List Span) → AreExactly (EscapesAt places) (errors_at places)
places_exact [] = exactly_none (EscapesAt []) (λ error rank d. let none : None ≡ Some d.span = d.place in absurd cc)
places_exact (place ∷ places) =
    exactly_both (OneAt place) (EscapesAt places) (EscapesAt (place ∷ places)) (record { error = plain 14 place; rank = 0 } ∷ []) (errors_at places)
    (λ error rank d. place_parts place places error rank d.at d.span d.place d.is d.first)
    (λ error rank d. record { at = 0; span = place; place = refl; is = d.0; first = d.1 })
    (λ error rank d. record { at = suc d.at; span = d.span; place = d.place; is = d.is; first = d.first })
    (one_exact place) (places_exact places)

module _ (method : Method) (constructor : method.constructor ≡ true) where
  pub op_escapes : (done : Op) → AreExactly (OpEscapes method done) (errors_at (escapes_by done done.kind))
  op_escapes done =
      exactly_same (EscapesAt (escapes_by done done.kind)) (OpEscapes method done) (errors_at (escapes_by done done.kind))
      (λ error rank. (λ d. (constructor, d), λ d. d.1)) (places_exact (escapes_by done done.kind))

  pub test_escapes : (test : Test) → AreExactly (TestEscapes method test) (errors_at (escapes_in test))
  test_escapes test =
      exactly_same (EscapesAt (escapes_in test)) (TestEscapes method test) (errors_at (escapes_in test))
      (λ error rank. (λ d. (constructor, d), λ d. d.1)) (places_exact (escapes_in test))
