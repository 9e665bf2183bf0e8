use Rattle.std.proofs.Common.{rules, refl, [], ◌∷◌, get_or, map}
use Rattle.ix_text.specs.declared.span.Span.{Span}
use Rattle.ix_guard.specs.Shown.{site_of}
use Rattle.ix_text.proofs.Walked.{next_or}
use Rattle.ix_guard.proofs.Sums.{none_left}
use Rattle.ix_guard.proofs.test.meanings_at.Goals as goal

pub loop-place-preserved : goal.loop-place-preserved
loop-place-preserved c =
    let meaning = (site_of c.args.site.now).names.meaning in
    let nowhere : Span = record { from = 0; to = 0 } in
    next_or (λ _. map meaning) c.args.places.now c.loop-place.place-index nowhere (meaning (get_or c.args.places.now c.loop-place.place-index nowhere) ∷ []) _ _ _ c.loop-place-test.true (λ _. refl) (search rules) c.loop-place.invariant

pub returns : goal.returns
returns c = none_left (map (site_of c.args.site.now).names.meaning) refl c.args.places.now c.loop-place.place-index _ _ (search rules) c.loop-place.invariant
