use Rattle.std.proofs.Common.{◌≡◌, ◌++◌, length, refl, sym, ap, subst, ◌∙◌}
use Rattle.std.specs.Prelude.{slice_get, unwrap_or}
use Rattle.std.proofs.lemmas.Option.{slice_get_read}
use Rattle.ix_core.specs.declared.program.Field.{Field}
use Rattle.ix_core.specs.Tables.{field_at, no_field}
use Rattle.ix_signatures.specs.Naming.{AreSmallClaims}
use Rattle.ix_store.specs.StoredFacts.{stored}
use Rattle.ix_errors.specs.Refusals.{dependent_refusals}
use Rattle.ix_text.proofs.Walked.{next, none_left}
use Rattle.ix_errors.proofs.field_errors.push_dependents.Goals as goal

pub loop-number-init : goal.loop-number-init
loop-number-init c =
    let write = c.args.write.now in
    ap (λ l. c.args.out.now.items ++ dependent_refusals (stored c.args.store.now) write.object write.field write.value write.place 0 l) c.as_slice-fields.ensures

pub push_dependent-requires : goal.push_dependent-requires
push_dependent-requires c =
    let number = c.loop-number.number in
    let field = c.index-fields-number.result in
    let fields = c.as_slice-fields.result.now in
    let read = slice_get_read fields (length fields) number field refl c.loop-number-test.true c.index-fields-number.is in
    let is : field_at c.args.program.now number ≡ field = ap (λ l. unwrap_or (slice_get l number) no_field) (sym c.as_slice-fields.ensures) ∙ ap (λ found. unwrap_or found no_field) read in
    record { small = subst (λ (f : Field). AreSmallClaims f.claims) is (c.requires.small.fields number) }

pub loop-number-preserved : goal.loop-number-preserved
loop-number-preserved c =
    let write = c.args.write.now in
    next (dependent_refusals (stored c.args.store.now) write.object write.field write.value write.place) c.as_slice-fields.result.now c.loop-number.number c.index-fields-number.result _ _ _ _
    c.loop-number-test.true c.index-fields-number.is (λ rest. refl) c.in_ok-push_dependent.ensures c.loop-number.invariant

pub returns : goal.returns
returns c =
    let write = c.args.write.now in
    none_left (dependent_refusals (stored c.args.store.now) write.object write.field write.value write.place) c.as_slice-fields.result.now c.loop-number.number _ _
    c.loop-number-test.false refl c.loop-number.invariant
