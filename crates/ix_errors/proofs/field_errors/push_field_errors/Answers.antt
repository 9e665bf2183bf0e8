use Rattle.std.proofs.Common.{◌≡◌, ◌⊎◌, ◌++◌, true, sym, subst, ◌∙◌}
use Rattle.ix_core.specs.declared.error.Subject.TheVariants as subject
use Rattle.ix_core.specs.declared.fact.Path.TheVariants.{Slot}
use Rattle.ix_core.specs.Tables.{field_at}
use Rattle.ix_facts.specs.Exact.{if_so}
use Rattle.ix_facts.specs.Stores.{IsAdded}
use Rattle.ix_store.specs.StoredFacts.{stored}
use Rattle.ix_signatures.specs.Names.{is_built, written_path}
use Rattle.ix_errors.specs.Refusals.{refusals, not_proved, dependent_refusals}
use Rattle.ix_signatures.specs.Signs.{write_facts}
use Rattle.ix_signatures.specs.SignErrors.{FieldClaim, FieldDependent}
use Rattle.ix_errors.proofs.Refused.{ok_adds}
use Rattle.ix_errors.proofs.WritesRefused.{writes_are}
use Rattle.ix_errors.proofs.field_errors.push_field_errors.Goals as goal

pub returns : goal.returns
returns c =
    let program = c.args.program.now in
    let method = c.args.within.now in
    let w = c.args.write.now in
    let s = stored c.args.store.now in
    let known = stored c.in_ok-known.known in
    let built : is_built method w.object ≡ true = sym c.is_built.ensures ∙ c.if-not-is_built.false in
    let added : IsAdded (write_facts program w.object w.field) s known = subst (λ b. IsAdded (if_so b (write_facts program w.object w.field)) s known) built c.in_ok-known.ensures in
    let own = refusals (not_proved known (written_path w.object w.field w.value) (Slot w.value)) 7 w.place (subject.FieldNamed w.field) 0 (field_at program w.field).claims in
    let rest = dependent_refusals known w.object w.field w.value w.place 0 program.fields in
    record {
      errors = ok_adds (λ error rank. FieldClaim program method w.object w.field w.value w.place s error rank ⊎ FieldDependent program method w.object w.field w.value w.place s error rank) c.args.out.now.items c.push_refused.new.out.items (own ++ rest) c.push_refused.result
          c.push_refused.ensures (writes_are program method w.object w.field w.value w.place s known built added);
    }
