use Rattle.std.proofs.Common.{sym, subst, ◌∙◌, inl, inr}
use Rattle.std.specs.Prelude.{IfOk}
use Rattle.std.proofs.lemmas.Result.{IfOk-weaker}
use Rattle.ix_facts.specs.Stores.{IsAdded}
use Rattle.ix_facts.specs.Systems.{HaveClasses}
use Rattle.ix_store.specs.StoredFacts.{stored}
use Rattle.ix_signatures.specs.Signs.{IsLeastOf}
use Rattle.ix_sign.specs.MethodRules.{KindGives}
use Rattle.ix_sign.proofs.AfterRules.{copied_have, copy_least, plain_gives, plain_least}
use Rattle.ix_sign.proofs.operations.after.Goals as goal

pub add-requires : goal.add-requires
add-requires c = record { classes = subst HaveClasses (sym (c.deref.ensures.value ∙ c.in_ok-facts-in-Copy.ensures)) (copied_have c.args.within.now c.in-Copy.target c.args.done.now.span.from) }

pub returns-in_ok-copied-in-Copy : goal.returns-in_ok-copied-in-Copy
returns-in_ok-copied-in-Copy c =
    let method = c.args.within.now in
    let place = c.args.done.now.span.from in
    let between = stored c.in_ok-copied-in-Copy.copied in
    record {
      least = IfOk-weaker c.add.result (λ t. IsAdded c.deref.result.now between (stored t)) _
          (λ t added. copy_least c.args.program.now method c.args.profile c.args.done.now.kind c.in-Copy.target _ c.in-Copy.field-2 place (stored c.args.store.now) between (stored t) c.in-Copy.is c.in_ok-copied-in-Copy.ensures.after
          (subst (λ l. IsAdded l between (stored t)) (c.deref.ensures.value ∙ c.in_ok-facts-in-Copy.ensures) added))
          c.add.ensures.after;
    }

pub returns-in-ReadField : goal.returns-in-ReadField
returns-in-ReadField c = record {
  least = subst (λ k. IfOk c.after_read.result (λ after. IsLeastOf (KindGives c.args.program.now c.args.within.now c.args.profile k c.args.done.now.span.from) (stored c.args.store.now) (stored after))) (sym c.in-ReadField.is) c.after_read.ensures.least;
}

pub returns-in-WriteField : goal.returns-in-WriteField
returns-in-WriteField c = record {
  least = subst (λ k. IfOk c.after_write.result (λ after. IsLeastOf (KindGives c.args.program.now c.args.within.now c.args.profile k c.args.done.now.span.from) (stored c.args.store.now) (stored after))) (sym c.in-WriteField.is) c.after_write.ensures.least;
}

pub returns-in-NewObject : goal.returns-in-NewObject
returns-in-NewObject c = record {
  least = elim c.in-NewObject.is [
    | inl is ↦ subst (λ k. IfOk c.after_call.result (λ after. IsLeastOf (KindGives c.args.program.now c.args.within.now c.args.profile k c.args.done.now.span.from) (stored c.args.store.now) (stored after))) (sym is) c.after_call.ensures.least
    | inr (inl is) ↦ subst (λ k. IfOk c.after_call.result (λ after. IsLeastOf (KindGives c.args.program.now c.args.within.now c.args.profile k c.args.done.now.span.from) (stored c.args.store.now) (stored after))) (sym is) c.after_call.ensures.least
    | inr (inr is) ↦ subst (λ k. IfOk c.after_call.result (λ after. IsLeastOf (KindGives c.args.program.now c.args.within.now c.args.profile k c.args.done.now.span.from) (stored c.args.store.now) (stored after))) (sym is) c.after_call.ensures.least
  ];
}

pub returns-in_default : goal.returns-in_default
returns-in_default c =
    let program = c.args.program.now in
    let method = c.args.within.now in
    let kind = c.args.done.now.kind in
    let place = c.args.done.now.span.from in
    let nots = c.in_default in
    record {
      least = plain_least program method c.args.profile kind place (stored c.args.store.now) c.after-in_default.result
          (plain_gives program method c.args.profile kind place nots.not-Copy nots.not-ReadField nots.not-WriteField nots.not-NewObject nots.not-StaticCall nots.not-InstanceCall nots.not-SuperCall)
          c.after-in_default.ensures.after;
    }
