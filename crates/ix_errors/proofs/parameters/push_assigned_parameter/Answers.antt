use Rattle.std.specs.Prelude.{◌≡◌, ◌++◌, ◌∷◌, [], OnOk}
use Rattle.std.proofs.Common.{sym, ◌∙◌, subst, append-nil}
use Rattle.ix_signatures.specs.SignErrors.{plain, part}
use Rattle.ix_errors.proofs.Refused.{ok_adds}
use Rattle.ix_sign.specs.RuleErrors.{AssignsNamed}
use Rattle.ix_errors.proofs.NamedParameters.{named_error, not_named}
use Rattle.ix_errors.proofs.parameters.push_assigned_parameter.Goals as goal

pub returns-then-is_named : goal.returns-then-is_named
returns-then-is_named c =
    let method = c.args.within.now in
    let done = c.args.done.now in
    let old = c.args.out.now.items in
    let new = c.push_plain.new.out.items in
    let r = c.push_plain.result in
    let added : OnOk r (new ≡ old ++ (record { error = plain 15 (part done 0); rank = 0 } ∷ [])) =
    subst (λ place. OnOk r (new ≡ old ++ (record { error = plain 15 place; rank = 0 } ∷ []))) c.part.ensures c.push_plain.ensures in
    record {
      errors = ok_adds (AssignsNamed method done) old new (record { error = plain 15 (part done 0); rank = 0 } ∷ []) r added
          (named_error method done c.in-Copy.target c.in-Copy.field-1 c.in-Copy.field-2 c.in-Copy.is (sym c.is_named.ensures ∙ c.if-is_named.true));
    }

pub returns-else-is_named : goal.returns-else-is_named
returns-else-is_named c = record {
  errors = (
    [],
    sym (append-nil c.args.out.now.items),
    not_named c.args.within.now c.args.done.now c.in-Copy.target c.in-Copy.field-1 c.in-Copy.field-2 c.in-Copy.is (sym c.is_named.ensures ∙ c.if-is_named.false),
  );
}
