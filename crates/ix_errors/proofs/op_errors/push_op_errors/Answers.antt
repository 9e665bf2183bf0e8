use Rattle.std.specs.Prelude.{◌⊎◌, OnOk}
use Rattle.std.proofs.Common.{sym, subst}
use Rattle.ix_store.specs.StoredFacts.{stored}
use Rattle.ix_errors.specs.Exactly.{AddsExactly}
use Rattle.ix_signatures.specs.SignErrors.{part, FieldClaim, FieldDependent}
use Rattle.ix_sign.specs.RuleErrors.{EntryClaim, KindErrors}
use Rattle.ix_errors.proofs.op_errors.push_op_errors.Goals as goal

pub returns-in-Load : goal.returns-in-Load
returns-in-Load c = record {
  errors = subst (λ k. OnOk c.push_access_errors.result (AddsExactly (KindErrors c.args.program.now c.args.within.now c.args.number c.args.done.now k (stored c.args.store.now)) c.args.out.now.items c.push_access_errors.new.out.items))
      (sym c.in-Load.is) c.push_access_errors.ensures.errors;
}

pub returns-in-Store : goal.returns-in-Store
returns-in-Store c = record {
  errors = subst (λ k. OnOk c.push_store_errors.result (AddsExactly (KindErrors c.args.program.now c.args.within.now c.args.number c.args.done.now k (stored c.args.store.now)) c.args.out.now.items c.push_store_errors.new.out.items))
      (sym c.in-Store.is) c.push_store_errors.ensures;
}

pub returns-in-NewArray : goal.returns-in-NewArray
returns-in-NewArray c = record {
  errors = subst (λ k. OnOk c.push_new_array_errors.result (AddsExactly (KindErrors c.args.program.now c.args.within.now c.args.number c.args.done.now k (stored c.args.store.now)) c.args.out.now.items c.push_new_array_errors.new.out.items))
      (sym c.in-NewArray.is) c.push_new_array_errors.ensures.errors;
}

pub returns-in-Fill : goal.returns-in-Fill
returns-in-Fill c =
    let done = c.args.done.now in
    let store = stored c.args.store.now in
    let old = c.args.out.now.items in
    let new = c.push_entry_errors.new.out.items in
    let r = c.push_entry_errors.result in
    let of_list : OnOk r (AddsExactly (EntryClaim c.in-Fill.ty c.in-Fill.entries done store) old new) =
    subst (λ l. OnOk r (AddsExactly (EntryClaim c.in-Fill.ty l done store) old new)) c.as_slice.ensures c.push_entry_errors.ensures.errors in
    record { errors = subst (λ k. OnOk r (AddsExactly (KindErrors c.args.program.now c.args.within.now c.args.number done k store) old new)) (sym c.in-Fill.is) of_list }

pub returns-in-Copy : goal.returns-in-Copy
returns-in-Copy c = record {
  errors = subst (λ k. OnOk c.push_assign_errors.result (AddsExactly (KindErrors c.args.program.now c.args.within.now c.args.number c.args.done.now k (stored c.args.store.now)) c.args.out.now.items c.push_assign_errors.new.out.items))
      (sym c.in-Copy.is) c.push_assign_errors.ensures;
}

pub returns-in-WriteField : goal.returns-in-WriteField
returns-in-WriteField c =
    let program = c.args.program.now in
    let method = c.args.within.now in
    let done = c.args.done.now in
    let store = stored c.args.store.now in
    let object = c.in-WriteField.object in
    let field = c.in-WriteField.field in
    let value = c.in-WriteField.value in
    let old = c.args.out.now.items in
    let new = c.push_field_errors.new.out.items in
    let r = c.push_field_errors.result in
    let placed : OnOk r (AddsExactly (λ error rank. FieldClaim program method object field value (part done 1) store error rank ⊎ FieldDependent program method object field value (part done 1) store error rank) old new) =
    subst (λ p. OnOk r (AddsExactly (λ error rank. FieldClaim program method object field value p store error rank ⊎ FieldDependent program method object field value p store error rank) old new)) c.part.ensures c.push_field_errors.ensures.errors in
    record { errors = subst (λ k. OnOk r (AddsExactly (KindErrors program method c.args.number done k store) old new)) (sym c.in-WriteField.is) placed }
