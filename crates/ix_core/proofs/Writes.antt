-- A heap in which an object was put in the place of one of the same kind and size.
use Rattle.std.specs.Prelude.{◌≡◌, ℕ, ◌<◌, ◌==◌, length, slice_set}
use Rattle.std.proofs.Common.{sym, ap, subst, ◌∙◌}
use Rattle.std.proofs.lemmas.List.{length-set}
use Rattle.ix_core.specs.Heap.{Heap, Object, object_at}
use Rattle.ix_core.specs.Objects.{Later}
use Rattle.ix_core.proofs.Cases.{by_test, equal}
use Rattle.ix_core.proofs.Heaps.{object_set, object_other}

module _ (heap : Heap) (number : ℕ) (new : Object) (on : number < length heap) (kind : new.kind ≡ (object_at heap number).kind) (size : length new.cells ≡ length (object_at heap number).cells) where
  pub write_later : Later heap (slice_set heap number new)
  write_later = λ j lt.
      let long : j < length (slice_set heap number new) = subst (λ n. j < n) (sym (length-set heap number new)) lt in
      by_test (j == number)
      (λ t.
      let is : j ≡ number = equal j number t in
      let there : object_at (slice_set heap number new) j ≡ new = ap (object_at (slice_set heap number new)) is ∙ object_set heap number new on in
      record {
        on = long;
        kind = ap (λ i. (object_at heap i).kind) is ∙ (sym kind ∙ sym (ap (λ (o : Object). o.kind) there));
        size = ap (λ i. length (object_at heap i).cells) is ∙ (sym size ∙ sym (ap (λ (o : Object). length o.cells) there));
      })
      (λ t.
      let there : object_at (slice_set heap number new) j ≡ object_at heap j = object_other heap number j new t in
      record { on = long; kind = ap (λ (o : Object). o.kind) (sym there); size = ap (λ (o : Object). length o.cells) (sym there) })
