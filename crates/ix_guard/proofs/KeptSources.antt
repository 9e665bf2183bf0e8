-- Without the texts that are inserted the bytes are the source's.
use Rattle.std.proofs.Common.{ℕ, ◌-◌, List, [], ◌∷◌, ◌++◌, map, take, drop, sym, ap, ◌∙◌, append-nil}
use Rattle.std.proofs.lemmas.List.{take-append-drop}
use Rattle.ix_guard.specs.declared.insertion.Insertion.{Insertion}
use Rattle.ix_guard.specs.Guards.{with_texts}
use Rattle.ix_guard.specs.Kept.{IsSourceWith}

pub source_kept : (at : ℕ) (bytes : List ℕ) (insertions : List Insertion) → IsSourceWith bytes (map (λ (i : Insertion). i.text) insertions) (with_texts at bytes insertions)
source_kept at bytes [] = record { pieces = bytes ∷ []; whole = append-nil bytes; between = sym (append-nil bytes) }
source_kept at bytes (insertion ∷ rest) =
    let count = insertion.place - at in
    let kept = source_kept insertion.place (drop count bytes) rest in
    record {
      pieces = take count bytes ∷ kept.pieces;
      whole = ap (λ more. take count bytes ++ more) kept.whole ∙ take-append-drop count bytes;
      between = ap (λ more. take count bytes ++ (insertion.text ++ more)) kept.between;
    }
