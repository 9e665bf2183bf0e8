-- The line of one error more, of errors of any kind.
use Rattle.std.proofs.Common.{◌≡◌, ℕ, ◌+◌, List, [], ◌∷◌, ◌++◌, take, flat_map, sym, ap, ◌∙◌, append_assoc, append-nil}
use Rattle.std.proofs.lemmas.List.Concat.{flat_map-append}

pub one_line_more : {A : Type 0} (line : A → List ℕ) (start : List ℕ) (errors : List A) (index : ℕ) (error : A) (before made after : List ℕ)
    → take (index + 1) errors ≡ take index errors ++ error ∷ [] → before ≡ start ++ flat_map line (take index errors) → made ≡ line error → after ≡ before ++ made
    → after ≡ start ++ flat_map line (take (index + 1) errors)
one_line_more line start errors index error before made after more is line_is added =
    let told : List ℕ = flat_map line (take index errors) in
    rw (more, added, is, line_is) (append_assoc start told (line error) ∙ ap (λ x. start ++ x) (sym (flat_map-append line (take index errors) (error ∷ []) ∙ ap (λ x. told ++ x) (append-nil (line error)))))
