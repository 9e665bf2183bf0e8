use Rattle.std.proofs.Common.{◌≡◌, ℕ, ◌<◌, List, length, get_or, drop, true, refl, ◌∙◌, slice_get, option_map, bytes_eq}
use Rattle.std.proofs.lemmas.Option.{slice_get-get_or}
use Rattle.std.proofs.Math.Seq.{drop-cons}
use Rattle.ix_outside.specs.Outside.{Files, held}

-- what is held under a name is what the first file of that name has
pub held-at : (files : Files) (i : ℕ) (file : List ℕ × List ℕ) (name : List ℕ)
    → i < length files → file ≡ get_or files i file → bytes_eq file.0 name ≡ true
    → held files name ≡ held (drop i files) name
    → held files name ≡ option_map (λ f. f.1) (slice_get files i)
held-at files i file name within is found before =
    rw (slice_get-get_or files i file within, ← is) (before ∙ (rw (drop-cons files i file within, ← is, found) refl))
