-- Each line once, of errors of any kind.
use Rattle.std.specs.Prelude.{Bool, if◌then◌else◌, List, [], ◌∷◌, ◌++◌}
use Rattle.std.specs.List.{list_any}

-- one error more behind those that were told, unless its line was told
abbrev pub tell : {A : Type 0} → (A → A → Bool) → List A → A → List A
tell have_one_line before error = if list_any (have_one_line error) before then before else before ++ error ∷ []

abbrev pub told_behind : {A : Type 0} → (A → A → Bool) → List A → List A → List A
told_behind have_one_line before [] = before
told_behind have_one_line before (error ∷ errors) = told_behind have_one_line (tell have_one_line before error) errors

-- the errors without those whose line was told before
abbrev pub told : {A : Type 0} → (A → A → Bool) → List A → List A
told have_one_line errors = told_behind have_one_line [] errors
