-- The first line of a certificate: it names the profile in which its labels are judged.
use Rattle.std.specs.Prelude.{ℕ, List, ◌++◌, codes}
use Rattle.ix_core.specs.declared.fact.Profile.{Profile}
use Rattle.ix_core.specs.declared.fact.Profile.TheVariants.{Ideal, Int32}

abbrev pub profile_text : Profile → List ℕ
profile_text Ideal = codes "ideal"
profile_text Int32 = codes "int32"

-- `certificate 1 int32` or `certificate 1 ideal`, and the end of the line
abbrev pub first_line : Profile → List ℕ
first_line profile = (codes "certificate 1 " ++ profile_text profile) ++ codes "\n"
