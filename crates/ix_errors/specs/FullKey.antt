-- Keys of one length, for sorting: those of the order, with zeros for what a claim does not have.
use Rattle.std.specs.Prelude.{ℕ, ℤ, pos, List, [], ◌∷◌}
use Rattle.ix_core.specs.declared.claim.Claim.{Claim}
use Rattle.ix_core.specs.declared.claim.Claim.TheVariants as claim
use Rattle.ix_core.specs.declared.claim.Name.{Name}
use Rattle.ix_core.specs.declared.claim.Name.TheVariants.{Param, Local, FieldNamed}
use Rattle.ix_core.specs.declared.claim.Off.{Off}
use Rattle.ix_core.specs.declared.claim.Off.TheVariants as off
use Rattle.ix_core.specs.declared.error.Detail.{Detail}
use Rattle.ix_core.specs.declared.error.Detail.TheVariants as detail
use Rattle.ix_core.specs.declared.error.Error.{Error}
use Rattle.ix_errors.specs.Order.{whom_key}

abbrev pub name_kind : Name → ℤ
name_kind (Param number) = pos 0
name_kind (Local number) = pos 1
name_kind (FieldNamed number) = pos 2

abbrev pub name_number : Name → ℤ
name_number (Param number) = pos number
name_number (Local number) = pos number
name_number (FieldNamed number) = pos number

abbrev pub offset_kind : Off → ℤ
offset_kind off.Nothing = pos 0
offset_kind (off.Plus name) = pos 1
offset_kind (off.Minus name) = pos 2

abbrev pub offset_name_kind : Off → ℤ
offset_name_kind off.Nothing = pos 0
offset_name_kind (off.Plus name) = name_kind name
offset_name_kind (off.Minus name) = name_kind name

abbrev pub offset_name_number : Off → ℤ
offset_name_number off.Nothing = pos 0
offset_name_number (off.Plus name) = name_number name
offset_name_number (off.Minus name) = name_number name

-- what a claim says: its kind from 1, a name, an offset and two numbers
abbrev pub full_claim_key : Claim → List ℤ
full_claim_key (claim.Low low) = pos 1 ∷ pos 0 ∷ pos 0 ∷ pos 0 ∷ pos 0 ∷ pos 0 ∷ low ∷ pos 0 ∷ []
full_claim_key (claim.Range low high) = pos 2 ∷ pos 0 ∷ pos 0 ∷ pos 0 ∷ pos 0 ∷ pos 0 ∷ low ∷ high ∷ []
full_claim_key (claim.Length least) = pos 3 ∷ pos 0 ∷ pos 0 ∷ pos 0 ∷ pos 0 ∷ pos 0 ∷ least ∷ pos 0 ∷ []
full_claim_key (claim.Same other) = pos 4 ∷ name_kind other ∷ name_number other ∷ pos 0 ∷ pos 0 ∷ pos 0 ∷ pos 0 ∷ pos 0 ∷ []
full_claim_key (claim.Less name constant) = pos 5 ∷ name_kind name ∷ name_number name ∷ pos 0 ∷ pos 0 ∷ pos 0 ∷ constant ∷ pos 0 ∷ []
full_claim_key (claim.Upper array offset constant) =
    pos 6 ∷ name_kind array ∷ name_number array ∷ offset_kind offset ∷ offset_name_kind offset ∷ offset_name_number offset ∷ constant ∷ pos 0 ∷ []
full_claim_key (claim.Search array) = pos 7 ∷ name_kind array ∷ name_number array ∷ pos 0 ∷ pos 0 ∷ pos 0 ∷ pos 0 ∷ pos 0 ∷ []
full_claim_key (claim.Negative array) = pos 8 ∷ name_kind array ∷ name_number array ∷ pos 0 ∷ pos 0 ∷ pos 0 ∷ pos 0 ∷ pos 0 ∷ []

abbrev pub full_last_key : Detail → List ℤ
full_last_key detail.Plain = pos 0 ∷ pos 0 ∷ pos 0 ∷ pos 0 ∷ pos 0 ∷ pos 0 ∷ pos 0 ∷ pos 0 ∷ []
full_last_key (detail.Claim subject claim) = full_claim_key claim

-- start, rule, whom, rank, end, claim
abbrev pub full_key : Error → ℕ → ℕ × ℕ × List ℤ × ℕ × ℕ × List ℤ
full_key error rank = (error.span.from, error.rule, whom_key error.detail, rank, error.span.to, full_last_key error.detail)
