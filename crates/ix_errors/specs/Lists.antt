-- The errors of an operation as lists.
use Rattle.std.specs.Prelude.{ℕ, suc, pos, Bool, cond, not, ◌&&◌, List, [], ◌∷◌, ◌++◌}
use Rattle.ix_text.specs.declared.span.Span.{Span}
use Rattle.ix_num.specs.Ints.{least_int}
use Rattle.ix_core.specs.declared.claim.Claim.{Claim}
use Rattle.ix_core.specs.declared.claim.Type_.{Type_}
use Rattle.ix_core.specs.declared.error.Subject.TheVariants.{Element}
use Rattle.ix_core.specs.declared.fact.Path.{Path}
use Rattle.ix_core.specs.declared.fact.Path.TheVariants.{Slot}
use Rattle.ix_core.specs.declared.fact.PathClaim.{PathClaim}
use Rattle.ix_core.specs.declared.fact.PathClaim.TheVariants as path_claim
use Rattle.ix_core.specs.declared.op.Op.{Op}
use Rattle.ix_facts.specs.AfterOperation.{loaded_claims}
use Rattle.ix_facts.specs.Stores.{Stored}
use Rattle.ix_errors.specs.declared.ranked.Ranked.{Ranked}
use Rattle.ix_errors.specs.Refusals.{is_proved, refusals, not_proved}
use Rattle.ix_signatures.specs.SignErrors.{plain, part}
use Rattle.ix_sign.specs.RuleErrors.{zero_meets, no_path}

-- the store doesn't prove the claim of the path
abbrev pub fails : Stored → PathClaim → Path → Bool
fails store claim p = not (is_proved claim p store)

-- an error that has a rule and a place alone
abbrev pub plain_if : Bool → ℕ → Span → List Ranked
plain_if so rule span = cond so (record { error = plain rule span; rank = 0 } ∷ []) []

-- claims on elements that a value isn't proved to meet
abbrev pub element_refusals : Stored → Type_ → ℕ → Span → List Ranked
element_refusals store ty value place = refusals (not_proved store no_path (Slot value)) 16 place Element 0 (loaded_claims ty)

-- of entries, from one of this number on
abbrev pub entry_refusals : Stored → Type_ → Op → ℕ → List ℕ → List Ranked
entry_refusals store ty done number [] = []
entry_refusals store ty done number (entry ∷ entries) = element_refusals store ty entry (part done number) ++ entry_refusals store ty done (suc number) entries

-- a claim that 0 doesn't meet, of an array that isn't known to be empty
abbrev pub zero_fails : Stored → ℕ → Claim → Bool
zero_fails store size claim = not (zero_meets claim) && fails store (path_claim.Range least_int (pos 0)) (Slot size)

abbrev pub fresh_refusals : Stored → Type_ → ℕ → Span → List Ranked
fresh_refusals store ty size place = refusals (zero_fails store size) 16 place Element 0 (loaded_claims ty)
