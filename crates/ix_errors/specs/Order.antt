-- The order in which errors are listed: by place, then rule, then as claims are declared.
use Rattle.std.specs.Prelude.{ℕ, Bool, true, false, ◌&&◌, ◌||◌, ℤ, pos, int_lt, List, [], ◌∷◌, ◌++◌}
use Rattle.std.specs.Ordering.{int_eq}
use Rattle.ix_core.specs.declared.claim.Claim.{Claim}
use Rattle.ix_core.specs.declared.claim.Claim.TheVariants as claim
use Rattle.ix_core.specs.declared.claim.Name.{Name}
use Rattle.ix_core.specs.declared.claim.Name.TheVariants.{Param, Local, FieldNamed}
use Rattle.ix_core.specs.declared.claim.Off.{Off}
use Rattle.ix_core.specs.declared.claim.Off.TheVariants as off
use Rattle.ix_core.specs.declared.error.Detail.{Detail}
use Rattle.ix_core.specs.declared.error.Detail.TheVariants as detail
use Rattle.ix_core.specs.declared.error.Error.{Error}
use Rattle.ix_core.specs.declared.error.Subject.{Subject}
use Rattle.ix_core.specs.declared.error.Subject.TheVariants as subject

-- subjects in the order of declaration: elements first, then parameters, locals, fields, results and fields of which a post speaks, each by their numbers
abbrev pub subject_key : Subject → List ℤ
subject_key subject.Element = pos 0 ∷ pos 0 ∷ pos 0 ∷ []
subject_key (subject.Param method number) = pos 1 ∷ pos method ∷ pos number ∷ []
subject_key (subject.Local method number) = pos 2 ∷ pos method ∷ pos number ∷ []
subject_key (subject.FieldNamed field) = pos 3 ∷ pos field ∷ pos 0 ∷ []
subject_key (subject.Result method) = pos 4 ∷ pos method ∷ pos 0 ∷ []
subject_key (subject.PostField method field) = pos 5 ∷ pos method ∷ pos field ∷ []

-- of whom an error speaks; one without a claim speaks of nobody
abbrev pub whom_key : Detail → List ℤ
whom_key detail.Plain = pos 0 ∷ pos 0 ∷ pos 0 ∷ []
whom_key (detail.Claim subject claim) = subject_key subject

abbrev pub name_key : Name → List ℤ
name_key (Param number) = pos 0 ∷ pos number ∷ []
name_key (Local number) = pos 1 ∷ pos number ∷ []
name_key (FieldNamed number) = pos 2 ∷ pos number ∷ []

abbrev pub offset_key : Off → List ℤ
offset_key off.Nothing = pos 0 ∷ pos 0 ∷ pos 0 ∷ []
offset_key (off.Plus name) = pos 1 ∷ name_key name
offset_key (off.Minus name) = pos 2 ∷ name_key name

abbrev pub claim_key : Claim → List ℤ
claim_key (claim.Low low) = pos 0 ∷ low ∷ []
claim_key (claim.Range low high) = pos 1 ∷ low ∷ high ∷ []
claim_key (claim.Length least) = pos 2 ∷ least ∷ []
claim_key (claim.Same other) = pos 3 ∷ name_key other
claim_key (claim.Less name constant) = pos 4 ∷ (name_key name ++ (constant ∷ []))
claim_key (claim.Upper array offset constant) = pos 5 ∷ (name_key array ++ (offset_key offset ++ (constant ∷ [])))
claim_key (claim.Search array) = pos 6 ∷ name_key array
claim_key (claim.Negative array) = pos 7 ∷ name_key array

-- Claims on the elements of two types may have one place and one rank: then the claim itself decides, a least number before a range.
abbrev pub last_key : Detail → List ℤ
last_key detail.Plain = []
last_key (detail.Claim subject claim) = claim_key claim

-- By the start of the place, then the rule, then the subject, then the place of the claim in its declaration, then the end of the place.
abbrev pub error_key : Error → ℕ → List ℤ
error_key error rank = pos error.span.from ∷ pos error.rule ∷ (whom_key error.detail ++ (pos rank ∷ pos error.span.to ∷ last_key error.detail))

-- The first of two lists of numbers comes before the second, as words in a dictionary do.
abbrev pub is_before : List ℤ → List ℤ → Bool
is_before [] [] = false
is_before [] (n ∷ ns) = true
is_before (m ∷ ms) [] = false
is_before (m ∷ ms) (n ∷ ns) = int_lt m n || (int_eq m n && is_before ms ns)
