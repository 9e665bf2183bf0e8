-- Names without errors are refused for want of memory alone.
use Rattle.std.proofs.Common.{◌≡◌, inl, inr, List, [], ◌∷◌, Option, Some, None, refl, ap, length, arith}
use Rattle.ix_tree.specs.declared.decl.Unit.{Unit as Source}
use Rattle.ix_meaning.specs.declared.note.NameError.{NameError}
use Rattle.ix_meaning.specs.declared.note.NameErrors.{NameErrors}
use Rattle.ix_meaning.specs.declared.note.NameErrors.TheVariants as refusal
use Rattle.ix_meaning.specs.Limits.{Passed}
use Rattle.ix_meaning.specs.Listed.{IsListed}
use Rattle.ix_meaning.specs.Resolved.{Accepts, IsPassed, Refuses, name_errors}

none_listed : (errors list : List NameError) → IsListed errors list → errors ≡ [] → list ≡ []
none_listed errors [] listed none = refl
none_listed errors (first ∷ rest) listed none = let found = listed.found first (0, omega arith, refl) in absurd (omega (arith, found.1, ap length none))

not_passed : (o : Option Passed) (why : NameErrors) → o ≡ None → IsPassed o why → ⊥
not_passed None why none passed = passed
not_passed (Some p) why none passed = cc

pub accepted_memory : (source : Source) (why : NameErrors) → Accepts source → Refuses source why → why ≡ refusal.Memory
accepted_memory source (refusal.Errors errors) accepts refused = absurd (refused.some (none_listed (name_errors source) errors refused.listed accepts.no_errors))
accepted_memory source (refusal.Limit which place) accepts (inl passed) = absurd (not_passed _ (refusal.Limit which place) accepts.within passed)
accepted_memory source (refusal.Limit which place) accepts (inr passed) = absurd (not_passed _ (refusal.Limit which place) accepts.few_inherited passed.2)
accepted_memory source refusal.Memory accepts refused = refl
