-- The list of what is found is the list of the derived errors; without an error nothing was found.
use Rattle.std.proofs.Common.{◌≡◌, ℕ, ◌<◌, true, List, [], ◌∷◌, length, refl, inl}
use Rattle.ix_core.specs.declared.error.Error.{Error}
use Rattle.ix_core.specs.declared.fact.Profile.{Profile}
use Rattle.ix_core.specs.declared.program.Program.{Program}
use Rattle.ix_core.specs.Formed.{Formed, is_formed}
use Rattle.ix_core.specs.Safe.{Safe}
use Rattle.ix_core.specs.declared.claim.Type_.{Type_}
use Rattle.ix_core.specs.Ready.{CanCheck, LocalsApart}
use Rattle.ix_check.specs.MethodErrors.{HaveNone}
use Rattle.ix_errors.specs.declared.ranked.Ranked.{Ranked}
use Rattle.ix_errors.specs.Exactly.{AreExactly}
use Rattle.ix_soundness.specs.Sound.{HasNoErrors}
use Rattle.ix_errors.specs.ErrorList.{IsErrorList, In}
use Rattle.ix_errors.proofs.Lists.{same_list, none_listed}

pub derived_list : (Derived : Error → ℕ → Type 0) (found : List Ranked) (errors : List Error) → AreExactly Derived found → IsErrorList (In found) errors → IsErrorList Derived errors
derived_list Derived found errors exact list = same_list (In found) Derived (λ error rank has. exact.only (record { error = error; rank = rank }) has) exact.all errors list

pub none_found : (found : List Ranked) (errors : List Error) → IsErrorList (In found) errors → errors ≡ [] → found ≡ []
none_found [] errors list none = refl
none_found (one ∷ found) errors list none = absurd (none_listed (In (one ∷ found)) errors list none one.error one.rank (inl refl))

abbrev Sound : Type 0
Sound = (program : Program) (locals : List (List Type_)) (profile : Profile) → is_formed program locals ≡ true → LocalsApart program
    → ((number : ℕ) → number < length program.methods → HasNoErrors program profile number) → Safe program profile

pub none_safe : Sound → (program : Program) (profile : Profile) (found : List Ranked) (errors : List Error) → Formed program → CanCheck program
    → (found ≡ [] → HaveNone program profile (length program.methods)) → IsErrorList (In found) errors → errors ≡ [] → Safe program profile
none_safe sound program profile found errors formed can none list empty = sound program formed.0 profile formed.1 can.apart (none (none_found found errors list empty))
