-- What stays known through the steps that all rules of a method are made of: what is known before is known behind, where the slots that it speaks of aren't written.
use Rattle.std.proofs.Common.{◌≡◌, ℕ, Bool, false, List, [], ◌∷◌, ◌++◌, inl, inr, refl, sym, subst, ⊎_elim}
use Rattle.ix_core.specs.declared.claim.Type_.{Type_}
use Rattle.ix_core.specs.declared.fact.Fact.{Fact}
use Rattle.ix_core.specs.declared.fact.Path.{Path}
use Rattle.ix_core.specs.declared.fact.Path.TheVariants.{Slot}
use Rattle.ix_core.specs.declared.fact.Profile.{Profile}
use Rattle.ix_core.specs.declared.op.OpKind.{OpKind}
use Rattle.ix_facts.specs.Facts.{in_orders}
use Rattle.ix_facts.specs.Closure.{Said, kept}
use Rattle.ix_facts.specs.Forget.{of_path, without}
use Rattle.ix_facts.specs.After.{of_target, beside_target, kept_new, finished, finished_by}
use Rattle.ix_facts.specs.AfterOperation.{copied}
use Rattle.ix_facts.specs.AfterTest.{Outcome, outcome_facts}
use Rattle.ix_facts.specs.Stores.{Stored, Unreachable, Reached, IsBelow, IsAbove, Gives, OutcomesGive, operated}
use Rattle.ix_facts.proofs.ClosureLaws.{said_follows}
use Rattle.ix_facts.proofs.SaidLaws.{says_more}
use Rattle.ix_facts.proofs.StoreLaws.{below_itself}
use Rattle.ix_signatures.specs.Signs.{Adds, Forgets, Copies}
use Rattle.ix_guard_promise.specs.Known.{Known, Nowhere, Unknown, Inside}
use Rattle.ix_guard_promise.specs.KnownFacts.{inside_facts, store_of}

-- ---- the store that says nothing

said_of_nothing : (facts : List Fact) (f : Fact) → Said [] f → Said facts f
said_of_nothing facts f said = ⊎_elim (λ default. inl default) (λ none. absurd none.1) said

-- it is above every store
pub unknown_above : (s : Stored) → IsBelow s (Reached [])
unknown_above Unreachable = tt
unknown_above (Reached facts) = said_of_nothing facts

pub nothing_said : (facts : List Fact) → IsAbove facts (Reached [])
nothing_said facts = inr (λ f said. said_follows facts f (said_of_nothing facts f said))

-- and above what each rule gives
pub gives_unknown : (rule : List Fact → List Fact) (s : Stored) → Gives rule s (Reached [])
gives_unknown rule Unreachable = tt
gives_unknown rule (Reached facts) = nothing_said (rule facts)

-- ---- more facts

pub more_above : (facts new : List Fact) → IsAbove (facts ++ new) (Reached facts)
more_above facts new = inr (λ f said. said_follows (facts ++ new) f (says_more facts new facts (λ g s. s) f said))

pub more_stays : (new : List Fact → List Fact) (s : Stored) → Gives (λ facts. facts ++ new facts) s s
more_stays new Unreachable = tt
more_stays new (Reached facts) = more_above facts (new facts)

pub adds_stays : (new : List Fact) (s : Stored) → Adds new s s
adds_stays new s = more_stays (λ facts. kept new) s

pub outcomes_stay : (outcomes : List Outcome) (s : Stored) → OutcomesGive outcomes s s
outcomes_stay [] s = below_itself s
outcomes_stay (outcome ∷ outcomes) s = (s, more_stays (λ facts. kept (outcome_facts (in_orders facts) outcome)) s, outcomes_stay outcomes s)

-- ---- facts that name other paths

-- what is known speaks of none of these paths
abbrev pub Apart : (Path → Bool) → Known → Type 0
Apart is (Inside array index) = (is (Slot array) ≡ false) × (is (Slot index) ≡ false)
Apart is known = Unit {0}

pub without_stays : (is : Path → Bool) (array index : ℕ) → Apart is (Inside array index) → without is (inside_facts array index) ≡ inside_facts array index
without_stays is array index apart = rw (apart.0, apart.1) refl

pub forgets_above : (is : Path → Bool) (new : List Fact) (array index : ℕ) → Apart is (Inside array index) → IsAbove (without is (inside_facts array index) ++ new) (Reached (inside_facts array index))
forgets_above is new array index apart =
    subst (λ facts. IsAbove (facts ++ new) (Reached (inside_facts array index))) (sym (without_stays is array index apart)) (more_above (inside_facts array index) new)

-- the facts that don't name these paths, and more
pub others_stay : (is : Path → Bool) (new : List Fact → List Fact) (known : Known) → Apart is known → Gives (λ facts. without is facts ++ new facts) (store_of known) (store_of known)
others_stay is new Nowhere apart = tt
others_stay is new Unknown apart = nothing_said (new [])
others_stay is new (Inside array index) apart = forgets_above is (new (inside_facts array index)) array index apart

pub forgets_stays : (is : Path → Bool) (known : Known) → Apart is known → Forgets is (store_of known) (store_of known)
forgets_stays is Nowhere apart = tt
forgets_stays is Unknown apart = nothing_said []
forgets_stays is (Inside array index) apart =
    subst (λ facts. IsAbove facts (Reached (inside_facts array index))) (sym (without_stays is array index apart)) (inr (λ f said. said_follows (inside_facts array index) f said))

pub operated_stays : (profile : Profile) (kind : OpKind) (known : Known) → Apart (of_target kind) known → Gives (operated profile kind) (store_of known) (store_of known)
operated_stays profile kind known apart =
    others_stay (of_target kind)
    (λ facts. kept_new (beside_target kind facts) profile kind ++ kept (finished (beside_target kind facts) (kept_new (beside_target kind facts) profile kind) kind)) known apart

pub copies_stays : (ty : Type_) (target source : Path) (known : Known) → Apart (of_path target) known → Copies ty target source (store_of known) (store_of known)
copies_stays ty target source known apart =
    others_stay (of_path target)
    (λ facts. kept (copied (in_orders (without (of_path target) facts)) ty target source)
    ++ kept (finished_by ty (in_orders (without (of_path target) facts)) (kept (copied (in_orders (without (of_path target) facts)) ty target source)) target)) known apart
