-- Labels that say the same as flawless ones are accepted.
use Rattle.std.specs.Prelude.{◌≡◌, ℕ, ◌<◌, List, [], length, slice_get, unwrap_or, Some}
use Rattle.std.proofs.Common.{arith, ap, subst, inl, inr, ⊎_elim}
use Rattle.ix_core.specs.declared.error.Error.{Error}
use Rattle.ix_core.specs.declared.fact.Profile.{Profile}
use Rattle.ix_core.specs.declared.program.Method.{Method}
use Rattle.ix_core.specs.declared.program.Program.{Program}
use Rattle.ix_core.specs.Code.{Code}
use Rattle.ix_core.specs.Formed.{Formed}
use Rattle.ix_core.specs.Tables.{method_at, body_of}
use Rattle.ix_facts.specs.Stores.{Stored, Unreachable, IsBelow, SayTheSame}
use Rattle.ix_facts.proofs.StoreLaws.{below_below}
use Rattle.ix_flow.specs.Flow.{Point, Rules, RulesLaws, IsFlow, IsLeastFlow, Anything, Avoids}
use Rattle.ix_flow.specs.Given.{judging, IsDerivedAt}
use Rattle.ix_flow.proofs.GivenLabels.{all_judged}
use Rattle.ix_sign.specs.MethodRules.{method_rules}
use Rattle.ix_sign.proofs.ErrorsWeaker.{errors_weaker}
use Rattle.ix_sign.proofs.MethodLaws.{method_laws}
use Rattle.ix_errors.specs.declared.ranked.Ranked.{Ranked}
use Rattle.ix_soundness.specs.Errors.{NoErrors}
use Rattle.ix_cert.specs.Labellings.{loops_of}
use Rattle.ix_cert.specs.SameLabels.{SameForMethod, SameLabels}
use Rattle.ix_cert.proofs.FormedLoops.{HasFormedLoops, formed_loops}
use Rattle.ix_verify.specs.AtLabels.{Derives, label_of, FailsAt, IsErrorAt}
use Rattle.ix_verify.specs.Audited.{labels_of}
use Rattle.ix_verify.specs.Flawless.{AreFlawless, AreLeastFlawless, AreAccepted}
use Rattle.ix_verify.proofs.FlowsBelow.{Matches, lawful, flow_below}
use Rattle.ix_verify.proofs.Loops.{each_loop}
use Rattle.ix_verify.proofs.Same.{store_at, same_loop, same_method}

-- ---- one method

module _ (program : Program) (profile : Profile) (number : ℕ) (formed : HasFormedLoops (body_of (method_at program number)))
    (stores : List Stored) (found : List Stored) (same : SameForMethod (method_at program number) stores found)
    (labels : ℕ → Stored) (there : (loop : ℕ) → loop < length stores → slice_get stores loop ≡ Some (labels loop)) where
  abbrev method : Method
  method = method_at program number

  abbrev R : Rules
  R = method_rules program method profile

  abbrev L : RulesLaws R
  L = method_laws program method profile

  abbrev body : Code
  body = body_of method

  abbrev Gives : Point → Stored → Ranked → Type 0
  Gives = Derives program method number

  says_same : (loop : ℕ) → loop < loops_of method → SayTheSame (labels loop) (label_of found loop)
  says_same loop within =
      let count = same.count in
      let is : store_at stores loop ≡ labels loop = ap (λ o. unwrap_or o Unreachable) (there loop (omega (arith, count, within))) in
      subst (λ s. SayTheSame s (label_of found loop)) is (same_loop method stores found same loop within)

  -- with a flow no loop fails
  kept : (Fine : Point → Stored → Type 0) → IsFlow R Fine labels body → (loop : ℕ) → FailsAt program profile number found loop → ⊥
  kept Fine flow loop fails =
      let J = judging R (λ n. n ≡ loop) in
      let each = each_loop (Matches R (λ n. n ≡ loop) labels (label_of found)) body formed (λ n within. let s = says_same n within in (s.1, λ judged. s.0)) in
      fails (flow_below R Fine (λ n. n ≡ loop) (Anything J) (λ point s t i below fine. tt) labels (label_of found) (lawful R L (λ n. n ≡ loop) labels (label_of found)) body each flow)

  -- what a flow with weaker labels avoids is avoided
  avoided : (error : Ranked) (Fine : Point → Stored → Type 0) (avoids : (point : Point) (s : Stored) → Fine point s → Avoids R Gives error point s) (weak : ℕ → Stored) → IsFlow R Fine weak body
      → ((loop : ℕ) → loop < loops_of method → IsBelow (labels loop) (weak loop)) → IsDerivedAt R Gives (label_of found) body error → ⊥
  avoided error Fine avoids weak flow above derived =
      let Kept : Point → Stored × ℕ → Type 0 = λ point store. Avoids R Gives error point store.0 in
      let finer : (point : Point) (s t : Stored) (i : ℕ) → IsBelow s t → Fine point t → Kept point (s, i) =
      λ point s t i below fine given. avoids point t fine (errors_weaker s t below program method number error.error error.rank point given) in
      let each = each_loop (Matches R (λ n. ⊥) weak (label_of found)) body formed
      (λ n within. let s = says_same n within in (below_below (label_of found n) (labels n) (weak n) s.1 (above n within), λ judged. absurd judged)) in
      derived (flow_below R Fine (λ n. ⊥) Kept finer weak (label_of found) (lawful R L (λ n. ⊥) weak (label_of found)) body each flow)

  -- a flow of which less is asked
  plain : (Fine : Point → Stored → Type 0) (weak : ℕ → Stored) → IsFlow R Fine weak body → IsFlow R (Anything R) weak body
  plain Fine weak flow =
      let Kept : Point → Stored × ℕ → Type 0 = λ point store. Unit {0} in
      let each = each_loop (Matches R (λ n. Unit {0}) weak weak) body formed (λ n within. (L.reflexive (weak n), λ judged. L.reflexive (weak n))) in
      all_judged R (Anything R) weak body (flow_below R Fine (λ n. Unit {0}) Kept (λ point s t i below fine. tt) weak weak (lawful R L (λ n. Unit {0}) weak weak) body each flow)

  pub flawless_kept : IsFlow R (NoErrors program method number) labels body → (loop : ℕ) → FailsAt program profile number found loop → ⊥
  flawless_kept flow = kept (NoErrors program method number) flow

  pub flawless_avoids : IsFlow R (NoErrors program method number) labels body → (error : Ranked) → IsDerivedAt R Gives (label_of found) body error → ⊥
  flawless_avoids flow error = avoided error (NoErrors program method number) (λ point s fine given. fine error.error error.rank given) labels flow (λ loop within. L.reflexive (labels loop))

  pub least_kept : IsLeastFlow R body (length stores) labels → (loop : ℕ) → FailsAt program profile number found loop → ⊥
  least_kept least = kept (Anything R) least.0

  pub least_avoids : IsLeastFlow R body (length stores) labels → (error : Ranked) → (((weak : ℕ → Stored) → IsFlow R (Avoids R Gives error) weak body → ⊥) → ⊥) → IsDerivedAt R Gives (label_of found) body error → ⊥
  least_avoids least error none derived =
      none
      (λ weak flow.
      avoided error (Avoids R Gives error) (λ point s fine. fine) weak flow
      (λ loop within. let count = same.count in least.1 weak (plain (Avoids R Gives error) weak flow) loop (omega (arith, count, within)))
      derived)

-- ---- all methods

module _ (program : Program) (profile : Profile) (formed : Formed program) (labels : List (List Stored)) (found : List (List Stored)) (same : SameLabels program.methods labels found) where
  abbrev own : ℕ → List Stored
  own number = unwrap_or (slice_get labels number) []

  same_own : (number : ℕ) → number < length program.methods → SameForMethod (method_at program number) (own number) (labels_of found number)
  same_own number within = same_method program.methods labels found number same within

  accepted : ((number loop : ℕ) → number < length program.methods → FailsAt program profile number (labels_of found number) loop → ⊥)
      → ((number : ℕ) → number < length program.methods → (error : Error) (rank : ℕ) → IsErrorAt program profile number (labels_of found number) error rank → ⊥) → AreAccepted program profile found
  accepted holds none = (λ number loop within. holds number loop within, λ error rank is. none is.number is.before error rank is.of)

  pub flawless_accepted : AreFlawless program profile labels → AreAccepted program profile found
  flawless_accepted flawless =
      accepted
      (λ number loop within.
      let f = flawless number within in
      flawless_kept program profile number (formed_loops program formed number within) (own number) (labels_of found number) (same_own number within) f.labels f.there f.flow loop)
      (λ number within error rank either.
      let f = flawless number within in
      ⊎_elim
      (λ derived. flawless_avoids program profile number (formed_loops program formed number within) (own number) (labels_of found number) (same_own number within) f.labels f.there f.flow (record { error = error; rank = rank }) derived)
      (λ text. f.text error rank text)
      either)

  pub least_accepted : AreLeastFlawless program profile labels → AreAccepted program profile found
  least_accepted least =
      accepted
      (λ number loop within.
      let f = least number within in
      least_kept program profile number (formed_loops program formed number within) (own number) (labels_of found number) (same_own number within) f.labels f.there f.least loop)
      (λ number within error rank either.
      let f = least number within in
      ⊎_elim
      (λ derived.
      least_avoids program profile number (formed_loops program formed number within) (own number) (labels_of found number) (same_own number within) f.labels f.there f.least (record { error = error; rank = rank })
      (λ given. f.none error rank (inl given)) derived)
      (λ text. f.none error rank (inr text))
      either)
