-- What is right of the answers of `guard`.
use Rattle.std.proofs.Common.{◌≡◌, ◌≢◌, ◌≤◌, ℕ, List, [], ◌∷◌, length, true, sym, ap, subst, ◌∙◌, refl}
use Rattle.ix_core.specs.declared.error.Error.{Error}
use Rattle.ix_core.specs.declared.fact.Profile.{Profile}
use Rattle.ix_replies.specs.Answer.{Answer, out_answer}
use Rattle.ix_replies.specs.Statuses.{is_answer}
use Rattle.ix_replies.specs.declared.status.Status.TheVariants.{Done}
use Rattle.ix_front.specs.Found.{Finding, TooLong, Broken, Past, Misnamed, Whole, Found, too_long, no_tokens, lexed}
use Rattle.ix_certify.specs.MethodErrors.{IsError}
use Rattle.ix_front.proofs.OneFinding.{one_finding}
use Rattle.ix_certify.proofs.Lists.{one_list}
use Rattle.ix_outside.specs.Reading.{most_bytes}
use Rattle.ix_guard_text.proofs.OneGuardedText.{one_guarded}
use Rattle.ix_commands.specs.Answers.{AnswersFound, AnswersGuarded, Guards, guard_status}

-- what is found of a text is that it is too long, or it isn't
pub found_short : (bytes : List ℕ) (finding : Finding) → Found bytes finding → finding ≢ TooLong → length bytes ≤ most_bytes
found_short bytes _ (too_long past) some = absurd (some refl)
found_short bytes finding (no_tokens why short fails is) some = short
found_short bytes finding (lexed tokens short is few found) some = short

-- ---- one answer

found_one : (profile : Profile) (name text : List ℕ) (finding : Finding) (one other : Answer) → AnswersFound name text (AnswersGuarded profile text) finding one
    → AnswersFound name text (AnswersGuarded profile text) finding other → other ≡ one
found_one profile name text TooLong one other a b = b ∙ sym a
found_one profile name text (Broken at key) one other a b = b ∙ sym a
found_one profile name text (Past at limit) one other a b = b ∙ sym a
found_one profile name text (Misnamed errors) one other a b = b ∙ sym a
found_one profile name text (Whole program) one other a b = b.2 ∙ ap (λ (errors : List Error). out_answer (guard_status errors) text) (one_list (IsError program profile) b.0 a.0 b.1 a.1) ∙ sym a.2

-- the answer where this is the guarded text
abbrev OnText : Profile → List ℕ → List ℕ → Answer → Type 0
OnText profile name text answer = (finding : Finding) × Found text finding × AnswersFound name text (AnswersGuarded profile text) finding answer

text_one : (profile : Profile) (name text : List ℕ) (one other : Answer) → OnText profile name text one → OnText profile name text other → other ≡ one
text_one profile name text one other a b =
    found_one profile name text a.0 one other a.2 (subst (λ (f : Finding). AnswersFound name text (AnswersGuarded profile text) f other) (one_finding text b.0 a.0 b.1 a.1) b.2)

pub one_guarding : (profile : Profile) (name bytes : List ℕ) (errors : List Error) (one other : Answer) → Guards profile name bytes errors one → Guards profile name bytes errors other → other ≡ one
one_guarding profile name bytes errors one other a b =
    text_one profile name a.0 one other (a.2, a.3, a.4) (subst (λ (text : List ℕ). OnText profile name text other) (one_guarded bytes errors b.0 a.0 b.1 a.1) (b.2, b.3, b.4))

-- ---- answers speak of no fault

guard_status_answers : (errors : List Error) → is_answer (guard_status errors) ≡ true
guard_status_answers [] = refl
guard_status_answers (error ∷ errors) = refl

found_answers : (profile : Profile) (name text : List ℕ) (finding : Finding) (answer : Answer) → AnswersFound name text (AnswersGuarded profile text) finding answer → is_answer answer.status ≡ true
found_answers profile name text TooLong answer right = rw right refl
found_answers profile name text (Broken at key) answer right = rw right refl
found_answers profile name text (Past at limit) answer right = rw right refl
found_answers profile name text (Misnamed errors) answer right = rw right refl
found_answers profile name text (Whole program) answer right = rw right.2 (guard_status_answers right.0)

pub guards_answers : (profile : Profile) (name bytes : List ℕ) (errors : List Error) (answer : Answer) → Guards profile name bytes errors answer → is_answer answer.status ≡ true
guards_answers profile name bytes errors answer right = found_answers profile name right.0 right.2 answer right.4

-- ---- what is written without errors

pub guard_done : (errors : List Error) → guard_status errors ≡ Done → errors ≡ []
guard_done [] is = refl
guard_done (error ∷ errors) is = cc
