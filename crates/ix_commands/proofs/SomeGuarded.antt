-- A source with a program has a guarded text, and to `guard` there is an answer on it.
use Rattle.std.proofs.Common.{◌≡◌, ℕ, List, refl, subst}
use Rattle.ix_core.specs.declared.error.Error.{Error}
use Rattle.ix_core.specs.declared.program.Program.{Program}
use Rattle.ix_core.specs.declared.fact.Profile.{Profile}
use Rattle.ix_replies.specs.Answer.{Answer, out_answer}
use Rattle.ix_front.specs.Found.{Finding, TooLong, Broken, Past, Misnamed, Whole, Found}
use Rattle.ix_front.proofs.SomeFinding.{some_finding}
use Rattle.ix_guard_text.specs.Guarding.{IsGuarded, IsNamed, guarded_by}
use Rattle.ix_commands.specs.Answers.{AnswersFound, AnswersGuarded, Guards, guard_status}
use Rattle.ix_commands.specs.Existence.{HasGuardedListed}
use Rattle.ix_commands.proofs.WholeSources.{named_bytes}

-- ---- the guarded text

some_guarded : (bytes : List ℕ) (errors : List Error) → IsNamed bytes → (text : List ℕ) × IsGuarded bytes errors text
some_guarded bytes errors whole = (guarded_by bytes whole.tree.source errors, record { named = whole; text_is = refl })

-- ---- the answer

on_finding : (profile : Profile) (name text : List ℕ) (finding : Finding) → ((made : Program) → finding ≡ Whole made → (answer : Answer) × AnswersGuarded profile text made answer)
    → (answer : Answer) × AnswersFound name text (AnswersGuarded profile text) finding answer
on_finding profile name text TooLong whole = (_, refl)
on_finding profile name text (Broken at key) whole = (_, refl)
on_finding profile name text (Past at limit) whole = (_, refl)
on_finding profile name text (Misnamed errors) whole = (_, refl)
on_finding profile name text (Whole made) whole = whole made refl

pub some_guarding : (profile : Profile) (name bytes : List ℕ) (program : Program) (errors : List Error) → Found bytes (Whole program) → HasGuardedListed profile bytes errors
    → (answer : Answer) × Guards profile name bytes errors answer
some_guarding profile name bytes program errors found listed =
    let g = some_guarded bytes errors (named_bytes bytes program found) in
    let f = some_finding g.0 in
    let a = on_finding profile name g.0 f.0 (λ made is. let l = listed g.0 made g.1 (subst (Found g.0) is f.1) in (out_answer (guard_status l.0) g.0, (l.0, l.1, refl))) in
    (a.0, (g.0, g.1, f.0, f.1, a.1))
