use Rattle.std.proofs.Common.{◌≡◌, ◌++◌, refl, sym, ap, ◌∙◌, append_assoc}
use Rattle.std.proofs.lemmas.Result.{on_ok_weaker}
use Rattle.std.specs.Prelude.{string_bytes}
use Rattle.ix_core.specs.declared.fact.Fact.{Fact}
use Rattle.ix_core.specs.declared.fact.Fact.TheVariants.{Rng, LenRng, Low, Same, IsLen, Less, Sum, Search, Neg, Upper}
use Rattle.ix_cert.specs.Lines.{fact_text, behind_word}
use Rattle.ix_cert.specs.Reading.{word_of}
use Rattle.ix_cert.proofs.line.add_fact.Goals as goal

parts : (fact : Fact) → fact_text fact ≡ word_of fact ++ behind_word fact
parts (Rng p l h) = refl
parts (LenRng a l h) = refl
parts (Low p c) = refl
parts (Same a b) = refl
parts (IsLen p a) = refl
parts (Less p q c) = refl
parts (Sum t y z) = refl
parts (Search p a) = refl
parts (Neg p a) = refl
parts (Upper p a o c) = refl

pub returns : goal.returns
returns c =
    let fact = c.args.fact.now in
    let old = string_bytes c.args.text.now in
    let begun : string_bytes c.push_str.new.self ≡ old ++ word_of fact = c.in_ok-push_str.ensures.bytes ∙ ap (λ l. old ++ l) c.word.ensures in
    record { text = on_ok_weaker c.add_args.result (λ added. added ∙ (ap (λ l. l ++ behind_word fact) begun ∙ (append_assoc old (word_of fact) (behind_word fact) ∙ ap (λ l. old ++ l) (sym (parts fact))))) c.add_args.ensures }
