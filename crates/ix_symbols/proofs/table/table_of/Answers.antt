use Rattle.std.proofs.Common.{rules, ◌≡◌, None, Option, refl, ap, ◌∙◌}
use mathlib.Core.Path.{fun_ext}
use Rattle.std.specs.HashMap.{get}
use Rattle.ix_text.specs.declared.span.Span.{Span}
use Rattle.ix_core.specs.declared.claim.Type_.{Type_ as Ty}
use Rattle.ix_meaning.specs.declared.note.Meaning.{Meaning}
use Rattle.ix_meaning.specs.declared.note.Declared.{Declared}
use Rattle.ix_meaning.specs.Listed.{same_span}
use Rattle.ix_meaning.specs.Resolved.{Names}
use Rattle.ix_symbols.specs.Numbered as spec
use Rattle.ix_symbols.proofs.FirstNotes.{use_found, typed_found, declared_found}
use Rattle.ix_symbols.proofs.table.table_of.Goals as goal

abbrev names_of : (Span → Option Meaning) → (Span → Option Ty) → (Span → Option Declared) → Names
names_of m t d = record { meaning = m; type_of = t; declared = d }

same_names : (a b : Span → Option Meaning) → a ≡ b → (s t : Span → Option Ty) → s ≡ t → (d e : Span → Option Declared) → d ≡ e → names_of a s d ≡ names_of b t e
same_names a b p s t q d e r = cc

pub returns : goal.returns
returns c =
    let ns = c.args.notes in
    let meanings : (p : Span) → get same_span c.keep_numbers.new.meanings p ≡ spec.first_use p None 0 ns = search rules in
    let types : (p : Span) → get same_span c.keep_numbers.new.types p ≡ spec.first_typed p None 0 ns = search rules in
    let declarations : (p : Span) → get same_span c.keep_numbers.new.declarations p ≡ spec.first_declared p None 0 ns = search rules in
    same_names _ _ (fun_ext (λ p. ap (λ o. spec.meaning_in (spec.numbered ns o)) (meanings p) ∙ use_found p ns 0 ns refl))
    _ _ (fun_ext (λ p. ap (λ o. spec.type_in (spec.numbered ns o)) (types p) ∙ typed_found p ns 0 ns refl))
    _ _ (fun_ext (λ p. ap (λ o. spec.declared_in (spec.numbered ns o)) (declarations p) ∙ declared_found p ns 0 ns refl))
