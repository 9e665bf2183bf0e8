-- What annotations on a variable give without those that count no claim.
use Rattle.std.proofs.Common.{◌≡◌, ℕ, true, false, List, [], ◌∷◌, ◌++◌, Result, Ok, Err, refl, sym, ap, ap₂, ◌∙◌, subst, arith}
use Rattle.std.specs.Prelude.{if◌then◌else◌, nat_lt}
use Rattle.std.proofs.lemmas.Bool.Decides.{nat_tests}
use Rattle.ix_text.specs.declared.span.Span.{Span}
use Rattle.ix_core.specs.declared.claim.Claim.{Claim}
use Rattle.ix_core.proofs.Cases.{by_test}
use Rattle.ix_tree.specs.declared.annot.Annot.{Annot}
use Rattle.ix_annot.specs.declared.scope.AnnotError.{AnnotError}
use Rattle.ix_annot.specs.declared.scope.Claims.{Claims}
use Rattle.ix_annot.specs.declared.scope.Target.{Target}
use Rattle.ix_annot.specs.Expansion.{expanded}
use Rattle.ix_annot.specs.Named.{Names}
use Rattle.ix_annot.specs.Table.{counted}
use Rattle.ix_meaning.specs.declared.note.Note.{Note}
use Rattle.ix_meaning.specs.Annotated.{given, claims_from, errors_from, names_nothing}
use Rattle.ix_meaning.specs.Declarators.{counting}
use Rattle.ix_formed.specs.Additions.{AllOf}
use Rattle.ix_formed.specs.NoErrors.{IsClean}
use Rattle.ix_formed.proofs.CleanNotes.{clean_parts}
use Rattle.ix_formed.proofs.NumberLists.{all_joined}
use Rattle.ix_guard_text.proofs.UncountedAnnots.{is_variable, uncounted}

pub none_counted : (n : ℕ) → nat_lt 0 n ≡ false → n ≡ 0
none_counted n e = grind (arith, nat_tests)

-- ---- claims

pub claims_counted : (names : Names) → is_variable names.target ≡ true → (annots : List Annot) → (given names (counting annots)).claims ≡ (given names annots).claims
claims_counted names variable [] = refl
claims_counted names variable (a ∷ annots) =
    let rest = claims_counted names variable annots in
    by_test (nat_lt 0 (counted a))
    (λ t. ap (λ b. (given names (if b then a ∷ counting annots else counting annots)).claims) t ∙ ap (λ (cs : List Claim). claims_from (expanded a names) ++ cs) rest)
    (λ f.
    ap (λ b. (given names (if b then a ∷ counting annots else counting annots)).claims) f
    ∙ rest
    ∙ ap (λ (cs : List Claim). cs ++ (given names annots).claims) (sym (uncounted a names variable (none_counted (counted a) f)).nothing))

-- ---- errors

abbrev pub Clean : Names → List Annot → Type 0
Clean names annots = AllOf IsClean (given names annots).notes

abbrev pub CleanOne : Names → Annot → Type 0
CleanOne names annot = AllOf IsClean (errors_from (expanded annot names) annot.span)

pub counting_clean : (names : Names) (annots : List Annot) → Clean names annots → Clean names (counting annots)
counting_clean names [] clean = tt
counting_clean names (a ∷ annots) clean =
    let parts = clean_parts (errors_from (expanded a names) a.span) (given names annots).notes clean in
    let rest = counting_clean names annots parts.1 in
    by_test (nat_lt 0 (counted a))
    (λ t. subst (λ b. Clean names (if b then a ∷ counting annots else counting annots)) (sym t) (all_joined IsClean (errors_from (expanded a names) a.span) (given names (counting annots)).notes parts.0 rest))
    (λ f. subst (λ b. Clean names (if b then a ∷ counting annots else counting annots)) (sym f) rest)

-- Those that count no claim are right, whatever names mean.
abbrev pub AllSettled : Target → List Annot → Type 0
AllSettled target [] = Unit {0}
AllSettled target (a ∷ annots) = (counted a ≡ 0 → CleanOne (names_nothing target) a) × AllSettled target annots

pub settled : (names : Names) → is_variable names.target ≡ true → (annots : List Annot) → Clean names annots → AllSettled names.target annots
settled names variable [] clean = tt
settled names variable (a ∷ annots) clean =
    let parts = clean_parts (errors_from (expanded a names) a.span) (given names annots).notes clean in
    ((λ none. subst (λ (r : Result Claims AnnotError). AllOf IsClean (errors_from r a.span)) (uncounted a names variable none).same parts.0), settled names variable annots parts.1)

pub clean_again : (names : Names) → is_variable names.target ≡ true → (annots : List Annot) → AllSettled names.target annots → Clean names (counting annots) → Clean names annots
clean_again names variable [] all clean = tt
clean_again names variable (a ∷ annots) all clean =
    by_test (nat_lt 0 (counted a))
    (λ t.
    let kept : Clean names (a ∷ counting annots) = subst (λ b. Clean names (if b then a ∷ counting annots else counting annots)) t clean in
    let parts = clean_parts (errors_from (expanded a names) a.span) (given names (counting annots)).notes kept in
    all_joined IsClean (errors_from (expanded a names) a.span) (given names annots).notes parts.0 (clean_again names variable annots all.1 parts.1))
    (λ f.
    let kept : Clean names (counting annots) = subst (λ b. Clean names (if b then a ∷ counting annots else counting annots)) f clean in
    let none = none_counted (counted a) f in
    let here : CleanOne names a = subst (λ (r : Result Claims AnnotError). AllOf IsClean (errors_from r a.span)) (sym (uncounted a names variable none).same) (all.0 none) in
    all_joined IsClean (errors_from (expanded a names) a.span) (given names annots).notes here (clean_again names variable annots all.1 kept))

no_errors : (r : Result Claims AnnotError) (span : Span) → AllOf IsClean (errors_from r span) → errors_from r span ≡ []
no_errors (Ok claims) span clean = refl
no_errors (Err error) span clean = absurd clean.0

pub no_notes : (names : Names) (annots : List Annot) → Clean names annots → (given names annots).notes ≡ []
no_notes names [] clean = refl
no_notes names (a ∷ annots) clean =
    let parts = clean_parts (errors_from (expanded a names) a.span) (given names annots).notes clean in
    ap₂ (λ (xs : List Note) (ys : List Note). xs ++ ys) (no_errors (expanded a names) a.span parts.0) (no_notes names annots parts.1)
