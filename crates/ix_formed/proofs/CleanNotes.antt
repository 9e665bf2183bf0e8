-- Where no error on names is derived, no note is one.
use Rattle.std.proofs.Common.{◌≡◌, ◌≤◌, ℕ, zero, suc, ◌+◌, Bool, true, false, List, [], ◌∷◌, ◌++◌, refl, sym, ap, subst, ◌∙◌, arith}
use Rattle.std.specs.Prelude.{if◌then◌else◌, nat_lt, ◌&&◌, ◌||◌}
use Rattle.std.specs.List.{list_any}
use Rattle.std.proofs.lemmas.Bool.{false≢true}
use Rattle.std.proofs.lemmas.Bool.Decides.{nat_tests}
use Rattle.ix_text.specs.declared.span.Span.{Span}
use Rattle.ix_meaning.specs.declared.note.NameError.{NameError}
use Rattle.ix_meaning.specs.declared.note.Rule.{Rule}
use Rattle.ix_meaning.specs.declared.note.Rule.TheVariants as rule
use Rattle.ix_meaning.specs.declared.note.Note.{Note}
use Rattle.ix_meaning.specs.declared.note.Note.TheVariants.{Use, Typed, Declares, Wrong, WrongAnnot}
use Rattle.ix_meaning.specs.Listed.{wrongs, wrong_annots, rank, same_span, comes_before, firsts, derived}
use Rattle.ix_meaning.specs.Types.{wrong_if}
use Rattle.ix_core.proofs.Cases.{by_test}
use Rattle.ix_formed.specs.Additions.{AllOf}
use Rattle.ix_formed.specs.NoErrors.{IsClean}

none_front : {A : Type 0} (xs ys : List A) → xs ++ ys ≡ [] → (xs ≡ []) × (ys ≡ [])
none_front [] ys e = (refl, e)
none_front (x ∷ xs) ys e = absurd cc

-- ---- of one annotation the error with the least rank stays

low_rank : (r : Rule) → rank r ≤ 4
low_rank rule.UnknownAnnotation = omega arith
low_rank rule.BadArgument = omega arith
low_rank rule.WrongTarget = omega arith
low_rank rule.BadName = omega arith
low_rank other = omega arith

removed : (all es : List NameError) → firsts all es ≡ [] → AllOf (λ (e : NameError). list_any (comes_before e) all ≡ true) es
removed all [] none = tt
removed all (e ∷ es) none =
    by_test (list_any (comes_before e) all)
    (λ t. (t, removed all es (sym (ap (λ b. if b then firsts all es else e ∷ firsts all es) t) ∙ none)))
    (λ f. let no : ◌≡◌ {A = List NameError} (e ∷ firsts all es) [] = sym (ap (λ b. if b then firsts all es else e ∷ firsts all es) f) ∙ none in absurd cc)

has_lower : (k : ℕ) (e : NameError) (all : List NameError) → AllOf (λ (other : NameError). k ≤ rank other.rule) all → list_any (comes_before e) all ≡ true → k + 1 ≤ rank e.rule
has_lower k e [] low any = absurd (false≢true any)
has_lower k e (other ∷ all) low any =
    by_test (comes_before e other)
    (λ t. by_test (same_span other.span e.span)
    (λ s. let lt : nat_lt (rank other.rule) (rank e.rule) ≡ true = sym (ap (λ b. b && nat_lt (rank other.rule) (rank e.rule)) s) ∙ t in let le = low.0 in grind (arith, nat_tests))
    (λ s. absurd (false≢true (sym (ap (λ b. b && nat_lt (rank other.rule) (rank e.rule)) s) ∙ t))))
    (λ f. has_lower k e all low.1 (sym (ap (λ b. b || list_any (comes_before e) all) f) ∙ any))

raised : (k : ℕ) (all es : List NameError) → AllOf (λ (other : NameError). k ≤ rank other.rule) all → AllOf (λ (e : NameError). list_any (comes_before e) all ≡ true) es
    → AllOf (λ (e : NameError). k + 1 ≤ rank e.rule) es
raised k all [] low any = tt
raised k all (e ∷ es) low any = (has_lower k e all low any.0, raised k all es low any.1)

all_low : (all : List NameError) → AllOf (λ (other : NameError). 0 ≤ rank other.rule) all
all_low [] = tt
all_low (e ∷ es) = (omega arith, all_low es)

raised_to : (k : ℕ) (all : List NameError) → AllOf (λ (e : NameError). list_any (comes_before e) all ≡ true) all → AllOf (λ (e : NameError). k ≤ rank e.rule) all
raised_to zero all any = all_low all
raised_to (suc k) all any = let e : k + 1 ≡ suc k = omega arith in subst (λ n. AllOf (λ (e : NameError). n ≤ rank e.rule) all) e (raised k all all (raised_to k all any) any)

none_left : (all : List NameError) → firsts all all ≡ [] → all ≡ []
none_left [] none = refl
none_left (e ∷ es) none = let high = (raised_to 5 (e ∷ es) (removed (e ∷ es) (e ∷ es) none)).0 in let low = low_rank e.rule in absurd (omega (arith, high, low))

-- ---- all notes

clean : (ns : List Note) → wrongs ns ≡ [] → wrong_annots ns ≡ [] → AllOf IsClean ns
clean [] a b = tt
clean (Use span meaning ∷ ns) a b = (tt, clean ns a b)
clean (Typed span ty ∷ ns) a b = (tt, clean ns a b)
clean (Declares span declared ∷ ns) a b = (tt, clean ns a b)
clean (Wrong error ∷ ns) a b = absurd cc
clean (WrongAnnot error ∷ ns) a b = absurd cc

pub all_clean : (ns : List Note) → derived ns ≡ [] → AllOf IsClean ns
all_clean ns none =
    let parts = none_front (wrongs ns) (firsts (wrong_annots ns) (wrong_annots ns)) none in
    clean ns parts.0 (none_left (wrong_annots ns) parts.1)

pub clean_parts : (xs ys : List Note) → AllOf IsClean (xs ++ ys) → AllOf IsClean xs × AllOf IsClean ys
clean_parts [] ys a = (tt, a)
clean_parts (x ∷ xs) ys a = let r = clean_parts xs ys a.1 in ((a.0, r.0), r.1)

-- what isn't broken
pub unbroken : (broken : Bool) (r : Rule) (span : Span) → AllOf IsClean (wrong_if broken r span) → broken ≡ false
unbroken true r span a = absurd a.0
unbroken false r span a = refl
