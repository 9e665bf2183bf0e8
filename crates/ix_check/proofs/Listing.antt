-- Whether an error is in a list can be told.
use Rattle.std.specs.Prelude.{◌==◌, Bool}
use Rattle.std.specs.Ordering.{int_eq}
use Rattle.std.proofs.Common.{◌≡◌, ◌⊎◌, inl, inr, ℕ, ℤ, true, false, if◌then◌else◌, List, [], ◌∷◌, refl, sym, ap, subst, ◌∙◌, ◌&&◌}
use Rattle.std.proofs.lemmas.Bool.{cases_eq, cases_Bool, false≢true, eq-eqb}
use Rattle.std.proofs.lemmas.Bool.Decides.{Decides-int_eq}
use Rattle.ix_core.specs.declared.claim.Claim.{Claim}
use Rattle.ix_core.specs.declared.claim.Claim.TheVariants as claim
use Rattle.ix_core.specs.declared.claim.Name.{Name}
use Rattle.ix_core.specs.declared.claim.Name.TheVariants as name
use Rattle.ix_core.specs.declared.claim.Off.{Off}
use Rattle.ix_core.specs.declared.claim.Off.TheVariants as off
use Rattle.ix_core.specs.declared.error.Detail.{Detail}
use Rattle.ix_core.specs.declared.error.Detail.TheVariants as detail
use Rattle.ix_core.specs.declared.error.Subject.{Subject}
use Rattle.ix_core.specs.declared.error.Subject.TheVariants.{Element, Param, Local, FieldNamed, Result, PostField}
use Rattle.ix_core.specs.SameClaims.{same_name, same_offset, same_claim}
use Rattle.ix_core.proofs.RepeatedClaims.{same_claims}
use Rattle.ix_errors.specs.declared.ranked.Ranked.{Ranked}
use Rattle.ix_errors.specs.Exactly.{IsListed}

abbrev pub Told : {A : Type 0} → A → A → Type 0
Told x y = (x ≡ y) ⊎ (x ≡ y → ⊥)

-- what is told by a part of a value, from which the value can be made again
told_by : {A B : Type 0} (code : A → B) (back : B → A) → ((x : A) → back (code x) ≡ x) → (x y : A) → Told (code x) (code y) → Told x y
told_by code back same x y (inl is) = inl (sym (same x) ∙ (ap back is ∙ same y))
told_by code back same x y (inr apart) = inr (λ is. apart (ap code is))

told_both : {A B : Type 0} (x y : A) (v w : B) → Told x y → Told v w → Told {A = A × B} (x, v) (y, w)
told_both x y v w (inl is) (inl same) = inl (ap (λ a. (a, v)) is ∙ ap (λ b. (y, b)) same)
told_both x y v w (inl is) (inr apart) = inr (λ both. apart (ap (λ p. p.1) both))
told_both x y v w (inr apart) other = inr (λ both. apart (ap (λ p. p.0) both))

-- ---- claims

same_itself : (n : ℕ) → (n == n) ≡ true
same_itself n = eq-eqb n n refl

int_itself : (n : ℤ) → int_eq n n ≡ true
int_itself n = (Decides-int_eq n n).1 refl

both_true : (a b : Bool) → a ≡ true → b ≡ true → (a && b) ≡ true
both_true true b h k = k
both_true false b h k = h

name_itself : (x : Name) → same_name x x ≡ true
name_itself (name.Param n) = same_itself n
name_itself (name.Local n) = same_itself n
name_itself (name.FieldNamed n) = same_itself n

offset_itself : (o : Off) → same_offset o o ≡ true
offset_itself off.Nothing = refl
offset_itself (off.Plus x) = name_itself x
offset_itself (off.Minus x) = name_itself x

claim_itself : (c : Claim) → same_claim c c ≡ true
claim_itself (claim.Range a b) = both_true _ _ (int_itself a) (int_itself b)
claim_itself (claim.Low a) = int_itself a
claim_itself (claim.Length a) = int_itself a
claim_itself (claim.Same x) = name_itself x
claim_itself (claim.Less x a) = both_true _ _ (name_itself x) (int_itself a)
claim_itself (claim.Upper x o a) = both_true _ _ (name_itself x) (both_true _ _ (offset_itself o) (int_itself a))
claim_itself (claim.Search x) = name_itself x
claim_itself (claim.Negative x) = name_itself x

told_claims : (c d : Claim) → Told c d
told_claims c d = elim (cases_Bool (same_claim c d)) [
  | inl same ↦ inl (same_claims c d same)
  | inr apart ↦ inr (λ is. false≢true (sym apart ∙ subst (λ e. same_claim c e ≡ true) is (claim_itself c)))
]

-- ---- subjects and errors

abbrev subject_code : Subject → ℕ × (ℕ × ℕ)
subject_code Element = (0, (0, 0))
subject_code (Param method number) = (1, (method, number))
subject_code (Local method number) = (2, (method, number))
subject_code (FieldNamed field) = (3, (field, 0))
subject_code (Result method) = (4, (method, 0))
subject_code (PostField method field) = (5, (method, field))

abbrev subject_of : ℕ × (ℕ × ℕ) → Subject
subject_of (kind, (first, second)) =
    if kind == 0 then Element
    else if kind == 1 then Param first second
    else if kind == 2 then Local first second
    else if kind == 3 then FieldNamed first
    else if kind == 4 then Result first
    else PostField first second

subject_back : (s : Subject) → subject_of (subject_code s) ≡ s
subject_back Element = refl
subject_back (Param method number) = refl
subject_back (Local method number) = refl
subject_back (FieldNamed field) = refl
subject_back (Result method) = refl
subject_back (PostField method field) = refl

told_subjects : (s t : Subject) → Told s t
told_subjects s t =
    told_by subject_code subject_of subject_back s t
    (told_both (subject_code s).0 (subject_code t).0 (subject_code s).1 (subject_code t).1 (cases_eq _ _) (told_both (subject_code s).1.0 (subject_code t).1.0 (subject_code s).1.1 (subject_code t).1.1 (cases_eq _ _) (cases_eq _ _)))

told_details : (d e : Detail) → Told d e
told_details detail.Plain detail.Plain = inl refl
told_details detail.Plain (detail.Claim s c) = inr (λ is. cc)
told_details (detail.Claim s c) detail.Plain = inr (λ is. cc)
told_details (detail.Claim s c) (detail.Claim t d) = elim (told_both s t c d (told_subjects s t) (told_claims c d)) [
  | inl is ↦ inl (ap (λ p. detail.Claim p.0 p.1) is)
  | inr apart ↦ inr (λ is. apart (let one : s ≡ t = cc in let two : c ≡ d = cc in ap (λ a. (a, c)) one ∙ ap (λ b. (t, b)) two))
]

told_ranked : (x y : Ranked) → Told x y
told_ranked x y =
    told_by (λ (r : Ranked). (r.rank, (r.error.rule, (r.error.span.from, (r.error.span.to, r.error.detail)))))
    (λ p. record { error = record { rule = p.1.0; span = record { from = p.1.1.0; to = p.1.1.1.0 }; detail = p.1.1.1.1 }; rank = p.0 }) (λ r. refl) x y
    (told_both x.rank y.rank _ _ (cases_eq x.rank y.rank)
    (told_both x.error.rule y.error.rule _ _ (cases_eq x.error.rule y.error.rule)
    (told_both x.error.span.from y.error.span.from _ _ (cases_eq x.error.span.from y.error.span.from)
    (told_both x.error.span.to y.error.span.to _ _ (cases_eq x.error.span.to y.error.span.to)
    (told_details x.error.detail y.error.detail)))))

pub listed_or_not : (x : Ranked) (errors : List Ranked) → IsListed x errors ⊎ (IsListed x errors → ⊥)
listed_or_not x [] = inr (λ has. has)
listed_or_not x (first ∷ errors) = elim (told_ranked x first) [
  | inl is ↦ inl (inl is)
  | inr apart ↦ elim (listed_or_not x errors) [
    | inl later ↦ inl (inr later)
    | inr absent ↦ inr (λ has. elim has [
      | inl is ↦ apart is
      | inr later ↦ absent later
    ])
  ]
]
