-- The walk over a whole body.
use Rattle.std.proofs.Common.{◌≡◌, inl, inr, ℕ, List, [], ◌∷◌, ◌++◌, Option, None, Some, arith, refl, subst, if◌then◌else◌, nat_lt, true, false, Bool}
use Rattle.std.proofs.lemmas.Bool.{cases_lt}
use Rattle.ix_core.specs.declared.op.Op.{Op}
use Rattle.ix_core.specs.Code.{Code}
use Rattle.ix_facts.specs.Stores.{Stored, Unreachable, IsBelow}
use Rattle.ix_facts.proofs.StoreLaws.{below_below}
use Rattle.ix_flow.specs.Walk.{Notes, IsLeast, Joins}
use Rattle.ix_errors.specs.declared.ranked.Ranked.{Ranked}
use Rattle.ix_verify.specs.declared.walk.Walk.{Walk}
use Rattle.ix_verify.specs.Walking.{rules, WalksCode, IsLeastIn, lesser}
use Rattle.ix_verify.proofs.Stores.{one_more}

module _ (walk : Walk) where
  pub from_nothing : (last : Option Op) (code : Code) (before : Stored) (breaks continues : Stored) (failed : List ℕ) (errors : List Ranked) (end : Stored) (m : Notes Stored (List Ranked)) → breaks ≡ Unreachable → continues ≡ Unreachable → failed ≡ [] → errors ≡ []
      → WalksCode walk last code before (record { breaks = breaks; continues = continues; failed = failed; errors = errors }) end m
      → WalksCode walk last code before (record { breaks = Unreachable; continues = Unreachable; failed = []; errors = [] }) end m
  from_nothing last code before breaks continues failed errors end m b k f e walks =
      subst (λ x. WalksCode walk last code before (record { breaks = Unreachable; continues = Unreachable; failed = []; errors = x }) end m) e
      (subst (λ x. WalksCode walk last code before (record { breaks = Unreachable; continues = Unreachable; failed = x; errors = errors }) end m) f
      (subst (λ x. WalksCode walk last code before (record { breaks = Unreachable; continues = x; failed = failed; errors = errors }) end m) k
      (subst (λ x. WalksCode walk last code before (record { breaks = x; continues = continues; failed = failed; errors = errors }) end m) b walks)))

  pub three_joined : (one two three left end : Stored) → Joins (rules walk) one two left → Joins (rules walk) left three end
      → IsLeast (rules walk) (λ above. IsBelow one above × IsBelow two above × IsBelow three above) end
  three_joined one two three left end first second = (
    (below_below one left end first.0.0 second.0.0, below_below two left end first.0.1 second.0.0, second.0.1),
    λ above all. second.1 above (first.1 above (all.0, all.1), all.2),
  )

-- ---- the least number

pub none_least : IsLeastIn [] None
none_least = λ n has. has

pub lesser_least : (numbers : List ℕ) (least : Option ℕ) (number : ℕ) → IsLeastIn numbers least → IsLeastIn (numbers ++ number ∷ []) (lesser least number)
lesser_least numbers None number none = (
  (one_more numbers number number).1 (inr refl),
  λ n has. elim ((one_more numbers number n).0 has) [
    | inl before ↦ absurd (none n before)
    | inr is ↦ omega (arith, is)
  ],
)
lesser_least numbers (Some other) number (has, least) = by (nat_lt other number) refl
  where
    by : (t : Bool) → nat_lt other number ≡ t → IsLeastIn (numbers ++ number ∷ []) (if t then Some other else Some number)
    by true less = (
      (one_more numbers number other).1 (inl has),
      λ n there. elim ((one_more numbers number n).0 there) [
        | inl before ↦ least n before
        | inr is ↦ elim (cases_lt other number) [
          | inl under ↦ omega (arith, is, under)
          | inr over ↦ absurd (grind (arith, less, over))
        ]
      ],
    )
    by false not = (
      (one_more numbers number number).1 (inr refl),
      λ n there. elim ((one_more numbers number n).0 there) [
        | inl before ↦ let above = least n before in elim (cases_lt other number) [
          | inl under ↦ absurd (grind (arith, not, under))
          | inr over ↦ omega (arith, over, above)
        ]
        | inr is ↦ omega (arith, is)
      ],
    )
