-- Keys of one length are ordered as the others are.
use Rattle.std.proofs.Common.{length, ◌≡◌, ℕ, ◌<◌, List, [], ◌∷◌, ◌++◌, refl, sym, ◌∙◌, ap, subst, arith, ℤ, pos}
use Rattle.std.specs.Ordering.{nat_cmp, int_cmp, ordering_then}
use Rattle.std.specs.declared.cmp.Ordering.{Ordering}
use Rattle.std.specs.declared.cmp.Ordering.TheVariants.{Less, Equal, Greater}
use Rattle.std.specs.Cmp.{IsTotalOrder, nat_cmp_total, int_cmp_total, then_total, on_total, ranks, int_cmp_is}
use Rattle.std.specs.Ordering.{MatchOrdering}
use lib.Dec.{T}
use lib.Signed.{lt_z_yes, ◌<ℤ◌}
use borrow.Author.Tests.{lt-ltb}
use Rattle.std.specs.Cmp.Lexicographic.{slice_cmp, lists_total}
use Rattle.ix_core.specs.declared.claim.Claim.{Claim}
use Rattle.ix_core.specs.declared.claim.Claim.TheVariants as claim
use Rattle.ix_core.specs.declared.claim.Name.{Name}
use Rattle.ix_core.specs.declared.claim.Name.TheVariants.{Param, Local, FieldNamed}
use Rattle.ix_core.specs.declared.claim.Off.{Off}
use Rattle.ix_core.specs.declared.claim.Off.TheVariants as off
use Rattle.ix_core.specs.declared.error.Detail.{Detail}
use Rattle.ix_core.specs.declared.error.Detail.TheVariants as detail
use Rattle.ix_core.specs.declared.error.Error.{Error}
use Rattle.ix_core.specs.declared.error.Subject.TheVariants as subject
use Rattle.ix_errors.specs.Order.{whom_key, name_key, offset_key, claim_key, last_key, error_key}
use Rattle.ix_errors.specs.FullKey.{name_kind, name_number, offset_kind, offset_name_kind, offset_name_number, full_claim_key, full_last_key, full_key}

unfoldable pub full_cmp : (x y : ℕ × ℕ × List ℤ × ℕ × ℕ × List ℤ) → Ordering
full_cmp x y = ordering_then (ordering_then (ordering_then (ordering_then (ordering_then (nat_cmp x.0 y.0) (nat_cmp x.1 y.1)) (slice_cmp int_cmp x.2 y.2)) (nat_cmp x.3 y.3)) (nat_cmp x.4 y.4)) (slice_cmp int_cmp x.5 y.5)

as_pair : (name : Name) → name_key name ≡ name_kind name ∷ name_number name ∷ []
as_pair (Param number) = refl
as_pair (Local number) = refl
as_pair (FieldNamed number) = refl

as_triple : (offset : Off) → offset_key offset ≡ offset_kind offset ∷ offset_name_kind offset ∷ offset_name_number offset ∷ []
as_triple off.Nothing = refl
as_triple (off.Plus name) = ap (λ key. pos 1 ∷ key) (as_pair name)
as_triple (off.Minus name) = ap (λ key. pos 2 ∷ key) (as_pair name)

-- the first line splits the claim, so that the last one is checked for each other claim
claim_same : (x y : Claim) → slice_cmp int_cmp (full_claim_key x) (full_claim_key y) ≡ slice_cmp int_cmp (claim_key x) (claim_key y)
claim_same (claim.Low a) (claim.Low b) = refl
claim_same (claim.Range a b) (claim.Range c d) = refl
claim_same (claim.Length a) (claim.Length b) = refl
claim_same (claim.Same a) (claim.Same b) = rw (as_pair a, as_pair b) refl
claim_same (claim.Less a c) (claim.Less b d) = rw (as_pair a, as_pair b) refl
claim_same (claim.Upper a o c) (claim.Upper b p d) = rw (as_pair a, as_pair b, as_triple o, as_triple p) refl
claim_same (claim.Search a) (claim.Search b) = rw (as_pair a, as_pair b) refl
claim_same (claim.Negative a) (claim.Negative b) = rw (as_pair a, as_pair b) refl
claim_same x y = refl

plain_first : (y : Claim) → slice_cmp int_cmp (full_last_key detail.Plain) (full_claim_key y) ≡ slice_cmp int_cmp [] (claim_key y)
plain_first (claim.Low a) = refl
plain_first y = refl

plain_second : (x : Claim) → slice_cmp int_cmp (full_claim_key x) (full_last_key detail.Plain) ≡ slice_cmp int_cmp (claim_key x) []
plain_second (claim.Low a) = refl
plain_second x = refl

last_same : (x y : Detail) → slice_cmp int_cmp (full_last_key x) (full_last_key y) ≡ slice_cmp int_cmp (last_key x) (last_key y)
last_same detail.Plain detail.Plain = refl
last_same detail.Plain (detail.Claim t y) = plain_first y
last_same (detail.Claim s x) detail.Plain = plain_second x
last_same (detail.Claim s x) (detail.Claim t y) = claim_same x y

numbers_by : (a b : ℕ) (r : Ordering) → MatchOrdering r (a < b) (a ≡ b) (b < a) → MatchOrdering r (pos a <ℤ pos b) (pos a ≡ pos b) (pos b <ℤ pos a)
numbers_by a b Less h = lt_z_yes (subst T (sym (lt-ltb a b h)) tt)
numbers_by a b Equal h = ap pos h
numbers_by a b Greater h = lt_z_yes (subst T (sym (lt-ltb b a h)) tt)

numbers_same : (a b : ℕ) → nat_cmp a b ≡ int_cmp (pos a) (pos b)
numbers_same a b = int_cmp_is (pos a) (pos b) (nat_cmp a b) (numbers_by a b (nat_cmp a b) (ranks a b))

in_parts : (xs ys us vs : List ℤ) → length xs ≡ length ys → slice_cmp int_cmp (xs ++ us) (ys ++ vs) ≡ ordering_then (slice_cmp int_cmp xs ys) (slice_cmp int_cmp us vs)
in_parts [] [] us vs e = refl
in_parts [] (y ∷ ys) us vs e = absurd (omega (arith, e))
in_parts (x ∷ xs) [] us vs e = absurd (omega (arith, e))
in_parts (x ∷ xs) (y ∷ ys) us vs e = ap (ordering_then (int_cmp x y)) (in_parts xs ys us vs (omega (arith, e))) ∙ sym (then_then (int_cmp x y) (slice_cmp int_cmp xs ys) (slice_cmp int_cmp us vs))
  where
    then_then : (a b c : Ordering) → ordering_then (ordering_then a b) c ≡ ordering_then a (ordering_then b c)
    then_then Less b c = refl
    then_then Equal b c = refl
    then_then Greater b c = refl

whom_long : (x : Detail) → length (whom_key x) ≡ 3
whom_long detail.Plain = refl
whom_long (detail.Claim subject.Element c) = refl
whom_long (detail.Claim (subject.Param m n) c) = refl
whom_long (detail.Claim (subject.Local m n) c) = refl
whom_long (detail.Claim (subject.FieldNamed f) c) = refl
whom_long (detail.Claim (subject.Result m) c) = refl
whom_long (detail.Claim (subject.PostField m f) c) = refl

from_left : (a b c d e f : Ordering) → ordering_then (ordering_then (ordering_then (ordering_then (ordering_then a b) c) d) e) f ≡ ordering_then a (ordering_then b (ordering_then c (ordering_then d (ordering_then e f))))
from_left Less b c d e f = refl
from_left Greater b c d e f = refl
from_left Equal Less c d e f = refl
from_left Equal Greater c d e f = refl
from_left Equal Equal Less d e f = refl
from_left Equal Equal Greater d e f = refl
from_left Equal Equal Equal Less e f = refl
from_left Equal Equal Equal Greater e f = refl
from_left Equal Equal Equal Equal e f = refl

pub same_order : (x y : Error) (r s : ℕ) → full_cmp (full_key x r) (full_key y s) ≡ slice_cmp int_cmp (error_key x r) (error_key y s)
unfolding full_cmp
same_order x y r s =
    let last = last_same x.detail y.detail in
    let parts = in_parts (whom_key x.detail) (whom_key y.detail) (pos r ∷ pos x.span.to ∷ last_key x.detail) (pos s ∷ pos y.span.to ∷ last_key y.detail) (whom_long x.detail ∙ sym (whom_long y.detail)) in
    from_left (nat_cmp x.span.from y.span.from) (nat_cmp x.rule y.rule) (slice_cmp int_cmp (whom_key x.detail) (whom_key y.detail)) (nat_cmp r s) (nat_cmp x.span.to y.span.to)
    (slice_cmp int_cmp (full_last_key x.detail) (full_last_key y.detail))
    ∙ rw (parts, last, numbers_same x.span.from y.span.from, numbers_same x.rule y.rule, numbers_same r s, numbers_same x.span.to y.span.to) refl

pub full_total : IsTotalOrder full_cmp
unfolding full_cmp
full_total = then_total (then_total (then_total (then_total (then_total (on_total (λ k. k.0) nat_cmp_total) (on_total (λ k. k.1) nat_cmp_total)) (on_total (λ k. k.2) (lists_total int_cmp_total))) (on_total (λ k. k.3) nat_cmp_total)) (on_total (λ k. k.4) nat_cmp_total)) (on_total (λ k. k.5) (lists_total int_cmp_total))
