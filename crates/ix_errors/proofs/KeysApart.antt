-- Keys tell errors and ranks apart.
use Rattle.std.proofs.Common.{◌≡◌, ℕ, ◌<◌, ◌==◌, ◌&&◌, Bool, true, false, List, [], ◌∷◌, refl, sym, ◌∙◌, ap, subst, ℤ}
use Rattle.std.specs.Ordering.{nat_cmp, int_cmp, int_eq, ordering_then, ordering_reverse, is_lt, is_gt, is_eq}
use Rattle.std.specs.declared.cmp.Ordering.{Ordering}
use Rattle.std.specs.declared.cmp.Ordering.TheVariants.{Less, Equal, Greater}
use Rattle.std.specs.Cmp.{int_cmp_total, tied_itself, ranks, int_ranks, both_tied, unsigned_ties, eq_by_cmp_equiv}
use Rattle.std.specs.Ordering.{MatchOrdering}
use lib.Signed.{◌<ℤ◌}
use Rattle.std.specs.Cmp.Lexicographic.{slice_cmp, lists_total, lists_ties, pointwise}
use Rattle.ix_core.specs.declared.claim.Claim.{Claim}
use Rattle.ix_core.specs.declared.claim.Claim.TheVariants as claim
use Rattle.ix_core.specs.declared.claim.Name.{Name}
use Rattle.ix_core.specs.declared.claim.Name.TheVariants.{Param, Local, FieldNamed}
use Rattle.ix_core.specs.declared.claim.Off.{Off}
use Rattle.ix_core.specs.declared.claim.Off.TheVariants as off
use Rattle.ix_core.specs.declared.error.Detail.{Detail}
use Rattle.ix_core.specs.declared.error.Detail.TheVariants as detail
use Rattle.ix_core.specs.declared.error.Error.{Error}
use Rattle.ix_core.specs.declared.error.Subject.{Subject}
use Rattle.ix_core.specs.declared.error.Subject.TheVariants as subject
use Rattle.ix_errors.specs.Order.{subject_key, whom_key, error_key, is_before}
use Rattle.ix_errors.specs.FullKey.{name_kind, name_number, offset_kind, offset_name_kind, offset_name_number, full_claim_key, full_last_key, full_key}
use Rattle.ix_errors.proofs.FullKeys.{full_cmp, same_order, full_total}
use Rattle.ix_errors.proofs.StrictOrder.{before_is}

both_equal : (a b : Ordering) → ordering_then a b ≡ Equal → (a ≡ Equal) × (b ≡ Equal)
both_equal Less b h = cc
both_equal Equal b h = (refl, h)
both_equal Greater b h = cc

same_nat : (a b : ℕ) → nat_cmp a b ≡ Equal → a ≡ b
same_nat a b h = subst (λ r. MatchOrdering r (a < b) (a ≡ b) (b < a)) h (ranks a b)

same_int : (a b : ℤ) → int_cmp a b ≡ Equal → a ≡ b
same_int a b h = subst (λ r. MatchOrdering r (a <ℤ b) (a ≡ b) (b <ℤ a)) h (int_ranks a b)

pub same_numbers : (xs ys : List ℤ) → slice_cmp int_cmp xs ys ≡ Equal → xs ≡ ys
same_numbers [] [] h = refl
same_numbers [] (y ∷ ys) h = cc
same_numbers (x ∷ xs) [] h = cc
same_numbers (x ∷ xs) (y ∷ ys) h =
    let parts = both_equal (int_cmp x y) (slice_cmp int_cmp xs ys) h in
    let first = same_int x y parts.0 in
    let rest = same_numbers xs ys parts.1 in
    cc

same_subject : (x y : Subject) → subject_key x ≡ subject_key y → x ≡ y
same_subject subject.Element subject.Element h = refl
same_subject (subject.Param m n) (subject.Param k l) h = cc
same_subject (subject.Local m n) (subject.Local k l) h = cc
same_subject (subject.FieldNamed m) (subject.FieldNamed k) h = cc
same_subject (subject.Result m) (subject.Result k) h = cc
same_subject (subject.PostField m f) (subject.PostField k g) h = cc
same_subject x y h = cc

same_name : (x y : Name) → name_kind x ≡ name_kind y → name_number x ≡ name_number y → x ≡ y
same_name (Param m) (Param n) h k = cc
same_name (Local m) (Local n) h k = cc
same_name (FieldNamed m) (FieldNamed n) h k = cc
same_name x y h k = cc

same_offset : (x y : Off) → offset_kind x ≡ offset_kind y → offset_name_kind x ≡ offset_name_kind y → offset_name_number x ≡ offset_name_number y → x ≡ y
same_offset off.Nothing off.Nothing h k l = refl
same_offset (off.Plus a) (off.Plus b) h k l = ap off.Plus (same_name a b k l)
same_offset (off.Minus a) (off.Minus b) h k l = ap off.Minus (same_name a b k l)
same_offset x y h k l = cc

same_claim : (x y : Claim) → full_claim_key x ≡ full_claim_key y → x ≡ y
same_claim (claim.Low a) (claim.Low b) h = cc
same_claim (claim.Range a b) (claim.Range c d) h = cc
same_claim (claim.Length a) (claim.Length b) h = cc
same_claim (claim.Same a) (claim.Same b) h = let kind_of : name_kind a ≡ name_kind b = cc in let number_of : name_number a ≡ name_number b = cc in let e = same_name a b kind_of number_of in cc
same_claim (claim.Less a c) (claim.Less b d) h = let kind_of : name_kind a ≡ name_kind b = cc in let number_of : name_number a ≡ name_number b = cc in let e = same_name a b kind_of number_of in cc
same_claim (claim.Upper a o c) (claim.Upper b p d) h =
    let kind_of : name_kind a ≡ name_kind b = cc in let number_of : name_number a ≡ name_number b = cc in let e = same_name a b kind_of number_of in
    let kind : offset_kind o ≡ offset_kind p = cc in
    let name : offset_name_kind o ≡ offset_name_kind p = cc in
    let number : offset_name_number o ≡ offset_name_number p = cc in
    let f = same_offset o p kind name number in
    cc
same_claim (claim.Search a) (claim.Search b) h = let kind_of : name_kind a ≡ name_kind b = cc in let number_of : name_number a ≡ name_number b = cc in let e = same_name a b kind_of number_of in cc
same_claim (claim.Negative a) (claim.Negative b) h = let kind_of : name_kind a ≡ name_kind b = cc in let number_of : name_number a ≡ name_number b = cc in let e = same_name a b kind_of number_of in cc
same_claim x y h = cc

plain_other : (y : Claim) → full_last_key detail.Plain ≡ full_claim_key y → ⊥
plain_other (claim.Low a) h = cc
plain_other y h = cc

same_detail : (x y : Detail) → whom_key x ≡ whom_key y → full_last_key x ≡ full_last_key y → x ≡ y
same_detail detail.Plain detail.Plain h k = refl
same_detail detail.Plain (detail.Claim t y) h k = absurd (plain_other y k)
same_detail (detail.Claim s x) detail.Plain h k = absurd (plain_other x (sym k))
same_detail (detail.Claim s x) (detail.Claim t y) h k = let e = same_subject s t h in let f = same_claim x y k in cc

same_error : (x y : Error) → x.rule ≡ y.rule → x.span.from ≡ y.span.from → x.span.to ≡ y.span.to → x.detail ≡ y.detail → x ≡ y
same_error x y h k l m = λ i. record { rule = h i; span = record { from = k i; to = l i }; detail = m i }

-- keys of one length that the order doesn't tell apart are of one error and one rank
pub full_apart : (x y : Error) (r s : ℕ) → full_cmp (full_key x r) (full_key y s) ≡ Equal → (x ≡ y) × (r ≡ s)
unfolding full_cmp
full_apart x y r s h =
    let five = both_equal _ (slice_cmp int_cmp (full_last_key x.detail) (full_last_key y.detail)) h in
    let four = both_equal _ (nat_cmp x.span.to y.span.to) five.0 in
    let three = both_equal _ (nat_cmp r s) four.0 in
    let two = both_equal _ (slice_cmp int_cmp (whom_key x.detail) (whom_key y.detail)) three.0 in
    let one = both_equal (nat_cmp x.span.from y.span.from) (nat_cmp x.rule y.rule) two.0 in
    let detail = same_detail x.detail y.detail (same_numbers (whom_key x.detail) (whom_key y.detail) two.1) (same_numbers (full_last_key x.detail) (full_last_key y.detail) five.1) in
    (same_error x y (same_nat x.rule y.rule one.1) (same_nat x.span.from y.span.from one.0) (same_nat x.span.to y.span.to four.1) detail, same_nat r s three.1)

-- and so are keys of the order
pub key_apart : (x y : Error) (r s : ℕ) → error_key x r ≡ error_key y s → (x ≡ y) × (r ≡ s)
key_apart x y r s h = full_apart x y r s (same_order x y r s ∙ ap (slice_cmp int_cmp (error_key x r)) (sym h) ∙ tied_itself (lists_total int_cmp_total) (error_key x r))

-- equality of keys of one length, as the fields are compared
unfoldable pub full_eq : (x y : ℕ × ℕ × List ℤ × ℕ × ℕ × List ℤ) → Bool
full_eq x y = ((((x.0 == y.0 && x.1 == y.1) && pointwise int_eq x.2 y.2) && x.3 == y.3) && x.4 == y.4) && pointwise int_eq x.5 y.5

full_ties : (x y : ℕ × ℕ × List ℤ × ℕ × ℕ × List ℤ) → full_eq x y ≡ is_eq (full_cmp x y)
unfolding full_cmp full_eq
full_ties x y =
    let whom = lists_ties {E = int_eq} int_cmp (λ a b. refl) x.2 y.2 in
    let last = lists_ties {E = int_eq} int_cmp (λ a b. refl) x.5 y.5 in
    both_tied _ _ _ _ (both_tied _ _ _ _ (both_tied _ _ _ _ (both_tied _ _ _ _ (both_tied _ _ _ _ (unsigned_ties x.0 y.0) (unsigned_ties x.1 y.1)) whom) (unsigned_ties x.3 y.3)) (unsigned_ties x.4 y.4)) last

equal_so : (r : Ordering) → is_eq r ≡ true → r ≡ Equal
equal_so Less h = cc
equal_so Equal h = refl
equal_so Greater h = cc

pub told_same : (x y : Error) → full_eq (full_key x 0) (full_key y 0) ≡ true → x ≡ y
told_same x y h = (full_apart x y 0 0 (equal_so (full_cmp (full_key x 0) (full_key y 0)) (sym (full_ties (full_key x 0) (full_key y 0)) ∙ h))).0

pub told_apart : (x y : Error) → full_eq (full_key x 0) (full_key y 0) ≡ false → x ≡ y → ⊥
told_apart x y h e =
    let itself : full_eq (full_key x 0) (full_key x 0) ≡ true = full_ties (full_key x 0) (full_key x 0) ∙ ap is_eq (tied_itself full_total (full_key x 0)) in
    let there : full_eq (full_key x 0) (full_key y 0) ≡ true = subst (λ z. full_eq (full_key x 0) (full_key z 0) ≡ true) e itself in
    cc

pub eq_apart : (x y : Error) → (x ≡ y → ⊥) → full_eq (full_key x 0) (full_key y 0) ≡ false
eq_apart x y h = by (full_eq (full_key x 0) (full_key y 0)) refl
  where
    by : (b : Bool) → full_eq (full_key x 0) (full_key y 0) ≡ b → full_eq (full_key x 0) (full_key y 0) ≡ false
    by true e = absurd (h (told_same x y e))
    by false e = e

pub eq_flips : (x y : Error) → full_eq (full_key x 0) (full_key y 0) ≡ full_eq (full_key y 0) (full_key x 0)
eq_flips x y = full_ties (full_key x 0) (full_key y 0) ∙ (eq_by_cmp_equiv full_total).symm (full_key x 0) (full_key y 0) ∙ sym (full_ties (full_key y 0) (full_key x 0))

-- of two different rows that are sorted the first is before the second
pub one_before : (x y : Error) (r s : ℕ) → ((x ≡ y) × (r ≡ s) → ⊥) → is_lt (full_cmp (full_key y s) (full_key x r)) ≡ false → is_before (error_key x r) (error_key y s) ≡ true
one_before x y r s other h = by (full_cmp (full_key x r) (full_key y s)) refl
  where
    turned : (r : Ordering) → is_lt (ordering_reverse r) ≡ is_gt r
    turned Less = refl
    turned Equal = refl
    turned Greater = refl

    by : (o : Ordering) → full_cmp (full_key x r) (full_key y s) ≡ o → is_before (error_key x r) (error_key y s) ≡ true
    by Less e = before_is (error_key x r) (error_key y s) ∙ ap is_lt (sym (same_order x y r s) ∙ e)
    by Equal e = absurd (other (full_apart x y r s e))
    by Greater e = let up = sym h ∙ ap is_lt (full_total.antisymm (full_key y s) (full_key x r)) ∙ turned (full_cmp (full_key x r) (full_key y s)) ∙ ap is_gt e in cc
