-- What a walk along two lists of facts knows of the facts that are left.
use Rattle.std.specs.Prelude.{◌≡◌, ◌⊎◌, ◌≤◌, ℕ, zero, suc, Bool, true, false, List, [], ◌∷◌, ◌++◌, length, take, drop, refl}
use Rattle.std.specs.declared.cmp.Ordering.TheVariants.{Less as Before, Equal, Greater}
use Rattle.std.specs.Ordering.{is_eq, ordering_reverse}
use Rattle.std.proofs.Common.{arith, inl, inr, ap, sym, ◌∙◌, subst, ⊎_elim, append_assoc}
use Rattle.std.proofs.lemmas.List.{append-nil}
use Rattle.ix_core.specs.declared.fact.Fact.{Fact}
use Rattle.ix_facts.specs.Facts.{IsIn, Covers, is_default}
use Rattle.ix_facts.proofs.FactLists.{covers_itself}
use Rattle.ix_fact_table.specs.FactOrder.{AtKey, fact_cmp, fact_total, at_key, alike_back, key_back, key_on}
use Rattle.ix_fact_table.specs.Meets.{met, common}
use Rattle.ix_fact_table.specs.Rising.{is_below, rises}
use Rattle.ix_fact_table.specs.MeetLaws.{met_left, met_right, met_key, common_key, covers_key}
use Rattle.ix_fact_table.specs.RisingLaws.{below_each, below_from, not_before, rises_parts, rises_from, below_on, below_some, below_at_key, rises_front, rises_other}
use Rattle.ix_fact_table.specs.Walks.{ArePast, IsPassed, FromBoth, left, right, both, HasBoth, IsShared, HasShared, AllCovered, Merging, Sharing, Comparing, IsSkipped, if_not}

pub none_left : (facts : List Fact) → length facts ≡ 0 → facts ≡ []
none_left [] none = refl
none_left (f ∷ facts) none = absurd (omega arith)

-- the first of the two is at the other's key, or before it, or after it
turned : (f g : Fact) → fact_cmp f g ≡ Greater → fact_cmp g f ≡ Before
turned f g h = fact_total.antisymm g f ∙ ap ordering_reverse h

pub equal_key : (f g : Fact) → fact_cmp f g ≡ Equal → AtKey f g
equal_key f g h = at_key f g (ap is_eq h)

-- the first fact is below all others where it is before their first
below_list : (f g : Fact) (facts : List Fact) → fact_cmp f g ≡ Before → rises (g ∷ facts) ≡ true → is_below f (g ∷ facts) ≡ true
below_list f g facts less r = below_on f g facts less (rises_parts g facts r).0

-- no fact of the list is at the key of one that is below all
apart : (f : Fact) (facts : List Fact) → is_below f facts ≡ true → (g : Fact) → IsIn g facts → AtKey f g → ⊥
apart f facts below g i key = not_before f g (below_each f facts below g i) key

below_other : (f m n : Fact) (ms : List Fact) → AtKey m n → is_below f (m ∷ ms) ≡ true → is_below f (n ∷ ms) ≡ true
below_other f m n ms key b = below_from f (n ∷ ms) (λ g i. ⊎_elim (λ e. ap (fact_cmp f) e ∙ (sym (alike_back m n f key) ∙ below_each f (m ∷ ms) b m (inl refl))) (λ j. below_each f (m ∷ ms) b g (inr j)) i)

with_or_without : (test : Bool) (front : List Fact) (f : Fact) (back : List Fact) → rises (front ++ f ∷ back) ≡ true → rises (front ++ back) ≡ true → rises ((front ++ if_not test f) ++ back) ≡ true
with_or_without true front f back r s = rw append_assoc s
with_or_without false front f back r s = rw append_assoc r

-- ---- both lists in one

from_more : (a b more others : List Fact) → ((f : Fact) → IsIn f a → IsIn f more) → ((f : Fact) → IsIn f b → IsIn f others) → (f : Fact) → FromBoth a b f → FromBoth more others f
from_more a b more others m o f (left i) = left (m f i)
from_more a b more others m o f (right i) = right (o f i)
from_more a b more others m o f (both g h i j key e) = both g h (m g i) (o h j) key e

has_left : (m : Fact) (ms b rest : List Fact) → HasBoth ms b rest → HasBoth (m ∷ ms) b (m ∷ rest)
has_left m ms b rest has = record {
  first_covered = λ f i. ⊎_elim (λ e. (m, inl refl, subst (Covers m) (sym e) (covers_itself m))) (λ j. let x = has.first_covered f j in (x.0, inr x.1, x.2)) i;
  second_covered = λ f i. let x = has.second_covered f i in (x.0, inr x.1, x.2);
  from = λ f i. ⊎_elim (λ e. left (inl e)) (λ j. from_more ms b (m ∷ ms) b (λ g k. inr k) (λ g k. k) f (has.from f j)) i;
}

has_right : (a : List Fact) (t : Fact) (ts rest : List Fact) → HasBoth a ts rest → HasBoth a (t ∷ ts) (t ∷ rest)
has_right a t ts rest has = record {
  first_covered = λ f i. let x = has.first_covered f i in (x.0, inr x.1, x.2);
  second_covered = λ f i. ⊎_elim (λ e. (t, inl refl, subst (Covers t) (sym e) (covers_itself t))) (λ j. let x = has.second_covered f j in (x.0, inr x.1, x.2)) i;
  from = λ f i. ⊎_elim (λ e. right (inl e)) (λ j. from_more a ts a (t ∷ ts) (λ g k. k) (λ g k. inr k) f (has.from f j)) i;
}

has_both : (m : Fact) (ms : List Fact) (t : Fact) (ts rest : List Fact) → AtKey m t → HasBoth ms ts rest → HasBoth (m ∷ ms) (t ∷ ts) (met m t ∷ rest)
has_both m ms t ts rest key has = record {
  first_covered = λ f i. ⊎_elim (λ e. (met m t, inl refl, subst (Covers (met m t)) (sym e) (met_left m t key))) (λ j. let x = has.first_covered f j in (x.0, inr x.1, x.2)) i;
  second_covered = λ f i. ⊎_elim (λ e. (met m t, inl refl, subst (Covers (met m t)) (sym e) (met_right m t key))) (λ j. let x = has.second_covered f j in (x.0, inr x.1, x.2)) i;
  from = λ f i. ⊎_elim (λ e. both m t (inl refl) (inl refl) key e) (λ j. from_more ms ts (m ∷ ms) (t ∷ ts) (λ g k. inr k) (λ g k. inr k) f (has.from f j)) i;
}

pub has_first_alone : (a : List Fact) → HasBoth a [] a
has_first_alone a = record { first_covered = λ f i. (f, i, covers_itself f); second_covered = λ f i. absurd i; from = λ f i. left i }

has_second_alone : (b : List Fact) → HasBoth [] b b
has_second_alone b = record { first_covered = λ f i. absurd i; second_covered = λ f i. (f, i, covers_itself f); from = λ f i. right i }

pub merging_starts : (first second : List Fact) → rises first ≡ true → rises second ≡ true → Merging first second first second []
merging_starts first second r s = record { mine_rise = r; theirs_rise = s; with_mine = r; with_theirs = s; completes = λ rest has. has }

module _ (first second mine theirs : List Fact) (m : Fact) (ms : List Fact) (t : Fact) (ts : List Fact) (mine_is : mine ≡ m ∷ ms) (theirs_is : theirs ≡ t ∷ ts) (all : List Fact) where
  pub merging_left : fact_cmp m t ≡ Before → Merging first second mine theirs all → Merging first second ms theirs (all ++ m ∷ [])
  merging_left less now =
      let here = rw (mine_is, theirs_is) at now in
      let both = rises_parts m ms here.mine_rise in
      let past = below_list m t ts less here.theirs_rise in
      let rise : rises (all ++ m ∷ (t ∷ ts)) ≡ true = rises_other all (m ∷ ms) (m ∷ (t ∷ ts)) (rises_from m (t ∷ ts) past here.theirs_rise) (λ f b. below_on f m (t ∷ ts) (below_each f (m ∷ ms) b m (inl refl)) past) here.with_mine in
      rw theirs_is (record {
        mine_rise = both.1;
        theirs_rise = here.theirs_rise;
        with_mine = rw append_assoc here.with_mine;
        with_theirs = rw append_assoc rise;
        completes = λ rest has. rw append_assoc (here.completes (m ∷ rest) (has_left m ms (t ∷ ts) rest has));
      })

  pub merging_right : fact_cmp m t ≡ Greater → Merging first second mine theirs all → Merging first second mine ts (all ++ t ∷ [])
  merging_right greater now =
      let here = rw (mine_is, theirs_is) at now in
      let both = rises_parts t ts here.theirs_rise in
      let past = below_list t m ms (turned m t greater) here.mine_rise in
      let rise : rises (all ++ t ∷ (m ∷ ms)) ≡ true = rises_other all (t ∷ ts) (t ∷ (m ∷ ms)) (rises_from t (m ∷ ms) past here.mine_rise) (λ f b. below_on f t (m ∷ ms) (below_each f (t ∷ ts) b t (inl refl)) past) here.with_theirs in
      rw mine_is (record {
        mine_rise = here.mine_rise;
        theirs_rise = both.1;
        with_mine = rw append_assoc rise;
        with_theirs = rw append_assoc here.with_theirs;
        completes = λ rest has. rw append_assoc (here.completes (t ∷ rest) (has_right (m ∷ ms) t ts rest has));
      })

  pub merging_both : fact_cmp m t ≡ Equal → Merging first second mine theirs all → Merging first second ms ts (all ++ met m t ∷ [])
  merging_both same now =
      let here = rw (mine_is, theirs_is) at now in
      let key = equal_key m t same in
      let mine_parts = rises_parts m ms here.mine_rise in
      let theirs_parts = rises_parts t ts here.theirs_rise in
      let left_key = key_back (met m t) m (met_key m t key) in
      let right_key = key_on t m (met m t) (key_back m t key) left_key in
      let with_mine : rises (all ++ met m t ∷ ms) ≡ true = rises_other all (m ∷ ms) (met m t ∷ ms) (rises_from (met m t) ms (below_at_key m (met m t) ms left_key mine_parts.0) mine_parts.1) (λ f b. below_other f m (met m t) ms left_key b) here.with_mine in
      let with_theirs : rises (all ++ met m t ∷ ts) ≡ true = rises_other all (t ∷ ts) (met m t ∷ ts) (rises_from (met m t) ts (below_at_key t (met m t) ts right_key theirs_parts.0) theirs_parts.1) (λ f b. below_other f t (met m t) ts right_key b) here.with_theirs in
      record {
        mine_rise = mine_parts.1;
        theirs_rise = theirs_parts.1;
        with_mine = rw append_assoc with_mine;
        with_theirs = rw append_assoc with_theirs;
        completes = λ rest has. rw append_assoc (here.completes (met m t ∷ rest) (has_both m ms t ts rest key has));
      }

pub merging_alone : (first second mine : List Fact) (t : Fact) (ts all : List Fact) → mine ≡ [] → Merging first second mine (t ∷ ts) all → Merging first second mine ts (all ++ t ∷ [])
merging_alone first second mine t ts all none now =
    let here = rw none at now in
    let rise : rises ((all ++ t ∷ []) ++ ts) ≡ true = rw append_assoc here.with_theirs in
    rw none (record {
      mine_rise = refl;
      theirs_rise = (rises_parts t ts here.theirs_rise).1;
      with_mine = rw append-nil (rises_front (all ++ t ∷ []) ts rise);
      with_theirs = rise;
      completes = λ rest has. rw append_assoc (here.completes (t ∷ rest) (has_right [] t ts rest has));
    })

-- where nothing is left of one list, what is left of both completes the whole
-- a run of facts that are all before the next one of the other list
pub merging_run : (first second : List Fact) (n : ℕ) (mine theirs : List Fact) (t : Fact) (ts : List Fact) (all : List Fact) → theirs ≡ t ∷ ts → n ≤ length mine → ArePast mine n t
    → Merging first second mine theirs all → Merging first second (drop n mine) theirs (all ++ take n mine)
merging_run first second zero mine theirs t ts all is within past now = rw (append-nil all) now
merging_run first second (suc n) [] theirs t ts all is within past now = absurd (omega arith)
merging_run first second (suc n) (m ∷ ms) theirs t ts all is within past now =
    let one = merging_left first second (m ∷ ms) theirs m ms t ts refl is all (past 0 m (omega arith)) now in
    let run = merging_run first second n ms theirs t ts (all ++ m ∷ []) is (omega arith) (λ k d less. past (suc k) d (omega arith)) one in
    subst (Merging first second (drop n ms) theirs) (append_assoc all (m ∷ []) (take n ms)) run

pub merging_passed : (first second mine theirs rest : List Fact) (t : Fact) (ts all more : List Fact) → theirs ≡ t ∷ ts → IsPassed mine t all more rest → Merging first second mine theirs all → Merging first second rest theirs more
merging_passed first second mine theirs rest t ts all more is run now = rw (run.run, run.left_over) (merging_run first second run.count mine theirs t ts all is run.within run.before now)

pub none_passed : (facts : List Fact) (other : Fact) (all : List Fact) → IsPassed facts other all all facts
none_passed facts other all = record { count = 0; within = omega arith; before = λ k d less. absurd (omega arith); run = sym (append-nil all); left_over = refl }

pub merging_ends : (first second mine theirs all : List Fact) → (mine ≡ []) ⊎ (theirs ≡ []) → Merging first second mine theirs all → HasBoth first second ((all ++ mine) ++ theirs) × (rises ((all ++ mine) ++ theirs) ≡ true)
merging_ends first second mine theirs all none now =
    ⊎_elim
    (λ e. let here = rw e at now in rw e (subst (λ l. HasBoth first second (l ++ theirs) × (rises (l ++ theirs) ≡ true)) (sym (append-nil all)) (here.completes theirs (has_second_alone theirs), here.with_theirs)))
    (λ e. let here = rw e at now in rw e (subst (λ l. HasBoth first second l × (rises l ≡ true)) (sym (append-nil (all ++ mine))) (here.completes mine (has_first_alone mine), here.with_mine)))
    none

-- ---- what both say in common

shared_more : (a b more others : List Fact) → ((f : Fact) → IsIn f a → IsIn f more) → ((f : Fact) → IsIn f b → IsIn f others) → (f : Fact) → IsShared a b f → IsShared more others f
shared_more a b more others m o f is = record { mine = is.mine; theirs = is.theirs; in_first = m is.mine is.in_first; in_second = o is.theirs is.in_second; key = is.key; is = is.is; tells = is.tells }

shared_past_left : (m : Fact) (ms b rest : List Fact) → is_below m b ≡ true → HasShared ms b rest → HasShared (m ∷ ms) b rest
shared_past_left m ms b rest below has = record {
  kept = λ f g i j key tells. ⊎_elim (λ e. absurd (apart m b below g j (subst (λ x. AtKey x g) e key))) (λ k. has.kept f g k j key tells) i;
  from = λ f i. shared_more ms b (m ∷ ms) b (λ g k. inr k) (λ g k. k) f (has.from f i);
}

shared_past_right : (a : List Fact) (t : Fact) (ts rest : List Fact) → is_below t a ≡ true → HasShared a ts rest → HasShared a (t ∷ ts) rest
shared_past_right a t ts rest below has = record {
  kept = λ f g i j key tells. ⊎_elim (λ e. absurd (apart t a below f i (key_back f t (subst (AtKey f) e key)))) (λ k. has.kept f g i k key tells) j;
  from = λ f i. shared_more a ts a (t ∷ ts) (λ g k. k) (λ g k. inr k) f (has.from f i);
}

in_not : (test : Bool) (f : Fact) (rest : List Fact) → test ≡ false → IsIn f (if_not test f ++ rest)
in_not test f rest h = rw h (inl refl)

past_not : (test : Bool) (f g : Fact) (rest : List Fact) → IsIn g rest → IsIn g (if_not test f ++ rest)
past_not true f g rest i = i
past_not false f g rest i = inr i

either_not : (test : Bool) (f g : Fact) (rest : List Fact) → IsIn g (if_not test f ++ rest) → ((g ≡ f) × (test ≡ false)) ⊎ IsIn g rest
either_not true f g rest i = inr i
either_not false f g rest i = ⊎_elim (λ e. inl (e, refl)) (λ j. inr j) i

shared_both : (m : Fact) (ms : List Fact) (t : Fact) (ts rest : List Fact) → AtKey m t → is_below m ms ≡ true → is_below t ts ≡ true → HasShared ms ts rest → HasShared (m ∷ ms) (t ∷ ts) (if_not (is_default (common m t)) (common m t) ++ rest)
shared_both m ms t ts rest key mine theirs has = record {
  kept = λ f g i j k tells.
      ⊎_elim
      (λ e. ⊎_elim
      (λ d.
      let here = in_not (is_default (common m t)) (common m t) rest (subst (λ x. is_default (common x t) ≡ false) e (subst (λ x. is_default (common f x) ≡ false) d tells)) in
      subst (λ x. IsIn (common x g) (if_not (is_default (common m t)) (common m t) ++ rest)) (sym e) (subst (λ x. IsIn (common m x) (if_not (is_default (common m t)) (common m t) ++ rest)) (sym d) here))
      (λ n. absurd (apart t ts theirs g n (key_on t m g (key_back m t key) (subst (λ x. AtKey x g) e k))))
      j)
      (λ n. ⊎_elim
      (λ d. absurd (apart m ms mine f n (key_on m t f key (key_back f t (subst (AtKey f) d k)))))
      (λ o. past_not (is_default (common m t)) (common m t) (common f g) rest (has.kept f g n o k tells))
      j)
      i;
  from = λ f i.
      ⊎_elim
      (λ x. record { mine = m; theirs = t; in_first = inl refl; in_second = inl refl; key = key; is = x.0; tells = ap is_default x.0 ∙ x.1 })
      (λ j. shared_more ms ts (m ∷ ms) (t ∷ ts) (λ g k. inr k) (λ g k. inr k) f (has.from f j))
      (either_not (is_default (common m t)) (common m t) f rest i);
}

shared_none_left : (b : List Fact) → HasShared [] b []
shared_none_left b = record { kept = λ f g i j key tells. absurd i; from = λ f i. absurd i }

shared_none_right : (a : List Fact) → HasShared a [] []
shared_none_right a = record { kept = λ f g i j key tells. absurd j; from = λ f i. absurd i }

pub sharing_starts : (first second : List Fact) → rises first ≡ true → rises second ≡ true → Sharing first second first second []
sharing_starts first second r s = record { mine_rise = r; theirs_rise = s; with_mine = r; completes = λ rest has. has }

tail_below : (f m : Fact) (ms : List Fact) → is_below f (m ∷ ms) ≡ true → is_below f ms ≡ true
tail_below f m ms b = below_some f (m ∷ ms) ms (λ g i. inr i) b

module _ (first second mine theirs : List Fact) (m : Fact) (ms : List Fact) (t : Fact) (ts : List Fact) (mine_is : mine ≡ m ∷ ms) (theirs_is : theirs ≡ t ∷ ts) (shared : List Fact) where
  pub sharing_left : fact_cmp m t ≡ Before → Sharing first second mine theirs shared → Sharing first second ms theirs shared
  sharing_left less now =
      let here = rw (mine_is, theirs_is) at now in
      let both = rises_parts m ms here.mine_rise in
      rw theirs_is (record {
        mine_rise = both.1;
        theirs_rise = here.theirs_rise;
        with_mine = rises_other shared (m ∷ ms) ms both.1 (λ f b. tail_below f m ms b) here.with_mine;
        completes = λ rest has. here.completes rest (shared_past_left m ms (t ∷ ts) rest (below_list m t ts less here.theirs_rise) has);
      })

  pub sharing_right : fact_cmp m t ≡ Greater → Sharing first second mine theirs shared → Sharing first second mine ts shared
  sharing_right greater now =
      let here = rw (mine_is, theirs_is) at now in
      rw mine_is (record {
        mine_rise = here.mine_rise;
        theirs_rise = (rises_parts t ts here.theirs_rise).1;
        with_mine = here.with_mine;
        completes = λ rest has. here.completes rest (shared_past_right (m ∷ ms) t ts rest (below_list t m ms (turned m t greater) here.mine_rise) has);
      })

  pub sharing_both : fact_cmp m t ≡ Equal → Sharing first second mine theirs shared → Sharing first second ms ts (shared ++ if_not (is_default (common m t)) (common m t))
  sharing_both same now =
      let here = rw (mine_is, theirs_is) at now in
      let key = equal_key m t same in
      let mine_parts = rises_parts m ms here.mine_rise in
      let theirs_parts = rises_parts t ts here.theirs_rise in
      let kept_rise : rises (shared ++ common m t ∷ ms) ≡ true = rises_other shared (m ∷ ms) (common m t ∷ ms) (rises_from (common m t) ms (below_at_key m (common m t) ms (common_key m t key) mine_parts.0) mine_parts.1) (λ f b. below_other f m (common m t) ms (common_key m t key) b) here.with_mine in
      let dropped_rise : rises (shared ++ ms) ≡ true = rises_other shared (m ∷ ms) ms mine_parts.1 (λ f b. tail_below f m ms b) here.with_mine in
      record {
        mine_rise = mine_parts.1;
        theirs_rise = theirs_parts.1;
        with_mine = with_or_without (is_default (common m t)) shared (common m t) ms kept_rise dropped_rise;
        completes = λ rest has. rw append_assoc (here.completes (if_not (is_default (common m t)) (common m t) ++ rest) (shared_both m ms t ts rest key mine_parts.0 theirs_parts.0 has));
      }

pub sharing_alone : (first second mine : List Fact) (t : Fact) (ts shared : List Fact) → mine ≡ [] → Sharing first second mine (t ∷ ts) shared → Sharing first second mine ts shared
sharing_alone first second mine t ts shared none now =
    let here = rw none at now in
    rw none (record {
      mine_rise = refl;
      theirs_rise = (rises_parts t ts here.theirs_rise).1;
      with_mine = here.with_mine;
      completes = λ rest has. here.completes rest (shared_past_right [] t ts rest refl has);
    })

pub sharing_ends : (first second mine theirs shared : List Fact) → (mine ≡ []) ⊎ (theirs ≡ []) → Sharing first second mine theirs shared → HasShared first second shared × (rises shared ≡ true)
sharing_ends first second mine theirs shared none now = (
  subst (HasShared first second) (append-nil shared) (now.completes [] (⊎_elim
      (λ e. subst (λ l. HasShared l theirs []) (sym e) (shared_none_left theirs))
      (λ e. subst (λ l. HasShared mine l []) (sym e) (shared_none_right mine))
      none)),
  rises_front shared mine now.with_mine,
)

-- ---- whether one covers the other

pub comparing_starts : (first second : List Fact) → rises first ≡ true → rises second ≡ true → Comparing first second first second
comparing_starts first second r s = record { mine_rise = r; theirs_rise = s; covered = (λ x. x, λ x. x) }

pub comparing_ends : (first second mine theirs : List Fact) → theirs ≡ [] → Comparing first second mine theirs → AllCovered first second
comparing_ends first second mine theirs none now = now.covered.1 (rw none (λ f i. absurd i))

pub comparing_lacks : (first second mine theirs : List Fact) (t : Fact) (ts : List Fact) → mine ≡ [] → theirs ≡ t ∷ ts → Comparing first second mine theirs → ¬ AllCovered first second
comparing_lacks first second mine theirs t ts none is now all = let here = rw (none, is) at now in let x = here.covered.0 all t (inl refl) in x.1

module _ (first second mine theirs : List Fact) (m : Fact) (ms : List Fact) (t : Fact) (ts : List Fact) (mine_is : mine ≡ m ∷ ms) (theirs_is : theirs ≡ t ∷ ts) where
  pub comparing_past : fact_cmp m t ≡ Before → Comparing first second mine theirs → Comparing first second ms theirs
  comparing_past less now =
      let here = rw (mine_is, theirs_is) at now in
      let past = below_list m t ts less here.theirs_rise in
      rw theirs_is (record {
        mine_rise = (rises_parts m ms here.mine_rise).1;
        theirs_rise = here.theirs_rise;
        covered = (
          λ all f i.
              let x = here.covered.0 all f i in
              ⊎_elim (λ e. absurd (apart m (t ∷ ts) past f i (subst (λ y. AtKey y f) e (covers_key x.0 f x.2)))) (λ j. (x.0, j, x.2)) x.1,
          λ all. here.covered.1 (λ f i. let x = all f i in (x.0, inr x.1, x.2)),
        );
      })

  pub comparing_missing : fact_cmp m t ≡ Greater → Comparing first second mine theirs → ¬ AllCovered first second
  comparing_missing greater now all =
      let here = rw (mine_is, theirs_is) at now in
      let x = here.covered.0 all t (inl refl) in
      apart t (m ∷ ms) (below_list t m ms (turned m t greater) here.mine_rise) x.0 x.1 (key_back x.0 t (covers_key x.0 t x.2))

  pub comparing_both : fact_cmp m t ≡ Equal → Covers m t → Comparing first second mine theirs → Comparing first second ms ts
  comparing_both same covers_it now =
      let here = rw (mine_is, theirs_is) at now in
      let key = equal_key m t same in
      let mine_parts = rises_parts m ms here.mine_rise in
      let theirs_parts = rises_parts t ts here.theirs_rise in
      record {
        mine_rise = mine_parts.1;
        theirs_rise = theirs_parts.1;
        covered = (
          λ all f i.
              let x = here.covered.0 all f (inr i) in
              ⊎_elim (λ e. absurd (apart t ts theirs_parts.0 f i (key_on t m f (key_back m t key) (subst (λ y. AtKey y f) e (covers_key x.0 f x.2))))) (λ j. (x.0, j, x.2)) x.1,
          λ all. here.covered.1 (λ f i. ⊎_elim (λ e. (m, inl refl, subst (Covers m) (sym e) covers_it)) (λ j. let x = all f j in (x.0, inr x.1, x.2)) i),
        );
      }

  pub comparing_fails : fact_cmp m t ≡ Equal → ¬ Covers m t → Comparing first second mine theirs → ¬ AllCovered first second
  comparing_fails same fails now all =
      let here = rw (mine_is, theirs_is) at now in
      let key = equal_key m t same in
      let x = here.covered.0 all t (inl refl) in
      ⊎_elim
      (λ e. fails (subst (λ y. Covers y t) e x.2))
      (λ j. apart m ms (rises_parts m ms here.mine_rise).0 x.0 j (key_on m t x.0 key (key_back x.0 t (covers_key x.0 t x.2))))
      x.1

-- past a run of facts that are all before the next one of the other list
comparing_run : (first second : List Fact) (n : ℕ) (mine theirs : List Fact) (t : Fact) (ts : List Fact) → theirs ≡ t ∷ ts → n ≤ length mine → ArePast mine n t → Comparing first second mine theirs → Comparing first second (drop n mine) theirs
comparing_run first second zero mine theirs t ts is within past now = now
comparing_run first second (suc n) [] theirs t ts is within past now = absurd (omega arith)
comparing_run first second (suc n) (m ∷ ms) theirs t ts is within past now =
    let one = comparing_past first second (m ∷ ms) theirs m ms t ts refl is (past 0 m (omega arith)) now in
    comparing_run first second n ms theirs t ts is (omega arith) (λ k d less. past (suc k) d (omega arith)) one

pub comparing_skipped : (first second mine theirs rest : List Fact) (t : Fact) (ts : List Fact) → theirs ≡ t ∷ ts → IsSkipped mine t rest → Comparing first second mine theirs → Comparing first second rest theirs
comparing_skipped first second mine theirs rest t ts is run now = rw run.left_over (comparing_run first second run.count mine theirs t ts is run.within run.before now)

pub none_skipped : (facts : List Fact) (other : Fact) → IsSkipped facts other facts
none_skipped facts other = record { count = 0; within = omega arith; before = λ k d less. absurd (omega arith); left_over = refl }
