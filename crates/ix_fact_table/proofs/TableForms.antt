-- What each call of a table leaves is a table of its kind, and what it says.
use Rattle.std.specs.Prelude.{◌≡◌, ◌↔◌, Bool, true, false, ℤ, ◌≤ℤ◌, int_lt, List, [], ◌∷◌, ◌++◌, Option, Some, None, refl}
use Rattle.std.specs.Int.{int_min, int_max}
use Rattle.std.proofs.Common.{arith, inl, ap, sym, ◌∙◌, subst, ⊎_elim, inr}
use Rattle.std.proofs.lemmas.Int.{ints, clamps}
use Rattle.ix_num.specs.Ints.{least_int, greatest_int}
use Rattle.ix_core.specs.declared.fact.Path.{Path}
use Rattle.ix_core.specs.declared.fact.Fact.{Fact}
use Rattle.ix_core.specs.declared.fact.Fact.TheVariants.{Rng, LenRng, Low, Same, IsLen, Less, Sum, Search, Neg, Upper}
use Rattle.ix_facts.specs.declared.kind.Kind.{Kind}
use Rattle.ix_facts.specs.Facts.{IsIn, Covers, is_default}
use Rattle.ix_facts.specs.Closure.{kept, Said, SaysAll, IsCommon}
use Rattle.ix_facts.specs.Exact.{each, if_some}
use Rattle.ix_facts.specs.Forget.{names, without}
use Rattle.ix_facts.specs.Kinds.{is_of, of_kind}
use Rattle.ix_facts.specs.Round.{mark_below, mark_above, if_both, rounded_fact}
use Rattle.ix_facts.specs.Systems.{IsTable, HasClass, HaveClasses, system_rounded, system_added}
use Rattle.ix_facts.proofs.FactLists.{in_left, in_right, in_either}
use Rattle.ix_facts.proofs.Frame.{in_without}
use Rattle.ix_facts.proofs.SaidLaws.{default_is, is_a_default, default_weaker, said_itself, said_weaker}
use Rattle.ix_facts.proofs.SystemLaws.{in_kind, kind_in}
use Rattle.ix_core.proofs.Cases.{by_test}
use Rattle.ix_fact_table.specs.FactOrder.{key_on, key_back}
use Rattle.ix_fact_table.specs.Meets.{common}
use Rattle.ix_fact_table.specs.Entries.{HasInt, entry_of, is_entry}
use Rattle.ix_fact_table.specs.Rising.{rises, is_table_of}
use Rattle.ix_fact_table.specs.MeetLaws.{covers_key, common_left, common_right, common_covers, common_key, common_entry, key_kind}
use Rattle.ix_fact_table.specs.EntryLaws.{entry_default, entry_said, may_stand}
use Rattle.ix_fact_table.specs.RisingLaws.{below_some, rises_parts, rises_from, table_rises, table_each, table_from}
use Rattle.ix_fact_table.specs.TableLaws.{by_entry, entry_covered, all_said}
use Rattle.ix_fact_table.specs.Walks.{HasBoth, HasShared, AllCovered}
use Rattle.ix_fact_table.proofs.MergedTables.{same_table, kind_all, self_table, merged_form, merged_table}

-- ---- forgets

rises_without : (is : Path → Bool) (facts : List Fact) → rises facts ≡ true → rises (without is facts) ≡ true
rises_without is [] r = refl
rises_without is (f ∷ facts) r =
    let both = rises_parts f facts r in
    by_test (names is f)
    (λ t. rw t (rises_without is facts both.1))
    (λ t. rw t (rises_from f (without is facts) (below_some f facts (without is facts) (λ g i. (in_without is g facts i).0) both.0) (rises_without is facts both.1)))

pub without_form : (own : Kind) (is : Path → Bool) (facts : List Fact) → is_table_of own facts ≡ true → is_table_of own (without is facts) ≡ true
without_form own is facts form = table_from own (without is facts) (rises_without is facts (table_rises own facts form)) (λ f i. table_each own facts form f (in_without is f facts i).0)

pub without_table : (own : Kind) (is : Path → Bool) (facts : List Fact) → is_table_of own facts ≡ true → IsTable (without is facts) (without is facts)
without_table own is facts form = self_table own (without is facts) (without_form own is facts form)

-- ---- the facts of a kind

rises_kind : (part : Kind) (facts : List Fact) → rises facts ≡ true → rises (of_kind part facts) ≡ true
rises_kind part [] r = refl
rises_kind part (f ∷ facts) r =
    let both = rises_parts f facts r in
    by_test (is_of part f)
    (λ t. rw t (rises_from f (of_kind part facts) (below_some f facts (of_kind part facts) (λ g i. (in_kind part g facts i).0) both.0) (rises_kind part facts both.1)))
    (λ t. rw t (rises_kind part facts both.1))

pub kind_form : (own part : Kind) (facts : List Fact) → is_table_of own facts ≡ true → is_table_of part (of_kind part facts) ≡ true
kind_form own part facts form =
    table_from part (of_kind part facts) (rises_kind part facts (table_rises own facts form)) (λ f i. let x = in_kind part f facts i in (x.1, (table_each own facts form f x.0).1))

in_same : (own : Kind) (front new other : List Fact) → ((f : Fact) → IsIn f new → IsIn f other) → (f : Fact) → IsIn f (front ++ of_kind own new) → IsIn f (front ++ of_kind own other)
in_same own front new other more f i =
    ⊎_elim
    (λ j. in_left f front (of_kind own other) j)
    (λ j. let x = in_kind own f new j in in_right f front (of_kind own other) (kind_in own f other (more f x.0) x.1))
    (in_either f front (of_kind own new) i)

not_above : (c : ℤ) → c ≤ℤ greatest_int → int_lt greatest_int c ≡ false
not_above c h = grind (arith, ints)

not_below : (c : ℤ) → least_int ≤ℤ c → int_lt c least_int ≡ false
not_below c h = grind (arith, ints)

from_least : (c : ℤ) → least_int ≤ℤ c → int_max c least_int ≡ c
from_least c h = omega (arith, ints, clamps)

to_greatest : (c : ℤ) → c ≤ℤ greatest_int → int_min c greatest_int ≡ c
to_greatest c h = omega (arith, ints, clamps)

-- ---- more facts

pub with_form : (own : Kind) (facts more all : List Fact) → is_table_of own facts ≡ true → is_table_of own more ≡ true → HasBoth facts more all → rises all ≡ true → is_table_of own all ≡ true
with_form own facts more all first second has rise = merged_form own facts more all first second has rise

pub with_table : (own : Kind) (facts new more all : List Fact) → is_table_of own facts ≡ true → is_table_of own more ≡ true → IsTable (of_kind own new) more → HasBoth facts more all → rises all ≡ true → IsTable (facts ++ of_kind own new) all
with_table own facts new more all first second is has rise = merged_table own facts (of_kind own new) facts more all (merged_form own facts more all first second has rise) (self_table own facts first) is has

-- a fact's number is an int, so it is kept as it is
kept_int : (own : Kind) (f : Fact) → HasInt f → kept (f ∷ []) ≡ f ∷ []
kept_int own (Less p q c) i = let x = not_above c i.to in let y = from_least c i.from in rw (x, y) refl
kept_int own (Upper p a o c) i = let x = not_below c i.from in let y = to_greatest c i.to in rw (x, y) refl
kept_int own (Rng p l h) i = refl
kept_int own (LenRng p l h) i = refl
kept_int own (Low p c) i = refl
kept_int own (Same a b) i = refl
kept_int own (IsLen p a) i = refl
kept_int own (Sum t y z) i = refl
kept_int own (Search p a) i = refl
kept_int own (Neg p a) i = refl

pub added_is : (own : Kind) (facts : List Fact) (f : Fact) → HasInt f → facts ++ of_kind own (f ∷ []) ≡ system_added own facts f
added_is own facts f int = ap (λ l. facts ++ of_kind own l) (sym (kept_int own f int))

pub one_class : (f : Fact) → HasClass f → HaveClasses (f ∷ [])
one_class f class g i = ⊎_elim (λ e. subst HasClass (sym e) class) (λ x. absurd x) i

-- a list whose new facts are the same has the same table
pub same_new : (own : Kind) (front new other table : List Fact) → ((f : Fact) → IsIn f new → IsIn f other) → ((f : Fact) → IsIn f other → IsIn f new) → IsTable (front ++ of_kind own new) table → IsTable (front ++ of_kind own other) table
same_new own front new other table more back is = same_table (front ++ of_kind own new) (front ++ of_kind own other) table (in_same own front new other more) (in_same own front other new back) is

-- ---- rounding

pub table_classes : (own : Kind) (facts : List Fact) → is_table_of own facts ≡ true → HaveClasses facts
table_classes own facts form f i = (may_stand f (table_each own facts form f i).1).class

module _ (P : Fact → Type 0) where
  some_all : (make : ℤ → Fact) → ((n : ℤ) → P (make n)) → (o : Option ℤ) → (f : Fact) → IsIn f (if_some make o) → P f
  some_all make all None f i = absurd i
  some_all make all (Some n) f i = ⊎_elim (λ e. subst P (sym e) (all n)) (λ x. absurd x) i

  both_all : (make : ℤ → ℤ → Fact) → ((m n : ℤ) → P (make m n)) → (l h : Option ℤ) → (f : Fact) → IsIn f (if_both make l h) → P f
  both_all make all (Some l) (Some h) f i = ⊎_elim (λ e. subst P (sym e) (all l h)) (λ x. absurd x) i
  both_all make all None (Some h) f i = absurd i
  both_all make all (Some l) None f i = absurd i
  both_all make all None None f i = absurd i

  itself_all : (g : Fact) → P g → (f : Fact) → IsIn f (g ∷ []) → P f
  itself_all g p f i = ⊎_elim (λ e. subst P (sym e) p) (λ x. absurd x) i

round_class : (marks : List ℤ) (g : Fact) → HasClass g → (f : Fact) → IsIn f (rounded_fact marks g) → HasClass f
round_class marks (Rng p l h) c = both_all HasClass (Rng p) (λ m n. tt) (mark_below marks l) (mark_above marks h)
round_class marks (LenRng p l h) c = both_all HasClass (LenRng p) (λ m n. tt) (mark_below marks l) (mark_above marks h)
round_class marks (Less p q n) c = some_all HasClass (Less p q) (λ m. tt) (mark_above marks n)
round_class marks (Upper p a o n) c = some_all HasClass (Upper p a o) (λ m. tt) (mark_below marks n)
round_class marks (Low p n) c = itself_all HasClass (Low p n) c
round_class marks (Same a b) c = itself_all HasClass (Same a b) c
round_class marks (IsLen p a) c = itself_all HasClass (IsLen p a) c
round_class marks (Sum t y z) c = itself_all HasClass (Sum t y z) c
round_class marks (Search p a) c = itself_all HasClass (Search p a) c
round_class marks (Neg p a) c = itself_all HasClass (Neg p a) c

round_kind : (own : Kind) (marks : List ℤ) (g : Fact) → is_of own g ≡ true → (f : Fact) → IsIn f (rounded_fact marks g) → is_of own f ≡ true
round_kind own marks (Rng p l h) c = both_all (λ f. is_of own f ≡ true) (Rng p) (λ m n. c) (mark_below marks l) (mark_above marks h)
round_kind own marks (LenRng p l h) c = both_all (λ f. is_of own f ≡ true) (LenRng p) (λ m n. c) (mark_below marks l) (mark_above marks h)
round_kind own marks (Less p q n) c = some_all (λ f. is_of own f ≡ true) (Less p q) (λ m. c) (mark_above marks n)
round_kind own marks (Upper p a o n) c = some_all (λ f. is_of own f ≡ true) (Upper p a o) (λ m. c) (mark_below marks n)
round_kind own marks (Low p n) c = itself_all (λ f. is_of own f ≡ true) (Low p n) c
round_kind own marks (Same a b) c = itself_all (λ f. is_of own f ≡ true) (Same a b) c
round_kind own marks (IsLen p a) c = itself_all (λ f. is_of own f ≡ true) (IsLen p a) c
round_kind own marks (Sum t y z) c = itself_all (λ f. is_of own f ≡ true) (Sum t y z) c
round_kind own marks (Search p a) c = itself_all (λ f. is_of own f ≡ true) (Search p a) c
round_kind own marks (Neg p a) c = itself_all (λ f. is_of own f ≡ true) (Neg p a) c

each_all : (P : Fact → Type 0) (rule : Fact → List Fact) (facts : List Fact) → ((g : Fact) → IsIn g facts → (f : Fact) → IsIn f (rule g) → P f) → (f : Fact) → IsIn f (each rule facts) → P f
each_all P rule [] all f i = absurd i
each_all P rule (g ∷ facts) all f i = ⊎_elim (λ j. all g (inl refl) f j) (λ j. each_all P rule facts (λ h k. all h (inr k)) f j) (in_either f (rule g) (each rule facts) i)

pub rounded_classes : (own : Kind) (marks : List ℤ) (facts : List Fact) → is_table_of own facts ≡ true → HaveClasses (system_rounded marks facts)
rounded_classes own marks facts form = each_all HasClass (rounded_fact marks) facts (λ g i. round_class marks g (table_classes own facts form g i))

pub rounded_own : (own : Kind) (marks : List ℤ) (facts : List Fact) → is_table_of own facts ≡ true → of_kind own (system_rounded marks facts) ≡ system_rounded marks facts
rounded_own own marks facts form = kind_all own (system_rounded marks facts) (each_all (λ f. is_of own f ≡ true) (rounded_fact marks) facts (λ g i. round_kind own marks g (table_each own facts form g i).0))

-- ---- the order of tables

pub covered_says : (own other : Kind) (first second : List Fact) → is_table_of own first ≡ true → is_table_of other second ≡ true → AllCovered first second ↔ SaysAll first second
covered_says own other first second mine theirs = (
  λ all. all_said first second (λ f i. let x = all f i in said_weaker first x.0 f x.2 (said_itself first x.0 x.1)),
  λ says f i. entry_covered own first mine f (table_each other second theirs f i).1 (says f (said_itself second f i)),
)

-- ---- what both say

pub shared_form : (own other : Kind) (first second all : List Fact) → is_table_of own first ≡ true → is_table_of other second ≡ true → HasShared first second all → rises all ≡ true → is_table_of own all ≡ true
shared_form own other first second all mine theirs has rise = table_from own all rise (λ f i.
    let x = has.from f i in
    let left = table_each own first mine x.mine x.in_first in
    let right = table_each other second theirs x.theirs x.in_second in
    let tells : is_default (common x.mine x.theirs) ≡ false = subst (λ g. is_default g ≡ false) x.is x.tells in
    subst (λ g. (is_of own g ≡ true) × (is_entry g ≡ true)) (sym x.is)
    (sym (key_kind own x.mine (common x.mine x.theirs) (common_key x.mine x.theirs x.key)) ∙ left.0, common_entry x.mine x.theirs x.key left.1 right.1 tells))

module _ (own other : Kind) (first second all : List Fact) (mine : is_table_of own first ≡ true) (theirs : is_table_of other second ≡ true) (has : HasShared first second all) where
  both_say : (f g h : Fact) → IsIn g first → Covers g (entry_of f) → IsIn h second → Covers h (entry_of f) → Said all f
  both_say f g h i c j d =
      let key = key_on g (entry_of f) h (covers_key g (entry_of f) c) (key_back h (entry_of f) (covers_key h (entry_of f) d)) in
      let covers_it = common_covers g h (entry_of f) key c d in
      by_test (is_default (common g h))
      (λ t. inl (is_a_default f (sym (entry_default f) ∙ default_is (entry_of f) (default_weaker (common g h) (entry_of f) covers_it (is_a_default (common g h) t)))))
      (λ t. entry_said all f (said_weaker all (common g h) (entry_of f) covers_it (said_itself all (common g h) (has.kept g h i j key t))))

  pub shared_common : IsCommon first second all
  shared_common = record {
    both = λ f x y.
        ⊎_elim
        (λ d. inl d)
        (λ g. ⊎_elim (λ d. inl d) (λ h. both_say f g.0 h.0 g.1 g.2 h.1 h.2) (by_entry other second theirs f y))
        (by_entry own first mine f x);
    left = λ f i. let x = has.from f i in said_weaker first x.mine f (subst (Covers x.mine) (sym x.is) (common_left x.mine x.theirs x.key)) (said_itself first x.mine x.in_first);
    right = λ f i. let x = has.from f i in said_weaker second x.theirs f (subst (Covers x.theirs) (sym x.is) (common_right x.mine x.theirs x.key)) (said_itself second x.theirs x.in_second);
    tells = λ f i. (has.from f i).tells;
  }
