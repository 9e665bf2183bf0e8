-- Facts that rise by key.
use Rattle.std.specs.Prelude.{◌≡◌, true, ◌&&◌, List, [], ◌∷◌, ◌++◌, refl}
use Rattle.std.specs.declared.cmp.Ordering.{Ordering}
use Rattle.std.specs.declared.cmp.Ordering.TheVariants.{Less as Before, Equal, Greater}
use Rattle.std.specs.Ordering.{is_lt}
use Rattle.std.proofs.Common.{inl, inr, ap, sym, ◌∙◌, subst, ⊎_elim}
use Rattle.std.proofs.lemmas.Bool.{false≢true, and_parts, and_from}
use Rattle.ix_core.specs.declared.fact.Fact.{Fact}
use Rattle.ix_facts.specs.declared.kind.Kind.{Kind}
use Rattle.ix_facts.specs.Facts.{IsIn}
use Rattle.ix_facts.specs.Kinds.{is_of}
use Rattle.ix_facts.proofs.FactLists.{in_left, in_right, in_either}
use Rattle.ix_fact_table.specs.FactOrder.{AtKey, fact_cmp, fact_total, key_equal, key_back, alike}
use Rattle.ix_fact_table.specs.Entries.{is_entry}
use Rattle.ix_fact_table.specs.Rising.{is_below, rises, are_entries, is_table_of}

pub is_less : (o : Ordering) → is_lt o ≡ true → o ≡ Before
is_less Before h = refl
is_less Equal h = absurd (false≢true h)
is_less Greater h = absurd (false≢true h)

-- the key that is less than all is less than each
pub below_each : (f : Fact) (facts : List Fact) → is_below f facts ≡ true → (g : Fact) → IsIn g facts → fact_cmp f g ≡ Before
below_each f [] h g i = absurd i
below_each f (x ∷ facts) h g i =
    let both = and_parts (is_lt (fact_cmp f x)) (is_below f facts) h in
    ⊎_elim (λ e. ap (fact_cmp f) e ∙ is_less (fact_cmp f x) both.0) (λ j. below_each f facts both.1 g j) i

pub below_from : (f : Fact) (facts : List Fact) → ((g : Fact) → IsIn g facts → fact_cmp f g ≡ Before) → is_below f facts ≡ true
below_from f [] all = refl
below_from f (x ∷ facts) all = and_from (is_lt (fact_cmp f x)) (is_below f facts) (ap is_lt (all x (inl refl))) (below_from f facts (λ g i. all g (inr i)))

pub not_before : (f g : Fact) → fact_cmp f g ≡ Before → AtKey f g → ⊥
not_before f g less key = let no : Before ≡ Equal = sym less ∙ key_equal f g key in cc

-- each key stands once
pub one_at_key : (facts : List Fact) → rises facts ≡ true → (f g : Fact) → IsIn f facts → IsIn g facts → AtKey f g → f ≡ g
one_at_key [] r f g i j key = absurd i
one_at_key (x ∷ facts) r f g i j key =
    let both = and_parts (is_below x facts) (rises facts) r in
    ⊎_elim
    (λ e. ⊎_elim (λ d. e ∙ sym d) (λ k. absurd (not_before x g (below_each x facts both.0 g k) (subst (λ y. AtKey y g) e key))) j)
    (λ m. ⊎_elim
    (λ d. absurd (not_before x f (below_each x facts both.0 f m) (subst (λ y. AtKey y f) d (key_back f g key))))
    (λ k. one_at_key facts both.1 f g m k key)
    j)
    i

-- ---- the parts of a list that rises

pub rises_parts : (f : Fact) (facts : List Fact) → rises (f ∷ facts) ≡ true → (is_below f facts ≡ true) × (rises facts ≡ true)
rises_parts f facts r = and_parts (is_below f facts) (rises facts) r

pub rises_from : (f : Fact) (facts : List Fact) → is_below f facts ≡ true → rises facts ≡ true → rises (f ∷ facts) ≡ true
rises_from f facts b r = and_from (is_below f facts) (rises facts) b r

-- some of the facts are above where all are
pub below_some : (f : Fact) (facts others : List Fact) → ((g : Fact) → IsIn g others → IsIn g facts) → is_below f facts ≡ true → is_below f others ≡ true
below_some f facts others some b = below_from f others (λ g i. below_each f facts b g (some g i))

-- a key that is less than one that is less than all is less than all
pub below_on : (f g : Fact) (facts : List Fact) → fact_cmp f g ≡ Before → is_below g facts ≡ true → is_below f (g ∷ facts) ≡ true
below_on f g facts less b = below_from f (g ∷ facts) (λ x i. ⊎_elim (λ e. subst (λ y. fact_cmp f y ≡ Before) (sym e) less) (λ j. fact_total.trans f g x less (below_each g facts b x j)) i)

-- another fact at the key is below the same
pub below_at_key : (f g : Fact) (facts : List Fact) → AtKey f g → is_below f facts ≡ true → is_below g facts ≡ true
below_at_key f g facts key b = below_from g facts (λ x i. sym (alike f g x key) ∙ below_each f facts b x i)

-- ---- entries of a kind

pub entries_each : (own : Kind) (facts : List Fact) → are_entries own facts ≡ true → (f : Fact) → IsIn f facts → (is_of own f ≡ true) × (is_entry f ≡ true)
entries_each own [] h f i = absurd i
entries_each own (x ∷ facts) h f i =
    let both = and_parts (is_of own x && is_entry x) (are_entries own facts) h in
    ⊎_elim (λ e. subst (λ y. (is_of own y ≡ true) × (is_entry y ≡ true)) (sym e) (and_parts (is_of own x) (is_entry x) both.0)) (λ j. entries_each own facts both.1 f j) i

pub entries_from : (own : Kind) (facts : List Fact) → ((f : Fact) → IsIn f facts → (is_of own f ≡ true) × (is_entry f ≡ true)) → are_entries own facts ≡ true
entries_from own [] all = refl
entries_from own (x ∷ facts) all =
    let here = all x (inl refl) in
    and_from (is_of own x && is_entry x) (are_entries own facts) (and_from (is_of own x) (is_entry x) here.0 here.1) (entries_from own facts (λ f i. all f (inr i)))

pub table_rises : (own : Kind) (facts : List Fact) → is_table_of own facts ≡ true → rises facts ≡ true
table_rises own facts h = (and_parts (rises facts) (are_entries own facts) h).0

pub table_each : (own : Kind) (facts : List Fact) → is_table_of own facts ≡ true → (f : Fact) → IsIn f facts → (is_of own f ≡ true) × (is_entry f ≡ true)
table_each own facts h f i = entries_each own facts (and_parts (rises facts) (are_entries own facts) h).1 f i

pub table_from : (own : Kind) (facts : List Fact) → rises facts ≡ true → ((f : Fact) → IsIn f facts → (is_of own f ≡ true) × (is_entry f ≡ true)) → is_table_of own facts ≡ true
table_from own facts r all = and_from (rises facts) (are_entries own facts) r (entries_from own facts all)

-- ---- two lists one after the other

app_left : (f : Fact) (a b : List Fact) → is_below f (a ++ b) ≡ true → is_below f a ≡ true
app_left f a b h = below_some f (a ++ b) a (λ g i. in_left g a b i) h

-- the front of facts that rise
pub rises_front : (a b : List Fact) → rises (a ++ b) ≡ true → rises a ≡ true
rises_front [] b r = refl
rises_front (f ∷ a) b r = let both = rises_parts f (a ++ b) r in rises_from f a (app_left f a b both.0) (rises_front a b both.1)

-- an end of facts that rise, and with fewer or other facts that are above the same
pub rises_end : (a b : List Fact) → rises (a ++ b) ≡ true → rises b ≡ true
rises_end [] b r = r
rises_end (f ∷ a) b r = rises_end a b (rises_parts f (a ++ b) r).1

pub rises_other : (a b other : List Fact) → rises other ≡ true → ((f : Fact) → is_below f b ≡ true → is_below f other ≡ true) → rises (a ++ b) ≡ true → rises (a ++ other) ≡ true
rises_other [] b other r more rise = r
rises_other (f ∷ a) b other r more rise =
    let both = rises_parts f (a ++ b) rise in
    let here : is_below f (a ++ other) ≡ true =
    below_from f (a ++ other) (λ g i. ⊎_elim
    (λ j. below_each f (a ++ b) both.0 g (in_left g a b j))
    (λ j. below_each f other (more f (below_some f (a ++ b) b (λ x k. in_right x a b k) both.0)) g j)
    (in_either g a other i)) in
    rises_from f (a ++ other) here (rises_other a b other r more both.1)
