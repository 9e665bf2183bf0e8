-- A list that says at each key what two tables say together is the table of the facts of both.
use Rattle.std.specs.Prelude.{◌≡◌, ◌⊎◌, ℕ, zero, suc, take, drop, true, false, List, [], ◌∷◌, ◌++◌, refl}
use Rattle.std.proofs.Common.{inl, inr, ap, sym, ◌∙◌, subst, ⊎_elim}
use Rattle.std.proofs.lemmas.Bool.{false≢true}
use Rattle.ix_core.specs.declared.fact.PathOff.TheVariants.{Plus}
use Rattle.ix_core.specs.declared.fact.Fact.{Fact}
use Rattle.ix_core.specs.declared.fact.Fact.TheVariants.{Rng, LenRng, Same, Sum, Upper}
use Rattle.ix_facts.specs.declared.kind.Kind.{Kind}
use Rattle.ix_facts.specs.Facts.{IsIn, Covers, is_default}
use Rattle.ix_facts.specs.Closure.{Said, SaysAll}
use Rattle.ix_facts.specs.Kinds.{is_of, of_kind}
use Rattle.ix_facts.specs.Systems.{Merges, given, weaker, any_int, any_size, met, len_met, turned, sum_turned, upper_turned, IsTable, HasClass, HaveClasses}
use Rattle.ix_facts.proofs.FactLists.{in_left, in_right, in_either}
use Rattle.ix_facts.proofs.SaidLaws.{said_itself, said_weaker, is_a_default}
use Rattle.ix_facts.proofs.SystemLaws.{in_kind}
use Rattle.ix_core.proofs.Cases.{by_test}
use Rattle.ix_fact_table.specs.Meets as meets
use Rattle.ix_fact_table.specs.Entries.{entry_of, is_entry, HasInt}
use Rattle.ix_fact_table.specs.Rising.{rises, is_table_of}
use Rattle.ix_fact_table.specs.MeetLaws.{met_key, met_merges, met_entry, key_kind}
use Rattle.ix_fact_table.specs.EntryLaws.{entry_is, entry_kind, entry_merges, entry_said}
use Rattle.ix_fact_table.specs.RisingLaws.{table_each, table_from}
use Rattle.ix_fact_table.specs.TableLaws.{table_is, all_said, one_entry}
use Rattle.ix_fact_table.specs.Walks.{FromBoth, left, right, both, HasBoth}

-- ---- what facts say together, where each is said by others

pub merges_from : (facts others : List Fact) → ((f : Fact) → IsIn f others → Merges facts f) → (f : Fact) → Merges others f → Merges facts f
merges_from facts others k _ (given f i) = k f i
merges_from facts others k _ (weaker g f c r) = weaker g f c (merges_from facts others k g r)
merges_from facts others k _ (any_int p) = any_int p
merges_from facts others k _ (any_size a) = any_size a
merges_from facts others k _ (met p l h m n r t) = met p l h m n (merges_from facts others k (Rng p l h) r) (merges_from facts others k (Rng p m n) t)
merges_from facts others k _ (len_met a l h m n r t) = len_met a l h m n (merges_from facts others k (LenRng a l h) r) (merges_from facts others k (LenRng a m n) t)
merges_from facts others k _ (turned a b r) = turned a b (merges_from facts others k (Same a b) r)
merges_from facts others k _ (sum_turned t y z r) = sum_turned t y z (merges_from facts others k (Sum t y z) r)
merges_from facts others k _ (upper_turned p a q c r) = upper_turned p a q c (merges_from facts others k (Upper p a (Plus q) c) r)

-- a list with the same members has the same table
pub same_table : (a b table : List Fact) → ((f : Fact) → IsIn f a → IsIn f b) → ((f : Fact) → IsIn f b → IsIn f a) → IsTable a table → IsTable b table
same_table a b table more back is = record {
  says = λ f m. is.says f (merges_from a b (λ g i. given g (back g i)) f m);
  only = λ f i. merges_from b a (λ g j. given g (more g j)) f (is.only f i);
  tells = is.tells;
}

-- the facts of a kind of two lists
pub kind_app : (own : Kind) (a b : List Fact) → of_kind own (a ++ b) ≡ of_kind own a ++ of_kind own b
kind_app own [] b = refl
kind_app own (f ∷ a) b = by_test (is_of own f) (λ t. rw t (ap (λ l. f ∷ l) (kind_app own a b))) (λ t. rw t (kind_app own a b))

pub kind_all : (own : Kind) (facts : List Fact) → ((f : Fact) → IsIn f facts → is_of own f ≡ true) → of_kind own facts ≡ facts
kind_all own [] all = refl
kind_all own (f ∷ facts) all = rw (all f (inl refl)) (ap (λ l. f ∷ l) (kind_all own facts (λ g i. all g (inr i))))

-- ---- a table is the table of its facts

pub self_table : (own : Kind) (table : List Fact) → is_table_of own table ≡ true → IsTable table table
self_table own table form = table_is own table form table (λ f i. said_itself table f i) (λ f i. given f i)

-- ---- the table of one fact

pub one_form : (own : Kind) (f : Fact) → is_of own f ≡ true → is_default f ≡ false → HasClass f → HasInt f → is_table_of own (entry_of f ∷ []) ≡ true
one_form own f kind tells class int = one_entry own (entry_of f) (entry_kind own f ∙ kind) (entry_is f tells class int)

pub one_table : (own : Kind) (f : Fact) → is_of own f ≡ true → is_default f ≡ false → HasClass f → HasInt f → IsTable (of_kind own (f ∷ [])) (entry_of f ∷ [])
one_table own f kind tells class int =
    rw kind (table_is own (entry_of f ∷ []) (one_form own f kind tells class int) (f ∷ [])
    (λ g i. ⊎_elim (λ e. subst (Said (entry_of f ∷ [])) (sym e) (entry_said (entry_of f ∷ []) f (said_itself (entry_of f ∷ []) (entry_of f) (inl refl)))) (λ x. absurd x) i)
    (λ g i. ⊎_elim (λ e. subst (Merges (f ∷ [])) (sym e) (entry_merges (f ∷ []) f (given f (inl refl)))) (λ x. absurd x) i))

-- the table of no fact, or of one that is said of every path
pub no_table : (own : Kind) (f : Fact) → (is_of own f ≡ false) ⊎ (is_default f ≡ true) → IsTable (of_kind own (f ∷ [])) []
no_table own f none =
    table_is own [] refl (of_kind own (f ∷ []))
    (λ g i.
    let x = in_kind own g (f ∷ []) i in
    ⊎_elim
    (λ e. ⊎_elim (λ n. absurd (false≢true (sym n ∙ (sym (ap (is_of own) e) ∙ x.1)))) (λ d. inl (is_a_default g (ap is_default e ∙ d))) none)
    (λ y. absurd y)
    x.0)
    (λ g i. absurd i)

-- ---- two tables in one

merged_from : (a b : List Fact) (t u : List Fact) → ((f : Fact) → IsIn f t → Merges a f) → ((f : Fact) → IsIn f u → Merges b f) → (f : Fact) → FromBoth t u f → Merges (a ++ b) f
merged_from a b t u first second f (left i) = merges_from (a ++ b) a (λ g j. given g (in_left g a b j)) f (first f i)
merged_from a b t u first second f (right i) = merges_from (a ++ b) b (λ g j. given g (in_right g a b j)) f (second f i)
merged_from a b t u first second f (both g h i j key e) =
    subst (Merges (a ++ b)) (sym e) (met_merges (a ++ b) g h key
    (merges_from (a ++ b) a (λ x k. given x (in_left x a b k)) g (first g i))
    (merges_from (a ++ b) b (λ x k. given x (in_right x a b k)) h (second h j)))

formed_from : (own : Kind) (t u : List Fact) → is_table_of own t ≡ true → is_table_of own u ≡ true → (f : Fact) → FromBoth t u f → (is_of own f ≡ true) × (is_entry f ≡ true)
formed_from own t u first second f (left i) = table_each own t first f i
formed_from own t u first second f (right i) = table_each own u second f i
formed_from own t u first second f (both g h i j key e) =
    let mine = table_each own t first g i in
    let theirs = table_each own u second h j in
    subst (λ x. (is_of own x ≡ true) × (is_entry x ≡ true)) (sym e) (key_kind own (meets.met g h) g (met_key g h key) ∙ mine.0, met_entry g h key mine.1 theirs.1)

pub merged_form : (own : Kind) (t u all : List Fact) → is_table_of own t ≡ true → is_table_of own u ≡ true → HasBoth t u all → rises all ≡ true → is_table_of own all ≡ true
merged_form own t u all first second has rise = table_from own all rise (λ f i. formed_from own t u first second f (has.from f i))

-- what one of the two tables says, the whole says
says_part : (part all : List Fact) → ((f : Fact) → IsIn f part → (g : Fact) × IsIn g all × Covers g f) → SaysAll all part
says_part part all covered = all_said all part (λ f i. let x = covered f i in said_weaker all x.0 f x.2 (said_itself all x.0 x.1))

pub merged_table : (own : Kind) (a b t u all : List Fact) → is_table_of own all ≡ true → IsTable a t → IsTable b u → HasBoth t u all → IsTable (a ++ b) all
merged_table own a b t u all form first second has =
    table_is own all form (a ++ b)
    (λ f i. ⊎_elim
    (λ j. says_part t all has.first_covered f (first.says f (given f j)))
    (λ j. says_part u all has.second_covered f (second.says f (given f j)))
    (in_either f a b i))
    (λ f i. merged_from a b t u first.only second.only f (has.from f i))

-- ---- the halves of a list

in_take : (n : ℕ) (facts : List Fact) (f : Fact) → IsIn f (take n facts) → IsIn f facts
in_take zero facts f i = absurd i
in_take (suc n) [] f i = absurd i
in_take (suc n) (g ∷ facts) f i = ⊎_elim (λ e. inl e) (λ j. inr (in_take n facts f j)) i

pub in_drop : (n : ℕ) (facts : List Fact) (f : Fact) → IsIn f (drop n facts) → IsIn f facts
in_drop zero facts f i = i
in_drop (suc n) [] f i = absurd i
in_drop (suc n) (g ∷ facts) f i = inr (in_drop n facts f i)

pub front_classes : (n : ℕ) (facts front : List Fact) → front ≡ take n facts → HaveClasses facts → HaveClasses front
front_classes n facts front is all f i = all f (in_take n facts f (subst (IsIn f) is i))

pub back_classes : (n : ℕ) (facts back : List Fact) → back ≡ drop n facts → HaveClasses facts → HaveClasses back
back_classes n facts back is all f i = all f (in_drop n facts f (subst (IsIn f) is i))

-- the tables of the halves, merged, are the table of the whole
pub halves_form : (own : Kind) (t u : List Fact) → is_table_of own t ≡ true → is_table_of own u ≡ true → (all : List Fact) → HasBoth t u all → rises all ≡ true → is_table_of own all ≡ true
halves_form own t u first second all has rise = merged_form own t u all first second has rise

pub halves_table : (own : Kind) (whole a b t u : List Fact) → whole ≡ a ++ b → is_table_of own t ≡ true → is_table_of own u ≡ true → IsTable (of_kind own a) t → IsTable (of_kind own b) u
    → (all : List Fact) → HasBoth t u all → rises all ≡ true → IsTable (of_kind own whole) all
halves_table own whole a b t u is first second one other all has rise =
    rw (is, kind_app own a b) (merged_table own (of_kind own a) (of_kind own b) t u all (merged_form own t u all first second has rise) one other has)
