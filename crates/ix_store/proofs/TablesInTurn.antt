-- A table that gets facts and then more is that of all of them, and its ranges are the table of the ranges.
use Rattle.std.specs.Prelude.{◌≡◌, true, List, ◌++◌, refl}
use Rattle.std.proofs.Common.{inl, ap, sym, ◌∙◌, subst, ⊎_elim}
use Rattle.std.proofs.lemmas.Bool.{false≢true}
use Rattle.ix_core.specs.declared.fact.PathOff.TheVariants.{Nothing, Plus, Minus}
use Rattle.ix_core.specs.declared.fact.Fact.{Fact}
use Rattle.ix_core.specs.declared.fact.Fact.TheVariants.{Rng, LenRng, Low, Same, IsLen, Less, Sum, Search, Neg, Upper}
use Rattle.ix_facts.specs.declared.kind.Kind.{Kind}
use Rattle.ix_facts.specs.declared.kind.Kind.TheVariants as kind
use Rattle.ix_facts.specs.Closure.{Closed, Said, AllTell, IsClosedOf}
use Rattle.ix_facts.specs.Facts.{IsIn, orders}
use Rattle.ix_facts.specs.Kinds.{is_of, of_kind}
use Rattle.ix_facts.specs.Closure as closure
use Rattle.ix_facts.specs.Systems.{Merges, IsTable, given, weaker, any_int, any_size, met, len_met, turned, sum_turned, upper_turned}
use Rattle.ix_facts.proofs.ClosureLaws.{follows_from, said_follows}
use Rattle.ix_facts.proofs.FactLists.{in_left, in_right, in_either, from_in_orders}
use Rattle.ix_facts.proofs.SaidLaws.{said_itself, said_turned, said_weaker}
use Rattle.ix_facts.proofs.SystemLaws.{of_any, in_kind, kind_in, default_merges, in_orders_merges}
use Rattle.ix_fact_table.specs.MeetLaws.{covers_key, key_kind}
use Rattle.ix_fact_table.proofs.MergedTables.{merges_from}

-- ---- facts and then more

said_merged : (facts : List Fact) (f : Fact) → Said facts f → Merges facts f
said_merged facts f said = ⊎_elim (λ d. default_merges facts f d) (λ x. weaker x.0 f x.2 (in_orders_merges facts facts (λ g i. given g i) x.0 x.1)) said

module _ (known new more table whole : List Fact) (first : IsTable (known ++ new) table) (second : IsTable (table ++ more) whole) where
  -- what the facts before the last ones merge to, the first table says
  before_said : (f : Fact) → IsIn f (known ++ new) → Merges (table ++ more) f
  before_said f i = merges_from (table ++ more) table (λ g j. given g (in_left g table more j)) f (said_merged table f (first.says f (given f i)))

  all_merged : (f : Fact) → IsIn f (known ++ (new ++ more)) → Merges (table ++ more) f
  all_merged f i =
      ⊎_elim
      (λ j. before_said f (in_left f known new j))
      (λ j. ⊎_elim (λ k. before_said f (in_right f known new k)) (λ k. given f (in_right f table more k)) (in_either f new more j))
      (in_either f known (new ++ more) i)

  in_all : (f : Fact) → IsIn f (known ++ new) → IsIn f (known ++ (new ++ more))
  in_all f i = ⊎_elim (λ j. in_left f known (new ++ more) j) (λ j. in_right f known (new ++ more) (in_left f new more j)) (in_either f known new i)

  table_merged : (f : Fact) → IsIn f (table ++ more) → Merges (known ++ (new ++ more)) f
  table_merged f i =
      ⊎_elim
      (λ j. merges_from (known ++ (new ++ more)) (known ++ new) (λ g k. given g (in_all g k)) f (first.only f j))
      (λ j. given f (in_right f known (new ++ more) (in_right f new more j)))
      (in_either f table more i)

  pub table_in_turn : IsTable (known ++ (new ++ more)) whole
  table_in_turn = record {
    says = λ f m. second.says f (merges_from (table ++ more) (known ++ (new ++ more)) all_merged f m);
    only = λ f i. merges_from (known ++ (new ++ more)) (table ++ more) table_merged f (second.only f i);
    tells = second.tells;
  }

-- a table of facts of any kind
pub any_table : (own : Kind) (known new table : List Fact) → own ≡ kind.Any → IsTable (known ++ of_kind own new) table → IsTable (known ++ new) table
any_table own known new table is made = subst (λ l. IsTable (known ++ l) table) (ap (λ k. of_kind k new) is ∙ of_any new) made

pub table_any : (own : Kind) (known new table : List Fact) → own ≡ kind.Any → IsTable (known ++ new) table → IsTable (known ++ of_kind own new) table
table_any own known new table is made = subst (λ l. IsTable (known ++ l) table) (sym (ap (λ k. of_kind k new) is ∙ of_any new)) made

-- ---- facts that closed ones say already

pub said_closed : (known new : List Fact) → Closed known → AllTell known → ((f : Fact) → IsIn f new → Said known f) → IsClosedOf (known ++ new) known
said_closed known new closed tells said = record {
  says = λ f r. closed f (follows_from known (known ++ new) (λ g i. ⊎_elim (λ j. closure.given g j) (λ j. said_follows known g (said g j)) (in_either g known new i)) f r);
  only = λ f i. closure.given f (in_left f known new i);
  tells = tells;
}

-- ---- the ranges of a table

order_kind : (own : Kind) (f g : Fact) → IsIn g (orders f) → is_of own g ≡ is_of own f
order_kind own (Same a b) g i = ⊎_elim (λ e. ap (is_of own) e) (λ j. ⊎_elim (λ e. ap (is_of own) e) (λ x. absurd x) j) i
order_kind own (Sum t y z) g i = ⊎_elim (λ e. ap (is_of own) e) (λ j. ⊎_elim (λ e. ap (is_of own) e) (λ x. absurd x) j) i
order_kind own (Upper p a (Plus q) c) g i = ⊎_elim (λ e. ap (is_of own) e) (λ j. ⊎_elim (λ e. ap (is_of own) e) (λ x. absurd x) j) i
order_kind own (Upper p a Nothing c) g i = ⊎_elim (λ e. ap (is_of own) e) (λ x. absurd x) i
order_kind own (Upper p a (Minus q) c) g i = ⊎_elim (λ e. ap (is_of own) e) (λ x. absurd x) i
order_kind own (Rng p l h) g i = ⊎_elim (λ e. ap (is_of own) e) (λ x. absurd x) i
order_kind own (LenRng p l h) g i = ⊎_elim (λ e. ap (is_of own) e) (λ x. absurd x) i
order_kind own (Low p c) g i = ⊎_elim (λ e. ap (is_of own) e) (λ x. absurd x) i
order_kind own (IsLen p a) g i = ⊎_elim (λ e. ap (is_of own) e) (λ x. absurd x) i
order_kind own (Less p q c) g i = ⊎_elim (λ e. ap (is_of own) e) (λ x. absurd x) i
order_kind own (Search p a) g i = ⊎_elim (λ e. ap (is_of own) e) (λ x. absurd x) i
order_kind own (Neg p a) g i = ⊎_elim (λ e. ap (is_of own) e) (λ x. absurd x) i

-- what ranges merge to is a range
range_kind : (facts : List Fact) (f : Fact) → Merges (of_kind kind.Range facts) f → is_of kind.Range f ≡ true
range_kind facts _ (given f i) = (in_kind kind.Range f facts i).1
range_kind facts _ (weaker g f c r) = sym (key_kind kind.Range g f (covers_key g f c)) ∙ range_kind facts g r
range_kind facts _ (any_int p) = refl
range_kind facts _ (any_size a) = refl
range_kind facts _ (met p l h m k r s) = refl
range_kind facts _ (len_met a l h m k r s) = refl
range_kind facts _ (turned a b r) = range_kind facts (Same a b) r
range_kind facts _ (sum_turned t y z r) = range_kind facts (Sum t y z) r
range_kind facts _ (upper_turned p a q c r) = range_kind facts (Upper p a (Plus q) c) r

-- and a range that facts merge to, their ranges do
range_merges : (facts : List Fact) (f : Fact) → Merges facts f → is_of kind.Range f ≡ true → Merges (of_kind kind.Range facts) f
range_merges facts _ (given f i) t = given f (kind_in kind.Range f facts i t)
range_merges facts _ (weaker g f c r) t = weaker g f c (range_merges facts g r (key_kind kind.Range g f (covers_key g f c) ∙ t))
range_merges facts _ (any_int p) t = any_int p
range_merges facts _ (any_size a) t = any_size a
range_merges facts _ (met p l h m k r s) t = met p l h m k (range_merges facts _ r refl) (range_merges facts _ s refl)
range_merges facts _ (len_met a l h m k r s) t = len_met a l h m k (range_merges facts _ r refl) (range_merges facts _ s refl)
range_merges facts _ (turned a b r) t = absurd (false≢true t)
range_merges facts _ (sum_turned u y z r) t = absurd (false≢true t)
range_merges facts _ (upper_turned p a q c r) t = absurd (false≢true t)

range_said : (table : List Fact) (f : Fact) → Said table f → is_of kind.Range f ≡ true → Said (of_kind kind.Range table) f
range_said table f said t =
    ⊎_elim
    (λ d. inl d)
    (λ x.
    let y = from_in_orders x.0 table x.1 in
    let own = sym (order_kind kind.Range y.0 x.0 y.2) ∙ (key_kind kind.Range x.0 f (covers_key x.0 f x.2) ∙ t) in
    said_weaker (of_kind kind.Range table) x.0 f x.2 (said_turned (of_kind kind.Range table) y.0 x.0 y.2 (said_itself (of_kind kind.Range table) y.0 (kind_in kind.Range y.0 table y.1 own))))
    said

pub ranges_table : (facts table : List Fact) → IsTable facts table → IsTable (of_kind kind.Range facts) (of_kind kind.Range table)
ranges_table facts table is = record {
  says = λ f m. range_said table f (is.says f (merges_from facts (of_kind kind.Range facts) (λ g i. given g (in_kind kind.Range g facts i).0) f m)) (range_kind facts f m);
  only = λ f i. let x = in_kind kind.Range f table i in range_merges facts f (is.only f x.0) x.1;
  tells = λ f i. is.tells f (in_kind kind.Range f table i).0;
}
