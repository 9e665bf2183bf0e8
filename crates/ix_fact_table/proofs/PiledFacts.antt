-- Two piles stay the table of all facts that were put into them, and both in one are that table.
use Rattle.std.specs.Prelude.{◌≡◌, ◌⊎◌, true, false, List, [], ◌∷◌, ◌++◌, refl}
use Rattle.std.proofs.Common.{inl, inr, sym, subst, ⊎_elim}
use Rattle.ix_core.specs.declared.fact.Fact.{Fact}
use Rattle.ix_facts.specs.declared.kind.Kind.{Kind}
use Rattle.ix_facts.specs.Facts.{IsIn, is_default}
use Rattle.ix_facts.specs.Kinds.{is_of, of_kind}
use Rattle.ix_facts.specs.Systems.{HasClass, IsTable}
use Rattle.ix_facts.proofs.FactLists.{in_left, in_right, in_either}
use Rattle.ix_facts.proofs.SystemLaws.{in_kind, kind_in}
use Rattle.ix_fact_table.specs.Entries.{HasInt, entry_of}
use Rattle.ix_fact_table.specs.Rising.{rises, is_table_of}
use Rattle.ix_fact_table.specs.RisingLaws.{table_rises}
use Rattle.ix_fact_table.specs.Walks.{HasBoth}
use Rattle.ix_fact_table.specs.Piles.{IsPiled, ArePiles}
use Rattle.ix_fact_table.proofs.MergedTables.{same_table, halves_form, halves_table}
use Rattle.ix_fact_table.proofs.PutFacts.{none_put, put_form, put_table}
use Rattle.ix_fact_table.proofs.RisingSteps.{kept_table}
use Rattle.ix_fact_table.proofs.WalksAlongBoth.{has_first_alone}

pub no_piles : (own : Kind) → ArePiles own [] [] []
no_piles own = record {
  mine = [];
  theirs = [];
  first_form = refl;
  second_form = refl;
  first_table = kept_table own [] refl;
  second_table = kept_table own [] refl;
  mine_in = λ f i. i;
  theirs_in = λ f i. i;
  each = λ f i. absurd i;
}

module _ (f : Fact) (facts part : List Fact) where
  kept_in : ((g : Fact) → IsIn g part → IsIn g facts) → (g : Fact) → IsIn g part → IsIn g (facts ++ f ∷ [])
  kept_in all g i = in_left g facts (f ∷ []) (all g i)

  more_in : ((g : Fact) → IsIn g part → IsIn g facts) → (g : Fact) → IsIn g (part ++ f ∷ []) → IsIn g (facts ++ f ∷ [])
  more_in all g i = ⊎_elim (λ j. in_left g facts (f ∷ []) (all g j)) (λ j. in_right g facts (f ∷ []) j) (in_either g part (f ∷ []) i)

module _ (own : Kind) (f : Fact) (facts first second : List Fact) where
  -- the fact is one more of the first part, or of the second
  first_grown : ArePiles own facts first second → (more : List Fact) → is_table_of own more ≡ true → ((part : List Fact) → IsTable (of_kind own part) first → IsTable (of_kind own (part ++ f ∷ [])) more) → ArePiles own (facts ++ f ∷ []) more second
  first_grown now more form table = record {
    mine = now.mine ++ f ∷ [];
    theirs = now.theirs;
    first_form = form;
    second_form = now.second_form;
    first_table = table now.mine now.first_table;
    second_table = now.second_table;
    mine_in = more_in f facts now.mine now.mine_in;
    theirs_in = kept_in f facts now.theirs now.theirs_in;
    each = λ g i. ⊎_elim
        (λ j. ⊎_elim (λ m. inl (in_left g now.mine (f ∷ []) m)) (λ t. inr t) (now.each g j))
        (λ j. inl (in_right g now.mine (f ∷ []) j))
        (in_either g facts (f ∷ []) i);
  }

  second_grown : ArePiles own facts first second → (others : List Fact) → is_table_of own others ≡ true → ((part : List Fact) → IsTable (of_kind own part) second → IsTable (of_kind own (part ++ f ∷ [])) others) → ArePiles own (facts ++ f ∷ []) first others
  second_grown now others form table = record {
    mine = now.mine;
    theirs = now.theirs ++ f ∷ [];
    first_form = now.first_form;
    second_form = form;
    first_table = now.first_table;
    second_table = table now.theirs now.second_table;
    mine_in = kept_in f facts now.mine now.mine_in;
    theirs_in = more_in f facts now.theirs now.theirs_in;
    each = λ g i. ⊎_elim
        (λ j. ⊎_elim (λ m. inl m) (λ t. inr (in_left g now.theirs (f ∷ []) t)) (now.each g j))
        (λ j. inr (in_right g now.theirs (f ∷ []) j))
        (in_either g facts (f ∷ []) i);
  }

pub piles_stay : (own : Kind) (f : Fact) (facts first second : List Fact) → (is_of own f ≡ false) ⊎ (is_default f ≡ true) → ArePiles own facts first second → ArePiles own (facts ++ f ∷ []) first second
piles_stay own f facts first second none now =
    first_grown own f facts first second now first now.first_form (λ part is. none_put own f first now.first_form none part is)

module _ (own : Kind) (f : Fact) (kind : is_of own f ≡ true) (tells : is_default f ≡ false) (class : HasClass f) (int : HasInt f) (first second more others : List Fact) where
  pub piles_grow : IsPiled first second (entry_of f) more others → (facts : List Fact) → ArePiles own facts first second → ArePiles own (facts ++ f ∷ []) more others
  piles_grow is facts now =
      ⊎_elim
      (λ x. subst (ArePiles own (facts ++ f ∷ []) more) (sym x.1)
      (first_grown own f facts first second now more
      (put_form own f first now.first_form kind tells class int more x.0.both x.0.rise)
      (put_table own f first now.first_form kind tells class int more x.0.both x.0.rise)))
      (λ x. subst (λ l. ArePiles own (facts ++ f ∷ []) l others) (sym x.1)
      (second_grown own f facts first second now others
      (put_form own f second now.second_form kind tells class int others x.0.both x.0.rise)
      (put_table own f second now.second_form kind tells class int others x.0.both x.0.rise)))
      is

-- both in one
module _ (own : Kind) (facts first second : List Fact) (now : ArePiles own facts first second) where
  pub piles_form : (all : List Fact) → HasBoth first second all → rises all ≡ true → is_table_of own all ≡ true
  piles_form all has rise = halves_form own first second now.first_form now.second_form all has rise

  pub piles_table : (all : List Fact) → HasBoth first second all → rises all ≡ true → IsTable (of_kind own facts) all
  piles_table all has rise =
      same_table (of_kind own (now.mine ++ now.theirs)) (of_kind own facts) all
      (λ f i.
      let x = in_kind own f (now.mine ++ now.theirs) i in
      kind_in own f facts (⊎_elim (λ j. now.mine_in f j) (λ j. now.theirs_in f j) (in_either f now.mine now.theirs x.0)) x.1)
      (λ f i.
      let x = in_kind own f facts i in
      kind_in own f (now.mine ++ now.theirs) (⊎_elim (λ j. in_left f now.mine now.theirs j) (λ j. in_right f now.mine now.theirs j) (now.each f x.0)) x.1)
      (halves_table own (now.mine ++ now.theirs) now.mine now.theirs first second refl now.first_form now.second_form now.first_table now.second_table all has rise)

  pub first_alone : second ≡ [] → IsTable (of_kind own facts) first
  first_alone none = piles_table first (subst (λ l. HasBoth first l first) (sym none) (has_first_alone first)) (table_rises own first now.first_form)
