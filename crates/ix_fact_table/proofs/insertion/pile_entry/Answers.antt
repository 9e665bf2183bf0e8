use Rattle.std.proofs.Common.{◌≡◌, false, refl, sym, subst, ◌∙◌, inl}
use Rattle.std.proofs.lemmas.Result.{on_ok_weaker}
use Rattle.ix_facts.specs.Facts.{is_default}
use Rattle.ix_fact_table.specs.Entries.{entry_of}
use Rattle.ix_fact_table.specs.Piles.{IsPiled}
use Rattle.ix_fact_table.proofs.PiledFacts.{piles_stay, piles_grow}
use Rattle.ix_fact_table.proofs.insertion.pile_entry.Goals as goal

pub returns-then-not-is_of_kind : goal.returns-then-not-is_of_kind
returns-then-not-is_of_kind c = record { piles = λ facts now. piles_stay c.args.kind c.args.fact.now facts c.args.first.now.items c.args.second.now.items (inl (sym c.is_of_kind.ensures ∙ c.if-not-is_of_kind.true)) now }

pub returns-in-Less : goal.returns-in-Less
returns-in-Less c =
    let fact = c.args.fact.now in
    let first = c.args.first.now.items in
    let second = c.args.second.now.items in
    let kind = sym c.is_of_kind.ensures ∙ c.if-not-is_of_kind.false in
    let tells : is_default fact ≡ false = subst (λ f. is_default f ≡ false) (sym c.in-Less.is) refl in
    let entry : fact ≡ entry_of fact = subst (λ f. f ≡ entry_of f) (sym c.in-Less.is) refl in
    record {
      piles = on_ok_weaker c.pile.result
          (λ is facts now. piles_grow c.args.kind fact kind tells c.requires.class c.int_of-number.ensures.int first second c.pile.new.first.items c.pile.new.second.items
          (subst (λ f. IsPiled first second f c.pile.new.first.items c.pile.new.second.items) entry is) facts now)
          c.pile.ensures.piled;
    }
