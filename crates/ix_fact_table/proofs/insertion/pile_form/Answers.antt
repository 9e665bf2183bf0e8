use Rattle.std.proofs.Common.{sym, ◌∙◌, inr}
use Rattle.std.proofs.lemmas.Result.{on_ok_weaker}
use Rattle.ix_fact_table.proofs.PiledFacts.{piles_stay, piles_grow}
use Rattle.ix_fact_table.proofs.insertion.pile_form.Goals as goal

pub returns-then-is_said_of_all : goal.returns-then-is_said_of_all
returns-then-is_said_of_all c = record { piles = λ facts now. piles_stay c.args.kind c.args.fact.now facts c.args.first.now.items c.args.second.now.items (inr (sym c.is_said_of_all.ensures ∙ c.if-is_said_of_all.true)) now }

pub returns : goal.returns
returns c =
    let tells = sym c.is_said_of_all.ensures ∙ c.if-is_said_of_all.false in
    let piled = rw c.entry_of.ensures at c.pile.ensures.piled in
    record {
      piles = on_ok_weaker c.pile.result
          (λ is facts now. piles_grow c.args.kind c.args.fact.now c.requires.kind tells c.requires.class c.int_of-number.ensures.int c.args.first.now.items c.args.second.now.items c.pile.new.first.items c.pile.new.second.items is facts now)
          piled;
    }
