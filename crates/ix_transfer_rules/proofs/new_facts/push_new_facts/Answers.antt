use Rattle.std.proofs.Common.{◌≡◌, ◌++◌, OnOk, sym, subst}
use Rattle.ix_facts.specs.Closure.{kept}
use Rattle.ix_facts.specs.Facts.{in_orders}
use Rattle.ix_transfer_rules.specs.OverParts as over
use Rattle.ix_transfer_rules.proofs.new_facts.push_new_facts.Goals as goal

pub returns-in-Num : goal.returns-in-Num
returns-in-Num g c = record {
  facts = subst (λ k. OnOk c.push_num_of.result (c.push_num_of.new.out.items ≡ c.args.out.now.items ++ kept (over.new_facts (in_orders (g.K.Know.known c.args.know.now)) (g.K.Indexed.on_path c.args.know.now) (g.K.Know.array_paths c.args.know.now) c.args.profile k))) (sym c.in-Num.is) c.push_num_of.ensures;
}

pub returns-in-Length : goal.returns-in-Length
returns-in-Length g c = record {
  facts = subst (λ k. OnOk c.push_length_of.result (c.push_length_of.new.out.items ≡ c.args.out.now.items ++ kept (over.new_facts (in_orders (g.K.Know.known c.args.know.now)) (g.K.Indexed.on_path c.args.know.now) (g.K.Know.array_paths c.args.know.now) c.args.profile k))) (sym c.in-Length.is) c.push_length_of.ensures;
}

pub returns-in-NewArray : goal.returns-in-NewArray
returns-in-NewArray g c = record {
  facts = subst (λ k. OnOk c.push_new_array_of.result (c.push_new_array_of.new.out.items ≡ c.args.out.now.items ++ kept (over.new_facts (in_orders (g.K.Know.known c.args.know.now)) (g.K.Indexed.on_path c.args.know.now) (g.K.Know.array_paths c.args.know.now) c.args.profile k))) (sym c.in-NewArray.is) c.push_new_array_of.ensures;
}
