-- What a rule gives of some facts and of others that stand behind them is what it gives of both.
use Rattle.std.specs.Prelude.{◌≡◌, List, [], ◌∷◌, ◌++◌, refl}
use Rattle.std.proofs.Common.{ap, sym, ◌∙◌}
use Rattle.std.proofs.lemmas.List.{append_assoc}
use Rattle.ix_core.specs.declared.fact.Fact.{Fact}
use Rattle.ix_facts.specs.Exact.{each}
use Rattle.ix_facts.specs.Systems.{HaveClasses}
use Rattle.ix_facts.proofs.FactLists.{in_right}
use Rattle.ix_fact_table.proofs.OverLabels.{three}

each_both : (rule : Fact → List Fact) (facts own : List Fact) → each rule facts ++ each rule own ≡ each rule (facts ++ own)
each_both rule [] own = refl
each_both rule (f ∷ facts) own = append_assoc (rule f) (each rule facts) (each rule own) ∙ ap (λ l. rule f ++ l) (each_both rule facts own)

-- own facts with what the rule gives of both, behind the facts
pub over_both : (rule : Fact → List Fact) (facts own whole n1 n2 n3 : List Fact) → facts ++ own ≡ whole → n1 ≡ own → n2 ≡ n1 ++ each rule facts → n3 ≡ n2 ++ each rule own → facts ++ n3 ≡ whole ++ each rule whole
over_both rule facts own whole n1 n2 n3 w a b c =
    let behind = three n1 n2 n3 own (each rule facts) (each rule own) a b c in
    ap (λ l. facts ++ l) (behind ∙ ap (λ l. own ++ l) (each_both rule facts own))
    ∙ (sym (append_assoc facts own (each rule (facts ++ own))) ∙ ap (λ l. l ++ each rule l) w)

-- the same with more behind them
pub over_both_and : (rule : Fact → List Fact) (facts own whole n1 n2 n3 n4 more : List Fact) → facts ++ own ≡ whole → n1 ≡ own → n2 ≡ n1 ++ each rule facts → n3 ≡ n2 ++ each rule own → n4 ≡ n3 ++ more
    → facts ++ n4 ≡ whole ++ (each rule whole ++ more)
over_both_and rule facts own whole n1 n2 n3 n4 more w a b c d =
    ap (λ l. facts ++ l) d
    ∙ (sym (append_assoc facts n3 more) ∙ (ap (λ l. l ++ more) (over_both rule facts own whole n1 n2 n3 w a b c) ∙ append_assoc whole (each rule whole) more))

pub classes_behind : (facts more : List Fact) → HaveClasses (facts ++ more) → HaveClasses more
classes_behind facts more have = λ f i. have f (in_right f facts more i)

-- two facts at once
pub both : {A B : Type 0} → A → B → A × B
both a b = (a, b)
