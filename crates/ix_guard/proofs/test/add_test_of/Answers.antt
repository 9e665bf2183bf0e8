use Rattle.std.proofs.Common.{ℕ, List, ◌++◌, sym, ap, ◌∙◌, ◌≡◌, append_assoc, string_bytes}
use Rattle.std.specs.Prelude.{codes}
use Rattle.std.proofs.lemmas.Result.{on_ok_weaker}
use Rattle.ix_guard.proofs.test.add_test_of.Goals as goal

regrouped : (a b c d e f g h i : List ℕ) → (((((((a ++ b) ++ c) ++ d) ++ e) ++ f) ++ g) ++ h) ++ i ≡ a ++ (b ++ (c ++ (d ++ (e ++ (f ++ (g ++ (h ++ i)))))))
regrouped a b c d e f g h i =
    append_assoc (((((((a ++ b) ++ c) ++ d) ++ e) ++ f) ++ g)) h i ∙ append_assoc ((((((a ++ b) ++ c) ++ d) ++ e) ++ f)) g (h ++ i) ∙ append_assoc (((((a ++ b) ++ c) ++ d) ++ e)) f (g ++ (h ++ i))
    ∙ append_assoc ((((a ++ b) ++ c) ++ d)) e (f ++ (g ++ (h ++ i))) ∙ append_assoc (((a ++ b) ++ c)) d (e ++ (f ++ (g ++ (h ++ i)))) ∙ append_assoc ((a ++ b)) c (d ++ (e ++ (f ++ (g ++ (h ++ i)))))
    ∙ append_assoc a b (c ++ (d ++ (e ++ (f ++ (g ++ (h ++ i))))))

pub returns : goal.returns
returns c =
    let array : List ℕ = c.args.array.now in
    let index : List ℕ = c.args.index.now in
    on_ok_weaker c.write.result (λ is. is ∙ ap (λ t. string_bytes c.args.text.now ++ t)
    (sym (regrouped (codes "if (") array (codes " == null || ") index (codes " < 0 || ") index (codes " >= ") array (codes ".length) throw new IndexOutOfBoundsException(\"guard\"); ")))) c.write.ensures.bytes
