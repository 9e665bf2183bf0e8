-- Six lists, one put behind the other.
use Rattle.std.specs.Prelude.{◌≡◌, List, ◌++◌}
use Rattle.std.proofs.Common.{ap, ◌∙◌}
use Rattle.std.proofs.lemmas.List.{append_assoc}
use Rattle.ix_core.specs.declared.fact.Fact.{Fact}

two : (old mid new x y : List Fact) → mid ≡ old ++ x → new ≡ mid ++ y → new ≡ old ++ (x ++ y)
two old mid new x y m n = n ∙ (ap (λ l. l ++ y) m ∙ append_assoc old x y)

pub six : (old n1 n2 n3 n4 n5 n6 a b c d e f : List Fact) → n1 ≡ old ++ a → n2 ≡ n1 ++ b → n3 ≡ n2 ++ c → n4 ≡ n3 ++ d → n5 ≡ n4 ++ e → n6 ≡ n5 ++ f → n6 ≡ old ++ (a ++ (b ++ (c ++ (d ++ (e ++ f)))))
six old n1 n2 n3 n4 n5 n6 a b c d e f e1 e2 e3 e4 e5 e6 =
    two old n1 n6 a (b ++ (c ++ (d ++ (e ++ f)))) e1 (two n1 n2 n6 b (c ++ (d ++ (e ++ f))) e2 (two n2 n3 n6 c (d ++ (e ++ f)) e3 (two n3 n4 n6 d (e ++ f) e4 (two n4 n5 n6 e f e5 e6))))

joined_equal : (a b x y : List Fact) → a ≡ b → x ≡ y → a ++ x ≡ b ++ y
joined_equal a b x y h k = ap (λ l. l ++ x) h ∙ ap (λ l. b ++ l) k

pub six_equal : (a b c d e f u v w x y z : List Fact) → a ≡ u → b ≡ v → c ≡ w → d ≡ x → e ≡ y → f ≡ z → a ++ (b ++ (c ++ (d ++ (e ++ f)))) ≡ u ++ (v ++ (w ++ (x ++ (y ++ z))))
six_equal a b c d e f u v w x y z h1 h2 h3 h4 h5 h6 =
    joined_equal a u (b ++ (c ++ (d ++ (e ++ f)))) (v ++ (w ++ (x ++ (y ++ z)))) h1
    (joined_equal b v (c ++ (d ++ (e ++ f))) (w ++ (x ++ (y ++ z))) h2 (joined_equal c w (d ++ (e ++ f)) (x ++ (y ++ z)) h3 (joined_equal d x (e ++ f) (y ++ z) h4 (joined_equal e y f z h5 h6))))

-- two facts at once
pub both : {A B : Type 0} → A → B → A × B
both a b = (a, b)
