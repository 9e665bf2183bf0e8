-- Texts one behind the other, in the groups of the code and in those of the definitions.
use Rattle.std.proofs.Common.{◌≡◌, ℕ, List, ◌++◌, sym, ap, ◌∙◌, append_assoc}

-- a file, a line and a column, each with what stands behind it, and a text
pub placed : (f a l b c e k : List ℕ) → (((((f ++ a) ++ l) ++ b) ++ c) ++ e) ++ k ≡ f ++ (a ++ (l ++ (b ++ (c ++ (e ++ k)))))
placed f a l b c e k =
    append_assoc ((((f ++ a) ++ l) ++ b) ++ c) e k ∙ append_assoc (((f ++ a) ++ l) ++ b) c (e ++ k) ∙ append_assoc ((f ++ a) ++ l) b (c ++ (e ++ k))
    ∙ append_assoc (f ++ a) l (b ++ (c ++ (e ++ k))) ∙ append_assoc f a (l ++ (b ++ (c ++ (e ++ k))))

pub placed_lines : (f a l b c e k n r : List ℕ) → ((((((f ++ a) ++ l) ++ b) ++ c) ++ e) ++ (k ++ n)) ++ r ≡ f ++ (a ++ (l ++ (b ++ (c ++ (e ++ (k ++ (n ++ r)))))))
placed_lines f a l b c e k n r =
    let start : List ℕ = ((((f ++ a) ++ l) ++ b) ++ c) ++ e in
    append_assoc start (k ++ n) r ∙ ap (λ z. start ++ z) (append_assoc k n r) ∙ placed f a l b c e (k ++ (n ++ r))

pub placed_error : (t f a l b c e k d n : List ℕ) → ((t ++ (f ++ (a ++ (l ++ (b ++ (c ++ (e ++ k))))))) ++ d) ++ n ≡ t ++ (((((((f ++ a) ++ l) ++ b) ++ c) ++ e) ++ k) ++ (d ++ n))
placed_error t f a l b c e k d n =
    let line : List ℕ = f ++ (a ++ (l ++ (b ++ (c ++ (e ++ k))))) in
    append_assoc (t ++ line) d n ∙ append_assoc t line (d ++ n) ∙ ap (λ z. t ++ (z ++ (d ++ n))) (sym (placed f a l b c e k))

-- a value that is below the length of an array, with what is added to it
pub upper_bound : (t v o s b n l : List ℕ) → (((t ++ v) ++ o) ++ s) ++ ((b ++ n) ++ l) ≡ t ++ (((((v ++ o) ++ s) ++ b) ++ n) ++ l)
upper_bound t v o s b n l =
    let w : List ℕ = (v ++ o) ++ s in
    ap (λ x. x ++ ((b ++ n) ++ l)) (ap (λ x. x ++ s) (append_assoc t v o) ∙ append_assoc t (v ++ o) s)
    ∙ append_assoc t w ((b ++ n) ++ l) ∙ ap (λ x. t ++ x) (ap (λ x. w ++ x) (append_assoc b n l) ∙ sym (append_assoc (w ++ b) n l ∙ append_assoc w b (n ++ l)))

-- an input, a claim that it doesn't meet, and a line end
pub refused_input : (t a d b c n : List ℕ) → ((t ++ (a ++ (d ++ b))) ++ c) ++ n ≡ t ++ (a ++ (d ++ (b ++ (c ++ n))))
refused_input t a d b c n =
    append_assoc (t ++ (a ++ (d ++ b))) c n ∙ append_assoc t (a ++ (d ++ b)) (c ++ n) ∙ ap (λ x. t ++ x) (append_assoc a (d ++ b) (c ++ n) ∙ ap (λ x. a ++ x) (append_assoc d b (c ++ n)))

-- where a name stands twice
pub named_twice : (t v n b e : List ℕ) → (t ++ ((v ++ n) ++ b)) ++ (n ++ e) ≡ t ++ ((((v ++ n) ++ b) ++ n) ++ e)
named_twice t v n b e = append_assoc t ((v ++ n) ++ b) (n ++ e) ∙ ap (λ x. t ++ x) (sym (append_assoc ((v ++ n) ++ b) n e))
