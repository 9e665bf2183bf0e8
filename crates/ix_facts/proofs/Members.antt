-- Lists with the same facts, and rules that go over them.
use Rattle.std.specs.Prelude.{◌≡◌, ◌⊎◌, Bool, true, false, List, [], ◌∷◌, ◌++◌, refl}
use Rattle.std.proofs.Common.{inl, inr, ap, sym, ◌∙◌, subst, ⊎_elim}
use Rattle.ix_core.specs.declared.fact.Path.{Path}
use Rattle.ix_core.specs.declared.fact.Fact.{Fact}
use Rattle.ix_facts.specs.Facts.{IsIn}
use Rattle.ix_facts.specs.Closure.{kept_fact, kept}
use Rattle.ix_facts.specs.Exact.{if_so, each, each_path}
use Rattle.ix_facts.specs.Named.{IsAmongPaths, IsEachOnce}
use Rattle.ix_facts.specs.SameFacts.{HasAll, AreSame}

in_left : (f : Fact) (xs ys : List Fact) → IsIn f xs → IsIn f (xs ++ ys)
in_left f [] ys i = absurd i
in_left f (x ∷ xs) ys i = ⊎_elim (λ e. inl e) (λ j. inr (in_left f xs ys j)) i

in_right : (f : Fact) (xs ys : List Fact) → IsIn f ys → IsIn f (xs ++ ys)
in_right f [] ys i = i
in_right f (x ∷ xs) ys i = inr (in_right f xs ys i)

in_part : (f : Fact) (xs ys : List Fact) → IsIn f (xs ++ ys) → IsIn f xs ⊎ IsIn f ys
in_part f [] ys i = inr i
in_part f (x ∷ xs) ys i = ⊎_elim (λ e. inl (inl e)) (λ j. ⊎_elim (λ k. inl (inr k)) (λ k. inr k) (in_part f xs ys j)) i

-- ---- lists that have all of others

all_app : (a b c d : List Fact) → HasAll a c → HasAll b d → HasAll (a ++ b) (c ++ d)
all_app a b c d h k f i = ⊎_elim (λ j. in_left f c d (h f j)) (λ j. in_right f c d (k f j)) (in_part f a b i)

all_cons : (x : Fact) (a b : List Fact) → HasAll a b → HasAll (x ∷ a) (x ∷ b)
all_cons x a b h f i = ⊎_elim (λ e. inl e) (λ j. inr (h f j)) i

all_if : (t : Bool) (a b : List Fact) → HasAll a b → HasAll (if_so t a) (if_so t b)
all_if true a b h f i = h f i
all_if false a b h f i = i

to_each : (rule : Fact → List Fact) (ys : List Fact) (x f : Fact) → IsIn x ys → IsIn f (rule x) → IsIn f (each rule ys)
to_each rule [] x f a i = absurd a
to_each rule (y ∷ ys) x f a i =
    ⊎_elim (λ e. in_left f (rule y) (each rule ys) (subst (λ z. IsIn f (rule z)) e i)) (λ b. in_right f (rule y) (each rule ys) (to_each rule ys x f b i)) a

all_each : (rule : Fact → List Fact) (xs ys : List Fact) → HasAll xs ys → HasAll (each rule xs) (each rule ys)
all_each rule [] ys h f i = absurd i
all_each rule (x ∷ xs) ys h f i =
    ⊎_elim (λ j. to_each rule ys x f (h x (inl refl)) j) (λ j. all_each rule xs ys (λ g a. h g (inr a)) f j) (in_part f (rule x) (each rule xs) i)

to_path : (rule : Path → List Fact) (qs : List Path) (p : Path) (f : Fact) → IsAmongPaths p qs → IsIn f (rule p) → IsIn f (each_path rule qs)
to_path rule [] p f a i = absurd a
to_path rule (q ∷ qs) p f a i =
    ⊎_elim (λ e. in_left f (rule q) (each_path rule qs) (subst (λ z. IsIn f (rule z)) e i)) (λ b. in_right f (rule q) (each_path rule qs) (to_path rule qs p f b i)) a

all_paths : (rule : Path → List Fact) (ps qs : List Path) → ((p : Path) → IsAmongPaths p ps → IsAmongPaths p qs) → HasAll (each_path rule ps) (each_path rule qs)
all_paths rule [] qs h f i = absurd i
all_paths rule (p ∷ ps) qs h f i =
    ⊎_elim (λ j. to_path rule qs p f (h p (inl refl)) j) (λ j. all_paths rule ps qs (λ r a. h r (inr a)) f j) (in_part f (rule p) (each_path rule ps) i)

kept_each : (xs : List Fact) → kept xs ≡ each kept_fact xs
kept_each [] = refl
kept_each (x ∷ xs) = ap (λ l. kept_fact x ++ l) (kept_each xs)

all_kept : (xs ys : List Fact) → HasAll xs ys → HasAll (kept xs) (kept ys)
all_kept xs ys h f i = subst (λ l. IsIn f l) (sym (kept_each ys)) (all_each kept_fact xs ys h f (subst (λ l. IsIn f l) (kept_each xs) i))

-- ---- lists with the same facts

pub same_itself : (a : List Fact) → AreSame a a
same_itself a = record { there = λ f i. i; back = λ f i. i }

pub same_equal : (a b : List Fact) → a ≡ b → AreSame a b
same_equal a b e = subst (λ l. AreSame a l) e (same_itself a)

pub same_trans : (a b c : List Fact) → AreSame a b → AreSame b c → AreSame a c
same_trans a b c h k = record { there = λ f i. k.there f (h.there f i); back = λ f i. h.back f (k.back f i) }

pub same_app : (a b c d : List Fact) → AreSame a c → AreSame b d → AreSame (a ++ b) (c ++ d)
same_app a b c d h k = record { there = all_app a b c d h.there k.there; back = all_app c d a b h.back k.back }

pub same_cons : (x : Fact) (a b : List Fact) → AreSame a b → AreSame (x ∷ a) (x ∷ b)
same_cons x a b h = record { there = all_cons x a b h.there; back = all_cons x b a h.back }

pub same_if : (t : Bool) (a b : List Fact) → AreSame a b → AreSame (if_so t a) (if_so t b)
same_if t a b h = record { there = all_if t a b h.there; back = all_if t b a h.back }

pub same_each : (rule : Fact → List Fact) (a b : List Fact) → AreSame a b → AreSame (each rule a) (each rule b)
same_each rule a b h = record { there = all_each rule a b h.there; back = all_each rule b a h.back }

pub same_once : (rule : Path → List Fact) (all once : List Path) → IsEachOnce all once → AreSame (each_path rule once) (each_path rule all)
same_once rule all once h = record { there = all_paths rule once all h.only; back = all_paths rule all once h.every }

pub same_kept : (a b : List Fact) → AreSame a b → AreSame (kept a) (kept b)
same_kept a b h = record { there = all_kept a b h.there; back = all_kept b a h.back }

-- rules that give the same of each fact
pub each_equal : (rule other : Fact → List Fact) → ((f : Fact) → rule f ≡ other f) → (facts : List Fact) → each rule facts ≡ each other facts
each_equal rule other h [] = refl
each_equal rule other h (f ∷ facts) = ap (λ l. l ++ each rule facts) (h f) ∙ ap (λ l. other f ++ l) (each_equal rule other h facts)
