-- The forms of rules: what they give holds where the parts do, and is stronger where the parts are.
use Rattle.std.specs.Prelude.{◌≡◌, Bool, true, false, ℤ, List, [], ◌∷◌, ◌++◌, ◌⊎◌, Option, Some, None, refl}
use Rattle.std.specs.Int.{int_min}
use Rattle.std.proofs.Common.{inl, inr, subst, ⊎_elim}
use Rattle.std.proofs.lemmas.Bool.{false≢true}
use Rattle.ix_core.specs.declared.fact.Path.{Path}
use Rattle.ix_core.specs.declared.fact.Fact.{Fact}
use Rattle.ix_core.specs.Numbers.{Numbers}
use Rattle.ix_facts.specs.Facts.{Holds, AllHold, IsIn, Covers, Stronger, rng, len_rng, low, same, is_len, less, sum, search, neg, upper}
use Rattle.ix_facts.specs.Exact.{if_so, each, each_path, if_some, least_at, ints_of, arrays_of, paths_of, named_ints, named_arrays}
use Rattle.ix_facts.proofs.Gives.{Gives, min_chooses, gives_best}
use Rattle.ix_facts.proofs.FactLists.{in_left, in_right, in_either, all_hold_app, stronger_cons, stronger_none}
use Rattle.ix_facts.proofs.Worse.{Down, down_laws, Worse, worse_left, worse_right, worse_both}

-- ---- what holds

module _ (v : Numbers) where
  pub if_so_holds : (t : Bool) (facts : List Fact) → (t ≡ true → AllHold facts v) → AllHold (if_so t facts) v
  if_so_holds true facts h = h refl
  if_so_holds false facts h = tt

  pub each_holds : (rule : Fact → List Fact) → ((f : Fact) → Holds f v → AllHold (rule f) v) → (facts : List Fact) → AllHold facts v → AllHold (each rule facts) v
  each_holds rule one [] h = tt
  each_holds rule one (f ∷ facts) h = all_hold_app v (rule f) (each rule facts) (one f h.0) (each_holds rule one facts h.1)

  pub each_path_holds : (rule : Path → List Fact) → ((p : Path) → AllHold (rule p) v) → (paths : List Path) → AllHold (each_path rule paths) v
  each_path_holds rule one [] = tt
  each_path_holds rule one (p ∷ paths) = all_hold_app v (rule p) (each_path rule paths) (one p) (each_path_holds rule one paths)

  pub if_some_holds : (make : ℤ → Fact) (P : ℤ → Type 0) (o : Option ℤ) → ((c : ℤ) → P c → Holds (make c) v) → Gives o P → AllHold (if_some make o) v
  if_some_holds make P None k g = tt
  if_some_holds make P (Some c) k g = (k c g, tt)

pub least_at_gives : (P : ℤ → Type 0) (by : Path → Option ℤ) → ((p : Path) → Gives (by p) P) → (paths : List Path) → Gives (least_at by paths) P
least_at_gives P by one [] = tt
least_at_gives P by one (p ∷ paths) = gives_best P int_min min_chooses (by p) (least_at by paths) (one p) (least_at_gives P by one paths)

-- ---- what is stronger

pub stronger_if : (t u : Bool) (a b : List Fact) → (t ≡ true → u ≡ true) → (t ≡ true → Stronger a b) → Stronger (if_so u a) (if_so t b)
stronger_if false u a b k s = stronger_none (if_so u a)
stronger_if true true a b k s = s refl
stronger_if true false a b k s = absurd (false≢true (k refl))

pub stronger_some : (R : ℤ → ℤ → Type 0) (make : ℤ → Fact) (a b : Option ℤ) → ((x y : ℤ) → R x y → Covers (make y) (make x)) → Worse R a b → Stronger (if_some make b) (if_some make a)
stronger_some R make None b k w = stronger_none (if_some make b)
stronger_some R make (Some x) None k w = absurd w
stronger_some R make (Some x) (Some y) k w = stronger_cons (make y) (make x) [] [] (k x y w) (stronger_none [])

in_each : (rule : Fact → List Fact) (x g : Fact) (facts : List Fact) → IsIn g facts → IsIn x (rule g) → IsIn x (each rule facts)
in_each rule x g [] i j = absurd i
in_each rule x g (f ∷ facts) i j =
    ⊎_elim
    (λ e. in_left x (rule f) (each rule facts) (subst (λ y. IsIn x (rule y)) e j))
    (λ k. in_right x (rule f) (each rule facts) (in_each rule x g facts k j))
    i

pub stronger_each : (rule weak_rule : Fact → List Fact) → ((g f : Fact) → Covers g f → Stronger (rule g) (weak_rule f)) → (strong weak : List Fact) → Stronger strong weak → Stronger (each rule strong) (each weak_rule weak)
stronger_each rule weak_rule one strong [] s = record { met = λ x i. absurd i }
stronger_each rule weak_rule one strong (f ∷ weak) s =
    let here = s.met f (inl refl) in
    let later = stronger_each rule weak_rule one strong weak (record { met = λ z k. s.met z (inr k) }) in
    record {
      met = λ x i.
          ⊎_elim
          (λ j. let y = (one here.0 f here.2).met x j in (y.0, in_each rule y.0 here.0 strong here.1 y.1, y.2))
          (λ j. later.met x j)
          (in_either x (weak_rule f) (each weak_rule weak) i);
    }

-- ---- paths of a list

abbrev pub IsPathIn : Path → List Path → Type 0
IsPathIn p [] = ⊥
IsPathIn p (q ∷ paths) = (p ≡ q) ⊎ IsPathIn p paths

-- each path of the second list is in the first
abbrev pub HasPaths : List Path → List Path → Type 0
HasPaths paths others = (p : Path) → IsPathIn p others → IsPathIn p paths

path_in_left : (p : Path) (a b : List Path) → IsPathIn p a → IsPathIn p (a ++ b)
path_in_left p [] b i = absurd i
path_in_left p (q ∷ a) b i = ⊎_elim (λ e. inl e) (λ j. inr (path_in_left p a b j)) i

path_in_right : (p : Path) (a b : List Path) → IsPathIn p b → IsPathIn p (a ++ b)
path_in_right p [] b i = i
path_in_right p (q ∷ a) b i = inr (path_in_right p a b i)

path_in_either : (p : Path) (a b : List Path) → IsPathIn p (a ++ b) → IsPathIn p a ⊎ IsPathIn p b
path_in_either p [] b i = inr i
path_in_either p (q ∷ a) b i = ⊎_elim (λ e. inl (inl e)) (λ j. ⊎_elim (λ x. inl (inr x)) (λ y. inr y) (path_in_either p a b j)) i

in_paths_of : (of : Fact → List Path) (p : Path) (g : Fact) (facts : List Fact) → IsIn g facts → IsPathIn p (of g) → IsPathIn p (paths_of of facts)
in_paths_of of p g [] i j = absurd i
in_paths_of of p g (f ∷ facts) i j =
    ⊎_elim
    (λ e. path_in_left p (of f) (paths_of of facts) (subst (λ y. IsPathIn p (of y)) e j))
    (λ k. path_in_right p (of f) (paths_of of facts) (in_paths_of of p g facts k j))
    i

-- facts that cover name the same paths
pub covers_ints : (g f : Fact) → Covers g f → ints_of f ≡ ints_of g
covers_ints _ _ (rng p l h m k x y) = refl
covers_ints _ _ (len_rng p l h m k x y) = refl
covers_ints _ _ (low p k m x) = refl
covers_ints _ _ (same a b) = refl
covers_ints _ _ (is_len p a) = refl
covers_ints _ _ (less p q c d x) = refl
covers_ints _ _ (sum t y z) = refl
covers_ints _ _ (search p a) = refl
covers_ints _ _ (neg p a) = refl
covers_ints _ _ (upper p a o c d x) = refl

pub covers_arrays : (g f : Fact) → Covers g f → arrays_of f ≡ arrays_of g
covers_arrays _ _ (rng p l h m k x y) = refl
covers_arrays _ _ (len_rng p l h m k x y) = refl
covers_arrays _ _ (low p k m x) = refl
covers_arrays _ _ (same a b) = refl
covers_arrays _ _ (is_len p a) = refl
covers_arrays _ _ (less p q c d x) = refl
covers_arrays _ _ (sum t y z) = refl
covers_arrays _ _ (search p a) = refl
covers_arrays _ _ (neg p a) = refl
covers_arrays _ _ (upper p a o c d x) = refl

paths_of_mono : (of : Fact → List Path) → ((g f : Fact) → Covers g f → of f ≡ of g) → (strong weak : List Fact) → Stronger strong weak → HasPaths (paths_of of strong) (paths_of of weak)
paths_of_mono of one strong [] s p i = absurd i
paths_of_mono of one strong (f ∷ weak) s p i =
    let here = s.met f (inl refl) in
    ⊎_elim
    (λ j. in_paths_of of p here.0 strong here.1 (subst (IsPathIn p) (one here.0 f here.2) j))
    (λ j. paths_of_mono of one strong weak (record { met = λ z k. s.met z (inr k) }) p j)
    (path_in_either p (of f) (paths_of of weak) i)

pub named_ints_mono : (strong weak : List Fact) → Stronger strong weak → HasPaths (named_ints strong) (named_ints weak)
named_ints_mono = paths_of_mono ints_of covers_ints

pub named_arrays_mono : (strong weak : List Fact) → Stronger strong weak → HasPaths (named_arrays strong) (named_arrays weak)
named_arrays_mono = paths_of_mono arrays_of covers_arrays

in_each_path : (rule : Path → List Fact) (x : Fact) (p : Path) (paths : List Path) → IsPathIn p paths → IsIn x (rule p) → IsIn x (each_path rule paths)
in_each_path rule x p [] i j = absurd i
in_each_path rule x p (q ∷ paths) i j =
    ⊎_elim
    (λ e. in_left x (rule q) (each_path rule paths) (subst (λ y. IsIn x (rule y)) e j))
    (λ k. in_right x (rule q) (each_path rule paths) (in_each_path rule x p paths k j))
    i

pub stronger_each_path : (rule weak_rule : Path → List Fact) → ((p : Path) → Stronger (rule p) (weak_rule p)) → (paths weak_paths : List Path) → HasPaths paths weak_paths → Stronger (each_path rule paths) (each_path weak_rule weak_paths)
stronger_each_path rule weak_rule one paths [] has = stronger_none (each_path rule paths)
stronger_each_path rule weak_rule one paths (p ∷ weak_paths) has =
    let later = stronger_each_path rule weak_rule one paths weak_paths (λ q i. has q (inr i)) in
    record {
      met = λ x i.
          ⊎_elim
          (λ j. let y = (one p).met x j in (y.0, in_each_path rule y.0 p paths (has p (inl refl)) y.1, y.2))
          (λ j. later.met x j)
          (in_either x (weak_rule p) (each_path weak_rule weak_paths) i);
    }

least_at_in : (by : Path → Option ℤ) (a : Option ℤ) (p : Path) (paths : List Path) → IsPathIn p paths → Worse Down a (by p) → Worse Down a (least_at by paths)
least_at_in by a p [] i w = absurd i
least_at_in by a p (q ∷ paths) i w =
    ⊎_elim
    (λ e. worse_left Down int_min down_laws a (by q) (least_at by paths) (subst (λ x. Worse Down a (by x)) e w))
    (λ j. worse_right Down int_min down_laws a (by q) (least_at by paths) (least_at_in by a p paths j w))
    i

pub least_at_mono : (by weak_by : Path → Option ℤ) → ((p : Path) → Worse Down (weak_by p) (by p)) → (paths weak_paths : List Path) → HasPaths paths weak_paths → Worse Down (least_at weak_by weak_paths) (least_at by paths)
least_at_mono by weak_by one paths [] has = tt
least_at_mono by weak_by one paths (p ∷ weak_paths) has =
    worse_both Down int_min down_laws (weak_by p) (least_at weak_by weak_paths) (least_at by paths)
    (least_at_in by (weak_by p) p paths (has p (inl refl)) (one p))
    (least_at_mono by weak_by one paths weak_paths (λ q i. has q (inr i)))
