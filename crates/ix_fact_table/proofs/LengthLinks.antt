-- The links of arrays by the ints that are their lengths.
use Rattle.std.specs.Prelude.{◌≡◌, ◌⊎◌, true, List, [], ◌∷◌, ◌++◌, Option, Some, None, Result, Ok, Err, OnOk, refl}
use Rattle.std.proofs.Common.{inl, inr, sym, ap, ◌∙◌, subst, ⊎_elim}
use Rattle.std.proofs.lemmas.List.{append_assoc}
use Rattle.ix_lattice.specs.LookUps.{by_test}
use Rattle.ix_core.specs.declared.fact.Path.{Path}
use Rattle.ix_core.specs.declared.fact.Fact.{Fact}
use Rattle.ix_core.specs.declared.fact.Fact.TheVariants.{Rng, LenRng, Low, Same, IsLen, Less, Sum, Search, Neg, Upper}
use Rattle.ix_facts.specs.Bounds.{is_path}
use Rattle.ix_facts.specs.Facts.{IsIn}
use Rattle.ix_facts.specs.Closure.{Follows, both_len}
use Rattle.ix_fact_table.specs.Links.{first_of, link, with_first, links}

-- a fact of the list is a length
is_first : (x q : Path) (a b : Path) → IsLen x a ≡ IsLen q b → (x ≡ q) × (a ≡ b)
is_first x q a b e = (cc, cc)

module _ (same_path : (p q : Path) → is_path p q ≡ true → p ≡ q) (itself : (p : Path) → is_path p p ≡ true) where
  added_first : (firsts : List (Path × Path)) (p a q b : Path) → first_of (firsts ++ (p, a) ∷ []) q ≡ Some b → (first_of firsts q ≡ Some b) ⊎ ((p ≡ q) × (a ≡ b))
  added_first [] p a q b e =
      by_test (is_path p q)
      (λ t. let y : Some a ≡ Some b = rw t at e in inr (same_path p q t, cc))
      (λ t. let y : None ≡ Some b = rw t at e in absurd cc)
  added_first (x ∷ firsts) p a q b e =
      by_test (is_path x.0 q)
      (λ t. inl (rw t (rw t at e)))
      (λ t. ⊎_elim (λ l. inl (rw t l)) (λ r. inr r) (added_first firsts p a q b (rw t at e)))

  first_stays : (firsts : List (Path × Path)) (p a q b : Path) → first_of firsts q ≡ Some b → first_of (firsts ++ (p, a) ∷ []) q ≡ Some b
  first_stays [] p a q b e = absurd cc
  first_stays (x ∷ firsts) p a q b e = by_test (is_path x.0 q) (λ t. rw t (rw t at e)) (λ t. rw t (first_stays firsts p a q b (rw t at e)))

  first_here : (firsts : List (Path × Path)) (p a : Path) → first_of firsts p ≡ None → first_of (firsts ++ (p, a) ∷ []) p ≡ Some a
  first_here [] p a e = rw (itself p) refl
  first_here (x ∷ firsts) p a e =
      by_test (is_path x.0 p)
      (λ t. let y : Some x.1 ≡ None = rw t at e in absurd cc)
      (λ t. rw t (first_here firsts p a (rw t at e)))

  -- ---- each link follows

  module _ (facts : List Fact) where
    abbrev Firsts : List (Path × Path) → Type 0
    Firsts firsts = (p b : Path) → first_of firsts p ≡ Some b → Follows facts (IsLen p b)

    links_by : (firsts : List (Path × Path)) (p a : Path) (rest : List Fact) → Firsts firsts → Follows facts (IsLen p a)
        → ((next : List (Path × Path)) → Firsts next → (f : Fact) → IsIn f (links next rest) → Follows facts f)
        → (o : Option Path) → first_of firsts p ≡ o → (f : Fact) → IsIn f (link o a ++ links (with_first o firsts p a) rest) → Follows facts f
    links_by firsts p a rest known here more None e f i =
        more (firsts ++ (p, a) ∷ []) (λ q b g. ⊎_elim (λ l. known q b l) (λ r. subst (λ x. Follows facts (IsLen x b)) r.0 (subst (λ x. Follows facts (IsLen p x)) r.1 here)) (added_first firsts p a q b g)) f i
    links_by firsts p a rest known here more (Some b) e f i =
        ⊎_elim (λ s. subst (Follows facts) (sym s) (both_len p b a (known p b e) here)) (λ j. more firsts known f j) i

    pub links_follow : (firsts : List (Path × Path)) (rest : List Fact) → Firsts firsts → ((f : Fact) → IsIn f rest → Follows facts f) → (f : Fact) → IsIn f (links firsts rest) → Follows facts f
    links_follow firsts [] known k f i = absurd i
    links_follow firsts (IsLen p a ∷ rest) known k f i =
        links_by firsts p a rest known (k (IsLen p a) (inl refl)) (λ next is g j. links_follow next rest is (λ h m. k h (inr m)) g j) (first_of firsts p) refl f i
    links_follow firsts (Rng _ _ _ ∷ rest) known k f i = links_follow firsts rest known (λ h m. k h (inr m)) f i
    links_follow firsts (LenRng _ _ _ ∷ rest) known k f i = links_follow firsts rest known (λ h m. k h (inr m)) f i
    links_follow firsts (Low _ _ ∷ rest) known k f i = links_follow firsts rest known (λ h m. k h (inr m)) f i
    links_follow firsts (Same _ _ ∷ rest) known k f i = links_follow firsts rest known (λ h m. k h (inr m)) f i
    links_follow firsts (Less _ _ _ ∷ rest) known k f i = links_follow firsts rest known (λ h m. k h (inr m)) f i
    links_follow firsts (Sum _ _ _ ∷ rest) known k f i = links_follow firsts rest known (λ h m. k h (inr m)) f i
    links_follow firsts (Search _ _ ∷ rest) known k f i = links_follow firsts rest known (λ h m. k h (inr m)) f i
    links_follow firsts (Neg _ _ ∷ rest) known k f i = links_follow firsts rest known (λ h m. k h (inr m)) f i
    links_follow firsts (Upper _ _ _ _ ∷ rest) known k f i = links_follow firsts rest known (λ h m. k h (inr m)) f i

  -- ---- where each link holds of roots, all arrays of one int have one root

  module _ (root : Path → Path) where
    abbrev Hold : List Fact → Type 0
    Hold found = (a b : Path) → IsIn (Same a b) found → root a ≡ root b

    -- an int's first array has the root of each later one
    abbrev Anchored : List (Path × Path) → List Fact → Type 0
    Anchored firsts rest = (p b : Path) → first_of firsts p ≡ Some b → (a : Path) → IsIn (IsLen p a) rest → root b ≡ root a

    anchored_by : (firsts : List (Path × Path)) (q c : Path) (rest : List Fact) → ((next : List (Path × Path)) → Hold (links next rest) → Anchored next rest)
        → (o : Option Path) → first_of firsts q ≡ o → Hold (link o c ++ links (with_first o firsts q c) rest) → Anchored firsts (IsLen q c ∷ rest)
    anchored_by firsts q c rest more None e hold p b at a i =
        ⊎_elim
        (λ s. let same = is_first p q a c s in let y : None ≡ Some b = sym e ∙ subst (λ x. first_of firsts x ≡ Some b) same.0 at in absurd cc)
        (λ j. more (firsts ++ (q, c) ∷ []) hold p b (first_stays firsts q c p b at) a j)
        i
    anchored_by firsts q c rest more (Some d) e hold p b at a i =
        ⊎_elim
        (λ s.
        let same = is_first p q a c s in
        let y : Some d ≡ Some b = sym e ∙ subst (λ x. first_of firsts x ≡ Some b) same.0 at in
        let is : d ≡ b = cc in
        ap root (sym is) ∙ (hold d c (inl refl) ∙ ap root (sym same.1)))
        (λ j. more firsts (λ x y k. hold x y (inr k)) p b at a j)
        i

    anchored : (firsts : List (Path × Path)) (rest : List Fact) → Hold (links firsts rest) → Anchored firsts rest
    anchored firsts [] hold p b at a i = absurd i
    anchored firsts (IsLen q c ∷ rest) hold p b at a i = anchored_by firsts q c rest (λ next h. anchored next rest h) (first_of firsts q) refl hold p b at a i
    anchored firsts (Rng _ _ _ ∷ rest) hold p b at a i = ⊎_elim (λ e. absurd cc) (λ j. anchored firsts rest hold p b at a j) i
    anchored firsts (LenRng _ _ _ ∷ rest) hold p b at a i = ⊎_elim (λ e. absurd cc) (λ j. anchored firsts rest hold p b at a j) i
    anchored firsts (Low _ _ ∷ rest) hold p b at a i = ⊎_elim (λ e. absurd cc) (λ j. anchored firsts rest hold p b at a j) i
    anchored firsts (Same _ _ ∷ rest) hold p b at a i = ⊎_elim (λ e. absurd cc) (λ j. anchored firsts rest hold p b at a j) i
    anchored firsts (Less _ _ _ ∷ rest) hold p b at a i = ⊎_elim (λ e. absurd cc) (λ j. anchored firsts rest hold p b at a j) i
    anchored firsts (Sum _ _ _ ∷ rest) hold p b at a i = ⊎_elim (λ e. absurd cc) (λ j. anchored firsts rest hold p b at a j) i
    anchored firsts (Search _ _ ∷ rest) hold p b at a i = ⊎_elim (λ e. absurd cc) (λ j. anchored firsts rest hold p b at a j) i
    anchored firsts (Neg _ _ ∷ rest) hold p b at a i = ⊎_elim (λ e. absurd cc) (λ j. anchored firsts rest hold p b at a j) i
    anchored firsts (Upper _ _ _ _ ∷ rest) hold p b at a i = ⊎_elim (λ e. absurd cc) (λ j. anchored firsts rest hold p b at a j) i

    -- so all arrays of one int have one root
    head_root : (firsts : List (Path × Path)) (q c : Path) (rest : List Fact) (o : Option Path) → first_of firsts q ≡ o → Hold (link o c ++ links (with_first o firsts q c) rest) → (d : Path) → IsIn (IsLen q d) rest → root c ≡ root d
    head_root firsts q c rest None e hold d j = anchored (firsts ++ (q, c) ∷ []) rest hold q c (first_here firsts q c e) d j
    head_root firsts q c rest (Some b) e hold d j = sym (hold b c (inl refl)) ∙ anchored firsts rest (λ x y k. hold x y (inr k)) q b e d j

    tail_hold : (firsts : List (Path × Path)) (q c : Path) (rest : List Fact) (o : Option Path) → Hold (link o c ++ links (with_first o firsts q c) rest) → Hold (links (with_first o firsts q c) rest)
    tail_hold firsts q c rest None hold = hold
    tail_hold firsts q c rest (Some b) hold = λ x y k. hold x y (inr k)

    pub one_root : (firsts : List (Path × Path)) (rest : List Fact) → Hold (links firsts rest) → (p a d : Path) → IsIn (IsLen p a) rest → IsIn (IsLen p d) rest → root a ≡ root d
    one_root firsts [] hold p a d i j = absurd i
    one_root firsts (IsLen q c ∷ rest) hold p a d i j =
        let o = first_of firsts q in
        let later = λ (x : Path) (k : IsIn (IsLen q x) rest). head_root firsts q c rest o refl hold x k in
        ⊎_elim
        (λ e.
        let mine = is_first p q a c e in
        ⊎_elim
        (λ f. let yours = is_first p q d c f in ap root (mine.1 ∙ sym yours.1))
        (λ k. ap root mine.1 ∙ later d (subst (λ x. IsIn (IsLen x d) rest) mine.0 k))
        j)
        (λ m.
        ⊎_elim
        (λ f. let yours = is_first p q d c f in sym (ap root yours.1 ∙ later a (subst (λ x. IsIn (IsLen x a) rest) yours.0 m)))
        (λ k. one_root (with_first o firsts q c) rest (tail_hold firsts q c rest o hold) p a d m k)
        j)
        i
    one_root firsts (Rng _ _ _ ∷ rest) hold p a d i j = ⊎_elim (λ e. absurd cc) (λ m. ⊎_elim (λ e. absurd cc) (λ k. one_root firsts rest hold p a d m k) j) i
    one_root firsts (LenRng _ _ _ ∷ rest) hold p a d i j = ⊎_elim (λ e. absurd cc) (λ m. ⊎_elim (λ e. absurd cc) (λ k. one_root firsts rest hold p a d m k) j) i
    one_root firsts (Low _ _ ∷ rest) hold p a d i j = ⊎_elim (λ e. absurd cc) (λ m. ⊎_elim (λ e. absurd cc) (λ k. one_root firsts rest hold p a d m k) j) i
    one_root firsts (Same _ _ ∷ rest) hold p a d i j = ⊎_elim (λ e. absurd cc) (λ m. ⊎_elim (λ e. absurd cc) (λ k. one_root firsts rest hold p a d m k) j) i
    one_root firsts (Less _ _ _ ∷ rest) hold p a d i j = ⊎_elim (λ e. absurd cc) (λ m. ⊎_elim (λ e. absurd cc) (λ k. one_root firsts rest hold p a d m k) j) i
    one_root firsts (Sum _ _ _ ∷ rest) hold p a d i j = ⊎_elim (λ e. absurd cc) (λ m. ⊎_elim (λ e. absurd cc) (λ k. one_root firsts rest hold p a d m k) j) i
    one_root firsts (Search _ _ ∷ rest) hold p a d i j = ⊎_elim (λ e. absurd cc) (λ m. ⊎_elim (λ e. absurd cc) (λ k. one_root firsts rest hold p a d m k) j) i
    one_root firsts (Neg _ _ ∷ rest) hold p a d i j = ⊎_elim (λ e. absurd cc) (λ m. ⊎_elim (λ e. absurd cc) (λ k. one_root firsts rest hold p a d m k) j) i
    one_root firsts (Upper _ _ _ _ ∷ rest) hold p a d i j = ⊎_elim (λ e. absurd cc) (λ m. ⊎_elim (λ e. absurd cc) (λ k. one_root firsts rest hold p a d m k) j) i

-- what one more length says, where it was put
pub one_linked : {E : Type 0} (call : Result (Unit {0}) E) (firsts firsts_new : List (Path × Path)) (found found_new : List Fact) (fact : Fact) (p a : Path) → fact ≡ IsLen p a
    → OnOk call (found_new ≡ found ++ link (first_of firsts p) a) → OnOk call (firsts_new ≡ with_first (first_of firsts p) firsts p a)
    → OnOk call ((rest : List Fact) → found_new ++ links firsts_new rest ≡ found ++ links firsts (fact ∷ rest))
one_linked (Ok x) firsts firsts_new found found_new fact p a is put first = λ rest.
    ap (λ l. l ++ links firsts_new rest) put
    ∙ (ap (λ l. (found ++ link (first_of firsts p) a) ++ links l rest) first
    ∙ (append_assoc found (link (first_of firsts p) a) (links (with_first (first_of firsts p) firsts p a) rest) ∙ ap (λ f. found ++ links firsts (f ∷ rest)) (sym is)))
one_linked (Err e) firsts firsts_new found found_new fact p a is put first = tt
