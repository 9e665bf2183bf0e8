-- One step of the way up.
use Rattle.std.proofs.Common.{◌≡◌, ◌≢◌, ◌⊎◌, inl, inr, ◌<◌, ◌+◌, ℕ, Bool, true, false, ◌||◌, ◌==◌, Option, Some, None, List, [], ◌∷◌, ◌++◌, length, drop, ap, ◌∙◌, sym, append_assoc, cond}
use Rattle.std.proofs.lemmas.List.{append-nil, at_drop_more}
use Rattle.std.proofs.lemmas.Bool.{eq-eqb}
use Rattle.std.proofs.lemmas.Bool.Decides.{eqb_tells}
use Rattle.ix_meaning.specs.Classes.{parent, onward, way_up, is_among, unseen}

pub climb_none : (ps : List (Option ℕ)) (k c : ℕ) → k < length ps → parent ps c ≡ None → way_up ps (drop k ps) c ≡ []
climb_none ps k c lt is = at_drop_more (λ l. way_up ps l c) ps k None lt ∙ ap (λ q. onward (way_up ps (drop (k + 1) ps)) q) is

pub climb_some : (ps : List (Option ℕ)) (k c p : ℕ) → k < length ps → parent ps c ≡ Some p → way_up ps (drop k ps) c ≡ p ∷ way_up ps (drop (k + 1) ps) p
climb_some ps k c p lt is = at_drop_more (λ l. way_up ps l c) ps k None lt ∙ ap (λ q. onward (way_up ps (drop (k + 1) ps)) q) is

pub among_here : (c p : ℕ) (cs : List ℕ) → p ≡ c → is_among c (p ∷ cs) ≡ true
among_here c p cs e = ap (λ b. b || is_among c cs) (eq-eqb p c e)

among_by : (c p : ℕ) (cs : List ℕ) → p ≢ c → (((p == c) ≡ true) × (p ≡ c)) ⊎ (((p == c) ≡ false) × (p ≢ c)) → is_among c (p ∷ cs) ≡ is_among c cs
among_by c p cs ne (inl t) = absurd (ne t.1)
among_by c p cs ne (inr t) = ap (λ b. b || is_among c cs) t.0

pub among_later : (c p : ℕ) (cs : List ℕ) → p ≢ c → is_among c (p ∷ cs) ≡ is_among c cs
among_later c p cs ne = among_by c p cs ne (eqb_tells p c)

-- where the way up ends
pub cyclic_none : (ps : List (Option ℕ)) (k here c : ℕ) → k < length ps → parent ps here ≡ None → is_among c (way_up ps (drop k ps) here) ≡ false
cyclic_none ps k here c lt is = ap (is_among c) (climb_none ps k here lt is)

pub cyclic_found : (ps : List (Option ℕ)) (k here c p : ℕ) → k < length ps → parent ps here ≡ Some p → p ≡ c → is_among c (way_up ps (drop k ps) here) ≡ true
cyclic_found ps k here c p lt is e = ap (is_among c) (climb_some ps k here p lt is) ∙ among_here c p (way_up ps (drop (k + 1) ps) p) e

pub cyclic_on : (ps : List (Option ℕ)) (k here c p : ℕ) → k < length ps → parent ps here ≡ Some p → p ≢ c → is_among c (way_up ps (drop k ps) here) ≡ is_among c (way_up ps (drop (k + 1) ps) p)
cyclic_on ps k here c p lt is ne = ap (is_among c) (climb_some ps k here p lt is) ∙ among_later c p (way_up ps (drop (k + 1) ps) p) ne

-- the classes that were not seen before
pub unseen_none : (ps : List (Option ℕ)) (k here : ℕ) (seen cs : List ℕ) → k < length ps → parent ps here ≡ None → cs ++ unseen seen (way_up ps (drop k ps) here) ≡ cs
unseen_none ps k here seen cs lt is = ap (λ l. cs ++ unseen seen l) (climb_none ps k here lt is) ∙ append-nil cs

unseen_by : (p : ℕ) (seen rest : List ℕ) (b : Bool) → is_among p seen ≡ b → unseen seen (p ∷ rest) ≡ cond b [] (p ∷ unseen (seen ++ p ∷ []) rest)
unseen_by p seen rest b e = ap (λ t. cond t [] (p ∷ unseen (seen ++ p ∷ []) rest)) e

pub unseen_stop : (ps : List (Option ℕ)) (k here p : ℕ) (seen cs : List ℕ) → k < length ps → parent ps here ≡ Some p → is_among p seen ≡ true → cs ++ unseen seen (way_up ps (drop k ps) here) ≡ cs
unseen_stop ps k here p seen cs lt is in_it =
    ap (λ l. cs ++ unseen seen l) (climb_some ps k here p lt is) ∙ ap (λ l. cs ++ l) (unseen_by p seen (way_up ps (drop (k + 1) ps) p) true in_it) ∙ append-nil cs

pub unseen_on : (ps : List (Option ℕ)) (k here p : ℕ) (seen cs : List ℕ) → k < length ps → parent ps here ≡ Some p → is_among p seen ≡ false
    → (cs ++ p ∷ []) ++ unseen (seen ++ p ∷ []) (way_up ps (drop (k + 1) ps) p) ≡ cs ++ unseen seen (way_up ps (drop k ps) here)
unseen_on ps k here p seen cs lt is out =
    append_assoc cs (p ∷ []) (unseen (seen ++ p ∷ []) (way_up ps (drop (k + 1) ps) p))
    ∙ sym (ap (λ l. cs ++ unseen seen l) (climb_some ps k here p lt is) ∙ ap (λ l. cs ++ l) (unseen_by p seen (way_up ps (drop (k + 1) ps) p) false out))
