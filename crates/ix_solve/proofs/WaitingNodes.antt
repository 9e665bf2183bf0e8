-- How many nodes wait, and which, as one is taken and others are added.
use Rattle.std.proofs.Common.{◌≡◌, ℕ, zero, suc, ◌+◌, ◌<◌, ◌≤◌, Bool, true, false, List, [], ◌∷◌, ◌++◌, length, set, replicate, arith, length-set, ap, sym, ◌∙◌, refl, subst, ⊎_elim, Contains}
use Rattle.std.proofs.lemmas.Bool.{cases_eq}
use Rattle.ix_solve.specs.Waiting.{Waits, how_many, with_all}
use Rattle.ix_solve.proofs.NodeLists.{contains_cases, contains_none, slice_get-set_same, slice_get-set_other}

-- ---- all wait

pub how_many-replicate : (n : ℕ) → how_many (replicate n true) ≡ n
how_many-replicate zero = refl
how_many-replicate (suc n) = ap suc (how_many-replicate n)

pub waits-replicate : (n node : ℕ) → node < n → Waits (replicate n true) node
waits-replicate zero node below = absurd (omega arith)
waits-replicate (suc n) zero below = refl
waits-replicate (suc n) (suc node) below = waits-replicate n node (omega arith)

-- ---- none waits

pub none_waits : (waiting : List Bool) (node : ℕ) → how_many waiting ≡ 0 → Waits waiting node → ⊥
none_waits [] node none waits = cc
none_waits (true ∷ waiting) node none waits = absurd (omega (arith, none))
none_waits (false ∷ waiting) zero none waits = cc
none_waits (false ∷ waiting) (suc node) none waits = none_waits waiting node none waits

pub how_many-push : (waiting : List Bool) → how_many (waiting ++ false ∷ []) ≡ how_many waiting
how_many-push [] = refl
how_many-push (true ∷ waiting) = ap suc (how_many-push waiting)
how_many-push (false ∷ waiting) = how_many-push waiting

-- ---- one is taken

pub one_less : (waiting : List Bool) (node : ℕ) → Waits waiting node → how_many (set waiting node false) + 1 ≡ how_many waiting
one_less [] node waits = cc
one_less (true ∷ waiting) zero waits = omega arith
one_less (false ∷ waiting) zero waits = cc
one_less (true ∷ waiting) (suc node) waits = omega (arith, one_less waiting node waits)
one_less (false ∷ waiting) (suc node) waits = one_less waiting node waits

-- ---- others are added

at_most_one_more : (waiting : List Bool) (node : ℕ) → how_many (set waiting node true) ≤ how_many waiting + 1
at_most_one_more [] node = omega arith
at_most_one_more (true ∷ waiting) zero = omega arith
at_most_one_more (false ∷ waiting) zero = omega arith
at_most_one_more (true ∷ waiting) (suc node) = omega (arith, at_most_one_more waiting node)
at_most_one_more (false ∷ waiting) (suc node) = at_most_one_more waiting node

no_less : (waiting : List Bool) (node : ℕ) → how_many waiting ≤ how_many (set waiting node true)
no_less [] node = omega arith
no_less (true ∷ waiting) zero = omega arith
no_less (false ∷ waiting) zero = omega arith
no_less (true ∷ waiting) (suc node) = omega (arith, no_less waiting node)
no_less (false ∷ waiting) (suc node) = no_less waiting node

pub more_at_most : (waiting : List Bool) (nodes : List ℕ) → how_many (with_all waiting nodes) ≤ how_many waiting + length nodes
more_at_most waiting [] = omega arith
more_at_most waiting (node ∷ nodes) = omega (arith, more_at_most (set waiting node true) nodes, at_most_one_more waiting node)

pub more_at_least : (waiting : List Bool) (nodes : List ℕ) → how_many waiting ≤ how_many (with_all waiting nodes)
more_at_least waiting [] = omega arith
more_at_least waiting (node ∷ nodes) = omega (arith, more_at_least (set waiting node true) nodes, no_less waiting node)

pub length-with_all : (waiting : List Bool) (nodes : List ℕ) → length (with_all waiting nodes) ≡ length waiting
length-with_all waiting [] = refl
length-with_all waiting (node ∷ nodes) = length-with_all (set waiting node true) nodes ∙ length-set waiting node true

pub with_all_push : (waiting : List Bool) (nodes : List ℕ) (node : ℕ) → with_all waiting (nodes ++ node ∷ []) ≡ set (with_all waiting nodes) node true
with_all_push waiting [] node = refl
with_all_push waiting (first ∷ nodes) node = with_all_push (set waiting first true) nodes node

waits-set : (waiting : List Bool) (node : ℕ) → node < length waiting → Waits (set waiting node true) node
waits-set [] node within = absurd (omega arith)
waits-set (waits ∷ waiting) zero within = refl
waits-set (waits ∷ waiting) (suc node) within = waits-set waiting node (omega arith)

still_waits : (waiting : List Bool) (added node : ℕ) → Waits waiting node → Waits (set waiting added true) node
still_waits waiting added node waits =
    ⊎_elim
    (λ same. subst (λ k. Waits (set waiting k true) node) same (slice_get-set_same waiting node true true waits))
    (λ differs. slice_get-set_other waiting added node true (λ e. differs e) ∙ waits)
    (cases_eq node added)

-- those that waited still do
pub all_still_wait : (waiting : List Bool) (nodes : List ℕ) (node : ℕ) → Waits waiting node → Waits (with_all waiting nodes) node
all_still_wait waiting [] node waits = waits
all_still_wait waiting (first ∷ nodes) node waits = all_still_wait (set waiting first true) nodes node (still_waits waiting first node waits)

-- those that were added wait
pub added_wait : (waiting : List Bool) (nodes : List ℕ) (node : ℕ) → node < length waiting → Contains nodes node → Waits (with_all waiting nodes) node
added_wait waiting [] node within has = absurd (contains_none node has)
added_wait waiting (first ∷ nodes) node within has =
    ⊎_elim
    (λ same. all_still_wait (set waiting first true) nodes node (subst (λ k. Waits (set waiting k true) node) (sym same) (waits-set waiting node within)))
    (λ later. added_wait (set waiting first true) nodes node (omega (arith, within, length-set waiting first true)) later)
    (contains_cases first node nodes has)
