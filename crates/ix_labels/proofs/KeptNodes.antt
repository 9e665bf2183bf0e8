-- Which labels are kept.
use Rattle.std.proofs.Common.{◌≡◌, ◌⊎◌, inl, inr, ◌+◌, ◌-◌, ◌<◌, ◌≤◌, ℕ, zero, suc, Bool, true, false, not, List, [], ◌∷◌, ◌++◌, Some, length, slice_get, get_or, take, All, Vec, arith, refl, sym, ap, subst, ◌∙◌}
use Rattle.std.proofs.lemmas.Bool.{cases_lt, false≢true}
use Rattle.std.proofs.lemmas.List.{length_push, map-append}
use Rattle.std.proofs.lemmas.Option.{slice_get_within}
use Rattle.std.proofs.Math.Seq.{take-suc}
use Rattle.std.specs.declared.alloc.Global.{Global}
use Rattle.ix_graph.specs.declared.node.Node.{Node}
use Rattle.ix_graph.specs.declared.node.Edge.TheVariants.{Next}
use Rattle.ix_graph.proofs.AsProblem.{Among}
use Rattle.ix_labels.specs.Runs.{is_kept, leads_to, LeadsOn, AreKept, Passes, PassesAt, ArePassed, EndsBehind, EndsAt, AreEnds, ReadsThrough, readers_through}

kept_front : (kept : List Bool) (b : Bool) (at : ℕ) → at < length kept → is_kept (kept ++ b ∷ []) at ≡ is_kept kept at
kept_front [] b at within = absurd (omega (arith, within))
kept_front (x ∷ kept) b zero within = refl
kept_front (x ∷ kept) b (suc at) within = kept_front kept b at (omega (arith, within))

kept_last : (kept : List Bool) (b : Bool) → is_kept (kept ++ b ∷ []) (length kept) ≡ b
kept_last [] b = refl
kept_last (x ∷ kept) b = kept_last kept b

kept_past : (kept : List Bool) (b : Bool) (at : ℕ) → length kept < at → is_kept (kept ++ b ∷ []) at ≡ true
kept_past [] b zero past = absurd (omega (arith, past))
kept_past [] b (suc at) past = refl
kept_past (x ∷ kept) b zero past = absurd (omega (arith, past))
kept_past (x ∷ kept) b (suc at) past = kept_past kept b at (omega (arith, past))

pub kept_read : (kept : List Bool) (at : ℕ) (b : Bool) → at < length kept → b ≡ get_or kept at b → is_kept kept at ≡ b
kept_read [] at b within is = absurd (omega (arith, within))
kept_read (x ∷ kept) zero b within is = sym is
kept_read (x ∷ kept) (suc at) b within is = kept_read kept at b (omega (arith, within)) is

pub kept_index : (kept : List Bool) (at : ℕ) → at < length kept → is_kept kept at ≡ get_or kept at false
kept_index [] at within = absurd (omega (arith, within))
kept_index (x ∷ kept) zero within = refl
kept_index (x ∷ kept) (suc at) within = kept_index kept at (omega (arith, within))

pub passed_next : (nodes : List Node) (kept : List Bool) (b : Bool) → ArePassed nodes kept → (b ≡ false → PassesAt nodes (length kept)) → ArePassed nodes (kept ++ b ∷ [])
passed_next nodes kept b passed last at node found fails = elim (cases_lt at (length kept)) [
  | inl low ↦ passed at node found (sym (kept_front kept b at low) ∙ fails)
  | inr high ↦ elim (cases_lt (length kept) at) [
    | inl past ↦ absurd (false≢true (sym fails ∙ kept_past kept b at past))
    | inr back ↦
        let is : length kept ≡ at = omega (arith, high, back) in
        let here = last (sym (kept_last kept b) ∙ ap (is_kept (kept ++ b ∷ [])) is ∙ fails) in
        let same : Some here.0 ≡ Some node = sym here.1 ∙ ap (slice_get nodes) is ∙ found in
        let node_is : here.0 ≡ node = cc in
        subst (λ (n : Node). Passes nodes at n) node_is (subst (λ k. Passes nodes k here.0) is here.2)
  ]
]

-- ---- where a run leads on

pub none_in : {A : Type 0} (xs : List A) → length xs ≡ 0 → xs ≡ []
none_in [] is = refl
none_in (x ∷ xs) is = absurd (omega (arith, is))

pub one_in : {A : Type 0} (xs : List A) (d : A) → length xs ≡ 1 → xs ≡ get_or xs 0 d ∷ []
one_in [] d is = absurd (omega (arith, is))
one_in (x ∷ []) d is = refl
one_in (x ∷ y ∷ xs) d is = absurd (omega (arith, is))

pub leads_none : (nodes : List Node) (at : ℕ) (node : Node) → node.readers.items ≡ [] → LeadsOn nodes at node
leads_none nodes at node none =
    let never : (reader : ℕ) → Among reader node.readers.items → ⊥ = λ reader has. subst (Among reader) none has in
    record { some = λ reader has. absurd (never reader has); one = λ reader has. absurd (never reader has); alone = λ reader next has. absurd (never reader has); onto = λ reader next has. absurd (never reader has) }

only : (reader other : ℕ) → Among other (reader ∷ []) → other ≡ reader
only reader other (inl is) = is
only reader other (inr has) = absurd has

pub leads_one : (nodes : List Node) (at : ℕ) (node : Node) (reader : ℕ) (next : Node) → node.readers.items ≡ reader ∷ [] → 1 < at → slice_get nodes reader ≡ Some next → next.from.items ≡ (at, Next) ∷ [] → leads_to at node reader next ≡ true
    → LeadsOn nodes at node
leads_one nodes at node reader next one more found from onto =
    let is : (other : ℕ) → Among other node.readers.items → other ≡ reader = λ other has. only reader other (subst (Among other) one has) in
    let same : (other : ℕ) (following : Node) → Among other node.readers.items → slice_get nodes other ≡ Some following → next ≡ following = λ other following has there.
    let both : Some next ≡ Some following = sym found ∙ ap (slice_get nodes) (sym (is other has)) ∙ there in cc in
    record {
      some = λ other has. more;
      one = λ other has. one ∙ ap (λ r. r ∷ []) (sym (is other has));
      alone = λ other following has there. subst (λ (n : Node). n.from.items ≡ (at, Next) ∷ []) (same other following has there) from;
      onto = λ other following has there.
          subst (λ (n : Node). leads_to at node other n ≡ true) (same other following has there) (subst (λ r. leads_to at node r next ≡ true) (sym (is other has)) onto);
    }

-- where all are kept
pub none_passed : (kept : List Bool) → kept ≡ [] → AreKept kept
none_passed kept is at = ap (λ ks. is_kept ks at) is

pub kept_next : (kept : List Bool) (b : Bool) → AreKept kept → b ≡ true → AreKept (kept ++ b ∷ [])
kept_next kept b before is at = elim (cases_lt at (length kept)) [
  | inl low ↦ kept_front kept b at low ∙ before at
  | inr high ↦ elim (cases_lt (length kept) at) [
    | inl past ↦ kept_past kept b at past
    | inr back ↦ let same : length kept ≡ at = omega (arith, high, back) in ap (is_kept (kept ++ b ∷ [])) (sym same) ∙ kept_last kept b ∙ is
  ]
]

pub reader_within : (count : ℕ) (readers : List ℕ) → All (λ reader. reader < count) readers → (length readers ≡ 0 → ⊥) → get_or readers 0 0 < count
reader_within count readers all some = all 0 0 (some_length (length readers) some)
  where
    some_length : (n : ℕ) → (n ≡ 0 → ⊥) → 0 < n
    some_length zero some = absurd (some refl)
    some_length (suc n) some = omega arith

-- the end of a run, behind some of its nodes
abbrev pub EndsFrom : List Node → List Bool → ℕ → ℕ → ℕ → Type 0
EndsFrom nodes kept from passed at = (many end : ℕ) → EndsBehind nodes kept many from end → (passed ≤ many) × EndsBehind nodes kept (many - passed) at end

pub ends_from : (nodes : List Node) (kept : List Bool) (from : ℕ) → EndsFrom nodes kept from 0 from
ends_from nodes kept from many end ends = (omega arith, subst (λ n. EndsBehind nodes kept n from end) (let e : many ≡ many - 0 = omega arith in e) ends)

-- it is there, if the label is kept or the node leads nowhere
pub ends_here : (nodes : List Node) (kept : List Bool) (many at end : ℕ) (node : Node) → slice_get nodes at ≡ Some node → (is_kept kept at ≡ true) ⊎ (node.readers.items ≡ []) → EndsBehind nodes kept many at end → at ≡ end
ends_here nodes kept zero at end node found stops ends = ends.1
ends_here nodes kept (suc many) at end node found (inl holds) ends = absurd (false≢true (sym ends.0 ∙ holds))
ends_here nodes kept (suc many) at end node found (inr none) ends =
    let same : Some ends.1 ≡ Some node = sym ends.2 ∙ found in
    let node_is : ends.1 ≡ node = cc in
    let empty : ends.3 ∷ [] ≡ [] = sym ends.4 ∙ ap (λ (n : Node). n.readers.items) node_is ∙ none in
    let e : suc zero ≡ zero = ap length empty in
    absurd (omega (arith, e))

-- one node on
pub ends_on : (nodes : List Node) (kept : List Bool) (many at end reader : ℕ) (node : Node) → slice_get nodes at ≡ Some node → is_kept kept at ≡ false → reader ≡ get_or node.readers.items 0 0 → EndsBehind nodes kept many at end
    → (1 ≤ many) × EndsBehind nodes kept (many - 1) reader end
ends_on nodes kept zero at end reader node found fails is ends = absurd (false≢true (sym fails ∙ ends.0))
ends_on nodes kept (suc many) at end reader node found fails is ends =
    let same : Some ends.1 ≡ Some node = sym ends.2 ∙ found in
    let node_is : ends.1 ≡ node = cc in
    let readers_are : node.readers.items ≡ ends.3 ∷ [] = ap (λ (n : Node). n.readers.items) (sym node_is) ∙ ends.4 in
    let reader_is : reader ≡ ends.3 = is ∙ ap (λ rs. get_or rs 0 0) readers_are in
    let e : many ≡ suc many - 1 = omega arith in
    (omega arith, subst (λ n. EndsBehind nodes kept n reader end) e (subst (λ r. EndsBehind nodes kept many r end) (sym reader_is) ends.5))

pub ends_further : (nodes : List Node) (kept : List Bool) (from passed at reader : ℕ) (node : Node) → slice_get nodes at ≡ Some node → is_kept kept at ≡ false → reader ≡ get_or node.readers.items 0 0 → EndsFrom nodes kept from passed at
    → EndsFrom nodes kept from (passed + 1) reader
ends_further nodes kept from passed at reader node found fails is before many end ends =
    let r = before many end ends in
    let s = ends_on nodes kept (many - passed) at end reader node found fails is r.1 in
    let low = r.0 in
    let more = s.0 in
    let e : many - passed - 1 ≡ many - (passed + 1) = omega (arith, low) in
    (omega (arith, low, more), subst (λ n. EndsBehind nodes kept n reader end) e s.1)

-- one end more
end_front : (xs : List ℕ) (x : ℕ) (k : ℕ) → k < length xs → slice_get (xs ++ x ∷ []) k ≡ slice_get xs k
end_front [] x k within = absurd (omega (arith, within))
end_front (y ∷ xs) x zero within = refl
end_front (y ∷ xs) x (suc k) within = end_front xs x k (omega (arith, within))

end_last : (xs : List ℕ) (x n : ℕ) → n ≡ length xs → slice_get (xs ++ x ∷ []) n ≡ Some x
end_last xs x n is = ap (slice_get (xs ++ x ∷ [])) is ∙ last xs x
  where
    last : (xs : List ℕ) (x : ℕ) → slice_get (xs ++ x ∷ []) (length xs) ≡ Some x
    last [] x = refl
    last (y ∷ xs) x = last xs x

end_longer : (xs : List ℕ) (x : ℕ) → length (xs ++ x ∷ []) ≡ suc (length xs)
end_longer [] x = refl
end_longer (y ∷ xs) x = ap (λ n. suc n) (end_longer xs x)

pub no_ends : (nodes : List Node) (kept : List Bool) → AreEnds nodes kept [] []
no_ends nodes kept = record { many = refl; each = λ k from found at_from at_found. absurd (let within = slice_get_within [] k from at_from in omega (arith, within)) }

pub ends_next : (nodes : List Node) (kept : List Bool) (begins ends : List ℕ) (node end : ℕ) → AreEnds nodes kept begins ends → EndsAt nodes kept node end → AreEnds nodes kept (begins ++ node ∷ []) (ends ++ end ∷ [])
ends_next nodes kept begins ends node end before last = record {
  many = let m = before.many in let a = end_longer ends end in let b = end_longer begins node in omega (arith, m, a, b);
  each = λ k from found at_from at_found.
      let m = before.many in
      let within = slice_get_within (begins ++ node ∷ []) k from at_from in
      let b = end_longer begins node in
      elim (cases_lt k (length begins)) [
        | inl low ↦ before.each k from found (sym (end_front begins node k low) ∙ at_from) (sym (end_front ends end k (omega (arith, low, m))) ∙ at_found)
        | inr high ↦
            let is : k ≡ length begins = omega (arith, high, within, b) in
            let also : k ≡ length ends = omega (arith, is, m) in
            let one : Some node ≡ Some from = sym (end_last begins node k is) ∙ at_from in
            let two : Some end ≡ Some found = sym (end_last ends end k also) ∙ at_found in
            let node_is : node ≡ from = cc in
            let end_is : end ≡ found = cc in
            subst (λ n. EndsAt nodes kept n found) node_is (subst (λ e. EndsAt nodes kept node e) end_is last)
      ];
}

pub not_false : (b : Bool) → not b ≡ false → b ≡ true
not_false true is = refl
not_false false is = cc

-- the list so far, and the next
pub next_taken : (xs : List ℕ) (k d : ℕ) → k < length xs → take (k + 1) xs ≡ take k xs ++ get_or xs k d ∷ []
next_taken xs k d within = (let e : k + 1 ≡ suc k = omega arith in ap (λ j. take j xs) e) ∙ take-suc xs k d within

-- the readers of the first nodes, and the next
abbrev pub ThroughTo : List Node → List Bool → List (List ℕ) → Type 0
ThroughTo nodes kept readers = (at : ℕ) (node : Node) (by : List ℕ) → slice_get nodes at ≡ Some node → slice_get readers at ≡ Some by → ReadsThrough nodes kept at node.readers.items by

list_front : (xs : List (List ℕ)) (x : List ℕ) (k : ℕ) → k < length xs → slice_get (xs ++ x ∷ []) k ≡ slice_get xs k
list_front [] x k within = absurd (omega (arith, within))
list_front (y ∷ xs) x zero within = refl
list_front (y ∷ xs) x (suc k) within = list_front xs x k (omega (arith, within))

list_last : (xs : List (List ℕ)) (x : List ℕ) → slice_get (xs ++ x ∷ []) (length xs) ≡ Some x
list_last [] x = refl
list_last (y ∷ xs) x = list_last xs x

pub through_next : (nodes : List Node) (kept : List Bool) (readers : List (List ℕ)) (node : Node) (by : List ℕ) → ThroughTo nodes kept readers → slice_get nodes (length readers) ≡ Some node → ReadsThrough nodes kept (length readers) node.readers.items by
    → ThroughTo nodes kept (readers ++ by ∷ [])
through_next nodes kept readers node by before there last at other more found at_more =
    let within = slice_get_within (readers ++ by ∷ []) at more at_more in
    let count = length_push readers by in
    elim (cases_lt at (length readers)) [
      | inl low ↦ before at other more found (sym (list_front readers by at low) ∙ at_more)
      | inr high ↦
          let is : length readers ≡ at = omega (arith, high, within, count) in
          let one : Some node ≡ Some other = sym there ∙ ap (slice_get nodes) is ∙ found in
          let two : Some by ≡ Some more = sym (list_last readers by) ∙ ap (slice_get (readers ++ by ∷ [])) is ∙ at_more in
          let node_is : node ≡ other = cc in
          let by_is : by ≡ more = cc in
          subst (λ b. ReadsThrough nodes kept at other.readers.items b) by_is (subst (λ (n : Node). ReadsThrough nodes kept at n.readers.items by) node_is (subst (λ k. ReadsThrough nodes kept k node.readers.items by) is last))
    ]

pub through_pushed : (rows more : List (Vec ℕ Global)) (row : Vec ℕ Global) → more ≡ rows ++ row ∷ [] → readers_through more ≡ readers_through rows ++ row.items ∷ []
through_pushed rows more row is = ap readers_through is ∙ map-append (λ (by : Vec ℕ Global). by.items) rows (row ∷ [])
