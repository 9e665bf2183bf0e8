-- At the entry of a written method its parameters own their slots, and `this` has slot 0.
use Rattle.std.proofs.Common.{◌≡◌, ◌≤◌, ◌<◌, ◌⊎◌, inl, inr, ℕ, zero, suc, ◌+◌, Bool, true, false, List, [], ◌∷◌, length, Option, Some, None, refl, sym, ap, ◌∙◌, arith}
use Rattle.std.specs.Prelude.{if◌then◌else◌, ◌==◌, slice_get}
use Rattle.ix_core.specs.declared.program.Local.{Local}
use Rattle.ix_core.proofs.Cases.{by_test, equal}
use Rattle.ix_tree.specs.declared.decl.LocalDecl.{LocalDecl}
use Rattle.ix_meaning.specs.declared.note.Meaning.{Meaning}
use Rattle.ix_meaning.specs.declared.note.Meaning.TheVariants as meaning
use Rattle.ix_meaning.specs.Resolved.{Names}
use Rattle.ix_meaning.specs.Source as source
use Rattle.ix_meaning.specs.Source.{Place}
use Rattle.ix_plain.specs.Scope.{Site, Scope, slot_of, slot_in_params}
use Rattle.ix_formed.specs.Shape.{params_of}
use Rattle.ix_formed.proofs.NumberLists.{is_itself}
use Rattle.ix_source.specs.Running.{owner, param_owner}
use Rattle.ix_plain.specs.Program.{first_param}
use Rattle.ix_source.specs.SoundBodies.{IsEntry}
use Rattle.ix_source.specs.WellNamed.{Owned}

-- parameters in later slots don't take an earlier one
owner_before : (number : ℕ) (table : Names) (first : ℕ) (ds : List LocalDecl) (slot : ℕ) (found : Option Meaning) → slot < first → param_owner number (params_of table first ds) slot found ≡ found
owner_before number table first [] slot found lt = refl
owner_before number table first (d ∷ ds) slot found lt =
    let other : (first == slot) ≡ false = by_test (first == slot) (λ t. let e = equal first slot t in absurd (omega (arith, e, lt))) (λ f. f) in
    ap (λ b. param_owner (number + 1) (params_of table (first + 1) ds) slot (if b then Some (meaning.Param number) else found)) other ∙ owner_before (number + 1) table (first + 1) ds slot found (omega (arith, lt))

-- each parameter owns its slot
param_owns : (number : ℕ) (table : Names) (first : ℕ) (ds : List LocalDecl) (j : ℕ) (found : Option Meaning) → j < length ds → param_owner number (params_of table first ds) (first + j) found ≡ Some (meaning.Param (number + j))
param_owns number table first [] j found lt = absurd (omega (arith, lt))
param_owns number table first (d ∷ ds) zero found lt =
    let e : first + 0 ≡ first = omega arith in
    let n : number ≡ number + 0 = omega arith in
    ap (λ slot. param_owner (number + 1) (params_of table (first + 1) ds) slot (if first == slot then Some (meaning.Param number) else found)) e
    ∙ ap (λ b. param_owner (number + 1) (params_of table (first + 1) ds) first (if b then Some (meaning.Param number) else found)) (is_itself first)
    ∙ owner_before (number + 1) table (first + 1) ds first (Some (meaning.Param number)) (omega arith) ∙ ap (λ n. Some (meaning.Param n)) n
param_owns number table first (d ∷ ds) (suc j) found lt =
    let e : first + suc j ≡ (first + 1) + j = omega arith in
    let n : (number + 1) + j ≡ number + suc j = omega arith in
    ap (λ slot. param_owner (number + 1) (params_of table (first + 1) ds) slot (if first == slot then Some (meaning.Param number) else found)) e
    ∙ param_owns (number + 1) table (first + 1) ds j (if first == (first + 1) + j then Some (meaning.Param number) else found) (omega (arith, lt)) ∙ ap (λ n. Some (meaning.Param n)) n

-- an owner is one of them
owner_found : (number : ℕ) (table : Names) (first : ℕ) (ds : List LocalDecl) (slot : ℕ) (found : Option Meaning) (m : Meaning) → param_owner number (params_of table first ds) slot found ≡ Some m
    → (found ≡ Some m) ⊎ ((j : ℕ) × (j < length ds) × (m ≡ meaning.Param (number + j)) × (slot ≡ first + j))
owner_found number table first [] slot found m e = inl e
owner_found number table first (d ∷ ds) slot found m e =
    go (owner_found (number + 1) table (first + 1) ds slot (if first == slot then Some (meaning.Param number) else found) m e)
  where
    unsome : (a b : Meaning) → Some a ≡ Some b → a ≡ b
    unsome a b e = cc e

    here : (b : Bool) → (first == slot) ≡ b → (if b then Some (meaning.Param number) else found) ≡ Some m → (found ≡ Some m) ⊎ ((j : ℕ) × (j < length (d ∷ ds)) × (m ≡ meaning.Param (number + j)) × (slot ≡ first + j))
    here true is e =
        let at = equal first slot is in
        let n : number ≡ number + 0 = omega arith in
        inr (0, omega arith, sym (unsome (meaning.Param number) m e) ∙ ap meaning.Param n, omega (arith, at))
    here false is e = inl e

    go : ((if first == slot then Some (meaning.Param number) else found) ≡ Some m) ⊎ ((j : ℕ) × (j < length ds) × (m ≡ meaning.Param ((number + 1) + j)) × (slot ≡ (first + 1) + j))
        → (found ≡ Some m) ⊎ ((j : ℕ) × (j < length (d ∷ ds)) × (m ≡ meaning.Param (number + j)) × (slot ≡ first + j))
    go (inl e) = here (first == slot) refl e
    go (inr (j, lt, is, at)) =
        let n : (number + 1) + j ≡ number + suc j = omega arith in
        inr (suc j, omega (arith, lt), is ∙ ap meaning.Param n, omega (arith, at))

slot_at : (table : Names) (first : ℕ) (ds : List LocalDecl) (j : ℕ) → j < length ds → slot_in_params (slice_get (params_of table first ds) j) ≡ first + j
slot_at table first [] j lt = absurd (omega (arith, lt))
slot_at table first (d ∷ ds) zero lt = omega arith
slot_at table first (d ∷ ds) (suc j) lt = let e = slot_at table (first + 1) ds j (omega (arith, lt)) in omega (arith, e)

module _ (site : Site) (table : Names) (first : ℕ) (all : List LocalDecl) (params : site.params ≡ params_of table first all) (scope : Scope) (same : scope.site ≡ site) where
  one_owned : (j : ℕ) → j < length all → owner site [] (slot_of scope (Some (meaning.Param j))) ≡ Some (meaning.Param j)
  one_owned j lt =
      let slot : slot_of scope (Some (meaning.Param j)) ≡ first + j = ap (λ (s : Site). slot_in_params (slice_get s.params j)) same ∙ ap (λ (ps : List Local). slot_in_params (slice_get ps j)) params ∙ slot_at table first all j lt in
      ap (owner site []) slot ∙ ap (λ (ps : List Local). param_owner 0 ps (first + j) None) params ∙ param_owns 0 table first all j None lt ∙ ap (λ n. Some (meaning.Param n)) zero_more
    where
      zero_more : 0 + j ≡ j
      zero_more = omega arith

  pub params_owned : (l : Place) (k : ℕ) (ds : List LocalDecl) → k + length ds ≤ length all → Owned (owner site []) scope (source.params_from l k ds)
  params_owned l k [] le = tt
  params_owned l k (d ∷ ds) le = (one_owned k (omega (arith, le)), params_owned l (k + 1) ds (omega (arith, le)))

  -- What is so of the slots at the entry.
  pub entry_is : (is_static : Bool) (free : ℕ) → first ≡ first_param is_static → free ≡ first + length all → IsEntry site is_static (length all) free
  entry_is is_static free e room = record {
    param = λ slot m own. found slot m (owner_found 0 table first all slot None m (sym (ap (λ (ps : List Local). param_owner 0 ps slot None) params) ∙ own));
    owned = λ k lt. ap (λ n. owner site [] (n + k)) (sym e) ∙ ap (λ (ps : List Local). param_owner 0 ps (first + k) None) params ∙ param_owns 0 table first all k None lt ∙ ap (λ n. Some (meaning.Param n)) (zero_plus k);
    behind = room ∙ ap (λ n. n + length all) e;
  }
    where
      zero_plus : (k : ℕ) → 0 + k ≡ k
      zero_plus k = omega arith

      found : (slot : ℕ) (m : Meaning) → (◌≡◌ {A = Option Meaning} None (Some m)) ⊎ ((j : ℕ) × (j < length all) × (m ≡ meaning.Param (0 + j)) × (slot ≡ first + j)) → (k : ℕ) × (k < length all) × (m ≡ meaning.Param k) × (slot ≡ first_param is_static + k)
      found slot m (inl e) = absurd (cc e)
      found slot m (inr (j, lt, is, at)) = (j, lt, is ∙ ap meaning.Param (zero_plus j), at ∙ ap (λ n. n + j) e)
