-- Where no error of a write of a field is derived, a built object meets the claims of its fields behind it.
use Rattle.std.specs.Prelude.{◌≡◌, ℕ, zero, suc, ◌+◌, ◌<◌, ◌==◌, Bool, true, false, not, ◌||◌, if◌then◌else◌, List, [], ◌∷◌, filter, length, slice_get, Option, Some, unwrap_or, refl}
use Rattle.std.proofs.Common.{arith, sym, ap, ◌∙◌, subst}
use Rattle.std.proofs.lemmas.Bool.{and_parts, false≢true}
use Rattle.std.proofs.lemmas.Bool.Decides.{nat_tests}
use Rattle.ix_core.specs.declared.claim.Claim.{Claim}
use Rattle.ix_core.specs.declared.claim.Name.{Name}
use Rattle.ix_core.specs.declared.claim.Name.TheVariants.{FieldNamed}
use Rattle.ix_core.specs.declared.claim.Type_.{Type_}
use Rattle.ix_core.specs.declared.fact.Fact.{Fact}
use Rattle.ix_core.specs.declared.fact.Path.TheVariants.{FieldOf}
use Rattle.ix_core.specs.declared.program.Field.{Field}
use Rattle.ix_core.specs.declared.program.Method.{Method}
use Rattle.ix_core.specs.declared.program.Program.{Program}
use Rattle.ix_core.specs.Analysis.{IsWorld}
use Rattle.ix_core.specs.Claims.{True, AreTrue}
use Rattle.ix_core.specs.Formed.{is_formed}
use Rattle.ix_core.specs.Heap.{Held, At, Heap, Reading, value_at, object_at}
use Rattle.ix_core.specs.Numbers.{Numbers, HasInts, numbers_of}
use Rattle.ix_core.specs.Objects.{HasField, MeetsField, field_readings, IsFree, HeapKeeps, FrameKeeps, IsOwn, Names, claim_names}
use Rattle.ix_core.specs.Tables.{no_field, method_at, field_at}
use Rattle.ix_core.specs.World.{World}
use Rattle.ix_core.proofs.Cases.{by_test, equal}
use Rattle.ix_facts.specs.Closure.{kept}
use Rattle.ix_facts.specs.Exact.{if_so}
use Rattle.ix_facts.specs.Facts.{AllHold}
use Rattle.ix_facts.specs.Stores.{Stored, Meets, with_facts}
use Rattle.ix_facts.proofs.ClosureLaws.{kept_hold}
use Rattle.ix_facts.proofs.FactLists.{all_hold_app}
use Rattle.ix_facts.proofs.StepLaws.{gives_meets}
use Rattle.ix_rules_hold.specs.MachineSteps.{reading_at, own_slot}
use Rattle.ix_rules_hold.proofs.MachineTests.{field_is}
use Rattle.ix_signatures.specs.Names.{object_path, is_built, names_field, is_field, some_field}
use Rattle.ix_signatures.specs.Signs.{Adds, claims_facts, read_facts, write_facts, dependent_facts}
use Rattle.ix_soundness.specs.Direct.{direct}
use Rattle.ix_soundness.proofs.ClaimTruths.{claims_hold}
use Rattle.ix_soundness.proofs.FieldPlaces.{has_same}
use Rattle.ix_soundness.proofs.NamedClaims.{field_names}

-- facts that hold may be added
pub adds_hold : (new : List Fact) (s t : Stored) (v : Numbers) → AllHold new v → Adds new s t → Meets s v → Meets t v
adds_hold new s t v n gives meets = gives_meets (with_facts new) v v (λ facts h. all_hold_app v facts (kept new) h (kept_hold v new n)) s t gives meets

-- claims that are true one by one
pub each_are : (claims : List Claim) (r : Reading) (names : Name → Reading) → ((k : ℕ) (c : Claim) → slice_get claims k ≡ Some c → True c r names) → AreTrue claims r names
each_are [] r names each = tt
each_are (c ∷ claims) r names each = (each 0 c refl, each_are claims r names (λ k d is. each (suc k) d is))

pub are_each : (claims : List Claim) (r : Reading) (names : Name → Reading) → AreTrue claims r names → (k : ℕ) (c : Claim) → slice_get claims k ≡ Some c → True c r names
are_each [] r names are k c is = absurd cc
are_each (d ∷ claims) r names are zero c is = let same : d ≡ c = ap (λ (o : Option Claim). unwrap_or o d) is in subst (λ e. True e r names) same are.0
are_each (d ∷ claims) r names are (suc k) c is = are_each claims r names are.1 k c is

-- what is named is named by the claim
pub named_field : (field : ℕ) (names : List Name) (at : ℕ) → slice_get names at ≡ Some (FieldNamed field) → some_field field names ≡ true
named_field field [] at is = absurd cc
named_field field (name ∷ names) zero is =
    let same : name ≡ FieldNamed field = ap (λ (o : Option Name). unwrap_or o name) is in
    subst (λ n. (is_field field n || some_field field names) ≡ true) (sym same) (let h : (field == field) ≡ true = grind (arith, nat_tests) in rw h refl)
named_field field (name ∷ names) (suc at) is = or_later (is_field field name) (named_field field names at is)
  where
    or_later : (b : Bool) {c : Bool} → c ≡ true → (b || c) ≡ true
    or_later true e = refl
    or_later false e = e

module _ (program : Program) (locals : List (List Type_)) (formed : is_formed program locals ≡ true) (tables : IsWorld (direct program)) (number : ℕ) (slots : List Held) (heap : Heap)
    (building : ℕ → Type 0) (keeps : HeapKeeps (direct program) building heap) (frame : FrameKeeps building (method_at program number) slots heap) (ints_ : HasInts (direct program).place slots heap) where
  abbrev world : World
  world = direct program

  abbrev method : Method
  method = method_at program number

  abbrev v : Numbers
  v = numbers_of world.place slots heap ints_

  pub not_own : (slot : ℕ) → is_built method slot ≡ true → IsOwn method slot → ⊥
  not_own slot built own = false≢true (sym (rw (own.0, own.1) refl) ∙ built)

  pub built_of : (slot : ℕ) → (IsOwn method slot → ⊥) → is_built method slot ≡ true
  built_of slot other = by_test (own_slot method slot)
      (λ t. let parts = and_parts method.constructor (slot == 0) t in absurd (other (parts.0, equal slot 0 parts.1)))
      (λ t. rw t refl)

  -- ---- what a built object's claims say

  module _ (o k : ℕ) (holds : value_at slots o ≡ At k) (other : IsOwn method o → ⊥) where
    met : (f : ℕ) → HasField world (object_at heap k).kind f → MeetsField world heap k f
    met f has = keeps.built k (subst (IsFree building heap) holds (frame.free o other)).1 f has

    -- what a claim of a field names is read as the object's path
    name_read : (f : ℕ) (name : Name) → Names (field_at program f).claims name → field_readings world heap k name ≡ reading_at v (object_path o name)
    name_read f name named =
        let found = field_names program locals formed f name named in
        subst (λ n. field_readings world heap k n ≡ reading_at v (object_path o n)) (sym found.is) (field_is world slots heap ints_ o k found.other holds)

    pub read_holds : (f : ℕ) → HasField world (object_at heap k).kind f → AllHold (read_facts program o f) v
    read_holds f has =
        claims_hold (object_path o) (FieldOf o f) (field_at program f).claims v (field_readings world heap k (FieldNamed f)) (field_readings world heap k) (field_is world slots heap ints_ o k f holds) (name_read f) (met f has)

    -- and those of other fields that name it, which are of its class
    module _ (f : ℕ) (has : HasField world (object_at heap k).kind f) (plain : (field_at program f).is_final ≡ false) where
      named_class : (g : ℕ) (c : Claim) (at : ℕ) → slice_get (field_at program g).claims at ≡ Some c → names_field f c ≡ true → (field_at program f).class ≡ (field_at program g).class
      named_class g c at is names = by_names (claim_names c) (λ n name e. (at, n, c, is, e)) names
        where
          by_names : (names : List Name) → ((n : ℕ) (name : Name) → slice_get names n ≡ Some name → Names (field_at program g).claims name) → some_field f names ≡ true → (field_at program f).class ≡ (field_at program g).class
          by_names [] each e = absurd (false≢true e)
          by_names (name ∷ names) each e = by_test (is_field f name)
              (λ t. let found = field_names program locals formed g name (each 0 name refl) in
              let same : found.other ≡ f = is_it found.other (subst (λ n. is_field f n ≡ true) found.is t) in
              subst (λ h. (field_at program h).class ≡ (field_at program g).class) same (found.same (subst (λ h. (field_at program h).is_final ≡ false) (sym same) plain)))
              (λ t. by_names names (λ n other_name x. each (suc n) other_name x) (subst (λ b. (b || some_field f names) ≡ true) t e))
            where
              is_it : (h : ℕ) → (h == f) ≡ true → h ≡ f
              is_it h t = equal h f t

      one_holds : (g : ℕ) → g < length program.fields → AllHold (claims_facts (object_path o) (FieldOf o g) (filter (names_field f) (field_at program g).claims)) v
      one_holds g lt =
          claims_hold (object_path o) (FieldOf o g) (filter (names_field f) (field_at program g).claims) v (field_readings world heap k (FieldNamed g)) (field_readings world heap k) (field_is world slots heap ints_ o k g holds)
          (λ name named. name_read g name (unfiltered name named))
          (each_are (filter (names_field f) (field_at program g).claims) _ _ (λ n c at. let found = from_filter (names_field f) (field_at program g).claims n c at in
          are_each (field_at program g).claims _ _ (met g (has_same program locals formed (object_at heap k).kind f g has lt (sym (named_class g c found.0 found.1 found.2)))) found.0 c found.1))
        where
          from_filter : (is : Claim → Bool) (claims : List Claim) (n : ℕ) (c : Claim) → slice_get (filter is claims) n ≡ Some c → (at : ℕ) × (slice_get claims at ≡ Some c) × (is c ≡ true)
          from_filter is [] n c at = absurd cc
          from_filter is (d ∷ claims) n c at = by_test (is d)
              (λ t. taken n t (subst (λ b. slice_get (if b then d ∷ filter is claims else filter is claims) n ≡ Some c) t at) (λ m e. from_filter is claims m c e))
              (λ t. let rest = from_filter is claims n c (subst (λ b. slice_get (if b then d ∷ filter is claims else filter is claims) n ≡ Some c) t at) in (suc rest.0, rest.1, rest.2))
            where
              taken : (n : ℕ) → is d ≡ true → slice_get (d ∷ filter is claims) n ≡ Some c → ((m : ℕ) → slice_get (filter is claims) m ≡ Some c → (at : ℕ) × (slice_get claims at ≡ Some c) × (is c ≡ true)) → (at : ℕ) × (slice_get (d ∷ claims) at ≡ Some c) × (is c ≡ true)
              taken zero t e rec = let same : d ≡ c = ap (λ (x : Option Claim). unwrap_or x d) e in (0, e, subst (λ x. is x ≡ true) same t)
              taken (suc n) t e rec = let rest = rec n e in (suc rest.0, rest.1, rest.2)

          unfiltered : (name : Name) → Names (filter (names_field f) (field_at program g).claims) name → Names (field_at program g).claims name
          unfiltered name named = let found = from_filter (names_field f) (field_at program g).claims named.0 named.2 named.3 in (found.0, named.1, named.2, found.1, named.4)

      dependents_hold : (first : ℕ) (fields : List Field) → ((n : ℕ) → n < length fields → (field_at program (first + n) ≡ unwrap_or (slice_get fields n) no_field) × (first + n < length program.fields)) → AllHold (dependent_facts o f first fields) v
      dependents_hold first [] each = tt
      dependents_hold first (g ∷ fields) each =
          let here = each 0 (omega (arith)) in
          let e : first + 0 ≡ first = omega arith in
          let there : field_at program first ≡ g = subst (λ n. field_at program n ≡ g) e here.0 in
          let lt = here.1 in
          all_hold_app v (if_so (not (first == f)) (claims_facts (object_path o) (FieldOf o first) (filter (names_field f) g.claims))) (dependent_facts o f (suc first) fields)
          (if_holds (not (first == f)) (claims_facts (object_path o) (FieldOf o first) (filter (names_field f) g.claims)) (subst (λ (x : Field). AllHold (claims_facts (object_path o) (FieldOf o first) (filter (names_field f) x.claims)) v) there (one_holds first (omega (arith, lt, e)))))
          (dependents_hold (suc first) fields (λ n within. let next = each (suc n) (omega (arith, within)) in let d : first + suc n ≡ suc first + n = omega arith in
          (subst (λ m. field_at program m ≡ unwrap_or (slice_get fields n) no_field) d next.0, subst (λ m. m < length program.fields) d next.1)))
        where
          if_holds : (b : Bool) (facts : List Fact) → AllHold facts v → AllHold (if_so b facts) v
          if_holds true facts h = h
          if_holds false facts h = tt

      pub write_holds : AllHold (write_facts program o f) v
      write_holds = all_hold_app v (read_facts program o f) (dependent_facts o f 0 program.fields) (read_holds f has)
          (dependents_hold 0 program.fields (λ n lt. let e : n ≡ 0 + n = omega arith in (subst (λ m. field_at program m ≡ unwrap_or (slice_get program.fields n) no_field) e refl, subst (λ m. m < length program.fields) e lt)))
