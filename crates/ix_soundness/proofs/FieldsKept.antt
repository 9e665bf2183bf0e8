-- Behind a write of a field without errors a built object meets the claims of all its fields.
use Rattle.std.specs.Prelude.{◌≡◌, ℕ, zero, suc, ◌==◌, true, false, if◌then◌else◌, List, [], ◌∷◌, slice_get, Option, Some, unwrap_or, refl}
use Rattle.std.proofs.Common.{sym, ap, ◌∙◌, subst, ⊎_elim}
use Rattle.std.proofs.lemmas.Bool.{false≢true}
use Rattle.ix_text.specs.declared.span.Span.{Span}
use Rattle.ix_core.specs.declared.claim.Claim.{Claim}
use Rattle.ix_core.specs.declared.claim.Name.{Name}
use Rattle.ix_core.specs.declared.claim.Name.TheVariants.{FieldNamed}
use Rattle.ix_core.specs.declared.claim.Type_.{Type_}
use Rattle.ix_core.specs.declared.error.Error.{Error}
use Rattle.ix_core.specs.declared.error.Subject.TheVariants as subject
use Rattle.ix_core.specs.declared.fact.Path.TheVariants.{Slot, FieldOf}
use Rattle.ix_core.specs.declared.program.Method.{Method}
use Rattle.ix_core.specs.declared.program.Program.{Program}
use Rattle.ix_core.specs.Analysis.{IsWorld}
use Rattle.ix_core.specs.Claims.{True, AreTrue}
use Rattle.ix_core.specs.Formed.{is_formed}
use Rattle.ix_core.specs.Heap.{Held, At, Heap, Reading, value_at, object_at, place_in, field_value, reading_of, write_at}
use Rattle.ix_core.specs.Numbers.{Numbers, HasInts, numbers_of}
use Rattle.ix_core.specs.Objects.{HasField, MeetsField, MeetsFields, field_readings, HeapKeeps, FrameKeeps, IsOwn, Names, claim_names, Later, IsFree}
use Rattle.ix_core.specs.Tables.{method_at, field_at}
use Rattle.ix_core.specs.World.{World}
use Rattle.ix_core.proofs.Cases.{by_test, equal}
use Rattle.ix_core.proofs.Entered.{reading_later, field_on}
use Rattle.ix_core.proofs.FieldSteps.{write_later, write_same, write_value}
use Rattle.ix_core.proofs.Kept.{all_on}
use Rattle.ix_facts.specs.Assume.{ClaimHolds}
use Rattle.ix_facts.specs.Stores.{Stored, Meets}
use Rattle.ix_rules_hold.specs.MachineSteps.{on_paths, reading_at}
use Rattle.ix_rules_hold.proofs.MachineTests.{claim_true, field_is}
use Rattle.ix_rules_hold.proofs.KeptNumbers.{same_true}
use Rattle.ix_signatures.specs.Names.{written_path, is_built, names_field}
use Rattle.ix_signatures.specs.Signs.{Adds, write_facts}
use Rattle.ix_signatures.specs.SignErrors.{AllRefuse, FieldClaim, FieldDependent}
use Rattle.ix_soundness.specs.Direct.{direct}
use Rattle.ix_soundness.proofs.ClaimTruths.{true_named, none_fails}
use Rattle.ix_soundness.proofs.FieldsShown.{adds_hold, each_are, are_each, named_field, built_of, write_holds}
use Rattle.ix_soundness.proofs.NamedClaims.{field_names}
use Rattle.ix_soundness.proofs.Stable.{unrefused_by}

module _ (program : Program) (locals : List (List Type_)) (formed : is_formed program locals ≡ true) (tables : IsWorld (direct program)) (number : ℕ) (slots : List Held) (heap : Heap)
    (building : ℕ → Type 0) (keeps : HeapKeeps (direct program) building heap) (frame : FrameKeeps building (method_at program number) slots heap) (ints_ : HasInts (direct program).place slots heap)
    (s : Stored) (meets : Meets s (numbers_of (direct program).place slots heap ints_)) (o f x : ℕ) (span : Span)
    (no_claim : (error : Error) (rank : ℕ) → FieldClaim program (method_at program number) o f x span s error rank → ⊥) (no_dependent : (error : Error) (rank : ℕ) → FieldDependent program (method_at program number) o f x span s error rank → ⊥)
    (k cell : ℕ) (holds : value_at slots o ≡ At k) (placed : place_in (direct program).place (object_at heap k).kind f ≡ Some cell) (other : IsOwn (method_at program number) o → ⊥) (plain : (field_at program f).is_final ≡ false) where
  abbrev world : World
  world = direct program

  abbrev method : Method
  method = method_at program number

  abbrev v : Numbers
  v = numbers_of world.place slots heap ints_

  abbrev after : Heap
  after = write_at heap k cell (value_at slots x)

  later : Later heap after
  later = write_later world tables building method slots heap keeps frame o f k cell x holds placed

  built : is_built method o ≡ true
  built = built_of program locals formed tables number slots heap building keeps frame ints_ o other

  -- each store in which the object's claims are known is met
  known_met : (t : Stored) → Adds (write_facts program o f) s t → Meets t v
  known_met t gives = adds_hold (write_facts program o f) s t v (write_holds program locals formed tables number slots heap building keeps frame ints_ o k holds other f (cell, placed) plain) gives meets

  -- ---- what the fields read behind the write

  written_reads : reading_of after (field_value world.place after k f) ≡ reading_at v (Slot x)
  written_reads =
      ap (reading_of after) (write_value world tables building method slots heap keeps frame o f k cell x holds placed)
      ∙ sym (reading_later heap after (value_at slots x) later ((all_on world building method slots heap keeps frame).held x))

  other_reads : (g : ℕ) → (g == f) ≡ false → reading_of after (field_value world.place after k g) ≡ reading_at v (FieldOf o g)
  other_reads g apart =
      ⊎_elim
      (λ same. ap (reading_of after) (sym same) ∙ (sym (reading_later heap after (field_value world.place heap k g) later (field_on world building heap keeps k g)) ∙ field_is world slots heap ints_ o k g holds))
      (λ is. absurd (false≢true (sym (subst (λ n. (n == f) ≡ false) is.1 apart) ∙ same_number f)))
      (write_same world tables building method slots heap keeps frame o f k cell x holds placed k g)
    where
      same_number : (n : ℕ) → (n == n) ≡ true
      same_number n = same_true n n refl

  path_reads : (g : ℕ) → reading_of after (field_value world.place after k g) ≡ reading_at v (written_path o f x (FieldNamed g))
  path_reads g = by_test (g == f)
      (λ t. subst (λ n. reading_of after (field_value world.place after k n) ≡ reading_at v (written_path o f x (FieldNamed g))) (sym (equal g f t)) (written_reads ∙ ap (λ b. reading_at v (if b then Slot x else FieldOf o g)) (sym t)))
      (λ t. other_reads g t ∙ ap (λ b. reading_at v (if b then Slot x else FieldOf o g)) (sym t))

  name_reads : (g : ℕ) (name : Name) → Names (field_at program g).claims name → field_readings world after k name ≡ reading_at v (written_path o f x name)
  name_reads g name named =
      let found = field_names program locals formed g name named in
      subst (λ n. field_readings world after k n ≡ reading_at v (written_path o f x n)) (sym found.is) (path_reads found.other)

  -- ---- claims

  one_of : (g at : ℕ) (c : Claim) (name : Name) (n : ℕ) → slice_get (field_at program g).claims at ≡ Some c → slice_get (claim_names c) n ≡ Some name → Names (field_at program g).claims name
  one_of g at c name n is e = (at, n, c, is, e)

  -- a claim that holds of the paths is true behind the write
  holds_true : (g at : ℕ) (c : Claim) (r : Reading) (p : _) → slice_get (field_at program g).claims at ≡ Some c → r ≡ reading_at v p → ClaimHolds (on_paths (written_path o f x) c) p v → True c r (field_readings world after k)
  holds_true g at c r p is e holds_ =
      (true_named (c ∷ []) (reading_at v p) r (λ name. reading_at v (written_path o f x name)) (field_readings world after k) (sym e)
      (λ name named. sym (name_reads g name (one_name name named)))
      (claim_true v (written_path o f x) p c holds_, tt)).0
    where
      one_name : (name : Name) → Names (c ∷ []) name → Names (field_at program g).claims name
      one_name name (zero, n, d, first, e) = let same : c ≡ d = ap (λ (y : Option Claim). unwrap_or y c) first in one_of g at c name n is (subst (λ y. slice_get (claim_names y) n ≡ Some name) (sym same) e)
      one_name name (suc m, n, d, first, e) = absurd cc

  -- the written field's own
  own_true : AreTrue (field_at program f).claims (field_readings world after k (FieldNamed f)) (field_readings world after k)
  own_true = each_are (field_at program f).claims _ _
      (λ at c is. holds_true f at c (field_readings world after k (FieldNamed f)) (Slot x) is written_reads
      (unrefused_by (Adds (write_facts program o f) s) v (on_paths (written_path o f x) c) (Slot x)
      (none_fails (λ claim. AllRefuse (Adds (write_facts program o f) s) (on_paths (written_path o f x) claim) (Slot x)) (field_at program f).claims 7 span (subject.FieldNamed f)
      (λ error rank failed. no_claim error rank (record { built = built; of = failed })) at c is) known_met))

  -- and those of another, of which those that don't name it are as they were
  other_true : (g : ℕ) → (g == f) ≡ false → MeetsField world heap k g → AreTrue (field_at program g).claims (field_readings world after k (FieldNamed g)) (field_readings world after k)
  other_true g apart met = each_are (field_at program g).claims _ _ (λ at c is. by_test (names_field f c)
      (λ t. holds_true g at c (field_readings world after k (FieldNamed g)) (FieldOf o g) is (other_reads g apart)
      (unrefused_by (Adds (write_facts program o f) s) v (on_paths (written_path o f x) c) (FieldOf o g)
      (λ refused. none_fails (λ claim. (names_field f claim ≡ true) × AllRefuse (Adds (write_facts program o f) s) (on_paths (written_path o f x) claim) (FieldOf o g)) (field_at program g).claims 8 span (subject.FieldNamed g)
      (λ error rank failed. no_dependent error rank (record { built = built; other = g; apart = apart; of = failed })) at c is (t, refused)) known_met))
      (λ t. as_it_was at c is t (are_each (field_at program g).claims _ _ met at c is)))
    where
      kept_name : (h : ℕ) → (h == f) ≡ false → field_readings world heap k (FieldNamed h) ≡ field_readings world after k (FieldNamed h)
      kept_name h other_h = field_is world slots heap ints_ o k h holds ∙ sym (other_reads h other_h)

      as_it_was : (at : ℕ) (c : Claim) → slice_get (field_at program g).claims at ≡ Some c → names_field f c ≡ false → True c (field_readings world heap k (FieldNamed g)) (field_readings world heap k) → True c (field_readings world after k (FieldNamed g)) (field_readings world after k)
      as_it_was at c is t true_ = (true_named (c ∷ []) (field_readings world heap k (FieldNamed g)) (field_readings world after k (FieldNamed g)) (field_readings world heap k) (field_readings world after k) (kept_name g apart)
          (λ name named. same_name name named) (true_, tt)).0
        where
          not_named : (h : ℕ) (n : ℕ) → slice_get (claim_names c) n ≡ Some (FieldNamed h) → (h == f) ≡ false
          not_named h n e = by_test (h == f)
              (λ u. absurd (false≢true (sym t ∙ named_field f (claim_names c) n (subst (λ m. slice_get (claim_names c) n ≡ Some (FieldNamed m)) (equal h f u) e))))
              (λ u. u)

          same_name : (name : Name) → Names (c ∷ []) name → field_readings world heap k name ≡ field_readings world after k name
          same_name name (zero, n, d, first, e) =
              let same : c ≡ d = ap (λ (y : Option Claim). unwrap_or y c) first in
              let here : slice_get (claim_names c) n ≡ Some name = subst (λ y. slice_get (claim_names y) n ≡ Some name) (sym same) e in
              let found = field_names program locals formed g name (one_of g at c name n is here) in
              subst (λ m. field_readings world heap k m ≡ field_readings world after k m) (sym found.is) (kept_name found.other (not_named found.other n (subst (λ m. slice_get (claim_names c) n ≡ Some m) found.is here)))
          same_name name (suc m, n, d, first, e) = absurd cc

  pub written_meets : MeetsFields world after k
  written_meets g has = by_test (g == f)
      (λ t. subst (MeetsField world after k) (sym (equal g f t)) own_true)
      (λ t. other_true g t (keeps.built k (subst (IsFree building heap) holds (frame.free o other)).1 g (subst (λ kind. HasField world kind g) (sym (later k (subst (IsFree building heap) holds (frame.free o other)).0).kind) has)))
