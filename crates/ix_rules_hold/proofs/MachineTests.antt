-- What a test of the machine tells of the numbers of paths, and what its claims say of them.
use Rattle.std.specs.Prelude.{◌≡◌, ℕ, ℤ, Bool, true, false, not, List, refl}
use Rattle.std.specs.Ordering.{int_eq}
use Rattle.std.proofs.Common.{arith, sym, ap, ◌∙◌}
use Rattle.std.proofs.lemmas.Bool.{false≢true}
use Rattle.std.proofs.lemmas.Bool.Decides.{Decides-int_eq}
use Rattle.std.proofs.lemmas.Int.{ints}
use Rattle.ix_num.specs.Comparisons.{Compares}
use Rattle.ix_num.specs.declared.rel.Rel.{Rel}
use Rattle.ix_num.specs.declared.rel.Rel.TheVariants.{Lt, Le, Gt, Ge, Eq, Ne}
use Rattle.ix_core.specs.declared.claim.Base.TheVariants as base
use Rattle.ix_core.specs.declared.claim.Claim.{Claim}
use Rattle.ix_core.specs.declared.claim.Claim.TheVariants as claim
use Rattle.ix_core.specs.declared.claim.Name.{Name}
use Rattle.ix_core.specs.declared.claim.Name.TheVariants.{Param, Local, FieldNamed}
use Rattle.ix_core.specs.declared.claim.Off.TheVariants as off
use Rattle.ix_core.specs.declared.claim.Type_.{Type_}
use Rattle.ix_core.specs.declared.claim.Type_.TheVariants as type
use Rattle.ix_core.specs.declared.fact.Path.{Path}
use Rattle.ix_core.specs.declared.fact.Path.TheVariants.{Slot, FieldOf}
use Rattle.ix_core.specs.declared.program.Method.{Method}
use Rattle.ix_core.specs.Claims.{True}
use Rattle.ix_core.specs.World.{World}
use Rattle.ix_core.specs.Objects.{field_readings}
use Rattle.ix_core.specs.Waits.{reading_through, param_readings}
use Rattle.ix_core.specs.Heap.{Held, Num, Boolean, Null, At, Heap, Places, value_at, size_of, reading_of}
use Rattle.ix_core.specs.Machine.{int_at, is_same, int_test, same_test, test_of}
use Rattle.ix_core.specs.Numbers.{Numbers, HasInts, numbers_of, field_of}
use Rattle.ix_core.proofs.Cases.{equal}
use Rattle.ix_facts.specs.AfterTest.{AllSo, array_outcomes, opposite, when_true, when_false}
use Rattle.ix_facts.specs.Assume.{ClaimHolds}
use Rattle.ix_facts.proofs.TestLaws.{int_outcomes_so}
use Rattle.ix_rules_hold.specs.MachineSteps.{on_paths, own_path, IsDeclared, reading_at}

-- ---- ints

not_false : (t : Bool) → not t ≡ false → t ≡ true
not_false true e = refl
not_false false e = sym e

true_false : (t : Bool) → t ≡ true → not t ≡ true → ⊥
true_false true t e = false≢true e
true_false false t e = false≢true t

int_true : (rel : Rel) (x y : ℤ) → int_test rel x y ≡ true → Compares rel x y
int_true Lt x y e = omega (arith, ints)
int_true Le x y e = omega (arith, ints)
int_true Gt x y e = omega (arith, ints)
int_true Ge x y e = omega (arith, ints)
int_true Eq x y e = (Decides-int_eq x y).0 e
int_true Ne x y e = λ i. true_false (int_eq x y) ((Decides-int_eq x y).1 i) e

int_false : (rel : Rel) (x y : ℤ) → int_test rel x y ≡ false → Compares (opposite rel) x y
int_false Lt x y e = omega (arith, ints)
int_false Le x y e = omega (arith, ints)
int_false Gt x y e = omega (arith, ints)
int_false Ge x y e = omega (arith, ints)
int_false Eq x y e = λ i. absurd (false≢true (sym e ∙ (Decides-int_eq x y).1 i))
int_false Ne x y e = (Decides-int_eq x y).0 (not_false (int_eq x y) e)

-- ---- references

same_size : (heap : Heap) (a b : Held) → is_same a b ≡ true → size_of heap a ≡ size_of heap b
same_size heap (At x) (At y) e = ap (λ n. size_of heap (At n)) (equal x y e)
same_size heap (At x) (Num y) e = absurd (false≢true e)
same_size heap (At x) (Boolean y) e = absurd (false≢true e)
same_size heap (At x) Null e = absurd (false≢true e)
same_size heap (Num x) (Num y) e = refl
same_size heap (Num x) (Boolean y) e = refl
same_size heap (Num x) Null e = refl
same_size heap (Num x) (At y) e = absurd (false≢true e)
same_size heap (Boolean x) (Num y) e = refl
same_size heap (Boolean x) (Boolean y) e = refl
same_size heap (Boolean x) Null e = refl
same_size heap (Boolean x) (At y) e = absurd (false≢true e)
same_size heap Null (Num y) e = refl
same_size heap Null (Boolean y) e = refl
same_size heap Null Null e = refl
same_size heap Null (At y) e = absurd (false≢true e)

module _ (place : Places) (slots : List Held) (heap : Heap) (keeps : HasInts place slots heap) (left right : ℕ) where
  arrays_true : (rel : Rel) → same_test rel (is_same (value_at slots left) (value_at slots right)) ≡ true → AllSo (array_outcomes rel (Slot left) (Slot right)) (numbers_of place slots heap keeps)
  arrays_true Eq e = (same_size heap (value_at slots left) (value_at slots right) e, tt)
  arrays_true Lt e = tt
  arrays_true Le e = tt
  arrays_true Gt e = tt
  arrays_true Ge e = tt
  arrays_true Ne e = tt

  arrays_false : (rel : Rel) → same_test rel (is_same (value_at slots left) (value_at slots right)) ≡ false → AllSo (array_outcomes (opposite rel) (Slot left) (Slot right)) (numbers_of place slots heap keeps)
  arrays_false Ne e = (same_size heap (value_at slots left) (value_at slots right) (not_false (is_same (value_at slots left) (value_at slots right)) e), tt)
  arrays_false Lt e = tt
  arrays_false Le e = tt
  arrays_false Gt e = tt
  arrays_false Ge e = tt
  arrays_false Eq e = tt

  pub told_true : (ty : Type_) (rel : Rel) → test_of ty rel (value_at slots left) (value_at slots right) ≡ true → AllSo (when_true ty rel (Slot left) (Slot right)) (numbers_of place slots heap keeps)
  told_true (type.Plain base.Int) rel e = int_outcomes_so (numbers_of place slots heap keeps) rel (Slot left) (Slot right) (int_true rel (int_at slots left) (int_at slots right) e)
  told_true (type.Plain base.Bool) rel e = tt
  told_true (type.Plain (base.Class class)) rel e = tt
  told_true (type.Array of depth element) rel e = arrays_true rel e
  told_true type.Void rel e = tt

  pub told_false : (ty : Type_) (rel : Rel) → test_of ty rel (value_at slots left) (value_at slots right) ≡ false → AllSo (when_false ty rel (Slot left) (Slot right)) (numbers_of place slots heap keeps)
  told_false (type.Plain base.Int) rel e = int_outcomes_so (numbers_of place slots heap keeps) (opposite rel) (Slot left) (Slot right) (int_false rel (int_at slots left) (int_at slots right) e)
  told_false (type.Plain base.Bool) rel e = tt
  told_false (type.Plain (base.Class class)) rel e = tt
  told_false (type.Array of depth element) rel e = arrays_false rel e
  told_false type.Void rel e = tt

-- ---- claims

module _ (v : Numbers) (path : Name → Path) (p : Path) where
  pub claim_holds : (c : Claim) → True c (reading_at v p) (λ name. reading_at v (path name)) → ClaimHolds (on_paths path c) p v
  claim_holds (claim.Range low high) h = h
  claim_holds (claim.Low low) h = h
  claim_holds (claim.Length least) h = h
  claim_holds (claim.Same other) h = h
  claim_holds (claim.Less name constant) h = h
  claim_holds (claim.Upper array off.Nothing constant) h = omega (arith, ints)
  claim_holds (claim.Upper array (off.Plus name) constant) h = omega (arith, ints)
  claim_holds (claim.Upper array (off.Minus name) constant) h = omega (arith, ints)
  claim_holds (claim.Search array) h = (omega (arith, ints), omega (arith, ints))
  claim_holds (claim.Negative array) h = (omega (arith, ints), omega (arith, ints))

  pub claim_true : (c : Claim) → ClaimHolds (on_paths path c) p v → True c (reading_at v p) (λ name. reading_at v (path name))
  claim_true (claim.Range low high) h = h
  claim_true (claim.Low low) h = h
  claim_true (claim.Length least) h = h
  claim_true (claim.Same other) h = h
  claim_true (claim.Less name constant) h = h
  claim_true (claim.Upper array off.Nothing constant) h = omega (arith, ints)
  claim_true (claim.Upper array (off.Plus name) constant) h = omega (arith, ints)
  claim_true (claim.Upper array (off.Minus name) constant) h = omega (arith, ints)
  claim_true (claim.Search array) h = (omega (arith, ints), omega (arith, ints))
  claim_true (claim.Negative array) h = (omega (arith, ints), omega (arith, ints))

-- ---- what names stand for

pub through_is : (world : World) (heap : Heap) (held : Held) (field : ℕ) → reading_through world heap held field ≡ reading_of heap (field_of world.place heap field held)
through_is world heap (At number) field = refl
through_is world heap (Num n) field = refl
through_is world heap (Boolean answer) field = refl
through_is world heap Null field = refl

pub parameter_is : (world : World) (method : Method) (slots : List Held) (heap : Heap) (keeps : HasInts world.place slots heap) (name : Name) → IsDeclared name
    → param_readings world method slots heap name ≡ reading_at (numbers_of world.place slots heap keeps) (own_path method name)
parameter_is world method slots heap keeps (Param number) is = refl
parameter_is world method slots heap keeps (Local number) is = absurd is
parameter_is world method slots heap keeps (FieldNamed field) is = through_is world heap (value_at slots 0) field

pub field_is : (world : World) (slots : List Held) (heap : Heap) (keeps : HasInts world.place slots heap) (slot object field : ℕ) → value_at slots slot ≡ At object
    → field_readings world heap object (FieldNamed field) ≡ reading_at (numbers_of world.place slots heap keeps) (FieldOf slot field)
field_is world slots heap keeps slot object field e = ap (λ held. reading_of heap (field_of world.place heap field held)) (sym e)
