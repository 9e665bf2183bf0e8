-- A call: the slots of the new frame, and a new object.
use Rattle.std.specs.Prelude.{◌≡◌, ◌⊎◌, ℕ, zero, suc, ◌+◌, ◌-◌, ◌<◌, ◌≤◌, ◌==◌, nat_lt, pos, List, [], ◌∷◌, ◌++◌, length, map, replicate, slice_get, Option, None, Some, unwrap_or, refl}
use Rattle.std.proofs.Common.{arith, sym, ap, ◌∙◌, subst, inl, inr, ⊎_elim}
use Rattle.std.proofs.lemmas.Bool.Decides.{nat_tests}
use Rattle.std.proofs.lemmas.Int.{ints}
use Rattle.std.proofs.lemmas.List.{length-append, length-replicate}
use Rattle.std.proofs.lemmas.Option.{slice_get_past}
use Rattle.ix_core.specs.declared.claim.Name.{Name}
use Rattle.ix_core.specs.declared.claim.Name.TheVariants.{Param, Local, FieldNamed}
use Rattle.ix_core.specs.declared.op.Arg.{Arg}
use Rattle.ix_core.specs.declared.op.CallOp.{CallOp}
use Rattle.ix_core.specs.declared.program.Method.{Method}
use Rattle.ix_core.specs.Claims.{AreTrue}
use Rattle.ix_core.specs.Heap.{Held, Reading, no_reading, Num, Boolean, Null, At, Heap, Object, Kind, ObjectOf, ArrayOf, Places, nothing, value_at, object_at, array_cells, place_in, cell_of, field_value, reading_of}
use Rattle.ix_core.specs.Machine.{CallKind, Static, Instance, New, Super, call_values, slots_with}
use Rattle.ix_core.specs.Objects.{IsOn, IsIntHeld, KeepsInts}
use Rattle.ix_core.specs.Objects.{Later, IsSame, MeetsField, MeetsFields, MeetsElement, kind_claims, field_readings, IsFree, HeapKeeps, IsOwn}
use Rattle.ix_core.specs.Waits.{AreNotOwn, MeetParams, param_readings, reading_through, AreFresh}
use Rattle.ix_core.specs.Analysis.{IsWorld, IsDefault}
use Rattle.ix_core.specs.World.{World}
use Rattle.ix_core.proofs.Heaps.{grown_old, grown_new}
use Rattle.ix_core.proofs.Waiting.{later_push, free_grows}
use Rattle.ix_core.proofs.Cases.{by_test, equal, differ}
use Rattle.ix_core.specs.Tables.{param_slot}

-- ---- lists

pub at_pushed : {T : Type 0} (d : T) (P : ℕ → T → Type 0) (xs : List T) (y : T) → P (length xs) y → ((k : ℕ) → P k (unwrap_or (slice_get xs k) d)) → (k : ℕ) → P k (unwrap_or (slice_get (xs ++ y ∷ []) k) d)
at_pushed d P [] y here each zero = here
at_pushed d P [] y here each (suc k) = each (suc k)
at_pushed d P (x ∷ xs) y here each zero = each zero
at_pushed d P (x ∷ xs) y here each (suc k) = at_pushed d (λ j. P (suc j)) xs y here (λ j. each (suc j)) k

zeros_at : (n k : ℕ) → value_at (replicate n (Num (pos 0))) k ≡ Num (pos 0)
zeros_at zero k = refl
zeros_at (suc n) zero = refl
zeros_at (suc n) (suc k) = zeros_at n k

padded : (values : List Held) (n k : ℕ) → value_at (values ++ replicate n (Num (pos 0))) k ≡ value_at values k
padded [] n k = zeros_at n k
padded (x ∷ values) n zero = refl
padded (x ∷ values) n (suc k) = padded values n k

-- a new frame holds the values, and 0 behind them, which a list holds behind its end too
pub slots_are : (count : ℕ) (values : List Held) (k : ℕ) → value_at (slots_with count values) k ≡ value_at values k
slots_are count values k = padded values (count - length values) k

pub slots_length : (count : ℕ) (values : List Held) → length values ≤ count → length (slots_with count values) ≡ count
slots_length count values le =
    let a = length-append values (replicate (count - length values) (Num (pos 0))) in
    let b = length-replicate (count - length values) (Num (pos 0)) in
    omega (arith, a, b, le)

args_length : (a b : List Held) (args : List Arg) → length (map (λ arg. value_at a arg.slot) args) ≡ length (map (λ arg. value_at b arg.slot) args)
args_length a b [] = refl
args_length a b (arg ∷ args) = ap suc (args_length a b args)

pub values_length : (kind : CallKind) (call : CallOp) (n m : ℕ) (a b : List Held) → length (call_values kind call n a) ≡ length (call_values kind call m b)
values_length Static call n m a b = args_length a b call.args
values_length Instance call n m a b = ap suc (args_length a b call.args)
values_length (New class) call n m a b = ap suc (args_length a b call.args)
values_length Super call n m a b = ap suc (args_length a b call.args)

pub args_each : (caller : Method) (P : Held → Type 0) (slots : List Held) (args : List Arg) → AreNotOwn caller args → P (Num (pos 0)) → ((slot : ℕ) → (IsOwn caller slot → ⊥) → P (value_at slots slot))
    → (k : ℕ) → P (value_at (map (λ arg. value_at slots arg.slot) args) k)
args_each caller P slots [] hidden z each k = z
args_each caller P slots (arg ∷ args) hidden z each zero = each arg.slot hidden.0
args_each caller P slots (arg ∷ args) hidden z each (suc k) = args_each caller P slots args hidden.1 z each k

pub first_and : (P : ℕ → Held → Type 0) (x : Held) (values : List Held) → P 0 x → ((k : ℕ) → P (suc k) (value_at values k)) → (k : ℕ) → P k (value_at (x ∷ values) k)
first_and P x values here each zero = here
first_and P x values here each (suc k) = each k

-- ---- claims, where values and readings are the same

names_same : (world : World) (method : Method) (a b : List Held) (heap : Heap) → ((k : ℕ) → value_at a k ≡ value_at b k) → (name : Name) → param_readings world method a heap name ≡ param_readings world method b heap name
names_same world method a b heap same (Param number) = ap (reading_of heap) (same (param_slot method number))
names_same world method a b heap same (Local number) = refl
names_same world method a b heap same (FieldNamed field) = ap (λ held. reading_through world heap held field) (same 0)

-- claims are true of the same readings
pub true_same : (claims : _) (v w : Reading) (f g : Name → Reading) → v ≡ w → ((name : Name) → f name ≡ g name) → AreTrue claims v f → AreTrue claims w g
true_same claims v w f g e same is =
    let fun : f ≡ g = λ i name. same name i in
    subst (λ h. AreTrue claims w h) fun (subst (λ n. AreTrue claims n f) e is)

pub params_same : (world : World) (method : Method) (a b : List Held) (heap : Heap) → ((k : ℕ) → value_at a k ≡ value_at b k) → MeetParams world method a heap → MeetParams world method b heap
params_same world method a b heap same met number param at =
    true_same param.claims _ _ (param_readings world method a heap) (param_readings world method b heap) (ap (reading_of heap) (same (param_slot method number))) (names_same world method a b heap same) (met number param at)

field_names_same : (world : World) (a b : Heap) (object : ℕ) → ((field : ℕ) → reading_of a (field_value world.place a object field) ≡ reading_of b (field_value world.place b object field))
    → (name : Name) → field_readings world a object name ≡ field_readings world b object name
field_names_same world a b object same (Param number) = refl
field_names_same world a b object same (Local number) = refl
field_names_same world a b object same (FieldNamed field) = same field

pub meets_same : (world : World) (a b : Heap) (object field : ℕ) → ((f : ℕ) → reading_of a (field_value world.place a object f) ≡ reading_of b (field_value world.place b object f))
    → MeetsField world a object field → MeetsField world b object field
meets_same world a b object field same met = true_same (world.field_claims field) _ _ (field_readings world a object) (field_readings world b object) (same field) (field_names_same world a b object same) met

-- ---- fields

pub none_some : {A : Type 0} (n : ℕ) → ◌≡◌ {A = Option ℕ} None (Some n) → A
none_some n e = absurd cc

-- what has a field is on the heap
pub has_on : (place : Places) (heap : Heap) (object field at : ℕ) → place_in place (object_at heap object).kind field ≡ Some at → object < length heap
has_on place heap object field at e =
    by_test (nat_lt object (length heap))
    (λ t. grind (arith, nat_tests))
    (λ t.
    let past : length heap ≤ object = grind (arith, nat_tests) in
    let is : object_at heap object ≡ nothing = ap (λ o. unwrap_or o nothing) (slice_get_past heap object past) in
    none_some at (subst (λ (th : Object). place_in place th.kind field ≡ Some at) is e))

length_at : (k : Kind) (xs ys : List Held) → length xs ≡ length ys → length (array_cells k xs) ≡ length (array_cells k ys)
length_at (ObjectOf class) xs ys l = refl
length_at (ArrayOf ty) xs ys l = l

length_later : (a b : Kind) (xs ys : List Held) → a ≡ b → length xs ≡ length ys → length (array_cells a xs) ≡ length (array_cells b ys)
length_later a b xs ys e l = subst (λ k. length (array_cells a xs) ≡ length (array_cells k ys)) e (length_at a xs ys l)

-- what is read of a value stays on a later heap
pub reading_later : (a b : Heap) (held : Held) → Later a b → IsOn a held → reading_of a held ≡ reading_of b held
reading_later a b (Num n) later on = refl
reading_later a b (Boolean answer) later on = refl
reading_later a b Null later on = refl
reading_later a b (At k) later on =
    let x = later k on in
    ap (λ n. record { int = pos 0; size = pos n }) (length_later (object_at a k).kind (object_at b k).kind (object_at a k).cells (object_at b k).cells x.kind x.size)

pub cell_each : (P : Held → Type 0) (cells : List Held) (at : Option ℕ) → P Null → ((k : ℕ) → P (value_at cells k)) → P (cell_of cells at)
cell_each P cells None null each = null
cell_each P cells (Some at) null each = each at

pub free_on : (building : ℕ → Type 0) (heap : Heap) (held : Held) → IsFree building heap held → IsOn heap held
free_on building heap (At number) free = free.0
free_on building heap (Num n) free = tt
free_on building heap (Boolean answer) free = tt
free_on building heap Null free = tt

pub field_on : (world : World) (building : ℕ → Type 0) (heap : Heap) → HeapKeeps world building heap → (object field : ℕ) → IsOn heap (field_value world.place heap object field)
field_on world building heap keeps object field =
    cell_each (IsOn heap) (object_at heap object).cells (place_in world.place (object_at heap object).kind field) tt (λ k. free_on building heap (value_at (object_at heap object).cells k) (keeps.free object k))

-- ---- a new object

default_free : (building : ℕ → Type 0) (heap : Heap) (held : Held) → IsDefault held → IsFree building heap held
default_free building heap (Num n) is = tt
default_free building heap (Boolean answer) is = tt
default_free building heap Null is = tt
default_free building heap (At k) is = absurd is

pub default_int : (held : Held) → IsDefault held → IsIntHeld held
default_int (Num n) is = record { from = omega (arith, ints, is); to = omega (arith, ints, is) }
default_int (Boolean answer) is = tt
default_int Null is = tt
default_int (At k) is = tt

pub default_reading : (heap : Heap) (held : Held) → IsDefault held → reading_of heap held ≡ no_reading
default_reading heap (Num n) is = ap (λ m. record { int = m; size = pos 0 }) is
default_reading heap (Boolean answer) is = refl
default_reading heap Null is = refl
default_reading heap (At k) is = absurd is

module _ (world : World) (tables : IsWorld world) (building : ℕ → Type 0) (heap : Heap) (class : ℕ) where
  abbrev pub new_object : Object
  new_object = record { kind = ObjectOf class; cells = world.fresh_fields class }

  abbrev pub grown : Heap
  grown = heap ++ new_object ∷ []

  abbrev pub with_new : ℕ → Type 0
  with_new object = building object ⊎ (object ≡ length heap)

  pub new_old : (object : ℕ) → with_new object → building object ⊎ (length heap ≤ object)
  new_old object is = ⊎_elim (λ b. inl b) (λ e. inr (omega (arith, e))) is

  pub new_same : (object field : ℕ) → object < length heap → IsSame world heap grown object field
  new_same object field lt = sym (ap (λ (th : Object). cell_of th.cells (place_in world.place th.kind field)) (grown_old heap new_object object lt))

  new_built : HeapKeeps world building heap → (object : ℕ) → (with_new object → ⊥) → MeetsFields world grown object
  new_built keeps object other field has =
      let long : length grown ≡ length heap + 1 = length-append heap (new_object ∷ []) in
      let on = has_on world.place grown object field has.0 has.1 in
      by_test (object == length heap)
      (λ t. absurd (other (inr (equal object (length heap) t))))
      (λ t.
      let apart = differ object (length heap) t in
      let lt : object < length heap = omega (arith, on, long, apart) in
      let later = later_push heap new_object in
      meets_same world heap grown object field
      (λ f. reading_later heap grown (field_value world.place heap object f) later (field_on world building heap keeps object f) ∙ ap (reading_of grown) (new_same object f lt))
      (keeps.built object (λ b. other (inl b)) field (has.0, ap (λ (th : Object). place_in world.place th.kind field) (sym (grown_old heap new_object object lt)) ∙ has.1)))

  pub new_keeps : HeapKeeps world building heap → HeapKeeps world with_new grown
  new_keeps keeps =
      let long : length grown ≡ length heap + 1 = length-append heap (new_object ∷ []) in
      let later = later_push heap new_object in record {
        bound = λ object is. ⊎_elim (λ b. let lt = keeps.bound object b in omega (arith, lt, long)) (λ e. omega (arith, e, long)) is;
        free = at_pushed nothing (λ k th. (place : ℕ) → IsFree with_new grown (value_at th.cells place)) heap new_object
            (λ place. default_free with_new grown (value_at (world.fresh_fields class) place) (tables.fresh class place))
            (λ k place. free_grows building with_new heap grown (value_at (object_at heap k).cells place) later new_old (keeps.free k place));
        built = new_built keeps;
        elements = at_pushed nothing (λ k th. (place : ℕ) → place < length (array_cells th.kind th.cells) → MeetsElement (kind_claims th.kind) (value_at (array_cells th.kind th.cells) place)) heap new_object
            (λ place lt. absurd (omega (arith, lt))) keeps.elements;
        room = at_pushed nothing (λ k th. (field place : ℕ) → place_in world.place th.kind field ≡ Some place → place < length th.cells) heap new_object
            (λ field place e. tables.room class field place e) keeps.room;
      }

  pub new_ints : (slots : List Held) → KeepsInts slots heap → KeepsInts slots grown
  new_ints slots ints = record {
    held = ints.held;
    within = at_pushed nothing (λ k th. (place : ℕ) → IsIntHeld (value_at th.cells place)) heap new_object (λ place. default_int (value_at (world.fresh_fields class) place) (tables.fresh class place)) ints.within;
    sizes = at_pushed nothing (λ k th. length (array_cells th.kind th.cells) ≤ 2147483647) heap new_object (omega arith) ints.sizes;
  }

  -- the new object's fields read as 0
  pub new_fresh : AreFresh world grown (length heap) class
  new_fresh field has =
      default_reading grown (field_value world.place grown (length heap) field)
      (subst (λ (th : Object). IsDefault (cell_of th.cells (place_in world.place th.kind field))) (sym (grown_new heap new_object))
      (cell_each IsDefault (world.fresh_fields class) (world.place class field) tt (tables.fresh class)))
