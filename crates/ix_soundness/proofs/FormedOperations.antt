-- What an operation of a formed program has that fits the types at its place: its target may be assigned and is no operand, and its numbers are ints.
use Rattle.std.specs.Prelude.{◌≡◌, ◌⊎◌, ℕ, ◌+◌, ◌<◌, ◌≤◌, ◌==◌, Bool, true, false, not, if◌then◌else◌, List, length, Option, None, Some, refl}
use Rattle.std.proofs.Common.{arith, ap, subst, inl, inr}
use Rattle.std.proofs.lemmas.Bool.{and_parts}
use Rattle.std.proofs.lemmas.Bool.Decides.{nat_tests}
use Rattle.ix_text.specs.declared.span.Span.{Span}
use Rattle.ix_core.specs.declared.claim.Name.TheVariants.{Param}
use Rattle.ix_core.specs.declared.claim.Type_.{Type_}
use Rattle.ix_core.specs.declared.op.Literal.TheVariants as literal
use Rattle.ix_core.specs.declared.op.Op.{Op}
use Rattle.ix_core.specs.declared.op.OpKind.{OpKind}
use Rattle.ix_core.specs.declared.op.OpKind.TheVariants as op
use Rattle.ix_core.specs.declared.program.Method.{Method}
use Rattle.ix_core.specs.declared.program.Program.{Program}
use Rattle.ix_core.specs.Formed.{is_formed, at_most, is_slot, is_target, reads, field_fits, is_array_at, are_entries, literal_fits, op_fits, variable_type, copy_fits}
use Rattle.ix_core.specs.Heap.{Held, Heap}
use Rattle.ix_core.specs.Machine.{is_int}
use Rattle.ix_core.specs.Objects.{IsOwn, IsInput, This, Named, Promised, IntsOnly, Names, PostsName}
use Rattle.ix_core.specs.Tables.{method_at, param_slot, param_slots}
use Rattle.ix_core.specs.Typed.{SlotsTyped}
use Rattle.ix_core.specs.Types.{Types, int_type, cell_type, is_array, is_of}
use Rattle.ix_soundness.specs.Direct.{direct}
use Rattle.ix_core.proofs.FormedParts.{locals_of, ways_end}
use Rattle.ix_core.proofs.Kept.{int_is}
use Rattle.ix_core.proofs.TypedCalls.{not_static}
use Rattle.ix_core.proofs.TypedValues.{slot_there}
use Rattle.ix_facts.specs.After.{TargetApart}
use Rattle.ix_rules_hold.specs.MachineSteps.{HasTarget}
use Rattle.ix_soundness.specs.Clean.{IsClean}
use Rattle.ix_soundness.specs.Shown.{MayTake, Takes}
use Rattle.ix_soundness.proofs.NamedClaims.{result_names, promised_names}

not_same : (t s : ℕ) → not (t == s) ≡ true → (s == t) ≡ false
not_same t s e = grind (arith, nat_tests)

module _ (program : Program) (locals : List (List Type_)) (formed : is_formed program locals ≡ true) (number : ℕ) (lt : number < length program.methods) (slots : List Held) (heap : Heap) (types : Types)
    (size : length slots ≡ (method_at program number).slots) (typed : SlotsTyped program types slots heap) where
  abbrev method : Method
  method = method_at program number

  abbrev local_types : List Type_
  local_types = locals_of program locals formed number

  -- ---- targets

  past_params : (count slot : ℕ) (static : Bool) → method.is_static ≡ static → at_most (if static then count else count + 1) slot ≡ true → count + (if static then 0 else 1) ≤ slot
  past_params count slot true s e = grind (arith, nat_tests)
  past_params count slot false s e = grind (arith, nat_tests)

  param_at : (n : ℕ) (static : Bool) → method.is_static ≡ static → param_slot method n ≡ n + (if static then 0 else 1)
  param_at n true s = rw s omega arith
  param_at n false s = rw s refl

  first_at : (count slot : ℕ) → count + (if method.is_static then 0 else 1) ≤ slot → method.is_static ≡ false → 1 ≤ slot
  first_at count slot le s = (let h : count + 1 ≤ slot = subst (λ b. count + (if b then 0 else 1) ≤ slot) s le in omega (arith, h))

  not_own : (count slot : ℕ) → count + (if method.is_static then 0 else 1) ≤ slot → IsOwn method slot → ⊥
  not_own count slot le own = (let h = first_at count slot le (not_static program locals formed number lt own.0) in let z = own.1 in omega (arith, h, z))

  not_input : (slot : ℕ) → length method.params + (if method.is_static then 0 else 1) ≤ slot → IsInput method slot → ⊥
  not_input slot le (This s) = (let h = first_at (length method.params) 0 le s in omega (arith, h))
  not_input slot le (Named n names) = (let h = result_names program locals formed number lt (Param n) names in let e = param_at n method.is_static refl in omega (arith, le, h, e))
  not_input slot le (Promised n names) = (let h = promised_names program locals formed number lt (Param n) names in let e = param_at n method.is_static refl in omega (arith, le, h, e))

  -- a temporary
  pub may_take : (t : ℕ) → is_target program method t ≡ true → MayTake method slots t
  may_take t e =
      let parts = and_parts (is_slot program method t) (at_most (param_slots method) t) e in
      let le = past_params (length method.params) t method.is_static refl parts.1 in
      record { within = slot_there program (ways_end program locals formed) method types slots heap size typed t parts.0; input = not_input t le; own = not_own (length method.params) t le }

  -- a variable, which no claim of the result and no post names
  copy_takes : (variable : Option Type_) (t s : ℕ) (ty : Type_) (parts : List Span) → ((n : ℕ) → Names method.result_claims (Param n) ⊎ PostsName method.posts (Param n) → t ≡ param_slot method n → ⊥)
      → copy_fits program method local_types variable t s ty parts ≡ true → MayTake method slots t
  copy_takes None t s ty parts named e =
      let one = and_parts (length parts == 0) _ e in
      may_take t (and_parts (is_target program method t) _ one.1).0
  copy_takes (Some variable) t s ty parts named e =
      let one = and_parts (length parts == 2) _ e in
      let two = and_parts (is_of program ty variable) _ one.1 in
      let three = and_parts (is_slot program method t) (at_most (param_slot method 0) t) two.1 in
      let le = past_params 0 t method.is_static refl three.1 in record {
        within = slot_there program (ways_end program locals formed) method types slots heap size typed t three.0;
        input = no_input t le named;
        own = not_own 0 t le;
      }
    where
      no_input : (t : ℕ) → 0 + (if method.is_static then 0 else 1) ≤ t → ((n : ℕ) → Names method.result_claims (Param n) ⊎ PostsName method.posts (Param n) → t ≡ param_slot method n → ⊥) → IsInput method t → ⊥
      no_input t le named (This s) = (let h = first_at 0 0 le s in omega (arith, h))
      no_input t le named (Named n names) = named n (inl names) refl
      no_input t le named (Promised n names) = named n (inr names) refl

  -- ---- by operation

  abbrev Fits : Op → OpKind → Type 0
  Fits done kind = op_fits program method local_types (Some types) done kind ≡ true

  pub takes : (done : Op) (kind : OpKind) → Fits done kind → IsClean program method kind → Takes (direct program) method slots heap kind
  takes done (op.Const t value) e clean = may_take t (and_parts (is_target program method t) _ (and_parts (literal_fits program method value) _ e).1).0
  takes done (op.Copy t s ty) e clean =
      let one = and_parts (reads program method (Some types) s ty) _ e in
      let two = and_parts (not (t == s)) _ one.1 in
      copy_takes (variable_type program method local_types t done.span) t s ty done.parts (λ n names is. clean.named n s ty names (ap (λ k. op.Copy k s ty) is)) two.1
  takes done (op.Num t op_ y z) e clean =
      let one = and_parts (reads program method (Some types) y int_type) _ e in
      let two = and_parts (reads program method (Some types) z int_type) _ one.1 in
      may_take t (and_parts (is_target program method t) _ two.1).0
  takes done (op.Unary t unary y) e clean = may_take t (and_parts (is_target program method t) _ (and_parts (reads program method (Some types) y int_type) _ e).1).0
  takes done (op.Length t a) e clean =
      let one = and_parts (is_slot program method a) _ e in
      let two = and_parts (is_array_at (Some types) a) _ one.1 in
      may_take t (and_parts (is_target program method t) _ two.1).0
  takes done (op.NewArray t ty n) e clean =
      let one = and_parts (reads program method (Some types) n int_type) _ e in
      let two = and_parts (is_array program ty) _ one.1 in
      may_take t (and_parts (is_target program method t) _ two.1).0
  takes done (op.Fill t ty entries) e clean =
      let one = and_parts (is_array program ty) _ e in
      let two = and_parts (are_entries program method (Some types) t entries (cell_type ty)) _ one.1 in
      may_take t (and_parts (is_target program method t) _ two.1).0
  takes done (op.Load t a i ty) e clean =
      let one = and_parts (is_array program ty) _ e in
      let two = and_parts (reads program method (Some types) a ty) _ one.1 in
      let three = and_parts (reads program method (Some types) i int_type) _ two.1 in
      may_take t (and_parts (is_target program method t) _ three.1).0
  takes done (op.Store a i v ty) e clean = tt
  takes done (op.ReadField t o f) e clean = may_take t (and_parts (is_target program method t) _ (and_parts (field_fits program method (Some types) o f) _ e).1).0
  takes done (op.WriteField o f v) e clean = tt
  takes done (op.NewObject call) e clean = tt
  takes done (op.StaticCall call) e clean = tt
  takes done (op.InstanceCall call) e clean = tt
  takes done (op.SuperCall call) e clean = tt
  takes done (op.Print value) e clean = tt

  pub has_target : (kind : OpKind) → Takes (direct program) method slots heap kind → HasTarget kind slots
  has_target (op.Const t value) may = may.within
  has_target (op.Copy t s ty) may = may.within
  has_target (op.Num t op_ y z) may = may.within
  has_target (op.Unary t unary y) may = may.within
  has_target (op.Length t a) may = may.within
  has_target (op.NewArray t ty n) may = may.within
  has_target (op.Fill t ty entries) may = may.within
  has_target (op.Load t a i ty) may = may.within
  has_target (op.Store a i v ty) may = tt
  has_target (op.ReadField t o f) may = tt
  has_target (op.WriteField o f v) may = tt
  has_target (op.NewObject call) may = tt
  has_target (op.StaticCall call) may = tt
  has_target (op.InstanceCall call) may = tt
  has_target (op.SuperCall call) may = tt
  has_target (op.Print value) may = tt

  pub target_apart : (done : Op) (kind : OpKind) → Fits done kind → TargetApart kind
  target_apart done (op.Const t value) e = tt
  target_apart done (op.Copy t s ty) e = not_same t s (and_parts (not (t == s)) _ (and_parts (reads program method (Some types) s ty) _ e).1).0
  target_apart done (op.Num t op_ y z) e =
      let one = and_parts (reads program method (Some types) y int_type) _ e in
      let two = and_parts (reads program method (Some types) z int_type) _ one.1 in
      let three = and_parts (is_target program method t) _ two.1 in
      let four = and_parts (not (t == y)) _ three.1 in
      (not_same t y four.0, not_same t z (and_parts (not (t == z)) _ four.1).0)
  target_apart done (op.Unary t unary y) e =
      let one = and_parts (reads program method (Some types) y int_type) _ e in
      let two = and_parts (is_target program method t) _ one.1 in
      not_same t y (and_parts (not (t == y)) _ two.1).0
  target_apart done (op.Length t a) e =
      let one = and_parts (is_slot program method a) _ e in
      let two = and_parts (is_array_at (Some types) a) _ one.1 in
      let three = and_parts (is_target program method t) _ two.1 in
      not_same t a (and_parts (not (t == a)) _ three.1).0
  target_apart done (op.NewArray t ty n) e =
      let one = and_parts (reads program method (Some types) n int_type) _ e in
      let two = and_parts (is_array program ty) _ one.1 in
      let three = and_parts (is_target program method t) _ two.1 in
      not_same t n (and_parts (not (t == n)) _ three.1).0
  target_apart done (op.Fill t ty entries) e = tt
  target_apart done (op.Load t a i ty) e = tt
  target_apart done (op.Store a i v ty) e = tt
  target_apart done (op.ReadField t o f) e = tt
  target_apart done (op.WriteField o f v) e = tt
  target_apart done (op.NewObject call) e = tt
  target_apart done (op.StaticCall call) e = tt
  target_apart done (op.InstanceCall call) e = tt
  target_apart done (op.SuperCall call) e = tt
  target_apart done (op.Print value) e = tt

  pub ints_only : (done : Op) (kind : OpKind) → Fits done kind → IntsOnly kind
  ints_only done (op.Const t (literal.Int n)) e = int_is n (and_parts (is_int n) _ e).0
  ints_only done (op.Const t (literal.Bool answer)) e = tt
  ints_only done (op.Const t (literal.NullOf ty)) e = tt
  ints_only done (op.Fill t ty entries) e =
      let one = and_parts (is_array program ty) _ e in
      let two = and_parts (are_entries program method (Some types) t entries (cell_type ty)) _ one.1 in
      let three = and_parts (is_target program method t) _ two.1 in
      let four = (and_parts (length done.parts == length entries) (at_most (length entries) 2147483647) three.1).1 in
      few (length entries) 2147483647 four
    where
      few : (n most : ℕ) → at_most n most ≡ true → n ≤ most
      few n most e = grind (arith, nat_tests)
  ints_only done (op.Copy t s ty) e = tt
  ints_only done (op.Num t op_ y z) e = tt
  ints_only done (op.Unary t unary y) e = tt
  ints_only done (op.Length t a) e = tt
  ints_only done (op.NewArray t ty n) e = tt
  ints_only done (op.Load t a i ty) e = tt
  ints_only done (op.Store a i v ty) e = tt
  ints_only done (op.ReadField t o f) e = tt
  ints_only done (op.WriteField o f v) e = tt
  ints_only done (op.NewObject call) e = tt
  ints_only done (op.StaticCall call) e = tt
  ints_only done (op.InstanceCall call) e = tt
  ints_only done (op.SuperCall call) e = tt
  ints_only done (op.Print value) e = tt
