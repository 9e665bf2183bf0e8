-- What a rule without errors shows of an operation of a formed program.
use Rattle.std.specs.Prelude.{◌≡◌, ℕ, zero, suc, ◌<◌, ◌==◌, Bool, true, false, not, ◌||◌, List, [], ◌∷◌, length, slice_get, Option, Some, unwrap_or, refl}
use Rattle.std.proofs.Common.{ap, subst, inl, inr}
use Rattle.std.proofs.lemmas.Bool.{and_parts, false≢true}
use Rattle.ix_core.specs.declared.claim.Type_.{Type_}
use Rattle.ix_core.specs.declared.op.Op.{Op}
use Rattle.ix_core.specs.declared.op.OpKind.{OpKind}
use Rattle.ix_core.specs.declared.op.OpKind.TheVariants as op
use Rattle.ix_core.specs.declared.program.Method.{Method}
use Rattle.ix_core.specs.declared.program.Program.{Program}
use Rattle.ix_core.specs.Analysis.{IsWorld}
use Rattle.ix_core.specs.Formed.{is_formed, reads, field_fits, may_be_written, are_entries, op_fits}
use Rattle.ix_core.specs.Heap.{Held, Heap, ObjectOf, value_at}
use Rattle.ix_core.specs.Numbers.{HasInts, numbers_of}
use Rattle.ix_core.specs.Objects.{HasField, HeapKeeps, FrameKeeps, IsOwn, MayWrite}
use Rattle.ix_core.specs.Tables.{method_at, field_at}
use Rattle.ix_core.specs.Typed.{IsOfType, HeapTyped, SlotsTyped}
use Rattle.ix_core.specs.Types.{Types, int_type, cell_type, is_array}
use Rattle.ix_core.specs.World.{World}
use Rattle.ix_core.proofs.Cases.{by_test, equal}
use Rattle.ix_core.proofs.FormedParts.{locals_of, ways_end}
use Rattle.ix_core.proofs.TypedSteps.{default_typed}
use Rattle.ix_core.proofs.TypedValues.{read_typed}
use Rattle.ix_facts.specs.Stores.{Stored, Meets}
use Rattle.ix_soundness.specs.Clean.{IsClean}
use Rattle.ix_soundness.specs.Direct.{direct}
use Rattle.ix_soundness.specs.Errors.{NoKindErrors}
use Rattle.ix_soundness.specs.Shown.{Shown}
use Rattle.ix_soundness.proofs.AccessesShown.{inside_shown, length_shown, element_shown, fresh_shown}
use Rattle.ix_soundness.proofs.FieldsKept.{written_meets}
use Rattle.ix_soundness.proofs.OperationsMeet.{stores}
use Rattle.ix_signatures.specs.SignErrors.{part}

module _ (program : Program) (locals : List (List Type_)) (formed : is_formed program locals ≡ true) (tables : IsWorld (direct program)) (number : ℕ) (lt : number < length program.methods) (slots : List Held) (heap : Heap) (types : Types)
    (size : length slots ≡ (method_at program number).slots) (typed : SlotsTyped program types slots heap) (heap_typed : HeapTyped program heap)
    (building : ℕ → Type 0) (keeps : HeapKeeps (direct program) building heap) (frame : FrameKeeps building (method_at program number) slots heap)
    (ints_ : HasInts (direct program).place slots heap) (s : Stored) (meets : Meets s (numbers_of (direct program).place slots heap ints_)) where
  abbrev method : Method
  method = method_at program number

  abbrev world : World
  world = direct program

  abbrev Fits : Op → OpKind → Type 0
  Fits done kind = op_fits program method (locals_of program locals formed number) (Some types) done kind ≡ true

  read : (slot : ℕ) (ty : Type_) → reads program method (Some types) slot ty ≡ true → IsOfType program heap ty (value_at slots slot)
  read slot ty e = (read_typed program (ways_end program locals formed) method types slots heap size typed slot ty e).1

  entry_read : (t : ℕ) (entries : List ℕ) (ty : Type_) → are_entries program method (Some types) t entries ty ≡ true → (at entry : ℕ) → slice_get entries at ≡ Some entry → reads program method (Some types) entry ty ≡ true
  entry_read t [] ty e at entry is = absurd cc
  entry_read t (one ∷ entries) ty e zero entry is = let same : one ≡ entry = ap (λ (o : Option ℕ). unwrap_or o one) is in subst (λ n. reads program method (Some types) n ty ≡ true) same (and_parts (reads program method (Some types) one ty) _ e).0
  entry_read t (one ∷ entries) ty e (suc at) entry is =
      let parts = and_parts (reads program method (Some types) one ty) _ e in
      entry_read t entries ty (and_parts (not (one == t)) _ parts.1).1 at entry is

  -- ---- writes of fields

  -- a final field is written through `this` of a constructor alone
  final_own : (o f : ℕ) → may_be_written program method o f ≡ true → (field_at program f).is_final ≡ true → IsOwn method o
  final_own o f e final =
      let parts = and_parts method.constructor _ (later (field_at program f).is_final final e) in
      (parts.0, equal o 0 (and_parts (o == 0) _ parts.1).0)
    where
      later : (b : Bool) → b ≡ true → {c : Bool} → (not b || c) ≡ true → c ≡ true
      later true is e = e
      later false is e = absurd (false≢true is)

  pub not_final : (o f : ℕ) → may_be_written program method o f ≡ true → (IsOwn method o → ⊥) → (field_at program f).is_final ≡ false
  not_final o f e other = by_test (field_at program f).is_final (λ t. absurd (other (final_own o f e t))) (λ t. t)

  may_write : (o f x : ℕ) → may_be_written program method o f ≡ true → IsClean program method (op.WriteField o f x) → (IsOwn method o → HasField world (ObjectOf method.class) f) → MayWrite world method o f
  may_write o f x e clean own = record { quiet = clean.quiet; final = final_own o f e; own = own }

  pub shown_of : (done : Op) (kind : OpKind) → Fits done kind → IsClean program method kind → NoKindErrors program method number done kind s → ((o f x : ℕ) → kind ≡ op.WriteField o f x → IsOwn method o → HasField world (ObjectOf method.class) f)
      → Shown world method slots heap kind
  shown_of done (op.NewArray t ty n) e clean none own =
      let one = and_parts (reads program method (Some types) n int_type) _ e in
      let two = and_parts (is_array program ty) _ one.1 in (
        length_shown program world.place slots heap ints_ s meets n done.span (λ error rank x. none error rank (inl x)),
        fresh_shown program world.place slots heap ints_ s meets ty n done.span two.0 (default_typed program heap ty two.0) (λ error rank x. none error rank (inr x)),
      )
  shown_of done (op.Fill t ty entries) e clean none own = λ at entry is.
      let one = and_parts (is_array program ty) _ e in
      let two = and_parts (are_entries program method (Some types) t entries (cell_type ty)) _ one.1 in
      element_shown program world.place slots heap ints_ s meets ty entry (part done at) one.0 (read entry (cell_type ty) (entry_read t entries (cell_type ty) two.0 at entry is))
      (λ error rank x. none error rank (record { at = at; value = entry; entry = is; of = x }))
  shown_of done (op.Load t a i ty) e clean none own = inside_shown program world.place slots heap ints_ s meets a i done.span (λ error rank x. none error rank (inl x)) (λ error rank x. none error rank (inr x))
  shown_of done (op.Store a i v ty) e clean none own =
      let one = and_parts (is_array program ty) _ e in
      let two = and_parts (reads program method (Some types) a ty) _ one.1 in
      let three = and_parts (reads program method (Some types) i int_type) _ two.1 in
      let four = and_parts (reads program method (Some types) v (cell_type ty)) _ three.1 in (
        inside_shown program world.place slots heap ints_ s meets a i done.span (λ error rank x. none error rank (inl x)) (λ error rank x. none error rank (inr (inl x))),
        element_shown program world.place slots heap ints_ s meets ty v (part done 0) one.0 (read v (cell_type ty) four.0) (λ error rank x. none error rank (inr (inr x))),
        stores program locals formed number lt slots heap types size typed heap_typed building keeps frame done a i v ty e,
      )
  shown_of done (op.WriteField o f x) e clean none own =
      let one = and_parts (field_fits program method (Some types) o f) _ e in
      let two = and_parts (reads program method (Some types) x (field_at program f).ty) _ one.1 in
      let three = and_parts (may_be_written program method o f) _ two.1 in (
        may_write o f x three.0 clean (own o f x refl),
        λ k cell holds placed other. written_meets program locals formed tables number slots heap building keeps frame ints_ s meets o f x (part done 1)
            (λ error rank y. none error rank (inl y)) (λ error rank y. none error rank (inr y)) k cell holds placed other (not_final o f three.0 other),
      )
  shown_of done (op.Const t value) e clean none own = tt
  shown_of done (op.Copy t s_ ty) e clean none own = tt
  shown_of done (op.Num t op_ y z) e clean none own = tt
  shown_of done (op.Unary t unary y) e clean none own = tt
  shown_of done (op.Length t a) e clean none own = tt
  shown_of done (op.ReadField t o f) e clean none own = tt
  shown_of done (op.NewObject call) e clean none own = tt
  shown_of done (op.StaticCall call) e clean none own = tt
  shown_of done (op.InstanceCall call) e clean none own = tt
  shown_of done (op.SuperCall call) e clean none own = tt
  shown_of done (op.Print value) e clean none own = tt
