-- A program with a class, a field with a claim, methods and calls, and what the analysis knows at the entries of its methods.
use Rattle.std.specs.Prelude.{ℕ, zero, suc, pos, true, List, [], ◌∷◌, None, Some}
use Rattle.ix_num.specs.declared.rel.Rel.TheVariants as rel
use Rattle.ix_core.specs.declared.claim.Claim.TheVariants as claim
use Rattle.ix_core.specs.declared.claim.Type_.TheVariants as type
use Rattle.ix_core.specs.declared.code.Cond.TheVariants as cond
use Rattle.ix_core.specs.declared.code.Item.TheVariants as item
use Rattle.ix_core.specs.declared.fact.Path.TheVariants.{Slot, FieldOf}
use Rattle.ix_core.specs.declared.op.Literal.TheVariants as literal
use Rattle.ix_core.specs.declared.op.OpKind.TheVariants as op
use Rattle.ix_core.specs.declared.program.Program.{Program}
use Rattle.ix_core.specs.Tables.{all_fields}
use Rattle.ix_core.specs.Waits.{Knowledge}
use Rattle.ix_core.specs.World.{World, world_of}
use Rattle.ix_core.proofs.Programs.{span, int, object, int_array, block, does, does_with, arg, calls, test, param, local, static_method, instance_method, constructor_of, field, class_of, program}
use Rattle.ix_core_example.specs.Facts.{Fact, NotNegative, IsFresh}
use Rattle.ix_core_example.specs.Rules.{facts_from}

-- class Base {
--   @NonNegative int n;
--   void set(@NonNegative int v) { this.n = v; }
--   @SideEffectFree @NonNegative int get() { return this.n; } }
-- class Counter extends Base {
--   @NonNegative int m; }
-- class Main {
--   static int pick(int[] a, @NonNegative int k) {
--     Counter c = new Counter();
--     c.set(k);
--     if (c.n < a.length) { a[c.n] = new int[c.get()].length; return a[c.n]; }
--     return 0; } }
abbrev pub counter : Program
counter = program (class_of None (0 ∷ []) (0 ∷ 1 ∷ 3 ∷ []) ∷ class_of None [] (2 ∷ 4 ∷ []) ∷ class_of (Some 0) (1 ∷ []) (5 ∷ []) ∷ [])
    (field 0 int (claim.Low (pos 0) ∷ []) ∷ field 2 int (claim.Low (pos 0) ∷ []) ∷ []) 2
    (instance_method 0 (param 1 (claim.Low (pos 0) ∷ []) ∷ []) (int ∷ []) type.Void None [] 2
    (block (does_with (op.WriteField 0 0 1) 64 74 ((span 64 70) ∷ (span 73 74) ∷ [])
    ∷ []))
    ∷ record (instance_method 0 [] [] int None [] 2
    (block (does (op.ReadField 1 0 0) 126 132
    ∷ item.Return (Some 1) (span 126 132)
    ∷ []))) { effect_free = true; result_claims = claim.Low (pos 0) ∷ [] }
    ∷ static_method 1 (param 0 [] ∷ param 1 (claim.Low (pos 0) ∷ []) ∷ []) (int_array ∷ int ∷ []) int (local 2 [] (span 257 370) ∷ []) 7
    (block (does (op.NewObject (calls 3 5 None [] 2 (span 261 274))) 261 274
    ∷ does_with (op.Copy 2 3 (object 2)) 261 274 ((span 257 258) ∷ (span 261 274) ∷ [])
    ∷ does (op.InstanceCall (calls 3 0 (Some 2) (arg 1 282 283 ∷ []) 2 (span 278 281))) 278 281
    ∷ item.If (cond.Compare (block (does (op.ReadField 3 2 0) 290 293
    ∷ does (op.Length 4 0) 296 304
    ∷ [])) (test rel.Lt 3 4 int (span 290 293) (span 296 304)))
    (block (does (op.ReadField 3 2 0) 310 313
    ∷ does (op.InstanceCall (calls 4 1 (Some 2) [] 2 (span 327 330))) 327 330
    ∷ does (op.NewArray 5 int_array 4) 325 332
    ∷ does (op.Length 6 5) 317 340
    ∷ does_with (op.Store 0 3 6 int_array) 310 313 ((span 317 340) ∷ [])
    ∷ does (op.ReadField 3 2 0) 351 354
    ∷ does (op.Load 4 0 3 int_array) 351 354
    ∷ item.Return (Some 4) (span 349 355)
    ∷ [])) (block [])
    ∷ does (op.Const 3 (literal.Int (pos 0))) 366 367
    ∷ item.Return (Some 3) (span 366 367)
    ∷ []))
    ∷ constructor_of 0 [] [] [] 1
    (block [])
    ∷ constructor_of 1 [] [] [] 1
    (block [])
    ∷ constructor_of 2 [] [] [] 2
    (block (does (op.SuperCall (calls 1 3 (Some 0) [] 0 (span 144 151))) 144 151
    ∷ []))
    ∷ [])

abbrev pub counter_world : World
counter_world = world_of counter

-- the fields of a class's objects
abbrev pub counter_fields : ℕ → List ℕ
counter_fields class = all_fields counter class

-- what the claims of parameters say; in constructors that the fields of the new object read as 0
abbrev pub facts_at_entry : ℕ → List Fact
facts_at_entry zero = NotNegative (Slot 1) ∷ []
facts_at_entry (suc zero) = []
facts_at_entry (suc (suc zero)) = NotNegative (Slot 1) ∷ []
facts_at_entry (suc (suc (suc zero))) = IsFresh (FieldOf 0 0) ∷ []
facts_at_entry (suc (suc (suc (suc zero)))) = []
facts_at_entry (suc (suc (suc (suc (suc zero))))) = IsFresh (FieldOf 0 0) ∷ IsFresh (FieldOf 0 1) ∷ []
facts_at_entry (suc (suc (suc (suc (suc (suc number)))))) = []

abbrev pub counter_facts : Knowledge
counter_facts = facts_from counter_world counter_fields facts_at_entry
