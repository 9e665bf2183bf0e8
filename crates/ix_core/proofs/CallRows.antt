-- Calls: what runs, with which values, and what is given back.
use Rattle.std.proofs.Common.{pos, negsuc, false, [], ◌∷◌, Some, None, refl}
use Rattle.std.specs.Int.{int_wrap}
use Rattle.ix_num.specs.declared.arith.Arith.TheVariants.{Add, Sub}
use Rattle.ix_num.specs.declared.rel.Rel.TheVariants as rel
use Rattle.ix_core.specs.declared.claim.Type_.TheVariants as type
use Rattle.ix_core.specs.declared.code.Cond.TheBlock.{hidden-the_row-Item-0, hidden-the_row-Cond-1}
use Rattle.ix_core.specs.declared.code.Cond.TheVariants as cond
use Rattle.ix_core.specs.declared.code.Item.TheVariants as item
use Rattle.ix_core.specs.declared.op.Literal.TheVariants as literal
use Rattle.ix_core.specs.declared.op.OpKind.TheVariants as op
use Rattle.ix_core.specs.declared.outcome.Value.TheVariants as value
use Rattle.ix_core.specs.declared.program.Program.{Program}
use Rattle.ix_core.specs.Heap.{Num}
use Rattle.ix_core.specs.Machine.{Ended, Negative, Thrown, HeapFull, FrameFull, no_limits, with_limits}
use Rattle.ix_core.specs.Safe.{Whole, Ints}
use Rattle.ix_core.proofs.Programs.{span, int, boolean, object, int_array, block, does, does_with, arg, calls, test, param, local, static_method, constructor_of, field, class_of, program, row, Rows}

-- class A {
--   static int half(int x, int y) { return x - y; }
--   static int nest(int x) { return half(half(x, 1), 2); }
--   static void say(int x) { System.out.println(x); if (x > 1) return; System.out.println(x + 10); }
--   static int tell(int x) { say(x); return x; }
--   static int none(int x) { if (x > 0) return x; }
--   static boolean never() { }
--   static int[] nothing() { }
--   static int throwing(int x) { if (x < 0) throw new E(); return tell(x); } }
abbrev pub calling : Program
calling = program (class_of None [] (0 ∷ 1 ∷ 2 ∷ 3 ∷ 4 ∷ 5 ∷ 6 ∷ 7 ∷ 8 ∷ []) ∷ []) [] 0
    (static_method 0 (param 0 [] ∷ param 1 [] ∷ []) (int ∷ int ∷ []) int [] 3
    (block (does (op.Num 2 Sub 0 1) 51 56
    ∷ item.Return (Some 2) (span 51 56)
    ∷ []))
    ∷ static_method 0 (param 0 [] ∷ []) (int ∷ []) int [] 5
    (block (does (op.Const 1 (literal.Int (pos 1))) 107 108
    ∷ does (op.StaticCall (calls 2 0 None (arg 0 104 105 ∷ arg 1 107 108 ∷ []) 0 (span 99 103))) 99 103
    ∷ does (op.Const 3 (literal.Int (pos 2))) 111 112
    ∷ does (op.StaticCall (calls 4 0 None (arg 2 99 109 ∷ arg 3 111 112 ∷ []) 0 (span 94 98))) 94 98
    ∷ item.Return (Some 4) (span 94 113)
    ∷ []))
    ∷ static_method 0 (param 0 [] ∷ []) (int ∷ []) type.Void [] 3
    (block (does (op.Print 0) 163 164
    ∷ item.If (cond.Compare (block (does (op.Const 1 (literal.Int (pos 1))) 175 176
    ∷ [])) (test rel.Gt 0 1 int (span 171 172) (span 175 176))) (block (item.Return None (span 178 185)
    ∷ [])) (block [])
    ∷ does (op.Const 1 (literal.Int (pos 10))) 209 211
    ∷ does (op.Num 2 Add 0 1) 205 211
    ∷ does (op.Print 2) 205 211
    ∷ []))
    ∷ static_method 0 (param 0 [] ∷ []) (int ∷ []) int [] 2
    (block (does (op.StaticCall (calls 1 2 None (arg 0 247 248 ∷ []) 0 (span 243 246))) 243 246
    ∷ item.Return (Some 0) (span 258 259)
    ∷ []))
    ∷ static_method 0 (param 0 [] ∷ []) (int ∷ []) int [] 2
    (block (item.If (cond.Compare (block (does (op.Const 1 (literal.Int (pos 0))) 298 299
    ∷ [])) (test rel.Gt 0 1 int (span 294 295) (span 298 299))) (block (item.Return (Some 0) (span 308 309)
    ∷ [])) (block [])
    ∷ []))
    ∷ static_method 0 [] [] boolean [] 0
    (block [])
    ∷ static_method 0 [] [] int_array [] 0
    (block [])
    ∷ static_method 0 (param 0 [] ∷ []) (int ∷ []) int [] 2
    (block (item.If (cond.Compare (block (does (op.Const 1 (literal.Int (pos 0))) 410 411
    ∷ [])) (test rel.Lt 0 1 int (span 406 407) (span 410 411))) (block (item.Throw (69 ∷ []) (span 413 427)
    ∷ [])) (block [])
    ∷ does (op.StaticCall (calls 1 3 None (arg 0 440 441 ∷ []) 0 (span 435 439))) 435 439
    ∷ item.Return (Some 1) (span 435 442)
    ∷ []))
    ∷ constructor_of 0 [] [] [] 1
    (block [])
    ∷ [])

calling_rows : Rows calling (
    row 1 (Whole (pos 9) ∷ []) no_limits 9 (Ended (value.Int (pos 6))) [] false
    ∷ row 3 (Whole (pos 1) ∷ []) no_limits 11 (Ended (value.Int (pos 1))) (Num (pos 1) ∷ Num (pos 11) ∷ []) false
    ∷ row 3 (Whole (pos 2) ∷ []) no_limits 8 (Ended (value.Int (pos 2))) (Num (pos 2) ∷ []) false
    ∷ row 2 (Whole (pos 1) ∷ []) no_limits 9 (Ended value.Nothing) (Num (pos 1) ∷ Num (pos 11) ∷ []) false
    ∷ row 4 (Whole (pos 4) ∷ []) no_limits 5 (Ended (value.Int (pos 4))) [] false
    ∷ row 4 (Whole (pos 0) ∷ []) no_limits 5 (Ended (value.Int (pos 0))) [] false
    ∷ row 5 [] no_limits 1 (Ended (value.Bool false)) [] false
    ∷ row 6 [] no_limits 1 (Ended value.NullRef) [] false
    ∷ row 7 (Whole (negsuc 0) ∷ []) no_limits 5 (Thrown (69 ∷ []) 413) [] false
    ∷ row 7 (Whole (pos 0) ∷ []) no_limits 17 (Ended (value.Int (pos 0))) (Num (pos 0) ∷ Num (pos 10) ∷ []) false
    ∷ [])
unfolding hidden-the_row-Item-0 hidden-the_row-Cond-1 denote.Hole.Carrier.hidden int_wrap
calling_rows = refl

-- class A {
--   int p; int q;
--   static int deep(int n) { if (n == 0) return 0; return deep(n - 1); }
--   static int array(int n) { int[] a = new int[n]; return a.length; }
--   static int list() { int[] a = {1, 2, 3}; return a.length; }
--   static int object() { A a = new A(); return a.p; }
--   static int twice(int[] a) { A b = new A(); A c = new A(); return c.q; } }
abbrev pub limited : Program
limited = program (class_of None (0 ∷ 1 ∷ []) (0 ∷ 1 ∷ 2 ∷ 3 ∷ 4 ∷ 5 ∷ []) ∷ []) (field 0 int [] ∷ field 0 int [] ∷ []) 0
    (static_method 0 (param 0 [] ∷ []) (int ∷ []) int [] 4
    (block (item.If (cond.Compare (block (does (op.Const 1 (literal.Int (pos 0))) 62 63
    ∷ [])) (test rel.Eq 0 1 int (span 57 58) (span 62 63))) (block (does (op.Const 1 (literal.Int (pos 0))) 72 73
    ∷ item.Return (Some 1) (span 72 73)
    ∷ [])) (block [])
    ∷ does (op.Const 1 (literal.Int (pos 1))) 91 92
    ∷ does (op.Num 2 Sub 0 1) 87 92
    ∷ does (op.StaticCall (calls 3 0 None (arg 2 87 92 ∷ []) 0 (span 82 86))) 82 86
    ∷ item.Return (Some 3) (span 82 93)
    ∷ []))
    ∷ static_method 0 (param 0 [] ∷ []) (int ∷ []) int (local 1 [] (span 131 165) ∷ []) 3
    (block (does (op.NewArray 2 int_array 0) 143 144
    ∷ does_with (op.Copy 1 2 int_array) 135 145 ((span 131 132) ∷ (span 135 145) ∷ [])
    ∷ does (op.Length 2 1) 154 162
    ∷ item.Return (Some 2) (span 154 162)
    ∷ []))
    ∷ static_method 0 [] [] int (local 0 [] (span 194 227) ∷ []) 5
    (block (does (op.Const 1 (literal.Int (pos 1))) 199 200
    ∷ does (op.Const 2 (literal.Int (pos 2))) 202 203
    ∷ does (op.Const 3 (literal.Int (pos 3))) 205 206
    ∷ does_with (op.Fill 4 int_array (1 ∷ 2 ∷ 3 ∷ [])) 198 207 ((span 199 200) ∷ (span 202 203) ∷ (span 205 206) ∷ [])
    ∷ does_with (op.Copy 0 4 int_array) 198 207 ((span 194 195) ∷ (span 198 207) ∷ [])
    ∷ does (op.Length 1 0) 216 224
    ∷ item.Return (Some 1) (span 216 224)
    ∷ []))
    ∷ static_method 0 [] [] int (local 0 [] (span 254 280) ∷ []) 2
    (block (does (op.NewObject (calls 1 5 None [] 0 (span 258 265))) 258 265
    ∷ does_with (op.Copy 0 1 (object 0)) 258 265 ((span 254 255) ∷ (span 258 265) ∷ [])
    ∷ does (op.ReadField 1 0 0) 274 277
    ∷ item.Return (Some 1) (span 274 277)
    ∷ []))
    ∷ static_method 0 (param 0 [] ∷ []) (int_array ∷ []) int (local 1 [] (span 313 354) ∷ local 2 [] (span 328 354) ∷ []) 4
    (block (does (op.NewObject (calls 2 5 None [] 0 (span 317 324))) 317 324
    ∷ does_with (op.Copy 1 2 (object 0)) 317 324 ((span 313 314) ∷ (span 317 324) ∷ [])
    ∷ does (op.NewObject (calls 3 5 None [] 0 (span 332 339))) 332 339
    ∷ does_with (op.Copy 2 3 (object 0)) 332 339 ((span 328 329) ∷ (span 332 339) ∷ [])
    ∷ does (op.ReadField 3 2 1) 348 351
    ∷ item.Return (Some 3) (span 348 351)
    ∷ []))
    ∷ constructor_of 0 [] [] [] 1
    (block [])
    ∷ [])

limited_rows : Rows limited (
    row 0 (Whole (pos 2) ∷ []) (with_limits 1000000 3) 22 (Ended (value.Int (pos 0))) [] false
    ∷ row 0 (Whole (pos 2) ∷ []) (with_limits 1000000 2) 14 (FrameFull 82) [] false
    ∷ row 1 (Whole (pos 3) ∷ []) (with_limits 4 1000) 4 (Ended (value.Int (pos 3))) [] false
    ∷ row 1 (Whole (pos 3) ∷ []) (with_limits 3 1000) 1 (HeapFull 143) [] false
    ∷ row 2 [] (with_limits 4 1000) 7 (Ended (value.Int (pos 3))) [] false
    ∷ row 2 [] (with_limits 3 1000) 4 (HeapFull 198) [] false
    ∷ row 3 [] (with_limits 3 1000) 5 (Ended (value.Int (pos 0))) [] false
    ∷ row 3 [] (with_limits 2 1000) 1 (HeapFull 258) [] false
    ∷ row 4 (Ints (pos 5 ∷ []) ∷ []) (with_limits 8 1000) 8 (Ended (value.Int (pos 0))) [] false
    ∷ row 4 (Ints (pos 5 ∷ []) ∷ []) (with_limits 7 1000) 4 (HeapFull 332) [] false
    ∷ row 3 [] (with_limits 3 1) 1 (FrameFull 258) [] false
    ∷ row 3 [] (with_limits 2 1) 1 (HeapFull 258) [] false
    ∷ row 1 (Whole (negsuc 0) ∷ []) (with_limits 0 1000) 1 (Negative (negsuc 0) 143) [] false
    ∷ [])
unfolding hidden-the_row-Item-0 hidden-the_row-Cond-1 denote.Hole.Carrier.hidden int_wrap
limited_rows = refl
