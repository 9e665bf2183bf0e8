-- Operations on ints and on arrays.
use Rattle.std.proofs.Common.{pos, negsuc, true, false, [], ◌∷◌, Some, None, refl}
use Rattle.std.specs.Int.{int_wrap}
use Rattle.ix_num.specs.declared.arith.Arith.TheVariants.{Add, Sub, Mul, Div, Rem, And, Or, Xor, Shl, Shr, Ushr}
use Rattle.ix_num.specs.declared.rel.Rel.TheVariants as rel
use Rattle.ix_core.specs.declared.claim.Base.TheVariants as base
use Rattle.ix_core.specs.declared.claim.Type_.TheVariants as type
use Rattle.ix_core.specs.declared.code.Cond.TheBlock.{hidden-the_row-Item-0, hidden-the_row-Cond-1}
use Rattle.ix_core.specs.declared.code.Cond.TheVariants as cond
use Rattle.ix_core.specs.declared.code.Item.TheVariants as item
use Rattle.ix_core.specs.declared.op.Literal.TheVariants as literal
use Rattle.ix_core.specs.declared.op.OpKind.TheVariants as op
use Rattle.ix_core.specs.declared.op.UnaryNum.TheVariants.{Neg, Flip}
use Rattle.ix_core.specs.declared.outcome.Value.TheVariants as value
use Rattle.ix_core.specs.declared.program.Program.{Program}
use Rattle.ix_core.specs.Heap.{Num}
use Rattle.ix_core.specs.Machine.{Ended, Outside, Negative, NullUsed, ZeroDivisor, no_limits}
use Rattle.ix_core.specs.Safe.{Whole, Ints}
use Rattle.ix_core.proofs.Programs.{span, int, int_array, block, does, does_with, test, param, local, static_method, constructor_of, class_of, program, row, Rows}

-- class A {
--   static int all(int x, int y) { System.out.println(x + y); System.out.println(x - y); System.out.println(x * y); System.out.println(x / y); System.out.println(x % y); System.out.println(x & y); System.out.println(x | y); System.out.println(x ^ y); return ~x; }
--   static int shifts(int x, int d) { System.out.println(x << d); System.out.println(x >> d); return x >>> d; }
--   static int plus(int x, int y) { int z = x + y; return z; }
--   static int minus(int x) { return -x; }
--   static int divided(int x, int y) { return x / y; }
--   static int rest(int x, int y) { return x % y; } }
abbrev pub arithmetic : Program
arithmetic = program (class_of None [] (0 ∷ 1 ∷ 2 ∷ 3 ∷ 4 ∷ 5 ∷ 6 ∷ []) ∷ []) [] 0
    (static_method 0 (param 0 [] ∷ param 1 [] ∷ []) (int ∷ int ∷ []) int [] 3
    (block (does (op.Num 2 Add 0 1) 62 67
    ∷ does (op.Print 2) 62 67
    ∷ does (op.Num 2 Sub 0 1) 89 94
    ∷ does (op.Print 2) 89 94
    ∷ does (op.Num 2 Mul 0 1) 116 121
    ∷ does (op.Print 2) 116 121
    ∷ does (op.Num 2 Div 0 1) 143 148
    ∷ does (op.Print 2) 143 148
    ∷ does (op.Num 2 Rem 0 1) 170 175
    ∷ does (op.Print 2) 170 175
    ∷ does (op.Num 2 And 0 1) 197 202
    ∷ does (op.Print 2) 197 202
    ∷ does (op.Num 2 Or 0 1) 224 229
    ∷ does (op.Print 2) 224 229
    ∷ does (op.Num 2 Xor 0 1) 251 256
    ∷ does (op.Print 2) 251 256
    ∷ does (op.Unary 2 Flip 0) 266 268
    ∷ item.Return (Some 2) (span 266 268)
    ∷ []))
    ∷ static_method 0 (param 0 [] ∷ param 1 [] ∷ []) (int ∷ int ∷ []) int [] 3
    (block (does (op.Num 2 Shl 0 1) 327 333
    ∷ does (op.Print 2) 327 333
    ∷ does (op.Num 2 Shr 0 1) 355 361
    ∷ does (op.Print 2) 355 361
    ∷ does (op.Num 2 Ushr 0 1) 371 378
    ∷ item.Return (Some 2) (span 371 378)
    ∷ []))
    ∷ static_method 0 (param 0 [] ∷ param 1 [] ∷ []) (int ∷ int ∷ []) int (local 2 [] (span 420 442) ∷ []) 4
    (block (does (op.Num 3 Add 0 1) 424 429
    ∷ does_with (op.Copy 2 3 int) 424 429 ((span 420 421) ∷ (span 424 429) ∷ [])
    ∷ item.Return (Some 2) (span 438 439)
    ∷ []))
    ∷ static_method 0 (param 0 [] ∷ []) (int ∷ []) int [] 2
    (block (does (op.Unary 1 Neg 0) 478 480
    ∷ item.Return (Some 1) (span 478 480)
    ∷ []))
    ∷ static_method 0 (param 0 [] ∷ param 1 [] ∷ []) (int ∷ int ∷ []) int [] 3
    (block (does (op.Num 2 Div 0 1) 528 533
    ∷ item.Return (Some 2) (span 528 533)
    ∷ []))
    ∷ static_method 0 (param 0 [] ∷ param 1 [] ∷ []) (int ∷ int ∷ []) int [] 3
    (block (does (op.Num 2 Rem 0 1) 578 583
    ∷ item.Return (Some 2) (span 578 583)
    ∷ []))
    ∷ constructor_of 0 [] [] [] 1
    (block [])
    ∷ [])

arithmetic_rows : Rows arithmetic (
    row 0 (Whole (negsuc 6) ∷ Whole (pos 2) ∷ []) no_limits 18 (Ended (value.Int (pos 6))) (Num (negsuc 4) ∷ Num (negsuc 8) ∷ Num (negsuc 13) ∷ Num (negsuc 2) ∷ Num (negsuc 0) ∷ Num (pos 0) ∷ Num (negsuc 4) ∷ Num (negsuc 4) ∷ []) false
    ∷ row 1 (Whole (negsuc 7) ∷ Whole (pos 1) ∷ []) no_limits 6 (Ended (value.Int (pos 2147483644))) (Num (negsuc 15) ∷ Num (negsuc 3) ∷ []) false
    ∷ row 1 (Whole (negsuc 7) ∷ Whole (pos 33) ∷ []) no_limits 6 (Ended (value.Int (pos 2147483644))) (Num (negsuc 15) ∷ Num (negsuc 3) ∷ []) false
    ∷ row 2 (Whole (pos 2147483647) ∷ Whole (pos 1) ∷ []) no_limits 3 (Ended (value.Int (negsuc 2147483647))) [] true
    ∷ row 2 (Whole (pos 2147483646) ∷ Whole (pos 1) ∷ []) no_limits 3 (Ended (value.Int (pos 2147483647))) [] false
    ∷ row 3 (Whole (negsuc 2147483647) ∷ []) no_limits 2 (Ended (value.Int (negsuc 2147483647))) [] true
    ∷ row 3 (Whole (pos 5) ∷ []) no_limits 2 (Ended (value.Int (negsuc 4))) [] false
    ∷ row 4 (Whole (negsuc 2147483647) ∷ Whole (negsuc 0) ∷ []) no_limits 2 (Ended (value.Int (negsuc 2147483647))) [] true
    ∷ row 4 (Whole (pos 7) ∷ Whole (pos 0) ∷ []) no_limits 1 (ZeroDivisor 528) [] false
    ∷ row 5 (Whole (pos 7) ∷ Whole (pos 0) ∷ []) no_limits 1 (ZeroDivisor 578) [] false
    ∷ row 5 (Whole (negsuc 2147483647) ∷ Whole (negsuc 0) ∷ []) no_limits 2 (Ended (value.Int (pos 0))) [] false
    ∷ [])
unfolding hidden-the_row-Item-0 hidden-the_row-Cond-1 denote.Hole.Carrier.hidden int_wrap
arithmetic_rows = refl

-- class A {
--   static int get(int[] a, int i) { return a[i]; }
--   static int put(int[] a, int i) { a[i] = 5; return a[0]; }
--   static int order(int[] a) { int i = 0; a[i] = i = 2; return a[0]; }
--   static int[] make(int n) { return new int[n]; }
--   static int made(int n) { int[] a = new int[n]; boolean[] b = new boolean[1]; if (b[0]) return 1; int[][] c = new int[1][]; if (c[0] == null) return a[1] + a.length; return 2; }
--   static int fill(int x) { int[] a = {x, 7}; return a[0] + a.length; }
--   static int size() { int[] a = null; return a.length; }
--   static int load() { int[] a = null; return a[0]; }
--   static void store() { int[] a = null; a[0] = 1; } }
abbrev pub arrays : Program
arrays = program (class_of None [] (0 ∷ 1 ∷ 2 ∷ 3 ∷ 4 ∷ 5 ∷ 6 ∷ 7 ∷ 8 ∷ 9 ∷ []) ∷ []) [] 11
    (static_method 0 (param 0 [] ∷ param 1 [] ∷ []) (int_array ∷ int ∷ []) int [] 3
    (block (does (op.Load 2 0 1 int_array) 54 55
    ∷ item.Return (Some 2) (span 52 56)
    ∷ []))
    ∷ static_method 0 (param 0 [] ∷ param 1 [] ∷ []) (int_array ∷ int ∷ []) int [] 4
    (block (does (op.Const 2 (literal.Int (pos 5))) 102 103
    ∷ does_with (op.Store 0 1 2 int_array) 97 98 ((span 102 103) ∷ [])
    ∷ does (op.Const 2 (literal.Int (pos 0))) 114 115
    ∷ does (op.Load 3 0 2 int_array) 114 115
    ∷ item.Return (Some 3) (span 112 116)
    ∷ []))
    ∷ static_method 0 (param 0 [] ∷ []) (int_array ∷ []) int (local 1 [] (span 154 189) ∷ []) 4
    (block (does (op.Const 2 (literal.Int (pos 0))) 158 159
    ∷ does_with (op.Copy 1 2 int) 158 159 ((span 154 155) ∷ (span 158 159) ∷ [])
    ∷ does (op.Copy 2 1 int) 163 164
    ∷ does (op.Const 3 (literal.Int (pos 2))) 172 173
    ∷ does_with (op.Copy 1 3 int) 168 173 ((span 168 169) ∷ (span 172 173) ∷ [])
    ∷ does_with (op.Store 0 2 3 int_array) 163 164 ((span 168 173) ∷ [])
    ∷ does (op.Const 2 (literal.Int (pos 0))) 184 185
    ∷ does (op.Load 3 0 2 int_array) 184 185
    ∷ item.Return (Some 3) (span 182 186)
    ∷ []))
    ∷ static_method 0 (param 0 [] ∷ []) (int ∷ []) int_array [] 2
    (block (does (op.NewArray 1 int_array 0) 234 235
    ∷ item.Return (Some 1) (span 226 236)
    ∷ []))
    ∷ static_method 0 (param 0 [] ∷ []) (int ∷ []) int (local 1 [] (span 273 418) ∷ local 2 [] (span 299 418) ∷ local 3 [] (span 347 418) ∷ []) 8
    (block (does (op.NewArray 2 int_array 0) 285 286
    ∷ does_with (op.Copy 1 2 int_array) 277 287 ((span 273 274) ∷ (span 277 287) ∷ [])
    ∷ does (op.Const 3 (literal.Int (pos 1))) 315 316
    ∷ does (op.NewArray 4 (type.Array base.Bool 1 []) 3) 315 316
    ∷ does_with (op.Copy 2 4 (type.Array base.Bool 1 [])) 303 317 ((span 299 300) ∷ (span 303 317) ∷ [])
    ∷ item.If (cond.Truth (block (does (op.Const 3 (literal.Int (pos 0))) 325 326
    ∷ does (op.Load 4 2 3 (type.Array base.Bool 1 [])) 325 326
    ∷ [])) 4) (block (does (op.Const 3 (literal.Int (pos 1))) 336 337
    ∷ item.Return (Some 3) (span 336 337)
    ∷ [])) (block [])
    ∷ does (op.Const 4 (literal.Int (pos 1))) 359 360
    ∷ does (op.NewArray 5 (type.Array base.Int 2 []) 4) 359 360
    ∷ does_with (op.Copy 3 5 (type.Array base.Int 2 [])) 351 363 ((span 347 348) ∷ (span 351 363) ∷ [])
    ∷ item.If (cond.Compare (block (does (op.Const 4 (literal.Int (pos 0))) 371 372
    ∷ does (op.Load 5 3 4 (type.Array base.Int 2 [])) 371 372
    ∷ does (op.Const 6 (literal.NullOf int_array)) 377 381
    ∷ [])) (test rel.Eq 5 6 int_array (span 369 373) (span 377 381))) (block (does (op.Const 4 (literal.Int (pos 1))) 392 393
    ∷ does (op.Load 5 1 4 int_array) 392 393
    ∷ does (op.Length 6 1) 397 405
    ∷ does (op.Num 7 Add 5 6) 390 405
    ∷ item.Return (Some 7) (span 390 405)
    ∷ [])) (block [])
    ∷ does (op.Const 4 (literal.Int (pos 2))) 414 415
    ∷ item.Return (Some 4) (span 414 415)
    ∷ []))
    ∷ static_method 0 (param 0 [] ∷ []) (int ∷ []) int (local 1 [] (span 452 489) ∷ []) 6
    (block (does (op.Const 2 (literal.Int (pos 7))) 460 461
    ∷ does_with (op.Fill 3 int_array (0 ∷ 2 ∷ [])) 456 462 ((span 457 458) ∷ (span 460 461) ∷ [])
    ∷ does_with (op.Copy 1 3 int_array) 456 462 ((span 452 453) ∷ (span 456 462) ∷ [])
    ∷ does (op.Const 2 (literal.Int (pos 0))) 473 474
    ∷ does (op.Load 3 1 2 int_array) 473 474
    ∷ does (op.Length 4 1) 478 486
    ∷ does (op.Num 5 Add 3 4) 471 486
    ∷ item.Return (Some 5) (span 471 486)
    ∷ []))
    ∷ static_method 0 [] [] int (local 0 [] (span 518 546) ∷ []) 2
    (block (does (op.Const 1 (literal.NullOf int_array)) 522 526
    ∷ does_with (op.Copy 0 1 int_array) 522 526 ((span 518 519) ∷ (span 522 526) ∷ [])
    ∷ does (op.Length 1 0) 535 543
    ∷ item.Return (Some 1) (span 535 543)
    ∷ []))
    ∷ static_method 0 [] [] int (local 0 [] (span 575 599) ∷ []) 3
    (block (does (op.Const 1 (literal.NullOf int_array)) 579 583
    ∷ does_with (op.Copy 0 1 int_array) 579 583 ((span 575 576) ∷ (span 579 583) ∷ [])
    ∷ does (op.Const 1 (literal.Int (pos 0))) 594 595
    ∷ does (op.Load 2 0 1 int_array) 594 595
    ∷ item.Return (Some 2) (span 592 596)
    ∷ []))
    ∷ static_method 0 [] [] type.Void (local 0 [] (span 630 651) ∷ []) 3
    (block (does (op.Const 1 (literal.NullOf int_array)) 634 638
    ∷ does_with (op.Copy 0 1 int_array) 634 638 ((span 630 631) ∷ (span 634 638) ∷ [])
    ∷ does (op.Const 1 (literal.Int (pos 0))) 642 643
    ∷ does (op.Const 2 (literal.Int (pos 1))) 647 648
    ∷ does_with (op.Store 0 1 2 int_array) 642 643 ((span 647 648) ∷ [])
    ∷ []))
    ∷ constructor_of 0 [] [] [] 1
    (block [])
    ∷ [])

arrays_rows : Rows arrays (
    row 0 (Ints (pos 4 ∷ pos 5 ∷ []) ∷ Whole (negsuc 0) ∷ []) no_limits 1 (Outside (negsuc 0) (pos 2) 54) [] false
    ∷ row 0 (Ints (pos 4 ∷ pos 5 ∷ []) ∷ Whole (pos 0) ∷ []) no_limits 2 (Ended (value.Int (pos 4))) [] false
    ∷ row 0 (Ints (pos 4 ∷ pos 5 ∷ []) ∷ Whole (pos 1) ∷ []) no_limits 2 (Ended (value.Int (pos 5))) [] false
    ∷ row 0 (Ints (pos 4 ∷ pos 5 ∷ []) ∷ Whole (pos 2) ∷ []) no_limits 1 (Outside (pos 2) (pos 2) 54) [] false
    ∷ row 0 (Ints [] ∷ Whole (pos 0) ∷ []) no_limits 1 (Outside (pos 0) (pos 0) 54) [] false
    ∷ row 1 (Ints (pos 4 ∷ pos 5 ∷ []) ∷ Whole (negsuc 0) ∷ []) no_limits 2 (Outside (negsuc 0) (pos 2) 97) [] false
    ∷ row 1 (Ints (pos 4 ∷ pos 5 ∷ []) ∷ Whole (pos 0) ∷ []) no_limits 5 (Ended (value.Int (pos 5))) [] false
    ∷ row 1 (Ints (pos 4 ∷ pos 5 ∷ []) ∷ Whole (pos 1) ∷ []) no_limits 5 (Ended (value.Int (pos 4))) [] false
    ∷ row 1 (Ints (pos 4 ∷ pos 5 ∷ []) ∷ Whole (pos 2) ∷ []) no_limits 2 (Outside (pos 2) (pos 2) 97) [] false
    ∷ row 2 (Ints (pos 7 ∷ []) ∷ []) no_limits 9 (Ended (value.Int (pos 2))) [] false
    ∷ row 3 (Whole (negsuc 0) ∷ []) no_limits 1 (Negative (negsuc 0) 234) [] false
    ∷ row 3 (Whole (pos 0) ∷ []) no_limits 2 (Ended (value.ArrayOf 0)) [] false
    ∷ row 3 (Whole (pos 3) ∷ []) no_limits 2 (Ended (value.ArrayOf 3)) [] false
    ∷ row 4 (Whole (pos 2) ∷ []) no_limits 24 (Ended (value.Int (pos 2))) [] false
    ∷ row 5 (Whole (pos 1) ∷ []) no_limits 8 (Ended (value.Int (pos 3))) [] false
    ∷ row 6 [] no_limits 3 (NullUsed 535) [] false
    ∷ row 7 [] no_limits 4 (NullUsed 594) [] false
    ∷ row 8 [] no_limits 5 (NullUsed 642) [] false
    ∷ [])
unfolding hidden-the_row-Item-0 hidden-the_row-Cond-1 denote.Hole.Carrier.hidden int_wrap
arrays_rows = refl
