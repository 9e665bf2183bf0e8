-- Conditions, tests and loops: what each asks, and in what order.
use Rattle.std.proofs.Common.{pos, true, false, [], ◌∷◌, Some, None, refl}
use Rattle.std.specs.Int.{int_wrap}
use Rattle.ix_num.specs.declared.arith.Arith.TheVariants.{Add}
use Rattle.ix_num.specs.declared.rel.Rel.TheVariants as rel
use Rattle.ix_core.specs.declared.code.Cond.TheBlock.{hidden-the_row-Item-0, hidden-the_row-Cond-1}
use Rattle.ix_core.specs.declared.code.Cond.TheVariants as cond
use Rattle.ix_core.specs.declared.code.Item.TheVariants as item
use Rattle.ix_core.specs.declared.op.Literal.TheVariants as literal
use Rattle.ix_core.specs.declared.op.OpKind.TheVariants as op
use Rattle.ix_core.specs.declared.outcome.Value.TheVariants as value
use Rattle.ix_core.specs.declared.program.Program.{Program}
use Rattle.ix_core.specs.Heap.{Num}
use Rattle.ix_core.specs.Machine.{Ended, no_limits}
use Rattle.ix_core.specs.Safe.{Whole, Flag, Ints}
use Rattle.ix_core.proofs.Programs.{span, int, boolean, int_array, block, does, does_with, arg, calls, test, param, local, static_method, constructor_of, class_of, program, row, Rows}

-- class A {
--   static boolean t(boolean b, int n) { System.out.println(n); return b; }
--   static int and(boolean a, boolean b) { if (t(a, 1) && t(b, 2)) return 1; return 0; }
--   static int or(boolean a, boolean b) { if (t(a, 1) || t(b, 2)) return 1; return 0; }
--   static boolean not(int x) { return !(x < 1); }
--   static int known() { if (true) { if (false) return 1; return 2; } return 3; } }
abbrev pub conditions : Program
conditions = program (class_of None [] (0 ∷ 1 ∷ 2 ∷ 3 ∷ 4 ∷ 5 ∷ []) ∷ []) [] 0
    (static_method 0 (param 0 [] ∷ param 1 [] ∷ []) (boolean ∷ int ∷ []) boolean [] 2
    (block (does (op.Print 1) 68 69
    ∷ item.Return (Some 0) (span 79 80)
    ∷ []))
    ∷ static_method 0 (param 0 [] ∷ param 1 [] ∷ []) (boolean ∷ boolean ∷ []) int [] 6
    (block (item.If (cond.Both (cond.Truth (block (does (op.Const 2 (literal.Int (pos 1))) 134 135
    ∷ does (op.StaticCall (calls 3 0 None (arg 0 131 132 ∷ arg 2 134 135 ∷ []) 0 (span 129 130))) 129 130
    ∷ [])) 3) (cond.Truth (block (does (op.Const 4 (literal.Int (pos 2))) 145 146
    ∷ does (op.StaticCall (calls 5 0 None (arg 1 142 143 ∷ arg 4 145 146 ∷ []) 0 (span 140 141))) 140 141
    ∷ [])) 5)) (block (does (op.Const 2 (literal.Int (pos 1))) 156 157
    ∷ item.Return (Some 2) (span 156 157)
    ∷ [])) (block [])
    ∷ does (op.Const 2 (literal.Int (pos 0))) 166 167
    ∷ item.Return (Some 2) (span 166 167)
    ∷ []))
    ∷ static_method 0 (param 0 [] ∷ param 1 [] ∷ []) (boolean ∷ boolean ∷ []) int [] 6
    (block (item.If (cond.Either (cond.Truth (block (does (op.Const 2 (literal.Int (pos 1))) 220 221
    ∷ does (op.StaticCall (calls 3 0 None (arg 0 217 218 ∷ arg 2 220 221 ∷ []) 0 (span 215 216))) 215 216
    ∷ [])) 3) (cond.Truth (block (does (op.Const 4 (literal.Int (pos 2))) 231 232
    ∷ does (op.StaticCall (calls 5 0 None (arg 1 228 229 ∷ arg 4 231 232 ∷ []) 0 (span 226 227))) 226 227
    ∷ [])) 5)) (block (does (op.Const 2 (literal.Int (pos 1))) 242 243
    ∷ item.Return (Some 2) (span 242 243)
    ∷ [])) (block [])
    ∷ does (op.Const 2 (literal.Int (pos 0))) 252 253
    ∷ item.Return (Some 2) (span 252 253)
    ∷ []))
    ∷ static_method 0 (param 0 [] ∷ []) (int ∷ []) boolean [] 3
    (block (item.If (cond.Opposite (cond.Compare (block (does (op.Const 1 (literal.Int (pos 1))) 300 301
    ∷ [])) (test rel.Lt 0 1 int (span 296 297) (span 300 301)))) (block (does (op.Const 2 (literal.Bool true)) 294 302
    ∷ [])) (block (does (op.Const 2 (literal.Bool false)) 294 302
    ∷ []))
    ∷ item.Return (Some 2) (span 294 302)
    ∷ []))
    ∷ static_method 0 [] [] int [] 1
    (block (item.If (cond.Known true) (block (item.If (cond.Known false) (block (does (op.Const 0 (literal.Int (pos 1))) 359 360
    ∷ item.Return (Some 0) (span 359 360)
    ∷ [])) (block [])
    ∷ does (op.Const 0 (literal.Int (pos 2))) 369 370
    ∷ item.Return (Some 0) (span 369 370)
    ∷ [])) (block [])
    ∷ does (op.Const 0 (literal.Int (pos 3))) 381 382
    ∷ item.Return (Some 0) (span 381 382)
    ∷ []))
    ∷ constructor_of 0 [] [] [] 1
    (block [])
    ∷ [])

conditions_rows : Rows conditions (
    row 1 (Flag true ∷ Flag true ∷ []) no_limits 16 (Ended (value.Int (pos 1))) (Num (pos 1) ∷ Num (pos 2) ∷ []) false
    ∷ row 1 (Flag true ∷ Flag false ∷ []) no_limits 16 (Ended (value.Int (pos 0))) (Num (pos 1) ∷ Num (pos 2) ∷ []) false
    ∷ row 1 (Flag false ∷ Flag true ∷ []) no_limits 10 (Ended (value.Int (pos 0))) (Num (pos 1) ∷ []) false
    ∷ row 2 (Flag true ∷ Flag false ∷ []) no_limits 10 (Ended (value.Int (pos 1))) (Num (pos 1) ∷ []) false
    ∷ row 2 (Flag false ∷ Flag true ∷ []) no_limits 16 (Ended (value.Int (pos 1))) (Num (pos 1) ∷ Num (pos 2) ∷ []) false
    ∷ row 2 (Flag false ∷ Flag false ∷ []) no_limits 16 (Ended (value.Int (pos 0))) (Num (pos 1) ∷ Num (pos 2) ∷ []) false
    ∷ row 3 (Whole (pos 0) ∷ []) no_limits 7 (Ended (value.Bool false)) [] false
    ∷ row 3 (Whole (pos 1) ∷ []) no_limits 7 (Ended (value.Bool true)) [] false
    ∷ row 4 [] no_limits 6 (Ended (value.Int (pos 2))) [] false
    ∷ [])
unfolding hidden-the_row-Item-0 hidden-the_row-Cond-1 denote.Hole.Carrier.hidden int_wrap
conditions_rows = refl

-- class A {
--   static int rels(int x, int y) { int n = 0; if (x < y) n = n + 1; if (x <= y) n = n + 2; if (x > y) n = n + 4; if (x >= y) n = n + 8; if (x == y) n = n + 16; if (x != y) n = n + 32; return n; }
--   static int flags(boolean p, boolean q) { int n = 0; if (p == q) n = n + 1; if (p != q) n = n + 2; return n; }
--   static int arrays(int[] p) { int[] q = p; int n = 0; if (p == q) n = n + 1; q = new int[2]; if (p == q) n = n + 2; if (p != q) n = n + 4; if (q == null) n = n + 8; q = null; if (q == null) n = n + 16; return n; } }
abbrev pub tests : Program
tests = program (class_of None [] (0 ∷ 1 ∷ 2 ∷ 3 ∷ []) ∷ []) [] 0
    (static_method 0 (param 0 [] ∷ param 1 [] ∷ []) (int ∷ int ∷ []) int (local 2 [] (span 48 204) ∷ []) 6
    (block (does (op.Const 3 (literal.Int (pos 0))) 52 53
    ∷ does_with (op.Copy 2 3 int) 52 53 ((span 48 49) ∷ (span 52 53) ∷ [])
    ∷ item.If (cond.Compare (block []) (test rel.Lt 0 1 int (span 59 60) (span 63 64))) (block (does (op.Copy 3 2 int) 70 71
    ∷ does (op.Const 4 (literal.Int (pos 1))) 74 75
    ∷ does (op.Num 5 Add 3 4) 70 75
    ∷ does_with (op.Copy 2 5 int) 66 75 ((span 66 67) ∷ (span 70 75) ∷ [])
    ∷ [])) (block [])
    ∷ item.If (cond.Compare (block []) (test rel.Le 0 1 int (span 81 82) (span 86 87))) (block (does (op.Copy 3 2 int) 93 94
    ∷ does (op.Const 4 (literal.Int (pos 2))) 97 98
    ∷ does (op.Num 5 Add 3 4) 93 98
    ∷ does_with (op.Copy 2 5 int) 89 98 ((span 89 90) ∷ (span 93 98) ∷ [])
    ∷ [])) (block [])
    ∷ item.If (cond.Compare (block []) (test rel.Gt 0 1 int (span 104 105) (span 108 109))) (block (does (op.Copy 3 2 int) 115 116
    ∷ does (op.Const 4 (literal.Int (pos 4))) 119 120
    ∷ does (op.Num 5 Add 3 4) 115 120
    ∷ does_with (op.Copy 2 5 int) 111 120 ((span 111 112) ∷ (span 115 120) ∷ [])
    ∷ [])) (block [])
    ∷ item.If (cond.Compare (block []) (test rel.Ge 0 1 int (span 126 127) (span 131 132))) (block (does (op.Copy 3 2 int) 138 139
    ∷ does (op.Const 4 (literal.Int (pos 8))) 142 143
    ∷ does (op.Num 5 Add 3 4) 138 143
    ∷ does_with (op.Copy 2 5 int) 134 143 ((span 134 135) ∷ (span 138 143) ∷ [])
    ∷ [])) (block [])
    ∷ item.If (cond.Compare (block []) (test rel.Eq 0 1 int (span 149 150) (span 154 155))) (block (does (op.Copy 3 2 int) 161 162
    ∷ does (op.Const 4 (literal.Int (pos 16))) 165 167
    ∷ does (op.Num 5 Add 3 4) 161 167
    ∷ does_with (op.Copy 2 5 int) 157 167 ((span 157 158) ∷ (span 161 167) ∷ [])
    ∷ [])) (block [])
    ∷ item.If (cond.Compare (block []) (test rel.Ne 0 1 int (span 173 174) (span 178 179))) (block (does (op.Copy 3 2 int) 185 186
    ∷ does (op.Const 4 (literal.Int (pos 32))) 189 191
    ∷ does (op.Num 5 Add 3 4) 185 191
    ∷ does_with (op.Copy 2 5 int) 181 191 ((span 181 182) ∷ (span 185 191) ∷ [])
    ∷ [])) (block [])
    ∷ item.Return (Some 2) (span 200 201)
    ∷ []))
    ∷ static_method 0 (param 0 [] ∷ param 1 [] ∷ []) (boolean ∷ boolean ∷ []) int (local 2 [] (span 252 316) ∷ []) 6
    (block (does (op.Const 3 (literal.Int (pos 0))) 256 257
    ∷ does_with (op.Copy 2 3 int) 256 257 ((span 252 253) ∷ (span 256 257) ∷ [])
    ∷ item.If (cond.Compare (block []) (test rel.Eq 0 1 boolean (span 263 264) (span 268 269))) (block (does (op.Copy 3 2 int) 275 276
    ∷ does (op.Const 4 (literal.Int (pos 1))) 279 280
    ∷ does (op.Num 5 Add 3 4) 275 280
    ∷ does_with (op.Copy 2 5 int) 271 280 ((span 271 272) ∷ (span 275 280) ∷ [])
    ∷ [])) (block [])
    ∷ item.If (cond.Compare (block []) (test rel.Ne 0 1 boolean (span 286 287) (span 291 292))) (block (does (op.Copy 3 2 int) 298 299
    ∷ does (op.Const 4 (literal.Int (pos 2))) 302 303
    ∷ does (op.Num 5 Add 3 4) 298 303
    ∷ does_with (op.Copy 2 5 int) 294 303 ((span 294 295) ∷ (span 298 303) ∷ [])
    ∷ [])) (block [])
    ∷ item.Return (Some 2) (span 312 313)
    ∷ []))
    ∷ static_method 0 (param 0 [] ∷ []) (int_array ∷ []) int (local 1 [] (span 354 531) ∷ local 2 [] (span 365 531) ∷ []) 6
    (block (does_with (op.Copy 1 0 int_array) 358 359 ((span 354 355) ∷ (span 358 359) ∷ [])
    ∷ does (op.Const 3 (literal.Int (pos 0))) 369 370
    ∷ does_with (op.Copy 2 3 int) 369 370 ((span 365 366) ∷ (span 369 370) ∷ [])
    ∷ item.If (cond.Compare (block []) (test rel.Eq 0 1 int_array (span 376 377) (span 381 382))) (block (does (op.Copy 3 2 int) 388 389
    ∷ does (op.Const 4 (literal.Int (pos 1))) 392 393
    ∷ does (op.Num 5 Add 3 4) 388 393
    ∷ does_with (op.Copy 2 5 int) 384 393 ((span 384 385) ∷ (span 388 393) ∷ [])
    ∷ [])) (block [])
    ∷ does (op.Const 3 (literal.Int (pos 2))) 407 408
    ∷ does (op.NewArray 4 int_array 3) 407 408
    ∷ does_with (op.Copy 1 4 int_array) 395 409 ((span 395 396) ∷ (span 399 409) ∷ [])
    ∷ item.If (cond.Compare (block []) (test rel.Eq 0 1 int_array (span 415 416) (span 420 421))) (block (does (op.Copy 3 2 int) 427 428
    ∷ does (op.Const 4 (literal.Int (pos 2))) 431 432
    ∷ does (op.Num 5 Add 3 4) 427 432
    ∷ does_with (op.Copy 2 5 int) 423 432 ((span 423 424) ∷ (span 427 432) ∷ [])
    ∷ [])) (block [])
    ∷ item.If (cond.Compare (block []) (test rel.Ne 0 1 int_array (span 438 439) (span 443 444))) (block (does (op.Copy 3 2 int) 450 451
    ∷ does (op.Const 4 (literal.Int (pos 4))) 454 455
    ∷ does (op.Num 5 Add 3 4) 450 455
    ∷ does_with (op.Copy 2 5 int) 446 455 ((span 446 447) ∷ (span 450 455) ∷ [])
    ∷ [])) (block [])
    ∷ item.If (cond.Compare (block (does (op.Const 3 (literal.NullOf int_array)) 466 470
    ∷ [])) (test rel.Eq 1 3 int_array (span 461 462) (span 466 470))) (block (does (op.Copy 3 2 int) 476 477
    ∷ does (op.Const 4 (literal.Int (pos 8))) 480 481
    ∷ does (op.Num 5 Add 3 4) 476 481
    ∷ does_with (op.Copy 2 5 int) 472 481 ((span 472 473) ∷ (span 476 481) ∷ [])
    ∷ [])) (block [])
    ∷ does (op.Const 3 (literal.NullOf int_array)) 487 491
    ∷ does_with (op.Copy 1 3 int_array) 483 491 ((span 483 484) ∷ (span 487 491) ∷ [])
    ∷ item.If (cond.Compare (block (does (op.Const 3 (literal.NullOf int_array)) 502 506
    ∷ [])) (test rel.Eq 1 3 int_array (span 497 498) (span 502 506))) (block (does (op.Copy 3 2 int) 512 513
    ∷ does (op.Const 4 (literal.Int (pos 16))) 516 518
    ∷ does (op.Num 5 Add 3 4) 512 518
    ∷ does_with (op.Copy 2 5 int) 508 518 ((span 508 509) ∷ (span 512 518) ∷ [])
    ∷ [])) (block [])
    ∷ item.Return (Some 2) (span 527 528)
    ∷ []))
    ∷ constructor_of 0 [] [] [] 1
    (block [])
    ∷ [])

tests_rows : Rows tests (
    row 0 (Whole (pos 1) ∷ Whole (pos 2) ∷ []) no_limits 33 (Ended (value.Int (pos 35))) [] false
    ∷ row 0 (Whole (pos 2) ∷ Whole (pos 2) ∷ []) no_limits 33 (Ended (value.Int (pos 26))) [] false
    ∷ row 0 (Whole (pos 3) ∷ Whole (pos 2) ∷ []) no_limits 33 (Ended (value.Int (pos 44))) [] false
    ∷ row 1 (Flag true ∷ Flag true ∷ []) no_limits 13 (Ended (value.Int (pos 1))) [] false
    ∷ row 1 (Flag true ∷ Flag false ∷ []) no_limits 13 (Ended (value.Int (pos 2))) [] false
    ∷ row 1 (Flag false ∷ Flag false ∷ []) no_limits 13 (Ended (value.Int (pos 1))) [] false
    ∷ row 2 (Ints (pos 1 ∷ pos 2 ∷ []) ∷ []) no_limits 38 (Ended (value.Int (pos 21))) [] false
    ∷ [])
unfolding hidden-the_row-Item-0 hidden-the_row-Cond-1 denote.Hole.Carrier.hidden int_wrap
tests_rows = refl

-- class A {
--   static int first(int n) { int s = 0; for (int i = 0; i < n; i++) { if (i == 1) continue; if (i == 3) break; s = s + 10 + i; } return s; }
--   static int last(int n) { int i = 0; do { i = i + 1; if (i == 2) continue; System.out.println(i); if (i == 4) break; } while (i < n); return i; }
--   static int nested(int n) { int s = 0; for (int i = 0; i < n; i++) { int j = 0; while (true) { if (j == 2) break; j = j + 1; if (j == 1) continue; s = s + 1; } s = s + 10; } return s; } }
abbrev pub loops : Program
loops = program (class_of None [] (0 ∷ 1 ∷ 2 ∷ 3 ∷ []) ∷ []) [] 0
    (static_method 0 (param 0 [] ∷ []) (int ∷ []) int (local 1 [] (span 42 149) ∷ local 2 [] (span 58 137) ∷ []) 7
    (block (does (op.Const 2 (literal.Int (pos 0))) 46 47
    ∷ does_with (op.Copy 1 2 int) 46 47 ((span 42 43) ∷ (span 46 47) ∷ [])
    ∷ does (op.Const 3 (literal.Int (pos 0))) 62 63
    ∷ does_with (op.Copy 2 3 int) 62 63 ((span 58 59) ∷ (span 62 63) ∷ [])
    ∷ item.Loop true (cond.Compare (block []) (test rel.Lt 2 0 int (span 65 66) (span 69 70))) (block (item.If (cond.Compare (block (does (op.Const 3 (literal.Int (pos 1))) 88 89
    ∷ [])) (test rel.Eq 2 3 int (span 83 84) (span 88 89))) (block (item.Continue
    ∷ [])) (block [])
    ∷ item.If (cond.Compare (block (does (op.Const 3 (literal.Int (pos 3))) 110 111
    ∷ [])) (test rel.Eq 2 3 int (span 105 106) (span 110 111))) (block (item.Break
    ∷ [])) (block [])
    ∷ does (op.Copy 3 1 int) 124 125
    ∷ does (op.Const 4 (literal.Int (pos 10))) 128 130
    ∷ does (op.Num 5 Add 3 4) 124 130
    ∷ does (op.Num 6 Add 5 2) 124 134
    ∷ does_with (op.Copy 1 6 int) 120 134 ((span 120 121) ∷ (span 124 134) ∷ [])
    ∷ [])) (block (does (op.Copy 3 2 int) 72 73
    ∷ does (op.Const 4 (literal.Int (pos 1))) 72 75
    ∷ does (op.Num 5 Add 3 4) 72 75
    ∷ does_with (op.Copy 2 5 int) 72 75 ((span 72 73) ∷ (span 72 75) ∷ [])
    ∷ [])) 0 3
    ∷ item.Return (Some 1) (span 145 146)
    ∷ []))
    ∷ static_method 0 (param 0 [] ∷ []) (int ∷ []) int (local 1 [] (span 181 296) ∷ []) 5
    (block (does (op.Const 2 (literal.Int (pos 0))) 185 186
    ∷ does_with (op.Copy 1 2 int) 185 186 ((span 181 182) ∷ (span 185 186) ∷ [])
    ∷ item.Loop false (cond.Compare (block []) (test rel.Lt 1 0 int (span 277 278) (span 281 282))) (block (does (op.Copy 2 1 int) 197 198
    ∷ does (op.Const 3 (literal.Int (pos 1))) 201 202
    ∷ does (op.Num 4 Add 2 3) 197 202
    ∷ does_with (op.Copy 1 4 int) 193 202 ((span 193 194) ∷ (span 197 202) ∷ [])
    ∷ item.If (cond.Compare (block (does (op.Const 2 (literal.Int (pos 2))) 213 214
    ∷ [])) (test rel.Eq 1 2 int (span 208 209) (span 213 214))) (block (item.Continue
    ∷ [])) (block [])
    ∷ does (op.Print 1) 245 246
    ∷ item.If (cond.Compare (block (does (op.Const 2 (literal.Int (pos 4))) 258 259
    ∷ [])) (test rel.Eq 1 2 int (span 253 254) (span 258 259))) (block (item.Break
    ∷ [])) (block [])
    ∷ [])) (block []) 0 2
    ∷ item.Return (Some 1) (span 292 293)
    ∷ []))
    ∷ static_method 0 (param 0 [] ∷ []) (int ∷ []) int (local 1 [] (span 330 483) ∷ local 2 [] (span 346 471) ∷ local 3 [] (span 371 471) ∷ []) 7
    (block (does (op.Const 2 (literal.Int (pos 0))) 334 335
    ∷ does_with (op.Copy 1 2 int) 334 335 ((span 330 331) ∷ (span 334 335) ∷ [])
    ∷ does (op.Const 3 (literal.Int (pos 0))) 350 351
    ∷ does_with (op.Copy 2 3 int) 350 351 ((span 346 347) ∷ (span 350 351) ∷ [])
    ∷ item.Loop true (cond.Compare (block []) (test rel.Lt 2 0 int (span 353 354) (span 357 358))) (block (does (op.Const 4 (literal.Int (pos 0))) 375 376
    ∷ does_with (op.Copy 3 4 int) 375 376 ((span 371 372) ∷ (span 375 376) ∷ [])
    ∷ item.Loop true (cond.Known true) (block (item.If (cond.Compare (block (does (op.Const 4 (literal.Int (pos 2))) 402 403
    ∷ [])) (test rel.Eq 3 4 int (span 397 398) (span 402 403))) (block (item.Break
    ∷ [])) (block [])
    ∷ does (op.Copy 4 3 int) 416 417
    ∷ does (op.Const 5 (literal.Int (pos 1))) 420 421
    ∷ does (op.Num 6 Add 4 5) 416 421
    ∷ does_with (op.Copy 3 6 int) 412 421 ((span 412 413) ∷ (span 416 421) ∷ [])
    ∷ item.If (cond.Compare (block (does (op.Const 4 (literal.Int (pos 1))) 432 433
    ∷ [])) (test rel.Eq 3 4 int (span 427 428) (span 432 433))) (block (item.Continue
    ∷ [])) (block [])
    ∷ does (op.Copy 4 1 int) 449 450
    ∷ does (op.Const 5 (literal.Int (pos 1))) 453 454
    ∷ does (op.Num 6 Add 4 5) 449 454
    ∷ does_with (op.Copy 1 6 int) 445 454 ((span 445 446) ∷ (span 449 454) ∷ [])
    ∷ [])) (block []) 1 4
    ∷ does (op.Copy 4 1 int) 462 463
    ∷ does (op.Const 5 (literal.Int (pos 10))) 466 468
    ∷ does (op.Num 6 Add 4 5) 462 468
    ∷ does_with (op.Copy 1 6 int) 458 468 ((span 458 459) ∷ (span 462 468) ∷ [])
    ∷ [])) (block (does (op.Copy 3 2 int) 360 361
    ∷ does (op.Const 4 (literal.Int (pos 1))) 360 363
    ∷ does (op.Num 5 Add 3 4) 360 363
    ∷ does_with (op.Copy 2 5 int) 360 363 ((span 360 361) ∷ (span 360 363) ∷ [])
    ∷ [])) 0 3
    ∷ item.Return (Some 1) (span 479 480)
    ∷ []))
    ∷ constructor_of 0 [] [] [] 1
    (block [])
    ∷ [])

loops_rows : Rows loops (
    row 0 (Whole (pos 0) ∷ []) no_limits 10 (Ended (value.Int (pos 0))) [] false
    ∷ row 0 (Whole (pos 3) ∷ []) no_limits 65 (Ended (value.Int (pos 22))) [] false
    ∷ row 0 (Whole (pos 9) ∷ []) no_limits 73 (Ended (value.Int (pos 22))) [] false
    ∷ row 1 (Whole (pos 0) ∷ []) no_limits 22 (Ended (value.Int (pos 1))) (Num (pos 1) ∷ []) false
    ∷ row 1 (Whole (pos 3) ∷ []) no_limits 52 (Ended (value.Int (pos 3))) (Num (pos 1) ∷ Num (pos 3) ∷ []) false
    ∷ row 1 (Whole (pos 9) ∷ []) no_limits 65 (Ended (value.Int (pos 4))) (Num (pos 1) ∷ Num (pos 3) ∷ Num (pos 4) ∷ []) false
    ∷ row 2 (Whole (pos 2) ∷ []) no_limits 124 (Ended (value.Int (pos 22))) [] false
    ∷ [])
unfolding hidden-the_row-Item-0 hidden-the_row-Cond-1 denote.Hole.Carrier.hidden int_wrap
loops_rows = refl
