-- Calls (JLS 15.12), and how deep they nest.
use Rattle.std.proofs.Common.{pos, true, false, List, [], ◌∷◌, Some, None, refl}
use Rattle.std.specs.Int.{int_wrap}
use Rattle.ix_num.specs.declared.arith.Arith.TheVariants as arith
use Rattle.ix_num.specs.declared.rel.Rel.TheVariants as rel
use Rattle.ix_core.specs.declared.claim.Base.TheVariants as base
use Rattle.ix_core.specs.declared.claim.Type_.TheVariants as ty
use Rattle.ix_core.specs.declared.outcome.Value.TheVariants as value_of
use Rattle.ix_core.specs.Heap.{Num}
use Rattle.ix_core.specs.Machine.{Ended}
use Rattle.ix_core.specs.Safe.{Whole, Ints}
use Rattle.ix_core.specs.Traces.{Printed}
use Rattle.ix_tree.specs.declared.annot.BaseTree.TheVariants as b
use Rattle.ix_tree.specs.declared.expr.BinaryOp.TheVariants as op
use Rattle.ix_meaning.specs.declared.note.Meaning.TheVariants as meaning
use Rattle.ix_meaning.specs.Resolved.{Names}
use Rattle.ix_source.specs.Runs.{access}
use Rattle.ix_source.proofs.Trees.{at, named, mods, type, int, name, element, call, binary, assigned, value, variable, locals, if_only, returns, returns_value, prints, runs, method, param, Method, ClassNode, class, table, Row, row, Rows, by_means}

-- class A {
--   static int half(int x, int y) { return x - y; }
--   static int nest(int x) { return half(half(x, 1), 2); }
--   static void say(int x) { System.out.println(x); if (x > 1) return; System.out.println(x + 10); }
--   static int tell(int x) { say(x); return x; }
--   static boolean never() { }
--   static int[] nothing() { }
--   static int deep(int n) { if (n == 0) return 0; return deep(n - 1) + 1; }
--   static int change(int x) { x = 9; return x; }
--   static int keeps() { int x = 1; int y = change(x); return x * 10 + y; }
--   static void fill(int[] a) { a[0] = 8; }
--   static int shared(int[] a) { fill(a); return a[0]; } }
abbrev calls_classes : List ClassNode
calls_classes = (
    (class (named (65 ∷ []) 6 7) None ((Method (method (mods true false false) (Some (type b.Int 0 (at 19 22))) false (named (104 ∷ 97 ∷ 108 ∷ 102 ∷ []) 23 27) ((param (mods false false false) (type b.Int 0 (at 28 31)) (named (120 ∷ []) 32 33)) ∷ (param (mods false false false) (type b.Int 0 (at 35 38)) (named (121 ∷ []) 39 40)) ∷ []) None ((returns_value (binary (op.Num arith.Sub) (name (named (120 ∷ []) 51 52) (at 51 52)) (name (named (121 ∷ []) 55 56) (at 55 56)) (at 51 56)) (at 44 57)) ∷ []) (at 12 59))) ∷ (Method (method (mods true false false) (Some (type b.Int 0 (at 69 72))) false (named (110 ∷ 101 ∷ 115 ∷ 116 ∷ []) 73 77) ((param (mods false false false) (type b.Int 0 (at 78 81)) (named (120 ∷ []) 82 83)) ∷ []) None ((returns_value (call (named (104 ∷ 97 ∷ 108 ∷ 102 ∷ []) 94 98) ((call (named (104 ∷ 97 ∷ 108 ∷ 102 ∷ []) 99 103) ((name (named (120 ∷ []) 104 105) (at 104 105)) ∷ (int (pos 1) (at 107 108)) ∷ []) (at 99 109)) ∷ (int (pos 2) (at 111 112)) ∷ []) (at 94 113)) (at 87 114)) ∷ []) (at 62 116))) ∷ (Method (method (mods true false false) None false (named (115 ∷ 97 ∷ 121 ∷ []) 131 134) ((param (mods false false false) (type b.Int 0 (at 135 138)) (named (120 ∷ []) 139 140)) ∷ []) None ((prints (name (named (120 ∷ []) 163 164) (at 163 164)) (at 144 166)) ∷ (if_only (binary (op.Compare rel.Gt) (name (named (120 ∷ []) 171 172) (at 171 172)) (int (pos 1) (at 175 176)) (at 171 176)) (returns (at 178 185)) (at 167 185)) ∷ (prints (binary (op.Num arith.Add) (name (named (120 ∷ []) 205 206) (at 205 206)) (int (pos 10) (at 209 211)) (at 205 211)) (at 186 213)) ∷ []) (at 119 215))) ∷ (Method (method (mods true false false) (Some (type b.Int 0 (at 225 228))) false (named (116 ∷ 101 ∷ 108 ∷ 108 ∷ []) 229 233) ((param (mods false false false) (type b.Int 0 (at 234 237)) (named (120 ∷ []) 238 239)) ∷ []) None ((runs (call (named (115 ∷ 97 ∷ 121 ∷ []) 243 246) ((name (named (120 ∷ []) 247 248) (at 247 248)) ∷ []) (at 243 249)) (at 243 250)) ∷ (returns_value (name (named (120 ∷ []) 258 259) (at 258 259)) (at 251 260)) ∷ []) (at 218 262))) ∷ (Method (method (mods true false false) (Some (type b.Boolean 0 (at 272 279))) false (named (110 ∷ 101 ∷ 118 ∷ 101 ∷ 114 ∷ []) 280 285) ([]) None ([]) (at 265 291))) ∷ (Method (method (mods true false false) (Some (type b.Int 1 (at 301 306))) false (named (110 ∷ 111 ∷ 116 ∷ 104 ∷ 105 ∷ 110 ∷ 103 ∷ []) 307 314) ([]) None ([]) (at 294 320))) ∷ (Method (method (mods true false false) (Some (type b.Int 0 (at 330 333))) false (named (100 ∷ 101 ∷ 101 ∷ 112 ∷ []) 334 338) ((param (mods false false false) (type b.Int 0 (at 339 342)) (named (110 ∷ []) 343 344)) ∷ []) None ((if_only (binary (op.Compare rel.Eq) (name (named (110 ∷ []) 352 353) (at 352 353)) (int (pos 0) (at 357 358)) (at 352 358)) (returns_value (int (pos 0) (at 367 368)) (at 360 369)) (at 348 369)) ∷ (returns_value (binary (op.Num arith.Add) (call (named (100 ∷ 101 ∷ 101 ∷ 112 ∷ []) 377 381) ((binary (op.Num arith.Sub) (name (named (110 ∷ []) 382 383) (at 382 383)) (int (pos 1) (at 386 387)) (at 382 387)) ∷ []) (at 377 388)) (int (pos 1) (at 391 392)) (at 377 392)) (at 370 393)) ∷ []) (at 323 395))) ∷ (Method (method (mods true false false) (Some (type b.Int 0 (at 405 408))) false (named (99 ∷ 104 ∷ 97 ∷ 110 ∷ 103 ∷ 101 ∷ []) 409 415) ((param (mods false false false) (type b.Int 0 (at 416 419)) (named (120 ∷ []) 420 421)) ∷ []) None ((runs (assigned None (name (named (120 ∷ []) 425 426) (at 425 426)) (int (pos 9) (at 429 430)) (at 425 430)) (at 425 431)) ∷ (returns_value (name (named (120 ∷ []) 439 440) (at 439 440)) (at 432 441)) ∷ []) (at 398 443))) ∷ (Method (method (mods true false false) (Some (type b.Int 0 (at 453 456))) false (named (107 ∷ 101 ∷ 101 ∷ 112 ∷ 115 ∷ []) 457 462) ([]) None ((locals ((variable (mods false false false) (type b.Int 0 (at 467 470)) (named (120 ∷ []) 471 472) (Some (value (int (pos 1) (at 475 476))))) ∷ []) (at 467 477)) ∷ (locals ((variable (mods false false false) (type b.Int 0 (at 478 481)) (named (121 ∷ []) 482 483) (Some (value (call (named (99 ∷ 104 ∷ 97 ∷ 110 ∷ 103 ∷ 101 ∷ []) 486 492) ((name (named (120 ∷ []) 493 494) (at 493 494)) ∷ []) (at 486 495))))) ∷ []) (at 478 496)) ∷ (returns_value (binary (op.Num arith.Add) (binary (op.Num arith.Mul) (name (named (120 ∷ []) 504 505) (at 504 505)) (int (pos 10) (at 508 510)) (at 504 510)) (name (named (121 ∷ []) 513 514) (at 513 514)) (at 504 514)) (at 497 515)) ∷ []) (at 446 517))) ∷ (Method (method (mods true false false) None false (named (102 ∷ 105 ∷ 108 ∷ 108 ∷ []) 532 536) ((param (mods false false false) (type b.Int 1 (at 537 542)) (named (97 ∷ []) 543 544)) ∷ []) None ((runs (assigned None (element (name (named (97 ∷ []) 548 549) (at 548 549)) (int (pos 0) (at 550 551)) (at 548 552)) (int (pos 8) (at 555 556)) (at 548 556)) (at 548 557)) ∷ []) (at 520 559))) ∷ (Method (method (mods true false false) (Some (type b.Int 0 (at 569 572))) false (named (115 ∷ 104 ∷ 97 ∷ 114 ∷ 101 ∷ 100 ∷ []) 573 579) ((param (mods false false false) (type b.Int 1 (at 580 585)) (named (97 ∷ []) 586 587)) ∷ []) None ((runs (call (named (102 ∷ 105 ∷ 108 ∷ 108 ∷ []) 591 595) ((name (named (97 ∷ []) 596 597) (at 596 597)) ∷ []) (at 591 598)) (at 591 599)) ∷ (returns_value (element (name (named (97 ∷ []) 607 608) (at 607 608)) (int (pos 0) (at 609 610)) (at 607 611)) (at 600 612)) ∷ []) (at 562 614))) ∷ []) (at 0 616))
    ∷ [])

abbrev calls_names : Names
calls_names = (table (((at 51 52), (meaning.Param 0)) ∷ ((at 55 56), (meaning.Param 1)) ∷ ((at 94 98), (meaning.MethodNamed 0)) ∷ ((at 99 103), (meaning.MethodNamed 0)) ∷ ((at 104 105), (meaning.Param 0)) ∷ ((at 163 164), (meaning.Param 0)) ∷ ((at 171 172), (meaning.Param 0)) ∷ ((at 205 206), (meaning.Param 0)) ∷ ((at 243 246), (meaning.MethodNamed 2)) ∷ ((at 247 248), (meaning.Param 0)) ∷ ((at 258 259), (meaning.Param 0)) ∷ ((at 352 353), (meaning.Param 0)) ∷ ((at 377 381), (meaning.MethodNamed 6)) ∷ ((at 382 383), (meaning.Param 0)) ∷ ((at 425 426), (meaning.Param 0)) ∷ ((at 439 440), (meaning.Param 0)) ∷ ((at 486 492), (meaning.MethodNamed 7)) ∷ ((at 493 494), (meaning.Local 0)) ∷ ((at 504 505), (meaning.Local 0)) ∷ ((at 513 514), (meaning.Local 1)) ∷ ((at 548 549), (meaning.Param 0)) ∷ ((at 591 595), (meaning.MethodNamed 9)) ∷ ((at 596 597), (meaning.Param 0)) ∷ ((at 607 608), (meaning.Param 0)) ∷ []) (((at 51 52), (ty.Plain base.Int)) ∷ ((at 51 56), (ty.Plain base.Int)) ∷ ((at 55 56), (ty.Plain base.Int)) ∷ ((at 94 113), (ty.Plain base.Int)) ∷ ((at 99 109), (ty.Plain base.Int)) ∷ ((at 104 105), (ty.Plain base.Int)) ∷ ((at 107 108), (ty.Plain base.Int)) ∷ ((at 111 112), (ty.Plain base.Int)) ∷ ((at 163 164), (ty.Plain base.Int)) ∷ ((at 171 172), (ty.Plain base.Int)) ∷ ((at 171 176), (ty.Plain base.Bool)) ∷ ((at 175 176), (ty.Plain base.Int)) ∷ ((at 205 206), (ty.Plain base.Int)) ∷ ((at 205 211), (ty.Plain base.Int)) ∷ ((at 209 211), (ty.Plain base.Int)) ∷ ((at 243 249), ty.Void) ∷ ((at 247 248), (ty.Plain base.Int)) ∷ ((at 258 259), (ty.Plain base.Int)) ∷ ((at 352 353), (ty.Plain base.Int)) ∷ ((at 352 358), (ty.Plain base.Bool)) ∷ ((at 357 358), (ty.Plain base.Int)) ∷ ((at 367 368), (ty.Plain base.Int)) ∷ ((at 377 388), (ty.Plain base.Int)) ∷ ((at 377 392), (ty.Plain base.Int)) ∷ ((at 382 383), (ty.Plain base.Int)) ∷ ((at 382 387), (ty.Plain base.Int)) ∷ ((at 386 387), (ty.Plain base.Int)) ∷ ((at 391 392), (ty.Plain base.Int)) ∷ ((at 425 426), (ty.Plain base.Int)) ∷ ((at 425 430), (ty.Plain base.Int)) ∷ ((at 429 430), (ty.Plain base.Int)) ∷ ((at 439 440), (ty.Plain base.Int)) ∷ ((at 475 476), (ty.Plain base.Int)) ∷ ((at 486 495), (ty.Plain base.Int)) ∷ ((at 493 494), (ty.Plain base.Int)) ∷ ((at 504 505), (ty.Plain base.Int)) ∷ ((at 504 510), (ty.Plain base.Int)) ∷ ((at 504 514), (ty.Plain base.Int)) ∷ ((at 508 510), (ty.Plain base.Int)) ∷ ((at 513 514), (ty.Plain base.Int)) ∷ ((at 548 549), (ty.Array base.Int 1 [])) ∷ ((at 548 552), (ty.Plain base.Int)) ∷ ((at 548 556), (ty.Plain base.Int)) ∷ ((at 550 551), (ty.Plain base.Int)) ∷ ((at 555 556), (ty.Plain base.Int)) ∷ ((at 591 598), ty.Void) ∷ ((at 596 597), (ty.Array base.Int 1 [])) ∷ ((at 607 608), (ty.Array base.Int 1 [])) ∷ ((at 607 611), (ty.Plain base.Int)) ∷ ((at 609 610), (ty.Plain base.Int)) ∷ []) (((at 23 27), (ty.Plain base.Int)) ∷ ((at 32 33), (ty.Plain base.Int)) ∷ ((at 39 40), (ty.Plain base.Int)) ∷ ((at 73 77), (ty.Plain base.Int)) ∷ ((at 82 83), (ty.Plain base.Int)) ∷ ((at 131 134), ty.Void) ∷ ((at 139 140), (ty.Plain base.Int)) ∷ ((at 229 233), (ty.Plain base.Int)) ∷ ((at 238 239), (ty.Plain base.Int)) ∷ ((at 280 285), (ty.Plain base.Bool)) ∷ ((at 307 314), (ty.Array base.Int 1 [])) ∷ ((at 334 338), (ty.Plain base.Int)) ∷ ((at 343 344), (ty.Plain base.Int)) ∷ ((at 409 415), (ty.Plain base.Int)) ∷ ((at 420 421), (ty.Plain base.Int)) ∷ ((at 457 462), (ty.Plain base.Int)) ∷ ((at 471 472), (ty.Plain base.Int)) ∷ ((at 482 483), (ty.Plain base.Int)) ∷ ((at 532 536), ty.Void) ∷ ((at 543 544), (ty.Array base.Int 1 [])) ∷ ((at 573 579), (ty.Plain base.Int)) ∷ ((at 586 587), (ty.Array base.Int 1 [])) ∷ []))

abbrev calls_told : List Row
calls_told =
    -- A.nest 9, at most 2
    row 1 ((Whole (pos 9)) ∷ []) 2 (Some (Ended (value_of.Int (pos 6)))) ([]) false
    -- A.tell 1, at most 2
    ∷ row 3 ((Whole (pos 1)) ∷ []) 2 (Some (Ended (value_of.Int (pos 1)))) ((Printed (Num (pos 1))) ∷ (Printed (Num (pos 11))) ∷ []) false
    -- A.tell 2, at most 2
    ∷ row 3 ((Whole (pos 2)) ∷ []) 2 (Some (Ended (value_of.Int (pos 2)))) ((Printed (Num (pos 2))) ∷ []) false
    -- A.never, at most 1
    ∷ row 4 ([]) 1 (Some (Ended (value_of.Bool false))) ([]) false
    -- A.nothing, at most 1
    ∷ row 5 ([]) 1 (Some (Ended value_of.NullRef)) ([]) false
    -- A.deep 2, at most 3
    ∷ row 6 ((Whole (pos 2)) ∷ []) 3 (Some (Ended (value_of.Int (pos 2)))) ([]) false
    -- A.deep 3, at most 3
    ∷ row 6 ((Whole (pos 3)) ∷ []) 3 (Some (Ended (value_of.Int (pos 3)))) ([]) false
    -- A.keeps, at most 2
    ∷ row 8 ([]) 2 (Some (Ended (value_of.Int (pos 19)))) ([]) false
    -- A.shared [1], at most 2
    ∷ row 10 ((Ints ((pos 1) ∷ [])) ∷ []) 2 (Some (Ended (value_of.Int (pos 8)))) ((access (pos 0) 1 550) ∷ (access (pos 0) 1 609) ∷ []) false
    -- A.nest 9, at most 0
    ∷ row 1 ((Whole (pos 9)) ∷ []) 0 None ([]) false
    ∷ []

calls_rows : Rows calls_names calls_classes calls_told
unfolding int_wrap
calls_rows = by_means calls_names calls_classes calls_told refl
