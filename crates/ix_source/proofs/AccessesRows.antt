-- Elements, lengths and new arrays (JLS 10, 15.10): each access is seen, made or refused.
use Rattle.std.proofs.Common.{pos, negsuc, true, false, List, [], ◌∷◌, Some, None, refl}
use Rattle.std.specs.Int.{int_wrap}
use Rattle.ix_num.specs.declared.arith.Arith.TheVariants as arith
use Rattle.ix_num.specs.declared.rel.Rel.TheVariants as rel
use Rattle.ix_core.specs.declared.claim.Base.TheVariants as base
use Rattle.ix_core.specs.declared.claim.Type_.TheVariants as ty
use Rattle.ix_core.specs.declared.outcome.Value.TheVariants as value_of
use Rattle.ix_core.specs.Machine.{Ended, Outside, Negative, NullUsed}
use Rattle.ix_core.specs.Safe.{Whole, Ints}
use Rattle.ix_tree.specs.declared.annot.BaseTree.TheVariants as b
use Rattle.ix_tree.specs.declared.expr.BinaryOp.TheVariants as op
use Rattle.ix_meaning.specs.declared.note.Meaning.TheVariants as meaning
use Rattle.ix_meaning.specs.Resolved.{Names}
use Rattle.ix_source.specs.Runs.{access}
use Rattle.ix_source.proofs.Trees.{at, named, mods, type, int, null, name, select, element, new_array, new_items, binary, assigned, value, items, variable, locals, if_only, returns_value, runs, method, param, Method, ClassNode, class, table, Row, row, Rows, by_means}

-- class A {
--   static int get(int[] a, int i) { return a[i]; }
--   static int put(int[] a, int i) { a[i] = 5; return a[0]; }
--   static int[] make(int n) { return new int[n]; }
--   static int made(int n) { int[] a = new int[n]; boolean[] b = new boolean[1]; if (b[0]) return 1; int[][] c = new int[1][]; if (c[0] == null) return a[1] + a.length; return 2; }
--   static int fill(int x) { int[] a = {x, 7}; return a[0] + a.length; }
--   static int deep() { int[][] a = {{1, 2}, {3}, {}}; int[] b = new int[] {4, 5, 6}; return a[0][1] * 100 + a[1][0] * 10 + a[2].length + b[2]; }
--   static int size() { int[] a = null; return a.length; }
--   static int load() { int[] a = null; return a[0]; }
--   static void store() { int[] a = null; a[0] = 1; }
--   static boolean flags(boolean[] f) { return f[0]; } }
abbrev accesses_classes : List ClassNode
accesses_classes = (
    (class (named (65 ∷ []) 6 7) None ((Method (method (mods true false false) (Some (type b.Int 0 (at 19 22))) false (named (103 ∷ 101 ∷ 116 ∷ []) 23 26) ((param (mods false false false) (type b.Int 1 (at 27 32)) (named (97 ∷ []) 33 34)) ∷ (param (mods false false false) (type b.Int 0 (at 36 39)) (named (105 ∷ []) 40 41)) ∷ []) None ((returns_value (element (name (named (97 ∷ []) 52 53) (at 52 53)) (name (named (105 ∷ []) 54 55) (at 54 55)) (at 52 56)) (at 45 57)) ∷ []) (at 12 59))) ∷ (Method (method (mods true false false) (Some (type b.Int 0 (at 69 72))) false (named (112 ∷ 117 ∷ 116 ∷ []) 73 76) ((param (mods false false false) (type b.Int 1 (at 77 82)) (named (97 ∷ []) 83 84)) ∷ (param (mods false false false) (type b.Int 0 (at 86 89)) (named (105 ∷ []) 90 91)) ∷ []) None ((runs (assigned None (element (name (named (97 ∷ []) 95 96) (at 95 96)) (name (named (105 ∷ []) 97 98) (at 97 98)) (at 95 99)) (int (pos 5) (at 102 103)) (at 95 103)) (at 95 104)) ∷ (returns_value (element (name (named (97 ∷ []) 112 113) (at 112 113)) (int (pos 0) (at 114 115)) (at 112 116)) (at 105 117)) ∷ []) (at 62 119))) ∷ (Method (method (mods true false false) (Some (type b.Int 1 (at 129 134))) false (named (109 ∷ 97 ∷ 107 ∷ 101 ∷ []) 135 139) ((param (mods false false false) (type b.Int 0 (at 140 143)) (named (110 ∷ []) 144 145)) ∷ []) None ((returns_value (new_array (type b.Int 1 (at 160 166)) (name (named (110 ∷ []) 164 165) (at 164 165)) (at 156 166)) (at 149 167)) ∷ []) (at 122 169))) ∷ (Method (method (mods true false false) (Some (type b.Int 0 (at 179 182))) false (named (109 ∷ 97 ∷ 100 ∷ 101 ∷ []) 183 187) ((param (mods false false false) (type b.Int 0 (at 188 191)) (named (110 ∷ []) 192 193)) ∷ []) None ((locals ((variable (mods false false false) (type b.Int 1 (at 197 202)) (named (97 ∷ []) 203 204) (Some (value (new_array (type b.Int 1 (at 211 217)) (name (named (110 ∷ []) 215 216) (at 215 216)) (at 207 217))))) ∷ []) (at 197 218)) ∷ (locals ((variable (mods false false false) (type b.Boolean 1 (at 219 228)) (named (98 ∷ []) 229 230) (Some (value (new_array (type b.Boolean 1 (at 237 247)) (int (pos 1) (at 245 246)) (at 233 247))))) ∷ []) (at 219 248)) ∷ (if_only (element (name (named (98 ∷ []) 253 254) (at 253 254)) (int (pos 0) (at 255 256)) (at 253 257)) (returns_value (int (pos 1) (at 266 267)) (at 259 268)) (at 249 268)) ∷ (locals ((variable (mods false false false) (type b.Int 2 (at 269 276)) (named (99 ∷ []) 277 278) (Some (value (new_array (type b.Int 2 (at 285 293)) (int (pos 1) (at 289 290)) (at 281 293))))) ∷ []) (at 269 294)) ∷ (if_only (binary (op.Compare rel.Eq) (element (name (named (99 ∷ []) 299 300) (at 299 300)) (int (pos 0) (at 301 302)) (at 299 303)) (null (at 307 311)) (at 299 311)) (returns_value (binary (op.Num arith.Add) (element (name (named (97 ∷ []) 320 321) (at 320 321)) (int (pos 1) (at 322 323)) (at 320 324)) (select (name (named (97 ∷ []) 327 328) (at 327 328)) (named (108 ∷ 101 ∷ 110 ∷ 103 ∷ 116 ∷ 104 ∷ []) 329 335) (at 327 335)) (at 320 335)) (at 313 336)) (at 295 336)) ∷ (returns_value (int (pos 2) (at 344 345)) (at 337 346)) ∷ []) (at 172 348))) ∷ (Method (method (mods true false false) (Some (type b.Int 0 (at 358 361))) false (named (102 ∷ 105 ∷ 108 ∷ 108 ∷ []) 362 366) ((param (mods false false false) (type b.Int 0 (at 367 370)) (named (120 ∷ []) 371 372)) ∷ []) None ((locals ((variable (mods false false false) (type b.Int 1 (at 376 381)) (named (97 ∷ []) 382 383) (Some (items ((value (name (named (120 ∷ []) 387 388) (at 387 388))) ∷ (value (int (pos 7) (at 390 391))) ∷ []) (at 386 392)))) ∷ []) (at 376 393)) ∷ (returns_value (binary (op.Num arith.Add) (element (name (named (97 ∷ []) 401 402) (at 401 402)) (int (pos 0) (at 403 404)) (at 401 405)) (select (name (named (97 ∷ []) 408 409) (at 408 409)) (named (108 ∷ 101 ∷ 110 ∷ 103 ∷ 116 ∷ 104 ∷ []) 410 416) (at 408 416)) (at 401 416)) (at 394 417)) ∷ []) (at 351 419))) ∷ (Method (method (mods true false false) (Some (type b.Int 0 (at 429 432))) false (named (100 ∷ 101 ∷ 101 ∷ 112 ∷ []) 433 437) ([]) None ((locals ((variable (mods false false false) (type b.Int 2 (at 442 449)) (named (97 ∷ []) 450 451) (Some (items ((items ((value (int (pos 1) (at 456 457))) ∷ (value (int (pos 2) (at 459 460))) ∷ []) (at 455 461)) ∷ (items ((value (int (pos 3) (at 464 465))) ∷ []) (at 463 466)) ∷ (items ([]) (at 468 470)) ∷ []) (at 454 471)))) ∷ []) (at 442 472)) ∷ (locals ((variable (mods false false false) (type b.Int 1 (at 473 478)) (named (98 ∷ []) 479 480) (Some (value (new_items (type b.Int 1 (at 487 492)) ((value (int (pos 4) (at 494 495))) ∷ (value (int (pos 5) (at 497 498))) ∷ (value (int (pos 6) (at 500 501))) ∷ []) (at 483 502))))) ∷ []) (at 473 503)) ∷ (returns_value (binary (op.Num arith.Add) (binary (op.Num arith.Add) (binary (op.Num arith.Add) (binary (op.Num arith.Mul) (element (element (name (named (97 ∷ []) 511 512) (at 511 512)) (int (pos 0) (at 513 514)) (at 511 515)) (int (pos 1) (at 516 517)) (at 511 518)) (int (pos 100) (at 521 524)) (at 511 524)) (binary (op.Num arith.Mul) (element (element (name (named (97 ∷ []) 527 528) (at 527 528)) (int (pos 1) (at 529 530)) (at 527 531)) (int (pos 0) (at 532 533)) (at 527 534)) (int (pos 10) (at 537 539)) (at 527 539)) (at 511 539)) (select (element (name (named (97 ∷ []) 542 543) (at 542 543)) (int (pos 2) (at 544 545)) (at 542 546)) (named (108 ∷ 101 ∷ 110 ∷ 103 ∷ 116 ∷ 104 ∷ []) 547 553) (at 542 553)) (at 511 553)) (element (name (named (98 ∷ []) 556 557) (at 556 557)) (int (pos 2) (at 558 559)) (at 556 560)) (at 511 560)) (at 504 561)) ∷ []) (at 422 563))) ∷ (Method (method (mods true false false) (Some (type b.Int 0 (at 573 576))) false (named (115 ∷ 105 ∷ 122 ∷ 101 ∷ []) 577 581) ([]) None ((locals ((variable (mods false false false) (type b.Int 1 (at 586 591)) (named (97 ∷ []) 592 593) (Some (value (null (at 596 600))))) ∷ []) (at 586 601)) ∷ (returns_value (select (name (named (97 ∷ []) 609 610) (at 609 610)) (named (108 ∷ 101 ∷ 110 ∷ 103 ∷ 116 ∷ 104 ∷ []) 611 617) (at 609 617)) (at 602 618)) ∷ []) (at 566 620))) ∷ (Method (method (mods true false false) (Some (type b.Int 0 (at 630 633))) false (named (108 ∷ 111 ∷ 97 ∷ 100 ∷ []) 634 638) ([]) None ((locals ((variable (mods false false false) (type b.Int 1 (at 643 648)) (named (97 ∷ []) 649 650) (Some (value (null (at 653 657))))) ∷ []) (at 643 658)) ∷ (returns_value (element (name (named (97 ∷ []) 666 667) (at 666 667)) (int (pos 0) (at 668 669)) (at 666 670)) (at 659 671)) ∷ []) (at 623 673))) ∷ (Method (method (mods true false false) None false (named (115 ∷ 116 ∷ 111 ∷ 114 ∷ 101 ∷ []) 688 693) ([]) None ((locals ((variable (mods false false false) (type b.Int 1 (at 698 703)) (named (97 ∷ []) 704 705) (Some (value (null (at 708 712))))) ∷ []) (at 698 713)) ∷ (runs (assigned None (element (name (named (97 ∷ []) 714 715) (at 714 715)) (int (pos 0) (at 716 717)) (at 714 718)) (int (pos 1) (at 721 722)) (at 714 722)) (at 714 723)) ∷ []) (at 676 725))) ∷ (Method (method (mods true false false) (Some (type b.Boolean 0 (at 735 742))) false (named (102 ∷ 108 ∷ 97 ∷ 103 ∷ 115 ∷ []) 743 748) ((param (mods false false false) (type b.Boolean 1 (at 749 758)) (named (102 ∷ []) 759 760)) ∷ []) None ((returns_value (element (name (named (102 ∷ []) 771 772) (at 771 772)) (int (pos 0) (at 773 774)) (at 771 775)) (at 764 776)) ∷ []) (at 728 778))) ∷ []) (at 0 780))
    ∷ [])

abbrev accesses_names : Names
accesses_names = (table (((at 52 53), (meaning.Param 0)) ∷ ((at 54 55), (meaning.Param 1)) ∷ ((at 95 96), (meaning.Param 0)) ∷ ((at 97 98), (meaning.Param 1)) ∷ ((at 112 113), (meaning.Param 0)) ∷ ((at 164 165), (meaning.Param 0)) ∷ ((at 215 216), (meaning.Param 0)) ∷ ((at 253 254), (meaning.Local 1)) ∷ ((at 299 300), (meaning.Local 2)) ∷ ((at 320 321), (meaning.Local 0)) ∷ ((at 327 328), (meaning.Local 0)) ∷ ((at 329 335), meaning.LengthOf) ∷ ((at 387 388), (meaning.Param 0)) ∷ ((at 401 402), (meaning.Local 0)) ∷ ((at 408 409), (meaning.Local 0)) ∷ ((at 410 416), meaning.LengthOf) ∷ ((at 511 512), (meaning.Local 0)) ∷ ((at 527 528), (meaning.Local 0)) ∷ ((at 542 543), (meaning.Local 0)) ∷ ((at 547 553), meaning.LengthOf) ∷ ((at 556 557), (meaning.Local 1)) ∷ ((at 609 610), (meaning.Local 0)) ∷ ((at 611 617), meaning.LengthOf) ∷ ((at 666 667), (meaning.Local 0)) ∷ ((at 714 715), (meaning.Local 0)) ∷ ((at 771 772), (meaning.Param 0)) ∷ []) (((at 52 53), (ty.Array base.Int 1 [])) ∷ ((at 52 56), (ty.Plain base.Int)) ∷ ((at 54 55), (ty.Plain base.Int)) ∷ ((at 95 96), (ty.Array base.Int 1 [])) ∷ ((at 95 99), (ty.Plain base.Int)) ∷ ((at 95 103), (ty.Plain base.Int)) ∷ ((at 97 98), (ty.Plain base.Int)) ∷ ((at 102 103), (ty.Plain base.Int)) ∷ ((at 112 113), (ty.Array base.Int 1 [])) ∷ ((at 112 116), (ty.Plain base.Int)) ∷ ((at 114 115), (ty.Plain base.Int)) ∷ ((at 156 166), (ty.Array base.Int 1 [])) ∷ ((at 164 165), (ty.Plain base.Int)) ∷ ((at 207 217), (ty.Array base.Int 1 [])) ∷ ((at 215 216), (ty.Plain base.Int)) ∷ ((at 233 247), (ty.Array base.Bool 1 [])) ∷ ((at 245 246), (ty.Plain base.Int)) ∷ ((at 253 254), (ty.Array base.Bool 1 [])) ∷ ((at 253 257), (ty.Plain base.Bool)) ∷ ((at 255 256), (ty.Plain base.Int)) ∷ ((at 266 267), (ty.Plain base.Int)) ∷ ((at 281 293), (ty.Array base.Int 2 [])) ∷ ((at 289 290), (ty.Plain base.Int)) ∷ ((at 299 300), (ty.Array base.Int 2 [])) ∷ ((at 299 303), (ty.Array base.Int 1 [])) ∷ ((at 299 311), (ty.Plain base.Bool)) ∷ ((at 301 302), (ty.Plain base.Int)) ∷ ((at 307 311), (ty.Array base.Int 1 [])) ∷ ((at 320 321), (ty.Array base.Int 1 [])) ∷ ((at 320 324), (ty.Plain base.Int)) ∷ ((at 320 335), (ty.Plain base.Int)) ∷ ((at 322 323), (ty.Plain base.Int)) ∷ ((at 327 328), (ty.Array base.Int 1 [])) ∷ ((at 327 335), (ty.Plain base.Int)) ∷ ((at 344 345), (ty.Plain base.Int)) ∷ ((at 387 388), (ty.Plain base.Int)) ∷ ((at 390 391), (ty.Plain base.Int)) ∷ ((at 401 402), (ty.Array base.Int 1 [])) ∷ ((at 401 405), (ty.Plain base.Int)) ∷ ((at 401 416), (ty.Plain base.Int)) ∷ ((at 403 404), (ty.Plain base.Int)) ∷ ((at 408 409), (ty.Array base.Int 1 [])) ∷ ((at 408 416), (ty.Plain base.Int)) ∷ ((at 456 457), (ty.Plain base.Int)) ∷ ((at 459 460), (ty.Plain base.Int)) ∷ ((at 464 465), (ty.Plain base.Int)) ∷ ((at 483 502), (ty.Array base.Int 1 [])) ∷ ((at 494 495), (ty.Plain base.Int)) ∷ ((at 497 498), (ty.Plain base.Int)) ∷ ((at 500 501), (ty.Plain base.Int)) ∷ ((at 511 512), (ty.Array base.Int 2 [])) ∷ ((at 511 515), (ty.Array base.Int 1 [])) ∷ ((at 511 518), (ty.Plain base.Int)) ∷ ((at 511 524), (ty.Plain base.Int)) ∷ ((at 511 539), (ty.Plain base.Int)) ∷ ((at 511 553), (ty.Plain base.Int)) ∷ ((at 511 560), (ty.Plain base.Int)) ∷ ((at 513 514), (ty.Plain base.Int)) ∷ ((at 516 517), (ty.Plain base.Int)) ∷ ((at 521 524), (ty.Plain base.Int)) ∷ ((at 527 528), (ty.Array base.Int 2 [])) ∷ ((at 527 531), (ty.Array base.Int 1 [])) ∷ ((at 527 534), (ty.Plain base.Int)) ∷ ((at 527 539), (ty.Plain base.Int)) ∷ ((at 529 530), (ty.Plain base.Int)) ∷ ((at 532 533), (ty.Plain base.Int)) ∷ ((at 537 539), (ty.Plain base.Int)) ∷ ((at 542 543), (ty.Array base.Int 2 [])) ∷ ((at 542 546), (ty.Array base.Int 1 [])) ∷ ((at 542 553), (ty.Plain base.Int)) ∷ ((at 544 545), (ty.Plain base.Int)) ∷ ((at 556 557), (ty.Array base.Int 1 [])) ∷ ((at 556 560), (ty.Plain base.Int)) ∷ ((at 558 559), (ty.Plain base.Int)) ∷ ((at 596 600), (ty.Array base.Int 1 [])) ∷ ((at 609 610), (ty.Array base.Int 1 [])) ∷ ((at 609 617), (ty.Plain base.Int)) ∷ ((at 653 657), (ty.Array base.Int 1 [])) ∷ ((at 666 667), (ty.Array base.Int 1 [])) ∷ ((at 666 670), (ty.Plain base.Int)) ∷ ((at 668 669), (ty.Plain base.Int)) ∷ ((at 708 712), (ty.Array base.Int 1 [])) ∷ ((at 714 715), (ty.Array base.Int 1 [])) ∷ ((at 714 718), (ty.Plain base.Int)) ∷ ((at 714 722), (ty.Plain base.Int)) ∷ ((at 716 717), (ty.Plain base.Int)) ∷ ((at 721 722), (ty.Plain base.Int)) ∷ ((at 771 772), (ty.Array base.Bool 1 [])) ∷ ((at 771 775), (ty.Plain base.Bool)) ∷ ((at 773 774), (ty.Plain base.Int)) ∷ []) (((at 23 26), (ty.Plain base.Int)) ∷ ((at 33 34), (ty.Array base.Int 1 [])) ∷ ((at 40 41), (ty.Plain base.Int)) ∷ ((at 73 76), (ty.Plain base.Int)) ∷ ((at 83 84), (ty.Array base.Int 1 [])) ∷ ((at 90 91), (ty.Plain base.Int)) ∷ ((at 135 139), (ty.Array base.Int 1 [])) ∷ ((at 144 145), (ty.Plain base.Int)) ∷ ((at 183 187), (ty.Plain base.Int)) ∷ ((at 192 193), (ty.Plain base.Int)) ∷ ((at 203 204), (ty.Array base.Int 1 [])) ∷ ((at 229 230), (ty.Array base.Bool 1 [])) ∷ ((at 277 278), (ty.Array base.Int 2 [])) ∷ ((at 362 366), (ty.Plain base.Int)) ∷ ((at 371 372), (ty.Plain base.Int)) ∷ ((at 382 383), (ty.Array base.Int 1 [])) ∷ ((at 433 437), (ty.Plain base.Int)) ∷ ((at 450 451), (ty.Array base.Int 2 [])) ∷ ((at 479 480), (ty.Array base.Int 1 [])) ∷ ((at 577 581), (ty.Plain base.Int)) ∷ ((at 592 593), (ty.Array base.Int 1 [])) ∷ ((at 634 638), (ty.Plain base.Int)) ∷ ((at 649 650), (ty.Array base.Int 1 [])) ∷ ((at 688 693), ty.Void) ∷ ((at 704 705), (ty.Array base.Int 1 [])) ∷ ((at 743 748), (ty.Plain base.Bool)) ∷ ((at 759 760), (ty.Array base.Bool 1 [])) ∷ []))

abbrev accesses_told : List Row
accesses_told =
    -- A.get [5] 0, at most 1
    row 0 ((Ints ((pos 5) ∷ [])) ∷ (Whole (pos 0)) ∷ []) 1 (Some (Ended (value_of.Int (pos 5)))) ((access (pos 0) 1 54) ∷ []) false
    -- A.get [5] 1, at most 1
    ∷ row 0 ((Ints ((pos 5) ∷ [])) ∷ (Whole (pos 1)) ∷ []) 1 (Some (Outside (pos 1) (pos 1) 54)) ((access (pos 1) 1 54) ∷ []) false
    -- A.get [5] -1, at most 1
    ∷ row 0 ((Ints ((pos 5) ∷ [])) ∷ (Whole (negsuc 0)) ∷ []) 1 (Some (Outside (negsuc 0) (pos 1) 54)) ((access (negsuc 0) 1 54) ∷ []) false
    -- A.put [4] 0, at most 1
    ∷ row 1 ((Ints ((pos 4) ∷ [])) ∷ (Whole (pos 0)) ∷ []) 1 (Some (Ended (value_of.Int (pos 5)))) ((access (pos 0) 1 97) ∷ (access (pos 0) 1 114) ∷ []) false
    -- A.put [4] 2147483647, at most 1
    ∷ row 1 ((Ints ((pos 4) ∷ [])) ∷ (Whole (pos 2147483647)) ∷ []) 1 (Some (Outside (pos 2147483647) (pos 1) 97)) ((access (pos 2147483647) 1 97) ∷ []) false
    -- A.make 3, at most 1
    ∷ row 2 ((Whole (pos 3)) ∷ []) 1 (Some (Ended (value_of.ArrayOf 3))) ([]) false
    -- A.make -1, at most 1
    ∷ row 2 ((Whole (negsuc 0)) ∷ []) 1 (Some (Negative (negsuc 0) 164)) ([]) false
    -- A.made 2, at most 1
    ∷ row 3 ((Whole (pos 2)) ∷ []) 1 (Some (Ended (value_of.Int (pos 2)))) ((access (pos 0) 1 255) ∷ (access (pos 0) 1 301) ∷ (access (pos 1) 2 322) ∷ []) false
    -- A.made 1, at most 1
    ∷ row 3 ((Whole (pos 1)) ∷ []) 1 (Some (Outside (pos 1) (pos 1) 322)) ((access (pos 0) 1 255) ∷ (access (pos 0) 1 301) ∷ (access (pos 1) 1 322) ∷ []) false
    -- A.fill 4, at most 1
    ∷ row 4 ((Whole (pos 4)) ∷ []) 1 (Some (Ended (value_of.Int (pos 6)))) ((access (pos 0) 2 403) ∷ []) false
    -- A.deep, at most 1
    ∷ row 5 ([]) 1 (Some (Ended (value_of.Int (pos 236)))) ((access (pos 0) 3 513) ∷ (access (pos 1) 2 516) ∷ (access (pos 1) 3 529) ∷ (access (pos 0) 1 532) ∷ (access (pos 2) 3 544) ∷ (access (pos 2) 3 558) ∷ []) false
    -- A.size, at most 1
    ∷ row 6 ([]) 1 (Some (NullUsed 609)) ([]) false
    -- A.load, at most 1
    ∷ row 7 ([]) 1 (Some (NullUsed 668)) ([]) false
    -- A.store, at most 1
    ∷ row 8 ([]) 1 (Some (NullUsed 716)) ([]) false
    ∷ []

accesses_rows : Rows accesses_names accesses_classes accesses_told
unfolding int_wrap
accesses_rows = by_means accesses_names accesses_classes accesses_told refl
