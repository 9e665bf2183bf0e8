-- Which method runs (JLS 15.12.4), and the fields of objects.
use Rattle.std.proofs.Common.{pos, true, false, List, [], ◌∷◌, Some, None, refl}
use Rattle.std.specs.Int.{int_wrap}
use Rattle.ix_num.specs.declared.arith.Arith.TheVariants as arith
use Rattle.ix_core.specs.declared.claim.Base.TheVariants as base
use Rattle.ix_core.specs.declared.claim.Type_.TheVariants as ty
use Rattle.ix_core.specs.declared.outcome.Value.TheVariants as value_of
use Rattle.ix_core.specs.Heap.{Num}
use Rattle.ix_core.specs.Machine.{Ended, NullUsed}
use Rattle.ix_core.specs.Traces.{Printed}
use Rattle.ix_tree.specs.declared.annot.BaseTree.TheVariants as b
use Rattle.ix_tree.specs.declared.expr.BinaryOp.TheVariants as op
use Rattle.ix_meaning.specs.declared.note.Meaning.TheVariants as meaning
use Rattle.ix_meaning.specs.Resolved.{Names}
use Rattle.ix_source.proofs.Trees.{at, named, mods, type, int, null, name, select, call, call_on, new, binary, assigned, value, variable, locals, returns_value, prints, runs, method, param, Field, Method, ClassNode, class, table, Row, row, Rows, by_means}

-- class A { int x; int who() { return 1; } int twice() { return who() + who(); } }
-- class B extends A { int y; }
-- class C extends B { int z; int who() { return 3; } }
-- class D extends A { int w; int who() { return 5; } }
-- class E extends C { int who() { return 7; } }
-- class F extends E { }
-- class M {
--   static int inherited() { A a = new B(); return a.twice(); }
--   static int overridden() { A a = new C(); return a.twice(); }
--   static int again() { A a = new E(); return a.who(); }
--   static int below() { A a = new F(); return a.who(); }
--   static int beside() { A a = new D(); return a.who(); }
--   static int places() { B b = new B(); D d = new D(); b.x = 1; b.y = 2; d.x = 4; d.w = 8; System.out.println(b.y); System.out.println(b.x); return d.w + d.x; }
--   static int read() { A a = null; return a.x; }
--   static int t(int n) { System.out.println(n); return n; }
--   static int call() { A a = null; return a.who(); } }
abbrev dispatch_classes : List ClassNode
dispatch_classes = (
    (class (named (65 ∷ []) 6 7) None ((Field (variable (mods false false false) (type b.Int 0 (at 10 13)) (named (120 ∷ []) 14 15) None)) ∷ (Method (method (mods false false false) (Some (type b.Int 0 (at 17 20))) false (named (119 ∷ 104 ∷ 111 ∷ []) 21 24) ([]) None ((returns_value (int (pos 1) (at 36 37)) (at 29 38)) ∷ []) (at 17 40))) ∷ (Method (method (mods false false false) (Some (type b.Int 0 (at 41 44))) false (named (116 ∷ 119 ∷ 105 ∷ 99 ∷ 101 ∷ []) 45 50) ([]) None ((returns_value (binary (op.Num arith.Add) (call (named (119 ∷ 104 ∷ 111 ∷ []) 62 65) ([]) (at 62 67)) (call (named (119 ∷ 104 ∷ 111 ∷ []) 70 73) ([]) (at 70 75)) (at 62 75)) (at 55 76)) ∷ []) (at 41 78))) ∷ []) (at 0 80))
    ∷
    (class (named (66 ∷ []) 87 88) (Some (named (65 ∷ []) 97 98)) ((Field (variable (mods false false false) (type b.Int 0 (at 101 104)) (named (121 ∷ []) 105 106) None)) ∷ []) (at 81 109))
    ∷
    (class (named (67 ∷ []) 116 117) (Some (named (66 ∷ []) 126 127)) ((Field (variable (mods false false false) (type b.Int 0 (at 130 133)) (named (122 ∷ []) 134 135) None)) ∷ (Method (method (mods false false false) (Some (type b.Int 0 (at 137 140))) false (named (119 ∷ 104 ∷ 111 ∷ []) 141 144) ([]) None ((returns_value (int (pos 3) (at 156 157)) (at 149 158)) ∷ []) (at 137 160))) ∷ []) (at 110 162))
    ∷
    (class (named (68 ∷ []) 169 170) (Some (named (65 ∷ []) 179 180)) ((Field (variable (mods false false false) (type b.Int 0 (at 183 186)) (named (119 ∷ []) 187 188) None)) ∷ (Method (method (mods false false false) (Some (type b.Int 0 (at 190 193))) false (named (119 ∷ 104 ∷ 111 ∷ []) 194 197) ([]) None ((returns_value (int (pos 5) (at 209 210)) (at 202 211)) ∷ []) (at 190 213))) ∷ []) (at 163 215))
    ∷
    (class (named (69 ∷ []) 222 223) (Some (named (67 ∷ []) 232 233)) ((Method (method (mods false false false) (Some (type b.Int 0 (at 236 239))) false (named (119 ∷ 104 ∷ 111 ∷ []) 240 243) ([]) None ((returns_value (int (pos 7) (at 255 256)) (at 248 257)) ∷ []) (at 236 259))) ∷ []) (at 216 261))
    ∷
    (class (named (70 ∷ []) 268 269) (Some (named (69 ∷ []) 278 279)) ([]) (at 262 283))
    ∷
    (class (named (77 ∷ []) 290 291) None ((Method (method (mods true false false) (Some (type b.Int 0 (at 303 306))) false (named (105 ∷ 110 ∷ 104 ∷ 101 ∷ 114 ∷ 105 ∷ 116 ∷ 101 ∷ 100 ∷ []) 307 316) ([]) None ((locals ((variable (mods false false false) (type (b.Named (named (65 ∷ []) 321 322)) 0 (at 321 322)) (named (97 ∷ []) 323 324) (Some (value (new (named (66 ∷ []) 331 332) ([]) (at 327 334))))) ∷ []) (at 321 335)) ∷ (returns_value (call_on (name (named (97 ∷ []) 343 344) (at 343 344)) (named (116 ∷ 119 ∷ 105 ∷ 99 ∷ 101 ∷ []) 345 350) ([]) (at 343 352)) (at 336 353)) ∷ []) (at 296 355))) ∷ (Method (method (mods true false false) (Some (type b.Int 0 (at 365 368))) false (named (111 ∷ 118 ∷ 101 ∷ 114 ∷ 114 ∷ 105 ∷ 100 ∷ 100 ∷ 101 ∷ 110 ∷ []) 369 379) ([]) None ((locals ((variable (mods false false false) (type (b.Named (named (65 ∷ []) 384 385)) 0 (at 384 385)) (named (97 ∷ []) 386 387) (Some (value (new (named (67 ∷ []) 394 395) ([]) (at 390 397))))) ∷ []) (at 384 398)) ∷ (returns_value (call_on (name (named (97 ∷ []) 406 407) (at 406 407)) (named (116 ∷ 119 ∷ 105 ∷ 99 ∷ 101 ∷ []) 408 413) ([]) (at 406 415)) (at 399 416)) ∷ []) (at 358 418))) ∷ (Method (method (mods true false false) (Some (type b.Int 0 (at 428 431))) false (named (97 ∷ 103 ∷ 97 ∷ 105 ∷ 110 ∷ []) 432 437) ([]) None ((locals ((variable (mods false false false) (type (b.Named (named (65 ∷ []) 442 443)) 0 (at 442 443)) (named (97 ∷ []) 444 445) (Some (value (new (named (69 ∷ []) 452 453) ([]) (at 448 455))))) ∷ []) (at 442 456)) ∷ (returns_value (call_on (name (named (97 ∷ []) 464 465) (at 464 465)) (named (119 ∷ 104 ∷ 111 ∷ []) 466 469) ([]) (at 464 471)) (at 457 472)) ∷ []) (at 421 474))) ∷ (Method (method (mods true false false) (Some (type b.Int 0 (at 484 487))) false (named (98 ∷ 101 ∷ 108 ∷ 111 ∷ 119 ∷ []) 488 493) ([]) None ((locals ((variable (mods false false false) (type (b.Named (named (65 ∷ []) 498 499)) 0 (at 498 499)) (named (97 ∷ []) 500 501) (Some (value (new (named (70 ∷ []) 508 509) ([]) (at 504 511))))) ∷ []) (at 498 512)) ∷ (returns_value (call_on (name (named (97 ∷ []) 520 521) (at 520 521)) (named (119 ∷ 104 ∷ 111 ∷ []) 522 525) ([]) (at 520 527)) (at 513 528)) ∷ []) (at 477 530))) ∷ (Method (method (mods true false false) (Some (type b.Int 0 (at 540 543))) false (named (98 ∷ 101 ∷ 115 ∷ 105 ∷ 100 ∷ 101 ∷ []) 544 550) ([]) None ((locals ((variable (mods false false false) (type (b.Named (named (65 ∷ []) 555 556)) 0 (at 555 556)) (named (97 ∷ []) 557 558) (Some (value (new (named (68 ∷ []) 565 566) ([]) (at 561 568))))) ∷ []) (at 555 569)) ∷ (returns_value (call_on (name (named (97 ∷ []) 577 578) (at 577 578)) (named (119 ∷ 104 ∷ 111 ∷ []) 579 582) ([]) (at 577 584)) (at 570 585)) ∷ []) (at 533 587))) ∷ (Method (method (mods true false false) (Some (type b.Int 0 (at 597 600))) false (named (112 ∷ 108 ∷ 97 ∷ 99 ∷ 101 ∷ 115 ∷ []) 601 607) ([]) None ((locals ((variable (mods false false false) (type (b.Named (named (66 ∷ []) 612 613)) 0 (at 612 613)) (named (98 ∷ []) 614 615) (Some (value (new (named (66 ∷ []) 622 623) ([]) (at 618 625))))) ∷ []) (at 612 626)) ∷ (locals ((variable (mods false false false) (type (b.Named (named (68 ∷ []) 627 628)) 0 (at 627 628)) (named (100 ∷ []) 629 630) (Some (value (new (named (68 ∷ []) 637 638) ([]) (at 633 640))))) ∷ []) (at 627 641)) ∷ (runs (assigned None (select (name (named (98 ∷ []) 642 643) (at 642 643)) (named (120 ∷ []) 644 645) (at 642 645)) (int (pos 1) (at 648 649)) (at 642 649)) (at 642 650)) ∷ (runs (assigned None (select (name (named (98 ∷ []) 651 652) (at 651 652)) (named (121 ∷ []) 653 654) (at 651 654)) (int (pos 2) (at 657 658)) (at 651 658)) (at 651 659)) ∷ (runs (assigned None (select (name (named (100 ∷ []) 660 661) (at 660 661)) (named (120 ∷ []) 662 663) (at 660 663)) (int (pos 4) (at 666 667)) (at 660 667)) (at 660 668)) ∷ (runs (assigned None (select (name (named (100 ∷ []) 669 670) (at 669 670)) (named (119 ∷ []) 671 672) (at 669 672)) (int (pos 8) (at 675 676)) (at 669 676)) (at 669 677)) ∷ (prints (select (name (named (98 ∷ []) 697 698) (at 697 698)) (named (121 ∷ []) 699 700) (at 697 700)) (at 678 702)) ∷ (prints (select (name (named (98 ∷ []) 722 723) (at 722 723)) (named (120 ∷ []) 724 725) (at 722 725)) (at 703 727)) ∷ (returns_value (binary (op.Num arith.Add) (select (name (named (100 ∷ []) 735 736) (at 735 736)) (named (119 ∷ []) 737 738) (at 735 738)) (select (name (named (100 ∷ []) 741 742) (at 741 742)) (named (120 ∷ []) 743 744) (at 741 744)) (at 735 744)) (at 728 745)) ∷ []) (at 590 747))) ∷ (Method (method (mods true false false) (Some (type b.Int 0 (at 757 760))) false (named (114 ∷ 101 ∷ 97 ∷ 100 ∷ []) 761 765) ([]) None ((locals ((variable (mods false false false) (type (b.Named (named (65 ∷ []) 770 771)) 0 (at 770 771)) (named (97 ∷ []) 772 773) (Some (value (null (at 776 780))))) ∷ []) (at 770 781)) ∷ (returns_value (select (name (named (97 ∷ []) 789 790) (at 789 790)) (named (120 ∷ []) 791 792) (at 789 792)) (at 782 793)) ∷ []) (at 750 795))) ∷ (Method (method (mods true false false) (Some (type b.Int 0 (at 805 808))) false (named (116 ∷ []) 809 810) ((param (mods false false false) (type b.Int 0 (at 811 814)) (named (110 ∷ []) 815 816)) ∷ []) None ((prints (name (named (110 ∷ []) 839 840) (at 839 840)) (at 820 842)) ∷ (returns_value (name (named (110 ∷ []) 850 851) (at 850 851)) (at 843 852)) ∷ []) (at 798 854))) ∷ (Method (method (mods true false false) (Some (type b.Int 0 (at 864 867))) false (named (99 ∷ 97 ∷ 108 ∷ 108 ∷ []) 868 872) ([]) None ((locals ((variable (mods false false false) (type (b.Named (named (65 ∷ []) 877 878)) 0 (at 877 878)) (named (97 ∷ []) 879 880) (Some (value (null (at 883 887))))) ∷ []) (at 877 888)) ∷ (returns_value (call_on (name (named (97 ∷ []) 896 897) (at 896 897)) (named (119 ∷ 104 ∷ 111 ∷ []) 898 901) ([]) (at 896 903)) (at 889 904)) ∷ []) (at 857 906))) ∷ []) (at 284 908))
    ∷ [])

abbrev dispatch_names : Names
dispatch_names = (table (((at 62 65), (meaning.MethodNamed 0)) ∷ ((at 70 73), (meaning.MethodNamed 0)) ∷ ((at 97 98), (meaning.ClassNamed 0)) ∷ ((at 126 127), (meaning.ClassNamed 1)) ∷ ((at 179 180), (meaning.ClassNamed 0)) ∷ ((at 232 233), (meaning.ClassNamed 2)) ∷ ((at 278 279), (meaning.ClassNamed 4)) ∷ ((at 321 322), (meaning.ClassNamed 0)) ∷ ((at 331 332), (meaning.ClassNamed 1)) ∷ ((at 343 344), (meaning.Local 0)) ∷ ((at 345 350), (meaning.MethodNamed 1)) ∷ ((at 384 385), (meaning.ClassNamed 0)) ∷ ((at 394 395), (meaning.ClassNamed 2)) ∷ ((at 406 407), (meaning.Local 0)) ∷ ((at 408 413), (meaning.MethodNamed 1)) ∷ ((at 442 443), (meaning.ClassNamed 0)) ∷ ((at 452 453), (meaning.ClassNamed 4)) ∷ ((at 464 465), (meaning.Local 0)) ∷ ((at 466 469), (meaning.MethodNamed 0)) ∷ ((at 498 499), (meaning.ClassNamed 0)) ∷ ((at 508 509), (meaning.ClassNamed 5)) ∷ ((at 520 521), (meaning.Local 0)) ∷ ((at 522 525), (meaning.MethodNamed 0)) ∷ ((at 555 556), (meaning.ClassNamed 0)) ∷ ((at 565 566), (meaning.ClassNamed 3)) ∷ ((at 577 578), (meaning.Local 0)) ∷ ((at 579 582), (meaning.MethodNamed 0)) ∷ ((at 612 613), (meaning.ClassNamed 1)) ∷ ((at 622 623), (meaning.ClassNamed 1)) ∷ ((at 627 628), (meaning.ClassNamed 3)) ∷ ((at 637 638), (meaning.ClassNamed 3)) ∷ ((at 642 643), (meaning.Local 0)) ∷ ((at 644 645), (meaning.FieldNamed 0)) ∷ ((at 651 652), (meaning.Local 0)) ∷ ((at 653 654), (meaning.FieldNamed 1)) ∷ ((at 660 661), (meaning.Local 1)) ∷ ((at 662 663), (meaning.FieldNamed 0)) ∷ ((at 669 670), (meaning.Local 1)) ∷ ((at 671 672), (meaning.FieldNamed 3)) ∷ ((at 697 698), (meaning.Local 0)) ∷ ((at 699 700), (meaning.FieldNamed 1)) ∷ ((at 722 723), (meaning.Local 0)) ∷ ((at 724 725), (meaning.FieldNamed 0)) ∷ ((at 735 736), (meaning.Local 1)) ∷ ((at 737 738), (meaning.FieldNamed 3)) ∷ ((at 741 742), (meaning.Local 1)) ∷ ((at 743 744), (meaning.FieldNamed 0)) ∷ ((at 770 771), (meaning.ClassNamed 0)) ∷ ((at 789 790), (meaning.Local 0)) ∷ ((at 791 792), (meaning.FieldNamed 0)) ∷ ((at 839 840), (meaning.Param 0)) ∷ ((at 850 851), (meaning.Param 0)) ∷ ((at 877 878), (meaning.ClassNamed 0)) ∷ ((at 896 897), (meaning.Local 0)) ∷ ((at 898 901), (meaning.MethodNamed 0)) ∷ []) (((at 36 37), (ty.Plain base.Int)) ∷ ((at 62 67), (ty.Plain base.Int)) ∷ ((at 62 75), (ty.Plain base.Int)) ∷ ((at 70 75), (ty.Plain base.Int)) ∷ ((at 156 157), (ty.Plain base.Int)) ∷ ((at 209 210), (ty.Plain base.Int)) ∷ ((at 255 256), (ty.Plain base.Int)) ∷ ((at 327 334), (ty.Plain (base.Class 1))) ∷ ((at 343 344), (ty.Plain (base.Class 0))) ∷ ((at 343 352), (ty.Plain base.Int)) ∷ ((at 390 397), (ty.Plain (base.Class 2))) ∷ ((at 406 407), (ty.Plain (base.Class 0))) ∷ ((at 406 415), (ty.Plain base.Int)) ∷ ((at 448 455), (ty.Plain (base.Class 4))) ∷ ((at 464 465), (ty.Plain (base.Class 0))) ∷ ((at 464 471), (ty.Plain base.Int)) ∷ ((at 504 511), (ty.Plain (base.Class 5))) ∷ ((at 520 521), (ty.Plain (base.Class 0))) ∷ ((at 520 527), (ty.Plain base.Int)) ∷ ((at 561 568), (ty.Plain (base.Class 3))) ∷ ((at 577 578), (ty.Plain (base.Class 0))) ∷ ((at 577 584), (ty.Plain base.Int)) ∷ ((at 618 625), (ty.Plain (base.Class 1))) ∷ ((at 633 640), (ty.Plain (base.Class 3))) ∷ ((at 642 643), (ty.Plain (base.Class 1))) ∷ ((at 642 645), (ty.Plain base.Int)) ∷ ((at 642 649), (ty.Plain base.Int)) ∷ ((at 648 649), (ty.Plain base.Int)) ∷ ((at 651 652), (ty.Plain (base.Class 1))) ∷ ((at 651 654), (ty.Plain base.Int)) ∷ ((at 651 658), (ty.Plain base.Int)) ∷ ((at 657 658), (ty.Plain base.Int)) ∷ ((at 660 661), (ty.Plain (base.Class 3))) ∷ ((at 660 663), (ty.Plain base.Int)) ∷ ((at 660 667), (ty.Plain base.Int)) ∷ ((at 666 667), (ty.Plain base.Int)) ∷ ((at 669 670), (ty.Plain (base.Class 3))) ∷ ((at 669 672), (ty.Plain base.Int)) ∷ ((at 669 676), (ty.Plain base.Int)) ∷ ((at 675 676), (ty.Plain base.Int)) ∷ ((at 697 698), (ty.Plain (base.Class 1))) ∷ ((at 697 700), (ty.Plain base.Int)) ∷ ((at 722 723), (ty.Plain (base.Class 1))) ∷ ((at 722 725), (ty.Plain base.Int)) ∷ ((at 735 736), (ty.Plain (base.Class 3))) ∷ ((at 735 738), (ty.Plain base.Int)) ∷ ((at 735 744), (ty.Plain base.Int)) ∷ ((at 741 742), (ty.Plain (base.Class 3))) ∷ ((at 741 744), (ty.Plain base.Int)) ∷ ((at 776 780), (ty.Plain (base.Class 0))) ∷ ((at 789 790), (ty.Plain (base.Class 0))) ∷ ((at 789 792), (ty.Plain base.Int)) ∷ ((at 839 840), (ty.Plain base.Int)) ∷ ((at 850 851), (ty.Plain base.Int)) ∷ ((at 883 887), (ty.Plain (base.Class 0))) ∷ ((at 896 897), (ty.Plain (base.Class 0))) ∷ ((at 896 903), (ty.Plain base.Int)) ∷ []) (((at 14 15), (ty.Plain base.Int)) ∷ ((at 21 24), (ty.Plain base.Int)) ∷ ((at 45 50), (ty.Plain base.Int)) ∷ ((at 105 106), (ty.Plain base.Int)) ∷ ((at 134 135), (ty.Plain base.Int)) ∷ ((at 141 144), (ty.Plain base.Int)) ∷ ((at 187 188), (ty.Plain base.Int)) ∷ ((at 194 197), (ty.Plain base.Int)) ∷ ((at 240 243), (ty.Plain base.Int)) ∷ ((at 307 316), (ty.Plain base.Int)) ∷ ((at 323 324), (ty.Plain (base.Class 0))) ∷ ((at 369 379), (ty.Plain base.Int)) ∷ ((at 386 387), (ty.Plain (base.Class 0))) ∷ ((at 432 437), (ty.Plain base.Int)) ∷ ((at 444 445), (ty.Plain (base.Class 0))) ∷ ((at 488 493), (ty.Plain base.Int)) ∷ ((at 500 501), (ty.Plain (base.Class 0))) ∷ ((at 544 550), (ty.Plain base.Int)) ∷ ((at 557 558), (ty.Plain (base.Class 0))) ∷ ((at 601 607), (ty.Plain base.Int)) ∷ ((at 614 615), (ty.Plain (base.Class 1))) ∷ ((at 629 630), (ty.Plain (base.Class 3))) ∷ ((at 761 765), (ty.Plain base.Int)) ∷ ((at 772 773), (ty.Plain (base.Class 0))) ∷ ((at 809 810), (ty.Plain base.Int)) ∷ ((at 815 816), (ty.Plain base.Int)) ∷ ((at 868 872), (ty.Plain base.Int)) ∷ ((at 879 880), (ty.Plain (base.Class 0))) ∷ []))

abbrev dispatch_told : List Row
dispatch_told =
    -- M.inherited, at most 4
    row 5 ([]) 4 (Some (Ended (value_of.Int (pos 2)))) ([]) false
    -- M.overridden, at most 4
    ∷ row 6 ([]) 4 (Some (Ended (value_of.Int (pos 6)))) ([]) false
    -- M.again, at most 4
    ∷ row 7 ([]) 4 (Some (Ended (value_of.Int (pos 7)))) ([]) false
    -- M.below, at most 4
    ∷ row 8 ([]) 4 None ([]) false
    -- M.beside, at most 4
    ∷ row 9 ([]) 4 (Some (Ended (value_of.Int (pos 5)))) ([]) false
    -- M.places, at most 4
    ∷ row 10 ([]) 4 (Some (Ended (value_of.Int (pos 12)))) ((Printed (Num (pos 2))) ∷ (Printed (Num (pos 1))) ∷ []) false
    -- M.read, at most 4
    ∷ row 11 ([]) 4 (Some (NullUsed 789)) ([]) false
    -- M.call, at most 4
    ∷ row 13 ([]) 4 (Some (NullUsed 898)) ([]) false
    ∷ []

dispatch_rows : Rows dispatch_names dispatch_classes dispatch_told
unfolding int_wrap
dispatch_rows = by_means dispatch_names dispatch_classes dispatch_told refl
