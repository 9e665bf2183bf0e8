-- Assignments and steps, to variables, elements and fields (JLS 15.14, 15.15, 15.26): each operand once.
use Rattle.std.proofs.Common.{pos, negsuc, true, false, List, [], ◌∷◌, Some, None, refl}
use Rattle.std.specs.Int.{int_wrap}
use Rattle.ix_num.specs.declared.arith.Arith.TheVariants as arith
use Rattle.ix_core.specs.declared.claim.Base.TheVariants as base
use Rattle.ix_core.specs.declared.claim.Type_.TheVariants as ty
use Rattle.ix_core.specs.declared.outcome.Value.TheVariants as value_of
use Rattle.ix_core.specs.Heap.{Num}
use Rattle.ix_core.specs.Machine.{Ended, Outside, NullUsed}
use Rattle.ix_core.specs.Safe.{Ints}
use Rattle.ix_core.specs.Traces.{Printed}
use Rattle.ix_tree.specs.declared.annot.BaseTree.TheVariants as b
use Rattle.ix_tree.specs.declared.expr.BinaryOp.TheVariants as op
use Rattle.ix_meaning.specs.declared.note.Meaning.TheVariants as meaning
use Rattle.ix_meaning.specs.Resolved.{Names}
use Rattle.ix_source.specs.Runs.{access}
use Rattle.ix_source.proofs.Trees.{at, named, mods, type, int, null, name, select, element, call, new, new_array, binary, assigned, stepped, value, variable, locals, returns_value, prints, runs, method, param, Field, Method, ClassNode, class, table, Row, row, Rows, by_means}

-- class A {
--   int x; int[] c;
--   static int t(int n) { System.out.println(n); return n; }
--   static int local() { int i = 5; i += 3; i *= 2; i -= 1; i /= 2; i %= 4; System.out.println(i); int j = i++; int k = ++i; System.out.println(j); System.out.println(k); System.out.println(i--); System.out.println(--i); return i; }
--   static int more() { int i = 6; i &= 3; i |= 8; i ^= 1; i <<= 2; i >>= 1; i >>>= 1; return i; }
--   static int cell(int[] a) { a[t(0)] += t(3); System.out.println(a[0]); System.out.println(a[t(1)]++); System.out.println(++a[1]); return a[1]; }
--   static int field() { A a = new A(); a.x += 4; a.x++; System.out.println(a.x--); --a.x; return a.x; }
--   static int chain() { int i; int j; i = j = 3; return i + j; }
--   static int past(int[] a) { a[1] += 1; return a[0]; }
--   static int wraps() { int i = 2147483647; i++; return i; }
--   static int through() { A a = new A(); a.c = new int[2]; a.c[1] = 9; a.c[1] -= 2; return a.c[1]; }
--   static int nothing() { A a = null; a.x = t(1); return 0; } }
abbrev assignments_classes : List ClassNode
assignments_classes = (
    (class (named (65 ∷ []) 6 7) None ((Field (variable (mods false false false) (type b.Int 0 (at 12 15)) (named (120 ∷ []) 16 17) None)) ∷ (Field (variable (mods false false false) (type b.Int 1 (at 19 24)) (named (99 ∷ []) 25 26) None)) ∷ (Method (method (mods true false false) (Some (type b.Int 0 (at 37 40))) false (named (116 ∷ []) 41 42) ((param (mods false false false) (type b.Int 0 (at 43 46)) (named (110 ∷ []) 47 48)) ∷ []) None ((prints (name (named (110 ∷ []) 71 72) (at 71 72)) (at 52 74)) ∷ (returns_value (name (named (110 ∷ []) 82 83) (at 82 83)) (at 75 84)) ∷ []) (at 30 86))) ∷ (Method (method (mods true false false) (Some (type b.Int 0 (at 96 99))) false (named (108 ∷ 111 ∷ 99 ∷ 97 ∷ 108 ∷ []) 100 105) ([]) None ((locals ((variable (mods false false false) (type b.Int 0 (at 110 113)) (named (105 ∷ []) 114 115) (Some (value (int (pos 5) (at 118 119))))) ∷ []) (at 110 120)) ∷ (runs (assigned (Some arith.Add) (name (named (105 ∷ []) 121 122) (at 121 122)) (int (pos 3) (at 126 127)) (at 121 127)) (at 121 128)) ∷ (runs (assigned (Some arith.Mul) (name (named (105 ∷ []) 129 130) (at 129 130)) (int (pos 2) (at 134 135)) (at 129 135)) (at 129 136)) ∷ (runs (assigned (Some arith.Sub) (name (named (105 ∷ []) 137 138) (at 137 138)) (int (pos 1) (at 142 143)) (at 137 143)) (at 137 144)) ∷ (runs (assigned (Some arith.Div) (name (named (105 ∷ []) 145 146) (at 145 146)) (int (pos 2) (at 150 151)) (at 145 151)) (at 145 152)) ∷ (runs (assigned (Some arith.Rem) (name (named (105 ∷ []) 153 154) (at 153 154)) (int (pos 4) (at 158 159)) (at 153 159)) (at 153 160)) ∷ (prints (name (named (105 ∷ []) 180 181) (at 180 181)) (at 161 183)) ∷ (locals ((variable (mods false false false) (type b.Int 0 (at 184 187)) (named (106 ∷ []) 188 189) (Some (value (stepped true true (name (named (105 ∷ []) 192 193) (at 192 193)) (at 192 195))))) ∷ []) (at 184 196)) ∷ (locals ((variable (mods false false false) (type b.Int 0 (at 197 200)) (named (107 ∷ []) 201 202) (Some (value (stepped true false (name (named (105 ∷ []) 207 208) (at 207 208)) (at 205 208))))) ∷ []) (at 197 209)) ∷ (prints (name (named (106 ∷ []) 229 230) (at 229 230)) (at 210 232)) ∷ (prints (name (named (107 ∷ []) 252 253) (at 252 253)) (at 233 255)) ∷ (prints (stepped false true (name (named (105 ∷ []) 275 276) (at 275 276)) (at 275 278)) (at 256 280)) ∷ (prints (stepped false false (name (named (105 ∷ []) 302 303) (at 302 303)) (at 300 303)) (at 281 305)) ∷ (returns_value (name (named (105 ∷ []) 313 314) (at 313 314)) (at 306 315)) ∷ []) (at 89 317))) ∷ (Method (method (mods true false false) (Some (type b.Int 0 (at 327 330))) false (named (109 ∷ 111 ∷ 114 ∷ 101 ∷ []) 331 335) ([]) None ((locals ((variable (mods false false false) (type b.Int 0 (at 340 343)) (named (105 ∷ []) 344 345) (Some (value (int (pos 6) (at 348 349))))) ∷ []) (at 340 350)) ∷ (runs (assigned (Some arith.And) (name (named (105 ∷ []) 351 352) (at 351 352)) (int (pos 3) (at 356 357)) (at 351 357)) (at 351 358)) ∷ (runs (assigned (Some arith.Or) (name (named (105 ∷ []) 359 360) (at 359 360)) (int (pos 8) (at 364 365)) (at 359 365)) (at 359 366)) ∷ (runs (assigned (Some arith.Xor) (name (named (105 ∷ []) 367 368) (at 367 368)) (int (pos 1) (at 372 373)) (at 367 373)) (at 367 374)) ∷ (runs (assigned (Some arith.Shl) (name (named (105 ∷ []) 375 376) (at 375 376)) (int (pos 2) (at 381 382)) (at 375 382)) (at 375 383)) ∷ (runs (assigned (Some arith.Shr) (name (named (105 ∷ []) 384 385) (at 384 385)) (int (pos 1) (at 390 391)) (at 384 391)) (at 384 392)) ∷ (runs (assigned (Some arith.Ushr) (name (named (105 ∷ []) 393 394) (at 393 394)) (int (pos 1) (at 400 401)) (at 393 401)) (at 393 402)) ∷ (returns_value (name (named (105 ∷ []) 410 411) (at 410 411)) (at 403 412)) ∷ []) (at 320 414))) ∷ (Method (method (mods true false false) (Some (type b.Int 0 (at 424 427))) false (named (99 ∷ 101 ∷ 108 ∷ 108 ∷ []) 428 432) ((param (mods false false false) (type b.Int 1 (at 433 438)) (named (97 ∷ []) 439 440)) ∷ []) None ((runs (assigned (Some arith.Add) (element (name (named (97 ∷ []) 444 445) (at 444 445)) (call (named (116 ∷ []) 446 447) ((int (pos 0) (at 448 449)) ∷ []) (at 446 450)) (at 444 451)) (call (named (116 ∷ []) 455 456) ((int (pos 3) (at 457 458)) ∷ []) (at 455 459)) (at 444 459)) (at 444 460)) ∷ (prints (element (name (named (97 ∷ []) 480 481) (at 480 481)) (int (pos 0) (at 482 483)) (at 480 484)) (at 461 486)) ∷ (prints (stepped true true (element (name (named (97 ∷ []) 506 507) (at 506 507)) (call (named (116 ∷ []) 508 509) ((int (pos 1) (at 510 511)) ∷ []) (at 508 512)) (at 506 513)) (at 506 515)) (at 487 517)) ∷ (prints (stepped true false (element (name (named (97 ∷ []) 539 540) (at 539 540)) (int (pos 1) (at 541 542)) (at 539 543)) (at 537 543)) (at 518 545)) ∷ (returns_value (element (name (named (97 ∷ []) 553 554) (at 553 554)) (int (pos 1) (at 555 556)) (at 553 557)) (at 546 558)) ∷ []) (at 417 560))) ∷ (Method (method (mods true false false) (Some (type b.Int 0 (at 570 573))) false (named (102 ∷ 105 ∷ 101 ∷ 108 ∷ 100 ∷ []) 574 579) ([]) None ((locals ((variable (mods false false false) (type (b.Named (named (65 ∷ []) 584 585)) 0 (at 584 585)) (named (97 ∷ []) 586 587) (Some (value (new (named (65 ∷ []) 594 595) ([]) (at 590 597))))) ∷ []) (at 584 598)) ∷ (runs (assigned (Some arith.Add) (select (name (named (97 ∷ []) 599 600) (at 599 600)) (named (120 ∷ []) 601 602) (at 599 602)) (int (pos 4) (at 606 607)) (at 599 607)) (at 599 608)) ∷ (runs (stepped true true (select (name (named (97 ∷ []) 609 610) (at 609 610)) (named (120 ∷ []) 611 612) (at 609 612)) (at 609 614)) (at 609 615)) ∷ (prints (stepped false true (select (name (named (97 ∷ []) 635 636) (at 635 636)) (named (120 ∷ []) 637 638) (at 635 638)) (at 635 640)) (at 616 642)) ∷ (runs (stepped false false (select (name (named (97 ∷ []) 645 646) (at 645 646)) (named (120 ∷ []) 647 648) (at 645 648)) (at 643 648)) (at 643 649)) ∷ (returns_value (select (name (named (97 ∷ []) 657 658) (at 657 658)) (named (120 ∷ []) 659 660) (at 657 660)) (at 650 661)) ∷ []) (at 563 663))) ∷ (Method (method (mods true false false) (Some (type b.Int 0 (at 673 676))) false (named (99 ∷ 104 ∷ 97 ∷ 105 ∷ 110 ∷ []) 677 682) ([]) None ((locals ((variable (mods false false false) (type b.Int 0 (at 687 690)) (named (105 ∷ []) 691 692) None) ∷ []) (at 687 693)) ∷ (locals ((variable (mods false false false) (type b.Int 0 (at 694 697)) (named (106 ∷ []) 698 699) None) ∷ []) (at 694 700)) ∷ (runs (assigned None (name (named (105 ∷ []) 701 702) (at 701 702)) (assigned None (name (named (106 ∷ []) 705 706) (at 705 706)) (int (pos 3) (at 709 710)) (at 705 710)) (at 701 710)) (at 701 711)) ∷ (returns_value (binary (op.Num arith.Add) (name (named (105 ∷ []) 719 720) (at 719 720)) (name (named (106 ∷ []) 723 724) (at 723 724)) (at 719 724)) (at 712 725)) ∷ []) (at 666 727))) ∷ (Method (method (mods true false false) (Some (type b.Int 0 (at 737 740))) false (named (112 ∷ 97 ∷ 115 ∷ 116 ∷ []) 741 745) ((param (mods false false false) (type b.Int 1 (at 746 751)) (named (97 ∷ []) 752 753)) ∷ []) None ((runs (assigned (Some arith.Add) (element (name (named (97 ∷ []) 757 758) (at 757 758)) (int (pos 1) (at 759 760)) (at 757 761)) (int (pos 1) (at 765 766)) (at 757 766)) (at 757 767)) ∷ (returns_value (element (name (named (97 ∷ []) 775 776) (at 775 776)) (int (pos 0) (at 777 778)) (at 775 779)) (at 768 780)) ∷ []) (at 730 782))) ∷ (Method (method (mods true false false) (Some (type b.Int 0 (at 792 795))) false (named (119 ∷ 114 ∷ 97 ∷ 112 ∷ 115 ∷ []) 796 801) ([]) None ((locals ((variable (mods false false false) (type b.Int 0 (at 806 809)) (named (105 ∷ []) 810 811) (Some (value (int (pos 2147483647) (at 814 824))))) ∷ []) (at 806 825)) ∷ (runs (stepped true true (name (named (105 ∷ []) 826 827) (at 826 827)) (at 826 829)) (at 826 830)) ∷ (returns_value (name (named (105 ∷ []) 838 839) (at 838 839)) (at 831 840)) ∷ []) (at 785 842))) ∷ (Method (method (mods true false false) (Some (type b.Int 0 (at 852 855))) false (named (116 ∷ 104 ∷ 114 ∷ 111 ∷ 117 ∷ 103 ∷ 104 ∷ []) 856 863) ([]) None ((locals ((variable (mods false false false) (type (b.Named (named (65 ∷ []) 868 869)) 0 (at 868 869)) (named (97 ∷ []) 870 871) (Some (value (new (named (65 ∷ []) 878 879) ([]) (at 874 881))))) ∷ []) (at 868 882)) ∷ (runs (assigned None (select (name (named (97 ∷ []) 883 884) (at 883 884)) (named (99 ∷ []) 885 886) (at 883 886)) (new_array (type b.Int 1 (at 893 899)) (int (pos 2) (at 897 898)) (at 889 899)) (at 883 899)) (at 883 900)) ∷ (runs (assigned None (element (select (name (named (97 ∷ []) 901 902) (at 901 902)) (named (99 ∷ []) 903 904) (at 901 904)) (int (pos 1) (at 905 906)) (at 901 907)) (int (pos 9) (at 910 911)) (at 901 911)) (at 901 912)) ∷ (runs (assigned (Some arith.Sub) (element (select (name (named (97 ∷ []) 913 914) (at 913 914)) (named (99 ∷ []) 915 916) (at 913 916)) (int (pos 1) (at 917 918)) (at 913 919)) (int (pos 2) (at 923 924)) (at 913 924)) (at 913 925)) ∷ (returns_value (element (select (name (named (97 ∷ []) 933 934) (at 933 934)) (named (99 ∷ []) 935 936) (at 933 936)) (int (pos 1) (at 937 938)) (at 933 939)) (at 926 940)) ∷ []) (at 845 942))) ∷ (Method (method (mods true false false) (Some (type b.Int 0 (at 952 955))) false (named (110 ∷ 111 ∷ 116 ∷ 104 ∷ 105 ∷ 110 ∷ 103 ∷ []) 956 963) ([]) None ((locals ((variable (mods false false false) (type (b.Named (named (65 ∷ []) 968 969)) 0 (at 968 969)) (named (97 ∷ []) 970 971) (Some (value (null (at 974 978))))) ∷ []) (at 968 979)) ∷ (runs (assigned None (select (name (named (97 ∷ []) 980 981) (at 980 981)) (named (120 ∷ []) 982 983) (at 980 983)) (call (named (116 ∷ []) 986 987) ((int (pos 1) (at 988 989)) ∷ []) (at 986 990)) (at 980 990)) (at 980 991)) ∷ (returns_value (int (pos 0) (at 999 1000)) (at 992 1001)) ∷ []) (at 945 1003))) ∷ []) (at 0 1005))
    ∷ [])

abbrev assignments_names : Names
assignments_names = (table (((at 71 72), (meaning.Param 0)) ∷ ((at 82 83), (meaning.Param 0)) ∷ ((at 121 122), (meaning.Local 0)) ∷ ((at 129 130), (meaning.Local 0)) ∷ ((at 137 138), (meaning.Local 0)) ∷ ((at 145 146), (meaning.Local 0)) ∷ ((at 153 154), (meaning.Local 0)) ∷ ((at 180 181), (meaning.Local 0)) ∷ ((at 192 193), (meaning.Local 0)) ∷ ((at 207 208), (meaning.Local 0)) ∷ ((at 229 230), (meaning.Local 1)) ∷ ((at 252 253), (meaning.Local 2)) ∷ ((at 275 276), (meaning.Local 0)) ∷ ((at 302 303), (meaning.Local 0)) ∷ ((at 313 314), (meaning.Local 0)) ∷ ((at 351 352), (meaning.Local 0)) ∷ ((at 359 360), (meaning.Local 0)) ∷ ((at 367 368), (meaning.Local 0)) ∷ ((at 375 376), (meaning.Local 0)) ∷ ((at 384 385), (meaning.Local 0)) ∷ ((at 393 394), (meaning.Local 0)) ∷ ((at 410 411), (meaning.Local 0)) ∷ ((at 444 445), (meaning.Param 0)) ∷ ((at 446 447), (meaning.MethodNamed 0)) ∷ ((at 455 456), (meaning.MethodNamed 0)) ∷ ((at 480 481), (meaning.Param 0)) ∷ ((at 506 507), (meaning.Param 0)) ∷ ((at 508 509), (meaning.MethodNamed 0)) ∷ ((at 539 540), (meaning.Param 0)) ∷ ((at 553 554), (meaning.Param 0)) ∷ ((at 584 585), (meaning.ClassNamed 0)) ∷ ((at 594 595), (meaning.ClassNamed 0)) ∷ ((at 599 600), (meaning.Local 0)) ∷ ((at 601 602), (meaning.FieldNamed 0)) ∷ ((at 609 610), (meaning.Local 0)) ∷ ((at 611 612), (meaning.FieldNamed 0)) ∷ ((at 635 636), (meaning.Local 0)) ∷ ((at 637 638), (meaning.FieldNamed 0)) ∷ ((at 645 646), (meaning.Local 0)) ∷ ((at 647 648), (meaning.FieldNamed 0)) ∷ ((at 657 658), (meaning.Local 0)) ∷ ((at 659 660), (meaning.FieldNamed 0)) ∷ ((at 701 702), (meaning.Local 0)) ∷ ((at 705 706), (meaning.Local 1)) ∷ ((at 719 720), (meaning.Local 0)) ∷ ((at 723 724), (meaning.Local 1)) ∷ ((at 757 758), (meaning.Param 0)) ∷ ((at 775 776), (meaning.Param 0)) ∷ ((at 826 827), (meaning.Local 0)) ∷ ((at 838 839), (meaning.Local 0)) ∷ ((at 868 869), (meaning.ClassNamed 0)) ∷ ((at 878 879), (meaning.ClassNamed 0)) ∷ ((at 883 884), (meaning.Local 0)) ∷ ((at 885 886), (meaning.FieldNamed 1)) ∷ ((at 901 902), (meaning.Local 0)) ∷ ((at 903 904), (meaning.FieldNamed 1)) ∷ ((at 913 914), (meaning.Local 0)) ∷ ((at 915 916), (meaning.FieldNamed 1)) ∷ ((at 933 934), (meaning.Local 0)) ∷ ((at 935 936), (meaning.FieldNamed 1)) ∷ ((at 968 969), (meaning.ClassNamed 0)) ∷ ((at 980 981), (meaning.Local 0)) ∷ ((at 982 983), (meaning.FieldNamed 0)) ∷ ((at 986 987), (meaning.MethodNamed 0)) ∷ []) (((at 71 72), (ty.Plain base.Int)) ∷ ((at 82 83), (ty.Plain base.Int)) ∷ ((at 118 119), (ty.Plain base.Int)) ∷ ((at 121 122), (ty.Plain base.Int)) ∷ ((at 121 127), (ty.Plain base.Int)) ∷ ((at 126 127), (ty.Plain base.Int)) ∷ ((at 129 130), (ty.Plain base.Int)) ∷ ((at 129 135), (ty.Plain base.Int)) ∷ ((at 134 135), (ty.Plain base.Int)) ∷ ((at 137 138), (ty.Plain base.Int)) ∷ ((at 137 143), (ty.Plain base.Int)) ∷ ((at 142 143), (ty.Plain base.Int)) ∷ ((at 145 146), (ty.Plain base.Int)) ∷ ((at 145 151), (ty.Plain base.Int)) ∷ ((at 150 151), (ty.Plain base.Int)) ∷ ((at 153 154), (ty.Plain base.Int)) ∷ ((at 153 159), (ty.Plain base.Int)) ∷ ((at 158 159), (ty.Plain base.Int)) ∷ ((at 180 181), (ty.Plain base.Int)) ∷ ((at 192 193), (ty.Plain base.Int)) ∷ ((at 192 195), (ty.Plain base.Int)) ∷ ((at 205 208), (ty.Plain base.Int)) ∷ ((at 207 208), (ty.Plain base.Int)) ∷ ((at 229 230), (ty.Plain base.Int)) ∷ ((at 252 253), (ty.Plain base.Int)) ∷ ((at 275 276), (ty.Plain base.Int)) ∷ ((at 275 278), (ty.Plain base.Int)) ∷ ((at 300 303), (ty.Plain base.Int)) ∷ ((at 302 303), (ty.Plain base.Int)) ∷ ((at 313 314), (ty.Plain base.Int)) ∷ ((at 348 349), (ty.Plain base.Int)) ∷ ((at 351 352), (ty.Plain base.Int)) ∷ ((at 351 357), (ty.Plain base.Int)) ∷ ((at 356 357), (ty.Plain base.Int)) ∷ ((at 359 360), (ty.Plain base.Int)) ∷ ((at 359 365), (ty.Plain base.Int)) ∷ ((at 364 365), (ty.Plain base.Int)) ∷ ((at 367 368), (ty.Plain base.Int)) ∷ ((at 367 373), (ty.Plain base.Int)) ∷ ((at 372 373), (ty.Plain base.Int)) ∷ ((at 375 376), (ty.Plain base.Int)) ∷ ((at 375 382), (ty.Plain base.Int)) ∷ ((at 381 382), (ty.Plain base.Int)) ∷ ((at 384 385), (ty.Plain base.Int)) ∷ ((at 384 391), (ty.Plain base.Int)) ∷ ((at 390 391), (ty.Plain base.Int)) ∷ ((at 393 394), (ty.Plain base.Int)) ∷ ((at 393 401), (ty.Plain base.Int)) ∷ ((at 400 401), (ty.Plain base.Int)) ∷ ((at 410 411), (ty.Plain base.Int)) ∷ ((at 444 445), (ty.Array base.Int 1 [])) ∷ ((at 444 451), (ty.Plain base.Int)) ∷ ((at 444 459), (ty.Plain base.Int)) ∷ ((at 446 450), (ty.Plain base.Int)) ∷ ((at 448 449), (ty.Plain base.Int)) ∷ ((at 455 459), (ty.Plain base.Int)) ∷ ((at 457 458), (ty.Plain base.Int)) ∷ ((at 480 481), (ty.Array base.Int 1 [])) ∷ ((at 480 484), (ty.Plain base.Int)) ∷ ((at 482 483), (ty.Plain base.Int)) ∷ ((at 506 507), (ty.Array base.Int 1 [])) ∷ ((at 506 513), (ty.Plain base.Int)) ∷ ((at 506 515), (ty.Plain base.Int)) ∷ ((at 508 512), (ty.Plain base.Int)) ∷ ((at 510 511), (ty.Plain base.Int)) ∷ ((at 537 543), (ty.Plain base.Int)) ∷ ((at 539 540), (ty.Array base.Int 1 [])) ∷ ((at 539 543), (ty.Plain base.Int)) ∷ ((at 541 542), (ty.Plain base.Int)) ∷ ((at 553 554), (ty.Array base.Int 1 [])) ∷ ((at 553 557), (ty.Plain base.Int)) ∷ ((at 555 556), (ty.Plain base.Int)) ∷ ((at 590 597), (ty.Plain (base.Class 0))) ∷ ((at 599 600), (ty.Plain (base.Class 0))) ∷ ((at 599 602), (ty.Plain base.Int)) ∷ ((at 599 607), (ty.Plain base.Int)) ∷ ((at 606 607), (ty.Plain base.Int)) ∷ ((at 609 610), (ty.Plain (base.Class 0))) ∷ ((at 609 612), (ty.Plain base.Int)) ∷ ((at 609 614), (ty.Plain base.Int)) ∷ ((at 635 636), (ty.Plain (base.Class 0))) ∷ ((at 635 638), (ty.Plain base.Int)) ∷ ((at 635 640), (ty.Plain base.Int)) ∷ ((at 643 648), (ty.Plain base.Int)) ∷ ((at 645 646), (ty.Plain (base.Class 0))) ∷ ((at 645 648), (ty.Plain base.Int)) ∷ ((at 657 658), (ty.Plain (base.Class 0))) ∷ ((at 657 660), (ty.Plain base.Int)) ∷ ((at 701 702), (ty.Plain base.Int)) ∷ ((at 701 710), (ty.Plain base.Int)) ∷ ((at 705 706), (ty.Plain base.Int)) ∷ ((at 705 710), (ty.Plain base.Int)) ∷ ((at 709 710), (ty.Plain base.Int)) ∷ ((at 719 720), (ty.Plain base.Int)) ∷ ((at 719 724), (ty.Plain base.Int)) ∷ ((at 723 724), (ty.Plain base.Int)) ∷ ((at 757 758), (ty.Array base.Int 1 [])) ∷ ((at 757 761), (ty.Plain base.Int)) ∷ ((at 757 766), (ty.Plain base.Int)) ∷ ((at 759 760), (ty.Plain base.Int)) ∷ ((at 765 766), (ty.Plain base.Int)) ∷ ((at 775 776), (ty.Array base.Int 1 [])) ∷ ((at 775 779), (ty.Plain base.Int)) ∷ ((at 777 778), (ty.Plain base.Int)) ∷ ((at 814 824), (ty.Plain base.Int)) ∷ ((at 826 827), (ty.Plain base.Int)) ∷ ((at 826 829), (ty.Plain base.Int)) ∷ ((at 838 839), (ty.Plain base.Int)) ∷ ((at 874 881), (ty.Plain (base.Class 0))) ∷ ((at 883 884), (ty.Plain (base.Class 0))) ∷ ((at 883 886), (ty.Array base.Int 1 [])) ∷ ((at 883 899), (ty.Array base.Int 1 [])) ∷ ((at 889 899), (ty.Array base.Int 1 [])) ∷ ((at 897 898), (ty.Plain base.Int)) ∷ ((at 901 902), (ty.Plain (base.Class 0))) ∷ ((at 901 904), (ty.Array base.Int 1 [])) ∷ ((at 901 907), (ty.Plain base.Int)) ∷ ((at 901 911), (ty.Plain base.Int)) ∷ ((at 905 906), (ty.Plain base.Int)) ∷ ((at 910 911), (ty.Plain base.Int)) ∷ ((at 913 914), (ty.Plain (base.Class 0))) ∷ ((at 913 916), (ty.Array base.Int 1 [])) ∷ ((at 913 919), (ty.Plain base.Int)) ∷ ((at 913 924), (ty.Plain base.Int)) ∷ ((at 917 918), (ty.Plain base.Int)) ∷ ((at 923 924), (ty.Plain base.Int)) ∷ ((at 933 934), (ty.Plain (base.Class 0))) ∷ ((at 933 936), (ty.Array base.Int 1 [])) ∷ ((at 933 939), (ty.Plain base.Int)) ∷ ((at 937 938), (ty.Plain base.Int)) ∷ ((at 974 978), (ty.Plain (base.Class 0))) ∷ ((at 980 981), (ty.Plain (base.Class 0))) ∷ ((at 980 983), (ty.Plain base.Int)) ∷ ((at 980 990), (ty.Plain base.Int)) ∷ ((at 986 990), (ty.Plain base.Int)) ∷ ((at 988 989), (ty.Plain base.Int)) ∷ ((at 999 1000), (ty.Plain base.Int)) ∷ []) (((at 16 17), (ty.Plain base.Int)) ∷ ((at 25 26), (ty.Array base.Int 1 [])) ∷ ((at 41 42), (ty.Plain base.Int)) ∷ ((at 47 48), (ty.Plain base.Int)) ∷ ((at 100 105), (ty.Plain base.Int)) ∷ ((at 114 115), (ty.Plain base.Int)) ∷ ((at 188 189), (ty.Plain base.Int)) ∷ ((at 201 202), (ty.Plain base.Int)) ∷ ((at 331 335), (ty.Plain base.Int)) ∷ ((at 344 345), (ty.Plain base.Int)) ∷ ((at 428 432), (ty.Plain base.Int)) ∷ ((at 439 440), (ty.Array base.Int 1 [])) ∷ ((at 574 579), (ty.Plain base.Int)) ∷ ((at 586 587), (ty.Plain (base.Class 0))) ∷ ((at 677 682), (ty.Plain base.Int)) ∷ ((at 691 692), (ty.Plain base.Int)) ∷ ((at 698 699), (ty.Plain base.Int)) ∷ ((at 741 745), (ty.Plain base.Int)) ∷ ((at 752 753), (ty.Array base.Int 1 [])) ∷ ((at 796 801), (ty.Plain base.Int)) ∷ ((at 810 811), (ty.Plain base.Int)) ∷ ((at 856 863), (ty.Plain base.Int)) ∷ ((at 870 871), (ty.Plain (base.Class 0))) ∷ ((at 956 963), (ty.Plain base.Int)) ∷ ((at 970 971), (ty.Plain (base.Class 0))) ∷ []))

abbrev assignments_told : List Row
assignments_told =
    -- A.local, at most 1
    row 1 ([]) 1 (Some (Ended (value_of.Int (pos 3)))) ((Printed (Num (pos 3))) ∷ (Printed (Num (pos 3))) ∷ (Printed (Num (pos 5))) ∷ (Printed (Num (pos 5))) ∷ (Printed (Num (pos 3))) ∷ []) false
    -- A.more, at most 1
    ∷ row 2 ([]) 1 (Some (Ended (value_of.Int (pos 11)))) ([]) false
    -- A.cell [1,2], at most 2
    ∷ row 3 ((Ints ((pos 1) ∷ (pos 2) ∷ [])) ∷ []) 2 (Some (Ended (value_of.Int (pos 4)))) ((Printed (Num (pos 0))) ∷ (access (pos 0) 2 446) ∷ (Printed (Num (pos 3))) ∷ (access (pos 0) 2 446) ∷ (access (pos 0) 2 482) ∷ (Printed (Num (pos 4))) ∷ (Printed (Num (pos 1))) ∷ (access (pos 1) 2 508) ∷ (access (pos 1) 2 508) ∷ (Printed (Num (pos 2))) ∷ (access (pos 1) 2 541) ∷ (access (pos 1) 2 541) ∷ (Printed (Num (pos 4))) ∷ (access (pos 1) 2 555) ∷ []) false
    -- A.field, at most 1
    ∷ row 4 ([]) 1 (Some (Ended (value_of.Int (pos 3)))) ((Printed (Num (pos 5))) ∷ []) false
    -- A.chain, at most 1
    ∷ row 5 ([]) 1 (Some (Ended (value_of.Int (pos 6)))) ([]) false
    -- A.past [1], at most 1
    ∷ row 6 ((Ints ((pos 1) ∷ [])) ∷ []) 1 (Some (Outside (pos 1) (pos 1) 759)) ((access (pos 1) 1 759) ∷ []) false
    -- A.wraps, at most 1
    ∷ row 7 ([]) 1 (Some (Ended (value_of.Int (negsuc 2147483647)))) ([]) true
    -- A.through, at most 1
    ∷ row 8 ([]) 1 (Some (Ended (value_of.Int (pos 7)))) ((access (pos 1) 2 905) ∷ (access (pos 1) 2 917) ∷ (access (pos 1) 2 917) ∷ (access (pos 1) 2 937) ∷ []) false
    -- A.nothing, at most 2
    ∷ row 9 ([]) 2 (Some (NullUsed 980)) ((Printed (Num (pos 1))) ∷ []) false
    ∷ []

assignments_rows : Rows assignments_names assignments_classes assignments_told
unfolding int_wrap
assignments_rows = by_means assignments_names assignments_classes assignments_told refl
