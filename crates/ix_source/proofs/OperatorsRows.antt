-- Operators on ints, on booleans and on references.
use Rattle.std.proofs.Common.{pos, negsuc, true, false, List, [], ◌∷◌, Some, None, refl}
use Rattle.std.specs.Int.{int_wrap}
use Rattle.ix_num.specs.declared.arith.Arith.TheVariants as arith
use Rattle.ix_num.specs.declared.rel.Rel.TheVariants as rel
use Rattle.ix_core.specs.declared.claim.Base.TheVariants as base
use Rattle.ix_core.specs.declared.claim.Type_.TheVariants as ty
use Rattle.ix_core.specs.declared.outcome.Value.TheVariants as value_of
use Rattle.ix_core.specs.Heap.{Num}
use Rattle.ix_core.specs.Machine.{Ended, ZeroDivisor}
use Rattle.ix_core.specs.Safe.{Whole, Flag, Ints}
use Rattle.ix_core.specs.Traces.{Printed}
use Rattle.ix_tree.specs.declared.annot.BaseTree.TheVariants as b
use Rattle.ix_tree.specs.declared.expr.BinaryOp.TheVariants as op
use Rattle.ix_tree.specs.declared.expr.UnaryOp.TheVariants as operator
use Rattle.ix_meaning.specs.declared.note.Meaning.TheVariants as meaning
use Rattle.ix_meaning.specs.Resolved.{Names}
use Rattle.ix_source.proofs.Trees.{at, named, mods, type, int, null, name, new_array, unary, binary, assigned, value, variable, locals, if_only, returns_value, prints, runs, method, param, Method, ClassNode, class, table, Row, row, Rows, by_means}

-- class A {
--   static int all(int x, int y) { System.out.println(x + y); System.out.println(x - y); System.out.println(x * y); System.out.println(x / y); System.out.println(x % y); System.out.println(x & y); System.out.println(x | y); System.out.println(x ^ y); return ~x; }
--   static int shifts(int x, int d) { System.out.println(x << d); System.out.println(x >> d); return x >>> d; }
--   static int minus(int x) { return -x; }
--   static int sum(int x, int y) { return x + y; }
--   static int divided(int x, int y) { return x / y; }
--   static int rest(int x, int y) { return x % y; }
--   static boolean not(int x) { return !(x < 1); }
--   static int rels(int x, int y) { int n = 0; if (x < y) n = n + 1; if (x <= y) n = n + 2; if (x > y) n = n + 4; if (x >= y) n = n + 8; if (x == y) n = n + 16; if (x != y) n = n + 32; return n; }
--   static int flags(boolean p, boolean q) { int n = 0; if (p == q) n = n + 1; if (p != q) n = n + 2; return n; }
--   static int arrays(int[] p) { int[] q = p; int n = 0; if (p == q) n = n + 1; q = new int[2]; if (p == q) n = n + 2; if (p != q) n = n + 4; if (q == null) n = n + 8; q = null; if (q == null) n = n + 16; return n; } }
abbrev operators_classes : List ClassNode
operators_classes = (
    (class (named (65 ∷ []) 6 7) None ((Method (method (mods true false false) (Some (type b.Int 0 (at 19 22))) false (named (97 ∷ 108 ∷ 108 ∷ []) 23 26) ((param (mods false false false) (type b.Int 0 (at 27 30)) (named (120 ∷ []) 31 32)) ∷ (param (mods false false false) (type b.Int 0 (at 34 37)) (named (121 ∷ []) 38 39)) ∷ []) None ((prints (binary (op.Num arith.Add) (name (named (120 ∷ []) 62 63) (at 62 63)) (name (named (121 ∷ []) 66 67) (at 66 67)) (at 62 67)) (at 43 69)) ∷ (prints (binary (op.Num arith.Sub) (name (named (120 ∷ []) 89 90) (at 89 90)) (name (named (121 ∷ []) 93 94) (at 93 94)) (at 89 94)) (at 70 96)) ∷ (prints (binary (op.Num arith.Mul) (name (named (120 ∷ []) 116 117) (at 116 117)) (name (named (121 ∷ []) 120 121) (at 120 121)) (at 116 121)) (at 97 123)) ∷ (prints (binary (op.Num arith.Div) (name (named (120 ∷ []) 143 144) (at 143 144)) (name (named (121 ∷ []) 147 148) (at 147 148)) (at 143 148)) (at 124 150)) ∷ (prints (binary (op.Num arith.Rem) (name (named (120 ∷ []) 170 171) (at 170 171)) (name (named (121 ∷ []) 174 175) (at 174 175)) (at 170 175)) (at 151 177)) ∷ (prints (binary (op.Num arith.And) (name (named (120 ∷ []) 197 198) (at 197 198)) (name (named (121 ∷ []) 201 202) (at 201 202)) (at 197 202)) (at 178 204)) ∷ (prints (binary (op.Num arith.Or) (name (named (120 ∷ []) 224 225) (at 224 225)) (name (named (121 ∷ []) 228 229) (at 228 229)) (at 224 229)) (at 205 231)) ∷ (prints (binary (op.Num arith.Xor) (name (named (120 ∷ []) 251 252) (at 251 252)) (name (named (121 ∷ []) 255 256) (at 255 256)) (at 251 256)) (at 232 258)) ∷ (returns_value (unary operator.Flip (name (named (120 ∷ []) 267 268) (at 267 268)) (at 266 268)) (at 259 269)) ∷ []) (at 12 271))) ∷ (Method (method (mods true false false) (Some (type b.Int 0 (at 281 284))) false (named (115 ∷ 104 ∷ 105 ∷ 102 ∷ 116 ∷ 115 ∷ []) 285 291) ((param (mods false false false) (type b.Int 0 (at 292 295)) (named (120 ∷ []) 296 297)) ∷ (param (mods false false false) (type b.Int 0 (at 299 302)) (named (100 ∷ []) 303 304)) ∷ []) None ((prints (binary (op.Num arith.Shl) (name (named (120 ∷ []) 327 328) (at 327 328)) (name (named (100 ∷ []) 332 333) (at 332 333)) (at 327 333)) (at 308 335)) ∷ (prints (binary (op.Num arith.Shr) (name (named (120 ∷ []) 355 356) (at 355 356)) (name (named (100 ∷ []) 360 361) (at 360 361)) (at 355 361)) (at 336 363)) ∷ (returns_value (binary (op.Num arith.Ushr) (name (named (120 ∷ []) 371 372) (at 371 372)) (name (named (100 ∷ []) 377 378) (at 377 378)) (at 371 378)) (at 364 379)) ∷ []) (at 274 381))) ∷ (Method (method (mods true false false) (Some (type b.Int 0 (at 391 394))) false (named (109 ∷ 105 ∷ 110 ∷ 117 ∷ 115 ∷ []) 395 400) ((param (mods false false false) (type b.Int 0 (at 401 404)) (named (120 ∷ []) 405 406)) ∷ []) None ((returns_value (unary operator.Minus (name (named (120 ∷ []) 418 419) (at 418 419)) (at 417 419)) (at 410 420)) ∷ []) (at 384 422))) ∷ (Method (method (mods true false false) (Some (type b.Int 0 (at 432 435))) false (named (115 ∷ 117 ∷ 109 ∷ []) 436 439) ((param (mods false false false) (type b.Int 0 (at 440 443)) (named (120 ∷ []) 444 445)) ∷ (param (mods false false false) (type b.Int 0 (at 447 450)) (named (121 ∷ []) 451 452)) ∷ []) None ((returns_value (binary (op.Num arith.Add) (name (named (120 ∷ []) 463 464) (at 463 464)) (name (named (121 ∷ []) 467 468) (at 467 468)) (at 463 468)) (at 456 469)) ∷ []) (at 425 471))) ∷ (Method (method (mods true false false) (Some (type b.Int 0 (at 481 484))) false (named (100 ∷ 105 ∷ 118 ∷ 105 ∷ 100 ∷ 101 ∷ 100 ∷ []) 485 492) ((param (mods false false false) (type b.Int 0 (at 493 496)) (named (120 ∷ []) 497 498)) ∷ (param (mods false false false) (type b.Int 0 (at 500 503)) (named (121 ∷ []) 504 505)) ∷ []) None ((returns_value (binary (op.Num arith.Div) (name (named (120 ∷ []) 516 517) (at 516 517)) (name (named (121 ∷ []) 520 521) (at 520 521)) (at 516 521)) (at 509 522)) ∷ []) (at 474 524))) ∷ (Method (method (mods true false false) (Some (type b.Int 0 (at 534 537))) false (named (114 ∷ 101 ∷ 115 ∷ 116 ∷ []) 538 542) ((param (mods false false false) (type b.Int 0 (at 543 546)) (named (120 ∷ []) 547 548)) ∷ (param (mods false false false) (type b.Int 0 (at 550 553)) (named (121 ∷ []) 554 555)) ∷ []) None ((returns_value (binary (op.Num arith.Rem) (name (named (120 ∷ []) 566 567) (at 566 567)) (name (named (121 ∷ []) 570 571) (at 570 571)) (at 566 571)) (at 559 572)) ∷ []) (at 527 574))) ∷ (Method (method (mods true false false) (Some (type b.Boolean 0 (at 584 591))) false (named (110 ∷ 111 ∷ 116 ∷ []) 592 595) ((param (mods false false false) (type b.Int 0 (at 596 599)) (named (120 ∷ []) 600 601)) ∷ []) None ((returns_value (unary operator.Not (binary (op.Compare rel.Lt) (name (named (120 ∷ []) 614 615) (at 614 615)) (int (pos 1) (at 618 619)) (at 614 619)) (at 612 620)) (at 605 621)) ∷ []) (at 577 623))) ∷ (Method (method (mods true false false) (Some (type b.Int 0 (at 633 636))) false (named (114 ∷ 101 ∷ 108 ∷ 115 ∷ []) 637 641) ((param (mods false false false) (type b.Int 0 (at 642 645)) (named (120 ∷ []) 646 647)) ∷ (param (mods false false false) (type b.Int 0 (at 649 652)) (named (121 ∷ []) 653 654)) ∷ []) None ((locals ((variable (mods false false false) (type b.Int 0 (at 658 661)) (named (110 ∷ []) 662 663) (Some (value (int (pos 0) (at 666 667))))) ∷ []) (at 658 668)) ∷ (if_only (binary (op.Compare rel.Lt) (name (named (120 ∷ []) 673 674) (at 673 674)) (name (named (121 ∷ []) 677 678) (at 677 678)) (at 673 678)) (runs (assigned None (name (named (110 ∷ []) 680 681) (at 680 681)) (binary (op.Num arith.Add) (name (named (110 ∷ []) 684 685) (at 684 685)) (int (pos 1) (at 688 689)) (at 684 689)) (at 680 689)) (at 680 690)) (at 669 690)) ∷ (if_only (binary (op.Compare rel.Le) (name (named (120 ∷ []) 695 696) (at 695 696)) (name (named (121 ∷ []) 700 701) (at 700 701)) (at 695 701)) (runs (assigned None (name (named (110 ∷ []) 703 704) (at 703 704)) (binary (op.Num arith.Add) (name (named (110 ∷ []) 707 708) (at 707 708)) (int (pos 2) (at 711 712)) (at 707 712)) (at 703 712)) (at 703 713)) (at 691 713)) ∷ (if_only (binary (op.Compare rel.Gt) (name (named (120 ∷ []) 718 719) (at 718 719)) (name (named (121 ∷ []) 722 723) (at 722 723)) (at 718 723)) (runs (assigned None (name (named (110 ∷ []) 725 726) (at 725 726)) (binary (op.Num arith.Add) (name (named (110 ∷ []) 729 730) (at 729 730)) (int (pos 4) (at 733 734)) (at 729 734)) (at 725 734)) (at 725 735)) (at 714 735)) ∷ (if_only (binary (op.Compare rel.Ge) (name (named (120 ∷ []) 740 741) (at 740 741)) (name (named (121 ∷ []) 745 746) (at 745 746)) (at 740 746)) (runs (assigned None (name (named (110 ∷ []) 748 749) (at 748 749)) (binary (op.Num arith.Add) (name (named (110 ∷ []) 752 753) (at 752 753)) (int (pos 8) (at 756 757)) (at 752 757)) (at 748 757)) (at 748 758)) (at 736 758)) ∷ (if_only (binary (op.Compare rel.Eq) (name (named (120 ∷ []) 763 764) (at 763 764)) (name (named (121 ∷ []) 768 769) (at 768 769)) (at 763 769)) (runs (assigned None (name (named (110 ∷ []) 771 772) (at 771 772)) (binary (op.Num arith.Add) (name (named (110 ∷ []) 775 776) (at 775 776)) (int (pos 16) (at 779 781)) (at 775 781)) (at 771 781)) (at 771 782)) (at 759 782)) ∷ (if_only (binary (op.Compare rel.Ne) (name (named (120 ∷ []) 787 788) (at 787 788)) (name (named (121 ∷ []) 792 793) (at 792 793)) (at 787 793)) (runs (assigned None (name (named (110 ∷ []) 795 796) (at 795 796)) (binary (op.Num arith.Add) (name (named (110 ∷ []) 799 800) (at 799 800)) (int (pos 32) (at 803 805)) (at 799 805)) (at 795 805)) (at 795 806)) (at 783 806)) ∷ (returns_value (name (named (110 ∷ []) 814 815) (at 814 815)) (at 807 816)) ∷ []) (at 626 818))) ∷ (Method (method (mods true false false) (Some (type b.Int 0 (at 828 831))) false (named (102 ∷ 108 ∷ 97 ∷ 103 ∷ 115 ∷ []) 832 837) ((param (mods false false false) (type b.Boolean 0 (at 838 845)) (named (112 ∷ []) 846 847)) ∷ (param (mods false false false) (type b.Boolean 0 (at 849 856)) (named (113 ∷ []) 857 858)) ∷ []) None ((locals ((variable (mods false false false) (type b.Int 0 (at 862 865)) (named (110 ∷ []) 866 867) (Some (value (int (pos 0) (at 870 871))))) ∷ []) (at 862 872)) ∷ (if_only (binary (op.Compare rel.Eq) (name (named (112 ∷ []) 877 878) (at 877 878)) (name (named (113 ∷ []) 882 883) (at 882 883)) (at 877 883)) (runs (assigned None (name (named (110 ∷ []) 885 886) (at 885 886)) (binary (op.Num arith.Add) (name (named (110 ∷ []) 889 890) (at 889 890)) (int (pos 1) (at 893 894)) (at 889 894)) (at 885 894)) (at 885 895)) (at 873 895)) ∷ (if_only (binary (op.Compare rel.Ne) (name (named (112 ∷ []) 900 901) (at 900 901)) (name (named (113 ∷ []) 905 906) (at 905 906)) (at 900 906)) (runs (assigned None (name (named (110 ∷ []) 908 909) (at 908 909)) (binary (op.Num arith.Add) (name (named (110 ∷ []) 912 913) (at 912 913)) (int (pos 2) (at 916 917)) (at 912 917)) (at 908 917)) (at 908 918)) (at 896 918)) ∷ (returns_value (name (named (110 ∷ []) 926 927) (at 926 927)) (at 919 928)) ∷ []) (at 821 930))) ∷ (Method (method (mods true false false) (Some (type b.Int 0 (at 940 943))) false (named (97 ∷ 114 ∷ 114 ∷ 97 ∷ 121 ∷ 115 ∷ []) 944 950) ((param (mods false false false) (type b.Int 1 (at 951 956)) (named (112 ∷ []) 957 958)) ∷ []) None ((locals ((variable (mods false false false) (type b.Int 1 (at 962 967)) (named (113 ∷ []) 968 969) (Some (value (name (named (112 ∷ []) 972 973) (at 972 973))))) ∷ []) (at 962 974)) ∷ (locals ((variable (mods false false false) (type b.Int 0 (at 975 978)) (named (110 ∷ []) 979 980) (Some (value (int (pos 0) (at 983 984))))) ∷ []) (at 975 985)) ∷ (if_only (binary (op.Compare rel.Eq) (name (named (112 ∷ []) 990 991) (at 990 991)) (name (named (113 ∷ []) 995 996) (at 995 996)) (at 990 996)) (runs (assigned None (name (named (110 ∷ []) 998 999) (at 998 999)) (binary (op.Num arith.Add) (name (named (110 ∷ []) 1002 1003) (at 1002 1003)) (int (pos 1) (at 1006 1007)) (at 1002 1007)) (at 998 1007)) (at 998 1008)) (at 986 1008)) ∷ (runs (assigned None (name (named (113 ∷ []) 1009 1010) (at 1009 1010)) (new_array (type b.Int 1 (at 1017 1023)) (int (pos 2) (at 1021 1022)) (at 1013 1023)) (at 1009 1023)) (at 1009 1024)) ∷ (if_only (binary (op.Compare rel.Eq) (name (named (112 ∷ []) 1029 1030) (at 1029 1030)) (name (named (113 ∷ []) 1034 1035) (at 1034 1035)) (at 1029 1035)) (runs (assigned None (name (named (110 ∷ []) 1037 1038) (at 1037 1038)) (binary (op.Num arith.Add) (name (named (110 ∷ []) 1041 1042) (at 1041 1042)) (int (pos 2) (at 1045 1046)) (at 1041 1046)) (at 1037 1046)) (at 1037 1047)) (at 1025 1047)) ∷ (if_only (binary (op.Compare rel.Ne) (name (named (112 ∷ []) 1052 1053) (at 1052 1053)) (name (named (113 ∷ []) 1057 1058) (at 1057 1058)) (at 1052 1058)) (runs (assigned None (name (named (110 ∷ []) 1060 1061) (at 1060 1061)) (binary (op.Num arith.Add) (name (named (110 ∷ []) 1064 1065) (at 1064 1065)) (int (pos 4) (at 1068 1069)) (at 1064 1069)) (at 1060 1069)) (at 1060 1070)) (at 1048 1070)) ∷ (if_only (binary (op.Compare rel.Eq) (name (named (113 ∷ []) 1075 1076) (at 1075 1076)) (null (at 1080 1084)) (at 1075 1084)) (runs (assigned None (name (named (110 ∷ []) 1086 1087) (at 1086 1087)) (binary (op.Num arith.Add) (name (named (110 ∷ []) 1090 1091) (at 1090 1091)) (int (pos 8) (at 1094 1095)) (at 1090 1095)) (at 1086 1095)) (at 1086 1096)) (at 1071 1096)) ∷ (runs (assigned None (name (named (113 ∷ []) 1097 1098) (at 1097 1098)) (null (at 1101 1105)) (at 1097 1105)) (at 1097 1106)) ∷ (if_only (binary (op.Compare rel.Eq) (name (named (113 ∷ []) 1111 1112) (at 1111 1112)) (null (at 1116 1120)) (at 1111 1120)) (runs (assigned None (name (named (110 ∷ []) 1122 1123) (at 1122 1123)) (binary (op.Num arith.Add) (name (named (110 ∷ []) 1126 1127) (at 1126 1127)) (int (pos 16) (at 1130 1132)) (at 1126 1132)) (at 1122 1132)) (at 1122 1133)) (at 1107 1133)) ∷ (returns_value (name (named (110 ∷ []) 1141 1142) (at 1141 1142)) (at 1134 1143)) ∷ []) (at 933 1145))) ∷ []) (at 0 1147))
    ∷ [])

abbrev operators_names : Names
operators_names = (table (((at 62 63), (meaning.Param 0)) ∷ ((at 66 67), (meaning.Param 1)) ∷ ((at 89 90), (meaning.Param 0)) ∷ ((at 93 94), (meaning.Param 1)) ∷ ((at 116 117), (meaning.Param 0)) ∷ ((at 120 121), (meaning.Param 1)) ∷ ((at 143 144), (meaning.Param 0)) ∷ ((at 147 148), (meaning.Param 1)) ∷ ((at 170 171), (meaning.Param 0)) ∷ ((at 174 175), (meaning.Param 1)) ∷ ((at 197 198), (meaning.Param 0)) ∷ ((at 201 202), (meaning.Param 1)) ∷ ((at 224 225), (meaning.Param 0)) ∷ ((at 228 229), (meaning.Param 1)) ∷ ((at 251 252), (meaning.Param 0)) ∷ ((at 255 256), (meaning.Param 1)) ∷ ((at 267 268), (meaning.Param 0)) ∷ ((at 327 328), (meaning.Param 0)) ∷ ((at 332 333), (meaning.Param 1)) ∷ ((at 355 356), (meaning.Param 0)) ∷ ((at 360 361), (meaning.Param 1)) ∷ ((at 371 372), (meaning.Param 0)) ∷ ((at 377 378), (meaning.Param 1)) ∷ ((at 418 419), (meaning.Param 0)) ∷ ((at 463 464), (meaning.Param 0)) ∷ ((at 467 468), (meaning.Param 1)) ∷ ((at 516 517), (meaning.Param 0)) ∷ ((at 520 521), (meaning.Param 1)) ∷ ((at 566 567), (meaning.Param 0)) ∷ ((at 570 571), (meaning.Param 1)) ∷ ((at 614 615), (meaning.Param 0)) ∷ ((at 673 674), (meaning.Param 0)) ∷ ((at 677 678), (meaning.Param 1)) ∷ ((at 680 681), (meaning.Local 0)) ∷ ((at 684 685), (meaning.Local 0)) ∷ ((at 695 696), (meaning.Param 0)) ∷ ((at 700 701), (meaning.Param 1)) ∷ ((at 703 704), (meaning.Local 0)) ∷ ((at 707 708), (meaning.Local 0)) ∷ ((at 718 719), (meaning.Param 0)) ∷ ((at 722 723), (meaning.Param 1)) ∷ ((at 725 726), (meaning.Local 0)) ∷ ((at 729 730), (meaning.Local 0)) ∷ ((at 740 741), (meaning.Param 0)) ∷ ((at 745 746), (meaning.Param 1)) ∷ ((at 748 749), (meaning.Local 0)) ∷ ((at 752 753), (meaning.Local 0)) ∷ ((at 763 764), (meaning.Param 0)) ∷ ((at 768 769), (meaning.Param 1)) ∷ ((at 771 772), (meaning.Local 0)) ∷ ((at 775 776), (meaning.Local 0)) ∷ ((at 787 788), (meaning.Param 0)) ∷ ((at 792 793), (meaning.Param 1)) ∷ ((at 795 796), (meaning.Local 0)) ∷ ((at 799 800), (meaning.Local 0)) ∷ ((at 814 815), (meaning.Local 0)) ∷ ((at 877 878), (meaning.Param 0)) ∷ ((at 882 883), (meaning.Param 1)) ∷ ((at 885 886), (meaning.Local 0)) ∷ ((at 889 890), (meaning.Local 0)) ∷ ((at 900 901), (meaning.Param 0)) ∷ ((at 905 906), (meaning.Param 1)) ∷ ((at 908 909), (meaning.Local 0)) ∷ ((at 912 913), (meaning.Local 0)) ∷ ((at 926 927), (meaning.Local 0)) ∷ ((at 972 973), (meaning.Param 0)) ∷ ((at 990 991), (meaning.Param 0)) ∷ ((at 995 996), (meaning.Local 0)) ∷ ((at 998 999), (meaning.Local 1)) ∷ ((at 1002 1003), (meaning.Local 1)) ∷ ((at 1009 1010), (meaning.Local 0)) ∷ ((at 1029 1030), (meaning.Param 0)) ∷ ((at 1034 1035), (meaning.Local 0)) ∷ ((at 1037 1038), (meaning.Local 1)) ∷ ((at 1041 1042), (meaning.Local 1)) ∷ ((at 1052 1053), (meaning.Param 0)) ∷ ((at 1057 1058), (meaning.Local 0)) ∷ ((at 1060 1061), (meaning.Local 1)) ∷ ((at 1064 1065), (meaning.Local 1)) ∷ ((at 1075 1076), (meaning.Local 0)) ∷ ((at 1086 1087), (meaning.Local 1)) ∷ ((at 1090 1091), (meaning.Local 1)) ∷ ((at 1097 1098), (meaning.Local 0)) ∷ ((at 1111 1112), (meaning.Local 0)) ∷ ((at 1122 1123), (meaning.Local 1)) ∷ ((at 1126 1127), (meaning.Local 1)) ∷ ((at 1141 1142), (meaning.Local 1)) ∷ []) (((at 62 63), (ty.Plain base.Int)) ∷ ((at 62 67), (ty.Plain base.Int)) ∷ ((at 66 67), (ty.Plain base.Int)) ∷ ((at 89 90), (ty.Plain base.Int)) ∷ ((at 89 94), (ty.Plain base.Int)) ∷ ((at 93 94), (ty.Plain base.Int)) ∷ ((at 116 117), (ty.Plain base.Int)) ∷ ((at 116 121), (ty.Plain base.Int)) ∷ ((at 120 121), (ty.Plain base.Int)) ∷ ((at 143 144), (ty.Plain base.Int)) ∷ ((at 143 148), (ty.Plain base.Int)) ∷ ((at 147 148), (ty.Plain base.Int)) ∷ ((at 170 171), (ty.Plain base.Int)) ∷ ((at 170 175), (ty.Plain base.Int)) ∷ ((at 174 175), (ty.Plain base.Int)) ∷ ((at 197 198), (ty.Plain base.Int)) ∷ ((at 197 202), (ty.Plain base.Int)) ∷ ((at 201 202), (ty.Plain base.Int)) ∷ ((at 224 225), (ty.Plain base.Int)) ∷ ((at 224 229), (ty.Plain base.Int)) ∷ ((at 228 229), (ty.Plain base.Int)) ∷ ((at 251 252), (ty.Plain base.Int)) ∷ ((at 251 256), (ty.Plain base.Int)) ∷ ((at 255 256), (ty.Plain base.Int)) ∷ ((at 266 268), (ty.Plain base.Int)) ∷ ((at 267 268), (ty.Plain base.Int)) ∷ ((at 327 328), (ty.Plain base.Int)) ∷ ((at 327 333), (ty.Plain base.Int)) ∷ ((at 332 333), (ty.Plain base.Int)) ∷ ((at 355 356), (ty.Plain base.Int)) ∷ ((at 355 361), (ty.Plain base.Int)) ∷ ((at 360 361), (ty.Plain base.Int)) ∷ ((at 371 372), (ty.Plain base.Int)) ∷ ((at 371 378), (ty.Plain base.Int)) ∷ ((at 377 378), (ty.Plain base.Int)) ∷ ((at 417 419), (ty.Plain base.Int)) ∷ ((at 418 419), (ty.Plain base.Int)) ∷ ((at 463 464), (ty.Plain base.Int)) ∷ ((at 463 468), (ty.Plain base.Int)) ∷ ((at 467 468), (ty.Plain base.Int)) ∷ ((at 516 517), (ty.Plain base.Int)) ∷ ((at 516 521), (ty.Plain base.Int)) ∷ ((at 520 521), (ty.Plain base.Int)) ∷ ((at 566 567), (ty.Plain base.Int)) ∷ ((at 566 571), (ty.Plain base.Int)) ∷ ((at 570 571), (ty.Plain base.Int)) ∷ ((at 612 620), (ty.Plain base.Bool)) ∷ ((at 614 615), (ty.Plain base.Int)) ∷ ((at 614 619), (ty.Plain base.Bool)) ∷ ((at 618 619), (ty.Plain base.Int)) ∷ ((at 666 667), (ty.Plain base.Int)) ∷ ((at 673 674), (ty.Plain base.Int)) ∷ ((at 673 678), (ty.Plain base.Bool)) ∷ ((at 677 678), (ty.Plain base.Int)) ∷ ((at 680 681), (ty.Plain base.Int)) ∷ ((at 680 689), (ty.Plain base.Int)) ∷ ((at 684 685), (ty.Plain base.Int)) ∷ ((at 684 689), (ty.Plain base.Int)) ∷ ((at 688 689), (ty.Plain base.Int)) ∷ ((at 695 696), (ty.Plain base.Int)) ∷ ((at 695 701), (ty.Plain base.Bool)) ∷ ((at 700 701), (ty.Plain base.Int)) ∷ ((at 703 704), (ty.Plain base.Int)) ∷ ((at 703 712), (ty.Plain base.Int)) ∷ ((at 707 708), (ty.Plain base.Int)) ∷ ((at 707 712), (ty.Plain base.Int)) ∷ ((at 711 712), (ty.Plain base.Int)) ∷ ((at 718 719), (ty.Plain base.Int)) ∷ ((at 718 723), (ty.Plain base.Bool)) ∷ ((at 722 723), (ty.Plain base.Int)) ∷ ((at 725 726), (ty.Plain base.Int)) ∷ ((at 725 734), (ty.Plain base.Int)) ∷ ((at 729 730), (ty.Plain base.Int)) ∷ ((at 729 734), (ty.Plain base.Int)) ∷ ((at 733 734), (ty.Plain base.Int)) ∷ ((at 740 741), (ty.Plain base.Int)) ∷ ((at 740 746), (ty.Plain base.Bool)) ∷ ((at 745 746), (ty.Plain base.Int)) ∷ ((at 748 749), (ty.Plain base.Int)) ∷ ((at 748 757), (ty.Plain base.Int)) ∷ ((at 752 753), (ty.Plain base.Int)) ∷ ((at 752 757), (ty.Plain base.Int)) ∷ ((at 756 757), (ty.Plain base.Int)) ∷ ((at 763 764), (ty.Plain base.Int)) ∷ ((at 763 769), (ty.Plain base.Bool)) ∷ ((at 768 769), (ty.Plain base.Int)) ∷ ((at 771 772), (ty.Plain base.Int)) ∷ ((at 771 781), (ty.Plain base.Int)) ∷ ((at 775 776), (ty.Plain base.Int)) ∷ ((at 775 781), (ty.Plain base.Int)) ∷ ((at 779 781), (ty.Plain base.Int)) ∷ ((at 787 788), (ty.Plain base.Int)) ∷ ((at 787 793), (ty.Plain base.Bool)) ∷ ((at 792 793), (ty.Plain base.Int)) ∷ ((at 795 796), (ty.Plain base.Int)) ∷ ((at 795 805), (ty.Plain base.Int)) ∷ ((at 799 800), (ty.Plain base.Int)) ∷ ((at 799 805), (ty.Plain base.Int)) ∷ ((at 803 805), (ty.Plain base.Int)) ∷ ((at 814 815), (ty.Plain base.Int)) ∷ ((at 870 871), (ty.Plain base.Int)) ∷ ((at 877 878), (ty.Plain base.Bool)) ∷ ((at 877 883), (ty.Plain base.Bool)) ∷ ((at 882 883), (ty.Plain base.Bool)) ∷ ((at 885 886), (ty.Plain base.Int)) ∷ ((at 885 894), (ty.Plain base.Int)) ∷ ((at 889 890), (ty.Plain base.Int)) ∷ ((at 889 894), (ty.Plain base.Int)) ∷ ((at 893 894), (ty.Plain base.Int)) ∷ ((at 900 901), (ty.Plain base.Bool)) ∷ ((at 900 906), (ty.Plain base.Bool)) ∷ ((at 905 906), (ty.Plain base.Bool)) ∷ ((at 908 909), (ty.Plain base.Int)) ∷ ((at 908 917), (ty.Plain base.Int)) ∷ ((at 912 913), (ty.Plain base.Int)) ∷ ((at 912 917), (ty.Plain base.Int)) ∷ ((at 916 917), (ty.Plain base.Int)) ∷ ((at 926 927), (ty.Plain base.Int)) ∷ ((at 972 973), (ty.Array base.Int 1 [])) ∷ ((at 983 984), (ty.Plain base.Int)) ∷ ((at 990 991), (ty.Array base.Int 1 [])) ∷ ((at 990 996), (ty.Plain base.Bool)) ∷ ((at 995 996), (ty.Array base.Int 1 [])) ∷ ((at 998 999), (ty.Plain base.Int)) ∷ ((at 998 1007), (ty.Plain base.Int)) ∷ ((at 1002 1003), (ty.Plain base.Int)) ∷ ((at 1002 1007), (ty.Plain base.Int)) ∷ ((at 1006 1007), (ty.Plain base.Int)) ∷ ((at 1009 1010), (ty.Array base.Int 1 [])) ∷ ((at 1009 1023), (ty.Array base.Int 1 [])) ∷ ((at 1013 1023), (ty.Array base.Int 1 [])) ∷ ((at 1021 1022), (ty.Plain base.Int)) ∷ ((at 1029 1030), (ty.Array base.Int 1 [])) ∷ ((at 1029 1035), (ty.Plain base.Bool)) ∷ ((at 1034 1035), (ty.Array base.Int 1 [])) ∷ ((at 1037 1038), (ty.Plain base.Int)) ∷ ((at 1037 1046), (ty.Plain base.Int)) ∷ ((at 1041 1042), (ty.Plain base.Int)) ∷ ((at 1041 1046), (ty.Plain base.Int)) ∷ ((at 1045 1046), (ty.Plain base.Int)) ∷ ((at 1052 1053), (ty.Array base.Int 1 [])) ∷ ((at 1052 1058), (ty.Plain base.Bool)) ∷ ((at 1057 1058), (ty.Array base.Int 1 [])) ∷ ((at 1060 1061), (ty.Plain base.Int)) ∷ ((at 1060 1069), (ty.Plain base.Int)) ∷ ((at 1064 1065), (ty.Plain base.Int)) ∷ ((at 1064 1069), (ty.Plain base.Int)) ∷ ((at 1068 1069), (ty.Plain base.Int)) ∷ ((at 1075 1076), (ty.Array base.Int 1 [])) ∷ ((at 1075 1084), (ty.Plain base.Bool)) ∷ ((at 1080 1084), (ty.Array base.Int 1 [])) ∷ ((at 1086 1087), (ty.Plain base.Int)) ∷ ((at 1086 1095), (ty.Plain base.Int)) ∷ ((at 1090 1091), (ty.Plain base.Int)) ∷ ((at 1090 1095), (ty.Plain base.Int)) ∷ ((at 1094 1095), (ty.Plain base.Int)) ∷ ((at 1097 1098), (ty.Array base.Int 1 [])) ∷ ((at 1097 1105), (ty.Array base.Int 1 [])) ∷ ((at 1101 1105), (ty.Array base.Int 1 [])) ∷ ((at 1111 1112), (ty.Array base.Int 1 [])) ∷ ((at 1111 1120), (ty.Plain base.Bool)) ∷ ((at 1116 1120), (ty.Array base.Int 1 [])) ∷ ((at 1122 1123), (ty.Plain base.Int)) ∷ ((at 1122 1132), (ty.Plain base.Int)) ∷ ((at 1126 1127), (ty.Plain base.Int)) ∷ ((at 1126 1132), (ty.Plain base.Int)) ∷ ((at 1130 1132), (ty.Plain base.Int)) ∷ ((at 1141 1142), (ty.Plain base.Int)) ∷ []) (((at 23 26), (ty.Plain base.Int)) ∷ ((at 31 32), (ty.Plain base.Int)) ∷ ((at 38 39), (ty.Plain base.Int)) ∷ ((at 285 291), (ty.Plain base.Int)) ∷ ((at 296 297), (ty.Plain base.Int)) ∷ ((at 303 304), (ty.Plain base.Int)) ∷ ((at 395 400), (ty.Plain base.Int)) ∷ ((at 405 406), (ty.Plain base.Int)) ∷ ((at 436 439), (ty.Plain base.Int)) ∷ ((at 444 445), (ty.Plain base.Int)) ∷ ((at 451 452), (ty.Plain base.Int)) ∷ ((at 485 492), (ty.Plain base.Int)) ∷ ((at 497 498), (ty.Plain base.Int)) ∷ ((at 504 505), (ty.Plain base.Int)) ∷ ((at 538 542), (ty.Plain base.Int)) ∷ ((at 547 548), (ty.Plain base.Int)) ∷ ((at 554 555), (ty.Plain base.Int)) ∷ ((at 592 595), (ty.Plain base.Bool)) ∷ ((at 600 601), (ty.Plain base.Int)) ∷ ((at 637 641), (ty.Plain base.Int)) ∷ ((at 646 647), (ty.Plain base.Int)) ∷ ((at 653 654), (ty.Plain base.Int)) ∷ ((at 662 663), (ty.Plain base.Int)) ∷ ((at 832 837), (ty.Plain base.Int)) ∷ ((at 846 847), (ty.Plain base.Bool)) ∷ ((at 857 858), (ty.Plain base.Bool)) ∷ ((at 866 867), (ty.Plain base.Int)) ∷ ((at 944 950), (ty.Plain base.Int)) ∷ ((at 957 958), (ty.Array base.Int 1 [])) ∷ ((at 968 969), (ty.Array base.Int 1 [])) ∷ ((at 979 980), (ty.Plain base.Int)) ∷ []))

abbrev operators_told : List Row
operators_told =
    -- A.all -7 2, at most 1
    row 0 ((Whole (negsuc 6)) ∷ (Whole (pos 2)) ∷ []) 1 (Some (Ended (value_of.Int (pos 6)))) ((Printed (Num (negsuc 4))) ∷ (Printed (Num (negsuc 8))) ∷ (Printed (Num (negsuc 13))) ∷ (Printed (Num (negsuc 2))) ∷ (Printed (Num (negsuc 0))) ∷ (Printed (Num (pos 0))) ∷ (Printed (Num (negsuc 4))) ∷ (Printed (Num (negsuc 4))) ∷ []) false
    -- A.shifts -8 33, at most 1
    ∷ row 1 ((Whole (negsuc 7)) ∷ (Whole (pos 33)) ∷ []) 1 (Some (Ended (value_of.Int (pos 2147483644)))) ((Printed (Num (negsuc 15))) ∷ (Printed (Num (negsuc 3))) ∷ []) false
    -- A.minus -2147483648, at most 1
    ∷ row 2 ((Whole (negsuc 2147483647)) ∷ []) 1 (Some (Ended (value_of.Int (negsuc 2147483647)))) ([]) true
    -- A.minus 5, at most 1
    ∷ row 2 ((Whole (pos 5)) ∷ []) 1 (Some (Ended (value_of.Int (negsuc 4)))) ([]) false
    -- A.sum 2147483647 1, at most 1
    ∷ row 3 ((Whole (pos 2147483647)) ∷ (Whole (pos 1)) ∷ []) 1 (Some (Ended (value_of.Int (negsuc 2147483647)))) ([]) true
    -- A.divided -2147483648 -1, at most 1
    ∷ row 4 ((Whole (negsuc 2147483647)) ∷ (Whole (negsuc 0)) ∷ []) 1 (Some (Ended (value_of.Int (negsuc 2147483647)))) ([]) true
    -- A.divided 7 0, at most 1
    ∷ row 4 ((Whole (pos 7)) ∷ (Whole (pos 0)) ∷ []) 1 (Some (ZeroDivisor 516)) ([]) false
    -- A.rest 7 0, at most 1
    ∷ row 5 ((Whole (pos 7)) ∷ (Whole (pos 0)) ∷ []) 1 (Some (ZeroDivisor 566)) ([]) false
    -- A.not 1, at most 1
    ∷ row 6 ((Whole (pos 1)) ∷ []) 1 (Some (Ended (value_of.Bool true))) ([]) false
    -- A.rels 1 2, at most 1
    ∷ row 7 ((Whole (pos 1)) ∷ (Whole (pos 2)) ∷ []) 1 (Some (Ended (value_of.Int (pos 35)))) ([]) false
    -- A.rels 2 2, at most 1
    ∷ row 7 ((Whole (pos 2)) ∷ (Whole (pos 2)) ∷ []) 1 (Some (Ended (value_of.Int (pos 26)))) ([]) false
    -- A.rels 2 1, at most 1
    ∷ row 7 ((Whole (pos 2)) ∷ (Whole (pos 1)) ∷ []) 1 (Some (Ended (value_of.Int (pos 44)))) ([]) false
    -- A.flags true false, at most 1
    ∷ row 8 ((Flag true) ∷ (Flag false) ∷ []) 1 (Some (Ended (value_of.Int (pos 2)))) ([]) false
    -- A.flags true true, at most 1
    ∷ row 8 ((Flag true) ∷ (Flag true) ∷ []) 1 (Some (Ended (value_of.Int (pos 1)))) ([]) false
    -- A.arrays [1], at most 1
    ∷ row 9 ((Ints ((pos 1) ∷ [])) ∷ []) 1 (Some (Ended (value_of.Int (pos 21)))) ([]) false
    ∷ []

operators_rows : Rows operators_names operators_classes operators_told
unfolding int_wrap
operators_rows = by_means operators_names operators_classes operators_told refl
