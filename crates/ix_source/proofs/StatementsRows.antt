-- Statements (JLS 14): how each completes, and loops that are cut.
use Rattle.std.proofs.Common.{pos, negsuc, true, false, List, [], ◌∷◌, Some, None, refl}
use Rattle.std.specs.Int.{int_wrap}
use Rattle.ix_num.specs.declared.arith.Arith.TheVariants as arith
use Rattle.ix_num.specs.declared.rel.Rel.TheVariants as rel
use Rattle.ix_core.specs.declared.claim.Base.TheVariants as base
use Rattle.ix_core.specs.declared.claim.Type_.TheVariants as ty
use Rattle.ix_core.specs.declared.outcome.Value.TheVariants as value_of
use Rattle.ix_core.specs.Heap.{Num, Boolean}
use Rattle.ix_core.specs.Machine.{Ended, Thrown}
use Rattle.ix_core.specs.Safe.{Whole, Flag}
use Rattle.ix_core.specs.Traces.{Printed}
use Rattle.ix_tree.specs.declared.annot.BaseTree.TheVariants as b
use Rattle.ix_tree.specs.declared.expr.BinaryOp.TheVariants as op
use Rattle.ix_meaning.specs.declared.note.Meaning.TheVariants as meaning
use Rattle.ix_meaning.specs.Resolved.{Names}
use Rattle.ix_source.proofs.Trees.{at, named, mods, type, int, bool, name, binary, assigned, stepped, value, variable, locals, block, empty, if_else, if_only, while, do_while, for_loop, break_loop, continue_loop, returns, returns_value, throws, prints, runs, method, param, Method, ClassNode, class, table, Row, row, Rows, by_means}

-- class A {
--   static int first(int n) { int s = 0; for (int i = 0; i < n; i++) { if (i == 1) continue; if (i == 3) break; s = s + 10 + i; } return s; }
--   static int last(int n) { int i = 0; do { i = i + 1; if (i == 2) continue; System.out.println(i); if (i == 4) break; } while (i < n); return i; }
--   static int nested(int n) { int s = 0; for (int i = 0; i < n; i++) { int j = 0; while (true) { if (j == 2) break; j = j + 1; if (j == 1) continue; s = s + 1; } s = s + 10; } return s; }
--   static void spin() { while (true) { System.out.println(1); } }
--   static int block(int x) { { int y = x; { y = y + 1; x = y; } ; } int y = 3; return x * y; }
--   static int either(int x) { if (x < 0) return 1; else if (x == 0) { return 2; } else x = x - 1; return x; }
--   static int ever() { for (;;) { return 4; } }
--   static int two() { int s = 0; for (int i = 0, j = 9; i < j; i++, j--) s = s + j; return s; }
--   static void out(boolean b) { System.out.println(b); if (b) return; System.out.println(7); }
--   static int none(int x) { if (x > 0) return x; }
--   static int thrown(int x) { if (x < 0) throw new E(); return x; }
--   static int unset() { int x; x = 2; int y; { int z = 5; x = z; } y = x; return y; } }
abbrev statements_classes : List ClassNode
statements_classes = (
    (class (named (65 ∷ []) 6 7) None ((Method (method (mods true false false) (Some (type b.Int 0 (at 19 22))) false (named (102 ∷ 105 ∷ 114 ∷ 115 ∷ 116 ∷ []) 23 28) ((param (mods false false false) (type b.Int 0 (at 29 32)) (named (110 ∷ []) 33 34)) ∷ []) None ((locals ((variable (mods false false false) (type b.Int 0 (at 38 41)) (named (115 ∷ []) 42 43) (Some (value (int (pos 0) (at 46 47))))) ∷ []) (at 38 48)) ∷ (for_loop ((locals ((variable (mods false false false) (type b.Int 0 (at 54 57)) (named (105 ∷ []) 58 59) (Some (value (int (pos 0) (at 62 63))))) ∷ []) (at 54 63)) ∷ []) (Some (binary (op.Compare rel.Lt) (name (named (105 ∷ []) 65 66) (at 65 66)) (name (named (110 ∷ []) 69 70) (at 69 70)) (at 65 70))) ((stepped true true (name (named (105 ∷ []) 72 73) (at 72 73)) (at 72 75)) ∷ []) (block ((if_only (binary (op.Compare rel.Eq) (name (named (105 ∷ []) 83 84) (at 83 84)) (int (pos 1) (at 88 89)) (at 83 89)) (continue_loop (at 91 100)) (at 79 100)) ∷ (if_only (binary (op.Compare rel.Eq) (name (named (105 ∷ []) 105 106) (at 105 106)) (int (pos 3) (at 110 111)) (at 105 111)) (break_loop (at 113 119)) (at 101 119)) ∷ (runs (assigned None (name (named (115 ∷ []) 120 121) (at 120 121)) (binary (op.Num arith.Add) (binary (op.Num arith.Add) (name (named (115 ∷ []) 124 125) (at 124 125)) (int (pos 10) (at 128 130)) (at 124 130)) (name (named (105 ∷ []) 133 134) (at 133 134)) (at 124 134)) (at 120 134)) (at 120 135)) ∷ []) (at 77 137)) (at 49 137)) ∷ (returns_value (name (named (115 ∷ []) 145 146) (at 145 146)) (at 138 147)) ∷ []) (at 12 149))) ∷ (Method (method (mods true false false) (Some (type b.Int 0 (at 159 162))) false (named (108 ∷ 97 ∷ 115 ∷ 116 ∷ []) 163 167) ((param (mods false false false) (type b.Int 0 (at 168 171)) (named (110 ∷ []) 172 173)) ∷ []) None ((locals ((variable (mods false false false) (type b.Int 0 (at 177 180)) (named (105 ∷ []) 181 182) (Some (value (int (pos 0) (at 185 186))))) ∷ []) (at 177 187)) ∷ (do_while (block ((runs (assigned None (name (named (105 ∷ []) 193 194) (at 193 194)) (binary (op.Num arith.Add) (name (named (105 ∷ []) 197 198) (at 197 198)) (int (pos 1) (at 201 202)) (at 197 202)) (at 193 202)) (at 193 203)) ∷ (if_only (binary (op.Compare rel.Eq) (name (named (105 ∷ []) 208 209) (at 208 209)) (int (pos 2) (at 213 214)) (at 208 214)) (continue_loop (at 216 225)) (at 204 225)) ∷ (prints (name (named (105 ∷ []) 245 246) (at 245 246)) (at 226 248)) ∷ (if_only (binary (op.Compare rel.Eq) (name (named (105 ∷ []) 253 254) (at 253 254)) (int (pos 4) (at 258 259)) (at 253 259)) (break_loop (at 261 267)) (at 249 267)) ∷ []) (at 191 269)) (binary (op.Compare rel.Lt) (name (named (105 ∷ []) 277 278) (at 277 278)) (name (named (110 ∷ []) 281 282) (at 281 282)) (at 277 282)) (at 188 284)) ∷ (returns_value (name (named (105 ∷ []) 292 293) (at 292 293)) (at 285 294)) ∷ []) (at 152 296))) ∷ (Method (method (mods true false false) (Some (type b.Int 0 (at 306 309))) false (named (110 ∷ 101 ∷ 115 ∷ 116 ∷ 101 ∷ 100 ∷ []) 310 316) ((param (mods false false false) (type b.Int 0 (at 317 320)) (named (110 ∷ []) 321 322)) ∷ []) None ((locals ((variable (mods false false false) (type b.Int 0 (at 326 329)) (named (115 ∷ []) 330 331) (Some (value (int (pos 0) (at 334 335))))) ∷ []) (at 326 336)) ∷ (for_loop ((locals ((variable (mods false false false) (type b.Int 0 (at 342 345)) (named (105 ∷ []) 346 347) (Some (value (int (pos 0) (at 350 351))))) ∷ []) (at 342 351)) ∷ []) (Some (binary (op.Compare rel.Lt) (name (named (105 ∷ []) 353 354) (at 353 354)) (name (named (110 ∷ []) 357 358) (at 357 358)) (at 353 358))) ((stepped true true (name (named (105 ∷ []) 360 361) (at 360 361)) (at 360 363)) ∷ []) (block ((locals ((variable (mods false false false) (type b.Int 0 (at 367 370)) (named (106 ∷ []) 371 372) (Some (value (int (pos 0) (at 375 376))))) ∷ []) (at 367 377)) ∷ (while (bool true (at 385 389)) (block ((if_only (binary (op.Compare rel.Eq) (name (named (106 ∷ []) 397 398) (at 397 398)) (int (pos 2) (at 402 403)) (at 397 403)) (break_loop (at 405 411)) (at 393 411)) ∷ (runs (assigned None (name (named (106 ∷ []) 412 413) (at 412 413)) (binary (op.Num arith.Add) (name (named (106 ∷ []) 416 417) (at 416 417)) (int (pos 1) (at 420 421)) (at 416 421)) (at 412 421)) (at 412 422)) ∷ (if_only (binary (op.Compare rel.Eq) (name (named (106 ∷ []) 427 428) (at 427 428)) (int (pos 1) (at 432 433)) (at 427 433)) (continue_loop (at 435 444)) (at 423 444)) ∷ (runs (assigned None (name (named (115 ∷ []) 445 446) (at 445 446)) (binary (op.Num arith.Add) (name (named (115 ∷ []) 449 450) (at 449 450)) (int (pos 1) (at 453 454)) (at 449 454)) (at 445 454)) (at 445 455)) ∷ []) (at 391 457)) (at 378 457)) ∷ (runs (assigned None (name (named (115 ∷ []) 458 459) (at 458 459)) (binary (op.Num arith.Add) (name (named (115 ∷ []) 462 463) (at 462 463)) (int (pos 10) (at 466 468)) (at 462 468)) (at 458 468)) (at 458 469)) ∷ []) (at 365 471)) (at 337 471)) ∷ (returns_value (name (named (115 ∷ []) 479 480) (at 479 480)) (at 472 481)) ∷ []) (at 299 483))) ∷ (Method (method (mods true false false) None false (named (115 ∷ 112 ∷ 105 ∷ 110 ∷ []) 498 502) ([]) None ((while (bool true (at 514 518)) (block ((prints (int (pos 1) (at 541 542)) (at 522 544)) ∷ []) (at 520 546)) (at 507 546)) ∷ []) (at 486 548))) ∷ (Method (method (mods true false false) (Some (type b.Int 0 (at 558 561))) false (named (98 ∷ 108 ∷ 111 ∷ 99 ∷ 107 ∷ []) 562 567) ((param (mods false false false) (type b.Int 0 (at 568 571)) (named (120 ∷ []) 572 573)) ∷ []) None ((block ((locals ((variable (mods false false false) (type b.Int 0 (at 579 582)) (named (121 ∷ []) 583 584) (Some (value (name (named (120 ∷ []) 587 588) (at 587 588))))) ∷ []) (at 579 589)) ∷ (block ((runs (assigned None (name (named (121 ∷ []) 592 593) (at 592 593)) (binary (op.Num arith.Add) (name (named (121 ∷ []) 596 597) (at 596 597)) (int (pos 1) (at 600 601)) (at 596 601)) (at 592 601)) (at 592 602)) ∷ (runs (assigned None (name (named (120 ∷ []) 603 604) (at 603 604)) (name (named (121 ∷ []) 607 608) (at 607 608)) (at 603 608)) (at 603 609)) ∷ []) (at 590 611)) ∷ (empty (at 612 613)) ∷ []) (at 577 615)) ∷ (locals ((variable (mods false false false) (type b.Int 0 (at 616 619)) (named (121 ∷ []) 620 621) (Some (value (int (pos 3) (at 624 625))))) ∷ []) (at 616 626)) ∷ (returns_value (binary (op.Num arith.Mul) (name (named (120 ∷ []) 634 635) (at 634 635)) (name (named (121 ∷ []) 638 639) (at 638 639)) (at 634 639)) (at 627 640)) ∷ []) (at 551 642))) ∷ (Method (method (mods true false false) (Some (type b.Int 0 (at 652 655))) false (named (101 ∷ 105 ∷ 116 ∷ 104 ∷ 101 ∷ 114 ∷ []) 656 662) ((param (mods false false false) (type b.Int 0 (at 663 666)) (named (120 ∷ []) 667 668)) ∷ []) None ((if_else (binary (op.Compare rel.Lt) (name (named (120 ∷ []) 676 677) (at 676 677)) (int (pos 0) (at 680 681)) (at 676 681)) (returns_value (int (pos 1) (at 690 691)) (at 683 692)) (if_else (binary (op.Compare rel.Eq) (name (named (120 ∷ []) 702 703) (at 702 703)) (int (pos 0) (at 707 708)) (at 702 708)) (block ((returns_value (int (pos 2) (at 719 720)) (at 712 721)) ∷ []) (at 710 723)) (runs (assigned None (name (named (120 ∷ []) 729 730) (at 729 730)) (binary (op.Num arith.Sub) (name (named (120 ∷ []) 733 734) (at 733 734)) (int (pos 1) (at 737 738)) (at 733 738)) (at 729 738)) (at 729 739)) (at 698 739)) (at 672 739)) ∷ (returns_value (name (named (120 ∷ []) 747 748) (at 747 748)) (at 740 749)) ∷ []) (at 645 751))) ∷ (Method (method (mods true false false) (Some (type b.Int 0 (at 761 764))) false (named (101 ∷ 118 ∷ 101 ∷ 114 ∷ []) 765 769) ([]) None ((for_loop ([]) None ([]) (block ((returns_value (int (pos 4) (at 792 793)) (at 785 794)) ∷ []) (at 783 796)) (at 774 796)) ∷ []) (at 754 798))) ∷ (Method (method (mods true false false) (Some (type b.Int 0 (at 808 811))) false (named (116 ∷ 119 ∷ 111 ∷ []) 812 815) ([]) None ((locals ((variable (mods false false false) (type b.Int 0 (at 820 823)) (named (115 ∷ []) 824 825) (Some (value (int (pos 0) (at 828 829))))) ∷ []) (at 820 830)) ∷ (for_loop ((locals ((variable (mods false false false) (type b.Int 0 (at 836 839)) (named (105 ∷ []) 840 841) (Some (value (int (pos 0) (at 844 845))))) ∷ (variable (mods false false false) (type b.Int 0 (at 836 839)) (named (106 ∷ []) 847 848) (Some (value (int (pos 9) (at 851 852))))) ∷ []) (at 836 852)) ∷ []) (Some (binary (op.Compare rel.Lt) (name (named (105 ∷ []) 854 855) (at 854 855)) (name (named (106 ∷ []) 858 859) (at 858 859)) (at 854 859))) ((stepped true true (name (named (105 ∷ []) 861 862) (at 861 862)) (at 861 864)) ∷ (stepped false true (name (named (106 ∷ []) 866 867) (at 866 867)) (at 866 869)) ∷ []) (runs (assigned None (name (named (115 ∷ []) 871 872) (at 871 872)) (binary (op.Num arith.Add) (name (named (115 ∷ []) 875 876) (at 875 876)) (name (named (106 ∷ []) 879 880) (at 879 880)) (at 875 880)) (at 871 880)) (at 871 881)) (at 831 881)) ∷ (returns_value (name (named (115 ∷ []) 889 890) (at 889 890)) (at 882 891)) ∷ []) (at 801 893))) ∷ (Method (method (mods true false false) None false (named (111 ∷ 117 ∷ 116 ∷ []) 908 911) ((param (mods false false false) (type b.Boolean 0 (at 912 919)) (named (98 ∷ []) 920 921)) ∷ []) None ((prints (name (named (98 ∷ []) 944 945) (at 944 945)) (at 925 947)) ∷ (if_only (name (named (98 ∷ []) 952 953) (at 952 953)) (returns (at 955 962)) (at 948 962)) ∷ (prints (int (pos 7) (at 982 983)) (at 963 985)) ∷ []) (at 896 987))) ∷ (Method (method (mods true false false) (Some (type b.Int 0 (at 997 1000))) false (named (110 ∷ 111 ∷ 110 ∷ 101 ∷ []) 1001 1005) ((param (mods false false false) (type b.Int 0 (at 1006 1009)) (named (120 ∷ []) 1010 1011)) ∷ []) None ((if_only (binary (op.Compare rel.Gt) (name (named (120 ∷ []) 1019 1020) (at 1019 1020)) (int (pos 0) (at 1023 1024)) (at 1019 1024)) (returns_value (name (named (120 ∷ []) 1033 1034) (at 1033 1034)) (at 1026 1035)) (at 1015 1035)) ∷ []) (at 990 1037))) ∷ (Method (method (mods true false false) (Some (type b.Int 0 (at 1047 1050))) false (named (116 ∷ 104 ∷ 114 ∷ 111 ∷ 119 ∷ 110 ∷ []) 1051 1057) ((param (mods false false false) (type b.Int 0 (at 1058 1061)) (named (120 ∷ []) 1062 1063)) ∷ []) None ((if_only (binary (op.Compare rel.Lt) (name (named (120 ∷ []) 1071 1072) (at 1071 1072)) (int (pos 0) (at 1075 1076)) (at 1071 1076)) (throws (named (69 ∷ []) 1088 1089) (at 1078 1092)) (at 1067 1092)) ∷ (returns_value (name (named (120 ∷ []) 1100 1101) (at 1100 1101)) (at 1093 1102)) ∷ []) (at 1040 1104))) ∷ (Method (method (mods true false false) (Some (type b.Int 0 (at 1114 1117))) false (named (117 ∷ 110 ∷ 115 ∷ 101 ∷ 116 ∷ []) 1118 1123) ([]) None ((locals ((variable (mods false false false) (type b.Int 0 (at 1128 1131)) (named (120 ∷ []) 1132 1133) None) ∷ []) (at 1128 1134)) ∷ (runs (assigned None (name (named (120 ∷ []) 1135 1136) (at 1135 1136)) (int (pos 2) (at 1139 1140)) (at 1135 1140)) (at 1135 1141)) ∷ (locals ((variable (mods false false false) (type b.Int 0 (at 1142 1145)) (named (121 ∷ []) 1146 1147) None) ∷ []) (at 1142 1148)) ∷ (block ((locals ((variable (mods false false false) (type b.Int 0 (at 1151 1154)) (named (122 ∷ []) 1155 1156) (Some (value (int (pos 5) (at 1159 1160))))) ∷ []) (at 1151 1161)) ∷ (runs (assigned None (name (named (120 ∷ []) 1162 1163) (at 1162 1163)) (name (named (122 ∷ []) 1166 1167) (at 1166 1167)) (at 1162 1167)) (at 1162 1168)) ∷ []) (at 1149 1170)) ∷ (runs (assigned None (name (named (121 ∷ []) 1171 1172) (at 1171 1172)) (name (named (120 ∷ []) 1175 1176) (at 1175 1176)) (at 1171 1176)) (at 1171 1177)) ∷ (returns_value (name (named (121 ∷ []) 1185 1186) (at 1185 1186)) (at 1178 1187)) ∷ []) (at 1107 1189))) ∷ []) (at 0 1191))
    ∷ [])

abbrev statements_names : Names
statements_names = (table (((at 65 66), (meaning.Local 1)) ∷ ((at 69 70), (meaning.Param 0)) ∷ ((at 72 73), (meaning.Local 1)) ∷ ((at 83 84), (meaning.Local 1)) ∷ ((at 105 106), (meaning.Local 1)) ∷ ((at 120 121), (meaning.Local 0)) ∷ ((at 124 125), (meaning.Local 0)) ∷ ((at 133 134), (meaning.Local 1)) ∷ ((at 145 146), (meaning.Local 0)) ∷ ((at 193 194), (meaning.Local 0)) ∷ ((at 197 198), (meaning.Local 0)) ∷ ((at 208 209), (meaning.Local 0)) ∷ ((at 245 246), (meaning.Local 0)) ∷ ((at 253 254), (meaning.Local 0)) ∷ ((at 277 278), (meaning.Local 0)) ∷ ((at 281 282), (meaning.Param 0)) ∷ ((at 292 293), (meaning.Local 0)) ∷ ((at 353 354), (meaning.Local 1)) ∷ ((at 357 358), (meaning.Param 0)) ∷ ((at 360 361), (meaning.Local 1)) ∷ ((at 397 398), (meaning.Local 2)) ∷ ((at 412 413), (meaning.Local 2)) ∷ ((at 416 417), (meaning.Local 2)) ∷ ((at 427 428), (meaning.Local 2)) ∷ ((at 445 446), (meaning.Local 0)) ∷ ((at 449 450), (meaning.Local 0)) ∷ ((at 458 459), (meaning.Local 0)) ∷ ((at 462 463), (meaning.Local 0)) ∷ ((at 479 480), (meaning.Local 0)) ∷ ((at 587 588), (meaning.Param 0)) ∷ ((at 592 593), (meaning.Local 0)) ∷ ((at 596 597), (meaning.Local 0)) ∷ ((at 603 604), (meaning.Param 0)) ∷ ((at 607 608), (meaning.Local 0)) ∷ ((at 634 635), (meaning.Param 0)) ∷ ((at 638 639), (meaning.Local 1)) ∷ ((at 676 677), (meaning.Param 0)) ∷ ((at 702 703), (meaning.Param 0)) ∷ ((at 729 730), (meaning.Param 0)) ∷ ((at 733 734), (meaning.Param 0)) ∷ ((at 747 748), (meaning.Param 0)) ∷ ((at 854 855), (meaning.Local 1)) ∷ ((at 858 859), (meaning.Local 2)) ∷ ((at 861 862), (meaning.Local 1)) ∷ ((at 866 867), (meaning.Local 2)) ∷ ((at 871 872), (meaning.Local 0)) ∷ ((at 875 876), (meaning.Local 0)) ∷ ((at 879 880), (meaning.Local 2)) ∷ ((at 889 890), (meaning.Local 0)) ∷ ((at 944 945), (meaning.Param 0)) ∷ ((at 952 953), (meaning.Param 0)) ∷ ((at 1019 1020), (meaning.Param 0)) ∷ ((at 1033 1034), (meaning.Param 0)) ∷ ((at 1071 1072), (meaning.Param 0)) ∷ ((at 1100 1101), (meaning.Param 0)) ∷ ((at 1135 1136), (meaning.Local 0)) ∷ ((at 1162 1163), (meaning.Local 0)) ∷ ((at 1166 1167), (meaning.Local 2)) ∷ ((at 1171 1172), (meaning.Local 1)) ∷ ((at 1175 1176), (meaning.Local 0)) ∷ ((at 1185 1186), (meaning.Local 1)) ∷ []) (((at 46 47), (ty.Plain base.Int)) ∷ ((at 62 63), (ty.Plain base.Int)) ∷ ((at 65 66), (ty.Plain base.Int)) ∷ ((at 65 70), (ty.Plain base.Bool)) ∷ ((at 69 70), (ty.Plain base.Int)) ∷ ((at 72 73), (ty.Plain base.Int)) ∷ ((at 72 75), (ty.Plain base.Int)) ∷ ((at 83 84), (ty.Plain base.Int)) ∷ ((at 83 89), (ty.Plain base.Bool)) ∷ ((at 88 89), (ty.Plain base.Int)) ∷ ((at 105 106), (ty.Plain base.Int)) ∷ ((at 105 111), (ty.Plain base.Bool)) ∷ ((at 110 111), (ty.Plain base.Int)) ∷ ((at 120 121), (ty.Plain base.Int)) ∷ ((at 120 134), (ty.Plain base.Int)) ∷ ((at 124 125), (ty.Plain base.Int)) ∷ ((at 124 130), (ty.Plain base.Int)) ∷ ((at 124 134), (ty.Plain base.Int)) ∷ ((at 128 130), (ty.Plain base.Int)) ∷ ((at 133 134), (ty.Plain base.Int)) ∷ ((at 145 146), (ty.Plain base.Int)) ∷ ((at 185 186), (ty.Plain base.Int)) ∷ ((at 193 194), (ty.Plain base.Int)) ∷ ((at 193 202), (ty.Plain base.Int)) ∷ ((at 197 198), (ty.Plain base.Int)) ∷ ((at 197 202), (ty.Plain base.Int)) ∷ ((at 201 202), (ty.Plain base.Int)) ∷ ((at 208 209), (ty.Plain base.Int)) ∷ ((at 208 214), (ty.Plain base.Bool)) ∷ ((at 213 214), (ty.Plain base.Int)) ∷ ((at 245 246), (ty.Plain base.Int)) ∷ ((at 253 254), (ty.Plain base.Int)) ∷ ((at 253 259), (ty.Plain base.Bool)) ∷ ((at 258 259), (ty.Plain base.Int)) ∷ ((at 277 278), (ty.Plain base.Int)) ∷ ((at 277 282), (ty.Plain base.Bool)) ∷ ((at 281 282), (ty.Plain base.Int)) ∷ ((at 292 293), (ty.Plain base.Int)) ∷ ((at 334 335), (ty.Plain base.Int)) ∷ ((at 350 351), (ty.Plain base.Int)) ∷ ((at 353 354), (ty.Plain base.Int)) ∷ ((at 353 358), (ty.Plain base.Bool)) ∷ ((at 357 358), (ty.Plain base.Int)) ∷ ((at 360 361), (ty.Plain base.Int)) ∷ ((at 360 363), (ty.Plain base.Int)) ∷ ((at 375 376), (ty.Plain base.Int)) ∷ ((at 385 389), (ty.Plain base.Bool)) ∷ ((at 397 398), (ty.Plain base.Int)) ∷ ((at 397 403), (ty.Plain base.Bool)) ∷ ((at 402 403), (ty.Plain base.Int)) ∷ ((at 412 413), (ty.Plain base.Int)) ∷ ((at 412 421), (ty.Plain base.Int)) ∷ ((at 416 417), (ty.Plain base.Int)) ∷ ((at 416 421), (ty.Plain base.Int)) ∷ ((at 420 421), (ty.Plain base.Int)) ∷ ((at 427 428), (ty.Plain base.Int)) ∷ ((at 427 433), (ty.Plain base.Bool)) ∷ ((at 432 433), (ty.Plain base.Int)) ∷ ((at 445 446), (ty.Plain base.Int)) ∷ ((at 445 454), (ty.Plain base.Int)) ∷ ((at 449 450), (ty.Plain base.Int)) ∷ ((at 449 454), (ty.Plain base.Int)) ∷ ((at 453 454), (ty.Plain base.Int)) ∷ ((at 458 459), (ty.Plain base.Int)) ∷ ((at 458 468), (ty.Plain base.Int)) ∷ ((at 462 463), (ty.Plain base.Int)) ∷ ((at 462 468), (ty.Plain base.Int)) ∷ ((at 466 468), (ty.Plain base.Int)) ∷ ((at 479 480), (ty.Plain base.Int)) ∷ ((at 514 518), (ty.Plain base.Bool)) ∷ ((at 541 542), (ty.Plain base.Int)) ∷ ((at 587 588), (ty.Plain base.Int)) ∷ ((at 592 593), (ty.Plain base.Int)) ∷ ((at 592 601), (ty.Plain base.Int)) ∷ ((at 596 597), (ty.Plain base.Int)) ∷ ((at 596 601), (ty.Plain base.Int)) ∷ ((at 600 601), (ty.Plain base.Int)) ∷ ((at 603 604), (ty.Plain base.Int)) ∷ ((at 603 608), (ty.Plain base.Int)) ∷ ((at 607 608), (ty.Plain base.Int)) ∷ ((at 624 625), (ty.Plain base.Int)) ∷ ((at 634 635), (ty.Plain base.Int)) ∷ ((at 634 639), (ty.Plain base.Int)) ∷ ((at 638 639), (ty.Plain base.Int)) ∷ ((at 676 677), (ty.Plain base.Int)) ∷ ((at 676 681), (ty.Plain base.Bool)) ∷ ((at 680 681), (ty.Plain base.Int)) ∷ ((at 690 691), (ty.Plain base.Int)) ∷ ((at 702 703), (ty.Plain base.Int)) ∷ ((at 702 708), (ty.Plain base.Bool)) ∷ ((at 707 708), (ty.Plain base.Int)) ∷ ((at 719 720), (ty.Plain base.Int)) ∷ ((at 729 730), (ty.Plain base.Int)) ∷ ((at 729 738), (ty.Plain base.Int)) ∷ ((at 733 734), (ty.Plain base.Int)) ∷ ((at 733 738), (ty.Plain base.Int)) ∷ ((at 737 738), (ty.Plain base.Int)) ∷ ((at 747 748), (ty.Plain base.Int)) ∷ ((at 792 793), (ty.Plain base.Int)) ∷ ((at 828 829), (ty.Plain base.Int)) ∷ ((at 844 845), (ty.Plain base.Int)) ∷ ((at 851 852), (ty.Plain base.Int)) ∷ ((at 854 855), (ty.Plain base.Int)) ∷ ((at 854 859), (ty.Plain base.Bool)) ∷ ((at 858 859), (ty.Plain base.Int)) ∷ ((at 861 862), (ty.Plain base.Int)) ∷ ((at 861 864), (ty.Plain base.Int)) ∷ ((at 866 867), (ty.Plain base.Int)) ∷ ((at 866 869), (ty.Plain base.Int)) ∷ ((at 871 872), (ty.Plain base.Int)) ∷ ((at 871 880), (ty.Plain base.Int)) ∷ ((at 875 876), (ty.Plain base.Int)) ∷ ((at 875 880), (ty.Plain base.Int)) ∷ ((at 879 880), (ty.Plain base.Int)) ∷ ((at 889 890), (ty.Plain base.Int)) ∷ ((at 944 945), (ty.Plain base.Bool)) ∷ ((at 952 953), (ty.Plain base.Bool)) ∷ ((at 982 983), (ty.Plain base.Int)) ∷ ((at 1019 1020), (ty.Plain base.Int)) ∷ ((at 1019 1024), (ty.Plain base.Bool)) ∷ ((at 1023 1024), (ty.Plain base.Int)) ∷ ((at 1033 1034), (ty.Plain base.Int)) ∷ ((at 1071 1072), (ty.Plain base.Int)) ∷ ((at 1071 1076), (ty.Plain base.Bool)) ∷ ((at 1075 1076), (ty.Plain base.Int)) ∷ ((at 1100 1101), (ty.Plain base.Int)) ∷ ((at 1135 1136), (ty.Plain base.Int)) ∷ ((at 1135 1140), (ty.Plain base.Int)) ∷ ((at 1139 1140), (ty.Plain base.Int)) ∷ ((at 1159 1160), (ty.Plain base.Int)) ∷ ((at 1162 1163), (ty.Plain base.Int)) ∷ ((at 1162 1167), (ty.Plain base.Int)) ∷ ((at 1166 1167), (ty.Plain base.Int)) ∷ ((at 1171 1172), (ty.Plain base.Int)) ∷ ((at 1171 1176), (ty.Plain base.Int)) ∷ ((at 1175 1176), (ty.Plain base.Int)) ∷ ((at 1185 1186), (ty.Plain base.Int)) ∷ []) (((at 23 28), (ty.Plain base.Int)) ∷ ((at 33 34), (ty.Plain base.Int)) ∷ ((at 42 43), (ty.Plain base.Int)) ∷ ((at 58 59), (ty.Plain base.Int)) ∷ ((at 163 167), (ty.Plain base.Int)) ∷ ((at 172 173), (ty.Plain base.Int)) ∷ ((at 181 182), (ty.Plain base.Int)) ∷ ((at 310 316), (ty.Plain base.Int)) ∷ ((at 321 322), (ty.Plain base.Int)) ∷ ((at 330 331), (ty.Plain base.Int)) ∷ ((at 346 347), (ty.Plain base.Int)) ∷ ((at 371 372), (ty.Plain base.Int)) ∷ ((at 498 502), ty.Void) ∷ ((at 562 567), (ty.Plain base.Int)) ∷ ((at 572 573), (ty.Plain base.Int)) ∷ ((at 583 584), (ty.Plain base.Int)) ∷ ((at 620 621), (ty.Plain base.Int)) ∷ ((at 656 662), (ty.Plain base.Int)) ∷ ((at 667 668), (ty.Plain base.Int)) ∷ ((at 765 769), (ty.Plain base.Int)) ∷ ((at 812 815), (ty.Plain base.Int)) ∷ ((at 824 825), (ty.Plain base.Int)) ∷ ((at 840 841), (ty.Plain base.Int)) ∷ ((at 847 848), (ty.Plain base.Int)) ∷ ((at 908 911), ty.Void) ∷ ((at 920 921), (ty.Plain base.Bool)) ∷ ((at 1001 1005), (ty.Plain base.Int)) ∷ ((at 1010 1011), (ty.Plain base.Int)) ∷ ((at 1051 1057), (ty.Plain base.Int)) ∷ ((at 1062 1063), (ty.Plain base.Int)) ∷ ((at 1118 1123), (ty.Plain base.Int)) ∷ ((at 1132 1133), (ty.Plain base.Int)) ∷ ((at 1146 1147), (ty.Plain base.Int)) ∷ ((at 1155 1156), (ty.Plain base.Int)) ∷ []))

abbrev statements_told : List Row
statements_told =
    -- A.first 5, at most 9
    row 0 ((Whole (pos 5)) ∷ []) 9 (Some (Ended (value_of.Int (pos 22)))) ([]) false
    -- A.last 3, at most 9
    ∷ row 1 ((Whole (pos 3)) ∷ []) 9 (Some (Ended (value_of.Int (pos 3)))) ((Printed (Num (pos 1))) ∷ (Printed (Num (pos 3))) ∷ []) false
    -- A.last 9, at most 9
    ∷ row 1 ((Whole (pos 9)) ∷ []) 9 (Some (Ended (value_of.Int (pos 4)))) ((Printed (Num (pos 1))) ∷ (Printed (Num (pos 3))) ∷ (Printed (Num (pos 4))) ∷ []) false
    -- A.nested 2, at most 5
    ∷ row 2 ((Whole (pos 2)) ∷ []) 5 (Some (Ended (value_of.Int (pos 22)))) ([]) false
    -- A.nested 2, at most 2
    ∷ row 2 ((Whole (pos 2)) ∷ []) 2 None ([]) false
    -- A.spin, at most 2
    ∷ row 3 ([]) 2 None ((Printed (Num (pos 1))) ∷ (Printed (Num (pos 1))) ∷ []) false
    -- A.block 4, at most 1
    ∷ row 4 ((Whole (pos 4)) ∷ []) 1 (Some (Ended (value_of.Int (pos 15)))) ([]) false
    -- A.either -1, at most 1
    ∷ row 5 ((Whole (negsuc 0)) ∷ []) 1 (Some (Ended (value_of.Int (pos 1)))) ([]) false
    -- A.either 0, at most 1
    ∷ row 5 ((Whole (pos 0)) ∷ []) 1 (Some (Ended (value_of.Int (pos 2)))) ([]) false
    -- A.either 5, at most 1
    ∷ row 5 ((Whole (pos 5)) ∷ []) 1 (Some (Ended (value_of.Int (pos 4)))) ([]) false
    -- A.ever, at most 1
    ∷ row 6 ([]) 1 (Some (Ended (value_of.Int (pos 4)))) ([]) false
    -- A.ever, at most 0
    ∷ row 6 ([]) 0 None ([]) false
    -- A.two, at most 9
    ∷ row 7 ([]) 9 (Some (Ended (value_of.Int (pos 35)))) ([]) false
    -- A.out true, at most 1
    ∷ row 8 ((Flag true) ∷ []) 1 (Some (Ended value_of.Nothing)) ((Printed (Boolean true)) ∷ []) false
    -- A.out false, at most 1
    ∷ row 8 ((Flag false) ∷ []) 1 (Some (Ended value_of.Nothing)) ((Printed (Boolean false)) ∷ (Printed (Num (pos 7))) ∷ []) false
    -- A.none 0, at most 1
    ∷ row 9 ((Whole (pos 0)) ∷ []) 1 (Some (Ended (value_of.Int (pos 0)))) ([]) false
    -- A.thrown -1, at most 1
    ∷ row 10 ((Whole (negsuc 0)) ∷ []) 1 (Some (Thrown (69 ∷ []) 1078)) ([]) false
    -- A.unset, at most 1
    ∷ row 11 ([]) 1 (Some (Ended (value_of.Int (pos 5)))) ([]) false
    ∷ []

statements_rows : Rows statements_names statements_classes statements_told
unfolding int_wrap
statements_rows = by_means statements_names statements_classes statements_told refl
