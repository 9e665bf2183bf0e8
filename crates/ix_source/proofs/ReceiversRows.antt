-- What stands before a dot, and then the arguments (JLS 15.12.4); fields and elements of what calls give.
use Rattle.std.proofs.Common.{pos, true, false, List, [], ◌∷◌, Some, None, refl}
use Rattle.std.specs.Int.{int_wrap}
use Rattle.ix_num.specs.declared.arith.Arith.TheVariants as arith
use Rattle.ix_core.specs.declared.claim.Base.TheVariants as base
use Rattle.ix_core.specs.declared.claim.Type_.TheVariants as ty
use Rattle.ix_core.specs.declared.outcome.Value.TheVariants as value_of
use Rattle.ix_core.specs.Heap.{Num}
use Rattle.ix_core.specs.Machine.{Ended, NullUsed}
use Rattle.ix_core.specs.Traces.{Printed}
use Rattle.ix_tree.specs.declared.annot.BaseTree.TheVariants as b
use Rattle.ix_tree.specs.declared.expr.BinaryOp.TheVariants as op
use Rattle.ix_tree.specs.declared.expr.UnaryOp.TheVariants as operator
use Rattle.ix_meaning.specs.declared.note.Meaning.TheVariants as meaning
use Rattle.ix_meaning.specs.Resolved.{Names}
use Rattle.ix_source.specs.Runs.{access}
use Rattle.ix_source.proofs.Trees.{at, named, mods, type, int, null, name, select, element, call, call_on, new, new_array, unary, binary, assigned, value, variable, locals, returns_value, prints, runs, method, param, Field, Method, ClassNode, class, table, Row, row, Rows, by_means}

-- class A {
--   static final int K = 4; int x; int[] c;
--   int who() { return 1; }
--   int plus(int n) { return who() + n; }
--   void set(int n) { x = n; } }
-- class B extends A { int who() { return 2; } }
-- class M {
--   static int t(int n) { System.out.println(n); return n; }
--   static A a(int n) { System.out.println(n); A b = new B(); b.c = new int[3]; return b; }
--   static A none(int n) { System.out.println(n); return null; }
--   static int[] c(int n) { System.out.println(n); return new int[2]; }
--   static int on() { return a(1).plus(t(2)); }
--   static int onNull() { return none(1).plus(t(2)); }
--   static int field() { a(1).x = t(2); A b = a(3); b.x += t(4); return b.x; }
--   static int fieldOfNull() { none(1).x = t(2); return 0; }
--   static int cell() { c(1)[t(0)] = t(2); int[] d = c(3); d[t(1)] += t(5); return d[1]; }
--   static int deep() { return a(1).c[t(2)] + a(3).c.length; }
--   static int static_() { return a(1).K + A.K; }
--   static int unused() { a(1).set(t(2)); a(3); return +t(4); }
--   static int setNull() { A b = null; b.set(t(1)); return 0; } }
abbrev receivers_classes : List ClassNode
receivers_classes = (
    (class (named (65 ∷ []) 6 7) None ((Field (variable (mods true true false) (type b.Int 0 (at 25 28)) (named (75 ∷ []) 29 30) (Some (value (int (pos 4) (at 33 34)))))) ∷ (Field (variable (mods false false false) (type b.Int 0 (at 36 39)) (named (120 ∷ []) 40 41) None)) ∷ (Field (variable (mods false false false) (type b.Int 1 (at 43 48)) (named (99 ∷ []) 49 50) None)) ∷ (Method (method (mods false false false) (Some (type b.Int 0 (at 54 57))) false (named (119 ∷ 104 ∷ 111 ∷ []) 58 61) ([]) None ((returns_value (int (pos 1) (at 73 74)) (at 66 75)) ∷ []) (at 54 77))) ∷ (Method (method (mods false false false) (Some (type b.Int 0 (at 80 83))) false (named (112 ∷ 108 ∷ 117 ∷ 115 ∷ []) 84 88) ((param (mods false false false) (type b.Int 0 (at 89 92)) (named (110 ∷ []) 93 94)) ∷ []) None ((returns_value (binary (op.Num arith.Add) (call (named (119 ∷ 104 ∷ 111 ∷ []) 105 108) ([]) (at 105 110)) (name (named (110 ∷ []) 113 114) (at 113 114)) (at 105 114)) (at 98 115)) ∷ []) (at 80 117))) ∷ (Method (method (mods false false false) None false (named (115 ∷ 101 ∷ 116 ∷ []) 125 128) ((param (mods false false false) (type b.Int 0 (at 129 132)) (named (110 ∷ []) 133 134)) ∷ []) None ((runs (assigned None (name (named (120 ∷ []) 138 139) (at 138 139)) (name (named (110 ∷ []) 142 143) (at 142 143)) (at 138 143)) (at 138 144)) ∷ []) (at 120 146))) ∷ []) (at 0 148))
    ∷
    (class (named (66 ∷ []) 155 156) (Some (named (65 ∷ []) 165 166)) ((Method (method (mods false false false) (Some (type b.Int 0 (at 169 172))) false (named (119 ∷ 104 ∷ 111 ∷ []) 173 176) ([]) None ((returns_value (int (pos 2) (at 188 189)) (at 181 190)) ∷ []) (at 169 192))) ∷ []) (at 149 194))
    ∷
    (class (named (77 ∷ []) 201 202) None ((Method (method (mods true false false) (Some (type b.Int 0 (at 214 217))) false (named (116 ∷ []) 218 219) ((param (mods false false false) (type b.Int 0 (at 220 223)) (named (110 ∷ []) 224 225)) ∷ []) None ((prints (name (named (110 ∷ []) 248 249) (at 248 249)) (at 229 251)) ∷ (returns_value (name (named (110 ∷ []) 259 260) (at 259 260)) (at 252 261)) ∷ []) (at 207 263))) ∷ (Method (method (mods true false false) (Some (type (b.Named (named (65 ∷ []) 273 274)) 0 (at 273 274))) false (named (97 ∷ []) 275 276) ((param (mods false false false) (type b.Int 0 (at 277 280)) (named (110 ∷ []) 281 282)) ∷ []) None ((prints (name (named (110 ∷ []) 305 306) (at 305 306)) (at 286 308)) ∷ (locals ((variable (mods false false false) (type (b.Named (named (65 ∷ []) 309 310)) 0 (at 309 310)) (named (98 ∷ []) 311 312) (Some (value (new (named (66 ∷ []) 319 320) ([]) (at 315 322))))) ∷ []) (at 309 323)) ∷ (runs (assigned None (select (name (named (98 ∷ []) 324 325) (at 324 325)) (named (99 ∷ []) 326 327) (at 324 327)) (new_array (type b.Int 1 (at 334 340)) (int (pos 3) (at 338 339)) (at 330 340)) (at 324 340)) (at 324 341)) ∷ (returns_value (name (named (98 ∷ []) 349 350) (at 349 350)) (at 342 351)) ∷ []) (at 266 353))) ∷ (Method (method (mods true false false) (Some (type (b.Named (named (65 ∷ []) 363 364)) 0 (at 363 364))) false (named (110 ∷ 111 ∷ 110 ∷ 101 ∷ []) 365 369) ((param (mods false false false) (type b.Int 0 (at 370 373)) (named (110 ∷ []) 374 375)) ∷ []) None ((prints (name (named (110 ∷ []) 398 399) (at 398 399)) (at 379 401)) ∷ (returns_value (null (at 409 413)) (at 402 414)) ∷ []) (at 356 416))) ∷ (Method (method (mods true false false) (Some (type b.Int 1 (at 426 431))) false (named (99 ∷ []) 432 433) ((param (mods false false false) (type b.Int 0 (at 434 437)) (named (110 ∷ []) 438 439)) ∷ []) None ((prints (name (named (110 ∷ []) 462 463) (at 462 463)) (at 443 465)) ∷ (returns_value (new_array (type b.Int 1 (at 477 483)) (int (pos 2) (at 481 482)) (at 473 483)) (at 466 484)) ∷ []) (at 419 486))) ∷ (Method (method (mods true false false) (Some (type b.Int 0 (at 496 499))) false (named (111 ∷ 110 ∷ []) 500 502) ([]) None ((returns_value (call_on (call (named (97 ∷ []) 514 515) ((int (pos 1) (at 516 517)) ∷ []) (at 514 518)) (named (112 ∷ 108 ∷ 117 ∷ 115 ∷ []) 519 523) ((call (named (116 ∷ []) 524 525) ((int (pos 2) (at 526 527)) ∷ []) (at 524 528)) ∷ []) (at 514 529)) (at 507 530)) ∷ []) (at 489 532))) ∷ (Method (method (mods true false false) (Some (type b.Int 0 (at 542 545))) false (named (111 ∷ 110 ∷ 78 ∷ 117 ∷ 108 ∷ 108 ∷ []) 546 552) ([]) None ((returns_value (call_on (call (named (110 ∷ 111 ∷ 110 ∷ 101 ∷ []) 564 568) ((int (pos 1) (at 569 570)) ∷ []) (at 564 571)) (named (112 ∷ 108 ∷ 117 ∷ 115 ∷ []) 572 576) ((call (named (116 ∷ []) 577 578) ((int (pos 2) (at 579 580)) ∷ []) (at 577 581)) ∷ []) (at 564 582)) (at 557 583)) ∷ []) (at 535 585))) ∷ (Method (method (mods true false false) (Some (type b.Int 0 (at 595 598))) false (named (102 ∷ 105 ∷ 101 ∷ 108 ∷ 100 ∷ []) 599 604) ([]) None ((runs (assigned None (select (call (named (97 ∷ []) 609 610) ((int (pos 1) (at 611 612)) ∷ []) (at 609 613)) (named (120 ∷ []) 614 615) (at 609 615)) (call (named (116 ∷ []) 618 619) ((int (pos 2) (at 620 621)) ∷ []) (at 618 622)) (at 609 622)) (at 609 623)) ∷ (locals ((variable (mods false false false) (type (b.Named (named (65 ∷ []) 624 625)) 0 (at 624 625)) (named (98 ∷ []) 626 627) (Some (value (call (named (97 ∷ []) 630 631) ((int (pos 3) (at 632 633)) ∷ []) (at 630 634))))) ∷ []) (at 624 635)) ∷ (runs (assigned (Some arith.Add) (select (name (named (98 ∷ []) 636 637) (at 636 637)) (named (120 ∷ []) 638 639) (at 636 639)) (call (named (116 ∷ []) 643 644) ((int (pos 4) (at 645 646)) ∷ []) (at 643 647)) (at 636 647)) (at 636 648)) ∷ (returns_value (select (name (named (98 ∷ []) 656 657) (at 656 657)) (named (120 ∷ []) 658 659) (at 656 659)) (at 649 660)) ∷ []) (at 588 662))) ∷ (Method (method (mods true false false) (Some (type b.Int 0 (at 672 675))) false (named (102 ∷ 105 ∷ 101 ∷ 108 ∷ 100 ∷ 79 ∷ 102 ∷ 78 ∷ 117 ∷ 108 ∷ 108 ∷ []) 676 687) ([]) None ((runs (assigned None (select (call (named (110 ∷ 111 ∷ 110 ∷ 101 ∷ []) 692 696) ((int (pos 1) (at 697 698)) ∷ []) (at 692 699)) (named (120 ∷ []) 700 701) (at 692 701)) (call (named (116 ∷ []) 704 705) ((int (pos 2) (at 706 707)) ∷ []) (at 704 708)) (at 692 708)) (at 692 709)) ∷ (returns_value (int (pos 0) (at 717 718)) (at 710 719)) ∷ []) (at 665 721))) ∷ (Method (method (mods true false false) (Some (type b.Int 0 (at 731 734))) false (named (99 ∷ 101 ∷ 108 ∷ 108 ∷ []) 735 739) ([]) None ((runs (assigned None (element (call (named (99 ∷ []) 744 745) ((int (pos 1) (at 746 747)) ∷ []) (at 744 748)) (call (named (116 ∷ []) 749 750) ((int (pos 0) (at 751 752)) ∷ []) (at 749 753)) (at 744 754)) (call (named (116 ∷ []) 757 758) ((int (pos 2) (at 759 760)) ∷ []) (at 757 761)) (at 744 761)) (at 744 762)) ∷ (locals ((variable (mods false false false) (type b.Int 1 (at 763 768)) (named (100 ∷ []) 769 770) (Some (value (call (named (99 ∷ []) 773 774) ((int (pos 3) (at 775 776)) ∷ []) (at 773 777))))) ∷ []) (at 763 778)) ∷ (runs (assigned (Some arith.Add) (element (name (named (100 ∷ []) 779 780) (at 779 780)) (call (named (116 ∷ []) 781 782) ((int (pos 1) (at 783 784)) ∷ []) (at 781 785)) (at 779 786)) (call (named (116 ∷ []) 790 791) ((int (pos 5) (at 792 793)) ∷ []) (at 790 794)) (at 779 794)) (at 779 795)) ∷ (returns_value (element (name (named (100 ∷ []) 803 804) (at 803 804)) (int (pos 1) (at 805 806)) (at 803 807)) (at 796 808)) ∷ []) (at 724 810))) ∷ (Method (method (mods true false false) (Some (type b.Int 0 (at 820 823))) false (named (100 ∷ 101 ∷ 101 ∷ 112 ∷ []) 824 828) ([]) None ((returns_value (binary (op.Num arith.Add) (element (select (call (named (97 ∷ []) 840 841) ((int (pos 1) (at 842 843)) ∷ []) (at 840 844)) (named (99 ∷ []) 845 846) (at 840 846)) (call (named (116 ∷ []) 847 848) ((int (pos 2) (at 849 850)) ∷ []) (at 847 851)) (at 840 852)) (select (select (call (named (97 ∷ []) 855 856) ((int (pos 3) (at 857 858)) ∷ []) (at 855 859)) (named (99 ∷ []) 860 861) (at 855 861)) (named (108 ∷ 101 ∷ 110 ∷ 103 ∷ 116 ∷ 104 ∷ []) 862 868) (at 855 868)) (at 840 868)) (at 833 869)) ∷ []) (at 813 871))) ∷ (Method (method (mods true false false) (Some (type b.Int 0 (at 881 884))) false (named (115 ∷ 116 ∷ 97 ∷ 116 ∷ 105 ∷ 99 ∷ 95 ∷ []) 885 892) ([]) None ((returns_value (binary (op.Num arith.Add) (select (call (named (97 ∷ []) 904 905) ((int (pos 1) (at 906 907)) ∷ []) (at 904 908)) (named (75 ∷ []) 909 910) (at 904 910)) (select (name (named (65 ∷ []) 913 914) (at 913 914)) (named (75 ∷ []) 915 916) (at 913 916)) (at 904 916)) (at 897 917)) ∷ []) (at 874 919))) ∷ (Method (method (mods true false false) (Some (type b.Int 0 (at 929 932))) false (named (117 ∷ 110 ∷ 117 ∷ 115 ∷ 101 ∷ 100 ∷ []) 933 939) ([]) None ((runs (call_on (call (named (97 ∷ []) 944 945) ((int (pos 1) (at 946 947)) ∷ []) (at 944 948)) (named (115 ∷ 101 ∷ 116 ∷ []) 949 952) ((call (named (116 ∷ []) 953 954) ((int (pos 2) (at 955 956)) ∷ []) (at 953 957)) ∷ []) (at 944 958)) (at 944 959)) ∷ (runs (call (named (97 ∷ []) 960 961) ((int (pos 3) (at 962 963)) ∷ []) (at 960 964)) (at 960 965)) ∷ (returns_value (unary operator.Plus (call (named (116 ∷ []) 974 975) ((int (pos 4) (at 976 977)) ∷ []) (at 974 978)) (at 973 978)) (at 966 979)) ∷ []) (at 922 981))) ∷ (Method (method (mods true false false) (Some (type b.Int 0 (at 991 994))) false (named (115 ∷ 101 ∷ 116 ∷ 78 ∷ 117 ∷ 108 ∷ 108 ∷ []) 995 1002) ([]) None ((locals ((variable (mods false false false) (type (b.Named (named (65 ∷ []) 1007 1008)) 0 (at 1007 1008)) (named (98 ∷ []) 1009 1010) (Some (value (null (at 1013 1017))))) ∷ []) (at 1007 1018)) ∷ (runs (call_on (name (named (98 ∷ []) 1019 1020) (at 1019 1020)) (named (115 ∷ 101 ∷ 116 ∷ []) 1021 1024) ((call (named (116 ∷ []) 1025 1026) ((int (pos 1) (at 1027 1028)) ∷ []) (at 1025 1029)) ∷ []) (at 1019 1030)) (at 1019 1031)) ∷ (returns_value (int (pos 0) (at 1039 1040)) (at 1032 1041)) ∷ []) (at 984 1043))) ∷ []) (at 195 1045))
    ∷ [])

abbrev receivers_names : Names
receivers_names = (table (((at 105 108), (meaning.MethodNamed 0)) ∷ ((at 113 114), (meaning.Param 0)) ∷ ((at 138 139), (meaning.FieldNamed 0)) ∷ ((at 142 143), (meaning.Param 0)) ∷ ((at 165 166), (meaning.ClassNamed 0)) ∷ ((at 248 249), (meaning.Param 0)) ∷ ((at 259 260), (meaning.Param 0)) ∷ ((at 273 274), (meaning.ClassNamed 0)) ∷ ((at 305 306), (meaning.Param 0)) ∷ ((at 309 310), (meaning.ClassNamed 0)) ∷ ((at 319 320), (meaning.ClassNamed 1)) ∷ ((at 324 325), (meaning.Local 0)) ∷ ((at 326 327), (meaning.FieldNamed 1)) ∷ ((at 349 350), (meaning.Local 0)) ∷ ((at 363 364), (meaning.ClassNamed 0)) ∷ ((at 398 399), (meaning.Param 0)) ∷ ((at 462 463), (meaning.Param 0)) ∷ ((at 514 515), (meaning.MethodNamed 5)) ∷ ((at 519 523), (meaning.MethodNamed 1)) ∷ ((at 524 525), (meaning.MethodNamed 4)) ∷ ((at 564 568), (meaning.MethodNamed 6)) ∷ ((at 572 576), (meaning.MethodNamed 1)) ∷ ((at 577 578), (meaning.MethodNamed 4)) ∷ ((at 609 610), (meaning.MethodNamed 5)) ∷ ((at 614 615), (meaning.FieldNamed 0)) ∷ ((at 618 619), (meaning.MethodNamed 4)) ∷ ((at 624 625), (meaning.ClassNamed 0)) ∷ ((at 630 631), (meaning.MethodNamed 5)) ∷ ((at 636 637), (meaning.Local 0)) ∷ ((at 638 639), (meaning.FieldNamed 0)) ∷ ((at 643 644), (meaning.MethodNamed 4)) ∷ ((at 656 657), (meaning.Local 0)) ∷ ((at 658 659), (meaning.FieldNamed 0)) ∷ ((at 692 696), (meaning.MethodNamed 6)) ∷ ((at 700 701), (meaning.FieldNamed 0)) ∷ ((at 704 705), (meaning.MethodNamed 4)) ∷ ((at 744 745), (meaning.MethodNamed 7)) ∷ ((at 749 750), (meaning.MethodNamed 4)) ∷ ((at 757 758), (meaning.MethodNamed 4)) ∷ ((at 773 774), (meaning.MethodNamed 7)) ∷ ((at 779 780), (meaning.Local 0)) ∷ ((at 781 782), (meaning.MethodNamed 4)) ∷ ((at 790 791), (meaning.MethodNamed 4)) ∷ ((at 803 804), (meaning.Local 0)) ∷ ((at 840 841), (meaning.MethodNamed 5)) ∷ ((at 845 846), (meaning.FieldNamed 1)) ∷ ((at 847 848), (meaning.MethodNamed 4)) ∷ ((at 855 856), (meaning.MethodNamed 5)) ∷ ((at 860 861), (meaning.FieldNamed 1)) ∷ ((at 862 868), meaning.LengthOf) ∷ ((at 904 905), (meaning.MethodNamed 5)) ∷ ((at 909 910), (meaning.Constant (pos 4))) ∷ ((at 913 914), (meaning.ClassNamed 0)) ∷ ((at 915 916), (meaning.Constant (pos 4))) ∷ ((at 944 945), (meaning.MethodNamed 5)) ∷ ((at 949 952), (meaning.MethodNamed 2)) ∷ ((at 953 954), (meaning.MethodNamed 4)) ∷ ((at 960 961), (meaning.MethodNamed 5)) ∷ ((at 974 975), (meaning.MethodNamed 4)) ∷ ((at 1007 1008), (meaning.ClassNamed 0)) ∷ ((at 1019 1020), (meaning.Local 0)) ∷ ((at 1021 1024), (meaning.MethodNamed 2)) ∷ ((at 1025 1026), (meaning.MethodNamed 4)) ∷ []) (((at 33 34), (ty.Plain base.Int)) ∷ ((at 73 74), (ty.Plain base.Int)) ∷ ((at 105 110), (ty.Plain base.Int)) ∷ ((at 105 114), (ty.Plain base.Int)) ∷ ((at 113 114), (ty.Plain base.Int)) ∷ ((at 138 139), (ty.Plain base.Int)) ∷ ((at 138 143), (ty.Plain base.Int)) ∷ ((at 142 143), (ty.Plain base.Int)) ∷ ((at 188 189), (ty.Plain base.Int)) ∷ ((at 248 249), (ty.Plain base.Int)) ∷ ((at 259 260), (ty.Plain base.Int)) ∷ ((at 305 306), (ty.Plain base.Int)) ∷ ((at 315 322), (ty.Plain (base.Class 1))) ∷ ((at 324 325), (ty.Plain (base.Class 0))) ∷ ((at 324 327), (ty.Array base.Int 1 [])) ∷ ((at 324 340), (ty.Array base.Int 1 [])) ∷ ((at 330 340), (ty.Array base.Int 1 [])) ∷ ((at 338 339), (ty.Plain base.Int)) ∷ ((at 349 350), (ty.Plain (base.Class 0))) ∷ ((at 398 399), (ty.Plain base.Int)) ∷ ((at 409 413), (ty.Plain (base.Class 0))) ∷ ((at 462 463), (ty.Plain base.Int)) ∷ ((at 473 483), (ty.Array base.Int 1 [])) ∷ ((at 481 482), (ty.Plain base.Int)) ∷ ((at 514 518), (ty.Plain (base.Class 0))) ∷ ((at 514 529), (ty.Plain base.Int)) ∷ ((at 516 517), (ty.Plain base.Int)) ∷ ((at 524 528), (ty.Plain base.Int)) ∷ ((at 526 527), (ty.Plain base.Int)) ∷ ((at 564 571), (ty.Plain (base.Class 0))) ∷ ((at 564 582), (ty.Plain base.Int)) ∷ ((at 569 570), (ty.Plain base.Int)) ∷ ((at 577 581), (ty.Plain base.Int)) ∷ ((at 579 580), (ty.Plain base.Int)) ∷ ((at 609 613), (ty.Plain (base.Class 0))) ∷ ((at 609 615), (ty.Plain base.Int)) ∷ ((at 609 622), (ty.Plain base.Int)) ∷ ((at 611 612), (ty.Plain base.Int)) ∷ ((at 618 622), (ty.Plain base.Int)) ∷ ((at 620 621), (ty.Plain base.Int)) ∷ ((at 630 634), (ty.Plain (base.Class 0))) ∷ ((at 632 633), (ty.Plain base.Int)) ∷ ((at 636 637), (ty.Plain (base.Class 0))) ∷ ((at 636 639), (ty.Plain base.Int)) ∷ ((at 636 647), (ty.Plain base.Int)) ∷ ((at 643 647), (ty.Plain base.Int)) ∷ ((at 645 646), (ty.Plain base.Int)) ∷ ((at 656 657), (ty.Plain (base.Class 0))) ∷ ((at 656 659), (ty.Plain base.Int)) ∷ ((at 692 699), (ty.Plain (base.Class 0))) ∷ ((at 692 701), (ty.Plain base.Int)) ∷ ((at 692 708), (ty.Plain base.Int)) ∷ ((at 697 698), (ty.Plain base.Int)) ∷ ((at 704 708), (ty.Plain base.Int)) ∷ ((at 706 707), (ty.Plain base.Int)) ∷ ((at 717 718), (ty.Plain base.Int)) ∷ ((at 744 748), (ty.Array base.Int 1 [])) ∷ ((at 744 754), (ty.Plain base.Int)) ∷ ((at 744 761), (ty.Plain base.Int)) ∷ ((at 746 747), (ty.Plain base.Int)) ∷ ((at 749 753), (ty.Plain base.Int)) ∷ ((at 751 752), (ty.Plain base.Int)) ∷ ((at 757 761), (ty.Plain base.Int)) ∷ ((at 759 760), (ty.Plain base.Int)) ∷ ((at 773 777), (ty.Array base.Int 1 [])) ∷ ((at 775 776), (ty.Plain base.Int)) ∷ ((at 779 780), (ty.Array base.Int 1 [])) ∷ ((at 779 786), (ty.Plain base.Int)) ∷ ((at 779 794), (ty.Plain base.Int)) ∷ ((at 781 785), (ty.Plain base.Int)) ∷ ((at 783 784), (ty.Plain base.Int)) ∷ ((at 790 794), (ty.Plain base.Int)) ∷ ((at 792 793), (ty.Plain base.Int)) ∷ ((at 803 804), (ty.Array base.Int 1 [])) ∷ ((at 803 807), (ty.Plain base.Int)) ∷ ((at 805 806), (ty.Plain base.Int)) ∷ ((at 840 844), (ty.Plain (base.Class 0))) ∷ ((at 840 846), (ty.Array base.Int 1 [])) ∷ ((at 840 852), (ty.Plain base.Int)) ∷ ((at 840 868), (ty.Plain base.Int)) ∷ ((at 842 843), (ty.Plain base.Int)) ∷ ((at 847 851), (ty.Plain base.Int)) ∷ ((at 849 850), (ty.Plain base.Int)) ∷ ((at 855 859), (ty.Plain (base.Class 0))) ∷ ((at 855 861), (ty.Array base.Int 1 [])) ∷ ((at 855 868), (ty.Plain base.Int)) ∷ ((at 857 858), (ty.Plain base.Int)) ∷ ((at 904 908), (ty.Plain (base.Class 0))) ∷ ((at 904 910), (ty.Plain base.Int)) ∷ ((at 904 916), (ty.Plain base.Int)) ∷ ((at 906 907), (ty.Plain base.Int)) ∷ ((at 913 916), (ty.Plain base.Int)) ∷ ((at 944 948), (ty.Plain (base.Class 0))) ∷ ((at 944 958), ty.Void) ∷ ((at 946 947), (ty.Plain base.Int)) ∷ ((at 953 957), (ty.Plain base.Int)) ∷ ((at 955 956), (ty.Plain base.Int)) ∷ ((at 960 964), (ty.Plain (base.Class 0))) ∷ ((at 962 963), (ty.Plain base.Int)) ∷ ((at 973 978), (ty.Plain base.Int)) ∷ ((at 974 978), (ty.Plain base.Int)) ∷ ((at 976 977), (ty.Plain base.Int)) ∷ ((at 1013 1017), (ty.Plain (base.Class 0))) ∷ ((at 1019 1020), (ty.Plain (base.Class 0))) ∷ ((at 1019 1030), ty.Void) ∷ ((at 1025 1029), (ty.Plain base.Int)) ∷ ((at 1027 1028), (ty.Plain base.Int)) ∷ ((at 1039 1040), (ty.Plain base.Int)) ∷ []) (((at 29 30), (ty.Plain base.Int)) ∷ ((at 40 41), (ty.Plain base.Int)) ∷ ((at 49 50), (ty.Array base.Int 1 [])) ∷ ((at 58 61), (ty.Plain base.Int)) ∷ ((at 84 88), (ty.Plain base.Int)) ∷ ((at 93 94), (ty.Plain base.Int)) ∷ ((at 125 128), ty.Void) ∷ ((at 133 134), (ty.Plain base.Int)) ∷ ((at 173 176), (ty.Plain base.Int)) ∷ ((at 218 219), (ty.Plain base.Int)) ∷ ((at 224 225), (ty.Plain base.Int)) ∷ ((at 275 276), (ty.Plain (base.Class 0))) ∷ ((at 281 282), (ty.Plain base.Int)) ∷ ((at 311 312), (ty.Plain (base.Class 0))) ∷ ((at 365 369), (ty.Plain (base.Class 0))) ∷ ((at 374 375), (ty.Plain base.Int)) ∷ ((at 432 433), (ty.Array base.Int 1 [])) ∷ ((at 438 439), (ty.Plain base.Int)) ∷ ((at 500 502), (ty.Plain base.Int)) ∷ ((at 546 552), (ty.Plain base.Int)) ∷ ((at 599 604), (ty.Plain base.Int)) ∷ ((at 626 627), (ty.Plain (base.Class 0))) ∷ ((at 676 687), (ty.Plain base.Int)) ∷ ((at 735 739), (ty.Plain base.Int)) ∷ ((at 769 770), (ty.Array base.Int 1 [])) ∷ ((at 824 828), (ty.Plain base.Int)) ∷ ((at 885 892), (ty.Plain base.Int)) ∷ ((at 933 939), (ty.Plain base.Int)) ∷ ((at 995 1002), (ty.Plain base.Int)) ∷ ((at 1009 1010), (ty.Plain (base.Class 0))) ∷ []))

abbrev receivers_told : List Row
receivers_told =
    -- M.on, at most 4
    row 8 ([]) 4 (Some (Ended (value_of.Int (pos 4)))) ((Printed (Num (pos 1))) ∷ (Printed (Num (pos 2))) ∷ []) false
    -- M.onNull, at most 4
    ∷ row 9 ([]) 4 (Some (NullUsed 572)) ((Printed (Num (pos 1))) ∷ (Printed (Num (pos 2))) ∷ []) false
    -- M.field, at most 4
    ∷ row 10 ([]) 4 (Some (Ended (value_of.Int (pos 4)))) ((Printed (Num (pos 1))) ∷ (Printed (Num (pos 2))) ∷ (Printed (Num (pos 3))) ∷ (Printed (Num (pos 4))) ∷ []) false
    -- M.fieldOfNull, at most 4
    ∷ row 11 ([]) 4 (Some (NullUsed 692)) ((Printed (Num (pos 1))) ∷ (Printed (Num (pos 2))) ∷ []) false
    -- M.cell, at most 4
    ∷ row 12 ([]) 4 (Some (Ended (value_of.Int (pos 5)))) ((Printed (Num (pos 1))) ∷ (Printed (Num (pos 0))) ∷ (Printed (Num (pos 2))) ∷ (access (pos 0) 2 749) ∷ (Printed (Num (pos 3))) ∷ (Printed (Num (pos 1))) ∷ (access (pos 1) 2 781) ∷ (Printed (Num (pos 5))) ∷ (access (pos 1) 2 781) ∷ (access (pos 1) 2 805) ∷ []) false
    -- M.deep, at most 4
    ∷ row 13 ([]) 4 (Some (Ended (value_of.Int (pos 3)))) ((Printed (Num (pos 1))) ∷ (Printed (Num (pos 2))) ∷ (access (pos 2) 3 847) ∷ (Printed (Num (pos 3))) ∷ []) false
    -- M.static_, at most 4
    ∷ row 14 ([]) 4 (Some (Ended (value_of.Int (pos 8)))) ((Printed (Num (pos 1))) ∷ []) false
    -- M.unused, at most 4
    ∷ row 15 ([]) 4 (Some (Ended (value_of.Int (pos 4)))) ((Printed (Num (pos 1))) ∷ (Printed (Num (pos 2))) ∷ (Printed (Num (pos 3))) ∷ (Printed (Num (pos 4))) ∷ []) false
    -- M.setNull, at most 4
    ∷ row 16 ([]) 4 (Some (NullUsed 1021)) ((Printed (Num (pos 1))) ∷ []) false
    ∷ []

receivers_rows : Rows receivers_names receivers_classes receivers_told
unfolding int_wrap
receivers_rows = by_means receivers_names receivers_classes receivers_told refl
