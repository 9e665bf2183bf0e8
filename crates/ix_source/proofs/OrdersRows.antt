-- The order in which operands are evaluated (JLS 15.7), and conditions that are not asked (JLS 15.23, 15.24).
use Rattle.std.proofs.Common.{pos, negsuc, true, false, List, [], ◌∷◌, Some, None, refl}
use Rattle.std.specs.Int.{int_wrap}
use Rattle.ix_num.specs.declared.arith.Arith.TheVariants as arith
use Rattle.ix_core.specs.declared.claim.Base.TheVariants as base
use Rattle.ix_core.specs.declared.claim.Type_.TheVariants as ty
use Rattle.ix_core.specs.declared.outcome.Value.TheVariants as value_of
use Rattle.ix_core.specs.Heap.{Num}
use Rattle.ix_core.specs.Machine.{Ended, Outside, ZeroDivisor}
use Rattle.ix_core.specs.Safe.{Whole, Flag, Ints}
use Rattle.ix_core.specs.Traces.{Printed}
use Rattle.ix_tree.specs.declared.annot.BaseTree.TheVariants as b
use Rattle.ix_tree.specs.declared.expr.BinaryOp.TheVariants as op
use Rattle.ix_tree.specs.declared.expr.UnaryOp.TheVariants as operator
use Rattle.ix_meaning.specs.declared.note.Meaning.TheVariants as meaning
use Rattle.ix_meaning.specs.Resolved.{Names}
use Rattle.ix_source.specs.Runs.{access}
use Rattle.ix_source.proofs.Trees.{at, named, mods, type, int, bool, name, element, call, unary, binary, assigned, value, variable, locals, if_only, returns_value, prints, runs, method, param, Method, ClassNode, class, table, Row, row, Rows, by_means}

-- class A {
--   static int t(int n) { System.out.println(n); return n; }
--   static boolean b(boolean v, int n) { System.out.println(n); return v; }
--   static int order(int[] a) { int i = 0; a[i] = i = 2; return a[0]; }
--   static int terms() { return t(1) - t(2) * t(3); }
--   static int parts(int[] a) { a[t(0)] = t(5); return a[t(0)] + t(7); }
--   static int and(boolean x, boolean y) { if (b(x, 1) && b(y, 2)) return 1; return 0; }
--   static int or(boolean x, boolean y) { if (b(x, 1) || b(y, 2)) return 1; return 0; }
--   static boolean value(boolean x, boolean y) { boolean z = b(x, 1) || !b(y, 2) && b(true, 3); return z; }
--   static int zero(int x) { return t(1) / x + t(2); }
--   static int three(int x, int y, int z) { return x - y - z; }
--   static int args() { return three(t(1), t(2), t(3)); }
--   static int itself(int x) { return x - (x = 1); } }
abbrev orders_classes : List ClassNode
orders_classes = (
    (class (named (65 ∷ []) 6 7) None ((Method (method (mods true false false) (Some (type b.Int 0 (at 19 22))) false (named (116 ∷ []) 23 24) ((param (mods false false false) (type b.Int 0 (at 25 28)) (named (110 ∷ []) 29 30)) ∷ []) None ((prints (name (named (110 ∷ []) 53 54) (at 53 54)) (at 34 56)) ∷ (returns_value (name (named (110 ∷ []) 64 65) (at 64 65)) (at 57 66)) ∷ []) (at 12 68))) ∷ (Method (method (mods true false false) (Some (type b.Boolean 0 (at 78 85))) false (named (98 ∷ []) 86 87) ((param (mods false false false) (type b.Boolean 0 (at 88 95)) (named (118 ∷ []) 96 97)) ∷ (param (mods false false false) (type b.Int 0 (at 99 102)) (named (110 ∷ []) 103 104)) ∷ []) None ((prints (name (named (110 ∷ []) 127 128) (at 127 128)) (at 108 130)) ∷ (returns_value (name (named (118 ∷ []) 138 139) (at 138 139)) (at 131 140)) ∷ []) (at 71 142))) ∷ (Method (method (mods true false false) (Some (type b.Int 0 (at 152 155))) false (named (111 ∷ 114 ∷ 100 ∷ 101 ∷ 114 ∷ []) 156 161) ((param (mods false false false) (type b.Int 1 (at 162 167)) (named (97 ∷ []) 168 169)) ∷ []) None ((locals ((variable (mods false false false) (type b.Int 0 (at 173 176)) (named (105 ∷ []) 177 178) (Some (value (int (pos 0) (at 181 182))))) ∷ []) (at 173 183)) ∷ (runs (assigned None (element (name (named (97 ∷ []) 184 185) (at 184 185)) (name (named (105 ∷ []) 186 187) (at 186 187)) (at 184 188)) (assigned None (name (named (105 ∷ []) 191 192) (at 191 192)) (int (pos 2) (at 195 196)) (at 191 196)) (at 184 196)) (at 184 197)) ∷ (returns_value (element (name (named (97 ∷ []) 205 206) (at 205 206)) (int (pos 0) (at 207 208)) (at 205 209)) (at 198 210)) ∷ []) (at 145 212))) ∷ (Method (method (mods true false false) (Some (type b.Int 0 (at 222 225))) false (named (116 ∷ 101 ∷ 114 ∷ 109 ∷ 115 ∷ []) 226 231) ([]) None ((returns_value (binary (op.Num arith.Sub) (call (named (116 ∷ []) 243 244) ((int (pos 1) (at 245 246)) ∷ []) (at 243 247)) (binary (op.Num arith.Mul) (call (named (116 ∷ []) 250 251) ((int (pos 2) (at 252 253)) ∷ []) (at 250 254)) (call (named (116 ∷ []) 257 258) ((int (pos 3) (at 259 260)) ∷ []) (at 257 261)) (at 250 261)) (at 243 261)) (at 236 262)) ∷ []) (at 215 264))) ∷ (Method (method (mods true false false) (Some (type b.Int 0 (at 274 277))) false (named (112 ∷ 97 ∷ 114 ∷ 116 ∷ 115 ∷ []) 278 283) ((param (mods false false false) (type b.Int 1 (at 284 289)) (named (97 ∷ []) 290 291)) ∷ []) None ((runs (assigned None (element (name (named (97 ∷ []) 295 296) (at 295 296)) (call (named (116 ∷ []) 297 298) ((int (pos 0) (at 299 300)) ∷ []) (at 297 301)) (at 295 302)) (call (named (116 ∷ []) 305 306) ((int (pos 5) (at 307 308)) ∷ []) (at 305 309)) (at 295 309)) (at 295 310)) ∷ (returns_value (binary (op.Num arith.Add) (element (name (named (97 ∷ []) 318 319) (at 318 319)) (call (named (116 ∷ []) 320 321) ((int (pos 0) (at 322 323)) ∷ []) (at 320 324)) (at 318 325)) (call (named (116 ∷ []) 328 329) ((int (pos 7) (at 330 331)) ∷ []) (at 328 332)) (at 318 332)) (at 311 333)) ∷ []) (at 267 335))) ∷ (Method (method (mods true false false) (Some (type b.Int 0 (at 345 348))) false (named (97 ∷ 110 ∷ 100 ∷ []) 349 352) ((param (mods false false false) (type b.Boolean 0 (at 353 360)) (named (120 ∷ []) 361 362)) ∷ (param (mods false false false) (type b.Boolean 0 (at 364 371)) (named (121 ∷ []) 372 373)) ∷ []) None ((if_only (binary op.AndAlso (call (named (98 ∷ []) 381 382) ((name (named (120 ∷ []) 383 384) (at 383 384)) ∷ (int (pos 1) (at 386 387)) ∷ []) (at 381 388)) (call (named (98 ∷ []) 392 393) ((name (named (121 ∷ []) 394 395) (at 394 395)) ∷ (int (pos 2) (at 397 398)) ∷ []) (at 392 399)) (at 381 399)) (returns_value (int (pos 1) (at 408 409)) (at 401 410)) (at 377 410)) ∷ (returns_value (int (pos 0) (at 418 419)) (at 411 420)) ∷ []) (at 338 422))) ∷ (Method (method (mods true false false) (Some (type b.Int 0 (at 432 435))) false (named (111 ∷ 114 ∷ []) 436 438) ((param (mods false false false) (type b.Boolean 0 (at 439 446)) (named (120 ∷ []) 447 448)) ∷ (param (mods false false false) (type b.Boolean 0 (at 450 457)) (named (121 ∷ []) 458 459)) ∷ []) None ((if_only (binary op.OrElse (call (named (98 ∷ []) 467 468) ((name (named (120 ∷ []) 469 470) (at 469 470)) ∷ (int (pos 1) (at 472 473)) ∷ []) (at 467 474)) (call (named (98 ∷ []) 478 479) ((name (named (121 ∷ []) 480 481) (at 480 481)) ∷ (int (pos 2) (at 483 484)) ∷ []) (at 478 485)) (at 467 485)) (returns_value (int (pos 1) (at 494 495)) (at 487 496)) (at 463 496)) ∷ (returns_value (int (pos 0) (at 504 505)) (at 497 506)) ∷ []) (at 425 508))) ∷ (Method (method (mods true false false) (Some (type b.Boolean 0 (at 518 525))) false (named (118 ∷ 97 ∷ 108 ∷ 117 ∷ 101 ∷ []) 526 531) ((param (mods false false false) (type b.Boolean 0 (at 532 539)) (named (120 ∷ []) 540 541)) ∷ (param (mods false false false) (type b.Boolean 0 (at 543 550)) (named (121 ∷ []) 551 552)) ∷ []) None ((locals ((variable (mods false false false) (type b.Boolean 0 (at 556 563)) (named (122 ∷ []) 564 565) (Some (value (binary op.OrElse (call (named (98 ∷ []) 568 569) ((name (named (120 ∷ []) 570 571) (at 570 571)) ∷ (int (pos 1) (at 573 574)) ∷ []) (at 568 575)) (binary op.AndAlso (unary operator.Not (call (named (98 ∷ []) 580 581) ((name (named (121 ∷ []) 582 583) (at 582 583)) ∷ (int (pos 2) (at 585 586)) ∷ []) (at 580 587)) (at 579 587)) (call (named (98 ∷ []) 591 592) ((bool true (at 593 597)) ∷ (int (pos 3) (at 599 600)) ∷ []) (at 591 601)) (at 579 601)) (at 568 601))))) ∷ []) (at 556 602)) ∷ (returns_value (name (named (122 ∷ []) 610 611) (at 610 611)) (at 603 612)) ∷ []) (at 511 614))) ∷ (Method (method (mods true false false) (Some (type b.Int 0 (at 624 627))) false (named (122 ∷ 101 ∷ 114 ∷ 111 ∷ []) 628 632) ((param (mods false false false) (type b.Int 0 (at 633 636)) (named (120 ∷ []) 637 638)) ∷ []) None ((returns_value (binary (op.Num arith.Add) (binary (op.Num arith.Div) (call (named (116 ∷ []) 649 650) ((int (pos 1) (at 651 652)) ∷ []) (at 649 653)) (name (named (120 ∷ []) 656 657) (at 656 657)) (at 649 657)) (call (named (116 ∷ []) 660 661) ((int (pos 2) (at 662 663)) ∷ []) (at 660 664)) (at 649 664)) (at 642 665)) ∷ []) (at 617 667))) ∷ (Method (method (mods true false false) (Some (type b.Int 0 (at 677 680))) false (named (116 ∷ 104 ∷ 114 ∷ 101 ∷ 101 ∷ []) 681 686) ((param (mods false false false) (type b.Int 0 (at 687 690)) (named (120 ∷ []) 691 692)) ∷ (param (mods false false false) (type b.Int 0 (at 694 697)) (named (121 ∷ []) 698 699)) ∷ (param (mods false false false) (type b.Int 0 (at 701 704)) (named (122 ∷ []) 705 706)) ∷ []) None ((returns_value (binary (op.Num arith.Sub) (binary (op.Num arith.Sub) (name (named (120 ∷ []) 717 718) (at 717 718)) (name (named (121 ∷ []) 721 722) (at 721 722)) (at 717 722)) (name (named (122 ∷ []) 725 726) (at 725 726)) (at 717 726)) (at 710 727)) ∷ []) (at 670 729))) ∷ (Method (method (mods true false false) (Some (type b.Int 0 (at 739 742))) false (named (97 ∷ 114 ∷ 103 ∷ 115 ∷ []) 743 747) ([]) None ((returns_value (call (named (116 ∷ 104 ∷ 114 ∷ 101 ∷ 101 ∷ []) 759 764) ((call (named (116 ∷ []) 765 766) ((int (pos 1) (at 767 768)) ∷ []) (at 765 769)) ∷ (call (named (116 ∷ []) 771 772) ((int (pos 2) (at 773 774)) ∷ []) (at 771 775)) ∷ (call (named (116 ∷ []) 777 778) ((int (pos 3) (at 779 780)) ∷ []) (at 777 781)) ∷ []) (at 759 782)) (at 752 783)) ∷ []) (at 732 785))) ∷ (Method (method (mods true false false) (Some (type b.Int 0 (at 795 798))) false (named (105 ∷ 116 ∷ 115 ∷ 101 ∷ 108 ∷ 102 ∷ []) 799 805) ((param (mods false false false) (type b.Int 0 (at 806 809)) (named (120 ∷ []) 810 811)) ∷ []) None ((returns_value (binary (op.Num arith.Sub) (name (named (120 ∷ []) 822 823) (at 822 823)) (assigned None (name (named (120 ∷ []) 827 828) (at 827 828)) (int (pos 1) (at 831 832)) (at 827 832)) (at 822 833)) (at 815 834)) ∷ []) (at 788 836))) ∷ []) (at 0 838))
    ∷ [])

abbrev orders_names : Names
orders_names = (table (((at 53 54), (meaning.Param 0)) ∷ ((at 64 65), (meaning.Param 0)) ∷ ((at 127 128), (meaning.Param 1)) ∷ ((at 138 139), (meaning.Param 0)) ∷ ((at 184 185), (meaning.Param 0)) ∷ ((at 186 187), (meaning.Local 0)) ∷ ((at 191 192), (meaning.Local 0)) ∷ ((at 205 206), (meaning.Param 0)) ∷ ((at 243 244), (meaning.MethodNamed 0)) ∷ ((at 250 251), (meaning.MethodNamed 0)) ∷ ((at 257 258), (meaning.MethodNamed 0)) ∷ ((at 295 296), (meaning.Param 0)) ∷ ((at 297 298), (meaning.MethodNamed 0)) ∷ ((at 305 306), (meaning.MethodNamed 0)) ∷ ((at 318 319), (meaning.Param 0)) ∷ ((at 320 321), (meaning.MethodNamed 0)) ∷ ((at 328 329), (meaning.MethodNamed 0)) ∷ ((at 381 382), (meaning.MethodNamed 1)) ∷ ((at 383 384), (meaning.Param 0)) ∷ ((at 392 393), (meaning.MethodNamed 1)) ∷ ((at 394 395), (meaning.Param 1)) ∷ ((at 467 468), (meaning.MethodNamed 1)) ∷ ((at 469 470), (meaning.Param 0)) ∷ ((at 478 479), (meaning.MethodNamed 1)) ∷ ((at 480 481), (meaning.Param 1)) ∷ ((at 568 569), (meaning.MethodNamed 1)) ∷ ((at 570 571), (meaning.Param 0)) ∷ ((at 580 581), (meaning.MethodNamed 1)) ∷ ((at 582 583), (meaning.Param 1)) ∷ ((at 591 592), (meaning.MethodNamed 1)) ∷ ((at 610 611), (meaning.Local 0)) ∷ ((at 649 650), (meaning.MethodNamed 0)) ∷ ((at 656 657), (meaning.Param 0)) ∷ ((at 660 661), (meaning.MethodNamed 0)) ∷ ((at 717 718), (meaning.Param 0)) ∷ ((at 721 722), (meaning.Param 1)) ∷ ((at 725 726), (meaning.Param 2)) ∷ ((at 759 764), (meaning.MethodNamed 9)) ∷ ((at 765 766), (meaning.MethodNamed 0)) ∷ ((at 771 772), (meaning.MethodNamed 0)) ∷ ((at 777 778), (meaning.MethodNamed 0)) ∷ ((at 822 823), (meaning.Param 0)) ∷ ((at 827 828), (meaning.Param 0)) ∷ []) (((at 53 54), (ty.Plain base.Int)) ∷ ((at 64 65), (ty.Plain base.Int)) ∷ ((at 127 128), (ty.Plain base.Int)) ∷ ((at 138 139), (ty.Plain base.Bool)) ∷ ((at 181 182), (ty.Plain base.Int)) ∷ ((at 184 185), (ty.Array base.Int 1 [])) ∷ ((at 184 188), (ty.Plain base.Int)) ∷ ((at 184 196), (ty.Plain base.Int)) ∷ ((at 186 187), (ty.Plain base.Int)) ∷ ((at 191 192), (ty.Plain base.Int)) ∷ ((at 191 196), (ty.Plain base.Int)) ∷ ((at 195 196), (ty.Plain base.Int)) ∷ ((at 205 206), (ty.Array base.Int 1 [])) ∷ ((at 205 209), (ty.Plain base.Int)) ∷ ((at 207 208), (ty.Plain base.Int)) ∷ ((at 243 247), (ty.Plain base.Int)) ∷ ((at 243 261), (ty.Plain base.Int)) ∷ ((at 245 246), (ty.Plain base.Int)) ∷ ((at 250 254), (ty.Plain base.Int)) ∷ ((at 250 261), (ty.Plain base.Int)) ∷ ((at 252 253), (ty.Plain base.Int)) ∷ ((at 257 261), (ty.Plain base.Int)) ∷ ((at 259 260), (ty.Plain base.Int)) ∷ ((at 295 296), (ty.Array base.Int 1 [])) ∷ ((at 295 302), (ty.Plain base.Int)) ∷ ((at 295 309), (ty.Plain base.Int)) ∷ ((at 297 301), (ty.Plain base.Int)) ∷ ((at 299 300), (ty.Plain base.Int)) ∷ ((at 305 309), (ty.Plain base.Int)) ∷ ((at 307 308), (ty.Plain base.Int)) ∷ ((at 318 319), (ty.Array base.Int 1 [])) ∷ ((at 318 325), (ty.Plain base.Int)) ∷ ((at 318 332), (ty.Plain base.Int)) ∷ ((at 320 324), (ty.Plain base.Int)) ∷ ((at 322 323), (ty.Plain base.Int)) ∷ ((at 328 332), (ty.Plain base.Int)) ∷ ((at 330 331), (ty.Plain base.Int)) ∷ ((at 381 388), (ty.Plain base.Bool)) ∷ ((at 381 399), (ty.Plain base.Bool)) ∷ ((at 383 384), (ty.Plain base.Bool)) ∷ ((at 386 387), (ty.Plain base.Int)) ∷ ((at 392 399), (ty.Plain base.Bool)) ∷ ((at 394 395), (ty.Plain base.Bool)) ∷ ((at 397 398), (ty.Plain base.Int)) ∷ ((at 408 409), (ty.Plain base.Int)) ∷ ((at 418 419), (ty.Plain base.Int)) ∷ ((at 467 474), (ty.Plain base.Bool)) ∷ ((at 467 485), (ty.Plain base.Bool)) ∷ ((at 469 470), (ty.Plain base.Bool)) ∷ ((at 472 473), (ty.Plain base.Int)) ∷ ((at 478 485), (ty.Plain base.Bool)) ∷ ((at 480 481), (ty.Plain base.Bool)) ∷ ((at 483 484), (ty.Plain base.Int)) ∷ ((at 494 495), (ty.Plain base.Int)) ∷ ((at 504 505), (ty.Plain base.Int)) ∷ ((at 568 575), (ty.Plain base.Bool)) ∷ ((at 568 601), (ty.Plain base.Bool)) ∷ ((at 570 571), (ty.Plain base.Bool)) ∷ ((at 573 574), (ty.Plain base.Int)) ∷ ((at 579 587), (ty.Plain base.Bool)) ∷ ((at 579 601), (ty.Plain base.Bool)) ∷ ((at 580 587), (ty.Plain base.Bool)) ∷ ((at 582 583), (ty.Plain base.Bool)) ∷ ((at 585 586), (ty.Plain base.Int)) ∷ ((at 591 601), (ty.Plain base.Bool)) ∷ ((at 593 597), (ty.Plain base.Bool)) ∷ ((at 599 600), (ty.Plain base.Int)) ∷ ((at 610 611), (ty.Plain base.Bool)) ∷ ((at 649 653), (ty.Plain base.Int)) ∷ ((at 649 657), (ty.Plain base.Int)) ∷ ((at 649 664), (ty.Plain base.Int)) ∷ ((at 651 652), (ty.Plain base.Int)) ∷ ((at 656 657), (ty.Plain base.Int)) ∷ ((at 660 664), (ty.Plain base.Int)) ∷ ((at 662 663), (ty.Plain base.Int)) ∷ ((at 717 718), (ty.Plain base.Int)) ∷ ((at 717 722), (ty.Plain base.Int)) ∷ ((at 717 726), (ty.Plain base.Int)) ∷ ((at 721 722), (ty.Plain base.Int)) ∷ ((at 725 726), (ty.Plain base.Int)) ∷ ((at 759 782), (ty.Plain base.Int)) ∷ ((at 765 769), (ty.Plain base.Int)) ∷ ((at 767 768), (ty.Plain base.Int)) ∷ ((at 771 775), (ty.Plain base.Int)) ∷ ((at 773 774), (ty.Plain base.Int)) ∷ ((at 777 781), (ty.Plain base.Int)) ∷ ((at 779 780), (ty.Plain base.Int)) ∷ ((at 822 823), (ty.Plain base.Int)) ∷ ((at 822 833), (ty.Plain base.Int)) ∷ ((at 827 828), (ty.Plain base.Int)) ∷ ((at 827 832), (ty.Plain base.Int)) ∷ ((at 831 832), (ty.Plain base.Int)) ∷ []) (((at 23 24), (ty.Plain base.Int)) ∷ ((at 29 30), (ty.Plain base.Int)) ∷ ((at 86 87), (ty.Plain base.Bool)) ∷ ((at 96 97), (ty.Plain base.Bool)) ∷ ((at 103 104), (ty.Plain base.Int)) ∷ ((at 156 161), (ty.Plain base.Int)) ∷ ((at 168 169), (ty.Array base.Int 1 [])) ∷ ((at 177 178), (ty.Plain base.Int)) ∷ ((at 226 231), (ty.Plain base.Int)) ∷ ((at 278 283), (ty.Plain base.Int)) ∷ ((at 290 291), (ty.Array base.Int 1 [])) ∷ ((at 349 352), (ty.Plain base.Int)) ∷ ((at 361 362), (ty.Plain base.Bool)) ∷ ((at 372 373), (ty.Plain base.Bool)) ∷ ((at 436 438), (ty.Plain base.Int)) ∷ ((at 447 448), (ty.Plain base.Bool)) ∷ ((at 458 459), (ty.Plain base.Bool)) ∷ ((at 526 531), (ty.Plain base.Bool)) ∷ ((at 540 541), (ty.Plain base.Bool)) ∷ ((at 551 552), (ty.Plain base.Bool)) ∷ ((at 564 565), (ty.Plain base.Bool)) ∷ ((at 628 632), (ty.Plain base.Int)) ∷ ((at 637 638), (ty.Plain base.Int)) ∷ ((at 681 686), (ty.Plain base.Int)) ∷ ((at 691 692), (ty.Plain base.Int)) ∷ ((at 698 699), (ty.Plain base.Int)) ∷ ((at 705 706), (ty.Plain base.Int)) ∷ ((at 743 747), (ty.Plain base.Int)) ∷ ((at 799 805), (ty.Plain base.Int)) ∷ ((at 810 811), (ty.Plain base.Int)) ∷ []))

abbrev orders_told : List Row
orders_told =
    -- A.order [7], at most 1
    row 2 ((Ints ((pos 7) ∷ [])) ∷ []) 1 (Some (Ended (value_of.Int (pos 2)))) ((access (pos 0) 1 186) ∷ (access (pos 0) 1 207) ∷ []) false
    -- A.terms, at most 2
    ∷ row 3 ([]) 2 (Some (Ended (value_of.Int (negsuc 4)))) ((Printed (Num (pos 1))) ∷ (Printed (Num (pos 2))) ∷ (Printed (Num (pos 3))) ∷ []) false
    -- A.parts [4], at most 2
    ∷ row 4 ((Ints ((pos 4) ∷ [])) ∷ []) 2 (Some (Ended (value_of.Int (pos 12)))) ((Printed (Num (pos 0))) ∷ (Printed (Num (pos 5))) ∷ (access (pos 0) 1 297) ∷ (Printed (Num (pos 0))) ∷ (access (pos 0) 1 320) ∷ (Printed (Num (pos 7))) ∷ []) false
    -- A.parts [], at most 2
    ∷ row 4 ((Ints ([])) ∷ []) 2 (Some (Outside (pos 0) (pos 0) 297)) ((Printed (Num (pos 0))) ∷ (Printed (Num (pos 5))) ∷ (access (pos 0) 0 297) ∷ []) false
    -- A.and true false, at most 2
    ∷ row 5 ((Flag true) ∷ (Flag false) ∷ []) 2 (Some (Ended (value_of.Int (pos 0)))) ((Printed (Num (pos 1))) ∷ (Printed (Num (pos 2))) ∷ []) false
    -- A.and false true, at most 2
    ∷ row 5 ((Flag false) ∷ (Flag true) ∷ []) 2 (Some (Ended (value_of.Int (pos 0)))) ((Printed (Num (pos 1))) ∷ []) false
    -- A.or true false, at most 2
    ∷ row 6 ((Flag true) ∷ (Flag false) ∷ []) 2 (Some (Ended (value_of.Int (pos 1)))) ((Printed (Num (pos 1))) ∷ []) false
    -- A.or false false, at most 2
    ∷ row 6 ((Flag false) ∷ (Flag false) ∷ []) 2 (Some (Ended (value_of.Int (pos 0)))) ((Printed (Num (pos 1))) ∷ (Printed (Num (pos 2))) ∷ []) false
    -- A.value false true, at most 2
    ∷ row 7 ((Flag false) ∷ (Flag true) ∷ []) 2 (Some (Ended (value_of.Bool false))) ((Printed (Num (pos 1))) ∷ (Printed (Num (pos 2))) ∷ []) false
    -- A.value false false, at most 2
    ∷ row 7 ((Flag false) ∷ (Flag false) ∷ []) 2 (Some (Ended (value_of.Bool true))) ((Printed (Num (pos 1))) ∷ (Printed (Num (pos 2))) ∷ (Printed (Num (pos 3))) ∷ []) false
    -- A.zero 0, at most 2
    ∷ row 8 ((Whole (pos 0)) ∷ []) 2 (Some (ZeroDivisor 649)) ((Printed (Num (pos 1))) ∷ []) false
    -- A.args, at most 2
    ∷ row 10 ([]) 2 (Some (Ended (value_of.Int (negsuc 3)))) ((Printed (Num (pos 1))) ∷ (Printed (Num (pos 2))) ∷ (Printed (Num (pos 3))) ∷ []) false
    -- A.itself 5, at most 1
    ∷ row 11 ((Whole (pos 5)) ∷ []) 1 (Some (Ended (value_of.Int (pos 4)))) ([]) false
    ∷ []

orders_rows : Rows orders_names orders_classes orders_told
unfolding int_wrap
orders_rows = by_means orders_names orders_classes orders_told refl
