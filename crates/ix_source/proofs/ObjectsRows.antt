-- New objects (JLS 12.5, 15.9): defaults, the parent's constructor, initialisers, the body; constants and `this`.
use Rattle.std.proofs.Common.{pos, true, false, List, [], ◌∷◌, Some, None, refl}
use Rattle.std.specs.Int.{int_wrap}
use Rattle.ix_num.specs.declared.arith.Arith.TheVariants as arith
use Rattle.ix_num.specs.declared.rel.Rel.TheVariants as rel
use Rattle.ix_core.specs.declared.claim.Base.TheVariants as base
use Rattle.ix_core.specs.declared.claim.Type_.TheVariants as ty
use Rattle.ix_core.specs.declared.outcome.Value.TheVariants as value_of
use Rattle.ix_core.specs.Heap.{Num}
use Rattle.ix_core.specs.Machine.{Ended}
use Rattle.ix_core.specs.Safe.{Whole}
use Rattle.ix_core.specs.Traces.{Printed}
use Rattle.ix_tree.specs.declared.annot.BaseTree.TheVariants as b
use Rattle.ix_tree.specs.declared.expr.BinaryOp.TheVariants as op
use Rattle.ix_meaning.specs.declared.note.Meaning.TheVariants as meaning
use Rattle.ix_meaning.specs.Resolved.{Names}
use Rattle.ix_source.specs.Runs.{access}
use Rattle.ix_source.proofs.Trees.{at, named, mods, type, int, null, this, name, select, element, call, call_on, new, binary, assigned, value, items, variable, locals, if_only, returns_value, prints, runs, method, param, Field, Method, ClassNode, class, table, Row, row, Rows, by_means}

-- class P { static final int K = 6; int a = 1; boolean b; P(int n) { System.out.println(a); a = n; show(); } void show() { System.out.println(a); } }
-- class Q extends P { int c = 4; P next; int[] d = {K, 2}; Q(int n) { super(n + 1); System.out.println(a); System.out.println(c); this.c = n; } void show() { System.out.println(c); } Q same() { return this; } }
-- class R { int v = 3; }
-- class M {
--   static int make(int n) { Q q = new Q(n); if (q.b) return 0; if (q.next == null) return q.a * 10 + q.c; return 1; }
--   static Q made() { return new Q(7); }
--   static int constant() { Q q = null; return P.K + q.K; }
--   static int plain() { R r = new R(); Q q = new Q(1); return r.v + q.same().c + q.d[0] + q.d.length; }
--   static int cut() { return new Q(1).a; } }
abbrev objects_classes : List ClassNode
objects_classes = (
    (class (named (80 ∷ []) 6 7) None ((Field (variable (mods true true false) (type b.Int 0 (at 23 26)) (named (75 ∷ []) 27 28) (Some (value (int (pos 6) (at 31 32)))))) ∷ (Field (variable (mods false false false) (type b.Int 0 (at 34 37)) (named (97 ∷ []) 38 39) (Some (value (int (pos 1) (at 42 43)))))) ∷ (Field (variable (mods false false false) (type b.Boolean 0 (at 45 52)) (named (98 ∷ []) 53 54) None)) ∷ (Method (method (mods false false false) None true (named (80 ∷ []) 56 57) ((param (mods false false false) (type b.Int 0 (at 58 61)) (named (110 ∷ []) 62 63)) ∷ []) None ((prints (name (named (97 ∷ []) 86 87) (at 86 87)) (at 67 89)) ∷ (runs (assigned None (name (named (97 ∷ []) 90 91) (at 90 91)) (name (named (110 ∷ []) 94 95) (at 94 95)) (at 90 95)) (at 90 96)) ∷ (runs (call (named (115 ∷ 104 ∷ 111 ∷ 119 ∷ []) 97 101) ([]) (at 97 103)) (at 97 104)) ∷ []) (at 56 106))) ∷ (Method (method (mods false false false) None false (named (115 ∷ 104 ∷ 111 ∷ 119 ∷ []) 112 116) ([]) None ((prints (name (named (97 ∷ []) 140 141) (at 140 141)) (at 121 143)) ∷ []) (at 107 145))) ∷ []) (at 0 147))
    ∷
    (class (named (81 ∷ []) 154 155) (Some (named (80 ∷ []) 164 165)) ((Field (variable (mods false false false) (type b.Int 0 (at 168 171)) (named (99 ∷ []) 172 173) (Some (value (int (pos 4) (at 176 177)))))) ∷ (Field (variable (mods false false false) (type (b.Named (named (80 ∷ []) 179 180)) 0 (at 179 180)) (named (110 ∷ 101 ∷ 120 ∷ 116 ∷ []) 181 185) None)) ∷ (Field (variable (mods false false false) (type b.Int 1 (at 187 192)) (named (100 ∷ []) 193 194) (Some (items ((value (name (named (75 ∷ []) 198 199) (at 198 199))) ∷ (value (int (pos 2) (at 201 202))) ∷ []) (at 197 203))))) ∷ (Method (method (mods false false false) None true (named (81 ∷ []) 205 206) ((param (mods false false false) (type b.Int 0 (at 207 210)) (named (110 ∷ []) 211 212)) ∷ []) (Some ((binary (op.Num arith.Add) (name (named (110 ∷ []) 222 223) (at 222 223)) (int (pos 1) (at 226 227)) (at 222 227)) ∷ [])) ((prints (name (named (97 ∷ []) 249 250) (at 249 250)) (at 230 252)) ∷ (prints (name (named (99 ∷ []) 272 273) (at 272 273)) (at 253 275)) ∷ (runs (assigned None (select (this (at 276 280)) (named (99 ∷ []) 281 282) (at 276 282)) (name (named (110 ∷ []) 285 286) (at 285 286)) (at 276 286)) (at 276 287)) ∷ []) (at 205 289))) ∷ (Method (method (mods false false false) None false (named (115 ∷ 104 ∷ 111 ∷ 119 ∷ []) 295 299) ([]) None ((prints (name (named (99 ∷ []) 323 324) (at 323 324)) (at 304 326)) ∷ []) (at 290 328))) ∷ (Method (method (mods false false false) (Some (type (b.Named (named (81 ∷ []) 329 330)) 0 (at 329 330))) false (named (115 ∷ 97 ∷ 109 ∷ 101 ∷ []) 331 335) ([]) None ((returns_value (this (at 347 351)) (at 340 352)) ∷ []) (at 329 354))) ∷ []) (at 148 356))
    ∷
    (class (named (82 ∷ []) 363 364) None ((Field (variable (mods false false false) (type b.Int 0 (at 367 370)) (named (118 ∷ []) 371 372) (Some (value (int (pos 3) (at 375 376)))))) ∷ []) (at 357 379))
    ∷
    (class (named (77 ∷ []) 386 387) None ((Method (method (mods true false false) (Some (type b.Int 0 (at 399 402))) false (named (109 ∷ 97 ∷ 107 ∷ 101 ∷ []) 403 407) ((param (mods false false false) (type b.Int 0 (at 408 411)) (named (110 ∷ []) 412 413)) ∷ []) None ((locals ((variable (mods false false false) (type (b.Named (named (81 ∷ []) 417 418)) 0 (at 417 418)) (named (113 ∷ []) 419 420) (Some (value (new (named (81 ∷ []) 427 428) ((name (named (110 ∷ []) 429 430) (at 429 430)) ∷ []) (at 423 431))))) ∷ []) (at 417 432)) ∷ (if_only (select (name (named (113 ∷ []) 437 438) (at 437 438)) (named (98 ∷ []) 439 440) (at 437 440)) (returns_value (int (pos 0) (at 449 450)) (at 442 451)) (at 433 451)) ∷ (if_only (binary (op.Compare rel.Eq) (select (name (named (113 ∷ []) 456 457) (at 456 457)) (named (110 ∷ 101 ∷ 120 ∷ 116 ∷ []) 458 462) (at 456 462)) (null (at 466 470)) (at 456 470)) (returns_value (binary (op.Num arith.Add) (binary (op.Num arith.Mul) (select (name (named (113 ∷ []) 479 480) (at 479 480)) (named (97 ∷ []) 481 482) (at 479 482)) (int (pos 10) (at 485 487)) (at 479 487)) (select (name (named (113 ∷ []) 490 491) (at 490 491)) (named (99 ∷ []) 492 493) (at 490 493)) (at 479 493)) (at 472 494)) (at 452 494)) ∷ (returns_value (int (pos 1) (at 502 503)) (at 495 504)) ∷ []) (at 392 506))) ∷ (Method (method (mods true false false) (Some (type (b.Named (named (81 ∷ []) 516 517)) 0 (at 516 517))) false (named (109 ∷ 97 ∷ 100 ∷ 101 ∷ []) 518 522) ([]) None ((returns_value (new (named (81 ∷ []) 538 539) ((int (pos 7) (at 540 541)) ∷ []) (at 534 542)) (at 527 543)) ∷ []) (at 509 545))) ∷ (Method (method (mods true false false) (Some (type b.Int 0 (at 555 558))) false (named (99 ∷ 111 ∷ 110 ∷ 115 ∷ 116 ∷ 97 ∷ 110 ∷ 116 ∷ []) 559 567) ([]) None ((locals ((variable (mods false false false) (type (b.Named (named (81 ∷ []) 572 573)) 0 (at 572 573)) (named (113 ∷ []) 574 575) (Some (value (null (at 578 582))))) ∷ []) (at 572 583)) ∷ (returns_value (binary (op.Num arith.Add) (select (name (named (80 ∷ []) 591 592) (at 591 592)) (named (75 ∷ []) 593 594) (at 591 594)) (select (name (named (113 ∷ []) 597 598) (at 597 598)) (named (75 ∷ []) 599 600) (at 597 600)) (at 591 600)) (at 584 601)) ∷ []) (at 548 603))) ∷ (Method (method (mods true false false) (Some (type b.Int 0 (at 613 616))) false (named (112 ∷ 108 ∷ 97 ∷ 105 ∷ 110 ∷ []) 617 622) ([]) None ((locals ((variable (mods false false false) (type (b.Named (named (82 ∷ []) 627 628)) 0 (at 627 628)) (named (114 ∷ []) 629 630) (Some (value (new (named (82 ∷ []) 637 638) ([]) (at 633 640))))) ∷ []) (at 627 641)) ∷ (locals ((variable (mods false false false) (type (b.Named (named (81 ∷ []) 642 643)) 0 (at 642 643)) (named (113 ∷ []) 644 645) (Some (value (new (named (81 ∷ []) 652 653) ((int (pos 1) (at 654 655)) ∷ []) (at 648 656))))) ∷ []) (at 642 657)) ∷ (returns_value (binary (op.Num arith.Add) (binary (op.Num arith.Add) (binary (op.Num arith.Add) (select (name (named (114 ∷ []) 665 666) (at 665 666)) (named (118 ∷ []) 667 668) (at 665 668)) (select (call_on (name (named (113 ∷ []) 671 672) (at 671 672)) (named (115 ∷ 97 ∷ 109 ∷ 101 ∷ []) 673 677) ([]) (at 671 679)) (named (99 ∷ []) 680 681) (at 671 681)) (at 665 681)) (element (select (name (named (113 ∷ []) 684 685) (at 684 685)) (named (100 ∷ []) 686 687) (at 684 687)) (int (pos 0) (at 688 689)) (at 684 690)) (at 665 690)) (select (select (name (named (113 ∷ []) 693 694) (at 693 694)) (named (100 ∷ []) 695 696) (at 693 696)) (named (108 ∷ 101 ∷ 110 ∷ 103 ∷ 116 ∷ 104 ∷ []) 697 703) (at 693 703)) (at 665 703)) (at 658 704)) ∷ []) (at 606 706))) ∷ (Method (method (mods true false false) (Some (type b.Int 0 (at 716 719))) false (named (99 ∷ 117 ∷ 116 ∷ []) 720 723) ([]) None ((returns_value (select (new (named (81 ∷ []) 739 740) ((int (pos 1) (at 741 742)) ∷ []) (at 735 743)) (named (97 ∷ []) 744 745) (at 735 745)) (at 728 746)) ∷ []) (at 709 748))) ∷ []) (at 380 750))
    ∷ [])

abbrev objects_names : Names
objects_names = (table (((at 86 87), (meaning.FieldNamed 0)) ∷ ((at 90 91), (meaning.FieldNamed 0)) ∷ ((at 94 95), (meaning.Param 0)) ∷ ((at 97 101), (meaning.MethodNamed 1)) ∷ ((at 140 141), (meaning.FieldNamed 0)) ∷ ((at 164 165), (meaning.ClassNamed 0)) ∷ ((at 179 180), (meaning.ClassNamed 0)) ∷ ((at 198 199), (meaning.Constant (pos 6))) ∷ ((at 222 223), (meaning.Param 0)) ∷ ((at 249 250), (meaning.FieldNamed 0)) ∷ ((at 272 273), (meaning.FieldNamed 2)) ∷ ((at 281 282), (meaning.FieldNamed 2)) ∷ ((at 285 286), (meaning.Param 0)) ∷ ((at 323 324), (meaning.FieldNamed 2)) ∷ ((at 329 330), (meaning.ClassNamed 1)) ∷ ((at 417 418), (meaning.ClassNamed 1)) ∷ ((at 427 428), (meaning.ClassNamed 1)) ∷ ((at 429 430), (meaning.Param 0)) ∷ ((at 437 438), (meaning.Local 0)) ∷ ((at 439 440), (meaning.FieldNamed 1)) ∷ ((at 456 457), (meaning.Local 0)) ∷ ((at 458 462), (meaning.FieldNamed 3)) ∷ ((at 479 480), (meaning.Local 0)) ∷ ((at 481 482), (meaning.FieldNamed 0)) ∷ ((at 490 491), (meaning.Local 0)) ∷ ((at 492 493), (meaning.FieldNamed 2)) ∷ ((at 516 517), (meaning.ClassNamed 1)) ∷ ((at 538 539), (meaning.ClassNamed 1)) ∷ ((at 572 573), (meaning.ClassNamed 1)) ∷ ((at 591 592), (meaning.ClassNamed 0)) ∷ ((at 593 594), (meaning.Constant (pos 6))) ∷ ((at 597 598), (meaning.Local 0)) ∷ ((at 599 600), (meaning.Constant (pos 6))) ∷ ((at 627 628), (meaning.ClassNamed 2)) ∷ ((at 637 638), (meaning.ClassNamed 2)) ∷ ((at 642 643), (meaning.ClassNamed 1)) ∷ ((at 652 653), (meaning.ClassNamed 1)) ∷ ((at 665 666), (meaning.Local 0)) ∷ ((at 667 668), (meaning.FieldNamed 5)) ∷ ((at 671 672), (meaning.Local 1)) ∷ ((at 673 677), (meaning.MethodNamed 4)) ∷ ((at 680 681), (meaning.FieldNamed 2)) ∷ ((at 684 685), (meaning.Local 1)) ∷ ((at 686 687), (meaning.FieldNamed 4)) ∷ ((at 693 694), (meaning.Local 1)) ∷ ((at 695 696), (meaning.FieldNamed 4)) ∷ ((at 697 703), meaning.LengthOf) ∷ ((at 739 740), (meaning.ClassNamed 1)) ∷ ((at 744 745), (meaning.FieldNamed 0)) ∷ []) (((at 31 32), (ty.Plain base.Int)) ∷ ((at 42 43), (ty.Plain base.Int)) ∷ ((at 86 87), (ty.Plain base.Int)) ∷ ((at 90 91), (ty.Plain base.Int)) ∷ ((at 90 95), (ty.Plain base.Int)) ∷ ((at 94 95), (ty.Plain base.Int)) ∷ ((at 97 103), ty.Void) ∷ ((at 140 141), (ty.Plain base.Int)) ∷ ((at 176 177), (ty.Plain base.Int)) ∷ ((at 198 199), (ty.Plain base.Int)) ∷ ((at 201 202), (ty.Plain base.Int)) ∷ ((at 222 223), (ty.Plain base.Int)) ∷ ((at 222 227), (ty.Plain base.Int)) ∷ ((at 226 227), (ty.Plain base.Int)) ∷ ((at 249 250), (ty.Plain base.Int)) ∷ ((at 272 273), (ty.Plain base.Int)) ∷ ((at 276 280), (ty.Plain (base.Class 1))) ∷ ((at 276 282), (ty.Plain base.Int)) ∷ ((at 276 286), (ty.Plain base.Int)) ∷ ((at 285 286), (ty.Plain base.Int)) ∷ ((at 323 324), (ty.Plain base.Int)) ∷ ((at 347 351), (ty.Plain (base.Class 1))) ∷ ((at 375 376), (ty.Plain base.Int)) ∷ ((at 423 431), (ty.Plain (base.Class 1))) ∷ ((at 429 430), (ty.Plain base.Int)) ∷ ((at 437 438), (ty.Plain (base.Class 1))) ∷ ((at 437 440), (ty.Plain base.Bool)) ∷ ((at 449 450), (ty.Plain base.Int)) ∷ ((at 456 457), (ty.Plain (base.Class 1))) ∷ ((at 456 462), (ty.Plain (base.Class 0))) ∷ ((at 456 470), (ty.Plain base.Bool)) ∷ ((at 466 470), (ty.Plain (base.Class 0))) ∷ ((at 479 480), (ty.Plain (base.Class 1))) ∷ ((at 479 482), (ty.Plain base.Int)) ∷ ((at 479 487), (ty.Plain base.Int)) ∷ ((at 479 493), (ty.Plain base.Int)) ∷ ((at 485 487), (ty.Plain base.Int)) ∷ ((at 490 491), (ty.Plain (base.Class 1))) ∷ ((at 490 493), (ty.Plain base.Int)) ∷ ((at 502 503), (ty.Plain base.Int)) ∷ ((at 534 542), (ty.Plain (base.Class 1))) ∷ ((at 540 541), (ty.Plain base.Int)) ∷ ((at 578 582), (ty.Plain (base.Class 1))) ∷ ((at 591 594), (ty.Plain base.Int)) ∷ ((at 591 600), (ty.Plain base.Int)) ∷ ((at 597 598), (ty.Plain (base.Class 1))) ∷ ((at 597 600), (ty.Plain base.Int)) ∷ ((at 633 640), (ty.Plain (base.Class 2))) ∷ ((at 648 656), (ty.Plain (base.Class 1))) ∷ ((at 654 655), (ty.Plain base.Int)) ∷ ((at 665 666), (ty.Plain (base.Class 2))) ∷ ((at 665 668), (ty.Plain base.Int)) ∷ ((at 665 681), (ty.Plain base.Int)) ∷ ((at 665 690), (ty.Plain base.Int)) ∷ ((at 665 703), (ty.Plain base.Int)) ∷ ((at 671 672), (ty.Plain (base.Class 1))) ∷ ((at 671 679), (ty.Plain (base.Class 1))) ∷ ((at 671 681), (ty.Plain base.Int)) ∷ ((at 684 685), (ty.Plain (base.Class 1))) ∷ ((at 684 687), (ty.Array base.Int 1 [])) ∷ ((at 684 690), (ty.Plain base.Int)) ∷ ((at 688 689), (ty.Plain base.Int)) ∷ ((at 693 694), (ty.Plain (base.Class 1))) ∷ ((at 693 696), (ty.Array base.Int 1 [])) ∷ ((at 693 703), (ty.Plain base.Int)) ∷ ((at 735 743), (ty.Plain (base.Class 1))) ∷ ((at 735 745), (ty.Plain base.Int)) ∷ ((at 741 742), (ty.Plain base.Int)) ∷ []) (((at 27 28), (ty.Plain base.Int)) ∷ ((at 38 39), (ty.Plain base.Int)) ∷ ((at 53 54), (ty.Plain base.Bool)) ∷ ((at 56 57), ty.Void) ∷ ((at 62 63), (ty.Plain base.Int)) ∷ ((at 112 116), ty.Void) ∷ ((at 172 173), (ty.Plain base.Int)) ∷ ((at 181 185), (ty.Plain (base.Class 0))) ∷ ((at 193 194), (ty.Array base.Int 1 [])) ∷ ((at 205 206), ty.Void) ∷ ((at 211 212), (ty.Plain base.Int)) ∷ ((at 295 299), ty.Void) ∷ ((at 331 335), (ty.Plain (base.Class 1))) ∷ ((at 371 372), (ty.Plain base.Int)) ∷ ((at 403 407), (ty.Plain base.Int)) ∷ ((at 412 413), (ty.Plain base.Int)) ∷ ((at 419 420), (ty.Plain (base.Class 1))) ∷ ((at 518 522), (ty.Plain (base.Class 1))) ∷ ((at 559 567), (ty.Plain base.Int)) ∷ ((at 574 575), (ty.Plain (base.Class 1))) ∷ ((at 617 622), (ty.Plain base.Int)) ∷ ((at 629 630), (ty.Plain (base.Class 2))) ∷ ((at 644 645), (ty.Plain (base.Class 1))) ∷ ((at 720 723), (ty.Plain base.Int)) ∷ []))

abbrev objects_told : List Row
objects_told =
    -- M.make 5, at most 4
    row 5 ((Whole (pos 5)) ∷ []) 4 (Some (Ended (value_of.Int (pos 65)))) ((Printed (Num (pos 1))) ∷ (Printed (Num (pos 0))) ∷ (Printed (Num (pos 6))) ∷ (Printed (Num (pos 4))) ∷ []) false
    -- M.made, at most 4
    ∷ row 6 ([]) 4 (Some (Ended (value_of.ObjectOf 1))) ((Printed (Num (pos 1))) ∷ (Printed (Num (pos 0))) ∷ (Printed (Num (pos 8))) ∷ (Printed (Num (pos 4))) ∷ []) false
    -- M.constant, at most 1
    ∷ row 7 ([]) 1 (Some (Ended (value_of.Int (pos 12)))) ([]) false
    -- M.plain, at most 4
    ∷ row 8 ([]) 4 (Some (Ended (value_of.Int (pos 12)))) ((Printed (Num (pos 1))) ∷ (Printed (Num (pos 0))) ∷ (Printed (Num (pos 2))) ∷ (Printed (Num (pos 4))) ∷ (access (pos 0) 2 688) ∷ []) false
    -- M.cut, at most 2
    ∷ row 9 ([]) 2 None ((Printed (Num (pos 1))) ∷ []) false
    ∷ []

objects_rows : Rows objects_names objects_classes objects_told
unfolding int_wrap
objects_rows = by_means objects_names objects_classes objects_told refl
