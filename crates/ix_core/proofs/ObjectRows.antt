-- Objects: their fields, their constructors, and the methods that run for them.
use Rattle.std.proofs.Common.{pos, false, [], ◌∷◌, Some, None, refl}
use Rattle.std.specs.Int.{int_wrap}
use Rattle.ix_num.specs.declared.arith.Arith.TheVariants.{Add, Mul}
use Rattle.ix_num.specs.declared.rel.Rel.TheVariants as rel
use Rattle.ix_core.specs.declared.claim.Type_.TheVariants as type
use Rattle.ix_core.specs.declared.code.Cond.TheBlock.{hidden-the_row-Item-0, hidden-the_row-Cond-1}
use Rattle.ix_core.specs.declared.code.Cond.TheVariants as cond
use Rattle.ix_core.specs.declared.code.Item.TheVariants as item
use Rattle.ix_core.specs.declared.op.Literal.TheVariants as literal
use Rattle.ix_core.specs.declared.op.OpKind.TheVariants as op
use Rattle.ix_core.specs.declared.outcome.Value.TheVariants as value
use Rattle.ix_core.specs.declared.program.Program.{Program}
use Rattle.ix_core.specs.Heap.{Num}
use Rattle.ix_core.specs.Machine.{Ended, NullUsed, no_limits}
use Rattle.ix_core.specs.Safe.{Whole}
use Rattle.ix_core.proofs.Programs.{span, int, boolean, object, block, does, does_with, arg, calls, test, param, local, static_method, instance_method, constructor_of, field, class_of, program, row, Rows}

-- class A { int x; int who() { return 1; } int twice() { return who() + who(); } }
-- class B extends A { int y; }
-- class C extends B { int z; int who() { return 3; } }
-- class D extends A { int w; int who() { return 5; } }
-- class E extends C { int who() { return 7; } }
-- class F extends E { }
-- class M {
--   static int inherited() { A a = new B(); return a.twice(); }
--   static int overridden() { A a = new C(); return a.twice(); }
--   static int again() { A a = new E(); return a.who(); }
--   static int below() { A a = new F(); return a.who(); }
--   static int beside() { A a = new D(); return a.who(); }
--   static int places() { B b = new B(); D d = new D(); b.x = 1; b.y = 2; d.x = 4; d.w = 8; System.out.println(b.y); System.out.println(b.x); return d.w + d.x; }
--   static int read() { A a = null; return a.x; }
--   static void write() { A a = null; a.x = 1; }
--   static int call() { A a = null; return a.who(); } }
abbrev pub classes : Program
classes = program (class_of None (0 ∷ []) (0 ∷ 1 ∷ 14 ∷ []) ∷ class_of (Some 0) (1 ∷ []) (15 ∷ []) ∷ class_of (Some 1) (2 ∷ []) (2 ∷ 16 ∷ []) ∷ class_of (Some 0) (3 ∷ []) (3 ∷ 17 ∷ []) ∷ class_of (Some 2) [] (4 ∷ 18 ∷ []) ∷ class_of (Some 4) [] (19 ∷ []) ∷ class_of None [] (5 ∷ 6 ∷ 7 ∷ 8 ∷ 9 ∷ 10 ∷ 11 ∷ 12 ∷ 13 ∷ 20 ∷ []) ∷ []) (field 0 int [] ∷ field 1 int [] ∷ field 2 int [] ∷ field 3 int [] ∷ []) 0
    (instance_method 0 [] [] int None [] 2
    (block (does (op.Const 1 (literal.Int (pos 1))) 36 37
    ∷ item.Return (Some 1) (span 36 37)
    ∷ []))
    ∷ instance_method 0 [] [] int None [] 4
    (block (does (op.InstanceCall (calls 1 0 (Some 0) [] 0 (span 62 65))) 62 65
    ∷ does (op.InstanceCall (calls 2 0 (Some 0) [] 0 (span 70 73))) 70 73
    ∷ does (op.Num 3 Add 1 2) 62 75
    ∷ item.Return (Some 3) (span 62 75)
    ∷ []))
    ∷ instance_method 2 [] [] int (Some 0) [] 2
    (block (does (op.Const 1 (literal.Int (pos 3))) 156 157
    ∷ item.Return (Some 1) (span 156 157)
    ∷ []))
    ∷ instance_method 3 [] [] int (Some 0) [] 2
    (block (does (op.Const 1 (literal.Int (pos 5))) 209 210
    ∷ item.Return (Some 1) (span 209 210)
    ∷ []))
    ∷ instance_method 4 [] [] int (Some 2) [] 2
    (block (does (op.Const 1 (literal.Int (pos 7))) 255 256
    ∷ item.Return (Some 1) (span 255 256)
    ∷ []))
    ∷ static_method 6 [] [] int (local 0 [] (span 323 355) ∷ []) 2
    (block (does (op.NewObject (calls 1 15 None [] 1 (span 327 334))) 327 334
    ∷ does_with (op.Copy 0 1 (object 1)) 327 334 ((span 323 324) ∷ (span 327 334) ∷ [])
    ∷ does (op.InstanceCall (calls 1 1 (Some 0) [] 0 (span 345 350))) 345 350
    ∷ item.Return (Some 1) (span 343 352)
    ∷ []))
    ∷ static_method 6 [] [] int (local 0 [] (span 386 418) ∷ []) 2
    (block (does (op.NewObject (calls 1 16 None [] 2 (span 390 397))) 390 397
    ∷ does_with (op.Copy 0 1 (object 2)) 390 397 ((span 386 387) ∷ (span 390 397) ∷ [])
    ∷ does (op.InstanceCall (calls 1 1 (Some 0) [] 0 (span 408 413))) 408 413
    ∷ item.Return (Some 1) (span 406 415)
    ∷ []))
    ∷ static_method 6 [] [] int (local 0 [] (span 444 474) ∷ []) 2
    (block (does (op.NewObject (calls 1 18 None [] 4 (span 448 455))) 448 455
    ∷ does_with (op.Copy 0 1 (object 4)) 448 455 ((span 444 445) ∷ (span 448 455) ∷ [])
    ∷ does (op.InstanceCall (calls 1 0 (Some 0) [] 0 (span 466 469))) 466 469
    ∷ item.Return (Some 1) (span 464 471)
    ∷ []))
    ∷ static_method 6 [] [] int (local 0 [] (span 500 530) ∷ []) 2
    (block (does (op.NewObject (calls 1 19 None [] 5 (span 504 511))) 504 511
    ∷ does_with (op.Copy 0 1 (object 5)) 504 511 ((span 500 501) ∷ (span 504 511) ∷ [])
    ∷ does (op.InstanceCall (calls 1 0 (Some 0) [] 0 (span 522 525))) 522 525
    ∷ item.Return (Some 1) (span 520 527)
    ∷ []))
    ∷ static_method 6 [] [] int (local 0 [] (span 557 587) ∷ []) 2
    (block (does (op.NewObject (calls 1 17 None [] 3 (span 561 568))) 561 568
    ∷ does_with (op.Copy 0 1 (object 3)) 561 568 ((span 557 558) ∷ (span 561 568) ∷ [])
    ∷ does (op.InstanceCall (calls 1 0 (Some 0) [] 0 (span 579 582))) 579 582
    ∷ item.Return (Some 1) (span 577 584)
    ∷ []))
    ∷ static_method 6 [] [] int (local 0 [] (span 614 747) ∷ local 1 [] (span 629 747) ∷ []) 5
    (block (does (op.NewObject (calls 1 15 None [] 1 (span 618 625))) 618 625
    ∷ does_with (op.Copy 0 1 (object 1)) 618 625 ((span 614 615) ∷ (span 618 625) ∷ [])
    ∷ does (op.NewObject (calls 2 17 None [] 3 (span 633 640))) 633 640
    ∷ does_with (op.Copy 1 2 (object 3)) 633 640 ((span 629 630) ∷ (span 633 640) ∷ [])
    ∷ does (op.Const 2 (literal.Int (pos 1))) 648 649
    ∷ does_with (op.WriteField 0 0 2) 642 649 ((span 642 645) ∷ (span 648 649) ∷ [])
    ∷ does (op.Const 2 (literal.Int (pos 2))) 657 658
    ∷ does_with (op.WriteField 0 1 2) 651 658 ((span 651 654) ∷ (span 657 658) ∷ [])
    ∷ does (op.Const 2 (literal.Int (pos 4))) 666 667
    ∷ does_with (op.WriteField 1 0 2) 660 667 ((span 660 663) ∷ (span 666 667) ∷ [])
    ∷ does (op.Const 2 (literal.Int (pos 8))) 675 676
    ∷ does_with (op.WriteField 1 3 2) 669 676 ((span 669 672) ∷ (span 675 676) ∷ [])
    ∷ does (op.ReadField 2 0 1) 697 700
    ∷ does (op.Print 2) 697 700
    ∷ does (op.ReadField 2 0 0) 722 725
    ∷ does (op.Print 2) 722 725
    ∷ does (op.ReadField 2 1 3) 735 738
    ∷ does (op.ReadField 3 1 0) 741 744
    ∷ does (op.Num 4 Add 2 3) 735 744
    ∷ item.Return (Some 4) (span 735 744)
    ∷ []))
    ∷ static_method 6 [] [] int (local 0 [] (span 772 795) ∷ []) 2
    (block (does (op.Const 1 (literal.NullOf (object 0))) 776 780
    ∷ does_with (op.Copy 0 1 (object 0)) 776 780 ((span 772 773) ∷ (span 776 780) ∷ [])
    ∷ does (op.ReadField 1 0 0) 789 792
    ∷ item.Return (Some 1) (span 789 792)
    ∷ []))
    ∷ static_method 6 [] [] type.Void (local 0 [] (span 822 842) ∷ []) 2
    (block (does (op.Const 1 (literal.NullOf (object 0))) 826 830
    ∷ does_with (op.Copy 0 1 (object 0)) 826 830 ((span 822 823) ∷ (span 826 830) ∷ [])
    ∷ does (op.Const 1 (literal.Int (pos 1))) 838 839
    ∷ does_with (op.WriteField 0 0 1) 832 839 ((span 832 835) ∷ (span 838 839) ∷ [])
    ∷ []))
    ∷ static_method 6 [] [] int (local 0 [] (span 867 894) ∷ []) 2
    (block (does (op.Const 1 (literal.NullOf (object 0))) 871 875
    ∷ does_with (op.Copy 0 1 (object 0)) 871 875 ((span 867 868) ∷ (span 871 875) ∷ [])
    ∷ does (op.InstanceCall (calls 1 0 (Some 0) [] 0 (span 886 889))) 886 889
    ∷ item.Return (Some 1) (span 884 891)
    ∷ []))
    ∷ constructor_of 0 [] [] [] 1
    (block [])
    ∷ constructor_of 1 [] [] [] 2
    (block (does (op.SuperCall (calls 1 14 (Some 0) [] 0 (span 87 88))) 87 88
    ∷ []))
    ∷ constructor_of 2 [] [] [] 2
    (block (does (op.SuperCall (calls 1 15 (Some 0) [] 1 (span 116 117))) 116 117
    ∷ []))
    ∷ constructor_of 3 [] [] [] 2
    (block (does (op.SuperCall (calls 1 14 (Some 0) [] 0 (span 169 170))) 169 170
    ∷ []))
    ∷ constructor_of 4 [] [] [] 2
    (block (does (op.SuperCall (calls 1 16 (Some 0) [] 2 (span 222 223))) 222 223
    ∷ []))
    ∷ constructor_of 5 [] [] [] 2
    (block (does (op.SuperCall (calls 1 18 (Some 0) [] 4 (span 268 269))) 268 269
    ∷ []))
    ∷ constructor_of 6 [] [] [] 1
    (block [])
    ∷ [])

classes_rows : Rows classes (
    row 5 [] no_limits 15 (Ended (value.Int (pos 2))) [] false
    ∷ row 6 [] no_limits 17 (Ended (value.Int (pos 6))) [] false
    ∷ row 7 [] no_limits 13 (Ended (value.Int (pos 7))) [] false
    ∷ row 8 [] no_limits 15 (Ended (value.Int (pos 7))) [] false
    ∷ row 9 [] no_limits 9 (Ended (value.Int (pos 5))) [] false
    ∷ row 10 [] no_limits 26 (Ended (value.Int (pos 12))) (Num (pos 2) ∷ Num (pos 1) ∷ []) false
    ∷ row 11 [] no_limits 3 (NullUsed 789) [] false
    ∷ row 12 [] no_limits 4 (NullUsed 832) [] false
    ∷ row 13 [] no_limits 3 (NullUsed 886) [] false
    ∷ [])
unfolding hidden-the_row-Item-0 hidden-the_row-Cond-1 denote.Hole.Carrier.hidden int_wrap
classes_rows = refl

-- class P { int a = 1; boolean b; P(int n) { System.out.println(a); a = n; } }
-- class Q extends P { int c = 4; P next; Q(int n) { super(n + 1); System.out.println(a); System.out.println(c); c = n; } }
-- class M {
--   static int make(int n) { Q q = new Q(n); if (q.b) return 0; if (q.next == null) return q.a * 10 + q.c; return 1; }
--   static Q made() { return new Q(7); } }
abbrev pub constructors : Program
constructors = program (class_of None (0 ∷ 1 ∷ []) (0 ∷ []) ∷ class_of (Some 0) (2 ∷ 3 ∷ []) (1 ∷ []) ∷ class_of None [] (2 ∷ 3 ∷ 4 ∷ []) ∷ []) (field 0 int [] ∷ field 0 boolean [] ∷ field 1 int [] ∷ field 1 (object 0) [] ∷ []) 0
    (constructor_of 0 (param 1 [] ∷ []) (int ∷ []) [] 3
    (block (does (op.Const 2 (literal.Int (pos 1))) 18 19
    ∷ does_with (op.WriteField 0 0 2) 18 19 ((span 14 15) ∷ (span 18 19) ∷ [])
    ∷ does (op.ReadField 2 0 0) 62 63
    ∷ does (op.Print 2) 62 63
    ∷ does_with (op.WriteField 0 0 1) 66 71 ((span 66 67) ∷ (span 70 71) ∷ [])
    ∷ []))
    ∷ constructor_of 1 (param 1 [] ∷ []) (int ∷ []) [] 5
    (block (does (op.Const 2 (literal.Int (pos 1))) 137 138
    ∷ does (op.Num 3 Add 1 2) 133 138
    ∷ does (op.SuperCall (calls 4 0 (Some 0) (arg 3 133 138 ∷ []) 0 (span 116 117))) 116 117
    ∷ does (op.Const 2 (literal.Int (pos 4))) 105 106
    ∷ does_with (op.WriteField 0 2 2) 105 106 ((span 101 102) ∷ (span 105 106) ∷ [])
    ∷ does (op.ReadField 2 0 0) 160 161
    ∷ does (op.Print 2) 160 161
    ∷ does (op.ReadField 2 0 2) 183 184
    ∷ does (op.Print 2) 183 184
    ∷ does_with (op.WriteField 0 2 1) 187 192 ((span 187 188) ∷ (span 191 192) ∷ [])
    ∷ []))
    ∷ static_method 2 (param 0 [] ∷ []) (int ∷ []) int (local 1 [] (span 237 324) ∷ []) 7
    (block (does (op.NewObject (calls 2 1 None (arg 0 247 248 ∷ []) 1 (span 241 249))) 241 249
    ∷ does_with (op.Copy 1 2 (object 1)) 241 249 ((span 237 238) ∷ (span 241 249) ∷ [])
    ∷ item.If (cond.Truth (block (does (op.ReadField 2 1 1) 255 258
    ∷ [])) 2) (block (does (op.Const 2 (literal.Int (pos 0))) 267 268
    ∷ item.Return (Some 2) (span 267 268)
    ∷ [])) (block [])
    ∷ item.If (cond.Compare (block (does (op.ReadField 2 1 3) 274 280
    ∷ does (op.Const 3 (literal.NullOf (object 0))) 284 288
    ∷ [])) (test rel.Eq 2 3 (object 0) (span 274 280) (span 284 288))) (block (does (op.ReadField 2 1 0) 297 300
    ∷ does (op.Const 3 (literal.Int (pos 10))) 303 305
    ∷ does (op.Num 4 Mul 2 3) 297 305
    ∷ does (op.ReadField 5 1 2) 308 311
    ∷ does (op.Num 6 Add 4 5) 297 311
    ∷ item.Return (Some 6) (span 297 311)
    ∷ [])) (block [])
    ∷ does (op.Const 2 (literal.Int (pos 1))) 320 321
    ∷ item.Return (Some 2) (span 320 321)
    ∷ []))
    ∷ static_method 2 [] [] (object 1) [] 2
    (block (does (op.Const 0 (literal.Int (pos 7))) 358 359
    ∷ does (op.NewObject (calls 1 1 None (arg 0 358 359 ∷ []) 1 (span 352 360))) 352 360
    ∷ item.Return (Some 1) (span 352 360)
    ∷ []))
    ∷ constructor_of 2 [] [] [] 1
    (block [])
    ∷ [])

constructors_rows : Rows constructors (
    row 2 (Whole (pos 5) ∷ []) no_limits 34 (Ended (value.Int (pos 65))) (Num (pos 1) ∷ Num (pos 6) ∷ Num (pos 4) ∷ []) false
    ∷ row 3 [] no_limits 20 (Ended (value.ObjectOf 1)) (Num (pos 1) ∷ Num (pos 8) ∷ Num (pos 4) ∷ []) false
    ∷ [])
unfolding hidden-the_row-Item-0 hidden-the_row-Cond-1 denote.Hole.Carrier.hidden int_wrap
constructors_rows = refl
