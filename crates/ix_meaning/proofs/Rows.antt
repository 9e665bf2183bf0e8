-- Worked sources, against the answers of the independent checker.
use Rattle.std.proofs.Common.{◌≡◌, pos, negsuc, true, false, Some, None, List, [], ◌∷◌, codes, refl}
use Rattle.ix_tree.specs.declared.decl.ClassDecl.{ClassDecl}
use Rattle.ix_tree.specs.declared.decl.Member.TheVariants as m
use Rattle.ix_tree.specs.declared.annot.AnnotValue.TheVariants as t
use Rattle.ix_tree.specs.declared.annot.BaseTree.TheVariants as bt
use Rattle.ix_tree.specs.declared.expr.ExprKind.TheVariants as e
use Rattle.ix_tree.specs.declared.expr.Init.TheVariants as i
use Rattle.ix_tree.specs.declared.expr.BinaryOp.TheVariants as bo
use Rattle.ix_tree.specs.declared.stmt.StmtKind.TheVariants as s
use Rattle.ix_num.specs.declared.arith.Arith.TheVariants as ar
use Rattle.ix_meaning.specs.declared.note.Rule.TheVariants as rule
use Rattle.ix_annot.specs.Expansion.{expanded}
use Rattle.ix_annot.specs.Table.{row_named}
use Rattle.ix_annot.specs.Arguments.{plan}
use Rattle.ix_meaning.specs.Source.{notes}
use Rattle.ix_meaning.specs.Listed.{derived, listed}
use Rattle.ix_meaning.proofs.Equations.{equations}

--
abbrev no_class : List ClassDecl
no_class = ([])

no_class_errors : listed (derived (notes no_class)) ≡ ([])
no_class_errors = refl

-- class A { static void set(int[] q) { @NonNegative int[] p = q; } }
abbrev elements_without_their_claim : List ClassDecl
elements_without_their_claim = ((record { name = (record { text = (codes "A"); span = record { from = 6; to = 7 } }); parent = None; members = ((m.Method (record { mods = (record { is_static = true; is_final = false; is_private = false; annots = ([]) }); result = None; constructor = false; name = (record { text = (codes "set"); span = record { from = 22; to = 25 } }); params = ((record { mods = (record { is_static = false; is_final = false; is_private = false; annots = ([]) }); ty = (record { base = bt.Int; annots = ([]); depth = 1; span = record { from = 26; to = 31 } }); name = (record { text = (codes "q"); span = record { from = 32; to = 33 } }); init = None }) ∷ []); parent_args = None; body = ((record { kind = s.Local ((record { mods = (record { is_static = false; is_final = false; is_private = false; annots = ((record { name = (record { text = (codes "NonNegative"); span = record { from = 38; to = 49 } }); args = ([]); span = record { from = 37; to = 49 } }) ∷ []) }); ty = (record { base = bt.Int; annots = ([]); depth = 1; span = record { from = 50; to = 55 } }); name = (record { text = (codes "p"); span = record { from = 56; to = 57 } }); init = (Some ((i.Value (record { kind = e.Name (record { text = (codes "q"); span = record { from = 60; to = 61 } }); span = record { from = 60; to = 61 } })))) }) ∷ []); span = record { from = 37; to = 62 } }) ∷ []); span = record { from = 10; to = 64 } })) ∷ []); span = record { from = 0; to = 66 } }) ∷ [])

elements_without_their_claim_errors : listed (derived (notes elements_without_their_claim)) ≡ (record { rule = rule.TypeMismatch; span = record { from = 60; to = 61 } } ∷ [])
unfolding expanded row_named plan
elements_without_their_claim_errors = simp equations refl

-- class A { static int f(int x) { int x = 1; return y; } }
abbrev taken_and_unknown : List ClassDecl
taken_and_unknown = ((record { name = (record { text = (codes "A"); span = record { from = 6; to = 7 } }); parent = None; members = ((m.Method (record { mods = (record { is_static = true; is_final = false; is_private = false; annots = ([]) }); result = (Some ((record { base = bt.Int; annots = ([]); depth = 0; span = record { from = 17; to = 20 } }))); constructor = false; name = (record { text = (codes "f"); span = record { from = 21; to = 22 } }); params = ((record { mods = (record { is_static = false; is_final = false; is_private = false; annots = ([]) }); ty = (record { base = bt.Int; annots = ([]); depth = 0; span = record { from = 23; to = 26 } }); name = (record { text = (codes "x"); span = record { from = 27; to = 28 } }); init = None }) ∷ []); parent_args = None; body = ((record { kind = s.Local ((record { mods = (record { is_static = false; is_final = false; is_private = false; annots = ([]) }); ty = (record { base = bt.Int; annots = ([]); depth = 0; span = record { from = 32; to = 35 } }); name = (record { text = (codes "x"); span = record { from = 36; to = 37 } }); init = (Some ((i.Value (record { kind = e.Int (pos 1); span = record { from = 40; to = 41 } })))) }) ∷ []); span = record { from = 32; to = 42 } }) ∷ (record { kind = s.Return (Some ((record { kind = e.Name (record { text = (codes "y"); span = record { from = 50; to = 51 } }); span = record { from = 50; to = 51 } }))); span = record { from = 43; to = 52 } }) ∷ []); span = record { from = 10; to = 54 } })) ∷ []); span = record { from = 0; to = 56 } }) ∷ [])

taken_and_unknown_errors : listed (derived (notes taken_and_unknown)) ≡ (record { rule = rule.DuplicateName; span = record { from = 36; to = 37 } } ∷ record { rule = rule.UnknownName; span = record { from = 50; to = 51 } } ∷ [])
taken_and_unknown_errors = simp equations refl

-- class A extends B { int f; } class B extends A { int f; } class C extends A { }
abbrev cycle : List ClassDecl
cycle = ((record { name = (record { text = (codes "A"); span = record { from = 6; to = 7 } }); parent = (Some ((record { text = (codes "B"); span = record { from = 16; to = 17 } }))); members = ((m.Field (record { mods = (record { is_static = false; is_final = false; is_private = false; annots = ([]) }); ty = (record { base = bt.Int; annots = ([]); depth = 0; span = record { from = 20; to = 23 } }); name = (record { text = (codes "f"); span = record { from = 24; to = 25 } }); init = None })) ∷ []); span = record { from = 0; to = 28 } }) ∷ (record { name = (record { text = (codes "B"); span = record { from = 35; to = 36 } }); parent = (Some ((record { text = (codes "A"); span = record { from = 45; to = 46 } }))); members = ((m.Field (record { mods = (record { is_static = false; is_final = false; is_private = false; annots = ([]) }); ty = (record { base = bt.Int; annots = ([]); depth = 0; span = record { from = 49; to = 52 } }); name = (record { text = (codes "f"); span = record { from = 53; to = 54 } }); init = None })) ∷ []); span = record { from = 29; to = 57 } }) ∷ (record { name = (record { text = (codes "C"); span = record { from = 64; to = 65 } }); parent = (Some ((record { text = (codes "A"); span = record { from = 74; to = 75 } }))); members = ([]); span = record { from = 58; to = 79 } }) ∷ [])

cycle_errors : listed (derived (notes cycle)) ≡ (record { rule = rule.CyclicClass; span = record { from = 6; to = 7 } } ∷ record { rule = rule.DuplicateName; span = record { from = 24; to = 25 } } ∷ record { rule = rule.CyclicClass; span = record { from = 35; to = 36 } } ∷ record { rule = rule.DuplicateName; span = record { from = 53; to = 54 } } ∷ [])
cycle_errors = refl

-- class A { int f; int m(int x) { return f + x; } }
abbrev own_field : List ClassDecl
own_field = ((record { name = (record { text = (codes "A"); span = record { from = 6; to = 7 } }); parent = None; members = ((m.Field (record { mods = (record { is_static = false; is_final = false; is_private = false; annots = ([]) }); ty = (record { base = bt.Int; annots = ([]); depth = 0; span = record { from = 10; to = 13 } }); name = (record { text = (codes "f"); span = record { from = 14; to = 15 } }); init = None })) ∷ (m.Method (record { mods = (record { is_static = false; is_final = false; is_private = false; annots = ([]) }); result = (Some ((record { base = bt.Int; annots = ([]); depth = 0; span = record { from = 17; to = 20 } }))); constructor = false; name = (record { text = (codes "m"); span = record { from = 21; to = 22 } }); params = ((record { mods = (record { is_static = false; is_final = false; is_private = false; annots = ([]) }); ty = (record { base = bt.Int; annots = ([]); depth = 0; span = record { from = 23; to = 26 } }); name = (record { text = (codes "x"); span = record { from = 27; to = 28 } }); init = None }) ∷ []); parent_args = None; body = ((record { kind = s.Return (Some ((record { kind = e.Binary (bo.Num ar.Add) (record { kind = e.Name (record { text = (codes "f"); span = record { from = 39; to = 40 } }); span = record { from = 39; to = 40 } }) (record { kind = e.Name (record { text = (codes "x"); span = record { from = 43; to = 44 } }); span = record { from = 43; to = 44 } }); span = record { from = 39; to = 44 } }))); span = record { from = 32; to = 45 } }) ∷ []); span = record { from = 17; to = 47 } })) ∷ []); span = record { from = 0; to = 49 } }) ∷ [])

own_field_errors : listed (derived (notes own_field)) ≡ ([])
own_field_errors = simp equations refl

-- class A { private int p() { return 1; } int q(int a) { return a; } A(int x) { } } class B extends A { int p() { return 2; } boolean q(int a) { return true; } B() { } } class C extends A { }
abbrev overriding : List ClassDecl
overriding = ((record { name = (record { text = (codes "A"); span = record { from = 6; to = 7 } }); parent = None; members = ((m.Method (record { mods = (record { is_static = false; is_final = false; is_private = true; annots = ([]) }); result = (Some ((record { base = bt.Int; annots = ([]); depth = 0; span = record { from = 18; to = 21 } }))); constructor = false; name = (record { text = (codes "p"); span = record { from = 22; to = 23 } }); params = ([]); parent_args = None; body = ((record { kind = s.Return (Some ((record { kind = e.Int (pos 1); span = record { from = 35; to = 36 } }))); span = record { from = 28; to = 37 } }) ∷ []); span = record { from = 10; to = 39 } })) ∷ (m.Method (record { mods = (record { is_static = false; is_final = false; is_private = false; annots = ([]) }); result = (Some ((record { base = bt.Int; annots = ([]); depth = 0; span = record { from = 40; to = 43 } }))); constructor = false; name = (record { text = (codes "q"); span = record { from = 44; to = 45 } }); params = ((record { mods = (record { is_static = false; is_final = false; is_private = false; annots = ([]) }); ty = (record { base = bt.Int; annots = ([]); depth = 0; span = record { from = 46; to = 49 } }); name = (record { text = (codes "a"); span = record { from = 50; to = 51 } }); init = None }) ∷ []); parent_args = None; body = ((record { kind = s.Return (Some ((record { kind = e.Name (record { text = (codes "a"); span = record { from = 62; to = 63 } }); span = record { from = 62; to = 63 } }))); span = record { from = 55; to = 64 } }) ∷ []); span = record { from = 40; to = 66 } })) ∷ (m.Method (record { mods = (record { is_static = false; is_final = false; is_private = false; annots = ([]) }); result = None; constructor = true; name = (record { text = (codes "A"); span = record { from = 67; to = 68 } }); params = ((record { mods = (record { is_static = false; is_final = false; is_private = false; annots = ([]) }); ty = (record { base = bt.Int; annots = ([]); depth = 0; span = record { from = 69; to = 72 } }); name = (record { text = (codes "x"); span = record { from = 73; to = 74 } }); init = None }) ∷ []); parent_args = None; body = ([]); span = record { from = 67; to = 79 } })) ∷ []); span = record { from = 0; to = 81 } }) ∷ (record { name = (record { text = (codes "B"); span = record { from = 88; to = 89 } }); parent = (Some ((record { text = (codes "A"); span = record { from = 98; to = 99 } }))); members = ((m.Method (record { mods = (record { is_static = false; is_final = false; is_private = false; annots = ([]) }); result = (Some ((record { base = bt.Int; annots = ([]); depth = 0; span = record { from = 102; to = 105 } }))); constructor = false; name = (record { text = (codes "p"); span = record { from = 106; to = 107 } }); params = ([]); parent_args = None; body = ((record { kind = s.Return (Some ((record { kind = e.Int (pos 2); span = record { from = 119; to = 120 } }))); span = record { from = 112; to = 121 } }) ∷ []); span = record { from = 102; to = 123 } })) ∷ (m.Method (record { mods = (record { is_static = false; is_final = false; is_private = false; annots = ([]) }); result = (Some ((record { base = bt.Boolean; annots = ([]); depth = 0; span = record { from = 124; to = 131 } }))); constructor = false; name = (record { text = (codes "q"); span = record { from = 132; to = 133 } }); params = ((record { mods = (record { is_static = false; is_final = false; is_private = false; annots = ([]) }); ty = (record { base = bt.Int; annots = ([]); depth = 0; span = record { from = 134; to = 137 } }); name = (record { text = (codes "a"); span = record { from = 138; to = 139 } }); init = None }) ∷ []); parent_args = None; body = ((record { kind = s.Return (Some ((record { kind = e.Bool true; span = record { from = 150; to = 154 } }))); span = record { from = 143; to = 155 } }) ∷ []); span = record { from = 124; to = 157 } })) ∷ (m.Method (record { mods = (record { is_static = false; is_final = false; is_private = false; annots = ([]) }); result = None; constructor = true; name = (record { text = (codes "B"); span = record { from = 158; to = 159 } }); params = ([]); parent_args = None; body = ([]); span = record { from = 158; to = 165 } })) ∷ []); span = record { from = 82; to = 167 } }) ∷ (record { name = (record { text = (codes "C"); span = record { from = 174; to = 175 } }); parent = (Some ((record { text = (codes "A"); span = record { from = 184; to = 185 } }))); members = ([]); span = record { from = 168; to = 189 } }) ∷ [])

overriding_errors : listed (derived (notes overriding)) ≡ (record { rule = rule.DuplicateName; span = record { from = 106; to = 107 } } ∷ record { rule = rule.TypeMismatch; span = record { from = 132; to = 133 } } ∷ record { rule = rule.WrongArguments; span = record { from = 158; to = 159 } } ∷ record { rule = rule.WrongArguments; span = record { from = 174; to = 175 } } ∷ [])
overriding_errors = simp equations refl

-- class A { static void m() { } void k() { } } class B extends A { void m() { } static void k() { } }
abbrev static_and_inherited : List ClassDecl
static_and_inherited = ((record { name = (record { text = (codes "A"); span = record { from = 6; to = 7 } }); parent = None; members = ((m.Method (record { mods = (record { is_static = true; is_final = false; is_private = false; annots = ([]) }); result = None; constructor = false; name = (record { text = (codes "m"); span = record { from = 22; to = 23 } }); params = ([]); parent_args = None; body = ([]); span = record { from = 10; to = 29 } })) ∷ (m.Method (record { mods = (record { is_static = false; is_final = false; is_private = false; annots = ([]) }); result = None; constructor = false; name = (record { text = (codes "k"); span = record { from = 35; to = 36 } }); params = ([]); parent_args = None; body = ([]); span = record { from = 30; to = 42 } })) ∷ []); span = record { from = 0; to = 44 } }) ∷ (record { name = (record { text = (codes "B"); span = record { from = 51; to = 52 } }); parent = (Some ((record { text = (codes "A"); span = record { from = 61; to = 62 } }))); members = ((m.Method (record { mods = (record { is_static = false; is_final = false; is_private = false; annots = ([]) }); result = None; constructor = false; name = (record { text = (codes "m"); span = record { from = 70; to = 71 } }); params = ([]); parent_args = None; body = ([]); span = record { from = 65; to = 77 } })) ∷ (m.Method (record { mods = (record { is_static = true; is_final = false; is_private = false; annots = ([]) }); result = None; constructor = false; name = (record { text = (codes "k"); span = record { from = 90; to = 91 } }); params = ([]); parent_args = None; body = ([]); span = record { from = 78; to = 97 } })) ∷ []); span = record { from = 45; to = 99 } }) ∷ [])

static_and_inherited_errors : listed (derived (notes static_and_inherited)) ≡ (record { rule = rule.DuplicateName; span = record { from = 70; to = 71 } } ∷ record { rule = rule.DuplicateName; span = record { from = 90; to = 91 } } ∷ [])
static_and_inherited_errors = refl

-- class A { void f(boolean b) { break; } }
abbrev break_outside : List ClassDecl
break_outside = ((record { name = (record { text = (codes "A"); span = record { from = 6; to = 7 } }); parent = None; members = ((m.Method (record { mods = (record { is_static = false; is_final = false; is_private = false; annots = ([]) }); result = None; constructor = false; name = (record { text = (codes "f"); span = record { from = 15; to = 16 } }); params = ((record { mods = (record { is_static = false; is_final = false; is_private = false; annots = ([]) }); ty = (record { base = bt.Boolean; annots = ([]); depth = 0; span = record { from = 17; to = 24 } }); name = (record { text = (codes "b"); span = record { from = 25; to = 26 } }); init = None }) ∷ []); parent_args = None; body = ((record { kind = s.Break; span = record { from = 30; to = 36 } }) ∷ []); span = record { from = 10; to = 38 } })) ∷ []); span = record { from = 0; to = 40 } }) ∷ [])

break_outside_errors : listed (derived (notes break_outside)) ≡ (record { rule = rule.BreakOutside; span = record { from = 30; to = 35 } } ∷ [])
break_outside_errors = simp equations refl

-- class A { @NonNegative int x; @MinLen(1) int y; int @MinLen(-1) [] z; @Foo int w; void f(@IntRange(from=5, to=1) int a, @NonNegative boolean b) { @Positive int[] p = new @NonNegative int[3]; } @SideEffectFree A() { } @Override int g() { return 1; } }
abbrev annotations : List ClassDecl
annotations = ((record { name = (record { text = (codes "A"); span = record { from = 6; to = 7 } }); parent = None; members = ((m.Field (record { mods = (record { is_static = false; is_final = false; is_private = false; annots = ((record { name = (record { text = (codes "NonNegative"); span = record { from = 11; to = 22 } }); args = ([]); span = record { from = 10; to = 22 } }) ∷ []) }); ty = (record { base = bt.Int; annots = ([]); depth = 0; span = record { from = 23; to = 26 } }); name = (record { text = (codes "x"); span = record { from = 27; to = 28 } }); init = None })) ∷ (m.Field (record { mods = (record { is_static = false; is_final = false; is_private = false; annots = ((record { name = (record { text = (codes "MinLen"); span = record { from = 31; to = 37 } }); args = ((record { name = None; value = (t.Number (pos 1)); span = record { from = 38; to = 39 } }) ∷ []); span = record { from = 30; to = 40 } }) ∷ []) }); ty = (record { base = bt.Int; annots = ([]); depth = 0; span = record { from = 41; to = 44 } }); name = (record { text = (codes "y"); span = record { from = 45; to = 46 } }); init = None })) ∷ (m.Field (record { mods = (record { is_static = false; is_final = false; is_private = false; annots = ([]) }); ty = (record { base = bt.Int; annots = ((record { name = (record { text = (codes "MinLen"); span = record { from = 53; to = 59 } }); args = ((record { name = None; value = (t.Number (negsuc 0)); span = record { from = 60; to = 62 } }) ∷ []); span = record { from = 52; to = 63 } }) ∷ []); depth = 1; span = record { from = 48; to = 66 } }); name = (record { text = (codes "z"); span = record { from = 67; to = 68 } }); init = None })) ∷ (m.Field (record { mods = (record { is_static = false; is_final = false; is_private = false; annots = ((record { name = (record { text = (codes "Foo"); span = record { from = 71; to = 74 } }); args = ([]); span = record { from = 70; to = 74 } }) ∷ []) }); ty = (record { base = bt.Int; annots = ([]); depth = 0; span = record { from = 75; to = 78 } }); name = (record { text = (codes "w"); span = record { from = 79; to = 80 } }); init = None })) ∷ (m.Method (record { mods = (record { is_static = false; is_final = false; is_private = false; annots = ([]) }); result = None; constructor = false; name = (record { text = (codes "f"); span = record { from = 87; to = 88 } }); params = ((record { mods = (record { is_static = false; is_final = false; is_private = false; annots = ((record { name = (record { text = (codes "IntRange"); span = record { from = 90; to = 98 } }); args = ((record { name = (Some ((record { text = (codes "from"); span = record { from = 99; to = 103 } }))); value = (t.Number (pos 5)); span = record { from = 99; to = 105 } }) ∷ (record { name = (Some ((record { text = (codes "to"); span = record { from = 107; to = 109 } }))); value = (t.Number (pos 1)); span = record { from = 107; to = 111 } }) ∷ []); span = record { from = 89; to = 112 } }) ∷ []) }); ty = (record { base = bt.Int; annots = ([]); depth = 0; span = record { from = 113; to = 116 } }); name = (record { text = (codes "a"); span = record { from = 117; to = 118 } }); init = None }) ∷ (record { mods = (record { is_static = false; is_final = false; is_private = false; annots = ((record { name = (record { text = (codes "NonNegative"); span = record { from = 121; to = 132 } }); args = ([]); span = record { from = 120; to = 132 } }) ∷ []) }); ty = (record { base = bt.Boolean; annots = ([]); depth = 0; span = record { from = 133; to = 140 } }); name = (record { text = (codes "b"); span = record { from = 141; to = 142 } }); init = None }) ∷ []); parent_args = None; body = ((record { kind = s.Local ((record { mods = (record { is_static = false; is_final = false; is_private = false; annots = ((record { name = (record { text = (codes "Positive"); span = record { from = 147; to = 155 } }); args = ([]); span = record { from = 146; to = 155 } }) ∷ []) }); ty = (record { base = bt.Int; annots = ([]); depth = 1; span = record { from = 156; to = 161 } }); name = (record { text = (codes "p"); span = record { from = 162; to = 163 } }); init = (Some ((i.Value (record { kind = e.NewArray (record { base = bt.Int; annots = ((record { name = (record { text = (codes "NonNegative"); span = record { from = 171; to = 182 } }); args = ([]); span = record { from = 170; to = 182 } }) ∷ []); depth = 1; span = record { from = 170; to = 189 } }) (record { kind = e.Int (pos 3); span = record { from = 187; to = 188 } }); span = record { from = 166; to = 189 } })))) }) ∷ []); span = record { from = 146; to = 190 } }) ∷ []); span = record { from = 82; to = 192 } })) ∷ (m.Method (record { mods = (record { is_static = false; is_final = false; is_private = false; annots = ((record { name = (record { text = (codes "SideEffectFree"); span = record { from = 194; to = 208 } }); args = ([]); span = record { from = 193; to = 208 } }) ∷ []) }); result = None; constructor = true; name = (record { text = (codes "A"); span = record { from = 209; to = 210 } }); params = ([]); parent_args = None; body = ([]); span = record { from = 193; to = 216 } })) ∷ (m.Method (record { mods = (record { is_static = false; is_final = false; is_private = false; annots = ((record { name = (record { text = (codes "Override"); span = record { from = 218; to = 226 } }); args = ([]); span = record { from = 217; to = 226 } }) ∷ []) }); result = (Some ((record { base = bt.Int; annots = ([]); depth = 0; span = record { from = 227; to = 230 } }))); constructor = false; name = (record { text = (codes "g"); span = record { from = 231; to = 232 } }); params = ([]); parent_args = None; body = ((record { kind = s.Return (Some ((record { kind = e.Int (pos 1); span = record { from = 244; to = 245 } }))); span = record { from = 237; to = 246 } }) ∷ []); span = record { from = 217; to = 248 } })) ∷ []); span = record { from = 0; to = 250 } }) ∷ [])

annotations_errors : listed (derived (notes annotations)) ≡ (record { rule = rule.WrongTarget; span = record { from = 30; to = 40 } } ∷ record { rule = rule.BadArgument; span = record { from = 52; to = 63 } } ∷ record { rule = rule.UnknownAnnotation; span = record { from = 70; to = 74 } } ∷ record { rule = rule.BadArgument; span = record { from = 89; to = 112 } } ∷ record { rule = rule.WrongTarget; span = record { from = 120; to = 132 } } ∷ record { rule = rule.TypeMismatch; span = record { from = 166; to = 189 } } ∷ [])
unfolding expanded row_named plan
annotations_errors = simp equations refl

-- class P { P(int a) { } } class A extends P { B() { super(); return 1; } static A() { super(true); } } class C extends P { C() { super(this.h()); } int h() { return 1; } } class D extends Q { D() { super(1, null); } }
abbrev constructors : List ClassDecl
constructors = ((record { name = (record { text = (codes "P"); span = record { from = 6; to = 7 } }); parent = None; members = ((m.Method (record { mods = (record { is_static = false; is_final = false; is_private = false; annots = ([]) }); result = None; constructor = true; name = (record { text = (codes "P"); span = record { from = 10; to = 11 } }); params = ((record { mods = (record { is_static = false; is_final = false; is_private = false; annots = ([]) }); ty = (record { base = bt.Int; annots = ([]); depth = 0; span = record { from = 12; to = 15 } }); name = (record { text = (codes "a"); span = record { from = 16; to = 17 } }); init = None }) ∷ []); parent_args = None; body = ([]); span = record { from = 10; to = 22 } })) ∷ []); span = record { from = 0; to = 24 } }) ∷ (record { name = (record { text = (codes "A"); span = record { from = 31; to = 32 } }); parent = (Some ((record { text = (codes "P"); span = record { from = 41; to = 42 } }))); members = ((m.Method (record { mods = (record { is_static = false; is_final = false; is_private = false; annots = ([]) }); result = None; constructor = true; name = (record { text = (codes "B"); span = record { from = 45; to = 46 } }); params = ([]); parent_args = (Some (([]))); body = ((record { kind = s.Return (Some ((record { kind = e.Int (pos 1); span = record { from = 67; to = 68 } }))); span = record { from = 60; to = 69 } }) ∷ []); span = record { from = 45; to = 71 } })) ∷ (m.Method (record { mods = (record { is_static = true; is_final = false; is_private = false; annots = ([]) }); result = None; constructor = true; name = (record { text = (codes "A"); span = record { from = 79; to = 80 } }); params = ([]); parent_args = (Some (((record { kind = e.Bool true; span = record { from = 91; to = 95 } }) ∷ []))); body = ([]); span = record { from = 72; to = 99 } })) ∷ []); span = record { from = 25; to = 101 } }) ∷ (record { name = (record { text = (codes "C"); span = record { from = 108; to = 109 } }); parent = (Some ((record { text = (codes "P"); span = record { from = 118; to = 119 } }))); members = ((m.Method (record { mods = (record { is_static = false; is_final = false; is_private = false; annots = ([]) }); result = None; constructor = true; name = (record { text = (codes "C"); span = record { from = 122; to = 123 } }); params = ([]); parent_args = (Some (((record { kind = e.Call (Some ((record { kind = e.This; span = record { from = 134; to = 138 } }))) (record { text = (codes "h"); span = record { from = 139; to = 140 } }) ([]); span = record { from = 134; to = 142 } }) ∷ []))); body = ([]); span = record { from = 122; to = 146 } })) ∷ (m.Method (record { mods = (record { is_static = false; is_final = false; is_private = false; annots = ([]) }); result = (Some ((record { base = bt.Int; annots = ([]); depth = 0; span = record { from = 147; to = 150 } }))); constructor = false; name = (record { text = (codes "h"); span = record { from = 151; to = 152 } }); params = ([]); parent_args = None; body = ((record { kind = s.Return (Some ((record { kind = e.Int (pos 1); span = record { from = 164; to = 165 } }))); span = record { from = 157; to = 166 } }) ∷ []); span = record { from = 147; to = 168 } })) ∷ []); span = record { from = 102; to = 170 } }) ∷ (record { name = (record { text = (codes "D"); span = record { from = 177; to = 178 } }); parent = (Some ((record { text = (codes "Q"); span = record { from = 187; to = 188 } }))); members = ((m.Method (record { mods = (record { is_static = false; is_final = false; is_private = false; annots = ([]) }); result = None; constructor = true; name = (record { text = (codes "D"); span = record { from = 191; to = 192 } }); params = ([]); parent_args = (Some (((record { kind = e.Int (pos 1); span = record { from = 203; to = 204 } }) ∷ (record { kind = e.Null; span = record { from = 206; to = 210 } }) ∷ []))); body = ([]); span = record { from = 191; to = 214 } })) ∷ []); span = record { from = 171; to = 216 } }) ∷ [])

constructors_errors : listed (derived (notes constructors)) ≡ (record { rule = rule.UnknownName; span = record { from = 45; to = 46 } } ∷ record { rule = rule.WrongArguments; span = record { from = 45; to = 46 } } ∷ record { rule = rule.TypeMismatch; span = record { from = 67; to = 68 } } ∷ record { rule = rule.NotStatic; span = record { from = 79; to = 80 } } ∷ record { rule = rule.TypeMismatch; span = record { from = 91; to = 95 } } ∷ record { rule = rule.NotStatic; span = record { from = 134; to = 138 } } ∷ record { rule = rule.UnknownName; span = record { from = 187; to = 188 } } ∷ [])
constructors_errors = simp equations refl
