-- One rule a source, against the answers of the independent checker.
use Rattle.std.proofs.Common.{◌≡◌, pos, true, false, Some, None, List, [], ◌∷◌, codes, refl}
use Rattle.ix_tree.specs.declared.decl.ClassDecl.{ClassDecl}
use Rattle.ix_tree.specs.declared.decl.Member.TheVariants as m
use Rattle.ix_tree.specs.declared.annot.AnnotValue.TheVariants as t
use Rattle.ix_tree.specs.declared.annot.BaseTree.TheVariants as bt
use Rattle.ix_tree.specs.declared.expr.ExprKind.TheVariants as e
use Rattle.ix_tree.specs.declared.expr.Init.TheVariants as i
use Rattle.ix_tree.specs.declared.expr.UnaryOp.TheVariants as u
use Rattle.ix_tree.specs.declared.expr.BinaryOp.TheVariants as bo
use Rattle.ix_tree.specs.declared.stmt.StmtKind.TheVariants as s
use Rattle.ix_num.specs.declared.rel.Rel.TheVariants as rl
use Rattle.ix_meaning.specs.declared.note.Rule.TheVariants as rule
use Rattle.ix_annot.specs.Expansion.{expanded}
use Rattle.ix_annot.specs.Table.{row_named}
use Rattle.ix_annot.specs.Arguments.{plan}
use Rattle.ix_meaning.specs.Source.{notes}
use Rattle.ix_meaning.specs.Listed.{derived, listed}
use Rattle.ix_meaning.proofs.Equations.{equations}

-- class A { void k() { int t = t; } }
abbrev own_initialiser : List ClassDecl
own_initialiser = ((record { name = (record { text = (codes "A"); span = record { from = 6; to = 7 } }); parent = None; members = ((m.Method (record { mods = (record { is_static = false; is_final = false; is_private = false; annots = ([]) }); result = None; constructor = false; name = (record { text = (codes "k"); span = record { from = 15; to = 16 } }); params = ([]); parent_args = None; body = ((record { kind = s.Local ((record { mods = (record { is_static = false; is_final = false; is_private = false; annots = ([]) }); ty = (record { base = bt.Int; annots = ([]); depth = 0; span = record { from = 21; to = 24 } }); name = (record { text = (codes "t"); span = record { from = 25; to = 26 } }); init = (Some ((i.Value (record { kind = e.Name (record { text = (codes "t"); span = record { from = 29; to = 30 } }); span = record { from = 29; to = 30 } })))) }) ∷ []); span = record { from = 21; to = 31 } }) ∷ []); span = record { from = 10; to = 33 } })) ∷ []); span = record { from = 0; to = 35 } }) ∷ [])

own_initialiser_errors : listed (derived (notes own_initialiser)) ≡ (record { rule = rule.UnknownName; span = record { from = 29; to = 30 } } ∷ [])
own_initialiser_errors = simp equations refl

-- class A { int f(int[] a) { return a.size; } }
abbrev no_member_of_an_array : List ClassDecl
no_member_of_an_array = ((record { name = (record { text = (codes "A"); span = record { from = 6; to = 7 } }); parent = None; members = ((m.Method (record { mods = (record { is_static = false; is_final = false; is_private = false; annots = ([]) }); result = (Some ((record { base = bt.Int; annots = ([]); depth = 0; span = record { from = 10; to = 13 } }))); constructor = false; name = (record { text = (codes "f"); span = record { from = 14; to = 15 } }); params = ((record { mods = (record { is_static = false; is_final = false; is_private = false; annots = ([]) }); ty = (record { base = bt.Int; annots = ([]); depth = 1; span = record { from = 16; to = 21 } }); name = (record { text = (codes "a"); span = record { from = 22; to = 23 } }); init = None }) ∷ []); parent_args = None; body = ((record { kind = s.Return (Some ((record { kind = e.Select (record { kind = e.Name (record { text = (codes "a"); span = record { from = 34; to = 35 } }); span = record { from = 34; to = 35 } }) (record { text = (codes "size"); span = record { from = 36; to = 40 } }); span = record { from = 34; to = 40 } }))); span = record { from = 27; to = 41 } }) ∷ []); span = record { from = 10; to = 43 } })) ∷ []); span = record { from = 0; to = 45 } }) ∷ [])

no_member_of_an_array_errors : listed (derived (notes no_member_of_an_array)) ≡ (record { rule = rule.UnknownName; span = record { from = 36; to = 40 } } ∷ [])
no_member_of_an_array_errors = simp equations refl

-- class A { void k() { int i = null; } }
abbrev null_for_an_int : List ClassDecl
null_for_an_int = ((record { name = (record { text = (codes "A"); span = record { from = 6; to = 7 } }); parent = None; members = ((m.Method (record { mods = (record { is_static = false; is_final = false; is_private = false; annots = ([]) }); result = None; constructor = false; name = (record { text = (codes "k"); span = record { from = 15; to = 16 } }); params = ([]); parent_args = None; body = ((record { kind = s.Local ((record { mods = (record { is_static = false; is_final = false; is_private = false; annots = ([]) }); ty = (record { base = bt.Int; annots = ([]); depth = 0; span = record { from = 21; to = 24 } }); name = (record { text = (codes "i"); span = record { from = 25; to = 26 } }); init = (Some ((i.Value (record { kind = e.Null; span = record { from = 29; to = 33 } })))) }) ∷ []); span = record { from = 21; to = 34 } }) ∷ []); span = record { from = 10; to = 36 } })) ∷ []); span = record { from = 0; to = 38 } }) ∷ [])

null_for_an_int_errors : listed (derived (notes null_for_an_int)) ≡ (record { rule = rule.TypeMismatch; span = record { from = 29; to = 33 } } ∷ [])
null_for_an_int_errors = simp equations refl

-- class A { boolean k() { return null == null; } }
abbrev null_beside_null : List ClassDecl
null_beside_null = ((record { name = (record { text = (codes "A"); span = record { from = 6; to = 7 } }); parent = None; members = ((m.Method (record { mods = (record { is_static = false; is_final = false; is_private = false; annots = ([]) }); result = (Some ((record { base = bt.Boolean; annots = ([]); depth = 0; span = record { from = 10; to = 17 } }))); constructor = false; name = (record { text = (codes "k"); span = record { from = 18; to = 19 } }); params = ([]); parent_args = None; body = ((record { kind = s.Return (Some ((record { kind = e.Binary (bo.Compare rl.Eq) (record { kind = e.Null; span = record { from = 31; to = 35 } }) (record { kind = e.Null; span = record { from = 39; to = 43 } }); span = record { from = 31; to = 43 } }))); span = record { from = 24; to = 44 } }) ∷ []); span = record { from = 10; to = 46 } })) ∷ []); span = record { from = 0; to = 48 } }) ∷ [])

null_beside_null_errors : listed (derived (notes null_beside_null)) ≡ (record { rule = rule.TypeMismatch; span = record { from = 31; to = 35 } } ∷ record { rule = rule.TypeMismatch; span = record { from = 39; to = 43 } } ∷ [])
null_beside_null_errors = simp equations refl

-- class A { boolean k(int[] a) { return a == null; } }
abbrev null_beside_an_array : List ClassDecl
null_beside_an_array = ((record { name = (record { text = (codes "A"); span = record { from = 6; to = 7 } }); parent = None; members = ((m.Method (record { mods = (record { is_static = false; is_final = false; is_private = false; annots = ([]) }); result = (Some ((record { base = bt.Boolean; annots = ([]); depth = 0; span = record { from = 10; to = 17 } }))); constructor = false; name = (record { text = (codes "k"); span = record { from = 18; to = 19 } }); params = ((record { mods = (record { is_static = false; is_final = false; is_private = false; annots = ([]) }); ty = (record { base = bt.Int; annots = ([]); depth = 1; span = record { from = 20; to = 25 } }); name = (record { text = (codes "a"); span = record { from = 26; to = 27 } }); init = None }) ∷ []); parent_args = None; body = ((record { kind = s.Return (Some ((record { kind = e.Binary (bo.Compare rl.Eq) (record { kind = e.Name (record { text = (codes "a"); span = record { from = 38; to = 39 } }); span = record { from = 38; to = 39 } }) (record { kind = e.Null; span = record { from = 43; to = 47 } }); span = record { from = 38; to = 47 } }))); span = record { from = 31; to = 48 } }) ∷ []); span = record { from = 10; to = 50 } })) ∷ []); span = record { from = 0; to = 52 } }) ∷ [])

null_beside_an_array_errors : listed (derived (notes null_beside_an_array)) ≡ ([])
null_beside_an_array_errors = simp equations refl

-- class A { boolean k(int[] a, A b) { return a == b; } }
abbrev array_beside_an_object : List ClassDecl
array_beside_an_object = ((record { name = (record { text = (codes "A"); span = record { from = 6; to = 7 } }); parent = None; members = ((m.Method (record { mods = (record { is_static = false; is_final = false; is_private = false; annots = ([]) }); result = (Some ((record { base = bt.Boolean; annots = ([]); depth = 0; span = record { from = 10; to = 17 } }))); constructor = false; name = (record { text = (codes "k"); span = record { from = 18; to = 19 } }); params = ((record { mods = (record { is_static = false; is_final = false; is_private = false; annots = ([]) }); ty = (record { base = bt.Int; annots = ([]); depth = 1; span = record { from = 20; to = 25 } }); name = (record { text = (codes "a"); span = record { from = 26; to = 27 } }); init = None }) ∷ (record { mods = (record { is_static = false; is_final = false; is_private = false; annots = ([]) }); ty = (record { base = (bt.Named (record { text = (codes "A"); span = record { from = 29; to = 30 } })); annots = ([]); depth = 0; span = record { from = 29; to = 30 } }); name = (record { text = (codes "b"); span = record { from = 31; to = 32 } }); init = None }) ∷ []); parent_args = None; body = ((record { kind = s.Return (Some ((record { kind = e.Binary (bo.Compare rl.Eq) (record { kind = e.Name (record { text = (codes "a"); span = record { from = 43; to = 44 } }); span = record { from = 43; to = 44 } }) (record { kind = e.Name (record { text = (codes "b"); span = record { from = 48; to = 49 } }); span = record { from = 48; to = 49 } }); span = record { from = 43; to = 49 } }))); span = record { from = 36; to = 50 } }) ∷ []); span = record { from = 10; to = 52 } })) ∷ []); span = record { from = 0; to = 54 } }) ∷ [])

array_beside_an_object_errors : listed (derived (notes array_beside_an_object)) ≡ (record { rule = rule.TypeMismatch; span = record { from = 43; to = 49 } } ∷ [])
array_beside_an_object_errors = simp equations refl

-- class A { int k() { return; } }
abbrev return_without_a_value : List ClassDecl
return_without_a_value = ((record { name = (record { text = (codes "A"); span = record { from = 6; to = 7 } }); parent = None; members = ((m.Method (record { mods = (record { is_static = false; is_final = false; is_private = false; annots = ([]) }); result = (Some ((record { base = bt.Int; annots = ([]); depth = 0; span = record { from = 10; to = 13 } }))); constructor = false; name = (record { text = (codes "k"); span = record { from = 14; to = 15 } }); params = ([]); parent_args = None; body = ((record { kind = s.Return None; span = record { from = 20; to = 27 } }) ∷ []); span = record { from = 10; to = 29 } })) ∷ []); span = record { from = 0; to = 31 } }) ∷ [])

return_without_a_value_errors : listed (derived (notes return_without_a_value)) ≡ (record { rule = rule.TypeMismatch; span = record { from = 20; to = 26 } } ∷ [])
return_without_a_value_errors = simp equations refl

-- class A { void k() { return 1; } }
abbrev return_with_a_value : List ClassDecl
return_with_a_value = ((record { name = (record { text = (codes "A"); span = record { from = 6; to = 7 } }); parent = None; members = ((m.Method (record { mods = (record { is_static = false; is_final = false; is_private = false; annots = ([]) }); result = None; constructor = false; name = (record { text = (codes "k"); span = record { from = 15; to = 16 } }); params = ([]); parent_args = None; body = ((record { kind = s.Return (Some ((record { kind = e.Int (pos 1); span = record { from = 28; to = 29 } }))); span = record { from = 21; to = 30 } }) ∷ []); span = record { from = 10; to = 32 } })) ∷ []); span = record { from = 0; to = 34 } }) ∷ [])

return_with_a_value_errors : listed (derived (notes return_with_a_value)) ≡ (record { rule = rule.TypeMismatch; span = record { from = 28; to = 29 } } ∷ [])
return_with_a_value_errors = simp equations refl

-- class A { void k(A a) { System.out.println(a); } }
abbrev printed_object : List ClassDecl
printed_object = ((record { name = (record { text = (codes "A"); span = record { from = 6; to = 7 } }); parent = None; members = ((m.Method (record { mods = (record { is_static = false; is_final = false; is_private = false; annots = ([]) }); result = None; constructor = false; name = (record { text = (codes "k"); span = record { from = 15; to = 16 } }); params = ((record { mods = (record { is_static = false; is_final = false; is_private = false; annots = ([]) }); ty = (record { base = (bt.Named (record { text = (codes "A"); span = record { from = 17; to = 18 } })); annots = ([]); depth = 0; span = record { from = 17; to = 18 } }); name = (record { text = (codes "a"); span = record { from = 19; to = 20 } }); init = None }) ∷ []); parent_args = None; body = ((record { kind = s.Print (record { kind = e.Name (record { text = (codes "a"); span = record { from = 43; to = 44 } }); span = record { from = 43; to = 44 } }); span = record { from = 24; to = 46 } }) ∷ []); span = record { from = 10; to = 48 } })) ∷ []); span = record { from = 0; to = 50 } }) ∷ [])

printed_object_errors : listed (derived (notes printed_object)) ≡ (record { rule = rule.TypeMismatch; span = record { from = 43; to = 44 } } ∷ [])
printed_object_errors = simp equations refl

-- class A { int k(int i) { return i.x; } }
abbrev field_of_an_int : List ClassDecl
field_of_an_int = ((record { name = (record { text = (codes "A"); span = record { from = 6; to = 7 } }); parent = None; members = ((m.Method (record { mods = (record { is_static = false; is_final = false; is_private = false; annots = ([]) }); result = (Some ((record { base = bt.Int; annots = ([]); depth = 0; span = record { from = 10; to = 13 } }))); constructor = false; name = (record { text = (codes "k"); span = record { from = 14; to = 15 } }); params = ((record { mods = (record { is_static = false; is_final = false; is_private = false; annots = ([]) }); ty = (record { base = bt.Int; annots = ([]); depth = 0; span = record { from = 16; to = 19 } }); name = (record { text = (codes "i"); span = record { from = 20; to = 21 } }); init = None }) ∷ []); parent_args = None; body = ((record { kind = s.Return (Some ((record { kind = e.Select (record { kind = e.Name (record { text = (codes "i"); span = record { from = 32; to = 33 } }); span = record { from = 32; to = 33 } }) (record { text = (codes "x"); span = record { from = 34; to = 35 } }); span = record { from = 32; to = 35 } }))); span = record { from = 25; to = 36 } }) ∷ []); span = record { from = 10; to = 38 } })) ∷ []); span = record { from = 0; to = 40 } }) ∷ [])

field_of_an_int_errors : listed (derived (notes field_of_an_int)) ≡ (record { rule = rule.TypeMismatch; span = record { from = 32; to = 33 } } ∷ [])
field_of_an_int_errors = simp equations refl

-- class A { int k(int i) { return i[0]; } }
abbrev index_of_an_int : List ClassDecl
index_of_an_int = ((record { name = (record { text = (codes "A"); span = record { from = 6; to = 7 } }); parent = None; members = ((m.Method (record { mods = (record { is_static = false; is_final = false; is_private = false; annots = ([]) }); result = (Some ((record { base = bt.Int; annots = ([]); depth = 0; span = record { from = 10; to = 13 } }))); constructor = false; name = (record { text = (codes "k"); span = record { from = 14; to = 15 } }); params = ((record { mods = (record { is_static = false; is_final = false; is_private = false; annots = ([]) }); ty = (record { base = bt.Int; annots = ([]); depth = 0; span = record { from = 16; to = 19 } }); name = (record { text = (codes "i"); span = record { from = 20; to = 21 } }); init = None }) ∷ []); parent_args = None; body = ((record { kind = s.Return (Some ((record { kind = e.Index (record { kind = e.Name (record { text = (codes "i"); span = record { from = 32; to = 33 } }); span = record { from = 32; to = 33 } }) (record { kind = e.Int (pos 0); span = record { from = 34; to = 35 } }); span = record { from = 32; to = 36 } }))); span = record { from = 25; to = 37 } }) ∷ []); span = record { from = 10; to = 39 } })) ∷ []); span = record { from = 0; to = 41 } }) ∷ [])

index_of_an_int_errors : listed (derived (notes index_of_an_int)) ≡ (record { rule = rule.TypeMismatch; span = record { from = 32; to = 33 } } ∷ [])
index_of_an_int_errors = simp equations refl

-- class A { int k(int[][] a) { return a[0][1]; } }
abbrev element_of_an_element : List ClassDecl
element_of_an_element = ((record { name = (record { text = (codes "A"); span = record { from = 6; to = 7 } }); parent = None; members = ((m.Method (record { mods = (record { is_static = false; is_final = false; is_private = false; annots = ([]) }); result = (Some ((record { base = bt.Int; annots = ([]); depth = 0; span = record { from = 10; to = 13 } }))); constructor = false; name = (record { text = (codes "k"); span = record { from = 14; to = 15 } }); params = ((record { mods = (record { is_static = false; is_final = false; is_private = false; annots = ([]) }); ty = (record { base = bt.Int; annots = ([]); depth = 2; span = record { from = 16; to = 23 } }); name = (record { text = (codes "a"); span = record { from = 24; to = 25 } }); init = None }) ∷ []); parent_args = None; body = ((record { kind = s.Return (Some ((record { kind = e.Index (record { kind = e.Index (record { kind = e.Name (record { text = (codes "a"); span = record { from = 36; to = 37 } }); span = record { from = 36; to = 37 } }) (record { kind = e.Int (pos 0); span = record { from = 38; to = 39 } }); span = record { from = 36; to = 40 } }) (record { kind = e.Int (pos 1); span = record { from = 41; to = 42 } }); span = record { from = 36; to = 43 } }))); span = record { from = 29; to = 44 } }) ∷ []); span = record { from = 10; to = 46 } })) ∷ []); span = record { from = 0; to = 48 } }) ∷ [])

element_of_an_element_errors : listed (derived (notes element_of_an_element)) ≡ ([])
element_of_an_element_errors = simp equations refl

-- class A { } class B extends A { A k() { return new B(); } }
abbrev subclass_fits : List ClassDecl
subclass_fits = ((record { name = (record { text = (codes "A"); span = record { from = 6; to = 7 } }); parent = None; members = ([]); span = record { from = 0; to = 11 } }) ∷ (record { name = (record { text = (codes "B"); span = record { from = 18; to = 19 } }); parent = (Some ((record { text = (codes "A"); span = record { from = 28; to = 29 } }))); members = ((m.Method (record { mods = (record { is_static = false; is_final = false; is_private = false; annots = ([]) }); result = (Some ((record { base = (bt.Named (record { text = (codes "A"); span = record { from = 32; to = 33 } })); annots = ([]); depth = 0; span = record { from = 32; to = 33 } }))); constructor = false; name = (record { text = (codes "k"); span = record { from = 34; to = 35 } }); params = ([]); parent_args = None; body = ((record { kind = s.Return (Some ((record { kind = e.New (record { text = (codes "B"); span = record { from = 51; to = 52 } }) ([]); span = record { from = 47; to = 54 } }))); span = record { from = 40; to = 55 } }) ∷ []); span = record { from = 32; to = 57 } })) ∷ []); span = record { from = 12; to = 59 } }) ∷ [])

subclass_fits_errors : listed (derived (notes subclass_fits)) ≡ ([])
subclass_fits_errors = simp equations refl

-- class A { } class B extends A { B k() { return new A(); } }
abbrev superclass_does_not_fit : List ClassDecl
superclass_does_not_fit = ((record { name = (record { text = (codes "A"); span = record { from = 6; to = 7 } }); parent = None; members = ([]); span = record { from = 0; to = 11 } }) ∷ (record { name = (record { text = (codes "B"); span = record { from = 18; to = 19 } }); parent = (Some ((record { text = (codes "A"); span = record { from = 28; to = 29 } }))); members = ((m.Method (record { mods = (record { is_static = false; is_final = false; is_private = false; annots = ([]) }); result = (Some ((record { base = (bt.Named (record { text = (codes "B"); span = record { from = 32; to = 33 } })); annots = ([]); depth = 0; span = record { from = 32; to = 33 } }))); constructor = false; name = (record { text = (codes "k"); span = record { from = 34; to = 35 } }); params = ([]); parent_args = None; body = ((record { kind = s.Return (Some ((record { kind = e.New (record { text = (codes "A"); span = record { from = 51; to = 52 } }) ([]); span = record { from = 47; to = 54 } }))); span = record { from = 40; to = 55 } }) ∷ []); span = record { from = 32; to = 57 } })) ∷ []); span = record { from = 12; to = 59 } }) ∷ [])

superclass_does_not_fit_errors : listed (derived (notes superclass_does_not_fit)) ≡ (record { rule = rule.TypeMismatch; span = record { from = 47; to = 54 } } ∷ [])
superclass_does_not_fit_errors = simp equations refl

-- class A { static A k() { return this; } }
abbrev this_in_a_static_method : List ClassDecl
this_in_a_static_method = ((record { name = (record { text = (codes "A"); span = record { from = 6; to = 7 } }); parent = None; members = ((m.Method (record { mods = (record { is_static = true; is_final = false; is_private = false; annots = ([]) }); result = (Some ((record { base = (bt.Named (record { text = (codes "A"); span = record { from = 17; to = 18 } })); annots = ([]); depth = 0; span = record { from = 17; to = 18 } }))); constructor = false; name = (record { text = (codes "k"); span = record { from = 19; to = 20 } }); params = ([]); parent_args = None; body = ((record { kind = s.Return (Some ((record { kind = e.This; span = record { from = 32; to = 36 } }))); span = record { from = 25; to = 37 } }) ∷ []); span = record { from = 10; to = 39 } })) ∷ []); span = record { from = 0; to = 41 } }) ∷ [])

this_in_a_static_method_errors : listed (derived (notes this_in_a_static_method)) ≡ (record { rule = rule.NotStatic; span = record { from = 32; to = 36 } } ∷ [])
this_in_a_static_method_errors = simp equations refl

-- class A { int x; int k() { return A.x; } }
abbrev instance_field_of_a_class : List ClassDecl
instance_field_of_a_class = ((record { name = (record { text = (codes "A"); span = record { from = 6; to = 7 } }); parent = None; members = ((m.Field (record { mods = (record { is_static = false; is_final = false; is_private = false; annots = ([]) }); ty = (record { base = bt.Int; annots = ([]); depth = 0; span = record { from = 10; to = 13 } }); name = (record { text = (codes "x"); span = record { from = 14; to = 15 } }); init = None })) ∷ (m.Method (record { mods = (record { is_static = false; is_final = false; is_private = false; annots = ([]) }); result = (Some ((record { base = bt.Int; annots = ([]); depth = 0; span = record { from = 17; to = 20 } }))); constructor = false; name = (record { text = (codes "k"); span = record { from = 21; to = 22 } }); params = ([]); parent_args = None; body = ((record { kind = s.Return (Some ((record { kind = e.Select (record { kind = e.Name (record { text = (codes "A"); span = record { from = 34; to = 35 } }); span = record { from = 34; to = 35 } }) (record { text = (codes "x"); span = record { from = 36; to = 37 } }); span = record { from = 34; to = 37 } }))); span = record { from = 27; to = 38 } }) ∷ []); span = record { from = 17; to = 40 } })) ∷ []); span = record { from = 0; to = 42 } }) ∷ [])

instance_field_of_a_class_errors : listed (derived (notes instance_field_of_a_class)) ≡ (record { rule = rule.NotStatic; span = record { from = 36; to = 37 } } ∷ [])
instance_field_of_a_class_errors = simp equations refl

-- class A { int x; } class B extends A { int k() { return x; } }
abbrev inherited_field : List ClassDecl
inherited_field = ((record { name = (record { text = (codes "A"); span = record { from = 6; to = 7 } }); parent = None; members = ((m.Field (record { mods = (record { is_static = false; is_final = false; is_private = false; annots = ([]) }); ty = (record { base = bt.Int; annots = ([]); depth = 0; span = record { from = 10; to = 13 } }); name = (record { text = (codes "x"); span = record { from = 14; to = 15 } }); init = None })) ∷ []); span = record { from = 0; to = 18 } }) ∷ (record { name = (record { text = (codes "B"); span = record { from = 25; to = 26 } }); parent = (Some ((record { text = (codes "A"); span = record { from = 35; to = 36 } }))); members = ((m.Method (record { mods = (record { is_static = false; is_final = false; is_private = false; annots = ([]) }); result = (Some ((record { base = bt.Int; annots = ([]); depth = 0; span = record { from = 39; to = 42 } }))); constructor = false; name = (record { text = (codes "k"); span = record { from = 43; to = 44 } }); params = ([]); parent_args = None; body = ((record { kind = s.Return (Some ((record { kind = e.Name (record { text = (codes "x"); span = record { from = 56; to = 57 } }); span = record { from = 56; to = 57 } }))); span = record { from = 49; to = 58 } }) ∷ []); span = record { from = 39; to = 60 } })) ∷ []); span = record { from = 19; to = 62 } }) ∷ [])

inherited_field_errors : listed (derived (notes inherited_field)) ≡ ([])
inherited_field_errors = simp equations refl

-- class A { int k() { int[] a = {1, 2}; int b = {3}; return a[0]; } }
abbrev lists_in_braces : List ClassDecl
lists_in_braces = ((record { name = (record { text = (codes "A"); span = record { from = 6; to = 7 } }); parent = None; members = ((m.Method (record { mods = (record { is_static = false; is_final = false; is_private = false; annots = ([]) }); result = (Some ((record { base = bt.Int; annots = ([]); depth = 0; span = record { from = 10; to = 13 } }))); constructor = false; name = (record { text = (codes "k"); span = record { from = 14; to = 15 } }); params = ([]); parent_args = None; body = ((record { kind = s.Local ((record { mods = (record { is_static = false; is_final = false; is_private = false; annots = ([]) }); ty = (record { base = bt.Int; annots = ([]); depth = 1; span = record { from = 20; to = 25 } }); name = (record { text = (codes "a"); span = record { from = 26; to = 27 } }); init = (Some ((i.Items ((i.Value (record { kind = e.Int (pos 1); span = record { from = 31; to = 32 } })) ∷ (i.Value (record { kind = e.Int (pos 2); span = record { from = 34; to = 35 } })) ∷ []) (record { from = 30; to = 36 })))) }) ∷ []); span = record { from = 20; to = 37 } }) ∷ (record { kind = s.Local ((record { mods = (record { is_static = false; is_final = false; is_private = false; annots = ([]) }); ty = (record { base = bt.Int; annots = ([]); depth = 0; span = record { from = 38; to = 41 } }); name = (record { text = (codes "b"); span = record { from = 42; to = 43 } }); init = (Some ((i.Items ((i.Value (record { kind = e.Int (pos 3); span = record { from = 47; to = 48 } })) ∷ []) (record { from = 46; to = 49 })))) }) ∷ []); span = record { from = 38; to = 50 } }) ∷ (record { kind = s.Return (Some ((record { kind = e.Index (record { kind = e.Name (record { text = (codes "a"); span = record { from = 58; to = 59 } }); span = record { from = 58; to = 59 } }) (record { kind = e.Int (pos 0); span = record { from = 60; to = 61 } }); span = record { from = 58; to = 62 } }))); span = record { from = 51; to = 63 } }) ∷ []); span = record { from = 10; to = 65 } })) ∷ []); span = record { from = 0; to = 67 } }) ∷ [])

lists_in_braces_errors : listed (derived (notes lists_in_braces)) ≡ (record { rule = rule.TypeMismatch; span = record { from = 46; to = 49 } } ∷ [])
lists_in_braces_errors = simp equations refl

-- class A { boolean k(boolean b) { return !b && true || 1 < 2; } }
abbrev boolean_operators : List ClassDecl
boolean_operators = ((record { name = (record { text = (codes "A"); span = record { from = 6; to = 7 } }); parent = None; members = ((m.Method (record { mods = (record { is_static = false; is_final = false; is_private = false; annots = ([]) }); result = (Some ((record { base = bt.Boolean; annots = ([]); depth = 0; span = record { from = 10; to = 17 } }))); constructor = false; name = (record { text = (codes "k"); span = record { from = 18; to = 19 } }); params = ((record { mods = (record { is_static = false; is_final = false; is_private = false; annots = ([]) }); ty = (record { base = bt.Boolean; annots = ([]); depth = 0; span = record { from = 20; to = 27 } }); name = (record { text = (codes "b"); span = record { from = 28; to = 29 } }); init = None }) ∷ []); parent_args = None; body = ((record { kind = s.Return (Some ((record { kind = e.Binary bo.OrElse (record { kind = e.Binary bo.AndAlso (record { kind = e.Unary u.Not (record { kind = e.Name (record { text = (codes "b"); span = record { from = 41; to = 42 } }); span = record { from = 41; to = 42 } }); span = record { from = 40; to = 42 } }) (record { kind = e.Bool true; span = record { from = 46; to = 50 } }); span = record { from = 40; to = 50 } }) (record { kind = e.Binary (bo.Compare rl.Lt) (record { kind = e.Int (pos 1); span = record { from = 54; to = 55 } }) (record { kind = e.Int (pos 2); span = record { from = 58; to = 59 } }); span = record { from = 54; to = 59 } }); span = record { from = 40; to = 59 } }))); span = record { from = 33; to = 60 } }) ∷ []); span = record { from = 10; to = 62 } })) ∷ []); span = record { from = 0; to = 64 } }) ∷ [])

boolean_operators_errors : listed (derived (notes boolean_operators)) ≡ ([])
boolean_operators_errors = simp equations refl

-- class A { int k() { return m(); } }
abbrev unknown_method : List ClassDecl
unknown_method = ((record { name = (record { text = (codes "A"); span = record { from = 6; to = 7 } }); parent = None; members = ((m.Method (record { mods = (record { is_static = false; is_final = false; is_private = false; annots = ([]) }); result = (Some ((record { base = bt.Int; annots = ([]); depth = 0; span = record { from = 10; to = 13 } }))); constructor = false; name = (record { text = (codes "k"); span = record { from = 14; to = 15 } }); params = ([]); parent_args = None; body = ((record { kind = s.Return (Some ((record { kind = e.Call None (record { text = (codes "m"); span = record { from = 27; to = 28 } }) ([]); span = record { from = 27; to = 30 } }))); span = record { from = 20; to = 31 } }) ∷ []); span = record { from = 10; to = 33 } })) ∷ []); span = record { from = 0; to = 35 } }) ∷ [])

unknown_method_errors : listed (derived (notes unknown_method)) ≡ (record { rule = rule.UnknownName; span = record { from = 27; to = 28 } } ∷ [])
unknown_method_errors = simp equations refl

-- class A { A k() { return new B(); } }
abbrev unknown_class_made : List ClassDecl
unknown_class_made = ((record { name = (record { text = (codes "A"); span = record { from = 6; to = 7 } }); parent = None; members = ((m.Method (record { mods = (record { is_static = false; is_final = false; is_private = false; annots = ([]) }); result = (Some ((record { base = (bt.Named (record { text = (codes "A"); span = record { from = 10; to = 11 } })); annots = ([]); depth = 0; span = record { from = 10; to = 11 } }))); constructor = false; name = (record { text = (codes "k"); span = record { from = 12; to = 13 } }); params = ([]); parent_args = None; body = ((record { kind = s.Return (Some ((record { kind = e.New (record { text = (codes "B"); span = record { from = 29; to = 30 } }) ([]); span = record { from = 25; to = 32 } }))); span = record { from = 18; to = 33 } }) ∷ []); span = record { from = 10; to = 35 } })) ∷ []); span = record { from = 0; to = 37 } }) ∷ [])

unknown_class_made_errors : listed (derived (notes unknown_class_made)) ≡ (record { rule = rule.UnknownName; span = record { from = 29; to = 30 } } ∷ [])
unknown_class_made_errors = simp equations refl

-- class A { int k() { return k(1); } }
abbrev argument_too_many : List ClassDecl
argument_too_many = ((record { name = (record { text = (codes "A"); span = record { from = 6; to = 7 } }); parent = None; members = ((m.Method (record { mods = (record { is_static = false; is_final = false; is_private = false; annots = ([]) }); result = (Some ((record { base = bt.Int; annots = ([]); depth = 0; span = record { from = 10; to = 13 } }))); constructor = false; name = (record { text = (codes "k"); span = record { from = 14; to = 15 } }); params = ([]); parent_args = None; body = ((record { kind = s.Return (Some ((record { kind = e.Call None (record { text = (codes "k"); span = record { from = 27; to = 28 } }) ((record { kind = e.Int (pos 1); span = record { from = 29; to = 30 } }) ∷ []); span = record { from = 27; to = 31 } }))); span = record { from = 20; to = 32 } }) ∷ []); span = record { from = 10; to = 34 } })) ∷ []); span = record { from = 0; to = 36 } }) ∷ [])

argument_too_many_errors : listed (derived (notes argument_too_many)) ≡ (record { rule = rule.WrongArguments; span = record { from = 27; to = 28 } } ∷ [])
argument_too_many_errors = simp equations refl

-- class A { int k(final int p) { return p = 1; } }
abbrev final_parameter : List ClassDecl
final_parameter = ((record { name = (record { text = (codes "A"); span = record { from = 6; to = 7 } }); parent = None; members = ((m.Method (record { mods = (record { is_static = false; is_final = false; is_private = false; annots = ([]) }); result = (Some ((record { base = bt.Int; annots = ([]); depth = 0; span = record { from = 10; to = 13 } }))); constructor = false; name = (record { text = (codes "k"); span = record { from = 14; to = 15 } }); params = ((record { mods = (record { is_static = false; is_final = true; is_private = false; annots = ([]) }); ty = (record { base = bt.Int; annots = ([]); depth = 0; span = record { from = 22; to = 25 } }); name = (record { text = (codes "p"); span = record { from = 26; to = 27 } }); init = None }) ∷ []); parent_args = None; body = ((record { kind = s.Return (Some ((record { kind = e.Assign None (record { kind = e.Name (record { text = (codes "p"); span = record { from = 38; to = 39 } }); span = record { from = 38; to = 39 } }) (record { kind = e.Int (pos 1); span = record { from = 42; to = 43 } }); span = record { from = 38; to = 43 } }))); span = record { from = 31; to = 44 } }) ∷ []); span = record { from = 10; to = 46 } })) ∷ []); span = record { from = 0; to = 48 } }) ∷ [])

final_parameter_errors : listed (derived (notes final_parameter)) ≡ (record { rule = rule.FinalAssigned; span = record { from = 38; to = 39 } } ∷ [])
final_parameter_errors = simp equations refl

-- class A { final int x; int k(A a) { return a.x = 2; } }
abbrev final_field_of_another : List ClassDecl
final_field_of_another = ((record { name = (record { text = (codes "A"); span = record { from = 6; to = 7 } }); parent = None; members = ((m.Field (record { mods = (record { is_static = false; is_final = true; is_private = false; annots = ([]) }); ty = (record { base = bt.Int; annots = ([]); depth = 0; span = record { from = 16; to = 19 } }); name = (record { text = (codes "x"); span = record { from = 20; to = 21 } }); init = None })) ∷ (m.Method (record { mods = (record { is_static = false; is_final = false; is_private = false; annots = ([]) }); result = (Some ((record { base = bt.Int; annots = ([]); depth = 0; span = record { from = 23; to = 26 } }))); constructor = false; name = (record { text = (codes "k"); span = record { from = 27; to = 28 } }); params = ((record { mods = (record { is_static = false; is_final = false; is_private = false; annots = ([]) }); ty = (record { base = (bt.Named (record { text = (codes "A"); span = record { from = 29; to = 30 } })); annots = ([]); depth = 0; span = record { from = 29; to = 30 } }); name = (record { text = (codes "a"); span = record { from = 31; to = 32 } }); init = None }) ∷ []); parent_args = None; body = ((record { kind = s.Return (Some ((record { kind = e.Assign None (record { kind = e.Select (record { kind = e.Name (record { text = (codes "a"); span = record { from = 43; to = 44 } }); span = record { from = 43; to = 44 } }) (record { text = (codes "x"); span = record { from = 45; to = 46 } }); span = record { from = 43; to = 46 } }) (record { kind = e.Int (pos 2); span = record { from = 49; to = 50 } }); span = record { from = 43; to = 50 } }))); span = record { from = 36; to = 51 } }) ∷ []); span = record { from = 23; to = 53 } })) ∷ []); span = record { from = 0; to = 55 } }) ∷ [])

final_field_of_another_errors : listed (derived (notes final_field_of_another)) ≡ (record { rule = rule.FinalAssigned; span = record { from = 45; to = 46 } } ∷ [])
final_field_of_another_errors = simp equations refl

-- class A { int k(int[] a) { return a.length = 1; } }
abbrev length_assigned : List ClassDecl
length_assigned = ((record { name = (record { text = (codes "A"); span = record { from = 6; to = 7 } }); parent = None; members = ((m.Method (record { mods = (record { is_static = false; is_final = false; is_private = false; annots = ([]) }); result = (Some ((record { base = bt.Int; annots = ([]); depth = 0; span = record { from = 10; to = 13 } }))); constructor = false; name = (record { text = (codes "k"); span = record { from = 14; to = 15 } }); params = ((record { mods = (record { is_static = false; is_final = false; is_private = false; annots = ([]) }); ty = (record { base = bt.Int; annots = ([]); depth = 1; span = record { from = 16; to = 21 } }); name = (record { text = (codes "a"); span = record { from = 22; to = 23 } }); init = None }) ∷ []); parent_args = None; body = ((record { kind = s.Return (Some ((record { kind = e.Assign None (record { kind = e.Select (record { kind = e.Name (record { text = (codes "a"); span = record { from = 34; to = 35 } }); span = record { from = 34; to = 35 } }) (record { text = (codes "length"); span = record { from = 36; to = 42 } }); span = record { from = 34; to = 42 } }) (record { kind = e.Int (pos 1); span = record { from = 45; to = 46 } }); span = record { from = 34; to = 46 } }))); span = record { from = 27; to = 47 } }) ∷ []); span = record { from = 10; to = 49 } })) ∷ []); span = record { from = 0; to = 51 } }) ∷ [])

length_assigned_errors : listed (derived (notes length_assigned)) ≡ (record { rule = rule.NotAssignable; span = record { from = 36; to = 42 } } ∷ [])
length_assigned_errors = simp equations refl

-- class A { boolean k(boolean b) { return b++; } }
abbrev step_of_a_boolean : List ClassDecl
step_of_a_boolean = ((record { name = (record { text = (codes "A"); span = record { from = 6; to = 7 } }); parent = None; members = ((m.Method (record { mods = (record { is_static = false; is_final = false; is_private = false; annots = ([]) }); result = (Some ((record { base = bt.Boolean; annots = ([]); depth = 0; span = record { from = 10; to = 17 } }))); constructor = false; name = (record { text = (codes "k"); span = record { from = 18; to = 19 } }); params = ((record { mods = (record { is_static = false; is_final = false; is_private = false; annots = ([]) }); ty = (record { base = bt.Boolean; annots = ([]); depth = 0; span = record { from = 20; to = 27 } }); name = (record { text = (codes "b"); span = record { from = 28; to = 29 } }); init = None }) ∷ []); parent_args = None; body = ((record { kind = s.Return (Some ((record { kind = e.Step true true (record { kind = e.Name (record { text = (codes "b"); span = record { from = 40; to = 41 } }); span = record { from = 40; to = 41 } }); span = record { from = 40; to = 43 } }))); span = record { from = 33; to = 44 } }) ∷ []); span = record { from = 10; to = 46 } })) ∷ []); span = record { from = 0; to = 48 } }) ∷ [])

step_of_a_boolean_errors : listed (derived (notes step_of_a_boolean)) ≡ (record { rule = rule.TypeMismatch; span = record { from = 40; to = 41 } } ∷ [])
step_of_a_boolean_errors = simp equations refl

-- class A { boolean k(B b) { return b.x == b; } }
abbrev part_without_a_type : List ClassDecl
part_without_a_type = ((record { name = (record { text = (codes "A"); span = record { from = 6; to = 7 } }); parent = None; members = ((m.Method (record { mods = (record { is_static = false; is_final = false; is_private = false; annots = ([]) }); result = (Some ((record { base = bt.Boolean; annots = ([]); depth = 0; span = record { from = 10; to = 17 } }))); constructor = false; name = (record { text = (codes "k"); span = record { from = 18; to = 19 } }); params = ((record { mods = (record { is_static = false; is_final = false; is_private = false; annots = ([]) }); ty = (record { base = (bt.Named (record { text = (codes "B"); span = record { from = 20; to = 21 } })); annots = ([]); depth = 0; span = record { from = 20; to = 21 } }); name = (record { text = (codes "b"); span = record { from = 22; to = 23 } }); init = None }) ∷ []); parent_args = None; body = ((record { kind = s.Return (Some ((record { kind = e.Binary (bo.Compare rl.Eq) (record { kind = e.Select (record { kind = e.Name (record { text = (codes "b"); span = record { from = 34; to = 35 } }); span = record { from = 34; to = 35 } }) (record { text = (codes "x"); span = record { from = 36; to = 37 } }); span = record { from = 34; to = 37 } }) (record { kind = e.Name (record { text = (codes "b"); span = record { from = 41; to = 42 } }); span = record { from = 41; to = 42 } }); span = record { from = 34; to = 42 } }))); span = record { from = 27; to = 43 } }) ∷ []); span = record { from = 10; to = 45 } })) ∷ []); span = record { from = 0; to = 47 } }) ∷ [])

part_without_a_type_errors : listed (derived (notes part_without_a_type)) ≡ (record { rule = rule.UnknownName; span = record { from = 20; to = 21 } } ∷ [])
part_without_a_type_errors = simp equations refl

-- class A { int[] q; } class B extends A { @IntRange(from=1, to=0) int k; }
abbrev refused_range : List ClassDecl
refused_range = ((record { name = (record { text = (codes "A"); span = record { from = 6; to = 7 } }); parent = None; members = ((m.Field (record { mods = (record { is_static = false; is_final = false; is_private = false; annots = ([]) }); ty = (record { base = bt.Int; annots = ([]); depth = 1; span = record { from = 10; to = 15 } }); name = (record { text = (codes "q"); span = record { from = 16; to = 17 } }); init = None })) ∷ []); span = record { from = 0; to = 20 } }) ∷ (record { name = (record { text = (codes "B"); span = record { from = 27; to = 28 } }); parent = (Some ((record { text = (codes "A"); span = record { from = 37; to = 38 } }))); members = ((m.Field (record { mods = (record { is_static = false; is_final = false; is_private = false; annots = ((record { name = (record { text = (codes "IntRange"); span = record { from = 42; to = 50 } }); args = ((record { name = (Some ((record { text = (codes "from"); span = record { from = 51; to = 55 } }))); value = (t.Number (pos 1)); span = record { from = 51; to = 57 } }) ∷ (record { name = (Some ((record { text = (codes "to"); span = record { from = 59; to = 61 } }))); value = (t.Number (pos 0)); span = record { from = 59; to = 63 } }) ∷ []); span = record { from = 41; to = 64 } }) ∷ []) }); ty = (record { base = bt.Int; annots = ([]); depth = 0; span = record { from = 65; to = 68 } }); name = (record { text = (codes "k"); span = record { from = 69; to = 70 } }); init = None })) ∷ []); span = record { from = 21; to = 73 } }) ∷ [])

refused_range_errors : listed (derived (notes refused_range)) ≡ (record { rule = rule.BadArgument; span = record { from = 41; to = 64 } } ∷ [])
unfolding expanded row_named plan
refused_range_errors = refl
