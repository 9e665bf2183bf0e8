-- The classes and methods of a guarded source beside those of the source: they have the same superclasses, and the same methods override the same.
use Rattle.std.proofs.Common.{◌≡◌, ℕ, zero, suc, ◌+◌, Bool, true, false, List, [], ◌∷◌, ◌++◌, map, Option, Some, None, option_map, refl, sym, ap, ap₂, ◌∙◌}
use Rattle.std.specs.Prelude.{◌&&◌, ◌||◌, not, ◌==◌, if◌then◌else◌, slice_get, unwrap_or}
use Rattle.std.proofs.Math.Path.{fun_ext}
use Rattle.std.proofs.lemmas.List.{map-append}
use Rattle.std.proofs.lemmas.Option.{slice_get-map}
use Rattle.ix_tree.specs.declared.annot.Ident.{Ident}
use Rattle.ix_tree.specs.declared.decl.ClassDecl.{ClassDecl}
use Rattle.ix_tree.specs.declared.decl.Member.{Member}
use Rattle.ix_tree.specs.declared.decl.MethodDecl.{MethodDecl}
use Rattle.ix_core.specs.Tables.{most_on_way}
use Rattle.ix_meaning.specs.declared.members.Signature.{Signature}
use Rattle.ix_meaning.specs.Classes.{first_or, first_class, class_named, parent_in_table, parents_by, parents}
use Rattle.ix_meaning.specs.Members.{ClassOf, Callee, signature, methods_in, methods_from, methods, callable_if, is_method_named, own_method, or_nearest, nearest}
use Rattle.ix_meaning.specs.Inheritance.{if_instance}
use Rattle.ix_source.specs.Bodies.{Whole, overridden_by, stands_for, found_in, found}
use Rattle.ix_guard_text.specs.Bare.{nowhere, bare_maybe as maybe}
use Rattle.ix_guard.specs.Accesses.{Access}
use Rattle.ix_guard.specs.Tests.{Site}
use Rattle.ix_guard_text.specs.Moved.{Move, moved_name}
use Rattle.ix_guard_text.specs.TestParts.{Parts}
use Rattle.ix_guard_text.specs.GuardedPlaces as placed
use Rattle.ix_guard_text.specs.GuardedPlaces.{Each, PlacedMethod, PlacedMember, PlacedClass}

-- ---- what overriding asks of a method

abbrev pub outlined : ℕ → List ℕ → Bool → Bool → Signature
outlined class name constructor is_static = record { class = class; name = name; span = nowhere; constructor = constructor; is_static = is_static; is_private = false; params = []; result = None }

abbrev pub outline : Signature → Signature
outline m = outlined m.class m.name m.constructor m.is_static

abbrev outlined_callee : Callee → Callee
outlined_callee callee = record { number = callee.number; signature = outline callee.signature }

own_outlined : (ms : List Signature) (k c : ℕ) (name : List ℕ) → option_map outlined_callee (callable_if (is_method_named c name) k ms) ≡ callable_if (is_method_named c name) k (map outline ms)
own_outlined [] k c name = refl
own_outlined (m ∷ ms) k c name = by (is_method_named c name m) (own_outlined ms (k + 1) c name)
  where
    by : (b : Bool) → option_map outlined_callee (callable_if (is_method_named c name) (k + 1) ms) ≡ callable_if (is_method_named c name) (k + 1) (map outline ms)
        → option_map outlined_callee (if b then Some (record { number = k; signature = m }) else callable_if (is_method_named c name) (k + 1) ms)
        ≡ (if b then Some (record { number = k; signature = outline m }) else callable_if (is_method_named c name) (k + 1) (map outline ms))
    by true rest = refl
    by false rest = rest

instance_outlined : (callee : Option Callee) → option_map outlined_callee (if_instance callee) ≡ if_instance (option_map outlined_callee callee)
instance_outlined None = refl
instance_outlined (Some m) = by m.signature.is_static
  where
    by : (b : Bool) → option_map outlined_callee (if b then None else Some m) ≡ (if b then None else Some (outlined_callee m))
    by true = refl
    by false = refl

nearest_outlined : (own : ℕ → Option Callee) (above : List ℕ) → option_map outlined_callee (nearest own above) ≡ nearest (λ a. option_map outlined_callee (own a)) above
nearest_outlined own [] = refl
nearest_outlined own (a ∷ above) = by (own a) (nearest_outlined own above)
  where
    by : (first : Option Callee) → option_map outlined_callee (nearest own above) ≡ nearest (λ a. option_map outlined_callee (own a)) above
        → option_map outlined_callee (or_nearest first (nearest own above)) ≡ or_nearest (option_map outlined_callee first) (nearest (λ a. option_map outlined_callee (own a)) above)
    by None rest = rest
    by (Some m) rest = refl

number_outlined : (callee : Option Callee) → option_map (λ (m : Callee). m.number) (option_map outlined_callee callee) ≡ option_map (λ (m : Callee). m.number) callee
number_outlined None = refl
number_outlined (Some m) = refl

-- the instance method that the nearest of these classes declares with that name
abbrev overridden_above : List Signature → List ℕ → List ℕ → Option ℕ
overridden_above ms name above = option_map (λ (m : Callee). m.number) (nearest (λ a. if_instance (own_method ms a name)) above)

above_outlined : (ms : List Signature) (name above : List ℕ) → overridden_above ms name above ≡ overridden_above (map outline ms) name above
above_outlined ms name above =
    sym (number_outlined (nearest (λ a. if_instance (own_method ms a name)) above))
    ∙ ap (option_map (λ (m : Callee). m.number)) (nearest_outlined (λ a. if_instance (own_method ms a name)) above
    ∙ ap (λ (own : ℕ → Option Callee). nearest own above) (fun_ext (λ a. instance_outlined (own_method ms a name) ∙ ap if_instance (own_outlined ms 0 a name))))

-- ---- two sources with the same outlines and the same superclasses

pub record SameMethods (new old : Whole) : Type 0 where
  pub outlines : map outline new.signatures ≡ map outline old.signatures
  pub supers : (class : ℕ) → new.world.supers class ≡ old.world.supers class
  -- their worlds know these methods
  pub new_methods : (class : ℕ) (name : List ℕ) → new.world.method class name ≡ own_method new.signatures class name
  pub old_methods : (class : ℕ) (name : List ℕ) → old.world.method class name ≡ own_method old.signatures class name

module _ (new old : Whole) (same : SameMethods new old) where
  abbrev above_in : Whole → List ℕ → List ℕ → Option ℕ
  above_in w name above = option_map (λ (m : Callee). m.number) (nearest (λ a. if_instance (w.world.method a name)) above)

  above_same : (name above : List ℕ) → above_in new name above ≡ above_in old name above
  above_same name above =
      ap (λ (own : ℕ → Option Callee). option_map (λ (m : Callee). m.number) (nearest own above)) (fun_ext (λ a. ap if_instance (same.new_methods a name)))
      ∙ above_outlined new.signatures name above ∙ ap (λ ms. overridden_above ms name above) same.outlines ∙ sym (above_outlined old.signatures name above)
      ∙ ap (λ (own : ℕ → Option Callee). option_map (λ (m : Callee). m.number) (nearest own above)) (fun_ext (λ a. ap if_instance (sym (same.old_methods a name))))

  -- what a method with that outline overrides
  overridden_same : (m : Option Signature) → overridden_by new (option_map outline m) ≡ overridden_by old m
  overridden_same None = refl
  overridden_same (Some m) = by (m.constructor || m.is_static)
    where
      by : (b : Bool) → option_map (λ (callee : Callee). callee.number) (if b then None else nearest (λ a. if_instance (new.world.method a m.name)) (new.world.supers m.class))
          ≡ option_map (λ (callee : Callee). callee.number) (if b then None else nearest (λ a. if_instance (old.world.method a m.name)) (old.world.supers m.class))
      by true = refl
      by false = ap (above_in new m.name) (same.supers m.class) ∙ above_same m.name (old.world.supers m.class)

  overridden_itself : (m : Option Signature) → overridden_by new (option_map outline m) ≡ overridden_by new m
  overridden_itself None = refl
  overridden_itself (Some m) = refl

  overrides_same : (method : ℕ) → overridden_by new (slice_get new.signatures method) ≡ overridden_by old (slice_get old.signatures method)
  overrides_same method =
      sym (overridden_itself (slice_get new.signatures method))
      ∙ ap (overridden_by new) (sym (slice_get-map outline new.signatures method) ∙ ap (λ ms. slice_get ms method) same.outlines ∙ slice_get-map outline old.signatures method)
      ∙ overridden_same (slice_get old.signatures method)

  stands_same : (named most : ℕ) (method : Option ℕ) → stands_for new named most method ≡ stands_for old named most method
  stands_same named most None = refl
  stands_same named zero (Some method) = refl
  stands_same named (suc most) (Some method) =
      ap (λ b. if method == named then true else b) (ap (stands_for new named most) (overrides_same method) ∙ stands_same named most (overridden_by old (slice_get old.signatures method)))

  found_outlined : (named class number : ℕ) (ms : List Signature) → found_in new named class number (map outline ms) ≡ found_in new named class number ms
  found_outlined named class number [] = refl
  found_outlined named class number (m ∷ ms) =
      ap (λ (later : Option ℕ). if (m.class == class) && stands_for new named most_on_way (Some number) then Some number else later) (found_outlined named class (number + 1) ms)

  found_beside : (named class number : ℕ) (ms : List Signature) → found_in new named class number ms ≡ found_in old named class number ms
  found_beside named class number [] = refl
  found_beside named class number (m ∷ ms) =
      ap₂ (λ (b : Bool) (later : Option ℕ). if (m.class == class) && b then Some number else later) (stands_same named most_on_way (Some number)) (found_beside named class (number + 1) ms)

  found_in_class : (named class : ℕ) → found_in new named class 0 new.signatures ≡ found_in old named class 0 old.signatures
  found_in_class named class =
      sym (found_outlined named class 0 new.signatures) ∙ ap (found_in new named class 0) same.outlines ∙ found_outlined named class 0 old.signatures ∙ found_beside named class 0 old.signatures

  -- Calls find the same methods.
  pub found_same : (class named : ℕ) → found new class named ≡ found old class named
  found_same class named =
      ap₂ (λ (own : ℕ → Option ℕ) (above : List ℕ). unwrap_or (nearest own (class ∷ above)) named) (fun_ext (λ above. found_in_class named above)) (same.supers class)

-- ---- a guarded source has them

module _ (site : Site) (move : Move) (IsTest : Access → Parts → Type 0) where
  first_class_same : (name : List ℕ) (found : Option ℕ) (k : ℕ) (cs ds : List ClassDecl) → Each (PlacedClass site move IsTest) cs ds → first_class name found k ds ≡ first_class name found k cs
  first_class_same name found k _ _ placed.none = refl
  first_class_same name found k _ _ (placed.one_more {x} {y} {xs} {ys} is rest) =
      ap (λ text. first_class name (first_or found name text k) (k + 1) ys) (ap (λ (name : Ident). name.text) is.name) ∙ first_class_same name (first_or found name x.name.text k) (k + 1) xs ys rest

  class_named_same : (cs ds : List ClassDecl) → Each (PlacedClass site move IsTest) cs ds → class_named ds ≡ class_named cs
  class_named_same cs ds placed = fun_ext (λ name. first_class_same name None 0 cs ds placed)

  parent_same : (class : ClassOf) (name : Option Ident) → parent_in_table class (maybe (moved_name move) name) ≡ parent_in_table class name
  parent_same class None = refl
  parent_same class (Some name) = refl

  parents_by_same : (class : ClassOf) (cs ds : List ClassDecl) → Each (PlacedClass site move IsTest) cs ds → parents_by class ds ≡ parents_by class cs
  parents_by_same class _ _ placed.none = refl
  parents_by_same class _ _ (placed.one_more {x} {y} {xs} {ys} is rest) =
      ap₂ (λ (p : Option ℕ) (ps : List (Option ℕ)). p ∷ ps) (ap (parent_in_table class) is.parent ∙ parent_same class x.parent) (parents_by_same class xs ys rest)

  pub parents_same : (cs ds : List ClassDecl) → Each (PlacedClass site move IsTest) cs ds → parents ds ≡ parents cs
  parents_same cs ds placed = ap (λ (class : ClassOf). parents_by class ds) (class_named_same cs ds placed) ∙ parents_by_same (class_named cs) cs ds placed

  outline_same : (class other : ClassOf) (c : ℕ) (m n : MethodDecl) → PlacedMethod site move IsTest m n → outline (signature other c n) ≡ outline (signature class c m)
  outline_same class other c m n is =
      ap (λ (name : Ident). outlined c name.text n.constructor (n.mods.is_static && not n.constructor)) is.name
      ∙ ap (λ b. outlined c m.name.text b (n.mods.is_static && not b)) is.constructor
      ∙ ap (λ (mods : _). outlined c m.name.text m.constructor (mods.is_static && not m.constructor)) is.mods

  first_outline : (class other : ClassOf) (c : ℕ) (x y : Member) (xs ys : List Member) → PlacedMember site move IsTest x y → map outline (methods_in other c ys) ≡ map outline (methods_in class c xs)
      → map outline (methods_in other c (y ∷ ys)) ≡ map outline (methods_in class c (x ∷ xs))
  first_outline class other c _ _ xs ys (placed.field decl) rest = rest
  first_outline class other c _ _ xs ys (placed.method {old} {new} is) rest = ap₂ (λ (s : Signature) (ss : List Signature). s ∷ ss) (outline_same class other c old new is) rest

  outlines_in : (class other : ClassOf) (c : ℕ) (ms ns : List Member) → Each (PlacedMember site move IsTest) ms ns → map outline (methods_in other c ns) ≡ map outline (methods_in class c ms)
  outlines_in class other c _ _ placed.none = refl
  outlines_in class other c _ _ (placed.one_more {x} {y} {xs} {ys} is rest) = first_outline class other c x y xs ys is (outlines_in class other c xs ys rest)

  outlines_from : (class other : ClassOf) (c : ℕ) (cs ds : List ClassDecl) → Each (PlacedClass site move IsTest) cs ds → map outline (methods_from other c ds) ≡ map outline (methods_from class c cs)
  outlines_from class other c _ _ placed.none = refl
  outlines_from class other c _ _ (placed.one_more {x} {y} {xs} {ys} is rest) =
      map-append outline (methods_in other c y.members) (methods_from other (c + 1) ys)
      ∙ ap₂ (λ (first : List Signature) (later : List Signature). first ++ later) (outlines_in class other c x.members y.members is.members) (outlines_from class other (c + 1) xs ys rest)
      ∙ sym (map-append outline (methods_in class c x.members) (methods_from class (c + 1) xs))

  pub outlines_same : (cs ds : List ClassDecl) → Each (PlacedClass site move IsTest) cs ds → map outline (methods ds) ≡ map outline (methods cs)
  outlines_same cs ds placed = outlines_from (class_named cs) (class_named ds) 0 cs ds placed
