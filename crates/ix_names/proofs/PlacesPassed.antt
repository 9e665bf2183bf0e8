-- The name at a place of a list, and what stands there of one list behind another.
use Rattle.std.proofs.Common.{zero, suc, ◌≡◌, ℕ, ◌-◌, ◌<◌, ◌≤◌, Option, Some, None, option_map, List, [], ◌∷◌, ◌++◌, length, slice_get, refl, ◌∙◌, ap, arith}
use Rattle.ix_tree.specs.declared.annot.Ident.{Ident}
use Rattle.ix_tree.specs.declared.decl.ClassDecl.{ClassDecl}
use Rattle.ix_tree.specs.declared.decl.LocalDecl.{LocalDecl}
use Rattle.ix_tree.specs.declared.decl.MethodDecl.{MethodDecl}
use Rattle.ix_meaning.specs.declared.note.Which.{Which}
use Rattle.ix_meaning.specs.Limits.{passed, past_names, class_names, param_names, method_names}

class_name_at : (cs : List ClassDecl) (n : ℕ) → slice_get (class_names cs) n ≡ option_map (λ c. c.name) (slice_get cs n)
class_name_at [] n = refl
class_name_at (c ∷ cs) zero = refl
class_name_at (c ∷ cs) (suc n) = class_name_at cs n

param_name_at : (ds : List LocalDecl) (n : ℕ) → slice_get (param_names ds) n ≡ option_map (λ d. d.name) (slice_get ds n)
param_name_at [] n = refl
param_name_at (d ∷ ds) zero = refl
param_name_at (d ∷ ds) (suc n) = param_name_at ds n

method_name_at : (ms : List MethodDecl) (n : ℕ) → slice_get (method_names ms) n ≡ option_map (λ m. m.name) (slice_get ms n)
method_name_at [] n = refl
method_name_at (m ∷ ms) zero = refl
method_name_at (m ∷ ms) (suc n) = method_name_at ms n

by_name : {A : Type 0} (w : Which) (name : A → Ident) (o : Option A) → option_map (λ n. passed w n) (option_map name o) ≡ option_map (λ x. passed w (name x)) o
by_name w name None = refl
by_name w name (Some x) = refl

pub past_class_at : (w : Which) (n : ℕ) (cs : List ClassDecl) → past_names w n (class_names cs) ≡ option_map (λ c. passed w c.name) (slice_get cs n)
past_class_at w n cs = ap (option_map (λ name. passed w name)) (class_name_at cs n) ∙ by_name w (λ c. c.name) (slice_get cs n)

pub past_param_at : (w : Which) (n : ℕ) (ds : List LocalDecl) → past_names w n (param_names ds) ≡ option_map (λ d. passed w d.name) (slice_get ds n)
past_param_at w n ds = ap (option_map (λ name. passed w name)) (param_name_at ds n) ∙ by_name w (λ d. d.name) (slice_get ds n)

pub past_method_at : (w : Which) (n : ℕ) (ms : List MethodDecl) → past_names w n (method_names ms) ≡ option_map (λ m. passed w m.name) (slice_get ms n)
past_method_at w n ms = ap (option_map (λ name. passed w name)) (method_name_at ms n) ∙ by_name w (λ m. m.name) (slice_get ms n)

pub get_front : {A : Type 0} (xs ys : List A) (n : ℕ) → n < length xs → slice_get (xs ++ ys) n ≡ slice_get xs n
get_front [] ys n lt = absurd (omega (arith, lt))
get_front (x ∷ xs) ys zero lt = refl
get_front (x ∷ xs) ys (suc n) lt = get_front xs ys n (omega (arith, lt))

pub get_behind : {A : Type 0} (xs ys : List A) (n : ℕ) → length xs ≤ n → slice_get (xs ++ ys) n ≡ slice_get ys (n - length xs)
get_behind [] ys n le = let e : n ≡ n - 0 = omega arith in ap (slice_get ys) e
get_behind (x ∷ xs) ys zero le = absurd (omega (arith, le))
get_behind (x ∷ xs) ys (suc n) le =
    let e : n - length xs ≡ suc n - length (x ∷ xs) = omega arith in
    get_behind xs ys n (omega (arith, le)) ∙ ap (slice_get ys) e
