-- What a name means among several.
use Rattle.std.proofs.Common.{◌≡◌, ℕ, Bool, true, false, cond, Option, Some, None, option_map, List, [], ◌∷◌, ◌++◌, refl, ap, sym, ◌∙◌, map, bytes_eq, string_bytes}
use Rattle.std.specs.Prelude.{String}
use Rattle.std.specs.declared.alloc.Global.{Global}
use Rattle.std.proofs.lemmas.Bool.{both_ways, false_from_ne_true}
use Rattle.std.specs.Map.{lookup}
use Rattle.std.proofs.lemmas.Slice.Eq.{bytes_eq-Decides}
use Rattle.ix_annot.specs.Named.{or_else}
use Rattle.ix_meaning.specs.Scope.{Known, meant, is_param, param_numbered}
use Rattle.ix_expression_types.specs.declared.scope.Local.{Local}
use Rattle.ix_expression_types.specs.Here.{local_known, local_known_as}

append_by : (b : Bool) (name : List ℕ) (k : Known) (ks more : List Known) → meant name (ks ++ more) ≡ or_else (meant name ks) (meant name more)
    → cond b (Some k) (meant name (ks ++ more)) ≡ or_else (cond b (Some k) (meant name ks)) (meant name more)
append_by true name k ks more rest = refl
append_by false name k ks more rest = rest

pub meant_append : (name : List ℕ) (ks more : List Known) → meant name (ks ++ more) ≡ or_else (meant name ks) (meant name more)
meant_append name [] more = refl
meant_append name (k ∷ ks) more = append_by (bytes_eq k.name name) name k ks more (meant_append name ks more)

-- a local is kept by its name
same_text : (a b : List ℕ) → a ≡ b → bytes_eq a b ≡ true
same_text a b = (bytes_eq-Decides a b).1

flipped : (a b : List ℕ) → bytes_eq a b ≡ false → bytes_eq b a ≡ false
flipped a b ne = false_from_ne_true (bytes_eq b a) (λ at. both_ways (bytes_eq a b) ne (same_text a b (sym ((bytes_eq-Decides b a).0 at))))

local_by : (b : Bool) (name key : List ℕ) (l : Local) (found : Option Local) (rest : Option Known) → bytes_eq name key ≡ b → option_map (local_known_as name) found ≡ rest
    → option_map (local_known_as name) (cond b (Some l) found) ≡ cond (bytes_eq key name) (Some (local_known_as key l)) rest
local_by true name key l found rest at same =
    let e : name ≡ key = (bytes_eq-Decides name key).0 at in
    ap (λ k. Some (local_known_as k l)) e ∙ ap (λ b. cond b (Some (local_known_as key l)) rest) (sym (same_text key name (sym e)))
local_by false name key l found rest at same =
    same ∙ ap (λ b. cond b (Some (local_known_as key l)) rest) (sym (flipped name key at))

pub meant_local : (name : List ℕ) (es : List (String Global × Local)) → option_map (local_known_as name) (lookup (λ k. bytes_eq name (string_bytes k)) es) ≡ meant name (map local_known es)
meant_local name [] = refl
meant_local name (e ∷ es) =
    local_by (bytes_eq name (string_bytes e.0)) name (string_bytes e.0) e.1 (lookup (λ k. bytes_eq name (string_bytes k)) es) (meant name (map local_known es)) refl (meant_local name es)

-- ---- parameters by their numbers

numbered_by : (b : Bool) (number : ℕ) (k : Known) (ks more : List Known) → param_numbered number (ks ++ more) ≡ or_else (param_numbered number ks) (param_numbered number more)
    → cond b (Some k) (param_numbered number (ks ++ more)) ≡ or_else (cond b (Some k) (param_numbered number ks)) (param_numbered number more)
numbered_by true number k ks more rest = refl
numbered_by false number k ks more rest = rest

pub numbered_append : (number : ℕ) (ks more : List Known) → param_numbered number (ks ++ more) ≡ or_else (param_numbered number ks) (param_numbered number more)
numbered_append number [] more = refl
numbered_append number (k ∷ ks) more = numbered_by (is_param number k.meaning) number k ks more (numbered_append number ks more)

pub number_is_no_local : (number : ℕ) (es : List (String Global × Local)) → param_numbered number (map local_known es) ≡ None
number_is_no_local number [] = refl
number_is_no_local number (e ∷ es) = number_is_no_local number es

or_none : {A : Type 0} (o : Option A) → or_else o None ≡ o
or_none None = refl
or_none (Some a) = refl

pub number_of_params : (number : ℕ) (ks : List Known) (es : List (String Global × Local)) → param_numbered number (ks ++ map local_known es) ≡ param_numbered number ks
number_of_params number ks es =
    numbered_append number ks (map local_known es) ∙ ap (or_else (param_numbered number ks)) (number_is_no_local number es) ∙ or_none (param_numbered number ks)

-- ---- what is meant has the name

some_same : (k found : Known) → Some k ≡ Some found → k ≡ found
some_same k found is = cc

name_by : (b : Bool) (name : List ℕ) (k found : Known) (rest : Option Known) → bytes_eq k.name name ≡ b → (rest ≡ Some found → found.name ≡ name) → cond b (Some k) rest ≡ Some found → found.name ≡ name
name_by true name k found rest at later is = let e : k ≡ found = some_same k found is in sym (ap (λ (x : Known). x.name) e) ∙ (bytes_eq-Decides k.name name).0 at
name_by false name k found rest at later is = later is

pub meant_name : (name : List ℕ) (ks : List Known) (found : Known) → meant name ks ≡ Some found → found.name ≡ name
meant_name name [] found is = cc
meant_name name (k ∷ ks) found is = name_by (bytes_eq k.name name) name k found (meant name ks) refl (meant_name name ks found) is
