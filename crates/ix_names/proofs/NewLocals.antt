-- A local whose name means nothing yet comes last.
use Rattle.std.proofs.Common.{◌≡◌, ℕ, Option, Some, None, option_map, List, [], ◌∷◌, ◌++◌, refl, ap, sym, ◌∙◌, map, append_assoc, bytes_eq, string_bytes}
use Rattle.std.proofs.lemmas.List.{map-append}
use Rattle.std.specs.Prelude.{String}
use Rattle.std.specs.declared.alloc.Global.{Global}
use Rattle.std.specs.Map.{lookup}
use Rattle.ix_annot.specs.Named.{or_else}
use Rattle.ix_meaning.specs.Scope.{Known, meant}
use Rattle.ix_expression_types.specs.declared.scope.Local.{Local}
use Rattle.ix_expression_types.specs.Here.{local_known, local_known_as}
use Rattle.ix_expression_types.proofs.MeantNames.{meant_append, meant_local}

second_none : {A : Type 0} (a b : Option A) → or_else a b ≡ None → b ≡ None
second_none None b is = is
second_none (Some x) b is = cc

unmapped_none : {A B : Type 0} (f : A → B) (o : Option A) → option_map f o ≡ None → o ≡ None
unmapped_none f None is = refl
unmapped_none f (Some a) is = cc

pub unknown_local : (name : List ℕ) (ks : List Known) (es : List (String Global × Local)) → meant name (ks ++ map local_known es) ≡ None
    → lookup (λ k. bytes_eq name (string_bytes k)) es ≡ None
unknown_local name ks es is =
    unmapped_none (local_known_as name) (lookup (λ k. bytes_eq name (string_bytes k)) es)
    (meant_local name es ∙ second_none (meant name ks) (meant name (map local_known es)) (sym (meant_append name ks (map local_known es)) ∙ is))

pub one_more_name : (ks : List Known) (es : List (String Global × Local)) (key : String Global) (name : List ℕ) (l : Local) → string_bytes key ≡ name
    → ks ++ map local_known (es ++ (key, l) ∷ []) ≡ (ks ++ map local_known es) ++ local_known_as name l ∷ []
one_more_name ks es key name l is =
    ap (λ more. ks ++ more) (map-append local_known es ((key, l) ∷ []))
    ∙ sym (append_assoc ks (map local_known es) (local_known (key, l) ∷ []))
    ∙ ap (λ n. (ks ++ map local_known es) ++ local_known_as n l ∷ []) is
