-- The keys of the error rules: the word that a report prints for a rule.
use Rattle.std.specs.Prelude.{◌&&◌, ◌==◌, ℕ, Bool, true, not, List, [], ◌∷◌, Option, Some, None, if◌then◌else◌, codes}
use Rattle.std.specs.List.{list_any}

-- the key of the row with this number
abbrev pub key_in : List (ℕ × List ℕ) → ℕ → Option (List ℕ)
key_in [] rule = None
key_in (r ∷ rs) rule = if r.0 == rule then Some r.1 else key_in rs rule

-- no two are the same
abbrev pub all_differ : {T : Type 0} → (T → T → Bool) → List T → Bool
all_differ same [] = true
all_differ same (x ∷ xs) = not (list_any (same x) xs) && all_differ same xs

-- the rules and their keys
abbrev pub rule_keys : List (ℕ × List ℕ)
rule_keys =
    (1, codes "access.low") ∷
    (2, codes "access.high") ∷
    (3, codes "length.negative") ∷
    (4, codes "assign.claim") ∷
    (5, codes "argument.claim") ∷
    (6, codes "return.claim") ∷
    (7, codes "field.claim") ∷
    (8, codes "field.dependent") ∷
    (9, codes "constructor.claim") ∷
    (10, codes "override.parameter") ∷
    (11, codes "override.result") ∷
    (12, codes "override.effect") ∷
    (13, codes "effect.write") ∷
    (14, codes "this.escapes") ∷
    (15, codes "named.parameter.assigned") ∷
    (16, codes "element.claim") ∷
    (17, codes "missing.return") ∷
    (18, codes "post.claim") ∷ []
