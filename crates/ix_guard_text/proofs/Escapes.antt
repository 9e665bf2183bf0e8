-- A text has no escape where its pieces have none and each ends in another character than a backslash.
use Rattle.std.proofs.Common.{◌≡◌, ℕ, ◌+◌, ◌==◌, ◌&&◌, ◌||◌, not, Bool, true, false, if◌then◌else◌, [], ◌∷◌, ◌++◌, Some, None, refl, sym, ap, ◌∙◌}
use Rattle.std.specs.List.{list_all}
use Rattle.std.proofs.lemmas.Bool.{and_parts, or_parts}
use Rattle.ix_lexer.specs.Characters.{Text, backslash, first}
use Rattle.ix_lexer.specs.Tokens.{size, escape_from}
use Rattle.ix_lexer.proofs.Scans.{not_true}

-- whether there is an escape, behind an even number of backslashes or behind an odd one
abbrev pub escapes : Bool → Text → Bool
escapes even [] = false
escapes even (c ∷ cs) = even && c == backslash && first cs == 117 || escapes (not (even && c == backslash)) cs

pub none_escapes : (even : Bool) (at : ℕ) (text : Text) → escape_from even at text ≡ None → escapes even text ≡ false
none_escapes even at [] h = refl
none_escapes even at (c ∷ cs) h =
    elim (even && c == backslash && first cs == 117) as (λ b. (if b then Some at else escape_from (not (even && c == backslash)) (at + size (c ∷ [])) cs) ≡ None → (b || escapes (not (even && c == backslash)) cs) ≡ false) [
      | true ↦ λ g. cc
      | false ↦ λ g. none_escapes (not (even && c == backslash)) (at + size (c ∷ [])) cs g
    ] h

pub escapes_none : (even : Bool) (at : ℕ) (text : Text) → escapes even text ≡ false → escape_from even at text ≡ None
escapes_none even at [] h = refl
escapes_none even at (c ∷ cs) h =
    elim (even && c == backslash && first cs == 117) as (λ b. (b || escapes (not (even && c == backslash)) cs) ≡ false → (if b then Some at else escape_from (not (even && c == backslash)) (at + size (c ∷ [])) cs) ≡ None) [
      | true ↦ λ g. cc
      | false ↦ λ g. escapes_none (not (even && c == backslash)) (at + size (c ∷ [])) cs g
    ] h

-- a text that is empty or ends in another character than a backslash
abbrev pub ends_plain : Text → Bool
ends_plain [] = true
ends_plain (c ∷ []) = not (c == backslash)
ends_plain (c ∷ d ∷ cs) = ends_plain (d ∷ cs)

plain_last : (even : Bool) (c : ℕ) (v : Text) → not (c == backslash) ≡ true → escapes even (c ∷ v) ≡ escapes true v
plain_last true c v h = let e : (c == backslash) ≡ false = not_true _ h in rw e refl
plain_last false c v h = refl

-- behind such a text that isn't empty
pub escapes_behind : (even : Bool) (c : ℕ) (cs v : Text) → ends_plain (c ∷ cs) ≡ true → escapes even ((c ∷ cs) ++ v) ≡ escapes even (c ∷ cs) || escapes true v
escapes_behind even c [] v h = plain_last even c v h ∙ ap (λ b. b || escapes true v) (sym (plain_last even c [] h))
escapes_behind even c (d ∷ cs) v h =
    ap (λ b. even && c == backslash && d == 117 || b) (escapes_behind (not (even && c == backslash)) d cs v h) ∙ or_both (even && c == backslash && d == 117) _ _
  where
    or_both : (a b c : Bool) → (a || (b || c)) ≡ (a || b || c)
    or_both true b c = refl
    or_both false b c = refl

or_false : (a b : Bool) → a ≡ false → b ≡ false → (a || b) ≡ false
or_false true b h k = cc
or_false false b h k = k

-- a text in two pieces, at a place where no backslash stands before
pub behind_plain : (u v : Text) → ends_plain u ≡ true → escapes true (u ++ v) ≡ false → (escapes true u ≡ false) × (escapes true v ≡ false)
behind_plain [] v h e = (refl, e)
behind_plain (c ∷ cs) v h e = or_parts _ _ (sym (escapes_behind true c cs v h) ∙ e)

pub both_plain : (u v : Text) → ends_plain u ≡ true → escapes true u ≡ false → escapes true v ≡ false → escapes true (u ++ v) ≡ false
both_plain [] v h e f = f
both_plain (c ∷ cs) v h e f = escapes_behind true c cs v h ∙ or_false _ _ e f

pub ends_both : (u v : Text) → ends_plain u ≡ true → ends_plain v ≡ true → ends_plain (u ++ v) ≡ true
ends_both [] v h k = k
ends_both (c ∷ []) [] h k = h
ends_both (c ∷ []) (d ∷ v) h k = k
ends_both (c ∷ d ∷ u) v h k = ends_both (d ∷ u) v h k

-- a text without a backslash
pub no_backslash : (u : Text) → list_all (λ c. not (c == backslash)) u ≡ true → (escapes true u ≡ false) × (ends_plain u ≡ true)
no_backslash [] h = (refl, refl)
no_backslash (c ∷ []) h = let w = and_parts _ _ h in (plain_last true c [] w.0, w.0)
no_backslash (c ∷ d ∷ u) h =
    let w = and_parts (not (c == backslash)) (list_all (λ c. not (c == backslash)) (d ∷ u)) h in
    let more = no_backslash (d ∷ u) w.1 in (plain_last true c (d ∷ u) w.0 ∙ more.0, more.1)
