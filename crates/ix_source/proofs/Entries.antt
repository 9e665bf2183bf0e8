-- At the entry of a frame the slots hold what the parameters and `this` hold (JLS 8.4.1).
use Rattle.std.proofs.Common.{◌≡◌, ℕ, zero, suc, ◌+◌, pos, Bool, true, false, List, [], ◌∷◌, ◌++◌, length, Option, Some, None, refl, sym, ap, ◌∙◌, arith}
use Rattle.std.specs.Prelude.{not, if◌then◌else◌, nat_lt, replicate, ◌-◌}
use Rattle.std.proofs.lemmas.Bool.{false≢true}
use Rattle.ix_core.specs.Heap.{Held, Num, value_at}
use Rattle.ix_core.specs.Machine.{slots_with}
use Rattle.ix_core.specs.Tables.{Tables}
use Rattle.ix_meaning.specs.declared.note.Meaning.{Meaning}
use Rattle.ix_plain.specs.Program.{start, first_param}
use Rattle.ix_plain.specs.Scope.{Site}
use Rattle.ix_source.specs.Runs.{Now, held_by, with_variables}
use Rattle.ix_source.specs.Bodies.{variables}
use Rattle.ix_source.specs.Running.{Ground, Stands, owner, in_scope}
use Rattle.ix_source.specs.Called.{first_slots}
use Rattle.ix_source.specs.Grounds.{Rooted}
use Rattle.ix_source.specs.SoundBodies.{IsEntry}

zeros : (count k : ℕ) → value_at (replicate count (Num (pos 0))) k ≡ Num (pos 0)
zeros zero k = refl
zeros (suc count) zero = refl
zeros (suc count) (suc k) = zeros count k

-- behind the values the slots hold 0, as the values do that aren't there
padded : (values : List Held) (count k : ℕ) → value_at (values ++ replicate count (Num (pos 0))) k ≡ value_at values k
padded [] count k = zeros count k
padded (value ∷ values) count zero = refl
padded (value ∷ values) count (suc k) = padded values count k

module _ (tables : Tables) (own : Site) (this : Held) (depth : ℕ) (is_static : Bool) (params free : ℕ) (entry : IsEntry own is_static params free) where
  abbrev g : Ground
  g = record { tables = tables; site = own; has_this = not is_static; this = this; depth = depth }

  none_some : {G : Type 0} (m : Meaning) → None ≡ Some m → G
  none_some m e = absurd (cc e)

  owned : (slot : ℕ) (m : Meaning) → in_scope own [] free slot ≡ Some m → owner own [] slot ≡ Some m
  owned slot m e = go (nat_lt slot free) e
    where
      go : (b : Bool) → (if b then owner own [] slot else None) ≡ Some m → owner own [] slot ≡ Some m
      go true e = e
      go false e = none_some m e

  given_at : (count : ℕ) (given : List Held) (k : ℕ) → value_at (slots_with count (first_slots tables depth is_static this given)) (first_param is_static + k) ≡ value_at given k
  given_at count given k = padded (first_slots tables depth is_static this given) (count - length (first_slots tables depth is_static this given)) (first_param is_static + k) ∙ shifted is_static
    where
      shifted : (b : Bool) → value_at (first_slots tables depth b this given) (first_param b + k) ≡ value_at given k
      shifted true = let e : 0 + k ≡ k = omega arith in ap (value_at given) e
      shifted false = let e : 1 + k ≡ suc k = omega arith in ap (value_at (this ∷ given)) e

  this_at : (count : ℕ) (given : List Held) → not is_static ≡ true → value_at (slots_with count (first_slots tables depth is_static this given)) 0 ≡ this
  this_at count given has = padded (first_slots tables depth is_static this given) (count - length (first_slots tables depth is_static this given)) 0 ∙ first is_static has
    where
      first : (b : Bool) → not b ≡ true → value_at (first_slots tables depth b this given) 0 ≡ this
      first true has = absurd (false≢true has)
      first false has = refl

  -- The slots hold what the variables in scope hold.
  pub entry_stands : (count : ℕ) (given : List Held) (now : Now) → Stands g (start free) (slots_with count (first_slots tables depth is_static this given)) (with_variables (variables this given) now)
  entry_stands count given now = record {
    held = λ slot m own.
        let (k, low, is, at) = entry.param slot m (owned slot m own) in
        ap (value_at (slots_with count (first_slots tables depth is_static this given))) at ∙ given_at count given k ∙ sym (ap (λ m. held_by (variables this given) (Some m)) is);
    this = λ has. (this_at count given has, refl);
  }

  -- Slot 0 is no parameter's where there is `this`.
  pub entry_rooted : Rooted g (start free)
  entry_rooted has = (no_owner (owner own [] 0) refl, let one = first is_static has in (let behind = entry.behind in omega (arith, behind, one)))
    where
      first : (b : Bool) → not b ≡ true → first_param b ≡ 1
      first true has = absurd (false≢true has)
      first false has = refl

      no_owner : (o : Option Meaning) → owner own [] 0 ≡ o → owner own [] 0 ≡ None
      no_owner None e = e
      no_owner (Some m) e = let (k, low, is, at) = entry.param 0 m e in let one = first is_static has in absurd (let none : ⊥ = omega (arith, at, one) in none)
