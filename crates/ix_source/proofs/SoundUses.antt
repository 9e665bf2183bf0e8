-- What an induction over a sound tree takes of the test, form by form.
use Rattle.std.proofs.Common.{◌≡◌, ◌<◌, ◌⊎◌, inl, inr, ℕ, ℤ, Bool, true, false, List, length, Option, Some, None, refl, sym, ap, ◌∙◌, arith}
use Rattle.std.specs.Prelude.{◌||◌, not, nat_lt, is_some}
use Rattle.std.proofs.lemmas.Bool.{false≢true, and_parts}
use Rattle.std.proofs.lemmas.Bool.Decides.{nat_tests}
use Rattle.ix_text.specs.declared.span.Span.{Span}
use Rattle.ix_core.specs.Heap.{Held}
use Rattle.ix_core.specs.Types.{is_void}
use Rattle.ix_core.proofs.Cases.{equal}
use Rattle.ix_meaning.specs.declared.note.Meaning.{Meaning}
use Rattle.ix_meaning.specs.declared.note.Meaning.TheVariants as meaning
use Rattle.ix_plain.specs.Parts.{Within}
use Rattle.ix_plain.specs.Scope.{slot_of, type_at, is_among, head_at}
use Rattle.ix_source.specs.Along.{Setting, is_variable}
use Rattle.ix_source.specs.Kept.{Makes}
use Rattle.ix_source.specs.Sound as sound
use Rattle.ix_source.specs.Sound.{Soundness, used, all_used}
use Rattle.ix_source.specs.SoundStatements.{where_made}

-- where something was made it is so
pub made_is_so : {A : Type 0} (r : Within A) (so : A → Bool) → where_made r so ≡ true → Makes (λ made. so made ≡ true) r
made_is_so (Rattle.std.specs.Prelude.Ok made) so e = e
made_is_so (Rattle.std.specs.Prelude.Err limit) so e = tt

is_less : (n m : ℕ) → nat_lt n m ≡ true → n < m
is_less n m e = grind (arith, nat_tests)

not_true : (b : Bool) → not b ≡ true → b ≡ false
not_true true e = absurd (false≢true e)
not_true false e = refl

module _ (z : Setting) where
  -- what is used is sound, and has a value
  pub used_is : (s : Soundness) → used s z ≡ true → (s.value z ≡ true) × (is_void (type_at z.scope s.span) ≡ false)
  used_is s e = let q = and_parts (s.value z) (not (is_void (type_at z.scope s.span))) e in (q.0, not_true (is_void (type_at z.scope s.span)) q.1)

  -- ---- names

  same_is : (m : Meaning) (o : Option Meaning) → sound.is_same m o ≡ true → o ≡ Some m
  same_is (meaning.Local n) (Some (meaning.Local k)) e = ap (λ n. Some (meaning.Local n)) (equal k n e)
  same_is (meaning.Param n) (Some (meaning.Param k)) e = ap (λ n. Some (meaning.Param n)) (equal k n e)
  same_is (meaning.Local n) _ e = absurd (false≢true e)
  same_is (meaning.Param n) _ e = absurd (false≢true e)
  same_is _ _ e = absurd (false≢true e)

  -- a variable that owns its slot
  pub record IsOwn (o : Option Meaning) : Type 0 where
    pub variable : Meaning
    pub means : o ≡ Some variable
    pub kind : is_variable variable ≡ true
    pub own : z.owner (slot_of z.scope (Some variable)) ≡ Some variable

  abbrev pub IsField : Option Meaning → Type 0
  IsField o = (field : ℕ) × (o ≡ Some (meaning.FieldNamed field))

  pub named_is : (o : Option Meaning) → sound.named z o ≡ true → IsOwn o ⊎ ((IsField o × (z.has_this ≡ true)) ⊎ ((n : ℤ) × (o ≡ Some (meaning.Constant n))))
  named_is (Some (meaning.Local n)) e = inl (record { variable = meaning.Local n; means = refl; kind = refl; own = same_is (meaning.Local n) (z.owner (slot_of z.scope (Some (meaning.Local n)))) e })
  named_is (Some (meaning.Param n)) e = inl (record { variable = meaning.Param n; means = refl; kind = refl; own = same_is (meaning.Param n) (z.owner (slot_of z.scope (Some (meaning.Param n)))) e })
  named_is (Some (meaning.FieldNamed k)) e = inr (inl ((k, refl), e))
  named_is (Some (meaning.Constant n)) e = inr (inr (n, refl))
  named_is (Some (meaning.ClassNamed k)) e = absurd (false≢true e)
  named_is (Some (meaning.MethodNamed k)) e = absurd (false≢true e)
  named_is (Some meaning.LengthOf) e = absurd (false≢true e)
  named_is None e = absurd (false≢true e)

  -- a variable that the full expression assigns, or a field of `this`
  pub target_is : (o : Option Meaning) → sound.named_target z o ≡ true → ((x : IsOwn o) × (is_among (slot_of z.scope (Some x.variable)) z.scope.assigned ≡ true)) ⊎ (IsField o × (z.has_this ≡ true))
  target_is (Some (meaning.Local n)) e =
      let q = and_parts (sound.is_own z (meaning.Local n)) _ e in
      inl (record { variable = meaning.Local n; means = refl; kind = refl; own = same_is (meaning.Local n) (z.owner (slot_of z.scope (Some (meaning.Local n)))) q.0 }, q.1)
  target_is (Some (meaning.Param n)) e =
      let q = and_parts (sound.is_own z (meaning.Param n)) _ e in
      inl (record { variable = meaning.Param n; means = refl; kind = refl; own = same_is (meaning.Param n) (z.owner (slot_of z.scope (Some (meaning.Param n)))) q.0 }, q.1)
  target_is (Some (meaning.FieldNamed k)) e = inr ((k, refl), e)
  target_is (Some (meaning.Constant n)) e = absurd (false≢true e)
  target_is (Some (meaning.ClassNamed k)) e = absurd (false≢true e)
  target_is (Some (meaning.MethodNamed k)) e = absurd (false≢true e)
  target_is (Some meaning.LengthOf) e = absurd (false≢true e)
  target_is None e = absurd (false≢true e)

  -- ---- selections

  pub selected_is : (s : Soundness) (o : Option Meaning) → sound.selected s z o ≡ true → (((n : ℤ) × (o ≡ Some (meaning.Constant n))) × (s.unused z ≡ true)) ⊎ ((IsField o × (used s z ≡ true)) ⊎ ((o ≡ Some meaning.LengthOf) × (used s z ≡ true)))
  selected_is s (Some (meaning.Constant n)) e = inl ((n, refl), e)
  selected_is s (Some (meaning.FieldNamed k)) e = inr (inl ((k, refl), e))
  selected_is s (Some meaning.LengthOf) e = inr (inr (refl, e))
  selected_is s (Some (meaning.Local n)) e = absurd (false≢true e)
  selected_is s (Some (meaning.Param n)) e = absurd (false≢true e)
  selected_is s (Some (meaning.ClassNamed k)) e = absurd (false≢true e)
  selected_is s (Some (meaning.MethodNamed k)) e = absurd (false≢true e)
  selected_is s None e = absurd (false≢true e)

  pub selected_target_is : (s : Soundness) (o : Option Meaning) → sound.selected_target s z o ≡ true → IsField o × (used s z ≡ true)
  selected_target_is s (Some (meaning.FieldNamed k)) e = ((k, refl), e)
  selected_target_is s (Some (meaning.Constant n)) e = absurd (false≢true e)
  selected_target_is s (Some meaning.LengthOf) e = absurd (false≢true e)
  selected_target_is s (Some (meaning.Local n)) e = absurd (false≢true e)
  selected_target_is s (Some (meaning.Param n)) e = absurd (false≢true e)
  selected_target_is s (Some (meaning.ClassNamed k)) e = absurd (false≢true e)
  selected_target_is s (Some (meaning.MethodNamed k)) e = absurd (false≢true e)
  selected_target_is s None e = absurd (false≢true e)

  -- ---- calls

  pub record IsCall (object : Option Soundness) (args : List Soundness) (span : Span) (o : Option Meaning) : Type 0 where
    pub method : ℕ
    pub means : o ≡ Some (meaning.MethodNamed method)
    pub written : method < length z.scope.site.heads
    -- where its type isn't `void` it gives something back
    pub gives : is_void (type_at z.scope span) ≡ false → (default : Held) × ((z.tables.routines method).default ≡ Some default)
    pub received : sound.received object (head_at z.scope.site method).is_static z ≡ true
    pub given : all_used args z ≡ true

  pub called_is : (object : Option Soundness) (args : List Soundness) (span : Span) (o : Option Meaning) → sound.called object args span z o ≡ true → IsCall object args span o
  called_is object args span (Some (meaning.MethodNamed k)) e =
      let q = and_parts (sound.is_method z.tables z.scope.site k) _ e in
      let w = and_parts (sound.has_result z k span) _ q.1 in
      let x = and_parts (sound.received object (head_at z.scope.site k).is_static z) (all_used args z) w.1 in
      record { method = k; means = refl; written = is_less k (length z.scope.site.heads) (and_parts (nat_lt k (length z.scope.site.heads)) (not (z.tables.routines k).constructor) q.0).0; gives = λ some. given_back (z.tables.routines k).default (is_void (type_at z.scope span)) some w.0; received = x.0; given = x.1 }
    where
      given_back : (default : Option Held) (void : Bool) → void ≡ false → (is_some default || void) ≡ true → (held : Held) × (default ≡ Some held)
      given_back (Some held) void none e = (held, refl)
      given_back None void none e = absurd (false≢true (sym none ∙ e))
  called_is object args span (Some (meaning.FieldNamed k)) e = absurd (false≢true e)
  called_is object args span (Some (meaning.Constant n)) e = absurd (false≢true e)
  called_is object args span (Some meaning.LengthOf) e = absurd (false≢true e)
  called_is object args span (Some (meaning.Local n)) e = absurd (false≢true e)
  called_is object args span (Some (meaning.Param n)) e = absurd (false≢true e)
  called_is object args span (Some (meaning.ClassNamed k)) e = absurd (false≢true e)
  called_is object args span None e = absurd (false≢true e)

  pub created_is : (args : List Soundness) (o : Option Meaning) → sound.created args z o ≡ true → (class : ℕ) × (o ≡ Some (meaning.ClassNamed class)) × (class < length z.scope.site.constructors) × (all_used args z ≡ true)
  created_is args (Some (meaning.ClassNamed k)) e = let q = and_parts (nat_lt k (length z.scope.site.constructors)) (all_used args z) e in (k, refl, is_less k (length z.scope.site.constructors) q.0, q.1)
  created_is args (Some (meaning.FieldNamed k)) e = absurd (false≢true e)
  created_is args (Some (meaning.Constant n)) e = absurd (false≢true e)
  created_is args (Some meaning.LengthOf) e = absurd (false≢true e)
  created_is args (Some (meaning.Local n)) e = absurd (false≢true e)
  created_is args (Some (meaning.Param n)) e = absurd (false≢true e)
  created_is args (Some (meaning.MethodNamed k)) e = absurd (false≢true e)
  created_is args None e = absurd (false≢true e)
