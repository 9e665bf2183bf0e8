-- Lines that were sorted, each once, are those of their facts. A line is held by a string, of which only the bytes count.
use Rattle.std.specs.Prelude.{◌≡◌, ◌⊎◌, ℕ, zero, suc, ◌<◌, List, [], ◌∷◌, ◌++◌, length, map, nat_eq, refl}
use Rattle.std.specs.List.{Contains, dedup}
use Rattle.std.specs.List.Sorted.{IsPermutation, IsSorted, IsStrictlySortedBy}
use Rattle.std.specs.Ordering.{is_lt, nat_cmp, on}
use Rattle.std.specs.Cmp.Lexicographic.{slice_cmp, pointwise, texts_ties, on_texts, on_texts_equal}
use Rattle.std.proofs.Common.{arith, get_or, ap, sym, ◌∙◌, inl, inr, subst}
use Rattle.std.proofs.lemmas.List.Elements.{Contains-append_right}
use Rattle.std.proofs.lemmas.List.Kept.{Any-dedup, Contains-from_dedup, IsStrictlySortedBy-dedup}
use Rattle.std.proofs.lemmas.List.Sorted.{Contains-permutation, IsPermutation-sym}
use Rattle.std.proofs.lemmas.Slice.Eq.{bytes_eq-Decides}
use Rattle.ix_core.specs.declared.fact.Fact.{Fact}
use Rattle.ix_facts.specs.Facts.{IsIn}
use Rattle.ix_cert.specs.Lines.{Ascend, AreLinesOf, IsAmong, fact_text}
use Rattle.ix_cert.proofs.Bytes.{nil_cons, nil_middle}

module _ {K : Type 0} (bytes : K → List ℕ) where
  -- a line is that of one of the strings
  abbrev pub Has : List ℕ → List K → Type 0
  Has line [] = ⊥
  Has line (s ∷ ss) = (bytes s ≡ line) ⊎ Has line ss

  among_has : (line : List ℕ) (ss : List K) (before after : List (List ℕ)) → map bytes ss ≡ before ++ line ∷ after → Has line ss
  among_has line [] before after e = absurd (nil_middle before line after e)
  among_has line (s ∷ ss) [] after e = inl (cc)
  among_has line (s ∷ ss) (b ∷ before) after e =
      let tail : map bytes ss ≡ before ++ line ∷ after = cc in
      inr (among_has line ss before after tail)

  has_among : (line : List ℕ) (ss : List K) → Has line ss → IsAmong line (map bytes ss)
  has_among line [] h = absurd h
  has_among line (s ∷ ss) (inl e) = ([], map bytes ss, ap (λ x. x ∷ map bytes ss) e)
  has_among line (s ∷ ss) (inr h) =
      let r = has_among line ss h in
      (bytes s ∷ r.0, r.1, ap (λ xs. bytes s ∷ xs) r.2)

  contains_has : (s : K) (ss : List K) (k : ℕ) → k < length ss → get_or ss k s ≡ s → Has (bytes s) ss
  contains_has s [] k h e = absurd (omega arith)
  contains_has s (x ∷ ss) zero h e = inl (ap bytes e)
  contains_has s (x ∷ ss) (suc k) h e = inr (contains_has s ss k (omega arith) e)

  has_contains : (line : List ℕ) (ss : List K) → Has line ss → (s : K) × Contains ss s × (bytes s ≡ line)
  has_contains line [] h = absurd h
  has_contains line (s ∷ ss) (inl e) = (s, (0, omega arith, refl), e)
  has_contains line (s ∷ ss) (inr h) =
      let r = has_contains line ss h in
      (r.0, Contains-append_right (s ∷ []) ss r.0 r.1, r.2)

  has_fact : (ss : List K) (facts : List Fact) (line : List ℕ) → map bytes ss ≡ map fact_text facts → Has line ss → (fact : Fact) × IsIn fact facts × (line ≡ fact_text fact)
  has_fact [] facts line e h = absurd h
  has_fact (s ∷ ss) [] line e h = absurd (nil_cons (bytes s) (map bytes ss) (sym e))
  has_fact (s ∷ ss) (f ∷ facts) line e (inl is) =
      let head : bytes s ≡ fact_text f = cc in
      (f, inl refl, sym is ∙ head)
  has_fact (s ∷ ss) (f ∷ facts) line e (inr h) =
      let tail : map bytes ss ≡ map fact_text facts = cc in
      let r = has_fact ss facts line tail h in
      (r.0, inr r.1, r.2)

  fact_has : (ss : List K) (facts : List Fact) (fact : Fact) → map bytes ss ≡ map fact_text facts → IsIn fact facts → Has (fact_text fact) ss
  fact_has ss [] fact e i = absurd i
  fact_has [] (f ∷ facts) fact e i = absurd (nil_cons (fact_text f) (map fact_text facts) e)
  fact_has (s ∷ ss) (f ∷ facts) fact e (inl is) =
      let head : bytes s ≡ fact_text f = cc in
      inl (head ∙ sym (ap fact_text is))
  fact_has (s ∷ ss) (f ∷ facts) fact e (inr i) =
      let tail : map bytes ss ≡ map fact_text facts = cc in
      inr (fact_has ss facts fact tail i)

  ascend : (ss : List K) → IsStrictlySortedBy (on bytes (slice_cmp nat_cmp)) ss → Ascend (map bytes ss)
  unfolding IsStrictlySortedBy
  ascend [] h = tt
  ascend (s ∷ []) h = tt
  ascend (s ∷ t ∷ ss) h = (ap is_lt h.0.0, ascend (t ∷ ss) h.1)

  has_line : (line other : List ℕ) (ss : List K) → line ≡ other → Has line ss → Has other ss
  has_line line other ss e h = subst (λ x. Has x ss) e h

  kept_has : (line : List ℕ) (sorted : List K) → Has line sorted → Has line (dedup (on bytes (pointwise nat_eq)) sorted)
  kept_has line sorted h =
      let r = has_contains line sorted h in
      let k = Any-dedup (on_texts_equal bytes) sorted r.0 r.1 in
      let same : bytes r.0 ≡ bytes k.1 = (bytes_eq-Decides (bytes r.0) (bytes k.1)).0 k.4 in
      let there = contains_has k.1 (dedup (on bytes (pointwise nat_eq)) sorted) k.0 k.2 k.3 in
      has_line (bytes k.1) line (dedup (on bytes (pointwise nat_eq)) sorted) (sym same ∙ r.2) there

  sorted_has : (line : List ℕ) (each sorted : List K) → IsPermutation each sorted → Has line each → Has line sorted
  sorted_has line each sorted moved h =
      let r = has_contains line each h in
      let there = Contains-permutation each sorted r.0 moved r.1 in
      has_line (bytes r.0) line sorted r.2 (contains_has r.0 sorted there.0 there.1 there.2)

  from_kept : (line : List ℕ) (sorted : List K) → Has line (dedup (on bytes (pointwise nat_eq)) sorted) → Has line sorted
  from_kept line sorted h =
      let r = has_contains line (dedup (on bytes (pointwise nat_eq)) sorted) h in
      let there = Contains-from_dedup (on bytes (pointwise nat_eq)) sorted r.0 r.1 in
      has_line (bytes r.0) line sorted r.2 (contains_has r.0 sorted there.0 there.1 there.2)

  lines_each : (facts : List Fact) (each sorted : List K) (line : List ℕ) → map bytes each ≡ map fact_text facts → IsPermutation each sorted
      → IsAmong line (map bytes (dedup (on bytes (pointwise nat_eq)) sorted)) → (fact : Fact) × IsIn fact facts × (line ≡ fact_text fact)
  lines_each facts each sorted line same moved among =
      has_fact each facts line same
      (sorted_has line sorted each (IsPermutation-sym each sorted moved)
      (from_kept line sorted (among_has line (dedup (on bytes (pointwise nat_eq)) sorted) among.0 among.1 among.2)))

  facts_each : (facts : List Fact) (each sorted : List K) (line : List ℕ) → map bytes each ≡ map fact_text facts → IsPermutation each sorted
      → ((fact : Fact) × IsIn fact facts × (line ≡ fact_text fact)) → IsAmong line (map bytes (dedup (on bytes (pointwise nat_eq)) sorted))
  facts_each facts each sorted line same moved w =
      has_among line (dedup (on bytes (pointwise nat_eq)) sorted)
      (kept_has line sorted (sorted_has line each sorted moved (has_line (fact_text w.0) line each (sym w.2) (fact_has each facts w.0 same w.1))))

  pub sorted_lines : (facts : List Fact) (each sorted kept : List K) → map bytes each ≡ map fact_text facts → IsPermutation each sorted
      → IsSorted (on bytes (slice_cmp nat_cmp)) sorted → kept ≡ dedup (on bytes (pointwise nat_eq)) sorted → AreLinesOf facts (map bytes kept)
  sorted_lines facts each sorted kept same moved rises is =
      subst (λ ss. AreLinesOf facts (map bytes ss)) (sym is) (
        ascend (dedup (on bytes (pointwise nat_eq)) sorted) (IsStrictlySortedBy-dedup (on_texts bytes) (λ x y. texts_ties (bytes x) (bytes y)) sorted rises),
        λ line. (lines_each facts each sorted line same moved, facts_each facts each sorted line same moved),
      )
