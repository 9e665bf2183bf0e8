-- What a sink took of a text, where a part is written and a rest isn't.
use Rattle.std.proofs.Common.{◌≡◌, ℕ, zero, suc, ◌+◌, ◌≤◌, List, [], ◌∷◌, ◌++◌, length, take, append_assoc, append-nil, refl, ap, sym, ◌∙◌, arith}
use Rattle.std.proofs.Math.Seq.{take-append-add}
use Rattle.std.proofs.lemmas.List.{take-append-le}
use Rattle.ix_outside.specs.Outside.{Took, TookPrefix}

pub record Written (before after all rest : List ℕ) : Type 0 where
  pub part : List ℕ
  pub taken : after ≡ before ++ part
  pub whole : all ≡ part ++ rest

pub none_written : (before all : List ℕ) → Written before before all all
none_written before all = record { part = []; taken = sym (append-nil before); whole = refl }

-- a text more
pub written_more : (before middle after all rest text next : List ℕ) → Written before middle all rest → Took text middle after → rest ≡ text ++ next → Written before after all next
written_more before middle after all rest text next w took is = record {
  part = w.part ++ text;
  taken = took ∙ ap (λ m. m ++ text) w.taken ∙ append_assoc before w.part text;
  whole = w.whole ∙ ap (λ r. w.part ++ r) is ∙ sym (append_assoc w.part text next);
}

pub written_same : (before middle all rest next : List ℕ) → Written before middle all rest → rest ≡ next → Written before middle all next
written_same before middle all rest next w is = record { part = w.part; taken = w.taken; whole = w.whole ∙ ap (λ r. w.part ++ r) is }

-- all is written
pub written_all : (before after all rest : List ℕ) → Written before after all rest → rest ≡ [] → Took all before after
written_all before after all rest w none = w.taken ∙ ap (λ p. before ++ p) (sym (w.whole ∙ ap (λ r. w.part ++ r) none ∙ append-nil w.part))

-- ---- prefixes

-- the first n are the first k of no more than there are
record Fewer (n : ℕ) (text : List ℕ) : Type 0 where
  k : ℕ
  within : k ≤ length text
  same : take n text ≡ take k text

fewer : (n : ℕ) (text : List ℕ) → Fewer n text
fewer zero text = record { k = 0; within = omega arith; same = refl }
fewer (suc n) [] = record { k = 0; within = omega arith; same = refl }
fewer (suc n) (byte ∷ text) = let f = fewer n text in record { k = suc f.k; within = omega (arith, f.within); same = ap (λ t. byte ∷ t) f.same }

-- a prefix of a text is a prefix of the text with more behind it
pub prefix_of_more : (text more before after : List ℕ) → TookPrefix text before after → TookPrefix (text ++ more) before after
prefix_of_more text more before after took =
    let f = fewer took.0 text in
    (f.k, took.1 ∙ ap (λ t. before ++ t) (f.same ∙ sym (take-append-le f.k text more f.within)))

-- a text and a prefix of the next
pub prefix_behind : (first next before middle after : List ℕ) → Took first before middle → TookPrefix next middle after → TookPrefix (first ++ next) before after
prefix_behind first next before middle after took part = (
  length first + part.0,
  part.1 ∙ ap (λ m. m ++ take part.0 next) took ∙ append_assoc before first (take part.0 next) ∙ ap (λ t. before ++ t) (sym (take-append-add first next part.0)),
)

pub prefix_whole : (text before after : List ℕ) → Took text before after → TookPrefix text before after
prefix_whole text before after took = (length text + 0, took ∙ ap (λ t. before ++ t) (sym (ap (take (length text + 0)) (sym (append-nil text)) ∙ take-append-add text [] 0 ∙ append-nil text)))

-- what is written, and a prefix of the next text
pub written_prefix : (before middle after all rest text next : List ℕ) → Written before middle all rest → TookPrefix text middle after → rest ≡ text ++ next → TookPrefix all before after
written_prefix before middle after all rest text next w part is =
    rw (w.whole ∙ ap (λ r. w.part ++ r) is) (prefix_behind w.part (text ++ next) before middle after w.taken (prefix_of_more text next middle after part))

-- what is written is a prefix
pub written_so_far : (before after all rest : List ℕ) → Written before after all rest → TookPrefix all before after
written_so_far before after all rest w = rw w.whole (prefix_of_more w.part rest before after (prefix_whole w.part before after w.taken))
