-- What a sink took, part by part.
use Rattle.std.proofs.Common.{◌≡◌, ℕ, ◌+◌, ◌-◌, length-drop, List, [], ◌++◌, length, take, drop, refl, ap, sym, ◌∙◌, append_assoc, append-nil, arith}
use Rattle.std.proofs.Math.Seq.{take-add, take-nil}
use Rattle.std.proofs.lemmas.List.{take_all}
use Rattle.ix_outside.specs.Outside.{Took, TookPrefix}

-- a sink that took one part and then some of the rest took both
pub took-rest : (before middle after : List ℕ) (n m : ℕ) (text : List ℕ)
    → Took (take n text) before middle → Took (take m (take (length text - n) (drop n text))) middle after → Took (take (n + m) text) before after
took-rest before middle after n m text first rest =
    rest ∙ rw (take_all (length text - n) (drop n text) (omega (arith, length-drop n text)))
    (ap (λ part. part ++ take m (drop n text)) first ∙ append_assoc before (take n text) (take m (drop n text)) ∙ ap (λ part. before ++ part) (sym (take-add n m text)))

-- a prefix of nothing is nothing
pub TookPrefix-none : (text : List ℕ) (before after : List ℕ) → text ≡ [] → TookPrefix text before after → after ≡ before
TookPrefix-none text before after empty part = part.1 ∙ rw (empty, take-nil part.0, append-nil before) refl

-- nothing is a prefix
pub TookPrefix-same : (text : List ℕ) (before after : List ℕ) → after ≡ before → TookPrefix text before after
TookPrefix-same text before after same = (0, same ∙ sym (append-nil before))
