-- What two tables of names say of places at which two lists of notes stand.
use Rattle.std.specs.Prelude.{◌≡◌, ◌≤◌, List, [], ◌∷◌}
use Rattle.ix_tree.specs.Parts.{Part}
use Rattle.ix_meaning.specs.declared.note.Note.{Note}
use Rattle.ix_meaning.specs.declared.note.Note.TheVariants.{Use, Typed, Declares}
use Rattle.ix_meaning.specs.Resolved.{Names}
use Rattle.ix_formed.specs.NoErrors.{named_at}
use Rattle.ix_formed.specs.Weights.{total}

-- The lists are equally long, and each entry is so with the entry of its number.
abbrev pub AllPairs : {A : Type 0} → (A → A → Type 0) → List A → List A → Type 0
AllPairs R [] [] = Unit {0}
AllPairs R (x ∷ xs) (y ∷ ys) = R x y × AllPairs R xs ys
AllPairs R _ _ = ⊥

-- Two notes are of one kind, and none is an error. The tables say the same of their places; of uses where names stand outside types.
abbrev pub SaySame : Names → List Part → Names → List Part → Note → Note → Type 0
SaySame names parts others more (Use p m) (Use q n) = 1 ≤ total (named_at p) parts → 1 ≤ total (named_at q) more → names.meaning p ≡ others.meaning q
SaySame names parts others more (Typed p t) (Typed q u) = names.type_of p ≡ others.type_of q
SaySame names parts others more (Declares p d) (Declares q e) = names.declared p ≡ others.declared q
SaySame names parts others more _ _ = ⊥
