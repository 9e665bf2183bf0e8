-- An error is an element of a list, by recursion on the list.
use Rattle.std.proofs.Common.{◌≡◌, ℕ, zero, suc, ◌<◌, ◌⊎◌, inl, inr, List, [], ◌∷◌, length, slice_index_or, sym, subst, arith}
use Rattle.std.specs.List.{Contains, AllByRecursion}
use Rattle.ix_meaning.specs.declared.note.NameError.{NameError}

abbrev pub In : NameError → List NameError → Type 0
In x [] = ⊥
In x (y ∷ ys) = (x ≡ y) ⊎ In x ys

in_at : (xs : List NameError) (x : NameError) (k : ℕ) → k < length xs → slice_index_or xs k x ≡ x → In x xs
in_at [] x k l e = absurd (omega arith)
in_at (y ∷ ys) x zero l e = inl (sym e)
in_at (y ∷ ys) x (suc k) l e = inr (in_at ys x k (omega arith) e)

pub to_in : (xs : List NameError) (x : NameError) → Contains xs x → In x xs
to_in xs x c = in_at xs x c.0 c.1 c.2

pub from_in : (xs : List NameError) (x : NameError) → In x xs → Contains xs x
from_in [] x h = absurd h
from_in (y ∷ ys) x (inl h) = (0, omega arith, sym h)
from_in (y ∷ ys) x (inr h) = let c = from_in ys x h in (suc c.0, omega arith, c.2)

pub of_all : (P : NameError → Type 0) (xs : List NameError) (x : NameError) → AllByRecursion P xs → In x xs → P x
of_all P [] x all h = absurd h
of_all P (y ∷ ys) x all (inl h) = subst P (sym h) all.0
of_all P (y ∷ ys) x all (inr h) = of_all P ys x all.1 h
