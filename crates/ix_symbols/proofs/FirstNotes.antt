-- The first note of a kind at a place is the one with that number.
use Rattle.std.proofs.Common.{zero, suc, ◌≡◌, ℕ, ◌+◌, Bool, true, false, Some, None, List, [], ◌∷◌, drop, slice_get, refl, ◌∙◌, ap, arith}
use Rattle.ix_text.specs.declared.span.Span.{Span}
use Rattle.ix_meaning.specs.declared.note.Note.{Note}
use Rattle.ix_meaning.specs.declared.note.Note.TheVariants.{Use, Typed, Declares, Wrong, WrongAnnot}
use Rattle.ix_meaning.specs.Listed.{same_span}
use Rattle.ix_meaning.specs.Resolved.{or_found, meaning_at, type_at, declared_at}
use Rattle.ix_symbols.specs.Numbered.{numbered, meaning_in, type_in, declared_in, first_or, first_use, first_typed, first_declared}

get_here : {A : Type 0} (all : List A) (n : ℕ) (x : A) (rest : List A) → drop n all ≡ x ∷ rest → slice_get all n ≡ Some x
get_here [] zero x rest h = cc
get_here [] (suc n) x rest h = cc
get_here (y ∷ all) zero x rest h = cc
get_here (y ∷ all) (suc n) x rest h = get_here all n x rest h

drop_on : {A : Type 0} (all : List A) (n : ℕ) (x : A) (rest : List A) → drop n all ≡ x ∷ rest → drop (suc n) all ≡ rest
drop_on [] zero x rest h = cc
drop_on [] (suc n) x rest h = cc
drop_on (y ∷ all) zero x rest h = cc
drop_on (y ∷ all) (suc n) x rest h = drop_on all n x rest h

drop_next : {A : Type 0} (all : List A) (n : ℕ) (x : A) (rest : List A) → drop n all ≡ x ∷ rest → drop (n + 1) all ≡ rest
drop_next all n x rest h = let e : n + 1 ≡ suc n = omega arith in ap (λ k. drop k all) e ∙ drop_on all n x rest h

use_kept : (p : Span) (k n : ℕ) (ns : List Note) → first_use p (Some k) n ns ≡ Some k
use_kept p k n [] = refl
use_kept p k n (Use q m ∷ ns) = use_kept p k (n + 1) ns
use_kept p k n (Typed q t ∷ ns) = use_kept p k (n + 1) ns
use_kept p k n (Declares q d ∷ ns) = use_kept p k (n + 1) ns
use_kept p k n (Wrong e ∷ ns) = use_kept p k (n + 1) ns
use_kept p k n (WrongAnnot e ∷ ns) = use_kept p k (n + 1) ns

pub use_found : (p : Span) (all : List Note) (n : ℕ) (ns : List Note) → drop n all ≡ ns → meaning_in (numbered all (first_use p None n ns)) ≡ meaning_at p ns
use_found p all n [] h = refl
use_found p all n (Use q m ∷ ns) h = by (same_span q p) (get_here all n (Use q m) ns h) (use_found p all (n + 1) ns (drop_next all n (Use q m) ns h))
  where
    by : (b : Bool) → slice_get all n ≡ Some (Use q m) → meaning_in (numbered all (first_use p None (n + 1) ns)) ≡ meaning_at p ns
        → meaning_in (numbered all (first_use p (first_or None b n) (n + 1) ns)) ≡ or_found b m (meaning_at p ns)
    by true here later = ap (λ o. meaning_in (numbered all o)) (use_kept p n (n + 1) ns) ∙ ap meaning_in here
    by false here later = later
use_found p all n (Typed q t ∷ ns) h = use_found p all (n + 1) ns (drop_next all n (Typed q t) ns h)
use_found p all n (Declares q d ∷ ns) h = use_found p all (n + 1) ns (drop_next all n (Declares q d) ns h)
use_found p all n (Wrong e ∷ ns) h = use_found p all (n + 1) ns (drop_next all n (Wrong e) ns h)
use_found p all n (WrongAnnot e ∷ ns) h = use_found p all (n + 1) ns (drop_next all n (WrongAnnot e) ns h)

typed_kept : (p : Span) (k n : ℕ) (ns : List Note) → first_typed p (Some k) n ns ≡ Some k
typed_kept p k n [] = refl
typed_kept p k n (Use q m ∷ ns) = typed_kept p k (n + 1) ns
typed_kept p k n (Typed q t ∷ ns) = typed_kept p k (n + 1) ns
typed_kept p k n (Declares q d ∷ ns) = typed_kept p k (n + 1) ns
typed_kept p k n (Wrong e ∷ ns) = typed_kept p k (n + 1) ns
typed_kept p k n (WrongAnnot e ∷ ns) = typed_kept p k (n + 1) ns

pub typed_found : (p : Span) (all : List Note) (n : ℕ) (ns : List Note) → drop n all ≡ ns → type_in (numbered all (first_typed p None n ns)) ≡ type_at p ns
typed_found p all n [] h = refl
typed_found p all n (Use q m ∷ ns) h = typed_found p all (n + 1) ns (drop_next all n (Use q m) ns h)
typed_found p all n (Typed q t ∷ ns) h = by (same_span q p) (get_here all n (Typed q t) ns h) (typed_found p all (n + 1) ns (drop_next all n (Typed q t) ns h))
  where
    by : (b : Bool) → slice_get all n ≡ Some (Typed q t) → type_in (numbered all (first_typed p None (n + 1) ns)) ≡ type_at p ns
        → type_in (numbered all (first_typed p (first_or None b n) (n + 1) ns)) ≡ or_found b t (type_at p ns)
    by true here later = ap (λ o. type_in (numbered all o)) (typed_kept p n (n + 1) ns) ∙ ap type_in here
    by false here later = later
typed_found p all n (Declares q d ∷ ns) h = typed_found p all (n + 1) ns (drop_next all n (Declares q d) ns h)
typed_found p all n (Wrong e ∷ ns) h = typed_found p all (n + 1) ns (drop_next all n (Wrong e) ns h)
typed_found p all n (WrongAnnot e ∷ ns) h = typed_found p all (n + 1) ns (drop_next all n (WrongAnnot e) ns h)

declared_kept : (p : Span) (k n : ℕ) (ns : List Note) → first_declared p (Some k) n ns ≡ Some k
declared_kept p k n [] = refl
declared_kept p k n (Use q m ∷ ns) = declared_kept p k (n + 1) ns
declared_kept p k n (Typed q t ∷ ns) = declared_kept p k (n + 1) ns
declared_kept p k n (Declares q d ∷ ns) = declared_kept p k (n + 1) ns
declared_kept p k n (Wrong e ∷ ns) = declared_kept p k (n + 1) ns
declared_kept p k n (WrongAnnot e ∷ ns) = declared_kept p k (n + 1) ns

pub declared_found : (p : Span) (all : List Note) (n : ℕ) (ns : List Note) → drop n all ≡ ns → declared_in (numbered all (first_declared p None n ns)) ≡ declared_at p ns
declared_found p all n [] h = refl
declared_found p all n (Use q m ∷ ns) h = declared_found p all (n + 1) ns (drop_next all n (Use q m) ns h)
declared_found p all n (Typed q t ∷ ns) h = declared_found p all (n + 1) ns (drop_next all n (Typed q t) ns h)
declared_found p all n (Declares q d ∷ ns) h = by (same_span q p) (get_here all n (Declares q d) ns h) (declared_found p all (n + 1) ns (drop_next all n (Declares q d) ns h))
  where
    by : (b : Bool) → slice_get all n ≡ Some (Declares q d) → declared_in (numbered all (first_declared p None (n + 1) ns)) ≡ declared_at p ns
        → declared_in (numbered all (first_declared p (first_or None b n) (n + 1) ns)) ≡ or_found b d (declared_at p ns)
    by true here later = ap (λ o. declared_in (numbered all o)) (declared_kept p n (n + 1) ns) ∙ ap declared_in here
    by false here later = later
declared_found p all n (Wrong e ∷ ns) h = declared_found p all (n + 1) ns (drop_next all n (Wrong e) ns h)
declared_found p all n (WrongAnnot e ∷ ns) h = declared_found p all (n + 1) ns (drop_next all n (WrongAnnot e) ns h)
