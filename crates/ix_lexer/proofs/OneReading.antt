-- A text has one reading: of two readings from one place, one goes on where the other ends.
use Rattle.std.proofs.Common.{◌≡◌, ℕ, ◌+◌, ◌≤◌, List, [], ◌∷◌, ◌++◌, length, take, Some, None, refl, sym, ap, subst, ◌∙◌, arith, ◌⊎◌, inl, inr}
use Rattle.ix_lexer.specs.declared.elements.Element.{Element}
use Rattle.ix_lexer.specs.declared.elements.Element.TheVariants as element
use Rattle.ix_lexer.specs.declared.token.Token.{Token}
use Rattle.ix_lexer.specs.declared.token.TokenKind.{TokenKind}
use Rattle.ix_lexer.specs.Characters.{Text}
use Rattle.ix_lexer.specs.Elements.{IsElement}
use Rattle.ix_lexer.specs.Scan.{element_at}
use Rattle.ix_lexer.specs.Tokens.{Longest, kind_of, size, token, Reads, none, gap, one}
use Rattle.ix_lexer.proofs.LongestElement.{wins, front, found, found_same}

-- ---- fronts of one length

same_fronts : (u v r t : Text) → u ++ r ≡ v ++ t → length u ≡ length v → (u ≡ v) × (r ≡ t)
same_fronts [] [] r t e l = (refl, e)
same_fronts [] (y ∷ v) r t e l = absurd (omega arith)
same_fronts (x ∷ u) [] r t e l = absurd (omega arith)
same_fronts (x ∷ u) (y ∷ v) r t e l =
    let h : x ≡ y = cc in
    let f : u ++ r ≡ v ++ t = cc in
    let w = same_fronts u v r t f (omega arith) in
    ((let g : u ≡ v = w.0 in cc), w.1)

pub take_front : (u r : Text) → take (length u) (u ++ r) ≡ u
take_front [] r = refl
take_front (x ∷ u) r = ap (λ t. x ∷ t) (take_front u r)

-- ---- the longest element is what `element_at` finds

pub found_longest : (which : Element) (w text : Text) → Longest which w text → element_at text ≡ found which (length w)
found_longest which w text l =
    let win = wins l.0 l.1.0 in
    let at : element_at text ≡ found win.0 win.1 = ap element_at l.1.1 ∙ win.2 in
    let f = front text win.0 win.1 at in
    let le : length f.0 ≤ length w = l.2 win.0 f.0 f.1 f.2 f.4 in
    let same : length w ≡ win.1 = omega (arith, f.3, le, win.3) in
    let kind : which ≡ win.0 = win.4 same in
    at ∙ ap (λ q. found q win.1) (sym kind) ∙ ap (λ n. found which n) (sym same)

pub longest_found : (which : Element) (n : ℕ) (text : Text) → element_at text ≡ found which n → (w : Text) × (length w ≡ n) × Longest which w text
longest_found which n text h =
    let f = front text which n h in (
      f.0,
      f.3,
      (
        f.4,
        (f.1, f.2),
        λ other u v s d.
            let win = wins d v in
            let at : found win.0 win.1 ≡ found which n = sym win.2 ∙ ap element_at (sym s) ∙ h in
            let same = found_same win.0 which win.1 n at in
            omega (arith, win.3, same.1, f.3),
      ),
    )

pub none_found : (text : Text) → element_at text ≡ None → (which : Element) (w rest : Text) → text ≡ w ++ rest → IsElement which w → ⊥
none_found text h which w rest s d =
    let win = wins d rest in
    let at : None ≡ found win.0 win.1 = sym h ∙ ap element_at s ∙ win.2 in cc

one_longest : (x y : Element) (w v text r t : Text) → Longest x w text → Longest y v text → text ≡ w ++ r → text ≡ v ++ t → (x ≡ y) × (w ≡ v) × (r ≡ t)
one_longest x y w v text r t l m e f =
    let same = found_same x y (length w) (length v) (sym (found_longest x w text l) ∙ found_longest y v text m) in
    let s = same_fronts w v r t (sym e ∙ f) same.1 in
    (same.0, s.0, s.1)

-- ---- readings

pub reads_on : {at to end : ℕ} {text left last : Text} {ts us : List Token} → Reads at text ts to left → Reads to left us end last → Reads at text (ts ++ us) end last
reads_on none s = s
reads_on (gap w rest e l r) s = gap w rest e l (reads_on r s)
reads_on (one which w rest what e l k r) s = one which w rest what e l k (reads_on r s)

abbrev pub GoesOn : ℕ → Text → List Token → List Token → ℕ → Text → Type 0
GoesOn to left ts us end last = (more : List Token) × Reads to left more end last × (us ≡ ts ++ more)

moved : (at bt : ℕ) (text u : Text) {us : List Token} {end : ℕ} {last : Text} → at ≡ bt → text ≡ u → Reads at text us end last → Reads bt u us end last
moved at bt text u {us} {end} {last} a e r = subst (λ n. Reads n u us end last) a (subst (λ t. Reads at t us end last) e r)

no_gap : (w : Text) (which : Element) (what : TokenKind) → element.Gap ≡ which → kind_of which w ≡ Some what → ⊥
no_gap w which what h k = let n : kind_of element.Gap w ≡ Some what = ap (λ q. kind_of q w) h ∙ k in cc

pub compare : {at to end : ℕ} {text left last : Text} {ts us : List Token} → Reads at text ts to left → Reads at text us end last → GoesOn to left ts us end last ⊎ GoesOn end last us ts to left
compare none s = inl (_, s, refl)
compare (gap w rest e l r) none = inr (_, gap w rest e l r, refl)
compare (one which w rest what e l k r) none = inr (_, one which w rest what e l k r, refl)
compare {at} {text} (gap w rest e l r) (gap v t f m s) =
    let same = one_longest element.Gap element.Gap w v text rest t l m e f in
    compare r (moved (at + size v) (at + size w) t rest (ap (λ u. at + size u) (sym same.1)) (sym same.2) s)
compare {at} {text} (gap w rest e l r) (one which v t what f m k s) =
    let same = one_longest element.Gap which w v text rest t l m e f in absurd (no_gap v which what same.0 k)
compare {at} {text} (one which w rest what e l k r) (gap v t f m s) =
    let same = one_longest which element.Gap w v text rest t l m e f in absurd (no_gap w which what (sym same.0) k)
compare {at} {text} (one x w rest what e l k r) (one y v t other f m j s) =
    let same = one_longest x y w v text rest t l m e f in
    let kinds : Some what ≡ Some other = sym k ∙ ap (λ q. kind_of q w) same.0 ∙ ap (kind_of y) same.1 ∙ j in
    let kind : what ≡ other = cc in
    let tokens : token what at (at + size w) ≡ token other at (at + size v) = ap (λ u. token what at (at + size u)) same.1 ∙ ap (λ u. token u at (at + size v)) kind in
    elim (compare r (moved (at + size v) (at + size w) t rest (ap (λ u. at + size u) (sym same.1)) (sym same.2) s)) [
      | inl g ↦ inl (g.0, g.1, (let h = g.2 in cc))
      | inr g ↦ inr (g.0, g.1, (let h = g.2 in cc))
    ]
