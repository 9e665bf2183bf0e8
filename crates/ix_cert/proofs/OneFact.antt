-- Facts with one text are one, but for the order in which they stand.
use Rattle.std.specs.Prelude.{◌≡◌, ℕ, ◌+◌, ◌*◌, ℤ, pos, negsuc, suc, List, [], ◌∷◌, ◌++◌, codes, decimal, refl}
use Rattle.std.specs.Fmt.{signed_decimal}
use Rattle.std.proofs.Common.{arith, get_or, ap, sym, ◌∙◌}
use Rattle.std.proofs.lemmas.Fmt.{decimal_injective}
use Rattle.std.proofs.lemmas.Int.{ints}
use Rattle.ix_num.specs.Ints.{IsInt}
use Rattle.ix_core.specs.declared.fact.Fact.{Fact}
use Rattle.ix_core.specs.declared.fact.Fact.TheVariants.{Rng, LenRng, Low, Same, IsLen, Less, Sum, Search, Neg, Upper}
use Rattle.ix_core.specs.declared.fact.Path.{Path}
use Rattle.ix_core.specs.declared.fact.Path.TheVariants.{Slot, FieldOf}
use Rattle.ix_core.specs.declared.fact.PathOff.{PathOff}
use Rattle.ix_core.specs.declared.fact.PathOff.TheVariants.{Nothing, Plus, Minus}
use Rattle.ix_core.proofs.Cases.{differ}
use Rattle.ix_cert.specs.Lines.{path_text, fact_text}
use Rattle.ix_cert.specs.Reading.{IsSmall, IsSmallOffset, IsSmallFact, in_text_order, offset_text, args_text, word_of, given_text}
use Rattle.ix_cert.proofs.Bytes.{lacks_no, cut_once, cancel, decimal_lacks, signed_lacks, path_lacks}
use Rattle.ix_cert.proofs.Orders.{text_of, small_order, offset_lacks}

-- ---- numbers and paths

path_once : (p q : Path) → IsSmall p → IsSmall q → path_text p ≡ path_text q → p ≡ q
path_once (Slot s) (Slot t) x y e =
    let tail : decimal s ≡ decimal t = cc in
    ap Slot (decimal_injective s t (omega (arith, x)) (omega (arith, y)) tail)
path_once (Slot s) (FieldOf t g) x y e =
    let tail : decimal s ≡ decimal t ++ 46 ∷ decimal g = cc in
    absurd (lacks_no 46 (decimal s) (decimal t) (decimal g) (decimal_lacks 46 s (omega arith) (omega (arith, x))) tail)
path_once (FieldOf s f) (Slot t) x y e =
    let tail : decimal t ≡ decimal s ++ 46 ∷ decimal f = cc in
    absurd (lacks_no 46 (decimal t) (decimal s) (decimal f) (decimal_lacks 46 t (omega arith) (omega (arith, y))) tail)
path_once (FieldOf s f) (FieldOf t g) x y e =
    let tail : decimal s ++ 46 ∷ decimal f ≡ decimal t ++ 46 ∷ decimal g = cc in
    let same = cut_once 46 (decimal s) (decimal f) (decimal t) (decimal g) (decimal_lacks 46 s (omega arith) (omega (arith, x.0))) (decimal_lacks 46 t (omega arith) (omega (arith, y.0))) tail in
    let slot = decimal_injective s t (omega (arith, x.0)) (omega (arith, y.0)) same.0 in
    let field = decimal_injective f g (omega (arith, x.1)) (omega (arith, y.1)) same.1 in
    cc

signed_once : (m n : ℤ) → IsInt m → IsInt n → signed_decimal m ≡ signed_decimal n → m ≡ n
signed_once (pos m) (pos n) x y e = ap pos (decimal_injective m n (omega (arith, ints, x.to)) (omega (arith, ints, y.to)) e)
signed_once (pos m) (negsuc n) x y e = absurd (lacks_no 45 (decimal m) [] (decimal (suc n)) (decimal_lacks 45 m (omega arith) (omega (arith, ints, x.to))) e)
signed_once (negsuc m) (pos n) x y e = absurd (lacks_no 45 (decimal n) [] (decimal (suc m)) (decimal_lacks 45 n (omega arith) (omega (arith, ints, y.to))) (sym e))
signed_once (negsuc m) (negsuc n) x y e =
    let tail : decimal (suc m) ≡ decimal (suc n) = cc in
    let same : suc m ≡ suc n = decimal_injective (suc m) (suc n) (omega (arith, ints, x.from)) (omega (arith, ints, y.from)) tail in
    let one : m ≡ n = omega (arith, same) in
    ap negsuc one

offset_once : (o x : PathOff) → IsSmallOffset o → IsSmallOffset x → offset_text o ≡ offset_text x → o ≡ x
offset_once Nothing Nothing s t e = refl
offset_once Nothing (Plus q) s t e = absurd (differ 48 43 refl (ap (λ xs. get_or xs 0 0) e))
offset_once Nothing (Minus q) s t e = absurd (differ 48 45 refl (ap (λ xs. get_or xs 0 0) e))
offset_once (Plus p) Nothing s t e = absurd (differ 43 48 refl (ap (λ xs. get_or xs 0 0) e))
offset_once (Plus p) (Plus q) s t e = ap Plus (path_once p q s t (cancel (43 ∷ []) (path_text p) (path_text q) e))
offset_once (Plus p) (Minus q) s t e = absurd (differ 43 45 refl (ap (λ xs. get_or xs 0 0) e))
offset_once (Minus p) Nothing s t e = absurd (differ 45 48 refl (ap (λ xs. get_or xs 0 0) e))
offset_once (Minus p) (Plus q) s t e = absurd (differ 45 43 refl (ap (λ xs. get_or xs 0 0) e))
offset_once (Minus p) (Minus q) s t e = ap Minus (path_once p q s t (cancel (45 ∷ []) (path_text p) (path_text q) e))

-- ---- parts before a space

path_first : (p q : Path) (a b : List ℕ) → IsSmall p → IsSmall q → path_text p ++ 32 ∷ a ≡ path_text q ++ 32 ∷ b → (p ≡ q) × (a ≡ b)
path_first p q a b x y e =
    let same = cut_once 32 (path_text p) a (path_text q) b (path_lacks 32 p (omega arith) x) (path_lacks 32 q (omega arith) y) e in
    (path_once p q x y same.0, same.1)

signed_first : (m n : ℤ) (a b : List ℕ) → IsInt m → IsInt n → signed_decimal m ++ 32 ∷ a ≡ signed_decimal n ++ 32 ∷ b → (m ≡ n) × (a ≡ b)
signed_first m n a b x y e =
    let same = cut_once 32 (signed_decimal m) a (signed_decimal n) b (signed_lacks 32 m (omega arith) (λ i. omega arith) x) (signed_lacks 32 n (omega arith) (λ i. omega arith) y) e in
    (signed_once m n x y same.0, same.1)

offset_first : (o x : PathOff) (a b : List ℕ) → IsSmallOffset o → IsSmallOffset x → offset_text o ++ 32 ∷ a ≡ offset_text x ++ 32 ∷ b → (o ≡ x) × (a ≡ b)
offset_first o x a b s t e =
    let same = cut_once 32 (offset_text o) a (offset_text x) b (offset_lacks 32 o (omega arith) (omega arith) s) (offset_lacks 32 x (omega arith) (omega arith) t) e in
    (offset_once o x s t same.0, same.1)

-- ---- a fact as it is given

-- the first bytes of its word, which no other word has
abbrev pub first_three : List ℕ → ℕ
first_three text = get_or text 0 0 * 65536 + get_or text 1 0 * 256 + get_or text 2 0

abbrev pub word_code : Fact → ℕ
word_code f = first_three (word_of f)

pub word_starts : (f : Fact) (x : List ℕ) → first_three (word_of f ++ x) ≡ word_code f
word_starts (Rng p l h) x = refl
word_starts (LenRng a l h) x = refl
word_starts (Low p c) x = refl
word_starts (Same a b) x = refl
word_starts (IsLen p a) x = refl
word_starts (Less p q c) x = refl
word_starts (Sum t y z) x = refl
word_starts (Search p a) x = refl
word_starts (Neg p a) x = refl
word_starts (Upper p a o c) x = refl

same_word : (f g : Fact) → given_text f ≡ given_text g → word_code f ≡ word_code g
same_word f g e = sym (word_starts f (args_text f)) ∙ (ap first_three e ∙ word_starts g (args_text g))

given_once : (f g : Fact) → IsSmallFact f → IsSmallFact g → given_text f ≡ given_text g → f ≡ g
given_once (Rng p l h) (Rng q m k) s t e =
    let a = path_first p q _ _ s.0 t.0 (cancel (codes "rng ") (args_text (Rng p l h)) (args_text (Rng q m k)) e) in
    let b = signed_first l m _ _ s.1 t.1 a.1 in
    let c = signed_once h k s.2 t.2 b.1 in
    let path = a.0 in
    let low = b.0 in
    cc
given_once (LenRng p l h) (LenRng q m k) s t e =
    let a = path_first p q _ _ s.0 t.0 (cancel (codes "len ") (args_text (LenRng p l h)) (args_text (LenRng q m k)) e) in
    let b = signed_first l m _ _ s.1 t.1 a.1 in
    let c = signed_once h k s.2 t.2 b.1 in
    let path = a.0 in
    let low = b.0 in
    cc
given_once (Low p c) (Low q d) s t e =
    let a = path_first p q _ _ s.0 t.0 (cancel (codes "low ") (args_text (Low p c)) (args_text (Low q d)) e) in
    let b = signed_once c d s.1 t.1 a.1 in
    let path = a.0 in
    cc
given_once (Same p a) (Same q b) s t e =
    let x = path_first p q _ _ s.0 t.0 (cancel (codes "same ") (args_text (Same p a)) (args_text (Same q b)) e) in
    let y = path_once a b s.1 t.1 x.1 in
    let path = x.0 in
    cc
given_once (IsLen p a) (IsLen q b) s t e =
    let x = path_first p q _ _ s.0 t.0 (cancel (codes "islen ") (args_text (IsLen p a)) (args_text (IsLen q b)) e) in
    let y = path_once a b s.1 t.1 x.1 in
    let path = x.0 in
    cc
given_once (Less p a c) (Less q b d) s t e =
    let x = path_first p q _ _ s.0 t.0 (cancel (codes "less ") (args_text (Less p a c)) (args_text (Less q b d)) e) in
    let y = path_first a b _ _ s.1 t.1 x.1 in
    let z = signed_once c d s.2 t.2 y.1 in
    let path = x.0 in
    let other = y.0 in
    cc
given_once (Sum p a b) (Sum q c d) s t e =
    let x = path_first p q _ _ s.0 t.0 (cancel (codes "sum ") (args_text (Sum p a b)) (args_text (Sum q c d)) e) in
    let y = path_first a c _ _ s.1 t.1 x.1 in
    let z = path_once b d s.2 t.2 y.1 in
    let path = x.0 in
    let other = y.0 in
    cc
given_once (Search p a) (Search q b) s t e =
    let x = path_first p q _ _ s.0 t.0 (cancel (codes "search ") (args_text (Search p a)) (args_text (Search q b)) e) in
    let y = path_once a b s.1 t.1 x.1 in
    let path = x.0 in
    cc
given_once (Neg p a) (Neg q b) s t e =
    let x = path_first p q _ _ s.0 t.0 (cancel (codes "neg ") (args_text (Neg p a)) (args_text (Neg q b)) e) in
    let y = path_once a b s.1 t.1 x.1 in
    let path = x.0 in
    cc
given_once (Upper p a o c) (Upper q b i d) s t e =
    let x = path_first p q _ _ s.0 t.0 (cancel (codes "upper ") (args_text (Upper p a o c)) (args_text (Upper q b i d)) e) in
    let y = path_first a b _ _ s.1 t.1 x.1 in
    let z = offset_first o i _ _ s.2 t.2 y.1 in
    let u = signed_once c d s.3 t.3 z.1 in
    let path = x.0 in
    let array = y.0 in
    let offset = z.0 in
    cc
given_once f g s t e = absurd (differ (word_code f) (word_code g) refl (same_word f g e))

-- ---- a fact as it is written

pub fact_once : (f g : Fact) → IsSmallFact f → IsSmallFact g → fact_text f ≡ fact_text g → in_text_order f ≡ in_text_order g
fact_once f g s t e = given_once (in_text_order f) (in_text_order g) (small_order f s) (small_order g t) (sym (text_of f) ∙ (e ∙ text_of g))
