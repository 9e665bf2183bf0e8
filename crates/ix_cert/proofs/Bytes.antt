-- Bytes that a text lacks, and texts cut at a byte.
use Rattle.std.specs.Prelude.{◌≡◌, ◌≢◌, ℕ, suc, ◌+◌, ◌%◌, ◌<◌, ◌^◌, Bool, true, false, not, ◌&&◌, ◌==◌, ℤ, pos, negsuc, List, [], ◌∷◌, ◌++◌, Some, None, codes, decimal, refl}
use Rattle.std.specs.Fmt.{signed_decimal}
use Rattle.std.proofs.Common.{arith, sym}
use Rattle.std.proofs.lemmas.Bool.{and_parts}
use Rattle.std.proofs.lemmas.Fmt.{decimal_by_steps}
use Rattle.std.proofs.lemmas.Int.{ints}
use Rattle.ix_num.specs.Ints.{IsInt}
use Rattle.ix_core.specs.declared.fact.Path.{Path}
use Rattle.ix_core.specs.declared.fact.Path.TheVariants.{Slot, FieldOf}
use Rattle.ix_core.proofs.Cases.{differ}
use Rattle.ix_cert.specs.Lines.{path_text}
use Rattle.ix_cert.specs.Reading.{Lacks, IsSmall}

pub nil_cons : {A : Type 0} (x : A) (xs : List A) → [] ≡ x ∷ xs → ⊥
nil_cons x xs e = cc

pub nil_middle : {A : Type 0} (before : List A) (x : A) (after : List A) → [] ≡ before ++ x ∷ after → ⊥
nil_middle [] x after e = nil_cons x after e
nil_middle (y ∷ before) x after e = nil_cons y (before ++ x ∷ after) e

pub none_some : {A : Type 0} (x : A) → None ≡ Some x → ⊥
none_some x e = cc

pub some_same : {A : Type 0} (x y : A) → Some x ≡ Some y → x ≡ y
some_same x y e = cc

-- ---- bytes that a text lacks

pub lacks_push : (byte one : ℕ) (text : List ℕ) → Lacks byte text → one ≢ byte → Lacks byte (text ++ one ∷ [])
lacks_push byte one [] lacks other = (other, tt)
lacks_push byte one (x ∷ text) lacks other = (lacks.0, lacks_push byte one text lacks.1 other)

pub lacks_both : (byte : ℕ) (a b : List ℕ) → Lacks byte a → Lacks byte b → Lacks byte (a ++ b)
lacks_both byte [] b x y = y
lacks_both byte (c ∷ a) b x y = (x.0, lacks_both byte a b x.1 y)

pub lacks_no : (byte : ℕ) (text a b : List ℕ) → Lacks byte text → text ≡ a ++ byte ∷ b → ⊥
lacks_no byte [] [] b lacks e = cc
lacks_no byte [] (x ∷ a) b lacks e = cc
lacks_no byte (y ∷ text) [] b lacks e = lacks.0 (cc)
lacks_no byte (y ∷ text) (x ∷ a) b lacks e =
    let tail : text ≡ a ++ byte ∷ b = cc in
    lacks_no byte text a b lacks.1 tail

-- the same as a test
abbrev pub lacks_test : ℕ → List ℕ → Bool
lacks_test byte [] = true
lacks_test byte (one ∷ text) = not (one == byte) && lacks_test byte text

pub not_true : (b : Bool) → not b ≡ true → b ≡ false
not_true true h = sym h
not_true false h = refl

pub lacks_tested : (byte : ℕ) (text : List ℕ) → lacks_test byte text ≡ true → Lacks byte text
lacks_tested byte [] h = tt
lacks_tested byte (one ∷ text) h =
    let parts = and_parts (not (one == byte)) (lacks_test byte text) h in
    (differ one byte (not_true (one == byte) parts.0), lacks_tested byte text parts.1)

-- a text is cut at one place
pub cut_once : (byte : ℕ) (a b c d : List ℕ) → Lacks byte a → Lacks byte c → a ++ byte ∷ b ≡ c ++ byte ∷ d → (a ≡ c) × (b ≡ d)
cut_once byte [] b [] d x y e = (refl, cc)
cut_once byte [] b (n ∷ c) d x y e =
    let same : n ≡ byte = cc in
    absurd (y.0 same)
cut_once byte (m ∷ a) b [] d x y e =
    let same : m ≡ byte = cc in
    absurd (x.0 same)
cut_once byte (m ∷ a) b (n ∷ c) d x y e =
    let same : m ≡ n = cc in
    let tail : a ++ byte ∷ b ≡ c ++ byte ∷ d = cc in
    let rest = cut_once byte a b c d x.1 y.1 tail in
    let first : a ≡ c = rest.0 in
    (cc, rest.1)

-- what stands behind one text is one
pub cancel : (word a b : List ℕ) → word ++ a ≡ word ++ b → a ≡ b
cancel [] a b e = e
cancel (n ∷ word) a b e =
    let tail : word ++ a ≡ word ++ b = cc in
    cancel word a b tail

-- ---- numbers and paths

pub decimal_lacks : (byte n : ℕ) → byte < 48 → n < 2 ^ 64 → Lacks byte (decimal n)
decimal_lacks byte n low small =
    decimal_by_steps (λ m ds. Lacks byte ds)
    (λ m h. ((λ e. omega arith), tt))
    (λ m ds h more. lacks_push byte (48 + m % 10) ds more (λ e. omega arith))
    n small

pub signed_lacks : (byte : ℕ) (n : ℤ) → byte < 48 → 45 ≢ byte → IsInt n → Lacks byte (signed_decimal n)
signed_lacks byte (pos m) low other int = decimal_lacks byte m low (omega (arith, ints, int.to))
signed_lacks byte (negsuc m) low other int = (other, decimal_lacks byte (suc m) low (omega (arith, ints, int.from)))

pub path_lacks : (byte : ℕ) (p : Path) → byte < 46 → IsSmall p → Lacks byte (path_text p)
path_lacks byte (Slot s) low small = ((λ e. omega arith), decimal_lacks byte s (omega arith) (omega arith))
path_lacks byte (FieldOf s f) low small =
    ((λ e. omega arith), lacks_both byte (decimal s) (codes "." ++ decimal f) (decimal_lacks byte s (omega arith) (omega arith)) ((λ e. omega arith), decimal_lacks byte f (omega arith) (omega arith)))
