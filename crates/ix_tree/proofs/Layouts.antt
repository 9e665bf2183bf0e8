-- Nodes one behind the other.
use Rattle.std.proofs.Common.{◌≡◌, ◌≤◌, ◌<◌, ℕ, max, List, [], ◌∷◌, ◌++◌, refl, sym, ap, subst, ◌∙◌, arith}
use Rattle.ix_text.specs.declared.span.Span.{Span}
use Rattle.ix_tree.specs.declared.annot.Ident.{Ident}
use Rattle.ix_tree.specs.Placed.{Layout, nothing, node, copy, LaidOut, followed, row, piece, again, name_piece}

-- it lies between these bytes, and isn't empty
abbrev pub Lies : ℕ → ℕ → Span → Type 0
Lies lo hi span = (lo ≤ span.from) × (span.from < span.to) × (span.to ≤ hi)

-- further out
pub laid_more : (start lo hi first low high : ℕ) (x : Layout) → first ≤ start → low ≤ lo → hi ≤ high → LaidOut start lo hi x → LaidOut first low high x
laid_more start lo hi first low high nothing a b c d = omega (arith, b, c, d)
laid_more start lo hi first low high (node span parts later) a b c (d, e, f, g) = (omega (arith, b, d), e, f, laid_more start span.to hi first span.to high later a (omega arith) c g)
laid_more start lo hi first low high (copy parts later) a b c (mid, f, g) =
    (mid, laid_more start start mid first first mid parts a a (omega arith) f, laid_more start (max lo mid) hi first (max low mid) high later a (omega (arith, b)) c g)

pub laid_ends : (start lo hi : ℕ) (x : Layout) → LaidOut start lo hi x → lo ≤ hi
laid_ends start lo hi nothing a = a
laid_ends start lo hi (node span parts later) (a, b, c, d) = omega (arith, a, b, laid_ends start span.to hi later d)
laid_ends start lo hi (copy parts later) (m, c, d) = omega (arith, laid_ends start (max lo m) hi later d)

-- one behind the other
pub laid_both : (start lo mid hi : ℕ) (x y : Layout) → LaidOut start lo mid x → LaidOut start mid hi y → LaidOut start lo hi (followed x y)
laid_both start lo mid hi nothing y a b = laid_more start mid hi start lo hi y (omega arith) a (omega arith) b
laid_both start lo mid hi (node span parts later) y (d, e, f, g) b = (d, e, f, laid_both start span.to mid hi later y g b)
laid_both start lo mid hi (copy parts later) y (m, f, g) b = (m, f, laid_both start (max lo m) mid hi later y g b)

pub followed_assoc : (x y z : Layout) → followed (followed x y) z ≡ followed x (followed y z)
followed_assoc nothing y z = refl
followed_assoc (node span parts later) y z = ap (λ l. node span parts l) (followed_assoc later y z)
followed_assoc (copy parts later) y z = ap (λ l. copy parts l) (followed_assoc later y z)

pub rows_are : (xs ys : List Layout) → row (xs ++ ys) ≡ followed (row xs) (row ys)
rows_are [] ys = refl
rows_are (x ∷ xs) ys = ap (λ l. followed x l) (rows_are xs ys) ∙ sym (followed_assoc x (row xs) (row ys))

-- ---- rows

abbrev pub Laid : ℕ → ℕ → ℕ → List Layout → Type 0
Laid start lo hi xs = LaidOut start lo hi (row xs)

pub laid_rows : (start lo mid next hi : ℕ) (xs ys : List Layout) → Laid start lo mid xs → Laid start next hi ys → mid ≤ next → Laid start lo hi (xs ++ ys)
laid_rows start lo mid next hi xs ys a b le =
    subst (λ l. LaidOut start lo hi l) (sym (rows_are xs ys)) (laid_both start lo mid hi (row xs) (row ys) a (laid_more start next hi start mid hi (row ys) (omega arith) le (omega arith) b))

pub laid_first : (start lo mid next hi : ℕ) (x : Layout) (xs : List Layout) → LaidOut start lo mid x → Laid start next hi xs → mid ≤ next → Laid start lo hi (x ∷ xs)
laid_first start lo mid next hi x xs a b le = laid_both start lo mid hi x (row xs) a (laid_more start next hi start mid hi (row xs) (omega arith) le (omega arith) b)

pub laid_one : (start lo hi : ℕ) (x : Layout) → LaidOut start lo hi x → Laid start lo hi (x ∷ [])
laid_one start lo hi x a = laid_both start lo hi hi x nothing a (omega arith)

pub laid_two : (start lo mid next hi : ℕ) (x y : Layout) → LaidOut start lo mid x → LaidOut start next hi y → mid ≤ next → Laid start lo hi (x ∷ y ∷ [])
laid_two start lo mid next hi x y a b le = laid_first start lo mid next hi x (y ∷ []) a (laid_one start next hi y b) le

pub laid_node : (start lo hi : ℕ) (span : Span) (parts : List Layout) → Lies lo hi span → Laid span.from span.from span.to parts → LaidOut start lo hi (piece span parts)
laid_node start lo hi span parts (a, b, c) d = (a, b, d, c)

pub laid_name : (start lo hi : ℕ) (name : Ident) → Lies lo hi name.span → LaidOut start lo hi (name_piece name)
laid_name start lo hi name l = laid_node start lo hi name.span [] l (omega (arith, l.1))

-- copies of what stands further left
pub laid_again : (start mid lo hi : ℕ) (xs : List Layout) → Laid start start mid xs → mid ≤ lo → lo ≤ hi → LaidOut start lo hi (again xs)
laid_again start mid lo hi xs a b c = (mid, a, omega (arith, b, c))
