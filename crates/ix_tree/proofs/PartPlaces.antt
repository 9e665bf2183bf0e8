-- Parts of trees that stand in a piece of text.
use Rattle.std.proofs.Common.{◌≡◌, ◌≢◌, ◌≤◌, ◌<◌, ◌+◌, ℕ, List, [], ◌∷◌, ◌++◌, length, refl, sym, ap, subst, ◌∙◌, append_assoc, length-append, arith, ◌⊎◌, inl, inr}
use Rattle.std.proofs.lemmas.List.{append-nil}
use Rattle.ix_text.specs.declared.span.Span.{Span}
use Rattle.ix_tree.specs.declared.annot.Ident.{Ident}
use Rattle.ix_tree.specs.Parts.{Part, expression, statement, declaration, in_type, elsewhere, entries, Apart, All, AllApart, declarations, nodes, together, listed, each}
use Rattle.ix_tree.proofs.Layouts.{Lies}

abbrev pub Inside : ℕ → ℕ → Part → Type 0
Inside lo hi (expression span) = Lies lo hi span
Inside lo hi (in_type name) = Lies lo hi name.span
Inside lo hi (elsewhere name) = Lies lo hi name.span
Inside lo hi _ = Unit {0}

abbrev pub Short : ℕ → Part → Type 0
Short n (entries m) = m ≤ n
Short n _ = Unit {0}

-- These parts stand between those bytes, in so many tokens.
pub record Stand (lo hi n : ℕ) (ps : List Part) : Type 0 where
  pub apart : AllApart ps
  pub inside : All (Inside lo hi) ps
  pub short : All (Short n) ps
  pub few_declarations : declarations ps ≤ n
  pub few_nodes : nodes ps ≤ n

-- ---- lists

pub all_more : (P Q : Part → Type 0) → ((p : Part) → P p → Q p) → (ps : List Part) → All P ps → All Q ps
all_more P Q more [] a = tt
all_more P Q more (p ∷ ps) (a, b) = (more p a, all_more P Q more ps b)

pub all_both : (P : Part → Type 0) (ps qs : List Part) → All P ps → All P qs → All P (ps ++ qs)
all_both P [] qs a b = b
all_both P (p ∷ ps) qs (a, c) b = (a, all_both P ps qs c b)

-- ---- further out

lies_more : (lo hi low high : ℕ) (span : Span) → low ≤ lo → hi ≤ high → Lies lo hi span → Lies low high span
lies_more lo hi low high span a b (c, d, e) = (omega (arith, a, c), d, omega (arith, b, e))

inside_more : (lo hi low high : ℕ) → low ≤ lo → hi ≤ high → (p : Part) → Inside lo hi p → Inside low high p
inside_more lo hi low high a b (expression span) i = lies_more lo hi low high span a b i
inside_more lo hi low high a b (in_type name) i = lies_more lo hi low high name.span a b i
inside_more lo hi low high a b (elsewhere name) i = lies_more lo hi low high name.span a b i
inside_more lo hi low high a b (statement span) i = tt
inside_more lo hi low high a b declaration i = tt
inside_more lo hi low high a b (entries m) i = tt

short_more : (n m : ℕ) → n ≤ m → (p : Part) → Short n p → Short m p
short_more n m le (entries k) s = omega (arith, le, s)
short_more n m le (expression span) s = tt
short_more n m le (in_type name) s = tt
short_more n m le (elsewhere name) s = tt
short_more n m le (statement span) s = tt
short_more n m le declaration s = tt

pub stand_more : (lo hi n low high m : ℕ) (ps : List Part) → low ≤ lo → hi ≤ high → n ≤ m → Stand lo hi n ps → Stand low high m ps
stand_more lo hi n low high m ps a b c s = record {
  apart = s.apart;
  inside = all_more (Inside lo hi) (Inside low high) (inside_more lo hi low high a b) ps s.inside;
  short = all_more (Short n) (Short m) (short_more n m c) ps s.short;
  few_declarations = omega (arith, c, s.few_declarations);
  few_nodes = omega (arith, c, s.few_nodes);
}

-- ---- one behind the other

lies_apart : (lo mid high : ℕ) (a b : Span) → Lies lo mid a → Lies mid high b → a ≢ b
lies_apart lo mid high a b x y same = omega (arith, x.1, x.2, y.0, ap (λ (s : Span). s.from) same)

part_apart : (lo mid high : ℕ) (p q : Part) → Inside lo mid p → Inside mid high q → Apart p q
part_apart lo mid high (expression a) (expression b) x y = lies_apart lo mid high a b x y
part_apart lo mid high (in_type a) (in_type b) x y = λ same. absurd (lies_apart lo mid high a.span b.span x y same)
part_apart lo mid high (in_type a) (elsewhere b) x y = lies_apart lo mid high a.span b.span x y
part_apart lo mid high (elsewhere a) (in_type b) x y = lies_apart lo mid high a.span b.span x y
part_apart lo mid high (elsewhere a) (elsewhere b) x y = lies_apart lo mid high a.span b.span x y
part_apart lo mid high (expression a) (statement b) x y = tt
part_apart lo mid high (expression a) declaration x y = tt
part_apart lo mid high (expression a) (in_type b) x y = tt
part_apart lo mid high (expression a) (elsewhere b) x y = tt
part_apart lo mid high (expression a) (entries m) x y = tt
part_apart lo mid high (in_type a) (expression b) x y = tt
part_apart lo mid high (in_type a) (statement b) x y = tt
part_apart lo mid high (in_type a) declaration x y = tt
part_apart lo mid high (in_type a) (entries m) x y = tt
part_apart lo mid high (elsewhere a) (expression b) x y = tt
part_apart lo mid high (elsewhere a) (statement b) x y = tt
part_apart lo mid high (elsewhere a) declaration x y = tt
part_apart lo mid high (elsewhere a) (entries m) x y = tt
part_apart lo mid high (statement a) q x y = tt
part_apart lo mid high declaration q x y = tt
part_apart lo mid high (entries m) q x y = tt

all_apart : (lo mid high : ℕ) (p : Part) (qs : List Part) → Inside lo mid p → All (Inside mid high) qs → All (Apart p) qs
all_apart lo mid high p [] i js = tt
all_apart lo mid high p (q ∷ qs) i (j, js) = (part_apart lo mid high p q i j, all_apart lo mid high p qs i js)

both_apart : (lo mid high : ℕ) (ps qs : List Part) → AllApart ps → AllApart qs → All (Inside lo mid) ps → All (Inside mid high) qs → AllApart (ps ++ qs)
both_apart lo mid high [] qs a b i j = b
both_apart lo mid high (p ∷ ps) qs (x, xs) b (i, is) j = (all_both (Apart p) ps qs x (all_apart lo mid high p qs i j), both_apart lo mid high ps qs xs b is j)

declarations_both : (ps qs : List Part) → declarations (ps ++ qs) ≡ declarations ps + declarations qs
declarations_both [] qs = omega arith
declarations_both (declaration ∷ ps) qs = omega (arith, declarations_both ps qs)
declarations_both (expression a ∷ ps) qs = declarations_both ps qs
declarations_both (statement a ∷ ps) qs = declarations_both ps qs
declarations_both (in_type a ∷ ps) qs = declarations_both ps qs
declarations_both (elsewhere a ∷ ps) qs = declarations_both ps qs
declarations_both (entries m ∷ ps) qs = declarations_both ps qs

nodes_both : (ps qs : List Part) → nodes (ps ++ qs) ≡ nodes ps + nodes qs
nodes_both [] qs = omega arith
nodes_both (declaration ∷ ps) qs = nodes_both ps qs
nodes_both (expression a ∷ ps) qs = omega (arith, nodes_both ps qs)
nodes_both (statement a ∷ ps) qs = omega (arith, nodes_both ps qs)
nodes_both (in_type a ∷ ps) qs = nodes_both ps qs
nodes_both (elsewhere a ∷ ps) qs = nodes_both ps qs
nodes_both (entries m ∷ ps) qs = nodes_both ps qs

pub stand_both : (lo mid high n m : ℕ) (ps qs : List Part) → Stand lo mid n ps → Stand mid high m qs → lo ≤ mid → mid ≤ high → Stand lo high (n + m) (ps ++ qs)
stand_both lo mid high n m ps qs a b c d =
    let x = stand_more lo mid n lo high (n + m) ps (omega arith) d (omega arith) a in
    let y = stand_more mid high m lo high (n + m) qs c (omega arith) (omega arith) b in
    record {
      apart = both_apart lo mid high ps qs a.apart b.apart a.inside b.inside;
      inside = all_both (Inside lo high) ps qs x.inside y.inside;
      short = all_both (Short (n + m)) ps qs x.short y.short;
      few_declarations = omega (arith, a.few_declarations, b.few_declarations, declarations_both ps qs);
      few_nodes = omega (arith, a.few_nodes, b.few_nodes, nodes_both ps qs);
    }

-- ---- nothing, and one more

pub stand_none : (lo hi n : ℕ) → Stand lo hi n []
stand_none lo hi n = record { apart = tt; inside = tt; short = tt; few_declarations = omega arith; few_nodes = omega arith }

apart_entries : (m : ℕ) (ps : List Part) → All (Apart (entries m)) ps
apart_entries m [] = tt
apart_entries m (p ∷ ps) = (tt, apart_entries m ps)

apart_declaration : (ps : List Part) → All (Apart declaration) ps
apart_declaration [] = tt
apart_declaration (p ∷ ps) = (tt, apart_declaration ps)

apart_statement : (s : Span) (ps : List Part) → All (Apart (statement s)) ps
apart_statement s [] = tt
apart_statement s (p ∷ ps) = (tt, apart_statement s ps)

pub stand_entries : (lo hi n m : ℕ) (ps : List Part) → m ≤ n → Stand lo hi n ps → Stand lo hi n (entries m ∷ ps)
stand_entries lo hi n m ps le s = record {
  apart = (apart_entries m ps, s.apart);
  inside = (tt, s.inside);
  short = (le, s.short);
  few_declarations = s.few_declarations;
  few_nodes = s.few_nodes;
}

pub stand_declaration : (lo hi n : ℕ) (ps : List Part) → Stand lo hi n ps → Stand lo hi (n + 1) (declaration ∷ ps)
stand_declaration lo hi n ps s = let m = stand_more lo hi n lo hi (n + 1) ps (omega arith) (omega arith) (omega arith) s in record {
  apart = (apart_declaration ps, s.apart);
  inside = (tt, s.inside);
  short = (tt, m.short);
  few_declarations = omega (arith, s.few_declarations);
  few_nodes = m.few_nodes;
}

pub stand_statement : (lo hi n : ℕ) (span : Span) (ps : List Part) → Stand lo hi n ps → Stand lo hi (n + 1) (statement span ∷ ps)
stand_statement lo hi n span ps s = let m = stand_more lo hi n lo hi (n + 1) ps (omega arith) (omega arith) (omega arith) s in record {
  apart = (apart_statement span ps, s.apart);
  inside = (tt, s.inside);
  short = (tt, m.short);
  few_declarations = m.few_declarations;
  few_nodes = omega (arith, s.few_nodes);
}

-- an identifier alone
pub stand_in_type : (lo hi n : ℕ) (name : Ident) → Lies lo hi name.span → Stand lo hi n (in_type name ∷ [])
stand_in_type lo hi n name lies = record { apart = (tt, tt); inside = (lies, tt); short = (tt, tt); few_declarations = omega arith; few_nodes = omega arith }

pub stand_elsewhere : (lo hi n : ℕ) (name : Ident) → Lies lo hi name.span → Stand lo hi n (elsewhere name ∷ [])
stand_elsewhere lo hi n name lies = record { apart = (tt, tt); inside = (lies, tt); short = (tt, tt); few_declarations = omega arith; few_nodes = omega arith }

-- ---- an expression round its parts

-- no expression of them has this span
abbrev pub Free : Span → List Part → Type 0
Free span ps = All (Apart (expression span)) ps

free_part : (lo hi : ℕ) (span : Span) (p : Part) → (span.from < lo) ⊎ (hi < span.to) → Inside lo hi p → Apart (expression span) p
free_part lo hi span (expression a) (inl less) i = λ same. omega (arith, less, i.0, ap (λ (s : Span). s.from) same)
free_part lo hi span (expression a) (inr more) i = λ same. omega (arith, more, i.2, ap (λ (s : Span). s.to) same)
free_part lo hi span (statement a) out i = tt
free_part lo hi span declaration out i = tt
free_part lo hi span (in_type a) out i = tt
free_part lo hi span (elsewhere a) out i = tt
free_part lo hi span (entries m) out i = tt

-- one that reaches further is none of them
pub free_beyond : (lo hi : ℕ) (span : Span) (ps : List Part) → (span.from < lo) ⊎ (hi < span.to) → All (Inside lo hi) ps → Free span ps
free_beyond lo hi span [] out is = tt
free_beyond lo hi span (p ∷ ps) out (i, is) = (free_part lo hi span p out i, free_beyond lo hi span ps out is)

pub free_both : (span : Span) (ps qs : List Part) → Free span ps → Free span qs → Free span (ps ++ qs)
free_both span ps qs a b = all_both (Apart (expression span)) ps qs a b

pub stand_expression : (lo hi n : ℕ) (span : Span) (ps : List Part) → Lies lo hi span → Free span ps → Stand lo hi n ps → Stand lo hi (n + 1) (expression span ∷ ps)
stand_expression lo hi n span ps lies free s = let m = stand_more lo hi n lo hi (n + 1) ps (omega arith) (omega arith) (omega arith) s in record {
  apart = (free, s.apart);
  inside = (lies, s.inside);
  short = (tt, m.short);
  few_declarations = m.few_declarations;
  few_nodes = omega (arith, s.few_nodes);
}

-- ---- one behind the other, with something between

-- the first as far as `mid`, the second from `next`
pub stand_two : (lo mid next hi n m k : ℕ) (ps qs : List Part) → Stand lo mid n ps → Stand next hi m qs → lo ≤ mid → mid ≤ next → next ≤ hi → n + m ≤ k → Stand lo hi k (ps ++ qs)
stand_two lo mid next hi n m k ps qs s t a b c le =
    stand_more lo hi (n + m) lo hi k (ps ++ qs) (omega arith) (omega arith) le
    (stand_both lo mid hi n m ps qs s (stand_more next hi m mid hi m qs b (omega arith) (omega arith) t) a (omega (arith, b, c)))

pub stand_rest : (lo hi n m : ℕ) (ps : List Part) → Stand lo hi n (entries m ∷ ps) → Stand lo hi n ps
stand_rest lo hi n m ps s = record { apart = s.apart.1; inside = s.inside.1; short = s.short.1; few_declarations = s.few_declarations; few_nodes = s.few_nodes }

-- ---- lists of parts

together_joined : (ps : List (List Part)) (q : List Part) → together (ps ++ q ∷ []) ≡ together ps ++ q
together_joined [] q = append-nil q
together_joined (p ∷ ps) q = ap (λ y. p ++ y) (together_joined ps q) ∙ sym (append_assoc p (together ps) q)

pub each_joined : {A : Type 0} (parts : A → List Part) (xs : List A) (x : A) → each parts (xs ++ x ∷ []) ≡ each parts xs ++ parts x ∷ []
each_joined parts [] x = refl
each_joined parts (y ∷ xs) x = ap (λ l. parts y ∷ l) (each_joined parts xs x)

listed_joined : (lo mid next hi n m k : ℕ) (ps : List (List Part)) (q : List Part) → Stand lo mid n (listed ps) → Stand next hi m q → lo ≤ mid → mid ≤ next → next ≤ hi → 1 ≤ m → n + m ≤ k
    → Stand lo hi k (listed (ps ++ q ∷ []))
listed_joined lo mid next hi n m k ps q s t a b c one le =
    subst (λ y. Stand lo hi k (entries (length (ps ++ q ∷ [])) ∷ y)) (sym (together_joined ps q))
    (stand_entries lo hi k (length (ps ++ q ∷ [])) (together ps ++ q) (omega (arith, length-append ps (q ∷ []), s.short.0, one, le))
    (stand_two lo mid next hi n m k (together ps) q (stand_rest lo mid n (length ps) (together ps) s) t a b c le))

-- a list with one more entry
pub stand_joined : {A : Type 0} (parts : A → List Part) (lo mid next hi n m k : ℕ) (xs : List A) (x : A) → Stand lo mid n (listed (each parts xs)) → Stand next hi m (parts x)
    → lo ≤ mid → mid ≤ next → next ≤ hi → 1 ≤ m → n + m ≤ k → Stand lo hi k (listed (each parts (xs ++ x ∷ [])))
stand_joined parts lo mid next hi n m k xs x s t a b c one le =
    subst (λ y. Stand lo hi k (listed y)) (sym (each_joined parts xs x)) (listed_joined lo mid next hi n m k (each parts xs) (parts x) s t a b c one le)

pub stand_no_entries : {A : Type 0} (parts : A → List Part) (lo hi n : ℕ) → Stand lo hi n (listed (each parts []))
stand_no_entries parts lo hi n = stand_entries lo hi n 0 [] (omega arith) (stand_none lo hi n)

-- a list with one entry
pub stand_alone : {A : Type 0} (parts : A → List Part) (lo hi n : ℕ) (x : A) → Stand lo hi n (parts x) → 1 ≤ n → Stand lo hi n (listed (each parts (x ∷ [])))
stand_alone parts lo hi n x s one = stand_entries lo hi n 1 (parts x ++ []) one (subst (λ y. Stand lo hi n y) (sym (append-nil (parts x))) s)
