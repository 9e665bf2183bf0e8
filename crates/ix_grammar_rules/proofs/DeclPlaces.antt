-- Where the parts of modifiers, declarators and parameters stand.
use Rattle.std.proofs.Common.{◌≡◌, ◌≤◌, ◌<◌, ◌+◌, ℕ, suc, List, [], ◌∷◌, ◌++◌, length, Option, Some, None, refl, sym, ap, subst, ◌∙◌, append_assoc, length-append, arith}
use Rattle.std.proofs.lemmas.List.{append-nil}
use Rattle.ix_text.specs.declared.span.Span.{Span}
use Rattle.ix_lexer.specs.declared.token.Token.{Token}
use Rattle.ix_lexer.specs.declared.fixed.TheConstants.{COMMA, CLOSE_PAREN}
use Rattle.ix_lexer.specs.Spans.{InOrder}
use Rattle.ix_tree.specs.declared.annot.Ident.{Ident}
use Rattle.ix_tree.specs.declared.decl.LocalDecl.{LocalDecl}
use Rattle.ix_tree.specs.Parts.{Part, expression, statement, declaration, in_type, elsewhere, entries, Apart, All, AllApart, declarations, nodes, together, listed, each, maybe, annot_parts, mods_parts, type_parts, init_parts, decl_parts}
use Rattle.ix_grammar.specs.declared.declarations.FoundDecl.{FoundDecl}
use Rattle.ix_grammar.specs.declared.declarations.FoundMods.{FoundMods}
use Rattle.ix_grammar.specs.declared.declarations.Params.{Params}
use Rattle.ix_grammar.specs.declared.declarations.Shared.{Shared}
use Rattle.ix_grammar.specs.declared.declarations.Word.{Word}
use Rattle.ix_grammar.specs.declared.declarations.Word.TheVariants.{Open, Private, Static, Final}
use Rattle.ix_grammar.specs.declared.found.FoundDecls.{FoundDecls}
use Rattle.ix_grammar.specs.declared.found.FoundType.{FoundType}
use Rattle.ix_grammar.specs.Patterns.{sign, name_token}
use Rattle.ix_grammar.specs.Lists.{IsSeparated, IsRepeated, first_item, next_item, no_item, one_more}
use Rattle.ix_grammar.specs.TypeGrammar.{IsType}
use Rattle.ix_grammar.specs.ExprGrammar.{IsInit}
use Rattle.ix_grammar.specs.DeclGrammar as g
use Rattle.ix_grammar.specs.DeclGrammar.{IsMods, IsDecl, IsDecls, IsParam, IsParams, marked, earlier, shared, one_param, with_param}
use Rattle.ix_lexer.proofs.SplitInOrder.{order_within, order_both}
use Rattle.ix_tree.proofs.PartPlaces.{stand_two, stand_joined, stand_alone, stand_no_entries, Inside, Short, Stand, stand_more, stand_none, stand_entries, stand_declaration, stand_elsewhere, all_more, all_both}
use Rattle.ix_tree.proofs.Layouts.{Lies}
use Rattle.ix_grammar_rules.proofs.AnnotPlaces.{annot_stands, annot_tokens}
use Rattle.ix_grammar_rules.proofs.TypePlaces.{InTypes, notes_in_type, type_in_type, type_stands}
use Rattle.ix_grammar_rules.proofs.ExprPlaces.{init_stands}

-- ---- further out and one behind the other, where the pieces say what they are

pub wider : {a b n : ℕ} {ps : List Part} → Stand a b n ps → (lo hi k : ℕ) → lo ≤ a → b ≤ hi → n ≤ k → Stand lo hi k ps
wider {a} {b} {n} {ps} s lo hi k low high le = stand_more a b n lo hi k ps low high le s

-- the first as far as `mid`, the second from `next`
pub beside : {lo mid next hi n m : ℕ} {ps qs : List Part} → Stand lo mid n ps → Stand next hi m qs → (k : ℕ) → lo ≤ mid → mid ≤ next → next ≤ hi → n + m ≤ k → Stand lo hi k (ps ++ qs)
beside {lo} {mid} {next} {hi} {n} {m} {ps} {qs} s t k a b c le = stand_two lo mid next hi n m k ps qs s t a b c le

-- a name, and something behind it
pub name_beside : {next hi m : ℕ} {qs : List Part} (name : Ident) → Stand next hi m qs → (lo k : ℕ) → lo ≤ name.span.from → name.span.from < name.span.to → name.span.to ≤ next → next ≤ hi → m ≤ k
    → Stand lo hi k (elsewhere name ∷ qs)
name_beside {next} {hi} {m} {qs} name s lo k a b c d le = stand_two lo name.span.to next hi 0 m k (elsewhere name ∷ []) qs (stand_elsewhere lo name.span.to 0 name (a, b, omega arith)) s
    (omega (arith, a, b)) c d (omega (arith, le))

-- ---- modifiers

-- the first modifier, where there is one
abbrev pub FirstLies : ℕ → ℕ → Option Span → Type 0
FirstLies lo hi None = Unit {0}
FirstLies lo hi (Some span) = Lies lo hi span

earlier_lies : (lo hi : ℕ) (first : Option Span) (span : Span) → FirstLies lo hi first → Lies lo hi span → FirstLies lo hi (earlier first span)
earlier_lies lo hi None span f l = l
earlier_lies lo hi (Some first) span f l = f

first_more : (lo mid hi : ℕ) (first : Option Span) → mid ≤ hi → FirstLies lo mid first → FirstLies lo hi first
first_more lo mid hi None le l = tt
first_more lo mid hi (Some first) le l = (l.0, l.1, omega (arith, le, l.2))

marked_parts : (found : FoundMods) (word : Word) → mods_parts (marked found.mods word) ≡ mods_parts found.mods
marked_parts found Open = refl
marked_parts found Private = refl
marked_parts found Static = refl
marked_parts found Final = refl

pub mods_stand : (words : List (ℕ × Word)) (lo hi : ℕ) (ts : List Token) (found : FoundMods) → IsMods words ts found → InOrder lo hi ts
    → FirstLies lo hi found.first × Stand lo hi (length ts) (mods_parts found.mods)
mods_stand words lo hi _ _ g.none o = (tt, stand_no_entries annot_parts lo hi 0)
mods_stand words lo hi _ _ (g.word {tokens} {found} number span {word} r d) o =
    let (mid, a, b, p, q) = order_both lo hi tokens (sign number span ∷ []) o in
    let (f, s) = mods_stand words lo mid tokens found d p in
    let n = length (tokens ++ sign number span ∷ []) in (
      earlier_lies lo hi found.first span (first_more lo mid hi found.first b f) (omega (arith, a, q.0), q.1, q.2),
      subst (λ y. Stand lo hi n y) (sym (marked_parts found word)) (wider s lo hi n (omega arith) b (omega (arith, length-append tokens (sign number span ∷ [])))),
    )
mods_stand words lo hi _ _ (g.annot {before} {tokens} {found} {annot} d x) o =
    let (mid, a, b, p, q) = order_both lo hi before tokens o in
    let (f, s) = mods_stand words lo mid before found d p in
    let (l, t) = annot_stands mid hi tokens annot x q in (
      earlier_lies lo hi found.first annot.span (first_more lo mid hi found.first b f) (omega (arith, a, l.0), l.1, l.2),
      stand_joined annot_parts lo mid mid hi (length before) (length tokens) (length (before ++ tokens)) found.mods.annots annot s t a (omega arith) b
          (annot_tokens tokens annot x) (omega (arith, length-append before tokens)),
    )

-- ---- parts apart

all_with : (P Q R : Part → Type 0) → ((p : Part) → P p → Q p → R p) → (ps : List Part) → All P ps → All Q ps → All R ps
all_with P Q R more [] a b = tt
all_with P Q R more (p ∷ ps) (a, xs) (b, ys) = (more p a b, all_with P Q R more ps xs ys)

all_behind : (P : Part → Type 0) (ps qs : List Part) → All P (ps ++ qs) → All P qs
all_behind P [] qs a = a
all_behind P (p ∷ ps) qs a = all_behind P ps qs a.1

-- each of these with each of those
abbrev pub Across : List Part → List Part → Type 0
Across ps qs = All (λ p. All (Apart p) qs) ps

apart_split : (ps qs : List Part) → AllApart (ps ++ qs) → Across ps qs × AllApart qs
apart_split [] qs a = (tt, a)
apart_split (p ∷ ps) qs (x, xs) = let (a, b) = apart_split ps qs xs in ((all_behind (Apart p) ps qs x, a), b)

apart_joined : (ps qs : List Part) → AllApart ps → AllApart qs → Across ps qs → AllApart (ps ++ qs)
apart_joined [] qs a b c = b
apart_joined (p ∷ ps) qs (x, xs) b (c, cs) = (all_both (Apart p) ps qs x c, apart_joined ps qs xs b cs)

-- ---- of several copies of the parts of modifiers and types

turned_part : (p q : Part) → InTypes p → Apart p q → Apart q p
turned_part (in_type a) (in_type b) i apart = λ same. sym (apart (sym same))
turned_part (in_type a) (elsewhere b) i apart = λ same. apart (sym same)
turned_part (in_type a) (expression b) i apart = tt
turned_part (in_type a) (statement b) i apart = tt
turned_part (in_type a) declaration i apart = tt
turned_part (in_type a) (entries n) i apart = tt
turned_part (entries m) (in_type b) i apart = tt
turned_part (entries m) (elsewhere b) i apart = tt
turned_part (entries m) (expression b) i apart = tt
turned_part (entries m) (statement b) i apart = tt
turned_part (entries m) declaration i apart = tt
turned_part (entries m) (entries n) i apart = tt
turned_part (expression a) q i apart = absurd i
turned_part (statement a) q i apart = absurd i
turned_part declaration q i apart = absurd i
turned_part (elsewhere a) q i apart = absurd i

with_itself : (p : Part) → InTypes p → Apart p p
with_itself (in_type a) i = λ same. refl
with_itself (entries m) i = tt
with_itself (expression a) i = absurd i
with_itself (statement a) i = absurd i
with_itself declaration i = absurd i
with_itself (elsewhere a) i = absurd i

turned : (ps qs : List Part) → All InTypes ps → Across ps qs → Across qs ps
turned [] [] i a = tt
turned [] (q ∷ qs) i a = (tt, turned [] qs tt tt)
turned (p ∷ ps) qs (i, is) (a, xs) =
    all_with (λ q. Apart q p) (λ q. All (Apart q) ps) (λ q. All (Apart q) (p ∷ ps)) (λ q x y. (x, y)) qs
    (all_more (Apart p) (λ q. Apart q p) (λ q. turned_part p q i) qs a) (turned ps qs is xs)

with_copy : (ts : List Part) → All InTypes ts → AllApart ts → Across ts ts
with_copy [] i a = tt
with_copy (t ∷ ts) (i, is) (a, xs) = (
  (with_itself t i, a),
  all_with (λ q. Apart q t) (λ q. All (Apart q) ts) (λ q. All (Apart q) (t ∷ ts)) (λ q x y. (x, y)) ts
      (all_more (Apart t) (λ q. Apart q t) (λ q. turned_part t q i) ts a) (with_copy ts is xs),
)

-- they are neither declarations nor nodes

no_declarations : (ts qs : List Part) → All InTypes ts → declarations (ts ++ qs) ≡ declarations qs
no_declarations [] qs i = refl
no_declarations (in_type a ∷ ts) qs (i, is) = no_declarations ts qs is
no_declarations (entries m ∷ ts) qs (i, is) = no_declarations ts qs is
no_declarations (expression a ∷ ts) qs (i, is) = absurd i
no_declarations (statement a ∷ ts) qs (i, is) = absurd i
no_declarations (declaration ∷ ts) qs (i, is) = absurd i
no_declarations (elsewhere a ∷ ts) qs (i, is) = absurd i

no_nodes : (ts qs : List Part) → All InTypes ts → nodes (ts ++ qs) ≡ nodes qs
no_nodes [] qs i = refl
no_nodes (in_type a ∷ ts) qs (i, is) = no_nodes ts qs is
no_nodes (entries m ∷ ts) qs (i, is) = no_nodes ts qs is
no_nodes (expression a ∷ ts) qs (i, is) = absurd i
no_nodes (statement a ∷ ts) qs (i, is) = absurd i
no_nodes (declaration ∷ ts) qs (i, is) = absurd i
no_nodes (elsewhere a ∷ ts) qs (i, is) = absurd i

same_declarations : (ps xs ys : List Part) → declarations xs ≡ declarations ys → declarations (ps ++ xs) ≡ declarations (ps ++ ys)
same_declarations [] xs ys same = same
same_declarations (declaration ∷ ps) xs ys same = ap (λ n. suc n) (same_declarations ps xs ys same)
same_declarations (expression a ∷ ps) xs ys same = same_declarations ps xs ys same
same_declarations (statement a ∷ ps) xs ys same = same_declarations ps xs ys same
same_declarations (in_type a ∷ ps) xs ys same = same_declarations ps xs ys same
same_declarations (elsewhere a ∷ ps) xs ys same = same_declarations ps xs ys same
same_declarations (entries m ∷ ps) xs ys same = same_declarations ps xs ys same

same_nodes : (ps xs ys : List Part) → nodes xs ≡ nodes ys → nodes (ps ++ xs) ≡ nodes (ps ++ ys)
same_nodes [] xs ys same = same
same_nodes (expression a ∷ ps) xs ys same = ap (λ n. suc n) (same_nodes ps xs ys same)
same_nodes (statement a ∷ ps) xs ys same = ap (λ n. suc n) (same_nodes ps xs ys same)
same_nodes (declaration ∷ ps) xs ys same = same_nodes ps xs ys same
same_nodes (in_type a ∷ ps) xs ys same = same_nodes ps xs ys same
same_nodes (elsewhere a ∷ ps) xs ys same = same_nodes ps xs ys same
same_nodes (entries m ∷ ps) xs ys same = same_nodes ps xs ys same

-- one more declaration `own`, with a further copy of the shared parts `ts`
shared_more : (lo mid hi next end n k m : ℕ) (ts ps own : List Part) → Stand lo mid n ts → All InTypes ts → Stand lo hi k ps → Across ps ts → Stand next end m (declaration ∷ own)
    → lo ≤ mid → mid ≤ hi → hi ≤ next → next ≤ end → n ≤ k → Stand lo end (k + m) (ps ++ declaration ∷ (ts ++ own)) × Across (ps ++ declaration ∷ (ts ++ own)) ts
shared_more lo mid hi next end n k m ts ps own t is p copies o a b c d le =
    let x = stand_two lo hi next end k m (k + m) ps (declaration ∷ own) p o (omega (arith, a, b)) c d (omega arith) in
    let y = stand_two lo mid next end n m (k + m) ts (declaration ∷ own) t o a (omega (arith, b, c)) d (omega (arith, le)) in
    let (before, behind) = apart_split ps (declaration ∷ own) x.apart in
    let (shared, again) = apart_split ts (declaration ∷ own) y.apart in
    let (first, later) = turned ts (declaration ∷ own) is shared in
    let pw = wider p lo end (k + m) (omega arith) (omega (arith, c, d)) (omega arith) in
    let tw = wider t lo end (k + m) (omega arith) (omega (arith, b, c, d)) (omega (arith, le)) in
    let ow = wider o lo end (k + m) (omega (arith, a, b, c)) (omega arith) (omega arith) in (
      record {
        apart = apart_joined ps (declaration ∷ (ts ++ own)) p.apart (
          all_both (Apart declaration) ts own first behind.0,
          apart_joined ts own t.apart behind.1 (all_more (λ q. All (Apart q) (declaration ∷ own)) (λ q. All (Apart q) own) (λ q z. z.1) ts shared),
        )
            (all_with (λ q. All (Apart q) (declaration ∷ own)) (λ q. All (Apart q) ts) (λ q. All (Apart q) (declaration ∷ (ts ++ own)))
            (λ q z w. (z.0, all_both (Apart q) ts own w z.1)) ps before copies);
        inside = all_both (Inside lo end) ps (declaration ∷ (ts ++ own)) pw.inside (tt, all_both (Inside lo end) ts own tw.inside ow.inside.1);
        short = all_both (Short (k + m)) ps (declaration ∷ (ts ++ own)) pw.short (tt, all_both (Short (k + m)) ts own tw.short ow.short.1);
        few_declarations = omega (arith, x.few_declarations, same_declarations ps (declaration ∷ (ts ++ own)) (declaration ∷ own) (ap (λ n. suc n) (no_declarations ts own is)));
        few_nodes = omega (arith, x.few_nodes, same_nodes ps (declaration ∷ (ts ++ own)) (declaration ∷ own) (no_nodes ts own is));
      },
      all_both (λ q. All (Apart q) ts) ps (declaration ∷ (ts ++ own)) copies (first, all_both (λ q. All (Apart q) ts) ts own (with_copy ts is t.apart) later),
    )

-- ---- lists of parts, joined

pub parts_both : {A : Type 0} (parts : A → List Part) (xs ys : List A) → together (each parts (xs ++ ys)) ≡ together (each parts xs) ++ together (each parts ys)
parts_both parts [] ys = refl
parts_both parts (x ∷ xs) ys = ap (λ y. parts x ++ y) (parts_both parts xs ys) ∙ sym (append_assoc (parts x) (together (each parts xs)) (together (each parts ys)))

parts_joined : {A : Type 0} (parts : A → List Part) (xs : List A) (x : A) → together (each parts (xs ++ x ∷ [])) ≡ together (each parts xs) ++ parts x
parts_joined parts xs x = parts_both parts xs (x ∷ []) ∙ ap (λ y. together (each parts xs) ++ y) (append-nil (parts x))

pub each_length : {A : Type 0} (parts : A → List Part) (xs : List A) → length (each parts xs) ≡ length xs
each_length parts [] = refl
each_length parts (x ∷ xs) = ap (λ n. suc n) (each_length parts xs)

-- ---- declarators

-- what all declarators share
abbrev pub shared_parts : Shared → List Part
shared_parts all = mods_parts all.mods ++ type_parts all.ty

shared_in_type : (all : Shared) → All InTypes (shared_parts all)
shared_in_type all = all_both InTypes (mods_parts all.mods) (type_parts all.ty) (notes_in_type all.mods.annots) (type_in_type all.ty)

abbrev pub own_parts : LocalDecl → List Part
own_parts decl = elsewhere decl.name ∷ maybe init_parts decl.init

decl_is : (all : Shared) (ts : List Token) (found : FoundDecl) → IsDecl IsInit all ts found → decl_parts found.decl ≡ declaration ∷ (shared_parts all ++ own_parts found.decl)
decl_is all _ _ (g.plain name) = ap (λ y. declaration ∷ y) (sym (append_assoc (mods_parts all.mods) (type_parts all.ty) (elsewhere name ∷ [])))
decl_is all _ _ (g.with_init name assign {tokens} {found} d) = ap (λ y. declaration ∷ y) (sym (append_assoc (mods_parts all.mods) (type_parts all.ty) (elsewhere name ∷ init_parts found.init)))

own_stand : (all : Shared) (lo hi : ℕ) (ts : List Token) (found : FoundDecl) → IsDecl IsInit all ts found → InOrder lo hi ts
    → (1 ≤ length ts) × Lies lo hi found.end × Stand lo hi (length ts) (declaration ∷ own_parts found.decl)
own_stand all lo hi _ _ (g.plain name) o = (omega arith, o, wider (stand_declaration lo hi 0 (elsewhere name ∷ []) (stand_elsewhere lo hi 0 name o)) lo hi 1 (omega arith) (omega arith) (omega arith))
own_stand all lo hi _ _ (g.with_init name assign {tokens} {found} d) (a, b, (c, e, o)) =
    let (l, s) = init_stands assign.to hi tokens found d o in (
      omega arith,
      (omega (arith, a, b, c, e, l.0), l.1, l.2),
      wider (stand_declaration lo hi (length tokens) (elsewhere name ∷ init_parts found.init)
          (name_beside name s lo (length tokens) a b (omega (arith, c, e)) (omega (arith, l.0, l.1, l.2)) (omega arith))) lo hi (suc (suc (length tokens))) (omega arith) (omega arith) (omega arith),
    )

-- the parts of all of them, and each of those with each of the shared ones
abbrev DeclsStand : ℕ → ℕ → ℕ → Shared → List LocalDecl → Type 0
DeclsStand lo hi n all decls = Stand lo hi n (together (each decl_parts decls)) × Across (together (each decl_parts decls)) (shared_parts all)

-- The shared parts stand before `mid`, in `n` tokens.
separate_decls : (all : Shared) (lo mid hi n : ℕ) (ts : List Token) (found : FoundDecls) → IsDecls IsInit all ts found → Stand lo mid n (shared_parts all) → lo ≤ mid → InOrder mid hi ts
    → (length found.decls ≤ length ts) × Lies mid hi found.end × DeclsStand lo hi (n + length ts) all found.decls
separate_decls all lo mid hi n _ _ (first_item {tokens} {item} d) s a o =
    let (one, l, own) = own_stand all mid hi tokens item d o in
    let same = parts_joined decl_parts [] item.decl ∙ decl_is all tokens item d in
    let (stands, copies) = shared_more lo mid mid mid hi n n (length tokens) (shared_parts all) [] (own_parts item.decl) s (shared_in_type all) (stand_none lo mid n) tt own
    a (omega arith) (omega arith) (omega (arith, l.0, l.1, l.2)) (omega arith) in
    (one, l, (subst (λ y. Stand lo hi (n + length tokens) y) (sym same) stands, subst (λ y. Across y (shared_parts all)) (sym same) copies))
separate_decls all lo mid hi n _ _ (next_item {before} {tokens} {items} {item} comma d x) s a o =
    let (far, b, c, p, q) = order_both mid hi before (sign COMMA comma ∷ tokens) o in
    let (few, l, (before_stand, before_copies)) = separate_decls all lo mid far n before items d s a p in
    let (one, m, own) = own_stand all comma.to hi tokens item x q.2 in
    let ps = together (each decl_parts items.decls) in
    let same = parts_joined decl_parts items.decls item.decl ∙ ap (λ y. ps ++ y) (decl_is all tokens item x) in
    let (stands, copies) = shared_more lo mid far comma.to hi n (n + length before) (length tokens) (shared_parts all) ps (own_parts item.decl) s (shared_in_type all) before_stand before_copies own
    a b (omega (arith, q.0, q.1)) (omega (arith, m.0, m.1, m.2)) (omega arith) in
    let k = n + length (before ++ sign COMMA comma ∷ tokens) in (
      omega (arith, few, one, length-append before (sign COMMA comma ∷ tokens), length-append items.decls (item.decl ∷ [])),
      (omega (arith, b, q.0, q.1, m.0), m.1, m.2),
      (
        wider (subst (λ y. Stand lo hi ((n + length before) + length tokens) y) (sym same) stands) lo hi k (omega arith) (omega arith) (omega (arith, length-append before (sign COMMA comma ∷ tokens))),
        subst (λ y. Across y (shared_parts all)) (sym same) copies,
      ),
    )

-- modifiers, a type and declarators
pub decls_stand : (words : List (ℕ × Word)) (lo hi : ℕ) (first second third : List Token) (mods : FoundMods) (ty : FoundType) (found : FoundDecls)
    → IsMods words first mods → IsType second ty → IsDecls IsInit (shared mods ty) third found → InOrder lo hi (first ++ (second ++ third))
    → (length found.decls ≤ length (first ++ (second ++ third))) × Stand lo hi (length (first ++ (second ++ third))) (together (each decl_parts found.decls))
decls_stand words lo hi first second third mods ty found m t d o =
    let (one, a, b, p, q) = order_both lo hi first (second ++ third) o in
    let (two, c, e, r, u) = order_both one hi second third q in
    let (f, s) = mods_stand words lo one first mods m p in
    let (l, y) = type_stands one two second ty t r in
    let (few, end, (stands, copies)) = separate_decls (shared mods ty) lo two hi (length first + length second) third found d
    (beside s y (length first + length second) a (omega arith) c (omega arith)) (omega (arith, a, c)) u in (
      omega (arith, few, length-append first (second ++ third), length-append second third),
      wider stands lo hi (length (first ++ (second ++ third))) (omega arith) (omega arith) (omega (arith, length-append first (second ++ third), length-append second third)),
    )

-- as a list
pub listed_stand : {A : Type 0} (parts : A → List Part) (lo hi n : ℕ) (xs : List A) → length xs ≤ n → Stand lo hi n (together (each parts xs)) → Stand lo hi n (listed (each parts xs))
listed_stand parts lo hi n xs few s = stand_entries lo hi n (length (each parts xs)) (together (each parts xs)) (omega (arith, few, each_length parts xs)) s

-- ---- items with commas between them, whose trees are collected

-- Each has a token, and stands in its tokens and so many more.
abbrev pub TreesStand : {A B : Type 0} → (List Token → A → Type 0) → (A → B) → (B → List Part) → ℕ → Type 0
TreesStand {A = A} Item tree parts extra = (lo hi : ℕ) (ts : List Token) (x : A) → Item ts x → InOrder lo hi ts → (1 ≤ length ts) × Stand lo hi (length ts + extra) (parts (tree x))

module _ {A B : Type 0} (Item : List Token → A → Type 0) (tree : A → B) (parts : B → List Part) {S : Type 0} (list : S → List B) (add : S → A → S)
    (adds : (s : S) (x : A) → list (add s x) ≡ list s ++ tree x ∷ []) where
  -- The commas make up for one more token of each.
  pub separated_trees : (start : A → S) → ((x : A) → list (start x) ≡ tree x ∷ []) → (extra : ℕ) → extra ≤ 1 → TreesStand Item tree parts extra → (lo hi : ℕ) (ts : List Token) (s : S) → IsSeparated Item start add ts s
      → InOrder lo hi ts → Stand lo hi (length ts + extra) (listed (each parts (list s)))
  separated_trees start starts extra le trees_stand lo hi _ _ (first_item {tokens} {item} i) o =
      let (one, t) = trees_stand lo hi tokens item i o in
      subst (λ y. Stand lo hi (length tokens + extra) (listed (each parts y))) (sym (starts item)) (stand_alone parts lo hi (length tokens + extra) (tree item) t (omega (arith, one)))
  separated_trees start starts extra le trees_stand lo hi _ _ (next_item {before} {tokens} {items} {item} comma d i) o =
      let (mid, a, b, p, q) = order_both lo hi before (sign COMMA comma ∷ tokens) o in
      let (one, t) = trees_stand comma.to hi tokens item i q.2 in
      let s = separated_trees start starts extra le trees_stand lo mid before items d p in
      subst (λ y. Stand lo hi (length (before ++ sign COMMA comma ∷ tokens) + extra) (listed (each parts y))) (sym (adds items item))
      (stand_joined parts lo mid comma.to hi (length before + extra) (length tokens + extra) (length (before ++ sign COMMA comma ∷ tokens) + extra) (list items) (tree item) s t
      a (omega (arith, q.0, q.1)) (order_within comma.to hi tokens q.2) (omega (arith, one)) (omega (arith, le, length-append before (sign COMMA comma ∷ tokens))))

  pub repeated_trees : (none : S) → list none ≡ [] → TreesStand Item tree parts 0 → (lo hi : ℕ) (ts : List Token) (s : S) → IsRepeated Item none add ts s → InOrder lo hi ts
      → Stand lo hi (length ts) (listed (each parts (list s)))
  repeated_trees none empty trees_stand lo hi _ _ no_item o = subst (λ y. Stand lo hi 0 (listed (each parts y))) (sym empty) (stand_no_entries parts lo hi 0)
  repeated_trees none empty trees_stand lo hi _ _ (one_more {before} {tokens} {items} {item} d i) o =
      let (mid, a, b, p, q) = order_both lo hi before tokens o in
      let (one, t) = trees_stand mid hi tokens item i q in
      let s = repeated_trees none empty trees_stand lo mid before items d p in
      subst (λ y. Stand lo hi (length (before ++ tokens)) (listed (each parts y))) (sym (adds items item))
      (stand_joined parts lo mid mid hi (length before) (length tokens + 0) (length (before ++ tokens)) (list items) (tree item) s t
      a (omega arith) b (omega (arith, one)) (omega (arith, length-append before tokens)))

-- ---- parameters

param_stands : (lo hi : ℕ) (ts : List Token) (found : FoundDecl) → IsParam ts found → InOrder lo hi ts → (1 ≤ length ts) × Stand lo hi (length ts + 0) (decl_parts found.decl)
param_stands lo hi _ _ (g.param {before} {tokens} {mods} {ty} name m t) o =
    let (one, a, b, p, q) = order_both lo hi before (tokens ++ name_token name ∷ []) o in
    let (two, c, e, r, u) = order_both one hi tokens (name_token name ∷ []) q in
    let (f, s) = mods_stand g.local_words lo one before mods m p in
    let (l, y) = type_stands one two tokens ty t r in
    let n = length (before ++ (tokens ++ name_token name ∷ [])) in
    let count : n ≡ length before + (length tokens + 1) = length-append before (tokens ++ name_token name ∷ []) ∙ ap (λ k. length before + k) (length-append tokens (name_token name ∷ [])) in (
      omega (arith, count),
      wider (stand_declaration lo hi (length before + length tokens) (mods_parts mods.mods ++ (type_parts ty.ty ++ elsewhere name ∷ []))
          (beside s (beside y (stand_elsewhere two hi 0 name u) (length tokens) c (omega arith) (omega (arith, e)) (omega arith)) (length before + length tokens) a (omega arith) b (omega arith)))
          lo hi (n + 0) (omega arith) (omega arith) (omega (arith, count)),
    )

pub params_stand : (lo hi : ℕ) (ts : List Token) (params : Params) → IsParams ts params → InOrder lo hi ts → Stand lo hi (length ts) (listed (each decl_parts params.params))
params_stand lo hi _ _ (g.none left right) o = stand_no_entries decl_parts lo hi 2
params_stand lo hi _ _ (g.some left right {tokens} {params} d) (a, b, o) =
    let (mid, c, e, p, q) = order_both left.to hi tokens (sign CLOSE_PAREN right ∷ []) o in
    wider (separated_trees IsParam (λ x. x.decl) decl_parts (λ s. s.params) with_param (λ s x. refl) one_param (λ x. refl) 0 (omega arith) param_stands left.to mid tokens params d p)
    lo hi (suc (length (tokens ++ sign CLOSE_PAREN right ∷ []))) (omega (arith, a, b)) e (omega (arith, length-append tokens (sign CLOSE_PAREN right ∷ [])))
