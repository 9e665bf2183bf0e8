-- Modifiers, declarators and parameters stand where their tokens are; further declarators of a declaration have copies of its modifiers and type.
use Rattle.std.proofs.Common.{◌≡◌, ◌≤◌, ◌<◌, ℕ, List, [], ◌∷◌, ◌++◌, map, Option, Some, None, refl, sym, ap, subst, ◌∙◌, append_assoc, arith}
use Rattle.std.proofs.lemmas.List.{append-nil}
use Rattle.ix_text.specs.declared.span.Span.{Span}
use Rattle.ix_lexer.specs.declared.token.Token.{Token}
use Rattle.ix_lexer.specs.declared.fixed.TheConstants.{COMMA, CLOSE_PAREN}
use Rattle.ix_lexer.specs.Spans.{InOrder}
use Rattle.ix_tree.specs.declared.annot.Annot.{Annot}
use Rattle.ix_tree.specs.declared.decl.LocalDecl.{LocalDecl}
use Rattle.ix_tree.specs.Placed.{Layout, LaidOut, row, again, name_piece, arg_piece, annot_piece, type_piece, init_piece, shared_pieces, own_pieces, decl_pieces, params_pieces, further_pieces, locals_pieces}
use Rattle.ix_tree.proofs.Layouts.{Lies, Laid, laid_more, laid_ends, laid_rows, laid_first, laid_one, laid_two, laid_name, laid_again}
use Rattle.ix_grammar.specs.declared.declarations.FoundDecl.{FoundDecl}
use Rattle.ix_grammar.specs.declared.declarations.FoundMods.{FoundMods}
use Rattle.ix_grammar.specs.declared.declarations.Params.{Params}
use Rattle.ix_grammar.specs.declared.declarations.Shared.{Shared}
use Rattle.ix_grammar.specs.declared.declarations.Word.{Word}
use Rattle.ix_grammar.specs.declared.declarations.Word.TheVariants.{Open, Private, Static, Final}
use Rattle.ix_grammar.specs.declared.found.FoundDecls.{FoundDecls}
use Rattle.ix_grammar.specs.declared.found.FoundType.{FoundType}
use Rattle.ix_grammar.specs.Patterns.{sign, name_token}
use Rattle.ix_grammar.specs.Lists.{IsSeparated, first_item, next_item}
use Rattle.ix_grammar.specs.TypeGrammar.{IsType}
use Rattle.ix_grammar.specs.ExprGrammar.{IsInit}
use Rattle.ix_grammar.specs.DeclGrammar as g
use Rattle.ix_grammar.specs.DeclGrammar.{IsMods, IsDecl, IsDecls, IsParam, IsParams, marked, earlier, begins, shared, one_param, with_param}
use Rattle.ix_lexer.proofs.SplitInOrder.{order_both}
use Rattle.ix_grammar_rules.proofs.DeclPlaces.{FirstLies, mods_stand}
use Rattle.ix_grammar_rules.proofs.ExprPlaces.{init_stands}
use Rattle.ix_grammar_rules.proofs.ListsLaid.{laid_joined}
use Rattle.ix_grammar_rules.proofs.AnnotLaid.{annot_laid}
use Rattle.ix_grammar_rules.proofs.TypeLaid.{type_laid}
use Rattle.ix_grammar_rules.proofs.ExprLaid.{init_laid}

-- what begins with a node stands from that node on
raised : (start lo hi : ℕ) (span : Span) (parts later : Layout) → LaidOut start lo hi (Layout.node span parts later) → LaidOut start span.from hi (Layout.node span parts later)
raised start lo hi span parts later (a, b, c, d) = (omega arith, b, c, d)

-- ---- modifiers: their annotations stand from the first modifier on

abbrev pub ModsLaid : ℕ → Option Span → List Annot → Type 0
ModsLaid hi None annots = annots ≡ []
ModsLaid hi (Some first) annots = (start : ℕ) → Laid start first.from hi (map annot_piece annots)

pub marked_annots : (found : FoundMods) (word : Word) → (marked found.mods word).annots ≡ found.mods.annots
marked_annots found Open = refl
marked_annots found Private = refl
marked_annots found Static = refl
marked_annots found Final = refl

word_laid : (mid hi : ℕ) (first : Option Span) (span : Span) (annots : List Annot) → mid ≤ hi → span.from ≤ hi → ModsLaid mid first annots → ModsLaid hi (earlier first span) annots
word_laid mid hi None span annots a b is = λ start. subst (λ l. Laid start span.from hi (map annot_piece l)) (sym is) b
word_laid mid hi (Some first) span annots a b laid = λ start. laid_more start first.from mid start first.from hi (row (map annot_piece annots)) (omega arith) (omega arith) a (laid start)

note_laid : (mid hi : ℕ) (first : Option Span) (annots : List Annot) (annot : Annot) → ModsLaid mid first annots → ((start : ℕ) → LaidOut start mid hi (annot_piece annot)) → ModsLaid hi (earlier first annot.span) (annots ++ annot ∷ [])
note_laid mid hi None annots annot is x =
    λ start. subst (λ l. Laid start annot.span.from hi (map annot_piece (l ++ annot ∷ []))) (sym is) (laid_one start annot.span.from hi (annot_piece annot) (raised start mid hi annot.span (row (name_piece annot.name ∷ map arg_piece annot.args)) Layout.nothing (x start)))
note_laid mid hi (Some first) annots annot laid x = λ start. laid_joined annot_piece start first.from mid mid hi annots annot (laid start) (x start) (omega arith)

pub mods_laid : (words : List (ℕ × Word)) (lo hi : ℕ) (ts : List Token) (found : FoundMods) → IsMods words ts found → InOrder lo hi ts → ModsLaid hi found.first found.mods.annots
mods_laid words lo hi _ _ g.none o = refl
mods_laid words lo hi _ _ (g.word {tokens} {found} number span {word} r d) o =
    let (mid, a, b, p, q) = order_both lo hi tokens (sign number span ∷ []) o in
    subst (λ l. ModsLaid hi (earlier found.first span) l) (sym (marked_annots found word)) (word_laid mid hi found.first span found.mods.annots b (omega (arith, q.1, q.2)) (mods_laid words lo mid tokens found d p))
mods_laid words lo hi _ _ (g.annot {before} {tokens} {found} {annot} d x) o =
    let (mid, a, b, p, q) = order_both lo hi before tokens o in
    note_laid mid hi found.first found.mods.annots annot (mods_laid words lo mid before found d p) (λ start. annot_laid start mid hi tokens annot x q)

-- ---- modifiers and a type, or something else that begins with a node

-- What is behind modifiers stands from `lo`, or from the first modifier on.
pub headed : (start mid hi : ℕ) (mods : FoundMods) (other : Span) (xs : List Layout) → ModsLaid mid mods.first mods.mods.annots → Laid start other.from hi xs → mid ≤ other.from
    → Laid start (begins mods.first other).from hi (map annot_piece mods.mods.annots ++ xs)
headed start mid hi mods other xs m x le = by mods.first m
  where
    by : (first : Option Span) → ModsLaid mid first mods.mods.annots → Laid start (begins first other).from hi (map annot_piece mods.mods.annots ++ xs)
    by None is = subst (λ l. Laid start other.from hi (map annot_piece l ++ xs)) (sym is) x
    by (Some first) laid = laid_rows start first.from mid other.from hi (map annot_piece mods.mods.annots) xs (laid start) x le

-- what all declarators share, which ends before `hi`
pub record HeadLaid (lo hi : ℕ) (mods : FoundMods) (ty : FoundType) : Type 0 where
  pub behind : lo ≤ (begins mods.first ty.ty.span).from
  pub before : (begins mods.first ty.ty.span).from < hi
  pub some : ty.ty.span.from < ty.ty.span.to
  pub within : lo ≤ ty.ty.span.from
  pub ends : ty.ty.span.to ≤ hi
  pub laid : (start : ℕ) → Laid start (begins mods.first ty.ty.span).from hi (map annot_piece mods.mods.annots ++ type_piece ty.ty ∷ [])

pub first_behind : (lo mid hi : ℕ) (first : Option Span) (other : Span) → FirstLies lo mid first → lo ≤ other.from → other.from < other.to → other.to ≤ hi → mid ≤ hi → (lo ≤ (begins first other).from) × ((begins first other).from < hi)
first_behind lo mid hi None other f a b c d = (a, omega (arith, b, c))
first_behind lo mid hi (Some first) other f a b c d = (f.0, omega (arith, f.1, f.2, d))

pub head_laid : (words : List (ℕ × Word)) (lo one two : ℕ) (first second : List Token) (mods : FoundMods) (ty : FoundType) → IsMods words first mods → IsType second ty → InOrder lo one first → InOrder one two second → lo ≤ one
    → HeadLaid lo two mods ty
head_laid words lo one two first second mods ty m t o p le =
    let (a, b, c, d) = type_laid 0 one two second ty t p in
    let f = first_behind lo one two mods.first ty.ty.span (mods_stand words lo one first mods m o).0 (omega (arith, le, a)) b d (omega (arith, a, b, d)) in
    record {
      behind = f.0;
      before = f.1;
      some = b;
      within = omega (arith, le, a);
      ends = d;
      laid = λ start. headed start one two mods ty.ty.span (type_piece ty.ty ∷ []) (mods_laid words lo one first mods m o)
          (laid_one start ty.ty.span.from two (type_piece ty.ty) (raised start one two ty.ty.span _ Layout.nothing (type_laid start one two second ty t p))) a;
    }

-- ---- declarators

own_laid : (all : Shared) (lo hi : ℕ) (ts : List Token) (found : FoundDecl) → IsDecl IsInit all ts found → InOrder lo hi ts → (start : ℕ) → Lies lo hi found.end × Laid start lo found.end.to (own_pieces found.decl)
own_laid all lo hi _ _ (g.plain name) o start = (o, laid_one start lo name.span.to (name_piece name) (laid_name start lo name.span.to name (o.0, o.1, omega arith)))
own_laid all lo hi _ _ (g.with_init name assign {tokens} {found} d) (a, b, (c, e, o)) start =
    let l = (init_stands assign.to hi tokens found d o).0 in (
      (omega (arith, a, b, c, e, l.0), l.1, l.2),
      laid_two start lo name.span.to assign.to found.end.to (name_piece name) (init_piece found.init) (laid_name start lo name.span.to name (a, b, omega arith)) (init_laid assign.to hi tokens found d o start) (omega (arith, c, e)),
    )

-- All of them have the shared modifiers and type.
abbrev Has : Shared → LocalDecl → Type 0
Has all decl = (decl.mods ≡ all.mods) × (decl.ty ≡ all.ty)

abbrev pub HaveAll : Shared → List LocalDecl → Type 0
HaveAll all [] = Unit {0}
HaveAll all (decl ∷ decls) = Has all decl × HaveAll all decls

decl_has : (all : Shared) (ts : List Token) (found : FoundDecl) → IsDecl IsInit all ts found → Has all found.decl
decl_has all _ _ (g.plain name) = (refl, refl)
decl_has all _ _ (g.with_init name assign d) = (refl, refl)

have_joined : (all : Shared) (decls : List LocalDecl) (decl : LocalDecl) → HaveAll all decls → Has all decl → HaveAll all (decls ++ decl ∷ [])
have_joined all [] decl a b = (b, tt)
have_joined all (x ∷ decls) decl (a, more) b = (a, have_joined all decls decl more b)

abbrev shared_of : Shared → List Layout
shared_of all = map annot_piece all.mods.annots ++ type_piece all.ty ∷ []

shared_is : (all : Shared) (decl : LocalDecl) → Has all decl → shared_pieces decl ≡ shared_of all
shared_is all decl (a, b) = ap (λ m. map annot_piece m.annots ++ type_piece decl.ty ∷ []) a ∙ ap (λ t. map annot_piece all.mods.annots ++ type_piece t ∷ []) b

further_joined : (decls : List LocalDecl) (decl : LocalDecl) → further_pieces (decls ++ decl ∷ []) ≡ further_pieces decls ++ again (shared_pieces decl) ∷ own_pieces decl
further_joined [] decl = ap (λ l. again (shared_pieces decl) ∷ l) (append-nil (own_pieces decl))
further_joined (x ∷ decls) decl =
    ap (λ l. again (shared_pieces x) ∷ (own_pieces x ++ l)) (further_joined decls decl) ∙ ap (λ l. again (shared_pieces x) ∷ l) (sym (append_assoc (own_pieces x) (further_pieces decls) (again (shared_pieces decl) ∷ own_pieces decl)))

-- One more declarator, where what is shared stands from `from` to `mid`.
more_laid : (start from mid far next hi : ℕ) (all : Shared) (decls : List LocalDecl) (decl : LocalDecl) → start ≤ from → mid ≤ far → far ≤ next → Has all decl → Laid start from mid (shared_of all)
    → Laid start from far (locals_pieces decls) → Laid start next hi (own_pieces decl) → Laid start from hi (locals_pieces (decls ++ decl ∷ []))
more_laid start from mid far next hi all [] decl a b c has head laid own =
    subst (λ l. Laid start from hi l) (sym (append-nil (decl_pieces decl)))
    (laid_rows start from mid next hi (shared_pieces decl) (own_pieces decl) (subst (λ l. Laid start from mid l) (sym (shared_is all decl has)) head) own (omega (arith, b, c)))
more_laid start from mid far next hi all (x ∷ decls) decl a b c has head laid own =
    let copied : Laid start start mid (shared_pieces decl) = subst (λ l. Laid start start mid l) (sym (shared_is all decl has)) (laid_more start from mid start start mid (row (shared_of all)) (omega arith) a (omega arith) head) in
    subst (λ l. Laid start from hi l) (sym (ap (λ l. decl_pieces x ++ l) (further_joined decls decl) ∙ sym (append_assoc (decl_pieces x) (further_pieces decls) (again (shared_pieces decl) ∷ own_pieces decl))))
    (laid_rows start from far far hi (locals_pieces (x ∷ decls)) (again (shared_pieces decl) ∷ own_pieces decl) laid
    (laid_first start far far next hi (again (shared_pieces decl)) (own_pieces decl) (laid_again start mid far far (shared_pieces decl) copied b (omega arith)) own c) (omega arith))

pub record DeclsLaid (lo hi start from : ℕ) (all : Shared) (found : FoundDecls) : Type 0 where
  pub end : Lies lo hi found.end
  pub laid : Laid start from found.end.to (locals_pieces found.decls)
  pub have : HaveAll all found.decls

decls_laid : (start from mid lo : ℕ) (all : Shared) (hi : ℕ) (ts : List Token) (found : FoundDecls) → IsDecls IsInit all ts found → start ≤ from → mid ≤ lo → Laid start from mid (shared_of all) → InOrder lo hi ts
    → DeclsLaid lo hi start from all found
decls_laid start from mid lo all hi _ _ (first_item {tokens} {item} d) a b head o =
    let (l, own) = own_laid all lo hi tokens item d o start in record {
      end = l;
      laid = more_laid start from mid mid lo item.end.to all [] item.decl a (omega arith) b (decl_has all tokens item d) head (laid_ends start from mid (row (shared_of all)) head) own;
      have = (decl_has all tokens item d, tt);
    }
decls_laid start from mid lo all hi _ _ (next_item {before} {tokens} {items} {item} comma d x) a b head o =
    let (far, c, e, p, q) = order_both lo hi before (sign COMMA comma ∷ tokens) o in
    let r = decls_laid start from mid lo all far before items d a b head p in
    let (l, own) = own_laid all comma.to hi tokens item x q.2 start in record {
      end = (omega (arith, c, q.0, q.1, l.0), l.1, l.2);
      laid = more_laid start from mid items.end.to comma.to item.end.to all items.decls item.decl a (omega (arith, b, r.end.0, r.end.1)) (omega (arith, r.end.2, q.0, q.1)) (decl_has all tokens item x) head r.laid own;
      have = have_joined all items.decls item.decl r.have (decl_has all tokens item x);
    }

-- modifiers, a type and declarators
pub record GroupLaid (lo hi start : ℕ) (mods : FoundMods) (ty : FoundType) (found : FoundDecls) : Type 0 where
  pub end : Lies lo hi found.end
  pub behind : lo ≤ (begins mods.first ty.ty.span).from
  pub before : (begins mods.first ty.ty.span).from < found.end.to
  pub within : lo ≤ ty.ty.span.from
  pub some : ty.ty.span.from < ty.ty.span.to
  pub ends : ty.ty.span.to ≤ hi
  pub laid : Laid start (begins mods.first ty.ty.span).from found.end.to (locals_pieces found.decls)
  pub have : HaveAll (shared mods ty) found.decls

pub group_laid : (words : List (ℕ × Word)) (lo hi start : ℕ) (first second third : List Token) (mods : FoundMods) (ty : FoundType) (found : FoundDecls)
    → IsMods words first mods → IsType second ty → IsDecls IsInit (shared mods ty) third found → InOrder lo hi (first ++ (second ++ third)) → start ≤ (begins mods.first ty.ty.span).from
    → GroupLaid lo hi start mods ty found
group_laid words lo hi start first second third mods ty found m t d o le =
    let (one, a, b, p, q) = order_both lo hi first (second ++ third) o in
    let (two, c, e, r, u) = order_both one hi second third q in
    let h = head_laid words lo one two first second mods ty m t p r a in
    let s = decls_laid start (begins mods.first ty.ty.span).from two two (shared mods ty) hi third found d le (omega arith) (h.laid start) u in record {
      end = (omega (arith, a, c, s.end.0), s.end.1, s.end.2);
      behind = h.behind;
      before = omega (arith, h.before, s.end.0, s.end.1);
      within = h.within;
      some = h.some;
      ends = omega (arith, h.ends, e);
      laid = s.laid;
      have = s.have;
    }

-- ---- parameters

param_laid : (start lo hi : ℕ) (ts : List Token) (found : FoundDecl) → IsParam ts found → InOrder lo hi ts → Laid start lo hi (decl_pieces found.decl)
param_laid start lo hi _ _ (g.param {before} {tokens} {mods} {ty} name m t) o =
    let (one, a, b, p, q) = order_both lo hi before (tokens ++ name_token name ∷ []) o in
    let (two, c, e, r, u) = order_both one hi tokens (name_token name ∷ []) q in
    let h = head_laid g.local_words lo one two before tokens mods ty m t p r a in
    laid_rows start lo two two hi (shared_of (shared mods ty)) (name_piece name ∷ []) (laid_more start (begins mods.first ty.ty.span).from two start lo two (row (shared_of (shared mods ty))) (omega arith) h.behind (omega arith) (h.laid start))
    (laid_one start two hi (name_piece name) (laid_name start two hi name u)) (omega arith)

params_joined : (params : List LocalDecl) (param : LocalDecl) → params_pieces (params ++ param ∷ []) ≡ params_pieces params ++ decl_pieces param
params_joined [] param = append-nil (decl_pieces param)
params_joined (x ∷ params) param = ap (λ l. decl_pieces x ++ l) (params_joined params param) ∙ sym (append_assoc (decl_pieces x) (params_pieces params) (decl_pieces param))

separate_params : (start lo hi : ℕ) (ts : List Token) (params : Params) → IsSeparated IsParam one_param with_param ts params → InOrder lo hi ts → Laid start lo hi (params_pieces params.params)
separate_params start lo hi _ _ (first_item {tokens} {item} d) o = subst (λ l. Laid start lo hi l) (sym (append-nil (decl_pieces item.decl))) (param_laid start lo hi tokens item d o)
separate_params start lo hi _ _ (next_item {before} {tokens} {items} {item} comma d x) o =
    let (mid, a, b, p, q) = order_both lo hi before (sign COMMA comma ∷ tokens) o in
    subst (λ l. Laid start lo hi l) (sym (params_joined items.params item.decl))
    (laid_rows start lo mid comma.to hi (params_pieces items.params) (decl_pieces item.decl) (separate_params start lo mid before items d p) (param_laid start comma.to hi tokens item x q.2) (omega (arith, q.0, q.1)))

pub params_laid : (start lo hi : ℕ) (ts : List Token) (params : Params) → IsParams ts params → InOrder lo hi ts → Laid start lo hi (params_pieces params.params)
params_laid start lo hi _ _ (g.none left right) (a, b, (c, d, e)) = omega (arith, a, b, c, d, e)
params_laid start lo hi _ _ (g.some left right {tokens} {params} d) (a, b, o) =
    let (mid, c, e, p, q) = order_both left.to hi tokens (sign CLOSE_PAREN right ∷ []) o in
    laid_more start left.to mid start lo hi (row (params_pieces params.params)) (omega arith) (omega (arith, a, b)) e (separate_params start left.to mid tokens params d p)
