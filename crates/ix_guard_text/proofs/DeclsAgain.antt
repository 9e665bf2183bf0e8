-- Modifiers, declarators and parameters of tokens at other places.
use Rattle.std.proofs.Common.{◌≡◌, ℕ, List, [], ◌∷◌, ◌++◌, map, Option, Some, None, refl, sym, ap, ◌∙◌}
use Rattle.ix_text.specs.declared.span.Span.{Span}
use Rattle.ix_lexer.specs.declared.fixed.TheConstants.{CLOSE_PAREN}
use Rattle.ix_tree.specs.declared.annot.Annot.{Annot}
use Rattle.ix_tree.specs.declared.annot.Ident.{Ident}
use Rattle.ix_tree.specs.declared.annot.Mods.{Mods}
use Rattle.ix_tree.specs.declared.annot.TypeTree.{TypeTree}
use Rattle.ix_tree.specs.declared.decl.LocalDecl.{LocalDecl}
use Rattle.ix_tree.specs.declared.expr.Init.{Init}
use Rattle.ix_grammar.specs.declared.declarations.FoundDecl.{FoundDecl}
use Rattle.ix_grammar.specs.declared.declarations.FoundMods.{FoundMods}
use Rattle.ix_grammar.specs.declared.declarations.Params.{Params}
use Rattle.ix_grammar.specs.declared.declarations.Shared.{Shared}
use Rattle.ix_grammar.specs.declared.declarations.Word.{Word}
use Rattle.ix_grammar.specs.declared.declarations.Word.TheVariants.{Open, Private, Static, Final}
use Rattle.ix_grammar.specs.declared.found.FoundDecls.{FoundDecls}
use Rattle.ix_grammar.specs.Patterns.{sign, name_token}
use Rattle.ix_grammar.specs.DeclGrammar as g
use Rattle.ix_grammar.specs.DeclGrammar.{marked, noted, IsMods, declared, shared, local_words, IsDecl, IsDecls, one_decl, with_decl, IsParam, IsParams, one_param, with_param, nothing, nothing_more, IsName, IsThrows}
use Rattle.ix_grammar.specs.ExprGrammar.{IsInit}
use Rattle.ix_guard_text.specs.Bare.{bare_maybe, bare_name, bare_annot, bare_type, bare_mods, bare_init, bare_decl}
use Rattle.ix_guard_text.specs.Respanned.{next, behind}
use Rattle.ix_guard_text.proofs.ListsAgain.{both, map_joined, same_joined, Stays, separated}
use Rattle.ix_guard_text.proofs.AnnotsAgain.{SameAnnot, named_at, annot_stays, type_stays}
use Rattle.ix_guard_text.proofs.ExprsAgain.{init_stays}

-- ---- modifiers

abbrev pub SameMods : FoundMods → FoundMods → Type 0
SameMods x y = bare_mods x.mods ≡ bare_mods y.mods

abbrev with_marks : Word → Mods → Mods
with_marks word mods = marked mods word

marked_same : (word : Word) (m n : Mods) → bare_mods m ≡ bare_mods n → bare_mods (marked m word) ≡ bare_mods (marked n word)
marked_same Open m n e = e
marked_same Private m n e = ap (with_marks Private) e
marked_same Static m n e = ap (with_marks Static) e
marked_same Final m n e = ap (with_marks Final) e

abbrev with_annots : Mods → List Annot → Mods
with_annots mods annots = record { is_static = mods.is_static; is_final = mods.is_final; is_private = mods.is_private; annots = annots }

noted_same : (m n : Mods) (a b : Annot) → bare_mods m ≡ bare_mods n → SameAnnot a b → bare_mods (noted m a) ≡ bare_mods (noted n b)
noted_same m n a b e f =
    ap (with_annots m) (map_joined bare_annot m.annots a) ∙ ap (λ (mods : Mods). with_annots mods (mods.annots ++ bare_annot a ∷ [])) e
    ∙ ap (λ (x : Annot). with_annots n (map bare_annot n.annots ++ x ∷ [])) f ∙ ap (with_annots n) (sym (map_joined bare_annot n.annots b))

pub mods_stay : (words : List (ℕ × Word)) → Stays (IsMods words) (IsMods words) SameMods
mods_stay words _ _ g.none at = record { found = _; is = g.none; same = refl }
mods_stay words _ _ (g.word {tokens} {found} number span {word} r d) at =
    let inner = mods_stay words tokens found d at in
    rw (both tokens (sign number span ∷ []) at) (record { found = _; is = g.word number (behind tokens at 0) r inner.is; same = marked_same word found.mods inner.found.mods inner.same })
mods_stay words _ _ (g.annot {before} {tokens} {found} {annot} d a) at =
    let first = mods_stay words before found d at in
    let last = annot_stays tokens annot a (behind before at) in
    rw (both before tokens at) (record { found = _; is = g.annot first.is last.is; same = noted_same found.mods first.found.mods annot last.found first.same last.same })

-- ---- declarators

pub record SameShared (x y : Shared) : Type 0 where
  pub mods : bare_mods x.mods ≡ bare_mods y.mods
  pub ty : bare_type x.ty ≡ bare_type y.ty

abbrev pub SameDecl : FoundDecl → FoundDecl → Type 0
SameDecl x y = bare_decl x.decl ≡ bare_decl y.decl

abbrev pub SameDecls : FoundDecls → FoundDecls → Type 0
SameDecls x y = map bare_decl x.decls ≡ map bare_decl y.decls

abbrev made : Ident → Mods → TypeTree → Option Init → LocalDecl
made name mods ty init = record { mods = mods; ty = ty; name = bare_name name; init = init }

declared_same : (all other : Shared) (name : Ident) (span : Span) (i j : Option Init) → SameShared all other → bare_maybe bare_init i ≡ bare_maybe bare_init j
    → bare_decl (declared all name i) ≡ bare_decl (declared other (record { text = name.text; span = span }) j)
declared_same all other name span i j e f =
    ap (λ m. made name m (bare_type all.ty) (bare_maybe bare_init i)) e.mods ∙ ap (λ t. made name (bare_mods other.mods) t (bare_maybe bare_init i)) e.ty ∙ ap (made name (bare_mods other.mods) (bare_type other.ty)) f

decl_stays : (all other : Shared) → SameShared all other → Stays (IsDecl IsInit all) (IsDecl IsInit other) SameDecl
decl_stays all other e _ _ (g.plain name) at = record { found = _; is = g.plain (named_at at name); same = declared_same all other name (at 0) None None e refl }
decl_stays all other e _ _ (g.with_init name assign {tokens} {found} d) at =
    let inner = init_stays tokens found d (next (next at)) in
    record { found = _; is = g.with_init (named_at at name) (next at 0) inner.is; same = declared_same all other name (at 0) (Some found.init) (Some inner.found.init) e (ap (λ i. Some i) inner.same) }

pub decls_stay : (all other : Shared) → SameShared all other → Stays (IsDecls IsInit all) (IsDecls IsInit other) SameDecls
decls_stay all other e =
    separated (IsDecl IsInit all) (IsDecl IsInit other) SameDecl (decl_stays all other e) SameDecls with_decl (λ s t x y f h. same_joined bare_decl s.decls t.decls x.decl y.decl f h) one_decl
    (λ x y f. ap (λ d. d ∷ []) f)

-- ---- parameters

abbrev pub SameParams : Params → Params → Type 0
SameParams x y = map bare_decl x.params ≡ map bare_decl y.params

param_stays : Stays IsParam IsParam SameDecl
param_stays _ _ (g.param {before} {tokens} {mods} {ty} name d t) at =
    let first = mods_stay local_words before mods d at in
    let at2 = behind before at in
    let second = type_stays tokens ty t at2 in
    let at3 = behind tokens at2 in
    rw (both before (tokens ++ name_token name ∷ []) at, both tokens (name_token name ∷ []) at2)
    (record {
      found = _;
      is = g.param (named_at at3 name) first.is second.is;
      same = declared_same (shared mods ty) (shared first.found second.found) name (at3 0) None None (record { mods = first.same; ty = second.same }) refl;
    })

pub params_stay : Stays IsParams IsParams SameParams
params_stay _ _ (g.none left right) at = record { found = _; is = g.none (at 0) (next at 0); same = refl }
params_stay _ _ (g.some left right {tokens} {params} d) at =
    let inner = separated IsParam IsParam SameDecl param_stays SameParams with_param (λ s t x y e f. same_joined bare_decl s.params t.params x.decl y.decl e f) one_param (λ x y e. ap (λ d. d ∷ []) e) tokens params d (next at) in
    rw (both tokens (sign CLOSE_PAREN right ∷ []) (next at)) (record { found = _; is = g.some (at 0) (behind tokens (next at) 0) inner.is; same = inner.same })

-- ---- what leaves no node

abbrev pub Any : {A : Type 0} → A → A → Type 0
Any x y = Unit {0}

name_stays : Stays IsName IsName Any
name_stays _ _ (g.ident found) at = record { found = _; is = g.ident (named_at at found); same = tt }

pub throws_stay : Stays IsThrows IsThrows Any
throws_stay _ _ g.none at = record { found = _; is = g.none; same = tt }
throws_stay _ _ (g.throws span {tokens} {names} d) at =
    let inner = separated IsName IsName Any name_stays Any nothing_more (λ s t x y e f. tt) nothing (λ x y e. tt) tokens names d (next at) in
    record { found = _; is = g.throws (at 0) inner.is; same = tt }
