-- Where the first token of an expression or of a declaration stands.
use Rattle.std.proofs.Common.{◌≡◌, ℕ, suc, List, [], ◌∷◌, ◌++◌, Option, Some, None, refl, ap, ◌∙◌}
use Rattle.ix_text.specs.declared.span.Span.{Span}
use Rattle.ix_lexer.specs.declared.token.Token.{Token}
use Rattle.ix_tree.specs.declared.annot.Annot.{Annot}
use Rattle.ix_grammar.specs.declared.declarations.FoundMods.{FoundMods}
use Rattle.ix_grammar.specs.declared.declarations.Word.{Word}
use Rattle.ix_grammar.specs.declared.found.At.{At}
use Rattle.ix_tree.specs.declared.annot.BaseTree.{BaseTree}
use Rattle.ix_grammar.specs.declared.found.Found.{Found}
use Rattle.ix_grammar.specs.declared.found.FoundDecls.{FoundDecls}
use Rattle.ix_grammar.specs.declared.found.FoundType.{FoundType}
use Rattle.ix_grammar.specs.AnnotGrammar as a
use Rattle.ix_grammar.specs.AnnotGrammar.{IsAnnot}
use Rattle.ix_grammar.specs.TypeGrammar as t
use Rattle.ix_grammar.specs.TypeGrammar.{IsBase, IsTypeRest, IsType}
use Rattle.ix_grammar.specs.DeclGrammar as d
use Rattle.ix_grammar.specs.DeclGrammar.{IsMods, begins, earlier}
use Rattle.ix_grammar.specs.ExprGrammar as g
use Rattle.ix_grammar.specs.ExprGrammar.{Kind, IsExpr}
use Rattle.ix_grammar.specs.StmtGrammar as s
use Rattle.ix_grammar.specs.StmtGrammar.{IsLocal}

-- These tokens begin with one that starts at this place.
pub record BeginsAt (place : ℕ) (ts : List Token) : Type 0 where
  pub first : Token
  pub later : List Token
  pub whole : ts ≡ first ∷ later
  pub from : first.span.from ≡ place

at_first : (t : Token) (ts : List Token) → BeginsAt t.span.from (t ∷ ts)
at_first t ts = record { first = t; later = ts; whole = refl; from = refl }

also : {place : ℕ} (ts us : List Token) → BeginsAt place ts → BeginsAt place (ts ++ us)
also ts us b = record { first = b.first; later = b.later ++ us; whole = ap (λ l. l ++ us) b.whole; from = b.from }

-- ---- expressions

pub expr_begins : (k : Kind) (ts : List Token) (f : Found) → IsExpr k ts f → BeginsAt f.outer.from ts
expr_begins _ _ _ (g.number n s) = at_first _ _
expr_begins _ _ _ (g.truth s) = at_first _ _
expr_begins _ _ _ (g.falsity s) = at_first _ _
expr_begins _ _ _ (g.null s) = at_first _ _
expr_begins _ _ _ (g.this s) = at_first _ _
expr_begins _ _ _ (g.variable x) = at_first _ _
expr_begins _ _ _ (g.call x c) = at_first _ _
expr_begins _ _ _ (g.paren left right c) = at_first _ _
expr_begins _ _ _ (g.select dot x {ts} {f} c) = also ts _ (expr_begins g.Primary ts f c)
expr_begins _ _ _ (g.call_on dot x {ts} {us} {f} c b) = also ts _ (expr_begins g.Primary ts f c)
expr_begins _ _ _ (g.index left right {ts} {us} {f} c open_array b) = also ts _ (expr_begins g.Primary ts f c)
expr_begins _ _ _ (g.new_object start x c) = at_first _ _
expr_begins _ _ _ (g.array_of_length start left right n b c m) = at_first _ _
expr_begins _ _ _ (g.array_of_items start open_at n b m c) = at_first _ _
expr_begins _ _ _ (g.primary {ts} {f} c) = expr_begins g.Primary ts f c
expr_begins _ _ _ (g.least minus literal) = at_first _ _
expr_begins _ _ _ (g.signed number op s r c) = at_first _ _
expr_begins _ _ _ (g.step_before number up s r c v) = at_first _ _
expr_begins _ _ _ (g.step_after number up s {ts} {f} r c v) = also ts _ (expr_begins g.Primary ts f c)
expr_begins _ _ _ (g.wider {level} {ts} {f} c) = expr_begins (g.Level level) ts f c
expr_begins _ _ _ (g.operators level number op s {ts} {us} {f} r c x) = also ts _ (expr_begins (g.Level (suc level)) ts f c)
expr_begins _ _ _ (g.binary {ts} {f} c) = expr_begins (g.Level 10) ts f c
expr_begins _ _ _ (g.assign number op s {ts} {us} {f} r c v x) = also ts _ (expr_begins g.Primary ts f c)

-- ---- declarations

annot_begins : (ts : List Token) (annot : Annot) → IsAnnot ts annot → BeginsAt annot.span.from ts
annot_begins _ _ (a.bare at name) = at_first _ _
annot_begins _ _ (a.no_args at name left right) = at_first _ _
annot_begins _ _ (a.plain at name left right c) = at_first _ _
annot_begins _ _ (a.with_names at name left right c) = at_first _ _

base_begins : (ts : List Token) (base : At BaseTree) → IsBase ts base → BeginsAt base.span.from ts
base_begins _ _ (t.int span) = at_first _ _
base_begins _ _ (t.boolean span) = at_first _ _
base_begins _ _ (t.named name) = at_first _ _

rest_begins : (base : At BaseTree) (ts : List Token) (ty : FoundType) → IsTypeRest base ts ty → base.span.from ≡ ty.ty.span.from
rest_begins base _ _ t.no_rest = refl
rest_begins base _ _ (t.array n p) = refl

type_begins : (ts : List Token) (ty : FoundType) → IsType ts ty → BeginsAt ty.ty.span.from ts
type_begins _ _ (t.type {before} {tokens} {base} {ty} b r) =
    let at = base_begins before base b in
    record { first = at.first; later = at.later ++ tokens; whole = ap (λ l. l ++ tokens) at.whole; from = at.from ∙ rest_begins base tokens ty r }

-- where modifiers begin, if there are some
abbrev ModsBegin : Option Span → List Token → Type 0
ModsBegin None ts = ts ≡ []
ModsBegin (Some first) ts = BeginsAt first.from ts

more_mods : (first : Option Span) (span : Span) (ts us : List Token) → ModsBegin first ts → BeginsAt span.from us → ModsBegin (earlier first span) (ts ++ us)
more_mods None span [] us e b = b
more_mods None span (t ∷ ts) us e b = absurd (let h : t ∷ ts ≡ [] = e in cc)
more_mods (Some first) span ts us m b = also ts us m

mods_begin : (words : List (ℕ × Word)) (ts : List Token) (found : FoundMods) → IsMods words ts found → ModsBegin found.first ts
mods_begin words _ _ d.none = refl
mods_begin words _ _ (d.word {tokens} {found} number span r c) = more_mods found.first span tokens _ (mods_begin words tokens found c) (at_first _ [])
mods_begin words _ _ (d.annot {before} {tokens} {found} {annot} c x) = more_mods found.first annot.span before tokens (mods_begin words before found c) (annot_begins tokens annot x)

both_begin : (first : Option Span) (span : Span) (ts us : List Token) → ModsBegin first ts → BeginsAt span.from us → BeginsAt (begins first span).from (ts ++ us)
both_begin None span [] us e b = b
both_begin None span (t ∷ ts) us e b = absurd (let h : t ∷ ts ≡ [] = e in cc)
both_begin (Some first) span ts us m b = also ts us m

pub local_begins : (ts : List Token) (mods : FoundMods) (ty : FoundType) (found : FoundDecls) → IsLocal ts mods ty found → BeginsAt (begins mods.first ty.ty.span).from ts
local_begins _ _ _ _ (s.local {first} {second} {third} {mods} {ty} {found} m c x) =
    both_begin mods.first ty.ty.span first (second ++ third) (mods_begin _ first mods m) (also second third (type_begins second ty c))
