-- Tokens of the same kinds at other places are a source with the same tree up to places.
use Rattle.std.proofs.Common.{◌≡◌, zero, suc, List, [], ◌∷◌, ◌++◌, map, refl, ap, ◌∙◌, subst}
use Rattle.ix_lexer.specs.declared.token.Token.{Token}
use Rattle.ix_lexer.specs.declared.token.TokenKind.{TokenKind}
use Rattle.ix_lexer.specs.declared.fixed.TheConstants.{SEMICOLON, DOT, TIMES}
use Rattle.ix_grammar.specs.declared.classes.FoundUnit.{FoundUnit}
use Rattle.ix_grammar.specs.Patterns.{sign}
use Rattle.ix_grammar.specs.DeclGrammar.{nothing_more}
use Rattle.ix_grammar.specs.ClassGrammar as g
use Rattle.ix_grammar.specs.ClassGrammar.{IsDotName, IsDotted, IsPackage, IsImported, IsImport, IsClass, no_classes, with_class}
use Rattle.ix_grammar.specs.SourceGrammar.{source_parts, IsSource}
use Rattle.ix_guard_text.specs.Bare.{nowhere, bare_class, bare_source}
use Rattle.ix_guard_text.specs.Respanned.{Places, next, behind, respanned}
use Rattle.ix_guard_text.proofs.ListsAgain.{both, same_joined, Again, Stays, repeated}
use Rattle.ix_guard_text.proofs.AnnotsAgain.{named_at}
use Rattle.ix_guard_text.proofs.DeclsAgain.{Any}
use Rattle.ix_guard_text.proofs.ClassesAgain.{SameClass, class_stays}

-- ---- package and import lines

dot_name_stays : Stays IsDotName IsDotName Any
dot_name_stays _ _ (g.dot_name dot name) at = record { found = _; is = g.dot_name (at 0) (named_at (next at) name); same = tt }

dotted_stays : (ts : List Token) → IsDotted ts → (at : Places) → IsDotted (respanned at ts)
dotted_stays _ (g.dotted {tokens} {names} name d) at =
    g.dotted (named_at at name) (repeated IsDotName IsDotName Any dot_name_stays Any nothing_more (λ s t x y e f. tt) tt tt tokens names d (next at)).is

package_stays : Stays IsPackage IsPackage Any
package_stays _ _ g.none at = record { found = _; is = g.none; same = tt }
package_stays _ _ (g.package_line {tokens} span end d) at =
    rw (both tokens (sign SEMICOLON end ∷ []) (next at)) (record { found = _; is = g.package_line (at 0) (behind tokens (next at) 0) (dotted_stays tokens d (next at)); same = tt })

imported_stays : (ts : List Token) → IsImported ts → (at : Places) → IsImported (respanned at ts)
imported_stays _ (g.one {tokens} end d) at = rw (both tokens (sign SEMICOLON end ∷ []) at) (g.one (behind tokens at 0) (dotted_stays tokens d at))
imported_stays _ (g.each {tokens} dot times end d) at =
    let last = behind tokens at in
    rw (both tokens (sign DOT dot ∷ sign TIMES times ∷ sign SEMICOLON end ∷ []) at) (g.each (last 0) (next last 0) (next (next last) 0) (dotted_stays tokens d at))

import_stays : Stays IsImport IsImport Any
import_stays _ _ (g.plain {tokens} span d) at = record { found = _; is = g.plain (at 0) (imported_stays tokens d (next at)); same = tt }
import_stays _ _ (g.static {tokens} span static d) at = record { found = _; is = g.static (at 0) (next at 0) (imported_stays tokens d (next (next at))); same = tt }

-- ---- whole sources

-- with the same tree up to places
abbrev pub SameSource : FoundUnit → FoundUnit → Type 0
SameSource x y = bare_source x.unit ≡ bare_source y.unit

pub source_stays : Stays IsSource IsSource SameSource
source_stays _ _ (g.program {first} {second} {third} {name} {imports} {classes} p i r) at =
    let one = package_stays first name p at in
    let at2 = behind first at in
    let two = repeated IsImport IsImport Any import_stays Any nothing_more (λ s t x y e f. tt) tt tt second imports i at2 in
    let three = repeated (IsClass source_parts) (IsClass source_parts) SameClass class_stays (λ s t. map bare_class s.classes ≡ map bare_class t.classes) with_class (λ s t x y e f. same_joined bare_class s.classes t.classes x.class y.class e f) no_classes refl
    third classes r (behind second at2) in
    rw (both first (second ++ third) at, both second third at2) (record { found = _; is = g.program one.is two.is three.is; same = ap (λ l. record { classes = l }) three.same })

-- ---- tokens of the same kinds

abbrev pub kinds : List Token → List TokenKind
kinds tokens = map (λ token. token.kind) tokens

abbrev places_of : List Token → Places
places_of [] n = nowhere
places_of (token ∷ tokens) zero = token.span
places_of (token ∷ tokens) (suc n) = places_of tokens n

with_places : (ts us : List Token) → kinds ts ≡ kinds us → respanned (places_of us) ts ≡ us
with_places [] [] e = refl
with_places [] (u ∷ us) e = cc
with_places (t ∷ ts) [] e = cc
with_places (t ∷ ts) (u ∷ us) e =
    let k : t.kind ≡ u.kind = cc in
    let l : kinds ts ≡ kinds us = cc in
    ap (λ (x : TokenKind). let y : Token = record { kind = x; span = u.span } in y ∷ respanned (places_of us) ts) k ∙ ap (λ ys. u ∷ ys) (with_places ts us l)

-- Tokens of the kinds of a source's tokens are a source, with the same tree up to places.
pub source_again : (tokens others : List Token) (found : FoundUnit) → IsSource tokens found → kinds tokens ≡ kinds others → Again IsSource SameSource others found
source_again tokens others found d e = subst (λ l. Again IsSource SameSource l found) (with_places tokens others e) (source_stays tokens found d (places_of others))
