-- The guarded text of a source is a source, whose tree is the guarded one up to places.
use Rattle.std.proofs.Common.{◌≡◌, ℕ, ◌-◌, true, List, [], ◌∷◌, ◌++◌, map, take, drop, refl, sym, ap, subst, ◌∙◌, append_assoc, append-nil}
use Rattle.ix_lexer.specs.declared.token.Token.{Token}
use Rattle.ix_lexer.specs.Tokens.{Tokens}
use Rattle.ix_tree.specs.declared.decl.ClassDecl.{ClassDecl}
use Rattle.ix_tree.specs.declared.decl.Unit.{Unit as Source}
use Rattle.ix_grammar.specs.declared.classes.Classes.{Classes}
use Rattle.ix_grammar.specs.declared.classes.FoundUnit.{FoundUnit}
use Rattle.ix_grammar.specs.Lists.{IsRepeated, no_item, one_more}
use Rattle.ix_grammar.specs.ClassGrammar as g
use Rattle.ix_grammar.specs.ClassGrammar.{IsClass, no_classes, with_class}
use Rattle.ix_grammar.specs.SourceGrammar.{source_parts, IsSource}
use Rattle.ix_grammar.specs.Refusals.{HasTree}
use Rattle.ix_core.specs.declared.error.Error.{Error}
use Rattle.ix_meaning.specs.Resolved.{Names, names}
use Rattle.ix_guard_text.specs.Bare.{bare_class, bare_source}
use Rattle.ix_guard_text.proofs.ListsAgain.{map_joined}
use Rattle.ix_guard_text.proofs.SourcesAgain.{source_again}
use Rattle.ix_guard_text.specs.Names.{HaveNames}
use Rattle.ix_guard_text.specs.Woven.{with_added}
use Rattle.ix_guard_text.proofs.InsertedTexts.{inserted_tokens}
use Rattle.ix_guard_text.proofs.NamedTokens.{token_names}
use Rattle.ix_guard.specs.declared.insertion.Insertion.{Insertion}
use Rattle.ix_guard.specs.Tests.{Site}
use Rattle.ix_guard.specs.Guards.{together, in_class, insertions, with_texts, guarded}
use Rattle.ix_guard.specs.Trees.{guarded_class, guarded_tree}
use Rattle.ix_guard_text.specs.Derived.{Derives}
use Rattle.ix_guard_text.proofs.NamedAccesses.{names_split}
use Rattle.ix_guard_text.specs.Inserted.{added}
use Rattle.ix_guard_text.proofs.Wrapped.{added_both}
use Rattle.ix_guard_text.proofs.GuardedMembers.{Weaves, weaves_none, weaves_before, weaves_both, class_guarded}

module _ (site : Site) where
  record ClassesGuards (ts : List Token) (classes : Classes) : Type 0 where
    pub news : List Token
    pub woven : Weaves ts (added (together (map (in_class site) classes.classes))) news
    pub found : Classes
    pub is : IsRepeated (IsClass source_parts) no_classes with_class news found
    pub same : map bare_class found.classes ≡ map bare_class (map (guarded_class site) classes.classes)

  together_joined : (xs : List ClassDecl) (x : ClassDecl) → together (map (in_class site) xs) ++ in_class site x ≡ together (map (in_class site) (xs ++ x ∷ []))
  together_joined [] x = sym (append-nil (in_class site x))
  together_joined (y ∷ xs) x = append_assoc (in_class site y) (together (map (in_class site) xs)) (in_class site x) ∙ ap (λ l. in_class site y ++ l) (together_joined xs x)

  classes_guarded : (ts : List Token) (classes : Classes) → IsRepeated (IsClass source_parts) no_classes with_class ts classes → HaveNames ts → ClassesGuards ts classes
  classes_guarded _ _ no_item h = record { news = []; woven = weaves_none; found = no_classes; is = no_item; same = refl }
  classes_guarded _ _ (one_more {before} {tokens} {items} {item} d x) h =
      let n = names_split before tokens h in
      let one = classes_guarded before items d n.0 in
      let two = class_guarded site tokens item x n.1 in
      let first = together (map (in_class site) items.classes) in
      let second = in_class site item.class in
      record {
        news = one.news ++ two.news;
        woven = subst (λ l. Weaves (before ++ tokens) l (one.news ++ two.news)) (sym (added_both first second) ∙ ap added (together_joined items.classes item.class))
            (weaves_both before tokens (added first) (added second) one.news two.news one.woven two.woven);
        found = with_class one.found two.found;
        is = one_more one.is two.is;
        same = map_joined bare_class one.found.classes two.found.class ∙ ap (λ l. l ++ bare_class two.found.class ∷ []) one.same ∙ ap (λ k. map bare_class (map (guarded_class site) items.classes) ++ k ∷ []) two.same
            ∙ sym (map_joined bare_class (map (guarded_class site) items.classes) (guarded_class site item.class)) ∙ ap (map bare_class) (sym (map_joined (guarded_class site) items.classes item.class));
      }

  record SourceGuards (ts : List Token) (found : FoundUnit) : Type 0 where
    pub news : List Token
    pub woven : Weaves ts (added (insertions site found.unit)) news
    pub other : FoundUnit
    pub is : IsSource news other
    pub same : bare_source other.unit ≡ bare_source (record { classes = map (guarded_class site) found.unit.classes })

  source_guarded : (ts : List Token) (found : FoundUnit) → IsSource ts found → HaveNames ts → SourceGuards ts found
  source_guarded _ _ (g.program {first} {second} {third} {name} {imports} {classes} p i r) h =
      let inner = classes_guarded third classes r (names_split second third (names_split first (second ++ third) h).1).1 in
      record {
        news = first ++ (second ++ inner.news);
        woven = weaves_before first (weaves_before second inner.woven);
        other = g.unit_of inner.found;
        is = g.program p i inner.is;
        same = ap (λ l. record { classes = l }) inner.same;
      }

texts_added : (at : ℕ) (bytes : List ℕ) (new : List Insertion) → with_added at bytes (added new) ≡ with_texts at bytes new
texts_added at bytes [] = refl
texts_added at bytes (i ∷ new) = ap (λ l. take (i.place - at) bytes ++ (i.text ++ l)) (texts_added i.place (drop (i.place - at) bytes) new)

-- The guarded bytes derive the guarded tree, up to places.
pub guarded_source : (bytes : List ℕ) (tokens : List Token) (found : FoundUnit) (meanings : Names) (errors : List Error) → Tokens bytes tokens → IsSource tokens found
    → Derives (guarded bytes found.unit meanings errors) (guarded_tree found.unit meanings errors)
guarded_source bytes tokens found meanings errors t d =
    let site : Site = record { names = meanings; errors = errors } in
    let guards = source_guarded site tokens found d (token_names bytes tokens t) in
    let woven = guards.woven true 0 in
    let new = insertions site found.unit in
    let read = inserted_tokens bytes tokens guards.news (added new) woven.0 woven.1 t woven.2 in
    let again = source_again guards.news read.0 guards.other guards.is (sym read.2) in
    record {
      tokens = read.0;
      found = again.found;
      text = subst (λ b. Tokens b read.0) (texts_added 0 bytes new) read.1;
      is = again.is;
      same = sym again.same ∙ guards.same;
    }

-- The same of a source whose tree is low enough to be read, by what its names mean in it.
pub guarded_derives : (bytes : List ℕ) (tokens : List Token) (unit : Source) (errors : List Error) → Tokens bytes tokens → HasTree tokens unit
    → Derives (guarded bytes unit (names unit) errors) (guarded_tree unit (names unit) errors)
guarded_derives bytes tokens unit errors t (height, low) = guarded_source bytes tokens (record { unit = unit; height = height }) (names unit) errors t low.0
