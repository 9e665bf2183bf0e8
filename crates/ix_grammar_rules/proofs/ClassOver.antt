-- Members, classes and sources with more height left.
use Rattle.std.proofs.Common.{ℕ, ◌≤◌, ◌+◌, ◌-◌, max, Bool, true, false, Option, Some, None, arith}
use Rattle.std.proofs.lemmas.Bool.{le-leb, leb-true}
use Rattle.ix_text.specs.declared.span.Span.{Span}
use Rattle.ix_tree.specs.declared.annot.BaseTree.TheVariants.{Named}
use Rattle.ix_tree.specs.declared.annot.Ident.{Ident}
use Rattle.ix_grammar.specs.declared.classes.Classes.{Classes}
use Rattle.ix_grammar.specs.declared.declarations.FoundMods.{FoundMods}
use Rattle.ix_grammar.specs.declared.found.FoundType.{FoundType}
use Rattle.ix_grammar.specs.TypeGrammar.{based}
use Rattle.ix_grammar.specs.DeclGrammar.{begins, member_words, shared}
use Rattle.ix_grammar.specs.ClassGrammar.{no_stmts, with_stmt, no_members, with_members, no_classes}
use Rattle.ix_grammar_rules.specs.ClassRules.{PartRules, statements, block, super_behind, body, behind, method, typed_member, named_member, member_behind, member, next_class_word, class_words, parent, class_behind, worded_class, next_class, next_dot, dotted, package_line, next_imported, imported, next_import, imports, program}
use Rattle.ix_grammar_rules.proofs.GiveRules.{sound_gives}
use Rattle.ix_grammar_rules.proofs.OverRules.{Over, over_pure, over_stop, over_take, over_bind}
use Rattle.ix_grammar_rules.proofs.TypeSound.{type_sound, type_rest_sound}
use Rattle.ix_grammar_rules.proofs.AnnotOver.{over_token, over_last, over_then, over_map, over_turns, braces_over, type_rest_over, type_over}
use Rattle.ix_grammar_rules.proofs.DeclOver.{mods_over, decls_over, params_over, throws_over}

-- Initialisers, argument lists and statements with more height left.
pub record PartsOver (rules : PartRules) : Type 0 where
  pub init : (left more : ℕ) → left + 5 ≤ more → Over (rules.init left) (rules.init more)
  pub args : (left more : ℕ) → left + 5 ≤ more → Over (rules.args left) (rules.args more)
  pub statement : (left more : ℕ) → left + 5 ≤ more → Over (rules.statement left) (rules.statement more)

-- ---- package and import lines, which have no height

next_dot_over : (names : Unit {0}) → Over (next_dot names) (next_dot names)
unfolding next_dot
next_dot_over names = over_token _ _ _ _ _ (λ dot. over_last _ _) (over_pure _)

dotted_over : Over dotted dotted
unfolding dotted
dotted_over = over_token _ _ _ _ _ (λ name. over_turns _ _ next_dot_over tt) over_stop

package_over : Over package_line package_line
unfolding package_line
package_over = over_token _ _ _ _ _ (λ span. over_then _ _ _ _ dotted_over (λ names. over_last _ _)) (over_pure _)

next_imported_over : (names : Unit {0}) → Over (next_imported names) (next_imported names)
unfolding next_imported
next_imported_over names = over_token _ _ _ _ _ (λ dot. over_token _ _ _ _ _ (λ times. over_last _ _) (over_last _ _)) (over_last _ _)

imported_over : Over imported imported
unfolding imported
imported_over = over_token _ _ _ _ _ (λ name. over_turns _ _ next_imported_over tt) over_stop

next_import_over : (before : Unit {0}) → Over (next_import before) (next_import before)
unfolding next_import
next_import_over before = over_token _ _ _ _ _ (λ span. over_then _ _ _ _ (over_token _ _ _ _ _ (λ static. imported_over) imported_over) (λ names. over_pure _)) (over_pure _)

imports_over : Over imports imports
unfolding imports
imports_over = over_turns _ _ next_import_over tt

-- ---- the words before a class, and what it extends

class_word_over : (first : Option Span) → Over (next_class_word first) (next_class_word first)
unfolding next_class_word
class_word_over first = over_token _ _ _ _ _ (λ span. over_pure _) (over_token _ _ _ _ _ (λ span. over_pure _) (over_pure _))

class_words_over : (first : Option Span) → Over (class_words first) (class_words first)
unfolding class_words
class_words_over first = over_turns _ _ class_word_over first

parent_over : Over parent parent
unfolding parent
parent_over = over_token _ _ _ _ _ (λ span. over_token _ _ _ _ _ (λ name. over_last _ _) over_stop) (over_last _ _)

module _ (rules : PartRules) (over : PartsOver rules) where
  -- ---- bodies

  statements_over : (left more : ℕ) → left + 5 ≤ more → Over (statements rules left) (statements rules more)
  unfolding statements
  statements_over left more room = braces_over _ _ with_stmt no_stmts (over.statement left more room)

  block_over : (left more : ℕ) → left + 5 ≤ more → Over (block rules left) (block rules more)
  unfolding block
  block_over left more room = over_map _ _ _ (statements_over left more room)

  super_over : (left more : ℕ) → left + 5 ≤ more → Over (super_behind rules left) (super_behind rules more)
  unfolding super_behind
  super_over left more room = over_then _ _ _ _ (over.args left more room) (λ args. over_token _ _ _ _ _ (λ end. over_map _ _ _ (statements_over left more room)) over_stop)

  body_over : (left more : ℕ) (constructor : Bool) → left + 5 ≤ more → Over (body rules left constructor) (body rules more constructor)
  unfolding body
  body_over left more true room = over_token _ _ _ _ _ (λ super. super_over left more room) (block_over left more room)
  body_over left more false room = block_over left more room

  -- ---- members

  behind_over : (left more : ℕ) (constructor : Bool) → 1 ≤ left → left + 5 ≤ more → Over (behind rules left constructor) (behind rules more constructor)
  unfolding behind
  behind_over left more constructor one room = over_then _ _ _ _ (params_over (left - 1) (more - 1) (omega (arith, one, room))) (λ params. over_then _ _ _ _ throws_over (λ none.
      over_token _ _ _ _ _ (λ opening. over_map _ _ _ (body_over (left - 1) (more - 1) constructor (omega (arith, one, room)))) over_stop))

  method_over : (left more : ℕ) (start : Span) (found : FoundMods) (result : Option FoundType) (constructor : Bool) (name : Ident) → 1 ≤ left → left + 5 ≤ more
      → Over (method rules left start found result constructor name) (method rules more start found result constructor name)
  unfolding method
  method_over left more start found result constructor name one room = over_map _ _ _ (behind_over left more constructor one room)

  -- behind a type as high as what was left for it
  typed_member_over : (left more : ℕ) (found : FoundMods) (ty : FoundType) → ty.height ≤ max (left - 1) 2 → left + 5 ≤ more → Over (typed_member rules left found ty) (typed_member rules more found ty)
  unfolding typed_member
  typed_member_over left more found ty low room = over_take _ _ _ _ _ _ _ (le-leb (1 + ty.height) more (omega (arith, low, room))) (λ name f.
      let one : 1 ≤ left = omega (arith, leb-true (1 + ty.height) left f) in
      over_token _ _ _ _ _ (λ opening. method_over left more (begins found.first ty.ty.span) found (Some ty) false name one room)
      (over_then _ _ _ _ (decls_over rules.init over.init left more (shared found ty) name one room) (λ decls. over_last _ _))) over_stop

  named_member_over : (left more : ℕ) (found : FoundMods) (first : Ident) → 1 ≤ left → left + 5 ≤ more → Over (named_member rules left found first) (named_member rules more found first)
  unfolding named_member
  named_member_over left more found first one room = over_token _ _ _ _ _ (λ opening. method_over left more (begins found.first first.span) found None true first one room)
      (over_bind {P = λ ty. ty.height ≤ max (left - 1) 2} _ _ _ _ (sound_gives _ (type_rest_sound (left - 1) (based (Named first) first.span)) (λ ts ty r. r.1))
      (type_rest_over (left - 1) (more - 1) (based (Named first) first.span) (omega (arith, room))) (λ ty low. typed_member_over left more found ty low room))

  member_behind_over : (left more : ℕ) (found : FoundMods) → left + 5 ≤ more → Over (member_behind rules left found) (member_behind rules more found)
  unfolding member_behind
  member_behind_over left more found room = over_take _ _ _ _ _ _ _ (le-leb 2 more (omega (arith, room)))
      (λ void f. over_token _ _ _ _ _ (λ name. over_token _ _ _ _ _ (λ opening. method_over left more (begins found.first void) found None false name (omega (arith, leb-true 2 left f)) room) over_stop) over_stop)
      (over_take _ _ _ _ _ _ _ (le-leb 2 more (omega (arith, room))) (λ name f. named_member_over left more found name (omega (arith, leb-true 2 left f)) room)
      (over_bind {P = λ ty. ty.height ≤ max (left - 1) 2} _ _ _ _ (sound_gives _ (type_sound (left - 1)) (λ ts ty r. omega (arith, r.1)))
      (type_over (left - 1) (more - 1) (omega (arith, room))) (λ ty low. typed_member_over left more found ty low room)))

  member_over : (left more : ℕ) → left + 5 ≤ more → Over (member rules left) (member rules more)
  unfolding member
  member_over left more room = over_then _ _ _ _ (mods_over member_words (left - 1) (more - 1) (omega (arith, room))) (λ found. member_behind_over left more found room)

  -- ---- classes

  class_behind_over : (left more : ℕ) (start : Span) → 1 ≤ left → left + 5 ≤ more → Over (class_behind rules left start) (class_behind rules more start)
  unfolding class_behind
  class_behind_over left more start one room = over_token _ _ _ _ _ (λ name. over_then _ _ _ _ parent_over (λ above.
      over_map _ _ _ (braces_over _ _ with_members no_members (member_over (left - 1) (more - 1) (omega (arith, one, room)))))) over_stop

  worded_class_over : (left more : ℕ) (first : Span) → 1 ≤ left → left + 5 ≤ more → Over (worded_class rules left first) (worded_class rules more first)
  unfolding worded_class
  worded_class_over left more first one room = over_then _ _ _ _ (class_words_over (Some first)) (λ start. over_token _ _ _ _ _ (λ span. class_behind_over left more (begins start span) one room) over_stop)

  next_class_over : (left more : ℕ) → left + 5 ≤ more → (classes : Classes) → Over (next_class rules left classes) (next_class rules more classes)
  unfolding next_class
  next_class_over left more room classes =
      over_take _ _ _ _ _ _ _ (le-leb 2 more (omega (arith, room))) (λ span f. over_map _ _ _ (worded_class_over left more span (omega (arith, leb-true 2 left f)) room))
      (over_take _ _ _ _ _ _ _ (le-leb 2 more (omega (arith, room))) (λ span f. over_map _ _ _ (worded_class_over left more span (omega (arith, leb-true 2 left f)) room))
      (over_take _ _ _ _ _ _ _ (le-leb 2 more (omega (arith, room))) (λ span f. over_map _ _ _ (class_behind_over left more span (omega (arith, leb-true 2 left f)) room))
      (over_pure _)))

  -- ---- whole sources

  pub program_over : (left more : ℕ) → 1 ≤ left → left + 5 ≤ more → Over (program rules left) (program rules more)
  unfolding program
  program_over left more one room = over_then _ _ _ _ package_over (λ none. over_then _ _ _ _ imports_over (λ none.
      over_map _ _ _ (over_turns _ _ (next_class_over (left - 1) (more - 1) (omega (arith, one, room))) no_classes)))
