-- Members, classes and sources that are read are in the grammar, and as high as is left at most.
use Rattle.std.proofs.Common.{◌≡◌, ℕ, ◌≤◌, ◌+◌, ◌-◌, max, Bool, true, false, List, [], ◌∷◌, ◌++◌, Option, Some, None, refl, sym, ap, subst, ◌∙◌, arith, append_assoc}
use Rattle.std.proofs.lemmas.List.{append-nil}
use Rattle.std.proofs.lemmas.Bool.{leb-true}
use Rattle.ix_text.specs.declared.span.Span.{Span}
use Rattle.ix_lexer.specs.declared.token.Token.{Token}
use Rattle.ix_lexer.specs.declared.fixed.TheConstants.{CLASS, EXTENDS, FINAL, IMPORT, PUBLIC, SUPER, VOID, OPEN_PAREN, OPEN_BRACE, CLOSE_BRACE, SEMICOLON, DOT}
use Rattle.ix_tree.specs.declared.annot.Ident.{Ident}
use Rattle.ix_tree.specs.declared.annot.BaseTree.TheVariants.{Named}
use Rattle.ix_grammar.specs.declared.classes.Behind.{Behind}
use Rattle.ix_grammar.specs.declared.classes.Body.{Body}
use Rattle.ix_grammar.specs.declared.classes.Classes.{Classes}
use Rattle.ix_grammar.specs.declared.classes.FoundClass.{FoundClass}
use Rattle.ix_grammar.specs.declared.classes.Members.{Members}
use Rattle.ix_grammar.specs.declared.classes.Stmts.{Stmts}
use Rattle.ix_grammar.specs.declared.declarations.FoundMods.{FoundMods}
use Rattle.ix_grammar.specs.declared.found.At.{At}
use Rattle.ix_grammar.specs.declared.found.FoundType.{FoundType}
use Rattle.ix_grammar_rules.specs.Rule.{Rule, pure, bind, On}
use Rattle.ix_grammar.specs.Patterns.{sign, name_token}
use Rattle.ix_grammar.specs.Lists.{IsRepeated, no_item, one_more}
use Rattle.ix_grammar.specs.TypeGrammar as types
use Rattle.ix_grammar.specs.TypeGrammar.{IsType, based}
use Rattle.ix_grammar.specs.DeclGrammar.{begins, IsMods, member_words, shared, nothing_more}
use Rattle.ix_grammar.specs.ClassGrammar as grammar
use Rattle.ix_grammar.specs.ClassGrammar.{Parts, IsBody, IsBehind, IsMember, IsClassWord, IsClassWords, IsParent, IsClass, IsDotted, IsPackage, IsImported, IsImport, IsProgram, no_stmts, with_stmt, body_of, body_with, method_of, no_members, with_members, class_of, no_classes, with_class, unit_of, result_height}
use Rattle.ix_grammar_rules.specs.ClassRules.{PartRules, statements, block, super_behind, body, behind, method, typed_member, named_member, member_behind, member, next_class_word, class_words, parent, class_behind, worded_class, next_class, next_dot, dotted, package_line, next_imported, imported, next_import, imports, program}
use Rattle.ix_grammar_rules.proofs.SoundRules.{Sound, weaken, pure_sound, stop_sound, bind_sound, sign_sound, name_sound, loop_sound, After}
use Rattle.ix_grammar_rules.proofs.ListsSound.{sign_fits, name_fits, braces_fits, Braces}
use Rattle.ix_grammar_rules.proofs.TypeSound.{type_sound, type_rest_sound, tall_type}
use Rattle.ix_grammar_rules.proofs.DeclSound.{mods_sound, decls_sound, params_sound, throws_sound}

-- What is read of initialisers, argument lists and statements is in the grammar, and as high as is left at most.
pub record PartsSound (parts : Parts) (rules : PartRules) : Type 0 where
  pub init : (room : ℕ) → Sound (λ ts found. parts.IsInit ts found × (found.height ≤ room)) (rules.init room)
  pub args : (room : ℕ) → Sound (λ ts found. parts.IsArgs ts found × (found.height ≤ room)) (rules.args room)
  pub statement : (room : ℕ) → Sound (λ ts found. parts.IsStmt ts found × (found.height ≤ room)) (rules.statement room)

-- ---- package and import lines

pub dot_on : {ts : List Token} → IsDotted ts → (dot : Span) (name : Ident) → IsDotted (ts ++ sign DOT dot ∷ name_token name ∷ [])
dot_on (grammar.dotted first d) dot name = grammar.dotted first (one_more d (grammar.dot_name dot name))

abbrev pub Dotted : List Token → Unit {0} → Type 0
Dotted ts u = IsDotted ts

pub next_dot_sound : (u : Unit {0}) (front : List Token) → Dotted front u → Sound (After Dotted Dotted front) (next_dot u)
unfolding next_dot
next_dot_sound u front d = sign_sound _ _ _ _ (λ dot. name_sound _ _ _ (λ x. pure_sound _ (dot_on d dot x)) stop_sound) (pure_sound _ (subst IsDotted (sym (append-nil front)) d))

pub dotted_sound : Sound Dotted dotted
unfolding dotted
dotted_sound = name_sound _ _ _ (λ x. loop_sound next_dot Dotted Dotted next_dot_sound tt (name_token x ∷ []) (grammar.dotted x no_item)) stop_sound

pub package_sound : Sound IsPackage package_line
unfolding package_line
package_sound = sign_sound _ _ _ _ (λ span. bind_sound _ _ dotted_sound (λ u seen d. sign_sound _ _ _ _ (λ end. pure_sound _ (grammar.package_line span end d)) stop_sound)) (pure_sound _ grammar.none)

abbrev pub Imported : List Token → Unit {0} → Type 0
Imported ts u = IsImported ts

pub next_imported_sound : (u : Unit {0}) (front : List Token) → Dotted front u → Sound (After Dotted Imported front) (next_imported u)
unfolding next_imported
next_imported_sound u front d = sign_sound _ _ _ _ (λ dot. sign_sound _ _ _ _ (λ times. sign_sound _ _ _ _ (λ end. pure_sound _ (grammar.each dot times end d)) stop_sound)
    (name_sound _ _ _ (λ x. pure_sound _ (dot_on d dot x)) stop_sound))
    (sign_sound _ _ _ _ (λ end. pure_sound _ (grammar.one end d)) stop_sound)

pub imported_sound : Sound Imported imported
unfolding imported
imported_sound = name_sound _ _ _ (λ x. loop_sound next_imported Dotted Imported next_imported_sound tt (name_token x ∷ []) (grammar.dotted x no_item)) stop_sound

abbrev pub Imports : List Token → Unit {0} → Type 0
Imports = IsRepeated IsImport tt nothing_more

pub next_import_sound : (u : Unit {0}) (front : List Token) → Imports front u → Sound (After Imports Imports front) (next_import u)
unfolding next_import
next_import_sound u front d = sign_sound _ _ _ _
    (λ span. bind_sound {R = λ ts u. IsImport (sign IMPORT span ∷ ts) u} _ _
    (sign_sound _ _ _ _ (λ static. weaken _ (λ ts v i. grammar.static span static i) imported_sound) (weaken _ (λ ts v i. grammar.plain span i) imported_sound))
    (λ v seen i. pure_sound _ (subst (λ y. Imports (front ++ sign IMPORT span ∷ y) tt) (sym (append-nil seen)) (one_more d i))))
    (pure_sound _ (subst (λ y. Imports y u) (sym (append-nil front)) d))

pub imports_sound : Sound Imports imports
unfolding imports
imports_sound = loop_sound next_import Imports Imports next_import_sound tt [] no_item

-- ---- the words before a class, and what it extends

pub class_word_sound : (first : Option Span) (front : List Token) → IsClassWords front first → Sound (After IsClassWords IsClassWords front) (next_class_word first)
unfolding next_class_word
class_word_sound first front d = sign_sound _ _ _ _ (λ span. pure_sound _ (one_more d (grammar.public span)))
    (sign_sound _ _ _ _ (λ span. pure_sound _ (one_more d (grammar.final span)))
    (pure_sound _ (subst (λ y. IsClassWords y first) (sym (append-nil front)) d)))

pub class_words_sound : (first : Option Span) (front : List Token) → IsClassWords front first → Sound (λ ts found. IsClassWords (front ++ ts) found) (class_words first)
unfolding class_words
class_words_sound first front d = loop_sound next_class_word IsClassWords IsClassWords class_word_sound first front d

abbrev pub Opened : List Token → Option Ident → Type 0
Opened ts found = (seen : List Token) × (left : Span) × (ts ≡ seen ++ sign OPEN_BRACE left ∷ []) × IsParent seen found

pub parent_sound : Sound Opened parent
unfolding parent
parent_sound = sign_sound _ _ _ _ (λ span. name_sound _ _ _ (λ x. sign_sound _ _ _ _ (λ left. pure_sound _ (sign EXTENDS span ∷ name_token x ∷ [], left, refl, grammar.extends span x)) stop_sound) stop_sound)
    (sign_sound _ _ _ _ (λ left. pure_sound _ ([], left, refl, grammar.none)) stop_sound)

module _ (parts : Parts) (rules : PartRules) (sound : PartsSound parts rules) where
  -- ---- bodies

  abbrev pub Blocked : ℕ → List Token → At Stmts → Type 0
  Blocked left ts found = Braces parts.IsStmt no_stmts with_stmt ts found × (found.value.height ≤ left)

  pub statements_sound : (left : ℕ) → Sound (Blocked left) (statements rules left)
  unfolding statements
  statements_sound left = braces_fits parts.IsStmt no_stmts with_stmt (rules.statement left) (λ s. s.height ≤ left) (λ s. s.height ≤ left) (omega arith) (λ s x q p. omega (arith, p, q)) (sound.statement left)

  abbrev pub Bodied : ℕ → Bool → List Token → Body → Type 0
  Bodied left constructor ts found = IsBody parts constructor ts found × (found.height ≤ left)

  pub block_sound : (left : ℕ) (constructor : Bool) (opening : Span) → Sound (λ ts found. Bodied left constructor (sign OPEN_BRACE opening ∷ ts) found) (block rules left)
  unfolding block
  block_sound left constructor opening = bind_sound _ _ (statements_sound left) (λ found seen r. pure_sound _ (
      let (stmts, is, d) = r.0 in
      (subst (λ y. IsBody parts constructor (sign OPEN_BRACE opening ∷ y) (body_of found.value found.span)) (sym (append-nil seen ∙ is)) (grammar.block opening found.span d), r.1)))

  pub super_sound : (left : ℕ) (opening super : Span) → Sound (λ ts found. Bodied left true (sign OPEN_BRACE opening ∷ sign SUPER super ∷ ts) found) (super_behind rules left)
  unfolding super_behind
  super_sound left opening super = bind_sound _ _ (sound.args left) (λ args before a. sign_sound _ _ _ _ (λ end. bind_sound _ _ (statements_sound left) (λ found seen r. pure_sound _ (
      let (stmts, is, d) = r.0 in (
        subst (λ y. IsBody parts true (sign OPEN_BRACE opening ∷ sign SUPER super ∷ (before ++ sign SEMICOLON end ∷ y)) (body_with args found.value found.span)) (sym (append-nil seen ∙ is))
            (grammar.with_super opening super end found.span a.0 d),
        omega (arith, a.1, r.1),
      )))) stop_sound)

  pub body_sound : (left : ℕ) (constructor : Bool) (opening : Span) → Sound (λ ts found. Bodied left constructor (sign OPEN_BRACE opening ∷ ts) found) (body rules left constructor)
  unfolding body
  body_sound left true opening = sign_sound _ _ _ _ (λ super. super_sound left opening super) (block_sound left true opening)
  body_sound left false opening = block_sound left false opening

  -- ---- members

  abbrev pub Followed : ℕ → Bool → List Token → Behind → Type 0
  Followed room constructor ts rest = IsBehind parts constructor ts rest × ((rest.params.height ≤ room) × (rest.body.height ≤ room))

  pub behind_sound : (left : ℕ) (constructor : Bool) (opening : Span) → Sound (λ ts rest. Followed (left - 1) constructor (sign OPEN_PAREN opening ∷ ts) rest) (behind rules left constructor)
  unfolding behind
  behind_sound left constructor opening = bind_sound _ _ (params_sound (left - 1) opening) (λ params first p. bind_sound _ _ throws_sound (λ u second t. sign_sound _ _ _ _ (λ brace.
      bind_sound _ _ (body_sound (left - 1) constructor brace) (λ body third b. pure_sound _
      (subst (λ y. IsBehind parts constructor (sign OPEN_PAREN opening ∷ (first ++ (second ++ sign OPEN_BRACE brace ∷ y))) (record { params = params; body = body })) (sym (append-nil third)) (grammar.behind p.0 t b.0), (p.1, b.1)))) stop_sound))

  abbrev pub Membered : ℕ → List Token → Members → Type 0
  Membered left ts found = IsMember parts ts found × (found.height ≤ left)

  pub low_method : (left m r p b : ℕ) → m ≤ left - 1 → r ≤ left - 1 → 2 ≤ left → p ≤ left - 1 → b ≤ left - 1 → 1 + max (max (max m r) 1) (max p b) ≤ left
  low_method left m r p b hm hr two hp hb = omega (arith, hm, hr, two, hp, hb)

  pub method_sound : (left : ℕ) (start : Span) (found : FoundMods) (result : Option FoundType) (constructor : Bool) (name : Ident) (front : List Token) (opening : Span)
      → 2 ≤ left → found.height ≤ left - 1 → result_height result ≤ left - 1
      → ((ts : List Token) (rest : Behind) → IsBehind parts constructor ts rest → IsMember parts (front ++ ts) (method_of start found result constructor name rest))
      → Sound (λ ts m. Membered left (front ++ sign OPEN_PAREN opening ∷ ts) m) (method rules left start found result constructor name)
  unfolding method
  method_sound left start found result constructor name front opening two hm hr makes = bind_sound _ _ (behind_sound left constructor opening) (λ rest seen r. pure_sound _ (
    subst (λ y. IsMember parts (front ++ sign OPEN_PAREN opening ∷ y) (method_of start found result constructor name rest)) (sym (append-nil seen)) (makes (sign OPEN_PAREN opening ∷ seen) rest r.0),
    low_method left found.height (result_height result) rest.params.height rest.body.height hm hr two r.1.0 r.1.1,
  ))

  pub regroup : (first second third : List Token) (t : Token) → (first ++ (second ++ t ∷ [])) ++ third ≡ first ++ (second ++ t ∷ third)
  regroup first second third t = append_assoc first (second ++ t ∷ []) third ∙ ap (λ y. first ++ y) (append_assoc second (t ∷ []) third)

  pub typed_member_sound : (left : ℕ) (found : FoundMods) (ty : FoundType) (first second : List Token) → IsMods member_words first found → found.height ≤ left - 1 → IsType second ty
      → Sound (λ ts m. Membered left (first ++ (second ++ ts)) m) (typed_member rules left found ty)
  unfolding typed_member
  typed_member_sound left found ty first second m hm t = name_fits _ _ _ (λ fits name.
      let room : 1 + ty.height ≤ left = leb-true (1 + ty.height) left fits in
      let tall : 1 ≤ ty.height = tall_type t in
      sign_sound _ _ _ _
      (λ opening. weaken _ (λ ts x r. (subst (λ y. IsMember parts y x) (regroup first second (sign OPEN_PAREN opening ∷ ts) (name_token name)) r.0, r.1))
      (method_sound left (begins found.first ty.ty.span) found (Some ty) false name (first ++ (second ++ name_token name ∷ [])) opening (omega (arith, room, tall)) hm (omega (arith, room))
      (λ ts rest d. subst (λ y. IsMember parts y (method_of (begins found.first ty.ty.span) found (Some ty) false name rest)) (sym (regroup first second ts (name_token name))) (grammar.method name m t d))))
      (bind_sound _ _ (decls_sound parts.IsInit rules.init sound.init left (shared found ty) name (omega (arith, room, tall, hm))) (λ ds seen d. sign_sound _ _ _ _
      (λ end. pure_sound _ (grammar.some_fields end m t d.0, d.1)) stop_sound))) stop_sound

  named_member_sound : (left : ℕ) (found : FoundMods) (name : Ident) (first : List Token) → 2 ≤ left → IsMods member_words first found → found.height ≤ left - 1
      → Sound (λ ts m. Membered left (first ++ name_token name ∷ ts) m) (named_member rules left found name)
  unfolding named_member
  named_member_sound left found name first two m hm = sign_sound _ _ _ _
      (λ opening. weaken _ (λ ts x r. (subst (λ y. IsMember parts y x) (append_assoc first (name_token name ∷ []) (sign OPEN_PAREN opening ∷ ts)) r.0, r.1))
      (method_sound left (begins found.first name.span) found None true name (first ++ name_token name ∷ []) opening two hm (omega (arith, two))
      (λ ts rest d. subst (λ y. IsMember parts y (method_of (begins found.first name.span) found None true name rest)) (sym (append_assoc first (name_token name ∷ []) ts)) (grammar.constructor_of name m d))))
      (bind_sound _ _ (type_rest_sound (left - 1) (based (Named name) name.span)) (λ ty seen r. typed_member_sound left found ty first (name_token name ∷ seen) m hm (types.type (types.named name) r.0)))

  pub regroup_void : (first third : List Token) (t u : Token) → (first ++ t ∷ u ∷ []) ++ third ≡ first ++ t ∷ u ∷ third
  regroup_void first third t u = append_assoc first (t ∷ u ∷ []) third

  member_behind_sound : (left : ℕ) (found : FoundMods) (first : List Token) → IsMods member_words first found → found.height ≤ left - 1 → Sound (λ ts m. Membered left (first ++ ts) m) (member_behind rules left found)
  unfolding member_behind
  member_behind_sound left found first m hm = sign_fits _ _ _ _
      (λ fits void. name_sound _ _ _ (λ name. sign_sound _ _ _ _
      (λ opening. weaken _ (λ ts x r. (subst (λ y. IsMember parts y x) (regroup_void first (sign OPEN_PAREN opening ∷ ts) (sign VOID void) (name_token name)) r.0, r.1))
      (method_sound left (begins found.first void) found None false name (first ++ sign VOID void ∷ name_token name ∷ []) opening (leb-true 2 left fits) hm (omega arith)
      (λ ts rest d. subst (λ y. IsMember parts y (method_of (begins found.first void) found None false name rest)) (sym (regroup_void first ts (sign VOID void) (name_token name))) (grammar.void_method void name m d)))) stop_sound) stop_sound)
      (name_fits _ _ _ (λ fits name. named_member_sound left found name first (leb-true 2 left fits) m hm)
      (bind_sound _ _ (type_sound (left - 1)) (λ ty seen r. typed_member_sound left found ty first seen m hm r.0)))

  pub member_sound : (left : ℕ) → Sound (Membered left) (member rules left)
  unfolding member
  member_sound left = bind_sound _ _ (mods_sound member_words (left - 1)) (λ found seen r. member_behind_sound left found seen r.0 r.1)

  -- ---- classes

  abbrev pub Classed : ℕ → List Token → FoundClass → Type 0
  Classed left ts found = IsClass parts ts found × (found.height ≤ left)

  pub class_behind_sound : (left : ℕ) (start : Option Span) (span : Span) (front : List Token) → 2 ≤ left → IsClassWords front start → Sound (λ ts found. Classed left (front ++ sign CLASS span ∷ ts) found) (class_behind rules left (begins start span))
  unfolding class_behind
  class_behind_sound left start span front two w = name_sound _ _ _ (λ name. bind_sound _ _ parent_sound (λ above second p. bind_sound _ _
      (braces_fits (IsMember parts) no_members with_members (member rules (left - 1)) (λ s. s.height ≤ left - 1) (λ s. s.height ≤ left - 1) (omega arith) (λ s x q p. omega (arith, p, q)) (member_sound (left - 1)))
      (λ found third r. pure_sound _ (
      let (extended, opening, same, q) = p in
      let (members, is, d) = r.0 in
      let c : FoundClass = class_of (begins start span) name above found.value found.span in
      let made : IsClass parts (front ++ sign CLASS span ∷ name_token name ∷ (extended ++ sign OPEN_BRACE opening ∷ (members ++ sign CLOSE_BRACE found.span ∷ []))) c = grammar.class span name opening found.span w q d in
      let ends : second ++ (third ++ []) ≡ extended ++ sign OPEN_BRACE opening ∷ (members ++ sign CLOSE_BRACE found.span ∷ []) =
      ap (λ y. second ++ y) (append-nil third ∙ is) ∙ ap (λ y. y ++ (members ++ sign CLOSE_BRACE found.span ∷ [])) same ∙ append_assoc extended (sign OPEN_BRACE opening ∷ []) (members ++ sign CLOSE_BRACE found.span ∷ []) in
      (subst (λ y. IsClass parts (front ++ sign CLASS span ∷ name_token name ∷ y) c) (sym ends) made, omega (arith, two, r.1)))))) stop_sound

  pub worded_class_sound : (left : ℕ) (first : Span) (token : Token) → 2 ≤ left → IsClassWord (token ∷ []) first → Sound (λ ts found. Classed left (token ∷ ts) found) (worded_class rules left first)
  unfolding worded_class
  worded_class_sound left first token two w = bind_sound _ _ (class_words_sound (Some first) (token ∷ []) (one_more no_item w)) (λ start seen d. sign_sound _ _ _ _ (λ span. class_behind_sound left start span (token ∷ seen) two d) stop_sound)

  abbrev pub ClassedAll : ℕ → List Token → Classes → Type 0
  ClassedAll left ts found = IsRepeated (IsClass parts) no_classes with_class ts found × (found.height ≤ left)

  another : (left : ℕ) (classes : Classes) (front : List Token) (token : Token) (rule : Rule FoundClass) → ClassedAll left front classes → Sound (λ ts found. Classed left (token ∷ ts) found) rule
      → Sound (λ ts r. After (ClassedAll left) (ClassedAll left) front (token ∷ ts) r) (bind rule (λ found. pure (On (with_class classes found))))
  another left classes front token rule d s = bind_sound _ _ s (λ found seen r. pure_sound _
      (subst (λ y. IsRepeated (IsClass parts) no_classes with_class (front ++ token ∷ y) (with_class classes found)) (sym (append-nil seen)) (one_more d.0 r.0), omega (arith, d.1, r.1)))

  pub next_class_sound : (left : ℕ) (classes : Classes) (front : List Token) → ClassedAll left front classes → Sound (After (ClassedAll left) (ClassedAll left) front) (next_class rules left classes)
  unfolding next_class
  next_class_sound left classes front d =
      sign_fits _ _ _ _ (λ fits span. another left classes front (sign PUBLIC span) _ d (worded_class_sound left span _ (leb-true 2 left fits) (grammar.public span)))
      (sign_fits _ _ _ _ (λ fits span. another left classes front (sign FINAL span) _ d (worded_class_sound left span _ (leb-true 2 left fits) (grammar.final span)))
      (sign_fits _ _ _ _ (λ fits span. another left classes front (sign CLASS span) _ d (class_behind_sound left None span [] (leb-true 2 left fits) no_item))
      (pure_sound _ (subst (λ y. IsRepeated (IsClass parts) no_classes with_class y classes) (sym (append-nil front)) d.0, d.1))))

  -- ---- whole sources

  pub program_sound : (left : ℕ) → 1 ≤ left → Sound (λ ts found. IsProgram parts ts found × (found.height ≤ left)) (program rules left)
  unfolding program
  program_sound left one = bind_sound _ _ package_sound (λ u first p. bind_sound _ _ imports_sound (λ v second i. bind_sound _ _
      (loop_sound (next_class rules (left - 1)) (ClassedAll (left - 1)) (ClassedAll (left - 1)) (next_class_sound (left - 1)) no_classes [] (no_item, omega arith))
      (λ classes third r. pure_sound _ (subst (λ y. IsProgram parts (first ++ (second ++ y)) (unit_of classes)) (sym (append-nil third)) (grammar.program p i r.0), omega (arith, r.1, one)))))
