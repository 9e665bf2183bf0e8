-- Where members, classes and sources stop, what was taken goes on to some with room for them.
use Rattle.std.proofs.Common.{◌≡◌, ℕ, ◌≤◌, ◌-◌, Bool, true, false, List, [], ◌∷◌, ◌++◌, Option, Some, None, refl, sym, ap, subst, ◌∙◌, arith, append_assoc}
use Rattle.std.proofs.lemmas.List.{append-nil}
use Rattle.ix_text.specs.declared.span.Span.{Span}
use Rattle.ix_lexer.specs.declared.token.Token.{Token}
use Rattle.ix_lexer.specs.declared.fixed.TheConstants.{CLASS, EXTENDS, FINAL, IMPORT, INT, PUBLIC, SUPER, VOID, OPEN_PAREN, CLOSE_PAREN, OPEN_BRACE, CLOSE_BRACE, SEMICOLON}
use Rattle.ix_tree.specs.declared.annot.Ident.{Ident}
use Rattle.ix_tree.specs.declared.annot.BaseTree.TheVariants.{Int, Named}
use Rattle.ix_grammar.specs.declared.classes.Behind.{Behind}
use Rattle.ix_grammar.specs.declared.classes.Body.{Body}
use Rattle.ix_grammar.specs.declared.classes.Classes.{Classes}
use Rattle.ix_grammar.specs.declared.classes.FoundClass.{FoundClass}
use Rattle.ix_grammar.specs.declared.classes.Members.{Members}
use Rattle.ix_grammar.specs.declared.declarations.FoundMods.{FoundMods}
use Rattle.ix_grammar.specs.declared.declarations.Params.{Params}
use Rattle.ix_grammar.specs.declared.found.Args.{Args}
use Rattle.ix_grammar.specs.declared.found.FoundType.{FoundType}
use Rattle.ix_grammar_rules.specs.Rule.{Rule, pure, bind, loop, On, Done}
use Rattle.ix_grammar.specs.Patterns.{sign, name_token}
use Rattle.ix_grammar.specs.Lists.{IsRepeated, first_item, no_item, one_more}
use Rattle.ix_grammar_rules.specs.ListRules.{braces_of}
use Rattle.ix_grammar.specs.TypeGrammar as types
use Rattle.ix_grammar.specs.TypeGrammar.{IsType, based}
use Rattle.ix_grammar.specs.DeclGrammar as decl
use Rattle.ix_grammar.specs.DeclGrammar.{begins, IsMods, IsParams, IsThrows, member_words, shared, plain_decl, one_decl, no_params}
use Rattle.ix_grammar_rules.specs.DeclRules.{decls}
use Rattle.ix_grammar.specs.ClassGrammar as grammar
use Rattle.ix_grammar.specs.ClassGrammar.{Parts, IsBody, IsBehind, IsMember, IsClassWord, IsClassWords, IsParent, IsClass, IsPackage, IsImport, IsProgram, no_stmts, with_stmt, body_of, body_with, method_of, fields_of, no_members, with_members, class_of, no_classes, with_class, unit_of, result_height}
use Rattle.ix_grammar_rules.specs.ClassRules.{PartRules, statements, block, super_behind, body, behind, method, typed_member, named_member, member_behind, member, next_class_word, class_words, parent, class_behind, worded_class, next_class, next_dot, dotted, package_line, next_imported, imported, next_import, imports, program}
use Rattle.ix_grammar_rules.proofs.SoundRules.{Sound, weaken, sign_sound, loop_sound, After}
use Rattle.ix_grammar_rules.proofs.ListsSound.{braces_fits}
use Rattle.ix_grammar_rules.proofs.TypeSound.{type_sound, type_rest_sound}
use Rattle.ix_grammar_rules.proofs.DeclSound.{mods_sound, decls_sound, params_sound, throws_sound}
use Rattle.ix_grammar_rules.proofs.ClassSound as classes
use Rattle.ix_grammar_rules.proofs.ClassSound.{PartsSound, dot_on, Dotted, next_dot_sound, dotted_sound, package_sound, Imported, next_imported_sound, imported_sound, Imports, next_import_sound, imports_sound, class_word_sound, class_words_sound, Opened, parent_sound}
use Rattle.ix_grammar_rules.proofs.ViableRules.{Goes, Viable, weaken_viable, pure_viable, stop_viable, bind_viable, map_viable, loop_viable, sign_viable, name_viable}
use Rattle.ix_grammar_rules.proofs.ListsViable.{here, some_name, done_goes, end_viable, ended_viable, braces_viable}
use Rattle.ix_grammar_rules.proofs.TypeViable.{type_viable, type_rest_viable}
use Rattle.ix_grammar_rules.proofs.DeclViable.{mods_viable, decls_viable, params_viable, throws_viable}

-- Where initialisers, argument lists and statements stop, what was taken goes on to some with room for them.
pub record PartsViable (parts : Parts) (rules : PartRules) : Type 0 where
  pub init : (room : ℕ) → 1 ≤ room → Viable (λ ts found. parts.IsInit ts found × (found.height ≤ room)) (rules.init room)
  pub args : (room : ℕ) → Viable (λ ts found. parts.IsArgs ts found × (found.height ≤ room)) (rules.args room)
  pub statement : (room : ℕ) → 1 ≤ room → Viable (λ ts found. parts.IsStmt ts found × (found.height ≤ room)) (rules.statement room)

-- ---- package and import lines

next_dot_viable : (u : Unit {0}) (front : List Token) → Dotted front u → Viable (After Dotted Dotted front) (next_dot u)
unfolding next_dot
next_dot_viable u front d = sign_viable _ _ _ _ (λ f. absurd (cc)) (λ f dot. name_viable _ _ _ (λ f. absurd (cc)) (λ f x. pure_viable _) (stop_viable (name_token some_name ∷ [], On tt, dot_on d dot some_name))) (pure_viable _)

dotted_viable : Viable Dotted dotted
unfolding dotted
dotted_viable = name_viable _ _ _ (λ f. absurd (cc)) (λ f x. loop_viable next_dot Dotted Dotted next_dot_sound next_dot_viable (λ s ts r. done_goes Dotted ts s r) tt (name_token x ∷ []) (grammar.dotted x no_item))
    (stop_viable (name_token some_name ∷ [], tt, grammar.dotted some_name no_item))

package_viable : Viable IsPackage package_line
unfolding package_line
package_viable = sign_viable _ _ _ _ (λ f. absurd (cc)) (λ f span. ended_viable dotted SEMICOLON (λ names end. tt) dotted_sound dotted_viable (λ u seen d end. grammar.package_line span end d)) (pure_viable _)

next_imported_viable : (u : Unit {0}) (front : List Token) → Dotted front u → Viable (After Dotted Imported front) (next_imported u)
unfolding next_imported
next_imported_viable u front d = sign_viable _ _ _ _ (λ f. absurd (cc))
    (λ f dot. sign_viable _ _ _ _ (λ f. absurd (cc)) (λ f times. end_viable SEMICOLON (λ end. Done tt) (λ end. grammar.each dot times end d))
    (name_viable _ _ _ (λ f. absurd (cc)) (λ f x. pure_viable _) (stop_viable (name_token some_name ∷ [], On tt, dot_on d dot some_name))))
    (end_viable SEMICOLON (λ end. Done tt) (λ end. grammar.one end d))

imported_viable : Viable Imported imported
unfolding imported
imported_viable = name_viable _ _ _ (λ f. absurd (cc))
    (λ f x. loop_viable next_imported Dotted Imported next_imported_sound next_imported_viable (λ s ts r. (sign SEMICOLON here ∷ [], tt, grammar.one here r)) tt (name_token x ∷ []) (grammar.dotted x no_item))
    (stop_viable (name_token some_name ∷ sign SEMICOLON here ∷ [], tt, grammar.one here (grammar.dotted some_name no_item)))

next_import_viable : (u : Unit {0}) (front : List Token) → Imports front u → Viable (After Imports Imports front) (next_import u)
unfolding next_import
next_import_viable u front d = sign_viable _ _ _ _ (λ f. absurd (cc))
    (λ f span. map_viable {R = λ ts u. IsImport (sign IMPORT span ∷ ts) u} _ (λ names. On tt)
    (sign_sound _ _ _ _ (λ static. weaken _ (λ ts v i. grammar.static span static i) imported_sound) (weaken _ (λ ts v i. grammar.plain span i) imported_sound))
    (sign_viable _ _ _ _ (λ f. absurd (cc)) (λ f static. weaken_viable _ (λ ts v i. grammar.static span static i) imported_viable) (weaken_viable _ (λ ts v i. grammar.plain span i) imported_viable))
    (λ v seen i. one_more d i))
    (pure_viable _)

imports_viable : Viable Imports imports
unfolding imports
imports_viable = loop_viable next_import Imports Imports next_import_sound next_import_viable (λ s ts r. done_goes Imports ts s r) tt [] no_item

-- ---- the words before a class, and what it extends

class_word_viable : (first : Option Span) (front : List Token) → IsClassWords front first → Viable (After IsClassWords IsClassWords front) (next_class_word first)
unfolding next_class_word
class_word_viable first front d = sign_viable _ _ _ _ (λ f. absurd (cc)) (λ f span. pure_viable _) (sign_viable _ _ _ _ (λ f. absurd (cc)) (λ f span. pure_viable _) (pure_viable _))

class_words_viable : (first : Option Span) (front : List Token) → IsClassWords front first → Viable (λ ts found. IsClassWords (front ++ ts) found) (class_words first)
unfolding class_words
class_words_viable first front d = loop_viable next_class_word IsClassWords IsClassWords class_word_sound class_word_viable (λ s ts r. done_goes IsClassWords ts s r) first front d

parent_viable : Viable Opened parent
unfolding parent
parent_viable = sign_viable _ _ _ _ (λ f. absurd (cc)) (λ f span. name_viable _ _ _ (λ f. absurd (cc)) (λ f x. end_viable OPEN_BRACE (λ left. Some x) (λ left. (sign EXTENDS span ∷ name_token x ∷ [], left, refl, grammar.extends span x)))
    (stop_viable (name_token some_name ∷ sign OPEN_BRACE here ∷ [], Some some_name, (sign EXTENDS span ∷ name_token some_name ∷ [], here, refl, grammar.extends span some_name))))
    (end_viable OPEN_BRACE (λ left. None) (λ left. ([], left, refl, grammar.none)))

module _ (parts : Parts) (rules : PartRules) (sound : PartsSound parts rules) (viable : PartsViable parts rules) where
  -- ---- bodies

  statements_viable : (left : ℕ) → 1 ≤ left → Viable (classes.Blocked parts rules sound left) (statements rules left)
  unfolding statements
  statements_viable left one = braces_viable parts.IsStmt no_stmts with_stmt (rules.statement left) (λ s. s.height ≤ left) (λ s. s.height ≤ left) (omega arith) (λ s x q p. omega (arith, p, q)) (sound.statement left) (viable.statement left one)

  abbrev Bodied : ℕ → Bool → List Token → Body → Type 0
  Bodied = classes.Bodied parts rules sound

  block_viable : (left : ℕ) (constructor : Bool) (opening : Span) → 1 ≤ left → Viable (λ ts found. Bodied left constructor (sign OPEN_BRACE opening ∷ ts) found) (block rules left)
  unfolding block
  block_viable left constructor opening one = map_viable (statements rules left) (λ found. body_of found.value found.span) (classes.statements_sound parts rules sound left) (statements_viable left one) (λ found seen r.
      let (stmts, is, d) = r.0 in
      (subst (λ y. IsBody parts constructor (sign OPEN_BRACE opening ∷ y) (body_of found.value found.span)) (sym is) (grammar.block opening found.span d), r.1))

  super_goes : (left : ℕ) (opening super : Span) (args : Args) (before : List Token) → parts.IsArgs before args × (args.height ≤ left) → Goes (λ ts found. Bodied left true (sign OPEN_BRACE opening ∷ sign SUPER super ∷ (before ++ ts)) found) []
  super_goes left opening super args before a = (sign SEMICOLON here ∷ sign CLOSE_BRACE here ∷ [], body_with args no_stmts here, (grammar.with_super opening super here here a.0 no_item, omega (arith, a.1)))

  super_viable : (left : ℕ) (opening super : Span) → 1 ≤ left → Viable (λ ts found. Bodied left true (sign OPEN_BRACE opening ∷ sign SUPER super ∷ ts) found) (super_behind rules left)
  unfolding super_behind
  super_viable left opening super one = bind_viable _ _ (sound.args left) (viable.args left)
      (λ args before a. super_goes left opening super args before a)
      (λ args before a. sign_viable _ _ _ _ (λ f. absurd (cc)) (λ f end. map_viable (statements rules left) (λ found. body_with args found.value found.span) (classes.statements_sound parts rules sound left) (statements_viable left one) (λ found seen r.
      let (stmts, is, d) = r.0 in (
        subst (λ y. IsBody parts true (sign OPEN_BRACE opening ∷ sign SUPER super ∷ (before ++ sign SEMICOLON end ∷ y)) (body_with args found.value found.span)) (sym is) (grammar.with_super opening super end found.span a.0 d),
        omega (arith, a.1, r.1),
      )))
      (stop_viable (super_goes left opening super args before a)))

  body_viable : (left : ℕ) (constructor : Bool) (opening : Span) → 1 ≤ left → Viable (λ ts found. Bodied left constructor (sign OPEN_BRACE opening ∷ ts) found) (body rules left constructor)
  unfolding body
  body_viable left true opening one = sign_viable _ _ _ _ (λ f. absurd (cc)) (λ f super. super_viable left opening super one) (block_viable left true opening one)
  body_viable left false opening one = block_viable left false opening one

  -- ---- members

  abbrev Followed : ℕ → Bool → List Token → Behind → Type 0
  Followed = classes.Followed parts rules sound

  abbrev no_body : Body
  no_body = body_of no_stmts here

  abbrev braces : List Token
  braces = sign OPEN_BRACE here ∷ sign CLOSE_BRACE here ∷ []

  is_empty : (constructor : Bool) → IsBody parts constructor braces no_body
  is_empty constructor = grammar.block here here no_item

  behind_goes : (left : ℕ) (constructor : Bool) (opening : Span) (params : Params) (first second : List Token) (u : Unit {0}) → IsParams (sign OPEN_PAREN opening ∷ first) params × (params.height ≤ left - 1) → IsThrows second u
      → Goes (λ ts rest. Followed (left - 1) constructor (sign OPEN_PAREN opening ∷ (first ++ (second ++ ts))) rest) []
  behind_goes left constructor opening params first second u p t = (braces, record { params = params; body = no_body }, (grammar.behind p.0 t (is_empty constructor), (p.1, omega arith)))

  behind_viable : (left : ℕ) (constructor : Bool) (opening : Span) → 3 ≤ left → Viable (λ ts rest. Followed (left - 1) constructor (sign OPEN_PAREN opening ∷ ts) rest) (behind rules left constructor)
  unfolding behind
  behind_viable left constructor opening three = bind_viable _ _ (params_sound (left - 1) opening) (params_viable (left - 1) opening (omega (arith, three)))
      (λ params first p. behind_goes left constructor opening params first [] tt p decl.none)
      (λ params first p. bind_viable _ _ throws_sound throws_viable (λ u second t. behind_goes left constructor opening params first second u p t)
      (λ u second t. sign_viable _ _ _ _ (λ f. absurd (cc)) (λ f brace. map_viable (body rules (left - 1) constructor) (λ body. record { params = params; body = body }) (classes.body_sound parts rules sound (left - 1) constructor brace)
      (body_viable (left - 1) constructor brace (omega (arith, three))) (λ body third b. (grammar.behind p.0 t b.0, (p.1, b.1))))
      (stop_viable (behind_goes left constructor opening params first second u p t))))

  abbrev Membered : ℕ → List Token → Members → Type 0
  Membered = classes.Membered parts rules sound

  method_viable : (left : ℕ) (start : Span) (found : FoundMods) (result : Option FoundType) (constructor : Bool) (name : Ident) (front : List Token) (opening : Span)
      → 3 ≤ left → found.height ≤ left - 1 → result_height result ≤ left - 1
      → ((ts : List Token) (rest : Behind) → IsBehind parts constructor ts rest → IsMember parts (front ++ ts) (method_of start found result constructor name rest))
      → Viable (λ ts m. Membered left (front ++ sign OPEN_PAREN opening ∷ ts) m) (method rules left start found result constructor name)
  unfolding method
  method_viable left start found result constructor name front opening three hm hr makes = map_viable (behind rules left constructor) (λ rest. method_of start found result constructor name rest)
      (classes.behind_sound parts rules sound left constructor opening) (behind_viable left constructor opening three) (λ rest seen r.
      (makes (sign OPEN_PAREN opening ∷ seen) rest r.0, classes.low_method parts rules sound left found.height (result_height result) rest.params.height rest.body.height hm hr (omega (arith, three)) r.1.0 r.1.1))

  -- a field behind its type
  field_goes : (left : ℕ) (found : FoundMods) (ty : FoundType) (first second : List Token) → 3 ≤ left → IsMods member_words first found → found.height ≤ left - 1 → IsType second ty → ty.height ≤ left - 1
      → Goes (λ ts m. Membered left (first ++ (second ++ ts)) m) []
  field_goes left found ty first second three m hm t ht =
      (name_token some_name ∷ sign SEMICOLON here ∷ [], fields_of (one_decl (plain_decl (shared found ty) some_name)), (grammar.some_fields here m t (first_item (decl.plain some_name)), omega (arith, three, hm, ht)))

  typed_member_viable : (left : ℕ) (found : FoundMods) (ty : FoundType) (first second : List Token) → 3 ≤ left → IsMods member_words first found → found.height ≤ left - 1 → IsType second ty → ty.height ≤ left - 1
      → Viable (λ ts m. Membered left (first ++ (second ++ ts)) m) (typed_member rules left found ty)
  unfolding typed_member
  typed_member_viable left found ty first second three m hm t ht = name_viable _ _ _ (λ f. field_goes left found ty first second three m hm t ht) (λ f name. sign_viable _ _ _ _ (λ f. absurd (cc))
      (λ f opening. weaken_viable _ (λ ts x r. (subst (λ y. IsMember parts y x) (classes.regroup parts rules sound first second (sign OPEN_PAREN opening ∷ ts) (name_token name)) r.0, r.1))
      (method_viable left (begins found.first ty.ty.span) found (Some ty) false name (first ++ (second ++ name_token name ∷ [])) opening three hm ht
      (λ ts rest d. subst (λ y. IsMember parts y (method_of (begins found.first ty.ty.span) found (Some ty) false name rest)) (sym (classes.regroup parts rules sound first second ts (name_token name))) (grammar.method name m t d))))
      (ended_viable (decls rules.init left (shared found ty) name) SEMICOLON (λ ds end. fields_of ds) (decls_sound parts.IsInit rules.init sound.init left (shared found ty) name (omega (arith, three, hm, ht)))
      (decls_viable parts.IsInit rules.init sound.init viable.init left (shared found ty) name (omega (arith, three)) (omega (arith, three, hm, ht))) (λ ds seen d end. (grammar.some_fields end m t d.0, d.1))))
      (stop_viable (field_goes left found ty first second three m hm t ht))

  named_member_viable : (left : ℕ) (found : FoundMods) (name : Ident) (first : List Token) → 3 ≤ left → IsMods member_words first found → found.height ≤ left - 1
      → Viable (λ ts m. Membered left (first ++ name_token name ∷ ts) m) (named_member rules left found name)
  unfolding named_member
  named_member_viable left found name first three m hm = sign_viable _ _ _ _ (λ f. absurd (cc))
      (λ f opening. weaken_viable _ (λ ts x r. (subst (λ y. IsMember parts y x) (append_assoc first (name_token name ∷ []) (sign OPEN_PAREN opening ∷ ts)) r.0, r.1))
      (method_viable left (begins found.first name.span) found None true name (first ++ name_token name ∷ []) opening three hm (omega (arith, three))
      (λ ts rest d. subst (λ y. IsMember parts y (method_of (begins found.first name.span) found None true name rest)) (sym (append_assoc first (name_token name ∷ []) ts)) (grammar.constructor_of name m d))))
      (bind_viable _ _ (type_rest_sound (left - 1) (based (Named name) name.span)) (type_rest_viable (left - 1) (based (Named name) name.span))
      (λ ty seen r. field_goes left found ty first (name_token name ∷ seen) three m hm (types.type (types.named name) r.0) (omega (arith, three, r.1)))
      (λ ty seen r. typed_member_viable left found ty first (name_token name ∷ seen) three m hm (types.type (types.named name) r.0) (omega (arith, three, r.1))))

  -- a field behind modifiers
  member_goes : (left : ℕ) (found : FoundMods) (first : List Token) → 3 ≤ left → IsMods member_words first found → found.height ≤ left - 1 → Goes (λ ts m. Membered left (first ++ ts) m) []
  member_goes left found first three m hm =
      let t : IsType (sign INT here ∷ []) (types.plain_type (based Int here)) = types.type (types.int here) types.no_rest in
      let (others, made, d) = field_goes left found (types.plain_type (based Int here)) first (sign INT here ∷ []) three m hm t (omega (arith, three)) in
      (sign INT here ∷ others, made, d)

  -- a method without a result
  void_goes : (left : ℕ) (found : FoundMods) (first : List Token) (void : Span) (name : Ident) → 3 ≤ left → IsMods member_words first found → found.height ≤ left - 1
      → Goes (λ ts m. Membered left (first ++ sign VOID void ∷ name_token name ∷ ts) m) []
  void_goes left found first void name three m hm = (
    sign OPEN_PAREN here ∷ sign CLOSE_PAREN here ∷ braces,
    method_of (begins found.first void) found None false name (record { params = no_params; body = no_body }),
    (grammar.void_method void name m (grammar.behind (decl.none here here) decl.none (is_empty false)), omega (arith, three, hm)),
  )

  member_behind_viable : (left : ℕ) (found : FoundMods) (first : List Token) → 3 ≤ left → IsMods member_words first found → found.height ≤ left - 1 → Viable (λ ts m. Membered left (first ++ ts) m) (member_behind rules left found)
  unfolding member_behind
  member_behind_viable left found first three m hm = sign_viable _ _ _ _ (λ f. member_goes left found first three m hm)
      (λ f void. name_viable _ _ _ (λ f. absurd (cc)) (λ f name. sign_viable _ _ _ _ (λ f. absurd (cc))
      (λ f opening. weaken_viable _ (λ ts x r. (subst (λ y. IsMember parts y x) (classes.regroup_void parts rules sound first (sign OPEN_PAREN opening ∷ ts) (sign VOID void) (name_token name)) r.0, r.1))
      (method_viable left (begins found.first void) found None false name (first ++ sign VOID void ∷ name_token name ∷ []) opening three hm (omega arith)
      (λ ts rest d. subst (λ y. IsMember parts y (method_of (begins found.first void) found None false name rest)) (sym (classes.regroup_void parts rules sound first ts (sign VOID void) (name_token name))) (grammar.void_method void name m d))))
      (stop_viable (void_goes left found first void name three m hm)))
      (stop_viable (let (others, made, d) = void_goes left found first void some_name three m hm in (name_token some_name ∷ others, made, d))))
      (name_viable _ _ _ (λ f. member_goes left found first three m hm) (λ f name. named_member_viable left found name first three m hm)
      (bind_viable _ _ (type_sound (left - 1)) (type_viable (left - 1) (omega (arith, three))) (λ ty seen r. field_goes left found ty first seen three m hm r.0 r.1) (λ ty seen r. typed_member_viable left found ty first seen three m hm r.0 r.1)))

  pub member_viable : (left : ℕ) → 3 ≤ left → Viable (Membered left) (member rules left)
  unfolding member
  member_viable left three = bind_viable _ _ (mods_sound member_words (left - 1)) (mods_viable member_words (left - 1)) (λ found seen r. member_goes left found seen three r.0 r.1) (λ found seen r. member_behind_viable left found seen three r.0 r.1)

  -- ---- classes

  abbrev Classed : ℕ → List Token → FoundClass → Type 0
  Classed = classes.Classed parts rules sound

  -- what a class is made of, from its word
  class_made : {extended members_tokens front second third : List Token} {start : Option Span} {above : Option Ident} {members : Members} (span : Span) (name : Ident) (opening right : Span)
      → IsClassWords front start → IsParent extended above → second ≡ extended ++ sign OPEN_BRACE opening ∷ [] → IsRepeated (IsMember parts) no_members with_members members_tokens members → third ≡ members_tokens ++ sign CLOSE_BRACE right ∷ []
      → IsClass parts (front ++ sign CLASS span ∷ name_token name ∷ (second ++ third)) (class_of (begins start span) name above members right)
  class_made {extended = extended} {members_tokens = inside} {front = front} {second = second} {third = third} {start = start} {above = above} {members = members} span name opening right w q same d is =
      let ends : second ++ third ≡ extended ++ sign OPEN_BRACE opening ∷ (inside ++ sign CLOSE_BRACE right ∷ []) =
      ap (λ y. second ++ y) is ∙ ap (λ y. y ++ (inside ++ sign CLOSE_BRACE right ∷ [])) same ∙ append_assoc extended (sign OPEN_BRACE opening ∷ []) (inside ++ sign CLOSE_BRACE right ∷ []) in
      subst (λ y. IsClass parts (front ++ sign CLASS span ∷ name_token name ∷ y) (class_of (begins start span) name above members right)) (sym ends) (grammar.class span name opening right w q d)

  class_behind_goes : (left : ℕ) (start : Option Span) (span : Span) (front : List Token) → 2 ≤ left → IsClassWords front start → Goes (λ ts found. Classed left (front ++ sign CLASS span ∷ ts) found) []
  class_behind_goes left start span front two w = (name_token some_name ∷ braces, class_of (begins start span) some_name None no_members here, (grammar.class span some_name here here w grammar.none no_item, omega (arith, two)))

  class_behind_viable : (left : ℕ) (start : Option Span) (span : Span) (front : List Token) → 4 ≤ left → IsClassWords front start → Viable (λ ts found. Classed left (front ++ sign CLASS span ∷ ts) found) (class_behind rules left (begins start span))
  unfolding class_behind
  class_behind_viable left start span front four w = name_viable _ _ _ (λ f. absurd (cc)) (λ f name. bind_viable _ _ parent_sound parent_viable
      (λ above second p. let (extended, opening, same, q) = p in
      (sign CLOSE_BRACE here ∷ [], class_of (begins start span) name above no_members here, (class_made span name opening here w q same no_item refl, omega (arith, four))))
      (λ above second p. map_viable (braces_of (member rules (left - 1)) with_members no_members) (λ found. class_of (begins start span) name above found.value found.span)
      (braces_fits (IsMember parts) no_members with_members (member rules (left - 1)) (λ s. s.height ≤ left - 1) (λ s. s.height ≤ left - 1) (omega arith) (λ s x q p. omega (arith, p, q)) (classes.member_sound parts rules sound (left - 1)))
      (braces_viable (IsMember parts) no_members with_members (member rules (left - 1)) (λ s. s.height ≤ left - 1) (λ s. s.height ≤ left - 1) (omega arith) (λ s x q p. omega (arith, p, q)) (classes.member_sound parts rules sound (left - 1))
      (member_viable (left - 1) (omega (arith, four))))
      (λ found third r.
      let (extended, opening, same, q) = p in
      let (members, is, d) = r.0 in
      (class_made span name opening found.span w q same d is, omega (arith, four, r.1)))))
      (stop_viable (class_behind_goes left start span front (omega (arith, four)) w))

  worded_class_viable : (left : ℕ) (first : Span) (token : Token) → 4 ≤ left → IsClassWord (token ∷ []) first → Viable (λ ts found. Classed left (token ∷ ts) found) (worded_class rules left first)
  unfolding worded_class
  worded_class_viable left first token four w = bind_viable _ _ (class_words_sound (Some first) (token ∷ []) (one_more no_item w)) (class_words_viable (Some first) (token ∷ []) (one_more no_item w))
      (λ start seen d. class_goes start seen d)
      (λ start seen d. sign_viable _ _ _ _ (λ f. absurd (cc)) (λ f span. class_behind_viable left start span (token ∷ seen) four d) (stop_viable (class_goes start seen d)))
    where
      class_goes : (start : Option Span) (seen : List Token) → IsClassWords (token ∷ seen) start → Goes (λ ts found. Classed left (token ∷ (seen ++ ts)) found) []
      class_goes start seen d = let (others, found, r) = class_behind_goes left start here (token ∷ seen) (omega (arith, four)) d in (sign CLASS here ∷ others, found, r)

  abbrev ClassedAll : ℕ → List Token → Classes → Type 0
  ClassedAll = classes.ClassedAll parts rules sound

  another : (left : ℕ) (before : Classes) (front : List Token) (token : Token) (rule : Rule FoundClass) → ClassedAll left front before → Sound (λ ts found. Classed left (token ∷ ts) found) rule → Viable (λ ts found. Classed left (token ∷ ts) found) rule
      → Viable (λ ts r. After (ClassedAll left) (ClassedAll left) front (token ∷ ts) r) (bind rule (λ found. pure (On (with_class before found))))
  another left before front token rule d s v = map_viable rule (λ found. On (with_class before found)) s v (λ found seen r. (one_more d.0 r.0, omega (arith, d.1, r.1)))

  next_class_viable : (left : ℕ) (found : Classes) (front : List Token) → 4 ≤ left → ClassedAll left front found → Viable (After (ClassedAll left) (ClassedAll left) front) (next_class rules left found)
  unfolding next_class
  next_class_viable left found front four d =
      let two : 2 ≤ left = omega (arith, four) in
      let end : Goes (After (ClassedAll left) (ClassedAll left) front) [] = ([], Done found, subst (λ y. ClassedAll left y found) (sym (append-nil front)) d) in
      sign_viable _ _ _ _ (λ f. end) (λ f span. another left found front (sign PUBLIC span) _ d (classes.worded_class_sound parts rules sound left span _ two (grammar.public span)) (worded_class_viable left span _ four (grammar.public span)))
      (sign_viable _ _ _ _ (λ f. end) (λ f span. another left found front (sign FINAL span) _ d (classes.worded_class_sound parts rules sound left span _ two (grammar.final span)) (worded_class_viable left span _ four (grammar.final span)))
      (sign_viable _ _ _ _ (λ f. end) (λ f span. another left found front (sign CLASS span) _ d (classes.class_behind_sound parts rules sound left None span [] two no_item) (class_behind_viable left None span [] four no_item))
      (pure_viable _)))

  -- ---- whole sources

  pub program_viable : (left : ℕ) → 5 ≤ left → Viable (λ ts found. IsProgram parts ts found × (found.height ≤ left)) (program rules left)
  unfolding program
  program_viable left five = bind_viable _ _ package_sound package_viable (λ u first p. ([], unit_of no_classes, (grammar.program p no_item no_item, omega (arith, five))))
      (λ u first p. bind_viable _ _ imports_sound imports_viable (λ v second i. ([], unit_of no_classes, (grammar.program p i no_item, omega (arith, five))))
      (λ v second i. map_viable (loop (next_class rules (left - 1)) no_classes) unit_of
      (loop_sound (next_class rules (left - 1)) (ClassedAll (left - 1)) (ClassedAll (left - 1)) (classes.next_class_sound parts rules sound (left - 1)) no_classes [] (no_item, omega arith))
      (loop_viable (next_class rules (left - 1)) (ClassedAll (left - 1)) (ClassedAll (left - 1)) (classes.next_class_sound parts rules sound (left - 1)) (λ s ts r. next_class_viable (left - 1) s ts (omega (arith, five)) r)
      (λ s ts r. done_goes (ClassedAll (left - 1)) ts s r) no_classes [] (no_item, omega arith))
      (λ found third r. (grammar.program p i r.0, omega (arith, r.1, five)))))
