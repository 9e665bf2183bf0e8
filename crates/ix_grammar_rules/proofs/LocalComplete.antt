-- Declarations of locals are read.
use Rattle.std.proofs.Common.{◌≡◌, ℕ, ◌+◌, ◌-◌, ◌≤◌, max, nat_le, Bool, true, false, List, ◌∷◌, ◌++◌, length, Ok, Err, refl, sym, ap, subst, ◌∙◌, arith, length-append, ◌⊎◌, inl, inr}
use Rattle.std.proofs.lemmas.Bool.{le-leb, leb-true}
use Rattle.ix_text.specs.declared.span.Span.{Span}
use Rattle.ix_lexer.specs.declared.token.Token.{Token}
use Rattle.ix_lexer.specs.declared.fixed.TheConstants.{DOT, OPEN_BRACKET, CLOSE_BRACKET, AT, FINAL, INT, BOOLEAN, SEMICOLON, COMMA}
use Rattle.ix_tree.specs.declared.annot.Annot.{Annot}
use Rattle.ix_tree.specs.declared.annot.Ident.{Ident}
use Rattle.ix_tree.specs.declared.annot.BaseTree.{BaseTree}
use Rattle.ix_tree.specs.declared.annot.BaseTree.TheVariants.{Int, Boolean, Named}
use Rattle.ix_grammar_rules.specs.declared.stop.Stop.{Stop}
use Rattle.ix_grammar_rules.specs.declared.stop.Stop.TheVariants.{Syntax, TooDeep}
use Rattle.ix_grammar.specs.declared.declarations.FoundMods.{FoundMods}
use Rattle.ix_grammar.specs.declared.declarations.Word.TheVariants.{Final}
use Rattle.ix_grammar.specs.declared.found.At.{At}
use Rattle.ix_grammar.specs.declared.found.FoundDecls.{FoundDecls}
use Rattle.ix_grammar.specs.declared.found.FoundInit.{FoundInit}
use Rattle.ix_grammar.specs.declared.found.FoundType.{FoundType}
use Rattle.ix_grammar_rules.specs.declared.begun.Begun.TheVariants.{Local}
use Rattle.ix_grammar_rules.specs.Rule.{loop, On, look, run, Outcome, Parser, and_then}
use Rattle.ix_grammar.specs.Patterns.{sign, name_token, a_sign}
use Rattle.ix_grammar.specs.AnnotGrammar.{no_notes}
use Rattle.ix_grammar_rules.specs.AnnotRules.{annot_behind}
use Rattle.ix_grammar.specs.TypeGrammar as types
use Rattle.ix_grammar.specs.TypeGrammar.{based, array_of, plain_type, IsType}
use Rattle.ix_grammar_rules.specs.TypeRules.{pairs, brackets, noted_array, type_rest, type_tree}
use Rattle.ix_grammar.specs.DeclGrammar.{no_mods, with_word, with_annot, local_words, shared, IsDecls}
use Rattle.ix_grammar_rules.specs.DeclRules.{next_mod, mods, decls}
use Rattle.ix_grammar_rules.specs.ExprRules.{init}
use Rattle.ix_grammar.specs.ExprGrammar.{IsInit}
use Rattle.ix_grammar.specs.StmtGrammar.{SYSTEM, same_text}
use Rattle.ix_grammar_rules.specs.StmtRules.{declared, named_type, typed, modified, local_or, named_first, system_part, print_or, begun}
use Rattle.ix_grammar_rules.proofs.Runs.{loop_on, loop_stops, front, same_ok}
use Rattle.ix_grammar_rules.proofs.TypeComplete.{rest_reads, rest_starts, type_reads, over_base}
use Rattle.ix_grammar_rules.proofs.DeclComplete.{Parted, Headed, decls_headed, headed_reads, tall_decls}
use Rattle.ix_grammar_rules.proofs.Follows.{Free, after_comma, after_semicolon}
use Rattle.ix_grammar_rules.proofs.ExprComplete.{complete_init}
use Rattle.ix_grammar_rules.proofs.BegunComplete.{seen_sign}

init_parted : (ts : List Token) (found : FoundInit) → IsInit ts found → (room : ℕ) → found.height ≤ room → (us : List Token) → Parted us → run (init room) (ts ++ us) ≡ Ok (found, us)
init_parted ts found d room le _ (Parted.comma s us) = complete_init d room (sign COMMA s ∷ us) le (after_comma s us)
init_parted ts found d room le _ (Parted.semicolon s us) = complete_init d room (sign SEMICOLON s ∷ us) le (after_semicolon s us)

module _ (left : ℕ) (mods_found : FoundMods) (ty : FoundType) (third : List Token) (found : FoundDecls) (d : IsDecls IsInit (shared mods_found ty) third found) (low : found.height + 1 ≤ left) (end : Span) (us : List Token) where
  abbrev Rest : List Token
  Rest = sign SEMICOLON end ∷ us

  head : Headed third Rest
  head = decls_headed IsInit init init_parted (left - 1) (shared mods_found ty) third found d Rest (Parted.semicolon end us)

  declared_from : (x : Ident) (ts vs : List Token) → run (decls init (left - 1) (shared mods_found ty) x) ts ≡ Ok (found, vs) → run (declared left mods_found ty x) ts ≡ Ok (Local mods_found ty found, vs)
  unfolding declared run
  declared_from x ts vs h = rw h refl

  declared_reads : run (declared left mods_found ty head.name) (head.later ++ Rest) ≡ Ok (Local mods_found ty found, Rest)
  declared_reads = declared_from head.name (head.later ++ Rest) Rest (headed_reads IsInit init init_parted (left - 1) (shared mods_found ty) third found d (omega (arith, low)) end us head)

  named_type_from : (x : Ident) (ts : List Token) → run (named_type left mods_found ty) (name_token x ∷ ts) ≡ run (declared left mods_found ty x) ts
  unfolding named_type run
  named_type_from x ts = refl

  -- behind the type
  named_type_reads : run (named_type left mods_found ty) (third ++ Rest) ≡ Ok (Local mods_found ty found, Rest)
  named_type_reads = ap (λ y. run (named_type left mods_found ty) (y ++ Rest)) head.is ∙ named_type_from head.name (head.later ++ Rest) ∙ declared_reads

  pub third_starts : (n : ℕ) → Free n (third ++ Rest)
  third_starts n = ap (λ y. look (a_sign n) (y ++ Rest)) head.is

  pub types_low : (1 + max (max mods_found.height ty.height) 1) ≤ found.height
  types_low = tall_decls IsInit init init_parted (left - 1) (shared mods_found ty) third found d

  typed_from : (ts vs : List Token) → run (type_tree (left - 2)) ts ≡ Ok (ty, vs) → run (named_type left mods_found ty) vs ≡ Ok (Local mods_found ty found, Rest) → run (typed left mods_found) ts ≡ Ok (Local mods_found ty found, Rest)
  unfolding typed run
  typed_from ts vs h e = rw h e

  pub typed_reads : (second : List Token) → IsType second ty → run (typed left mods_found) (second ++ (third ++ Rest)) ≡ Ok (Local mods_found ty found, Rest)
  typed_reads second t = typed_from (second ++ (third ++ Rest)) (third ++ Rest) (type_reads (left - 2) second ty t (omega (arith, low, types_low)) (third ++ Rest) (third_starts OPEN_BRACKET) (third_starts AT)) named_type_reads

  -- ---- modifiers

  modified_from : (start : FoundMods) (ts vs : List Token) → run (loop (next_mod local_words (left - 2)) start) ts ≡ Ok (mods_found, vs) → run (typed left mods_found) vs ≡ Ok (Local mods_found ty found, Rest) → run (modified left start) ts ≡ Ok (Local mods_found ty found, Rest)
  unfolding modified run
  modified_from start ts vs h e = rw h e

  final_begun : (prints : Bool) (s : Span) (ts : List Token) → run (begun prints true left) (sign FINAL s ∷ ts) ≡ run (modified left (with_word no_mods Final s)) ts
  unfolding begun local_or run
  final_begun prints s ts = rw (le-leb 3 left (omega (arith, low, types_low))) refl

  final_mod : (s : Span) (ts : List Token) → run (next_mod local_words (left - 2) no_mods) (sign FINAL s ∷ ts) ≡ Ok (On (with_word no_mods Final s), ts)
  unfolding next_mod run
  final_mod s ts = rw (le-leb 1 (left - 2) (omega (arith, low, types_low))) refl

  loop_final : (s : Span) (ts : List Token) → run (mods local_words (left - 2)) (sign FINAL s ∷ ts) ≡ run (loop (next_mod local_words (left - 2)) (with_word no_mods Final s)) ts
  unfolding mods
  loop_final s ts = loop_on (next_mod local_words (left - 2)) no_mods (with_word no_mods Final s) (sign FINAL s ∷ ts) ts (final_mod s ts) (omega arith)

  at_begun : (prints : Bool) (at : Span) (ts : List Token) → 4 ≤ left → run (begun prints true left) (sign AT at ∷ ts) ≡ and_then (run (annot_behind (left - 2) at) ts) (λ n. run (modified left (with_annot no_mods n)))
  unfolding begun local_or run
  at_begun prints at ts four = rw (le-leb 4 left four) refl

  at_mod : (at : Span) (ts : List Token) → 2 ≤ left - 2 → run (next_mod local_words (left - 2) no_mods) (sign AT at ∷ ts) ≡ and_then (run (annot_behind (left - 2) at) ts) (λ n us. Ok (On (with_annot no_mods n), us))
  unfolding next_mod run
  at_mod at ts two = rw (le-leb 2 (left - 2) two) refl

  at_high : (at : Span) (ts : List Token) → nat_le 2 (left - 2) ≡ false → run (next_mod local_words (left - 2) no_mods) (sign AT at ∷ ts) ≡ Err (TooDeep, sign AT at ∷ ts)
  unfolding next_mod run
  at_high at ts h = rw h refl

  abbrev Mods : List Token → List Token → Type 0
  Mods ts us = run (mods local_words (left - 2)) ts ≡ Ok (mods_found, us)

  err_mods : (o : Outcome FoundMods) (w : Stop × List Token) (vs : List Token) → o ≡ Err w → o ≡ Ok (mods_found, vs) → ⊥
  err_mods o w vs a b = cc

  loop_err : (ts : List Token) (w : Stop) (vs : List Token) → run (next_mod local_words (left - 2) no_mods) ts ≡ Err (w, vs) → run (mods local_words (left - 2)) ts ≡ Err (w, vs)
  unfolding mods
  loop_err ts w vs h = loop_stops (next_mod local_words (left - 2)) no_mods ts vs w h

  loop_annot : (at : Span) (ts vs : List Token) (n : Annot) → 2 ≤ left - 2 → run (annot_behind (left - 2) at) ts ≡ Ok (n, vs) → run (mods local_words (left - 2)) (sign AT at ∷ ts) ≡ run (loop (next_mod local_words (left - 2)) (with_annot no_mods n)) vs
  unfolding mods
  loop_annot at ts vs n two h =
      let seen = front (annot_behind (left - 2) at) ts vs n h in
      loop_on (next_mod local_words (left - 2)) no_mods (with_annot no_mods n) (sign AT at ∷ ts) vs (at_mod at ts two ∙ ap (λ o. and_then o (λ n us. Ok (On (with_annot no_mods n), us))) h) (omega (arith, ap length seen.1, length-append seen.0 vs))

  annot_begun : (prints : Bool) (at : Span) (ts vs : List Token) → Mods (sign AT at ∷ ts) vs → run (typed left mods_found) vs ≡ Ok (Local mods_found ty found, Rest) → 2 ≤ left - 2 → (o : Outcome Annot) → run (annot_behind (left - 2) at) ts ≡ o
      → run (begun prints true left) (sign AT at ∷ ts) ≡ Ok (Local mods_found ty found, Rest)
  annot_begun prints at ts vs m t two (Ok (n, us)) h =
      at_begun prints at ts (omega (arith, two)) ∙ ap (λ o. and_then o (λ n. run (modified left (with_annot no_mods n)))) h ∙ modified_from (with_annot no_mods n) us vs (sym (loop_annot at ts us n two h) ∙ m) t
  annot_begun prints at ts vs m t two (Err (w, us)) h =
      absurd (err_mods (run (mods local_words (left - 2)) (sign AT at ∷ ts)) (w, us) vs (loop_err (sign AT at ∷ ts) w us (at_mod at ts two ∙ ap (λ o. and_then o (λ n us. Ok (On (with_annot no_mods n), us))) h)) m)

  mods_begun_at : (prints : Bool) (at : Span) (ts vs : List Token) → Mods (sign AT at ∷ ts) vs → run (typed left mods_found) vs ≡ Ok (Local mods_found ty found, Rest) → (b : Bool) → nat_le 2 (left - 2) ≡ b → run (begun prints true left) (sign AT at ∷ ts) ≡ Ok (Local mods_found ty found, Rest)
  mods_begun_at prints at ts vs m t true e = annot_begun prints at ts vs m t (leb-true 2 (left - 2) e) (run (annot_behind (left - 2) at) ts) refl
  mods_begun_at prints at ts vs m t false e = absurd (err_mods (run (mods local_words (left - 2)) (sign AT at ∷ ts)) (TooDeep, sign AT at ∷ ts) vs (loop_err (sign AT at ∷ ts) TooDeep (sign AT at ∷ ts) (at_high at ts e)) m)

  -- with modifiers
  pub mods_begun : (prints : Bool) (ts vs : List Token) → Mods ts vs → run (typed left mods_found) vs ≡ Ok (Local mods_found ty found, Rest) → ((s : Span) × (us : List Token) × (ts ≡ sign FINAL s ∷ us)) ⊎ ((s : Span) × (us : List Token) × (ts ≡ sign AT s ∷ us))
      → run (begun prints true left) ts ≡ Ok (Local mods_found ty found, Rest)
  mods_begun prints ts vs m t (inl (s, us, is)) = subst (λ y. run (begun prints true left) y ≡ Ok (Local mods_found ty found, Rest)) (sym is)
      (final_begun prints s us ∙ modified_from (with_word no_mods Final s) us vs (sym (loop_final s us) ∙ subst (λ y. run (mods local_words (left - 2)) y ≡ Ok (mods_found, vs)) is m) t)
  mods_begun prints ts vs m t (inr (s, us, is)) = subst (λ y. run (begun prints true left) y ≡ Ok (Local mods_found ty found, Rest)) (sym is)
      (mods_begun_at prints s us vs (subst (λ y. run (mods local_words (left - 2)) y ≡ Ok (mods_found, vs)) is m) t (nat_le 2 (left - 2)) refl)

-- ---- without modifiers

then_map : {A B C : Type 0} (o : Outcome A) (g : A → B) (k : B → Parser C) (t : B) (z : List Token) → and_then o (λ f us. Ok (g f, us)) ≡ Ok (t, z) → and_then o (λ f us. k (g f) us) ≡ k t z
then_map {B = B} (Ok (f, us)) g k t z h = let q = same_ok (g f, us) (t, z) h in rw (ap (λ (p : B × List Token). p.0) q, ap (λ (p : B × List Token). p.1) q) refl
then_map (Err w) g k t z h = absurd (cc)

err_type : (o : Outcome FoundType) (w : Stop × List Token) (t : FoundType) (z : List Token) → o ≡ Err w → o ≡ Ok (t, z) → ⊥
err_type o w t z a b = cc

module _ (left : ℕ) (x : Ident) (ty : FoundType) (rest : List Token) (four : 4 ≤ left) where
  abbrev Base : At BaseTree
  Base = based (Named x) x.span

  bracket_type : (o : Span) (ts : List Token) → run (type_rest (left - 2) Base) (sign OPEN_BRACKET o ∷ ts) ≡ run (brackets Base no_notes) ts
  unfolding type_rest run
  bracket_type o ts = rw (le-leb (1 + 1) (left - 2) (omega (arith, four))) refl

  close_type : (r : Span) (ts : List Token) → run (brackets Base no_notes) (sign CLOSE_BRACKET r ∷ ts) ≡ and_then (run (pairs 1 r) ts) (λ p us. Ok (array_of Base no_notes p, us))
  unfolding brackets run
  close_type r ts = refl

  open_type : (ts : List Token) → Free CLOSE_BRACKET ts → run (brackets Base no_notes) ts ≡ Err (Syntax, ts)
  unfolding brackets run
  open_type ts h = rw h refl

  pair_first : (o r : Span) (ts : List Token) → run (named_first true left x) (sign OPEN_BRACKET o ∷ sign CLOSE_BRACKET r ∷ ts) ≡ and_then (run (pairs 1 r) ts) (λ p. run (named_type left no_mods (array_of Base no_notes p)))
  unfolding named_first run
  pair_first o r ts = rw (le-leb 4 left four) refl

  at_type : (at : Span) (ts : List Token) → nat_le 3 (left - 2) ≡ true → run (type_rest (left - 2) Base) (sign AT at ∷ ts) ≡ run (noted_array (left - 2) Base at) ts
  unfolding type_rest run
  at_type at ts h = rw h refl

  at_too_high : (at : Span) (ts : List Token) → nat_le 3 (left - 2) ≡ false → run (type_rest (left - 2) Base) (sign AT at ∷ ts) ≡ Err (TooDeep, sign AT at ∷ ts)
  unfolding type_rest run
  at_too_high at ts h = rw h refl

  at_first : (at : Span) (ts us : List Token) → 5 ≤ left → run (noted_array (left - 2) Base at) ts ≡ Ok (ty, us) → run (named_first true left x) (sign AT at ∷ ts) ≡ run (named_type left no_mods ty) us
  unfolding named_first run
  at_first at ts us five h = rw (le-leb 5 left five, h) refl

  plain_type_is : (ts : List Token) → Free OPEN_BRACKET ts → Free AT ts → run (type_rest (left - 2) Base) ts ≡ Ok (plain_type Base, ts)
  unfolding type_rest run
  plain_type_is ts o a = rw (o, a) refl

  name_first : (y : Ident) (ts : List Token) → run (named_first true left x) (name_token y ∷ ts) ≡ run (named_type left no_mods (plain_type Base)) (name_token y ∷ ts)
  unfolding named_first named_type run
  name_first y ts = rw (le-leb 4 left four) refl

  bracket_case : (o : Span) (ts : List Token) → run (type_rest (left - 2) Base) (sign OPEN_BRACKET o ∷ ts) ≡ Ok (ty, rest) → Free CLOSE_BRACKET ts ⊎ ((s : Span) × (us : List Token) × (ts ≡ sign CLOSE_BRACKET s ∷ us)) → run (named_first true left x) (sign OPEN_BRACKET o ∷ ts) ≡ run (named_type left no_mods ty) rest
  bracket_case o ts h (inl n) = absurd (err_type (run (type_rest (left - 2) Base) (sign OPEN_BRACKET o ∷ ts)) (Syntax, ts) ty rest (bracket_type o ts ∙ open_type ts n) h)
  bracket_case o ts h (inr (r, us, is)) =
      let m : and_then (run (pairs 1 r) us) (λ p vs. Ok (array_of Base no_notes p, vs)) ≡ Ok (ty, rest) = sym (bracket_type o (sign CLOSE_BRACKET r ∷ us) ∙ close_type r us) ∙ subst (λ y. run (type_rest (left - 2) Base) (sign OPEN_BRACKET o ∷ y) ≡ Ok (ty, rest)) is h in
      subst (λ y. run (named_first true left x) (sign OPEN_BRACKET o ∷ y) ≡ run (named_type left no_mods ty) rest) (sym is)
      (pair_first o r us ∙ then_map (run (pairs 1 r) us) (array_of Base no_notes) (λ t. run (named_type left no_mods t)) ty rest m)

  at_case : (at : Span) (ts : List Token) → run (type_rest (left - 2) Base) (sign AT at ∷ ts) ≡ Ok (ty, rest) → (b : Bool) → nat_le 3 (left - 2) ≡ b → run (named_first true left x) (sign AT at ∷ ts) ≡ run (named_type left no_mods ty) rest
  at_case at ts h true e = let low : 3 ≤ left - 2 = leb-true 3 (left - 2) e in at_first at ts rest (omega (arith, low)) (sym (at_type at ts e) ∙ h)
  at_case at ts h false e = absurd (err_type (run (type_rest (left - 2) Base) (sign AT at ∷ ts)) (TooDeep, sign AT at ∷ ts) ty rest (at_too_high at ts e) h)

  plain_case : (ts : List Token) → run (type_rest (left - 2) Base) ts ≡ Ok (ty, rest) → Free OPEN_BRACKET ts → Free AT ts → (y : Ident) (us : List Token) → rest ≡ name_token y ∷ us → run (named_first true left x) ts ≡ run (named_type left no_mods ty) rest
  plain_case ts h o a y us is =
      let q = same_ok (plain_type Base, ts) (ty, rest) (sym (plain_type_is ts o a) ∙ h) in
      let t : plain_type Base ≡ ty = ap (λ (p : FoundType × List Token). p.0) q in
      let r : ts ≡ name_token y ∷ us = ap (λ (p : FoundType × List Token). p.1) q ∙ is in
      subst (λ w. run (named_first true left x) w ≡ run (named_type left no_mods ty) rest) (sym r) (name_first y us ∙ subst (λ w. run (named_type left no_mods w) (name_token y ∷ us) ≡ run (named_type left no_mods ty) (name_token y ∷ us)) (sym t) refl ∙ ap (run (named_type left no_mods ty)) (sym is))

  type_case : (ts : List Token) → run (type_rest (left - 2) Base) ts ≡ Ok (ty, rest) → (y : Ident) (us : List Token) → rest ≡ name_token y ∷ us → Free OPEN_BRACKET ts ⊎ ((s : Span) × (us : List Token) × (ts ≡ sign OPEN_BRACKET s ∷ us))
      → Free AT ts ⊎ ((s : Span) × (us : List Token) × (ts ≡ sign AT s ∷ us)) → run (named_first true left x) ts ≡ run (named_type left no_mods ty) rest
  type_case ts h y us is (inr (o, vs, e)) a = subst (λ w. run (named_first true left x) w ≡ run (named_type left no_mods ty) rest) (sym e) (bracket_case o vs (subst (λ w. run (type_rest (left - 2) Base) w ≡ Ok (ty, rest)) e h) (seen_sign CLOSE_BRACKET vs))
  type_case ts h y us is (inl o) (inr (s, vs, e)) = subst (λ w. run (named_first true left x) w ≡ run (named_type left no_mods ty) rest) (sym e) (at_case s vs (subst (λ w. run (type_rest (left - 2) Base) w ≡ Ok (ty, rest)) e h) (nat_le 3 (left - 2)) refl)
  type_case ts h y us is (inl o) (inl a) = plain_case ts h o a y us is

  -- Behind a name that begins a type, what is read is what follows the type.
  pub named_local : (ts : List Token) → run (type_rest (left - 2) Base) ts ≡ Ok (ty, rest) → (y : Ident) (us : List Token) → rest ≡ name_token y ∷ us → run (named_first true left x) ts ≡ run (named_type left no_mods ty) rest
  named_local ts h y us is = type_case ts h y us is (seen_sign OPEN_BRACKET ts) (seen_sign AT ts)

  name_begun : (prints : Bool) (ts : List Token) → Free DOT ts → (b : Bool) → same_text x.text SYSTEM ≡ b → run (begun prints true left) (name_token x ∷ ts) ≡ run (named_first true left x) ts
  unfolding begun local_or print_or system_part run
  name_begun true ts d true e = rw (e, le-leb 2 left (omega (arith, four)), d) refl
  name_begun true ts d false e = rw (e, le-leb 3 left (omega (arith, four))) refl
  name_begun false ts d b e = rw (le-leb 3 left (omega (arith, four))) refl

int_begun : (prints : Bool) (left : ℕ) (s : Span) (ts : List Token) → 3 ≤ left → run (begun prints true left) (sign INT s ∷ ts) ≡ and_then (run (type_rest (left - 2) (based Int s)) ts) (λ ty. run (named_type left no_mods ty))
unfolding begun local_or run
int_begun prints left s ts three = rw (le-leb 3 left three) refl

boolean_begun : (prints : Bool) (left : ℕ) (s : Span) (ts : List Token) → 3 ≤ left → run (begun prints true left) (sign BOOLEAN s ∷ ts) ≡ and_then (run (type_rest (left - 2) (based Boolean s)) ts) (λ ty. run (named_type left no_mods ty))
unfolding begun local_or run
boolean_begun prints left s ts three = rw (le-leb 3 left three) refl

module _ (prints : Bool) (left : ℕ) (ty : FoundType) (third : List Token) (found : FoundDecls) (d : IsDecls IsInit (shared no_mods ty) third found) (low : found.height + 1 ≤ left) (end : Span) (us : List Token) where
  abbrev Behind : List Token
  Behind = third ++ sign SEMICOLON end ∷ us

  named_reads : run (named_type left no_mods ty) Behind ≡ Ok (Local no_mods ty found, sign SEMICOLON end ∷ us)
  named_reads = named_type_reads left no_mods ty third found d low end us

  room : 1 + max (max 0 ty.height) 1 ≤ found.height
  room = types_low left no_mods ty third found d low end us

  begins : (n : ℕ) → Free n Behind
  begins n = third_starts left no_mods ty third found d low end us n

  pub type_begun : (second : List Token) → IsType second ty → run (begun prints true left) (second ++ Behind) ≡ Ok (Local no_mods ty found, sign SEMICOLON end ∷ us)
  type_begun _ (types.type {tokens} (types.int s) r) =
      int_begun prints left s (tokens ++ Behind) (omega (arith, low, room)) ∙ ap (λ o. and_then o (λ ty. run (named_type left no_mods ty))) (rest_reads (left - 2) (based Int s) tokens ty r (omega (arith, low, room)) Behind (begins OPEN_BRACKET) (begins AT)) ∙ named_reads
  type_begun _ (types.type {tokens} (types.boolean s) r) =
      boolean_begun prints left s (tokens ++ Behind) (omega (arith, low, room)) ∙ ap (λ o. and_then o (λ ty. run (named_type left no_mods ty))) (rest_reads (left - 2) (based Boolean s) tokens ty r (omega (arith, low, room)) Behind (begins OPEN_BRACKET) (begins AT)) ∙ named_reads
  type_begun _ (types.type {tokens} (types.named x) r) =
      let h = head left no_mods ty third found d low end us in
      let tall = over_base (based (Named x) x.span) tokens ty r in
      let four : 4 ≤ left = omega (arith, low, room, tall) in
      name_begun left x ty Behind four prints (tokens ++ Behind) (rest_starts DOT refl refl (based (Named x) x.span) tokens ty r Behind (begins DOT)) (same_text x.text SYSTEM) refl
      ∙ named_local left x ty Behind four (tokens ++ Behind) (rest_reads (left - 2) (based (Named x) x.span) tokens ty r (omega (arith, low, room)) Behind (begins OPEN_BRACKET) (begins AT)) h.name (h.later ++ sign SEMICOLON end ∷ us) (ap (λ y. y ++ sign SEMICOLON end ∷ us) h.is)
      ∙ named_reads
