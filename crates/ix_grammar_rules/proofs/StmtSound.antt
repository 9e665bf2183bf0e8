-- What the rules of statements read is in the grammar.
use Rattle.std.proofs.Common.{◌≡◌, ℕ, ◌+◌, ◌-◌, ◌≤◌, ◌==◌, nat_le, ◌&&◌, Bool, true, false, List, [], ◌∷◌, ◌++◌, Option, Some, None, Ok, Err, refl, sym, ap, subst, ◌∙◌, append_assoc, arith, inl, inr}
use Rattle.std.proofs.lemmas.Bool.{leb-true, eqb-true, le-leb}
use Rattle.std.proofs.lemmas.List.{append-nil}
use Rattle.ix_text.specs.declared.span.Span.{Span}
use Rattle.ix_lexer.specs.declared.token.Token.{Token}
use Rattle.ix_lexer.specs.declared.token.TokenKind.{TokenKind}
use Rattle.ix_lexer.specs.declared.token.TokenKind.TheVariants as k
use Rattle.ix_lexer.specs.declared.fixed.TheConstants.{ELSE, FINAL, INT, BOOLEAN, AT, DOT, OPEN_PAREN, OPEN_BRACKET, CLOSE_BRACKET}
use Rattle.ix_tree.specs.declared.annot.Ident.{Ident}
use Rattle.ix_tree.specs.declared.annot.BaseTree.{BaseTree}
use Rattle.ix_tree.specs.declared.annot.BaseTree.TheVariants.{Int, Boolean, Named}
use Rattle.ix_grammar.specs.declared.declarations.FoundMods.{FoundMods}
use Rattle.ix_grammar.specs.declared.declarations.Word.TheVariants.{Final}
use Rattle.ix_lexer.proofs.Scans.{chosen}
use Rattle.ix_grammar_rules.specs.declared.aims.Aim.TheVariants.{Statement}
use Rattle.ix_grammar.specs.declared.found.At.{At}
use Rattle.ix_grammar.specs.declared.found.Found.{Found}
use Rattle.ix_grammar.specs.declared.found.FoundStmt.{FoundStmt}
use Rattle.ix_grammar.specs.declared.found.FoundType.{FoundType}
use Rattle.ix_grammar_rules.specs.declared.begun.Begun.{Begun}
use Rattle.ix_grammar_rules.specs.declared.begun.Begun.TheVariants.{Local, Run, Print}
use Rattle.ix_grammar_rules.specs.Rule.{Rule, pure, take, bind, stop, Turn, On, Done, look, taken, run, Outcome}
use Rattle.ix_grammar_rules.specs.declared.stop.Stop.TheVariants.{TooDeep}
use Rattle.ix_grammar.specs.Patterns.{sign, name_token, a_sign}
use Rattle.ix_grammar.specs.Lists.{no_item}
use Rattle.ix_grammar.specs.AnnotGrammar.{no_notes}
use Rattle.ix_grammar.specs.TypeGrammar as types
use Rattle.ix_grammar.specs.TypeGrammar.{based, array_of, plain_type, IsType}
use Rattle.ix_grammar_rules.specs.TypeRules.{type_rest}
use Rattle.ix_grammar.specs.DeclGrammar as decl
use Rattle.ix_grammar.specs.DeclGrammar.{no_mods, with_word, with_annot, local_words, shared, IsMods}
use Rattle.ix_grammar_rules.specs.DeclRules.{next_mod}
use Rattle.ix_grammar.specs.ExprNodes.{named, selected, element}
use Rattle.ix_grammar_rules.specs.ExprRules.{below, further, init}
use Rattle.ix_grammar.specs.ExprGrammar as e
use Rattle.ix_grammar.specs.ExprGrammar.{Primary, Whole, IsExpr, IsInit, IsStatementExpr}
use Rattle.ix_grammar.specs.StmtGrammar as g
use Rattle.ix_grammar.specs.StmtGrammar.{SYSTEM, OUT, PRINTLN, same_text, is_word, is_sign, begins_print, word_token, IsLocal}
use Rattle.ix_grammar_rules.specs.StmtRules.{word_of, a_word, declared, named_type, typed, modified, local_or, chain, go_on, field, run_named, guarded, indexed, named_first, println_part, out_part, system_part, print_or, begun}
use Rattle.ix_grammar_rules.proofs.Runs.{same_ok, bind_ok}
use Rattle.ix_grammar_rules.proofs.SoundRules.{Sound, After, weaken, pure_sound, stop_sound, bind_sound, sign_sound, name_sound, take_sound, map_sound, loop_sound, sign_is}
use Rattle.ix_grammar_rules.proofs.ListsSound.{sign_fits, name_fits}
use Rattle.ix_grammar_rules.proofs.AnnotSound.{annot_behind_sound}
use Rattle.ix_grammar_rules.proofs.TypeSound.{pairs_sound, noted_array_sound, rest_fits, type_sound}
use Rattle.ix_grammar_rules.proofs.DeclSound.{Modified, next_mod_sound, decls_sound}
use Rattle.ix_grammar_rules.proofs.ExprSound.{inner_sound, sound_below, further_sound, field_or_call_sound, name_or_call_sound, to_statement_sound, expr_sound, init_is_sound, statement_expr_sound}
use Rattle.ix_grammar_rules.proofs.ExprHeights.{init_is_within}
use Rattle.ix_grammar_rules.proofs.GiveRules.{both}

pub init_both : (left : ℕ) → Sound (λ ts i. IsInit ts i × (i.height ≤ left)) (init left)
init_both left = weaken _ (λ ts i d. (d.0, d.1.1)) (both (init left) (init_is_sound left) (init_is_within left))

-- ---- words

pub and_both : (a b : Bool) → (a && b) ≡ true → (a ≡ true) × (b ≡ true)
and_both true b h = (refl, h)
and_both false b h = absurd (cc)

pub same_is : (xs ys : List ℕ) → same_text xs ys ≡ true → xs ≡ ys
same_is [] [] h = refl
same_is [] (b ∷ ys) h = absurd (cc)
same_is (a ∷ xs) [] h = absurd (cc)
same_is (a ∷ xs) (b ∷ ys) h = let w = and_both (a == b) (same_text xs ys) h in let p : a ≡ b = eqb-true a b w.0 in let q : xs ≡ ys = same_is xs ys w.1 in rw (p, q) refl

abbrev some_ident : Ident → Option Ident
some_ident x = Some x

ident_same : (x y : Ident) → some_ident x ≡ some_ident y → x ≡ y
ident_same x y h = cc

pub word_is : (text : List ℕ) (kind : TokenKind) (span : Span) (x : Ident) → word_of text kind span ≡ Some x → record { kind = kind; span = span } ≡ word_token text x.span
word_is text (k.Ident found) span x h = elim (chosen (same_text found text) (some_ident (record { text = found; span = span })) None (Some x) h) [
  | inl w ↦ (let p : found ≡ text = same_is found text w.0 in let q = ident_same (record { text = found; span = span }) x w.1 in rw p (ap (λ (y : Ident). word_token text y.span) q))
  | inr w ↦ absurd (cc)
]
word_is text (k.Fixed m) span x h = absurd (cc)
word_is text (k.Int n) span x h = absurd (cc)
word_is text k.MinLit span x h = absurd (cc)
word_is text (k.Str t) span x h = absurd (cc)

pub word_name : (text : List ℕ) (kind : TokenKind) (span : Span) (x : Ident) → word_of text kind span ≡ Some x → x ≡ record { text = text; span = x.span }
word_name text (k.Ident found) span x h = elim (chosen (same_text found text) (some_ident (record { text = found; span = span })) None (Some x) h) [
  | inl w ↦ (let p : found ≡ text = same_is found text w.0 in let q = ident_same (record { text = found; span = span }) x w.1 in rw (sym q) (rw p refl))
  | inr w ↦ absurd (cc)
]
word_name text (k.Fixed m) span x h = absurd (cc)
word_name text (k.Int n) span x h = absurd (cc)
word_name text k.MinLit span x h = absurd (cc)
word_name text (k.Str t) span x h = absurd (cc)

abbrev pub the_word : List ℕ → Span → Ident
the_word text span = record { text = text; span = span }

pub word_sound : {A : Type 0} {R : List Token → A → Type 0} (text : List ℕ) (fits : Bool) (p : Ident → Rule A) (q : Rule A) → ((s : Span) → Sound (λ seen a. R (word_token text s ∷ seen) a) (p (the_word text s))) → Sound R q → Sound R (take (a_word text) fits p q)
word_sound {R = R} text fits p q sp sq = take_sound (a_word text) fits p q (λ t x e.
    let is : t ≡ word_token text x.span = word_is text t.kind t.span x e in
    let same : x ≡ the_word text x.span = word_name text t.kind t.span x e in
    subst (λ y. Sound (λ seen a. R (t ∷ seen) a) (p y)) (sym same) (subst (λ u. Sound (λ seen a. R (u ∷ seen) a) (p (the_word text x.span))) (sym is) (sp x.span))) sq

-- ---- what begins with no word of its own

-- the six tokens of the print statement
pub record IsPrint (ts : List Token) (system : Span) : Type 0 where
  pub dot : Span
  pub out : Span
  pub second : Span
  pub println : Span
  pub left : Span
  pub is : ts ≡ word_token SYSTEM system ∷ sign DOT dot ∷ word_token OUT out ∷ sign DOT second ∷ word_token PRINTLN println ∷ sign OPEN_PAREN left ∷ []

abbrev pub IsBegun : ℕ → List Token → Begun → Type 0
IsBegun left ts (Local mods ty found) = IsLocal ts mods ty found × (found.height + 1 ≤ left)
IsBegun left ts (Run f) = IsStatementExpr ts f
IsBegun left ts (Print system) = IsPrint ts system

after_all : (t : Turn Found Found) (front ts : List Token) → After (IsExpr Primary) (IsExpr Primary) front ts t → After (IsExpr Primary) (IsExpr Primary) [] (front ++ ts) t
after_all (On f) front ts d = d
after_all (Done f) front ts d = d

module _ (left : ℕ) where
  -- behind what is in front: modifiers and a type
  declared_sound : (first second : List Token) (mods : FoundMods) (ty : FoundType) (x : Ident) → IsMods local_words first mods → IsType second ty → mods.height + 2 ≤ left → ty.height + 2 ≤ left → 3 ≤ left
      → Sound (λ ts r. IsBegun left (first ++ (second ++ (name_token x ∷ ts))) r) (declared left mods ty x)
  unfolding declared
  declared_sound first second mods ty x m t a b c = map_sound _ _ (decls_sound IsInit init init_both (left - 1) (shared mods ty) x (omega (arith, a, b, c))) (λ found us d. (g.local m t d.0, omega (arith, d.1, c)))

  named_type_sound : (first second : List Token) (mods : FoundMods) (ty : FoundType) → IsMods local_words first mods → IsType second ty → mods.height + 2 ≤ left → ty.height + 2 ≤ left → 3 ≤ left → Sound (λ ts r. IsBegun left (first ++ (second ++ ts)) r) (named_type left mods ty)
  unfolding named_type
  named_type_sound first second mods ty m t a b c = name_sound true _ _ (λ x. declared_sound first second mods ty x m t a b c) stop_sound

  typed_sound : (first : List Token) (mods : FoundMods) → IsMods local_words first mods → mods.height + 2 ≤ left → 3 ≤ left → Sound (λ ts r. IsBegun left (first ++ ts) r) (typed left mods)
  unfolding typed
  typed_sound first mods m a c = bind_sound _ _ (type_sound (left - 2)) (λ ty seen d. named_type_sound first seen mods ty m d.0 a (omega (arith, d.1, c)) c)

  modified_sound : (front : List Token) (mods : FoundMods) → Modified local_words (left - 2) front mods → 3 ≤ left → Sound (λ ts r. IsBegun left (front ++ ts) r) (modified left mods)
  unfolding modified
  modified_sound front mods d c = bind_sound _ _ (loop_sound (next_mod local_words (left - 2)) (Modified local_words (left - 2)) (Modified local_words (left - 2)) (next_mod_sound local_words (left - 2)) mods front d)
      (λ all seen e. weaken _ (λ ts r b. subst (λ y. IsBegun left y r) (append_assoc front seen ts) b) (typed_sound (front ++ seen) all e.0 (omega (arith, e.1, c)) c))

  plain_sound : (token : Token) (base : At BaseTree) → types.IsBase (token ∷ []) base → 1 + types.base_height base.value ≤ left - 2 → 3 ≤ left → Sound (λ ts r. IsBegun left (token ∷ ts) r) (bind (type_rest (left - 2) base) (named_type left no_mods))
  plain_sound token base b h c = bind_sound _ _ (rest_fits (left - 2) base h) (λ ty seen d. named_type_sound [] (token ∷ seen) no_mods ty decl.none (types.type b d.0) (omega (arith, c)) (omega (arith, d.1, c)) c)

  local_or_sound : (locals : Bool) (other : Rule Begun) → Sound (IsBegun left) other → Sound (IsBegun left) (local_or locals left other)
  unfolding local_or
  local_or_sound false other o = o
  local_or_sound true other o = sign_fits FINAL _ _ _ (λ f s. modified_sound (sign FINAL s ∷ []) (with_word no_mods Final s) (decl.word FINAL s refl decl.none, omega arith) (leb-true 3 left f))
      (sign_fits AT _ _ _ (λ f at. bind_sound _ _ (annot_behind_sound (left - 2) at (omega (arith, leb-true 4 left f)))
      (λ n seen d. modified_sound (sign AT at ∷ seen) (with_annot no_mods n) (decl.annot decl.none d.0, omega (arith, d.1)) (omega (arith, leb-true 4 left f))))
      (sign_fits INT _ _ _ (λ f s. plain_sound (sign INT s) (based Int s) (types.int s) (omega (arith, leb-true 3 left f)) (leb-true 3 left f))
      (sign_fits BOOLEAN _ _ _ (λ f s. plain_sound (sign BOOLEAN s) (based Boolean s) (types.boolean s) (omega (arith, leb-true 3 left f)) (leb-true 3 left f)) o)))

  -- ---- expressions

  chain_sound : (f : Found) (front : List Token) → IsExpr Primary front f → Sound (λ ts r. IsBegun left (front ++ ts) r) (chain left f)
  unfolding chain
  chain_sound f front d = bind_sound _ _ (loop_sound (further (below (left - 1)) Statement (left - 1)) (IsExpr Primary) (IsExpr Primary) (λ t us x. further_sound (below (left - 1)) (sound_below (left - 1)) (left - 1) Statement t us x) f front d)
      (λ h seen x. weaken _ (λ ts r b. subst (λ y. IsBegun left y r) (append_assoc front seen ts) b)
      (map_sound _ _ (to_statement_sound (below (left - 1)) (sound_below (left - 1)) (left - 1) h (front ++ seen) h.form refl x) (λ r us y. y)))

  go_on_sound : (t : Turn Found Found) (front : List Token) → After (IsExpr Primary) (IsExpr Primary) [] front t → Sound (λ ts r. IsBegun left (front ++ ts) r) (go_on left t)
  unfolding go_on
  go_on_sound (On f) front d = chain_sound f front d
  go_on_sound (Done f) front d = stop_sound

  field_sound : (f : Found) (front : List Token) (dot : Span) (x : Ident) → IsExpr Primary front f → Sound (λ ts r. IsBegun left (front ++ (sign DOT dot ∷ name_token x ∷ ts)) r) (field left f x)
  unfolding field
  field_sound f front dot x d = bind_sound _ _ (field_or_call_sound (below (left - 1)) (sound_below (left - 1)) (left - 1) Statement f front dot x d)
      (λ t seen y. weaken _ (λ ts r b. subst (λ z. IsBegun left z r) (append_assoc front (sign DOT dot ∷ name_token x ∷ seen) ts) b) (go_on_sound t (front ++ (sign DOT dot ∷ name_token x ∷ seen)) (after_all t front (sign DOT dot ∷ name_token x ∷ seen) y)))

  run_named_sound : (x : Ident) → Sound (λ ts r. IsBegun left (name_token x ∷ ts) r) (run_named left x)
  unfolding run_named
  run_named_sound x = bind_sound _ _ (name_or_call_sound (below (left - 1)) (sound_below (left - 1)) (left - 1) Statement x) (λ f seen d. chain_sound f (name_token x ∷ seen) d)

  guarded_sound : (c : Bool) (rule : Rule Found) → Sound (IsExpr Whole) rule → Sound (IsExpr Whole) (guarded c rule)
  unfolding guarded
  guarded_sound true rule s = s
  guarded_sound false rule s = expr_sound 0

  indexed_sound : (x : Ident) (o : Span) → Sound (λ ts r. IsBegun left (name_token x ∷ sign OPEN_BRACKET o ∷ ts) r) (indexed left x)
  unfolding indexed
  indexed_sound x o = bind_sound _ _ (guarded_sound (nat_le 5 left) _ (inner_sound (below (left - 1)) (sound_below (left - 1)) 1))
      (λ h seen d. sign_sound CLOSE_BRACKET true _ _ (λ r. weaken _ (λ ts b y. subst (λ z. IsBegun left (name_token x ∷ sign OPEN_BRACKET o ∷ z) b) (append_assoc seen (sign CLOSE_BRACKET r ∷ []) ts) y)
      (chain_sound (element (named x) h r) (name_token x ∷ sign OPEN_BRACKET o ∷ (seen ++ sign CLOSE_BRACKET r ∷ [])) (e.index o r (e.variable x) refl d))) stop_sound)

  named_first_sound : (locals : Bool) (x : Ident) → Sound (λ ts r. IsBegun left (name_token x ∷ ts) r) (named_first locals left x)
  unfolding named_first
  named_first_sound false x = run_named_sound x
  named_first_sound true x = sign_fits OPEN_BRACKET _ _ _
      (λ f o. sign_sound CLOSE_BRACKET true _ _ (λ r. bind_sound _ _ (pairs_sound 1 r (sign OPEN_BRACKET o ∷ sign CLOSE_BRACKET r ∷ []) (types.pair o r))
      (λ found seen p. named_type_sound [] (name_token x ∷ sign OPEN_BRACKET o ∷ sign CLOSE_BRACKET r ∷ seen) no_mods (array_of (based (Named x) x.span) no_notes found) decl.none (types.type (types.named x) (types.array no_item p)) (omega (arith, leb-true 4 left f)) (omega (arith, leb-true 4 left f)) (omega (arith, leb-true 4 left f))))
      (indexed_sound x o))
      (sign_fits AT _ _ _ (λ f at. bind_sound _ _ (noted_array_sound (left - 2) (based (Named x) x.span) at (omega (arith, leb-true 5 left f)))
      (λ ty seen d. named_type_sound [] (name_token x ∷ sign AT at ∷ seen) no_mods ty decl.none (types.type (types.named x) d.0) (omega (arith, leb-true 5 left f)) (omega (arith, d.1, leb-true 5 left f)) (omega (arith, leb-true 5 left f))))
      (name_fits _ _ _ (λ f y. declared_sound [] (name_token x ∷ []) no_mods (plain_type (based (Named x) x.span)) y decl.none (types.type (types.named x) types.no_rest) (omega (arith, leb-true 4 left f)) (omega (arith, leb-true 4 left f)) (omega (arith, leb-true 4 left f)))
      (run_named_sound x)))

  -- ---- the print statement

  println_sound : (system dot out second println : Span) → Sound (λ ts r. IsBegun left (word_token SYSTEM system ∷ sign DOT dot ∷ word_token OUT out ∷ sign DOT second ∷ word_token PRINTLN println ∷ ts) r) (println_part left (the_word SYSTEM system) (the_word OUT out) (the_word PRINTLN println))
  unfolding println_part
  println_sound system dot out second println = sign_sound OPEN_PAREN true _ _ (λ o. pure_sound _ (record { dot = dot; out = out; second = second; println = println; left = o; is = refl }))
      (field_sound (selected (named (the_word SYSTEM system)) (the_word OUT out)) (word_token SYSTEM system ∷ sign DOT dot ∷ word_token OUT out ∷ []) second (the_word PRINTLN println) (e.select dot (the_word OUT out) (e.variable (the_word SYSTEM system))))

  out_sound : (system dot out : Span) → Sound (λ ts r. IsBegun left (word_token SYSTEM system ∷ sign DOT dot ∷ word_token OUT out ∷ ts) r) (out_part left (the_word SYSTEM system) (the_word OUT out))
  unfolding out_part
  out_sound system dot out = sign_sound DOT true _ _
      (λ second. word_sound PRINTLN true _ _ (λ println. println_sound system dot out second println)
      (name_sound _ _ _ (λ y. field_sound (selected (named (the_word SYSTEM system)) (the_word OUT out)) (word_token SYSTEM system ∷ sign DOT dot ∷ word_token OUT out ∷ []) second y (e.select dot (the_word OUT out) (e.variable (the_word SYSTEM system)))) stop_sound))
      (field_sound (named (the_word SYSTEM system)) (word_token SYSTEM system ∷ []) dot (the_word OUT out) (e.variable (the_word SYSTEM system)))

  system_sound : (locals : Bool) (system : Span) → Sound (λ ts r. IsBegun left (word_token SYSTEM system ∷ ts) r) (system_part locals left (the_word SYSTEM system))
  unfolding system_part
  system_sound locals system = sign_sound DOT true _ _
      (λ dot. word_sound OUT true _ _ (λ out. out_sound system dot out) (name_sound _ _ _ (λ y. field_sound (named (the_word SYSTEM system)) (word_token SYSTEM system ∷ []) dot y (e.variable (the_word SYSTEM system))) stop_sound))
      (named_first_sound locals (the_word SYSTEM system))

  print_or_sound : (prints locals : Bool) (other : Rule Begun) → Sound (IsBegun left) other → Sound (IsBegun left) (print_or prints locals left other)
  unfolding print_or
  print_or_sound false locals other o = o
  print_or_sound true locals other o = word_sound SYSTEM _ _ _ (system_sound locals) o

  pub begun_sound : (prints locals : Bool) → Sound (IsBegun left) (begun prints locals left)
  unfolding begun
  begun_sound prints locals = local_or_sound locals _ (print_or_sound prints locals _ (name_sound _ _ _ (named_first_sound locals) (map_sound _ _ (statement_expr_sound (left - 1)) (λ f us d. d))))

-- ---- what begins as the print statement is nothing else

abbrev pub six : Span → Span → Span → Span → Span → Span → List Token → List Token
six system dot out second println left later = word_token SYSTEM system ∷ sign DOT dot ∷ word_token OUT out ∷ sign DOT second ∷ word_token PRINTLN println ∷ sign OPEN_PAREN left ∷ later

pub print_reads : (locals : Bool) (left : ℕ) (system dot out second println o : Span) (later : List Token) → 2 ≤ left → run (begun true locals left) (six system dot out second println o later) ≡ Ok (Print system, later)
unfolding run begun local_or print_or system_part out_part println_part
print_reads true left system dot out second println o later le = rw (le-leb 2 left le) refl
print_reads false left system dot out second println o later le = rw (le-leb 2 left le) refl

print_high : (locals : Bool) (left : ℕ) (system dot out second println o : Span) (later : List Token) → nat_le 2 left ≡ false → run (begun true locals left) (six system dot out second println o later) ≡ Err (TooDeep, six system dot out second println o later)
unfolding run begun local_or print_or system_part out_part println_part
print_high true left system dot out second println o later le = rw le refl
print_high false left system dot out second println o later le = rw le refl

token_word : (text : List ℕ) (kind : TokenKind) (span : Span) → is_word text kind ≡ true → record { kind = kind; span = span } ≡ word_token text span
token_word text (k.Ident found) span h = let p : found ≡ text = same_is found text h in rw p refl
token_word text (k.Fixed m) span h = absurd (cc)
token_word text (k.Int n) span h = absurd (cc)
token_word text k.MinLit span h = absurd (cc)
token_word text (k.Str t) span h = absurd (cc)

token_sign : (n : ℕ) (kind : TokenKind) (span : Span) → is_sign n kind ≡ true → record { kind = kind; span = span } ≡ sign n span
token_sign n (k.Fixed m) span h = let p : m ≡ n = eqb-true m n h in rw p refl
token_sign n (k.Ident x) span h = absurd (cc)
token_sign n (k.Int x) span h = absurd (cc)
token_sign n k.MinLit span h = absurd (cc)
token_sign n (k.Str t) span h = absurd (cc)

-- the six tokens and what follows
pub record Printed (ts : List Token) : Type 0 where
  pub system : Span
  pub dot : Span
  pub out : Span
  pub second : Span
  pub println : Span
  pub left : Span
  pub later : List Token
  pub is : ts ≡ six system dot out second println left later

pub printed : (ts : List Token) → begins_print ts ≡ true → Printed ts
printed (t0 ∷ t1 ∷ t2 ∷ t3 ∷ t4 ∷ t5 ∷ later) h =
    let a = and_both (is_word SYSTEM t0.kind) _ h in
    let b = and_both (is_sign DOT t1.kind) _ a.1 in
    let c = and_both (is_word OUT t2.kind) _ b.1 in
    let d = and_both (is_sign DOT t3.kind) _ c.1 in
    let f = and_both (is_word PRINTLN t4.kind) _ d.1 in
    let e0 : t0 ≡ word_token SYSTEM t0.span = token_word SYSTEM t0.kind t0.span a.0 in
    let e1 : t1 ≡ sign DOT t1.span = token_sign DOT t1.kind t1.span b.0 in
    let e2 : t2 ≡ word_token OUT t2.span = token_word OUT t2.kind t2.span c.0 in
    let e3 : t3 ≡ sign DOT t3.span = token_sign DOT t3.kind t3.span d.0 in
    let e4 : t4 ≡ word_token PRINTLN t4.span = token_word PRINTLN t4.kind t4.span f.0 in
    let e5 : t5 ≡ sign OPEN_PAREN t5.span = token_sign OPEN_PAREN t5.kind t5.span f.1 in
    record { system = t0.span; dot = t1.span; out = t2.span; second = t3.span; println = t4.span; left = t5.span; later = later; is = six_same t0 t1 t2 t3 t4 t5 _ _ _ _ _ _ later e0 e1 e2 e3 e4 e5 }
  where
    six_same : (t0 t1 t2 t3 t4 t5 u0 u1 u2 u3 u4 u5 : Token) (later : List Token) → t0 ≡ u0 → t1 ≡ u1 → t2 ≡ u2 → t3 ≡ u3 → t4 ≡ u4 → t5 ≡ u5 → t0 ∷ t1 ∷ t2 ∷ t3 ∷ t4 ∷ t5 ∷ later ≡ u0 ∷ u1 ∷ u2 ∷ u3 ∷ u4 ∷ u5 ∷ later
    six_same t0 t1 t2 t3 t4 t5 u0 u1 u2 u3 u4 u5 later a b c d e f = cc
printed [] h = absurd (cc)
printed (t0 ∷ []) h = absurd (cc)
printed (t0 ∷ t1 ∷ []) h = absurd (cc)
printed (t0 ∷ t1 ∷ t2 ∷ []) h = absurd (cc)
printed (t0 ∷ t1 ∷ t2 ∷ t3 ∷ []) h = absurd (cc)
printed (t0 ∷ t1 ∷ t2 ∷ t3 ∷ t4 ∷ []) h = absurd (cc)

abbrev of_print : Span → List Token → Outcome Begun
of_print system us = Ok (Print system, us)

abbrev of_deep : List Token → Outcome Begun
of_deep ts = Err (TooDeep, ts)

abbrev of_run : Found → List Token → Outcome Begun
of_run f us = Ok (Run f, us)

print_run : (system : Span) (f : Found) → Print system ≡ Run f → ⊥
print_run system f h = cc

other_begun : (locals : Bool) (left : ℕ) (ts : List Token) (f : Found) (us : List Token) → Printed ts → run (begun true locals left) ts ≡ of_run f us → ⊥
other_begun locals left ts f us p h = at (nat_le 2 left) refl
  where
    on : run (begun true locals left) (six p.system p.dot p.out p.second p.println p.left p.later) ≡ of_run f us
    on = subst (λ y. run (begun true locals left) y ≡ of_run f us) p.is h

    at : (b : Bool) → nat_le 2 left ≡ b → ⊥
    at true e = let r : run (begun true locals left) (six p.system p.dot p.out p.second p.println p.left p.later) ≡ Ok (Print p.system, p.later) = print_reads locals left p.system p.dot p.out p.second p.println p.left p.later (leb-true 2 left e) in apart_ok p.system p.later f us (sym r ∙ on)
      where
        apart_ok : (system : Span) (later : List Token) (f : Found) (us : List Token) → of_print system later ≡ of_run f us → ⊥
        apart_ok system later f us h = print_run system f (ap (λ (p : Begun × List Token). p.0) (same_ok (Print system, later) (Run f, us) h))
    at false e = let r = print_high locals left p.system p.dot p.out p.second p.println p.left p.later e in apart_err (six p.system p.dot p.out p.second p.println p.left p.later) f us (sym r ∙ on)
      where
        apart_err : (ts : List Token) (f : Found) (us : List Token) → of_deep ts ≡ of_run f us → ⊥
        apart_err ts f us h = cc

pub not_print : (locals : Bool) (left : ℕ) (ts : List Token) (f : Found) (us : List Token) → run (begun true locals left) ts ≡ of_run f us → (b : Bool) → begins_print ts ≡ b → begins_print ts ≡ false
not_print locals left ts f us h true e = absurd (other_begun locals left ts f us (printed ts e) h)
not_print locals left ts f us h false e = e

pub front_print : (seen us : List Token) → begins_print (seen ++ us) ≡ false → begins_print seen ≡ false
front_print (t0 ∷ t1 ∷ t2 ∷ t3 ∷ t4 ∷ t5 ∷ later) us h = h
front_print [] us h = refl
front_print (t0 ∷ []) us h = refl
front_print (t0 ∷ t1 ∷ []) us h = refl
front_print (t0 ∷ t1 ∷ t2 ∷ []) us h = refl
front_print (t0 ∷ t1 ∷ t2 ∷ t3 ∷ []) us h = refl
front_print (t0 ∷ t1 ∷ t2 ∷ t3 ∷ t4 ∷ []) us h = refl

-- with that
abbrev pub IsBegunStmt : ℕ → List Token → Begun → Type 0
IsBegunStmt left ts (Local mods ty found) = IsLocal ts mods ty found × (found.height + 1 ≤ left)
IsBegunStmt left ts (Run f) = IsStatementExpr ts f × (begins_print ts ≡ false)
IsBegunStmt left ts (Print system) = IsPrint ts system

begun_stmt : (locals : Bool) (left : ℕ) (ts seen us : List Token) (r : Begun) → ts ≡ seen ++ us → run (begun true locals left) ts ≡ Ok (r, us) → IsBegun left seen r → IsBegunStmt left seen r
begun_stmt locals left ts seen us (Local mods ty found) is h d = d
begun_stmt locals left ts seen us (Run f) is h d = (d, front_print seen us (subst (λ y. begins_print y ≡ false) is (not_print locals left ts f us h (begins_print ts) refl)))
begun_stmt locals left ts seen us (Print system) is h d = d

pub begun_stmt_sound : (locals : Bool) (left : ℕ) → Sound (IsBegunStmt left) (begun true locals left)
begun_stmt_sound locals left = record { at = λ ts us r h. let s = begun_sound left true locals in let (seen, is, d) = s.at ts us r h in (seen, is, begun_stmt locals left ts seen us r is h d) }

-- ---- statements: with an `if` without `else` at their end no `else` follows, since that would belong to it

pub record Flagged (R : List Token → FoundStmt → Bool → Type 0) (r : Rule FoundStmt) : Type 0 where
  pub at : (ts us : List Token) (a : FoundStmt) → run r ts ≡ Ok (a, us) → (seen : List Token) × (ts ≡ seen ++ us) × (ends : Bool) × R seen a ends × (ends ≡ true → look (a_sign ELSE) us ≡ None)

pub flag_false : {R : List Token → FoundStmt → Bool → Type 0} (r : Rule FoundStmt) → Sound (λ seen a. R seen a false) r → Flagged R r
flag_false r s = record { at = λ ts us a h. let (seen, is, d) = s.at ts us a h in (seen, is, false, d, λ e. absurd (cc)) }

pub cons_same : (t u : Token) (ts us : List Token) → t ≡ u → ts ≡ us → t ∷ ts ≡ u ∷ us
cons_same t u ts us a b = rw (a, b) refl

flag_taken : {R : List Token → FoundStmt → Bool → Type 0} (n : ℕ) (fits : Bool) (p : Span → Rule FoundStmt) (q : Rule FoundStmt) (t : Token) (ts us : List Token) (a : FoundStmt) → ((s : Span) → Flagged (λ seen a e. R (sign n s ∷ seen) a e) (p s)) → Flagged R q
    → (o : Option Span) → a_sign n t ≡ o → taken fits (λ s. run (p s)) (run q) o (t ∷ ts) ≡ Ok (a, us) → (seen : List Token) × (t ∷ ts ≡ seen ++ us) × (ends : Bool) × R seen a ends × (ends ≡ true → look (a_sign ELSE) us ≡ None)
flag_taken {R = R} n fits p q t ts us a sp sq (Some s) e h = elim (chosen fits _ _ _ h) [
  | inl w ↦ (let l = sp s in let (seen, is, ends, r, f) = l.at ts us a w.1 in let same : t ≡ sign n s = sign_is n t.kind t.span s e in (sign n s ∷ seen, cons_same t (sign n s) ts (seen ++ us) same is, ends, r, f))
  | inr w ↦ absurd (cc)
]
flag_taken n fits p q t ts us a sp sq None e h = sq.at (t ∷ ts) us a h

pub flag_sign : {R : List Token → FoundStmt → Bool → Type 0} (n : ℕ) (fits : Bool) (p : Span → Rule FoundStmt) (q : Rule FoundStmt) → ((s : Span) → Flagged (λ seen a e. R (sign n s ∷ seen) a e) (p s)) → Flagged R q → Flagged R (take (a_sign n) fits p q)
unfolding run
flag_sign {R = R} n fits p q sp sq = record {
  at = λ ts us a h. elim ts as (λ ts. run (take (a_sign n) fits p q) ts ≡ Ok (a, us) → (seen : List Token) × (ts ≡ seen ++ us) × (ends : Bool) × R seen a ends × (ends ≡ true → look (a_sign ELSE) us ≡ None)) [
    | [] ↦ λ h. sq.at [] us a h
    | t ∷ ts ↦ λ h. flag_taken n fits p q t ts us a sp sq (a_sign n t) refl h
  ] h;
}

pub flag_bind : {A : Type 0} {P : List Token → A → Type 0} {R : List Token → FoundStmt → Bool → Type 0} (p : Rule A) (f : A → Rule FoundStmt) → Sound P p → ((a : A) (seen : List Token) → P seen a → Flagged (λ later b e. R (seen ++ later) b e) (f a)) → Flagged R (bind p f)
unfolding run
flag_bind p f sp sf = record {
  at = λ ts us b h.
      let d = bind_ok (run p ts) (λ a. run (f a)) (b, us) h in
      let (seen, is, r) = sp.at ts d.0.1 d.0.0 d.1 in
      let l = sf d.0.0 seen r in
      let (later, same, ends, q, e) = l.at d.0.1 us b d.2 in
      (seen ++ later, is ∙ ap (λ y. seen ++ y) same ∙ sym (append_assoc seen later us), ends, q, e);
}

pub flag_map : {R Q : List Token → FoundStmt → Bool → Type 0} (p : Rule FoundStmt) (f : FoundStmt → FoundStmt) → Flagged R p → ((a : FoundStmt) (seen : List Token) (e : Bool) → R seen a e → Q seen (f a) e) → Flagged Q (bind p (λ a. pure (f a)))
unfolding run
flag_map {Q = Q} p f sp w = record {
  at = λ ts us b h.
      let d = bind_ok (run p ts) (λ a. run (pure (f a))) (b, us) h in
      let (seen, is, ends, r, e) = sp.at ts d.0.1 d.0.0 d.1 in
      let q = same_ok (f d.0.0, d.0.1) (b, us) d.2 in
      let rest : d.0.1 ≡ us = ap (λ (p : FoundStmt × List Token). p.1) q in
      let node : f d.0.0 ≡ b = ap (λ (p : FoundStmt × List Token). p.0) q in
      (seen, is ∙ ap (λ y. seen ++ y) rest, ends, subst (λ y. Q seen y ends) node (w d.0.0 seen ends r), λ t. subst (λ y. look (a_sign ELSE) y ≡ None) rest (e t));
}

-- a statement that may be the one before an `else`
pub flag_if : {R : List Token → FoundStmt → Bool → Type 0} {Q : List Token → FoundStmt → Bool → Type 0} (p q : Rule FoundStmt) (alone : FoundStmt → FoundStmt) (both : FoundStmt → FoundStmt → FoundStmt) → Flagged R p → Flagged R q
    → ((a : FoundStmt) (seen : List Token) (e : Bool) → R seen a e → Q seen (alone a) true) → ((a b : FoundStmt) (seen later : List Token) (s : Span) (e : Bool) → R seen a false → R later b e → Q (seen ++ (sign ELSE s ∷ later)) (both a b) e)
    → Flagged Q (bind p (λ a. take (a_sign ELSE) true (λ s. bind q (λ b. pure (both a b))) (pure (alone a))))
unfolding run
flag_if {R = R} {Q = Q} p q alone both sp sq one two = record {
  at = λ ts us c h.
      let d = bind_ok (run p ts) (λ a. run (take (a_sign ELSE) true (λ s. bind q (λ b. pure (both a b))) (pure (alone a)))) (c, us) h in
      let (seen, is, ends, r, e) = sp.at ts d.0.1 d.0.0 d.1 in
      let (later, same, f, g, k) = behind d.0.0 d.0.1 us c seen ends r e d.2 in
      (seen ++ later, is ∙ ap (λ y. seen ++ y) same ∙ sym (append_assoc seen later us), f, g, k);
}
  where
    no_else : (ms : List Token) (a : FoundStmt) (us : List Token) (c : FoundStmt) (seen : List Token) (ends : Bool) → R seen a ends → look (a_sign ELSE) ms ≡ None → run (pure (alone a)) ms ≡ Ok (c, us)
        → (later : List Token) × (ms ≡ later ++ us) × (f : Bool) × Q (seen ++ later) c f × (f ≡ true → look (a_sign ELSE) us ≡ None)
    no_else ms a us c seen ends r n h =
        let w = same_ok (alone a, ms) (c, us) h in
        let rest : ms ≡ us = ap (λ (p : FoundStmt × List Token). p.1) w in
        let node : alone a ≡ c = ap (λ (p : FoundStmt × List Token). p.0) w in
        ([], rest, true, subst (λ y. Q (seen ++ []) y true) node (subst (λ y. Q y (alone a) true) (sym (append-nil seen)) (one a seen ends r)), λ t. subst (λ y. look (a_sign ELSE) y ≡ None) rest n)

    with_else : (t : Token) (ms : List Token) (a : FoundStmt) (us : List Token) (c : FoundStmt) (seen : List Token) (ends : Bool) (s : Span) → R seen a ends → (ends ≡ true → a_sign ELSE t ≡ None) → a_sign ELSE t ≡ Some s → run (bind q (λ b. pure (both a b))) ms ≡ Ok (c, us)
        → (later : List Token) × (t ∷ ms ≡ later ++ us) × (f : Bool) × Q (seen ++ later) c f × (f ≡ true → look (a_sign ELSE) us ≡ None)
    with_else t ms a us c seen true s r e g h = let n = e refl in absurd (none_some t s n g)
      where
        none_some : (t : Token) (s : Span) → a_sign ELSE t ≡ None → a_sign ELSE t ≡ Some s → ⊥
        none_some t s n g = cc
    with_else t ms a us c seen false s r e g h =
        let m : Flagged (λ later b f. Q (seen ++ (sign ELSE s ∷ later)) b f) (bind q (λ b. pure (both a b))) = flag_map q (both a) sq (λ b later f x. two a b seen later s f r x) in
        let (later, is, f, x, k) = m.at ms us c h in
        let same : t ≡ sign ELSE s = sign_is ELSE t.kind t.span s g in
        (sign ELSE s ∷ later, cons_same t (sign ELSE s) ms (later ++ us) same is, f, x, k)

    choose : (t : Token) (ms : List Token) (a : FoundStmt) (us : List Token) (c : FoundStmt) (seen : List Token) (ends : Bool) (o : Option Span) → R seen a ends → (ends ≡ true → a_sign ELSE t ≡ None) → a_sign ELSE t ≡ o
        → taken true (λ s. run (bind q (λ b. pure (both a b)))) (run (pure (alone a))) o (t ∷ ms) ≡ Ok (c, us)
        → (later : List Token) × (t ∷ ms ≡ later ++ us) × (f : Bool) × Q (seen ++ later) c f × (f ≡ true → look (a_sign ELSE) us ≡ None)
    choose t ms a us c seen ends (Some s) r e g h = with_else t ms a us c seen ends s r e g h
    choose t ms a us c seen ends None r e g h = no_else (t ∷ ms) a us c seen ends r g h

    behind : (a : FoundStmt) (ms us : List Token) (c : FoundStmt) (seen : List Token) (ends : Bool) → R seen a ends → (ends ≡ true → look (a_sign ELSE) ms ≡ None) → run (take (a_sign ELSE) true (λ s. bind q (λ b. pure (both a b))) (pure (alone a))) ms ≡ Ok (c, us)
        → (later : List Token) × (ms ≡ later ++ us) × (f : Bool) × Q (seen ++ later) c f × (f ≡ true → look (a_sign ELSE) us ≡ None)
    behind a [] us c seen ends r e h = no_else [] a us c seen ends r refl h
    behind a (t ∷ ms) us c seen ends r e h = choose t ms a us c seen ends (a_sign ELSE t) r e refl h

pub flag_stop : {R : List Token → FoundStmt → Bool → Type 0} → Flagged R stop
unfolding run
flag_stop = record { at = λ ts us a h. absurd (cc) }

pub flag_weaken : {R Q : List Token → FoundStmt → Bool → Type 0} (r : Rule FoundStmt) → ((seen : List Token) (a : FoundStmt) (e : Bool) → R seen a e → Q seen a e) → Flagged R r → Flagged Q r
flag_weaken r w s = record { at = λ ts us a h. let (seen, is, ends, d, f) = s.at ts us a h in (seen, is, ends, w seen a ends d, f) }
