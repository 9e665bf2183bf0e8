-- Where a repetition of the grammar stops, what it took goes on.
use Rattle.std.proofs.Common.{ℕ, true, List, [], ◌∷◌, ◌++◌, refl, sym, subst}
use Rattle.std.proofs.lemmas.List.{append-nil}
use Rattle.ix_text.specs.declared.span.Span.{Span}
use Rattle.ix_lexer.specs.declared.token.Token.{Token}
use Rattle.ix_lexer.specs.declared.fixed.TheConstants.{CLOSE_BRACE}
use Rattle.ix_tree.specs.declared.annot.Ident.{Ident}
use Rattle.ix_grammar.specs.declared.found.At.{At}
use Rattle.ix_grammar_rules.specs.Rule.{Rule, pure, take, bind, stop, On, Done}
use Rattle.ix_grammar.specs.Patterns.{sign, a_sign}
use Rattle.ix_grammar.specs.Lists.{IsSeparated, next_item, no_item, one_more}
use Rattle.ix_grammar_rules.specs.ListRules.{next_of, more_of, next_inside, braces_of, placed}
use Rattle.ix_grammar_rules.proofs.SoundRules.{Sound, weaken, After}
use Rattle.ix_grammar_rules.proofs.ListsSound.{Read, next_sound, Braces, Inside, Closed, inside_sound}
use Rattle.ix_grammar_rules.proofs.ViableRules.{Goes, Viable, Nothing, weaken_viable, pure_viable, stop_viable, bind_viable, map_viable, sign_viable, nothing_viable, nothing_bind, loop_viable}

-- any place, and any name
abbrev pub here : Span
here = record { from = 0; to = 0 }

abbrev pub some_name : Ident
some_name = record { text = []; span = here }

-- nothing need follow
pub done_goes : {A : Type 0} (R : List Token → A → Type 0) (seen : List Token) (a : A) → R seen a → Goes (λ later b. R (seen ++ later) b) []
done_goes R seen a r = ([], a, subst (λ y. R y a) (sym (append-nil seen)) r)

-- a token at the end
pub end_viable : {A : Type 0} {R : List Token → A → Type 0} (n : ℕ) (f : Span → A) → ((s : Span) → R (sign n s ∷ []) (f s)) → Viable R (take (a_sign n) true (λ s. pure (f s)) stop)
end_viable n f w = sign_viable _ _ _ _ (λ e. absurd (cc)) (λ e s. pure_viable _) (stop_viable (sign n here ∷ [], f here, w here))

-- one rule, and a token behind it
pub ended_viable : {A B : Type 0} {R : List Token → A → Type 0} {Q : List Token → B → Type 0} (p : Rule A) (n : ℕ) (f : A → Span → B) → Sound R p → Viable R p
    → ((a : A) (seen : List Token) → R seen a → (s : Span) → Q (seen ++ sign n s ∷ []) (f a s)) → Viable Q (bind p (λ a. take (a_sign n) true (λ s. pure (f a s)) stop))
ended_viable p n f sp vp w = bind_viable p _ sp vp (λ a seen r. (sign n here ∷ [], f a here, w a seen r here)) (λ a seen r. end_viable n (f a) (w a seen r))

-- ---- repetitions: P holds of each item, and then Q of what is made of them

module _ {A S : Type 0} (Item : List Token → A → Type 0) (start : A → S) (add : S → A → S) (item : Rule A) (P : A → Type 0) (Q : S → Type 0)
    (keeps : (s : S) (x : A) → Q s → P x → Q (add s x)) (sound : Sound (λ ts x. Item ts x × P x) item) (viable : Viable (λ ts x. Item ts x × P x) item) where
  abbrev Listed : List Token → S → Type 0
  Listed = Read Item start add item P Q keeps sound

  next_viable : (s : S) (front : List Token) → Listed front s → Viable (After Listed Listed front) (next_of item add s)
  unfolding next_of Read
  next_viable s front d = sign_viable _ _ _ _ (λ f. absurd (cc))
      (λ f c. map_viable item (λ x. On (add s x)) sound viable (λ x seen r. (next_item c d.0 r.0, keeps s x d.1 r.1)))
      (pure_viable _)

  pub more_viable : (s : S) (front : List Token) → IsSeparated Item start add front s → Q s → Viable (λ seen b. IsSeparated Item start add (front ++ seen) b × Q b) (more_of item add s)
  unfolding more_of Read
  more_viable s front d q = loop_viable (next_of item add) Listed Listed (next_sound Item start add item P Q keeps sound) next_viable (λ t ts r. done_goes Listed ts t r) s front (d, q)

module _ {A S : Type 0} (Item : List Token → A → Type 0) (start : A → S) (add : S → A → S) (item : Rule A) (sound : Sound Item item) (viable : Viable Item item) where
  pub more_plain_viable : (s : S) (front : List Token) → IsSeparated Item start add front s → Viable (λ seen b. IsSeparated Item start add (front ++ seen) b) (more_of item add s)
  more_plain_viable s front d = weaken_viable _ (λ ts b r. r.0)
      (more_viable Item start add item (λ x. Unit {0}) (λ s. Unit {0}) (λ s x q p. tt) (weaken item (λ ts x r. (r, tt)) sound) (weaken_viable item (λ ts x r. (r, tt)) viable) s front d tt)

module _ {A S : Type 0} (Item : List Token → A → Type 0) (none : S) (add : S → A → S) (item : Rule A) (P : A → Type 0) (Q : S → Type 0)
    (zero_items : Q none) (keeps : (s : S) (x : A) → Q s → P x → Q (add s x)) (sound : Sound (λ ts x. Item ts x × P x) item) where
  abbrev Begun : List Token → S → Type 0
  Begun = Inside Item none add item P Q zero_items keeps sound

  abbrev Ended : List Token → At S → Type 0
  Ended = Closed Item none add item P Q zero_items keeps sound

  -- each turn, where an item can follow, and likewise where none can
  abbrev Turns : Type 0
  Turns = (s : S) (front : List Token) → Begun front s → Viable (After Begun Ended front) (bind item (λ found. pure (On (add s found))))

  closes : (s : S) (front : List Token) → Begun front s → Goes (λ later b. Ended (front ++ later) b) []
  unfolding Inside Closed
  closes s front d = (sign CLOSE_BRACE here ∷ [], placed s here, ((front, refl, d.0), d.1))

  inside_viable : Turns → (s : S) (front : List Token) → Begun front s → Viable (After Begun Ended front) (next_inside item add s)
  unfolding next_inside
  inside_viable turns s front d = sign_viable _ _ _ _ (λ f. absurd (cc)) (λ f right. pure_viable _) (turns s front d)

  all_viable : Turns → Viable (λ ts found. Braces Item none add ts found × Q found.value) (braces_of item add none)
  unfolding braces_of Inside Closed
  all_viable turns = loop_viable (next_inside item add) Begun Ended (inside_sound Item none add item P Q zero_items keeps sound) (inside_viable turns) closes none [] (no_item, zero_items)

  pub braces_viable : Viable (λ ts x. Item ts x × P x) item → Viable (λ ts found. Braces Item none add ts found × Q found.value) (braces_of item add none)
  unfolding Inside
  braces_viable viable = all_viable (λ s front d. map_viable item (λ x. On (add s x)) sound viable (λ x seen r. (one_more d.0 r.0, keeps s x d.1 r.1)))

  -- where no item is low enough
  pub braces_nothing : Nothing item → Viable (λ ts found. Braces Item none add ts found × Q found.value) (braces_of item add none)
  braces_nothing n = all_viable (λ s front d. nothing_viable _ (nothing_bind item _ n) (let (others, b, r) = closes s front d in (others, Done b, r)))
