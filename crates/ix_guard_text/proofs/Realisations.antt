-- The tokens that pieces are where each new one stands at the next of some places.
use Rattle.std.proofs.Common.{◌≡◌, zero, suc, List, [], ◌∷◌, ◌++◌, refl, ap, ◌∙◌}
use Rattle.ix_text.specs.declared.span.Span.{Span}
use Rattle.ix_lexer.specs.declared.token.Token.{Token}
use Rattle.ix_lexer.specs.declared.token.TokenKind.{TokenKind}
use Rattle.ix_guard_text.specs.Bare.{nowhere}
use Rattle.ix_guard_text.specs.Respanned.{Places, next, respanned}
use Rattle.ix_guard_text.specs.Moved.{Move, moved_token, moved_tokens}
use Rattle.ix_guard_text.specs.Interleaved.{Piece, old, new, olds, news, Realised, none, kept, put}
use Rattle.ix_guard_text.specs.TestParts.{IsNew}

-- the places behind those of so many pieces
abbrev pub far : List Piece → Places → Places
far [] at = at
far (piece ∷ pieces) at = far pieces (next at)

module _ (move : Move) where
  -- At the places of new tokens nothing old begins.
  abbrev pub AllNew : Places → List Piece → Type 0
  AllNew at [] = Unit {0}
  AllNew at (old token ∷ pieces) = AllNew (next at) pieces
  AllNew at (new token ∷ pieces) = IsNew move (at 0).from × AllNew (next at) pieces

  pub new_parts : (pieces more : List Piece) (at : Places) → AllNew at (pieces ++ more) → AllNew at pieces × AllNew (far pieces at) more
  new_parts [] more at h = (tt, h)
  new_parts (old t ∷ pieces) more at h = new_parts pieces more (next at) h
  new_parts (new t ∷ pieces) more at h = let r = new_parts pieces more (next at) h.1 in ((h.0, r.0), r.1)

  -- behind old tokens
  pub new_behind : (ts : List Token) (more : List Piece) (at : Places) → AllNew at (olds ts ++ more) → AllNew (far (olds ts) at) more
  new_behind ts more at h = (new_parts (olds ts) more at h).1

  abbrev pub realised : Places → List Piece → List Token
  realised at [] = []
  realised at (old token ∷ pieces) = moved_token move token ∷ realised (next at) pieces
  realised at (new token ∷ pieces) = record { kind = token.kind; span = at 0 } ∷ realised (next at) pieces

  pub real_both : (pieces more : List Piece) (at : Places) → realised at (pieces ++ more) ≡ realised at pieces ++ realised (far pieces at) more
  real_both [] more at = refl
  real_both (old t ∷ pieces) more at = ap (λ l. moved_token move t ∷ l) (real_both pieces more (next at))
  real_both (new t ∷ pieces) more at = ap (λ l. record { kind = t.kind; span = at 0 } ∷ l) (real_both pieces more (next at))

  pub real_olds : (ts : List Token) (at : Places) → realised at (olds ts) ≡ moved_tokens move ts
  real_olds [] at = refl
  real_olds (t ∷ ts) at = ap (λ l. moved_token move t ∷ l) (real_olds ts (next at))

  pub real_news : (ts : List Token) (at : Places) → realised at (news ts) ≡ respanned at ts
  real_news [] at = refl
  real_news (t ∷ ts) at = ap (λ l. record { kind = t.kind; span = at 0 } ∷ l) (real_news ts (next at))

  -- old tokens before others
  pub old_both : (ts : List Token) (more : List Piece) (at : Places) → realised at (olds ts ++ more) ≡ moved_tokens move ts ++ realised (far (olds ts) at) more
  old_both ts more at = real_both (olds ts) more at ∙ ap (λ l. l ++ realised (far (olds ts) at) more) (real_olds ts at)

  pub new_both : (ts : List Token) (more : List Piece) (at : Places) → realised at (news ts ++ more) ≡ respanned at ts ++ realised (far (news ts) at) more
  new_both ts more at = real_both (news ts) more at ∙ ap (λ l. l ++ realised (far (news ts) at) more) (real_news ts at)

  abbrev later : Span → Places → Places
  later span at zero = span
  later span at (suc n) = at n

  -- whatever the tokens of the pieces are, they stand at some places
  pub some_places : {pieces : List Piece} {found : List Token} → Realised move pieces found → (at : Places) × AllNew at pieces × (realised at pieces ≡ found)
  some_places none = (λ n. nowhere, tt, refl)
  some_places (kept t r) = let p = some_places r in (later nowhere p.0, p.1, ap (λ l. moved_token move t ∷ l) p.2)
  some_places (put {pieces} {tokens} t found e n r) =
      let p = some_places r in
      (later found.span p.0, (n, p.1), ap (λ l. record { kind = t.kind; span = found.span } ∷ l) p.2 ∙ ap (λ (k : TokenKind). let x : Token = record { kind = k; span = found.span } in x ∷ tokens) (let g : t.kind ≡ found.kind = cc in g))
