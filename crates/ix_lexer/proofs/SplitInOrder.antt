-- Tokens that lie in order, split.
use Rattle.std.proofs.Common.{◌≡◌, ◌≤◌, ◌<◌, ℕ, zero, suc, List, [], ◌∷◌, ◌++◌, drop, sym, arith}
use Rattle.ix_lexer.specs.declared.token.Token.{Token}
use Rattle.ix_lexer.specs.Spans.{InOrder}

pub order_within : (lo hi : ℕ) (ts : List Token) → InOrder lo hi ts → lo ≤ hi
order_within lo hi [] o = o
order_within lo hi (t ∷ ts) (a, b, o) = omega (arith, a, b, order_within t.span.to hi ts o)

-- with the place between the two
pub order_both : (lo hi : ℕ) (ts us : List Token) → InOrder lo hi (ts ++ us) → (mid : ℕ) × (lo ≤ mid) × (mid ≤ hi) × InOrder lo mid ts × InOrder mid hi us
order_both lo hi [] us o = (lo, omega arith, order_within lo hi us o, omega arith, o)
order_both lo hi (t ∷ ts) us (a, b, o) = let (mid, c, d, p, q) = order_both t.span.to hi ts us o in (mid, omega (arith, a, b, c), d, (a, b, p), q)

-- ---- a token that is left starts before the end

pub some : (t : Token) (ts : List Token) → t ∷ ts ≡ [] → ⊥
some t ts h = cc

starts_within : (from end : ℕ) (tokens later : List Token) (token : Token) → InOrder from end tokens → tokens ≡ token ∷ later → token.span.from < end
starts_within from end [] later token o h = absurd (some token later (sym h))
starts_within from end (t ∷ tokens) later token (a, b, c) h =
    let same : t ≡ token = cc in rw (sym same) (omega (arith, b, order_within t.span.to end tokens c))

pub drop_starts : (n from end : ℕ) (tokens later : List Token) (token : Token) → InOrder from end tokens → drop n tokens ≡ token ∷ later → token.span.from < end
drop_starts zero from end tokens later token o h = starts_within from end tokens later token o h
drop_starts (suc n) from end [] later token o h = absurd (some token later (sym h))
drop_starts (suc n) from end (t ∷ tokens) later token (a, b, c) h = drop_starts n t.span.to end tokens later token c h
