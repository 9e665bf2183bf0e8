-- Woven tokens as pieces, so that it is told where each old one of them stands.
use Rattle.std.proofs.Common.{◌≡◌, ℕ, Bool, true, List, [], ◌∷◌, ◌++◌, map, refl, ap, ◌∙◌}
use Rattle.ix_lexer.specs.declared.token.Token.{Token}
use Rattle.ix_lexer.specs.Tokens.{Tokens}
use Rattle.ix_guard_text.proofs.ClassesAgain.{map_both}
use Rattle.ix_guard_text.specs.Woven.{Added, with_added, Woven}
use Rattle.ix_guard_text.specs.Woven as w
use Rattle.ix_guard_text.specs.Interleaved.{Piece, old, news, token_of, moving, Interleaved, done, keep, before, behind, Realised}
use Rattle.ix_guard_text.proofs.PlacedTexts.{placed_tokens}

tokens_of_new : (ts : List Token) → map token_of (news ts) ≡ ts
tokens_of_new [] = refl
tokens_of_new (t ∷ ts) = ap (λ l. t ∷ l) (tokens_of_new ts)

behind_new : (ts others : List Token) (pieces : List Piece) → map token_of pieces ≡ others → map token_of (news ts ++ pieces) ≡ ts ++ others
behind_new ts others pieces e = map_both token_of (news ts) pieces ∙ ap (λ l. l ++ map token_of pieces) (tokens_of_new ts) ∙ ap (λ l. ts ++ l) e

pub woven_pieces : {word last : Bool} {at end : ℕ} {tokens others : List Token} {added : List Added} → Woven word at tokens added others last end
    → (pieces : List Piece) × (map token_of pieces ≡ others) × Interleaved word at tokens added pieces last end
woven_pieces w.done = ([], refl, done)
woven_pieces (w.keep t v) = let r = woven_pieces v in (old t ∷ r.0, ap (λ l. t ∷ l) r.1, keep t r.2)
woven_pieces (w.before {news = others} t text first tokens here x may v) =
    let r = woven_pieces v in (news tokens ++ old t ∷ r.0, behind_new tokens (t ∷ others) (old t ∷ r.0) (ap (λ l. t ∷ l) r.1), before t text first tokens here x may r.2)
woven_pieces (w.behind {news = others} text tokens here x v) = let r = woven_pieces v in (news tokens ++ r.0, behind_new tokens others r.0 r.1, behind text tokens here x r.2)

-- Where texts are inserted so between the tokens of bytes, the new bytes have tokens of these kinds, and each old one stands at its place moved.
pub woven_places : (bytes : List ℕ) (tokens others : List Token) (added : List Added) (last : Bool) (end : ℕ) → Tokens bytes tokens → Woven true 0 tokens added others last end
    → (pieces : List Piece) × (found : List Token) × (map token_of pieces ≡ others) × Tokens (with_added 0 bytes added) found × Realised (moving added) pieces found
woven_places bytes tokens others added last end t v =
    let r = woven_pieces v in
    let p = placed_tokens bytes tokens r.0 added last end t r.2 in
    (r.0, p.0, r.1, p.1, p.2)
