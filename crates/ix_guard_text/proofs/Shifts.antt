-- How far a place is moved: what is inserted at it, before it and behind it.
use Rattle.std.proofs.Common.{◌≡◌, ℕ, ◌+◌, ◌≤◌, ◌<◌, nat_lt, true, false, if◌then◌else◌, List, [], ◌∷◌, length, refl, ap, arith}
use Rattle.ix_guard_text.specs.Woven.{Added}
use Rattle.ix_guard_text.specs.Moved.{Move}
use Rattle.ix_guard_text.specs.Interleaved.{added_up_to, added_before, moving}
use Rattle.ix_guard_text.specs.TestParts.{IsNew}

-- all is inserted there or behind it
abbrev pub AllFrom : ℕ → List Added → Type 0
AllFrom at [] = Unit {0}
AllFrom at (new ∷ added) = (at ≤ new.place) × AllFrom at added

pub all_before : (a b : ℕ) (added : List Added) → a ≤ b → AllFrom b added → AllFrom a added
all_before a b [] le h = tt
all_before a b (new ∷ added) le h = (omega (arith, le, h.0), all_before a b added le h.1)

lt_true : (n m : ℕ) → n < m → nat_lt n m ≡ true
lt_true n m lt = grind (arith, lt)

lt_false : (n m : ℕ) → m ≤ n → nat_lt n m ≡ false
lt_false n m le = grind (arith, le)

up_to_this : (new : Added) (added : List Added) (place : ℕ) → new.place ≤ place → added_up_to (new ∷ added) place ≡ length new.bytes + added_up_to added place
up_to_this new added place le = ap (λ b. (if b then 0 else length new.bytes) + added_up_to added place) (lt_false place new.place le)

up_to_later : (new : Added) (added : List Added) (place : ℕ) → place < new.place → added_up_to (new ∷ added) place ≡ 0 + added_up_to added place
up_to_later new added place lt = ap (λ b. (if b then 0 else length new.bytes) + added_up_to added place) (lt_true place new.place lt)

before_this : (new : Added) (added : List Added) (place : ℕ) → new.place < place → added_before (new ∷ added) place ≡ length new.bytes + added_before added place
before_this new added place lt = ap (λ b. (if b then length new.bytes else 0) + added_before added place) (lt_true new.place place lt)

before_later : (new : Added) (added : List Added) (place : ℕ) → place ≤ new.place → added_before (new ∷ added) place ≡ 0 + added_before added place
before_later new added place le = ap (λ b. (if b then length new.bytes else 0) + added_before added place) (lt_false new.place place le)

pub none_up_to : (at place : ℕ) (added : List Added) → AllFrom at added → place < at → added_up_to added place ≡ 0
none_up_to at place [] h lt = refl
none_up_to at place (new ∷ added) h lt = let e = up_to_later new added place (omega (arith, lt, h.0)) in let f = none_up_to at place added h.1 lt in omega (arith, e, f)

pub none_before : (at : ℕ) (added : List Added) → AllFrom at added → added_before added at ≡ 0
none_before at [] h = refl
none_before at (new ∷ added) h = let e = before_later new added at h.0 in let f = none_before at added h.1 in omega (arith, e, f)

-- Behind this place the move is as far as what is left to be inserted makes it, and this much more; before it nothing comes behind.
pub record Moved (move : Move) (at by : ℕ) (added : List Added) : Type 0 where
  pub from : (place : ℕ) → at ≤ place → move.from place ≡ place + by + added_up_to added place
  pub to : (place : ℕ) → at < place → move.to place ≡ place + by + added_before added place
  pub before : (place : ℕ) → place < at → move.from place < at + by

pub moved_first : (added : List Added) → Moved (moving added) 0 0 added
moved_first added = record {
  from = λ place le. let e : place + added_up_to added place ≡ place + 0 + added_up_to added place = omega arith in e;
  to = λ place lt. let e : place + added_before added place ≡ place + 0 + added_before added place = omega arith in e;
  before = λ place lt. absurd (omega (arith, lt));
}

-- of two places one is before the other, or not
one_side : {P : Type 0} (a b : ℕ) → (a < b → P) → (b ≤ a → P) → P
one_side {P} a b f g = elim (nat_lt a b) as (λ t. nat_lt a b ≡ t → P) [ true ↦ λ e. f (grind (arith, e)) | false ↦ λ e. g (grind (arith, e)) ] refl

pub moved_on : (move : Move) (at far by : ℕ) (added : List Added) → at ≤ far → AllFrom far added → Moved move at by added → Moved move far by added
moved_on move at far by added le h m = record {
  from = λ place h. m.from place (omega (arith, le, h));
  to = λ place h. m.to place (omega (arith, le, h));
  before = λ place lt.
      one_side place at (λ l. let e = m.before place l in omega (arith, e, le)) (λ l. let e = m.from place l in let f = none_up_to far place added h lt in omega (arith, e, f, lt));
}

-- behind what is inserted at a place
pub moved_behind : (move : Move) (at by : ℕ) (new : Added) (added : List Added) → new.place ≡ at → Moved move at by (new ∷ added) → Moved move at (by + length new.bytes) added
moved_behind move at by new added e m = record {
  from = λ place le. let f = m.from place le in let g = up_to_this new added place (omega (arith, le, e)) in omega (arith, f, g);
  to = λ place lt. let f = m.to place lt in let g = before_this new added place (omega (arith, lt, e)) in omega (arith, f, g);
  before = λ place lt. let f = m.before place lt in omega (arith, f);
}

-- In what is inserted at a place nothing old begins.
pub new_within : (move : Move) (at by place : ℕ) (new : Added) (added : List Added) → new.place ≡ at → Moved move at by (new ∷ added) → at + by ≤ place → place < at + by + length new.bytes → IsNew move place
new_within move at by place new added e m low high = λ old same.
    one_side old at (λ lt. let f = m.before old lt in omega (arith, f, same, low))
    (λ le. let f = m.from old le in let g = up_to_this new added old (omega (arith, le, e)) in omega (arith, f, g, same, high, le))

-- where a token begins before which this much is inserted, and where it ends
pub begins_at : (move : Move) (at by place far : ℕ) (added : List Added) → Moved move at by added → at ≤ place → place < far → AllFrom far added → move.from place ≡ place + by
begins_at move at by place far added m le lt h = let f = m.from place le in let g = none_up_to far place added h lt in omega (arith, f, g)

pub ends_at : (move : Move) (at by place : ℕ) (added : List Added) → Moved move at by added → at < place → AllFrom place added → move.to place ≡ place + by
ends_at move at by place added m lt h = let f = m.to place lt in let g = none_before place added h in omega (arith, f, g)

-- ---- the order of places stays

part_up_to : (a b place size : ℕ) → a ≤ b → (if nat_lt a place then 0 else size) ≤ (if nat_lt b place then 0 else size)
part_up_to a b place size le = grind (arith, le)

part_before : (a b place size : ℕ) → a < b → (if nat_lt a place then 0 else size) ≤ (if nat_lt place b then size else 0)
part_before a b place size lt = grind (arith, lt)

up_to_rises : (added : List Added) (a b : ℕ) → a ≤ b → added_up_to added a ≤ added_up_to added b
up_to_rises [] a b le = omega arith
up_to_rises (new ∷ added) a b le = omega (arith, part_up_to a b new.place (length new.bytes) le, up_to_rises added a b le)

up_to_before : (added : List Added) (a b : ℕ) → a < b → added_up_to added a ≤ added_before added b
up_to_before [] a b lt = omega arith
up_to_before (new ∷ added) a b lt = omega (arith, part_before a b new.place (length new.bytes) lt, up_to_before added a b lt)

-- What begins later begins later then, so no two places where something begins come to one.
pub begins_later : (added : List Added) (a b : ℕ) → a < b → (moving added).from a < (moving added).from b
begins_later added a b lt = let e = up_to_rises added a b (omega (arith, lt)) in omega (arith, e, lt)

-- What isn't empty isn't then.
pub not_empty : (added : List Added) (a b : ℕ) → a < b → (moving added).from a < (moving added).to b
not_empty added a b lt = let e = up_to_before added a b lt in omega (arith, e, lt)
