-- Code that names other places alone has no access at the place, and straight code has no loop.
use Rattle.std.proofs.Common.{◌≡◌, true}
use Rattle.std.proofs.lemmas.Bool.{and_parts, false≢true}
use Rattle.ix_text.specs.declared.span.Span.{Span}
use Rattle.ix_core.specs.declared.op.Op.{Op}
use Rattle.ix_core.specs.Code.{Code, End, Do, If, Break, Continue, Return, Throw, Loop, Condition, Known as Certain, Compare, Truth, Both, Either, Opposite}
use Rattle.ix_core.specs.Formed.{is_straight, is_straight_condition}
use Rattle.ix_core.specs.CodePlaces.{OpPlaces, CodePlaces, AskedPlaces}
use Rattle.ix_guard_promise.specs.Pieces.{EachOp, EachAsked, HasNoLoop, AsksNoLoop, IsElsewhere}

module _ (place : Span) where
  -- it isn't the place
  abbrev pub IsOther : Span → Type 0
  IsOther span = span ≡ place → ⊥

  op_elsewhere : (done : Op) → OpPlaces IsOther done → IsElsewhere place done
  op_elsewhere done places access is at = places.0 at

  mutual
    pub places_elsewhere : (code : Code) → CodePlaces IsOther code → EachOp (IsElsewhere place) code
    places_elsewhere End places = tt
    places_elsewhere (Do done rest) places = (op_elsewhere done places.0, places_elsewhere rest places.1)
    places_elsewhere (If asked first second rest) places = (asked_elsewhere asked places.0, (places_elsewhere first places.1, (places_elsewhere second places.2, places_elsewhere rest places.3)))
    places_elsewhere (Break rest) places = places_elsewhere rest places
    places_elsewhere (Continue rest) places = places_elsewhere rest places
    places_elsewhere (Return value span rest) places = places_elsewhere rest places.1
    places_elsewhere (Throw name span rest) places = places_elsewhere rest places.1
    places_elsewhere (Loop test_first asked body next number scope rest) places = (asked_elsewhere asked places.0, (places_elsewhere body places.1, (places_elsewhere next places.2, places_elsewhere rest places.3)))

    pub asked_elsewhere : (asked : Condition) → AskedPlaces IsOther asked → EachAsked (IsElsewhere place) asked
    asked_elsewhere (Certain answer) places = tt
    asked_elsewhere (Compare code test) places = places_elsewhere code places.0
    asked_elsewhere (Truth code slot) places = places_elsewhere code places
    asked_elsewhere (Both first second) places = (asked_elsewhere first places.0, asked_elsewhere second places.1)
    asked_elsewhere (Either first second) places = (asked_elsewhere first places.0, asked_elsewhere second places.1)
    asked_elsewhere (Opposite asked) places = asked_elsewhere asked places

mutual
  pub straight_no_loop : (code : Code) → is_straight code ≡ true → HasNoLoop code
  straight_no_loop End straight = tt
  straight_no_loop (Do done rest) straight = straight_no_loop rest straight
  straight_no_loop (If asked first second rest) straight =
      let a = and_parts (is_straight_condition asked) _ straight in
      let b = and_parts (is_straight first) _ a.1 in
      let c = and_parts (is_straight second) _ b.1 in
      (straight_asks_none asked a.0, (straight_no_loop first b.0, (straight_no_loop second c.0, straight_no_loop rest c.1)))
  straight_no_loop (Break rest) straight = absurd (false≢true straight)
  straight_no_loop (Continue rest) straight = absurd (false≢true straight)
  straight_no_loop (Return value span rest) straight = absurd (false≢true straight)
  straight_no_loop (Throw name span rest) straight = absurd (false≢true straight)
  straight_no_loop (Loop test_first asked body next number scope rest) straight = absurd (false≢true straight)

  pub straight_asks_none : (asked : Condition) → is_straight_condition asked ≡ true → AsksNoLoop asked
  straight_asks_none (Certain answer) straight = tt
  straight_asks_none (Compare code test) straight = straight_no_loop code straight
  straight_asks_none (Truth code slot) straight = straight_no_loop code straight
  straight_asks_none (Both first second) straight = let a = and_parts (is_straight_condition first) _ straight in (straight_asks_none first a.0, straight_asks_none second a.1)
  straight_asks_none (Either first second) straight = let a = and_parts (is_straight_condition first) _ straight in (straight_asks_none first a.0, straight_asks_none second a.1)
  straight_asks_none (Opposite asked) straight = straight_asks_none asked straight
