-- Items with guards, one after the other, and a choice behind a guard.
use Rattle.std.proofs.Common.{◌≡◌, ℕ, List, [], ◌∷◌, ◌++◌, refl, ap, sym, subst, ◌∙◌}
use Rattle.ix_text.specs.declared.span.Span.{Span}
use Rattle.ix_core.specs.declared.code.Item.{Item}
use Rattle.ix_core.specs.declared.code.Item as item
use Rattle.ix_core.specs.Code.{Code, If, Condition, item_code, items_code}
use Rattle.ix_guard_promise.specs.Known.{Known, Unknown, Inside}
use Rattle.ix_guard_promise.specs.Guards.{Guarded, chooses}
use Rattle.ix_guard_promise.specs.Pieces.{EachAsked, AsksNoLoop, Keeps, followed}
use Rattle.ix_guard_promise.proofs.GuardedPieces.{guarded_more, guarded_then, keeps_asked}

item_followed : (first : Item) (rest next : Code) → followed (item_code first rest) next ≡ item_code first (followed rest next)
item_followed (item.Do op) rest next = refl
item_followed (item.If' asked shape_then first shape_else second) rest next = refl
item_followed item.Break rest next = refl
item_followed item.Continue rest next = refl
item_followed (item.Return value span) rest next = refl
item_followed (item.Throw name span) rest next = refl
item_followed (item.Loop' test_first asked shape_body body shape_next turn number scope) rest next = refl

-- the code of items behind others
pub items_followed : (items more : List Item) → items_code (items ++ more) ≡ followed (items_code items) (items_code more)
items_followed [] more = refl
items_followed (first ∷ items) more = ap (item_code first) (items_followed items more) ∙ sym (item_followed first (items_code items) (items_code more))

module _ (place : Span) where
  pub items_then : (items more : List Item) (before between end : Known) → Guarded place before (items_code items) between → Guarded place between (items_code more) end
      → Guarded place before (items_code (items ++ more)) end
  items_then items more before between end first second =
      subst (λ code. Guarded place before code end) (sym (items_followed items more)) (guarded_then place (items_code items) (items_code more) before between end first second)

  -- A choice whose condition keeps what is known before it: in its branches, and behind it, nothing need be known.
  pub choice_then : (array index : ℕ) (asked : Condition) (first second rest : Code) (end : Known) → EachAsked (Keeps place array index) asked → AsksNoLoop asked
      → Guarded place Unknown first Unknown → Guarded place Unknown second Unknown → Guarded place Unknown rest end → Guarded place (Inside array index) (If asked first second rest) end
  choice_then array index asked first second rest end each plain one two next =
      chooses asked first second rest (Inside array index) (Inside array index) (Inside array index) Unknown end (keeps_asked place array index asked each plain)
      (guarded_more place first (Inside array index) Unknown Unknown tt one) (guarded_more place second (Inside array index) Unknown Unknown tt two) next
