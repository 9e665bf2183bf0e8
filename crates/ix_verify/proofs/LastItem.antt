-- What a block does last is its last item.
use Rattle.std.specs.Prelude.{◌≡◌, ◌-◌, List, [], ◌∷◌, length, slice_get, Option, None, Some, refl}
use Rattle.std.proofs.Common.{arith, sym, ap, ◌∙◌}
use Rattle.ix_core.specs.declared.code.Item.{Item}
use Rattle.ix_core.specs.declared.code.Item.TheVariants as item
use Rattle.ix_core.specs.declared.op.Op.{Op}
use Rattle.ix_core.specs.Code.{Code, End, item_code, items_code}
use Rattle.ix_core.specs.Posts.{last_done}

-- the operation that an item is, where it is one
abbrev pub op_of : Item → Option Op
op_of one = last_done None (item_code one End)

abbrev pub op_of_last : Option Item → Option Op
op_of_last None = None
op_of_last (Some last) = op_of last

behind_item : (last : Option Op) (one : Item) (rest : Code) → last_done last (item_code one rest) ≡ last_done (op_of one) rest
behind_item last (item.Do op) rest = refl
behind_item last (item.If' asked shape_then first shape_else second) rest = refl
behind_item last item.Break rest = refl
behind_item last item.Continue rest = refl
behind_item last (item.Return value span) rest = refl
behind_item last (item.Throw name span) rest = refl
behind_item last (item.Loop' test_first asked shape_body body shape_next next number scope) rest = refl

last_is : (last : Option Op) (first : Item) (items : List Item) → last_done last (items_code (first ∷ items)) ≡ op_of_last (slice_get (first ∷ items) (length items))
last_is last first [] = behind_item last first End
last_is last first (next ∷ items) = behind_item last first (items_code (next ∷ items)) ∙ last_is (op_of first) next items

-- by the item that is found last
pub last_told : (items : List Item) (found : Option Item) → found ≡ slice_get items (length items - 1) → last_done None (items_code items) ≡ op_of_last found
last_told [] found is = ap op_of_last (sym is)
last_told (first ∷ items) found is =
    let e : length items ≡ length (first ∷ items) - 1 = omega arith in
    last_is None first items ∙ ap op_of_last (ap (slice_get (first ∷ items)) e ∙ sym is)
