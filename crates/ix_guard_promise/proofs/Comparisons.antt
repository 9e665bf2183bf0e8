-- A comparison of a variable with what one operation computes.
use Rattle.std.proofs.Common.{◌≡◌, ℕ, ◌+◌, Bool, true, false, [], ◌∷◌, refl, Ok, Err}
use Rattle.std.specs.Prelude.{if◌then◌else◌, nat_lt}
use Rattle.std.proofs.lemmas.Bool.{false≢true}
use Rattle.ix_num.specs.declared.rel.Rel.{Rel}
use Rattle.ix_text.specs.declared.span.Span.{Span}
use Rattle.ix_core.specs.declared.claim.Type_.{Type_}
use Rattle.ix_core.specs.declared.code.Cond.TheVariants as cond
use Rattle.ix_core.specs.declared.op.Op.{Op}
use Rattle.ix_core.specs.declared.op.OpKind.{OpKind}
use Rattle.ix_core.specs.declared.op.Test.{Test}
use Rattle.ix_core.specs.Code.{End, Do, Compare, cond_code}
use Rattle.ix_core.proofs.Translated.{cond_code-Compare}
use Rattle.ix_meaning.specs.declared.note.Which.TheVariants as which
use Rattle.ix_guard_promise.specs.Guards.{Compares}
use Rattle.ix_formed.specs.Additions.{Makes}
use Rattle.ix_plain.specs.Scope.{Scope, type_at}
use Rattle.ix_plain.specs.Parts.{Within, ◌>>=◌ as ◌then◌, Value, Asked, empty, block, in_place, computed, done, most_slots}
use Rattle.ix_plain.specs.Values as values
use Rattle.ix_plain.specs.Values.{Lowering}
use Rattle.ix_guard_promise.specs.TestForms.{IsMade}

-- The condition compares a slot with the first free one, into which one operation goes.
pub record Comparison (rel : Rel) (slot free : ℕ) (ty : Type_) (kind : OpKind) (asked : Asked) : Type 0 where
  pub op : Op
  pub test : Test
  pub form : cond_code asked.cond ≡ Compare (Do op End) test
  pub makes : op.kind ≡ kind
  pub asks : Compares rel slot free ty test
  pub behind : asked.free ≡ free + 1

-- the test of a slot and the value behind
abbrev tested : (rel : Rel) (slot : ℕ) (ty : Type_) (left right : Span) → Value → Within Asked
tested rel slot ty left right value = Ok record {
  cond = cond.Compare (block value.made) record { rel = rel; left = slot; right = value.slot; ty = ty; left_span = left; right_span = right };
  free = value.made.free;
}

made_or_not : (rel : Rel) (slot free : ℕ) (ty : Type_) (kind : OpKind) (span left right : Span) (b : Bool)
    → Makes (Comparison rel slot free ty kind)
    ((if b then Ok (record { made = record { items = done kind span [] ∷ []; free = free + 1 }; slot = free }) else Err which.Slots) then tested rel slot ty left right)
made_or_not rel slot free ty kind span left right true = record {
  op = record { kind = kind; span = span; parts = [] };
  test = record { rel = rel; left = slot; right = free; ty = ty; left_span = left; right_span = right };
  form = cond_code-Compare (record { items = done kind span [] ∷ [] }) (record { rel = rel; left = slot; right = free; ty = ty; left_span = left; right_span = right });
  makes = refl;
  asks = record { by = refl; first = refl; second = refl; of = refl };
  behind = refl;
}
made_or_not rel slot free ty kind span left right false = tt

pub comparison : (scope : Scope) (rel : Rel) (left right : Lowering) (free slot : ℕ) (ty : Type_) (kind : OpKind) (span : Span)
    → left.value scope (empty free) ≡ in_place (empty free) slot → type_at scope left.span ≡ ty → right.value scope (empty free) ≡ computed (empty free) kind span
    → Makes (Comparison rel slot free ty kind) (values.compared rel left right scope free)
comparison scope rel left right free slot ty kind span one typed two =
    rw (one, two, typed) (made_or_not rel slot free ty kind span left.span right.span (nat_lt free most_slots))

-- ---- with room for its slot it is made

room_makes : (rel : Rel) (slot free : ℕ) (ty : Type_) (kind : OpKind) (span left right : Span) (b : Bool) → b ≡ true
    → IsMade ((if b then Ok (record { made = record { items = done kind span [] ∷ []; free = free + 1 }; slot = free }) else Err which.Slots) then tested rel slot ty left right)
room_makes rel slot free ty kind span left right true room = tt
room_makes rel slot free ty kind span left right false room = absurd (false≢true room)

pub comparison_made : (scope : Scope) (rel : Rel) (left right : Lowering) (free slot : ℕ) (kind : OpKind) (span : Span)
    → left.value scope (empty free) ≡ in_place (empty free) slot → right.value scope (empty free) ≡ computed (empty free) kind span → nat_lt free most_slots ≡ true
    → IsMade (values.compared rel left right scope free)
comparison_made scope rel left right free slot kind span one two room =
    rw (one, two) (room_makes rel slot free (type_at scope left.span) kind span left.span right.span (nat_lt free most_slots) room)
