-- The test of `a[i]` by example, in `static int get(int[] a, int i)`: with `a` in slot 0 and `i` in slot 1 its statement becomes a guard of both.
use Rattle.std.proofs.Common.{ℕ, ◌<◌, false, [], ◌∷◌, codes, refl, arith}
use Rattle.ix_text.specs.declared.span.Span.{Span}
use Rattle.ix_core.specs.Types.{int_type}
use Rattle.ix_meaning.specs.declared.note.Meaning.TheVariants.{Param, LengthOf}
use Rattle.ix_meaning.specs.declared.note.Note.TheVariants.{Use, Typed}
use Rattle.ix_meaning.specs.Resolved.{names_in}
use Rattle.ix_formed.specs.Additions.{Makes}
use Rattle.ix_plain.specs.declared.body.Body.{Body}
use Rattle.ix_plain.specs.Scope.{Site}
use Rattle.ix_plain.specs.Parts.{empty}
use Rattle.ix_plain.specs.Statements as statements
use Rattle.ix_plain.specs.Statements.{scope_of}
use Rattle.ix_guard_text.specs.TestParts.{Parts, guard_of}
use Rattle.ix_guard_promise.specs.TestTrees.{Means}
use Rattle.ix_guard_promise.specs.TestForms.{Guards, IsMade}
use Rattle.ix_guard_promise.proofs.GuardLowers.{guard_lowers}
use Rattle.ix_guard_promise.proofs.MadeWithRoom.{guard_made}

abbrev span : ℕ → ℕ → Span
span from to = record { from = from; to = to }

-- `if (a == null || i < 0 || i >= a.length) throw new IndexOutOfBoundsException("guard");`
abbrev test : Parts
test = record {
  null_array = record { text = codes "a"; span = span 4 5 };
  negative_index = record { text = codes "i"; span = span 17 18 };
  high_index = record { text = codes "i"; span = span 26 27 };
  length_array = record { text = codes "a"; span = span 31 32 };
  length = record { text = codes "length"; span = span 33 39 };
  thrown = record { text = codes "IndexOutOfBoundsException"; span = span 51 76 };
  null = span 9 13;
  zero = span 21 22;
  selection = span 31 39;
  is_null = span 4 13;
  is_negative = span 17 22;
  is_too_high = span 26 39;
  first_two = span 4 22;
  condition = span 4 39;
  throw = span 41 86;
  whole = span 0 86;
}

abbrev site : Site
site = record {
  names = names_in (Use (span 4 5) (Param 0) ∷ Use (span 17 18) (Param 1) ∷ Typed (span 17 18) int_type ∷ Use (span 26 27) (Param 1) ∷ Typed (span 26 27) int_type
      ∷ Use (span 31 32) (Param 0) ∷ Use (span 33 39) LengthOf ∷ []);
  heads = [];
  constructors = [];
  class = 0;
  params = record { slot = 0; name = codes "a"; claims = [] } ∷ record { slot = 1; name = codes "i"; claims = [] } ∷ [];
  answers = false;
}

abbrev start : Body
start = record { made = empty 2; locals = []; most = 2; loops = 0 }

means : Means (scope_of site start []) 0 1 test
means = record {
  null_array = record { variable = refl; in_slot = refl };
  negative_index = record { variable = refl; in_slot = refl };
  high_index = record { variable = refl; in_slot = refl };
  length_array = record { variable = refl; in_slot = refl };
  negative_type = refl;
  high_type = refl;
  length = refl;
}

below : 1 < 2
below = omega arith

guarded : Makes (Guards 0 1 (codes "IndexOutOfBoundsException") (span 41 86) start) ((statements.statement (guard_of test)).run site 86 start)
guarded = guard_lowers site start 0 1 test means below 86

made : IsMade ((statements.statement (guard_of test)).run site 86 start)
made = guard_made site start 0 1 test means below (omega arith) 86
