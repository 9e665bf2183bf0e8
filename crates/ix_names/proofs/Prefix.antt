-- The locals known before stay the first of those known after.
use Rattle.std.proofs.Common.{◌≡◌, ◌++◌, [], length, take, sym, ◌∙◌, ap, append_assoc}
use Rattle.std.proofs.lemmas.List.{append-nil}
use Rattle.std.proofs.Math.Seq.{take-append_seam}
use Rattle.ix_expression_types.specs.declared.scope.Scopes.{Scopes}
use Rattle.ix_expression_types.specs.Here.{Extends}

pub extends_same : (s t : Scopes) → t.params ≡ s.params → t.locals.entries ≡ s.locals.entries → t.marks.items ≡ s.marks.items → Extends s t
extends_same s t params locals marks = record { params = params; more = []; locals = locals ∙ sym (append-nil s.locals.entries); marks = marks }

pub extends_trans : (s t u : Scopes) → Extends s t → Extends t u → Extends s u
extends_trans s t u a b = record {
  params = b.params ∙ a.params;
  more = a.more ++ b.more;
  locals = b.locals ∙ (ap (λ l. l ++ b.more) a.locals ∙ append_assoc s.locals.entries a.more b.more);
  marks = b.marks ∙ a.marks;
}

pub take_extended : (s t : Scopes) → Extends s t → take (length s.locals.entries) t.locals.entries ≡ s.locals.entries
take_extended s t a = ap (λ l. take (length s.locals.entries) l) a.locals ∙ take-append_seam s.locals.entries a.more

pub ruleset extends = (extends_same, extends_trans, take_extended)
