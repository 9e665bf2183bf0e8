-- What the operation that was done last shows of the slots.
use Rattle.std.specs.Prelude.{◌≡◌, ℕ, ◌==◌, Bool, not, List, Option, None, Some, refl}
use Rattle.std.proofs.Common.{sym, ap, ◌∙◌}
use Rattle.ix_core.specs.declared.op.Literal.TheVariants as literal
use Rattle.ix_core.specs.declared.op.Op.{Op}
use Rattle.ix_core.specs.declared.op.OpKind.{OpKind}
use Rattle.ix_core.specs.declared.op.OpKind.TheVariants as op
use Rattle.ix_core.specs.declared.program.Program.{Program}
use Rattle.ix_core.specs.Heap.{Held}
use Rattle.ix_core.specs.Numbers.{Numbers}
use Rattle.ix_core.specs.Posts.{answer_of}
use Rattle.ix_core.proofs.Cases.{by_test, equal}
use Rattle.ix_facts.specs.Facts.{AllHold}
use Rattle.ix_signatures.specs.Signs.{told_by}
use Rattle.ix_soundness.specs.Known.{LastHolds}
use Rattle.ix_soundness.proofs.OperationsKeep.{IsNoCall}

no_answer : {A : Type 0} (answer : Bool) → ◌≡◌ {A = Option Bool} None (Some answer) → A
no_answer answer e = absurd cc

-- nothing, where none is known
pub nothing_done : (program : Program) (slots : List Held) (v : Numbers) → LastHolds program None slots v
nothing_done program slots v = record { written = λ slot answer e. no_answer answer e; told = λ slot answer is. tt }

-- An operation that is no call tells nothing, and writes an answer out where it is a literal.
pub no_call_tells : (program : Program) (kind : OpKind) → IsNoCall kind → (slot : ℕ) (answer : Bool) (v : Numbers) → AllHold (told_by program kind slot answer) v
no_call_tells program (op.Const t value) plain slot answer v = tt
no_call_tells program (op.Copy t s ty) plain slot answer v = tt
no_call_tells program (op.Num t arith y z) plain slot answer v = tt
no_call_tells program (op.Unary t unary y) plain slot answer v = tt
no_call_tells program (op.Length t a) plain slot answer v = tt
no_call_tells program (op.NewArray t ty n) plain slot answer v = tt
no_call_tells program (op.Fill t ty entries) plain slot answer v = tt
no_call_tells program (op.Load t a i ty) plain slot answer v = tt
no_call_tells program (op.Store a i v_ ty) plain slot answer v = tt
no_call_tells program (op.ReadField t o f) plain slot answer v = tt
no_call_tells program (op.WriteField o f v_) plain slot answer v = tt
no_call_tells program (op.NewObject call) plain slot answer v = absurd plain
no_call_tells program (op.StaticCall call) plain slot answer v = absurd plain
no_call_tells program (op.InstanceCall call) plain slot answer v = absurd plain
no_call_tells program (op.SuperCall call) plain slot answer v = absurd plain
no_call_tells program (op.Print value) plain slot answer v = tt

-- the answer that an operation writes out is that of a literal that goes into the slot
pub written_by : (kind : OpKind) (slot : ℕ) (answer : Bool) → answer_of kind slot ≡ Some answer → kind ≡ op.Const slot (literal.Bool answer)
written_by (op.Const t (literal.Bool said)) slot answer e =
    by_test (t == slot)
    (λ same. let s : said ≡ answer = into (sym (rw same refl) ∙ e) in ap (λ n. op.Const n (literal.Bool said)) (equal t slot same) ∙ ap (λ b. op.Const slot (literal.Bool b)) s)
    (λ other. no_answer answer (sym (rw other refl) ∙ e))
  where
    into : {a b : Bool} → ◌≡◌ {A = Option Bool} (Some a) (Some b) → a ≡ b
    into e = cc
written_by (op.Const t (literal.Int n)) slot answer e = no_answer answer e
written_by (op.Const t (literal.NullOf ty)) slot answer e = no_answer answer e
written_by (op.Copy t s ty) slot answer e = no_answer answer e
written_by (op.Num t arith y z) slot answer e = no_answer answer e
written_by (op.Unary t unary y) slot answer e = no_answer answer e
written_by (op.Length t a) slot answer e = no_answer answer e
written_by (op.NewArray t ty n) slot answer e = no_answer answer e
written_by (op.Fill t ty entries) slot answer e = no_answer answer e
written_by (op.Load t a i ty) slot answer e = no_answer answer e
written_by (op.Store a i v ty) slot answer e = no_answer answer e
written_by (op.ReadField t o f) slot answer e = no_answer answer e
written_by (op.WriteField o f v) slot answer e = no_answer answer e
written_by (op.NewObject call) slot answer e = no_answer answer e
written_by (op.StaticCall call) slot answer e = no_answer answer e
written_by (op.InstanceCall call) slot answer e = no_answer answer e
written_by (op.SuperCall call) slot answer e = no_answer answer e
written_by (op.Print value) slot answer e = no_answer answer e
