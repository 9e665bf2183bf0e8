-- The errors of claims as lists.
use Rattle.std.specs.Prelude.{ℕ, suc, Bool, true, cond, not, ◌&&◌, ◌==◌, List, [], ◌∷◌, ◌++◌, Option, None, Some}
use Rattle.ix_text.specs.declared.span.Span.{Span}
use Rattle.ix_core.specs.declared.claim.Claim.{Claim}
use Rattle.ix_core.specs.declared.claim.Name.{Name}
use Rattle.ix_core.specs.declared.claim.Post.{Post}
use Rattle.ix_core.specs.declared.error.Subject.{Subject}
use Rattle.ix_core.specs.declared.error.Subject.TheVariants.{Param, FieldNamed}
use Rattle.ix_core.specs.declared.fact.Path.{Path}
use Rattle.ix_core.specs.declared.fact.Path.TheVariants.{Slot, FieldOf}
use Rattle.ix_core.specs.declared.fact.PathClaim.{PathClaim}
use Rattle.ix_core.specs.declared.op.Arg.{Arg}
use Rattle.ix_core.specs.declared.op.CallOp.{CallOp}
use Rattle.ix_core.specs.declared.program.Field.{Field}
use Rattle.ix_core.specs.declared.program.Local.{Local as Variable}
use Rattle.ix_core.specs.declared.program.Method.{Method}
use Rattle.ix_core.specs.declared.program.Program.{Program}
use Rattle.ix_core.specs.Tables.{field_at, param_slot}
use Rattle.ix_facts.specs.Assume.{proves}
use Rattle.ix_facts.specs.Facts.{in_orders}
use Rattle.ix_facts.specs.Stores.{Stored, Unreachable, Reached}
use Rattle.ix_rules_hold.specs.MachineSteps.{on_paths, own_path}
use Rattle.ix_errors.specs.declared.ranked.Ranked.{Ranked}
use Rattle.ix_signatures.specs.Names.{call_path, object_path, written_path, names_field}
use Rattle.ix_signatures.specs.SignErrors.{unproved, counts_at, post_subject}

-- `IsProved` as a test
abbrev pub is_proved : PathClaim → Path → Stored → Bool
is_proved claim p Unreachable = true
is_proved claim p (Reached facts) = proves (in_orders facts) claim p

-- the claims that fail, from one of this rank on
abbrev pub refusals : (Claim → Bool) → ℕ → Span → Subject → ℕ → List Claim → List Ranked
refusals fails rule span subject rank [] = []
refusals fails rule span subject rank (claim ∷ claims) =
    cond (fails claim) (record { error = unproved rule span subject claim; rank = rank } ∷ refusals fails rule span subject (suc rank) claims) (refusals fails rule span subject (suc rank) claims)

-- a claim fails that the store doesn't prove of the path
abbrev pub not_proved : Stored → (Name → Path) → Path → Claim → Bool
not_proved store path p claim = not (is_proved (on_paths path claim) p store)

-- where a field is given only a claim that names it is asked for
abbrev pub asked_for : Option ℕ → Claim → Bool
asked_for None claim = true
asked_for (Some field) claim = names_field field claim

-- such a claim is asked for and fails
abbrev pub not_proved_of : Option ℕ → Stored → (Name → Path) → Path → Claim → Bool
not_proved_of only store path p claim = asked_for only claim && not_proved store path p claim

-- of arguments, from one of this number on
abbrev pub argument_refusals : Stored → CallOp → ℕ → List Variable → List Arg → List Ranked
argument_refusals store call number (param ∷ params) (arg ∷ args) =
    refusals (not_proved store (call_path call) (Slot arg.slot)) 5 arg.span (Param call.method number) 0 param.claims ++ argument_refusals store call (suc number) params args
argument_refusals store call number _ _ = []

-- a post fails that counts where this value is returned and isn't proved
abbrev pub post_fails : Stored → Method → Option ℕ → Option Bool → Post → Bool
post_fails store method value known post = counts_at post.when value known && not_proved store (own_path method) (own_path method post.on) post.claim

-- the posts that fail, from one of this rank on
abbrev pub post_refusals : Stored → Method → ℕ → Option ℕ → Option Bool → Span → ℕ → List Post → List Ranked
post_refusals store method number value known span rank [] = []
post_refusals store method number value known span rank (post ∷ posts) =
    cond (post_fails store method value known post) (record { error = unproved 18 span (post_subject number post.on) post.claim; rank = rank } ∷ post_refusals store method number value known span (suc rank) posts)
    (post_refusals store method number value known span (suc rank) posts)

-- of the fields of `this`
abbrev pub field_refusals : Program → Stored → Span → List ℕ → List Ranked
field_refusals program store span [] = []
field_refusals program store span (field ∷ fields) =
    refusals (not_proved store (object_path 0) (FieldOf 0 field)) 9 span (FieldNamed field) 0 (field_at program field).claims ++ field_refusals program store span fields

-- of fields whose claims name a written one, from one of this number on
abbrev pub dependent_refusals : Stored → (object field value : ℕ) → Span → ℕ → List Field → List Ranked
dependent_refusals store object field value span number [] = []
dependent_refusals store object field value span number (other ∷ fields) =
    cond (number == field) [] (refusals (not_proved_of (Some field) store (written_path object field value) (FieldOf object number)) 8 span (FieldNamed number) 0 other.claims)
    ++ dependent_refusals store object field value span (suc number) fields

-- of an overriding method's parameters, from one of this number on
abbrev pub param_refusals : Stored → Method → ℕ → ℕ → List Variable → List Ranked
param_refusals store method own number [] = []
param_refusals store method own number (param ∷ params) =
    refusals (not_proved store (own_path method) (Slot (param_slot method number))) 10 method.span (Param own number) 0 param.claims ++ param_refusals store method own (suc number) params
