-- The initialisers of a class's fields are as a constructor needs them, where it stands beside them.
use Rattle.std.proofs.Common.{◌≡◌, ℕ, true, List, [], ◌∷◌, refl, ◌∙◌, arith, inl, inr, ⊎_elim}
use Rattle.ix_core.specs.declared.program.Local.{Local}
use Rattle.ix_core.specs.declared.program.Method.{Method}
use Rattle.ix_core.specs.declared.program.Program.{Program}
use Rattle.ix_core.specs.Formed.{is_target}
use Rattle.ix_text.specs.declared.span.Span.{Span}
use Rattle.ix_tree.specs.declared.decl.LocalDecl.{LocalDecl}
use Rattle.ix_tree.specs.declared.decl.Member.{Member}
use Rattle.ix_tree.specs.declared.decl.Member.TheVariants as member
use Rattle.ix_tree.specs.declared.decl.Unit.{Unit as Source}
use Rattle.ix_tree.specs.declared.expr.Init.{Init}
use Rattle.ix_tree.specs.Parts.{init_parts}
use Rattle.ix_tree.specs.Placed.{row, parent_pieces}
use Rattle.ix_meaning.specs.Resolved.{names}
use Rattle.ix_meaning.specs.Source.{Place}
use Rattle.ix_plain.specs.Members.{next_field}
use Rattle.ix_plain.specs.Program.{tables}
use Rattle.ix_formed.specs.Additions.{AllOf}
use Rattle.ix_formed.specs.TypedStatements.{Ground, IsGround, IsKnown}
use Rattle.ix_formed.proofs.ClassFields.{IsMember}
use Rattle.ix_formed.proofs.ConstructorFields.{IsApart, IsInitialiser, AreInitialised}
use Rattle.ix_formed.proofs.ConstructorSupers.{written_constructor_inside}
use Rattle.ix_formed.proofs.FieldPlaces.{Places, Beside, StandsAt, AllStand}
use Rattle.ix_formed.proofs.FieldsFit.{IsAccepted}
use Rattle.ix_formed.proofs.FieldTypes.{IsTyped, AllTyped}
use Rattle.ix_formed.proofs.FormedPrograms.{FitsInside}
use Rattle.ix_formed.proofs.HeadsAre.{IsWritten}
use Rattle.ix_formed.proofs.LayoutSpans.{laid_up}
use Rattle.ix_formed.proofs.NumberLists.{all_so}
use Rattle.ix_formed.proofs.PlainMethods.{g, grounded, known_is}
use Rattle.ix_formed.proofs.SourceMethods.{IsAmong}

module _ (g : Ground) (ground : IsGround g) (l : Place) (world : l.world ≡ g.world) (class : l.class ≡ g.class) (constructor : g.method.constructor ≡ true) (first last : ℕ) where
  abbrev one_initialised : (Where : Places) → ((lo hi : ℕ) → Where lo hi → IsApart g ground l world class constructor first last lo hi) → (k : ℕ) (d : LocalDecl) (i : Init) → StandsAt g.parts Where i → IsTyped g.program g.site.names g.parts l k d i
      → IsInitialiser g ground l world class constructor first last k d i
  one_initialised Where apart k d i at typed = record {
    lo = at.lo;
    hi = at.hi;
    apart = apart at.lo at.hi at.places;
    spans = at.spans;
    known = all_so (IsAmong g.parts) (IsKnown g) (known_is g) (init_parts i) at.among;
    written = typed.written;
    readable = at.readable;
    there = typed.there;
    own = typed.own ∙ class;
    ty = typed.ty;
    real = typed.real;
    said = typed.said;
  }

  pub are_initialised : (Where : Places) → ((lo hi : ℕ) → Where lo hi → IsApart g ground l world class constructor first last lo hi) → (k : ℕ) (ms : List Member) → AllStand g.parts Where ms → AllTyped g.program g.site.names g.parts l k ms
      → AreInitialised g ground l world class constructor first last k ms
  are_initialised Where apart k [] stand typed = tt
  are_initialised Where apart k (member.Method m ∷ ms) stand typed = are_initialised Where apart k ms stand typed
  are_initialised Where apart k (member.Field d ∷ ms) stand typed =
      ((λ free i e. one_initialised Where apart k d i (stand.0 i e) (typed.0 free i e)), are_initialised Where apart (next_field k d) ms stand.1 typed.1)

-- A written constructor fits inside.
pub constructor_fits_inside : (unit : Source) (p : Program) (is : IsAccepted unit p) (method : Method) (w : IsWritten unit p is (IsMember unit p) (tables (names unit) unit.classes) method) → method.constructor ≡ true
    → AllOf (λ (local : Local × Span). is_target p method local.0.slot ≡ true) method.locals → FitsInside p method
constructor_fits_inside unit p is method w constructor targets =
    let d = w.decl in
    let s = w.fine.sound in
    let from = laid_up d.span.from s.args_from s.from (row (parent_pieces d.parent_args)) s.args_laid in
    let up = s.within in
    written_constructor_inside unit p is method w constructor
    (are_initialised (g unit p is method w) (grounded unit p is method w) w.place w.head.world refl constructor s.from d.span.to (Beside d.span)
    (λ lo hi beside. ⊎_elim (λ before. inl (omega (arith, before, from, up))) (λ behind. inr behind) beside)
    w.at.field w.at.members w.fine.stand w.fine.typed) targets
