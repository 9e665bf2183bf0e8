-- What a statement is that fits, wherever it stands.
use Rattle.std.specs.Prelude.{◌≡◌, ◌≤◌, ◌<◌, ℕ, Bool, true, false, if◌then◌else◌, List, length}
use Rattle.ix_text.specs.declared.span.Span.{Span}
use Rattle.ix_core.specs.declared.claim.Type_.{Type_}
use Rattle.ix_core.specs.Types.{Point}
use Rattle.ix_tree.specs.Parts.{Part}
use Rattle.ix_tree.specs.Placed.{Layout, nothing, node, LaidOut}
use Rattle.ix_meaning.specs.Bodies.{Telling, after}
use Rattle.ix_meaning.specs.Scope.{Scope as Names}
use Rattle.ix_plain.specs.declared.body.Body.{Body}
use Rattle.ix_plain.specs.Statements.{Run, Running}
use Rattle.ix_formed.specs.Additions.{Makes, AllOf}
use Rattle.ix_formed.specs.Readable.{Statement}
use Rattle.ix_formed.specs.TypedStatements.{Ground, Says, IsKnown, Scoped, Stands, Tells}

module _ (g : Ground) where
  -- up to where the locals that it declares are in scope
  abbrev pub until : Statement → ℕ → Span → ℕ
  until shape end span = if shape.declares then end else span.to

  -- What it says without an error, it becomes.
  abbrev pub DoesTell : Span → Run → Telling → Layout → List Part → Bool → Statement → List Type_ → Type 0
  DoesTell span run t inner ps written shape own = (s : Names) (end : ℕ) (body : Body) (types : List Type_) (point : Point) → Scoped g s body.locals types body.made.free span.from end → Stands g s body.locals point → s.next ≡ length body.locals
      → span.from < span.to → span.to ≤ end → LaidOut span.from span.from span.to inner → AllOf (IsKnown g) ps → written ≡ true → shape.fine ≡ true → Says g (t.notes s)
      → Makes (Tells g s (after t s) span.from span.to (until shape end span) end body types own point) (run g.site end body)

  -- Where it declares nothing the names in scope are the same behind it.
  abbrev pub KeepsNames : Telling → Statement → Type 0
  KeepsNames t shape = shape.fine ≡ true → shape.declares ≡ false → (s : Names) → t.names s ≡ s.names

  pub record IsStatement (r : Running) (t : Telling) (l : Layout) (ps : List Part) (written : Bool) (shape : Statement) (own : List Type_) : Type 0 where
    pub inner : Layout
    pub placed : l ≡ node r.span inner nothing
    pub tells : DoesTell r.span r.run t inner ps written shape own
    pub names : KeepsNames t shape
