-- The body and the locals of a written constructor fit, where what it begins with does.
use Rattle.std.proofs.Common.{◌≡◌, ◌≤◌, ◌<◌, ℕ, true, false, List, [], ◌∷◌, ◌++◌, length, map, Some, None, refl, sym, ap, subst, ◌∙◌, arith}
use Rattle.std.proofs.lemmas.Bool.{false≢true}
use Rattle.std.proofs.lemmas.List.{append-nil}
use Rattle.ix_text.specs.declared.span.Span.{Span}
use Rattle.ix_core.specs.declared.claim.Type_.{Type_}
use Rattle.ix_core.specs.declared.code.Item.{Item}
use Rattle.ix_core.specs.declared.program.Local.{Local}
use Rattle.ix_core.specs.declared.program.Method.{Method}
use Rattle.ix_core.specs.declared.program.Program.{Program}
use Rattle.ix_core.specs.Code.{End, items_code}
use Rattle.ix_core.specs.Formed.{Ways, entry_type, code_ways, param_type_from, is_target}
use Rattle.ix_core.specs.Tables.{param_slot, param_slots}
use Rattle.ix_core.specs.Types.{Point, class_type}
use Rattle.ix_tree.specs.declared.decl.MethodDecl.{MethodDecl}
use Rattle.ix_tree.specs.declared.decl.Unit.{Unit as Source}
use Rattle.ix_tree.specs.declared.expr.Expr.{Expr}
use Rattle.ix_tree.specs.Parts.{together, stmt_parts, unit_parts}
use Rattle.ix_meaning.specs.Bodies.{after, all_told, telling}
use Rattle.ix_meaning.specs.Resolved.{names}
use Rattle.ix_meaning.specs.Scope.{Known as Variable, Scope as Names}
use Rattle.ix_meaning.specs.Source as source
use Rattle.ix_meaning.specs.Source.{Place}
use Rattle.ix_plain.specs.declared.body.Body.{Body}
use Rattle.ix_plain.specs.Parts.{◌>>=◌}
use Rattle.ix_plain.specs.Program.{Home, start, tables, super_call, constructor_start, fields_initialised, written_start}
use Rattle.ix_plain.specs.Scope.{slot_of}
use Rattle.ix_plain.specs.Statements.{each, statement}
use Rattle.ix_formed.specs.Additions.{Makes, AllOf, code_before}
use Rattle.ix_formed.specs.Points.{Known}
use Rattle.ix_formed.specs.TypedStatements.{Ground, IsGround, IsKnown, IsDeclared, HasVariable, Scoped, Stands, Begins, Tells, scope_in}
use Rattle.ix_formed.proofs.ConstructorFields.{Begun, begun_both, AreInitialised, all_initialised}
use Rattle.ix_formed.proofs.FieldsFit.{IsAccepted}
use Rattle.ix_formed.proofs.FormedPrograms.{FitsInside}
use Rattle.ix_formed.proofs.HeadsAre.{IsWritten}
use Rattle.ix_formed.proofs.MethodEntries.{entry_scoped, entry_variables}
use Rattle.ix_formed.proofs.NumberLists.{all_so}
use Rattle.ix_formed.proofs.PlainItems.{made_is, makes_more, makes_then, items_before, before_append}
use Rattle.ix_formed.proofs.PlainMethods.{own_types, g, free, s, grounded, each_written, each_readable, body_written, body_readable, known_is}
use Rattle.ix_formed.proofs.ClassFields.{IsMember}
use Rattle.ix_formed.proofs.SourceMethods.{IsAmong}
use Rattle.ix_formed.proofs.TypedMethods.{whole_locals_fit, whole_locals_own, body_tells}

-- ---- what a constructor begins with

module _ (g : Ground) (ground : IsGround g) (l : Place) (world : l.world ≡ g.world) (class : l.class ≡ g.class) (constructor : g.method.constructor ≡ true) (first last : ℕ) where
  -- and `this` is known behind it
  pub record Started (body : Body) (point : Point) (after : Body) : Type 0 where
    pub begun : Begun g ground l world class constructor first last body point after
    pub this : Known begun.behind 0 (class_type g.class)

  -- the parent's constructor, and then the fields
  pub constructor_starts : (home : Home) (args : List Expr) (span : Span) (body : Body) (point : Point) → AreInitialised g ground l world class constructor first last home.field home.members → param_slots g.method ≤ body.made.free
      → ((slot : ℕ) → body.made.free ≤ slot → param_type_from (param_slot g.method 0) g.method.param_types slot ≡ None) → param_slot g.method 0 ≤ body.made.free
      → Makes (Started body point) (super_call g.site home.parent args span body) → Makes (Started body point) (constructor_start g.site home args span body)
  constructor_starts home args span body point are slots unused low called =
      makes_then (Started body point) (Started body point) (super_call g.site home.parent args span body) (fields_initialised g.site home.field home.members) called
      (λ middle a.
      let one = ground.with_this constructor in
      let same = a.begun.free in
      makes_more (Begun g ground l world class constructor first last middle a.begun.behind) (Started body point)
      (λ after b. record { begun = begun_both g ground l world class constructor first last body point middle after a.begun b; this = b.keeps 0 (omega (arith, one, low, same)) (class_type g.class) a.this })
      (fields_initialised g.site home.field home.members middle)
      (all_initialised g ground l world class constructor first last home.field home.members are middle a.begun.behind (omega (arith, same, slots)) (λ slot le. unused slot (omega (arith, same, le))) (omega (arith, same, low)) a.this))

-- ---- the whole

module _ (unit : Source) (p : Program) (is : IsAccepted unit p) (method : Method) (w : IsWritten unit p is (IsMember unit p) (tables (names unit) unit.classes) method) (constructor : method.constructor ≡ true) where
  abbrev d : MethodDecl
  d = w.decl

  abbrev l : Place
  l = w.place

  abbrev own : Ground
  own = g unit p is method w

  abbrev scope : Names
  scope = s unit p is method w

  abbrev none : ℕ
  none = free unit p is method w

  abbrev types : List Type_
  types = own_types unit p is method w

  abbrev entry : Point
  entry = Some (entry_type p method)

  abbrev pub Starts : Body → Type 0
  Starts = Started own (grounded unit p is method w) l w.head.world refl constructor w.fine.sound.from d.span.to (start none) entry

  known_behind : (behind : Point) → ((slot : ℕ) → slot < none → (ty : Type_) → Known entry slot ty → Known behind slot ty) → (vs : List Variable)
      → AllOf (HasVariable own [] [] none w.fine.sound.from d.span.to) vs → AllOf (λ (v : Variable). (ty : Type_) → v.ty ≡ Some ty → Known entry (slot_of (scope_in own []) (Some v.meaning)) ty) vs
      → AllOf (λ (v : Variable). (ty : Type_) → v.ty ≡ Some ty → Known behind (slot_of (scope_in own []) (Some v.meaning)) ty) vs
  known_behind behind keeps [] has known = tt
  known_behind behind keeps (v ∷ vs) has known = ((λ ty typed. keeps (slot_of (scope_in own []) (Some v.meaning)) has.0.low ty (known.0 ty typed)), known_behind behind keeps vs has.1 known.1)

  -- what it begins with, and its statements
  pub record IsWhole (body : Body) : Type 0 where
    pub begun : Body
    pub started : Starts begun
    pub tells : Tells own scope (after (all_told (map telling d.body)) scope) w.fine.sound.from d.span.to d.span.to d.span.to begun [] types started.begun.behind body

  statements_tell : (begun : Body) → Starts begun → Makes IsWhole (each (map statement d.body) own.site d.span.to begun)
  statements_tell begun started =
      let behind = started.begun.behind in
      let entered = entry_scoped unit p is l d method w.head w.at w.same w.fine.sound.few types w.fine.sound.from d.span.to in
      let known = entry_variables unit p is l d method w.head w.at w.same w.fine.sound.few types w.fine.sound.from d.span.to in
      let no_locals : begun.locals ≡ [] = started.begun.locals in
      let scoped : Scoped own scope begun.locals [] begun.made.free w.fine.sound.from d.span.to =
      subst (λ ls. Scoped own scope ls [] begun.made.free w.fine.sound.from d.span.to) (sym no_locals) (subst (λ f. Scoped own scope [] [] f w.fine.sound.from d.span.to) (sym started.begun.free) entered) in
      let stands : Stands own scope begun.locals behind =
      subst (λ ls. Stands own scope ls behind) (sym no_locals) (record { variables = known_behind behind started.begun.keeps (source.params_from l 0 d.params) entered.variables known; this = λ e. started.this }) in
      makes_more (Tells own scope (after (all_told (map telling d.body)) scope) w.fine.sound.from d.span.to d.span.to d.span.to begun [] types behind) IsWhole (λ body told. record { begun = begun; started = started; tells = told })
      (each (map statement d.body) own.site d.span.to begun)
      (body_tells own (grounded unit p is method w) d.body scope d.span.from w.fine.sound.from d.span.to d.span.to begun [] behind scoped stands (sym (ap (λ (ls : List (Local × Span)). length ls) no_locals)) w.fine.sound.laid (omega arith)
      (all_so (IsAmong (unit_parts unit)) (IsKnown own) (known_is own) (together (map stmt_parts d.body)) w.fine.sound.among)
      (each_written d.body (body_written d w.head.written)) (each_readable d.body (body_readable d w.fine.sound.readable)) w.head.says.body)

  -- The constructor fits inside.
  pub constructor_inside : Makes Starts (written_start own.site w.at d (start none)) → AllOf (λ (local : Local × Span). is_target p method local.0.slot ≡ true) method.locals → FitsInside p method
  constructor_inside starts targets =
      let body = w.same.body in
      let whole = made_is IsWhole (written_start own.site w.at d (start none) >>= each (map statement d.body) own.site d.span.to) body
      (makes_then Starts IsWhole (written_start own.site w.at d (start none)) (each (map statement d.body) own.site d.span.to) starts statements_tell) w.same.made in
      let begun = whole.begun in
      let b = whole.started.begun in
      let a = whole.tells.adds in
      let locals : method.locals ≡ body.locals = ap (λ (m : Method). m.locals) w.same.same in
      let most : body.most ≤ method.slots = (let e = ap (λ (m : Method). m.slots) w.same.same in omega (arith, e)) in
      let few : begun.most ≤ method.slots = (let m = a.most in omega (arith, m, most)) in
      let added : method.locals ≡ a.added = locals ∙ a.grown ∙ ap (λ ls. ls ++ a.added) b.locals in
      let declared : AllOf (IsDeclared w.fine.sound.from d.span.to) method.locals = subst (AllOf (IsDeclared w.fine.sound.from d.span.to)) (sym added) a.places in
      let begins : Begins own body.locals a.added_types d.span.to = record { later = []; later_types = []; locals = locals ∙ sym (append-nil body.locals); types = sym whole.tells.typed ∙ sym (append-nil a.added_types); behind = tt } in
      let leaves = a.leaves begins most false (λ e. absurd (false≢true e)) in
      let items : body.made.items ≡ b.items ++ a.items = a.appended ∙ ap (λ (xs : List Item). xs ++ a.items) b.appended in
      let code : items_code body.made.items ≡ code_before b.items (code_before a.items End) = ap items_code items ∙ items_before (b.items ++ a.items) ∙ before_append b.items a.items End in
      let fits : (code_ways p method types false (items_code body.made.items) entry).fits ≡ true =
      ap (λ c. (code_ways p method types false c entry).fits) code ∙ ap (λ (x : Ways). x.fits) (b.leads declared few false (code_before a.items End)) ∙ leaves.fits End refl in (
        types,
        whole_locals_fit own (grounded unit p is method w) scope w.fine.sound.from d.span.to d.span.to begun b.behind body a b.locals locals (sym whole.tells.typed) targets,
        ap (λ (m : Method). (code_ways p method types false (items_code m.body.items) entry).fits) w.same.same ∙ fits,
        whole_locals_own own (grounded unit p is method w) scope w.fine.sound.from d.span.to d.span.to begun b.behind body a b.locals locals (sym whole.tells.typed),
      )
