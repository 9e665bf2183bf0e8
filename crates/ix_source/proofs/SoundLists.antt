-- What has to be so of a body where a statement stands in it, and that it is so behind the statement.
use Rattle.std.proofs.Common.{◌≡◌, ◌≤◌, ◌<◌, ℕ, Bool, true, false, List, [], ◌∷◌, ◌++◌, length, map, Some, None, Ok, Err, refl, sym, ap, subst, ◌∙◌, arith}
use Rattle.std.specs.Prelude.{if◌then◌else◌, not}
use Rattle.std.proofs.lemmas.Bool.{and_parts}
use Rattle.ix_text.specs.declared.span.Span.{Span}
use Rattle.ix_core.specs.declared.claim.Type_.{Type_}
use Rattle.ix_core.specs.declared.program.Local.{Local}
use Rattle.ix_tree.specs.declared.stmt.Stmt.{Stmt}
use Rattle.ix_tree.specs.Parts.{Part, stmt_parts, together}
use Rattle.ix_tree.specs.Placed.{Layout, nothing, node, LaidOut, row, stmt_piece}
use Rattle.ix_meaning.specs.Bodies as bodies
use Rattle.ix_meaning.specs.Bodies.{Telling, telling, after, all_told, inside as in_turn}
use Rattle.ix_meaning.specs.Scope.{Known as Variable, Scope as Names}
use Rattle.ix_plain.specs.declared.body.Body.{Body}
use Rattle.ix_plain.specs.declared.made.Made.{Made}
use Rattle.ix_plain.specs.Parts.{Within}
use Rattle.ix_plain.specs.Scope.{slot_of}
use Rattle.ix_plain.specs.Statements as statements
use Rattle.ix_plain.specs.Statements.{Run, Running, Inside, branch, statement}
use Rattle.ix_formed.specs.Additions.{Makes, AllOf}
use Rattle.ix_formed.specs.Extensions.{Extends, HasSlotIn}
use Rattle.ix_formed.specs.LocalTypes.{stmt_types}
use Rattle.ix_formed.specs.Points.{Known}
use Rattle.ix_formed.specs.Readable.{Statement, stmt_shape, is_part, each_fine}
use Rattle.ix_formed.specs.TypedParts.{IsStatement, until}
use Rattle.ix_formed.specs.TypedStatements.{Ground, IsGround, Says, IsKnown, HasVariable, Scoped, Stands, IsDeclared, Outside, Tells, scope_in}
use Rattle.ix_formed.specs.Written.{is_written_stmt, all_true}
use Rattle.ix_formed.proofs.LayoutSpans.{laid_parts, laid_up}
use Rattle.ix_formed.proofs.NumberLists.{both_true, all_so}
use Rattle.ix_formed.proofs.PlainItems.{makes_more, makes_then, makes_both}
use Rattle.ix_formed.proofs.ScopedLocals.{scoped_within, scoped_for, scoped_more, later_outside}
use Rattle.ix_formed.proofs.StatementsExtend.{statement_extends}
use Rattle.ix_formed.proofs.StatementsTell.{statement_is}
use Rattle.ix_formed.proofs.TypedBlocks.{Nests, part_nests, closed_scope}
use Rattle.ix_formed.proofs.TypedExpressions.{all_parted}
use Rattle.ix_formed.proofs.TypedForms.{parted, after_both}
use Rattle.ix_source.specs.Running as running
use Rattle.ix_source.specs.SoundStatements.{statement_soundness, where_made, begun, part_sound, each_sound}
use Rattle.ix_source.proofs.SoundEvaluations.{Sight, seen_ground}
use Rattle.ix_source.proofs.SoundRuns.{running_is}
use Rattle.ix_source.proofs.VariablesOwn.{Behind, OwnedIn, owned_more}

-- what is so of all that is made
pub made_so : {A : Type 0} (r : Within A) (so : A → Bool) → Makes (λ made. so made ≡ true) r → where_made r so ≡ true
made_so (Ok made) so holds = holds
made_so (Err limit) so holds = refl

module _ (g : Ground) (ground : IsGround g) (v : Sight g) where
  abbrev k : running.Ground
  k = seen_ground g ground v

  -- The variables in scope own their slots, from a place to the end of a block.
  pub record StandsAt (s : Names) (body : Body) (from end : ℕ) : Type 0 where
    pub types : List Type_
    pub scoped : Scoped g s body.locals types body.made.free from end
    pub counted : s.next ≡ length body.locals
    pub owned : OwnedIn g s.names body.locals
    pub object : s.has_object ≡ true → v.has_this ≡ true

  -- where no way leads everything is known
  none_known : (locals : List (Local × Span)) (vs : List Variable) → AllOf (λ (x : Variable). (ty : Type_) → x.ty ≡ Some ty → Known None (slot_of (scope_in g locals) (Some x.meaning)) ty) vs
  none_known locals [] = tt
  none_known locals (x ∷ vs) = ((λ ty e. tt), none_known locals vs)

  pub none_stands : (s : Names) (locals : List (Local × Span)) → Stands g s locals None
  none_stands s locals = record { variables = none_known locals s.names; this = λ e. tt }

  -- ---- the same in another body, between other places

  abbrev pub stands_same : (s : Names) (one other : Body) (from end : ℕ) → other.locals ≡ one.locals → other.made.free ≡ one.made.free → StandsAt s one from end → StandsAt s other from end
  stands_same s one other from end locals free at = record {
    types = at.types;
    scoped = subst (λ l. Scoped g s l at.types other.made.free from end) (sym locals) (subst (λ n. Scoped g s one.locals at.types n from end) (sym free) at.scoped);
    counted = at.counted ∙ ap (λ (l : List (Local × Span)). length l) (sym locals);
    owned = subst (OwnedIn g s.names) (sym locals) at.owned;
    object = at.object;
  }

  abbrev pub stands_within : (s : Names) (body : Body) (from end lo hi : ℕ) → from ≤ lo → hi ≤ end → StandsAt s body from end → StandsAt s body lo hi
  stands_within s body from end lo hi le up at = record { types = at.types; scoped = scoped_within g s body.locals at.types body.made.free from end lo hi le up at.scoped; counted = at.counted; owned = at.owned; object = at.object }

  -- in the turn of a loop
  abbrev pub stands_inside : (s : Names) (body : Body) (from end : ℕ) → StandsAt s body from end → StandsAt (in_turn s) body from end
  stands_inside s body from end at = record {
    types = at.types;
    scoped = scoped_for g s (in_turn s) body.locals at.types body.made.free from end refl refl refl (λ e. e) (λ e. e) refl refl at.scoped;
    counted = at.counted;
    owned = at.owned;
    object = at.object;
  }

  -- ---- a statement

  -- It is sound where it stands; and a local that it declares owns its slot behind it.
  abbrev pub DoesSound : Span → Run → (running.Ground → ℕ → Body → Bool) → Telling → Layout → List Part → Bool → Statement → Type 0
  DoesSound span run sound t inner ps written shape = (s : Names) (end : ℕ) (body : Body) → StandsAt s body span.from end → span.from < span.to → span.to ≤ end → LaidOut span.from span.from span.to inner → AllOf (IsKnown g) ps
      → written ≡ true → shape.fine ≡ true → Says g (t.notes s)
      → (sound k end body ≡ true) × (shape.declares ≡ true → Makes (λ (made : Body). OwnedIn g (t.names s) made.locals) (run g.site end body))

  pub record IsSoundStatement (x : Stmt) : Type 0 where
    pub inner : Layout
    pub placed : stmt_piece x ≡ node (statement x).span inner nothing
    pub sounds : DoesSound (statement x).span (statement x).run (statement_soundness x).sound (telling x) inner (stmt_parts x) (is_written_stmt x) (stmt_shape x)

  abbrev pub AllSound : List Stmt → Type 0
  AllSound xs = AllOf IsSoundStatement xs

  -- ---- what was added

  behind_is : (free most : ℕ) (locals : List (Local × Span)) → AllOf (HasSlotIn free most) locals → Behind free locals
  behind_is free most locals placed = all_so (HasSlotIn free most) (λ (local : Local × Span). free ≤ local.0.slot) (λ local p. p.0) locals placed

  -- names that stay in scope own their slots behind what was added
  owned_on : (vs : List Variable) (body made : Body) (types : List Type_) (lo hi : ℕ) → AllOf (HasVariable g body.locals types body.made.free lo hi) vs → OwnedIn g vs body.locals → Extends body made → OwnedIn g vs made.locals
  owned_on vs body made types lo hi all owned x =
      subst (OwnedIn g vs) (sym x.moves.grown) (owned_more g vs body.locals x.moves.locals types body.made.free lo hi all (behind_is body.made.free made.most x.moves.locals x.moves.placed) owned)

  -- ---- one statement, and what is behind it

  module _ (x : Stmt) (is : IsSoundStatement x) where
    abbrev t : Telling
    t = telling x

    abbrev r : Running
    r = statement x

    abbrev sh : Statement
    sh = stmt_shape x

    tells : IsStatement g r t (stmt_piece x) (stmt_parts x) (is_written_stmt x) sh (stmt_types g.site.names x)
    tells = statement_is g ground x

    until_most : (b : Bool) (end to : ℕ) → to ≤ end → (if b then end else to) ≤ end
    until_most true end to le = omega arith
    until_most false end to le = le

    -- It is sound, and what has to be so is so behind it.
    pub statement_sounds : (s : Names) (start lo hi end : ℕ) (body : Body) → StandsAt s body lo end → LaidOut start lo hi (stmt_piece x) → hi ≤ end → AllOf (IsKnown g) (stmt_parts x) → is_written_stmt x ≡ true → sh.fine ≡ true → Says g (t.notes s)
        → ((statement_soundness x).sound k end body ≡ true) × Makes (λ (made : Body). StandsAt (after t s) made hi end) (r.run g.site end body)
    statement_sounds s start lo hi end body at laid le known wr fine said =
        let own = subst (LaidOut start lo hi) is.placed laid in
        let told = subst (LaidOut start lo hi) tells.placed laid in
        let up = own.3 in
        let here = stands_within s body lo end r.span.from end own.0 (omega arith) at in
        let sounds = is.sounds s end body here own.1 (omega (arith, up, le)) own.2 known wr fine said in
        let Told : Body → Type 0 = Tells g s (after t s) r.span.from r.span.to (until g sh end r.span) end body at.types (stmt_types g.site.names x) None in (
          sounds.0,
          makes_more (λ (made : Body). Told made × OwnedIn g (t.names s) made.locals) (λ (made : Body). StandsAt (after t s) made hi end)
              (λ made m. record {
                types = at.types ++ m.0.adds.added_types;
                scoped = scoped_within g (after t s) made.locals (at.types ++ m.0.adds.added_types) made.made.free r.span.to end hi end up (omega arith) m.0.scoped;
                counted = m.0.counted;
                owned = m.1;
                object = at.object;
              }) (r.run g.site end body)
              (makes_both Told (λ (made : Body). OwnedIn g (t.names s) made.locals) (r.run g.site end body)
              (tells.tells s end body at.types None here.scoped (none_stands s body.locals) at.counted told.1 (omega (arith, up, le)) told.2 known wr fine said) (owned_then sh.declares refl sounds.1)),
        )
      where
        owned_then : (b : Bool) → sh.declares ≡ b → (sh.declares ≡ true → Makes (λ (made : Body). OwnedIn g (t.names s) made.locals) (r.run g.site end body)) → Makes (λ (made : Body). OwnedIn g (t.names s) made.locals) (r.run g.site end body)
        owned_then true e declared = declared e
        owned_then false e declared =
            makes_more (Extends body) (λ (made : Body). OwnedIn g (t.names s) made.locals)
            (λ made m. subst (λ vs. OwnedIn g vs made.locals) (sym (tells.names fine e s)) (owned_on s.names body made at.types lo end at.scoped.variables at.owned m))
            (r.run g.site end body) (statement_extends x g.site end body)

    -- ---- a part of another statement

    -- what is so behind it
    pub record BehindPart (s : Names) (lo hi end : ℕ) (body : Body) (made : Inside) : Type 0 where
      pub stands : StandsAt (after t s) made.body hi end
      pub owned : OwnedIn g s.names made.body.locals
      -- at places before it the same variables are in scope
      pub before : (from to : ℕ) (types : List Type_) → to ≤ lo → Scoped g s body.locals types body.made.free from to → (more : List Type_) × Scoped g s made.body.locals more made.body.made.free from to

    -- locals are added in further slots
    part_grows : (s : Names) (body : Body) (types : List Type_) (lo hi : ℕ) → AllOf (HasVariable g body.locals types body.made.free lo hi) s.names → OwnedIn g s.names body.locals → Makes (λ (made : Inside). OwnedIn g s.names made.body.locals) (branch r g.site body)
    part_grows s body types lo hi all owned =
        makes_then (Extends (begun body)) (λ (made : Inside). OwnedIn g s.names made.body.locals) (r.run g.site r.span.to (begun body)) _ (statement_extends x g.site r.span.to (begun body))
        (λ inner m. owned_on s.names (begun body) inner types lo hi all owned m)

    pub part_sounds : (s : Names) (start lo hi end : ℕ) (body : Body) → StandsAt s body lo end → LaidOut start lo hi (stmt_piece x) → hi ≤ end → AllOf (IsKnown g) (stmt_parts x) → is_written_stmt x ≡ true → is_part sh ≡ true → Says g (t.notes s)
        → (part_sound (statement_soundness x) k body ≡ true) × Makes (BehindPart s lo hi end body) (branch r g.site body)
    part_sounds s start lo hi end body at laid le known wr part said =
        let q = and_parts (not sh.declares) sh.fine part in
        let own = subst (LaidOut start lo hi) is.placed laid in
        let up = own.3 in
        let far = laid_up start lo hi (stmt_piece x) laid in
        let here = stands_same s body (begun body) r.span.from r.span.to refl refl (stands_within s body lo end r.span.from r.span.to own.0 (omega (arith, up, le)) at) in
        let sounds = (is.sounds s r.span.to (begun body) here own.1 (omega arith) own.2 known wr q.1 said).0 in (
          subst (λ (x' : Running). (statement_soundness x).sound k x'.span.to (begun body) ≡ true) (sym (running_is x)) sounds,
          makes_more (λ (made : Inside). Nests g t (stmt_types g.site.names x) s lo hi body at.types None made × OwnedIn g s.names made.body.locals) (BehindPart s lo hi end body)
              (λ made m. record {
                owned = m.1;
                before = λ from to types before scoped. (
                  types ++ m.0.added_types,
                  subst (λ l. Scoped g s l (types ++ m.0.added_types) made.body.made.free from to) (sym m.0.grown)
                      (subst (λ (z : Made). Scoped g s (body.locals ++ m.0.added) (types ++ m.0.added_types) z.free from to) (sym m.0.same)
                      (scoped_more g s body.locals m.0.added types m.0.added_types body.made.free from to from to scoped m.0.typed (omega arith) (omega arith)
                      (all_so (IsDeclared lo hi) (Outside from to) (λ l d. later_outside from to l (let p = d.0 in omega (arith, p, before))) m.0.added m.0.places))),
                );
                stands = record {
                  types = at.types ++ m.0.added_types;
                  scoped = subst (λ (z : Made). Scoped g (after t s) made.body.locals (at.types ++ m.0.added_types) z.free hi end) (sym m.0.same)
                      (closed_scope g s (after t s) body.locals m.0.added at.types m.0.added_types made.body.locals body.made.free lo hi end at.scoped refl refl refl refl refl refl m.0.names m.0.grown m.0.typed far m.0.places);
                  counted = m.0.counted;
                  owned = subst (λ vs. OwnedIn g vs made.body.locals) (sym m.0.names) m.1;
                  object = at.object;
                };
              }) (branch r g.site body)
              (makes_both (Nests g t (stmt_types g.site.names x) s lo hi body at.types None) (λ (made : Inside). OwnedIn g s.names made.body.locals) (branch r g.site body)
              (part_nests g r t (stmt_piece x) (stmt_parts x) (is_written_stmt x) sh (stmt_types g.site.names x) tells s start lo hi end body at.types None at.scoped (none_stands s body.locals) at.counted laid le known wr part said)
              (part_grows s body at.types lo end at.scoped.variables at.owned)),
        )

  -- ---- one statement behind the other

  none_behind : (s : Names) (body : Body) (lo hi end : ℕ) → StandsAt s body lo end → lo ≤ hi → StandsAt (after bodies.nothing s) body hi end
  none_behind s body lo hi end at le = record {
    types = at.types;
    scoped = scoped_for g s (after bodies.nothing s) body.locals at.types body.made.free hi end refl refl refl (λ e. e) (λ e. e) refl refl (scoped_within g s body.locals at.types body.made.free lo end hi end le (omega arith) at.scoped);
    counted = let c = at.counted in omega (arith, c);
    owned = at.owned;
    object = at.object;
  }

  pub each_sounds : (xs : List Stmt) → AllSound xs → (s : Names) (start lo hi end : ℕ) (body : Body) → StandsAt s body lo end → LaidOut start lo hi (row (map stmt_piece xs)) → hi ≤ end → AllOf (IsKnown g) (together (map stmt_parts xs)) → all_true (map is_written_stmt xs) ≡ true
      → each_fine (map stmt_shape xs) ≡ true → Says g ((all_told (map telling xs)).notes s)
      → (each_sound (map statement_soundness xs) k end body ≡ true) × Makes (λ (made : Body). StandsAt (after (all_told (map telling xs)) s) made hi end) (statements.each (map statement xs) g.site end body)
  each_sounds [] all s start lo hi end body at laid le known wr fine said = (refl, none_behind s body lo hi end at laid)
  each_sounds (x ∷ xs) all s start lo hi end body at laid le known wr fine said =
      let q = laid_parts start lo hi (stmt_piece x) (row (map stmt_piece xs)) laid in
      let rest = laid_up start q.0 hi (row (map stmt_piece xs)) q.2 in
      let kn = all_parted (IsKnown g) (stmt_parts x) (together (map stmt_parts xs)) known in
      let w = and_parts (is_written_stmt x) (all_true (map is_written_stmt xs)) wr in
      let f = and_parts (stmt_shape x).fine (each_fine (map stmt_shape xs)) fine in
      let n = parted g ground ((telling x).notes s) ((all_told (map telling xs)).notes (after (telling x) s)) said in
      let one = statement_sounds x all.0 s start lo q.0 end body at q.1 (omega (arith, rest, le)) kn.0 w.0 f.0 n.0 in
      let more = λ (made : Body) (there : StandsAt (after (telling x) s) made q.0 end). each_sounds xs all.1 (after (telling x) s) start q.0 hi end made there q.2 le kn.1 w.1 f.1 n.1 in (
        both_true ((statement_soundness x).sound k end body) _ one.0
            (subst (λ (x' : Running). where_made (x'.run g.site end body) (each_sound (map statement_soundness xs) k end) ≡ true) (sym (running_is x))
            (made_so ((statement x).run g.site end body) (each_sound (map statement_soundness xs) k end)
            (makes_more (λ (made : Body). StandsAt (after (telling x) s) made q.0 end) (λ (made : Body). each_sound (map statement_soundness xs) k end made ≡ true) (λ made there. (more made there).0) ((statement x).run g.site end body) one.1))),
        subst (λ next. Makes (λ (made : Body). StandsAt next made hi end) (statements.each (map statement (x ∷ xs)) g.site end body)) (after_both g ground (telling x) (all_told (map telling xs)) s)
            (makes_then (λ (made : Body). StandsAt (after (telling x) s) made q.0 end) (λ (made : Body). StandsAt (after (all_told (map telling xs)) (after (telling x) s)) made hi end) ((statement x).run g.site end body) _ one.1
            (λ made there. (more made there).1)),
      )
