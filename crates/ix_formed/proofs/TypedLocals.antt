-- A declaration of locals tells what it says.
use Rattle.std.proofs.Common.{◌≡◌, ◌≤◌, ◌<◌, ℕ, ◌+◌, max, Bool, true, false, List, [], ◌∷◌, ◌++◌, length, Option, Some, None, Ok, Err, refl, sym, ap, subst, ◌∙◌, arith, append_assoc, length-append}
use Rattle.std.specs.Prelude.{if◌then◌else◌, not, nat_lt, ◌==◌, slice_get}
use Rattle.std.specs.List.{list_all}
use Rattle.ix_text.specs.declared.span.Span.{Span}
use Rattle.ix_core.specs.declared.claim.Name.TheVariants as name
use Rattle.ix_core.specs.declared.claim.Type_.{Type_}
use Rattle.ix_core.specs.declared.code.Item.TheVariants as item
use Rattle.ix_core.specs.declared.op.Op.{Op}
use Rattle.ix_core.specs.declared.op.OpKind.TheVariants as op
use Rattle.ix_core.specs.declared.program.Local.{Local}
use Rattle.ix_core.specs.Formed.{assigned, is_target, literal_fits, claim_fits, others, local_named_type, local_type_from}
use Rattle.ix_core.specs.Types.{Point, is_type, is_of}
use Rattle.ix_tree.specs.declared.decl.LocalDecl.{LocalDecl}
use Rattle.ix_tree.specs.declared.expr.Init.{Init}
use Rattle.ix_tree.specs.Parts as parts
use Rattle.ix_tree.specs.Parts.{init_parts}
use Rattle.ix_tree.specs.Placed as placed
use Rattle.ix_tree.specs.Placed.{nothing, LaidOut, row, init_piece}
use Rattle.ix_meaning.specs.declared.note.Meaning.TheVariants as meaning
use Rattle.ix_meaning.specs.declared.note.NameError.{NameError}
use Rattle.ix_meaning.specs.declared.note.Note.TheVariants.{Wrong}
use Rattle.ix_meaning.specs.declared.note.Rule.TheVariants as rule
use Rattle.ix_meaning.specs.Annotated.{written, element_claims, target_before, of_variable}
use Rattle.ix_meaning.specs.Bodies.{after, declared, local_known, local_declaration, declares_note, is_taken, init_notes, pending}
use Rattle.ix_meaning.specs.Rules.{duplicate_name}
use Rattle.ix_meaning.specs.Scope.{Known as Variable, Scope as Names}
use Rattle.ix_meaning.specs.Values as reading
use Rattle.ix_plain.specs.declared.body.Body.{Body}
use Rattle.ix_plain.specs.declared.made.Spot.TheVariants as spot
use Rattle.ix_meaning.specs.declared.note.Which.TheVariants as which
use Rattle.ix_plain.specs.Parts.{◌>>=◌, computed, write, default, most_slots}
use Rattle.ix_plain.specs.Scope.{is_among, slot_of, declared_type, declared_claims}
use Rattle.ix_plain.specs.Statements as statements
use Rattle.ix_plain.specs.Statements.{Evaluated, behind_value, init_evaluated, with_last}
use Rattle.ix_plain.specs.Values.{filling}
use Rattle.ix_formed.specs.Additions.{Makes, AllOf}
use Rattle.ix_formed.specs.NoErrors.{Agrees}
use Rattle.ix_formed.specs.OwnSlots.{HasOwnSlot}
use Rattle.ix_formed.specs.Points.{Keeps}
use Rattle.ix_formed.specs.Readable.{is_readable_init}
use Rattle.ix_formed.specs.Typed.{Gives}
use Rattle.ix_formed.specs.TypedStatements.{Ground, IsGround, Says, IsKnown, Within, scope_in, HasVariable, Scoped, Stands, Begins, Tells}
use Rattle.ix_formed.specs.Written.{is_written_type, is_written_init, maybe_true}
use Rattle.ix_formed.proofs.EachMember.{said_parts, not_broken, type_known}
use Rattle.ix_formed.proofs.LayoutSpans.{laid_parts, init_spans, init_single}
use Rattle.ix_formed.proofs.NumberLists.{both_true, is_less}
use Rattle.ix_formed.proofs.PlainItems.{makes_then}
use Rattle.ix_formed.proofs.ScopedLocals.{first_none, slot_is_own, scoped_within, scoped_for, stands_for, stands_more, has_first}
use Rattle.ix_formed.proofs.TypedDeclarations.{scoped_pending, scoped_declared, stands_declared, copy_leads, default_is}
use Rattle.ix_formed.proofs.TypedEvaluations.{init_filled}
use Rattle.ix_formed.proofs.TypedItems.{leads_leave, none_passes, begins_as, Evaluates, value_evaluates}
use Rattle.ix_formed.proofs.TypedPoints.{keeps_none, keeps_both, assigned_known, new_keeps, leads_both}
use Rattle.ix_formed.proofs.TypedSettings.{Apart}
use Rattle.ix_formed.proofs.TypedSteps.{target_is, op_gives}
use Rattle.ix_formed.proofs.WrittenAnswers.{answered_both, answered_op, answered_plain}

module _ (g : Ground) (ground : IsGround g) where
  no_error : (error : NameError) → Agrees g.site.names g.parts (Wrong error) → ⊥
  no_error error wrong = wrong

  module _ (d : LocalDecl) (s : Names) (lo mid end : ℕ) (body : Body) (types : List Type_) (point : Point) (scoped : Scoped g s body.locals types body.made.free lo end) (stands : Stands g s body.locals point) (counted : s.next ≡ length body.locals)
      (from : lo ≤ d.name.span.from) (some : d.name.span.from < d.name.span.to) (to : d.name.span.to ≤ mid) (up : mid ≤ end) (said : Says g ((declared d).notes s)) (written_decl : is_written_type d.ty ≡ true) where
    -- the type of the local, by the table
    abbrev own_types : List Type_
    own_types = declared_type (g.site.names.declared d.name.span) ∷ []

    -- what is noted of the local
    record IsNoted (ty : Type_) : Type 0 where
      pub typed : (local_declaration d s).ty ≡ Some ty
      pub real : is_type g.program ty ≡ true
      pub table : declared_type (g.site.names.declared d.name.span) ≡ ty
      pub claims : declared_claims (g.site.names.declared d.name.span) ≡ (local_declaration d s).claims
      pub free_name : is_taken s d.name ≡ false
      pub filled : Says g (init_notes d.init (pending d s) (Some ty))

    noted : (ty : Type_) × IsNoted ty
    noted =
        let x = local_declaration d s in
        let a = said_parts (λ note. Agrees g.site.names g.parts note) x.notes _ said in
        let b = said_parts (λ note. Agrees g.site.names g.parts note) (duplicate_name (is_taken s d.name) d.name.span) _ a.1 in
        let c = said_parts (λ note. Agrees g.site.names g.parts note) (declares_note d.name.span x.ty (of_variable x.claims)) _ b.1 in
        let known = type_known (λ note. Agrees g.site.names g.parts note) no_error s.world.class d.ty (element_claims (target_before d.ty) d.mods.annots) (said_parts (λ note. Agrees g.site.names g.parts note) (written s.world.class d.ty []).notes _ a.0).0 in
        let table = (subst (λ (o : Option Type_). Says g (declares_note d.name.span o (of_variable x.claims))) known.1 c.0).0 in (
          known.0,
          record {
            typed = known.1;
            real = ground.declared_types d.ty d.mods.annots known.0 (ap (λ (w : Rattle.ix_meaning.specs.Members.World). (written w.class d.ty (element_claims (target_before d.ty) d.mods.annots)).ty) (sym scoped.world) ∙ known.1);
            table = ap declared_type table;
            claims = ap declared_claims table;
            free_name = not_broken (λ note. Agrees g.site.names g.parts note) no_error (is_taken s d.name) rule.DuplicateName d.name.span b.0;
            filled = subst (λ (o : Option Type_). Says g (init_notes d.init (pending d s) o)) known.1 c.1;
          },
        )

    -- the local, and the body in which it is declared
    abbrev local : Local × Span
    local = (record { slot = body.made.free; name = d.name.text; claims = declared_claims (g.site.names.declared d.name.span) }, record { from = d.name.span.from; to = end })

    abbrev begun : Body
    begun = record {
      made = record { items = body.made.items; free = body.made.free + 1 };
      locals = body.locals ++ local ∷ [];
      most = max body.most (body.made.free + 1);
      loops = body.loops;
    }

    module _ (ty : Type_) (is : IsNoted ty) where
      abbrev now : List Type_
      now = types ++ ty ∷ []

      apart_from : (one other : ℕ) → is_among other (one ∷ []) ≡ false → not (one == other) ≡ true
      apart_from one other e = ap not (by_test (one == other) e)
        where
          by_test : (b : Bool) → (if b then true else false) ≡ false → b ≡ false
          by_test true e = e
          by_test false e = e

      -- a value was computed, and is written into the local
      last_tells : (given : Type_) → is_type g.program given ≡ true → is_of g.program given ty ≡ true → (whole : Span) (ps : List Span) → length ps ≡ 2 → Within d.name.span.from mid whole → (ev : Evaluated)
          → Evaluates g mid (body.made.free ∷ []) begun now point given ev
          → Tells g s (after (declared d) s) lo mid end end body types own_types point (with_last ev.body (item.Do (record { kind = op.Copy body.made.free ev.slot given; span = whole; parts = ps })))
      last_tells given real below whole ps two within ev e =
          let o : Op = record { kind = op.Copy body.made.free ev.slot given; span = whole; parts = ps } in
          let held = e.holds real in
          let behind = assigned body.made.free ty e.behind in
          let keeps_e : Keeps body.made.free point e.behind = λ slot lt t known. e.keeps slot (omega (arith, lt)) t known in
          let names : (after (declared d) s).names ≡ s.names ++ local_known d s (local_declaration d s).ty ∷ [] =
          ap (λ b. if b then s.names else s.names ++ local_known d s (local_declaration d s).ty ∷ []) is.free_name in
          let means : (local_known d s (local_declaration d s).ty).meaning ≡ meaning.Local (length body.locals) = ap meaning.Local counted in
          let keeps_all : Keeps body.made.free point behind = keeps_both body.made.free body.made.free point e.behind behind (omega arith) keeps_e (new_keeps body.made.free ty e.behind) in
          record {
            adds = record {
              added = local ∷ [];
              added_types = ty ∷ [];
              grown = e.locals;
              typed = refl;
              places = ((from, omega arith), tt);
              do_fit = λ begins. (is.real, fit begins, own begins, tt);
              most = (let m = e.most in omega (arith, m));
              up = (let m = e.free in omega (arith, m));
              items = e.items ++ item.Do o ∷ [];
              appended = ap (λ l. l ++ item.Do o ∷ []) e.appended ∙ append_assoc body.made.items e.items (item.Do o ∷ []);
              behind = behind;
              breaks_by = λ x. x;
              turns_by = λ x. x;
              leaves = λ begins few in_loop loops.
                  let b = begins_as g ev.body.locals (body.locals ++ local ∷ []) now now mid e.locals refl begins in
                  let m = e.most in
                  let low = e.low in
                  leads_leave g in_loop (e.items ++ item.Do o ∷ []) point behind
                  (leads_both g.program g.method g.locals e.items (item.Do o ∷ []) point e.behind behind (e.leads b few)
                  (copy_leads g s body.locals types body.made.free lo end scoped local ty refl from refl mid mid (omega arith) up b o ev.slot given e.behind refl within two (omega (arith, few, m)) (omega (arith, few, low))
                  (apart_from body.made.free ev.slot e.apart) held.held held.known held.fits below));
              answered = λ asked. answered_both e.items (item.Do o ∷ []) (answered_plain e.items e.plain) (answered_op o);
              keeps = keeps_all;
              keeps_breaks = none_passes g body.made.free point;
              keeps_turns = none_passes g body.made.free point;
            };
            scoped = subst (λ l. Scoped g (after (declared d) s) l now ev.body.made.free mid end) (sym e.locals)
                (subst (λ n. Scoped g (after (declared d) s) (body.locals ++ local ∷ []) now n mid end) (sym e.free)
                (scoped_within g (after (declared d) s) (body.locals ++ local ∷ []) now (body.made.free + 1) d.name.span.from end mid end (omega (arith, some, to)) (omega arith)
                (scoped_declared g s body.locals types body.made.free lo end scoped local ty refl from refl (after (declared d) s) (local_known d s (local_declaration d s).ty) refl refl refl refl refl refl names means is.typed is.real)));
            stands = subst (λ l. Stands g (after (declared d) s) l behind) (sym e.locals)
                (stands_declared g s body.locals types body.made.free lo end scoped local ty refl from refl (after (declared d) s) (local_known d s (local_declaration d s).ty) point behind refl names means is.typed keeps_all
                (assigned_known body.made.free ty e.behind) stands);
            typed = ap (λ t. t ∷ []) (sym is.table);
            counted = (let a = ap (λ (l : List (Local × Span)). length l) e.locals in let b = length-append body.locals (local ∷ []) in omega (arith, a, b, counted));
          }
        where
          own : Begins g ev.body.locals now mid → HasOwnSlot g.method.locals (length body.locals) local
          own begins other held is inside same =
              let b = begins_as g ev.body.locals (body.locals ++ local ∷ []) now now mid e.locals refl begins in
              let none = (first_none _ (local_type_from body.locals types body.made.free local.1) (scoped.unused body.made.free (omega arith) local.1 (from, omega (arith, some, to, up)))).1 in
              slot_is_own body.locals b.later types local mid scoped.typed none (omega (arith, some, to)) b.behind other held (subst (λ ls. slice_get ls other ≡ Some held) b.locals is) inside same

          fit : Begins g ev.body.locals now mid → list_all (claim_fits ty (others (name.Local (length body.locals)) (local_named_type g.program g.method g.locals local.1))) local.0.claims ≡ true
          fit begins =
              let b = begins_as g ev.body.locals (body.locals ++ local ∷ []) now now mid e.locals refl begins in
              let b2 = Rattle.ix_formed.proofs.ScopedLocals.begins_before g body.locals (local ∷ []) types (ty ∷ []) mid lo end ((from, omega arith), tt) (omega (arith, from, some, to)) b in
              let c = ground.declared_claims s d body.locals types body.made.free lo end lo scoped counted written_decl from (omega (arith, some, to, up)) b2 ty is.typed in
              subst (λ n. list_all (claim_fits ty (others (name.Local n) (local_named_type g.program g.method g.locals local.1))) local.0.claims ≡ true) counted
              (subst (λ l. list_all (claim_fits ty (others (name.Local s.next) (local_named_type g.program g.method g.locals local.1))) l ≡ true) (sym is.claims) c)

      -- ---- without an initialiser

      default_tells : Makes (Tells g s (after (declared d) s) lo mid end end body types own_types point) (statements.with_default body.made.free (declared_type (g.site.names.declared d.name.span)) d.name.span begun)
      default_tells =
          subst (λ t. Makes (Tells g s (after (declared d) s) lo mid end end body types own_types point) (statements.with_default body.made.free t d.name.span begun)) (sym is.table)
          (makes_then (Evaluates g mid (body.made.free ∷ []) begun now point ty) (Tells g s (after (declared d) s) lo mid end end body types own_types point) (computed begun.made (op.Const begun.made.free (default ty)) d.name.span >>= behind_value begun) _
          (value_evaluates g mid (body.made.free ∷ []) [] begun now point ty (computed begun.made (op.Const begun.made.free (default ty)) d.name.span) constant)
          (λ ev e. last_tells ty is.real (itself ty is.real) d.name.span (d.name.span ∷ d.name.span ∷ []) refl (omega arith, omega (arith, some, to)) ev e))
        where
          itself : (t : Type_) → is_type g.program t ≡ true → is_of g.program t t ≡ true
          itself t real = ground.members.itself t real

          free_apart : is_among (body.made.free + 1) (body.made.free ∷ []) ≡ false
          free_apart = ap (λ b. if b then true else false) (is_less body.made.free (body.made.free + 1) (omega arith))

          constant : Makes (Gives g.program g.method g.locals (Begins g begun.locals now mid) ((body.made.free ∷ []) ++ []) begun.made point ty) (computed begun.made (op.Const begun.made.free (default ty)) d.name.span)
          constant =
              let def = default_is g ty is.real in
              op_gives g.program g.method g.locals (Begins g begun.locals now mid) (body.made.free ∷ []) begun.made point (record { kind = op.Const begun.made.free (default ty); span = d.name.span; parts = [] }) ty free_apart (itself ty) refl
              (λ begins. ap (λ t. assigned begun.made.free t point) def.0)
              (λ begins lt. both_true (literal_fits g.program g.method (default ty)) _ def.1 (both_true (is_target g.program g.method begun.made.free) true (target_is g.program g.method begun.made.free (let a = scoped.params in omega (arith, a)) lt) refl))

      -- ---- with one

      init_tells : (i : Init) → d.init ≡ Some i → LaidOut d.name.span.to d.name.span.to mid (init_piece i) → AllOf (IsKnown g) (init_parts i) → is_written_init i ≡ true → is_readable_init i ≡ true
          → Makes (Tells g s (after (declared d) s) lo mid end end body types own_types point) (statements.with_init body.made.free (declared_type (g.site.names.declared d.name.span)) d.name.span i g.site begun)
      init_tells i same laid known wr fine =
          let single = init_single i in
          let n = subst (LaidOut d.name.span.to d.name.span.to mid) single.1 laid in
          let inside = scoped_pending g s body.locals types body.made.free lo end scoped local ty refl from refl in
          let kept = scoped_within g (pending d s) (body.locals ++ local ∷ []) now (body.made.free + 1) d.name.span.from end d.name.span.to mid (omega (arith, some)) up
          (scoped_for g s (pending d s) (body.locals ++ local ∷ []) now (body.made.free + 1) d.name.span.from end refl refl refl (λ e. e) (λ e. e) refl refl inside) in
          let there = stands_for g s (pending d s) (body.locals ++ local ∷ []) point (λ e. e) refl
          (stands_more g s body.locals (local ∷ []) types body.made.free lo end point point scoped (keeps_none body.made.free point) (has_first g s body.locals types body.made.free lo end scoped) stands) in
          let f = init_filled g ground (pending d s) begun now point d.name.span.to mid kept there i (init_spans i d.name.span.to d.name.span.to mid (omega arith) laid) known wr fine (body.made.free ∷ [])
          ((scoped.first, omega arith), tt) (variables_apart s.names scoped.variables) ty is.real (ap_notes same is.filled) in
          subst (λ t. Makes (Tells g s (after (declared d) s) lo mid end end body types own_types point) (statements.with_init body.made.free t d.name.span i g.site begun)) (sym is.table)
          (makes_then (Evaluates g mid (body.made.free ∷ []) begun now point f.0) (Tells g s (after (declared d) s) lo mid end end body types own_types point) (init_evaluated g.site i ty begun) _ f.4
          (λ ev e. subst (λ t. Tells g s (after (declared d) s) lo mid end end body types own_types point (with_last ev.body (write (spot.Variable body.made.free) ev.slot t (filling i).span d.name.span (filling i).span))) (sym f.1)
          (last_tells f.0 f.2 f.3 (filling i).span (d.name.span ∷ (filling i).span ∷ []) refl ((let a = n.0 in omega (arith, a, some)), (let a = n.1 in let b = n.3 in omega (arith, a, b))) ev e)))
        where
          ap_notes : d.init ≡ Some i → Says g (init_notes d.init (pending d s) (Some ty)) → Says g (reading.filling i (pending d s) (Some ty))
          ap_notes e said = subst (λ (o : Option Init). Says g (init_notes o (pending d s) (Some ty))) e said

          variables_apart : (vs : List Variable) → AllOf (HasVariable g body.locals types body.made.free lo end) vs → AllOf (λ (v : Variable). Apart g ground (body.made.free ∷ []) (slot_of (scope_in g (body.locals ++ local ∷ [])) (Some v.meaning))) vs
          variables_apart [] all = tt
          variables_apart (v ∷ vs) all = (
            ap (λ n. if body.made.free == n then true else false) (Rattle.ix_formed.proofs.ScopedLocals.slot_front g body.locals (local ∷ []) types lo end all.0.ty v.meaning all.0.named)
                ∙ ap (λ b. if b then true else false) (Rattle.ix_formed.proofs.NumberLists.is_more body.made.free (slot_of (scope_in g body.locals) (Some v.meaning)) all.0.low),
            variables_apart vs all.1,
          )

    -- ---- the whole declaration

    initialised_tells : (o : Option Init) → d.init ≡ o → (ty : Type_) (is : IsNoted ty) (start : ℕ) → LaidOut start d.name.span.to mid (row (placed.maybe init_piece o)) → AllOf (IsKnown g) (parts.maybe init_parts o) → maybe_true is_written_init o ≡ true
        → maybe_true is_readable_init o ≡ true → Makes (Tells g s (after (declared d) s) lo mid end end body types own_types point) (statements.initialised body.made.free (declared_type (g.site.names.declared d.name.span)) d.name.span o g.site begun)
    initialised_tells None e ty is start laid known wr fine = default_tells ty is
    initialised_tells (Some i) e ty is start laid known wr fine =
        let q = laid_parts start d.name.span.to mid (init_piece i) nothing laid in
        init_tells ty is i e (restarted i start d.name.span.to q.0 mid q.1 q.2) known wr fine
      where
        -- one node begins where it is
        restarted : (i : Init) (start from at to : ℕ) → LaidOut start from at (init_piece i) → at ≤ to → LaidOut from from to (init_piece i)
        restarted i start from at to laid le =
            let single = init_single i in
            let n = subst (LaidOut start from at) single.1 laid in
            subst (LaidOut from from to) (sym single.1) (n.0, n.1, n.2, (let a = n.3 in omega (arith, a, le)))

    pub declaration_tells : (start : ℕ) → LaidOut start d.name.span.to mid (row (placed.maybe init_piece d.init)) → AllOf (IsKnown g) (parts.maybe init_parts d.init) → maybe_true is_written_init d.init ≡ true → maybe_true is_readable_init d.init ≡ true
        → Makes (Tells g s (after (declared d) s) lo mid end end body types own_types point) (statements.declaration d g.site end body)
    declaration_tells start laid known wr fine = by_room (nat_lt body.made.free most_slots)
      where
        by_room : (b : Bool) → Makes (Tells g s (after (declared d) s) lo mid end end body types own_types point)
            ((if b then Ok begun else Err which.Slots) >>= statements.initialised body.made.free (declared_type (g.site.names.declared d.name.span)) d.name.span d.init g.site)
        by_room true = initialised_tells d.init refl noted.0 noted.1 start laid known wr fine
        by_room false = tt
