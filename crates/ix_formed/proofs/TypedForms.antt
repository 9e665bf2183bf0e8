-- Every form of statement tells what it says.
use Rattle.std.proofs.Common.{◌≡◌, ◌≤◌, ◌<◌, ℕ, ◌+◌, Bool, true, false, List, [], ◌∷◌, ◌++◌, length, map, Option, Some, None, refl, sym, ap, subst, ◌∙◌, arith, append_assoc}
use Rattle.std.specs.Prelude.{if◌then◌else◌, ◌||◌, not, max, nat_lt, Ok, Err}
use Rattle.std.proofs.lemmas.Bool.{false≢true, and_parts}
use Rattle.std.proofs.lemmas.List.{append-nil}
use Rattle.ix_text.specs.declared.span.Span.{Span}
use Rattle.ix_tree.specs.declared.annot.Annot.{Annot}
use Rattle.ix_core.specs.declared.claim.Base.TheVariants as base
use Rattle.ix_core.specs.declared.claim.Type_.{Type_}
use Rattle.ix_core.specs.declared.claim.Type_.TheVariants as type
use Rattle.ix_core.specs.declared.code.Item.{Item}
use Rattle.ix_core.specs.declared.code.Item.TheVariants as item
use Rattle.ix_core.specs.declared.op.Literal.TheVariants as literal
use Rattle.ix_core.specs.declared.op.Op.{Op}
use Rattle.ix_core.specs.declared.op.OpKind.TheVariants as op
use Rattle.ix_core.specs.declared.program.Local.{Local}
use Rattle.ix_core.specs.Code.{Code, block_code}
use Rattle.ix_core.specs.Formed.{assigned, is_printed, is_target, op_fits, reads, return_fits}
use Rattle.ix_core.specs.Posts.{writes_answers}
use Rattle.ix_core.specs.Types.{Point, int_type, bool_type, meeting, is_type, is_of, is_void}
use Rattle.ix_tree.specs.declared.decl.LocalDecl.{LocalDecl}
use Rattle.ix_tree.specs.declared.expr.Expr.{Expr}
use Rattle.ix_tree.specs.Parts as parts
use Rattle.ix_tree.specs.Parts.{Part, expr_parts, init_parts, decl_parts, together, mods_parts, type_parts}
use Rattle.ix_tree.specs.Placed as placed
use Rattle.ix_tree.specs.Placed.{Layout, nothing, node, LaidOut, row, expr_piece, own_pieces, further_pieces, shared_pieces}
use Rattle.ix_meaning.specs.declared.note.NameError.{NameError}
use Rattle.ix_meaning.specs.declared.note.Note.TheVariants.{Wrong}
use Rattle.ix_meaning.specs.declared.note.Rule.TheVariants as rule
use Rattle.ix_meaning.specs.Bodies as bodies
use Rattle.ix_meaning.specs.Declarators.{with_annots, counting, counting_behind, further, declarators}
use Rattle.ix_formed.proofs.FurtherDeclarators.{further_written}
use Rattle.ix_meaning.specs.Bodies.{Telling, after, declared, all_declared, then_told, nothing as telling_nothing}
use Rattle.ix_meaning.specs.Rules as rules
use Rattle.ix_meaning.specs.Scope.{Scope as Names}
use Rattle.ix_meaning.specs.Types as kinds
use Rattle.ix_meaning.specs.Types.{Need, never, printed, of, unknown}
use Rattle.ix_meaning.specs.Values as reading
use Rattle.ix_meaning.specs.Values.{check, fitted, null_at}
use Rattle.ix_plain.specs.declared.body.Body.{Body}
use Rattle.ix_meaning.specs.declared.note.Which.TheVariants as which
use Rattle.ix_plain.specs.Assigned.{assigns}
use Rattle.ix_plain.specs.Parts.{◌>>=◌, Value, Asked, done, most_slots}
use Rattle.ix_plain.specs.Values.{lowering}
use Rattle.ix_plain.specs.Statements as statements
use Rattle.ix_plain.specs.Statements.{Evaluated, evaluated, behind, scope_for, with_last, used, ran}
use Rattle.ix_formed.specs.Additions.{Makes, AllOf}
use Rattle.ix_formed.specs.LocalTypes.{decl_types}
use Rattle.ix_formed.specs.NoErrors.{Agrees}
use Rattle.ix_formed.specs.Points.{Known, Keeps}
use Rattle.ix_formed.specs.Typed.{Tests}
use Rattle.ix_formed.specs.Readable.{shape, is_readable_decl}
use Rattle.ix_formed.specs.TypedStatements.{Ground, IsGround, Says, IsKnown, Scoped, Stands, Begins, ways, Passes, Leaves, WriteAnswers, Adds, Tells}
use Rattle.ix_formed.specs.Written.{is_written_expr, is_written_decl, is_written_type, is_written_init, maybe_true, each_true}
use Rattle.ix_formed.proofs.EachMember.{said_parts, not_broken}
use Rattle.ix_formed.proofs.LayoutSpans.{laid_parts, laid_up, expr_spans}
use Rattle.ix_formed.proofs.NumberLists.{both_true}
use Rattle.ix_formed.proofs.PlainItems.{makes_more, makes_then}
use Rattle.ix_formed.proofs.SameTypes.{primitive_real}
use Rattle.ix_formed.proofs.ScopedLocals.{scoped_within}
use Rattle.ix_formed.proofs.TypedBlocks.{BlockFits, block_fits, if_leaves, either_jump, either_passes, closed_scope, closed_stands}
use Rattle.ix_formed.proofs.TypedEvaluations.{IsRead, value_checked, value_judged, condition_asks}
use Rattle.ix_formed.proofs.TypedExpressions.{all_parted}
use Rattle.ix_formed.proofs.TypedItems.{Evaluates, evaluated_adds, last_adds, adds_none, adds_both, adds_as, begins_as, leads_leave, leaves_both, no_jump, none_passes}
use Rattle.ix_formed.proofs.TypedLocals.{declaration_tells}
use Rattle.ix_formed.proofs.TypedPoints.{keeps_none, meeting_keeps, assigned_known, reads_known, op_leads}
use Rattle.ix_formed.proofs.TypedSteps.{target_is}
use Rattle.ix_formed.proofs.WrittenAnswers.{answered_op, answered_if, answer_writes}

module _ (g : Ground) (ground : IsGround g) where
  no_error : (error : NameError) → Agrees g.site.names g.parts (Wrong error) → ⊥
  no_error error wrong = wrong

  pub parted : (xs ys : List _) → Says g (xs ++ ys) → Says g xs × Says g ys
  parted xs ys said = said_parts (λ note. Agrees g.site.names g.parts note) xs ys said

  -- ---- a statement that leaves the scope as it was

  abbrev pub closed_tells : (t : Telling) (s : Names) (from to end : ℕ) (body : Body) (types : List Type_) (point : Point) (after_body : Body) → Scoped g s body.locals types body.made.free from end → Stands g s body.locals point → t.names s ≡ s.names → from ≤ to
      → (a : Adds g s from to to body types point after_body) → after_body.made.free ≡ body.made.free → s.next + t.declares ≡ length after_body.locals → (own : List Type_) → a.added_types ≡ own → Tells g s (after t s) from to to end body types own point after_body
  closed_tells t s from to end body types point after_body scoped stands names le a free counted own typed = record {
    adds = a;
    scoped = subst (λ n. Scoped g (after t s) after_body.locals (types ++ a.added_types) n to end) (sym free)
        (closed_scope g s (after t s) body.locals a.added types a.added_types after_body.locals body.made.free from to end scoped refl refl refl refl refl refl names a.grown a.typed le a.places);
    stands = closed_stands g s (after t s) body.locals a.added types after_body.locals body.made.free from end point a.behind scoped refl names a.grown a.keeps stands;
    counted = counted;
    typed = typed;
  }

  -- and that declares nothing at all
  abbrev pub plain_tells : (t : Telling) (s : Names) (from to end : ℕ) (body : Body) (types : List Type_) (point : Point) (after_body : Body) → Scoped g s body.locals types body.made.free from end → Stands g s body.locals point → s.next ≡ length body.locals
      → t.names s ≡ s.names → t.declares ≡ 0 → from ≤ to → (a : Adds g s from to to body types point after_body) → after_body.made.free ≡ body.made.free → after_body.locals ≡ body.locals → a.added_types ≡ [] → Tells g s (after t s) from to to end body types [] point after_body
  plain_tells t s from to end body types point after_body scoped stands counted names no_locals le a free locals typed =
      closed_tells t s from to end body types point after_body scoped stands names le a free (let e = ap (λ (l : List (Local × Span)). length l) locals in omega (arith, e, counted, no_locals)) [] typed

  -- ---- jumps

  -- where a jump leads as well
  abbrev a_jump : Point → Point → Point
  a_jump point later = meeting point later

  jump_passes : (base : ℕ) (point : Point) → Passes base point (a_jump point)
  jump_passes base point count kept x le known keeps = meeting_keeps count kept point x known keeps

  break_leaves : (in_loop : Bool) (point : Point) → in_loop ≡ true → Leaves g in_loop (item.Break ∷ []) point None (a_jump point) (no_jump g)
  break_leaves in_loop point e = record { fits = λ rest fit. both_true in_loop (ways g in_loop rest None).fits e fit; ends = λ rest. refl; breaks = λ rest. refl; turns = λ rest. refl }

  continue_leaves : (in_loop : Bool) (point : Point) → in_loop ≡ true → Leaves g in_loop (item.Continue ∷ []) point None (no_jump g) (a_jump point)
  continue_leaves in_loop point e = record { fits = λ rest fit. both_true in_loop (ways g in_loop rest None).fits e fit; ends = λ rest. refl; breaks = λ rest. refl; turns = λ rest. refl }

  throw_leaves : (in_loop : Bool) (point : Point) (name : List ℕ) (span : Span) → Leaves g in_loop (item.Throw name span ∷ []) point None (no_jump g) (no_jump g)
  throw_leaves in_loop point name span = record { fits = λ rest fit. fit; ends = λ rest. refl; breaks = λ rest. refl; turns = λ rest. refl }

  return_leaves : (in_loop : Bool) (point : Point) (value : Option ℕ) (span : Span) → return_fits g.program g.method point value ≡ true → Leaves g in_loop (item.Return value span ∷ []) point None (no_jump g) (no_jump g)
  return_leaves in_loop point value span fit_value = record {
    fits = λ rest fit. both_true (return_fits g.program g.method point value) (ways g in_loop rest None).fits fit_value fit;
    ends = λ rest. refl;
    breaks = λ rest. refl;
    turns = λ rest. refl;
  }

  none_known : (count : ℕ) (point : Point) → Keeps count point None
  none_known count point slot lt ty known = tt

  module _ (t : Telling) (s : Names) (span : Span) (end : ℕ) (body : Body) (types : List Type_) (point : Point) (scoped : Scoped g s body.locals types body.made.free span.from end) (stands : Stands g s body.locals point) (counted : s.next ≡ length body.locals)
      (some : span.from < span.to) (names : t.names s ≡ s.names) (no_locals : t.declares ≡ 0) where
    abbrev Result : Body → Type 0
    Result after_body = Tells g s (after t s) span.from span.to span.to end body types [] point after_body

    pub empty_tells : Result body
    empty_tells = plain_tells t s span.from span.to end body types point body scoped stands counted names no_locals (omega (arith, some)) (adds_none g s span.from span.to span.to body types point) refl refl refl

    jump_tells : (last : Item) (breaks turns : Point → Point) → Passes body.made.free point breaks → Passes body.made.free point turns
        → (g.site.answers ≡ true → WriteAnswers (last ∷ [])) → ((in_loop : Bool) → (s.in_loop ≡ true → in_loop ≡ true) → Leaves g in_loop (last ∷ []) point None breaks turns) → Result (with_last body last)
    jump_tells last breaks turns passes_breaks passes_turns answered leaves = plain_tells t s span.from span.to end body types point (with_last body last) scoped stands counted names no_locals (omega (arith, some))
        (last_adds g s span.from span.to span.to body types point None breaks turns last (none_known body.made.free point) passes_breaks passes_turns answered (λ begins few. leaves)) refl refl refl

    outside_not : (b : Bool) → not b ≡ false → b ≡ true
    outside_not true e = refl
    outside_not false e = absurd (false≢true (sym e))

    jump_answers : g.site.answers ≡ true → (last : Option Op) (rest : Code) → ((before : Option Op) → writes_answers before rest ≡ true) → writes_answers None rest ≡ true
    jump_answers answers last rest h = h None

    pub break_tells : (place : Span) → Says g (rules.break_outside s place) → Result (with_last body item.Break)
    break_tells place said = jump_tells item.Break (a_jump point) (no_jump g) (jump_passes body.made.free point) (none_passes g body.made.free point) jump_answers (λ in_loop loops. break_leaves in_loop point (loops (outside_not s.in_loop (not_broken (λ note. Agrees g.site.names g.parts note) no_error (not s.in_loop) rule.BreakOutside place said))))

    pub continue_tells : (place : Span) → Says g (rules.break_outside s place) → Result (with_last body item.Continue)
    continue_tells place said = jump_tells item.Continue (no_jump g) (a_jump point) (none_passes g body.made.free point) (jump_passes body.made.free point) jump_answers (λ in_loop loops. continue_leaves in_loop point (loops (outside_not s.in_loop (not_broken (λ note. Agrees g.site.names g.parts note) no_error (not s.in_loop) rule.BreakOutside place said))))

    pub throw_tells : (text : List ℕ) → Result (with_last body (item.Throw text span))
    throw_tells text = jump_tells (item.Throw text span) (no_jump g) (no_jump g) (none_passes g body.made.free point) (none_passes g body.made.free point) jump_answers (λ in_loop loops. throw_leaves in_loop point text span)

    pub return_tells : (place : Span) → Says g (rules.no_value s.result place) → Result (with_last body (item.Return None span))
    return_tells place said = jump_tells (item.Return None span) (no_jump g) (no_jump g) (none_passes g body.made.free point) (none_passes g body.made.free point)
        (λ answers. absurd (false≢true (sym (ap is_void (ground.answers answers)) ∙ no_result s.result scoped.result said))) (λ in_loop loops. return_leaves in_loop point None span (no_result s.result scoped.result said))
      where
        no_result : (o : Option Need) → Rattle.ix_formed.specs.TypedStatements.IsResult g o → Says g (rules.no_value o place) → is_void g.method.result ≡ true
        no_result None is said = is
        no_result (Some need) is said = absurd said.0

    -- ---- one expression

    module _ (e : Expr) (laid : LaidOut span.from span.from span.to (row (expr_piece e ∷ []))) (known : AllOf (IsKnown g) (expr_parts e)) (wr : is_written_expr e ≡ true) (fine : (shape e).fine ≡ true) (le : span.to ≤ end) where
      read : IsRead g ground span.from span.to e
      read = let q = laid_parts span.from span.from span.to (expr_piece e) nothing laid in record {
        spans = Rattle.ix_formed.proofs.NumberLists.all_so (Rattle.ix_formed.proofs.LayoutSpans.PartIs (Rattle.ix_formed.specs.TypedStatements.Within span.from q.0)) (Rattle.ix_formed.proofs.LayoutSpans.PartIs (Rattle.ix_formed.specs.TypedStatements.Within span.from span.to))
            (wider q.0 q.2) (expr_parts e) (expr_spans e span.from span.from q.0 (omega arith) q.1);
        known = known;
        written = wr;
        fine = fine;
      }
        where
          wider : (mid : ℕ) → mid ≤ span.to → (part : Part) → Rattle.ix_formed.proofs.LayoutSpans.PartIs (Rattle.ix_formed.specs.TypedStatements.Within span.from mid) part → Rattle.ix_formed.proofs.LayoutSpans.PartIs (Rattle.ix_formed.specs.TypedStatements.Within span.from span.to) part
          wider mid le (parts.expression at) w = (w.0, (let x = w.1 in omega (arith, x, le)))
          wider mid le (parts.statement at) w = tt
          wider mid le parts.declaration w = tt
          wider mid le (parts.in_type ident) w = tt
          wider mid le (parts.elsewhere ident) w = tt
          wider mid le (parts.entries n) w = tt

      kept : Scoped g s body.locals types body.made.free span.from span.to
      kept = scoped_within g s body.locals types body.made.free span.from end span.from span.to (omega arith) le scoped

      pub run_tells : Says g (bodies.run e s) → Makes Result (ran g.site e body)
      run_tells said =
          let j = value_judged g ground s body types point span.from span.to kept stands e read said in
          makes_then (Evaluates g span.to [] body types point j.0) Result (evaluated g.site e body) _ j.3
          (λ ev x. plain_tells t s span.from span.to end body types point ev.body scoped stands counted names no_locals (omega (arith, some))
          (evaluated_adds g s span.from span.to span.to span.to [] body types point j.0 ev (omega arith) x) x.free x.locals refl)

      -- an item that uses the value
      used_tells : (ty : Type_) (last : ℕ → Item) → Makes (Evaluates g span.to [] body types point ty) (evaluated g.site e body)
          → ((ev : Evaluated) (x : Evaluates g span.to [] body types point ty ev) → (behind : Point) × Keeps ev.body.made.free x.behind behind
          × (ev.body.most ≤ g.method.slots → (in_loop : Bool) → Leaves g in_loop (last ev.slot ∷ []) x.behind behind (no_jump g) (no_jump g)))
          → ((slot : ℕ) → g.site.answers ≡ true → WriteAnswers (last slot ∷ [])) → Makes Result (used g.site e last body)
      used_tells ty last evaluates uses answered =
          makes_then (Evaluates g span.to [] body types point ty) Result (evaluated g.site e body) _ evaluates
          (λ ev x.
          let u = uses ev x in
          let a = evaluated_adds g s span.from span.to span.to span.to [] body types point ty ev (omega arith) x in
          let b = last_adds g s span.to span.to span.to ev.body (types ++ []) x.behind u.0 (no_jump g) (no_jump g) (last ev.slot) u.1 (none_passes g ev.body.made.free x.behind) (none_passes g ev.body.made.free x.behind) (answered ev.slot) (λ begins few in_loop loops. u.2 few in_loop) in
          plain_tells t s span.from span.to end body types point (with_last ev.body (last ev.slot)) scoped stands counted names no_locals (omega (arith, some))
          (adds_both g s s span.from span.to span.to span.to body types point ev.body (with_last ev.body (last ev.slot)) a b (λ e. e) (omega (arith, some)) (omega arith)) x.free x.locals refl)

      -- a printed value is an int or a boolean
      pub print_tells : Says g (bodies.needed e printed s) → Makes Result (statements.printed e g.site body)
      print_tells said = by_null (reading.reading e).is_null said
        where
          by_type : (ty : Type_) → kinds.is_primitive ty ≡ true → (q : Point) (slot : ℕ) → slot < g.method.slots → (held : Type_) → Known q slot held → is_of g.program held ty ≡ true → is_printed g.program g.method q slot ≡ true
          by_type (type.Plain base.Int) e q slot lt held known is = ap (λ b. b || reads g.program g.method q slot bool_type) (reads_known g.program g.method g.locals q slot held int_type lt known is)
          by_type (type.Plain base.Bool) e q slot lt held known is = or_second (reads g.program g.method q slot int_type) (reads g.program g.method q slot bool_type) (reads_known g.program g.method g.locals q slot held bool_type lt known is)
            where
              or_second : (a b : Bool) → b ≡ true → (a || b) ≡ true
              or_second true b e = refl
              or_second false b e = e
          by_type (type.Plain (base.Class class)) e q slot lt held known is = absurd (false≢true e)
          by_type (type.Array b depth claims) e q slot lt held known is = absurd (false≢true e)
          by_type type.Void e q slot lt held known is = absurd (false≢true e)

          print_leaves : (ty : Type_) → kinds.is_primitive ty ≡ true → is_type g.program ty ≡ true → (ev : Evaluated) (x : Evaluates g span.to [] body types point ty ev) → ev.body.most ≤ g.method.slots → (in_loop : Bool)
              → Leaves g in_loop (done (op.Print ev.slot) e.span [] ∷ []) x.behind x.behind (no_jump g) (no_jump g)
          print_leaves ty primitive real ev x few in_loop =
              let h = x.holds real in
              let low = x.low in
              leads_leave g in_loop (done (op.Print ev.slot) e.span [] ∷ []) x.behind x.behind
              (op_leads g.program g.method g.locals (record { kind = op.Print ev.slot; span = e.span; parts = [] }) x.behind (both_true (is_printed g.program g.method x.behind ev.slot) true (by_type ty primitive x.behind ev.slot (omega (arith, low, few)) h.held h.known h.fits) refl))

          by_null : (b : Bool) → Says g (if b then null_at printed (reading.reading e).span else fitted s.world printed (reading.reading e).span ((reading.reading e).judge s)).notes → Makes Result (statements.printed e g.site body)
          by_null true said = absurd said.0
          by_null false said =
              let q = parted ((reading.reading e).judge s).notes (rules.type_mismatch s.world printed ((reading.reading e).judge s).ty (reading.reading e).span) said in
              let j = value_judged g ground s body types point span.from span.to kept stands e read q.0 in
              let w = subst (λ o. Says g (rules.type_mismatch s.world printed o (reading.reading e).span)) j.1 q.1 in
              let primitive = not_false (kinds.is_primitive j.0) (not_broken (λ note. Agrees g.site.names g.parts note) no_error (not (kinds.is_primitive j.0)) rule.TypeMismatch (reading.reading e).span w) in
              let real = primitive_real g.program j.0 j.2 primitive in
              used_tells j.0 (λ slot. done (op.Print slot) e.span []) j.3 (λ ev x. (x.behind, keeps_none ev.body.made.free x.behind, (λ few in_loop. print_leaves j.0 primitive real ev x few in_loop)))
              (λ slot answers. answered_op (record { kind = op.Print slot; span = e.span; parts = [] }))
            where
              not_false : (b : Bool) → not b ≡ false → b ≡ true
              not_false true e = refl
              not_false false e = absurd (false≢true (sym e))

      -- a value is given back
      value_given_back : g.site.answers ≡ false → Says g (bodies.needed e (bodies.result_need s.result) s) → Makes Result (used g.site e (λ slot. item.Return (Some slot) e.span) body)
      value_given_back none said = by_result s.result scoped.result said
        where
          never_said : (b : Bool) → Says g (if b then null_at never (reading.reading e).span else fitted s.world never (reading.reading e).span ((reading.reading e).judge s)).notes → ⊥
          never_said true said = said.0
          never_said false said =
              let q = parted ((reading.reading e).judge s).notes (rules.type_mismatch s.world never ((reading.reading e).judge s).ty (reading.reading e).span) said in
              let j = value_judged g ground s body types point span.from span.to kept stands e read q.0 in
              (subst (λ o. Says g (rules.type_mismatch s.world never o (reading.reading e).span)) j.1 q.1).0

          no_void : (t : Type_) → is_type g.program t ≡ true → (not (is_void t)) ≡ true
          no_void type.Void real = absurd (false≢true real)
          no_void (type.Plain b) real = refl
          no_void (type.Array b depth claims) real = refl

          return_ways : (ty given : Type_) → ty ≡ g.method.result → is_type g.program ty ≡ true → is_type g.program given ≡ true → is_of g.program given ty ≡ true → (ev : Evaluated) (x : Evaluates g span.to [] body types point given ev) → ev.body.most ≤ g.method.slots
              → (in_loop : Bool) → Leaves g in_loop (item.Return (Some ev.slot) e.span ∷ []) x.behind None (no_jump g) (no_jump g)
          return_ways ty given same real real_given below ev x few in_loop =
              let h = x.holds real_given in
              let low = x.low in
              let read = reads_known g.program g.method g.locals x.behind ev.slot h.held g.method.result (omega (arith, low, few)) h.known
              (subst (λ t. is_of g.program h.held t ≡ true) same (ground.members.further h.held given ty h.real h.fits below)) in
              return_leaves in_loop x.behind (Some ev.slot) e.span (both_true (not (is_void g.method.result)) (reads g.program g.method x.behind ev.slot g.method.result) (subst (λ t. (not (is_void t)) ≡ true) same (no_void ty real)) read)

          by_result : (o : Option Need) → Rattle.ix_formed.specs.TypedStatements.IsResult g o → Says g (check (reading.reading e) s (bodies.result_need o)).notes → Makes Result (used g.site e (λ slot. item.Return (Some slot) e.span) body)
          by_result None is said = absurd (never_said (reading.reading e).is_null said)
          by_result (Some unknown) is said = absurd is
          by_result (Some never) is said = absurd is
          by_result (Some printed) is said = absurd is
          by_result (Some (of ty)) is said =
              let c = value_checked g ground s body types point span.from span.to kept stands e read ty is.1 said in
              used_tells c.0 (λ slot. item.Return (Some slot) e.span) c.2
              (λ ev x. (None, none_known ev.body.made.free x.behind, (λ few in_loop. return_ways ty c.0 is.0 is.1 c.1.real c.1.fits ev x few in_loop)))
              (λ slot answers. absurd (false≢true (sym none ∙ answers)))

      -- each answer is given back by itself
      module _ (asked : Asked) (x : Tests g.program g.method g.locals (Begins g body.locals types span.to) body.made.free point asked) where
        abbrev both : Item
        both = statements.answer_item asked.cond asked.free e.span

        abbrev answer_op : Bool → Op
        answer_op holds = record { kind = op.Const asked.free (literal.Bool holds); span = e.span; parts = [] }

        slot_written : (holds : Bool) (at : Point) → asked.free < g.method.slots → op_fits g.program g.method g.locals at (answer_op holds) (op.Const asked.free (literal.Bool holds)) ≡ true
        slot_written holds at lt =
            let up = x.up in
            let params = scoped.params in
            both_true (is_target g.program g.method asked.free) true (target_is g.program g.method asked.free (omega (arith, up, params)) lt) refl

        returned_fits : (at : Point) → g.method.result ≡ bool_type → asked.free < g.method.slots → return_fits g.program g.method (assigned asked.free bool_type at) (Some asked.free) ≡ true
        returned_fits at boolean lt =
            both_true (not (is_void g.method.result)) (reads g.program g.method (assigned asked.free bool_type at) asked.free g.method.result) (ap (λ t. not (is_void t)) boolean)
            (ap (reads g.program g.method (assigned asked.free bool_type at) asked.free) boolean
            ∙ reads_known g.program g.method g.locals (assigned asked.free bool_type at) asked.free bool_type bool_type lt (assigned_known asked.free bool_type at) refl)

        answer_fits : (holds : Bool) (at : Point) (in_loop : Bool) → g.method.result ≡ bool_type → asked.free < g.method.slots → BlockFits g in_loop (block_code (statements.answer holds asked.free e.span)) at None None None
        answer_fits holds at in_loop boolean lt =
            block_fits g in_loop (record { items = (statements.answer holds asked.free e.span).items; free = 0 }) (statements.answer holds asked.free e.span).items at None (no_jump g) (no_jump g) refl
            (leaves_both g in_loop (item.Do (answer_op holds) ∷ []) (item.Return (Some asked.free) e.span ∷ []) at (assigned asked.free bool_type at) None (no_jump g) (no_jump g) (no_jump g) (no_jump g)
            (leads_leave g in_loop (item.Do (answer_op holds) ∷ []) at (assigned asked.free bool_type at) (op_leads g.program g.method g.locals (answer_op holds) at (slot_written holds at lt)))
            (return_leaves in_loop (assigned asked.free bool_type at) (Some asked.free) e.span (returned_fits at boolean lt)))

        answered_adds : g.method.result ≡ bool_type → Adds g s span.from span.to span.to body types point (behind body (body.made.items ++ both ∷ []) (asked.free + 1))
        answered_adds boolean = record {
          added = [];
          added_types = [];
          grown = sym (append-nil body.locals);
          typed = refl;
          places = tt;
          do_fit = λ begins. tt;
          most = omega arith;
          up = omega arith;
          items = both ∷ [];
          appended = refl;
          behind = None;
          breaks_by = either_jump g None None;
          turns_by = either_jump g None None;
          leaves = λ begins few in_loop loops.
              let lt : asked.free < g.method.slots = most_right body.most asked.free g.method.slots few in
              if_leaves g in_loop asked.cond (statements.answer true asked.free e.span) (statements.answer false asked.free e.span) point x.holds x.fails None None None None None None
              (x.decides (begins_as g body.locals body.locals (types ++ []) types span.to refl (append-nil types) begins) (omega (arith, lt)))
              (answer_fits true x.holds in_loop boolean lt) (answer_fits false x.fails in_loop boolean lt);
          answered = λ answers. answered_if asked.cond (statements.answer true asked.free e.span) (statements.answer false asked.free e.span) (answer_writes true asked.free e.span) (answer_writes false asked.free e.span);
          keeps = none_known body.made.free point;
          keeps_breaks = either_passes g body.made.free point None None (none_known body.made.free point) (none_known body.made.free point);
          keeps_turns = either_passes g body.made.free point None None (none_known body.made.free point) (none_known body.made.free point);
        }
          where
            most_right : (a b most : ℕ) → max a (b + 1) ≤ most → b < most
            most_right a b most le = omega (arith, le)

        answer_taken : g.method.result ≡ bool_type → (b : Bool)
            → Makes Result ((if b then Ok (record { made = record { items = body.made.items ++ both ∷ []; free = asked.free + 1 }; slot = asked.free }) else Err which.Slots) >>= (λ (value : Value). Ok (behind body value.made.items value.made.free)))
        unfolding answered_adds
        answer_taken boolean true =
            plain_tells t s span.from span.to end body types point (behind body (body.made.items ++ both ∷ []) (asked.free + 1)) scoped stands counted names no_locals (omega (arith, some)) (answered_adds boolean) refl refl refl
        answer_taken boolean false = tt

      answer_given_back : g.site.answers ≡ true → Says g (bodies.needed e (bodies.result_need s.result) s) → Makes Result (statements.answered g.site e body)
      answer_given_back answers said = by_result s.result scoped.result said
        where
          by_result : (o : Option Need) → Rattle.ix_formed.specs.TypedStatements.IsResult g o → Says g (check (reading.reading e) s (bodies.result_need o)).notes → Makes Result (statements.answered g.site e body)
          by_result None is said = absurd (false≢true (sym (ap is_void (ground.answers answers)) ∙ is))
          by_result (Some unknown) is said = absurd is
          by_result (Some never) is said = absurd is
          by_result (Some printed) is said = absurd is
          by_result (Some (of ty)) is said =
              let told = subst (λ t. Says g (check (reading.reading e) s (of t)).notes) (is.0 ∙ ground.answers answers) said in
              makes_then (Tests g.program g.method g.locals (Begins g body.locals types span.to) body.made.free point) Result ((lowering e).condition (scope_for g.site body (assigns e).inside) body.made.free) _
              (condition_asks g ground s body types point span.from span.to kept stands e read told)
              (λ asked x. answer_taken asked x (ground.answers answers) (nat_lt asked.free most_slots))

      pub given_back_tells : Says g (bodies.needed e (bodies.result_need s.result) s) → Makes Result (statements.returned (Some e) span g.site body)
      given_back_tells said = answers_or_not g.site.answers refl
        where
          answers_or_not : (b : Bool) → g.site.answers ≡ b → Makes Result (if b then statements.answered g.site e body else used g.site e (λ slot. item.Return (Some slot) e.span) body)
          answers_or_not true answers = answer_given_back answers said
          answers_or_not false none = value_given_back none said

  -- ---- one statement behind the other

  -- the scope behind both
  pub after_both : (t u : Telling) (s : Names) → after u (after t s) ≡ after (then_told t u) s
  after_both t u s =
      let same : (s.next + t.declares) + u.declares ≡ s.next + (t.declares + u.declares) = omega arith in
      ap (λ n. behind_both (u.names (after t s)) n) same
    where
      behind_both : List Rattle.ix_meaning.specs.Scope.Known → ℕ → Names
      behind_both names n = record s { names = names; next = n }

  abbrev pub tells_both : (s middle_names next : Names) (from mid to end : ℕ) (body : Body) (types own later : List Type_) (point : Point) (middle after_body : Body) (a : Tells g s middle_names from mid end end body types own point middle)
      → Tells g middle_names next mid to end end middle (types ++ a.adds.added_types) later a.adds.behind after_body → (middle_names.in_loop ≡ true → s.in_loop ≡ true) → from ≤ mid → mid ≤ to → Tells g s next from to end end body types (own ++ later) point after_body
  tells_both s middle_names next from mid to end body types own later point middle after_body a b loop le up = record {
    adds = adds_both g s middle_names from mid to end body types point middle after_body a.adds b.adds loop le up;
    scoped = subst (λ ts. Scoped g next after_body.locals ts after_body.made.free to end) (append_assoc types a.adds.added_types b.adds.added_types) b.scoped;
    stands = b.stands;
    counted = b.counted;
    typed = ap (λ l. l ++ b.adds.added_types) a.typed ∙ ap (λ l. own ++ l) b.typed;
  }

  -- up to a place behind
  abbrev pub tells_later : (s next : Names) (from to more end : ℕ) (body : Body) (types own : List Type_) (point : Point) (after_body : Body) → to ≤ more → Tells g s next from to end end body types own point after_body → Tells g s next from more end end body types own point after_body
  tells_later s next from to more end body types own point after_body up x = record {
    adds = adds_as g s from to end from more end body types point after_body (omega arith) up (omega arith) x.adds;
    scoped = scoped_within g next after_body.locals (types ++ x.adds.added_types) after_body.made.free to end more end up (omega arith) x.scoped;
    stands = x.stands;
    counted = x.counted;
    typed = x.typed;
  }

  -- ---- declarations

  followed_nothing : (l : Layout) → placed.followed l nothing ≡ l
  followed_nothing nothing = refl
  followed_nothing (node span inner later) = ap (node span inner) (followed_nothing later)
  followed_nothing (placed.copy inner later) = ap (placed.copy inner) (followed_nothing later)

  split_maybe : (o : Option Rattle.ix_tree.specs.declared.expr.Init.Init) (start from hi : ℕ) (rest : List Layout) → LaidOut start from hi (row (placed.maybe placed.init_piece o ++ rest))
      → (mid : ℕ) × (from ≤ mid) × LaidOut start from mid (row (placed.maybe placed.init_piece o)) × LaidOut start mid hi (row rest)
  split_maybe None start from hi rest laid = (from, omega arith, omega arith, laid)
  split_maybe (Some i) start from hi rest laid =
      let q = laid_parts start from hi (placed.init_piece i) (row rest) laid in
      (q.0, laid_up start from q.0 (placed.init_piece i) q.1, subst (LaidOut start from q.0) (sym (followed_nothing (placed.init_piece i))) q.1, q.2)

  decl_known : (d : LocalDecl) → AllOf (IsKnown g) (decl_parts d) → AllOf (IsKnown g) (parts.maybe init_parts d.init)
  decl_known d known = (all_parted (IsKnown g) (type_parts d.ty) (parts.elsewhere d.name ∷ parts.maybe init_parts d.init) (all_parted (IsKnown g) (mods_parts d.mods) _ known.1).1).1.1

  pub none_declared : (s : Names) (from to end : ℕ) (body : Body) (types : List Type_) (point : Point) → Scoped g s body.locals types body.made.free from end → Stands g s body.locals point → s.next ≡ length body.locals → from ≤ to
      → Tells g s (after telling_nothing s) from to end end body types [] point body
  none_declared s from to end body types point scoped stands counted le = record {
    adds = adds_none g s from to end body types point;
    scoped = subst (λ ts. Scoped g (after telling_nothing s) body.locals ts body.made.free to end) (sym (append-nil types))
        (Rattle.ix_formed.proofs.ScopedLocals.scoped_for g s (after telling_nothing s) body.locals types body.made.free to end refl refl refl (λ e. e) (λ e. e) refl refl (scoped_within g s body.locals types body.made.free from end to end le (omega arith) scoped));
    stands = Rattle.ix_formed.proofs.ScopedLocals.stands_for g s (after telling_nothing s) body.locals point (λ e. e) refl stands;
    counted = omega (arith, counted);
    typed = refl;
  }

  -- a declarator, and those behind it
  pub declared_tells : (before behind : List Annot) (d first : LocalDecl) (ds : List LocalDecl) (s : Names) (start lo hi end : ℕ) (body : Body) (types : List Type_) (point : Point) → Scoped g s body.locals types body.made.free lo end → Stands g s body.locals point → s.next ≡ length body.locals
      → hi ≤ end → LaidOut start lo hi (row (own_pieces d ++ further_pieces ds)) → AllOf (IsKnown g) (decl_parts d) → AllOf (IsKnown g) (together (parts.each decl_parts ds)) → is_written_type (with_annots before behind d).ty ≡ true → is_written_decl d ≡ true → each_true is_written_decl ds ≡ true
      → is_readable_decl d ≡ true → each_true is_readable_decl ds ≡ true → Says g ((declared (with_annots before behind d)).notes s ++ (all_declared (map (further first) ds)).notes (after (declared (with_annots before behind d)) s))
      → Makes (Tells g s (after (then_told (declared (with_annots before behind d)) (all_declared (map (further first) ds))) s) lo hi end end body types (decl_types g.site.names (d ∷ ds)) point) (statements.declarations (d ∷ ds) g.site end body)
  declared_tells before behind d first [] s start lo hi end body types point scoped stands counted le laid known others wt wr wrs fine fines said =
      let q = split_maybe d.init start d.name.span.to hi [] laid.3 in
      let n = parted ((declared (with_annots before behind d)).notes s) [] said in
      let w = and_parts (is_written_type d.ty) (maybe_true is_written_init d.init) wr in
      let up = q.3 in
      let a = laid.0 in
      let b = laid.1 in
      let c = q.1 in
      subst (λ next. Makes (Tells g s next lo hi end end body types (decl_types g.site.names (d ∷ [])) point) (statements.declarations (d ∷ []) g.site end body)) (after_both (declared (with_annots before behind d)) telling_nothing s)
      (makes_then (Tells g s (after (declared (with_annots before behind d)) s) lo q.0 end end body types (decl_types g.site.names (d ∷ [])) point) (Tells g s (after telling_nothing (after (declared (with_annots before behind d)) s)) lo hi end end body types (decl_types g.site.names (d ∷ [])) point) (statements.declaration d g.site end body) _
      (declaration_tells g ground (with_annots before behind d) s lo q.0 end body types point scoped stands counted a b c (omega (arith, up, le)) n.0 wt start q.2 (decl_known d known) w.1 fine)
      (λ second x. tells_both s (after (declared (with_annots before behind d)) s) (after telling_nothing (after (declared (with_annots before behind d)) s)) lo q.0 hi end body types (decl_types g.site.names (d ∷ [])) [] point second second x
      (none_declared (after (declared (with_annots before behind d)) s) q.0 hi end second (types ++ x.adds.added_types) x.adds.behind x.scoped x.stands x.counted up) (λ e. e) (omega (arith, a, b, c)) up))
  declared_tells before behind d first (e ∷ ds) s start lo hi end body types point scoped stands counted le laid known others wt wr wrs fine fines said =
      let q = split_maybe d.init start d.name.span.to hi (further_pieces (e ∷ ds)) laid.3 in
      let skip = laid_parts start q.0 hi (placed.again (shared_pieces e)) (row (own_pieces e ++ further_pieces ds)) q.3 in
      let past = laid_up start q.0 skip.0 (placed.again (shared_pieces e)) skip.1 in
      let up = laid_up start skip.0 hi (row (own_pieces e ++ further_pieces ds)) skip.2 in
      let n = parted ((declared (with_annots before behind d)).notes s) ((all_declared (map (further first) (e ∷ ds))).notes (after (declared (with_annots before behind d)) s)) said in
      let w = and_parts (is_written_type d.ty) (maybe_true is_written_init d.init) wr in
      let ws = and_parts (is_written_decl e) (each_true is_written_decl ds) wrs in
      let fs = and_parts (is_readable_decl e) (each_true is_readable_decl ds) fines in
      let k = all_parted (IsKnown g) (decl_parts e) (together (parts.each decl_parts ds)) others in
      let a = laid.0 in
      let b = laid.1 in
      let c = q.1 in
      subst (λ next. Makes (Tells g s next lo hi end end body types (decl_types g.site.names (d ∷ e ∷ ds)) point) (statements.declarations (d ∷ e ∷ ds) g.site end body)) (after_both (declared (with_annots before behind d)) (all_declared (map (further first) (e ∷ ds))) s)
      (makes_then (Tells g s (after (declared (with_annots before behind d)) s) lo q.0 end end body types (decl_types g.site.names (d ∷ [])) point) (Tells g s (after (all_declared (map (further first) (e ∷ ds))) (after (declared (with_annots before behind d)) s)) lo hi end end body types (decl_types g.site.names (d ∷ e ∷ ds)) point) (statements.declaration d g.site end body) _
      (declaration_tells g ground (with_annots before behind d) s lo q.0 end body types point scoped stands counted a b c (omega (arith, up, le, past)) n.0 wt start q.2 (decl_known d known) w.1 fine)
      (λ second x. makes_more (Tells g (after (declared (with_annots before behind d)) s) (after (all_declared (map (further first) (e ∷ ds))) (after (declared (with_annots before behind d)) s)) skip.0 hi end end second (types ++ x.adds.added_types) (decl_types g.site.names (e ∷ ds)) x.adds.behind)
      (Tells g s (after (all_declared (map (further first) (e ∷ ds))) (after (declared (with_annots before behind d)) s)) lo hi end end body types (decl_types g.site.names (d ∷ e ∷ ds)) point)
      (λ third y. tells_both s (after (declared (with_annots before behind d)) s) (after (all_declared (map (further first) (e ∷ ds))) (after (declared (with_annots before behind d)) s)) lo skip.0 hi end body types (decl_types g.site.names (d ∷ [])) (decl_types g.site.names (e ∷ ds)) point second third (tells_later s (after (declared (with_annots before behind d)) s) lo q.0 skip.0 end body types (decl_types g.site.names (d ∷ [])) point second past x) y (λ e. e) (omega (arith, a, b, c, past)) up) (statements.declarations (e ∷ ds) g.site end second)
      (declared_tells (counting first.mods.annots) (counting_behind first e) e first ds (after (declared (with_annots before behind d)) s) start skip.0 hi end second (types ++ x.adds.added_types) x.adds.behind (scoped_within g (after (declared (with_annots before behind d)) s) second.locals (types ++ x.adds.added_types) second.made.free q.0 end skip.0 end past (omega arith) x.scoped)
      x.stands x.counted le skip.2 k.0 k.1 (further_written first e) ws.0 ws.1 fs.0 fs.1 n.1)))

  pub locals_tell : (ds : List LocalDecl) (s : Names) (lo hi end : ℕ) (body : Body) (types : List Type_) (point : Point) → Scoped g s body.locals types body.made.free lo end → Stands g s body.locals point → s.next ≡ length body.locals → hi ≤ end
      → LaidOut lo lo hi (row (placed.locals_pieces ds)) → AllOf (IsKnown g) (together (parts.each decl_parts ds)) → each_true is_written_decl ds ≡ true → each_true is_readable_decl ds ≡ true → Says g ((all_declared (declarators ds)).notes s)
      → Makes (Tells g s (after (all_declared (declarators ds)) s) lo hi end end body types (decl_types g.site.names ds) point) (statements.declarations ds g.site end body)
  locals_tell [] s lo hi end body types point scoped stands counted le laid known wr fine said = none_declared s lo hi end body types point scoped stands counted laid
  locals_tell (d ∷ ds) s lo hi end body types point scoped stands counted le laid known wr fine said =
      let r = split_rows (shared_pieces d) (own_pieces d) lo lo hi (further_pieces ds) laid in
      let w = and_parts (is_written_decl d) (each_true is_written_decl ds) wr in
      let f = and_parts (is_readable_decl d) (each_true is_readable_decl ds) fine in
      let k = all_parted (IsKnown g) (decl_parts d) (together (parts.each decl_parts ds)) known in
      makes_more (Tells g s (after (all_declared (declarators (d ∷ ds))) s) r.0 hi end end body types (decl_types g.site.names (d ∷ ds)) point) (Tells g s (after (all_declared (declarators (d ∷ ds))) s) lo hi end end body types (decl_types g.site.names (d ∷ ds)) point)
      (λ third y. record { adds = adds_as g s r.0 hi end lo hi end body types point third r.1 (omega arith) (omega arith) y.adds; scoped = y.scoped; stands = y.stands; counted = y.counted; typed = y.typed }) (statements.declarations (d ∷ ds) g.site end body)
      (declared_tells d.mods.annots d.ty.annots d d ds s lo r.0 hi end body types point (scoped_within g s body.locals types body.made.free lo end r.0 end r.1 (omega arith) scoped) stands counted le r.2 k.0 k.1 (and_parts (is_written_type d.ty) (maybe_true is_written_init d.init) w.0).0 w.0 w.1 f.0 f.1 said)
    where
      -- what stands behind the first pieces
      split_rows : (xs ys : List Layout) (start lo hi : ℕ) (zs : List Layout) → LaidOut start lo hi (row ((xs ++ ys) ++ zs)) → (mid : ℕ) × (lo ≤ mid) × LaidOut start mid hi (row (ys ++ zs))
      split_rows [] ys start lo hi zs laid = (lo, omega arith, laid)
      split_rows (x ∷ xs) ys start lo hi zs laid =
          let q = laid_parts start lo hi x (row ((xs ++ ys) ++ zs)) laid in
          let up = laid_up start lo q.0 x q.1 in
          let r = split_rows xs ys start q.0 hi zs q.2 in
          (r.0, (let m = r.1 in omega (arith, up, m)), r.2)
