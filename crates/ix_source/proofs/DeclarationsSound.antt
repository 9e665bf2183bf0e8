-- Declarations of locals without errors on names are sound, and each local owns its slot.
use Rattle.std.proofs.Common.{◌≡◌, ◌≤◌, ◌<◌, ℕ, ◌+◌, max, Bool, true, false, List, [], ◌∷◌, ◌++◌, length, map, Option, Some, None, Ok, Err, refl, sym, ap, subst, ◌∙◌, arith}
use Rattle.std.specs.Prelude.{if◌then◌else◌, nat_lt, not}
use Rattle.std.proofs.lemmas.Bool.{and_parts, false≢true}
use Rattle.ix_text.specs.declared.span.Span.{Span}
use Rattle.ix_core.specs.declared.claim.Type_.{Type_}
use Rattle.ix_core.specs.declared.program.Local.{Local}
use Rattle.ix_core.specs.declared.claim.Type_.TheVariants as type
use Rattle.ix_core.specs.declared.program.Program.{Program}
use Rattle.ix_core.specs.Types.{is_type, is_void}
use Rattle.ix_tree.specs.declared.annot.Annot.{Annot}
use Rattle.ix_tree.specs.declared.decl.LocalDecl.{LocalDecl}
use Rattle.ix_tree.specs.declared.expr.Init.{Init}
use Rattle.ix_tree.specs.Parts as parts
use Rattle.ix_tree.specs.Parts.{init_parts, decl_parts, mods_parts, type_parts, together}
use Rattle.ix_tree.specs.Placed as placed
use Rattle.ix_tree.specs.Placed.{Layout, nothing, node, LaidOut, row, init_piece, own_pieces, further_pieces, shared_pieces, locals_pieces}
use Rattle.ix_meaning.specs.declared.note.Meaning.TheVariants as meaning
use Rattle.ix_meaning.specs.declared.note.Rule.TheVariants as rule
use Rattle.ix_meaning.specs.Annotated.{written, element_claims, target_before, of_variable}
use Rattle.ix_meaning.specs.Bodies as bodies
use Rattle.ix_meaning.specs.Bodies.{after, declared, all_declared, then_told, local_known, local_declaration, declares_note, is_taken, init_notes, pending}
use Rattle.ix_meaning.specs.Declarators.{with_annots, counting, counting_behind, further, declarators}
use Rattle.ix_meaning.specs.Rules.{duplicate_name}
use Rattle.ix_meaning.specs.Scope.{Scope as Names}
use Rattle.ix_plain.specs.declared.body.Body.{Body}
use Rattle.ix_plain.specs.Parts.{Within, ◌>>=◌, computed, default, most_slots}
use Rattle.ix_plain.specs.Scope.{declared_type, declared_claims}
use Rattle.ix_plain.specs.Statements as statements
use Rattle.ix_plain.specs.Statements.{behind_value, with_local}
use Rattle.ix_formed.specs.Additions.{Makes, AllOf}
use Rattle.ix_formed.specs.LocalTypes.{decl_types}
use Rattle.ix_formed.specs.NoErrors.{Agrees}
use Rattle.ix_formed.specs.Readable.{is_readable_init, is_readable_decl}
use Rattle.ix_formed.specs.TypedStatements.{Ground, IsGround, Says, IsKnown, Tells}
use Rattle.ix_formed.specs.Written.{is_written_type, is_written_init, is_written_decl, maybe_true, each_true}
use Rattle.ix_formed.proofs.EachMember.{said_parts, not_broken, type_known}
use Rattle.ix_formed.proofs.FurtherDeclarators.{further_written}
use Rattle.ix_formed.proofs.LayoutSpans.{laid_parts, laid_up, init_spans, init_single}
use Rattle.ix_formed.proofs.NumberLists.{both_true}
use Rattle.ix_formed.proofs.PlainItems.{makes_more, makes_then, makes_both}
use Rattle.ix_formed.proofs.ScopedLocals.{scoped_within, scoped_for}
use Rattle.ix_formed.proofs.TypedDeclarations.{scoped_pending}
use Rattle.ix_formed.proofs.TypedExpressions.{all_parted}
use Rattle.ix_formed.proofs.TypedForms.{parted}
use Rattle.ix_formed.proofs.TypedLocals.{declaration_tells}
use Rattle.ix_source.specs.Running as running
use Rattle.ix_source.specs.SoundStatements.{where_made, local_init, declared_sound}
use Rattle.ix_source.proofs.SoundEvaluations.{Sight, seen_ground, local_init_sound}
use Rattle.ix_source.proofs.SoundLists.{made_so, StandsAt, none_stands, stands_within}
use Rattle.ix_source.proofs.VariablesOwn.{OwnedIn, owned_pending, owned_last}

-- whatever is made
pub makes_any : {A : Type 0} (r : Within A) → Makes (λ (made : A). Unit {0}) r
makes_any (Ok made) = tt
makes_any (Err limit) = tt

pub so_always : {A : Type 0} (r : Within A) → where_made r (λ made. true) ≡ true
so_always (Ok made) = refl
so_always (Err limit) = refl

-- ---- the locals of a body behind a declaration

abbrev pub new_local : LocalDecl → Rattle.ix_plain.specs.Scope.Site → ℕ → Body → Local × Span
new_local d site end body = (record { slot = body.made.free; name = d.name.text; claims = declared_claims (site.names.declared d.name.span) }, record { from = d.name.span.from; to = end })

abbrev pub with_new : LocalDecl → Rattle.ix_plain.specs.Scope.Site → ℕ → Body → Body
with_new d site end body = record {
  made = record { items = body.made.items; free = body.made.free + 1 };
  locals = body.locals ++ new_local d site end body ∷ [];
  most = max body.most (body.made.free + 1);
  loops = body.loops;
}

initialised_locals : (slot : ℕ) (ty : Type_) (name : Span) (o : Option Init) (site : Rattle.ix_plain.specs.Scope.Site) (body : Body) → Makes (λ (made : Body). made.locals ≡ body.locals) (statements.initialised slot ty name o site body)
initialised_locals slot ty name None site body =
    makes_then (λ (value : statements.Evaluated). value.body.locals ≡ body.locals) (λ (made : Body). made.locals ≡ body.locals) (computed body.made (Rattle.ix_core.specs.declared.op.OpKind.TheVariants.Const body.made.free (default ty)) name >>= behind_value body) _
    (makes_then (λ value. Unit {0}) (λ (value : statements.Evaluated). value.body.locals ≡ body.locals) (computed body.made (Rattle.ix_core.specs.declared.op.OpKind.TheVariants.Const body.made.free (default ty)) name) (behind_value body) (makes_any _) (λ value u. refl))
    (λ value e. e)
initialised_locals slot ty name (Some i) site body =
    makes_then (λ (value : statements.Evaluated). value.body.locals ≡ body.locals) (λ (made : Body). made.locals ≡ body.locals) (statements.init_evaluated site i ty body) _
    (makes_then (λ value. Unit {0}) (λ (value : statements.Evaluated). value.body.locals ≡ body.locals)
    ((Rattle.ix_plain.specs.Values.filling i).value (statements.scope_for site body (Rattle.ix_plain.specs.Assigned.init_assigns i)) ty body.made) (behind_value body) (makes_any _) (λ value u. refl))
    (λ value e. e)

declaration_locals : (d : LocalDecl) (site : Rattle.ix_plain.specs.Scope.Site) (end : ℕ) (body : Body) → Makes (λ (made : Body). made.locals ≡ body.locals ++ new_local d site end body ∷ []) (statements.declaration d site end body)
declaration_locals d site end body = by_room (nat_lt body.made.free most_slots)
  where
    by_room : (b : Bool) → Makes (λ (made : Body). made.locals ≡ body.locals ++ new_local d site end body ∷ [])
        ((if b then Ok (with_new d site end body) else Err Rattle.ix_meaning.specs.declared.note.Which.TheVariants.Slots) >>= statements.initialised body.made.free (declared_type (site.names.declared d.name.span)) d.name.span d.init site)
    by_room true = initialised_locals body.made.free (declared_type (site.names.declared d.name.span)) d.name.span d.init site (with_new d site end body)
    by_room false = tt

-- an initialiser begins where it is
restarted : (i : Init) (start from at to : ℕ) → LaidOut start from at (init_piece i) → at ≤ to → LaidOut from from to (init_piece i)
restarted i start from at to laid le =
    let single = init_single i in
    let n = subst (LaidOut start from at) single.1 laid in
    subst (LaidOut from from to) (sym single.1) (n.0, n.1, n.2, (let a = n.3 in omega (arith, a, le)))

-- a type of the program isn't `void`
real_is : (p : Program) (ty : Type_) → is_type p ty ≡ true → is_void ty ≡ false
real_is p type.Void e = absurd (false≢true e)
real_is p (type.Plain of) e = refl
real_is p (type.Array of depth claims) e = refl

module _ (g : Ground) (ground : IsGround g) (v : Sight g) where
  abbrev k : running.Ground
  k = seen_ground g ground v

  abbrev At : Names → Body → ℕ → ℕ → Type 0
  At s body from end = StandsAt g ground v s body from end

  abbrev So : Rattle.ix_meaning.specs.declared.note.Note.Note → Type 0
  So note = Agrees g.site.names g.parts note

  -- ---- one declarator

  module _ (d : LocalDecl) (s : Names) (lo mid end : ℕ) (body : Body) (at : At s body lo end) (from : lo ≤ d.name.span.from) (some : d.name.span.from < d.name.span.to) (to : d.name.span.to ≤ mid) (up : mid ≤ end)
      (said : Says g ((declared d).notes s)) (written_decl : is_written_type d.ty ≡ true) where
    record IsNoted (ty : Type_) : Type 0 where
      pub typed : (local_declaration d s).ty ≡ Some ty
      pub real : is_type g.program ty ≡ true
      pub free_name : is_taken s d.name ≡ false
      pub declares : declared_type (g.site.names.declared d.name.span) ≡ ty
      pub filled : Says g (init_notes d.init (pending d s) (Some ty))

    noted : (ty : Type_) × IsNoted ty
    noted =
        let x = local_declaration d s in
        let a = said_parts So x.notes _ said in
        let b = said_parts So (duplicate_name (is_taken s d.name) d.name.span) _ a.1 in
        let c = said_parts So (declares_note d.name.span x.ty (of_variable x.claims)) _ b.1 in
        let known = type_known So (λ error wrong. wrong) s.world.class d.ty (element_claims (target_before d.ty) d.mods.annots) (said_parts So (written s.world.class d.ty []).notes _ a.0).0 in (
          known.0,
          record {
            typed = known.1;
            real = ground.declared_types d.ty d.mods.annots known.0 (ap (λ (w : Rattle.ix_meaning.specs.Members.World). (written w.class d.ty (element_claims (target_before d.ty) d.mods.annots)).ty) (sym at.scoped.world) ∙ known.1);
            declares = ap declared_type (subst (λ (o : Option Type_). AllOf So (declares_note d.name.span o (of_variable x.claims))) known.1 c.0).0;
            free_name = not_broken So (λ error wrong. wrong) (is_taken s d.name) rule.DuplicateName d.name.span b.0;
            filled = subst (λ (o : Option Type_). Says g (init_notes d.init (pending d s) o)) known.1 c.1;
          },
        )

    abbrev local : Local × Span
    local = new_local d g.site end body

    abbrev begun : Body
    begun = with_new d g.site end body

    -- ---- its initialiser

    init_said : (o : Option Init) (start : ℕ) → d.init ≡ o → LaidOut start d.name.span.to mid (row (placed.maybe init_piece o)) → AllOf (IsKnown g) (parts.maybe init_parts o) → maybe_true is_written_init o ≡ true → maybe_true is_readable_init o ≡ true
        → (ty : Type_) → IsNoted ty → local_init o d.name.span k body begun ≡ true
    init_said None start e laid known wr fine ty is = ap (λ t. not (is_void t)) is.declares ∙ ap not (real_is g.program ty is.real)
    init_said (Some i) start e laid known wr fine ty is =
        let q = laid_parts start d.name.span.to mid (init_piece i) nothing laid in
        let there = restarted i start d.name.span.to q.0 mid q.1 q.2 in
        let types = at.types ++ ty ∷ [] in
        let inside = scoped_pending g s body.locals at.types body.made.free lo end at.scoped local ty refl from refl in
        let scoped = scoped_within g (pending d s) (body.locals ++ local ∷ []) types (body.made.free + 1) d.name.span.from end d.name.span.to mid (omega (arith, some)) up
        (scoped_for g s (pending d s) (body.locals ++ local ∷ []) types (body.made.free + 1) d.name.span.from end refl refl refl (λ e. e) (λ e. e) refl refl inside) in
        let owned = owned_pending g s.names body.locals (local ∷ []) at.types body.made.free lo end at.scoped.variables at.owned in
        local_init_sound g ground v (pending d s) begun types d.name.span.to mid scoped body owned at.object i (init_spans i d.name.span.to d.name.span.to mid (omega arith) there) known wr fine ty is.real
        (subst (λ (o : Option Init). Says g (init_notes o (pending d s) (Some ty))) e is.filled)

    abbrev Initialised : Type 0
    Initialised = where_made (with_local d.name end g.site body) (local_init d.init d.name.span k body) ≡ true

    initialised : local_init d.init d.name.span k body begun ≡ true → Initialised
    initialised e = by_room (nat_lt body.made.free most_slots)
      where
        by_room : (b : Bool) → where_made (if b then Ok begun else Err Rattle.ix_meaning.specs.declared.note.Which.TheVariants.Slots) (local_init d.init d.name.span k body) ≡ true
        by_room true = e
        by_room false = refl

    -- ---- behind it

    owned_behind : (ty : Type_) → IsNoted ty → (made : Body) → made.locals ≡ body.locals ++ local ∷ [] → OwnedIn g ((declared d).names s) made.locals
    owned_behind ty is made grown =
        let names : (declared d).names s ≡ s.names ++ local_known d s (local_declaration d s).ty ∷ [] =
        ap (λ b. if b then s.names else s.names ++ local_known d s (local_declaration d s).ty ∷ []) is.free_name in
        let means : (local_known d s (local_declaration d s).ty).meaning ≡ meaning.Local (length body.locals) = ap meaning.Local at.counted in
        subst (λ l. OwnedIn g ((declared d).names s) l) (sym grown)
        (subst (λ vs. OwnedIn g vs (body.locals ++ local ∷ [])) (sym names) (owned_last g s.names body.locals local at.types lo end (local_known d s (local_declaration d s).ty) at.scoped.variables means at.owned))

    pub one_declared : (start : ℕ) → LaidOut start d.name.span.to mid (row (placed.maybe init_piece d.init)) → AllOf (IsKnown g) (parts.maybe init_parts d.init) → maybe_true is_written_init d.init ≡ true → maybe_true is_readable_init d.init ≡ true
        → Initialised × Makes (λ (made : Body). At (after (declared d) s) made mid end) (statements.declaration d g.site end body)
    one_declared start laid known wr fine =
        let own = decl_types g.site.names (d ∷ []) in
        let Told : Body → Type 0 = Tells g s (after (declared d) s) lo mid end end body at.types own None in (
          initialised (init_said d.init start refl laid known wr fine noted.0 noted.1),
          makes_more (λ (made : Body). Told made × (made.locals ≡ body.locals ++ local ∷ [])) (λ (made : Body). At (after (declared d) s) made mid end)
              (λ made m. record { types = at.types ++ m.0.adds.added_types; scoped = m.0.scoped; counted = m.0.counted; owned = owned_behind noted.0 noted.1 made m.1; object = at.object }) (statements.declaration d g.site end body)
              (makes_both Told (λ (made : Body). made.locals ≡ body.locals ++ local ∷ []) (statements.declaration d g.site end body)
              (declaration_tells g ground d s lo mid end body at.types None at.scoped (none_stands g ground v s body.locals) at.counted from some to up said written_decl start laid known wr fine)
              (declaration_locals d g.site end body)),
        )

  -- ---- a declarator, and those behind it

  followed_nothing : (l : Layout) → placed.followed l nothing ≡ l
  followed_nothing nothing = refl
  followed_nothing (node span inner later) = ap (node span inner) (followed_nothing later)
  followed_nothing (placed.copy inner later) = ap (placed.copy inner) (followed_nothing later)

  split_maybe : (o : Option Init) (start from hi : ℕ) (rest : List Layout) → LaidOut start from hi (row (placed.maybe init_piece o ++ rest)) → (mid : ℕ) × (from ≤ mid) × LaidOut start from mid (row (placed.maybe init_piece o)) × LaidOut start mid hi (row rest)
  split_maybe None start from hi rest laid = (from, omega arith, omega arith, laid)
  split_maybe (Some i) start from hi rest laid =
      let q = laid_parts start from hi (init_piece i) (row rest) laid in
      (q.0, laid_up start from q.0 (init_piece i) q.1, subst (LaidOut start from q.0) (sym (followed_nothing (init_piece i))) q.1, q.2)

  decl_known : (d : LocalDecl) → AllOf (IsKnown g) (decl_parts d) → AllOf (IsKnown g) (parts.maybe init_parts d.init)
  decl_known d known = (all_parted (IsKnown g) (type_parts d.ty) (parts.elsewhere d.name ∷ parts.maybe init_parts d.init) (all_parted (IsKnown g) (mods_parts d.mods) _ known.1).1).1.1

  -- what is so of declarators
  abbrev Declared : List LocalDecl → bodies.Telling → Names → ℕ → ℕ → Body → Type 0
  Declared ds t s hi end body = (declared_sound ds k end body ≡ true) × Makes (λ (made : Body). OwnedIn g (t.names s) made.locals) (statements.declarations ds g.site end body)

  declared_sounds : (before behind : List Annot) (d first : LocalDecl) (ds : List LocalDecl) (s : Names) (start lo hi end : ℕ) (body : Body) → At s body lo end → hi ≤ end → LaidOut start lo hi (row (own_pieces d ++ further_pieces ds))
      → AllOf (IsKnown g) (decl_parts d) → AllOf (IsKnown g) (together (parts.each decl_parts ds)) → is_written_type (with_annots before behind d).ty ≡ true → is_written_decl d ≡ true → each_true is_written_decl ds ≡ true → is_readable_decl d ≡ true → each_true is_readable_decl ds ≡ true
      → Says g ((declared (with_annots before behind d)).notes s ++ (all_declared (map (further first) ds)).notes (after (declared (with_annots before behind d)) s))
      → Declared (d ∷ ds) (then_told (declared (with_annots before behind d)) (all_declared (map (further first) ds))) s hi end body
  declared_sounds before behind d first [] s start lo hi end body at le laid known others wt wr wrs fine fines said =
      let q = split_maybe d.init start d.name.span.to hi [] laid.3 in
      let n = parted g ground ((declared (with_annots before behind d)).notes s) [] said in
      let w = and_parts (is_written_type d.ty) (maybe_true is_written_init d.init) wr in
      let up = q.3 in
      let one = one_declared (with_annots before behind d) s lo q.0 end body at laid.0 laid.1 q.1 (omega (arith, up, le)) n.0 wt start q.2 (decl_known d known) w.1 fine in (
        both_true (where_made (with_local d.name end g.site body) (local_init d.init d.name.span k body)) _ one.0 (so_always (statements.declaration d g.site end body)),
        makes_then (λ (made : Body). At (after (declared (with_annots before behind d)) s) made q.0 end) (λ (made : Body). OwnedIn g ((declared (with_annots before behind d)).names s) made.locals) (statements.declaration d g.site end body) _ one.1 (λ made m. m.owned),
      )
  declared_sounds before behind d first (e ∷ ds) s start lo hi end body at le laid known others wt wr wrs fine fines said =
      let q = split_maybe d.init start d.name.span.to hi (further_pieces (e ∷ ds)) laid.3 in
      let skip = laid_parts start q.0 hi (placed.again (shared_pieces e)) (row (own_pieces e ++ further_pieces ds)) q.3 in
      let past = laid_up start q.0 skip.0 (placed.again (shared_pieces e)) skip.1 in
      let up = laid_up start skip.0 hi (row (own_pieces e ++ further_pieces ds)) skip.2 in
      let s1 = after (declared (with_annots before behind d)) s in
      let n = parted g ground ((declared (with_annots before behind d)).notes s) ((all_declared (map (further first) (e ∷ ds))).notes s1) said in
      let w = and_parts (is_written_type d.ty) (maybe_true is_written_init d.init) wr in
      let ws = and_parts (is_written_decl e) (each_true is_written_decl ds) wrs in
      let fs = and_parts (is_readable_decl e) (each_true is_readable_decl ds) fines in
      let kn = all_parted (IsKnown g) (decl_parts e) (together (parts.each decl_parts ds)) others in
      let one = one_declared (with_annots before behind d) s lo q.0 end body at laid.0 laid.1 q.1 (omega (arith, up, le, past)) n.0 wt start q.2 (decl_known d known) w.1 fine in
      let more = λ (made : Body) (m : At s1 made q.0 end).
      declared_sounds (counting first.mods.annots) (counting_behind first e) e first ds s1 start skip.0 hi end made (stands_within g ground v s1 made q.0 end skip.0 end past (omega arith) m) le skip.2 kn.0 kn.1 (further_written first e) ws.0 ws.1 fs.0 fs.1 n.1 in (
        both_true (where_made (with_local d.name end g.site body) (local_init d.init d.name.span k body)) _ one.0
            (made_so (statements.declaration d g.site end body) (declared_sound (e ∷ ds) k end)
            (makes_more (λ (made : Body). At s1 made q.0 end) (λ (made : Body). declared_sound (e ∷ ds) k end made ≡ true) (λ made m. (more made m).0) (statements.declaration d g.site end body) one.1)),
        makes_then (λ (made : Body). At s1 made q.0 end) (λ (made : Body). OwnedIn g ((all_declared (map (further first) (e ∷ ds))).names s1) made.locals) (statements.declaration d g.site end body) _ one.1 (λ made m. (more made m).1),
      )

  pub locals_sound : (ds : List LocalDecl) (s : Names) (lo hi end : ℕ) (body : Body) → At s body lo end → hi ≤ end → LaidOut lo lo hi (row (locals_pieces ds)) → AllOf (IsKnown g) (together (parts.each decl_parts ds)) → each_true is_written_decl ds ≡ true → each_true is_readable_decl ds ≡ true
      → Says g ((all_declared (declarators ds)).notes s) → Declared ds (all_declared (declarators ds)) s hi end body
  locals_sound [] s lo hi end body at le laid known wr fine said = (refl, at.owned)
  locals_sound (d ∷ ds) s lo hi end body at le laid known wr fine said =
      let r = split_rows (shared_pieces d) (own_pieces d) lo lo hi (further_pieces ds) laid in
      let w = and_parts (is_written_decl d) (each_true is_written_decl ds) wr in
      let f = and_parts (is_readable_decl d) (each_true is_readable_decl ds) fine in
      let kn = all_parted (IsKnown g) (decl_parts d) (together (parts.each decl_parts ds)) known in
      declared_sounds d.mods.annots d.ty.annots d d ds s lo r.0 hi end body (stands_within g ground v s body lo end r.0 end r.1 (omega arith) at) le r.2 kn.0 kn.1 (and_parts (is_written_type d.ty) (maybe_true is_written_init d.init) w.0).0 w.0 w.1 f.0 f.1 said
    where
      -- what stands behind the first pieces
      split_rows : (xs ys : List Layout) (start lo hi : ℕ) (zs : List Layout) → LaidOut start lo hi (row ((xs ++ ys) ++ zs)) → (mid : ℕ) × (lo ≤ mid) × LaidOut start mid hi (row (ys ++ zs))
      split_rows [] ys start lo hi zs laid = (lo, omega arith, laid)
      split_rows (x ∷ xs) ys start lo hi zs laid =
          let q = laid_parts start lo hi x (row ((xs ++ ys) ++ zs)) laid in
          let up = laid_up start lo q.0 x q.1 in
          let r = split_rows xs ys start q.0 hi zs q.2 in
          (r.0, (let m = r.1 in omega (arith, up, m)), r.2)
