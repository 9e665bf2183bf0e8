-- Declarations of locals, as lowering makes them, keep their meaning.
use Rattle.std.proofs.Common.{◌≡◌, ◌≤◌, ℕ, ◌+◌, Bool, true, false, List, [], ◌∷◌, length, Option, Some, None, true≢false, Ok, Err, refl, sym, subst, arith}
use Rattle.std.specs.Prelude.{not, if◌then◌else◌, nat_lt}
use Rattle.ix_text.specs.declared.span.Span.{Span}
use Rattle.ix_core.specs.declared.claim.Type_.{Type_}
use Rattle.ix_core.specs.declared.claim.Type_.TheVariants as type
use Rattle.ix_core.specs.declared.claim.Base.TheVariants as base
use Rattle.ix_core.specs.declared.op.OpKind.TheVariants as op
use Rattle.ix_core.specs.declared.program.Local.{Local}
use Rattle.ix_core.specs.Heap.{Held, default_of}
use Rattle.ix_core.specs.Machine.{literal_value}
use Rattle.ix_core.specs.Types.{is_void}
use Rattle.ix_tree.specs.declared.decl.LocalDecl.{LocalDecl}
use Rattle.ix_tree.specs.declared.expr.Init.{Init}
use Rattle.ix_meaning.specs.declared.note.Meaning.TheVariants as meaning
use Rattle.ix_meaning.specs.declared.note.Which.TheVariants as which
use Rattle.ix_plain.specs.declared.body.Body.{Body}
use Rattle.ix_plain.specs.declared.made.Spot.TheVariants as spot
use Rattle.ix_plain.specs.Scope.{declared_type, declared_claims}
use Rattle.ix_plain.specs.Parts.{◌>>=◌ as ◌then◌, computed, default, most_slots, write}
use Rattle.ix_plain.specs.Assigned.{init_assigns}
use Rattle.ix_plain.specs.Values.{filling}
use Rattle.ix_plain.specs.Statements as plain
use Rattle.ix_plain.specs.Statements.{Evaluated, assigned_by, scope_for, behind, with_last}
use Rattle.ix_source.specs.Runs.{◌>>=◌, gives}
use Rattle.ix_source.specs.Context.{Members, Calls}
use Rattle.ix_source.specs.Values.{initial, assign}
use Rattle.ix_source.specs.Statements as source
use Rattle.ix_source.specs.Statements.{normally}
use Rattle.ix_source.specs.Kept.{Makes, nothing_known, IsIn, Done}
use Rattle.ix_source.specs.Running.{Ground, Runs}
use Rattle.ix_source.specs.SoundStatements.{where_made, declared_sound, local_init, declaring}
use Rattle.ix_source.proofs.Made.{makes_more}
use Rattle.ix_source.proofs.Expressions.{and_first, and_second}
use Rattle.ix_source.proofs.Forms.{literal_done}
use Rattle.ix_source.specs.Grounds.{Rooted, IsGround}
use Rattle.ix_source.proofs.Statements.{runs_both, runs_nothing}
use Rattle.ix_source.proofs.Simple.{runs_as}
use Rattle.ix_source.proofs.Locals.{begun, local_runs}
use Rattle.ix_source.proofs.FullExpressions.{makes_map, then_sound, local_set, kept_init, rooted_behind}
use Rattle.ix_source.proofs.StatementForms.{context, units_then}

-- JLS 4.12.5
default_is : (ty : Type_) → is_void ty ≡ false → literal_value (default ty) ≡ default_of ty
default_is (type.Plain base.Int) some = refl
default_is (type.Plain base.Bool) some = refl
default_is (type.Plain (base.Class class)) some = refl
default_is (type.Array of depth element) some = refl
default_is type.Void none = absurd (true≢false none)

not_true : (a : Bool) → not a ≡ true → a ≡ false
not_true true e = absurd (true≢false (sym e))
not_true false e = refl

module _ (g : Ground) (members : Members) (calls : Calls) (turns : ℕ) (ground : IsGround g members calls turns) where
  module _ (decl : LocalDecl) (end : ℕ) (body : Body) (low : body.made.free ≤ body.most) (rooted : Rooted g body) where
    abbrev new : Local
    new = record { slot = body.made.free; name = decl.name.text; claims = declared_claims (g.site.names.declared decl.name.span) }

    abbrev known_in : Span
    known_in = record { from = decl.name.span.from; to = end }

    -- the body where the local's slot is taken
    abbrev taken : Body
    taken = begun g body new known_in refl

    abbrev ty : Type_
    ty = declared_type (g.site.names.declared decl.name.span)

    abbrev Declared : Option Init → Body → Type 0
    Declared init after = Runs g body after 1 (source.initially init (context g members calls turns ground) decl.name.span >>= assign (Some (meaning.Local (length body.locals))) >>= normally)

    initialised_kept : (init : Option Init) → local_init init decl.name.span g body taken ≡ true → Makes (Declared init) (plain.initialised body.made.free ty decl.name.span init g.site taken)
    initialised_kept None some =
        let set = local_set g members calls turns ground body new known_in refl [] rooted (λ slot none. absurd (true≢false (sym none))) in
        subst (λ (held : Held). Makes (λ after. Runs g body after 1 (gives held >>= assign (Some (meaning.Local (length body.locals))) >>= normally)) (plain.initialised body.made.free ty decl.name.span None g.site taken)) (default_is ty (not_true (is_void ty) some))
        (makes_map (λ v. Done (declaring g body taken []) nothing_known taken.made v.made (λ x. gives (literal_value (default ty))) (IsIn v.slot)) (λ after. Runs g body after 1 (gives (literal_value (default ty)) >>= assign (Some (meaning.Local (length body.locals))) >>= normally))
        (computed taken.made (op.Const taken.made.free (default ty)) decl.name.span) (λ v. record { slot = v.slot; body = behind taken v.made.items v.made.free }) (λ (value : Evaluated). Ok (with_last value.body (write (spot.Variable body.made.free) value.slot ty decl.name.span decl.name.span decl.name.span)))
        (literal_done (declaring g body taken []) set nothing_known taken.made (default ty) decl.name.span (omega arith))
        (λ v d. local_runs g body new known_in refl [] low (λ has. (rooted has).1) v (gives (literal_value (default ty))) ty decl.name.span decl.name.span decl.name.span d))
    initialised_kept (Some init) is =
        let a = assigned_by g.site taken (init_assigns init) in
        makes_map (λ v. Done (declaring g body taken a) nothing_known taken.made v.made (λ x. (initial init).value (context g members calls turns ground) ty) (IsIn v.slot)) (Declared (Some init))
        ((filling init).value (scope_for g.site taken (init_assigns init)) ty taken.made) (λ v. record { slot = v.slot; body = behind taken v.made.items v.made.free })
        (λ (value : Evaluated). Ok (with_last value.body (write (spot.Variable body.made.free) value.slot ((filling init).ty g.site ty) (filling init).span decl.name.span (filling init).span)))
        (kept_init g members calls turns ground init body new known_in refl rooted is ty taken.made (omega arith))
        (λ v d. local_runs g body new known_in refl a low (λ has. (rooted has).1) v ((initial init).value (context g members calls turns ground) ty) ((filling init).ty g.site ty) (filling init).span decl.name.span (filling init).span d)

    declaration_by : (b : Bool) → where_made {A = Body} (if b then Ok taken else Err which.Slots) (local_init decl.init decl.name.span g body) ≡ true
        → Makes (Declared decl.init) ((if b then Ok taken else Err which.Slots) then plain.initialised body.made.free ty decl.name.span decl.init g.site)
    declaration_by true is = initialised_kept decl.init is
    declaration_by false is = tt

    pub declaration_kept : where_made (plain.with_local decl.name end g.site body) (local_init decl.init decl.name.span g body) ≡ true
        → Makes (λ after. Runs g body after 1 (source.declaration decl (context g members calls turns ground) (length body.locals) >>= normally)) (plain.declaration decl g.site end body)
    declaration_kept is = declaration_by (nat_lt body.made.free most_slots) is

  pub declarations_kept : (decls : List LocalDecl) (end : ℕ) (body : Body) → body.made.free ≤ body.most → Rooted g body → declared_sound decls g end body ≡ true
      → Makes (λ after. Runs g body after (source.count decls) (source.declarations decls (context g members calls turns ground) (length body.locals) >>= normally)) (plain.declarations decls g.site end body)
  declarations_kept [] end body low rooted is = runs_nothing g body low
  declarations_kept (decl ∷ decls) end body low rooted is =
      let ctx = context g members calls turns ground in
      let n = length body.locals in
      then_sound (λ middle. Runs g body middle 1 (source.declaration decl ctx n >>= normally)) (λ after. Runs g body after (source.count (decl ∷ decls)) (source.declarations (decl ∷ decls) ctx n >>= normally)) (plain.declaration decl g.site end body) (declared_sound decls g end) _
      (declaration_kept decl end body low rooted (and_first _ _ is)) (and_second (where_made (plain.with_local decl.name end g.site body) (local_init decl.init decl.name.span g body)) _ is)
      (λ middle x is_then. makes_more (λ after. Runs g middle after (source.count decls) (source.declarations decls ctx (length middle.locals) >>= normally)) (λ after. Runs g body after (source.count (decl ∷ decls)) (source.declarations (decl ∷ decls) ctx n >>= normally))
      (λ after y. runs_as g body after (1 + source.count decls) (source.declaration decl ctx n >>= normally >>= (λ end. source.behind end (source.declarations decls ctx (n + 1) >>= normally))) (source.declarations (decl ∷ decls) ctx n >>= normally) (units_then g members calls turns ground (source.declaration decl ctx n) (source.declarations decls ctx (n + 1)))
      (runs_both g body middle after 1 (source.count decls) (source.declaration decl ctx n >>= normally) (source.declarations decls ctx (n + 1) >>= normally) x
      (subst (λ k. Runs g middle after (source.count decls) (source.declarations decls ctx k >>= normally)) x.counted y)))
      (plain.declarations decls g.site end middle) (declarations_kept decls end middle x.free (rooted_behind g members calls turns ground body middle 1 (source.declaration decl ctx n >>= normally) rooted x) is_then))
