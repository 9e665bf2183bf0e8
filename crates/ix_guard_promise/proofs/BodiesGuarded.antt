-- In the body of each method and constructor of a guarded text each access at a place moved is guarded: what a constructor begins with has none.
use Rattle.std.proofs.Common.{◌≡◌, ℕ, Bool, true, false, List, [], ◌∷◌, ◌++◌, map, Option, None, Some, Ok, Err, refl, sym, subst}
use Rattle.std.specs.Prelude.{◌+◌, if◌then◌else◌, nat_lt}
use Rattle.std.proofs.lemmas.Bool.{and_parts}
use Rattle.ix_text.specs.declared.span.Span.{Span}
use Rattle.ix_core.specs.declared.op.Arg.{Arg}
use Rattle.ix_core.specs.declared.op.Op.{Op}
use Rattle.ix_core.specs.declared.op.OpKind.{OpKind}
use Rattle.ix_core.specs.declared.op.OpKind.TheVariants as op
use Rattle.ix_core.specs.Code.{End, items_code, item_code}
use Rattle.ix_tree.specs.declared.decl.LocalDecl.{LocalDecl}
use Rattle.ix_tree.specs.declared.decl.Member.{Member}
use Rattle.ix_tree.specs.declared.decl.MethodDecl.{MethodDecl}
use Rattle.ix_tree.specs.declared.expr.Expr.{Expr}
use Rattle.ix_tree.specs.declared.expr.Init.{Init}
use Rattle.ix_guard_text.specs.Bare.{bare_maybe}
use Rattle.ix_meaning.specs.declared.note.Which.TheVariants as which
use Rattle.ix_plain.specs.declared.body.Body.{Body}
use Rattle.ix_plain.specs.declared.made.Made.{Made}
use Rattle.ix_plain.specs.Parts.{Within, ◌>>=◌, Value, done, computed, with_item, most_slots}
use Rattle.ix_plain.specs.Assigned.{all_assign, init_assigns}
use Rattle.ix_plain.specs.Scope.{Scope, constructor_at, declared_type}
use Rattle.ix_plain.specs.Values.{Arguments, lowering, filling, arguments_from, calling}
use Rattle.ix_plain.specs.Members.{next_field}
use Rattle.ix_plain.specs.Statements as plain
use Rattle.ix_plain.specs.Statements.{Running, Evaluated, scope_for, init_evaluated, behind_value}
use Rattle.ix_plain.specs.Program.{Home, start, super_call, field_initialised, member_initialised, fields_initialised, constructor_start, args_or_none, written_start, written_body}
use Rattle.ix_formed.specs.Additions.{Makes, AllOf}
use Rattle.ix_formed.specs.Readable.{is_readable_expr, is_readable_init, is_readable_decl, is_readable_stmt, is_readable_member, is_readable_method}
use Rattle.ix_formed.specs.Written.{maybe_true, each_true}
use Rattle.ix_formed.proofs.PlainItems.{makes_more, makes_then, made_is}
use Rattle.ix_formed.proofs.PlainMethods.{each_readable}
use Rattle.ix_source.specs.Running.{Ground}
use Rattle.ix_source.specs.SoundStatements.{statement_soundness, where_made, each_sound}
use Rattle.ix_source.proofs.SoundRuns.{runs_are}
use Rattle.ix_guard.specs.Accesses.{Access}
use Rattle.ix_guard.specs.Tests.{Site}
use Rattle.ix_guard_promise.specs.Known.{Unknown, accessed}
use Rattle.ix_guard_promise.specs.Guards.{Guards, Guarded, does, ends}
use Rattle.ix_guard_promise.specs.Pieces.{IsElsewhere}
use Rattle.ix_guard_promise.proofs.GuardedPieces.{elsewhere}
use Rattle.ix_guard_text.specs.Moved.{Move, moved_span, moved_expr, moved_init, moved_decl}
use Rattle.ix_guard_text.specs.TestParts.{Parts}
use Rattle.ix_guard_text.specs.GuardedPlaces as placed
use Rattle.ix_guard_text.specs.GuardedPlaces.{Each, PlacedMember, PlacedMethod}
use Rattle.ix_guard_promise.specs.AllAccesses.{all_accesses, init_accesses, decl_accesses, maybe, each_of}
use Rattle.ix_guard_promise.specs.AtPlace.{HasNone}
use Rattle.ix_guard_promise.specs.KeptSlots.{Leaves}
use Rattle.ix_guard_promise.specs.SourceGuards.{MemberGuards, GuardsAt, args_accesses}
use Rattle.ix_guard_promise.specs.Laws.{Laws}
use Rattle.ix_guard_promise.proofs.Growing.{with_sound, Grows, grows_none, grows_both, grows_item, elsewhere_known}
use Rattle.ix_guard_promise.proofs.Compounds.{never_accessed}
use Rattle.ix_guard_promise.proofs.TestsGrow.{IsTest}
use Rattle.ix_guard_promise.proofs.Outlined.{none_split}
use Rattle.ix_guard_promise.proofs.StatementsGuarded.{list_does}

module _ (site : Site) (move : Move) (place : Span) (g : Ground) (laws : Laws site move place g) where
  abbrev at : Span
  at = moved_span move place

  abbrev IsOne : Access → Parts → Type 0
  IsOne = IsTest site move at g

  -- what is guarded from a body to one behind it, where nothing need be known
  abbrev pub Goes : Body → Within Body → Type 0
  Goes body made = Makes (λ (after : Body). Grows at Unknown Unknown body.made after.made) made

  goes_both : (body : Body) (made : Within Body) (next : Body → Within Body) → Goes body made → ((after : Body) → Goes after (next after)) → Goes body (made >>= next)
  goes_both body made next one two =
      makes_then (λ (after : Body). Grows at Unknown Unknown body.made after.made) (λ (after : Body). Grows at Unknown Unknown body.made after.made) made next one
      (λ after a. makes_more (λ (last : Body). Grows at Unknown Unknown after.made last.made) (λ (last : Body). Grows at Unknown Unknown body.made last.made)
      (λ last b. grows_both at Unknown Unknown Unknown body.made after.made last.made a b) (next after) (two after))

  quiet_op : (kind : OpKind) (span : Span) (parts : List Span) → accessed kind ≡ None → Guarded at Unknown (item_code (done kind span parts) End) Unknown
  quiet_op kind span parts none =
      let one : Op = record { kind = kind; span = span; parts = parts } in
      does one End Unknown Unknown (never_accessed at Unknown one none) (ends Unknown Unknown tt)

  computed_grows : (made : Made) (kind : OpKind) (span : Span) → accessed kind ≡ None → Makes (λ (v : Value). Grows at Unknown Unknown made v.made) (computed made kind span)
  computed_grows made kind span none = by_room (nat_lt made.free most_slots)
    where
      by_room : (b : Bool) → Makes (λ (v : Value). Grows at Unknown Unknown made v.made)
          (if b then Ok (record { made = record { items = made.items ++ done kind span [] ∷ []; free = made.free + 1 }; slot = made.free }) else Err which.Slots)
      by_room true = record { items = done kind span [] ∷ []; appended = refl; guarded = quiet_op kind span [] none }
      by_room false = tt

  -- ---- the arguments for the parent's constructor

  args_grow : (args : List Expr) (given : List Arg) (scope : Scope) (made : Made) → HasNone place (each_of all_accesses args) → each_true is_readable_expr (map (moved_expr move) args) ≡ true
      → Makes (λ (a : Arguments). Grows at Unknown Unknown made a.made) (arguments_from given (map lowering (map (moved_expr move) args)) scope made)
  args_grow [] given scope made none fine = grows_none at Unknown made made refl
  args_grow (arg ∷ args) given scope made none fine =
      let n = none_split place (all_accesses arg) (each_of all_accesses args) none in
      let e = moved_expr move arg in
      let f = and_parts (is_readable_expr e) (each_true is_readable_expr (map (moved_expr move) args)) fine in
      makes_then (λ (v : Value). Grows at Unknown Unknown made v.made) (λ (a : Arguments). Grows at Unknown Unknown made a.made) ((lowering e).value scope made) _
      (elsewhere_known at scope made e (laws.elsewhere arg scope made n.0 f.0)).value
      (λ v a.
      let more = given ++ record { slot = v.slot; span = (lowering e).span } ∷ [] in
      makes_more (λ (b : Arguments). Grows at Unknown Unknown v.made b.made) (λ (b : Arguments). Grows at Unknown Unknown made b.made)
      (λ b x. grows_both at Unknown Unknown Unknown made v.made b.made a x) (arguments_from more (map lowering (map (moved_expr move) args)) scope v.made) (args_grow args more scope v.made n.1 f.1))

  super_goes : (parent : Option ℕ) (args : List Expr) (span : Span) (body : Body) → HasNone place (each_of all_accesses args) → each_true is_readable_expr (map (moved_expr move) args) ≡ true
      → Goes body (super_call g.site parent (map (moved_expr move) args) span body)
  super_goes None args span body none fine = grows_none at Unknown body.made body.made refl
  super_goes (Some parent) args span body none fine =
      let scope = scope_for g.site body (all_assign (map (moved_expr move) args)) in
      makes_then (λ (a : Arguments). Grows at Unknown Unknown body.made a.made) (λ (after : Body). Grows at Unknown Unknown body.made after.made)
      (arguments_from [] (map lowering (map (moved_expr move) args)) scope body.made) _ (args_grow args [] scope body.made none fine)
      (λ given a.
      makes_then (λ (v : Value). Grows at Unknown Unknown given.made v.made) (λ (after : Body). Grows at Unknown Unknown body.made after.made) (calling op.SuperCall (constructor_at g.site parent) (Some 0) parent span given) _
      (computed_grows given.made (op.SuperCall (record { target = given.made.free; method = constructor_at g.site parent; receiver = Some 0; args = given.args; class = parent; span = span })) span refl)
      (λ v b. let both = grows_both at Unknown Unknown Unknown body.made given.made v.made a b in record { items = both.items; appended = both.appended; guarded = both.guarded }))

  -- ---- the initialisers of fields

  field_goes : (field : ℕ) (decl : LocalDecl) (init : Option Init) (body : Body) → HasNone place (maybe init_accesses init) → maybe_true is_readable_init (bare_maybe (moved_init move) init) ≡ true
      → Goes body (field_initialised g.site field (moved_decl move decl) (bare_maybe (moved_init move) init) body)
  field_goes field decl None body none fine = grows_none at Unknown body.made body.made refl
  field_goes field decl (Some init) body none fine =
      let i = moved_init move init in
      let d = moved_decl move decl in
      let ty = declared_type (g.site.names.declared d.name.span) in
      let scope = scope_for g.site body (init_assigns i) in
      makes_then (λ (v : Evaluated). Grows at Unknown Unknown body.made v.body.made) (λ (after : Body). Grows at Unknown Unknown body.made after.made) (init_evaluated g.site i ty body) _
      (makes_then (λ (v : Value). Leaves (IsElsewhere at) body.made v.made) (λ (v : Evaluated). Grows at Unknown Unknown body.made v.body.made) ((filling i).value scope ty body.made) (behind_value body)
      (laws.init_elsewhere init scope ty body.made none fine) (λ v a. record { items = a.items; appended = a.appended; guarded = elsewhere at (items_code a.items) a.each }))
      (λ v a.
      let last = done (op.WriteField 0 field v.slot) (filling i).span (d.name.span ∷ (filling i).span ∷ []) in
      grows_both at Unknown Unknown Unknown body.made v.body.made (with_item v.body.made last) a
      (grows_item at Unknown Unknown v.body.made last (quiet_op (op.WriteField 0 field v.slot) (filling i).span (d.name.span ∷ (filling i).span ∷ []) refl)))

  member_goes : (field : ℕ) (decl : LocalDecl) (body : Body) → HasNone place (decl_accesses decl) → is_readable_decl (moved_decl move decl) ≡ true → Goes body (member_initialised g.site field (moved_decl move decl) body)
  member_goes field decl body none fine = by_static decl.mods.is_static
    where
      by_static : (b : Bool) → Goes body (if b then Ok body else field_initialised g.site field (moved_decl move decl) (bare_maybe (moved_init move) decl.init) body)
      by_static true = grows_none at Unknown body.made body.made refl
      by_static false = field_goes field decl decl.init body none fine

  fields_go : (olds news : List Member) → Each (PlacedMember site move IsOne) olds news → AllOf (MemberGuards site place) olds → each_true is_readable_member news ≡ true → (field : ℕ) (body : Body)
      → Goes body (fields_initialised g.site field news body)
  fields_go _ _ placed.none guards fine field body = grows_none at Unknown body.made body.made refl
  fields_go _ _ (placed.one_more {x} {y} {xs} {ys} (placed.field decl) more) guards fine field body =
      let d = moved_decl move decl in
      let f = and_parts (is_readable_decl d) (each_true is_readable_member ys) fine in
      goes_both body (member_initialised g.site field d body) (fields_initialised g.site (next_field field d) ys) (member_goes field decl body guards.0 f.0)
      (λ after. fields_go xs ys more guards.1 f.1 (next_field field d) after)
  fields_go _ _ (placed.one_more {x} {y} {xs} {ys} (placed.method {old} {new} is) more) guards fine field body =
      fields_go xs ys more guards.1 (and_parts (is_readable_method new) (each_true is_readable_member ys) fine).1 field body

  -- ---- bodies

  module _ (home : Home) (olds : List Member) (members : Each (PlacedMember site move IsOne) olds home.members) (guards : AllOf (MemberGuards site place) olds) (fine : each_true is_readable_member home.members ≡ true) where
    start_goes : (args : List Expr) (span : Span) (body : Body) → HasNone place (each_of all_accesses args) → each_true is_readable_expr (map (moved_expr move) args) ≡ true
        → Goes body (constructor_start g.site home (map (moved_expr move) args) span body)
    start_goes args span body none readable =
        goes_both body (super_call g.site home.parent (map (moved_expr move) args) span body) (fields_initialised g.site home.field home.members) (super_goes home.parent args span body none readable)
        (λ after. fields_go olds home.members members guards fine home.field after)

    -- a constructor that isn't written
    pub default_guards : (span : Span) (made : Body) → constructor_start g.site home [] span (start 1) ≡ Ok made → Guards at (items_code made.made.items)
    default_guards span made is =
        let a = made_is (λ (after : Body). Grows at Unknown Unknown (start 1).made after.made) (constructor_start g.site home [] span (start 1)) made (start_goes [] span (start 1) tt refl) is in
        subst (λ items. Guards at (items_code items)) (sym a.appended) a.guarded

    -- a written method or constructor
    module _ (old new : MethodDecl) (method : PlacedMethod site move IsOne old new) (none : HasNone place (args_accesses old.parent_args)) (own : GuardsAt site place old.body) (readable : is_readable_method new ≡ true) where
      f : (maybe_true (each_true is_readable_expr) new.parent_args ≡ true) × (each_true is_readable_stmt new.body ≡ true)
      f = and_parts (maybe_true (each_true is_readable_expr) new.parent_args) (each_true is_readable_stmt new.body) readable

      args_start : (args : Option (List Expr)) → HasNone place (args_accesses args) → maybe_true (each_true is_readable_expr) (bare_maybe (map (moved_expr move)) args) ≡ true → (body : Body)
          → Goes body (constructor_start g.site home (args_or_none (bare_maybe (map (moved_expr move)) args)) new.name.span body)
      args_start None none readable body = start_goes [] new.name.span body tt refl
      args_start (Some args) none readable body = start_goes args new.name.span body none readable

      written_goes : (body : Body) → Goes body (written_start g.site home new body)
      written_goes body = by_constructor new.constructor
        where
          by_constructor : (b : Bool) → Goes body (if b then constructor_start g.site home (args_or_none new.parent_args) new.name.span body else Ok body)
          by_constructor true =
              subst (λ (args : Option (List Expr)). Goes body (constructor_start g.site home (args_or_none args) new.name.span body)) (sym method.parent_args)
              (args_start old.parent_args none (subst (λ (args : Option (List Expr)). maybe_true (each_true is_readable_expr) args ≡ true) method.parent_args f.0) body)
          by_constructor false = grows_none at Unknown body.made body.made refl

      statements_go : (body : Body) → each_sound (map statement_soundness new.body) g new.span.to body ≡ true → Goes body (plain.each (map plain.statement new.body) g.site new.span.to body)
      statements_go body is =
          subst (λ (runs : List Running). Goes body (plain.each runs g.site new.span.to body)) (runs_are new.body)
          (list_does site move place g laws old.body new.body method.body own (each_readable new.body f.1) new.span.to body is)

      pub written_guards : (free : ℕ) (made : Body) → where_made (written_start g.site home new (start free)) (each_sound (map statement_soundness new.body) g new.span.to) ≡ true
          → written_body g.site home new free ≡ Ok made → Guards at (items_code made.made.items)
      written_guards free made sound is =
          let Goal : Body → Type 0 = λ after. Grows at Unknown Unknown (start free).made after.made in
          let so = each_sound (map statement_soundness new.body) g new.span.to in
          let a = made_is Goal (written_body g.site home new free) made
          (makes_then (λ begun. Goal begun × (so begun ≡ true)) Goal (written_start g.site home new (start free)) _ (with_sound Goal (written_start g.site home new (start free)) so (written_goes (start free)) sound)
          (λ begun b. makes_more (λ (last : Body). Grows at Unknown Unknown begun.made last.made) Goal (λ last c. grows_both at Unknown Unknown Unknown (start free).made begun.made last.made b.0 c)
          (plain.each (map plain.statement new.body) g.site new.span.to begun) (statements_go begun b.1))) is in
          subst (λ items. Guards at (items_code items)) (sym a.appended) a.guarded
