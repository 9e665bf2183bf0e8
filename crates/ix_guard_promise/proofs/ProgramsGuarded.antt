-- In the plain program of a guarded text each access at a place moved is guarded, where the source's accesses at the place are.
use Rattle.std.proofs.Common.{◌≡◌, ◌<◌, ◌^◌, ℕ, zero, suc, ◌+◌, Bool, true, false, List, [], ◌∷◌, Ok, refl, sym, subst}
use Rattle.std.specs.Prelude.{map, slice_get, unwrap_or, not}
use Rattle.std.proofs.lemmas.Bool.{and_parts}
use Rattle.ix_text.specs.declared.span.Span.{Span}
use Rattle.ix_core.specs.declared.error.Error.{Error}
use Rattle.ix_core.specs.declared.program.Method.{Method}
use Rattle.ix_core.specs.declared.program.Program.{Program}
use Rattle.ix_core.specs.Heap.{Null}
use Rattle.ix_core.specs.Tables.{no_method, method_at, body_of, tables_of}
use Rattle.ix_tree.specs.declared.decl.ClassDecl.{ClassDecl}
use Rattle.ix_tree.specs.declared.decl.Member.{Member}
use Rattle.ix_tree.specs.declared.decl.Member.TheVariants as member
use Rattle.ix_tree.specs.declared.decl.MethodDecl.{MethodDecl}
use Rattle.ix_tree.specs.declared.decl.Unit.{Unit as Source}
use Rattle.ix_meaning.specs.Limits.{methods_of}
use Rattle.ix_meaning.specs.Resolved.{names, Accepts}
use Rattle.ix_meaning.specs.Source.{has_constructor, members_in}
use Rattle.ix_plain.specs.declared.numbers.Next.{Next}
use Rattle.ix_plain.specs.Members.{next_behind, first_numbers, is_static, slot_behind}
use Rattle.ix_plain.specs.Program as program
use Rattle.ix_plain.specs.Program.{Tables, Home, home, tables, start, written_start, written_head, default_head, first_param}
use Rattle.ix_formed.specs.Additions.{AllOf}
use Rattle.ix_formed.specs.Parsed.{IsParsed}
use Rattle.ix_formed.specs.Readable.{is_readable, is_readable_member, is_readable_method}
use Rattle.ix_formed.specs.Shape.{IsMethod, IsDefault, IsOneDefault, IfElse, AreMethods, AreAllMethods, AreDefaults}
use Rattle.ix_formed.specs.Written.{each_true}
use Rattle.ix_formed.proofs.AllMethods.{program_has}
use Rattle.ix_formed.proofs.NumberLists.{all_joined}
use Rattle.ix_source.specs.Running.{Ground}
use Rattle.ix_source.specs.SoundBodies.{IsSoundMethod, begins_sound}
use Rattle.ix_source.specs.SoundStatements.{statement_soundness, where_made, each_sound}
use Rattle.ix_source.specs.SoundClasses.{AreSoundClasses}
use Rattle.ix_source.proofs.SourcesSound.{sound_source, tables_give}
use Rattle.ix_guard.specs.Accesses.{Access}
use Rattle.ix_guard.specs.Tests.{Site}
use Rattle.ix_guard_promise.specs.Known.{Unknown}
use Rattle.ix_guard_promise.specs.Guards.{Guards, ends}
use Rattle.ix_guard_text.specs.Moved.{Move, moved_span}
use Rattle.ix_guard_text.specs.TestParts.{Parts}
use Rattle.ix_guard_text.specs.GuardedPlaces as placed
use Rattle.ix_guard_text.specs.GuardedPlaces.{Each, PlacedMember, PlacedClass, PlacedSource}
use Rattle.ix_guard_text.specs.GuardedNames.{IsMeant}
use Rattle.ix_guard_promise.specs.SourceGuards.{MemberGuards, ClassGuards, SourceGuards}
use Rattle.ix_guard_promise.specs.Laws.{Laws}
use Rattle.ix_guard_promise.proofs.BodiesGuarded.{default_guards, written_guards}

module _ (p : Program) (t : Tables) (site : Site) (move : Move) (place : Span) (laws : (g : Ground) → g.site.names ≡ t.names → Laws site move place g) where
  abbrev at : Span
  at = moved_span move place

  abbrev IsOne : Access → Parts → Type 0
  IsOne = IsMeant site.names t.names move

  abbrev MethodGuards : Method → Type 0
  MethodGuards method = Guards at (body_of method)

  -- how a body is seen that has no other run
  abbrev ground : Home → Method → Bool → Ground
  ground home head has_this = record { tables = tables_of p; site = program.site t home head; has_this = has_this; this = Null; depth = 0 }

  module _ (next : Next) (old new : ClassDecl) (members : Each (PlacedMember site move IsOne) old.members new.members) (guards : ClassGuards site place old) (fine : each_true is_readable_member new.members ≡ true) where
    abbrev here : Home
    here = home t next new

    -- a written method
    method_guards : (one other : MethodDecl) → placed.PlacedMethod site move IsOne one other → MemberGuards site place (member.Method one) → is_readable_method other ≡ true
        → IsSoundMethod p t (home t next new) other → (method : Method) → IsMethod t (home t next new) other method → MethodGuards method
    method_guards one other is own readable sound method made =
        let head = written_head t here other in
        let g = ground here head (not (is_static other)) in
        let free = slot_behind (first_param (is_static other)) other.params in
        let whole = sound.sound g (record { site = refl; results = tables_give p; this = λ e. e }) in
        let statements = (and_parts (begins_sound here other g (start free)) (where_made (written_start g.site here other (start free)) (each_sound (map statement_soundness other.body) g other.span.to)) whole).1 in
        subst MethodGuards (sym made.same)
        (written_guards site move place g (laws g refl) here old.members members guards fine one other is own.0 own.1 readable free made.body statements made.made)

    methods_guard : (olds news : List Member) → Each (PlacedMember site move IsOne) olds news → AllOf (MemberGuards site place) olds → each_true is_readable_member news ≡ true
        → AllOf (IsSoundMethod p t (home t next new)) (methods_of news) → (methods : List Method) → AreMethods t (home t next new) news methods → AllOf MethodGuards methods
    methods_guard _ _ placed.none own readable sound methods are = subst (AllOf MethodGuards) (sym are) tt
    methods_guard _ _ (placed.one_more {x} {y} {xs} {ys} (placed.field decl) more) own readable sound methods are =
        methods_guard xs ys more own.1 (and_parts (is_readable_member y) (each_true is_readable_member ys) readable).1 sound methods are
    methods_guard _ _ (placed.one_more {x} {y} {xs} {ys} (placed.method {old} {new} is) more) own readable sound methods are =
        let f = and_parts (is_readable_method new) (each_true is_readable_member ys) readable in
        subst (AllOf MethodGuards) (sym are.2) (method_guards old new is own.0 f.0 sound.0 are.0 are.3, methods_guard xs ys more own.1 f.1 sound.1 are.1 are.4)

    -- the constructor of a class that has none written
    default_guard : (span : Span) (method : Method) → IsDefault t (home t next new) span method → MethodGuards method
    default_guard span method made =
        let g = ground here (default_head here span) true in
        subst MethodGuards (sym made.same) (default_guards site move place g (laws g refl) here old.members members guards fine span made.body made.made)

  classes_guard : (olds news : List ClassDecl) → Each (PlacedClass site move IsOne) olds news → AllOf (ClassGuards site place) olds → is_readable news ≡ true → (next : Next) → AreSoundClasses p t next news
      → (methods : List Method) → AreAllMethods t next news methods → AllOf MethodGuards methods
  classes_guard _ _ placed.none guards fine next sound methods are = subst (AllOf MethodGuards) (sym are) tt
  classes_guard _ _ (placed.one_more {x} {y} {xs} {ys} class more) guards fine next sound methods are =
      let f = and_parts (each_true is_readable_member y.members) (is_readable ys) fine in
      subst (AllOf MethodGuards) (sym are.2) (all_joined MethodGuards are.0 are.1
      (methods_guard next x y class.members guards.0 f.0 x.members y.members class.members guards.0 f.0 sound.0 are.0 are.3)
      (classes_guard xs ys more guards.1 f.1 (next_behind next y) sound.2 are.1 are.4))

  defaults_guard : (olds news : List ClassDecl) → Each (PlacedClass site move IsOne) olds news → AllOf (ClassGuards site place) olds → is_readable news ≡ true → (next : Next)
      → (methods : List Method) → AreDefaults t next news methods → AllOf MethodGuards methods
  defaults_guard _ _ placed.none guards fine next methods are = subst (AllOf MethodGuards) (sym are) tt
  defaults_guard _ _ (placed.one_more {x} {y} {xs} {ys} class more) guards fine next methods are =
      let f = and_parts (each_true is_readable_member y.members) (is_readable ys) fine in
      by_constructor (λ (span : Span) (method : Method) is. default_guard next x y class.members guards.0 f.0 span method is)
      (λ (others : List Method) rest. defaults_guard xs ys more guards.1 f.1 (next_behind next y) others rest) (has_constructor y.members) are
    where
      by_constructor : ((span : Span) (method : Method) → IsDefault t (home t next y) span method → MethodGuards method)
          → ((others : List Method) → AreDefaults t (next_behind next y) ys others → AllOf MethodGuards others) → (b : Bool)
          → IfElse b (AreDefaults t (next_behind next y) ys methods) (IsOneDefault (AreDefaults t (next_behind next y) ys) t (home t next y) y.name.span methods) → AllOf MethodGuards methods
      by_constructor one rest true are = rest methods are
      by_constructor one rest false are = subst (AllOf MethodGuards) (sym are.2) (one y.name.span are.0 are.3, rest are.1 are.4)

-- One of a list by its number, or none.
all_at : (P : Method → Type 0) (methods : List Method) (number : ℕ) → P no_method → AllOf P methods → P (unwrap_or (slice_get methods number) no_method)
all_at P [] zero none all = none
all_at P [] (suc number) none all = none
all_at P (method ∷ methods) zero none all = all.0
all_at P (method ∷ methods) (suc number) none all = all_at P methods number none all.1

-- In each body of the plain program of a guarded text each access at a place of the source, moved, is guarded; where in the source it stands behind a test of its
-- variables. How code behind a test keeps what the test tells is taken from `Laws`.
pub guarded_bodies : (old new : Source) (errors : List Error) (move : Move) (place : Span) (p : Program) → IsParsed new → Accepts new → members_in new.classes + 1 < 2 ^ 32 → program.program (names new) new.classes ≡ Ok p
    → PlacedSource (record { names = names old; errors = errors }) move (IsMeant (names old) (names new) move) old new → SourceGuards (record { names = names old; errors = errors }) place old
    → ((g : Ground) → g.site.names ≡ names new → Laws (record { names = names old; errors = errors }) move place g) → (number : ℕ) → Guards (moved_span move place) (body_of (method_at p number))
guarded_bodies old new errors move place p parsed accepts few made is guards laws number =
    let t = tables (names new) new.classes in
    let site : Site = record { names = names old; errors = errors } in
    let has = (program_has (names new) new.classes p made).0 in
    let sound = sound_source new p parsed accepts few made in
    let all = all_joined (MethodGuards p t site move place laws) has.written has.default
    (classes_guard p t site move place laws old.classes new.classes is guards parsed.readable (first_numbers new.classes) sound has.written has.are_written)
    (defaults_guard p t site move place laws old.classes new.classes is guards parsed.readable (first_numbers new.classes) has.default has.are_default) in
    all_at (λ (method : Method). Guards (moved_span move place) (body_of method)) p.methods number (ends Unknown Unknown tt)
    (subst (AllOf (λ (method : Method). Guards (moved_span move place) (body_of method))) (sym has.same) all)
