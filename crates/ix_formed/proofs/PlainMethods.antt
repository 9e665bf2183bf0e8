-- The body and the locals of a written method that is no constructor fit.
use Rattle.std.proofs.Common.{◌≡◌, ◌≤◌, ℕ, ◌+◌, Bool, true, false, List, [], ◌∷◌, map, Some, None, Ok, refl, sym, ap, ◌∙◌, arith}
use Rattle.std.specs.Prelude.{if◌then◌else◌, ◌&&◌, ◌||◌, not}
use Rattle.std.proofs.lemmas.Bool.{false≢true, and_parts}
use Rattle.ix_text.specs.declared.span.Span.{Span}
use Rattle.ix_core.specs.declared.claim.Type_.{Type_}
use Rattle.ix_core.specs.declared.program.Local.{Local}
use Rattle.ix_core.specs.declared.program.Method.{Method}
use Rattle.ix_core.specs.declared.program.Program.{Program}
use Rattle.ix_core.specs.Code.{items_code, block_code}
use Rattle.ix_core.specs.Formed.{entry_type, has_parent, code_ways, locals_fit, body_fits, is_target}
use Rattle.ix_core.specs.Posts.{some_conditional, writes_answers}
use Rattle.ix_core.specs.Tables.{body_of}
use Rattle.ix_tree.specs.declared.decl.MethodDecl.{MethodDecl}
use Rattle.ix_tree.specs.declared.decl.Unit.{Unit as Source}
use Rattle.ix_tree.specs.declared.stmt.Stmt.{Stmt}
use Rattle.ix_tree.specs.Parts.{Part, expression, statement as statement_part, declaration, in_type, elsewhere, entries, together, stmt_parts, unit_parts}
use Rattle.ix_meaning.specs.Bodies.{after, all_told, telling}
use Rattle.ix_meaning.specs.Resolved.{names}
use Rattle.ix_meaning.specs.Scope.{Scope as Names}
use Rattle.ix_meaning.specs.Source.{Place}
use Rattle.ix_plain.specs.declared.body.Body.{Body}
use Rattle.ix_plain.specs.Parts.{◌>>=◌}
use Rattle.ix_plain.specs.Program as program
use Rattle.ix_plain.specs.Program.{Tables, start, tables, args_or_none}
use Rattle.ix_plain.specs.Statements.{each, statement}
use Rattle.ix_formed.specs.Additions.{AllOf}
use Rattle.ix_formed.specs.LocalTypes.{local_types}
use Rattle.ix_formed.specs.OwnSlots.{HaveOwnSlots}
use Rattle.ix_formed.specs.Readable.{stmt_shape, is_readable_stmt, is_readable_expr, each_fine}
use Rattle.ix_formed.specs.TypedStatements.{Ground, IsGround, IsKnown, Tells}
use Rattle.ix_formed.specs.Written.{is_written_stmt, is_written_type, is_written_decl, is_written_expr, has_no_result, all_true, each_true, maybe_true}
use Rattle.ix_formed.proofs.AcceptedBodies.{is_ground}
use Rattle.ix_formed.proofs.FieldsFit.{IsAccepted}
use Rattle.ix_formed.proofs.HeadsAre.{IsWritten}
use Rattle.ix_formed.proofs.MethodEntries.{own_site, own_ground, entry_scope, first_free, entry_scoped, entry_stands}
use Rattle.ix_formed.proofs.NumberLists.{all_so}
use Rattle.ix_formed.proofs.PlainItems.{made_is}
use Rattle.ix_formed.proofs.PostsFit.{result_answers}
use Rattle.ix_formed.proofs.ClassFields.{IsMember}
use Rattle.ix_formed.proofs.SourceMethods.{IsAmong}
use Rattle.ix_formed.proofs.TypedMethods.{whole_fits, whole_locals_fit, whole_locals_own, body_tells}
use Rattle.ix_formed.proofs.WrittenAnswers.{answered_block}

pub each_written : (xs : List Stmt) → each_true is_written_stmt xs ≡ true → all_true (map is_written_stmt xs) ≡ true
each_written [] e = refl
each_written (x ∷ xs) e = let parts = and_parts (is_written_stmt x) (each_true is_written_stmt xs) e in ap (λ b. b && all_true (map is_written_stmt xs)) parts.0 ∙ each_written xs parts.1

pub each_readable : (xs : List Stmt) → each_true is_readable_stmt xs ≡ true → each_fine (map stmt_shape xs) ≡ true
each_readable [] e = refl
each_readable (x ∷ xs) e = let parts = and_parts (is_readable_stmt x) (each_true is_readable_stmt xs) e in ap (λ b. b && each_fine (map stmt_shape xs)) parts.0 ∙ each_readable xs parts.1

pub body_written : (d : MethodDecl) → Rattle.ix_formed.specs.Written.is_written_method d ≡ true → each_true is_written_stmt d.body ≡ true
body_written d e =
    let a = (and_parts (not d.constructor || has_no_result d.result) _ e).1 in
    let b = (and_parts (maybe_true is_written_type d.result) _ a).1 in
    let c = (and_parts (each_true is_written_decl d.params) _ b).1 in (and_parts (maybe_true (each_true is_written_expr) d.parent_args) (each_true is_written_stmt d.body) c).1

pub body_readable : (d : MethodDecl) → Rattle.ix_formed.specs.Readable.is_readable_method d ≡ true → each_true is_readable_stmt d.body ≡ true
body_readable d e = (and_parts (maybe_true (each_true is_readable_expr) d.parent_args) (each_true is_readable_stmt d.body) e).1

pub known_is : (g : Ground) (part : Part) → IsAmong g.parts part → IsKnown g part
known_is g (elsewhere name) among = among
known_is g (entries n) among = among
known_is g (expression span) among = tt
known_is g (statement_part span) among = tt
known_is g declaration among = tt
known_is g (in_type name) among = tt

instance_of : (a b : Bool) → b ≡ true → (a && not b) ≡ false
instance_of true true e = refl
instance_of true false e = absurd (false≢true e)
instance_of false b e = refl

module _ (unit : Source) (p : Program) (is : IsAccepted unit p) where
  abbrev t : Tables
  t = tables (names unit) unit.classes

  module _ (method : Method) (w : IsWritten unit p is (IsMember unit p) t method) where
    abbrev d : MethodDecl
    d = w.decl

    abbrev l : Place
    l = w.place

    -- the types of the method's locals
    abbrev pub own_types : List Type_
    own_types = local_types (names unit) w.decl.body

    abbrev pub g : Ground
    g = own_ground unit p is l d method w.head w.at w.same w.fine.sound.few own_types

    abbrev pub free : ℕ
    free = first_free unit p is l d method w.head w.at w.same w.fine.sound.few own_types

    abbrev pub s : Names
    s = entry_scope unit p is l d method w.head w.at w.same w.fine.sound.few own_types

    pub grounded : IsGround g
    grounded = is_ground unit p is method own_types (own_site unit p is l d method w.head w.at w.same w.fine.sound.few own_types) l.class w.head.there w.head.class refl refl w.class
        (λ e. let f = ap (λ b. if b then 0 else 0 + 1) (w.head.static ∙ instance_of d.mods.is_static d.constructor (sym w.head.constructor ∙ e)) in omega (arith, f))
        (λ e. result_answers unit p is (IsMember unit p) method w (ap (λ (m : Method). some_conditional m.posts) w.same.same ∙ e))

    abbrev body : Body
    body = w.same.body

    made : d.constructor ≡ false → each (map statement d.body) g.site d.span.to (start free) ≡ Ok body
    made plain =
        sym (ap (λ b. (if b then program.constructor_start g.site w.at (args_or_none d.parent_args) d.name.span (start free) else Ok (start free)) >>= each (map statement d.body) g.site d.span.to) plain) ∙ w.same.made

    tells : (plain : d.constructor ≡ false) → Tells g s (after (all_told (map telling d.body)) s) w.fine.sound.from d.span.to d.span.to d.span.to (start free) [] own_types (Some (entry_type p method)) body
    tells plain =
        let no_call : (method.constructor && has_parent p method) ≡ false = ap (λ b. b && has_parent p method) (w.head.constructor ∙ plain) in
        made_is (Tells g s (after (all_told (map telling d.body)) s) w.fine.sound.from d.span.to d.span.to d.span.to (start free) [] own_types (Some (entry_type p method))) (each (map statement d.body) g.site d.span.to (start free)) body
        (body_tells g grounded d.body s d.span.from w.fine.sound.from d.span.to d.span.to (start free) [] (Some (entry_type p method))
        (entry_scoped unit p is l d method w.head w.at w.same w.fine.sound.few own_types w.fine.sound.from d.span.to)
        (entry_stands unit p is l d method w.head w.at w.same w.fine.sound.few own_types w.fine.sound.from d.span.to no_call)
        refl w.fine.sound.laid (omega arith)
        (all_so (IsAmong (unit_parts unit)) (IsKnown g) (known_is g) (together (map stmt_parts d.body)) w.fine.sound.among)
        (each_written d.body (body_written d w.head.written)) (each_readable d.body (body_readable d w.fine.sound.readable)) w.head.says.body)
        (made plain)

    locals_same : method.locals ≡ body.locals
    locals_same = ap (λ (m : Method). m.locals) w.same.same

    -- The body fits,
    pub plain_body_fits : d.constructor ≡ false → body_fits p method own_types ≡ true
    plain_body_fits plain =
        let told = tells plain in
        let most : body.most ≤ method.slots = (let e = ap (λ (m : Method). m.slots) w.same.same in omega (arith, e)) in
        ap (λ (m : Method). (code_ways p method own_types false (items_code m.body.items) (Some (entry_type p method))).fits) w.same.same
        ∙ whole_fits g grounded s (after (all_told (map telling d.body)) s) w.fine.sound.from d.span.to d.span.to (start free) (Some (entry_type p method)) body told.adds refl refl locals_same (sym told.typed) most refl

    -- its answers are written out, where one of them is spoken of,
    pub plain_answers : d.constructor ≡ false → some_conditional method.posts ≡ true → writes_answers None (body_of method) ≡ true
    plain_answers plain e =
        let told = tells plain in
        ap (λ (m : Method). writes_answers None (block_code m.body)) w.same.same
        ∙ answered_block body.made told.adds.items (told.adds.answered (sym (ap (λ (m : Method). some_conditional m.posts) w.same.same) ∙ e)) told.adds.appended None

    -- and the locals do.
    pub plain_locals_fit : d.constructor ≡ false → AllOf (λ (local : Local × Span). is_target p method local.0.slot ≡ true) method.locals → locals_fit p method own_types 0 method.locals own_types ≡ true
    plain_locals_fit plain targets =
        let told = tells plain in
        whole_locals_fit g grounded s w.fine.sound.from d.span.to d.span.to (start free) (Some (entry_type p method)) body told.adds refl locals_same (sym told.typed) targets

    pub plain_locals_own : d.constructor ≡ false → HaveOwnSlots method.locals
    plain_locals_own plain =
        let told = tells plain in
        whole_locals_own g grounded s w.fine.sound.from d.span.to d.span.to (start free) (Some (entry_type p method)) body told.adds refl locals_same (sym told.typed)
