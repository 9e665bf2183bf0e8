-- The methods of a program are what its written methods and the default constructors become, in their order.
use Rattle.std.proofs.Common.{◌≡◌, Bool, true, false, List, [], ◌∷◌, ◌++◌, Result, Ok, Err, refl, sym, ap, ◌∙◌, append_assoc}
use Rattle.std.specs.Prelude.{if◌then◌else◌, nat_lt}
use Rattle.std.proofs.lemmas.List.{append-nil}
use Rattle.ix_text.specs.declared.span.Span.{Span}
use Rattle.ix_core.specs.declared.program.Method.{Method}
use Rattle.ix_core.specs.declared.program.Program.{Program}
use Rattle.ix_tree.specs.declared.decl.ClassDecl.{ClassDecl}
use Rattle.ix_tree.specs.declared.decl.Member.{Member}
use Rattle.ix_tree.specs.declared.decl.Member.TheVariants as member
use Rattle.ix_tree.specs.declared.decl.MethodDecl.{MethodDecl}
use Rattle.ix_tree.specs.declared.stmt.Stmt.{Stmt}
use Rattle.ix_meaning.specs.declared.note.Which.TheVariants as which
use Rattle.ix_meaning.specs.Limits.{Passed}
use Rattle.ix_meaning.specs.Resolved.{Names}
use Rattle.ix_meaning.specs.Source.{has_constructor}
use Rattle.ix_plain.specs.declared.body.Body.{Body}
use Rattle.ix_plain.specs.declared.numbers.Next.{Next}
use Rattle.ix_plain.specs.Parts.{Within, ◌>>=◌, block}
use Rattle.ix_plain.specs.Counts.{loops, operations}
use Rattle.ix_plain.specs.Members.{next_behind, is_static, slot_behind, first_numbers, fields_from, classes_from}
use Rattle.ix_plain.specs.Statements.{most_loops}
use Rattle.ix_plain.specs.Program as program
use Rattle.ix_plain.specs.Program.{Tables, Home, site, home, start, written_head, default_head, first_param, written_body, constructor_start, most_operations, placed, tables}
use Rattle.ix_formed.specs.Additions.{Makes}
use Rattle.ix_formed.specs.Shape.{IsMethod, IsDefault, AreMethods, AreAllMethods, AreDefaults, IfElse, IsOneDefault, HasMethods}
use Rattle.ix_formed.proofs.PlainItems.{makes_more, makes_then, makes_same, made_is}

-- ---- one method

-- a head with the body that was made
abbrev HasBody : Method → Within Body → Method → Type 0
HasBody head r method = (body : Body) × (method ≡ record head { locals = body.locals; slots = body.most; body = block body.made }) × (r ≡ Ok body) × (nat_lt most_operations (operations (block body.made) 0) ≡ false)

few_or_not : (b : Bool) (head : Method) (body : Body) (r : Within Body) → nat_lt most_operations (operations (block body.made) 0) ≡ b → r ≡ Ok body
    → Makes (HasBody head r) (if b then Err which.Ops else Ok (record head { locals = body.locals; slots = body.most; body = block body.made }))
few_or_not true head body r few e = tt
few_or_not false head body r few e = (body, refl, e, few)

limited_or_not : (b : Bool) (head : Method) (r : Within Body) → Makes (HasBody head r) (if b then Err which.Loops else (r >>= program.with_body head))
limited_or_not true head r = tt
limited_or_not false head r = makes_then (λ body. r ≡ Ok body) (HasBody head r) r (program.with_body head) (makes_same r)
    (λ body e. few_or_not (nat_lt most_operations (operations (block body.made) 0)) head body r refl e)

limited_has : (statements : List Stmt) (r : Within Body) (head : Method) → Makes (HasBody head r) (program.limited statements r head)
limited_has statements r head = limited_or_not (nat_lt most_loops (loops statements 0)) head r

written_is : (t : Tables) (at : Home) (decl : MethodDecl) → Makes (IsMethod t at decl) (program.written_method t at decl)
written_is t at decl =
    let head = written_head t at decl in
    let r = written_body (site t at head) at decl (slot_behind (first_param (is_static decl)) decl.params) in
    makes_more (HasBody head r) (IsMethod t at decl) (λ method h. record { body = h.0; same = h.1; made = h.2; few = h.3 }) (program.written_method t at decl) (limited_has decl.body r head)

default_is : (t : Tables) (at : Home) (span : Span) → Makes (IsDefault t at span) (program.default t at span)
default_is t at span =
    let head = default_head at span in
    let r = constructor_start (site t at (default_head at span)) at [] span (start 1) in
    makes_more (HasBody head r) (IsDefault t at span) (λ method h. record { body = h.0; same = h.1; made = h.2; few = h.3 }) (program.default t at span) (limited_has [] r head)

placed_makes : {A : Type 0} (P : A → Type 0) (span : Span) (r : Within A) → Makes P r → Makes P (placed span r)
placed_makes P span (Ok made) p = p
placed_makes P span (Err limit) p = tt

-- ---- all methods

-- these behind those before
abbrev Behind : (List Method → Type 0) → List Method → List Method → Type 0
Behind P methods all = (own : List Method) × (all ≡ methods ++ own) × P own

behind_one : (P Q : List Method → Type 0) (methods : List Method) (method : Method) (r : Result (List Method) Passed)
    → ((own : List Method) → P own → Q (method ∷ own)) → Makes (Behind P (methods ++ method ∷ [])) r → Makes (Behind Q methods) r
behind_one P Q methods method r more made =
    makes_more (Behind P (methods ++ method ∷ [])) (Behind Q methods)
    (λ all b. (method ∷ b.0, b.1 ∙ append_assoc methods (method ∷ []) b.0, more b.0 b.2)) r made

methods_are : (t : Tables) (at : Home) (members : List Member) (methods : List Method) → Makes (Behind (AreMethods t at members) methods) (program.methods_in t at members methods)
methods_are t at [] methods = ([], sym (append-nil methods), refl)
methods_are t at (member.Field decl ∷ members) methods = methods_are t at members methods
methods_are t at (member.Method decl ∷ members) methods =
    makes_then (IsMethod t at decl) (Behind (AreMethods t at (member.Method decl ∷ members)) methods) (placed decl.name.span (program.written_method t at decl)) _
    (placed_makes (IsMethod t at decl) decl.name.span (program.written_method t at decl) (written_is t at decl))
    (λ method is. behind_one (AreMethods t at members) (AreMethods t at (member.Method decl ∷ members)) methods method (program.methods_in t at members (methods ++ method ∷ []))
    (λ own are. (method, own, refl, is, are)) (methods_are t at members (methods ++ method ∷ [])))

behind_all : (P Q R : List Method → Type 0) (methods first : List Method) (r : Result (List Method) Passed)
    → (own : List Method) → first ≡ methods ++ own → ((others : List Method) → Q others → R (own ++ others)) → Makes (Behind Q first) r → Makes (Behind R methods) r
behind_all P Q R methods first r own e more made =
    makes_more (Behind Q first) (Behind R methods)
    (λ all b. (own ++ b.0, b.1 ∙ ap (λ l. l ++ b.0) e ∙ append_assoc methods own b.0, more b.0 b.2)) r made

all_methods_are : (t : Tables) (next : Next) (decls : List ClassDecl) (methods : List Method) → Makes (Behind (AreAllMethods t next decls) methods) (program.methods_from t next decls methods)
all_methods_are t next [] methods = ([], sym (append-nil methods), refl)
all_methods_are t next (decl ∷ decls) methods =
    let at = home t next decl in
    makes_then (Behind (AreMethods t at decl.members) methods) (Behind (AreAllMethods t next (decl ∷ decls)) methods) (program.methods_in t at decl.members methods) _
    (methods_are t at decl.members methods)
    (λ first b. behind_all (AreMethods t at decl.members) (AreAllMethods t (next_behind next decl) decls) (AreAllMethods t next (decl ∷ decls)) methods first
    (program.methods_from t (next_behind next decl) decls first) b.0 b.1
    (λ others are. (b.0, others, refl, b.2, are)) (all_methods_are t (next_behind next decl) decls first))

defaults_rest : (t : Tables) (next : Next) (decl : ClassDecl) (decls : List ClassDecl) (methods : List Method)
    → ((later : List Method) → Makes (Behind (AreDefaults t (next_behind next decl) decls) later) (program.defaults_from t (next_behind next decl) decls later))
    → (b : Bool)
    → Makes (Behind (λ own. IfElse b (AreDefaults t (next_behind next decl) decls own)
    (IsOneDefault (AreDefaults t (next_behind next decl) decls) t (home t next decl) decl.name.span own)) methods)
    ((if b then Ok methods else (placed decl.name.span (program.default t (home t next decl) decl.name.span) >>= (λ method. Ok (methods ++ method ∷ [])))) >>= program.defaults_from t (next_behind next decl) decls)
defaults_rest t next decl decls methods later true = later methods
defaults_rest t next decl decls methods later false =
    let at = home t next decl in
    makes_then (λ (first : List Method). (method : Method) × (first ≡ methods ++ method ∷ []) × IsDefault t at decl.name.span method) (Behind _ methods)
    (placed decl.name.span (program.default t at decl.name.span) >>= (λ method. Ok (methods ++ method ∷ []))) _
    (makes_then (IsDefault t at decl.name.span) _ (placed decl.name.span (program.default t at decl.name.span)) _
    (placed_makes (IsDefault t at decl.name.span) decl.name.span (program.default t at decl.name.span) (default_is t at decl.name.span)) (λ method is. (method, refl, is)))
    (λ first f. behind_all (λ own. Unit {0}) (AreDefaults t (next_behind next decl) decls) _ methods first
    (program.defaults_from t (next_behind next decl) decls first) (f.0 ∷ []) f.1
    (λ others are. (f.0, others, refl, f.2, are)) (later first))

defaults_are : (t : Tables) (next : Next) (decls : List ClassDecl) (methods : List Method) → Makes (Behind (AreDefaults t next decls) methods) (program.defaults_from t next decls methods)
defaults_are t next [] methods = ([], sym (append-nil methods), refl)
defaults_are t next (decl ∷ decls) methods = defaults_rest t next decl decls methods (λ later. defaults_are t (next_behind next decl) decls later) (has_constructor decl.members)

pub methods_have : (t : Tables) (first : Next) (decls : List ClassDecl) → Makes (HasMethods t first decls) (program.all_methods t first decls)
methods_have t first decls =
    makes_then (Behind (AreAllMethods t first decls) []) (HasMethods t first decls) (program.methods_from t first decls []) _ (all_methods_are t first decls [])
    (λ written w. makes_more (Behind (AreDefaults t first decls) written) (HasMethods t first decls)
    (λ all d. record { written = w.0; default = d.0; same = d.1 ∙ ap (λ l. l ++ d.0) w.1; are_written = w.2; are_default = d.2 })
    (program.defaults_from t first decls written) (defaults_are t first decls written))

-- ---- the program

pub program_has : (names : Names) (decls : List ClassDecl) (p : Program) → program.program names decls ≡ Ok p
    → HasMethods (tables names decls) (first_numbers decls) decls p.methods
    × (p.classes ≡ classes_from [] (first_numbers decls) (tables names decls).world.parent decls) × (p.fields ≡ fields_from names [] 0 decls)
program_has names decls p e =
    made_is (λ (p : Program). HasMethods (tables names decls) (first_numbers decls) decls p.methods
    × (p.classes ≡ classes_from [] (first_numbers decls) (tables names decls).world.parent decls) × (p.fields ≡ fields_from names [] 0 decls))
    (program.program names decls) p
    (makes_then (HasMethods (tables names decls) (first_numbers decls) decls) _ (program.all_methods (tables names decls) (first_numbers decls) decls) _
    (methods_have (tables names decls) (first_numbers decls) decls) (λ methods h. (h, refl, refl)))
    e
