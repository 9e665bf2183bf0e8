-- Each place that the program of a source names is that of a node of its tree, and so is the place of a limit that a method passes.
use Rattle.std.proofs.Common.{ℕ, Bool, true, false, List, [], ◌∷◌, ◌++◌, map, Option, Some, None, Ok, Err, Result}
use Rattle.std.specs.Prelude.{if◌then◌else◌, nat_lt}
use Rattle.std.specs.List.{AllByRecursion}
use Rattle.ix_text.specs.declared.span.Span.{Span}
use Rattle.ix_core.specs.declared.op.OpKind.TheVariants as op
use Rattle.ix_core.specs.declared.program.Method.{Method}
use Rattle.ix_tree.specs.declared.decl.ClassDecl.{ClassDecl}
use Rattle.ix_tree.specs.declared.decl.LocalDecl.{LocalDecl}
use Rattle.ix_tree.specs.declared.decl.Member.{Member}
use Rattle.ix_tree.specs.declared.decl.Member.TheVariants as member
use Rattle.ix_tree.specs.declared.decl.MethodDecl.{MethodDecl}
use Rattle.ix_tree.specs.declared.expr.Expr.{Expr}
use Rattle.ix_tree.specs.declared.expr.Init.{Init}
use Rattle.ix_tree.specs.declared.stmt.Stmt.{Stmt}
use Rattle.ix_meaning.specs.declared.note.Which.TheVariants as which
use Rattle.ix_meaning.specs.Limits.{Passed}
use Rattle.ix_meaning.specs.Resolved.{Names}
use Rattle.ix_meaning.specs.Source.{has_constructor}
use Rattle.ix_plain.specs.declared.body.Body.{Body}
use Rattle.ix_plain.specs.declared.numbers.Next.{Next}
use Rattle.ix_plain.specs.Scope.{Site, constructor_at, declared_type}
use Rattle.ix_plain.specs.Parts.{Within, ◌>>=◌, done, block}
use Rattle.ix_plain.specs.Assigned.{all_assign}
use Rattle.ix_plain.specs.Values.{lowering, filling, arguments_from, calling}
use Rattle.ix_plain.specs.Statements.{scope_for, init_evaluated, statement, most_loops}
use Rattle.ix_plain.specs.Counts.{loops, operations}
use Rattle.ix_plain.specs.Members.{next_behind, first_numbers, next_field, is_static, slot_behind}
use Rattle.ix_plain.specs.Program as program
use Rattle.ix_plain.specs.Program.{Tables, Home, start, args_or_none, most_operations, first_param}
use Rattle.ix_formed.specs.Additions.{Makes}
use Rattle.ix_formed.proofs.PlainItems.{makes_then}
use Rattle.ix_formed.specs.EachNode.{IfSome, InitNodes, ArgsNodes, DeclNodes, MethodNodes, MemberNodes, ClassNodes}
use Rattle.ix_core.specs.CodePlaces.{MethodPlaces, ProgramPlaces}
use Rattle.ix_formed.proofs.ItemPlaces.{all_both, code_of_items, done_places}
use Rattle.ix_formed.proofs.ExpressionPlaces.{ValuePlaces, Places, ArgumentsPlaces, arguments_made, calling_made, expression_places, initialiser_places}
use Rattle.ix_formed.proofs.StatementPlaces.{BodyPlaces, init_made, used_made, each_made, statements_places}

-- ---- what is made, or refused at a place

abbrev pub Tells : {A : Type 0} → (A → Type 0) → (Passed → Type 0) → Result A Passed → Type 0
Tells P Q (Ok made) = P made
Tells P Q (Err passed) = Q passed

tells_then : {A B : Type 0} (P : A → Type 0) (R : B → Type 0) (Q : Passed → Type 0) (r : Result A Passed) (next : A → Result B Passed) → Tells P Q r → ((made : A) → P made → Tells R Q (next made)) → Tells R Q (r >>= next)
tells_then P R Q (Ok made) next holds on = on made holds
tells_then P R Q (Err passed) next holds on = holds

module _ (P : Span → Type 0) where
  -- ---- what a constructor begins with

  args_places : (es : List Expr) → ArgsNodes P es → AllByRecursion (Places P) (map lowering es)
  args_places [] all = tt
  args_places (e ∷ es) all = (expression_places P e all.0, args_places es all.1)

  super_made : (site : Site) (parent : Option ℕ) (args : List Expr) (span : Span) (body : Body) → ArgsNodes P args → P span → BodyPlaces P body → Makes (BodyPlaces P) (program.super_call site parent args span body)
  super_made site None args span body n p b = b
  super_made site (Some parent) args span body n p b =
      makes_then (ArgumentsPlaces P) (BodyPlaces P) (arguments_from [] (map lowering args) (scope_for site body (all_assign args)) body.made) _
      (arguments_made P [] (map lowering args) tt (args_places args n) (scope_for site body (all_assign args)) body.made b)
      (λ given g. makes_then (ValuePlaces P) (BodyPlaces P) (calling op.SuperCall (constructor_at site parent) (Some 0) parent span given) _
      (calling_made P op.SuperCall (λ call s a. (s, a)) (constructor_at site parent) (Some 0) parent span given p g) (λ v m. m))

  field_made : (site : Site) (field : ℕ) (d : LocalDecl) (init : Option Init) (body : Body) → P d.name.span → IfSome (InitNodes P) init → BodyPlaces P body → Makes (BodyPlaces P) (program.field_initialised site field d init body)
  field_made site field d None body p n b = b
  field_made site field d (Some init) body p n b =
      let own = (initialiser_places P init n).own in
      used_made P (init_evaluated site init (declared_type (site.names.declared d.name.span)) body) (λ v. done (op.WriteField 0 field v.slot) (filling init).span (d.name.span ∷ (filling init).span ∷ []))
      (init_made P site init (declared_type (site.names.declared d.name.span)) body n b)
      (λ v. done_places P (op.WriteField 0 field v.slot) (filling init).span (d.name.span ∷ (filling init).span ∷ []) own (p, (own, tt)) tt)

  static_or_not : (b : Bool) (site : Site) (field : ℕ) (d : LocalDecl) (body : Body) → DeclNodes P d → BodyPlaces P body → Makes (BodyPlaces P) (if b then Ok body else program.field_initialised site field d d.init body)
  static_or_not true site field d body n b = b
  static_or_not false site field d body n b = field_made site field d d.init body n.name n.init b

  fields_made : (site : Site) (field : ℕ) (ms : List Member) (body : Body) → AllByRecursion (MemberNodes P) ms → BodyPlaces P body → Makes (BodyPlaces P) (program.fields_initialised site field ms body)
  fields_made site field [] body n b = b
  fields_made site field (member.Field d ∷ ms) body n b =
      makes_then (BodyPlaces P) (BodyPlaces P) (program.member_initialised site field d body) _ (static_or_not d.mods.is_static site field d body n.0 b) (λ second m. fields_made site (next_field field d) ms second n.1 m)
  fields_made site field (member.Method d ∷ ms) body n b = fields_made site field ms body n.1 b

  constructor_made : (site : Site) (home : Home) (args : List Expr) (span : Span) (body : Body) → AllByRecursion (MemberNodes P) home.members → ArgsNodes P args → P span → BodyPlaces P body
      → Makes (BodyPlaces P) (program.constructor_start site home args span body)
  constructor_made site home args span body n a p b =
      makes_then (BodyPlaces P) (BodyPlaces P) (program.super_call site home.parent args span body) _ (super_made site home.parent args span body a p b) (λ second m. fields_made site home.field home.members second n m)

  -- ---- bodies

  args_or_none_nodes : (args : Option (List Expr)) → IfSome (ArgsNodes P) args → ArgsNodes P (args_or_none args)
  args_or_none_nodes None n = tt
  args_or_none_nodes (Some args) n = n

  written_or_not : (b : Bool) (site : Site) (home : Home) (d : MethodDecl) (body : Body) → AllByRecursion (MemberNodes P) home.members → MethodNodes P d → BodyPlaces P body
      → Makes (BodyPlaces P) (if b then program.constructor_start site home (args_or_none d.parent_args) d.name.span body else Ok body)
  written_or_not true site home d body n m b = constructor_made site home (args_or_none d.parent_args) d.name.span body n (args_or_none_nodes d.parent_args m.parent_args) m.name b
  written_or_not false site home d body n m b = b

  written_body : (site : Site) (home : Home) (d : MethodDecl) (free : ℕ) → AllByRecursion (MemberNodes P) home.members → MethodNodes P d → Makes (BodyPlaces P) (program.written_body site home d free)
  written_body site home d free n m =
      makes_then (BodyPlaces P) (BodyPlaces P) (program.written_start site home d (start free)) _ (written_or_not d.constructor site home d (start free) n m tt)
      (λ begun b. each_made P (map statement d.body) (statements_places P d.body m.body) site d.span.to begun b)

  -- ---- methods

  few_or_not : (b : Bool) (head : Method) (body : Body) → P head.span → BodyPlaces P body
      → Makes (MethodPlaces P) (if b then Err which.Ops else Ok (record head { locals = body.locals; slots = body.most; body = block body.made }))
  few_or_not true head body p b = tt
  few_or_not false head body p b = (p, code_of_items P body.made.items b)

  limited_or_not : (b : Bool) (body : Within Body) (head : Method) → P head.span → Makes (BodyPlaces P) body → Makes (MethodPlaces P) (if b then Err which.Loops else (body >>= program.with_body head))
  limited_or_not true body head p m = tt
  limited_or_not false body head p m = makes_then (BodyPlaces P) (MethodPlaces P) body (program.with_body head) m (λ made b. few_or_not (nat_lt most_operations (operations (block made.made) 0)) head made p b)

  method_made : (statements : List Stmt) (body : Within Body) (head : Method) → P head.span → Makes (BodyPlaces P) body → Makes (MethodPlaces P) (program.limited statements body head)
  method_made statements body head p m = limited_or_not (nat_lt most_loops (loops statements 0)) body head p m

  written_made : (tables : Tables) (home : Home) (d : MethodDecl) → AllByRecursion (MemberNodes P) home.members → MethodNodes P d → Makes (MethodPlaces P) (program.written_method tables home d)
  written_made tables home d n m =
      let head = program.written_head tables home d in
      method_made d.body _ head m.name (written_body (program.site tables home head) home d (slot_behind (first_param (is_static d)) d.params) n m)

  default_made : (tables : Tables) (home : Home) (span : Span) → AllByRecursion (MemberNodes P) home.members → P span → Makes (MethodPlaces P) (program.default tables home span)
  default_made tables home span n p = method_made [] _ (program.default_head home span) p (constructor_made (program.site tables home (program.default_head home span)) home [] span (start 1) n tt p tt)

  -- ---- all methods; what holds of a span holds so of where it starts

  module _ (Q : ℕ → Type 0) (starts : (span : Span) → P span → Q span.from) where
    abbrev pub LimitPlace : Passed → Type 0
    LimitPlace passed = Q passed.place

    abbrev ManyPlaces : List Method → Type 0
    ManyPlaces methods = AllByRecursion (MethodPlaces P) methods

    placed_tells : (span : Span) (r : Within Method) → P span → Makes (MethodPlaces P) r → Tells (MethodPlaces P) LimitPlace (program.placed span r)
    placed_tells span (Ok made) p m = m
    placed_tells span (Err limit) p m = starts span p

    methods_in : (tables : Tables) (home : Home) → AllByRecursion (MemberNodes P) home.members → (ms : List Member) → AllByRecursion (MemberNodes P) ms → (methods : List Method) → ManyPlaces methods
        → Tells ManyPlaces LimitPlace (program.methods_in tables home ms methods)
    methods_in tables home h [] n methods m = m
    methods_in tables home h (member.Field d ∷ ms) n methods m = methods_in tables home h ms n.1 methods m
    methods_in tables home h (member.Method d ∷ ms) n methods m =
        tells_then (MethodPlaces P) ManyPlaces LimitPlace (program.placed d.name.span (program.written_method tables home d)) _ (placed_tells d.name.span (program.written_method tables home d) n.0.name (written_made tables home d h n.0))
        (λ method a. methods_in tables home h ms n.1 (methods ++ method ∷ []) (all_both (MethodPlaces P) methods (method ∷ []) m (a, tt)))

    methods_from : (tables : Tables) (next : Next) (decls : List ClassDecl) → AllByRecursion (ClassNodes P) decls → (methods : List Method) → ManyPlaces methods → Tells ManyPlaces LimitPlace (program.methods_from tables next decls methods)
    methods_from tables next [] n methods m = m
    methods_from tables next (decl ∷ decls) n methods m =
        tells_then ManyPlaces ManyPlaces LimitPlace (program.methods_in tables (program.home tables next decl) decl.members methods) _ (methods_in tables (program.home tables next decl) n.0.members decl.members n.0.members methods m)
        (λ more a. methods_from tables (next_behind next decl) decls n.1 more a)

    default_or_not : (b : Bool) (tables : Tables) (home : Home) (span : Span) (methods : List Method) → AllByRecursion (MemberNodes P) home.members → P span → ManyPlaces methods
        → Tells ManyPlaces LimitPlace (if b then Ok methods else (program.placed span (program.default tables home span) >>= (λ method. Ok (methods ++ method ∷ []))))
    default_or_not true tables home span methods h p m = m
    default_or_not false tables home span methods h p m =
        tells_then (MethodPlaces P) ManyPlaces LimitPlace (program.placed span (program.default tables home span)) _ (placed_tells span (program.default tables home span) p (default_made tables home span h p))
        (λ method a. all_both (MethodPlaces P) methods (method ∷ []) m (a, tt))

    defaults_from : (tables : Tables) (next : Next) (decls : List ClassDecl) → AllByRecursion (ClassNodes P) decls → (methods : List Method) → ManyPlaces methods → Tells ManyPlaces LimitPlace (program.defaults_from tables next decls methods)
    defaults_from tables next [] n methods m = m
    defaults_from tables next (decl ∷ decls) n methods m =
        let home = program.home tables next decl in
        tells_then ManyPlaces ManyPlaces LimitPlace (program.default_of tables home decl.name.span methods) _ (default_or_not (has_constructor decl.members) tables home decl.name.span methods n.0.members n.0.name m)
        (λ more a. defaults_from tables (next_behind next decl) decls n.1 more a)

    -- the program, or the limit
    pub program_places : (names : Names) (decls : List ClassDecl) → AllByRecursion (ClassNodes P) decls → Tells (ProgramPlaces P) LimitPlace (program.program names decls)
    program_places names decls n =
        let tables = program.tables names decls in
        tells_then ManyPlaces (ProgramPlaces P) LimitPlace (program.all_methods tables (first_numbers decls) decls) _
        (tells_then ManyPlaces ManyPlaces LimitPlace (program.methods_from tables (first_numbers decls) decls []) _ (methods_from tables (first_numbers decls) decls n [] tt) (λ methods m. defaults_from tables (first_numbers decls) decls n methods m))
        (λ methods m. m)
