-- The bodies of a program are small: few operations, and few other items and conditions.
use Rattle.std.proofs.Common.{◌≡◌, ◌≤◌, ◌<◌, ◌+◌, ◌*◌, Bool, true, false, List, [], ◌∷◌, ◌++◌, Option, Some, None, refl, sym, ap, subst, arith}
use Rattle.std.specs.Prelude.{nat_lt}
use Rattle.std.proofs.lemmas.Bool.Decides.{nat_tests}
use Rattle.ix_text.specs.declared.span.Span.{Span}
use Rattle.ix_core.specs.declared.program.Method.{Method}
use Rattle.ix_core.specs.declared.code.Block.{Block}
use Rattle.ix_core.specs.Code.{block_code}
use Rattle.ix_core.specs.Formed.{code_size}
use Rattle.ix_core.specs.Tables.{body_of}
use Rattle.ix_tree.specs.declared.decl.ClassDecl.{ClassDecl}
use Rattle.ix_tree.specs.declared.decl.Member.{Member}
use Rattle.ix_tree.specs.declared.decl.Member.TheVariants as member
use Rattle.ix_tree.specs.declared.decl.MethodDecl.{MethodDecl}
use Rattle.ix_tree.specs.declared.decl.Unit.{Unit as Source}
use Rattle.ix_tree.specs.declared.expr.Expr.{Expr}
use Rattle.ix_tree.specs.Parts as parts
use Rattle.ix_tree.specs.Parts.{Part, expression, statement, declaration, in_type, elsewhere, entries, nodes, together, listed, mods_parts, type_parts, expr_parts, decl_parts, stmt_parts, args_parts, method_parts, member_parts, class_parts, unit_parts, other_name, CanResolve}
use Rattle.ix_meaning.specs.Source.{has_constructor}
use Rattle.ix_plain.specs.declared.body.Body.{Body}
use Rattle.ix_plain.specs.declared.numbers.Next.{Next}
use Rattle.ix_plain.specs.Counts.{operations}
use Rattle.ix_plain.specs.Members.{next_behind, is_static, slot_behind}
use Rattle.ix_plain.specs.Parts.{block}
use Rattle.ix_plain.specs.Program.{Tables, Home, site, home, start, written_head, default_head, first_param, args_or_none, written_body, constructor_start, most_operations}
use Rattle.ix_formed.specs.Additions.{AllOf}
use Rattle.ix_formed.specs.Shape.{IsMethod, IsDefault, AreMethods, AreAllMethods, AreDefaults, IfElse, IsOneDefault, HasMethods}
use Rattle.ix_formed.specs.Sizes.{code_operations}
use Rattle.ix_formed.proofs.CodeSizes.{size_is, forms_of_items, operations_reach}
use Rattle.ix_formed.proofs.ExpressionNotes.{total_append}
use Rattle.ix_formed.proofs.FormsOfExpressions.{part_forms, parts_forms}
use Rattle.ix_formed.proofs.FormsOfStatements.{body_forms, written_body_grows, constructor_grows}
use Rattle.ix_formed.proofs.NumberLists.{all_joined}
use Rattle.ix_formed.proofs.PlainItems.{made_is}
use Rattle.ix_formed.proofs.ProgramsHaveShape.{less_is}

thrice_nodes : (ps : List Part) → parts_forms ps ≤ 3 * nodes ps
thrice_nodes [] = omega arith
thrice_nodes (expression span ∷ ps) = let e = thrice_nodes ps in omega (arith, e)
thrice_nodes (statement span ∷ ps) = let e = thrice_nodes ps in omega (arith, e)
thrice_nodes (declaration ∷ ps) = let e = thrice_nodes ps in omega (arith, e)
thrice_nodes (in_type name ∷ ps) = let e = thrice_nodes ps in omega (arith, e)
thrice_nodes (elsewhere name ∷ ps) = let e = thrice_nodes ps in omega (arith, e)
thrice_nodes (entries n ∷ ps) = let e = thrice_nodes ps in omega (arith, e)

-- a body with few operations and few other items
abbrev pub IsSmallBody : Method → Type 0
IsSmallBody method = nat_lt (code_size (body_of method)) 268435456 ≡ true

few_operations : (b : Block) → nat_lt most_operations (operations b 0) ≡ false → code_operations (block_code b) ≤ 8192
few_operations b few = by_size (nat_lt 8192 (code_operations (block_code b))) refl
  where
    by_size : (c : Bool) → nat_lt 8192 (code_operations (block_code b)) ≡ c → code_operations (block_code b) ≤ 8192
    by_size false e = grind (arith, nat_tests)
    by_size true e =
        let lt : 8192 < code_operations (block_code b) = grind (arith, nat_tests) in
        let reach = operations_reach b 0 8193 (omega arith) (omega (arith, lt)) in
        let le : operations b 0 ≤ 8192 = grind (arith, nat_tests) in absurd (omega (arith, reach, le))

small_body : (method : Method) (body : Body) → method.body ≡ block body.made → nat_lt most_operations (operations (block body.made) 0) ≡ false → body_forms body ≤ 1200000 → IsSmallBody method
small_body method body same few le =
    let ops = few_operations (block body.made) few in
    let size = size_is (block_code (block body.made)) in
    let forms = forms_of_items body.made.items in
    let code = ap (λ (b : Block). code_size (block_code b)) same in
    less_is (code_size (body_of method)) 268435456 (omega (arith, ops, size, forms, code, le))

args_few : (d : MethodDecl) → parts_forms (together (parts.each expr_parts (args_or_none d.parent_args))) + parts_forms (together (parts.each stmt_parts d.body)) ≤ parts_forms (method_parts d)
args_few d = by_args d.parent_args refl
  where
    by_args : (args : Option (List Expr)) → d.parent_args ≡ args → parts_forms (together (parts.each expr_parts (args_or_none d.parent_args))) + parts_forms (together (parts.each stmt_parts d.body)) ≤ parts_forms (method_parts d)
    by_args args same =
        let from_args = parts.maybe args_parts d.parent_args ++ listed (parts.each stmt_parts d.body) in
        let from_name = elsewhere d.name ∷ (listed (parts.each decl_parts d.params) ++ from_args) in
        let p = total_append part_forms (mods_parts d.mods) (parts.maybe type_parts d.result ++ from_name) in
        let q = total_append part_forms (parts.maybe type_parts d.result) from_name in
        let r = total_append part_forms (listed (parts.each decl_parts d.params)) from_args in
        let t = total_append part_forms (parts.maybe args_parts d.parent_args) (listed (parts.each stmt_parts d.body)) in
        let a : parts_forms (together (parts.each expr_parts (args_or_none d.parent_args))) ≤ parts_forms (parts.maybe args_parts d.parent_args) =
        subst (λ (o : Option (List Expr)). parts_forms (together (parts.each expr_parts (args_or_none o))) ≤ parts_forms (parts.maybe args_parts o)) (sym same) (few args) in
        omega (arith, p, q, r, t, a)
      where
        few : (o : Option (List Expr)) → parts_forms (together (parts.each expr_parts (args_or_none o))) ≤ parts_forms (parts.maybe args_parts o)
        few None = omega arith
        few (Some args) = omega arith

module _ (t : Tables) where
  method_small : (at : Home) (d : MethodDecl) (method : Method) → parts_forms (together (parts.each member_parts at.members)) ≤ 600000 → parts_forms (method_parts d) ≤ 600000 → IsMethod t at d method → IsSmallBody method
  method_small at d method class own is =
      let free = slot_behind (first_param (is_static d)) d.params in
      let s = site t at (written_head t at d) in
      let grows = made_is (λ (body : Body). body_forms body ≤ (parts_forms (together (parts.each expr_parts (args_or_none d.parent_args))) + parts_forms (together (parts.each member_parts at.members))) + parts_forms (together (parts.each stmt_parts d.body)))
      (written_body s at d free) is.body (written_body_grows s at d free) is.made in
      let few = args_few d in
      small_body method is.body (ap (λ (m : Method). m.body) is.same) is.few (omega (arith, grows, few, class, own))

  default_small : (at : Home) (span : Span) (method : Method) → parts_forms (together (parts.each member_parts at.members)) ≤ 600000 → IsDefault t at span method → IsSmallBody method
  default_small at span method class is =
      let s = site t at (default_head at span) in
      let grows = made_is (λ (body : Body). body_forms body ≤ body_forms (start 1) + (parts_forms (together (parts.each expr_parts [])) + parts_forms (together (parts.each member_parts at.members))))
      (constructor_start s at [] span (start 1)) is.body (constructor_grows s at [] span (start 1)) is.made in
      small_body method is.body (ap (λ (m : Method). m.body) is.same) is.few (omega (arith, grows, class))

  members_small : (at : Home) (ms : List Member) (methods : List Method) → parts_forms (together (parts.each member_parts at.members)) ≤ 600000 → parts_forms (together (parts.each member_parts ms)) ≤ 600000 → AreMethods t at ms methods → AllOf IsSmallBody methods
  members_small at [] methods class le are = subst (AllOf IsSmallBody) (sym are) tt
  members_small at (member.Field d ∷ ms) methods class le are =
      let a = total_append part_forms (decl_parts d) (together (parts.each member_parts ms)) in members_small at ms methods class (omega (arith, a, le)) are
  members_small at (member.Method d ∷ ms) methods class le are =
      let a = total_append part_forms (method_parts d) (together (parts.each member_parts ms)) in
      subst (AllOf IsSmallBody) (sym are.2) (method_small at d are.0 class (omega (arith, a, le)) are.3, members_small at ms are.1 class (omega (arith, a, le)) are.4)

  class_members : (k : ClassDecl) → parts_forms (together (parts.each member_parts k.members)) ≤ parts_forms (class_parts k)
  class_members k = let a = total_append part_forms (parts.maybe other_name k.parent) (listed (parts.each member_parts k.members)) in omega (arith, a)

  all_small : (next : Next) (ks : List ClassDecl) (methods : List Method) → parts_forms (together (parts.each class_parts ks)) ≤ 600000 → AreAllMethods t next ks methods → AllOf IsSmallBody methods
  all_small next [] methods le are = subst (AllOf IsSmallBody) (sym are) tt
  all_small next (k ∷ ks) methods le are =
      let a = total_append part_forms (class_parts k) (together (parts.each class_parts ks)) in
      let c = class_members k in
      subst (AllOf IsSmallBody) (sym are.2)
      (all_joined IsSmallBody are.0 are.1 (members_small (home t next k) k.members are.0 (omega (arith, a, c, le)) (omega (arith, a, c, le)) are.3) (all_small (next_behind next k) ks are.1 (omega (arith, a, le)) are.4))

  defaults_small : (next : Next) (ks : List ClassDecl) (methods : List Method) → parts_forms (together (parts.each class_parts ks)) ≤ 600000 → AreDefaults t next ks methods → AllOf IsSmallBody methods
  defaults_small next [] methods le are = subst (AllOf IsSmallBody) (sym are) tt
  defaults_small next (k ∷ ks) methods le are =
      let a = total_append part_forms (class_parts k) (together (parts.each class_parts ks)) in
      let c = class_members k in
      one_or_none (has_constructor k.members) are (omega (arith, a, c, le)) (λ others rest. defaults_small (next_behind next k) ks others (omega (arith, a, le)) rest)
    where
      one_or_none : (b : Bool) → IfElse b (AreDefaults t (next_behind next k) ks methods) (IsOneDefault (AreDefaults t (next_behind next k) ks) t (home t next k) k.name.span methods)
          → parts_forms (together (parts.each member_parts k.members)) ≤ 600000 → ((others : List Method) → AreDefaults t (next_behind next k) ks others → AllOf IsSmallBody others) → AllOf IsSmallBody methods
      one_or_none true are le rest = rest methods are
      one_or_none false are le rest = subst (AllOf IsSmallBody) (sym are.2) (default_small (home t next k) k.name.span are.0 le are.3, rest are.1 are.4)

-- The bodies of a source's program are small, where it has as few statements and expressions as a tree in which names can be looked up.
pub sizes_do_fit : (unit : Source) → CanResolve unit → (t : Tables) (first : Next) (methods : List Method) → HasMethods t first unit.classes methods → AllOf IsSmallBody methods
sizes_do_fit unit can t first methods has =
    let e = thrice_nodes (unit_parts unit) in
    let few : parts_forms (together (parts.each class_parts unit.classes)) ≤ 600000 = (let n = can.few_nodes in omega (arith, e, n)) in
    subst (AllOf IsSmallBody) (sym has.same) (all_joined IsSmallBody has.written has.default (all_small t first unit.classes has.written few has.are_written) (defaults_small t first unit.classes has.default few has.are_default))
