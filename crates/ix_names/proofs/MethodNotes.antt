-- A method's notes, part by part: in the scope of its head and in that of its body.
use Rattle.std.proofs.Common.{◌≡◌, ℕ, ◌+◌, Bool, true, false, if◌then◌else◌, Option, Some, None, is_some, List, [], ◌∷◌, ◌++◌, refl, sym, ◌∙◌, ap, append_assoc, map, not, ◌||◌}
use Rattle.ix_text.specs.declared.span.Span.{Span}
use Rattle.ix_tree.specs.declared.annot.Annot.{Annot}
use Rattle.ix_tree.specs.declared.annot.TypeTree.{TypeTree}
use Rattle.ix_tree.specs.declared.decl.ClassDecl.{ClassDecl}
use Rattle.ix_tree.specs.declared.decl.LocalDecl.{LocalDecl}
use Rattle.ix_tree.specs.declared.decl.MethodDecl.{MethodDecl}
use Rattle.ix_tree.specs.declared.expr.Expr.{Expr}
use Rattle.ix_meaning.specs.declared.members.Signature.{Signature}
use Rattle.ix_meaning.specs.declared.note.Note.{Note}
use Rattle.ix_meaning.specs.Annotated.{Given, Declaration, of_variable, marked, of_result}
use Rattle.ix_meaning.specs.Bodies.{all_told, telling, declares_note}
use Rattle.ix_meaning.specs.Rules.{duplicate_name}
use Rattle.ix_meaning.specs.Scope.{Scope, Known}
use Rattle.ix_meaning.specs.Source as source
use Rattle.ix_meaning.specs.Source.{Place, nothing_declared, outside_object}
use Rattle.ix_class_members.specs.declared.world.World.{World as Tables}
use Rattle.ix_class_members.specs.World.{shown}
use Rattle.ix_names.specs.Places.{at}
use Rattle.ix_names.specs.Declarations.{params_from, params_notes}
use Rattle.ix_names.specs.Parents.{super_args, super_given, super_notes}
use Rattle.ix_names.specs.Heads as parts

-- the place of a member with that scope
abbrev placed : Scope → List Signature → List ℕ → Bool → Place
placed s ms name extends = record { world = s.world; methods = ms; class = s.class; class_name = name; extends = extends }

same_params : (w : Tables) (n : ℕ) (k : ClassDecl) (i : ℕ) (ds : List LocalDecl) → source.params_from (at w n k) i ds ≡ params_from (shown w) i ds
same_params w n k i [] = refl
same_params w n k i (d ∷ ds) = ap (λ ps. source.param_known (at w n k) i d ∷ ps) (same_params w n k (i + 1) ds)

module _ (s : Scope) (ms : List Signature) (name : List ℕ) (extends : Bool) where
  same_param_notes : (before : List LocalDecl) (i : ℕ) (ds : List LocalDecl) → source.param_notes (placed s ms name extends) s before i ds ≡ params_notes s before i ds
  same_param_notes before i [] = refl
  same_param_notes before i (d ∷ ds) =
      let l = placed s ms name extends in
      let taken = duplicate_name (source.is_named_in before d.name.text) d.name.span in
      let decl = source.param_declaration l s i d in
      let says = declares_note d.name.span decl.ty (of_variable decl.claims) in
      let rest = params_notes s (before ++ d ∷ []) (i + 1) ds in
      ap (λ ns. taken ++ (decl.notes ++ (says ++ ns))) (same_param_notes (before ++ d ∷ []) (i + 1) ds)
      ∙ sym (append_assoc taken (decl.notes ++ says) rest ∙ ap (λ ns. taken ++ ns) (append_assoc decl.notes says rest))

  same_result_of : (annots : List Annot) (ty : Option TypeTree) → source.result_of (placed s ms name extends) s (of_result annots) ty ≡ parts.result_of s annots ty
  same_result_of annots None = refl
  same_result_of annots (Some ty) = refl

  same_result : (m : Signature) (d : MethodDecl) → source.result_given (placed s ms name extends) s m d ≡ parts.result_given s m d
  same_result m d = ap (λ (x : Declaration). if m.constructor then nothing_declared else x) (same_result_of d.mods.annots d.result)

  same_given_by : (m : Signature) (annots : List Annot) (b : Bool) → m.constructor ≡ b → source.method_given (placed s ms name extends) s m annots ≡ parts.method_given s m annots
  same_given_by m annots true h = rw h refl
  same_given_by m annots false h = rw h refl

  same_super_args : (args : List Expr) (p : Option ℕ) (span : Span)
      → source.super_args (placed s ms name extends) (outside_object s) args p span ≡ super_args (outside_object s) extends args p span
  same_super_args args None span = refl
  same_super_args args (Some p) span = refl

  same_super_given : (args : Option (List Expr)) (span : Span) → source.super_given (placed s ms name extends) s args span ≡ super_given (outside_object s) extends args span
  same_super_given None span = refl
  same_super_given (Some args) span = same_super_args args (s.world.parent s.class) span

  same_super : (d : MethodDecl) → source.super_notes (placed s ms name extends) s d ≡ super_notes (outside_object s) extends d
  same_super d = ap (λ ns. if d.constructor then ns else []) (same_super_given d.parent_args d.name.span)

  head_is : (m : Signature) (d : MethodDecl) (rest : List Note)
      → (source.result_given (placed s ms name extends) s m d).notes
      ++ ((source.method_given (placed s ms name extends) s m d.mods.annots).notes
      ++ (declares_note d.name.span m.result (marked (source.result_given (placed s ms name extends) s m d).claims (source.method_given (placed s ms name extends) s m d.mods.annots))
      ++ (source.param_notes (placed s ms name extends) s [] 0 d.params ++ rest)))
      ≡ parts.head_notes s m d ++ rest
  head_is m d rest =
      let l = placed s ms name extends in
      let given = source.method_given l s m d.mods.annots in
      let params = source.param_notes l s [] 0 d.params in
      let result = parts.result_given s m d in
      let here = parts.method_given s m d.mods.annots in
      let says = declares_note d.name.span m.result (marked result.claims here) in
      let own = params_notes s [] 0 d.params in
      ap (λ (x : Declaration). x.notes ++ (given.notes ++ (declares_note d.name.span m.result (marked x.claims given) ++ (params ++ rest)))) (same_result m d)
      ∙ ap (λ (y : Given). result.notes ++ (y.notes ++ (declares_note d.name.span m.result (marked result.claims y) ++ (params ++ rest)))) (same_given_by m d.mods.annots m.constructor refl)
      ∙ ap (λ ps. result.notes ++ (here.notes ++ (says ++ (ps ++ rest)))) (same_param_notes [] 0 d.params)
      ∙ sym (append_assoc result.notes (here.notes ++ (says ++ own)) rest
      ∙ ap (λ ns. result.notes ++ ns) (append_assoc here.notes (says ++ own) rest ∙ ap (λ ns. here.notes ++ ns) (append_assoc says own rest)))

-- a method's notes, with these parameters in scope
abbrev method_with : Place → List Known → Signature → MethodDecl → List Note
method_with l ps m d =
    let head : Scope = record (source.member_scope l (not (m.is_static || m.constructor))) { names = ps } in
    let body : Scope = record (source.member_scope l (not m.is_static)) { in_constructor = m.constructor; result = source.return_need m d.result; names = ps } in
    source.constructor_notes l d
    ++ (source.inherited_notes l m
    ++ ((source.result_given l head m d).notes
    ++ ((source.method_given l head m d.mods.annots).notes
    ++ (declares_note d.name.span m.result (marked (source.result_given l head m d).claims (source.method_given l head m d.mods.annots))
    ++ (source.param_notes l head [] 0 d.params
    ++ (source.super_notes l body d
    ++ (all_told (map telling d.body)).notes body))))))

pub method_is : (w : Tables) (n : ℕ) (k : ClassDecl) (m : Signature) (d : MethodDecl)
    → source.method_notes (at w n k) m d
    ≡ source.constructor_notes (at w n k) d ++ (source.inherited_notes (at w n k) m
    ++ (parts.head_notes (parts.head_scope (shown w) n m d) m d ++ parts.body_notes (parts.in_body (parts.head_scope (shown w) n m d) m d) (is_some k.parent) d))
method_is w n k m d =
    let l = at w n k in
    let head = parts.head_scope (shown w) n m d in
    let body = parts.in_body head m d in
    let begin = source.constructor_notes l d in
    let inherited = source.inherited_notes l m in
    let told = (all_told (map telling d.body)).notes in
    ap (λ (ps : List Known). method_with l ps m d) (same_params w n k 0 d.params)
    ∙ ap (λ ns. begin ++ (inherited ++ ns))
    (head_is head w.methods k.name.text (is_some k.parent) m d (source.super_notes l body d ++ told body)
    ∙ ap (λ ns. parts.head_notes head m d ++ (ns ++ told body)) (same_super body w.methods k.name.text (is_some k.parent) d))
