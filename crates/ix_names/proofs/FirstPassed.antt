-- Where claims pass the limit, of one list behind another.
use Rattle.std.proofs.Common.{◌≡◌, ℕ, ◌+◌, Bool, true, false, cond, nat_lt, Option, Some, None, List, [], ◌∷◌, ◌++◌, length, drop, get_or, ◌<◌, refl, sym, ◌∙◌, ap, append_assoc}
use Rattle.std.proofs.lemmas.List.{at_drop_more}
use Rattle.ix_tree.specs.declared.annot.Annot.{Annot}
use Rattle.ix_tree.specs.declared.decl.Member.{Member}
use Rattle.ix_tree.specs.declared.decl.Member.TheVariants as member
use Rattle.ix_tree.specs.declared.decl.ClassDecl.{ClassDecl}
use Rattle.ix_tree.specs.declared.decl.MethodDecl.{MethodDecl}
use Rattle.ix_tree.specs.declared.stmt.Stmt.{Stmt}
use Rattle.ix_annot.specs.Named.{or_else}
use Rattle.ix_annot.specs.Table.{counted, most_claims}
use Rattle.ix_meaning.specs.declared.note.Which.TheVariants as which
use Rattle.ix_meaning.specs.Declarators.{members}
use Rattle.ix_meaning.specs.Limits.{past_claims_in, past_claims, body_annots, stmt_annots, past_params, past_names, most_params, param_names, methods_of, all_methods, member_annots, all_annots, each_annots, result_annots}
use Rattle.ix_names.specs.Counted.{counted_on, all_statements, method_annots, annots_of}

or_else_assoc : {A : Type 0} (a b c : Option A) → or_else a (or_else b c) ≡ or_else (or_else a b) c
or_else_assoc None b c = refl
or_else_assoc (Some x) b c = refl

pub past_on : (before : ℕ) (xs ys : List Annot) → past_claims_in before (xs ++ ys) ≡ or_else (past_claims_in before xs) (past_claims_in (counted_on before xs) ys)
past_on before [] ys = refl
past_on before (x ∷ xs) ys = by (nat_lt most_claims (before + counted x)) (past_on (before + counted x) xs ys)
  where
    by : (b : Bool) → past_claims_in (before + counted x) (xs ++ ys) ≡ or_else (past_claims_in (before + counted x) xs) (past_claims_in (counted_on (before + counted x) xs) ys)
        → cond b (Some (record { which = which.Claims; place = x.span.from })) (past_claims_in (before + counted x) (xs ++ ys))
        ≡ or_else (cond b (Some (record { which = which.Claims; place = x.span.from })) (past_claims_in (before + counted x) xs)) (past_claims_in (counted_on (before + counted x) xs) ys)
    by true h = refl
    by false h = h

or_none : {A : Type 0} (a : Option A) → a ≡ or_else a None
or_none None = refl
or_none (Some x) = refl

pub past_single : (x : List Annot) → past_claims_in 0 x ≡ past_claims (x ∷ [])
past_single x = or_none (past_claims_in 0 x)

pub past_append : (xs ys : List (List Annot)) → past_claims (xs ++ ys) ≡ or_else (past_claims xs) (past_claims ys)
past_append [] ys = refl
past_append (x ∷ xs) ys = ap (or_else (past_claims_in 0 x)) (past_append xs ys) ∙ or_else_assoc (past_claims_in 0 x) (past_claims xs) (past_claims ys)

body_together : (body : List Stmt) → body_annots body ≡ all_statements body
body_together [] = refl
body_together (s ∷ ss) = ap (λ l. stmt_annots s ++ l) (body_together ss)

pub past_body : (s : Stmt) (ss : List Stmt) → past_claims (all_statements (s ∷ ss)) ≡ or_else (past_claims (stmt_annots s)) (past_claims (all_statements ss))
past_body s ss = past_append (stmt_annots s) (all_statements ss)

pub past_class : (c : ClassDecl) (cs : List ClassDecl) → past_claims (all_annots (c ∷ cs)) ≡ or_else (past_claims (member_annots (members c.members))) (past_claims (all_annots cs))
past_class c cs = past_append (member_annots (members c.members)) (all_annots cs)

pub past_member : (m : Member) (ms : List Member) → past_claims (member_annots (m ∷ ms)) ≡ or_else (past_claims (annots_of m)) (past_claims (member_annots ms))
past_member (member.Field d) ms = past_append (annots_of (member.Field d)) (member_annots ms)
past_member (member.Method m) ms =
    ap (λ l. past_claims ((m.mods.annots ++ result_annots m.result) ∷ (each_annots m.params ++ (l ++ member_annots ms)))) (body_together m.body)
    ∙ ap (λ l. past_claims ((m.mods.annots ++ result_annots m.result) ∷ l)) (sym (append_assoc (each_annots m.params) (all_statements m.body) (member_annots ms)))
    ∙ past_append (method_annots m) (member_annots ms)

past_params_append : (xs ys : List MethodDecl) → past_params (xs ++ ys) ≡ or_else (past_params xs) (past_params ys)
past_params_append [] ys = refl
past_params_append (m ∷ ms) ys =
    let own = past_names which.Parameters most_params (param_names m.params) in
    ap (or_else own) (past_params_append ms ys) ∙ or_else_assoc own (past_params ms) (past_params ys)

pub past_params_class : (c : ClassDecl) (cs : List ClassDecl) → past_params (all_methods (c ∷ cs)) ≡ or_else (past_params (methods_of c.members)) (past_params (all_methods cs))
past_params_class c cs = past_params_append (methods_of c.members) (all_methods cs)

-- ---- one step of a loop: a list whose first item gives some of what is counted

module _ {A : Type 0} {P : Type 0} (count : A → Option P) (all : List A → Option P) (onward : (x : A) (xs : List A) → all (x ∷ xs) ≡ or_else (count x) (all xs)) where
  step : (xs : List A) (k : ℕ) (x : A) → k < length xs → x ≡ get_or xs k x → all (drop k xs) ≡ or_else (count x) (all (drop (k + 1) xs))
  step xs k x lt is = at_drop_more all xs k x lt ∙ onward (get_or xs k x) (drop (k + 1) xs) ∙ ap (λ y. or_else (count y) (all (drop (k + 1) xs))) (sym is)

  pub found : (xs : List A) (k : ℕ) (x : A) (p : P) → k < length xs → x ≡ get_or xs k x → all (drop k xs) ≡ all xs → count x ≡ Some p → Some p ≡ all xs
  found xs k x p lt is so here = ap (λ o. or_else o (all (drop (k + 1) xs))) (sym here) ∙ sym (step xs k x lt is) ∙ so

  pub on : (xs : List A) (k : ℕ) (x : A) → k < length xs → x ≡ get_or xs k x → all (drop k xs) ≡ all xs → count x ≡ None → all (drop (k + 1) xs) ≡ all xs
  on xs k x lt is so none = ap (λ o. or_else o (all (drop (k + 1) xs))) (sym none) ∙ sym (step xs k x lt is) ∙ so
