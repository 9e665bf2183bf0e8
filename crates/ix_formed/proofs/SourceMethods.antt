-- Where the statements of each method of a source stand, and that the names in them are among those of the source.
use Rattle.std.proofs.Common.{◌≡◌, ◌≤◌, ℕ, true, List, [], ◌∷◌, ◌++◌, length, map, Option, Some, None, refl, sym, ap, subst, ◌∙◌, arith, append_assoc}
use Rattle.std.specs.Prelude.{◌==◌}
use Rattle.std.proofs.lemmas.Bool.{and_parts}
use Rattle.ix_text.specs.declared.span.Span.{Span}
use Rattle.ix_core.specs.Formed.{one_if}
use Rattle.ix_tree.specs.declared.decl.ClassDecl.{ClassDecl}
use Rattle.ix_tree.specs.declared.decl.Member.{Member}
use Rattle.ix_tree.specs.declared.decl.Member.TheVariants as member
use Rattle.ix_tree.specs.declared.decl.MethodDecl.{MethodDecl}
use Rattle.ix_tree.specs.declared.decl.Unit.{Unit as Source}
use Rattle.ix_tree.specs.Parts as parts
use Rattle.ix_tree.specs.Parts.{Part, expression, statement, declaration, in_type, elsewhere, entries, most_entries, All, IsShort, CanResolve, together, listed, each, class_parts, member_parts, method_parts, decl_parts, mods_parts, type_parts, args_parts, stmt_parts, unit_parts}
use Rattle.ix_tree.specs.Placed.{Layout, nothing, node, copy, LaidOut, followed, row, maybe, annot_piece, type_piece, name_piece, params_pieces, parent_pieces, stmt_piece, own_pieces, field_shared, members_pieces, class_piece, Placed}
use Rattle.ix_meaning.specs.Listed.{same_span}
use Rattle.ix_meaning.specs.Limits.{methods_of, all_methods}
use Rattle.ix_formed.specs.Additions.{AllOf}
use Rattle.ix_formed.specs.NoErrors.{named_at}
use Rattle.ix_formed.specs.Readable.{is_readable, is_readable_member, is_readable_method}
use Rattle.ix_formed.specs.Weights.{total}
use Rattle.ix_formed.specs.Written.{each_true}
use Rattle.ix_formed.proofs.ExpressionNotes.{total_append}
use Rattle.ix_formed.proofs.LayoutSpans.{laid_up, laid_parts}
use Rattle.ix_formed.proofs.NumberLists.{both_true, is_itself, all_joined, all_split}

-- ---- parts

-- a name is among these parts, and a list has few entries
abbrev pub IsAmong : List Part → Part → Type 0
IsAmong all (elsewhere name) = 1 ≤ total (named_at name.span) all
IsAmong all (entries n) = n ≤ most_entries
IsAmong all _ = Unit {0}

one_among : (before : List Part) (part : Part) (later : List Part) → IsShort part → IsAmong (before ++ part ∷ later) part
one_among before (elsewhere name) later short =
    let here : one_if (same_span name.span name.span) ≡ 1 =
    ap one_if (both_true (name.span.from == name.span.from) (name.span.to == name.span.to) (is_itself name.span.from) (is_itself name.span.to)) in
    let sum = total_append (named_at name.span) before (elsewhere name ∷ later) in omega (arith, sum, here)
one_among before (entries n) later short = short
one_among before (expression span) later short = tt
one_among before (statement span) later short = tt
one_among before declaration later short = tt
one_among before (in_type name) later short = tt

pub all_among : (before rest : List Part) → All IsShort rest → AllOf (IsAmong (before ++ rest)) rest
all_among before [] short = tt
all_among before (part ∷ rest) short =
    (one_among before part rest short.0, subst (λ (l : List Part). AllOf (IsAmong l) rest) (append_assoc before (part ∷ []) rest) (all_among (before ++ part ∷ []) rest short.1))

pub each_is_map : {A : Type 0} (f : A → List Part) (xs : List A) → each f xs ≡ map f xs
each_is_map f [] = refl
each_is_map f (x ∷ xs) = ap (λ (l : List (List Part)). f x ∷ l) (each_is_map f xs)

-- ---- layouts

followed_again : (a b c : Layout) → followed (followed a b) c ≡ followed a (followed b c)
followed_again nothing b c = refl
followed_again (node span inner later) b c = ap (λ l. node span inner l) (followed_again later b c)
followed_again (copy inner later) b c = ap (λ l. copy inner l) (followed_again later b c)

row_joined : (xs ys : List Layout) → row (xs ++ ys) ≡ followed (row xs) (row ys)
row_joined [] ys = refl
row_joined (x ∷ xs) ys = ap (followed x) (row_joined xs ys) ∙ sym (followed_again x (row xs) (row ys))

pub behind_row : (start lo hi : ℕ) (xs ys : List Layout) → LaidOut start lo hi (row (xs ++ ys)) → (mid : ℕ) × LaidOut start mid hi (row ys)
behind_row start lo hi xs ys laid =
    let r = laid_parts start lo hi (row xs) (row ys) (subst (LaidOut start lo hi) (row_joined xs ys) laid) in (r.0, r.2)

-- and where the first part stands
pub both_rows : (start lo hi : ℕ) (xs ys : List Layout) → LaidOut start lo hi (row (xs ++ ys)) → (mid : ℕ) × LaidOut start lo mid (row xs) × LaidOut start mid hi (row ys)
both_rows start lo hi xs ys laid = laid_parts start lo hi (row xs) (row ys) (subst (LaidOut start lo hi) (row_joined xs ys) laid)

-- ---- methods

-- What is so of each method of a source.
pub record IsSound (all : List Part) (d : MethodDecl) : Type 0 where
  pub few : length d.params ≤ 32
  pub from : ℕ
  -- the arguments for the parent's constructor, and behind them the statements
  pub args_from : ℕ
  pub within : d.span.from ≤ args_from
  pub args_laid : LaidOut d.span.from args_from from (row (parent_pieces d.parent_args))
  pub args_among : AllOf (IsAmong all) (parts.maybe args_parts d.parent_args)
  pub laid : LaidOut d.span.from from d.span.to (row (map stmt_piece d.body))
  pub among : AllOf (IsAmong all) (together (map stmt_parts d.body))
  pub readable : is_readable_method d ≡ true

statements_laid : (d : MethodDecl) → LaidOut d.span.from d.span.from d.span.to (row (map annot_piece d.mods.annots ++ (maybe type_piece d.result ++ name_piece d.name ∷ (params_pieces d.params ++ (parent_pieces d.parent_args ++ map stmt_piece d.body)))))
    → (args_from : ℕ) × (from : ℕ) × (d.span.from ≤ args_from) × LaidOut d.span.from args_from from (row (parent_pieces d.parent_args)) × LaidOut d.span.from from d.span.to (row (map stmt_piece d.body))
statements_laid d laid =
    let start = d.span.from in
    let end = d.span.to in
    let a = both_rows start start end (map annot_piece d.mods.annots) (maybe type_piece d.result ++ name_piece d.name ∷ (params_pieces d.params ++ (parent_pieces d.parent_args ++ map stmt_piece d.body))) laid in
    let b = both_rows start a.0 end (maybe type_piece d.result) (name_piece d.name ∷ (params_pieces d.params ++ (parent_pieces d.parent_args ++ map stmt_piece d.body))) a.2 in
    let c = both_rows start b.0 end (name_piece d.name ∷ []) (params_pieces d.params ++ (parent_pieces d.parent_args ++ map stmt_piece d.body)) b.2 in
    let e = both_rows start c.0 end (params_pieces d.params) (parent_pieces d.parent_args ++ map stmt_piece d.body) c.2 in
    let f = both_rows start e.0 end (parent_pieces d.parent_args) (map stmt_piece d.body) e.2 in
    let up_a = laid_up start start a.0 (row (map annot_piece d.mods.annots)) a.1 in
    let up_b = laid_up start a.0 b.0 (row (maybe type_piece d.result)) b.1 in
    let up_c = laid_up start b.0 c.0 (row (name_piece d.name ∷ [])) c.1 in
    let up_e = laid_up start c.0 e.0 (row (params_pieces d.params)) e.1 in
    (e.0, f.0, omega (arith, up_a, up_b, up_c, up_e), f.1, f.2)

statements_among : (P : Part → Type 0) (d : MethodDecl) → AllOf P (method_parts d) → AllOf P (parts.maybe args_parts d.parent_args) × AllOf P (together (map stmt_parts d.body))
statements_among P d all =
    let last = parts.maybe args_parts d.parent_args ++ listed (each stmt_parts d.body) in
    let a = (all_split P (mods_parts d.mods) (parts.maybe type_parts d.result ++ elsewhere d.name ∷ (listed (each decl_parts d.params) ++ last)) all.1).1 in
    let b = (all_split P (parts.maybe type_parts d.result) (elsewhere d.name ∷ (listed (each decl_parts d.params) ++ last)) a).1 in
    let c = (all_split P (listed (each decl_parts d.params)) last b.1).1 in
    let e = all_split P (parts.maybe args_parts d.parent_args) (listed (each stmt_parts d.body)) c in
    (e.0, subst (λ (l : List (List Part)). AllOf P (together l)) (each_is_map stmt_parts d.body) e.1.1)

module _ (all : List Part) where
  members_sound : (before : Option Span) (start lo hi : ℕ) (ms : List Member) → AllOf (λ (d : MethodDecl). length d.params ≤ 32) (methods_of ms) → LaidOut start lo hi (row (members_pieces before ms))
      → AllOf (IsAmong all) (together (each member_parts ms)) → each_true is_readable_member ms ≡ true → AllOf (IsSound all) (methods_of ms)
  members_sound before start lo hi [] few laid among readable = tt
  members_sound before start lo hi (member.Field d ∷ ms) few laid among readable =
      let a = behind_row start lo hi (field_shared before d) (own_pieces d ++ members_pieces (Some d.ty.span) ms) laid in
      let b = behind_row start a.0 hi (own_pieces d) (members_pieces (Some d.ty.span) ms) a.1 in
      members_sound (Some d.ty.span) start b.0 hi ms few b.1 (all_split (IsAmong all) (decl_parts d) (together (each member_parts ms)) among).1 (and_parts (is_readable_member (member.Field d)) (each_true is_readable_member ms) readable).1
  members_sound before start lo hi (member.Method d ∷ ms) few laid among readable =
      let own = all_split (IsAmong all) (method_parts d) (together (each member_parts ms)) among in
      let read = and_parts (is_readable_method d) (each_true is_readable_member ms) readable in
      let at = statements_laid d laid.2 in
      let among_d = statements_among (IsAmong all) d own.0 in (
        record { few = few.0; from = at.1; args_from = at.0; within = at.2; args_laid = at.3; args_among = among_d.0; laid = at.4; among = among_d.1; readable = read.0 },
        members_sound None start d.span.to hi ms few.1 laid.3 own.1 read.1,
      )

  classes_sound : (start lo hi : ℕ) (ks : List ClassDecl) → AllOf (λ (d : MethodDecl). length d.params ≤ 32) (all_methods ks) → LaidOut start lo hi (row (map class_piece ks)) → AllOf (IsAmong all) (together (each class_parts ks))
      → is_readable ks ≡ true → AllOf (IsSound all) (all_methods ks)
  classes_sound start lo hi [] few laid among readable = tt
  classes_sound start lo hi (k ∷ ks) few laid among readable =
      let f = all_split (λ (d : MethodDecl). length d.params ≤ 32) (methods_of k.members) (all_methods ks) few in
      let own = all_split (IsAmong all) (class_parts k) (together (each class_parts ks)) among in
      let read = and_parts (each_true is_readable_member k.members) (is_readable ks) readable in
      let a = behind_row k.span.from k.span.from k.span.to (name_piece k.name ∷ []) (maybe name_piece k.parent ++ members_pieces None k.members) laid.2 in
      let b = behind_row k.span.from a.0 k.span.to (maybe name_piece k.parent) (members_pieces None k.members) a.1 in
      let inner = (all_split (IsAmong all) (parts.maybe parts.other_name k.parent) (listed (each member_parts k.members)) own.0.1.1).1 in
      all_joined (IsSound all) (methods_of k.members) (all_methods ks)
      (members_sound None k.span.from b.0 k.span.to k.members f.0 b.1 inner.1 read.0)
      (classes_sound start k.span.to hi ks f.1 laid.3 own.1 read.1)

-- Each method of a source that is placed, can be resolved and is readable.
pub methods_sound : (unit : Source) (end : ℕ) → CanResolve unit → Placed end unit → is_readable unit.classes ≡ true → AllOf (λ (d : MethodDecl). length d.params ≤ 32) (all_methods unit.classes) → AllOf (IsSound (unit_parts unit)) (all_methods unit.classes)
methods_sound unit end can placed readable few = classes_sound (unit_parts unit) 0 0 end unit.classes few placed (all_among [] (unit_parts unit) can.short).1 readable
