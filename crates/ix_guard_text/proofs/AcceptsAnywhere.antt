-- An accepted source is accepted at other places, and its names mean the same there, whichever of its fields are declared together.
use Rattle.std.proofs.Common.{◌≡◌, ◌≤◌, ℕ, ◌+◌, Bool, true, false, List, [], ◌∷◌, ◌++◌, map, filter, Option, Some, None, refl, sym, ap, ap₂, ◌∙◌, arith}
use Rattle.std.specs.Prelude.{if◌then◌else◌, nat_lt}
use Rattle.std.proofs.lemmas.Bool.Decides.{nat_tests}
use Rattle.std.proofs.lemmas.List.{map-append}
use Rattle.ix_core.proofs.Cases.{by_test}
use Rattle.ix_annot.specs.Named.{or_else}
use Rattle.ix_annot.specs.Table.{counted, most_claims}
use Rattle.ix_tree.specs.declared.annot.Annot.{Annot}
use Rattle.ix_tree.specs.declared.decl.ClassDecl.{ClassDecl}
use Rattle.ix_tree.specs.declared.decl.LocalDecl.{LocalDecl}
use Rattle.ix_tree.specs.declared.decl.Member.{Member}
use Rattle.ix_tree.specs.declared.decl.Member.TheVariants as member
use Rattle.ix_tree.specs.declared.decl.Unit.{Unit as Source}
use Rattle.ix_tree.specs.Parts.{CanResolve, unit_parts}
use Rattle.ix_meaning.specs.declared.note.Which.{Which}
use Rattle.ix_meaning.specs.declared.note.Which.TheVariants as which
use Rattle.ix_meaning.specs.Declarators.{counting, field_in, first_of, members_behind}
use Rattle.ix_meaning.specs.Declarators as declared
use Rattle.ix_meaning.specs.Limits.{Passed, declared_annots, each_annots, body_annots, result_annots, member_annots, all_annots, past_claims_in, past_claims, limit, inheritance_limit}
use Rattle.ix_meaning.specs.Resolved.{Accepts, names}
use Rattle.ix_meaning.specs.Source.{notes}
use Rattle.ix_formed.specs.Additions.{AllOf}
use Rattle.ix_formed.specs.Written.{is_written_type}
use Rattle.ix_formed.proofs.CleanNotes.{all_clean}
use Rattle.ix_formed.proofs.NamesAgree.{notes_agree}
use Rattle.ix_guard_text.specs.Bare.{bare_annot, bare_class, bare_source}
use Rattle.ix_guard_text.specs.Same.{AllPairs, SaySame}
use Rattle.ix_guard_text.specs.Joint.{SharesWith, AllShare, ClassShares, IsJoint}
use Rattle.ix_guard_text.proofs.ErrorsAgain.{clean_again, none_derived}
use Rattle.ix_guard_text.proofs.LimitsAgain.{passed_which, or_else_which, either_which, all_bare, claims_which, members_bare, limit_with, inheritance_limit_again, none_passed}
use Rattle.ix_guard_text.proofs.CountedAnnots.{none_counted}
use Rattle.ix_guard_text.proofs.MeansAgain.{pairs_again}
use Rattle.ix_guard_text.proofs.JointFields.{trimmed, trimmed_or_not}
use Rattle.ix_guard_text.proofs.NotesAnywhere.{notes_anywhere}

-- ---- the claims of a declaration, without the annotations that count none

not_past : (before n : ℕ) → before ≤ most_claims → n ≡ 0 → nat_lt most_claims (before + n) ≡ false
not_past before n low none = grind (arith, nat_tests)

still_low : (before n : ℕ) → nat_lt most_claims (before + n) ≡ false → before + n ≤ most_claims
still_low before n e = grind (arith, nat_tests)

abbrev past_or : ℕ → Bool → ℕ → List Annot → Option Passed
past_or place b before annots = if b then Some (record { which = which.Claims; place = place }) else past_claims_in before annots

counted_alone : (before : ℕ) → before ≤ most_claims → (annots : List Annot) → passed_which (past_claims_in before (counting annots)) ≡ passed_which (past_claims_in before annots)
counted_alone before low [] = refl
counted_alone before low (a ∷ annots) =
    by_test (nat_lt 0 (counted a))
    (λ t.
    ap (λ b. passed_which (past_claims_in before (if b then a ∷ counting annots else counting annots))) t
    ∙ by_test (nat_lt most_claims (before + counted a))
    (λ p. ap (λ b. passed_which (past_or a.span.from b (before + counted a) (counting annots))) p ∙ sym (ap (λ b. passed_which (past_or a.span.from b (before + counted a) annots)) p))
    (λ p. ap (λ b. passed_which (past_or a.span.from b (before + counted a) (counting annots))) p ∙ counted_alone (before + counted a) (still_low before (counted a) p) annots
    ∙ sym (ap (λ b. passed_which (past_or a.span.from b (before + counted a) annots)) p)))
    (λ f.
    let none = none_counted (counted a) f in
    let same : before ≡ before + counted a = omega (arith, none) in
    ap (λ b. passed_which (past_claims_in before (if b then a ∷ counting annots else counting annots))) f
    ∙ counted_alone before low annots
    ∙ ap (λ n. passed_which (past_claims_in n annots)) same
    ∙ sym (ap (λ b. passed_which (past_or a.span.from b (before + counted a) annots)) (not_past before (counted a) low none)))

filter_both : (test : Annot → Bool) (xs ys : List Annot) → filter test xs ++ filter test ys ≡ filter test (xs ++ ys)
filter_both test [] ys = refl
filter_both test (x ∷ xs) ys = by (test x) (filter_both test xs ys)
  where
    by : (b : Bool) → filter test xs ++ filter test ys ≡ filter test (xs ++ ys) → (if b then x ∷ filter test xs else filter test xs) ++ filter test ys ≡ (if b then x ∷ filter test (xs ++ ys) else filter test (xs ++ ys))
    by true rest = ap (λ (l : List Annot). x ∷ l) rest
    by false rest = rest

trimmed_which : (d : LocalDecl) → passed_which (past_claims_in 0 (declared_annots (trimmed d))) ≡ passed_which (past_claims_in 0 (declared_annots d))
trimmed_which d =
    ap (λ (annots : List Annot). passed_which (past_claims_in 0 annots)) (filter_both (λ annot. nat_lt 0 (counted annot)) d.mods.annots d.ty.annots) ∙ counted_alone 0 (omega arith) (declared_annots d)

field_which : (first : Option LocalDecl) (d : LocalDecl) → SharesWith first d → is_written_type d.ty ≡ true
    → passed_which (past_claims_in 0 (declared_annots (field_in first d))) ≡ passed_which (past_claims_in 0 (declared_annots d))
field_which first d shares w =
    trimmed_or_not first d shares w (λ x is m t e f. ap (λ (y : LocalDecl). passed_which (past_claims_in 0 (declared_annots y))) e ∙ trimmed_which d)
    (λ e f. ap (λ (y : LocalDecl). passed_which (past_claims_in 0 (declared_annots y))) e)

-- ---- members and classes, each field by itself

abbrev Annots : Type 0
Annots = List (List Annot)

or_else_third : (a b c : Option Which) → or_else a (or_else b c) ≡ or_else (or_else a b) c
or_else_third None b c = refl
or_else_third (Some a) b c = refl

parted : (ls ms : Annots) → passed_which (past_claims (ls ++ ms)) ≡ or_else (passed_which (past_claims ls)) (passed_which (past_claims ms))
parted [] ms = refl
parted (l ∷ ls) ms =
    or_else_which (past_claims_in 0 l) (past_claims (ls ++ ms))
    ∙ ap (or_else (passed_which (past_claims_in 0 l))) (parted ls ms)
    ∙ or_else_third (passed_which (past_claims_in 0 l)) (passed_which (past_claims ls)) (passed_which (past_claims ms))
    ∙ ap (λ (o : Option Which). or_else o (passed_which (past_claims ms))) (sym (or_else_which (past_claims_in 0 l) (past_claims ls)))

claims_both : (xs ys us vs : Annots) → passed_which (past_claims xs) ≡ passed_which (past_claims us) → passed_which (past_claims ys) ≡ passed_which (past_claims vs)
    → passed_which (past_claims (xs ++ ys)) ≡ passed_which (past_claims (us ++ vs))
claims_both xs ys us vs e f = parted xs ys ∙ ap₂ (λ (x : Option Which) (y : Option Which). or_else x y) e f ∙ sym (parted us vs)

members_which : (first : Option LocalDecl) (ms : List Member) → AllShare first ms → passed_which (past_claims (member_annots (members_behind first ms))) ≡ passed_which (past_claims (member_annots ms))
members_which first [] shares = refl
members_which first (member.Field d ∷ ms) shares =
    either_which (past_claims_in 0 (declared_annots (field_in first d))) (past_claims_in 0 (declared_annots d)) (past_claims (member_annots (members_behind (Some (first_of first d)) ms))) (past_claims (member_annots ms))
    (field_which first d shares.0 shares.1) (members_which (Some (first_of first d)) ms shares.2)
members_which first (member.Method m ∷ ms) shares =
    let own : Annots = (m.mods.annots ++ result_annots m.result) ∷ [] in
    claims_both own (each_annots m.params ++ (body_annots m.body ++ member_annots (members_behind None ms))) own (each_annots m.params ++ (body_annots m.body ++ member_annots ms)) refl
    (claims_both (each_annots m.params) (body_annots m.body ++ member_annots (members_behind None ms)) (each_annots m.params) (body_annots m.body ++ member_annots ms) refl
    (claims_both (body_annots m.body) (member_annots (members_behind None ms)) (body_annots m.body) (member_annots ms) refl (members_which None ms shares)))

abbrev alone_annots : List ClassDecl → Annots
alone_annots [] = []
alone_annots (k ∷ ks) = member_annots k.members ++ alone_annots ks

alone_which : (ks : List ClassDecl) → AllOf ClassShares ks → passed_which (past_claims (all_annots ks)) ≡ passed_which (past_claims (alone_annots ks))
alone_which [] shares = refl
alone_which (k ∷ ks) shares = claims_both (member_annots (declared.members k.members)) (all_annots ks) (member_annots k.members) (alone_annots ks) (members_which None k.members shares.0) (alone_which ks shares.1)

alone_bare : (ks : List ClassDecl) → alone_annots (map bare_class ks) ≡ all_bare (alone_annots ks)
alone_bare [] = refl
alone_bare (k ∷ ks) = ap₂ (λ (x : Annots) (y : Annots). x ++ y) (members_bare k.members) (alone_bare ks) ∙ sym (map-append (map bare_annot) (member_annots k.members) (alone_annots ks))

claims_anywhere : (us vs : List ClassDecl) → map bare_class us ≡ map bare_class vs → AllOf ClassShares us → AllOf ClassShares vs → passed_which (past_claims (all_annots us)) ≡ passed_which (past_claims (all_annots vs))
claims_anywhere us vs e one two =
    alone_which us one
    ∙ sym (claims_which (alone_annots us))
    ∙ ap (λ (l : Annots). passed_which (past_claims l)) (sym (alone_bare us) ∙ ap alone_annots e ∙ alone_bare vs)
    ∙ claims_which (alone_annots vs)
    ∙ sym (alone_which vs two)

-- ---- whole sources

-- A source is accepted at other places too.
pub accepts_anywhere : (unit other : Source) → bare_source unit ≡ bare_source other → IsJoint unit → IsJoint other → Accepts unit → Accepts other
accepts_anywhere unit other same one two accepts =
    let us = unit.classes in
    let vs = other.classes in
    let e : map bare_class us ≡ map bare_class vs = ap (λ (source : Source). source.classes) same in
    let clean = all_clean (notes us) accepts.no_errors in
    record {
      within = none_passed (limit us) (limit vs) (limit_with us vs e (claims_anywhere us vs e one two)) accepts.within;
      no_errors = none_derived (notes vs) (clean_again (notes us) (notes vs) (notes_anywhere unit other same one two clean).same clean);
      few_inherited = none_passed (inheritance_limit us) (inheritance_limit vs) (inheritance_limit_again us vs e) accepts.few_inherited;
    }

-- What an accepted source's table says at the place of each note, the table of the source at other places says at the place of that note there.
pub means_anywhere : (unit other : Source) → bare_source unit ≡ bare_source other → IsJoint unit → IsJoint other → CanResolve unit → CanResolve other → Accepts unit
    → AllPairs (SaySame (names unit) (unit_parts unit) (names other) (unit_parts other)) (notes unit.classes) (notes other.classes)
means_anywhere unit other same one two can again accepts =
    pairs_again (names unit) (unit_parts unit) (names other) (unit_parts other) (notes unit.classes) (notes other.classes)
    (notes_anywhere unit other same one two (all_clean (notes unit.classes) accepts.no_errors)).same (notes_agree unit can accepts)
    (notes_agree other again (accepts_anywhere unit other same one two accepts))
