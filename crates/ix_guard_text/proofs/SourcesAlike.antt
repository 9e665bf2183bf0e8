-- Sources that are the same up to places have notes that are the same up to places.
use Rattle.std.proofs.Common.{◌≡◌, ℕ, ◌+◌, List, [], ◌∷◌, map, Option, ap, ap₂, ◌∙◌, subst}
use Rattle.ix_tree.specs.declared.decl.ClassDecl.{ClassDecl}
use Rattle.ix_tree.specs.declared.decl.Member.{Member}
use Rattle.ix_tree.specs.declared.decl.Unit.{Unit as Source}
use Rattle.ix_meaning.specs.declared.members.Signature.{Signature}
use Rattle.ix_meaning.specs.Classes.{parents}
use Rattle.ix_meaning.specs.Declarators as declared
use Rattle.ix_meaning.specs.Members.{World, world, methods, next_fields}
use Rattle.ix_meaning.specs.Source.{class_notes, notes_from, notes}
use Rattle.ix_guard_text.specs.Bare.{bare_member, bare_class}
use Rattle.ix_guard_text.proofs.SourcesMove.{class_notes_of, class_moves}
use Rattle.ix_guard_text.specs.Alike.{AreAlike, joined, AreSame}
use Rattle.ix_guard_text.specs.Gathered.{gathered, bare_signature, bare_world}
use Rattle.ix_guard_text.proofs.NotesAlike.{none, both, flipped, chained, alike}
use Rattle.ix_guard_text.proofs.FieldsAgain.{members_again}
use Rattle.ix_guard_text.proofs.WorldsAgain.{next_again, parents_again, methods_again, world_again}

-- ---- one class

pub class_alike : (w : World) (ps : List (Option ℕ)) (ms : List Signature) (c next : ℕ) (k : ClassDecl) (own : List Member)
    → AreAlike (class_notes_of w ps ms c next k own) (class_notes_of (bare_world w) ps (map bare_signature ms) c next (bare_class k) (map bare_member own))
class_alike w ps ms c next k own = alike _ _ (class_moves gathered w ps ms c next k own)

-- ---- all classes

classes_again : (w x : World) → bare_world w ≡ bare_world x → (ps : List (Option ℕ)) (ms ns : List Signature) → map bare_signature ms ≡ map bare_signature ns → (c next : ℕ) (us vs : List ClassDecl)
    → map bare_class us ≡ map bare_class vs → map joined us ≡ map joined vs → AreAlike (notes_from w ps ms c next us) (notes_from x ps ns c next vs)
classes_again w x worlds ps ms ns signatures c next [] [] e j = none
classes_again w x worlds ps ms ns signatures c next [] (v ∷ vs) e j = cc
classes_again w x worlds ps ms ns signatures c next (u ∷ us) [] e j = cc
classes_again w x worlds ps ms ns signatures c next (u ∷ us) (v ∷ vs) e j =
    let here : bare_class u ≡ bare_class v = cc in
    let later : map bare_class us ≡ map bare_class vs = cc in
    let here_joined : joined u ≡ joined v = cc in
    let later_joined : map joined us ≡ map joined vs = cc in
    let same : map bare_member u.members ≡ map bare_member v.members = ap (λ (k : ClassDecl). k.members) here in
    let own : map bare_member (declared.members u.members) ≡ map bare_member (declared.members v.members) = members_again u.members v.members same here_joined in
    let equal : class_notes_of (bare_world w) ps (map bare_signature ms) c next (bare_class u) (map bare_member (declared.members u.members))
    ≡ class_notes_of (bare_world x) ps (map bare_signature ns) c next (bare_class v) (map bare_member (declared.members v.members)) =
    ap₂ (λ (y : World) (ss : List Signature). class_notes_of y ps ss c next (bare_class u) (map bare_member (declared.members u.members))) worlds signatures
    ∙ ap₂ (λ (k : ClassDecl) (members : List Member). class_notes_of (bare_world x) ps (map bare_signature ns) c next k members) here own in
    let first : AreAlike (class_notes w ps ms c next u) (class_notes x ps ns c next v) =
    chained (subst (AreAlike (class_notes w ps ms c next u)) equal (class_alike w ps ms c next u (declared.members u.members))) (flipped (class_alike x ps ns c next v (declared.members v.members))) in
    both first
    (subst (λ n. AreAlike (notes_from w ps ms (c + 1) (next_fields next u.members) us) (notes_from x ps ns (c + 1) n vs)) (next_again next u.members v.members same)
    (classes_again w x worlds ps ms ns signatures (c + 1) (next_fields next u.members) us vs later later_joined))

-- Two sources that are the same up to places have as many notes, each the same up to its place.
pub notes_again : (unit other : Source) → AreSame unit other → AreAlike (notes unit.classes) (notes other.classes)
notes_again unit other h =
    let us = unit.classes in
    let vs = other.classes in
    let e : map bare_class us ≡ map bare_class vs = ap (λ (source : Source). source.classes) h.bare in
    subst (λ (ps : List (Option ℕ)). AreAlike (notes us) (notes_from (world vs) ps (methods vs) 0 0 vs)) (parents_again us vs e)
    (classes_again (world us) (world vs) (world_again us vs e h.joined) (parents us) (methods us) (methods vs) (methods_again us vs e) 0 0 us vs e h.joined)
