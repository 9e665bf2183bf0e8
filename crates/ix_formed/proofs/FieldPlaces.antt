-- Where the initialisers of a class's fields stand: beside each method of the class.
use Rattle.std.proofs.Common.{◌≡◌, ◌≤◌, ℕ, true, List, [], ◌∷◌, ◌++◌, map, Option, Some, None, refl, sym, subst, ◌∙◌, arith, append_assoc, ◌⊎◌, inl, inr}
use Rattle.std.proofs.lemmas.Bool.{and_parts}
use Rattle.ix_text.specs.declared.span.Span.{Span}
use Rattle.ix_tree.specs.declared.decl.ClassDecl.{ClassDecl}
use Rattle.ix_tree.specs.declared.decl.LocalDecl.{LocalDecl}
use Rattle.ix_tree.specs.declared.decl.Member.{Member}
use Rattle.ix_tree.specs.declared.decl.Member.TheVariants as member
use Rattle.ix_tree.specs.declared.decl.MethodDecl.{MethodDecl}
use Rattle.ix_tree.specs.declared.expr.Init.{Init}
use Rattle.ix_tree.specs.Parts as parts
use Rattle.ix_tree.specs.Parts.{Part, elsewhere, together, listed, each, init_parts, decl_parts, mods_parts, type_parts, method_parts, member_parts, class_parts}
use Rattle.ix_tree.specs.Placed.{nothing, LaidOut, row, maybe, name_piece, init_piece, own_pieces, field_shared, members_pieces, class_piece}
use Rattle.ix_meaning.specs.Limits.{methods_of}
use Rattle.ix_formed.specs.Additions.{AllOf}
use Rattle.ix_formed.specs.Readable.{is_readable_init, is_readable_decl, is_readable_member, is_readable_method}
use Rattle.ix_formed.specs.TypedStatements.{Within}
use Rattle.ix_formed.specs.Written.{each_true, maybe_true}
use Rattle.ix_formed.proofs.LayoutSpans.{PartIs, laid_up, laid_parts, init_spans, init_single}
use Rattle.ix_formed.proofs.NumberLists.{all_split}
use Rattle.ix_formed.proofs.SourceMethods.{IsAmong, behind_row, both_rows}

-- What is asked of a stretch of the text, from its start to its end.
abbrev pub Places : Type 1
Places = ℕ → ℕ → Type 0

abbrev pub Between : ℕ → ℕ → Places
Between from to lo hi = (from ≤ lo) × (hi ≤ to)

abbrev pub Anywhere : Places
Anywhere lo hi = Unit {0}

abbrev pub Beside : Span → Places
Beside span lo hi = (hi ≤ span.from) ⊎ (span.to ≤ lo)

module _ (all : List Part) where
  -- An initialiser stands in a stretch of which this is so, and its names are among those of the source.
  pub record StandsAt (Where : Places) (i : Init) : Type 0 where
    pub lo : ℕ
    pub hi : ℕ
    pub places : Where lo hi
    pub spans : AllOf (PartIs (Within lo hi)) (init_parts i)
    pub among : AllOf (IsAmong all) (init_parts i)
    pub readable : is_readable_init i ≡ true

  -- each initialiser of a field does
  abbrev pub AllStand : Places → List Member → Type 0
  AllStand Where [] = Unit {0}
  AllStand Where (member.Field d ∷ ms) = ((i : Init) → d.init ≡ Some i → StandsAt Where i) × AllStand Where ms
  AllStand Where (member.Method m ∷ ms) = AllStand Where ms

  abbrev stands_too : (A B : Places) → ((lo hi : ℕ) → A lo hi → B lo hi) → (i : Init) → StandsAt A i → StandsAt B i
  stands_too A B more i s = record { lo = s.lo; hi = s.hi; places = more s.lo s.hi s.places; spans = s.spans; among = s.among; readable = s.readable }

  pub all_stand_too : (A B : Places) → ((lo hi : ℕ) → A lo hi → B lo hi) → (ms : List Member) → AllStand A ms → AllStand B ms
  all_stand_too A B more [] all = tt
  all_stand_too A B more (member.Field d ∷ ms) all = ((λ i e. stands_too A B more i (all.0 i e)), all_stand_too A B more ms all.1)
  all_stand_too A B more (member.Method m ∷ ms) all = all_stand_too A B more ms all

  both_stand : (A : Places) (xs ys : List Member) → AllStand A xs → AllStand A ys → AllStand A (xs ++ ys)
  both_stand A [] ys a b = b
  both_stand A (member.Field d ∷ xs) ys a b = (a.0, both_stand A xs ys a.1 b)
  both_stand A (member.Method m ∷ xs) ys a b = both_stand A xs ys a b

  -- An initialiser is one node, which is laid out where it stands.
  from_there : (i : Init) (start lo hi : ℕ) → LaidOut start lo hi (init_piece i) → LaidOut lo lo hi (init_piece i)
  from_there i start lo hi laid = let e = (init_single i).1 in subst (LaidOut lo lo hi) (sym e) (subst (LaidOut start lo hi) e laid)

  field_stands : (start lo hi : ℕ) (d : LocalDecl) → LaidOut start lo hi (row (own_pieces d)) → AllOf (IsAmong all) (decl_parts d) → is_readable_decl d ≡ true → (i : Init) → d.init ≡ Some i → StandsAt (Between lo hi) i
  field_stands start lo hi d laid among readable i e =
      let own = subst (λ o. LaidOut start d.name.span.to hi (row (maybe init_piece o))) e laid.3 in
      let at = laid_parts start d.name.span.to hi (init_piece i) nothing own in
      let a = laid.0 in
      let b = laid.1 in
      let last = parts.maybe init_parts d.init in
      let behind_mods = (all_split (IsAmong all) (mods_parts d.mods) (type_parts d.ty ++ elsewhere d.name ∷ last) among.1).1 in
      let behind_type = (all_split (IsAmong all) (type_parts d.ty) (elsewhere d.name ∷ last) behind_mods).1 in
      record {
        lo = d.name.span.to;
        hi = at.0;
        places = (omega (arith, a, b), at.2);
        spans = init_spans i d.name.span.to d.name.span.to at.0 (omega arith) (from_there i start d.name.span.to at.0 at.1);
        among = subst (λ o. AllOf (IsAmong all) (parts.maybe init_parts o)) e behind_type.1;
        readable = subst (λ o. maybe_true is_readable_init o ≡ true) e readable;
      }

  -- a field, and where the members behind it are laid out
  abbrev FieldStands : Option Span → ℕ → ℕ → ℕ → LocalDecl → List Member → Type 0
  FieldStands before start lo hi d ms = (mid : ℕ) × (lo ≤ mid) × (mid ≤ hi) × LaidOut start mid hi (row (members_pieces (Some d.ty.span) ms)) × ((i : Init) → d.init ≡ Some i → StandsAt (Between lo mid) i)

  next_field_stands : (before : Option Span) (start lo hi : ℕ) (d : LocalDecl) (ms : List Member) → LaidOut start lo hi (row (members_pieces before (member.Field d ∷ ms))) → AllOf (IsAmong all) (decl_parts d) → is_readable_decl d ≡ true
      → FieldStands before start lo hi d ms
  next_field_stands before start lo hi d ms laid among readable =
      let a = both_rows start lo hi (field_shared before d) (own_pieces d ++ members_pieces (Some d.ty.span) ms) laid in
      let b = both_rows start a.0 hi (own_pieces d) (members_pieces (Some d.ty.span) ms) a.2 in
      let up = laid_up start lo a.0 (row (field_shared before d)) a.1 in
      let on = laid_up start a.0 b.0 (row (own_pieces d)) b.1 in
      let last = laid_up start b.0 hi (row (members_pieces (Some d.ty.span) ms)) b.2 in
      (b.0, omega (arith, up, on), last, b.2, (λ i e. stands_too (Between a.0 b.0) (Between lo b.0) (λ x y w. (let z = w.0 in omega (arith, z, up), w.1)) i (field_stands start a.0 b.0 d b.1 among readable i e)))

  members_stand : (before : Option Span) (start lo hi : ℕ) (ms : List Member) → LaidOut start lo hi (row (members_pieces before ms)) → AllOf (IsAmong all) (together (each member_parts ms)) → each_true is_readable_member ms ≡ true
      → AllStand (Between lo hi) ms
  members_stand before start lo hi [] laid among readable = tt
  members_stand before start lo hi (member.Field d ∷ ms) laid among readable =
      let own = all_split (IsAmong all) (decl_parts d) (together (each member_parts ms)) among in
      let read = and_parts (is_readable_decl d) (each_true is_readable_member ms) readable in
      let f = next_field_stands before start lo hi d ms laid own.0 read.0 in
      let up = f.1 in
      let last = f.2 in (
        (λ i e. stands_too (Between lo f.0) (Between lo hi) (λ x y w. (w.0, (let z = w.1 in omega (arith, z, last)))) i (f.4 i e)),
        all_stand_too (Between f.0 hi) (Between lo hi) (λ x y w. ((let z = w.0 in omega (arith, z, up)), w.1)) ms (members_stand (Some d.ty.span) start f.0 hi ms f.3 own.1 read.1),
      )
  members_stand before start lo hi (member.Method d ∷ ms) laid among readable =
      let own = all_split (IsAmong all) (method_parts d) (together (each member_parts ms)) among in
      let read = and_parts (is_readable_method d) (each_true is_readable_member ms) readable in
      let a = laid.0 in
      let b = laid.1 in
      all_stand_too (Between d.span.to hi) (Between lo hi) (λ x y w. ((let z = w.0 in omega (arith, z, a, b)), w.1)) ms (members_stand None start d.span.to hi ms laid.3 own.1 read.1)

  -- ---- beside each method

  beside_each : (before : Option Span) (start lo hi : ℕ) (front ms whole : List Member) → whole ≡ front ++ ms → AllStand (Between 0 lo) front → LaidOut start lo hi (row (members_pieces before ms)) → AllOf (IsAmong all) (together (each member_parts ms))
      → each_true is_readable_member ms ≡ true → AllOf (λ (d : MethodDecl). AllStand (Beside d.span) whole) (methods_of ms)
  beside_each before start lo hi front [] whole same stand laid among readable = tt
  beside_each before start lo hi front (member.Field d ∷ ms) whole same stand laid among readable =
      let own = all_split (IsAmong all) (decl_parts d) (together (each member_parts ms)) among in
      let read = and_parts (is_readable_decl d) (each_true is_readable_member ms) readable in
      let f = next_field_stands before start lo hi d ms laid own.0 read.0 in
      let up = f.1 in
      beside_each (Some d.ty.span) start f.0 hi (front ++ member.Field d ∷ []) ms whole (same ∙ sym (append_assoc front (member.Field d ∷ []) ms))
      (both_stand (Between 0 f.0) front (member.Field d ∷ []) (all_stand_too (Between 0 lo) (Between 0 f.0) (λ x y w. (w.0, (let z = w.1 in omega (arith, z, up)))) front stand)
      ((λ i e. stands_too (Between lo f.0) (Between 0 f.0) (λ x y w. (omega arith, w.1)) i (f.4 i e)), tt)) f.3 own.1 read.1
  beside_each before start lo hi front (member.Method d ∷ ms) whole same stand laid among readable =
      let own = all_split (IsAmong all) (method_parts d) (together (each member_parts ms)) among in
      let read = and_parts (is_readable_method d) (each_true is_readable_member ms) readable in
      let a = laid.0 in
      let b = laid.1 in (
        subst (AllStand (Beside d.span)) (sym same)
            (both_stand (Beside d.span) front (member.Method d ∷ ms) (all_stand_too (Between 0 lo) (Beside d.span) (λ x y w. inl (let z = w.1 in omega (arith, z, a))) front stand)
            (all_stand_too (Between d.span.to hi) (Beside d.span) (λ x y w. inr w.0) ms (members_stand None start d.span.to hi ms laid.3 own.1 read.1))),
        beside_each None start d.span.to hi (front ++ member.Method d ∷ []) ms whole (same ∙ sym (append_assoc front (member.Method d ∷ []) ms))
            (both_stand (Between 0 d.span.to) front (member.Method d ∷ []) (all_stand_too (Between 0 lo) (Between 0 d.span.to) (λ x y w. (w.0, (let z = w.1 in omega (arith, z, a, b)))) front stand) tt) laid.3 own.1 read.1,
      )

  -- What is so of a class: its initialisers stand somewhere, and beside each method.
  pub record ClassStands (ms : List Member) : Type 0 where
    pub somewhere : AllStand Anywhere ms
    pub beside : AllOf (λ (d : MethodDecl). AllStand (Beside d.span) ms) (methods_of ms)

  pub class_stands : (start lo hi : ℕ) (k : ClassDecl) (ks : List ClassDecl) → LaidOut start lo hi (row (map class_piece (k ∷ ks))) → AllOf (IsAmong all) (class_parts k) → each_true is_readable_member k.members ≡ true → ClassStands k.members
  class_stands start lo hi k ks laid among readable =
      let a = behind_row k.span.from k.span.from k.span.to (name_piece k.name ∷ []) (maybe name_piece k.parent ++ members_pieces None k.members) laid.2 in
      let b = behind_row k.span.from a.0 k.span.to (maybe name_piece k.parent) (members_pieces None k.members) a.1 in
      let inner = (all_split (IsAmong all) (parts.maybe parts.other_name k.parent) (listed (each member_parts k.members)) among.1.1).1 in
      record {
        somewhere = all_stand_too (Between b.0 k.span.to) Anywhere (λ lo hi w. tt) k.members (members_stand None k.span.from b.0 k.span.to k.members b.1 inner.1 readable);
        beside = beside_each None k.span.from b.0 k.span.to [] k.members k.members refl tt b.1 inner.1 readable;
      }
