-- The methods of the program, by their numbers, are those of the source's signatures.
use Rattle.std.proofs.Common.{◌≡◌, ◌≤◌, ◌<◌, ℕ, ◌+◌, true, List, [], ◌∷◌, ◌++◌, length, map, Option, Some, refl, sym, ap, subst, ◌∙◌, arith, append_assoc, length-append}
use Rattle.std.specs.Prelude.{slice_get, unwrap_or}
use Rattle.std.proofs.lemmas.Bool.{and_parts}
use Rattle.ix_core.specs.declared.claim.Type_.{Type_}
use Rattle.ix_core.specs.declared.program.Method.{Method}
use Rattle.ix_core.specs.declared.program.Program.{Program}
use Rattle.ix_core.specs.Tables.{method_at, no_method}
use Rattle.ix_tree.specs.declared.decl.ClassDecl.{ClassDecl}
use Rattle.ix_tree.specs.declared.decl.Member.{Member}
use Rattle.ix_tree.specs.declared.decl.Member.TheVariants as member
use Rattle.ix_tree.specs.declared.decl.MethodDecl.{MethodDecl}
use Rattle.ix_tree.specs.declared.decl.Unit.{Unit as Source}
use Rattle.ix_tree.specs.Parts.{unit_parts}
use Rattle.ix_meaning.specs.declared.members.Signature.{Signature}
use Rattle.ix_meaning.specs.Limits.{methods_of}
use Rattle.ix_meaning.specs.Members as members
use Rattle.ix_meaning.specs.Members.{world, signature, param_type}
use Rattle.ix_meaning.specs.Resolved.{Names, names}
use Rattle.ix_meaning.specs.Source as source
use Rattle.ix_meaning.specs.Source.{Place, place}
use Rattle.ix_plain.specs.declared.numbers.Next.{Next}
use Rattle.ix_plain.specs.Members.{next_behind}
use Rattle.ix_plain.specs.Scope.{declared_type, declared_claims}
use Rattle.ix_plain.specs.Program.{Tables, Home, home}
use Rattle.ix_formed.specs.Additions.{AllOf}
use Rattle.ix_formed.specs.NoErrors.{Agrees, MembersSay, ClassesSay}
use Rattle.ix_formed.specs.Shape.{IsMethod, AreMethods, AreAllMethods, IsNext, types_of}
use Rattle.ix_formed.specs.Written.{is_written_member, is_written_method, each_true}
use Rattle.ix_formed.proofs.DeclaredMethods.{method_says, params_typed}
use Rattle.ix_formed.proofs.FieldsFit.{IsAccepted}
use Rattle.ix_formed.proofs.HeadsFit.{HasHead, all_params_say, result_said}
use Rattle.ix_formed.proofs.Numbering.{goes, goes_on}
use Rattle.ix_formed.proofs.NumberLists.{all_joined}
use Rattle.ix_formed.proofs.ProgramsHaveShape.{types_behind}

module _ (unit : Source) (p : Program) (is : IsAccepted unit p) where
  -- The program's method has what the signature says.
  pub record Matches (method : Method) (m : Signature) : Type 0 where
    pub name : method.name ≡ m.name
    pub span : method.span ≡ m.span
    pub class : method.class ≡ m.class
    pub static : method.is_static ≡ m.is_static
    pub constructor : method.constructor ≡ m.constructor
    pub params : map (λ t. Some t) method.param_types ≡ m.params
    pub result : Some method.result ≡ m.result
    pub there : m.class < length unit.classes

  -- the signatures from that number on are those of the program's methods
  abbrev pub SignaturesMatch : ℕ → List Signature → Type 0
  SignaturesMatch number [] = Unit {0}
  SignaturesMatch number (m ∷ ms) = ((number < length p.methods) × Matches (method_at p number) m) × SignaturesMatch (number + 1) ms

  -- a method of the program that is written, where it stands and as what, and what else is so of it
  pub record IsWritten (Q : Place → Home → MethodDecl → Type 0) (t : Tables) (method : Method) : Type 0 where
    pub place : Place
    pub decl : MethodDecl
    pub at : Home
    pub fine : Q place at decl
    pub head : HasHead unit p is place decl method
    pub same : IsMethod t at decl method
    pub class : at.class ≡ place.class
    pub parent : at.parent ≡ t.world.parent at.class

  pub head_matches : (l : Place) (d : MethodDecl) (method : Method) → HasHead unit p is l d method → Matches method (signature l.world.class l.class d)
  head_matches l d method head =
      let said = result_said unit p is l d method head in
      record {
        name = head.name;
        span = head.span;
        class = head.class;
        static = head.static;
        constructor = head.constructor;
        there = head.there;
        params = ap (λ (ts : List Type_). map (λ t. Some t) ts) head.types ∙ params_typed (names unit) (unit_parts unit) l (source.head_scope l (signature l.world.class l.class d) d) 0 d.params (all_params_say unit p is l d method head);
        result = ap (λ (t : Type_). Some t) (head.result ∙ ap declared_type said.table) ∙ sym said.typed;
      }

  method_behind : (before : List Method) (x : Method) (later : List Method) → slice_get (before ++ x ∷ later) (length before) ≡ Some x
  method_behind [] x later = refl
  method_behind (y ∷ before) x later = method_behind before x later

  module _ (Q : Place → Home → MethodDecl → Type 0) (t : Tables) (same_names : t.names ≡ names unit) where
    -- so it is of the methods of each class
    abbrev pub AreSo : List Signature → ℕ → Next → List ClassDecl → Type 0
    AreSo ss c next [] = Unit {0}
    AreSo ss c next (k ∷ ks) = AllOf (Q (place (world unit.classes) ss c k) (home t next k)) (methods_of k.members) × AreSo ss (c + 1) (next_behind next k) ks

    written_head_is : (ss : List Signature) (c : ℕ) (k : ClassDecl) (at : Home) (d : MethodDecl) (method : Method) → at.class ≡ c → c < length unit.classes → is_written_method d ≡ true
        → IsMethod t at d method → Rattle.ix_formed.proofs.DeclaredFields.Says (names unit) (unit_parts unit) (source.method_notes (place (world unit.classes) ss c k) (signature (world unit.classes).class c d) d)
        → HasHead unit p is (place (world unit.classes) ss c k) d method
    written_head_is ss c k at d method class there wr m says = record {
      world = refl;
      there = there;
      written = wr;
      name = ap (λ (x : Method). x.name) m.same;
      span = ap (λ (x : Method). x.span) m.same;
      class = ap (λ (x : Method). x.class) m.same ∙ class;
      static = ap (λ (x : Method). x.is_static) m.same;
      constructor = ap (λ (x : Method). x.constructor) m.same;
      types = ap (λ (x : Method). x.param_types) m.same ∙ types_behind t.names [] d.params ∙ ap (λ (n : Names). types_of n d.params) same_names;
      result = ap (λ (x : Method). x.result) m.same ∙ ap (λ (n : Names). declared_type (n.declared d.name.span)) same_names;
      claims = ap (λ (x : Method). x.result_claims) m.same ∙ ap (λ (n : Names). declared_claims (n.declared d.name.span)) same_names;
      says = method_says (names unit) (unit_parts unit) (place (world unit.classes) ss c k) (signature (world unit.classes).class c d) d says;
    }

    members_match : (ss : List Signature) (c : ℕ) (k : ClassDecl) (at : Home) (named : List ℕ → Option ℕ) (i next : ℕ) (ms : List Member) (methods before later : List Method) → at.class ≡ c → at.parent ≡ t.world.parent at.class → c < length unit.classes
        → each_true is_written_member ms ≡ true → MembersSay (Agrees (names unit) (unit_parts unit)) (place (world unit.classes) ss c k) named i next ms → AreMethods t at ms methods
        → AllOf (Q (place (world unit.classes) ss c k) at) (methods_of ms) → p.methods ≡ before ++ (methods ++ later)
        → SignaturesMatch (length before) (members.methods_in (world unit.classes).class c ms) × AllOf (IsWritten Q t) methods
    members_match ss c k at named i next [] methods before later class above there wr says are fine e = (tt, subst (AllOf (IsWritten Q t)) (sym are) tt)
    members_match ss c k at named i next (member.Field d ∷ ms) methods before later class above there wr says are fine e =
        members_match ss c k at named (i + 1) (members.next_field next d) ms methods before later class above there (and_parts (is_written_member (member.Field d)) (each_true is_written_member ms) wr).1 says.2 are fine e
    members_match ss c k at named i next (member.Method d ∷ ms) methods before later class above there wr says are fine e =
        let parts_w = and_parts (is_written_method d) (each_true is_written_member ms) wr in
        let method = are.0 in
        let head = written_head_is ss c k at d method class there parts_w.0 are.3 says.1 in
        let all : p.methods ≡ before ++ method ∷ (are.1 ++ later) = e ∙ ap (λ (l : List Method). before ++ (l ++ later)) are.2 in
        let here : method_at p (length before) ≡ method = ap (λ (l : List Method). unwrap_or (slice_get l (length before)) no_method) all ∙ ap (λ (o : Option Method). unwrap_or o no_method) (method_behind before method (are.1 ++ later)) in
        let long = ap (λ (l : List Method). length l) all in
        let more = length-append before (method ∷ (are.1 ++ later)) in
        let up : length (before ++ method ∷ []) ≡ length before + 1 = (let a = length-append before (method ∷ []) in omega (arith, a)) in
        let rest = members_match ss c k at named (i + 1) next ms are.1 (before ++ method ∷ []) later class above there parts_w.1 says.2 are.4 fine.1 (all ∙ sym (append_assoc before (method ∷ []) (are.1 ++ later))) in (
          (
            (
              (let lt : length before < length p.methods = omega (arith, long, more) in lt),
              subst (λ x. Matches x (signature (world unit.classes).class c d)) (sym here) (head_matches (place (world unit.classes) ss c k) d method head),
            ),
            subst (λ n. SignaturesMatch n (members.methods_in (world unit.classes).class c ms)) up rest.0,
          ),
          subst (AllOf (IsWritten Q t)) (sym are.2) (record { place = place (world unit.classes) ss c k; decl = d; at = at; fine = fine.0; head = head; same = are.3; class = class; parent = above }, rest.1),
        )

    signatures_both : (number other : ℕ) (xs ys : List Signature) → SignaturesMatch number xs → other ≡ number + length xs → SignaturesMatch other ys → SignaturesMatch number (xs ++ ys)
    signatures_both number other [] ys a e b = let z : other ≡ number = omega (arith, e) in subst (λ n. SignaturesMatch n ys) z b
    signatures_both number other (x ∷ xs) ys a e b = (a.0, signatures_both (number + 1) other xs ys a.1 (omega (arith, e)) b)

    own_length : (class : List ℕ → Option ℕ) (c : ℕ) (at : Home) (ms : List Member) (methods : List Method) → AreMethods t at ms methods → length methods ≡ length (members.methods_in class c ms)
    own_length class c at [] methods are = ap (λ (l : List Method). length l) are
    own_length class c at (member.Field d ∷ ms) methods are = own_length class c at ms methods are
    own_length class c at (member.Method d ∷ ms) methods are =
        let a = ap (λ (l : List Method). length l) are.2 in let b = own_length class c at ms are.1 are.4 in omega (arith, a, b)

    pub all_match : (ps : List (Option ℕ)) (ss : List Signature) (c nf : ℕ) (next : Next) (ks : List ClassDecl) (methods before later : List Method) → next.class ≡ c → IsNext next ks → c + length ks ≤ length unit.classes
        → each_true (λ (k : ClassDecl). each_true is_written_member k.members) ks ≡ true → ClassesSay (Agrees (names unit) (unit_parts unit)) (world unit.classes) ps ss c nf ks → AreAllMethods t next ks methods
        → AreSo ss c next ks → p.methods ≡ before ++ (methods ++ later)
        → SignaturesMatch (length before) (members.methods_from (world unit.classes).class c ks) × AllOf (IsWritten Q t) methods
    all_match ps ss c nf next [] methods before later class number le wr says are fine e = (tt, subst (AllOf (IsWritten Q t)) (sym are) tt)
    all_match ps ss c nf next (k ∷ ks) methods before later class number le wr says are fine e =
        let parts_w = and_parts (each_true is_written_member k.members) (each_true (λ (k : ClassDecl). each_true is_written_member k.members) ks) wr in
        let up = (goes next k ks number).class in
        let at = home t next k in
        let all : p.methods ≡ before ++ (are.0 ++ (are.1 ++ later)) = e ∙ ap (λ (l : List Method). before ++ (l ++ later)) are.2 ∙ ap (λ (l : List Method). before ++ l) (append_assoc are.0 are.1 later) in
        let own = members_match ss c k at (source.member_named k.members) 0 nf k.members are.0 before (are.1 ++ later) class refl (omega (arith, le)) parts_w.0 says.0.members are.3 fine.0 all in
        let rest = all_match ps ss (c + 1) (members.next_fields nf k.members) (next_behind next k) ks are.1 (before ++ are.0) later (omega (arith, up, class)) (goes_on next k ks number) (omega (arith, le)) parts_w.1 says.1 are.4 fine.1
        (all ∙ sym (append_assoc before are.0 (are.1 ++ later))) in
        let count : length (before ++ are.0) ≡ length before + length (members.methods_in (world unit.classes).class c k.members) =
        (let a = length-append before are.0 in let b = own_length (world unit.classes).class c at k.members are.0 are.3 in omega (arith, a, b)) in (
          signatures_both (length before) (length (before ++ are.0)) (members.methods_in (world unit.classes).class c k.members) (members.methods_from (world unit.classes).class (c + 1) ks) own.0 count rest.0,
          subst (AllOf (IsWritten Q t)) (sym are.2) (all_joined (IsWritten Q t) are.0 are.1 own.1 rest.1),
        )

  pub signatures_parts : (number : ℕ) (xs ys : List Signature) → SignaturesMatch number (xs ++ ys) → SignaturesMatch number xs × SignaturesMatch (number + length xs) ys
  signatures_parts number [] ys a = let e : number ≡ number + 0 = omega arith in (tt, subst (λ n. SignaturesMatch n ys) e a)
  signatures_parts number (x ∷ xs) ys a =
      let r = signatures_parts (number + 1) xs ys a.1 in
      let e : (number + 1) + length xs ≡ number + length (x ∷ xs) = omega arith in ((a.0, r.0), subst (λ n. SignaturesMatch n ys) e r.1)
