-- All bodies of an accepted source are sound.
use Rattle.std.proofs.Common.{◌≡◌, ◌≤◌, ◌<◌, ◌^◌, ℕ, ◌+◌, Bool, true, false, List, [], ◌∷◌, length, Option, Ok, refl, ap, ◌∙◌, arith}
use Rattle.std.specs.Prelude.{if◌then◌else◌}
use Rattle.std.proofs.lemmas.Bool.{and_parts}
use Rattle.ix_core.specs.declared.program.Method.{Method}
use Rattle.ix_core.specs.declared.program.Program.{Program}
use Rattle.ix_core.specs.Tables.{tables_of}
use Rattle.ix_tree.specs.declared.decl.ClassDecl.{ClassDecl}
use Rattle.ix_tree.specs.declared.decl.Member.{Member}
use Rattle.ix_tree.specs.declared.decl.Member.TheVariants as member
use Rattle.ix_tree.specs.declared.decl.MethodDecl.{MethodDecl}
use Rattle.ix_tree.specs.declared.decl.Unit.{Unit as Source}
use Rattle.ix_tree.specs.Parts.{unit_parts}
use Rattle.ix_tree.specs.Placed.{Placed}
use Rattle.ix_meaning.specs.declared.members.Signature.{Signature}
use Rattle.ix_meaning.specs.Classes.{parents}
use Rattle.ix_meaning.specs.Limits.{methods_of}
use Rattle.ix_meaning.specs.Members as members
use Rattle.ix_meaning.specs.Members.{world, signature}
use Rattle.ix_meaning.specs.Resolved.{names, Accepts}
use Rattle.ix_meaning.specs.Source as source
use Rattle.ix_meaning.specs.Source.{Place, place, has_constructor, members_in}
use Rattle.ix_plain.specs.declared.numbers.Next.{Next}
use Rattle.ix_plain.specs.Members.{next_behind, first_numbers}
use Rattle.ix_plain.specs.Program.{Tables, Home, home, program, tables}
use Rattle.ix_formed.specs.Additions.{AllOf}
use Rattle.ix_formed.specs.NoErrors.{Agrees, Say, MembersSay, ClassesSay}
use Rattle.ix_formed.specs.Parsed.{IsParsed}
use Rattle.ix_formed.specs.Readable.{is_readable}
use Rattle.ix_formed.specs.Shape.{IsMethod, IsNext, IsOneDefault, IfElse, AreMethods, AreAllMethods, AreDefaults}
use Rattle.ix_formed.specs.Written.{is_written_member, is_written_method, each_true}
use Rattle.ix_formed.proofs.ClassesFit.{methods_have, numbers_go}
use Rattle.ix_formed.proofs.ClassFields.{IsMember, members_are, AllHaveFields, all_have_fields}
use Rattle.ix_formed.proofs.DeclaredFields.{Says}
use Rattle.ix_formed.proofs.DeclaredMethods.{method_says}
use Rattle.ix_formed.proofs.FieldsFit.{IsAccepted, said}
use Rattle.ix_formed.proofs.HeadsAre.{IsWritten, AreSo}
use Rattle.ix_formed.proofs.HeadsFit.{HasHead}
use Rattle.ix_formed.proofs.Numbering.{goes, goes_on}
use Rattle.ix_formed.proofs.ProgramsHaveShape.{types_behind}
use Rattle.ix_source.specs.SoundBodies.{IsSoundMethod, IsSoundDefault, HasResults}
use Rattle.ix_source.specs.SoundClasses.{AreSoundClasses}
use Rattle.ix_source.proofs.DefaultsSound.{default_is_sound}
use Rattle.ix_source.proofs.MethodsSound.{method_sound}

module _ (unit : Source) (p : Program) (is : IsAccepted unit p) where
  abbrev t : Tables
  t = tables (names unit) unit.classes

  abbrev So : Rattle.ix_meaning.specs.declared.note.Note.Note → Type 0
  So = Agrees (names unit) (unit_parts unit)

  -- ---- the methods of a class

  head_is : (ss : List Signature) (c : ℕ) (k : ClassDecl) (at : Home) (d : MethodDecl) (method : Method) → at.class ≡ c → c < length unit.classes → is_written_method d ≡ true → IsMethod t at d method
      → Says (names unit) (unit_parts unit) (source.method_notes (place (world unit.classes) ss c k) (signature (world unit.classes).class c d) d) → HasHead unit p is (place (world unit.classes) ss c k) d method
  head_is ss c k at d method class there wr m says = record {
    world = refl;
    there = there;
    written = wr;
    name = ap (λ (x : Method). x.name) m.same;
    span = ap (λ (x : Method). x.span) m.same;
    class = ap (λ (x : Method). x.class) m.same ∙ class;
    static = ap (λ (x : Method). x.is_static) m.same;
    constructor = ap (λ (x : Method). x.constructor) m.same;
    types = ap (λ (x : Method). x.param_types) m.same ∙ types_behind (names unit) [] d.params;
    result = ap (λ (x : Method). x.result) m.same;
    claims = ap (λ (x : Method). x.result_claims) m.same;
    says = method_says (names unit) (unit_parts unit) (place (world unit.classes) ss c k) (signature (world unit.classes).class c d) d says;
  }

  members_sound : (ss : List Signature) (c : ℕ) (k : ClassDecl) (at : Home) (named : List ℕ → Option ℕ) (i next : ℕ) (ms : List Member) (methods : List Method) → at.class ≡ c → at.parent ≡ t.world.parent at.class → c < length unit.classes
      → each_true is_written_member ms ≡ true → MembersSay So (place (world unit.classes) ss c k) named i next ms → AreMethods t at ms methods → AllOf (IsMember unit p (place (world unit.classes) ss c k) at) (methods_of ms) → AllOf (IsSoundMethod p t at) (methods_of ms)
  members_sound ss c k at named i next [] methods class above there wr says are fine = tt
  members_sound ss c k at named i next (member.Field d ∷ ms) methods class above there wr says are fine =
      members_sound ss c k at named (i + 1) (members.next_field next d) ms methods class above there (and_parts (is_written_member (member.Field d)) (each_true is_written_member ms) wr).1 says.2 are fine
  members_sound ss c k at named i next (member.Method d ∷ ms) methods class above there wr says are fine =
      let w = and_parts (is_written_method d) (each_true is_written_member ms) wr in
      let own : IsWritten unit p is (IsMember unit p) t are.0 = record { place = place (world unit.classes) ss c k; decl = d; at = at; fine = fine.0; head = head_is ss c k at d are.0 class there w.0 are.3 says.1; same = are.3; class = class; parent = above } in
      (method_sound unit p is are.0 own, members_sound ss c k at named (i + 1) next ms are.1 class above there w.1 says.2 are.4 fine.1)

  -- ---- all classes

  classes_sound : (ps : List (Option ℕ)) (ss : List Signature) (c nf : ℕ) (next : Next) (ks : List ClassDecl) (methods defaults : List Method) → next.class ≡ c → IsNext next ks → c + length ks ≤ length unit.classes
      → each_true (λ (k : ClassDecl). each_true is_written_member k.members) ks ≡ true → ClassesSay So (world unit.classes) ps ss c nf ks → AreAllMethods t next ks methods → AreDefaults t next ks defaults
      → AreSo unit p is (IsMember unit p) t refl ss c next ks → AllHaveFields unit p is ss c next ks → AreSoundClasses p t next ks
  classes_sound ps ss c nf next [] methods defaults class go le wr says are are_default fine have = tt
  classes_sound ps ss c nf next (k ∷ ks) methods defaults class go le wr says are are_default fine have =
      let w = and_parts (each_true is_written_member k.members) (each_true (λ (k : ClassDecl). each_true is_written_member k.members) ks) wr in
      let up = (goes next k ks go).class in
      let d = default_of (has_constructor k.members) says.0.default are_default in (
        members_sound ss c k (home t next k) (source.member_named k.members) 0 nf k.members are.0 class refl (omega (arith, le)) w.0 says.0.members are.3 fine.0,
        d.1,
        classes_sound ps ss (c + 1) (members.next_fields nf k.members) (next_behind next k) ks are.1 d.0.0 (omega (arith, up, class)) (goes_on next k ks go) (omega (arith, le)) w.1 says.1 are.4 d.0.1 fine.1 have.1,
      )
    where
      -- what a class without a constructor has, and the defaults of the classes behind it
      default_of : (b : Bool) → Say So (if b then [] else source.implicit_super_of (world unit.classes) ((world unit.classes).parent c) k.name.span)
          → IfElse b (AreDefaults t (next_behind next k) ks defaults) (IsOneDefault (AreDefaults t (next_behind next k) ks) t (home t next k) k.name.span defaults)
          → ((others : List Method) × AreDefaults t (next_behind next k) ks others) × (b ≡ false → IsSoundDefault p t (home t next k) k.name.span)
      default_of true said are = ((defaults, are), (λ e. absurd (cc e)))
      default_of false said are = ((are.1, are.4), (λ e. default_is_sound unit p is ss c next k class (omega (arith, le)) have.0 said are.0 are.3))

  pub all_sound : (end : ℕ) → Placed end unit → is_readable unit.classes ≡ true → AreSoundClasses p (tables (names unit) unit.classes) (first_numbers unit.classes) unit.classes
  all_sound end placed readable =
      let have = methods_have unit p is in
      classes_sound (parents unit.classes) (members.methods unit.classes) 0 0 (first_numbers unit.classes) unit.classes have.written have.default refl (numbers_go unit p is) (omega arith) is.written (said unit p is) have.are_written have.are_default
      (members_are unit p is end placed readable) (all_have_fields unit p is end placed readable)

-- In each class of an accepted source all bodies are sound, however a run sees them.
pub sound_source : (unit : Source) (p : Program) → IsParsed unit → Accepts unit → members_in unit.classes + 1 < 2 ^ 32 → program (names unit) unit.classes ≡ Ok p → AreSoundClasses p (tables (names unit) unit.classes) (first_numbers unit.classes) unit.classes
sound_source unit p parsed accepts few made =
    let is : IsAccepted unit p = record { can = parsed.can; accepts = accepts; written = parsed.written; few = few; made = made } in
    all_sound unit p is parsed.placed.0 parsed.placed.1 parsed.readable

-- The tables of a program give back what its methods do.
pub tables_give : (p : Program) → HasResults p (tables_of p)
tables_give p number = (refl, refl)
