-- The methods and classes that names mean in an accepted source have numbers of the source's.
use Rattle.std.proofs.Common.{◌≡◌, ◌<◌, ℕ, zero, suc, ◌+◌, true, List, [], ◌∷◌, ◌++◌, length, Some, sym, subst, arith, length-append}
use Rattle.std.specs.Prelude.{slice_get}
use Rattle.ix_core.specs.declared.program.Program.{Program}
use Rattle.ix_tree.specs.declared.decl.ClassDecl.{ClassDecl}
use Rattle.ix_tree.specs.declared.decl.Unit.{Unit as Source}
use Rattle.ix_meaning.specs.Classes as classes
use Rattle.ix_meaning.specs.Classes.{parents, supers}
use Rattle.ix_meaning.specs.Members as members
use Rattle.ix_meaning.specs.Members.{Callee, world, is_method_named, method_named}
use Rattle.ix_plain.specs.declared.body.Head.{Head}
use Rattle.ix_plain.specs.declared.numbers.Next.{Next}
use Rattle.ix_plain.specs.Members.{next_behind, constructor_in, constructors_from, constructors, heads}
use Rattle.ix_plain.specs.Scope.{Site}
use Rattle.ix_formed.proofs.AcceptedMembers.{whenever_is}
use Rattle.ix_formed.proofs.AcceptedMethods.{IsCalled, signatures_called, found_so}
use Rattle.ix_formed.proofs.ClassesHaveWays.{named_within}
use Rattle.ix_formed.proofs.FieldsFit.{IsAccepted}
use Rattle.ix_formed.proofs.Overrides.{nearest_is}
use Rattle.ix_source.specs.WellNamed.{HasNumbers}

there_below : {A : Type 0} (xs : List A) (n : ℕ) (x : A) → slice_get xs n ≡ Some x → n < length xs
there_below [] n x e = absurd cc
there_below (y ∷ xs) zero x e = omega arith
there_below (y ∷ xs) (suc n) x e = let lt = there_below xs n x e in omega (arith, lt)

constructors_count : (numbers : List ℕ) (next : Next) (ks : List ClassDecl) → length (constructors_from numbers next ks) ≡ length numbers + length ks
constructors_count numbers next [] = omega arith
constructors_count numbers next (k ∷ ks) =
    let n = constructor_in next.default next.method k.members in
    let rest = constructors_count (numbers ++ n ∷ []) (next_behind next k) ks in
    let one = length-append numbers (n ∷ []) in omega (arith, rest, one)

pub has_numbers : (unit : Source) (p : Program) (is : IsAccepted unit p) (site : Site) → site.heads ≡ heads unit.classes → site.constructors ≡ constructors unit.classes → HasNumbers (world unit.classes) site
has_numbers unit p is site same_heads same_constructors = record {
  methods = λ class text m e.
      let found = whenever_is (λ (x : Callee). (a : ℕ) × (classes.is_among a (class ∷ supers (parents unit.classes) class) ≡ true) × (IsCalled unit p is x.number x.signature × (is_method_named a text x.signature ≡ true))) (method_named (world unit.classes) class text) m
      (nearest_is unit p is (λ a. members.own_method (members.methods unit.classes) a text) (class ∷ supers (parents unit.classes) class) (λ a (x : Callee). IsCalled unit p is x.number x.signature × (is_method_named a text x.signature ≡ true))
      (λ a. found_so (IsCalled unit p is) (is_method_named a text) 0 (members.methods unit.classes) (signatures_called unit p is))) e in
      let lt = there_below (heads unit.classes) m.number _ found.2.0.head in
      subst (λ (hs : List Head). m.number < length hs) (sym same_heads) lt;
  classes = λ text class e.
      let lt = named_within unit.classes text class e in
      let count = constructors_count [] (Rattle.ix_plain.specs.Members.first_numbers unit.classes) unit.classes in
      subst (λ (ns : List ℕ). class < length ns) (sym same_constructors) (omega (arith, lt, count));
}
