-- The rules are true where they say.
use Rattle.std.specs.Prelude.{◌≡◌, Bool, true, false, List, [], refl}
use Rattle.std.proofs.Common.{sym, ◌∙◌}
use Rattle.ix_core.specs.declared.claim.Type_.{Type_}
use Rattle.ix_core.specs.declared.fact.Path.{Path}
use Rattle.ix_core.specs.declared.fact.Path.TheVariants.{Slot, FieldOf}
use Rattle.ix_core.specs.declared.fact.Fact.{Fact}
use Rattle.ix_core.specs.declared.program.Method.{Method}
use Rattle.ix_core.specs.declared.program.Program.{Program}
use Rattle.ix_core.specs.Numbers.{Numbers}
use Rattle.ix_facts.specs.Closure.{kept}
use Rattle.ix_facts.specs.Exact.{if_so}
use Rattle.ix_facts.specs.Facts.{AllHold}
use Rattle.ix_facts.specs.Forget.{SameBut, without, of_path}
use Rattle.ix_facts.specs.Laws.{Alike}
use Rattle.ix_facts.specs.Stores.{Stored, Reached, Meets, with_facts, with_copy}
use Rattle.ix_facts.proofs.AfterLaws.{copy_hold}
use Rattle.ix_facts.proofs.ClosureLaws.{kept_hold}
use Rattle.ix_facts.proofs.FactLists.{all_hold_app}
use Rattle.ix_facts.proofs.Frame.{without_stays, without_holds}
use Rattle.ix_facts.proofs.StepLaws.{gives_meets}
use Rattle.ix_facts.proofs.StoresHold.{proved_meets}
use Rattle.ix_signatures.specs.Names.{is_built}
use Rattle.ix_signatures.specs.Signs.{Adds, Forgets, Copies, entry_facts, read_facts, write_facts}
use Rattle.ix_signatures.specs.SignLaws.{SignsHold}

adds_hold : (new : List Fact) (s t : Stored) (v : Numbers) → AllHold new v → Adds new s t → Meets s v → Meets t v
adds_hold new s t v n = gives_meets (with_facts new) v v (λ facts h. all_hold_app v facts (kept new) h (kept_hold v new n)) s t

unnamed_hold : (is : Path → Bool) (v w : Numbers) → SameBut is v w → (facts : List Fact) → AllHold facts v → AllHold (without is facts) w
unnamed_hold is v w same facts h = without_stays is v w same facts (without_holds is v facts h)

forgets_hold : (is : Path → Bool) (s t : Stored) (v w : Numbers) → SameBut is v w → Forgets is s t → Meets s v → Meets t w
forgets_hold is s t v w same = gives_meets (without is) v w (unnamed_hold is v w same) s t

copies_hold : (ty : Type_) (target source : Path) (s t : Stored) (v w : Numbers) → SameBut (of_path target) v w → Alike w target source → Copies ty target source s t → Meets s v → Meets t w
copies_hold ty target source s t v w same alike =
    gives_meets (with_copy ty target source) v w (λ facts h. copy_hold (without (of_path target) facts) w ty target source alike (unnamed_hold (of_path target) v w same facts h)) s t

if_so_hold : (v : Numbers) (test : Bool) (facts : List Fact) → (test ≡ true → AllHold facts v) → AllHold (if_so test facts) v
if_so_hold v true facts h = h refl
if_so_hold v false facts h = tt

pub signs_hold : (program : Program) (method : Method) → SignsHold program method
signs_hold program method = record {
  entry = λ t v h gives. gives_meets (λ facts. entry_facts program method) v v (λ facts k. h) (Reached []) t gives tt;
  read = λ target object field s t v w apart built read m gives.
      let one = adds_hold _ s gives.0 v (if_so_hold v (is_built method object) (read_facts program object field) built) gives.1 m in
      let same = read.others (FieldOf object field) apart in
      copies_hold _ _ _ gives.0 t v w read.others (record { int = read.int ∙ sym same.0; size = read.size ∙ sym same.1 }) gives.2 one;
  write = λ object field value s t v w built written m gives.
      let one = adds_hold _ s gives.0 v (if_so_hold v (is_built method object) (write_facts program object field) built) gives.1 m in
      let two = forgets_hold _ gives.0 gives.2.0 v w written.others gives.2.1 one in
      let same = written.others (Slot value) refl in
      copies_hold _ _ _ gives.2.0 t w w (λ p apart. (refl, refl)) (record { int = written.int ∙ sym same.0; size = written.size ∙ sym same.1 }) gives.2.2 two;
  call = λ call s t v w same result m gives.
      let one = forgets_hold _ s gives.0 v w same gives.1 m in
      adds_hold _ gives.0 t w result gives.2 one;
  told = λ last slot answer s t v told m gives. adds_hold _ s t v told gives m;
  super = λ call s t v w same zero inherited m gives.
      let one = forgets_hold _ s gives.0 v w same gives.1 m in
      adds_hold _ gives.0 t w (all_hold_app w _ _ zero inherited) gives.2 one;
  proved = λ s v claim p m proved. proved_meets claim p s v proved m;
}
