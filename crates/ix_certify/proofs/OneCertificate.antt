-- The least labels of a program have one certificate in a profile.
use Rattle.std.proofs.Common.{◌≡◌, ℕ, suc, List, [], ◌∷◌, length, slice_get, unwrap_or, Some, arith, refl, sym, subst, ◌∙◌}
use Rattle.std.proofs.lemmas.Option.{slice_get_within}
use Rattle.ix_core.specs.declared.fact.Profile.{Profile}
use Rattle.ix_core.specs.declared.program.Method.{Method}
use Rattle.ix_core.specs.declared.program.Program.{Program}
use Rattle.ix_core.specs.Tables.{method_at, no_method}
use Rattle.ix_facts.specs.Stores.{Stored, SayTheSame}
use Rattle.ix_cert.specs.SameLabels.{SameStores, SameForMethod, SameLabels}
use Rattle.ix_cert.proofs.OneText.{one_text}
use Rattle.ix_certify.specs.Certificates.{AreLeastOf, IsLeastCertificate}

same_stores : (stores others : List Stored) → length stores ≡ length others → ((loop : ℕ) (one two : Stored) → slice_get stores loop ≡ Some one → slice_get others loop ≡ Some two → SayTheSame one two) → SameStores stores others
same_stores [] [] many same = tt
same_stores [] (other ∷ others) many same = absurd (omega (arith, many))
same_stores (store ∷ stores) [] many same = absurd (omega (arith, many))
same_stores (store ∷ stores) (other ∷ others) many same = (same 0 store other refl refl, same_stores stores others (omega (arith, many)) (λ loop one two. same (suc loop) one two))

same_labels : (methods : List Method) (labels others : List (List Stored)) → length labels ≡ length methods → length others ≡ length methods
    → ((number : ℕ) (stores more : List Stored) → slice_get labels number ≡ Some stores → slice_get others number ≡ Some more → SameForMethod (unwrap_or (slice_get methods number) no_method) stores more)
    → SameLabels methods labels others
same_labels [] [] [] one two same = tt
same_labels [] [] (more ∷ others) one two same = absurd (omega (arith, two))
same_labels [] (stores ∷ labels) others one two same = absurd (omega (arith, one))
same_labels (method ∷ methods) [] others one two same = absurd (omega (arith, one))
same_labels (method ∷ methods) (stores ∷ labels) [] one two same = absurd (omega (arith, two))
same_labels (method ∷ methods) (stores ∷ labels) (more ∷ others) one two same =
    (same 0 stores more refl refl, same_labels methods labels others (omega (arith, one)) (omega (arith, two)) (λ number ss ms. same (suc number) ss ms))

-- least labels say the same
same_least : (program : Program) (profile : Profile) (number : ℕ) (stores others : List Stored) → AreLeastOf program profile number stores → AreLeastOf program profile number others → SameForMethod (method_at program number) stores others
same_least program profile number stores others first second =
    let many : length stores ≡ length others = first.each ∙ sym second.each in
    record {
      count = first.each;
      other = second.each;
      same = λ has. same_stores stores others many (λ loop one two is also.
          let inside = slice_get_within stores loop one is in
          let within = slice_get_within others loop two also in
          let own : Some one ≡ Some (first.labels loop) = sym is ∙ first.there loop inside in
          let other : Some two ≡ Some (second.labels loop) = sym also ∙ second.there loop within in
          let here : first.labels loop ≡ one = cc in
          let there : second.labels loop ≡ two = cc in
          subst (λ s. SayTheSame s two) here (subst (λ s. SayTheSame (first.labels loop) s) there (first.least.1 second.labels second.least.0 loop inside, second.least.1 first.labels first.least.0 loop within)));
    }

pub one_certificate : (program : Program) (profile : Profile) (text other : List ℕ) → IsLeastCertificate program profile text → IsLeastCertificate program profile other → text ≡ other
one_certificate program profile text other (labels, least, is) (others, second, also) =
    one_text program profile labels others text other is also
    (same_labels program.methods labels others least.each second.each (λ number stores more here there. same_least program profile number stores more (least.of number stores here) (second.of number more there)))
