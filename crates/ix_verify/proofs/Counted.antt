-- A certificate gives a store for each loop.
use Rattle.std.proofs.Common.{◌≡◌, ℕ, suc, List, [], ◌∷◌, length, map, refl, sym, ap, ◌∙◌}
use Rattle.std.proofs.lemmas.List.{length-map}
use Rattle.ix_core.specs.declared.fact.Profile.{Profile}
use Rattle.ix_core.specs.declared.program.Method.{Method}
use Rattle.ix_core.specs.declared.program.Program.{Program}
use Rattle.ix_store.specs.declared.store.Store.{Store}
use Rattle.ix_store.specs.StoredFacts.{stored}
use Rattle.ix_cert.specs.Labellings.{MethodsText, IsLabelling, loops_of}

each_has : (fields number : ℕ) (methods : List Method) (labels : List (List Store)) (text rest : List ℕ) → MethodsText fields number methods (map (map stored) labels) text rest → map length labels ≡ map loops_of methods
each_has fields number [] [] text rest t = refl
each_has fields number [] (stores ∷ labels) text rest t = absurd t
each_has fields number (method ∷ methods) [] text rest t = absurd t
each_has fields number (method ∷ methods) (stores ∷ labels) text rest t =
    let here : length stores ≡ loops_of method = sym (length-map stores stored) ∙ t.1.0 in
    let later = each_has fields (suc number) methods labels t.0 rest t.2 in
    ap (λ (n : ℕ). n ∷ map length labels) here ∙ ap (λ (ns : List ℕ). loops_of method ∷ ns) later

pub given : (program : Program) (profile : Profile) (labels : List (List Store)) (text : List ℕ) → IsLabelling program profile (map (map stored) labels) text → map length labels ≡ map loops_of program.methods
given program profile labels text l = each_has (length program.fields) 0 program.methods labels l.0 _ l.2
