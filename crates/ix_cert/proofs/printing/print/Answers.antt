use Rattle.std.proofs.Common.{◌≡◌, ◌++◌, codes, map, length, ap, sym, ◌∙◌, subst}
use Rattle.std.specs.Prelude.{string_bytes}
use Rattle.ix_store.specs.StoredFacts.{stored}
use Rattle.ix_cert.specs.Lines.{ended}
use Rattle.ix_core.specs.FirstLine.{profile_text}
use Rattle.ix_cert.specs.Adding.{Adds, AreMethodsText}
use Rattle.ix_cert.proofs.Parts.{length_map, same_length, whole_text}
use Rattle.ix_cert.proofs.printing.print.Goals as goal

pub add_methods-requires : goal.add_methods-requires
add_methods-requires c =
    let program = c.args.program.now in
    let labels = c.args.labels.now in
    sym (length_map (map stored) labels) ∙ (same_length (length program.fields) program.methods (map (map stored) labels) c.requires ∙ sym (ap length c.as_slice.ensures))

pub returns : goal.returns
returns c =
    let program = c.args.program.now in
    let labels = map (map stored) c.args.labels.now in
    let first = string_bytes c.add_profile.new.text in
    let second = string_bytes c.add_methods.new.text in
    let head = c.in_ok-add_profile.ensures ∙ ap (λ xs. xs ++ ended (codes "certificate 1 " ++ profile_text c.args.profile)) c.new-text.ensures.bytes in
    let adds = subst (λ methods. Adds (AreMethodsText methods labels) first second) c.as_slice.ensures c.in_ok-add_methods.ensures in
    let end : c.into_bytes.result.items ≡ second ++ codes "end\n" = ap (λ v. v.items) c.into_bytes.ensures.value ∙ c.in_ok-push_str.ensures.bytes in
    whole_text program c.args.profile labels first second c.into_bytes.result.items head adds end c.requires
