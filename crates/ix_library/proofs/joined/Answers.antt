use Rattle.std.proofs.Common.{[], ◌∷◌, ◌++◌, ap, ◌∙◌}
use Rattle.std.proofs.lemmas.List.{append_assoc}
use Rattle.ix_library.specs.Library as spec
use Rattle.ix_library.proofs.joined.Goals as goal

-- src/lib.rt
pub returns : goal.returns
returns c =
    let copied = c.in_ok-extend_from_slice.ensures.items ∙ ap (λ bytes. bytes ++ c.args.source.now) c.new-bytes.ensures.items in
    record {
      joined = c.in_ok-extend_from_slice-2.ensures.items
          ∙ ap (λ text. c.push.new.self.items ++ text) c.as_bytes.ensures.value
          ∙ ap (λ bytes. bytes ++ spec.library) (c.in_ok-push.ensures.items ∙ ap (λ bytes. bytes ++ 10 ∷ []) copied)
          ∙ append_assoc c.args.source.now (10 ∷ []) spec.library;
    }
