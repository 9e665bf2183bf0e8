use Rattle.std.proofs.Common.{rules, subst, ◌≡◌, ◌∙◌, sym, None, string_bytes, bytes_eq}
use Rattle.std.specs.Map.{lookup}
use Rattle.std.specs.String.{string_eq}
use Rattle.indexmap.specs.IndexMap.{insert_entry}
use Rattle.indexmap.proofs.CallerLemmas.{insert_entry-new}
use Rattle.ix_names.proofs.locals.insert.Goals as goal

pub returns : goal.returns
returns c =
    let key = c.in_ok-key.key in
    let named : string_bytes key ≡ c.args.name.now = search rules in
    let new : lookup (λ k. bytes_eq (string_bytes key) (string_bytes k)) c.args.locals.now.entries ≡ None =
    subst (λ n. lookup (λ k. bytes_eq n (string_bytes k)) c.args.locals.now.entries ≡ None) (sym named) c.requires in
    let entries : c.insert.new.self.entries ≡ insert_entry string_eq c.args.locals.now.entries key c.args.local = search rules in
    record {
      key = key;
      named = named;
      last = entries ∙ insert_entry-new string_eq c.args.locals.now key c.args.local new;
    }
