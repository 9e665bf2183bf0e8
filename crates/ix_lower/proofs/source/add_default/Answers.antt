use Rattle.std.proofs.Common.{◌∙◌, ◌++◌, ◌∷◌, [], ◌≡◌, Err, rules, sym}
use Rattle.ix_plain.specs.Program.{default_of}
use Rattle.ix_lower.specs.Homes.{shown_tables, shown_home}
use Rattle.ix_lower.proofs.OneByOne.{default_not_needed, default_pushed, no_limit}
use Rattle.ix_lower.proofs.source.add_default.Goals as goal

pub returns-then-has_constructor : goal.returns-then-has_constructor
returns-then-has_constructor c = record {
  limit = search rules;
  methods = default_not_needed (shown_tables c.args.tables.now) (shown_home c.args.home.now) c.args.span c.args.methods.now (sym c.has_constructor.ensures ∙ c.if-has_constructor.true);
}

pub returns : goal.returns
returns c = record {
  limit = λ which place is.
      no_limit (λ _. c.push_method.new.methods ≡ c.args.methods.now ++ c.in_ok-method.method ∷ []) c.push_method.result which place (default_of (shown_tables c.args.tables.now) (shown_home c.args.home.now) c.args.span c.args.methods.now) (Err (record { which = which; place = place })) c.push_method.ensures is;
  methods =
      default_pushed (shown_tables c.args.tables.now) (shown_home c.args.home.now) c.args.span c.args.methods.now c.in_ok-method.method c.push_method.new.methods c.push_method.result (sym c.has_constructor.ensures ∙ c.if-has_constructor.false)
      c.in_ok-method.ensures.method c.push_method.ensures;
}
