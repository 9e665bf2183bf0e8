use Rattle.std.proofs.Common.{◌≡◌, drop}
use Rattle.ix_errors.specs.Parameters.{some_post_names_param}
use Rattle.ix_errors.proofs.parameters.some_post_names_param.Given as goal

abbrev pub invariant-loop-post : goal.invariant-loop-post
invariant-loop-post l = some_post_names_param l.number (drop l.post-index l.posts) ≡ some_post_names_param l.number l.posts
