use Rattle.std.proofs.Common.{◌∙◌, [], ap, sym, subst, refl, option_map}
use Rattle.std.proofs.lemmas.Result.{IfOk-weaker}
use Rattle.ix_outside.specs.Outside.{bytes_under, add_last}
use Rattle.ix_outside.specs.Reading.{IsFront, IsAllOrPast}
use Rattle.ix_outside.proofs.PartsGiven.{add_opened, given_one, only_given, both_ok}
use Rattle.ix_outside.proofs.reading.read_file.Goals as goal

pub returns-in-Ok-clause-bytes : goal.returns-in-Ok-clause-bytes
returns-in-Ok-clause-bytes g c =
    let before = g.S.Source.given c.args.files.now in
    IfOk-weaker c.read_rest.result _ _ (λ read is. sym (given_one before (g.S.Source.given c.read_rest.new.files) read.items (is ∙ ap (add_last read.items) c.in-Ok.ensures.given ∙ add_opened read.items before)).0) c.read_rest.ensures.given

pub returns-in-Ok-clause-given : goal.returns-in-Ok-clause-given
returns-in-Ok-clause-given g c =
    let before = g.S.Source.given c.args.files.now in
    let front = c.read_rest.ensures.front in
    only_given before (g.S.Source.given c.read_rest.new.files) front.0 (front.1 ∙ ap (add_last front.0) c.in-Ok.ensures.given ∙ add_opened front.0 before)

pub returns-in-Ok-clause-whole : goal.returns-in-Ok-clause-whole
returns-in-Ok-clause-whole g c =
    let before = g.S.Source.given c.args.files.now in
    let name = c.args.name.now in
    IfOk-weaker c.read_rest.result _ _ (λ read both held told.
    let first = given_one before (g.S.Source.given c.read_rest.new.files) read.items (both.0 ∙ ap (add_last read.items) c.in-Ok.ensures.given ∙ add_opened read.items before) in
    subst (IsAllOrPast c.args.most (bytes_under name held)) (sym first.0) (both.1 (bytes_under name held) (c.in-Ok.ensures.left ∙ ap (option_map (bytes_under name)) told)))
    (both_ok c.read_rest.result _ _ c.read_rest.ensures.given c.read_rest.ensures.bytes)

pub returns-in-Ok-clause-front : goal.returns-in-Ok-clause-front
returns-in-Ok-clause-front g c = λ held told.
    let before = g.S.Source.given c.args.files.now in
    let name = c.args.name.now in
    let front = c.read_rest.ensures.front in
    let first = given_one before (g.S.Source.given c.read_rest.new.files) front.0 (front.1 ∙ ap (add_last front.0) c.in-Ok.ensures.given ∙ add_opened front.0 before) in
    subst (IsFront (bytes_under name held)) (sym first.0) (front.2 (bytes_under name held) (c.in-Ok.ensures.left ∙ ap (option_map (bytes_under name)) told))

pub returns-in-Err-Failed-clause-given : goal.returns-in-Err-Failed-clause-given
returns-in-Err-Failed-clause-given g c = only_given (g.S.Source.given c.args.files.now) _ [] c.open.ensures.given

pub returns-in-Err-Memory-clause-given : goal.returns-in-Err-Memory-clause-given
returns-in-Err-Memory-clause-given g c = only_given (g.S.Source.given c.args.files.now) _ [] c.open.ensures.given

pub returns-in-Err-Failed-clause-front : goal.returns-in-Err-Failed-clause-front
returns-in-Err-Failed-clause-front g c = λ held told. subst (IsFront (bytes_under c.args.name.now held)) (sym (given_one (g.S.Source.given c.args.files.now) _ [] c.open.ensures.given).0) refl

pub returns-in-Err-Memory-clause-front : goal.returns-in-Err-Memory-clause-front
returns-in-Err-Memory-clause-front g c = λ held told. subst (IsFront (bytes_under c.args.name.now held)) (sym (given_one (g.S.Source.given c.args.files.now) _ [] c.open.ensures.given).0) refl
