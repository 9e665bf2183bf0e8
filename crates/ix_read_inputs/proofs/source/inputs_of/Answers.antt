use Rattle.std.proofs.Common.{◌≡◌, ◌∙◌, ◌+◌, ℕ, List, Some, length, Err, ap, sym, subst, arith}
use Rattle.ix_outside.specs.Outside.{bytes_under, first_given, Rose}
use Rattle.ix_outside.specs.Reading.{IsFront, IsAllOrPast, most_bytes, most_certificate, most_turns}
use Rattle.ix_words.specs.Shown.{shown}
use Rattle.ix_front.specs.Found.{Found}
use Rattle.ix_front.specs.Findings.{seen}
use Rattle.ix_front.specs.Sources.{file_in, cert_in, source_bytes, NeedsCert}
use Rattle.ix_front.specs.Opened.{bytes_of, WasUnread}
use Rattle.ix_read_inputs.proofs.InputsRead.{ReadTwo, read_two, needs_cert, opened_some, of_cert, of_source, names_two, reads_two, cert_length}
use Rattle.ix_read_inputs.proofs.source.inputs_of.Goals as goal

pub returns-in-Err-Failed-read_file-clause-cert_failed : goal.returns-in-Err-Failed-read_file-clause-cert_failed
returns-in-Err-Failed-read_file-clause-cert_failed g c = λ failed.
    let command = shown c.args.command.now in
    let name = c.in-Some.name.now in
    let before = g.S.Source.given c.args.files.now in
    let after = g.S.Source.given c.source_of.new.files in
    let last = g.S.Source.given c.read_file.new.files in
    let two : ReadTwo command name before after last = read_two command (seen c.in-Ok-of_bytes.finding) name before after last c.in-Some.ensures c.source_of.ensures.given c.read_file.ensures.given in
    let rose : Rose (g.S.Source.faults c.source_of.new.files) (g.S.Source.faults c.read_file.new.files) = c.in-Err-Failed-read_file.ensures.rose (ap Err c.in-Err-Failed-read_file.field-0-is) in
    let unread : WasUnread (g.S.Source.IsSure c.args.files.now) (g.S.Source.faults c.args.files.now) (g.S.Source.faults c.read_file.new.files) (cert_in command) = record {
      file = name;
      file_is = two.cert;
      unsure = λ sure. c.in-Err-Failed-read_file.ensures.never (c.source_of.ensures.keeps_sure name sure) (ap Err c.in-Err-Failed-read_file.field-0-is);
      rose = subst (λ (n : ℕ). Rose n (g.S.Source.faults c.read_file.new.files)) c.in-Ok.ensures.calm rose;
    } in
    (unread, first_given after last, two.second)

pub returns-in-Err-Failed-read_file-clause-front : goal.returns-in-Err-Failed-read_file-clause-front
returns-in-Err-Failed-read_file-clause-front g c = λ file held named told.
    let command = shown c.args.command.now in
    let name = c.in-Some.name.now in
    let before = g.S.Source.given c.args.files.now in
    let after = g.S.Source.given c.source_of.new.files in
    let last = g.S.Source.given c.read_file.new.files in
    let two : ReadTwo command name before after last = read_two command (seen c.in-Ok-of_bytes.finding) name before after last c.in-Some.ensures c.source_of.ensures.given c.read_file.ensures.given in
    of_source command name before after last two (IsFront (bytes_under file held)) (c.source_of.ensures.front file held named told)

pub returns-in-Err-Failed-read_file-clause-each_takes : goal.returns-in-Err-Failed-read_file-clause-each_takes
returns-in-Err-Failed-read_file-clause-each_takes g c = λ held told.
    let command = shown c.args.command.now in
    let name = c.in-Some.name.now in
    let before = g.S.Source.given c.args.files.now in
    let after = g.S.Source.given c.source_of.new.files in
    let last = g.S.Source.given c.read_file.new.files in
    let two : ReadTwo command name before after last = read_two command (seen c.in-Ok-of_bytes.finding) name before after last c.in-Some.ensures c.source_of.ensures.given c.read_file.ensures.given in
    let between = c.read_file.ensures.before in
    reads_two command name before after last two (length (bytes_of (file_in command) held) + 1) (length (bytes_of (cert_in command) held) + 1)
    (g.S.Source.reads c.args.files.now) (g.S.Source.reads_before c.read_file.new.files) (g.S.Source.reads c.read_file.new.files)
    (omega (arith, between, c.source_of.ensures.each_takes held told))
    (omega (arith, between, c.read_file.ensures.each_takes held (c.source_of.ensures.files ∙ told), cert_length command name before after last two held))

pub returns-clause-front : goal.returns-clause-front
returns-clause-front g c = λ file held named told.
    let command = shown c.args.command.now in
    let name = c.in-Some.name.now in
    let before = g.S.Source.given c.args.files.now in
    let after = g.S.Source.given c.source_of.new.files in
    let last = g.S.Source.given c.read_file.new.files in
    let two : ReadTwo command name before after last = read_two command (seen c.in-Ok-of_bytes.finding) name before after last c.in-Some.ensures c.source_of.ensures.given c.read_file.ensures.given in
    of_source command name before after last two (IsFront (bytes_under file held)) (c.source_of.ensures.front file held named told)

pub returns-clause-each_takes : goal.returns-clause-each_takes
returns-clause-each_takes g c = λ held told.
    let command = shown c.args.command.now in
    let name = c.in-Some.name.now in
    let before = g.S.Source.given c.args.files.now in
    let after = g.S.Source.given c.source_of.new.files in
    let last = g.S.Source.given c.read_file.new.files in
    let two : ReadTwo command name before after last = read_two command (seen c.in-Ok-of_bytes.finding) name before after last c.in-Some.ensures c.source_of.ensures.given c.read_file.ensures.given in
    let between = c.read_file.ensures.before in
    reads_two command name before after last two (length (bytes_of (file_in command) held) + 1) (length (bytes_of (cert_in command) held) + 1)
    (g.S.Source.reads c.args.files.now) (g.S.Source.reads_before c.read_file.new.files) (g.S.Source.reads c.read_file.new.files)
    (omega (arith, between, c.source_of.ensures.each_takes held told))
    (omega (arith, between, c.read_file.ensures.each_takes held (c.source_of.ensures.files ∙ told), cert_length command name before after last two held))

pub returns-in-Ok-read_file-clause-names : goal.returns-in-Ok-read_file-clause-names
returns-in-Ok-read_file-clause-names g c =
    let command = shown c.args.command.now in
    let name = c.in-Some.name.now in
    let before = g.S.Source.given c.args.files.now in
    let after = g.S.Source.given c.source_of.new.files in
    let last = g.S.Source.given c.read_file.new.files in
    let two : ReadTwo command name before after last = read_two command (seen c.in-Ok-of_bytes.finding) name before after last c.in-Some.ensures c.source_of.ensures.given c.read_file.ensures.given in
    names_two command name before after last two (g.S.Source.names c.args.files.now) (g.S.Source.names c.source_of.new.files) (g.S.Source.names c.read_file.new.files) c.source_of.ensures.names c.read_file.ensures.names

pub returns-in-Ok-read_file-clause-front_cert : goal.returns-in-Ok-read_file-clause-front_cert
returns-in-Ok-read_file-clause-front_cert g c = λ cert text held named given told.
    let command = shown c.args.command.now in
    let name = c.in-Some.name.now in
    let before = g.S.Source.given c.args.files.now in
    let after = g.S.Source.given c.source_of.new.files in
    let last = g.S.Source.given c.read_file.new.files in
    let two : ReadTwo command name before after last = read_two command (seen c.in-Ok-of_bytes.finding) name before after last c.in-Some.ensures c.source_of.ensures.given c.read_file.ensures.given in
    of_cert command name before after last two IsFront held cert text named given (c.read_file.ensures.front held (c.source_of.ensures.files ∙ told))

pub returns-in-Ok-read_file-clause-turns : goal.returns-in-Ok-read_file-clause-turns
returns-in-Ok-read_file-clause-turns g c =
    let command = shown c.args.command.now in
    let name = c.in-Some.name.now in
    let before = g.S.Source.given c.args.files.now in
    let after = g.S.Source.given c.source_of.new.files in
    let last = g.S.Source.given c.read_file.new.files in
    let two : ReadTwo command name before after last = read_two command (seen c.in-Ok-of_bytes.finding) name before after last c.in-Some.ensures c.source_of.ensures.given c.read_file.ensures.given in
    let between = c.read_file.ensures.before in
    reads_two command name before after last two (most_turns most_bytes) (most_turns most_certificate)
    (g.S.Source.reads c.args.files.now) (g.S.Source.reads_before c.read_file.new.files) (g.S.Source.reads c.read_file.new.files)
    (omega (arith, between, c.source_of.ensures.turns)) (omega (arith, between, c.read_file.ensures.turns))

pub returns-in-Err-Failed-read_file-clause-names : goal.returns-in-Err-Failed-read_file-clause-names
returns-in-Err-Failed-read_file-clause-names g c =
    let command = shown c.args.command.now in
    let name = c.in-Some.name.now in
    let before = g.S.Source.given c.args.files.now in
    let after = g.S.Source.given c.source_of.new.files in
    let last = g.S.Source.given c.read_file.new.files in
    let two : ReadTwo command name before after last = read_two command (seen c.in-Ok-of_bytes.finding) name before after last c.in-Some.ensures c.source_of.ensures.given c.read_file.ensures.given in
    names_two command name before after last two (g.S.Source.names c.args.files.now) (g.S.Source.names c.source_of.new.files) (g.S.Source.names c.read_file.new.files) c.source_of.ensures.names c.read_file.ensures.names

pub returns-in-Err-Failed-read_file-clause-front_cert : goal.returns-in-Err-Failed-read_file-clause-front_cert
returns-in-Err-Failed-read_file-clause-front_cert g c = λ cert text held named given told.
    let command = shown c.args.command.now in
    let name = c.in-Some.name.now in
    let before = g.S.Source.given c.args.files.now in
    let after = g.S.Source.given c.source_of.new.files in
    let last = g.S.Source.given c.read_file.new.files in
    let two : ReadTwo command name before after last = read_two command (seen c.in-Ok-of_bytes.finding) name before after last c.in-Some.ensures c.source_of.ensures.given c.read_file.ensures.given in
    of_cert command name before after last two IsFront held cert text named given (c.read_file.ensures.front held (c.source_of.ensures.files ∙ told))

pub returns-in-Err-Failed-read_file-clause-turns : goal.returns-in-Err-Failed-read_file-clause-turns
returns-in-Err-Failed-read_file-clause-turns g c =
    let command = shown c.args.command.now in
    let name = c.in-Some.name.now in
    let before = g.S.Source.given c.args.files.now in
    let after = g.S.Source.given c.source_of.new.files in
    let last = g.S.Source.given c.read_file.new.files in
    let two : ReadTwo command name before after last = read_two command (seen c.in-Ok-of_bytes.finding) name before after last c.in-Some.ensures c.source_of.ensures.given c.read_file.ensures.given in
    let between = c.read_file.ensures.before in
    reads_two command name before after last two (most_turns most_bytes) (most_turns most_certificate)
    (g.S.Source.reads c.args.files.now) (g.S.Source.reads_before c.read_file.new.files) (g.S.Source.reads c.read_file.new.files)
    (omega (arith, between, c.source_of.ensures.turns)) (omega (arith, between, c.read_file.ensures.turns))

pub returns-clause-names : goal.returns-clause-names
returns-clause-names g c =
    let command = shown c.args.command.now in
    let name = c.in-Some.name.now in
    let before = g.S.Source.given c.args.files.now in
    let after = g.S.Source.given c.source_of.new.files in
    let last = g.S.Source.given c.read_file.new.files in
    let two : ReadTwo command name before after last = read_two command (seen c.in-Ok-of_bytes.finding) name before after last c.in-Some.ensures c.source_of.ensures.given c.read_file.ensures.given in
    names_two command name before after last two (g.S.Source.names c.args.files.now) (g.S.Source.names c.source_of.new.files) (g.S.Source.names c.read_file.new.files) c.source_of.ensures.names c.read_file.ensures.names

pub returns-clause-front_cert : goal.returns-clause-front_cert
returns-clause-front_cert g c = λ cert text held named given told.
    let command = shown c.args.command.now in
    let name = c.in-Some.name.now in
    let before = g.S.Source.given c.args.files.now in
    let after = g.S.Source.given c.source_of.new.files in
    let last = g.S.Source.given c.read_file.new.files in
    let two : ReadTwo command name before after last = read_two command (seen c.in-Ok-of_bytes.finding) name before after last c.in-Some.ensures c.source_of.ensures.given c.read_file.ensures.given in
    of_cert command name before after last two IsFront held cert text named given (c.read_file.ensures.front held (c.source_of.ensures.files ∙ told))

pub returns-clause-turns : goal.returns-clause-turns
returns-clause-turns g c =
    let command = shown c.args.command.now in
    let name = c.in-Some.name.now in
    let before = g.S.Source.given c.args.files.now in
    let after = g.S.Source.given c.source_of.new.files in
    let last = g.S.Source.given c.read_file.new.files in
    let two : ReadTwo command name before after last = read_two command (seen c.in-Ok-of_bytes.finding) name before after last c.in-Some.ensures c.source_of.ensures.given c.read_file.ensures.given in
    let between = c.read_file.ensures.before in
    reads_two command name before after last two (most_turns most_bytes) (most_turns most_certificate)
    (g.S.Source.reads c.args.files.now) (g.S.Source.reads_before c.read_file.new.files) (g.S.Source.reads c.read_file.new.files)
    (omega (arith, between, c.source_of.ensures.turns)) (omega (arith, between, c.read_file.ensures.turns))

pub returns-in-Ok-read_file-clause-front : goal.returns-in-Ok-read_file-clause-front
returns-in-Ok-read_file-clause-front g c = λ file held named told.
    let command = shown c.args.command.now in
    let name = c.in-Some.name.now in
    let before = g.S.Source.given c.args.files.now in
    let after = g.S.Source.given c.source_of.new.files in
    let last = g.S.Source.given c.read_file.new.files in
    let two : ReadTwo command name before after last = read_two command (seen c.in-Ok-of_bytes.finding) name before after last c.in-Some.ensures c.source_of.ensures.given c.read_file.ensures.given in
    of_source command name before after last two (IsFront (bytes_under file held)) (c.source_of.ensures.front file held named told)

pub returns-in-Ok-read_file-clause-whole : goal.returns-in-Ok-read_file-clause-whole
returns-in-Ok-read_file-clause-whole g c = λ file held named told.
    let command = shown c.args.command.now in
    let name = c.in-Some.name.now in
    let before = g.S.Source.given c.args.files.now in
    let after = g.S.Source.given c.source_of.new.files in
    let last = g.S.Source.given c.read_file.new.files in
    let two : ReadTwo command name before after last = read_two command (seen c.in-Ok-of_bytes.finding) name before after last c.in-Some.ensures c.source_of.ensures.given c.read_file.ensures.given in
    of_source command name before after last two (IsAllOrPast most_bytes (bytes_under file held)) (c.in-Ok.ensures.whole file held named told)

pub returns-in-Ok-read_file-clause-whole_cert : goal.returns-in-Ok-read_file-clause-whole_cert
returns-in-Ok-read_file-clause-whole_cert g c = λ cert text held named given told.
    let command = shown c.args.command.now in
    let name = c.in-Some.name.now in
    let before = g.S.Source.given c.args.files.now in
    let after = g.S.Source.given c.source_of.new.files in
    let last = g.S.Source.given c.read_file.new.files in
    let two : ReadTwo command name before after last = read_two command (seen c.in-Ok-of_bytes.finding) name before after last c.in-Some.ensures c.source_of.ensures.given c.read_file.ensures.given in
    of_cert command name before after last two (IsAllOrPast most_certificate) held cert text named given (c.in-Ok-read_file.ensures.whole held (c.source_of.ensures.files ∙ told))

pub returns-in-Ok-read_file-clause-bytes : goal.returns-in-Ok-read_file-clause-bytes
returns-in-Ok-read_file-clause-bytes g c =
    let command = shown c.args.command.now in
    let name = c.in-Some.name.now in
    let before = g.S.Source.given c.args.files.now in
    let after = g.S.Source.given c.source_of.new.files in
    let last = g.S.Source.given c.read_file.new.files in
    let two : ReadTwo command name before after last = read_two command (seen c.in-Ok-of_bytes.finding) name before after last c.in-Some.ensures c.source_of.ensures.given c.read_file.ensures.given in
    of_source command name before after last two (λ given. c.in-Ok.bytes.items ≡ source_bytes command given) c.in-Ok.ensures.bytes

pub returns-in-Ok-read_file-clause-cert : goal.returns-in-Ok-read_file-clause-cert
returns-in-Ok-read_file-clause-cert g c =
    let command = shown c.args.command.now in
    let name = c.in-Some.name.now in
    let before = g.S.Source.given c.args.files.now in
    let after = g.S.Source.given c.source_of.new.files in
    let last = g.S.Source.given c.read_file.new.files in
    let two : ReadTwo command name before after last = read_two command (seen c.in-Ok-of_bytes.finding) name before after last c.in-Some.ensures c.source_of.ensures.given c.read_file.ensures.given in
    ap (λ (text : List ℕ). Some text) c.in-Ok-read_file.ensures.bytes ∙ sym two.second

pub returns-in-Ok-read_file-clause-opened : goal.returns-in-Ok-read_file-clause-opened
returns-in-Ok-read_file-clause-opened g c =
    let command = shown c.args.command.now in
    let name = c.in-Some.name.now in
    let before = g.S.Source.given c.args.files.now in
    let after = g.S.Source.given c.source_of.new.files in
    let last = g.S.Source.given c.read_file.new.files in
    let two : ReadTwo command name before after last = read_two command (seen c.in-Ok-of_bytes.finding) name before after last c.in-Some.ensures c.source_of.ensures.given c.read_file.ensures.given in
    opened_some _ _ (first_given after last) two.second

pub returns-in-Ok-read_file-clause-each_takes : goal.returns-in-Ok-read_file-clause-each_takes
returns-in-Ok-read_file-clause-each_takes g c = λ held told.
    let command = shown c.args.command.now in
    let name = c.in-Some.name.now in
    let before = g.S.Source.given c.args.files.now in
    let after = g.S.Source.given c.source_of.new.files in
    let last = g.S.Source.given c.read_file.new.files in
    let two : ReadTwo command name before after last = read_two command (seen c.in-Ok-of_bytes.finding) name before after last c.in-Some.ensures c.source_of.ensures.given c.read_file.ensures.given in
    let between = c.read_file.ensures.before in
    reads_two command name before after last two (length (bytes_of (file_in command) held) + 1) (length (bytes_of (cert_in command) held) + 1)
    (g.S.Source.reads c.args.files.now) (g.S.Source.reads_before c.read_file.new.files) (g.S.Source.reads c.read_file.new.files)
    (omega (arith, between, c.source_of.ensures.each_takes held told))
    (omega (arith, between, c.read_file.ensures.each_takes held (c.source_of.ensures.files ∙ told), cert_length command name before after last two held))

pub returns-in-Ok-read_file-clause-asks : goal.returns-in-Ok-read_file-clause-asks
returns-in-Ok-read_file-clause-asks g c = λ text given.
    let command = shown c.args.command.now in
    let name = c.in-Some.name.now in
    let before = g.S.Source.given c.args.files.now in
    let after = g.S.Source.given c.source_of.new.files in
    let last = g.S.Source.given c.read_file.new.files in
    let two : ReadTwo command name before after last = read_two command (seen c.in-Ok-of_bytes.finding) name before after last c.in-Some.ensures c.source_of.ensures.given c.read_file.ensures.given in
    let found : Found (source_bytes command (first_given before after)) (seen c.in-Ok-of_bytes.finding) = subst (λ bytes. Found bytes (seen c.in-Ok-of_bytes.finding)) (c.deref.ensures.value ∙ c.in-Ok.ensures.bytes) c.in-Ok-of_bytes.ensures.right in
    of_source command name before after last two (NeedsCert command) (needs_cert command (first_given before after) (seen c.in-Ok-of_bytes.finding) name (sym c.in-Some.ensures) found)

pub returns-in-Err-Failed-read_file-clause-asks : goal.returns-in-Err-Failed-read_file-clause-asks
returns-in-Err-Failed-read_file-clause-asks g c = λ text given.
    let command = shown c.args.command.now in
    let name = c.in-Some.name.now in
    let before = g.S.Source.given c.args.files.now in
    let after = g.S.Source.given c.source_of.new.files in
    let last = g.S.Source.given c.read_file.new.files in
    let two : ReadTwo command name before after last = read_two command (seen c.in-Ok-of_bytes.finding) name before after last c.in-Some.ensures c.source_of.ensures.given c.read_file.ensures.given in
    let found : Found (source_bytes command (first_given before after)) (seen c.in-Ok-of_bytes.finding) = subst (λ bytes. Found bytes (seen c.in-Ok-of_bytes.finding)) (c.deref.ensures.value ∙ c.in-Ok.ensures.bytes) c.in-Ok-of_bytes.ensures.right in
    of_source command name before after last two (NeedsCert command) (needs_cert command (first_given before after) (seen c.in-Ok-of_bytes.finding) name (sym c.in-Some.ensures) found)

pub returns-clause-asks : goal.returns-clause-asks
returns-clause-asks g c = λ text given.
    let command = shown c.args.command.now in
    let name = c.in-Some.name.now in
    let before = g.S.Source.given c.args.files.now in
    let after = g.S.Source.given c.source_of.new.files in
    let last = g.S.Source.given c.read_file.new.files in
    let two : ReadTwo command name before after last = read_two command (seen c.in-Ok-of_bytes.finding) name before after last c.in-Some.ensures c.source_of.ensures.given c.read_file.ensures.given in
    let found : Found (source_bytes command (first_given before after)) (seen c.in-Ok-of_bytes.finding) = subst (λ bytes. Found bytes (seen c.in-Ok-of_bytes.finding)) (c.deref.ensures.value ∙ c.in-Ok.ensures.bytes) c.in-Ok-of_bytes.ensures.right in
    of_source command name before after last two (NeedsCert command) (needs_cert command (first_given before after) (seen c.in-Ok-of_bytes.finding) name (sym c.in-Some.ensures) found)

pub returns-in-Ok-read_file-clause-first : goal.returns-in-Ok-read_file-clause-first
returns-in-Ok-read_file-clause-first g c = λ file text held named given told.
    let command = shown c.args.command.now in
    let name = c.in-Some.name.now in
    let before = g.S.Source.given c.args.files.now in
    let after = g.S.Source.given c.source_of.new.files in
    let last = g.S.Source.given c.read_file.new.files in
    let two : ReadTwo command name before after last = read_two command (seen c.in-Ok-of_bytes.finding) name before after last c.in-Some.ensures c.source_of.ensures.given c.read_file.ensures.given in
    of_source command name before after last two (IsAllOrPast most_bytes (bytes_under file held)) (c.in-Ok.ensures.whole file held named told)

pub returns-in-Err-Failed-read_file-clause-first : goal.returns-in-Err-Failed-read_file-clause-first
returns-in-Err-Failed-read_file-clause-first g c = λ file text held named given told.
    let command = shown c.args.command.now in
    let name = c.in-Some.name.now in
    let before = g.S.Source.given c.args.files.now in
    let after = g.S.Source.given c.source_of.new.files in
    let last = g.S.Source.given c.read_file.new.files in
    let two : ReadTwo command name before after last = read_two command (seen c.in-Ok-of_bytes.finding) name before after last c.in-Some.ensures c.source_of.ensures.given c.read_file.ensures.given in
    of_source command name before after last two (IsAllOrPast most_bytes (bytes_under file held)) (c.in-Ok.ensures.whole file held named told)

pub returns-clause-first : goal.returns-clause-first
returns-clause-first g c = λ file text held named given told.
    let command = shown c.args.command.now in
    let name = c.in-Some.name.now in
    let before = g.S.Source.given c.args.files.now in
    let after = g.S.Source.given c.source_of.new.files in
    let last = g.S.Source.given c.read_file.new.files in
    let two : ReadTwo command name before after last = read_two command (seen c.in-Ok-of_bytes.finding) name before after last c.in-Some.ensures c.source_of.ensures.given c.read_file.ensures.given in
    of_source command name before after last two (IsAllOrPast most_bytes (bytes_under file held)) (c.in-Ok.ensures.whole file held named told)
