-- What a command is answered on, as the code reads it.
use Rattle.std.specs.Prelude.{◌≡◌, ◌⊎◌, ℕ, List, Option, Some}
use Rattle.ix_words.specs.Commands.{Command}
use Rattle.ix_replies.specs.Answer.{Answer, err_answer}
use Rattle.ix_replies.specs.Delivery.{IsOnly}
use Rattle.ix_replies.specs.declared.status.Status.TheVariants.{ReadFault}
use Rattle.ix_commands.specs.Answers.{IsVerdict}
use Rattle.ix_read_inputs.specs.Sources.{source_bytes}
use Rattle.ix_replies.specs.Said.{read_failed}
use Rattle.ix_read_inputs.specs.Opened.{WasUnread, last_of}
use Rattle.ix_commands.specs.Promises.{Promises}

-- The only right answer on what was handed out, with what is promised of it, or that on a file that was not read.
abbrev pub Obeys : (List ℕ → Type 0) → ℕ → ℕ → Command → List ℕ → Option (List ℕ) → Answer → Type 0
Obeys IsSure before after command given cert answer =
    (IsOnly (IsVerdict command (source_bytes command given) cert) answer × Promises command (source_bytes command given) cert answer)
    ⊎ ((unread : WasUnread IsSure before after (last_of (Some command) cert)) × (answer ≡ err_answer ReadFault (read_failed unread.file)))
