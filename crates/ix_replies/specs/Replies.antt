-- The answer that a reply is.
use Rattle.std.specs.Prelude.{◌≡◌, Result, Ok, Err, string_bytes}
use Rattle.std.specs.declared.alloc.AllocError.{AllocError}
use Rattle.ix_replies.specs.declared.written_reply.Reply.{Reply}
use Rattle.ix_replies.specs.Answer.{Answer}

-- a reply as its bytes
abbrev pub shown : Reply → Answer
shown reply = record { status = reply.status; out = reply.out.items; err = string_bytes reply.err }

-- what a reply says, where there was memory for it
abbrev pub Says : Result Reply AllocError → Answer → Type 0
Says (Ok reply) answer = answer ≡ shown reply
Says (Err error) answer = ⊥
