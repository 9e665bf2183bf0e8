-- The last of frames that have room, and one more.
use Rattle.std.proofs.Common.{◌≡◌, List, [], ◌∷◌, ◌++◌, map, subst, sym, ap, ◌∙◌}
use Rattle.std.proofs.lemmas.List.{reverse-append}
use Rattle.ix_machine_state.specs.declared.frames.Frame.{Frame}
use Rattle.ix_machine_state.specs.declared.pool.Waiting.{Waiting}
use Rattle.ix_machine_state.specs.declared.room.Room.{Room}
use Rattle.ix_machine_state.specs.Waiting.{HasRoom, AllHaveRoom, AllWithRoom, waiting_of, waits_of}

last : (room : Room) (frames : List Frame) (frame : Frame) → AllHaveRoom room (frames ++ frame ∷ []) → AllHaveRoom room frames × HasRoom room frame
last room [] frame fit = (tt, fit.0)
last room (first ∷ frames) frame fit = let rest = last room frames frame fit.1 in ((fit.0, rest.0), rest.1)

pub last_frame : (room : Room) (all frames : List Frame) (frame : Frame) → all ≡ frames ++ frame ∷ [] → AllHaveRoom room all → AllHaveRoom room frames × HasRoom room frame
last_frame room all frames frame is fit = last room frames frame (subst (λ xs. AllHaveRoom room xs) is fit)

more : (room : Room) (frames : List Frame) (frame : Frame) → AllHaveRoom room frames → HasRoom room frame → AllHaveRoom room (frames ++ frame ∷ [])
more room [] frame fit new = (new, tt)
more room (first ∷ frames) frame fit new = (fit.0, more room frames frame fit.1 new)

pub more_frames : (room : Room) (all frames : List Frame) (frame : Frame) → all ≡ frames ++ frame ∷ [] → AllHaveRoom room frames → HasRoom room frame → AllHaveRoom room all
more_frames room all frames frame is fit new = subst (λ xs. AllHaveRoom room xs) (sym is) (more room frames frame fit new)

last_wait : (room : Room) (below : List Waiting) (waiting : Waiting) → AllWithRoom room (below ++ waiting ∷ []) → AllWithRoom room below × HasRoom room waiting.frame
last_wait room [] waiting fit = (tt, fit.0)
last_wait room (first ∷ below) waiting fit = let rest = last_wait room below waiting fit.1 in ((fit.0, rest.0), rest.1)

pub last_waiting : (room : Room) (all below : List Waiting) (waiting : Waiting) → all ≡ below ++ waiting ∷ [] → AllWithRoom room all → AllWithRoom room below × HasRoom room waiting.frame
last_waiting room all below waiting is fit = last_wait room below waiting (subst (λ xs. AllWithRoom room xs) is fit)

more_wait : (room : Room) (below : List Waiting) (waiting : Waiting) → AllWithRoom room below → HasRoom room waiting.frame → AllWithRoom room (below ++ waiting ∷ [])
more_wait room [] waiting fit new = (new, tt)
more_wait room (first ∷ below) waiting fit new = (fit.0, more_wait room below waiting fit.1 new)

pub more_waiting : (room : Room) (all below : List Waiting) (waiting : Waiting) → all ≡ below ++ waiting ∷ [] → AllWithRoom room below → HasRoom room waiting.frame → AllWithRoom room all
more_waiting room all below waiting is fit new = subst (λ xs. AllWithRoom room xs) (sym is) (more_wait room below waiting fit new)

-- the last that waits comes first
pub waits-snoc : (all below : List Waiting) (waiting : Waiting) → all ≡ below ++ waiting ∷ [] → waits_of all ≡ waiting_of waiting ∷ waits_of below
waits-snoc all below waiting is = ap waits_of is ∙ ap (map waiting_of) (reverse-append below (waiting ∷ []))
