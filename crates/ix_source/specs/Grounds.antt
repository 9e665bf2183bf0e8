-- What is asked of a ground, so that the plain form of the statements of its bodies keeps their meaning.
use Rattle.std.specs.Prelude.{◌≡◌, ◌≤◌, ◌<◌, ℕ, true, List, Option, None}
use Rattle.ix_meaning.specs.declared.note.Meaning.{Meaning}
use Rattle.ix_plain.specs.declared.body.Body.{Body}
use Rattle.ix_source.specs.Context.{Context, Members, Calls}
use Rattle.ix_source.specs.Along.{Setting, IsSet}
use Rattle.ix_source.specs.Calling.{CallsKept}
use Rattle.ix_source.specs.Running.{Ground, owner, standing}
use Rattle.ix_source.specs.SoundStatements.{AssignsOwn}

-- Where a body has `this`, slot 0 is no variable's.
abbrev pub Rooted : Ground → Body → Type 0
Rooted g body = g.has_this ≡ true → (owner g.site body.locals 0 ≡ None) × (0 < body.made.free)

module _ (g : Ground) (members : Members) (calls : Calls) (turns : ℕ) where
  -- the context of its source
  abbrev pub within : Context
  within = record { names = g.site.names; members = members; calls = calls; turns = turns }

  -- where a full expression of a body stands, whatever variables are in scope
  abbrev pub placed : Body → List ℕ → (ℕ → Option Meaning) → Setting
  placed body assigned owner = record (standing g body assigned) { owner = owner }

  pub record IsGround : Type 0 where
    pub places : members.place ≡ g.tables.place
    pub calls_kept : (body : Body) (assigned : List ℕ) (owner : ℕ → Option Meaning) → IsSet (placed body assigned owner) → CallsKept (placed body assigned owner) members calls turns
    -- no call nests deeper than an entry into a loop may make turns
    pub deep : g.depth ≤ turns
    pub assigns : AssignsOwn
