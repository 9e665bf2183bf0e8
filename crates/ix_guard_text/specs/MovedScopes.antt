-- Scopes in which fields and methods stand at their places moved: names mean the same in them.
use Rattle.ix_meaning.specs.declared.members.Field.{Field}
use Rattle.ix_meaning.specs.declared.members.Signature.{Signature}
use Rattle.ix_meaning.specs.Members.{World, Callee}
use Rattle.ix_meaning.specs.Scope.{Scope}
use Rattle.ix_meaning.specs.Source.{Place}
use Rattle.std.specs.Prelude.{map}
use Rattle.ix_guard_text.specs.Bare.{bare_maybe as maybe}
use Rattle.ix_guard_text.specs.Moved.{Move, moved_span}

module _ (move : Move) where
  abbrev pub moved_field : Field → Field
  moved_field f = record f { span = moved_span move f.span }

  abbrev pub moved_signature : Signature → Signature
  moved_signature s = record s { span = moved_span move s.span }

  abbrev pub moved_callee : Callee → Callee
  moved_callee c = record { number = c.number; signature = moved_signature c.signature }

  abbrev pub moved_world : World → World
  moved_world w = record {
    class = w.class;
    parent = w.parent;
    supers = w.supers;
    field = λ c name. maybe moved_field (w.field c name);
    method = λ c name. maybe moved_callee (w.method c name);
    constructor = λ c. maybe moved_callee (w.constructor c);
  }

  abbrev pub moved_scope : Scope → Scope
  moved_scope s = record s { world = moved_world s.world }

  -- where a class's members stand
  abbrev pub moved_place : Place → Place
  moved_place l = record { world = moved_world l.world; methods = map moved_signature l.methods; class = l.class; class_name = l.class_name; extends = l.extends }
