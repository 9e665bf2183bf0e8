-- What holds of the places in code holds of those in the tasks of a frame that runs it.
use Rattle.ix_text.specs.declared.span.Span.{Span}
use Rattle.ix_core.specs.Code.{Code, End, Do, If, Break, Continue, Return, Throw, Loop}
use Rattle.ix_core.specs.Tasks.{Tasks, Empty, Run, Ask, Decide, DecideTruth, Head, Again, Out, code_then, followed_by, behind_loop, next_turn}
use Rattle.ix_core.specs.CodePlaces.{CodePlaces, AskedPlaces}

module _ (P : Span → Type 0) where
  abbrev pub TaskPlaces : Tasks → Type 0
  TaskPlaces Empty = Unit {0}
  TaskPlaces (Run code tasks) = CodePlaces P code × TaskPlaces tasks
  TaskPlaces (Ask asked first second tasks) = AskedPlaces P asked × TaskPlaces first × TaskPlaces second × TaskPlaces tasks
  TaskPlaces (Decide test first second tasks) = TaskPlaces first × TaskPlaces second × TaskPlaces tasks
  TaskPlaces (DecideTruth slot first second tasks) = TaskPlaces first × TaskPlaces second × TaskPlaces tasks
  TaskPlaces (Head asked body next tasks) = AskedPlaces P asked × CodePlaces P body × CodePlaces P next × TaskPlaces tasks
  TaskPlaces (Again asked body next tasks) = AskedPlaces P asked × CodePlaces P body × CodePlaces P next × TaskPlaces tasks
  TaskPlaces (Out tasks) = TaskPlaces tasks

  pub then_places : (code : Code) (tasks : Tasks) → CodePlaces P code → TaskPlaces tasks → TaskPlaces (code_then code tasks)
  then_places End tasks c t = t
  then_places (Do op code) tasks c t = (c, t)
  then_places (If asked first second code) tasks c t = (c, t)
  then_places (Break code) tasks c t = (c, t)
  then_places (Continue code) tasks c t = (c, t)
  then_places (Return value span code) tasks c t = (c, t)
  then_places (Throw name span code) tasks c t = (c, t)
  then_places (Loop test_first asked body next number scope code) tasks c t = (c, t)

  pub followed_places : (first later : Tasks) → TaskPlaces first → TaskPlaces later → TaskPlaces (followed_by first later)
  followed_places Empty later a b = b
  followed_places (Run code tasks) later a b = (a.0, followed_places tasks later a.1 b)
  followed_places (Ask asked first second tasks) later a b = (a.0, a.1, a.2, followed_places tasks later a.3 b)
  followed_places (Decide test first second tasks) later a b = (a.0, a.1, followed_places tasks later a.2 b)
  followed_places (DecideTruth slot first second tasks) later a b = (a.0, a.1, followed_places tasks later a.2 b)
  followed_places (Head asked body next tasks) later a b = (a.0, a.1, a.2, followed_places tasks later a.3 b)
  followed_places (Again asked body next tasks) later a b = (a.0, a.1, a.2, followed_places tasks later a.3 b)
  followed_places (Out tasks) later a b = followed_places tasks later a b

  pub behind_places : (tasks : Tasks) → TaskPlaces tasks → TaskPlaces (behind_loop tasks)
  behind_places Empty a = tt
  behind_places (Run code tasks) a = behind_places tasks a.1
  behind_places (Ask asked first second tasks) a = behind_places tasks a.3
  behind_places (Decide test first second tasks) a = behind_places tasks a.2
  behind_places (DecideTruth slot first second tasks) a = behind_places tasks a.2
  behind_places (Head asked body next tasks) a = behind_places tasks a.3
  behind_places (Again asked body next tasks) a = behind_places tasks a.3
  behind_places (Out tasks) a = a

  pub turn_places : (tasks : Tasks) → TaskPlaces tasks → TaskPlaces (next_turn tasks)
  turn_places Empty a = tt
  turn_places (Run code tasks) a = turn_places tasks a.1
  turn_places (Ask asked first second tasks) a = turn_places tasks a.3
  turn_places (Decide test first second tasks) a = turn_places tasks a.2
  turn_places (DecideTruth slot first second tasks) a = turn_places tasks a.2
  turn_places (Head asked body next tasks) a = turn_places tasks a.3
  turn_places (Again asked body next tasks) a = a
  turn_places (Out tasks) a = turn_places tasks a
