-- Pieces of a body with guards, and how they are put together.
use Rattle.std.proofs.Common.{◌≡◌, ℕ, false, List, refl, sym, ◌∙◌, subst}
use Rattle.ix_text.specs.declared.span.Span.{Span}
use Rattle.ix_core.specs.declared.op.Op.{Op}
use Rattle.ix_core.specs.declared.op.OpKind.{OpKind}
use Rattle.ix_core.specs.declared.op.Test.{Test}
use Rattle.ix_core.specs.Code.{Code, End, Do, If, Break, Continue, Return, Throw, Loop, Condition, Known as Certain, Compare, Truth, Both, Either, Opposite}
use Rattle.ix_guard_promise.specs.Known.{Known, Nowhere, Unknown, Inside, Says, writes, behind, IsInside}
use Rattle.ix_guard_promise.specs.Guards.{Guarded, GuardedAsked, IsTest, outside, ends, does, chooses, breaks, continues, returns, throws, loops, tests, certain, compares, reads, both, either, opposite}
use Rattle.ix_guard_promise.specs.Pieces.{EachOp, EachAsked, HasNoLoop, AsksNoLoop, IsElsewhere, Keeps, followed}
use Rattle.ix_guard_promise.proofs.Saying.{says_itself, says_unknown}

-- ---- what says more

pub says_more : (one two three : Known) → Says one two → Says two three → Says one three
says_more Nowhere two three first second = tt
says_more Unknown Nowhere three first second = absurd first
says_more Unknown Unknown three first second = second
says_more Unknown (Inside array index) three first second = absurd first
says_more (Inside array index) Nowhere three first second = absurd first
says_more (Inside array index) Unknown Nowhere first second = absurd second
says_more (Inside array index) Unknown Unknown first second = tt
says_more (Inside array index) Unknown (Inside other at) first second = absurd second
says_more (Inside array index) (Inside other at) Nowhere first second = absurd second
says_more (Inside array index) (Inside other at) Unknown first second = tt
says_more (Inside array index) (Inside other at) (Inside third place) first second = (first.0 ∙ second.0, first.1 ∙ second.1)

pub behind_says : (kind : OpKind) (known other : Known) → Says known other → Says (behind kind known) (behind kind other)
behind_says kind Nowhere other says = tt
behind_says kind Unknown Nowhere says = absurd says
behind_says kind Unknown Unknown says = tt
behind_says kind Unknown (Inside array index) says = absurd says
behind_says kind (Inside array index) Nowhere says = absurd says
behind_says kind (Inside array index) Unknown says = says_unknown (behind kind (Inside array index))
behind_says kind (Inside array index) (Inside other at) says =
    subst (λ a. Says (behind kind (Inside array index)) (behind kind (Inside a at))) says.0
    (subst (λ i. Says (behind kind (Inside array index)) (behind kind (Inside array i))) says.1 (says_itself (behind kind (Inside array index))))

inside_says : (known other : Known) (access : ℕ × ℕ) → Says known other → IsInside other access → IsInside known access
inside_says Nowhere other access says inside = tt
inside_says Unknown Nowhere access says inside = absurd says
inside_says Unknown Unknown access says inside = inside
inside_says Unknown (Inside array index) access says inside = absurd says
inside_says (Inside array index) Nowhere access says inside = absurd says
inside_says (Inside array index) Unknown access says inside = absurd inside
inside_says (Inside array index) (Inside other at) access says inside = (says.0 ∙ inside.0, says.1 ∙ inside.1)

module _ (place : Span) where
  mutual
    -- where more is known
    pub guarded_more : (code : Code) (strong before end : Known) → Says strong before → Guarded place before code end → Guarded place strong code end
    guarded_more _ strong _ _ says (ends before end says_end) = ends strong end (says_more strong before end says says_end)
    guarded_more _ strong _ _ says (does done rest before end guarded next) =
        does done rest strong end (λ access is at. inside_says strong before access says (guarded access is at))
        (guarded_more rest (behind done.kind strong) (behind done.kind before) end (behind_says done.kind strong before says) next)
    guarded_more _ strong _ _ says (chooses asked first second rest before holds fails joined end question one two next) =
        chooses asked first second rest strong holds fails joined end (asked_more asked strong before holds fails says question) one two next
    guarded_more _ strong _ _ says (breaks rest before end next) = breaks rest strong end next
    guarded_more _ strong _ _ says (continues rest before end next) = continues rest strong end next
    guarded_more _ strong _ _ says (returns value span rest before end next) = returns value span rest strong end next
    guarded_more _ strong _ _ says (throws name span rest before end next) = throws name span rest strong end next
    guarded_more _ strong _ _ says (loops test_first asked body turn number scope rest before end question one two next) =
        loops test_first asked body turn number scope rest strong end question one two next

    pub asked_more : (asked : Condition) (strong before holds fails : Known) → Says strong before → GuardedAsked place before asked holds fails → GuardedAsked place strong asked holds fails
    asked_more _ strong _ _ _ says (tests array index null_op zero_op length_op is_null is_negative is_too_high before test) = tests array index null_op zero_op length_op is_null is_negative is_too_high strong test
    asked_more _ strong _ _ _ says (certain answer before after says_after) = certain answer strong after (says_more strong before after says says_after)
    asked_more _ strong _ _ _ says (compares code test before after flow) = compares code test strong after (guarded_more code strong before after says flow)
    asked_more _ strong _ _ _ says (reads code slot before after flow) = reads code slot strong after (guarded_more code strong before after says flow)
    asked_more _ strong _ _ _ says (both first second before between holds fails one two) = both first second strong between holds fails (asked_more first strong before between fails says one) two
    asked_more _ strong _ _ _ says (either first second before between holds fails one two) = either first second strong between holds fails (asked_more first strong before holds between says one) two
    asked_more _ strong _ _ _ says (opposite asked before holds fails one) = opposite asked strong holds fails (asked_more asked strong before fails holds says one)

  -- one piece after the other
  pub guarded_then : (code rest : Code) (before between end : Known) → Guarded place before code between → Guarded place between rest end → Guarded place before (followed code rest) end
  guarded_then _ rest _ _ end (ends before between says) behind_it = guarded_more rest before between end says behind_it
  guarded_then _ rest _ _ end (does done code before between guarded next) behind_it =
      does done (followed code rest) before end guarded (guarded_then code rest (behind done.kind before) between end next behind_it)
  guarded_then _ rest _ _ end (chooses asked first second code before holds fails joined between question one two next) behind_it =
      chooses asked first second (followed code rest) before holds fails joined end question one two (guarded_then code rest joined between end next behind_it)
  guarded_then _ rest _ _ end (breaks code before between next) behind_it = breaks (followed code rest) before end (guarded_then code rest Nowhere between end next behind_it)
  guarded_then _ rest _ _ end (continues code before between next) behind_it = continues (followed code rest) before end (guarded_then code rest Nowhere between end next behind_it)
  guarded_then _ rest _ _ end (returns value span code before between next) behind_it = returns value span (followed code rest) before end (guarded_then code rest Nowhere between end next behind_it)
  guarded_then _ rest _ _ end (throws name span code before between next) behind_it = throws name span (followed code rest) before end (guarded_then code rest Nowhere between end next behind_it)
  guarded_then _ rest _ _ end (loops test_first asked body turn number scope code before between question one two next) behind_it =
      loops test_first asked body turn number scope (followed code rest) before end question one two (guarded_then code rest Unknown between end next behind_it)

  -- A guard, and what stands behind it.
  pub guard_then : (array index : ℕ) (null_op zero_op length_op : Op) (is_null is_negative is_too_high : Test) (name : List ℕ) (span : Span) (rest : Code) (before end : Known)
      → IsTest array index null_op zero_op length_op is_null is_negative is_too_high → Guarded place (Inside array index) rest end
      → Guarded place before (If (outside null_op zero_op length_op is_null is_negative is_too_high) (Throw name span End) End rest) end
  guard_then array index null_op zero_op length_op is_null is_negative is_too_high name span rest before end test guarded =
      chooses (outside null_op zero_op length_op is_null is_negative is_too_high) (Throw name span End) End rest before Unknown (Inside array index) (Inside array index) end
      (tests array index null_op zero_op length_op is_null is_negative is_too_high before test)
      (throws name span End Unknown (Inside array index) (ends Nowhere (Inside array index) tt))
      (ends (Inside array index) (Inside array index) (refl, refl)) guarded

  -- ---- code that has no access at the place

  mutual
    pub elsewhere : (code : Code) → EachOp (IsElsewhere place) code → Guarded place Unknown code Unknown
    elsewhere End each = ends Unknown Unknown tt
    elsewhere (Do done rest) each = does done rest Unknown Unknown each.0 (elsewhere rest each.1)
    elsewhere (If asked first second rest) each =
        chooses asked first second rest Unknown Unknown Unknown Unknown Unknown (elsewhere_asked asked each.0) (elsewhere first each.1.0) (elsewhere second each.1.1.0) (elsewhere rest each.1.1.1)
    elsewhere (Break rest) each = breaks rest Unknown Unknown (guarded_more rest Nowhere Unknown Unknown tt (elsewhere rest each))
    elsewhere (Continue rest) each = continues rest Unknown Unknown (guarded_more rest Nowhere Unknown Unknown tt (elsewhere rest each))
    elsewhere (Return value span rest) each = returns value span rest Unknown Unknown (guarded_more rest Nowhere Unknown Unknown tt (elsewhere rest each))
    elsewhere (Throw name span rest) each = throws name span rest Unknown Unknown (guarded_more rest Nowhere Unknown Unknown tt (elsewhere rest each))
    elsewhere (Loop test_first asked body next number scope rest) each =
        loops test_first asked body next number scope rest Unknown Unknown (elsewhere_asked asked each.0) (elsewhere body each.1.0) (elsewhere next each.1.1.0) (elsewhere rest each.1.1.1)

    pub elsewhere_asked : (asked : Condition) → EachAsked (IsElsewhere place) asked → GuardedAsked place Unknown asked Unknown Unknown
    elsewhere_asked (Certain answer) each = certain answer Unknown Unknown tt
    elsewhere_asked (Compare code test) each = compares code test Unknown Unknown (elsewhere code each)
    elsewhere_asked (Truth code slot) each = reads code slot Unknown Unknown (elsewhere code each)
    elsewhere_asked (Both first second) each = both first second Unknown Unknown Unknown Unknown (elsewhere_asked first each.0) (elsewhere_asked second each.1)
    elsewhere_asked (Either first second) each = either first second Unknown Unknown Unknown Unknown (elsewhere_asked first each.0) (elsewhere_asked second each.1)
    elsewhere_asked (Opposite asked) each = opposite asked Unknown Unknown Unknown (elsewhere_asked asked each)

  -- ---- code that keeps what a guard's test tells

  module _ (array index : ℕ) where
    stays : (kind : OpKind) → writes kind array ≡ false → writes kind index ≡ false → behind kind (Inside array index) ≡ Inside array index
    stays kind one two = rw (one, two) refl

    mutual
      pub keeps : (code : Code) → EachOp (Keeps place array index) code → HasNoLoop code → Guarded place (Inside array index) code (Inside array index)
      keeps End each plain = ends (Inside array index) (Inside array index) (refl, refl)
      keeps (Do done rest) each plain = does done rest (Inside array index) (Inside array index) each.0.access
          (subst (λ known. Guarded place known rest (Inside array index)) (sym (stays done.kind each.0.array_stays each.0.index_stays)) (keeps rest each.1 plain))
      keeps (If asked first second rest) each plain =
          chooses asked first second rest (Inside array index) (Inside array index) (Inside array index) (Inside array index) (Inside array index)
          (keeps_asked asked each.0 plain.0) (keeps first each.1.0 plain.1.0) (keeps second each.1.1.0 plain.1.1.0) (keeps rest each.1.1.1 plain.1.1.1)
      keeps (Break rest) each plain = breaks rest (Inside array index) (Inside array index) (guarded_more rest Nowhere (Inside array index) (Inside array index) tt (keeps rest each plain))
      keeps (Continue rest) each plain = continues rest (Inside array index) (Inside array index) (guarded_more rest Nowhere (Inside array index) (Inside array index) tt (keeps rest each plain))
      keeps (Return value span rest) each plain = returns value span rest (Inside array index) (Inside array index) (guarded_more rest Nowhere (Inside array index) (Inside array index) tt (keeps rest each plain))
      keeps (Throw name span rest) each plain = throws name span rest (Inside array index) (Inside array index) (guarded_more rest Nowhere (Inside array index) (Inside array index) tt (keeps rest each plain))
      keeps (Loop test_first asked body next number scope rest) each plain = absurd plain

      pub keeps_asked : (asked : Condition) → EachAsked (Keeps place array index) asked → AsksNoLoop asked → GuardedAsked place (Inside array index) asked (Inside array index) (Inside array index)
      keeps_asked (Certain answer) each plain = certain answer (Inside array index) (Inside array index) (refl, refl)
      keeps_asked (Compare code test) each plain = compares code test (Inside array index) (Inside array index) (keeps code each plain)
      keeps_asked (Truth code slot) each plain = reads code slot (Inside array index) (Inside array index) (keeps code each plain)
      keeps_asked (Both first second) each plain = both first second (Inside array index) (Inside array index) (Inside array index) (Inside array index) (keeps_asked first each.0 plain.0) (keeps_asked second each.1 plain.1)
      keeps_asked (Either first second) each plain = either first second (Inside array index) (Inside array index) (Inside array index) (Inside array index) (keeps_asked first each.0 plain.0) (keeps_asked second each.1 plain.1)
      keeps_asked (Opposite asked) each plain = opposite asked (Inside array index) (Inside array index) (Inside array index) (keeps_asked asked each plain)
