-- What is added to a body, one behind the other, and what full expressions add.
use Rattle.std.proofs.Common.{◌≡◌, ◌≤◌, ◌<◌, ℕ, ◌+◌, max, Bool, true, false, List, [], ◌∷◌, ◌++◌, length, refl, sym, ap, subst, ◌∙◌, arith, append_assoc, length-append}
use Rattle.std.specs.Prelude.{if◌then◌else◌, ◌==◌}
use Rattle.std.proofs.lemmas.List.{append-nil}
use Rattle.ix_text.specs.declared.span.Span.{Span}
use Rattle.ix_core.specs.declared.claim.Type_.{Type_}
use Rattle.ix_core.specs.declared.code.Item.{Item}
use Rattle.ix_core.specs.declared.program.Local.{Local}
use Rattle.ix_core.specs.Formed.{Ways}
use Rattle.ix_core.specs.Types.{Point, is_type}
use Rattle.ix_meaning.specs.Scope.{Scope as Names}
use Rattle.ix_plain.specs.declared.body.Body.{Body}
use Rattle.ix_plain.specs.Scope.{is_among}
use Rattle.ix_plain.specs.Parts.{Within as Made_, ◌>>=◌, Value}
use Rattle.ix_plain.specs.Statements.{Evaluated, behind, behind_value, with_last}
use Rattle.ix_formed.specs.Additions.{Makes, IsPlain, code_before}
use Rattle.ix_formed.specs.Points.{Keeps, Leads}
use Rattle.ix_formed.specs.Typed.{Gives, Holds}
use Rattle.ix_formed.specs.TypedStatements.{Ground, Begins, IsDeclared, DoFit, ways, Passes, Leaves, Adds, WriteAnswers}
use Rattle.ix_formed.proofs.NumberLists.{all_so, all_joined}
use Rattle.ix_formed.proofs.PlainItems.{before_append, makes_then}
use Rattle.ix_formed.proofs.ScopedLocals.{begins_before}
use Rattle.ix_formed.proofs.TypedPoints.{keeps_none, keeps_both}
use Rattle.ix_formed.proofs.WrittenAnswers.{answered_none, answered_both, answered_plain}

module _ (g : Ground) where
  -- ---- items

  -- no jump
  abbrev pub no_jump : Point → Point
  no_jump point = point

  pub none_passes : (base : ℕ) (point : Point) → Passes base point no_jump
  none_passes base point count kept x le known keeps = keeps

  pub leaves_none : (in_loop : Bool) (point : Point) → Leaves g in_loop [] point point no_jump no_jump
  leaves_none in_loop point = record { fits = λ rest fit. fit; ends = λ rest. refl; breaks = λ rest. refl; turns = λ rest. refl }

  pub leaves_both : (in_loop : Bool) (items more : List Item) (one two three : Point) (breaks turns breaks_later turns_later : Point → Point) → Leaves g in_loop items one two breaks turns → Leaves g in_loop more two three breaks_later turns_later
      → Leaves g in_loop (items ++ more) one three (λ x. breaks (breaks_later x)) (λ x. turns (turns_later x))
  leaves_both in_loop items more one two three breaks turns breaks_later turns_later a b = record {
    fits = λ rest fit. ap (λ code. (ways g in_loop code one).fits) (before_append items more rest) ∙ a.fits (code_before more rest) (b.fits rest fit);
    ends = λ rest. ap (λ code. (ways g in_loop code one).ends) (before_append items more rest) ∙ a.ends (code_before more rest) ∙ b.ends rest;
    breaks = λ rest. ap (λ code. (ways g in_loop code one).breaks) (before_append items more rest) ∙ a.breaks (code_before more rest) ∙ ap breaks (b.breaks rest);
    turns = λ rest. ap (λ code. (ways g in_loop code one).turns) (before_append items more rest) ∙ a.turns (code_before more rest) ∙ ap turns (b.turns rest);
  }

  pub passes_both : (base other : ℕ) (one two : Point) (by later : Point → Point) → base ≤ other → Keeps base one two → Passes base one by → Passes other two later → Passes base one (λ x. by (later x))
  passes_both base other one two by later le on a b count kept x few known keeps = a count kept (later x) few known (b count kept x (omega (arith, few, le)) (keeps_both count base kept one two few known on) keeps)

  pub leads_leave : (in_loop : Bool) (items : List Item) (one two : Point) → Leads g.program g.method g.locals items one two → Leaves g in_loop items one two no_jump no_jump
  leads_leave in_loop items one two leads = record {
    fits = λ rest fit. ap (λ (w : Ways). w.fits) (leads in_loop rest) ∙ fit;
    ends = λ rest. ap (λ (w : Ways). w.ends) (leads in_loop rest);
    breaks = λ rest. ap (λ (w : Ways). w.breaks) (leads in_loop rest);
    turns = λ rest. ap (λ (w : Ways). w.turns) (leads in_loop rest);
  }

  -- ---- locals

  pub fit_both : (number other : ℕ) (xs ys : List (Local × Span)) (ts us : List Type_) → DoFit g number xs ts → other ≡ number + length xs → DoFit g other ys us → DoFit g number (xs ++ ys) (ts ++ us)
  fit_both number other [] ys [] us a e b = let z : other ≡ number = omega (arith, e) in subst (λ n. DoFit g n ys us) z b
  fit_both number other [] ys (t ∷ ts) us a e b = absurd a
  fit_both number other (x ∷ xs) ys [] us a e b = absurd a
  fit_both number other (x ∷ xs) ys (t ∷ ts) us a e b = (a.0, a.1, a.2, fit_both (number + 1) other xs ys ts us a.3 (omega (arith, e)) b)

  pub begins_as : (xs ys : List (Local × Span)) (ts us : List Type_) (at : ℕ) → xs ≡ ys → ts ≡ us → Begins g xs ts at → Begins g ys us at
  begins_as xs ys ts us at e f b = subst (λ l. Begins g l us at) e (subst (λ t. Begins g xs t at) f b)

  -- what is behind a part of what is added
  pub begins_middle : (s : Names) (from mid to until : ℕ) (middle : Body) (types : List Type_) (point : Point) (after : Body) (b : Adds g s mid to until middle types point after) → mid ≤ to → Begins g after.locals (types ++ b.added_types) to
      → Begins g middle.locals types mid
  begins_middle s from mid to until middle types point after b le begins =
      begins_before g middle.locals b.added types b.added_types to mid until b.places le (begins_as after.locals (middle.locals ++ b.added) (types ++ b.added_types) (types ++ b.added_types) to b.grown refl begins)

  -- ---- one behind the other

  abbrev pub adds_none : (s : Names) (from to until : ℕ) (body : Body) (types : List Type_) (point : Point) → Adds g s from to until body types point body
  adds_none s from to until body types point = record {
    added = [];
    added_types = [];
    grown = sym (append-nil body.locals);
    typed = refl;
    places = tt;
    do_fit = λ begins. tt;
    most = omega arith;
    up = omega arith;
    items = [];
    appended = sym (append-nil body.made.items);
    behind = point;
    breaks_by = no_jump;
    turns_by = no_jump;
    leaves = λ begins le in_loop loops. leaves_none in_loop point;
    answered = λ asked. answered_none;
    keeps = keeps_none body.made.free point;
    keeps_breaks = none_passes body.made.free point;
    keeps_turns = none_passes body.made.free point;
  }

  abbrev pub adds_both : (s next : Names) (from mid to until : ℕ) (body : Body) (types : List Type_) (point : Point) (middle after : Body) (a : Adds g s from mid until body types point middle)
      → Adds g next mid to until middle (types ++ a.added_types) a.behind after → (next.in_loop ≡ true → s.in_loop ≡ true) → from ≤ mid → mid ≤ to → Adds g s from to until body types point after
  adds_both s next from mid to until body types point middle after a b loop le up =
      let same = append_assoc types a.added_types b.added_types in record {
        added = a.added ++ b.added;
        added_types = a.added_types ++ b.added_types;
        grown = b.grown ∙ ap (λ l. l ++ b.added) a.grown ∙ append_assoc body.locals a.added b.added;
        typed = (let x = length-append a.added_types b.added_types in let y = length-append a.added b.added in let c = a.typed in let d = b.typed in omega (arith, x, y, c, d));
        places = all_joined (IsDeclared from until) a.added b.added a.places (all_so (IsDeclared mid until) (IsDeclared from until) (λ l d. ((let x = d.0 in omega (arith, x, le)), d.1)) b.added b.places);
        do_fit = λ begins.
            let full = begins_as after.locals after.locals (types ++ (a.added_types ++ b.added_types)) ((types ++ a.added_types) ++ b.added_types) to refl (sym same) begins in
            fit_both (length body.locals) (length middle.locals) a.added b.added a.added_types b.added_types (a.do_fit (begins_middle next from mid to until middle (types ++ a.added_types) a.behind after b up full))
            (let x = ap (λ (l : List (Local × Span)). length l) a.grown in let y = length-append body.locals a.added in omega (arith, x, y)) (b.do_fit full);
        most = (let x = a.most in let y = b.most in omega (arith, x, y));
        up = (let x = a.up in let y = b.up in omega (arith, x, y));
        items = a.items ++ b.items;
        appended = b.appended ∙ ap (λ l. l ++ b.items) a.appended ∙ append_assoc body.made.items a.items b.items;
        behind = b.behind;
        breaks_by = λ x. a.breaks_by (b.breaks_by x);
        turns_by = λ x. a.turns_by (b.turns_by x);
        leaves = λ begins few in_loop loops.
            let full = begins_as after.locals after.locals (types ++ (a.added_types ++ b.added_types)) ((types ++ a.added_types) ++ b.added_types) to refl (sym same) begins in
            leaves_both in_loop a.items b.items point a.behind b.behind a.breaks_by a.turns_by b.breaks_by b.turns_by
            (a.leaves (begins_middle next from mid to until middle (types ++ a.added_types) a.behind after b up full) (let x = b.most in omega (arith, x, few)) in_loop loops)
            (b.leaves full few in_loop (λ e. loops (loop e)));
        answered = λ asked. answered_both a.items b.items (a.answered asked) (b.answered asked);
        keeps = keeps_both body.made.free middle.made.free point a.behind b.behind a.up a.keeps b.keeps;
        keeps_breaks = passes_both body.made.free middle.made.free point a.behind a.breaks_by b.breaks_by a.up a.keeps a.keeps_breaks b.keeps_breaks;
        keeps_turns = passes_both body.made.free middle.made.free point a.behind a.turns_by b.turns_by a.up a.keeps a.keeps_turns b.keeps_turns;
      }

  -- between more places
  abbrev pub adds_as : (s : Names) (from to until less more later : ℕ) (body : Body) (types : List Type_) (point : Point) (after : Body) → less ≤ from → to ≤ more → until ≤ later → Adds g s from to until body types point after
      → Adds g s less more later body types point after
  adds_as s from to until less more later body types point after le up last a = record {
    added = a.added;
    added_types = a.added_types;
    grown = a.grown;
    typed = a.typed;
    places = all_so (IsDeclared from until) (IsDeclared less later) (λ l d. ((let x = d.0 in omega (arith, x, le)), (let x = d.1 in omega (arith, x, last)))) a.added a.places;
    do_fit = λ begins. a.do_fit (earlier begins);
    most = a.most;
    up = a.up;
    items = a.items;
    appended = a.appended;
    behind = a.behind;
    breaks_by = a.breaks_by;
    turns_by = a.turns_by;
    leaves = λ begins. a.leaves (earlier begins);
    answered = a.answered;
    keeps = a.keeps;
    keeps_breaks = a.keeps_breaks;
    keeps_turns = a.keeps_turns;
  }
    where
      earlier : Begins g after.locals (types ++ a.added_types) more → Begins g after.locals (types ++ a.added_types) to
      earlier b = record { later = b.later; later_types = b.later_types; locals = b.locals; types = b.types; behind = all_so (λ (l : Local × Span). more ≤ l.1.from) (λ (l : Local × Span). to ≤ l.1.from) (λ l x. omega (arith, x, up)) b.later b.behind }

  -- ---- full expressions

  -- A value was computed, up to that place.
  pub record Evaluates (at : ℕ) (extra : List ℕ) (body : Body) (types : List Type_) (point : Point) (ty : Type_) (ev : Evaluated) : Type 0 where
    pub items : List Item
    pub appended : ev.body.made.items ≡ body.made.items ++ items
    pub free : ev.body.made.free ≡ body.made.free
    pub locals : ev.body.locals ≡ body.locals
    pub most : body.most ≤ ev.body.most
    pub plain : IsPlain items
    pub behind : Point
    pub leads : Begins g body.locals types at → ev.body.most ≤ g.method.slots → Leads g.program g.method g.locals items point behind
    pub keeps : Keeps body.made.free point behind
    pub low : ev.slot < ev.body.most
    pub apart : is_among ev.slot extra ≡ false
    pub holds : is_type g.program ty ≡ true → Holds g.program behind ev.slot ty

  none_in_front : (slot : ℕ) (xs ys : List ℕ) → is_among slot (xs ++ ys) ≡ false → is_among slot xs ≡ false
  none_in_front slot [] ys e = refl
  none_in_front slot (x ∷ xs) ys e = here (x == slot) (none_in_front slot xs ys) e
    where
      here : (b : Bool) → (is_among slot (xs ++ ys) ≡ false → is_among slot xs ≡ false) → (if b then true else is_among slot (xs ++ ys)) ≡ false → (if b then true else is_among slot xs) ≡ false
      here true rest e = e
      here false rest e = rest e

  pub value_evaluates : (at : ℕ) (extra others : List ℕ) (body : Body) (types : List Type_) (point : Point) (ty : Type_) (r : Made_ Value)
      → Makes (Gives g.program g.method g.locals (Begins g body.locals types at) (extra ++ others) body.made point ty) r → Makes (Evaluates at extra body types point ty) (r >>= behind_value body)
  value_evaluates at extra others body types point ty r gives =
      makes_then (Gives g.program g.method g.locals (Begins g body.locals types at) (extra ++ others) body.made point ty) (Evaluates at extra body types point ty) r (behind_value body) gives
      (λ v x. record {
        items = x.steps.items;
        appended = x.steps.appended;
        free = refl;
        locals = refl;
        most = omega arith;
        plain = x.steps.plain;
        behind = x.behind;
        leads = λ begins le. x.steps.leads begins (most_right body.most v.made.free g.method.slots le);
        keeps = x.steps.keeps;
        low = (let a = x.low in omega (arith, a));
        apart = none_in_front v.slot extra others x.apart;
        holds = x.holds;
      })
    where
      most_right : (a b most : ℕ) → max a b ≤ most → b ≤ most
      most_right a b most le = omega (arith, le)

  -- a value that isn't used any more
  abbrev pub evaluated_adds : (s : Names) (from to until : ℕ) (at : ℕ) (extra : List ℕ) (body : Body) (types : List Type_) (point : Point) (ty : Type_) (ev : Evaluated) → at ≤ to → Evaluates at extra body types point ty ev
      → Adds g s from to until body types point ev.body
  evaluated_adds s from to until at extra body types point ty ev le e = record {
    added = [];
    added_types = [];
    grown = e.locals ∙ sym (append-nil body.locals);
    typed = refl;
    places = tt;
    do_fit = λ begins. tt;
    most = e.most;
    up = (let a = e.free in omega (arith, a));
    items = e.items;
    appended = e.appended;
    behind = e.behind;
    breaks_by = no_jump;
    turns_by = no_jump;
    leaves = λ begins few in_loop loops. leads_leave in_loop e.items point e.behind (e.leads (earlier (begins_as ev.body.locals body.locals (types ++ []) types to e.locals (append-nil types) begins)) few);
    answered = λ asked. answered_plain e.items e.plain;
    keeps = e.keeps;
    keeps_breaks = none_passes body.made.free point;
    keeps_turns = none_passes body.made.free point;
  }
    where
      earlier : Begins g body.locals types to → Begins g body.locals types at
      earlier b = record { later = b.later; later_types = b.later_types; locals = b.locals; types = b.types; behind = all_so (λ (l : Local × Span). to ≤ l.1.from) (λ (l : Local × Span). at ≤ l.1.from) (λ l x. omega (arith, x, le)) b.later b.behind }

  -- an item that declares nothing
  abbrev pub last_adds : (s : Names) (from to until : ℕ) (body : Body) (types : List Type_) (point behind : Point) (breaks turns : Point → Point) (last : Item) → Keeps body.made.free point behind → Passes body.made.free point breaks → Passes body.made.free point turns
      → (g.site.answers ≡ true → WriteAnswers (last ∷ [])) → (Begins g body.locals types to → body.most ≤ g.method.slots → (in_loop : Bool) → (s.in_loop ≡ true → in_loop ≡ true) → Leaves g in_loop (last ∷ []) point behind breaks turns)
      → Adds g s from to until body types point (with_last body last)
  last_adds s from to until body types point behind breaks turns last keeps passes_breaks passes_turns answered leaves = record {
    added = [];
    added_types = [];
    grown = sym (append-nil body.locals);
    typed = refl;
    places = tt;
    do_fit = λ begins. tt;
    most = omega arith;
    up = omega arith;
    items = last ∷ [];
    appended = refl;
    behind = behind;
    breaks_by = breaks;
    turns_by = turns;
    leaves = λ begins. leaves (begins_as body.locals body.locals (types ++ []) types to refl (append-nil types) begins);
    answered = answered;
    keeps = keeps;
    keeps_breaks = passes_breaks;
    keeps_turns = passes_turns;
  }
