-- No expression that is read is higher than the height that is left.
use Rattle.std.proofs.Common.{◌≡◌, ℕ, zero, suc, ◌+◌, ◌-◌, ◌<◌, ◌≤◌, max, Bool, true, false, refl, arith, ◌⊎◌, inl, inr}
use Rattle.std.proofs.lemmas.Bool.{ltb-true, leb-true}
use Rattle.ix_text.specs.declared.span.Span.{Span}
use Rattle.ix_tree.specs.declared.annot.Ident.{Ident}
use Rattle.ix_tree.specs.declared.annot.BaseTree.{BaseTree}
use Rattle.ix_tree.specs.declared.annot.BaseTree.TheVariants.{Int, Boolean, Named}
use Rattle.ix_grammar_rules.specs.declared.aims.Aim.{Aim}
use Rattle.ix_grammar_rules.specs.declared.aims.Aim.TheVariants as aim
use Rattle.ix_grammar.specs.declared.found.At.{At}
use Rattle.ix_grammar.specs.declared.found.Found.{Found}
use Rattle.ix_grammar.specs.declared.found.FoundInit.{FoundInit}
use Rattle.ix_grammar.specs.declared.found.FoundItems.{FoundItems}
use Rattle.ix_grammar.specs.declared.found.Notes.{Notes}
use Rattle.ix_grammar.specs.declared.found.Several.{Several}
use Rattle.ix_grammar.specs.declared.found.Form.{Form}
use Rattle.ix_grammar.specs.declared.found.Form.TheVariants as form
use Rattle.ix_grammar_rules.specs.Rule.{Rule, stop, loop, Turn}
use Rattle.ix_grammar.specs.AnnotGrammar.{no_notes, with_note}
use Rattle.ix_grammar_rules.specs.AnnotRules.{annots_from, next_annot}
use Rattle.ix_grammar.specs.TypeGrammar.{based, base_height}
use Rattle.ix_grammar_rules.specs.TypeRules.{next_pair, pairs}
use Rattle.ix_grammar.specs.ExprNodes.{no_exprs, with_expr, no_inits, with_init, makes_array}
use Rattle.ix_grammar_rules.specs.ExprRules.{extra, Parts, Below, inner, inner_init, more_exprs, args, more_inits, items, name_or_call, enclosed, word, creation, object_or_array, noted_array, noted, array, array_rest, first_part, field_or_call, index, index_unless, further, primary_of, only_variable, variable_of, step_behind, value_of, prefixed, unary_of, operand, level_of, assignment, maybe_assigned, whole_of, to_statement, statement_of, init_of, parts_of, no_parts, below, expr, init, statement_expr}
use Rattle.ix_grammar_rules.proofs.GiveRules.{Gives, gives_more, sound_gives, pure_gives, stop_gives, take_gives, bind_gives, Turned, loop_gives}
use Rattle.ix_grammar_rules.proofs.AnnotSound.{annot_behind_sound}

-- it has a height of at most so much
abbrev pub Within : ℕ → Found → Type 0
Within left f = (0 < f.height) × (f.height ≤ left)

abbrev pub InitWithin : ℕ → FoundInit → Type 0
InitWithin left i = (0 < i.height) × (i.height ≤ left)

-- so much lower
abbrev pub Lower : ℕ → ℕ → Found → Type 0
Lower n left f = (0 < f.height) × (f.height + n ≤ left)

abbrev pub InitLower : ℕ → ℕ → FoundInit → Type 0
InitLower n left i = (0 < i.height) × (i.height + n ≤ left)

pub record LowParts (n left : ℕ) (p : Parts) : Type 0 where
  pub whole : Gives (Lower n left) p.whole
  pub level : (m : ℕ) → Gives (Lower n left) (p.level m)
  pub variable : Gives (Lower n left) p.variable
  pub init : Gives (InitLower n left) p.init

pub record LowBelow (left : ℕ) (b : Below) : Type 0 where
  pub lower : LowParts 1 left b.lower
  pub lowest : LowParts 2 left b.lowest

-- ---- lists

module _ (e : Rule Found) (n left : ℕ) (low : Gives (Lower n left) e) where
  more_low : (s : Several) → s.height + n ≤ left → Gives (Turned (λ s. s.height + n ≤ left) (λ s. s.height + n ≤ left)) (more_exprs e s)
  unfolding more_exprs
  more_low s q = take_gives _ _ _ _ (λ b c. bind_gives _ _ low (λ f w. pure_gives _ (omega (arith, q, w.1)))) (pure_gives _ q)

  args_low : Gives (λ a. (a.height + n ≤ left) ⊎ (a.height ≡ 0)) (args e)
  unfolding args
  args_low = take_gives _ _ _ _ (λ b r. pure_gives _ (inr refl))
      (bind_gives _ _ low (λ f w. bind_gives _ _ (loop_gives (more_exprs e) (λ s. s.height + n ≤ left) (λ s. s.height + n ≤ left) more_low (with_expr no_exprs f) (omega (arith, w.1)))
      (λ s q. take_gives _ _ _ _ (λ b r. pure_gives _ (inl q)) stop_gives)))

module _ (e : Rule FoundInit) (n left : ℕ) (low : Gives (InitLower n left) e) where
  inits_low : (s : FoundItems) → s.height + n ≤ left → Gives (Turned (λ s. s.height + n ≤ left) (λ s. (s.height + n ≤ left) ⊎ (s.height ≡ 0))) (more_inits e s)
  unfolding more_inits
  inits_low s q = take_gives _ _ _ _ (λ b c. take_gives _ _ _ _ (λ b r. pure_gives _ (inl q)) (bind_gives _ _ low (λ i w. pure_gives _ (omega (arith, q, w.1)))))
      (take_gives _ _ _ _ (λ b r. pure_gives _ (inl q)) stop_gives)

  items_low : (o : Span) → Gives (λ s. (s.height + n ≤ left) ⊎ (s.height ≡ 0)) (items e o)
  unfolding items
  items_low o = take_gives _ _ _ _ (λ b r. pure_gives _ (inr refl))
      (bind_gives _ _ low (λ i w. loop_gives (more_inits e) (λ s. s.height + n ≤ left) (λ s. (s.height + n ≤ left) ⊎ (s.height ≡ 0)) inits_low (with_init (no_inits o) i) (omega (arith, w.1))))

pub inner_low : (left : ℕ) (b : Below) → LowBelow left b → (n : ℕ) → n ≤ 1 → Gives (Lower (n + 1) left) (inner b n)
inner_low left b l zero one = let p = l.lower in p.whole
inner_low left b l (suc zero) one = let p = l.lowest in p.whole
inner_low left b l (suc (suc n)) one = absurd (omega (arith, one))

inner_init_low : (left : ℕ) (b : Below) → LowBelow left b → (n : ℕ) → n ≤ 1 → Gives (InitLower (n + 1) left) (inner_init b n)
inner_init_low left b l zero one = let p = l.lower in p.init
inner_init_low left b l (suc zero) one = let p = l.lowest in p.init
inner_init_low left b l (suc (suc n)) one = absurd (omega (arith, one))

pub extra_at_most : (a : Aim) (k : Form) → extra a k ≤ 1
extra_at_most aim.Value k = omega arith
extra_at_most aim.Statement form.Statement = omega arith
extra_at_most aim.Statement form.Variable = omega arith
extra_at_most aim.Statement form.Array = omega arith
extra_at_most aim.Statement form.Value = omega arith
extra_at_most aim.Variable form.Variable = omega arith
extra_at_most aim.Variable form.Statement = omega arith
extra_at_most aim.Variable form.Array = omega arith
extra_at_most aim.Variable form.Value = omega arith

next_within : (k : ℕ) → 2 ≤ k → (notes : Notes) → notes.height ≤ k → Gives (Turned (λ n. n.height ≤ k) (λ n. n.height ≤ k)) (next_annot k notes)
unfolding next_annot
next_within k two notes q = take_gives _ _ _ _ (λ t at. bind_gives _ _ (sound_gives _ (annot_behind_sound k at two) (λ ts n d. d.1)) (λ n w. pure_gives _ (omega (arith, q, w)))) (pure_gives _ q)

-- so many parts, where there are some
abbrev pub Some_low : ℕ → ℕ → ℕ → Type 0
Some_low n left height = (height + n ≤ left) ⊎ (height ≡ 0)

pub most : (n x left : ℕ) → Some_low (n + 1) left x → 1 ≤ left → x + 1 ≤ left
most n x left (inl le) one = omega (arith, le)
most n x left (inr e) one = omega (arith, e, one)

any_pairs : (found : At ℕ) → Unit {0} → Gives (Turned (λ p. Unit {0}) (λ p. Unit {0})) (next_pair found)
unfolding next_pair
any_pairs found u = take_gives _ _ _ _ (λ t l. take_gives _ _ _ _ (λ t r. pure_gives _ tt) stop_gives) (pure_gives _ tt)

pairs_any : (n : ℕ) (last : Span) → Gives (λ found. Unit {0}) (pairs n last)
unfolding pairs
pairs_any n last = loop_gives next_pair (λ p. Unit {0}) (λ p. Unit {0}) any_pairs _ tt

module _ (left : ℕ) (b : Below) (l : LowBelow left b) where
  pub args_within : (a : Aim) → Gives (λ r. Some_low (extra a form.Statement + 1) left r.height) (args (inner b (extra a form.Statement)))
  args_within a = args_low (inner b (extra a form.Statement)) (extra a form.Statement + 1) left (inner_low left b l (extra a form.Statement) (extra_at_most a form.Statement))

  pub called_within : (a : Aim) (x : Ident) → 2 ≤ left → Gives (Within left) (name_or_call b a left x)
  unfolding name_or_call
  called_within a x two = take_gives _ _ _ _ (λ f o. bind_gives _ _ (args_within a) (λ r w. pure_gives _ (omega arith, omega (arith, two, most (extra a form.Statement) r.height left w (omega (arith, two)))))) (pure_gives _ (omega arith, two))

  enclosed_within : (a : Aim) (o : Span) → Gives (Within left) (enclosed b a o)
  unfolding enclosed
  enclosed_within a o = bind_gives _ _ (inner_low left b l (extra a form.Value) (extra_at_most a form.Value)) (λ f w. take_gives _ _ _ _ (λ t c. pure_gives _ (omega (arith, w.0), omega (arith, w.1))) stop_gives)

  word_within : (a : Aim) (other : Rule Found) → Gives (Within left) other → Gives (Within left) (word a left other)
  unfolding word
  word_within a other o = take_gives _ _ _ _ (λ t s. pure_gives _ (omega arith, omega (arith, leb-true (extra a form.Value + 1) left t))) (take_gives _ _ _ _ (λ t s. pure_gives _ (omega arith, omega (arith, leb-true (extra a form.Value + 1) left t)))
      (take_gives _ _ _ _ (λ t s. pure_gives _ (omega arith, omega (arith, leb-true (extra a form.Value + 1) left t))) (take_gives _ _ _ _ (λ t s. pure_gives _ (omega arith, omega (arith, leb-true (extra a form.Value + 1) left t))) o)))

  -- the height of an array's type and one more
  abbrev Room : At BaseTree → Notes → Type 0
  Room base notes = max (base_height base.value) notes.height + 2 ≤ left

  rest_within : (a : Aim) (start : Span) (base : At BaseTree) (notes : Notes) → Room base notes → Gives (Within left) (array_rest b a start base notes)
  unfolding array_rest
  rest_within a start base notes room = take_gives _ _ _ _
      (λ t r. bind_gives _ _ (pairs_any 1 r) (λ found u. take_gives _ _ _ _
      (λ t o. bind_gives _ _ (items_low (inner_init b (extra a form.Array)) (extra a form.Array + 1) left (inner_init_low left b l (extra a form.Array) (extra_at_most a form.Array)) o)
      (λ s w. pure_gives _ (omega arith, omega (arith, room, most (extra a form.Array) s.height left w (omega (arith, room)))))) stop_gives))
      (bind_gives _ _ (inner_low left b l (extra a form.Array) (extra_at_most a form.Array)) (λ f w. take_gives _ _ _ _
      (λ t r. bind_gives _ _ (pairs_any 1 r) (λ found u. pure_gives _ (omega arith, omega (arith, room, w.1)))) stop_gives))

  array_within : (a : Aim) (start : Span) (base : At BaseTree) (notes : Notes) → Room base notes → Gives (Within left) (array b a start base notes)
  unfolding array
  array_within a start base notes room = take_gives _ _ _ _ (λ t o. rest_within a start base notes room) stop_gives

  object_within : (a : Aim) (start : Span) (x : Ident) → 2 ≤ left → Gives (Within left) (object_or_array b a left start x)
  unfolding object_or_array
  object_within a start x two = take_gives _ _ _ _ (λ t o. bind_gives _ _ (args_within a) (λ r w. pure_gives _ (omega arith, omega (arith, two, most (extra a form.Statement) r.height left w (omega (arith, two))))))
      (take_gives _ _ _ _ (λ t o. rest_within a start (based (Named x) x.span) no_notes (omega (arith, leb-true (extra a form.Array + 3) left t))) stop_gives)

  noted_array_within : (a : Aim) (start : Span) (notes : Notes) → notes.height + 2 ≤ left → 3 ≤ left → Gives (Within left) (noted_array b a start notes)
  unfolding noted_array
  noted_array_within a start notes n three = take_gives _ _ _ _ (λ t s. array_within a start (based Int s) notes (omega (arith, n, three))) (take_gives _ _ _ _ (λ t s. array_within a start (based Boolean s) notes (omega (arith, n, three)))
      (take_gives _ _ _ _ (λ t x. array_within a start (based (Named x) x.span) notes (omega (arith, n, three))) stop_gives))

  annots_within : (k : ℕ) (notes : Notes) → 2 ≤ k → notes.height ≤ k → Gives (λ found. found.height ≤ k) (annots_from k notes)
  unfolding annots_from
  annots_within k notes two le = loop_gives (next_annot k) (λ n. n.height ≤ k) (λ n. n.height ≤ k) (λ n q. next_within k two n q) notes le

  noted_within : (a : Aim) (start at : Span) → extra a form.Array + 4 ≤ left → Gives (Within left) (noted b a left start at)
  unfolding noted
  noted_within a start at four = bind_gives _ _ (sound_gives _ (annot_behind_sound (left - (extra a form.Array + 2)) at (omega (arith, four))) (λ ts n d. d.1))
      (λ n w. bind_gives _ _ (annots_within (left - (extra a form.Array + 2)) (with_note no_notes n) (omega (arith, four)) (omega (arith, w)))
      (λ notes q. noted_array_within a start notes (omega (arith, q, four)) (omega (arith, four))))

  creation_within : (a : Aim) (start : Span) → 2 ≤ left → Gives (Within left) (creation b a left start)
  unfolding creation
  creation_within a start two = take_gives _ _ _ _ (λ t x. object_within a start x two) (take_gives _ _ _ _ (λ t s. array_within a start (based Int s) no_notes (omega (arith, leb-true (extra a form.Array + 2) left t)))
      (take_gives _ _ _ _ (λ t s. array_within a start (based Boolean s) no_notes (omega (arith, leb-true (extra a form.Array + 2) left t)))
      (take_gives _ _ _ _ (λ t at. noted_within a start at (leb-true (extra a form.Array + 4) left t)) stop_gives)))

  pub first_within : (a : Aim) → Gives (Within left) (first_part b a left)
  unfolding first_part
  first_within a = take_gives _ _ _ _ (λ t n. pure_gives _ (omega arith, omega (arith, leb-true (extra a form.Value + 1) left t))) (take_gives _ _ _ _ (λ t x. called_within a x (leb-true 2 left t))
      (take_gives _ _ _ _ (λ t o. enclosed_within a o) (take_gives _ _ _ _ (λ t s. creation_within a s (omega (arith, leb-true (extra a form.Statement + 2) left t))) (word_within a stop stop_gives))))

  abbrev pub Next : Turn Found Found → Type 0
  Next r = Turned (Within left) (Within left) r

  pub field_within : (a : Aim) (f : Found) (x : Ident) → 0 < f.height → f.height < left → Gives Next (field_or_call b a left f x)
  unfolding field_or_call
  field_within a f x pos lt = take_gives _ _ _ _ (λ t o. bind_gives _ _ (args_within a) (λ r w. pure_gives _ (omega arith, omega (arith, pos, lt, most (extra a form.Statement) r.height left w (omega (arith, lt)))))) (pure_gives _ (omega arith, omega (arith, pos, lt)))

  index_within : (a : Aim) (f : Found) → Within left f → Gives Next (index b a left f)
  unfolding index
  index_within a f w = take_gives _ _ _ _ (λ t o. bind_gives _ _ (inner_low left b l (extra a form.Variable) (extra_at_most a form.Variable)) (λ g v. take_gives _ _ _ _ (λ u c. pure_gives _ (omega arith, omega (arith, v.1, leb-true (extra a form.Variable + (f.height + 1)) left t))) stop_gives)) (pure_gives _ w)

  unless_within : (c : Bool) (a : Aim) (f : Found) → Within left f → Gives Next (index_unless c b a left f)
  unfolding index_unless
  unless_within true a f w = pure_gives _ w
  unless_within false a f w = index_within a f w

  pub further_within : (a : Aim) (f : Found) → Within left f → Gives Next (further b a left f)
  unfolding further
  further_within a f w = take_gives _ _ _ _ (λ t d. take_gives _ _ _ _ (λ u x. field_within a f x w.0 (ltb-true f.height left t)) stop_gives) (unless_within (makes_array f.form) a f w)

  pub chain_within : (a : Aim) (f : Found) → Within left f → Gives (Within left) (loop (further b a left) f)
  chain_within a f w = loop_gives (further b a left) (Within left) (Within left) (further_within a) f w

  pub primary_within : (a : Aim) → Gives (Within left) (primary_of b a left)
  unfolding primary_of
  primary_within a = bind_gives _ _ (first_within a) (chain_within a)

  only_within : (f : Found) (k : Form) → Within left f → Gives (Within left) (only_variable f k)
  unfolding only_variable
  only_within f form.Variable w = pure_gives _ w
  only_within f form.Statement w = stop_gives
  only_within f form.Array w = stop_gives
  only_within f form.Value w = stop_gives

  variable_within : Gives (Within left) (variable_of b left)
  unfolding variable_of
  variable_within = bind_gives _ _ (primary_within aim.Variable) (λ f w. only_within f f.form w)

  step_within : (f : Found) (k : Form) → Within left f → Gives (Within left) (step_behind left f k)
  unfolding step_behind
  step_within f form.Variable w = take_gives _ _ _ _ (λ t s. pure_gives _ (omega arith, omega (arith, ltb-true f.height left t))) (pure_gives _ w)
  step_within f form.Statement w = pure_gives _ w
  step_within f form.Array w = pure_gives _ w
  step_within f form.Value w = pure_gives _ w

  value_within : Gives (Within left) (value_of b left)
  unfolding value_of
  value_within = bind_gives _ _ (primary_within aim.Value) (λ f w. step_within f f.form w)

  prefixed_within : (other : Rule Found) → Gives (Within left) other → Gives (Within left) (prefixed b left other)
  unfolding prefixed
  prefixed_within other o = take_gives _ _ _ _ (λ t s. bind_gives _ _ (let p = l.lower in p.variable) (λ f w. pure_gives _ (omega arith, w.1))) o

  unary_within : Gives (Within left) (unary_of b left)
  unfolding unary_of
  unary_within = take_gives _ _ _ _ (λ t m. take_gives _ _ _ _ (λ u s. pure_gives _ (omega arith, leb-true 1 left t)) (bind_gives _ _ (let p = l.lower in p.level 0) (λ f w. pure_gives _ (omega arith, w.1))))
      (take_gives _ _ _ _ (λ t o. bind_gives _ _ (let p = l.lower in p.level 0) (λ f w. pure_gives _ (omega arith, w.1))) (prefixed_within _ value_within))

  pub operand_within : (n : ℕ) (f : Found) → Within left f → Gives Next (operand b left n f)
  unfolding operand
  operand_within n f w = take_gives _ _ _ _ (λ t o. bind_gives _ _ (let p = l.lower in p.level n) (λ g v. pure_gives _ (omega arith, omega (arith, v.1, ltb-true f.height left t)))) (pure_gives _ w)

  pub level_within : (n : ℕ) → Gives (Within left) (level_of b left n)
  unfolding level_of
  level_within zero = unary_within
  level_within (suc n) = bind_gives _ _ (level_within n) (λ f w. loop_gives (operand b left n) (Within left) (Within left) (operand_within n) f w)

  assignment_within : (f : Found) (other : Rule Found) → Gives (Within left) other → Gives (Within left) (assignment b left f other)
  unfolding assignment
  assignment_within f other o = take_gives _ _ _ _ (λ t s. bind_gives _ _ (let p = l.lower in p.whole) (λ g v. pure_gives _ (omega arith, omega (arith, v.1, ltb-true f.height left t)))) o

  assigned_within : (f : Found) (k : Form) → Within left f → Gives (Within left) (maybe_assigned b left f k)
  unfolding maybe_assigned
  assigned_within f form.Variable w = assignment_within f _ (pure_gives _ w)
  assigned_within f form.Statement w = pure_gives _ w
  assigned_within f form.Array w = pure_gives _ w
  assigned_within f form.Value w = pure_gives _ w

  whole_within : Gives (Within left) (whole_of b left)
  unfolding whole_of
  whole_within = bind_gives _ _ (level_within 10) (λ f w. assigned_within f f.form w)

  -- of a variable that may be too high
  pub variable_to_statement : (f : Found) → Gives (Within left) (to_statement b left f form.Variable)
  unfolding to_statement
  variable_to_statement f = assignment_within f _ (take_gives _ _ _ _ (λ t s. pure_gives _ (omega arith, omega (arith, ltb-true f.height left t))) stop_gives)

  pub to_statement_within : (f : Found) (k : Form) → Within left f → Gives (Within left) (to_statement b left f k)
  unfolding to_statement
  to_statement_within f form.Variable w = assignment_within f _ (take_gives _ _ _ _ (λ t s. pure_gives _ (omega arith, omega (arith, ltb-true f.height left t))) stop_gives)
  to_statement_within f form.Statement w = pure_gives _ w
  to_statement_within f form.Array w = stop_gives
  to_statement_within f form.Value w = stop_gives

  statement_within : Gives (Within left) (statement_of b left)
  unfolding statement_of
  statement_within = prefixed_within _ (bind_gives _ _ (primary_within aim.Statement) (λ f w. to_statement_within f f.form w))

  init_within : Gives (InitWithin left) (init_of b left)
  unfolding init_of
  init_within = take_gives _ _ _ _ (λ t o. bind_gives _ _ (items_low b.lower.init 1 left (let p = l.lower in p.init) o) (λ s w. pure_gives _ (omega arith, most 0 s.height left w (leb-true 1 left t))))
      (bind_gives _ _ (let p = l.lower in p.whole) (λ f w. pure_gives _ (omega arith, w.1)))

-- ---- every height

pub stop_parts : (n left : ℕ) → LowParts n left no_parts
stop_parts n left = record { whole = stop_gives; level = λ m. stop_gives; variable = stop_gives; init = stop_gives }

parts_low : (n left more : ℕ) (b : Below) → LowBelow left b → (left ≡ 0) ⊎ (left + n ≤ more) → LowParts n more (parts_of b left)
unfolding parts_of
parts_low n left more b l le = record {
  whole = gives_more _ (λ f w. low n left more f le w) (whole_within left b l);
  level = λ m. gives_more _ (λ f w. low n left more f le w) (level_within left b l m);
  variable = gives_more _ (λ f w. low n left more f le w) (variable_within left b l);
  init = gives_more _ (λ i w. init_low n left more i le w) (init_within left b l);
}
  where
    low : (n left more : ℕ) (f : Found) → (left ≡ 0) ⊎ (left + n ≤ more) → Within left f → Lower n more f
    low n left more f (inl z) w = absurd (omega (arith, z, w.0, w.1))
    low n left more f (inr le) w = (w.0, omega (arith, le, w.1))

    init_low : (n left more : ℕ) (i : FoundInit) → (left ≡ 0) ⊎ (left + n ≤ more) → InitWithin left i → InitLower n more i
    init_low n left more i (inl z) w = absurd (omega (arith, z, w.0, w.1))
    init_low n left more i (inr le) w = (w.0, omega (arith, le, w.1))

pub low_below : (left : ℕ) → LowBelow left (below left)
unfolding below
low_below zero = record { lower = parts_low 1 0 0 _ (record { lower = stop_parts 1 0; lowest = stop_parts 2 0 }) (inl refl); lowest = parts_low 2 0 0 _ (record { lower = stop_parts 1 0; lowest = stop_parts 2 0 }) (inl refl) }
low_below (suc left) = record { lower = parts_low 1 left (suc left) (below left) (low_below left) (inr (omega arith)); lowest = raised left (low_below left) }
  where
    raised : (left : ℕ) → LowBelow left (below left) → LowParts 2 (suc left) (below left).lower
    raised left l = let p = l.lower in record {
      whole = gives_more _ (λ f w. (w.0, omega (arith, w.1))) p.whole;
      level = λ m. gives_more _ (λ f w. (w.0, omega (arith, w.1))) (p.level m);
      variable = gives_more _ (λ f w. (w.0, omega (arith, w.1))) p.variable;
      init = gives_more _ (λ f w. (w.0, omega (arith, w.1))) p.init;
    }

pub expr_within : (left : ℕ) → Gives (Within left) (expr left)
expr_within left = whole_within left (below left) (low_below left)

pub init_is_within : (left : ℕ) → Gives (InitWithin left) (init left)
init_is_within left = init_within left (below left) (low_below left)

pub statement_expr_within : (left : ℕ) → Gives (Within left) (statement_expr left)
statement_expr_within left = statement_within left (below left) (low_below left)
