-- Where the rules of a source stop, their error is the one that the grammar alone tells, if that holds of expressions and statements.
use Rattle.std.proofs.Common.{◌≡◌, ◌≢◌, ◌≤◌, ◌<◌, ◌+◌, ℕ, zero, suc, List, [], ◌∷◌, ◌++◌, length, take, drop, Ok, Err, refl, sym, ap, subst, ◌∙◌, arith, append_assoc, ◌⊎◌, inl, inr}
use Rattle.std.proofs.lemmas.List.{append-nil, drop_all, length-append, take_all}
use Rattle.ix_lexer.specs.declared.token.Token.{Token}
use Rattle.ix_grammar.specs.declared.classes.FoundUnit.{FoundUnit}
use Rattle.ix_grammar.specs.declared.error.ParseError.{ParseError}
use Rattle.ix_grammar.specs.declared.error.ParseError.TheVariants as error
use Rattle.ix_grammar_rules.specs.declared.stop.Stop.{Stop}
use Rattle.ix_grammar_rules.specs.declared.stop.Stop.TheVariants.{Syntax, TooDeep, Memory}
use Rattle.ix_grammar_rules.specs.Rule.{Outcome, run}
use Rattle.ix_grammar_rules.specs.ClassRules.{program}
use Rattle.ix_grammar.specs.SourceGrammar.{IsSource}
use Rattle.ix_grammar_rules.specs.SourceRules.{parts, source}
use Rattle.ix_grammar.specs.Begins.{IsLowSource, NoneBegins}
use Rattle.ix_grammar.specs.Refusals.{BeginsLow, Begins, NoMore, Stops, Refused, unfinished, no_further, too_deep}
use Rattle.ix_grammar_rules.specs.Errors.{place, error_at}
use Rattle.ix_grammar_rules.proofs.Runs.{left_of}
use Rattle.ix_grammar_rules.proofs.OverRules.{Further}
use Rattle.ix_parser.proofs.Refusing.{never_at_end}
use Rattle.ix_grammar_rules.proofs.SourceLaws.{high_is, high_is_read, none_begins, none_goes_on, elsewhere, no_error, no_more}
use Rattle.ix_grammar_rules.proofs.SourceOver.{TermsOver, source_over}
use Rattle.ix_grammar_rules.proofs.SourceViable.{TermsViable, high_viable, source_goes}
use Rattle.ix_grammar_rules.proofs.ViableRules.{Goes}

-- ---- fronts of the tokens

-- where fewer tokens are left, more are before them
longer : (seen front : List Token) (token : Token) (later left : List Token) → seen ++ token ∷ later ≡ front ++ left → length left < length (token ∷ later)
    → (more : List Token) × (front ≡ seen ++ token ∷ more)
longer [] [] token later left is less = absurd (omega (arith, less, ap length is))
longer [] (t ∷ front) token later left is less = let same : t ≡ token = cc in (front, ap (λ y. y ∷ front) same)
longer (s ∷ seen) [] token later left is less = absurd (omega (arith, less, ap length is, length-append seen (token ∷ later)))
longer (s ∷ seen) (t ∷ front) token later left is less =
    let same : t ≡ s = cc in
    let others : seen ++ token ∷ later ≡ front ++ left = cc in
    let (more, e) = longer seen front token later left others less in
    (more, ap (λ y. y ∷ front) same ∙ ap (λ y. s ∷ y) e)

fewer : (seen : List Token) (token : Token) (more others : List Token) → (seen ++ token ∷ more) ++ others ≡ (seen ++ token ∷ []) ++ (more ++ others)
fewer seen token more others = append_assoc seen (token ∷ more) others ∙ sym (append_assoc seen (token ∷ []) (more ++ others))

-- fewer of the tokens that begin a source begin it too
fewer_begin : (seen : List Token) (token : Token) (more : List Token) → Begins (seen ++ token ∷ more) → Begins (seen ++ token ∷ [])
fewer_begin seen token more (others, found, d) = (more ++ others, found, subst (λ y. IsSource y found) (fewer seen token more others) d)

fewer_begin_low : (seen : List Token) (token : Token) (more : List Token) → BeginsLow (seen ++ token ∷ more) → BeginsLow (seen ++ token ∷ [])
fewer_begin_low seen token more (others, found, d) = (more ++ others, found, subst (λ y. IsLowSource y found) (fewer seen token more others) d)

take_front : (seen left : List Token) → take (length seen) (seen ++ left) ≡ seen
take_front [] left = refl
take_front (t ∷ seen) left = ap (λ y. t ∷ y) (take_front seen left)

drop_front : (seen left : List Token) → drop (length seen) (seen ++ left) ≡ left
drop_front [] left = refl
drop_front (t ∷ seen) left = drop_front seen left

before : (tokens seen left : List Token) → tokens ≡ seen ++ left → take (length seen) tokens ≡ seen
before tokens seen left is = ap (λ y. take (length seen) y) is ∙ take_front seen left

behind : (tokens seen left : List Token) → tokens ≡ seen ++ left → drop (length seen) tokens ≡ left
behind tokens seen left is = ap (λ y. drop (length seen) y) is ∙ drop_front seen left

placed : (tokens seen left : List Token) → tokens ≡ seen ++ left → place tokens left ≡ length seen
placed tokens seen left is = omega (arith, ap length is, length-append seen left)

-- ---- one error, and no tree, by the grammar alone

-- the token behind the first ones, where there are more
next_one : (tokens : List Token) (k l : ℕ) → k < l → l ≤ length tokens → (token : Token) × (more later : List Token) × (drop k tokens ≡ token ∷ later) × (take l tokens ≡ take k tokens ++ token ∷ more)
next_one [] k l less most = absurd (omega (arith, less, most))
next_one (t ∷ tokens) k zero less most = absurd (omega (arith, less))
next_one (t ∷ tokens) zero (suc l) less most = (t, take l tokens, tokens, refl, refl)
next_one (t ∷ tokens) (suc k) (suc l) less most =
    let (token, more, later, d, e) = next_one tokens k l (omega (arith, less)) (omega (arith, most)) in (token, more, later, d, ap (λ y. t ∷ y) e)

stops_before : (tokens : List Token) (k l : ℕ) → Stops tokens k → Stops tokens l → k < l → ⊥
stops_before tokens k l (a, b, none) (most, begins, c) less =
    let (token, more, later, d, e) = next_one tokens k l less most in
    let no : NoMore (take k tokens) (token ∷ later) = subst (λ y. NoMore (take k tokens) y) d none in
    no (fewer_begin_low (take k tokens) token more (subst BeginsLow e begins))

ordered : (k l : ℕ) → (k < l) ⊎ ((l < k) ⊎ (k ≡ l))
ordered zero zero = inr (inr refl)
ordered zero (suc l) = inl (omega arith)
ordered (suc k) zero = inr (inl (omega arith))
ordered (suc k) (suc l) = elim (ordered k l) [
  | inl less ↦ inl (omega (arith, less))
  | inr other ↦ elim other [
    | inl more ↦ inr (inl (omega (arith, more)))
    | inr same ↦ inr (inr (ap suc same))
  ]
]

pub stops_one : (tokens : List Token) (k l : ℕ) → Stops tokens k → Stops tokens l → k ≡ l
stops_one tokens k l s t = elim (ordered k l) [
  | inl less ↦ absurd (stops_before tokens k l s t less)
  | inr other ↦ elim other [
    | inl more ↦ absurd (stops_before tokens l k t s more)
    | inr same ↦ same
  ]
]

no_next : (tokens later : List Token) (token : Token) (k : ℕ) → length tokens ≡ k → drop k tokens ≡ token ∷ later → ⊥
no_next tokens later token k same is = let none : drop k tokens ≡ [] = subst (λ n. drop n tokens ≡ []) same (drop_all (length tokens) tokens (omega arith)) in cc

same_next : (tokens later others : List Token) (t u : Token) (k l : ℕ) → k ≡ l → drop k tokens ≡ t ∷ later → drop l tokens ≡ u ∷ others → t ≡ u
same_next tokens later others t u k l same a b = let e : t ∷ later ≡ u ∷ others = sym a ∙ ap (λ n. drop n tokens) same ∙ b in cc

begins_same : (tokens : List Token) (t u : Token) (k l : ℕ) → k ≡ l → t ≡ u → Begins (take k tokens ++ t ∷ []) → Begins (take l tokens ++ u ∷ [])
begins_same tokens t u k l a b d = subst (λ n. Begins (take n tokens ++ u ∷ [])) a (subst (λ x. Begins (take k tokens ++ x ∷ [])) b d)

pub refused_one : (tokens : List Token) (e f : ParseError) → Refused tokens e → Refused tokens f → e ≡ f
refused_one tokens _ _ (unfinished s) (unfinished t) = refl
refused_one tokens _ _ (unfinished s) (no_further {later} {token} {number} t is none) = ap error.Syntax (stops_one tokens (length tokens) number s t)
refused_one tokens _ _ (unfinished s) (too_deep {later} {token} {number} t is begins) = absurd (no_next tokens later token number (stops_one tokens (length tokens) number s t) is)
refused_one tokens _ _ (no_further {later} {token} {number} s is none) (unfinished t) = ap error.Syntax (stops_one tokens number (length tokens) s t)
refused_one tokens _ _ (no_further {number = k} s is none) (no_further {number = l} t same other) = ap error.Syntax (stops_one tokens k l s t)
refused_one tokens _ _ (no_further {later} {token = x} {number = k} s is none) (too_deep {later = others} {token = y} {number = l} t same begins) =
    let e = stops_one tokens l k t s in absurd (none (begins_same tokens y x l k e (same_next tokens others later y x l k e same is) begins))
refused_one tokens _ _ (too_deep {later} {token} {number} s is begins) (unfinished t) = absurd (no_next tokens later token number (stops_one tokens (length tokens) number t s) is)
refused_one tokens _ _ (too_deep {later} {token = x} {number = k} s is begins) (no_further {later = others} {token = y} {number = l} t same none) =
    let e = stops_one tokens k l s t in absurd (none (begins_same tokens x y k l e (same_next tokens later others x y k l e is same) begins))
refused_one tokens _ _ (too_deep {later} {token = x} {number = k} s is begins) (too_deep {later = others} {token = y} {number = l} t same other) =
    ap (λ (x : Token). error.TooDeep x.span.from) (same_next tokens later others x y k l (stops_one tokens k l s t) is same)

-- the first tokens of a source begin it
parted : (tokens later : List Token) (token : Token) (k : ℕ) → drop k tokens ≡ token ∷ later → tokens ≡ take k tokens ++ token ∷ later
parted tokens later token zero is = is
parted [] later token (suc k) is = absurd (cc)
parted (t ∷ tokens) later token (suc k) is = ap (λ y. t ∷ y) (parted tokens later token k is)

no_source_behind : (tokens later : List Token) (token : Token) (k : ℕ) (found : FoundUnit) → Stops tokens k → drop k tokens ≡ token ∷ later → IsLowSource tokens found → ⊥
no_source_behind tokens later token k found (a, b, none) is d =
    let no : NoMore (take k tokens) (token ∷ later) = subst (λ y. NoMore (take k tokens) y) is none in
    no (later, found, subst (λ y. IsLowSource y found) (parted tokens later token k is ∙ sym (append_assoc (take k tokens) (token ∷ []) later)) d)

no_source_whole : (tokens : List Token) (found : FoundUnit) → Stops tokens (length tokens) → IsLowSource tokens found → ⊥
no_source_whole tokens found (a, b, none) d =
    let no : NoMore (take (length tokens) tokens) [] = subst (λ y. NoMore (take (length tokens) tokens) y) (drop_all (length tokens) tokens (omega arith)) none in
    no found (subst (λ y. IsLowSource y found) (sym (take_all (length tokens) tokens (omega arith))) d)

pub refused_no_tree : (tokens : List Token) (e : ParseError) (found : FoundUnit) → Refused tokens e → IsLowSource tokens found → ⊥
refused_no_tree tokens _ found (unfinished s) d = no_source_whole tokens found s d
refused_no_tree tokens _ found (no_further {later} {token} {number} s is none) d = no_source_behind tokens later token number found s is d
refused_no_tree tokens _ found (too_deep {later} {token} {number} s is begins) d = no_source_behind tokens later token number found s is d

-- ---- where the rules stop

-- an outcome with more height left
abbrev High : ℕ → List Token → Outcome FoundUnit
High left tokens = run (program parts left) tokens

-- what was taken with more height left begins a source
high_begins : TermsViable → (tokens : List Token) (o : Outcome FoundUnit) → High 205 tokens ≡ o → (seen : List Token) × (tokens ≡ seen ++ left_of o) × Begins seen
high_begins terms tokens (Ok (found, left)) h =
    let s = high_is 205 (omega arith) in
    let (seen, is, d) = s.at tokens left found h in (seen, is, ([], found, subst (λ y. IsSource y found) (sym (append-nil seen)) d.0))
high_begins terms tokens (Err (why, left)) h =
    let v = high_viable terms 205 (omega arith) in
    let (seen, is, (others, found, d)) = v.at tokens left why h in (seen, is, (others, found, d.0))

-- what is read of the tokens
source_front : (tokens left : List Token) (found : FoundUnit) → run source tokens ≡ Ok (found, left) → (seen : List Token) × (tokens ≡ seen ++ left) × IsLowSource seen found
unfolding source
source_front tokens left found h = let s = high_is 200 (omega arith) in s.at tokens left found h

-- ---- the error at the place where the rules stop

none_longer : (seen : List Token) (token : Token) → ((others : List Token) (found : FoundUnit) → IsSource (seen ++ token ∷ others) found → ⊥) → Begins (seen ++ token ∷ []) → ⊥
none_longer seen token none (others, found, d) = none others found (subst (λ y. IsSource y found) (append_assoc seen (token ∷ []) others) d)

none_longer_low : (tokens seen later : List Token) (token : Token) → tokens ≡ seen ++ token ∷ later → NoneBegins tokens (token ∷ later) → BeginsLow (seen ++ token ∷ []) → ⊥
none_longer_low tokens seen later token is none (others, found, d) = none seen is others found (subst (λ y. IsLowSource y found) (append_assoc seen (token ∷ []) others) d)

-- the tokens before this one are those that go on
stops_at : (tokens seen later : List Token) (token : Token) → tokens ≡ seen ++ token ∷ later → BeginsLow seen → NoneBegins tokens (token ∷ later) → Stops tokens (length seen)
stops_at tokens seen later token is begins none = (
  omega (arith, ap length is, length-append seen (token ∷ later)),
  subst BeginsLow (sym (before tokens seen (token ∷ later) is)) begins,
  subst (λ y. NoMore y (drop (length seen) tokens)) (sym (before tokens seen (token ∷ later) is))
      (subst (λ y. NoMore seen y) (sym (behind tokens seen (token ∷ later) is)) (none_longer_low tokens seen later token is none)),
)

-- all tokens go on, and are none
stops_whole : (tokens : List Token) → BeginsLow tokens → NoneBegins tokens [] → Stops tokens (length tokens)
stops_whole tokens begins none = (
  omega arith,
  subst BeginsLow (sym (take_all (length tokens) tokens (omega arith))) begins,
  subst (λ y. NoMore y (drop (length tokens) tokens)) (sym (take_all (length tokens) tokens (omega arith))) (subst (λ y. NoMore tokens y) (sym (drop_all (length tokens) tokens (omega arith))) none),
)

-- the error at this token
refused_at : (tokens seen later : List Token) (token : Token) → tokens ≡ seen ++ token ∷ later → BeginsLow seen → NoneBegins tokens (token ∷ later)
    → ((others : List Token) (found : FoundUnit) → IsSource (seen ++ token ∷ others) found → ⊥) → Refused tokens (error.Syntax (place tokens (token ∷ later)))
refused_at tokens seen later token is begins low any =
    subst (λ n. Refused tokens (error.Syntax n)) (sym (placed tokens seen (token ∷ later) is)) (no_further (stops_at tokens seen later token is begins low) (behind tokens seen (token ∷ later) is)
    (λ b. none_longer seen token any (subst (λ y. Begins (y ++ token ∷ [])) (before tokens seen (token ∷ later) is) b)))

refused_deep : (tokens seen later : List Token) (token : Token) → tokens ≡ seen ++ token ∷ later → BeginsLow seen → NoneBegins tokens (token ∷ later) → Begins (seen ++ token ∷ []) → Refused tokens (error.TooDeep token.span.from)
refused_deep tokens seen later token is begins low any =
    too_deep (stops_at tokens seen later token is begins low) (behind tokens seen (token ∷ later) is) (subst (λ y. Begins (y ++ token ∷ [])) (sym (before tokens seen (token ∷ later) is)) any)

refused_end : (tokens seen : List Token) → tokens ≡ seen ++ [] → BeginsLow seen → NoneBegins tokens [] → Refused tokens (error.Syntax (place tokens []))
refused_end tokens seen is begins none =
    let all : length tokens ≡ place tokens [] = omega arith in
    subst (λ n. Refused tokens (error.Syntax n)) all (unfinished (stops_whole tokens (subst BeginsLow (sym (is ∙ append-nil seen)) begins) none))

-- ---- where expressions and statements go on, and are read with more height left

module _ (viable : TermsViable) (over : TermsOver) where
  further : (tokens : List Token) (more : ℕ) (o : Outcome FoundUnit) → 205 ≤ more → run source tokens ≡ o → Further o (High more tokens)
  further tokens more o room h = let s = source_over over more room in subst (λ o. Further o (High more tokens)) h (s.at tokens)

  -- The tokens before the one at which the rules stop begin a source of a height of at most 200.
  pub goes_low : (tokens left : List Token) (why : Stop) → run source tokens ≡ Err (why, left) → (seen : List Token) × (tokens ≡ seen ++ left) × Goes IsLowSource seen
  goes_low tokens left why h = source_goes viable tokens why left h

  -- With a token that is too deep they begin a higher one.
  pub goes_any : (tokens seen later : List Token) (token : Token) → run source tokens ≡ Err (TooDeep, token ∷ later) → tokens ≡ seen ++ token ∷ later → Goes IsSource (seen ++ token ∷ [])
  goes_any tokens seen later token h is =
      let less : length (left_of (High 205 tokens)) < length (token ∷ later) = further tokens 205 (Err (TooDeep, token ∷ later)) (omega arith) h in
      let (front, same, begins) = high_begins viable tokens (High 205 tokens) refl in
      let (more, e) = longer seen front token later (left_of (High 205 tokens)) (sym is ∙ same) less in
      fewer_begin seen token more (subst Begins e begins)

  -- With another token they begin none of any height.
  pub none_any : (tokens seen later : List Token) (token : Token) → run source tokens ≡ Err (Syntax, token ∷ later) → tokens ≡ seen ++ token ∷ later
      → (others : List Token) (found : FoundUnit) → IsSource (seen ++ token ∷ others) found → ⊥
  none_any tokens seen later token h is others found d =
      let high : High (found.height + 205) (seen ++ token ∷ others) ≡ Err (Syntax, token ∷ others) =
      further (seen ++ token ∷ others) (found.height + 205) (Err (Syntax, token ∷ others)) (omega arith) (elsewhere tokens (Err (Syntax, token ∷ later)) token later seen others h refl is) in
      no_error (Syntax, token ∷ others) found (High (found.height + 205) (seen ++ token ∷ others)) high (high_is_read (found.height + 205) (seen ++ token ∷ others) found d (omega arith))

  -- Likewise with a token that is left behind a source.
  pub none_any_behind : (tokens seen later : List Token) (token : Token) (other : FoundUnit) → run source tokens ≡ Ok (other, token ∷ later) → tokens ≡ seen ++ token ∷ later
      → (others : List Token) (found : FoundUnit) → IsSource (seen ++ token ∷ others) found → ⊥
  none_any_behind tokens seen later token other h is others found d =
      let high : High (found.height + 205) (seen ++ token ∷ others) ≡ Ok (other, token ∷ others) =
      further (seen ++ token ∷ others) (found.height + 205) (Ok (other, token ∷ others)) (omega arith) (elsewhere tokens (Ok (other, token ∷ later)) token later seen others h refl is) in
      no_more other found token others (High (found.height + 205) (seen ++ token ∷ others)) high (high_is_read (found.height + 205) (seen ++ token ∷ others) found d (omega arith))

  -- The error of the rules is the one that the grammar tells.
  pub refused_exact : (tokens left : List Token) (why : Stop) → why ≢ Memory → run source tokens ≡ Err (why, left) → Refused tokens (error_at why tokens left)
  refused_exact tokens [] Syntax other h = let (seen, is, low) = goes_low tokens [] Syntax h in refused_end tokens seen is low (none_begins tokens Syntax [] h)
  refused_exact tokens (token ∷ later) Syntax other h =
      let (seen, is, low) = goes_low tokens (token ∷ later) Syntax h in
      refused_at tokens seen later token is low (none_begins tokens Syntax (token ∷ later) h) (none_any tokens seen later token h is)
  refused_exact tokens [] TooDeep other h = absurd (never_at_end tokens h)
  refused_exact tokens (token ∷ later) TooDeep other h =
      let (seen, is, low) = goes_low tokens (token ∷ later) TooDeep h in
      refused_deep tokens seen later token is low (none_begins tokens TooDeep (token ∷ later) h) (goes_any tokens seen later token h is)
  refused_exact tokens left Memory other h = absurd (other refl)

  -- Likewise where tokens are left behind a source.
  pub refused_behind : (tokens left : List Token) (found : FoundUnit) → length left ≢ 0 → run source tokens ≡ Ok (found, left) → Refused tokens (error.Syntax (place tokens left))
  refused_behind tokens [] found some h = absurd (some refl)
  refused_behind tokens (token ∷ later) found some h =
      let (seen, is, d) = source_front tokens (token ∷ later) found h in
      refused_at tokens seen later token is ([], found, subst (λ y. IsLowSource y found) (sym (append-nil seen)) d) (none_goes_on tokens found token later h) (none_any_behind tokens seen later token found h is)
