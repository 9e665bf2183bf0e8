-- The names of the accesses in an expression of the grammar are read as identifiers.
use Rattle.std.proofs.Common.{◌≡◌, suc, negsuc, true, false, if◌then◌else◌, List, [], ◌∷◌, ◌++◌, map, Option, Some, None, sym, subst, ◌∙◌}
use Rattle.ix_text.specs.declared.span.Span.{Span}
use Rattle.ix_lexer.specs.declared.token.Token.{Token}
use Rattle.ix_lexer.specs.declared.fixed.TheConstants.{DOT, COMMA, CLOSE_PAREN, OPEN_BRACKET, CLOSE_BRACKET, OPEN_BRACE, CLOSE_BRACE}
use Rattle.ix_tree.specs.declared.annot.Ident.{Ident}
use Rattle.ix_tree.specs.declared.decl.LocalDecl.{LocalDecl}
use Rattle.ix_tree.specs.declared.expr.BinaryOp.{BinaryOp}
use Rattle.ix_tree.specs.declared.expr.Expr.{Expr}
use Rattle.ix_tree.specs.declared.expr.ExprKind.{ExprKind}
use Rattle.ix_tree.specs.declared.expr.ExprKind.TheVariants as e
use Rattle.ix_tree.specs.declared.expr.Init.{Init}
use Rattle.ix_tree.proofs.FoldsOfForms as fold
use Rattle.ix_grammar.specs.declared.declarations.FoundDecl.{FoundDecl}
use Rattle.ix_grammar.specs.declared.declarations.FoundMods.{FoundMods}
use Rattle.ix_grammar.specs.declared.declarations.Shared.{Shared}
use Rattle.ix_grammar.specs.declared.found.Args.{Args}
use Rattle.ix_grammar.specs.declared.found.Found.{Found}
use Rattle.ix_grammar.specs.declared.found.FoundDecls.{FoundDecls}
use Rattle.ix_grammar.specs.declared.found.FoundInit.{FoundInit}
use Rattle.ix_grammar.specs.declared.found.FoundItems.{FoundItems}
use Rattle.ix_grammar.specs.declared.found.FoundType.{FoundType}
use Rattle.ix_grammar.specs.declared.found.Several.{Several}
use Rattle.ix_grammar.specs.Nodes.{across}
use Rattle.ix_grammar.specs.Patterns.{sign, name_token}
use Rattle.ix_grammar.specs.Lists.{first_item, next_item}
use Rattle.ix_grammar.specs.ExprNodes.{created_type}
use Rattle.ix_grammar.specs.ExprGrammar as g
use Rattle.ix_grammar.specs.ExprGrammar.{Kind, IsExpr, IsExprs, IsArgs, IsInit, IsInits, IsItems}
use Rattle.ix_grammar.specs.DeclGrammar as d
use Rattle.ix_grammar.specs.DeclGrammar.{shared, IsDecl, IsDecls}
use Rattle.ix_grammar.specs.StmtGrammar as s
use Rattle.ix_grammar.specs.StmtGrammar.{IsLocal}
use Rattle.ix_guard_text.specs.Names.{IsName, HaveNames}
use Rattle.ix_guard.specs.Accesses.{Access, Parts, Reading, nothing, both, all, each, called, is_always, operands, as_target, own_access, or_inside, accessing, unnamed, kind_step, init_step, expr_step, reading, init_parts, parts_of, decl_parts, all_decl_parts}

-- ---- lists

pub record IsNamedAccess (access : Access) : Type 0 where
  pub array : IsName access.array.text
  pub index : IsName access.index.text

abbrev pub AllNamed : List Access → Type 0
AllNamed [] = Unit {0}
AllNamed (access ∷ rest) = IsNamedAccess access × AllNamed rest

pub named_both : (xs ys : List Access) → AllNamed xs → AllNamed ys → AllNamed (xs ++ ys)
named_both [] ys a b = b
named_both (x ∷ xs) ys a b = (a.0, named_both xs ys a.1 b)

pub names_split : (ts us : List Token) → HaveNames (ts ++ us) → HaveNames ts × HaveNames us
names_split [] us h = (tt, h)
names_split (t ∷ ts) us h = let r = names_split ts us h.1 in ((h.0, r.0), r.1)

abbrev NamedMaybe : Option Ident → Type 0
NamedMaybe None = Unit {0}
NamedMaybe (Some name) = IsName name.text

-- a reading, and what is in it
record IsNamedReading (r : Reading) : Type 0 where
  pub name : NamedMaybe r.name
  pub accesses : AllNamed r.parts.accesses

abbrev AllReadings : List Reading → Type 0
AllReadings [] = Unit {0}
AllReadings (r ∷ rs) = IsNamedReading r × AllReadings rs

abbrev AllParts : List Parts → Type 0
AllParts [] = Unit {0}
AllParts (p ∷ ps) = AllNamed p.accesses × AllParts ps

all_readings : (rs : List Reading) → AllReadings rs → AllNamed (all (each rs)).accesses
all_readings [] h = tt
all_readings (r ∷ rs) h = named_both r.parts.accesses (all (each rs)).accesses h.0.accesses (all_readings rs h.1)

all_parts_named : (ps : List Parts) → AllParts ps → AllNamed (all ps).accesses
all_parts_named [] h = tt
all_parts_named (p ∷ ps) h = named_both p.accesses (all ps).accesses h.0 (all_parts_named ps h.1)

readings_joined : (xs : List Expr) (x : Expr) → AllReadings (map reading xs) → IsNamedReading (reading x) → AllReadings (map reading (xs ++ x ∷ []))
readings_joined [] x a b = (b, tt)
readings_joined (y ∷ xs) x a b = (a.0, readings_joined xs x a.1 b)

inits_joined : (xs : List Init) (x : Init) → AllParts (map init_parts xs) → AllNamed (init_parts x).accesses → AllParts (map init_parts (xs ++ x ∷ []))
inits_joined [] x a b = (b, tt)
inits_joined (y ∷ xs) x a b = (a.0, inits_joined xs x a.1 b)

decls_joined : (xs : List LocalDecl) (x : LocalDecl) → AllParts (map decl_parts xs) → AllNamed (decl_parts x).accesses → AllParts (map decl_parts (xs ++ x ∷ []))
decls_joined [] x a b = (b, tt)
decls_joined (y ∷ xs) x a b = (a.0, decls_joined xs x a.1 b)

-- ---- nodes

plain : (parts : Parts) → AllNamed parts.accesses → IsNamedReading (unnamed parts)
plain parts h = record { name = tt; accesses = h }

-- a node by what its kind is read as
made : (k : ExprKind) (span : Span) (r : Reading) → fold.of_kind kind_step init_step expr_step k ≡ r → IsNamedReading r → IsNamedReading (reading (record { kind = k; span = span }))
made k span r is h = subst IsNamedReading (sym (fold.expr_is kind_step init_step expr_step k span ∙ is)) h

inside_named : (x y : Option Ident) (inside : List Access) → NamedMaybe x → NamedMaybe y → AllNamed inside → AllNamed (or_inside (own_access x y) inside)
inside_named None y inside a b c = c
inside_named (Some x) None inside a b c = c
inside_named (Some x) (Some y) inside a b c = (record { array = a; index = b }, tt)

operands_named : (op : BinaryOp) (left right : Parts) → AllNamed left.accesses → AllNamed right.accesses → AllNamed (operands op left right).accesses
operands_named op left right a b = elim (is_always op) as (λ t. AllNamed (if t then left.accesses ++ right.accesses else left.accesses)) [ true ↦ named_both left.accesses right.accesses a b | false ↦ a ]

-- ---- the grammar

mutual
  expr_named : (k : Kind) (ts : List Token) (f : Found) → IsExpr k ts f → HaveNames ts → IsNamedReading (reading f.expr)
  expr_named _ _ _ (g.number n s) h = made (e.Int n) s _ (fold.int_kind kind_step init_step expr_step n) (plain nothing tt)
  expr_named _ _ _ (g.truth s) h = made (e.Bool true) s _ (fold.bool_kind kind_step init_step expr_step true) (plain nothing tt)
  expr_named _ _ _ (g.falsity s) h = made (e.Bool false) s _ (fold.bool_kind kind_step init_step expr_step false) (plain nothing tt)
  expr_named _ _ _ (g.null s) h = made e.Null s _ (fold.null_kind kind_step init_step expr_step) (plain nothing tt)
  expr_named _ _ _ (g.this s) h = made e.This s _ (fold.this_kind kind_step init_step expr_step) (plain nothing tt)
  expr_named _ _ _ (g.variable x) h = made (e.Name x) x.span _ (fold.name_kind kind_step init_step expr_step x) (record { name = h.0; accesses = tt })
  expr_named _ _ _ (g.call x {ts} {a} c) h =
      made (e.Call None x a.items) (across x.span a.end) _ (fold.call_kind kind_step init_step expr_step x a.items) (plain (called None (map reading a.items)) (all_readings (map reading a.items) (args_named ts a c h.1)))
  expr_named _ _ _ (g.paren left right {ts} {f} c) h = expr_named g.Whole ts f c (names_split ts (sign CLOSE_PAREN right ∷ []) h.1).0
  expr_named _ _ _ (g.select dot x {ts} {f} c) h =
      let r = expr_named g.Primary ts f c (names_split ts (sign DOT dot ∷ name_token x ∷ []) h).0 in
      made (e.Select f.expr x) (across f.outer x.span) _ (fold.select_kind kind_step init_step expr_step f.expr x) (plain (reading f.expr).parts r.accesses)
  expr_named _ _ _ (g.call_on dot x {ts} {us} {f} {a} c b) h =
      let n = names_split ts (sign DOT dot ∷ name_token x ∷ us) h in
      let r = expr_named g.Primary ts f c n.0 in
      let more = all_readings (map reading a.items) (args_named us a b n.1.1.1) in
      made (e.Call (Some f.expr) x a.items) (across f.outer a.end) _ (fold.call_on_kind kind_step init_step expr_step f.expr x a.items)
      (plain (called (Some (reading f.expr)) (map reading a.items)) (named_both (reading f.expr).parts.accesses (all (each (map reading a.items))).accesses r.accesses more))
  expr_named _ _ _ (g.index left right {ts} {us} {f} {g = p} c open_array b) h =
      let n = names_split ts (sign OPEN_BRACKET left ∷ (us ++ sign CLOSE_BRACKET right ∷ [])) h in
      let one = expr_named g.Primary ts f c n.0 in
      let two = expr_named g.Whole us p b (names_split us (sign CLOSE_BRACKET right ∷ []) n.1.1).0 in
      made (e.Index f.expr p.expr) (across f.outer right) _ (fold.index_kind kind_step init_step expr_step f.expr p.expr)
      (plain (accessing (reading f.expr) (reading p.expr))
      (inside_named (reading f.expr).name (reading p.expr).name ((reading f.expr).parts.accesses ++ (reading p.expr).parts.accesses) one.name two.name
      (named_both (reading f.expr).parts.accesses (reading p.expr).parts.accesses one.accesses two.accesses)))
  expr_named _ _ _ (g.new_object start x {ts} {a} c) h =
      made (e.New x a.items) (across start a.end) _ (fold.new_kind kind_step init_step expr_step x a.items) (plain (all (each (map reading a.items))) (all_readings (map reading a.items) (args_named ts a c h.1.1)))
  expr_named _ _ _ (g.array_of_length start left right {before} {base_tokens} {us} {tokens} {notes} {base} {g = p} {brackets} n b c m) h =
      let one = names_split before (base_tokens ++ sign OPEN_BRACKET left ∷ (us ++ sign CLOSE_BRACKET right ∷ tokens)) h.1 in
      let two = names_split base_tokens (sign OPEN_BRACKET left ∷ (us ++ sign CLOSE_BRACKET right ∷ tokens)) one.1 in
      let r = expr_named g.Whole us p c (names_split us (sign CLOSE_BRACKET right ∷ tokens) two.1.1).0 in
      let ty = (created_type base notes brackets).ty in
      made (e.NewArray ty p.expr) (across start brackets.span) _ (fold.new_array_kind kind_step init_step expr_step ty p.expr) (plain (reading p.expr).parts r.accesses)
  expr_named _ _ _ (g.array_of_items start open_at {before} {base_tokens} {tokens} {us} {notes} {base} {brackets} {s} n b m c) h =
      let one = names_split before (base_tokens ++ (tokens ++ sign OPEN_BRACE open_at ∷ us)) h.1 in
      let two = names_split base_tokens (tokens ++ sign OPEN_BRACE open_at ∷ us) one.1 in
      let three = names_split tokens (sign OPEN_BRACE open_at ∷ us) two.1 in
      let ty = (created_type base notes brackets).ty in
      made (e.NewItems ty s.items) (across start s.end) _ (fold.new_items_kind kind_step init_step expr_step ty s.items)
      (plain (all (map init_parts s.items)) (all_parts_named (map init_parts s.items) (items_named us s c three.1.1)))
  expr_named _ _ _ (g.primary {ts} {f} c) h = expr_named g.Primary ts f c h
  expr_named _ _ _ (g.least minus literal) h = made (e.Int (negsuc 2147483647)) (across minus literal) _ (fold.int_kind kind_step init_step expr_step (negsuc 2147483647)) (plain nothing tt)
  expr_named _ _ _ (g.signed number op s {ts} {f} r c) h =
      let one = expr_named (g.Level 0) ts f c h.1 in made (e.Unary op f.expr) (across s f.outer) _ (fold.unary_kind kind_step init_step expr_step op f.expr) (plain (reading f.expr).parts one.accesses)
  expr_named _ _ _ (g.step_before number up s {ts} {f} r c v) h =
      let one = expr_named g.Primary ts f c h.1 in made (e.Step up false f.expr) (across s f.outer) _ (fold.step_kind kind_step init_step expr_step up false f.expr) (plain (as_target (reading f.expr)) one.accesses)
  expr_named _ _ _ (g.step_after number up s {ts} {f} r c v) h =
      let one = expr_named g.Primary ts f c (names_split ts (sign number s ∷ []) h).0 in
      made (e.Step up true f.expr) (across f.outer s) _ (fold.step_kind kind_step init_step expr_step up true f.expr) (plain (as_target (reading f.expr)) one.accesses)
  expr_named _ _ _ (g.wider {level} {ts} {f} c) h = expr_named (g.Level level) ts f c h
  expr_named _ _ _ (g.operators level number op s {ts} {us} {f} {g = p} r c x) h =
      let n = names_split ts (sign number s ∷ us) h in
      let one = expr_named (g.Level (suc level)) ts f c n.0 in
      let two = expr_named (g.Level level) us p x n.1.1 in
      made (e.Binary op f.expr p.expr) (across f.outer p.outer) _ (fold.binary_kind kind_step init_step expr_step op f.expr p.expr)
      (plain (operands op (reading f.expr).parts (reading p.expr).parts) (operands_named op (reading f.expr).parts (reading p.expr).parts one.accesses two.accesses))
  expr_named _ _ _ (g.binary {ts} {f} c) h = expr_named (g.Level 10) ts f c h
  expr_named _ _ _ (g.assign number op s {ts} {us} {f} {g = p} r c v x) h =
      let n = names_split ts (sign number s ∷ us) h in
      let one = expr_named g.Primary ts f c n.0 in
      let two = expr_named g.Whole us p x n.1.1 in
      made (e.Assign op f.expr p.expr) (across f.outer p.outer) _ (fold.assign_kind kind_step init_step expr_step op f.expr p.expr)
      (plain (both (as_target (reading f.expr)) (reading p.expr).parts) (named_both (reading f.expr).parts.accesses (reading p.expr).parts.accesses one.accesses two.accesses))

  exprs_named : (ts : List Token) (s : Several) → IsExprs ts s → HaveNames ts → AllReadings (map reading s.items)
  exprs_named _ _ (g.one {ts} {f} c) h = (expr_named g.Whole ts f c h, tt)
  exprs_named _ _ (g.and comma {ts} {us} {s} {f} c x) h =
      let n = names_split ts (sign COMMA comma ∷ us) h in readings_joined s.items f.expr (exprs_named ts s c n.0) (expr_named g.Whole us f x n.1.1)

  args_named : (ts : List Token) (a : Args) → IsArgs ts a → HaveNames ts → AllReadings (map reading a.items)
  args_named _ _ (g.no_args left right) h = tt
  args_named _ _ (g.some_args left right {ts} {s} x) h = exprs_named ts s x (names_split ts (sign CLOSE_PAREN right ∷ []) h.1).0

  init_named : (ts : List Token) (i : FoundInit) → IsInit ts i → HaveNames ts → AllNamed (init_parts i.init).accesses
  init_named _ _ (g.value {ts} {f} c) h = subst (λ (p : Parts). AllNamed p.accesses) (sym (fold.value_is kind_step init_step expr_step f.expr)) (expr_named g.Whole ts f c h).accesses
  init_named _ _ (g.entries open_at {ts} {s} c) h =
      subst (λ (p : Parts). AllNamed p.accesses) (sym (fold.items_are kind_step init_step expr_step s.items (across open_at s.end))) (all_parts_named (map init_parts s.items) (items_named ts s c h.1))

  inits_named : (ts : List Token) (s : FoundItems) → IsInits ts s → HaveNames ts → AllParts (map init_parts s.items)
  inits_named _ _ (g.first {ts} {i} c) h = (init_named ts i c h, tt)
  inits_named _ _ (g.later comma {ts} {us} {s} {i} c x) h =
      let n = names_split ts (sign COMMA comma ∷ us) h in inits_joined s.items i.init (inits_named ts s c n.0) (init_named us i x n.1.1)

  items_named : (ts : List Token) (s : FoundItems) → IsItems ts s → HaveNames ts → AllParts (map init_parts s.items)
  items_named _ _ (g.no_items right) h = tt
  items_named _ _ (g.some_items right {ts} {s} c) h = inits_named ts s c (names_split ts (sign CLOSE_BRACE right ∷ []) h).0
  items_named _ _ (g.with_comma comma right {ts} {s} c) h = inits_named ts s c (names_split ts (sign COMMA comma ∷ sign CLOSE_BRACE right ∷ []) h).0

-- The names of the accesses in an expression are identifiers.
pub accesses_named : (ts : List Token) (f : Found) → IsExpr g.Whole ts f → HaveNames ts → AllNamed (parts_of f.expr).accesses
accesses_named ts f c h = (expr_named g.Whole ts f c h).accesses

-- ---- declarations of locals

decl_named : (shared : Shared) (ts : List Token) (f : FoundDecl) → IsDecl IsInit shared ts f → HaveNames ts → AllNamed (decl_parts f.decl).accesses
decl_named shared _ _ (d.plain name) h = tt
decl_named shared _ _ (d.with_init name assign {tokens} {found} c) h = init_named tokens found c h.1.1

decls_named : (shared : Shared) (ts : List Token) (f : FoundDecls) → IsDecls IsInit shared ts f → HaveNames ts → AllParts (map decl_parts f.decls)
decls_named shared _ _ (first_item {tokens} {item} c) h = (decl_named shared tokens item c h, tt)
decls_named shared _ _ (next_item {before} {tokens} {items} {item} comma c x) h =
    let n = names_split before (sign COMMA comma ∷ tokens) h in decls_joined items.decls item.decl (decls_named shared before items c n.0) (decl_named shared tokens item x n.1.1)

pub local_named : (ts : List Token) (mods : FoundMods) (ty : FoundType) (f : FoundDecls) → IsLocal ts mods ty f → HaveNames ts → AllNamed (all_decl_parts f.decls).accesses
local_named _ _ _ _ (s.local {first} {second} {third} {mods} {ty} {found} m t c) h =
    all_parts_named (map decl_parts found.decls) (decls_named (shared mods ty) third found c (names_split second third (names_split first (second ++ third) h).1).1)
