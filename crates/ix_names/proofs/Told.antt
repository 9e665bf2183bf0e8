-- What a statement tells, read off what its parts tell.
use Rattle.std.proofs.Common.{◌≡◌, ◌++◌, ◌∷◌, [], ◌+◌, ℕ, List, length, take, map, Result, Ok, Err, OnOk, ◌<◌, ◌^◌, ◌∙◌, ap, sym, subst, append_assoc, arith}
use Rattle.ix_meaning.specs.declared.note.Note.{Note}
use Rattle.ix_meaning.specs.Scope.{Scope}
use Rattle.ix_meaning.specs.Bodies.{Telling, after, then_told, noted_then, then_noted, closed}
use Rattle.ix_expression_types.specs.declared.scope.Scopes.{Scopes}
use Rattle.ix_expression_types.specs.Here.{here, names, local_known, param_known, Extends}
use Rattle.ix_class_members.specs.declared.world.World.{World as Tables}
use Rattle.ix_names.specs.Told.{Told}
use Rattle.ix_names.proofs.Prefix.{extends_same, extends_trans, take_extended}

counted : (a b c : ℕ) → (a + b) + c ≡ a + (b + c)
counted a b c = omega arith

pub same_names : (s v : Scopes) → v.params ≡ s.params → v.locals.entries ≡ s.locals.entries → names v ≡ names s
same_names s v params locals =
    ap (λ ps. map param_known ps ++ map local_known v.locals.entries) params ∙ ap (λ ls. map param_known s.params ++ map local_known ls) locals

pub joined : {m o : List Note} (n xs ys : List Note) → m ≡ n ++ xs → o ≡ m ++ ys → o ≡ n ++ (xs ++ ys)
joined n xs ys first second = second ∙ ap (λ l. l ++ ys) first ∙ append_assoc n xs ys

module _ {here : Scopes → Scope} where
  pub then_notes : {t : Telling} {s u : Scopes} {n m o : List Note} (f : Scope → List Note) → Told here t s u n m → o ≡ m ++ f (here u) → o ≡ n ++ (t.notes (here s) ++ f (after t (here s)))
  then_notes {t} {s} {u} {n} {m} {o} f a noted = joined n (t.notes (here s)) (f (after t (here s))) a.notes (noted ∙ ap (λ (h : Scope). m ++ f h) a.scope)

  pub then_scope : {t : Telling} {s u x : Scopes} {n m : List Note} (v : Telling) → Told here t s u n m → here x ≡ after v (here u) → here x ≡ after (then_told t v) (here s)
  then_scope {t} {s} {u} {x} {n} {m} v a behind =
      behind ∙ ap (λ (h : Scope). after v h) a.scope ∙ ap (λ (k : ℕ). record (here s) { names = v.names (after t (here s)); next = k }) (counted (here s).next t.declares v.declares)

  pub told_then : {t v : Telling} {s u x : Scopes} {n m o : List Note} → Told here t s u n m → Told here v u x m o → Told here (then_told t v) s x n o
  told_then {t} {v} {s} {u} {x} a b = record { notes = then_notes v.notes a b.notes; scope = then_scope v a b.scope; keeps = extends_trans s u x a.keeps b.keeps }

  pub told_before : {t : Telling} {s u : Scopes} {n m o : List Note} (f : Scope → List Note) → m ≡ n ++ f (here s) → Told here t s u m o → Told here (noted_then f t) s u n o
  told_before {t} {s} {u} {n} f noted a = record { notes = joined n (f (here s)) (t.notes (here s)) noted a.notes; scope = a.scope; keeps = a.keeps }

  pub told_behind : {t : Telling} {s u : Scopes} {n m o : List Note} (f : Scope → List Note) → Told here t s u n m → o ≡ m ++ f (here u) → Told here (then_noted t f) s u n o
  told_behind f a noted = record { notes = then_notes f a noted; scope = a.scope; keeps = a.keeps }

  -- `e` is the scope that was opened, and `u` what stood there before it was left
  pub told_closed : {t : Telling} {s e u v : Scopes} {n m : List Note} → Told here t e u n m → here e ≡ here s → e.params ≡ s.params → e.locals.entries ≡ s.locals.entries
      → e.marks.items ≡ s.marks.items ++ length s.locals.entries ∷ [] → v.params ≡ u.params
      → ((outer : List ℕ) (mark : ℕ) → u.marks.items ≡ outer ++ mark ∷ [] → v.locals.entries ≡ take mark u.locals.entries)
      → ((outer : List ℕ) (mark : ℕ) → u.marks.items ≡ outer ++ mark ∷ [] → v.marks.items ≡ outer)
      → (v.params ≡ s.params → v.locals.entries ≡ s.locals.entries → (here v).names ≡ (here s).names) → here v ≡ record (here u) { names = (here v).names } → Told here (closed t) s v n m
  told_closed {t} {s} {e} {u} {v} {n} a entered from_params from_locals marked params locals marks same rest =
      let top : u.marks.items ≡ s.marks.items ++ length s.locals.entries ∷ [] = a.keeps.marks ∙ marked in
      let same_params : v.params ≡ s.params = params ∙ a.keeps.params ∙ from_params in
      let count : length s.locals.entries ≡ length e.locals.entries = ap (λ l. length l) (sym from_locals) in
      let same_locals : v.locals.entries ≡ s.locals.entries =
      locals s.marks.items (length s.locals.entries) top ∙ ap (λ (k : ℕ). take k u.locals.entries) count ∙ take_extended e u a.keeps ∙ from_locals in
      record {
        notes = a.notes ∙ ap (λ (h : Scope). n ++ t.notes h) entered;
        scope = rest ∙ ap (λ (h : Scope). record h { names = (here v).names }) (a.scope ∙ ap (λ (h : Scope). after t h) entered) ∙ ap (λ ks. record (after t (here s)) { names = ks }) (same same_params same_locals);
        keeps = extends_same s v same_params same_locals (marks s.marks.items (length s.locals.entries) top);
      }

pub told_if : (here : Scopes → Scope) (t : Telling) (s u : Scopes) (n m : List Note) {T E : Type 0} (r : Result T E)
    → OnOk r (m ≡ n ++ t.notes (here s)) → OnOk r (here u ≡ after t (here s)) → OnOk r (Extends s u) → OnOk r (Told here t s u n m)
told_if here t s u n m (Ok made) notes scope keeps = record { notes = notes; scope = scope; keeps = keeps }
told_if here t s u n m (Err cause) notes scope keeps = tt

-- what comes next has room
pub room_behind : (w : Tables) (t v : Telling) (s u : Scopes) (n m : List Note) → Told (here w) t s u n m → s.next + (then_told t v).declares < 2 ^ 32 → u.next + v.declares < 2 ^ 32
room_behind w t v s u n m told room =
    let next : u.next ≡ s.next + t.declares = ap (λ (h : Scope). h.next) told.scope in
    subst (λ (k : ℕ). k + v.declares < 2 ^ 32) (sym next) (subst (λ (k : ℕ). k < 2 ^ 32) (sym (counted s.next t.declares v.declares)) room)
