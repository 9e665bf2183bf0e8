-- Objects and the rows that their cells lie in.
use Rattle.std.proofs.Common.{◌≡◌, append-nil, append_assoc, ℕ, zero, suc, ◌+◌, ◌-◌, ◌<◌, ◌≤◌, List, [], ◌∷◌, ◌++◌, length, map, take, drop, set, replicate, slice_get, get_or, Some, None, refl, ap, sym, ◌∙◌, subst, arith, length-drop}
use Rattle.std.proofs.lemmas.List.{take_all}
use Rattle.std.proofs.Math.Seq.{take-set-lt, take-length}
use Rattle.std.proofs.lemmas.List.{map-append, take_more, take-set-le, drop-set-lt, drop-set-add, map-set, length-take-le, get_or-take, get_or-drop, drop-drop, length-map, set_past, set-get_or, get_or_past, take-append-le, drop-append-le}
use Rattle.std.proofs.lemmas.Option.{slice_get_within, slice_get-get_or, slice_get-map}
use Rattle.std.specs.Prelude.{unwrap_or, is_some, pos}
use Rattle.std.proofs.lemmas.Bool.{true≢false}
use Rattle.ix_core.specs.Heap.{Object, cells_used}
use Rattle.ix_core.specs.Heap as model
use Rattle.ix_core.proofs.Heaps.{value_is, object_is}
use Rattle.ix_machine_state.specs.declared.held.Held.{Held}
use Rattle.ix_machine_state.specs.declared.heap.Row.{Row}
use Rattle.ix_machine_state.specs.declared.heap.Heap.{Heap}
use Rattle.std.proofs.Common.{vec_len, Vec, length-append}
use Rattle.std.specs.declared.alloc.Global.{Global}
use Rattle.std.proofs.lemmas.Grind.{common_steps}
use Rattle.ix_machine_state.specs.Added.{Added}
use Rattle.ix_machine_state.specs.Layout.{IsLaidOut}
use Rattle.ix_machine_state.specs.Rows.{held_of, kind_of, object_of, objects_of}

pub laid_le : (at : ℕ) (rows : List Row) (end : ℕ) → IsLaidOut at rows end → at ≤ end
laid_le at [] end laid = omega (arith, laid)
laid_le at (row ∷ rows) end laid = omega (arith, laid_le (at + row.len) rows end laid.1)

-- the cells of a row, where the first of these rows has the first of the cells
pub record Lies (at : ℕ) (rows : List Row) (cells : List Held) (number : ℕ) (row : Row) : Type 0 where
  pub place : ℕ
  pub from : row.from ≡ at + place
  pub within : place + row.len ≤ length cells
  pub object : slice_get (objects_of rows cells) number ≡ Some (object_of row (take row.len (drop place cells)))
  pub written : (index : ℕ) (value : Held) → index < row.len
      → objects_of rows (set cells (place + index) value) ≡ set (objects_of rows cells) number (object_of row (set (take row.len (drop place cells)) index value))

pub lies : (at : ℕ) (rows : List Row) (cells : List Held) (number : ℕ) (row : Row) → IsLaidOut at rows (at + length cells) → slice_get rows number ≡ Some row → Lies at rows cells number row
lies at [] cells number row laid found = absurd (omega (arith, slice_get_within [] number row found))
lies at (first ∷ rows) cells zero row laid found =
    let same : first ≡ row = ap (λ o. unwrap_or o first) found in
    let short : at + first.len ≤ at + length cells = laid_le (at + first.len) rows (at + length cells) laid.1 in
    subst (λ r. Lies at (first ∷ rows) cells zero r) same record {
      place = 0;
      from = omega (arith, laid.0);
      within = omega (arith, short);
      object = refl;
      written = λ index value h.
          let e : 0 + index ≡ index = omega arith in
          rw (e, take-set-lt first.len cells index value h, drop-set-lt first.len cells index value h) refl;
    }
lies at (first ∷ rows) cells (suc number) row laid found =
    let short : at + first.len ≤ at + length cells = laid_le (at + first.len) rows (at + length cells) laid.1 in
    let rest : length (drop first.len cells) ≡ length cells - first.len = length-drop first.len cells in
    let ends : at + length cells ≡ at + first.len + length (drop first.len cells) = omega (arith, short, rest) in
    let inner = lies (at + first.len) rows (drop first.len cells) number row (subst (λ end. IsLaidOut (at + first.len) rows end) ends laid.1) found in
    record {
      place = first.len + inner.place;
      from = omega (arith, inner.from);
      within = omega (arith, inner.within, rest, short);
      object = inner.object ∙ ap (λ cells. Some (object_of row (take row.len cells))) (drop-drop inner.place first.len cells);
      written = λ index value h.
          let e : first.len + inner.place + index ≡ first.len + (inner.place + index) = omega arith in
          let le : first.len ≤ first.len + (inner.place + index) = omega arith in
          rw (e, take-set-le first.len cells (first.len + (inner.place + index)) value le, drop-set-add first.len cells (inner.place + index) value, sym (drop-drop inner.place first.len cells))
          (ap (λ objects. object_of first (take first.len cells) ∷ objects) (inner.written index value h));
    }

-- no row, no object
pub missing : (rows : List Row) (cells : List Held) (number : ℕ) → slice_get rows number ≡ None → slice_get (objects_of rows cells) number ≡ None
missing [] cells number found = refl
missing (first ∷ rows) cells zero found = absurd (true≢false (ap is_some found))
missing (first ∷ rows) cells (suc number) found = missing rows (drop first.len cells) number found

-- ---- one row more

pub laid_more : (at : ℕ) (rows : List Row) (end : ℕ) (row : Row) → IsLaidOut at rows end → row.from ≡ end → IsLaidOut at (rows ++ row ∷ []) (end + row.len)
laid_more at [] end row laid from = (omega (arith, laid, from), ap (λ n. n + row.len) laid)
laid_more at (first ∷ rows) end row laid from = (laid.0, laid_more (at + first.len) rows end row laid.1 from)

no_cells : (cells : List Held) → length cells ≡ 0 → cells ≡ []
no_cells [] e = refl
no_cells (cell ∷ cells) e = absurd (omega (arith, e))

pub objects_more : (at : ℕ) (rows : List Row) (cells more : List Held) (row : Row) → IsLaidOut at rows (at + length cells) → row.len ≡ length more
    → objects_of (rows ++ row ∷ []) (cells ++ more) ≡ objects_of rows cells ++ object_of row more ∷ []
objects_more at [] cells more row laid whole =
    let none : cells ≡ [] = no_cells cells (omega (arith, laid)) in
    rw (none, whole, take-length more) refl
objects_more at (first ∷ rows) cells more row laid whole =
    let short : at + first.len ≤ at + length cells = laid_le (at + first.len) rows (at + length cells) laid.1 in
    let rest : length (drop first.len cells) ≡ length cells - first.len = length-drop first.len cells in
    let ends : at + length cells ≡ at + first.len + length (drop first.len cells) = omega (arith, short, rest) in
    let le : first.len ≤ length cells = omega (arith, short) in
    rw (take-append-le first.len cells more le, drop-append-le first.len cells more le)
    (ap (λ objects. object_of first (take first.len cells) ∷ objects) (objects_more (at + first.len) rows (drop first.len cells) more row (subst (λ end. IsLaidOut (at + first.len) rows end) ends laid.1) whole))

-- ---- cells that were taken

pub used_rows : (at : ℕ) (rows : List Row) (cells : List Held) → IsLaidOut at rows (at + length cells) → length cells + length rows ≡ cells_used (objects_of rows cells)
used_rows at [] cells laid = omega (arith, laid)
used_rows at (first ∷ rows) cells laid =
    let short : at + first.len ≤ at + length cells = laid_le (at + first.len) rows (at + length cells) laid.1 in
    let rest : length (drop first.len cells) ≡ length cells - first.len = length-drop first.len cells in
    let ends : at + length cells ≡ at + first.len + length (drop first.len cells) = omega (arith, short, rest) in
    let own : length (map held_of (take first.len cells)) ≡ first.len = length-map (take first.len cells) held_of ∙ length-take-le first.len cells (omega (arith, short)) in
    omega (arith, own, short, rest, used_rows (at + first.len) rows (drop first.len cells) (subst (λ end. IsLaidOut (at + first.len) rows end) ends laid.1))

-- ---- a object by its row

-- a object with the cells of its row
pub object_is_row : (rows : List Row) (cells : List Held) (number : ℕ) (row : Row) (laid : IsLaidOut 0 rows (0 + length cells)) (found : slice_get rows number ≡ Some row)
    → model.object_at (objects_of rows cells) number ≡ object_of row (take row.len (drop row.from cells))
object_is_row rows cells number row laid found =
    let it = lies 0 rows cells number row laid found in
    let place : it.place ≡ row.from = omega (arith, it.from) in
    ap (λ o. unwrap_or o model.nothing) it.object ∙ ap (λ n. object_of row (take row.len (drop n cells))) place

pub none_is : (rows : List Row) (cells : List Held) (number : ℕ) → slice_get rows number ≡ None → model.object_at (objects_of rows cells) number ≡ model.nothing
none_is rows cells number found = rw (missing rows cells number found) refl

pub row_within : (rows : List Row) (cells : List Held) (number : ℕ) (row : Row) → IsLaidOut 0 rows (0 + length cells) → slice_get rows number ≡ Some row → row.from + row.len ≤ length cells
row_within rows cells number row laid found =
    let it = lies 0 rows cells number row laid found in
    omega (arith, it.from, it.within)

pub cells_length : (rows : List Row) (cells : List Held) (number : ℕ) (row : Row) → IsLaidOut 0 rows (0 + length cells) → slice_get rows number ≡ Some row
    → row.len ≡ length (model.object_at (objects_of rows cells) number).cells
cells_length rows cells number row laid found =
    let within = row_within rows cells number row laid found in
    let rest : length (drop row.from cells) ≡ length cells - row.from = length-drop row.from cells in
    sym (ap (λ (object : Object). length object.cells) (object_is_row rows cells number row laid found) ∙ (length-map (take row.len (drop row.from cells)) held_of ∙ length-take-le row.len (drop row.from cells) (omega (arith, within, rest))))

pub cell_value : (rows : List Row) (cells : List Held) (number : ℕ) (row : Row) (index : ℕ) (default : Held) → IsLaidOut 0 rows (0 + length cells) → slice_get rows number ≡ Some row
    → index < row.len → held_of (get_or cells (row.from + index) default) ≡ model.value_at (model.object_at (objects_of rows cells) number).cells index
cell_value rows cells number row index default laid found h =
    let within = row_within rows cells number row laid found in
    let rest : length (drop row.from cells) ≡ length cells - row.from = length-drop row.from cells in
    let size : length (take row.len (drop row.from cells)) ≡ row.len = length-take-le row.len (drop row.from cells) (omega (arith, within, rest)) in
    let inside : index < length (take row.len (drop row.from cells)) = omega (arith, size, h) in
    let at : get_or (take row.len (drop row.from cells)) index default ≡ get_or cells (row.from + index) default = get_or-take row.len (drop row.from cells) index default h ∙ get_or-drop row.from cells index default in
    let got : slice_get (take row.len (drop row.from cells)) index ≡ Some (get_or cells (row.from + index) default) = slice_get-get_or (take row.len (drop row.from cells)) index default inside ∙ ap Some at in
    sym (rw (object_is_row rows cells number row laid found, slice_get-map held_of (take row.len (drop row.from cells)) index, got) refl)

pub cell_written : (rows : List Row) (cells : List Held) (number : ℕ) (row : Row) (index : ℕ) (value : Held) → IsLaidOut 0 rows (0 + length cells) → slice_get rows number ≡ Some row
    → index < row.len → objects_of rows (set cells (row.from + index) value) ≡ model.write_at (objects_of rows cells) number index (held_of value)
cell_written rows cells number row index value laid found h =
    let it = lies 0 rows cells number row laid found in
    let place : it.place ≡ row.from = omega (arith, it.from) in
    let whole = subst (λ n. objects_of rows (set cells (n + index) value) ≡ set (objects_of rows cells) number (object_of row (set (take row.len (drop n cells)) index value))) place (it.written index value h) in
    whole ∙ ap (set (objects_of rows cells) number) (rw (object_is_row rows cells number row laid found, map-set held_of (take row.len (drop row.from cells)) index value) refl)

-- a cell that isn't there holds 0, and a write of it changes nothing
pub value_past : (cells : List model.Held) (place : ℕ) → length cells ≤ place → model.Num (pos 0) ≡ model.value_at cells place
value_past cells place h = sym (value_is cells place ∙ get_or_past cells place (model.Num (pos 0)) h)

pub write_past : (heap : List Object) (number place : ℕ) (value : model.Held) → length (model.object_at heap number).cells ≤ place → model.write_at heap number place value ≡ heap
write_past heap number place value h =
    rw (set_past (model.object_at heap number).cells place value h, object_is heap number) (set-get_or heap number model.nothing)

-- ---- a heap

pub vec_length : (cells : Vec Held Global) → vec_len cells ≡ length cells.items
vec_length cells = grind (arith, common_steps)

pub row_length : (rows : Vec Row Global) → vec_len rows ≡ length rows.items
row_length rows = grind (arith, common_steps)

pub laid : (heap : Heap) → IsLaidOut 0 heap.rows.items (0 + length heap.cells.items)
laid heap = let e : vec_len heap.cells ≡ 0 + length heap.cells.items = omega (arith, vec_length heap.cells) in subst (λ n. IsLaidOut 0 heap.rows.items n) e heap.apart

pub row_inside : (heap : Heap) (number : ℕ) (row : Row) → slice_get heap.rows.items number ≡ Some row → row.from + row.len ≤ vec_len heap.cells
row_inside heap number row found = omega (arith, row_within heap.rows.items heap.cells.items number row (laid heap) found, vec_length heap.cells)

pub cells_more : (heap : Heap) (cells : Vec Held Global) (more : List Held) → cells.items ≡ heap.cells.items ++ more → vec_len cells ≡ vec_len heap.cells + length more
cells_more heap cells more copies = vec_length cells ∙ (ap length copies ∙ (length-append heap.cells.items more ∙ rw (vec_length heap.cells) refl))

pub laid_after : (heap : Heap) (rows : Vec Row Global) (cells : Vec Held Global) (row : Row) (more : List Held) → rows.items ≡ heap.rows.items ++ row ∷ [] → cells.items ≡ heap.cells.items ++ more
    → row.from ≡ vec_len heap.cells → row.len ≡ length more → IsLaidOut 0 rows.items (vec_len cells)
laid_after heap rows cells row more added copies from size =
    let n : vec_len cells ≡ vec_len heap.cells + row.len = cells_more heap cells more copies ∙ rw size refl in
    rw (added, n) (laid_more 0 heap.rows.items (vec_len heap.cells) row heap.apart from)

pub rows_more : (heap : Heap) (rows : Vec Row Global) (row : Row) → rows.items ≡ heap.rows.items ++ row ∷ [] → vec_len rows ≡ vec_len heap.rows + 1
rows_more heap rows row added = row_length rows ∙ (ap length added ∙ (length-append heap.rows.items (row ∷ []) ∙ rw (row_length heap.rows) refl))

pub count_objects : (rows : List Row) (cells : List Held) → length (objects_of rows cells) ≡ length rows
count_objects [] cells = refl
count_objects (row ∷ rows) cells = ap (λ n. suc n) (count_objects rows (drop row.len cells))

pub map-replicate : {A B : Type 0} (f : A → B) (n : ℕ) (x : A) → map f (replicate n x) ≡ replicate n (f x)
map-replicate f zero x = refl
map-replicate f (suc n) x = ap (λ rest. f x ∷ rest) (map-replicate f n x)

pub made : (heap : Heap) (rows : Vec Row Global) (cells : Vec Held Global) (row : Row) (more : List Held) → rows.items ≡ heap.rows.items ++ row ∷ [] → cells.items ≡ heap.cells.items ++ more
    → row.len ≡ length more → objects_of rows.items cells.items ≡ objects_of heap.rows.items heap.cells.items ++ record { kind = kind_of row.kind; cells = map held_of more } ∷ []
made heap rows cells row more added copies size =
    rw (added, copies, objects_more 0 heap.rows.items heap.cells.items more row (laid heap) size) refl

pub used_is : (heap : Heap) → vec_len heap.cells + vec_len heap.rows ≡ cells_used (objects_of heap.rows.items heap.cells.items)
used_is heap = omega (arith, vec_length heap.cells, row_length heap.rows, used_rows 0 heap.rows.items heap.cells.items (laid heap))

pub row_kind : (heap : Heap) (number : ℕ) (row : Row) → slice_get heap.rows.items number ≡ Some row → (model.object_at (objects_of heap.rows.items heap.cells.items) number).kind ≡ kind_of row.kind
row_kind heap number row found = ap (λ (object : Object). object.kind) (object_is_row heap.rows.items heap.cells.items number row (laid heap) found)

pub added_length : {old new : List Held} {values : List model.Held} (added : Added old new values) → length added.more ≡ length values
added_length added = sym (length-map added.more held_of) ∙ ap length added.values

pub made_of : (heap : Heap) (rows : Vec Row Global) (cells : Vec Held Global) (row : Row) (values : List model.Held) → rows.items ≡ heap.rows.items ++ row ∷ [] → (added : Added heap.cells.items cells.items values)
    → row.len ≡ length added.more → objects_of rows.items cells.items ≡ objects_of heap.rows.items heap.cells.items ++ record { kind = kind_of row.kind; cells = values } ∷ []
made_of heap rows cells row values is added size =
    made heap rows cells row added.more is added.items size ∙ ap (λ vs. objects_of heap.rows.items heap.cells.items ++ record { kind = kind_of row.kind; cells = vs } ∷ []) added.values

pub added_none : (cells : List Held) → Added cells cells []
added_none cells = record { more = []; items = sym (append-nil cells); values = refl }

pub added_more : (old new more : List Held) (values : List model.Held) (value : Held) (shown : model.Held) → Added old new values → more ≡ new ++ value ∷ [] → held_of value ≡ shown → Added old more (values ++ shown ∷ [])
added_more old new more values value shown added is same = record {
  more = added.more ++ value ∷ [];
  items = is ∙ (ap (λ xs. xs ++ value ∷ []) added.items ∙ append_assoc old added.more (value ∷ []));
  values = map-append held_of added.more (value ∷ []) ∙ (ap (λ vs. vs ++ held_of value ∷ []) added.values ∙ ap (λ v. values ++ v ∷ []) same);
}

taken_map : {A B : Type 0} (f : A → B) (xs : List A) (index : ℕ) (default : A) → index < length xs → map f (take (index + 1) xs) ≡ map f (take index xs) ++ f (get_or xs index default) ∷ []
taken_map f xs index default within = ap (map f) (take_more xs index default within) ∙ map-append f (take index xs) (get_or xs index default ∷ [])

pub added_step : {A : Type 0} (f : A → model.Held) (xs : List A) (index : ℕ) (default : A) (old new more : List Held) (value : Held) → index < length xs → Added old new (map f (take index xs)) → more ≡ new ++ value ∷ []
    → held_of value ≡ f (get_or xs index default) → Added old more (map f (take (index + 1) xs))
added_step f xs index default old new more value within added is same =
    subst (λ values. Added old more values) (sym (taken_map f xs index default within)) (added_more old new more (map f (take index xs)) value (f (get_or xs index default)) added is same)

-- the last step was the last element's
pub added_whole : {A : Type 0} (f : A → model.Held) (xs : List A) (index : ℕ) (old new : List Held) → length xs ≤ index → Added old new (map f (take index xs)) → Added old new (map f xs)
added_whole f xs index old new past added = subst (λ ys. Added old new (map f ys)) (take_all index xs past) added

pub used_sum : (heap : Heap) (cells rows : ℕ) → cells ≡ vec_len heap.cells → rows ≡ vec_len heap.rows → cells + rows ≡ cells_used (objects_of heap.rows.items heap.cells.items)
used_sum heap cells rows few some = omega (arith, few, some, used_is heap)
