-- The open calls, when one cell, the innermost candidate list or the innermost call changes.
use Rattle.std.proofs.Common.{◌≡◌, ◌∙◌, ℕ, suc, ◌+◌, ◌<◌, ◌≤◌, List, [], ◌∷◌, ◌++◌, length, take, drop, reverse, set, get_or, Some, refl, sym, ap, arith}
use Rattle.std.proofs.lemmas.List.{drop-set-add, take-set-le, length-reverse, length-take-le, drop-append-le, take-append-le, reverse-append}
use Rattle.sz_value.specs.Data.{Datum}
use Rattle.sz_world_rules.specs.Slots.{Slot}
use Rattle.sz_machine_cells.specs.Calls.{Open, after_next}
use Rattle.sz_machine_cells.specs.Waiting.{callers_of, open_calls}
use Rattle.sz_machine_cells.specs.declared.calls.Waiting.{Waiting}
use Rattle.sz_machine_cells.proofs.ListLemmas.{split_last, set_last}

-- as many routines wait as are noted
count_of_callers : (ws : List Waiting) (cells : List Slot) (lists : List (List Datum))
    → length (callers_of ws cells lists) ≡ length ws
count_of_callers [] cells lists = refl
count_of_callers (w ∷ ws) cells lists = ap suc (count_of_callers ws (take w.locals cells) (take w.lists lists))

module _ (waiting : List Waiting) (cells : List Slot) (lists : List (List Datum)) (cells_from lists_from : ℕ) where
  -- as many routines wait as are noted
  pub open_count : length (open_calls waiting cells lists cells_from lists_from).callers ≡ length waiting
  open_count = count_of_callers (reverse waiting) (take cells_from cells) (take lists_from lists)
      ∙ length-reverse waiting

  -- one local of the routine that runs is another
  pub one_kept : (n : ℕ) (x : Slot) → open_calls waiting (set cells (cells_from + n) x) lists cells_from lists_from
      ≡ record (open_calls waiting cells lists cells_from lists_from) { locals = set (drop cells_from cells) n x }
  one_kept n x =
      let before = take-set-le cells_from cells (cells_from + n) x (omega arith) in
      λ i. record {
        locals = drop-set-add cells_from cells n x i;
        lists = reverse (drop lists_from lists);
        callers = callers_of (reverse waiting) (before i) (take lists_from lists);
      }

  -- the calls with another candidate list on top of these
  on_top : (front : List (List Datum)) (l : List Datum) → lists_from ≤ length front
      → open_calls waiting cells (front ++ l ∷ []) cells_from lists_from
      ≡ record (open_calls waiting cells front cells_from lists_from) { lists = l ∷ reverse (drop lists_from front) }
  on_top front l h =
      let inner = ap reverse (drop-append-le lists_from front (l ∷ []) h)
      ∙ reverse-append (drop lists_from front) (l ∷ []) in
      let before = take-append-le lists_from front (l ∷ []) h in
      λ i. record {
        locals = drop cells_from cells;
        lists = inner i;
        callers = callers_of (reverse waiting) (take cells_from cells) (before i);
      }

  -- the innermost candidate list is that at the place `last`
  module _ (last : ℕ) (is_last : suc last ≡ length lists) (within : lists_from < length lists) where
    within_front : lists_from ≤ length (take last lists)
    within_front = omega (arith, within, is_last, length-take-le last lists (omega (arith, is_last)))

    -- the calls with that list on top
    topped : (d : List Datum) → open_calls waiting cells lists cells_from lists_from
        ≡ record (open_calls waiting cells (take last lists) cells_from lists_from) {
          lists = get_or lists last d ∷ reverse (drop lists_from (take last lists));
        }
    topped d =
        ap (λ l. open_calls waiting cells l cells_from lists_from) (split_last lists last d is_last)
        ∙ on_top (take last lists) (get_or lists last d) within_front

    -- it is dropped
    pub list_dropped : open_calls waiting cells (take last lists) cells_from lists_from
        ≡ record (open_calls waiting cells lists cells_from lists_from) {
          lists = drop 1 (open_calls waiting cells lists cells_from lists_from).lists;
        }
    list_dropped =
        let dropped : Open → Open = λ o. record o { lists = drop 1 o.lists } in
        let e : dropped (open_calls waiting cells lists cells_from lists_from)
        ≡ record (open_calls waiting cells
        (take last lists) cells_from lists_from) { lists = reverse (drop lists_from (take last lists)) } =
        ap dropped (topped []) in
        let changed : open_calls waiting cells (take last lists) cells_from lists_from
        ≡ record (open_calls waiting cells lists cells_from lists_from) {
          lists = drop 1 (open_calls waiting cells lists cells_from lists_from).lists;
        } =
        sym e in
        changed

    -- its next candidate is taken into a local
    pub one_taken : (n : ℕ) (d : Datum) (rest z : List Datum) → get_or lists last z ≡ d ∷ rest
        → record (open_calls waiting cells (set lists last rest) cells_from lists_from) {
          locals = set (drop cells_from cells) n (Some d);
        }
        ≡ after_next n (open_calls waiting cells lists cells_from lists_from)
    one_taken n d rest z e =
        let kept : Open → Open = λ o. record o { locals = set (drop cells_from cells) n (Some d) } in
        let with_top : List Datum → Open =
        λ l. record (open_calls waiting cells (take last lists) cells_from lists_from) {
          lists = l ∷ reverse (drop lists_from (take last lists));
        } in
        let left : kept (open_calls waiting cells (set lists last rest) cells_from lists_from) ≡ kept (with_top rest) =
        ap (λ l. kept (open_calls waiting cells l cells_from lists_from)) (set_last lists last rest is_last)
        ∙ ap kept (on_top (take last lists) rest within_front) in
        let right : after_next n (open_calls waiting cells lists cells_from lists_from)
        ≡ after_next n (with_top (d ∷ rest)) =
        ap (after_next n) (topped z) ∙ ap (λ l. after_next n (with_top l)) e in
        left ∙ sym right
