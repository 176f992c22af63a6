-- The pieces of a table are its lines.
use Rattle.std.proofs.Common.{◌≡◌, ◌∙◌, ℕ, zero, suc, min, ◌+◌, ◌*◌, ◌/◌, ◌%◌, ◌<◌, ◌≤◌, List, [], ◌∷◌, ◌++◌, map, length, get_or, take, drop, sym, ap, subst, arith, append_assoc, Some, Ok, Result}
use Rattle.std.specs.Prelude.{slice_get, IfOk}
use Rattle.std.specs.List.{concat}
use Rattle.std.specs.Fork.{slice_chunk}
use Rattle.std.proofs.Math.Nat.{suc-mul, zero-mul}
use Rattle.std.proofs.Math.Seq.{take-add}
use Rattle.std.proofs.lemmas.Grind.{div_ceil_times, flat_map-append}
use Rattle.std.proofs.lemmas.List.{append-nil, get_or-drop, get_or-map, length-append, length-drop, length-map, map-append, nil_from_length, take_all, take_more}
use Rattle.std.proofs.lemmas.List.Folds.{concat-append}
use Rattle.std.proofs.lemmas.Option.{get_or_from_slice_get, slice_get-get_or, slice_get_within}
use Rattle.sz_types.specs.Tables.{Declaration}
use Rattle.sz_total.specs.Tables.{Indexed}
use Rattle.sz_print.specs.Lines.{row_lines}
use Rattle.sz_print.specs.Tables.{table_lines}

-- what stands at a place after others stands at its offset among those from there on
pub found_after : {X : Type 0} (from : ℕ) (all : List X) (offset : ℕ) (one : X)
    → slice_get all (from + offset) ≡ Some one → slice_get (drop from all) offset ≡ Some one
found_after from all offset one there =
    slice_get-get_or (drop from all) offset one
    (omega (arith, length-drop from all, slice_get_within all (from + offset) one there))
    ∙ ap Some (get_or-drop from all offset one ∙ get_or_from_slice_get all (from + offset) one one there)

module _ {E : Type 0} (table : Declaration) (all : List Indexed) (size : ℕ) (made : List (Result (List ℕ) E)) where
  -- what was made are the lines of the pieces
  abbrev AreLines : Type 0
  AreLines = (n : ℕ) (d : Result (List ℕ) E) → n < length made
      → IfOk (get_or made n d) (λ piece. piece ≡ table_lines table (slice_chunk all size n))

  module _ (pieces : List (List ℕ)) (same : map Ok pieces ≡ made) (each : AreLines) where
    long : length pieces ≡ length made
    long = sym (length-map pieces Ok) ∙ ap length same

    piece_at : (n : ℕ) → n < length pieces → get_or pieces n [] ≡ table_lines table (slice_chunk all size n)
    piece_at n below =
        let found : get_or made n (Ok []) ≡ Ok (get_or pieces n []) =
        ap (λ xs. get_or xs n (Ok [])) (sym same) ∙ get_or-map Ok pieces n [] (Ok []) below in
        subst (λ r. IfOk r (λ piece. piece ≡ table_lines table (slice_chunk all size n))) found
        (each n (Ok []) (omega (arith, long, below)))

    lines_so_far : (n : ℕ) → n ≤ length pieces → concat (take n pieces) ≡ table_lines table (take (n * size) all)
    lines_so_far zero few = ap (λ k. table_lines table (take k all)) (sym (zero-mul size))
    lines_so_far (suc n) few =
        let next : suc n ≡ n + 1 = omega arith in
        let below : n < length pieces = omega arith in
        let piece = get_or pieces n [] in
        let before = take (n * size) all in
        ap (λ k. concat (take k pieces)) next
        ∙ ap concat (take_more pieces n [] below)
        ∙ concat-append (take n pieces) (piece ∷ [])
        ∙ ap (λ t. t ++ concat (piece ∷ [])) (lines_so_far n (omega arith))
        ∙ ap (λ t. table_lines table before ++ t) (append-nil piece ∙ piece_at n below)
        ∙ sym (flat_map-append (λ (s : Indexed). row_lines table s.indexes s.rows) before (slice_chunk all size n))
        ∙ ap (table_lines table) (sym (take-add (n * size) size all))
        ∙ ap (λ k. table_lines table (take k all)) (sym (suc-mul n size))

    -- the pieces in order are the lines of the table
    pub pieces_are_lines : 0 < size → length made ≡ length all / size + min 1 (length all % size)
        → concat pieces ≡ table_lines table all
    pieces_are_lines some is =
        let reach = (div_ceil_times (length all) size some).0 in
        sym (ap concat (take_all (length pieces) pieces (omega arith)))
        ∙ lines_so_far (length pieces) (omega arith)
        ∙ ap (table_lines table)
        (take_all (length pieces * size) all (omega (arith, ap (λ n. n * size) (long ∙ is), reach)))

-- one piece more was made
pub one_made : {X E : Type 0} (pieces : List X) (piece : X) (rest all : List (Result X E))
    → map Ok pieces ++ Ok piece ∷ rest ≡ all → map Ok (pieces ++ piece ∷ []) ++ rest ≡ all
one_made pieces piece rest all is = ap (λ xs. xs ++ rest) (map-append Ok pieces (piece ∷ []))
    ∙ append_assoc (map Ok pieces) (Ok piece ∷ []) rest ∙ is

-- nothing is left, so all were made
pub all_are_made : {X : Type 0} (made rest all : List X) → length rest ≡ 0 → made ++ rest ≡ all → made ≡ all
all_are_made made rest all none is =
    sym (append-nil made) ∙ ap (λ xs. made ++ xs) (sym (nil_from_length rest none)) ∙ is

-- nothing is left, so all were appended
pub all_are_appended : (text all : List ℕ) (rest : List (List ℕ)) → length rest ≡ 0
    → text ++ concat rest ≡ all → text ≡ all
all_are_appended text all rest none is =
    sym (append-nil text) ∙ ap (λ xs. text ++ concat xs) (sym (nil_from_length rest none)) ∙ is

-- the length of one piece more, up to the highest number
pub length_more : (pieces : List (List ℕ)) (at high before now : ℕ) (item piece : List ℕ) → at < length pieces
    → item ≡ get_or pieces at item
    → piece ≡ item → before ≡ min (length (concat (take at pieces))) high → now ≡ min (before + length piece) high
    → now ≡ min (length (concat (take (at + 1) pieces))) high
length_more pieces at high before now item piece below found same was is =
    let front = concat (take at pieces) in
    let last = get_or pieces at item in
    let grown : length (concat (take (at + 1) pieces)) ≡ length front + length piece =
    ap (λ xs. length (concat xs)) (take_more pieces at item below)
    ∙ ap length (concat-append (take at pieces) (last ∷ []))
    ∙ length-append front (concat (last ∷ []))
    ∙ ap (λ t. length front + length t) (append-nil last ∙ sym found ∙ sym same) in
    omega (arith, grown, was, is)
