-- What is made of the values that are shown.
use Rattle.std.proofs.Common.{◌≡◌, ◌∙◌, ℕ, List, ◌∷◌, ◌++◌, map, replicate, sym, ap, Ordering, IsSorted, append_assoc}
use Rattle.std.specs.Borrow.{Bor}
use Rattle.std.specs.List.Sorted.{IsStable}
use Rattle.std.specs.Cmp.{on_total}
use Rattle.sz_types.specs.declared.table.TableKind.{TableKind}
use Rattle.sz_value.specs.Data.{Datum}
use Rattle.sz_value.specs.Order.{compare}
use Rattle.sz_value.specs.Total.{compare_total}
use Rattle.sz_value.specs.Seen.{seen}
use Rattle.sz_value.specs.declared.value.Value.{Value}
use Rattle.sz_tabs.specs.Sorting.{sorted}
use Rattle.sz_tabs.proofs.ForCallers.{stable_sort_is_sorted, sorted_mapped}
use Rattle.sz_members.specs.Showing.{times_shown, shown_of, seen_ref}
use Rattle.sz_members.specs.Repeats.{seen_repeated}

abbrev ref_order : Bor Value → Bor Value → Ordering
ref_order v w = compare (seen_ref v) (seen_ref w)

-- what a stable sort leaves of values that are lent
pub refs_sorted : (old new : List (Bor Value)) → IsSorted ref_order new → IsStable ref_order old new
    → map seen_ref new ≡ sorted compare (map seen_ref old)
refs_sorted old new in_order stable =
    ap (map seen_ref) (stable_sort_is_sorted (on_total seen_ref compare_total) old new in_order stable)
    ∙ sym (sorted_mapped compare seen_ref old)

-- one value more is made
pub shown_more : (kind : TableKind) (made now all : List Datum) (v : Value) (n : ℕ) (es rest : List (Value × ℕ))
    → es ≡ (v, n) ∷ rest → now ≡ made ++ replicate (times_shown kind n) (seen v)
    → made ++ shown_of kind (map seen_repeated es) ≡ all → now ++ shown_of kind (map seen_repeated rest) ≡ all
shown_more kind made now all v n es rest is more so_far =
    ap (λ l. l ++ shown_of kind (map seen_repeated rest)) more
    ∙ append_assoc made (replicate (times_shown kind n) (seen v)) (shown_of kind (map seen_repeated rest))
    ∙ ap (λ l. made ++ shown_of kind (map seen_repeated l)) (sym is) ∙ so_far
