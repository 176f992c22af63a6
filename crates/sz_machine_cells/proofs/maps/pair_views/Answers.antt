-- A part is a key that waits, or the value of the key that waited.
use Rattle.std.proofs.Common.{rules, ◌≡◌, ◌<◌, ◌+◌, ◌++◌, ◌∷◌, [], length, take, get_or, Some, None, sym, subst}
use Rattle.std.specs.Option.{option_map}
use Rattle.sz_builtin.specs.Views.{seen_view}
use Rattle.sz_machine_cells.specs.Results.{ArePaired, defined_of}
use Rattle.sz_machine_cells.specs.PairViews.{seen_pair_views}
use Rattle.sz_machine_cells.proofs.TurnLemmas.{key_waits, pair_made, none_waits, one_longer}
use Rattle.sz_machine_cells.proofs.maps.pair_views.Goals as goal
use Rattle.sz_machine_cells.proofs.maps.pair_views.Goals.{in-Some-take+in_ok-push-in-Some-take, in-None}

pub loop-cell-preserved-in_default : goal.loop-cell-preserved-in_default
loop-cell-preserved-in_default c =
    let xs = c.args.cells.now in
    let i = c.loop-cell.cell-index in
    let inside : i < length xs = search rules in
    let none : c.cell-item.result ≡ None = search rules in
    let here = subst (λ y. y ≡ get_or xs i y) none c.cell-item.is in
    one_longer xs i None inside here _ _ (none_waits (take i xs) _ _ c.loop-cell.invariant)

pub loop-cell-preserved : goal.loop-cell-preserved
loop-cell-preserved c =
    let xs = c.args.cells.now in
    let i = c.loop-cell.cell-index in
    let before_pairs = c.loop-cell.pairs.items in
    let view = c.in-Some.view in
    let inside : i < length xs = search rules in
    let some : c.cell-item.result ≡ Some (seen_view view) = search rules in
    let here = subst (λ y. y ≡ get_or xs i y) some c.cell-item.is in
    elim c.match-take.branch [
      | in-Some-take+in_ok-push-in-Some-take w ↦
          let key : c.loop-cell.waiting ≡ Some w.in-Some-take.key = search (rules, w.in-Some-take.is) in
          let before = subst (λ v. ArePaired (defined_of (take i xs)) (seen_pair_views before_pairs)
          (option_map seen_view v)) key c.loop-cell.invariant in
          let made = one_longer xs i (Some (seen_view view)) inside here _ None
          (pair_made (take i xs) before_pairs w.in-Some-take.key view before) in
          let pairs : c.match-take.pairs.items ≡ before_pairs ++ record { key = w.in-Some-take.key; value = view }
          ∷ [] = search (rules, w.pairs-is) in
          let left : c.match-take.waiting ≡ None = search (rules, w.waiting-is) in
          subst (λ ps. ArePaired (defined_of (take (i + 1) xs)) (seen_pair_views ps)
          (option_map seen_view c.match-take.waiting)) (sym pairs)
          (subst (λ v. ArePaired (defined_of (take (i + 1) xs)) (seen_pair_views (before_pairs
          ++ record { key = w.in-Some-take.key; value = view } ∷ [])) (option_map seen_view v)) (sym left) made)
      | in-None w ↦
          let empty : c.loop-cell.waiting ≡ None = search (rules, w.in-None.is) in
          let before = subst (λ v. ArePaired (defined_of (take i xs)) (seen_pair_views before_pairs)
          (option_map seen_view v)) empty c.loop-cell.invariant in
          let made = one_longer xs i (Some (seen_view view)) inside here _ (Some (seen_view view))
          (key_waits (take i xs) before_pairs view before) in
          let pairs : c.match-take.pairs.items ≡ before_pairs = search (rules, w.pairs-is) in
          let waits : c.match-take.waiting ≡ Some view = search (rules, w.waiting-is) in
          subst (λ ps. ArePaired (defined_of (take (i + 1) xs)) (seen_pair_views ps)
          (option_map seen_view c.match-take.waiting)) (sym pairs)
          (subst (λ v. ArePaired (defined_of (take (i + 1) xs)) (seen_pair_views before_pairs)
          (option_map seen_view v)) (sym waits) made)
    ]
