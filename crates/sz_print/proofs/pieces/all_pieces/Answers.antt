-- The table and its rows are only read, so threads may share them; and the pieces are its lines.
use denote.Param.Send.{sendable}
use Rattle.std.proofs.Crossing.{crosses}
use Rattle.std.proofs.Common.{rules, ◌≡◌, ◌∙◌, Ok, ap, map, length, arith}
use Rattle.std.specs.Int.{div_ceil}
use Rattle.std.specs.List.{concat}
use Rattle.std.proofs.lemmas.Result.{IfOk-weaker}
use Rattle.sz_types.specs.SeenTables.{seen_table}
use Rattle.sz_total.proofs.SendLemmas.{rows_sync, table_sync}
use Rattle.sz_print.specs.Tables.{table_lines}
use Rattle.sz_print.proofs.PiecesLemmas.{pieces_are_lines}
use Rattle.sz_print.proofs.pieces.all_pieces.Goals as goal

pub map_indices-requires-sync-F : goal.map_indices-requires-sync-F
map_indices-requires-sync-F g c κs within = search (sendable, crosses, table_sync, rows_sync) depth 30

pub returns : goal.returns
returns g c =
    let table = seen_table c.args.table.now in
    let all = c.args.shown.now in
    let made = c.in_ok-made.made.items in
    let long : length made ≡ c.div_ceil.result = (let n = c.in_ok-made.ensures.len in search rules) in
    record {
      value = IfOk-weaker c.all_made.result (λ pieces. map Ok pieces.items ≡ made)
          (λ pieces. concat pieces.items ≡ table_lines table all)
          (λ pieces same. pieces_are_lines table all c.args.size made pieces.items same
          (λ n d below. (c.in_ok-made.ensures.each n d (omega (arith, long, below))).1.met) c.requires.size
          (long ∙ (c.div_ceil.ensures ∙ ap (λ n. div_ceil n c.args.size) c.len.ensures.value)))
          c.all_made.ensures.value;
    }
