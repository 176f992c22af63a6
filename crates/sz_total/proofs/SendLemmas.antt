-- Tables, and what they show, may cross threads: they are handed over, or read by all.
-- Each type is proved from its parts, since a search through all of them stops at its limits.
use denote.Ref.{NamedLft}
use denote.Param.Send.{IsSend, IsSync, sendable, view_send, view_sync}
use denote.Param.SendFields.{declared_send, declared_sync}
use Rattle.std.proofs.Crossing.{crosses}
use Rattle.sz_list.proofs.items.Items.TheSendSync as items
use Rattle.sz_list.proofs.seen.SeenItems.TheSendSync as seen
use Rattle.sz_types.proofs.table.TableKind.TheSendSync as kind
use Rattle.sz_types.proofs.encoding.Encoding.TheSendSync as encoding
use Rattle.sz_types.proofs.text.Text.TheSendSync as text
use Rattle.sz_types.proofs.ty.Ty.TheLaws.TheKnot as ty
use Rattle.sz_value.proofs.form.Form.TheSendSync as form
use Rattle.sz_value.proofs.marked.MarkedText.TheSendSync as marked
use Rattle.sz_value.proofs.text.Text.TheSendSync as value_text
use Rattle.sz_value.proofs.value.List.TheLaws.TheKnot as value
use Rattle.indexmap.proofs.map.IndexMap.TheSendSync as index_map
use Rattle.sz_flat.proofs.flat_list.FlatList.TheSendSync as flat
use Rattle.sz_flat.proofs.ranked_list.RankedList.TheSendSync as ranked
use Rattle.sz_types.specs.contracts.table.TableDecl as TableDecl
use Rattle.std_alloc.proofs.collections.binary_heap.BinaryHeap.TheSendSync as heap
use Rattle.sz_sum.specs.contracts.sum.Sum as Sum
use Rattle.sz_extreme.specs.contracts.extreme.Extreme as Extreme
use Rattle.sz_members.specs.contracts.members.Members as Members
use Rattle.sz_total.specs.contracts.aggregate.Aggregate as Aggregate
use Rattle.sz_total.specs.contracts.in_order.Entry as Entry
use Rattle.sz_total.specs.contracts.in_order.RowsInOrder as RowsInOrder
use Rattle.sz_total.specs.contracts.part.Part as Part
use Rattle.sz_total.specs.contracts.one_table.OneTable as OneTable
use Rattle.sz_total.specs.contracts.total.Total as Total

ruleset parts = (
  sendable,
  crosses,
  items.the_send,
  items.the_sync,
  seen.the_send,
  seen.the_sync,
  kind.the_sync,
  encoding.the_send,
  encoding.the_sync,
  text.the_send,
  text.the_sync,
  form.the_send,
  form.the_sync,
  marked.the_send,
  marked.the_sync,
  value_text.the_send,
  value_text.the_sync,
  ty.crosses_both,
  value.crosses,
)

pub table_sync : IsSync TableDecl.the_row
table_sync =
    declared_sync TableDecl.the_type (
      search parts depth 30,
      (
        search parts depth 30,
        (
          search parts depth 30,
          (
            search parts depth 30,
            (
              search parts depth 30,
              (search parts depth 30, tt),
            ),
          ),
        ),
      ),
    )

module _ (κ : NamedLft) where
  sum_send : IsSend (Sum.the_row κ)
  sum_send = let t = table_sync in search parts depth 30

  sum_sync : IsSync (Sum.the_row κ)
  sum_sync = let t = table_sync in search parts depth 30

  extreme_send : IsSend (Extreme.the_row κ)
  extreme_send =
      view_send _ _ _ _ _ (declared_send (Extreme.TheInside.the_type κ) (
        search parts depth 30,
        (
          search (parts, table_sync) depth 30,
          (
            search parts depth 30,
            (
              search parts depth 30,
              (search (parts, heap.the_send) depth 30, tt),
            ),
          ),
        ),
      ))

  extreme_sync : IsSync (Extreme.the_row κ)
  extreme_sync =
      view_sync _ _ _ _ _ (declared_sync (Extreme.TheInside.the_type κ) (
        search parts depth 30,
        (
          search (parts, table_sync) depth 30,
          (
            search parts depth 30,
            (
              search parts depth 30,
              (search (parts, heap.the_sync) depth 30, tt),
            ),
          ),
        ),
      ))

  members_send : IsSend (Members.the_row κ)
  members_send =
      view_send _ _ _ _ _ (declared_send (Members.TheInside.the_type κ) (
        search parts depth 30,
        (
          search (parts, table_sync) depth 30,
          (
            search parts depth 30,
            (
              search parts depth 30,
              (search (parts, index_map.the_send) depth 30, tt),
            ),
          ),
        ),
      ))

  members_sync : IsSync (Members.the_row κ)
  members_sync =
      view_sync _ _ _ _ _ (declared_sync (Members.TheInside.the_type κ) (
        search parts depth 30,
        (
          search (parts, table_sync) depth 30,
          (
            search parts depth 30,
            (
              search parts depth 30,
              (search (parts, index_map.the_sync) depth 30, tt),
            ),
          ),
        ),
      ))

  aggregate_send : IsSend (Aggregate.the_row κ)
  aggregate_send = let a = sum_send in let b = extreme_send in let c = members_send in search parts depth 30

  aggregate_sync : IsSync (Aggregate.the_row κ)
  aggregate_sync = let a = sum_sync in let b = extreme_sync in let c = members_sync in search parts depth 30

  pub part_send : IsSend (Part.the_row κ)
  part_send =
      view_send _ _ _ _ _ (declared_send (Part.TheInside.the_type κ) (
        search parts depth 30,
        (
          search (parts, aggregate_send, index_map.the_send, flat.the_send) depth 30,
          (search (parts, aggregate_send, index_map.the_send, flat.the_send) depth 30, tt),
        ),
      ))

  pub part_sync : IsSync (Part.the_row κ)
  part_sync =
      view_sync _ _ _ _ _ (declared_sync (Part.TheInside.the_type κ) (
        search parts depth 30,
        (
          search (parts, aggregate_sync, index_map.the_sync, flat.the_sync) depth 30,
          (search (parts, aggregate_sync, index_map.the_sync, flat.the_sync) depth 30, tt),
        ),
      ))

  one_table_send : IsSend (OneTable.the_row κ)
  one_table_send =
      view_send _ _ _ _ _ (declared_send (OneTable.TheInside.the_type κ) (
        search parts depth 30,
        (
          search (parts, table_sync) depth 30,
          (
            search parts depth 30,
            (
              search (parts, part_send) depth 30,
              (search (parts, flat.the_send) depth 30, tt),
            ),
          ),
        ),
      ))

  one_table_sync : IsSync (OneTable.the_row κ)
  one_table_sync =
      view_sync _ _ _ _ _ (declared_sync (OneTable.TheInside.the_type κ) (
        search parts depth 30,
        (
          search (parts, table_sync) depth 30,
          (
            search parts depth 30,
            (
              search (parts, part_sync) depth 30,
              (search (parts, flat.the_sync) depth 30, tt),
            ),
          ),
        ),
      ))

  pub total_send : IsSend (Total.the_row κ)
  total_send =
      view_send _ _ _ _ _ (declared_send (Total.TheInside.the_type κ) (
        search (parts, table_sync) depth 30,
        (
          search parts depth 30,
          (
            search (parts, one_table_send) depth 30,
            (search parts depth 30, tt),
          ),
        ),
      ))

  pub total_sync : IsSync (Total.the_row κ)
  total_sync =
      view_sync _ _ _ _ _ (declared_sync (Total.TheInside.the_type κ) (
        search (parts, table_sync) depth 30,
        (
          search parts depth 30,
          (
            search (parts, one_table_sync) depth 30,
            (search parts depth 30, tt),
          ),
        ),
      ))

-- an index list that is lent with its aggregator
pub entry_send : (ρ κ : NamedLft) → IsSend (Entry.the_row ρ κ)
entry_send ρ κ =
    let aggregate = aggregate_sync κ in
    view_send _ _ _ _ _ (declared_send (Entry.TheInside.the_type ρ κ) (
      search (parts, ranked.the_send) depth 30,
      (search (parts, aggregate) depth 30, tt),
    ))

-- the rows of a table in order lend its index lists, each with its aggregator
pub rows_sync : (ρ κ : NamedLft) → IsSync (RowsInOrder.the_row ρ κ)
rows_sync ρ κ =
    let aggregate = aggregate_sync κ in
    let entry : IsSync (Entry.the_row ρ κ) =
    view_sync _ _ _ _ _ (declared_sync (Entry.TheInside.the_type ρ κ) (
      search (parts, ranked.the_sync) depth 30,
      (search (parts, aggregate) depth 30, tt),
    )) in
    view_sync _ _ _ _ _ (declared_sync (RowsInOrder.TheInside.the_type ρ κ) (search (parts, entry) depth 30, tt))
