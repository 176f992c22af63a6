-- What is kept of saved tables is what their bytes need.
use Rattle.std.proofs.Common.{◌∙◌, ◌++◌, All, length, map, zip, flat_map, sym, ap, subst, append_assoc}
use Rattle.std.proofs.lemmas.List.{length-map}
use Rattle.sz_types.specs.SeenTables.{seen_table}
use Rattle.sz_flat.specs.Spelling.{length_bytes}
use Rattle.sz_save_format.specs.Entries.{count_bytes}
use Rattle.sz_save_format.specs.Saved.{mark, table_bytes}
use Rattle.sz_save_format.specs.Short.{HasShortEntry}
use Rattle.sz_save_format.proofs.WritingLemmas.{saved_short}
use Rattle.sz_save_format.proofs.writing.write_saved.Goals as goal

pub put_tables-requires-clause-as_many : goal.put_tables-requires-clause-as_many
put_tables-requires-clause-as_many c =
    ap length (c.as_slice-2.ensures.value ∙ c.tables.ensures.value) ∙ c.bound.ensures.can.as_many
    ∙ ap length (sym (c.as_slice.ensures.value ∙ c.decls-2.ensures.value)) ∙ length-map c.as_slice.result.now seen_table

pub put_tables-requires-clause-short : goal.put_tables-requires-clause-short
put_tables-requires-clause-short c =
    subst (All (All HasShortEntry)) (sym (c.as_slice-2.ensures.value ∙ c.tables.ensures.value))
    (saved_short c.args.saved.now c.bound.ensures.can)

pub returns : goal.returns
returns c =
    let saved = c.args.saved.now in
    let decls = c.as_slice.ensures.value ∙ c.decls-2.ensures.value in
    let tables = c.as_slice-2.ensures.value ∙ c.tables.ensures.value in
    let counted = c.len.ensures.value ∙ ap length c.decls.ensures.value in
    let behind = length_bytes (length saved.decls) ++ flat_map table_bytes (zip saved.decls saved.tables) in
    record {
      value = record {
        can = c.bound.ensures.can;
        is =
            c.from_vec.ensures.value ∙ c.in_ok-put_tables.ensures.value
            ∙ ap (λ l. l ++ flat_map table_bytes (zip (map seen_table c.as_slice.result.now) c.as_slice-2.result.now))
            (c.in_ok-put_length.ensures.value
            ∙ ap (λ l. l ++ length_bytes c.len.result) (c.in_ok-put_count.ensures.value
            ∙ ap (λ l. l ++ count_bytes c.bound.result) c.in_ok-extend_from_slice.ensures.items))
            ∙ (λ i. (((c.new-out.ensures.items i ++ mark) ++ count_bytes (c.bound.ensures.value i))
            ++ length_bytes (counted i)) ++ flat_map table_bytes (zip (decls i) (tables i)))
            ∙ append_assoc (mark ++ count_bytes saved.bound) (length_bytes (length saved.decls))
            (flat_map table_bytes (zip saved.decls saved.tables))
            ∙ append_assoc mark (count_bytes saved.bound) behind;
      };
    }
