-- What tables show comes from emits that fit: before any emit, after one more, and after a merge.
use Rattle.std.proofs.Common.{◌≡◌, ℕ, ◌+◌, List, [], ◌∷◌, ◌++◌, map, refl, sym, subst}
use Rattle.std.proofs.lemmas.List.Elements.{All-nil, All-push, All-append}
use Rattle.sz_types.specs.Tables.{Declaration}
use Rattle.sz_tabs.specs.Data.{EmitDatum}
use Rattle.sz_tabs.specs.Fitting.{IsEmitTo}
use Rattle.sz_total.specs.Short.{HasShortParts}
use Rattle.sz_total.specs.Origin.{ComesFromEmits}
use Rattle.sz_total.specs.OneTable.{TableState, AreTables, GainsAt, new_table, state_of, IsTotal}
use Rattle.sz_total.specs.Merging.{ChangeRoomAlone, JoinTables}
use Rattle.sz_total.proofs.TotalLemmas.{tables_new, total_new, tables_still, total_gained}
use Rattle.sz_total.proofs.MergingLemmas.{tables_joined, total_joined}

-- what is shown still comes from emits that fit: before any emit, and after one more
pub total_is_new : (tables : List Declaration) → IsTotal tables 0 (map new_table tables)
total_is_new tables = record {
  are = tables_new tables;
  come = record {
    emits = [];
    stands = (total_new tables).empty;
    fit = All-nil (IsEmitTo tables);
    short = All-nil HasShortParts;
  };
}

pub total_still : (tables : List Declaration) (count : ℕ) (emit : EmitDatum) (old new : List TableState)
    → IsTotal tables count old → GainsAt emit old new
    → IsEmitTo tables emit → HasShortParts emit → IsTotal tables (count + 1) new
total_still tables count emit old new is gains fits short =
    let come = is.come in
    let gained = total_gained tables count emit old new (state_of tables count old) refl is.are gains in
    record {
      are = tables_still emit old new gains tables count is.are;
      come = record {
        emits = come.emits ++ emit ∷ [];
        stands = gained.appended come.emits come.stands;
        fit = All-push (IsEmitTo tables) come.emits emit come.fit fits;
        short = All-push HasShortParts come.emits emit come.short short;
      };
    }

-- what is shown comes from emits that fit: where room alone changed, and after a merge
pub total_roomier : (tables : List Declaration) (count : ℕ) (old new : List TableState) → ChangeRoomAlone old new
    → IsTotal tables count old → IsTotal tables count new
total_roomier tables count old new kept is = record {
  are = kept.still tables count is.are;
  come =
      subst (λ rows. ComesFromEmits (record { tables = tables; count = count; rows = rows })) (sym kept.rows) is.come;
}

pub total_both : (tables its : List Declaration) (mine yours : ℕ) (first roomy others new : List TableState)
    → its ≡ tables → IsTotal tables mine first → IsTotal its yours others → ChangeRoomAlone first roomy
    → JoinTables roomy others new → IsTotal tables (mine + yours) new
total_both tables its mine yours first roomy others new same is theirs kept joins =
    let beside : AreTables tables yours others = subst (λ t. AreTables t yours others) same theirs.are in
    let one = is.come in
    let other : ComesFromEmits (state_of tables yours others) =
    subst (λ t. ComesFromEmits (state_of t yours others)) same theirs.come in
    let both = total_joined tables mine yours first roomy others new is.are beside kept joins
    (state_of tables mine first) (state_of tables yours others) refl refl in
    record {
      are = tables_joined tables mine yours first roomy others new is.are beside kept joins;
      come = record {
        emits = one.emits ++ other.emits;
        stands = both.joined one.emits other.emits one.stands other.stands;
        fit = All-append (IsEmitTo tables) one.emits other.emits one.fit other.fit;
        short = All-append HasShortParts one.emits other.emits one.short other.short;
      };
    }
