-- There is room, so the aggregator stands last.
use Rattle.std.proofs.Common.{◌≡◌, ◌∙◌, ◌<◌, ◌++◌, ◌∷◌, [], None, length, ap, arith}
use Rattle.std.specs.Map.{lookup}
use Rattle.std.proofs.lemmas.List.{length-append}
use Rattle.indexmap.specs.IndexMap.{spare}
use Rattle.indexmap.proofs.CallerLemmas.{insert_entry-new}
use Rattle.sz_tabs.proofs.ForCallers.{surely}
use Rattle.sz_total.specs.Entries.{Entries, same_indexes}
use Rattle.sz_total.specs.Parts.{PartState}
use Rattle.sz_total.proofs.part.Part.put.Goals as goal

pub invariant_of-self : goal.invariant_of-self
invariant_of-self c =
    let own = c.self.inside.lists in
    let key = c.args.key in
    let a = c.args.aggregate in
    let some : 0 < spare own = omega (
      arith,
      ap (λ (s : PartState). s.room) c.self.view_is,
      ap (λ (s : PartState). length s.entries) c.self.view_is,
      c.requires.room,
      c.self.invariant,
    ) in
    let none : lookup (same_indexes key) own.entries ≡ None =
    ap (λ (s : PartState). lookup (same_indexes key) s.entries) c.self.view_is ∙ c.requires.absent in
    let now : c.insert.new.self.entries ≡ own.entries ++ (key, a) ∷ [] =
    surely c.insert.result (c.insert.ensures.succeeds some) c.insert.ensures.entries
    ∙ insert_entry-new same_indexes own key a none in
    omega (arith, c.self.invariant, c.insert.ensures.spare, ap length now, length-append own.entries ((key, a) ∷ []))

pub returns : goal.returns
returns c =
    let own = c.self.inside.lists in
    let key = c.args.key in
    let a = c.args.aggregate in
    let some : 0 < spare own = omega (
      arith,
      ap (λ (s : PartState). s.room) c.self.view_is,
      ap (λ (s : PartState). length s.entries) c.self.view_is,
      c.requires.room,
      c.self.invariant,
    ) in
    let none : lookup (same_indexes key) own.entries ≡ None =
    ap (λ (s : PartState). lookup (same_indexes key) s.entries) c.self.view_is ∙ c.requires.absent in
    let now : c.insert.new.self.entries ≡ own.entries ++ (key, a) ∷ [] =
    surely c.insert.result (c.insert.ensures.succeeds some) c.insert.ensures.entries
    ∙ insert_entry-new same_indexes own key a none in
    record {
      value =
          ap (λ (es : Entries). record {
            entries = es;
            room = c.self.inside.room;
            arriving = c.self.inside.arriving.entries;
          }) now
          ∙ ap (λ (s : PartState). record {
            entries = s.entries ++ (key, a) ∷ [];
            room = s.room;
            arriving = s.arriving;
          }) c.self.view_is;
    }
