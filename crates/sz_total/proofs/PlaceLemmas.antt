-- The place of a key in a map, once a value was written there.
use Rattle.std.proofs.Common.{◌≡◌, ℕ, ◌+◌, ◌≤◌, refl, ap, arith}
use Rattle.std.specs.declared.cmp.PartialEq as eq
use Rattle.std.specs.declared.hash.Hash as hash
use Rattle.std.specs.declared.hash.Hasher as hasher
use Rattle.std.specs.declared.hash.BuildHasher as builder
use Rattle.indexmap.specs.Entry.{entry_map, map_with_value}
use Rattle.indexmap.specs.IndexMap.{IndexMap, index_map_len, spare}
use Rattle.indexmap.specs.declared.map.entry.Entry.{Entry}
use Rattle.indexmap.specs.declared.map.entry.Entry.TheVariants.{Occupied}
use Rattle.indexmap.specs.declared.map.entry.OccupiedEntry.{OccupiedEntry}

module _ {K V S A H : Type 0} {g : eq.Ghosts K} {h : hash.Ghosts K} {b : builder.Ghosts S H} {w : hasher.Ghosts H} where
  -- a write takes no room
  room_stays : (own : OccupiedEntry K V S A H g h b w) (value : V)
      → spare (map_with_value (Occupied own) value) ≡ spare (entry_map (Occupied own))
  unfolding map_with_value
  room_stays own value = refl

  pub as_much_room : (old : IndexMap K V S) (place : Entry K V S A H g h b w) (own : OccupiedEntry K V S A H g h b w)
      (value : V) (more : ℕ) → place ≡ Occupied own → spare old ≤ spare (entry_map place)
      → index_map_len (map_with_value place value) ≡ index_map_len old + more
      → index_map_len old + spare old
      ≤ index_map_len (map_with_value (Occupied own) value) + spare (map_with_value (Occupied own) value)
  as_much_room old place own value more is room long =
      let here = ap (λ p. index_map_len (map_with_value p value)) is in
      let there = ap (λ p. spare (entry_map p)) is in
      omega (arith, here, there, room_stays own value, room, long)
