-- The lists of `--kill` and `--twice`.
use Rattle.std.specs.Prelude.{ℕ, ◌-◌, ◌^◌, List, [], ◌∷◌, ◌++◌, length, Bool, false, not, ◌&&◌, ◌||◌, nat_eq, nat_lt, Option, Some, None}
use Rattle.std.specs.Prelude.{if◌then◌else◌, option_and_then}
use Rattle.sz_words.specs.Texts.{pieces, number_in}
use Rattle.sz_words.specs.declared.settings.Kill.{Kill}

-- the most entries of a list
abbrev pub most_entries : ℕ
most_entries = 10000

-- the number of a shard: at most 2^31 - 1
abbrev pub shard_in : List ℕ → Option ℕ
shard_in text = number_in 0 (2 ^ 31 - 1) text

-- the kill that `S.K.J` names: attempt K, at most 7, of shard S dies after its first J records, at most 65536
abbrev pub kill_of : List (List ℕ) → Option Kill
kill_of (s ∷ k ∷ j ∷ []) =
    option_and_then (λ shard. option_and_then (λ number. option_and_then (λ after.
    Some (record { shard = shard; number = number; after = after }))
    (number_in 0 65536 j)) (number_in 0 7 k)) (shard_in s)
kill_of _ = None

-- whether one of the kills is of this attempt of this shard
abbrev pub is_killed : ℕ → ℕ → List Kill → Bool
is_killed shard number [] = false
is_killed shard number (kill ∷ kills) =
    nat_eq kill.shard shard && nat_eq kill.number number || is_killed shard number kills

-- the kills before, and those that the entries name; none where an entry names none, or an attempt twice, or where
-- they are too many
abbrev pub kills_with : List Kill → List (List ℕ) → Option (List Kill)
kills_with kills [] = Some kills
kills_with kills (entry ∷ entries) =
    option_and_then (λ kill. if nat_lt (length kills) most_entries && not (is_killed kill.shard kill.number kills)
    then kills_with (kills ++ kill ∷ []) entries else None) (kill_of (pieces 46 entry))

-- the kills that a list of entries names, which commas join
abbrev pub kills_in : List ℕ → Option (List Kill)
kills_in text = kills_with [] (pieces 44 text)

-- whether the shard is one of these
abbrev pub is_among : ℕ → List ℕ → Bool
is_among shard [] = false
is_among shard (other ∷ others) = nat_eq other shard || is_among shard others

-- the shards before, and those that the entries name; none where an entry names none, or a shard twice, or where they
-- are too many
abbrev pub shards_with : List ℕ → List (List ℕ) → Option (List ℕ)
shards_with shards [] = Some shards
shards_with shards (entry ∷ entries) =
    option_and_then (λ shard. if nat_lt (length shards) most_entries && not (is_among shard shards)
    then shards_with (shards ++ shard ∷ []) entries else None) (shard_in entry)

-- the shards that a list names, which commas join
abbrev pub shards_in : List ℕ → Option (List ℕ)
shards_in text = shards_with [] (pieces 44 text)
