-- Rounds, and the bytes that are those of one.
use Rattle.std.proofs.Common.{◌≡◌, ◌∙◌, ℕ, Option, Some, None, List, ◌++◌, refl, sym, ap, append_assoc}
use Rattle.sz_flat.specs.Spelling.{length_bytes, IsShort}
use Rattle.sz_save_format.specs.Entries.{count_bytes, IsCount}
use Rattle.sz_save_format.specs.Saved.{SavedState, saved_bytes, Saves}
use Rattle.sz_save_format.specs.declared.error.SavedError.{SavedError}
use Rattle.sz_save_format.specs.declared.error.SavedError.TheVariants as saved
use Rattle.sz_save_format.proofs.FrontLemmas.{Finds, none_some, unique, same_finds, both_finds}
use Rattle.sz_save_format.proofs.NameLemmas.{length_finds, count_finds}
use Rattle.sz_save_format.proofs.SavedLemmas.{one_spelling}
use Rattle.sz_journal.specs.Rounds.{round_bytes, IsSpelledRound, IsOfRound, progress_of}
use Rattle.sz_journal.specs.EntryReading.{progress_at, Stops, entry_error}
use Rattle.sz_journal.specs.declared.entry_error.EntryError.{EntryError}
use Rattle.sz_journal.specs.declared.entry_error.EntryError.TheVariants.{NotEntry, NoMemory}
use Rattle.sz_journal.specs.declared.progress.Progress.{Progress}
use Rattle.sz_journal.specs.declared.round.RoundEntry.{RoundEntry}
use Rattle.sz_journal.proofs.FindLemmas.{made_finds}

-- the numbers of a round
abbrev progress_bytes : Progress → List ℕ
progress_bytes p = count_bytes p.shards ++ (count_bytes p.records ++ (count_bytes p.bytes ++ length_bytes p.passed))

record IsSpelledProgress (p : Progress) : Type 0 where
  shards : IsCount p.shards
  records : IsCount p.records
  bytes : IsCount p.bytes
  passed : IsShort p.passed

abbrev made_progress : ℕ × (ℕ × (ℕ × ℕ)) → Progress
made_progress p = record { shards = p.0; records = p.1.0; bytes = p.1.1.0; passed = p.1.1.1 }

progress_finds : Finds IsSpelledProgress progress_bytes progress_at
unfolding progress_at
progress_finds =
    same_finds
    (made_finds (both_finds count_finds (both_finds count_finds (both_finds count_finds length_finds))) made_progress
    (λ p. (p.shards, (p.records, (p.bytes, p.passed)))) (λ p. refl) (λ p. refl))
    (λ p h. record { shards = h.0; records = h.1.0; bytes = h.1.1.0; passed = h.1.1.1 })
    (λ p h. (h.shards, (h.records, (h.bytes, h.passed)))) (λ p h. refl)

-- the numbers and the tables of a round, and these again
abbrev round_of : Progress → SavedState → RoundEntry
round_of p tables = record {
  next_shard = p.shards;
  records = p.records;
  next_byte = p.bytes;
  passed = p.passed;
  saved = tables;
}

spelled_progress : (round : RoundEntry) → IsSpelledRound round → IsSpelledProgress (progress_of round)
spelled_progress round h = record { shards = h.next_shard; records = h.records; bytes = h.next_byte; passed = h.passed }

round_parts : (round : RoundEntry) → round_bytes round ≡ progress_bytes (progress_of round) ++ saved_bytes round.saved
round_parts round =
    let a = count_bytes round.next_shard in
    let b = count_bytes round.records in
    let c = count_bytes round.next_byte in
    let d = length_bytes round.passed in
    let tables = saved_bytes round.saved in
    sym (append_assoc a (b ++ (c ++ d)) tables
    ∙ ap (λ l. a ++ l) (append_assoc b (c ++ d) tables ∙ ap (λ l. b ++ l) (append_assoc c d tables)))

-- what was read is the round
pub round_read : (flat : List ℕ) (p : Progress) (rest : List ℕ) (tables : SavedState)
    → progress_at flat ≡ Some (p, rest) → Saves rest tables → IsOfRound flat (round_of p tables)
round_read flat p rest tables e h =
    let found = progress_finds.sound flat p rest e in
    record {
      spelled = record {
        next_shard = found.0.shards;
        records = found.0.records;
        next_byte = found.0.bytes;
        passed = found.0.passed;
        saved = h.can;
      };
      is = found.1 ∙ ap (λ l. progress_bytes p ++ l) h.is ∙ sym (round_parts (round_of p tables));
    }

-- the numbers of a round are found in its bytes, with its tables behind them
round_again : (flat : List ℕ) (round : RoundEntry) → IsOfRound flat round
    → progress_at flat ≡ Some (progress_of round, saved_bytes round.saved)
round_again flat round h =
    ap progress_at (h.is ∙ round_parts round)
    ∙ progress_finds.again (progress_of round) (saved_bytes round.saved) (spelled_progress round h.spelled)

-- where the numbers or the tables are missing, there is no round
pub no_progress_no_round : (flat : List ℕ) → progress_at flat ≡ None → (round : RoundEntry) → IsOfRound flat round → ⊥
no_progress_no_round flat none round h = none_some (sym none ∙ round_again flat round h)

pub no_tables_no_round : (flat : List ℕ) (p : Progress) (rest : List ℕ) → progress_at flat ≡ Some (p, rest)
    → ((tables : SavedState) → Saves rest tables → ⊥) → (round : RoundEntry) → IsOfRound flat round → ⊥
no_tables_no_round flat p rest e none round h =
    let found = progress_finds.sound flat p rest e in
    let same = unique progress_finds p (progress_of round) rest
    (saved_bytes round.saved) found.0 (spelled_progress round h.spelled)
    (sym found.1 ∙ h.is ∙ round_parts round) in
    none round.saved (record { can = h.spelled.saved; is = same.1 })

-- no bytes are those of two rounds
pub one_round : (bytes : List ℕ) (first second : RoundEntry) → IsOfRound bytes first → IsOfRound bytes second
    → first ≡ second
one_round bytes first second h k =
    let same = unique progress_finds (progress_of first) (progress_of second) (saved_bytes first.saved)
    (saved_bytes second.saved) (spelled_progress first h.spelled) (spelled_progress second k.spelled)
    (sym (round_parts first) ∙ sym h.is ∙ k.is ∙ round_parts second) in
    let tables =
    one_spelling (saved_bytes first.saved) first.saved second.saved (record { can = h.spelled.saved; is = refl })
    (record { can = k.spelled.saved; is = same.1 }) in
    λ i. round_of (same.0 i) (tables i)

-- a stop for another reason than memory
pub stopped : {X : Type 0} (found : Option X) (e : EntryError) → Stops found e → e ≡ NotEntry → found ≡ None
stopped found NotEntry stop is = stop
stopped found NoMemory stop is = absurd cc

-- an entry whose saved tables aren't such is none
pub error_told : (e : SavedError) → entry_error e ≡ NotEntry → e ≡ saved.NotSaved
error_told saved.NotSaved is = refl
error_told saved.NoMemory is = absurd cc
