-- What the test is given: statics that have their types, and a round of two records.
use Rattle.std.proofs.Common.{◌≡◌, ℕ, List, [], ◌∷◌, length, refl, sym, subst, arith}
use Rattle.std.specs.Prelude.{Result, Ok, IfOk}
use Rattle.std.proofs.lemmas.List.Elements.{All-nil, All-cons}
use Rattle.sz_instr.specs.declared.code.Code.{Code}
use Rattle.sz_world_rules.specs.World.{Outcome}
use Rattle.sz_world_rules.specs.Slots.{Slot}
use Rattle.sz_world_rules.specs.Typed.{AllFit}
use Rattle.sz_mean.specs.Marked.{Marked}
use Rattle.sz_mean.specs.Programs.{statics}
use Rattle.sz_instr.specs.Runs.{StaticsRunTo}
use Rattle.sz_value.specs.declared.slots.Slots.{Slots}
use Rattle.sz_machine.specs.declared.ends.StaticsEnd.{StaticsEnd}
use Rattle.sz_machine.specs.declared.ends.StaticsEnd.TheVariants as ends
use Rattle.sz_machine.specs.Ends.{seen_statics_end, StaticsRunEnds}
use Rattle.sz_gen_rules.specs.Simulates.{IsBudget, static_types}
use Rattle.sz_gen_rules.specs.Compiled.{IsCompiled}
use Rattle.sz_records.specs.Ends.{RecordsData}
use Rattle.sz_attempt.specs.declared.job.Shard.{Shard}
use Rattle.sz_attempt.specs.Shards.{IsShardIn}
use Rattle.sz_workers.specs.Rounds.{IsRound}

is_budget : IsBudget 1000000
is_budget = record { least = omega arith; most = omega arith }

module _ (program : Marked) (code : Code) (compiled : IsCompiled program code) where
  -- the run of the statics ends
  pub statics_run_ends : StaticsRunEnds code 1000000
  statics_run_ends = record {
    outcome = statics program 1000000;
    ends = compiled.simulates.statics_end 1000000 is_budget;
  }

  -- with slots of their types, if with any
  pub statics_have_types : {E : Type 0} (result : Result StaticsEnd E) (slots : Slots)
      → ((o : Outcome (List Slot)) → StaticsRunTo code 1000000 o → IfOk result (λ end. seen_statics_end end ≡ o))
      → result ≡ Ok (ends.Done slots) → AllFit slots (static_types program.core)
  statics_have_types result slots runs is =
      compiled.statics_fit 1000000 slots
      (sym (subst (λ r. IfOk r (λ end. seen_statics_end end ≡ statics program 1000000)) is
      (runs (statics program 1000000) (compiled.simulates.statics_end 1000000 is_budget))))

-- the shards of the round, one of each record
abbrev pub first_shard : Shard
first_shard = record { first = 1; start = 0; end = 1 }

abbrev pub second_shard : Shard
second_shard = record { first = 2; start = 1; end = 2 }

-- two records with a shard for each are a round
pub is_round : (records : RecordsData) (shards : List Shard) → length records.items ≡ 2
    → shards ≡ first_shard ∷ second_shard ∷ []
    → IsRound record { records = records; shards = shards; first_shard = 0; passed = 0 }
is_round records shards two is =
    subst (λ (ss : List Shard). IsRound record { records = records; shards = ss; first_shard = 0; passed = 0 })
    (sym is) (record {
      few = omega arith;
      numbers = omega arith;
      within = All-cons (IsShardIn records.items) first_shard (second_shard ∷ [])
          (record { order = omega arith; within = omega (arith, two); first = omega arith; few = omega arith })
          (All-cons (IsShardIn records.items) second_shard []
          (record { order = omega arith; within = omega (arith, two); first = omega arith; few = omega arith })
          (All-nil (IsShardIn records.items)));
      next = (0, 1, (refl, refl, (refl, refl, tt)));
    })
