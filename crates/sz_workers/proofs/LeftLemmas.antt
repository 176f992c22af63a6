-- How a round ends by the shards that are left, and by the whole pool.
use Rattle.std.proofs.Common.{◌≡◌, ◌⊎◌, ℕ, zero, suc, ◌+◌, ◌-◌, ◌<◌, ◌≤◌, List, [], ◌∷◌, ◌++◌, length, take, drop, map, Some, None, refl, sym, ap, ◌∙◌, subst}
use Rattle.std.proofs.Common.{inl, inr, ⊎_elim, arith, append-nil, append_assoc, length-append}
use Rattle.std.specs.Prelude.{slice_get}
use Rattle.std.proofs.lemmas.List.{length-map}
use Rattle.sz_machine.specs.Ends.{seen_fault}
use Rattle.sz_tabs.specs.Data.{EmitDatum}
use Rattle.sz_total.specs.States.{TotalState, declarations, emit_count, shown}
use Rattle.sz_total.specs.Totals.{StandsFor}
use Rattle.sz_total.specs.Laws.{ForgetsOrder}
use Rattle.sz_total.proofs.OrderLemmas.{stands_in_any_order}
use Rattle.sz_book_rules.specs.History.{IsAmong, AreApart}
use Rattle.sz_attempt.specs.declared.job.Job.{Job}
use Rattle.sz_attempt.specs.declared.ends.Skipped.{Skipped}
use Rattle.sz_attempt.specs.Shards.{ShardData}
use Rattle.sz_attempt.specs.Yields.{Faulting}
use Rattle.sz_attempt.specs.Attempts.{shard_means}
use Rattle.sz_attempt.specs.Ends.{StandForEmits, seen_skipped, seen_faults}
use Rattle.sz_attempt.proofs.ForCallers.{take_whole}
use Rattle.sz_workers.specs.declared.round.Round.{Round}
use Rattle.sz_workers.specs.Outcomes.{emitted, faulted, outcome_from, faults_in}
use Rattle.sz_workers.specs.Rounds.{shards_of}
use Rattle.sz_workers.proofs.OutcomeLemmas.{got_first, AllLive, emits_in, live_emitted, fault_in_front}
use Rattle.sz_workers.specs.declared.first_faults.FirstFaults.{FirstFaults}
use Rattle.sz_workers.specs.Parts.{yield_in, emits_at, faults_at, faults_from, Bad, gathered, HasFirst, HoldsShards}
use Rattle.sz_workers.specs.RoundRuns.{HasFront, one_too_many}
use Rattle.sz_workers.proofs.FaultLemmas.{faults_of_front, faults_of_one}
use Rattle.sz_workers.proofs.GatherLemmas.{in_order, gives_all}
use Rattle.sz_workers.specs.FirstOfBoth.{IsFirstOfBoth}
use Rattle.sz_workers.proofs.WonLemmas.{among_front, among_back}
use Rattle.sz_workers.proofs.PartLemmas.{counts_low, first_of_both}
use Rattle.sz_workers.proofs.DecideLemmas.{all_live, few_of_all, got_taken, cut_at}

-- the emits of shards up to a place, one shard after the other
emits_next : (job : Job) (shards : List ShardData) (n : ℕ)
    → emits_in job (take n shards) ++ emits_at job shards n ≡ emits_in job (take (suc n) shards)
emits_next job [] zero = refl
emits_next job [] (suc n) = refl
emits_next job (x ∷ shards) zero = sym (append-nil (shard_means job x).emits)
emits_next job (x ∷ shards) (suc n) =
    append_assoc (shard_means job x).emits (emits_in job (take n shards)) (emits_at job shards n)
    ∙ ap (λ l. (shard_means job x).emits ++ l) (emits_next job shards n)

emits_in_order : (job : Job) (shards : List ShardData) (n : ℕ)
    → in_order (emits_at job shards) n ≡ emits_in job (take n shards)
emits_in_order job shards zero = refl
emits_in_order job shards (suc n) =
    ap (λ l. l ++ emits_at job shards n) (emits_in_order job shards n) ∙ emits_next job shards n

none_left : {A : Type 0} (k : ℕ) (xs : List A) → length xs ≤ k → drop k xs ≡ []
none_left zero [] le = refl
none_left zero (x ∷ xs) le = absurd (omega (arith, le))
none_left (suc k) [] le = refl
none_left (suc k) (x ∷ xs) le = none_left k xs (omega (arith, le))

all_taken : {A : Type 0} (xs : List A) → take (length xs) xs ≡ xs
all_taken [] = refl
all_taken (x ∷ xs) = ap (λ l. x ∷ l) (all_taken xs)

-- where all shards are in the pool and no record is one too many, the tables are the end of the round
pub tables_of_all : (job : Job) (round : Round) (total : TotalState) (part : FirstFaults) (ss : List ℕ)
    → round.passed ≤ job.skip → ForgetsOrder → HoldsShards job round total part ss
    → HasFront ss (length (shards_of round)) → one_too_many job round part.faults ≡ None
    → (emits : List EmitDatum) × (outcome_from job round.passed (shards_of round) ≡ emitted emits (length part.faults))
    × StandForEmits job.compiled total emits
tables_of_all job round total part ss low forgets holds front none =
    let shards : List ShardData = shards_of round in
    let n : ℕ = length shards in
    let live : AllLive job shards = subst (AllLive job) (all_taken shards) (all_live job shards n (λ s l.
    let c = holds.counts s (front s l) in (c.shard, c.there, c.alive))) in
    let same : faults_from job ss 0 shards ≡ faults_in job shards =
    faults_of_front job ss 0 n shards
    (λ s l. let z : s ≡ 0 + s = omega arith in subst (λ k. IsAmong k ss) z (front s l))
    ∙ ap (λ l. faults_in job (take n shards) ++ faults_from job ss (0 + n) l) (none_left n shards (omega arith))
    ∙ append-nil (faults_in job (take n shards)) ∙ ap (faults_in job) (all_taken shards) in
    let few = few_of_all job round low part ss holds.faults none in
    let long = ap length same in
    let whole = take_whole (suc job.skip) (faults_from job ss 0 shards) (omega (arith, few)) in
    let count : length (faults_in job shards) ≡ length part.faults =
    sym long ∙ sym (ap length whole) ∙ sym (ap length holds.faults.first) ∙ length-map part.faults seen_skipped in
    let mixed = gives_all (emits_at job shards) n ss holds.distinct
    (λ s in'. counts_low job shards s (holds.counts s in')) front in (
      emits_in job shards,
      live_emitted job round.passed shards (omega (arith, few, long, low)) live
          ∙ ap (emitted (emits_in job shards)) count,
      record {
        tables = holds.stand.tables;
        stands = subst (StandsFor declarations emit_count shown total)
            (emits_in_order job shards n ∙ ap (emits_in job) (all_taken shards))
            (stands_in_any_order forgets total (gathered (emits_at job shards) ss)
            (in_order (emits_at job shards) n) mixed holds.stand.stands);
      },
    )

got_some : {A : Type 0} (xs : List A) (i : ℕ) → i < length xs → (x : A) × (slice_get xs i ≡ Some x)
got_some [] i less = absurd (omega arith)
got_some (x ∷ xs) zero less = (x, refl)
got_some (x ∷ xs) (suc i) less = got_some xs i (omega (arith, less))

last_or : (s m : ℕ) → s < suc m → (s ≡ m) ⊎ (s < m)
last_or s m l = grind arith

front_wide : (ss : List ℕ) (m : ℕ) → HasFront ss m → HasFront (ss ++ m ∷ []) (suc m)
front_wide ss m f s l =
    ⊎_elim (λ (e : s ≡ m). among_back s ss (m ∷ []) (inl (sym e)))
    (λ (less : s < m). among_front s ss (m ∷ []) (f s less)) (last_or s m l)

faults_next : (job : Job) (shards : List ShardData) (m : ℕ)
    → faults_in job (take (suc m) shards) ≡ faults_in job (take m shards) ++ faults_at job shards m
faults_next job [] zero = refl
faults_next job [] (suc m) = refl
faults_next job (x ∷ shards) zero = append-nil (shard_means job x).faults
faults_next job (x ∷ shards) (suc m) =
    ap (λ l. (shard_means job x).faults ++ l) (faults_next job shards m)
    ∙ sym (append_assoc (shard_means job x).faults (faults_in job (take m shards)) (faults_at job shards m))

got_unmapped : {A B : Type 0} (f : A → B) (xs : List A) (i : ℕ) (y : B) → slice_get (map f xs) i ≡ Some y
    → (x : A) × (slice_get xs i ≡ Some x) × (f x ≡ y)
got_unmapped f [] i y there = absurd (cc)
got_unmapped f (x ∷ xs) zero y there = (x, refl, cc)
got_unmapped f (x ∷ xs) (suc i) y there = got_unmapped f xs i y there

-- A bad shard behind shards of which none decides: of its records and those in front one is too many, and this decides
pub bad_decides : (job : Job) (round : Round) (total : TotalState) (part theirs both : FirstFaults) (ss : List ℕ)
    (n : ℕ) → round.passed ≤ job.skip
    → HoldsShards job round total part ss → HasFront ss n → ¬ IsAmong n ss → Bad job (shards_of round) n
    → seen_faults theirs.faults ≡ take (suc job.skip) (faults_at job (shards_of round) n) → theirs.most ≡ suc job.skip
    → IsFirstOfBoth part theirs both → (one : Skipped) × (slice_get both.faults (job.skip - round.passed) ≡ Some one)
    × (outcome_from job round.passed (shards_of round) ≡ faulted one.record_no (seen_fault one.fault))
bad_decides job round total part theirs both ss n low holds front absent bad seen most joins =
    let shards : List ShardData = shards_of round in
    let index : ℕ = job.skip - round.passed in
    let zero_n : 0 + n ≡ n = omega arith in
    let at : faults_at job shards n ≡ (shard_means job bad.shard).faults =
    ap (λ o. (yield_in job o).faults) bad.there in
    let alone : faults_from job (n ∷ []) 0 shards ≡ (shard_means job bad.shard).faults =
    ap (λ p. faults_from job (p ∷ []) 0 shards) (sym zero_n) ∙ faults_of_one job 0 n shards bad.shard bad.there in
    let has : HasFirst job round theirs (n ∷ []) = record {
      first = seen ∙ ap (take (suc job.skip)) (at ∙ sym alone);
      most = inr most;
    } in
    let apart : AreApart ss (n ∷ []) = λ s in' other.
    ⊎_elim (λ (e : n ≡ s). absent (subst (λ k. IsAmong k ss) (sym e) in')) (λ (no : ⊥). no) other in
    let all = first_of_both job round part theirs both ss (n ∷ []) holds.round_is holds.faults has apart joins in
    let wide : HasFront (ss ++ n ∷ []) (suc n) = front_wide ss n front in
    let split = faults_of_front job (ss ++ n ∷ []) 0 (suc n) shards
    (λ s l. let z : s ≡ 0 + s = omega arith in subst (λ k. IsAmong k (ss ++ n ∷ [])) z
    (wide s l)) in
    let last = faults_next job shards n in
    let many = bad.many in
    let long = ap length last in
    let own = ap length at in
    let sum = length-append (faults_in job (take n shards)) (faults_at job shards n) in
    let found = got_some (faults_in job (take (suc n) shards)) index (omega (arith, many, long, own, sum, low)) in
    let in_all : slice_get (faults_from job (ss ++ n ∷ []) 0 shards) index ≡ Some found.0 =
    ap (λ l. slice_get l index) split ∙ got_first (faults_in job (take (suc n) shards))
    (faults_from job (ss ++ n ∷ []) (0 + suc n) (drop (suc n) shards))
    index found.0 found.1 in
    let in_seen : slice_get (seen_faults both.faults) index ≡ Some found.0 =
    ap (λ l. slice_get l index) all.first
    ∙ got_taken (suc job.skip) (faults_from job (ss ++ n ∷ []) 0 shards) index (omega (arith, low)) ∙ in_all in
    let here = got_unmapped seen_skipped both.faults index found.0 in_seen in
    let live : AllLive job (take (suc n) shards) = all_live job shards (suc n) (λ s l. ⊎_elim
    (λ (e : s ≡ n). (bad.shard, ap (slice_get shards) e ∙ bad.there, bad.alive))
    (λ (less : s < n). let c = holds.counts s (front s less) in (c.shard, c.there, c.alive)) (last_or s n l)) in
    let decided =
    fault_in_front job round.passed (take (suc n) shards) (drop (suc n) shards) found.0 low live found.1 in (
      here.0,
      here.1,
      ap (outcome_from job round.passed) (sym (cut_at (suc n) shards)) ∙ decided
          ∙ ap (λ (f : Faulting). faulted f.number f.fault) (sym here.2),
    )
