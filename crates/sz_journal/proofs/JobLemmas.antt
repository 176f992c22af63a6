-- Jobs, and the bytes that are those of one.
use Rattle.std.proofs.Common.{◌≡◌, ◌∙◌, ℕ, ◌==◌, nat_le, Bool, true, false, ◌&&◌, ⊎_elim, Option, Some, None, List, [], ◌∷◌, ◌++◌, length, take, drop, bytes_eq, refl, sym, ap, subst, arith, append-nil, take-append-drop, length-append, eqb-true, le-leb}
use Rattle.std.specs.Prelude.{⊤, if◌then◌else◌, IfOk, IsErrOf}
use Rattle.std.specs.List.{AllByRecursion}
use Rattle.std.specs.declared.result.Result.{Result}
use Rattle.std.specs.declared.result.Result.TheVariants.{Ok, Err}
use Rattle.std.proofs.lemmas.Bool.{and_parts, and_from}
use Rattle.std.proofs.lemmas.List.{nil_from_length}
use Rattle.std.proofs.lemmas.Slice.Eq.{bytes_eq-Decides}
use Rattle.sz_types.specs.declared.frame.Frame.{Frame}
use Rattle.sz_types.specs.declared.frame.Frame.TheVariants.{Lines, Delimited}
use Rattle.sz_flat.specs.Spelling.{IsShort}
use Rattle.sz_save_format.specs.Entries.{IsCount}
use Rattle.sz_save_format.specs.Decoding.{and_then, only, length_at, counted_at}
use Rattle.sz_save_format.proofs.FrontLemmas.{Finds, none_some, some_is, then_some, only_some, only_true, found_is, found_first, first_there, same_finds, if_some, counted_finds, both_finds}
use Rattle.sz_save_format.proofs.NameLemmas.{length_finds, count_finds}
use Rattle.sz_journal.specs.Jobs.{mark, frame_byte, flag_byte, triple_bytes, kills_bytes, doubled_bytes, job_bytes, IsShortTriple, IsSpelledJob, IsOfJob}
use Rattle.sz_journal.specs.EntryReading.{mark_at, frame_in, flag_in, meant_at, triple_at, JobParts, job_of, parts_at, job_at, Reads}
use Rattle.sz_journal.specs.declared.entry_error.EntryError.{EntryError}
use Rattle.sz_journal.specs.declared.entry_error.EntryError.TheVariants.{NotEntry, NoMemory}
use Rattle.sz_journal.specs.declared.job.JobBytes.{JobBytes}
use Rattle.sz_journal.specs.declared.job.Triple.{Triple}
use Rattle.sz_journal.proofs.FindLemmas.{meant_finds, made_finds, text_finds}

-- what the bytes 0 and 1 mean is told by its byte
two_told : {X : Type 0} (first second x : X) (byte : X → ℕ) (n : ℕ) → byte first ≡ 0 → byte second ≡ 1
    → (if n == 0 then Some first else (if n == 1 then Some second else None)) ≡ Some x → n ≡ byte x
two_told first second x byte n zero one e =
    ⊎_elim (λ h. eqb-true n 0 h.0 ∙ sym zero ∙ ap byte (some_is first x h.1))
    (λ a. ⊎_elim (λ h. eqb-true n 1 h.0 ∙ sym one ∙ ap byte (some_is second x h.1)) (λ b. absurd (none_some b.1))
    (if_some (n == 1) (Some second) None x a.1))
    (if_some (n == 0) (Some first) (if n == 1 then Some second else None) x e)

frame_again : (frame : Frame) → frame_in (frame_byte frame) ≡ Some frame
frame_again Lines = refl
frame_again Delimited = refl

flag_again : (flag : Bool) → flag_in (flag_byte flag) ≡ Some flag
flag_again false = refl
flag_again true = refl

frame_finds : Finds (λ frame. ⊤) (λ frame. frame_byte frame ∷ []) (meant_at frame_in)
frame_finds =
    meant_finds frame_in frame_byte (λ n frame. two_told Lines Delimited frame frame_byte n refl refl) frame_again

flag_finds : Finds (λ flag. ⊤) (λ flag. flag_byte flag ∷ []) (meant_at flag_in)
flag_finds = meant_finds flag_in flag_byte (λ n flag. two_told false true flag flag_byte n refl refl) flag_again

-- kills
abbrev triple_of : ℕ × (ℕ × ℕ) → Triple
triple_of p = record { shard = p.0; number = p.1.0; after = p.1.1 }

triple_finds : Finds IsShortTriple triple_bytes triple_at
unfolding triple_at
triple_finds =
    same_finds
    (made_finds (both_finds length_finds (both_finds length_finds length_finds)) triple_of
    (λ t. (t.shard, (t.number, t.after))) (λ p. refl) (λ t. refl))
    (λ t h. record { shard = h.0; number = h.1.0; after = h.1.1 }) (λ t h. (h.shard, (h.number, h.after))) (λ t h. refl)

kills_finds : Finds (λ kills. IsShort (length kills) × AllByRecursion IsShortTriple kills) kills_bytes
    (counted_at triple_at)
kills_finds = counted_finds length_finds triple_finds

doubled_finds : Finds (λ shards. IsShort (length shards) × AllByRecursion IsShort shards) doubled_bytes
    (counted_at length_at)
doubled_finds = counted_finds length_finds length_finds

-- all that follows the mark
abbrev parts_of : JobBytes → JobParts
parts_of job = (
  job.frame,
  (
    job.shard,
    (job.attempts, (job.budget, (job.ignoring, (job.skip, (job.kills, (job.doubled, (job.program, job.proto))))))),
  ),
)

abbrev HaveParts : JobParts → Type 0
HaveParts p =
    ⊤ × (IsShort p.1.0 × (IsShort p.1.1.0 × (IsCount p.1.1.1.0 × (⊤ × (IsShort p.1.1.1.1.1.0
    × ((IsShort (length p.1.1.1.1.1.1.0) × AllByRecursion IsShortTriple p.1.1.1.1.1.1.0)
    × ((IsShort (length p.1.1.1.1.1.1.1.0) × AllByRecursion IsShort p.1.1.1.1.1.1.1.0)
    × (IsCount (length p.1.1.1.1.1.1.1.1.0) × IsCount (length p.1.1.1.1.1.1.1.1.1)))))))))

-- the bytes behind the mark
abbrev behind_mark : JobBytes → List ℕ
behind_mark job = drop 8 (job_bytes job)

parts_finds : Finds HaveParts (λ p. behind_mark (job_of p)) parts_at
parts_finds =
    both_finds frame_finds (both_finds length_finds
    (both_finds length_finds (both_finds count_finds (both_finds flag_finds (both_finds length_finds
    (both_finds kills_finds (both_finds doubled_finds (both_finds text_finds text_finds))))))))

have_parts : (job : JobBytes) → IsSpelledJob job → HaveParts (parts_of job)
have_parts job h = (
  tt,
  (
    h.shard,
    (
      h.attempts,
      (h.budget, (tt, (h.skip, ((h.few_kills, h.kills), ((h.few_doubled, h.doubled), (h.program, h.proto)))))),
    ),
  ),
)

spelled_parts : (p : JobParts) → HaveParts p → IsSpelledJob (job_of p)
spelled_parts p h = record {
  shard = h.1.0;
  attempts = h.1.1.0;
  budget = h.1.1.1.0;
  skip = h.1.1.1.1.1.0;
  few_kills = h.1.1.1.1.1.1.0.0;
  kills = h.1.1.1.1.1.1.0.1;
  few_doubled = h.1.1.1.1.1.1.1.0.0;
  doubled = h.1.1.1.1.1.1.1.0.1;
  program = h.1.1.1.1.1.1.1.1.0;
  proto = h.1.1.1.1.1.1.1.1.1;
}

mark_found : (flat : List ℕ) (x : ℕ) (rest : List ℕ) → mark_at flat ≡ Some (x, rest) → flat ≡ mark ++ rest
unfolding mark_at
mark_found flat x rest e =
    let parts = only_some (nat_le 8 (length flat) && bytes_eq (take 8 flat) mark) (Some (0, drop 8 flat)) (x, rest) e in
    let both = and_parts (nat_le 8 (length flat)) (bytes_eq (take 8 flat) mark) parts.0 in
    let same = found_is 0 x (drop 8 flat) rest parts.1 in
    sym (take-append-drop 8 flat) ∙ (λ i. (bytes_eq-Decides (take 8 flat) mark).0 both.1 i ++ same.1 i)

mark_again : (rest : List ℕ) → mark_at (mark ++ rest) ≡ Some (0, rest)
unfolding mark_at
mark_again rest =
    let long = length-append mark rest in
    only_true (nat_le 8 (length (mark ++ rest)) && bytes_eq (take 8 (mark ++ rest)) mark) (Some (0, rest))
    (and_from (nat_le 8 (length (mark ++ rest))) (bytes_eq mark mark)
    (le-leb 8 (length (mark ++ rest)) (omega (arith, long))) ((bytes_eq-Decides mark mark).1 refl))

-- what stands behind the mark, and behind the parts
abbrev parts_behind : JobParts → List ℕ → Option (JobBytes × List ℕ)
parts_behind p left = only (length left == 0) (Some (job_of p, left))

abbrev mark_behind : ℕ → List ℕ → Option (JobBytes × List ℕ)
mark_behind x rest = and_then (parts_at rest) parts_behind

-- what is found is a job
job_found : (flat : List ℕ) (job : JobBytes) (left : List ℕ) → job_at flat ≡ Some (job, left) → IsOfJob flat job
unfolding job_at
job_found flat job left e =
    let a = then_some (mark_at flat) mark_behind (job, left) e in
    let b = found_first parts_finds a.1 parts_behind (job, left) a.3 in
    let c = only_some (length b.1 == 0) (Some (job_of b.0, b.1)) (job, left) b.4 in
    let same = found_is (job_of b.0) job b.1 left c.1 in
    let none = nil_from_length b.1 (eqb-true (length b.1) 0 c.0) in
    subst (IsOfJob flat) same.0 (record {
      spelled = spelled_parts b.0 b.2;
      is =
          mark_found flat a.0 a.1 a.2 ∙ ap (λ l. mark ++ l) b.3
          ∙ (λ i. mark ++ (behind_mark (job_of b.0) ++ none i))
          ∙ ap (λ l. mark ++ l) (append-nil (behind_mark (job_of b.0)));
    })

-- and each job is found
job_again : (job : JobBytes) → IsSpelledJob job → job_at (job_bytes job) ≡ Some (job, [])
unfolding job_at
job_again job h =
    ap (λ o. and_then o mark_behind) (mark_again (behind_mark job))
    ∙ first_there parts_finds (parts_of job) (behind_mark job) [] parts_behind (have_parts job h)
    (sym (append-nil (behind_mark job)))

-- no bytes are those of two jobs
pub one_job : (bytes : List ℕ) (first second : JobBytes) → IsOfJob bytes first → IsOfJob bytes second → first ≡ second
one_job bytes first second h k =
    (found_is first second [] []
    (sym (job_again first h.spelled) ∙ ap job_at (sym h.is ∙ k.is) ∙ job_again second k.spelled)).0

-- what was read is the job, and where nothing was read there is none
pub job_read : (flat : List ℕ) (result : Result JobBytes EntryError) → Reads (λ job. (job, [])) (job_at flat) result
    → IfOk result (λ job. IsOfJob flat job)
job_read flat (Ok job) h = job_found flat job [] h
job_read flat (Err e) h = tt

pub job_refused : (flat : List ℕ) (result : Result JobBytes EntryError)
    → Reads (λ job. (job, [])) (job_at flat) result → IsErrOf result NotEntry
    → (job : JobBytes) → IsOfJob flat job → ⊥
job_refused flat (Ok job) h is other of = absurd cc
job_refused flat (Err NotEntry) h is other of = none_some (sym h ∙ ap job_at of.is ∙ job_again other of.spelled)
job_refused flat (Err NoMemory) h is other of = absurd cc
