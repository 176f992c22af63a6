-- What reading the files of a command line says of their texts.
use Rattle.std.proofs.Common.{◌≡◌, ◌≢◌, ℕ, ◌+◌, ◌<◌, List, [], length, Option, Some, None, refl, arith}
use Rattle.std.specs.Prelude.{IfSome, unwrap_or, replicate, Err}
use Rattle.std.proofs.lemmas.List.{length-replicate}
use Rattle.szl.specs.declared.failure.Failure.{Failure}
use Rattle.szl.specs.declared.failure.Failure.TheVariants.{ReadFailed, NoMemory}
use Rattle.szl.specs.Opening.{ReadsText}

-- the text that is told, or this one
pub holds_or : (told : Option (List ℕ)) (text : List ℕ) → IfSome told (λ bytes. bytes ≡ unwrap_or told text)
holds_or None text = tt
holds_or (Some bytes) text = refl

pub reads_failed : (told : Option (List ℕ)) (limit : ℕ) (past : Failure) (rose : Type 0) → rose → ReadsText told limit past rose (Err ReadFailed)
reads_failed told limit past rose is = record { text = unwrap_or told []; holds = holds_or told []; tells = is }

pub reads_no_memory : (told : Option (List ℕ)) (limit : ℕ) (past : Failure) (rose : Type 0) → ReadsText told limit past rose (Err NoMemory)
reads_no_memory told limit past rose = record { text = unwrap_or told []; holds = holds_or told []; tells = tt }

long_or : (told : Option (List ℕ)) (limit : ℕ) → IfSome told (λ bytes. limit < length bytes)
    → limit < length (unwrap_or told (replicate (limit + 1) 0))
long_or None limit h = omega (arith, length-replicate {A = ℕ} (limit + 1) 0)
long_or (Some bytes) limit h = h

-- a file of too many bytes has any failure but that of a read, or there was no memory
pub reads_past : (told : Option (List ℕ)) (limit : ℕ) (past : Failure) (rose : Type 0) → IfSome told (λ bytes. limit < length bytes)
    → past ≢ ReadFailed → ReadsText told limit past rose (Err past)
reads_past told limit ReadFailed rose long other = absurd (other refl)
reads_past told limit NoMemory rose long other = reads_no_memory told limit NoMemory rose
reads_past told limit past rose long other = record {
  text = unwrap_or told (replicate (limit + 1) 0);
  holds = holds_or told (replicate (limit + 1) 0);
  tells = (refl, long_or told limit long);
}
