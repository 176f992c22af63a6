-- Where names stand, what they hold and how many faults there are, when a file is put.
use Rattle.std.proofs.Common.{◌≡◌, ◌≢◌, ℕ, ◌+◌, ◌<◌, suc, Bool, true, false, if◌then◌else◌, List, [], ◌∷◌, ◌++◌, length}
use Rattle.std.proofs.Common.{Option, Some, None, refl, ap, ◌∙◌, arith, string_bytes}
use Rattle.std.proofs.lemmas.Slice.Eq.{bytes_eq-Decides}
use Rattle.std.specs.Option.{option_map, option_map_or}
use Rattle.std.specs.Str.{bytes_eq}
use Rattle.sz_io.specs.declared.named_file.NamedFile.{NamedFile}
use Rattle.sz_io.specs.Listed.{listed_before}
use Rattle.sz_io.specs.NamedFiles.{or_else, place_in, bytes_at, bytes_named, faults_in}
use Rattle.sz_io.proofs.Gets.{slice_get-push_new}
use Rattle.sz_io.proofs.PlacedLemmas.{bytes_at-push_old}

faults_in-more : (files : List NamedFile) (file : NamedFile) → file.calls ≡ 0
    → faults_in (files ++ file ∷ []) ≡ faults_in files
faults_in-more [] file fresh =
    let e : listed_before file.calls file.fails.items ≡ 0 =
    ap (λ n. listed_before n file.fails.items) fresh in
    omega (arith, e)
faults_in-more (f ∷ fs) file fresh = let rest = faults_in-more fs file fresh in omega (arith, rest)

place_in-step : (b : Bool) (p head : Option ℕ) (n : ℕ)
    → or_else (option_map (λ i. i + 1) (if b then Some n else p)) head
    ≡ (if b then Some (n + 1) else or_else (option_map (λ i. i + 1) p) head)
place_in-step true p head n = refl
place_in-step false p head n = refl

place_in-more : (files : List NamedFile) (file : NamedFile) (name : List ℕ)
    → place_in (files ++ file ∷ []) name
    ≡ (if bytes_eq (string_bytes file.name) name then Some (length files) else place_in files name)
place_in-more [] file name = refl
place_in-more (f ∷ fs) file name =
    let head : Option ℕ = if bytes_eq (string_bytes f.name) name then Some 0 else None in
    let rest = ap (λ p. or_else (option_map (λ i. i + 1) p) head) (place_in-more fs file name) in
    let e : length fs + 1 ≡ length (f ∷ fs) = omega arith in
    rest ∙ place_in-step (bytes_eq (string_bytes file.name) name) (place_in fs name) head (length fs)
    ∙ ap (λ n. if bytes_eq (string_bytes file.name) name then Some n else place_in (f ∷ fs) name) e

inside-step : (p : Option ℕ) (b : Bool) (n i : ℕ) → ((k : ℕ) → p ≡ Some k → k < n)
    → or_else (option_map (λ k. k + 1) p) (if b then Some 0 else None) ≡ Some i → i < suc n
inside-step None true n i rest found = let e : 0 ≡ i = cc in omega arith
inside-step None false n i rest found = absurd cc
inside-step (Some k) b n i rest found = let e : k + 1 ≡ i = cc in omega (arith, rest k refl)

pub place_in-inside : (files : List NamedFile) (name : List ℕ) (i : ℕ) → place_in files name ≡ Some i → i < length files
place_in-inside [] name i found = absurd cc
place_in-inside (f ∷ fs) name i found =
    inside-step (place_in fs name) (bytes_eq (string_bytes f.name) name) (length fs) i (place_in-inside fs name) found

pub place_in-put_same : (files : List NamedFile) (file : NamedFile) (name : List ℕ) → string_bytes file.name ≡ name
    → place_in (files ++ file ∷ []) name ≡ Some (length files)
place_in-put_same files file name same =
    let equal : bytes_eq (string_bytes file.name) name ≡ true =
    (bytes_eq-Decides (string_bytes file.name) name).1 same in
    place_in-more files file name ∙ ap (λ b. if b then Some (length files) else place_in files name) equal

pub place_in-put_other : (files : List NamedFile) (file : NamedFile) (name : List ℕ) → (string_bytes file.name ≢ name)
    → place_in (files ++ file ∷ []) name ≡ place_in files name
place_in-put_other files file name apart =
    let unequal : bytes_eq (string_bytes file.name) name ≡ false =
    grind (arith, bytes_eq-Decides (string_bytes file.name) name, apart) in
    place_in-more files file name ∙ ap (λ b. if b then Some (length files) else place_in files name) unequal

-- the new file is what its name holds
pub bytes_named-put_same : (files : List NamedFile) (file : NamedFile) (name : List ℕ) → string_bytes file.name ≡ name
    → bytes_named (files ++ file ∷ []) name ≡ Some file.bytes.items
bytes_named-put_same files file name same =
    ap (option_map (bytes_at (files ++ file ∷ []))) (place_in-put_same files file name same)
    ∙ ap (λ o. Some (option_map_or (λ f. f.bytes.items) o [])) (slice_get-push_new files file)

-- another name has the bytes that it had
pub bytes_named-put_other : (files : List NamedFile) (file : NamedFile) (name : List ℕ)
    → (string_bytes file.name ≢ name) → bytes_named (files ++ file ∷ []) name ≡ bytes_named files name
bytes_named-put_other files file name apart =
    ap (option_map (bytes_at (files ++ file ∷ []))) (place_in-put_other files file name apart)
    ∙ at (place_in files name) refl where
      at : (p : Option ℕ) → place_in files name ≡ p
          → option_map (bytes_at (files ++ file ∷ [])) p ≡ option_map (bytes_at files) p
      at None found = refl
      at (Some i) found = ap Some (bytes_at-push_old files file i (place_in-inside files name i found))

-- a file that was put, or one for which memory ran out, has no fault
pub faults_in-pushed : (files new : List NamedFile) (file : NamedFile) (b : Bool) → file.calls ≡ 0
    → new ≡ (if b then files ++ file ∷ [] else files) → faults_in new ≡ faults_in files
faults_in-pushed files new file true fresh same = ap faults_in same ∙ faults_in-more files file fresh
faults_in-pushed files new file false fresh same = ap faults_in same
