-- What counting a call does to the files of a device in memory, and where a file is found.
use Rattle.std.proofs.Common.{◌≡◌, ℕ, ◌+◌, ◌-◌, ◌^◌, ◌<◌, ◌≤◌, suc, zero, min, true, false, if◌then◌else◌, List, [], ◌∷◌, Some, None}
use Rattle.std.proofs.Common.{refl, sym, ap, ap₂, ◌∙◌, length, drop, arith, string_bytes, get_or, drop-cons}
use Rattle.std.proofs.Math.ListN.{set, length-set}
use Rattle.std.specs.List.{slice_get}
use Rattle.std.specs.Option.{option_map, option_map_or}
use Rattle.std.specs.Str.{bytes_eq}
use Rattle.sz_io.specs.declared.named_file.NamedFile.{NamedFile}
use Rattle.sz_io.specs.Listed.{listed_before, is_listed}
use Rattle.std.proofs.lemmas.Option.{slice_get_within}
use Rattle.sz_io.proofs.Gets.{slice_get-set_same, slice_get-set_other}
use Rattle.sz_io.specs.NamedFiles.{file_plan, after_call, fails_next, or_else, place_in, bytes_at, faults_in, is_next_listed, CallsOneFile}
use Rattle.sz_io.proofs.ListedLemmas.{listed_after}

-- the same file, after one call more
pub record IsCalled (old new : NamedFile) : Type 0 where
  pub name : new.name ≡ old.name
  pub bytes : new.bytes ≡ old.bytes
  pub fails : new.fails ≡ old.fails
  pub calls : new.calls ≡ min (old.calls + 1) (2 ^ 64 - 1)

place_in-set : (files : List NamedFile) (i : ℕ) (file new : NamedFile) (name : List ℕ) → slice_get files i ≡ Some file
    → new.name ≡ file.name → place_in (set files i new) name ≡ place_in files name
place_in-set [] i file new name there same = cc
place_in-set (f ∷ fs) zero file new name there same =
    let e : new.name ≡ f.name = cc in
    ap (λ n. or_else (option_map (λ k. k + 1) (place_in fs name))
    (if bytes_eq (string_bytes n) name then Some 0 else None)) e
place_in-set (f ∷ fs) (suc i) file new name there same =
    let head = if bytes_eq (string_bytes f.name) name then Some 0 else None in
    ap (λ p. or_else (option_map (λ k. k + 1) p) head) (place_in-set fs i file new name there same)

bytes_at-set : (files : List NamedFile) (i k : ℕ) (file new : NamedFile) → slice_get files i ≡ Some file
    → new.bytes ≡ file.bytes → bytes_at (set files i new) k ≡ bytes_at files k
bytes_at-set [] i k file new there same = cc
bytes_at-set (f ∷ fs) zero zero file new there same =
    let e : new.bytes ≡ f.bytes = cc in ap (λ b. b.items) e
bytes_at-set (f ∷ fs) zero (suc k) file new there same = refl
bytes_at-set (f ∷ fs) (suc i) zero file new there same = refl
bytes_at-set (f ∷ fs) (suc i) (suc k) file new there same = bytes_at-set fs i k file new there same

faults_in-set : (files : List NamedFile) (i : ℕ) (file new : NamedFile) → slice_get files i ≡ Some file
    → faults_in (set files i new) + listed_before file.calls file.fails.items
    ≡ faults_in files + listed_before new.calls new.fails.items
faults_in-set [] i file new there = cc
faults_in-set (f ∷ fs) zero file new there =
    let s : f ≡ file = cc in
    let e : listed_before f.calls f.fails.items ≡ listed_before file.calls file.fails.items =
    ap (λ x. listed_before x.calls x.fails.items) s in
    omega arith
faults_in-set (f ∷ fs) (suc i) file new there =
    let rest = faults_in-set fs i file new there in omega (arith, rest)

-- one file is the same after one call more, and the others stay
pub counted : (files : List NamedFile) (i : ℕ) (file new : NamedFile) → slice_get files i ≡ Some file
    → file.calls < 2 ^ 64 → IsCalled file new → CallsOneFile files (set files i new) i
counted files i file new there fits called =
    let old_faults = listed_before file.calls file.fails.items in
    let new_faults = listed_before (min (file.calls + 1) (2 ^ 64 - 1)) file.fails.items in
    let moved = faults_in-set files i file new there in
    let same : new.fails.items ≡ file.fails.items = ap (λ v. v.items) called.fails in
    let count : listed_before new.calls new.fails.items ≡ new_faults = cc (called.calls) in
    let after : new_faults ≡ old_faults + (if is_listed file.fails.items file.calls then 1 else 0) =
    listed_after file.fails.items file.calls fits in
    let next : is_next_listed files i ≡ is_listed file.fails.items file.calls =
    ap (λ o. option_map_or fails_next (option_map file_plan o) false) there in
    let written : slice_get (set files i new) i ≡ Some new =
    slice_get-set_same files i new (slice_get_within files i file there) in
    let plan : file_plan new ≡ after_call (file_plan file) =
    ap₂ (λ n ks. record { calls = n; fails = ks }) called.calls same in
    record {
      same_length = length-set _ _ _;
      same_places = λ name. place_in-set files i file new name there called.name;
      same_bytes = λ k. bytes_at-set files i k file new there called.bytes;
      counted = ap (option_map file_plan) written ∙ ap Some plan
          ∙ ap (λ o. option_map after_call (option_map file_plan o)) (sym there);
      others_same = λ k apart. ap (option_map file_plan) (slice_get-set_other files i k new apart);
      faults_now = rw next (omega (arith, moved, count, after));
    }

-- a file found after the first i is found there
pub found_after : (files : List NamedFile) (name : List ℕ) (i k : ℕ) → place_in (drop i files) name ≡ Some k
    → place_in files name ≡ Some (i + k)
found_after files name zero k found = let e : 0 + k ≡ k = omega arith in rw e found
found_after [] name (suc i) k found = cc
found_after (f ∷ fs) name (suc i) k found =
    let rest : place_in fs name ≡ Some (i + k) = found_after fs name i k found in
    let e : i + k + 1 ≡ suc i + k = omega arith in
    rw rest (ap Some e)

-- the name stands at i and at no later place
pub found_at : (files : List NamedFile) (name : List ℕ) (i n : ℕ) (d : NamedFile) → i + 1 ≡ n → n ≤ length files
    → place_in (drop n files) name ≡ None → bytes_eq (string_bytes (get_or files i d).name) name ≡ true
    → Some i ≡ place_in files name
found_at files name i n d next in_range later here =
    let inside : i < length files = omega arith in
    let following : suc i ≡ n = omega arith in
    let front : drop i files ≡ get_or files i d ∷ drop n files =
    drop-cons files i d inside ∙ ap (λ k. get_or files i d ∷ drop k files) following in
    let first : place_in (drop i files) name ≡ Some 0 = rw (front, later, here) refl in
    let all = found_after files name i 0 first in
    let e : i + 0 ≡ i = omega arith in
    sym (all ∙ ap Some e)
