-- What happens to places, and to the bytes left, when a file is called, opened, read or put.
use Rattle.std.proofs.Common.{Vec, Global, ◌≡◌, ◌≢◌, inl, inr, ℕ, ◌<◌, Bool, true, false, if◌then◌else◌, List, [], ◌∷◌, ◌++◌, length, drop}
use Rattle.std.proofs.Common.{Option, Some, None, option_and_then, refl, sym, ap, subst, ◌∙◌, arith, length-append}
use Rattle.std.proofs.Math.ListN.{set}
use Rattle.std.proofs.lemmas.List.{with_items_is}
use Rattle.std.specs.Vec.{with_items}
use Rattle.std.specs.List.{slice_get}
use Rattle.std.specs.Option.{option_map, option_map_or}
use Rattle.sz_io.specs.declared.named_file.NamedFile.{NamedFile}
use Rattle.sz_io.specs.declared.named_file.Place.{Place}
use Rattle.sz_io.specs.NamedFiles.{place_in, bytes_at, bytes_named, rest_of, left_in, CallsOneFile}
use Rattle.sz_io.proofs.Gets.{slice_get-set, slice_get-set_other}
use Rattle.sz_io.proofs.Gets.{slice_get-push, slice_get-push_old, slice_get-push_new}
use Rattle.sz_io.specs.Placed.{IsPlaced, ArePlaced}

-- ---- places

-- a call on a file moves no place
pub placed_kept : (old new : List NamedFile) (opened : List Place) (i : ℕ) → CallsOneFile old new i
    → ArePlaced old opened → ArePlaced new opened
placed_kept old new opened i called placed number place there =
    let was = placed number place there in
    record {
      known = let e = called.same_length in omega (arith, was.known);
      within = let e = ap length (called.same_bytes place.file) in omega (arith, was.within);
    }

pub placed_set : (files : List NamedFile) (opened : List Place) (k : ℕ) (place : Place) → IsPlaced files place
    → ArePlaced files opened → ArePlaced files (set opened k place)
placed_set files opened k place here placed number other there =
    elim (slice_get-set opened k number place other there) [
      | inl same ↦ subst (IsPlaced files) (sym same) here
      | inr was ↦ placed number other was
    ]

pub placed_push : (files : List NamedFile) (opened : List Place) (place : Place) → IsPlaced files place
    → ArePlaced files opened → ArePlaced files (opened ++ place ∷ [])
placed_push files opened place here placed number other there =
    elim (slice_get-push opened number place other there) [
      | inl same ↦ subst (IsPlaced files) (sym same) here
      | inr was ↦ placed number other was
    ]

pub bytes_at-push_old : (files : List NamedFile) (file : NamedFile) (i : ℕ) → i < length files
    → bytes_at (files ++ file ∷ []) i ≡ bytes_at files i
bytes_at-push_old files file i inside =
    ap (λ o. option_map_or (λ f. f.bytes.items) o []) (slice_get-push_old files i file inside)

pub placed_more : (files : List NamedFile) (opened : List Place) (file : NamedFile) → ArePlaced files opened
    → ArePlaced (files ++ file ∷ []) opened
placed_more files opened file placed number place there =
    let was = placed number place there in
    record {
      known = let e = length-append files (file ∷ []) in omega (arith, was.known);
      within = let e = ap length (bytes_at-push_old files file place.file was.known) in omega (arith, was.within);
    }

-- ---- bytes left

pub left_in-called : (old new : List NamedFile) (opened : List Place) (i number : ℕ) → CallsOneFile old new i
    → left_in new opened number ≡ left_in old opened number
left_in-called old new opened i number called = at (slice_get opened number) where
  at : (o : Option Place) → option_and_then (rest_of new) o ≡ option_and_then (rest_of old) o
  at None = refl
  at (Some place) = ap (λ bytes. Some (drop place.at bytes)) (called.same_bytes place.file)

pub left_in-set_other : (files : List NamedFile) (opened : List Place) (k j : ℕ) (place : Place) → j ≢ k
    → left_in files (set opened k place) j ≡ left_in files opened j
left_in-set_other files opened k j place apart =
    ap (option_and_then (rest_of files)) (slice_get-set_other opened k j place apart)

pub left_in-push_old : (files : List NamedFile) (opened : List Place) (j : ℕ) (place : Place) → j < length opened
    → left_in files (opened ++ place ∷ []) j ≡ left_in files opened j
left_in-push_old files opened j place inside =
    ap (option_and_then (rest_of files)) (slice_get-push_old opened j place inside)

pub left_in-push_new : (files : List NamedFile) (opened : List Place) (place : Place)
    → left_in files (opened ++ place ∷ []) (length opened) ≡ rest_of files place
left_in-push_new files opened place = ap (option_and_then (rest_of files)) (slice_get-push_new opened place)

-- ---- a file more

pub left_in-more : (files : List NamedFile) (opened : List Place) (file : NamedFile) (number : ℕ)
    → ArePlaced files opened → left_in (files ++ file ∷ []) opened number ≡ left_in files opened number
left_in-more files opened file number placed = at (slice_get opened number) refl where
  at : (o : Option Place) → slice_get opened number ≡ o
      → option_and_then (rest_of (files ++ file ∷ [])) o ≡ option_and_then (rest_of files) o
  at None there = refl
  at (Some place) there =
      ap (λ bytes. Some (drop place.at bytes))
      (bytes_at-push_old files file place.file (placed number place there).known)

pub bytes_named-called : (old new : List NamedFile) (i : ℕ) (name : List ℕ) → CallsOneFile old new i
    → bytes_named new name ≡ bytes_named old name
bytes_named-called old new i name called = ap (option_map (bytes_at new)) (called.same_places name)
    ∙ at (place_in old name) where
      at : (p : Option ℕ) → option_map (bytes_at new) p ≡ option_map (bytes_at old) p
      at None = refl
      at (Some k) = ap Some (called.same_bytes k)

-- ---- the files in their vector

-- a call on the files as a slice is one on the vector that they are written back to
pub called_in : (v : Vec NamedFile Global) (old new : List NamedFile) (i : ℕ) → old ≡ v.items → CallsOneFile old new i
    → CallsOneFile v.items (with_items v new).items i
called_in v old new i same called =
    let e : length new ≡ v.len = called.same_length ∙ ap length same ∙ sym v.ok.0 in
    let from_vec : CallsOneFile v.items new i = subst (λ l. CallsOneFile l new i) same called in
    subst (λ l. CallsOneFile v.items l i) (sym (with_items_is v new e)) from_vec

-- a place in the files as a slice is one in the vector that they are written back to
pub placed_in : (v : Vec NamedFile Global) (old new : List NamedFile) (i : ℕ) (place : Place) → old ≡ v.items
    → CallsOneFile old new i → IsPlaced new place → IsPlaced (with_items v new).items place
placed_in v old new i place same called here =
    let e : length new ≡ v.len = called.same_length ∙ ap length same ∙ sym v.ok.0 in
    subst (λ l. IsPlaced l place) (sym (with_items_is v new e)) here

-- ---- a push that may have failed

module _ (files new : List NamedFile) (opened : List Place) (file : NamedFile) (placed : ArePlaced files opened) where
  pub placed_pushed : (b : Bool) → new ≡ (if b then files ++ file ∷ [] else files) → ArePlaced new opened
  placed_pushed true same = subst (λ l. ArePlaced l opened) (sym same) (placed_more files opened file placed)
  placed_pushed false same = subst (λ l. ArePlaced l opened) (sym same) placed

  pub left_in-pushed : (b : Bool) (number : ℕ) → new ≡ (if b then files ++ file ∷ [] else files)
      → left_in new opened number ≡ left_in files opened number
  left_in-pushed true number same = ap (λ l. left_in l opened number) same
      ∙ left_in-more files opened file number placed
  left_in-pushed false number same = ap (λ l. left_in l opened number) same

-- an opened file more, or none
pub placed_opened : (files : List NamedFile) (opened new : List Place) (place : Place) (b : Bool)
    → new ≡ (if b then opened ++ place ∷ [] else opened) → IsPlaced files place → ArePlaced files opened
    → ArePlaced files new
placed_opened files opened new place true same here placed =
    subst (ArePlaced files) (sym same) (placed_push files opened place here placed)
placed_opened files opened new place false same here placed = subst (ArePlaced files) (sym same) placed

-- the start of a file is a place in it
pub placed_start : (files : List NamedFile) (i : ℕ) → i < length files → IsPlaced files (record { file = i; at = 0 })
placed_start files i inside = record { known = inside; within = omega arith }

-- ---- a file that was opened

module _ (old new : List NamedFile) (i : ℕ) (called : CallsOneFile old new i) (opened : List Place) where
  -- it has all its bytes left
  pub left_in-opened : (name : List ℕ) (number : ℕ) → Some i ≡ place_in old name → number ≡ length opened
      → left_in new (opened ++ record { file = i; at = 0 } ∷ []) number ≡ bytes_named old name
  left_in-opened name number found next =
      let place : Place = record { file = i; at = 0 } in
      let here : left_in new (opened ++ place ∷ []) number ≡ rest_of new place =
      ap (left_in new (opened ++ place ∷ [])) next ∙ left_in-push_new new opened place in
      here ∙ ap Some (called.same_bytes i) ∙ ap (option_map (bytes_at old)) found

  -- those opened before have what they had
  pub left_in-before : (place : Place) (number : ℕ) → number < length opened
      → left_in new (opened ++ place ∷ []) number ≡ left_in old opened number
  left_in-before place number inside = left_in-push_old new opened number place inside
      ∙ left_in-called old new opened i number called

-- a push that succeeded
pub pushed_if : {X : Type 0} (b : Bool) (old new : List X) (x : X) → b ≡ true
    → new ≡ (if b then old ++ x ∷ [] else old) → new ≡ old ++ x ∷ []
pushed_if b old new x succeeds same = same ∙ ap (λ b. if b then old ++ x ∷ [] else old) succeeds
