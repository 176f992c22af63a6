-- Readers of what stands in front of bytes: of one byte, of a text, and of what is made of parts.
use Rattle.std.proofs.Common.{◌≡◌, ◌∙◌, ℕ, ◌+◌, ◌-◌, ◌<◌, ◌≤◌, nat_le, Option, Some, List, [], ◌∷◌, ◌++◌, length, take, drop, refl, sym, ap, subst, append_assoc, arith, take_at, drop_at, take-append-drop, length-take-le, length-append, leb-true, le-leb}
use Rattle.std.specs.Prelude.{⊤}
use Rattle.sz_save_format.specs.Entries.{count_bytes, IsCount}
use Rattle.sz_save_format.specs.Decoding.{Decoder, and_then, only, byte_at, in_front, many_at}
use Rattle.sz_save_format.proofs.FrontLemmas.{Finds, after, many_goes, then_some, only_some, only_true, found_is, found_first, first_again, first_there, carried, byte_some, in_front_some}
use Rattle.sz_save_format.proofs.NameLemmas.{count_finds}
use Rattle.sz_journal.specs.Jobs.{text_bytes}
use Rattle.sz_journal.specs.EntryReading.{meant_at, text_at}

-- one of so many was read
pub read_one : {X : Type 0} (read : Decoder X) (whole : Option (List X × List ℕ)) (found now : List X)
    (rest more : List ℕ) (n i : ℕ) (x : X) → i < n
    → read rest ≡ Some (x, more) → (whole ≡ after found (many_at read (n - i) rest)) × (i ≤ n) → now ≡ found ++ x ∷ []
    → (whole ≡ after now (many_at read (n - (i + 1)) more)) × (i + 1 ≤ n)
read_one read whole found now rest more n i x less is so_far pushed = (
  subst (λ l. whole ≡ after l (many_at read (n - (i + 1)) more)) (sym pushed)
      (many_goes read whole found rest n i x more less is so_far.0),
  omega (arith, less),
)

-- what a byte means that each meaning has
module _ {X : Type 0} (meaning : ℕ → Option X) (byte : X → ℕ) (told : (n : ℕ) (x : X) → meaning n ≡ Some x → n ≡ byte x)
    (again : (x : X) → meaning (byte x) ≡ Some x) where
  meant_sound : (flat : List ℕ) (x : X) (rest : List ℕ) → meant_at meaning flat ≡ Some (x, rest)
      → ⊤ × (flat ≡ byte x ∷ rest)
  unfolding meant_at
  meant_sound flat x rest e =
      let first = then_some (byte_at flat) (λ b mid. in_front (meaning b) mid) (x, rest) e in
      let found = in_front_some (meaning first.0) first.1 x rest first.3 in
      (tt, byte_some flat first.0 first.1 first.2 ∙ (λ i. told first.0 x found.0 i ∷ found.1 i))

  meant_again : (x : X) (rest : List ℕ) → meant_at meaning (byte x ∷ rest) ≡ Some (x, rest)
  unfolding meant_at
  meant_again x rest = ap (λ o. in_front o rest) (again x)

  pub meant_finds : Finds (λ x. ⊤) (λ x. byte x ∷ []) (meant_at meaning)
  meant_finds = record { sound = meant_sound; again = λ x rest h. meant_again x rest }

-- what is made of what is found, and can be taken apart again
module _ {X Y : Type 0} {has : X → Type 0} {bytes : X → List ℕ} {read : Decoder X} (finds : Finds has bytes read)
    (made : X → Y) (parts : Y → X)
    (back : (x : X) → parts (made x) ≡ x) (forth : (y : Y) → made (parts y) ≡ y) where
  made_sound : (flat : List ℕ) (y : Y) (rest : List ℕ)
      → and_then (read flat) (λ x mid. Some (made x, mid)) ≡ Some (y, rest)
      → has (parts y) × (flat ≡ bytes (parts y) ++ rest)
  made_sound flat y rest e =
      let a = found_first finds flat (λ x mid. Some (made x, mid)) (y, rest) e in
      carried (λ z. has (parts z)) (λ z. bytes (parts z)) flat
      (made a.0) y a.1 rest a.4 (subst has (sym (back a.0)) a.2) (a.3 ∙ (λ i. bytes (sym (back a.0) i) ++ a.1))

  made_again : (y : Y) (rest : List ℕ) → has (parts y)
      → and_then (read (bytes (parts y) ++ rest)) (λ x mid. Some (made x, mid)) ≡ Some (y, rest)
  made_again y rest h = first_again finds (parts y) rest (λ x mid. Some (made x, mid)) h ∙ (λ i. Some (forth y i, rest))

  pub made_finds : Finds (λ y. has (parts y)) (λ y. bytes (parts y))
      (λ flat. and_then (read flat) (λ x mid. Some (made x, mid)))
  made_finds = record { sound = made_sound; again = made_again }

-- a text behind its length
abbrev text_behind : ℕ → List ℕ → Option (List ℕ × List ℕ)
text_behind n mid = only (nat_le n (length mid)) (Some (take n mid, drop n mid))

text_sound : (flat text rest : List ℕ) → text_at flat ≡ Some (text, rest)
    → IsCount (length text) × (flat ≡ text_bytes text ++ rest)
unfolding text_at
text_sound flat text rest e =
    let first = found_first count_finds flat text_behind (text, rest) e in
    let n = first.0 in
    let mid = first.1 in
    let parts = only_some (nat_le n (length mid)) (Some (take n mid, drop n mid)) (text, rest) first.4 in
    let same = found_is (take n mid) text (drop n mid) rest parts.1 in
    let long : length text ≡ n = ap length (sym same.0) ∙ length-take-le n mid (leb-true n (length mid) parts.0) in (
      subst IsCount (sym long) first.2,
      first.3 ∙ (λ i. count_bytes (sym long i) ++ sym (take-append-drop n mid) i)
          ∙ (λ i. count_bytes (length text) ++ (same.0 i ++ same.1 i))
          ∙ sym (append_assoc (count_bytes (length text)) text rest),
    )

text_again : (text rest : List ℕ) → IsCount (length text) → text_at (text_bytes text ++ rest) ≡ Some (text, rest)
unfolding text_at
text_again text rest h =
    let n = length text in
    let mid = text ++ rest in
    let few : n ≤ length mid = let both = length-append text rest in omega (arith, both) in
    first_there count_finds n (text_bytes text ++ rest) mid text_behind h (append_assoc (count_bytes n) text rest)
    ∙ only_true (nat_le n (length mid)) (Some (take n mid, drop n mid)) (le-leb n (length mid) few)
    ∙ (λ i. Some (take_at text rest n refl i, drop_at text rest n refl i))

pub text_finds : Finds (λ text. IsCount (length text)) text_bytes text_at
text_finds = record { sound = text_sound; again = text_again }
