-- What stands at a gate, by what was read there.
use Rattle.std.proofs.Common.{◌≡◌, ◌≢◌, ℕ, ◌+◌, ◌-◌, ◌<◌, ◌≤◌, ◌^◌, List, [], ◌∷◌, ◌++◌, length, take, drop, get_or, Option, Some, None, IfSome, refl, sym, ◌∙◌, ap, subst, arith, append_assoc, length-append, length-take, length-drop, take-append-drop}
use Rattle.std.specs.Int.{w64, from_be_bytes}
use Rattle.std.proofs.lemmas.List.{take_all, drop_more, drop_all, drop-drop}
use Rattle.std.proofs.lemmas.Nat.{from_be_bytes-to_be_bytes_8}
use Rattle.sz_disk.specs.Entries.{count_bytes, with_length, IsCounted}
use Rattle.sz_disk.specs.GateCalls.{Begins, HasEntry, IsCut}

-- facts of bytes that may not be told
pub some_if : (bytes : Option (List ℕ)) (P Q : List ℕ → Type 0) → ((held : List ℕ) → P held → Q held) → IfSome bytes P
    → IfSome bytes Q
some_if None P Q follows has = tt
some_if (Some held) P Q follows has = follows held has

pub some_both : (bytes : Option (List ℕ)) (P Q R : List ℕ → Type 0) → ((held : List ℕ) → P held → Q held → R held)
    → IfSome bytes P → IfSome bytes Q → IfSome bytes R
some_both None P Q R follows first second = tt
some_both (Some held) P Q R follows first second = follows held first second

pub some_three : (bytes : Option (List ℕ)) (P Q R S : List ℕ → Type 0)
    → ((held : List ℕ) → P held → Q held → R held → S held) → IfSome bytes P
    → IfSome bytes Q → IfSome bytes R → IfSome bytes S
some_three None P Q R S follows first second third = tt
some_three (Some held) P Q R S follows first second third = follows held first second third

-- two lengths with the same 8 bytes are the same
pub count_again : (m n : ℕ) → m < 2 ^ 64 → n < 2 ^ 64 → count_bytes m ≡ count_bytes n → m ≡ n
count_again m n few small same = sym (from_be_bytes-to_be_bytes_8 m few)
    ∙ ap (λ (l : List ℕ). from_be_bytes w64 l) same ∙ from_be_bytes-to_be_bytes_8 n small

-- a length that was read
pub counted_by : (n at : ℕ) (into held : List ℕ) → count_bytes n ≡ take 8 into → into ≡ take 8 (drop at held)
    → count_bytes n ≡ take 8 (drop at held)
counted_by n at into held counts is =
    counts ∙ ap (λ (l : List ℕ). take 8 l) is
    ∙ take_all 8 (take 8 (drop at held)) (omega (arith, length-take 8 (drop at held)))

module _ (held : List ℕ) (count gate : ℕ) (all : count ≡ length held) (here : gate < count) where
  abbrev rest : List ℕ
  rest = drop (gate + 1) held

  rest_long : length rest ≡ count - gate - 1
  rest_long = omega (arith, length-drop (gate + 1) held, all)

  -- there is no room for a length
  pub cut_short : count - gate - 1 < 8 → IsCut (1 ∷ rest)
  cut_short short = record { behind = rest; is = refl; none = λ entry more counted is. none entry more is }
    where
      none : (entry more : List ℕ) → rest ≡ with_length entry ++ more → ⊥
      none entry more is =
          let whole = length-append (with_length entry) more in
          let parts = length-append (count_bytes (length entry)) entry in
          absurd (omega (arith, short, rest_long, ap length is, whole, parts))

  module _ (n : ℕ) (small : n < 2 ^ 64) (length_is : count_bytes n ≡ take 8 rest) where
    -- there is no room for the entry
    pub cut_long : count - gate - 1 - 8 < n → IsCut (1 ∷ rest)
    cut_long long = record { behind = rest; is = refl; none = none }
      where
        none : (entry more : List ℕ) → IsCounted entry → rest ≢ with_length entry ++ more
        none entry more counted is =
            let whole = length-append (with_length entry) more in
            let parts = length-append (count_bytes (length entry)) entry in
            let front : take 8 rest ≡ count_bytes (length entry) = ap (λ (l : List ℕ). take 8 l) is in
            let same = count_again n (length entry) small counted (length_is ∙ front) in
            absurd (omega (arith, long, rest_long, ap length is, whole, parts, same))

    module _ (entry : List ℕ) (entry_is : entry ≡ take n (drop (gate + 1 + 8) held)) (room : n ≤ count - gate - 1 - 8)
        (eight : 8 ≤ count - gate - 1) where
      abbrev behind : List ℕ
      behind = drop (gate + 1 + 8 + n) held

      entry_long : length entry ≡ n
      entry_long = omega (
        arith,
        ap length entry_is,
        length-take n (drop (gate + 1 + 8) held),
        length-drop (gate + 1 + 8) held,
        all,
        room,
        eight,
      )

      rest_is : rest ≡ with_length entry ++ behind
      rest_is =
          let tail : drop 8 rest ≡ drop (gate + 1 + 8) held = drop-drop 8 (gate + 1) held in
          let last : drop n (drop (gate + 1 + 8) held) ≡ behind = drop-drop n (gate + 1 + 8) held in
          sym (take-append-drop 8 rest)
          ∙ (λ i. sym length_is i ++ tail i)
          ∙ ap (λ (l : List ℕ). count_bytes n ++ l) (sym (take-append-drop n (drop (gate + 1 + 8) held)))
          ∙ (λ i. count_bytes (sym entry_long i) ++ (sym entry_is i ++ last i))
          ∙ sym (append_assoc (count_bytes (length entry)) entry behind)

      pub begins : Begins entry behind (1 ∷ rest)
      begins = record { is = ap (λ (l : List ℕ). 1 ∷ l) rest_is; counted = omega (arith, entry_long, small) }

      -- the next gate stands behind it
      pub has_entry : n < count - gate - 1 - 8 → HasEntry entry (1 ∷ rest)
      has_entry less = record {
        gate = get_or held (gate + 1 + 8 + n) 0;
        behind = drop (gate + 1 + 8 + n + 1) held;
        begins = subst (λ (l : List ℕ). Begins entry l (1 ∷ rest))
            (drop_more held (gate + 1 + 8 + n) 0 (omega (arith, less, all))) begins;
      }

      -- the disk ends with it
      pub ends : n ≡ count - gate - 1 - 8 → Begins entry [] (1 ∷ rest)
      ends same = subst (λ (l : List ℕ). Begins entry l (1 ∷ rest))
          (drop_all (gate + 1 + 8 + n) held (omega (arith, same, all, eight))) begins
