-- The first byte that passes a test stands after the bytes that do not.
use Rattle.std.proofs.Common.{◌≡◌, ℕ, ◌+◌, ◌<◌, Bool, [], ◌∷◌, take, drop, true, false, not, List, length, get_or, Option, Some, None, refl}
use Rattle.std.proofs.Common.{sym, ap, ◌∙◌, arith}
use Rattle.std.specs.Prelude.{unwrap_or}
use Rattle.std.specs.List.{prefix_len}
use Rattle.std.proofs.lemmas.List.Sums.{prefix_len_is}
use Rattle.std.proofs.lemmas.List.{drop_all, drop_more}
use Rattle.std.proofs.lemmas.Bool.{eqb-true}
use Rattle.std.specs.Option.{option_map}
use Rattle.memchr.specs.Find.{IsFirstByte, is_byte}
use Rattle.sz_lex.specs.Reading.{plain_character, quoted_character, unescaped_at}

pub no_test : (x : Bool) → (x ≡ true → ⊥) → not x ≡ true
no_test true h = absurd (h refl)
no_test false h = refl

pub first_passes : (test : ℕ → Bool) (hay : List ℕ) (r : Option ℕ) → IsFirstByte test hay r
    → unwrap_or r (length hay) ≡ prefix_len (λ (b : ℕ). not (test b)) hay
first_passes test hay None h =
    sym (prefix_len_is (λ (b : ℕ). not (test b)) hay (length hay) 0 (omega arith) (λ k lt. no_test (test
    (get_or hay k 0)) (h k (omega arith) lt)) (λ lt. absurd (omega arith)))
first_passes test hay (Some k) h =
    let within : k < length hay = h.0.high in
    sym (prefix_len_is (λ (b : ℕ). not (test b)) hay k 0 (omega arith)
    (λ i lt. no_test (test (get_or hay i 0)) (h.0.before i (omega arith) lt)) (λ _. ap not h.1))

-- where no quote closes it, there is no character
pub none_closed : (text : List ℕ) → IsFirstByte (is_byte 39) text None → unescaped_at text ≡ None
none_closed text h =
    let len = first_passes (is_byte 39) text None h in
    ap (λ (n : ℕ). quoted_character (plain_character (take n text)) n (drop n text)) (sym len)
    ∙ ap (λ (t : List ℕ). quoted_character (plain_character (take (length text) text)) (length text) t)
    (drop_all (length text) text (omega arith)) ∙ open_end (plain_character (take (length text) text)) (length text)
  where
    open_end : (o : Option ℕ) (n : ℕ) → quoted_character o n [] ≡ None
    open_end None n = refl
    open_end (Some c) n = refl

-- the first quote closes it
pub first_closes : (text : List ℕ) (k : ℕ) → IsFirstByte (is_byte 39) text (Some k)
    → unescaped_at text ≡ option_map (λ (c : ℕ). (c, k + 1)) (plain_character (take k text))
first_closes text k h =
    let len = first_passes (is_byte 39) text (Some k) h in
    let within : k < length text = h.0.high in
    let quote : drop k text ≡ 39 ∷ drop (k + 1) text = drop_more text k 0 within
    ∙ ap (λ (x : ℕ). x ∷ drop (k + 1) text) (eqb-true (get_or text k 0) 39 h.1) in
    ap (λ (n : ℕ). quoted_character (plain_character (take n text)) n (drop n text)) (sym len)
    ∙ ap (λ (t : List ℕ). quoted_character (plain_character (take k text)) k t) quote
    ∙ closed (plain_character (take k text))
  where
    closed : (o : Option ℕ) → quoted_character o k (39 ∷ drop (k + 1) text) ≡ option_map (λ (c : ℕ). (c, k + 1)) o
    closed None = refl
    closed (Some c) = refl
