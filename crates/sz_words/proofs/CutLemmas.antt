-- The first piece of a text that is cut at a byte, by what a search of the byte finds.
use Rattle.std.proofs.Common.{◌≡◌, ℕ, zero, suc, ◌+◌, ◌<◌, List, [], ◌∷◌, take, drop, length, Bool, true, false, refl, ap, ◌∙◌, arith}
use Rattle.std.specs.Prelude.{nat_eq, slice_index}
use Rattle.std.specs.List.{onto_first}
use Rattle.std.proofs.lemmas.List.Splits.{slice_split-cons_yes, slice_split-cons_no}
use Rattle.memchr.specs.Find.{Nowhere, Passes, is_byte}
use Rattle.sz_words.specs.Texts.{pieces}

-- a test that isn't true is false
is_false : (b : Bool) → (b ≡ true → ⊥) → b ≡ false
is_false true h = absurd (h refl)
is_false false h = refl

pieces_first : (mark : ℕ) (text : List ℕ) (place : ℕ) → place < length text
    → Nowhere (Passes (is_byte mark) text) 0 place → is_byte mark (slice_index text place) ≡ true
    → pieces mark text ≡ take place text ∷ pieces mark (drop (suc place) text)
pieces_first mark [] place in_range before here = absurd (omega arith)
pieces_first mark (b ∷ bs) zero in_range before here = slice_split-cons_yes (λ x. nat_eq x mark) b bs here
pieces_first mark (b ∷ bs) (suc place) in_range before here =
    slice_split-cons_no (λ x. nat_eq x mark) b bs (is_false (nat_eq b mark) (before 0 (omega arith) (omega arith)))
    ∙ ap (onto_first b)
    (pieces_first mark bs place (omega arith) (λ k low high. before (suc k) (omega arith) (omega arith)) here)

pub pieces_none : (mark : ℕ) (text : List ℕ) → Nowhere (Passes (is_byte mark) text) 0 (length text)
    → pieces mark text ≡ text ∷ []
pieces_none mark [] nowhere = refl
pieces_none mark (b ∷ bs) nowhere =
    slice_split-cons_no (λ x. nat_eq x mark) b bs (is_false (nat_eq b mark) (nowhere 0 (omega arith) (omega arith)))
    ∙ ap (onto_first b) (pieces_none mark bs (λ k low high. nowhere (suc k) (omega arith) (omega arith)))

-- the same, where the place after the byte is written as a sum
pub pieces_at : (mark : ℕ) (text : List ℕ) (place : ℕ) → place < length text
    → Nowhere (Passes (is_byte mark) text) 0 place → is_byte mark (slice_index text place) ≡ true
    → pieces mark text ≡ take place text ∷ pieces mark (drop (place + 1) text)
pieces_at mark text place in_range before here =
    pieces_first mark text place in_range before here
    ∙ (let e : suc place ≡ place + 1 = omega arith in ap (λ n. take place text ∷ pieces mark (drop n text)) e)
