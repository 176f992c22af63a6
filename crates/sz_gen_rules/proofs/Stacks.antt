-- Operands that were pushed one after the other, the last one topmost.
use Rattle.std.proofs.Common.{◌≡◌, ◌∙◌, ℕ, suc, ◌≤◌, List, [], ◌∷◌, ◌++◌, length, refl, sym, ap, arith, reverse, take, drop, append_assoc, length-append}
use Rattle.std.proofs.Math.Seq.{take-append_seam, drop-append_seam}
use Rattle.std.proofs.lemmas.List.{length-reverse, reverse-reverse, reverse-append}
use Rattle.sz_types.specs.Data.{Shape}
use Rattle.sz_world_rules.specs.Slots.{Slot}
use Rattle.sz_world_rules.specs.Typed.{AllFit}
use Rattle.sz_instr.specs.States.{popped}
use Rattle.sz_gen_rules.specs.Runs.{with_all}

pub length-all_fit : (xs : List Slot) (ts : List Shape) → AllFit xs ts → length xs ≡ length ts
length-all_fit [] [] h = refl
length-all_fit [] (t ∷ ts) h = absurd h
length-all_fit (x ∷ xs) [] h = absurd h
length-all_fit (x ∷ xs) (t ∷ ts) h = ap suc (length-all_fit xs ts h.1)

with_all-reverse : (xs stack : List Slot) → with_all xs stack ≡ reverse xs ++ stack
with_all-reverse [] stack = refl
with_all-reverse (x ∷ xs) stack =
    with_all-reverse xs (x ∷ stack)
    ∙ sym (ap (λ l. l ++ stack) (reverse-append (x ∷ []) xs) ∙ append_assoc (reverse xs) (x ∷ []) stack)

-- there are as many operands as were pushed
pub enough : (n : ℕ) (xs stack : List Slot) → length xs ≡ n → n ≤ length (with_all xs stack)
enough n xs stack e =
    omega (arith, e, ap length (with_all-reverse xs stack), length-append (reverse xs) stack, length-reverse xs)

popped_length : (xs stack : List Slot) → popped (length xs) (with_all xs stack) ≡ xs
popped_length xs stack =
    ap (λ l. reverse (take (length xs) l)) (with_all-reverse xs stack)
    ∙ ap (λ n. reverse (take n (reverse xs ++ stack))) (sym (length-reverse xs))
    ∙ ap reverse (take-append_seam (reverse xs) stack)
    ∙ reverse-reverse xs

below_length : (xs stack : List Slot) → drop (length xs) (with_all xs stack) ≡ stack
below_length xs stack =
    ap (λ l. drop (length xs) l) (with_all-reverse xs stack)
    ∙ ap (λ n. drop n (reverse xs ++ stack)) (sym (length-reverse xs))
    ∙ drop-append_seam (reverse xs) stack

-- what is popped is what was pushed
pub pops : (n : ℕ) (xs stack : List Slot) → length xs ≡ n → popped n (with_all xs stack) ≡ xs
pops n xs stack e = ap (λ k. popped k (with_all xs stack)) (sym e) ∙ popped_length xs stack

-- and below it is what was there before
pub leaves_below : (n : ℕ) (xs stack : List Slot) → length xs ≡ n → drop n (with_all xs stack) ≡ stack
leaves_below n xs stack e = ap (λ k. drop k (with_all xs stack)) (sym e) ∙ below_length xs stack
