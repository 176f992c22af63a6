-- What is written of an answer.
use Rattle.std.proofs.Common.{◌≡◌, ℕ, ◌<◌, ◌≤◌, List, [], ◌∷◌, length, map, get_or, Option, Some, subst, sym, ap, ◌∙◌, arith}
use Rattle.std.specs.Prelude.{Result, Err, option_map}
use Rattle.szl_cut.specs.declared.failure.Failure.{Failure}
use Rattle.szl_cut.specs.declared.failure.Failure.TheVariants.{Usage, Damaged, Limit, ReadFailed, WriteFailed, NoMemory}
use Rattle.szl_cut.specs.Answers.{Asked, size_after, asked_in, IsFor, IsWhy}

-- a file isn't cut for the reason that it has
pub why_for : (held : List ℕ → Option (List ℕ)) (name : List ℕ) (size : ℕ) (asked : Option Asked) (failure : Failure)
    → asked ≡ Some (record { name = name; size = size }) → IsFor (held name) failure → IsWhy held asked failure
why_for held name size asked failure is h = subst (λ (a : Option Asked). IsWhy held a failure) (sym is) (by failure h)
  where
    by : (failure : Failure) → IsFor (held name) failure
        → IsWhy held (Some (record { name = name; size = size })) failure
    by Usage h = absurd h
    by (Damaged byte) h = h
    by (Limit byte) h = h
    by ReadFailed h = tt
    by WriteFailed h = absurd h
    by NoMemory h = tt

-- reading has no failure of the output
pub no_write_for : {T : Type 0} (file : Option (List ℕ)) (failure : Failure) → IsFor file failure
    → (let r : Result T Failure = Err failure in r) ≡ Err WriteFailed → ⊥
no_write_for file failure h is = subst (IsFor file) (let same : failure ≡ WriteFailed = cc in same) h

-- two words, of which the first names a file and the second is a size
pub asked_is : {S : Type 0} (bytes_of : S → List ℕ) (words : List S) (name word : S) (one front other : List ℕ)
    (size : ℕ) (read : Option ℕ) → 2 ≤ length words → length words < 3 → name ≡ get_or words 0 name
    → word ≡ get_or words 1 word → one ≡ bytes_of name → front ≡ bytes_of name
    → other ≡ bytes_of word → read ≡ size_after front other → read ≡ Some size
    → asked_in (map bytes_of words) ≡ Some (record { name = one; size = size })
asked_is bytes_of [] name word one front other size read low high n w a f b s i = absurd (omega (arith, low))
asked_is bytes_of (x ∷ []) name word one front other size read low high n w a f b s i = absurd (omega (arith, low))
asked_is bytes_of (x ∷ y ∷ z ∷ words) name word one front other size read low high n w a f b s i =
    absurd (omega (arith, high))
asked_is bytes_of (x ∷ y ∷ []) name word one front other size read low high n w a f b s i =
    let named : bytes_of x ≡ front = ap bytes_of (sym n) ∙ sym f in
    let sized : bytes_of y ≡ other = ap bytes_of (sym w) ∙ sym b in
    let told : size_after (bytes_of x) (bytes_of y) ≡ Some size = (λ i. size_after (named i) (sized i)) ∙ sym s ∙ i in
    let asked : ℕ → Asked = λ (k : ℕ). record { name = bytes_of x; size = k } in
    ap (option_map asked) told
    ∙ ap (λ (l : List ℕ). let a : Asked = record { name = l; size = size } in Some a) (ap bytes_of (sym n) ∙ sym a)
