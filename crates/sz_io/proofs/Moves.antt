-- Bytes that are moved piece by piece are moved as a whole.
use Rattle.std.proofs.Common.{◌≡◌, ℕ, ◌+◌, ◌-◌, ◌≤◌, List, ◌++◌, length, take, drop, length-take}
use Rattle.std.proofs.Common.{Option, Result, Ok, Err, IfOk, sym, ap, ◌∙◌, subst, arith}
use Rattle.std.proofs.Math.Seq.{take-add, take-append-add}
use Rattle.std.proofs.lemmas.List.{take_rest, take-append-le}
use Rattle.std.proofs.KnownBytes.{Appends-trans, Consumes-trans}
use Rattle.std.specs.Io.KnownBytes.{Appends, Consumes, ReadConsumes}

-- after the bytes before `done` the sink took `count` of the rest
pub took_more : (a b c : Option (List ℕ)) (bytes : List ℕ) (done count : ℕ) → Appends a b (take done bytes)
    → Appends b c (take count (take (length bytes - done) (drop done bytes))) → Appends a c (take (done + count) bytes)
took_more a b c bytes done count first second =
    let P : List ℕ → Type 0 = λ l. Appends b c (take count l) in
    let rest : Appends b c (take count (drop done bytes)) = subst P (take_rest bytes done) second in
    rw (take-add done count bytes) (Appends-trans a b c _ _ first rest)

-- the front of a buffer whose room after the first `filled` bytes was written
pub front_grows : (old room following : List ℕ) (filled count : ℕ) → filled ≤ length old → count ≤ length room
    → take (filled + count) (take filled old ++ (room ++ following)) ≡ take filled old ++ take count room
front_grows old room following filled count in_range fits =
    let len : length (take filled old) ≡ filled = grind (arith, length-take) in
    let split = take-append-add (take filled old) (room ++ following) count in
    let cut = take-append-le count room following fits in
    ap (λ n. take (n + count) (take filled old ++ (room ++ following))) (sym len) ∙ split
    ∙ ap (λ l. take filled old ++ l) cut

-- what was read as the first `filled` bytes goes on with what a read gave into the room after them
pub gave_more : {E : Type 0} (a b c : Option (List ℕ)) (old room following : List ℕ) (filled : ℕ)
    (result : Result ℕ E) → filled ≤ length old
    → IfOk result (λ n. n ≤ length room) → ReadConsumes b c result room → Consumes a b (take filled old)
    → IfOk result (λ n. Consumes a c (take (filled + n) (take filled old ++ (room ++ following))))
gave_more a b c old room following filled (Ok n) in_range fits read first =
    let P : List ℕ → Type 0 = Consumes a c in
    subst P (sym (front_grows old room following filled n in_range fits)) (Consumes-trans a b c _ _ first read.0)
gave_more a b c old room following filled (Err e) in_range fits read first = tt
