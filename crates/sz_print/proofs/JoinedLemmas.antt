-- Texts that are appended one by one.
use Rattle.std.proofs.Common.{◌≡◌, ◌∙◌, ℕ, ◌+◌, ◌<◌, get_or, take, List, [], ◌∷◌, ◌++◌, length, sym, ap, append_assoc, append-nil, arith}
use Rattle.std.specs.Prelude.{codes}
use Rattle.std.specs.List.{flat_map}
use Rattle.std.proofs.lemmas.List.{take_more, length-take-le}
use Rattle.std.proofs.lemmas.List.Concat.{flat_map-append}
use Rattle.sz_print.specs.Joined.{comma_before, joined}

-- one text more at the end
joined_after : {X : Type 0} (text : X → List ℕ) (xs : List X) (x : X)
    → joined text (xs ++ x ∷ []) ≡ joined text xs ++ (comma_before (length xs) ++ text x)
joined_after text [] x = append-nil (text x)
joined_after text (y ∷ ys) x =
    ap (λ l. text y ++ l)
    (flat_map-append (λ z. codes ", " ++ text z) ys (x ∷ [])
    ∙ ap (λ l. flat_map (λ z. codes ", " ++ text z) ys ++ l) (append-nil (codes ", " ++ text x)))
    ∙ sym (append_assoc (text y) (flat_map (λ z. codes ", " ++ text z) ys) (codes ", " ++ text x))

-- the texts so far, a comma where one is needed, and the next text
pub one_more : {X : Type 0} (text : X → List ℕ) (xs : List X) (i : ℕ) (x : X) (first now comma next : List ℕ)
    → i < length xs → x ≡ get_or xs i x → now ≡ first ++ joined text (take i xs) → comma ≡ now ++ comma_before i
    → next ≡ comma ++ text x → next ≡ first ++ joined text (take (i + 1) xs)
one_more text xs i x first now comma next within is so_far with_comma with_text =
    let front = joined text (take i xs) in
    let long : length (take i xs) ≡ i = length-take-le i xs (omega (arith, within)) in
    let taken : take (i + 1) xs ≡ take i xs ++ x ∷ [] =
    take_more xs i x within ∙ ap (λ y. take i xs ++ y ∷ []) (sym is) in
    with_text ∙ ap (λ l. l ++ text x) (with_comma ∙ ap (λ l. l ++ comma_before i) so_far)
    ∙ append_assoc (first ++ front) (comma_before i) (text x) ∙ append_assoc first front (comma_before i ++ text x)
    ∙ ap (λ l. first ++ l) (ap (λ n. front ++ (comma_before n ++ text x)) (sym long)
    ∙ sym (joined_after text (take i xs) x) ∙ ap (joined text) (sym taken))

-- a text between braces
pub in_braces : (old opened inside new text : List ℕ) → opened ≡ old ++ 123 ∷ [] → inside ≡ opened ++ text
    → new ≡ inside ++ 125 ∷ [] → new ≡ old ++ (123 ∷ text ++ 125 ∷ [])
in_braces old opened inside new text begun written closed =
    closed ∙ ap (λ l. l ++ 125 ∷ []) (written ∙ ap (λ l. l ++ text) begun)
    ∙ append_assoc (old ++ 123 ∷ []) text (125 ∷ []) ∙ append_assoc old (123 ∷ []) (text ++ 125 ∷ [])
