-- Laws of what is found in the blocks that entries make.
use Rattle.std.proofs.Common.{◌≡◌, ℕ, zero, suc, ◌<◌, ◌≤◌, ◌⊎◌, inl, inr, Bool, true, false, cond, ◌&&◌, ◌==◌, List, [], ◌∷◌, length, map, filter, Option, None, Some, is_some, unwrap_or, bytes_eq, refl, sym, ap, ◌∙◌, true≢false, if◌then◌else◌, arith}
use Rattle.std.specs.Option.{option_or}
use Rattle.std.proofs.lemmas.Bool.{cases_eq, eq-eqb, ne_eqb, cond-true, cases_Bool}
use Rattle.std.proofs.lemmas.Option.{none-some, same_Some}
use Rattle.std.proofs.lemmas.Slice.Eq.{bytes_eq-Decides}
use Rattle.sz_scope.specs.declared.meaning.Meaning.{Meaning}
use Rattle.sz_scope.specs.declared.entry.Entry.{Entry}
use Rattle.sz_scope.specs.Blocks.{Block, found_in, found}
use Rattle.sz_scope.specs.Sight.{blocks_where}
use Rattle.sz_scope.specs.Names.{place_of, name_at}
use Rattle.sz_scope.specs.Chain.{latest, first_where, oldest, IsNested, IsNamed, declaration_of, block_at, blocks_of}
use Rattle.sz_scope.proofs.NamesLemmas.{at_place}
use Rattle.sz_scope.proofs.ChainLemmas.{latest_within, oldest_whole, oldest_less, nested_weaker}
use Rattle.sz_scope.proofs.BlocksLemmas.{length_blocks, blocks_without, none_deep}

module _ (names : List (List ℕ)) (name : List ℕ) (test : ℕ → Meaning → Bool) where
  abbrev pub passing : List Entry → List Entry
  passing entries = filter (λ entry. test entry.depth entry.what) entries

  -- what the newest entry means that passes the test and has the bytes of the name
  abbrev pub answer : List Entry → Option Meaning
  answer entries = found_in name (map (declaration_of names) (passing entries))

  abbrev pub seen : List Entry → ℕ → List Block
  seen entries depth = blocks_where test (blocks_of names entries depth)

  abbrev pub in_block : List Entry → ℕ → Option Meaning
  in_block entries depth =
      found_in name (filter (λ declaration. test depth declaration.what) (block_at names entries depth))

  found_first : (entries : List Entry) (depth : ℕ)
      → found name (seen entries (suc depth)) ≡ option_or (in_block entries depth) (found name (seen entries depth))
  found_first entries depth =
      ap
      (λ n. option_or (found_in name (filter (λ declaration. test n declaration.what) (block_at names entries depth)))
      (found name (seen entries depth))) (length_blocks names entries depth)

  -- one declaration more, in the block and among the entries
  one_more : (entry : Entry) (passes : Bool) (block : Block) (entries : List Entry) (outer : Option Meaning)
      → option_or (found_in name block) outer ≡ found_in name (map (declaration_of names) entries)
      → option_or (found_in name (cond passes (declaration_of names entry ∷ block) block)) outer
      ≡ found_in name (map (declaration_of names) (cond passes (entry ∷ entries) entries))
  one_more entry false block entries outer p = p
  one_more entry true block entries outer p = by (bytes_eq name (name_at names entry.name))
    where
      by : (b : Bool) → option_or (if b then Some entry.what else found_in name block) outer
          ≡ (if b then Some entry.what else found_in name (map (declaration_of names) entries))
      by true = refl
      by false = p

  -- the innermost block and those round it, where the law holds of those round it
  found_deeper : (depth : ℕ)
      → ((entries : List Entry) → IsNested depth entries → found name (seen entries depth) ≡ answer entries)
      → (entries : List Entry) → IsNested (suc depth) entries
      → option_or (in_block entries depth) (found name (seen entries depth)) ≡ answer entries
  found_deeper depth outer [] h = outer [] tt
  found_deeper depth outer (entry ∷ entries) h =
      by (cases_eq entry.depth depth) (λ p.
      found_deeper depth outer entries (nested_weaker entries (suc entry.depth) (suc depth) (omega (arith, p)) h.1))
    where
      rest : List Entry
      rest = filter (λ e. e.depth == depth) entries

      block : Block
      block = filter (λ declaration. test depth declaration.what) (map (declaration_of names) rest)

      here : List Entry → Option Meaning → Option Meaning
      here es r = option_or
          (found_in name (filter (λ declaration. test depth declaration.what) (map (declaration_of names) es))) r

      by : (entry.depth ≡ depth) ⊎ (entry.depth ≡ depth → ⊥)
          → (entry.depth ≡ depth
          → option_or (in_block entries depth) (found name (seen entries depth)) ≡ answer entries)
          → option_or (in_block (entry ∷ entries) depth) (found name (seen (entry ∷ entries) depth))
          ≡ answer (entry ∷ entries)
      by (inl p) shorter =
          (λ i. here (cond-true (entry.depth == depth) (entry ∷ rest) rest (eq-eqb entry.depth depth p) i)
          (found name (blocks_where test (blocks_without names entries entry depth (omega (arith, p)) i))))
          ∙ one_more entry (test depth entry.what) block (passing entries) (found name (seen entries depth)) (shorter p)
          ∙ ap (λ d. found_in name
          (map (declaration_of names) (cond (test d entry.what) (entry ∷ passing entries) (passing entries)))) (sym p)
      by (inr n) shorter =
          let l : entry.depth < depth = less entry.depth depth h.0 n in
          ap (λ es. here es (found name (seen (entry ∷ entries) depth)))
          (none_deep (entry ∷ entries) depth depth (omega arith) (l, h.1))
          ∙ outer (entry ∷ entries) (l, h.1)
        where
          less : (a b : ℕ) → a < suc b → (a ≡ b → ⊥) → a < b
          less a b l n = omega (arith, l, n)

  -- what is found in the blocks is found among the entries
  pub found_where : (depth : ℕ) (entries : List Entry) → IsNested depth entries
      → found name (seen entries depth) ≡ answer entries
  found_where zero [] h = refl
  found_where zero (entry ∷ entries) h = absurd (omega (arith, h.0))
  found_where (suc depth) entries h = found_first entries depth ∙ found_deeper depth (found_where depth) entries h

  -- an entry has the bytes of a name exactly where it has its place
  same_name : (place : ℕ) → place_of name names ≡ Some place → (entry : Entry)
      → place_of (name_at names entry.name) names ≡ Some entry.name
      → bytes_eq name (name_at names entry.name) ≡ (entry.name == place)
  same_name place p entry h = by (cases_eq entry.name place)
    where
      by : (entry.name ≡ place) ⊎ (entry.name ≡ place → ⊥)
          → bytes_eq name (name_at names entry.name) ≡ (entry.name == place)
      by (inl q) = (bytes_eq-Decides name (name_at names entry.name)).1
          (sym (ap (name_at names) q ∙ ap (λ o. unwrap_or o []) (at_place name names place p).1))
          ∙ sym (eq-eqb entry.name place q)
      by (inr n) = other (cases_Bool (bytes_eq name (name_at names entry.name))) ∙ sym (ne_eqb entry.name place n)
        where
          other : (bytes_eq name (name_at names entry.name) ≡ true) ⊎ (bytes_eq name (name_at names entry.name) ≡ false)
              → bytes_eq name (name_at names entry.name) ≡ false
          other (inl e) = absurd (n (same_Some entry.name place
              (sym h ∙ ap (λ m. place_of m names) (sym ((bytes_eq-Decides name (name_at names entry.name)).0 e)) ∙ p)))
          other (inr e) = e

  -- so the place of the name serves to find it among the entries
  pub answer_is : (place : ℕ) → place_of name names ≡ Some place → (entries : List Entry) → IsNamed names entries
      → answer entries ≡ first_where test place entries
  answer_is place p [] h = refl
  answer_is place p (entry ∷ entries) h =
      by (test entry.depth entry.what) (bytes_eq name (name_at names entry.name)) refl (answer_is place p entries h.1)
      ∙ ap (λ b. if b && test entry.depth entry.what then Some entry.what else first_where test place entries)
      (same_name place p entry h.0)
    where
      by : (passes same : Bool) → bytes_eq name (name_at names entry.name) ≡ same
          → answer entries ≡ first_where test place entries
          → found_in name (map (declaration_of names) (cond passes (entry ∷ passing entries) (passing entries)))
          ≡ (if same && passes then Some entry.what else first_where test place entries)
      by true true e q = ap (λ b. if b then Some entry.what else answer entries) e
      by true false e q = ap (λ b. if b then Some entry.what else answer entries) e ∙ q
      by false true e q = q
      by false false e q = q

  -- a name without a place isn't found
  pub answer_none : place_of name names ≡ None → (entries : List Entry) → IsNamed names entries → answer entries ≡ None
  answer_none p [] h = refl
  answer_none p (entry ∷ entries) h =
      by (test entry.depth entry.what) (bytes_eq name (name_at names entry.name)) refl (answer_none p entries h.1)
    where
      by : (passes same : Bool) → bytes_eq name (name_at names entry.name) ≡ same → answer entries ≡ None
          → found_in name (map (declaration_of names) (cond passes (entry ∷ passing entries) (passing entries))) ≡ None
      by true true e q = absurd (none-some entry.name
          (sym p ∙ ap (λ m. place_of m names) ((bytes_eq-Decides name (name_at names entry.name)).0 e) ∙ h.0))
      by true false e q = ap (λ b. if b then Some entry.what else answer entries) e ∙ q
      by false same e q = q

  module _ (entries : List Entry) (depth : ℕ) (nested : IsNested depth entries) (named : IsNamed names entries) where
    -- what is found of a name that has a place
    pub found_at : (place : ℕ) → place_of name names ≡ Some place
        → found name (blocks_where test (blocks_of names entries depth)) ≡ first_where test place entries
    found_at place p = found_where depth entries nested ∙ answer_is place p entries named

    -- nothing is found of a name that has none
    pub found_nowhere : place_of name names ≡ None
        → found name (blocks_where test (blocks_of names entries depth)) ≡ None
    found_nowhere p = found_where depth entries nested ∙ answer_none p entries named

-- where all entries are less deep, none is found at a depth
none_at : (place depth limit : ℕ) (entries : List Entry) → limit ≤ depth → IsNested limit entries
    → first_where (λ d w. d == depth) place entries ≡ None
none_at place depth limit [] l h = refl
none_at place depth limit (entry ∷ entries) l h =
    by (entry.name == place) (entry.depth == depth) (ne_eqb entry.depth depth (λ p. omega (arith, p, l, h.0)))
    (none_at place depth (suc entry.depth) entries (omega (arith, l, h.0)) h.1)
  where
    by : (same deep : Bool) → deep ≡ false → first_where (λ d w. d == depth) place entries ≡ None
        → (if same && deep then Some entry.what else first_where (λ d w. d == depth) place entries) ≡ None
    by true true e rest = absurd (true≢false e)
    by true false e rest = rest
    by false deep e rest = rest

-- the innermost block has a name exactly where the name's newest entry stands in it
pub at_depth : (place depth at : ℕ) (found : Entry) (entries : List Entry) → IsNested (suc depth) entries
    → latest place entries ≡ Some at → oldest (suc at) entries ≡ found ∷ oldest at entries
    → is_some (first_where (λ d w. d == depth) place entries) ≡ (found.depth == depth)
at_depth place depth at found [] h p q = absurd (none-some at p)
at_depth place depth at found (entry ∷ entries) h p q =
    by (entry.name == place) p
    (λ p' q'. at_depth place depth at found entries
    (nested_weaker entries (suc entry.depth) (suc depth) (omega (arith, h.0)) h.1) p' q')
  where
    first : Entry → List Entry → Entry
    first other [] = other
    first other (e ∷ es) = e

    by : (same : Bool) → (if same then Some (length entries) else latest place entries) ≡ Some at
        → (latest place entries ≡ Some at → oldest (suc at) entries ≡ found ∷ oldest at entries
        → is_some (first_where (λ d w. d == depth) place entries) ≡ (found.depth == depth))
        → is_some (if same && (entry.depth == depth) then Some entry.what
        else first_where (λ d w. d == depth) place entries) ≡ (found.depth == depth)
    by true p rest = deep (cases_eq entry.depth depth) ∙ ap (λ e. e.depth == depth) is
      where
        is : entry ≡ found
        is = ap (first entry)
            (sym (oldest_whole entry entries (suc at) (omega (arith, same_Some (length entries) at p))) ∙ q)

        deep : (entry.depth ≡ depth) ⊎ (entry.depth ≡ depth → ⊥)
            → is_some (if entry.depth == depth then Some entry.what
            else first_where (λ d w. d == depth) place entries) ≡ (entry.depth == depth)
        deep (inl e) =
            ap (λ b. is_some (if b then Some entry.what else first_where (λ d w. d == depth) place entries))
            (eq-eqb entry.depth depth e) ∙ sym (eq-eqb entry.depth depth e)
        deep (inr n) =
            ap (λ b. is_some (if b then Some entry.what else first_where (λ d w. d == depth) place entries))
            (ne_eqb entry.depth depth n)
            ∙ ap is_some (none_at place depth (suc entry.depth) entries (omega (arith, h.0, n)) h.1)
            ∙ sym (ne_eqb entry.depth depth n)
    by false p rest =
        let l = latest_within place entries at p in
        rest p (sym (oldest_less entry entries (suc at) (omega (arith, l))) ∙ q
        ∙ ap (λ l. found ∷ l) (oldest_less entry entries at (omega (arith, l))))
