-- Laws of the blocks that entries make.
use Rattle.std.proofs.Common.{◌≡◌, ℕ, zero, suc, ◌≤◌, Bool, true, false, cond, ◌==◌, List, [], ◌∷◌, ◌++◌, length, map, filter, refl, ap, ◌∙◌, arith}
use Rattle.std.proofs.lemmas.Bool.{eq-eqb, ne_eqb, cond-true, cond-false}
use Rattle.sz_scope.specs.declared.entry.Entry.{Entry}
use Rattle.sz_scope.specs.Blocks.{Block, with_declared}
use Rattle.sz_scope.specs.Sight.{blocks_where}
use Rattle.sz_scope.specs.Names.{name_at}
use Rattle.sz_scope.specs.Chain.{IsNested, IsNamed, declaration_of, blocks_of}
use Rattle.sz_scope.proofs.NamesLemmas.{at_place, name_at_stays}

module _ (names : List (List ℕ)) (entries : List Entry) where
  -- as many blocks as are counted
  pub length_blocks : (depth : ℕ) → length (blocks_of names entries depth) ≡ depth
  length_blocks zero = refl
  length_blocks (suc depth) = ap (λ n. suc n) (length_blocks depth)

  -- an entry that is as deep as all these blocks is in none of them
  pub blocks_without : (entry : Entry) (depth : ℕ) → depth ≤ entry.depth
      → blocks_of names (entry ∷ entries) depth ≡ blocks_of names entries depth
  blocks_without entry zero h = refl
  blocks_without entry (suc depth) h =
      λ i. map (declaration_of names)
      (cond-false (entry.depth == depth) (entry ∷ rest) rest (ne_eqb entry.depth depth (λ p. omega (arith, p, h))) i)
      ∷ blocks_without entry depth (omega (arith, h)) i
    where
      rest : List Entry
      rest = filter (λ e. e.depth == depth) entries

-- where all entries are less deep, a block has none
pub none_deep : (entries : List Entry) (limit depth : ℕ) → limit ≤ depth → IsNested limit entries
    → filter (λ entry. entry.depth == depth) entries ≡ []
none_deep [] limit depth l h = refl
none_deep (entry ∷ entries) limit depth l h =
    cond-false (entry.depth == depth) (entry ∷ rest) rest (ne_eqb entry.depth depth (λ p. omega (arith, p, l, h.0)))
    ∙ none_deep entries (suc entry.depth) depth (omega (arith, l, h.0)) h.1
  where
    rest : List Entry
    rest = filter (λ e. e.depth == depth) entries

-- a new block is empty
pub block_opened : (names : List (List ℕ)) (entries : List Entry) (depth : ℕ) → IsNested depth entries
    → blocks_of names entries (suc depth) ≡ [] ∷ blocks_of names entries depth
block_opened names entries depth h = ap (λ l. map (declaration_of names) l ∷ blocks_of names entries depth)
    (none_deep entries depth depth (omega arith) h)

-- a declaration stands in the innermost block
pub block_declared : (names : List (List ℕ)) (entry : Entry) (entries : List Entry) (depth : ℕ) → entry.depth ≡ depth
    → blocks_of names (entry ∷ entries) (suc depth)
    ≡ with_declared (declaration_of names entry) (blocks_of names entries (suc depth))
block_declared names entry entries depth p =
    λ i. map (declaration_of names)
    (cond-true (entry.depth == depth) (entry ∷ rest) rest (eq-eqb entry.depth depth p) i)
    ∷ blocks_without names entries entry depth (omega (arith, p)) i
  where
    rest : List Entry
    rest = filter (λ e. e.depth == depth) entries

-- another name changes no declaration
pub blocks_stay : (names : List (List ℕ)) (name : List ℕ) (entries : List Entry) → IsNamed names entries → (depth : ℕ)
    → blocks_of (names ++ name ∷ []) entries depth ≡ blocks_of names entries depth
blocks_stay names name entries h zero = refl
blocks_stay names name entries h (suc depth) = λ i. block_stays entries h i ∷ blocks_stay names name entries h depth i
  where
    block_stays : (entries : List Entry) → IsNamed names entries
        → map (declaration_of (names ++ name ∷ [])) (filter (λ e. e.depth == depth) entries)
        ≡ map (declaration_of names) (filter (λ e. e.depth == depth) entries)
    block_stays [] h = refl
    block_stays (entry ∷ entries) h = by (entry.depth == depth) (block_stays entries h.1)
      where
        rest : List Entry
        rest = filter (λ e. e.depth == depth) entries

        same : declaration_of (names ++ name ∷ []) entry ≡ declaration_of names entry
        same = ap (λ n. record { name = n; what = entry.what })
            (name_at_stays name names entry.name (at_place (name_at names entry.name) names entry.name h.0).0)

        by : (b : Bool) → map (declaration_of (names ++ name ∷ [])) rest ≡ map (declaration_of names) rest
            → map (declaration_of (names ++ name ∷ [])) (cond b (entry ∷ rest) rest)
            ≡ map (declaration_of names) (cond b (entry ∷ rest) rest)
        by true p = λ i. same i ∷ p i
        by false p = p

-- the declarations of a list of blocks with nothing left out
pub blocks_whole : (blocks : List Block) → blocks_where (λ depth what. true) blocks ≡ blocks
blocks_whole [] = refl
blocks_whole (block ∷ blocks) = λ i. whole block i ∷ blocks_whole blocks i
  where
    whole : (block : Block) → filter (λ declaration. true) block ≡ block
    whole [] = refl
    whole (declaration ∷ block) = ap (λ l. declaration ∷ l) (whole block)
