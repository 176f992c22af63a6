-- Each file has lines, or a place at which no part of it begins.
use Rattle.std.proofs.Common.{◌≡◌, ◌⊎◌, inl, inr, ℕ, zero, suc, ◌<◌, ◌≤◌, List, [], ◌∷◌, ◌++◌, length, Option, Some, None, Result, Ok, Err}
use Rattle.std.proofs.Common.{refl, sym, ap, subst, ◌∙◌, arith}
use Rattle.sz_types.specs.declared.place.Place.{Place}
use Rattle.sz_protofile_lex.specs.declared.token.Token.{Token}
use Rattle.sz_protofile_lex.specs.Lexemes.{lexeme_of}
use Rattle.sz_protofile_lex.specs.Tokens.{tokens_of}
use Rattle.sz_protofile.specs.declared.line.Line.{Line}
use Rattle.sz_protofile.specs.Reading.{Spelling}
use Rattle.sz_protofile.specs.Forms.{line_at}
use Rattle.sz_protofile.specs.Lines.{depth_after, Reads, BeginsPart, IsStuckAt, HasLines, IsRefused, no_tokens, no_lines}
use Rattle.sz_protofile.proofs.LineLemmas.{line_shorter}

-- a line, and what follows it
abbrev Found : Type 0
Found = Line × List Token

no_some : {x : Found} → ◌≡◌ {A = Option Found} None (Some x) → ⊥
no_some e = absurd cc

some_is : {x y : Found} → ◌≡◌ {A = Option Found} (Some x) (Some y) → x ≡ y
some_is e = cc

-- lines leave no more tokens than there were
reads_fewer : (text : Spelling) (depth end : ℕ) (xs : List Line) (ts rest : List Token)
    → Reads text depth xs ts end rest → length rest ≤ length ts
unfolding Reads
reads_fewer text depth end [] ts rest r = omega (arith, ap length r.1)
reads_fewer text depth end (l ∷ xs) ts rest r =
    let a = line_shorter text depth ts r.0 l r.1 in
    let b = reads_fewer text (depth_after l depth) end xs r.0 rest r.2 in
    omega (arith, a, b)

-- lines, and then more of them
reads_on : (text : Spelling) (depth mid end : ℕ) (xs bs : List Line) (ts left rest : List Token)
    → Reads text depth xs ts mid left → Reads text mid bs left end rest → Reads text depth (xs ++ bs) ts end rest
unfolding Reads
reads_on text depth mid end [] bs ts left rest r s =
    subst (λ (d : ℕ). Reads text d bs ts end rest) (sym r.0)
    (subst (λ (t : List Token). Reads text mid bs t end rest) (sym r.1) s)
reads_on text depth mid end (l ∷ xs) bs ts left rest r s =
    (r.0, r.1, reads_on text (depth_after l depth) mid end xs bs r.0 left rest r.2 s)

-- lines that lead out of so many messages
record LeadsOut (text : Spelling) (depth : ℕ) (ts : List Token) : Type 0 where
  lines : List Line
  rest : List Token
  reads : Reads text depth lines ts 0 rest

-- ---- out of the messages that are open, or not

no_line_out : (text : Spelling) (d : ℕ) (ts rest : List Token) (lines : List Line) → line_at text (suc d) ts ≡ None
    → Reads text (suc d) lines ts 0 rest → ⊥
unfolding Reads
no_line_out text d ts rest [] none r = omega (arith, r.0)
no_line_out text d ts rest (l ∷ lines) none r = no_some (sym none ∙ r.1)

no_way_out : (text : Spelling) (d : ℕ) (ts mid rest : List Token) (line : Line) (lines : List Line)
    → line_at text (suc d) ts ≡ Some (line, mid)
    → (LeadsOut text (depth_after line (suc d)) mid → ⊥) → Reads text (suc d) lines ts 0 rest → ⊥
unfolding Reads
no_way_out text d ts mid rest line [] is never r = omega (arith, r.0)
no_way_out text d ts mid rest line (l ∷ lines) is never r = never (record { lines = lines; rest = rest; reads = there })
  where
    same : ◌≡◌ {A = Found} (l, r.0) (line, mid)
    same = some_is (sym r.1 ∙ is)

    there : Reads text (depth_after line (suc d)) lines mid 0 rest
    there = subst (λ (x : Line). Reads text (depth_after x (suc d)) lines mid 0 rest) (ap (λ (x : Found). x.0) same)
        (subst (λ (t : List Token). Reads text (depth_after l (suc d)) lines t 0 rest)
        (ap (λ (x : Found). x.1) same) r.2)

abbrev OutOrNot : Spelling → ℕ → List Token → Type 0
OutOrNot text depth ts = LeadsOut text depth ts ⊎ (LeadsOut text depth ts → ⊥)

further_out : (text : Spelling) (d : ℕ) (ts mid : List Token) (line : Line) → line_at text (suc d) ts ≡ Some (line, mid)
    → OutOrNot text (depth_after line (suc d)) mid → OutOrNot text (suc d) ts
unfolding Reads
further_out text d ts mid line is (inl h) =
    inl (record { lines = line ∷ h.lines; rest = h.rest; reads = (mid, is, h.reads) })
further_out text d ts mid line is (inr never) = inr (λ h. no_way_out text d ts mid h.rest line h.lines is never h.reads)

out_or_not : (text : Spelling) (n depth : ℕ) (ts : List Token) → length ts < n → OutOrNot text depth ts
unfolding Reads
out_or_not text zero depth ts short = absurd (omega (arith, short))
out_or_not text (suc n) zero ts short = inl (record { lines = []; rest = ts; reads = (refl, refl) })
out_or_not text (suc n) (suc d) ts short =
    by (λ (depth : ℕ) (mid : List Token) (less : length mid < n). out_or_not text n depth mid less)
    (line_at text (suc d) ts) refl
  where
    by : ((depth : ℕ) (mid : List Token) → length mid < n → OutOrNot text depth mid) → (o : Option Found)
        → line_at text (suc d) ts ≡ o → OutOrNot text (suc d) ts
    by go None is = inr (λ h. no_line_out text d ts h.rest h.lines is h.reads)
    by go (Some x) is =
        let less = line_shorter text (suc d) ts x.1 x.0 is in
        further_out text d ts x.1 x.0 is (go (depth_after x.0 (suc d)) x.1 (omega (arith, less, short)))

-- ---- a whole part, or none

begins_or_not : (text : Spelling) (ts : List Token) → BeginsPart text ts ⊎ (BeginsPart text ts → ⊥)
unfolding Reads
begins_or_not text ts = by (line_at text 0 ts) refl
  where
    after : (line : Line) (mid : List Token) → line_at text 0 ts ≡ Some (line, mid)
        → OutOrNot text (depth_after line 0) mid → BeginsPart text ts ⊎ (BeginsPart text ts → ⊥)
    after line mid is (inl h) = inl (record { line = line; more = h.lines; rest = h.rest; reads = (mid, is, h.reads) })
    after line mid is (inr never) = inr none
      where
        none : BeginsPart text ts → ⊥
        none h =
            let same : ◌≡◌ {A = Found} (h.line, h.reads.0) (line, mid) = some_is (sym h.reads.1 ∙ is) in
            never (record {
              lines = h.more;
              rest = h.rest;
              reads = subst (λ (x : Line). Reads text (depth_after x 0) h.more mid 0 h.rest)
                  (ap (λ (x : Found). x.0) same) (subst (λ (t : List Token).
                  Reads text (depth_after h.line 0) h.more t 0 h.rest) (ap (λ (x : Found). x.1) same) h.reads.2);
            })

    by : (o : Option Found) → line_at text 0 ts ≡ o → BeginsPart text ts ⊎ (BeginsPart text ts → ⊥)
    by None is = inr (λ h. no_some (sym is ∙ h.reads.1))
    by (Some x) is = after x.0 x.1 is (out_or_not text (suc (length x.1)) (depth_after x.0 0) x.1 (omega arith))

-- ---- whole files

abbrev ReadOrStuck : Spelling → List Token → Type 0
ReadOrStuck text ts = ((all : List Line) × Reads text 0 all ts 0 []) ⊎ ((p : Place) × IsStuckAt text ts p)

with_part : (text : Spelling) (ts : List Token) (b : BeginsPart text ts) → ReadOrStuck text b.rest → ReadOrStuck text ts
with_part text ts b (inl r) =
    inl ((b.line ∷ b.more) ++ r.0, reads_on text 0 0 0 (b.line ∷ b.more) r.0 ts b.rest [] b.reads r.1)
with_part text ts b (inr s) = inr (
  s.0,
  record {
    front = (b.line ∷ b.more) ++ s.1.front;
    here = s.1.here;
    rest = s.1.rest;
    reads = reads_on text 0 0 0 (b.line ∷ b.more) s.1.front ts b.rest (s.1.here ∷ s.1.rest) b.reads s.1.reads;
    place = s.1.place;
    none = s.1.none;
  },
)

part_shorter : (text : Spelling) (ts : List Token) (b : BeginsPart text ts) → length b.rest < length ts
unfolding Reads
part_shorter text ts b =
    let a = line_shorter text 0 ts b.reads.0 b.line b.reads.1 in
    let c = reads_fewer text (depth_after b.line 0) 0 b.more b.reads.0 b.rest b.reads.2 in
    omega (arith, a, c)

read_or_stuck : (text : Spelling) (n : ℕ) (ts : List Token) → length ts < n → ReadOrStuck text ts
unfolding Reads
read_or_stuck text zero ts short = absurd (omega (arith, short))
read_or_stuck text (suc n) [] short = inl ([], (refl, refl))
read_or_stuck text (suc n) (here ∷ rest) short =
    by (λ (left : List Token) (less : length left < n). read_or_stuck text n left less)
    (begins_or_not text (here ∷ rest))
  where
    by : ((left : List Token) → length left < n → ReadOrStuck text left)
        → BeginsPart text (here ∷ rest) ⊎ (BeginsPart text (here ∷ rest) → ⊥) → ReadOrStuck text (here ∷ rest)
    by go (inl b) =
        let less = part_shorter text (here ∷ rest) b in
        with_part text (here ∷ rest) b (go b.rest (omega (arith, less, short)))
    by go (inr none) =
        inr
        (here.place, record { front = []; here = here; rest = rest; reads = (refl, refl); place = refl; none = none })

-- bytes have lines, or are refused at a place
pub lines_or_place : (bytes : List ℕ) → ((all : List Line) × HasLines bytes all) ⊎ ((p : Place) × IsRefused bytes p)
lines_or_place bytes = by (tokens_of bytes) refl
  where
    of_tokens : (tokens : List Token) → tokens_of bytes ≡ Ok tokens → ReadOrStuck (lexeme_of bytes) tokens
        → ((all : List Line) × HasLines bytes all) ⊎ ((p : Place) × IsRefused bytes p)
    of_tokens tokens is (inl r) = inl (r.0, record { tokens = tokens; lexed = is; reads = r.1 })
    of_tokens tokens is (inr s) = inr (s.0, no_lines tokens is s.1)

    by : (o : Result (List Token) Place) → tokens_of bytes ≡ o
        → ((all : List Line) × HasLines bytes all) ⊎ ((p : Place) × IsRefused bytes p)
    by (Ok tokens) is = of_tokens tokens is (read_or_stuck (lexeme_of bytes) (suc (length tokens)) tokens (omega arith))
    by (Err p) is = inr (p, no_tokens is)
