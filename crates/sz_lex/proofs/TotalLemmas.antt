-- Every text has tokens or a refusal.
use Rattle.std.proofs.Common.{◌≡◌, ◌⊎◌, ℕ, zero, suc, ◌<◌, ◌≤◌, Bool, true, false, List, length, take, IsUtf8, refl, sym, subst, ◌∙◌, true≢false, arith, inl, inr}
use Rattle.std.proofs.lemmas.List.{take_all}
use Rattle.std.proofs.lemmas.Str.{IsUtf8-from_is_utf8, is_utf8-from_IsUtf8, IsUtf8-nil}
use Rattle.std.proofs.lemmas.Bool.{cases_lt}
use Rattle.std.specs.Str.{IsValidUpTo, is_utf8}
use Rattle.sz_lex.specs.declared.token.Token.{Token}
use Rattle.sz_lex.specs.declared.error.LexError.{LexError}
use Rattle.sz_lex.specs.declared.error.LexError.TheVariants as errors
use Rattle.sz_lex.specs.Tokens.{HasTokens, IsRefused, first_place}
use Rattle.sz_lex.specs.Laws.{EveryTextIsRead}
use Rattle.sz_lex.proofs.WholeLemmas.{Outcome, has_tokens, has_bad_char, has_bad_literal, outcome}

-- of the fronts with at most m bytes, the longest that is UTF-8
record LongestFront (text : List ℕ) (m : ℕ) : Type 0 where
  len : ℕ
  within : len ≤ m
  front : IsUtf8 (take len text)
  longest : (k : ℕ) → len < k → k ≤ m → IsUtf8 (take k text) → ⊥

-- with one more byte
front_more : (text : List ℕ) (m : ℕ) → LongestFront text m → LongestFront text (suc m)
front_more text m less = go (is_utf8 (take (suc m) text)) refl
  where
    refuted : is_utf8 (take (suc m) text) ≡ false → (k : ℕ) → less.len < k → k ≤ suc m → IsUtf8 (take k text)
        → (m < k) ⊎ (k ≤ m) → ⊥
    refuted short k above within u (inl top) =
        let same : k ≡ suc m = omega arith in
        true≢false (sym (is_utf8-from_IsUtf8 _ (subst (λ (n : ℕ). IsUtf8 (take n text)) same u)) ∙ short)
    refuted short k above within u (inr low) = less.longest k above low u

    go : (x : Bool) → is_utf8 (take (suc m) text) ≡ x → LongestFront text (suc m)
    go true e = record {
      len = suc m;
      within = omega arith;
      front = IsUtf8-from_is_utf8 _ e;
      longest = λ k above within u. absurd (omega arith);
    }
    go false e = record {
      len = less.len;
      within = omega (arith, less.within);
      front = less.front;
      longest = λ k above within u. refuted e k above within u (cases_lt m k);
    }

longest_front : (text : List ℕ) (m : ℕ) → LongestFront text m
longest_front text zero = record {
  len = 0;
  within = omega arith;
  front = IsUtf8-nil;
  longest = λ k above within u. absurd (omega arith);
}
longest_front text (suc m) = front_more text m (longest_front text m)

-- a text is UTF-8, or the longest front that is has more after it
valid_cases : (text : List ℕ) → IsUtf8 text ⊎ ((n : ℕ) × IsValidUpTo text n)
valid_cases text = go (longest_front text (length text))
  where
    refuted : (f : LongestFront text (length text)) → f.len < length text → (m : ℕ) → f.len < m → IsUtf8 (take m text)
        → (length text < m) ⊎ (m ≤ length text) → ⊥
    refuted f short m above u (inl past) =
        let same : take m text ≡ take (length text) text =
        take_all m text (omega arith) ∙ sym (take_all (length text) text (omega arith)) in
        f.longest (length text) short (omega arith) (subst IsUtf8 same u)
    refuted f short m above u (inr within) = f.longest m above within u

    sided : (f : LongestFront text (length text)) → (f.len < length text) ⊎ (length text ≤ f.len)
        → IsUtf8 text ⊎ ((n : ℕ) × IsValidUpTo text n)
    sided f (inl short) = inr (
      f.len,
      record {
        short = short;
        front = f.front;
        longest = λ m above u. refuted f short m above u (cases_lt (length text) m);
      },
    )
    sided f (inr whole) = inl (subst IsUtf8 (take_all f.len text whole) f.front)

    go : LongestFront text (length text) → IsUtf8 text ⊎ ((n : ℕ) × IsValidUpTo text n)
    go f = sided f (cases_lt f.len (length text))

-- a text that is UTF-8 has one of the three outcomes
read_utf8 : (text : List ℕ) → IsUtf8 text → Outcome false 0 first_place text
    → ((ts : List Token) × HasTokens text ts) ⊎ ((e : LexError) × IsRefused text e)
read_utf8 text utf8 (has_tokens ts h) = inl (ts, record { utf8 = utf8; tokens = h })
read_utf8 text utf8 (has_bad_char q before h) =
    inr (errors.BadChar q, record { utf8 = utf8; before = before; tokens = h })
read_utf8 text utf8 (has_bad_literal q before h) =
    inr (errors.BadLiteral q, record { utf8 = utf8; before = before; tokens = h })

pub every_text_is_read : EveryTextIsRead
every_text_is_read text = go (valid_cases text)
  where
    go : IsUtf8 text ⊎ ((n : ℕ) × IsValidUpTo text n)
        → ((ts : List Token) × HasTokens text ts) ⊎ ((e : LexError) × IsRefused text e)
    go (inl utf8) = read_utf8 text utf8 (outcome text)
    go (inr h) = inr (errors.NotUtf8 _, record { len = h.0; front = h.1; place = refl })
