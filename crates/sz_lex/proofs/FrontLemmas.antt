-- What stands at the front of a text: a blank, a comment, a token, or the reason why none does.
use Rattle.std.proofs.Common.{◌≡◌, ◌≢◌, ℕ, ℤ, suc, ◌+◌, Bool, true, false, cond, eqb, List, [], ◌∷◌, ◌++◌, length, drop, Option, Some, None}
use Rattle.std.proofs.Common.{refl, sym, ap, subst, ◌∙◌, append_assoc, arith}
use Rattle.std.proofs.lemmas.Bool.{eqb-true}
use Rattle.std.proofs.lemmas.List.{length-append}
use Rattle.sz_lex.specs.declared.token.Kind.{Kind}
use Rattle.sz_lex.specs.declared.token.Kind.TheVariants as kinds
use Rattle.sz_lex.specs.declared.escape.Quoted.{Quoted}
use Rattle.sz_lex.specs.declared.escape.Quoted.TheVariants as quoteds
use Rattle.sz_lex.specs.declared.word.Word.{Word}
use Rattle.sz_lex.specs.declared.sign.Sign.{Sign}
use Rattle.sz_lex.specs.declared.item.Item.{Item}
use Rattle.sz_lex.specs.declared.item.Item.TheVariants.{Gap, Lexeme, BadChar, BadLiteral}
use Rattle.sz_lex.specs.Classes.{is_blank, is_letter, is_digit}
use Rattle.sz_lex.specs.Words.{word_text}
use Rattle.sz_lex.specs.Signs.{sign_text}
use Rattle.sz_lex.specs.Numbers.{number_of}
use Rattle.sz_lex.specs.Literals.{parts_text, IsQuoted, opening}
use Rattle.sz_lex.specs.Tokens.{all_word, IsName, IsLexeme, HasForm, IsLongest, begins_literal}
use Rattle.sz_lex.specs.Lookup.{pair_sign, single_sign, sign_or, word_of}
use Rattle.sz_lex.specs.Reading.{Body, body_at, character_at, first, kind_of, word_kind, number_item, character_item, quoted_item}
use Rattle.sz_lex.specs.Reading.{quoted_kind, sign_item, literal_item, item_of}
use Rattle.sz_lex.proofs.LiteralLemmas.{none_some, body_is}
use Rattle.sz_lex.proofs.CharacterLemmas.{character_is}
use Rattle.sz_lex.proofs.WordLemmas.{letter_word, digit_word, apart, Stops, run_at, word_again, word_is_name, word_spells, sign_of}
use Rattle.sz_lex.proofs.WordLemmas.{sign_again, pair_text, single_text, no_pair_at_end, begins_sign}
use Rattle.sz_lex.proofs.FormLemmas.{character_quote, quoted_front, words_longest, sign_form, quoted_is_longest, character_is_longest}
use Rattle.sz_lex.proofs.ItemLemmas.{digit_begins, quote_begins, single_quote_begins, opens_bytes, literal_case, other_case, name_item}
use Rattle.sz_lex.proofs.ItemLemmas.{number_item_is}

-- a token of this kind and length at the front of a text
pub record At (k : Kind) (n : ℕ) (text : List ℕ) : Type 0 where
  pub lexeme : List ℕ
  pub rest : List ℕ
  pub parts : text ≡ lexeme ++ rest
  pub len : n ≡ length lexeme
  pub spelled : IsLexeme k lexeme
  pub longest : IsLongest lexeme rest

pub at_is : (j k : Kind) (m n : ℕ) (text : List ℕ) → Lexeme j m ≡ Lexeme k n → At j m text → At k n text
at_is j k m n text e h = let kind : j ≡ k = cc in let len : m ≡ n =
    cc in subst (λ (x : ℕ). At k x text) len (subst (λ (x : Kind). At x m text) kind h)

-- ---- words and numbers

-- the word's bytes at a front that begins with one
record FrontRun (bs : List ℕ) : Type 0 where
  l : List ℕ
  rest : List ℕ
  parts : bs ≡ l ++ rest
  words : all_word l ≡ true
  stops : Stops rest

front_run : (bs : List ℕ) → FrontRun bs
front_run bs = let r = run_at bs in record {
  l = r.run;
  rest = r.rest;
  parts = r.parts;
  words = r.words;
  stops = r.stops;
}

-- a name's bytes spell a reserved word or a name
pub word_lexeme : (l : List ℕ) → IsName l → IsLexeme (word_kind l) l
word_lexeme l h = go (word_of l) refl
  where
    none : word_of l ≡ None → (w : Word) → l ≢ word_text w
    none e w is = none_some (sym e ∙ ap word_of is ∙ word_again w)

    go : (o : Option Word) → word_of l ≡ o → IsLexeme (kind_of (word_of l)) l
    go None e = subst (λ (o : Option Word). IsLexeme (kind_of o) l) (sym e) (h, none e)
    go (Some w) e = subst (λ (o : Option Word). IsLexeme (kind_of o) l) (sym e) (sym (word_spells l w e))

no_b_of : (b : ℕ) (bs l rest : List ℕ) → bs ≡ l ++ rest → begins_literal (b ∷ bs) ≡ false → (t : List ℕ) → b ≡ 66
    → l ++ rest ≡ 34 ∷ t → ⊥
no_b_of b bs l rest e none t is h = apart (sym (ap (λ (x : List ℕ). begins_literal x) (ap (λ (x : ℕ). x ∷ bs) is
    ∙ ap (λ (x : List ℕ). 66 ∷ x) (e ∙ h))) ∙ none)

-- a front that begins with a letter is a word
record WordFront (b : ℕ) (bs : List ℕ) : Type 0 where
  k : Kind
  n : ℕ
  is : item_of b bs ≡ Lexeme k n
  here : At k n (b ∷ bs)

word_front : (b : ℕ) (bs : List ℕ) → is_letter b ≡ true → begins_literal (b ∷ bs) ≡ false → WordFront b bs
word_front b bs h none =
    let r = front_run bs in
    let no_b = no_b_of b bs r.l r.rest r.parts none in
    record {
      k = word_kind (b ∷ r.l);
      n = suc (length r.l);
      is = ap (item_of b) r.parts ∙ name_item b r.l r.rest (h, r.words) r.stops no_b;
      here = record {
        lexeme = b ∷ r.l;
        rest = r.rest;
        parts = ap (λ (t : List ℕ). b ∷ t) r.parts;
        len = refl;
        spelled = word_lexeme (b ∷ r.l) (h, r.words);
        longest = words_longest b r.l r.rest (letter_word b h) r.stops no_b;
      };
    }

number_sound : (b : ℕ) (bs : List ℕ) (k : Kind) (n : ℕ) → is_digit b ≡ true → item_of b bs ≡ Lexeme k n
    → At k n (b ∷ bs)
number_sound b bs k n d h = go (number_of (b ∷ r.l)) refl
  where
    r : FrontRun bs
    r = front_run bs

    no_b : (t : List ℕ) → b ≡ 66 → r.l ++ r.rest ≡ 34 ∷ t → ⊥
    no_b t is e = apart (sym d ∙ ap is_digit is)

    item : number_item (number_of (b ∷ r.l)) (suc (length r.l)) ≡ Lexeme k n
    item = sym (number_item_is b r.l r.rest (d, r.words) r.stops) ∙ ap (item_of b) (sym r.parts) ∙ h

    go : (o : Option ℤ) → number_of (b ∷ r.l) ≡ o → At k n (b ∷ bs)
    go None e = let bad : BadLiteral ≡ Lexeme k n =
        ap (λ (o : Option ℤ). number_item o (suc (length r.l))) (sym e) ∙ item in absurd cc
    go (Some v) e = at_is (kinds.Number v) k (suc (length r.l)) n (b ∷ bs)
        (ap (λ (o : Option ℤ). number_item o (suc (length r.l)))
        (sym e) ∙ item) (record {
          lexeme = b ∷ r.l;
          rest = r.rest;
          parts = ap (λ (t : List ℕ). b ∷ t) r.parts;
          len = refl;
          spelled = ((d, r.words), e);
          longest = words_longest b r.l r.rest (digit_word b d) r.stops no_b;
        })

-- ---- literals between quotes

character_sound : (bs : List ℕ) (k : Kind) (n : ℕ) → character_item (character_at bs) ≡ Lexeme k n → At k n (39 ∷ bs)
character_sound bs k n h = go (character_at bs) refl
  where
    go : (o : Option (ℕ × ℕ)) → character_at bs ≡ o → At k n (39 ∷ bs)
    go None e = let bad : BadLiteral ≡ Lexeme k n = ap character_item (sym e) ∙ h in absurd cc
    go (Some x) e =
        let c = character_is bs x.0 x.1 e in
        at_is (kinds.Character x.0) k (x.1 + 1) n (39 ∷ bs) (ap character_item (sym e) ∙ h) (record {
          lexeme = 39 ∷ (c.body ++ (39 ∷ []));
          rest = c.rest;
          parts = ap (λ (t : List ℕ). 39 ∷ t) (c.parts ∙ sym (append_assoc c.body (39 ∷ []) c.rest));
          len = omega (arith, c.len, length-append c.body (39 ∷ []));
          spelled = c.is;
          longest = character_is_longest 39 x.0 (c.body ++ (39 ∷ [])) c.rest c.is;
        })

quoted_spelled : (q : Quoted) (l v : List ℕ) → IsQuoted q l v → IsLexeme (quoted_kind q) l
quoted_spelled quoteds.Str l v h = (v, h)
quoted_spelled quoteds.Bytes l v h = (v, h)

quoted_is_whole : (q : Quoted) (body v rest : List ℕ) → IsQuoted q (opening q ++ body) v
    → IsLongest (opening q ++ body) rest
quoted_is_whole quoteds.Str body v rest h = quoted_is_longest quoteds.Str 34 body v rest h
quoted_is_whole quoteds.Bytes body v rest h = quoted_is_longest quoteds.Bytes 66 (34 ∷ body) v rest h

quoted_sound : (q : Quoted) (bs : List ℕ) (k : Kind) (n : ℕ) → quoted_item q (body_at q 0 bs) ≡ Lexeme k n
    → At k n (opening q ++ bs)
quoted_sound q bs k n h = go (body_at q 0 bs) refl
  where
    go : (o : Option Body) → body_at q 0 bs ≡ o → At k n (opening q ++ bs)
    go None e = let bad : BadLiteral ≡ Lexeme k n = ap (quoted_item q) (sym e) ∙ h in absurd cc
    go (Some x) e =
        let b = body_is q bs x e in
        let body = parts_text b.ps ++ (34 ∷ []) in
        let is : IsQuoted q (opening q ++ body) x.value = record { parts = b.ps; spelled = refl; stands = b.value } in
        at_is (quoted_kind q) k (length (opening q) + x.len) n (opening q ++ bs)
        (ap (quoted_item q) (sym e) ∙ h) (record {
          lexeme = opening q ++ body;
          rest = b.rest;
          parts = ap (λ (t : List ℕ). opening q ++ t) (b.text ∙ sym (append_assoc (parts_text b.ps) (34 ∷ []) b.rest))
              ∙ sym (append_assoc (opening q) body b.rest);
          len = omega (arith, b.len, length-append (opening q) body, length-append (parts_text b.ps) (34 ∷ []));
          spelled = quoted_spelled q (opening q ++ body) x.value is;
          longest = quoted_is_whole q body x.value b.rest is;
        })

literal_sound : (b : ℕ) (bs : List ℕ) (k : Kind) (n : ℕ) → begins_literal (b ∷ bs) ≡ true → is_digit b ≡ false
    → literal_item b bs ≡ Lexeme k n → At k n (b ∷ bs)
literal_sound b bs k n begins d h = go (eqb b 39) (eqb b 34) refl refl
  where
    go : (x y : Bool) → eqb b 39 ≡ x → eqb b 34 ≡ y → At k n (b ∷ bs)
    go true y e f = subst (λ (m : ℕ). At k n (m ∷ bs)) (sym (eqb-true b 39 e)) (character_sound bs k n (rw (d, e) at h))
    go false true e f = subst (λ (m : ℕ). At k n (m ∷ bs)) (sym (eqb-true b 34 f))
        (quoted_sound quoteds.Str bs k n (rw (d, e, f) at h))
    go false false e f =
        let o = opens_bytes b bs begins d f e in
        let text : 66 ∷ 34 ∷ o.more ≡ b ∷ bs =
        ap (λ (x : ℕ). x ∷ 34 ∷ o.more) (sym o.first) ∙ ap (λ (t : List ℕ). b ∷ t) (sym o.second) in
        let item : quoted_item quoteds.Bytes (body_at quoteds.Bytes 0 (drop 1 bs)) ≡ Lexeme k n = rw (d, e, f) at h in
        subst (At k n) text (quoted_sound quoteds.Bytes o.more k n (ap (λ (t : List ℕ). quoted_item quoteds.Bytes
        (body_at quoteds.Bytes 0 (drop 1 t))) (sym o.second) ∙ item))

-- ---- signs

pair_sound : (b c : ℕ) (rest : List ℕ) (s : Sign) → pair_sign b c ≡ Some s → At (kinds.Sign s) 2 (b ∷ c ∷ rest)
pair_sound b c rest s h = record {
  lexeme = b ∷ c ∷ [];
  rest = rest;
  parts = refl;
  len = refl;
  spelled = sym (pair_text b c s h);
  longest = longest;
}
  where
    too_long : (d : ℕ) (extra : List ℕ) → (t : Sign) × (b ∷ c ∷ d ∷ extra ≡ sign_text t) → ⊥
    too_long d extra t = none_some (ap sign_of t.1 ∙ sign_again t.0)

    longest : IsLongest (b ∷ c ∷ []) rest
    longest [] others e form = refl
    longest (d ∷ extra) others e form =
        absurd (too_long d extra (sign_form b (c ∷ d ∷ extra) (begins_sign s b (c ∷ []) (pair_text b c s h)) form))

single_sound : (b : ℕ) (rest : List ℕ) (s : Sign) → pair_sign b (first rest) ≡ None → single_sign b ≡ Some s
    → At (kinds.Sign s) 1 (b ∷ rest)
single_sound b rest s pair h = record {
  lexeme = b ∷ [];
  rest = rest;
  parts = refl;
  len = refl;
  spelled = sym (single_text b s h);
  longest = longest;
}
  where
    form_sign : (extra : List ℕ) → HasForm (b ∷ extra) → (t : Sign) × (b ∷ extra ≡ sign_text t)
    form_sign extra form = sign_form b extra (begins_sign s b [] (single_text b s h)) form

    two : (c : ℕ) (others : List ℕ) → rest ≡ c ∷ others → (t : Sign) × (b ∷ c ∷ [] ≡ sign_text t) → ⊥
    two c others e t =
        none_some (sym pair ∙ ap (λ (x : List ℕ). pair_sign b (first x)) e ∙ ap sign_of t.1 ∙ sign_again t.0)

    too_long : (c d : ℕ) (extra : List ℕ) → (t : Sign) × (b ∷ c ∷ d ∷ extra ≡ sign_text t) → ⊥
    too_long c d extra t = none_some (ap sign_of t.1 ∙ sign_again t.0)

    longest : IsLongest (b ∷ []) rest
    longest [] others e form = refl
    longest (c ∷ []) others e form = absurd (two c others e (form_sign (c ∷ []) form))
    longest (c ∷ d ∷ extra) others e form = absurd (too_long c d extra (form_sign (c ∷ d ∷ extra) form))

-- ---- all that may stand at the front

-- no token begins with this byte
pub record BeginsNone (b : ℕ) : Type 0 where
  pub blank : is_blank b ≡ false
  pub hash : eqb b 35 ≡ false
  pub none : (k : Kind) (l : List ℕ) → IsLexeme k (b ∷ l) → ⊥

-- what stands at the front of a text that begins so
pub data Front (b : ℕ) (bs : List ℕ) : Type 0 where
  blank : is_blank b ≡ true → Front b bs
  comment : is_blank b ≡ false → eqb b 35 ≡ true → Front b bs
  lexeme : (k : Kind) (n : ℕ) → item_of b bs ≡ Lexeme k n → At k n (b ∷ bs) → Front b bs
  bad_char : item_of b bs ≡ BadChar → BeginsNone b → Front b bs
  bad_literal : item_of b bs ≡ BadLiteral → begins_literal (b ∷ bs) ≡ true → Front b bs

sign_front : (b : ℕ) (bs : List ℕ) → is_blank b ≡ false → eqb b 35 ≡ false → begins_literal (b ∷ bs) ≡ false
    → is_letter b ≡ false → Front b bs
sign_front b bs no_blank no_hash begins letter = go (pair_sign b (first bs)) (single_sign b) refl refl
  where
    item : item_of b bs ≡ sign_item (sign_or (pair_sign b (first bs)) (single_sign b))
    item = other_case b bs no_blank no_hash begins letter

    pair_front : (cs : List ℕ) (s : Sign) → pair_sign b (first cs) ≡ Some s → At (kinds.Sign s) 2 (b ∷ cs)
    pair_front [] s e = absurd (no_pair_at_end b s e)
    pair_front (c ∷ cs) s e = pair_sound b c cs s e

    no_begin : begins_literal (b ∷ bs) ≡ true → ⊥
    no_begin e = apart (sym e ∙ begins)

    none : single_sign b ≡ None → (k : Kind) (l : List ℕ) → IsLexeme k (b ∷ l) → ⊥
    none e kinds.Name l h = apart (sym h.0.0 ∙ letter)
    none e (kinds.Word w) l h = let n : IsName (b ∷ l) = subst IsName (sym h) (word_is_name w) in
        apart (sym n.0 ∙ letter)
    none e (kinds.Number n) l h = no_begin (digit_begins b bs h.0.0)
    none e (kinds.Character c) l h =
        no_begin (ap (λ (x : ℕ). begins_literal (x ∷ bs)) (character_quote b c l h) ∙ single_quote_begins bs)
    none e kinds.Str l h =
        no_begin (ap (λ (x : ℕ). begins_literal (x ∷ bs)) (quoted_front quoteds.Str b l h.0 h.1) ∙ quote_begins bs)
    none e kinds.Bytes l h = apart (sym (ap is_letter (quoted_front quoteds.Bytes b l h.0 h.1).1) ∙ letter)
    none e (kinds.Sign s) l h = none_some (sym e ∙ (begins_sign s b l (sym h)).single.1)

    go : (o p : Option Sign) → pair_sign b (first bs) ≡ o → single_sign b ≡ p → Front b bs
    go (Some s) p e f = lexeme (kinds.Sign s) 2
        (item ∙ ap (λ (o : Option Sign). sign_item (sign_or o (single_sign b))) e) (pair_front bs s e)
    go None (Some s) e f =
        lexeme (kinds.Sign s) 1 (item ∙ ap (λ (o : Option Sign). sign_item (sign_or o (single_sign b))) e
        ∙ ap (λ (o : Option Sign). sign_item (sign_or None o)) f) (single_sound b bs s e f)
    go None None e f = bad_char (item ∙ ap (λ (o : Option Sign). sign_item (sign_or o (single_sign b))) e
        ∙ ap (λ (o : Option Sign). sign_item (sign_or None o)) f)
        (record { blank = no_blank; hash = no_hash; none = none f })

-- a literal is a token or bad
abbrev OfLiteral : Item → Type 0
OfLiteral (Gap n) = ⊥
OfLiteral (Lexeme k n) = Unit {0}
OfLiteral BadChar = ⊥
OfLiteral BadLiteral = Unit {0}

of_cond : (x : Bool) (i j : Item) → OfLiteral i → OfLiteral j → OfLiteral (cond x i j)
of_cond true i j h k = h
of_cond false i j h k = k

of_number : (o : Option ℤ) (n : ℕ) → OfLiteral (number_item o n)
of_number None n = tt
of_number (Some v) n = tt

of_character : (o : Option (ℕ × ℕ)) → OfLiteral (character_item o)
of_character None = tt
of_character (Some c) = tt

of_quoted : (q : Quoted) (o : Option Body) → OfLiteral (quoted_item q o)
of_quoted q None = tt
of_quoted q (Some b) = tt

of_literal : (b : ℕ) (bs : List ℕ) → OfLiteral (literal_item b bs)
of_literal b bs =
    of_cond (is_digit b) _ _ (of_number _ _) (of_cond (eqb b 39) _ _ (of_character _) (of_cond (eqb b 34) _ _
    (of_quoted quoteds.Str _) (of_quoted quoteds.Bytes _)))

literal_front : (b : ℕ) (bs : List ℕ) → is_blank b ≡ false → eqb b 35 ≡ false
    → begins_literal (b ∷ bs) ≡ true → Front b bs
literal_front b bs no_blank no_hash begins = go (literal_item b bs) refl (of_literal b bs)
  where
    item : item_of b bs ≡ literal_item b bs
    item = literal_case b bs no_blank no_hash begins

    sound : (k : Kind) (n : ℕ) → literal_item b bs ≡ Lexeme k n → (x : Bool) → is_digit b ≡ x → At k n (b ∷ bs)
    sound k n e true d = number_sound b bs k n d (item ∙ e)
    sound k n e false d = literal_sound b bs k n begins d e

    go : (i : Item) → literal_item b bs ≡ i → OfLiteral (literal_item b bs) → Front b bs
    go (Gap n) e o = absurd (subst OfLiteral e o)
    go (Lexeme k n) e o = lexeme k n (item ∙ e) (sound k n e (is_digit b) refl)
    go BadChar e o = absurd (subst OfLiteral e o)
    go BadLiteral e o = bad_literal (item ∙ e) begins

pub front_of : (b : ℕ) (bs : List ℕ) → Front b bs
front_of b bs = go (is_blank b) (eqb b 35) (begins_literal (b ∷ bs)) (is_letter b) refl refl refl refl
  where
    word : WordFront b bs → Front b bs
    word w = lexeme w.k w.n w.is w.here

    go : (x y z t : Bool) → is_blank b ≡ x → eqb b 35 ≡ y → begins_literal (b ∷ bs) ≡ z → is_letter b ≡ t → Front b bs
    go true y z t e f g h = blank e
    go false true z t e f g h = comment e f
    go false false true t e f g h = literal_front b bs e f g
    go false false false true e f g h = word (word_front b bs h g)
    go false false false false e f g h = sign_front b bs e f g h
