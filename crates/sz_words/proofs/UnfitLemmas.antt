-- Words whose dashes don't fit have no parts.
use Rattle.std.proofs.Common.{◌≡◌, List, [], ◌∷◌, drop, Bool, true, false, true≢false, refl, ap}
use Rattle.std.proofs.Common.{◌∙◌, None}
use Rattle.std.specs.Prelude.{bytes_eq, codes, if◌then◌else◌, not}
use Rattle.std.specs.List.{before_first, after_first}
use Rattle.clap.specs.Walk.{Text}
use Rattle.sz_words.specs.Parts.{Parts, awaits, ready, refused, has_equals, is_dashed, is_equals, is_long, is_name, is_option, no_parts}
use Rattle.sz_words.specs.Parts.{parts_of, parts_with, with_long, with_name, with_option, with_value, with_word}
use Rattle.sz_words.specs.Dashes.{dashes_fit}
use Rattle.sz_words.proofs.EndLemmas.{not_end}

-- what is known of the words that follow
abbrev pub Unfit : List Text → Type 0
Unfit words =
    ((parts : Parts) → parts.ended ≡ false → dashes_fit false words ≡ false → parts_with (ready parts) words ≡ None)
    × ((name : Text) (parts : Parts) → parts.ended ≡ false → dashes_fit true words ≡ false
    → parts_with (awaits name parts) words ≡ None)

pub unfit_value : (word : Text) (words : List Text) → Unfit words → (name : Text) (parts : Parts) → parts.ended ≡ false
    → dashes_fit true (word ∷ words) ≡ false → (b : Bool) → is_dashed word ≡ b
    → parts_with (with_value name word parts) words ≡ None
unfit_value word words more name parts before e true d = rw d refl
unfit_value word words more name parts before e false d = rw d (more.0 (with_option name word parts) before (rw d at e))

pub unfit_given : (words : List Text) → Unfit words → (name value : Text) (parts : Parts) → parts.ended ≡ false
    → dashes_fit false words ≡ false
    → (b : Bool) → parts_with (if b then ready (with_option name value parts) else refused) words ≡ None
unfit_given words more name value parts before e true = more.0 (with_option name value parts) before e
unfit_given words more name value parts before e false = refl

pub unfit_awaiting : (words : List Text) → Unfit words → (name : Text) (parts : Parts) → parts.ended ≡ false
    → dashes_fit true words ≡ false → (b : Bool) → parts_with (if b then awaits name parts else refused) words ≡ None
unfit_awaiting words more name parts before e true = more.1 name parts before e
unfit_awaiting words more name parts before e false = refl

pub unfit_long : (words : List Text) → Unfit words → (text : Text) (parts : Parts) → parts.ended ≡ false → (b : Bool)
    → has_equals text ≡ b → dashes_fit (not b) words ≡ false → parts_with (with_long text parts) words ≡ None
unfit_long words more text parts before true d e =
    rw d (unfit_given words more (before_first is_equals text) (after_first is_equals text) parts before e
    (is_option (before_first is_equals text)))
unfit_long words more text parts before false d e =
    rw d (unfit_awaiting words more text parts before e (is_option text))

pub unfit_word : (word : Text) (words : List Text) → Unfit words → (parts : Parts) → parts.ended ≡ false
    → dashes_fit false (word ∷ words) ≡ false → (a : Bool) → is_name word ≡ a → (b : Bool)
    → bytes_eq word (codes "--") ≡ b → (c : Bool) → is_long word ≡ c → parts_with (with_word word parts) words ≡ None
unfit_word word words more parts before e true n b d c l =
    let is : with_word word parts ≡ ready (with_name word parts) = rw (before, n) refl in
    ap (λ r. parts_with r words) is ∙ more.0 (with_name word parts) before (rw (not_end word n, n) at e)
unfit_word word words more parts before e false n true d c l = let bad : true ≡ false = rw d at e in
    absurd (true≢false bad)
unfit_word word words more parts before e false n false d true l =
    let is : with_word word parts ≡ with_long (drop 2 word) parts = rw (before, n, d, l) refl in
    ap (λ r. parts_with r words) is
    ∙ unfit_long words more (drop 2 word) parts before (has_equals (drop 2 word)) refl (rw (d, n, l) at e)
unfit_word word words more parts before e false n false d false l =
    let is : with_word word parts ≡ refused = rw (before, n, d, l) refl in
    ap (λ r. parts_with r words) is

pub all_unfit : (words : List Text) → Unfit words
all_unfit [] = ((λ parts before e. absurd (true≢false e)), (λ name parts before e. absurd (true≢false e)))
all_unfit (word ∷ words) = (
  (λ parts before e. unfit_word word words (all_unfit words) parts before e (is_name word) refl
      (bytes_eq word (codes "--")) refl (is_long word) refl),
  (λ name parts before e. unfit_value word words (all_unfit words) name parts before e (is_dashed word) refl),
)

pub unfit : (words : List Text) → dashes_fit false words ≡ false → parts_of words ≡ None
unfit words e = (all_unfit words).0 no_parts refl e
