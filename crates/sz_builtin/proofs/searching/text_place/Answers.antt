-- A text stands in another between characters.
use Rattle.std.proofs.Common.{◌≡◌, ◌∙◌, Option, Some, None, List, ℕ, ap, subst}
use Rattle.memchr.specs.Find.{FindsNeedle}
use Rattle.sz_builtin.specs.Letters.{letters_of}
use Rattle.sz_builtin.proofs.PlaceLemmas.{text_place_is, cut_at_place, bytes_first}
use Rattle.sz_builtin.proofs.searching.text_place.Goals as goal

-- what is found in the bytes of two texts is found in the texts
in_texts : {hay needle hay_bytes needle_bytes : List ℕ} (found : Option ℕ) → hay_bytes ≡ hay → needle_bytes ≡ needle
    → FindsNeedle hay_bytes needle_bytes 0 found → FindsNeedle hay needle 0 found
in_texts {hay} {needle} {hay_bytes} {needle_bytes} found same same_needle finds =
    subst (λ h. FindsNeedle h needle 0 found) same (subst (λ n. FindsNeedle hay_bytes n 0 found) same_needle finds)

pub characters_before-requires : goal.characters_before-requires
characters_before-requires c =
    let hay = letters_of c.args.hay.now in
    let needle = letters_of c.args.needle.now in
    let at = c.in-Some.at in
    let found : FindsNeedle hay needle 0 (Some at) =
    in_texts (Some at) c.octets.ensures.value c.octets-2.ensures.value c.in-Some.ensures in
    record {
      cut = cut_at_place hay needle at c.octets.ensures.utf8 c.octets-2.ensures.utf8
          (bytes_first hay needle (Some at) found);
    }

pub returns-in-Some-clause-value : goal.returns-in-Some-clause-value
returns-in-Some-clause-value c =
    let hay = letters_of c.args.hay.now in
    let needle = letters_of c.args.needle.now in
    let at = c.in-Some.at in
    let found : FindsNeedle hay needle 0 (Some at) =
    in_texts (Some at) c.octets.ensures.value c.octets-2.ensures.value c.in-Some.ensures in
    ap Some c.characters_before.ensures.value
    ∙ text_place_is hay needle (Some at) c.octets.ensures.utf8 c.octets-2.ensures.utf8 found

pub returns-in-None-clause-value : goal.returns-in-None-clause-value
returns-in-None-clause-value c =
    let hay = letters_of c.args.hay.now in
    let needle = letters_of c.args.needle.now in
    let found : FindsNeedle hay needle 0 None =
    in_texts None c.octets.ensures.value c.octets-2.ensures.value c.in-None.ensures in
    text_place_is hay needle None c.octets.ensures.utf8 c.octets-2.ensures.utf8 found
