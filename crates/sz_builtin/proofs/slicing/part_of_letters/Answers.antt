-- A part of an ASCII text by characters is one by bytes.
use Rattle.std.proofs.Common.{◌≡◌, IfOk, subst}
use Rattle.sz_value.specs.Seen.{seen_slot}
use Rattle.sz_builtin.proofs.CharacterLemmas.{ascii_part_is}
use Rattle.sz_builtin.proofs.slicing.part_of_letters.Goals as goal

pub returns-in-Ascii : goal.returns-in-Ascii
returns-in-Ascii c =
    let text = c.in-Ascii.text in
    let same = ascii_part_is text.octets.now (c.args.skip, c.args.count) text.ascii in
    record {
      value = rw (c.in-Ascii.is) (subst (λ part. IfOk c.part_of_ascii.result (λ slot. seen_slot slot ≡ part)) same
          c.part_of_ascii.ensures.value);
    }
