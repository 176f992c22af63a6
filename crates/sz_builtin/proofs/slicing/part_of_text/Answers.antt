-- A part of an ASCII text by characters is one by bytes.
use Rattle.std.proofs.Common.{◌≡◌, IfOk, subst, rules}
use Rattle.sz_value.specs.Seen.{seen_slot}
use Rattle.sz_builtin.proofs.CharacterLemmas.{ascii_part_is}
use Rattle.sz_builtin.proofs.slicing.part_of_text.Goals as goal

pub returns-then-is_ascii : goal.returns-then-is_ascii
returns-then-is_ascii c =
    let same = ascii_part_is c.args.text.now (c.args.skip, c.args.count) (search rules) in
    record {
      value = subst (λ part. IfOk c.ascii_part.result (λ slot. seen_slot slot ≡ part)) same c.ascii_part.ensures.value;
    }
