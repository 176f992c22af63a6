use Rattle.std.proofs.Common.{rules, ◌≡◌, false}
use Rattle.std.specs.Prelude.{codes, bytes_eq}
use Rattle.sz_check_emits.proofs.TableLemmas.{none_of_five}
use Rattle.sz_check_emits.proofs.table.kind_of.Goals as goal

-- the word is none of the five
pub returns : goal.returns
returns c =
    let word = c.args.name.now.text in
    let sum : bytes_eq word (codes "sum") ≡ false = search rules in
    let maximum : bytes_eq word (codes "maximum") ≡ false = search rules in
    let minimum : bytes_eq word (codes "minimum") ≡ false = search rules in
    let set : bytes_eq word (codes "set") ≡ false = search rules in
    let collection : bytes_eq word (codes "collection") ≡ false = search rules in
    record {
      value = none_of_five c.args.name.now c.no_kind.result sum maximum minimum set collection c.no_kind.ensures.value;
    }
