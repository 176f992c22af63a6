-- What contracts see of texts that are looked at where they stand.
use Rattle.std.specs.Prelude.{ℕ, List}
use Rattle.sz_builtin.specs.declared.letters.Letters.{Letters}
use Rattle.sz_builtin.specs.declared.letters.Letters.TheVariants as letters
use Rattle.sz_builtin.specs.declared.letters.LentText.{LentText}
use Rattle.sz_builtin.specs.declared.letters.LentText.TheVariants as lent

-- the bytes of a text
abbrev pub letters_of : Letters → List ℕ
letters_of (letters.Kept text) = text.now
letters_of (letters.Ascii text) = text.octets.now

-- the bytes of a text that is made or lent
abbrev pub lent_letters : LentText → List ℕ
lent_letters (lent.Made text) = text
lent_letters (lent.Shared text) = text.now
