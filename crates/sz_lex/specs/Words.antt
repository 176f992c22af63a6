-- The reserved words.
use Rattle.std.specs.Prelude.{ℕ, List, codes}
use Rattle.sz_lex.specs.declared.word.Word.{Word}
use Rattle.sz_lex.specs.declared.word.Word.TheVariants as words

-- how a reserved word is spelled
abbrev pub word_text : Word → List ℕ
word_text words.All = codes "all"
word_text words.Array = codes "array"
word_text words.Bool = codes "bool"
word_text words.Break = codes "break"
word_text words.Bytes = codes "bytes"
word_text words.Continue = codes "continue"
word_text words.Def = codes "def"
word_text words.Do = codes "do"
word_text words.Each = codes "each"
word_text words.Else = codes "else"
word_text words.Emit = codes "emit"
word_text words.False = codes "false"
word_text words.For = codes "for"
word_text words.Function = codes "function"
word_text words.If = codes "if"
word_text words.Int = codes "int"
word_text words.Map = codes "map"
word_text words.Of = codes "of"
word_text words.Proto = codes "proto"
word_text words.Return = codes "return"
word_text words.Some = codes "some"
word_text words.Static = codes "static"
word_text words.String = codes "string"
word_text words.Table = codes "table"
word_text words.Time = codes "time"
word_text words.True = codes "true"
word_text words.Type = codes "type"
word_text words.Weight = codes "weight"
word_text words.When = codes "when"
word_text words.While = codes "while"
