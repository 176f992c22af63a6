-- How a text is kept.
use Rattle.std.specs.Prelude.{ℕ, List, Bool, true, false, string_bytes}
use Rattle.sz_value.specs.declared.form.Form.{Form}
use Rattle.sz_value.specs.declared.form.Form.TheVariants.{Ascii, Brief, Unmarked, Marked}

-- the bytes of the text
abbrev pub bytes_of : Form → List ℕ
bytes_of (Ascii string) = string_bytes string
bytes_of (Brief text) = text.bytes
bytes_of (Unmarked string) = string_bytes string
bytes_of (Marked marked) = marked.value

-- whether it is kept as a text all of whose bytes are ASCII
abbrev pub kept_as_ascii : Form → Bool
kept_as_ascii (Ascii _) = true
kept_as_ascii (Brief _) = true
kept_as_ascii _ = false
