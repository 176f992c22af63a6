-- Texts all of whose bytes are ASCII.
use Rattle.std.specs.Prelude.{ℕ, List, Bool, nat_lt}
use Rattle.std.specs.List.{list_all}

-- whether each byte of the text is ASCII, so that each byte is a character of its own
abbrev pub is_ascii : List ℕ → Bool
is_ascii text = list_all (λ byte. nat_lt byte 128) text
