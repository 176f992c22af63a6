-- No word so far is spelled so.
use Rattle.std.proofs.Common.{◌≡◌, drop, find}
use Rattle.std.specs.Str.{bytes_eq}
use Rattle.sz_lex.specs.Words.{word_text}
use Rattle.sz_save_format.proofs.names.is_reserved.Given as goal

abbrev pub invariant-loop-word : goal.invariant-loop-word
invariant-loop-word l = find (λ w. bytes_eq (word_text w) l.bytes) (drop l.word-index l.word-items)
    ≡ find (λ w. bytes_eq (word_text w) l.bytes) l.word-items
