use Rattle.std.proofs.Common.{◌≡◌, drop, find}
use Rattle.std.specs.Str.{bytes_eq}
use Rattle.sz_lex.specs.Words.{word_text}
use Rattle.sz_protofile_names.proofs.words.is_reserved.Given as goal

-- no word so far is spelled so
abbrev pub invariant-loop-word : goal.invariant-loop-word
invariant-loop-word l = find (λ w. bytes_eq (word_text w) l.name) (drop l.word-index l.word-items)
    ≡ find (λ w. bytes_eq (word_text w) l.name) l.word-items
