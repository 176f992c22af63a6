-- What is written of an answer.
use Rattle.std.proofs.Common.{◌≡◌, ℕ, ◌+◌, ◌<◌, inl, inr, List, ◌++◌, length, take, Option, Some, None, refl, subst, sym, ap, ◌∙◌, arith, length-append}
use Rattle.std.specs.Prelude.{Result, Ok, Err, OnErr, IfOk, IfErr, IfSome, IfNone, replicate}
use Rattle.std.specs.Io.KnownBytes.{Appends}
use Rattle.std.proofs.KnownBytes.{Appends-trans}
use Rattle.std.proofs.Math.Seq.{take-append-add}
use Rattle.std.proofs.lemmas.List.{take-append-le, length-replicate}
use Rattle.std.specs.declared.alloc.AllocError.{AllocError}
use Rattle.sz_io.specs.declared.error.WriteError.{WriteError}
use Rattle.sz_io.specs.declared.sink.Sink as sink
use Rattle.sz_io.specs.Calls.{AppendsPart, bytes_taken}
use Rattle.sz_lex.specs.Tokens.{first_place}
use Rattle.sz_check_rules.specs.declared.cause.Cause.TheVariants.{TooLong}
use Rattle.sz_refusals.specs.declared.refusal.Refusal.{Refusal}
use Rattle.sz_refusals.specs.Refusing.{refusal_at}
use Rattle.sz_refusals.specs.Lines.{refusal_line}
use Rattle.sz_refusals.specs.Texts.{most_program_bytes}
use Rattle.szl_explain_judge.specs.Refusing.{IsProgram, IsRefused}
use Rattle.szl_explain.specs.declared.explanation.Explanation.{Explanation}
use Rattle.szl_explain.specs.declared.program.Status.{Status}
use Rattle.szl_explain.specs.declared.program.Status.TheVariants.{Done, Usage, Program, ReadFailed, WriteFailed, NoMemory}
use Rattle.szl_explain.specs.Answers.{first_line, status_of, Explains, WritesSome, IsAnswer}
use Rattle.szl_explain.specs.Writing.{Prints}

-- a text that was explained has no other status than these two
not_usage : (refusal : Option Refusal) → Usage ≡ status_of refusal → ⊥
not_usage None is = cc
not_usage (Some r) is = cc

not_unread : (refusal : Option Refusal) → ReadFailed ≡ status_of refusal → ⊥
not_unread None is = cc
not_unread (Some r) is = cc

-- the bytes that were read are those that the file holds, where it tells them
pub holds_read : (told : Option (List ℕ)) (items text : List ℕ) → text ≡ items → IfSome told (λ held. items ≡ held)
    → IfSome told (λ held. held ≡ text)
holds_read None items text same read = tt
holds_read (Some held) items text same read = sym (same ∙ read)

-- a file holds a text that is longer than the limit; where it doesn't tell its bytes, it is as if it held one
record HoldsLong (told : Option (List ℕ)) (limit : ℕ) : Type 0 where
  text : List ℕ
  holds : IfSome told (λ bytes. bytes ≡ text)
  long : limit < length text

holds_long : (told : Option (List ℕ)) (limit : ℕ) → IfSome told (λ bytes. limit < length bytes) → HoldsLong told limit
holds_long None limit long = record {
  text = replicate (limit + 1) 0;
  holds = tt;
  long = omega (arith, length-replicate {A = ℕ} (limit + 1) 0);
}
holds_long (Some bytes) limit long = record { text = bytes; holds = refl; long = long }

-- a front of the line was written, and so a front of it and of what comes after it
pub part_of_first : (old new : Option (List ℕ)) (line more : List ℕ) (e : WriteError)
    → Appends old new (take (bytes_taken e) line) → bytes_taken e < length line → AppendsPart old new (line ++ more)
part_of_first old new line more e prefix within = record {
  count = bytes_taken e;
  less = omega (arith, length-append line more, within);
  appends = subst (Appends old new) (sym (take-append-le (bytes_taken e) line more (omega (arith, within)))) prefix;
}

-- the line was written whole, and then a front of what comes after it
pub part_of_second : (old mid new : Option (List ℕ)) (line more : List ℕ) (result : Result (Unit {0}) WriteError)
    → Appends old mid line → IfErr result (λ e. Appends mid new (take (bytes_taken e) more))
    → IfErr result (λ e. bytes_taken e < length more) → OnErr result (AppendsPart old new (line ++ more))
part_of_second old mid new line more (Ok done) whole prefix within = tt
part_of_second old mid new line more (Err e) whole prefix within = record {
  count = length line + bytes_taken e;
  less = omega (arith, length-append line more, within);
  appends = subst (Appends old new) (sym (take-append-add line more (bytes_taken e)))
      (Appends-trans old mid new line (take (bytes_taken e) more) whole prefix);
}

pub on_err : {T E : Type 0} {P : Type 0} (result : Result T E) → P → OnErr result P
on_err (Ok value) h = tt
on_err (Err e) h = h

module _ {O : Type 0} (the_out : sink.Ghosts O) (told : Option (List ℕ)) (old new : O) where
  -- what was printed of an explanation of a text is the answer for the file that holds the text
  pub printed_answer : (text : List ℕ) (explained : Result Explanation AllocError) (status : Status)
      → IfSome told (λ bytes. bytes ≡ text) → IfOk explained (λ e. IfNone e.refusal (IsProgram text))
      → IfOk explained (λ e. IfSome e.refusal (IsRefused text))
      → IfOk explained (λ e. e.line.items ≡ first_line e.refusal) → Prints the_out explained status old new
      → IsAnswer the_out told status old new
  printed_answer text (Err error) status holds program refused line printed =
      subst (λ (s : Status). IsAnswer the_out told s old new) (sym printed.0) (inl printed.1)
  printed_answer text (Ok e) status holds program refused line printed = by status printed
    where
      said : List ℕ
      said = e.line.items ++ e.more.items

      explains : Explains told e.refusal said
      explains = record {
        text = text;
        holds = holds;
        program = program;
        refused = refused;
        more = e.more.items;
        is = ap (λ (l : List ℕ). l ++ e.more.items) line;
      }

      some : AppendsPart (the_out.taken old) (the_out.taken new) said
          → WritesSome told (the_out.taken old) (the_out.taken new)
      some part = record { refusal = e.refusal; said = said; explains = explains; appends = part }

      by : (status : Status) → Prints the_out (Ok e) status old new → IsAnswer the_out told status old new
      by Done all = record { refusal = e.refusal; said = said; explains = explains; is = all.0; appends = all.1 }
      by Program all = record { refusal = e.refusal; said = said; explains = explains; is = all.0; appends = all.1 }
      by Usage all = absurd (not_usage e.refusal all.0)
      by ReadFailed all = absurd (not_unread e.refusal all.0)
      by WriteFailed part = some part
      by NoMemory part = inr (some part)

  -- what was printed of a file that is too long is the answer for it
  pub too_long_answer : (explained : Result Explanation AllocError) (status : Status)
      → IfSome told (λ bytes. most_program_bytes < length bytes)
      → IfOk explained (λ e. e.refusal ≡ Some (refusal_at TooLong first_place))
      → IfOk explained (λ e. e.line.items ≡ refusal_line (refusal_at TooLong first_place))
      → Prints the_out explained status old new → IsAnswer the_out told status old new
  too_long_answer explained status long refusal line printed =
      printed_answer held.text explained status held.holds (passes explained refusal) (is_refused explained refusal)
      (line_is explained refusal line) printed
    where
      held : HoldsLong told most_program_bytes
      held = holds_long told most_program_bytes long

      passes : (explained : Result Explanation AllocError)
          → IfOk explained (λ e. e.refusal ≡ Some (refusal_at TooLong first_place))
          → IfOk explained (λ e. IfNone e.refusal (IsProgram held.text))
      passes (Err error) is = tt
      passes (Ok e) is = subst (λ (r : Option Refusal). IfNone r (IsProgram held.text)) (sym is) tt

      is_refused : (explained : Result Explanation AllocError)
          → IfOk explained (λ e. e.refusal ≡ Some (refusal_at TooLong first_place))
          → IfOk explained (λ e. IfSome e.refusal (IsRefused held.text))
      is_refused (Err error) is = tt
      is_refused (Ok e) is =
          subst (λ (r : Option Refusal). IfSome r (IsRefused held.text)) (sym is) (inl ((held.long, refl), refl))

      line_is : (explained : Result Explanation AllocError)
          → IfOk explained (λ e. e.refusal ≡ Some (refusal_at TooLong first_place))
          → IfOk explained (λ e. e.line.items ≡ refusal_line (refusal_at TooLong first_place))
          → IfOk explained (λ e. e.line.items ≡ first_line e.refusal)
      line_is (Err error) is line = tt
      line_is (Ok e) is line = line ∙ ap first_line (sym is)
