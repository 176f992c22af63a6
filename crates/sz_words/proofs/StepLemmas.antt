-- One word of the walk of `clap`: it has no fault, and the walk stands where the rule on words says.
use Rattle.std.proofs.Common.{◌≡◌, [], ◌∷◌, Bool, true, false, true≢false, refl, ap, sym}
use Rattle.std.proofs.Common.{Option, Some, None}
use Rattle.std.specs.Prelude.{bytes_eq, codes, if◌then◌else◌, ◌&&◌, ◌||◌}
use Rattle.clap.specs.Walk.{Held, Text, Waiting, Walk, is_pending, pushed, idle}
use Rattle.clap.specs.Walk.{option, positional, settled, used, walked}
use Rattle.clap.specs.Faults.{settle_fault, turn_fault}
use Rattle.clap.specs.Lexer.{long_of}
use Rattle.clap.specs.Kinds.{Kinds}
use Rattle.clap.specs.declared.error.kind.ErrorKind.TheVariants as kind
use Rattle.sz_words.specs.Parts.{Parts, is_name, is_option}
use Rattle.sz_words.specs.Parts.{with_name, with_option}
use Rattle.sz_words.proofs.RowLemmas.{same}
use Rattle.sz_words.proofs.WordLemmas.{name-NoOption}
use Rattle.sz_words.proofs.RuleLemmas.{by_id, by_long, name_rule, none_long, option_rule, rules, shape}
use Rattle.sz_words.proofs.FoundLemmas.{Found, name_found, option_found}

-- a walk that met no subcommand and stands before the one positional
abbrev pub at : Held → Waiting → Bool → Walk
at seen waiting ended = record { held = seen; waiting = waiting; position = 1; is_trailing = ended; stopped = None }

-- no option waits for a value
abbrev pub is_quiet : Waiting → Bool
is_quiet (option name) = false
is_quiet _ = true

-- what is pending can be used, and then the rows have these parts
pub record Holds (seen : Held) (parts : Parts) : Type 0 where
  pub settles : settle_fault rules false seen ≡ []
  pub found : Found (settled rules seen).rows parts

-- after a name
abbrev pub after_name : Text → Held → Held
after_name word seen = record (settled rules seen) { pending = Some (codes "name", word ∷ []) }

-- after `--name=VALUE`
abbrev pub after_option : Text → Text → Held → Held
after_option name value seen = record seen {
  rows = used (option_rule name) (value ∷ []) (settled rules seen).rows;
  pending = None;
}

-- after `--name`
abbrev pub after_bare_option : Text → Held → Held
after_bare_option name seen = record (settled rules seen) { pending = Some (name, []) }

-- after the value of an option
abbrev pub after_value : Text → Text → Held → Held
after_value name value seen = record seen { pending = Some (name, value ∷ []) }

pub name_holds : (word : Text) (seen : Held) (parts : Parts) → Holds seen parts
    → Holds (after_name word seen) (with_name word parts)
name_holds word seen parts h = record {
  settles = refl;
  found = name_found word (settled rules seen).rows parts h.found;
}

pub option_holds : (name value : Text) (seen : Held) (parts : Parts) → is_option name ≡ true → Holds seen parts
    → Holds (after_option name value seen) (with_option name value parts)
option_holds name value seen parts known h =
    record { settles = refl; found = option_found name value (settled rules seen).rows parts known h.found }

pub given_holds : (name value : Text) (seen : Held) (parts : Parts) → is_option name ≡ true → Found seen.rows parts
    → Holds (after_value name value seen) (with_option name value parts)
given_holds name value seen parts known found = record {
  settles = rw (by_id name known) refl;
  found = rw (by_id name known) (option_found name value seen.rows parts known found);
}

-- ---- one word

abbrev pub NoFault : Walk → Text → Type 0
NoFault w word = turn_fault shape [] w word ≡ []

-- after `--`, or where it is a name, a word goes to the names
pub positional_settles : (seen : Held) → settle_fault rules false seen ≡ [] → (b : Bool)
    → (if b && false then [] else settle_fault rules false seen) ≡ []
positional_settles seen e true = e
positional_settles seen e false = e

pub name_fault : (seen : Held) (q : Waiting) (ended : Bool) (word : Text) → is_quiet q ≡ true
    → (ended || is_name word) ≡ true → settle_fault rules false seen ≡ [] → NoFault (at seen q ended) word
name_fault seen idle true word quiet e settles = positional_settles seen settles (is_pending name_rule seen.pending)
name_fault seen positional true word quiet e settles =
    positional_settles seen settles (is_pending name_rule seen.pending)
name_fault seen (option name) ended word quiet e settles = absurd (true≢false (sym quiet))
name_fault seen idle false word quiet e settles =
    let no = name-NoOption word e in
    rw (no.no_end, no.no_long, no.no_short) (positional_settles seen settles (is_pending name_rule seen.pending))
name_fault seen positional false word quiet e settles =
    let no = name-NoOption word e in
    rw (no.no_end, no.no_long, no.no_short) (positional_settles seen settles (is_pending name_rule seen.pending))

-- the names' place is settled before, and takes one word at a time
pub to_name : (seen : Held) (word : Text) (b : Bool)
    → pushed (codes "name") word (if b && false then seen else settled rules seen) ≡ after_name word seen
to_name seen word true = refl
to_name seen word false = refl

pub name_walked : (seen : Held) (q : Waiting) (ended : Bool) (word : Text) → is_quiet q ≡ true
    → (ended || is_name word) ≡ true
    → walked rules [] (at seen q ended) word ≡ at (after_name word seen) positional ended
unfolding walked
name_walked seen idle true word quiet e =
    ap (λ h. at h positional true) (to_name seen word (is_pending name_rule seen.pending))
name_walked seen positional true word quiet e =
    ap (λ h. at h positional true) (to_name seen word (is_pending name_rule seen.pending))
name_walked seen (option name) ended word quiet e = absurd (true≢false (sym quiet))
name_walked seen idle false word quiet e =
    let no = name-NoOption word e in
    rw (no.no_end, no.no_long, no.no_short)
    (ap (λ h. at h positional false) (to_name seen word (is_pending name_rule seen.pending)))
name_walked seen positional false word quiet e =
    let no = name-NoOption word e in
    rw (no.no_end, no.no_long, no.no_short)
    (ap (λ h. at h positional false) (to_name seen word (is_pending name_rule seen.pending)))

-- `--` ends the options
pub end_fault : (seen : Held) (q : Waiting) (word : Text) → is_quiet q ≡ true → bytes_eq word (codes "--") ≡ true
    → NoFault (at seen q false) word
end_fault seen idle word quiet e = rw e refl
end_fault seen positional word quiet e = rw e refl
end_fault seen (option name) word quiet e = absurd (true≢false (sym quiet))

pub end_walked : (seen : Held) (q : Waiting) (word : Text) → is_quiet q ≡ true → bytes_eq word (codes "--") ≡ true
    → walked rules [] (at seen q false) word ≡ at seen q true
unfolding walked
end_walked seen idle word quiet e = rw e refl
end_walked seen positional word quiet e = rw e refl
end_walked seen (option name) word quiet e = absurd (true≢false (sym quiet))

-- a word of two dashes and more, with what `clap` makes of it
pub record IsLong (word name : Text) (value : Option Text) : Type 0 where
  pub no_end : bytes_eq word (codes "--") ≡ false
  pub long : long_of word ≡ Some (name, value)

-- an option with its value
pub value_fault : (seen : Held) (q : Waiting) (word name value : Text) → is_quiet q ≡ true
    → IsLong word name (Some value) → is_option name ≡ true
    → settle_fault rules false seen ≡ [] → NoFault (at seen q false) word
value_fault seen idle word name value quiet l known settles =
    rw (l.no_end, l.long, by_long name known, settles) refl
value_fault seen positional word name value quiet l known settles =
    rw (l.no_end, l.long, by_long name known, settles) refl
value_fault seen (option n) word name value quiet l known settles = absurd (true≢false (sym quiet))

pub value_walked : (seen : Held) (q : Waiting) (word name value : Text) → is_quiet q ≡ true
    → IsLong word name (Some value) → is_option name ≡ true
    → walked rules [] (at seen q false) word ≡ at (after_option name value seen) idle false
unfolding walked
value_walked seen idle word name value quiet l known = rw (l.no_end, l.long, by_long name known) refl
value_walked seen positional word name value quiet l known = rw (l.no_end, l.long, by_long name known) refl
value_walked seen (option n) word name value quiet l known = absurd (true≢false (sym quiet))

-- an option whose value is to come
pub await_fault : (seen : Held) (q : Waiting) (word name : Text) → is_quiet q ≡ true → IsLong word name None
    → is_option name ≡ true → settle_fault rules false seen ≡ [] → NoFault (at seen q false) word
await_fault seen idle word name quiet l known settles = rw (l.no_end, l.long, by_long name known, settles) refl
await_fault seen positional word name quiet l known settles = rw (l.no_end, l.long, by_long name known, settles) refl
await_fault seen (option n) word name quiet l known settles = absurd (true≢false (sym quiet))

pub await_walked : (seen : Held) (q : Waiting) (word name : Text) → is_quiet q ≡ true → IsLong word name None
    → is_option name ≡ true
    → walked rules [] (at seen q false) word ≡ at (after_bare_option name seen) (option name) false
unfolding walked
await_walked seen idle word name quiet l known = rw (l.no_end, l.long, by_long name known) refl
await_walked seen positional word name quiet l known = rw (l.no_end, l.long, by_long name known) refl
await_walked seen (option n) word name quiet l known = absurd (true≢false (sym quiet))

-- no option of this name
pub unknown_fault : (seen : Held) (q : Waiting) (word name : Text) (value : Option Text) → is_quiet q ≡ true
    → IsLong word name value → is_option name ≡ false
    → (kinds : Kinds) × (turn_fault shape [] (at seen q false) word ≡ kind.UnknownArgument ∷ kinds)
unknown_fault seen idle word name value quiet l unknown = ([], rw (l.no_end, l.long, none_long name unknown) refl)
unknown_fault seen positional word name value quiet l unknown = ([], rw (l.no_end, l.long, none_long name unknown) refl)
unknown_fault seen (option n) word name value quiet l unknown = absurd (true≢false (sym quiet))

-- a word after an option
pub given_fault : (seen : Held) (word name : Text) → is_name word ≡ true → NoFault (at seen (option name) false) word
given_fault seen word name e =
    let no = name-NoOption word e in
    rw (no.no_end, no.no_long, no.no_short) refl

pub given_walked : (seen : Held) (word name : Text) → is_name word ≡ true → is_option name ≡ true
    → seen.pending ≡ Some (name, [])
    → walked rules [] (at seen (option name) false) word ≡ at (after_value name word seen) idle false
unfolding walked
given_walked seen word name e known pending =
    let no = name-NoOption word e in
    rw (no.no_end, no.no_long, no.no_short, by_id name known, pending, same name) refl
