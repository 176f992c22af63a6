-- All words whose dashes fit: the walk has no fault exactly where they have parts, and ends with these.
use Rattle.std.proofs.Common.{◌≡◌, ℕ, List, [], ◌∷◌, length, take, drop, arith, Bool, true, false, true≢false, refl, ap, sym}
use Rattle.std.proofs.Common.{◌∙◌, subst, Option, Some, None}
use Rattle.std.specs.Prelude.{bytes_eq, codes, fold, if◌then◌else◌, not, ◌||◌}
use Rattle.std.specs.List.{list_any, before_first, after_first, position_or_len}
use Rattle.std.proofs.lemmas.List.{take_all}
use Rattle.clap.specs.Walk.{Held, Text, Waiting, Walk, idle, nothing_held}
use Rattle.clap.specs.Walk.{option, positional, walked, walk_from}
use Rattle.clap.specs.Faults.{settle_fault, turn_fault, walk_fault}
use Rattle.clap.specs.Kinds.{Kinds, or_else}
use Rattle.clap.specs.declared.error.kind.ErrorKind.{ErrorKind}
use Rattle.clap.specs.declared.error.kind.ErrorKind.TheVariants as kind
use Rattle.sz_words.specs.Parts.{Parts, awaits, ready, refused, has_equals, is_dashed, is_equals, is_long, is_name, is_option, no_parts}
use Rattle.sz_words.specs.Parts.{parts_of, parts_with, with_long, with_name, with_option, with_value, with_word}
use Rattle.sz_words.specs.Dashes.{dashes_fit}
use Rattle.sz_words.proofs.WordLemmas.{name-NoOption, undashed-name, long-is}
use Rattle.sz_words.proofs.RuleLemmas.{by_id, rules, shape}
use Rattle.sz_words.proofs.FoundLemmas.{Found}
use Rattle.sz_words.proofs.StepLemmas.{Holds, IsLong, NoFault, at, await_fault, await_walked, after_bare_option, end_fault, end_walked}
use Rattle.sz_words.proofs.StepLemmas.{given_fault, after_value, given_holds, given_walked, is_quiet, name_fault, after_name, name_holds}
use Rattle.sz_words.proofs.StepLemmas.{name_walked, after_option, option_holds, unknown_fault, value_fault, value_walked}

-- how a walk over words ends where they have no parts, or these
abbrev pub Ends : List Text → Walk → Option Parts → Type 0
Ends words w None =
    or_else (walk_fault shape [] w words) (settle_fault rules false (fold (walked rules []) w words).held) ≡ [] → ⊥
Ends words w (Some parts) =
    (walk_fault shape [] w words ≡ []) × ((fold (walked rules []) w words).stopped ≡ None)
    × Holds (fold (walked rules []) w words).held parts

-- a word without a fault
pub passed : (word : Text) (words : List Text) (w : Walk) (parts : Option Parts) → NoFault w word
    → Ends words (walked rules [] w word) parts → Ends (word ∷ words) w parts
unfolding walk_fault
passed word words w None fault ends = rw fault ends
passed word words w (Some parts) fault ends = (rw fault ends.0, ends.1, ends.2)

pub stepped : (word : Text) (words : List Text) (w next : Walk) (parts : Option Parts) → NoFault w word
    → walked rules [] w word ≡ next → Ends words next parts → Ends (word ∷ words) w parts
stepped word words w next parts fault is ends =
    passed word words w parts fault (subst (λ v. Ends words v parts) (sym is) ends)

-- a word with one
pub stopped : (word : Text) (words : List Text) (w : Walk) (k : ErrorKind) (ks : Kinds)
    → turn_fault shape [] w word ≡ k ∷ ks → Ends (word ∷ words) w None
unfolding walk_fault
stopped word words w k ks fault =
    let some : (rest : Kinds) → k ∷ rest ≡ [] → ⊥ = λ rest e. absurd (cc) in
    rw fault (some _)

-- a name, with what is said of dashes
pub not_end : (word : Text) → is_name word ≡ true → bytes_eq word (codes "--") ≡ false
not_end word e = (name-NoOption word e).no_end

pub fit_name : (word : Text) (words : List Text) → is_name word ≡ true → dashes_fit false (word ∷ words) ≡ true
    → dashes_fit false words ≡ true
fit_name word words e fit = rw (not_end word e, e) at fit

-- a word that is no name, where no `--` stands before it
pub or_is_false : (a b : Bool) → (a || b) ≡ false → (a ≡ false) × (b ≡ false)
or_is_false false false e = (refl, refl)
or_is_false false true e = absurd (true≢false e)
or_is_false true b e = absurd (true≢false e)

pub undashed : (word : Text) (words : List Text) → dashes_fit true (word ∷ words) ≡ true
    → (is_dashed word ≡ false) × (dashes_fit false words ≡ true)
undashed word words fit = go (is_dashed word) refl
  where
    go : (b : Bool) → is_dashed word ≡ b → (is_dashed word ≡ false) × (dashes_fit false words ≡ true)
    go true e = let bad : false ≡ true = rw e at fit in absurd (true≢false (sym bad))
    go false e = (e, rw e at fit)

-- a word of two dashes and more
pub record LongWord (word : Text) (words : List Text) : Type 0 where
  pub long : is_long word ≡ true
  pub fit : dashes_fit (not (has_equals (drop 2 word))) words ≡ true

pub long_word : (word : Text) (words : List Text) → is_name word ≡ false → bytes_eq word (codes "--") ≡ false
    → dashes_fit false (word ∷ words) ≡ true → LongWord word words
long_word word words no_name no_end fit = go (is_long word) refl
  where
    go : (b : Bool) → is_long word ≡ b → LongWord word words
    go true e = record { long = e; fit = rw (no_end, no_name, e) at fit }
    go false e = let bad : false ≡ true = rw (no_end, no_name, e) at fit in absurd (true≢false (sym bad))

-- an option without a value at the end
pub no_value : (seen : Held) (name : Text) → is_option name ≡ true → seen.pending ≡ Some (name, [])
    → Ends [] (at seen (option name) false) None
unfolding walk_fault
no_value seen name known pending =
    let some : (rest : Kinds) → kind.InvalidValue ∷ rest ≡ [] → ⊥ = λ rest e. absurd (cc) in
    rw (pending, by_id name known) (some _)

-- what stands before a byte that isn't there is all
pub none_before : (p : ℕ → Bool) (text : List ℕ) → list_any p text ≡ false → position_or_len p text ≡ length text
none_before p [] e = refl
none_before p (b ∷ bs) e =
    let no = or_is_false (p b) (list_any p bs) e in
    let rest = none_before p bs no.1 in
    rw no.0 (omega (arith, rest))

pub whole : (p : ℕ → Bool) (text : List ℕ) → list_any p text ≡ false → before_first p text ≡ text
whole p text e = ap (λ n. take n text) (none_before p text e) ∙ take_all (length text) text (omega arith)

-- how the walks over these words end, from each state that the words before can leave
pub record AllEnd (words : List Text) : Type 0 where
  pub ready : (seen : Held) (q : Waiting) (parts : Parts) → is_quiet q ≡ true → Holds seen parts
      → (parts.ended ≡ false → dashes_fit false words ≡ true)
      → Ends words (at seen q parts.ended) (parts_with (ready parts) words)
  pub awaiting : (seen : Held) (name : Text) (parts : Parts) → is_option name ≡ true → parts.ended ≡ false
      → seen.pending ≡ Some (name, []) → Found seen.rows parts → dashes_fit true words ≡ true
      → Ends words (at seen (option name) false) (parts_with (awaits name parts) words)

-- after an option's value
pub value_ends : (words : List Text) → AllEnd words → (seen : Held) (parts : Parts) → parts.ended ≡ false
    → Holds seen parts → dashes_fit false words ≡ true
    → Ends words (at seen idle false) (parts_with (ready parts) words)
value_ends words more seen parts before holds fit =
    subst (λ t. Ends words (at seen idle t) (parts_with (ready parts) words)) before
    (more.ready seen idle parts refl holds (λ _. fit))

-- a word in a list of words, where no option waits and no `--` stood before
pub record Before (word : Text) (words : List Text) (seen : Held) (q : Waiting) (parts : Parts) : Type 0 where
  pub more : AllEnd words
  pub quiet : is_quiet q ≡ true
  pub holds : Holds seen parts
  pub before : parts.ended ≡ false

-- a word of an option with its value
pub valued : (word : Text) (words : List Text) (seen : Held) (q : Waiting) (parts : Parts) (name value : Text)
    → Before word words seen q parts
    → dashes_fit false words ≡ true → IsLong word name (Some value) → (b : Bool) → is_option name ≡ b
    → Ends (word ∷ words) (at seen q false)
    (parts_with (if is_option name then ready (with_option name value parts) else refused) words)
valued word words seen q parts name value h fit l true known =
    rw known (stepped word words (at seen q false) (at (after_option name value seen) idle false) _
    (value_fault seen q word name value h.quiet l known h.holds.settles)
    (value_walked seen q word name value h.quiet l known)
    (value_ends words h.more (after_option name value seen) (with_option name value parts) h.before
    (option_holds name value seen parts known h.holds) fit))
valued word words seen q parts name value h fit l false unknown =
    let fault = unknown_fault seen q word name (Some value) h.quiet l unknown in
    rw unknown (stopped word words (at seen q false) kind.UnknownArgument fault.0 fault.1)

-- a word of an option whose value is to come
pub unvalued : (word : Text) (words : List Text) (seen : Held) (q : Waiting) (parts : Parts) (name : Text)
    → Before word words seen q parts
    → dashes_fit true words ≡ true → IsLong word name None → (b : Bool) → is_option name ≡ b
    → Ends (word ∷ words) (at seen q false) (parts_with (if is_option name then awaits name parts else refused) words)
unvalued word words seen q parts name h fit l true known =
    rw known (stepped word words (at seen q false) (at (after_bare_option name seen) (option name) false) _
    (await_fault seen q word name h.quiet l known h.holds.settles) (await_walked seen q word name h.quiet l known)
    (h.more.awaiting (after_bare_option name seen) name parts known h.before refl h.holds.found fit))
unvalued word words seen q parts name h fit l false unknown =
    let fault = unknown_fault seen q word name None h.quiet l unknown in
    rw unknown (stopped word words (at seen q false) kind.UnknownArgument fault.0 fault.1)

pub by_equals : (word : Text) (words : List Text) (seen : Held) (q : Waiting) (parts : Parts)
    → Before word words seen q parts → dashes_fit (not (has_equals (drop 2 word))) words ≡ true → is_long word ≡ true
    → bytes_eq word (codes "--") ≡ false → (b : Bool) → has_equals (drop 2 word) ≡ b
    → Ends (word ∷ words) (at seen q false) (parts_with (with_long (drop 2 word) parts) words)
by_equals word words seen q parts h fit long no_end true e =
    let name = before_first is_equals (drop 2 word) in
    let value = after_first is_equals (drop 2 word) in
    let l : IsLong word name (Some value) = record { no_end = no_end; long = rw e at (long-is word long no_end) } in
    rw e (valued word words seen q parts name value h (rw e at fit) l (is_option name) refl)
by_equals word words seen q parts h fit long no_end false e =
    let all : before_first is_equals (drop 2 word) ≡ drop 2 word = whole is_equals (drop 2 word) e in
    let l : IsLong word (drop 2 word) None = record {
      no_end = no_end;
      long = rw (e, all) at (long-is word long no_end);
    } in
    rw e (unvalued word words seen q parts (drop 2 word) h (rw e at fit) l (is_option (drop 2 word)) refl)

pub by_end : (word : Text) (words : List Text) (seen : Held) (q : Waiting) (parts : Parts)
    → Before word words seen q parts
    → dashes_fit false (word ∷ words) ≡ true → is_name word ≡ false → (b : Bool) → bytes_eq word (codes "--") ≡ b
    → Ends (word ∷ words) (at seen q false)
    (parts_with (if bytes_eq word (codes "--") then ready (record parts { ended = true })
    else if is_long word then with_long (drop 2 word) parts else refused) words)
by_end word words seen q parts h fit no_name true e =
    let holds : Holds seen (record parts { ended = true }) =
    record {
      settles = h.holds.settles;
      found = record { options = h.holds.found.options; names = h.holds.found.names };
    } in
    rw e (stepped word words (at seen q false) (at seen q true) _ (end_fault seen q word h.quiet e)
    (end_walked seen q word h.quiet e)
    (h.more.ready seen q (record parts { ended = true }) h.quiet holds (λ bad. absurd (true≢false bad))))
by_end word words seen q parts h fit no_name false e =
    let l = long_word word words no_name e fit in
    rw (e, l.long) (by_equals word words seen q parts h l.fit l.long e (has_equals (drop 2 word)) refl)

pub by_name : (word : Text) (words : List Text) → AllEnd words → (seen : Held) (q : Waiting) (parts : Parts)
    → is_quiet q ≡ true → Holds seen parts
    → (parts.ended ≡ false → dashes_fit false (word ∷ words) ≡ true) → (b : Bool) → (parts.ended || is_name word) ≡ b
    → Ends (word ∷ words) (at seen q parts.ended) (parts_with (with_word word parts) words)
by_name word words more seen q parts quiet holds fits true e =
    let is : with_word word parts ≡ ready (with_name word parts) = rw e refl in
    subst (λ r. Ends (word ∷ words) (at seen q parts.ended) (parts_with r words)) (sym is)
    (stepped word words (at seen q parts.ended) (at (after_name word seen) positional parts.ended) _
    (name_fault seen q parts.ended word quiet e holds.settles) (name_walked seen q parts.ended word quiet e)
    (more.ready (after_name word seen) positional (with_name word parts) refl (name_holds word seen parts holds)
    (λ before. fit_name word words (rw before at e) (fits before))))
by_name word words more seen q parts quiet holds fits false e =
    let no = or_is_false parts.ended (is_name word) e in
    let h : Before word words seen q parts = record { more = more; quiet = quiet; holds = holds; before = no.0 } in
    let is : with_word word parts ≡ (if bytes_eq word (codes "--") then ready (record parts { ended = true })
    else if is_long word then with_long (drop 2 word) parts else refused) = rw e refl in
    subst (λ t. Ends (word ∷ words) (at seen q t) (parts_with (with_word word parts) words)) (sym no.0)
    (subst (λ r. Ends (word ∷ words) (at seen q false) (parts_with r words)) (sym is)
    (by_end word words seen q parts h (fits no.0) no.1 (bytes_eq word (codes "--")) refl))

pub by_value : (word : Text) (words : List Text) → AllEnd words → (seen : Held) (name : Text) (parts : Parts)
    → is_option name ≡ true → parts.ended ≡ false → seen.pending ≡ Some (name, []) → Found seen.rows parts
    → dashes_fit true (word ∷ words) ≡ true
    → Ends (word ∷ words) (at seen (option name) false) (parts_with (awaits name parts) (word ∷ words))
by_value word words more seen name parts known before pending found fit =
    let no = undashed word words fit in
    let is : with_value name word parts ≡ ready (with_option name word parts) = rw no.0 refl in
    subst (λ r. Ends (word ∷ words) (at seen (option name) false) (parts_with r words)) (sym is)
    (stepped word words (at seen (option name) false) (at (after_value name word seen) idle false) _
    (given_fault seen word name (undashed-name word no.0))
    (given_walked seen word name (undashed-name word no.0) known pending)
    (value_ends words more (after_value name word seen) (with_option name word parts) before
    (given_holds name word seen parts known found) no.1))

pub all_end : (words : List Text) → AllEnd words
unfolding walk_fault
all_end [] = record {
  ready = λ seen q parts quiet holds fits. (refl, refl, holds);
  awaiting = λ seen name parts known before pending found fit. no_value seen name known pending;
}
all_end (word ∷ words) = record {
  ready = λ seen q parts quiet holds fits.
      by_name word words (all_end words) seen q parts quiet holds fits (parts.ended || is_name word) refl;
  awaiting = λ seen name parts known before pending found fit.
      by_value word words (all_end words) seen name parts known before pending found fit;
}

pub nothing_holds : Holds nothing_held no_parts
nothing_holds = record { settles = refl; found = record { options = λ name e. refl; names = refl } }

pub all_words : (words : List Text) → dashes_fit false words ≡ true
    → Ends words (walk_from nothing_held) (parts_of words)
all_words words fit = (all_end words).ready nothing_held idle no_parts refl nothing_holds (λ _. fit)
