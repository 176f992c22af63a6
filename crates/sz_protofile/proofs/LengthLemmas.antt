-- Each form takes a token at least.
use Rattle.std.proofs.Common.{ℕ, zero, suc, ◌<◌, ◌≤◌, Bool, true, false, eqb, List, [], ◌∷◌, ◌++◌, length, Option, Some, None, arith}
use Rattle.std.specs.Prelude.{if◌then◌else◌}
use Rattle.sz_protofile_lex.specs.declared.token.Token.{Token}
use Rattle.sz_protofile_lex.specs.declared.token.Kind.{Kind}
use Rattle.sz_protofile_lex.specs.declared.token.Kind.TheVariants as kinds
use Rattle.sz_protofile.specs.declared.line.Line.{Line}
use Rattle.sz_protofile.specs.declared.line.Line.TheVariants as lines
use Rattle.sz_protofile.specs.declared.keyword.Keyword.{Keyword}
use Rattle.sz_protofile.specs.declared.keyword.Keyword.TheVariants as keywords
use Rattle.sz_protofile.specs.declared.brackets.Turn.{Turn}
use Rattle.sz_protofile.specs.declared.brackets.Turn.TheVariants as turns
use Rattle.sz_protofile.specs.Reading.{Spelling, Read, sign_here, quoted_here, word_here, after_sign, after_quoted, word_at, after_word, name_at, number_at, number_of}
use Rattle.sz_protofile.specs.Brackets.{past, taken, turn_of, innermost, outer}
use Rattle.sz_protofile.specs.Forms.{ended, braced, closed, listed, past_options, message_at, enum_at, declared_at, setting_at, block_at, syntax_at, package_at, past_manner, import_at, service_at, header_at, body_at, item_at, settings_at, oneof_at, member_at, group_at, past_map, map_at, field_at, label_is, label_at, labelled_group_at, any_group_at, labelled_field_at, any_field_at, members_at, others_at, part_at, end_at, inner_at, line_at}
use Rattle.sz_protofile.proofs.Holds.{Holds, some_holds, none_holds, bind_holds, first_holds, guard_holds, anything}

-- what was read left fewer tokens than that
abbrev IsShort : {A : Type 0} → ℕ → Read A → Type 0
IsShort n o = Holds o (λ x. length x.1 < n)

abbrev IsShortRest : ℕ → Option (List Token) → Type 0
IsShortRest n o = Holds o (λ rest. length rest < n)

weak : {a n : ℕ} → a < n → a ≤ n
weak h = omega (arith, h)

-- ---- single tokens

sign_short : (n b : ℕ) (ts : List Token) → length ts ≤ n → IsShortRest n (after_sign b ts)
unfolding after_sign
sign_short n b [] h = none_holds _
sign_short n b (t ∷ ts) h = go t.kind
  where
    test : (x : Bool) → IsShortRest n (if x then Some ts else None)
    test true = some_holds _ ts (omega (arith, h))
    test false = none_holds _

    go : (k : Kind) → IsShortRest n (sign_here b k ts)
    go (kinds.Sign s) = test (eqb s b)
    go kinds.Word = none_holds _
    go kinds.Quoted = none_holds _

quoted_short : (n : ℕ) (ts : List Token) → length ts ≤ n → IsShortRest n (after_quoted ts)
unfolding after_quoted
quoted_short n [] h = none_holds _
quoted_short n (t ∷ ts) h = go t.kind
  where
    go : (k : Kind) → IsShortRest n (quoted_here k ts)
    go (kinds.Sign s) = none_holds _
    go kinds.Word = none_holds _
    go kinds.Quoted = some_holds _ ts (omega (arith, h))

word_short : (n : ℕ) (ts : List Token) → length ts ≤ n → IsShort n (word_at ts)
unfolding word_at
word_short n [] h = none_holds _
word_short n (t ∷ ts) h = go t.kind
  where
    go : (k : Kind) → IsShort n (word_here t k ts)
    go (kinds.Sign s) = none_holds _
    go kinds.Word = some_holds _ (t, ts) (omega (arith, h))
    go kinds.Quoted = none_holds _

-- ---- what is passed over

past_short : (n : ℕ) (ends : Bool) (due : List ℕ) (ts : List Token) → length ts < n → IsShortRest n (past ends due ts)
unfolding past
past_short n ends [] [] h = some_holds _ [] h
past_short n ends (d ∷ ds) [] h = none_holds _
past_short n ends due (t ∷ ts) h =
    go (turn_of ends (innermost due) t.kind) (λ ds. past_short n ends ds ts (omega (arith, h)))
  where
    go : (turn : Turn) → ((ds : List ℕ) → IsShortRest n (past ends ds ts))
        → IsShortRest n (taken turn due t ts (λ ds. past ends ds ts))
    go turns.Stop k = some_holds _ (t ∷ ts) h
    go turns.Pass k = k due
    go (turns.Open d) k = k (due ++ d ∷ [])
    go turns.Close k = k (outer due)
    go turns.Fail k = none_holds _

keyword_short : (n : ℕ) (text : Spelling) (w : Keyword) (ts : List Token) → length ts ≤ n
    → IsShortRest n (after_word text w ts)
unfolding after_word
keyword_short n text w ts h = bind_holds (word_short n ts h) (λ x p. guard_holds _ (some_holds _ _ p))

name_short : (n : ℕ) (text : Spelling) (ts : List Token) → length ts ≤ n → IsShort n (name_at text ts)
unfolding name_at
name_short n text ts h = bind_holds (word_short n ts h) (λ x p. guard_holds _ (some_holds _ _ p))

number_short : (n : ℕ) (text : Spelling) (ts : List Token) → length ts ≤ n → IsShort n (number_at text ts)
unfolding number_at
number_short n text ts h =
    bind_holds (word_short n ts h) (λ x p. bind_holds (anything (number_of (text x.0))) (λ m q. some_holds _ _ p))

-- ---- forms

ended_short : (n : ℕ) (line : Line) (ts : List Token) → length ts ≤ n → IsShort n (ended line ts)
unfolding ended
ended_short n line ts h = bind_holds (sign_short n 59 ts h) (λ a p1. some_holds _ _ p1)

braced_short : (n : ℕ) (ts : List Token) → length ts ≤ n → IsShortRest n (braced ts)
unfolding braced
braced_short n ts h = bind_holds (sign_short n 123 ts h)
    (λ a p1. bind_holds (past_short n false [] a p1) (λ b p2. sign_short n 125 b (weak p2)))

closed_short : (n : ℕ) (line : Line) (ts : List Token) → length ts ≤ n → IsShort n (closed line ts)
unfolding closed
closed_short n line ts h = bind_holds (braced_short n ts h) (λ a p1. some_holds _ _ p1)

listed_short : (n : ℕ) (ts : List Token) → length ts ≤ n → IsShortRest n (listed ts)
unfolding listed
listed_short n ts h = bind_holds (sign_short n 91 ts h)
    (λ a p1. bind_holds (past_short n true [] a p1) (λ b p2. sign_short n 93 b (weak p2)))

options_short : (n : ℕ) (ts : List Token) → length ts < n → IsShortRest n (past_options ts)
unfolding past_options
options_short n ts h = first_holds (listed_short n ts (weak h)) (some_holds _ ts h)

message_short : (n : ℕ) (text : Spelling) (ts : List Token) → length ts ≤ n → IsShort n (message_at text ts)
unfolding message_at
message_short n text ts h = bind_holds (keyword_short n text keywords.Message ts h) (λ a p1. bind_holds
    (name_short n text a (weak p1)) (λ y p2. bind_holds (sign_short n 123 y.1 (weak p2)) (λ c p3. some_holds _ _ p3)))

enum_short : (n : ℕ) (text : Spelling) (ts : List Token) → length ts ≤ n → IsShort n (enum_at text ts)
unfolding enum_at
enum_short n text ts h = bind_holds (keyword_short n text keywords.Enum ts h)
    (λ a p1. bind_holds (name_short n text a (weak p1)) (λ y p2. closed_short n (lines.Enum y.0) y.1 (weak p2)))

declared_short : (n : ℕ) (text : Spelling) (ts : List Token) → length ts ≤ n → IsShort n (declared_at text ts)
unfolding declared_at
declared_short n text ts h = first_holds (message_short n text ts h) (enum_short n text ts h)

setting_short : (n : ℕ) (text : Spelling) (w : Keyword) (ts : List Token) → length ts ≤ n
    → IsShort n (setting_at text w ts)
unfolding setting_at
setting_short n text w ts h = bind_holds (keyword_short n text w ts h)
    (λ a p1. bind_holds (past_short n true [] a p1) (λ b p2. ended_short n lines.Passed b (weak p2)))

block_short : (n : ℕ) (text : Spelling) (w : Keyword) (ts : List Token) → length ts ≤ n → IsShort n (block_at text w ts)
unfolding block_at
block_short n text w ts h = bind_holds (keyword_short n text w ts h)
    (λ a p1. bind_holds (word_short n a (weak p1)) (λ y p2. closed_short n lines.Passed y.1 (weak p2)))

syntax_short : (n : ℕ) (text : Spelling) (ts : List Token) → length ts ≤ n → IsShort n (syntax_at text ts)
unfolding syntax_at
syntax_short n text ts h =
    bind_holds (keyword_short n text keywords.Syntax ts h) (λ a p1. bind_holds (sign_short n 61 a (weak p1))
    (λ b p2. bind_holds (quoted_short n b (weak p2)) (λ c p3. ended_short n lines.Passed c (weak p3))))

package_short : (n : ℕ) (text : Spelling) (ts : List Token) → length ts ≤ n → IsShort n (package_at text ts)
unfolding package_at
package_short n text ts h = bind_holds (keyword_short n text keywords.Package ts h)
    (λ a p1. bind_holds (word_short n a (weak p1)) (λ y p2. ended_short n (lines.Package y.0) y.1 (weak p2)))

manner_short : (n : ℕ) (text : Spelling) (ts : List Token) → length ts < n → IsShortRest n (past_manner text ts)
unfolding past_manner
manner_short n text ts h = first_holds (keyword_short n text keywords.Public ts (weak h))
    (first_holds (keyword_short n text keywords.Weak ts (weak h)) (some_holds _ ts h))

import_short : (n : ℕ) (text : Spelling) (ts : List Token) → length ts ≤ n → IsShort n (import_at text ts)
unfolding import_at
import_short n text ts h =
    bind_holds (keyword_short n text keywords.Import ts h) (λ a p1. bind_holds (manner_short n text a p1)
    (λ b p2. bind_holds (quoted_short n b (weak p2)) (λ c p3. ended_short n lines.Passed c (weak p3))))

service_short : (n : ℕ) (text : Spelling) (ts : List Token) → length ts ≤ n → IsShort n (service_at text ts)
unfolding service_at
service_short n text ts h =
    first_holds (block_short n text keywords.Service ts h) (block_short n text keywords.Extend ts h)

header_short : (n : ℕ) (text : Spelling) (ts : List Token) → length ts ≤ n → IsShort n (header_at text ts)
unfolding header_at
header_short n text ts h =
    first_holds (syntax_short n text ts h) (first_holds (package_short n text ts h) (import_short n text ts h))

body_short : (n : ℕ) (text : Spelling) (ts : List Token) → length ts ≤ n → IsShort n (body_at text ts)
unfolding body_at
body_short n text ts h = first_holds (setting_short n text keywords.Option ts h)
    (first_holds (declared_short n text ts h) (service_short n text ts h))

item_short : (n : ℕ) (text : Spelling) (ts : List Token) → length ts ≤ n → IsShort n (item_at text ts)
unfolding item_at
item_short n text ts h =
    first_holds (ended_short n lines.Passed ts h) (first_holds (header_short n text ts h) (body_short n text ts h))

settings_short : (n : ℕ) (text : Spelling) (ts : List Token) → length ts ≤ n → IsShort n (settings_at text ts)
unfolding settings_at
settings_short n text ts h = first_holds (setting_short n text keywords.Option ts h)
    (first_holds (setting_short n text keywords.Reserved ts h) (setting_short n text keywords.Extensions ts h))

oneof_short : (n : ℕ) (text : Spelling) (ts : List Token) → length ts ≤ n → IsShort n (oneof_at text ts)
unfolding oneof_at
oneof_short n text ts h = bind_holds (keyword_short n text keywords.Oneof ts h)
    (λ a p1. bind_holds (name_short n text a (weak p1)) (λ y p2. closed_short n lines.Passed y.1 (weak p2)))

member_short : (n : ℕ) (text : Spelling) (ts : List Token) → length ts ≤ n → IsShort n (member_at text ts)
unfolding member_at
member_short n text ts h =
    bind_holds (name_short n text ts h) (λ x p1. bind_holds (sign_short n 61 x.1 (weak p1)) (λ b p2. bind_holds
    (number_short n text b (weak p2)) (λ z p3. bind_holds (options_short n z.1 p3) (λ d p4. some_holds _ _ p4))))

group_short : (n : ℕ) (text : Spelling) (ts : List Token) → length ts ≤ n → IsShort n (group_at text ts)
unfolding group_at
group_short n text ts h = bind_holds (keyword_short n text keywords.Group ts h)
    (λ a p1. bind_holds (member_short n text a (weak p1)) (λ y p2. closed_short n (lines.Unread y.0) y.1 (weak p2)))

past_map_short : (n : ℕ) (text : Spelling) (ts : List Token) → length ts ≤ n → IsShortRest n (past_map text ts)
unfolding past_map
past_map_short n text ts h =
    bind_holds (keyword_short n text keywords.Map ts h) (λ a p1. bind_holds (sign_short n 60 a (weak p1))
    (λ b p2. bind_holds (word_short n b (weak p2)) (λ z p3. bind_holds (sign_short n 44 z.1 (weak p3))
    (λ d p4. bind_holds (word_short n d (weak p4)) (λ v p5. sign_short n 62 v.1 (weak p5))))))

map_short : (n : ℕ) (text : Spelling) (ts : List Token) → length ts ≤ n → IsShort n (map_at text ts)
unfolding map_at
map_short n text ts h = bind_holds (past_map_short n text ts h)
    (λ a p1. bind_holds (member_short n text a (weak p1)) (λ y p2. ended_short n (lines.Unread y.0) y.1 (weak p2)))

field_short : (n : ℕ) (text : Spelling) (repeated : Bool) (ts : List Token) → length ts ≤ n
    → IsShort n (field_at text repeated ts)
unfolding field_at
field_short n text repeated ts h =
    bind_holds (word_short n ts h) (λ x p1. bind_holds (member_short n text x.1 (weak p1))
    (λ y p2. ended_short n (lines.Field (record { repeated = repeated; word = x.0; member = y.0 })) y.1 (weak p2)))

label_is_short : (n : ℕ) (text : Spelling) (w : Keyword) (repeated : Bool) (ts : List Token) → length ts ≤ n
    → IsShort n (label_is text w repeated ts)
unfolding label_is
label_is_short n text w repeated ts h = bind_holds (keyword_short n text w ts h) (λ a p1. some_holds _ _ p1)

label_short : (n : ℕ) (text : Spelling) (ts : List Token) → length ts ≤ n → IsShort n (label_at text ts)
unfolding label_at
label_short n text ts h = first_holds (label_is_short n text keywords.Repeated true ts h) (first_holds
    (label_is_short n text keywords.Optional false ts h) (label_is_short n text keywords.Required false ts h))

labelled_group_short : (n : ℕ) (text : Spelling) (ts : List Token) → length ts ≤ n
    → IsShort n (labelled_group_at text ts)
unfolding labelled_group_at
labelled_group_short n text ts h = bind_holds (label_short n text ts h) (λ x p1. group_short n text x.1 (weak p1))

labelled_field_short : (n : ℕ) (text : Spelling) (ts : List Token) → length ts ≤ n
    → IsShort n (labelled_field_at text ts)
unfolding labelled_field_at
labelled_field_short n text ts h = bind_holds (label_short n text ts h) (λ x p1. field_short n text x.0 x.1 (weak p1))

any_group_short : (n : ℕ) (text : Spelling) (ts : List Token) → length ts ≤ n → IsShort n (any_group_at text ts)
unfolding any_group_at
any_group_short n text ts h = first_holds (labelled_group_short n text ts h) (group_short n text ts h)

any_field_short : (n : ℕ) (text : Spelling) (ts : List Token) → length ts ≤ n → IsShort n (any_field_at text ts)
unfolding any_field_at
any_field_short n text ts h = first_holds (labelled_field_short n text ts h) (field_short n text false ts h)

members_short : (n : ℕ) (text : Spelling) (ts : List Token) → length ts ≤ n → IsShort n (members_at text ts)
unfolding members_at
members_short n text ts h =
    first_holds (any_group_short n text ts h) (first_holds (map_short n text ts h) (any_field_short n text ts h))

others_short : (n : ℕ) (text : Spelling) (ts : List Token) → length ts ≤ n → IsShort n (others_at text ts)
unfolding others_at
others_short n text ts h = first_holds (block_short n text keywords.Extend ts h)
    (first_holds (oneof_short n text ts h) (members_short n text ts h))

part_short : (n : ℕ) (text : Spelling) (ts : List Token) → length ts ≤ n → IsShort n (part_at text ts)
unfolding part_at
part_short n text ts h = first_holds (ended_short n lines.Passed ts h)
    (first_holds (declared_short n text ts h) (first_holds (settings_short n text ts h) (others_short n text ts h)))

end_short : (n : ℕ) (ts : List Token) → length ts ≤ n → IsShort n (end_at ts)
unfolding end_at
end_short n ts h = bind_holds (sign_short n 125 ts h) (λ a p1. some_holds _ _ p1)

inner_short : (n : ℕ) (text : Spelling) (ts : List Token) → length ts ≤ n → IsShort n (inner_at text ts)
unfolding inner_at
inner_short n text ts h = first_holds (part_short n text ts h) (end_short n ts h)

-- each line takes a token at least
pub line_short : (n : ℕ) (text : Spelling) (depth : ℕ) (ts : List Token) → length ts ≤ n
    → IsShort n (line_at text depth ts)
unfolding line_at
line_short n text zero ts h = item_short n text ts h
line_short n text (suc depth) ts h = inner_short n text ts h
