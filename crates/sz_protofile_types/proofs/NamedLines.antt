-- The field of a line has a name, in the grammar's sense.
use Rattle.std.proofs.Common.{◌≡◌, ℕ, zero, suc, Bool, true, false, List, [], ◌∷◌, Option, Some, None, refl, subst}
use Rattle.sz_protofile_lex.specs.declared.token.Token.{Token}
use Rattle.sz_protofile.specs.declared.line.Line.{Line}
use Rattle.sz_protofile.specs.declared.line.Line.TheVariants as lines
use Rattle.sz_protofile.specs.declared.line.Member.{Member}
use Rattle.sz_protofile.specs.declared.keyword.Keyword.{Keyword}
use Rattle.sz_protofile.specs.declared.keyword.Keyword.TheVariants as keywords
use Rattle.sz_protofile.specs.Reading.{
  Spelling,
  Read,
  ◌>>=◌,
  ◌<|>◌,
  bind,
  first,
  guard,
  is_name,
  after_sign,
  after_quoted,
  word_at,
  after_word,
  name_at,
  number_at,
}
use Rattle.sz_protofile.specs.Forms.{ended, closed, message_at, enum_at, declared_at, setting_at, block_at, syntax_at, package_at}
use Rattle.sz_protofile.specs.Forms.{import_at, service_at, header_at, body_at, item_at, settings_at, oneof_at, member_at, group_at}
use Rattle.sz_protofile.specs.Forms.{map_at, field_at, labelled_group_at, any_group_at, labelled_field_at, any_field_at, members_at}
use Rattle.sz_protofile.specs.Forms.{others_at, part_at, inner_at, line_at, end_at}
use Rattle.sz_protofile.specs.Lines.{depth_after, Reads}

-- P holds of what is read, if anything is
record Holds {A : Type 0} (o : Option A) (P : A → Type 0) : Type 0 where
  holds : (x : A) → o ≡ Some x → P x

some_holds : {A : Type 0} (P : A → Type 0) (x : A) → P x → Holds (Some x) P
some_holds {A} P x p = record { holds = λ y e. subst P (same x y e) p }
  where
    same : (x y : A) → ◌≡◌ {A = Option A} (Some x) (Some y) → x ≡ y
    same x y e = cc

none_holds : {A : Type 0} (P : A → Type 0) → Holds {A = A} None P
none_holds P = record { holds = λ y e. absurd cc }

bind_holds : {A B : Type 0} {o : Option A} {P : A → Type 0} {f : A → Option B} {Q : B → Type 0} → Holds o P
    → ((x : A) → P x → Holds (f x) Q) → Holds (o >>= f) Q
unfolding bind
bind_holds {o = Some x} h k = k x (h.holds x refl)
bind_holds {o = None} h k = none_holds _

-- whatever was read
then_holds : {A B : Type 0} (o : Option A) {f : A → Option B} {Q : B → Type 0} → ((x : A) → Holds (f x) Q)
    → Holds (o >>= f) Q
unfolding bind
then_holds (Some x) k = k x
then_holds None k = none_holds _

first_holds : {A : Type 0} {a b : Option A} {P : A → Type 0} → Holds a P → Holds b P → Holds (a <|> b) P
unfolding first
first_holds {a = Some x} h k = h
first_holds {a = None} h k = k

guard_told : {A : Type 0} (b : Bool) {o : Option A} {P : A → Type 0} → (b ≡ true → Holds o P) → Holds (guard b o) P
unfolding guard
guard_told true h = h refl
guard_told false h = none_holds _

module _ (text : Spelling) where
  -- the field of a line, if it has one, has a name
  abbrev pub IsNamedLine : Line → Type 0
  IsNamedLine (lines.Field f) = is_name (text f.member.name) ≡ true
  IsNamedLine _ = Unit {0}

  abbrev AreNamed : Read Line → Type 0
  AreNamed o = Holds o (λ x. IsNamedLine x.0)

  ended_named : (line : Line) (ts : List Token) → IsNamedLine line → AreNamed (ended line ts)
  unfolding ended
  ended_named line ts h = then_holds _ (λ a. some_holds (λ x. IsNamedLine x.0) (line, a) h)

  closed_named : (line : Line) (ts : List Token) → IsNamedLine line → AreNamed (closed line ts)
  unfolding closed
  closed_named line ts h = then_holds _ (λ a. some_holds (λ x. IsNamedLine x.0) (line, a) h)

  message_named : (ts : List Token) → AreNamed (message_at text ts)
  unfolding message_at
  message_named ts = then_holds _
      (λ a. then_holds _ (λ y. then_holds _ (λ b. some_holds (λ x. IsNamedLine x.0) (lines.Message y.0, b) tt)))

  enum_named : (ts : List Token) → AreNamed (enum_at text ts)
  unfolding enum_at
  enum_named ts = then_holds _ (λ a. then_holds _ (λ y. closed_named (lines.Enum y.0) y.1 tt))

  declared_named : (ts : List Token) → AreNamed (declared_at text ts)
  unfolding declared_at
  declared_named ts = first_holds (message_named ts) (enum_named ts)

  setting_named : (w : Keyword) (ts : List Token) → AreNamed (setting_at text w ts)
  unfolding setting_at
  setting_named w ts = then_holds _ (λ a. then_holds _ (λ b. ended_named lines.Passed b tt))

  block_named : (w : Keyword) (ts : List Token) → AreNamed (block_at text w ts)
  unfolding block_at
  block_named w ts = then_holds _ (λ a. then_holds _ (λ y. closed_named lines.Passed y.1 tt))

  syntax_named : (ts : List Token) → AreNamed (syntax_at text ts)
  unfolding syntax_at
  syntax_named ts = then_holds _ (λ a. then_holds _ (λ b. then_holds _ (λ c. ended_named lines.Passed c tt)))

  package_named : (ts : List Token) → AreNamed (package_at text ts)
  unfolding package_at
  package_named ts = then_holds _ (λ a. then_holds _ (λ y. ended_named (lines.Package y.0) y.1 tt))

  import_named : (ts : List Token) → AreNamed (import_at text ts)
  unfolding import_at
  import_named ts = then_holds _ (λ a. then_holds _ (λ b. then_holds _ (λ c. ended_named lines.Passed c tt)))

  item_named : (ts : List Token) → AreNamed (item_at text ts)
  unfolding item_at header_at body_at service_at
  item_named ts =
      first_holds (ended_named lines.Passed ts tt)
      (first_holds (first_holds (syntax_named ts) (first_holds (package_named ts) (import_named ts)))
      (first_holds (setting_named keywords.Option ts)
      (first_holds (declared_named ts)
      (first_holds (block_named keywords.Service ts) (block_named keywords.Extend ts)))))

  oneof_named : (ts : List Token) → AreNamed (oneof_at text ts)
  unfolding oneof_at
  oneof_named ts = then_holds _ (λ a. then_holds _ (λ y. closed_named lines.Passed y.1 tt))

  abbrev IsNamed : Token → Type 0
  IsNamed t = is_name (text t) ≡ true

  name_named : (ts : List Token) → Holds (name_at text ts) (λ x. IsNamed x.0)
  unfolding name_at
  name_named ts = then_holds _ (λ x. guard_told (is_name (text x.0)) (λ e. some_holds (λ y. IsNamed y.0) x e))

  member_named : (ts : List Token) → Holds (member_at text ts) (λ x. is_name (text x.0.name) ≡ true)
  unfolding member_at
  member_named ts = bind_holds (name_named ts) (λ x p. then_holds _ (λ a. then_holds _ (λ n. then_holds _ (λ b.
      some_holds (λ (y : Member × List Token). is_name (text y.0.name) ≡ true)
      (record { name = x.0; number = n.0 }, b) p))))

  group_named : (ts : List Token) → AreNamed (group_at text ts)
  unfolding group_at
  group_named ts = then_holds _ (λ a. then_holds _ (λ y. closed_named (lines.Unread y.0) y.1 tt))

  map_named : (ts : List Token) → AreNamed (map_at text ts)
  unfolding map_at
  map_named ts = then_holds _ (λ a. then_holds _ (λ y. ended_named (lines.Unread y.0) y.1 tt))

  field_named : (repeated : Bool) (ts : List Token) → AreNamed (field_at text repeated ts)
  unfolding field_at
  field_named repeated ts = then_holds _ (λ w. bind_holds (member_named w.1) (λ x p.
      ended_named (lines.Field (record { repeated = repeated; word = w.0; member = x.0 })) x.1 p))

  members_named : (ts : List Token) → AreNamed (members_at text ts)
  unfolding members_at any_group_at labelled_group_at any_field_at labelled_field_at
  members_named ts =
      first_holds (first_holds (then_holds _ (λ x. group_named x.1)) (group_named ts))
      (first_holds (map_named ts) (first_holds (then_holds _ (λ x. field_named x.0 x.1)) (field_named false ts)))

  part_named : (ts : List Token) → AreNamed (part_at text ts)
  unfolding part_at settings_at others_at
  part_named ts =
      first_holds (ended_named lines.Passed ts tt)
      (first_holds (declared_named ts)
      (first_holds (first_holds (setting_named keywords.Option ts)
      (first_holds (setting_named keywords.Reserved ts) (setting_named keywords.Extensions ts)))
      (first_holds (block_named keywords.Extend ts) (first_holds (oneof_named ts) (members_named ts)))))

  inner_named : (ts : List Token) → AreNamed (inner_at text ts)
  unfolding inner_at end_at
  inner_named ts =
      first_holds (part_named ts) (then_holds _ (λ rest. some_holds (λ x. IsNamedLine x.0) (lines.End, rest) tt))

  line_named : (depth : ℕ) (ts : List Token) → AreNamed (line_at text depth ts)
  unfolding line_at
  line_named zero ts = item_named ts
  line_named (suc depth) ts = inner_named ts

  -- the fields of all lines have names
  abbrev pub AllNamed : List Line → Type 0
  AllNamed [] = Unit {0}
  AllNamed (line ∷ more) = IsNamedLine line × AllNamed more

  pub lines_named : (depth end : ℕ) (all : List Line) (ts rest : List Token)
      → Reads text depth all ts end rest → AllNamed all
  unfolding Reads
  lines_named depth end [] ts rest r = tt
  lines_named depth end (line ∷ more) ts rest r =
      ((line_named depth ts).holds (line, r.0) r.1, lines_named (depth_after line depth) end more r.0 rest r.2)
