-- The grammar of `.proto` files, line by line. A part of a message or of a file is read by the first form that fits.
use Rattle.std.specs.Prelude.{ℕ, zero, suc, List, [], Option, Some, Bool, true, false}
use Rattle.sz_protofile_lex.specs.declared.token.Token.{Token}
use Rattle.sz_protofile.specs.declared.line.Member.{Member}
use Rattle.sz_protofile.specs.declared.line.Line.{Line}
use Rattle.sz_protofile.specs.declared.line.Line.TheVariants as lines
use Rattle.sz_protofile.specs.declared.keyword.Keyword.{Keyword}
use Rattle.sz_protofile.specs.declared.keyword.Keyword.TheVariants as keywords
use Rattle.sz_protofile.specs.Reading.{Spelling, Read, ◌>>=◌, ◌<|>◌, after_sign, after_quoted, word_at, after_word, name_at, number_at}
use Rattle.sz_protofile.specs.Brackets.{past}

-- the line, and what follows the semicolon after it
unfoldable pub ended : Line → List Token → Read Line
ended line ts = after_sign 59 ts >>= λ rest. Some (line, rest)

-- what follows `{`, tokens in which brackets match, and `}`
unfoldable pub braced : List Token → Option (List Token)
braced ts = after_sign 123 ts >>= λ a. past false [] a >>= λ b. after_sign 125 b

-- the line, and what follows the braces after it
unfoldable pub closed : Line → List Token → Read Line
closed line ts = braced ts >>= λ rest. Some (line, rest)

-- what follows `[`, tokens in which brackets match and outside of which no semicolon stands, and `]`
unfoldable pub listed : List Token → Option (List Token)
listed ts = after_sign 91 ts >>= λ a. past true [] a >>= λ b. after_sign 93 b

-- what follows the options of a field, if there are any
unfoldable pub past_options : List Token → Option (List Token)
past_options ts = listed ts <|> Some ts

-- the end of a message
unfoldable pub end_at : List Token → Read Line
end_at ts = after_sign 125 ts >>= λ rest. Some (lines.End, rest)

module _ (text : Spelling) where
  -- ---- forms of both

  -- `message name {`
  unfoldable pub message_at : List Token → Read Line
  message_at ts = after_word text keywords.Message ts >>= λ a. name_at text a >>= λ x. after_sign 123 x.1
      >>= λ b. Some (lines.Message x.0, b)

  -- `enum name { .. }`
  unfoldable pub enum_at : List Token → Read Line
  enum_at ts = after_word text keywords.Enum ts >>= λ a. name_at text a >>= λ x. closed (lines.Enum x.0) x.1

  unfoldable pub declared_at : List Token → Read Line
  declared_at ts = message_at ts <|> enum_at ts

  -- this word, what is set, and `;`
  unfoldable pub setting_at : Keyword → List Token → Read Line
  setting_at w ts = after_word text w ts >>= λ a. past true [] a >>= λ b. ended lines.Passed b

  -- this word, a word, and `{ .. }`
  unfoldable pub block_at : Keyword → List Token → Read Line
  block_at w ts = after_word text w ts >>= λ a. word_at a >>= λ x. closed lines.Passed x.1

  -- ---- parts of a file

  -- `syntax = ".." ;`
  unfoldable pub syntax_at : List Token → Read Line
  syntax_at ts = after_word text keywords.Syntax ts >>= λ a. after_sign 61 a >>= λ b. after_quoted b
      >>= λ c. ended lines.Passed c

  -- `package word ;`
  unfoldable pub package_at : List Token → Read Line
  package_at ts = after_word text keywords.Package ts >>= λ a. word_at a >>= λ x. ended (lines.Package x.0) x.1

  -- what follows `public` or `weak`, if one of them stands there
  unfoldable pub past_manner : List Token → Option (List Token)
  past_manner ts = after_word text keywords.Public ts <|> (after_word text keywords.Weak ts <|> Some ts)

  -- `import ".." ;`
  unfoldable pub import_at : List Token → Read Line
  import_at ts = after_word text keywords.Import ts >>= λ a. past_manner a >>= λ b. after_quoted b
      >>= λ c. ended lines.Passed c

  -- `service` or `extend`, a word, and `{ .. }`
  unfoldable pub service_at : List Token → Read Line
  service_at ts = block_at keywords.Service ts <|> block_at keywords.Extend ts

  unfoldable pub header_at : List Token → Read Line
  header_at ts = syntax_at ts <|> (package_at ts <|> import_at ts)

  unfoldable pub body_at : List Token → Read Line
  body_at ts = setting_at keywords.Option ts <|> (declared_at ts <|> service_at ts)

  -- a part of a file; of a message the beginning alone
  unfoldable pub item_at : List Token → Read Line
  item_at ts = ended lines.Passed ts <|> (header_at ts <|> body_at ts)

  -- ---- parts of a message

  unfoldable pub settings_at : List Token → Read Line
  settings_at ts =
      setting_at keywords.Option ts <|> (setting_at keywords.Reserved ts <|> setting_at keywords.Extensions ts)

  -- `oneof name { .. }`
  unfoldable pub oneof_at : List Token → Read Line
  oneof_at ts = after_word text keywords.Oneof ts >>= λ a. name_at text a >>= λ x. closed lines.Passed x.1

  -- a name, `=`, its number, and options
  unfoldable pub member_at : List Token → Read Member
  member_at ts = name_at text ts >>= λ x. after_sign 61 x.1 >>= λ a. number_at text a >>= λ n.
      past_options n.1 >>= λ b. Some (record { name = x.0; number = n.0 }, b)

  -- `group`, a member, and `{ .. }`
  unfoldable pub group_at : List Token → Read Line
  group_at ts = after_word text keywords.Group ts >>= λ a. member_at a >>= λ x. closed (lines.Unread x.0) x.1

  -- what follows `map < word , word >`
  unfoldable pub past_map : List Token → Option (List Token)
  past_map ts = after_word text keywords.Map ts >>= λ a. after_sign 60 a >>= λ b. word_at b
      >>= λ x. after_sign 44 x.1 >>= λ c. word_at c >>= λ y. after_sign 62 y.1

  -- a map: that, a member, and `;`
  unfoldable pub map_at : List Token → Read Line
  map_at ts = past_map ts >>= λ a. member_at a >>= λ x. ended (lines.Unread x.0) x.1

  -- a word for a type, a member, and `;`
  unfoldable pub field_at : Bool → List Token → Read Line
  field_at repeated ts = word_at ts >>= λ w. member_at w.1
      >>= λ x. ended (lines.Field (record { repeated = repeated; word = w.0; member = x.0 })) x.1

  -- this word, for a label
  unfoldable pub label_is : Keyword → Bool → List Token → Read Bool
  label_is w repeated ts = after_word text w ts >>= λ rest. Some (repeated, rest)

  -- a label: whether it is `repeated`
  unfoldable pub label_at : List Token → Read Bool
  label_at ts = label_is keywords.Repeated true ts
      <|> (label_is keywords.Optional false ts <|> label_is keywords.Required false ts)

  unfoldable pub labelled_group_at : List Token → Read Line
  labelled_group_at ts = label_at ts >>= λ x. group_at x.1

  -- a group, with a label or without one
  unfoldable pub any_group_at : List Token → Read Line
  any_group_at ts = labelled_group_at ts <|> group_at ts

  unfoldable pub labelled_field_at : List Token → Read Line
  labelled_field_at ts = label_at ts >>= λ x. field_at x.0 x.1

  -- a field, with a label or without one
  unfoldable pub any_field_at : List Token → Read Line
  any_field_at ts = labelled_field_at ts <|> field_at false ts

  unfoldable pub members_at : List Token → Read Line
  members_at ts = any_group_at ts <|> (map_at ts <|> any_field_at ts)

  unfoldable pub others_at : List Token → Read Line
  others_at ts = block_at keywords.Extend ts <|> (oneof_at ts <|> members_at ts)

  -- a part of a message; of a message inside it the beginning alone
  unfoldable pub part_at : List Token → Read Line
  part_at ts = ended lines.Passed ts <|> (declared_at ts <|> (settings_at ts <|> others_at ts))

  -- a part of a message, or its end
  unfoldable pub inner_at : List Token → Read Line
  inner_at ts = part_at ts <|> end_at ts

  -- the line at the front, inside so many messages
  unfoldable pub line_at : ℕ → List Token → Read Line
  line_at zero ts = item_at ts
  line_at (suc depth) ts = inner_at ts
