-- The words by which the parts of a file are known.
use Rattle.std.specs.Prelude.{ℕ, List, codes}
use Rattle.sz_protofile.specs.declared.keyword.Keyword.{Keyword}
use Rattle.sz_protofile.specs.declared.keyword.Keyword.TheVariants as keywords

-- how a word is spelled
abbrev pub keyword_text : Keyword → List ℕ
keyword_text keywords.Syntax = codes "syntax"
keyword_text keywords.Package = codes "package"
keyword_text keywords.Import = codes "import"
keyword_text keywords.Public = codes "public"
keyword_text keywords.Weak = codes "weak"
keyword_text keywords.Option = codes "option"
keyword_text keywords.Message = codes "message"
keyword_text keywords.Enum = codes "enum"
keyword_text keywords.Service = codes "service"
keyword_text keywords.Extend = codes "extend"
keyword_text keywords.Reserved = codes "reserved"
keyword_text keywords.Extensions = codes "extensions"
keyword_text keywords.Oneof = codes "oneof"
keyword_text keywords.Group = codes "group"
keyword_text keywords.Map = codes "map"
keyword_text keywords.Optional = codes "optional"
keyword_text keywords.Required = codes "required"
keyword_text keywords.Repeated = codes "repeated"
