-- Laws of the values of messages.
use Rattle.std.specs.Prelude.{◌≡◌, ℕ, List, true, IfSome}
use Rattle.sz_types.specs.Data.{Shape}
use Rattle.sz_types.specs.Types.{has_type}
use Rattle.sz_proto.specs.Messages.{decoded}

-- the value that bytes are by a type has this type
abbrev pub HaveTheirType : Type 0
HaveTheirType = (type : Shape) (bytes : List ℕ) → IfSome (decoded type bytes) (λ d. has_type d type ≡ true)
