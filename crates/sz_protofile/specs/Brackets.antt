-- Parts of a file that are passed over: tokens in which brackets match.
use Rattle.std.specs.Prelude.{ℕ, ◌-◌, List, [], ◌∷◌, ◌++◌, length, take, slice_get, Option, Some, None, Bool, ◌==◌, ◌||◌, ◌&&◌, if◌then◌else◌}
use Rattle.sz_protofile_lex.specs.declared.token.Token.{Token}
use Rattle.sz_protofile_lex.specs.declared.token.Kind.{Kind}
use Rattle.sz_protofile_lex.specs.declared.token.Kind.TheVariants as kinds
use Rattle.sz_protofile.specs.declared.brackets.Turn.{Turn}
use Rattle.sz_protofile.specs.declared.brackets.Turn.TheVariants as turns

-- a closing bracket: ) ] or }
abbrev pub is_closing : ℕ → Bool
is_closing b = b == 41 || b == 93 || b == 125

-- what a sign that isn't the bracket due does: an opening bracket makes its closing one due
abbrev pub opens : ℕ → Turn
opens b = if b == 40 then turns.Open 41
    else (if b == 91 then turns.Open 93 else (if b == 123 then turns.Open 125 else turns.Pass))

-- what a sign does where this closing bracket is due, or none; a semicolon outside brackets ends what is passed over,
-- if that is asked
abbrev pub sign_turn : Bool → Option ℕ → ℕ → Turn
sign_turn ends None b = if is_closing b || (ends && b == 59) then turns.Stop else opens b
sign_turn ends (Some due) b = if b == due then turns.Close else (if is_closing b then turns.Fail else opens b)

-- what a token does; only signs do anything
abbrev pub turn_of : Bool → Option ℕ → Kind → Turn
turn_of ends due (kinds.Sign b) = sign_turn ends due b
turn_of ends due _ = turns.Pass

-- the innermost of the closing brackets that are due, which is the last
abbrev pub innermost : List ℕ → Option ℕ
innermost due = slice_get due (length due - 1)

-- the others
abbrev pub outer : List ℕ → List ℕ
outer due = take (length due - 1) due

-- nothing is left where brackets are due at the end
abbrev pub at_end : List ℕ → Option (List Token)
at_end [] = Some []
at_end (d ∷ ds) = None

-- what this token leaves, with the tokens after it
abbrev pub taken : Turn → List ℕ → Token → List Token → (List ℕ → Option (List Token)) → Option (List Token)
taken turns.Stop due t ts go = Some (t ∷ ts)
taken turns.Pass due t ts go = go due
taken (turns.Open d) due t ts go = go (due ++ d ∷ [])
taken turns.Close due t ts go = go (outer due)
taken turns.Fail due t ts go = None

-- what is left after the longest row of tokens in which brackets match, and outside of which no semicolon stands if
-- that is asked, where these closing brackets are due, the innermost last
unfoldable pub past : Bool → List ℕ → List Token → Option (List Token)
past ends due [] = at_end due
past ends due (t ∷ ts) = taken (turn_of ends (innermost due) t.kind) due t ts (λ ds. past ends ds ts)
