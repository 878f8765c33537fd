-- The names of errnos: errno(3), with the numbers of asm-generic/errno.h, which are those of x86-64.
use Rattle.std.specs.Prelude.{ℕ, List, [], ◌∷◌, ◌++◌, codes, map, position, slice_index_or}
use Rattle.std.specs.Prelude.{if◌then◌else◌, Option, Some, None}
use Rattle.std.specs.Fmt.{decimal}
use Rattle.std.specs.Str.{bytes_eq}
use Rattle.action.specs.declared.errnos.TheConstants.{ERRNOS}

-- some have two names
abbrev pub alias_of : List ℕ → List ℕ
alias_of name =
    if bytes_eq name (codes "EWOULDBLOCK") then codes "EAGAIN"
    else if bytes_eq name (codes "EDEADLOCK") then codes "EDEADLK"
    else if bytes_eq name (codes "ENOTSUP") then codes "EOPNOTSUPP"
    else name

-- the name of each errno at its number, and an empty text if no errno has the number
unfoldable pub errnos : List (List ℕ)
errnos = map (λ name. name.now) ERRNOS

unfoldable pub place_of : List ℕ → Option ℕ
place_of name = position (λ known. bytes_eq known name) errnos

-- no errno has an empty name
abbrev pub errno_number : List ℕ → Option ℕ
errno_number [] = None
errno_number (c ∷ cs) = place_of (alias_of (c ∷ cs))

abbrev pub named : List ℕ → Option (List ℕ)
named [] = None
named (c ∷ cs) = Some (c ∷ cs)

abbrev pub errno_text : ℕ → List ℕ
errno_text code = slice_index_or errnos code []

unfoldable pub errno_name : ℕ → Option (List ℕ)
errno_name code = named (errno_text code)

abbrev pub with_name : ℕ → Option (List ℕ) → List ℕ
with_name code None = decimal code
with_name code (Some name) = decimal code ++ (codes " (" ++ (name ++ codes ")"))

-- an errno as it is printed: its number, and its name if it has one
abbrev pub shown_errno : ℕ → List ℕ
shown_errno code = with_name code (errno_name code)
