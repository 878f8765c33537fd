-- What is printed of a hint: this project's own, docs/SEMANTICS.md, "What a refused file seems to be".
use Rattle.std.specs.Prelude.{ℕ, List, [], ◌++◌, codes, Option, Some, None}
use Rattle.wrong_files.specs.declared.hint.Hint.{Hint}
use Rattle.wrong_files.specs.declared.hint.Hint.TheVariants.{ByteOrderMark, Filter, Config, Documents}
use Rattle.wrong_files.specs.declared.hint.Hint.TheVariants.{Manifest, Profile, Script, Uncompiled, Base64}

abbrev pub hint_text : Hint → List ℕ
hint_text ByteOrderMark = codes "(begins with a byte order mark: remove it)"
hint_text Filter = codes "(a filter? see seccheck show)"
hint_text Config = codes "(an OCI config.json? give linux.seccomp of it: jq .linux.seccomp)"
hint_text Documents = codes "(several documents? give one)"
hint_text Manifest = codes "(a manifest?)"
hint_text Profile = codes "(a profile?)"
hint_text Script = codes "(a script?)"
hint_text Uncompiled = codes "(a profile? see seccheck compile)"
hint_text Base64 = codes "(Base64? decode it: base64 -d)"

-- the hint after a line's text, if there is one
abbrev pub hint_after : Option Hint → List ℕ
hint_after None = []
hint_after (Some hint) = codes " " ++ hint_text hint
