-- The files that commands read, and the lines on what a profile or a manifest has without effect: this project's own,
-- docs/SEMANTICS.md, "Programs".
use Rattle.std.specs.Prelude.{ℕ, List, [], ◌++◌, codes, flat_map, if◌then◌else◌, Option, Some, None}
use Rattle.std.specs.Str.{bytes_eq}
use Rattle.manifest_advice.specs.Words.{advice_texts}
use Rattle.profile_template.specs.Signs.{sign_in_text, sign_text}
use Rattle.profile_template.specs.declared.signs.TemplateSign.{TemplateSign}
use Rattle.seccheck_stops.specs.NoteText.{file_line}

-- the path that is opened for a file's name
abbrev pub opened : List ℕ → List ℕ
opened name = if bytes_eq name (codes "-") then codes "/dev/stdin" else name

abbrev pub line_on : List ℕ → Option TemplateSign → List ℕ
line_on path None = []
line_on path (Some sign) = file_line path (codes ": " ++ sign_text sign)

-- the line on the text of a profile that is a template
abbrev pub template_line : List ℕ → List ℕ → List ℕ
template_line path bytes = line_on path (sign_in_text bytes)

abbrev pub manifest_line : List ℕ → List ℕ → List ℕ
manifest_line path text = file_line path (codes ": " ++ text)

-- the lines on what of a manifest has no effect
abbrev pub manifest_lines : List ℕ → List ℕ → List ℕ
manifest_lines path bytes = flat_map (manifest_line path) (advice_texts bytes)
