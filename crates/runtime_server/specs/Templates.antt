-- The report on a template that a runtime is given as a profile, this project's own: docs/SEMANTICS.md,
-- "Programs".
use Rattle.std.specs.Prelude.{ℕ, nat_lt, Bool, ◌&&◌, if◌then◌else◌, List, ◌++◌, codes, length, string_bytes}
use Rattle.std.specs.Prelude.{Option, Some, None, option_map}
use Rattle.std.specs.Prelude.{Result, Ok}
use Rattle.std.specs.List.{list_any}
use Rattle.std.specs.Str.{bytes_eq}
use Rattle.cri_msgs.specs.declared.calls.Call.{Call}
use Rattle.cri_msgs.specs.declared.calls.Call.TheVariants.{CreateContainer}
use Rattle.creation.specs.Made.{FileText}
use Rattle.fault_notes.specs.Paths.{shown_path}
use Rattle.manifest.specs.declared.profiles.SeccompProfile.TheVariants.{Localhost}
use Rattle.node_io.specs.declared.faults.FileFault.{FileFault}
use Rattle.oci_profile.specs.declared.reader.TheConstants.{MAX_PROFILE_BYTES}
use Rattle.profile_template.specs.Signs.{sign_in_text, sign_text}
use Rattle.profile_template.specs.declared.signs.TemplateSign.{TemplateSign}
use Rattle.runtime_server.specs.declared.templates.SeenProfile.{SeenProfile}

abbrev pub is_text : List ℕ → List ℕ → SeenProfile → Bool
is_text path bytes profile = bytes_eq (string_bytes profile.path) path && bytes_eq profile.bytes.items bytes

-- whether this profile is remembered
abbrev pub is_known : List ℕ → List ℕ → List SeenProfile → Bool
is_known path bytes profiles = list_any (is_text path bytes) profiles

abbrev pub line_on : List ℕ → TemplateSign → List ℕ
line_on path sign = codes "profile " ++ (shown_path path ++ (codes ": " ++ sign_text sign))

-- the line on a profile that is a template; a text that is too large for a profile has none
abbrev pub profile_line : List ℕ → List ℕ → Option (List ℕ)
profile_line path bytes =
    if nat_lt MAX_PROFILE_BYTES (length bytes) then None else option_map (line_on path) (sign_in_text bytes)

-- the profile that a request names, and the bytes of its file
abbrev pub given_profile : Call → Option (Result FileText FileFault) → Option (List ℕ × List ℕ)
given_profile (CreateContainer key image (Localhost path)) (Some (Ok text)) = Some (path, text.bytes)
given_profile call answer = None
