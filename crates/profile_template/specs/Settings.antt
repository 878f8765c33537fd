-- When the conditions of a template's entry are met: as Docker and podman resolve `includes` and `excludes`.
-- An entry is included if each present condition holds, and excluded if one does.
use Rattle.std.specs.Prelude.{ℕ, ◌==◌, ◌&&◌, ◌||◌, List, length, Bool, true, false, Option, Some, None}
use Rattle.std.specs.List.{list_all, list_any}
use Rattle.std.specs.Str.{bytes_eq}
use Rattle.serde_json.specs.Data.{Data}
use Rattle.json_tree.specs.Tree.{text}
use Rattle.profile_template.specs.declared.settings.Settings.{Settings}
use Rattle.profile_template.specs.declared.version.Version.{Version}
use Rattle.profile_template.specs.Version.{is_at_least}

abbrev pub is_text : List ℕ → Option (List ℕ) → Bool
is_text word None = false
is_text word (Some found) = bytes_eq found word

abbrev pub is_word : List ℕ → Data → Bool
is_word word item = is_text word (text item)

abbrev pub has_cap : Settings → Data → Bool
has_cap settings item = list_any (λ cap. is_word cap.now item) settings.caps.now

-- whether the architecture is one of these
abbrev pub is_listed : Settings → List Data → Bool
is_listed settings arches = list_any (is_word settings.arch.now) arches

-- a kernel without a version is newer than any required one
abbrev pub is_new_enough : Bool → Option Version → Option Version → Bool
is_new_enough otherwise kernel None = otherwise
is_new_enough otherwise None (Some least) = true
is_new_enough otherwise (Some kernel) (Some least) = is_at_least kernel least

abbrev pub is_included : Settings → List Data → List Data → Option Version → Bool
is_included settings arches caps least =
    (length arches == 0 || is_listed settings arches)
    && (list_all (has_cap settings) caps && is_new_enough true settings.kernel least)

abbrev pub is_excluded : Settings → List Data → List Data → Option Version → Bool
is_excluded settings arches caps least =
    is_listed settings arches || (list_any (has_cap settings) caps
    || is_new_enough false settings.kernel least)
