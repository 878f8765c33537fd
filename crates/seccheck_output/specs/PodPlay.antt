-- The output for the played containers of a pod, this project's own: docs/SEMANTICS.md, "Programs".
use Rattle.std.specs.Prelude.{ℕ, List, ◌++◌, codes, Option, Some, None}
use Rattle.std.specs.Fmt.{decimal}
use Rattle.action.specs.Shown.{value_text}
use Rattle.action.specs.Verdict.{name_of, value_of}
use Rattle.call_names.specs.Text.{call_text}
use Rattle.explain.specs.Text.{decider_text}
use Rattle.explain.specs.declared.explanation.Decider.{Decider}
use Rattle.manifest.specs.declared.profiles.SeccompProfile.{SeccompProfile}
use Rattle.seccheck_output.specs.declared.pod_play.DeniedCall.{DeniedCall}
use Rattle.seccheck_output.specs.ListObjects.{call_value, profile_members}
use Rattle.seccheck_output.specs.PickText.{profile_text}

-- the part of the profile that denied a call, or that it was not the profile
abbrev pub by_text : Option Decider → List ℕ
by_text None = codes "another filter"
by_text (Some decider) = decider_text decider

-- a container, its profile and its exit code
abbrev pub ended_text : List ℕ → SeccompProfile → ℕ → List ℕ
ended_text name profile code = name ++ (codes " " ++ profile_text profile) ++ (codes " exit "
    ++ (decimal code ++ codes "\n"))

abbrev pub ended_object : List ℕ → SeccompProfile → ℕ → List ℕ
ended_object name profile code = codes "{\"container\":\"" ++ (name ++ (codes "\",\"profile\":"
    ++ (profile_members profile ++ (codes ",\"exit\":" ++ (decimal code ++ codes "}\n")))))

-- its step's place, the call, the verdict, and what denied it
abbrev pub denied_text : DeniedCall → List ℕ
denied_text denied =
    codes "  " ++ (decimal denied.place ++ (codes " " ++ (call_text denied.naming denied.entry.call.nr
    ++ (codes " " ++ (value_text (value_of denied.entry.verdict) ++ (codes " by "
    ++ (by_text denied.by ++ codes "\n")))))))

abbrev pub place_members : List ℕ → DeniedCall → List ℕ
place_members name denied =
    codes "\"container\":\"" ++ (name ++ (codes "\",\"place\":" ++ (decimal denied.place
    ++ (codes ",\"call\":" ++ call_value denied.naming denied.entry.call.nr))))

abbrev pub denied_object : List ℕ → DeniedCall → List ℕ
denied_object name denied =
    codes "{" ++ (place_members name denied ++ (codes ",\"action\":\"" ++ (name_of denied.entry.verdict.action
    ++ (codes "\",\"data\":" ++ (decimal denied.entry.verdict.ret_data ++ (codes ",\"by\":\""
    ++ (by_text denied.by ++ codes "\"}\n")))))))
