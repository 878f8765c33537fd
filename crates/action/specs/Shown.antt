-- Values and verdicts as they are printed, this project's own: docs/SEMANTICS.md, "Programs". No name of an
-- action has a byte that JSON would escape.
use Rattle.std.specs.Prelude.{ℕ, Bool, true, false, if◌then◌else◌, List, ◌++◌, codes}
use Rattle.std.specs.Fmt.{decimal}
use Rattle.action.specs.Errnos.{shown_errno}
use Rattle.action.specs.Verdict.{name_of, verdict_of}
use Rattle.action.specs.declared.action.Action.{Action}
use Rattle.action.specs.declared.action.Action.TheVariants.{Errno}
use Rattle.action.specs.declared.verdict.Verdict.{Verdict}

-- the action and its data
abbrev pub verdict_text : Verdict → List ℕ
verdict_text verdict = name_of verdict.action ++ (codes " " ++ decimal verdict.ret_data)

abbrev pub is_errno : Action → Bool
is_errno Errno = true
is_errno action = false

-- the same with the name of an errno, if it has one
abbrev pub named_text : Verdict → List ℕ
named_text verdict =
    if is_errno verdict.action then codes "ERRNO " ++ shown_errno verdict.ret_data else verdict_text verdict

unfoldable pub value_text : ℕ → List ℕ
value_text value = named_text (verdict_of value)

-- a value, its action and its data, as members of an object
abbrev pub value_members : ℕ → List ℕ
value_members value =
    codes "\"value\":" ++ (decimal value ++ (codes ",\"action\":\"" ++ (name_of (verdict_of value).action
    ++ (codes "\",\"data\":" ++ decimal (verdict_of value).ret_data))))

-- the same as an object
abbrev pub value_object : ℕ → List ℕ
value_object value = codes "{" ++ (value_members value ++ codes "}")
