-- The words for advice, this project's own: docs/SEMANTICS.md, "What lint reports".
use Rattle.std.specs.Prelude.{ℕ, ◌==◌, Bool, if◌then◌else◌, List, [], ◌∷◌, ◌++◌, codes, unwrap_or}
use Rattle.std.specs.List.{list_any}
use Rattle.std.specs.Fmt.{decimal}
use Rattle.sys_table.specs.SysTable.{name_in}
use Rattle.sys_table.specs.declared.calls.CallTable.{CallTable}
use Rattle.sys_table.specs.declared.calls.CallTable.TheVariants.{Linux6_12}
use Rattle.action.specs.Shown.{value_object, value_text}
use Rattle.call_names.specs.Words.{call_members, words_text}
use Rattle.call_data.specs.declared.sys_call.SysCall.{SysCall}
use Rattle.profile_advice.specs.declared.kind.Advice.{Advice}
use Rattle.profile_advice.specs.declared.kind.Advice.TheVariants as about

-- the name of a call, and nothing if there is none
unfoldable pub call_name : ℕ → List ℕ
call_name number = unwrap_or (name_in Linux6_12 number) []

abbrev pub is_among : List ℕ → ℕ → Bool
is_among numbers number = list_any (λ one. one == number) numbers

-- what a powerful call can do: section 2 of the manual
unfoldable pub reason_of : ℕ → List ℕ
reason_of number =
    if is_among (101 ∷ 310 ∷ 311 ∷ 438 ∷ []) number then codes "reaches into other processes"
    else if is_among (155 ∷ 165 ∷ 166 ∷ 428 ∷ 429 ∷ 430 ∷ 432 ∷ []) number then codes "changes mounts"
    else if is_among (272 ∷ 308 ∷ []) number then codes "makes or enters namespaces"
    else if is_among (175 ∷ 176 ∷ 313 ∷ 321 ∷ []) number then codes "changes the code of the kernel"
    else if is_among (248 ∷ 249 ∷ 250 ∷ []) number then codes "reaches keys that containers share"
    else if is_among (425 ∷ []) number then codes "makes calls that no filter sees"
    else if is_among (323 ∷ []) number then codes "holds up the kernel in the middle of a call"
    else if is_among (304 ∷ []) number then codes "opens files outside of the container"
    else if is_among (103 ∷ 298 ∷ []) number then codes "watches the kernel"
    else codes "changes the machine"

abbrev pub entry_place : ℕ → List ℕ
entry_place place = codes "syscalls[" ++ (decimal place ++ codes "]")

abbrev pub cond_place : ℕ → ℕ → List ℕ
cond_place place at = codes "syscalls[" ++ (decimal place ++ (codes "].args[" ++ (decimal at ++ codes "]")))

unfoldable pub advice_place : Advice → List ℕ
advice_place (about.AlwaysHolds place at) = cond_place place at
advice_place (about.UnusedValue place at) = cond_place place at
advice_place (about.NoArgument place at number) = cond_place place at
advice_place (about.WideArgument place at call here cut) = cond_place place at
advice_place (about.UnknownErrno place code) = entry_place place
advice_place (about.UnknownDefaultErrno code) = codes "defaultErrnoRet"
advice_place (about.ShadowedName place number earlier) = entry_place place
advice_place (about.RepeatedName place number earlier) = entry_place place
advice_place (about.Bypass number call) = codes "syscalls"
advice_place (about.Powerful number) = codes "syscalls"

unfoldable pub other_words : CallTable → SysCall → List ℕ
other_words calls call = words_text calls call ++ codes ", which can do the same, is allowed"

abbrev pub errno_words : ℕ → List ℕ
errno_words code = codes "Linux has no errno " ++ decimal code

unfoldable pub advice_words : CallTable → Advice → List ℕ
advice_words calls (about.AlwaysHolds place at) = codes "it holds for every argument"
advice_words calls (about.UnusedValue place at) = codes "only SCMP_CMP_MASKED_EQ reads valueTwo"
advice_words calls (about.NoArgument place at number) = call_name number ++ codes " has no such argument"
advice_words calls (about.WideArgument place at call here cut) = codes "at " ++ (words_text calls call ++ (codes ": "
    ++ (value_text here ++ (codes ", but " ++ (value_text cut
    ++ codes " without the upper 32 bits, which the kernel does not read")))))
advice_words calls (about.UnknownErrno place code) = errno_words code
advice_words calls (about.UnknownDefaultErrno code) = errno_words code
advice_words calls (about.ShadowedName place number earlier) = entry_place earlier
    ++ (codes " decides " ++ (call_name number ++ codes " differently"))
advice_words calls (about.RepeatedName place number earlier) = entry_place earlier
    ++ (codes " decides " ++ (call_name number ++ codes " the same way"))
advice_words calls (about.Bypass number call) = call_name number ++ (codes " is denied, but " ++ other_words calls call)
advice_words calls (about.Powerful number) = call_name number ++ (codes " is allowed, and " ++ reason_of number)

abbrev pub number_members : ℕ → List ℕ
number_members number = codes ",\"call\":" ++ decimal number

abbrev pub errno_members : ℕ → List ℕ
errno_members code = codes ",\"errno\":" ++ decimal code

abbrev pub earlier_members : ℕ → ℕ → List ℕ
earlier_members number earlier = codes ",\"call\":" ++ (decimal number
    ++ (codes ",\"other\":\"syscalls[" ++ (decimal earlier ++ codes "]\"")))

unfoldable pub advice_members : Advice → List ℕ
advice_members (about.AlwaysHolds place at) = []
advice_members (about.UnusedValue place at) = []
advice_members (about.NoArgument place at number) = number_members number
advice_members (about.WideArgument place at call here cut) = codes "," ++ (call_members call
    ++ (codes ",\"here\":" ++ (value_object here ++ (codes ",\"cut\":" ++ value_object cut))))
advice_members (about.UnknownErrno place code) = errno_members code
advice_members (about.UnknownDefaultErrno code) = errno_members code
advice_members (about.ShadowedName place number earlier) = earlier_members number earlier
advice_members (about.RepeatedName place number earlier) = earlier_members number earlier
advice_members (about.Bypass number call) = codes ",\"denied\":" ++ (decimal number
    ++ (codes "," ++ call_members call))
advice_members (about.Powerful number) = number_members number
