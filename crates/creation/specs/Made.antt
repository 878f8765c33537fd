-- What a text is read as, or why it is refused, this project's own: docs/SEMANTICS.md, "The runtime".
use Rattle.std.specs.Prelude.{◌≡◌, ℕ, ◌<◌, List, Result, Ok, Err}
use Rattle.bpf_code.specs.declared.limits.TheConstants.{MAX_INSNS}
use Rattle.oci_profile.specs.declared.profile.Profile.{Profile}
use Rattle.oci_profile.specs.Meaning.{weight}
use Rattle.oci_profile.specs.Profile.{ReadsProfileWith}
use Rattle.oci_profile.specs.RuntimeDefault.{runtime_default}
use Rattle.script.specs.declared.scripts.Step.{Step}
use Rattle.script.specs.Script.{ReadsScriptWith}
use Rattle.sys_table.specs.declared.calls.CallTable.{CallTable}
use Rattle.cri_msgs.specs.declared.refusals.Refusal.{Refusal}
use Rattle.cri_msgs.specs.declared.refusals.Refusal.TheVariants.{InvalidArgument}
use Rattle.runtime_cell.specs.Cell.{GivesMeaning}
use Rattle.creation.specs.declared.texts.CompiledProfile.{CompiledProfile}

-- the bytes of a file, and the calls that its reader knows
pub record FileText : Type 0 where
  pub calls : CallTable
  pub bytes : List ℕ

-- the file's text is this script, or this profile
abbrev pub IsScriptOf : FileText → List Step → Type 0
IsScriptOf text script = ReadsScriptWith text.calls text.bytes script

abbrev pub IsProfileOf : FileText → Profile → Type 0
IsProfileOf text profile = ReadsProfileWith text.calls text.bytes profile

-- why there is no script
abbrev pub LacksScript : Result FileText Refusal → Refusal → Type 0
LacksScript (Err why) refusal = refusal ≡ why
LacksScript (Ok text) refusal = ((script : List Step) → IsScriptOf text script → ⊥)
    × (refusal ≡ InvalidArgument)

-- why there is no profile that can be compiled
abbrev pub LacksIn : Result FileText Refusal → Refusal → Type 0
LacksIn (Err why) refusal = refusal ≡ why
LacksIn (Ok text) refusal = ((profile : Profile) → IsProfileOf text profile → MAX_INSNS < weight profile)
    × (refusal ≡ InvalidArgument)

-- on every call the filter returns the profile's value
abbrev pub IsCompiled : CompiledProfile → Type 0
IsCompiled compiled = GivesMeaning compiled.filter compiled.profile

-- the profile of a file's text, and its filter
abbrev pub IsCompiledOf : FileText → CompiledProfile → Type 0
IsCompiledOf text compiled = IsProfileOf text compiled.profile × IsCompiled compiled

-- the result of reading a file's text
abbrev pub IsReading : {T : Type 0} → (FileText → T → Type 0) → (Result FileText Refusal → Refusal → Type 0)
    → FileText → Result T Refusal → Type 0
IsReading is_of lacks text (Ok value) = is_of text value
IsReading is_of lacks text (Err refusal) = lacks (Ok text) refusal

-- RuntimeDefault and its filter
abbrev pub IsDefault : CompiledProfile → Type 0
IsDefault compiled = (compiled.profile ≡ runtime_default) × IsCompiled compiled
