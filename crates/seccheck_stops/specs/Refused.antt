-- A file that is refused, and why: running out of memory is reported as that, wherever it happens. The texts are
-- this project's own: docs/SEMANTICS.md, "Programs".
use Rattle.std.specs.Prelude.{◌≡◌, ℕ, List, [], Bool, true, false, ◌++◌, codes}
use Rattle.bpf_code.specs.declared.fault.CodeFault.TheVariants as code
use Rattle.bpf_verify.specs.RefusalText.{refusal_text}
use Rattle.bpf_verify.specs.declared.refusal.Refusal.{Refusal}
use Rattle.bpf_verify.specs.declared.refusal.Refusal.TheVariants.{Code, Filter}
use Rattle.compile.specs.FaultText.{fault_text as compile_fault_text}
use Rattle.compile.specs.declared.fault.CompileFault.{CompileFault}
use Rattle.compile.specs.declared.fault.CompileFault.TheVariants as compile
use Rattle.manifest.specs.Faults.{fault_text as pod_fault_text}
use Rattle.manifest.specs.declared.faults.PodFault.{PodFault}
use Rattle.manifest.specs.declared.faults.PodFault.TheVariants as pod
use Rattle.oci_profile.specs.Faults.{fault_text as profile_fault_text}
use Rattle.oci_profile.specs.declared.faults.ProfileFault.{ProfileFault}
use Rattle.oci_profile.specs.declared.faults.ProfileFault.TheVariants as profile
use Rattle.profile_template.specs.Faults.{fault_text as template_fault_text}
use Rattle.profile_template.specs.declared.faults.TemplateFault.{TemplateFault}
use Rattle.profile_template.specs.declared.faults.TemplateFault.TheVariants as template
use Rattle.script.specs.FaultText.{fault_text as script_fault_text}
use Rattle.script.specs.declared.faults.ScriptFault.{ScriptFault}
use Rattle.script.specs.declared.faults.ScriptFault.TheVariants as script
use Rattle.verdict.specs.FaultText.{fault_text as stack_fault_text}
use Rattle.verdict.specs.declared.stack.StackFault.{StackFault}
use Rattle.verdict.specs.declared.stack.StackFault.TheVariants as stack
use Rattle.seccheck_stops.specs.declared.refused.Refused.{Refused}
use Rattle.seccheck_stops.specs.declared.refused.Refused.TheVariants as refused
use Rattle.seccheck_stops.specs.declared.stop.Stop.{Stop}
use Rattle.seccheck_stops.specs.declared.stop.Stop.TheVariants as why

abbrev pub is_filter_memory : Refusal → Bool
is_filter_memory (Code code.Memory) = true
is_filter_memory _ = false

abbrev pub is_stack_memory : StackFault → Bool
is_stack_memory stack.Memory = true
is_stack_memory _ = false

abbrev pub is_profile_memory : ProfileFault → Bool
is_profile_memory profile.Memory = true
is_profile_memory _ = false

abbrev pub is_compile_memory : CompileFault → Bool
is_compile_memory compile.Memory = true
is_compile_memory _ = false

abbrev pub is_template_memory : TemplateFault → Bool
is_template_memory (template.Profile profile.Memory) = true
is_template_memory _ = false

abbrev pub is_pod_memory : PodFault → Bool
is_pod_memory pod.Memory = true
is_pod_memory _ = false

abbrev pub is_script_memory : ScriptFault → Bool
is_script_memory script.Memory = true
is_script_memory _ = false

-- whether memory ran out
abbrev pub is_out_of_memory : Refused → Bool
is_out_of_memory (refused.Filter refusal) = is_filter_memory refusal
is_out_of_memory (refused.StackFilter refusal) = is_filter_memory refusal
is_out_of_memory (refused.Stack fault) = is_stack_memory fault
is_out_of_memory (refused.Profile found) = is_profile_memory found.fault
is_out_of_memory (refused.Compile fault) = is_compile_memory fault
is_out_of_memory (refused.Template found) = is_template_memory found.fault
is_out_of_memory (refused.Manifest found) = is_pod_memory found.fault
is_out_of_memory (refused.Script found) = is_script_memory found.fault

-- the program ends because the file at this path, of these bytes, is refused for this
abbrev pub IsRefused : List ℕ → List ℕ → Refused → Stop → Type 0
IsRefused path bytes told (why.Refused file) =
    (file.path.now ≡ path) × (file.bytes.items ≡ bytes) × (file.refused ≡ told)
IsRefused path bytes told stop = ⊥

-- the fault's name, for a filter with its place
abbrev pub fault_of : Refused → List ℕ
fault_of (refused.Filter refusal) = refusal_text refusal
fault_of (refused.StackFilter refusal) = refusal_text refusal
fault_of (refused.Stack fault) = stack_fault_text fault
fault_of (refused.Profile found) = profile_fault_text found.fault
fault_of (refused.Compile fault) = compile_fault_text fault
fault_of (refused.Template found) = template_fault_text found.fault
fault_of (refused.Manifest found) = pod_fault_text found.fault
fault_of (refused.Script found) = script_fault_text found.fault

-- the word before the fault
abbrev pub word_before : Refused → List ℕ
word_before (refused.StackFilter refusal) = codes "filter "
word_before (refused.Stack fault) = codes "filter "
word_before (refused.Script found) = codes "script "
word_before _ = []

abbrev pub refused_text : Refused → List ℕ
refused_text told = word_before told ++ fault_of told

-- what is refused, in an object of JSON
abbrev pub kind_of : Refused → List ℕ
kind_of (refused.Filter refusal) = codes "filter"
kind_of (refused.StackFilter refusal) = codes "filter"
kind_of (refused.Stack fault) = codes "filter"
kind_of (refused.Profile found) = codes "profile"
kind_of (refused.Compile fault) = codes "profile"
kind_of (refused.Template found) = codes "template"
kind_of (refused.Manifest found) = codes "manifest"
kind_of (refused.Script found) = codes "script"
